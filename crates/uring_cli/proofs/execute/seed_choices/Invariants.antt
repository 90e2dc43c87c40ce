use Rattle.std.proofs.Common.{◌≡◌, ◌≤◌, ℕ, List, [], ◌++◌}
use Rattle.std.specs.Prelude.{IfSome}
use Rattle.uring_cli.specs.Seeds.{IsSeeded}
use Rattle.uring_cli.proofs.execute.seed_choices.Given as goal

-- the first few are in, and the others are left
abbrev pub invariant-loop-choice : goal.invariant-loop-choice
invariant-loop-choice g l = record {
  front : (front : List ℕ) × (l.fn.choices.items ≡ front ++ l.choice-iterator.rest.items) × IsSeeded g.P.Partner.put g.P.Partner.log g.P.Partner.state g.P.Partner.plan [] front l.fn.partner l.partner;
  faults : g.P.Counts.faults l.fn.partner ≤ g.P.Counts.faults l.partner;
  calm : IfSome (g.P.Partner.state l.fn.partner) (λ _. g.P.Counts.faults l.partner ≡ g.P.Counts.faults l.fn.partner);
}

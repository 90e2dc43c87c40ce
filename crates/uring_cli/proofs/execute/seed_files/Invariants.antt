use Rattle.std.proofs.Common.{◌≡◌, ◌≤◌, List, [], ◌++◌}
use Rattle.std.specs.Prelude.{IfSome}
use Rattle.uring_text.specs.declared.script.Seed.{Seed}
use Rattle.uring_cli.specs.Seeds.{IsSeeded}
use Rattle.uring_cli.proofs.execute.seed_files.Given as goal

-- the first few are in, and the others are left
abbrev pub invariant-loop-seed : goal.invariant-loop-seed
invariant-loop-seed g l = record {
  front : (front : List Seed) × (l.fn.files.items ≡ front ++ l.seed-iterator.rest.items) × IsSeeded g.P.Partner.put g.P.Partner.log g.P.Partner.state g.P.Partner.plan front [] l.fn.partner l.partner;
  faults : g.P.Counts.faults l.fn.partner ≤ g.P.Counts.faults l.partner;
  calm : IfSome (g.P.Partner.state l.fn.partner) (λ _. g.P.Counts.faults l.partner ≡ g.P.Counts.faults l.fn.partner);
}

use Rattle.std.proofs.Common.{ℕ, ◌≡◌, ◌≤◌, true, arith, refl, sym, subst, ◌∙◌}
use Rattle.ring_core.specs.Positions.{is_ring_size}
use Rattle.ring_setup.proofs.SizeLemmas.{rounded_size, rounded_small, in_range_within, bad_completions, fewer_completions, enough_completions}
use Rattle.ring_setup.proofs.settings.Settings.sized.Goals as goal

pub returns-then-not-in_range-clause-err : goal.returns-then-not-in_range-clause-err
returns-then-not-in_range-clause-err c = (bad_completions c.args.entries c.args.completions c.requires (sym c.in_range.ensures ∙ c.if-not-in_range.true), refl)

pub rounded_up-sq_entries-requires : goal.rounded_up-sq_entries-requires
rounded_up-sq_entries-requires c = let within = in_range_within c.args.entries 32768 c.requires in omega (arith, within.1)

pub rounded_up-cq_entries-requires : goal.rounded_up-cq_entries-requires
rounded_up-cq_entries-requires c = let within = in_range_within c.args.completions 65536 (sym c.in_range.ensures ∙ c.if-not-in_range.false) in within.1

pub returns-then-cq_entries-sq_entries-clause-err : goal.returns-then-cq_entries-sq_entries-clause-err
returns-then-cq_entries-sq_entries-clause-err c = (
  fewer_completions c.args.entries c.args.completions _ _ c.requires (sym c.in_range.ensures ∙ c.if-not-in_range.false) c.rounded_up-sq_entries.ensures c.rounded_up-cq_entries.ensures c.if-cq_entries-sq_entries.true,
  refl,
)

pub returns-clause-ok : goal.returns-clause-ok
returns-clause-ok c = (
  enough_completions c.args.entries c.args.completions _ _ c.requires (sym c.in_range.ensures ∙ c.if-not-in_range.false) c.rounded_up-sq_entries.ensures c.rounded_up-cq_entries.ensures c.if-cq_entries-sq_entries.false,
  λ j. record { setup = c.setup_word.ensures j; features = c.args.self.now.features; sq_entries = c.rounded_up-sq_entries.ensures j; sq_thread_idle = c.args.self.now.sq_thread_idle; cq_entries = c.rounded_up-cq_entries.ensures j },
)

pub returns-clause-sizes : goal.returns-clause-sizes
returns-clause-sizes c =
    let within = in_range_within c.args.entries 32768 c.requires in (
      subst (λ (n : ℕ). is_ring_size n ≡ true) (sym c.rounded_up-sq_entries.ensures) (rounded_size c.args.entries),
      subst (λ (n : ℕ). is_ring_size n ≡ true) (sym c.rounded_up-cq_entries.ensures) (rounded_size c.args.completions),
      subst (λ (n : ℕ). n ≤ 32768) (sym c.rounded_up-sq_entries.ensures) (rounded_small c.args.entries within.1),
    )

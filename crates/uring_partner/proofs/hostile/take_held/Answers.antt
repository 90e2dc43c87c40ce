use Rattle.std.specs.Prelude.{option_and_then, slice_get, remove, vec_len}
use Rattle.std.specs.Option.{option_map_or}
use Rattle.std.proofs.Common.{sym, ap, ◌∙◌, rules}
use Rattle.std.proofs.lemmas.Option.{slice_get_read}
use Rattle.uring_partner.proofs.hostile.take_held.Goals as goal

pub returns-in_default-clause-loan : goal.returns-in_default-clause-loan
returns-in_default-clause-loan c = ap (option_and_then (slice_get c.args.held.now.items)) (sym c.in_default.is ∙ c.place_held.ensures.place)

pub returns-in_default-clause-held : goal.returns-in_default-clause-held
returns-in_default-clause-held c = ap (λ place. option_map_or (remove c.args.held.now.items) place c.args.held.now.items) (sym c.in_default.is ∙ c.place_held.ensures.place)

pub returns-clause-loan : goal.returns-clause-loan
returns-clause-loan c =
    sym (slice_get_read c.args.held.now.items (vec_len c.args.held.now) c.in-Some.place c.remove.result (search rules) c.in-Some.ensures.inside c.remove.ensures.value)
    ∙ ap (option_and_then (slice_get c.args.held.now.items)) (sym c.in-Some.is ∙ c.place_held.ensures.place)

pub returns-clause-held : goal.returns-clause-held
returns-clause-held c = c.remove.ensures.items ∙ ap (λ place. option_map_or (remove c.args.held.now.items) place c.args.held.now.items) (sym c.in-Some.is ∙ c.place_held.ensures.place)

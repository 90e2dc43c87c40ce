use Rattle.std.proofs.Common.{Some, is_some, sym, ap, ◌∙◌, cond}
use Rattle.std.specs.FinMap as map
use Rattle.std.specs.Option.{option_and_then}
use Rattle.slab.proofs.SlabLemmas.{Updates-with_value}
use Rattle.slab.specs.Slab.{ContainsKey, get}
use Rattle.rent_table.specs.NumberedSlab.{at, picked}
use Rattle.rent_table.proofs.Picks.{get-at}
use Rattle.rent_table.proofs.Indexed.{picked-changed, no_value}
use Rattle.rent_table.proofs.numbered_slab.NumberedSlab.exchange.Goals as goal

pub returns-in_default-clause-value : goal.returns-in_default-clause-value
returns-in_default-clause-value g c = sym (get-at (get c.self.inside.places) c.self.inside.index.entries c.args.number ∙ ap (option_and_then (get c.self.inside.places)) (sym c.in_default.ensures.value)) ∙ ap (λ t. at t c.args.number) c.self.view_is

pub returns-in_default-clause-entries : goal.returns-in_default-clause-entries
returns-in_default-clause-entries g c =
    let none = ap (λ t. at t c.args.number) (sym c.self.view_is) ∙ get-at (get c.self.inside.places) c.self.inside.index.entries c.args.number ∙ ap (option_and_then (get c.self.inside.places)) (sym c.in_default.ensures.value) in
    sym (ap (λ o. cond (is_some o) (map.insert c.args.self.now.entries c.args.number c.args.value) c.args.self.now.entries) none)

pub returns-in-Some-get_mut-clause-value : goal.returns-in-Some-get_mut-clause-value
returns-in-Some-get_mut-clause-value g c =
    ap Some c.replace.ensures.value ∙ c.in-Some-get_mut.ensures.value
    ∙ sym (get-at (get c.self.inside.places) c.self.inside.index.entries c.args.number ∙ ap (option_and_then (get c.self.inside.places)) (sym c.in-Some.ensures.value)) ∙ ap (λ t. at t c.args.number) c.self.view_is

pub returns-in-Some-get_mut-clause-entries : goal.returns-in-Some-get_mut-clause-entries
returns-in-Some-get_mut-clause-entries g c =
    let here = sym c.in-Some.ensures.value in
    let present : ContainsKey c.self.inside.places c.in-Some.field-0.now = c.self.invariant.taken c.args.number c.in-Some.field-0.now here in
    let there = ap is_some (ap (λ t. at t c.args.number) (sym c.self.view_is) ∙ get-at (get c.self.inside.places) c.self.inside.index.entries c.args.number ∙ ap (option_and_then (get c.self.inside.places)) here) ∙ present in
    ap (λ v. picked (get (Rattle.slab.specs.Slab.with_value c.self.inside.places c.in-Some.field-0.now v)) c.self.inside.index.entries) c.replace.ensures.after
    ∙ picked-changed _ _ _ c.args.number c.in-Some.field-0.now c.args.value here (Updates-with_value c.self.inside.places c.in-Some.field-0.now c.args.value present) c.self.invariant
    ∙ ap (λ t. map.insert t.entries c.args.number c.args.value) c.self.view_is
    ∙ sym (ap (λ b. cond b (map.insert c.args.self.now.entries c.args.number c.args.value) c.args.self.now.entries) there)

pub returns-clause-value : goal.returns-clause-value
returns-clause-value g c = absurd (no_value _ (sym c.in_default-get_mut.ensures.value) (c.self.invariant.taken c.args.number c.in-Some.field-0.now (sym c.in-Some.ensures.value)))

pub returns-clause-entries : goal.returns-clause-entries
returns-clause-entries g c = absurd (no_value _ (sym c.in_default-get_mut.ensures.value) (c.self.invariant.taken c.args.number c.in-Some.field-0.now (sym c.in-Some.ensures.value)))

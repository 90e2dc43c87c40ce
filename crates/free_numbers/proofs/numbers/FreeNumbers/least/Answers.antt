use Rattle.std.proofs.Common.{◌≡◌, ◌<◌, not, drop, None, sym, ap, ◌∙◌, arith, false}
use Rattle.std.specs.Prelude.{position}
use Rattle.std.proofs.lemmas.List.{get_or_read}
use Rattle.free_numbers.specs.Tree.{is_full}
use Rattle.free_numbers.proofs.ByNumber.{first_is_least, none_is_free}
use Rattle.free_numbers.proofs.Rows.{root_full, no_leaves}
use Rattle.free_numbers.proofs.numbers.FreeNumbers.least.Goals as goal
use Rattle.free_numbers.proofs.numbers.FreeNumbers.least.Goals.{then-self-eq0-via-then-self-eq0, then-self-eq0-via-else-self-eq0+then-index}

pub returns-then-self-eq0 : goal.returns-then-self-eq0
returns-then-self-eq0 c =
    let none : position not (drop c.self.inside.limit c.self.inside.full.items) ≡ None = elim c.then-self-eq0.branch [
      | then-self-eq0-via-then-self-eq0 w ↦ no_leaves c.self.inside.full.items c.self.inside.limit c.self.invariant w.if-self-eq0.true
      | then-self-eq0-via-else-self-eq0+then-index w ↦
          let some : 0 < c.self.inside.limit = omega (arith, w.if-self-eq0.false) in
          let root : w.index.result.now ≡ is_full c.self.inside.full.items 1 = get_or_read c.self.inside.full.items 1 w.index.result.now (omega (arith, c.self.invariant.long)) w.index.ensures false in
          root_full c.self.inside.full.items c.self.inside.limit c.self.invariant some (sym root ∙ w.if-index.true)
    ] in
    let now : position not c.args.self.now ≡ None = ap (position not) (sym c.self.view_is) ∙ none in
    record { value = sym now; some = tt; none = none_is_free c.args.self.now now }

pub returns-clause-some : goal.returns-clause-some
returns-clause-some c =
    let same : drop c.self.inside.limit c.deref.result.now ≡ c.args.self.now = ap (drop c.self.inside.limit) c.deref.ensures.value ∙ c.self.view_is in
    first_is_least c.args.self.now c.first_free.result (ap (position not) (sym same) ∙ c.first_free.ensures)

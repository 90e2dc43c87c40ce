use Rattle.std.proofs.Common.{◌≡◌, ◌/◌, ◌%◌, length, ap, sym, ◌∙◌, arith}
use Rattle.uring_model.proofs.Progress.{names_front, ready_some}
use Rattle.uring_partner.proofs.Bound.{free_named}
use Rattle.uring_partner.proofs.scan.chosen_place.Goals as goal

pub returns-then-half-eq0 : goal.returns-then-half-eq0
returns-then-half-eq0 c = names_front c.args.choice c.args.pending.now.items.items (omega arith) (omega (arith, c.if-half-eq0.true))

pub nonzero_rem-half : goal.nonzero_rem-half
nonzero_rem-half c = omega (arith, ready_some c.args.pending.now.items.items (omega arith), c.count_ready-count.ensures)

pub place_of_ready-requires : goal.place_of_ready-requires
place_of_ready-requires c = omega (arith, ready_some c.args.pending.now.items.items (omega arith), c.count_ready-count.ensures)

pub returns-then-pending-eq0 : goal.returns-then-pending-eq0
returns-then-pending-eq0 c =
    let whole : c.len.result ≡ length c.args.pending.now.items.items = omega (arith, c.len.ensures) in
    free_named c.args.choice _ c.args.pending.now.items.items (sym c.args.pending.now.counted ∙ c.if-pending-eq0.true) (ap (λ n. (c.args.choice / 2) % n) whole) (omega (arith, c.len.ensures, c.requires))

use Rattle.std.proofs.Common.{◌≡◌, ◌-◌, [], ◌++◌, length, arith, refl, sym, ap, ◌∙◌}
use Rattle.ring_core.proofs.PlaceLemmas.{position_start}
use Rattle.ring_shared.proofs.Sizes.{is_size}
use Rattle.ring_shared.specs.HeldSlots.{items_of}
use Rattle.ring_shared.specs.Rule.{without_taker, without_sender}
use Rattle.ring_shared.proofs.HeldSlots.{items_empty}
use Rattle.ring_shared.proofs.RuleKept.{opens, gains, splits}
use Rattle.ring_shared.proofs.Made.{made_seat, new_sender, new_taker}
use Rattle.ring_shared.proofs.CoreSteps.{opens_sender, opens_taker}
use Rattle.ring_shared.proofs.ring.SharedRing.new.Goals as goal

pub vacant-requires : goal.vacant-requires
vacant-requires g c = let w = sym (position_start c.args.start c.ranges.start.fits) in opens c.args.capacity c.args.start _ _ (is_size _ c.requires) w w

pub load-requires : goal.load-requires
load-requires g c = let t = c.in_ok-table.ensures in (t.2, omega (arith, t.0), gains _ _ _ (ap (λ z. z.0.sends) t.4))

pub split_seat-other-requires : goal.split_seat-other-requires
split_seat-other-requires g c = let t = c.in_ok-table.ensures in let o = made_seat c.args.capacity c.args.start _ _ _ t.4 c.load.ensures.2 in
    (c.load.ensures.0 ∙ t.2, omega (arith, t.0), splits _ _ (ap (λ z. z.0.takes) o))

pub invariant_of-send : goal.invariant_of-send
invariant_of-send g c = let t = c.in_ok-table.ensures in let o = made_seat c.args.capacity c.args.start _ _ _ t.4 c.load.ensures.2 in
    record { sized = sym (ap (λ i. i.slots) (c.split_seat-other.ensures.0 ∙ c.load.ensures.0 ∙ t.2) ∙ t.1); sound = new_sender c.args.capacity c.args.start (is_size _ c.requires) c.ranges.start.fits _ _ o c.split_seat-other.ensures.2 }

pub invariant_of-take : goal.invariant_of-take
invariant_of-take g c = let t = c.in_ok-table.ensures in let o = made_seat c.args.capacity c.args.start _ _ _ t.4 c.load.ensures.2 in
    record { sized = sym (ap (λ i. i.slots) (c.split_seat-other.ensures.3 ∙ c.load.ensures.0 ∙ t.2) ∙ t.1); sound = new_taker c.args.capacity c.args.start (is_size _ c.requires) c.ranges.start.fits _ _ o c.split_seat-other.ensures.4 }

pub returns-clause-sender : goal.returns-clause-sender
returns-clause-sender g c = let t = c.in_ok-table.ensures in let o = made_seat c.args.capacity c.args.start _ _ _ t.4 c.load.ensures.2 in
    let seat = c.split_seat-other.ensures.2 ∙ ap (λ z. (without_taker z.0, z.1)) o in
    let cap = c.args.capacity in (
      refl,
      ap (λ z. z.0.published ++ items_of z.1) seat ∙ items_empty c.args.capacity c.args.start 0 c.args.capacity,
      ap (λ z. length z.0.published) seat,
      ap (λ z. z.0.limit - c.args.capacity) seat ∙ (let e : c.args.capacity - c.args.capacity ≡ 0 = omega arith in e),
    )

pub returns-clause-core : goal.returns-clause-core
returns-clause-core g c = λ number. let t = c.in_ok-table.ensures in let o = made_seat c.args.capacity c.args.start _ _ _ t.4 c.load.ensures.2 in
    let sender = returns-clause-sender g c in let seat = c.split_seat-other.ensures.4 ∙ ap (λ z. (without_sender z.0, [])) o in (
      opens_sender number c.args.capacity _ sender.0 sender.1 sender.2 sender.3,
      opens_taker number c.args.capacity _ refl (ap (λ z. z.0.seen) seat) (ap (λ z. length z.0.seen - length (items_of z.1)) seat) (ap (λ z. z.0.head) seat),
    )

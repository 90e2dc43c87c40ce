use Rattle.std.proofs.Common.{arith, sym, ap, ◌∙◌, subst}
use Rattle.ring_core.proofs.PlaceLemmas.{position_start}
use Rattle.ring_shared.proofs.Sizes.{is_size}
use Rattle.ring_shared.specs.LocalSound.{LocalIsSound}
use Rattle.ring_shared.proofs.RuleKept.{gains, opens}
use Rattle.ring_shared.proofs.Made.{made_seat}
use Rattle.ring_shared.proofs.LocalKept.{holds_of, new_on}
use Rattle.ring_shared.specs.LocalHeld.{local_held, local_held_by}
use Rattle.ring_shared.proofs.LocalShown.{shown, opened_shown}
use Rattle.ring_shared.proofs.local_ring.LocalRing.new.Goals as goal

pub vacant-requires : goal.vacant-requires
vacant-requires g c = let w = sym (position_start c.args.start c.ranges.start.fits) in opens c.args.capacity c.args.start _ _ (is_size _ c.requires) w w

pub load-requires : goal.load-requires
load-requires g c = let t = c.in_ok-table.ensures in (t.2, omega (arith, t.0), gains _ _ _ (ap (λ z. z.0.sends) t.4))

pub invariant_of-result : goal.invariant_of-result
invariant_of-result g c = let t = c.in_ok-table.ensures in let o = made_seat c.args.capacity c.args.start _ _ _ t.4 c.load.ensures.2 in
    record { word_count = t.0; own_seat = c.load.ensures.0 ∙ t.2; sound = subst (λ n. LocalIsSound n c.args.capacity c.args.start c.args.start c.args.start c.args.start c.args.start c.args.start) (sym o) (holds_of _ _ _ _ _ _ _ _ _ _ _ (new_on c.args.capacity c.args.start (is_size _ c.requires) c.ranges.start.fits)) }

pub returns : goal.returns
unfolding local_held
returns g c = let t = c.in_ok-table.ensures in let o = made_seat c.args.capacity c.args.start _ _ _ t.4 c.load.ensures.2 in let on = new_on {T = g.row.T.Denot} c.args.capacity c.args.start (is_size _ c.requires) c.ranges.start.fits in
    ap (λ n. local_held_by n c.args.capacity c.args.start c.args.start c.args.start c.args.start c.args.start) o ∙ shown _ _ _ _ _ _ _ _ _ _ _ on ∙ opened_shown c.args.capacity c.args.start

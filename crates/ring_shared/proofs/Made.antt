-- A ring that is made, and ends that meet.
use Rattle.std.proofs.Common.{◌≡◌, ℕ, ◌+◌, ◌-◌, ◌<◌, List, [], ◌++◌, replicate, Option, None, sym, refl, ap, ap₂, ◌∙◌, subst, arith, append-nil}
use Rattle.atomic_table.specs.Table.{Me}
use Rattle.ring_core.specs.Positions.{position_at}
use Rattle.ring_shared.specs.Sizes.{IsSize}
use Rattle.ring_core.proofs.PlaceLemmas.{position_start}
use Rattle.ring_shared.specs.declared.view.SeatView.{SeatView}
use Rattle.ring_shared.specs.HeldSlots.{slots_from}
use Rattle.ring_shared.specs.Rule.{first_view, without_taker, without_sender}
use Rattle.ring_shared.specs.WordSteps.{loaded_head}
use Rattle.ring_shared.specs.Sound.{SenderIsSound, TakerIsSound}
use Rattle.ring_shared.proofs.SenderKept.{sends_of}
use Rattle.ring_shared.proofs.TakerKept.{takes_of}

module _ {T : Type 0} (c start : ℕ) where
  abbrev pub ready : SeatView T
  ready = record (first_view start c) { limit = c }

  pub made_seat : (m u : Me (Option T) (SeatView T)) (r : ℕ) → m ≡ (first_view start c, []) → loaded_head m r u → u ≡ (ready, slots_from c start 0 (replicate c None))
  made_seat m u r is told = let t : loaded_head (first_view {T = T} start c, []) r u = subst (λ z. loaded_head z r u) is told in let none : t.0 ≡ 0 = let le = t.3 in omega arith in
      t.4 ∙ ap (λ (d : ℕ). (record (first_view start c) { limit = d + c }, slots_from c start 0 (replicate (d + c - 0) None) ++ [])) none
      ∙ ap₂ (λ (d : ℕ) (l : List (ℕ × Option T)). (record (first_view start c) { limit = d }, l)) (let e : 0 + c ≡ c = omega arith in e)
      (append-nil (slots_from c start 0 (replicate (0 + c - 0) None)) ∙ ap (λ (d : ℕ). slots_from c start 0 (replicate d None)) (let e : 0 + c - 0 ≡ c = omega arith in e))

  module _ (size : IsSize c) (lt : start < 4294967296) where
    pub new_sender : (m u : Me (Option T) (SeatView T)) → m ≡ (ready, slots_from c start 0 (replicate c None)) → u ≡ (without_taker m.0, m.1) → SenderIsSound u c start start start
    new_sender m u is at = subst (λ z. SenderIsSound z c start start start) (sym (at ∙ ap (λ z. (without_taker z.0, z.1)) is)) (sends_of (without_taker ready) [] (slots_from c start 0 (replicate c None)) c start start start (record {
      size = size;
      part = refl;
      same = refl;
      loaded = omega arith;
      close = omega arith;
      fits = omega arith;
      next_is = sym (position_start start lt);
      tail_is = sym (position_start start lt);
      head_is = sym (position_start start lt) ∙ ap (position_at start) (let e : 0 ≡ c - c = omega arith in e);
      held = ap (λ (d : ℕ). slots_from c start 0 (replicate d None)) (let e : c ≡ c - (0 + 0) = omega arith in e) ∙ sym (append-nil (slots_from c start 0 (replicate (c - (0 + 0)) None)));
    }))

    pub new_taker : (m u : Me (Option T) (SeatView T)) → m ≡ (ready, slots_from c start 0 (replicate c None)) → u ≡ (without_sender m.0, []) → TakerIsSound u c start start start
    new_taker m u is at = subst (λ z. TakerIsSound z c start start start) (sym (at ∙ ap (λ z. (without_sender z.0, [])) is)) (takes_of (without_sender ready) [] [] c start start start (record {
      size = size;
      part = refl;
      same = refl;
      within = omega arith;
      close = omega arith;
      next_is = sym (position_start start lt);
      head_is = sym (position_start start lt);
      tail_is = sym (position_start start lt);
      ahead = refl;
      held = refl;
    }))

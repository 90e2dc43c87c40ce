-- A ring in one thread, by what it holds.
use Rattle.std.proofs.Common.{◌≡◌, ℕ, suc, ◌+◌, ◌-◌, ◌%◌, ◌^◌, List, [], ◌∷◌, ◌++◌, length, drop, Option, sym, ap, ◌∙◌, subst, arith, length-append, length-drop}
use Rattle.ring_core.specs.Positions.{gap}
use Rattle.ring_core.specs.Held.{Held, Fits}
use Rattle.ring_core.specs.Slots.{with_put, with_tail, with_head_seen, with_head, with_tail_seen, Takes}
use Rattle.ring_core.specs.Slots as slots
use Rattle.ring_core.proofs.PlaceLemmas.{position_between}
use Rattle.ring_shared.specs.declared.view.SeatView.{SeatView}
use Rattle.ring_shared.specs.declared.local_ring.LocalRing.{LocalRing}
use Rattle.ring_shared.specs.Rule.{first_view}
use Rattle.ring_shared.specs.LocalSound.{LocalHolds}
use Rattle.ring_shared.specs.LocalHeld.{local_held_by, local_held}
use Rattle.ring_shared.proofs.TakerKept.{drop_longer}
use Rattle.ring_shared.proofs.LocalKept.{shows_ahead, shows_rest, gap_is, take_waits}

abbrev pub plain : {T : Type 0} → SeatView T → List T → List T → ℕ → ℕ → ℕ → Held T
plain v x y c n k = record {
  capacity = c;
  published = drop (length v.seen - length y) v.published;
  pushed = x;
  taken = length v.seen - length y - v.head;
  spare = v.limit - (length v.published + length x);
  waiting = length y;
  put_place = n;
  take_place = k;
}

module _ {T : Type 0} (v : SeatView T) (x y : List T) (h : List (ℕ × Option T)) (c n t hs k hd ts : ℕ) (K : LocalHolds v x y h c n t hs k hd ts) where
  pub shown : local_held_by (v, h) c n hs k hd ts ≡ plain v x y c n k
  shown = let a = K.inside in let b = K.shown in let d = K.fits in let e = K.gained in let f = K.loaded in let small = K.size.small in
      let s : ℕ = length v.published + length x in let q : ℕ = length v.seen - length y in
      let used : gap hs n ≡ s - (v.limit - c) = position_between v.start (v.limit - c) s hs n K.head_seen_is K.next_is (omega arith) (omega arith) in
      let back : gap hd k ≡ q - v.head = position_between v.start v.head q hd k K.head_is K.taken_is (omega arith) (omega arith) in
      let spare : c - gap hs n ≡ v.limit - s = omega arith in
      λ j. record {
        capacity = c;
        published = drop (length v.seen - length (shows_ahead v x y h c n t hs k hd ts K j)) v.published;
        pushed = shows_rest v x y h c n t hs k hd ts K j;
        taken = back j;
        spare = spare j;
        waiting = gap_is v x y h c n t hs k hd ts K j;
        put_place = n;
        take_place = k;
      }

  pub put_shown : (item : T) (m : ℕ) → m ≡ (n + 1) % 2 ^ 32 → plain v (x ++ item ∷ []) y c m k ≡ with_put item (plain v x y c n k)
  put_shown item m is = let more = length-append x (item ∷ []) in
      let spare : v.limit - (length v.published + length (x ++ item ∷ [])) ≡ v.limit - (length v.published + length x) - 1 = omega arith in
      λ j. record (plain v (x ++ item ∷ []) y c m k) { spare = spare j; put_place = is j }

  pub tail_shown : plain (record v { published = v.published ++ x }) [] y c n k ≡ with_tail (plain v x y c n k)
  tail_shown = let a = K.inside in let b = K.shown in let more = length-append v.published x in
      let spare : v.limit - (length (v.published ++ x) + 0) ≡ v.limit - (length v.published + length x) = omega arith in
      λ j. record (plain (record v { published = v.published ++ x }) [] y c n k) { published = drop_longer v.published x (length v.seen - length y) (omega arith) j; spare = spare j }

  pub head_seen_shown : plain (record v { limit = v.head + c }) x y c n k ≡ with_head_seen (plain v x y c n k)
  head_seen_shown = let a = K.inside in let b = K.shown in let d = K.fits in let e = K.gained in let rest = length-drop (length v.seen - length y) v.published in
      let spare : v.head + c - (length v.published + length x) ≡ c - (length v.seen - length y - v.head + (length (drop (length v.seen - length y) v.published) + length x)) = omega arith in
      λ j. record (plain v x y c n k) { spare = spare j }

  pub head_shown : plain (record v { head = v.head + (length v.seen - length y - v.head) }) x y c n k ≡ with_head (plain v x y c n k)
  head_shown = let none : length v.seen - length y - (v.head + (length v.seen - length y - v.head)) ≡ 0 = omega arith in λ j. record (plain v x y c n k) { taken = none j }

  pub tail_seen_shown : (xs : List T) → v.seen ++ xs ≡ v.published → plain (record v { seen = v.seen ++ xs }) x (y ++ xs) c n k ≡ with_tail_seen (plain v x y c n k)
  tail_seen_shown xs all = let a = K.inside in let one = length-append v.seen xs in let two = length-append y xs in let whole = ap length all in let rest = length-drop (length v.seen - length y) v.published in
      let same : length (v.seen ++ xs) - length (y ++ xs) ≡ length v.seen - length y = omega arith in
      let waits : length (y ++ xs) ≡ length (drop (length v.seen - length y) v.published) = omega arith in
      λ j. record (plain v x y c n k) { published = drop (same j) v.published; taken = same j - v.head; waiting = waits j }

  pub take_shown : (b : T) (ys : List T) → y ≡ b ∷ ys → (item : T) → b ≡ item → (m : ℕ) → m ≡ (k + 1) % 2 ^ 32 → (before after : Held T) → before ≡ plain v x y c n k → after ≡ plain v x ys c n m → Takes item before after
  take_shown b ys is item same m next before after was now = let a = K.inside in let ly : length y ≡ suc (length ys) = ap length is in
      let taken : length v.seen - length ys - v.head ≡ length v.seen - length y - v.head + 1 = omega arith in
      let waits : length ys ≡ length y - 1 = omega arith in
      subst (λ (p : Held T × Held T). Takes item p.0 p.1) (λ i. (sym was i, sym now i)) (record {
        front = take_waits v x y h c n t hs k hd ts K b ys is ∙ ap (λ z. z ∷ drop (length v.seen - length ys) v.published) same;
        rest = λ j. record (plain v x ys c n m) { taken = taken j; waiting = waits j; take_place = next j };
      })

  pub fits : Fits (plain v x y c n k)
  fits = let a = K.inside in let b = K.shown in let d = K.fits in let e = K.gained in let rest = length-drop (length v.seen - length y) v.published in record {
    items = omega arith;
    waiting = omega arith;
    capacity = K.size.small;
  }

pub opened_shown : {T : Type 0} (c start : ℕ) → plain (record (first_view {T = T} start c) { limit = c }) [] [] c start start ≡ slots.empty_ring c start
opened_shown c start = let all : c - (0 + 0) ≡ c = omega arith in λ j. record (slots.empty_ring c start) { spare = all j }

pub local-fits : {T : Type 0} (ring : LocalRing T) → Fits (local_held ring)
unfolding local_held
local-fits ring = subst Fits (sym (shown _ _ _ _ _ _ _ _ _ _ _ ring.sound)) (fits _ _ _ _ _ _ _ _ _ _ _ ring.sound)

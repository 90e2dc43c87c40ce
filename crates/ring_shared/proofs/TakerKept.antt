-- What the taker's end keeps.
use Rattle.std.proofs.Common.{true, ◌≡◌, ℕ, zero, suc, ◌+◌, ◌-◌, ◌<◌, ◌≤◌, List, [], ◌∷◌, ◌++◌, length, replicate, drop, map, Option, Some, None, sym, refl, ap, ap₂, ◌∙◌, subst, arith, append_assoc, append-nil, length-append}
use Rattle.std.specs.Prelude.{slice_get}
use lib.ListN.{length-replicate}
use Rattle.std.proofs.lemmas.List.{length-map}
use Rattle.atomic_table.specs.Table.{Me, Allows, rest}
use Rattle.ring_core.specs.Positions.{position_at}
use Rattle.ring_shared.specs.Sizes.{slot_at}
use Rattle.ring_shared.specs.declared.view.SeatView.{SeatView}
use Rattle.ring_shared.specs.HeldSlots.{slots_from, items_of, empty_slots, full_slots, turned_times}
use Rattle.ring_shared.specs.Rule.{RuleHolds}
use Rattle.ring_shared.specs.WordSteps.{stored_head, loaded_tail}
use Rattle.ring_shared.specs.Sound.{TakerHolds, TakerIsSound}
use Rattle.ring_shared.proofs.HeldSlots.{turned_by, length_slots_from, slots_from_append}
use Rattle.ring_shared.proofs.RuleKept.{releases, fills, items_held, empty_back, full_back}
use Rattle.ring_shared.proofs.SenderKept.{twice, map_append}

module _ {A : Type 0} where
  Filled : List A → Type 0
  Filled [] = ⊥
  Filled (x ∷ xs) = Unit {0}

  pub not_empty : (y : A) (ys : List A) → [] ≡ y ∷ ys → ⊥
  unfolding Filled
  not_empty y ys e = subst Filled (sym e) tt

  abbrev pub tail_of : List A → List A
  tail_of [] = []
  tail_of (x ∷ xs) = xs

  abbrev pub head_or : A → List A → A
  head_or d [] = d
  head_or d (x ∷ xs) = x

  pub cons_of : (l : List A) → 0 < length l → (y : A) × (ys : List A) × (l ≡ y ∷ ys)
  cons_of [] h = absurd (omega arith)
  cons_of (x ∷ xs) h = (x, xs, refl)

  pub nil_of : (l : List A) → length l ≡ 0 → l ≡ []
  nil_of [] h = refl
  nil_of (x ∷ xs) h = absurd (omega arith)

  abbrev pub of_some : A → Option A → A
  of_some d None = d
  of_some d (Some x) = x

  pub dropped : (l : List A) (k : ℕ) (y : A) (ys : List A) → drop k l ≡ y ∷ ys → (drop (k + 1) l ≡ ys) × (slice_get l k ≡ Some y)
  dropped [] zero y ys e = absurd (not_empty y ys e)
  dropped [] (suc k) y ys e = absurd (not_empty y ys e)
  dropped (x ∷ xs) zero y ys e = (ap tail_of e, ap (λ l. Some (head_or x l)) e)
  dropped (x ∷ xs) (suc k) y ys e = let t = dropped xs k y ys e in (ap (λ (n : ℕ). drop n (x ∷ xs)) (let s : suc k + 1 ≡ suc (k + 1) = omega arith in s) ∙ t.0, t.1)

  pub drop_longer : (l m : List A) (k : ℕ) → k ≤ length l → drop k (l ++ m) ≡ drop k l ++ m
  drop_longer l m zero h = refl
  drop_longer [] m (suc k) h = absurd (omega arith)
  drop_longer (x ∷ xs) m (suc k) h = drop_longer xs m k (omega arith)

module _ {T : Type 0} where
  -- how many were taken
  abbrev pub count_of : SeatView T → List T → ℕ
  count_of v x = length v.seen - length x

  pub whole : (v : SeatView T) (x : List T) (h : List (ℕ × Option T)) (c n a b : ℕ) → TakerHolds v x h c n a b → items_of h ≡ x
  whole v x h c n a b k = ap items_of k.held ∙ items_held c v.start (count_of v x) v.head (count_of v x - v.head) x

  pub takes_of : (v : SeatView T) (x : List T) (h : List (ℕ × Option T)) (c n a b : ℕ) → TakerHolds v x h c n a b → TakerIsSound (v, h) c n a b
  takes_of v x h c n a b k = subst (λ (y : List T). TakerHolds v y h c n a b) (sym (whole v x h c n a b k)) k

  module _ (v : SeatView T) (x : List T) (h : List (ℕ × Option T)) (c n a b : ℕ) (k : TakerHolds v x h c n a b) where
    module _ (y : T) (ys : List T) (is : x ≡ y ∷ ys) where
      pub front : h ≡ (slot_at c v.start (count_of v x), Some y) ∷ (slots_from c v.start (suc (count_of v x)) (map Some ys) ++ slots_from c v.start v.head (replicate (count_of v x - v.head) None))
      front = k.held ∙ ap (λ (l : List T). slots_from c v.start (count_of v x) (map Some l) ++ slots_from c v.start v.head (replicate (count_of v x - v.head) None)) is

      pub next_item : slice_get v.seen (count_of v x) ≡ Some y
      next_item = (dropped v.seen (count_of v x) y ys (k.ahead ∙ is)).1

      pub take_on : (i m : ℕ) → i ≡ slot_at c v.start (count_of v x) → m ≡ position_at v.start (count_of v x + 1) → TakerHolds v ys (rest h ++ (i, None) ∷ []) c m a b
      take_on i m at next = let q : ℕ = count_of v x in let lx : length x ≡ suc (length ys) = ap length is in let c0 = k.within in let one : count_of v ys ≡ q + 1 = omega arith in let e : ℕ = q - v.head in
          let many : length {A = Option T} (replicate e None) ≡ e = length-replicate e None in record {
            size = k.size;
            part = k.part;
            same = k.same;
            within = omega arith;
            close = k.close;
            next_is = next ∙ ap (position_at v.start) (sym one);
            head_is = k.head_is;
            tail_is = k.tail_is;
            ahead = ap (λ (z : ℕ). drop z v.seen) one ∙ (dropped v.seen q y ys (k.ahead ∙ is)).0;
            held = ap₂ (λ (g : List (ℕ × Option T)) (j : ℕ). rest g ++ (j, None) ∷ []) front at
                ∙ append_assoc (slots_from c v.start (suc q) (map Some ys)) (slots_from c v.start v.head (replicate e None)) ((slot_at c v.start q, None) ∷ [])
                ∙ ap₂ (λ (f g : List (ℕ × Option T)). f ++ g)
                (ap (λ (z : ℕ). slots_from c v.start z (map Some ys)) (let s : suc q ≡ count_of v ys = omega arith in s))
                (ap (λ (z : ℕ). slots_from c v.start v.head (replicate e None) ++ (slot_at c v.start z, None) ∷ []) (let s : q ≡ v.head + length {A = Option T} (replicate e None) = omega arith in s)
                ∙ sym (slots_from_append c v.start v.head (replicate e None) (None ∷ []))
                ∙ ap (slots_from c v.start v.head) (sym (twice e 1 None) ∙ ap (λ (z : ℕ). replicate z None) (let s : e + 1 ≡ count_of v ys - v.head = omega arith in s)));
          }

    pub turned_on : (m : ℕ) → m ≡ length x → turned_times m h ≡ slots_from c v.start v.head (replicate (count_of v x - v.head) None) ++ slots_from c v.start (count_of v x) (map Some x)
    turned_on m e = ap (turned_times m) k.held ∙ turned_by m (slots_from c v.start (count_of v x) (map Some x)) (slots_from c v.start v.head (replicate (count_of v x - v.head) None))
        (e ∙ sym (length_slots_from c v.start (count_of v x) (map Some x) ∙ length-map x Some))

    pub publish_on : TakerHolds (record v { head = v.head + (count_of v x - v.head) }) x (slots_from c v.start (count_of v x) (map Some x)) c n n b
    publish_on = let q : ℕ = count_of v x in let c0 = k.within in let c1 = k.close in let all : v.head + (q - v.head) ≡ q = omega arith in record {
      size = k.size;
      part = k.part;
      same = k.same;
      within = omega arith;
      close = omega arith;
      next_is = k.next_is;
      head_is = k.next_is ∙ ap (position_at v.start) (sym all);
      tail_is = k.tail_is;
      ahead = k.ahead;
      held = sym (append-nil (slots_from c v.start q (map Some x))) ∙ ap (λ (z : ℕ). slots_from c v.start q (map Some x) ++ slots_from c v.start (v.head + (q - v.head)) (replicate z None)) (let s : 0 ≡ q - (v.head + (q - v.head)) = omega arith in s);
    }

    pub refresh_on : (xs : List T) (m : ℕ) → length (v.seen ++ xs) ≤ v.head + v.capacity → m ≡ position_at v.start (length (v.seen ++ xs))
        → TakerHolds (record v { seen = v.seen ++ xs }) (x ++ xs) (slots_from c v.start (count_of v x) (map Some x) ++ (slots_from v.capacity v.start (length v.seen) (map Some xs) ++ slots_from c v.start v.head (replicate (count_of v x - v.head) None))) c n a m
    refresh_on xs m far is = let q : ℕ = count_of v x in let c0 = k.within in let c1 = k.same in let w : SeatView T = record v { seen = v.seen ++ xs } in
        let l0 = length-append v.seen xs in let l1 = length-append x xs in let same : q ≡ count_of w (x ++ xs) = omega arith in let F : List (Option T) = map Some x in record {
          size = k.size;
          part = k.part;
          same = k.same;
          within = omega arith;
          close = omega arith;
          next_is = k.next_is ∙ ap (position_at v.start) same;
          head_is = k.head_is;
          tail_is = is;
          ahead = ap (λ (z : ℕ). drop z (v.seen ++ xs)) (sym same) ∙ drop_longer v.seen xs q (omega arith) ∙ ap (λ l. l ++ xs) k.ahead;
          held = sym (append_assoc (slots_from c v.start q F) (slots_from v.capacity v.start (length v.seen) (map Some xs)) (slots_from c v.start v.head (replicate (q - v.head) None)))
              ∙ ap₂ (λ (f : List (ℕ × Option T)) (z : ℕ). f ++ slots_from c v.start v.head (replicate (z - v.head) None))
              ((λ j. slots_from c v.start q F ++ slots_from (c1 j) v.start ((let s : length v.seen ≡ q + length F = omega (arith, length-map x Some) in s) j) (map Some xs))
              ∙ sym (slots_from_append c v.start q F (map Some xs)) ∙ (λ j. slots_from c v.start (same j) (sym (map_append Some x xs) j)))
              same;
        }

    module _ (u : Me (Option T) (SeatView T)) (count : ℕ) (e : count ≡ length x) (is : u ≡ (v, turned_times count h)) where
      before : u ≡ (v, slots_from c v.start v.head (replicate (count_of v x - v.head) None) ++ slots_from c v.start (count_of v x) (map Some x))
      before = is ∙ ap (λ l. (v, l)) (turned_on count e)

      pub may_publish : (slots id : ℕ) → Allows RuleHolds slots id u 1 (λ _. n) (λ _. stored_head u)
      may_publish slots id = let c0 = k.within in subst (λ z. Allows RuleHolds slots id z 1 (λ _. n) (λ _. stored_head z)) (sym before)
          (releases slots id (v, slots_from c v.start v.head (replicate (count_of v x - v.head) None) ++ slots_from c v.start (count_of v x) (map Some x)) x n (count_of v x) (count_of v x - v.head)
          k.part (omega arith) (k.next_is ∙ ap (position_at v.start) (let s : count_of v x ≡ v.head + (count_of v x - v.head) = omega arith in s))
          (λ i. slots_from (sym k.same i) v.start v.head (replicate (count_of v x - v.head) None) ++ slots_from (sym k.same i) v.start (count_of v x) (map Some x)))

      pub published_seat : (w : Me (Option T) (SeatView T)) → stored_head u w → w ≡ (record v { head = v.head + (count_of v x - v.head) }, slots_from c v.start (count_of v x) (map Some x))
      published_seat w told = told ∙ ap (λ z. (record z.0 { head = z.0.head + length (empty_slots z.1) }, full_slots z.1)) before
          ∙ ap₂ (λ (y : ℕ) (l : List (ℕ × Option T)). (record v { head = v.head + y }, l))
          (ap length (empty_back c v.start v.head (count_of v x) (count_of v x - v.head) x) ∙ length_slots_from c v.start v.head (replicate (count_of v x - v.head) None) ∙ length-replicate (count_of v x - v.head) None)
          (full_back c v.start v.head (count_of v x) (count_of v x - v.head) x)

      pub may_refresh : (slots id : ℕ) → Allows RuleHolds slots id u 0 (λ w. w) (loaded_tail u)
      may_refresh slots id = fills slots id u (ap (λ z. z.0.takes) is ∙ k.part)

      pub told_of : (r : ℕ) (w : Me (Option T) (SeatView T)) → loaded_tail u r w
          → (xs : List T) × (r ≡ position_at v.start (length (v.seen ++ xs))) × (length (v.seen ++ xs) ≤ v.head + v.capacity)
          × (w ≡ (record v { seen = v.seen ++ xs }, slots_from v.capacity v.start (length v.seen) (map Some xs) ++ (slots_from c v.start v.head (replicate (count_of v x - v.head) None) ++ slots_from c v.start (count_of v x) (map Some x))))
          × (v.sends ≡ true → v.seen ++ xs ≡ v.published)
      told_of r w told = subst (λ z. loaded_tail z r w) before told

      pub refreshed_seat : (r : ℕ) (w z : Me (Option T) (SeatView T)) (told : loaded_tail u r w) (more : ℕ) → more ≡ length (told_of r w told).0 + (count_of v x - v.head) → z ≡ (w.0, turned_times more w.1)
          → z ≡ (record v { seen = v.seen ++ (told_of r w told).0 }, slots_from c v.start (count_of v x) (map Some x) ++ (slots_from v.capacity v.start (length v.seen) (map Some (told_of r w told).0) ++ slots_from c v.start v.head (replicate (count_of v x - v.head) None)))
      refreshed_seat r w z told more many at = let t = told_of r w told in let xs : List T = t.0 in
          let A : List (ℕ × Option T) = slots_from v.capacity v.start (length v.seen) (map Some xs) in
          let B : List (ℕ × Option T) = slots_from c v.start v.head (replicate (count_of v x - v.head) None) in
          let C : List (ℕ × Option T) = slots_from c v.start (count_of v x) (map Some x) in
          let la : length A ≡ length xs = length_slots_from v.capacity v.start (length v.seen) (map Some xs) ∙ length-map xs Some in
          let lb : length B ≡ count_of v x - v.head = length_slots_from c v.start v.head (replicate (count_of v x - v.head) None) ∙ length-replicate (count_of v x - v.head) None in
          at ∙ ap (λ y. (y.0, turned_times more y.1)) t.3 ∙ ap (λ l. (record v { seen = v.seen ++ xs }, l)) (ap (turned_times more) (sym (append_assoc A B C)) ∙ turned_by more (A ++ B) C (omega (arith, many, length-append A B, la, lb)))

abbrev pub value_of : {T : Type 0} → List (ℕ × Option T) → Option T
value_of [] = None
value_of (x ∷ xs) = x.1

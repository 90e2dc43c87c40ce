-- What the sender's end keeps.
use Rattle.std.proofs.Common.{true, ◌≡◌, ℕ, zero, suc, ◌+◌, ◌-◌, ◌<◌, ◌≤◌, List, [], ◌∷◌, ◌++◌, length, replicate, map, Option, Some, None, sym, refl, ap, ap₂, ◌∙◌, subst, arith, append_assoc, append-nil, length-append}
use lib.ListN.{length-replicate}
use Rattle.std.proofs.lemmas.List.{length-map}
use Rattle.atomic_table.specs.Table.{Me, Allows, rest}
use Rattle.ring_core.specs.Positions.{position_at}
use Rattle.ring_shared.specs.Sizes.{slot_at}
use Rattle.ring_shared.specs.declared.view.SeatView.{SeatView}
use Rattle.ring_shared.specs.HeldSlots.{slots_from, items_of, empty_slots, turned_times}
use Rattle.ring_shared.specs.Rule.{RuleHolds}
use Rattle.ring_shared.specs.WordSteps.{stored_tail, loaded_head}
use Rattle.ring_shared.proofs.RuleKept.{publishes, gains, items_held, empty_held}
use Rattle.ring_shared.specs.Sound.{SenderHolds, SenderIsSound}
use Rattle.ring_shared.proofs.HeldSlots.{turned_by, length_slots_from, slots_from_append, items_append, items_full, items_empty}

pub twice : {A : Type 0} (m n : ℕ) (a : A) → replicate (m + n) a ≡ replicate m a ++ replicate n a
twice zero n a = ap (λ (k : ℕ). replicate k a) (let e : 0 + n ≡ n = omega arith in e)
twice (suc m) n a = ap (λ (k : ℕ). replicate k a) (let e : suc m + n ≡ suc (m + n) = omega arith in e) ∙ ap (λ l. a ∷ l) (twice m n a)

pub map_append : {A B : Type 0} (f : A → B) (xs ys : List A) → map f (xs ++ ys) ≡ map f xs ++ map f ys
map_append f [] ys = refl
map_append f (x ∷ xs) ys = ap (λ l. f x ∷ l) (map_append f xs ys)

module _ {T : Type 0} where
  -- what is out tells what was put and not published
  pub whole : (v : SeatView T) (x : List T) (h : List (ℕ × Option T)) (c n a b : ℕ) → SenderHolds v x h c n a b → items_of h ≡ x
  whole v x h c n a b k = ap items_of k.held ∙ items_append (slots_from c v.start (length v.published + length x) (replicate (v.limit - (length v.published + length x)) None)) (slots_from c v.start (length v.published) (map Some x))
      ∙ ap₂ (λ p q. p ++ q) (items_empty c v.start (length v.published + length x) (v.limit - (length v.published + length x))) (items_full c v.start (length v.published) x)

  pub sends_of : (v : SeatView T) (x : List T) (h : List (ℕ × Option T)) (c n a b : ℕ) → SenderHolds v x h c n a b → SenderIsSound (v, h) c n a b
  sends_of v x h c n a b k = subst (λ (y : List T). SenderHolds v y h c n a b) (sym (whole v x h c n a b k)) k

  module _ (v : SeatView T) (x : List T) (h : List (ℕ × Option T)) (c n a b : ℕ) (k : SenderHolds v x h c n a b) where
    -- the slot of the next item lies in front
    pub front : length v.published + length x < v.limit → h ≡ (slot_at c v.start (length v.published + length x), None) ∷ (slots_from c v.start (suc (length v.published + length x)) (replicate (v.limit - (length v.published + length x) - 1) None) ++ slots_from c v.start (length v.published) (map Some x))
    front lt = k.held ∙ ap (λ (m : ℕ). slots_from c v.start (length v.published + length x) (replicate m None) ++ slots_from c v.start (length v.published) (map Some x))
        (let s : ℕ = length v.published + length x in let e : v.limit - s ≡ suc (v.limit - s - 1) = omega arith in e)

    pub put_on : (i m : ℕ) (item : T) → length v.published + length x < v.limit → i ≡ slot_at c v.start (length v.published + length x) → m ≡ position_at v.start (length v.published + length x + 1) → SenderHolds v (x ++ item ∷ []) (rest h ++ (i, Some item) ∷ []) c m a b
    put_on i m item lt is next = let t : ℕ = length v.published in let s : ℕ = t + length x in let more : length (x ++ item ∷ []) ≡ length x + 1 = length-append x (item ∷ []) in let free : List (Option T) = replicate (v.limit - s - 1) None in record {
      size = k.size;
      part = k.part;
      same = k.same;
      loaded = k.loaded;
      close = k.close;
      fits = omega arith;
      next_is = next ∙ ap (position_at v.start) (let e : s + 1 ≡ t + length (x ++ item ∷ []) = omega arith in e);
      tail_is = k.tail_is;
      head_is = k.head_is;
      held = ap₂ (λ (g : List (ℕ × Option T)) (j : ℕ). rest g ++ (j, Some item) ∷ []) (front lt) is
          ∙ append_assoc (slots_from c v.start (suc s) free) (slots_from c v.start t (map Some x)) ((slot_at c v.start s, Some item) ∷ [])
          ∙ ap₂ (λ (p q : List (ℕ × Option T)). p ++ q)
          ((λ j. slots_from c v.start ((let e : suc s ≡ t + length (x ++ item ∷ []) = omega arith in e) j) (replicate ((let e : v.limit - s - 1 ≡ v.limit - (t + length (x ++ item ∷ [])) = omega arith in e) j) None)))
          (ap (λ (q : ℕ). slots_from c v.start t (map Some x) ++ (slot_at c v.start q, Some item) ∷ []) (let e : s ≡ t + length (map Some x) = omega (arith, length-map x Some) in e)
          ∙ sym (slots_from_append c v.start t (map Some x) (Some item ∷ [])) ∙ ap (slots_from c v.start t) (sym (map_append Some x (item ∷ []))));
    }

    -- the full slots come to the front
    pub turned_on : (m : ℕ) → m ≡ v.limit - (length v.published + length x) → turned_times m h ≡ slots_from c v.start (length v.published) (map Some x) ++ slots_from c v.start (length v.published + length x) (replicate (v.limit - (length v.published + length x)) None)
    turned_on m e = let s : ℕ = length v.published + length x in ap (turned_times m) k.held ∙ turned_by m (slots_from c v.start s (replicate (v.limit - s) None)) (slots_from c v.start (length v.published) (map Some x))
        (e ∙ sym (length_slots_from c v.start s (replicate (v.limit - s) None) ∙ length-replicate (v.limit - s) None))

    pub publish_on : SenderHolds (record v { published = v.published ++ x }) [] (slots_from c v.start (length v.published + length x) (replicate (v.limit - (length v.published + length x)) None)) c n n b
    publish_on = let s : ℕ = length v.published + length x in let more : length (v.published ++ x) ≡ s = length-append v.published x in let c0 = k.close in let c1 = k.fits in record {
      size = k.size;
      part = k.part;
      same = k.same;
      loaded = k.loaded;
      close = omega arith;
      fits = omega arith;
      next_is = k.next_is ∙ ap (position_at v.start) (let e : s ≡ length (v.published ++ x) + 0 = omega arith in e);
      tail_is = k.next_is ∙ ap (position_at v.start) (sym more);
      head_is = k.head_is;
      held = ap (λ (q : ℕ). slots_from c v.start q (replicate (v.limit - q) None)) (let e : s ≡ length (v.published ++ x) + 0 = omega arith in e) ∙ sym (append-nil (slots_from c v.start (length (v.published ++ x) + 0) (replicate (v.limit - (length (v.published ++ x) + 0)) None)));
    }

    pub refresh_on : (d m : ℕ) → v.limit ≤ d + v.capacity → d ≤ length v.published → m ≡ position_at v.start d
        → SenderHolds (record v { limit = d + v.capacity }) x (slots_from c v.start (length v.published + length x) (replicate (v.limit - (length v.published + length x)) None) ++ (slots_from v.capacity v.start v.limit (replicate (d + v.capacity - v.limit) None) ++ slots_from c v.start (length v.published) (map Some x))) c n a m
    refresh_on d m far near is = let t : ℕ = length v.published in let s : ℕ = t + length x in let c0 = k.close in let c1 = k.fits in let c2 = k.same in let o : ℕ = v.limit - s in let p : ℕ = d + v.capacity - v.limit in
        let many : length {A = Option T} (replicate o None) ≡ o = length-replicate o None in record {
          size = k.size;
          part = k.part;
          same = k.same;
          loaded = omega arith;
          close = omega arith;
          fits = omega arith;
          next_is = k.next_is;
          tail_is = k.tail_is;
          head_is = is ∙ ap (position_at v.start) (let e : d ≡ d + v.capacity - c = omega arith in e);
          held = sym (append_assoc (slots_from c v.start s (replicate o None)) (slots_from v.capacity v.start v.limit (replicate p None)) (slots_from c v.start t (map Some x)))
              ∙ ap (λ (l : List (ℕ × Option T)). l ++ slots_from c v.start t (map Some x))
              ((λ j. slots_from c v.start s (replicate o None) ++ slots_from (c2 j) v.start ((let e : v.limit ≡ s + length {A = Option T} (replicate o None) = omega arith in e) j) (replicate p None))
              ∙ sym (slots_from_append c v.start s (replicate o None) (replicate p None)) ∙ ap (slots_from c v.start s) (sym (twice o p None) ∙ ap (λ (q : ℕ). replicate q None) (let e : o + p ≡ d + v.capacity - s = omega arith in e)));
        }

Opens : {T : Type 0} → List (ℕ × Option T) → Type 0
Opens [] = Unit {0}
Opens ((i, None) ∷ xs) = Unit {0}
Opens ((i, Some x) ∷ xs) = ⊥

pub no_item : {T : Type 0} (i j : ℕ) (x : T) (l m : List (ℕ × Option T)) → (i, Some x) ∷ l ≡ (j, None) ∷ m → ⊥
unfolding Opens
no_item i j x l m e = subst Opens (sym e) tt

module _ {T : Type 0} where
  -- the step of `publish`, at the seat n, which is the end's own after its turns
  pub may_publish : (slots id : ℕ) (n : Me (Option T) (SeatView T)) (v : SeatView T) (x : List T) (h : List (ℕ × Option T)) (c m a b free : ℕ) → SenderHolds v x h c m a b → free ≡ v.limit - (length v.published + length x) → n ≡ (v, turned_times free h)
      → Allows RuleHolds slots id n 0 (λ _. m) (λ _. stored_tail n)
  may_publish slots id n v x h c m a b free k e is = let c0 = k.close in let c1 = k.fits in let c2 = k.same in
      subst (λ z. Allows RuleHolds slots id z 0 (λ _. m) (λ _. stored_tail z)) (sym (is ∙ ap (λ l. (v, l)) (turned_on v x h c m a b k free e)))
      (publishes slots id (v, slots_from c v.start (length v.published) (map Some x) ++ slots_from c v.start (length v.published + length x) (replicate (v.limit - (length v.published + length x)) None)) x m (length v.published + length x) (v.limit - (length v.published + length x))
      k.part k.fits (omega arith) k.next_is (λ i. slots_from (sym k.same i) v.start (length v.published) (map Some x) ++ slots_from (sym k.same i) v.start (length v.published + length x) (replicate (v.limit - (length v.published + length x)) None)))

  -- and the seat after it
  pub published_seat : (n u : Me (Option T) (SeatView T)) (v : SeatView T) (x : List T) (h : List (ℕ × Option T)) (c m a b free : ℕ) → SenderHolds v x h c m a b → free ≡ v.limit - (length v.published + length x) → n ≡ (v, turned_times free h)
      → stored_tail n u → u ≡ (record v { published = v.published ++ x }, slots_from c v.start (length v.published + length x) (replicate (v.limit - (length v.published + length x)) None))
  published_seat n u v x h c m a b free k e is told = let p = is ∙ ap (λ l. (v, l)) (turned_on v x h c m a b k free e) in
      told ∙ ap (λ z. (record z.0 { published = z.0.published ++ items_of z.1 }, empty_slots z.1)) p
      ∙ ap₂ (λ (y : List T) (l : List (ℕ × Option T)). (record v { published = v.published ++ y }, l)) (items_held c v.start (length v.published) (length v.published + length x) (v.limit - (length v.published + length x)) x) (empty_held c v.start (length v.published) (length v.published + length x) (v.limit - (length v.published + length x)) x)

  module _ (n : Me (Option T) (SeatView T)) (v : SeatView T) (x : List T) (h : List (ℕ × Option T)) (c m a b free : ℕ) (k : SenderHolds v x h c m a b) (e : free ≡ v.limit - (length v.published + length x)) (is : n ≡ (v, turned_times free h)) where
    pub may_refresh : (slots id : ℕ) → Allows RuleHolds slots id n 1 (λ w. w) (loaded_head n)
    may_refresh slots id = gains slots id n (ap (λ z. z.0.sends) is ∙ k.part)

    -- what the load told, of the end's own values
    pub told_of : (r : ℕ) (u : Me (Option T) (SeatView T)) → loaded_head n r u
        → (d : ℕ) × (r ≡ position_at v.start d) × (v.limit ≤ d + v.capacity) × (d ≤ length v.published)
        × (u ≡ (record v { limit = d + v.capacity }, slots_from v.capacity v.start v.limit (replicate (d + v.capacity - v.limit) None) ++ (slots_from c v.start (length v.published) (map Some x) ++ slots_from c v.start (length v.published + length x) (replicate (v.limit - (length v.published + length x)) None))))
        × (v.takes ≡ true → d ≡ v.head)
    told_of r u told = subst (λ z. loaded_head z r u) (is ∙ ap (λ l. (v, l)) (turned_on v x h c m a b k free e)) told

    -- the seat after the second turns
    pub refreshed_seat : (r : ℕ) (u w : Me (Option T) (SeatView T)) (told : loaded_head n r u) (count : ℕ) → count ≡ (told_of r u told).0 - (v.limit - c) + length x → w ≡ (u.0, turned_times count u.1)
        → w ≡ (record v { limit = (told_of r u told).0 + v.capacity }, slots_from c v.start (length v.published + length x) (replicate (v.limit - (length v.published + length x)) None) ++ (slots_from v.capacity v.start v.limit (replicate ((told_of r u told).0 + v.capacity - v.limit) None) ++ slots_from c v.start (length v.published) (map Some x)))
    refreshed_seat r u w told count many at = let t = told_of r u told in let d : ℕ = t.0 in let c0 = k.loaded in let c1 = k.close in let c2 = k.same in let far = t.2 in
        let A : List (ℕ × Option T) = slots_from v.capacity v.start v.limit (replicate (d + v.capacity - v.limit) None) in
        let B : List (ℕ × Option T) = slots_from c v.start (length v.published) (map Some x) in
        let C : List (ℕ × Option T) = slots_from c v.start (length v.published + length x) (replicate (v.limit - (length v.published + length x)) None) in
        let la : length A ≡ d + v.capacity - v.limit = length_slots_from v.capacity v.start v.limit (replicate (d + v.capacity - v.limit) None) ∙ length-replicate (d + v.capacity - v.limit) None in
        let lb : length B ≡ length x = length_slots_from c v.start (length v.published) (map Some x) ∙ length-map x Some in
        at ∙ ap (λ z. (z.0, turned_times count z.1)) t.4 ∙ ap (λ l. (record v { limit = d + v.capacity }, l)) (ap (turned_times count) (sym (append_assoc A B C)) ∙ turned_by count (A ++ B) C (omega (arith, many, length-append A B, la, lb)))

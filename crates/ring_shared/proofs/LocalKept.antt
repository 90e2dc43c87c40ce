-- What a ring in one thread keeps.
use Rattle.std.proofs.Common.{◌≡◌, ℕ, suc, ◌+◌, ◌-◌, ◌<◌, List, [], ◌∷◌, ◌++◌, length, replicate, take, drop, map, Option, Some, None, sym, refl, ap, ap₂, ◌∙◌, subst, arith, append_assoc, length-append}
use lib.ListN.{length-replicate}
use lib.Seq.{take-length}
use Rattle.std.proofs.lemmas.List.{length-map, take_at, drop_at, take-append-le, take-append-drop}
use Rattle.atomic_table.specs.Table.{Me, Allows}
use Rattle.ring_core.specs.Positions.{position_at, gap}
use Rattle.ring_shared.specs.Sizes.{IsSize, slot_at}
use Rattle.ring_core.proofs.PlaceLemmas.{position_between, position_start}
use Rattle.ring_shared.specs.declared.view.SeatView.{SeatView}
use Rattle.ring_shared.specs.HeldSlots.{slots_from, items_of, turned_times}
use Rattle.ring_shared.specs.Rule.{RuleHolds, first_view}
use Rattle.ring_shared.specs.WordSteps.{stored_local_tail, stored_local_head, loaded_head, loaded_tail}
use Rattle.ring_shared.specs.LocalSound.{LocalHolds, LocalIsSound}
use Rattle.ring_shared.proofs.HeldSlots.{turned_by, length_slots_from, slots_from_append, items_append, items_full, items_empty}
use Rattle.ring_shared.proofs.RuleKept.{publishes_local, releases_local, tail_told, head_told, items_held}
use Rattle.ring_shared.proofs.SenderKept.{map_append, twice}
use Rattle.ring_shared.proofs.TakerKept.{dropped, drop_longer}

module _ {T : Type 0} (v : SeatView T) (x y : List T) (h : List (ℕ × Option T)) (c n t hs k hd ts : ℕ) (K : LocalHolds v x y h c n t hs k hd ts) where
  abbrev at : ℕ
  at = length v.seen - length y

  abbrev s : ℕ
  s = length v.published + length x

  abbrev pub E : List (ℕ × Option T)
  E = slots_from c v.start v.head (replicate (at - v.head) None)

  abbrev pub Y : List (ℕ × Option T)
  Y = slots_from c v.start at (map Some y)

  abbrev pub X : List (ℕ × Option T)
  X = slots_from c v.start (length v.published) (map Some x)

  abbrev pub F : List (ℕ × Option T)
  F = slots_from c v.start s (replicate (v.limit - s) None)

  abbrev pub F' : List (ℕ × Option T)
  F' = slots_from c v.start (suc s) (replicate (v.limit - s - 1) None)

  whole : items_of h ≡ y ++ x
  whole = ap items_of K.held ∙ items_append (E ++ Y) (X ++ F) ∙ ap₂ (λ a b. a ++ b)
      (items_append E Y ∙ ap₂ (λ a b. a ++ b) (items_empty c v.start v.head (at - v.head)) (items_full c v.start at y))
      (items_held c v.start (length v.published) s (v.limit - s) x)

  pub gap_is : gap k ts ≡ length y
  gap_is = let a = K.inside in let b = K.shown in let d = K.fits in let e = K.gained in let small = K.size.small in
      position_between v.start at (length v.seen) k ts K.taken_is K.tail_seen_is (omega arith) (omega arith) ∙ (let q : length v.seen - at ≡ length y = omega arith in q)

  pub shows_ahead : take (gap k ts) (items_of h) ≡ y
  shows_ahead = ap₂ (λ (q : ℕ) (l : List T). take q l) gap_is whole ∙ take_at y x (length y) refl

  pub shows_rest : drop (gap k ts) (items_of h) ≡ x
  shows_rest = ap₂ (λ (q : ℕ) (l : List T). drop q l) gap_is whole ∙ drop_at y x (length y) refl

  pub holds_of : LocalIsSound (v, h) c n t hs k hd ts
  holds_of = subst (λ (p : List T × List T). LocalHolds v p.0 p.1 h c n t hs k hd ts) (λ i. (sym shows_rest i, sym shows_ahead i)) K

  length_front : length (E ++ Y) ≡ length v.seen - v.head
  length_front = let a = K.inside in length-append E Y ∙ ap₂ (λ (p q : ℕ). p + q) (length_slots_from c v.start v.head (replicate (at - v.head) None) ∙ length-replicate (at - v.head) None) (length_slots_from c v.start at (map Some y) ∙ length-map y Some)
      ∙ (let e : at - v.head + length y ≡ length v.seen - v.head = omega arith in e)

  length_put : length X ≡ length x
  length_put = length_slots_from c v.start (length v.published) (map Some x) ∙ length-map x Some

  -- put
  pub put_turned : (count : ℕ) → count ≡ length v.seen - v.head + length x → s < v.limit → turned_times count h ≡ (slot_at c v.start s, None) ∷ (F' ++ (E ++ Y ++ X))
  put_turned count e lt = ap (turned_times count) (K.held ∙ sym (append_assoc (E ++ Y) X F)) ∙ turned_by count (E ++ Y ++ X) F (omega (arith, e, length-append (E ++ Y) X, length_front, length_put))
      ∙ ap (λ (m : ℕ). slots_from c v.start s (replicate m None) ++ (E ++ Y ++ X)) (let q : v.limit - s ≡ suc (v.limit - s - 1) = omega arith in q)

  pub put_turned_back : (count i : ℕ) (item : T) → count ≡ v.limit - s - 1 → turned_times count (F' ++ (E ++ Y ++ X) ++ (i, Some item) ∷ []) ≡ E ++ Y ++ X ++ (i, Some item) ∷ [] ++ F'
  put_turned_back count i item e = ap (turned_times count) (append_assoc F' (E ++ Y ++ X) ((i, Some item) ∷ [])) ∙ turned_by count F' (E ++ Y ++ X ++ (i, Some item) ∷ [])
      (e ∙ sym (length_slots_from c v.start (suc s) (replicate (v.limit - s - 1) None) ∙ length-replicate (v.limit - s - 1) None))

  pub put_on : (i m : ℕ) (item : T) → s < v.limit → i ≡ slot_at c v.start s → m ≡ position_at v.start (s + 1) → LocalHolds v (x ++ item ∷ []) y (E ++ Y ++ X ++ (i, Some item) ∷ [] ++ F') c m t hs k hd ts
  put_on i m item lt is next = let more : length (x ++ item ∷ []) ≡ length x + 1 = length-append x (item ∷ []) in record {
    size = K.size;
    sends = K.sends;
    takes = K.takes;
    same = K.same;
    inside = K.inside;
    shown = K.shown;
    prefix = K.prefix;
    loaded = K.loaded;
    fits = omega arith;
    gained = K.gained;
    next_is = next ∙ ap (position_at v.start) (let e : s + 1 ≡ length v.published + length (x ++ item ∷ []) = omega arith in e);
    tail_is = K.tail_is;
    head_seen_is = K.head_seen_is;
    taken_is = K.taken_is;
    head_is = K.head_is;
    tail_seen_is = K.tail_seen_is;
    ahead = K.ahead;
    held = ap (λ l. l ++ F') (append_assoc (E ++ Y) X ((i, Some item) ∷ [])) ∙ append_assoc (E ++ Y) (X ++ (i, Some item) ∷ []) F' ∙ ap₂ (λ (p q : List (ℕ × Option T)). E ++ Y ++ (p ++ q))
        (ap (λ (j : ℕ). X ++ (j, Some item) ∷ []) is ∙ ap (λ (q : ℕ). X ++ (slot_at c v.start q, Some item) ∷ []) (let e : s ≡ length v.published + length (map Some x) = omega (arith, length-map x Some) in e)
        ∙ sym (slots_from_append c v.start (length v.published) (map Some x) (Some item ∷ [])) ∙ ap (slots_from c v.start (length v.published)) (sym (map_append Some x (item ∷ []))))
        ((λ j. slots_from c v.start ((let e : suc s ≡ length v.published + length (x ++ item ∷ []) = omega arith in e) j) (replicate ((let e : v.limit - s - 1 ≡ v.limit - (length v.published + length (x ++ item ∷ [])) = omega arith in e) j) None)));
  }

  -- publish
  module _ (u : Me (Option T) (SeatView T)) (count : ℕ) (e : count ≡ length v.seen - v.head) (is : u ≡ (v, turned_times count h)) where
    before : u ≡ (v, X ++ (F ++ (E ++ Y)))
    before = is ∙ ap (λ l. (v, l)) (ap (turned_times count) K.held ∙ turned_by count (E ++ Y) (X ++ F) (e ∙ sym length_front) ∙ append_assoc X F (E ++ Y))

    own_hand : X ++ (F ++ (E ++ Y)) ≡ slots_from v.capacity v.start (length v.published) (map Some x) ++ (F ++ (E ++ Y))
    own_hand = λ i. slots_from (sym K.same i) v.start (length v.published) (map Some x) ++ (F ++ (E ++ Y))

    pub may_publish : (slots id : ℕ) → Allows RuleHolds slots id u 0 (λ _. n) (λ _. stored_local_tail n u)
    may_publish slots id = let a = K.fits in let b = K.gained in let d = K.inside in let f = K.shown in let g = K.same in subst (λ z. Allows RuleHolds slots id z 0 (λ _. n) (λ _. stored_local_tail n z)) (sym before)
        (publishes_local slots id (v, X ++ (F ++ (E ++ Y))) x n (F ++ (E ++ Y)) K.sends K.fits (omega arith) K.next_is own_hand)

    pub published_seat : (w z : Me (Option T) (SeatView T)) (free : ℕ) → free ≡ v.limit - s → stored_local_tail n u w → z ≡ (w.0, turned_times free w.1) → z ≡ (record v { published = v.published ++ x }, (E ++ Y) ++ F)
    published_seat w z free f told at_end = let a = K.fits in let b = K.gained in let d = K.inside in let o = K.shown in let small = K.size.small in
        let w_is : w ≡ (record v { published = v.published ++ x }, F ++ (E ++ Y)) = tail_told (v, X ++ (F ++ (E ++ Y))) x n (F ++ (E ++ Y)) (omega arith) K.next_is own_hand w (subst (λ q. stored_local_tail n q w) before told) in
        at_end ∙ ap (λ q. (q.0, turned_times free q.1)) w_is ∙ ap (λ l. (record v { published = v.published ++ x }, l)) (turned_by free F (E ++ Y) (f ∙ sym (length_slots_from c v.start s (replicate (v.limit - s) None) ∙ length-replicate (v.limit - s) None)))

    pub publish_on : LocalHolds (record v { published = v.published ++ x }) [] y ((E ++ Y) ++ F) c n n hs k hd ts
    publish_on = let more : length (v.published ++ x) ≡ s = length-append v.published x in let b = K.shown in let d = K.fits in record {
      size = K.size;
      sends = K.sends;
      takes = K.takes;
      same = K.same;
      inside = K.inside;
      shown = omega arith;
      prefix = take-append-le (length v.seen) v.published x K.shown ∙ K.prefix;
      loaded = K.loaded;
      fits = omega arith;
      gained = K.gained;
      next_is = K.next_is ∙ ap (position_at v.start) (let e : s ≡ length (v.published ++ x) + 0 = omega arith in e);
      tail_is = K.next_is ∙ ap (position_at v.start) (sym more);
      head_seen_is = K.head_seen_is;
      taken_is = K.taken_is;
      head_is = K.head_is;
      tail_seen_is = K.tail_seen_is;
      ahead = K.ahead;
      held = ap (λ (q : ℕ). E ++ Y ++ slots_from c v.start q (replicate (v.limit - q) None)) (let e : s ≡ length (v.published ++ x) + 0 = omega arith in e);
    }

  -- refresh of the head
  pub head_seat : (r : ℕ) (u w : Me (Option T) (SeatView T)) → loaded_head (v, h) r u → (count : ℕ) → count ≡ v.head + c - v.limit → w ≡ (u.0, turned_times count u.1)
      → w ≡ (record v { limit = v.head + c }, E ++ Y ++ (X ++ F) ++ slots_from c v.start v.limit (replicate (v.head + c - v.limit) None))
  head_seat r u w told count e is = let d : told.0 ≡ v.head = told.5 K.takes in
      is ∙ ap (λ z. (z.0, turned_times count z.1)) (told.4 ∙ (λ i. (record v { limit = d i + K.same i }, slots_from (K.same i) v.start v.limit (replicate (d i + K.same i - v.limit) None) ++ K.held i)))
      ∙ ap (λ l. (record v { limit = v.head + c }, l)) (turned_by count (slots_from c v.start v.limit (replicate (v.head + c - v.limit) None)) (E ++ Y ++ (X ++ F)) (e ∙ sym (length_slots_from c v.start v.limit (replicate (v.head + c - v.limit) None) ∙ length-replicate (v.head + c - v.limit) None)))

  pub head_on : (m : ℕ) → m ≡ position_at v.start v.head → LocalHolds (record v { limit = v.head + c }) x y (E ++ Y ++ (X ++ F) ++ slots_from c v.start v.limit (replicate (v.head + c - v.limit) None)) c n t m k hd ts
  head_on m is = let a = K.inside in let b = K.shown in let d = K.fits in let e = K.gained in let o : ℕ = v.limit - s in let p : ℕ = v.head + c - v.limit in let many : length {A = Option T} (replicate o None) ≡ o = length-replicate o None in record {
    size = K.size;
    sends = K.sends;
    takes = K.takes;
    same = K.same;
    inside = K.inside;
    shown = K.shown;
    prefix = K.prefix;
    loaded = omega arith;
    fits = omega arith;
    gained = omega arith;
    next_is = K.next_is;
    tail_is = K.tail_is;
    head_seen_is = is ∙ ap (position_at v.start) (let q : v.head ≡ v.head + c - c = omega arith in q);
    taken_is = K.taken_is;
    head_is = K.head_is;
    tail_seen_is = K.tail_seen_is;
    ahead = K.ahead;
    held = append_assoc (E ++ Y) (X ++ F) (slots_from c v.start v.limit (replicate p None)) ∙ ap (λ l. E ++ Y ++ l) (append_assoc X F (slots_from c v.start v.limit (replicate p None))
        ∙ ap (λ l. X ++ l) (ap (λ (z : ℕ). F ++ slots_from c v.start z (replicate p None)) (let q : v.limit ≡ s + length {A = Option T} (replicate o None) = omega arith in q) ∙ sym (slots_from_append c v.start s (replicate o None) (replicate p None))
        ∙ ap (slots_from c v.start s) (sym (twice o p None) ∙ ap (λ (z : ℕ). replicate z None) (let q : o + p ≡ v.head + c - s = omega arith in q))));
  }

  length_back : length (X ++ F) ≡ v.limit - length v.published
  length_back = let d = K.fits in length-append X F ∙ ap₂ (λ (p q : ℕ). p + q) length_put (length_slots_from c v.start s (replicate (v.limit - s) None) ∙ length-replicate (v.limit - s) None) ∙ (let q : length x + (v.limit - s) ≡ v.limit - length v.published = omega arith in q)

  -- the published list is what was seen and more
  pub split_sent : v.published ≡ v.seen ++ drop (length v.seen) v.published
  split_sent = sym (take-append-drop (length v.seen) v.published) ∙ ap (λ l. l ++ drop (length v.seen) v.published) K.prefix

  pub waits : drop at v.published ≡ y ++ drop (length v.seen) v.published
  waits = ap (drop at) split_sent ∙ drop_longer v.seen (drop (length v.seen) v.published) at (omega arith) ∙ ap (λ l. l ++ drop (length v.seen) v.published) K.ahead

  -- take
  module _ (b : T) (ys : List T) (is : y ≡ b ∷ ys) where
    abbrev pub Y' : List (ℕ × Option T)
    Y' = slots_from c v.start (suc at) (map Some ys)

    pub take_turned : (count : ℕ) → count ≡ at - v.head → turned_times count h ≡ (slot_at c v.start at, Some b) ∷ (Y' ++ (X ++ F) ++ E)
    take_turned count e = ap (turned_times count) (K.held ∙ append_assoc E Y (X ++ F)) ∙ turned_by count E (Y ++ (X ++ F)) (e ∙ sym (length_slots_from c v.start v.head (replicate (at - v.head) None) ∙ length-replicate (at - v.head) None))
        ∙ ap (λ l. slots_from c v.start at (map Some l) ++ (X ++ F) ++ E) is

    pub take_turned_back : (count i : ℕ) → count ≡ length ys + (v.limit - length v.published) → turned_times count (Y' ++ (X ++ F) ++ E ++ (i, None) ∷ []) ≡ E ++ (i, None) ∷ [] ++ (Y' ++ (X ++ F))
    take_turned_back count i e = ap (turned_times count) (append_assoc (Y' ++ (X ++ F)) E ((i, None) ∷ [])) ∙ turned_by count (Y' ++ (X ++ F)) (E ++ (i, None) ∷ [])
        (e ∙ sym (length-append Y' (X ++ F) ∙ ap₂ (λ (p q : ℕ). p + q) (length_slots_from c v.start (suc at) (map Some ys) ∙ length-map ys Some) length_back))

    pub take_on : (i m : ℕ) → i ≡ slot_at c v.start at → m ≡ position_at v.start (at + 1) → LocalHolds v x ys (E ++ (i, None) ∷ [] ++ (Y' ++ (X ++ F))) c n t hs m hd ts
    take_on i m where_it next = let ly : length y ≡ suc (length ys) = ap length is in let a = K.inside in let one : length v.seen - length ys ≡ at + 1 = omega arith in let e : ℕ = at - v.head in let many : length {A = Option T} (replicate e None) ≡ e = length-replicate e None in record {
      size = K.size;
      sends = K.sends;
      takes = K.takes;
      same = K.same;
      inside = omega arith;
      shown = K.shown;
      prefix = K.prefix;
      loaded = K.loaded;
      fits = K.fits;
      gained = K.gained;
      next_is = K.next_is;
      tail_is = K.tail_is;
      head_seen_is = K.head_seen_is;
      taken_is = next ∙ ap (position_at v.start) (sym one);
      head_is = K.head_is;
      tail_seen_is = K.tail_seen_is;
      ahead = ap (λ (z : ℕ). drop z v.seen) one ∙ (dropped v.seen at b ys (K.ahead ∙ is)).0;
      held = sym (append_assoc (E ++ (i, None) ∷ []) Y' (X ++ F)) ∙ ap (λ l. l ++ (X ++ F)) (ap₂ (λ (p q : List (ℕ × Option T)). p ++ q)
          (ap (λ (j : ℕ). E ++ (j, None) ∷ []) where_it ∙ ap (λ (z : ℕ). E ++ (slot_at c v.start z, None) ∷ []) (let q : at ≡ v.head + length {A = Option T} (replicate e None) = omega arith in q)
          ∙ sym (slots_from_append c v.start v.head (replicate e None) (None ∷ [])) ∙ ap (slots_from c v.start v.head) (sym (twice e 1 None) ∙ ap (λ (z : ℕ). replicate z None) (let q : e + 1 ≡ length v.seen - length ys - v.head = omega arith in q)))
          (ap (λ (z : ℕ). slots_from c v.start z (map Some ys)) (let q : suc at ≡ length v.seen - length ys = omega arith in q)));
    }

    pub take_waits : drop at v.published ≡ b ∷ drop (length v.seen - length ys) v.published
    take_waits = let ly : length y ≡ suc (length ys) = ap length is in let a = K.inside in let q : at + 1 ≡ length v.seen - length ys = omega arith in
        let all = waits ∙ ap (λ l. l ++ drop (length v.seen) v.published) is in all ∙ ap (λ l. b ∷ l) (sym (dropped v.published at b (ys ++ drop (length v.seen) v.published) all).0 ∙ ap (λ (z : ℕ). drop z v.published) q)

  -- publish of the head
  release_hand : h ≡ slots_from v.capacity v.start v.head (replicate (at - v.head) None) ++ (Y ++ (X ++ F))
  release_hand = K.held ∙ append_assoc E Y (X ++ F) ∙ (λ i. slots_from (sym K.same i) v.start v.head (replicate (at - v.head) None) ++ (Y ++ (X ++ F)))

  release_word : k ≡ position_at v.start (v.head + (at - v.head))
  release_word = let a = K.inside in K.taken_is ∙ ap (position_at v.start) (let q : at ≡ v.head + (at - v.head) = omega arith in q)

  pub may_release : (slots id : ℕ) → Allows RuleHolds slots id (v, h) 1 (λ _. k) (λ _. stored_local_head k (v, h))
  may_release slots id = let a = K.inside in let b = K.shown in let d = K.fits in let e = K.gained in let f = K.same in releases_local slots id (v, h) k (at - v.head) (Y ++ (X ++ F)) K.takes (omega arith) (omega arith) release_word release_hand

  pub released_seat : (u : Me (Option T) (SeatView T)) → stored_local_head k (v, h) u → u ≡ (record v { head = v.head + (at - v.head) }, Y ++ (X ++ F))
  released_seat u told = let a = K.inside in let b = K.shown in let d = K.fits in let e = K.gained in let small = K.size.small in head_told (v, h) k (at - v.head) (Y ++ (X ++ F)) (omega arith) release_word release_hand u told

  pub release_on : LocalHolds (record v { head = v.head + (at - v.head) }) x y (Y ++ (X ++ F)) c n t hs k k ts
  release_on = let a = K.inside in let e = K.gained in record {
    size = K.size;
    sends = K.sends;
    takes = K.takes;
    same = K.same;
    inside = omega arith;
    shown = K.shown;
    prefix = K.prefix;
    loaded = K.loaded;
    fits = K.fits;
    gained = omega arith;
    next_is = K.next_is;
    tail_is = K.tail_is;
    head_seen_is = K.head_seen_is;
    taken_is = K.taken_is;
    head_is = release_word;
    tail_seen_is = K.tail_seen_is;
    ahead = K.ahead;
    held = ap (λ (z : ℕ). slots_from c v.start (v.head + (at - v.head)) (replicate z None) ++ Y ++ (X ++ F)) (let q : 0 ≡ at - (v.head + (at - v.head)) = omega arith in q);
  }

  -- refresh of the tail
  module _ (u : Me (Option T) (SeatView T)) (count : ℕ) (e : count ≡ length v.seen - v.head) (is : u ≡ (v, turned_times count h)) where
    ready : u ≡ (v, X ++ F ++ (E ++ Y))
    ready = is ∙ ap (λ l. (v, l)) (ap (turned_times count) K.held ∙ turned_by count (E ++ Y) (X ++ F) (e ∙ sym length_front))

    pub tail_told_of : (r : ℕ) (w : Me (Option T) (SeatView T)) → loaded_tail u r w → loaded_tail (v, X ++ F ++ (E ++ Y)) r w
    tail_told_of r w = subst (λ z. loaded_tail z r w) ready

    pub tail_seat : (r : ℕ) (w z : Me (Option T) (SeatView T)) (told : loaded_tail u r w) (more : ℕ) → more ≡ length (tail_told_of r w told).0 + (v.limit - length v.published) → z ≡ (w.0, turned_times more w.1)
        → z ≡ (record v { seen = v.seen ++ (tail_told_of r w told).0 }, E ++ Y ++ (slots_from c v.start (length v.seen) (map Some (tail_told_of r w told).0) ++ (X ++ F)))
    tail_seat r w z told more many at_end = let t = tail_told_of r w told in let N : List (ℕ × Option T) = slots_from c v.start (length v.seen) (map Some t.0) in
        let ln : length N ≡ length t.0 = length_slots_from c v.start (length v.seen) (map Some t.0) ∙ length-map t.0 Some in
        at_end ∙ ap (λ q. (q.0, turned_times more q.1)) (t.3 ∙ (λ i. (record v { seen = v.seen ++ t.0 }, slots_from (K.same i) v.start (length v.seen) (map Some t.0) ++ (X ++ F ++ (E ++ Y)))))
        ∙ ap (λ l. (record v { seen = v.seen ++ t.0 }, l)) (ap (turned_times more) (sym (append_assoc N (X ++ F) (E ++ Y))) ∙ turned_by more (N ++ (X ++ F)) (E ++ Y) (many ∙ sym (length-append N (X ++ F) ∙ ap₂ (λ (p q : ℕ). p + q) ln length_back)))

  pub tail_on : (xs : List T) (m : ℕ) → v.seen ++ xs ≡ v.published → m ≡ position_at v.start (length (v.seen ++ xs)) → LocalHolds (record v { seen = v.seen ++ xs }) x (y ++ xs) (E ++ Y ++ (slots_from c v.start (length v.seen) (map Some xs) ++ (X ++ F))) c n t hs k hd m
  tail_on xs m all is = let a = K.inside in let b = K.shown in let l0 = length-append v.seen xs in let l1 = length-append y xs in let same_at : at ≡ length (v.seen ++ xs) - length (y ++ xs) = omega arith in let N : List (ℕ × Option T) = slots_from c v.start (length v.seen) (map Some xs) in record {
    size = K.size;
    sends = K.sends;
    takes = K.takes;
    same = K.same;
    inside = omega arith;
    shown = omega (arith, ap length all);
    prefix = ap₂ (λ (q : ℕ) (l : List T). take q l) (ap length all) refl ∙ take-length v.published ∙ sym all;
    loaded = K.loaded;
    fits = K.fits;
    gained = K.gained;
    next_is = K.next_is;
    tail_is = K.tail_is;
    head_seen_is = K.head_seen_is;
    taken_is = K.taken_is ∙ ap (position_at v.start) same_at;
    head_is = K.head_is;
    tail_seen_is = is;
    ahead = ap (λ (z : ℕ). drop z (v.seen ++ xs)) (sym same_at) ∙ drop_longer v.seen xs at (omega arith) ∙ ap (λ l. l ++ xs) K.ahead;
    held = sym (append_assoc (E ++ Y) N (X ++ F)) ∙ ap (λ l. l ++ (X ++ F)) (append_assoc E Y N ∙ (λ i. slots_from c v.start v.head (replicate (same_at i - v.head) None) ++
        ((ap (λ (z : ℕ). Y ++ slots_from c v.start z (map Some xs)) (let q : length v.seen ≡ at + length (map Some y) = omega (arith, length-map y Some) in q) ∙ sym (slots_from_append c v.start at (map Some y) (map Some xs)) ∙ (λ j. slots_from c v.start (same_at j) (sym (map_append Some y xs) j))) i)));
  }

-- a new ring
pub new_on : {T : Type 0} (c start : ℕ) → IsSize c → start < 4294967296 → LocalHolds {T = T} (record (first_view start c) { limit = c }) [] [] (slots_from c start 0 (replicate c None)) c start start start start start start
new_on c start size lt = let w = sym (position_start start lt) in record {
  size = size;
  sends = refl;
  takes = refl;
  same = refl;
  inside = omega arith;
  shown = omega arith;
  prefix = refl;
  loaded = omega arith;
  fits = omega arith;
  gained = omega arith;
  next_is = w;
  tail_is = w;
  head_seen_is = w ∙ ap (position_at start) (let e : 0 ≡ c - c = omega arith in e);
  taken_is = w;
  head_is = w;
  tail_seen_is = w;
  ahead = refl;
  held = ap (λ (z : ℕ). slots_from c start 0 (replicate z None)) (let e : c ≡ c - (0 + 0) = omega arith in e);
}

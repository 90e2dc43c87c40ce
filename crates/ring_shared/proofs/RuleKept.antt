-- Each step of the two ends keeps the rule.
use Rattle.std.proofs.Common.{◌≡◌, ◌≢◌, ℕ, zero, suc, ◌+◌, ◌-◌, ◌<◌, ◌≤◌, ⊎_elim, true, List, [], ◌∷◌, ◌++◌, length, replicate, map, take, drop, set, Option, Some, None, sym, refl, ap, ap₂, ◌∙◌, subst, arith, append_assoc, append-nil, length-append, length-set, get_or-set_same, get_or-set_other, lt_of_not-le}
use mathlib.Core.Option.{some}
use mathlib.Core.Option as maybe
use mathlib.Core.Logic.{dite}
use native.Mathlib.Decide.{dec_le, ℕ_discrete}
use lib.ListN.{get_elem?}
use lib.Seq.{set-get_or}
use lib.ListN.{length-replicate}
use Rattle.std.proofs.lemmas.List.{length-map, take_at, drop_at}
use Rattle.std.proofs.Common.{Bool, false}
use Rattle.atomic_table.specs.Table.{State, Me, Act, keeps, Allows, Splits, Joins, opening, stepped, homes_after, carried_after}
use Rattle.atomic_table.proofs.Lists.{at_set, set_here, set_else, set_again, at_map, at_longer, at_last}
use Rattle.ring_core.specs.Positions.{position_at}
use Rattle.ring_shared.specs.Sizes.{IsSize, slot_at}
use Rattle.ring_core.proofs.PlaceLemmas.{position_between}
use Rattle.ring_shared.proofs.Sizes.{slot_lt, slot_turn}
use Rattle.ring_shared.specs.declared.view.SeatView.{SeatView}
use Rattle.ring_shared.specs.HeldSlots.{slots_from, items_of, empty_slots, full_slots}
use Rattle.ring_shared.specs.Rule.{first_view, spent_view, without_taker, without_sender, joined, RingParts, AgreesWith, HasPart, RuleHolds}
use Rattle.ring_shared.specs.WordSteps.{stored_tail, loaded_head, stored_head, loaded_tail, compared, distance, stored_local_tail, stored_local_head}
use Rattle.ring_shared.proofs.HeldSlots.{length_slots_from, items_append, empty_append, full_append, items_full, items_empty, empty_full, empty_empty, full_full, full_empty}
use Rattle.ring_shared.proofs.Lists.{far, at_lt, at_append, at_second, at_replicate, at_repeated, at_map_of}
use Rattle.ring_shared.proofs.SlotActs.{Apart, take_run, give_run, carried_takes, takes_else, takes_length, takes_valid, carried_gives, gives_valid, gives_else, gives_length, gives_here}

is_false : Bool → Type 0
is_false false = Unit {0}
is_false true = ⊥

false-ne-true : false ≡ true → ⊥
unfolding is_false
false-ne-true e = subst is_false e tt

-- the n slots from the position q on are none of p
clear : (c start p q n : ℕ) → ((i : ℕ) → i < n → (p ≢ q + i) × (p < q + i + c) × (q + i < p + c)) → Apart c start q n (slot_at c start p)
clear c start p q n h i lt = let t = h i lt in far c start p (q + i) t.0 t.1 t.2

module _ {T : Type 0} where
  seats_after : (d d' : RingParts T) (views : List (SeatView T)) (id : ℕ) (w : SeatView T) → AgreesWith d' id w → ((j : ℕ) (v : SeatView T) → j ≢ id → AgreesWith d j v → AgreesWith d' j v)
      → ((j : ℕ) (v : SeatView T) → get_elem? views j ≡ some v → AgreesWith d j v) → (j : ℕ) (v : SeatView T) → get_elem? (set views id w) j ≡ some v → AgreesWith d' j v
  seats_after d d' views id w mine others old j v e = ⊎_elim (λ (x : (j ≡ id) × (w ≡ v)). subst (λ (y : ℕ × SeatView T). AgreesWith d' y.0 y.1) (λ i. (sym x.0 i, x.1 i)) mine)
      (λ (x : (j ≢ id) × (get_elem? views j ≡ some v)). others j v x.0 (old j v x.1)) (at_set views id j w v e)

  -- a part that a seat's view keeps stays where it was
  still : (has : SeatView T → Bool) (views : List (SeatView T)) (id : ℕ) (v w : SeatView T) (j : ℕ) → get_elem? views id ≡ some v → (has v ≡ true → has w ≡ true) → HasPart has views j → HasPart has (set views id w) j
  still has views id v w j at keeps_it st = dite (ℕ_discrete j id)
      (λ e. (w, ap (get_elem? (set views id w)) e ∙ set_here views id w (at_lt views id v at), keeps_it (ap has (maybe.some-injective v st.0 (sym at ∙ ap (get_elem? views) (sym e) ∙ st.1)) ∙ st.2)))
      (λ ne. (st.0, set_else views id j w ne ∙ st.1, st.2))

  -- the sender publishes
  module _ (s : State (Option T) (SeatView T)) (r : RuleHolds s) (id : ℕ) (v : SeatView T) (xs : List T) (held : List (ℕ × Option T)) (new : ℕ) (at : get_elem? s.views id ≡ some v) (part : v.sends ≡ true)
      (fits : length v.published + length xs ≤ v.limit) (near : length xs ≤ v.capacity) (is : new ≡ position_at v.start (length v.published + length xs)) where
    abbrev d : RingParts T
    d = r.parts

    abbrev d' : RingParts T
    d' = record r.parts { published = r.parts.published ++ xs }

    publish_keeps : (v.start ≡ r.parts.start) → (v.capacity ≡ r.parts.capacity) → (v.published ≡ r.parts.published) → (v.limit ≡ r.parts.limit) → id ≡ r.parts.sender
        → RuleHolds (stepped s 0 new id (slots_from r.parts.capacity r.parts.start (length r.parts.published) (map Some xs) ++ held) (record v { published = v.published ++ xs }) (give_run r.parts.capacity r.parts.start (map Some xs)))
    publish_keeps e_start e_cap e_sent e_limit e_id =
        let c : ℕ = r.parts.capacity in let z : ℕ = r.parts.start in let t : ℕ = length r.parts.published in let n : ℕ = length xs in let m : length (map Some xs) ≡ n = length-map xs Some in
        let o0 = r.order.taken in let o1 = r.order.seen in let o2 = r.order.published in let o3 = r.order.gained in
        let l0 : t + n ≤ r.parts.limit = omega (arith, fits, ap length e_sent, e_limit) in
        let l1 : length (map Some xs) ≤ c = omega (arith, near, e_cap, m) in
        record {
          parts = d';
          size = r.size;
          count = gives_length c z s.homes held t (map Some xs) ∙ r.count;
          word_count = length-set s.words 0 new ∙ r.word_count;
          tail_word = get_or-set_same s.words 0 new 0 (let q = r.word_count in omega arith) ∙ is ∙ ap₂ position_at e_start (omega (arith, ap length e_sent, length-append r.parts.published xs));
          head_word = get_or-set_other s.words 0 1 new 0 (omega arith) ∙ r.head_word;
          order = record { taken = o0; seen = omega (arith, length-append r.parts.published xs); published = omega (arith, length-append r.parts.published xs); gained = o3 };
          seats = seats_after d d' s.views id (record v { published = v.published ++ xs })
              (record {
                as_sender = λ e. let f = (r.seats id v at).as_sender e in (f.0, f.1, f.2, ap (λ l. l ++ xs) f.3, f.4);
                as_taker = λ e. (r.seats id v at).as_taker e;
              })
              (λ j u ne f. record { as_sender = λ e. absurd (ne ((f.as_sender e).0 ∙ sym e_id)); as_taker = λ e. f.as_taker e })
              r.seats;
          a_sender = still (λ u. u.sends) s.views id v (record v { published = v.published ++ xs }) r.parts.sender at (λ e. e) r.a_sender;
          a_taker = still (λ u. u.takes) s.views id v (record v { published = v.published ++ xs }) r.parts.taker at (λ e. e) r.a_taker;
          full = λ p x le e. ⊎_elim
              (λ (old : get_elem? r.parts.published p ≡ some x). let lt : p < t = at_lt r.parts.published p x old in
              gives_else c z s.homes held t (map Some xs) (slot_at c z p) (clear c z p t (length (map Some xs)) (λ i il. ((λ q. omega arith), omega arith, omega arith))) ∙ r.full p x le old)
              (λ (new_one : (i : ℕ) × (p ≡ t + i) × (get_elem? xs i ≡ some x)).
              ap (λ (k : ℕ). get_elem? (homes_after s.homes (slots_from c z t (map Some xs) ++ held) (give_run c z (map Some xs))) (slot_at c z k)) new_one.1
              ∙ gives_here c z s.homes held t (map Some xs) l1 r.count r.size.some new_one.0 (Some x) (at_map Some xs new_one.0 x new_one.2))
              (at_append r.parts.published xs p x e);
          empty = λ p a b. gives_else c z s.homes held t (map Some xs) (slot_at c z p) (clear c z p t (length (map Some xs)) (λ i il. ((λ q. omega arith), omega arith, omega arith))) ∙ r.empty p a b;
          prefix = (r.prefix.0 ++ xs, ap (λ l. l ++ xs) r.prefix.1 ∙ append_assoc r.parts.seen r.prefix.0 xs);
        }

  -- what is out with the sender before it publishes
  pub items_held : (c z p q n : ℕ) (xs : List T) → items_of (slots_from c z p (map Some xs) ++ slots_from c z q (replicate n None)) ≡ xs
  items_held c z p q n xs = items_append (slots_from c z p (map Some xs)) (slots_from c z q (replicate n None)) ∙ ap₂ (λ a b. a ++ b) (items_full c z p xs) (items_empty c z q n) ∙ append-nil xs

  pub empty_held : (c z p q n : ℕ) (xs : List T) → empty_slots (slots_from c z p (map Some xs) ++ slots_from c z q (replicate n None)) ≡ slots_from c z q (replicate n None)
  empty_held c z p q n xs = empty_append (slots_from c z p (map Some xs)) (slots_from c z q (replicate n None)) ∙ ap₂ (λ a b. a ++ b) (empty_full c z p xs) (empty_empty c z q n)

  pub publishes : (slots id : ℕ) (m : Me (Option T) (SeatView T)) (xs : List T) (new q n : ℕ) → m.0.sends ≡ true → length m.0.published + length xs ≤ m.0.limit → length xs ≤ m.0.capacity
      → new ≡ position_at m.0.start (length m.0.published + length xs) → m.1 ≡ slots_from m.0.capacity m.0.start (length m.0.published) (map Some xs) ++ slots_from m.0.capacity m.0.start q (replicate n None)
      → Allows RuleHolds slots id m 0 (λ _. new) (λ _. stored_tail m)
  publishes slots id m xs new q n part fits near is held = λ s r len at lt.
      let f = (r.seats id m.0 at).as_sender part in let c : ℕ = r.parts.capacity in let z : ℕ = r.parts.start in
      let rest : List (ℕ × Option T) = slots_from m.0.capacity m.0.start q (replicate n None) in
      let w : SeatView T = record m.0 { published = m.0.published ++ xs } in
      let h : m.1 ≡ slots_from c z (length r.parts.published) (map Some xs) ++ rest = held ∙ (λ i. slots_from (f.2 i) (f.1 i) (length (f.3 i)) (map Some xs) ++ rest) in
      let a : Act (Option T) = give_run c z (map Some xs) in (
        w,
        a,
        gives_valid c z s.homes m.1 (map Some xs),
        subst (λ l. RuleHolds (stepped s 0 new id l w a)) (sym h) (publish_keeps s r id m.0 xs rest new at part fits near is f.1 f.2 f.3 f.4 f.0),
        ap₂ (λ (k : List T) (l : List (ℕ × Option T)). (record m.0 { published = m.0.published ++ k }, l)) (sym (ap items_of held ∙ items_held m.0.capacity m.0.start (length m.0.published) q n xs))
            (ap (λ l. carried_after l a) h ∙ carried_gives c z rest (length r.parts.published) (map Some xs) ∙ sym (ap empty_slots held ∙ empty_held m.0.capacity m.0.start (length m.0.published) q n xs)),
      )

  -- the sender loads the head
  pub gains : (slots id : ℕ) (m : Me (Option T) (SeatView T)) → m.0.sends ≡ true → Allows RuleHolds slots id m 1 (λ n. n) (loaded_head m)
  gains slots id m part = λ s r len at lt.
      let f = (r.seats id m.0 at).as_sender part in let c : ℕ = r.parts.capacity in let z : ℕ = r.parts.start in let t : ℕ = length r.parts.published in let l : ℕ = r.parts.limit in
      let o0 = r.order.taken in let o1 = r.order.seen in let o2 = r.order.published in let o3 = r.order.gained in
      let n : ℕ = r.parts.head + c - l in let ys : List (Option T) = replicate n None in let many : length ys ≡ n = length-replicate n None in
      let e_cap : m.0.capacity ≡ c = f.2 in let e_limit : m.0.limit ≡ l = f.4 in
      let w : SeatView T = record m.0 { limit = r.parts.head + c } in
      let d' : RingParts T = record r.parts { limit = r.parts.head + c } in
      let a : Act (Option T) = take_run c z l ys in
      let kept : RuleHolds (record { words = s.words; homes = homes_after s.homes m.1 a; views = set s.views id w }) = record {
        parts = d';
        size = r.size;
        count = takes_length c z s.homes m.1 l ys ∙ r.count;
        word_count = r.word_count;
        tail_word = r.tail_word;
        head_word = r.head_word;
        order = record { taken = o0; seen = o1; published = omega arith; gained = omega arith };
        seats = seats_after r.parts d' s.views id w
            (record { as_sender = λ e. (f.0, f.1, f.2, f.3, refl); as_taker = λ e. (r.seats id m.0 at).as_taker e })
            (λ j u ne g. record { as_sender = λ e. absurd (ne ((g.as_sender e).0 ∙ sym f.0)); as_taker = λ e. g.as_taker e })
            r.seats;
        a_sender = still (λ u. u.sends) s.views id m.0 w r.parts.sender at (λ e. e) r.a_sender;
        a_taker = still (λ u. u.takes) s.views id m.0 w r.parts.taker at (λ e. e) r.a_taker;
        full = λ p x le e. let near : p < t = at_lt r.parts.published p x e in
            takes_else c z s.homes m.1 l ys (slot_at c z p) (clear c z p l (length ys) (λ i il. ((λ q. omega arith), omega arith, omega arith))) ∙ r.full p x le e;
        empty = λ p x y. absurd (omega arith);
        prefix = r.prefix;
      } in (
        w,
        a,
        takes_valid c z s.homes m.1 l ys (omega arith) (λ i y e. let b = at_replicate n i None y e in let il = b.0 in r.empty (l + i) (omega arith) (omega arith) ∙ ap (λ (x : Option T). some (some x)) b.1),
        subst (λ (ws : List ℕ). RuleHolds (record { words = ws; homes = homes_after s.homes m.1 a; views = set s.views id w })) (sym (set-get_or s.words 1 0)) kept,
        (
          r.parts.head,
          r.head_word ∙ ap (λ (k : ℕ). position_at k r.parts.head) (sym f.1),
          omega arith,
          omega (arith, ap length f.3),
          (λ i. (record m.0 { limit = r.parts.head + sym e_cap i }, (carried_takes c z m.1 l ys ∙ (λ k. slots_from (sym e_cap k) (sym f.1 k) (sym e_limit k) (replicate (r.parts.head + sym e_cap k - sym e_limit k) None) ++ m.1)) i)),
          (λ e. sym ((r.seats id m.0 at).as_taker e).4),
        ),
      )

  -- the taker gives emptied slots back
  pub empty_back : (c z p q n : ℕ) (xs : List T) → empty_slots (slots_from c z p (replicate n None) ++ slots_from c z q (map Some xs)) ≡ slots_from c z p (replicate n None)
  empty_back c z p q n xs = empty_append (slots_from c z p (replicate n None)) (slots_from c z q (map Some xs)) ∙ ap₂ (λ a b. a ++ b) (empty_empty c z p n) (empty_full c z q xs) ∙ append-nil (slots_from c z p (replicate n None))

  pub full_back : (c z p q n : ℕ) (xs : List T) → full_slots (slots_from c z p (replicate n None) ++ slots_from c z q (map Some xs)) ≡ slots_from c z q (map Some xs)
  full_back c z p q n xs = full_append (slots_from c z p (replicate n None)) (slots_from c z q (map Some xs)) ∙ ap₂ (λ a b. a ++ b) (full_empty c z p n) (full_full c z q xs)

  release_keeps : (s : State (Option T) (SeatView T)) (r : RuleHolds s) (id : ℕ) (m : Me (Option T) (SeatView T)) (rest : List (ℕ × Option T)) (new n : ℕ) → get_elem? s.views id ≡ some m.0 → m.0.takes ≡ true → m.0.head + n ≤ length m.0.seen → new ≡ position_at m.0.start (m.0.head + n)
      → RuleHolds (stepped s 1 new id (slots_from r.parts.capacity r.parts.start r.parts.head (replicate n None) ++ rest) (record m.0 { head = m.0.head + n }) (give_run r.parts.capacity r.parts.start (replicate n None)))
  release_keeps s r id m rest new n at part fits is =
      let f = (r.seats id m.0 at).as_taker part in let c : ℕ = r.parts.capacity in let z : ℕ = r.parts.start in let b : ℕ = r.parts.head in
      let o0 = r.order.taken in let o1 = r.order.seen in let o2 = r.order.published in let o3 = r.order.gained in let k0 : ℕ = length r.parts.seen in let t : ℕ = length r.parts.published in let l : ℕ = r.parts.limit in
      let ys : List (Option T) = replicate n None in let many : length ys ≡ n = length-replicate n None in
      let l0 : b + n ≤ k0 = omega (arith, fits, ap length f.3, f.4) in
      let w : SeatView T = record m.0 { head = m.0.head + n } in
      let d' : RingParts T = record r.parts { head = r.parts.head + n } in
      let a : Act (Option T) = give_run c z ys in
      let after : List (ℕ × Option T) → List (maybe.Option (Option T)) = λ g. homes_after s.homes g a in
      record {
        parts = d';
        size = r.size;
        count = gives_length c z s.homes rest b ys ∙ r.count;
        word_count = length-set s.words 1 new ∙ r.word_count;
        tail_word = get_or-set_other s.words 1 0 new 0 (omega arith) ∙ r.tail_word;
        head_word = get_or-set_same s.words 1 new 0 (let e = r.word_count in omega arith) ∙ is ∙ ap₂ position_at f.1 (ap (λ (k : ℕ). k + n) f.4);
        order = record { taken = l0; seen = o1; published = o2; gained = omega arith };
        seats = seats_after r.parts d' s.views id w
            (record { as_sender = λ e. (r.seats id m.0 at).as_sender e; as_taker = λ e. (f.0, f.1, f.2, f.3, ap (λ (k : ℕ). k + n) f.4) })
            (λ j u ne g. record { as_sender = λ e. g.as_sender e; as_taker = λ e. absurd (ne ((g.as_taker e).0 ∙ sym f.0)) })
            r.seats;
        a_sender = still (λ u. u.sends) s.views id m.0 w r.parts.sender at (λ e. e) r.a_sender;
        a_taker = still (λ u. u.takes) s.views id m.0 w r.parts.taker at (λ e. e) r.a_taker;
        full = λ p x le e. let near : p < t = at_lt r.parts.published p x e in
            gives_else c z s.homes rest b ys (slot_at c z p) (clear c z p b (length ys) (λ i il. ((λ u. omega arith), omega arith, omega arith))) ∙ r.full p x le e;
        empty = λ p x y. dite (dec_le (b + c) p)
            (λ far_on. let i : ℕ = p - (b + c) in
            ap (λ (j : ℕ). get_elem? (after (slots_from c z b ys ++ rest)) j) (ap (slot_at c z) (let e : p ≡ b + i + c = omega arith in e) ∙ slot_turn c z (b + i))
            ∙ gives_here c z s.homes rest b ys (omega arith) r.count r.size.some i None (at_repeated n i None (omega arith)))
            (λ not. let near : p < b + c = lt_of_not-le not in
            gives_else c z s.homes rest b ys (slot_at c z p) (clear c z p b (length ys) (λ i il. ((λ u. omega arith), omega arith, omega arith))) ∙ r.empty p x near);
        prefix = r.prefix;
      }

  pub releases : (slots id : ℕ) (m : Me (Option T) (SeatView T)) (xs : List T) (new q n : ℕ) → m.0.takes ≡ true → m.0.head + n ≤ length m.0.seen
      → new ≡ position_at m.0.start (m.0.head + n) → m.1 ≡ slots_from m.0.capacity m.0.start m.0.head (replicate n None) ++ slots_from m.0.capacity m.0.start q (map Some xs)
      → Allows RuleHolds slots id m 1 (λ _. new) (λ _. stored_head m)
  releases slots id m xs new q n part fits is held = λ s r len at lt.
      let f = (r.seats id m.0 at).as_taker part in let c : ℕ = r.parts.capacity in let z : ℕ = r.parts.start in let b : ℕ = r.parts.head in
      let ys : List (Option T) = replicate n None in let many : length ys ≡ n = length-replicate n None in
      let rest : List (ℕ × Option T) = slots_from m.0.capacity m.0.start q (map Some xs) in
      let w : SeatView T = record m.0 { head = m.0.head + n } in
      let h : m.1 ≡ slots_from c z b ys ++ rest = held ∙ (λ i. slots_from (f.2 i) (f.1 i) (f.4 i) ys ++ rest) in
      let a : Act (Option T) = give_run c z ys in
      let kept : RuleHolds (stepped s 1 new id (slots_from c z b ys ++ rest) w a) = release_keeps s r id m rest new n at part fits is in (
        w,
        a,
        gives_valid c z s.homes m.1 ys,
        subst (λ g. RuleHolds (stepped s 1 new id g w a)) (sym h) kept,
        ap₂ (λ (k : ℕ) (g : List (ℕ × Option T)). (record m.0 { head = m.0.head + k }, g))
            (let e : length (empty_slots m.1) ≡ n = ap length (ap empty_slots held ∙ empty_back m.0.capacity m.0.start m.0.head q n xs) ∙ length_slots_from m.0.capacity m.0.start m.0.head ys ∙ many in sym e)
            (ap (λ g. carried_after g a) h ∙ carried_gives c z rest b ys ∙ sym (ap full_slots held ∙ full_back m.0.capacity m.0.start m.0.head q n xs)),
      )

  -- the two stores again, by how far the word goes on
  pub publishes_local : (slots id : ℕ) (m : Me (Option T) (SeatView T)) (xs : List T) (new : ℕ) (rest : List (ℕ × Option T)) → m.0.sends ≡ true → length m.0.published + length xs ≤ m.0.limit → length xs ≤ m.0.capacity
      → new ≡ position_at m.0.start (length m.0.published + length xs) → m.1 ≡ slots_from m.0.capacity m.0.start (length m.0.published) (map Some xs) ++ rest
      → Allows RuleHolds slots id m 0 (λ _. new) (λ _. stored_local_tail new m)
  publishes_local slots id m xs new rest part fits near is held = λ s r len at lt.
      let f = (r.seats id m.0 at).as_sender part in let c : ℕ = r.parts.capacity in let z : ℕ = r.parts.start in let small = r.size.small in
      let w : SeatView T = record m.0 { published = m.0.published ++ xs } in
      let h : m.1 ≡ slots_from c z (length r.parts.published) (map Some xs) ++ rest = held ∙ (λ i. slots_from (f.2 i) (f.1 i) (length (f.3 i)) (map Some xs) ++ rest) in
      let a : Act (Option T) = give_run c z (map Some xs) in
      let front : List (ℕ × Option T) = slots_from m.0.capacity m.0.start (length m.0.published) (map Some xs) in
      let wide : length front ≡ length xs = length_slots_from m.0.capacity m.0.start (length m.0.published) (map Some xs) ∙ length-map xs Some in
      let many : distance new m.0.start (length m.0.published) ≡ length xs = position_between m.0.start (length m.0.published) (length m.0.published + length xs) (position_at m.0.start (length m.0.published)) new refl is (omega arith) (omega (arith, near, small, f.2)) ∙ (let e : length m.0.published + length xs - length m.0.published ≡ length xs = omega arith in e) in (
        w,
        a,
        gives_valid c z s.homes m.1 (map Some xs),
        subst (λ l. RuleHolds (stepped s 0 new id l w a)) (sym h) (publish_keeps s r id m.0 xs rest new at part fits near is f.1 f.2 f.3 f.4 f.0),
        ap₂ (λ (k : List T) (l : List (ℕ × Option T)). (record m.0 { published = m.0.published ++ k }, l))
            (sym (ap (λ (n : ℕ). items_of (take n m.1)) many ∙ ap (λ l. items_of (take (length xs) l)) held ∙ ap items_of (take_at front rest (length xs) wide) ∙ items_full m.0.capacity m.0.start (length m.0.published) xs))
            (ap (λ l. carried_after l a) h ∙ carried_gives c z rest (length r.parts.published) (map Some xs) ∙ sym (ap (λ (n : ℕ). drop n m.1) many ∙ ap (drop (length xs)) held ∙ drop_at front rest (length xs) wide)),
      )

  -- what the store of a tail tells, in the end's own values
  pub tail_told : (m : Me (Option T) (SeatView T)) (xs : List T) (new : ℕ) (rest : List (ℕ × Option T)) → length xs ≤ 65536 → new ≡ position_at m.0.start (length m.0.published + length xs)
      → m.1 ≡ slots_from m.0.capacity m.0.start (length m.0.published) (map Some xs) ++ rest → (u : Me (Option T) (SeatView T)) → stored_local_tail new m u → u ≡ (record m.0 { published = m.0.published ++ xs }, rest)
  tail_told m xs new rest near is held u told =
      let front : List (ℕ × Option T) = slots_from m.0.capacity m.0.start (length m.0.published) (map Some xs) in
      let wide : length front ≡ length xs = length_slots_from m.0.capacity m.0.start (length m.0.published) (map Some xs) ∙ length-map xs Some in
      let many : distance new m.0.start (length m.0.published) ≡ length xs = position_between m.0.start (length m.0.published) (length m.0.published + length xs) (position_at m.0.start (length m.0.published)) new refl is (omega arith) (omega arith) ∙ (let e : length m.0.published + length xs - length m.0.published ≡ length xs = omega arith in e) in
      told ∙ ap₂ (λ (k : List T) (l : List (ℕ × Option T)). (record m.0 { published = m.0.published ++ k }, l))
      (ap (λ (n : ℕ). items_of (take n m.1)) many ∙ ap (λ l. items_of (take (length xs) l)) held ∙ ap items_of (take_at front rest (length xs) wide) ∙ items_full m.0.capacity m.0.start (length m.0.published) xs)
      (ap (λ (n : ℕ). drop n m.1) many ∙ ap (drop (length xs)) held ∙ drop_at front rest (length xs) wide)

  pub releases_local : (slots id : ℕ) (m : Me (Option T) (SeatView T)) (new n : ℕ) (rest : List (ℕ × Option T)) → m.0.takes ≡ true → m.0.head + n ≤ length m.0.seen → n ≤ m.0.capacity
      → new ≡ position_at m.0.start (m.0.head + n) → m.1 ≡ slots_from m.0.capacity m.0.start m.0.head (replicate n None) ++ rest
      → Allows RuleHolds slots id m 1 (λ _. new) (λ _. stored_local_head new m)
  releases_local slots id m new n rest part fits near is held = λ s r len at lt.
      let f = (r.seats id m.0 at).as_taker part in let c : ℕ = r.parts.capacity in let z : ℕ = r.parts.start in let b : ℕ = r.parts.head in let small = r.size.small in
      let ys : List (Option T) = replicate n None in
      let w : SeatView T = record m.0 { head = m.0.head + n } in
      let h : m.1 ≡ slots_from c z b ys ++ rest = held ∙ (λ i. slots_from (f.2 i) (f.1 i) (f.4 i) ys ++ rest) in
      let a : Act (Option T) = give_run c z ys in
      let front : List (ℕ × Option T) = slots_from m.0.capacity m.0.start m.0.head ys in
      let wide : length front ≡ n = length_slots_from m.0.capacity m.0.start m.0.head ys ∙ length-replicate n None in
      let many : distance new m.0.start m.0.head ≡ n = position_between m.0.start m.0.head (m.0.head + n) (position_at m.0.start m.0.head) new refl is (omega arith) (omega (arith, near, small, f.2)) ∙ (let e : m.0.head + n - m.0.head ≡ n = omega arith in e) in (
        w,
        a,
        gives_valid c z s.homes m.1 ys,
        subst (λ g. RuleHolds (stepped s 1 new id g w a)) (sym h) (release_keeps s r id m rest new n at part fits is),
        ap₂ (λ (k : ℕ) (g : List (ℕ × Option T)). (record m.0 { head = m.0.head + k }, g)) (sym many)
            (ap (λ g. carried_after g a) h ∙ carried_gives c z rest b ys ∙ sym (ap (λ (k : ℕ). drop k m.1) many ∙ ap (drop n) held ∙ drop_at front rest n wide)),
      )

  pub head_told : (m : Me (Option T) (SeatView T)) (new n : ℕ) (rest : List (ℕ × Option T)) → n ≤ 65536 → new ≡ position_at m.0.start (m.0.head + n)
      → m.1 ≡ slots_from m.0.capacity m.0.start m.0.head (replicate n None) ++ rest → (u : Me (Option T) (SeatView T)) → stored_local_head new m u → u ≡ (record m.0 { head = m.0.head + n }, rest)
  head_told m new n rest near is held u told =
      let front : List (ℕ × Option T) = slots_from m.0.capacity m.0.start m.0.head (replicate n None) in
      let wide : length front ≡ n = length_slots_from m.0.capacity m.0.start m.0.head (replicate n None) ∙ length-replicate n None in
      let many : distance new m.0.start m.0.head ≡ n = position_between m.0.start m.0.head (m.0.head + n) (position_at m.0.start m.0.head) new refl is (omega arith) (omega arith) ∙ (let e : m.0.head + n - m.0.head ≡ n = omega arith in e) in
      told ∙ ap₂ (λ (k : ℕ) (l : List (ℕ × Option T)). (record m.0 { head = m.0.head + k }, l)) many
      (ap (λ (k : ℕ). drop k m.1) many ∙ ap (drop n) held ∙ drop_at front rest n wide)

  -- the taker loads the tail
  pub fills : (slots id : ℕ) (m : Me (Option T) (SeatView T)) → m.0.takes ≡ true → Allows RuleHolds slots id m 0 (λ n. n) (loaded_tail m)
  fills slots id m part = λ s r len at lt.
      let f = (r.seats id m.0 at).as_taker part in let c : ℕ = r.parts.capacity in let z : ℕ = r.parts.start in let b : ℕ = r.parts.head in
      let o0 = r.order.taken in let o1 = r.order.seen in let o2 = r.order.published in let o3 = r.order.gained in let k0 : ℕ = length r.parts.seen in let t : ℕ = length r.parts.published in let l : ℕ = r.parts.limit in
      let xs : List T = r.prefix.0 in let ys : List (Option T) = map Some xs in let many : length ys ≡ length xs = length-map xs Some in
      let all : t ≡ k0 + length xs = ap length r.prefix.1 ∙ length-append r.parts.seen xs in
      let w : SeatView T = record m.0 { seen = m.0.seen ++ xs } in
      let d' : RingParts T = record r.parts { seen = r.parts.published } in
      let same : m.0.seen ++ xs ≡ r.parts.published = ap (λ k. k ++ xs) f.3 ∙ sym r.prefix.1 in
      let a : Act (Option T) = take_run c z k0 ys in
      let kept : RuleHolds (record { words = s.words; homes = homes_after s.homes m.1 a; views = set s.views id w }) = record {
        parts = d';
        size = r.size;
        count = takes_length c z s.homes m.1 k0 ys ∙ r.count;
        word_count = r.word_count;
        tail_word = r.tail_word;
        head_word = r.head_word;
        order = record { taken = omega arith; seen = omega arith; published = o2; gained = o3 };
        seats = seats_after r.parts d' s.views id w
            (record { as_sender = λ e. (r.seats id m.0 at).as_sender e; as_taker = λ e. (f.0, f.1, f.2, same, f.4) })
            (λ j u ne g. record { as_sender = λ e. g.as_sender e; as_taker = λ e. absurd (ne ((g.as_taker e).0 ∙ sym f.0)) })
            r.seats;
        a_sender = still (λ u. u.sends) s.views id m.0 w r.parts.sender at (λ e. e) r.a_sender;
        a_taker = still (λ u. u.takes) s.views id m.0 w r.parts.taker at (λ e. e) r.a_taker;
        full = λ p x le e. let near : p < t = at_lt r.parts.published p x e in absurd (omega arith);
        empty = λ p x y. takes_else c z s.homes m.1 k0 ys (slot_at c z p) (clear c z p k0 (length ys) (λ i il. ((λ u. omega arith), omega arith, omega arith))) ∙ r.empty p x y;
        prefix = ([], sym (append-nil r.parts.published));
      } in (
        w,
        a,
        takes_valid c z s.homes m.1 k0 ys (omega arith) (λ i y e. let u = at_map_of Some xs i y e in
            r.full (k0 + i) u.0 (omega arith) (ap (λ k. get_elem? k (k0 + i)) r.prefix.1 ∙ at_second r.parts.seen xs i u.0 u.1) ∙ ap (λ (x : Option T). some (some x)) u.2),
        subst (λ (ws : List ℕ). RuleHolds (record { words = ws; homes = homes_after s.homes m.1 a; views = set s.views id w })) (sym (set-get_or s.words 0 0)) kept,
        (
          xs,
          r.tail_word ∙ ap₂ position_at (sym f.1) (ap length (sym same)),
          omega (arith, ap length same, f.4, f.2),
          (λ i. (w, (carried_takes c z m.1 k0 ys ∙ (λ k. slots_from (sym f.2 k) (sym f.1 k) (length (sym f.3 k)) ys ++ m.1)) i)),
          (λ e. same ∙ sym ((r.seats id m.0 at).as_sender e).3),
        ),
      )

  only : (a b : SeatView T) (i : ℕ) → get_elem? (a ∷ []) i ≡ some b → (i ≡ 0) × (a ≡ b)
  only a b zero e = (refl, maybe.some-injective a b e)
  only a b (suc i) e = absurd (maybe.some-ne-none b (sym e))

  -- the taker's part goes to a new seat
  pub splits : (id : ℕ) (v : SeatView T) → v.takes ≡ true → Splits RuleHolds id v (without_taker v) (without_sender v)
  splits id v part = λ s r at.
      let f = (r.seats id v at).as_taker part in
      let l : SeatView T = without_taker v in
      let d' : RingParts T = record r.parts { taker = length s.views } in
      let wide : length (set s.views id l) ≡ length s.views = length-set s.views id l in
      record {
        parts = d';
        size = r.size;
        count = r.count;
        word_count = r.word_count;
        tail_word = r.tail_word;
        head_word = r.head_word;
        order = record { taken = r.order.taken; seen = r.order.seen; published = r.order.published; gained = r.order.gained };
        seats = λ j u e. ⊎_elim
            (λ (old : get_elem? (set s.views id l) j ≡ some u). seats_after r.parts d' s.views id l
            (record { as_sender = λ x. (r.seats id v at).as_sender x; as_taker = λ x. absurd (false-ne-true x) })
            (λ i w ne g. record { as_sender = λ x. g.as_sender x; as_taker = λ x. absurd (ne ((g.as_taker x).0 ∙ sym f.0)) })
            r.seats j u old)
            (λ (new_one : (i : ℕ) × (j ≡ length (set s.views id l) + i) × (get_elem? (without_sender v ∷ []) i ≡ some u)). let o = only (without_sender v) u new_one.0 new_one.2 in
            let place : j ≡ length s.views = omega (arith, new_one.1, o.0, wide) in
            subst (λ (y : SeatView T). AgreesWith d' j y) o.1 (record { as_sender = λ x. absurd (false-ne-true x); as_taker = λ x. (place, f.1, f.2, f.3, f.4) }))
            (at_append (set s.views id l) (without_sender v ∷ []) j u e);
        a_sender = let st = still (λ u. u.sends) s.views id v l r.parts.sender at (λ e. e) r.a_sender in (st.0, at_longer (set s.views id l) (without_sender v ∷ []) r.parts.sender st.0 st.1, st.2);
        a_taker = (without_sender v, at_last (set s.views id l) (without_sender v) (length s.views) wide, part);
        full = r.full;
        empty = r.empty;
        prefix = r.prefix;
      }

  -- the sender takes in the taker's part
  pub joins : (id other : ℕ) (v w : SeatView T) → v.sends ≡ true → w.takes ≡ true → Joins RuleHolds id v other w (joined v w) spent_view
  joins id other v w sends takes = λ s r at apart there.
      let f = (r.seats id v at).as_sender sends in
      let was : get_elem? s.views other ≡ some w = ⊎_elim (λ (x : (other ≡ id) × (joined v w ≡ w)). absurd (apart x.0)) (λ (x : (other ≢ id) × (get_elem? s.views other ≡ some w)). x.1) (at_set s.views id other (joined v w) w there) in
      let g = (r.seats other w was).as_taker takes in
      let d' : RingParts T = record r.parts { taker = id } in
      record {
        parts = d';
        size = r.size;
        count = r.count;
        word_count = r.word_count;
        tail_word = r.tail_word;
        head_word = r.head_word;
        order = record { taken = r.order.taken; seen = r.order.seen; published = r.order.published; gained = r.order.gained };
        seats = λ j u e. ⊎_elim
            (λ (x : (j ≡ other) × (spent_view ≡ u)). subst (λ (y : SeatView T). AgreesWith d' j y) x.1 (record { as_sender = λ z. absurd (false-ne-true z); as_taker = λ z. absurd (false-ne-true z) }))
            (λ (x : (j ≢ other) × (get_elem? (set s.views id (joined v w)) j ≡ some u)). ⊎_elim
            (λ (y : (j ≡ id) × (joined v w ≡ u)). subst (λ (k : SeatView T). AgreesWith d' j k) y.1 (record { as_sender = λ z. (y.0 ∙ f.0, g.1, g.2, f.3, f.4); as_taker = λ z. (y.0, g.1, g.2, g.3, g.4) }))
            (λ (y : (j ≢ id) × (get_elem? s.views j ≡ some u)). let h = r.seats j u y.1 in
            record { as_sender = λ z. h.as_sender z; as_taker = λ z. absurd (x.0 ((h.as_taker z).0 ∙ sym g.0)) })
            (at_set s.views id j (joined v w) u x.1))
            (at_set (set s.views id (joined v w)) other j spent_view u e);
        a_sender = (joined v w, set_else (set s.views id (joined v w)) other r.parts.sender spent_view (λ q. apart (sym q ∙ sym f.0)) ∙ ap (get_elem? (set s.views id (joined v w))) (sym f.0) ∙ set_here s.views id (joined v w) (at_lt s.views id v at), refl);
        a_taker = (joined v w, set_else (set s.views id (joined v w)) other id spent_view (λ q. apart (sym q)) ∙ set_here s.views id (joined v w) (at_lt s.views id v at), takes);
        full = r.full;
        empty = r.empty;
        prefix = r.prefix;
      }

  -- who has both parts is told that what was seen is a front of what was published
  pub compares : (slots id : ℕ) (m : Me (Option T) (SeatView T)) → m.0.sends ≡ true → m.0.takes ≡ true → Allows RuleHolds slots id m 0 (λ n. n) (compared m)
  compares slots id m sends takes = λ s r len at lt.
      let f = (r.seats id m.0 at).as_sender sends in let g = (r.seats id m.0 at).as_taker takes in (
        m.0,
        keeps,
        tt,
        subst (λ (ws : List ℕ). RuleHolds (record { words = ws; homes = s.homes; views = set s.views id m.0 })) (sym (set-get_or s.words 0 0))
            (subst (λ (vs : List (SeatView T)). RuleHolds (record { words = s.words; homes = s.homes; views = vs })) (sym (set_again s.views id m.0 at)) r),
        (refl, r.tail_word ∙ ap₂ position_at (sym f.1) (ap length (sym f.3)), (let o = r.order.published in let p = r.order.gained in omega (arith, ap length f.3, g.4, f.2)), (let p = r.order.gained in omega (arith, f.4, g.4, f.2)), (r.prefix.0, f.3 ∙ r.prefix.1 ∙ ap (λ k. k ++ r.prefix.0) (sym g.3))),
      )

  -- the rule at the start
  pub opens : (c start a b : ℕ) → IsSize c → a ≡ position_at start 0 → b ≡ position_at start 0 → RuleHolds (opening (a ∷ b ∷ []) (replicate c None) (first_view {T = T} start c))
  opens c start a b size is_a is_b = record {
    parts = record { start = start; capacity = c; sender = 0; taker = 0; published = []; limit = 0; seen = []; head = 0 };
    size = size;
    count = length-map (replicate c None) some ∙ length-replicate c None;
    word_count = refl;
    tail_word = is_a;
    head_word = is_b;
    order = record { taken = omega arith; seen = omega arith; published = omega arith; gained = omega arith };
    seats = λ j u e. let o = only (first_view start c) u j e in subst (λ (y : SeatView T). AgreesWith (record { start = start; capacity = c; sender = 0; taker = 0; published = []; limit = 0; seen = []; head = 0 }) j y) o.1
        (record { as_sender = λ z. (o.0, refl, refl, refl, refl); as_taker = λ z. (o.0, refl, refl, refl, refl) });
    a_sender = (first_view start c, refl, refl);
    a_taker = (first_view start c, refl, refl);
    full = λ p x le e. absurd (maybe.some-ne-none x (sym e));
    empty = λ p x y. let near : slot_at c start p < c = slot_lt c start p size.some in at_map some (replicate c None) (slot_at c start p) None (at_repeated c (slot_at c start p) None near);
    prefix = ([], refl);
  }

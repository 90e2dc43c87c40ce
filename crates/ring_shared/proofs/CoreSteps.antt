-- Each move of an end is a step of the core.
use Rattle.std.proofs.Common.{◌≡◌, ℕ, zero, suc, Bool, ◌+◌, ◌<◌, List, [], ◌∷◌, ◌++◌, length, map, take, Option, Some, None, sym, refl, ap, ◌∙◌, subst, arith, append_assoc, length-append, lt-ltb, le-ltb}
use Rattle.std.proofs.lemmas.List.{length-map, take_at}
use Rattle.std.specs.Prelude.{slice_get, slice_index, if◌then◌else◌}
use Rattle.ring_core.specs.declared.steps.CoreStep.TheVariants.{Put, PublishTail, SeeHead, Take, PublishHead, SeeTail}
use Rattle.ring_core.specs.declared.answers.CoreAnswer.TheVariants.{Done, Full, Empty, Got}
use Rattle.ring_core.specs.RingState.{RingState, PositionsInOrder, opening, after_step, answer}
use Rattle.ring_shared.specs.declared.ring.SendEnd.{SendEnd}
use Rattle.ring_shared.specs.declared.ring.TakeEnd.{TakeEnd}
use Rattle.ring_shared.specs.Ends.{sent, published, published_items, head_loaded, send_capacity, seen, taken, head_published, take_capacity}
use Rattle.ring_shared.specs.HeldSlots.{items_of}
use Rattle.ring_shared.specs.StateParts.{IsSenderIn, IsTakerIn, state_of, AreInState}
use Rattle.ring_shared.proofs.SenderKept.{map_append}
use Rattle.ring_shared.proofs.TakerKept.{not_empty, tail_of, head_or, of_some}

IsThere : {T : Type 0} → Option T → Type 0
IsThere None = Unit {0}
IsThere (Some x) = ⊥

pub no_some : {T : Type 0} (x : T) → None ≡ Some x → ⊥
unfolding IsThere
no_some x e = subst IsThere e tt

-- what stands at a place of a front of numbers
numbered : {T : Type 0} (number : T → ℕ) (vs : List ℕ) (xs : List T) (n k : ℕ) (x : T) → take n vs ≡ map number xs → slice_get xs k ≡ Some x → slice_index vs k ≡ number x
numbered number vs [] n k x e at = absurd (no_some x at)
numbered number vs (y ∷ ys) zero k x e at = absurd (not_empty (number y) (map number ys) e)
numbered number [] (y ∷ ys) (suc n) k x e at = absurd (not_empty (number y) (map number ys) e)
numbered number (v ∷ vs) (y ∷ ys) (suc n) zero x e at = ap (head_or v) e ∙ ap number (ap (of_some y) at)
numbered number (v ∷ vs) (y ∷ ys) (suc n) (suc k) x e at = numbered number vs ys n k x (ap tail_of e) at

module _ {T : Type 0} (number : T → ℕ) where
  module _ (old new : SendEnd T) (m : RingState) (s : IsSenderIn number m old) (cap : send_capacity new ≡ send_capacity old) where
    pub put_full : (item : T) → length (sent old) ≡ head_loaded old + send_capacity old → sent new ≡ sent old → published_items new ≡ published_items old → head_loaded new ≡ head_loaded old
        → (answer (Put (number item)) m ≡ Full) × IsSenderIn number (after_step (Put (number item)) m) new
    put_full item full same shown head =
        let P : Bool → Type 0 = λ t. ((if t then Done else Full) ≡ Full) × IsSenderIn number (if t then record m { values = m.values ++ number item ∷ []; next_put = m.next_put + 1 } else m) new in
        subst P (sym (le-ltb m.next_put (m.head_seen + m.capacity) (omega (arith, s.next_put, s.head_seen, s.capacity, full)))) (
          refl,
          record {
            capacity = s.capacity ∙ sym cap;
            values = s.values ∙ ap (map number) (sym same);
            next_put = s.next_put ∙ ap length (sym same);
            tail = s.tail ∙ ap length (sym shown);
            head_seen = s.head_seen ∙ sym head;
          },
        )

    pub put_done : (item : T) → length (sent old) < head_loaded old + send_capacity old → sent new ≡ sent old ++ item ∷ [] → published_items new ≡ published_items old → head_loaded new ≡ head_loaded old
        → (answer (Put (number item)) m ≡ Done) × IsSenderIn number (after_step (Put (number item)) m) new
    put_done item room more shown head =
        let P : Bool → Type 0 = λ t. ((if t then Done else Full) ≡ Done) × IsSenderIn number (if t then record m { values = m.values ++ number item ∷ []; next_put = m.next_put + 1 } else m) new in
        subst P (sym (lt-ltb m.next_put (m.head_seen + m.capacity) (omega (arith, s.next_put, s.head_seen, s.capacity, room)))) (
          refl,
          record {
            capacity = s.capacity ∙ sym cap;
            values = ap (λ l. l ++ number item ∷ []) s.values ∙ sym (map_append number (sent old) (item ∷ [])) ∙ ap (map number) (sym more);
            next_put = omega (arith, s.next_put, ap length more, length-append (sent old) (item ∷ []));
            tail = s.tail ∙ ap length (sym shown);
            head_seen = s.head_seen ∙ sym head;
          },
        )

    pub publish_tail : sent new ≡ sent old → published_items new ≡ sent old → head_loaded new ≡ head_loaded old → IsSenderIn number (after_step PublishTail m) new
    publish_tail same shown head = record {
      capacity = s.capacity ∙ sym cap;
      values = s.values ∙ ap (map number) (sym same);
      next_put = s.next_put ∙ ap length (sym same);
      tail = s.next_put ∙ ap length (sym shown);
      head_seen = s.head_seen ∙ sym head;
    }

    pub see_head : sent new ≡ sent old → published_items new ≡ published_items old → m.head ≡ head_loaded new → IsSenderIn number (after_step SeeHead m) new
    see_head same shown head = record {
      capacity = s.capacity ∙ sym cap;
      values = s.values ∙ ap (map number) (sym same);
      next_put = s.next_put ∙ ap length (sym same);
      tail = s.tail ∙ ap length (sym shown);
      head_seen = head;
    }

  module _ (old new : TakeEnd T) (m : RingState) (s : IsTakerIn number m old) (cap : take_capacity new ≡ take_capacity old) where
    pub take_empty : taken old ≡ length (seen old) → taken new ≡ taken old → seen new ≡ seen old → head_published new ≡ head_published old
        → (answer Take m ≡ Empty) × IsTakerIn number (after_step Take m) new
    take_empty all same known head =
        let P : Bool → Type 0 = λ t. ((if t then Got (slice_index m.values m.next_take) else Empty) ≡ Empty) × IsTakerIn number (if t then record m { next_take = m.next_take + 1 } else m) new in
        subst P (sym (le-ltb m.next_take m.tail_seen (omega (arith, s.next_take, s.tail_seen, all)))) (
          refl,
          record {
            capacity = s.capacity ∙ sym cap;
            values = s.values ∙ ap (map number) (sym known);
            tail_seen = s.tail_seen ∙ ap length (sym known);
            next_take = s.next_take ∙ sym same;
            head = s.head ∙ sym head;
          },
        )

    pub take_done : (x : T) → slice_get (seen old) (taken old) ≡ Some x → taken old < length (seen old) → taken new ≡ taken old + 1 → seen new ≡ seen old → head_published new ≡ head_published old
        → (answer Take m ≡ Got (number x)) × IsTakerIn number (after_step Take m) new
    take_done x at left more known head =
        let P : Bool → Type 0 = λ t. ((if t then Got (slice_index m.values m.next_take) else Empty) ≡ Got (number x)) × IsTakerIn number (if t then record m { next_take = m.next_take + 1 } else m) new in
        subst P (sym (lt-ltb m.next_take m.tail_seen (omega (arith, s.next_take, s.tail_seen, left)))) (
          ap Got (ap (slice_index m.values) s.next_take ∙ numbered number m.values (seen old) m.tail_seen (taken old) x s.values at),
          record {
            capacity = s.capacity ∙ sym cap;
            values = s.values ∙ ap (map number) (sym known);
            tail_seen = s.tail_seen ∙ ap length (sym known);
            next_take = omega (arith, s.next_take, more);
            head = s.head ∙ sym head;
          },
        )

    pub publish_head : taken new ≡ taken old → seen new ≡ seen old → head_published new ≡ taken old → IsTakerIn number (after_step PublishHead m) new
    publish_head same known head = record {
      capacity = s.capacity ∙ sym cap;
      values = s.values ∙ ap (map number) (sym known);
      tail_seen = s.tail_seen ∙ ap length (sym known);
      next_take = s.next_take ∙ sym same;
      head = s.next_take ∙ sym head;
    }

    pub see_tail : taken new ≡ taken old → head_published new ≡ head_published old → m.tail ≡ length (seen new) → take m.tail m.values ≡ map number (seen new) → IsTakerIn number (after_step SeeTail m) new
    see_tail same head tail known = record {
      capacity = s.capacity ∙ sym cap;
      values = known;
      tail_seen = tail;
      next_take = s.next_take ∙ sym same;
      head = s.head ∙ sym head;
    }

  -- new ends stand where the core begins
  pub opens_sender : (c : ℕ) (e : SendEnd T) → send_capacity e ≡ c → sent e ≡ [] → published e ≡ 0 → head_loaded e ≡ 0 → IsSenderIn number (opening c) e
  opens_sender c e cap none shown head = record { capacity = sym cap; values = ap (map number) (sym none); next_put = ap length (sym none); tail = sym shown; head_seen = sym head }

  pub opens_taker : (c : ℕ) (e : TakeEnd T) → take_capacity e ≡ c → seen e ≡ [] → taken e ≡ 0 → head_published e ≡ 0 → IsTakerIn number (opening c) e
  opens_taker c e cap none got head = record { capacity = sym cap; values = ap (map number) (sym none); tail_seen = ap length (sym none); next_take = sym got; head = sym head }

  -- ends that met stand in one state, if its positions lie in order
  pub are_met : (s : SendEnd T) (t : TakeEnd T) (rest : List T) → published_items s ≡ seen t ++ rest → send_capacity s ≡ take_capacity t → PositionsInOrder (state_of number s t) → AreInState number (state_of number s t) s t
  are_met s t rest known cap order = let more : List T = items_of s.seat.me.1 in let k : List ℕ = map number (seen t) in record {
    sender = record { capacity = refl; values = refl; next_put = refl; tail = refl; head_seen = refl };
    taker = record {
      capacity = cap;
      values = ap (λ l. take (length (seen t)) (map number l)) (ap (λ l. l ++ more) known ∙ append_assoc (seen t) rest more)
          ∙ ap (take (length (seen t))) (map_append number (seen t) (rest ++ more))
          ∙ take_at k (map number (rest ++ more)) (length (seen t)) (length-map (seen t) number);
      tail_seen = refl;
      next_take = refl;
      head = refl;
    };
    order = order;
  }

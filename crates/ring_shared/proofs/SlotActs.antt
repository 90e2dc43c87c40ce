-- A seat takes or gives the slots of several positions in one step.
use Rattle.std.proofs.Common.{◌≡◌, ◌≢◌, ℕ, zero, suc, ◌+◌, ◌<◌, ◌≤◌, List, [], ◌∷◌, ◌++◌, length, set, length-set, sym, refl, ap, ◌∙◌, subst, arith}
use mathlib.Core.Option.{some}
use mathlib.Core.Option as maybe
use lib.ListN.{get_elem?}
use Rattle.atomic_table.specs.Table.{Act, keeps, takes, gives, chain, put_back, rest, carried_after, homes_after, Valid}
use Rattle.atomic_table.proofs.Lists.{set_here, set_else}
use Rattle.ring_shared.specs.Sizes.{slot_at}
use Rattle.ring_shared.proofs.Sizes.{slot_lt, one_slot}
use Rattle.ring_shared.specs.HeldSlots.{slots_from}

module _ (c start : ℕ) where
  -- the slot j is none of the n from the position p on
  abbrev pub Apart : ℕ → ℕ → ℕ → Type 0
  Apart p n j = (i : ℕ) → i < n → j ≢ slot_at c start (p + i)

  apart_later : (p n j : ℕ) → Apart p (suc n) j → Apart (suc p) n j
  apart_later p n j a i lt e = a (suc i) (omega arith) (e ∙ ap (slot_at c start) (let s : suc p + i ≡ p + suc i = omega arith in s))

  apart_now : (p n j : ℕ) → Apart p (suc n) j → j ≢ slot_at c start p
  apart_now p n j a e = a 0 (omega arith) (e ∙ ap (slot_at c start) (let s : p ≡ p + 0 = omega arith in s))

  -- the slot of p is none of those after it, in one turn
  self_apart : (p n : ℕ) → suc n ≤ c → Apart (suc p) n (slot_at c start p)
  self_apart p n le i lt e = let same : p ≡ suc p + i = one_slot c start p (suc p + i) (omega arith) (omega arith) e in omega arith

  module _ {S : Type 0} where
    abbrev pub take_run : ℕ → List S → Act S
    take_run p [] = keeps
    take_run p (y ∷ ys) = chain (take_run (suc p) ys) (takes (slot_at c start p) y)

    abbrev pub give_run : List S → Act S
    give_run [] = keeps
    give_run (y ∷ ys) = chain gives (give_run ys)

    pub carried_takes : (h : List (ℕ × S)) (p : ℕ) (ys : List S) → carried_after h (take_run p ys) ≡ slots_from c start p ys ++ h
    carried_takes h p [] = refl
    carried_takes h p (y ∷ ys) = ap (λ l. (slot_at c start p, y) ∷ l) (carried_takes h (suc p) ys)

    pub takes_else : (hs : List (maybe.Option S)) (h : List (ℕ × S)) (p : ℕ) (ys : List S) (j : ℕ) → Apart p (length ys) j → get_elem? (homes_after hs h (take_run p ys)) j ≡ get_elem? hs j
    takes_else hs h p [] j a = refl
    takes_else hs h p (y ∷ ys) j a = set_else (homes_after hs h (take_run (suc p) ys)) (slot_at c start p) j maybe.none (apart_now p (length ys) j a) ∙ takes_else hs h (suc p) ys j (apart_later p (length ys) j a)

    pub takes_length : (hs : List (maybe.Option S)) (h : List (ℕ × S)) (p : ℕ) (ys : List S) → length (homes_after hs h (take_run p ys)) ≡ length hs
    takes_length hs h p [] = refl
    takes_length hs h p (y ∷ ys) = length-set (homes_after hs h (take_run (suc p) ys)) (slot_at c start p) maybe.none ∙ takes_length hs h (suc p) ys

    pub takes_valid : (hs : List (maybe.Option S)) (h : List (ℕ × S)) (p : ℕ) (ys : List S) → length ys ≤ c → ((i : ℕ) (y : S) → get_elem? ys i ≡ some y → get_elem? hs (slot_at c start (p + i)) ≡ some (some y))
        → Valid hs h (take_run p ys)
    takes_valid hs h p [] le at = tt
    takes_valid hs h p (y ∷ ys) le at = (
      takes_valid hs h (suc p) ys (omega arith) (λ i z e. ap (λ (k : ℕ). get_elem? hs (slot_at c start k)) (let s : suc p + i ≡ p + suc i = omega arith in s) ∙ at (suc i) z e),
      takes_else hs h (suc p) ys (slot_at c start p) (self_apart p (length ys) le) ∙ ap (λ (k : ℕ). get_elem? hs (slot_at c start k)) (let s : p ≡ p + 0 = omega arith in s) ∙ at 0 y refl,
    )

    pub carried_gives : (h : List (ℕ × S)) (p : ℕ) (ys : List S) → carried_after (slots_from c start p ys ++ h) (give_run ys) ≡ h
    carried_gives h p [] = refl
    carried_gives h p (y ∷ ys) = carried_gives h (suc p) ys

    pub gives_valid : (hs : List (maybe.Option S)) (h : List (ℕ × S)) (ys : List S) → Valid hs h (give_run ys)
    gives_valid hs h [] = tt
    gives_valid hs h (y ∷ ys) = (tt, gives_valid (put_back hs h) (rest h) ys)

    pub gives_else : (hs : List (maybe.Option S)) (h : List (ℕ × S)) (p : ℕ) (ys : List S) (j : ℕ) → Apart p (length ys) j → get_elem? (homes_after hs (slots_from c start p ys ++ h) (give_run ys)) j ≡ get_elem? hs j
    gives_else hs h p [] j a = refl
    gives_else hs h p (y ∷ ys) j a = gives_else (set hs (slot_at c start p) (some y)) h (suc p) ys j (apart_later p (length ys) j a) ∙ set_else hs (slot_at c start p) j (some y) (apart_now p (length ys) j a)

    pub gives_length : (hs : List (maybe.Option S)) (h : List (ℕ × S)) (p : ℕ) (ys : List S) → length (homes_after hs (slots_from c start p ys ++ h) (give_run ys)) ≡ length hs
    gives_length hs h p [] = refl
    gives_length hs h p (y ∷ ys) = gives_length (set hs (slot_at c start p) (some y)) h (suc p) ys ∙ length-set hs (slot_at c start p) (some y)

    pub gives_here : (hs : List (maybe.Option S)) (h : List (ℕ × S)) (p : ℕ) (ys : List S) → length ys ≤ c → length hs ≡ c → 0 < c → (i : ℕ) (y : S) → get_elem? ys i ≡ some y
        → get_elem? (homes_after hs (slots_from c start p ys ++ h) (give_run ys)) (slot_at c start (p + i)) ≡ some (some y)
    gives_here hs h p [] le len pos i y e = absurd (maybe.some-ne-none y (sym e))
    gives_here hs h p (x ∷ ys) le len pos zero y e = ap (λ (k : ℕ). get_elem? (homes_after (set hs (slot_at c start p) (some x)) (slots_from c start (suc p) ys ++ h) (give_run ys)) (slot_at c start k)) (let s : p + 0 ≡ p = omega arith in s)
        ∙ gives_else (set hs (slot_at c start p) (some x)) h (suc p) ys (slot_at c start p) (self_apart p (length ys) le)
        ∙ set_here hs (slot_at c start p) (some x) (subst (λ (n : ℕ). slot_at c start p < n) (sym len) (slot_lt c start p pos)) ∙ ap some e
    gives_here hs h p (x ∷ ys) le len pos (suc i) y e = ap (λ (k : ℕ). get_elem? (homes_after (set hs (slot_at c start p) (some x)) (slots_from c start (suc p) ys ++ h) (give_run ys)) (slot_at c start k)) (let s : p + suc i ≡ suc p + i = omega arith in s)
        ∙ gives_here (set hs (slot_at c start p) (some x)) h (suc p) ys (omega arith) (length-set hs (slot_at c start p) (some x) ∙ len) pos i y e

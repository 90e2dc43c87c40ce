-- Lists of slots with their values.
use Rattle.std.proofs.Common.{◌≡◌, ℕ, zero, suc, ◌+◌, List, [], ◌∷◌, ◌++◌, length, map, replicate, Option, Some, None, sym, refl, ap, ◌∙◌, append_assoc, append-nil, arith}
use Rattle.ring_shared.specs.Sizes.{slot_at}
use Rattle.ring_shared.specs.HeldSlots.{slots_from, items_of, empty_slots, full_slots, turned_times}

module _ {S : Type 0} where
  pub turned_through : (xs ys : List (ℕ × S)) → turned_times (length xs) (xs ++ ys) ≡ ys ++ xs
  turned_through [] ys = sym (append-nil ys)
  turned_through (x ∷ xs) ys = ap (turned_times (length xs)) (append_assoc xs ys (x ∷ [])) ∙ turned_through xs (ys ++ x ∷ []) ∙ append_assoc ys (x ∷ []) xs

  -- the same, by a number
  pub turned_by : (n : ℕ) (xs ys : List (ℕ × S)) → n ≡ length xs → turned_times n (xs ++ ys) ≡ ys ++ xs
  turned_by n xs ys e = ap (λ (k : ℕ). turned_times k (xs ++ ys)) e ∙ turned_through xs ys

  module _ (c start : ℕ) where
    pub length_slots_from : (p : ℕ) (ys : List S) → length (slots_from c start p ys) ≡ length ys
    length_slots_from p [] = refl
    length_slots_from p (y ∷ ys) = ap suc (length_slots_from (suc p) ys)

    pub slots_from_append : (p : ℕ) (ys zs : List S) → slots_from c start p (ys ++ zs) ≡ slots_from c start p ys ++ slots_from c start (p + length ys) zs
    slots_from_append p [] zs = ap (λ (k : ℕ). slots_from c start k zs) (let e : p ≡ p + 0 = omega arith in e)
    slots_from_append p (y ∷ ys) zs = ap (λ l. (slot_at c start p, y) ∷ l) (slots_from_append (suc p) ys zs ∙ ap (λ (k : ℕ). slots_from c start (suc p) ys ++ slots_from c start k zs) (let e : suc p + length ys ≡ p + suc (length ys) = omega arith in e))

module _ {T : Type 0} where
  pub items_append : (xs ys : List (ℕ × Option T)) → items_of (xs ++ ys) ≡ items_of xs ++ items_of ys
  items_append [] ys = refl
  items_append ((k, None) ∷ xs) ys = items_append xs ys
  items_append ((k, Some x) ∷ xs) ys = ap (λ l. x ∷ l) (items_append xs ys)

  pub empty_append : (xs ys : List (ℕ × Option T)) → empty_slots (xs ++ ys) ≡ empty_slots xs ++ empty_slots ys
  empty_append [] ys = refl
  empty_append ((k, None) ∷ xs) ys = ap (λ l. (k, None) ∷ l) (empty_append xs ys)
  empty_append ((k, Some x) ∷ xs) ys = empty_append xs ys

  pub full_append : (xs ys : List (ℕ × Option T)) → full_slots (xs ++ ys) ≡ full_slots xs ++ full_slots ys
  full_append [] ys = refl
  full_append ((k, None) ∷ xs) ys = full_append xs ys
  full_append ((k, Some x) ∷ xs) ys = ap (λ l. (k, Some x) ∷ l) (full_append xs ys)

  module _ (c start : ℕ) where
    pub items_full : (p : ℕ) (xs : List T) → items_of (slots_from c start p (map Some xs)) ≡ xs
    items_full p [] = refl
    items_full p (x ∷ xs) = ap (λ l. x ∷ l) (items_full (suc p) xs)

    pub items_empty : (p n : ℕ) → items_of {T = T} (slots_from c start p (replicate n None)) ≡ []
    items_empty p zero = refl
    items_empty p (suc n) = items_empty (suc p) n

    pub empty_full : (p : ℕ) (xs : List T) → empty_slots (slots_from c start p (map Some xs)) ≡ []
    empty_full p [] = refl
    empty_full p (x ∷ xs) = empty_full (suc p) xs

    pub empty_empty : (p n : ℕ) → empty_slots {T = T} (slots_from c start p (replicate n None)) ≡ slots_from c start p (replicate n None)
    empty_empty p zero = refl
    empty_empty p (suc n) = ap (λ l. (slot_at c start p, None) ∷ l) (empty_empty (suc p) n)

    pub full_full : (p : ℕ) (xs : List T) → full_slots (slots_from c start p (map Some xs)) ≡ slots_from c start p (map Some xs)
    full_full p [] = refl
    full_full p (x ∷ xs) = ap (λ l. (slot_at c start p, Some x) ∷ l) (full_full (suc p) xs)

    pub full_empty : (p n : ℕ) → full_slots {T = T} (slots_from c start p (replicate n None)) ≡ []
    full_empty p zero = refl
    full_empty p (suc n) = full_empty (suc p) n

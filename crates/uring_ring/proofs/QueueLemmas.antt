-- Completions written into a slice, one after another.
use Rattle.std.proofs.Common.{◌≡◌, ℕ, ℤ, Bool, ◌+◌, ◌-◌, ◌<◌, ◌≤◌, zero, suc, List, [], ◌∷◌, ◌++◌, length, map, take, drop, Option, Some, None, refl, ap, sym, ◌∙◌, arith}
use Rattle.std.specs.Prelude.{slice_set, MatchOption}
use Rattle.uring_base.specs.declared.events.Completion.{Completion}
use Rattle.uring_ring.specs.declared.completion_queue.Received.{Received}
use Rattle.ring_core.specs.Held.{Held}
use Rattle.ring_core.specs.Slots.{with_takes}
use Rattle.uring_ring.specs.Queues.{received_as, first_received}
use Rattle.ring_core.proofs.PutsAndTakes.{drop_more, takes_one}

-- one more of a list that is mapped
pub map_more : {A B : Type 0} (f : A → B) (xs : List A) (n : ℕ) → map f (take (n + 1) xs) ≡ map f (take n xs) ++ map f (take 1 (drop n xs))
map_more f xs zero = refl
map_more f [] (suc n) = ap (λ (k : ℕ). map f (take k [])) (let e : suc n + 1 ≡ suc (n + 1) = omega arith in e)
map_more f (x ∷ xs) (suc n) = ap (λ (k : ℕ). map f (take k (x ∷ xs))) (let e : suc n + 1 ≡ suc (n + 1) = omega arith in e) ∙ ap (λ l. f x ∷ l) (map_more f xs n)

length_front : {A B : Type 0} (f : A → B) (xs : List A) (n : ℕ) → n ≤ length xs → length (map f (take n xs)) ≡ n
length_front f xs zero h = refl
length_front f [] (suc n) h = absurd (omega arith)
length_front f (x ∷ xs) (suc n) h = ap suc (length_front f xs n (omega arith)) ∙ omega arith

-- the place behind what is written already
set_behind : {A : Type 0} (ys zs : List A) (x : A) → 0 < length zs → slice_set (ys ++ zs) (length ys) x ≡ (ys ++ x ∷ []) ++ drop 1 zs
set_behind [] [] x h = absurd (omega arith)
set_behind [] (z ∷ zs) x h = refl
set_behind (y ∷ ys) zs x h = ap (λ l. y ∷ l) (set_behind ys zs x h)

map_append : {A B : Type 0} (f : A → B) (xs ys : List A) → map f (xs ++ ys) ≡ map f xs ++ map f ys
map_append f [] ys = refl
map_append f (x ∷ xs) ys = ap (λ l. f x ∷ l) (map_append f xs ys)

length_map : {A B : Type 0} (f : A → B) (xs : List A) → length (map f xs) ≡ length xs
length_map f [] = refl
length_map f (x ∷ xs) = ap suc (length_map f xs)

length_drop : {A : Type 0} (xs : List A) (n : ℕ) → n < length xs → 0 < length (drop n xs)
length_drop xs zero h = h
length_drop [] (suc n) h = absurd (omega arith)
length_drop (x ∷ xs) (suc n) h = length_drop xs n (omega arith)

-- one more item written behind those that stand in front
pub filled_more : {A B : Type 0} (f : A → B) (xs : List A) (zs : List (Option B)) (n : ℕ) (x : B) → n ≤ length xs → n < length zs → map f (take 1 (drop n xs)) ≡ x ∷ []
    → slice_set (map Some (map f (take n xs)) ++ drop n zs) n (Some x) ≡ map Some (map f (take (n + 1) xs)) ++ drop (n + 1) zs
filled_more f xs zs n x le lt one =
    let front = map f (take n xs) in
    let place : length (map Some front) ≡ n = length_map Some front ∙ length_front f xs n le in
    ap (λ (k : ℕ). slice_set (map Some front ++ drop n zs) k (Some x)) (sym place)
    ∙ set_behind (map Some front) (drop n zs) (Some x) (length_drop zs n lt)
    ∙ ap (λ l. l ++ drop 1 (drop n zs)) (sym (map_append Some front (x ∷ [])))
    ∙ (λ j. map Some ((ap (λ l. front ++ l) (sym one) ∙ sym (map_more f xs n)) j) ++ drop_more zs n j)

-- one step of filling: the completion in front goes behind those that stand in the slice
pub fill_step : {C : Type 0} (made_of : ℕ → ℤ → ℕ → Bool → List ℕ → C) (h k l : Held Completion) (r : Option (Received C)) (ys zs : List (Option (Received C))) (i : ℕ) → k ≡ with_takes i h
    → MatchOption r ((k.waiting ≡ 0) × (l ≡ k)) (λ x. (0 < k.waiting) × (first_received made_of 1 k ≡ x ∷ []) × (l ≡ with_takes 1 k))
    → ys ≡ map Some (first_received made_of i h) ++ drop i zs → i < h.waiting → h.waiting ≤ length h.published → i < length zs
    → (slice_set ys i r ≡ map Some (first_received made_of (i + 1) h) ++ drop (i + 1) zs) × (l ≡ with_takes (i + 1) h)
fill_step made_of h k l None ys zs i same none stand left all room = absurd (let waits : k.waiting ≡ h.waiting - i = ap (λ (x : Held Completion). x.waiting) same in omega (arith, none.0))
fill_step {C} made_of h k l (Some x) ys zs i same some stand left all room =
    let one : map (received_as made_of) (take 1 (drop i h.published)) ≡ x ∷ [] = ap (λ (y : Held Completion). first_received made_of 1 y) (sym same) ∙ some.1 in (
      ap (λ (y : List (Option (Received C))). slice_set y i (Some x)) stand ∙ filled_more (received_as made_of) h.published zs i x (omega arith) room one,
      some.2 ∙ ap (λ (y : Held Completion). with_takes 1 y) same ∙ takes_one i h,
    )

-- A list of numbers of which each comes down by one, in turn.
use Rattle.std.specs.Prelude.{◌≡◌, ℕ, ◌+◌, ◌-◌, ◌<◌, ◌≤◌, List, [], ◌∷◌, ◌++◌, length, map, slice_set, refl}
use Rattle.std.proofs.Math.Seq.{set-append_seam}
use Rattle.std.proofs.lemmas.List.{map-append, length-map}
use Rattle.std.proofs.Common.{ap, sym, ◌∙◌, arith, append_assoc, append-nil, length-append, get_or}

abbrev pub lower : List ℕ → List ℕ
lower ks = map (λ k. k - 1) ks

-- of these, the first `i` came down
pub record Lowered (ks : List ℕ) (i : ℕ) (now : List ℕ) : Type 0 where
  pub done : List ℕ
  pub rest : List ℕ
  pub split : ks ≡ done ++ rest
  pub count : length done ≡ i
  pub is : now ≡ lower done ++ rest

pub lowered_first : (ks now : List ℕ) → now ≡ ks → Lowered ks 0 now
lowered_first ks now e = record { done = []; rest = ks; split = refl; count = refl; is = e }

at_seam : (front : List ℕ) (y : ℕ) (back : List ℕ) (d : ℕ) → get_or (front ++ y ∷ back) (length front) d ≡ y
at_seam [] y back d = refl
at_seam (x ∷ front) y back d = at_seam front y back d

next_from : (ks done rest : List ℕ) (i v : ℕ) (now after : List ℕ) → ks ≡ done ++ rest → length done ≡ i → now ≡ lower done ++ rest → i < length now → v ≡ get_or now i 0 - 1 → after ≡ slice_set now i v → Lowered ks (i + 1) after
next_from ks done [] i v now after s c e lt q h =
    let whole : length now ≡ length done = ap length e ∙ ap length (append-nil (lower done)) ∙ length-map done (λ k. k - 1) in
    absurd (omega arith)
next_from ks done (y ∷ rest) i v now after s c e lt q h =
    let place : i ≡ length (lower done) = sym c ∙ sym (length-map done (λ k. k - 1)) in
    let value : v ≡ y - 1 = q ∙ (λ j. get_or (e j) (place j) 0 - 1) ∙ ap (λ n. n - 1) (at_seam (lower done) y rest 0) in
    let more : length (done ++ y ∷ []) ≡ i + 1 = simp length-append (omega (arith, c)) in
    record {
      done = done ++ y ∷ [];
      rest = rest;
      split = s ∙ sym (append_assoc done (y ∷ []) rest);
      count = more;
      is = h ∙ (λ j. slice_set (e j) (place j) (value j)) ∙ set-append_seam (lower done) y rest (y - 1)
          ∙ sym (append_assoc (lower done) ((y - 1) ∷ []) rest) ∙ ap (λ l. l ++ rest) (sym (map-append (λ k. k - 1) done (y ∷ [])));
    }

pub lowered_next : (ks : List ℕ) (i v : ℕ) (now after : List ℕ) → i < length now → v ≡ get_or now i 0 - 1 → after ≡ slice_set now i v → Lowered ks i now → Lowered ks (i + 1) after
lowered_next ks i v now after lt q h l = next_from ks l.done l.rest i v now after l.split l.count l.is lt q h

all_from : (ks done rest now : List ℕ) → ks ≡ done ++ rest → now ≡ lower done ++ rest → length now ≤ length done → now ≡ lower ks
all_from ks done [] now s e le = e ∙ append-nil (lower done) ∙ ap lower (sym (s ∙ append-nil done))
all_from ks done (y ∷ rest) now s e le =
    let parts : length (lower done ++ y ∷ rest) ≡ length done + (length rest + 1) = simp (length-append, length-map) (omega arith) in
    absurd (omega (arith, ap length e, parts))

pub lowered_all : (ks : List ℕ) (i : ℕ) (now : List ℕ) → length now ≤ i → Lowered ks i now → now ≡ lower ks
lowered_all ks i now le l = all_from ks l.done l.rest now l.split l.is (omega (arith, l.count))

-- The kind that is read of a job line is what its fields say.
use Rattle.std.proofs.Common.{◌≡◌, ℕ, ◌+◌, ◌^◌, ◌<◌, ◌≤◌, true, false, cond, List, [], ◌∷◌, replicate, Result, Ok, Err, Some, None, subst, refl, sym, ap, arith, inl, inr}
use Rattle.std.specs.Prelude.{bytes_eq, codes, decimal}
use Rattle.std.specs.Result.{result_ok}
use Rattle.std.proofs.lemmas.List.{length-replicate}
use Rattle.hex.specs.Hex.{decode_of}
use Rattle.hex.specs.declared.error.FromHexError.{FromHexError}
use Rattle.uring_model.specs.declared.jobs.JobKind.{JobKind}
use Rattle.uring_model.specs.declared.jobs.JobKind.TheVariants.{Nop, Read, Write, Fsync, Ftruncate, Cancel}
use Rattle.uring_text.specs.declared.limits.TheConstants.{MAX_READ_BYTES}
use Rattle.uring_text.specs.Lines.{number_below, bytes_spelled}
use Rattle.uring_text.specs.Script.{◌>>=◌, read_fields, write_fields, fsync_fields, truncate_fields, cancel_fields, job_fields}
use Rattle.uring_text.specs.Grammar.{SpellsBytes, KindSaid}
use Rattle.uring_text.proofs.Found.{chosen, same_bytes, none_is_some, bound}
use Rattle.uring_text.proofs.Numbers.{number_found, number_again}
use Rattle.uring_text.proofs.Steps.{there, some_is}

decoded : (r : Result (List ℕ) FromHexError) (bytes : List ℕ) → result_ok r ≡ Some bytes → r ≡ Ok bytes
decoded (Ok x) bytes e = ap (λ (y : List ℕ). Ok y) (some_is x bytes e)
decoded (Err d) bytes e = absurd cc

pub bytes_found : (text bytes : List ℕ) → bytes_spelled text ≡ Some bytes → SpellsBytes text bytes
bytes_found [] bytes e = absurd cc
bytes_found (b ∷ more) bytes e =
    elim (chosen (bytes_eq (b ∷ more) (codes "-")) (there []) (result_ok (decode_of (b ∷ more))) (Some bytes) e) [
      | inl p ↦ inl (same_bytes _ _ p.0, sym (some_is [] bytes p.1))
      | inr p ↦ inr (omega arith, decoded _ bytes p.1)
    ]

-- ---- what is spelled so is read

pub number_is : (limit n : ℕ) → limit ≤ 2 ^ 64 → n < limit → number_below limit (decimal n) ≡ Some n
number_is limit n fits lt = number_again limit (decimal n) n fits lt refl

no_dash : (text bytes : List ℕ) → text ≡ codes "-" → decode_of text ≡ Ok bytes → ⊥
no_dash text bytes e d =
    let odd = subst (λ (t : List ℕ). decode_of t ≡ Ok bytes) e d in cc

pub bytes_again : (text bytes : List ℕ) → SpellsBytes text bytes → bytes_spelled text ≡ Some bytes
bytes_again text bytes (inl p) = rw (p.0, p.1) refl
bytes_again [] bytes (inr p) = absurd (omega (arith, p.0))
bytes_again (b ∷ more) bytes (inr p) =
    elim (bytes_eq (b ∷ more) (codes "-")) as (λ t. bytes_eq (b ∷ more) (codes "-") ≡ t → cond t (there []) (result_ok (decode_of (b ∷ more))) ≡ Some bytes) [
      | true ↦ λ yes. absurd (no_dash (b ∷ more) bytes (same_bytes _ _ yes) p.1)
      | false ↦ λ no. ap result_ok p.1
    ] refl

-- ---- each kind, with the fields after its word

-- a kind and the marks after it
abbrev Fielded : Type 0
Fielded = JobKind × List (List ℕ)

read_said : (f o l : List ℕ) (ms : List (List ℕ)) (n at size : ℕ) → (n < 2 ^ 32) × (f ≡ decimal n) → (at < 2 ^ 64) × (o ≡ decimal at) → (size < MAX_READ_BYTES + 1) × (l ≡ decimal size) → KindSaid (Read n at (replicate size 0)) (codes "read" ∷ f ∷ o ∷ l ∷ ms) ms
read_said f o l ms n at size p q r = rw (length-replicate {A = ℕ} size 0, p.1, q.1, r.1) (refl, p.0, q.0, omega (arith, r.0), refl)

read_found : (fields : List (List ℕ)) (said : Fielded) → read_fields fields ≡ Some said → KindSaid said.0 (codes "read" ∷ fields) said.1
unfolding read_fields
read_found [] said e = absurd cc
read_found (f ∷ []) said e = absurd cc
read_found (f ∷ o ∷ []) said e = absurd cc
read_found (f ∷ o ∷ l ∷ ms) said e =
    bound (number_below (2 ^ 32) f) (λ n. number_below (2 ^ 64) o >>= λ at. number_below (MAX_READ_BYTES + 1) l >>= λ size. there (Read n at (replicate size 0), ms)) said e (λ n en e1.
    bound (number_below (2 ^ 64) o) (λ at. number_below (MAX_READ_BYTES + 1) l >>= λ size. there (Read n at (replicate size 0), ms)) said e1 (λ at ea e2.
    bound (number_below (MAX_READ_BYTES + 1) l) (λ size. there (Read n at (replicate size 0), ms)) said e2 (λ size es e3.
    subst (λ (p : Fielded). KindSaid p.0 (codes "read" ∷ f ∷ o ∷ l ∷ ms) p.1) (some_is (Read n at (replicate size 0), ms) said e3)
    (read_said f o l ms n at size (number_found _ f n en) (number_found _ o at ea) (number_found _ l size es)))))

write_found : (fields : List (List ℕ)) (said : Fielded) → write_fields fields ≡ Some said → KindSaid said.0 (codes "write" ∷ fields) said.1
unfolding write_fields
write_found [] said e = absurd cc
write_found (f ∷ []) said e = absurd cc
write_found (f ∷ o ∷ []) said e = absurd cc
write_found (f ∷ o ∷ h ∷ ms) said e =
    bound (number_below (2 ^ 32) f) (λ n. number_below (2 ^ 64) o >>= λ at. bytes_spelled h >>= λ bytes. there (Write n at bytes, ms)) said e (λ n en e1.
    bound (number_below (2 ^ 64) o) (λ at. bytes_spelled h >>= λ bytes. there (Write n at bytes, ms)) said e1 (λ at ea e2.
    bound (bytes_spelled h) (λ bytes. there (Write n at bytes, ms)) said e2 (λ bytes eb e3.
    let p = number_found (2 ^ 32) f n en in
    let q = number_found (2 ^ 64) o at ea in
    subst (λ (p : Fielded). KindSaid p.0 (codes "write" ∷ f ∷ o ∷ h ∷ ms) p.1) (some_is (Write n at bytes, ms) said e3)
    (h, rw (p.1, q.1) refl, p.0, q.0, bytes_found h bytes eb))))

fsync_found : (fields : List (List ℕ)) (said : Fielded) → fsync_fields fields ≡ Some said → KindSaid said.0 (codes "fsync" ∷ fields) said.1
unfolding fsync_fields
fsync_found [] said e = absurd cc
fsync_found (f ∷ ms) said e =
    bound (number_below (2 ^ 32) f) (λ n. there (Fsync n, ms)) said e (λ n en e1.
    let p = number_found (2 ^ 32) f n en in
    subst (λ (p : Fielded). KindSaid p.0 (codes "fsync" ∷ f ∷ ms) p.1) (some_is (Fsync n, ms) said e1) (rw p.1 refl, p.0))

truncate_found : (fields : List (List ℕ)) (said : Fielded) → truncate_fields fields ≡ Some said → KindSaid said.0 (codes "truncate" ∷ fields) said.1
unfolding truncate_fields
truncate_found [] said e = absurd cc
truncate_found (f ∷ []) said e = absurd cc
truncate_found (f ∷ l ∷ ms) said e =
    bound (number_below (2 ^ 32) f) (λ n. number_below (2 ^ 64) l >>= λ size. there (Ftruncate n size, ms)) said e (λ n en e1.
    bound (number_below (2 ^ 64) l) (λ size. there (Ftruncate n size, ms)) said e1 (λ size es e2.
    let p = number_found (2 ^ 32) f n en in
    let q = number_found (2 ^ 64) l size es in
    subst (λ (p : Fielded). KindSaid p.0 (codes "truncate" ∷ f ∷ l ∷ ms) p.1) (some_is (Ftruncate n size, ms) said e2) (rw (p.1, q.1) refl, p.0, q.0)))

cancel_found : (fields : List (List ℕ)) (said : Fielded) → cancel_fields fields ≡ Some said → KindSaid said.0 (codes "cancel" ∷ fields) said.1
unfolding cancel_fields
cancel_found [] said e = absurd cc
cancel_found (j ∷ ms) said e =
    bound (number_below (2 ^ 64) j) (λ n. there (Cancel n, ms)) said e (λ n en e1.
    let p = number_found (2 ^ 64) j n en in
    subst (λ (p : Fielded). KindSaid p.0 (codes "cancel" ∷ j ∷ ms) p.1) (some_is (Cancel n, ms) said e1) (rw p.1 refl, p.0))

-- a word that was tested, and what the fields after it say
worded : (word text : List ℕ) (fields end : List (List ℕ)) (kind : JobKind) → bytes_eq word text ≡ true → KindSaid kind (text ∷ fields) end → KindSaid kind (word ∷ fields) end
worded word text fields end kind e h = rw (same_bytes word text e) h

pub job_found : (word : List ℕ) (fields : List (List ℕ)) (said : Fielded) → job_fields word fields ≡ Some said → KindSaid said.0 (word ∷ fields) said.1
unfolding job_fields
job_found word fields said e =
    elim (chosen (bytes_eq word (codes "nop")) (there (Nop, fields)) _ (Some said) e) [
      | inl p ↦ subst (λ (x : Fielded). KindSaid x.0 (word ∷ fields) x.1) (some_is (Nop, fields) said p.1) (rw (same_bytes word _ p.0) refl)
      | inr p ↦ elim (chosen (bytes_eq word (codes "read")) (read_fields fields) _ (Some said) p.1) [
        | inl q ↦ worded word _ fields said.1 said.0 q.0 (read_found fields said q.1)
        | inr q ↦ elim (chosen (bytes_eq word (codes "write")) (write_fields fields) _ (Some said) q.1) [
          | inl r ↦ worded word _ fields said.1 said.0 r.0 (write_found fields said r.1)
          | inr r ↦ elim (chosen (bytes_eq word (codes "fsync")) (fsync_fields fields) _ (Some said) r.1) [
            | inl s ↦ worded word _ fields said.1 said.0 s.0 (fsync_found fields said s.1)
            | inr s ↦ elim (chosen (bytes_eq word (codes "truncate")) (truncate_fields fields) _ (Some said) s.1) [
              | inl t ↦ worded word _ fields said.1 said.0 t.0 (truncate_found fields said t.1)
              | inr t ↦ elim (chosen (bytes_eq word (codes "cancel")) (cancel_fields fields) None (Some said) t.1) [
                | inl u ↦ worded word _ fields said.1 said.0 u.0 (cancel_found fields said u.1)
                | inr u ↦ none_is_some said u.1
              ]
            ]
          ]
        ]
      ]
    ]

-- Bytes that a source gives piece by piece.
use Rattle.std.proofs.Common.{◌≡◌, ℕ, ◌+◌, ◌≤◌, List, ◌++◌, length, take, Some, None, sym, ap, ◌∙◌, arith, append_assoc, length-append}
use Rattle.std.specs.Prelude.{Option}
use Rattle.std.specs.Io.KnownBytes.{Consumes}
use Rattle.uring_streams.specs.Inputs.{GaveFront}

-- two reads, one after the other
Consumes-then : (a b c : Option (List ℕ)) (xs ys : List ℕ) → Consumes a b xs → Consumes b c ys → Consumes a c (xs ++ ys)
Consumes-then None b c xs ys p q = tt
Consumes-then (Some x) None c xs ys p q = absurd p
Consumes-then (Some x) (Some y) None xs ys p q = absurd q
Consumes-then (Some x) (Some y) (Some z) xs ys p q = p ∙ ap (λ (t : List ℕ). xs ++ t) q ∙ sym (append_assoc xs ys z)

-- the bytes given so far, and then n of the room's
pub gave_more : (a b c : Option (List ℕ)) (xs room : List ℕ) (n before so_far now : ℕ) → (n ≤ length room) × (n ≡ length (take n room)) → Consumes a b xs → Consumes b c (take n room) → so_far ≡ before + length xs → now ≡ so_far + n → GaveFront a c before now
gave_more a b c xs room n before so_far now bound p q counted more =
    let both : length (xs ++ take n room) ≡ length xs + length (take n room) = length-append xs (take n room) in
    record {
      bytes = xs ++ take n room;
      front = Consumes-then a b c xs (take n room) p q;
      counted = omega (arith, bound.1, both, counted, more);
    }

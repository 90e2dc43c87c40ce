-- Bytes that are written piece by piece.
use Rattle.std.proofs.Common.{◌≡◌, ℕ, ◌+◌, ◌-◌, ◌≤◌, List, ◌++◌, length, take, drop, Some, None, sym, ap, subst, ◌∙◌, arith, append_assoc}
use Rattle.std.specs.Prelude.{Option}
use Rattle.std.specs.Io.KnownBytes.{Appends}
use Rattle.std.proofs.Math.Seq.{take-append-add}
use Rattle.std.proofs.lemmas.List.{length-take-le, take-append-drop}
use Rattle.std.proofs.lemmas.Grind.{common_steps}

-- two appends, one after the other
Appends-then : (a b c : Option (List ℕ)) (xs ys : List ℕ) → Appends a b xs → Appends b c ys → Appends a c (xs ++ ys)
Appends-then None b c xs ys p q = tt
Appends-then (Some x) None c xs ys p q = absurd p
Appends-then (Some x) (Some y) None xs ys p q = absurd q
Appends-then (Some x) (Some y) (Some z) xs ys p q = q ∙ ap (λ (t : List ℕ). t ++ ys) p ∙ append_assoc x xs ys

whole_rest : (bytes : List ℕ) (at : ℕ) → take (length bytes - at) (drop at bytes) ≡ drop at bytes
whole_rest bytes at = grind (arith, common_steps)

joined : (bytes : List ℕ) (at n : ℕ) → at ≤ length bytes → take at bytes ++ take n (take (length bytes - at) (drop at bytes)) ≡ take (at + n) bytes
joined bytes at n le =
    let whole = take-append-add (take at bytes) (drop at bytes) n in
    let front = length-take-le at bytes le in
    let one = rw (front, take-append-drop at bytes) at whole in
    rw (whole_rest bytes at) (sym one)

-- a front of the bytes, and then a front of the rest
pub front_grows : (a b c : Option (List ℕ)) (bytes : List ℕ) (at n : ℕ) → at ≤ length bytes → Appends a b (take at bytes) → Appends b c (take n (take (length bytes - at) (drop at bytes))) → Appends a c (take (at + n) bytes)
front_grows a b c bytes at n le p q = subst (Appends a c) (joined bytes at n le) (Appends-then a b c _ _ p q)

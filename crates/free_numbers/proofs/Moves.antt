-- The leaves of a tree that was made larger.
use Rattle.std.proofs.Common.{◌≡◌, ℕ, ◌+◌, ◌-◌, ◌*◌, ◌<◌, Bool, false, List, ◌++◌, length, take, drop, sym, ap, ◌∙◌, arith, append_assoc, length-append, length-drop}
use Rattle.std.specs.Prelude.{replicate}
use Rattle.std.specs.List.{copy_within}
use Rattle.std.proofs.lemmas.List.{take_all, take_at, drop_at, drop-drop, drop-append-le, drop-replicate, length-replicate, length-take-le}

module _ (nodes : List Bool) (old limit : ℕ) (long : length nodes ≡ 2 * old) (larger : old < limit) where
  -- the nodes that come behind
  added : List Bool
  added = replicate (2 * limit - 2 * old) false

  longer_is : take (2 * limit) nodes ++ replicate (2 * limit - length nodes) false ≡ nodes ++ added
  unfolding added
  longer_is = λ k. take_all (2 * limit) nodes (omega arith) k ++ replicate (2 * limit - long k) false

  added_length : length added ≡ 2 * limit - 2 * old
  unfolding added
  added_length = length-replicate (2 * limit - 2 * old) false

  longer_length : length (nodes ++ added) ≡ 2 * limit
  longer_length = length-append nodes added ∙ omega (arith, added_length)

  leaves_length : length (drop old nodes) ≡ old
  leaves_length = length-drop old nodes ∙ omega arith

  -- the old leaves, and what comes behind where they end
  leaves_taken : take (2 * old - old) (drop old (nodes ++ added)) ≡ drop old nodes
  leaves_taken = ap (λ xs. take (2 * old - old) xs) (drop-append-le old nodes added (omega arith)) ∙ take_at (drop old nodes) added (2 * old - old) (omega (arith, leaves_length))

  rest_blank : drop (limit + (2 * old - old)) (nodes ++ added) ≡ replicate (limit - old) false
  unfolding added
  rest_blank =
      let sum : limit + (2 * old - old) ≡ 2 * old + (limit - old) = omega arith in
      ap (λ (n : ℕ). drop n (nodes ++ added)) sum
      ∙ sym (drop-drop (limit - old) (2 * old) (nodes ++ added))
      ∙ ap (drop (limit - old)) (drop_at nodes added (2 * old) long)
      ∙ drop-replicate (limit - old) (2 * limit - 2 * old) false
      ∙ ap (λ (n : ℕ). replicate n false) (let e : 2 * limit - 2 * old - (limit - old) ≡ limit - old = omega arith in e)

  moved_is : drop limit (copy_within (nodes ++ added) old (2 * old) limit) ≡ drop old nodes ++ replicate (limit - old) false
  moved_is =
      let front : length (take limit (nodes ++ added)) ≡ limit = length-take-le limit (nodes ++ added) (omega (arith, longer_length)) in
      ap (drop limit) (append_assoc (take limit (nodes ++ added)) (take (2 * old - old) (drop old (nodes ++ added))) (drop (limit + (2 * old - old)) (nodes ++ added)))
      ∙ drop_at (take limit (nodes ++ added)) (take (2 * old - old) (drop old (nodes ++ added)) ++ drop (limit + (2 * old - old)) (nodes ++ added)) limit front
      ∙ (λ k. leaves_taken k ++ rest_blank k)

  -- what a longer list holds after its leaves were moved
  pub leaves_moved : (longer : List Bool) → longer ≡ take (2 * limit) nodes ++ replicate (2 * limit - length nodes) false
      → drop limit (copy_within longer old (2 * old) limit) ≡ drop old nodes ++ replicate (limit - old) false
  leaves_moved longer e = ap (λ xs. drop limit (copy_within xs old (2 * old) limit)) (e ∙ longer_is) ∙ moved_is

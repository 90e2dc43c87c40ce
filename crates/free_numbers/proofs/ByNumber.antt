-- What the first mark that isn't set tells, number by number.
use Rattle.std.proofs.Common.{◌≡◌, ℕ, not, List, Bool, false, length, Some, None, inl, inr, arith, lt-ltb}
use Rattle.std.specs.Prelude.{position}
use Rattle.std.specs.List.{position_or_len}
use Rattle.std.proofs.lemmas.Bool.{cases_lt, not-true, not-false}
use Rattle.std.proofs.lemmas.List.Quantifiers.{position-Some}
use Rattle.std.proofs.lemmas.List.Sums.{fails_before_first}
use Rattle.free_numbers.specs.Marks.{IsLeastFree, AllTaken, is_taken}

pub first_is_least : (marks : List Bool) (n : ℕ) → position not marks ≡ Some n → IsLeastFree marks n
first_is_least marks n e = let h = position-Some not marks n false e in record {
  below = h.0;
  free = not-true (is_taken marks n) h.1;
  least = λ m lt. not-false (is_taken marks m) (h.2 m lt);
}

pub none_is_free : (marks : List Bool) → position not marks ≡ None → AllTaken marks
none_is_free marks e = elim (cases_lt (position_or_len not marks) (length marks)) [
  | inl found ↦ let is : position not marks ≡ Some (position_or_len not marks) = rw (lt-ltb (position_or_len not marks) (length marks) found) in cc
  | inr past ↦ λ n lt. not-false (is_taken marks n) (fails_before_first not marks n false (omega arith))
]

-- What a partner answered to a request.
use Rattle.std.specs.Prelude.{◌≡◌, ℕ, List}
use Rattle.uring_submit.specs.declared.sending.Answer.{Answer}

-- its number, and the numbers that it left
pub record IsAnswer (answer : Answer) (n : ℕ) (nums : List ℕ) : Type 0 where
  pub number : answer.number ≡ n
  pub left : answer.nums ≡ nums

use Rattle.std.proofs.Common.{◌≡◌, ◌<◌}
use Rattle.std.specs.Prelude.{IfSome}
use Rattle.uring_cli.specs.Words.{given_by, nothing_given}
use Rattle.uring_cli.proofs.words.given_by.Given as goal

-- the words that are left, behind what is given so far, give what all words give
abbrev pub invariant-loop-name : goal.invariant-loop-name
invariant-loop-name l = record {
  given : given_by nothing_given l.fn.words ≡ given_by l.given l.rest.rest.now;
  idle : IfSome l.given.idle (λ n. 0 < n);
}

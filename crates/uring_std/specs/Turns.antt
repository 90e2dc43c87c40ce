-- What a turn does to the log, to the side of the rings, and to a chain.
use Rattle.std.specs.Prelude.{◌≡◌, ℕ, ℤ, Bool, true, if◌then◌else◌, List, [], ◌∷◌, ◌++◌, length, Option, Some, None}
use Rattle.std.specs.Option.{option_map}
use Rattle.uring_base.specs.declared.buffer.Loan.{Loan}
use Rattle.uring_base.specs.declared.events.Taken.{Taken}
use Rattle.uring_base.specs.declared.events.Completion.{Completion}
use Rattle.uring_base.specs.declared.events.LogEvent.{LogEvent}
use Rattle.uring_base.specs.Errnos.{error_result}
use Rattle.uring_base.specs.declared.errno.TheConstants.{ECANCELED}
use Rattle.uring_model.specs.Jobs.{ends_quietly}
use Rattle.uring_model.specs.Moves.{Move, Posted, Quieted, took, posted, log_of}
use Rattle.uring_model.specs.Partner.{job_of, cut_of}
use Rattle.uring_std.specs.Chains.{tail_after}

-- with these moves the side and the log went on
pub record LogsBy {Q : Type 0} (moved : Q → List Taken → List Completion → Q → Type 0) (before after : List LogEvent) (from to : Q) (ms : List Move) : Type 0 where
  pub sides : moved from (took ms) (posted ms) to
  pub grown : after ≡ before ++ log_of ms

-- a loan without its bytes: its number, its place and how many there are
abbrev pub bare : Option Loan → Option (ℕ × ℕ × ℕ)
bare None = None
bare (Some loan) = Some (loan.number, loan.from, length loan.buf)

abbrev pub number_of : Option Loan → Option ℕ
number_of loan = option_map (λ l. l.number) loan

-- an entry that was taken, and the same one with what its loan came to hold
pub record ComesBack (t back : Taken) : Type 0 where
  pub entry : back.entry ≡ t.entry
  pub big : back.big ≡ t.big
  pub large : back.large ≡ t.large
  pub number : number_of back.loan ≡ number_of t.loan

-- how an entry ends with this result: with a completion that has its loan, or, where it is quiet and succeeds, with none
abbrev pub ends_as : Taken → ℤ → Move
ends_as t r = if ends_quietly (job_of t) r then Quieted t.entry.user_data else Posted (record { user_data = t.entry.user_data; result = r; flags = 0; big = 0 ∷ 0 ∷ []; large = t.large; loan = t.loan })

-- A taken entry ends by this move. It is canceled where its chain was cut before it, and what comes behind it is told whether it is cut.
pub record EndsBy (tail : Option Bool) (t : Taken) (m : Move) (after : Option Bool) : Type 0 where
  pub back : Taken
  pub result : ℤ
  pub same : ComesBack t back
  pub move : m ≡ ends_as back result
  pub canceled : cut_of tail ≡ true → (result ≡ error_result ECANCELED) × (back ≡ t)
  pub told : after ≡ tail_after (cut_of tail) back result

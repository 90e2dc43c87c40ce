-- What a partner's rounds in a row did, by what each side tells.
use Rattle.std.specs.Prelude.{◌≡◌, ℕ, false, List, [], Option, Some, None, IfSome, Result, Ok, Err, is_none}
use Rattle.uring_base.specs.declared.events.Taken.{Taken}
use Rattle.uring_base.specs.declared.events.Completion.{Completion}
use Rattle.uring_base.specs.declared.events.LogEvent.{LogEvent}
use Rattle.uring_base.specs.Causes.{HasCause}
use Rattle.uring_model.specs.Schedule.{Machine, State}
use Rattle.partner_traits.specs.declared.call.PartnerError.{PartnerError}
use Rattle.partner_traits.specs.Calls.{KeepsErrno, is_fault}
use Rattle.partner_serving.specs.Serving.{Serving}

-- what ended the rounds, as their result
abbrev pub ended_by : Option PartnerError → Result (Unit {0}) PartnerError
ended_by None = Ok tt
ended_by (Some e) = Err e

-- A fault has its cause in the partner's count, and its error number is the one that the partner tells. Where no failure is planned,
-- none is planned then, and a partner that tells its state had no fault.
pub record AreFaultsCounted {S P : Type 0} (state : P → Option S) (plan : P → List ℕ) (faults errno : P → ℕ) (old new : P) (ended : Option PartnerError) : Type 0 where
  pub cause : HasCause is_fault (faults old) (faults new) (ended_by ended)
  pub number : KeepsErrno (ended_by ended) (errno old) (errno new)
  pub unplanned : plan old ≡ [] → plan new ≡ []
  pub calm : IfSome (state old) (λ _. plan old ≡ [] → (faults new ≡ faults old) × IfSome ended (λ e. is_fault e ≡ false))

-- The rounds are one stretch, over the entries and completions by which their side went on. It is unbroken where no round was refused.
pub record RoundsServe {W : Type 0} (m : Machine W) (Plain : W → Type 0) {P S : Type 0} (log : P → Option (List LogEvent)) (state : P → Option (State W)) (plan : P → List ℕ) (faults errno : P → ℕ)
    (moved : S → List Taken → List Completion → S → Type 0) (from : S) (old : P) (to : S) (new : P) (ended : Option PartnerError) : Type 0 where
  pub ts : List Taken
  pub cs : List Completion
  pub moves : moved from ts cs to
  pub served : Serving m Plain (is_none ended) (log old) (log new) (state old) (state new) ts cs
  pub counted : AreFaultsCounted state plan faults errno old new ended

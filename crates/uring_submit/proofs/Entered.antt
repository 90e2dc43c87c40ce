-- One enter: its values, and how it fails.
use Rattle.std.proofs.Common.{◌≡◌, ℕ, ℤ, refl, Bool, true, false, cond, List, Option, Some, None, Result, Ok, Err, IsErr, ap}
use Rattle.std.proofs.lemmas.Option.{same_Some}
use Rattle.uring_base.specs.declared.events.Taken.{Taken}
use Rattle.uring_base.specs.declared.events.Completion.{Completion}
use Rattle.uring_base.specs.declared.events.LogEvent.{LogEvent}
use Rattle.uring_model.specs.Moves.{Move}
use Rattle.uring_model.specs.Schedule.{Machine, State}
use Rattle.ring_traits.specs.Lists.{Lists}
use Rattle.partner_traits.specs.declared.call.EnterCall.{EnterCall}
use Rattle.partner_traits.specs.Calls.{Enters, IsCall}
use Rattle.partner_traits.specs.Requests.{calls_after}
use Rattle.partner_traits.specs.declared.request.PartnerCall.{PartnerCall}
use Rattle.std.specs.Result.{is_ok}
use Rattle.uring_types.specs.declared.submit_args.SubmitArgs.{SubmitArgs}
use Rattle.uring_submit.specs.Decisions.{call_of}
use Rattle.uring_submit.specs.declared.error.SubmitError.{SubmitError}
use Rattle.uring_submit.specs.Submits.{EntersBy, EntersOnce}

pub failed : {W : Type 0} (m : Machine W) {P Q : Type 0} (log : P → Option (List LogEvent)) (state : P → Option (State W)) (lists : Q → Option Lists) (ready space : Q → ℕ) (moved : Q → List Taken → List Completion → Q → Type 0) (call : EnterCall) (old new : P) (from to : Q) (ms : List Move) (result : Result ℕ SubmitError)
    → IsErr result → Enters m log state moved old new from to ms → IsCall false call.to_submit (lists from) ms → EntersOnce m log state lists ready space moved call old new from to result
failed m log state lists ready space moved call old new from to ms (Ok n) err made is = let no : ⊥ = cc (err) in absurd no
failed m log state lists ready space moved call old new from to ms (Err e) err made is = record { moves = ms; made = made; call = is; taken = tt; full = tt }

-- the enter that was decided asks for all that is published
pub asks_for_all : (enters : Bool) (call wanted : EnterCall) → Some call ≡ cond enters (Some wanted) None → call.to_submit ≡ wanted.to_submit
asks_for_all true call wanted e = ap (λ (c : EnterCall). c.to_submit) (same_Some _ _ e)
asks_for_all false call wanted e = let no : ⊥ = cc (e) in absurd no

-- an enter asks for what it is given, whichever ring it names
pub asked_of : (registered : Option ℤ) (to_submit want flags : ℕ) (args : Option SubmitArgs) → (call_of registered to_submit want flags args).to_submit ≡ to_submit
asked_of None to_submit want flags args = refl
asked_of (Some index) to_submit want flags args = refl

pub failed_by : {W : Type 0} (m : Machine W) {P Q : Type 0} (log : P → Option (List LogEvent)) (state : P → Option (State W)) (lists : Q → Option Lists) (ready space : Q → ℕ) (moved : Q → List Taken → List Completion → Q → Type 0) (call : EnterCall) (old new : P) (from to : Q) (ms : List Move) (result : Result ℕ SubmitError)
    → IsErr result → Enters m log state moved old new from to ms → IsCall false call.to_submit (lists from) ms → EntersBy m log state lists ready space moved call old new from to result
failed_by m log state lists ready space moved call old new from to ms (Ok n) err made is = let no : ⊥ = cc (err) in absurd no
failed_by m log state lists ready space moved call old new from to ms (Err e) err made is = record { moves = ms; made = made; call = is; taken = tt; full = tt }

-- a call that fails is none that is told
pub failed_calls : (call : PartnerCall) (result : Result ℕ SubmitError) → IsErr result → (old new : Option (List PartnerCall)) → new ≡ old → new ≡ calls_after (is_ok result) call old
failed_calls call (Ok n) err old new same = let no : ⊥ = cc (err) in absurd no
failed_calls call (Err e) err old new same = same

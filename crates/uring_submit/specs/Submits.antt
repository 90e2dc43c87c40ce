-- What a submit call does with a partner and its side of the rings.
use Rattle.std.specs.Prelude.{◌≡◌, ℕ, ℤ, List, [], length, min, Option, Some, None, Result, Ok, is_ok, IfOk, OnOk}
use Rattle.uring_base.specs.declared.events.Taken.{Taken}
use Rattle.uring_base.specs.declared.events.Completion.{Completion}
use Rattle.uring_base.specs.declared.events.LogEvent.{LogEvent}
use Rattle.uring_model.specs.Moves.{Move, took}
use Rattle.uring_model.specs.Schedule.{Machine, State}
use Rattle.ring_setup.specs.declared.parameters.Parameters.{Parameters}
use Rattle.ring_traits.specs.Lists.{Lists}
use Rattle.partner_traits.specs.declared.call.EnterCall.{EnterCall}
use Rattle.partner_traits.specs.Calls.{Enters, IsCall, IsFullTurn}
use Rattle.partner_traits.specs.Requests.{calls_after}
use Rattle.partner_traits.specs.declared.request.PartnerCall.{PartnerCall}
use Rattle.partner_traits.specs.declared.request.PartnerCall.TheVariants.{Entered}
use Rattle.uring_submit.specs.declared.error.SubmitError.{SubmitError}
use Rattle.uring_submit.specs.declared.submitter.Submitter.{Submitter}

abbrev pub params_of : Submitter → Parameters
params_of submitter = submitter.params

-- the index of the ring's registered descriptor, where one is registered
abbrev pub registered_of : Submitter → Option ℤ
registered_of submitter = submitter.registered

module _ {W : Type 0} (m : Machine W) {P Q : Type 0} (log : P → Option (List LogEvent)) (state : P → Option (State W)) (lists : Q → Option Lists) (ready space : Q → ℕ) (moved : Q → List Taken → List Completion → Q → Type 0) where
  -- One enter with these values, as a partner promises it: there is one list of moves. Where it succeeds they are a turn, which
  -- takes what was known to wait, and settles with the room that was known.
  pub record EntersOnce (entered : EnterCall) (old new : P) (from to : Q) (result : Result ℕ SubmitError) : Type 0 where
    pub moves : List Move
    pub made : Enters m log state moved old new from to moves
    pub call : IsCall (is_ok result) entered.to_submit (lists from) moves
    pub taken : IfOk result (λ n. n ≡ length (took moves))
    pub full : OnOk result (IsFullTurn m (state old) (ready from) (space from) (lists from) moves)

  -- One enter with these values, which may ask for fewer than wait. Where it succeeds it takes what was known to wait and is asked for.
  pub record EntersBy (entered : EnterCall) (old new : P) (from to : Q) (result : Result ℕ SubmitError) : Type 0 where
    pub moves : List Move
    pub made : Enters m log state moved old new from to moves
    pub call : IsCall (is_ok result) entered.to_submit (lists from) moves
    pub taken : IfOk result (λ n. n ≡ length (took moves))
    pub full : OnOk result (IsFullTurn m (state old) (min entered.to_submit (ready from)) (space from) (lists from) moves)

  -- such an enter, which is what the calls told gained where it succeeds
  abbrev pub EntersAsAsked : (P → Option (List PartnerCall)) → Option EnterCall → P → P → Q → Q → Result ℕ SubmitError → Type 0
  EntersAsAsked calls (Some call) old new from to result = EntersBy call old new from to result × (calls new ≡ calls_after (is_ok result) (Entered call) (calls old))
  EntersAsAsked calls None old new from to result = ¬ (Unit {0})

  -- the one enter that was decided, which is what the calls told gained where it succeeds; or the answer how many are published
  abbrev pub Submits : (P → Option (List PartnerCall)) → Option EnterCall → ℕ → P → P → Q → Q → Result ℕ SubmitError → Type 0
  Submits calls (Some call) published old new from to result = EntersOnce call old new from to result × (calls new ≡ calls_after (is_ok result) (Entered call) (calls old))
  Submits calls None published old new from to result = moved from [] [] to × (new ≡ old) × (result ≡ Ok published)

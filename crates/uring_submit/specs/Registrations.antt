-- What a registration sends, and what it makes of a partner.
use Rattle.std.specs.Prelude.{◌≡◌, ℕ, ℤ, negsuc, true, bit_or, if◌then◌else◌, List, length, Option, Some, None, Result, is_ok, IfOk, IfErr}
use Rattle.uring_base.specs.Causes.{HasCause}
use Rattle.uring_base.specs.declared.events.LogEvent.{LogEvent}
use Rattle.uring_model.specs.Schedule.{State}
use Rattle.uring_types.specs.declared.register_codes.TheConstants.{USE_REGISTERED_RING}
use Rattle.ring_setup.specs.declared.parameters.Parameters.{Parameters}
use Rattle.ring_setup.specs.declared.feature_flags.TheConstants.FeatureFlags.{REG_REG_RING}
use Rattle.ring_setup.specs.Setup.{is_feature}
use Rattle.partner_traits.specs.Requests.{calls_after}
use Rattle.partner_traits.specs.declared.request.Request.{Request}
use Rattle.partner_traits.specs.declared.request.PartnerCall.{PartnerCall}
use Rattle.partner_traits.specs.declared.request.PartnerCall.TheVariants.{Requested}
use Rattle.uring_submit.specs.declared.error.SubmitError.{SubmitError}
use Rattle.uring_submit.specs.Errors.{KeepsSubmitErrno, is_of_partner, is_submit_fault}

-- a request that names the ring by its raw descriptor
abbrev pub raw_request : ℕ → ℕ → List ℕ → Request
raw_request code nr nums = record { ring = negsuc 0; code = code; nr = nr; nums = nums }

-- a request that names the ring by its registered index, where one is registered and the partner takes it there
abbrev pub request_of : Parameters → Option ℤ → ℕ → ℕ → List ℕ → Request
request_of params None code nr nums = raw_request code nr nums
request_of params (Some index) code nr nums = if is_feature params REG_REG_RING then record { ring = index; code = bit_or code USE_REGISTERED_RING; nr = nr; nums = nums } else raw_request code nr nums

-- nothing is read of the partner's number and of the numbers that it left
abbrev pub Nothing : Unit {0} → ℕ → List ℕ → Type 0
Nothing x number left = Unit {0}

module _ {W P : Type 0} (answers : P → Request → ℕ → List ℕ → P → Type 0) (calls : P → Option (List PartnerCall)) (log : P → Option (List LogEvent)) (state : P → Option (State W)) (plan : P → List ℕ) (faults errno : P → ℕ) where
  -- the partner answered this request with a number, and left these numbers, of which the caller is given what is read of them
  pub record IsRead {T : Type 0} (request : Request) (reads : T → ℕ → List ℕ → Type 0) (old new : P) (given : T) : Type 0 where
    pub number : ℕ
    pub left : List ℕ
    pub answer : answers old request number left new
    pub many : length left ≡ length request.nums
    pub read : reads given number left

  -- One request: where it succeeds it is exactly what the calls told gained, and what is given is read from the partner's answer.
  pub record Sends {T : Type 0} (request : Request) (reads : T → ℕ → List ℕ → Type 0) (old new : P) (result : Result T SubmitError) : Type 0 where
    pub told : calls new ≡ calls_after (is_ok result) (Requested request) (calls old)
    pub answered : IfOk result (IsRead request reads old new)
    pub logs : log new ≡ log old
    pub states : state new ≡ state old
    pub plans : plan new ≡ plan old
    pub cause : HasCause is_submit_fault (faults old) (faults new) result
    pub keeps : KeepsSubmitErrno result (errno old) (errno new)
    pub errors : IfErr result (λ e. is_of_partner e ≡ true)

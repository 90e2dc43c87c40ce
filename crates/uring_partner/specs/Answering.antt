-- How a memory partner answers a registration.
use Rattle.std.specs.Prelude.{◌≡◌, ℕ, ◌+◌, ◌-◌, ◌<◌, ◌^◌, min, Bool, false, cond, nat_eq, nat_lt, ◌||◌, ◌&&◌, bit_and, List, [], length, replicate, slice_index, Option, Some, None, is_some, Result, IfErr, Err}
use Rattle.uring_base.specs.Words.{bits_of, blank}
use Rattle.uring_base.specs.declared.errno.TheConstants.{EINVAL}
use Rattle.uring_base.specs.declared.events.Taken.{Taken}
use Rattle.uring_model.specs.Asks.{is_job_operation, op_of}
use Rattle.file_tree.specs.Asks.{path_op_of}
use Rattle.uring_types.specs.declared.register_codes.TheConstants.{USE_REGISTERED_RING, OP_SUPPORTED}
use Rattle.uring_types.specs.declared.register_codes.TheConstants as codes
use Rattle.partner_traits.specs.declared.call.PartnerError.{PartnerError}
use Rattle.partner_traits.specs.declared.call.PartnerError.TheVariants.{Fault, NoMemory}
use Rattle.partner_traits.specs.declared.request.Request.{Request}
use Rattle.uring_partner.specs.declared.answering.Answering.{Answering}
use Rattle.uring_partner.specs.declared.answering.Answering.TheVariants.{Ring, Served, Personality, Count, Nothing, Refused}
use Rattle.uring_partner.specs.declared.answering.TheConstants.{LAST_CODE, LAST_PERSONALITY}
use Rattle.uring_partner.specs.declared.memory.MemoryPartner.{MemoryPartner}
use Rattle.uring_partner.specs.Told.{given_by}

-- a code without the bit that says how the ring is named
abbrev pub plain_code : ℕ → ℕ
plain_code code = bit_and code (USE_REGISTERED_RING - 1)

-- the codes of buffers and files that are answered with 0
abbrev pub is_of_resources : ℕ → Bool
is_of_resources code =
    nat_eq code codes.REGISTER_BUFFERS || nat_eq code codes.UNREGISTER_BUFFERS || nat_eq code codes.REGISTER_BUFFERS2 || nat_eq code codes.REGISTER_BUFFERS_UPDATE
    || nat_eq code codes.REGISTER_CLONE_BUFFERS || nat_eq code codes.REGISTER_FILES || nat_eq code codes.UNREGISTER_FILES || nat_eq code codes.REGISTER_FILES2

-- the others that are answered with 0
abbrev pub is_of_settings : ℕ → Bool
is_of_settings code =
    nat_eq code codes.REGISTER_EVENTFD || nat_eq code codes.UNREGISTER_EVENTFD || nat_eq code codes.REGISTER_EVENTFD_ASYNC || nat_eq code codes.UNREGISTER_PERSONALITY
    || nat_eq code codes.REGISTER_RESTRICTIONS || nat_eq code codes.REGISTER_ENABLE_RINGS || nat_eq code codes.REGISTER_IOWQ_MAX_WORKERS || nat_eq code codes.UNREGISTER_RING_FDS
    || nat_eq code codes.REGISTER_PBUF_RING || nat_eq code codes.UNREGISTER_PBUF_RING || nat_eq code codes.REGISTER_SYNC_CANCEL || nat_eq code codes.REGISTER_NAPI || nat_eq code codes.UNREGISTER_NAPI

abbrev pub answering_to : ℕ → Answering
answering_to code =
    cond (nat_eq code codes.REGISTER_RING_FDS) Ring
    (cond (nat_eq code codes.REGISTER_PROBE) Served
    (cond (nat_eq code codes.REGISTER_PERSONALITY) Personality
    (cond (nat_eq code codes.REGISTER_FILES_UPDATE) Count
    (cond (is_of_resources code || is_of_settings code) Nothing Refused))))

-- the number that is answered, where so many personalities were given out; none is a fault
abbrev pub number_of : Answering → ℕ → ℕ → Option ℕ
number_of Ring nr given = Some 1
number_of Served nr given = Some 0
number_of Personality nr given = cond (nat_lt given LAST_PERSONALITY) (Some (given + 1)) None
number_of Count nr given = Some nr
number_of Nothing nr given = Some 0
number_of Refused nr given = None

-- how many personalities were given out then
abbrev pub given_after : Answering → ℕ → ℕ
given_after Ring given = given
given_after Served given = given
given_after Personality given = cond (nat_lt given LAST_PERSONALITY) (given + 1) given
given_after Count given = given
given_after Nothing given = given
given_after Refused given = given

abbrev pub no_bytes : List ℕ
no_bytes = replicate 64 0

-- a bare entry of this code, with a loan
abbrev pub bare_of : ℕ → Taken
bare_of code = record { entry = blank code; big = no_bytes; large = false; loan = Some (record { number = 0; from = 0; buf = [] }) }

-- it asks for an operation that is served, of the tree or of the files
abbrev pub is_served : ℕ → Bool
is_served code = is_some (path_op_of (bare_of code)) || is_job_operation (op_of (bare_of code))

-- what a probe tells in this place: the last code, and then the flags of each code
abbrev pub probed : ℕ → ℕ
probed place = cond (nat_eq place 0) LAST_CODE (cond (nat_lt place 257 && is_served (place - 1)) OP_SUPPORTED 0)

-- what is left in this place of a request's numbers
abbrev pub number_left : Answering → ℕ → ℕ → ℕ
number_left Ring place number = cond (nat_eq place 0) 0 number
number_left Served place number = probed place
number_left Personality place number = number
number_left Count place number = number
number_left Nothing place number = number
number_left Refused place number = number

pub record LeavesBy (how : Answering) (numbers left : List ℕ) : Type 0 where
  pub many : length left ≡ length numbers
  pub each : (place : ℕ) → place < length left → slice_index left place ≡ number_left how place (slice_index numbers place)

-- what an answer to a request makes of the partner
pub record AnswersBy (how : Answering) (old : MemoryPartner) (request : Request) (n : ℕ) (left : List ℕ) (new : MemoryPartner) : Type 0 where
  pub number : number_of how request.nr (given_by old) ≡ Some n
  pub leaves : LeavesBy how request.nums left
  pub given : given_by new ≡ given_after how (given_by old)

abbrev pub Answers : MemoryPartner → Request → ℕ → List ℕ → MemoryPartner → Type 0
Answers old request n left new = AnswersBy (answering_to (plain_code request.code)) old request n left new

-- A registration fails by a fault exactly where there is no number for it, and counts that; else it fails for want of memory alone.
abbrev pub FailsBy : Option ℕ → Result ℕ PartnerError → ℕ → ℕ → Type 0
FailsBy None result before after = (result ≡ Err (Fault (bits_of EINVAL))) × (after ≡ min (before + 1) (2 ^ 64 - 1))
FailsBy (Some n) result before after = IfErr result (λ e. e ≡ NoMemory) × (after ≡ before)

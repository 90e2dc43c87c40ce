-- The numbers of some registrations.
use Rattle.std.specs.Prelude.{ℕ, ◌^◌, ◌-◌, ◌+◌, ◌*◌, Bool, not, nat_eq, nat_lt, ◌&&◌, bit_and, min, List, [], ◌∷◌, ◌++◌, take, length, replicate, slice_index, if◌then◌else◌, Option, Some, None}
use Rattle.std.specs.Int.{w64, cast_unsigned}
use Rattle.uring_base.specs.Words.{bits_of}
use Rattle.uring_types.specs.declared.napi.Napi.{Napi}
use Rattle.uring_types.specs.declared.register_codes.TheConstants.{OP_SUPPORTED}
use Rattle.uring_types.specs.declared.time.Timespec.{Timespec}
use Rattle.uring_types.specs.Cancel.{Cancel, target_word}
use Rattle.uring_submit.specs.declared.probe.Probe.{Probe}
use Rattle.uring_submit.specs.declared.restriction.Restriction.{Restriction}
use Rattle.uring_submit.specs.declared.restriction.TheConstants.{VALUE_PLACE}
use Rattle.uring_submit.specs.declared.probe.TheConstants.{PROBE_LEN}

-- the bits of a time's seconds and nanoseconds, which are -1 without a time
abbrev pub time_bits : Option Timespec → ℕ × ℕ
time_bits None = (2 ^ 64 - 1, 2 ^ 64 - 1)
time_bits (Some time) = (cast_unsigned w64 time.seconds, cast_unsigned w64 time.nanos)

abbrev pub number_or_0 : Option ℕ → ℕ
number_or_0 None = 0
number_or_0 (Some n) = n

-- a cancel that is waited for: the number, the descriptor, the flags, and how long
abbrev pub canceled : Option Timespec → Cancel → List ℕ
canceled time cancel = number_or_0 cancel.user_data ∷ bits_of (target_word cancel.fd) ∷ cancel.flags ∷ (time_bits time).0 ∷ (time_bits time).1 ∷ []

-- the first buffers and the first tags, as many as there are of both, behind these numbers
abbrev pub both : List ℕ → ℕ → List ℕ → List ℕ → List ℕ
both front n bufs tags = (front ++ take n bufs) ++ take n tags

-- how many buffers have a tag, and all where there are no tags
abbrev pub shorter : List ℕ → Option (List ℕ) → ℕ
shorter bufs None = length bufs
shorter bufs (Some tags) = min (length bufs) (length tags)

abbrev pub tags_or_none : Option (List ℕ) → List ℕ
tags_or_none None = []
tags_or_none (Some tags) = tags

-- what a restriction allows or asks for, and of what kind it is
abbrev pub restriction_number : Restriction → ℕ
restriction_number restriction = restriction.code + VALUE_PLACE * restriction.value

-- the numbers of a probe: the last code, and then the flags of each code
abbrev pub probe_numbers : Probe → List ℕ
probe_numbers probe = probe.numbers

-- a probe that tells of no operation
abbrev pub no_probe : Probe
no_probe = record { numbers = replicate PROBE_LEN 0 }

-- an operation that a probe tells of
abbrev pub is_told : List ℕ → ℕ → Bool
is_told numbers op = not (nat_lt (slice_index numbers 0) op) && nat_eq (bit_and (slice_index numbers (op + 1)) OP_SUPPORTED) OP_SUPPORTED

-- the low bits of a number
abbrev pub low_16 : ℕ → ℕ
low_16 n = bit_and n (2 ^ 16 - 1)

abbrev pub low_31 : ℕ → ℕ
low_31 n = bit_and n (2 ^ 31 - 1)

abbrev pub low_32 : ℕ → ℕ
low_32 n = bit_and n (2 ^ 32 - 1)

-- the number of a busy polling, and what is read back of its numbers
abbrev pub napi_numbers : Napi → List ℕ
napi_numbers napi = napi.busy_poll_timeout ∷ (if napi.prefer_busy_poll then 1 else 0) ∷ 0 ∷ napi.tracking ∷ []

abbrev pub napi_of : List ℕ → Napi
napi_of left = record { busy_poll_timeout = low_32 (slice_index left 0); prefer_busy_poll = not (nat_eq (slice_index left 1) 0); tracking = low_32 (slice_index left 3) }

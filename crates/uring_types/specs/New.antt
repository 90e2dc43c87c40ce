-- What each small type begins with, and what a span of time becomes.
use Rattle.std.specs.Prelude.{ℕ, ◌-◌, ◌/◌, ◌%◌, ◌^◌, pos, min, false, None}
use Rattle.std.specs.Duration.{as_nanos}
use Rattle.std.specs.declared.time.Duration.{Duration}
use Rattle.uring_types.specs.declared.time.Timespec.{Timespec}
use Rattle.uring_types.specs.declared.open_how.OpenHow.{OpenHow}
use Rattle.uring_types.specs.declared.futex.FutexWaitV.{FutexWaitV}
use Rattle.uring_types.specs.declared.napi.Napi.{Napi}
use Rattle.uring_types.specs.declared.napi.TheConstants.{TRACKING_DYNAMIC, TRACKING_STATIC, TRACKING_INACTIVE}
use Rattle.uring_types.specs.declared.napi.NapiTracking.{NapiTracking}
use Rattle.uring_types.specs.declared.napi.NapiTracking.TheVariants.{Dynamic, Static, Inactive}
use Rattle.uring_types.specs.declared.buf_ring.BufRingEntry.{BufRingEntry}
use Rattle.uring_types.specs.declared.submit_args.SubmitArgs.{SubmitArgs}

abbrev pub new_timespec : Timespec
new_timespec = record { seconds = pos 0; nanos = pos 0 }

-- whole seconds, cut to the greatest that fit, and the nanoseconds beyond them
abbrev pub timespec_of : Duration → Timespec
timespec_of d = record {
  seconds = pos (min (as_nanos d / 1_000_000_000) (2 ^ 63 - 1));
  nanos = pos (as_nanos d % 1_000_000_000);
}

abbrev pub new_open_how : OpenHow
new_open_how = record { flags = 0; mode = 0; resolve = 0 }

abbrev pub new_futex_waitv : FutexWaitV
new_futex_waitv = record { val = 0; uaddr = 0; flags = 0 }

abbrev pub new_napi : Napi
new_napi = record { busy_poll_timeout = 0; prefer_busy_poll = false; tracking = TRACKING_DYNAMIC }

-- the number of a way of tracking
abbrev pub tracking_code : NapiTracking → ℕ
tracking_code Dynamic = TRACKING_DYNAMIC
tracking_code Static = TRACKING_STATIC
tracking_code Inactive = TRACKING_INACTIVE

abbrev pub new_buf_ring_entry : BufRingEntry
new_buf_ring_entry = record { addr = 0; len = 0; bid = 0 }

abbrev pub new_submit_args : SubmitArgs
new_submit_args = record { sigmask = None; min_wait_usec = 0; timespec = None }

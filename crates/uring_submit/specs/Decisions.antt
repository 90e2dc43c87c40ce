-- What a submit call enters with, or that it makes no enter.
use Rattle.std.specs.Prelude.{ℕ, ℤ, negsuc, Bool, not, ◌&&◌, ◌||◌, nat_lt, bit_or, if◌then◌else◌, Option, Some, None}
use Rattle.ring_setup.specs.declared.parameters.Parameters.{Parameters}
use Rattle.ring_setup.specs.declared.feature_flags.TheConstants.FeatureFlags.{NODROP}
use Rattle.ring_setup.specs.declared.ring_flags.TheConstants.SubmissionFlags.{NEED_WAKEUP, CQ_OVERFLOW, TASKRUN}
use Rattle.ring_setup.specs.declared.setup_flags.TheConstants.SetupFlags.{IOPOLL, SQPOLL}
use Rattle.ring_setup.specs.RingFlags.{shows}
use Rattle.ring_setup.specs.Setup.{is_setup, is_feature}
use Rattle.uring_types.specs.declared.submit_args.SubmitArgs.{SubmitArgs}
use Rattle.partner_traits.specs.declared.call.EnterCall.{EnterCall}
use Rattle.uring_submit.specs.declared.flags.TheConstants.EnterFlags.{GETEVENTS, SQ_WAKEUP, SQ_WAIT, EXT_ARG, REGISTERED_RING}
use Rattle.uring_submit.specs.EnterBits.{enter_bits}

-- a submit call, with what it is given
pub data Submission : Type 0 where
  Enter : ℕ → ℕ → ℕ → Option SubmitArgs → Submission
  Submit : Submission
  SubmitAndWait : ℕ → Submission
  SubmitWithArgs : ℕ → SubmitArgs → Submission
  SqueueWait : Submission

-- only an enter brings completions that are held back, or runs tasks that wait
abbrev pub has_events : ℕ → Parameters → Bool
has_events ring_flags params = (shows ring_flags CQ_OVERFLOW && is_feature params NODROP) || shows ring_flags TASKRUN

-- an enter asks for completions
abbrev pub gets_events : ℕ → Parameters → ℕ → Bool
gets_events ring_flags params want = nat_lt 0 want || is_setup params IOPOLL || shows ring_flags CQ_OVERFLOW || shows ring_flags TASKRUN

-- an enter wakes the partner's own thread
abbrev pub wakes : ℕ → Parameters → Bool
wakes ring_flags params = is_setup params SQPOLL && shows ring_flags NEED_WAKEUP

-- there is no enter where the partner's own thread is awake and takes entries, none is wanted and nothing is due
abbrev pub enters : ℕ → Parameters → ℕ → Bool
enters ring_flags params want = not (is_setup params SQPOLL) || shows ring_flags NEED_WAKEUP || nat_lt 0 want || has_events ring_flags params

abbrev pub enter_flags : ℕ → Parameters → ℕ → ℕ
enter_flags ring_flags params want = bit_or (if gets_events ring_flags params want then enter_bits GETEVENTS else 0) (if wakes ring_flags params then enter_bits SQ_WAKEUP else 0)

-- an enter of the registered ring, where there is one, and else of the raw descriptor
abbrev pub call_of : Option ℤ → ℕ → ℕ → ℕ → Option SubmitArgs → EnterCall
call_of None to_submit want flags args = record { ring = negsuc 0; to_submit = to_submit; want = want; flags = flags; args = args }
call_of (Some index) to_submit want flags args = record { ring = index; to_submit = to_submit; want = want; flags = bit_or flags (enter_bits REGISTERED_RING); args = args }

-- the flag that says that there are further arguments
abbrev pub args_flag : Option SubmitArgs → ℕ
args_flag None = 0
args_flag (Some args) = enter_bits EXT_ARG

-- an enter over what is published
abbrev pub wanted_call : ℕ → ℕ → Parameters → Option ℤ → ℕ → Option SubmitArgs → EnterCall
wanted_call published ring_flags params registered want args = call_of registered published want (bit_or (enter_flags ring_flags params want) (args_flag args)) args

-- such an enter, unless there is to be none
abbrev pub waiting : ℕ → ℕ → Parameters → Option ℤ → ℕ → Option SubmitArgs → Option EnterCall
waiting published ring_flags params registered want args = if enters ring_flags params want then Some (wanted_call published ring_flags params registered want args) else None

-- The values of the one enter of each call, by what is published, the ring's flags, the parameters and the registered index;
-- or none, where the call answers how many are published.
abbrev pub decision : ℕ → ℕ → Parameters → Option ℤ → Submission → Option EnterCall
decision published ring_flags params registered (Enter to_submit want flags args) = Some (call_of registered to_submit want flags args)
decision published ring_flags params registered Submit = waiting published ring_flags params registered 0 None
decision published ring_flags params registered (SubmitAndWait want) = waiting published ring_flags params registered want None
decision published ring_flags params registered (SubmitWithArgs want args) = waiting published ring_flags params registered want (Some args)
decision published ring_flags params registered SqueueWait = Some (call_of registered 0 0 (enter_bits SQ_WAIT) None)

-- A read or a write whose operation was asked for, and what it tells its job.
use Rattle.std.proofs.Common.{◌≡◌, ℕ, ℤ, Bool, true, false, ◌||◌, if◌then◌else◌, List, [], ◌++◌, Option, Some, None, is_some, IfSome, Result, refl, ap, sym, subst, ◌∙◌, length, ◌+◌, append-nil, add-zero}
use Rattle.uring_base.specs.declared.events.Taken.{Taken}
use Rattle.uring_model.specs.declared.jobs.Outcome.{Outcome}
use Rattle.ring_traits.specs.Lists.{Lists, Becomes}
use Rattle.rent_table.specs.declared.ops.Flight.{Flight}
use Rattle.rent_table.specs.declared.ops.OpDone.{OpDone}
use Rattle.rent_engine.specs.declared.ops.OpPoll.TheVariants as polls
use Rattle.rent_engine.specs.declared.state.Poll.{Poll}
use Rattle.rent_engine.specs.declared.state.Poll.TheVariants.{Ready}
use Rattle.rent_engine.specs.declared.one_op.OneAnswer.{OneAnswer}
use Rattle.rent_engine.specs.declared.one_op.Stage.{Stage}
use Rattle.rent_engine.specs.declared.one_op.Stage.TheVariants.{Offers, Waits, Over}
use Rattle.rent_engine.specs.Engines.{all_offered}
use Rattle.rent_table.specs.Ops.{Ops, taken_out}
use Rattle.rent_engine.specs.Ops.{polled, polled_done}
use Rattle.rent_engine.specs.OneOp.{PollsAs, answer_of, stage_key}
use Rattle.rent_engine.specs.States.{poll_map}
use Rattle.rent_fs.specs.declared.error.FsError.{FsError}
use Rattle.rent_fs.specs.Outputs.{counted, moved, with_buf}
use Rattle.run_loop.specs.declared.job_op.JobPoll.TheVariants as answers
use Rattle.run_loop.specs.declared.job_op.JobOp.{JobOp}
use Rattle.run_loop.specs.declared.slot.Reply.{Reply}
use Rattle.run_loop.specs.declared.slot.Reply.TheVariants.{Buffer}
use Rattle.run_loop.specs.JobOps.{reply_of}
use Rattle.run_loop.specs.Flights.{outcome_polled}
use Rattle.run_loop.specs.Steps.{Tells}

-- a poll of a state whose operation was started asks the engine for it, and offers nothing
pub asked : {T : Type 0} (output : OneAnswer → T) (stage next : Stage) (n : ℕ) (ops after : Ops) (ts : List Taken) (answer : Poll T)
    → stage_key stage ≡ Some n → PollsAs output stage ops ts answer after next
    → (ts ≡ []) × (after ≡ taken_out n ops) × (answer ≡ poll_map output (answer_of (polled ops n)))
asked output (Offers request) next n ops after ts answer key polls = absurd cc
asked output (Waits k) next n ops after ts answer key (one, is, step) =
    let same : k ≡ n = cc in
    (step.entries, subst (λ m. after ≡ taken_out m ops) same step.operations, is ∙ ap (poll_map output) (step.gives ∙ ap (λ m. answer_of (polled ops m)) same))
asked output Over next n ops after ts answer key polls = absurd cc

-- nothing was offered, so the lists are as they were
pub same_lists : (before after : Option Lists) (ts : List Taken) → ts ≡ [] → Becomes before (all_offered ts) after → after ≡ before
same_lists None after ts none told = told
same_lists (Some l) after ts none told = told ∙ ap (λ xs. Some (record l { pushed = xs })) (ap (λ xs. l.pushed ++ xs) none ∙ append-nil l.pushed)

pub same_room : (before after : ℕ) (ts : List Taken) → ts ≡ [] → before ≡ after + length ts → after ≡ before
same_room before after ts none places = sym (places ∙ ap (λ xs. after + length xs) none ∙ add-zero after)

-- a result that came with its buffer
with_result : (r : ℤ) (buf' : Option (List ℕ)) (quiet : Bool) (count : Result ℕ FsError) (buf : List ℕ) (outcome : Outcome) → true ≡ is_some buf' → (quiet ≡ true → false ≡ true) → ◌≡◌ {A = Poll (Result ℕ FsError × List ℕ)} (Ready (count, buf)) (Ready (with_buf r buf'))
    → ((r' : ℤ) → count ≡ counted r' → outcome ≡ record { result = r'; buf = Some buf; quiet = false }) → outcome ≡ record { result = r; buf = buf'; quiet = quiet }
with_result r None quiet count buf outcome lent posted is out = absurd cc
with_result r (Some b) true count buf outcome lent posted is out = let bad : false ≡ true = posted refl in cc
with_result r (Some b) false count buf outcome lent posted is out =
    let pair : ◌≡◌ {A = Result ℕ FsError × List ℕ} (count, buf) (counted r, b) = cc in
    out r (ap (λ (p : Result ℕ FsError × List ℕ). p.0) pair) ∙ ap (λ (p : Result ℕ FsError × List ℕ). record { result = r; buf = Some p.1; quiet = false }) pair

told_as : (reply : Reply) (outcome : Outcome) (done : OpDone) → reply ≡ Buffer → outcome ≡ record { result = done.result; buf = done.buf; quiet = done.quiet } → outcome ≡ outcome_polled reply done
told_as reply outcome done e h = h ∙ ap (λ r. outcome_polled r done) (sym e)

-- what a job is told by the output of its read or write
pub moved_tells : (n : ℕ) (op : JobOp) (flight : Option Flight) (held : Option OpDone) (count : Result ℕ FsError) (buf : List ℕ) (outcome : Outcome) → reply_of op ≡ Buffer
    → (is_some flight || is_some held) ≡ true → IfSome held (λ d. true ≡ is_some d.buf) → IfSome held (λ d. d.quiet ≡ true → false ≡ true)
    → Ready (count, buf) ≡ poll_map moved (answer_of (if is_some flight then polls.Pending n else polled_done n held))
    → ((r : ℤ) → count ≡ counted r → outcome ≡ record { result = r; buf = Some buf; quiet = false })
    → Tells n op (if is_some flight then polls.Pending n else polled_done n held) (answers.Ready outcome)
moved_tells n op (Some flight) held count buf outcome moves known brings posted is out = absurd cc
moved_tells n op None None count buf outcome moves known brings posted is out = absurd cc
moved_tells n op None (Some d) count buf outcome moves known brings posted is out = told_as (reply_of op) outcome d moves (with_result d.result d.buf d.quiet count buf outcome brings posted is out)

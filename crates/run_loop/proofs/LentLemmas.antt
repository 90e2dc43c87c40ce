-- Jobs in flight, and what their operations tell.
use Rattle.std.proofs.Common.{◌≡◌, ℕ, Bool, true, ◌+◌, cond, List, [], ◌∷◌, ◌++◌, Some, is_some, IfSome, slice_get, ap, sym, subst, ◌∙◌, arith}
use Rattle.std.specs.List.{AllByRecursion}
use Rattle.rent_table.specs.declared.ops.OpDone.{OpDone}
use Rattle.rent_engine.specs.declared.ops.OpPoll.{OpPoll}
use Rattle.rent_engine.specs.declared.ops.OpPoll.TheVariants.{Ready, Pending, Lost}
use Rattle.rent_table.specs.Ops.{Ops, done_at, knows}
use Rattle.run_loop.specs.declared.flights.InFlight.{InFlight}
use Rattle.run_loop.specs.declared.slot.Reply.{Reply}
use Rattle.run_loop.specs.declared.slot.Slot.{Slot}
use Rattle.run_loop.specs.declared.slot.Slot.TheVariants.{Open}
use Rattle.run_loop.specs.JobOps.{reply_of, tells_quiet, TellsFor}
use Rattle.run_loop.specs.Told.{lends}
use Rattle.run_loop.specs.Steps.{CanBePolled}
use Rattle.run_loop.specs.Flights.{WasLent, outcome_polled, with_polled, times_in, AreOperated, AreReplied, jobs_in_flight}
use Rattle.run_loop.proofs.FlightLemmas.{itself, known_once, if_then, set_open}

pub all_last : {A : Type 0} (P : A → Type 0) (xs : List A) (x : A) → AllByRecursion P xs → P x → AllByRecursion P (xs ++ x ∷ [])
all_last P [] x h p = (p, tt)
all_last P (y ∷ ys) x h p = (h.0, all_last P ys x h.1 p)

open_before : (own : Reply) (poll : OpPoll) (slots : List Slot) (job n : ℕ) (reply : Reply) (quiet : Bool) → slice_get (with_polled own job poll slots) n ≡ Some (Open reply quiet) → slice_get slots n ≡ Some (Open reply quiet)
open_before own (Ready done) slots job n reply quiet e = set_open slots job n (outcome_polled own done) reply quiet e
open_before own (Pending k) slots job n reply quiet e = e
open_before own (Lost k) slots job n reply quiet e = e

-- the first of the jobs in flight can be polled, and where it is resolved its slot waits for it
pub can_poll : (ops : Ops) (begun : ℕ) (slots : List Slot) (flights : List InFlight) (jobs : List ℕ) (f : InFlight) (rest : List InFlight) → jobs_in_flight flights ≡ jobs → flights ≡ f ∷ rest → AreOperated ops begun slots jobs → AreReplied slots flights
    → CanBePolled ops f.job f.op × IfSome (done_at ops f.job) (λ _. (quiet : Bool) × (slice_get slots f.job ≡ Some (Open (reply_of f.op) quiet)))
can_poll ops begun slots flights jobs f rest e g a l =
    let first : jobs ≡ f.job ∷ jobs_in_flight rest = sym e ∙ ap jobs_in_flight g in
    let count : times_in f.job jobs ≡ cond (knows ops f.job) 1 0 = a.listed f.job in
    let more : times_in f.job jobs ≡ 1 + times_in f.job (jobs_in_flight rest) = ap (times_in f.job) first ∙ ap (λ b. cond b 1 0 + times_in f.job (jobs_in_flight rest)) (itself f.job) in
    let kinds : AllByRecursion (λ x. TellsFor (l.replies x.job) (l.quiets x.job) x.op) (f ∷ rest) = subst (AllByRecursion (λ x. TellsFor (l.replies x.job) (l.quiets x.job) x.op)) g l.of_flights in
    let same : (d : OpDone) (w : WasLent slots f.job d) → w.reply ≡ reply_of f.op = λ d w. (l.of_slots f.job w.reply w.quiet w.slot).0 ∙ sym kinds.0.told in (
      record {
        key = f.named;
        known = known_once (knows ops f.job) (times_in f.job jobs) count (omega (arith, more));
        brings = if_then (done_at ops f.job) (WasLent slots f.job) (λ d. lends (reply_of f.op) ≡ is_some d.buf) (λ d w. ap lends (sym (same d w)) ∙ w.lent) (a.resolved f.job);
        posted = if_then (done_at ops f.job) (WasLent slots f.job) (λ d. d.quiet ≡ true → tells_quiet f.op ≡ true) (λ d w q. kinds.0.whether_posted (sym (l.of_slots f.job w.reply w.quiet w.slot).1 ∙ w.posted q)) (a.resolved f.job);
      },
      if_then (done_at ops f.job) (WasLent slots f.job) (λ _. (quiet : Bool) × (slice_get slots f.job ≡ Some (Open (reply_of f.op) quiet))) (λ d w. (w.quiet, w.slot ∙ ap (λ r. Some (Open r w.quiet)) (same d w))) (a.resolved f.job),
    )

-- after it was polled
pub replied_next : (slots slots' : List Slot) (flights : List InFlight) (f : InFlight) (rest flights' : List InFlight) (poll : OpPoll) → AreReplied slots flights → flights ≡ f ∷ rest → slots' ≡ with_polled (reply_of f.op) f.job poll slots
    → ((replies : ℕ → Reply) (quiets : ℕ → Bool) → AllByRecursion (λ x. TellsFor (replies x.job) (quiets x.job) x.op) rest → TellsFor (replies f.job) (quiets f.job) f.op → AllByRecursion (λ x. TellsFor (replies x.job) (quiets x.job) x.op) flights') → AreReplied slots' flights'
replied_next slots slots' flights f rest flights' poll l g e step =
    let kinds : AllByRecursion (λ x. TellsFor (l.replies x.job) (l.quiets x.job) x.op) (f ∷ rest) = subst (AllByRecursion (λ x. TellsFor (l.replies x.job) (l.quiets x.job) x.op)) g l.of_flights in
    record {
      replies = l.replies;
      quiets = l.quiets;
      of_slots = λ n reply quiet h. l.of_slots n reply quiet (open_before (reply_of f.op) poll slots f.job n reply quiet (subst (λ s. slice_get s n ≡ Some (Open reply quiet)) e h));
      of_flights = step l.replies l.quiets kinds.1 kinds.0;
    }

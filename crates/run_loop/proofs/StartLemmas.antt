-- Jobs that are started, and those that are ahead.
use Rattle.std.proofs.Common.{◌≡◌, ℕ, ◌+◌, ◌<◌, zero, suc, ◌⊎◌, inl, inr, bit_or, Bool, true, false, ◌||◌, ◌&&◌, not, cond, nat_eq, nat_lt, List, [], ◌∷◌, ◌++◌, length, Option, Some, None, is_some, IfSome, slice_get, slice_set, refl, ap, sym, subst, ◌∙◌, arith}
use Rattle.std.proofs.lemmas.Bool.Decides.{nat_tests}
use Rattle.uring_base.specs.declared.events.Completion.{Completion}
use Rattle.rent_table.specs.declared.ops.Flight.{Flight}
use Rattle.std.specs.Ordering.{nat_cmp}
use Rattle.std.specs.FinMap.{get-empty}
use Rattle.rent_table.specs.Ops.{Ops, no_ops, flight_at, done_at, knows, started}
use Rattle.uring_base.specs.declared.squeue.Entry.{Entry}
use Rattle.uring_model.specs.declared.jobs.Link.{Link}
use Rattle.uring_model.specs.declared.jobs.Link.TheVariants.{Free, Soft, Hard}
use Rattle.run_loop.specs.Steps.{mark_bits, skipping, with_marks}
use Rattle.uring_model.specs.declared.jobs.Job.{Job}
use Rattle.uring_model.specs.declared.jobs.Outcome.{Outcome}
use Rattle.uring_model.specs.Jobs.{model_job, model_op, buf_lent, linked, moves_bytes, is_valid_op, is_valid_job}
use Rattle.rent_engine.specs.Engines.{links_next}
use Rattle.run_loop.proofs.EntryLemmas.{valid_link}
use Rattle.uring_model.specs.declared.jobs.JobKind.{JobKind}
use Rattle.uring_model.specs.declared.jobs.JobKind.TheVariants.{Nop, Read, Write, Fsync, Ftruncate, Cancel}
use Rattle.run_loop.specs.declared.flights.InFlight.{InFlight}
use Rattle.run_loop.specs.declared.entries.Offer.{Offer}
use Rattle.run_loop.specs.declared.slot.Reply.{Reply}
use Rattle.run_loop.specs.declared.slot.Reply.TheVariants.{Plain}
use Rattle.run_loop.specs.declared.slot.Slot.{Slot}
use Rattle.run_loop.specs.declared.slot.Slot.TheVariants.{Open, Done}
use Rattle.uring_base.specs.Completions.{is_final}
use Rattle.run_loop.specs.Told.{Ending, reply_for, lends, outcome_from}
use Rattle.run_loop.specs.Entries.{job_words, with_drain, with_quiet, with_link, job_entry, offer_of, unlinked_if, offers_from, AllValid}
use Rattle.run_loop.specs.Slots.{slots_from, open_slots, all_closed, is_strange_at, is_unexpected, land_in, land_one, land_all, stranger_among}
use Rattle.run_loop.specs.Flights.{WasLent, AreReplied, jobs_in_flight, next_for, slot_flight, flight_in, all_polled, times_in, AreOperated, NoneResolved, IsAhead, AreAhead, IsSettled}
use Rattle.run_loop.proofs.Closing.{closed_twice, closed_behind}
use Rattle.run_loop.proofs.Posts.{none_closed, slots_first, passes}
use Rattle.run_loop.proofs.FlightLemmas.{either_way, at_insert, none_polled, times-append, itself}

-- the entry of a job, with its marks

flagged : (e : Entry) (n : ℕ) (bits bits' : ℕ) → bits ≡ bits' → ◌≡◌ {A = Entry} (record e { flags = bits; user_data = n }) (record e { flags = bits'; user_data = n })
flagged e n bits bits' h = λ i. record e { flags = h i; user_data = n }

-- those of a drain and of a link lack SKIP_SUCCESS, which a quiet job's have
marked : (e : Entry) (n : ℕ) (quiet drain : Bool) (link : Link) → (e.flags ≡ 0) ⊎ (e.flags ≡ 1) → ◌≡◌ {A = Entry} (record e { flags = skipping quiet (bit_or e.flags (mark_bits drain link)); user_data = n }) (record (with_link link (with_quiet quiet (with_drain drain e))) { user_data = n })
marked e n true true Free (inl h) = flagged e n _ _ (rw h refl)
marked e n true true Free (inr h) = flagged e n _ _ (rw h refl)
marked e n true true Soft (inl h) = flagged e n _ _ (rw h refl)
marked e n true true Soft (inr h) = flagged e n _ _ (rw h refl)
marked e n true true Hard (inl h) = flagged e n _ _ (rw h refl)
marked e n true true Hard (inr h) = flagged e n _ _ (rw h refl)
marked e n true false Free (inl h) = flagged e n _ _ (rw h refl)
marked e n true false Free (inr h) = flagged e n _ _ (rw h refl)
marked e n true false Soft (inl h) = flagged e n _ _ (rw h refl)
marked e n true false Soft (inr h) = flagged e n _ _ (rw h refl)
marked e n true false Hard (inl h) = flagged e n _ _ (rw h refl)
marked e n true false Hard (inr h) = flagged e n _ _ (rw h refl)
marked e n false true Free (inl h) = flagged e n _ _ (rw h refl)
marked e n false true Free (inr h) = flagged e n _ _ (rw h refl)
marked e n false true Soft (inl h) = flagged e n _ _ (rw h refl)
marked e n false true Soft (inr h) = flagged e n _ _ (rw h refl)
marked e n false true Hard (inl h) = flagged e n _ _ (rw h refl)
marked e n false true Hard (inr h) = flagged e n _ _ (rw h refl)
marked e n false false Free (inl h) = flagged e n _ _ (rw h refl)
marked e n false false Free (inr h) = flagged e n _ _ (rw h refl)
marked e n false false Soft (inl h) = flagged e n _ _ (rw h refl)
marked e n false false Soft (inr h) = flagged e n _ _ (rw h refl)
marked e n false false Hard (inl h) = flagged e n _ _ (rw h refl)
marked e n false false Hard (inr h) = flagged e n _ _ (rw h refl)

few_flags : (n : ℕ) (kind : JobKind) → ((job_words n kind).flags ≡ 0) ⊎ ((job_words n kind).flags ≡ 1)
few_flags n Nop = inl refl
few_flags n (Read file offset buf) = inr refl
few_flags n (Write file offset buf) = inr refl
few_flags n (Fsync file) = inr refl
few_flags n (Ftruncate file len) = inr refl
few_flags n (Cancel job) = inl refl

pub marks_same : (n : ℕ) (job : Job) → with_marks n job.kind job.quiet (mark_bits job.drain job.link) ≡ job_entry n job
marks_same n job = marked (job_words n job.kind) n job.quiet job.drain job.link (few_flags n job.kind)

-- an entry with a link links the next one

links_if : (e : Entry) (drain : Bool) (link : Link) → (e.flags ≡ 0) ⊎ (e.flags ≡ 1) → linked link ≡ true → links_next (record e { flags = bit_or e.flags (mark_bits drain link) }) ≡ true
links_if e drain Free f h = cc
links_if e true Soft (inl f) h = rw f refl
links_if e true Soft (inr f) h = rw f refl
links_if e true Hard (inl f) h = rw f refl
links_if e true Hard (inr f) h = rw f refl
links_if e false Soft (inl f) h = rw f refl
links_if e false Soft (inr f) h = rw f refl
links_if e false Hard (inl f) h = rw f refl
links_if e false Hard (inr f) h = rw f refl

pub marks_link : (n : ℕ) (job : Job) (words marked : Entry) → is_valid_job false (model_job job) ≡ true → job.quiet ≡ true → words ≡ job_words n job.kind → marked ≡ record words { flags = bit_or words.flags (mark_bits job.drain job.link) } → links_next marked ≡ true
marks_link n job words marked v q e m =
    ap links_next (m ∙ ap (λ (x : Entry). record x { flags = bit_or x.flags (mark_bits job.drain job.link) }) e)
    ∙ links_if (job_words n job.kind) job.drain job.link (few_flags n job.kind) (valid_link false job v q)

-- one more operation

not_below : (n : ℕ) → nat_lt n n ≡ false
not_below n = grind (arith, nat_tests)

pub unknown : (ops : Ops) (begun : ℕ) (slots : List Slot) (jobs : List ℕ) → AreOperated ops begun slots jobs → NoneResolved ops → knows ops begun ≡ false
unknown ops begun slots jobs a h =
    let none : flight_at ops begun ≡ None = a.in_flight begun ∙ ap (λ b. cond b (slot_flight begun (slice_get (all_polled ops slots) begun)) None) (not_below begun) in
    λ i. is_some (none i) || is_some (h begun i)

next_below : (n m : ℕ) → nat_eq m n ≡ false → nat_lt n (m + 1) ≡ nat_lt n m
next_below n m e = grind (arith, nat_tests)

one_below : (n : ℕ) → nat_lt n (n + 1) ≡ true
one_below n = grind (arith, nat_tests)

module _ (ops : Ops) (begun : ℕ) (slots : List Slot) (jobs : List ℕ) (reply : Reply) (quiet : Bool) (a : AreOperated ops begun slots jobs) (h : NoneResolved ops) (o : slice_get slots begun ≡ Some (Open reply quiet)) where
  abbrev more : Ops
  more = started begun (lends reply) (next_for begun quiet) ops

  abbrev flight : Flight
  flight = record { lent = lends reply; forgotten = false; next = next_for begun quiet }

  same_slots : all_polled more slots ≡ all_polled ops slots
  same_slots = none_polled more slots h ∙ sym (none_polled ops slots h)

  flight_here : flight_at more begun ≡ Some flight
  flight_here = at_insert ops.in_flight begun flight begun ∙ ap (λ b. cond b (Some flight) (flight_at ops begun)) (itself begun)

  flight_else : (n : ℕ) → nat_eq begun n ≡ false → flight_at more n ≡ flight_at ops n
  flight_else n e = at_insert ops.in_flight begun flight n ∙ ap (λ b. cond b (Some flight) (flight_at ops n)) e

  in_slots : (n : ℕ) → flight_at more n ≡ flight_in (begun + 1) slots n
  in_slots n = either_way begun n _
      (λ e. subst (λ m. flight_at more m ≡ flight_in (begun + 1) slots m) e (flight_here ∙ (λ i. cond (sym (one_below begun) i) (slot_flight begun (sym o i)) None)))
      (λ e. flight_else n e ∙ a.in_flight n ∙ (λ i. cond (sym (next_below n begun e) i) (slot_flight n (slice_get (none_polled ops slots h i) n)) None))

  listed : (n : ℕ) → times_in n (jobs ++ begun ∷ []) ≡ cond (knows more n) 1 0
  listed n = either_way begun n _
      (λ e. subst (λ m. times_in m (jobs ++ begun ∷ []) ≡ cond (knows more m) 1 0) e
      (let x = times-append begun jobs (begun ∷ []) in
      let l : times_in begun jobs ≡ 0 = a.listed begun ∙ ap (λ b. cond b 1 0) (unknown ops begun slots jobs a h) in
      let y : times_in begun (begun ∷ []) ≡ 1 = ap (λ b. cond b 1 0 + 0) (itself begun) in
      let k : knows more begun ≡ true = λ i. is_some (flight_here i) || is_some (done_at ops begun) in
      let z : times_in begun (jobs ++ begun ∷ []) ≡ 1 = omega (arith, x, l, y) in
      z ∙ ap (λ b. cond b 1 0) (sym k)))
      (λ e.
      let x = times-append n jobs (begun ∷ []) in
      let y : times_in n (begun ∷ []) ≡ 0 = ap (λ b. cond b 1 0 + 0) e in
      let z : times_in n (jobs ++ begun ∷ []) ≡ times_in n jobs = omega (arith, x, y) in
      z ∙ a.listed n ∙ ap (λ f. cond (is_some f || is_some (done_at ops n)) 1 0) (sym (flight_else n e)))

  pub one_started : AreOperated more (begun + 1) slots (jobs ++ begun ∷ [])
  one_started = record {
    in_flight = λ n. in_slots n ∙ ap (λ s. flight_in (begun + 1) s n) (sym (none_polled more slots h));
    resolved = λ n. subst (λ d. IfSome d (WasLent slots n)) (sym (h n)) tt;
    listed = listed;
    closed = ap all_closed same_slots ∙ a.closed ∙ sym same_slots;
    bare = a.bare;
  }

-- the same, by what a start told
pub started_next : (ops : Ops) (begun : ℕ) (slots : List Slot) (jobs : List ℕ) (offer : Offer) → AreOperated ops begun slots jobs → NoneResolved ops → IsAhead begun slots offer
    → (ops' : Ops) (begun' : ℕ) (slots' : List Slot) (jobs' : List ℕ) → ops' ≡ started begun (lends offer.reply) (next_for begun offer.quiet) ops → begun' ≡ begun + 1 → slots' ≡ slots → jobs' ≡ jobs ++ begun ∷ []
    → AreOperated ops' begun' slots' jobs' × NoneResolved ops'
started_next ops begun slots jobs offer a h o ops' begun' slots' jobs' e f g k =
    let more = started begun (lends offer.reply) (next_for begun offer.quiet) ops in
    let p = one_started ops begun slots jobs offer.reply offer.quiet a h o.slot in (
      subst (λ x. AreOperated x begun' slots' jobs') (sym e) (subst (λ x. AreOperated more x slots' jobs') (sym f) (subst (λ x. AreOperated more (begun + 1) x jobs') (sym g) (subst (λ x. AreOperated more (begun + 1) slots x) (sym k) p))),
      subst NoneResolved (sym e) h,
    )

pub ahead_next : (n n' : ℕ) (slots slots' : List Slot) (offers : List Offer) (offer : Offer) (rest : List Offer) → AreAhead n slots offers → offers ≡ offer ∷ rest → n' ≡ n + 1 → slots' ≡ slots → AreAhead n' slots' rest
ahead_next n n' slots slots' offers offer rest a e f g =
    let h : AreAhead n slots (offer ∷ rest) = subst (AreAhead n slots) e a in
    subst (λ x. AreAhead n' x rest) (sym g) (subst (λ x. AreAhead x slots rest) (sym f) h.1)

-- what lands in started jobs leaves those that are ahead

ahead_set : (n k : ℕ) (slots : List Slot) (o : Outcome) (todo : List Offer) → all_closed slots ≡ slots → k < n → AreAhead n slots todo → AreAhead n (all_closed (slice_set slots k (Done o))) todo
ahead_set n k slots o [] e lt a = tt
ahead_set n k slots o (offer ∷ todo) e lt a =
    (record { number = a.0.number; slot = closed_behind slots k n o e lt ∙ a.0.slot }, ahead_set (n + 1) k slots o todo e (omega (arith, lt)) a.1)

ahead_in : (slot : Option Slot) (n k : ℕ) (slots : List Slot) (e : Ending) (todo : List Offer) → all_closed slots ≡ slots → k < n → AreAhead n slots todo → AreAhead n (all_closed (land_in slot slots k e)) todo
ahead_in None n k slots e todo c lt a = subst (λ x. AreAhead n x todo) (sym c) a
ahead_in (Some (Done o)) n k slots e todo c lt a = subst (λ x. AreAhead n x todo) (sym c) a
ahead_in (Some (Open reply quiet)) n k slots e todo c lt a = ahead_set n k slots (outcome_from reply e) todo c lt a

ahead_if : (b : Bool) (n k : ℕ) (slots : List Slot) (e : Ending) (todo : List Offer) → all_closed slots ≡ slots → k < n → AreAhead n slots todo → AreAhead n (cond b (all_closed (land_in (slice_get slots k) slots k e)) slots) todo
ahead_if true n k slots e todo c lt a = ahead_in (slice_get slots k) n k slots e todo c lt a
ahead_if false n k slots e todo c lt a = a

closed_if : (b : Bool) (slots landed : List Slot) → all_closed slots ≡ slots → all_closed (cond b (all_closed landed) slots) ≡ cond b (all_closed landed) slots
closed_if true slots landed c = closed_twice landed
closed_if false slots landed c = c

started_first : (m n : ℕ) (b : Bool) → (not (nat_lt m n) || b) ≡ false → m < n
started_first m n b e = by_test (nat_lt m n) b e (λ h. grind (arith, nat_tests, h))
  where
    by_test : (c b : Bool) → (not c || b) ≡ false → (c ≡ true → m < n) → m < n
    by_test true b e f = f refl
    by_test false b e f = let bad : true ≡ false = e in cc

pub ahead_landed : (n : ℕ) (slots : List Slot) (todo : List Offer) (cs : List Completion) → all_closed slots ≡ slots → stranger_among n slots cs ≡ None → AreAhead n slots todo → AreAhead n (land_all slots cs) todo
ahead_landed n slots todo [] h e a = a
ahead_landed n slots todo (c ∷ cs) h e a =
    let ending : Ending = record { result = c.result; loan = c.loan } in
    let p = passes (is_unexpected n slots c) c.user_data (stranger_among n (land_one slots c) cs) e in
    let lt = started_first c.user_data n (is_strange_at (slice_get slots c.user_data) c) p.0 in
    ahead_landed n (land_one slots c) todo cs
    (closed_if (is_final c.flags) slots (land_in (slice_get slots c.user_data) slots c.user_data ending) h)
    p.1
    (ahead_if (is_final c.flags) n c.user_data slots ending todo h lt a)

-- between rounds no quiet job is open in front of one that has its outcome
pub closed_between : (ops : Ops) (begun : ℕ) (slots : List Slot) (flights : List InFlight) (todo : List Offer) → IsSettled ops begun slots flights todo → all_closed slots ≡ slots
closed_between ops begun slots flights todo s = subst (λ x. all_closed x ≡ x) (none_polled ops slots s.none) s.operated.closed

-- before the first round

none_below : (n : ℕ) → nat_lt n 0 ≡ false
none_below n = grind (arith, nat_tests)

unknown_first : (n : ℕ) → knows no_ops n ≡ false
unknown_first n =
    let e : flight_at no_ops n ≡ None = get-empty nat_cmp n in
    let f : done_at no_ops n ≡ None = get-empty nat_cmp n in
    λ i. is_some (e i) || is_some (f i)

-- a quiet job lends no buffer

bare_kind : (kind : JobKind) (valid is_last linked : Bool) → (valid && (false || (not (moves_bytes (model_op kind)) && linked && not is_last))) ≡ true → lends (reply_for kind) ≡ false
bare_kind Nop valid is_last linked h = refl
bare_kind (Read file offset buf) true is_last linked h = cc
bare_kind (Read file offset buf) false is_last linked h = cc
bare_kind (Write file offset buf) true is_last linked h = cc
bare_kind (Write file offset buf) false is_last linked h = cc
bare_kind (Fsync file) valid is_last linked h = refl
bare_kind (Ftruncate file len) valid is_last linked h = refl
bare_kind (Cancel job) valid is_last linked h = refl

bare_open : (jobs : List Job) → AllValid jobs → (n : ℕ) (reply : Reply) → slice_get (open_slots jobs) n ≡ Some (Open reply true) → lends reply ≡ false
bare_open [] v n reply e = cc
bare_open (job ∷ jobs) v zero reply e =
    let same : Open (reply_for job.kind) job.quiet ≡ Open reply true = cc in
    let own : reply_for job.kind ≡ reply = cc in
    let quiet : job.quiet ≡ true = cc in
    ap lends (sym own) ∙ bare_kind job.kind (is_valid_op (model_op job.kind) (buf_lent job.kind)) (nat_eq (length jobs) 0) (linked job.link)
    (ap (λ q. is_valid_op (model_op job.kind) (buf_lent job.kind) && (not q || (not (moves_bytes (model_op job.kind)) && linked job.link && not (nat_eq (length jobs) 0)))) (sym quiet) ∙ v.0)
bare_open (job ∷ jobs) v (suc n) reply e = bare_open jobs v.1 n reply e

none_operated : (jobs : List Job) → AllValid jobs → AreOperated no_ops 0 (open_slots jobs) []
none_operated jobs v =
    let same : all_polled no_ops (open_slots jobs) ≡ open_slots jobs = none_polled no_ops (open_slots jobs) (λ n. get-empty nat_cmp n) in
    record {
      in_flight = λ n. get-empty nat_cmp n ∙ ap (λ b. cond b (slot_flight n (slice_get (all_polled no_ops (open_slots jobs)) n)) None) (sym (none_below n));
      resolved = λ n. subst (λ o. IfSome o (WasLent (open_slots jobs) n)) (sym (get-empty nat_cmp n)) tt;
      listed = λ n. ap (λ b. cond b 1 0) (sym (unknown_first n));
      closed = ap all_closed same ∙ none_closed jobs ∙ sym same;
      bare = bare_open jobs v;
    }

first_ahead : (n : ℕ) (slots : List Slot) (job : Job) (rest : List Slot) → ((k : ℕ) → slice_get (Open (reply_for job.kind) job.quiet ∷ rest) k ≡ slice_get slots (n + k)) → IsAhead n slots (offer_of n job)
first_ahead n slots job rest f =
    let e : n + 0 ≡ n = omega arith in
    record { number = refl; slot = ap (slice_get slots) (sym e) ∙ sym (f 0) }

all_ahead : (n : ℕ) (slots : List Slot) (jobs : List Job) → ((k : ℕ) → slice_get (open_slots jobs) k ≡ slice_get slots (n + k)) → AreAhead n slots (offers_from n jobs)
all_ahead n slots [] f = tt
all_ahead n slots (job ∷ []) f = (first_ahead n slots (unlinked_if true job) [] f, tt)
all_ahead n slots (job ∷ next ∷ jobs) f = (
  first_ahead n slots job (open_slots (next ∷ jobs)) f,
  all_ahead (n + 1) slots (next ∷ jobs) (λ k. let e : n + suc k ≡ n + 1 + k = omega arith in f (suc k) ∙ ap (slice_get slots) e),
)

ahead_first : (jobs : List Job) → AreAhead 0 (open_slots jobs) (offers_from 0 jobs)
ahead_first jobs = all_ahead 0 (open_slots jobs) jobs (λ k. let e : k ≡ 0 + k = omega arith in ap (slice_get (open_slots jobs)) e)

-- what an open slot waits for, and whether its job is quiet

waits_for : Option Slot → Reply
waits_for None = Plain
waits_for (Some (Open reply quiet)) = reply
waits_for (Some (Done outcome)) = Plain

is_quiet : Option Slot → Bool
is_quiet None = false
is_quiet (Some (Open reply quiet)) = quiet
is_quiet (Some (Done outcome)) = false

none_replied : (slots : List Slot) → AreReplied slots []
unfolding waits_for is_quiet
none_replied slots = record {
  replies = λ n. waits_for (slice_get slots n);
  quiets = λ n. is_quiet (slice_get slots n);
  of_slots = λ n reply quiet e. (sym (ap waits_for e), sym (ap is_quiet e));
  of_flights = tt;
}

pub settled_first : (ops : Ops) (begun : ℕ) (slots : List Slot) (flights : List InFlight) (todo : List Offer) (jobs : List Job) → AllValid jobs → ops ≡ no_ops → begun ≡ 0 → slots ≡ slots_from 0 todo [] → flights ≡ [] → todo ≡ offers_from 0 jobs → IsSettled ops begun slots flights todo
settled_first ops begun slots flights todo jobs v e f g h k =
    let here = g ∙ ap (λ o. slots_from 0 o []) k ∙ slots_first 0 jobs in
    record {
      operated = subst (λ x. AreOperated x begun slots (jobs_in_flight flights)) (sym e) (subst (λ x. AreOperated no_ops x slots (jobs_in_flight flights)) (sym f) (subst (λ x. AreOperated no_ops 0 slots (jobs_in_flight x)) (sym h) (subst (λ x. AreOperated no_ops 0 x []) (sym here) (none_operated jobs v))));
      replied = subst (AreReplied slots) (sym h) (none_replied slots);
      none = subst NoneResolved (sym e) (λ n. get-empty nat_cmp n);
      ahead = subst (λ x. AreAhead x slots todo) (sym f) (subst (λ x. AreAhead 0 x todo) (sym here) (subst (AreAhead 0 (open_slots jobs)) (sym k) (ahead_first jobs)));
    }

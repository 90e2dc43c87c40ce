-- The outcomes of a run, as the log tells them and as the replay's table does.
use Rattle.std.proofs.Common.{◌≡◌, ℕ, ◌+◌, ◌<◌, zero, suc, Bool, true, false, ◌&&◌, ◌||◌, not, cond, nat_eq, List, [], ◌∷◌, ◌++◌, length, map, replicate, drop, IsSome, Option, Some, None, ℤ, pos, negsuc, slice_get, slice_set, refl, ap, sym, subst, ◌∙◌, arith, append_assoc, append-nil}
use Rattle.std.specs.List.{AllByRecursion, list_any}
use Rattle.std.specs.FinMap.{get}
use Rattle.std.proofs.lemmas.Bool.Decides.{nat_tests}
use Rattle.std.proofs.lemmas.Option.{same_Some}
use Rattle.uring_base.specs.declared.buffer.Loan.{Loan}
use Rattle.uring_base.specs.declared.events.Taken.{Taken}
use Rattle.uring_base.specs.declared.events.Completion.{Completion}
use Rattle.uring_base.specs.declared.events.LogEvent.{LogEvent}
use Rattle.uring_base.specs.Completions.{is_final}
use Rattle.uring_base.specs.Loans.{part_of, with_part, loan_buf}
use Rattle.uring_model.specs.declared.jobs.Job.{Job}
use Rattle.uring_model.specs.declared.jobs.JobKind.{JobKind}
use Rattle.uring_model.specs.declared.jobs.JobKind.TheVariants.{Nop, Read, Write, Fsync, Ftruncate, Cancel}
use Rattle.uring_model.specs.declared.jobs.Outcome.{Outcome}
use Rattle.uring_model.specs.Jobs.{model_job, model_jobs, moves_bytes, model_op, is_success, ends_quietly}
use Rattle.uring_model.specs.Jobs as model
use Rattle.uring_model.specs.Replay.{Result}
use Rattle.uring_model.specs.Moves.{Move, Turned, Took, Posted, Quieted, posted, quieted, log_of}
use Rattle.uring_model.specs.Chosen.{choice, stops}
use Rattle.uring_model.specs.Machine as machine
use Rattle.uring_model.specs.Partner.{PartnerState, Cursor, job_of, other_in, completion_of, is_quiet_end, Steps, after_take, after_settle, answer_to}
use Rattle.uring_model.specs.Explained.{record_all, AllFresh}
use Rattle.run_loop.specs.declared.entries.Offer.{Offer}
use Rattle.run_loop.specs.declared.slot.Slot.{Slot}
use Rattle.run_loop.specs.declared.slot.Slot.TheVariants.{Open, Done}
use Rattle.run_loop.specs.Entries.{offers_from}
use Rattle.run_loop.specs.declared.slot.Reply.{Reply}
use Rattle.run_loop.specs.declared.slot.Reply.TheVariants.{Plain, Buffer, Success}
use Rattle.run_loop.specs.Told.{Ending, first_final, reply_for, lends, heard, outcome_from, unposted, outcome_by, first_is_some}
use Rattle.run_loop.specs.Slots.{first_is_done, closed_slot, own_slot, final_of, slots_from}
use Rattle.uring_model.specs.Rows.{outcome_told}
use Rattle.run_loop.specs.Memory.{replayed_outcomes}
use Rattle.run_loop.specs.Runs.{outcomes_from}
use Rattle.run_loop.proofs.FlightLemmas.{same_number}
use Rattle.run_loop.proofs.Posts.{final_not, final_last, same_final, last_is_quiet}
use Rattle.run_loop.proofs.Quiets.{AreQuiets, MovesNone, any_holds}
use Rattle.run_loop.proofs.Prompt.{AllFinal}
use Rattle.run_loop.proofs.Asks.{Replies, replies_next, replies_here, is_lent, is_sync, is_asked, asks}

abbrev pub told : Ending → Result
told e = record { result = e.result; buf = part_of e.loan }

-- what these numbers have, by a final completion or by a quiet end
abbrev pub has : ℕ → List ℕ → Bool
has n numbers = list_any (nat_eq n) numbers

abbrev pub result_by : Option Ending → Bool → Option Result
result_by (Some e) quiet = Some (told e)
result_by None true = Some (record { result = pos 0; buf = [] })
result_by None false = None

-- the table of so many outcomes, from job n on, after these completions and quiet ends
abbrev pub results_from : ℕ → ℕ → List Completion → List ℕ → List (Option Result)
results_from n zero cs qs = []
results_from n (suc k) cs qs = result_by (final_of n cs) (has n qs) ∷ results_from (n + 1) k cs qs

pub results_first : (n k : ℕ) → results_from n k [] [] ≡ replicate k None
results_first n zero = refl
results_first n (suc k) = ap (λ l. None ∷ l) (results_first (n + 1) k)

no_match : (b c : Bool) → c ≡ false → (b && c) ≡ false
no_match true c e = e
no_match false c e = refl

-- a further completion or quiet end of another number

results_posted : (n k : ℕ) (cs : List Completion) (qs : List ℕ) (c : Completion) → c.user_data < n → results_from n k (cs ++ c ∷ []) qs ≡ results_from n k cs qs
results_posted n zero cs qs c h = refl
results_posted n (suc k) cs qs c h =
    let other : nat_eq c.user_data n ≡ false = grind (arith, nat_tests) in
    let here = final_not n cs c (no_match (is_final c.flags) (nat_eq c.user_data n) other) in
    let rest = results_posted (n + 1) k cs qs c (omega arith) in
    λ i. result_by (here i) (has n qs) ∷ rest i

has_more : (n : ℕ) (qs : List ℕ) (q : ℕ) (b : Bool) → nat_eq n q ≡ b → has n (qs ++ q ∷ []) ≡ (has n qs || b)
has_more n [] q b e = by_test b e
  where
    by_test : (b : Bool) → nat_eq n q ≡ b → (nat_eq n q || false) ≡ b
    by_test true e = rw e refl
    by_test false e = rw e refl
has_more n (r ∷ qs) q b e = ap (λ x. nat_eq n r || x) (has_more n qs q b e) ∙ shifted (nat_eq n r) (has n qs) b
  where
    shifted : (a b c : Bool) → (a || (b || c)) ≡ ((a || b) || c)
    shifted true b c = refl
    shifted false b c = refl

or_none : (b : Bool) → (b || false) ≡ b
or_none true = refl
or_none false = refl

has_others : (n : ℕ) (qs : List ℕ) (q : ℕ) → nat_eq n q ≡ false → has n (qs ++ q ∷ []) ≡ has n qs
has_others n qs q e = has_more n qs q false e ∙ or_none (has n qs)

has_last : (n : ℕ) (qs : List ℕ) (q : ℕ) → has n qs ≡ false → nat_eq n q ≡ true → has n (qs ++ q ∷ []) ≡ true
has_last n qs q none e = has_more n qs q true e ∙ ap (λ b. b || true) none

results_quieted : (n k : ℕ) (cs : List Completion) (qs : List ℕ) (q : ℕ) → q < n → results_from n k cs (qs ++ q ∷ []) ≡ results_from n k cs qs
results_quieted n zero cs qs q h = refl
results_quieted n (suc k) cs qs q h =
    let other : nat_eq n q ≡ false = grind (arith, nat_tests) in
    let here = has_others n qs q other in
    let rest = results_quieted (n + 1) k cs qs q (omega arith) in
    λ i. result_by (final_of n cs) (here i) ∷ rest i

none_yet : (o : Option Ending) (b : Bool) → Some (result_by o b) ≡ Some None → (o ≡ None) × (b ≡ false)
none_yet None true e = cc
none_yet None false e = (refl, refl)
none_yet (Some x) b e = cc

post_at : (n j k : ℕ) (cs : List Completion) (qs : List ℕ) (c : Completion) → is_final c.flags ≡ true → c.user_data ≡ n + j → slice_get (results_from n k cs qs) j ≡ Some None
    → slice_set (results_from n k cs qs) j (Some (record { result = c.result; buf = part_of c.loan })) ≡ results_from n k (cs ++ c ∷ []) qs
post_at n j zero cs qs c f e h = cc
post_at n zero (suc k) cs qs c f e h =
    let none = none_yet (final_of n cs) (has n qs) h in
    let same : nat_eq c.user_data n ≡ true = grind (arith, nat_tests) in
    let both : (is_final c.flags && nat_eq c.user_data n) ≡ true = rw (f, same) refl in
    let here = final_last n cs c none.0 both in
    let rest = results_posted (n + 1) k cs qs c (omega arith) in
    λ i. result_by (sym here i) (has n qs) ∷ sym rest i
post_at n (suc j) (suc k) cs qs c f e h =
    let other : nat_eq c.user_data n ≡ false = grind (arith, nat_tests) in
    let here = final_not n cs c (no_match (is_final c.flags) (nat_eq c.user_data n) other) in
    let rest = post_at (n + 1) j k cs qs c f (omega arith) h in
    λ i. result_by (sym here i) (has n qs) ∷ rest i

quiet_here : (n j k : ℕ) (cs : List Completion) (qs : List ℕ) (q : ℕ) → q ≡ n + j → slice_get (results_from n k cs qs) j ≡ Some None
    → slice_set (results_from n k cs qs) j (Some (record { result = pos 0; buf = [] })) ≡ results_from n k cs (qs ++ q ∷ [])
quiet_here n j zero cs qs q e h = cc
quiet_here n zero (suc k) cs qs q e h =
    let none = none_yet (final_of n cs) (has n qs) h in
    let same : nat_eq n q ≡ true = grind (arith, nat_tests) in
    let here = has_last n qs q none.1 same in
    let rest = results_quieted (n + 1) k cs qs q (omega arith) in
    λ i. result_by (sym none.0 i) (sym here i) ∷ sym rest i
quiet_here n (suc j) (suc k) cs qs q e h =
    let other : nat_eq n q ≡ false = grind (arith, nat_tests) in
    let here = has_others n qs q other in
    let rest = quiet_here (n + 1) j k cs qs q (omega arith) h in
    λ i. result_by (final_of n cs) (sym here i) ∷ rest i

pub record_results : (k : ℕ) (cs : List Completion) (qs : List ℕ) (ms : List Move) → AllFinal (posted ms) → AllFresh (results_from 0 k cs qs) ms → record_all (results_from 0 k cs qs) ms ≡ results_from 0 k (cs ++ posted ms) (qs ++ quieted ms)
record_results k cs qs [] f h = λ i. results_from 0 k (sym (append-nil cs) i) (sym (append-nil qs) i)
record_results k cs qs (Turned p ∷ ms) f h = record_results k cs qs ms f h
record_results k cs qs (Took t ∷ ms) f h = record_results k cs qs ms f h
record_results k cs qs (Posted c ∷ ms) f h =
    let one = post_at 0 c.user_data k cs qs c f.0 (omega arith) h.0 in
    ap (λ t. record_all t ms) one
    ∙ record_results k (cs ++ c ∷ []) qs ms f.1 (subst (λ t. AllFresh t ms) one h.1)
    ∙ ap (λ l. results_from 0 k l (qs ++ quieted ms)) (append_assoc cs (c ∷ []) (posted ms))
record_results k cs qs (Quieted n ∷ ms) f h =
    let one = quiet_here 0 n k cs qs n (omega arith) h.0 in
    ap (λ t. record_all t ms) one
    ∙ record_results k cs (qs ++ n ∷ []) ms f (subst (λ t. AllFresh t ms) one h.1)
    ∙ ap (λ l. results_from 0 k (cs ++ posted ms) l) (append_assoc qs (n ∷ []) (quieted ms))

-- all posts of a partner whose files are told are final
pub steps_final : (over : Bool) (a b : PartnerState) (ms : List Move) → Steps over a ms b → AllFinal (posted ms)
steps_final over a b [] h = tt
steps_final over a b (Turned p ∷ ms) h = steps_final false a b ms h
steps_final over a b (Took t ∷ ms) h = steps_final false (after_take a t) b ms h.1
steps_final over a b (Quieted n ∷ ms) h = steps_final false (after_settle a h.1.cursor (answer_to a.world h.1.cursor)) b ms h.2
steps_final over a b (Posted c ∷ ms) h = (ap (λ x. is_final x.flags) h.1.completion, steps_final (stops (choice a.choices)) (after_settle a h.1.cursor (answer_to a.world h.1.cursor)) b ms h.2)

-- the outcomes that the slots hold are those that the log tells

-- one slot, by what stands behind it
done_head : (o : Outcome) (offer : Offer) (e : Option Ending) (next : Bool) (xs ys : List Slot) → Done o ∷ xs ≡ closed_slot (own_slot offer e) next ∷ ys → Some o ≡ outcome_by offer.quiet offer.reply e next
done_head o offer (Some e) next xs ys h = let t : o ≡ outcome_from offer.reply e = cc in ap Some t
done_head o offer None next xs ys h = by_both (offer.quiet && next) h
  where
    by_both : (b : Bool) → Done o ∷ xs ≡ cond b (Done unposted) (Open offer.reply offer.quiet) ∷ ys → Some o ≡ cond b (Some unposted) None
    by_both true h = let t : o ≡ unposted = cc in ap Some t
    by_both false h = cc

cons_tail : {A : Type 0} (x y : A) (xs ys : List A) → x ∷ xs ≡ y ∷ ys → xs ≡ ys
cons_tail x y xs ys e = cc

-- the outcomes of the offers, by the log
abbrev outcomes_in : ℕ → List Offer → List LogEvent → List (Option Outcome)
outcomes_in n [] log = []
outcomes_in n (offer ∷ offers) log = outcome_by offer.quiet offer.reply (first_final n log) (first_is_some (outcomes_in (n + 1) offers log)) ∷ outcomes_in (n + 1) offers log

first_same : (slots : List Slot) (os : List Outcome) → map (λ o. Done o) os ≡ slots → first_is_done slots ≡ first_is_some (map (λ o. Some o) os)
first_same [] [] h = refl
first_same [] (o ∷ os) h = cc
first_same (slot ∷ slots) [] h = cc
first_same (slot ∷ slots) (o ∷ os) h = let e : slot ≡ Done o = cc in ap (λ s. first_is_done (s ∷ slots)) e

outcomes_of_offers : (n : ℕ) (offers : List Offer) (ms : List Move) (os : List Outcome) → map (λ o. Done o) os ≡ slots_from n offers (posted ms) → map (λ o. Some o) os ≡ outcomes_in n offers (log_of ms)
outcomes_of_offers n [] ms [] h = refl
outcomes_of_offers n [] ms (o ∷ os) h = cc
outcomes_of_offers n (offer ∷ offers) ms [] h = cc
outcomes_of_offers n (offer ∷ offers) ms (o ∷ os) h =
    let slot = closed_slot (own_slot offer (final_of n (posted ms))) (first_is_done (slots_from (n + 1) offers (posted ms))) in
    let behind = cons_tail (Done o) (closed_slot (own_slot offer (final_of n (posted ms))) (first_is_done (slots_from (n + 1) offers (posted ms)))) (map (λ o. Done o) os) (slots_from (n + 1) offers (posted ms)) h in
    let rest = outcomes_of_offers (n + 1) offers ms os behind in
    let next : first_is_done (slots_from (n + 1) offers (posted ms)) ≡ first_is_some (outcomes_in (n + 1) offers (log_of ms)) = first_same (slots_from (n + 1) offers (posted ms)) os behind ∙ ap first_is_some rest in
    let here = done_head o offer (final_of n (posted ms)) (first_is_done (slots_from (n + 1) offers (posted ms))) (map (λ o. Done o) os) (slots_from (n + 1) offers (posted ms)) h
    ∙ (λ i. outcome_by offer.quiet offer.reply (sym (same_final n ms) i) (next i)) in
    λ i. here i ∷ rest i

outcomes_of_jobs : (n : ℕ) (jobs : List Job) (log : List LogEvent) → outcomes_in n (offers_from n jobs) log ≡ outcomes_from n jobs log
outcomes_of_jobs n [] log = refl
outcomes_of_jobs n (job ∷ []) log = refl
outcomes_of_jobs n (job ∷ next ∷ jobs) log =
    let rest = outcomes_of_jobs (n + 1) (next ∷ jobs) log in
    λ i. outcome_by job.quiet (reply_for job.kind) (first_final n log) (first_is_some (rest i)) ∷ rest i

pub outcomes_of_slots : (jobs : List Job) (ms : List Move) (os : List Outcome) → map (λ o. Done o) os ≡ slots_from 0 (offers_from 0 jobs) (posted ms) → map (λ o. Some o) os ≡ outcomes_from 0 jobs (log_of ms)
outcomes_of_slots jobs ms os h = outcomes_of_offers 0 (offers_from 0 jobs) ms os h ∙ outcomes_of_jobs 0 jobs (log_of ms)

-- Loans that were lent from their first byte come back whole, and a sync's result is 0 or an errno: so the replay's table
-- and the log tell the same outcomes.

abbrev is_heard : Reply → ℤ → Bool
is_heard Plain result = true
is_heard Buffer result = true
is_heard Success (pos n) = nat_eq n 0
is_heard Success (negsuc n) = true

abbrev is_told : Reply → Ending → Bool
is_told reply e = is_lent reply e.loan && is_heard reply e.result

abbrev pub answers : (ℕ → Reply) → Completion → Bool
answers replies c = is_told (replies c.user_data) (record { result = c.result; loan = c.loan })

lent_still : (reply : Reply) (l : Option Loan) (bytes : List ℕ) → is_lent reply (with_part l bytes) ≡ is_lent reply l
lent_still reply None bytes = refl
lent_still reply (Some l) bytes = refl

sync_heard : (files : machine.Files) (buf : List ℕ) (o : Option (List ℕ)) → is_heard Success (machine.sync_answer files buf o).result ≡ true
sync_heard files buf None = refl
sync_heard files buf (Some file) = refl

step_heard : (op : machine.ModelOp) (files : machine.Files) (other : ℕ → Bool) (buf : List ℕ) → is_sync op ≡ true → is_heard Success (machine.step files other op buf).result ≡ true
unfolding machine.step
step_heard machine.Nop files other buf e = cc
step_heard (machine.Read file offset) files other buf e = cc
step_heard (machine.Write file offset) files other buf e = cc
step_heard (machine.Fsync file) files other buf e = sync_heard files buf (get files file)
step_heard (machine.Ftruncate file len) files other buf e = cc
step_heard (machine.Cancel job) files other buf e = cc
step_heard (machine.Refused code) files other buf e = cc

answer_heard : (reply : Reply) (cut : Bool) (op : machine.ModelOp) (files : machine.Files) (other : ℕ → Bool) (buf : List ℕ) → is_asked reply op ≡ true → is_heard reply (cond cut (machine.canceled files buf) (machine.step files other op buf)).result ≡ true
answer_heard Plain cut op files other buf e = refl
answer_heard Buffer cut op files other buf e = refl
answer_heard Success true op files other buf e = refl
answer_heard Success false op files other buf e = step_heard op files other buf e

and_both : (b c : Bool) → (b && c) ≡ true → (b ≡ true) × (c ≡ true)
and_both true c e = (refl, e)
and_both false c e = cc

both_true : (b c : Bool) → b ≡ true → c ≡ true → (b && c) ≡ true
both_true b c e f = rw (e, f) refl

-- what a partner whose files are told answers to such an entry
pub answered : (replies : ℕ → Reply) (now : machine.Files) (c : Cursor) → asks replies c.item.taken ≡ true → is_quiet_end now c ≡ false → answers replies (completion_of c.item.taken (answer_to now c)) ≡ true
answered replies now c h posts =
    let reply = replies c.item.taken.entry.user_data in
    let p = and_both (is_lent reply c.item.taken.loan) (is_asked reply (job_of c.item.taken).op) h in
    both_true _ _
    (lent_still reply c.item.taken.loan (answer_to now c).buf ∙ p.0)
    (answer_heard reply (c.item.marked || c.item.cut) (job_of c.item.taken).op now (other_in c) (job_of c.item.taken).buf p.1)

-- No post is of a quiet job that succeeds.

abbrev pub same_mark : Bool → Bool → Bool
same_mark true b = b
same_mark false b = not b

pub marks_same : (b c : Bool) → b ≡ c → same_mark b c ≡ true
marks_same true c e = sym e
marks_same false c e = ap not (sym e)

mark_is : (b c : Bool) → same_mark b c ≡ true → c ≡ b
mark_is true c e = e
mark_is false true e = cc
mark_is false false e = refl

abbrev pub quiet_asks : (ℕ → Bool) → Taken → Bool
quiet_asks quiet t = same_mark (job_of t).quiet (quiet t.entry.user_data)

abbrev pub is_loud : (ℕ → Bool) → Completion → Bool
is_loud quiet c = not (quiet c.user_data && is_success c.result)

pub loud_answers : (quiet : ℕ → Bool) (now : machine.Files) (c : Cursor) → quiet_asks quiet c.item.taken ≡ true → is_quiet_end now c ≡ false → is_loud quiet (completion_of c.item.taken (answer_to now c)) ≡ true
loud_answers quiet now c h posts =
    ap (λ q. not (q && is_success (answer_to now c).result)) (mark_is (job_of c.item.taken).quiet (quiet c.item.taken.entry.user_data) h) ∙ ap not posts

heard_same : (reply : Reply) (r : ℤ) → is_heard reply r ≡ true → heard reply r ≡ r
heard_same Plain r e = refl
heard_same Buffer r e = refl
heard_same Success (pos n) e = ap pos (sym (same_number n 0 e))
heard_same Success (negsuc n) e = refl

whole_part : (n : ℕ) (buf : List ℕ) → n ≡ 0 → drop n buf ≡ buf
whole_part n buf e = ap (λ k. drop k buf) e

lent_none : (b : Bool) → not b ≡ true → ◌≡◌ {A = Option (List ℕ)} None (cond b (Some []) None)
lent_none true e = cc
lent_none false e = refl

lent_whole : (reply : Reply) (l : Option Loan) → is_lent reply l ≡ true → loan_buf l ≡ cond (lends reply) (Some (part_of l)) None
lent_whole reply None h = lent_none (lends reply) h
lent_whole reply (Some l) h = let p = and_both (lends reply) (nat_eq l.from 0) h in rw p.0 (ap Some (sym (whole_part l.from l.buf (same_number l.from 0 p.1))))

lends_moved : (kind : JobKind) → lends (reply_for kind) ≡ moves_bytes (model_op kind)
lends_moved Nop = refl
lends_moved (Read file offset buf) = refl
lends_moved (Write file offset buf) = refl
lends_moved (Fsync file) = refl
lends_moved (Ftruncate file len) = refl
lends_moved (Cancel job) = refl

-- what holds of each completion holds of the first final one of a job

final_if : (P : ℕ → Ending → Bool) (b : Bool) (n u : ℕ) (x e : Ending) (o : Option Ending) → (b ≡ true → u ≡ n) → P u x ≡ true → (o ≡ Some e → P n e ≡ true) → cond b (Some x) o ≡ Some e → P n e ≡ true
final_if P true n u x e o f h g q = subst (λ y. P n y ≡ true) (same_Some x e q) (subst (λ j. P j x ≡ true) (f refl) h)
final_if P false n u x e o f h g q = g q

final_holds : (P : ℕ → Ending → Bool) (n : ℕ) (cs : List Completion) (e : Ending) → AllByRecursion (λ c. P c.user_data (record { result = c.result; loan = c.loan }) ≡ true) cs → final_of n cs ≡ Some e → P n e ≡ true
final_holds P n [] e h q = cc
final_holds P n (c ∷ cs) e h q =
    final_if P (is_final c.flags && nat_eq c.user_data n) n c.user_data (record { result = c.result; loan = c.loan }) e (final_of n cs)
    (λ b. same_number c.user_data n (and_both (is_final c.flags) (nat_eq c.user_data n) b).1) h.0 (λ r. final_holds P n cs e h.1 r) q

never_both : (b : Bool) → not b ≡ true → b ≡ false
never_both true e = cc
never_both false e = refl

-- one job's outcome, by the log and by the table
same_outcome : (job : Job) (reply : Reply) (e : Ending) → reply ≡ reply_for job.kind → is_told reply e ≡ true → (job.quiet && is_success e.result) ≡ false → outcome_from (reply_for job.kind) e ≡ outcome_told (model_job job) (told e)
same_outcome job reply e f h loud =
    let p = and_both (is_lent reply e.loan) (is_heard reply e.result) h in
    let result : heard (reply_for job.kind) e.result ≡ e.result = heard_same (reply_for job.kind) e.result (ap (λ r. is_heard r e.result) (sym f) ∙ p.1) in
    let buf : loan_buf e.loan ≡ cond (moves_bytes (model_op job.kind)) (Some (part_of e.loan)) None = lent_whole (reply_for job.kind) e.loan (ap (λ r. is_lent r e.loan) (sym f) ∙ p.0) ∙ ap (λ b. cond b (Some (part_of e.loan)) None) (lends_moved job.kind) in
    λ i. record { result = result i; buf = buf i; quiet = sym loud i }

-- a quiet job without a post has its outcome, since the next one has
quiet_outcome_told : (job : Job) (next : Bool) → job.quiet ≡ true → next ≡ true → moves_bytes (model_op job.kind) ≡ false → ◌≡◌ {A = Option Outcome} (Some (outcome_told (model_job job) (record { result = pos 0; buf = [] }))) (cond (job.quiet && next) (Some unposted) None)
quiet_outcome_told job next q n none =
    (λ i. Some (record { result = pos 0; buf = cond (none i) (Some []) None; quiet = q i && true }))
    ∙ (λ i. cond (sym q i && sym n i) (Some unposted) None)

-- one job's outcome, where the table has one
one_outcome : (job : Job) (o : Option Ending) (ended : Bool) (next : Bool) → ((e : Ending) → o ≡ Some e → outcome_from (reply_for job.kind) e ≡ outcome_told (model_job job) (told e)) → (ended ≡ true → job.quiet ≡ true) → (job.quiet ≡ true → next ≡ true) → MovesNone job → IsSome (result_by o ended)
    → (r : Result) × (result_by o ended ≡ Some r) × (Some (outcome_told (model_job job) r) ≡ outcome_by job.quiet (reply_for job.kind) o next)
one_outcome job (Some e) ended next f g k m set = (told e, refl, ap Some (sym (f e refl)))
one_outcome job None true next f g k m set = (record { result = pos 0; buf = [] }, refl, quiet_outcome_told job next (g refl) (k (g refl)) (m (g refl)))
one_outcome job None false next f g k m set = cc

replayed_one : (job : model.Job) (jobs : List model.Job) (o : Option Result) (r : Result) (t : List (Option Result)) → o ≡ Some r → replayed_outcomes (job ∷ jobs) (o ∷ t) ≡ Some (outcome_told job r) ∷ replayed_outcomes jobs t
replayed_one job jobs o r t e = ap (λ o. replayed_outcomes (job ∷ jobs) (o ∷ t)) e

first_replayed : (job : model.Job) (jobs : List model.Job) (o : Option Result) (t : List (Option Result)) → IsSome o → first_is_some (replayed_outcomes (job ∷ jobs) (o ∷ t)) ≡ true
first_replayed job jobs None t h = cc
first_replayed job jobs (Some r) t h = refl

pub told_outcomes : (replies : ℕ → Reply) (quiet : ℕ → Bool) (n : ℕ) (jobs : List Job) (ms : List Move) → Replies replies n jobs → AreQuiets quiet n jobs → AllByRecursion MovesNone jobs → last_is_quiet (map (λ job. job.quiet) jobs) ≡ false
    → AllByRecursion (λ c. answers replies c ≡ true) (posted ms) → AllByRecursion (λ c. is_loud quiet c ≡ true) (posted ms) → AllByRecursion (λ k. quiet k ≡ true) (quieted ms)
    → AllByRecursion IsSome (results_from n (length jobs) (posted ms) (quieted ms))
    → replayed_outcomes (model_jobs jobs) (results_from n (length jobs) (posted ms) (quieted ms)) ≡ outcomes_from n jobs (log_of ms)
told_outcomes replies quiet n [] ms f q m last h loud ends set = refl
told_outcomes replies quiet n (job ∷ []) ms f q m last h loud ends set =
    let one = one_outcome job (final_of n (posted ms)) (has n (quieted ms)) false
    (λ e x. same_outcome job (replies n) e (replies_here replies n _ (f 0)) (final_holds (λ k y. is_told (replies k) y) n (posted ms) e h x)
    (ap (λ b. b && is_success e.result) (sym q.0) ∙ never_both (quiet n && is_success e.result) (final_holds (λ k y. not (quiet k && is_success y.result)) n (posted ms) e loud x)))
    (λ e. sym q.0 ∙ any_holds quiet n (quieted ms) ends e) (λ e. absurd (let bad : true ≡ false = sym e ∙ last in cc)) m.0 set.0 in
    replayed_one (model_job job) [] (result_by (final_of n (posted ms)) (has n (quieted ms))) one.0 [] one.1
    ∙ ap (λ o. o ∷ []) one.2 ∙ ap (λ x. outcome_by job.quiet (reply_for job.kind) x false ∷ []) (sym (same_final n ms))
told_outcomes replies quiet n (job ∷ next ∷ jobs) ms f q m last h loud ends set =
    let rest = told_outcomes replies quiet (n + 1) (next ∷ jobs) ms (replies_next replies n job next jobs f) q.1 m.1 last h loud ends set.1 in
    let behind : first_is_some (outcomes_from (n + 1) (next ∷ jobs) (log_of ms)) ≡ true =
    ap first_is_some (sym rest) ∙ first_replayed (model_job next) (model_jobs jobs) (result_by (final_of (n + 1) (posted ms)) (has (n + 1) (quieted ms))) (results_from (n + 1 + 1) (length jobs) (posted ms) (quieted ms)) set.1.0 in
    let one = one_outcome job (final_of n (posted ms)) (has n (quieted ms)) (first_is_some (outcomes_from (n + 1) (next ∷ jobs) (log_of ms)))
    (λ e x. same_outcome job (replies n) e (replies_here replies n _ (f 0)) (final_holds (λ k y. is_told (replies k) y) n (posted ms) e h x)
    (ap (λ b. b && is_success e.result) (sym q.0) ∙ never_both (quiet n && is_success e.result) (final_holds (λ k y. not (quiet k && is_success y.result)) n (posted ms) e loud x)))
    (λ e. sym q.0 ∙ any_holds quiet n (quieted ms) ends e) (λ e. behind) m.0 set.0 in
    replayed_one (model_job job) (model_jobs (next ∷ jobs)) (result_by (final_of n (posted ms)) (has n (quieted ms))) one.0 (results_from (n + 1) (length (next ∷ jobs)) (posted ms) (quieted ms)) one.1
    ∙ (λ i. one.2 i ∷ rest i)
    ∙ ap (λ x. outcome_by job.quiet (reply_for job.kind) x (first_is_some (outcomes_from (n + 1) (next ∷ jobs) (log_of ms))) ∷ outcomes_from (n + 1) (next ∷ jobs) (log_of ms)) (sym (same_final n ms))

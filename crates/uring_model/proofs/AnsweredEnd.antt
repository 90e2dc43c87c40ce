-- At the end of a run each job is answered.
use Rattle.std.specs.Prelude.{◌≡◌, ℕ, ◌+◌, ◌<◌, ◌≤◌, ◌⊎◌, zero, suc, Bool, true, false, ◌&&◌, ◌||◌, not, cond, nat_eq, List, [], ◌∷◌, ◌++◌, length, map, drop, replicate, pos, Option, Some, None, slice_get, slice_set, refl, IsSome}
use Rattle.std.specs.List.{AllByRecursion, list_any}
use Rattle.std.proofs.lemmas.List.Elements.{recursion_from_All}
use Rattle.std.proofs.lemmas.Bool.Decides.{nat_tests}
use Rattle.std.proofs.Common.{ap, sym, subst, ◌∙◌, append-nil, arith, inl, inr, length-append}
use Rattle.std.proofs.lemmas.List.{length-map}
use Rattle.uring_base.specs.declared.events.Taken.{Taken}
use Rattle.uring_base.specs.Completions.{is_final}
use Rattle.uring_base.specs.Loans.{part_of}
use Rattle.uring_model.specs.Machine.{Files}
use Rattle.uring_model.specs.Jobs.{Job, linked, quiets_are_linked, quiets_of}
use Rattle.uring_model.specs.Replay.{Result, ReplayState, last_unlinked, table, replay, IsWhole}
use Rattle.uring_model.specs.Chosen.{choice, stops}
use Rattle.uring_model.specs.Moves.{Move, Turned, Took, Posted, Quieted, took, quieted, journal_of, log_of}
use Rattle.uring_model.specs.Partner.{job_of, PartnerState, after_take, after_settle, answer_to, Steps, idle}
use Rattle.uring_model.specs.Explained.{Numbered, record_post, record_quiet, record_all}
use Rattle.uring_model.specs.Strange.{Seen, nothing_seen, all_seen, ended_in, answered_from, is_answered}
use Rattle.uring_model.proofs.Explained.{moves_explained, unlinked-length}
use Rattle.uring_model.proofs.Lines.{numbered_split}
use Rattle.uring_model.specs.declared.pending.Pending.{Pending}
use Rattle.uring_model.proofs.Ends.{whole_at_end, set_where_whole}
use Rattle.uring_model.proofs.Honest.{Stands, stands_first, stands_after, rising_below, unanswered, unanswered_from, jobs_known, quiets_all, quiets_unlinked}

-- what ended stays so

later : (b c : Bool) → c ≡ true → (b || c) ≡ true
later true c e = refl
later false c e = e

stays_ended : (k : ℕ) (seen : Seen) (ms : List Move) → list_any (nat_eq k) seen.ended ≡ true → list_any (nat_eq k) (all_seen seen (log_of ms)).ended ≡ true
stays_ended k seen [] e = e
stays_ended k seen (Turned p ∷ ms) e = stays_ended k (record seen { started = seen.taken + p }) ms e
stays_ended k seen (Took t ∷ ms) e = stays_ended k (record seen { taken = seen.taken + 1 }) ms e
stays_ended k seen (Posted c ∷ ms) e = stays_ended k (record seen { ended = cond (is_final c.flags) (c.user_data ∷ seen.ended) seen.ended }) ms (more (is_final c.flags) c.user_data)
  where
    more : (b : Bool) (u : ℕ) → list_any (nat_eq k) (cond b (u ∷ seen.ended) seen.ended) ≡ true
    more true u = later (nat_eq k u) (list_any (nat_eq k) seen.ended) e
    more false u = e
stays_ended k seen (Quieted n ∷ ms) e = stays_ended k seen ms e

-- a table's entry that one setting made, or that stood there

abbrev IsSetAt : List (Option Result) → ℕ → Type 0
IsSetAt outs k = (r : Result) × (slice_get outs k ≡ Some (Some r))

set_or : (outs : List (Option Result)) (j k : ℕ) (v : Option Result) → IsSetAt (slice_set outs j v) k → (k ≡ j) ⊎ IsSetAt outs k
set_or [] j k v h = inr h
set_or (o ∷ outs) zero zero v h = inl refl
set_or (o ∷ outs) zero (suc k) v h = inr h
set_or (o ∷ outs) (suc j) zero v h = inr h
set_or (o ∷ outs) (suc j) (suc k) v h = elim (set_or outs j k v h) [
  | inl e ↦ inl (ap suc e)
  | inr s ↦ inr s
]

same_number : (k j : ℕ) → k ≡ j → nat_eq k j ≡ true
same_number k j e = grind (arith, nat_tests)

-- an outcome that a partner's moves recorded is that of a job that a final post or a quiet end settled
abbrev Settled : ℕ → List ℕ → List Move → Type 0
Settled k ended ms = (list_any (nat_eq k) ended ≡ true) ⊎ (list_any (nat_eq k) (quieted ms) ≡ true)

recorded : (over : Bool) (a b : PartnerState) (ms : List Move) (outs : List (Option Result)) (seen : Seen) (k : ℕ) → Steps over a ms b → IsSetAt (record_all outs ms) k → IsSetAt outs k ⊎ Settled k (all_seen seen (log_of ms)).ended ms
recorded over a b [] outs seen k h s = inl s
recorded over a b (Turned p ∷ ms) outs seen k h s = recorded false a b ms outs (record seen { started = seen.taken + p }) k h s
recorded over a b (Took t ∷ ms) outs seen k h s = recorded false (after_take a t) b ms outs (record seen { taken = seen.taken + 1 }) k h.1 s
recorded over a b (Posted c ∷ ms) outs seen k h s =
    let final : is_final c.flags ≡ true = ap (λ x. is_final x.flags) h.1.completion in
    let now : Seen = record seen { ended = cond (is_final c.flags) (c.user_data ∷ seen.ended) seen.ended } in
    elim (recorded (stops (choice a.choices)) (after_settle a h.1.cursor (answer_to a.world h.1.cursor)) b ms (record_post outs c) now k h.2 s) [
      | inl was ↦ elim (set_or outs c.user_data k (Some (record { result = c.result; buf = part_of c.loan })) was) [
        | inl e ↦ inr (inl (stays_ended k now ms (ap (λ b. list_any (nat_eq k) (cond b (c.user_data ∷ seen.ended) seen.ended)) final ∙ ap (λ b. b || list_any (nat_eq k) seen.ended) (same_number k c.user_data e))))
        | inr old ↦ inl old
      ]
      | inr done ↦ inr done
    ]
recorded over a b (Quieted n ∷ ms) outs seen k h s =
    elim (recorded false (after_settle a h.1.cursor (answer_to a.world h.1.cursor)) b ms (record_quiet outs n) seen k h.2 s) [
      | inl was ↦ elim (set_or outs n k (Some (record { result = pos 0; buf = [] })) was) [
        | inl e ↦ inr (inr (ap (λ b. b || list_any (nat_eq k) (quieted ms)) (same_number k n e)))
        | inr old ↦ inl old
      ]
      | inr done ↦ elim done [
        | inl e ↦ inr (inl e)
        | inr q ↦ inr (inr (later (nat_eq k n) (list_any (nat_eq k) (quieted ms)) q))
      ]
    ]

none_set : (n k : ℕ) → IsSetAt (replicate n None) k → ⊥
none_set zero k h = cc
none_set (suc n) zero h = cc
none_set (suc n) (suc k) h = none_set n k h

set_each : (outs : List (Option Result)) (k : ℕ) → AllByRecursion IsSome outs → k < length outs → IsSetAt outs k
set_each [] k h lt = absurd (omega arith)
set_each (None ∷ outs) zero h lt = cc
set_each (Some r ∷ outs) zero h lt = (r, refl)
set_each (o ∷ outs) (suc k) h lt = set_each outs k h.1 (omega arith)

-- the quiet ones by number

abbrev quiet_at : List Bool → ℕ → Bool
quiet_at [] k = false
quiet_at (q ∷ quiets) zero = q
quiet_at (q ∷ quiets) (suc k) = quiet_at quiets k

quiets_here : (n : ℕ) (ts : List Taken) (ends : ℕ → Bool) → ((i : ℕ) → ends (n + i) ≡ quiet_at (quiets_of (map job_of ts)) i) → Numbered n ts → AllByRecursion (λ t. (job_of t).quiet ≡ true → ends t.entry.user_data ≡ true) ts
quiets_here n [] ends f h = tt
quiets_here n (t ∷ ts) ends f h =
    let here : t.entry.user_data ≡ n + 0 = omega (arith, h.0) in
    ((λ q. ap ends here ∙ f 0 ∙ q), quiets_here (n + 1) ts ends (λ i. let e : n + 1 + i ≡ n + suc i = omega arith in ap ends e ∙ f (suc i)) h.1)

any_holds : (p : ℕ → Bool) (k : ℕ) (ns : List ℕ) → AllByRecursion (λ n. p n ≡ true) ns → list_any (nat_eq k) ns ≡ true → p k ≡ true
any_holds p k [] h e = cc
any_holds p k (n ∷ ns) h e = here (nat_eq k n) refl e (any_holds p k ns h.1)
  where
    here : (b : Bool) → nat_eq k n ≡ b → (b || list_any (nat_eq k) ns) ≡ true → (list_any (nat_eq k) ns ≡ true → p k ≡ true) → p k ≡ true
    here true q e f = let same : k ≡ n = grind (arith, nat_tests) in ap p same ∙ h.0
    here false q e f = f e

-- from the last job to the first: each ended by itself, or is quiet and the next one is answered

answers_if : (a q rest : Bool) → (a ≡ true) ⊎ (q ≡ true) → rest ≡ true → (a || (q && rest)) ≡ true
answers_if true q rest h e = refl
answers_if false q rest h e = elim h [
  | inl x ↦ absurd (cc)
  | inr x ↦ rw (x, e) refl
]

loud_alone : (a q none : Bool) → not q ≡ true → (a ≡ true) ⊎ (q ≡ true) → (a || (q && none)) ≡ true
loud_alone true q none e h = refl
loud_alone false true none e h = cc
loud_alone false false none e h = elim h [
  | inl x ↦ x
  | inr x ↦ x
]

and_right : (b c : Bool) → (b && c) ≡ true → c ≡ true
and_right true c e = e
and_right false c e = cc

all_answered : (jobs : List Job) (job : Job) (n : ℕ) (ended : List ℕ) → quiets_are_linked (job ∷ jobs) ≡ true → ((i : ℕ) → i < length (job ∷ jobs) → (list_any (nat_eq (n + i)) ended ≡ true) ⊎ (quiet_at (quiets_of (job ∷ jobs)) i ≡ true)) → answered_from (quiets_of (job ∷ jobs)) n ended ≡ true
all_answered [] job n ended l f =
    let e : n + 0 ≡ n = omega arith in
    loud_alone (list_any (nat_eq n) ended) job.quiet (list_any (nat_eq (n + 1)) ended) l (subst (λ k. (list_any (nat_eq k) ended ≡ true) ⊎ (job.quiet ≡ true)) e (f 0 (omega arith)))
all_answered (next ∷ jobs) job n ended l f =
    let e : n + 0 ≡ n = omega arith in
    answers_if (list_any (nat_eq n) ended) job.quiet (answered_from (quiets_of (next ∷ jobs)) (n + 1) ended) (subst (λ k. (list_any (nat_eq k) ended ≡ true) ⊎ (job.quiet ≡ true)) e (f 0 (omega arith)))
    (all_answered jobs next (n + 1) ended (and_right (not job.quiet || linked job.link) (quiets_are_linked (next ∷ jobs)) l)
    (λ i lt. let s : n + suc i ≡ n + 1 + i = omega arith in subst (λ k. (list_any (nat_eq k) ended ≡ true) ⊎ (quiet_at (quiets_of (next ∷ jobs)) i ≡ true)) s (f (suc i) (omega (arith, lt)))))

from_place : (jobs : List Job) (n j : ℕ) (ended : List ℕ) → j < length jobs → quiets_are_linked jobs ≡ true → ((i : ℕ) → i < length jobs → (list_any (nat_eq (n + i)) ended ≡ true) ⊎ (quiet_at (quiets_of jobs) i ≡ true)) → answered_from (drop j (quiets_of jobs)) (n + j) ended ≡ true
from_place [] n j ended lt l f = absurd (omega arith)
from_place (job ∷ jobs) n zero ended lt l f = let e : n ≡ n + 0 = omega arith in ap (λ k. answered_from (quiets_of (job ∷ jobs)) k ended) (sym e) ∙ all_answered jobs job n ended l f
from_place (job ∷ []) n (suc j) ended lt l f = absurd (omega arith)
from_place (job ∷ next ∷ jobs) n (suc j) ended lt l f =
    let e : n + suc j ≡ n + 1 + j = omega arith in
    ap (λ k. answered_from (drop j (quiets_of (next ∷ jobs))) k ended) e
    ∙ from_place (next ∷ jobs) (n + 1) j ended (omega arith) (and_right (not job.quiet || linked job.link) (quiets_are_linked (next ∷ jobs)) l)
    (λ i lt. let s : n + suc i ≡ n + 1 + i = omega arith in subst (λ k. (list_any (nat_eq k) ended ≡ true) ⊎ (quiet_at (quiets_of (next ∷ jobs)) i ≡ true)) s (f (suc i) (omega (arith, lt))))

replicate-length : {A : Type 0} (n : ℕ) (x : A) → length (replicate n x) ≡ n
replicate-length zero x = refl
replicate-length (suc n) x = ap suc (replicate-length n x)

pub answered_at_end : (jobs : List Job) (files : Files) (choices : List ℕ) (ms : List Move) (b : PartnerState)
    → quiets_are_linked jobs ≡ true → map job_of (took ms) ≡ last_unlinked jobs → Numbered 0 (took ms) → Steps false (idle files choices) ms b
    → b.pending ≡ [] → (j : ℕ) → j < length jobs → is_answered (quiets_of jobs) (ended_in (log_of ms)) j ≡ true
answered_at_end jobs files choices ms b l asks numbered h p j lt =
    let all : took ms ++ [] ≡ took ms = append-nil (took ms) in
    let asks_all : map job_of (took ms ++ []) ≡ last_unlinked jobs = ap (map job_of) all ∙ asks in
    let numbered_all : Numbered 0 (took ms ++ []) = subst (Numbered 0) (sym all) numbered in
    let e = moves_explained jobs files choices ms [] b asks_all numbered_all h in
    let set = recursion_from_All IsSome (table e.state) (set_where_whole e.state (whole_at_end jobs files choices ms b e.state asks numbered h e.replays p)) in
    let sets : AllByRecursion IsSome (record_all (replicate (length jobs) None) ms) = subst (AllByRecursion IsSome) e.outcomes set in
    let names : quiets_of (map job_of (took ms)) ≡ quiets_of jobs = ap quiets_of asks ∙ quiets_unlinked jobs in
    let ends : ℕ → Bool = quiet_at (quiets_of jobs) in
    let quiet = quiets_all (quiet_at (quiets_of jobs)) false (idle files choices) b ms h tt (quiets_here 0 (took ms) (quiet_at (quiets_of jobs)) (λ i. let z : 0 + i ≡ i = omega arith in (λ k. quiet_at (sym names k) (z k))) numbered) in
    let count : length (record_all (replicate (length jobs) None) ms) ≡ length jobs = all-length (replicate (length jobs) None) ms ∙ replicate-length {A = Option Result} (length jobs) None in
    let zero_and : 0 + j ≡ j = omega arith in
    ap (λ k. answered_from (drop j (quiets_of jobs)) k (ended_in (log_of ms))) (sym zero_and)
    ∙ from_place jobs 0 j (ended_in (log_of ms)) lt l
    (λ i inside.
    let z : 0 + i ≡ i = omega arith in
    elim (recorded false (idle files choices) b ms (replicate (length jobs) None) nothing_seen i h (set_each (record_all (replicate (length jobs) None) ms) i sets (omega (arith, inside, count)))) [
      | inl none ↦ absurd (none_set (length jobs) i none)
      | inr done ↦ elim done [
        | inl x ↦ inl (ap (λ k. list_any (nat_eq k) (ended_in (log_of ms))) z ∙ x)
        | inr x ↦ inr (any_holds (quiet_at (quiets_of jobs)) i (quieted ms) quiet x)
      ]
    ])
  where
    set-length : (outs : List (Option Result)) (k : ℕ) (v : Option Result) → length (slice_set outs k v) ≡ length outs
    set-length [] k v = refl
    set-length (o ∷ outs) zero v = refl
    set-length (o ∷ outs) (suc k) v = ap suc (set-length outs k v)

    all-length : (outs : List (Option Result)) (ms : List Move) → length (record_all outs ms) ≡ length outs
    all-length outs [] = refl
    all-length outs (Turned p ∷ ms) = all-length outs ms
    all-length outs (Took t ∷ ms) = all-length outs ms
    all-length outs (Posted c ∷ ms) = all-length (record_post outs c) ms ∙ set-length outs c.user_data (Some (record { result = c.result; buf = part_of c.loan }))
    all-length outs (Quieted n ∷ ms) = all-length (record_quiet outs n) ms ∙ set-length outs n (Some (record { result = pos 0; buf = [] }))

-- Where each job is answered, none is pending, since what is pending isn't answered, and none is to be taken.

no_entries : (jobs : List Job) (ts ahead : List Taken) (ended : List ℕ) → map job_of (ts ++ ahead) ≡ last_unlinked jobs → ((k : ℕ) → length ts ≤ k → list_any (nat_eq k) ended ≡ false) → ((j : ℕ) → j < length jobs → is_answered (quiets_of jobs) ended j ≡ true) → ahead ≡ []
no_entries jobs ts [] ended asks none answered = refl
no_entries jobs ts (t ∷ ahead) ended asks none answered =
    let count : length (ts ++ t ∷ ahead) ≡ length jobs = sym (length-map (ts ++ t ∷ ahead) job_of) ∙ ap length asks ∙ unlinked-length jobs in
    let parts : length (ts ++ t ∷ ahead) ≡ length ts + suc (length ahead) = length-append ts (t ∷ ahead) in
    let here = answered (length ts) (omega (arith, count, parts)) in
    absurd (let bad : true ≡ false = sym here ∙ unanswered_from (drop (length ts) (quiets_of jobs)) (length ts) ended none in cc)

none_pending : (jobs : List Job) (n : ℕ) (ended : List ℕ) (is : List Pending) → Stands (quiets_of jobs) n ended (map (λ i. i.taken) is) → ((j : ℕ) → j < n → is_answered (quiets_of jobs) ended j ≡ true) → is ≡ []
none_pending jobs n ended [] stands answered = refl
none_pending jobs n ended (i ∷ is) stands answered =
    let here = answered i.taken.entry.user_data (rising_below 0 [] i.taken (map (λ i. i.taken) is) n stands.rises) in
    absurd (let bad : true ≡ false = sym here ∙ unanswered (quiets_of jobs) ended i.taken (map (λ i. i.taken) is) n stands.chain stands.known stands.left stands.none in cc)

pub whole_where_answered : (jobs : List Job) (files : Files) (choices : List ℕ) (ms : List Move) (ahead : List Taken) (b : PartnerState) (s : ReplayState)
    → quiets_are_linked jobs ≡ true → map job_of (took ms ++ ahead) ≡ last_unlinked jobs → Numbered 0 (took ms ++ ahead) → Steps false (idle files choices) ms b
    → replay jobs files (journal_of (log_of ms)) ≡ Some s → ((j : ℕ) → j < length jobs → is_answered (quiets_of jobs) (ended_in (log_of ms)) j ≡ true) → IsWhole s
whole_where_answered jobs files choices ms ahead b s l asks numbered h e answered =
    let stands : Stands (quiets_of jobs) (0 + length (took ms)) (ended_in (log_of ms)) (map (λ i. i.taken) b.pending) =
    stands_after (quiets_of jobs) false (idle files choices) b ms nothing_seen h (numbered_split 0 (took ms) ahead numbered).0 (jobs_known jobs (took ms) ahead l asks numbered) (stands_first (quiets_of jobs)) in
    let all : ahead ≡ [] = no_entries jobs (took ms) ahead (ended_in (log_of ms)) asks (λ k le. stands.none k (omega (arith, le))) answered in
    let names : took ms ++ ahead ≡ took ms = ap (λ ts. took ms ++ ts) all ∙ append-nil (took ms) in
    let asks_here : map job_of (took ms) ≡ last_unlinked jobs = ap (map job_of) (sym names) ∙ asks in
    let count : length (took ms) ≡ length jobs = sym (length-map (took ms) job_of) ∙ ap length asks_here ∙ unlinked-length jobs in
    whole_at_end jobs files choices ms b s asks_here (subst (Numbered 0) names numbered) h e
    (none_pending jobs (0 + length (took ms)) (ended_in (log_of ms)) b.pending stands (λ j lt. answered j (omega (arith, lt, count))))

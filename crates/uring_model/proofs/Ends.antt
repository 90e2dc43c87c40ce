-- At the end of a run the replay is whole and the partner idle.
use Rattle.std.specs.Prelude.{◌≡◌, ℕ, ◌+◌, slice_get, slice_set, zero, suc, Bool, true, false, List, [], ◌∷◌, ◌++◌, length, map, replicate, pos, Option, Some, None, refl, All, IsSome}
use Rattle.std.specs.List.{AllByRecursion}
use Rattle.std.proofs.lemmas.List.Elements.{All-from_recursion, recursion_from_All}
use Rattle.std.proofs.lemmas.Option.{same_Some}
use Rattle.std.proofs.Common.{ap, sym, subst, ◌∙◌, append-nil, arith}
use Rattle.uring_base.specs.declared.events.Taken.{Taken}
use Rattle.uring_model.specs.declared.jobs.Link.{Link}
use Rattle.uring_base.specs.Loans.{part_of}
use Rattle.uring_model.specs.declared.jobs.Link.TheVariants.{Free}
use Rattle.uring_model.specs.Machine.{Files}
use Rattle.uring_model.specs.Jobs.{Job, linked}
use Rattle.uring_model.specs.Replay.{Result, Row, Open, Done, ReplayState, cuts, all_done, last_unlinked, replay, IsWhole, outcomes, table}
use Rattle.uring_model.specs.Moves.{Move, Turned, Took, Posted, Quieted, took, journal_of, log_of}
use Rattle.uring_model.specs.Progress.{settlings}
use Rattle.uring_model.specs.Partner.{job_of, PartnerState, cut_of, tail_for, is_nil, Steps, IsIdle, idle}
use Rattle.uring_model.specs.Explained.{Numbered, record_post, record_quiet, record_all, AllFresh, Explained}
use Rattle.uring_model.proofs.Lines.{Line, Held, Gone, rows_of, takens, held_tail, gone_tail, view, tail_after, nil_done}
use Rattle.uring_model.proofs.Simulation.{Related, explained}

-- the table

set_rows : (rows : List Row) (n : ℕ) → AllByRecursion IsSome (outcomes rows ++ replicate n None) → (all_done rows ≡ true) × (n ≡ 0)
set_rows [] zero h = (refl, refl)
set_rows [] (suc n) h = cc
set_rows (Open job m ∷ rows) n h = cc
set_rows (Done job r ∷ rows) n h = set_rows rows n h.1

no_jobs : (jobs : List Job) → length jobs ≡ 0 → jobs ≡ []
no_jobs [] h = refl
no_jobs (job ∷ jobs) h = absurd (omega arith)

pub whole_where_set : (s : ReplayState) → All IsSome (table s) → IsWhole s
whole_where_set s h =
    let p = set_rows s.rows (length s.rest) (recursion_from_All IsSome (table s) h) in
    record { taken = no_jobs s.rest p.1; settled = p.0 }

done_rows : (rows : List Row) → all_done rows ≡ true → AllByRecursion IsSome (outcomes rows)
done_rows [] h = tt
done_rows (Open job m ∷ rows) h = cc
done_rows (Done job r ∷ rows) h = (refl, done_rows rows h)

-- the table of a whole state is its rows' outcomes
pub whole_table : (s : ReplayState) → IsWhole s → table s ≡ outcomes s.rows
whole_table s w = ap (λ l. outcomes s.rows ++ replicate (length l) None) w.taken ∙ append-nil (outcomes s.rows)

pub set_where_whole : (s : ReplayState) → IsWhole s → All IsSome (table s)
set_where_whole s w = All-from_recursion IsSome (table s) (subst (AllByRecursion IsSome) (sym (whole_table s w)) (done_rows s.rows w.settled))

-- each settling that is the first of its job sets one outcome

unset : List (Option Result) → ℕ
unset [] = 0
unset (None ∷ outs) = suc (unset outs)
unset (Some r ∷ outs) = unset outs

set_one : (outs : List (Option Result)) (j : ℕ) (r : Result) → slice_get outs j ≡ Some None → unset (slice_set outs j (Some r)) + 1 ≡ unset outs
unfolding unset
set_one [] j r e = cc
set_one (None ∷ outs) zero r e = omega arith
set_one (Some q ∷ outs) zero r e = cc
set_one (None ∷ outs) (suc j) r e = omega (arith, set_one outs j r e)
set_one (Some q ∷ outs) (suc j) r e = set_one outs j r e

set_each : (outs : List (Option Result)) (ms : List Move) → AllFresh outs ms → unset (record_all outs ms) + settlings ms ≡ unset outs
set_each outs [] h = omega arith
set_each outs (Turned p ∷ ms) h = set_each outs ms h
set_each outs (Took t ∷ ms) h = set_each outs ms h
set_each outs (Posted c ∷ ms) h = omega (arith, set_each (record_post outs c) ms h.1, set_one outs c.user_data (record { result = c.result; buf = part_of c.loan }) h.0)
set_each outs (Quieted n ∷ ms) h = omega (arith, set_each (record_quiet outs n) ms h.1, set_one outs n (record { result = pos 0; buf = [] }) h.0)

unset_none : (n : ℕ) → unset (replicate n None) ≡ n
unfolding unset
unset_none zero = refl
unset_none (suc n) = ap suc (unset_none n)

all_set : (outs : List (Option Result)) → unset outs ≡ 0 → AllByRecursion IsSome outs
unfolding unset
all_set [] h = tt
all_set (None ∷ outs) h = absurd (omega arith)
all_set (Some r ∷ outs) h = (refl, all_set outs h)

pub whole_by_count : (jobs : List Job) (files : Files) (choices : List ℕ) (ms : List Move) (b : PartnerState) (e : Explained jobs files choices ms b) → settlings ms ≡ length jobs → IsWhole e.state
whole_by_count jobs files choices ms b e n =
    let none : unset (record_all (replicate (length jobs) None) ms) ≡ 0 = omega (arith, set_each (replicate (length jobs) None) ms e.fresh, unset_none (length jobs)) in
    whole_where_set e.state (All-from_recursion IsSome (table e.state) (subst (AllByRecursion IsSome) (sym e.outcomes) (all_set (record_all (replicate (length jobs) None) ms) none)))

-- what was taken and what is to come are the entries

pub told_ends : (all : List Taken) (b : PartnerState) (s : ReplayState) → Related all b s [] → b.pending ≡ [] → IsWhole s
told_ends all b s r e = record {
  taken = r.rest;
  settled = ap all_done r.rows ∙ sym (nil_done None r.lines) ∙ ap is_nil (sym r.pending ∙ e);
}

pub whole_at_end : (jobs : List Job) (files : Files) (choices : List ℕ) (ms : List Move) (b : PartnerState) (s : ReplayState)
    → map job_of (took ms) ≡ last_unlinked jobs → Numbered 0 (took ms) → Steps false (idle files choices) ms b
    → replay jobs files (journal_of (log_of ms)) ≡ Some s → b.pending ≡ [] → IsWhole s
whole_at_end jobs files choices ms b s asks numbered h e p =
    let none : took ms ++ [] ≡ took ms = append-nil (took ms) in
    let t = explained jobs files choices ms [] b (ap (map job_of) none ∙ asks) (subst (Numbered 0) (sym none) numbered) h in
    subst IsWhole (same_Some t.state s (sym t.replays ∙ e)) (told_ends (took ms ++ []) b t.state t.related p)

-- a partner is idle where the replay is whole

no_entries : (ts : List Taken) → map job_of ts ≡ [] → ts ≡ []
no_entries [] e = refl
no_entries (t ∷ ts) e = cc

nothing_held : (c : Option Bool) (ls : List Line) → all_done (rows_of ls) ≡ true → view c ls ≡ []
nothing_held c [] h = refl
nothing_held c (Held t m ∷ ls) h = cc
nothing_held c (Gone t r ∷ ls) h = nothing_held (gone_tail c t r) ls h

no_lines : (ls : List Line) → map job_of (takens ls) ≡ [] → ls ≡ []
no_lines [] e = refl
no_lines (Held t m ∷ ls) e = cc
no_lines (Gone t r ∷ ls) e = cc

freed : (l : Link) (b : Bool) → l ≡ Free → tail_for (linked l) b ≡ None
freed l b e = ap (λ x. tail_for (linked x) b) e

-- the last job has no link
ends_free : (c : Option Bool) (ls : List Line) (job : Job) (jobs : List Job) → map job_of (takens ls) ≡ last_unlinked (job ∷ jobs) → tail_after c ls ≡ None
ends_free c [] job [] e = cc
ends_free c [] job (k ∷ jobs) e = cc
ends_free c (Held t m ∷ ls) job [] e =
    let p : job_of t ≡ record job { link = Free } = cc in
    let none : map job_of (takens ls) ≡ [] = cc in
    ap (tail_after (held_tail t)) (no_lines ls none) ∙ freed (job_of t).link false (ap (λ j. j.link) p)
ends_free c (Gone t r ∷ ls) job [] e =
    let p : job_of t ≡ record job { link = Free } = cc in
    let none : map job_of (takens ls) ≡ [] = cc in
    ap (tail_after (gone_tail c t r)) (no_lines ls none) ∙ freed (job_of t).link (cuts (cut_of c) (job_of t) r.result) (ap (λ j. j.link) p)
ends_free c (Held t m ∷ ls) job (k ∷ jobs) e = ends_free (held_tail t) ls k jobs (cc)
ends_free c (Gone t r ∷ ls) job (k ∷ jobs) e = ends_free (gone_tail c t r) ls k jobs (cc)

ends_idle : (ls : List Line) (jobs : List Job) → map job_of (takens ls) ≡ last_unlinked jobs → tail_after None ls ≡ None
ends_idle ls [] e = ap (tail_after None) (no_lines ls e)
ends_idle ls (job ∷ jobs) e = ends_free None ls job jobs e

pub related_idle : (all : List Taken) (jobs : List Job) (b : PartnerState) (s : ReplayState) (ahead : List Taken) → map job_of all ≡ last_unlinked jobs → Related all b s ahead → IsWhole s → IsIdle b
related_idle all jobs b s ahead asks r w =
    let none : ahead ≡ [] = no_entries ahead (sym r.rest ∙ w.taken) in
    let names : takens r.lines ≡ all = sym (append-nil (takens r.lines)) ∙ ap (λ l. takens r.lines ++ l) (sym none) ∙ r.entries in
    record {
      pending = r.pending ∙ nothing_held None r.lines (ap all_done (sym r.rows) ∙ w.settled);
      tail = r.tail ∙ ends_idle r.lines jobs (ap (map job_of) names ∙ asks);
    }

pub idle_where_whole : (jobs : List Job) (files : Files) (choices : List ℕ) (ms : List Move) (ahead : List Taken) (b : PartnerState) (s : ReplayState)
    → map job_of (took ms ++ ahead) ≡ last_unlinked jobs → Numbered 0 (took ms ++ ahead) → Steps false (idle files choices) ms b
    → replay jobs files (journal_of (log_of ms)) ≡ Some s → IsWhole s → IsIdle b
idle_where_whole jobs files choices ms ahead b s asks numbered h e w =
    let t = explained jobs files choices ms ahead b asks numbered h in
    related_idle (took ms ++ ahead) jobs b t.state ahead asks t.related (subst IsWhole (same_Some s t.state (sym e ∙ t.replays)) w)

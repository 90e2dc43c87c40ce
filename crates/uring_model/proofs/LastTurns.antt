-- Where every entry was taken, a turn with room posts while something is pending: a quiet end is never the last of it.
use Rattle.std.specs.Prelude.{◌≡◌, ℕ, ◌+◌, ◌<◌, ◌≤◌, ◌/◌, ◌%◌, zero, suc, Bool, true, false, ◌&&◌, ◌||◌, not, cond, List, [], ◌∷◌, ◌++◌, length, map, Some, slice_get, refl}
use Rattle.std.proofs.lemmas.List.{map-append}
use Rattle.std.proofs.Common.{ap, sym, subst, ◌∙◌, append_assoc, append-nil, arith, length-append}
use Rattle.uring_base.specs.declared.events.Taken.{Taken}
use Rattle.uring_model.specs.declared.pending.Pending.{Pending}
use Rattle.uring_model.specs.Machine.{Files, FileAnswer}
use Rattle.uring_model.specs.Jobs.{Job, linked, quiets_are_linked}
use Rattle.uring_model.specs.Replay.{last_unlinked}
use Rattle.uring_model.specs.Chosen.{choice, stops}
use Rattle.uring_model.specs.Moves.{Move, Turned, Took, Posted, Quieted, took}
use Rattle.uring_model.specs.Partner.{job_of, PartnerState, Cursor, cursors, cut_of, answer_to, completion_of, is_quiet_end, after_take, after_settle, Steps, idle}
use Rattle.uring_model.specs.Turn.{Outturn, ByPost, Quietly, posts_of, ends_turn, ending, stays, room_after, settled_by, settle_then, settle_turn, turn}
use Rattle.uring_model.proofs.Honest.{last_linked, free_front, cursor_entries, left_entries}
use Rattle.uring_model.proofs.Progress.{ready_some, names_one, one_less}

-- the jobs of what is pending
abbrev jobs_of : List Pending → List Job
jobs_of is = map job_of (map (λ i. i.taken) is)

and_left : (b c : Bool) → (b && c) ≡ true → b ≡ true
and_left true c e = refl
and_left false c e = e

and_right : (b c : Bool) → (b && c) ≡ true → c ≡ true
and_right true c e = e
and_right false c e = cc

both_true : (b c : Bool) → b ≡ true → c ≡ true → (b && c) ≡ true
both_true b c e f = rw (e, f) refl

unlinked_loud : (q l : Bool) → l ≡ false → (not q || l) ≡ true → not q ≡ true
unlinked_loud true l e h = absurd (let bad : false ≡ true = sym e ∙ h in cc)
unlinked_loud false l e h = refl

loud_or : (q l : Bool) → not q ≡ true → (not q || l) ≡ true
loud_or true l e = cc
loud_or false l e = refl

-- without the first of these each quiet one is linked as before
rest_linked : (job : Job) (jobs : List Job) → quiets_are_linked (job ∷ jobs) ≡ true → quiets_are_linked jobs ≡ true
rest_linked job [] h = refl
rest_linked job (next ∷ jobs) h = and_right (not job.quiet || linked job.link) (quiets_are_linked (next ∷ jobs)) h

put_loud : (job : Job) (jobs : List Job) → not job.quiet ≡ true → quiets_are_linked jobs ≡ true → quiets_are_linked (job ∷ jobs) ≡ true
put_loud job [] e h = e
put_loud job (next ∷ jobs) e h = both_true (not job.quiet || linked job.link) (quiets_are_linked (next ∷ jobs)) (loud_or job.quiet (linked job.link) e) h

-- a job behind one that isn't linked, or behind none, can go
still_linked : (w : Bool) (ts : List Taken) (t : Taken) (jobs : List Job) → last_linked w ts ≡ false → quiets_are_linked (map job_of ts ++ job_of t ∷ jobs) ≡ true → quiets_are_linked (map job_of ts ++ jobs) ≡ true
still_linked w [] t jobs e h = rest_linked (job_of t) jobs h
still_linked w (f ∷ []) t jobs e h =
    put_loud (job_of f) jobs (unlinked_loud (job_of f).quiet (linked (job_of f).link) e (and_left (not (job_of f).quiet || linked (job_of f).link) (quiets_are_linked (job_of t ∷ jobs)) h))
    (rest_linked (job_of t) jobs (and_right (not (job_of f).quiet || linked (job_of f).link) (quiets_are_linked (job_of t ∷ jobs)) h))
still_linked w (f ∷ g ∷ ts) t jobs e h =
    both_true (not (job_of f).quiet || linked (job_of f).link) (quiets_are_linked (map job_of (g ∷ ts) ++ jobs)) (and_left (not (job_of f).quiet || linked (job_of f).link) _ h)
    (still_linked (linked (job_of f).link) (g ∷ ts) t jobs e (and_right (not (job_of f).quiet || linked (job_of f).link) _ h))

-- one settling leaves each quiet one linked
settles_linked : (a : PartnerState) (k : Cursor) (y : FileAnswer) (n : ℕ) (jobs : List Job) → slice_get (cursors a) n ≡ Some k → quiets_are_linked (jobs_of a.pending ++ jobs) ≡ true → quiets_are_linked (jobs_of (after_settle a k y).pending ++ jobs) ≡ true
settles_linked a k y n jobs chosen h =
    let front = map (λ i. i.taken) k.front in
    let back = map (λ i. i.taken) k.back in
    let before : jobs_of a.pending ++ jobs ≡ map job_of front ++ job_of k.item.taken ∷ (map job_of back ++ jobs) =
    ap (λ ts. map job_of ts ++ jobs) (cursor_entries a k n chosen) ∙ ap (λ l. l ++ jobs) (map-append job_of front (k.item.taken ∷ back)) ∙ append_assoc (map job_of front) (job_of k.item.taken ∷ map job_of back) jobs in
    let after : jobs_of (after_settle a k y).pending ++ jobs ≡ map job_of front ++ (map job_of back ++ jobs) =
    ap (λ ts. map job_of ts ++ jobs) (left_entries a k y) ∙ ap (λ l. l ++ jobs) (map-append job_of front back) ∙ append_assoc (map job_of front) (map job_of back) jobs in
    subst (λ l. quiets_are_linked l ≡ true) (sym after) (still_linked false front k.item.taken (map job_of back ++ jobs) (free_front a k n chosen) (subst (λ l. quiets_are_linked l ≡ true) before h))

-- so do all steps, with the entries that they take
stay_linked : (over : Bool) (a b : PartnerState) (ms : List Move) → Steps over a ms b → quiets_are_linked (jobs_of a.pending ++ map job_of (took ms)) ≡ true → quiets_are_linked (jobs_of b.pending) ≡ true
stay_linked over a b [] h e = subst (λ x. quiets_are_linked (jobs_of x.pending) ≡ true) (sym h) (subst (λ l. quiets_are_linked l ≡ true) (append-nil (jobs_of a.pending)) e)
stay_linked over a b (Turned p ∷ ms) h e = stay_linked false a b ms h e
stay_linked over a b (Took t ∷ ms) h e =
    let one : List Pending = record { taken = t; cut = cut_of a.tail; marked = false } ∷ [] in
    let names : jobs_of (after_take a t).pending ++ map job_of (took ms) ≡ jobs_of a.pending ++ job_of t ∷ map job_of (took ms) =
    ap (λ ts. map job_of ts ++ map job_of (took ms)) (map-append (λ i. i.taken) a.pending one) ∙ ap (λ l. l ++ map job_of (took ms)) (map-append job_of (map (λ i. i.taken) a.pending) (t ∷ [])) ∙ append_assoc (jobs_of a.pending) (job_of t ∷ []) (map job_of (took ms)) in
    stay_linked false (after_take a t) b ms h.1 (subst (λ l. quiets_are_linked l ≡ true) (sym names) e)
stay_linked over a b (Posted c ∷ ms) h e =
    let k = h.1.cursor in
    stay_linked (stops (choice a.choices)) (after_settle a k (answer_to a.world k)) b ms h.2 (settles_linked a k (answer_to a.world k) ((choice a.choices / 2) % length (cursors a)) (map job_of (took ms)) h.1.chosen e)
stay_linked over a b (Quieted n ∷ ms) h e =
    let k = h.1.cursor in
    stay_linked false (after_settle a k (answer_to a.world k)) b ms h.2 (settles_linked a k (answer_to a.world k) ((choice a.choices / 2) % length (cursors a)) (map job_of (took ms)) h.1.chosen e)

-- a quiet one isn't the last
more_behind : (jobs : List Job) (job : Job) (rest : List Pending) → job.quiet ≡ true → quiets_are_linked (jobs ++ job ∷ jobs_of rest) ≡ true → 0 < length rest
more_behind [] job [] q h = absurd (let bad : false ≡ true = ap not (sym q) ∙ h in cc)
more_behind [] job (r ∷ rest) q h = omega arith
more_behind (j ∷ jobs) job rest q h = more_behind jobs job rest q (rest_linked j (jobs ++ job ∷ jobs_of rest) h)

-- one end and the turn behind it
end_posts : (a : PartnerState) (c : Cursor) (go : ℕ → PartnerState → Outturn) (room : ℕ) (quiet : Bool) → is_quiet_end a.world c ≡ quiet → (quiet ≡ true → 0 < length (posts_of (go (suc room) (settled_by a c)).ends)) → 0 < length (posts_of (settle_then a go room (Some c)).ends)
end_posts a c go room true e f =
    let n = c.item.taken.entry.user_data in
    subst (λ q. 0 < length (posts_of (ending (cond q (Quietly n) (ByPost (completion_of c.item.taken (answer_to a.world c)))) (cond (ends_turn (stops (choice a.choices)) (cond q (Quietly n) (ByPost (completion_of c.item.taken (answer_to a.world c))))) (stays (settled_by a c)) (go (room_after room (cond q (Quietly n) (ByPost (completion_of c.item.taken (answer_to a.world c))))) (settled_by a c)))).ends)) (sym e) (f refl)
end_posts a c go room false e f =
    let n = c.item.taken.entry.user_data in
    subst (λ q. 0 < length (posts_of (ending (cond q (Quietly n) (ByPost (completion_of c.item.taken (answer_to a.world c)))) (cond (ends_turn (stops (choice a.choices)) (cond q (Quietly n) (ByPost (completion_of c.item.taken (answer_to a.world c))))) (stays (settled_by a c)) (go (room_after room (cond q (Quietly n) (ByPost (completion_of c.item.taken (answer_to a.world c))))) (settled_by a c)))).ends)) (sym e) (omega arith)

quiet_job : (b c : Bool) → (b && c) ≡ true → b ≡ true
quiet_job true c e = refl
quiet_job false c e = e

turn_posts : (left room : ℕ) (a : PartnerState) → quiets_are_linked (jobs_of a.pending) ≡ true → 0 < length a.pending → length a.pending ≤ left → 0 < room → 0 < length (posts_of (settle_turn left room a).ends)
turn_posts zero room a l p le r = absurd (omega (arith, p, le))
turn_posts (suc left) zero a l p le r = absurd (omega (arith, r))
turn_posts (suc left) (suc room) a l p le r =
    let some = names_one (choice a.choices) (cursors a) (ready_some a.pending p) in
    let c = some.0 in
    let at = (choice a.choices / 2) % length (cursors a) in
    let y = answer_to a.world c in
    let parts : jobs_of a.pending ≡ map job_of (map (λ i. i.taken) c.front) ++ job_of c.item.taken ∷ jobs_of c.back = ap (map job_of) (cursor_entries a c at some.1) ∙ map-append job_of (map (λ i. i.taken) c.front) (c.item.taken ∷ map (λ i. i.taken) c.back) in
    let less = one_less a c some.1 in
    subst (λ o. 0 < length (posts_of (settle_then a (settle_turn left) room o).ends)) (sym some.1)
    (end_posts a c (settle_turn left) room (is_quiet_end a.world c) refl (λ q.
    let more = more_behind (map job_of (map (λ i. i.taken) c.front)) (job_of c.item.taken) c.back (quiet_job (job_of c.item.taken).quiet _ q) (subst (λ l. quiets_are_linked l ≡ true) parts l) in
    let whole : length (jobs_of a.pending) ≡ length (map job_of (map (λ i. i.taken) c.front)) + suc (length (jobs_of c.back)) = ap length parts ∙ length-append (map job_of (map (λ i. i.taken) c.front)) (job_of c.item.taken ∷ jobs_of c.back) in
    let n = jobs-length a.pending in
    let m = jobs-length c.back in
    let kept : quiets_are_linked (jobs_of (after_settle a c y).pending) ≡ true =
    subst (λ l. quiets_are_linked l ≡ true) (append-nil (jobs_of (after_settle a c y).pending)) (settles_linked a c y at [] some.1 (subst (λ l. quiets_are_linked l ≡ true) (sym (append-nil (jobs_of a.pending))) l)) in
    turn_posts left (suc room) (settled_by a c) kept (omega (arith, less, whole, n, m, more)) (omega (arith, less, le)) (omega arith)))
  where
    jobs-length : (is : List Pending) → length (jobs_of is) ≡ length is
    jobs-length [] = refl
    jobs-length (i ∷ is) = ap suc (jobs-length is)

unlinked_last : (jobs : List Job) → quiets_are_linked jobs ≡ true → quiets_are_linked (last_unlinked jobs) ≡ true
unlinked_last [] h = refl
unlinked_last (job ∷ []) h = h
unlinked_last (job ∷ next ∷ []) h = h
unlinked_last (job ∷ next ∷ third ∷ jobs) h =
    both_true (not job.quiet || linked job.link) (quiets_are_linked (last_unlinked (next ∷ third ∷ jobs))) (and_left (not job.quiet || linked job.link) (quiets_are_linked (next ∷ third ∷ jobs)) h)
    (unlinked_last (next ∷ third ∷ jobs) (and_right (not job.quiet || linked job.link) (quiets_are_linked (next ∷ third ∷ jobs)) h))

pub last_turns_post : (jobs : List Job) (files : Files) (choices : List ℕ) (ms : List Move) (b : PartnerState) (room : ℕ)
    → quiets_are_linked jobs ≡ true → map job_of (took ms) ≡ last_unlinked jobs → Steps false (idle files choices) ms b
    → 0 < length b.pending → 0 < room → 0 < length (posts_of (turn [] room b).ends)
last_turns_post jobs files choices ms b room l asks h p r =
    turn_posts (length b.pending) room b (stay_linked false (idle files choices) b ms h (subst (λ js. quiets_are_linked js ≡ true) (sym asks) (unlinked_last jobs l))) p (omega arith) r

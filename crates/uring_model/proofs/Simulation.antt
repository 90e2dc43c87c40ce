-- What a memory partner does in any number of turns makes a journal that replays.
use Rattle.std.specs.Prelude.{◌≡◌, ℕ, ◌+◌, ◌/◌, ◌%◌, zero, suc, Bool, true, false, ◌&&◌, ◌||◌, not, cond, nat_eq, List, [], ◌∷◌, ◌++◌, length, map, drop, replicate, ℤ, Option, Some, None, slice_get, slice_set, refl}
use Rattle.std.specs.Option.{option_map}
use Rattle.std.proofs.lemmas.Cmp.{int_eq_equiv}
use Rattle.std.proofs.lemmas.Option.{slice_get-map}
use Rattle.std.proofs.lemmas.List.{length-map}
use Rattle.std.proofs.lemmas.Bool.Decides.{nat_tests}
use Rattle.std.proofs.Math.Seq.{set-append_seam}
use Rattle.uring_base.specs.declared.events.Event.TheVariants as events
use Rattle.uring_model.proofs.Parts.{part_read}
use Rattle.std.proofs.Common.{ap, sym, subst, ◌∙◌, append_assoc, arith}
use Rattle.uring_base.specs.declared.events.Taken.{Taken}
use Rattle.uring_base.specs.declared.events.Completion.{Completion}
use Rattle.uring_base.specs.declared.events.Event.{Event}
use Rattle.uring_base.specs.Loans.{part_of, with_part}
use Rattle.uring_model.specs.Machine.{Files, step, canceled}
use Rattle.uring_model.specs.Jobs.{Job, linked, is_soft, ends_quietly}
use Rattle.uring_model.specs.Replay.{Result, Row, Open, Done, ReplayState, is_bad, waits, cuts, severed, Place, may, ready, place_of, mark, mark_if, settle, outcome_of, settled, settle_at, by_post, replay_event, replay_next, replay_from, last_unlinked, first_state, outcomes, table}
use Rattle.uring_model.specs.Chosen.{choice, stops, numbers, Names, IsChosenNext, IsChosen}
use Rattle.uring_model.specs.Moves.{Move, Turned, Took, Posted, Quieted, took, logged, event_of, journal_of, log_of}
use Rattle.uring_model.specs.Partner.{job_of, PartnerState, cut_of, Cursor, ready_cursors, mark_first_if, pass, pass_end, answer_to, completion_of, is_quiet_end, named, after_take, after_settle, Settles, SettlesQuietly, Steps, idle}
use Rattle.uring_model.specs.Explained.{Numbered, record_post, record_quiet, record_all, AllFresh}
use Rattle.uring_model.proofs.Lines.{Line, Held, Gone, rows_of, takens, held_tail, view, tail_after, Closed, rows-append, takens-append, view-append, tail_after-append, closed_split, closed_join, numbered_split, rows_count, cut_severed, passed, passed_end, closed_again, Both, matched, both_count, both_pick, place_at, has_can, marked_lines}
use Rattle.uring_model.proofs.Lengths.{answer-length}
use Rattle.uring_model.proofs.QuietAnswers.{quiet_result, quiet_bytes}

get_at : {A : Type 0} (xs : List A) (x : A) (ys : List A) (j : ℕ) → j ≡ length xs → slice_get (xs ++ x ∷ ys) j ≡ Some x
get_at [] x ys zero e = refl
get_at [] x ys (suc j) e = absurd (omega arith)
get_at (z ∷ xs) x ys zero e = absurd (omega arith)
get_at (z ∷ xs) x ys (suc j) e = get_at xs x ys j (omega arith)

outcomes-append : (xs ys : List Row) → outcomes (xs ++ ys) ≡ outcomes xs ++ outcomes ys
outcomes-append [] ys = refl
outcomes-append (Open job m ∷ xs) ys = ap (λ l. None ∷ l) (outcomes-append xs ys)
outcomes-append (Done job r ∷ xs) ys = ap (λ l. Some r ∷ l) (outcomes-append xs ys)

outcomes-length : (xs : List Row) → length (outcomes xs) ≡ length xs
outcomes-length [] = refl
outcomes-length (Open job m ∷ xs) = ap suc (outcomes-length xs)
outcomes-length (Done job r ∷ xs) = ap suc (outcomes-length xs)

outcomes_marked : (k n : ℕ) (xs : List Row) → outcomes (mark k n xs) ≡ outcomes xs
outcomes_marked k n [] = refl
outcomes_marked k n (Open job m ∷ xs) = ap (λ l. None ∷ l) (outcomes_marked k (n + 1) xs)
outcomes_marked k n (Done job r ∷ xs) = ap (λ l. Some r ∷ l) (outcomes_marked k (n + 1) xs)

outcomes_mark_if : (o : Option ℕ) (xs : List Row) → outcomes (mark_if o xs) ≡ outcomes xs
outcomes_mark_if None xs = refl
outcomes_mark_if (Some k) xs = outcomes_marked k 0 xs

set_at : {A : Type 0} (xs : List A) (x y : A) (ys : List A) (j : ℕ) → j ≡ length xs → slice_set (xs ++ x ∷ ys) j y ≡ xs ++ y ∷ ys
set_at xs x y ys j e = rw e (set-append_seam xs x ys y)

-- where the partner and the replay stand: both see the lines, and `ahead` are those of all entries that are to come
pub record Related (all : List Taken) (a : PartnerState) (s : ReplayState) (ahead : List Taken) : Type 0 where
  pub lines : List Line
  pub rows : s.rows ≡ rows_of lines
  pub rest : s.rest ≡ map job_of ahead
  pub files : s.files ≡ a.world
  pub pending : a.pending ≡ view None lines
  pub tail : a.tail ≡ tail_after None lines
  pub closed : Closed false lines
  pub entries : takens lines ++ ahead ≡ all
  pub numbered : Numbered 0 (takens lines ++ ahead)

-- a take

take_known : (s : ReplayState) (j : ℕ) (job : Job) (rest : List Job) → s.rest ≡ job ∷ rest → j ≡ length s.rows → replay_event s (events.Take j) ≡ Some (record { files = s.files; rows = s.rows ++ Open job false ∷ []; rest = rest })
take_known s j job rest e h =
    let t : nat_eq j (length s.rows) ≡ true = grind (arith, nat_tests) in
    rw (e, t) refl

none_more : (rows : List Row) (job : Job) (n : ℕ) → outcomes (rows ++ Open job false ∷ []) ++ replicate n None ≡ outcomes rows ++ replicate (suc n) None
none_more rows job n = ap (λ l. l ++ replicate n None) (outcomes-append rows (Open job false ∷ [])) ∙ append_assoc (outcomes rows) (None ∷ []) (replicate n None)

pub taken_one : (all : List Taken) (a : PartnerState) (s : ReplayState) (t : Taken) (ahead : List Taken) → Related all a s (t ∷ ahead) → (n : ReplayState) × (replay_event s (events.Take t.entry.user_data) ≡ Some n) × Related all (after_take a t) n ahead × (table n ≡ table s)
taken_one all a s t ahead r =
    let one : List Line = Held t false ∷ [] in
    let here = numbered_split 0 (takens r.lines) (t ∷ ahead) r.numbered in
    let rows_len : length s.rows ≡ length (takens r.lines) = ap length r.rows ∙ rows_count r.lines in
    let number : t.entry.user_data ≡ length s.rows = omega (arith, here.1.0, rows_len) in
    let more : takens (r.lines ++ one) ++ ahead ≡ takens r.lines ++ (t ∷ ahead) = ap (λ l. l ++ ahead) (takens-append r.lines one) ∙ append_assoc (takens r.lines) (t ∷ []) ahead in (
      record { files = s.files; rows = s.rows ++ Open (job_of t) false ∷ []; rest = map job_of ahead },
      take_known s t.entry.user_data (job_of t) (map job_of ahead) r.rest number,
      record {
        lines = r.lines ++ one;
        rows = ap (λ l. l ++ Open (job_of t) false ∷ []) r.rows ∙ sym (rows-append r.lines one);
        rest = refl;
        files = r.files;
        pending = (λ i. r.pending i ++ record { taken = t; cut = cut_of (r.tail i); marked = false } ∷ []) ∙ sym (view-append None r.lines one);
        tail = sym (tail_after-append None r.lines one);
        closed = closed_join false r.lines one r.closed tt;
        entries = more ∙ r.entries;
        numbered = subst (Numbered 0) (sym more) r.numbered;
      },
      none_more s.rows (job_of t) (length (map job_of ahead)) ∙ ap (λ l. outcomes s.rows ++ replicate (length l) None) (sym r.rest),
    )

-- a settling

and_left : (b c : Bool) → (b && c) ≡ true → b ≡ true
and_left true c e = refl
and_left false c e = e

not_true : (b : Bool) → not b ≡ true → b ≡ false
not_true true e = cc
not_true false e = refl

may_waits : (before : List Row) (job : Job) → may before job ≡ true → waits false before ≡ false
may_waits before job e = not_true (waits false before) (and_left (not (waits false before)) _ (and_left _ _ e))

passes_both : (s n : ReplayState) (b c : Bool) → b ≡ true → c ≡ true → cond (b && c) (Some n) None ≡ Some n
passes_both s n b c p q = rw (p, q) refl

settle_known : (s : ReplayState) (told : Job → ℤ → Bool) (p : Place) (j : ℕ) → place_of [] s.rows j ≡ Some p → may p.before p.job ≡ true → told p.job (settle s.files p).result ≡ true → settle_at s told (place_of [] s.rows j) ≡ Some (settled s p (settle s.files p))
settle_known s told p j g m e = ap (settle_at s told) g ∙ passes_both s (settled s p (settle s.files p)) (may p.before p.job) (told p.job (settle s.files p).result) m e

posts_so : (job : Job) (r q : ℤ) → r ≡ q → ends_quietly job r ≡ false → by_post q job r ≡ true
posts_so job r q e loud = subst (λ q. by_post q job r ≡ true) e (rw (int_eq_equiv.refl r, loud) refl)

outs_open : (xs : List Row) (job : Job) (m : Bool) (ys : List Row) (more : List (Option Result)) → outcomes (xs ++ Open job m ∷ ys) ++ more ≡ outcomes xs ++ None ∷ (outcomes ys ++ more)
outs_open xs job m ys more = ap (λ l. l ++ more) (outcomes-append xs (Open job m ∷ ys)) ∙ append_assoc (outcomes xs) (None ∷ outcomes ys) more

outs_done : (xs : List Row) (job : Job) (r : Result) (ys : List Row) (more : List (Option Result)) → outcomes (xs ++ Done job r ∷ ys) ++ more ≡ outcomes xs ++ Some r ∷ (outcomes ys ++ more)
outs_done xs job r ys more = ap (λ l. l ++ more) (outcomes-append xs (Done job r ∷ ys)) ∙ append_assoc (outcomes xs) (Some r ∷ outcomes ys) more

abbrev pub place_in : List Line → Taken → Bool → List Line → Place
place_in before t m after = record { before = rows_of before; job = job_of t; marked = m; after = rows_of after }

abbrev pub cursor_in : List Line → Taken → Bool → List Line → Cursor
cursor_in before t m after = record { front = view None before; item = record { taken = t; cut = cut_of (tail_after None before); marked = m }; back = view (held_tail t) after }

-- the partner answers what the replay gives
pub same_answer : (f g : Files) (before after : List Line) (t : Taken) (m : Bool) → g ≡ f → Closed false before → waits false (rows_of before) ≡ false → Numbered 0 (takens before) → Numbered (length (rows_of before) + 1) (takens after)
    → settle g (place_in before t m after) ≡ answer_to f (cursor_in before t m after)
same_answer f g before after t m e h w n k =
    let cut : severed false (rows_of before) ≡ cut_of (tail_after None before) = sym (cut_severed false None false before h (λ _. refl) w) in
    λ i. cond (m || cut i) (canceled (e i) (job_of t).buf)
    (step (e i) (λ j. sym (has_can j 0 None before n) i || sym (has_can j (length (rows_of before) + 1) (held_tail t) after k) i) (job_of t).op (job_of t).buf)

-- the settling of the entry between these lines, as the replay sees it
pub record SettledIn (all : List Taken) (a : PartnerState) (s : ReplayState) (ahead : List Taken) (before after : List Line) (t : Taken) (m : Bool) : Type 0 where
  pub found : place_of [] s.rows t.entry.user_data ≡ Some (place_in before t m after)
  pub same : settle s.files (place_in before t m after) ≡ answer_to a.world (cursor_in before t m after)
  pub related : Related all (after_settle a (cursor_in before t m after) (answer_to a.world (cursor_in before t m after))) (settled s (place_in before t m after) (settle s.files (place_in before t m after))) ahead
  pub outcome : table (settled s (place_in before t m after) (settle s.files (place_in before t m after))) ≡ slice_set (table s) t.entry.user_data (Some (record { result = (answer_to a.world (cursor_in before t m after)).result; buf = part_of (with_part t.loan (answer_to a.world (cursor_in before t m after)).buf) }))
  pub number : length (rows_of before) ≡ t.entry.user_data
  pub fresh : slice_get (table s) t.entry.user_data ≡ Some None

pub settled_in : (all : List Taken) (a : PartnerState) (s : ReplayState) (ahead : List Taken) (before after : List Line) (t : Taken) (m : Bool) → (r : Related all a s ahead) → r.lines ≡ before ++ Held t m ∷ after → may (rows_of before) (job_of t) ≡ true
    → SettledIn all a s ahead before after t m
settled_in all a s ahead before after t m r whole ok =
    let job = job_of t in
    let b = linked (job_of t).link in
    let p = place_in before t m after in
    let c = cursor_in before t m after in
    let closed = closed_split false before (Held t m ∷ after) (subst (Closed false) whole r.closed) in
    let nowait : waits false (rows_of before) ≡ false = may_waits (rows_of before) (job_of t) ok in
    let names : takens r.lines ≡ takens before ++ t ∷ takens after = ap takens whole ∙ takens-append before (Held t m ∷ after) in
    let all : Numbered 0 (takens before ++ t ∷ takens after) = subst (Numbered 0) names (numbered_split 0 (takens r.lines) ahead r.numbered).0 in
    let parts = numbered_split 0 (takens before) (t ∷ takens after) all in
    let count : length (rows_of before) ≡ length (takens before) = rows_count before in
    let number : t.entry.user_data ≡ length (rows_of before) = omega (arith, parts.1.0, count) in
    let later : Numbered (length (rows_of before) + 1) (takens after) = subst (λ k. Numbered k (takens after)) (omega (arith, count)) parts.1.1 in
    let same : settle s.files p ≡ answer_to a.world c = same_answer a.world s.files before after t m r.files closed.0 nowait parts.0 later in
    let x = settle s.files p in
    let y = answer_to a.world c in
    let gone : Line = Gone t (outcome_of x) in
    let ls : List Line = before ++ gone ∷ after in
    let ls_names : takens ls ≡ takens before ++ t ∷ takens after = takens-append before (gone ∷ after) in
    let ls_closed : Closed false ls = closed_join false before (gone ∷ after) closed.0 (nowait, closed_again (linked (job_of t).link) after closed.1) in
    let marked = marked_lines x.marks ls (subst (Numbered 0) (sym ls_names) all) ls_closed in
    let cut = cut_of (tail_after None before) || (is_soft (job_of t).link && is_bad (job_of t) x.result) in
    let row : s.rows ≡ rows_of before ++ Open (job_of t) m ∷ rows_of after = r.rows ∙ ap rows_of whole ∙ rows-append before (Held t m ∷ after) in
    let found : place_of [] s.rows t.entry.user_data ≡ Some p = ap (λ l. place_of [] l t.entry.user_data) row ∙ place_at [] (rows_of before) (rows_of after) (job_of t) m t.entry.user_data number in
    let end : a.tail ≡ tail_after (held_tail t) after = r.tail ∙ ap (tail_after None) whole ∙ tail_after-append None before (Held t m ∷ after) in
    let seen : view None ls ≡ view None before ++ pass (linked (job_of t).link) (cuts (cut_of (tail_after None before)) (job_of t) x.result) (view (held_tail t) after) = view-append None before (gone ∷ after) ∙ ap (λ l. view None before ++ l) (passed (linked (job_of t).link) cut after closed.1) in
    let more = replicate (length s.rest) None in
    let bytes : part_of (with_part t.loan y.buf) ≡ x.buf = part_read t.loan y.buf (answer-length a.world c) ∙ ap (λ z. z.buf) (sym same) in
    let told : ◌≡◌ {A = Result} (outcome_of x) (record { result = y.result; buf = part_of (with_part t.loan y.buf) }) = λ i. record { result = (same i).result; buf = sym bytes i } in
    let at : t.entry.user_data ≡ length (outcomes (rows_of before)) = number ∙ sym (outcomes-length (rows_of before)) in record {
      found = found;
      same = same;
      related = record {
        lines = marked.lines;
        rows = ap (mark_if x.marks) (sym (rows-append before (gone ∷ after))) ∙ sym marked.rows;
        rest = r.rest;
        files = ap (λ z. z.world) same;
        pending =
            (λ i. mark_first_if (sym same i).marks (view None before ++ pass (linked (job_of t).link) (cuts (cut_of (tail_after None before)) (job_of t) (sym same i).result) (view (held_tail t) after)))
            ∙ ap (mark_first_if x.marks) (sym seen) ∙ sym marked.view;
        tail =
            (λ i. pass_end (linked (job_of t).link) (cuts (cut_of (tail_after None before)) (job_of t) (sym same i).result) (view (held_tail t) after) (end i))
            ∙ sym (passed_end (linked (job_of t).link) cut after closed.1) ∙ sym (tail_after-append None before (gone ∷ after)) ∙ sym marked.tail;
        closed = marked.closed;
        entries = ap (λ l. l ++ ahead) (marked.takens ∙ ls_names ∙ sym names) ∙ r.entries;
        numbered = subst (λ l. Numbered 0 (l ++ ahead)) (names ∙ sym ls_names ∙ sym marked.takens) r.numbered;
      };
      outcome =
          ap (λ l. l ++ more) (outcomes_mark_if x.marks (rows_of before ++ Done (job_of t) (outcome_of x) ∷ rows_of after))
          ∙ outs_done (rows_of before) (job_of t) (outcome_of x) (rows_of after) more
          ∙ ap (λ v. outcomes (rows_of before) ++ Some v ∷ (outcomes (rows_of after) ++ more)) told
          ∙ sym (set_at (outcomes (rows_of before)) None (Some (record { result = y.result; buf = part_of (with_part t.loan y.buf) })) (outcomes (rows_of after) ++ more) t.entry.user_data at)
          ∙ ap (λ l. slice_set l t.entry.user_data (Some (record { result = y.result; buf = part_of (with_part t.loan y.buf) }))) (sym (ap (λ l. outcomes l ++ more) row ∙ outs_open (rows_of before) (job_of t) m (rows_of after) more));
      number = sym number;
      fresh = ap (λ l. slice_get l t.entry.user_data) (ap (λ l. outcomes l ++ more) row ∙ outs_open (rows_of before) (job_of t) m (rows_of after) more) ∙ get_at (outcomes (rows_of before)) None (outcomes (rows_of after) ++ more) t.entry.user_data at;
    }

-- the entry that a choice names is one that may settle
pub record Picked (all : List Taken) (a : PartnerState) (s : ReplayState) (ahead : List Taken) (k : Cursor) : Type 0 where
  pub before : List Line
  pub taken : Taken
  pub marked : Bool
  pub after : List Line
  pub cursor : k ≡ cursor_in before taken marked after
  pub may : may (rows_of before) (job_of taken) ≡ true
  pub one : SettledIn all a s ahead before after taken marked
  pub names : Names (choice a.choices) (numbers (ready [] s.rows)) taken.entry.user_data

pub picked : (all : List Taken) (a : PartnerState) (s : ReplayState) (ahead : List Taken) (k : Cursor) → Related all a s ahead → named (choice a.choices) (ready_cursors [] a.pending) ≡ Some k → Picked all a s ahead k
picked all a s ahead k r named_so =
    let both : Both r.lines (ready [] (rows_of r.lines)) (ready_cursors [] (view None r.lines)) = matched r.lines [] r.lines refl r.closed in
    let ps = ready [] (rows_of r.lines) in
    let cs = ready_cursors [] (view None r.lines) in
    let chosen : slice_get (ready_cursors [] (view None r.lines)) ((choice a.choices / 2) % length (ready_cursors [] (view None r.lines))) ≡ Some k = subst (λ l. named (choice a.choices) (ready_cursors [] l) ≡ Some k) r.pending named_so in
    let pick = both_pick r.lines ps cs ((choice a.choices / 2) % length cs) k both chosen in
    let f = pick.2 in
    let one = settled_in all a s ahead f.before f.after f.taken f.marked r f.whole f.may in
    let counted : length (numbers ps) ≡ length cs = length-map ps (λ p. length p.before) ∙ both_count r.lines ps cs both in
    let names : slice_get (numbers ps) ((choice a.choices / 2) % length (numbers ps)) ≡ Some (length pick.0.before) =
    ap (λ n. slice_get (numbers ps) ((choice a.choices / 2) % n)) counted ∙ slice_get-map (λ p. length p.before) ps ((choice a.choices / 2) % length cs) ∙ ap (option_map (λ p. length p.before)) pick.1 in
    let number : length pick.0.before ≡ f.taken.entry.user_data = ap (λ p. length p.before) f.place ∙ one.number in
    record {
      before = f.before;
      taken = f.taken;
      marked = f.marked;
      after = f.after;
      cursor = f.cursor;
      may = f.may;
      one = one;
      names = subst (λ rows. Names (choice a.choices) (numbers (ready [] rows)) f.taken.entry.user_data) (sym r.rows) (names ∙ ap Some number);
    }

-- what a settling of this number makes of the replay
pub record SettledOne (all : List Taken) (a : PartnerState) (s : ReplayState) (ahead : List Taken) (k : Cursor) (e : Event) (j : ℕ) (outs : List (Option Result)) : Type 0 where
  pub state : ReplayState
  pub goes : replay_event s e ≡ Some state
  pub related : Related all (after_settle a k (answer_to a.world k)) state ahead
  pub outcomes : table state ≡ outs
  pub names : Names (choice a.choices) (numbers (ready [] s.rows)) j
  pub fresh : slice_get (table s) j ≡ Some None

-- one post, whichever entry the choice names
pub posted_one : (all : List Taken) (a : PartnerState) (s : ReplayState) (ahead : List Taken) (c : Completion) → Related all a s ahead → (h : Settles a c) → SettledOne all a s ahead h.cursor (event_of (logged (Posted c))) c.user_data (record_post (table s) c)
posted_one all a s ahead c r h =
    let p = picked all a s ahead h.cursor r h.chosen in
    let y = answer_to a.world (cursor_in p.before p.taken p.marked p.after) in
    let done : c ≡ completion_of p.taken y = h.completion ∙ (λ i. completion_of (p.cursor i).item.taken (answer_to a.world (p.cursor i))) in
    let number : c.user_data ≡ p.taken.entry.user_data = ap (λ x. x.user_data) done in
    let quiet : ends_quietly (job_of p.taken) y.result ≡ false = ap (is_quiet_end a.world) (sym p.cursor) ∙ h.posts in
    let loud : ends_quietly (job_of p.taken) (settle s.files (place_in p.before p.taken p.marked p.after)).result ≡ false = ap (λ z. ends_quietly (job_of p.taken) z.result) p.one.same ∙ quiet in
    record {
      state = settled s (place_in p.before p.taken p.marked p.after) (settle s.files (place_in p.before p.taken p.marked p.after));
      goes =
          ap (λ x. replay_event s (event_of (logged (Posted x)))) done
          ∙ settle_known s (by_post y.result) (place_in p.before p.taken p.marked p.after) p.taken.entry.user_data p.one.found p.may
          (posts_so (job_of p.taken) (settle s.files (place_in p.before p.taken p.marked p.after)).result y.result (ap (λ z. z.result) p.one.same) loud);
      related = subst (λ k. Related all (after_settle a k (answer_to a.world k)) (settled s (place_in p.before p.taken p.marked p.after) (settle s.files (place_in p.before p.taken p.marked p.after))) ahead) (sym p.cursor) p.one.related;
      outcomes = p.one.outcome ∙ ap (record_post (table s)) (sym done);
      names = subst (Names (choice a.choices) (numbers (ready [] s.rows))) (sym number) p.names;
      fresh = ap (slice_get (table s)) number ∙ p.one.fresh;
    }

-- one quiet end, whichever entry the choice names
pub quieted_one : (all : List Taken) (a : PartnerState) (s : ReplayState) (ahead : List Taken) (j : ℕ) → Related all a s ahead → (h : SettlesQuietly a j) → SettledOne all a s ahead h.cursor (event_of (logged (Quieted j))) j (record_quiet (table s) j)
quieted_one all a s ahead j r h =
    let p = picked all a s ahead h.cursor r h.chosen in
    let k = cursor_in p.before p.taken p.marked p.after in
    let y = answer_to a.world k in
    let number : j ≡ p.taken.entry.user_data = h.number ∙ ap (λ k. k.item.taken.entry.user_data) p.cursor in
    let quiet : is_quiet_end a.world k ≡ true = ap (is_quiet_end a.world) (sym p.cursor) ∙ h.quiet in
    let told : ends_quietly (job_of p.taken) (settle s.files (place_in p.before p.taken p.marked p.after)).result ≡ true = ap (λ z. ends_quietly (job_of p.taken) z.result) p.one.same ∙ quiet in
    record {
      state = settled s (place_in p.before p.taken p.marked p.after) (settle s.files (place_in p.before p.taken p.marked p.after));
      goes =
          ap (λ n. replay_event s (events.Quiet n)) number
          ∙ settle_known s ends_quietly (place_in p.before p.taken p.marked p.after) p.taken.entry.user_data p.one.found p.may told;
      related = subst (λ k. Related all (after_settle a k (answer_to a.world k)) (settled s (place_in p.before p.taken p.marked p.after) (settle s.files (place_in p.before p.taken p.marked p.after))) ahead) (sym p.cursor) p.one.related;
      outcomes =
          p.one.outcome
          ∙ (λ i. slice_set (table s) (sym number i) (Some (record { result = quiet_result a.world k quiet i; buf = quiet_bytes a.world k y.buf quiet i })));
      names = subst (Names (choice a.choices) (numbers (ready [] s.rows))) (sym number) p.names;
      fresh = ap (slice_get (table s)) number ∙ p.one.fresh;
    }

-- the whole law

-- what the journal of these moves means
pub record Told (all : List Taken) (over : Bool) (a b : PartnerState) (s : ReplayState) (ms : List Move) (ahead : List Taken) : Type 0 where
  pub state : ReplayState
  pub replays : replay_from (journal_of (log_of ms)) s ≡ Some state
  pub chosen : IsChosen (journal_of (log_of ms)) a.choices over s
  pub related : Related all b state ahead
  pub outcomes : table state ≡ record_all (table s) ms
  pub fresh : AllFresh (table s) ms

goes_on : (es : List Event) (e : Event) (s n : ReplayState) → replay_event s e ≡ Some n → replay_from (e ∷ es) s ≡ replay_from es n
goes_on es e s n h = ap (λ o. replay_next es o (λ _ t. replay_from es t)) h

pub tells : (all : List Taken) (over : Bool) (a b : PartnerState) (s : ReplayState) (ms : List Move) (ahead : List Taken) → Related all a s (took ms ++ ahead) → Steps over a ms b → Told all over a b s ms ahead
tells all over a b s [] ahead r h = record { state = s; replays = refl; chosen = tt; related = subst (λ x. Related all x s ahead) (sym h) r; outcomes = refl; fresh = tt }
tells all over a b s (Turned p ∷ ms) ahead r h =
    let t = tells all false a b s ms ahead r h in
    record { state = t.state; replays = t.replays; chosen = t.chosen; related = t.related; outcomes = t.outcomes; fresh = t.fresh }
tells all over a b s (Took u ∷ ms) ahead r h =
    let one = taken_one all a s u (took ms ++ ahead) r in
    let t = tells all false (after_take a u) b one.0 ms ahead one.2 h.1 in
    record {
      state = t.state;
      replays = goes_on (journal_of (log_of ms)) (events.Take u.entry.user_data) s one.0 one.1 ∙ t.replays;
      chosen = (h.0, subst (λ o. IsChosenNext o (IsChosen (journal_of (log_of ms)) a.choices false)) (sym one.1) t.chosen);
      related = t.related;
      outcomes = t.outcomes ∙ ap (λ o. record_all o ms) one.3;
      fresh = subst (λ o. AllFresh o ms) one.3 t.fresh;
    }
tells all over a b s (Posted c ∷ ms) ahead r h =
    let one = posted_one all a s (took ms ++ ahead) c r h.1 in
    let t = tells all (stops (choice a.choices)) (after_settle a h.1.cursor (answer_to a.world h.1.cursor)) b one.state ms ahead one.related h.2 in
    record {
      state = t.state;
      replays = goes_on (journal_of (log_of ms)) (event_of (logged (Posted c))) s one.state one.goes ∙ t.replays;
      chosen = (h.0, one.names, subst (λ o. IsChosenNext o (IsChosen (journal_of (log_of ms)) (drop 1 a.choices) (stops (choice a.choices)))) (sym one.goes) t.chosen);
      related = t.related;
      outcomes = t.outcomes ∙ ap (λ o. record_all o ms) one.outcomes;
      fresh = (one.fresh, subst (λ o. AllFresh o ms) one.outcomes t.fresh);
    }
tells all over a b s (Quieted j ∷ ms) ahead r h =
    let one = quieted_one all a s (took ms ++ ahead) j r h.1 in
    let t = tells all false (after_settle a h.1.cursor (answer_to a.world h.1.cursor)) b one.state ms ahead one.related h.2 in
    record {
      state = t.state;
      replays = goes_on (journal_of (log_of ms)) (event_of (logged (Quieted j))) s one.state one.goes ∙ t.replays;
      chosen = (h.0, one.names, subst (λ o. IsChosenNext o (IsChosen (journal_of (log_of ms)) (drop 1 a.choices) false)) (sym one.goes) t.chosen);
      related = t.related;
      outcomes = t.outcomes ∙ ap (λ o. record_all o ms) one.outcomes;
      fresh = (one.fresh, subst (λ o. AllFresh o ms) one.outcomes t.fresh);
    }

-- Entries that ask what the jobs ask, served from an idle partner.
pub explained : (jobs : List Job) (files : Files) (choices : List ℕ) (ms : List Move) (ahead : List Taken) (b : PartnerState)
    → map job_of (took ms ++ ahead) ≡ last_unlinked jobs → Numbered 0 (took ms ++ ahead) → Steps false (idle files choices) ms b
    → Told (took ms ++ ahead) false (idle files choices) b (first_state jobs files) ms ahead
explained jobs files choices ms ahead b asks numbered h =
    tells (took ms ++ ahead) false (idle files choices) b (first_state jobs files) ms ahead
    (record { lines = []; rows = refl; rest = sym asks; files = refl; pending = refl; tail = refl; closed = tt; entries = refl; numbered = numbered }) h

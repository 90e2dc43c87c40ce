-- The partner's pending entries and the replay's rows are two views of one list of lines.
use Rattle.std.specs.Prelude.{◌≡◌, ℕ, ◌+◌, ◌<◌, zero, suc, Bool, true, false, ◌&&◌, ◌||◌, not, nat_eq, List, [], ◌∷◌, ◌++◌, length, Option, Some, None, slice_get, refl}
use Rattle.std.proofs.lemmas.Option.{same_Some}
use Rattle.std.proofs.lemmas.Bool.Decides.{nat_tests}
use Rattle.std.proofs.Common.{ap, sym, subst, ◌∙◌, append_assoc, append-nil, arith}
use Rattle.uring_base.specs.declared.events.Taken.{Taken}
use Rattle.uring_model.specs.declared.pending.Pending.{Pending}
use Rattle.uring_model.specs.Jobs.{Job, linked, is_soft}
use Rattle.uring_model.specs.Replay.{Result, Row, Open, Done, is_bad, waits, cuts, severed, drains_done, all_done, Place, may, keep_if, ready, place_of, can_mark, mark, mark_if}
use Rattle.uring_model.specs.Partner.{job_of, cut_of, tail_for, Cursor, held, no_drain, is_nil, is_ready, ready_cursors, has_unmarked, mark_first, mark_first_if, pass, pass_end}
use Rattle.uring_model.specs.Explained.{Numbered}

-- an entry that was taken: held, and marked or not, or gone with what it answered
pub data Line : Type 0 where
  Held : Taken → Bool → Line
  Gone : Taken → Result → Line

abbrev pub rows_of : List Line → List Row
rows_of [] = []
rows_of (Held t m ∷ ls) = Open (job_of t) m ∷ rows_of ls
rows_of (Gone t r ∷ ls) = Done (job_of t) r ∷ rows_of ls

abbrev pub takens : List Line → List Taken
takens [] = []
takens (Held t m ∷ ls) = t ∷ takens ls
takens (Gone t r ∷ ls) = t ∷ takens ls

abbrev pub held_tail : Taken → Option Bool
held_tail t = tail_for (linked (job_of t).link) false

abbrev pub gone_tail : Option Bool → Taken → Result → Option Bool
gone_tail c t r = tail_for (linked (job_of t).link) (cuts (cut_of c) (job_of t) r.result)

-- what the partner holds of the lines; c is the tail before them
abbrev pub view : Option Bool → List Line → List Pending
view c [] = []
view c (Held t m ∷ ls) = record { taken = t; cut = cut_of c; marked = m } ∷ view (held_tail t) ls
view c (Gone t r ∷ ls) = view (gone_tail c t r) ls

abbrev pub tail_after : Option Bool → List Line → Option Bool
tail_after c [] = c
tail_after c (Held t m ∷ ls) = tail_after (held_tail t) ls
tail_after c (Gone t r ∷ ls) = tail_after (gone_tail c t r) ls

-- no line is gone whose predecessor is held
abbrev pub Closed : Bool → List Line → Type 0
Closed w [] = Unit {0}
Closed w (Held t m ∷ ls) = Closed (linked (job_of t).link) ls
Closed w (Gone t r ∷ ls) = (w ≡ false) × Closed false ls

-- joined lists

pub rows-append : (xs ys : List Line) → rows_of (xs ++ ys) ≡ rows_of xs ++ rows_of ys
rows-append [] ys = refl
rows-append (Held t m ∷ xs) ys = ap (λ l. Open (job_of t) m ∷ l) (rows-append xs ys)
rows-append (Gone t r ∷ xs) ys = ap (λ l. Done (job_of t) r ∷ l) (rows-append xs ys)

pub takens-append : (xs ys : List Line) → takens (xs ++ ys) ≡ takens xs ++ takens ys
takens-append [] ys = refl
takens-append (Held t m ∷ xs) ys = ap (λ l. t ∷ l) (takens-append xs ys)
takens-append (Gone t r ∷ xs) ys = ap (λ l. t ∷ l) (takens-append xs ys)

pub view-append : (c : Option Bool) (xs ys : List Line) → view c (xs ++ ys) ≡ view c xs ++ view (tail_after c xs) ys
view-append c [] ys = refl
view-append c (Held t m ∷ xs) ys = ap (λ l. record { taken = t; cut = cut_of c; marked = m } ∷ l) (view-append (held_tail t) xs ys)
view-append c (Gone t r ∷ xs) ys = view-append (gone_tail c t r) xs ys

pub tail_after-append : (c : Option Bool) (xs ys : List Line) → tail_after c (xs ++ ys) ≡ tail_after (tail_after c xs) ys
tail_after-append c [] ys = refl
tail_after-append c (Held t m ∷ xs) ys = tail_after-append (held_tail t) xs ys
tail_after-append c (Gone t r ∷ xs) ys = tail_after-append (gone_tail c t r) xs ys

pub closed_split : (w : Bool) (xs ys : List Line) → Closed w (xs ++ ys) → Closed w xs × Closed (waits w (rows_of xs)) ys
closed_split w [] ys h = (tt, h)
closed_split w (Held t m ∷ xs) ys h = closed_split (linked (job_of t).link) xs ys h
closed_split w (Gone t r ∷ xs) ys h = let p = closed_split false xs ys h.1 in ((h.0, p.0), p.1)

pub closed_join : (w : Bool) (xs ys : List Line) → Closed w xs → Closed (waits w (rows_of xs)) ys → Closed w (xs ++ ys)
closed_join w [] ys h k = k
closed_join w (Held t m ∷ xs) ys h k = closed_join (linked (job_of t).link) xs ys h k
closed_join w (Gone t r ∷ xs) ys h k = (h.0, closed_join false xs ys h.1 k)

pub numbered_split : (n : ℕ) (xs ys : List Taken) → Numbered n (xs ++ ys) → Numbered n xs × Numbered (n + length xs) ys
numbered_split n [] ys h = (tt, subst (λ k. Numbered k ys) (omega arith) h)
numbered_split n (x ∷ xs) ys h = let p = numbered_split (n + 1) xs ys h.1 in ((h.0, p.0), subst (λ k. Numbered k ys) (omega arith) p.1)

pub rows_count : (ls : List Line) → length (rows_of ls) ≡ length (takens ls)
rows_count [] = refl
rows_count (Held t m ∷ ls) = ap suc (rows_count ls)
rows_count (Gone t r ∷ ls) = ap suc (rows_count ls)

-- both views see the same

pub held_waits : (w : Bool) (c : Option Bool) (ls : List Line) → Closed w ls → held w (view c ls) ≡ waits w (rows_of ls)
held_waits w c [] h = refl
held_waits w c (Held t m ∷ ls) h = held_waits (linked (job_of t).link) (held_tail t) ls h
held_waits w c (Gone t r ∷ ls) h = ap (λ x. held x (view (gone_tail c t r) ls)) h.0 ∙ held_waits false (gone_tail c t r) ls h.1

pub drain_same : (c : Option Bool) (ls : List Line) → no_drain (view c ls) ≡ drains_done (rows_of ls)
drain_same c [] = refl
drain_same c (Held t m ∷ ls) = ap (λ b. not (job_of t).drain && b) (drain_same (held_tail t) ls)
drain_same c (Gone t r ∷ ls) = drain_same (gone_tail c t r) ls

pub nil_done : (c : Option Bool) (ls : List Line) → is_nil (view c ls) ≡ all_done (rows_of ls)
nil_done c [] = refl
nil_done c (Held t m ∷ ls) = refl
nil_done c (Gone t r ∷ ls) = nil_done (gone_tail c t r) ls

pub ready_may : (ls : List Line) (t : Taken) (c m : Bool) → Closed false ls → is_ready (view None ls) (record { taken = t; cut = c; marked = m }) ≡ may (rows_of ls) (job_of t)
ready_may ls t c m h = λ i. not (held_waits false None ls h i) && drain_same None ls i && (not (job_of t).drain || nil_done None ls i)

held_uncut : (b s : Bool) → b ≡ false → cut_of (tail_for b false) ≡ (b && s)
held_uncut false s e = refl
held_uncut true s e = cc

tail_cut : (b s : Bool) → cut_of (tail_for b (b && s)) ≡ (b && s)
tail_cut false s = refl
tail_cut true s = refl

pub cut_severed : (w : Bool) (c : Option Bool) (s : Bool) (ls : List Line) → Closed w ls → (w ≡ false → cut_of c ≡ s) → waits w (rows_of ls) ≡ false → cut_of (tail_after c ls) ≡ severed s (rows_of ls)
cut_severed w c s [] h e k = e k
cut_severed w c s (Held t m ∷ ls) h e k = cut_severed (linked (job_of t).link) (held_tail t) (linked (job_of t).link && s) ls h (held_uncut (linked (job_of t).link) s) k
cut_severed w c s (Gone t r ∷ ls) h e k = cut_severed false (gone_tail c t r) (cuts s (job_of t) r.result) ls h.1
    (λ q. tail_cut (linked (job_of t).link) (cut_of c || (is_soft (job_of t).link && is_bad (job_of t) r.result)) ∙ ap (λ b. cuts b (job_of t) r.result) (e h.0)) k

-- a settled line passes its cut on
pub passed : (b s : Bool) (ms : List Line) → Closed b ms → view (tail_for b (b && s)) ms ≡ pass b (b && s) (view (tail_for b false) ms)
passed false s ms h = refl
passed true s [] h = refl
passed true s (Held t m ∷ ms) h = refl
passed true s (Gone t r ∷ ms) h = cc

pub passed_end : (b s : Bool) (ms : List Line) → Closed b ms → tail_after (tail_for b (b && s)) ms ≡ pass_end b (b && s) (view (tail_for b false) ms) (tail_after (tail_for b false) ms)
passed_end false s ms h = refl
passed_end true s [] h = refl
passed_end true s (Held t m ∷ ms) h = refl
passed_end true s (Gone t r ∷ ms) h = cc

pub closed_again : (b : Bool) (ms : List Line) → Closed b ms → Closed false ms
closed_again b [] h = tt
closed_again b (Held t m ∷ ms) h = h
closed_again b (Gone t r ∷ ms) h = (refl, h.1)

-- the ready entries are the jobs that may settle

pub record Found (all : List Line) (p : Place) (c : Cursor) : Type 0 where
  pub before : List Line
  pub taken : Taken
  pub marked : Bool
  pub after : List Line
  pub whole : all ≡ before ++ Held taken marked ∷ after
  pub place : p ≡ record { before = rows_of before; job = job_of taken; marked = marked; after = rows_of after }
  pub cursor : c ≡ record { front = view None before; item = record { taken = taken; cut = cut_of (tail_after None before); marked = marked }; back = view (held_tail taken) after }
  pub may : may (rows_of before) (job_of taken) ≡ true

abbrev pub Both : List Line → List Place → List Cursor → Type 0
Both all [] [] = Unit {0}
Both all (p ∷ ps) (c ∷ cs) = Found all p c × Both all ps cs
Both all [] (c ∷ cs) = ⊥
Both all (p ∷ ps) [] = ⊥

both_keep : (all : List Line) (b d : Bool) (p : Place) (c : Cursor) (ps : List Place) (cs : List Cursor) → d ≡ b → (b ≡ true → Found all p c) → Both all ps cs → Both all (keep_if b p ps) (keep_if d c cs)
both_keep all true d p c ps cs e f h = subst (λ x. Both all (p ∷ ps) (keep_if x c cs)) (sym e) (f refl, h)
both_keep all false d p c ps cs e f h = subst (λ x. Both all ps (keep_if x c cs)) (sym e) h

moved_rows : (all : List Line) (x y : List Row) (u v : List Pending) (c d : Option Bool) (rows : List Row) (ls : List Line) → x ≡ y → u ≡ v → c ≡ d → Both all (ready x rows) (ready_cursors u (view c ls)) → Both all (ready y rows) (ready_cursors v (view d ls))
moved_rows all x y u v c d rows ls p q r h =
    subst (λ k. Both all (ready y rows) (ready_cursors v (view k ls))) r
    (subst (λ k. Both all (ready y rows) (ready_cursors k (view c ls))) q
    (subst (λ k. Both all (ready k rows) (ready_cursors u (view c ls))) p h))

pub matched : (all done lines : List Line) → all ≡ done ++ lines → Closed false all → Both all (ready (rows_of done) (rows_of lines)) (ready_cursors (view None done) (view (tail_after None done) lines))
matched all done [] e h = tt
matched all done (Held t m ∷ ls) e h =
    let one : List Line = Held t m ∷ [] in
    let rec = matched all (done ++ one) ls (e ∙ sym (append_assoc done one ls)) h in
    let closed : Closed false done = (closed_split false done (Held t m ∷ ls) (subst (Closed false) e h)).0 in
    both_keep all (may (rows_of done) (job_of t)) (is_ready (view None done) (record { taken = t; cut = cut_of (tail_after None done); marked = m })) _ _ _ _
    (ready_may done t (cut_of (tail_after None done)) m closed)
    (λ q. record { before = done; taken = t; marked = m; after = ls; whole = e; place = refl; cursor = refl; may = q })
    (moved_rows all _ _ _ _ _ _ (rows_of ls) ls (rows-append done one) (view-append None done one) (tail_after-append None done one) rec)
matched all done (Gone t r ∷ ls) e h =
    let one : List Line = Gone t r ∷ [] in
    let rec = matched all (done ++ one) ls (e ∙ sym (append_assoc done one ls)) h in
    moved_rows all _ _ _ _ _ _ (rows_of ls) ls (rows-append done one) (view-append None done one ∙ append-nil (view None done)) (tail_after-append None done one) rec

pub both_count : (all : List Line) (ps : List Place) (cs : List Cursor) → Both all ps cs → length ps ≡ length cs
both_count all [] [] h = refl
both_count all (p ∷ ps) (c ∷ cs) h = ap suc (both_count all ps cs h.1)
both_count all [] (c ∷ cs) h = absurd h
both_count all (p ∷ ps) [] h = absurd h

pub both_pick : (all : List Line) (ps : List Place) (cs : List Cursor) (k : ℕ) (c : Cursor) → Both all ps cs → slice_get cs k ≡ Some c → (p : Place) × (slice_get ps k ≡ Some p) × Found all p c
both_pick all [] [] k c h e = absurd (cc)
both_pick all (p ∷ ps) (d ∷ cs) zero c h e = (p, refl, subst (Found all p) (same_Some d c e) h.0)
both_pick all (p ∷ ps) (d ∷ cs) (suc k) c h e = both_pick all ps cs k c h.1 e
both_pick all [] (d ∷ cs) k c h e = absurd h
both_pick all (p ∷ ps) [] k c h e = absurd h

-- the place of a number
pub place_at : (b xs ys : List Row) (job : Job) (m : Bool) (j : ℕ) → j ≡ length xs → place_of b (xs ++ Open job m ∷ ys) j ≡ Some (record { before = b ++ xs; job = job; marked = m; after = ys })
place_at b [] ys job m zero e = ap (λ l. Some (record { before = l; job = job; marked = m; after = ys })) (sym (append-nil b))
place_at b [] ys job m (suc j) e = absurd (omega arith)
place_at b (x ∷ xs) ys job m zero e = absurd (omega arith)
place_at b (Open k n ∷ xs) ys job m (suc j) e = place_at (b ++ Open k n ∷ []) xs ys job m j (omega arith) ∙ ap (λ l. Some (record { before = l; job = job; marked = m; after = ys })) (append_assoc b (Open k n ∷ []) xs)
place_at b (Done k r ∷ xs) ys job m (suc j) e = place_at (b ++ Done k r ∷ []) xs ys job m j (omega arith) ∙ ap (λ l. Some (record { before = l; job = job; marked = m; after = ys })) (append_assoc b (Done k r ∷ []) xs)

-- marks

pub has_can : (k n : ℕ) (c : Option Bool) (ls : List Line) → Numbered n (takens ls) → has_unmarked k (view c ls) ≡ can_mark k n (rows_of ls)
has_can k n c [] h = refl
has_can k n c (Held t m ∷ ls) h = λ i. (nat_eq (h.0 i) k && not m) || has_can k (n + 1) (held_tail t) ls h.1 i
has_can k n c (Gone t r ∷ ls) h = has_can k (n + 1) (gone_tail c t r) ls h.1

abbrev pub mark_lines : ℕ → ℕ → List Line → List Line
mark_lines k n [] = []
mark_lines k n (Held t m ∷ ls) = Held t (m || nat_eq n k) ∷ mark_lines k (n + 1) ls
mark_lines k n (Gone t r ∷ ls) = Gone t r ∷ mark_lines k (n + 1) ls

or_false : (m b : Bool) → b ≡ false → (m || b) ≡ m
or_false true b e = refl
or_false false b e = e

lines_past : (k n : ℕ) (ls : List Line) → k < n → mark_lines k n ls ≡ ls
lines_past k n [] h = refl
lines_past k n (Held t m ∷ ls) h =
    let no : nat_eq n k ≡ false = grind (arith, nat_tests) in
    λ i. Held t (or_false m (nat_eq n k) no i) ∷ lines_past k (n + 1) ls (omega arith) i
lines_past k n (Gone t r ∷ ls) h = ap (λ l. Gone t r ∷ l) (lines_past k (n + 1) ls (omega arith))

first_misses : (k : ℕ) (i : Pending) (is : List Pending) → nat_eq i.taken.entry.user_data k ≡ false → mark_first k (i ∷ is) ≡ i ∷ mark_first k is
first_misses k i is e = rw e refl

first_past : (k n : ℕ) (c : Option Bool) (ls : List Line) → Numbered n (takens ls) → k < n → mark_first k (view c ls) ≡ view c ls
first_past k n c [] h p = refl
first_past k n c (Held t m ∷ ls) h p =
    let no : nat_eq t.entry.user_data k ≡ false = ap (λ x. nat_eq x k) h.0 ∙ grind (arith, nat_tests) in
    first_misses k (record { taken = t; cut = cut_of c; marked = m }) (view (held_tail t) ls) no ∙ ap (λ l. record { taken = t; cut = cut_of c; marked = m } ∷ l) (first_past k (n + 1) (held_tail t) ls h.1 (omega arith))
first_past k n c (Gone t r ∷ ls) h p = first_past k (n + 1) (gone_tail c t r) ls h.1 (omega arith)

mark_here : (k n : ℕ) (b : Bool) (t : Taken) (c m : Bool) (xs ys : List Pending) → (nat_eq t.entry.user_data k ≡ b) → (b ≡ true → xs ≡ ys) → (b ≡ true → mark_first k ys ≡ ys) → (b ≡ false → xs ≡ mark_first k ys) → record { taken = t; cut = c; marked = m || b } ∷ xs ≡ mark_first k (record { taken = t; cut = c; marked = m } ∷ ys)
mark_here k n true t c false xs ys e p q r = rw e (ap (λ l. record { taken = t; cut = c; marked = true } ∷ l) (p refl))
mark_here k n true t c true xs ys e p q r = rw e (ap (λ l. record { taken = t; cut = c; marked = true } ∷ l) (p refl ∙ sym (q refl)))
mark_here k n false t c false xs ys e p q r = rw e (ap (λ l. record { taken = t; cut = c; marked = false } ∷ l) (r refl))
mark_here k n false t c true xs ys e p q r = rw e (ap (λ l. record { taken = t; cut = c; marked = true } ∷ l) (r refl))

nat_eq_same : (n k : ℕ) → nat_eq n k ≡ true → n ≡ k
nat_eq_same n k e = grind (arith, nat_tests)

pub view_marked : (k n : ℕ) (c : Option Bool) (ls : List Line) → Numbered n (takens ls) → view c (mark_lines k n ls) ≡ mark_first k (view c ls)
view_marked k n c [] h = refl
view_marked k n c (Held t m ∷ ls) h =
    mark_here k n (nat_eq n k) t (cut_of c) m (view (held_tail t) (mark_lines k (n + 1) ls)) (view (held_tail t) ls) (ap (λ x. nat_eq x k) h.0)
    (λ e. let s : n ≡ k = nat_eq_same n k e in ap (view (held_tail t)) (lines_past k (n + 1) ls (omega arith)))
    (λ e. let s : n ≡ k = nat_eq_same n k e in first_past k (n + 1) (held_tail t) ls h.1 (omega arith))
    (λ e. view_marked k (n + 1) (held_tail t) ls h.1)
view_marked k n c (Gone t r ∷ ls) h = view_marked k (n + 1) (gone_tail c t r) ls h.1

rows_marked : (k n : ℕ) (ls : List Line) → rows_of (mark_lines k n ls) ≡ mark k n (rows_of ls)
rows_marked k n [] = refl
rows_marked k n (Held t m ∷ ls) = ap (λ l. Open (job_of t) (m || nat_eq n k) ∷ l) (rows_marked k (n + 1) ls)
rows_marked k n (Gone t r ∷ ls) = ap (λ l. Done (job_of t) r ∷ l) (rows_marked k (n + 1) ls)

end_marked : (k n : ℕ) (c : Option Bool) (ls : List Line) → tail_after c (mark_lines k n ls) ≡ tail_after c ls
end_marked k n c [] = refl
end_marked k n c (Held t m ∷ ls) = end_marked k (n + 1) (held_tail t) ls
end_marked k n c (Gone t r ∷ ls) = end_marked k (n + 1) (gone_tail c t r) ls

takens_marked : (k n : ℕ) (ls : List Line) → takens (mark_lines k n ls) ≡ takens ls
takens_marked k n [] = refl
takens_marked k n (Held t m ∷ ls) = ap (λ l. t ∷ l) (takens_marked k (n + 1) ls)
takens_marked k n (Gone t r ∷ ls) = ap (λ l. t ∷ l) (takens_marked k (n + 1) ls)

closed_marked : (k n : ℕ) (w : Bool) (ls : List Line) → Closed w ls → Closed w (mark_lines k n ls)
closed_marked k n w [] h = tt
closed_marked k n w (Held t m ∷ ls) h = closed_marked k (n + 1) (linked (job_of t).link) ls h
closed_marked k n w (Gone t r ∷ ls) h = (h.0, closed_marked k (n + 1) false ls h.1)

-- the lines after a settling's mark, if it makes one
pub record Marked (o : Option ℕ) (ls : List Line) : Type 0 where
  pub lines : List Line
  pub rows : rows_of lines ≡ mark_if o (rows_of ls)
  pub view : view None lines ≡ mark_first_if o (view None ls)
  pub tail : tail_after None lines ≡ tail_after None ls
  pub takens : takens lines ≡ takens ls
  pub closed : Closed false lines

pub marked_lines : (o : Option ℕ) (ls : List Line) → Numbered 0 (takens ls) → Closed false ls → Marked o ls
marked_lines None ls h k = record { lines = ls; rows = refl; view = refl; tail = refl; takens = refl; closed = k }
marked_lines (Some j) ls h k = record {
  lines = mark_lines j 0 ls;
  rows = rows_marked j 0 ls;
  view = view_marked j 0 None ls h;
  tail = end_marked j 0 None ls;
  takens = takens_marked j 0 ls;
  closed = closed_marked j 0 false ls k;
}

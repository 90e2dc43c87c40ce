-- The tests of the replay, in words.
use Rattle.std.specs.Prelude.{◌≡◌, ℕ, ◌+◌, ◌<◌, ◌≤◌, zero, suc, Bool, true, false, ◌&&◌, ◌||◌, not, List, [], ◌∷◌, ◌++◌, length, Some, slice_get, refl, ◌⊎◌, ◌↔◌}
use Rattle.std.specs.List.{AllByRecursion}
use Rattle.std.proofs.lemmas.List.Elements.{All-from_recursion, recursion_from_All}
use Rattle.std.proofs.lemmas.Option.{same_Some}
use Rattle.std.proofs.Common.{ap, sym, subst, ◌∙◌, append_assoc, append-nil, arith, length-append, inl, inr}
use Rattle.uring_model.specs.declared.jobs.Link.{Link}
use Rattle.uring_model.specs.declared.jobs.Link.TheVariants.{Free, Soft, Hard}
use Rattle.uring_model.specs.Jobs.{Job, linked, is_soft}
use Rattle.uring_model.specs.Replay.{Row, Open, Done, is_bad, waits, cuts, severed, drains_done, all_done, Place, may, keep_if, ready}
use Rattle.uring_model.specs.Words.{MaySettle, IsLinkedRow, Severs, ListsReady}

false_true : false ≡ true → ⊥
false_true e = cc

and_parts : (b c : Bool) → (b && c) ≡ true → (b ≡ true) × (c ≡ true)
and_parts true c e = (refl, e)
and_parts false c e = cc

not_true : (b : Bool) → not b ≡ true → b ≡ false
not_true true e = cc
not_true false e = refl

if_drained : (d a : Bool) → (not d || a) ≡ true → d ≡ true → a ≡ true
if_drained true a e h = e
if_drained false a e h = cc

kept_or : {A : Type 0} (b : Bool) (x : A) (xs : List A) (k : ℕ) (c : A) (P : A → Type 0) → slice_get (keep_if b x xs) k ≡ Some c → (b ≡ true → P x) → ((n : ℕ) → slice_get xs n ≡ Some c → P c) → P c
kept_or true x xs zero c P e p f = subst P (same_Some x c e) (p refl)
kept_or true x xs (suc k) c P e p f = f k e
kept_or false x xs k c P e p f = f k e

later : {A : Type 0} (b : Bool) (x : A) (xs : List A) (k : ℕ) → (n : ℕ) × (slice_get (keep_if b x xs) n ≡ slice_get xs k)
later true x xs k = (suc k, refl)
later false x xs k = (k, refl)

waits_last : (w : Bool) (xs : List Row) (k : Job) (m : Bool) → waits w (xs ++ Open k m ∷ []) ≡ linked k.link
waits_last w [] k m = refl
waits_last w (Open j n ∷ xs) k m = waits_last (linked j.link) xs k m
waits_last w (Done j r ∷ xs) k m = waits_last false xs k m

pub record Hangs (rows : List Row) : Type 0 where
  pub lower : List Row
  pub job : Job
  pub marked : Bool
  pub split : rows ≡ lower ++ Open job marked ∷ []
  pub link : linked job.link ≡ true

one_more : (row : Row) (rows : List Row) → Hangs rows → Hangs (row ∷ rows)
one_more row rows h = record { lower = row ∷ h.lower; job = h.job; marked = h.marked; split = ap (λ l. row ∷ l) h.split; link = h.link }

waits_why : (w : Bool) (rows : List Row) → waits w rows ≡ true → ((w ≡ true) × (rows ≡ [])) ⊎ Hangs rows
waits_why w [] e = inl (e, refl)
waits_why w (Open k m ∷ rows) e = elim (waits_why (linked k.link) rows e) [
  | inl p ↦ inr (record { lower = []; job = k; marked = m; split = ap (λ l. Open k m ∷ l) p.1; link = p.0 })
  | inr h ↦ inr (one_more (Open k m) rows h)
]
waits_why w (Done k r ∷ rows) e = elim (waits_why false rows e) [
  | inl p ↦ absurd (false_true p.0)
  | inr h ↦ inr (one_more (Done k r) rows h)
]

drains_known : (rows : List Row) → drains_done rows ≡ true → (i : ℕ) (k : Job) (m : Bool) → slice_get rows i ≡ Some (Open k m) → k.drain ≡ false
drains_known [] h i k m e = absurd (cc)
drains_known (Open j n ∷ rows) h zero k m e =
    let s : Open j n ≡ Open k m = same_Some (Open j n) (Open k m) e in
    let t : j ≡ k = cc in
    ap (λ x. x.drain) (sym t) ∙ not_true j.drain (and_parts (not j.drain) (drains_done rows) h).0
drains_known (Open j n ∷ rows) h (suc i) k m e = drains_known rows (and_parts (not j.drain) (drains_done rows) h).1 i k m e
drains_known (Done j r ∷ rows) h zero k m e = let s : Done j r ≡ Open k m = same_Some (Done j r) (Open k m) e in cc
drains_known (Done j r ∷ rows) h (suc i) k m e = drains_known rows h i k m e

drains_shown : (rows : List Row) → ((i : ℕ) (k : Job) (m : Bool) → slice_get rows i ≡ Some (Open k m) → k.drain ≡ false) → drains_done rows ≡ true
drains_shown [] h = refl
drains_shown (Open j n ∷ rows) h = let d : j.drain ≡ false = h 0 j n refl in rw (d, drains_shown rows (λ i k m e. h (suc i) k m e)) refl
drains_shown (Done j r ∷ rows) h = drains_shown rows (λ i k m e. h (suc i) k m e)

done_known : (rows : List Row) → all_done rows ≡ true → (i : ℕ) (k : Job) (m : Bool) → slice_get rows i ≡ Some (Open k m) → ⊥
done_known [] h i k m e = cc
done_known (Open j n ∷ rows) h i k m e = cc
done_known (Done j r ∷ rows) h zero k m e = let s : Done j r ≡ Open k m = same_Some (Done j r) (Open k m) e in cc
done_known (Done j r ∷ rows) h (suc i) k m e = done_known rows h i k m e

done_shown : (rows : List Row) → ((i : ℕ) (k : Job) (m : Bool) → slice_get rows i ≡ Some (Open k m) → ⊥) → all_done rows ≡ true
done_shown [] h = refl
done_shown (Open j n ∷ rows) h = absurd (h 0 j n refl)
done_shown (Done j r ∷ rows) h = done_shown rows (λ i k m e. h (suc i) k m e)

no_wait : (before : List Row) (w : Bool) (job : Job) → waits false before ≡ w → MaySettle before job → w ≡ false
no_wait before false job e h = refl
no_wait before true job e h = elim (waits_why false before e) [
  | inl p ↦ absurd (false_true p.0)
  | inr q ↦ sym q.link ∙ h.predecessor q.lower q.job q.marked q.split
]

drained_case : (d : Bool) (before : List Row) (job : Job) → job.drain ≡ d → MaySettle before job → (not d || all_done before) ≡ true
drained_case true before job e h = done_shown before (h.alone e)
drained_case false before job e h = refl

pub may_says : (before : List Row) (job : Job) → may before job ≡ true → MaySettle before job
may_says before job h =
    let p = and_parts (not (waits false before) && drains_done before) (not job.drain || all_done before) h in
    let q = and_parts (not (waits false before)) (drains_done before) p.0 in
    record {
      predecessor = λ lower k m e. sym (waits_last false lower k m) ∙ ap (waits false) (sym e) ∙ not_true (waits false before) q.0;
      drained = drains_known before q.1;
      alone = λ d. done_known before (if_drained job.drain (all_done before) p.1 d);
    }

pub says_may : (before : List Row) (job : Job) → MaySettle before job → may before job ≡ true
says_may before job h =
    let w : waits false before ≡ false = no_wait before (waits false before) job refl h in
    let d : drains_done before ≡ true = drains_shown before h.drained in
    rw (w, d) (drained_case job.drain before job refl h)

-- The k-th of the ready is an open row that may settle, and each such row is among them.

pub ready_sound : (before rows : List Row) (k : ℕ) (p : Place) → slice_get (ready before rows) k ≡ Some p → (p.before ++ Open p.job p.marked ∷ p.after ≡ before ++ rows) × (may p.before p.job ≡ true)
ready_sound before [] k p e = absurd (cc)
ready_sound before (Open job m ∷ rows) k p e =
    kept_or (may before job) (record { before = before; job = job; marked = m; after = rows }) (ready (before ++ Open job m ∷ []) rows) k p
    (λ q. (q.before ++ Open q.job q.marked ∷ q.after ≡ before ++ (Open job m ∷ rows)) × (may q.before q.job ≡ true)) e
    (λ t. (refl, t))
    (λ n q. let r = ready_sound (before ++ Open job m ∷ []) rows n p q in (r.0 ∙ append_assoc before (Open job m ∷ []) rows, r.1))
ready_sound before (Done job o ∷ rows) k p e = let r = ready_sound (before ++ Done job o ∷ []) rows k p e in (r.0 ∙ append_assoc before (Done job o ∷ []) rows, r.1)

pub ready_complete : (before xs ys : List Row) (job : Job) (m : Bool) → may (before ++ xs) job ≡ true → (k : ℕ) × (slice_get (ready before (xs ++ Open job m ∷ ys)) k ≡ Some (record { before = before ++ xs; job = job; marked = m; after = ys }))
ready_complete before [] ys job m h =
    let g : may before job ≡ true = ap (λ l. may l job) (sym (append-nil before)) ∙ h in
    (0, ap (λ b. slice_get (keep_if b (record { before = before; job = job; marked = m; after = ys }) (ready (before ++ Open job m ∷ []) ys)) 0) g ∙ ap (λ l. Some (record { before = l; job = job; marked = m; after = ys })) (sym (append-nil before)))
ready_complete before (Open j n ∷ xs) ys job m h =
    let a : (before ++ Open j n ∷ []) ++ xs ≡ before ++ (Open j n ∷ xs) = append_assoc before (Open j n ∷ []) xs in
    let r = ready_complete (before ++ Open j n ∷ []) xs ys job m (ap (λ l. may l job) a ∙ h) in
    let s = later (may before j) (record { before = before; job = j; marked = n; after = xs ++ Open job m ∷ ys }) (ready (before ++ Open j n ∷ []) (xs ++ Open job m ∷ ys)) r.0 in
    (s.0, s.1 ∙ r.1 ∙ ap (λ l. Some (record { before = l; job = job; marked = m; after = ys })) a)
ready_complete before (Done j o ∷ xs) ys job m h =
    let a : (before ++ Done j o ∷ []) ++ xs ≡ before ++ (Done j o ∷ xs) = append_assoc before (Done j o ∷ []) xs in
    let r = ready_complete (before ++ Done j o ∷ []) xs ys job m (ap (λ l. may l job) a ∙ h) in
    (r.0, r.1 ∙ ap (λ l. Some (record { before = l; job = job; marked = m; after = ys })) a)

-- severed

abbrev AllLinked : List Row → Type 0
AllLinked rows = AllByRecursion IsLinkedRow rows

severed-append : (s : Bool) (xs ys : List Row) → severed s (xs ++ ys) ≡ severed (severed s xs) ys
severed-append s [] ys = refl
severed-append s (Open job m ∷ xs) ys = severed-append (linked job.link && s) xs ys
severed-append s (Done job r ∷ xs) ys = severed-append (cuts s job r.result) xs ys

soft_linked : (l : Link) → is_soft l ≡ true → linked l ≡ true
soft_linked Free e = cc
soft_linked Soft e = refl
soft_linked Hard e = refl

stays : (s : Bool) (rows : List Row) → s ≡ true → AllLinked rows → severed s rows ≡ true
stays s [] e h = e
stays s (Open job m ∷ rows) e h = stays (linked job.link && s) rows (rw (h.0, e) refl) h.1
stays s (Done job r ∷ rows) e h = stays (cuts s job r.result) rows (rw (h.0, e) refl) h.1

or_true : (s : Bool) → (s || true) ≡ true
or_true true = refl
or_true false = refl

pub severs_severed : (before : List Row) → Severs before → severed false before ≡ true
severs_severed before h =
    let cut : (linked h.job.link && (severed false h.lower || (is_soft h.job.link && is_bad h.job h.outcome.result))) ≡ true = rw (soft_linked h.job.link h.soft, h.soft, h.bad) (or_true (severed false h.lower)) in
    ap (severed false) h.split ∙ severed-append false h.lower (Done h.job h.outcome ∷ h.upper) ∙ stays _ h.upper cut (recursion_from_All IsLinkedRow h.upper h.joined)

-- the other way, from any start: either the start goes through, or a job in the rows cuts
abbrev pub Cause : Bool → List Row → Type 0
Cause s rows = ((s ≡ true) × AllLinked rows) ⊎ Severs rows

behind : (row : Row) (rows : List Row) → Severs rows → Severs (row ∷ rows)
behind row rows h = record { lower = row ∷ h.lower; job = h.job; outcome = h.outcome; upper = h.upper; split = ap (λ l. row ∷ l) h.split; soft = h.soft; bad = h.bad; joined = h.joined }

or_parts : (b c : Bool) → (b || c) ≡ true → (b ≡ true) ⊎ (c ≡ true)
or_parts true c e = inl refl
or_parts false c e = inr e

pub severed_cause : (s : Bool) (rows : List Row) → severed s rows ≡ true → Cause s rows
severed_cause s [] e = inl (e, tt)
severed_cause s (Open job m ∷ rows) e =
    elim (severed_cause (linked job.link && s) rows e) [
      | inl p ↦ let q = and_parts (linked job.link) s p.0 in inl (q.1, (q.0, p.1))
      | inr p ↦ inr (behind (Open job m) rows p)
    ]
severed_cause s (Done job r ∷ rows) e =
    elim (severed_cause (cuts s job r.result) rows e) [
      | inl p ↦ let q = and_parts (linked job.link) (s || (is_soft job.link && is_bad job r.result)) p.0 in
          elim (or_parts s (is_soft job.link && is_bad job r.result) q.1) [
            | inl u ↦ inl (u, (q.0, p.1))
            | inr u ↦ let v = and_parts (is_soft job.link) (is_bad job r.result) u in inr (record { lower = []; job = job; outcome = r; upper = rows; split = refl; soft = v.0; bad = v.1; joined = All-from_recursion IsLinkedRow rows p.1 })
          ]
      | inr p ↦ inr (behind (Done job r) rows p)
    ]

pub severed_severs : (before : List Row) → severed false before ≡ true → Severs before
severed_severs before e = elim (severed_cause false before e) [ inl p ↦ absurd (cc) | inr p ↦ p ]

-- the three laws

pub may_words : (before : List Row) (job : Job) → (may before job ≡ true) ↔ MaySettle before job
may_words before job = (may_says before job, says_may before job)

pub severed_words : (before : List Row) → (severed false before ≡ true) ↔ Severs before
severed_words before = (severed_severs before, severs_severed before)

abbrev Rises : List Place → Type 0
Rises ps = (i k : ℕ) (p q : Place) → i < k → slice_get ps i ≡ Some p → slice_get ps k ≡ Some q → length p.before < length q.before

rises_first : (b : Bool) (x : Place) (xs : List Place) → ((n : ℕ) (q : Place) → slice_get xs n ≡ Some q → length x.before < length q.before) → Rises xs → Rises (keep_if b x xs)
rises_first true x xs f h zero zero p q l d e = absurd (omega arith)
rises_first true x xs f h zero (suc k) p q l d e = subst (λ y. length y.before < length q.before) (same_Some x p d) (f k q e)
rises_first true x xs f h (suc i) zero p q l d e = absurd (omega arith)
rises_first true x xs f h (suc i) (suc k) p q l d e = h i k p q (omega arith) d e
rises_first false x xs f h i k p q l d e = h i k p q l d e

one_longer : (before : List Row) (row : Row) → length (before ++ row ∷ []) ≡ length before + 1
one_longer before row = length-append before (row ∷ [])

at_least : (before rows : List Row) (n : ℕ) (q : Place) → slice_get (ready before rows) n ≡ Some q → length before ≤ length q.before
at_least before [] n q e = absurd (cc)
at_least before (Open job m ∷ rows) n q e =
    kept_or (may before job) (record { before = before; job = job; marked = m; after = rows }) (ready (before ++ Open job m ∷ []) rows) n q
    (λ p. length before ≤ length p.before) e
    (λ t. omega arith)
    (λ k p. omega (arith, at_least (before ++ Open job m ∷ []) rows k q p, one_longer before (Open job m)))
at_least before (Done job o ∷ rows) n q e = omega (arith, at_least (before ++ Done job o ∷ []) rows n q e, one_longer before (Done job o))

ready_rises : (before rows : List Row) → Rises (ready before rows)
ready_rises before [] = λ i k p q l d e. absurd (cc)
ready_rises before (Open job m ∷ rows) =
    rises_first (may before job) (record { before = before; job = job; marked = m; after = rows }) (ready (before ++ Open job m ∷ []) rows)
    (λ n q e. omega (arith, at_least (before ++ Open job m ∷ []) rows n q e, one_longer before (Open job m)))
    (ready_rises (before ++ Open job m ∷ []) rows)
ready_rises before (Done job o ∷ rows) = ready_rises (before ++ Done job o ∷ []) rows

pub ready_words : (rows : List Row) → ListsReady rows (ready [] rows)
ready_words rows = record {
  only = λ k p e. let r = ready_sound [] rows k p e in (sym r.0, may_says p.before p.job r.1);
  each = λ p e h. let r = ready_complete [] p.before p.after p.job p.marked (says_may p.before p.job h) in (r.0, ap (λ l. slice_get (ready [] l) r.0) e ∙ r.1);
  rise = ready_rises [] rows;
}

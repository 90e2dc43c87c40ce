-- What completions say alone, apart from the moves between them.
use Rattle.std.proofs.Common.{◌≡◌, ℕ, ◌+◌, ◌<◌, ◌≤◌, Bool, true, false, ◌&&◌, ◌||◌, not, cond, if◌then◌else◌, nat_lt, nat_eq, List, [], ◌∷◌, ◌++◌, length, map, drop, Option, Some, None, refl, ap, ◌∙◌, arith}
use Rattle.std.specs.List.{AllByRecursion, list_any}
use Rattle.std.proofs.lemmas.List.{map-append}
use Rattle.std.proofs.lemmas.Bool.Decides.{nat_tests}
use Rattle.uring_base.specs.declared.events.Taken.{Taken}
use Rattle.uring_base.specs.declared.events.Completion.{Completion}
use Rattle.uring_base.specs.declared.events.LogEvent.{LogEvent}
use Rattle.uring_base.specs.declared.events.LogEvent.TheVariants as logs
use Rattle.uring_base.specs.Completions.{is_final}
use Rattle.uring_model.specs.Moves.{Move, Turned, Took, Posted, Quieted, posted, logged, log_of}
use Rattle.uring_model.specs.Explained.{Numbered}
use Rattle.uring_model.specs.Strange.{Seen, nothing_seen, seen_after, all_seen, ended_in, answered_from, is_answered, has_other_number, has_wrong_loan, is_strange, first_strange}
use Rattle.ring_traits.specs.Lists.{IsKept}

-- what a ring keeps of completions says the same

pub kept_log : (kept : Completion → Completion) → ((c : Completion) → IsKept c (kept c)) → (cs : List Completion) → log_of (map Posted (map kept cs)) ≡ log_of (map Posted cs)
kept_log kept keeps [] = refl
kept_log kept keeps (c ∷ cs) =
    let first : logged (Posted (kept c)) ≡ logged (Posted c) = ap (λ x. logged (Posted x)) (keeps c) in
    ap (λ e. e ∷ log_of (map Posted (map kept cs))) first ∙ ap (λ l. logged (Posted c) ∷ l) (kept_log kept keeps cs)

pub posts_log-append : (cs ds : List Completion) → log_of (map Posted (cs ++ ds)) ≡ log_of (map Posted cs) ++ log_of (map Posted ds)
posts_log-append cs ds = ap log_of (map-append Posted cs ds) ∙ map-append logged (map Posted cs) (map Posted ds)

-- which jobs ended

-- it is the posts alone that say it
pub ended_posts : (seen now : Seen) (ms : List Move) → seen.ended ≡ now.ended → (all_seen seen (log_of ms)).ended ≡ (all_seen now (log_of (map Posted (posted ms)))).ended
ended_posts seen now [] e = e
ended_posts seen now (Turned p ∷ ms) e = ended_posts (record seen { started = seen.taken + p }) now ms e
ended_posts seen now (Took t ∷ ms) e = ended_posts (record seen { taken = seen.taken + 1 }) now ms e
ended_posts seen now (Posted c ∷ ms) e =
    ended_posts (record seen { ended = cond (is_final c.flags) (c.user_data ∷ seen.ended) seen.ended }) (record now { ended = cond (is_final c.flags) (c.user_data ∷ now.ended) now.ended }) ms (ap (λ l. cond (is_final c.flags) (c.user_data ∷ l) l) e)
ended_posts seen now (Quieted n ∷ ms) e = ended_posts seen now ms e

pub seen-append : (seen : Seen) (xs ys : List LogEvent) → all_seen seen (xs ++ ys) ≡ all_seen (all_seen seen xs) ys
seen-append seen [] ys = refl
seen-append seen (x ∷ xs) ys = seen-append (seen_after seen x) xs ys

abbrev HasEnded : ℕ → Seen → Type 0
HasEnded k seen = list_any (nat_eq k) seen.ended ≡ true

ended_more : (k : ℕ) (fin : Bool) (u : ℕ) (ended : List ℕ) → list_any (nat_eq k) ended ≡ true → list_any (nat_eq k) (cond fin (u ∷ ended) ended) ≡ true
ended_more k true u ended h = later (nat_eq k u) (list_any (nat_eq k) ended) h
  where
    later : (b c : Bool) → c ≡ true → (b || c) ≡ true
    later true c e = refl
    later false c e = e
ended_more k false u ended h = h

-- what ended stays so
stays_ended : (k : ℕ) (seen : Seen) (log : List LogEvent) → HasEnded k seen → HasEnded k (all_seen seen log)
stays_ended k seen [] h = h
stays_ended k seen (logs.Turn p ∷ log) h = stays_ended k (record seen { started = seen.taken + p }) log h
stays_ended k seen (logs.Take job entry ∷ log) h = stays_ended k (record seen { taken = seen.taken + 1 }) log h
stays_ended k seen (logs.Post job result fin loan ∷ log) h = stays_ended k (record seen { ended = cond fin (job ∷ seen.ended) seen.ended }) log (ended_more k fin job seen.ended h)
stays_ended k seen (logs.Quiet job ∷ log) h = stays_ended k seen log h

-- and so what is answered

either_more : (a a' q r r' : Bool) → (a ≡ true → a' ≡ true) → (r ≡ true → r' ≡ true) → (a || (q && r)) ≡ true → (a' || (q && r')) ≡ true
either_more true a' q r r' f g h = rw (f refl) refl
either_more false true q r r' f g h = refl
either_more false false true r r' f g h = g h
either_more false false false r r' f g h = h

answered_more : (quiets : List Bool) (j : ℕ) (ended more : List ℕ) → ((k : ℕ) → list_any (nat_eq k) ended ≡ true → list_any (nat_eq k) more ≡ true) → answered_from quiets j ended ≡ true → answered_from quiets j more ≡ true
answered_more [] j ended more f h = f j h
answered_more (q ∷ quiets) j ended more f h =
    either_more (list_any (nat_eq j) ended) (list_any (nat_eq j) more) q (answered_from quiets (j + 1) ended) (answered_from quiets (j + 1) more) (f j) (answered_more quiets (j + 1) ended more f) h

pub answered-append : (quiets : List Bool) (xs ys : List LogEvent) (j : ℕ) → is_answered quiets (ended_in xs) j ≡ true → is_answered quiets (ended_in (xs ++ ys)) j ≡ true
answered-append quiets xs ys j h =
    answered_more (drop j quiets) j (ended_in xs) (ended_in (xs ++ ys))
    (λ k e. ap (λ s. list_any (nat_eq k) s.ended) (seen-append nothing_seen xs ys) ∙ stays_ended k (all_seen nothing_seen xs) ys e) h

-- strange posts

hides : {A : Type 0} (b : Bool) (x : A) (o : Option A) → (if b then Some x else o) ≡ None → (b ≡ false) × (o ≡ None)
hides true x o h = cc
hides false x o h = (refl, h)

-- of a log without any, both parts have none
pub strange_parts : (lends : ℕ → Bool) (quiets : List Bool) (seen : Seen) (xs ys : List LogEvent) → first_strange lends quiets seen (xs ++ ys) ≡ None → (first_strange lends quiets seen xs ≡ None) × (first_strange lends quiets (all_seen seen xs) ys ≡ None)
strange_parts lends quiets seen [] ys h = (refl, h)
strange_parts lends quiets seen (logs.Turn p ∷ xs) ys h = strange_parts lends quiets (record seen { started = seen.taken + p }) xs ys h
strange_parts lends quiets seen (logs.Take job entry ∷ xs) ys h = strange_parts lends quiets (record seen { taken = seen.taken + 1 }) xs ys h
strange_parts lends quiets seen (logs.Post job result fin loan ∷ xs) ys h =
    let here = hides (is_strange lends quiets seen job fin loan) job (first_strange lends quiets (record seen { ended = cond fin (job ∷ seen.ended) seen.ended }) (xs ++ ys)) h in
    let rest = strange_parts lends quiets (record seen { ended = cond fin (job ∷ seen.ended) seen.ended }) xs ys here.1 in
    (rw here.0 rest.0, rest.1)
strange_parts lends quiets seen (logs.Quiet job ∷ xs) ys h = strange_parts lends quiets seen xs ys h

-- a job that a post answers, which isn't strange, wasn't answered before
answered_part : (x e y z : Bool) → (x || e || y || z) ≡ false → e ≡ false
answered_part true e y z h = cc
answered_part false true y z h = cc
answered_part false false y z h = refl

pub unanswered_before : (lends : ℕ → Bool) (quiets : List Bool) (seen : Seen) (c : Completion) (log : List LogEvent) → first_strange lends quiets seen (logged (Posted c) ∷ log) ≡ None → is_answered quiets seen.ended c.user_data ≡ false
unanswered_before lends quiets seen c log h =
    let here = hides (is_strange lends quiets seen c.user_data (is_final c.flags) c.loan) c.user_data (first_strange lends quiets (seen_after seen (logged (Posted c))) log) h in
    answered_part (not (nat_lt c.user_data seen.started)) (is_answered quiets seen.ended c.user_data) (has_other_number c.user_data c.loan) (has_wrong_loan (lends c.user_data) (is_final c.flags) c.loan) here.0

-- Posts that weren't strange among all moves aren't strange alone either, to a user that has started the jobs of their numbers.

started_part : (x s e y z : Bool) → (x || e || y || z) ≡ false → s ≡ true → (not s || e || y || z) ≡ false
started_part true s e y z h q = cc
started_part false s e y z h q = rw q h

abbrev pub IsBelow : ℕ → Completion → Type 0
IsBelow n c = nat_lt c.user_data n ≡ true

pub posts_expected : (lends : ℕ → Bool) (quiets : List Bool) (n : ℕ) (seen : Seen) (ms : List Move) → first_strange lends quiets seen (log_of ms) ≡ None → AllByRecursion (IsBelow n) (posted ms)
    → first_strange lends quiets (record { taken = 0; started = n; ended = seen.ended }) (log_of (map Posted (posted ms))) ≡ None
posts_expected lends quiets n seen [] h below = refl
posts_expected lends quiets n seen (Turned p ∷ ms) h below = posts_expected lends quiets n (record seen { started = seen.taken + p }) ms h below
posts_expected lends quiets n seen (Took t ∷ ms) h below = posts_expected lends quiets n (record seen { taken = seen.taken + 1 }) ms h below
posts_expected lends quiets n seen (Posted c ∷ ms) h below =
    let now : Seen = record seen { ended = cond (is_final c.flags) (c.user_data ∷ seen.ended) seen.ended } in
    let here = hides (is_strange lends quiets seen c.user_data (is_final c.flags) c.loan) c.user_data (first_strange lends quiets now (log_of ms)) h in
    let fine : is_strange lends quiets (record { taken = 0; started = n; ended = seen.ended }) c.user_data (is_final c.flags) c.loan ≡ false =
    started_part (not (nat_lt c.user_data seen.started)) (nat_lt c.user_data n) (is_answered quiets seen.ended c.user_data) (has_other_number c.user_data c.loan) (has_wrong_loan (lends c.user_data) (is_final c.flags) c.loan) here.0 below.0 in
    rw fine (posts_expected lends quiets n now ms here.1 below.1)
posts_expected lends quiets n seen (Quieted k ∷ ms) h below = posts_expected lends quiets n seen ms h below

-- the numbers of the first entries

pub numbered_front : (k : ℕ) (xs ys : List Taken) → Numbered k (xs ++ ys) → Numbered k xs
numbered_front k [] ys h = tt
numbered_front k (x ∷ xs) ys h = (h.0, numbered_front (k + 1) xs ys h.1)

pub all_below : (k n : ℕ) (ts : List Taken) → Numbered k ts → k + length ts ≤ n → AllByRecursion (λ t. nat_lt t.entry.user_data n ≡ true) ts
all_below k n [] h fits = tt
all_below k n (t ∷ ts) h fits =
    let inside : t.entry.user_data < n = omega (arith, h.0, fits) in
    (grind (arith, nat_tests), all_below (k + 1) n ts h.1 (omega (arith, fits)))

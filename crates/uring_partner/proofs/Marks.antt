-- Marks and cuts of what is pending, by places.
use Rattle.std.specs.Prelude.{◌≡◌, ℕ, ◌+◌, ◌<◌, ◌≤◌, zero, suc, Bool, true, false, ◌&&◌, ◌||◌, not, cond, ◌/◌, ◌%◌, nat_eq, List, [], ◌∷◌, ◌++◌, length, take, Some, slice_get, slice_set, refl}
use Rattle.std.specs.List.{remove, insert}
use Rattle.std.proofs.Math.Seq.{set-append_seam}
use Rattle.std.proofs.lemmas.Option.{same_Some, slice_get_within, slice_get_read}
use Rattle.std.proofs.Common.{ap, sym, ◌∙◌, append-nil, arith, length-append, get_or, add-one}
use Rattle.uring_model.specs.declared.pending.Pending.{Pending}
use Rattle.uring_model.specs.Schedule.{canceled_in}
use Rattle.file_tree.specs.declared.world.World.{World}
use Rattle.uring_partner.specs.Served.{Cursor, job_of, has_unmarked, mark_first, pass, world_machine, answer_to, named, ready_cursors}
use Rattle.uring_model.proofs.Progress.{split_of}
use Rattle.uring_partner.specs.Marks.{marked_one, cut_one, IsFirstUnmarked, IsToldCut}
use Rattle.uring_partner.specs.Settling.{answered_among}
use Rattle.uring_partner.proofs.Ready.{split_at}

abbrev pub is_target : ℕ → Pending → Bool
is_target t i = nat_eq i.taken.entry.user_data t && not i.marked

-- nothing is found below place i
pub record Misses (t : ℕ) (xs : List Pending) (i : ℕ) : Type 0 where
  pub inside : i ≤ length xs
  pub before : has_unmarked t (take i xs) ≡ false

pub misses_first : (t : ℕ) (xs : List Pending) → Misses t xs 0
misses_first t xs = record { inside = omega arith; before = refl }

or_assoc : (a b c : Bool) → (a || (b || c)) ≡ ((a || b) || c)
or_assoc true b c = refl
or_assoc false b c = refl

pub has-append : (t : ℕ) (xs ys : List Pending) → has_unmarked t (xs ++ ys) ≡ (has_unmarked t xs || has_unmarked t ys)
has-append t [] ys = refl
has-append t (x ∷ xs) ys = ap (λ b. is_target t x || b) (has-append t xs ys) ∙ or_assoc (is_target t x) (has_unmarked t xs) (has_unmarked t ys)

passes_by : (t : ℕ) (x : Pending) (xs ys : List Pending) → is_target t x ≡ false → mark_first t xs ≡ ys → mark_first t (x ∷ xs) ≡ x ∷ ys
passes_by t x xs ys e h = rw e (ap (λ l. x ∷ l) h)

or_left : (a b : Bool) → (a || b) ≡ false → (a ≡ false) × (b ≡ false)
or_left true b e = cc
or_left false b e = (refl, e)

marks_at : (t : ℕ) (xs : List Pending) (k : ℕ) (x : Pending) → slice_get xs k ≡ Some x → has_unmarked t (take k xs) ≡ false → is_target t x ≡ true → (has_unmarked t xs ≡ true) × (mark_first t xs ≡ slice_set xs k (marked_one x))
marks_at t [] k x e h p = absurd (cc)
marks_at t (y ∷ xs) zero x e h p =
    let s = same_Some y x e in
    let q : is_target t y ≡ true = ap (is_target t) s ∙ p in
    (rw q refl, rw q (ap (λ z. marked_one z ∷ xs) s))
marks_at t (y ∷ xs) (suc k) x e h p =
    let q = or_left (is_target t y) (has_unmarked t (take k xs)) h in
    let r = marks_at t xs k x e q.1 p in
    (rw q.0 r.0, passes_by t y xs (slice_set xs k (marked_one x)) q.0 r.1)

pub misses_next : (t : ℕ) (xs : List Pending) (i : ℕ) (x : Pending) → i < length xs → x ≡ get_or xs i x → is_target t x ≡ false → Misses t xs i → Misses t xs (i + 1)
misses_next t xs i x h g p m =
    let here = slice_get_read xs (length xs) i x refl h g in
    let q : take (i + 1) xs ≡ take i xs ++ x ∷ [] = rw add-one (split_at xs i x here).0 in
    record { inside = omega arith; before = ap (has_unmarked t) q ∙ has-append t (take i xs) (x ∷ []) ∙ rw (m.before, p) refl }

pub finds_first : (t : ℕ) (xs : List Pending) (i : ℕ) (x : Pending) → i < length xs → x ≡ get_or xs i x → is_target t x ≡ true → Misses t xs i → IsFirstUnmarked t xs i
finds_first t xs i x h g p m =
    let here = slice_get_read xs (length xs) i x refl h g in
    let r = marks_at t xs i x here m.before p in
    record { item = x; here = here; has = r.0; mark = r.1 }

take_whole : {A : Type 0} (xs : List A) (i : ℕ) → length xs ≤ i → take i xs ≡ xs
take_whole [] zero h = refl
take_whole [] (suc i) h = refl
take_whole (x ∷ xs) zero h = absurd (omega arith)
take_whole (x ∷ xs) (suc i) h = ap (λ l. x ∷ l) (take_whole xs i (omega arith))

pub finds_none : (t : ℕ) (xs : List Pending) (i : ℕ) → length xs ≤ i → Misses t xs i → has_unmarked t xs ≡ false
finds_none t xs i h m = ap (has_unmarked t) (sym (take_whole xs i h)) ∙ m.before

pub mark_none : (t : ℕ) (xs : List Pending) → has_unmarked t xs ≡ false → mark_first t xs ≡ xs
mark_none t [] h = refl
mark_none t (x ∷ xs) h = let q = or_left (is_target t x) (has_unmarked t xs) h in passes_by t x xs xs q.0 (mark_none t xs q.1)

-- the code's removal, and its telling of the next
pub removed_at : (front back : List Pending) (x : Pending) (k : ℕ) → k ≡ length front → remove (front ++ x ∷ back) k ≡ front ++ back
removed_at [] back x zero e = refl
removed_at [] back x (suc k) e = absurd (omega arith)
removed_at (y ∷ front) back x zero e = absurd (omega arith)
removed_at (y ∷ front) back x (suc k) e = ap (λ l. y ∷ l) (removed_at front back x k (omega arith))

get_seam : (front : List Pending) (y : Pending) (back : List Pending) (k : ℕ) → k ≡ length front → slice_get (front ++ y ∷ back) k ≡ Some y
get_seam [] y back zero e = refl
get_seam [] y back (suc k) e = absurd (omega arith)
get_seam (x ∷ front) y back zero e = absurd (omega arith)
get_seam (x ∷ front) y back (suc k) e = get_seam front y back k (omega arith)

pub told_next : (front back ys : List Pending) (k : ℕ) (b : Bool) → k ≡ length front → IsToldCut (front ++ back) k b ys → ys ≡ front ++ pass true b back
told_next front [] ys k b e h =
    let inside : k < length (front ++ []) = slice_get_within (front ++ []) k h.item h.here in
    let same : length (front ++ []) ≡ length front = ap length (append-nil front) in
    absurd (omega arith)
told_next front (y ∷ back) ys k b e h =
    let s : y ≡ h.item = same_Some y h.item (sym (get_seam front y back k e) ∙ h.here) in
    h.set ∙ ap (λ x. slice_set (front ++ y ∷ back) k (cut_one b x)) (sym s) ∙ ap (λ n. slice_set (front ++ y ∷ back) n (cut_one b y)) e ∙ set-append_seam front y back (cut_one b y)

-- what the code works with: the entry that settles is out, and the others are one list

pub answer_here : (w : World) (c : Cursor) → answered_among w (c.front ++ c.back) c.item ≡ answer_to w c
answer_here w c = λ i. cond (c.item.marked || c.item.cut) (canceled_in w (job_of c.item.taken).buf) (world_machine.answer w (λ t. has-append t c.front c.back i) c.item.taken)

get_or_seam : (front : List Pending) (y : Pending) (back : List Pending) (k : ℕ) (d : Pending) → k ≡ length front → get_or (front ++ y ∷ back) k d ≡ y
get_or_seam [] y back zero d e = refl
get_or_seam [] y back (suc k) d e = absurd (omega arith)
get_or_seam (x ∷ front) y back zero d e = absurd (omega arith)
get_or_seam (x ∷ front) y back (suc k) d e = get_or_seam front y back k d (omega arith)

pub record Removes (xs : List Pending) (c : Cursor) (k : ℕ) : Type 0 where
  pub whole : c.front ++ c.item ∷ c.back ≡ xs
  pub rest : remove xs k ≡ c.front ++ c.back
  pub item : (d : Pending) → get_or xs k d ≡ c.item
  pub inside : k < length xs

pub cursor_removed : (n : ℕ) (xs : List Pending) (c : Cursor) (k : ℕ) → named n (ready_cursors [] xs) ≡ Some c → length c.front ≡ k → Removes xs c k
cursor_removed n xs c k e h =
    let whole : c.front ++ c.item ∷ c.back ≡ xs = split_of [] xs ((n / 2) % length (ready_cursors [] xs)) c e in
    let parts : length (c.front ++ c.item ∷ c.back) ≡ length c.front + (length c.back + 1) = simp length-append (omega arith) in
    record {
      whole = whole;
      rest = ap (λ l. remove l k) (sym whole) ∙ removed_at c.front c.back c.item k (sym h);
      item = λ d. ap (λ l. get_or l k d) (sym whole) ∙ get_or_seam c.front c.item c.back k d (sym h);
      inside = omega (arith, parts, ap length whole);
    }

inserted_at : (front back : List Pending) (x : Pending) (k : ℕ) → k ≡ length front → insert (front ++ back) k x ≡ front ++ x ∷ back
inserted_at [] back x zero e = refl
inserted_at [] back x (suc k) e = absurd (omega arith)
inserted_at (y ∷ front) back x zero e = absurd (omega arith)
inserted_at (y ∷ front) back x (suc k) e = ap (λ l. y ∷ l) (inserted_at front back x k (omega arith))

pub put_back : (xs : List Pending) (c : Cursor) (k : ℕ) (ys : List Pending) → Removes xs c k → length c.front ≡ k → ys ≡ c.front ++ c.back → insert ys k c.item ≡ xs
put_back xs c k ys r h e = ap (λ l. insert l k c.item) e ∙ inserted_at c.front c.back c.item k (sym h) ∙ r.whole

-- A machine that refines another goes, over plain states, as the other does in the view.
use Rattle.std.proofs.Common.{◌≡◌, ℕ, zero, suc, Bool, true, false, ◌&&◌, ◌||◌, not, cond, nat_eq, List, [], ◌∷◌, ◌++◌, length, drop, Option, Some, None, ℤ, refl, ap, sym, subst, ◌∙◌}
use Rattle.std.specs.Prelude.{◌/◌, ◌%◌, if◌then◌else◌}
use Rattle.std.specs.List.{AllByRecursion}
use Rattle.uring_base.specs.declared.events.Taken.{Taken}
use Rattle.uring_base.specs.declared.events.Completion.{Completion}
use Rattle.uring_base.specs.declared.buffer.Loan.{Loan}
use Rattle.uring_model.specs.declared.pending.Pending.{Pending}
use Rattle.uring_model.specs.Machine.{Answer}
use Rattle.uring_model.specs.Jobs.{linked, ends_quietly}
use Rattle.uring_model.specs.Replay.{cuts, keep_if}
use Rattle.uring_model.specs.Chosen.{choice, stops}
use Rattle.uring_model.specs.Moves.{Move, Turned, Took, Posted, Quieted, took}
use Rattle.uring_model.specs.Asks.{job_of}
use Rattle.uring_model.specs.Refines.{Agrees, Refines, IsPlainState, WorldLaws}
use Rattle.uring_model.specs.Partner.{file_machine}
use Rattle.uring_model.specs.Machine.{Files}
use Rattle.uring_model.specs.Asks.{IsJobEntry}
use Rattle.uring_model.proofs.Joins.{calls_join, no_call_stays}
use Rattle.uring_model.proofs.Progress.{cursor_split, none_is_lost}
use Rattle.uring_model.proofs.Whole.{turns_are_moves, posts_fit_room, ready_settles, turns_are_few}
use Rattle.uring_model.specs.Schedule.{Cursor, Machine, State, cut_of, held, no_drain, is_nil, other_in, mark_first, mark_first_if, pass, pass_end, named, canceled_in, cut_after, after_take, take_all, after_settle, completion_of, EntryEnd, ByPost, Quietly, room_after, ends_turn, ending, Outturn, stays, is_ready, ready_cursors, cursors, answer_to, is_quiet_end, settled_by, Settles, SettlesQuietly, Steps, end_of, settle_then, settle_turn, turn}

keep_same : {A : Type 0} (b d : Bool) (x : A) (xs ys : List A) → b ≡ d → xs ≡ ys → keep_if b x xs ≡ keep_if d x ys
keep_same b d x xs ys p q = ap (λ e. keep_if e x xs) p ∙ ap (λ l. keep_if d x l) q

pub all-append : (P : Taken → Type 0) (xs ys : List Pending) → AllByRecursion (λ i. P i.taken) xs → AllByRecursion (λ i. P i.taken) ys → AllByRecursion (λ i. P i.taken) (xs ++ ys)
all-append P [] ys h k = k
all-append P (x ∷ xs) ys h k = (h.0, all-append P xs ys h.1 k)

all_split : (P : Taken → Type 0) (xs ys : List Pending) → AllByRecursion (λ i. P i.taken) (xs ++ ys) → AllByRecursion (λ i. P i.taken) xs × AllByRecursion (λ i. P i.taken) ys
all_split P [] ys h = (tt, h)
all_split P (x ∷ xs) ys h = let p = all_split P xs ys h.1 in ((h.0, p.0), p.1)

all_either : (P : Taken → Type 0) (b : Bool) (xs ys : List Pending) → AllByRecursion (λ i. P i.taken) xs → AllByRecursion (λ i. P i.taken) ys → AllByRecursion (λ i. P i.taken) (cond b xs ys)
all_either P true xs ys h k = h
all_either P false xs ys h k = k

all_first : (P : Taken → Type 0) (t : ℕ) (is : List Pending) → AllByRecursion (λ i. P i.taken) is → AllByRecursion (λ i. P i.taken) (mark_first t is)
all_first P t [] h = tt
all_first P t (i ∷ is) h = all_either P (nat_eq i.taken.entry.user_data t && not i.marked) (record { taken = i.taken; cut = i.cut; marked = true } ∷ is) (i ∷ mark_first t is) (h.0, h.1) (h.0, all_first P t is h.1)

all_marked : (P : Taken → Type 0) (o : Option ℕ) (is : List Pending) → AllByRecursion (λ i. P i.taken) is → AllByRecursion (λ i. P i.taken) (mark_first_if o is)
all_marked P None is h = h
all_marked P (Some t) is h = all_first P t is h

all_passed : (P : Taken → Type 0) (b s : Bool) (is : List Pending) → AllByRecursion (λ i. P i.taken) is → AllByRecursion (λ i. P i.taken) (pass b s is)
all_passed P false s is h = h
all_passed P true s [] h = h
all_passed P true s (i ∷ is) h = (h.0, h.1)

all_settled : {W : Type 0} (P : Taken → Type 0) (a : State W) (c : Cursor) (y : Answer W) → AllByRecursion (λ i. P i.taken) c.front → AllByRecursion (λ i. P i.taken) c.back → AllByRecursion (λ i. P i.taken) (after_settle a c y).pending
all_settled P a c y h k =
    all_marked P y.marks (c.front ++ pass (linked (job_of c.item.taken).link) (cut_after c y) c.back)
    (all-append P c.front (pass (linked (job_of c.item.taken).link) (cut_after c y) c.back) h (all_passed P (linked (job_of c.item.taken).link) (cut_after c y) c.back k))

post_same : (t : Taken) (r s : ℤ) (f g : ℤ → List ℕ → Option Loan) (x y : List ℕ) → r ≡ s → ((q : ℤ) (z : List ℕ) → f q z ≡ g q z) → x ≡ y
    → ◌≡◌ {A = Completion} (record { user_data = t.entry.user_data; result = r; flags = 0; big = 0 ∷ 0 ∷ []; large = t.large; loan = f r x }) (record { user_data = t.entry.user_data; result = s; flags = 0; big = 0 ∷ 0 ∷ []; large = t.large; loan = g s y })
post_same t r s f g x y p e q = λ i. record { user_data = t.entry.user_data; result = p i; flags = 0; big = 0 ∷ 0 ∷ []; large = t.large; loan = (ap (λ k. f k x) p ∙ ap (f s) q ∙ e s y) i }

module _ {W V : Type 0} (m : Machine W) (n : Machine V) (view : W → V) (Plain : W → Type 0) (Allowed : Taken → Type 0) (r : Refines m n view Plain Allowed) where
  abbrev look : State W → State V
  look a = record { world = view a.world; pending = a.pending; tail = a.tail; choices = a.choices }

  abbrev Good : State W → Type 0
  Good a = IsPlainState Plain Allowed a

  abbrev Each : List Pending → Type 0
  Each is = AllByRecursion (λ i. Allowed i.taken) is

  ready_same : (w : W) (front : List Pending) (i : Pending) → Plain w → Allowed i.taken → is_ready (m.can_answer w) front i ≡ is_ready (n.can_answer (view w)) front i
  ready_same w front i p q = ap (λ b. (b || i.marked || i.cut) && (not (held false front) && no_drain front && (not (job_of i.taken).drain || is_nil front))) (r.can w i.taken p q)

  cursors_same : (w : W) (front is : List Pending) → Plain w → Each is → ready_cursors (m.can_answer w) front is ≡ ready_cursors (n.can_answer (view w)) front is
  cursors_same w front [] p q = refl
  cursors_same w front (i ∷ is) p q =
      keep_same (is_ready (m.can_answer w) front i) (is_ready (n.can_answer (view w)) front i) (record { front = front; item = i; back = is }) (ready_cursors (m.can_answer w) (front ++ i ∷ []) is) (ready_cursors (n.can_answer (view w)) (front ++ i ∷ []) is)
      (ready_same w front i p q.0) (cursors_same w (front ++ i ∷ []) is p q.1)

  pub ready_seen : (a : State W) → Good a → cursors m a ≡ cursors n (look a)
  ready_seen a f = cursors_same a.world [] a.pending f.world f.pending

  named_same : (a : State W) → Good a → named (choice a.choices) (cursors m a) ≡ named (choice a.choices) (cursors n (look a))
  named_same a f = ap (named (choice a.choices)) (ready_seen a f)

  -- one answer

  answer_either : (w : W) (c : Cursor) (b : Bool) → Plain w → Allowed c.item.taken
      → Agrees view (if b then canceled_in w (job_of c.item.taken).buf else m.answer w (other_in c) c.item.taken) (if b then canceled_in (view w) (job_of c.item.taken).buf else n.answer (view w) (other_in c) c.item.taken)
  answer_either w c true p q = record { result = refl; buf = refl; world = refl; marks = refl }
  answer_either w c false p q = r.answers w (other_in c) c.item.taken p q

  answer_same : (w : W) (c : Cursor) → Plain w → Allowed c.item.taken → Agrees view (answer_to m w c) (answer_to n (view w) c)
  answer_same w c p q = answer_either w c (c.item.marked || c.item.cut) p q

  plain_either : (w : W) (c : Cursor) (b : Bool) → Plain w → Allowed c.item.taken → Plain (if b then canceled_in w (job_of c.item.taken).buf else m.answer w (other_in c) c.item.taken).world
  plain_either w c true p q = p
  plain_either w c false p q = r.stays w (other_in c) c.item.taken p q

  -- one settling

  settle_same : (a : State W) (c : Cursor) (y : Answer W) (z : Answer V) → Agrees view y z → look (after_settle a c y) ≡ after_settle (look a) c z
  settle_same a c y z g = λ i. record {
    world = g.world i;
    pending = mark_first_if (g.marks i) (c.front ++ pass (linked (job_of c.item.taken).link) (cuts c.item.cut (job_of c.item.taken) (g.result i)) c.back);
    tail = pass_end (linked (job_of c.item.taken).link) (cuts c.item.cut (job_of c.item.taken) (g.result i)) c.back a.tail;
    choices = drop 1 a.choices;
  }

  post_seen : (t : Taken) (y : Answer W) (z : Answer V) → Allowed t → Agrees view y z → completion_of m t y ≡ completion_of n t z
  post_seen t y z q g = post_same t y.result z.result (m.back t) (n.back t) y.buf z.buf g.result (λ k x. r.backs t k x q) g.buf

  -- both end an entry in the same way

  quiet_same : (w : W) (c : Cursor) → Plain w → Allowed c.item.taken → is_quiet_end m w c ≡ is_quiet_end n (view w) c
  quiet_same w c p q = ap (ends_quietly (job_of c.item.taken)) (answer_same w c p q).result

  end_same : (w : W) (c : Cursor) → Plain w → Allowed c.item.taken → end_of m w c ≡ end_of n (view w) c
  end_same w c p q =
      ap (λ b. cond b (Quietly c.item.taken.entry.user_data) (ByPost (completion_of m c.item.taken (answer_to m w c)))) (quiet_same w c p q)
      ∙ ap (λ x. cond (is_quiet_end n (view w) c) (Quietly c.item.taken.entry.user_data) (ByPost x)) (post_seen c.item.taken (answer_to m w c) (answer_to n (view w) c) q (answer_same w c p q))

  -- the entry that a choice names is one that may be asked, and what is left is plain
  named_fine : (a : State W) (c : Cursor) → Good a → named (choice a.choices) (cursors m a) ≡ Some c → Allowed c.item.taken × Good (settled_by m a c)
  named_fine a c f e =
      let whole = cursor_split (m.can_answer a.world) [] a.pending ((choice a.choices / 2) % length (cursors m a)) c e in
      let parts = all_split Allowed c.front (c.item ∷ c.back) (subst Each (sym whole) f.pending) in
      (parts.1.0, record { world = plain_either a.world c (c.item.marked || c.item.cut) f.world parts.1.0; pending = all_settled Allowed a c (answer_to m a.world c) parts.0 parts.1.1 })

  settled_seen : (a : State W) (c : Cursor) → Good a → Allowed c.item.taken → look (settled_by m a c) ≡ settled_by n (look a) c
  settled_seen a c f q = settle_same a c (answer_to m a.world c) (answer_to n (view a.world) c) (answer_same a.world c f.world q)

  settles_seen : (a : State W) (post : Completion) → Good a → (s : Settles m a post) → Settles n (look a) post
  settles_seen a post f s = record {
    cursor = s.cursor;
    chosen = sym (named_same a f) ∙ s.chosen;
    posts = sym (quiet_same a.world s.cursor f.world (named_fine a s.cursor f s.chosen).0) ∙ s.posts;
    completion = s.completion ∙ post_seen s.cursor.item.taken (answer_to m a.world s.cursor) (answer_to n (view a.world) s.cursor) (named_fine a s.cursor f s.chosen).0 (answer_same a.world s.cursor f.world (named_fine a s.cursor f s.chosen).0);
  }

  quiets_seen : (a : State W) (k : ℕ) → Good a → (s : SettlesQuietly m a k) → SettlesQuietly n (look a) k
  quiets_seen a k f s = record {
    cursor = s.cursor;
    chosen = sym (named_same a f) ∙ s.chosen;
    quiet = sym (quiet_same a.world s.cursor f.world (named_fine a s.cursor f s.chosen).0) ∙ s.quiet;
    number = s.number;
  }

  take_fine : (a : State W) (t : Taken) → Good a → Allowed t → Good (after_take a t)
  take_fine a t f q = record { world = f.world; pending = all-append Allowed a.pending (record { taken = t; cut = cut_of a.tail; marked = false } ∷ []) f.pending (q, tt) }

  -- steps

  pub steps_seen : (over : Bool) (a b : State W) (ms : List Move) → Good a → AllByRecursion Allowed (took ms) → Steps m over a ms b → Steps n over (look a) ms (look b) × Good b
  unfolding settles_seen quiets_seen
  steps_seen over a b [] f q h = (ap look h, subst Good (sym h) f)
  steps_seen over a b (Turned p ∷ ms) f q h = steps_seen false a b ms f q h
  steps_seen over a b (Took t ∷ ms) f q h =
      let more = steps_seen false (after_take a t) b ms (take_fine a t f q.0) q.1 h.1 in
      ((h.0, more.0), more.1)
  steps_seen over a b (Posted c ∷ ms) f q h =
      let x = h.1.cursor in
      let fine = named_fine a x f h.1.chosen in
      let more = steps_seen (stops (choice a.choices)) (settled_by m a x) b ms fine.1 q h.2 in
      ((h.0, settles_seen a c f h.1, subst (λ s. Steps n (stops (choice a.choices)) s ms (look b)) (settled_seen a x f fine.0) more.0), more.1)
  steps_seen over a b (Quieted k ∷ ms) f q h =
      let x = h.1.cursor in
      let fine = named_fine a x f h.1.chosen in
      let more = steps_seen false (settled_by m a x) b ms fine.1 q h.2 in
      ((h.0, quiets_seen a k f h.1, subst (λ s. Steps n false s ms (look b)) (settled_seen a x f fine.0) more.0), more.1)

  -- turns

  record Same (x : Outturn W) (y : Outturn V) : Type 0 where
    ends : x.ends ≡ y.ends
    state : look x.state ≡ y.state
    fine : Good x.state

  branch_same : (stop : Bool) (x1 x2 : Outturn W) (y1 y2 : Outturn V) → Same x1 y1 → Same x2 y2 → Same (if stop then x1 else x2) (if stop then y1 else y2)
  branch_same true x1 x2 y1 y2 p q = p
  branch_same false x1 x2 y1 y2 p q = q

  ending_same : (u v : EntryEnd) (x : Outturn W) (y : Outturn V) → u ≡ v → Same x y → Same (ending u x) (ending v y)
  ending_same u v x y e s = record { ends = ap (λ k. k ∷ x.ends) e ∙ ap (λ l. v ∷ l) s.ends; state = s.state; fine = s.fine }

  at_seen : (a : State W) (b : State V) (f : State W → Outturn W) (g : State V → Outturn V) → look a ≡ b → Same (f a) (g (look a)) → Same (f a) (g b)
  at_seen a b f g e s = subst (λ c. Same (f a) (g c)) e s

  -- one end and the turn behind it
  after_same : (stop : Bool) (u v : EntryEnd) (a : State W) (b : State V) (room : ℕ) (fp : ℕ → State W → Outturn W) (gp : ℕ → State V → Outturn V) → u ≡ v → look a ≡ b → Good a → ((room : ℕ) (c : State W) → Good c → Same (fp room c) (gp room (look c)))
      → Same (ending u (if ends_turn stop u then stays a else fp (room_after room u) a)) (ending v (if ends_turn stop v then stays b else gp (room_after room v) b))
  after_same stop u v a b room fp gp e here f q =
      subst (λ v. Same (ending u (if ends_turn stop u then stays a else fp (room_after room u) a)) (ending v (if ends_turn stop v then stays b else gp (room_after room v) b))) e
      (ending_same u u (if ends_turn stop u then stays a else fp (room_after room u) a) (if ends_turn stop u then stays b else gp (room_after room u) b) refl
      (branch_same (ends_turn stop u) (stays a) (fp (room_after room u) a) (stays b) (gp (room_after room u) b)
      (at_seen a b (λ s. stays s) (λ s. stays s) here (record { ends = refl; state = refl; fine = f }))
      (at_seen a b (fp (room_after room u)) (gp (room_after room u)) here (q (room_after room u) a f))))

  then_same : (a : State W) (fp : ℕ → State W → Outturn W) (gp : ℕ → State V → Outturn V) (room : ℕ) (o : Option Cursor) → Good a → named (choice a.choices) (cursors m a) ≡ o
      → ((room : ℕ) (b : State W) → Good b → Same (fp room b) (gp room (look b))) → Same (settle_then m a fp room o) (settle_then n (look a) gp room o)
  then_same a fp gp room None f e q = record { ends = refl; state = refl; fine = f }
  then_same a fp gp room (Some c) f e q =
      let fine = named_fine a c f e in
      after_same (stops (choice a.choices)) (end_of m a.world c) (end_of n (view a.world) c) (settled_by m a c) (settled_by n (look a) c) room fp gp (end_same a.world c f.world fine.0) (settled_seen a c f fine.0) fine.1 q

  turn_same : (left room : ℕ) (a : State W) → Good a → Same (settle_turn m left room a) (settle_turn n left room (look a))
  turn_same zero room a f = record { ends = refl; state = refl; fine = f }
  turn_same (suc left) zero a f = record { ends = refl; state = refl; fine = f }
  turn_same (suc left) (suc room) a f =
      subst (λ o. Same (settle_turn m (suc left) (suc room) a) (settle_then n (look a) (settle_turn n left) room o)) (named_same a f)
      (then_same a (settle_turn m left) (settle_turn n left) room (named (choice a.choices) (cursors m a)) f refl (turn_same left))

  take_seen : (ts : List Taken) (a : State W) → look (take_all a ts) ≡ take_all (look a) ts
  take_seen [] a = refl
  take_seen (t ∷ ts) a = take_seen ts (after_take a t)

  takes_fine : (ts : List Taken) (a : State W) → Good a → AllByRecursion Allowed ts → Good (take_all a ts)
  takes_fine [] a f q = f
  takes_fine (t ∷ ts) a f q = takes_fine ts (after_take a t) (take_fine a t f q.0) q.1

  pub turn_seen : (room : ℕ) (ts : List Taken) (a : State W) → Good a → AllByRecursion Allowed ts
      → ((turn m ts room a).ends ≡ (turn n ts room (look a)).ends) × (look (turn m ts room a).state ≡ (turn n ts room (look a)).state) × Good (turn m ts room a).state
  turn_seen room ts a f q =
      let b = take_all a ts in
      let s : Same (settle_turn m (length b.pending) room b) (turn n ts room (look a)) =
      subst (λ c. Same (settle_turn m (length b.pending) room b) (settle_turn n (length c.pending) room c)) (take_seen ts a) (turn_same (length b.pending) room b (takes_fine ts a f q)) in
      (s.ends, s.state, s.fine)

pub world_laws : {W : Type 0} (m : Machine W) (view : W → Files) (Plain : W → Type 0) → Refines m file_machine view Plain IsJobEntry → WorldLaws m view Plain
world_laws m view Plain r = record {
  join = calls_join m;
  stay = no_call_stays m;
  moves = turns_are_moves m;
  room = posts_fit_room m;
  kept = none_is_lost m;
  few = turns_are_few m;
  ready = ready_settles m;
  steps_seen = λ over a b ms f q h. steps_seen m file_machine view Plain IsJobEntry r over a b ms f q h;
  turns_seen = λ room ts a f q. let s = turn_seen m file_machine view Plain IsJobEntry r room ts a f q in (s.0, s.1, s.2);
}

-- The laws of both sides, for a pair of rings for one thread, and their proofs.
use Rattle.std.specs.Prelude.{Option, Some}
use Rattle.std.proofs.Common.{◌≡◌, ℕ, ◌+◌, ◌%◌, ◌^◌, List, [], ◌∷◌, ◌++◌, length, map, refl, sym, ap, ◌∙◌, arith, append_assoc, append-nil, length-append}
use Rattle.std.proofs.Math.Nat.{add-mod}
use Rattle.uring_base.specs.declared.events.Taken.{Taken}
use Rattle.uring_base.specs.declared.events.Completion.{Completion}
use Rattle.uring_ring.specs.declared.submission_ring.SubmissionRing.{SubmissionRing}
use Rattle.uring_ring.specs.declared.completion_ring.CompletionRing.{CompletionRing}
use Rattle.uring_ring.specs.declared.plain_side.PlainSide.{PlainSide}
use Rattle.uring_ring.specs.PlainSide.{SideMoves, SideMarks, side_lists, side_entries, side_completions}
use Rattle.uring_ring.specs.declared.io_uring.IoUring.{IoUring}
use Rattle.uring_ring.specs.Between.{lists_between}
use Rattle.ring_traits.specs.Lists.{Lists, HasRoom, Moves, Uses, Advances}
use Rattle.ring_core.specs.Slots.{held_of, held-fits}
use Rattle.uring_ring.specs.IoUring.{lists_of, entries_in, completions_in, RingMoves, RingMarks, RingUses}

pub has_room_between : (entries : SubmissionRing) (completions : CompletionRing) → HasRoom (lists_between (held_of entries.slots) (held_of completions.slots))
has_room_between entries completions =
    let e = held-fits entries.slots in
    let c = held-fits completions.slots in
    record {
      entries = omega (arith, e.items);
      completions = omega (arith, c.items);
      small = entries.small;
      completions_small = c.capacity;
    }

pub has_room : {S C : Type 0} (ring : IoUring S C) → HasRoom (lists_of ring)
has_room ring = has_room_between ring.submissions ring.completions

pub Moves-none : (kept : Completion → Completion) (l : Lists) → Moves kept l [] [] l
Moves-none kept l = record { taken = refl; posted = sym (append-nil l.completions); pushed = refl; capacity = refl; completion_capacity = refl; held = refl }

map-both : (f : Completion → Completion) (cs ds : List Completion) → map f (cs ++ ds) ≡ map f cs ++ map f ds
map-both f [] ds = refl
map-both f (c ∷ cs) ds = ap (λ l. f c ∷ l) (map-both f cs ds)

pub Moves-then : (kept : Completion → Completion) (a b c : Lists) (ts us : List Taken) (cs ds : List Completion) → Moves kept a ts cs b → Moves kept b us ds c → Moves kept a (ts ++ us) (cs ++ ds) c
Moves-then kept a b c ts us cs ds p q = record {
  taken = p.taken ∙ ap (λ l. ts ++ l) q.taken ∙ sym (append_assoc ts us c.published);
  posted = q.posted ∙ ap (λ l. l ++ map kept ds) p.posted ∙ append_assoc a.completions (map kept cs) (map kept ds) ∙ ap (λ l. a.completions ++ l) (sym (map-both kept cs ds));
  pushed = q.pushed ∙ p.pushed;
  capacity = q.capacity ∙ p.capacity;
  completion_capacity = q.completion_capacity ∙ p.completion_capacity;
  held = q.held ∙ p.held;
}

pub Uses-none : (l : Lists) → Uses l [] [] l
Uses-none l = record { entries = sym (append-nil (l.published ++ l.pushed)); reaped = refl; capacity = refl; completion_capacity = refl }

pub Uses-then : (a b c : Lists) (ts us : List Taken) (cs ds : List Completion) → Uses a ts cs b → Uses b us ds c → Uses a (ts ++ us) (cs ++ ds) c
Uses-then a b c ts us cs ds p q = record {
  entries = q.entries ∙ ap (λ l. l ++ us) p.entries ∙ append_assoc (a.published ++ a.pushed) ts us;
  reaped = p.reaped ∙ ap (λ l. cs ++ l) q.reaped ∙ sym (append_assoc cs ds c.completions);
  capacity = q.capacity ∙ p.capacity;
  completion_capacity = q.completion_capacity ∙ p.completion_capacity;
}

pub Advances-none : (p : ℕ) → Advances p 0 p
Advances-none p = ap (λ (x : ℕ). x % 2 ^ 32) (let e : p ≡ p + 0 = omega arith in e)

pub Advances-then : {T : Type 0} (p q r : ℕ) (ts us : List T) → Advances p (length ts) q → Advances q (length us) r → Advances p (length (ts ++ us)) r
Advances-then p q r ts us f g =
    let sum : p + length ts + length us ≡ p + length (ts ++ us) = omega (arith, length-append ts us) in
    g ∙ add-mod q (length us) (2 ^ 32) ∙ ap (λ (x : ℕ). (x + length us % 2 ^ 32) % 2 ^ 32) f ∙ sym (add-mod (p + length ts) (length us) (2 ^ 32)) ∙ ap (λ (x : ℕ). x % 2 ^ 32) sum

pub RingMoves-none : {S C : Type 0} (kept : Completion → Completion) (a : IoUring S C) → RingMoves kept a [] [] a
RingMoves-none kept a = record { lists = Moves-none kept (lists_of a); offer_place = refl; reap_place = refl; room = refl; waiting = refl; parameters = refl; words = refl }

pub RingMoves-then : {S C : Type 0} (kept : Completion → Completion) (a b c : IoUring S C) (ts us : List Taken) (cs ds : List Completion) → RingMoves kept a ts cs b → RingMoves kept b us ds c → RingMoves kept a (ts ++ us) (cs ++ ds) c
RingMoves-then kept a b c ts us cs ds p q = record {
  lists = Moves-then kept (lists_of a) (lists_of b) (lists_of c) ts us cs ds p.lists q.lists;
  offer_place = q.offer_place ∙ p.offer_place;
  reap_place = q.reap_place ∙ p.reap_place;
  room = q.room ∙ p.room;
  waiting = q.waiting ∙ p.waiting;
  parameters = q.parameters ∙ p.parameters;
  words = q.words ∙ p.words;
}

pub RingUses-none : {S C : Type 0} (a : IoUring S C) → RingUses a [] [] a
RingUses-none a = record { lists = Uses-none (lists_of a); offer_place = Advances-none _; reap_place = Advances-none _; ready = refl; space = refl; parameters = refl; words = refl }

pub RingUses-then : {S C : Type 0} (a b c : IoUring S C) (ts us : List Taken) (cs ds : List Completion) → RingUses a ts cs b → RingUses b us ds c → RingUses a (ts ++ us) (cs ++ ds) c
RingUses-then a b c ts us cs ds p q = record {
  lists = Uses-then (lists_of a) (lists_of b) (lists_of c) ts us cs ds p.lists q.lists;
  offer_place = Advances-then (entries_in a).put_place (entries_in b).put_place (entries_in c).put_place ts us p.offer_place q.offer_place;
  reap_place = Advances-then (completions_in a).take_place (completions_in b).take_place (completions_in c).take_place cs ds p.reap_place q.reap_place;
  ready = q.ready ∙ p.ready;
  space = q.space ∙ p.space;
  parameters = q.parameters ∙ p.parameters;
  words = q.words ∙ p.words;
}

pub SideMoves-none : {S C : Type 0} (kept : Completion → Completion) (a : PlainSide S C) → SideMoves kept a [] [] a
SideMoves-none kept a = record { lists = Moves-none kept (side_lists a); offer_place = refl; reap_place = refl; room = refl; waiting = refl; submissions = refl; completions = refl; entries_lent = refl; completions_lent = refl; words = refl }

pub SideMoves-then : {S C : Type 0} (kept : Completion → Completion) (a b c : PlainSide S C) (ts us : List Taken) (cs ds : List Completion) → SideMoves kept a ts cs b → SideMoves kept b us ds c → SideMoves kept a (ts ++ us) (cs ++ ds) c
SideMoves-then kept a b c ts us cs ds p q = record {
  lists = Moves-then kept (side_lists a) (side_lists b) (side_lists c) ts us cs ds p.lists q.lists;
  offer_place = q.offer_place ∙ p.offer_place;
  reap_place = q.reap_place ∙ p.reap_place;
  room = q.room ∙ p.room;
  waiting = q.waiting ∙ p.waiting;
  submissions = q.submissions ∙ p.submissions;
  completions = q.completions ∙ p.completions;
  entries_lent = q.entries_lent ∙ p.entries_lent;
  completions_lent = q.completions_lent ∙ p.completions_lent;
  words = q.words ∙ p.words;
}

pub side_has_room : {S C : Type 0} (side : PlainSide S C) → HasRoom (side_lists side)
side_has_room side = has_room_between side.submissions.now.ring.now side.completions.now.ring.now

-- where words alone changed, the lists and the places are as they were

pub marked_lists : {S C : Type 0} (a b : IoUring S C) → RingMarks a b → ◌≡◌ {A = Option Lists} (Some (lists_of b)) (Some (lists_of a))
marked_lists a b m = ap (λ x. Some (lists_between x (completions_in b))) m.entries ∙ ap (λ x. Some (lists_between (entries_in a) x)) m.completions

pub marked_side : {S C : Type 0} (a b : PlainSide S C) → SideMarks a b → ◌≡◌ {A = Option Lists} (Some (side_lists b)) (Some (side_lists a))
marked_side a b m = ap (λ x. Some (lists_between x (side_completions b))) m.entries ∙ ap (λ x. Some (lists_between (side_entries a) x)) m.posts

-- The laws of both sides, for a pair of rings for one thread, and their proofs.
use Rattle.std.specs.Prelude.{Option, Some}
use Rattle.std.proofs.Common.{◌≡◌, List, [], ◌++◌, refl, ap, ◌∙◌, arith}
use Rattle.uring_base.specs.declared.events.Taken.{Taken}
use Rattle.uring_base.specs.declared.events.Completion.{Completion}
use Rattle.uring_base.specs.Completions.{without_big}
use Rattle.uring_shared.specs.declared.shared_rings.SharedRings.{SharedRings}
use Rattle.ring_shared.proofs.LocalShown.{local-fits}
use Rattle.ring_traits.specs.Lists.{Lists, HasRoom}
use Rattle.uring_shared.specs.ListLaws.{Moves-none, Moves-then, Uses-none, Uses-then, Advances-none, Advances-then}
use Rattle.uring_shared.specs.SharedRings.{lists_of, entries_in, completions_in, RingMoves, RingUses}

pub has_room : (rings : SharedRings) → HasRoom (lists_of rings)
has_room rings =
    let e = local-fits rings.submissions.ring in
    let c = local-fits rings.completions.ring in
    record {
      entries = omega (arith, e.items);
      completions = omega (arith, c.items);
      small = rings.submissions.small;
      completions_small = c.capacity;
    }

pub RingMoves-none : (a : SharedRings) → RingMoves a [] [] a
RingMoves-none a = record { lists = Moves-none without_big (lists_of a); offer_place = refl; reap_place = refl; room = refl; waiting = refl }

pub RingMoves-then : (a b c : SharedRings) (ts us : List Taken) (cs ds : List Completion) → RingMoves a ts cs b → RingMoves b us ds c → RingMoves a (ts ++ us) (cs ++ ds) c
RingMoves-then a b c ts us cs ds p q = record {
  lists = Moves-then without_big (lists_of a) (lists_of b) (lists_of c) ts us cs ds p.lists q.lists;
  offer_place = q.offer_place ∙ p.offer_place;
  reap_place = q.reap_place ∙ p.reap_place;
  room = q.room ∙ p.room;
  waiting = q.waiting ∙ p.waiting;
}

pub RingUses-none : (a : SharedRings) → RingUses a [] [] a
RingUses-none a = record { lists = Uses-none (lists_of a); offer_place = Advances-none _; reap_place = Advances-none _; ready = refl; space = refl }

pub RingUses-then : (a b c : SharedRings) (ts us : List Taken) (cs ds : List Completion) → RingUses a ts cs b → RingUses b us ds c → RingUses a (ts ++ us) (cs ++ ds) c
RingUses-then a b c ts us cs ds p q = record {
  lists = Uses-then (lists_of a) (lists_of b) (lists_of c) ts us cs ds p.lists q.lists;
  offer_place = Advances-then (entries_in a).put_place (entries_in b).put_place (entries_in c).put_place ts us p.offer_place q.offer_place;
  reap_place = Advances-then (completions_in a).take_place (completions_in b).take_place (completions_in c).take_place cs ds p.reap_place q.reap_place;
  ready = q.ready ∙ p.ready;
  space = q.space ∙ p.space;
}

-- where nothing changed, the lists and the places are as they were

pub unmarked_lists : (a b : SharedRings) → b ≡ a → ◌≡◌ {A = Option Lists} (Some (lists_of b)) (Some (lists_of a))
unmarked_lists a b same = ap (λ (x : SharedRings). Some (lists_of x)) same

pub unmarked_places : (a b : SharedRings) → b ≡ a → ((entries_in b).put_place ≡ (entries_in a).put_place) × ((completions_in b).take_place ≡ (completions_in a).take_place)
unmarked_places a b same = (ap (λ (x : SharedRings). (entries_in x).put_place) same, ap (λ (x : SharedRings). (completions_in x).take_place) same)

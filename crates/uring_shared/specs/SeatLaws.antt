-- The laws of each side, and their proofs.
use Rattle.std.proofs.Common.{List, [], ◌++◌, map, refl, sym, ap, ◌∙◌, append_assoc, append-nil}
use Rattle.std.proofs.lemmas.List.{map-append}
use Rattle.uring_base.specs.declared.events.Taken.{Taken}
use Rattle.uring_base.specs.declared.events.Completion.{Completion}
use Rattle.uring_base.specs.Completions.{without_big}
use Rattle.uring_shared.specs.declared.pair.SharedPair.{SharedPair}
use Rattle.uring_shared.specs.declared.seats.EngineSeats.{EngineSeats}
use Rattle.uring_shared.specs.declared.seats.PartnerSeats.{PartnerSeats}
use Rattle.uring_shared.specs.ListLaws.{Advances-none, Advances-then}
use Rattle.uring_shared.specs.Seats.{IsEngineOf, IsPartnerOf, entries_offered, completions_reaped, engine_offer_place, engine_reap_place, entries_taken, completions_posted, EngineUses, PartnerMoves}

pub EngineUses-none : (a : EngineSeats) → EngineUses a [] [] a
EngineUses-none a = record { offered = sym (append-nil (entries_offered a)); reaped = sym (append-nil (completions_reaped a)); offer_place = Advances-none _; reap_place = Advances-none _; entries = (refl, refl); completions = (refl, refl) }

pub EngineUses-then : (a b c : EngineSeats) (ts us : List Taken) (cs ds : List Completion) → EngineUses a ts cs b → EngineUses b us ds c → EngineUses a (ts ++ us) (cs ++ ds) c
EngineUses-then a b c ts us cs ds p q = record {
  offered = q.offered ∙ ap (λ l. l ++ us) p.offered ∙ append_assoc (entries_offered a) ts us;
  reaped = q.reaped ∙ ap (λ l. l ++ ds) p.reaped ∙ append_assoc (completions_reaped a) cs ds;
  offer_place = Advances-then (engine_offer_place a) (engine_offer_place b) (engine_offer_place c) ts us p.offer_place q.offer_place;
  reap_place = Advances-then (engine_reap_place a) (engine_reap_place b) (engine_reap_place c) cs ds p.reap_place q.reap_place;
  entries = (q.entries.0 ∙ p.entries.0, q.entries.1 ∙ p.entries.1);
  completions = (q.completions.0 ∙ p.completions.0, q.completions.1 ∙ p.completions.1);
}

-- seats stay those of their pair
pub EngineUses-own : (pair : SharedPair) (a b : EngineSeats) (ts : List Taken) (cs : List Completion) → IsEngineOf pair a → EngineUses a ts cs b → IsEngineOf pair b
EngineUses-own pair a b ts cs own uses = (uses.entries.0 ∙ own.0, uses.completions.0 ∙ own.1)

pub PartnerMoves-none : (a : PartnerSeats) → PartnerMoves a [] [] a
PartnerMoves-none a = record { taken = sym (append-nil (entries_taken a)); posted = sym (append-nil (completions_posted a)); entries = (refl, refl); completions = (refl, refl) }

pub PartnerMoves-then : (a b c : PartnerSeats) (ts us : List Taken) (cs ds : List Completion) → PartnerMoves a ts cs b → PartnerMoves b us ds c → PartnerMoves a (ts ++ us) (cs ++ ds) c
PartnerMoves-then a b c ts us cs ds p q = record {
  taken = q.taken ∙ ap (λ l. l ++ us) p.taken ∙ append_assoc (entries_taken a) ts us;
  posted = q.posted ∙ ap (λ l. l ++ map without_big ds) p.posted ∙ append_assoc (completions_posted a) (map without_big cs) (map without_big ds) ∙ ap (λ l. completions_posted a ++ l) (sym (map-append without_big cs ds));
  entries = (q.entries.0 ∙ p.entries.0, q.entries.1 ∙ p.entries.1);
  completions = (q.completions.0 ∙ p.completions.0, q.completions.1 ∙ p.completions.1);
}

pub PartnerMoves-own : (pair : SharedPair) (a b : PartnerSeats) (ts : List Taken) (cs : List Completion) → IsPartnerOf pair a → PartnerMoves a ts cs b → IsPartnerOf pair b
PartnerMoves-own pair a b ts cs own moves = (moves.entries.0 ∙ own.0, moves.completions.0 ∙ own.1)

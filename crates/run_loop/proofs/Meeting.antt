-- Both sides of a pair of rings once they met, by what each tells.
use Rattle.std.proofs.Common.{◌≡◌, ℕ, List, ◌++◌, map, ap, sym, ◌∙◌, append_assoc}
use Rattle.uring_base.specs.declared.events.Taken.{Taken}
use Rattle.uring_base.specs.declared.events.Completion.{Completion}
use Rattle.uring_base.specs.Completions.{without_big}
use Rattle.uring_shared.specs.declared.seats.EngineSeats.{EngineSeats}
use Rattle.uring_shared.specs.declared.seats.PartnerSeats.{PartnerSeats}
use Rattle.uring_shared.specs.Seats.{IsNewEngine, IsNewPartner, EngineUses, PartnerMoves, entries_published, entries_taken, completions_posted, completions_reaped}
use Rattle.ring_shared.specs.HeldSlots.{items_of}
use Rattle.partner_serving.specs.TwoSides.{TwoSides}

pub met : (entries : List Taken) (engine engine' : EngineSeats) (partner partner' : PartnerSeats) (sq cq start : ℕ) (offered ts todo : List Taken) (cs reaped : List Completion)
    → IsNewEngine engine sq cq start → IsNewPartner partner sq cq → EngineUses engine offered reaped engine' → PartnerMoves partner ts cs partner' → entries ≡ offered ++ todo
    → ((rest : List Taken) × (entries_published engine' ≡ entries_taken partner' ++ rest)) → ((rest : List Completion) × (completions_posted partner' ≡ completions_reaped engine' ++ rest))
    → TwoSides without_big entries offered ts cs reaped
met entries engine engine' partner partner' sq cq start offered ts todo cs reaped new_engine new_partner uses moves split taken posted =
    let unshown = items_of engine'.send.seat.me.1 in
    let took : entries_taken partner' ≡ ts = moves.taken ∙ ap (λ l. l ++ ts) new_partner.taken in
    let sent : entries_published engine' ++ unshown ≡ offered = uses.offered ∙ ap (λ l. l ++ offered) new_engine.offered in
    let posts : completions_posted partner' ≡ map without_big cs = moves.posted ∙ ap (λ l. l ++ map without_big cs) new_partner.posted in
    let got : completions_reaped engine' ≡ reaped = uses.reaped ∙ ap (λ l. l ++ reaped) new_engine.reaped in
    record {
      todo = todo;
      offers = split;
      untaken = taken.0 ++ unshown;
      takes = sym sent ∙ ap (λ l. l ++ unshown) (taken.1 ∙ ap (λ l. l ++ taken.0) took) ∙ append_assoc ts taken.0 unshown;
      unreaped = posted.0;
      posts = sym posts ∙ posted.1 ∙ ap (λ l. l ++ posted.0) got;
    }

-- The journal of a log, event by event.
use Rattle.std.proofs.Common.{◌≡◌, ℕ, ◌+◌, zero, suc, List, [], ◌∷◌, ◌++◌, map, drop, Option, Some, None, IfSome, slice_get, ap, sym, ◌∙◌, arith, append_assoc}
use Rattle.std.specs.Option.{option_map}
use Rattle.std.proofs.lemmas.Option.{same_Some}
use Rattle.uring_base.specs.declared.events.Event.{Event}
use Rattle.uring_base.specs.declared.events.LogEvent.{LogEvent}
use Rattle.uring_model.specs.Moves.{event_of}

front : (log : List LogEvent) (place : ℕ) (event : Event) → option_map event_of (slice_get log place) ≡ Some event → map event_of (drop place log) ≡ event ∷ map event_of (drop (place + 1) log)
front [] place event h = cc
front (x ∷ xs) zero event h = ap (λ e. e ∷ map event_of xs) (same_Some (event_of x) event h)
front (x ∷ xs) (suc k) event h =
    let e : suc (k + 1) ≡ suc k + 1 = omega arith in
    front xs k event h ∙ ap (λ n. event ∷ map event_of (drop n (x ∷ xs))) e

pub journal_more : (o : Option (List LogEvent)) (start place : ℕ) (event : Event) (journal more : List Event) → IfSome o (λ log. map event_of (drop start log) ≡ journal ++ map event_of (drop place log)) → IfSome o (λ log. option_map event_of (slice_get log place) ≡ Some event) → more ≡ journal ++ event ∷ []
    → IfSome o (λ log. map event_of (drop start log) ≡ more ++ map event_of (drop (place + 1) log))
journal_more None start place event journal more h g e = tt
journal_more (Some log) start place event journal more h g e =
    h ∙ ap (λ l. journal ++ l) (front log place event g) ∙ sym (append_assoc journal (event ∷ []) (map event_of (drop (place + 1) log))) ∙ ap (λ l. l ++ map event_of (drop (place + 1) log)) (sym e)

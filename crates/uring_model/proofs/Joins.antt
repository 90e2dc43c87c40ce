-- Moves of one call after another: what they took and posted, and what they make of a log, and of the state of any machine.
use Rattle.std.specs.Prelude.{◌≡◌, Bool, true, false, List, [], ◌∷◌, ◌++◌, map, Option, Some, None, refl}
use Rattle.std.proofs.lemmas.List.{map-append}
use Rattle.std.proofs.Common.{ap, sym, subst, ◌∙◌, append_assoc, append-nil}
use Rattle.uring_base.specs.declared.events.LogEvent.{LogEvent}
use Rattle.uring_base.specs.declared.events.Taken.{Taken}
use Rattle.uring_model.specs.Chosen.{choice, stops}
use Rattle.uring_model.specs.Moves.{Move, Turned, Took, Posted, Quieted, took, posted, logged, log_of, IsLogged}
use Rattle.uring_model.specs.Schedule.{Machine, State, EntryEnd, ByPost, Quietly, ended, posts_of, after_take, settled_by, Steps, IsServed}
use Rattle.uring_model.specs.Joins.{CallsJoin, NoCallStays}

-- what was taken and posted

pub took-append : (ms ns : List Move) → took (ms ++ ns) ≡ took ms ++ took ns
took-append [] ns = refl
took-append (Turned p ∷ ms) ns = took-append ms ns
took-append (Took t ∷ ms) ns = ap (λ ts. t ∷ ts) (took-append ms ns)
took-append (Posted c ∷ ms) ns = took-append ms ns
took-append (Quieted n ∷ ms) ns = took-append ms ns

pub posted-append : (ms ns : List Move) → posted (ms ++ ns) ≡ posted ms ++ posted ns
posted-append [] ns = refl
posted-append (Turned p ∷ ms) ns = posted-append ms ns
posted-append (Took t ∷ ms) ns = posted-append ms ns
posted-append (Posted c ∷ ms) ns = ap (λ cs. c ∷ cs) (posted-append ms ns)
posted-append (Quieted n ∷ ms) ns = posted-append ms ns

took_ends : (es : List EntryEnd) → took (map ended es) ≡ []
took_ends [] = refl
took_ends (ByPost c ∷ es) = took_ends es
took_ends (Quietly n ∷ es) = took_ends es

pub took_turn : (ts : List Taken) (es : List EntryEnd) → took (map Took ts ++ map ended es) ≡ ts
took_turn [] es = took_ends es
took_turn (t ∷ ts) es = ap (λ l. t ∷ l) (took_turn ts es)

posted_ends : (es : List EntryEnd) → posted (map ended es) ≡ posts_of es
posted_ends [] = refl
posted_ends (ByPost c ∷ es) = ap (λ l. c ∷ l) (posted_ends es)
posted_ends (Quietly n ∷ es) = posted_ends es

pub posted_turn : (ts : List Taken) (es : List EntryEnd) → posted (map Took ts ++ map ended es) ≡ posts_of es
posted_turn [] es = posted_ends es
posted_turn (t ∷ ts) es = posted_turn ts es

-- the log

pub log-append : (ms ns : List Move) → log_of (ms ++ ns) ≡ log_of ms ++ log_of ns
log-append ms ns = map-append logged ms ns

pub IsLogged-append : (a b c : Option (List LogEvent)) (ms ns : List Move) → IsLogged a ms b → IsLogged b ns c → IsLogged a (ms ++ ns) c
IsLogged-append None b c ms ns p q = let h : IsLogged None ns c = subst (λ x. IsLogged x ns c) p q in h
IsLogged-append (Some a) b c ms ns p q =
    let h : IsLogged (Some (a ++ log_of ms)) ns c = subst (λ x. IsLogged x ns c) p q in
    h ∙ ap Some (append_assoc a (log_of ms) (log_of ns) ∙ ap (λ l. a ++ l) (sym (log-append ms ns)))

pub IsLogged-none : (l : Option (List LogEvent)) → IsLogged l [] l
IsLogged-none None = refl
IsLogged-none (Some l) = ap Some (sym (append-nil l))

-- the state: a call makes no move, or begins with a turn, so what stood before it doesn't matter

abbrev pub BeginsTurn : List Move → Type 0
BeginsTurn [] = Unit {0}
BeginsTurn (Turned p ∷ ms) = Unit {0}
BeginsTurn (Took t ∷ ms) = ⊥
BeginsTurn (Posted c ∷ ms) = ⊥
BeginsTurn (Quieted n ∷ ms) = ⊥

module _ {W : Type 0} (m : Machine W) where
  pub from_turn : (over was : Bool) (a b : State W) (ms : List Move) → BeginsTurn ms → Steps m was a ms b → Steps m over a ms b
  from_turn over was a b [] t h = h
  from_turn over was a b (Turned p ∷ ms) t h = h
  from_turn over was a b (Took u ∷ ms) t h = absurd t
  from_turn over was a b (Posted c ∷ ms) t h = absurd t
  from_turn over was a b (Quieted n ∷ ms) t h = absurd t

  pub Steps-append : (over was : Bool) (a b c : State W) (ms ns : List Move) → Steps m over a ms b → BeginsTurn ns → Steps m was b ns c → Steps m over a (ms ++ ns) c
  Steps-append over was a b c [] ns h t k = from_turn over was a c ns t (subst (λ x. Steps m was x ns c) h k)
  Steps-append over was a b c (Turned p ∷ ms) ns h t k = Steps-append false was a b c ms ns h t k
  Steps-append over was a b c (Took u ∷ ms) ns h t k = (h.0, Steps-append false was (after_take a u) b c ms ns h.1 t k)
  Steps-append over was a b c (Posted u ∷ ms) ns h t k = (h.0, h.1, Steps-append (stops (choice a.choices)) was (settled_by m a h.1.cursor) b c ms ns h.2 t k)
  Steps-append over was a b c (Quieted n ∷ ms) ns h t k = (h.0, h.1, Steps-append false was (settled_by m a h.1.cursor) b c ms ns h.2 t k)

  pub served_begins : (a b : State W) (ms : List Move) → Steps m true a ms b → BeginsTurn ms
  served_begins a b [] h = tt
  served_begins a b (Turned p ∷ ms) h = tt
  served_begins a b (Took t ∷ ms) h = cc
  served_begins a b (Posted c ∷ ms) h = cc
  served_begins a b (Quieted n ∷ ms) h = cc

  -- moves of whole calls lead on from anything that was before
  pub served_from : (over : Bool) (a b : State W) (ms : List Move) → Steps m true a ms b → Steps m over a ms b
  served_from over a b ms h = from_turn over true a b ms (served_begins a b ms h) h

  pub served_join : (a b c : State W) (ms ns : List Move) → Steps m true a ms b → Steps m true b ns c → Steps m true a (ms ++ ns) c
  served_join a b c ms ns h k = Steps-append true true a b c ms ns h (served_begins b c ns k) k

  pub calls_join : CallsJoin m
  calls_join None b c ms ns p q = let h : IsServed m None ns c = subst (λ x. IsServed m x ns c) p q in h
  calls_join (Some a) None c ms ns p q = absurd (p tt)
  calls_join (Some a) (Some b) None ms ns p q = q
  calls_join (Some a) (Some b) (Some c) ms ns p q = served_join a b c ms ns p q

  pub no_call_stays : NoCallStays m
  no_call_stays None = refl
  no_call_stays (Some s) = refl

use Rattle.std.proofs.Common.{◌≡◌, ℕ, ◌<◌, List, [], Contains, true, false, length, Option, Some, None, IfSome, inl, inr, refl, ap, sym, subst, ◌∙◌, arith, length-append}
use Rattle.std.proofs.lemmas.Result.{err_from_is_err_and}
use Rattle.uring_model.specs.Machine.{Files}
use Rattle.uring_model.specs.Schedule as schedule
use Rattle.uring_model.specs.Refines.{IsPlainAndIdle}
use Rattle.uring_model.specs.Moves.{Move, log_of, posted, IsLogged}
use Rattle.uring_base.specs.declared.events.Taken.{Taken}
use Rattle.uring_base.specs.declared.events.LogEvent.{LogEvent}
use Rattle.uring_model.specs.declared.jobs.RunFault.{RunFault}
use Rattle.uring_model.specs.declared.jobs.RunFault.TheVariants as faults
use Rattle.ring_traits.specs.Lists.{Lists}
use Rattle.run_loop.specs.declared.entries.Offer.{Offer}
use Rattle.run_loop.specs.declared.slot.Slot.{Slot}
use Rattle.run_loop.specs.Slots.{count_open}
use Rattle.run_loop.specs.Driven.{Driven, IsGivenUp}
use Rattle.run_loop.specs.Turns.{RanInTurns}
use Rattle.uring_model.specs.Progress.{EachSettles}
use Rattle.run_loop.proofs.Posts.{slots-length}
use Rattle.run_loop.proofs.UserLemmas.{user_started, user_slots}
use Rattle.run_loop.proofs.Running.{Running, few_open, running_first, running_next, running_ran, next_faulted, next_smaller, prompt_end, stalled_end, whole_end, some_open, left_open, if_some, smaller, idled_below, next_of, started_more, next_moves, next_posts}
use Rattle.run_loop.proofs.TurnLemmas.{InTurns, in_turns_first, turns_next}
use Rattle.run_loop.proofs.Places.{advances_none, advances_by, places_then}
use Rattle.run_loop.proofs.drive.drive.Goals as goal

-- with nothing planned at first, one more round leaves the count of faults as the rounds before it did
still_calm : {W : Type 0} (mach : schedule.Machine W) (o p : Option (schedule.State W)) (ms : List Move) (before now : List ℕ) (first faults faults' : ℕ)
    → schedule.IsServed mach o ms p → (before ≡ [] → now ≡ []) → IfSome o (λ _. before ≡ [] → faults ≡ first) → IfSome p (λ _. ¬ Contains now 1 → faults' ≡ faults)
    → IfSome o (λ _. before ≡ [] → faults' ≡ first)
still_calm mach None p ms before now first faults faults' served empty calm counted = tt
still_calm mach (Some a) None ms before now first faults faults' served empty calm counted = absurd (served tt)
still_calm mach (Some a) (Some b) ms before now first faults faults' served empty calm counted = λ e. counted (λ has. let h = subst (λ l. Contains l 1) (empty e) has in absurd (omega (arith, h.1))) ∙ calm e

pub rounds-init : goal.rounds-init
unfolding running_first
rounds-init g c =
    let e = c.requires.empty in
    let h = c.requires.holds in
    let slots = c.requires.slots in
    let size = subst (λ o. IfSome o (λ l. (g.R.UserEnds.entries_fit c.args.engine.now.ring ≡ l.capacity) × (g.R.UserEnds.completions_fit c.args.engine.now.ring ≡ l.completion_capacity))) e.1 (g.met.R.UserEnds.sizes c.args.engine.now.ring) in
    let count : length c.args.table.now.slots.items ≡ length c.args.todo.now = ap length slots.0 ∙ slots-length 0 c.args.todo.now [] in (
      running_first _ _ _ _ _ _ _ _ _ _ _ _ c.args.todo.now g.R.UserEnds.offers_large _ _ c.model_laws.ensures e.0 e.1 e.2 e.3 (sym size.0) refl slots.0 slots.1 (subst (λ k. 0 < k) size.0 h.0, subst (λ k. 0 < k) size.1 h.1) c.requires.jobs.0 c.requires.jobs.1 c.requires.jobs.2 c.requires.jobs.3,
      c.requires.idle,
      omega (arith, count, slots.1),
      omega arith,
      λ p. p,
      c.requires.settled,
      if_some (g.P.Partner.state c.args.partner.now) (λ _. g.P.Partner.plan c.args.partner.now ≡ [] → g.P.Counts.faults c.args.partner.now ≡ g.P.Counts.faults c.args.partner.now) (λ _ _ _. refl),
      (advances_by _ _ 0 _ (sym slots.1) (advances_none _), advances_none _),
      sym size.1,
      if_some (g.P.Partner.state c.args.partner.now) (λ a. InTurns g.P.Partner.machine (g.R.UserEnds.entries_fit c.args.engine.now.ring) (g.R.UserEnds.completions_fit c.args.engine.now.ring) a [] (g.P.Partner.state c.args.partner.now)) (λ a told. in_turns_first g.P.Partner.machine _ _ a _ told),
    )

some_then : {A : Type 0} (o : Option A) (P Q : A → Type 0) → IfSome o P → ((a : A) → P a → Q a) → IfSome o Q
some_then None P Q h f = tt
some_then (Some a) P Q h f = f a h

at_some : {A : Type 0} (o : Option A) (a : A) (P : A → Type 0) → IfSome o P → o ≡ Some a → P a
at_some o a P h e = subst (λ x. IfSome x P) e h

-- no start, since memory lacked: the run so far
unserved : {W : Type 0} (mach : schedule.Machine W) (view : W → Files) (Plain : W → Type 0) {P R : Type 0} (log : P → Option (List LogEvent)) (state : P → Option (schedule.State W)) (lists : R → Option Lists) (first now new : P) (ring : R) (room : ℕ) (todo : List Taken) (started : ℕ) (slots : List Slot) (offers : List Offer) (capacity idle idled : ℕ) (e : RunFault)
    → Running mach view Plain log state lists first now ring room todo started slots offers capacity idle idled → 0 < count_open slots → idled < idle → (e ≡ faults.NoMemory) × (new ≡ now) → (r : Driven mach log state first new offers capacity idle) × IsGivenUp offers idle (log_of r.ran.moves) e
unserved mach view Plain log state lists first now new ring room todo started slots offers capacity idle idled e run left waits h =
    let few = few_open mach view Plain log state lists first now ring room todo started slots offers capacity idle idled run left waits in
    let driven : Driven mach log state first now offers capacity idle = running_ran mach view Plain log state lists first now ring room todo started slots offers capacity idle idled run few in
    subst (λ n. (r : Driven mach log state first n offers capacity idle) × IsGivenUp offers idle (log_of r.ran.moves) e) (sym h.1) (driven, subst (IsGivenUp offers idle (log_of driven.ran.moves)) (sym h.0) tt)

pub returns-in_err-went-clause-run : goal.returns-in_err-went-clause-run
returns-in_err-went-clause-run g c =
    let s = c.rounds.invariant in
    let d = c.in_err-went.ensures in
    let p = err_from_is_err_and c.from_residual.result c.from_residual.ensures.1 in
    let left = some_open _ _ c.is_whole.ensures.1 c.rounds-test.true in
    let n : (r : Driven g.P.Partner.machine g.P.Partner.log g.P.Partner.state c.args.partner.now c.round.new.partner c.args.todo.now (g.R.UserEnds.entries_fit c.args.engine.now.ring) c.args.idle) × IsGivenUp c.args.todo.now c.args.idle (log_of r.ran.moves) c.in_err-went.field-0.0 = elim d.err [
      | inl h ↦ unserved _ _ _ _ _ _ _ _ _ _ _ _ _ _ c.args.todo.now _ _ _ _ s.0 left s.1 h
      | inr h ↦ next_faulted _ _ _ _ _ _ _ _ _ _ _ _ _ _ _ _ _ _ _ c.args.todo.now _ _ _ _ (next_of _ _ _ _ _ _ _ _ _ _ _ _ _ _ _ g.R.UserEnds.offers_large _ _ _ _ c.args.todo.now _ _ _ _ c.model_laws.ensures s.0 h.0 g.R.Rings.keeps h.1 left s.1)
    ] in
    (n.0, rw p.1 (subst (λ e. IsGivenUp c.args.todo.now c.args.idle (log_of n.0.ran.moves) e) (sym p.2) n.1))

pub returns-in_err-went-clause-calm : goal.returns-in_err-went-clause-calm
returns-in_err-went-clause-calm g c =
    let s = c.rounds.invariant in
    still_calm _ _ _ _ _ _ _ _ _ s.0.states s.4 s.6 c.in_err-went.ensures.counted

pub returns-then-idled-idle-clause-run : goal.returns-then-idled-idle-clause-run
returns-then-idled-idle-clause-run g c =
    let s = c.rounds.invariant in
    let d = c.in_ok-went.ensures in
    let x = next_of _ _ _ _ _ _ _ _ _ _ _ _ _ _ _ g.R.UserEnds.offers_large _ _ _ _ c.args.todo.now _ _ _ _ c.model_laws.ensures s.0 d.round.0 g.R.Rings.keeps d.inside (some_open _ _ c.is_whole.ensures.1 c.rounds-test.true) s.1 in
    let y = running_next _ _ _ _ _ _ _ _ _ _ _ _ _ _ _ _ _ _ _ c.args.todo.now _ _ _ _ _ c.idle_after-idled.result x d.calm c.idle_after-idled.ensures in
    let e = stalled_end _ _ _ _ _ _ _ _ _ _ _ _ _ c.args.todo.now _ _ _ y c.if-idled-idle.true (left_open _ _ _ y.resting c.if-idled-idle.true c.requires.idle) in
    (running_ran _ _ _ _ _ _ _ _ _ _ _ _ _ c.args.todo.now _ _ _ y e.0, e.1)

pub returns-then-idled-idle-clause-calm : goal.returns-then-idled-idle-clause-calm
returns-then-idled-idle-clause-calm g c =
    let s = c.rounds.invariant in
    still_calm _ _ _ _ _ _ _ _ _ s.0.states s.4 s.6 c.in_ok-went.ensures.counted

pub returns-then-idled-idle-clause-unstalled : goal.returns-then-idled-idle-clause-unstalled
returns-then-idled-idle-clause-unstalled g c =
    let s = c.rounds.invariant in
    let d = c.in_ok-went.ensures in
    let x = next_of _ _ _ _ _ _ _ _ _ _ _ _ _ _ _ g.R.UserEnds.offers_large _ _ _ _ c.args.todo.now _ _ _ _ c.model_laws.ensures s.0 d.round.0 g.R.Rings.keeps d.inside (some_open _ _ c.is_whole.ensures.1 c.rounds-test.true) s.1 in
    let y = running_next _ _ _ _ _ _ _ _ _ _ _ _ _ _ _ _ _ _ _ c.args.todo.now _ _ _ _ _ c.idle_after-idled.result x d.calm c.idle_after-idled.ensures in
    if_some (g.P.Partner.state c.args.partner.now) (λ a. IsPlainAndIdle g.P.Partner.Plain a → true ≡ false) (λ a told idle. absurd (omega (arith, (y.prompt a told idle).0, c.if-idled-idle.true, c.requires.idle)))

pub rounds-smaller : goal.rounds-smaller
rounds-smaller g c =
    let s = c.rounds.invariant in
    let d = c.in_ok-went.ensures in
    let x = next_of _ _ _ _ _ _ _ _ _ _ _ _ _ _ _ g.R.UserEnds.offers_large _ _ _ _ c.args.todo.now _ _ _ _ c.model_laws.ensures s.0 d.round.0 g.R.Rings.keeps d.inside (some_open _ _ c.is_whole.ensures.1 c.rounds-test.true) s.1 in
    smaller c.in_ok-went.went _ _ _ _ _ (next_smaller _ _ _ _ _ _ _ _ _ _ _ _ _ _ _ g.R.UserEnds.offers_large _ _ _ _ c.args.todo.now _ _ _ _ x) c.idle_after-idled.ensures (omega (arith, s.1))

pub rounds-preserved : goal.rounds-preserved
rounds-preserved g c =
    let s = c.rounds.invariant in
    let d = c.in_ok-went.ensures in
    let x = next_of _ _ _ _ _ _ _ _ _ _ _ _ _ _ _ g.R.UserEnds.offers_large _ _ _ _ c.args.todo.now _ _ _ _ c.model_laws.ensures s.0 d.round.0 g.R.Rings.keeps d.inside (some_open _ _ c.is_whole.ensures.1 c.rounds-test.true) s.1 in
    let y = running_next _ _ _ _ _ _ _ _ _ _ _ _ _ _ _ _ _ _ _ c.args.todo.now _ _ _ _ _ c.idle_after-idled.result x d.calm c.idle_after-idled.ensures in
    let before = user_slots _ _ _ _ _ _ s.0.user in
    let after = user_slots _ _ _ _ _ _ y.user in (
      y,
      idled_below c.in_ok-went.went _ _ _ c.idle_after-idled.ensures (omega (arith, s.1)) c.if-idled-idle.false,
      omega (arith, before, after, s.2, d.inside),
      omega (arith, s.3, d.cause.later),
      λ p. d.plan (s.4 p),
      d.settled,
      still_calm _ _ _ _ _ _ _ _ _ s.0.states s.4 s.6 d.counted,
      places_then g.R.Rings.offer_place g.R.Rings.reap_place c.args.engine.now.ring c.rounds.engine.ring c.round.new.engine.ring _ _ _ _ _ _ s.7 d.round.1 (started_more _ _ _ g.R.UserEnds.offers_large _ _ d.round.0.offered d.inside) (sym (length-append (posted s.0.ms) (posted d.round.0.ms)) ∙ ap length (sym (c.model_laws.ensures.join.posts s.0.ms d.round.0.ms)) ∙ ap (λ ms. length (posted ms)) (sym (next_moves _ _ _ _ _ _ _ _ _ _ _ _ _ _ _ _ _ _ _ c.args.todo.now _ _ _ _ _ c.idle_after-idled.result x d.calm c.idle_after-idled.ensures))),
      next_posts _ _ _ _ _ _ _ _ _ _ _ _ _ _ _ _ _ _ _ c.args.todo.now _ _ _ _ _ c.idle_after-idled.result x d.calm c.idle_after-idled.ensures ∙ s.8,
      some_then (g.P.Partner.state c.args.partner.now) _ (λ a. InTurns g.P.Partner.machine (g.R.UserEnds.entries_fit c.args.engine.now.ring) (g.R.UserEnds.completions_fit c.args.engine.now.ring) a y.ms (g.P.Partner.state c.round.new.partner)) s.9 (λ a t.
          subst (λ ms. InTurns g.P.Partner.machine (g.R.UserEnds.entries_fit c.args.engine.now.ring) (g.R.UserEnds.completions_fit c.args.engine.now.ring) a ms (g.P.Partner.state c.round.new.partner)) (sym (next_moves _ _ _ _ _ _ _ _ _ _ _ _ _ _ _ _ _ _ _ c.args.todo.now _ _ _ _ _ c.idle_after-idled.result x d.calm c.idle_after-idled.ensures))
          (turns_next _ _ _ _ _ _ _ _ _ _ _ _ _ _ _ _ _ _ _ c.args.todo.now _ _ _ _ x _ a s.8 t)),
    )

pub returns-clause-run : goal.returns-clause-run
returns-clause-run g c =
    let s = c.rounds.invariant in
    let none = c.is_whole.ensures.0 c.rounds-test.false in
    (running_ran _ _ _ _ _ _ _ _ _ _ _ _ _ c.args.todo.now _ _ _ s.0 (whole_end _ _ _ _ _ _ _ _ _ _ _ _ _ c.args.todo.now _ _ _ s.0 none), (none, s.0.user.told_slots, s.0.expected, (λ a told idle. prompt_end _ _ _ _ _ _ _ _ _ _ _ _ _ c.args.todo.now _ _ _ c.model_laws.ensures s.0 a told idle), (advances_by _ _ _ _ (user_started _ _ _ g.R.UserEnds.offers_large _ _ _ s.0.user s.5.ahead none) s.7.0, s.7.1)))

pub returns-clause-turns : goal.returns-clause-turns
returns-clause-turns g c =
    let s = c.rounds.invariant in
    if_some (g.P.Partner.state c.args.partner.now) (λ a. RanInTurns g.P.Partner.machine g.P.Partner.Plain g.P.Partner.log (g.R.UserEnds.entries_fit c.args.engine.now.ring) (g.R.UserEnds.completions_fit c.args.engine.now.ring) a c.args.partner.now c.rounds.partner) (λ a told.
    let t = at_some (g.P.Partner.state c.args.partner.now) a _ s.9 told in record {
      taken = t.taken;
      fits = t.fits;
      settles = λ rests. subst (EachSettles false) t.moves (s.0.prompt a told rests).1;
      logs = subst (λ ms. IsLogged (g.P.Partner.log c.args.partner.now) ms (g.P.Partner.log c.rounds.partner)) t.moves s.0.logs;
    })

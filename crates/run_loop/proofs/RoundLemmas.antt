-- What a round makes of the lists of its ring, and of its jobs.
use Rattle.std.proofs.Common.{◌≡◌, ℕ, ◌⊎◌, inl, inr, Bool, true, false, ◌||◌, nat_lt, Result, Ok, Err, is_ok, IfOk, OnOk, ◌+◌, List, [], ◌++◌, length, map, Option, Some, None, IfSome, refl, ap, sym, subst, ◌∙◌, append-nil, length-append, arith}
use Rattle.std.specs.Bool.{OnTrue}
use Rattle.std.proofs.lemmas.List.{length-map}
use Rattle.uring_base.specs.declared.events.Taken.{Taken}
use Rattle.uring_base.specs.declared.events.Completion.{Completion}
use Rattle.uring_base.specs.declared.events.LogEvent.{LogEvent}
use Rattle.uring_model.specs.Moves.{Move, took, posted}
use Rattle.uring_model.specs.Progress.{moves_of_turn}
use Rattle.uring_model.specs.Schedule as schedule
use Rattle.uring_model.specs.declared.jobs.RunFault.{RunFault}
use Rattle.ring_setup.specs.declared.parameters.Parameters.{Parameters}
use Rattle.ring_traits.specs.Lists.{Lists, Moves, HasRoom, WhereTold, Becomes, all_published, free_of}
use Rattle.partner_traits.specs.Calls.{IsCall, IsFullTurn, IsWholeTurn}
use Rattle.uring_submit.specs.declared.error.SubmitError.{SubmitError}
use Rattle.uring_submit.specs.declared.error.SubmitError.TheVariants as submit
use Rattle.rent_engine.specs.declared.fault.EngineFault.{EngineFault}
use Rattle.rent_engine.specs.declared.ops.TurnReport.{TurnReport}
use Rattle.rent_table.specs.Ops.{Ops}
use Rattle.rent_table.specs.Steps.{KeptSteps}
use Rattle.rent_engine.specs.Ops.{Pumps}
use Rattle.rent_engine.specs.Engines.{Reaped, finals_in}
use Rattle.rent_engine.specs.Faults.{ending, engine_fault_of}
use Rattle.rent_engine.specs.Turns.{TurnEnds, EngineTurned}
use Rattle.run_loop.specs.declared.slot.Slot.{Slot}
use Rattle.run_loop.specs.Slots.{any_final}
use Rattle.run_loop.specs.Flights.{AreOperated, NoneResolved}
use Rattle.run_loop.specs.Rounds.{pushed_more, IsCalm, PlacesGoOn, Round, ReapEnds, IsEntered, engine_fault}
use Rattle.run_loop.proofs.LandLemmas.{Landed, landed_by, fault_ends, any_by_count}
use Rattle.run_loop.proofs.Places.{places_of, advances_by}
use Rattle.run_loop.proofs.FlightLemmas.{none_of}

-- what a round reaped, and whether it entered
abbrev pub RoundEnds : ℕ → List Slot → List Taken → List Completion → List Slot → Bool → Result Bool RunFault → Type 0
RoundEnds started slots ts cs slots' entered answer = ReapEnds started slots cs slots' answer × IsEntered ts cs entered answer

abbrev pub offered_to : Lists → List Taken → Lists
offered_to a ts = all_published (pushed_more ts a)

pub record Went (kept : Completion → Completion) (a : Lists) (ts : List Taken) (ms : List Move) (cs : List Completion) (last : Option Lists) : Type 0 where
  pub after : Lists
  pub told : last ≡ Some after
  pub taken : (offered_to a ts).published ≡ took ms ++ after.published
  pub pushed : after.pushed ≡ []
  pub held : after.completion_capacity ≡ a.completion_capacity
  pub capacity : after.capacity ≡ a.capacity
  pub posts : a.completions ++ map kept (posted ms) ≡ cs ++ after.completions

pub entered_at : (a : Lists) (ts : List Taken) (o0 o1 o2 : Option Lists) → o0 ≡ Some a → Becomes o0 (pushed_more ts) o1 → Becomes o1 all_published o2 → o2 ≡ Some (offered_to a ts)
entered_at a ts o0 o1 o2 h0 p q =
    let h1 : o1 ≡ Some (pushed_more ts a) = subst (λ o. Becomes o (pushed_more ts) o1) h0 p in
    subst (λ o. Becomes o all_published o2) h1 q

-- the partner entered, and all was pumped
pumped_then : (kept : Completion → Completion) (a : Lists) (ts : List Taken) (ms : List Move) (cs : List Completion) (o3 o5 : Option Lists) → WhereTold (λ l m. Moves kept l (took ms) (posted ms) m) (Some (offered_to a ts)) o3 → WhereTold (Reaped cs) o3 o5 → Went kept a ts ms cs o5
pumped_then kept a ts ms cs None o5 m r = absurd (m tt)
pumped_then kept a ts ms cs (Some l) None m r = absurd (r tt)
pumped_then kept a ts ms cs (Some l) (Some b) m r = record {
  after = b;
  told = refl;
  taken = m.taken ∙ ap (λ x. took ms ++ x) (sym (r.published ∙ ap (λ x. l.published ++ x) m.pushed ∙ append-nil l.published));
  pushed = r.pushed;
  held = r.completion_capacity ∙ m.completion_capacity;
  capacity = r.capacity ∙ m.capacity;
  posts = sym m.posted ∙ r.completions;
}

-- the partner entered, and nothing else was done
entered_then : (kept : Completion → Completion) (a : Lists) (ts : List Taken) (ms : List Move) (o3 : Option Lists) → WhereTold (λ l m. Moves kept l (took ms) (posted ms) m) (Some (offered_to a ts)) o3 → Went kept a ts ms [] o3
entered_then kept a ts ms None m = absurd (m tt)
entered_then kept a ts ms (Some l) m = record {
  after = l;
  told = refl;
  taken = m.taken;
  pushed = m.pushed;
  held = m.completion_capacity;
  capacity = m.capacity;
  posts = sym m.posted;
}

-- how a turn ended: all that was reaped was taken, or the partner's error was handed on
abbrev pub Ended : Bool → ℕ → Ops → List Completion → Ops → Result TurnReport EngineFault → Type 0
Ended true taken ops cs ops' result = Pumps ops cs ops' (ending result) × IfOk result (λ report. (report.taken ≡ taken) × (report.finals ≡ finals_in cs))
Ended false taken ops cs ops' result = (e : SubmitError) × (result ≡ Err (engine_fault_of e))

pub record Did (kept : Completion → Completion) (a : Lists) (ts : List Taken) (ms : List Move) (ops ops' : Ops) (result : Result TurnReport EngineFault) (entered : Bool) (last : Option Lists) (room waiting : ℕ) : Type 0 where
  pub cs : List Completion
  pub went : Went kept a ts ms cs last
  pub ended : Ended entered (length (took ms)) ops cs ops' result
  pub seen : OnTrue entered (IfSome last (λ l. (room ≡ free_of l) × (waiting ≡ length l.completions)))

counts_of : (cs : List Completion) (taken all : ℕ) (result : Result TurnReport EngineFault) → taken ≡ all → IfOk result (λ report. (report.taken ≡ taken) × (report.finals ≡ finals_in cs)) → IfOk result (λ report. (report.taken ≡ all) × (report.finals ≡ finals_in cs))
counts_of cs taken all (Ok report) e h = (h.0 ∙ e, h.1)
counts_of cs taken all (Err error) e h = tt

-- a full ring, as the starts saw it
full_after : (a : Lists) (ts : List Taken) (room room' : ℕ) → room ≡ free_of a → room ≡ room' + length ts → room' ≡ 0 → free_of (pushed_more ts a) ≡ 0
full_after a ts room room' e f z = let n : length (a.pushed ++ ts) ≡ length a.pushed + length ts = length-append a.pushed ts in omega (arith, e, f, z, n)

-- where the lists are told, a turn with at least the room that was known is a turn with the room that they have
whole_of_full : {W : Type 0} (mach : schedule.Machine W) (o : Option (schedule.State W)) (known space : ℕ) (l : Option Lists) (ms : List Move) → IsFullTurn mach o known space l ms → IsWholeTurn mach o l ms
whole_of_full mach None known space l ms full = tt
whole_of_full mach (Some a) known space None ms full = tt
whole_of_full mach (Some a) known space (Some l) ms full = record { ts = full.ts; moves = full.moves ∙ ap (λ t. moves_of_turn (length full.ts) full.ts t.ends) full.told }

pub posts_are : (kept : Completion → Completion) (a : Lists) (ms : List Move) (cs ds : List Completion) → a.completions ≡ [] → a.completions ++ map kept (posted ms) ≡ cs ++ ds → map kept (posted ms) ≡ cs ++ ds
posts_are kept a ms cs ds e h = ap (λ l. l ++ map kept (posted ms)) (sym e) ∙ h

module _ {W : Type 0} (mach : schedule.Machine W) {P R : Type 0} (log : P → Option (List LogEvent)) (state : P → Option (schedule.State W)) (lists : R → Option Lists) (ready space : R → ℕ) (kept : Completion → Completion) (moved : R → List Taken → List Completion → R → Type 0) (flags_word : R → ℕ) (used : R → List Taken → List Completion → R → Type 0) (room waiting : R → ℕ) where
  did_by : (answer : Result ℕ SubmitError) (left to : R) (ops ops' : Ops) (steps steps' : KeptSteps) (result : Result TurnReport EngineFault) (a : Lists) (ts : List Taken) (ms : List Move) → WhereTold (λ l m. Moves kept l (took ms) (posted ms) m) (Some (offered_to a ts)) (lists left) → IfOk answer (λ n. n ≡ length (took ms)) → TurnEnds mach log state lists ready space moved flags_word used room waiting answer left to ops ops' steps steps' result
      → Did kept a ts ms ops ops' result (is_ok answer) (lists to) (room to) (waiting to)
  did_by (Ok taken) left to ops ops' steps steps' result a ts ms m n e = record {
    cs = e.0.completions;
    went = pumped_then kept a ts ms e.0.completions (lists left) (lists to) m e.0.told;
    ended = (e.0.completed, counts_of e.0.completions taken (length (took ms)) result n e.1);
    seen = e.0.seen;
  }
  did_by (Err error) left to ops ops' steps steps' result a ts ms m n e = record {
    cs = [];
    went = subst (λ r. Went kept a ts ms [] (lists r)) (sym e.0) (entered_then kept a ts ms (lists left) m);
    ended = (error, e.3);
    seen = tt;
  }

  -- a turn that succeeds reaps all that was posted
  reaped_by : (answer : Result ℕ SubmitError) (left to : R) (ops ops' : Ops) (steps steps' : KeptSteps) (result : Result TurnReport EngineFault) (a : Lists) (ts : List Taken) (ms : List Move) → WhereTold (λ l m. Moves kept l (took ms) (posted ms) m) (Some (offered_to a ts)) (lists left) → TurnEnds mach log state lists ready space moved flags_word used room waiting answer left to ops ops' steps steps' result
      → (report : TurnReport) → result ≡ Ok report → a.completions ≡ [] → waiting to ≡ 0 → (cs : List Completion) × used left [] cs to × (length cs ≡ length (posted ms))
  reaped_by (Ok taken) left to ops ops' steps steps' result a ts ms m e report ok first none =
      let went = pumped_then kept a ts ms e.0.completions (lists left) (lists to) m e.0.told in
      let seen : (room to ≡ free_of went.after) × (waiting to ≡ length went.after.completions) = subst (λ q. IfSome q (λ l. (room to ≡ free_of l) × (waiting to ≡ length l.completions))) went.told e.0.seen in
      let all : map kept (posted ms) ≡ e.0.completions = posts_are kept a ms e.0.completions went.after.completions first went.posts ∙ ap (λ l. e.0.completions ++ l) (none_of went.after.completions (sym seen.1 ∙ none)) ∙ append-nil e.0.completions in
      (e.0.completions, e.0.uses, ap length (sym all) ∙ length-map (posted ms) kept)
  reaped_by (Err error) left to ops ops' steps steps' result a ts ms m e report ok first none = let bad : Err (engine_fault_of error) ≡ Ok report = sym e.3 ∙ ok in cc

  module _ (moved_told : (a b : R) (ts : List Taken) (cs : List Completion) → moved a ts cs b → WhereTold (λ l m. Moves kept l ts cs m) (lists a) (lists b)) (fits : (r : R) → IfSome (lists r) HasRoom)
      (params : Parameters) (old new : P) (from mid to : R) (ops ops' : Ops) (steps steps' : KeptSteps) (result : Result TurnReport EngineFault) (t : EngineTurned mach log state lists ready space moved flags_word used room waiting params old new mid to ops ops' steps steps' result)
      (a : Lists) (ts : List Taken) (told : lists from ≡ Some a) (begun : Becomes (lists from) (pushed_more ts) (lists mid)) where
    at_is : lists t.submitted.shown ≡ Some (offered_to a ts)
    at_is = entered_at a ts (lists from) (lists mid) (lists t.submitted.shown) told begun t.submitted.told

    abbrev moves : List Move
    moves = t.submitted.enters.moves

    abbrev pub entered : Bool
    entered = is_ok t.answer

    pub posts : List Completion
    posts = map kept (posted moves)

    pub turn_did : Did kept a ts moves ops ops' result entered (lists to) (room to) (waiting to)
    turn_did =
        did_by t.answer t.left to ops ops' steps steps' result a ts moves
        (subst (λ o. WhereTold (λ l m. Moves kept l (took moves) (posted moves) m) o (lists t.left)) at_is (moved_told t.submitted.shown t.left (took moves) (posted moves) t.submitted.enters.made.sides))
        t.submitted.enters.taken
        t.ends

    -- the positions go on by what was offered and by what was posted
    pub round_places : (offer_place reap_place : R → ℕ)
        → ((a b : R) (ts : List Taken) (cs : List Completion) → used a ts cs b → PlacesGoOn offer_place reap_place a b (length ts) (length cs))
        → ((a b : R) (ts : List Taken) (cs : List Completion) → moved a ts cs b → (offer_place b ≡ offer_place a) × (reap_place b ≡ reap_place a))
        → used from ts [] mid → (last : R) → used to [] [] last → (report : TurnReport) → result ≡ Ok report → a.completions ≡ [] → waiting to ≡ 0 → PlacesGoOn offer_place reap_place from last (length ts) (length (posted moves))
    round_places offer_place reap_place used_places moved_places offers last polls report ok first none =
        let r = reaped_by t.answer t.left to ops ops' steps steps' result a ts moves
        (subst (λ o. WhereTold (λ l m. Moves kept l (took moves) (posted moves) m) o (lists t.left)) at_is (moved_told t.submitted.shown t.left (took moves) (posted moves) t.submitted.enters.made.sides))
        t.ends report ok first none in
        let p = places_of used moved offer_place reap_place used_places moved_places from mid t.submitted.shown t.left to last ts (took moves) r.0 (posted moves) offers t.submitted.publishes t.submitted.enters.made.sides r.1 polls in
        (p.0, advances_by (reap_place from) (reap_place last) (length r.0) (length (posted moves)) r.2 p.1)

    full_whole : (answer : Result ℕ SubmitError) (o : Option Lists) → OnOk answer (IsFullTurn mach (state old) (ready t.submitted.shown) (space t.submitted.shown) o moves) → OnOk answer (IsWholeTurn mach (state old) o moves)
    full_whole (Ok taken) o h = whole_of_full mach (state old) (ready t.submitted.shown) (space t.submitted.shown) o moves h
    full_whole (Err e) o h = tt

    whole_by : (answer : Result ℕ SubmitError) (o : Option Lists) → OnOk answer (IsWholeTurn mach (state old) o moves) → OnTrue (is_ok answer) (IsWholeTurn mach (state old) o moves)
    whole_by (Ok taken) o h = h
    whole_by (Err e) o h = tt

    pub round_of : (last : R) → lists last ≡ lists to → IsCalm a (room from) → (todo todo' : List Taken) → todo ≡ ts ++ todo' → room from ≡ room mid + length ts → (todo' ≡ []) ⊎ (room mid ≡ 0) → (started : ℕ) (slots slots' : List Slot) (answer : Result Bool RunFault)
        → RoundEnds started slots (took moves) (map kept (posted moves)) slots' entered answer → Round mach log state lists kept old new from last todo todo' started slots slots' answer
    round_of last same calm todo todo' split places full started slots slots' answer ends = record {
      ts = ts;
      ms = moves;
      entered = entered;
      before = a;
      at = offered_to a ts;
      after = turn_did.went.after;
      told_before = told;
      told_after = same ∙ turn_did.went.told;
      offered = split;
      full = elim full [ inl e ↦ inl e | inr z ↦ inr (full_after a ts (room from) (room mid) calm.seen places z) ];
      published = refl;
      fits = subst (λ o. IfSome o HasRoom) at_is (fits t.submitted.shown);
      logs = t.submitted.enters.made.logs;
      states = t.submitted.enters.made.states;
      to_submit = t.submitted.published;
      enough = let n : t.submitted.published ≡ length (offered_to a ts).published = subst (λ o. IfSome o (λ l. t.submitted.published ≡ length l.published)) at_is t.submitted.counted in omega (arith, n);
      call = subst (λ o. IsCall entered t.submitted.published o moves) at_is t.submitted.enters.call;
      whole = whole_by t.answer (Some (offered_to a ts)) (subst (λ o. OnOk t.answer (IsWholeTurn mach (state old) o moves)) at_is (full_whole t.answer (lists t.submitted.shown) t.submitted.enters.full));
      taken = turn_did.went.taken;
      pushed = turn_did.went.pushed;
      capacity = turn_did.went.capacity;
      completion_capacity = turn_did.went.held;
      enters = ends.1;
      ends = ends.0;
    }

    -- with the positions
    pub placed_round : (offer_place reap_place : R → ℕ) → (last : R) → lists last ≡ lists to → IsCalm a (room from) → (todo todo' : List Taken) → todo ≡ ts ++ todo' → room from ≡ room mid + length ts → (todo' ≡ []) ⊎ (room mid ≡ 0) → (started : ℕ) (slots slots' : List Slot) (answer : Result Bool RunFault)
        → RoundEnds started slots (took moves) (map kept (posted moves)) slots' entered answer → PlacesGoOn offer_place reap_place from last (length ts) (length (posted moves)) → (r : Round mach log state lists kept old new from last todo todo' started slots slots' answer) × PlacesGoOn offer_place reap_place from last (length r.ts) (length (posted r.ms))
    unfolding round_of
    placed_round offer_place reap_place last same calm todo todo' split places full started slots slots' answer ends on = (round_of last same calm todo todo' split places full started slots slots' answer ends, on)

-- how a round ends, by how its turn did

pub fault_by : (begun : ℕ) (slots slots' : List Slot) (jobs : List ℕ) (ops ops' : Ops) (ts : List Taken) (cs ds posts : List Completion) (entered : Bool) (fault : EngineFault) → AreOperated ops begun slots jobs → NoneResolved ops → posts ≡ cs ++ ds → Ended entered (length ts) ops cs ops' (Err fault)
    → RoundEnds begun slots ts posts slots' entered (Err (engine_fault fault))
fault_by begun slots slots' jobs ops ops' ts cs ds posts true fault a n e h = (
  subst (λ x. ReapEnds begun slots x slots' (Err (engine_fault fault))) (sym e) (fault_ends begun slots slots' jobs ops ops' cs ds fault a n h.0),
  λ _. refl,
)
fault_by begun slots slots' jobs ops ops' ts cs ds posts false fault a n e (error, h) =
    let same : fault ≡ engine_fault_of error = cc in
    subst (λ f. RoundEnds begun slots ts posts slots' false (Err (engine_fault f))) (sym same) (handed_on error)
  where
    handed_on : (error : SubmitError) → RoundEnds begun slots ts posts slots' false (Err (engine_fault (engine_fault_of error)))
    handed_on submit.Exists = (tt, λ bad. bad)
    handed_on submit.NotRegistered = (tt, λ bad. bad)
    handed_on (submit.Fault errno) = (tt, λ bad. bad)
    handed_on submit.NoMemory = (tt, λ bad. bad)

-- a turn that succeeded

ended_ok : (entered : Bool) (taken : ℕ) (ops : Ops) (cs : List Completion) (ops' : Ops) (report : TurnReport) → Ended entered taken ops cs ops' (Ok report) → (entered ≡ true) × Pumps ops cs ops' (Ok tt) × (report.taken ≡ taken) × (report.finals ≡ finals_in cs)
ended_ok true taken ops cs ops' report h = (refl, h.0, h.1.0, h.1.1)
ended_ok false taken ops cs ops' report h = let e : Ok report ≡ Err (engine_fault_of h.0) = h.1 in cc

-- all that was posted was taken, nothing of it strange; and the user sees how much fits
pub record Turned (begun : ℕ) (slots : List Slot) (jobs : List ℕ) (ts : List Taken) (posts : List Completion) (ops' : Ops) (report : TurnReport) (entered : Bool) (after : Lists) (room : ℕ) : Type 0 where
  pub landed : Landed begun slots jobs posts ops'
  pub enters : IsEntered ts posts entered (Ok (nat_lt 0 report.taken || nat_lt 0 report.finals))
  pub none : after.completions ≡ []
  pub seen : room ≡ free_of after

pub turned_by : (kept : Completion → Completion) (a : Lists) (ts : List Taken) (ms : List Move) (ops ops' : Ops) (report : TurnReport) (entered : Bool) (last : Option Lists) (room waiting : ℕ) → (d : Did kept a ts ms ops ops' (Ok report) entered last room waiting) → a.completions ≡ [] → waiting ≡ 0
    → (begun : ℕ) (slots : List Slot) (jobs : List ℕ) → AreOperated ops begun slots jobs → NoneResolved ops → Turned begun slots jobs (took ms) (map kept (posted ms)) ops' report entered d.went.after room
turned_by kept a ts ms ops ops' report entered last room waiting d first none begun slots jobs o n =
    let e = ended_ok entered (length (took ms)) ops d.cs ops' report d.ended in
    let s : IfSome last (λ l. (room ≡ free_of l) × (waiting ≡ length l.completions)) = subst (λ b. OnTrue b (IfSome last (λ l. (room ≡ free_of l) × (waiting ≡ length l.completions)))) e.0 d.seen in
    let here : (room ≡ free_of d.went.after) × (waiting ≡ length d.went.after.completions) = subst (λ q. IfSome q (λ l. (room ≡ free_of l) × (waiting ≡ length l.completions))) d.went.told s in
    let left : d.went.after.completions ≡ [] = none_of d.went.after.completions (sym here.1 ∙ none) in
    let same : map kept (posted ms) ≡ d.cs = posts_are kept a ms d.cs d.went.after.completions first d.went.posts ∙ ap (λ l. d.cs ++ l) left ∙ append-nil d.cs in
    record {
      landed = subst (λ cs. Landed begun slots jobs cs ops') (sym same) (landed_by begun slots jobs ops ops' d.cs o n e.1);
      enters = (e.0, let finals = ap any_final same ∙ any_by_count d.cs report.finals e.3 in λ i. nat_lt 0 (e.2 i) || sym finals i);
      none = left;
      seen = here.0;
    }

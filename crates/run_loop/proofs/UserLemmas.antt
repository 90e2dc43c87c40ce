-- The rounds of a run by what the user offered and reaped, one after another.
use Rattle.std.proofs.Common.{◌≡◌, ℕ, ◌+◌, ◌<◌, ◌≤◌, ◌⊎◌, inl, inr, zero, suc, Bool, true, false, ◌||◌, not, cond, nat_lt, Result, Ok, Err, OnOk, IfErr, Option, List, [], ◌∷◌, ◌++◌, length, map, slice_get, slice_set, Some, None, refl, ap, sym, subst, ◌∙◌, append_assoc, append-nil, length-append, arith}
use Rattle.std.proofs.lemmas.Bool.Decides.{nat_tests}
use Rattle.std.proofs.lemmas.List.{length-map}
use Rattle.uring_base.specs.declared.events.Taken.{Taken}
use Rattle.uring_base.specs.declared.events.Completion.{Completion}
use Rattle.uring_base.specs.Completions.{is_final}
use Rattle.uring_model.specs.declared.jobs.RunFault.{RunFault}
use Rattle.uring_model.specs.declared.jobs.RunFault.TheVariants as faults
use Rattle.uring_model.specs.Moves.{Posted, posted, log_of}
use Rattle.uring_model.specs.Progress.{turns}
use Rattle.uring_model.specs.Strange.{nothing_seen, all_seen, is_answered, ended_in, first_strange}
use Rattle.ring_traits.specs.Lists.{as_offered}
use Rattle.run_loop.specs.declared.entries.Offer.{Offer}
use Rattle.run_loop.specs.declared.slot.Slot.{Slot}
use Rattle.run_loop.specs.declared.slot.Slot.TheVariants.{Open, Done}
use Rattle.run_loop.specs.Entries.{all_taken, lends_in, quiets_in}
use Rattle.run_loop.specs.Flights.{AreAhead}
use Rattle.run_loop.specs.Rounds.{is_partner_fault, is_stranger_fault}
use Rattle.run_loop.specs.Slots.{count_open, slots_from, is_strange_at, is_unexpected, land_in, land_one, land_all, all_closed, stranger_among}
use Rattle.run_loop.specs.Told.{Ending, outcome_from, unposted}
use Rattle.run_loop.specs.UserRounds.{UserSent, UserRun, UserRound, UserRounds, EndsAtStranger, EndsBy}
use Rattle.run_loop.proofs.Closing.{closed-length}
use Rattle.run_loop.proofs.Posts.{Tells, last_is_quiet, tells_after, done_jobs, same_strangers, passes, lands_all, slots-length}
use Rattle.run_loop.proofs.SlotLemmas.{count_of_done}

pub entries-length : (offers : List Offer) (large : Bool) → length (all_taken offers large) ≡ length offers
entries-length offers large = length-map offers (λ o. as_offered large o.entry o.loan)

-- before the first round
pub user_first : (offers : List Offer) (large : Bool) (todo : List Taken) (started : ℕ) (slots : List Slot) → todo ≡ all_taken offers large → started ≡ 0 → slots ≡ slots_from 0 offers [] → UserRun offers [] todo [] started slots
user_first offers large todo started slots e z s = record { large = large; entries = e; started_is = z; told_slots = s; expected = refl }

-- one more round

both_false : (a b : Bool) → (not a || b) ≡ false → (a ≡ true) × (b ≡ false)
both_false true b e = (refl, e)
both_false false b e = cc

started_later : (n m k : ℕ) (b : Bool) → n ≤ m → (not (nat_lt k n) || b) ≡ false → (not (nat_lt k m) || b) ≡ false
started_later n m k b le e =
    let p = both_false (nat_lt k n) b e in
    let lt : k < n = grind (arith, nat_tests) in
    let q : nat_lt k m ≡ true = grind (arith, nat_tests) in
    (λ i. not (q i) || p.1 i)

-- what was due to a user that had started some jobs is due to one that has started more
pub due_later : (n m : ℕ) (slots : List Slot) (cs : List Completion) → n ≤ m → stranger_among n slots cs ≡ None → stranger_among m slots cs ≡ None
due_later n m slots [] le e = refl
due_later n m slots (c ∷ cs) le e =
    let p = passes (is_unexpected n slots c) c.user_data (stranger_among n (land_one slots c) cs) e in
    let q : is_unexpected m slots c ≡ false = started_later n m c.user_data (is_strange_at (slice_get slots c.user_data) c) le p.0 in
    ap (λ b. cond b (Some c.user_data) (stranger_among m (land_one slots c) cs)) q ∙ due_later n m (land_one slots c) cs le p.1

-- the first stranger, where none is among the first completions
stranger_behind : (n : ℕ) (slots : List Slot) (cs ds : List Completion) → stranger_among n slots cs ≡ None → stranger_among n slots (cs ++ ds) ≡ stranger_among n (land_all slots cs) ds
stranger_behind n slots [] ds e = refl
stranger_behind n slots (c ∷ cs) ds e =
    let p = passes (is_unexpected n slots c) c.user_data (stranger_among n (land_one slots c) cs) e in
    ap (λ b. cond b (Some c.user_data) (stranger_among n (land_one slots c) (cs ++ ds))) p.0 ∙ stranger_behind n (land_one slots c) cs ds p.1

none_strange_first : (n : ℕ) (slots : List Slot) (cs ds : List Completion) → stranger_among n slots (cs ++ ds) ≡ None → stranger_among n slots cs ≡ None
none_strange_first n slots [] ds e = refl
none_strange_first n slots (c ∷ cs) ds e =
    let p = passes (is_unexpected n slots c) c.user_data (stranger_among n (land_one slots c) (cs ++ ds)) e in
    ap (λ b. cond b (Some c.user_data) (stranger_among n (land_one slots c) cs)) p.0 ∙ none_strange_first n (land_one slots c) cs ds p.1

pub user_entries : (all offered ts todo todo' : List Taken) → offered ++ todo ≡ all → todo ≡ ts ++ todo' → (offered ++ ts) ++ todo' ≡ all
user_entries all offered ts todo todo' e split = append_assoc offered ts todo' ∙ ap (λ l. offered ++ l) (sym split) ∙ e

user_strangers : (offers : List Offer) (offered todo : List Taken) (reaped cs : List Completion) (started started' : ℕ) (slots : List Slot) → UserRun offers offered todo reaped started slots → started ≤ started'
    → stranger_among started' (slots_from 0 offers []) (reaped ++ cs) ≡ stranger_among started' slots cs
user_strangers offers offered todo reaped cs started started' slots x le =
    let due = due_later started started' (slots_from 0 offers []) reaped le x.expected in
    stranger_behind started' (slots_from 0 offers []) reaped cs due ∙ ap (λ s. stranger_among started' s cs) (lands_all started' offers [] reaped due ∙ sym x.told_slots)

pub user_next : (offers : List Offer) (offered ts todo todo' : List Taken) (reaped cs : List Completion) (started started' : ℕ) (slots slots' : List Slot) → UserRun offers offered todo reaped started slots
    → todo ≡ ts ++ todo' → started' ≡ started + length ts → stranger_among started' slots cs ≡ None → slots' ≡ land_all slots cs → UserRun offers (offered ++ ts) todo' (reaped ++ cs) started' slots'
user_next offers offered ts todo todo' reaped cs started started' slots slots' x split starts due lands = record {
  large = x.large;
  entries = user_entries (all_taken offers x.large) offered ts todo todo' x.entries split;
  started_is = let n : length (offered ++ ts) ≡ length offered + length ts = length-append offered ts in omega (arith, n, starts, x.started_is);
  told_slots = lands ∙ ap (λ s. land_all s cs) x.told_slots ∙ lands_all started' offers reaped cs (ap (λ s. stranger_among started' s cs) (sym x.told_slots) ∙ due);
  expected = user_strangers offers offered todo reaped cs started started' slots x (omega (arith, starts)) ∙ due;
}

-- and one that ended at a stranger
user_stranger : (offers : List Offer) (offered ts todo todo' : List Taken) (reaped cs : List Completion) (started started' : ℕ) (slots : List Slot) (u : ℕ) → UserRun offers offered todo reaped started slots
    → started' ≡ started + length ts → stranger_among started' slots cs ≡ Some u → stranger_among (length (offered ++ ts)) (slots_from 0 offers []) (reaped ++ cs) ≡ Some u
user_stranger offers offered ts todo todo' reaped cs started started' slots u x starts strange =
    let n : length (offered ++ ts) ≡ length offered + length ts = length-append offered ts in
    let now : length (offered ++ ts) ≡ started' = omega (arith, n, starts, x.started_is) in
    ap (λ k. stranger_among k (slots_from 0 offers []) (reaped ++ cs)) now ∙ user_strangers offers offered todo reaped cs started started' slots x (omega (arith, starts)) ∙ strange

-- where no slot is open, all was offered

none_ahead : (n : ℕ) (slots : List Slot) (todo : List Offer) → AreAhead n slots todo → count_open slots ≡ 0 → todo ≡ []
none_ahead n slots [] ahead none = refl
none_ahead n slots (offer ∷ todo) ahead none = let one = count_of_done slots n offer.reply offer.quiet unposted ahead.0.slot in absurd (omega (arith, one, none))

pub user_started : (offers : List Offer) (offered : List Taken) (todo : List Offer) (large : Bool) (reaped : List Completion) (started : ℕ) (slots : List Slot) → UserRun offers offered (all_taken todo large) reaped started slots → AreAhead started slots todo → count_open slots ≡ 0 → started ≡ length offers
user_started offers offered todo large reaped started slots x ahead none =
    let left : length (all_taken todo large) ≡ 0 = ap (λ l. length (all_taken l large)) (none_ahead started slots todo ahead none) in
    let all : length offered + length (all_taken todo large) ≡ length offers = sym (length-append offered (all_taken todo large)) ∙ ap length x.entries ∙ entries-length offers x.large in
    omega (arith, all, x.started_is, left)

pub user_slots : (offers : List Offer) (offered todo : List Taken) (reaped : List Completion) (started : ℕ) (slots : List Slot) → UserRun offers offered todo reaped started slots → length slots ≡ length offers
user_slots offers offered todo reaped started slots x = ap length x.told_slots ∙ slots-length 0 offers reaped

-- what the completions tell where no slot is open

no_turns : (cs : List Completion) → turns (map Posted cs) ≡ 0
no_turns [] = refl
no_turns (c ∷ cs) = no_turns cs

pub all_posted : (cs : List Completion) → posted (map Posted cs) ≡ cs
all_posted [] = refl
all_posted (c ∷ cs) = ap (λ l. c ∷ l) (all_posted cs)

-- each job is answered by them
pub user_answered : (offers : List Offer) (reaped : List Completion) → last_is_quiet (quiets_in offers) ≡ false → count_open (slots_from 0 offers reaped) ≡ 0 → (j : ℕ) → j < length offers → is_answered (quiets_in offers) (ended_in (log_of (map Posted reaped))) j ≡ true
user_answered offers reaped loud none j lt =
    done_jobs offers reaped (ended_in (log_of (map Posted reaped))) (subst (λ cs. Tells (all_seen nothing_seen (log_of (map Posted reaped))) cs) (all_posted reaped) (tells_after nothing_seen [] (map Posted reaped) (λ j. refl))) loud none j lt

-- and any further one would be strange

all_done : (slots : List Slot) (c : Completion) (k : ℕ) → count_open slots ≡ 0 → is_strange_at (slice_get slots k) c ≡ true
all_done [] c k none = refl
all_done (Open reply quiet ∷ slots) c k none = absurd (omega arith)
all_done (Done o ∷ slots) c zero none = refl
all_done (Done o ∷ slots) c (suc k) none = all_done slots c k none

none_due : (n : ℕ) (slots : List Slot) (cs : List Completion) → count_open slots ≡ 0 → stranger_among n slots cs ≡ None → cs ≡ []
none_due n slots [] none e = refl
none_due n slots (c ∷ cs) none e = absurd (not_both (not (nat_lt c.user_data n)) (is_strange_at (slice_get slots c.user_data) c) (all_done slots c c.user_data none) (passes (is_unexpected n slots c) c.user_data (stranger_among n (land_one slots c) cs) e).0)
  where
    not_both : (a b : Bool) → b ≡ true → (a || b) ≡ false → ⊥
    not_both true b e f = cc
    not_both false b e f = cc

pub none_behind : (n : ℕ) (offers : List Offer) (cs ds : List Completion) → stranger_among n (slots_from 0 offers []) (cs ++ ds) ≡ None → count_open (slots_from 0 offers cs) ≡ 0 → ds ≡ []
none_behind n offers cs ds due none =
    let first = none_strange_first n (slots_from 0 offers []) cs ds due in
    none_due n (slots_from 0 offers cs) ds none (ap (λ s. stranger_among n s ds) (sym (lands_all n offers [] cs first)) ∙ sym (stranger_behind n (slots_from 0 offers []) cs ds first) ∙ due)

-- the strangers among them are those of their log, to a user that had started so many jobs
pub strangers_told : (offers : List Offer) (taken started : ℕ) (cs : List Completion) → last_is_quiet (quiets_in offers) ≡ false → started ≤ length offers
    → first_strange (lends_in offers) (quiets_in offers) (record { taken = taken; started = started; ended = [] }) (log_of (map Posted cs)) ≡ stranger_among started (slots_from 0 offers []) cs
strangers_told offers taken started cs loud inside =
    same_strangers offers [] (record { taken = taken; started = started; ended = [] }) (map Posted cs) (no_turns cs) (λ j. refl) loud inside
    ∙ ap (stranger_among started (slots_from 0 offers [])) (all_posted cs)

-- what a user does in two steps is one step

abbrev pub Joins : {R : Type 0} → (R → List Taken → List Completion → R → Type 0) → Type 0
Joins {R = R} used = (a b c : R) (ts us : List Taken) (cs ds : List Completion) → used a ts cs b → used b us ds c → used a (ts ++ us) (cs ++ ds) c

module _ {R : Type 0} (used : R → List Taken → List Completion → R → Type 0) (joins : Joins used) where
  -- it offers, and then reaps
  pub offers_reaps : (a b c : R) (ts : List Taken) (cs : List Completion) → used a ts [] b → used b [] cs c → used a ts cs c
  offers_reaps a b c ts cs p q = subst (λ l. used a l cs c) (append-nil ts) (joins a b c ts [] [] cs p q)

  -- it reaps, and then polls
  pub reaps_polls : (a b c : R) (cs : List Completion) → used a [] cs b → used b [] [] c → used a [] cs c
  reaps_polls a b c cs p q = subst (λ l. used a [] l c) (append-nil cs) (joins a b c [] [] cs [] p q)

  -- it offers the first of these entries, and of those behind them what comes next
  pub sent_then : (a b c : R) (ts ahead todo : List Taken) (cs : List Completion) → used a ts cs b → ahead ≡ ts ++ todo → UserSent used b c todo → UserSent used a c ahead
  sent_then a b c ts ahead todo cs p e q = record {
    offered = ts ++ q.offered;
    rest = q.rest;
    reaped = cs ++ q.reaped;
    uses = joins a b c ts q.offered cs q.reaped p q.uses;
    entries = e ∙ ap (λ l. ts ++ l) q.entries ∙ sym (append_assoc ts q.offered q.rest);
  }

  -- the first of these entries are the first of more
  pub sent_before : (a b : R) (todo more : List Taken) → UserSent used a b todo → UserSent used a b (todo ++ more)
  sent_before a b todo more q = record {
    offered = q.offered;
    rest = q.rest ++ more;
    reaped = q.reaped;
    uses = q.uses;
    entries = ap (λ l. l ++ more) q.entries ∙ append_assoc q.offered q.rest more;
  }

  module _ (room waiting : R → ℕ) (first from to : R) (offers : List Offer) (todo todo' : List Taken) (started started' : ℕ) (slots slots' : List Slot) (x : UserRounds used first from offers todo started slots) where
    -- one more round of a run
    pub rounds_next : (fin : Bool) → UserRound used room waiting from to todo todo' started started' slots slots' (Ok fin) → UserRounds used first to offers todo' started' slots'
    rounds_next fin r = record {
      offered = x.offered ++ r.ts;
      reaped = x.reaped ++ r.cs;
      uses = joins first from to x.offered r.ts x.reaped r.cs x.uses r.uses;
      run = user_next offers x.offered r.ts todo todo' x.reaped r.cs started started' slots slots' x.run r.offered r.starts r.ends.0 r.ends.1;
    }

    at_stranger : (u : ℕ) → UserRound used room waiting from to todo todo' started started' slots slots' (Err (faults.Stranger u)) → EndsAtStranger used first to offers todo' u
    at_stranger u r = record {
      offered = x.offered ++ r.ts;
      reaped = x.reaped ++ r.cs;
      uses = joins first from to x.offered r.ts x.reaped r.cs x.uses r.uses;
      large = x.run.large;
      entries = user_entries (all_taken offers x.run.large) x.offered r.ts todo todo' x.run.entries r.offered;
      strange = user_stranger offers x.offered r.ts todo todo' x.reaped r.cs started started' slots u x.run r.starts r.ends;
    }

    -- and one that ended at a stranger
    pub rounds_end : (e : RunFault) → is_stranger_fault e ≡ true → UserRound used room waiting from to todo todo' started started' slots slots' (Err e) → (u : ℕ) × (e ≡ faults.Stranger u) × EndsAtStranger used first to offers todo' u
    rounds_end (faults.Stranger u) h r = (u, refl, at_stranger u r)
    rounds_end faults.BadSize h r = cc
    rounds_end (faults.BadJob n) h r = cc
    rounds_end faults.Stalled h r = cc
    rounds_end faults.PartnerFault h r = cc
    rounds_end faults.NoMemory h r = cc

    -- however it ended
    pub rounds_fault : (e : RunFault) → ((e ≡ faults.NoMemory) × UserSent used from to todo) ⊎ ((is_stranger_fault e ≡ true) × UserRound used room waiting from to todo todo' started started' slots slots' (Err e)) → EndsBy used first to offers e
    rounds_fault e (inl p) = subst (EndsBy used first to offers) (sym p.0) (x.run.large, sent_then first from to x.offered (all_taken offers x.run.large) todo x.reaped x.uses (sym x.run.entries) p.1)
    rounds_fault e (inr p) = let q = rounds_end e p.0 p.1 in subst (EndsBy used first to offers) (sym q.1) (todo', q.2)

-- the rounds so far offered the first entries
pub rounds_sent : {R : Type 0} (used : R → List Taken → List Completion → R → Type 0) (first to : R) (offers : List Offer) (todo : List Taken) (started : ℕ) (slots : List Slot) → (x : UserRounds used first to offers todo started slots) → UserSent used first to (all_taken offers x.run.large)
rounds_sent used first to offers todo started slots x = record { offered = x.offered; rest = todo; reaped = x.reaped; uses = x.uses; entries = sym x.run.entries }

-- before the first round
pub rounds_first : {R : Type 0} (used : R → List Taken → List Completion → R → Type 0) → ((a : R) → used a [] [] a) → (first : R) (offers : List Offer) (large : Bool) (started : ℕ) (slots : List Slot) → started ≡ 0 → slots ≡ slots_from 0 offers [] → UserRounds used first first offers (all_taken offers large) started slots
rounds_first used stays first offers large started slots z s = record { offered = []; reaped = []; uses = stays first; run = user_first offers large (all_taken offers large) started slots refl z s }

-- a round keeps the number of slots

set-length : (slots : List Slot) (n : ℕ) (slot : Slot) → length (slice_set slots n slot) ≡ length slots
set-length [] n slot = refl
set-length (s ∷ slots) zero slot = refl
set-length (s ∷ slots) (suc n) slot = ap suc (set-length slots n slot)

land_in-length : (at : Option Slot) (slots : List Slot) (n : ℕ) (e : Ending) → length (land_in at slots n e) ≡ length slots
land_in-length None slots n e = refl
land_in-length (Some (Done o)) slots n e = refl
land_in-length (Some (Open reply quiet)) slots n e = set-length slots n (Done (outcome_from reply e))

either-length : (b : Bool) (left right : List Slot) (n : ℕ) → length left ≡ n → length right ≡ n → length (cond b left right) ≡ n
either-length true left right n h k = h
either-length false left right n h k = k

land-length : (slots : List Slot) (cs : List Completion) → length (land_all slots cs) ≡ length slots
land-length slots [] = refl
land-length slots (c ∷ cs) =
    let landed = land_in (slice_get slots c.user_data) slots c.user_data (record { result = c.result; loan = c.loan }) in
    land-length (land_one slots c) cs
    ∙ either-length (is_final c.flags) (all_closed landed) slots (length slots) (closed-length landed ∙ land_in-length (slice_get slots c.user_data) slots c.user_data (record { result = c.result; loan = c.loan })) refl

-- a round, whatever its answer

module _ {R : Type 0} (used : R → List Taken → List Completion → R → Type 0) (joins : Joins used) (room waiting : R → ℕ) (from to : R) (todo todo' : List Taken) (started started' : ℕ) (slots slots' : List Slot) where
  pub round_goes : (answer : Result Bool RunFault) → OnOk answer (UserRound used room waiting from to todo todo' started started' slots slots' answer)
      → OnOk answer ((first : R) (offers : List Offer) → UserRounds used first from offers todo started slots → UserRounds used first to offers todo' started' slots')
  round_goes (Ok fin) r = λ first offers x. rounds_next used joins room waiting first from to offers todo todo' started started' slots slots' x fin r
  round_goes (Err e) r = tt

  pub round_slots : (answer : Result Bool RunFault) → OnOk answer (UserRound used room waiting from to todo todo' started started' slots slots' answer) → OnOk answer (length slots' ≡ length slots)
  round_slots (Ok fin) r = ap length r.ends.1 ∙ land-length slots r.cs
  round_slots (Err e) r = tt

  pub round_faults : (answer : Result Bool RunFault)
      → IfErr answer (λ e. ((e ≡ faults.NoMemory) × UserSent used from to todo) ⊎ ((is_stranger_fault e ≡ true) × UserRound used room waiting from to todo todo' started started' slots slots' answer))
      → IfErr answer (λ e. (first : R) (offers : List Offer) → UserRounds used first from offers todo started slots → EndsBy used first to offers e)
  round_faults (Ok fin) h = tt
  round_faults (Err e) h = λ first offers x. rounds_fault used joins room waiting first from to offers todo todo' started started' slots slots' x e h

stranger_apart : (e : RunFault) → is_stranger_fault e ≡ true → is_partner_fault e ≡ false
stranger_apart (faults.Stranger u) h = refl
stranger_apart faults.BadSize h = cc
stranger_apart (faults.BadJob n) h = cc
stranger_apart faults.Stalled h = cc
stranger_apart faults.PartnerFault h = cc
stranger_apart faults.NoMemory h = cc

-- its fault is never the partner's
pub own_fault : {T : Type 0} (answer : Result T RunFault) (A B : Type 0) → IfErr answer (λ e. ((e ≡ faults.NoMemory) × A) ⊎ ((is_stranger_fault e ≡ true) × B)) → IfErr answer (λ e. is_partner_fault e ≡ false)
own_fault (Ok x) A B h = tt
own_fault (Err e) A B (inl p) = ap is_partner_fault p.0
own_fault (Err e) A B (inr p) = stranger_apart e p.0

pub stays_inside : {T : Type 0} (answer : Result T RunFault) (n n' m m' k k' : ℕ) → OnOk answer (n' + m' ≡ n + m) → OnOk answer (k' ≡ k) → n + m ≤ k → OnOk answer (n' + m' ≤ k')
stays_inside (Ok x) n n' m m' k k' e f h = omega (arith, e, f, h)
stays_inside (Err x) n n' m m' k k' e f h = tt

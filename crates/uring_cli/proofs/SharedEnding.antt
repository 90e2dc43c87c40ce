-- What a run of a script's jobs on two threads says of the script, and how such a call of the command ends.
use Rattle.std.proofs.Common.{◌≡◌, ◌⊎◌, inl, inr, ℕ, true, false, List, [], Option, Some, None, Result, Ok, Err, IfSome, IfNone, IfOk, IfErr, refl, ap, sym, subst, ◌∙◌}
use Rattle.uring_base.specs.declared.events.LogEvent.{LogEvent}
use Rattle.uring_base.specs.Sizes.{is_valid_size}
use Rattle.uring_model.specs.declared.jobs.Report.{Report}
use Rattle.uring_model.specs.declared.jobs.RunFault.{RunFault}
use Rattle.uring_model.specs.declared.jobs.RunFault.TheVariants.{BadSize, BadJob, Stranger, Stalled, PartnerFault, NoMemory}
use Rattle.uring_model.specs.Machine.{Files}
use Rattle.uring_model.specs.Schedule as schedule
use Rattle.uring_model.specs.Refines.{IsPlainAndIdle}
use Rattle.partner_traits.specs.Calls.{Puts, StateBecomes}
use Rattle.run_loop.specs.Entries.{first_bad}
use Rattle.run_loop.specs.Rounds.{is_refusal, is_stall, is_stranger_fault}
use Rattle.run_loop.specs.Runs.{IsValidRun, refusal}
use Rattle.run_loop.specs.SharedRuns.{SharedSays}
use Rattle.uring_text.specs.Report.{text_of}
use Rattle.uring_text.specs.Script.{Told}
use Rattle.uring_text.specs.Status.{status_of}
use Rattle.uring_text.specs.declared.status.Status.{Status}
use Rattle.uring_text.specs.declared.status.Status.TheVariants as ends
use Rattle.uring_cli.specs.declared.words.Options.{Options}
use Rattle.uring_cli.specs.Ends.{IsGoodCall}
use Rattle.uring_cli.specs.Input.{GaveScript}
use Rattle.uring_cli.specs.Runs.{ends_in_partner_fault}
use Rattle.uring_cli.specs.Seeds.{IsSeeded, seeded}
use Rattle.uring_cli.specs.SharedEnds.{SharedExecuted, SharedFailed}
use Rattle.uring_cli.proofs.Ending.{nothing_refused, plain_files, told_is}
use Rattle.uring_cli.proofs.Executing.{valid_where_none, refused_as}

-- the answer of a run and the partner that came back
abbrev Answer : Type 0 → Type 0
Answer P = Result Report RunFault × Option P

same_answer : {P : Type 0} (r s : Result Report RunFault) (o p : Option P) → ◌≡◌ {A = Answer P} (r, o) (s, p) → (r ≡ s) × (o ≡ p)
same_answer r s o p e = (ap (λ x. x.0) e, ap (λ x. x.1) e)

same_partner : {P : Type 0} (p q : P) → ◌≡◌ {A = Option P} (Some p) (Some q) → p ≡ q
same_partner p q e = cc

pub some_then : {A : Type 0} (o : Option A) (P Q : A → Type 0) → ((a : A) → P a → Q a) → IfSome o P → IfSome o Q
some_then None P Q f h = tt
some_then (Some a) P Q f h = f a h

none_then : {A : Type 0} (o : Option A) (P Q : Type 0) → (P → Q) → IfNone o P → IfNone o Q
none_then None P Q f h = f h
none_then (Some a) P Q f h = tt

same_status : {T : Type 0} (s t : Status) → ◌≡◌ {A = Result T Status} (Err s) (Err t) → s ≡ t
same_status s t e = cc

module _ {W : Type 0} (mach : schedule.Machine W) (view : W → Files) (Plain : W → Type 0) (put : ℕ → List ℕ → W → W) {P : Type 0} (log : P → Option (List LogEvent)) (state : P → Option (schedule.State W)) (plan : P → List ℕ) (told : Told) (options : Options) (before : P) where
  -- a fault of the run, where nothing is refused
  run_failed : (given after : P) (fault : RunFault) → IsSeeded put log state plan told.files told.choices before given → IsValidRun options.sq options.cq told.jobs → SharedSays mach view Plain log state given after told.jobs (Err fault)
      → SharedFailed mach view Plain put log state plan told options before after (status_of fault)
  run_failed given after BadSize seeds valid says = absurd says.fault
  run_failed given after (BadJob n) seeds valid says = absurd says.fault
  run_failed given after (Stranger u) seeds valid says = record { given = given; seeds = seeds; valid = valid; says = says }
  run_failed given after Stalled seeds valid says = absurd says.fault
  run_failed given after PartnerFault seeds valid says = inr (record { given = given; seeds = seeds; valid = valid; says = says })
  run_failed given after NoMemory seeds valid says = inr (Err NoMemory, record { given = given; seeds = seeds; valid = valid; says = says })

  refusal_is : (fault : RunFault) → refusal options.sq options.cq told.jobs ≡ Some fault → is_refusal fault ≡ true
  refusal_is fault e = refused_as (is_valid_size options.sq options.cq) (first_bad 0 told.jobs) fault e

  -- a refusal
  run_refused : (after : P) (fault : RunFault) → refusal options.sq options.cq told.jobs ≡ Some fault → IsSeeded put log state plan told.files told.choices before after → SharedFailed mach view Plain put log state plan told options before after (status_of fault)
  run_refused after BadSize e seeds = record { seeds = seeds; refused = e }
  run_refused after (BadJob n) e seeds = record { seeds = seeds; refused = e }
  run_refused after (Stranger u) e seeds = let x = refusal_is (Stranger u) e in absurd cc
  run_refused after Stalled e seeds = let x = refusal_is Stalled e in absurd cc
  run_refused after PartnerFault e seeds = let x = refusal_is PartnerFault e in absurd cc
  run_refused after NoMemory e seeds = let x = refusal_is NoMemory e in absurd cc

  failed_at : (given after : P) (fault : RunFault) (r : Option RunFault) → IsSeeded put log state plan told.files told.choices before given → refusal options.sq options.cq told.jobs ≡ r
      → IfSome r (λ f. ◌≡◌ {A = Answer P} (Err fault, Some after) (Err f, Some given)) → (IsValidRun options.sq options.cq told.jobs → SharedSays mach view Plain log state given after told.jobs (Err fault))
      → SharedFailed mach view Plain put log state plan told options before after (status_of fault)
  failed_at given after fault None seeds none refused run = let valid = valid_where_none options.sq options.cq told.jobs none in run_failed given after fault seeds valid (run valid)
  failed_at given after fault (Some f) seeds some refused run =
      let same = same_answer (Err fault) (Err f) (Some after) (Some given) refused in
      let same_fault : fault ≡ f = (let e = same.0 in cc) in
      let back = same_partner after given same.1 in
      run_refused after fault (some ∙ ap (λ (x : RunFault). Some x) (sym same_fault)) (subst (λ p. IsSeeded put log state plan told.files told.choices before p) (sym back) seeds)

  -- of the partner that came back, if any
  pub shared_failed : (given : P) (back : Option P) (fault : RunFault) → IsSeeded put log state plan told.files told.choices before given
      → IfSome (refusal options.sq options.cq told.jobs) (λ f. ◌≡◌ {A = Answer P} (Err fault, back) (Err f, Some given))
      → IfSome back (λ after. IsValidRun options.sq options.cq told.jobs → SharedSays mach view Plain log state given after told.jobs (Err fault))
      → IfSome back (λ after. SharedFailed mach view Plain put log state plan told options before after (status_of fault))
  shared_failed given None fault seeds refused run = tt
  shared_failed given (Some after) fault seeds refused run = failed_at given after fault (refusal options.sq options.cq told.jobs) seeds refl refused run

  executed_at : (given after : P) (report : Report) (r : Option RunFault) → IsSeeded put log state plan told.files told.choices before given → refusal options.sq options.cq told.jobs ≡ r
      → IfSome r (λ f. ◌≡◌ {A = Answer P} (Ok report, Some after) (Err f, Some given)) → (IsValidRun options.sq options.cq told.jobs → SharedSays mach view Plain log state given after told.jobs (Ok report))
      → SharedExecuted mach view Plain put log state plan told options before after (Ok report)
  executed_at given after report None seeds none refused run = let valid = valid_where_none options.sq options.cq told.jobs none in record { given = given; seeds = seeds; valid = valid; says = run valid }
  executed_at given after report (Some f) seeds some refused run = let e = (same_answer (Ok report) (Err f) (Some after) (Some given) refused).0 in absurd cc

  pub shared_executed : (given : P) (back : Option P) (report : Report) → IsSeeded put log state plan told.files told.choices before given
      → IfSome (refusal options.sq options.cq told.jobs) (λ f. ◌≡◌ {A = Answer P} (Ok report, back) (Err f, Some given))
      → IfSome back (λ after. IsValidRun options.sq options.cq told.jobs → SharedSays mach view Plain log state given after told.jobs (Ok report))
      → IfSome back (λ after. SharedExecuted mach view Plain put log state plan told options before after (Ok report))
  shared_executed given None report seeds refused run = tt
  shared_executed given (Some after) report seeds refused run = executed_at given after report (refusal options.sq options.cq told.jobs) seeds refl refused run

  -- the same of the answer as it came
  pub executed_of : (given : P) (answer : Answer P) (report : Report) → IsSeeded put log state plan told.files told.choices before given
      → IfSome (refusal options.sq options.cq told.jobs) (λ f. ◌≡◌ {A = Answer P} answer (Err f, Some given))
      → IfSome answer.1 (λ after. IsValidRun options.sq options.cq told.jobs → SharedSays mach view Plain log state given after told.jobs answer.0)
      → answer.0 ≡ Ok report → IfSome answer.1 (λ after. SharedExecuted mach view Plain put log state plan told options before after (Ok report))
  executed_of given answer report seeds refused run e =
      shared_executed given answer.1 report seeds
      (subst (λ r. IfSome (refusal options.sq options.cq told.jobs) (λ f. ◌≡◌ {A = Answer P} (r, answer.1) (Err f, Some given))) e refused)
      (subst (λ r. IfSome answer.1 (λ after. IsValidRun options.sq options.cq told.jobs → SharedSays mach view Plain log state given after told.jobs r)) e run)

  pub failed_of : (given : P) (answer : Answer P) (fault : RunFault) → IsSeeded put log state plan told.files told.choices before given
      → IfSome (refusal options.sq options.cq told.jobs) (λ f. ◌≡◌ {A = Answer P} answer (Err f, Some given))
      → IfSome answer.1 (λ after. IsValidRun options.sq options.cq told.jobs → SharedSays mach view Plain log state given after told.jobs answer.0)
      → answer.0 ≡ Err fault → IfSome answer.1 (λ after. SharedFailed mach view Plain put log state plan told options before after (status_of fault))
  failed_of given answer fault seeds refused run e =
      shared_failed given answer.1 fault seeds
      (subst (λ r. IfSome (refusal options.sq options.cq told.jobs) (λ f. ◌≡◌ {A = Answer P} (r, answer.1) (Err f, Some given))) e refused)
      (subst (λ r. IfSome answer.1 (λ after. IsValidRun options.sq options.cq told.jobs → SharedSays mach view Plain log state given after told.jobs r)) e run)

  -- the text of the report, of the answer as it came
  pub done_of : (answer : Result (List ℕ) Status × Option P) (text : List ℕ)
      → IfSome answer.1 (λ after. IfOk answer.0 (λ text. (report : Report) × (text ≡ text_of report.outcomes.items report.journal.items) × SharedExecuted mach view Plain put log state plan told options before after (Ok report)))
      → answer.0 ≡ Ok text → IfSome answer.1 (λ after. (report : Report) × (text ≡ text_of report.outcomes.items report.journal.items) × SharedExecuted mach view Plain put log state plan told options before after (Ok report))
  done_of answer text h e = subst (λ r. IfSome answer.1 (λ after. IfOk r (λ text. (report : Report) × (text ≡ text_of report.outcomes.items report.journal.items) × SharedExecuted mach view Plain put log state plan told options before after (Ok report)))) e h

  -- a good call
  module _ (puts : Puts view Plain put) where
    explained_end : (after : P) (answer : RunFault) (a : schedule.State W) → SharedExecuted mach view Plain put log state plan told options before after (Err answer) → state before ≡ Some a → IsPlainAndIdle Plain a → (is_stranger_fault answer ≡ false) × (is_stall answer ≡ false)
    explained_end after answer a p tells idle =
        let given = subst (λ s. StateBecomes s (seeded put told.files told.choices) (state p.given)) tells p.seeds.gains in
        let m = p.says.memory (seeded put told.files told.choices a) given (record { pending = idle.pending; tail = idle.tail; plain = plain_files put Plain puts.plain told.files a.world idle.plain }) in
        m.2.fault

    good_end : (after : P) (a : schedule.State W) (status : Status) → SharedFailed mach view Plain put log state plan told options before after status → IsValidRun options.sq options.cq told.jobs → state before ≡ Some a → IsPlainAndIdle Plain a
        → ends_in_partner_fault status ≡ false → (status ≡ ends.Done) ⊎ (status ≡ ends.NoMemory)
    good_end after a ends.BadSize failed valid tells idle unplanned = let x = failed.refused in let y = nothing_refused options told valid in absurd cc
    good_end after a (ends.BadJob n) failed valid tells idle unplanned = let x = failed.refused in let y = nothing_refused options told valid in absurd cc
    good_end after a (ends.Stranger u) failed valid tells idle unplanned = let x = (explained_end after (Stranger u) a failed tells idle).0 in absurd cc
    good_end after a ends.Stalled failed valid tells idle unplanned = absurd failed
    good_end after a ends.PartnerFault failed valid tells idle unplanned = absurd cc
    good_end after a ends.NoMemory failed valid tells idle unplanned = inr refl
    good_end after a ends.Done failed valid tells idle unplanned = inl refl
    good_end after a ends.Usage failed valid tells idle unplanned = absurd failed
    good_end after a ends.ReadFault failed valid tells idle unplanned = absurd failed
    good_end after a ends.TooLong failed valid tells idle unplanned = absurd failed
    good_end after a (ends.Script line) failed valid tells idle unplanned = absurd failed
    good_end after a ends.WriteFault failed valid tells idle unplanned = absurd failed

    ends_as : (left left' : Option (List ℕ)) (taken taken' : ℕ) (back : Option P) (status : Status) (read read' write write' : ℕ) (l : Option (List ℕ)) (s : Option (schedule.State W))
        → GaveScript left left' taken taken' told → IfNone back (status ≡ ends.NoMemory) → IfSome back (λ after. SharedFailed mach view Plain put log state plan told options before after status)
        → IfSome s (λ _. plan before ≡ [] → ends_in_partner_fault status ≡ false) → left ≡ l → state before ≡ s
        → IfSome l (λ text. IfSome s (λ a. IsGoodCall Plain options text a (plan before) read read' write write' → (status ≡ ends.Done) ⊎ (status ≡ ends.NoMemory)))
    ends_as left left' taken taken' back status read read' write write' None s gave none failed unplanned tells_text tells = tt
    ends_as left left' taken taken' back status read read' write write' (Some text) None gave none failed unplanned tells_text tells = tt
    ends_as left left' taken taken' None status read read' write write' (Some text) (Some a) gave none failed unplanned tells_text tells = λ good. inr none
    ends_as left left' taken taken' (Some after) status read read' write write' (Some text) (Some a) gave none failed unplanned tells_text tells = λ good.
        let same = told_is left left' taken taken' text told good.told gave tells_text good.script in
        good_end after a status failed (subst (λ (t : Told). IsValidRun options.sq options.cq t.jobs) same good.valid) tells good.idle (unplanned good.unplanned)

    pub shared_ends_well : (left left' : Option (List ℕ)) (taken taken' : ℕ) (back : Option P) (status : Status) (read read' write write' : ℕ)
        → GaveScript left left' taken taken' told → IfNone back (status ≡ ends.NoMemory) → IfSome back (λ after. SharedFailed mach view Plain put log state plan told options before after status)
        → IfSome (state before) (λ _. plan before ≡ [] → ends_in_partner_fault status ≡ false)
        → IfSome left (λ text. IfSome (state before) (λ a. IsGoodCall Plain options text a (plan before) read read' write write' → (status ≡ ends.Done) ⊎ (status ≡ ends.NoMemory)))
    shared_ends_well left left' taken taken' back status read read' write write' gave none failed unplanned = ends_as left left' taken taken' back status read read' write write' left (state before) gave none failed unplanned refl refl

    -- the same of the answer as it came
    pub ends_of : {T : Type 0} (left left' : Option (List ℕ)) (taken taken' : ℕ) (answer : Result T Status × Option P) (status : Status) (read read' write write' : ℕ)
        → GaveScript left left' taken taken' told → IfNone answer.1 (answer.0 ≡ Err ends.NoMemory) → IfSome answer.1 (λ after. IfErr answer.0 (SharedFailed mach view Plain put log state plan told options before after))
        → IfSome (state before) (λ _. plan before ≡ [] → IfErr answer.0 (λ e. ends_in_partner_fault e ≡ false)) → answer.0 ≡ Err status
        → IfSome left (λ text. IfSome (state before) (λ a. IsGoodCall Plain options text a (plan before) read read' write write' → (status ≡ ends.Done) ⊎ (status ≡ ends.NoMemory)))
    ends_of left left' taken taken' answer status read read' write write' gave back failed unplanned e =
        shared_ends_well left left' taken taken' answer.1 status read read' write write' gave
        (none_then answer.1 _ _ (λ h. same_status status ends.NoMemory (sym e ∙ h)) back)
        (subst (λ r. IfSome answer.1 (λ after. IfErr r (SharedFailed mach view Plain put log state plan told options before after))) e failed)
        (subst (λ r. IfSome (state before) (λ _. plan before ≡ [] → IfErr r (λ e. ends_in_partner_fault e ≡ false))) e unplanned)

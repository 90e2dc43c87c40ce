-- How a call of the command ends.
use Rattle.std.proofs.Common.{◌≡◌, ◌≢◌, ◌⊎◌, inl, inr, ℕ, false, List, [], ◌∷◌, Option, Some, None, IfSome, Result, Err, refl, ap, sym, subst, ◌∙◌}
use Rattle.uring_base.specs.declared.events.LogEvent.{LogEvent}
use Rattle.uring_model.specs.declared.jobs.Report.{Report}
use Rattle.uring_model.specs.declared.jobs.RunFault.{RunFault}
use Rattle.uring_model.specs.declared.jobs.RunFault.TheVariants as faults
use Rattle.uring_model.specs.Jobs.{model_jobs}
use Rattle.uring_model.specs.Machine.{Files}
use Rattle.uring_model.specs.Schedule as schedule
use Rattle.uring_model.specs.Refines.{IsPlainAndIdle}
use Rattle.partner_traits.specs.Calls.{Puts}
use Rattle.uring_text.specs.declared.script.Seed.{Seed}
use Rattle.uring_cli.specs.Seeds.{with_files}
use Rattle.partner_traits.specs.Calls.{StateBecomes}
use Rattle.run_loop.specs.Memory.{Explains}
use Rattle.run_loop.specs.Runs.{IsValidRun, refusal}
use Rattle.uring_streams.specs.Inputs.{ReadsAll}
use Rattle.uring_text.specs.Lines.{lines_of}
use Rattle.uring_text.specs.Script.{Told, script_of}
use Rattle.uring_text.specs.declared.status.Status.{Status}
use Rattle.uring_text.specs.declared.status.Status.TheVariants as ends
use Rattle.uring_cli.specs.declared.words.Options.{Options}
use Rattle.uring_cli.specs.Ends.{IsGoodCall}
use Rattle.uring_cli.specs.Seeds.{seeded}
use Rattle.uring_cli.specs.Input.{GaveScript}
use Rattle.uring_cli.specs.Runs.{Executed, FailedRun, ends_in_partner_fault}

-- what holds of the options that the words give
pub at_options : (given : Option Options) (options : Options) (Q : Options → Type 0) → given ≡ Some options → Q options → IfSome given Q
at_options given options Q e q = subst (λ o. IfSome o Q) (sym e) q

pub no_partner_fault : {A : Type 0} (state : Option A) (unplanned : Type 0) (status : Status) → IfSome state (λ _. unplanned → ends_in_partner_fault status ≡ false) → IfSome state (λ _. unplanned → status ≢ ends.PartnerFault)
no_partner_fault None unplanned status h = tt
no_partner_fault (Some a) unplanned status h = λ none. λ e. let x : ends_in_partner_fault ends.PartnerFault ≡ false = subst (λ s. ends_in_partner_fault s ≡ false) e (h none) in absurd cc

same_told : (x y : Told) → ◌≡◌ {A = Option Told} (Some x) (Some y) → x ≡ y
same_told x y e = cc

-- the source told the script's text, so this is the script that was read
pub told_is : (left left' : Option (List ℕ)) (taken taken' : ℕ) (text : List ℕ) (told other : Told) → GaveScript left left' taken taken' told → left ≡ Some text → script_of (lines_of text) ≡ Some other → other ≡ told
told_is left left' taken taken' text told other gave tells script =
    let all = subst (λ l. ReadsAll l left' gave.bytes) tells gave.whole.all in
    same_told other told (sym script ∙ ap (λ b. script_of (lines_of b)) (sym all.0) ∙ gave.script)

pub nothing_refused : (options : Options) (told : Told) → IsValidRun options.sq options.cq told.jobs → refusal options.sq options.cq told.jobs ≡ None
nothing_refused options told valid = rw valid.size (rw valid.jobs_valid refl)

-- files that are put in leave a world plain
pub plain_files : {W : Type 0} (put : ℕ → List ℕ → W → W) (Plain : W → Type 0) → ((number : ℕ) (bytes : List ℕ) (w : W) → Plain w → Plain (put number bytes w)) → (seeds : List Seed) (w : W) → Plain w → Plain (with_files put seeds w)
plain_files put Plain keeps [] w h = h
plain_files put Plain keeps (seed ∷ seeds) w h = plain_files put Plain keeps seeds (put seed.number seed.bytes w) (keeps seed.number seed.bytes w h)

-- over a partner that began idle, the run explains what it did
explained : {W : Type 0} (mach : schedule.Machine W) (view : W → Files) (Plain : W → Type 0) (put : ℕ → List ℕ → W → W) (puts : Puts view Plain put) {P : Type 0} (log : P → Option (List LogEvent)) (state : P → Option (schedule.State W)) (plan : P → List ℕ) (told : Told) (options : Options) (before after : P) (answer : Result Report RunFault) (a : schedule.State W)
    → (p : Executed mach view Plain put log state plan told options before after answer) → state before ≡ Some a → IsPlainAndIdle Plain a → (b : schedule.State W) × Explains view Plain (model_jobs told.jobs) (seeded put told.files told.choices a) p.says.ran.moves b answer
explained mach view Plain put puts log state plan told options before after answer a p tells idle =
    let given = subst (λ s. StateBecomes s (seeded put told.files told.choices) (state p.given)) tells p.seeds.gains in
    let m = p.says.memory (seeded put told.files told.choices a) given (record { pending = idle.pending; tail = idle.tail; plain = plain_files put Plain puts.plain told.files a.world idle.plain }) in
    (m.0, m.2)

good_end : {W : Type 0} (mach : schedule.Machine W) (view : W → Files) (Plain : W → Type 0) (put : ℕ → List ℕ → W → W) (puts : Puts view Plain put) {P : Type 0} (log : P → Option (List LogEvent)) (state : P → Option (schedule.State W)) (plan : P → List ℕ) (told : Told) (options : Options) (before after : P) (a : schedule.State W) (status : Status)
    → FailedRun mach view Plain put log state plan told options before after status → IsValidRun options.sq options.cq told.jobs → state before ≡ Some a → IsPlainAndIdle Plain a → ends_in_partner_fault status ≡ false → (status ≡ ends.Done) ⊎ (status ≡ ends.NoMemory)
good_end mach view Plain put puts log state plan told options before after a ends.BadSize failed valid tells idle unplanned = let x = failed.refused in let y = nothing_refused options told valid in absurd cc
good_end mach view Plain put puts log state plan told options before after a (ends.BadJob n) failed valid tells idle unplanned = let x = failed.refused in let y = nothing_refused options told valid in absurd cc
good_end mach view Plain put puts log state plan told options before after a (ends.Stranger u) failed valid tells idle unplanned =
    let x = (explained mach view Plain put puts log state plan told options before after (Err (faults.Stranger u)) a failed tells idle).1.fault.0 in absurd cc
good_end mach view Plain put puts log state plan told options before after a ends.Stalled failed valid tells idle unplanned =
    let x = (explained mach view Plain put puts log state plan told options before after (Err faults.Stalled) a failed tells idle).1.fault.1 in absurd cc
good_end mach view Plain put puts log state plan told options before after a ends.PartnerFault failed valid tells idle unplanned = absurd cc
good_end mach view Plain put puts log state plan told options before after a ends.NoMemory failed valid tells idle unplanned = inr refl
good_end mach view Plain put puts log state plan told options before after a ends.Done failed valid tells idle unplanned = inl refl
good_end mach view Plain put puts log state plan told options before after a ends.Usage failed valid tells idle unplanned = absurd failed
good_end mach view Plain put puts log state plan told options before after a ends.ReadFault failed valid tells idle unplanned = absurd failed
good_end mach view Plain put puts log state plan told options before after a ends.TooLong failed valid tells idle unplanned = absurd failed
good_end mach view Plain put puts log state plan told options before after a (ends.Script line) failed valid tells idle unplanned = absurd failed
good_end mach view Plain put puts log state plan told options before after a ends.WriteFault failed valid tells idle unplanned = absurd failed

ends_as : {W : Type 0} (mach : schedule.Machine W) (view : W → Files) (Plain : W → Type 0) (put : ℕ → List ℕ → W → W) (puts : Puts view Plain put) {P : Type 0} (log : P → Option (List LogEvent)) (state : P → Option (schedule.State W)) (plan : P → List ℕ) (left left' : Option (List ℕ)) (taken taken' : ℕ) (told : Told) (options : Options) (before after : P) (status : Status) (read read' write write' : ℕ) (l : Option (List ℕ)) (s : Option (schedule.State W))
    → GaveScript left left' taken taken' told → FailedRun mach view Plain put log state plan told options before after status → IfSome s (λ _. plan before ≡ [] → ends_in_partner_fault status ≡ false) → left ≡ l → state before ≡ s
    → IfSome l (λ text. IfSome s (λ a. IsGoodCall Plain options text a (plan before) read read' write write' → (status ≡ ends.Done) ⊎ (status ≡ ends.NoMemory)))
ends_as mach view Plain put puts log state plan left left' taken taken' told options before after status read read' write write' None s gave failed unplanned tells_text tells = tt
ends_as mach view Plain put puts log state plan left left' taken taken' told options before after status read read' write write' (Some text) None gave failed unplanned tells_text tells = tt
ends_as mach view Plain put puts log state plan left left' taken taken' told options before after status read read' write write' (Some text) (Some a) gave failed unplanned tells_text tells = λ good.
    let same = told_is left left' taken taken' text told good.told gave tells_text good.script in
    good_end mach view Plain put puts log state plan told options before after a status failed (subst (λ (t : Told). IsValidRun options.sq options.cq t.jobs) same good.valid) tells good.idle (unplanned good.unplanned)

-- where there is no report, a good call found no memory
pub ends_well : {W : Type 0} (mach : schedule.Machine W) (view : W → Files) (Plain : W → Type 0) (put : ℕ → List ℕ → W → W) (puts : Puts view Plain put) {P : Type 0} (log : P → Option (List LogEvent)) (state : P → Option (schedule.State W)) (plan : P → List ℕ) (left left' : Option (List ℕ)) (taken taken' : ℕ) (told : Told) (options : Options) (before after : P) (status : Status) (read read' write write' : ℕ)
    → GaveScript left left' taken taken' told → FailedRun mach view Plain put log state plan told options before after status → IfSome (state before) (λ _. plan before ≡ [] → ends_in_partner_fault status ≡ false)
    → IfSome left (λ text. IfSome (state before) (λ a. IsGoodCall Plain options text a (plan before) read read' write write' → (status ≡ ends.Done) ⊎ (status ≡ ends.NoMemory)))
ends_well mach view Plain put puts log state plan left left' taken taken' told options before after status read read' write write' gave failed unplanned =
    ends_as mach view Plain put puts log state plan left left' taken taken' told options before after status read read' write write' left (state before) gave failed unplanned refl refl

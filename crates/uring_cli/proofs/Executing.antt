-- What a run of a script's jobs says of the script.
use Rattle.std.proofs.Common.{◌≡◌, inr, ℕ, Bool, true, false, List, Option, Some, None, Result, Ok, Err, IfSome, refl, ap, sym, subst, ◌∙◌, if◌then◌else◌}
use Rattle.std.specs.Option.{option_map}
use Rattle.uring_base.specs.declared.events.LogEvent.{LogEvent}
use Rattle.uring_base.specs.Sizes.{is_valid_size, rounded_up}
use Rattle.uring_model.specs.declared.jobs.Job.{Job}
use Rattle.uring_model.specs.declared.jobs.Report.{Report}
use Rattle.uring_model.specs.declared.jobs.RunFault.{RunFault}
use Rattle.uring_model.specs.declared.jobs.RunFault.TheVariants.{BadSize, BadJob, Stranger, Stalled, PartnerFault, NoMemory}
use Rattle.uring_model.specs.Machine.{Files}
use Rattle.uring_model.specs.Schedule as schedule
use Rattle.run_loop.specs.Entries.{first_bad}
use Rattle.run_loop.specs.Rounds.{is_refusal}
use Rattle.run_loop.specs.Runs.{RunSays, IsValidRun, refusal}
use Rattle.uring_text.specs.Script.{Told}
use Rattle.uring_text.specs.Status.{status_of}
use Rattle.uring_cli.specs.declared.words.Options.{Options}
use Rattle.uring_cli.specs.Seeds.{IsSeeded}
use Rattle.uring_cli.specs.Runs.{Executed, FailedRun}

-- where nothing is refused, sizes and jobs are valid
valid_as : (sq cq : ℕ) (jobs : List Job) (size : Bool) (bad : Option ℕ) → is_valid_size sq cq ≡ size → first_bad 0 jobs ≡ bad → (if size then option_map BadJob bad else Some BadSize) ≡ None → IsValidRun sq cq jobs
valid_as sq cq jobs true None size bad e = record { size = size; jobs_valid = bad }
valid_as sq cq jobs true (Some n) size bad e = absurd cc
valid_as sq cq jobs false bad size b e = absurd cc

pub valid_where_none : (sq cq : ℕ) (jobs : List Job) → refusal sq cq jobs ≡ None → IsValidRun sq cq jobs
valid_where_none sq cq jobs e = valid_as sq cq jobs (is_valid_size sq cq) (first_bad 0 jobs) refl refl e

pub refused_as : (size : Bool) (bad : Option ℕ) (fault : RunFault) → (if size then option_map BadJob bad else Some BadSize) ≡ Some fault → is_refusal fault ≡ true
refused_as true None fault e = absurd cc
refused_as true (Some n) fault e = cc
refused_as false bad fault e = cc

-- a fault of the run, by what the run refuses
failed_as : {W : Type 0} (mach : schedule.Machine W) (view : W → Files) (Plain : W → Type 0) (put : ℕ → List ℕ → W → W) {P : Type 0} (log : P → Option (List LogEvent)) (state : P → Option (schedule.State W)) (plan : P → List ℕ) (told : Told) (options : Options) (before given after : P) (fault : RunFault) (r : Option RunFault)
    → IsSeeded put log state plan told.files told.choices before given → refusal options.sq options.cq told.jobs ≡ r → IfSome r (λ f. (◌≡◌ {A = Result Report RunFault} (Err fault) (Err f)) × (after ≡ given))
    → (IsValidRun options.sq options.cq told.jobs → RunSays mach view Plain log state given after told.jobs (rounded_up options.sq) options.idle (Err fault))
    → FailedRun mach view Plain put log state plan told options before after (status_of fault)
failed_as mach view Plain put log state plan told options before given after fault None seeds none h run =
    let valid = valid_where_none options.sq options.cq told.jobs none in
    at_fault fault valid (run valid)
  where
    at_fault : (fault : RunFault) (valid : IsValidRun options.sq options.cq told.jobs) → RunSays mach view Plain log state given after told.jobs (rounded_up options.sq) options.idle (Err fault) → FailedRun mach view Plain put log state plan told options before after (status_of fault)
    at_fault BadSize valid says = absurd says.fault
    at_fault (BadJob n) valid says = absurd says.fault
    at_fault (Stranger u) valid says = record { given = given; seeds = seeds; valid = valid; says = says }
    at_fault Stalled valid says = record { given = given; seeds = seeds; valid = valid; says = says }
    at_fault PartnerFault valid says = inr (record { given = given; seeds = seeds; valid = valid; says = says })
    at_fault NoMemory valid says = inr (Err NoMemory, record { given = given; seeds = seeds; valid = valid; says = says })
failed_as mach view Plain put log state plan told options before given after fault (Some f) seeds some h run =
    refused fault (some ∙ ap (λ (x : RunFault). Some x) (sym same)) (subst (λ p. IsSeeded put log state plan told.files told.choices before p) (sym h.1) seeds)
  where
    same : fault ≡ f
    same = cc

    refused : (fault : RunFault) → refusal options.sq options.cq told.jobs ≡ Some fault → IsSeeded put log state plan told.files told.choices before after → FailedRun mach view Plain put log state plan told options before after (status_of fault)
    refused BadSize e seeds = record { seeds = seeds; refused = e }
    refused (BadJob n) e seeds = record { seeds = seeds; refused = e }
    refused (Stranger u) e seeds = let x : is_refusal (Stranger u) ≡ true = refused_as (is_valid_size options.sq options.cq) (first_bad 0 told.jobs) (Stranger u) e in absurd cc
    refused Stalled e seeds = let x : is_refusal Stalled ≡ true = refused_as (is_valid_size options.sq options.cq) (first_bad 0 told.jobs) Stalled e in absurd cc
    refused PartnerFault e seeds = let x : is_refusal PartnerFault ≡ true = refused_as (is_valid_size options.sq options.cq) (first_bad 0 told.jobs) PartnerFault e in absurd cc
    refused NoMemory e seeds = let x : is_refusal NoMemory ≡ true = refused_as (is_valid_size options.sq options.cq) (first_bad 0 told.jobs) NoMemory e in absurd cc

pub failed : {W : Type 0} (mach : schedule.Machine W) (view : W → Files) (Plain : W → Type 0) (put : ℕ → List ℕ → W → W) {P : Type 0} (log : P → Option (List LogEvent)) (state : P → Option (schedule.State W)) (plan : P → List ℕ) (told : Told) (options : Options) (before given after : P) (fault : RunFault)
    → IsSeeded put log state plan told.files told.choices before given → IfSome (refusal options.sq options.cq told.jobs) (λ f. (◌≡◌ {A = Result Report RunFault} (Err fault) (Err f)) × (after ≡ given))
    → (IsValidRun options.sq options.cq told.jobs → RunSays mach view Plain log state given after told.jobs (rounded_up options.sq) options.idle (Err fault))
    → FailedRun mach view Plain put log state plan told options before after (status_of fault)
failed mach view Plain put log state plan told options before given after fault seeds refused run = failed_as mach view Plain put log state plan told options before given after fault (refusal options.sq options.cq told.jobs) seeds refl refused run

-- a report of the run
executed_as : {W : Type 0} (mach : schedule.Machine W) (view : W → Files) (Plain : W → Type 0) (put : ℕ → List ℕ → W → W) {P : Type 0} (log : P → Option (List LogEvent)) (state : P → Option (schedule.State W)) (plan : P → List ℕ) (told : Told) (options : Options) (before given after : P) (report : Report) (r : Option RunFault)
    → IsSeeded put log state plan told.files told.choices before given → refusal options.sq options.cq told.jobs ≡ r → IfSome r (λ f. (◌≡◌ {A = Result Report RunFault} (Ok report) (Err f)) × (after ≡ given))
    → (IsValidRun options.sq options.cq told.jobs → RunSays mach view Plain log state given after told.jobs (rounded_up options.sq) options.idle (Ok report))
    → Executed mach view Plain put log state plan told options before after (Ok report)
executed_as mach view Plain put log state plan told options before given after report None seeds none h run =
    let valid = valid_where_none options.sq options.cq told.jobs none in
    record { given = given; seeds = seeds; valid = valid; says = run valid }
executed_as mach view Plain put log state plan told options before given after report (Some f) seeds some h run = let x = h.0 in absurd cc

pub executed : {W : Type 0} (mach : schedule.Machine W) (view : W → Files) (Plain : W → Type 0) (put : ℕ → List ℕ → W → W) {P : Type 0} (log : P → Option (List LogEvent)) (state : P → Option (schedule.State W)) (plan : P → List ℕ) (told : Told) (options : Options) (before given after : P) (report : Report)
    → IsSeeded put log state plan told.files told.choices before given → IfSome (refusal options.sq options.cq told.jobs) (λ f. (◌≡◌ {A = Result Report RunFault} (Ok report) (Err f)) × (after ≡ given))
    → (IsValidRun options.sq options.cq told.jobs → RunSays mach view Plain log state given after told.jobs (rounded_up options.sq) options.idle (Ok report))
    → Executed mach view Plain put log state plan told options before after (Ok report)
executed mach view Plain put log state plan told options before given after report seeds refused run = executed_as mach view Plain put log state plan told options before given after report (refusal options.sq options.cq told.jobs) seeds refl refused run

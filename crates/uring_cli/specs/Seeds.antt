-- The files and choices of a script, put into a partner.
use Rattle.std.specs.Prelude.{◌≡◌, ◌⊎◌, ℕ, List, [], ◌∷◌, ◌++◌, Option}
use Rattle.uring_base.specs.declared.events.LogEvent.{LogEvent}
use Rattle.uring_model.specs.Schedule as schedule
use Rattle.partner_traits.specs.Calls.{StateBecomes}
use Rattle.uring_text.specs.declared.script.Seed.{Seed}

-- the files, each put in in its turn
abbrev pub with_files : {W : Type 0} → (ℕ → List ℕ → W → W) → List Seed → W → W
with_files put [] files = files
with_files put (seed ∷ seeds) files = with_files put seeds (put seed.number seed.bytes files)

-- the choices stand behind those that were left
abbrev pub seeded : {W : Type 0} → (ℕ → List ℕ → W → W) → List Seed → List ℕ → schedule.State W → schedule.State W
seeded put seeds choices a = record a { world = with_files put seeds a.world; choices = a.choices ++ choices }

-- The partner was given these files and choices, and nothing else changed of what it tells.
pub record IsSeeded {W : Type 0} (put : ℕ → List ℕ → W → W) {P : Type 0} (log : P → Option (List LogEvent)) (state : P → Option (schedule.State W)) (plan : P → List ℕ) (seeds : List Seed) (choices : List ℕ) (before after : P) : Type 0 where
  pub gains : StateBecomes (state before) (seeded put seeds choices) (state after)
  pub logs : log after ≡ log before
  pub plans : plan after ≡ plan before

-- The partner was given the first few of these files, or all of them and the first few of the choices.
pub record IsPartSeeded {W : Type 0} (put : ℕ → List ℕ → W → W) {P : Type 0} (log : P → Option (List LogEvent)) (state : P → Option (schedule.State W)) (plan : P → List ℕ) (seeds : List Seed) (choices : List ℕ) (before after : P) : Type 0 where
  pub files : List Seed
  pub more_files : List Seed
  pub front : List ℕ
  pub more_choices : List ℕ
  pub all_files : seeds ≡ files ++ more_files
  pub all_choices : choices ≡ front ++ more_choices
  pub in_turn : (front ≡ []) ⊎ (more_files ≡ [])
  pub given : IsSeeded put log state plan files front before after

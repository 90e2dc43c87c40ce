-- Files and choices that are put into a partner one after the other.
use Rattle.std.proofs.Common.{◌≡◌, inl, inr, ℕ, List, [], ◌∷◌, ◌++◌, Result, Ok, Err, OnErr, Option, Some, None, IfSome, refl, ap, sym, subst, ◌∙◌, append_assoc, append-nil}
use Rattle.uring_base.specs.declared.events.LogEvent.{LogEvent}
use Rattle.uring_model.specs.Schedule as schedule
use Rattle.partner_traits.specs.Calls.{StateBecomes, with_file, with_choice}
use Rattle.uring_text.specs.declared.script.Seed.{Seed}
use Rattle.uring_cli.specs.Seeds.{with_files, seeded, IsSeeded, IsPartSeeded}

-- what becomes of a state in two steps
becomes_then : {W : Type 0} (before now next : Option (schedule.State W)) (f g h : schedule.State W → schedule.State W) → ((a : schedule.State W) → g (f a) ≡ h a) → StateBecomes before f now → StateBecomes now g next → StateBecomes before h next
becomes_then None now next f g h e so step = subst (λ s. StateBecomes s g next) so step
becomes_then (Some a) now next f g h e so step = subst (λ s. StateBecomes s g next) so step ∙ ap (λ (x : schedule.State _). Some x) (e a)

files_more : {W : Type 0} (put : ℕ → List ℕ → W → W) (front : List Seed) (seed : Seed) (files : W) → with_files put (front ++ seed ∷ []) files ≡ put seed.number seed.bytes (with_files put front files)
files_more put [] seed files = refl
files_more put (first ∷ front) seed files = files_more put front seed (put first.number first.bytes files)

-- nothing was put in
none_gained : {W : Type 0} (put : ℕ → List ℕ → W → W) (before : Option (schedule.State W)) → StateBecomes before (seeded put [] []) before
none_gained put None = refl
none_gained put (Some a) = ap (λ c. Some (record a { choices = c })) (sym (append-nil a.choices))

pub none_seeded : {W : Type 0} (put : ℕ → List ℕ → W → W) {P : Type 0} (log : P → Option (List LogEvent)) (state : P → Option (schedule.State W)) (plan : P → List ℕ) (p : P) → IsSeeded put log state plan [] [] p p
none_seeded put log state plan p = record { gains = none_gained put (state p); logs = refl; plans = refl }

-- one more file is in
pub one_more_file : {W : Type 0} (put : ℕ → List ℕ → W → W) {P : Type 0} (log : P → Option (List LogEvent)) (state : P → Option (schedule.State W)) (plan : P → List ℕ) (front : List Seed) (seed : Seed) (before now next : P)
    → IsSeeded put log state plan front [] before now → StateBecomes (state now) (with_file put seed.number seed.bytes) (state next) → log next ≡ log now → plan next ≡ plan now → IsSeeded put log state plan (front ++ seed ∷ []) [] before next
one_more_file put log state plan front seed before now next so step logs plans = record {
  gains = becomes_then (state before) (state now) (state next) (seeded put front []) (with_file put seed.number seed.bytes) (seeded put (front ++ seed ∷ []) []) (λ a. ap (λ files. record a { world = files; choices = a.choices ++ [] }) (sym (files_more put front seed a.world))) so.gains step;
  logs = logs ∙ so.logs;
  plans = plans ∙ so.plans;
}

-- one more choice is in
pub one_more_choice : {W : Type 0} (put : ℕ → List ℕ → W → W) {P : Type 0} (log : P → Option (List LogEvent)) (state : P → Option (schedule.State W)) (plan : P → List ℕ) (front : List ℕ) (choice : ℕ) (before now next : P)
    → IsSeeded put log state plan [] front before now → StateBecomes (state now) (with_choice choice) (state next) → log next ≡ log now → plan next ≡ plan now → IsSeeded put log state plan [] (front ++ choice ∷ []) before next
one_more_choice put log state plan front choice before now next so step logs plans = record {
  gains = becomes_then (state before) (state now) (state next) (seeded put [] front) (with_choice choice) (seeded put [] (front ++ choice ∷ [])) (λ a. ap (λ c. record a { choices = c }) (append_assoc a.choices front (choice ∷ []))) so.gains step;
  logs = logs ∙ so.logs;
  plans = plans ∙ so.plans;
}

-- files first, then choices
pub seeded_both : {W : Type 0} (put : ℕ → List ℕ → W → W) {P : Type 0} (log : P → Option (List LogEvent)) (state : P → Option (schedule.State W)) (plan : P → List ℕ) (files : List Seed) (choices : List ℕ) (before now next : P)
    → IsSeeded put log state plan files [] before now → IsSeeded put log state plan [] choices now next → IsSeeded put log state plan files choices before next
seeded_both put log state plan files choices before now next a b = record {
  gains = becomes_then (state before) (state now) (state next) (seeded put files []) (seeded put [] choices) (seeded put files choices) (λ x. ap (λ c. record x { world = with_files put files x.world; choices = c ++ choices }) (append-nil x.choices)) a.gains b.gains;
  logs = b.logs ∙ a.logs;
  plans = b.plans ∙ a.plans;
}

-- some of the files are in, and no choice
pub some_files : {W : Type 0} (put : ℕ → List ℕ → W → W) {P : Type 0} (log : P → Option (List LogEvent)) (state : P → Option (schedule.State W)) (plan : P → List ℕ) (files : List Seed) (choices : List ℕ) (before after : P) → IsPartSeeded put log state plan files [] before after → IsPartSeeded put log state plan files choices before after
some_files put log state plan files choices before after so = record {
  files = so.files;
  more_files = so.more_files;
  front = [];
  more_choices = choices;
  all_files = so.all_files;
  all_choices = refl;
  in_turn = inl refl;
  given = subst (λ c. IsSeeded put log state plan so.files c before after) (no_front so.front so.more_choices so.all_choices) so.given;
}
  where
    no_front : (xs ys : List ℕ) → [] ≡ xs ++ ys → xs ≡ []
    no_front [] ys e = refl
    no_front (x ∷ xs) ys e = cc

-- all files are in, and some of the choices
pub some_choices : {W : Type 0} (put : ℕ → List ℕ → W → W) {P : Type 0} (log : P → Option (List LogEvent)) (state : P → Option (schedule.State W)) (plan : P → List ℕ) (files : List Seed) (choices : List ℕ) (before now after : P) → IsSeeded put log state plan files [] before now → IsPartSeeded put log state plan [] choices now after → IsPartSeeded put log state plan files choices before after
some_choices put log state plan files choices before now after a so = record {
  files = files;
  more_files = [];
  front = so.front;
  more_choices = so.more_choices;
  all_files = sym (append-nil files);
  all_choices = so.all_choices;
  in_turn = inr refl;
  given = seeded_both put log state plan files so.front before now after a (subst (λ f. IsSeeded put log state plan f so.front now after) (no_files so.files so.more_files so.all_files) so.given);
}
  where
    no_files : (xs ys : List Seed) → [] ≡ xs ++ ys → xs ≡ []
    no_files [] ys e = refl
    no_files (x ∷ xs) ys e = cc

-- of what is left, the first is in
pub moved_over : {A : Type 0} (all front rest rest' : List A) (x : A) → all ≡ front ++ rest → rest ≡ x ∷ rest' → all ≡ (front ++ x ∷ []) ++ rest'
moved_over all front rest rest' x whole next = whole ∙ ap (λ l. front ++ l) next ∙ sym (append_assoc front (x ∷ []) rest')

-- a count that stays at each step stays over all
pub still_calm : {W : Type 0} (put : ℕ → List ℕ → W → W) (E : Type 0) (seeds : List Seed) (choices : List ℕ) (before now : Option (schedule.State W)) (first count next : ℕ) → StateBecomes before (seeded put seeds choices) now → IfSome before (λ _. count ≡ first) → IfSome now (λ _. E × (next ≡ count)) → IfSome before (λ _. next ≡ first)
still_calm put E seeds choices None now first count next so calm step = tt
still_calm put E seeds choices (Some a) now first count next so calm step = (subst (λ s. IfSome s (λ _. E × (next ≡ count))) so step).1 ∙ calm

-- what a refusal leaves, by what it leaves of a part
pub on_refusal : {A E : Type 0} (r : Result A E) (P Q : Type 0) → (P → Q) → OnErr r P → OnErr r Q
on_refusal (Ok a) P Q f h = tt
on_refusal (Err e) P Q f h = f h

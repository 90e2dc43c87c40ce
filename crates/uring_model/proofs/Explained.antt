-- What a partner does from an idle state, in the words of the replay.
use Rattle.std.specs.Prelude.{◌≡◌, ℕ, false, true, List, [], ◌∷◌, ◌++◌, length, map, replicate, Some, None, suc, refl}
use Rattle.std.proofs.Common.{ap, subst, ◌∙◌}
use Rattle.uring_base.specs.declared.events.Taken.{Taken}
use Rattle.uring_model.specs.Machine.{Files}
use Rattle.uring_model.specs.Jobs.{Job}
use Rattle.uring_model.specs.Replay.{last_unlinked}
use Rattle.uring_model.specs.Moves.{Move, took}
use Rattle.uring_model.specs.Partner.{file_machine, job_of, PartnerState, Steps, IsServed, IsIdle, idle}
use Rattle.uring_model.specs.Explained.{Numbered, record_all, AllFresh, Explained}
use Rattle.uring_model.proofs.Simulation.{explained}
use Rattle.uring_model.proofs.Joins.{served_from}

pub unlinked-length : (jobs : List Job) → length (last_unlinked jobs) ≡ length jobs
unlinked-length [] = refl
unlinked-length (job ∷ []) = refl
unlinked-length (job ∷ next ∷ jobs) = ap suc (unlinked-length (next ∷ jobs))

pub moves_explained : (jobs : List Job) (files : Files) (choices : List ℕ) (ms : List Move) (ahead : List Taken) (b : PartnerState)
    → map job_of (took ms ++ ahead) ≡ last_unlinked jobs → Numbered 0 (took ms ++ ahead) → Steps false (idle files choices) ms b → Explained jobs files choices ms b
moves_explained jobs files choices ms ahead b asks numbered h =
    let t = explained jobs files choices ms ahead b asks numbered h in
    let n = unlinked-length jobs in
    record {
      state = t.state;
      replays = t.replays;
      chosen = t.chosen;
      files_at_end = t.related.files;
      outcomes = t.outcomes ∙ ap (λ k. record_all (replicate k None) ms) n;
      fresh = subst (λ k. AllFresh (replicate k None) ms) n t.fresh;
    }

pub calls_explained : (jobs : List Job) (files : Files) (choices : List ℕ) (ms : List Move) (ahead : List Taken) (b : PartnerState)
    → map job_of (took ms ++ ahead) ≡ last_unlinked jobs → Numbered 0 (took ms ++ ahead) → IsServed (Some (idle files choices)) ms (Some b) → Explained jobs files choices ms b
calls_explained jobs files choices ms ahead b asks numbered h =
    moves_explained jobs files choices ms ahead b asks numbered (served_from file_machine false (idle files choices) b ms h)

-- an idle partner is known by its files and choices
pub idle_is : (a : PartnerState) → IsIdle a → a ≡ idle a.world a.choices
idle_is a h = λ i. record { world = a.world; pending = h.pending i; tail = h.tail i; choices = a.choices }

-- whole calls to an idle partner are moves from its files and choices
pub idle_moves : (a b : PartnerState) (ms : List Move) → IsIdle a → IsServed (Some a) ms (Some b) → Steps false (idle a.world a.choices) ms b
idle_moves a b ms h k = served_from file_machine false (idle a.world a.choices) b ms (subst (λ x. Steps true x ms b) (idle_is a h) k)

pub idle_explained : (jobs : List Job) (ms : List Move) (ahead : List Taken) (a b : PartnerState)
    → IsIdle a → map job_of (took ms ++ ahead) ≡ last_unlinked jobs → Numbered 0 (took ms ++ ahead) → IsServed (Some a) ms (Some b) → Explained jobs a.world a.choices ms b
idle_explained jobs ms ahead a b h asks numbered k =
    moves_explained jobs a.world a.choices ms ahead b asks numbered (idle_moves a b ms h k)

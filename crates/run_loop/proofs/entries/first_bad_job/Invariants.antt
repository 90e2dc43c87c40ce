use Rattle.std.proofs.Common.{◌≡◌, ◌<◌, ℕ, Some, drop, slice_get}
use Rattle.uring_model.specs.declared.jobs.Job.{Job}
use Rattle.run_loop.specs.Entries.{first_bad, IsInRange}
use Rattle.run_loop.proofs.entries.first_bad_job.Given as goal

-- the jobs passed are valid, and in range
abbrev pub invariant-loop-place : goal.invariant-loop-place
invariant-loop-place l =
    (first_bad 0 l.jobs ≡ first_bad l.place (drop l.place l.jobs))
    × ((k : ℕ) (job : Job) → k < l.place → slice_get l.jobs k ≡ Some job → IsInRange job.kind)

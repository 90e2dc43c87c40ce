use Rattle.std.proofs.Common.{◌≡◌, ◌-◌, ◌++◌}
use Rattle.job_generator.specs.Generator.{generated, jobs_from}
use Rattle.job_generator.proofs.jobs.generate.Given as goal

-- the jobs so far, and those that are left
abbrev pub invariant-loop-place : goal.invariant-loop-place
invariant-loop-place l = generated l.fn.count ≡ l.jobs.items ++ jobs_from l.place l.x (l.fn.count - l.place)

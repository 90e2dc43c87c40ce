-- When a chain is cut.
use Rattle.std.specs.Prelude.{Bool, ℤ, Option}
use Rattle.uring_base.specs.declared.events.Taken.{Taken}
use Rattle.uring_model.specs.Jobs.{linked}
use Rattle.uring_model.specs.Partner.{job_of, tail_for}
use Rattle.uring_model.specs.Replay.{cuts}

-- what the entry behind this one is told: nothing where this one isn't linked, else whether it is cut
abbrev pub tail_after : Bool → Taken → ℤ → Option Bool
tail_after cut t r = tail_for (linked (job_of t).link) (cuts cut (job_of t) r)

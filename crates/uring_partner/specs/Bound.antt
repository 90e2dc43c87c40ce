-- What may keep an entry from being ready.
use Rattle.std.specs.Prelude.{ℕ, Bool, ◌||◌, List, count_by}
use Rattle.uring_model.specs.declared.pending.Pending.{Pending}
use Rattle.uring_model.specs.Jobs.{linked}
use Rattle.uring_partner.specs.Served.{job_of}

-- The entry has a link or a drain. Where no pending entry has, all are ready.
abbrev pub is_bound : Pending → Bool
is_bound i = linked (job_of i.taken).link || (job_of i.taken).drain

abbrev pub bound_in : List Pending → ℕ
bound_in pending = count_by is_bound pending

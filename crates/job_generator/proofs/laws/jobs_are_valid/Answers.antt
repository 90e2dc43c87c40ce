use Rattle.job_generator.proofs.Listed.{valid_jobs}
use Rattle.job_generator.proofs.laws.jobs_are_valid.Goals as goal

pub returns : goal.returns
returns c = valid_jobs

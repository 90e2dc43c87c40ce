-- Want of memory comes only where an operation would have been asked for.
use Rattle.std.proofs.Common.{◌≡◌, true, inr, Err}
use Rattle.rent_engine.specs.declared.sequences.PlanStep.TheVariants.{Gives}
use Rattle.rent_fs.specs.declared.error.FsError.TheVariants as errors
use Rattle.rent_fs.specs.declared.make_dir.Making.{Making}
use Rattle.rent_fs.specs.Creation.{Next, Tries, Ends, is_try}
use Rattle.rent_fs.specs.MakeDirs.{MovesTo, Step}

pub lacks : (x : Next) (step : Step) (next : Making) → is_try x ≡ true → step ≡ Gives (Err errors.NoMemory) → MovesTo x step next
lacks (Tries c) step next tries e = inr e
lacks (Ends output) step next tries e = absurd cc

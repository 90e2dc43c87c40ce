-- What an operation that does nothing gives.
use Rattle.std.specs.Prelude.{Bool, true, false, ℤ, pos, negsuc}
use Rattle.rent_engine.specs.declared.one_op.OneAnswer.{OneAnswer}
use Rattle.rent_engine.specs.declared.one_op.OneAnswer.TheVariants.{Done, InUse, NoMemory, Lost}

abbrev pub is_count : ℤ → Bool
is_count (pos n) = true
is_count (negsuc n) = false

-- it is done, and not with an error
abbrev pub succeeded : OneAnswer → Bool
succeeded (Done done) = is_count done.result
succeeded (InUse buf) = false
succeeded (NoMemory buf) = false
succeeded Lost = false

-- every output may be given
abbrev pub IsAny : Bool → Type 0
IsAny output = Unit {0}

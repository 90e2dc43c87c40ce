-- States of several operations, as they begin.
use Rattle.std.specs.Prelude.{Some, None}
use Rattle.rent_engine.specs.declared.one_op.Request.{Request}
use Rattle.rent_engine.specs.declared.one_op.Stage.TheVariants.{Offers, Over}
use Rattle.rent_engine.specs.declared.sequences.Sequence.{Sequence}
use Rattle.rent_engine.specs.Plans.{no_flags}

-- with an operation
abbrev pub asks_first : {P T : Type 0} → P → Request → Sequence P T
asks_first plan request = record { plan = plan; op = Offers request; given = None; number = None; flags = no_flags }

-- with an output, and no operation
abbrev pub gives_first : {P T : Type 0} → P → T → Sequence P T
gives_first plan output = record { plan = plan; op = Over; given = Some output; number = None; flags = no_flags }

-- A side that stands beside its pair.
use Rattle.std.specs.Prelude.{Option, None}
use Rattle.ring_traits.specs.Lists.{Lists}
use Rattle.uring_shared.specs.declared.engine_ends.EngineEnds.{EngineEnds}
use Rattle.uring_shared.specs.declared.partner_ends.PartnerEnds.{PartnerEnds}
use Rattle.uring_shared.specs.declared.seats.EngineSeats.{EngineSeats}
use Rattle.uring_shared.specs.declared.seats.PartnerSeats.{PartnerSeats}

-- its seats
abbrev pub engine_of : EngineEnds → EngineSeats
engine_of ends = ends.seats

abbrev pub partner_of : PartnerEnds → PartnerSeats
partner_of ends = ends.seats

-- what a side that doesn't see the other one tells of what the rings hold: nothing
abbrev pub untold : {S : Type 0} → S → Option Lists
untold _ = None

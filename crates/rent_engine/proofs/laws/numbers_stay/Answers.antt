use Rattle.rent_engine.proofs.Staying.{stays_in_flight, lands, leaves_once}
use Rattle.rent_engine.proofs.laws.numbers_stay.Goals as goal

pub returns-clause-in_flight : goal.returns-clause-in_flight
returns-clause-in_flight c = stays_in_flight

pub returns-clause-lands : goal.returns-clause-lands
returns-clause-lands c = lands

pub returns-clause-once : goal.returns-clause-once
returns-clause-once c = leaves_once

-- The operations of an engine, as a table keeps them.
use Rattle.std.specs.Prelude.{ℕ, List, Option, Some, None, refl}
use Rattle.std.specs.Coded.{Coded, code_by, coded×, coded_ℕ, coded_list}
use Rattle.std.specs.Ordering.{nat_cmp}
use Rattle.std.specs.FinMap.{FinMap, entries, code}
use Rattle.rent_table.specs.declared.ops.Flight.{Flight}
use Rattle.rent_table.specs.declared.ops.OpDone.{OpDone}
use Rattle.rent_table.specs.declared.ops.Lifecycle.{Lifecycle}
use Rattle.rent_table.specs.declared.ops.Lifecycle.TheVariants.{InFlight, Done}
use Rattle.rent_table.specs.contracts.ops.Flight as flights
use Rattle.rent_table.specs.contracts.ops.OpDone as outcomes
use Rattle.rent_table.specs.NumberedSlab.{picked}
use Rattle.rent_table.specs.Lists.{if_any}
use Rattle.rent_table.specs.Ops.{Ops}

-- the operations, and how many more fit with no memory
pub record Kept : Type 0 where
  pub ops : Ops
  pub spare : ℕ

abbrev pub ops_code : Coded Ops
ops_code = code_by (FinMap nat_cmp Flight × (FinMap nat_cmp OpDone × FinMap nat_cmp (List ℕ))) (coded× (code coded_ℕ flights.the_row.coded) (coded× (code coded_ℕ outcomes.the_row.coded) (code coded_ℕ (coded_list coded_ℕ)))) (λ o. (o.in_flight, (o.done, o.joins))) (λ p. record { in_flight = p.0; done = p.1.0; joins = p.1.1 }) (λ _. refl)

abbrev pub kept_code : Coded Kept
kept_code = code_by (Ops × ℕ) (coded× ops_code coded_ℕ) (λ k. (k.ops, k.spare)) (λ p. record { ops = p.0; spare = p.1 }) (λ _. refl)

abbrev pub flight_of : Lifecycle → Option Flight
flight_of (InFlight flight joins) = Some flight
flight_of (Done done) = None

abbrev pub done_of : Lifecycle → Option OpDone
done_of (InFlight flight joins) = None
done_of (Done done) = Some done

abbrev pub joins_of : Lifecycle → Option (List ℕ)
joins_of (InFlight flight joins) = if_any joins
joins_of (Done done) = None

-- what stands under each number, by whether it is in flight
abbrev pub ops_of : FinMap nat_cmp Lifecycle → Ops
ops_of m = record { in_flight = picked flight_of (entries m); done = picked done_of (entries m); joins = picked joins_of (entries m) }

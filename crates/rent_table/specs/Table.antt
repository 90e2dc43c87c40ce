-- What a contract sees of a table of operations.
use Rattle.std.specs.Prelude.{ℕ, Bool, List, refl}
use Rattle.std.specs.Coded.{Coded, code_by, coded×, coded_ℕ, coded_bool, coded_list}
use Rattle.rent_table.specs.Kept.{ops_code}
use Rattle.rent_table.specs.Ops.{Ops}
use Rattle.rent_table.specs.Steps.{KeptSteps, steps_code}

-- the operations, their kept steps, whether each handle is canceled, and how many more starts and steps are sure of memory
pub record Table : Type 0 where
  pub ops : Ops
  pub steps : KeptSteps
  pub handles : List Bool
  pub spare : ℕ
  pub step_room : ℕ

abbrev pub table_code : Coded Table
table_code = code_by (Ops × (KeptSteps × (List Bool × (ℕ × ℕ)))) (coded× ops_code (coded× steps_code (coded× (coded_list coded_bool) (coded× coded_ℕ coded_ℕ)))) (λ t. (t.ops, (t.steps, (t.handles, (t.spare, t.step_room))))) (λ p. record { ops = p.0; steps = p.1.0; handles = p.1.1.0; spare = p.1.1.1.0; step_room = p.1.1.1.1 }) (λ _. refl)

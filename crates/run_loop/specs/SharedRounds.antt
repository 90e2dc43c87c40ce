-- How the rounds of both sides of a run end.
use Rattle.std.specs.Prelude.{◌≡◌, ◌⊎◌, false, Option, Some, None, Result, IfErr, OnOk}
use Rattle.uring_model.specs.declared.jobs.RunFault.{RunFault}
use Rattle.partner_traits.specs.declared.call.PartnerError.{PartnerError}
use Rattle.run_loop.specs.Rounds.{is_partner_fault, run_fault_of}

-- Where they went well, the partner refused none; and a fault is the partner's refusal, or no fault of the partner's.
pub record AreEndedBy (ended : Option PartnerError) (result : Result (Unit {0}) RunFault) : Type 0 where
  pub ok : OnOk result (ended ≡ None)
  pub fault : IfErr result (λ e. (is_partner_fault e ≡ false) ⊎ ((error : PartnerError) × (ended ≡ Some error) × (e ≡ run_fault_of error)))

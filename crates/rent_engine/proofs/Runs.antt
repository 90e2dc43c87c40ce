-- What a run of an executor comes to, step by step.
use Rattle.std.proofs.Common.{◌≡◌, ℕ, ◌+◌, ◌<◌, List, [], ◌∷◌, length, refl, sym, subst, inl, arith, add-one}
use Rattle.std.specs.Prelude.{Result, Ok, Err, IsErrAnd}
use Rattle.rent_engine.specs.declared.fault.EngineFault.{EngineFault}
use Rattle.rent_engine.specs.declared.fault.EngineFault.TheVariants as engine
use Rattle.rent_engine.specs.declared.ops.TurnReport.{TurnReport}
use Rattle.rent_engine.specs.declared.executor.ExecFault.{ExecFault}
use Rattle.rent_table.specs.Ops.{Ops}
use Rattle.rent_engine.specs.Executor.{Scene, RunState, RoundAndTurn, Cycles, RunEnds, exec_fault_of}

module _ {P R S O : Type 0} (IsRoundOf : Scene R S O → Scene R S O → Type 0) (turned : P → P → R → R → Ops → Ops → Result TurnReport EngineFault → Type 0) where
  pub one_cycle_more : (n : ℕ) (start last after : RunState P R S O) (report : TurnReport) → Cycles IsRoundOf turned n start last → RoundAndTurn IsRoundOf turned last after (Ok report) → Cycles IsRoundOf turned (n + 1) start after
  one_cycle_more n start last after report before r = subst (λ k. Cycles IsRoundOf turned k start after) (sym (add-one n)) (last, before, report, r)

  turn_failed : (turns used : ℕ) (start last after : RunState P R S O) (cause : EngineFault) (fault : ExecFault) → used < turns → Cycles IsRoundOf turned used start last → RoundAndTurn IsRoundOf turned last after (Err cause) → fault ≡ exec_fault_of cause → RunEnds IsRoundOf turned turns start after (Err fault)
  turn_failed turns used start last after (engine.Stranger n) fault lt before r e =
      subst (λ f. RunEnds IsRoundOf turned turns start after (Err f)) (sym e) (record { used = used; fewer = lt; last = last; cycles = before; cause = engine.Stranger n; fails = r; told = refl })
  turn_failed turns used start last after (engine.Fault errno) fault lt before r e =
      subst (λ f. RunEnds IsRoundOf turned turns start after (Err f)) (sym e) (record { used = used; fewer = lt; last = last; cycles = before; cause = engine.Fault errno; fails = r; told = refl })
  turn_failed turns used start last after engine.NoMemory fault lt before r e =
      subst (λ f. RunEnds IsRoundOf turned turns start after (Err f)) (sym e) (inl (record { used = used; fewer = lt; last = last; cycles = before; cause = engine.NoMemory; fails = r; told = refl }))

  pub turn_ends : (turns used : ℕ) (start last after : RunState P R S O) (cause : EngineFault) (result : Result ℕ ExecFault) → used < turns → Cycles IsRoundOf turned used start last → RoundAndTurn IsRoundOf turned last after (Err cause) → IsErrAnd result (λ fault. fault ≡ exec_fault_of cause) → RunEnds IsRoundOf turned turns start after result
  turn_ends turns used start last after cause (Ok n) lt before r e = absurd e
  turn_ends turns used start last after cause (Err fault) lt before r e = turn_failed turns used start last after cause fault lt before r e

pub none_left : {A : Type 0} (xs : List A) → length xs ≡ 0 → xs ≡ []
none_left [] e = refl
none_left (x ∷ xs) e = absurd (omega (arith, e))

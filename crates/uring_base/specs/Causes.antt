-- A count of faults that never falls, and has risen where a call answers a fault.
use Rattle.std.specs.Prelude.{ℕ, ◌+◌, ◌-◌, ◌^◌, ◌≤◌, min, Bool, Result, IfErr, IsTrue}

-- the count has risen, or stands at its last value
abbrev pub Rose : ℕ → ℕ → Type 0
Rose before now = min (before + 1) (2 ^ 64 - 1) ≤ now

-- the count doesn't fall, and an error that the test calls a fault comes only where it rose or stands at its last value
pub record HasCause {T E : Type 0} (is_fault : E → Bool) (before now : ℕ) (result : Result T E) : Type 0 where
  pub later : before ≤ now
  pub failed : IfErr result (λ e. IsTrue (is_fault e) → Rose before now)

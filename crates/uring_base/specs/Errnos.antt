-- How a result tells an error number.
use Rattle.std.specs.Prelude.{ℤ, pos, ◌-ℤ◌}

-- the result of an operation that fails with this error number: a number below 0
abbrev pub error_result : ℤ → ℤ
error_result errno = pos 0 -ℤ errno

-- The sizes of a pair of rings.
use Rattle.std.specs.Prelude.{ℕ, ◌*◌, Bool, ◌&&◌, nat_lt, nat_le, if◌then◌else◌, zero, suc}
use Rattle.uring_base.specs.declared.limits.TheConstants.{MAX_ENTRIES, MAX_COMPLETIONS}

-- the least power of two, from `power` on, that is at least n, in so many doublings at the most
abbrev pub up_from : ℕ → ℕ → ℕ → ℕ
up_from zero power n = power
up_from (suc doublings) power n = if nat_le n power then power else up_from doublings (2 * power) n

-- the least power of two that is at least n, for n up to 65536
abbrev pub rounded_up : ℕ → ℕ
rounded_up n = up_from 16 1 n

-- both counts are in range, and the rounded completion count is at least the rounded submission count
abbrev pub is_valid_size : ℕ → ℕ → Bool
is_valid_size sq cq = nat_lt 0 sq && nat_le sq MAX_ENTRIES && nat_lt 0 cq && nat_le cq MAX_COMPLETIONS && nat_le (rounded_up sq) (rounded_up cq)

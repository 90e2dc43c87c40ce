-- What a completion's flags say.
use Rattle.std.specs.Prelude.{ℕ, ◌/◌, ◌^◌, Bool, false, not, [], ◌∷◌, Option, Some, None, if◌then◌else◌}
use Rattle.uring_base.specs.FlagBits.{has_bits, completion_bits}
use Rattle.uring_base.specs.declared.completion_flags.Flags.{Flags}
use Rattle.uring_base.specs.declared.completion_flags.TheConstants.Flags.{BUFFER, MORE, SOCK_NONEMPTY, NOTIF, BUF_MORE}
use Rattle.uring_base.specs.declared.cqueue.TheConstants.{BUFFER_SHIFT}
use Rattle.uring_base.specs.declared.events.Completion.{Completion}

-- whether a completion's word of flags has these flags
abbrev pub tells : ℕ → Flags → Bool
tells word flags = has_bits word (completion_bits flags)

-- more completions of the operation are to come
abbrev pub is_more : ℕ → Bool
is_more flags = tells flags MORE

abbrev pub is_final : ℕ → Bool
is_final flags = not (is_more flags)

-- what a ring of small completion entries keeps of a completion
abbrev pub without_big : Completion → Completion
without_big c = record c { big = 0 ∷ 0 ∷ []; large = false }

-- the buffer whose number the completion names isn't used up
abbrev pub is_buffer_more : ℕ → Bool
is_buffer_more flags = tells flags BUF_MORE

-- the socket has more to be received
abbrev pub is_sock_nonempty : ℕ → Bool
is_sock_nonempty flags = tells flags SOCK_NONEMPTY

-- the second completion of a send that doesn't copy
abbrev pub is_notif : ℕ → Bool
is_notif flags = tells flags NOTIF

-- the number of the buffer that the operation took from its group, in the upper half of the flags
abbrev pub selected_buffer : ℕ → Option ℕ
selected_buffer flags = if tells flags BUFFER then Some (flags / 2 ^ BUFFER_SHIFT) else None

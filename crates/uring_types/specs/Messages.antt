-- Where the parts of a received message lie in its buffer.
use Rattle.std.specs.Prelude.{◌≡◌, ℕ, ◌+◌, ◌-◌, ◌≤◌, List, length, min, slice_range}
use Rattle.uring_base.specs.Bytes.{word_at}
use Rattle.uring_types.specs.declared.messages.RecvMsgOut.{RecvMsgOut}
use Rattle.uring_types.specs.declared.messages.TheConstants.{MESSAGE_HEADER_LEN}

-- The header is four words. Then come the field of the name, that of the control data, and the payload.

-- a part's end: as many bytes as the header says, and its field holds
abbrev pub name_end : List ℕ → ℕ → ℕ
name_end buffer name_len = MESSAGE_HEADER_LEN + min (word_at buffer 0) name_len

abbrev pub control_start : ℕ → ℕ
control_start name_len = MESSAGE_HEADER_LEN + name_len

abbrev pub control_end : List ℕ → ℕ → ℕ → ℕ
control_end buffer name_len control_len = control_start name_len + min (word_at buffer 4) control_len

abbrev pub payload_start : ℕ → ℕ → ℕ
payload_start name_len control_len = MESSAGE_HEADER_LEN + name_len + control_len

abbrev pub payload_end : List ℕ → ℕ → ℕ → ℕ
payload_end buffer name_len control_len =
    payload_start name_len control_len + min (word_at buffer 8) (length buffer - payload_start name_len control_len)

-- the message's parts are slices of the buffer, and its numbers are the header's
pub record IsMessage (buffer : List ℕ) (name_len control_len : ℕ) (m : RecvMsgOut) : Type 0 where
  pub name : m.name.now ≡ slice_range buffer MESSAGE_HEADER_LEN (name_end buffer name_len)
  pub control : m.control.now ≡ slice_range buffer (control_start name_len) (control_end buffer name_len control_len)
  pub payload : m.payload.now ≡ slice_range buffer (payload_start name_len control_len) (payload_end buffer name_len control_len)
  pub name_room : m.name_room ≡ name_len
  pub name_word : m.name_len ≡ word_at buffer 0
  pub control_word : m.control_len ≡ word_at buffer 4
  pub payload_word : m.payload_len ≡ word_at buffer 8
  pub flags_word : m.flags ≡ word_at buffer 12

-- the parts stand in order within the buffer, and none overlaps the next
pub record AreInOrder (buffer : List ℕ) (name_len control_len : ℕ) : Type 0 where
  pub name_first : name_end buffer name_len ≤ control_start name_len
  pub control_next : control_end buffer name_len control_len ≤ payload_start name_len control_len
  pub payload_last : payload_start name_len control_len ≤ payload_end buffer name_len control_len
  pub all_inside : payload_end buffer name_len control_len ≤ length buffer

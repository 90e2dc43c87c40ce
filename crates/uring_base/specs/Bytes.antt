-- Where words stand among bytes, the lowest byte of each first.
use Rattle.std.specs.Prelude.{ℕ, ◌+◌, List, [], ◌∷◌, slice_index}
use Rattle.std.specs.Int.{w16, w32, w64, from_le_bytes}

-- the numbers of 16, 32 and 64 bits that begin at a byte
abbrev pub half_at : List ℕ → ℕ → ℕ
half_at b i = from_le_bytes w16 (slice_index b i ∷ slice_index b (i + 1) ∷ [])

abbrev pub word_at : List ℕ → ℕ → ℕ
word_at b i = from_le_bytes w32
    (slice_index b i ∷ slice_index b (i + 1) ∷ slice_index b (i + 2) ∷ slice_index b (i + 3) ∷ [])

abbrev pub long_at : List ℕ → ℕ → ℕ
long_at b i = from_le_bytes w64
    (slice_index b i ∷ slice_index b (i + 1) ∷ slice_index b (i + 2) ∷ slice_index b (i + 3)
    ∷ slice_index b (i + 4) ∷ slice_index b (i + 5) ∷ slice_index b (i + 6) ∷ slice_index b (i + 7) ∷ [])

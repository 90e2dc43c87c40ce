-- Bytes to a large completion and back, and a large completion to bytes and back.
use Rattle.std.proofs.Common.{◌≡◌, ℕ, List, [], ◌∷◌, ◌++◌, length, get_or, drop, ap, ap₂, sym, ◌∙◌, rules, w32, w64, ℤ}
use Rattle.std.specs.Int.{to_le_bytes, cast_signed, cast_unsigned}
use Rattle.std.proofs.lemmas.Nat.{from_le_bytes-to_le_bytes_4, from_le_bytes-to_le_bytes_8}
use Rattle.std.proofs.lemmas.Int.{to_z-of_z}
use Rattle.uring_base.specs.Bytes.{long_at}
use Rattle.uring_base.proofs.Codec.{AreBytes, drop-window, join, long_back}
use Rattle.uring_large.specs.declared.cqueue.Entry32.{Entry32}
use Rattle.uring_large.specs.Layouts.{large_completion_at, large_completion_bytes, FitsLarge}

-- the two numbers behind a small completion
pub two_numbers : (b : List ℕ) → length b ≡ 32 → AreBytes b
    → to_le_bytes w64 (long_at b 16) ++ to_le_bytes w64 (long_at b 24) ≡ drop 16 b
two_numbers b h r = join (long_back b 16 r) (long_back b 24 r) ∙ sym (drop-window 16 16 b (sym h))

-- a list of two elements
two_elements : (b : List ℕ) → length b ≡ 2 → get_or b 0 0 ∷ get_or b 1 0 ∷ [] ≡ b
two_elements b h = sym (drop-window 2 0 b (sym h))

same_large : (c : Entry32) (user_data : ℕ) (outcome : ℤ) (flags front back : ℕ)
    → user_data ≡ c.entry.user_data → outcome ≡ c.entry.result → flags ≡ c.entry.flags → front ∷ back ∷ [] ≡ c.big
    → record { entry = record { user_data = user_data; result = outcome; flags = flags }; big = front ∷ back ∷ [] } ≡ c
same_large c user_data outcome flags front back h1 h2 h3 h4 = simp (h1, h2, h3, h4)

pub large-completion-bytes : (c : Entry32) → FitsLarge c → large_completion_at (large_completion_bytes c) ≡ c
large-completion-bytes c f = same_large c _ _ _ _ _
    (from_le_bytes-to_le_bytes_8 c.entry.user_data f.user_data)
    (ap (cast_signed w32) (from_le_bytes-to_le_bytes_4 (cast_unsigned w32 c.entry.result) (search (rules, f.outcome))) ∙ to_z-of_z w32 c.entry.result f.outcome)
    (from_le_bytes-to_le_bytes_4 c.entry.flags f.flags)
    (ap₂ (λ x y. x ∷ y ∷ []) (from_le_bytes-to_le_bytes_8 (get_or c.big 0 0) f.front) (from_le_bytes-to_le_bytes_8 (get_or c.big 1 0) f.back)
    ∙ two_elements c.big f.count)

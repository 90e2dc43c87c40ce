-- The features of a ring that have a name.
use Rattle.std.specs.Prelude.{ℕ, ◌^◌, List, [], ◌∷◌, codes}
use Rattle.bitflags.specs.Sets.{known_bits}

-- each with its bit
abbrev pub feature_table : List (List ℕ × ℕ)
feature_table = (codes "SINGLE_MMAP", 2 ^ 0)
    ∷ (codes "NODROP", 2 ^ 1)
    ∷ (codes "SUBMIT_STABLE", 2 ^ 2)
    ∷ (codes "RW_CUR_POS", 2 ^ 3)
    ∷ (codes "CUR_PERSONALITY", 2 ^ 4)
    ∷ (codes "FAST_POLL", 2 ^ 5)
    ∷ (codes "POLL_32BITS", 2 ^ 6)
    ∷ (codes "SQPOLL_NONFIXED", 2 ^ 7)
    ∷ (codes "EXT_ARG", 2 ^ 8)
    ∷ (codes "NATIVE_WORKERS", 2 ^ 9)
    ∷ (codes "RSRC_TAGS", 2 ^ 10)
    ∷ (codes "CQE_SKIP", 2 ^ 11)
    ∷ (codes "LINKED_FILE", 2 ^ 12)
    ∷ (codes "REG_REG_RING", 2 ^ 13)
    ∷ (codes "RECVSEND_BUNDLE", 2 ^ 14)
    ∷ (codes "MIN_TIMEOUT", 2 ^ 15)
    ∷ (codes "NO_IOWAIT", 2 ^ 17)
    ∷ []

-- the bits of all of them
abbrev pub all_features : ℕ
all_features = known_bits feature_table

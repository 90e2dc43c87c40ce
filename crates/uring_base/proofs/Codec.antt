-- Bytes to an entry and back, and an entry to bytes and back.
use Rattle.std.proofs.Common.{◌≡◌, ℕ, zero, suc, ◌+◌, ◌<◌, ◌^◌, List, [], ◌∷◌, ◌++◌, length, get_or, drop, refl, ap, ap₂, sym, ◌∙◌, arith, rules, drop-cons, w16, w32, w64, ℤ}
use Rattle.std.specs.Int.{to_le_bytes, from_le_bytes, cast_signed, cast_unsigned}
use Rattle.std.proofs.lemmas.Nat.{le_bytes_2, le_bytes_4, le_bytes_8, from_le_bytes-to_le_bytes_2, from_le_bytes-to_le_bytes_4, from_le_bytes-to_le_bytes_8}
use Rattle.std.proofs.lemmas.Int.{of_z-to_z, to_z-of_z}
use Rattle.std.proofs.lemmas.List.{drop_all}
use Rattle.uring_base.specs.declared.squeue.Entry.{Entry}
use Rattle.uring_base.specs.Layouts.{completion_at, completion_bytes}
use Rattle.uring_base.specs.Layouts.{entry_at, entry_bytes, FitsLow, FitsHigh}

-- n elements from place i
abbrev pub window : ℕ → ℕ → List ℕ → List ℕ
window i zero b = []
window i (suc n) b = get_or b i 0 ∷ window (suc i) n b

pub drop-window : (n i : ℕ) (b : List ℕ) → i + n ≡ length b → drop i b ≡ window i n b
drop-window zero i b h = drop_all i b (omega arith)
drop-window (suc n) i b h =
    let p : i < length b = omega arith in
    let q : suc i + n ≡ length b = omega arith in
    rw (drop-cons b i 0) (ap (λ r. get_or b i 0 ∷ r) (drop-window n (suc i) b q))

pub record AreBytes (b : List ℕ) : Type 0 where
  pub below : (k : ℕ) → get_or b k 0 < 256

window_bytes : (n i : ℕ) (b : List ℕ) → AreBytes b → (k : ℕ) → get_or (window i n b) k 0 < 256
window_bytes zero i b r k = grind arith
window_bytes (suc n) i b r zero = r.below i
window_bytes (suc n) i b r (suc k) = window_bytes n (suc i) b r k

pub half_back : (b : List ℕ) (i : ℕ) → AreBytes b → to_le_bytes w16 (from_le_bytes w16 (window i 2 b)) ≡ window i 2 b
half_back b i r = le_bytes_2 (window i 2 b) _ refl (window_bytes 2 i b r) refl

pub word_back : (b : List ℕ) (i : ℕ) → AreBytes b → to_le_bytes w32 (from_le_bytes w32 (window i 4 b)) ≡ window i 4 b
word_back b i r = le_bytes_4 (window i 4 b) _ refl (window_bytes 4 i b r) refl

pub long_back : (b : List ℕ) (i : ℕ) → AreBytes b → to_le_bytes w64 (from_le_bytes w64 (window i 8 b)) ≡ window i 8 b
long_back b i r = le_bytes_8 (window i 8 b) _ refl (window_bytes 8 i b r) refl

-- the same of a signed word
pub signed_back : (b : List ℕ) (i : ℕ) → AreBytes b
    → to_le_bytes w32 (cast_unsigned w32 (cast_signed w32 (from_le_bytes w32 (window i 4 b)))) ≡ window i 4 b
signed_back b i r =
    let f : from_le_bytes w32 (window i 4 b) < 2 ^ 32 =
    omega (arith, r.below i, r.below (suc i), r.below (suc (suc i)), r.below (suc (suc (suc i)))) in
    ap (to_le_bytes w32) (of_z-to_z w32 (from_le_bytes w32 (window i 4 b)) f) ∙ word_back b i r

pub join : {a a' r r' : List ℕ} → a ≡ a' → r ≡ r' → a ++ r ≡ a' ++ r'
join p q = ap₂ (λ x y. x ++ y) p q

pub bytes-entry : (b : List ℕ) → length b ≡ 64 → AreBytes b → entry_bytes (entry_at b) ≡ b
bytes-entry b h r =
    ap (λ r. get_or b 0 0 ∷ get_or b 1 0 ∷ r)
    (join (half_back b 2 r) (join (signed_back b 4 r) (join (long_back b 8 r) (join (long_back b 16 r)
    (join (word_back b 24 r) (join (word_back b 28 r) (join (long_back b 32 r) (join (half_back b 40 r)
    (join (half_back b 42 r) (join (word_back b 44 r) (join (long_back b 48 r) (long_back b 56 r))))))))))))
    ∙ sym (drop-window 64 0 b (sym h))

-- an entry whose words are those of e
same_words : (e : Entry) (prio : ℕ) (fd : ℤ) (off addr len op user_data buf personality idx third fourth : ℕ)
    → prio ≡ e.prio → fd ≡ e.fd → off ≡ e.off → addr ≡ e.addr → len ≡ e.len → op ≡ e.op → user_data ≡ e.user_data
    → buf ≡ e.buf → personality ≡ e.personality → idx ≡ e.idx → third ≡ e.third → fourth ≡ e.fourth
    → record {
      opcode = e.opcode;
      flags = e.flags;
      prio = prio;
      fd = fd;
      off = off;
      addr = addr;
      len = len;
      op = op;
      user_data = user_data;
      buf = buf;
      personality = personality;
      idx = idx;
      third = third;
      fourth = fourth;
    } ≡ e
same_words e prio fd off addr len op user_data buf personality idx third fourth h1 h2 h3 h4 h5 h6 h7 h8 h9 h10 h11 h12 =
    simp (h1, h2, h3, h4, h5, h6, h7, h8, h9, h10, h11, h12)

pub entry-bytes : (e : Entry) → FitsLow e → FitsHigh e → entry_at (entry_bytes e) ≡ e
entry-bytes e f g = same_words e _ _ _ _ _ _ _ _ _ _ _ _
    (from_le_bytes-to_le_bytes_2 e.prio f.prio)
    (ap (cast_signed w32) (from_le_bytes-to_le_bytes_4 (cast_unsigned w32 e.fd) (search (rules, f.fd))) ∙ to_z-of_z w32 e.fd f.fd)
    (from_le_bytes-to_le_bytes_8 e.off f.off)
    (from_le_bytes-to_le_bytes_8 e.addr f.addr)
    (from_le_bytes-to_le_bytes_4 e.len f.len)
    (from_le_bytes-to_le_bytes_4 e.op f.op)
    (from_le_bytes-to_le_bytes_8 e.user_data f.user_data)
    (from_le_bytes-to_le_bytes_2 e.buf g.buf)
    (from_le_bytes-to_le_bytes_2 e.personality g.personality)
    (from_le_bytes-to_le_bytes_4 e.idx g.idx)
    (from_le_bytes-to_le_bytes_8 e.third g.third)
    (from_le_bytes-to_le_bytes_8 e.fourth g.fourth)

pub bytes-completion : (b : List ℕ) → length b ≡ 16 → AreBytes b → completion_bytes (completion_at b) ≡ b
bytes-completion b h r =
    join (long_back b 0 r) (join (signed_back b 8 r) (word_back b 12 r)) ∙ sym (drop-window 16 0 b (sym h))

-- Bytes have one reading: whole entries in front, and then the end or what is no entry.
use Rattle.std.proofs.Common.{◌≡◌, ℕ, ◌+◌, ◌-◌, ◌<◌, ◌≤◌, inl, inr, suc, true, false, List, [], ◌∷◌, ◌++◌, length, get_or, drop, Result, Ok, Err, refl, ap, sym, subst, ◌∙◌, arith, append_assoc, append-nil, length-append, length-drop, drop-cons}
use Rattle.std.specs.List.{AllByRecursion}
use Rattle.uring_mixed.specs.declared.fault.MixedFault.{MixedFault}
use Rattle.uring_mixed.specs.declared.fault.MixedFault.TheVariants.{Mark, Cut, NoMemory}
use Rattle.uring_mixed.specs.Listing.{Form, IsEntry, is_mark, size_for, encoding, IsWholeBefore, IsReading, IsOnlyReading}
use Rattle.uring_mixed.specs.Steps.{StandsAt, IsFaultAt}

append_apart : (xs ys r s : List ℕ) → length xs ≡ length ys → xs ++ r ≡ ys ++ s → (xs ≡ ys) × (r ≡ s)
append_apart [] [] r s n e = (refl, e)
append_apart [] (y ∷ ys) r s n e = absurd (omega arith)
append_apart (x ∷ xs) [] r s n e = absurd (omega arith)
append_apart (x ∷ xs) (y ∷ ys) r s n e =
    let heads : x ≡ y = cc in
    let tails : xs ++ r ≡ ys ++ s = cc in
    let rest = append_apart xs ys r s (omega arith) tails in
    ((λ i. heads i ∷ rest.0 i), rest.1)

module _ {T : Type 0} (form : Form T) where
  -- two entries in front of the same bytes are one
  same_front : (x y : T) (r s : List ℕ) → IsEntry form x → IsEntry form y → form.code x ++ r ≡ form.code y ++ s → (x ≡ y) × (r ≡ s)
  same_front x y r s p q e =
      let both : p.mark ∷ (p.own ++ r) ≡ q.mark ∷ (q.own ++ s) = ap (λ c. c ++ r) (sym p.bytes) ∙ e ∙ ap (λ c. c ++ s) q.bytes in
      let marks : p.mark ≡ q.mark = cc in
      let owns : p.own ++ r ≡ q.own ++ s = cc in
      let sizes : length p.own ≡ length q.own = p.size ∙ ap (size_for form) marks ∙ sym q.size in
      let apart = append_apart p.own q.own r s sizes owns in
      let codes : form.code x ≡ form.code y = p.bytes ∙ (λ i. marks i ∷ apart.0 i) ∙ sym q.bytes in
      (sym p.holds ∙ ap form.held codes ∙ q.holds, apart.1)

  -- no whole entry stands in front
  abbrev IsStuck : List ℕ → Type 0
  IsStuck r = (x : T) (more : List ℕ) → IsEntry form x → r ≡ form.code x ++ more → ⊥

  one_front : (xs ys : List T) (r s : List ℕ) → AllByRecursion (IsEntry form) xs → AllByRecursion (IsEntry form) ys → IsStuck r → IsStuck s → encoding form xs ++ r ≡ encoding form ys ++ s → (xs ≡ ys) × (r ≡ s)
  one_front [] [] r s ps qs u v e = (refl, e)
  one_front [] (y ∷ ys) r s ps qs u v e = absurd (u y (encoding form ys ++ s) qs.0 (e ∙ append_assoc (form.code y) (encoding form ys) s))
  one_front (x ∷ xs) [] r s ps qs u v e = absurd (v x (encoding form xs ++ r) ps.0 (sym e ∙ append_assoc (form.code x) (encoding form xs) r))
  one_front (x ∷ xs) (y ∷ ys) r s ps qs u v e =
      let front = same_front x y (encoding form xs ++ r) (encoding form ys ++ s) ps.0 qs.0 (sym (append_assoc (form.code x) (encoding form xs) r) ∙ e ∙ append_assoc (form.code y) (encoding form ys) s) in
      let rest = one_front xs ys r s ps.1 qs.1 u v front.1 in
      ((λ i. front.0 i ∷ rest.0 i), rest.1)

  stuck_end : IsStuck []
  stuck_end x more p e = let bad : [] ≡ p.mark ∷ (p.own ++ more) = e ∙ ap (λ c. c ++ more) p.bytes in absurd cc

  -- what an entry at a place would be
  front_at : (bytes : List ℕ) (place : ℕ) → place < length bytes → (x : T) (more : List ℕ) → (p : IsEntry form x) → drop place bytes ≡ form.code x ++ more
      → (get_or bytes place 0 ≡ p.mark) × (length p.own ≤ length bytes - (place + 1))
  front_at bytes place inside x more p e =
      let both : get_or bytes place 0 ∷ drop (suc place) bytes ≡ p.mark ∷ (p.own ++ more) = sym (drop-cons bytes place 0 inside) ∙ e ∙ ap (λ c. c ++ more) p.bytes in
      let marks : get_or bytes place 0 ≡ p.mark = cc in
      let owns : drop (suc place) bytes ≡ p.own ++ more = cc in
      let n : length (drop (suc place) bytes) ≡ length p.own + length more = ap length owns ∙ length-append p.own more in
      (marks, let d = length-drop (suc place) bytes in omega (arith, n, d))

  stuck_mark : (bytes : List ℕ) (place : ℕ) → place < length bytes → is_mark (get_or bytes place 0) ≡ false → IsStuck (drop place bytes)
  stuck_mark bytes place inside none x more p e =
      let f = front_at bytes place inside x more p e in
      let bad : true ≡ false = sym p.marked ∙ ap is_mark (sym f.0) ∙ none in absurd cc

  stuck_cut : (bytes : List ℕ) (place : ℕ) → place < length bytes → length bytes < place + 1 + size_for form (get_or bytes place 0) → IsStuck (drop place bytes)
  stuck_cut bytes place inside few x more p e =
      let f = front_at bytes place inside x more p e in
      let size : length p.own ≡ size_for form (get_or bytes place 0) = p.size ∙ ap (size_for form) (sym f.0) in
      let le = f.1 in
      absurd (omega (arith, few, size, le, inside))

  end_or_place : (bytes : List ℕ) (xs : List T) → AllByRecursion (IsEntry form) xs → encoding form xs ≡ bytes → (place : ℕ) → (w : IsWholeBefore form place bytes) → IsStuck (drop place bytes) → ⊥
  end_or_place bytes xs ps e place w u =
      let same = one_front xs w.items [] (drop place bytes) ps w.entries stuck_end u (append-nil (encoding form xs) ∙ e ∙ sym w.front) in
      let n : 0 ≡ length (drop place bytes) = ap length same.1 in
      let d = length-drop place bytes in
      let inside = w.inside in
      absurd (omega (arith, n, d, inside))

  same_place : (bytes : List ℕ) (place other : ℕ) → IsWholeBefore form place bytes → IsWholeBefore form other bytes → IsStuck (drop place bytes) → IsStuck (drop other bytes) → place ≡ other
  same_place bytes place other w v s t =
      let same = one_front w.items v.items (drop place bytes) (drop other bytes) w.entries v.entries s t (w.front ∙ sym v.front) in
      let n : length (drop place bytes) ≡ length (drop other bytes) = ap length same.1 in
      let d = length-drop place bytes in
      let e = length-drop other bytes in
      let p = w.inside in
      let q = v.inside in
      omega (arith, n, d, e, p, q)

  -- a place with no mark isn't one where an entry is cut
  mark_or_cut : (bytes : List ℕ) (place other : ℕ) → place ≡ other → is_mark (get_or bytes place 0) ≡ false → is_mark (get_or bytes other 0) ≡ true → ⊥
  mark_or_cut bytes place other e none some = let bad : false ≡ true = sym none ∙ ap (λ n. is_mark (get_or bytes n 0)) e ∙ some in absurd cc

  pub only_reading : (bytes : List ℕ) (answer : Result (List T) MixedFault) → IsReading form bytes answer → IsOnlyReading form bytes answer
  only_reading bytes (Err NoMemory) r other o = inl refl
  only_reading bytes (Ok xs) r (Err NoMemory) o = inr (inl refl)
  only_reading bytes (Err (Mark n)) r (Err NoMemory) o = inr (inl refl)
  only_reading bytes (Err (Cut n)) r (Err NoMemory) o = inr (inl refl)
  only_reading bytes (Ok xs) r (Ok ys) o =
      let same = one_front xs ys [] [] r.0 o.0 stuck_end stuck_end (append-nil (encoding form xs) ∙ r.1 ∙ sym o.1 ∙ sym (append-nil (encoding form ys))) in
      inr (inr (ap (λ l. Ok l) same.0))
  only_reading bytes (Ok xs) r (Err (Mark n)) o = absurd (end_or_place bytes xs r.0 r.1 n o.0 (stuck_mark bytes n o.0.inside o.1))
  only_reading bytes (Ok xs) r (Err (Cut n)) o = absurd (end_or_place bytes xs r.0 r.1 n o.0 (stuck_cut bytes n o.0.inside o.2))
  only_reading bytes (Err (Mark n)) r (Ok ys) o = absurd (end_or_place bytes ys o.0 o.1 n r.0 (stuck_mark bytes n r.0.inside r.1))
  only_reading bytes (Err (Cut n)) r (Ok ys) o = absurd (end_or_place bytes ys o.0 o.1 n r.0 (stuck_cut bytes n r.0.inside r.2))
  only_reading bytes (Err (Mark n)) r (Err (Mark m)) o =
      inr (inr (ap (λ k. Err (Mark k)) (same_place bytes n m r.0 o.0 (stuck_mark bytes n r.0.inside r.1) (stuck_mark bytes m o.0.inside o.1))))
  only_reading bytes (Err (Cut n)) r (Err (Cut m)) o =
      inr (inr (ap (λ k. Err (Cut k)) (same_place bytes n m r.0 o.0 (stuck_cut bytes n r.0.inside r.2) (stuck_cut bytes m o.0.inside o.2))))
  only_reading bytes (Err (Mark n)) r (Err (Cut m)) o =
      absurd (mark_or_cut bytes n m (same_place bytes n m r.0 o.0 (stuck_mark bytes n r.0.inside r.1) (stuck_cut bytes m o.0.inside o.2)) r.1 o.1)
  only_reading bytes (Err (Cut n)) r (Err (Mark m)) o =
      absurd (mark_or_cut bytes m n (sym (same_place bytes n m r.0 o.0 (stuck_cut bytes n r.0.inside r.2) (stuck_mark bytes m o.0.inside o.1))) o.1 r.1)

  -- the steps of the loops

  pub encoding_more : (xs : List T) (x : T) → encoding form (xs ++ x ∷ []) ≡ encoding form xs ++ form.code x
  encoding_more [] x = append-nil (form.code x)
  encoding_more (y ∷ xs) x = ap (λ l. form.code y ++ l) (encoding_more xs x) ∙ sym (append_assoc (form.code y) (encoding form xs) (form.code x))

  pub entries_more : (xs : List T) (x : T) → AllByRecursion (IsEntry form) xs → IsEntry form x → AllByRecursion (IsEntry form) (xs ++ x ∷ [])
  entries_more [] x ps p = (p, tt)
  entries_more (y ∷ xs) x ps p = (ps.0, entries_more xs x ps.1 p)

  pub front_more : (xs : List T) (x : T) (place end : ℕ) (bytes : List ℕ) → encoding form xs ++ drop place bytes ≡ bytes → StandsAt form bytes place x end → encoding form (xs ++ x ∷ []) ++ drop end bytes ≡ bytes
  front_more xs x place end bytes e s =
      ap (λ l. l ++ drop end bytes) (encoding_more xs x) ∙ append_assoc (encoding form xs) (form.code x) (drop end bytes)
      ∙ ap (λ l. encoding form xs ++ l) (sym s.bytes_are) ∙ e

  -- the fault of a place, behind whole entries, is that of the bytes
  pub fault_reads : (xs : List T) (place : ℕ) (bytes : List ℕ) (fault : MixedFault) → AllByRecursion (IsEntry form) xs → encoding form xs ++ drop place bytes ≡ bytes → place < length bytes → IsFaultAt form bytes place fault → IsReading form bytes (Err fault)
  fault_reads xs place bytes (Mark at) ps e inside f = subst (λ n. IsReading form bytes (Err (Mark n))) (sym f.0) (record { items = xs; entries = ps; front = e; inside = inside }, f.1)
  fault_reads xs place bytes (Cut at) ps e inside f = subst (λ n. IsReading form bytes (Err (Cut n))) (sym f.0) (record { items = xs; entries = ps; front = e; inside = inside }, f.1, f.2)
  fault_reads xs place bytes NoMemory ps e inside f = tt

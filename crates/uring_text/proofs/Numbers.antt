-- The number whose decimal text this is.
use Rattle.std.proofs.Common.{◌≡◌, ℕ, zero, suc, ◌<◌, ◌≤◌, ◌^◌, ◌≢◌, Bool, true, false, cond, ltb, ◌&&◌, List, length, get_or, Result, Ok, Err, Some, None, subst, refl, sym, ap, ◌∙◌, arith}
use Rattle.std.specs.Prelude.{Option, bytes_eq, decimal, IsUtf8, IsAscii}
use Rattle.std.specs.Result.{result_ok}
use Rattle.std.specs.Str.Parse.{AllDigits, digits_value, ParsesUnsigned}
use Rattle.std.proofs.lemmas.Bool.{ltb-true, lt-ltb}
use Rattle.std.proofs.lemmas.Slice.Eq.{bytes_eq-Decides}
use Rattle.std.proofs.lemmas.Str.{IsUtf8-from_ascii}
use Rattle.std.proofs.lemmas.Str.Parse.{IsNumeralModel, numerals_by_value, tells_digits, parse_plain, digit_at}
use Rattle.std.proofs.lemmas.Fmt.{digits_decimal, digits_value-decimal, decimal_nonempty, first_decimal, decimal_digit, decimal-digits_value, IsAscii-decimal}
use Rattle.uring_text.specs.Lines.{number_below}

own : IsNumeralModel (AllDigits 10) (digits_value 10)
own = numerals_by_value (AllDigits 10) tells_digits

both_true : (a b : Bool) → (a && b) ≡ true → (a ≡ true) × (b ≡ true)
both_true true true e = (refl, refl)
both_true true false e = absurd cc
both_true false b e = absurd cc

-- what was chosen by a test
chosen : (b : Bool) (v n : ℕ) → ◌≡◌ {A = Option ℕ} (cond b (Some v) None) (Some n) → (b ≡ true) × (v ≡ n)
chosen true v n e = (refl, cc)
chosen false v n e = absurd cc

not_chosen : (b : Bool) (v : ℕ) → (b ≡ true → ⊥) → ◌≡◌ {A = Option ℕ} (cond b (Some v) None) None
not_chosen true v h = absurd (h refl)
not_chosen false v h = refl

abbrev test : ℕ → List ℕ → Bool
test limit text = bytes_eq text (decimal (digits_value 10 text)) && ltb (digits_value 10 text) limit

-- A number below the limit is read from its decimal text, and from no other text.
pub number_found : (limit : ℕ) (text : List ℕ) (n : ℕ) → number_below limit text ≡ Some n → (n < limit) × (text ≡ decimal n)
number_found limit text n e =
    let a = chosen (test limit text) (digits_value 10 text) n e in
    let b = both_true _ _ a.0 in
    let same : text ≡ decimal (digits_value 10 text) = (bytes_eq-Decides text (decimal (digits_value 10 text))).0 b.0 in
    (subst (λ (k : ℕ). k < limit) a.1 (ltb-true _ _ b.1), same ∙ ap decimal a.1)

pub number_again : (limit : ℕ) (text : List ℕ) (n : ℕ) → limit ≤ 2 ^ 64 → n < limit → text ≡ decimal n → number_below limit text ≡ Some n
number_again limit text n fits lt e =
    let value : digits_value 10 text ≡ n = ap (digits_value 10) e ∙ digits_value-decimal own n (omega arith) in
    let same : text ≡ decimal (digits_value 10 text) = e ∙ ap decimal (sym value) in
    let yes : bytes_eq text (decimal (digits_value 10 text)) ≡ true = (bytes_eq-Decides text (decimal (digits_value 10 text))).1 same in
    let below : ltb (digits_value 10 text) limit ≡ true = lt-ltb _ _ (rw value lt) in
    rw (yes, below) (ap (λ (k : ℕ). Some k) value)

pub no_number : (limit : ℕ) (text : List ℕ) → ((n : ℕ) → n < limit → text ≡ decimal n → ⊥) → number_below limit text ≡ None
no_number limit text never =
    not_chosen (test limit text) (digits_value 10 text) (λ yes.
    let b = both_true _ _ yes in
    never (digits_value 10 text) (ltb-true _ _ b.1) ((bytes_eq-Decides text (decimal (digits_value 10 text))).0 b.0))

-- A decimal text isn't empty, begins with a digit, and with 0 only where it is `0`.
zero_alone : (n : ℕ) → n < 2 ^ 64 → get_or (decimal n) 0 0 ≡ 48 → length (decimal n) ≡ 1
zero_alone zero lt e = ap length (decimal_digit 0 (omega arith))
zero_alone (suc n) lt e = absurd (omega (arith, first_decimal (suc n) (omega arith) lt))

pub none_for_empty : (limit : ℕ) (text : List ℕ) → limit ≤ 2 ^ 64 → length text ≡ 0 → number_below limit text ≡ None
none_for_empty limit text fits e =
    no_number limit text (λ n lt same. omega (arith, decimal_nonempty n (omega arith), ap length same))

pub none_for_plus : (limit : ℕ) (text : List ℕ) → limit ≤ 2 ^ 64 → get_or text 0 0 ≡ 43 → number_below limit text ≡ None
none_for_plus limit text fits e =
    no_number limit text (λ n lt same.
    let digit = digit_at (decimal n) 0 (digits_decimal own n (omega arith)) (decimal_nonempty n (omega arith)) in
    omega (arith, digit, ap (λ (t : List ℕ). get_or t 0 0) same))

pub none_for_zero : (limit : ℕ) (text : List ℕ) → limit ≤ 2 ^ 64 → get_or text 0 0 ≡ 48 → 1 < length text → number_below limit text ≡ None
none_for_zero limit text fits e long =
    no_number limit text (λ n lt same.
    omega (arith, zero_alone n (omega arith) (sym (ap (λ (t : List ℕ). get_or t 0 0) same) ∙ e), ap length same))

pub none_for_bytes : (limit : ℕ) (text : List ℕ) → limit ≤ 2 ^ 64 → ¬ (IsUtf8 text) → number_below limit text ≡ None
none_for_bytes limit text fits not_text =
    no_number limit text (λ n lt same.
    let ascii : IsAscii text = subst IsAscii (sym same) (IsAscii-decimal n (omega arith)) in
    not_text (IsUtf8-from_ascii text ascii))

-- what `parse` gives, for a text without a sign and without zeros in front
pub parsed : {E : Type 0} (text : List ℕ) (r : Result ℕ E) → ParsesUnsigned 64 10 text r → get_or text 0 0 ≢ 43 → (get_or text 0 0 ≡ 48 → length text ≡ 1) → result_ok r ≡ number_below (2 ^ 64) text
parsed {E} text (Ok x) h plain alone =
    let given = parse_plain own {E = E} 64 text (Ok x) h plain in
    let same = decimal-digits_value own text given.0.0 given.0.1 alone given.0.2 in
    sym (number_again (2 ^ 64) text x (omega arith) (omega (arith, given)) (sym same ∙ ap decimal (sym given.1)))
parsed {E} text (Err d) h plain alone =
    let given = parse_plain own {E = E} 64 text (Err d) h plain in
    sym (no_number (2 ^ 64) text (λ n lt same.
    given (subst (AllDigits 10) (sym same) (digits_decimal own n lt), omega (arith, ap length same, decimal_nonempty n lt), omega (arith, ap (digits_value 10) same, digits_value-decimal own n lt))))

-- the same, where the text was made a `str` first
pub parsed_as : {E : Type 0} (digits text : List ℕ) (r : Result ℕ E) → digits ≡ text → ParsesUnsigned 64 10 digits r → get_or text 0 0 ≢ 43 → (get_or text 0 0 ≡ 48 → length text ≡ 1) → result_ok r ≡ number_below (2 ^ 64) text
parsed_as {E} digits text r same h plain alone = parsed text r (subst (λ (t : List ℕ). ParsesUnsigned 64 10 t r) same h) plain alone

-- Digits are written from the last one on.
use Rattle.std.proofs.Common.{◌≡◌, ℕ, ◌+◌, ◌/◌, ◌%◌, ◌<◌, ◌≤◌, ◌^◌, List, [], ◌∷◌, ◌++◌, length, drop, ap, sym, ◌∙◌, append_assoc, length-append, Result, Ok, Err, OnOk, is_ok, if◌then◌else◌}
use Rattle.std.specs.Fmt.{decimal}
use Rattle.std.proofs.lemmas.Fmt.{decimal_step, decimal_digit}
use Rattle.std.proofs.lemmas.List.{drop-set}
use Rattle.std.proofs.Math.ListN.{set}

-- one more digit, and those that are left before it
pub digit_more : (number left at d : ℕ) (digits : List ℕ) → 10 ≤ left → left < 2 ^ 64 → at < length digits → d ≡ 48 + left % 10 → decimal left ++ drop (at + 1) digits ≡ decimal number → decimal (left / 10) ++ drop at (set digits at d) ≡ decimal number
digit_more number left at d digits more small inside is e =
    ap (λ l. decimal (left / 10) ++ l) (drop-set digits at d inside)
    ∙ sym (append_assoc (decimal (left / 10)) (d ∷ []) (drop (at + 1) digits))
    ∙ ap (λ l. l ++ drop (at + 1) digits) (ap (λ x. decimal (left / 10) ++ x ∷ []) is ∙ sym (decimal_step left more small))
    ∙ e

pub digits_last : (number left at d : ℕ) (digits : List ℕ) → left < 10 → at < length digits → d ≡ 48 + left → decimal left ++ drop (at + 1) digits ≡ decimal number → drop at (set digits at d) ≡ decimal number
digits_last number left at d digits less inside is e =
    drop-set digits at d inside ∙ ap (λ l. l ++ drop (at + 1) digits) (ap (λ x. x ∷ []) is ∙ sym (decimal_digit left less)) ∙ e

pub one_fewer : (left : ℕ) → 10 ≤ left → left < 2 ^ 64 → length (decimal left) ≡ length (decimal (left / 10)) + 1
one_fewer left more small = ap length (decimal_step left more small) ∙ length-append (decimal (left / 10)) ((48 + left % 10) ∷ [])

-- what is appended where there is memory
pub where_ok : {T E : Type 0} (r : Result T E) (new old other text : List ℕ) → other ≡ text → new ≡ (if is_ok r then old ++ other else old) → OnOk r (new ≡ old ++ text)
where_ok (Ok x) new old other text same e = e ∙ ap (λ l. old ++ l) same
where_ok (Err x) new old other text same e = tt

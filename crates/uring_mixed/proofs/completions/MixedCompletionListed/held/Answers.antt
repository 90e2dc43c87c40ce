-- The whole of the bytes is read, and what it gives has these bytes.
use Rattle.std.proofs.Common.{◌≡◌, ◌∷◌, length, take, ap, ap₂, sym, ◌∙◌, rules}
use Rattle.uring_mixed.specs.declared.listing.TheConstants.{SMALL_MARK, LARGE_MARK}
use Rattle.uring_mixed.specs.Forms.{completion_form}
use Rattle.uring_mixed.proofs.Held.{small_completion, large_completion, large_left, small_size, large_size, whole}
use Rattle.uring_mixed.proofs.completions.MixedCompletionListed.held.Goals as goal

pub returns-then-mark-eq-SMALL_MARK-clause-entry : goal.returns-then-mark-eq-SMALL_MARK-clause-entry
returns-then-mark-eq-SMALL_MARK-clause-entry c =
    let mark : c.args.mark ≡ SMALL_MARK = c.if-mark-eq-SMALL_MARK.true in
    let size : length c.args.bytes.now ≡ 16 = small_size completion_form c.args.mark _ c.requires.size mark in
    let first : c.unwrap-own.result.now ≡ take 16 c.args.bytes.now = search rules in
    let own = whole 16 _ c.args.bytes.now first size in
    small_completion c.from_bytes.result c.unwrap-own.result.now
    (sym c.from_bytes.ensures.inverse) (sym c.from_bytes.ensures.value) (ap length own ∙ size)

pub returns-then-mark-eq-SMALL_MARK-clause-code : goal.returns-then-mark-eq-SMALL_MARK-clause-code
returns-then-mark-eq-SMALL_MARK-clause-code c =
    let mark : c.args.mark ≡ SMALL_MARK = c.if-mark-eq-SMALL_MARK.true in
    let size : length c.args.bytes.now ≡ 16 = small_size completion_form c.args.mark _ c.requires.size mark in
    let first : c.unwrap-own.result.now ≡ take 16 c.args.bytes.now = search rules in
    let own = whole 16 _ c.args.bytes.now first size in
    ap₂ (λ m l. m ∷ l) (sym mark) (c.from_bytes.ensures.inverse ∙ own)

pub returns-else-mark-eq-SMALL_MARK-clause-entry : goal.returns-else-mark-eq-SMALL_MARK-clause-entry
returns-else-mark-eq-SMALL_MARK-clause-entry c =
    let mark : c.args.mark ≡ LARGE_MARK = large_left c.args.mark c.requires.marked c.if-mark-eq-SMALL_MARK.false in
    let size : length c.args.bytes.now ≡ 32 = large_size completion_form c.args.mark _ c.requires.size mark in
    let first : c.unwrap-own-else-mark-eq-SMALL_MARK.result.now ≡ take 32 c.args.bytes.now = search rules in
    let own = whole 32 _ c.args.bytes.now first size in
    large_completion c.from_bytes-else-mark-eq-SMALL_MARK.result c.unwrap-own-else-mark-eq-SMALL_MARK.result.now
    (sym c.from_bytes-else-mark-eq-SMALL_MARK.ensures.inverse) (sym c.from_bytes-else-mark-eq-SMALL_MARK.ensures.value) (ap length own ∙ size)

pub returns-else-mark-eq-SMALL_MARK-clause-code : goal.returns-else-mark-eq-SMALL_MARK-clause-code
returns-else-mark-eq-SMALL_MARK-clause-code c =
    let mark : c.args.mark ≡ LARGE_MARK = large_left c.args.mark c.requires.marked c.if-mark-eq-SMALL_MARK.false in
    let size : length c.args.bytes.now ≡ 32 = large_size completion_form c.args.mark _ c.requires.size mark in
    let first : c.unwrap-own-else-mark-eq-SMALL_MARK.result.now ≡ take 32 c.args.bytes.now = search rules in
    let own = whole 32 _ c.args.bytes.now first size in
    ap₂ (λ m l. m ∷ l) (sym mark) (c.from_bytes-else-mark-eq-SMALL_MARK.ensures.inverse ∙ own)

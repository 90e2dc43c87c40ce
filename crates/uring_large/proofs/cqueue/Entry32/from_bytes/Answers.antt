-- The first 16 bytes come back from the small entry, and the others from the two numbers.
use Rattle.std.proofs.Common.{rules, ap₂, ◌∙◌, ◌≡◌, ◌++◌, take, take-append-drop, w64}
use Rattle.std.specs.Int.{to_le_bytes}
use Rattle.uring_base.proofs.Codec.{join}
use Rattle.uring_large.proofs.Codec.{two_numbers}
use Rattle.uring_large.proofs.cqueue.Entry32.from_bytes.Goals as goal

pub returns-clause-inverse : goal.returns-clause-inverse
returns-clause-inverse c =
    let e : c.unwrap-head.result.now ≡ take 16 c.args.bytes.now = search rules in
    join (c.from_bytes.ensures.inverse ∙ e)
    (ap₂ (λ x y. to_le_bytes w64 x ++ to_le_bytes w64 y) c.long_from.ensures c.long_from-2.ensures
    ∙ two_numbers c.args.bytes.now c.told-bytes record { below = c.fits-bytes })
    ∙ take-append-drop 16 c.args.bytes.now

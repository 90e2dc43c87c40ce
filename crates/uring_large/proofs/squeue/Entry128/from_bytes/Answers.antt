-- The first 64 bytes come back from the small entry, and the others are as they were.
use Rattle.std.proofs.Common.{rules, ap₂, ◌∙◌, ◌≡◌, ◌++◌, take, drop, take-append-drop}
use Rattle.uring_large.proofs.squeue.Entry128.from_bytes.Goals as goal

pub returns-clause-inverse : goal.returns-clause-inverse
returns-clause-inverse c =
    let e : c.unwrap-head.result.now ≡ take 64 c.args.bytes.now = search rules in
    let f : c.unwrap-rest.result.now ≡ drop 64 c.args.bytes.now = search rules in
    ap₂ (λ x y. x ++ y) (c.from_bytes.ensures.inverse ∙ e) f ∙ take-append-drop 64 c.args.bytes.now

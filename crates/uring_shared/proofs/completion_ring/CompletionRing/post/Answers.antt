use Rattle.std.proofs.Common.{ap, arith}
use Rattle.uring_shared.proofs.Grows.{spare_grows}
use Rattle.uring_shared.proofs.completion_ring.CompletionRing.post.Goals as goal

pub returns-then-spare-eq0-clause-known : goal.returns-then-spare-eq0-clause-known
returns-then-spare-eq0-clause-known c = λ h. absurd (let k = spare_grows c.args.self.now.ring _ c.see_head.ensures in omega (arith, k, c.spare.ensures, c.if-spare-eq0.true, h))

pub returns-clause-count : goal.returns-clause-count
returns-clause-count c =
    let k = spare_grows c.args.self.now.ring _ c.see_head.ensures in
    omega (arith, k, ap (λ h. h.spare) c.publish_tail.ensures, ap (λ h. h.spare) c.put.ensures)

use Rattle.std.proofs.Common.{ap, arith}
use Rattle.uring_shared.proofs.Grows.{waiting_grows}
use Rattle.uring_shared.proofs.submission_ring.SubmissionRing.take.Goals as goal

pub returns-in_err-taken-clause-known : goal.returns-in_err-taken-clause-known
returns-in_err-taken-clause-known c = λ h. absurd (let g = waiting_grows c.args.self.now.ring _ c.see_tail.ensures in omega (arith, g, c.in_err-taken.ensures.none, h))

pub returns-in_err-taken-clause-count : goal.returns-in_err-taken-clause-count
returns-in_err-taken-clause-count c = let g = waiting_grows c.args.self.now.ring _ c.see_tail.ensures in omega (arith, g, c.in_err-taken.ensures.none)

pub returns-clause-count : goal.returns-clause-count
returns-clause-count c =
    let g = waiting_grows c.args.self.now.ring _ c.see_tail.ensures in
    omega (arith, g, ap (λ h. h.waiting) c.publish_head.ensures, ap (λ h. h.waiting) c.in_ok-taken.ensures.taken.rest)

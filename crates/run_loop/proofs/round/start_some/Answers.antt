use Rattle.std.proofs.Common.{◌≡◌, ◌∷◌, [], ◌++◌, length, ◌+◌, arith, length-append, append_assoc, ap, sym, subst, ◌∙◌}
use Rattle.std.proofs.lemmas.Result.{err_from_is_err_and}
use Rattle.ring_traits.specs.Lists.{as_offered}
use Rattle.run_loop.specs.Entries.{all_taken, job_entry, job_loan}
use Rattle.run_loop.proofs.RingLemmas.{offers_joined}
use Rattle.run_loop.specs.UserRounds.{UserSent}
use Rattle.run_loop.proofs.StartLemmas.{ahead_next}
use Rattle.run_loop.proofs.UserLemmas.{sent_before, sent_then}
use Rattle.run_loop.proofs.round.start_some.Goals as goal

pub starts-preserved : goal.starts-preserved
starts-preserved g c =
    let s = c.starts.invariant in
    let d = c.in_ok-start.ensures in
    let t = as_offered g.R.UserEnds.offers_large (job_entry c.in-Some.next.number c.in-Some.next.job) (job_loan c.in-Some.next.number c.in-Some.next.job.kind) in
    let count : length c.starts.todo ≡ length c.pop_front.new.self + 1 = ap length c.in-Some.ensures.front ∙ omega arith in (
      s.0 ++ t ∷ [],
      s.1 ∙ ap (λ l. s.0 ++ all_taken l g.R.UserEnds.offers_large) c.in-Some.ensures.front ∙ sym (append_assoc s.0 (t ∷ []) (all_taken c.pop_front.new.self g.R.UserEnds.offers_large)),
      omega (arith, s.2, count, d.started),
      g.met.R.UserEnds.used_then _ _ _ s.0 (t ∷ []) [] [] s.3 d.uses,
      offers_joined _ _ _ _ _ s.4 d.told,
      simp length-append (omega (arith, s.5, d.room)),
      simp length-append (omega (arith, s.6, d.started)),
      d.slots ∙ s.7,
      d.waiting ∙ s.8,
      record {
        operated = d.operated;
        replied = d.replied;
        none = d.none;
        ahead = ahead_next _ _ _ _ _ _ _ s.9.ahead c.in-Some.ensures.front d.started d.slots;
      },
    )

-- where memory lacks, the first of the entries are offered
pub returns-in_err-start-clause-lacking : goal.returns-in_err-start-clause-lacking
returns-in_err-start-clause-lacking g c =
    let s = c.starts.invariant in
    let large = g.R.UserEnds.offers_large in
    let t = as_offered large (job_entry c.in-Some.next.number c.in-Some.next.job) (job_loan c.in-Some.next.number c.in-Some.next.job.kind) in
    let p = err_from_is_err_and c.from_residual.result c.from_residual.ensures.1 in
    let more = sent_before g.R.UserEnds.used g.met.R.UserEnds.used_then c.starts.engine.ring c.start.new.engine.ring (t ∷ []) (all_taken c.pop_front.new.self large) c.in_err-start.ensures.lacking in
    let front = subst (UserSent g.R.UserEnds.used c.starts.engine.ring c.start.new.engine.ring) (sym (ap (λ l. all_taken l large) c.in-Some.ensures.front)) more in
    rw p.1 (sent_then g.R.UserEnds.used g.met.R.UserEnds.used_then _ c.starts.engine.ring c.start.new.engine.ring s.0 _ (all_taken c.starts.todo large) [] s.3 s.1 front)

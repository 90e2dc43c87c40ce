use Rattle.run_loop.proofs.Says.{gain_at}
use Rattle.run_loop.proofs.shared.log_start.Goals as goal

pub returns : goal.returns
returns g c = gain_at (g.P.Partner.log c.args.partner.now) _ _ c.log_len.ensures (g.met.P.Partner.counts_log c.args.partner.now)

use Rattle.std.proofs.Common.{None}
use Rattle.partner_serving.specs.Rows.{RoundsServe}
use Rattle.partner_serving.proofs.seats.serve_side.Given as goal

-- the rounds so far are one stretch, and none was refused
abbrev pub invariant-loop : goal.invariant-loop
invariant-loop g l = RoundsServe g.P.Partner.machine g.P.Partner.Plain g.P.Partner.log g.P.Partner.state g.P.Partner.plan g.P.Counts.faults g.P.Partner.errno g.Q.PartnerSide.moved l.fn.side l.fn.partner l.side l.partner None

use Rattle.std.proofs.Common.{◌≡◌, false, Ok, Err, [], length, IfSome, ap, sym, subst, ◌∙◌}
use Rattle.std.proofs.lemmas.Result.{err_from_is_err_and}
use Rattle.uring_model.specs.declared.jobs.RunFault.TheVariants as faults
use Rattle.uring_model.specs.declared.jobs.Report.{Report}
use Rattle.uring_model.specs.Moves.{log_of, posted}
use Rattle.run_loop.specs.Driven.{Driven, IsGivenUp}
use Rattle.run_loop.specs.Rounds.{PlacesGoOn, is_partner_fault}
use Rattle.run_loop.specs.Runs.{RunSays, PlacesRanOn}
use Rattle.run_loop.specs.Slots.{slots_from, open_slots}
use Rattle.run_loop.proofs.Posts.{slots_first}
use Rattle.run_loop.proofs.StartLemmas.{settled_first}
use Rattle.run_loop.proofs.Says.{not_driven, not_stalled, says_fault, says_either, gain_at, unplanned_lacking, places_ran}
use Rattle.run_loop.proofs.run.run_on.Goals as goal

pub returns-in_default-clause-says : goal.returns-in_default-clause-says
returns-in_default-clause-says g c =
    says_fault _ _ _ c.model_laws.ensures _ _ _ _ c.args.jobs.items _ _ faults.NoMemory c.requires.valid c.requires.in_range (not_driven g.P.Partner.machine g.P.Partner.view g.P.Partner.Plain c.model_laws.ensures g.P.Partner.log g.P.Partner.state c.args.partner.now c.args.jobs.items (g.R.UserEnds.entries_fit c.args.ring) c.args.idle) tt (not_stalled _ _)

pub drive-requires-clause-slots : goal.drive-requires-clause-slots
drive-requires-clause-slots g c =
    (c.in-Ok.ensures.slots ∙ ap open_slots c.deref.ensures.value ∙ sym (slots_first 0 c.args.jobs.items) ∙ ap (λ o. slots_from 0 o []) (sym c.new-todo.ensures), c.in-Ok.ensures.started)

pub drive-requires-clause-jobs : goal.drive-requires-clause-jobs
drive-requires-clause-jobs g c = (c.args.jobs.items, c.new-todo.ensures, c.requires.valid, c.requires.in_range)

pub drive-requires-clause-settled : goal.drive-requires-clause-settled
drive-requires-clause-settled g c =
    settled_first _ _ _ _ _ c.args.jobs.items c.requires.valid c.new-engine.ensures.ops c.in-Ok.ensures.started (drive-requires-clause-slots g c).0 c.in-Ok.ensures.none c.new-todo.ensures

pub returns-in_err-drive-clause-says : goal.returns-in_err-drive-clause-says
returns-in_err-drive-clause-says g c =
    let d = c.in_err-drive.ensures in
    let p = err_from_is_err_and c.from_residual.result c.from_residual.ensures.1 in
    let run = subst (λ o. (r : Driven g.P.Partner.machine g.P.Partner.log g.P.Partner.state c.args.partner.now c.drive.new.partner o (g.R.UserEnds.entries_fit c.args.ring) c.args.idle) × IsGivenUp o c.args.idle (log_of r.ran.moves) c.in_err-drive.field-0.0) c.new-todo.ensures
    (subst (λ x. (r : Driven g.P.Partner.machine g.P.Partner.log g.P.Partner.state c.args.partner.now c.drive.new.partner c.new-todo.result (g.R.UserEnds.entries_fit x) c.args.idle) × IsGivenUp c.new-todo.result c.args.idle (log_of r.ran.moves) c.in_err-drive.field-0.0) c.new-engine.ensures.ring d.run) in
    rw p.1 (subst (λ e. RunSays g.P.Partner.machine g.P.Partner.view g.P.Partner.Plain g.P.Partner.log g.P.Partner.state c.args.partner.now c.drive.new.partner c.args.jobs.items (g.R.UserEnds.entries_fit c.args.ring) c.args.idle (Err e)) (sym p.2)
    (says_fault _ _ _ c.model_laws.ensures _ _ _ _ c.args.jobs.items _ _ c.in_err-drive.field-0.0 c.requires.valid c.requires.in_range run.0 run.1 d.unstalled))

-- the loop's fault is handed on as it is
pub returns-in_err-drive-clause-unplanned : goal.returns-in_err-drive-clause-unplanned
returns-in_err-drive-clause-unplanned g c =
    let p = err_from_is_err_and c.from_residual.result c.from_residual.ensures.1 in
    rw p.1 (subst (λ e. IfSome (g.P.Partner.state c.args.partner.now) (λ _. g.P.Partner.plan c.args.partner.now ≡ [] → is_partner_fault e ≡ false)) (sym p.2) c.in_err-drive.ensures.unplanned)

pub returns-in_err-report-clause-unplanned : goal.returns-in_err-report-clause-unplanned
returns-in_err-report-clause-unplanned g c =
    let p = err_from_is_err_and c.from_residual-in_err-report.result c.from_residual-in_err-report.ensures.1 in
    rw p.1 (subst (λ e. IfSome (g.P.Partner.state c.args.partner.now) (λ _. g.P.Partner.plan c.args.partner.now ≡ [] → is_partner_fault e ≡ false)) (sym p.2) (unplanned_lacking {T = Report} (g.P.Partner.state c.args.partner.now) _ (Err c.in_err-report.field-0.0) c.in_err-report.ensures.err))

pub returns-in_err-report-clause-says : goal.returns-in_err-report-clause-says
returns-in_err-report-clause-says g c =
    let d = c.in_ok-drive.ensures in
    let p = err_from_is_err_and c.from_residual-in_err-report.result c.from_residual-in_err-report.ensures.1 in
    rw p.1 (subst (λ e. RunSays g.P.Partner.machine g.P.Partner.view g.P.Partner.Plain g.P.Partner.log g.P.Partner.state c.args.partner.now c.drive.new.partner c.args.jobs.items (g.R.UserEnds.entries_fit c.args.ring) c.args.idle (Err e)) (sym p.2)
    (subst (λ x. RunSays g.P.Partner.machine g.P.Partner.view g.P.Partner.Plain g.P.Partner.log g.P.Partner.state c.args.partner.now c.drive.new.partner c.args.jobs.items (g.R.UserEnds.entries_fit x) c.args.idle (Err c.in_err-report.field-0.0)) c.new-engine.ensures.ring
    (says_either _ _ _ c.model_laws.ensures _ _ _ _ c.args.jobs.items _ _ c.log_len-start.result c.drive.new.table.slots.items _ (Err c.in_err-report.field-0.0) c.requires.valid c.requires.in_range c.new-todo.ensures (d.run.0, (d.run.1.0, d.run.1.1, d.run.1.2, d.run.1.3)) tt tt c.in_err-report.ensures.err (gain_at _ _ _ c.log_len-start.ensures (g.met.P.Partner.counts_log c.args.partner.now)))))

pub returns-clause-says : goal.returns-clause-says
returns-clause-says g c =
    let d = c.in_ok-drive.ensures in
    let r = c.in_ok-report.ensures in
    subst (λ x. RunSays g.P.Partner.machine g.P.Partner.view g.P.Partner.Plain g.P.Partner.log g.P.Partner.state c.args.partner.now c.drive.new.partner c.args.jobs.items (g.R.UserEnds.entries_fit x) c.args.idle (Ok c.in_ok-report.report)) c.new-engine.ensures.ring
    (says_either _ _ _ c.model_laws.ensures _ _ _ _ c.args.jobs.items _ _ c.log_len-start.result c.drive.new.table.slots.items _ (Ok c.in_ok-report.report) c.requires.valid c.requires.in_range c.new-todo.ensures (d.run.0, (d.run.1.0, d.run.1.1, d.run.1.2, d.run.1.3)) r.outcomes r.journal tt (gain_at _ _ _ c.log_len-start.ensures (g.met.P.Partner.counts_log c.args.partner.now)))

pub returns-clause-places : goal.returns-clause-places
returns-clause-places g c =
    let d = c.in_ok-drive.ensures in
    subst (λ ring. PlacesRanOn g.R.Rings.offer_place g.R.Rings.reap_place g.P.Partner.log c.args.partner.now c.args.ring ring (length c.args.jobs.items) c.in_ok-report.report.journal.items) (sym c.into_ring.ensures)
    (places_ran g.R.Rings.offer_place g.R.Rings.reap_place g.P.Partner.log c.args.partner.now c.drive.new.partner c.args.ring _ c.args.jobs.items _ d.run.0.ran.moves c.log_len-start.result c.in_ok-report.report.journal.items c.new-todo.ensures
    (subst (λ x. PlacesGoOn g.R.Rings.offer_place g.R.Rings.reap_place x c.drive.new.engine.ring (length c.new-todo.result) (length (posted d.run.0.ran.moves))) c.new-engine.ensures.ring d.run.1.4) d.run.0.ran.logs (gain_at _ _ _ c.log_len-start.ensures (g.met.P.Partner.counts_log c.args.partner.now)) c.in_ok-report.ensures.journal)

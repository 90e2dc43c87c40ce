use Rattle.std.proofs.Common.{◌≡◌, false, [], List, map, IfOk, refl, ap, sym, subst, ◌∙◌}
use Rattle.uring_base.specs.Completions.{without_big}
use Rattle.uring_base.specs.declared.events.Taken.{Taken}
use Rattle.uring_base.specs.declared.events.Completion.{Completion}
use Rattle.uring_shared.specs.declared.engine_ends.EngineEnds.{EngineEnds}
use Rattle.uring_shared.specs.declared.seats.EngineSeats.{EngineSeats}
use Rattle.uring_shared.specs.Seats.{EngineUses, IsEngineOf, IsNewEngine}
use Rattle.uring_shared.specs.SeatLaws.{EngineUses-own}
use Rattle.uring_shared.specs.Sides.{engine_of}
use Rattle.run_loop.specs.declared.job_table.JobTable.{JobTable}
use Rattle.run_loop.specs.declared.slot.Slot.TheVariants.{Done}
use Rattle.run_loop.specs.Entries.{all_taken, offers_from}
use Rattle.run_loop.proofs.BothLemmas.{calm_told, ends_caused, unplanned_told}
use Rattle.run_loop.proofs.Meeting.{met}
use Rattle.run_loop.proofs.SharedEnds.{goes_used, none_told, shared_told, told_fault}
use Rattle.run_loop.proofs.shared.run_valid.Goals as goal

-- what the user's ends say of their seats
abbrev ends_used : EngineEnds → List Taken → List Completion → EngineEnds → Type 0
ends_used a ts cs b = EngineUses (engine_of a) ts cs (engine_of b)

-- want of memory before the first round

pub returns-in_default-clause-run : goal.returns-in_default-clause-run
returns-in_default-clause-run g c =
    none_told g.P.Partner.machine g.P.Partner.view g.P.Partner.Plain c.model_laws.ensures c.two_sides_are_one_run.ensures c.servings_join.ensures.none g.P.Partner.log g.P.Partner.state c.args.partner c.args.jobs.items c.requires.valid c.requires.in_range

pub returns-in_default-new-clause-run : goal.returns-in_default-new-clause-run
returns-in_default-new-clause-run g c =
    none_told g.P.Partner.machine g.P.Partner.view g.P.Partner.Plain c.model_laws.ensures c.two_sides_are_one_run.ensures c.servings_join.ensures.none g.P.Partner.log g.P.Partner.state c.args.partner c.args.jobs.items c.requires.valid c.requires.in_range

-- the seats that come back are still those of the pair
pub meet-left-requires-clause-engine : goal.meet-left-requires-clause-engine
meet-left-requires-clause-engine g c =
    let user = c.both_sides-ended.result.user in
    let offers = offers_from 0 c.args.jobs.items in
    let goes = c.both_sides-ended.ensures.user c.on.result offers c.in-Ok-new.ensures.rounds in
    let used = goes_used ends_used c.on.result user.engine.ring offers (all_taken user.todo false) user.table.started user.table.slots.items c.both_sides-ended.result.went goes in
    let same : c.into_seats.result ≡ engine_of user.engine.ring = c.into_seats.ensures ∙ ap engine_of c.into_parts-ends.ensures.0 in
    subst (IsEngineOf c.in-Ok.pair) (sym same) (EngineUses-own c.in-Ok.pair (engine_of c.on.result) (engine_of user.engine.ring) used.0 used.1 (subst (IsEngineOf c.in-Ok.pair) (sym c.on.ensures) c.in-Ok.ensures.own.0) used.2)

-- both sides met, so what each tells is one run
pub returns-clause-run : goal.returns-clause-run
returns-clause-run g c =
    let jobs = c.args.jobs.items in
    let user = c.both_sides-ended.result.user in
    let row = c.both_sides-ended.ensures.partner in
    let goes = c.both_sides-ended.ensures.user c.on.result (offers_from 0 jobs) c.in-Ok-new.ensures.rounds in
    let same : c.into_seats.result ≡ engine_of user.engine.ring = c.into_seats.ensures ∙ ap engine_of c.into_parts-ends.ensures.0 in
    let new_engine = subst (λ (e : EngineSeats). IsNewEngine e c.sq_entries-entries.result c.cq_entries-completions.result c.args.start) (sym c.on.ensures) c.in-Ok.ensures.engine in
    let entries = c.meet-left.ensures.entries in
    let completions = c.meet-left.ensures.completions in
    let outcomes = subst (λ (t : JobTable). IfOk c.told-result.result (λ report. map (λ o. Done o) report.outcomes.items ≡ t.slots.items)) c.into_parts-ends.ensures.1 c.told-result.ensures.outcomes in
    shared_told g.P.Partner.machine g.P.Partner.view g.P.Partner.Plain c.model_laws.ensures c.two_sides_are_one_run.ensures g.P.Partner.log g.P.Partner.state c.args.partner c.both_sides-ended.result.partner jobs c.requires.valid c.requires.in_range
    without_big (λ x. refl) row.0 row.1.ts row.1.cs row.1.served ends_used c.on.result user.engine.ring
    (λ large offered todo reaped uses split. met (all_taken (offers_from 0 jobs) large) (engine_of c.on.result) c.into_seats.result c.in-Ok.seats c.both_sides-ended.result.seats _ _ _ offered row.1.ts todo row.1.cs reaped
    new_engine c.in-Ok.ensures.partner (subst (EngineUses (engine_of c.on.result) offered reaped) (sym same) uses) row.1.moves split (entries.0, entries.1) (completions.0, completions.1))
    c.log_start-before.result c.log_start-before.ensures
    c.both_sides-ended.result.went (all_taken user.todo false) user.table.started user.table.slots.items row.2 goes c.both_sides-ended.ensures.whole
    c.told-result.result c.told-result.ensures.fault outcomes c.told-result.ensures.journal

-- its fault is the partner's refusal, or none of the partner's

pub returns-clause-cause : goal.returns-clause-cause
returns-clause-cause g c =
    let row = c.both_sides-ended.ensures.partner in
    ends_caused _ _ row.0 c.told-result.result row.1.counted.cause (told_fault row.0 c.both_sides-ended.result.went c.told-result.result c.told-result.ensures.fault row.2.fault)

pub returns-clause-unplanned : goal.returns-clause-unplanned
returns-clause-unplanned g c =
    let row = c.both_sides-ended.ensures.partner in
    unplanned_told (g.P.Partner.state c.args.partner) (g.P.Partner.plan c.args.partner ≡ []) (g.P.Counts.faults c.both_sides-ended.result.partner ≡ g.P.Counts.faults c.args.partner) row.0 c.told-result.result row.1.counted.calm
    (told_fault row.0 c.both_sides-ended.result.went c.told-result.result c.told-result.ensures.fault row.2.fault)

pub returns-clause-calm : goal.returns-clause-calm
returns-clause-calm g c =
    let row = c.both_sides-ended.ensures.partner in
    calm_told (g.P.Partner.state c.args.partner) (g.P.Partner.plan c.args.partner ≡ []) (g.P.Counts.faults c.both_sides-ended.result.partner ≡ g.P.Counts.faults c.args.partner) row.0 row.1.counted.calm

use Rattle.std.proofs.Common.{sym, subst, ◌∙◌}
use Rattle.std.specs.Io.KnownBytes.{Appends}
use Rattle.uring_streams.specs.Bytes.{AppendsFront}
use Rattle.uring_text.specs.Script.{told_by}
use Rattle.uring_cli.specs.Words.{shared_options_of}
use Rattle.uring_cli.proofs.Ending.{at_options}
use Rattle.uring_cli.proofs.SharedEnding.{done_of, ends_of, some_then}
use Rattle.uring_cli.proofs.shared_call.shared_main.Goals as goal

pub returns-in-Err-text-clause-complete : goal.returns-in-Err-text-clause-complete
returns-in-Err-text-clause-complete g c =
    let run = c.execute_shared-text.ensures in
    at_options (shared_options_of c.args.words.now) c.in-Some.options _ (sym c.in-Some.ensures)
    (ends_of g.P.Partner.machine g.P.Partner.view g.P.Partner.Plain g.P.Partner.put g.P.Partner.log g.P.Partner.state g.P.Partner.plan (told_by c.in-Ok.script) c.in-Some.options c.args.partner g.P.Partner.puts _ _ _ _ c.execute_shared-text.result c.in-Err-text.status _ _ _ _ c.in-Ok.ensures run.back run.err run.unplanned c.in-Err-text.is)

pub returns-in-Ok-write_all-clause-runs : goal.returns-in-Ok-write_all-clause-runs
returns-in-Ok-write_all-clause-runs g c =
    at_options (shared_options_of c.args.words.now) c.in-Some.options _ (sym c.in-Some.ensures)
    (some_then c.execute_shared-text.result.1 _ _
    (λ after done. record {
      told = told_by c.in-Ok.script;
      gave = c.in-Ok.ensures;
      report = done.0;
      executed = done.2;
      wrote = subst (λ t. Appends (g.O.Sink.written c.args.out.now) (g.O.Sink.written c.write_all.new.sink) t) (c.as_slice.ensures ∙ done.1) c.in-Ok-write_all.ensures.all;
    })
    (done_of g.P.Partner.machine g.P.Partner.view g.P.Partner.Plain g.P.Partner.put g.P.Partner.log g.P.Partner.state g.P.Partner.plan (told_by c.in-Ok.script) c.in-Some.options c.args.partner c.execute_shared-text.result c.in-Ok-text.text c.execute_shared-text.ensures.ok c.in-Ok-text.is))

pub returns-clause-runs : goal.returns-clause-runs
returns-clause-runs g c =
    at_options (shared_options_of c.args.words.now) c.in-Some.options _ (sym c.in-Some.ensures)
    (some_then c.execute_shared-text.result.1 _ _
    (λ after done. record {
      told = told_by c.in-Ok.script;
      gave = c.in-Ok.ensures;
      report = done.0;
      executed = done.2;
      wrote = subst (λ t. AppendsFront (g.O.Sink.written c.args.out.now) (g.O.Sink.written c.write_all.new.sink) t) (c.as_slice.ensures ∙ done.1) c.in-Err-write_all.ensures.front;
    })
    (done_of g.P.Partner.machine g.P.Partner.view g.P.Partner.Plain g.P.Partner.put g.P.Partner.log g.P.Partner.state g.P.Partner.plan (told_by c.in-Ok.script) c.in-Some.options c.args.partner c.execute_shared-text.result c.in-Ok-text.text c.execute_shared-text.ensures.ok c.in-Ok-text.is))

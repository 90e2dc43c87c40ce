use Rattle.std.proofs.Common.{sym, subst, ◌∙◌}
use Rattle.std.specs.Io.KnownBytes.{Appends}
use Rattle.uring_streams.specs.Bytes.{AppendsFront}
use Rattle.uring_text.specs.Script.{told_by}
use Rattle.uring_cli.specs.Words.{options_of}
use Rattle.uring_cli.proofs.Ending.{at_options, no_partner_fault, ends_well}
use Rattle.uring_cli.proofs.main_call.ring_main.Goals as goal

pub returns-in-Err-execute-clause-unplanned : goal.returns-in-Err-execute-clause-unplanned
returns-in-Err-execute-clause-unplanned g c = no_partner_fault _ _ c.in-Err-execute.status c.in-Err-execute.ensures.unplanned

pub returns-in-Err-execute-clause-complete : goal.returns-in-Err-execute-clause-complete
returns-in-Err-execute-clause-complete g c = at_options (options_of c.args.words.now) c.in-Some.options _ (sym c.in-Some.ensures.options)
    (ends_well g.P.Partner.machine g.P.Partner.view g.P.Partner.Plain g.P.Partner.put g.P.Partner.puts g.P.Partner.log g.P.Partner.state g.P.Partner.plan _ _ _ _ (told_by c.in-Ok.script) c.in-Some.options c.args.partner.now _ c.in-Err-execute.status _ _ _ _ c.in-Ok.ensures c.in-Err-execute.ensures.err c.in-Err-execute.ensures.unplanned)

pub returns-in-Ok-write_all-clause-runs : goal.returns-in-Ok-write_all-clause-runs
returns-in-Ok-write_all-clause-runs g c =
    let done = c.in-Ok-execute.ensures.ok in at_options (options_of c.args.words.now) c.in-Some.options _ (sym c.in-Some.ensures.options) (record {
      told = told_by c.in-Ok.script;
      gave = c.in-Ok.ensures;
      report = done.0;
      executed = done.2;
      wrote = subst (λ t. Appends (g.O.Sink.written c.args.out.now) (g.O.Sink.written c.write_all.new.sink) t) (c.as_slice.ensures ∙ done.1) c.in-Ok-write_all.ensures.all;
    })

pub returns-clause-runs : goal.returns-clause-runs
returns-clause-runs g c =
    let done = c.in-Ok-execute.ensures.ok in at_options (options_of c.args.words.now) c.in-Some.options _ (sym c.in-Some.ensures.options) (record {
      told = told_by c.in-Ok.script;
      gave = c.in-Ok.ensures;
      report = done.0;
      executed = done.2;
      wrote = subst (λ t. AppendsFront (g.O.Sink.written c.args.out.now) (g.O.Sink.written c.write_all.new.sink) t) (c.as_slice.ensures ∙ done.1) c.in-Err-write_all.ensures.front;
    })

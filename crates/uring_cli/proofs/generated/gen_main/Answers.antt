use Rattle.std.proofs.Common.{sym}
use Rattle.std.specs.Io.KnownBytes.{Appends}
use Rattle.uring_streams.specs.Bytes.{AppendsFront}
use Rattle.uring_cli.specs.Generated.{count_of}
use Rattle.uring_cli.proofs.Generating.{at_count, written}
use Rattle.uring_cli.proofs.generated.gen_main.Goals as goal

pub returns-in-Ok-write_all-clause-runs : goal.returns-in-Ok-write_all-clause-runs
returns-in-Ok-write_all-clause-runs g c =
    at_count (count_of c.args.words.now) c.in-Some.count _ (sym c.in-Some.ensures)
    (written (Appends (g.O.Sink.written c.args.out.now) (g.O.Sink.written c.write_all.new.sink)) c.in-Some.count _ c.in-Ok.text _ c.in-Ok.ensures.ok c.as_slice.ensures c.in-Ok-write_all.ensures.all)

pub returns-clause-runs : goal.returns-clause-runs
returns-clause-runs g c =
    at_count (count_of c.args.words.now) c.in-Some.count _ (sym c.in-Some.ensures)
    (written (AppendsFront (g.O.Sink.written c.args.out.now) (g.O.Sink.written c.write_all.new.sink)) c.in-Some.count _ c.in-Ok.text _ c.in-Ok.ensures.ok c.as_slice.ensures c.in-Err-write_all.ensures.front)

use Rattle.std.proofs.Common.{arith}
use Rattle.std.proofs.lemmas.Grind.{common_steps}
use Rattle.uring_streams.proofs.Front.{front_grows}
use Rattle.uring_streams.proofs.write.write_all.Goals as goal

pub loop-done-preserved : goal.loop-done-preserved
loop-done-preserved g c =
    let here = c.loop-done.invariant in
    record {
      written = front_grows _ _ _ c.args.bytes.now c.loop-done.done c.in_ok-count.count here.within here.written c.in_ok-count.ensures.bytes;
      within = grind (arith, common_steps);
      later = grind (arith, common_steps);
    }

use Rattle.uring_streams.proofs.Given.{gave_more}
use Rattle.uring_streams.proofs.read.read_all.Goals as goal

pub returns-then-count-len-clause-front : goal.returns-then-count-len-clause-front
returns-then-count-len-clause-front g c =
    let here = c.loop-bytes.invariant in
    let got = c.in_ok-count.ensures in
    gave_more _ _ _ c.loop-bytes.bytes.items c.read.new.into c.in_ok-count.count _ _ _ got.bound here.read got.bytes.0 here.counted got.count

pub returns-in_err-extend_from_slice-clause-front : goal.returns-in_err-extend_from_slice-clause-front
returns-in_err-extend_from_slice-clause-front g c =
    let here = c.loop-bytes.invariant in
    let got = c.in_ok-count.ensures in
    gave_more _ _ _ c.loop-bytes.bytes.items c.read.new.into c.in_ok-count.count _ _ _ got.bound here.read got.bytes.0 here.counted got.count

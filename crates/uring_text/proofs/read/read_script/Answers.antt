use Rattle.std.proofs.Common.{sym, ◌∙◌, arith, refl, ◌≡◌, Some, None, below_more}
use Rattle.uring_text.proofs.Reading.{goes_on, stops, unsaid, unfit, all_read, drop_next, is_some}
use Rattle.uring_text.specs.Lines.{lines_of}
use Rattle.uring_text.specs.Script.{lines_say, script_of, told_of}
use Rattle.uring_text.specs.Adding.{adds}
use Rattle.uring_text.proofs.read.read_script.Goals as goal

pub loop-line-init : goal.loop-line-init
unfolding script_of lines_say
loop-line-init c = record {
  told = rw (c.new.ensures.items, c.new-2.ensures.items, c.new-3.ensures.items) refl;
  rest = refl;
  before = λ k lt. absurd (omega arith);
  room = omega arith;
}

pub loop-line-preserved : goal.loop-line-preserved
loop-line-preserved c =
    let lines = lines_of c.args.bytes.now in
    let here = c.loop-line.invariant in
    let told = told_of c.loop-line.reading.files c.loop-line.reading.choices c.loop-line.reading.jobs in
    let next = here.rest ∙ c.in-Some.ensures.lines in
    let says = sym c.in_ok-line_says.ensures ∙ c.in-Some-2.is in
    let added : adds told c.in-Some-2.said ≡ Some (told_of c.add.new.self.files c.add.new.self.choices c.add.new.self.jobs) = rw c.if-not-fits.false at c.in_ok-fits-in-Some-2.ensures in
    record {
      told = goes_on lines c.loop-line.number c.in-Some.line.now (lines_of c.in-Some.after.now) told _ c.in-Some-2.said here.told next says added;
      rest = drop_next lines c.loop-line.number c.in-Some.line.now (lines_of c.in-Some.after.now) next;
      before = below_more _ _ here.before (is_some _ told here.told);
      room = omega (arith, c.in-Some.ensures.shorter);
    }

pub returns-in-None : goal.returns-in-None
returns-in-None c =
    let here = c.loop-line.invariant in
    let told = told_of c.loop-line.reading.files c.loop-line.reading.choices c.loop-line.reading.jobs in
    stops (lines_of c.args.bytes.now) c.loop-line.number c.in-Some.line.now (lines_of c.in-Some.after.now) told here.told here.before (here.rest ∙ c.in-Some.ensures.lines) (unsaid c.in-Some.line.now told (sym c.in_ok-line_says.ensures ∙ c.in-None.is))

pub returns-then-not-fits : goal.returns-then-not-fits
returns-then-not-fits c =
    let here = c.loop-line.invariant in
    let told = told_of c.loop-line.reading.files c.loop-line.reading.choices c.loop-line.reading.jobs in
    let refused : adds told c.in-Some-2.said ≡ None = rw c.if-not-fits.true at c.in_ok-fits-in-Some-2.ensures in
    stops (lines_of c.args.bytes.now) c.loop-line.number c.in-Some.line.now (lines_of c.in-Some.after.now) told here.told here.before (here.rest ∙ c.in-Some.ensures.lines) (unfit c.in-Some.line.now told c.in-Some-2.said (sym c.in_ok-line_says.ensures ∙ c.in-Some-2.is) refused)

pub returns : goal.returns
returns c = all_read (lines_of c.args.bytes.now) c.loop-line.number _ c.loop-line.invariant.told (c.loop-line.invariant.rest ∙ c.in_default.ensures.lines)

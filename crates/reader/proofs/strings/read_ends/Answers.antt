-- `reader::strings::read_ends` meets its contract. Assumes nothing.
use Rattle.std.proofs.Common.{◌∙◌, arith, ◌≡◌, ◌-◌}
use Rattle.numbers.specs.Cursors.{handed}
use Rattle.reader.specs.EndLaws.{ending-start, ending-no, ending-next, ending-done}
use Rattle.reader.proofs.strings.read_ends.Goals as goal

pub loop-init : goal.loop-init
loop-init c = let all : c.args.n - 0 ≡ c.args.n = omega arith in rw all (ending-start c.requires.holds c.requires.n_bound)

pub shape_of-work-in_err-prev : goal.shape_of-work-in_err-prev
shape_of-work-in_err-prev c = c.read_end.auto.work ∙ c.loop.invariant.long

pub returns-in_err-prev : goal.returns-in_err-prev
returns-in_err-prev c = rw (handed c.from_residual.ensures.1) (ending-no c.loop.invariant (omega arith) c.read_end.ensures c.in_err-prev.was)

pub loop-preserved : goal.loop-preserved
loop-preserved c = ending-next c.loop.invariant (omega arith) c.read_end.ensures c.in_ok-prev.was c.read_end.auto.work (omega arith)

pub shape_of-work : goal.shape_of-work
shape_of-work c = c.loop.invariant.long

pub returns : goal.returns
returns c = ending-done c.loop.invariant (omega arith)

use Rattle.std.proofs.Common.{◌∙◌, arith, ◌≡◌, ◌-◌}
use Rattle.numbers.specs.Cursors.{handed}
use Rattle.reader.specs.EntryLaws.{entries-begin, entries-no, entries_next, entries-done}
use Rattle.reader.proofs.entries.entries.Goals as goal

pub loop-init : goal.loop-init
loop-init c = let all : c.args.count - 0 ≡ c.args.count = omega arith in rw all (entries-begin c.requires.0 c.requires.1 _ _ _)

pub entry-requires : goal.entry-requires
entry-requires c = (c.loop.invariant.holds, c.loop.invariant.sound)

pub shape_of-work-in_err-last : goal.shape_of-work-in_err-last
shape_of-work-in_err-last c = c.entry.auto.work ∙ c.loop.invariant.long

pub returns-in_err-last : goal.returns-in_err-last
returns-in_err-last c = rw (handed c.from_residual.ensures.1) (entries-no c.loop.invariant (omega arith) c.entry.ensures c.in_err-last.was)

pub loop-preserved : goal.loop-preserved
loop-preserved c = entries_next c.loop.invariant (omega arith) c.entry.ensures c.in_ok-last.was c.entry.auto.work (omega arith)

pub shape_of-work : goal.shape_of-work
shape_of-work c = c.loop.invariant.long

pub returns : goal.returns
returns c = entries-done c.loop.invariant (omega arith)

-- `reader::fields::old_fields` meets its contract. Assumes nothing.
use Rattle.std.proofs.Common.{◌∙◌, arith}
use Rattle.numbers.specs.Cursors.{handed}
use Rattle.reader.specs.OldLaws.{olds-skip, olds-begin, olds-no, olds-next, olds-done}
use Rattle.reader.proofs.fields.old_fields.Goals as goal

pub returns-then-added-eq0 : goal.returns-then-added-eq0
returns-then-added-eq0 c = olds-skip c.requires.holds c.requires.fact c.if-added-eq0.true c.args.end

pub loop-i-init : goal.loop-i-init
loop-i-init c = olds-begin c.requires.holds c.requires.fact c.if-added-eq0.false c.stretch_of-own.ensures _ _

pub old_field-requires : goal.old_field-requires
old_field-requires c = record { holds = c.loop-i.invariant.holds; fact = c.loop-i.invariant.still_open; i_bound = omega arith }

pub shape_of-work-in_err-last : goal.shape_of-work-in_err-last
shape_of-work-in_err-last c = c.old_field.auto.work ∙ c.loop-i.invariant.long

pub returns-in_err-last : goal.returns-in_err-last
returns-in_err-last c = rw (handed c.from_residual.ensures.1) (olds-no c.loop-i.invariant c.loop-i-test.true c.old_field.ensures c.in_err-last.was)

pub loop-i-preserved : goal.loop-i-preserved
loop-i-preserved c = olds-next c.loop-i.invariant c.loop-i-test.true c.old_field.ensures c.in_ok-last.was c.old_field.auto.work

pub shape_of-work : goal.shape_of-work
shape_of-work c = c.loop-i.invariant.long

pub returns : goal.returns
returns c = olds-done c.loop-i.invariant c.loop-i-test.false

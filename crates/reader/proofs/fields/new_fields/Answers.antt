-- `reader::fields::new_fields` meets its contract. Assumes nothing.
use Rattle.std.proofs.Common.{◌∙◌, arith, ◌≡◌, ◌-◌}
use Rattle.numbers.specs.Cursors.{handed}
use Rattle.reader.specs.NewLaws.{news-begin, news-no, news-next, news-done}
use Rattle.reader.proofs.fields.new_fields.Goals as goal

pub loop-init : goal.loop-init
loop-init c = let all : c.args.count - 0 ≡ c.args.count = omega arith in rw all (news-begin c.requires.holds c.requires.fact c.requires.count_bound _ _ _ _)

pub new_field-requires : goal.new_field-requires
new_field-requires c = record { holds = c.loop.invariant.holds; fact = c.loop.invariant.still_open; work_bound = omega arith }

pub shape_of-work-in_err-last : goal.shape_of-work-in_err-last
shape_of-work-in_err-last c = c.new_field.auto.work ∙ c.loop.invariant.long

pub returns-in_err-last : goal.returns-in_err-last
returns-in_err-last c = rw (handed c.from_residual.ensures.1) (news-no c.loop.invariant (omega arith) c.new_field.ensures c.in_err-last.was)

pub loop-preserved : goal.loop-preserved
loop-preserved c = news-next c.loop.invariant (omega arith) c.new_field.ensures c.in_ok-last.was c.new_field.auto.work (omega arith)

pub shape_of-work : goal.shape_of-work
shape_of-work c = c.loop.invariant.long

pub returns : goal.returns
returns c = news-done c.loop.invariant (omega arith)

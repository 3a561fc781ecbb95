use Rattle.std.proofs.Common.{arith}
use Rattle.lay.specs.Laid.{most}
use Rattle.numbers.proofs.WriteLaws.{writing_start, writing_more, writing-one, leads-last}
use Rattle.numbers.proofs.write.put_v64.Goals as goal

pub loop-left-init : goal.loop-left-init
unfolding most
loop-left-init c = writing_start _ _ _ _ (omega arith) (omega arith) (omega arith) c.v64_length-length.ensures

pub loop-left-preserved : goal.loop-left-preserved
loop-left-preserved c = writing_more c.loop-left.invariant (omega arith) (omega arith) c.put-p.ensures

pub overflow_cast-rest : goal.overflow_cast-rest
overflow_cast-rest c = let O = writing-one c.loop-left.invariant (omega arith) in record { fits = omega arith }

pub returns : goal.returns
returns c = let O = writing-one c.loop-left.invariant (omega arith) in leads-last O.leads c.put.ensures

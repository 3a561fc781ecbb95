use Rattle.std.proofs.Common.{◌∙◌, arith}
use Rattle.build.specs.FrontTold.{few-yes, few-no}
use Rattle.build.proofs.front.few.Goals as goal

pub returns-then-n-room : goal.returns-then-n-room
returns-then-n-room c = λ f h. c.is_small.ensures ∙ few-yes h c.args.n c.args.m (omega arith) (omega arith) c.strings.ensures (omega (arith, c.if-n-room.true))

pub returns-else-n-room : goal.returns-else-n-room
returns-else-n-room c = λ f h. few-no h c.args.n c.args.m (omega arith) (omega arith) c.strings.ensures (omega (arith, c.if-n-room.false))

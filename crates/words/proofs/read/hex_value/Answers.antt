use Rattle.std.proofs.Common.{◌+◌, arith}
use Rattle.words.specs.Blocks.{valued-none, valued-on, valued-all}
use Rattle.words.specs.ReadHexes.{hex-room}
use Rattle.words.proofs.read.hex_value.Goals as goal

pub loop-i-init : goal.loop-i-init
loop-i-init c = valued-none _ _ _ c.requires.0

pub overflow_mul-v : goal.overflow_mul-v
overflow_mul-v c = let h = hex-room c.loop-i.i c.loop-i.v 0 c.loop-i.invariant.small (omega arith) (omega (arith, c.requires.1)) in omega arith

pub overflow_add-v : goal.overflow_add-v
overflow_add-v c = let h = hex-room c.loop-i.i c.loop-i.v c.value_of.result c.loop-i.invariant.small c.value_of.ensures.1 (omega (arith, c.requires.1)) in omega (arith, c.from.ensures)

pub loop-i-preserved : goal.loop-i-preserved
loop-i-preserved c = rw c.from.ensures (valued-on c.loop-i.invariant (omega arith) c.value_of.ensures.0 (omega (arith, c.type_inv.t (c.args.at + c.loop-i.i))))

pub returns : goal.returns
returns c = valued-all c.loop-i.invariant (omega arith)

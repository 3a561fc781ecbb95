use Rattle.std.proofs.Common.{◌≡◌, arith, eqb-true}
use Rattle.words.specs.Blocks.{not_there, hexes-none, hexes-on, hexes-other}
use Rattle.words.proofs.read.digits_there.Goals as goal
use Rattle.words.proofs.read.digits_there.Goals.{then-not-is_hex, else-not-is_hex}

pub returns-then-t-at : goal.returns-then-t-at
returns-then-t-at c = not_there

pub returns-then-t-at-2 : goal.returns-then-t-at-2
returns-then-t-at-2 c = not_there

pub loop-i-init : goal.loop-i-init
loop-i-init c = hexes-none _ _ _ (omega arith)

pub loop-i-preserved : goal.loop-i-preserved
loop-i-preserved c = elim c.if-not-is_hex.branch [
  | then-not-is_hex w ↦ rw w.others-is (hexes-other c.loop-i.invariant (omega arith))
  | else-not-is_hex w ↦ rw w.others-is (hexes-on c.loop-i.invariant (omega arith) (c.is_hex.ensures w.if-not-is_hex.false))
]

pub returns : goal.returns
returns c t = let all : c.loop-i.i ≡ c.args.n = omega (arith, c.loop-i.invariant.high) in rw all at (c.loop-i.invariant.so (eqb-true _ 0 t))

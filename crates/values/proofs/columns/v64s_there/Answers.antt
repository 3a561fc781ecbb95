use Rattle.std.proofs.Common.{arith}
use Rattle.numbers.specs.Turned.{TakenV64}
use Rattle.values.specs.Rows.{stood, v64-listed, on-v64}
use Rattle.values.specs.Columns.{held}
use Rattle.values.proofs.columns.v64s_there.Goals as goal
use Rattle.values.proofs.columns.v64s_there.Goals.{then-this-ne0, else-this-ne0}

pub value_of-requires : goal.value_of-requires
value_of-requires g c = let T : TakenV64 c.args.part.now c.loop-i.here.at c.if-this-ne0.a = elim c.if-this-ne0.branch [
  | then-this-ne0 w ↦ rw w.a-is w.take_long_v64-a.ensures
  | else-this-ne0 w ↦ rw w.a-is w.take_v64-a.ensures
] in
    v64-listed _ T.below

pub loop-i-preserved : goal.loop-i-preserved
loop-i-preserved g c = let T : TakenV64 c.args.part.now c.loop-i.here.at c.if-this-ne0.a = elim c.if-this-ne0.branch [
  | then-this-ne0 w ↦ rw w.a-is w.take_long_v64-a.ensures
  | else-this-ne0 w ↦ rw w.a-is w.take_v64-a.ensures
] in
    on-v64 T (omega (arith, c.loop-i.invariant.most)) c.loop-i.invariant (stood c.value_of.ensures) (held c.store.type_inv c.store.ensures)

use Rattle.std.proofs.Common.{refl}
use Rattle.numbers.specs.Cursors.{was-got}
use Rattle.values.specs.Rows.{stood, v64-listed, read-v64, number_cut, number-next}
use Rattle.values.specs.Filling.{fill_done, fill-full}
use Rattle.values.specs.Columns.{held}
use Rattle.values.proofs.columns.fill_v64s.Goals as goal

pub returns-then-out-p : goal.returns-then-out-p
returns-then-out-p c = fill-full c.loop-from.invariant c.loop-from-test.true c.if-out-p.true

pub loop-from-preserved-then-n-gt0 : goal.loop-from-preserved-then-n-gt0
loop-from-preserved-then-n-gt0 c = c.some_v64s-next.ensures.fills 11 refl _ _ c.loop-from.invariant

pub returns-in_default : goal.returns-in_default
returns-in_default c = number_cut refl c.loop-from.invariant c.loop-from-test.true (read-v64 c.v64.ensures) c.in_default.is

pub value_of-requires : goal.value_of-requires
value_of-requires c = v64-listed _ (was-got c.v64.ensures c.in-Ok.is).below

pub loop-from-preserved : goal.loop-from-preserved
loop-from-preserved c = number-next refl c.loop-from.invariant c.loop-from-test.true (read-v64 c.v64.ensures) c.in-Ok.is (stood c.value_of.ensures) (held c.store.type_inv c.store.ensures)

pub returns : goal.returns
returns c = fill_done c.loop-from.invariant refl c.loop-from-test.false

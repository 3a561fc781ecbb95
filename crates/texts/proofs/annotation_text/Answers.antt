use Rattle.std.proofs.Common.{refl}
use Rattle.texts.specs.Told.{takes, refuses}
use Rattle.texts.specs.Chunks.{noted-none, noted-half, noted-wrong, noted-lays}
use Rattle.texts.proofs.annotation_text.Goals as goal

pub returns-in_err-m : goal.returns-in_err-m
returns-in_err-m c = rw c.from_residual.ensures (refuses (noted-none _ _ _ (rw c.in_err-m.was at c.natural_ended.ensures)))

pub returns-in_err-n : goal.returns-in_err-n
returns-in_err-n c = rw c.from_residual-in_err-n.ensures (refuses (noted-half _ _ _ (rw c.in_ok-m.was at c.natural_ended.ensures) (rw c.in_err-n.was at c.natural.ensures)))

pub returns-then-not-placed : goal.returns-then-not-placed
returns-then-not-placed c = refuses (noted-wrong _ _ _ (rw c.in_ok-m.was at c.natural_ended.ensures) (rw c.in_ok-n.was at c.natural.ensures) c.placed.ensures (rw c.if-not-placed.true))

pub returns : goal.returns
returns c = takes _ (noted-lays _ _ _ (rw c.in_ok-m.was at c.natural_ended.ensures) (rw c.in_ok-n.was at c.natural.ensures) c.placed.ensures (rw c.if-not-placed.false) _ refl refl c.put_v64-behind.ensures c.put_v64-end.ensures)

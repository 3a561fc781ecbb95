use Rattle.values.specs.Annotations.{placed-null, placed-half, placed-far, placed-some}
use Rattle.values.proofs.annotations.placed.Goals as goal

pub returns-then-m-eq0 : goal.returns-then-m-eq0
returns-then-m-eq0 c = placed-null _ _ _ c.if-m-eq0.true

pub returns-then-n-eq0 : goal.returns-then-n-eq0
returns-then-n-eq0 c = placed-half _ _ _ c.if-m-eq0.false c.if-n-eq0.true

pub returns-then-pools-m : goal.returns-then-pools-m
returns-then-pools-m c = placed-far _ _ _ c.if-m-eq0.false c.if-n-eq0.false c.if-pools-m.true

pub returns : goal.returns
returns c = rw c.from.ensures (placed-some _ _ _ c.if-m-eq0.false c.if-n-eq0.false)

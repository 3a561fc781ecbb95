use Rattle.std.proofs.Common.{arith}
use Rattle.trail.specs.Heads.{super-known, super-none, super-got, super-over}
use Rattle.trail.proofs.trail.past_super.Goals as goal

pub returns-then-typ-t : goal.returns-then-typ-t
returns-then-typ-t c = super-known c.if-typ-t.true

pub returns-then-n-eq0 : goal.returns-then-n-eq0
returns-then-n-eq0 c = super-none (omega arith) c.past-n.ensures c.if-n-eq0.true

pub returns-then-u-ge32 : goal.returns-then-u-ge32
returns-then-u-ge32 c = super-over (omega arith) c.past-n.ensures c.if-n-eq0.false c.string_at-name.ensures c.find-u.ensures c.if-u-ge32.true

pub returns : goal.returns
returns c = super-got (omega arith) c.past-n.ensures c.if-n-eq0.false c.string_at-name.ensures c.find-u.ensures

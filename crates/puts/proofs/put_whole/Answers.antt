use Rattle.std.proofs.Common.{arith}
use Rattle.lay.specs.Laid.{laid_as}
use Rattle.puts.specs.Kinds.{whole-fixed, whole-i64, whole-v64}
use Rattle.puts.proofs.put_whole.Goals as goal

pub put_be-requires : goal.put_be-requires
put_be-requires c = (omega arith, λ w. omega (arith, c.min.ensures))

pub put_be-requires-in-1 : goal.put_be-requires-in-1
put_be-requires-in-1 c = (omega arith, λ w. omega (arith, c.min-in-1.ensures))

pub put_be-requires-in-2 : goal.put_be-requires-in-2
put_be-requires-in-2 c = (omega arith, λ w. omega (arith, c.min-in-2.ensures))

pub returns-in-0 : goal.returns-in-0
returns-in-0 c = laid_as (rw c.min.ensures at c.put_be.ensures) (whole-fixed _ _ 0 255 c.in-0.is (omega arith) (omega arith))

pub returns-in-1 : goal.returns-in-1
returns-in-1 c = laid_as (rw c.min-in-1.ensures at c.put_be-in-1.ensures) (whole-fixed _ _ 1 65535 c.in-1.is (omega arith) (omega arith))

pub returns-in-2 : goal.returns-in-2
returns-in-2 c = laid_as (rw c.min-in-2.ensures at c.put_be-in-2.ensures) (whole-fixed _ _ 2 4294967295 c.in-2.is (omega arith) (omega arith))

pub returns-in-3 : goal.returns-in-3
returns-in-3 c = laid_as c.put_be-in-3.ensures (whole-i64 _ _ (omega arith) c.in-3.is)

pub returns-in_default : goal.returns-in_default
returns-in_default c = laid_as c.put_v64.ensures (whole-v64 _ _ (omega arith) (omega (arith, c.in_default.in_default-own.rest.1, c.in_default.in_default-own.rest.0.1, c.in_default.in_default-own.rest.0.0.1, c.in_default.in_default-own.rest.0.0.0.1)))

use Rattle.std.proofs.Common.{refl, arith}
use Rattle.parse.specs.KindLaws.{half-narrow, half-wide}
use Rattle.parse.proofs.kinds.half_of.Goals as goal

pub returns-in-0 : goal.returns-in-0
returns-in-0 c = half-narrow c.args.k 1 128 (omega (arith, c.in-0.is)) (rw c.in-0.is) refl (omega arith)

pub returns-in-1 : goal.returns-in-1
returns-in-1 c = half-narrow c.args.k 2 32768 (omega (arith, c.in-1.is)) (rw c.in-1.is) refl (omega arith)

pub returns-in-2 : goal.returns-in-2
returns-in-2 c = half-narrow c.args.k 4 2147483648 (omega (arith, c.in-2.is)) (rw c.in-2.is) refl (omega arith)

pub returns-in_default : goal.returns-in_default
returns-in_default c = half-wide c.args.k (omega (arith, c.in_default.in_default-own.rest.1, c.in_default.in_default-own.rest.0.1, c.in_default.in_default-own.rest.0.0.1))

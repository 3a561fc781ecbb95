use Rattle.std.proofs.Common.{◌-◌, arith}
use Rattle.values.specs.Spans.{span-low, span-far, span-there}
use Rattle.values.proofs.maps.span_of.Goals as goal

pub returns-then-k-lt32 : goal.returns-then-k-lt32
returns-then-k-lt32 c = span-low _ _ c.if-k-lt32.true

pub returns-then-starts-next : goal.returns-then-starts-next
returns-then-starts-next c = span-far _ _ c.if-k-lt32.false c.if-starts-next.true

pub overflow_cast-from : goal.overflow_cast-from
overflow_cast-from c = omega (arith, c.shared_slice_known-1.given (c.args.k - 31 - 1))

pub overflow_cast-to : goal.overflow_cast-to
overflow_cast-to c = omega (arith, c.shared_slice_known-2-1.given (c.args.k - 31))

pub returns : goal.returns
returns c = span-there _ _ c.if-k-lt32.false c.if-starts-next.false

use Rattle.std.proofs.Common.{arith}
use Rattle.reader.specs.KindLaws.{bits-fixed, bits-v64}
use Rattle.reader.proofs.kinds.constant_bits.Goals as goal

pub returns-in-0 : goal.returns-in-0
returns-in-0 c = bits-fixed _ 1 (omega arith) (rw c.in-0.is) (omega arith) (c.be.ensures.reads (omega arith))

pub returns-in-1 : goal.returns-in-1
returns-in-1 c = bits-fixed _ 2 (omega arith) (rw c.in-1.is) (omega arith) (c.be-in-1.ensures.reads (omega arith))

pub returns-in-2 : goal.returns-in-2
returns-in-2 c = bits-fixed _ 4 (omega arith) (rw c.in-2.is) (omega arith) (c.be-in-2.ensures.reads (omega arith))

pub returns-in-3 : goal.returns-in-3
returns-in-3 c = bits-fixed _ 8 (omega arith) (rw c.in-3.is) (omega arith) (c.be-in-3.ensures.reads (omega arith))

pub returns-in_default : goal.returns-in_default
returns-in_default c = bits-v64 _ (omega arith) c.v64.ensures

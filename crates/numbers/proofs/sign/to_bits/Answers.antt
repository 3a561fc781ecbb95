use Rattle.std.proofs.Common.{arith}
use Rattle.numbers.proofs.SignLaws.{Below, Above, is_below, is-above, bits_below, bits_above}
use Rattle.numbers.proofs.sign.to_bits.Goals as goal

-- what each way learns of z
below : (c : goal.Then-z-lt0) → Below c.args.half c.args.z
below c = is_below _ c.requires.0 _ c.requires.1 c.if-z-lt0.true

above : (c : goal.Else-z-lt0) → Above c.args.half c.args.z
above c = is-above _ c.requires.0 _ c.requires.1 c.if-z-lt0.false

pub overflow_sub-down : goal.overflow_sub-down
overflow_sub-down c = let B = below c in rw B.turned (record { sfits = omega arith })

pub overflow_cast-below : goal.overflow_cast-below
overflow_cast-below c = let B = below c in rw B.read (tt, record { fits = omega arith })

pub overflow_sub-above : goal.overflow_sub-above
overflow_sub-above c = let B = below c in omega arith

pub overflow_sub-above-then-z-lt0 : goal.overflow_sub-above-then-z-lt0
overflow_sub-above-then-z-lt0 c = let B = below c in rw B.read (omega arith)

pub returns-then-z-lt0 : goal.returns-then-z-lt0
returns-then-z-lt0 c w two = let B = below c in rw B.read (bits_below _ c.requires.0 w two B.n B.small B.is)

pub overflow_cast-result : goal.overflow_cast-result
overflow_cast-result c = let A = above c in rw A.read (tt, record { fits = omega arith })

pub returns : goal.returns
returns c w two = let A = above c in rw A.read (bits_above _ c.requires.0 w two A.n A.small A.is)

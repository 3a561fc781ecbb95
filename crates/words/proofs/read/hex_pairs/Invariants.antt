use Rattle.std.proofs.Common.{◌-◌, length}
use Rattle.words.specs.ReadHexes.{Unhexing}
use Rattle.words.proofs.read.hex_pairs.Given as goal

abbrev pub invariant-loop-a : goal.invariant-loop-a
invariant-loop-a l = Unhexing l.t l.from l.initial.out l.at l.out l.p l.q

abbrev pub decreases-loop-a : goal.decreases-loop-a
decreases-loop-a l = length l.t - l.p

use Rattle.std.proofs.Common.{◌-◌, ◌≡◌, length}
use Rattle.words.specs.ReadHexes.{Unhexing}
use Rattle.words.proofs.read.Place.hex_bytes.Given as goal

abbrev pub invariant-loop-bytes : goal.invariant-loop-bytes
invariant-loop-bytes l = Unhexing l.t l.initial.p l.initial.out l.at l.out l.p l.q × (length l.bytes ≡ 32)

abbrev pub decreases-loop-bytes : goal.decreases-loop-bytes
decreases-loop-bytes l = length l.t - l.p

use Rattle.words.specs.Stored.{Pairing}
use Rattle.words.proofs.write.store_hex_bytes.Given as goal

abbrev pub invariant-loop-i : goal.invariant-loop-i
invariant-loop-i l = Pairing l.initial.out l.at l.s l.out l.i

use Rattle.std.proofs.Common.{◌≡◌, length}
use Rattle.recall.specs.Among.{AmongGoing}
use Rattle.recall.proofs.fields.among.Given as goal

abbrev pub invariant-loop-i : goal.invariant-loop-i
invariant-loop-i l = AmongGoing l.file l.starts l.blocks l.at l.n l.name l.i l.here × (length l.starts ≡ 32)

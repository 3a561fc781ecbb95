use Rattle.std.proofs.Common.{◌≤◌, ◌≡◌, length}
use Rattle.trail.specs.Texts.{Seeking}
use Rattle.trail.proofs.texts.string_at.Given as goal

abbrev pub invariant-loop-i : goal.invariant-loop-i
invariant-loop-i l = Seeking l.file l.starts l.blocks l.n l.i l.k × (length l.starts ≡ 32) × (l.i ≤ 32)

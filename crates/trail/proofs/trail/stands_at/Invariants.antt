use Rattle.std.proofs.Common.{◌≡◌, length}
use Rattle.trail.proofs.trail.stands_at.Given as goal

abbrev pub invariant-loop-i : goal.invariant-loop-i
invariant-loop-i l = (length l.froms ≡ 32) × (length l.tos ≡ 32)

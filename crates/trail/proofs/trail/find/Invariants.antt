use Rattle.std.proofs.Common.{◌≡◌, length}
use Rattle.trail.specs.Texts.{Within, bytes_of}
use Rattle.trail.specs.Types.{Finding}
use Rattle.trail.proofs.trail.find.Given as goal

abbrev pub invariant-loop-i : goal.invariant-loop-i
invariant-loop-i l = Finding l.file l.n l.froms l.tos (bytes_of l.file l.name) l.i × (length l.froms ≡ 32) × (length l.tos ≡ 32) × Within l.file l.name

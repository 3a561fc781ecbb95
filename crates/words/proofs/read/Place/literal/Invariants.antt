use Rattle.std.proofs.Common.{◌≡◌, drop}
use Rattle.paper.specs.Scan.{literal}
use Rattle.words.proofs.read.Place.literal.Given as goal

abbrev pub invariant-loop-b : goal.invariant-loop-b
invariant-loop-b l = literal (drop l.b-index l.w) l.t l.p.at ≡ literal l.w l.t l.initial.p.at

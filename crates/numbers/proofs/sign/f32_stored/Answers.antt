use Rattle.std.proofs.Common.{arith, w64}
use mir.Facts.{to_z_pos}
use Rattle.paper.specs.Reader.{when◌then◌else◌}
use Rattle.paper.specs.Calls.{stored}
use Rattle.numbers.proofs.sign.f32_stored.Goals as goal

pub returns : goal.returns
unfolding stored when◌then◌else◌
returns c = to_z_pos w64 (omega arith)

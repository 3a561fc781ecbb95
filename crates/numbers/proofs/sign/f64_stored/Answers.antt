use Rattle.std.proofs.Common.{◌∙◌, to_z-of_z, w64}
use Rattle.paper.specs.Reader.{when◌then◌else◌}
use Rattle.paper.specs.Calls.{stored}
use Rattle.numbers.proofs.sign.f64_stored.Goals as goal

pub returns : goal.returns
unfolding stored when◌then◌else◌
returns c = to_z-of_z {w = w64} (record { sfits = c.signed.type_inv }) ∙ c.signed.ensures

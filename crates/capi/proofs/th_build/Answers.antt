use Rattle.std.proofs.Common.{◌∙◌, w64}
use Rattle.std.proofs.lemmas.Int.{to_z-of_z}
use Rattle.capi.specs.Coded.{as-coded, build-plain}
use Rattle.capi.proofs.th_build.Goals as goal

pub returns : goal.returns
returns c = as-coded _ (to_z-of_z w64 _ (record { sfits = c.one_number.type_inv }) ∙ c.one_number.ensures) c.build.ensures (build-plain _ _ _)

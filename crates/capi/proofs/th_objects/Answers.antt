use Rattle.std.proofs.Common.{arith, ◌∙◌, w64}
use Rattle.std.proofs.lemmas.Int.{to_z-of_z}
use Rattle.walk.specs.FileLaws.{all-bytes}
use Rattle.capi.specs.Coded.{as-coded, objects-plain}
use Rattle.capi.proofs.th_objects.Goals as goal

pub returns : goal.returns
returns c = as-coded _ (to_z-of_z w64 _ (record { sfits = c.one_number.type_inv }) ∙ c.one_number.ensures) c.objects.ensures (objects-plain _ _ (all-bytes c.args.file.now (λ i. omega (arith, c.type_inv.file i))) _)

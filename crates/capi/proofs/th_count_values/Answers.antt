use Rattle.std.proofs.Common.{arith, ◌∙◌, w64}
use Rattle.std.proofs.lemmas.Int.{to_z-of_z}
use Rattle.walk.specs.FileLaws.{all-bytes}
use Rattle.capi.specs.Coded.{as-coded, count-plain}
use Rattle.capi.proofs.th_count_values.Goals as goal

pub returns : goal.returns
returns c = as-coded _ (to_z-of_z w64 _ (record { sfits = c.one_number.type_inv }) ∙ c.one_number.ensures) c.count_values.ensures (count-plain _ _ (all-bytes c.args.file.now (λ i. omega (arith, c.type_inv.file i))) _ _ _)

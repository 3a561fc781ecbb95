use Rattle.std.proofs.Common.{arith, ◌∙◌, w64}
use Rattle.std.proofs.lemmas.Int.{to_z-of_z}
use Rattle.capi.specs.Coded.{as-coded, listing-plain}
use Rattle.capi.proofs.th_listing.Goals as goal

pub returns : goal.returns
returns c = as-coded _ (to_z-of_z w64 _ (record { sfits = c.one_number.type_inv }) ∙ c.one_number.ensures) c.listing.ensures (listing-plain _ _ _ (omega arith))

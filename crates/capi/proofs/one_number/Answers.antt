use Rattle.std.proofs.Common.{◌∙◌, w64}
use Rattle.std.proofs.lemmas.Int.{to_z-of_z}
use Rattle.calls.specs.Told.{answer_of}
use Rattle.capi.specs.Coded.{coded_up_to}
use Rattle.capi.proofs.Minus.{minus-read}
use Rattle.capi.proofs.one_number.Goals as goal

pub returns-in-Ok : goal.returns-in-Ok
unfolding answer_of coded_up_to
returns-in-Ok c = rw c.in-Ok.is (to_z-of_z w64 _ (record { sfits = c.up_to_top.type_inv }) ∙ c.up_to_top.ensures)

pub returns-in-Err : goal.returns-in-Err
unfolding answer_of coded_up_to
returns-in-Err c =
    rw
    c.in-Err.is
    (minus-read _ c.up_to_top-in-Err.result (to_z-of_z w64 _ (record { sfits = c.up_to_top-in-Err.type_inv }) ∙ c.up_to_top-in-Err.ensures))

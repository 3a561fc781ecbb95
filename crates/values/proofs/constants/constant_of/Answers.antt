use Rattle.std.proofs.Common.{arith}
use Rattle.values.specs.Constants.{constant-i8, constant-i16, constant-i32, constant_wide}
use Rattle.values.specs.Columns.{held}
use Rattle.values.proofs.constants.constant_of.Goals as goal

pub returns-in-0 : goal.returns-in-0
returns-in-0 c = constant-i8 _ _ c.in-0.is (held c.signed.type_inv (rw c.min.ensures at c.signed.ensures))

pub returns-in-1 : goal.returns-in-1
returns-in-1 c = constant-i16 _ _ c.in-1.is (held c.signed-in-1.type_inv (rw c.min-in-1.ensures at c.signed-in-1.ensures))

pub returns-in-2 : goal.returns-in-2
returns-in-2 c = constant-i32 _ _ c.in-2.is (held c.signed-in-2.type_inv (rw c.min-in-2.ensures at c.signed-in-2.ensures))

pub returns-in_default : goal.returns-in_default
returns-in_default c = constant_wide _ _ (omega arith) c.requires (held c.signed-in_default.type_inv c.signed-in_default.ensures)

-- `reader::fields::judged_field_count` meets its contract. Assumes nothing.
use Rattle.std.proofs.Common.{refl, arith}
use Rattle.reader.specs.FieldNumbers.{count-many, count-few, count-got}
use Rattle.reader.proofs.fields.judged_field_count.Goals as goal

pub returns-then-most-n : goal.returns-then-most-n
returns-then-most-n c = λ f h. count-many _ _ (omega arith)

pub returns-then-n-known : goal.returns-then-n-known
returns-then-n-known c = λ f h. count-few _ _ (omega arith) c.if-n-known.true

pub returns : goal.returns
returns c = λ f h. count-got _ _ refl (omega arith) c.if-n-known.false

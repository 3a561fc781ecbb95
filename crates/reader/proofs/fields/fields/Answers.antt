use Rattle.std.proofs.Common.{arith}
use Rattle.reader.specs.FieldLaws.{no_fields}
use Rattle.reader.proofs.fields.fields.Goals as goal

pub overflow_add-result : goal.overflow_add-result
overflow_add-result c = omega (arith, (c.adds_nothing.ensures c.if-adds_nothing.true).1.there)

pub returns-then-adds_nothing : goal.returns-then-adds_nothing
returns-then-adds_nothing c = no_fields c.requires.holds c.requires.fact (c.adds_nothing.ensures c.if-adds_nothing.true).0 (c.adds_nothing.ensures c.if-adds_nothing.true).1 _ _

pub returns : goal.returns
returns c = c.all_fields.ensures

-- `reader::fields::values_due` meets its contract. Assumes nothing.
use Rattle.reader.specs.FieldNumbers.{constant-due, other-due}
use Rattle.reader.proofs.fields.values_due.Goals as goal

pub returns-then-kind-le4 : goal.returns-then-kind-le4
returns-then-kind-le4 c = λ a e. constant-due c.args.kind a e c.args.n c.if-kind-le4.true

pub returns : goal.returns
returns c = λ a e. other-due c.args.kind a e c.args.n c.if-kind-le4.false

use Rattle.recall.specs.FieldWalks.{Finding}
use Rattle.recall.proofs.fields.find_field.Given as goal

abbrev pub invariant-loop : goal.invariant-loop
invariant-loop l = Finding l.file l.steps l.typ l.name l.counter l.t

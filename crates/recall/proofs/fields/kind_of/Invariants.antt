use Rattle.recall.specs.FieldWalks.{RowStands, Kinding}
use Rattle.recall.proofs.fields.kind_of.Given as goal

abbrev pub invariant-loop : goal.invariant-loop
invariant-loop l = Kinding l.file l.steps l.typ l.own l.counter l.t l.kind × RowStands l.kind

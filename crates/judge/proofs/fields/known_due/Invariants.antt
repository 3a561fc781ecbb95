-- `judge::fields::known_due` meets its contract. Assumes nothing.
use Rattle.judge.specs.FieldsKnown.{DuesGoing}
use Rattle.judge.proofs.fields.known_due.Given as goal

abbrev pub invariant-loop-i : goal.invariant-loop-i
invariant-loop-i l = DuesGoing l.initial.work l.work l.t l.added l.i-end l.i

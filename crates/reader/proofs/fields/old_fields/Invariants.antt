-- `reader::fields::old_fields` meets its contract. Assumes nothing.
use Rattle.reader.specs.OldLaws.{OldsGoing}
use Rattle.reader.proofs.fields.old_fields.Given as goal

abbrev pub invariant-loop-i : goal.invariant-loop-i
invariant-loop-i l = OldsGoing l.file l.initial.work l.work l.t l.added l.end l.initial.next.at l.i-end l.i l.last l.next.at

-- `reader::fields::new_fields` meets its contract. Assumes nothing.
use Rattle.std.proofs.Common.{◌-◌}
use Rattle.reader.specs.Kinds.{named?}
use Rattle.reader.specs.NewLaws.{NewsGoing}
use Rattle.reader.proofs.fields.new_fields.Given as goal

abbrev pub invariant-loop : goal.invariant-loop
invariant-loop l = NewsGoing l.file l.initial.work l.work (named? l.named) l.t l.objects l.end l.initial.next.at l.count (l.count - l.counter) l.last l.next.at

-- `judge::fields::news_text` meets its contract. Assumes nothing.
use Rattle.std.proofs.Common.{◌-◌}
use Rattle.judge.specs.FieldsNew.{NewsGoing}
use Rattle.judge.proofs.fields.news_text.Given as goal

abbrev pub invariant-loop : goal.invariant-loop
invariant-loop l = NewsGoing l.text l.initial.work l.work l.t l.objects l.initial.at.at l.count (l.count - l.counter) l.at.at

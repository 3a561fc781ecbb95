use Rattle.std.proofs.Common.{◌-◌}
use Rattle.fronts.specs.Lines.{field_line, one_end, field_bytes}
use Rattle.fronts.specs.Puts.{Going}
use Rattle.fronts.proofs.put_fields.Given as goal

abbrev pub invariant-loop : goal.invariant-loop
invariant-loop l = Going field_line one_end field_bytes l.text l.work l.n l.initial.here l.initial.out (l.n - l.counter) l.here l.out

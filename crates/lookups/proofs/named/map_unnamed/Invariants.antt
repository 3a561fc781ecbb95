use Rattle.std.proofs.Common.{not, eqb, ◌-◌, ◌+◌}
use Rattle.lookups.specs.Bytes.{Asked}
use Rattle.lookups.proofs.named.map_unnamed.Given as goal

abbrev pub invariant-loop : goal.invariant-loop
invariant-loop l = Asked (λ k. not (eqb k 5)) l.count l.packed (l.count - l.counter + 1) l.rest

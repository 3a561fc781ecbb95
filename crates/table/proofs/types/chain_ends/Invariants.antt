-- `table::types::chain_ends` meets its contract. Assumes nothing.
use Rattle.std.proofs.Common.{◌≡◌, ◌-◌, length}
use Rattle.paper.specs.Rules.{chain_ends?}
use Rattle.table.specs.View.{maybe, types_of}
use Rattle.table.proofs.types.chain_ends.Given as goal

abbrev pub invariant-loop : goal.invariant-loop
invariant-loop l = chain_ends? (length (types_of l.work)) (types_of l.work) l.t (maybe l.up) ≡ chain_ends? (l.end - l.counter) (types_of l.work) l.t (maybe l.above)

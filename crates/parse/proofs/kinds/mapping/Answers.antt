use Rattle.std.proofs.Common.{arith}
use Rattle.parse.specs.MapLaws.{map-no-comma, map-no-types, map_on, map-few, map-many}
use Rattle.parse.proofs.kinds.mapping.Goals as goal

pub returns-in_err-types : goal.returns-in_err-types
returns-in_err-types c = rw c.from_residual.ensures (map-no-comma _ _ c.in_err-types.ensures)

pub returns-in_err-n : goal.returns-in_err-n
returns-in_err-n c = rw c.from_residual-in_err-n.ensures (map-no-types _ _ c.in_ok-types.ensures c.in_err-n.ensures)

pub returns-then-n-lt2 : goal.returns-then-n-lt2
returns-then-n-lt2 c = map-few _ _ c.in_ok-types.ensures c.in_ok-n.ensures (omega arith)

pub returns-then-n-gt8 : goal.returns-then-n-gt8
returns-then-n-gt8 c = map-many _ _ c.in_ok-types.ensures c.in_ok-n.ensures (omega arith) (omega arith)

pub map_kinds-requires : goal.map_kinds-requires
map_kinds-requires c = (omega arith, omega arith)

pub returns : goal.returns
returns c = map_on _ _ c.in_ok-types.ensures c.in_ok-n.ensures c.map_kinds.ensures

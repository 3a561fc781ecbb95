use Rattle.std.proofs.Common.{arith}
use Rattle.numbers.specs.Cursors.{was-got, handed}
use Rattle.reader.specs.KindLaws.{map-no-count, map-no-kinds, map-got}
use Rattle.reader.proofs.kinds.mapping.Goals as goal

pub returns-in_err-count : goal.returns-in_err-count
returns-in_err-count c = rw (handed c.from_residual.ensures.1) (map-no-count _ c.type_count.ensures c.in_err-count.was)

pub packed_kinds-requires : goal.packed_kinds-requires
packed_kinds-requires c = omega (arith, (was-got c.type_count.ensures c.in_ok-count.was).below)

pub returns-in_err-packed : goal.returns-in_err-packed
returns-in_err-packed c = rw (handed c.from_residual-in_err-packed.ensures.1) (map-no-kinds _ c.type_count.ensures c.in_ok-count.was c.packed_kinds.ensures c.in_err-packed.was)

pub returns : goal.returns
returns c = map-got _ c.type_count.ensures c.in_ok-count.was c.packed_kinds.ensures c.in_ok-packed.was

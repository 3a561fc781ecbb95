use Rattle.std.proofs.Common.{to_z-of_z, arith, w64}
use Rattle.calls.specs.Column.{stored-constant, column-ready, stored-column}
use Rattle.calls.proofs.asks.store_values.Goals as goal

pub fill_constant-requires : goal.fill_constant-requires
fill_constant-requires c = omega (arith, c.requires.1)

pub returns-then-w-le4 : goal.returns-then-w-le4
returns-then-w-le4 c = stored-constant c.constant_of-z.ensures (to_z-of_z {w = w64} (record { sfits = c.constant_of-z.type_inv })) c.fill_constant.ensures

pub fill_column-requires : goal.fill_column-requires
fill_column-requires c = column-ready (omega arith) c.requires

pub returns : goal.returns
returns c = stored-column (omega arith) c.fill_column.ensures

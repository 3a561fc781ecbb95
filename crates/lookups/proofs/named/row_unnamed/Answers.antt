use Rattle.std.proofs.Common.{arith, refl}
use Rattle.lookups.specs.Named.{row-constant, row-map, row_other}
use Rattle.lookups.proofs.named.row_unnamed.Goals as goal

pub returns-then-kind-le4 : goal.returns-then-kind-le4
returns-then-kind-le4 c = row-constant c.args.kind c.if-kind-le4.true

pub returns-then-kind-eq20 : goal.returns-then-kind-eq20
returns-then-kind-eq20 c = row-map c.args.kind c.if-kind-eq20.true c.map_unnamed.ensures

pub returns : goal.returns
returns c = row_other c.args.kind (omega arith) c.if-kind-eq20.false refl

-- `walk::chunks::chunk` meets its contract. Assumes nothing.
use Rattle.std.proofs.Common.{arith}
use Rattle.table.specs.View.{flds_of}
use Rattle.walk.specs.Listed.{row-kinds}
use Rattle.walk.specs.Steps.{chunk-is, noted-kind, part-long}
use Rattle.walk.proofs.chunks.chunk.Goals as goal

pub values_of-a-requires : goal.values_of-a-requires
values_of-a-requires c = record { ok = (c.requires.holds.0.ok, c.requires.holds.1); kinds = row-kinds (flds_of c.args.work.now) c.args.d.field _ _ _ _ c.requires.holds.3 (omega (arith, c.requires.holds.0.ok.flds-count, c.requires.field_bound.0)) c.field_at-kind.ensures.result_value }

pub fill-requires : goal.fill-requires
fill-requires c = let row = c.field_at-kind.result in
    let noted = noted-kind c.requires.holds.2 c.args.d.field row (omega (arith, c.requires.holds.0.ok.flds-count, c.requires.field_bound.0)) c.field_at-kind.ensures.result_value in
    let inside = (c.values_of-a.ensures c.args.file.now c.requires.holds.0 noted).inside in
    (omega (arith, inside, part-long c.args.file.now c.args.at c.args.d.size), omega (arith, c.requires.field_bound.1, c.requires.holds.0.small))

pub returns : goal.returns
returns c = let row = c.field_at-kind.result in
    let noted = noted-kind c.requires.holds.2 c.args.d.field row (omega (arith, c.requires.holds.0.ok.flds-count, c.requires.field_bound.0)) c.field_at-kind.ensures.result_value in
    chunk-is c.args.file.now c.args.work.now c.args.at c.args.d row c.requires.holds.0 c.requires.field_bound.1 c.field_at-kind.ensures.result_value (c.values_of-a.ensures _ c.requires.holds.0 noted) c.fill.ensures

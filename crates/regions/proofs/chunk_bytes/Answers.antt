-- `regions::chunk_bytes` meets its contract. Assumes nothing.
use Rattle.std.proofs.Common.{arith}
use Rattle.table.specs.View.{flds_of}
use Rattle.walk.specs.Listed.{row-kinds}
use Rattle.walk.specs.Steps.{noted-kind}
use Rattle.regions.specs.Chunk.{chunk-told}
use Rattle.regions.proofs.chunk_bytes.Goals as goal

pub kind_bytes-requires : goal.kind_bytes-requires
kind_bytes-requires c = record { holds = (c.requires.holds.0, c.requires.holds.1, noted-kind c.requires.holds.2 c.args.d.field c.field_at-kind.result (omega (arith, c.requires.holds.0.ok.flds-count, c.requires.field_bound)) c.field_at-kind.ensures.result_value); kinds = row-kinds (flds_of c.args.work.now) c.args.d.field _ _ _ _ c.requires.holds.3 (omega (arith, c.requires.holds.0.ok.flds-count, c.requires.field_bound)) c.field_at-kind.ensures.result_value }

pub returns : goal.returns
returns c = chunk-told c.args.d c.field_at-kind.result c.args.work.now c.field_at-kind.ensures.result_value c.kind_bytes.ensures

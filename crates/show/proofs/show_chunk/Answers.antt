use Rattle.std.proofs.Common.{arith}
use Rattle.show.specs.Lines.{chunk-constant, chunk-array, chunk-lists, chunk-plain}
use Rattle.show.specs.Maps.{row-keyed, chunk-maps}
use Rattle.show.proofs.show_chunk.Goals as goal

pub put_maps-requires : goal.put_maps-requires
put_maps-requires c = (row-keyed c.requires c.in-20.is, (c.requires.types c.in-20.is).1)

pub returns-in-15 : goal.returns-in-15
returns-in-15 c = chunk-array c.in-15.is c.put_values.ensures

pub returns-in-20 : goal.returns-in-20
returns-in-20 c = chunk-maps c.in-20.is c.put_maps.ensures

pub returns-in-0-to-4 : goal.returns-in-0-to-4
returns-in-0-to-4 c = chunk-constant (omega arith) c.put_values-in-0-to-4.ensures

pub returns-in-17-to-19 : goal.returns-in-17-to-19
returns-in-17-to-19 c = chunk-lists (omega arith) (omega arith) c.put_lists.ensures

pub returns-in_default : goal.returns-in_default
returns-in_default c = chunk-plain (omega arith) (λ q. omega arith) (λ h. omega arith) (λ q. omega arith) c.put_singles.ensures

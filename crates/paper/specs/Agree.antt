-- The code's bounds are the definitions' bounds. Assumes nothing.
use Rattle.std.specs.Prelude.{◌≡◌}
use Rattle.paper.specs.Bounds.{most_bytes, most_pairs, most_strings, most_types, most_fields, most_objects, table_length, most_input, most_output}
use Rattle.paper.specs.declared.Bounds.{Bounds}

pub record Agree (b : Bounds) : Type 0 where
  pub bytes : b.bytes ≡ most_bytes
  pub pairs : b.pairs ≡ most_pairs
  pub strings : b.strings ≡ most_strings
  pub types : b.types ≡ most_types
  pub fields : b.fields ≡ most_fields
  pub objects : b.objects ≡ most_objects
  pub table : b.table ≡ table_length
  pub input : b.input ≡ most_input
  pub output : b.output ≡ most_output

-- "Bounds". Each bound itself is accepted and one more refused. Assumes nothing.
use Rattle.std.specs.Prelude.{ℕ}

abbrev pub most_bytes : ℕ
most_bytes = 1048576

abbrev pub most_pairs : ℕ
most_pairs = 32

abbrev pub most_strings : ℕ
most_strings = 1024

abbrev pub most_types : ℕ
most_types = 32

abbrev pub most_fields : ℕ
most_fields = 128

-- over all base pools; and no count of entries or objects, local start or array length is above it
abbrev pub most_objects : ℕ
most_objects = 65535

-- the numbers of a work table
abbrev pub table_length : ℕ
table_length = 16384

-- what the programs take and write
abbrev pub most_input : ℕ
most_input = 32768

abbrev pub most_output : ℕ
most_output = 65536

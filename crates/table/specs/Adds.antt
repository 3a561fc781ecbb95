-- What one row more makes of what the table says. Assumes nothing.
use Rattle.std.specs.Prelude.{ℕ, List, [], ◌∷◌, ◌++◌}
use Rattle.paper.specs.Ledger.{Typ, Field, Range, Due}
use Rattle.paper.specs.Places.{Spot}
use Rattle.table.specs.View.{Said}

unfoldable pub add_string : Said → List ℕ → Said
add_string s text =
    record {
      state =
          record {
            strings = s.state.strings ++ text ∷ [];
            type_names = s.state.type_names;
            types = s.state.types;
            field_names = s.state.field_names;
            fields = s.state.fields;
            log = s.state.log;
            block = s.state.block;
          };
      due = s.due;
      chunks = s.chunks;
    }

unfoldable pub add_type : Said → List ℕ → Typ → Said
add_type s name t =
    record {
      state =
          record {
            strings = s.state.strings;
            type_names = s.state.type_names ++ name ∷ [];
            types = s.state.types ++ t ∷ [];
            field_names = s.state.field_names;
            fields = s.state.fields;
            log = s.state.log;
            block = s.state.block;
          };
      due = s.due;
      chunks = s.chunks;
    }

unfoldable pub add_field : Said → List ℕ → Field → Said
add_field s name d =
    record {
      state =
          record {
            strings = s.state.strings;
            type_names = s.state.type_names;
            types = s.state.types;
            field_names = s.state.field_names ++ name ∷ [];
            fields = s.state.fields ++ d ∷ [];
            log = s.state.log;
            block = s.state.block;
          };
      due = s.due;
      chunks = s.chunks;
    }

unfoldable pub add_range : Said → Range → Said
add_range s r =
    record {
      state =
          record {
            strings = s.state.strings;
            type_names = s.state.type_names;
            types = s.state.types;
            field_names = s.state.field_names;
            fields = s.state.fields;
            log = s.state.log ++ r ∷ [];
            block = s.state.block;
          };
      due = s.due;
      chunks = s.chunks;
    }

-- a chunk that is due, and its size
unfoldable pub add_due : Said → Due → ℕ → Said
add_due s d size = record { state = s.state; due = s.due ++ (d, size) ∷ []; chunks = s.chunks }

unfoldable pub add_chunk : Said → Spot → Said
add_chunk s p = record { state = s.state; due = s.due; chunks = s.chunks ++ p ∷ [] }

-- What the table's answers say. Assumes nothing.
use Rattle.std.specs.Prelude.{◌≡◌, ℕ, ◌<◌, ◌≤◌, List, [], length, drop, slice_index_or}
use Rattle.std.proofs.Math.Seq.{slice}
use Rattle.paper.specs.Lists.{places}
use Rattle.paper.specs.Ledger.{Typ, Field, Range, Due, owns?}
use Rattle.paper.specs.Places.{Spot}
use Rattle.table.specs.View.{maybe, kind_from, strs_of, names_of, sum_of, Memo, Holds}
use Rattle.table.specs.declared.rows.TypeRow.{TypeRow}
use Rattle.table.specs.declared.rows.FieldRow.{FieldRow}
use Rattle.table.specs.declared.rows.RangeRow.{RangeRow}
use Rattle.table.specs.declared.rows.DueRow.{DueRow}
use Rattle.table.specs.declared.rows.ChunkRow.{ChunkRow}
use Rattle.table.specs.declared.rows.Stretch.{Stretch}

-- text i of a list (of strings, of types' or of fields' names) stands at a part of whatever source the table is read over
pub record Stands (texts : List ℕ → List ℕ → List (List ℕ)) (l : List ℕ) (i start end : ℕ) : Type 0 where
  pub is : (f : List ℕ) → slice_index_or (texts f l) i [] ≡ slice start end f
  pub within : (f : List ℕ) → Holds f l → end ≤ length f

-- the same of a type's or a field's name, with its sum
pub record Named (texts : List ℕ → List ℕ → List (List ℕ)) (l : List ℕ) (i start end sum : ℕ) : Type 0 where
  pub is : (f : List ℕ) → slice_index_or (texts f l) i [] ≡ slice start end f
  pub within : (f : List ℕ) → Holds f l → end ≤ length f
  pub sums : (f : List ℕ) → Holds f l → sum ≡ sum_of (slice start end f)

-- what m says of string i as a type's name is true
pub record Remembered (l : List ℕ) (i m : ℕ) : Type 0 where
  pub is : (f : List ℕ) → Holds f l → Memo (names_of f l) (slice_index_or (strs_of f l) i []) m

abbrev pub typ_in : TypeRow → Typ
typ_in r = record { super = maybe r.sup; base = r.base }

abbrev pub field_in : FieldRow → Field
field_in r = record { owner = r.owner; kind = kind_from r.kind r.a r.e }

abbrev pub range_in : RangeRow → Range
range_in r = record { type = r.typ; block = r.block; start = r.start; first = r.first; count = r.count }

unfoldable pub no_range : Range
no_range = record { type = 0; block = 0; start = 0; first = 0; count = 0 }

-- what a range's packed row can hold
pub record Small (r : RangeRow) : Type 0 where
  pub typ-fits : r.typ < 32
  pub block-fits : r.block < 32768
  pub start_fits : r.start < 65536
  pub count_fits : r.count < 65536

abbrev pub due_in : DueRow → Due × ℕ
due_in r = (record { field = r.field; values = r.values }, r.size)

unfoldable pub no_due : Due × ℕ
no_due = (record { field = 0; values = 0 }, 0)

abbrev pub spot_in : ChunkRow → Spot
spot_in r = record { field = r.field; start = r.start; end = r.end }

unfoldable pub no_spot : Spot
no_spot = record { field = 0; start = 0; end = 0 }

-- what a chunk's packed row can hold
pub record Near (r : ChunkRow) : Type 0 where
  pub field_fits : r.field < 128
  pub start_fits : r.start < 33554432

-- none of the fields before the stretch is of type t, and none behind it
pub record Stretched (t : ℕ) (flds : List Field) (r : Stretch) : Type 0 where
  pub forward : r.from ≤ r.to
  pub inside : r.to ≤ length flds
  pub before : places (owns? t) 0 flds ≡ places (owns? t) r.from (drop r.from flds)
  pub behind : places (owns? t) r.to (drop r.to flds) ≡ []

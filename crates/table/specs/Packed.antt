-- The cells of a row, and that they say what was put into them. Assumes nothing.
use Rattle.std.specs.Prelude.{◌≡◌, ℕ, ◌+◌, ◌*◌, ◌/◌, ◌%◌, ◌<◌, List, [], ◌∷◌}
use Rattle.std.proofs.Common.{ap, ◌∙◌, arith}
use Rattle.table.specs.View.{wide, kind_from, fld_of, range_of, due_of, spot_of}
use Rattle.table.specs.Answers.{field_in, range_in, Small}
use Rattle.table.specs.declared.rows.TypeRow.{TypeRow}
use Rattle.table.specs.declared.rows.FieldRow.{FieldRow}
use Rattle.table.specs.declared.rows.RangeRow.{RangeRow}

-- the halves of a number of two cells
abbrev pub lower : ℕ → ℕ
lower n = n % 4294967296

abbrev pub upper : ℕ → ℕ
upper n = n / 4294967296

abbrev pub type_cells : TypeRow → List ℕ
type_cells r = r.start ∷ r.end ∷ r.sup ∷ r.base ∷ r.sum ∷ []

-- seven cells of a field's row are not used
abbrev pub field_cells : FieldRow → List ℕ
field_cells r =
    r.start ∷ r.end ∷ r.owner ∷ r.kind ∷ lower r.a ∷ upper r.a ∷ lower r.e ∷ upper r.e ∷ r.sum ∷ 0 ∷ 0 ∷ 0 ∷ 0 ∷ 0 ∷ 0 ∷ 0 ∷ []

-- a range whose link is what 12 bits hold of k
abbrev pub range_cells : RangeRow → ℕ → List ℕ
range_cells r k = (r.typ + 32 * r.block + 1048576 * (k % 4096)) ∷ (r.start + 65536 * r.count) ∷ r.first ∷ []

abbrev pub due_cells : ℕ → ℕ → ℕ → List ℕ
due_cells field values size = field ∷ values ∷ lower size ∷ upper size ∷ []

abbrev pub chunk_cells : ℕ → ℕ → ℕ → List ℕ
chunk_cells field start end = (field + 128 * start) ∷ end ∷ []

pub halves : (n : ℕ) → wide (lower n) (upper n) ≡ n
halves n = omega arith

pub field-cells : (r : FieldRow) → fld_of (field_cells r) ≡ field_in r
field-cells r = λ i. record { owner = r.owner; kind = kind_from r.kind (halves r.a i) (halves r.e i) }

pub range-cells : (r : RangeRow) (k : ℕ) → Small r → range_of (range_cells r k) ≡ range_in r
range-cells r k small =
    let a : (r.typ + 32 * r.block + 1048576 * (k % 4096)) % 32 ≡ r.typ = omega arith in
    let above : (r.typ + 32 * r.block + 1048576 * (k % 4096)) / 32 ≡ r.block + 32768 * (k % 4096) = omega arith in
    let low : (r.block + 32768 * (k % 4096)) % 32768 ≡ r.block = omega arith in
    let b : (r.typ + 32 * r.block + 1048576 * (k % 4096)) / 32 % 32768 ≡ r.block = ap (λ (x : ℕ). x % 32768) above ∙ low in
    let d : (r.start + 65536 * r.count) % 65536 ≡ r.start = omega arith in
    let e : (r.start + 65536 * r.count) / 65536 ≡ r.count = omega arith in
    λ i. record { type = a i; block = b i; start = d i; first = r.first; count = e i }

pub due-cells : (field values size : ℕ) → due_of (due_cells field values size) ≡ (record { field = field; values = values }, size)
due-cells field values size = λ i. (record { field = field; values = values }, halves size i)

pub chunk-cells : (field start end : ℕ) → field < 128 → spot_of (chunk_cells field start end) ≡ record { field = field; start = start; end = end }
chunk-cells field start end small =
    let a : (field + 128 * start) % 128 ≡ field = omega arith in
    let b : (field + 128 * start) / 128 ≡ start = omega arith in
    λ i. record { field = a i; start = b i; end = end }

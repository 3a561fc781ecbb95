-- The type and the field that a question is about, as the table finds them. Assumes nothing.
use Rattle.std.specs.Prelude as prelude
use Rattle.std.specs.Prelude.{None, Some, ◌≡◌, Bool, false, ◌&&◌, List, ℕ, ◌≤◌, ◌<◌, eqb, length, get_or}
use Rattle.std.proofs.Math.Path.{sym, ap, subst}
use Rattle.std.proofs.Common.{◌∙◌, arith}
use Rattle.std.proofs.Math.Bool.{true}
use Rattle.std.proofs.Math.Option.{none, some}
use Rattle.std.proofs.Math.Dec.{leb}
use borrow.Author.Tests.{leb-true, eqb-true}
use Rattle.paper.specs.Lists.{total, same, place, place_named}
use Rattle.paper.specs.Ledger.{Field, no_field, type_named, field_named, field_at, called?, of?, size, objects_of}
use Rattle.paper.specs.Calls.{done, refused, sought, asked}
use Rattle.laws.specs.Bools.{and_split}
use Rattle.laws.specs.Columns.{named-found}
use Rattle.laws.specs.Asked.{Asks}
use Rattle.table.specs.View.{kind_from, names_of, titles_of, flds_of, log_of, view}
use Rattle.table.specs.Answers.{field_in}
use Rattle.table.specs.Asks.{found}
use Rattle.table.specs.declared.rows.FieldRow.{FieldRow}
use Rattle.calls.specs.Told.{values_of, values-some, sought-18}
use Rattle.calls.specs.declared.asks.Wanted.{Wanted}

-- ── what is found ──

-- the table has what is asked for: a field of a type, its row, and as many objects of the type
pub record Here (f l type field : List ℕ) (k : ℕ) (w : Wanted) : Type 0 where
  pub t : ℕ
  pub asks : Asks (view f l) type field k t w.at
  pub row_is : field_in w.row ≡ get_or (flds_of l) w.at no_field
  pub count-is : objects_of (view f l) t ≡ w.objects

pub counted-here : {f l type field : List ℕ} {k : ℕ} {w : Wanted} → Here f l type field k w → done w.objects ≡ values_of (view f l) type field k
counted-here {f} {l} {type} {field} {k} H = values-some (view f l) type field k H.asks (sym H.count-is)

-- ── what the table's lookups find ──

module _ (f l : List ℕ) (type : List ℕ) (a : prelude.Option ℕ) (A : found a ≡ place (same type) 0 (names_of f l)) where
  pub no-type : a ≡ None → type_named (view f l) type ≡ none
  unfolding type_named
  no-type is = sym A ∙ ap found is

  pub a-type : {t : ℕ} → a ≡ Some t → type_named (view f l) type ≡ some t
  unfolding type_named
  a-type is = sym A ∙ ap found is

module _ (f l : List ℕ) (t : ℕ) (field : List ℕ) (b : prelude.Option ℕ) (B : found b ≡ place_named (called? t field) 0 (flds_of l) (titles_of f l)) where
  pub no-field : b ≡ None → field_named (view f l) t field ≡ none
  unfolding field_named
  no-field is = sym B ∙ ap found is

  pub a-field : {i : ℕ} → b ≡ Some i → field_named (view f l) t field ≡ some i
  unfolding field_named
  a-field is = sym B ∙ ap found is

-- a field that is found is declared
pub declared : (f l : List ℕ) (t : ℕ) (field : List ℕ) {i : ℕ} → field_named (view f l) t field ≡ some i → i < length (flds_of l)
unfolding field_named
declared f l t field {i} h =
    let (j, at, lt, _) = named-found (called? t field) no_field 0 i (flds_of l) (titles_of f l) h in
    omega arith

-- ── the ways out ──

-- whether a column of the row's kind is asked for
abbrev pub asks_for : ℕ → FieldRow → Bool
asks_for k row = eqb k (asked (kind_from row.kind row.a row.e)) && leb k 32

module _
    (f l type field : List ℕ)
    (k : ℕ)
    {t i : ℕ}
    (h : type_named (view f l) type ≡ some t)
    (h₁ : field_named (view f l) t field ≡ some i)
    (row : FieldRow)
    (row_is : field_in row ≡ get_or (flds_of l) i no_field)
  where
    asks-is : (x : Bool) → asks_for k row ≡ x → (eqb k (asked (field_at (view f l) i).kind) && leb k 32) ≡ x
    unfolding field_at
    asks-is x e = subst (λ (d : Field). (eqb k (asked d.kind) && leb k 32) ≡ x) row_is e

    pub other-kind : asks_for k row ≡ false → sought type field k (view f l) ≡ refused 18
    other-kind e = sought-18 (view f l) type field k h h₁ (asks-is false e)

    pub all_there : {n : ℕ} → asks_for k row ≡ true → n ≡ total (of? t) size (log_of l) → Here f l type field k (record { at = i; row = row; objects = n })
    unfolding objects_of
    all_there e count =
        let (a, b) = and_split (eqb k (asked (field_at (view f l) i).kind)) (leb k 32) (asks-is true e) in
        record { t = t; asks = record { typed = h; fielded = h₁; kind = eqb-true k _ a; given = leb-true k 32 b }; row_is = row_is; count-is = sym count }

-- what was found has a column
pub has-column : {f l type field : List ℕ} {k : ℕ} {w : Wanted} → Here f l type field k w → asked (kind_from w.row.kind w.row.a w.row.e) ≤ 32
unfolding field_at
has-column {w = w} H = subst (λ (d : Field). asked d.kind ≤ 32) (sym H.row_is) (rw (← H.asks.kind) H.asks.given)

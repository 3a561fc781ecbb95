-- The rows of a new field, for which there is room. Assumes nothing.
use Rattle.std.specs.Prelude.{◌≡◌, List, [], ℕ, ◌+◌, ◌-◌, ◌<◌, get_or}
use Rattle.std.proofs.Math.Path.{refl, sym, ap}
use Rattle.std.proofs.Common.{◌∙◌, le_refl}
use native.Mathlib.Omega.{arith}
use Rattle.std.proofs.Math.ListN.{length}
use Rattle.std.proofs.Math.Seq.{slice}
use Rattle.paper.specs.Ledger.{Kind, plain, New, text}
use Rattle.paper.specs.Rules.{noted, after_new, values_due}
use Rattle.laws.specs.Count.{noted-due}
use Rattle.table.specs.View.{strs_of, flds_of, dues_of, view, sum_of, Holds, Said, said, Now, fields_in, dues_in}
use Rattle.table.specs.Answers.{Stands, field_in}
use Rattle.table.specs.Adds.{add_field, add_due}
use Rattle.table.specs.Packed.{field_cells, due_cells}
use Rattle.table.specs.Pushes.{Pushed}
use Rattle.table.specs.ViewLaws.{pushed-field, pushed-due}
use Rattle.table.specs.declared.rows.FieldRow.{FieldRow}
use Rattle.reader.specs.declared.kinds.Kind.{Kind as KindRow}
use Rattle.reader.specs.Kinds.{kind_in}
use Rattle.reader.specs.Sound.{Open, Fielded, old-room, due-added, field-added, new-owner, new-below}
use Rattle.reader.specs.Fields.{add_new, FieldAdded}

-- ── the rows ──

-- of type t and of kind k, with a name that stands from `start` to `end` and its sum
abbrev pub row_of : ℕ → KindRow → ℕ → ℕ → ℕ → FieldRow
row_of t k start end sum = record { start = start; end = end; owner = t; kind = k.first; a = k.bits; e = k.last; sum = sum }

module _ {f l : List ℕ} (h : Holds f l) (room : fields_in l < 128) (due-room : dues_in l < 128) (t n name : ℕ) (k : KindRow) (size : ℕ) {start end sum i v : ℕ} {l₁ l₂ : List ℕ} (stands : Stands strs_of l (name - 1) start end) (sums : sum ≡ sum_of (get_or (strs_of f l) (name - 1) [])) (i-is : i ≡ fields_in l) (p : Pushed 2 2224 16 (field_cells (row_of t k start end sum)) l l₁) (v-is : v ≡ values_due (kind_in k) n) (q : Pushed 4 7344 4 (due_cells i v size) l₁ l₂) where
  rows_are :
      (x : Kind) → noted x ≡ kind_in k
      → add_due (add_field (said f l) (slice start end f) (field_in (row_of t k start end sum))) (record { field = i; values = v }) size
      ≡ add_new t n (said f l) (record { kind = x; name = name }) size
  unfolding add_due add_field add_new after_new text
  rows_are x kept =
      let j : i ≡ length (flds_of l) = i-is ∙ sym h.ok.flds-count in
      let due : v ≡ values_due x n = v-is ∙ ap (λ (y : Kind). values_due y n) (sym kept) ∙ noted-due x n in
      rw (j, due, kept, stands.is f) refl

  pub field-added-by : FieldAdded f t n name k size l l₂
  field-added-by =
      let more_room : dues_in l₁ < 128 = omega (arith, p.dues) in
      record {
        says = λ x kept.
            let first = pushed-field h (row_of t k start end sum) room (stands.within f h) (sums ∙ ap sum_of (stands.is f)) p.push in
            let last = pushed-due first.holds i v size more_room q.push in
            record { holds = last.holds; says = last.says ∙ ap (λ (s : Said). add_due s (record { field = i; values = v }) size) first.says ∙ rows_are x kept };
      }

-- ── there is room, and the table stays as it must ──

module _ {f l : List ℕ} (h : Holds f l) {t i : ℕ} (o : Open (said f l) t i) (room : fields_in l < 128) where
  few : length (flds_of l) < 128
  few = omega (arith, h.ok.flds-count)

  with-field : (x : New) → Said
  with-field x = record { state = after_new t (view f l) x; due = dues_of l; chunks = (said f l).chunks }

  fielded : (x : New) → Fielded (view f l) (with-field x).state (record { owner = t; kind = noted x.kind })
  unfolding with-field after_new
  fielded x = record { fields = refl; type_names = refl; log = refl; block = refl }

  open-field : (x : New) → Open (with-field x) t (length (flds_of l))
  unfolding with-field
  open-field x = field-added {g = said f l} {g' = with-field x} o few refl (fielded x) refl refl

  -- no chunk of the new field is due yet
  pub new-has-room : dues_in l < 128
  unfolding with-field
  new-has-room =
      let x : New = record { kind = plain 0; name = 0 } in
      omega (
        arith,
        h.ok.dues-count,
        old-room (open-field x) (length (flds_of l)) (le_refl _) (new-below {g = said f l} {g' = with-field x} o few refl (fielded x) refl refl) (new-owner {g = said f l} {g' = with-field x} o few refl (fielded x) refl refl),
      )

  -- its chunk is due now
  pub open-due : {l' : List ℕ} (n size : ℕ) (x : New) → Now f l' (add_new t n (said f l) x size) → Open (said f l') t (length (flds_of l) + 1)
  unfolding with-field add_new
  open-due {l'} n size x now =
      due-added {g = with-field x} {g' = said f l'} (open-field x) (length (flds_of l)) (le_refl _)
      (new-below {g = said f l} {g' = with-field x} o few refl (fielded x) refl refl)
      (new-owner {g = said f l} {g' = with-field x} o few refl (fielded x) refl refl)
      (record { field = length (flds_of l); values = values_due x.kind n }, size) refl
      (ap (λ (s : Said). s.state) now.says) (ap (λ (s : Said). s.due) now.says) (ap (λ (s : Said). s.chunks) now.says)

-- Rows of the view's lists, by the cells that are read for them. Assumes nothing.
use Rattle.std.specs.Prelude.{◌≡◌, ℕ, suc, ◌+◌, ◌*◌, ◌/◌, ◌%◌, ◌<◌, ◌≤◌, List, [], length, get_or, slice_index, slice_index_or, refl}
use Rattle.std.proofs.Math.Path.{sym, ap}
use Rattle.std.proofs.Common.{◌∙◌, arith}
use Rattle.std.proofs.Math.Option.{none}
use Rattle.std.proofs.Math.Numerals.{add-one, towards_suc}
use Rattle.std.proofs.Math.ListN.{get_or-eq_default}
use Rattle.paper.specs.Ledger.{Typ, no_type, no_field, type_in}
use Rattle.table.specs.Segs.{seg, cells, Each}
use Rattle.table.specs.RowLaws.{seg-at}
use Rattle.table.specs.View.{maybe, wide, kind_from, text_of, string_of, typ_of, fld_of, range_of, due_of, spot_of, strs_of, names_of, types_of, titles_of, flds_of, log_of, dues_of, chunks_of, Within, Holds}
use Rattle.table.specs.ViewLaws.{count-strs, count-names, count-titles, count-types, count-flds, count-log, count-dues, count-chunks}
use Rattle.table.specs.Answers.{Stands, Remembered, Named, no_range, no_due, no_spot}

-- the texts of a kind of rows begin with a first byte and an end
module _ (k base w : ℕ) (texts : List ℕ → List ℕ → List (List ℕ)) (l : List ℕ) (i : ℕ) (lt : i < slice_index l k) where
  abbrev row : ℕ
  row = base + suc (suc w) * i

  stands_of : ((f : List ℕ) → texts f l ≡ seg (text_of f) k base (suc (suc w)) l) → ((f : List ℕ) → length (texts f l) ≡ slice_index l k) → ((f : List ℕ) → Holds f l → Each (Within f k) k base (suc (suc w)) l) → Stands texts l i (slice_index l row) (slice_index l (row + 1))
  unfolding cells
  stands_of are count within =
      record {
        is = λ f.
            ap (λ (ts : List (List ℕ)). get_or ts i []) (are f)
            ∙ seg-at (text_of f) k base (suc (suc w)) l i [] (rw (← are f) (omega (arith, count f)))
            ∙ rw add-one refl;
        within = λ f h. rw add-one ((within f h).row i lt).inside;
      }

module _ (l : List ℕ) (i : ℕ) where
  string-is : (f : List ℕ) → i < slice_index l 0 → slice_index_or (strs_of f l) i [] ≡ string_of f (cells l (16 + 2 * i) 2)
  unfolding strs_of
  string-is f lt = seg-at (string_of f) 0 16 2 l i [] (omega (arith, count-strs f l))

  pub string-stands : i < slice_index l 0 → Stands strs_of l i (slice_index l (16 + 2 * i) % 66000000) (slice_index l (16 + 2 * i + 1))
  unfolding cells
  string-stands lt =
      record { is = λ f. string-is f lt ∙ rw add-one refl; within = λ f h. rw add-one (h.strs-in.row i lt).inside }

  -- what is noted of it
  pub string-noted : i < slice_index l 0 → {m : ℕ} → slice_index l 8 ≡ 1 → m ≡ slice_index l (16 + 2 * i) / 66000000 → Remembered l i m
  unfolding cells
  string-noted lt on is =
      record { is = λ f h. rw (is, string-is f lt) ((h.noting.rows on).row i lt).memo }

  pub name-stands : i < slice_index l 1 → Named names_of l i (slice_index l (2064 + 5 * i)) (slice_index l (2064 + 5 * i + 1)) (slice_index l (2064 + 5 * i + 4))
  unfolding names_of cells
  name-stands lt =
      let stands = stands_of 1 2064 3 names_of l i lt (λ f. refl) (λ f. count-names f l) (λ f h. h.names_in) in
      record { is = stands.is; within = stands.within; sums = λ f h. simp towards_suc ((h.names_in.row i lt).sum (omega arith)) }

  pub title-stands : i < slice_index l 2 → Named titles_of l i (slice_index l (2224 + 16 * i)) (slice_index l (2224 + 16 * i + 1)) (slice_index l (2224 + 16 * i + 8))
  unfolding titles_of cells
  title-stands lt =
      let stands = stands_of 2 2224 14 titles_of l i lt (λ f. refl) (λ f. count-titles f l) (λ f h. h.titles-in) in
      record { is = stands.is; within = stands.within; sums = λ f h. simp towards_suc ((h.titles-in.row i lt).sum (omega arith)) }

  pub type_row : i < slice_index l 1 → record { super = maybe (slice_index l (2064 + 5 * i + 2)); base = slice_index l (2064 + 5 * i + 3) } ≡ slice_index_or (types_of l) i no_type
  unfolding types_of cells
  type_row lt = simp towards_suc (sym (seg-at typ_of 1 2064 5 l i no_type (omega (arith, count-types l))))

  pub field_row : i < slice_index l 2 → {a e : ℕ} → a ≡ wide (slice_index l (2224 + 16 * i + 4)) (slice_index l (2224 + 16 * i + 4 + 1)) → e ≡ wide (slice_index l (2224 + 16 * i + 6)) (slice_index l (2224 + 16 * i + 6 + 1)) → record { owner = slice_index l (2224 + 16 * i + 2); kind = kind_from (slice_index l (2224 + 16 * i + 3)) a e } ≡ slice_index_or (flds_of l) i no_field
  unfolding flds_of cells
  field_row lt p q = rw (p, q) (simp towards_suc (sym (seg-at fld_of 2 2224 16 l i no_field (omega (arith, count-flds l)))))

  pub range-row : i < slice_index l 3 → record { type = slice_index l (4272 + 3 * i) % 32; block = slice_index l (4272 + 3 * i) / 32 % 32768; start = slice_index l (4272 + 3 * i + 1) % 65536; first = slice_index l (4272 + 3 * i + 2); count = slice_index l (4272 + 3 * i + 1) / 65536 } ≡ slice_index_or (log_of l) i no_range
  unfolding log_of cells
  range-row lt = simp towards_suc (sym (seg-at range_of 3 4272 3 l i no_range (omega (arith, count-log l))))

  pub due-row : i < slice_index l 4 → {size : ℕ} → size ≡ wide (slice_index l (7344 + 4 * i + 2)) (slice_index l (7344 + 4 * i + 2 + 1)) → (record { field = slice_index l (7344 + 4 * i); values = slice_index l (7344 + 4 * i + 1) }, size) ≡ slice_index_or (dues_of l) i no_due
  unfolding dues_of cells
  due-row lt p = rw p (simp towards_suc (sym (seg-at due_of 4 7344 4 l i no_due (omega (arith, count-dues l)))))

  pub chunk_row : i < slice_index l 5 → record { field = slice_index l (7856 + 2 * i) % 128; start = slice_index l (7856 + 2 * i) / 128; end = slice_index l (7856 + 2 * i + 1) } ≡ slice_index_or (chunks_of l) i no_spot
  unfolding chunks_of cells
  chunk_row lt = simp towards_suc (sym (seg-at spot_of 5 7856 2 l i no_spot (omega (arith, count-chunks l))))

-- what stands for a type where there is none
module _ (l : List ℕ) (t : ℕ) (le : get_or l 1 0 ≤ t) where
  no_row : type_in (types_of l) t ≡ no_type
  unfolding type_in
  no_row = get_or-eq_default (types_of l) no_type (omega (arith, count-types l))

  pub no-super : none ≡ (type_in (types_of l) t).super
  unfolding no_type
  no-super = sym (ap (λ (x : Typ). x.super) no_row)

  pub no-base : 0 ≡ (type_in (types_of l) t).base
  unfolding no_type
  no-base = sym (ap (λ (x : Typ). x.base) no_row)

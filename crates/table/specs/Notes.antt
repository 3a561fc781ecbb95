-- What a string names, noted in its row once it is known: the table says what it said. Assumes nothing.
use Rattle.std.specs.Prelude.{◌≡◌, ℕ, suc, ◌+◌, ◌*◌, ◌/◌, ◌%◌, ◌<◌, ◌≤◌, ◌≢◌, List, [], length, get_or, slice_index, slice_index_or, slice_set}
use Rattle.std.proofs.Math.Path.{sym, ap, ap₂, subst}
use Rattle.std.proofs.Common.{◌∙◌, ⊎_elim, arith, length-set, get_or-set_same, get_or-set_other}
use Rattle.std.proofs.Math.Seq.{slice}
use Rattle.paper.specs.Ledger.{Typ, Field, Range}
use Rattle.table.specs.Segs.{tab, cells, seg, Each}
use Rattle.table.specs.RowLaws.{same_or_not, tab-cong, cells-cong, seg-at, seg-kept, each-kept}
use Rattle.table.specs.Layout.{width, most, starts, starts-le}
use Rattle.table.specs.View.{text_of, string_of, typ_of, fld_of, range_of, due_of, spot_of, strs_of, names_of, types_of, titles_of, flds_of, log_of, dues_of, chunks_of, said, tally, Telling, Owning, Ok, Within, Holds, Now, Apart, Memo, Recalls, Noting}
use Rattle.table.specs.ViewLaws.{count-strs, Fits, ok-fits, ok_of, In, holds_of, holds-in}
use Rattle.table.specs.Told.{Told, Owned}

pub record NoteTaken (i m : ℕ) (l l' : List ℕ) : Type 0 where
  pub ok : Ok l'
  pub long : length l' ≡ length l
  pub counts : (k : ℕ) → k < 16 → slice_index l' k ≡ slice_index l k
  pub says : (f : List ℕ) → Holds f l → Memo (names_of f l) (slice_index_or (strs_of f l) i []) m → Now f l' (said f l)

-- one cell of the row is stored
module _ (i m : ℕ) {l l' : List ℕ} (ok : Ok l) (lt : i < slice_index l 0) (is : l' ≡ slice_set l (16 + 2 * i) (slice_index l (16 + 2 * i) % 66000000 + 66000000 * m)) where
  abbrev new : ℕ
  new = slice_index l (16 + 2 * i) % 66000000 + 66000000 * m

  other : (j : ℕ) → j ≢ 16 + 2 * i → slice_index l' j ≡ slice_index l j
  other j ne = rw is (get_or-set_other l (16 + 2 * i) j new 0 ne)

  stored : get_or l' (16 + 2 * i) 0 ≡ new
  stored = rw is (get_or-set_same l (16 + 2 * i) new 0 (omega (arith, ok.long, ok.strs-fit)))

  long_kept : length l' ≡ length l
  long_kept = ap length is ∙ length-set l (16 + 2 * i) new

  -- no other kind's rows are reached
  rows_same : (k : ℕ) → 0 < k → (j : ℕ) → starts k ≤ j → j < starts k + width k * slice_index l k → slice_index l' j ≡ slice_index l j
  unfolding starts width most
  rows_same k some j a b = other j (λ e. omega (arith, starts-le 1 k some, ok.strs-fit))

  count_kept : (k : ℕ) → k < 16 → slice_index l' k ≡ slice_index l k
  count_kept k low = other k (λ e. omega arith)

  kept : {A : Type 0} (of : List ℕ → A) (k : ℕ) → k < 6 → 0 < k → seg of k (starts k) (width k) l' ≡ seg of k (starts k) (width k) l
  kept of k few some = seg-kept k (starts k) (width k) l l' (rows_same k some) of (count_kept k (omega arith))

  in_kept : (f : List ℕ) (k : ℕ) → k < 3 → 0 < k → In f l k → In f l' k
  in_kept f k few some all = each-kept k (starts k) (width k) l l' (rows_same k some) (Within f k) (count_kept k (omega arith)) all

  fits_kept : Fits l'
  fits_kept k few = omega (arith, count_kept k (omega arith), ok-fits ok k few)

  tallies-kept : tally l' ≡ tally l
  tallies-kept = λ j t k. other (16048 + 8 * t + k) (λ e. omega (arith, ok.strs-fit)) j

  telling-kept : Telling l'
  unfolding starts width most types_of log_of
  telling-kept on =
      subst (λ (x : (ℕ → ℕ → ℕ) × (List Typ × List Range)). Told x.0 x.1.0 x.1.1)
      (λ j. (sym tallies-kept j, (sym (kept typ_of 1 (omega arith) (omega arith)) j, sym (kept range_of 3 (omega arith) (omega arith)) j)))
      (ok.telling (sym (count_kept 7 (omega arith)) ∙ on))

  owning-kept : Owning l'
  unfolding starts width most flds_of
  owning-kept on =
      subst (λ (x : (ℕ → ℕ → ℕ) × List Field). Owned x.0 x.1) (λ j. (sym tallies-kept j, sym (kept fld_of 2 (omega arith) (omega arith)) j)) (ok.owning (sym (count_kept 7 (omega arith)) ∙ on))

  ok-kept : Ok l'
  ok-kept = ok_of (long_kept ∙ ok.long) fits_kept telling-kept owning-kept

  -- ── the strings ──

  first-same : (j : ℕ) → slice_index l' (16 + 2 * j) % 66000000 ≡ slice_index l (16 + 2 * j) % 66000000
  first-same j =
      ⊎_elim
      (λ (e : j ≡ i). rw e (omega (arith, stored)))
      (λ (ne : j ≢ i). ap (λ (x : ℕ). x % 66000000) (other (16 + 2 * j) (λ q. ne (omega arith))))
      (same_or_not j i)

  end_same : (j : ℕ) → slice_index l' (suc (16 + 2 * j)) ≡ slice_index l (suc (16 + 2 * j))
  end_same j = other (suc (16 + 2 * j)) (λ q. omega arith)

  string-same : (f : List ℕ) (j : ℕ) → string_of f (cells l' (16 + 2 * j) 2) ≡ string_of f (cells l (16 + 2 * j) 2)
  unfolding cells
  string-same f j = ap₂ (λ (a b : ℕ). slice a b f) (first-same j) (end_same j)

  strings-same : (f : List ℕ) → strs_of f l' ≡ strs_of f l
  unfolding strs_of seg
  strings-same f =
      ap (λ (n : ℕ). tab n (λ j. string_of f (cells l' (16 + 2 * j) 2))) (count_kept 0 (omega arith))
      ∙ tab-cong (slice_index l 0) (λ j. string_of f (cells l' (16 + 2 * j) 2)) (λ j. string_of f (cells l (16 + 2 * j) 2)) (λ j few. string-same f j)

  within-kept : (f : List ℕ) → Each (Within f 0) 0 16 2 l → Each (Within f 0) 0 16 2 l'
  unfolding cells
  within-kept f all =
      record {
        row = λ j few. record {
          inside = omega (arith, end_same j, (all.row j (omega (arith, count_kept 0 (omega arith)))).inside);
          sum = λ some. absurd (omega arith);
        };
      }

  module _ (f : List ℕ) (names : List (List ℕ)) (memo : Memo names (slice_index_or (strs_of f l) i []) m) where
    mine : Recalls f names (cells l' (16 + 2 * i) 2)
    unfolding strs_of cells
    mine =
        let text : get_or (strs_of f l) i [] ≡ string_of f (cells l' (16 + 2 * i) 2) = seg-at (string_of f) 0 16 2 l i [] (omega (arith, count-strs f l)) ∙ sym (string-same f i) in
        let value : m ≡ slice_index l' (16 + 2 * i) / 66000000 = omega (arith, stored) in
        record { memo = subst (λ (x : List ℕ × ℕ). Memo names x.0 x.1) (λ j. (text j, value j)) memo }

    rows-noted : Each (Recalls f names) 0 16 2 l → Each (Recalls f names) 0 16 2 l'
    rows-noted all =
        record {
          row = λ j few. ⊎_elim
              (λ (e : j ≡ i). subst (λ (k : ℕ). Recalls f names (cells l' (16 + 2 * k) 2)) (sym e) mine)
              (λ (ne : j ≢ i).
              subst (Recalls f names) (sym (cells-cong l l' (16 + 2 * j) 2 (λ k a b. other k (λ q. ne (omega arith))))) (all.row j (omega (arith, count_kept 0 (omega arith)))))
              (same_or_not j i);
        }

  noted : (f : List ℕ) → Noting f l → Memo (names_of f l) (slice_index_or (strs_of f l) i []) m → Noting f l'
  unfolding starts width most names_of
  noted f w memo =
      record {
        rows = λ on.
            subst (λ (x : List (List ℕ)). Each (Recalls f x) 0 16 2 l') (sym (kept (text_of f) 1 (omega arith) (omega arith)))
            (rows-noted f (names_of f l) memo (w.rows (sym (count_kept 8 (omega arith)) ∙ on)));
      }

  pub note-taken : NoteTaken i m l l'
  unfolding starts width most names_of types_of titles_of flds_of log_of dues_of chunks_of
  note-taken =
      record {
        ok = ok-kept;
        long = long_kept;
        counts = count_kept;
        says = λ f h memo. record {
          holds = holds_of ok-kept h.small
              (within-kept f h.strs-in)
              (in_kept f 1 (omega arith) (omega arith) (holds-in h 1 (omega arith)))
              (in_kept f 2 (omega arith) (omega arith) (holds-in h 2 (omega arith)))
              (subst Apart (sym (kept (text_of f) 1 (omega arith) (omega arith))) h.names_apart)
              (noted f h.noting memo);
          says = λ j. record {
            state = record {
              strings = strings-same f j;
              type_names = kept (text_of f) 1 (omega arith) (omega arith) j;
              types = kept typ_of 1 (omega arith) (omega arith) j;
              field_names = kept (text_of f) 2 (omega arith) (omega arith) j;
              fields = kept fld_of 2 (omega arith) (omega arith) j;
              log = kept range_of 3 (omega arith) (omega arith) j;
              block = count_kept 6 (omega arith) j;
            };
            due = kept due_of 4 (omega arith) (omega arith) j;
            chunks = kept spot_of 5 (omega arith) (omega arith) j;
          };
        };
      }

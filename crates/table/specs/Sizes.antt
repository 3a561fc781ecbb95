-- The size of a chunk that is due, put into its row once it is known. Assumes nothing.
use Rattle.std.specs.Prelude.{◌≡◌, ℕ, ◌+◌, ◌*◌, ◌<◌, ◌≤◌, ◌≢◌, List, [], ◌∷◌, length, get_or, slice_index, slice_index_or, slice_set, refl}
use Rattle.std.proofs.Math.Path.{sym, ap, subst}
use Rattle.std.proofs.Common.{◌∙◌, arith, length-set, get_or-set_same, get_or-set_other}
use Rattle.std.proofs.Math.Logic.{⊎_elim}
use Rattle.std.proofs.Math.Nat.{mul-le-mul_left}
use Rattle.std.proofs.Math.Numerals.{add-one}
use Rattle.std.proofs.lemmas.List.Edits.{sets}
use Rattle.std.proofs.Math.Seq.{length-sets, ext_get_or}
use Rattle.paper.specs.Ledger.{Due, Typ, Field, Range}
use Rattle.table.specs.Segs.{cells, seg, Each}
use Rattle.table.specs.RowLaws.{lt-or-ge, same_or_not, cells-cong, cells-sets, sets-other, seg-at, seg-kept, each-kept}
use Rattle.table.specs.Layout.{width, most, starts, kinds-apart}
use Rattle.table.specs.View.{wide, text_of, string_of, typ_of, fld_of, range_of, due_of, spot_of, strs_of, names_of, types_of, titles_of, flds_of, log_of, dues_of, chunks_of, view, tally, Telling, Owning, Ok, Within, Holds, Now, Apart, Recalls, Noting}
use Rattle.table.specs.ViewLaws.{count-dues, Fits, ok-fits, ok_of, In, holds_of, holds-in}
use Rattle.table.specs.RowReads.{due-row}
use Rattle.table.specs.Told.{Told, Owned}
use Rattle.table.specs.Answers.{no_due}
use Rattle.table.specs.Packed.{lower, upper, halves}

-- the i-th chunk has this size, and every other the one that it had
unfoldable pub resized : ℕ → ℕ → List (Due × ℕ) → List (Due × ℕ)
resized i size ds = slice_set ds i ((get_or ds i no_due).0, size)

pub record DueSized (i size : ℕ) (l l' : List ℕ) : Type 0 where
  pub ok : Ok l'
  pub long : length l' ≡ length l
  pub dues : get_or l' 4 0 ≡ slice_index l 4
  pub fields : get_or l' 2 0 ≡ slice_index l 2
  pub says : (f : List ℕ) → Holds f l → Now f l' (record { state = view f l; due = resized i size (dues_of l); chunks = chunks_of l })

-- two cells of the row are stored
module _ (i size : ℕ) {l l' : List ℕ} (ok : Ok l) (lt : i < slice_index l 4) (is : l' ≡ sets l (7344 + 4 * i + 2) (lower size ∷ upper size ∷ [])) where
  other : (j : ℕ) → (7344 + 4 * i + 2 ≤ j → 7344 + 4 * i + 4 ≤ j) → slice_index l' j ≡ slice_index l j
  other j apart = rw is (sets-other (lower size ∷ upper size ∷ []) l (7344 + 4 * i + 2) j (λ p. omega (arith, apart p)))

  long_kept : length l' ≡ length l
  long_kept = ap length is ∙ length-sets l (7344 + 4 * i + 2) (lower size ∷ upper size ∷ [])

  -- no other kind's rows are reached
  rows_same : (k : ℕ) → k < 6 → k ≢ 4 → (j : ℕ) → starts k ≤ j → j < starts k + width k * slice_index l k → slice_index l' j ≡ slice_index l j
  unfolding starts width most
  rows_same k few ne j a b =
      let within = mul-le-mul_left (width k) (ok-fits ok k few) in
      other j
      (λ r. ⊎_elim
      (λ (s : starts k < 7344 + 4 * i + 4). let t : starts k + width k * most k ≤ 7344 + 4 * i = kinds-apart k 4 i ne (omega (arith, ok.dues-fit)) s in omega arith)
      (λ (s : 7344 + 4 * i + 4 ≤ starts k). omega arith)
      (lt-or-ge (starts k) (7344 + 4 * i + 4)))

  count_kept : (k : ℕ) → k < 16 → slice_index l' k ≡ slice_index l k
  count_kept k low = other k (λ r. omega arith)

  kept : {A : Type 0} (of : List ℕ → A) (k : ℕ) → k < 6 → k ≢ 4 → seg of k (starts k) (width k) l' ≡ seg of k (starts k) (width k) l
  kept of k few ne = seg-kept k (starts k) (width k) l l' (rows_same k few ne) of (count_kept k (omega arith))

  in_kept : (f : List ℕ) (k : ℕ) → k < 3 → In f l k → In f l' k
  in_kept f k few all = each-kept k (starts k) (width k) l l' (rows_same k (omega arith) (omega arith)) (Within f k) (count_kept k (omega arith)) all

  fits_kept : Fits l'
  fits_kept k few = omega (arith, count_kept k (omega arith), ok-fits ok k few)

  tallies-kept : tally l' ≡ tally l
  tallies-kept = λ i t k. other (16048 + 8 * t + k) (λ r. omega (arith, ok.dues-fit)) i

  telling-kept : Telling l'
  unfolding starts width most types_of log_of
  telling-kept on =
      subst (λ (x : (ℕ → ℕ → ℕ) × (List Typ × List Range)). Told x.0 x.1.0 x.1.1)
      (λ j. (sym tallies-kept j, (sym (kept typ_of 1 (omega arith) (omega arith)) j, sym (kept range_of 3 (omega arith) (omega arith)) j)))
      (ok.telling (sym (count_kept 7 (omega arith)) ∙ on))

  owning-kept : Owning l'
  unfolding starts width most flds_of
  owning-kept on =
      subst (λ (x : (ℕ → ℕ → ℕ) × List Field). Owned x.0 x.1) (λ j. (sym tallies-kept j, sym (kept fld_of 2 (omega arith) (omega arith)) j)) (ok.owning (sym (count_kept 7 (omega arith)) ∙ on))

  ok-kept : Ok l'
  ok-kept = ok_of (long_kept ∙ ok.long) fits_kept telling-kept owning-kept

  noted-kept : (f : List ℕ) → Noting f l → Noting f l'
  unfolding starts width most names_of
  noted-kept f w =
      record {
        rows = λ on.
            subst (λ (x : List (List ℕ)). Each (Recalls f x) 0 16 2 l') (sym (kept (text_of f) 1 (omega arith) (omega arith)))
            (each-kept 0 16 2 l l' (rows_same 0 (omega arith) (omega arith)) (Recalls f (names_of f l)) (count_kept 0 (omega arith)) (w.rows (sym (count_kept 8 (omega arith)) ∙ on)));
      }

  -- the row itself
  stored : cells l' (7344 + 4 * i + 2) 2 ≡ lower size ∷ upper size ∷ []
  stored = ap (λ (t : List ℕ). cells t (7344 + 4 * i + 2) 2) is ∙ cells-sets (lower size ∷ upper size ∷ []) l (7344 + 4 * i + 2) (omega (arith, ok.long, ok.dues-fit))

  size-stored : size ≡ wide (slice_index l' (7344 + 4 * i + 2)) (slice_index l' (7344 + 4 * i + 2 + 1))
  unfolding cells
  size-stored =
      let lo : get_or l' (7344 + 4 * i + 2) 0 ≡ lower size = ap (λ (xs : List ℕ). slice_index xs 0) stored in
      let hi : get_or l' (7344 + 4 * i + 2 + 1) 0 ≡ upper size = rw add-one (ap (λ (xs : List ℕ). slice_index xs 1) stored) in
      omega (arith, lo, hi, halves size)

  row_sized : get_or (dues_of l') i no_due ≡ ((get_or (dues_of l) i no_due).0, size)
  row_sized =
      let first : get_or l' (7344 + 4 * i) 0 ≡ get_or l (7344 + 4 * i) 0 = other (7344 + 4 * i) (λ r. omega arith) in
      let second : get_or l' (7344 + 4 * i + 1) 0 ≡ get_or l (7344 + 4 * i + 1) 0 = other (7344 + 4 * i + 1) (λ r. omega arith) in
      let before : record { field = slice_index l (7344 + 4 * i); values = slice_index l (7344 + 4 * i + 1) } ≡ (get_or (dues_of l) i no_due).0 =
      ap (λ (d : Due × ℕ). d.0) (due-row l i lt refl) in
      sym (due-row l' i (omega (arith, count_kept 4 (omega arith))) size-stored)
      ∙ (λ k. (record { field = first k; values = second k }, size))
      ∙ ap (λ (d : Due). (d, size)) before

  row_other : (j : ℕ) → j < slice_index l 4 → j ≢ i → slice_index_or (dues_of l') j no_due ≡ slice_index_or (dues_of l) j no_due
  unfolding dues_of
  row_other j few ne =
      seg-at due_of 4 7344 4 l' j no_due (omega (arith, count-dues l', count_kept 4 (omega arith)))
      ∙ ap due_of (cells-cong l l' (7344 + 4 * j) 4 (λ m a b. other m (λ r. omega arith)))
      ∙ sym (seg-at due_of 4 7344 4 l j no_due (omega (arith, count-dues l)))

  dues-sized : dues_of l' ≡ resized i size (dues_of l)
  unfolding resized
  dues-sized =
      let here : i < length (dues_of l) = omega (arith, ok.dues-count) in
      ext_get_or no_due (dues_of l') (slice_set (dues_of l) i ((get_or (dues_of l) i no_due).0, size))
      (count-dues l' ∙ count_kept 4 (omega arith) ∙ sym (count-dues l) ∙ sym (length-set (dues_of l) i ((get_or (dues_of l) i no_due).0, size)))
      (λ j few.
      ⊎_elim
      (λ (e : j ≡ i). rw e (row_sized ∙ sym (get_or-set_same (dues_of l) i ((get_or (dues_of l) i no_due).0, size) no_due here)))
      (λ (ne : j ≢ i).
      row_other j (omega (arith, count-dues l', count_kept 4 (omega arith))) ne
      ∙ sym (get_or-set_other (dues_of l) i j ((get_or (dues_of l) i no_due).0, size) no_due ne))
      (same_or_not j i))

  pub due-sized : DueSized i size l l'
  unfolding starts width most strs_of names_of types_of titles_of flds_of log_of chunks_of
  due-sized =
      record {
        ok = ok-kept;
        long = long_kept;
        dues = count_kept 4 (omega arith);
        fields = count_kept 2 (omega arith);
        says = λ f h. record {
          holds = holds_of ok-kept h.small
              (in_kept f 0 (omega arith) (holds-in h 0 (omega arith)))
              (in_kept f 1 (omega arith) (holds-in h 1 (omega arith)))
              (in_kept f 2 (omega arith) (holds-in h 2 (omega arith)))
              (subst Apart (sym (kept (text_of f) 1 (omega arith) (omega arith))) h.names_apart)
              (noted-kept f h.noting);
          says = λ j. record {
            state = record {
              strings = kept (string_of f) 0 (omega arith) (omega arith) j;
              type_names = kept (text_of f) 1 (omega arith) (omega arith) j;
              types = kept typ_of 1 (omega arith) (omega arith) j;
              field_names = kept (text_of f) 2 (omega arith) (omega arith) j;
              fields = kept fld_of 2 (omega arith) (omega arith) j;
              log = kept range_of 3 (omega arith) (omega arith) j;
              block = count_kept 6 (omega arith) j;
            };
            due = dues-sized j;
            chunks = kept spot_of 5 (omega arith) (omega arith) j;
          };
        };
      }

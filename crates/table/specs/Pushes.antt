-- A push in code: what it does to cells, and that the table is still one. Assumes nothing.
use Rattle.std.specs.Prelude.{◌≡◌, ℕ, zero, suc, ◌+◌, ◌-◌, ◌*◌, ◌<◌, ◌≤◌, Bool, true, false, ◌≢◌, List, [], ◌∷◌, ◌++◌, length, set, ◌==◌, slice_index, slice_index_or, slice_set}
use Rattle.std.proofs.Common.{eq-or-lt_of_le, true≢false, ⊎_elim, ◌∙◌, length-set, get_or-set_same, get_or-set_other}
use Rattle.std.proofs.Math.Path.{refl, sym, ap, subst}
use native.Mathlib.Omega.{arith}
use borrow.Author.Tests.{eqb-true, eqb-false, ne_eqb}
use Rattle.std.proofs.lemmas.List.Edits.{sets}
use Rattle.std.proofs.Math.Seq.{length-sets}
use Rattle.paper.specs.Ledger.{Typ, Field, Range, type_in, base?, size}
use Rattle.paper.specs.Lists.{total}
use Rattle.paper.specs.Rules.{below?}
use Rattle.table.specs.Segs.{Laid}
use Rattle.table.specs.Rows.{Push}
use Rattle.table.specs.RowLaws.{lt-or-ge, same_or_not, stored_at, sets-other, push-other, push-count, push-mine}
use Rattle.table.specs.Layout.{width, most, starts, head-le, row_fits}
use Rattle.table.specs.View.{typ_of, fld_of, range_of, types_of, flds_of, log_of, maybe, tally, Telling, Owning, Ok}
use Rattle.table.specs.ViewLaws.{ok-after, others}
use Rattle.table.specs.Told.{Told, Owned}
use Rattle.table.specs.ToldLaws.{one-yes, one-no, Below, Counted, told-type, told-range, told-cong}
use Rattle.table.specs.OwnedLaws.{Grown, owned-cong, owned-more}
use Rattle.table.specs.Below.{is_base, not-below, no-super}
use Rattle.table.specs.Answers.{typ_in, field_in, range_in, Small}
use Rattle.table.specs.Packed.{type_cells, field_cells, range_cells, field-cells, range-cells}
use Rattle.table.specs.declared.rows.TypeRow.{TypeRow}
use Rattle.table.specs.declared.rows.FieldRow.{FieldRow}
use Rattle.table.specs.declared.rows.RangeRow.{RangeRow}

abbrev pub one : Bool → ℕ
one true = 1
one false = 0

-- a push of a row that cell c counts; the rest follows from the push, and stands here so that it is found, as what the next
-- push asks
pub record Pushed (c base w : ℕ) (vs l l' : List ℕ) : Type 0 where
  pub push : Push c base w vs l l'
  pub ok : Ok l'
  pub strings : slice_index_or l' 0 0 ≡ slice_index l 0 + one (c == 0)
  pub types : slice_index_or l' 1 0 ≡ slice_index l 1 + one (c == 1)
  pub fields : slice_index_or l' 2 0 ≡ slice_index l 2 + one (c == 2)
  pub ranges : slice_index_or l' 3 0 ≡ slice_index l 3 + one (c == 3)
  pub dues : slice_index_or l' 4 0 ≡ slice_index l 4 + one (c == 4)
  pub chunks : slice_index_or l' 5 0 ≡ slice_index l 5 + one (c == 5)
  pub block : slice_index_or l' 6 0 ≡ slice_index l 6

module _ {c base w : ℕ} {vs l l' : List ℕ} (p : Laid c base w vs l l') (head : 16 ≤ base) where
  counted : (k : ℕ) → k < 7 → (b : Bool) → (c == k) ≡ b → slice_index l' k ≡ slice_index l k + one b
  counted k lt true e = rw (← eqb-true c k e) (push-count p)
  counted k lt false e = push-other p k (omega arith) (λ q. omega arith) (λ q. eqb-false c k e (sym q)) (λ r. omega arith) ∙ omega arith

module _ (c : ℕ) {vs l l' : List ℕ} (p : Laid c (starts c) (width c) vs l l') (few : c < 6) (ok : Ok l) (room : slice_index_or l c 0 < most c) (telling : Telling l') (owning : Owning l') where
  pushed-laid : Pushed c (starts c) (width c) vs l l'
  pushed-laid =
      let head = head-le c in
      let fine = ok-after p ok few room telling owning in
      record {
        push = record { laid = p; ok = fine };
        ok = fine;
        strings = counted p head 0 (omega arith) (c == 0) refl;
        types = counted p head 1 (omega arith) (c == 1) refl;
        fields = counted p head 2 (omega arith) (c == 2) refl;
        ranges = counted p head 3 (omega arith) (c == 3) refl;
        dues = counted p head 4 (omega arith) (c == 4) refl;
        chunks = counted p head 5 (omega arith) (c == 5) refl;
        block = push-other p 6 (omega arith) (λ q. omega arith) (λ q. omega arith) (λ r. omega arith);
      }

-- the row is stored behind the last of its kind, and then the count
module _ (c : ℕ) (vs l m : List ℕ) (wide : length vs ≡ width c) (few : c < 6) (ok : Ok l) (room : slice_index_or l c 0 < most c) (is : m ≡ sets l (starts c + width c * slice_index l c) vs) where
  laid_by : Laid c (starts c) (width c) vs l (slice_set m c (slice_index l c + 1))
  laid_by =
      record {
        wide = wide;
        low = omega arith;
        head = head-le c;
        room = row_fits c (slice_index l c) few room;
        full = omega (arith, ok.long);
        long = length-set m c (slice_index l c + 1) ∙ ap length is ∙ length-sets l (starts c + width c * slice_index l c) vs;
        near = λ j lt n7. ap (λ (t : List ℕ). slice_index (slice_set t c (slice_index l c + 1)) j) is;
      }

  -- no other cell is touched
  beyond : (j : ℕ) → 7 ≤ j → (16 ≤ j → 16048 ≤ j) → slice_index (slice_set m c (slice_index l c + 1)) j ≡ slice_index l j
  beyond j high far =
      get_or-set_other m c j (slice_index l c + 1) 0 (λ e. omega arith)
      ∙ rw is (sets-other vs l (starts c + width c * slice_index l c) j (λ p. let q : 16048 ≤ j = far (omega (arith, head-le c)) in omega (arith, wide, row_fits c (slice_index l c) few room)))

  flag_same : slice_index_or (slice_set m c (slice_index l c + 1)) 7 0 ≡ slice_index l 7
  flag_same = beyond 7 (omega arith) (λ h. omega arith)

  tally-same : (j : ℕ) → 16048 ≤ j → slice_index (slice_set m c (slice_index l c + 1)) j ≡ slice_index l j
  tally-same j high = beyond j (omega arith) (λ h. high)

  tallies-same : tally (slice_set m c (slice_index l c + 1)) ≡ tally l
  tallies-same = λ i t k. tally-same (16048 + 8 * t + k) (omega arith) i

  telling-same : 1 ≢ c → 3 ≢ c → Telling (slice_set m c (slice_index l c + 1))
  telling-same no-type no-range on =
      let other = others laid_by ok few room [] in
      subst (λ (x : (ℕ → ℕ → ℕ) × (List Typ × List Range)). Told x.0 x.1.0 x.1.1) (λ i. (sym tallies-same i, (sym (other.types no-type) i, sym (other.log no-range) i))) (ok.telling (sym flag_same ∙ on))

  owning-same : 2 ≢ c → Owning (slice_set m c (slice_index l c + 1))
  owning-same no_field on =
      let other = others laid_by ok few room [] in
      subst (λ (x : (ℕ → ℕ → ℕ) × List Field). Owned x.0 x.1) (λ i. (sym tallies-same i, sym (other.fields no_field) i)) (ok.owning (sym flag_same ∙ on))

-- neither a type nor a field nor a range
pub pushed-by : (c : ℕ) {vs l m : List ℕ} → length vs ≡ width c → c < 6 → Ok l → slice_index l c < most c → m ≡ sets l (starts c + width c * slice_index l c) vs → 1 ≢ c → 2 ≢ c → 3 ≢ c → Pushed c (starts c) (width c) vs l (slice_set m c (slice_index l c + 1))
pushed-by c {vs} {l} {m} wide few ok room is no-type no_field no-range =
    pushed-laid c (laid_by c vs l m wide few ok room is) few ok room (telling-same c vs l m wide few ok room is no-type no-range) (owning-same c vs l m wide few ok room is no_field)

-- a type more
module _ (r : TypeRow) {l m : List ℕ} (ok : Ok l) (room : slice_index_or l 1 0 < 32) (is : m ≡ sets l (2064 + 5 * slice_index l 1) (type_cells r)) where
  type-laid : Laid 1 2064 5 (type_cells r) l (slice_set m 1 (slice_index l 1 + 1))
  unfolding starts width most
  type-laid = laid_by 1 (type_cells r) l m refl (omega arith) ok room is

  type-telling : Telling (slice_set m 1 (slice_index l 1 + 1))
  unfolding starts width most types_of log_of
  type-telling on =
      let other = others {c = 1} type-laid ok (omega arith) room [] in
      subst (λ (x : (ℕ → ℕ → ℕ) × (List Typ × List Range)). Told x.0 x.1.0 x.1.1)
      (λ i. (sym (tallies-same 1 (type_cells r) l m refl (omega arith) ok room is) i, (sym (push-mine type-laid typ_of) i, sym (other.log (omega arith)) i)))
      (told-type (types_of l) (typ_in r) (ok.telling (sym (flag_same 1 (type_cells r) l m refl (omega arith) ok room is) ∙ on)))

  pub pushed-type-by : Pushed 1 2064 5 (type_cells r) l (slice_set m 1 (slice_index l 1 + 1))
  unfolding starts width most
  pushed-type-by = pushed-laid 1 type-laid (omega arith) ok room type-telling (owning-same 1 (type_cells r) l m refl (omega arith) ok room is (omega arith))

-- ── a field more: the row, and then two tallies of its type ──

pub record FieldTallied (t n : ℕ) (l l' : List ℕ) : Type 0 where
  pub long : length l' ≡ length l
  pub other : (j : ℕ) → (t < 32 → (j ≢ 16048 + 8 * t) × (j ≢ 16048 + 8 * t + 7)) → slice_index l' j ≡ slice_index l j
  pub first : t < 32 → slice_index l (16048 + 8 * t + 7) ≡ 0 → slice_index l' (16048 + 8 * t) ≡ n
  pub further : t < 32 → (slice_index l (16048 + 8 * t + 7) ≢ 0) → slice_index l' (16048 + 8 * t) ≡ slice_index l (16048 + 8 * t)
  pub last : t < 32 → slice_index l' (16048 + 8 * t + 7) ≡ n + 1

module _ (r : FieldRow) {l m l' : List ℕ} (ok : Ok l) (room : slice_index_or l 2 0 < 128) (is : m ≡ sets l (2224 + 16 * slice_index l 2) (field_cells r)) (T : FieldTallied r.owner (slice_index l 2) (slice_set m 2 (slice_index l 2 + 1)) l') where
  field_row : Laid 2 2224 16 (field_cells r) l (slice_set m 2 (slice_index l 2 + 1))
  unfolding starts width most
  field_row = laid_by 2 (field_cells r) l m refl (omega arith) ok room is

  field-laid : Laid 2 2224 16 (field_cells r) l l'
  field-laid = record { wide = refl; low = omega arith; head = omega arith; room = field_row.room; full = field_row.full; long = T.long ∙ field_row.long; near = λ j lt n7. T.other j (λ few. (λ e. omega arith, λ e. omega arith)) ∙ field_row.near j lt n7 }

  -- the tallies but those two are as they were, and so is cell 7
  apart-same : (j : ℕ) → 7 ≤ j → (16 ≤ j → 16048 ≤ j) → (r.owner < 32 → (j ≢ 16048 + 8 * r.owner) × (j ≢ 16048 + 8 * r.owner + 7)) → slice_index l' j ≡ slice_index l j
  unfolding starts width most
  apart-same j high far apart = T.other j apart ∙ beyond 2 (field_cells r) l m refl (omega arith) ok room is j high far

  field-flag : slice_index_or l' 7 0 ≡ slice_index l 7
  field-flag = apart-same 7 (omega arith) (λ h. omega arith) (λ few. (λ e. omega arith, λ e. omega arith))

  field-telling : Telling l'
  unfolding starts width most types_of log_of
  field-telling on =
      let other = others {c = 2} field-laid ok (omega arith) room [] in
      subst (λ (x : List Typ × List Range). Told (tally l') x.0 x.1) (λ i. (sym (other.types (omega arith)) i, sym (other.log (omega arith)) i))
      (told-cong
      (λ t k lt some few. apart-same (16048 + 8 * t + k) (omega arith) (λ h. omega arith) (λ fits. (λ e. omega arith, λ e. omega arith)))
      (apart-same 16304 (omega arith) (λ h. omega arith) (λ fits. (λ e. omega arith, λ e. omega arith)))
      (ok.telling (sym field-flag ∙ on)))

  tally-at-0 : (x : List ℕ) (t : ℕ) → tally x t 0 ≡ slice_index x (16048 + 8 * t)
  tally-at-0 x t = let e : 16048 + 8 * t + 0 ≡ 16048 + 8 * t = omega arith in ap (λ (k : ℕ). slice_index x k) e

  row_same : (j : ℕ) → 16048 ≤ j → slice_index (slice_set m 2 (slice_index l 2 + 1)) j ≡ slice_index l j
  unfolding starts width most
  row_same j high = tally-same 2 (field_cells r) l m refl (omega arith) ok room is j high

  grown : Grown (tally l) (tally l') (flds_of l) (field_in r)
  grown =
      let t = r.owner in
      let count = ok.flds-count in
      let seven = row_same (16048 + 8 * t + 7) (omega arith) in
      let zeroth = row_same (16048 + 8 * t) (omega arith) in
      record {
        others = λ u lt ne. (
          apart-same (16048 + 8 * u + 0) (omega arith) (λ h. omega arith) (λ fits. (λ e. ne (omega arith), λ e. omega arith)),
          apart-same (16048 + 8 * u + 7) (omega arith) (λ h. omega arith) (λ fits. (λ e. omega arith, λ e. ne (omega arith))),
        );
        first = λ lt none_yet. tally-at-0 l' t ∙ T.first lt (seven ∙ none_yet) ∙ sym count;
        further = λ lt some. tally-at-0 l' t ∙ T.further lt (λ e. omega (arith, seven)) ∙ zeroth ∙ sym (tally-at-0 l t);
        last = λ lt. T.last lt ∙ ap (λ (k : ℕ). k + 1) (sym count);
      }

  field-owning : Owning l'
  unfolding starts width most flds_of
  field-owning on =
      let mine : flds_of l' ≡ flds_of l ++ field_in r ∷ [] = push-mine field-laid fld_of ∙ ap (λ (d : Field). flds_of l ++ d ∷ []) (field-cells r) in
      subst (λ (x : List Field). Owned (tally l') x) (sym mine) (owned-more (ok.owning (sym field-flag ∙ on)) (field_in r) grown)

  pub pushed-field-by : Pushed 2 2224 16 (field_cells r) l l'
  unfolding starts width most
  pushed-field-by = pushed-laid 2 field-laid (omega arith) ok room field-telling field-owning

-- ── a range more: the row, and then the tallies ──

-- the tallies are told, and the range is of a known type that has none in its block or in a later one
pub record Regular (r : RangeRow) (up : ℕ) (l : List ℕ) : Type 0 where
  pub told : slice_index_or l 7 0 ≡ 1
  pub known : r.typ < slice_index l 1
  pub later : slice_index_or l (16048 + 8 * r.typ + 2) 0 ≤ r.block
  pub sum-few : slice_index_or l (16048 + 8 * r.typ + 1) 0 ≤ 4294901760
  pub all-few : slice_index_or l 16304 0 ≤ 4294901760
  pub lies : up ≡ 0 → r.first ≡ slice_index l (16048 + 8 * r.typ + 1)

-- only a base type's objects count in all
abbrev pub share : ℕ → ℕ → ℕ
share zero n = n
share (suc u) n = 0

-- tallies 5 and 6 of a type u, from c and e to c' and e', by a range of block b below u that ends at x
pub record Rose (b x c e c' e' : ℕ) : Type 0 where
  pub rises : c ≤ c'
  pub ends : c ≡ c' → e ≤ e'
  pub mine : b + 1 ≤ c'
  pub mine-ends : b + 1 ≡ c' → x ≤ e'

pub record Aboved (up b x : ℕ) (l l' : List ℕ) : Type 0 where
  pub long : length l' ≡ length l
  pub other : (j : ℕ) → j ≢ 16048 + 8 * (up - 1) + 5 → j ≢ 16048 + 8 * (up - 1) + 6 → slice_index l' j ≡ slice_index l j
  pub mine : 0 < up → up ≤ 32 → Rose b x (tally l (up - 1) 5) (tally l (up - 1) 6) (tally l' (up - 1) 5) (tally l' (up - 1) 6)
  pub none : (0 < up → up ≤ 32 → ⊥) → l' ≡ l

pub record Retold (r : RangeRow) (up n : ℕ) (l l' : List ℕ) : Type 0 where
  pub regular : Regular r up l
  pub mid : List ℕ
  pub mid-is : mid ≡ slice_set (sets l (16048 + 8 * r.typ + 1) ((slice_index l (16048 + 8 * r.typ + 1) + r.count) ∷ (r.block + 1) ∷ slice_index l (16048 + 8 * r.typ + 1) ∷ n ∷ [])) 16304 (slice_index l 16304 + share up r.count)
  pub above : Aboved up r.block (r.start + r.count) mid l'

pub record Tallied (r : RangeRow) (up n : ℕ) (l l' : List ℕ) : Type 0 where
  pub long : length l' ≡ length l
  pub near : (j : ℕ) → j < 16048 → (j ≢ 7) → slice_index l' j ≡ slice_index l j
  pub retold : slice_index_or l' 7 0 ≡ 1 → Retold r up n l l'

-- what is asked of the tallies
module _ {r : RangeRow} {up n : ℕ} {l l' : List ℕ} (R : Retold r up n l l') (long : length l ≡ 16384) (few : r.typ < 32) (ts : List Typ) (is : maybe up ≡ (type_in ts r.typ).super) (count : length ts ≡ slice_index l 1) where
  abbrev sum : ℕ
  sum = slice_index l (16048 + 8 * r.typ + 1)

  abbrev news : List ℕ
  news = (sum + r.count) ∷ (r.block + 1) ∷ sum ∷ n ∷ []

  mid-other : (j : ℕ) → j ≢ 16304 → (16048 + 8 * r.typ + 1 ≤ j → 16048 + 8 * r.typ + 5 ≤ j) → slice_index R.mid j ≡ slice_index l j
  mid-other j ne apart =
      ap (λ (t : List ℕ). slice_index t j) R.mid-is
      ∙ get_or-set_other (sets l (16048 + 8 * r.typ + 1) news) 16304 j (slice_index l 16304 + share up r.count) 0 ne
      ∙ sets-other news l (16048 + 8 * r.typ + 1) j (λ p. omega (arith, apart p))

  mid-mine : (k : ℕ) (j : ℕ) → k < 4 → j ≡ 16048 + 8 * r.typ + 1 + k → slice_index R.mid j ≡ slice_index news k
  mid-mine k j lt at =
      ap (λ (t : List ℕ). slice_index t j) R.mid-is
      ∙ get_or-set_other (sets l (16048 + 8 * r.typ + 1) news) 16304 j (slice_index l 16304 + share up r.count) 0 (λ e. omega arith)
      ∙ stored_at news l (16048 + 8 * r.typ + 1) k j at lt (omega arith)

  -- below 5 the rest does not reach
  low-kept : (t k : ℕ) → k < 5 → tally l' t k ≡ tally R.mid t k
  low-kept t k lt = R.above.other (16048 + 8 * t + k) (λ e. omega arith) (λ e. omega arith)

  -- nor to 0 and 7
  fields-kept : (t : ℕ) → t < 32 → (tally l' t 0 ≡ tally l t 0) × (tally l' t 7 ≡ tally l t 7)
  fields-kept t lt = (
    low-kept t 0 (omega arith) ∙ mid-other (16048 + 8 * t + 0) (λ e. omega arith) (λ p. omega arith),
    R.above.other (16048 + 8 * t + 7) (λ e. omega arith) (λ e. omega arith) ∙ mid-other (16048 + 8 * t + 7) (λ e. omega arith) (λ p. omega arith),
  )

  one-share : (a : ℕ) → maybe a ≡ (type_in ts r.typ).super → share a r.count ≡ total (base? ts) size (range_in r ∷ [])
  unfolding size
  one-share zero at = sym (one-yes (base? ts) size (range_in r) (sym (is_base ts (range_in r) 0 at)))
  one-share (suc u) at = sym (one-no (base? ts) size (range_in r) (sym (is_base ts (range_in r) (suc u) at) ∙ ne_eqb (suc u) 0 (λ e. omega arith)))

  apart_from : (u : ℕ) → u < 32 → up ≢ u + 1 → (k : ℕ) → 4 < k → k < 7 → tally l' u k ≡ tally l u k
  apart_from u lt ne k a b =
      ⊎_elim
      (λ (gt : 0 < up). R.above.other (16048 + 8 * u + k) (λ e. ne (omega arith)) (λ e. ne (omega arith)))
      (λ (le : up ≤ 0). ap (λ (t : List ℕ). tally t u k) (R.above.none (λ p q. omega arith)))
      (lt-or-ge 0 up)
      ∙ mid-other (16048 + 8 * u + k) (λ e. omega arith) (λ p. omega arith)

  below_of : (u : ℕ) → u < 32 → Below ts (range_in r) u (tally l u 5) (tally l u 6) (tally l' u 5) (tally l' u 6)
  below_of u lt =
      ⊎_elim
      (λ (e : up ≡ u + 1).
      let same : up - 1 ≡ u = omega arith in
      let five : tally R.mid u 5 ≡ tally l u 5 = mid-other (16048 + 8 * u + 5) (λ e. omega arith) (λ p. omega arith) in
      let six : tally R.mid u 6 ≡ tally l u 6 = mid-other (16048 + 8 * u + 6) (λ e. omega arith) (λ p. omega arith) in
      let M : Rose r.block (r.start + r.count) (tally R.mid u 5) (tally R.mid u 6) (tally l' u 5) (tally l' u 6) = subst (λ (k : ℕ). Rose r.block (r.start + r.count) (tally R.mid k 5) (tally R.mid k 6) (tally l' k 5) (tally l' k 6)) same (R.above.mine (omega arith) (omega arith)) in
      record { rises = omega (arith, five, M.rises); ends = λ q. omega (arith, six, M.ends (five ∙ q)); mine = λ b. M.mine; mine-ends = λ b q. M.mine-ends q })
      (λ (ne : up ≢ u + 1).
      let no : below? ts r.typ u ≡ false = not-below ts r.typ u {s = up} is ne in
      let five = apart_from u lt ne 5 (omega arith) (omega arith) in
      let six = apart_from u lt ne 6 (omega arith) (omega arith) in
      record { rises = omega (arith, five); ends = λ q. omega (arith, six); mine = λ b. absurd (true≢false (sym b ∙ no)); mine-ends = λ b q. absurd (true≢false (sym b ∙ no)) })
      (same_or_not up (u + 1))

  counted_of : Counted (tally l) (tally l') ts (range_in r)
  counted_of =
      record {
        known = omega (arith, count, R.regular.known);
        later = R.regular.later;
        sum = low-kept r.typ 1 (omega arith) ∙ mid-mine 0 (16048 + 8 * r.typ + 1) (omega arith) (omega arith);
        latest = low-kept r.typ 2 (omega arith) ∙ mid-mine 1 (16048 + 8 * r.typ + 2) (omega arith) (omega arith);
        before = low-kept r.typ 3 (omega arith) ∙ mid-mine 2 (16048 + 8 * r.typ + 3) (omega arith) (omega arith);
        others = λ t lt ne k small. low-kept t k (omega arith) ∙ mid-other (16048 + 8 * t + k) (λ e. omega arith) (λ p. ⊎_elim (λ (a : t < r.typ). omega arith) (λ (b : r.typ ≤ t). ⊎_elim (λ (e : r.typ ≡ t). absurd (ne (sym e))) (λ (c : r.typ < t). omega arith) (eq-or-lt_of_le b)) (lt-or-ge t r.typ));
        bases = low-kept 32 0 (omega arith) ∙ all-stored ∙ ap (λ (k : ℕ). slice_index l 16304 + k) (one-share up is);
        below = below_of;
        lies = λ base. R.regular.lies (no-super up is base);
      }
    where
      all-stored : slice_index_or R.mid 16304 0 ≡ slice_index l 16304 + share up r.count
      all-stored = ap (λ (t : List ℕ). slice_index t 16304) R.mid-is ∙ get_or-set_same (sets l (16048 + 8 * r.typ + 1) news) 16304 (slice_index l 16304 + share up r.count) 0 (rw length-sets (omega arith))

module _ (r : RangeRow) (up k : ℕ) {l m l' : List ℕ} (ok : Ok l) (room : slice_index_or l 3 0 < 1024) (small : Small r) (above : maybe up ≡ (type_in (types_of l) r.typ).super) (is : m ≡ sets l (4272 + 3 * slice_index l 3) (range_cells r k)) (T : Tallied r up (slice_index l 3) (slice_set m 3 (slice_index l 3 + 1)) l') where
  row_laid : Laid 3 4272 3 (range_cells r k) l (slice_set m 3 (slice_index l 3 + 1))
  unfolding starts width most
  row_laid = laid_by 3 (range_cells r k) l m refl (omega arith) ok room is

  range-laid : Laid 3 4272 3 (range_cells r k) l l'
  range-laid = record { wide = refl; low = omega arith; head = omega arith; room = row_laid.room; full = row_laid.full; long = T.long ∙ row_laid.long; near = λ j lt n7. T.near j lt n7 ∙ row_laid.near j lt n7 }

  types-there : length (types_of l) ≡ slice_index (slice_set m 3 (slice_index l 3 + 1)) 1
  types-there = ok.types-count ∙ sym (push-other row_laid 1 (omega arith) (λ e. omega arith) (λ e. omega arith) (λ q. omega arith))

  range-telling : Telling l'
  unfolding starts width most types_of log_of
  range-telling on =
      let l₁ = set m 3 (slice_index l 3 + 1) in
      let R = T.retold on in
      let same = tallies-same 3 (range_cells r k) l m refl (omega arith) ok room is in
      let flag = flag_same 3 (range_cells r k) l m refl (omega arith) ok room is in
      let types_same : types_of l₁ ≡ types_of l = (others {c = 3} row_laid ok (omega arith) room []).types (omega arith) in
      let C : Counted (tally l₁) (tally l') (types_of l) (range_in r) = counted_of R (row_laid.long ∙ ok.long) small.typ-fits (types_of l) above types-there in
      let was : Told (tally l₁) (types_of l) (log_of l) = subst (λ (x : ℕ → ℕ → ℕ). Told x (types_of l) (log_of l)) (sym same) (ok.telling (sym flag ∙ R.regular.told)) in
      subst (λ (x : List Typ × List Range). Told (tally l') x.0 x.1)
      (λ i. (sym ((others {c = 3} range-laid ok (omega arith) room []).types (omega arith)) i, sym (push-mine range-laid range_of ∙ ap (λ (d : Range). log_of l ++ d ∷ []) (range-cells r k small)) i))
      (told-range was (range_in r) C)

  -- those of the fields are not touched
  range-owning : Owning l'
  unfolding starts width most flds_of
  range-owning on =
      let R = T.retold on in
      let flag = flag_same 3 (range_cells r k) l m refl (omega arith) ok room is in
      let same = tally-same 3 (range_cells r k) l m refl (omega arith) ok room is in
      let kept = fields-kept R (row_laid.long ∙ ok.long) small.typ-fits (types_of l) above types-there in
      subst (λ (x : List Field). Owned (tally l') x) (sym ((others {c = 3} range-laid ok (omega arith) room []).fields (omega arith)))
      (owned-cong (λ t lt. ((kept t lt).0 ∙ same (16048 + 8 * t + 0) (omega arith), (kept t lt).1 ∙ same (16048 + 8 * t + 7) (omega arith)))
      (ok.owning (sym flag ∙ R.regular.told)))

  pub pushed-range-by : Pushed 3 4272 3 (range_cells r k) l l'
  unfolding starts width most
  pushed-range-by = pushed-laid 3 range-laid (omega arith) ok room range-telling range-owning

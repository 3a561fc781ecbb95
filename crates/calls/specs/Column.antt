-- A column of a file that was read into a table. Assumes nothing.
use Rattle.std.specs.Prelude.{◌≡◌, refl, true, List, ℕ, ◌≤◌, ◌<◌, leb, ℤ, length, get_or, replicate, Result, Ok, Err}
use Rattle.std.proofs.Common.{sym, ◌∙◌, arith}
use Rattle.std.proofs.Math.Path.{ap, subst}
use Rattle.paper.specs.Ledger.{Kind, constant, plain, Field, Ledger, State, nothing, field_at, no_field, objects_of}
use Rattle.paper.specs.Places.{spots}
use Rattle.paper.specs.Rules.{single_kind?}
use Rattle.paper.specs.Calls.{done, refused, need, ◌>>◌, known, asked, sought, field_values, column_by, column_of, over_front}
use Rattle.laws.specs.Says.{Bytes}
use Rattle.laws.specs.Columns.{Grows}
use Rattle.laws.specs.Asked.{Asks, Taken}
use Rattle.laws.specs.Lengths.{column-length}
use Rattle.laws.specs.Refill.{file-fills}
use Rattle.table.specs.View.{kind_from, flds_of, chunks_of, view, Said, Holds}
use Rattle.table.specs.Answers.{field_in}
use Rattle.values.specs.Listed.{other-single}
use Rattle.walk.specs.Few.{linkable-below}
use Rattle.walk.specs.Listed.{with-element, row-kinds}
use Rattle.walk.specs.FileLaws.{Accepted}
use Rattle.calls.specs.Kinds.{asked-map, asked-annotation}
use Rattle.calls.specs.Fill.{ColumnReady, ColumnStored}
use Rattle.calls.specs.Told.{Wrote, wrote_none, wrote-all, column_in, column-none, column-some, room-19, room-done}
use Rattle.calls.specs.Sought.{Here, declared, has-column}
use Rattle.calls.specs.declared.asks.Wanted.{Wanted}
use Rattle.calls.specs.declared.replies.Refused.{Refused}

-- ── what is promised ──

-- the table is that of an accepted file
pub record Known (f l : List ℕ) : Type 0 where
  pub at : ℕ
  pub accepted : Accepted f l at

abbrev ledger_of : {f l : List ℕ} → Known f l → Ledger
ledger_of K = K.accepted.ledger

-- what is wanted is a field with a column, of as many values as its type has objects
pub record Ready (f l : List ℕ) (w : Wanted) : Type 0 where
  pub table : Known f l
  pub type : ℕ
  pub there : w.at < length (flds_of l)
  pub row_is : field_in w.row ≡ get_or (flds_of l) w.at no_field
  pub columnar : asked (kind_from w.row.kind w.row.a w.row.e) ≤ 32
  pub objects-are : objects_of (known (ledger_of table)) type ≡ w.objects
  pub values-are : length (column_of (ledger_of table) type w.at) ≡ w.objects

-- with room for them, they stand at the front
pub record Stored (f l : List ℕ) (w : Wanted) (out out' : List ℤ) : Type 0 where
  pub stored : (R : Ready f l w) → w.objects ≤ length out → out' ≡ over_front (column_of (ledger_of R.table) R.type w.at) out

-- whatever room there is
pub record WantedTold (f l : List ℕ) (w : Wanted) (out : List ℤ) (r : Result ℕ Refused) (out' : List ℤ) : Type 0 where
  pub told : (R : Ready f l w) → Wrote (need (leb w.objects (length out)) 19 >> done (column_of (ledger_of R.table) R.type w.at)) out r out'

pub record ColumnTold (f l type field : List ℕ) (k : ℕ) (out : List ℤ) (r : Result ℕ Refused) (out' : List ℤ) : Type 0 where
  pub told : (K : Known f l) → Wrote (column_in (ledger_of K) type field k (length out)) out r out'

-- ── what the table says is what is known of the ledger ──

module _ {f l : List ℕ} (K : Known f l) where
  pub sees : view f l ≡ known (ledger_of K)
  sees = ap (λ (s : Said). s.state) K.accepted.says

  chunks-are : spots f ≡ chunks_of l
  chunks-are = sym (ap (λ (s : Said). s.chunks) K.accepted.says)

  pub still-holds : Holds f l
  still-holds = K.accepted.steady.holds

-- ── storing ──

module _ {f l : List ℕ} {w : Wanted} where
  kind-is : (R : Ready f l w) → (field_at (known (ledger_of R.table)) w.at).kind ≡ kind_from w.row.kind w.row.a w.row.e
  unfolding field_at
  kind-is R =
      subst (λ (u : State). (get_or u.fields w.at no_field).kind ≡ kind_from w.row.kind w.row.a w.row.e) (sees R.table) (sym (ap (λ (d : Field). d.kind) R.row_is))

  -- the column, where the kind is known
  column-is : (R : Ready f l w) {x : Kind} → kind_from w.row.kind w.row.a w.row.e ≡ x → column_of (ledger_of R.table) R.type w.at ≡ column_by x (ledger_of R.table) R.type w.at
  unfolding column_of
  column-is R is = ap (λ (x : Kind). column_by x (ledger_of R.table) R.type w.at) (kind-is R ∙ is)

  pub stored-constant :
      {y z : ℤ} {out out' : List ℤ} → ((e : ℕ) → kind_from w.row.kind w.row.a e ≡ constant w.row.kind z) → y ≡ z → out' ≡ over_front (replicate w.objects y) out
      → Stored f l w out out'
  unfolding column_by
  stored-constant is same stands = record { stored = λ R fits. rw (column-is R (is w.row.e), R.objects-are, ← same) stands }

  module _ (h : 4 < w.row.kind) where
    is_plain : Ready f l w → kind_from w.row.kind w.row.a w.row.e ≡ plain w.row.e
    unfolding asked
    is_plain R =
        with-element (λ x. asked x ≤ 32 → x ≡ plain w.row.e) w.row.kind w.row.a w.row.e h (λ q. absurd (omega arith)) (λ q. absurd (omega arith)) (λ is q. absurd (omega arith)) (λ q. refl)
        R.columnar

    -- what has a column is neither a map nor an annotation
    is-single : Ready f l w → single_kind? w.row.e ≡ true
    is-single R =
        let kinds = row-kinds (flds_of l) w.at w.row.owner w.row.kind w.row.a w.row.e R.table.accepted.steady.listed R.there R.row_is in
        let none : asked (plain w.row.e) ≤ 32 = rw (is_plain R) at R.columnar in
        other-single w.row.e (kinds.element h (λ is. omega (arith, asked-map w.row.kind w.row.e is w.row.a, R.columnar))) (λ is. omega (arith, asked-annotation w.row.e is))

    values_of : (R : Ready f l w) → column_of (ledger_of R.table) R.type w.at ≡ field_values w.at nothing (ledger_of R.table)
    unfolding column_by
    values_of R = column-is R (is_plain R)

    pub column-ready : {out : List ℤ} → Ready f l w × (w.objects ≤ length out) → ColumnReady f l w.at w.row.e out
    column-ready (R, fits) =
        let K = R.table in
        let all = file-fills f (ledger_of K) K.at w.at K.accepted.read in
        record {
          holds = still-holds K;
          listed = is-single R;
          state = known (ledger_of K);
          values = field_values w.at nothing (ledger_of K);
          fills = rw (kind-is R ∙ is_plain R, chunks-are K) at all;
          linkable = λ s g. linkable-below (still-holds K) K.accepted.steady.low w.row.e s (subst (λ (u : State). Grows s u) (sym (sees K)) g);
          room = omega (arith, R.values-are, ap length (values_of R));
        }

    pub stored-column : {out out' : List ℤ} → ColumnStored f l w.at w.row.e out out' → Stored f l w out out'
    unfolding column-ready
    stored-column S = record { stored = λ R fits. rw (values_of R) (S.stored (column-ready (R, fits))) }

-- ── the ways out ──

module _ (f l : List ℕ) (w : Wanted) (out : List ℤ) where
  pub no_room : length out < w.objects → WantedTold f l w out (Err (record { number = 19 })) out
  no_room lt = record { told = λ R. wrote_none (room-19 w.objects (length out) _ lt) }

  pub room-enough : {out' : List ℤ} → w.objects ≤ length out → Stored f l w out out' → WantedTold f l w out (Ok w.objects) out'
  room-enough fits S = record { told = λ R. wrote-all (room-done w.objects (length out) _ fits) R.values-are (S.stored R fits) }

module _ {f l : List ℕ} (K : Known f l) where
  -- it is enough to look at the table
  known-asks : {type field : List ℕ} {k t i : ℕ} → Asks (view f l) type field k t i → Asks (known (ledger_of K)) type field k t i
  known-asks {type} {field} {k} {t} {i} Q = subst (λ (s : State). Asks s type field k t i) (sees K) Q

  known-objects : (t : ℕ) {n : ℕ} → objects_of (view f l) t ≡ n → objects_of (known (ledger_of K)) t ≡ n
  known-objects t {n} h = subst (λ (s : State). objects_of s t ≡ n) (sees K) h

  module _ {type field : List ℕ} {k : ℕ} {w : Wanted} (H : Here f l type field k w) (bytes : Bytes f) where
    -- as many values as there are objects
    values-count : length (column_of (ledger_of K) H.t w.at) ≡ w.objects
    values-count =
        let T : Taken type field k f = record { ledger = ledger_of K; end = K.at; t = H.t; i = w.at; read = K.accepted.read; asks = known-asks H.asks } in
        column-length bytes T ∙ known-objects H.t H.count-is

    pub wanted-ready : Ready f l w
    wanted-ready =
        record {
          table = K;
          type = H.t;
          there = declared f l H.t field H.asks.fielded;
          row_is = H.row_is;
          columnar = has-column H;
          objects-are = known-objects H.t H.count-is;
          values-are = values-count;
        }

module _ {f l type field : List ℕ} {k : ℕ} {out : List ℤ} where
  pub told_none : {n : ℕ} → sought type field k (view f l) ≡ refused n → ColumnTold f l type field k out (Err (record { number = n })) out
  told_none {n} h =
      record { told = λ K. wrote_none (column-none (ledger_of K) type field k (length out) (subst (λ (s : State). sought type field k s ≡ refused n) (sees K) h)) }

  pub told-wanted :
      {w : Wanted} {r : Result ℕ Refused} {out' : List ℤ} → Bytes f → Here f l type field k w → WantedTold f l w out r out' → ColumnTold f l type field k out r out'
  unfolding wanted-ready
  told-wanted bytes H W = record { told = λ K. rw (column-some (ledger_of K) type field k (length out) (known-asks K H.asks), known-objects K H.t H.count-is) (W.told (wanted-ready K H bytes)) }

-- A column, filled from the places of its field's chunks. Assumes nothing.
use Rattle.std.specs.Prelude.{◌≡◌, refl, true, List, [], ◌∷◌, ◌++◌, ℕ, ◌+◌, ◌-◌, ◌≤◌, ◌<◌, ℤ, length, get_or, drop}
use Rattle.std.proofs.Common.{sym, ap, ◌∙◌, arith, add-one, length-append, drop_of_length-le, length-take, length-drop, drop-cons}
use native.Nat.{ℕᴺ_discrete}
use Rattle.std.proofs.lemmas.List.Edits.{sets}
use Rattle.paper.specs.Reader.{got, repeat}
use Rattle.paper.specs.Ledger.{Element, plain, State}
use Rattle.paper.specs.Rules.{single_kind?}
use Rattle.paper.specs.File.{value}
use Rattle.paper.specs.Places.{Spot}
use Rattle.paper.specs.Calls.{stored_all, over_front}
use Rattle.laws.specs.Says.{span}
use Rattle.laws.specs.Columns.{Grows}
use Rattle.laws.specs.Refill.{Fills, ended, other, filled}
use Rattle.table.specs.View.{chunks_of, Holds}
use Rattle.table.specs.Answers.{spot_in, no_spot}
use Rattle.table.specs.declared.rows.ChunkRow.{ChunkRow}
use Rattle.values.specs.Bare.{Linkable}
use Rattle.values.specs.Filling.{Fillable, Filled, stored-count, sets-front, sets_then}

-- ── what a call promises ──

-- a chunk of the field lies in the file
pub record ChunkReady (f : List ℕ) (d : ChunkRow) (i k : ℕ) : Type 0 where
  pub listed : single_kind? k ≡ true
  pub lies : d.field ≡ i → (d.start ≤ d.end) × (d.end ≤ length f)

-- l has become m, and r is the place behind what was stored
pub record ChunkStored (f : List ℕ) (d : ChunkRow) (i k : ℕ) (l : List ℤ) (at : ℕ) (m : List ℤ) (r : ℕ) : Type 0 where
  pub others : (d.field ≡ i → ⊥) → (m ≡ l) × (r ≡ at)
  pub own : d.field ≡ i → Filled k (span f d.start d.end) l at m r

-- the values of a field stand at the places that the table has put down, and there is room for them
pub record ColumnReady (f l : List ℕ) (i k : ℕ) (out : List ℤ) : Type 0 where
  pub holds : Holds f l
  pub listed : single_kind? k ≡ true
  pub state : State
  pub values : List ℤ
  pub fills : Fills i (plain k) f state (chunks_of l) values
  pub linkable : (s : State) → Grows s state → Linkable s k
  pub room : length values ≤ length out

-- then they stand at the front, and the rest is untouched
pub record ColumnStored (f l : List ℕ) (i k : ℕ) (out m : List ℤ) : Type 0 where
  pub stored : (R : ColumnReady f l i k out) → m ≡ over_front R.values out

-- ── a chunk ──

module _ {f : List ℕ} {d : ChunkRow} {i k : ℕ} {l : List ℤ} {at : ℕ} where
  pub passed_over : (d.field ≡ i → ⊥) → ChunkStored f d i k l at l at
  passed_over ne = record { others = λ h. (refl, refl); own = λ is. absurd (ne is) }

  pub stored_there : {m : List ℤ} {r : ℕ} → d.field ≡ i → Filled k (span f d.start d.end) l at m r → ChunkStored f d i k l at m r
  stored_there is F = record { others = λ h. absurd (h is); own = λ e. F }

-- ── the loop: what is left to store from here gives the whole ──

pub record StillTo {f l : List ℕ} {i k : ℕ} {out : List ℤ} (R : ColumnReady f l i k out) (m : List ℤ) (at j : ℕ) : Type 0 where
  pub rest : List ℤ
  pub fills : Fills i (plain k) f R.state (drop j (chunks_of l)) rest
  pub room : at + length rest ≤ length m
  pub stores : sets m at rest ≡ sets out 0 R.values

pub record Storing (f l : List ℕ) (i k : ℕ) (out : List ℤ) (m : List ℤ) (at j : ℕ) : Type 0 where
  pub long : length m ≡ length out
  pub left : (R : ColumnReady f l i k out) → StillTo R m at j

pub storing-start : {f l : List ℕ} {i k : ℕ} {out : List ℤ} → Storing f l i k out out 0 0
storing-start = record { long = refl; left = λ R. record { rest = R.values; fills = R.fills; room = omega (arith, R.room); stores = refl } }

-- a chunk of the field, as it stands in the file
record Whole (i k : ℕ) (f : List ℕ) (S : State) (p : Spot) (ps : List Spot) (vs : List ℤ) : Type 0 where
  state : State
  count : ℕ
  chunk : List (List Element)
  more : List ℤ
  grown : Grows state S
  ordered : p.start ≤ p.end
  inside : p.end ≤ length f
  reads : repeat count (value state (plain k)) (span f p.start p.end) 0 ≡ got chunk (p.end - p.start)
  fills : Fills i (plain k) f S ps more
  is : vs ≡ stored_all chunk ++ more

module _ {i k : ℕ} {f : List ℕ} {S : State} {p : Spot} {ps : List Spot} where
  own-chunk : {vs : List ℤ} → p.field ≡ i → Fills i (plain k) f S (p ∷ ps) vs → Whole i k f S p ps vs
  own-chunk is (other ne F) = absurd (ne is)
  own-chunk is (filled {vs = more} s n c grown same le in_f reads F) =
      record { state = s; count = n; chunk = c; more = more; grown = grown; ordered = le; inside = in_f; reads = reads; fills = F; is = refl }

  other-chunk : {vs : List ℤ} → (p.field ≡ i → ⊥) → Fills i (plain k) f S (p ∷ ps) vs → Fills i (plain k) f S ps vs
  other-chunk ne (other h F) = F
  other-chunk ne (filled s n c grown same le in_f reads F) = absurd (ne same)

module _ {f l : List ℕ} {i k : ℕ} {out m : List ℤ} {at j : ℕ} (G : Storing f l i k out m at j) where
  pub storing-done : length (chunks_of l) ≤ j → ColumnStored f l i k out m
  storing-done le = record { stored = λ R. go R (G.left R).rest (rw (drop_of_length-le (chunks_of l) le) at (G.left R).fills) (G.left R).stores }
    where
      go : (R : ColumnReady f l i k out) (rest : List ℤ) → Fills i (plain k) f R.state [] rest → sets m at rest ≡ sets out 0 R.values → m ≡ over_front R.values out
      go R rest ended q = q ∙ sets-front R.values out R.room

  module _ (lt : j < length (chunks_of l)) {d : ChunkRow} (row : spot_in d ≡ get_or (chunks_of l) j no_spot) where
    next : (drop j (chunks_of l)) ≡ spot_in d ∷ drop (j + 1) (chunks_of l)
    next = drop-cons (chunks_of l) j no_spot lt ∙ rw (add-one, row) refl

    pub chunk-ready : ColumnReady f l i k out → ChunkReady f d i k
    chunk-ready R =
        record {
          listed = R.listed;
          lies = λ is. let W = own-chunk is (rw next at (G.left R).fills) in (W.ordered, W.inside);
        }

    module _ {m' : List ℤ} {r : ℕ} (long : length m' ≡ length m) (S : ChunkStored f d i k m at m' r) where
      still-other : (R : ColumnReady f l i k out) → (d.field ≡ i → ⊥) → StillTo R m' r (j + 1)
      still-other R ne =
          let T = G.left R in
          let (same, place) = S.others ne in
          rw (same, place) (record { rest = T.rest; fills = other-chunk ne (rw next at T.fills); room = T.room; stores = T.stores })

      still-own : (R : ColumnReady f l i k out) → d.field ≡ i → StillTo R m' r (j + 1)
      still-own R is =
          let T = G.left R in
          let W = own-chunk is (rw next at T.fills) in
          let count = stored-count W.state k (span f d.start d.end) W.count 0 W.chunk (d.end - d.start) W.reads in
          let size : d.end - d.start ≡ length (span f d.start d.end) = simp (length-take, length-drop) (omega (arith, W.ordered, W.inside)) in
          let all : length T.rest ≡ W.count + length W.more = ap length W.is ∙ length-append (stored_all W.chunk) W.more ∙ rw count in
          let F : Fillable W.state k (span f d.start d.end) m at W.count W.chunk =
          record { linkable = R.linkable W.state W.grown; reads = W.reads ∙ ap (got W.chunk) size; room = omega (arith, T.room, all) } in
          let m-is : m' ≡ sets m at (stored_all W.chunk) = (S.own is).numbers W.state W.count W.chunk F in
          let r-is : r ≡ at + W.count = (S.own is).place W.state W.count W.chunk F in
          record {
            rest = W.more;
            fills = W.fills;
            room = omega (arith, T.room, all, long, r-is);
            stores = rw (m-is, r-is, ← count) (sym (sets_then (stored_all W.chunk) W.more m at)) ∙ rw W.is at T.stores;
          }

      pub storing-on : Storing f l i k out m' r (j + 1)
      storing-on =
          record {
            long = long ∙ G.long;
            left = λ R. elim (ℕᴺ_discrete d.field i) [ yes is ↦ still-own R is | no ne ↦ still-other R ne ];
          }

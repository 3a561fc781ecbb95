-- The values of a chunk, by the numbers of their kind. Assumes nothing.
use Rattle.std.specs.Prelude.{Ok, Err, ◌≡◌, ℕ, ◌+◌, ◌*◌, ◌<◌, ◌≤◌, true, List, [], length, ◌≢◌}
use Rattle.std.proofs.Math.Path.{refl, sym}
use Rattle.std.proofs.Common.{◌∙◌, arith}
use Rattle.std.proofs.Math.Nat.{mul-one, lt_of_not-le}
use Rattle.std.proofs.Math.Decide.{dec_le}
use borrow.Author.Tests.{le-leb, lt-leb, ne_eqb}
use Rattle.paper.specs.Reader.{when◌then◌else◌, Reader, got, ◌>>=◌, give, repeat}
use Rattle.paper.specs.Numbers.{put_fixed}
use Rattle.paper.specs.Lists.{all}
use Rattle.paper.specs.Ledger.{plain, array, many, State}
use Rattle.paper.specs.Rules.{element_kind?}
use Rattle.paper.specs.File.{small, element, value}
use Rattle.table.specs.View.{kind_from}
use Rattle.numbers.specs.Cursors.{Outcome, out_of, place_of, Read, was-got, was-refused}
use Rattle.numbers.specs.declared.Cursor.{Cursor}
use Rattle.numbers.specs.declared.Refusal.{Refusal}
use Rattle.values.specs.Pass.{forget, Passed, Alike, alike_then, alike-repeat, alike-bind, alike-flat, alike-nothing}
use Rattle.values.specs.Items.{item, Known, alike-item, Checked}
use Rattle.values.specs.Turns.{Turning, turning-start, turning-next, turning-no, turning-done}

-- an array that gives its own length, of elements that q reads
unfoldable pub counted : Reader ℕ → Reader (List ℕ)
counted q = small >>= λ n. repeat n q

abbrev pub list_of : ℕ → List ℕ → List ℕ → List ℕ → ℕ → Reader (List ℕ)
list_of strings pools first last e = counted (item strings pools first last e)

-- the numbers of a kind: only a constant has no element kind, an array's length is held to the bound, and a map has so many
-- element kinds
pub record Kinds (k a e : ℕ) : Type 0 where
  pub element : 4 < k → (k ≢ 20) → element_kind? e ≡ true
  pub length : k ≡ 15 → a ≤ 65535
  pub types : k ≡ 20 → (2 ≤ a) × (a ≤ 8)
  pub kinds : k ≡ 20 → all element_kind? (put_fixed a e) ≡ true

-- the answer is that of n values of the kind, for every state that has these numbers
pub record ChunkChecked (n k a e strings : ℕ) (pools first last f : List ℕ) (r : Outcome ℕ) : Type 0 where
  pub says : (s : State) → Known s e strings pools first last → forget (out_of r) ≡ forget (repeat n (value s (kind_from k a e)) f 0)
  pub inside : place_of r ≤ length f

-- ── the four forms of a kind ──

module _ (k a e : ℕ) where
  pub value-constant : (s : State) → k ≤ 4 → value s (kind_from k a e) ≡ give []
  unfolding kind_from when◌then◌else◌ value
  value-constant s h =
      elim (dec_le k 3) [
        | yes d ↦ rw (le-leb k 3 d)
        | no d ↦ (let is : k ≡ 4 = omega (arith, lt_of_not-le d) in rw is)
      ]

  pub kind-array : k ≡ 15 → kind_from k a e ≡ array a e
  unfolding kind_from when◌then◌else◌
  kind-array h = rw h

  pub kind-many : 17 ≤ k → k ≤ 19 → kind_from k a e ≡ many k e
  unfolding kind_from when◌then◌else◌
  kind-many h l =
      rw (lt-leb k 3 (omega arith), ne_eqb k 4 (λ q. omega arith), ne_eqb k 15 (λ q. omega arith), le-leb 17 k h, le-leb k 19 l)

  pub kind-plain : 4 < k → (k ≢ 15) → (17 ≤ k → 19 < k) → (k ≢ 20) → kind_from k a e ≡ plain e
  unfolding kind_from when◌then◌else◌
  kind-plain h x y z =
      rw (lt-leb k 3 (omega arith), ne_eqb k 4 (λ q. omega arith), ne_eqb k 15 x)
      (elim (dec_le 17 k) [
        | yes d ↦ rw (le-leb 17 k d, lt-leb k 19 (y d), ne_eqb k 20 z)
        | no d ↦ rw (lt-leb 17 k (lt_of_not-le d), ne_eqb k 20 z)
      ])

-- ── n values are read as code reads them ──

-- arrays of one length lie there as one run
alike-run :
    (n m : ℕ) {s : State} {e strings : ℕ} {pools first last : List ℕ} (f : List ℕ) → Known s e strings pools first last → element_kind? e ≡ true
    → Alike (repeat n (repeat m (element s e))) (repeat (n * m) (item strings pools first last e)) f
alike-run n m {s} {e} f K listed = alike_then (alike-flat (element s e) n m) (alike-repeat (alike-item K listed) (n * m))

module _ {n k a e strings : ℕ} {pools first last f : List ℕ} {r : Outcome ℕ} where
  chunk-by :
      {B : Type 0} (q : Reader B) → Passed q f 0 r
      → ((s : State) → Known s e strings pools first last → Alike (repeat n (value s (kind_from k a e))) q f)
      → ChunkChecked n k a e strings pools first last f r
  chunk-by q P x = record { says = λ s K. P.says ∙ sym ((x s K).at 0); inside = P.inside (omega arith) }

  module _ (listed : element_kind? e ≡ true) where
    pub chunk-array : k ≡ 15 → Checked (n * a) e strings pools first last f 0 r → ChunkChecked n k a e strings pools first last f r
    unfolding value
    chunk-array h C =
        chunk-by (repeat (n * a) (item strings pools first last e)) C.passes (λ s K. rw (kind-array k a e h) (alike-run n a f K listed))

    pub chunk-plain : 4 < k → (k ≢ 15) → (17 ≤ k → 19 < k) → (k ≢ 20) → Checked n e strings pools first last f 0 r → ChunkChecked n k a e strings pools first last f r
    unfolding value
    chunk-plain h x y z C =
        chunk-by (repeat n (item strings pools first last e)) C.passes
        (λ s K. rw (kind-plain k a e h x y z) (rw mul-one at (alike-run n 1 f K listed)))

    pub chunk-lists : 17 ≤ k → k ≤ 19 → Passed (repeat n (list_of strings pools first last e)) f 0 r → ChunkChecked n k a e strings pools first last f r
    unfolding value counted
    chunk-lists h l P =
        chunk-by (repeat n (small >>= λ m. repeat m (item strings pools first last e))) P
        (λ s K. rw (kind-many k a e h l) (alike-repeat (alike-bind small (λ m. alike-repeat (alike-item K listed) m)) n))

-- constants are no bytes
pub constants-read : (n k a e : ℕ) (s : State) (f : List ℕ) → k ≤ 4 → forget (repeat n (value s (kind_from k a e)) f 0) ≡ got tt 0
unfolding give forget
constants-read n k a e s f h = rw (value-constant k a e s h) ((alike-nothing [] n).at 0)

-- ── an array that gives its own length ──

module _ (q : Reader ℕ) {f : List ℕ} {at : ℕ} {a : Outcome ℕ} (R : Read small 65536 f at a) where
  pub counted-cut : {u : Refusal} → a ≡ Err u → Passed (counted q) f at (Err u)
  unfolding counted ◌>>=◌ forget
  counted-cut {u} is =
      let W = was-refused R is in
      record { says = sym (rw W.says); inside = W.inside }

  pub counted-then : {n : ℕ} {c : Cursor} {b : Outcome ℕ} → a ≡ Ok (n, c) → Passed (repeat n q) f c.at b → Passed (counted q) f at b
  unfolding counted ◌>>=◌
  counted-then is P =
      let W = was-got R is in
      record { says = P.says ∙ sym (rw W.says); inside = λ h. P.inside (W.inside h) }

-- arrays of the kind that code chose a reader for
pub lists-by : (n : ℕ) {q p : Reader ℕ} {f : List ℕ} {r : Outcome ℕ} → p ≡ q → Passed (repeat n (counted q)) f 0 r → Passed (repeat n (counted p)) f 0 r
lists-by n is P = rw is P

-- ── arrays, each read by a parameter ──

-- a reader may be called for so many elements from any place of the bytes on, and stays in them
pub record Reads (f : List ℕ) (may : Cursor → ℕ → Type 0) (says : Cursor → ℕ → Outcome ℕ → Type 0) : Type 0 where
  pub may-read : (c : Cursor) (m : ℕ) → c.at ≤ length f → may c m
  pub inside : (c : Cursor) (m : ℕ) (r : Outcome ℕ) → c.at ≤ length f → says c m r → place_of r ≤ length f

-- what it answers is that of so many which q reads
abbrev pub RunsOf : Reader ℕ → List ℕ → (Cursor → ℕ → Outcome ℕ → Type 0) → Type 0
RunsOf q f says = (c : Cursor) (m : ℕ) (r : Outcome ℕ) → says c m r → Passed (repeat m q) f c.at r

-- of n arrays i are read, whatever their elements' reader is
pub record Counting (f : List ℕ) (says : Cursor → ℕ → Outcome ℕ → Type 0) (n i at : ℕ) : Type 0 where
  pub runs : (q : Reader ℕ) → RunsOf q f says → Turning (counted q) f n 0 i at
  pub inside : at ≤ length f

pub counting-start : (f : List ℕ) (says : Cursor → ℕ → Outcome ℕ → Type 0) (n : ℕ) → Counting f says n 0 0
counting-start f says n = record { runs = λ q R. turning-start (counted q) f n 0; inside = omega arith }

module _ {f : List ℕ} {says : Cursor → ℕ → Outcome ℕ → Type 0} {n i at : ℕ} (C : Counting f says n i at) where
  pub counting-done : n ≤ i → (q : Reader ℕ) → RunsOf q f says → Passed (repeat n (counted q)) f 0 (Ok (0, record { at = at }))
  counting-done h q R = turning-done (C.runs q R) 0 h

  module _ (due : i < n) {a : Outcome ℕ} (S : Read small 65536 f at a) where
    pub counting-cut : {u : Refusal} → a ≡ Err u → (q : Reader ℕ) → RunsOf q f says → Passed (repeat n (counted q)) f 0 (Err u)
    counting-cut is q R = turning-no (C.runs q R) due (counted-cut q S is) refl

    module _ {m : ℕ} {b : Cursor} (got : a ≡ Ok (m, b)) {o : Outcome ℕ} (said : says b m o) where
      one : (q : Reader ℕ) → RunsOf q f says → Passed (counted q) f at o
      one q R = counted-then q S got (R b m o said)

      pub counting-no : {u : Refusal} → o ≡ Err u → (q : Reader ℕ) → RunsOf q f says → Passed (repeat n (counted q)) f 0 (Err u)
      counting-no is q R = turning-no (C.runs q R) due (one q R) is

      pub counting-next : {x : ℕ} {d : Cursor} → (b.at ≤ length f → place_of o ≤ length f) → o ≡ Ok (x, d) → Counting f says n (i + 1) d.at
      counting-next stays is =
          record { runs = λ q R. turning-next (C.runs q R) due (one q R) is; inside = rw is at (stays ((was-got S got).inside C.inside)) }

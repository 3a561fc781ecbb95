-- What a question for a field's values asks for, and what the two calls answer it from. Assumes nothing.
use Rattle.std.proofs.Math.Path.{◌≡◌, sym, ap, subst}
use Rattle.std.specs.Prelude.{◌⊎◌, List, ◌++◌, leb, eqb, ℤ}
use Rattle.std.proofs.Common.{◌∙◌, inl, inr}
use Rattle.std.proofs.Math.Option.{Option, some}
use Prim.Native.Nat.{ℕ, ◌≤◌}
use borrow.Author.Tests.{leb-true, le-leb, eqb-true, eq-eqb}
use Rattle.paper.specs.Reader.{got}
use Rattle.paper.specs.Ledger.{Ledger, State, type_named, field_named, field_at, objects_of}
use Rattle.paper.specs.File.{file}
use Rattle.paper.specs.Calls.{done, refused, ◌>>=◌, ◌>>◌, need, found, read, known, column_of, asked, sought, count_values, fill_values}
use Rattle.laws.specs.Bools.{and_split}
use Rattle.laws.specs.Longer.{Begins, file-longer}
use Rattle.laws.specs.Columns.{Grows, known-grows, type-stays, field-stays, column-longer, not_done, bind_done, bind-refused, then-done, need-done, found-done, answered-done}

-- ── what is asked for ──

-- a type and a field that are known, by their names, of a kind that columns are given for, asked for by that kind
pub record Asks (s : State) (type field : List ℕ) (k t i : ℕ) : Type 0 where
  pub typed : type_named s type ≡ some t
  pub fielded : field_named s t field ≡ some i
  pub kind : k ≡ asked (field_at s i).kind
  pub given : k ≤ 32

module _ {s : State} {type field : List ℕ} {k t i : ℕ} where
  pub asks-sought : Asks s type field k t i → sought type field k s ≡ done (t, i)
  unfolding sought found need ◌>>=◌ ◌>>◌
  asks-sought Q = rw (Q.typed, Q.fielded, eq-eqb k _ Q.kind, le-leb k 32 Q.given)

  pub sought-asks : sought type field k s ≡ done (t, i) → Asks s type field k t i
  unfolding sought
  sought-asks q =
      let (u, x, q₁) = bind_done _ _ (t, i) q in
      let (j, y, q₂) = bind_done _ _ (t, i) q₁ in
      let (n, q₃) = need-done _ 18 _ (t, i) q₂ in
      let z : ◌≡◌ {A = ℕ × ℕ} (u, j) (t, i) = cc q₃ in
      let (a, b) = and_split (eqb k (asked (field_at s j).kind)) (leb k 32) n in
      subst (λ (p : ℕ × ℕ). Asks s type field k p.0 p.1) z
      (record { typed = found-done _ 16 u x; fielded = found-done _ 17 j y; kind = eqb-true k _ a; given = leb-true k 32 b })

-- ── the pair of calls ──

-- what an answer was taken from
pub record Taken (type field : List ℕ) (k : ℕ) (f : List ℕ) : Type 0 where
  pub ledger : Ledger
  pub end : ℕ
  pub t : ℕ
  pub i : ℕ
  pub read : file f ≡ got ledger end
  pub asks : Asks (known ledger) type field k t i

module _ (type field : List ℕ) (k table : ℕ) (f : List ℕ) where
  taken-from : {l : Ledger} {t i : ℕ} → read table f ≡ done l → sought type field k (known l) ≡ done (t, i) → Taken type field k f
  unfolding read
  taken-from {l} {t} {i} x y =
      let (e, x') = answered-done _ l (then-done _ _ l x) in
      record { ledger = l; end = e; t = t; i = i; read = x'; asks = sought-asks y }

  module _ {l : Ledger} (x : read table f ≡ done l) where
    fill-sought :
        {t i : ℕ} → sought type field k (known l) ≡ done (t, i) → (room : ℕ)
        → fill_values type field k room table f ≡ (need (leb (objects_of (known l) t) room) 19 >> done (column_of l t i))
    unfolding fill_values ◌>>=◌
    fill-sought y room = rw (x, y)

    fill-unsought : {n : ℕ} → sought type field k (known l) ≡ refused n → (room : ℕ) → fill_values type field k room table f ≡ refused n
    unfolding fill_values ◌>>=◌
    fill-unsought y room = rw (x, y)

  fill-unread : {n : ℕ} → read table f ≡ refused n → (room : ℕ) → fill_values type field k room table f ≡ refused n
  unfolding fill_values ◌>>=◌
  fill-unread x room = rw x

  -- where the first call answers n, n values are there for the second one to write, when there is room for so many
  pub count-done :
      (n : ℕ) → count_values type field k table f ≡ done n
      → (T : Taken type field k f) ×
      (n ≡ objects_of (known T.ledger) T.t) ×
      ((room : ℕ) → fill_values type field k room table f ≡ (need (leb n room) 19 >> done (column_of T.ledger T.t T.i)))
  unfolding count_values taken-from
  count-done n q =
      let (l, x, q₁) = bind_done _ _ n q in
      let ((t, i), y, q₂) = bind_done _ _ n q₁ in
      let is : objects_of (known l) t ≡ n = cc q₂ in
      (taken-from x y, sym is, λ room. fill-sought x y room ∙ ap (λ (m : ℕ). need (leb m room) 19 >> done (column_of l t i)) is)

  -- and where it refuses, the second one does likewise
  pub count-refused : (n : ℕ) → count_values type field k table f ≡ refused n → (room : ℕ) → fill_values type field k room table f ≡ refused n
  unfolding count_values
  count-refused n q room = unread (bind-refused _ _ n q)
    where
      unsought : (l : Ledger) → read table f ≡ done l → (sought type field k (known l) ≡ refused n) ⊎ ((p : ℕ × ℕ) × (sought type field k (known l) ≡ done p) × (done (objects_of (known l) p.0) ≡ refused n)) → fill_values type field k room table f ≡ refused n
      unsought l x (inl y) = fill-unsought x y room
      unsought l x (inr (p, _, z)) = not_done (sym z)

      unread : (read table f ≡ refused n) ⊎ ((l : Ledger) × (read table f ≡ done l) × ((sought type field k (known l) >>= λ p. done (objects_of (known l) p.0)) ≡ refused n)) → fill_values type field k room table f ≡ refused n
      unread (inl x) = fill-unread x room
      unread (inr (l, x, y)) = unsought l x (bind-refused _ _ n y)

  pub fill_done :
      (room : ℕ) (c : List ℤ) → fill_values type field k room table f ≡ done c
      → (T : Taken type field k f) × (objects_of (known T.ledger) T.t ≤ room) × (c ≡ column_of T.ledger T.t T.i)
  unfolding fill_values taken-from
  fill_done room c q =
      let (l, x, q₁) = bind_done _ _ c q in
      let ((t, i), y, q₂) = bind_done _ _ c q₁ in
      let (fits, z) = need-done _ 19 _ c q₂ in
      (taken-from x y, leb-true (objects_of (known l) t) room fits, sym (cc z))

some_same : {a b : ℕ} {o : Option ℕ} → o ≡ some a → o ≡ some b → a ≡ b
some_same p q = cc

-- the column of a longer accepted file begins with the shorter one's
pub columns-longer :
    (type field : List ℕ) (k room room' table table' : ℕ) (f g : List ℕ) (c c' : List ℤ) → fill_values type field k room table f ≡ done c
    → fill_values type field k room' table' (f ++ g) ≡ done c' → Begins c c'
columns-longer type field k room room' table table' f g c c' p q =
    let (T, _, is) = fill_done type field k table f room c p in
    let (U, _, is') = fill_done type field k table' (f ++ g) room' c' q in
    let B = file-longer f g T.ledger U.ledger T.end U.end T.read U.read in
    let G : Grows (known T.ledger) (known U.ledger) = rw B.is (known-grows T.ledger B.rest) in
    let same-type = some_same (type-stays _ _ type T.t G T.asks.typed) U.asks.typed in
    let F = field-stays _ _ T.t field T.i G T.asks.fielded in
    let same-field : T.i ≡ U.i = some_same F.0 (rw same-type U.asks.fielded) in
    let L = column-longer T.ledger B.rest T.t T.i (rw (← B.is) F.1) in
    rw (is, is', ← same-type, ← same-field, B.is) L

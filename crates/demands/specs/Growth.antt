-- Demand 3, growth: the column of a longer file begins with the whole of the shorter file's. Assumes nothing.
use Rattle.std.specs.Prelude.{◌≡◌, refl, List, [], ◌∷◌, ◌++◌, ℕ, ◌≤◌, ◌<◌, ℤ, length, take, Result, Ok}
use Rattle.std.proofs.Common.{sym, ap, ◌∙◌, arith, length-append}
use Rattle.paper.specs.Reader.{Out, got, no}
use Rattle.paper.specs.Bounds.{table_length}
use Rattle.paper.specs.Ledger.{Ledger, Field, field_at, objects_of}
use Rattle.paper.specs.Calls.{done, known, asked, column_of, fill_values}
use Rattle.laws.specs.Longer.{Begins, file-longer}
use Rattle.laws.specs.Columns.{Grows, known-grows, type-stays, field-stays}
use Rattle.laws.specs.Asked.{Asks, columns-longer}
use Rattle.calls.specs.declared.replies.Refused.{Refused}
use Rattle.demands.specs.Replies.{front-is}
use Rattle.demands.specs.Exact.{Follows, follows-accepted, fills, column-objects, Counted, Filled, counts-exactly, fills-exactly}

-- what a file says begins what a longer one says
follows-longer : (f g : List ℕ) (l m : Ledger) → Follows f l → Follows (f ++ g) m → Begins l m
follows-longer f g l m F G =
    file-longer f g l m (length f) (length (f ++ g)) (follows-accepted F).reads
    (follows-accepted G).reads

-- a type and a field of the shorter file are those of the longer one
asks-longer : (l m : Ledger) (type field : List ℕ) (k t i : ℕ) → Begins l m → Asks (known l) type field k t i → Asks (known m) type field k t i
asks-longer l m type field k t i B Q =
    let G : Grows (known l) (known m) = rw B.is (known-grows l B.rest) in
    let F = field-stays (known l) (known m) t field i G Q.fielded in
    record {
      typed = type-stays (known l) (known m) type t G Q.typed;
      fielded = F.0;
      kind = Q.kind ∙ ap (λ (x : Field). asked x.kind) (sym F.1);
      given = Q.given;
    }

-- replies of the pair of calls, first to how many (a, b) and then to which (r, q), of a file and of a longer one, and their outputs: the longer
-- file has at least as many values, and with room for both columns the longer one begins with the whole of the shorter one
abbrev pub Grown : List ℕ → List ℕ → List ℕ → List ℕ → ℕ → List ℤ → List ℤ → Result ℕ Refused → Result ℕ Refused → Result ℕ Refused → Result ℕ Refused → List ℤ → List ℤ → Type 0
Grown f longer type field k out out' a b r q o p =
    (g : List ℕ) (l m : Ledger) (t i : ℕ) → longer ≡ f ++ g → Follows f l → Follows longer m → Asks (known l) type field k t i
    → (a ≡ Ok (objects_of (known l) t)) ×
    (b ≡ Ok (objects_of (known m) t)) ×
    (objects_of (known l) t ≤ objects_of (known m) t) ×
    (objects_of (known l) t ≤ length out → objects_of (known m) t ≤ length out'
    → (r ≡ Ok (objects_of (known l) t)) ×
    (q ≡ Ok (objects_of (known m) t)) ×
    Begins (take (objects_of (known l) t) o) (take (objects_of (known m) t) p))

module _ (f longer type field : List ℕ) (k : ℕ) (g : List ℕ) (l m : Ledger) (t i : ℕ) (is : longer ≡ f ++ g) (F : Follows f l) (G : Follows longer m) (Q : Asks (known l) type field k t i) where
  still-asks : Asks (known m) type field k t i
  still-asks = let G' : Follows (f ++ g) m = rw is at G in asks-longer l m type field k t i (follows-longer f g l m F G') Q

  columns-begin : Begins (column_of l t i) (column_of m t i)
  columns-begin =
      let a = fills f l F type field k t i Q (objects_of (known l) t) table_length (omega arith) (omega arith) in
      let b = fills longer m G type field k t i still-asks (objects_of (known m) t) table_length (omega arith) (omega arith) in
      let b' : fill_values type field k (objects_of (known m) t) table_length (f ++ g) ≡ done (column_of m t i) = rw is at b in
      columns-longer type field k (objects_of (known l) t) (objects_of (known m) t) table_length table_length f g (column_of l t i) (column_of m t i) a b'

  no-fewer : objects_of (known l) t ≤ objects_of (known m) t
  no-fewer =
      let B = columns-begin in
      let all = ap length B.is ∙ length-append (column_of l t i) B.rest in
      omega (arith, all, column-objects f l F type field k t i Q, column-objects longer m G type field k t i still-asks)

pub grows :
    (f longer type field : List ℕ) (k : ℕ) (out out' : List ℤ) {a b r q : Result ℕ Refused} {o p : List ℤ} → Counted f type field k a → Counted longer type field k b
    → Filled f type field k out r o → Filled longer type field k out' q p → Grown f longer type field k out out' a b r q o p
grows f longer type field k out out' {o = o} {p = p} A B C D g l m t i is F G Q =
    let Q' = still-asks f longer type field k g l m t i is F G Q in (
      counts-exactly A l t i F Q,
      counts-exactly B m t i G Q',
      no-fewer f longer type field k g l m t i is F G Q,
      (λ fits fits'.
          let (x, many, y) = fills-exactly C l t i F Q fits in
          let (x', many', y') = fills-exactly D m t i G Q' fits' in
          let front = front-is (objects_of (known l) t) (column_of l t i) o _ (sym many) y in
          let front' = front-is (objects_of (known m) t) (column_of m t i) p _ (sym many') y' in
          (x, x', rw (front, front') (columns-begin f longer type field k g l m t i is F G Q))),
    )

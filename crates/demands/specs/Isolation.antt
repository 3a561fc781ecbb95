-- Demand 3, isolation: bytes that differ inside the chunks of one field change no other column. Assumes nothing.
use Rattle.std.specs.Prelude.{◌≡◌, refl, Bool, true, false, ◌&&◌, List, [], ◌∷◌, ℕ, zero, suc, ◌+◌, ◌≤◌, ◌<◌, leb, eqb, ℤ, get_or, take, Result, Ok}
use Rattle.std.proofs.Math.Path.{sym, ap}
use Rattle.std.proofs.Common.{◌∙◌, arith, eqb-true}
use Rattle.std.proofs.Math.Option.{Option, none, some}
use Rattle.std.proofs.Math.ListN.{length}
use Rattle.paper.specs.Reader.{when◌then◌else◌}
use Rattle.paper.specs.Bounds.{table_length}
use Rattle.paper.specs.Lists.{same, place, place_named}
use Rattle.paper.specs.Ledger.{Ledger, State, Field, no_field, type_named, field_named, field_at, objects_of, called?, owns?}
use Rattle.paper.specs.Places.{Spot, spots_from, pair_spots, spots_of, spots, inside?}
use Rattle.paper.specs.Table.{E, E-with}
use Rattle.paper.specs.Whole.{whole as all-of-it}
use Rattle.paper.specs.Calls.{Answer, done, read, known, column_of, tells, writes, after_count, after_fill}
use Rattle.laws.specs.Bools.{not_so, and_split}
use Rattle.laws.specs.Says.{Bytes}
use Rattle.laws.specs.Damage.{count-alike, fill-alike}
use Rattle.calls.specs.Fixed.{same-reply}
use Rattle.calls.specs.declared.replies.Refused.{Refused}
use Rattle.demands.specs.Replies.{front-is}
use Rattle.demands.specs.Exact.{Follows, follows-bytes, follows-read, follows-check, Counted, Filled, count-says, counts-exactly, counts-only, fills-exactly}
use Rattle.demands.specs.Pair.{then_fill, same_count, pair-agrees}

-- ── a name names one thing ──

same_bytes : (a b : List ℕ) → same a b ≡ true → a ≡ b
unfolding same
same_bytes [] [] h = refl
same_bytes [] (y ∷ b) h = not_so h
same_bytes (x ∷ a) [] h = not_so h
same_bytes (x ∷ a) (y ∷ b) h =
    let (p, q) = and_split (eqb x y) _ h in
    ap (λ (z : ℕ). z ∷ a) (eqb-true x y p) ∙ ap (λ (z : List ℕ). y ∷ z) (same_bytes a b q)

-- what is found passes
place-passes : {A : Type 0} (p : A → Bool) (d : A) (i t : ℕ) (xs : List A) → place p i xs ≡ some t → (k : ℕ) × (t ≡ i + k) × (p (get_or xs k d) ≡ true)
unfolding place when◌then◌else◌
place-passes p d i t [] h = let z : ◌≡◌ {A = ℕ} 0 1 = cc h in absurd (omega arith)
place-passes p d i t (x ∷ xs) h = go (place-passes p d (suc i) t xs) (p x) refl h
  where
    go :
        (place p (suc i) xs ≡ some t → (k : ℕ) × (t ≡ suc i + k) × (p (get_or xs k d) ≡ true)) → (b : Bool) → p x ≡ b → (when b then some i else place p (suc i) xs) ≡ some t
        → (k : ℕ) × (t ≡ i + k) × (p (get_or (x ∷ xs) k d) ≡ true)
    go ih true e q = let z : i ≡ t = cc q in (0, omega arith, e)
    go ih false e q = let (k, y, z) = ih q in (suc k, omega arith, z)

named-passes :
    {A B : Type 0} (p : A → B → Bool) (d : A) (c : B) (i t : ℕ) (xs : List A) (ys : List B) → place_named p i xs ys ≡ some t
    → (k : ℕ) × (t ≡ i + k) × (p (get_or xs k d) (get_or ys k c) ≡ true)
unfolding place_named when◌then◌else◌
named-passes p d c i t [] ys h = let z : ◌≡◌ {A = ℕ} 0 1 = cc h in absurd (omega arith)
named-passes p d c i t (x ∷ xs) [] h = let z : ◌≡◌ {A = ℕ} 0 1 = cc h in absurd (omega arith)
named-passes p d c i t (x ∷ xs) (y ∷ ys) h = go (named-passes p d c (suc i) t xs ys) (p x y) refl h
  where
    go :
        (place_named p (suc i) xs ys ≡ some t → (k : ℕ) × (t ≡ suc i + k) × (p (get_or xs k d) (get_or ys k c) ≡ true)) → (b : Bool) → p x y ≡ b
        → (when b then some i else place_named p (suc i) xs ys) ≡ some t → (k : ℕ) × (t ≡ i + k) × (p (get_or (x ∷ xs) k d) (get_or (y ∷ ys) k c) ≡ true)
    go ih true e q = let z : i ≡ t = cc q in (0, omega arith, e)
    go ih false e q = let (k, u, v) = ih q in (suc k, omega arith, v)

type-name : (s : State) (name : List ℕ) (t : ℕ) → type_named s name ≡ some t → name ≡ get_or s.type_names t []
unfolding type_named
type-name s name t h =
    let (k, e, q) = place-passes (same name) [] 0 t s.type_names h in
    let z : k ≡ t = omega arith in
    same_bytes name _ (rw z at q)

field-name : (s : State) (t : ℕ) (name : List ℕ) (i : ℕ) → field_named s t name ≡ some i → ((get_or s.fields i no_field).owner ≡ t) × (name ≡ get_or s.field_names i [])
unfolding field_named called? owns?
field-name s t name i h =
    let (k, e, q) = named-passes (called? t name) no_field [] 0 i s.fields s.field_names h in
    let z : k ≡ i = omega arith in
    let (a, b) = and_split (eqb (get_or s.fields i no_field).owner t) _ (rw z at q) in
    (eqb-true _ t a, same_bytes name _ b)

-- the names of a field's type and its own are told by its place
names-once :
    (s : State) (type field type' field' : List ℕ) (t t' i : ℕ) → type_named s type ≡ some t → field_named s t field ≡ some i → type_named s type' ≡ some t'
    → field_named s t' field' ≡ some i → (type' ≡ type) × (field' ≡ field)
names-once s type field type' field' t t' i a b c d =
    let (o, n) = field-name s t field i b in
    let (o', n') = field-name s t' field' i d in
    let z : t' ≡ t = sym o' ∙ o in
    (type-name s type' t' c ∙ ap (λ (x : ℕ). get_or s.type_names x []) z ∙ sym (type-name s type t a), n' ∙ sym n)

-- ── the calls ──

-- replies of the pair of calls, first to how many (a, b) and then to which (r, q), of two files that differ only in bytes inside the chunks of
-- one field (at every other place they have the same byte), and their outputs: both have as many values of every field, be it this
-- one, and the same values of every other field; the second call's reply is fixed by the first one's
abbrev pub Isolated : List ℕ → List ℕ → List ℕ → List ℕ → List ℤ → List ℤ → Result ℕ Refused → Result ℕ Refused → Result ℕ Refused → Result ℕ Refused → List ℤ → List ℤ → Type 0
Isolated f g type field out out' a b r q o p =
    (l m : Ledger) (type' field' : List ℕ) (t i : ℕ) → Follows f l → Follows g m → type_named (known l) type' ≡ some t → field_named (known l) t field' ≡ some i
    → length f ≡ length g → ((at : ℕ) → inside? i at (spots f) ≡ false → get_or f at 0 ≡ get_or g at 0)
    → (a ≡ b) ×
    (r ≡ then_fill a (length out)) ×
    (q ≡ then_fill b (length out')) ×
    (((type ≡ type') × (field ≡ field') → ⊥) → (n : ℕ) → a ≡ Ok n → n ≤ length out → n ≤ length out' → take n o ≡ take n p)

module _ (f g type field : List ℕ) (k : ℕ) (l m : Ledger) (i : ℕ) (F : Follows f l) (G : Follows g m) (long : length f ≡ length g) (off : (at : ℕ) → inside? i at (spots f) ≡ false → get_or f at 0 ≡ get_or g at 0) where
  -- the file is as good as the other one
  counted-alike : {b : Result ℕ Refused} → Counted g type field k b → Counted f type field k b
  unfolding after_count
  counted-alike {b} B =
      let table = length B.work in
      let same = count-alike i table f g long (follows-check f l F table B.long) (follows-check g m G table B.long) (λ at _ x. off at x) type field k in
      record { work = B.work; left = B.left; long = B.long; replied = B.replied ∙ ap (λ (x : Answer ℕ). tells x B.work) (sym same) }

  filled-alike :
      {out : List ℤ} {q : Result ℕ Refused} {p : List ℤ} → ((t : ℕ) → type_named (known l) type ≡ some t → field_named (known l) t field ≡ some i → ⊥) → Filled g type field k out q p
      → Filled f type field k out q p
  unfolding after_fill
  filled-alike {out} other D =
      let table = length D.work in
      let same = fill-alike i table f g long (follows-check f l F table D.long) (follows-check g m G table D.long) (λ at _ x. off at x) type field k (length out) not-it in
      record { work = D.work; left = D.left; long = D.long; replied = D.replied ∙ ap (λ (x : Answer (List ℤ)). writes x D.work out) (sym same) }
    where
      not-it : (l' : Ledger) (t : ℕ) → read (length D.work) f ≡ done l' → type_named (known l') type ≡ some t → field_named (known l') t field ≡ some i → ⊥
      not-it l' t x y z =
          let e : done l' ≡ done l = sym x ∙ follows-read f l F (length D.work) D.long in
          let u : l' ≡ l = cc e in
          other t (rw u at y) (rw u at z)

-- two replies to one question of one file
one-counted : {f type field : List ℕ} {k : ℕ} {a b : Result ℕ Refused} → Counted f type field k a → Counted f type field k b → a ≡ b
one-counted {f} {type} {field} {k} {a} {b} A B =
    same-reply a b (count-says A ∙ same_count f type field k (length A.work) (length B.work) A.long B.long ∙ sym (count-says B))

-- and its values, whatever room there is for them
one-filled :
    {f type field : List ℕ} {k : ℕ} {out out' : List ℤ} {a r q : Result ℕ Refused} {o p : List ℤ} → Bytes f → Counted f type field k a → Filled f type field k out r o → Filled f type field k out' q p → (n : ℕ)
    → a ≡ Ok n → n ≤ length out → n ≤ length out' → take n o ≡ take n p
one-filled {o = o} {p = p} bytes A C D n is fits fits' =
    let (l, t, i, F, Q) = counts-only A n bytes is in
    let z : ◌≡◌ {A = Result ℕ Refused} (Ok n) (Ok (objects_of (known l) t)) = sym is ∙ counts-exactly A l t i F Q in
    let e : n ≡ objects_of (known l) t = cc z in
    let (_, many, y) = fills-exactly C l t i F Q (omega arith) in
    let (_, _, y') = fills-exactly D l t i F Q (omega arith) in
    let count = e ∙ sym many in
    front-is n (column_of l t i) o _ count y ∙ sym (front-is n (column_of l t i) p _ count y')

pub isolated :
    (f g type field : List ℕ) (k : ℕ) (out out' : List ℤ) {a b r q : Result ℕ Refused} {o p : List ℤ} → Counted f type field k a → Counted g type field k b → Filled f type field k out r o
    → Filled g type field k out' q p → Isolated f g type field out out' a b r q o p
isolated f g type field k out out' A B C D l m type' field' t i F G typed fielded long off =
    let bytes = follows-bytes f l F in (
      one-counted A (counted-alike f g type field k l m i F G long off B),
      pair-agrees bytes A C,
      pair-agrees (follows-bytes g m G) B D,
      (λ other. one-filled bytes A C (filled-alike f g type field k l m i F G long off (λ t' y z. other (names-once (known l) type' field' type field t t' i typed fielded y z)) D)),
    )

-- ── the places of the chunks, in E: ten bytes of the first pair, two of the second ──

pub E-spots : spots E ≡ record { field = 0; start = 19; end = 29 } ∷ record { field = 0; start = 35; end = 37 } ∷ []
unfolding all-of-it E E-with spots spots_of pair_spots spots_from
E-spots = refl

-- What the calls answer fits a signed number: a refusal is one of the paper's numbers, a count of objects and the length of a
-- column are at most 65,535, and what is built has no more bytes than a file may have. Assumes nothing.
use Rattle.std.specs.Prelude.{◌≡◌, refl, Bool, true, false, ◌&&◌, ◌||◌, not, ◌⊎◌, List, ℕ, ◌≤◌, leb, eqb, ℤ, length}
use Rattle.std.proofs.Common.{ap, inl, inr, arith, leb-true, le-leb, eqb-true, ne_eqb}
use Rattle.std.proofs.Math.Option.{Option, none, some}
use Rattle.paper.specs.Reader.{when◌then◌else◌, Out, got, no}
use Rattle.paper.specs.Bounds.{most_bytes, most_objects, table_length}
use Rattle.paper.specs.Ledger.{Ledger, objects_of}
use Rattle.paper.specs.File.{file}
use Rattle.paper.specs.Encode.{encode}
use Rattle.paper.specs.Scan.{short, file_of}
use Rattle.paper.specs.Calls.{Answer, done, refused, ◌>>=◌, ◌>>◌, need, found, answered, read, known, check, objects, sought, count_values, fill_values, fitted, listing, build}
use Rattle.laws.specs.Says.{Bytes}
use Rattle.laws.specs.Bools.{and_split, and-join, not_so}
use Rattle.laws.specs.Exact.{file-kept}
use Rattle.laws.specs.Columns.{bind_done, then-done, found-done, answered-done}
use Rattle.laws.specs.Lengths.{count-objects, fill-counted}
use Rattle.laws.specs.Objects.{ledger-objects}
use Rattle.laws.specs.Promises.{fitted-inv}
use Rattle.laws.specs.Refused.{file_refusal?, file-refusals}

-- ── a refusal is one of the paper's numbers ──

abbrev refusal? : ℕ → Bool
refusal? n = not (eqb n 2) && (leb 1 n && leb n 21)

-- 1 to 21, and 2 is not given
abbrev pub Refusal : ℕ → Type 0
Refusal n = (1 ≤ n) × (n ≤ 21) × (n ≡ 2 → ⊥)

-- those of a call that has no output: 19 is not one of them
abbrev unlent? : ℕ → Bool
unlent? n = not (eqb n 19) && refusal? n

-- an answer's refusal is one of some
record Numbered (p : ℕ → Bool) {A : Type 0} (a : Answer A) : Type 0 where
  is : (n : ℕ) → a ≡ refused n → p n ≡ true

module _ {p : ℕ → Bool} {A : Type 0} where
  done-numbered : (a : A) → Numbered p (done a)
  done-numbered a = record { is = λ n q. let z : ◌≡◌ {A = ℕ} 0 1 = cc q in absurd (omega arith) }

  refused-numbered : (n : ℕ) → p n ≡ true → Numbered p {A = A} (refused n)
  refused-numbered n h = record { is = λ m q. let z : n ≡ m = cc q in rw z at h }

  found-numbered : (o : Option A) (n : ℕ) → p n ≡ true → Numbered p (found o n)
  unfolding found
  found-numbered none n h = refused-numbered n h
  found-numbered (some a) n h = done-numbered a

bind-numbered : {p : ℕ → Bool} {A B : Type 0} {a : Answer A} {k : A → Answer B} → Numbered p a → ((x : A) → Numbered p (k x)) → Numbered p (a >>= k)
unfolding ◌>>=◌
bind-numbered {a = done x} h K = K x
bind-numbered {a = refused n} h K = refused-numbered n (h.is n refl)

then-numbered : {p : ℕ → Bool} {A B : Type 0} {a : Answer A} {b : Answer B} → Numbered p a → Numbered p b → Numbered p (a >> b)
unfolding ◌>>◌
then-numbered h k = bind-numbered h λ x. k

need-numbered : {p : ℕ → Bool} (c : Bool) (n : ℕ) → p n ≡ true → Numbered p (need c n)
unfolding need
need-numbered true n h = done-numbered tt
need-numbered false n h = refused-numbered n h

-- the file's own are below 19 or 21
file-unlent : (n : ℕ) → file_refusal? n ≡ true → unlent? n ≡ true
unfolding file_refusal?
file-unlent n h = go (not (eqb n 2) && (leb 1 n && leb n 14)) refl h
  where
    go : (b : Bool) → (not (eqb n 2) && (leb 1 n && leb n 14)) ≡ b → (b || eqb n 21) ≡ true → unlent? n ≡ true
    go true e h =
        let (z, w) = and_split (not (eqb n 2)) _ e in
        let (x, y) = and_split (leb 1 n) _ w in
        let most = leb-true n 14 y in
        let below : not (eqb n 19) ≡ true = rw (ne_eqb n 19 (λ q. omega arith)) in
        and-join below (and-join z (and-join x (le-leb n 21 (omega arith))))
    go false e h = rw (eqb-true n 21 h)

read-unlent : (table : ℕ) (f : List ℕ) → Numbered unlent? (read table f)
unfolding read answered
read-unlent table f = then-numbered (need-numbered _ 15 refl) (go (file f) refl)
  where
    go : (o : Out Ledger) → file f ≡ o → Numbered unlent? (answered o)
    go (got l e) q = done-numbered l
    go (no n p) q = refused-numbered n (file-unlent n (file-refusals f n p q))

read-numbered : (table : ℕ) (f : List ℕ) → Numbered refusal? (read table f)
read-numbered table f = record { is = λ n q. (and_split (not (eqb n 19)) _ ((read-unlent table f).is n q)).1 }

ruleset numbered = (bind-numbered, then-numbered, done-numbered, need-numbered, found-numbered, read-numbered, read-unlent)

module _ {A : Type 0} {a : Answer A} where
  one_of : Numbered refusal? a → (n : ℕ) → a ≡ refused n → Refusal n
  one_of N n q =
      let (z, w) = and_split (not (eqb n 2)) _ (N.is n q) in
      let (x, y) = and_split (leb 1 n) _ w in
      (leb-true 1 n x, leb-true n 21 y, λ e. let u : false ≡ true = rw e at z in not_so u)

  -- and it is not 19
  one-unlent : Numbered unlent? a → (n : ℕ) → a ≡ refused n → Refusal n × (n ≡ 19 → ⊥)
  one-unlent N n q =
      let (z, _) = and_split (not (eqb n 19)) _ (N.is n q) in
      let all : Numbered refusal? a = record { is = λ m x. (and_split (not (eqb m 19)) _ (N.is m x)).1 } in
      (one_of all n q, λ e. let u : false ≡ true = rw e at z in not_so u)

pub check-refusals : (table : ℕ) (f : List ℕ) (n : ℕ) → check table f ≡ refused n → Refusal n
unfolding check
check-refusals table f = one_of (search numbered)

pub objects-refusals : (type : List ℕ) (table : ℕ) (f : List ℕ) (n : ℕ) → objects type table f ≡ refused n → Refusal n
unfolding objects
objects-refusals type table f = one_of (search numbered)

pub count-refusals : (type field : List ℕ) (k table : ℕ) (f : List ℕ) (n : ℕ) → count_values type field k table f ≡ refused n → Refusal n × (n ≡ 19 → ⊥)
unfolding count_values sought
count-refusals type field k table f = one-unlent (search numbered depth 9)

pub fill-refusals : (type field : List ℕ) (k room table : ℕ) (f : List ℕ) (n : ℕ) → fill_values type field k room table f ≡ refused n → Refusal n
unfolding fill_values sought
fill-refusals type field k room table f = one_of (search numbered depth 9)

pub listing-refusals : (room table : ℕ) (f : List ℕ) (n : ℕ) → listing room table f ≡ refused n → Refusal n
unfolding listing fitted
listing-refusals room table f = one_of (search numbered)

-- a build refuses by 15, 20 and 19 alone
pub build-refusal : (room table : ℕ) (t : List ℕ) (n : ℕ) → build room table t ≡ refused n → (n ≡ 15) ⊎ ((n ≡ 20) ⊎ (n ≡ 19))
unfolding build need found fitted ◌>>=◌ ◌>>◌
build-refusal room table t n q = go (leb table_length table) (file_of t) q
  where
    room-only : (b : Bool) (f : List ℕ) → (need b 19 >> done f) ≡ refused n → n ≡ 19
    room-only true f q = let z : ◌≡◌ {A = ℕ} 0 1 = cc q in absurd (omega arith)
    room-only false f q = cc q

    go : (b : Bool) (o : Option (List ℕ)) → (need b 15 >> (found o 20 >>= fitted room)) ≡ refused n → (n ≡ 15) ⊎ ((n ≡ 20) ⊎ (n ≡ 19))
    go false o q = inl (cc q)
    go true none q = inr (inl (cc q))
    go true (some f) q = inr (inr (room-only (leb (length f) room) f q))

pub build-refusals : (room table : ℕ) (t : List ℕ) (n : ℕ) → build room table t ≡ refused n → Refusal n
build-refusals room table t n q = go (build-refusal room table t n q)
  where
    go : (n ≡ 15) ⊎ ((n ≡ 20) ⊎ (n ≡ 19)) → Refusal n
    go (inl is) = (omega arith, omega arith, λ e. omega arith)
    go (inr (inl is)) = (omega arith, omega arith, λ e. omega arith)
    go (inr (inr is)) = (omega arith, omega arith, λ e. omega arith)

-- ── and an answer is at most 65,535 ──

pub objects-most : (type : List ℕ) (table : ℕ) (f : List ℕ) (m : ℕ) → Bytes f → objects type table f ≡ done m → m ≤ most_objects
unfolding objects read known
objects-most type table f m b q =
    let (l, x, q₁) = bind_done _ _ m q in
    let (e, y) = answered-done _ l (then-done _ _ l x) in
    let (t, _, q₂) = bind_done _ _ m q₁ in
    let z : objects_of (known l) t ≡ m = cc q₂ in
    omega (arith, ledger-objects l t (file-kept f l e b y).1)

pub count_most : (type field : List ℕ) (k table : ℕ) (f : List ℕ) (n : ℕ) → Bytes f → count_values type field k table f ≡ done n → n ≤ most_objects
count_most type field k table f n b q = objects-most type table f n b (count-objects type field k table f n q)

pub fill-most : (type field : List ℕ) (k room table : ℕ) (f : List ℕ) (c : List ℤ) → Bytes f → fill_values type field k room table f ≡ done c → length c ≤ most_objects
fill-most type field k room table f c b q = count_most type field k table f (length c) b (fill-counted type field k table f b room c q).0

-- ── what is built is a file, and has no more bytes than one may have ──

short-most : (o : Out Ledger) (f : List ℕ) → short o ≡ some f → length f ≤ most_bytes
unfolding short when◌then◌else◌
short-most (no n p) f q = let z : ◌≡◌ {A = ℕ} 0 1 = cc q in absurd (omega arith)
short-most (got l e) f q = go (leb (length (encode l)) most_bytes) refl q
  where
    go : (b : Bool) → leb (length (encode l)) most_bytes ≡ b → (when b then some (encode l) else none) ≡ some f → length f ≤ most_bytes
    go true h q = let z : encode l ≡ f = cc q in omega (arith, leb-true (length (encode l)) most_bytes h, ap length z)
    go false h q = let z : ◌≡◌ {A = ℕ} 0 1 = cc q in absurd (omega arith)

pub build-most : (room table : ℕ) (t f : List ℕ) → build room table t ≡ done f → length f ≤ most_bytes
unfolding build file_of
build-most room table t f q =
    let (g, x, z) = bind_done _ _ f (then-done _ _ f q) in
    let same : g ≡ f = (fitted-inv room g f z).0 in
    omega (arith, short-most _ g (found-done _ 20 g x), ap length same)

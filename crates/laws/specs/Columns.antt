-- The columns of a longer file begin with those of the shorter one. Assumes nothing.
use Rattle.std.specs.Prelude.{◌≡◌, refl, Bool, true, false, ◌⊎◌, List, [], ◌∷◌, ◌++◌, ℕ, suc, ◌+◌, ◌<◌, length, get_or, replicate}
use Rattle.std.proofs.Common.{sym, ◌∙◌, ap, inl, inr, append_assoc, append-nil, arith}
use Rattle.std.proofs.Math.Option.{Option, none, some}
use Rattle.std.proofs.lemmas.List.{replicate-append-replicate}
use Rattle.std.proofs.Math.ListN.{get_or-append}
use Rattle.paper.specs.Reader.{when◌then◌else◌, Out, got, no}
use Rattle.paper.specs.Ledger.{mapping, Kind, constant, plain, array, many, New, Head, Entry, Pair, Ledger, State, nothing, type_named, field_named, field_at, no_field, objects_of, of?, size, called?}
use Rattle.paper.specs.Lists.{place, total, fold, place_named}
use Rattle.paper.specs.Rules.{with_strings, new_type, new_range, after_head, after_new, after_entry, dues, closed, after_front, after_pair, new_name}
use Rattle.paper.specs.Calls.{Answer, done, refused, ◌>>=◌, ◌>>◌, need, found, answered, known, chunk_values, field_values, column_by, column_of}
use Rattle.laws.specs.Longer.{Begins}

-- ── lists that begin others ──

begins-refl : {A : Type 0} (l : List A) → Begins l l
begins-refl l = record { rest = []; is = sym (append-nil l) }

begins-more : {A : Type 0} (l m : List A) → Begins l (l ++ m)
begins-more l m = record { rest = m; is = refl }

begins-trans : {A : Type 0} {l m n : List A} → Begins l m → Begins m n → Begins l n
begins-trans {A} {l} a b =
    record { rest = a.rest ++ b.rest; is = b.is ∙ ap (λ (z : List A). z ++ b.rest) a.is ∙ append_assoc l a.rest b.rest }

place-append : {A : Type 0} (p : A → Bool) (i t : ℕ) (xs ys : List A) → place p i xs ≡ some t → place p i (xs ++ ys) ≡ some t
unfolding place when◌then◌else◌
place-append p i t [] ys h = let z : ◌≡◌ {A = ℕ} 0 1 = cc h in absurd (omega arith)
place-append p i t (x ∷ xs) ys h = go (place-append p (suc i) t xs ys) (p x) h
  where
    go : (place p (suc i) xs ≡ some t → place p (suc i) (xs ++ ys) ≡ some t) → (b : Bool) → (when b then some i else place p (suc i) xs) ≡ some t → (when b then some i else place p (suc i) (xs ++ ys)) ≡ some t
    go ih true q = q
    go ih false q = ih q

pub place-lt : {A : Type 0} (p : A → Bool) (i t : ℕ) (xs : List A) → place p i xs ≡ some t → t < i + length xs
unfolding place when◌then◌else◌
place-lt p i t [] h = let z : ◌≡◌ {A = ℕ} 0 1 = cc h in absurd (omega arith)
place-lt p i t (x ∷ xs) h = go (place-lt p (suc i) t xs) (p x) h
  where
    go : (place p (suc i) xs ≡ some t → t < suc i + length xs) → (b : Bool) → (when b then some i else place p (suc i) xs) ≡ some t → t < i + suc (length xs)
    go ih true q = let z : i ≡ t = cc q in omega arith
    go ih false q = omega (arith, ih q)

named-append : {A B : Type 0} (p : A → B → Bool) (i t : ℕ) (xs xs' : List A) (ys ys' : List B) → place_named p i xs ys ≡ some t → place_named p i (xs ++ xs') (ys ++ ys') ≡ some t
unfolding place_named when◌then◌else◌
named-append p i t [] xs' ys ys' h = let z : ◌≡◌ {A = ℕ} 0 1 = cc h in absurd (omega arith)
named-append p i t (x ∷ xs) xs' [] ys' h = let z : ◌≡◌ {A = ℕ} 0 1 = cc h in absurd (omega arith)
named-append p i t (x ∷ xs) xs' (y ∷ ys) ys' h = go (named-append p (suc i) t xs xs' ys ys') (p x y) h
  where
    go :
        (place_named p (suc i) xs ys ≡ some t → place_named p (suc i) (xs ++ xs') (ys ++ ys') ≡ some t) → (b : Bool)
        → (when b then some i else place_named p (suc i) xs ys) ≡ some t → (when b then some i else place_named p (suc i) (xs ++ xs') (ys ++ ys')) ≡ some t
    go ih true q = q
    go ih false q = ih q

-- the place that is found is one of the list, and there the test holds
pub named-found :
    {A B : Type 0} (p : A → B → Bool) (d : A) (i t : ℕ) (xs : List A) (ys : List B) → place_named p i xs ys ≡ some t
    → (k : ℕ) × (t ≡ i + k) × (k < length xs) × ((name : B) × (p (get_or xs k d) name ≡ true))
unfolding place_named when◌then◌else◌
named-found p d i t [] ys h = let z : ◌≡◌ {A = ℕ} 0 1 = cc h in absurd (omega arith)
named-found p d i t (x ∷ xs) [] h = let z : ◌≡◌ {A = ℕ} 0 1 = cc h in absurd (omega arith)
named-found {A} {B} p d i t (x ∷ xs) (y ∷ ys) h = go (named-found p d (suc i) t xs ys) (p x y) refl h
  where
    go :
        (place_named p (suc i) xs ys ≡ some t → (k : ℕ) × (t ≡ suc i + k) × (k < length xs) × ((name : B) × (p (get_or xs k d) name ≡ true))) → (b : Bool) → p x y ≡ b
        → (when b then some i else place_named p (suc i) xs ys) ≡ some t → (k : ℕ) × (t ≡ i + k) × (k < suc (length xs)) × ((name : B) × (p (get_or (x ∷ xs) k d) name ≡ true))
    go ih true e h = let z : i ≡ t = cc h in (0, omega arith, omega arith, (y, e))
    go ih false e h = let (k, q, l, r) = ih h in (suc k, omega arith, omega arith, r)

pub total-append : {A : Type 0} (p : A → Bool) (n : A → ℕ) (xs ys : List A) → total p n (xs ++ ys) ≡ total p n xs + total p n ys
unfolding total when◌then◌else◌
total-append p n [] ys = omega arith
total-append p n (x ∷ xs) ys = go (total-append p n xs ys) (p x)
  where
    go :
        total p n (xs ++ ys) ≡ total p n xs + total p n ys → (b : Bool)
        → (when b then n x + total p n (xs ++ ys) else total p n (xs ++ ys)) ≡ (when b then n x + total p n xs else total p n xs) + total p n ys
    go ih true = omega arith
    go ih false = ih

pub fold-append : {S A : Type 0} (after : S → A → S) (s : S) (l m : List A) → fold after s (l ++ m) ≡ fold after (fold after s l) m
unfolding fold
fold-append after s [] m = refl
fold-append after s (a ∷ l) m = fold-append after (after s a) l m

-- ── the state grows ──

pub record Grows (s u : State) : Type 0 where
  pub strings : Begins s.strings u.strings
  pub type_names : Begins s.type_names u.type_names
  pub types : Begins s.types u.types
  pub field_names : Begins s.field_names u.field_names
  pub fields : Begins s.fields u.fields
  pub log : Begins s.log u.log

pub grows-refl : (s : State) → Grows s s
grows-refl s = record { strings = begins-refl _; type_names = begins-refl _; types = begins-refl _; field_names = begins-refl _; fields = begins-refl _; log = begins-refl _ }

pub grows-trans : {s u v : State} → Grows s u → Grows u v → Grows s v
grows-trans a b =
    record {
      strings = begins-trans a.strings b.strings;
      type_names = begins-trans a.type_names b.type_names;
      types = begins-trans a.types b.types;
      field_names = begins-trans a.field_names b.field_names;
      fields = begins-trans a.fields b.fields;
      log = begins-trans a.log b.log;
    }

pub fold-grows : {A : Type 0} (after : State → A → State) → ((s : State) (a : A) → Grows s (after s a)) → (l : List A) (s : State) → Grows s (fold after s l)
unfolding fold
fold-grows after h [] s = grows-refl s
fold-grows after h (a ∷ l) s = grows-trans (h s a) (fold-grows after h l (after s a))

head-grows : (s : State) (h : Head) → Grows s (after_head s h)
unfolding after_head
head-grows s h =
    record {
      strings = begins-refl _;
      type_names = begins-more s.type_names (new_name s h);
      types = begins-more s.types (new_type s h);
      field_names = begins-refl _;
      fields = begins-refl _;
      log = begins-more s.log (new_range s h ∷ []);
    }

field-grows : (t : ℕ) (s : State) (g : New) → Grows s (after_new t s g)
unfolding after_new
field-grows t s g =
    record {
      strings = begins-refl _;
      type_names = begins-refl _;
      types = begins-refl _;
      field_names = begins-more s.field_names _;
      fields = begins-more s.fields _;
      log = begins-refl _;
    }

pub entry-grows : (s : State) (e : Entry) → Grows s (after_entry s e)
unfolding after_entry
entry-grows s e = grows-trans (head-grows s e.head) (fold-grows _ (field-grows _) e.news _)

strings-grow : (s : State) (l : List (List ℕ)) → Grows s (with_strings s l)
unfolding with_strings
strings-grow s l = record { strings = begins-more s.strings l; type_names = begins-refl _; types = begins-refl _; field_names = begins-refl _; fields = begins-refl _; log = begins-refl _ }

pub closed-grows : (s : State) → Grows s (closed s)
unfolding closed
closed-grows s = record { strings = begins-refl _; type_names = begins-refl _; types = begins-refl _; field_names = begins-refl _; fields = begins-refl _; log = begins-refl _ }

pub pair-grows : (s : State) (p : Pair) → Grows s (after_pair s p)
unfolding after_pair after_front
pair-grows s p =
    grows-trans (strings-grow s p.strings) (grows-trans (fold-grows _ entry-grows p.entries _) (closed-grows _))

pub known-grows : (l m : Ledger) → Grows (known l) (known (l ++ m))
unfolding known
known-grows l m = rw (fold-append after_pair nothing l m) (fold-grows _ pair-grows m _)

-- ── what is found stays ──

pub type-stays : (s u : State) (name : List ℕ) (t : ℕ) → Grows s u → type_named s name ≡ some t → type_named u name ≡ some t
unfolding type_named
type-stays s u name t g h = rw g.type_names.is (place-append _ 0 t s.type_names g.type_names.rest h)

pub field-stays : (s u : State) (t : ℕ) (name : List ℕ) (i : ℕ) → Grows s u → field_named s t name ≡ some i → (field_named u t name ≡ some i) × (field_at u i ≡ field_at s i)
unfolding field_named field_at
field-stays s u t name i g h =
    let (k, q, lt, _) = named-found (called? t name) no_field 0 i s.fields s.field_names h in (
      rw (g.fields.is, g.field_names.is) (named-append (called? t name) 0 i s.fields g.fields.rest s.field_names g.field_names.rest h),
      rw g.fields.is (get_or-append s.fields g.fields.rest no_field i (omega arith)),
    )

objects-grow : (s u : State) (t : ℕ) → Grows s u → (n : ℕ) × (objects_of u t ≡ objects_of s t + n)
unfolding objects_of
objects-grow s u t g = (total (of? t) size g.log.rest, rw g.log.is (total-append (of? t) size s.log g.log.rest))

values-append : (i : ℕ) (s : State) (l m : Ledger) → field_values i s (l ++ m) ≡ field_values i s l ++ field_values i (fold after_pair s l) m
unfolding field_values fold
values-append i s [] m = refl
values-append i s (p ∷ l) m = rw (values-append i (after_pair s p) l m) (sym (append_assoc (chunk_values i (dues (with_strings s p.strings) p.entries) p.chunks) (field_values i (after_pair s p) l) (field_values i (fold after_pair (after_pair s p) l) m)))

by-longer : (k : Kind) (l m : Ledger) (t i : ℕ) → Begins (column_by k l t i) (column_by k (l ++ m) t i)
unfolding column_by
by-longer (constant k v) l m t i =
    let g = objects-grow (known l) (known (l ++ m)) t (known-grows l m) in
    record { rest = replicate g.0 v; is = rw g.1 (sym (replicate-append-replicate (objects_of (known l) t) g.0 v)) }
by-longer (plain k) l m t i = record { rest = field_values i (fold after_pair nothing l) m; is = values-append i nothing l m }
by-longer (array n k) l m t i = begins-refl []
by-longer (many c k) l m t i = begins-refl []
by-longer (mapping ks) l m t i = begins-refl []

pub column-longer : (l m : Ledger) (t i : ℕ) → field_at (known (l ++ m)) i ≡ field_at (known l) i → Begins (column_of l t i) (column_of (l ++ m) t i)
unfolding column_of
column-longer l m t i h = rw h (by-longer (field_at (known l) i).kind l m t i)

-- ── answers, and what they were made of ──

-- a refusal is no answer
pub not_done : {A X : Type 0} {n : ℕ} {a : A} → refused n ≡ done a → X
not_done h = let z : ◌≡◌ {A = ℕ} 0 1 = cc h in absurd (omega arith)

pub bind_done : {A B : Type 0} (a : Answer A) (k : A → Answer B) (b : B) → (a >>= k) ≡ done b → (x : A) × (a ≡ done x) × (k x ≡ done b)
unfolding ◌>>=◌
bind_done (done x) k b q = (x, refl, q)
bind_done (refused n) k b q = not_done q

pub bind-refused :
    {A B : Type 0} (a : Answer A) (k : A → Answer B) (n : ℕ) → (a >>= k) ≡ refused n → (a ≡ refused n) ⊎ ((x : A) × (a ≡ done x) × (k x ≡ refused n))
unfolding ◌>>=◌
bind-refused (done x) k n q = inr (x, refl, q)
bind-refused (refused m) k n q = inl (cc q)

pub then-done : {A B : Type 0} (a : Answer A) (c : Answer B) (b : B) → (a >> c) ≡ done b → c ≡ done b
unfolding ◌>>◌
then-done a c b q = (bind_done a (λ x. c) b q).2

pub found-done : {A : Type 0} (o : Option A) (n : ℕ) (a : A) → found o n ≡ done a → o ≡ some a
unfolding found
found-done none n a q = not_done q
found-done (some x) n a q = cc q

pub answered-done : {A : Type 0} (o : Out A) (a : A) → answered o ≡ done a → (e : ℕ) × (o ≡ got a e)
unfolding answered
answered-done (got x e) a q = (e, cc q)
answered-done (no n p) a q = not_done q

-- what was needed is so
pub need-done : {A : Type 0} (c : Bool) (n : ℕ) (k : Answer A) (a : A) → (need c n >> k) ≡ done a → (c ≡ true) × (k ≡ done a)
unfolding need ◌>>◌ ◌>>=◌
need-done true n k a q = (refl, q)
need-done false n k a q = not_done q

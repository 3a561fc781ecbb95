-- A type of an accepted file has at most 65,535 objects: a range lies within its super type's of the same block, so no type
-- has more objects than its super type, and the base types' objects are bounded. Assumes nothing.
use Rattle.std.specs.Prelude.{◌≡◌, Bool, ◌||◌, ◌&&◌, ℕ, zero, suc, ◌+◌, ◌≤◌, ◌<◌, leb, get_or}
use Rattle.std.proofs.Math.Path.{refl}
use Rattle.std.proofs.Common.{sym, ◌∙◌, ap, arith}
use Rattle.std.proofs.Math.Bool.{true, false, not}
use mathlib.Core.List.{List, [], ◌∷◌, ◌++◌, append-nil}
use Rattle.std.proofs.Math.Option.{Option, none, some}
use Rattle.std.proofs.Math.Decide.{dec_lt}
use Rattle.std.proofs.Math.Dec.{eqb}
use Rattle.std.proofs.Math.ListN.{length, length-append, get_or-append, get_or-eq_default}
use Rattle.std.proofs.lemmas.List.{get_or_at}
use borrow.Author.Tests.{leb-true, eqb-true, eqb-false, eq-eqb, ne_eqb, not-true}
use Rattle.paper.specs.Reader.{when◌then◌else◌}
use Rattle.paper.specs.Bounds.{most_objects}
use Rattle.paper.specs.Lists.{any, all, total, fold, given?, or, same}
use Rattle.paper.specs.Ledger.{Field, New, Head, Entry, Pair, Ledger, Typ, Range, State, nothing, text, type_named, type_in, no_type, of?, here?, size, objects_of, base?, objects_in_all}
use Rattle.paper.specs.Rules.{with_strings, new?, type_of, entry_of?, entered?, place_rules, type_name_rules, super_named, super_name_rules, super_of, around?, clear?, in_range?, few_objects?, count_rules, base_of, new_name, new_type, new_range, after_head, after_new, after_entry, after_front, closed, after_pair}
use Rattle.paper.specs.Keeps.{only?, head?, entry?, pair?, keeps?}
use Rattle.laws.specs.Says.{Held}
use Rattle.laws.specs.Bools.{not_so, and_split, every-split, number-split}
use Rattle.laws.specs.Bounds.{turn-keeps}
use Rattle.laws.specs.Columns.{place-lt, total-append}
use Rattle.laws.specs.Count.{once, head-objects}

-- ── sums ──

total-fewer : {A : Type 0} (p q : A → Bool) (n : A → ℕ) → ((x : A) → p x ≡ true → q x ≡ true) → (xs : List A) → total p n xs ≤ total q n xs
unfolding total when◌then◌else◌
total-fewer p q n imp [] = omega arith
total-fewer p q n imp (x ∷ xs) = go (total-fewer p q n imp xs) (p x) (q x) (imp x)
  where
    go : total p n xs ≤ total q n xs → (a b : Bool) → (a ≡ true → b ≡ true) → (when a then n x + total p n xs else total p n xs) ≤ (when b then n x + total q n xs else total q n xs)
    go ih true true i = omega arith
    go ih true false i = not_so (i refl)
    go ih false true i = omega arith
    go ih false false i = ih

pub total-none : {A : Type 0} (p : A → Bool) (n : A → ℕ) (xs : List A) → any p xs ≡ false → total p n xs ≡ 0
unfolding total any when◌then◌else◌
total-none p n [] h = refl
total-none p n (x ∷ xs) h = go (total-none p n xs) (p x) h
  where
    go : (any p xs ≡ false → total p n xs ≡ 0) → (b : Bool) → (b || any p xs) ≡ false → (when b then n x + total p n xs else total p n xs) ≡ 0
    go ih true h = not_so (sym h)
    go ih false h = ih h

pub total-last : (p : Range → Bool) (xs : List Range) (r : Range) → total p size (xs ++ r ∷ []) ≡ total p size xs + (when p r then r.count else 0)
unfolding total size when◌then◌else◌
total-last p xs r = total-append p size xs (r ∷ []) ∙ go (p r)
  where
    go : (b : Bool) → total p size xs + (when b then r.count + 0 else 0) ≡ total p size xs + (when b then r.count else 0)
    go true = omega arith
    go false = refl

-- ── what holds while a ledger is followed ──

-- the objects that this block has added to a type so far
here_of : State → ℕ → ℕ
here_of s t = total (entry_of? s.block t) size s.log

here-fewer : (s : State) (t : ℕ) → here_of s t ≤ objects_of s t
unfolding here_of objects_of entry_of?
here-fewer s t = total-fewer (entry_of? s.block t) (of? t) size (λ r h. (and_split (here? s.block r) _ h).1) s.log

-- a type's super type
abbrev above : List Typ → ℕ → Option ℕ
above ts t = (type_in ts t).super

-- the bound of all base types; a super type is declared earlier; a type not yet declared and a block not yet begun have no
-- objects; and this block, like those before it, adds no more to a type than to its super type
record Nested (s : State) : Type 0 where
  few : objects_in_all s ≤ most_objects
  named : length s.type_names ≡ length s.types
  earlier : (t u : ℕ) → above s.types t ≡ some u → u < t
  fresh : (t : ℕ) → length s.types ≤ t → objects_of s t ≡ 0
  ahead : (b t : ℕ) → s.block < b → total (entry_of? b t) size s.log ≡ 0
  here : (t u : ℕ) → above s.types t ≡ some u → here_of s t ≤ here_of s u
  past : (t u : ℕ) → above s.types t ≡ some u → objects_of s t + here_of s u ≤ objects_of s u + here_of s t

-- no type has more objects than all base types together
objects-fewer : (s : State) → Nested s → (n t : ℕ) → t < n → objects_of s t ≤ objects_in_all s
unfolding objects_of objects_in_all base? of? given?
objects-fewer s N zero t lt = absurd (omega arith)
objects-fewer s N (suc n) t lt = go (objects-fewer s N n) (above s.types t) refl
  where
    go : ((u : ℕ) → u < n → objects_of s u ≤ objects_in_all s) → (o : Option ℕ) → above s.types t ≡ o → objects_of s t ≤ objects_in_all s
    go ih none e = total-fewer (of? t) (base? s.types) size (λ r h. rw (eqb-true r.type t h, e)) s.log
    go ih (some u) e = omega (arith, N.here t u e, N.past t u e, ih u (omega (arith, N.earlier t u e)))

-- ── an entry's head ──

-- the entry's type t, with its super type `up`, among the types that are then known
record Placed (s : State) (t : ℕ) (up : Option ℕ) (ts : List Typ) : Type 0 where
  others : (v : ℕ) → (t ≡ v → ⊥) → above ts v ≡ above s.types v
  mine : above ts t ≡ up
  base : up ≡ none → above s.types t ≡ none
  earlier : (u : ℕ) → up ≡ some u → u < t
  known : t < length ts
  more : length s.types ≤ length ts
  idle : here_of s t ≡ 0
  past : (u : ℕ) → up ≡ some u → objects_of s t + here_of s u ≤ objects_of s u

known-placed : (s : State) (t : ℕ) → Nested s → t < length s.types → entered? s t ≡ false → Placed s t (above s.types t) (s.types ++ [])
unfolding entered? here_of
known-placed s t N lt h =
    let none_here = total-none (entry_of? s.block t) size s.log h in
    rw append-nil (record {
      others = λ v ne. refl;
      mine = refl;
      base = λ e. e;
      earlier = N.earlier t;
      known = lt;
      more = omega arith;
      idle = none_here;
      past = λ u e. omega (arith, N.past t u e);
    })

pub type_in-others : (ts : List Typ) (x : Typ) (v : ℕ) → (length ts ≡ v → ⊥) → type_in (ts ++ x ∷ []) v ≡ type_in ts v
unfolding type_in
type_in-others ts x v ne = go (dec_lt v (length ts))
  where
    go : Dec (v < length ts) → get_or (ts ++ x ∷ []) v no_type ≡ get_or ts v no_type
    go (Dec.yes y) = get_or-append ts (x ∷ []) no_type v y
    go (Dec.no y) =
        let z : length (ts ++ x ∷ []) ≤ v = rw length-append (omega arith) in
        get_or-eq_default (ts ++ x ∷ []) no_type z ∙ sym (get_or-eq_default ts no_type {n = v} (omega arith))

new-placed :
    (s : State) (x : Typ) → Nested s → ((u : ℕ) → x.super ≡ some u → u < length s.types)
    → Placed s (length s.types) x.super (s.types ++ x ∷ [])
unfolding type_in no_type
new-placed s x N low =
    let t = length s.types in
    let nil = N.fresh t (omega arith) in
    record {
      others = λ v ne. ap (λ (y : Typ). y.super) (type_in-others s.types x v ne);
      mine = ap (λ (y : Typ). y.super) (get_or_at s.types x [] no_type t refl);
      base = λ e. ap (λ (y : Typ). y.super) (get_or-eq_default s.types no_type {n = t} (omega arith));
      earlier = low;
      known = rw length-append (omega arith);
      more = rw length-append (omega arith);
      idle = omega (arith, here-fewer s t);
      past = λ u e. omega (arith, here-fewer s u);
    }

pub type-low : (s : State) (name : List ℕ) (t : ℕ) → type_named s name ≡ some t → t < length s.type_names
unfolding type_named
type-low s name t h = omega (arith, place-lt (same name) 0 t s.type_names h)

named-low : (s : State) (n u : ℕ) → super_named s n ≡ some u → u < length s.type_names
unfolding super_named when◌then◌else◌
named-low s n u h = go (eqb n 0) h
  where
    go : (b : Bool) → (when b then none else type_named s (text s n)) ≡ some u → u < length s.type_names
    go true q = let z : ◌≡◌ {A = ℕ} 0 1 = cc q in absurd (omega arith)
    go false q = type-low s (text s n) u q

head-placed :
    (s : State) (h : Head) → Nested s → Held (type_name_rules s h.name) → only? (new? s h.name) (super_name_rules s (type_of s h.name)) h.super ≡ true
    → Placed s (type_of s h.name) (super_of s h.name h.super) (s.types ++ new_type s h)
unfolding type_name_rules place_rules new? type_of new_type given? or when◌then◌else◌ only? super_of
head-placed s h N R O = go (type_named s (text s h.name)) refl h.super refl R.1 O
  where
    go :
        (o : Option ℕ) → type_named s (text s h.name) ≡ o → (p : Option ℕ) → h.super ≡ p → Held (place_rules s o)
        → only? (not (given? o)) (super_name_rules s (or o (length s.type_names))) p ≡ true
        → Placed s (or o (length s.type_names)) (super_of s h.name p) (s.types ++ (when not (given? o) then record { super = super_of s h.name p; base = base_of s h } ∷ [] else []))
    go none q none e R O = not_so O
    go none q (some k) e R O = rw N.named (new-placed s _ N λ u x. omega (arith, named-low s k u x, N.named))
    go (some t) q none e R O = rw (q, super_of) (known-placed s t N (omega (arith, N.named, type-low s (text s h.name) t q)) (not-true _ R.0))
    go (some t) q (some k) e R O = not_so O

-- a range that is around n objects has as many
around-fits : (b u start n : ℕ) (log : List Range) → any (around? b u start n) log ≡ true → n ≤ total (entry_of? b u) size log
unfolding any around? total size when◌then◌else◌
around-fits b u start n [] h = not_so h
around-fits b u start n (r ∷ log) h = go (around-fits b u start n log) (entry_of? b u r) (leb r.start start && leb (start + n) (r.start + r.count)) refl h
  where
    go :
        (any (around? b u start n) log ≡ true → n ≤ total (entry_of? b u) size log) → (e a : Bool) → (leb r.start start && leb (start + n) (r.start + r.count)) ≡ a
        → (e && a || any (around? b u start n) log) ≡ true → n ≤ (when e then r.count + total (entry_of? b u) size log else total (entry_of? b u) size log)
    go ih false a x h = ih h
    go ih true false x h = omega (arith, ih h)
    go ih true true x h = let (p, q) = and_split (leb r.start start) _ x in omega (arith, leb-true r.start start p, leb-true (start + n) (r.start + r.count) q)

range-fits : (s : State) (u start n : ℕ) → in_range? s (some u) start n ≡ true → n ≤ here_of s u
unfolding in_range? here_of when◌then◌else◌
range-fits s u start n h = go (eqb n 0) refl h
  where
    go : (b : Bool) → eqb n 0 ≡ b → (when b then eqb start 0 else (any (around? s.block u start n) s.log && all (clear? s.block s.types u start) s.log)) ≡ true → n ≤ total (entry_of? s.block u) size s.log
    go true e h = omega (arith, eqb-true n 0 e)
    go false e h = around-fits s.block u start n s.log (and_split (any (around? s.block u start n) s.log) _ h).0

no-super : (o : Option ℕ) → not (given? o) ≡ true → o ≡ none
unfolding given?
no-super none h = refl
no-super (some u) h = not_so h

module _ (s : State) (h : Head) (N : Nested s) where
  abbrev t : ℕ
  t = type_of s h.name

  abbrev up : Option ℕ
  up = super_of s h.name h.super

  abbrev s₁ : State
  s₁ = after_head s h

  -- what the entry adds to a type
  abbrev share : ℕ → ℕ
  share u = once h.count (eqb t u)

  entry-after : (b u : ℕ) → total (entry_of? b u) size s₁.log ≡ total (entry_of? b u) size s.log + (when eqb s.block b && eqb t u then h.count else 0)
  unfolding after_head new_range entry_of? here? of?
  entry-after b u = total-last (entry_of? b u) s.log (new_range s h)

  here-after : (u : ℕ) → here_of s₁ u ≡ here_of s u + share u
  unfolding here_of once after_head
  here-after u = entry-after s.block u ∙ rw (eq-eqb s.block s.block refl)

  share-mine : share t ≡ h.count
  unfolding once when◌then◌else◌
  share-mine = rw (eq-eqb t t refl)

  share-not : (u : ℕ) → (t ≡ u → ⊥) → share u ≡ 0
  unfolding once when◌then◌else◌
  share-not u ne = rw (ne_eqb t u ne)

  module _ (P : Placed s t up (s.types ++ new_type s h)) (range : in_range? s up (or h.start 0) h.count ≡ true) (room : few_objects? s up h.count ≡ true) where
    abbrev ts : List Typ
    ts = s.types ++ new_type s h

    few-after : objects_in_all s₁ ≤ most_objects
    unfolding objects_in_all after_head new_range base? few_objects? given? when◌then◌else◌
    few-after = rw (total-last (base? ts) s.log (new_range s h), P.mine) (go up room (total-fewer (base? ts) (base? s.types) size fewer s.log))
      where
        fewer : (r : Range) → not (given? (above ts r.type)) ≡ true → not (given? (above s.types r.type)) ≡ true
        fewer r q = by-type (eqb t r.type) refl
          where
            by-type : (b : Bool) → eqb t r.type ≡ b → not (given? (above s.types r.type)) ≡ true
            by-type true e =
                let z = eqb-true t r.type e in
                rw (← z, P.base (sym P.mine ∙ no-super (above ts t) (rw z q)))
            by-type false e = rw (P.others r.type (eqb-false t r.type e)) at q

        go :
            (o : Option ℕ) → few_objects? s o h.count ≡ true → total (base? ts) size s.log ≤ objects_in_all s
            → total (base? ts) size s.log + (when not (given? o) then h.count else 0) ≤ most_objects
        go none q le = omega (arith, leb-true (objects_in_all s + h.count) most_objects (and_split (leb h.count most_objects) _ q).1)
        go (some u) q le = omega (arith, N.few)

    named-after : length s₁.type_names ≡ length ts
    unfolding after_head new_name new_type when◌then◌else◌
    named-after = rw (length-append, length-append, N.named) (go (new? s h.name))
      where
        go : (b : Bool) → length s.types + length (when b then text s h.name ∷ [] else []) ≡ length s.types + length {A = Typ} (when b then record { super = up; base = base_of s h } ∷ [] else [])
        go true = refl
        go false = refl

    ahead_after : (b u : ℕ) → s.block < b → total (entry_of? b u) size s₁.log ≡ 0
    unfolding when◌then◌else◌
    ahead_after b u lt = entry-after b u ∙ rw (ne_eqb s.block b (λ e. omega arith), N.ahead b u lt)

    -- what holds of a type and its super type: the entry's own, or another
    by-type : (v u : ℕ) (Q : Type 0) → above ts v ≡ some u → (t ≡ v → up ≡ some u → Q) → ((t ≡ v → ⊥) → above s.types v ≡ some u → Q) → Q
    by-type v u Q e mine other = go (eqb t v) refl
      where
        go : (b : Bool) → eqb t v ≡ b → Q
        go true x = let z = eqb-true t v x in mine z (sym P.mine ∙ rw z e)
        go false x = let ne = eqb-false t v x in other ne (sym (P.others v ne) ∙ e)

    earlier-after : (v u : ℕ) → above ts v ≡ some u → u < v
    earlier-after v u e = by-type v u (u < v) e (λ z x. omega (arith, P.earlier u x)) (λ ne x. N.earlier v u x)

    share-above : (v u : ℕ) → t ≡ v → up ≡ some u → (share v ≡ h.count) × (share u ≡ 0)
    share-above v u z x = (rw (← z) share-mine, share-not u (λ q. omega (arith, P.earlier u x)))

    here-within : (v u : ℕ) → above ts v ≡ some u → here_of s₁ v ≤ here_of s₁ u
    here-within v u e =
        rw (here-after v, here-after u)
        (by-type v u (here_of s v + share v ≤ here_of s u + share u) e
        (λ z x. let idle : here_of s v ≡ 0 = rw (← z) P.idle in omega (arith, share-above v u z x, range-fits s u (or h.start 0) h.count (rw x at range)))
        (λ ne x. omega (arith, share-not v ne, N.here v u x)))

    past-within : (v u : ℕ) → above ts v ≡ some u → objects_of s₁ v + here_of s₁ u ≤ objects_of s₁ u + here_of s₁ v
    past-within v u e =
        rw (here-after v, here-after u, head-objects s h v, head-objects s h u)
        (by-type v u (objects_of s v + share v + (here_of s u + share u) ≤ objects_of s u + share u + (here_of s v + share v)) e
        (λ z x. let past : objects_of s v + here_of s u ≤ objects_of s u = rw (← z) (P.past u x) in omega arith)
        (λ ne x. omega (arith, N.past v u x)))

    head-nested : Nested s₁
    unfolding after_head
    head-nested =
        record {
          few = few-after;
          named = named-after;
          earlier = earlier-after;
          fresh = λ v le. head-objects s h v ∙ omega (arith, N.fresh v (omega (arith, P.more)), share-not v (λ z. omega (arith, P.known)));
          ahead = ahead_after;
          here = here-within;
          past = past-within;
        }

-- ── entries, pairs, the ledger ──

-- strings and fields do not matter
others-nested :
    (s : State) (strings field_names : List (List ℕ)) (fields : List Field) → Nested s
    → Nested (record { strings = strings; type_names = s.type_names; types = s.types; field_names = field_names; fields = fields; log = s.log; block = s.block })
unfolding objects_of objects_in_all here_of
others-nested s strings field_names fields N =
    record { few = N.few; named = N.named; earlier = N.earlier; fresh = N.fresh; ahead = N.ahead; here = N.here; past = N.past }

news-nested : (t : ℕ) (gs : List New) (s : State) → Nested s → Nested (fold (after_new t) s gs)
unfolding fold after_new
news-nested t [] s N = N
news-nested t (g ∷ gs) s N = news-nested t gs (after_new t s g) (others-nested s _ _ _ N)

entry-nested : (s : State) (e : Entry) → entry? s e ≡ true → Nested s → Nested (after_entry s e)
unfolding entry? head? after_entry count_rules
entry-nested s e k N =
    let h = e.head in
    let (a, _) = every-split _ k in
    let (n, (u, (_, (c, _)))) = every-split _ a in
    let C = (number-split (count_rules s (super_of s h.name h.super) (or h.start 0)) h.count c).1 in
    let P = head-placed s h N (number-split (type_name_rules s) h.name n).1 u in
    news-nested _ e.news _ (head-nested s h N P C.1.0 C.0)

-- in the next block no type has objects yet
closed-nested : (s : State) → Nested s → Nested (closed s)
unfolding closed objects_of objects_in_all here_of
closed-nested s N =
    let none_yet : (t : ℕ) → total (entry_of? (s.block + 1) t) size s.log ≡ 0 = λ t. N.ahead (s.block + 1) t (omega arith) in
    record {
      few = N.few;
      named = N.named;
      earlier = N.earlier;
      fresh = N.fresh;
      ahead = λ b t lt. N.ahead b t (omega arith);
      here = λ t u e. omega (arith, none_yet t);
      past = λ t u e. omega (arith, none_yet t, none_yet u, N.here t u e, N.past t u e);
    }

pair-nested : (s : State) (p : Pair) → pair? s p ≡ true → Nested s → Nested (after_pair s p)
unfolding pair? after_pair after_front with_strings
pair-nested s p k N =
    let (_, (_, (_, (d, _)))) = every-split _ k in
    closed-nested _ (turn-keeps _ after_entry Nested entry-nested p.entries (with_strings s p.strings) d (others-nested s _ _ _ N))

-- a type of a ledger that keeps the rules has at most 65,535 objects
pub ledger-objects : (l : Ledger) (t : ℕ) → keeps? l ≡ true → objects_of (fold after_pair nothing l) t ≤ most_objects
unfolding keeps? nothing objects_of objects_in_all here_of total type_in no_type
ledger-objects l t h =
    let (_, (_, (c, _))) = every-split _ h in
    let N = turn-keeps _ after_pair Nested pair-nested l nothing c
    (record {
      few = omega arith;
      named = refl;
      earlier = λ t u e. let z : ◌≡◌ {A = ℕ} 0 1 = cc e in absurd (omega arith);
      fresh = λ t le. refl;
      ahead = λ b t lt. refl;
      here = λ t u e. omega arith;
      past = λ t u e. omega arith;
    }) in
    omega (arith, N.few, objects-fewer _ N (suc t) t (omega arith))

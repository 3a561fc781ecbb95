-- The objects of a base type are those from 1 up to their number: its pool has no gaps. Assumes nothing.
use Rattle.std.specs.Prelude.{◌≡◌, Bool, ◌||◌, ◌&&◌, ℕ, zero, suc, ◌+◌, ◌-◌, ◌≤◌, ◌<◌, ltb, get_or}
use Rattle.std.proofs.Math.Path.{refl, sym, ap}
use Rattle.std.proofs.Common.{◌∙◌}
use Rattle.std.proofs.Math.Bool.{true, false, not}
use mathlib.Core.List.{List, [], ◌∷◌, ◌++◌, append-nil}
use Rattle.std.proofs.Math.Option.{Option, none, some}
use native.Mathlib.Omega.{arith}
use Rattle.std.proofs.Math.Decide.{dec_lt, ℕ_discrete}
use Rattle.std.proofs.Math.Dec.{leb, eqb}
use Rattle.std.proofs.Math.ListN.{length, length-append, get_or-eq_default}
use Rattle.std.proofs.lemmas.List.{get_or_at}
use borrow.Author.Tests.{leb-true, ltb-true, eqb-true, eqb-false, le-leb, lt-leb, lt-ltb, ne_eqb, not-true}
use Rattle.paper.specs.Reader.{when◌then◌else◌, got}
use Rattle.paper.specs.Lists.{any, all, total, fold, given?, or}
use Rattle.paper.specs.Ledger.{New, Head, Entry, Typ, Range, State, nothing, text, a_string?, type_named, type_in, no_type, of?, here?, size, objects_of, before?, pool_before, holds?, object?}
use Rattle.paper.specs.Rules.{small_rules, with_strings, new?, type_of, entry_of?, entered?, place_rules, type_name_rules, super_name_rules, super_of, base_under, base_of, new_name, new_type, new_range, after_head, after_new, after_entry, after_front, closed, any_type, base_object?, annotation?}
use Rattle.paper.specs.Keeps.{in_turn, only?, head?, entry?}
use Rattle.paper.specs.File.{Front, front}
use Rattle.laws.specs.Says.{Held, Bytes}
use Rattle.laws.specs.Bools.{not_so, and_split, and-join, every-split, number-split}
use Rattle.laws.specs.Bounds.{turn-keeps}
use Rattle.laws.specs.Arrays.{all_append}
use Rattle.laws.specs.Exact.{front-says}
use Rattle.laws.specs.Objects.{total-last, type_in-others, type-low}

-- ── what holds while a ledger is followed ──

-- a range of one of n types, which a block up to b added
unfoldable pub sofar? : ℕ → ℕ → Range → Bool
sofar? n b r = ltb r.type n && leb r.block b

-- there are as many names as types; ranges are of types that are declared and of blocks up to this one; and the objects of a
-- type without a super type are those from 1 up to their number
pub record Pools (names : ℕ) (ts : List Typ) (log : List Range) (block : ℕ) : Type 0 where
  pub even : names ≡ length ts
  pub sofar : all (sofar? (length ts) block) log ≡ true
  pub pools : (t n : ℕ) → (type_in ts t).super ≡ none → any (holds? t n) log ≡ (leb 1 n && leb n (total (of? t) size log))

abbrev pub Pooled : State → Type 0
Pooled s = Pools (length s.type_names) s.types s.log s.block

-- ── lists ──

or-false : (b : Bool) → (b || false) ≡ b
or-false true = refl
or-false false = refl

any_last : {A : Type 0} (p : A → Bool) (xs : List A) (x : A) → any p (xs ++ x ∷ []) ≡ (any p xs || p x)
unfolding any
any_last p [] x = or-false (p x)
any_last p (y ∷ xs) x = go (any_last p xs x) (p y)
  where
    go : any p (xs ++ x ∷ []) ≡ (any p xs || p x) → (b : Bool) → (b || any p (xs ++ x ∷ [])) ≡ ((b || any p xs) || p x)
    go ih true = refl
    go ih false = ih

all_more : {A : Type 0} (p q : A → Bool) → ((x : A) → p x ≡ true → q x ≡ true) → (xs : List A) → all p xs ≡ true → all q xs ≡ true
unfolding all
all_more p q imp [] h = refl
all_more p q imp (x ∷ xs) h = let (a, b) = and_split (p x) (all p xs) h in and-join (imp x a) (all_more p q imp xs b)

neither : (a b : Bool) → (a || b) ≡ false → (a ≡ false) × (b ≡ false)
neither true b h = not_so (sym h)
neither false b h = (refl, h)

-- ── ranges up to this block ──

sofar-more : (n m b c : ℕ) → n ≤ m → b ≤ c → (log : List Range) → all (sofar? n b) log ≡ true → all (sofar? m c) log ≡ true
unfolding sofar?
sofar-more n m b c le le' = all_more (sofar? n b) (sofar? m c) λ r h.
    let (x, y) = and_split (ltb r.type n) _ h in
    and-join (lt-ltb r.type m (omega (arith, ltb-true r.type n x))) (le-leb r.block c (omega (arith, leb-true r.block b y)))

-- a type that is not declared has no range
none_yet : (n b t : ℕ) (log : List Range) → n ≤ t → all (sofar? n b) log ≡ true → any (entry_of? b t) log ≡ false
unfolding all any sofar? entry_of? of?
none_yet n b t [] le h = refl
none_yet n b t (r ∷ log) le h =
    let (k, l) = and_split (sofar? n b r) _ h in
    let (lt, _) = and_split (ltb r.type n) _ k in
    rw (ne_eqb r.type t (λ z. omega (arith, ltb-true r.type n lt))) (go (here? b r) (none_yet n b t log le l))
  where
    go : (x : Bool) → any (entry_of? b t) log ≡ false → (x && false || any (entry_of? b t) log) ≡ false
    go true ih = ih
    go false ih = ih

range-before : (n b t : ℕ) (r : Range) → sofar? n b r ≡ true → entry_of? b t r ≡ false → before? b t r ≡ of? t r
unfolding sofar? entry_of? here? before?
range-before n b t r h k = go (of? t r) (eqb r.block b) refl k
  where
    go : (o x : Bool) → eqb r.block b ≡ x → (x && o) ≡ false → (o && ltb r.block b) ≡ o
    go false x e k = refl
    go true true e k = not_so (sym k)
    go true false e k = lt-ltb r.block b (omega (arith, eqb-false r.block b e, leb-true r.block b (and_split (ltb r.type n) _ h).1))

-- the pool of a type that has no entry in this block is that of the blocks before
all-before : (n b t : ℕ) (log : List Range) → all (sofar? n b) log ≡ true → any (entry_of? b t) log ≡ false → total (before? b t) size log ≡ total (of? t) size log
unfolding all any total
all-before n b t [] h k = refl
all-before n b t (r ∷ log) h k =
    let (x, y) = and_split (sofar? n b r) _ h in
    let (v, w) = neither (entry_of? b t r) _ k in
    rw (range-before n b t r x v, all-before n b t log y w)

-- ── an entry's head ──

none_of : (n : ℕ) → (leb 1 n && leb n 0) ≡ false
none_of zero = refl
none_of (suc n) = rw (le-leb 1 (suc n) (omega arith), lt-leb (suc n) 0 (omega arith))

-- those up to N, and c behind them
joined : (N c n : ℕ) → (leb 1 n && leb n N || leb (N + 1) n && leb n (N + c)) ≡ (leb 1 n && leb n (N + c))
joined N c zero = rw (lt-leb (N + 1) 0 (omega arith))
joined N c (suc n) = go (dec_lt N (suc n))
  where
    go : Dec (N < suc n) → (leb 1 (suc n) && leb (suc n) N || leb (N + 1) (suc n) && leb (suc n) (N + c)) ≡ (leb 1 (suc n) && leb (suc n) (N + c))
    go (Dec.yes y) = rw (le-leb 1 (suc n) (omega arith), lt-leb (suc n) N y, le-leb (N + 1) (suc n) (omega arith))
    go (Dec.no y) = rw (le-leb 1 (suc n) (omega arith), le-leb (suc n) N (omega arith), le-leb (suc n) (N + c) (omega arith))

no_start : (up o : Option ℕ) → only? (given? up) small_rules o ≡ true → up ≡ none → or o 0 ≡ 0
unfolding only? given? or
no_start up none h e = refl
no_start none (some n) h e = not_so h
no_start (some u) (some n) h e = let z : ◌≡◌ {A = ℕ} 0 1 = cc e in absurd (omega arith)

module _ (s : State) (h : Head) (P : Pooled s) where
  abbrev t : ℕ
  t = type_of s h.name

  abbrev up : Option ℕ
  up = super_of s h.name h.super

  abbrev ts : List Typ
  ts = s.types ++ new_type s h

  even-after : length (s.type_names ++ new_name s h) ≡ length ts
  unfolding new_name new_type when◌then◌else◌
  even-after = rw (length-append s.type_names, length-append s.types, P.even) (go (new? s h.name))
    where
      go : (b : Bool) → length s.types + length (when b then text s h.name ∷ [] else []) ≡ length s.types + length {A = Typ} (when b then record { super = up; base = base_of s h } ∷ [] else [])
      go true = refl
      go false = refl

  -- the entry's type is then declared
  declared : t < length ts
  unfolding type_of new_type new? given? or when◌then◌else◌
  declared = rw (length-append s.types) (go (type_named s (text s h.name)) refl)
    where
      go : (o : Option ℕ) → type_named s (text s h.name) ≡ o → or o (length s.type_names) < length s.types + length {A = Typ} (when not (given? o) then record { super = up; base = base_of s h } ∷ [] else [])
      go none q = omega (arith, P.even)
      go (some u) q = omega (arith, P.even, type-low s (text s h.name) u q)

  sofar-after : all (sofar? (length ts) s.block) (s.log ++ new_range s h ∷ []) ≡ true
  unfolding all sofar? new_range
  sofar-after = all_append _ s.log (new_range s h ∷ []) (sofar-more _ _ _ _ more (omega arith) s.log P.sofar) mine
    where
      more : length s.types ≤ length ts
      more = rw (length-append s.types) (omega arith)

      mine : all (sofar? (length ts) s.block) (new_range s h ∷ []) ≡ true
      mine = rw (lt-ltb t (length ts) declared, le-leb s.block s.block (omega arith))

  module _ (R : Held (type_name_rules s h.name)) (O : only? (new? s h.name) (super_name_rules s t) h.super ≡ true) (C : only? (given? up) small_rules h.start ≡ true) where
    -- this block has no range of the entry's type yet
    idle : any (entry_of? s.block t) s.log ≡ false
    unfolding type_name_rules place_rules type_of or entered?
    idle = go (type_named s (text s h.name)) R.1
      where
        go : (o : Option ℕ) → Held (place_rules s o) → any (entry_of? s.block (or o (length s.type_names))) s.log ≡ false
        go none R = none_yet (length s.types) s.block _ s.log (omega (arith, P.even)) P.sofar
        go (some u) R = not-true _ R.0

    -- what has no super type now had none before, the entry's type included
    base-was : (v : ℕ) → (type_in ts v).super ≡ none → ((type_in s.types v).super ≡ none) × (t ≡ v → up ≡ none)
    unfolding type_of new_type new? given? or when◌then◌else◌ only? super_of type_in no_type
    base-was v e = go (type_named s (text s h.name)) refl h.super O e
      where
        fresh : (x : Typ) → Dec (length s.types ≡ v) → (type_in (s.types ++ x ∷ []) v).super ≡ none → ((type_in s.types v).super ≡ none) × (length s.types ≡ v → x.super ≡ none)
        fresh x (Dec.yes y) e =
            (ap (λ (z : Typ). z.super) (get_or-eq_default s.types no_type {n = v} (omega arith)), λ z. sym (ap (λ (z : Typ). z.super) (get_or_at s.types x [] no_type v y)) ∙ e)
        fresh x (Dec.no y) e = (sym (ap (λ (z : Typ). z.super) (type_in-others s.types x v y)) ∙ e, λ z. absurd (y z))

        go :
            (o : Option ℕ) → type_named s (text s h.name) ≡ o → (p : Option ℕ) → only? (not (given? o)) (super_name_rules s (or o (length s.type_names))) p ≡ true
            → (type_in (s.types ++ (when not (given? o) then record { super = super_of s h.name p; base = base_of s h } ∷ [] else [])) v).super ≡ none
            → ((type_in s.types v).super ≡ none) × (or o (length s.type_names) ≡ v → super_of s h.name p ≡ none)
        go none q none O e = not_so O
        go none q (some k) O e = rw P.even (fresh _ (ℕ_discrete (length s.types) v) e)
        go (some u) q none O e = let was : (type_in s.types v).super ≡ none = rw append-nil at e in (was, λ z. ap (λ (w : Option ℕ). (type_in s.types (or w (length s.type_names))).super) q ∙ ap (λ (w : ℕ). (type_in s.types w).super) z ∙ was)
        go (some u) q (some k) O e = not_so O

    -- the pool of a base type goes on where it ended
    first : up ≡ none → (new_range s h).first ≡ total (of? t) size s.log
    unfolding new_range base_of base_under pool_before
    first e = rw (e, no_start up h.start C e, all-before _ s.block t s.log P.sofar idle) (omega arith)

    pools-after : (v n : ℕ) → (type_in ts v).super ≡ none → any (holds? v n) (s.log ++ new_range s h ∷ []) ≡ (leb 1 n && leb n (total (of? v) size (s.log ++ new_range s h ∷ [])))
    unfolding holds? of? new_range when◌then◌else◌
    pools-after v n e =
        let (was, top) = base-was v e in
        rw (any_last (holds? v n) s.log (new_range s h), total-last (of? v) s.log (new_range s h), P.pools v n was) (go (eqb t v) refl top)
      where
        go :
            (b : Bool) → eqb t v ≡ b → (t ≡ v → up ≡ none)
            → (leb 1 n && leb n (total (of? v) size s.log) || b && (leb ((new_range s h).first + 1) n && leb n ((new_range s h).first + h.count))) ≡ (leb 1 n && leb n (total (of? v) size s.log + (when b then h.count else 0)))
        go true x top = let z = eqb-true t v x in rw (first (top z), z) (joined (total (of? v) size s.log) h.count n)
        go false x top = let z : total (of? v) size s.log ≡ total (of? v) size s.log + 0 = omega arith in or-false _ ∙ ap (λ (w : ℕ). leb 1 n && leb n w) z

    head-pooled : Pooled (after_head s h)
    unfolding after_head
    head-pooled = record { even = even-after; sofar = sofar-after; pools = pools-after }

-- ── entries, the front of a pair ──

news-pooled : (t : ℕ) (gs : List New) (s : State) → Pooled s → Pooled (fold (after_new t) s gs)
unfolding fold after_new
news-pooled t [] s P = P
news-pooled t (g ∷ gs) s P = news-pooled t gs (after_new t s g) P

entry-pooled : (s : State) (e : Entry) → entry? s e ≡ true → Pooled s → Pooled (after_entry s e)
unfolding entry? head? after_entry
entry-pooled s e k P =
    let h = e.head in
    let (a, _) = every-split _ k in
    let (n, (u, (c, _))) = every-split _ a in
    news-pooled _ e.news _ (head-pooled s h P (number-split (type_name_rules s) h.name n).1 u c)

pub nothing-pooled : Pooled nothing
unfolding nothing all any total
nothing-pooled = record { even = refl; sofar = refl; pools = λ t n e. sym (none_of n) }

pub entries-pooled : (es : List Entry) (s : State) → in_turn entry? after_entry s es ≡ true → Pooled s → Pooled (fold after_entry s es)
entries-pooled = turn-keeps entry? after_entry Pooled entry-pooled

pub strings-pooled : (s : State) (ss : List (List ℕ)) → Pooled s → Pooled (with_strings s ss)
unfolding with_strings
strings-pooled s ss P = P

pub closed-pooled : (s : State) → Pooled s → Pooled (closed s)
unfolding closed
closed-pooled s P = record { even = P.even; sofar = sofar-more _ _ _ _ (omega arith) (omega arith) s.log P.sofar; pools = P.pools }

-- a pair that is read leaves no gaps
pub front-pooled : (s : State) (f : List ℕ) (at : ℕ) (d : Front) (e : ℕ) → Bytes f → at ≤ length f → front any_type s f at ≡ got d e → Pooled s → Pooled (after_front s d.strings d.entries)
unfolding after_front
front-pooled s f at d e b h q P = entries-pooled d.entries (with_strings s d.strings) ((front-says s).at f at d e b h q).said.kept (strings-pooled s d.strings P)

-- object n of a base type is one from 1 up to their number
pub base-objects : (s : State) → Pooled s → (t n : ℕ) → (type_in s.types t).super ≡ none → object? s t n ≡ (leb 1 n && leb n (objects_of s t))
unfolding object? objects_of
base-objects s P = P.pools

-- ── annotations ──

-- how many objects a base type has; of another, or of none, there is no pool
unfoldable pub pool_of : State → Option ℕ → ℕ
pool_of s none = 0
pool_of s (some t) = when given? (type_in s.types t).super then 0 else objects_of s t

pool-objects : (s : State) → Pooled s → (o : Option ℕ) (n : ℕ) → (leb 1 n && leb n (pool_of s o)) ≡ base_object? s o n
unfolding pool_of base_object? given? when◌then◌else◌
pool-objects s P none n = none_of n
pool-objects s P (some v) n = go (type_in s.types v).super refl
  where
    go : (o : Option ℕ) → (type_in s.types v).super ≡ o → (leb 1 n && leb n (when given? o then 0 else objects_of s v)) ≡ (not (given? o) && object? s v n)
    go none e = sym (base-objects s P v n e)
    go (some u) e = none_of n

-- the rule of annotations asks for a number and no range, where the pool of each string's type is at hand
pub annotation-pools :
    (s : State) → Pooled s → (pools : List ℕ) → length pools ≡ length s.strings
    → ((i : ℕ) → i < length pools → get_or pools i 0 ≡ pool_of s (type_named s (text s (suc i))))
    → (m n : ℕ) → (when eqb m 0 then eqb n 0 else (leb 1 n && leb n (get_or pools (m - 1) 0))) ≡ annotation? s m n
unfolding annotation? a_string? when◌then◌else◌
annotation-pools s P pools len each zero n = refl
annotation-pools s P pools len each (suc i) n =
    let before : suc i - 1 ≡ i = omega arith in
    rw (ne_eqb (suc i) 0 (λ z. omega arith), before) (go (dec_lt i (length pools)))
  where
    go : Dec (i < length pools) → (leb 1 n && leb n (get_or pools i 0)) ≡ ((leb 1 (suc i) && leb (suc i) (length s.strings)) && base_object? s (type_named s (text s (suc i))) n)
    go (Dec.yes y) = rw (each i y, le-leb 1 (suc i) (omega arith), le-leb (suc i) (length s.strings) (omega arith)) (pool-objects s P (type_named s (text s (suc i))) n)
    go (Dec.no y) = rw (get_or-eq_default pools 0 {n = i} (omega arith), le-leb 1 (suc i) (omega arith), lt-leb (suc i) (length s.strings) (omega arith)) (none_of n)

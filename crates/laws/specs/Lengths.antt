-- A column that is answered has as many values as its type has objects. Assumes nothing.
use Rattle.std.specs.Prelude.{◌≡◌, Bool, ℕ, suc, ◌+◌, ◌≤◌, ◌<◌, leb, ℤ, get_or}
use Rattle.std.proofs.Math.Path.{refl, sym, ap}
use Rattle.std.proofs.Common.{◌∙◌, arith, add-suc, suc-add, zero-add}
use Rattle.std.proofs.Math.Bool.{true, false}
use mathlib.Core.List.{List, [], ◌∷◌, ◌++◌, map}
use Rattle.std.proofs.Math.Option.{some}
use Rattle.std.proofs.Math.Dec.{eqb}
use Rattle.std.proofs.Math.ListN.{length, length-append, get_or-append}
use Rattle.std.proofs.lemmas.List.{length-map, length-replicate}
use borrow.Author.Tests.{eqb-true, leb-true}
use Rattle.paper.specs.Reader.{when◌then◌else◌}
use Rattle.paper.specs.Ledger.{mapping, Kind, constant, plain, array, many, New, Head, Entry, Field, Due, Chunk, Pair, Ledger, State, nothing, field_at, no_field, fields_of, field_named, objects_of, type_named, owns?, called?}
use Rattle.paper.specs.Lists.{all, fold, places}
use Rattle.paper.specs.Rules.{type_of, after_head, known_due, after_entry, old_due, new_dues, entry_dues, dues, with_strings, after_front, closed, after_pair}
use Rattle.paper.specs.Keeps.{in_turn, value?, chunk?, chunks?, pair?, keeps?}
use Rattle.paper.specs.Calls.{Answer, done, refused, need, found, read, known, objects, stored, stored_all, values_in, chunk_values, field_values, column_by, column_of, asked, count_values, fill_values, how_many, ◌>>=◌, ◌>>◌}
use Rattle.laws.specs.Says.{Bytes}
use Rattle.laws.specs.Bools.{not_so, and_split, every-split}
use Rattle.laws.specs.Longer.{Begins}
use Rattle.laws.specs.Columns.{fold-grows, pair-grows, entry-grows, named-found, bind_done, need-done}
use Rattle.laws.specs.Asked.{Taken, sought-asks, count-done, count-refused}
use Rattle.laws.specs.Count.{made, fold-fields, chunk_count, value_count, values-even}
use Rattle.laws.specs.Exact.{file-kept}

-- ── a chunk that is due is of a declared field ──

abbrev pub Under : ℕ → List Due → Type 0
Under m [] = Unit {0}
Under m (d ∷ ds) = (d.field < m) × Under m ds

under-append : (m : ℕ) (ds es : List Due) → Under m ds → Under m es → Under m (ds ++ es)
under-append m [] es h k = k
under-append m (d ∷ ds) es h k = (h.0, under-append m ds es h.1 k)

under_more : (m n : ℕ) (ds : List Due) → m ≤ n → Under m ds → Under n ds
under_more m n [] le h = tt
under_more m n (d ∷ ds) le h = (omega (arith, h.0), under_more m n ds le h.1)

old-under : (s : State) (n : ℕ) (p : Field → Bool) (xs : List Field) (i : ℕ) → Under (i + length xs) (map (old_due s n) (places p i xs))
unfolding places when◌then◌else◌ old_due
old-under s n p [] i = tt
old-under s n p (x ∷ xs) i = go (rw (suc-add i (length xs), ← add-suc i (length xs)) at (old-under s n p xs (suc i))) (p x)
  where
    go : Under (i + suc (length xs)) (map (old_due s n) (places p (suc i) xs)) → (b : Bool) → Under (i + suc (length xs)) (map (old_due s n) (when b then i ∷ places p (suc i) xs else places p (suc i) xs))
    go ih true = (omega arith, ih)
    go ih false = ih

known_under : (s : State) (h : Head) → Under (length s.fields) (map (old_due s h.count) (known_due s h))
unfolding known_due fields_of when◌then◌else◌
known_under s h = go (eqb h.count 0)
  where
    go : (b : Bool) → Under (length s.fields) (map (old_due s h.count) (when b then [] else places (owns? (type_of s h.name)) 0 s.fields))
    go true = tt
    go false = rw zero-add at (old-under s h.count (owns? (type_of s h.name)) s.fields 0)

new_under : (n : ℕ) (gs : List New) (i : ℕ) → Under (i + length gs) (new_dues i n gs)
unfolding new_dues
new_under n [] i = tt
new_under n (g ∷ gs) i = (omega arith, rw (suc-add i (length gs), ← add-suc i (length gs)) at (new_under n gs (suc i)))

entry-fields : (s : State) (e : Entry) → length (after_entry s e).fields ≡ length s.fields + length e.news
unfolding after_entry after_head
entry-fields s e =
    let t = type_of s e.head.name in
    ap length (fold-fields t e.news (after_head s e.head)) ∙ length-append s.fields (map (made t) e.news) ∙ ap (λ (n : ℕ). length s.fields + n) (length-map e.news (made t))

entry-under : (s : State) (e : Entry) → Under (length (after_entry s e).fields) (entry_dues s e)
unfolding entry_dues
entry-under s e =
    let n = entry-fields s e in
    under-append (length (after_entry s e).fields) (map (old_due s e.head.count) (known_due s e.head)) _
    (under_more (length s.fields) (length (after_entry s e).fields) (map (old_due s e.head.count) (known_due s e.head)) (omega arith) (known_under s e.head))
    (rw n (new_under (objects_of (after_head s e.head) (type_of s e.head.name)) e.news (length s.fields)))

begins-length : {A : Type 0} {l m : List A} → Begins l m → length l ≤ length m
begins-length {A} {l} {m} b = omega (arith, ap length b.is, length-append l b.rest)

dues_under : (es : List Entry) (s : State) → Under (length (fold after_entry s es).fields) (dues s es)
unfolding fold dues
dues_under [] s = tt
dues_under (e ∷ es) s =
    under-append (length (fold after_entry (after_entry s e) es).fields) (entry_dues s e) (dues (after_entry s e) es)
    (under_more (length (after_entry s e).fields) (length (fold after_entry (after_entry s e) es).fields) (entry_dues s e) (begins-length (fold-grows after_entry entry-grows es (after_entry s e)).fields) (entry-under s e))
    (dues_under es (after_entry s e))

-- ── plain values have one element ──

stored-length : (s : State) (k : ℕ) (c : Chunk) → all (value? s (plain k)) c ≡ true → length (stored_all c) ≡ length c
unfolding all value? stored_all
stored-length s k [] h = refl
stored-length s k (v ∷ vs) h =
    let (a, b) = and_split (value? s (plain k) v) _ h in
    let (x, _) = and_split (eqb (length v) 1) _ a in
    rw (length-append, length-map v stored, eqb-true (length v) 1 x, stored-length s k vs b) (omega arith)

plain-chunk : (s : State) (d : Due) (c : Chunk) (k : ℕ) → (field_at s d.field).kind ≡ plain k → chunk? s d c ≡ true → all (value? s (plain k)) c ≡ true
unfolding chunk?
plain-chunk s d c k z a = let (_, b) = and_split (eqb (length c) d.values) (all (value? s (field_at s d.field).kind) c) a in rw z at b

pub after-begins : (s : State) (p : Pair) (l : Ledger) → Begins (after_front s p.strings p.entries).fields (fold after_pair (after_pair s p) l).fields
unfolding after_pair closed
after-begins s p l = (fold-grows after_pair pair-grows l (after_pair s p)).fields

pub front-under : (s : State) (p : Pair) → Under (length (after_front s p.strings p.entries).fields) (dues (with_strings s p.strings) p.entries)
unfolding after_front
front-under s p = dues_under p.entries (with_strings s p.strings)

module _ (j k : ℕ) (F : List Field) (plain-j : (get_or F j no_field).kind ≡ plain k) where
  -- a field that is declared keeps its kind
  pub kind-there : (s : State) → Begins s.fields F → j < length s.fields → (field_at s j).kind ≡ plain k
  unfolding field_at
  kind-there s b lt = ap (λ (d : Field). d.kind) (sym (get_or-append s.fields b.rest no_field j lt)) ∙ ap (λ (l : List Field). (get_or l j no_field).kind) (sym b.is) ∙ plain-j

  chunk-values-length :
      (s : State) → Begins s.fields F → (ds : List Due) (cs : List Chunk) → Under (length s.fields) ds → chunks? s ds cs ≡ true
      → length (chunk_values j ds cs) ≡ chunk_count j ds cs
  unfolding chunk_values chunk_count chunks? values_in when◌then◌else◌
  chunk-values-length s b [] cs h q = refl
  chunk-values-length s b (d ∷ ds) [] h q = not_so q
  chunk-values-length s b (d ∷ ds) (c ∷ cs) h q =
      let (x, y) = and_split (chunk? s d c) _ q in
      rw length-append (go (chunk-values-length s b ds cs h.1 y) x (eqb d.field j) refl)
    where
      go :
          length (chunk_values j ds cs) ≡ chunk_count j ds cs → chunk? s d c ≡ true → (t : Bool) → eqb d.field j ≡ t
          → length (when t then stored_all c else []) + length (chunk_values j ds cs) ≡ (when t then length c else 0) + chunk_count j ds cs
      go ih x true t =
          let is = eqb-true d.field j t in
          let z : (field_at s d.field).kind ≡ plain k = rw is (kind-there s b (rw is at h.0)) in
          rw (stored-length s k c (plain-chunk s d c k z x), ih)
      go ih x false t = rw ih

  values_length :
      (l : Ledger) (s : State) → in_turn pair? after_pair s l ≡ true → (fold after_pair s l).fields ≡ F → length (field_values j s l) ≡ value_count j s l
  unfolding in_turn fold field_values value_count pair?
  values_length [] s h q = refl
  values_length (p ∷ l) s h q =
      let (a, b) = and_split (pair? s p) _ h in
      let (_, (_, (_, (_, (_, (g, _)))))) = every-split _ a in
      rw (length-append, chunk-values-length (after_front s p.strings p.entries) (rw q at (after-begins s p l)) (dues (with_strings s p.strings) p.entries) p.chunks (front-under s p) g, values_length l (after_pair s p) b q)

-- ── the column ──

-- a field that is found is its type's
field-owner : (s : State) (t : ℕ) (name : List ℕ) (i : ℕ) → field_named s t name ≡ some i → (i < length s.fields) × ((field_at s i).owner ≡ t)
unfolding field_named field_at called? owns?
field-owner s t name i h =
    let (k, q, lt, (other, r)) = named-found (called? t name) no_field 0 i s.fields s.field_names h in
    let z : k ≡ i = omega arith in
    let (o, _) = and_split (eqb (get_or s.fields k no_field).owner t) _ r in
    (omega arith, rw z at (eqb-true _ t o))

by_length :
    (l : Ledger) (t i : ℕ) (K : Kind) → keeps? l ≡ true → i < length (known l).fields → (field_at (known l) i).owner ≡ t → (field_at (known l) i).kind ≡ K → asked K ≤ 32
    → length (column_by K l t i) ≡ objects_of (known l) t
unfolding column_by known keeps? field_at asked
by_length l t i (constant k v) h lt o e a = length-replicate (objects_of (known l) t) v
by_length l t i (plain k) h lt o e a =
    let (_, (_, (c, _))) = every-split _ h in
    let E = values-even l i h lt (rw e) in
    values_length i k (fold after_pair nothing l).fields e l nothing c refl ∙ E ∙ ap (objects_of (fold after_pair nothing l)) o
by_length l t i (array n k) h lt o e a = absurd (omega arith)
by_length l t i (many c k) h lt o e a = absurd (omega arith)
by_length l t i (mapping ks) h lt o e a = absurd (omega arith)

-- a column has as many values as its type has objects
pub column-length : {type field : List ℕ} {k : ℕ} {f : List ℕ} → Bytes f → (T : Taken type field k f) → length (column_of T.ledger T.t T.i) ≡ objects_of (known T.ledger) T.t
unfolding column_of
column-length {field = field} {f = f} bytes T =
    let Q = T.asks in
    let (w, o) = field-owner (known T.ledger) T.t field T.i Q.fielded in
    by_length T.ledger T.t T.i _ (file-kept f T.ledger T.end bytes T.read).1 w o refl (rw (← Q.kind) Q.given)

-- ── the pair of calls ──

module _ (type field : List ℕ) (k table : ℕ) (f : List ℕ) where
  typed-objects : (l : Ledger) (t : ℕ) → read table f ≡ done l → type_named (known l) type ≡ some t → objects type table f ≡ done (objects_of (known l) t)
  unfolding objects found ◌>>=◌
  typed-objects l t x y = rw (x, y)

  -- what is counted is as many as the type has objects
  pub count-objects : (n : ℕ) → count_values type field k table f ≡ done n → objects type table f ≡ done n
  unfolding count_values
  count-objects n q =
      let (l, x, q₁) = bind_done _ _ n q in
      let ((t, i), y, q₂) = bind_done _ _ n q₁ in
      typed-objects l t x (sought-asks y).typed ∙ q₂

  module _ (bytes : Bytes f) (room : ℕ) where
    by-room : (n : ℕ) (c : List ℤ) → length c ≡ n → (fits : Bool) → how_many (need fits 19 >> done c) ≡ (need fits 19 >> done n)
    unfolding how_many need ◌>>◌ ◌>>=◌
    by-room n c is true = ap done is
    by-room n c is false = refl

    by_count : (a : Answer ℕ) → count_values type field k table f ≡ a → how_many (fill_values type field k room table f) ≡ (a >>= λ n. need (leb n room) 19 >> done n)
    unfolding how_many ◌>>=◌
    by_count (done n) q =
        let (T, is, fills) = count-done type field k table f n q in
        ap how_many (fills room) ∙ by-room n _ (column-length bytes T ∙ sym is) (leb n room)
    by_count (refused n) q = ap how_many (count-refused type field k table f n q room)

    -- the second call writes as many as the first one answers, in whatever room holds them; else it gives 19; and where the first one
    -- refuses, the second does likewise
    pub fill-by-count : how_many (fill_values type field k room table f) ≡ (count_values type field k table f >>= λ n. need (leb n room) 19 >> done n)
    fill-by-count = by_count _ refl

    pub fill-counted : (c : List ℤ) → fill_values type field k room table f ≡ done c → (count_values type field k table f ≡ done (length c)) × (length c ≤ room)
    unfolding how_many
    fill-counted c q =
        let (n, x, y) = bind_done _ _ (length c) (sym fill-by-count ∙ ap how_many q) in
        let (fits, z) = need-done _ 19 _ (length c) y in
        let same : n ≡ length c = cc z in
        (x ∙ ap done same, rw (← same) (leb-true n room fits))

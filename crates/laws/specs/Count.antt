-- A column has as many values as its type has objects: from the rules on a ledger, with no reading. Assumes nothing.
use Rattle.std.specs.Prelude.{◌≡◌, Bool}
use Rattle.std.proofs.Math.Path.{refl, ap}
use Rattle.std.proofs.Common.{sym, ◌∙◌, subst, length-append, eqb-true, eq-eqb, ne_eqb}
use Rattle.std.proofs.Math.Bool.{true, false}
use mathlib.Core.List.{List, [], ◌∷◌, ◌++◌, map, append_assoc, append-nil}
use Prim.Native.Nat.{ℕ, zero, suc, ◌+◌, ◌-◌, ◌*◌, ◌≤◌, ◌<◌}
use native.Mathlib.Omega.{arith}
use native.Mathlib.Nat.{add-zero, add-suc, suc-add, zero-add}
use Rattle.std.proofs.Math.Decide.{dec_lt}
use Rattle.std.proofs.Math.Dec.{eqb}
use Rattle.std.proofs.Math.ListN.{length, get_or, get_or-append}
use Rattle.std.proofs.lemmas.List.{length-map}
use Rattle.std.proofs.Math.Seq.{get_or-append-add}
use Rattle.std.proofs.lemmas.Bool.{eqb-false}
use Rattle.paper.specs.Reader.{when◌then◌else◌}
use Rattle.paper.specs.Ledger.{mapping, Kind, constant, plain, array, many, New, Head, Entry, Field, Due, Chunk, Pair, Ledger, State, nothing, field_at, no_field, fields_of, objects_of, of?, size, owns?}
use Rattle.paper.specs.Lists.{fold, total, places}
use Rattle.paper.specs.Rules.{type_of, new_range, after_head, known_due, noted, after_new, after_entry, values_due, old_due, new_dues, entry_dues, dues, with_strings, after_front, closed, after_pair}
use Rattle.paper.specs.Keeps.{in_turn, chunk?, chunks?, pair?, keeps?}
use Rattle.laws.specs.Bools.{not_so, and_split, every-split}
use Rattle.laws.specs.Columns.{total-append}

-- ── what is owed to a field ──

sum : {A : Type 0} → (A → ℕ) → List A → ℕ
sum n [] = 0
sum n (x ∷ xs) = n x + sum n xs

sum-append : {A : Type 0} (n : A → ℕ) (xs ys : List A) → sum n (xs ++ ys) ≡ sum n xs + sum n ys
unfolding sum
sum-append n [] ys = omega arith
sum-append n (x ∷ xs) ys = omega (arith, sum-append n xs ys)

abbrev share : ℕ → Due → ℕ
share j d = when eqb d.field j then d.values else 0

owed : ℕ → List Due → ℕ
owed j ds = sum (share j) ds

abbrev pub movable : Kind → Bool
movable (constant k v) = false
movable (plain k) = true
movable (array n k) = true
movable (many c k) = true
movable (mapping ks) = true

due-movable : (k : Kind) (n : ℕ) → movable k ≡ true → values_due k n ≡ n
unfolding values_due
due-movable (constant k v) n h = not_so h
due-movable (plain k) n h = refl
due-movable (array l k) n h = refl
due-movable (many c k) n h = refl
due-movable (mapping ks) n h = refl

owed-append : (j : ℕ) (ds es : List Due) → owed j (ds ++ es) ≡ owed j ds + owed j es
unfolding owed
owed-append j ds es = sum-append (share j) ds es

-- how often i stands in a list
occurs : ℕ → List ℕ → ℕ
occurs j [] = 0
occurs j (i ∷ is) = (when eqb i j then 1 else 0) + occurs j is

module _ {A : Type 0} (p : A → Bool) (d : A) where
  -- a place of the list, counted from i, stands among the places just where the test passes
  occurs-before : (xs : List A) (i j : ℕ) → j < i → occurs j (places p i xs) ≡ 0
  unfolding occurs places when◌then◌else◌
  occurs-before [] i j h = refl
  occurs-before (x ∷ xs) i j h = go (occurs-before xs (suc i) j (omega arith)) (p x)
    where
      go : occurs j (places p (suc i) xs) ≡ 0 → (b : Bool) → occurs j (when b then i ∷ places p (suc i) xs else places p (suc i) xs) ≡ 0
      go ih true = rw (ne_eqb i j (λ e. omega arith)) (omega arith)
      go ih false = ih

  occurs-at : (xs : List A) (i k : ℕ) → k < length xs → occurs (i + k) (places p i xs) ≡ (when p (get_or xs k d) then 1 else 0)
  unfolding occurs places when◌then◌else◌
  occurs-at [] i k h = absurd (omega arith)
  occurs-at (x ∷ xs) i zero h = rw add-zero (go (occurs-before xs (suc i) i (omega arith)) (p x))
    where
      go : occurs i (places p (suc i) xs) ≡ 0 → (b : Bool) → occurs i (when b then i ∷ places p (suc i) xs else places p (suc i) xs) ≡ (when b then 1 else 0)
      go ih true = rw (eq-eqb i i refl) (omega arith)
      go ih false = ih
  occurs-at (x ∷ xs) i (suc k) h = rw (add-suc, ← suc-add i k) (go (occurs-at xs (suc i) k (omega arith)) (p x))
    where
      go :
          occurs (suc i + k) (places p (suc i) xs) ≡ (when p (get_or xs k d) then 1 else 0) → (b : Bool)
          → occurs (suc i + k) (when b then i ∷ places p (suc i) xs else places p (suc i) xs) ≡ (when p (get_or xs k d) then 1 else 0)
      go ih true = rw (ne_eqb i (suc i + k) (λ e. omega arith)) (omega arith)
      go ih false = ih

  -- and no place behind the list
  occurs-behind : (xs : List A) (i j : ℕ) → i + length xs ≤ j → occurs j (places p i xs) ≡ 0
  unfolding occurs places when◌then◌else◌
  occurs-behind [] i j h = refl
  occurs-behind (x ∷ xs) i j h = go (occurs-behind xs (suc i) j (omega arith)) (p x)
    where
      go : occurs j (places p (suc i) xs) ≡ 0 → (b : Bool) → occurs j (when b then i ∷ places p (suc i) xs else places p (suc i) xs) ≡ 0
      go ih true = rw (ne_eqb i j (λ e. omega arith)) (omega arith)
      go ih false = ih

-- ── known fields ──

unfoldable pub once : ℕ → Bool → ℕ
once n b = when b then n else 0

once-sum : (n : ℕ) (b : Bool) (m : ℕ) → once n b + n * m ≡ n * ((when b then 1 else 0) + m)
unfolding once when◌then◌else◌
once-sum n true m = rw (native.Mathlib.Nat.mul-add n 1 m) (omega arith)
once-sum n false m = rw (native.Mathlib.Nat.mul-add n 0 m) (omega arith)

module _ (s : State) (n j : ℕ) where
  one-old : (i : ℕ) → movable (field_at s j).kind ≡ true → share j (old_due s n i) ≡ once n (eqb i j)
  unfolding old_due once when◌then◌else◌
  one-old i mv = go (eqb i j) refl
    where
      go : (b : Bool) → eqb i j ≡ b → (when b then values_due (field_at s i).kind n else 0) ≡ (when b then n else 0)
      go true t = due-movable (field_at s i).kind n (rw (eqb-true i j t) mv)
      go false t = refl

  owed-olds : (is : List ℕ) → movable (field_at s j).kind ≡ true → owed j (map (old_due s n) is) ≡ n * occurs j is
  unfolding owed sum occurs
  owed-olds [] mv = omega arith
  owed-olds (i ∷ is) mv = rw (one-old i mv, owed-olds is mv) (once-sum n (eqb i j) (occurs j is))

  -- a field that is not declared is no known field
  none_old : (is : List ℕ) → occurs j is ≡ 0 → owed j (map (old_due s n) is) ≡ 0
  unfolding owed sum occurs old_due when◌then◌else◌
  none_old [] h = refl
  none_old (i ∷ is) h = go (none_old is) (eqb i j) refl h
    where
      go :
          (occurs j is ≡ 0 → owed j (map (old_due s n) is) ≡ 0) → (b : Bool) → eqb i j ≡ b → (when b then 1 else 0) + occurs j is ≡ 0
          → (when b then values_due (field_at s i).kind n else 0) + owed j (map (old_due s n) is) ≡ 0
      go ih true t h = absurd (omega arith)
      go ih false t h = omega (arith, ih (omega arith))

eqb-sym : (a b : ℕ) → eqb a b ≡ eqb b a
eqb-sym a b = go (eqb a b) refl
  where
    go : (t : Bool) → eqb a b ≡ t → t ≡ eqb b a
    go true t = sym (eq-eqb b a (sym (eqb-true a b t)))
    go false t = sym (ne_eqb b a (λ e. eqb-false a b t (sym e)))

once-none : (n : ℕ) (b : Bool) → n ≡ 0 → once n b ≡ 0
unfolding once when◌then◌else◌
once-none n true h = h
once-none n false h = refl

once-times : (n : ℕ) (b : Bool) → n * (when b then 1 else 0) ≡ once n b
unfolding once when◌then◌else◌
once-times n true = omega arith
once-times n false = omega arith

known-once : (s : State) (h : Head) (j : ℕ) → j < length s.fields → h.count * occurs j (known_due s h) ≡ once h.count (eqb (type_of s h.name) (field_at s j).owner)
unfolding known_due fields_of field_at when◌then◌else◌ occurs owns?
known-once s h j lt = go (eqb h.count 0) refl
  where
    o : occurs j (places (owns? (type_of s h.name)) 0 s.fields) ≡ (when eqb (get_or s.fields j no_field).owner (type_of s h.name) then 1 else 0)
    o = rw zero-add at (occurs-at (owns? (type_of s h.name)) no_field s.fields 0 j lt)

    go :
        (b : Bool) → eqb h.count 0 ≡ b
        → h.count * occurs j (when b then [] else places (owns? (type_of s h.name)) 0 s.fields) ≡ once h.count (eqb (type_of s h.name) (get_or s.fields j no_field).owner)
    go true t = rw (once-none h.count (eqb (type_of s h.name) (get_or s.fields j no_field).owner) (eqb-true h.count 0 t)) (omega arith)
    go false t = rw (o, once-times) (ap (once h.count) (eqb-sym (get_or s.fields j no_field).owner (type_of s h.name)))

known_behind : (s : State) (h : Head) (j : ℕ) → length s.fields ≤ j → occurs j (known_due s h) ≡ 0
unfolding known_due fields_of when◌then◌else◌ occurs
known_behind s h j le = go (eqb h.count 0)
  where
    go : (b : Bool) → occurs j (when b then [] else places (owns? (type_of s h.name)) 0 s.fields) ≡ 0
    go true = refl
    go false = occurs-behind (owns? (type_of s h.name)) no_field s.fields 0 j (omega arith)

-- ── new fields ──

unfoldable pub made : ℕ → New → Field
made t g = record { owner = t; kind = noted g.kind }

news-below : (n : ℕ) (gs : List New) (i j : ℕ) → j < i → owed j (new_dues i n gs) ≡ 0
unfolding owed sum new_dues when◌then◌else◌
news-below n [] i j h = refl
news-below n (g ∷ gs) i j h = rw (ne_eqb i j (λ e. omega arith)) (omega (arith, news-below n gs (suc i) j (omega arith)))

news-behind : (n : ℕ) (gs : List New) (i j : ℕ) → i + length gs ≤ j → owed j (new_dues i n gs) ≡ 0
unfolding owed sum new_dues when◌then◌else◌
news-behind n [] i j h = refl
news-behind n (g ∷ gs) i j h = rw (ne_eqb i j (λ e. omega arith)) (omega (arith, news-behind n gs (suc i) j (omega arith)))

pub noted-due : (k : Kind) (n : ℕ) → values_due (noted k) n ≡ values_due k n
unfolding noted values_due
noted-due (constant k v) n = refl
noted-due (plain k) n = refl
noted-due (array l k) n = refl
noted-due (many c k) n = refl
noted-due (mapping ks) n = refl

news-at : (t n : ℕ) (gs : List New) (i k : ℕ) → k < length gs → owed (i + k) (new_dues i n gs) ≡ values_due (get_or (map (made t) gs) k no_field).kind n
unfolding owed sum new_dues when◌then◌else◌ made
news-at t n [] i k h = absurd (omega arith)
news-at t n (g ∷ gs) i zero h = rw (add-zero, eq-eqb i i refl) (omega (arith, noted-due g.kind n, news-below n gs (suc i) (i + 0) (omega arith)))
news-at t n (g ∷ gs) i (suc k) h =
    let next : i + suc k ≡ suc i + k = omega arith in
    subst (λ (j : ℕ). owed j (new_dues i n (g ∷ gs)) ≡ values_due (get_or (map (made t) (g ∷ gs)) (suc k) no_field).kind n) (sym next)
    (rw (ne_eqb i (suc i + k) (λ e. omega arith)) (zero-add _ ∙ news-at t n gs (suc i) k (omega arith)))

news-owner : (t : ℕ) (gs : List New) (k : ℕ) → k < length gs → (get_or (map (made t) gs) k no_field).owner ≡ t
unfolding made
news-owner t [] k h = absurd (omega arith)
news-owner t (g ∷ gs) zero h = refl
news-owner t (g ∷ gs) (suc k) h = news-owner t gs k (omega arith)

pub fold-fields : (t : ℕ) (gs : List New) (s : State) → (fold (after_new t) s gs).fields ≡ s.fields ++ map (made t) gs
unfolding fold after_new made
fold-fields t [] s = sym (append-nil s.fields)
fold-fields t (g ∷ gs) s = fold-fields t gs (after_new t s g) ∙ append_assoc s.fields (made t g ∷ []) (map (made t) gs)

pub fold-objects : (t : ℕ) (gs : List New) (s : State) (u : ℕ) → objects_of (fold (after_new t) s gs) u ≡ objects_of s u
unfolding fold after_new objects_of
fold-objects t [] s u = refl
fold-objects t (g ∷ gs) s u = fold-objects t gs (after_new t s g) u

pub head-objects : (s : State) (h : Head) (u : ℕ) → objects_of (after_head s h) u ≡ objects_of s u + once h.count (eqb (type_of s h.name) u)
unfolding objects_of after_head new_range total when◌then◌else◌ once of? size
head-objects s h u = rw (total-append (of? u) size s.log (new_range s h ∷ [])) (go (eqb (type_of s h.name) u))
  where
    go : (b : Bool) → objects_of s u + (when b then h.count + 0 else 0) ≡ objects_of s u + (when b then h.count else 0)
    go true = omega arith
    go false = refl

-- ── an entry ──

-- so many values each field has as its type has objects; one that is not declared yet has none
record Even (past : ℕ → ℕ) (s : State) : Type 0 where
  declared : (j : ℕ) → j < length s.fields → movable (field_at s j).kind ≡ true → past j ≡ objects_of s (field_at s j).owner
  fresh : (j : ℕ) → length s.fields ≤ j → past j ≡ 0

module _ (past : ℕ → ℕ) (s : State) (e : Entry) (E : Even past s) where
  abbrev t : ℕ
  t = type_of s e.head.name

  abbrev gs : List New
  gs = e.news

  abbrev s₁ : State
  s₁ = after_head s e.head

  after-fields : (after_entry s e).fields ≡ s.fields ++ map (made t) gs
  unfolding after_entry after_head
  after-fields = fold-fields t gs s₁

  after-length : length (after_entry s e).fields ≡ length s.fields + length gs
  after-length = ap length after-fields ∙ length-append s.fields (map (made t) gs) ∙ ap (λ (n : ℕ). length s.fields + n) (length-map gs (made t))

  after-objects : (u : ℕ) → objects_of (after_entry s e) u ≡ objects_of s u + once e.head.count (eqb t u)
  unfolding after_entry
  after-objects u = fold-objects t gs s₁ u ∙ head-objects s e.head u

  entry-owed : (j : ℕ) → owed j (entry_dues s e) ≡ owed j (map (old_due s e.head.count) (known_due s e.head)) + owed j (new_dues (length s.fields) (objects_of s₁ t) gs)
  unfolding entry_dues
  entry-owed j = owed-append j (map (old_due s e.head.count) (known_due s e.head)) (new_dues (length s.fields) (objects_of s₁ t) gs)

  old-even : (j : ℕ) → j < length s.fields → movable (field_at (after_entry s e) j).kind ≡ true → past j + owed j (entry_dues s e) ≡ objects_of (after_entry s e) (field_at (after_entry s e) j).owner
  unfolding field_at
  old-even j lt mv =
      let at : get_or (after_entry s e).fields j no_field ≡ get_or s.fields j no_field = ap (λ (l : List Field). get_or l j no_field) after-fields ∙ get_or-append s.fields (map (made t) gs) no_field j lt in
      let mv' : movable (get_or s.fields j no_field).kind ≡ true = rw at at mv in
      let x = owed-olds s e.head.count j (known_due s e.head) mv' ∙ known-once s e.head j lt in
      let y = news-below (objects_of s₁ t) gs (length s.fields) j lt in
      rw (at, after-objects, entry-owed j, x, y) (omega (arith, E.declared j lt mv'))

  new-even : (k : ℕ) → k < length gs → movable (field_at (after_entry s e) (length s.fields + k)).kind ≡ true
      → past (length s.fields + k) + owed (length s.fields + k) (entry_dues s e) ≡ objects_of (after_entry s e) (field_at (after_entry s e) (length s.fields + k)).owner
  unfolding field_at
  new-even k lt mv =
      let i = length s.fields in
      let at : get_or (after_entry s e).fields (i + k) no_field ≡ get_or (map (made t) gs) k no_field = ap (λ (l : List Field). get_or l (i + k) no_field) after-fields ∙ get_or-append-add s.fields (map (made t) gs) k no_field in
      let mv' : movable (get_or (map (made t) gs) k no_field).kind ≡ true = rw at at mv in
      let x = none_old s e.head.count (i + k) (known_due s e.head) (known_behind s e.head (i + k) (omega arith)) in
      let y = news-at t (objects_of s₁ t) gs i k lt ∙ due-movable _ (objects_of s₁ t) mv' in
      rw (at, news-owner t gs k lt, after-objects, entry-owed (i + k), x, y, head-objects s e.head) (omega (arith, E.fresh (i + k) (omega arith)))

  entry-even : Even (λ j. past j + owed j (entry_dues s e)) (after_entry s e)
  entry-even =
      record {
        declared = λ j lt mv. go j lt mv (dec_lt j (length s.fields));
        fresh = λ j le.
            let i = length s.fields in
            let x = none_old s e.head.count j (known_due s e.head) (known_behind s e.head j (omega (arith, after-length))) in
            let y = news-behind (objects_of s₁ t) gs i j (omega (arith, after-length)) in
            rw (entry-owed j, x, y) (omega (arith, E.fresh j (omega (arith, after-length))));
      }
    where
      go : (j : ℕ) → j < length (after_entry s e).fields → movable (field_at (after_entry s e) j).kind ≡ true → Dec (j < length s.fields) → past j + owed j (entry_dues s e) ≡ objects_of (after_entry s e) (field_at (after_entry s e) j).owner
      go j lt mv (Dec.yes y) = old-even j y mv
      go j lt mv (Dec.no y) =
          let z : length s.fields + (j - length s.fields) ≡ j = omega arith in
          rw z at (new-even (j - length s.fields) (omega (arith, after-length)) (rw z mv))

-- ── entries, pairs, the ledger ──

even-same : (past past' : ℕ → ℕ) (s : State) → ((j : ℕ) → past j ≡ past' j) → Even past s → Even past' s
even-same past past' s h E = record { declared = λ j lt mv. sym (h j) ∙ E.declared j lt mv; fresh = λ j le. sym (h j) ∙ E.fresh j le }

entries-even : (es : List Entry) (past : ℕ → ℕ) (s : State) → Even past s → Even (λ j. past j + owed j (dues s es)) (fold after_entry s es)
unfolding dues fold owed sum
entries-even [] past s E = even-same past (λ j. past j + owed j []) s (λ j. omega arith) E
entries-even (e ∷ es) past s E =
    even-same (λ j. past j + owed j (entry_dues s e) + owed j (dues (after_entry s e) es)) (λ j. past j + owed j (entry_dues s e ++ dues (after_entry s e) es)) _
    (λ j. omega (arith, owed-append j (entry_dues s e) (dues (after_entry s e) es)))
    (entries-even es (λ j. past j + owed j (entry_dues s e)) (after_entry s e) (entry-even past s e E))

-- the values of field j in chunks that are due
unfoldable pub chunk_count : ℕ → List Due → List Chunk → ℕ
chunk_count j [] cs = 0
chunk_count j (d ∷ ds) [] = 0
chunk_count j (d ∷ ds) (c ∷ cs) = (when eqb d.field j then length c else 0) + chunk_count j ds cs

unfoldable pub value_count : ℕ → State → Ledger → ℕ
value_count j s [] = 0
value_count j s (p ∷ ps) = chunk_count j (dues (with_strings s p.strings) p.entries) p.chunks + value_count j (after_pair s p) ps

chunks-count : (s : State) (j : ℕ) (ds : List Due) (cs : List Chunk) → chunks? s ds cs ≡ true → chunk_count j ds cs ≡ owed j ds
unfolding chunks? chunk? chunk_count owed sum
chunks-count s j [] cs h = refl
chunks-count s j (d ∷ ds) [] h = not_so h
chunks-count s j (d ∷ ds) (c ∷ cs) h =
    let (a, b) = and_split (chunk? s d c) _ h in
    let (x, _) = and_split (eqb (length c) d.values) _ a in
    rw (eqb-true (length c) d.values x, chunks-count s j ds cs b)

strings-even : (past : ℕ → ℕ) (s : State) (l : List (List ℕ)) → Even past s → Even past (with_strings s l)
unfolding with_strings field_at objects_of
strings-even past s l E = record { declared = E.declared; fresh = E.fresh }

closed-even : (past : ℕ → ℕ) (s : State) → Even past s → Even past (closed s)
unfolding closed field_at objects_of
closed-even past s E = record { declared = E.declared; fresh = E.fresh }

pair-even : (past : ℕ → ℕ) (s : State) (p : Pair) → pair? s p ≡ true → Even past s → Even (λ j. past j + chunk_count j (dues (with_strings s p.strings) p.entries) p.chunks) (after_pair s p)
unfolding pair? after_pair after_front
pair-even past s p h E =
    let (a, (b, (c, (d, (e, (g, _)))))) = every-split _ h in
    let ds = dues (with_strings s p.strings) p.entries in
    even-same (λ j. past j + owed j ds) (λ j. past j + chunk_count j ds p.chunks) _ (λ j. ap (λ (n : ℕ). past j + n) (sym (chunks-count (after_front s p.strings p.entries) j ds p.chunks g)))
    (closed-even _ _ (entries-even p.entries past (with_strings s p.strings) (strings-even past s p.strings E)))

pairs-even : (l : Ledger) (past : ℕ → ℕ) (s : State) → in_turn pair? after_pair s l ≡ true → Even past s → Even (λ j. past j + value_count j s l) (fold after_pair s l)
unfolding in_turn fold value_count
pairs-even [] past s h E = even-same past (λ j. past j + value_count j s []) s (λ j. omega arith) E
pairs-even (p ∷ l) past s h E =
    let (a, b) = and_split (pair? s p) _ h in
    let ds = dues (with_strings s p.strings) p.entries in
    even-same (λ j. past j + chunk_count j ds p.chunks + value_count j (after_pair s p) l) (λ j. past j + (chunk_count j ds p.chunks + value_count j (after_pair s p) l)) _ (λ j. omega arith)
    (pairs-even l (λ j. past j + chunk_count j ds p.chunks) (after_pair s p) b (pair-even past s p a E))

-- in a ledger that keeps the rules each field, constants aside, has one value for each object of its type
pub values-even :
    (l : Ledger) (j : ℕ) → keeps? l ≡ true → j < length (fold after_pair nothing l).fields → movable (field_at (fold after_pair nothing l) j).kind ≡ true
    → value_count j nothing l ≡ objects_of (fold after_pair nothing l) (field_at (fold after_pair nothing l) j).owner
unfolding keeps? nothing
values-even l j h lt mv =
    let (a, (b, (c, _))) = every-split _ h in
    let E = pairs-even l (λ j. 0) nothing c (record { declared = λ j lt mv. absurd (omega arith); fresh = λ j le. refl }) in
    omega (arith, E.declared j lt mv)

-- The fields of a type when an entry puts new ones behind them, or a block its strings: what was there stays where it is.
-- Assumes nothing.
use Rattle.std.specs.Prelude.{◌≡◌, Bool, true, false}
use Rattle.std.proofs.Math.Path.{refl, ap}
use Rattle.std.proofs.Common.{sym, ◌∙◌, length-append, eq-eqb, ne_eqb}
use mathlib.Core.List.{List, [], ◌∷◌, ◌++◌, map, append-nil, append_assoc}
use Rattle.std.proofs.Math.Option.{none, some}
use Prim.Native.Nat.{ℕ, zero, suc, ◌+◌, ◌<◌}
use native.Mathlib.Omega.{arith}
use Rattle.std.proofs.Math.ListN.{length, get_or, get_or-append}
use Rattle.std.proofs.Math.Seq.{get_or-append-add}
use Rattle.paper.specs.Reader.{when◌then◌else◌}
use Rattle.paper.specs.Lists.{same, place, place_named, places, fold}
use Rattle.paper.specs.Ledger.{New, Entry, Field, State, text, no_field, field_at, owns?, fields_of, called?, field_named}
use Rattle.paper.specs.Rules.{noted, type_of, after_head, after_new, after_entry}
use Rattle.laws.specs.Columns.{Grows}
use Rattle.laws.specs.Count.{made, fold-fields}

-- ── lists put together ──

-- what the first do not have is found among the others
named-behind :
    {A B : Type 0} (p : A → B → Bool) (i : ℕ) (xs ys : List A) (ns ms : List B) → length xs ≡ length ns → place_named p i xs ns ≡ none
    → place_named p i (xs ++ ys) (ns ++ ms) ≡ place_named p (i + length xs) ys ms
unfolding place_named when◌then◌else◌
named-behind p i [] ys [] ms l h = let z : i ≡ i + 0 = omega arith in ap (λ (k : ℕ). place_named p k ys ms) z
named-behind p i [] ys (n ∷ ns) ms l h = absurd (omega arith)
named-behind p i (x ∷ xs) ys [] ms l h = absurd (omega arith)
named-behind p i (x ∷ xs) ys (n ∷ ns) ms l h = go (named-behind p (suc i) xs ys ns ms (omega arith)) (p x n) h
  where
    go :
        (place_named p (suc i) xs ns ≡ none → place_named p (suc i) (xs ++ ys) (ns ++ ms) ≡ place_named p (suc i + length xs) ys ms) → (b : Bool)
        → (when b then some i else place_named p (suc i) xs ns) ≡ none → (when b then some i else place_named p (suc i) (xs ++ ys) (ns ++ ms)) ≡ place_named p (i + suc (length xs)) ys ms
    go ih true q = let z : ◌≡◌ {A = ℕ} 0 1 = cc q in absurd (omega arith)
    go ih false q = let z : suc i + length xs ≡ i + suc (length xs) = omega arith in ih q ∙ ap (λ (k : ℕ). place_named p k ys ms) z

places-append : {A : Type 0} (p : A → Bool) (i : ℕ) (xs ys : List A) → places p i (xs ++ ys) ≡ places p i xs ++ places p (i + length xs) ys
unfolding places when◌then◌else◌
places-append p i [] ys = let z : i ≡ i + 0 = omega arith in ap (λ (k : ℕ). places p k ys) z
places-append p i (x ∷ xs) ys = go (places-append p (suc i) xs ys ∙ ap (λ (k : ℕ). places p (suc i) xs ++ places p k ys) z) (p x)
  where
    z : suc i + length xs ≡ i + suc (length xs)
    z = omega arith

    go :
        places p (suc i) (xs ++ ys) ≡ places p (suc i) xs ++ places p (i + suc (length xs)) ys → (b : Bool)
        → (when b then i ∷ places p (suc i) (xs ++ ys) else places p (suc i) (xs ++ ys)) ≡ (when b then i ∷ places p (suc i) xs else places p (suc i) xs) ++ places p (i + suc (length xs)) ys
    go ih true = ap (λ (l : List ℕ). i ∷ l) ih
    go ih false = ih

places-below : {A : Type 0} (p : A → Bool) (i : ℕ) (xs : List A) (k : ℕ) → k < length (places p i xs) → get_or (places p i xs) k 0 < i + length xs
unfolding places when◌then◌else◌
places-below p i [] k lt = absurd (omega arith)
places-below p i (x ∷ xs) k lt = go (places-below p (suc i) xs) (p x) k lt
  where
    go :
        ((k : ℕ) → k < length (places p (suc i) xs) → get_or (places p (suc i) xs) k 0 < suc i + length xs) → (b : Bool) (k : ℕ)
        → k < length (when b then i ∷ places p (suc i) xs else places p (suc i) xs) → get_or (when b then i ∷ places p (suc i) xs else places p (suc i) xs) k 0 < i + suc (length xs)
    go ih true zero lt = omega arith
    go ih true (suc k) lt = omega (arith, ih k (omega arith))
    go ih false k lt = omega (arith, ih k lt)

-- ── new fields of one type ──

module _ (owner : ℕ) where
  new-named : (name : List ℕ) (txt : New → List ℕ) (i : ℕ) (gs : List New) → place_named (called? owner name) i (map (made owner) gs) (map txt gs) ≡ place (λ g. same name (txt g)) i gs
  unfolding place_named place called? owns? made
  new-named name txt i [] = refl
  new-named name txt i (g ∷ gs) = rw (eq-eqb owner owner refl, new-named name txt (suc i) gs) refl

  new-places : (i : ℕ) (gs : List New) → length (places (owns? owner) i (map (made owner) gs)) ≡ length gs
  unfolding places owns? made when◌then◌else◌
  new-places i [] = refl
  new-places i (g ∷ gs) = rw (eq-eqb owner owner refl) (ap suc (new-places (suc i) gs))

  new-place : (i : ℕ) (gs : List New) (k : ℕ) → k < length gs → get_or (places (owns? owner) i (map (made owner) gs)) k 0 ≡ i + k
  unfolding places owns? made when◌then◌else◌
  new-place i [] k lt = absurd (omega arith)
  new-place i (g ∷ gs) zero lt = rw (eq-eqb owner owner refl) (omega arith)
  new-place i (g ∷ gs) (suc k) lt = rw (eq-eqb owner owner refl) (new-place (suc i) gs k (omega arith) ∙ omega arith)

  -- of another type none of them is
  module _ (t : ℕ) (ne : owner ≡ t → ⊥) where
    else-named : (name : List ℕ) (i : ℕ) (gs : List New) (ns : List (List ℕ)) → place_named (called? t name) i (map (made owner) gs) ns ≡ none
    unfolding place_named called? owns? made when◌then◌else◌
    else-named name i [] ns = refl
    else-named name i (g ∷ gs) [] = refl
    else-named name i (g ∷ gs) (n ∷ ns) = rw (ne_eqb owner t ne) (else-named name (suc i) gs ns)

    else-places : (i : ℕ) (gs : List New) → places (owns? t) i (map (made owner) gs) ≡ []
    unfolding places owns? made when◌then◌else◌
    else-places i [] = refl
    else-places i (g ∷ gs) = rw (ne_eqb owner t ne) (else-places (suc i) gs)

-- ── an entry ──

-- as many names as fields
abbrev pub Paired : State → Type 0
Paired s = length s.fields ≡ length s.field_names

abbrev pub name_of : State → New → List ℕ
name_of s g = text s g.name

fold-names : (t : ℕ) (gs : List New) (s : State) → (fold (after_new t) s gs).field_names ≡ s.field_names ++ map (name_of s) gs
unfolding fold after_new text
fold-names t [] s = sym (append-nil s.field_names)
fold-names t (g ∷ gs) s = fold-names t gs (after_new t s g) ∙ append_assoc s.field_names (name_of s g ∷ []) (map (name_of s) gs)

module _ (s : State) (e : Entry) where
  abbrev owner : ℕ
  owner = type_of s e.head.name

  pub entry-fields : (after_entry s e).fields ≡ s.fields ++ map (made owner) e.news
  unfolding after_entry after_head
  entry-fields = fold-fields owner e.news (after_head s e.head)

  pub entry-names : (after_entry s e).field_names ≡ s.field_names ++ map (name_of s) e.news
  unfolding after_entry after_head text
  entry-names = fold-names owner e.news (after_head s e.head)

  -- where the type's new fields stand
  own-fields : (t : ℕ) → fields_of (after_entry s e) t ≡ fields_of s t ++ places (owns? t) (length s.fields) (map (made owner) e.news)
  unfolding fields_of
  own-fields t =
      let z : 0 + length s.fields ≡ length s.fields = omega arith in
      ap (places (owns? t) 0) entry-fields ∙ places-append (owns? t) 0 s.fields (map (made owner) e.news) ∙ ap (λ (k : ℕ). places (owns? t) 0 s.fields ++ places (owns? t) k (map (made owner) e.news)) z

  -- a name that was not there is that of the first new field that has it
  all_named : (t : ℕ) (name : List ℕ) → Paired s → field_named s t name ≡ none → field_named (after_entry s e) t name ≡ place_named (called? t name) (length s.fields) (map (made owner) e.news) (map (name_of s) e.news)
  unfolding field_named
  all_named t name P h =
      let z : 0 + length s.fields ≡ length s.fields = omega arith in
      rw (entry-fields, entry-names) (named-behind (called? t name) 0 s.fields (map (made owner) e.news) s.field_names (map (name_of s) e.news) P h ∙ ap (λ (k : ℕ). place_named (called? t name) k (map (made owner) e.news) (map (name_of s) e.news)) z)

  module _ {t : ℕ} where
    pub entry_named : owner ≡ t → (name : List ℕ) → Paired s → field_named s t name ≡ none → field_named (after_entry s e) t name ≡ place (λ g. same name (name_of s g)) (length s.fields) e.news
    entry_named is name P h = all_named t name P h ∙ ap (λ (k : ℕ). place_named (called? k name) (length s.fields) (map (made owner) e.news) (map (name_of s) e.news)) (sym is) ∙ new-named owner name (name_of s) (length s.fields) e.news

    pub entry-unnamed : (owner ≡ t → ⊥) → (name : List ℕ) → Paired s → field_named s t name ≡ none → field_named (after_entry s e) t name ≡ none
    entry-unnamed ne name P h = all_named t name P h ∙ else-named owner t ne name (length s.fields) e.news (map (name_of s) e.news)

    pub entry-own : owner ≡ t → length (fields_of (after_entry s e) t) ≡ length (fields_of s t) + length e.news
    entry-own is =
        ap length (own-fields t) ∙ length-append (fields_of s t) (places (owns? t) (length s.fields) (map (made owner) e.news))
        ∙ ap (λ (k : ℕ). length (fields_of s t) + length (places (owns? k) (length s.fields) (map (made owner) e.news))) (sym is) ∙ ap (λ (k : ℕ). length (fields_of s t) + k) (new-places owner (length s.fields) e.news)

    pub entry-same : (owner ≡ t → ⊥) → fields_of (after_entry s e) t ≡ fields_of s t
    entry-same ne = own-fields t ∙ ap (λ (l : List ℕ). fields_of s t ++ l) (else-places owner t ne (length s.fields) e.news) ∙ append-nil (fields_of s t)

    -- the k-th new field is the k-th behind those that the type had, and stands k places behind all fields
    pub entry_place : owner ≡ t → (k : ℕ) → k < length e.news → get_or (fields_of (after_entry s e) t) (length (fields_of s t) + k) 0 ≡ length s.fields + k
    entry_place is k lt =
        ap (λ (l : List ℕ). get_or l (length (fields_of s t) + k) 0) (own-fields t) ∙ get_or-append-add (fields_of s t) (places (owns? t) (length s.fields) (map (made owner) e.news)) k 0
        ∙ ap (λ (j : ℕ). get_or (places (owns? j) (length s.fields) (map (made owner) e.news)) k 0) (sym is) ∙ new-place owner (length s.fields) e.news k lt

  -- its kind is what is kept of the one that was read
  pub entry-kind : (xs : List New) (g : New) (ys : List New) → e.news ≡ xs ++ g ∷ ys → (k : ℕ) → length xs ≡ k → (field_at (after_entry s e) (length s.fields + k)).kind ≡ noted g.kind
  unfolding field_at made
  entry-kind xs g ys is k long =
      let at : get_or (map (made owner) e.news) k no_field ≡ made owner g = ap (λ (l : List New). get_or (map (made owner) l) k no_field) is ∙ kth xs k long in
      ap (λ (d : Field). d.kind) (ap (λ (l : List Field). get_or l (length s.fields + k) no_field) entry-fields ∙ get_or-append-add s.fields (map (made owner) e.news) k no_field ∙ at)
    where
      kth : (xs : List New) (k : ℕ) → length xs ≡ k → get_or (map (made owner) (xs ++ g ∷ ys)) k no_field ≡ made owner g
      kth [] zero q = refl
      kth [] (suc k) q = absurd (omega arith)
      kth (a ∷ xs) zero q = absurd (omega arith)
      kth (a ∷ xs) (suc k) q = kth xs k (omega arith)

-- ── fields never move ──

pub record Stays (s u : State) (t own : ℕ) : Type 0 where
  pub there : own < length (fields_of u t)
  pub place : get_or (fields_of u t) own 0 ≡ get_or (fields_of s t) own 0
  pub field : field_at u (get_or (fields_of u t) own 0) ≡ field_at s (get_or (fields_of s t) own 0)

pub own-stays : {s u : State} → Grows s u → {t own : ℕ} → own < length (fields_of s t) → Stays s u t own
unfolding fields_of field_at
own-stays {s} {u} G {t} {own} lt =
    let more = G.fields.rest in
    let p = owns? t in
    let all : places p 0 u.fields ≡ places p 0 s.fields ++ places p (0 + length s.fields) more = ap (places p 0) G.fields.is ∙ places-append p 0 s.fields more in
    let at : get_or (places p 0 u.fields) own 0 ≡ get_or (places p 0 s.fields) own 0 = ap (λ (l : List ℕ). get_or l own 0) all ∙ get_or-append (places p 0 s.fields) (places p (0 + length s.fields) more) 0 own lt in
    let below = places-below p 0 s.fields own lt in
    let z : 0 + length s.fields ≡ length s.fields = omega arith in
    record {
      there = omega (arith, lt, ap length all ∙ length-append (places p 0 s.fields) (places p (0 + length s.fields) more));
      place = at;
      field =
          ap (λ (k : ℕ). get_or u.fields k no_field) at ∙ ap (λ (l : List Field). get_or l (get_or (places p 0 s.fields) own 0) no_field) G.fields.is
          ∙ get_or-append s.fields more no_field (get_or (places p 0 s.fields) own 0) (omega (arith, below, z));
    }

-- In the state that entries which keep the rules lead to, no array is longer than the bound, so that no value has more
-- elements than a line is read for. Assumes nothing.
use Rattle.std.specs.Prelude.{◌≡◌, refl, Bool, true, false, List, [], ◌∷◌, ◌++◌, ℕ, zero, suc, ◌≤◌, leb, eqb, length, get_or}
use Rattle.std.proofs.Common.{arith, leb-true, eqb-true}
use Rattle.paper.specs.Bounds.{most_objects}
use Rattle.paper.specs.Lists.{all}
use Rattle.paper.specs.Ledger.{mapping, Kind, constant, plain, array, many, Element, New, Entry, Pair, Field, State, nothing, no_field, field_at}
use Rattle.paper.specs.Rules.{small_rules, with_strings, type_of, after_head, noted, after_new, after_entry, after_front, after_pair, closed}
use Rattle.paper.specs.Keeps.{in_turn, number?, kind_kept?, new-field?, entry?, value?, pair?}
use Rattle.laws.specs.Bools.{not_so, and_split, and-join, every-split, number-split}
use Rattle.laws.specs.Turns.{fold-keeps}

pub short? : Kind → Bool
short? (constant k v) = true
short? (plain k) = true
short? (array n k) = leb n most_objects
short? (many c k) = true
short? (mapping ks) = true

pub short-arrays? : State → Bool
short-arrays? s = all (λ (d : Field). short? d.kind) s.fields

-- ── it holds of nothing, and every step keeps it ──

pub nothing-short : short-arrays? nothing ≡ true
unfolding short-arrays? nothing all
nothing-short = refl

kept-short : (k : Kind) → kind_kept? k ≡ true → short? k ≡ true
unfolding kind_kept? short? small_rules
kept-short (constant k v) h = refl
kept-short (plain k) h = refl
kept-short (array n k) h = (number-split small_rules n (and_split (number? small_rules n) _ h).0).1.0
kept-short (many c k) h = refl
kept-short (mapping ks) h = refl

noted-short : (k : Kind) → kind_kept? k ≡ true → short? (noted k) ≡ true
unfolding noted short?
noted-short (constant k v) h = refl
noted-short (plain k) h = refl
noted-short (array n k) h = kept-short (array n k) h
noted-short (many c k) h = refl
noted-short (mapping ks) h = refl

pub all_append : {A : Type 0} (ok : A → Bool) (l m : List A) → all ok l ≡ true → all ok m ≡ true → all ok (l ++ m) ≡ true
unfolding all
all_append ok [] m h k = k
all_append ok (a ∷ l) m h k = let (p, q) = and_split (ok a) (all ok l) h in and-join p (all_append ok l m q k)

new-short : (t : ℕ) (s : State) (g : New) → short-arrays? s ≡ true → new-field? t s g ≡ true → short-arrays? (after_new t s g) ≡ true
unfolding short-arrays? after_new new-field? all
new-short t s g i h =
    all_append (λ (d : Field). short? d.kind) s.fields _ i (and-join (noted-short g.kind (and_split (kind_kept? g.kind) _ h).0) refl)

head-short : (s : State) (e : Entry) → short-arrays? s ≡ true → short-arrays? (after_head s e.head) ≡ true
unfolding short-arrays? after_head
head-short s e i = i

entry-short : (s : State) (e : Entry) → short-arrays? s ≡ true → entry? s e ≡ true → short-arrays? (after_entry s e) ≡ true
unfolding after_entry entry?
entry-short s e i h =
    let t = type_of s e.head.name in
    fold-keeps (after_new t) (new-field? t) short-arrays? (new-short t) (after_head s e.head) e.news (head-short s e i) (every-split _ h).1.1.0

strings-short : (s : State) (strings : List (List ℕ)) → short-arrays? s ≡ true → short-arrays? (with_strings s strings) ≡ true
unfolding short-arrays? with_strings
strings-short s strings i = i

pub front-short :
    (s : State) (strings : List (List ℕ)) (entries : List Entry) → short-arrays? s ≡ true → in_turn entry? after_entry (with_strings s strings) entries ≡ true
    → short-arrays? (after_front s strings entries) ≡ true
unfolding after_front
front-short s strings entries i h = fold-keeps after_entry entry? short-arrays? entry-short (with_strings s strings) entries (strings-short s strings i) h

closed-short : (s : State) → short-arrays? s ≡ true → short-arrays? (closed s) ≡ true
unfolding short-arrays? closed
closed-short s i = i

pub pair-short : (s : State) (p : Pair) → short-arrays? s ≡ true → pair? s p ≡ true → short-arrays? (after_pair s p) ≡ true
unfolding after_pair pair?
pair-short s p i h = closed-short (after_front s p.strings p.entries) (front-short s p.strings p.entries i (every-split _ h).1.1.1.0)

-- ── so values are short ──

field-short : (l : List Field) (i : ℕ) → all (λ (d : Field). short? d.kind) l ≡ true → short? (get_or l i no_field).kind ≡ true
unfolding all no_field short?
field-short [] i h = refl
field-short (d ∷ l) zero h = (and_split (short? d.kind) _ h).0
field-short (d ∷ l) (suc i) h = field-short l i (and_split (short? d.kind) _ h).1

-- not a map, which may have more elements
unfoldable pub row? : Kind → Bool
row? (constant k v) = true
row? (plain k) = true
row? (array n k) = true
row? (many c k) = true
row? (mapping ks) = false

pub kind-short : (s : State) (k : Kind) (es : List Element) → row? k ≡ true → short? k ≡ true → value? s k es ≡ true → length es ≤ most_objects
unfolding row? short? value? small_rules
kind-short s (constant k v) es r i h = omega (arith, eqb-true (length es) 0 h)
kind-short s (plain k) es r i h = omega (arith, eqb-true (length es) 1 (and_split (eqb (length es) 1) _ h).0)
kind-short s (array n k) es r i h = omega (arith, leb-true n most_objects i, eqb-true (length es) n (and_split (eqb (length es) n) _ h).0)
kind-short s (many c k) es r i h =
    leb-true (length es) most_objects (number-split small_rules (length es) (and_split (number? small_rules (length es)) _ h).0).1.0
kind-short s (mapping ks) es r i h = not_so r

pub field-kind-short : (s : State) (i : ℕ) → short-arrays? s ≡ true → short? (field_at s i).kind ≡ true
unfolding short-arrays? field_at
field-kind-short s i h = field-short s.fields i h

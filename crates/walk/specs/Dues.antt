-- The chunks that are due are of declared fields: so it is with those of every block's entries. Assumes nothing.
use Rattle.std.specs.Prelude.{◌≡◌, Bool, true, false, List, [], ◌∷◌, ◌++◌, map, ℕ, zero, suc, ◌+◌, ◌≤◌, ◌<◌, eqb, length, get_or}
use Rattle.std.proofs.Common.{ap, ◌∙◌, arith, length-append}
use Rattle.std.proofs.lemmas.List.{length-map}
use Rattle.paper.specs.Reader.{when◌then◌else◌}
use Rattle.paper.specs.Lists.{places, fold}
use Rattle.paper.specs.Ledger.{New, Head, Entry, Due, Field, State, owns?, fields_of, objects_of}
use Rattle.paper.specs.Rules.{with_strings, type_of, after_head, after_entry, after_front, known_due, old_due, new_dues, entry_dues, dues}
use Rattle.paper.specs.File.{sized}
use Rattle.laws.specs.Count.{fold-fields}
use Rattle.table.specs.Answers.{no_due}
use Rattle.walk.specs.Stand.{new_fields, fields-after}

-- each chunk is of one of the n fields
abbrev pub Declared : ℕ → List (Due × ℕ) → Type 0
Declared n [] = Unit {0}
Declared n (d ∷ ds) = (d.0.field < n) × Declared n ds

pub declared-at : (n : ℕ) (ds : List (Due × ℕ)) (i : ℕ) → Declared n ds → i < length ds → (get_or ds i no_due).0.field < n
declared-at n [] i h lt = absurd (omega arith)
declared-at n (d ∷ ds) zero h lt = h.0
declared-at n (d ∷ ds) (suc i) h lt = declared-at n ds i h.1 (omega arith)

-- ── the same before their sizes are known ──

abbrev Owed : ℕ → List Due → Type 0
Owed n [] = Unit {0}
Owed n (d ∷ ds) = (d.field < n) × Owed n ds

owed-append : (n : ℕ) (ds es : List Due) → Owed n ds → Owed n es → Owed n (ds ++ es)
owed-append n [] es h k = k
owed-append n (d ∷ ds) es h k = (h.0, owed-append n ds es h.1 k)

-- of fields whose places, from i on, pass a test
owed-places : (p : Field → Bool) (s : State) (added n : ℕ) (fs : List Field) (i : ℕ) → i + length fs ≤ n → Owed n (map (old_due s added) (places p i fs))
unfolding places when◌then◌else◌ old_due
owed-places p s added n [] i le = tt
owed-places p s added n (d ∷ fs) i le = go (owed-places p s added n fs (suc i) (omega arith)) (p d)
  where
    go : Owed n (map (old_due s added) (places p (suc i) fs)) → (b : Bool) → Owed n (map (old_due s added) (when b then i ∷ places p (suc i) fs else places p (suc i) fs))
    go rest true = (omega arith, rest)
    go rest false = rest

owed-known : (s : State) (h : Head) (n : ℕ) → length s.fields ≤ n → Owed n (map (old_due s h.count) (known_due s h))
unfolding known_due fields_of when◌then◌else◌
owed-known s h n le = go (eqb h.count 0)
  where
    go : (b : Bool) → Owed n (map (old_due s h.count) (when b then [] else places (owns? (type_of s h.name)) 0 s.fields))
    go true = tt
    go false = owed-places (owns? (type_of s h.name)) s h.count n s.fields 0 (omega arith)

owed-new : (n many : ℕ) (gs : List New) (i : ℕ) → i + length gs ≤ n → Owed n (new_dues i many gs)
unfolding new_dues
owed-new n many [] i le = tt
owed-new n many (g ∷ gs) i le = (omega arith, owed-new n many gs (suc i) (omega arith))

-- ── entries ──

fields-of-entry : (s : State) (e : Entry) → length (after_entry s e).fields ≡ length s.fields + length e.news
unfolding after_entry after_head
fields-of-entry s e =
    ap length (fold-fields (type_of s e.head.name) e.news (after_head s e.head))
    ∙ length-append s.fields _ ∙ ap (λ (k : ℕ). length s.fields + k) (length-map e.news _)

entry-owed : (s : State) (e : Entry) (n : ℕ) → length (after_entry s e).fields ≤ n → Owed n (entry_dues s e)
unfolding entry_dues
entry-owed s e n le =
    let many = objects_of (after_head s e.head) (type_of s e.head.name) in
    let all = fields-of-entry s e in
    owed-append n (map (old_due s e.head.count) (known_due s e.head)) (new_dues (length s.fields) many e.news)
    (owed-known s e.head n (omega arith)) (owed-new n many e.news (length s.fields) (omega arith))

dues-owed : (es : List Entry) (s : State) (n : ℕ) → length (fold after_entry s es).fields ≤ n → Owed n (dues s es)
unfolding dues fold
dues-owed [] s n le = tt
dues-owed (e ∷ es) s n le =
    let all = ap length (fields-after es (after_entry s e)) ∙ length-append (after_entry s e).fields (new_fields (after_entry s e) es) in
    owed-append n (entry_dues s e) (dues (after_entry s e) es) (entry-owed s e n (omega arith)) (dues-owed es (after_entry s e) n le)

sized-declared : (n from : ℕ) (ds : List Due) (ends : List ℕ) → Owed n ds → Declared n (sized from ds ends)
unfolding sized
sized-declared n from [] ends h = tt
sized-declared n from (d ∷ ds) [] h = tt
sized-declared n from (d ∷ ds) (e ∷ ends) h = (h.0, sized-declared n e ds ends h.1)

-- the chunks of a block's entries are of fields that are declared once all entries are read
pub front-declared :
    (s : State) (strings : List (List ℕ)) (es : List Entry) (ends : List ℕ)
    → Declared (length (after_front s strings es).fields) (sized 0 (dues (with_strings s strings) es) ends)
unfolding after_front
front-declared s strings es ends =
    sized-declared (length (fold after_entry (with_strings s strings) es).fields) 0 (dues (with_strings s strings) es) ends
    (dues-owed es (with_strings s strings) (length (fold after_entry (with_strings s strings) es).fields) (omega arith))

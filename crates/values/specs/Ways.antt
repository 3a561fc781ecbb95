-- The ways out of a map and of a key with what it leads to, as code takes them. Assumes nothing.
use Rattle.std.specs.Prelude.{Ok, Err, ◌≡◌, ℕ, ◌+◌, ◌-◌, ◌*◌, ◌<◌, ◌≤◌, true, List, [], ◌∷◌, map, length, take, drop, slice_index, refl}
use Rattle.std.proofs.Common.{arith, length-drop}
use Rattle.paper.specs.Reader.{Reader, give, repeat}
use Rattle.paper.specs.Maps.{map_of}
use Rattle.paper.specs.File.{small}
use Rattle.numbers.specs.Cursors.{Outcome, Read}
use Rattle.numbers.specs.declared.Cursor.{Cursor}
use Rattle.numbers.specs.declared.Refusal.{Refusal}
use Rattle.values.specs.Pass.{Passed}
use Rattle.values.specs.Maps.{rest_part, key_of, map-element, map-no, map_keys, key-no, key-then}
use Rattle.paper.specs.Lists.{all}
use Rattle.paper.specs.Rules.{element_kind?}
use Rattle.laws.specs.Bools.{and_split}
use Rattle.values.specs.Spans.{item_in}

last-left : (l : List ℕ) → length l ≡ 2 → (length (take (length l - 1) (drop 1 l)) ≡ 1) × (slice_index (take (length l - 1) (drop 1 l)) 0 ≡ slice_index l 1)
last-left [] h = absurd (omega arith)
last-left (k ∷ []) h = absurd (omega arith)
last-left (k ∷ m ∷ l) h = rw (rest_part (k ∷ m ∷ l)) (omega arith, refl)

-- the map of these kinds, and a key of the first with what it leads to
unfoldable pub map_in : ℕ → List ℕ → List ℕ → List ℕ → List ℕ → List ℕ → Reader (List ℕ)
map_in strings pools starts first last kinds = map_of (give []) small (λ n. n) (map (item_in strings pools starts first last) kinds)

unfoldable pub key_in : ℕ → List ℕ → List ℕ → List ℕ → List ℕ → List ℕ → Reader (List ℕ)
key_in strings pools starts first last kinds = key_of (give []) small (λ n. n) (map (item_in strings pools starts first last) kinds)

module _ (strings : ℕ) (pools starts first last l : List ℕ) {f : List ℕ} {at : ℕ} {a : Outcome ℕ} where
  module _ (two : 2 ≤ length l) (R : Read small 65536 f at a) where
    pub way_no : {u : Refusal} → a ≡ Err u → Passed (map_in strings pools starts first last l) f at (Err u)
    unfolding map_in
    way_no = map-no (give []) (λ n. n) (item_in strings pools starts first last) l two R

    pub way-keys : {n : ℕ} {c : Cursor} {b : Outcome ℕ} → a ≡ Ok (n, c) → Passed (repeat n (key_in strings pools starts first last l)) f c.at b → Passed (map_in strings pools starts first last l) f at b
    unfolding map_in key_in
    way-keys = map_keys (give []) (λ n. n) (item_in strings pools starts first last) l two R

  module _ (two : 2 ≤ length l) (P : Passed (item_in strings pools starts first last (slice_index l 0)) f at a) where
    pub way-key-no : {u : Refusal} → a ≡ Err u → Passed (key_in strings pools starts first last l) f at (Err u)
    unfolding key_in
    way-key-no = key-no (give []) (λ n. n) (item_in strings pools starts first last) l (omega arith) P

    pub way-rest :
        {n : ℕ} {c : Cursor} {b : Outcome ℕ} → a ≡ Ok (n, c) → Passed (map_in strings pools starts first last (take (length l - 1) (drop 1 l))) f c.at b
        → Passed (key_in strings pools starts first last l) f at b
    unfolding map_in key_in
    way-rest = key-then (give []) (λ n. n) (item_in strings pools starts first last) l (omega arith) P

    -- one type is left
    pub way-last :
        {n : ℕ} {c : Cursor} {b : Outcome ℕ} → a ≡ Ok (n, c) → length l ≡ 2 → Passed (item_in strings pools starts first last (slice_index l 1)) f c.at b
        → Passed (key_in strings pools starts first last l) f at b
    unfolding map_in
    way-last is both E =
        let (one, same) = last-left l both in
        way-rest is (map-element (give []) (λ n. n) (item_in strings pools starts first last) (take (length l - 1) (drop 1 l)) one (rw same E))

-- ── the kinds that are left: their number falls ──

pub first_kind : (l : List ℕ) → 1 ≤ length l → all element_kind? l ≡ true → element_kind? (slice_index l 0) ≡ true
unfolding all
first_kind [] h L = absurd (omega arith)
first_kind (k ∷ l) h L = (and_split (element_kind? k) _ L).0

pub last-kind : (l : List ℕ) → 2 ≤ length l → all element_kind? l ≡ true → element_kind? (slice_index l 1) ≡ true
unfolding all
last-kind [] h L = absurd (omega arith)
last-kind (k ∷ []) h L = absurd (omega arith)
last-kind (k ∷ m ∷ l) h L = (and_split (element_kind? m) _ (and_split (element_kind? k) _ L).1).0

rest-kinds : (l : List ℕ) → all element_kind? l ≡ true → all element_kind? (drop 1 l) ≡ true
unfolding all
rest-kinds [] L = L
rest-kinds (k ∷ l) L = (and_split (element_kind? k) _ L).1

-- the rest of the kinds is lent as a part: of more than so many, so many
pub rest-asked :
    (n : ℕ) (l : List ℕ) → n < length l → all element_kind? l ≡ true
    → (n ≤ length (take (length l - 1) (drop 1 l))) × (all element_kind? (take (length l - 1) (drop 1 l)) ≡ true)
rest-asked n l h L = rw (rest_part l) (rw length-drop (omega arith), rest-kinds l L)

pub rest-falls : (l : List ℕ) {t : ℕ} → 2 ≤ length l → 2 * length l ≡ t → 2 * length (take (length l - 1) (drop 1 l)) + 1 < t
rest-falls l h e = rw (rest_part l, length-drop) (omega arith)

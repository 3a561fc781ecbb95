-- Fields whose kinds keep the rules, as those of every state do that entries lead to: what the values of a chunk ask of a
-- kind's numbers. Assumes nothing.
use Rattle.std.specs.Prelude.{◌≡◌, refl, ◌&&◌, List, [], ◌∷◌, ◌++◌, map, ℕ, zero, suc, ◌≤◌, ◌<◌, min, length, get_or}
use Rattle.std.proofs.Common.{ap, arith, lt_of_not-le}
use Rattle.std.proofs.Math.Bool.{true}
use Rattle.std.proofs.Math.Nat.{min-eq_left, min-eq_right}
use Rattle.std.proofs.Math.Decide.{dec_le}
use native.Nat.{ℕᴺ_discrete}
use Rattle.std.proofs.Math.Dec.{leb}
use Rattle.std.proofs.lemmas.List.{length-map}
use borrow.Author.Tests.{leb-true}
use Rattle.paper.specs.Reader.{got}
use Rattle.paper.specs.Bounds.{most_objects}
use Rattle.paper.specs.Numbers.{put_fixed}
use Rattle.paper.specs.Ledger.{Kind, constant, array, many, mapping, plain, New, Entry, Field, State, no_field}
use Rattle.paper.specs.Rules.{small_rules, single_kind?, element_kind?, element_kind_rules, types_rules, any_type, noted, type_of, after_head, after_new, after_entry, with_strings, after_front}
use Rattle.paper.specs.Lists.{all, fold}
use Rattle.paper.specs.Keeps.{in_turn, number?, kind_kept?, new-field?, entry?}
use Rattle.paper.specs.File.{Front, front}
use Rattle.laws.specs.Bools.{and_split, and-join, every-split, number-split, number-join}
use Rattle.laws.specs.Bounds.{turn-keeps}
use Rattle.laws.specs.Codes.{fixed-length}
use Rattle.laws.specs.Says.{Bytes}
use Rattle.laws.specs.Exact.{front-says}
use Rattle.table.specs.View.{kind_from}
use Rattle.values.specs.Chunks.{Kinds, kind-array, kind-many, kind-plain}
use Rattle.reader.specs.KindLaws.{kind-mapping}

-- each field's kind keeps the rules
abbrev pub Listed : List Field → Type 0
Listed [] = Unit {0}
Listed (d ∷ ds) = (kind_kept? d.kind ≡ true) × Listed ds

pub listed_at : (ds : List Field) (i : ℕ) → Listed ds → i < length ds → kind_kept? (get_or ds i no_field).kind ≡ true
listed_at [] i h lt = absurd (omega arith)
listed_at (d ∷ ds) zero h lt = h.0
listed_at (d ∷ ds) (suc i) h lt = listed_at ds i h.1 (omega arith)

pub listed-snoc : (ds : List Field) (d : Field) → Listed ds → kind_kept? d.kind ≡ true → Listed (ds ++ d ∷ [])
listed-snoc [] d h k = (k, tt)
listed-snoc (x ∷ ds) d h k = (h.0, listed-snoc ds d h.1 k)

-- ── a kind's numbers ──

-- what holds of the four forms that are no constant holds of every kind from 5 on
pub with-element :
    (P : Kind → Type 0) (k a e : ℕ) → 4 < k → P (array a e) → P (many k e) → (k ≡ 20 → P (mapping (put_fixed a e))) → P (plain e) → P (kind_from k a e)
with-element P k a e h x y m z =
    elim (ℕᴺ_discrete k 15) [
      | yes d ↦ rw (kind-array k a e d) x
      | no d ↦
          (elim (ℕᴺ_discrete k 20) [
            | yes t ↦ rw (kind-mapping k a e t) (m t)
            | no t ↦
                (elim (dec_le 17 k) [
                  | yes l ↦
                      (elim (dec_le k 19) [
                        | yes u ↦ rw (kind-many k a e l u) y
                        | no u ↦ rw (kind-plain k a e h d (λ g. lt_of_not-le u) t) z
                      ])
                  | no l ↦ rw (kind-plain k a e h d (λ g. absurd (l g)) t) z
                ])
          ])
    ]

element-kept : (e : ℕ) → number? (element_kind_rules any_type) e ≡ true → element_kind? e ≡ true
unfolding element_kind_rules
element-kept e h = (number-split (element_kind_rules any_type) e h).1.0

elements-kept : (ks : List ℕ) → all (number? (element_kind_rules any_type)) ks ≡ true → all element_kind? ks ≡ true
unfolding all
elements-kept [] h = refl
elements-kept (k ∷ ks) h =
    let s = and_split (number? (element_kind_rules any_type) k) _ h in
    and-join (element-kept k s.0) (elements-kept ks s.1)

module _ (k a e : ℕ) (kept : kind_kept? (kind_from k a e) ≡ true) where
  element-listed : 4 < k → (k ≡ 20 → ⊥) → element_kind? e ≡ true
  unfolding kind_kept?
  element-listed h other =
      with-element (λ x. kind_kept? x ≡ true → element_kind? e ≡ true) k a e h
      (λ q. element-kept e (and_split (number? small_rules a) _ q).1)
      (λ q. element-kept e (and_split (leb 17 k && leb k 19) _ q).1)
      (λ t. absurd (other t)) (λ q. element-kept e q) kept

  length-listed : k ≡ 15 → a ≤ 65535
  unfolding kind_kept? small_rules
  length-listed h =
      leb-true a most_objects (number-split small_rules a (and_split (number? small_rules a) _ (rw (kind-array k a e h) at kept)).0).1.0

  module _ (is : k ≡ 20) where
    map-kept : (number? types_rules a ≡ true) × (all (number? (element_kind_rules any_type)) (put_fixed a e) ≡ true)
    unfolding kind_kept?
    map-kept =
        let (n, ks) = and_split (number? types_rules (length (put_fixed a e))) _ (rw (kind-mapping k a e is) at kept) in
        (rw (fixed-length a e) at n, ks)

    types-listed : (2 ≤ a) × (a ≤ 8)
    unfolding types_rules
    types-listed =
        let (two, eight) = and_split (leb 2 a) (leb a 8) (number-split types_rules a map-kept.0).1.0 in
        (leb-true 2 a two, leb-true a 8 eight)

  pub kinds-listed : Kinds k a e
  kinds-listed =
      record { element = element-listed; length = length-listed; types = types-listed; kinds = λ is. elements-kept (put_fixed a e) (map-kept is).1 }

-- the numbers of a field's row
pub row-kinds : (ds : List Field) (i owner k a e : ℕ) → Listed ds → i < length ds → record { owner = owner; kind = kind_from k a e } ≡ get_or ds i no_field → Kinds k a e
row-kinds ds i owner k a e h lt is = kinds-listed k a e (rw (ap (λ (d : Field). d.kind) is) (listed_at ds i h lt))

-- ── entries leave the fields listed ──

-- what is kept of a kind keeps the rules too: 255 is an element kind, as all are that it stands for
capped-kept : (k : ℕ) → number? (element_kind_rules any_type) k ≡ true → number? (element_kind_rules any_type) (min 255 k) ≡ true
unfolding element_kind_rules element_kind? single_kind?
capped-kept k h =
    elim (dec_le k 255) [
      | yes d ↦ rw (min-eq_right d) h
      | no d ↦ rw (min-eq_left {n = 255} {m = k} (omega (arith, lt_of_not-le d))) (number-join (element_kind_rules any_type) 255 (omega arith) (refl, (refl, tt)))
    ]

all-capped : (ks : List ℕ) → all (number? (element_kind_rules any_type)) ks ≡ true → all (number? (element_kind_rules any_type)) (map (min 255) ks) ≡ true
unfolding all
all-capped [] h = refl
all-capped (k ∷ ks) h =
    let s = and_split (number? (element_kind_rules any_type) k) _ h in
    and-join (capped-kept k s.0) (all-capped ks s.1)

noted-kept : (k : Kind) → kind_kept? k ≡ true → kind_kept? (noted k) ≡ true
unfolding noted kind_kept?
noted-kept (constant k v) h = h
noted-kept (plain k) h = h
noted-kept (array l k) h = h
noted-kept (many c k) h = h
noted-kept (mapping ks) h =
    let (n, each) = and_split (number? types_rules (length ks)) _ h in
    let same : length (map (min 255) ks) ≡ length ks = length-map ks (min 255) in
    rw same (and-join n (all-capped ks each))

new-listed : (t : ℕ) (s : State) (g : New) → new-field? t s g ≡ true → Listed s.fields → Listed (after_new t s g).fields
unfolding new-field? after_new
new-listed t s g h l = listed-snoc s.fields _ l (noted-kept g.kind (and_split (kind_kept? g.kind) _ h).0)

entry_listed : (s : State) (e : Entry) → entry? s e ≡ true → Listed s.fields → Listed (after_entry s e).fields
unfolding entry? after_entry after_head
entry_listed s e h l =
    let (_, (_, (news, _))) = every-split _ h in
    let t = type_of s e.head.name in
    turn-keeps (new-field? t) (after_new t) (λ (u : State). Listed u.fields) (new-listed t) e.news (after_head s e.head) news l

pub entries-listed : (es : List Entry) (s : State) → in_turn entry? after_entry s es ≡ true → Listed s.fields → Listed (fold after_entry s es).fields
entries-listed = turn-keeps entry? after_entry (λ (u : State). Listed u.fields) entry_listed

-- so does a front that is read
pub front-listed : (s : State) (f : List ℕ) (at : ℕ) (d : Front) (e : ℕ) → Bytes f → at ≤ length f → front any_type s f at ≡ got d e → Listed s.fields → Listed (after_front s d.strings d.entries).fields
unfolding after_front with_strings
front-listed s f at d e b h q l =
    entries-listed d.entries (with_strings s d.strings) ((front-says s).at f at d e b h q).said.kept l

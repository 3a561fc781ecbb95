-- Fields whose kinds name types that are declared: asked of the table's rows from a place on, which are the new fields of a
-- block. Assumes nothing.
use Rattle.std.specs.Prelude.{◌≡◌, Bool, true, false, ◌&&◌, length, get_or, drop}
use Rattle.std.proofs.Math.Path.{refl, ap, ap₂}
use Rattle.std.proofs.Common.{sym, ◌∙◌, arith}
use mathlib.Core.List.{List, [], ◌∷◌, ◌++◌, map, append_assoc, append-nil}
use Prim.Native.Nat.{ℕ, ◌+◌, ◌-◌, ◌≤◌, ◌<◌, min}
use Rattle.std.proofs.Math.Nat.{lt_of_not-le, min-eq_left, min-eq_right}
use Rattle.std.proofs.Math.Decide.{dec_le}
use Rattle.std.proofs.Math.Seq.{drop-append_seam}
use borrow.Author.Tests.{le-leb, le-ltb}
use Rattle.paper.specs.Reader.{when◌then◌else◌}
use Rattle.paper.specs.Numbers.{put_fixed}
use Rattle.paper.specs.Bounds.{most_types}
use Rattle.paper.specs.Lists.{all, fold}
use Rattle.paper.specs.Ledger.{Kind, constant, plain, array, many, mapping, New, Entry, Field, State, no_field}
use Rattle.paper.specs.Rules.{with_strings, noted, type_of, after_head, after_entry, a_type?, kind_stands?, kinds_stand?, after_front}
use Rattle.laws.specs.Count.{made, fold-fields}
use Rattle.table.specs.View.{kind_from, flds_of, view, Holds, types_in, fields_in}
use Rattle.table.specs.Answers.{field_in}
use Rattle.table.specs.Loops.{all_here, all-on, all_end}
use Rattle.table.specs.declared.rows.FieldRow.{FieldRow}
use Rattle.reader.specs.Kinds.{named_by}
use Rattle.reader.specs.KindLaws.{named-types, kind-mapping}
use Rattle.walk.specs.Listed.{with-element}
use Rattle.lookups.specs.Bytes.{all_append}

abbrev pub stands? : State → Field → Bool
stands? s d = kind_stands? s d.kind

-- ── one field, by the number of types alone ──

pub record Standing (types : ℕ) (row : FieldRow) (r : Bool) : Type 0 where
  pub says : (s : State) → length s.type_names ≡ types → r ≡ stands? s (field_in row)

module _ (types : ℕ) (row : FieldRow) where
  pub constant-stands : row.kind ≤ 4 → Standing types row true
  unfolding kind_from when◌then◌else◌ kind_stands?
  constant-stands h =
      record {
        says = λ s is. elim (dec_le row.kind 3) [
          | yes d ↦ rw (le-leb row.kind 3 d)
          | no d ↦ (let four : row.kind ≡ 4 = omega (arith, lt_of_not-le d) in rw four)
        ];
      }

  -- to ask which numbers name one of so many types is to ask a state that has as many
  asked : (s : State) → length s.type_names ≡ types → named_by true types ≡ a_type? s
  asked s is = ap (named_by true) (sym is) ∙ named-types s

  -- its last number is the one that may name a type
  pub element-stands : 4 < row.kind → (row.kind ≡ 20 → ⊥) → {r : Bool} → r ≡ named_by true types row.e → Standing types row r
  unfolding kind_stands?
  element-stands from-5 other {r} is =
      record {
        says = λ s count.
            is ∙ ap (λ (p : ℕ → Bool). p row.e) (asked s count)
            ∙ with-element (λ k. a_type? s row.e ≡ kind_stands? s k) row.kind row.a row.e from-5 refl refl (λ t. absurd (other t)) refl;
      }

  pub map-stands : row.kind ≡ 20 → {r : Bool} → r ≡ all (named_by true types) (put_fixed row.a row.e) → Standing types row r
  unfolding kind_stands?
  map-stands a-map {r} is =
      record {
        says = λ s count.
            is ∙ ap (λ (p : ℕ → Bool). all p (put_fixed row.a row.e)) (asked s count) ∙ ap (kind_stands? s) (sym (kind-mapping row.kind row.a row.e a-map));
      }

-- ── all fields from a place on ──

pub record AllStand (l : List ℕ) (from : ℕ) (r : Bool) : Type 0 where
  pub says : (f : List ℕ) → Holds f l → r ≡ all (stands? (view f l)) (drop from (flds_of l))

-- those before place i stand: what is left gives the whole
pub record StandSoFar (l : List ℕ) (from i : ℕ) : Type 0 where
  pub says : (f : List ℕ) → Holds f l → all (stands? (view f l)) (drop i (flds_of l)) ≡ all (stands? (view f l)) (drop from (flds_of l))

module _ {l : List ℕ} {from i : ℕ} (S : StandSoFar l from i) where
  pub stand-done : fields_in l ≤ i → AllStand l from true
  stand-done le =
      record { says = λ f h. sym (all_end (stands? (view f l)) (flds_of l) i (omega (arith, h.ok.flds-count))) ∙ S.says f h }

  -- the field at place i
  module _ (lt : i < fields_in l) {types : ℕ} (count : types ≡ types_in l) {row : FieldRow} (is : field_in row ≡ get_or (flds_of l) i no_field) {r : Bool} (one : Standing types row r) where
    here : (f : List ℕ) → Holds f l → r ≡ stands? (view f l) (field_in row)
    here f h = one.says (view f l) (h.names-count ∙ sym count)

    pub stand-out : r ≡ false → AllStand l from false
    stand-out no? =
        record {
          says = λ f h. sym (all_here (stands? (view f l)) (flds_of l) i no_field (omega (arith, h.ok.flds-count)) is (here f h) no?) ∙ S.says f h;
        }

    pub stand-on : r ≡ true → StandSoFar l from (i + 1)
    stand-on yes? =
        record {
          says = λ f h. sym (all-on (stands? (view f l)) (flds_of l) i no_field (omega (arith, h.ok.flds-count)) is (here f h) yes?) ∙ S.says f h;
        }

-- ── the fields that the entries of a block declare ──

-- in the order of their declaration
unfoldable pub new_fields : State → List Entry → List Field
new_fields s [] = []
new_fields s (e ∷ es) = map (made (type_of s e.head.name)) e.news ++ new_fields (after_entry s e) es

pub fields-after : (es : List Entry) (s : State) → (fold after_entry s es).fields ≡ s.fields ++ new_fields s es
unfolding fold new_fields after_entry after_head
fields-after [] s = sym (append-nil s.fields)
fields-after (e ∷ es) s =
    fields-after es (after_entry s e)
    ∙ ap (λ (ds : List Field). ds ++ new_fields (after_entry s e) es) (fold-fields (type_of s e.head.name) e.news (after_head s e.head))
    ∙ append_assoc s.fields _ _

-- no type has a number from 255 upwards, so what is kept of a kind stands where the kind does
module _ (last : State) (few : length last.type_names ≤ most_types) where
  capped-stands : (k : ℕ) → a_type? last (min 255 k) ≡ a_type? last k
  unfolding a_type?
  capped-stands k =
      elim (dec_le k 255) [
        | yes d ↦ rw (min-eq_right d)
        | no d ↦
            (let far : 255 < k = lt_of_not-le d in
            rw (min-eq_left {n = 255} {m = k} (omega arith), le-ltb k 32 (omega arith), le-ltb (k - 32) (length last.type_names) (omega arith), le-ltb 223 (length last.type_names) (omega arith)))
      ]

  all-capped : (ks : List ℕ) → all (a_type? last) (map (min 255) ks) ≡ all (a_type? last) ks
  unfolding all
  all-capped [] = refl
  all-capped (k ∷ ks) = ap₂ (λ (x y : Bool). x && y) (capped-stands k) (all-capped ks)

  noted-stands : (k : Kind) → kind_stands? last (noted k) ≡ kind_stands? last k
  unfolding noted kind_stands?
  noted-stands (constant k v) = refl
  noted-stands (plain k) = refl
  noted-stands (array l k) = refl
  noted-stands (many c k) = refl
  noted-stands (mapping ks) = all-capped ks

  made-stand : (t : ℕ) (gs : List New) → all (stands? last) (map (made t) gs) ≡ all (λ (g : New). kind_stands? last g.kind) gs
  unfolding all made
  made-stand t [] = refl
  made-stand t (g ∷ gs) = ap₂ (λ (x y : Bool). x && y) (noted-stands g.kind) (made-stand t gs)

  new-stand : (es : List Entry) (s : State) → all (stands? last) (new_fields s es) ≡ kinds_stand? last es
  unfolding all new_fields kinds_stand?
  new-stand [] s = refl
  new-stand (e ∷ es) s =
      all_append (stands? last) (map (made (type_of s e.head.name)) e.news) (new_fields (after_entry s e) es)
      ∙ ap₂ (λ (x y : Bool). x && y) (made-stand (type_of s e.head.name) e.news) (new-stand es (after_entry s e))

-- to ask the fields behind those of s is to ask the entries
pub new-fields-stand :
    (s : State) (strings : List (List ℕ)) (es : List Entry) → length (after_front s strings es).type_names ≤ most_types
    → all (stands? (after_front s strings es)) (drop (length s.fields) (after_front s strings es).fields) ≡ kinds_stand? (after_front s strings es) es
unfolding after_front with_strings
new-fields-stand s strings es few =
    let s₁ = with_strings s strings in
    let s₂ = after_front s strings es in
    ap (λ (ds : List Field). all (stands? s₂) (drop (length s.fields) ds)) (fields-after es s₁)
    ∙ ap (all (stands? s₂)) (drop-append_seam s.fields (new_fields s₁ es))
    ∙ new-stand s₂ few es s₁

-- The kind of a new field, and the line of a new map: its element kinds are read again from the file, of which the table keeps a
-- byte each. Assumes nothing.
use Rattle.std.specs.Prelude.{Err, Ok, ◌≡◌, Bool, ◌&&◌, List, [], ◌∷◌, ◌++◌, ℕ, zero, suc, ◌^◌, eqb, length}
use Rattle.std.proofs.Math.Path.{refl}
use Rattle.std.proofs.Common.{sym, ap, ◌∙◌, subst, append_assoc, ne_eqb}
use Rattle.std.proofs.Math.Bool.{true, false}
use Rattle.std.proofs.Math.Dec.{leb}
use Rattle.paper.specs.Reader.{when◌then◌else◌, Reader, got, Rule, ◌>>=◌, ◌>>◌, give, each, times, repeat}
use Rattle.paper.specs.Numbers.{signed, v64, number}
use Rattle.paper.specs.Ledger.{Kind, constant, plain, array, many, mapping, nothing}
use Rattle.paper.specs.Rules.{any_type, kind_rules, element_kind_rules, types_rules, noted}
use Rattle.paper.specs.File.{small, whole_of, restrictions, kind}
use Rattle.paper.specs.Listing.{ascii, tab, newline, glyph, shown, decimal, joined, line, kind_word, new_line}
use Rattle.laws.specs.Laws.{not-got, bind_inv, then-inv}
use Rattle.laws.specs.Bools.{not_so}
use Rattle.laws.specs.Cells.{commas, joined-commas}
use Rattle.lay.specs.Laid.{Laid, laid_then, laid_as}
use Rattle.table.specs.View.{kind_from}
use Rattle.numbers.specs.Cursors.{Outcome, out_of, Read, was-got, was-refused}
use Rattle.numbers.specs.declared.Cursor.{Cursor}
use Rattle.numbers.specs.declared.Refusal.{Refusal}
use Rattle.values.specs.Filling.{repeat-first}
use Rattle.reader.specs.Kinds.{constant_of, array_of, many_of, mapping_of, kind_in}
use Rattle.reader.specs.KindLaws.{kind-mapping}
use Rattle.reader.specs.Runs.{times-many}
use Rattle.reader.specs.declared.kinds.Kind.{Kind as KindRow}
use Rattle.show.specs.Shown.{Shown}
use Rattle.show.specs.Lines.{turned-got}
use Rattle.listing.specs.Prints.{number-got}

-- the kind of a new field, behind the number of restrictions
unfoldable pub new_kind : Reader Kind
new_kind = restrictions >> kind any_type

-- ── a kind that is a map ──

map? : Kind → Bool
map? (constant k v) = false
map? (plain k) = false
map? (array n k) = false
map? (many c k) = false
map? (mapping ks) = true

kinds_of : Kind → List ℕ
kinds_of (constant k v) = []
kinds_of (plain k) = []
kinds_of (array n k) = []
kinds_of (many c k) = []
kinds_of (mapping ks) = ks

map-made : (k : Kind) → map? k ≡ true → mapping (kinds_of k) ≡ k
unfolding map? kinds_of
map-made (constant k v) h = not_so h
map-made (plain k) h = not_so h
map-made (array n k) h = not_so h
map-made (many c k) h = not_so h
map-made (mapping ks) h = refl

-- only of a map less is kept
kept_map : (k : Kind) → map? (noted k) ≡ map? k
unfolding map? noted
kept_map (constant k v) = refl
kept_map (plain k) = refl
kept_map (array n k) = refl
kept_map (many c k) = refl
kept_map (mapping ks) = refl

kept-other : (k : Kind) → map? k ≡ false → noted k ≡ k
unfolding map? noted
kept-other (constant k v) h = refl
kept-other (plain k) h = refl
kept-other (array n k) h = refl
kept-other (many c k) h = refl
kept-other (mapping ks) h = not_so (sym h)

-- a row is a map's where its first number is 20
module _ (k a e : ℕ) where
  row-map : k ≡ 20 → map? (kind_from k a e) ≡ true
  unfolding map?
  row-map h = rw (kind-mapping k a e h)

  row_other : (k ≡ 20 → ⊥) → map? (kind_from k a e) ≡ false
  unfolding map? kind_from when◌then◌else◌
  row_other h = rw (ne_eqb k 20 h) (go (leb k 3) (eqb k 4) (eqb k 15) (leb 17 k && leb k 19))
    where
      go :
          (x y z w : Bool)
          → map? (when x then constant k (signed (2 ^ k) a) else when y then constant k (signed 8 a) else when z then array a e else when w then many k e else plain e) ≡ false
      go true y z w = refl
      go false true z w = refl
      go false false true w = refl
      go false false false true = refl
      go false false false false = refl

module _ (row : KindRow) (own : Kind) (same : kind_in row ≡ noted own) where
  own-map : map? (kind_in row) ≡ map? own
  own-map = ap map? same ∙ kept_map own

  other-kept : (row.first ≡ 20 → ⊥) → kind_in row ≡ own
  other-kept h = same ∙ kept-other own (sym own-map ∙ row_other row.first row.bits row.last h)

  map-kept : row.first ≡ 20 → mapping (kinds_of own) ≡ own
  map-kept h = map-made own (sym own-map ∙ row-map row.first row.bits row.last h)

-- ── a new map, taken apart ──

-- numbers that keep rules, read without them
repeat-numbers : (rules : ℕ → List Rule) (n : ℕ) (f : List ℕ) (at : ℕ) (ks : List ℕ) (q : ℕ) → repeat n (number rules) f at ≡ got ks q → repeat n v64 f at ≡ got ks q
unfolding repeat times each ◌>>=◌ give
repeat-numbers rules zero f at ks q h = h
repeat-numbers rules (suc n) f at ks q h =
    let F = repeat-first (number rules) n f at ks q h in
    rw ((number-got rules f at F.value F.next F.first).0, repeat-numbers rules n f F.next F.more q F.rest) (ap (λ (l : List ℕ). got l q) (sym F.is))

-- no other kind is given as a map
not-map : {k : Kind} {ks : List ℕ} {X : Type 0} → map? k ≡ false → k ≡ mapping ks → X
unfolding map?
not-map h is = not_so (sym h ∙ ap map? is)

mapping-only :
    (k : ℕ) (f : List ℕ) (at : ℕ) (ks : List ℕ) (q : ℕ) (x y z w : Bool)
    → (when x then constant_of k else when y then array_of any_type else when z then many_of any_type k else when w then mapping_of any_type else give (plain k)) f at ≡ got (mapping ks) q
    → mapping_of any_type f at ≡ got (mapping ks) q
unfolding when◌then◌else◌ constant_of array_of many_of give map?
mapping-only k f at ks q true y z w h = let (v, a, b) = turned-got (whole_of k) (constant k) f at (mapping ks) q h in not-map refl b
mapping-only k f at ks q false true z w h =
    let A = bind_inv small _ f at (mapping ks) q h in
    let (e, a, b) = turned-got (number (element_kind_rules any_type)) (array A.value) f A.next (mapping ks) q A.rest in
    not-map refl b
mapping-only k f at ks q false false true w h = let (e, a, b) = turned-got (number (element_kind_rules any_type)) (many k) f at (mapping ks) q h in not-map refl b
mapping-only k f at ks q false false false true h = h
mapping-only k f at ks q false false false false h = let is : plain k ≡ mapping ks = cc h in not-map refl is

record MapParts (f : List ℕ) (at : ℕ) (ks : List ℕ) (q : ℕ) : Type 0 where
  none : ℕ
  after_none : ℕ
  first : ℕ
  after_first : ℕ
  after-count : ℕ
  none_read : restrictions f at ≡ got none after_none
  first_read : v64 f after_none ≡ got first after_first
  count-read : v64 f after_first ≡ got (length ks) after-count
  kinds-read : repeat (length ks) v64 f after-count ≡ got ks q

-- so many element kinds
kinds-parts :
    (n : ℕ) (f : List ℕ) (at : ℕ) (l ks : List ℕ) (q : ℕ) → repeat n (number (element_kind_rules any_type)) f at ≡ got l q → mapping l ≡ mapping ks
    → (length ks ≡ n) × (repeat n v64 f at ≡ got ks q)
unfolding kinds_of repeat
kinds-parts n f at l ks q h is =
    let same : l ≡ ks = ap kinds_of is in
    let read : repeat n (number (element_kind_rules any_type)) f at ≡ got ks q = h ∙ ap (λ (v : List ℕ). got v q) same in
    (times-many n (λ u. number (element_kind_rules any_type)) (λ u k. u) tt f at read, repeat-numbers (element_kind_rules any_type) n f at ks q read)

map-parts : (f : List ℕ) (at : ℕ) (ks : List ℕ) (q : ℕ) → new_kind f at ≡ got (mapping ks) q → MapParts f at ks q
unfolding new_kind kind constant_of array_of many_of mapping_of
map-parts f at ks q h =
    let A = then-inv restrictions (kind any_type) f at (mapping ks) q h in
    let B = bind_inv (number (kind_rules any_type)) _ f A.next (mapping ks) q A.rest in
    let k = B.value in
    let C = bind_inv (number types_rules) _ f B.next (mapping ks) q (mapping-only k f B.next ks q (leb k 4) (eqb k 15) (leb 17 k && leb k 19) (eqb k 20) B.rest) in
    let (l, a, b) = turned-got (repeat C.value (number (element_kind_rules any_type))) mapping f C.next (mapping ks) q C.rest in
    let (long, read) = kinds-parts C.value f C.next l ks q a b in
    record {
      none = A.value;
      after_none = A.next;
      first = k;
      after_first = B.next;
      after-count = C.next;
      none_read = A.first;
      first_read = (number-got (kind_rules any_type) f A.next k B.next B.first).0;
      count-read = rw long (number-got types_rules f B.next C.value C.next C.first).0;
      kinds-read = rw long read;
    }

-- ── its number of types ──

abbrev pub TypesAt : List ℕ → List ℕ → ℕ → Outcome ℕ → Type 0
TypesAt f ks q (Ok (n, c)) = (n ≡ length ks) × (repeat n v64 f c.at ≡ got ks q)
TypesAt f ks q (Err e) = ⊥

pub record MapTypes (f : List ℕ) (at : ℕ) (a : Outcome ℕ) : Type 0 where
  pub there : (ks : List ℕ) (q : ℕ) → new_kind f at ≡ got (mapping ks) q → TypesAt f ks q a

module _ {f : List ℕ} {at : ℕ} {a : Outcome ℕ} (R : Read restrictions 1 f at a) where
  pub types-no-map : {e : Refusal} → a ≡ Err e → {b : Outcome ℕ} → MapTypes f at b
  types-no-map is = record { there = λ ks q h. not-got (sym (was-refused R is).says ∙ (map-parts f at ks q h).none_read) }

  module _ {x : ℕ} {c : Cursor} (is : a ≡ Ok (x, c)) {b : Outcome ℕ} (S : Read v64 (2 ^ 64) f c.at b) where
    first-there : {ks : List ℕ} {q : ℕ} (P : MapParts f at ks q) → v64 f c.at ≡ got P.first P.after_first
    first-there P = let z : c.at ≡ P.after_none = cc (sym (was-got R is).says ∙ P.none_read) in rw z P.first_read

    pub types-no-kind : {e : Refusal} → b ≡ Err e → {d : Outcome ℕ} → MapTypes f at d
    types-no-kind no? = record { there = λ ks q h. not-got (sym (was-refused S no?).says ∙ first-there (map-parts f at ks q h)) }

    pub types-read : {y : ℕ} {c₂ : Cursor} → b ≡ Ok (y, c₂) → {d : Outcome ℕ} → Read v64 (2 ^ 64) f c₂.at d → MapTypes f at d
    types-read {y} {c₂} got? {d} T =
        record {
          there = λ ks q h.
              let P = map-parts f at ks q h in
              let z : c₂.at ≡ P.after_first = cc (sym (was-got S got?).says ∙ first-there P) in
              told d ks q P.after-count (T.says ∙ rw z P.count-read) P.kinds-read;
        }
      where
        told : (n : Outcome ℕ) (ks : List ℕ) (q p : ℕ) → out_of n ≡ got (length ks) p → repeat (length ks) v64 f p ≡ got ks q → TypesAt f ks q n
        told (Ok (n, c)) ks q p h r = let m : n ≡ length ks = cc h in let e : c.at ≡ p = cc h in (m, rw (m, e) r)
        told (Err e) ks q p h r = not-got h

-- ── its line ──

-- for every map that is read there
pub record MapPrinted (f : List ℕ) (at name : ℕ) (l : List ℕ) (o : ℕ) (m : List ℕ) (p : ℕ) : Type 0 where
  pub line : (ks : List ℕ) (q : ℕ) → new_kind f at ≡ got (mapping ks) q → Laid l o (new_line (record { kind = mapping ks; name = name })) m p

twenty : decimal 20 ≡ 50 ∷ 48 ∷ []
unfolding decimal shown glyph when◌then◌else◌
twenty = refl

map-line :
    (ks : List ℕ) (name : ℕ)
    → (ascii "new\t20," ++ decimal (length ks)) ++ (commas decimal ks ++ tab ∷ (decimal name ++ newline ∷ [])) ≡ new_line (record { kind = mapping ks; name = name })
unfolding ascii new_line line kind_word joined
map-line ks name = rw (joined-commas decimal (decimal (length ks)) ks, twenty) (simp append_assoc)

module _ {f : List ℕ} {at : ℕ} {a : Outcome ℕ} (T : MapTypes f at a) {name : ℕ} {l : List ℕ} {o : ℕ} where
  pub map-no-types : {e : Refusal} → a ≡ Err e → {m : List ℕ} {p : ℕ} → MapPrinted f at name l o m p
  map-no-types is = record { line = λ ks q h. absurd (subst (TypesAt f ks q) is (T.there ks q h)) }

  pub map-printed :
      {n : ℕ} {c : Cursor} → a ≡ Ok (n, c) → {m m₂ m₃ : List ℕ} {p p₂ p₃ : ℕ} → Laid l o (ascii "new\t20," ++ decimal n) m p
      → Shown (λ s. repeat n v64) (commas decimal) f c.at m p m₂ p₂ → Laid m₂ p₂ (tab ∷ (decimal name ++ newline ∷ [])) m₃ p₃
      → MapPrinted f at name l o m₃ p₃
  map-printed is begin kinds end =
      record {
        line = λ ks q h.
            let (long, read) = subst (TypesAt f ks q) is (T.there ks q h) in
            laid_as (laid_then begin (laid_then (kinds.laid nothing ks q read) end)) (rw long (map-line ks name));
      }

-- ── the line of a new field ──

-- for the kind that is read there, of which the row keeps what is kept
pub record FieldPut (f : List ℕ) (at : ℕ) (row : KindRow) (name : ℕ) (l : List ℕ) (o : ℕ) (m : List ℕ) (p : ℕ) : Type 0 where
  pub line : (own : Kind) (q : ℕ) → new_kind f at ≡ got own q → kind_in row ≡ noted own → Laid l o (new_line (record { kind = own; name = name })) m p

module _ {f : List ℕ} {at : ℕ} {row : KindRow} {name : ℕ} {l : List ℕ} {o : ℕ} {m : List ℕ} {p : ℕ} where
  pub put_map : row.first ≡ 20 → MapPrinted f at name l o m p → FieldPut f at row name l o m p
  put_map first M =
      record {
        line = λ own q h same.
            let is = map-kept row own same first in
            subst (λ (k : Kind). Laid l o (new_line (record { kind = k; name = name })) m p) is (M.line (kinds_of own) q (h ∙ ap (λ (k : Kind). got k q) (sym is)));
      }

  pub put_other : (row.first ≡ 20 → ⊥) → Laid l o (new_line (record { kind = kind_in row; name = name })) m p → FieldPut f at row name l o m p
  put_other first L =
      record { line = λ own q h same. laid_as L (ap (λ (k : Kind). new_line (record { kind = k; name = name })) (other-kept row own same first)) }

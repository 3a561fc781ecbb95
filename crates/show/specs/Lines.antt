-- Elements, values and chunks as text. Assumes nothing.
use Rattle.std.specs.Prelude.{Err, Ok, ◌≡◌, Bool, List, [], ◌∷◌, ◌++◌, ℕ, ◌+◌, ◌*◌, ◌^◌, ◌≤◌, ◌<◌, min, eqb, ℤ, length}
use Rattle.std.proofs.Math.Path.{refl, sym, ap}
use Rattle.std.proofs.Common.{◌∙◌, append-nil, arith}
use Rattle.std.proofs.Math.Bool.{true, false}
use Rattle.std.proofs.Math.Nat.{lt_of_not-le, min-eq_left}
use Rattle.std.proofs.Math.Decide.{dec_le}
use borrow.Author.Tests.{lt-leb, ne_eqb}
use Rattle.paper.specs.Reader.{when◌then◌else◌, Reader, Out, got, and_then, ◌>>=◌, give, Rule, ◌or_no◌, hold, must, each, times, repeat}
use Rattle.paper.specs.Numbers.{signed, fixed, v64, number}
use Rattle.paper.specs.Lists.{flat}
use Rattle.paper.specs.Ledger.{Element, whole, link, annotation, Chunk, State}
use Rattle.paper.specs.Rules.{single_kind?, element_kind?, link_rules, annotation_rules}
use Rattle.paper.specs.File.{whole_of, two_numbers, small, element, value}
use Rattle.paper.specs.Listing.{ascii, tab, newline, glyph, shown, decimal, decimalℤ, hex_digits, element_word, value_line, print_chunk}
use Rattle.lay.specs.Laid.{most, Laid, laid_then, laid_as}
use Rattle.words.specs.Stored.{Stored, stored-then}
use Rattle.laws.specs.Laws.{not-got, bind_inv}
use Rattle.laws.specs.Bools.{not_so}
use Rattle.laws.specs.Lines.{tabs, line-tabs}
use Rattle.table.specs.View.{kind_from}
use Rattle.numbers.specs.Cursors.{Outcome, Read, was-got, was-refused}
use Rattle.numbers.specs.declared.Cursor.{Cursor}
use Rattle.numbers.specs.declared.Refusal.{Refusal}
use Rattle.values.specs.Pass.{forget}
use Rattle.values.specs.Held.{fixed-there, fixed-cut}
use Rattle.values.specs.Bare.{bare, bound_of, made, Linkable, element-stands}
use Rattle.values.specs.Listed.{single-5}
use Rattle.values.specs.Filling.{repeat-first, repeat-none}
use Rattle.values.specs.Chunks.{value-constant, kind-array, kind-many, kind-plain}
use Rattle.values.specs.Columns.{element_of, Storable, valued, value-cut, value-got}
use Rattle.values.specs.declared.columns.Value.{Value}
use Rattle.values.specs.declared.columns.Value.TheVariants.{Flag, Whole, Float, Object}
use Rattle.show.specs.Shown.{Shown, Shows, shows-none, shows-as, shows-by, Parted, shows_then}
use Rattle.show.specs.Single.{FlagWord, line_of, Fixed, single-low, Width}
use Rattle.show.specs.declared.Behind.{Behind}

-- an array that gives its own length, of elements of kind e
unfoldable pub list : ℕ → State → Reader (List Element)
list e s = small >>= λ n. repeat n (element s e)

-- ── an element, by the variants ──

module _ {v : Value} where
  pub word-flag : (b : Bool) {r : ℕ} → v ≡ Flag b → FlagWord b r → r ∷ [] ≡ element_word (element_of v)
  unfolding element_of element_word decimal shown glyph when◌then◌else◌
  word-flag true is w = rw (is, w.0 refl)
  word-flag false is w = rw (is, w.1 refl)

  pub word-whole : {z : ℤ} → v ≡ Whole z → decimalℤ z ≡ element_word (element_of v)
  unfolding element_of element_word
  word-whole is = rw is

  -- there are no wider ones
  pub float_narrow : {w bits : ℕ} → v ≡ Float w bits → Storable v → w ≤ 8
  unfolding Storable
  float_narrow {w} {bits} is h =
      elim (dec_le w 8) [
        | yes d ↦ d
        | no d ↦ (let other : w ≡ 8 → ⊥ = λ t. omega (arith, lt_of_not-le d) in omega (arith, ((rw is at h) other).0))
      ]

  pub word-float : {w bits digits : ℕ} → v ≡ Float w bits → digits ≡ 2 * w → hex_digits digits bits ≡ element_word (element_of v)
  unfolding element_of element_word
  word-float is two = rw (is, two)

  pub word-object : {n : ℕ} → v ≡ Object n → decimal n ≡ element_word (element_of v)
  unfolding element_of element_word
  word-object is = rw is

-- ── the next element ──

-- kinds of a fixed width, and the text t that is made of the word
module _ {e : ℕ} (K : Fixed e) {w : ℕ} (W : Width e w) {f : List ℕ} {from : ℕ} {a : Outcome ℕ} (R : Read (fixed w) (256 ^ w) f from a) (t : List ℕ → List ℕ) where
  linkable-low : (s : State) → Linkable s e
  linkable-low s = record { below = λ h. absurd (omega (arith, K.high)) }

  as-bare : Read (bare e) (bound_of e) f from a
  as-bare = rw (W.is, W.bound) R

  one_number : eqb e 5 ≡ false
  one_number = single-5 e (single-low K)

  pub fixed-none : {u : Refusal} → a ≡ Err u → {l : List ℕ} {at : ℕ} {m : List ℕ} {o : Behind} → Shows (λ s. element s e) (λ x. t (element_word x)) f from l at m o
  unfolding valued
  fixed-none is =
      let cut = value-cut one_number as-bare is in
      shows-none (λ s x q h. not-got (cut.reads s x q (linkable-low s) h))

  pub fixed-nothing : {u : Refusal} → a ≡ Err u → {l : List ℕ} {at : ℕ} {m : List ℕ} {p : ℕ} → Shown (λ s. element s e) (λ x. t (element_word x)) f from l at m p
  fixed-nothing is {l} {at} {m} {p} = let o : Behind = record { next = record { at = 0 }; at = p } in (fixed-none is {l = l} {at = at} {m = m} {o = o}).text

  module _ {n : ℕ} {c : Cursor} (is : a ≡ Ok (n, c)) where
    pub fixed-below : n < bound_of e
    fixed-below = (was-got as-bare is).below

    pub fixed-shows :
        (v : Value) → (element_of v ≡ made e n) × Storable v → {l m : List ℕ} {at r : ℕ} → Laid l at (t (element_word (element_of v))) m r
        → Shows (λ s. element s e) (λ x. t (element_word x)) f from l at m (record { next = c; at = r })
    unfolding valued
    fixed-shows v made_of L =
        record {
          text = record { laid = λ s x q h. laid_as L (ap (λ (y : Element). t (element_word y)) (cc (there s x q h))) };
          next = λ s x q h. cc (there s x q h);
        }
      where
        there : (s : State) (x : Element) (q : ℕ) → element s e f from ≡ got x q → got (element_of v) c.at ≡ got x q
        there s x q h = (value-got one_number as-bare is made_of).reads s x q (linkable-low s) h

-- where a number of a fixed width ends
fixed-ends : (w : ℕ) (f : List ℕ) (at n q : ℕ) → fixed w f at ≡ got n q → (at + w ≤ length f) × (at + w ≡ q)
unfolding forget
fixed-ends w f at n q h =
    elim (dec_le (at + w) (length f)) [
      | yes d ↦ (let z : got (tt {0}) q ≡ got tt (at + w) = sym (ap forget h) ∙ fixed-there w f at d in (d, sym (cc z)))
      | no d ↦ not-got (sym (fixed-cut w f at (lt_of_not-le d)) ∙ h)
    ]

-- so the place behind it is known without a reading
pub fixed-steps :
    {e w : ℕ} → Fixed e → Width e w → {f : List ℕ} {from : ℕ} {t : Element → List ℕ} {l : List ℕ} {at : ℕ} {m : List ℕ} {r next : ℕ} → length f ≤ most
    → next ≡ min (from + w) most → Shown (λ s. element s e) t f from l at m r → Shows (λ s. element s e) t f from l at m (record { next = record { at = next }; at = r })
fixed-steps {e} {w} K W {f} {from} {next = next} short is S =
    record {
      text = S;
      next = λ s v q h.
          let T = element-stands s e f from v q (single-5 e (single-low K)) (record { below = λ x. absurd (omega (arith, K.high)) }) h in
          let (room, to) = fixed-ends w f from T.number q (rw W.is at T.reads) in
          is ∙ min-eq_left (omega arith) ∙ to;
    }

-- a number as it stands there, and the text that is made of it
module _ {f : List ℕ} {from : ℕ} {a : Outcome ℕ} (R : Read v64 (2 ^ 64) f from a) (w : ℕ → List ℕ) where
  pub number-none : {u : Refusal} → a ≡ Err u → {l : List ℕ} {at : ℕ} {m : List ℕ} {o : Behind} → Shows (λ s. v64) w f from l at m o
  number-none is = shows-none (λ s x q h. not-got (sym (was-refused R is).says ∙ h))

  pub number-shows :
      {n : ℕ} {c : Cursor} → a ≡ Ok (n, c) → {l m : List ℕ} {at r : ℕ} → Laid l at (w n) m r
      → Shows (λ s. v64) w f from l at m (record { next = c; at = r })
  number-shows {n} {c} is L =
      record {
        text = record { laid = λ s x q h. laid_as L (ap w (cc (there x q h))) };
        next = λ s x q h. cc (there x q h);
      }
    where
      there : (x q : ℕ) → v64 f from ≡ got x q → got n c.at ≡ got x q
      there x q h = sym (was-got R is).says ∙ h

-- what was held to rules was read
pub must-got : {A : Type 0} (r : Reader A) (rules : A → List Rule) (f : List ℕ) (at : ℕ) (v : A) (e : ℕ) → must r rules f at ≡ got v e → r f at ≡ got v e
unfolding must
must-got {A} r rules f at v e h = go (r f at) refl h
  where
    held : (rs : List Rule) (a : A) (m : ℕ) → hold rs at (got a m) ≡ got v e → got a m ≡ got v e
    held [] a m q = q
    held ((true or_no n) ∷ rs) a m q = held rs a m q
    held ((false or_no n) ∷ rs) a m q = not-got q

    go : (o : Out A) → r f at ≡ o → and_then o (λ a m. hold (rules a) at (got a m)) ≡ got v e → r f at ≡ got v e
    go (got a m) is q = is ∙ held (rules a) a m q
    go (Out.no n p) is q = not-got q

-- what was turned into another value was read
pub turned-got :
    {A B : Type 0} (r : Reader A) (g : A → B) (f : List ℕ) (at : ℕ) (v : B) (e : ℕ) → (r >>= λ a. give (g a)) f at ≡ got v e
    → (a : A) × (r f at ≡ got a e) × (g a ≡ v)
unfolding give
turned-got r g f at v e h =
    let B = bind_inv r (λ a. give (g a)) f at v e h in
    let z : B.next ≡ e = cc B.rest in
    (B.value, B.first ∙ ap (λ (n : ℕ). got B.value n) z, cc B.rest)

-- a v64
v64-got : (t : List ℕ → List ℕ) (s : State) (x : Element) (f : List ℕ) (from q : ℕ) → element s 11 f from ≡ got x q → (n : ℕ) × (v64 f from ≡ got n q) × (t (decimalℤ (signed 8 n)) ≡ t (element_word x))
unfolding element whole_of when◌then◌else◌ element_word
v64-got t s x f from q h =
    let (v, a, b) = turned-got (v64 >>= λ n. give (signed 8 n)) whole f from x q h in
    let (n, c, d) = turned-got v64 (signed 8) f from v q a in
    (n, c, ap (λ (y : ℤ). t (decimalℤ y)) d ∙ ap (λ (y : Element). t (element_word y)) b)

pub v64-shows :
    (t : List ℕ → List ℕ) {f : List ℕ} {from : ℕ} {l : List ℕ} {at : ℕ} {m : List ℕ} {o : Behind} → Shows (λ s. v64) (λ n. t (decimalℤ (signed 8 n))) f from l at m o
    → Shows (λ s. element s 11) (λ x. t (element_word x)) f from l at m o
v64-shows t {f} {from} = shows-by (λ s x q h. v64-got t s x f from q h)

-- the number of a string or of an object
module _ {e : ℕ} (high : 13 < e) (t : List ℕ → List ℕ) where
  link-got : (s : State) (x : Element) (f : List ℕ) (from q : ℕ) → element s e f from ≡ got x q → (n : ℕ) × (v64 f from ≡ got n q) × (t (decimal n) ≡ t (element_word x))
  unfolding element number when◌then◌else◌ element_word
  link-got s x f from q h =
      let link? : (number (link_rules s e) >>= λ n. give (link n)) f from ≡ got x q = rw (ne_eqb e 5 (λ z. omega arith), ne_eqb e 6 (λ z. omega arith), lt-leb e 11 (omega arith), lt-leb e 13 high) at h in
      let (n, a, b) = turned-got (number (link_rules s e)) link f from x q link? in
      (n, must-got v64 (link_rules s e) f from n q a, ap (λ (y : Element). t (element_word y)) {x = link n} b)

  pub link-shows :
      {f : List ℕ} {from : ℕ} {l : List ℕ} {at : ℕ} {m : List ℕ} {o : Behind} → Shows (λ s. v64) (λ n. t (decimal n)) f from l at m o
      → Shows (λ s. element s e) (λ x. t (element_word x)) f from l at m o
  link-shows {f} {from} = shows-by (λ s x q h. link-got s x f from q h)

-- the two numbers of an annotation
annotation-parts :
    (s : State) (x : Element) (f : List ℕ) (from q : ℕ) → element s 5 f from ≡ got x q
    → Parted v64 v64 (λ n. tab ∷ decimal n) (λ n. tab ∷ decimal n) f from (tab ∷ element_word x) q
unfolding element two_numbers give when◌then◌else◌ element_word
annotation-parts s x f from q h =
    let (p, a, b) = turned-got (must two_numbers (annotation_rules s)) (λ p. annotation p.0 p.1) f from x q h in
    let A = bind_inv v64 _ f from p q (must-got two_numbers (annotation_rules s) f from p q a) in
    let B = bind_inv v64 _ f A.next p q A.rest in
    let z : B.next ≡ q = cc B.rest in
    let is : (A.value, B.value) ≡ p = cc B.rest in
    record {
      first = A.value;
      place = A.next;
      second = B.value;
      one = A.first;
      two = B.first ∙ ap (λ (n : ℕ). got B.value n) z;
      is = ap (λ (y : ℕ × ℕ). tab ∷ element_word (annotation y.0 y.1)) is ∙ ap (λ (y : Element). tab ∷ element_word y) b;
    }

pub annotation-shows :
    {f : List ℕ} {from : ℕ} {l : List ℕ} {at : ℕ} {m n : List ℕ} {o o₂ : Behind} → Shows (λ s. v64) (λ n. tab ∷ decimal n) f from l at m o
    → Shows (λ s. v64) (λ n. tab ∷ decimal n) f o.next.at m o.at n o₂ → Shows (λ s. element s 5) (λ x. tab ∷ element_word x) f from l at n o₂
annotation-shows {f} {from} = shows_then (λ s x q h. annotation-parts s x f from q h)

-- the two words of its line
unfoldable pub two_words : ℕ → ℕ → List ℕ
two_words m n = decimal m ++ (tab ∷ decimal n)

pub two-stored : {l k o p : List ℕ} {at a b r : ℕ} (m n : ℕ) → Stored l at (decimal m) k a → Stored k a (tab ∷ []) o b → Stored o b (decimal n) p r → Stored l at (two_words m n) p r
unfolding two_words
two-stored m n x y z = stored-then x (stored-then y z)

pub two-laid : {l k o p : List ℕ} {at a b r : ℕ} (m n : ℕ) → Laid l at (decimal m) k a → Laid k a (tab ∷ []) o b → Laid o b (decimal n) p r → Laid l at (two_words m n) p r
unfolding two_words
two-laid m n x y z = laid_then x (laid_then y z)

module _ {f : List ℕ} {from : ℕ} {a : Outcome ℕ} (R : Read v64 (2 ^ 64) f from a) where
  pub two_none : {u : Refusal} → a ≡ Err u → {l : List ℕ} {at : ℕ} {k : List ℕ} {o : Behind} → Shows (λ s. element s 5) (λ x. line_of (element_word x)) f from l at k o
  two_none is = shows-none (λ s x q h. not-got (sym (was-refused R is).says ∙ (annotation-parts s x f from q h).one))

  module _ {m : ℕ} {c : Cursor} (is : a ≡ Ok (m, c)) {b : Outcome ℕ} (S : Read v64 (2 ^ 64) f c.at b) where
    first-is : (s : State) (x : Element) (q : ℕ) (h : element s 5 f from ≡ got x q) → got m c.at ≡ got (annotation-parts s x f from q h).first (annotation-parts s x f from q h).place
    first-is s x q h = sym (was-got R is).says ∙ (annotation-parts s x f from q h).one

    second_is : (s : State) (x : Element) (q : ℕ) (h : element s 5 f from ≡ got x q) → v64 f c.at ≡ got (annotation-parts s x f from q h).second q
    second_is s x q h =
        let P = annotation-parts s x f from q h in
        let z : c.at ≡ P.place = cc (first-is s x q h) in
        ap (λ (p : ℕ). v64 f p) z ∙ P.two

    pub two-cut : {u : Refusal} → b ≡ Err u → {l : List ℕ} {at : ℕ} {k : List ℕ} {o : Behind} → Shows (λ s. element s 5) (λ x. line_of (element_word x)) f from l at k o
    two-cut is₂ = shows-none (λ s x q h. not-got (sym (was-refused S is₂).says ∙ second_is s x q h))

    module _ {n : ℕ} {d : Cursor} (is₂ : b ≡ Ok (n, d)) where
      there : (s : State) (x : Element) (q : ℕ) (h : element s 5 f from ≡ got x q) → got n d.at ≡ got (annotation-parts s x f from q h).second q
      there s x q h = sym (was-got S is₂).says ∙ second_is s x q h

      words : (s : State) (x : Element) (q : ℕ) → element s 5 f from ≡ got x q → two_words m n ≡ element_word x
      unfolding two_words
      words s x q h =
          let P = annotation-parts s x f from q h in
          let y : m ≡ P.first = cc (first-is s x q h) in
          let z : n ≡ P.second = cc (there s x q h) in
          let both : tab ∷ (decimal m ++ (tab ∷ decimal n)) ≡ tab ∷ element_word x = rw (y, z) P.is in
          cc both

      pub two-shows : {l : List ℕ} {at : ℕ} {k : List ℕ} {r : ℕ} → Laid l at (line_of (two_words m n)) k r → Shows (λ s. element s 5) (λ x. line_of (element_word x)) f from l at k (record { next = d; at = r })
      two-shows L =
          record {
            text = record { laid = λ s x q h. laid_as L (ap line_of (words s x q h)) };
            next = λ s x q h. cc (there s x q h);
          }

-- what is left of the kinds of elements
pub element-low : (e : ℕ) → element_kind? e ≡ true → (e ≡ 5 → ⊥) → 5 < e
unfolding element_kind? single_kind?
element-low e h other =
    elim (dec_le 6 e) [
      | yes d ↦ d
      | no d ↦ (let lt = lt_of_not-le d in not_so (rw (ne_eqb e 5 other, lt-leb 6 e lt, lt-leb 32 e (omega arith)) at h))
    ]

-- ── a value's line ──

pub line-shows :
    {r : State → Reader (List Element)} {f : List ℕ} {from : ℕ} {l m n k : List ℕ} {at first end : ℕ} {o : Behind}
    → Laid l at (118 ∷ 97 ∷ 108 ∷ []) m first → Shows r (tabs element_word) f from m first n o → Laid n o.at (newline ∷ []) k end
    → Shows r value_line f from l at k (record { next = o.next; at = end })
unfolding value_line ascii
line-shows word all close =
    record {
      text = record { laid = λ s es q h. laid_as (laid_then word (laid_then (all.text.laid s es q h) close)) (sym (line-tabs element_word (ascii "val") es)) };
      next = all.next;
    }

-- one element is a row of one
one-read : {A : Type 0} (r : Reader A) (f : List ℕ) (from : ℕ) (es : List A) (q : ℕ) → repeat 1 r f from ≡ got es q → (x : A) × (r f from ≡ got x q) × (x ∷ [] ≡ es)
one-read {A} r f from es q h =
    let F = repeat-first r 0 f from es q h in
    let N = repeat-none r f F.next F.more q F.rest in
    (F.value, F.first ∙ ap (λ (p : ℕ). got F.value p) N.1, sym (F.is ∙ ap (λ (v : List A). F.value ∷ v) N.0))

word_line : (x : Element) → line_of (element_word x) ≡ value_line (x ∷ [])
unfolding line_of value_line ascii tabs flat
word_line x =
    ap (λ (w : List ℕ). 118 ∷ 97 ∷ 108 ∷ (w ++ (newline ∷ []))) (sym (append-nil (tab ∷ element_word x)))
    ∙ sym (line-tabs element_word (ascii "val") (x ∷ []))

module _ {r : State → Reader Element} {f : List ℕ} {from : ℕ} {l : List ℕ} {at : ℕ} {m : List ℕ} {o : Behind} where
  pub one-shows : Shows r (λ x. tab ∷ element_word x) f from l at m o → Shows (λ s. repeat 1 (r s)) (tabs element_word) f from l at m o
  unfolding tabs flat
  one-shows =
      shows-by (λ s es q h.
      let (x, a, is) = one-read (r s) f from es q h in
      (x, a, sym (append-nil (tab ∷ element_word x)) ∙ ap (flat (λ x. tab ∷ element_word x)) is))

  -- and its line the line of its word
  pub one_line : Shows r (λ x. line_of (element_word x)) f from l at m o → Shows (λ s. repeat 1 (r s)) value_line f from l at m o
  one_line =
      shows-by (λ s es q h.
      let (x, a, is) = one-read (r s) f from es q h in
      (x, a, word_line x ∙ ap value_line is))

module _ (e : ℕ) {f : List ℕ} {from : ℕ} {a : Outcome ℕ} (R : Read small 65536 f from a) {l : List ℕ} {at : ℕ} {m : List ℕ} {o : Behind} where
  pub list-none : {u : Refusal} → a ≡ Err u → Shows (list e) value_line f from l at m o
  unfolding list ◌>>=◌
  list-none {u} is = shows-none (λ s es q h. not-got (rw (was-refused R is).says at h))

  pub list-shows : {n : ℕ} {c : Cursor} → a ≡ Ok (n, c) → Shows (λ s. repeat n (element s e)) value_line f c.at l at m o → Shows (list e) value_line f from l at m o
  unfolding list ◌>>=◌
  list-shows is = shows-as (λ s. rw (was-got R is).says)

-- ── a chunk ──

-- n values whose kind has the numbers k, a and e, read from the start of f, stand as their lines in m, which is l besides, and r
-- is the place behind them: for every state
pub record ChunkShown (n k a e : ℕ) (f l : List ℕ) (at : ℕ) (m : List ℕ) (r : ℕ) : Type 0 where
  pub laid : (s : State) (c : Chunk) (q : ℕ) → repeat n (value s (kind_from k a e)) f 0 ≡ got c q → Laid l at (print_chunk c) m r

-- no elements are read of a constant
none_read : {A : Type 0} (r : Reader A) → give [] ≡ repeat 0 r
unfolding give repeat times each
none_read r = refl

module _ {n k a e : ℕ} {f l : List ℕ} {at : ℕ} {m : List ℕ} {p : ℕ} where
  chunk-by : {r : State → Reader (List Element)} → ((s : State) → value s (kind_from k a e) ≡ r s) → Shown (λ s. repeat n (r s)) print_chunk f 0 l at m p → ChunkShown n k a e f l at m p
  chunk-by same S = record { laid = λ s c q h. S.laid s c q (rw (same s) at h) }

  pub chunk-constant : k ≤ 4 → Shown (λ s. repeat n (repeat 0 (element s e))) print_chunk f 0 l at m p → ChunkShown n k a e f l at m p
  chunk-constant h = chunk-by (λ s. value-constant k a e s h ∙ none_read (element s e))

  pub chunk-array : k ≡ 15 → Shown (λ s. repeat n (repeat a (element s e))) print_chunk f 0 l at m p → ChunkShown n k a e f l at m p
  unfolding value
  chunk-array h = chunk-by (λ s. rw (kind-array k a e h))

  pub chunk-lists : 17 ≤ k → k ≤ 19 → Shown (λ s. repeat n (list e s)) print_chunk f 0 l at m p → ChunkShown n k a e f l at m p
  unfolding value list
  chunk-lists h t = chunk-by (λ s. rw (kind-many k a e h t))

  pub chunk-plain : 4 < k → (k ≡ 15 → ⊥) → (17 ≤ k → 19 < k) → (k ≡ 20 → ⊥) → Shown (λ s. repeat n (repeat 1 (element s e))) print_chunk f 0 l at m p → ChunkShown n k a e f l at m p
  unfolding value
  chunk-plain h x y z = chunk-by (λ s. rw (kind-plain k a e h x y z))

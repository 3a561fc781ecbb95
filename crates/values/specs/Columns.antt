-- What a value in code says: an element, which a column can store. Assumes nothing.
use Rattle.std.specs.Prelude.{Ok, Err, ◌≡◌, ℕ, ◌^◌, ◌<◌, Bool, true, false, List, ℤ, pos, ◌≢◌, nat_eq}
use Rattle.std.proofs.Common.{sym, ◌∙◌, to_z, of_z, to_z-of_z, w64}
use Rattle.std.specs.Int.Signed.{mag}
use Rattle.paper.specs.Reader.{Out, got, no, ◌>>=◌, give}
use Rattle.paper.specs.Ledger.{Element, flag, whole, float, link, State}
use Rattle.paper.specs.Calls.{stored}
use Rattle.paper.specs.File.{element}
use Rattle.numbers.specs.Cursors.{Outcome, Read, was-got, was-refused}
use Rattle.numbers.specs.declared.Cursor.{Cursor}
use Rattle.numbers.specs.Faults.{number_of}
use Rattle.numbers.specs.declared.Refusal.{Refusal}
use Rattle.values.specs.Bare.{bare, bound_of, made, Linkable, element-stands}
use Rattle.values.specs.declared.columns.Value.{Value}
use Rattle.values.specs.declared.columns.Value.TheVariants.{Flag, Whole, Float, Object}

unfoldable pub element_of : Value → Element
element_of (Flag b) = flag b
element_of (Whole z) = whole z
element_of (Float w bits) = float w bits
element_of (Object n) = link n

-- a signed number of 64 bits holds what is stored of it
unfoldable pub Storable : Value → Type 0
Storable (Flag b) = Unit {0}
Storable (Whole z) = mag z < 2 ^ 63
Storable (Float w bits) = (w ≢ 8) → (w ≡ 4) × (bits < 256 ^ 4)
Storable (Object n) = n < 2 ^ 63

-- a number that fits is what the machine reads of it
pub held : {z r : ℤ} → mag z < 2 ^ 63 → z ≡ r → to_z w64 (of_z w64 z) ≡ r
held fits is = to_z-of_z {w = w64} (record { sfits = fits }) ∙ is

-- ── what is stored, by the variants ──

module _ {v : Value} where
  pub store_true : {b : Bool} → v ≡ Flag b → b ≡ true → pos 1 ≡ stored (element_of v)
  unfolding element_of stored
  store_true is t = rw (is, t)

  pub store-false : {b : Bool} → v ≡ Flag b → b ≡ false → pos 0 ≡ stored (element_of v)
  unfolding element_of stored
  store-false is t = rw (is, t)

  pub store-whole : {z : ℤ} → v ≡ Whole z → z ≡ stored (element_of v)
  unfolding element_of stored
  store-whole is = rw is

  pub whole-fits : {z : ℤ} → v ≡ Whole z → Storable v → mag z < 2 ^ 63
  unfolding Storable
  whole-fits is h = rw is at h

  pub store-f64 : {w bits : ℕ} → v ≡ Float w bits → w ≡ 8 → stored (float 8 bits) ≡ stored (element_of v)
  unfolding element_of
  store-f64 is t = rw (is, t)

  module _ {w bits : ℕ} (is : v ≡ Float w bits) (other : w ≡ 8 → ⊥) (h : Storable v) where
    f32-there : (w ≡ 4) × (bits < 256 ^ 4)
    unfolding Storable
    f32-there = (rw is at h) other

    pub bits_fit : bits < 256 ^ 4
    bits_fit = f32-there.1

    pub store-f32 : stored (float 4 bits) ≡ stored (element_of v)
    unfolding element_of
    store-f32 = rw (is, f32-there.0)

  pub store-object : {n : ℕ} → v ≡ Object n → pos n ≡ stored (element_of v)
  unfolding element_of stored
  store-object is = rw is

  pub object-fits : {n : ℕ} → v ≡ Object n → Storable v → n < 2 ^ 63
  unfolding Storable
  object-fits is h = rw is at h

-- ── an answer ──

unfoldable pub valued : Outcome Value → Out Element
valued (Ok (v, c)) = got (element_of v) c.at
valued (Err e) = no (number_of e.fault) e.place

unfoldable pub StorableIn : Outcome Value → Type 0
StorableIn (Ok (v, c)) = Storable v
StorableIn (Err e) = Unit {0}

-- the answer is the element that stands there, for every state whose numbers can be stored
pub record ValueRead (k : ℕ) (f : List ℕ) (at : ℕ) (r : Outcome Value) : Type 0 where
  pub stands : valued r ≡ (bare k >>= λ n. give (made k n)) f at
  pub storable : StorableIn r
  pub reads : (s : State) (e : Element) (p : ℕ) → Linkable s k → element s k f at ≡ got e p → valued r ≡ got e p

module _ {k : ℕ} (one : nat_eq k 5 ≡ false) {f : List ℕ} {at : ℕ} {r : Outcome Value} where
  value_read : valued r ≡ (bare k >>= λ n. give (made k n)) f at → StorableIn r → ValueRead k f at r
  unfolding ◌>>=◌ give
  value_read h t =
      record {
        stands = h;
        storable = t;
        reads = λ s e p L q.
            let S = element-stands s k f at e p one L q in
            h ∙ rw (S.reads, S.is);
      }

module _ {k : ℕ} (one : nat_eq k 5 ≡ false) {f : List ℕ} {at : ℕ} {a : Outcome ℕ} (R : Read (bare k) (bound_of k) f at a) where
  pub value-cut : {e : Refusal} → a ≡ Err e → ValueRead k f at (Err e)
  unfolding ◌>>=◌ give valued StorableIn
  value-cut is = let W = was-refused R is in value_read one (sym (rw W.says)) tt

  pub value-got :
      {n : ℕ} {c : Cursor} {v : Value} → a ≡ Ok (n, c) → (element_of v ≡ made k n) × Storable v → ValueRead k f at (Ok (v, c))
  unfolding ◌>>=◌ give valued StorableIn
  value-got is h = let W = was-got R is in value_read one (sym (rw (W.says, h.0))) h.1

-- Kinds, as the code reads them. Assumes nothing.
use Rattle.std.specs.Prelude.{Ok, Err, ◌≡◌, Bool, true, false, ◌||◌, List, ℕ, ◌-◌, ◌^◌, ◌≤◌, ltb, length}
use Rattle.paper.specs.Reader.{when◌then◌else◌, Reader, Out, got, no, turned, ◌>>=◌, give, repeat}
use Rattle.paper.specs.Numbers.{fixed, v64, number}
use Rattle.paper.specs.Ledger.{Kind, constant, array, many, mapping}
use Rattle.paper.specs.Rules.{any_type, element_kind_rules, types_rules, noted}
use Rattle.paper.specs.File.{small, whole_of, kind}
use Rattle.laws.specs.Packed.{packed}
use Rattle.table.specs.View.{kind_from}
use Rattle.reader.specs.declared.kinds.Named.{Named}
use Rattle.reader.specs.declared.kinds.Kind.{Kind as KindRow}
use Rattle.numbers.specs.Cursors.{Outcome}
use Rattle.numbers.specs.Faults.{number_of}

-- ── which numbers name a type ──

-- any number while types may still be declared, and else those of n types
unfoldable pub named_by : Bool → ℕ → ℕ → Bool
named_by false n = any_type
named_by true n = λ k. ltb k 32 || ltb (k - 32) n

abbrev pub named? : Named → ℕ → Bool
named? x = named_by x.strict x.types

-- ── what follows a kind's number ──

-- the bits of a constant's value: its sign is not told apart yet
unfoldable pub bits_of : ℕ → Reader ℕ
bits_of k = when ltb k 4 then fixed (2 ^ k) else v64

unfoldable pub constant_of : ℕ → Reader Kind
constant_of k = do
  v ← whole_of k
  give (constant k v)

unfoldable pub array_of : (ℕ → Bool) → Reader Kind
array_of named = do
  n ← small
  e ← number (element_kind_rules named)
  give (array n e)

unfoldable pub many_of : (ℕ → Bool) → ℕ → Reader Kind
many_of named k = do
  e ← number (element_kind_rules named)
  give (many k e)

unfoldable pub mapping_of : (ℕ → Bool) → Reader Kind
mapping_of named = do
  n ← number types_rules
  ks ← repeat n (number (element_kind_rules named))
  give (mapping ks)

-- so many element kinds in one number
unfoldable pub packed_of : (ℕ → Bool) → ℕ → Reader ℕ
packed_of named n f at = turned packed (repeat n (number (element_kind_rules named)) f at)

-- ── answers ──

abbrev pub kind_in : KindRow → Kind
kind_in r = kind_from r.first r.bits r.last

abbrev pub out_kind : Outcome KindRow → Out Kind
out_kind (Ok (r, c)) = got (kind_in r) c.at
out_kind (Err e) = no (number_of e.fault) e.place

abbrev pub place_of_kind : Outcome KindRow → ℕ
place_of_kind (Ok (r, c)) = c.at
place_of_kind (Err e) = e.place

-- a row of the table has room for the first number of a kind that was read
abbrev pub ToldKind : Outcome KindRow → Type 0
ToldKind (Ok (r, c)) = r.first ≤ 32
ToldKind (Err e) = Unit {0}

-- the answer is what is kept of the kind that the reader `r` gives at `at`; from a place within the file it leads to one
pub record KindReadBy (r : Reader Kind) (f : List ℕ) (at : ℕ) (a : Outcome KindRow) : Type 0 where
  pub says : out_kind a ≡ turned noted (r f at)
  pub inside : at ≤ length f → place_of_kind a ≤ length f
  pub told : ToldKind a

abbrev pub KindReads : (ℕ → Bool) → List ℕ → ℕ → Outcome KindRow → Type 0
KindReads named f at a = KindReadBy (kind named) f at a

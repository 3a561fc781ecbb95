-- What a file says, and what is known of it while it is read. Assumes nothing.
use Rattle.std.specs.Prelude.{Bool, ◌&&◌, not, List, [], ℕ, ◌+◌, ◌-◌, leb, ltb, eqb, ℤ, length, get_or}
use Rattle.std.proofs.Math.Option.{Option, none}
use Rattle.paper.specs.Lists.{same, any, place, place_named, places, total, given?}

-- ── the ledger: what a file says, and a listing shows ──

-- a kind, by its numbers: a constant of kind 0 to 4 with its value; 5 to 14 and 32 upwards; 15 with a length and an element
-- kind; 17 to 19 with an element kind; 20 with the element kinds of a map
pub data Kind : Type 0 where
  constant : ℕ → ℤ → Kind
  plain : ℕ → Kind
  array : ℕ → ℕ → Kind
  many : ℕ → ℕ → Kind
  mapping : List ℕ → Kind

-- a value's element: flag, whole number, the bits of a float of so many bytes, number of a string or an object; the numbers of
-- a base type's name and of an object; and in a map the size that stands before so many keys
pub data Element : Type 0 where
  flag : Bool → Element
  whole : ℤ → Element
  float : ℕ → ℕ → Element
  link : ℕ → Element
  annotation : ℕ → ℕ → Element
  keys : ℕ → Element

-- a new field: its kind, and its name by the string's number
pub record New : Type 0 where
  pub kind : Kind
  pub name : ℕ

-- what stands in an entry before its fields; `super` if the type is new, `start` if it has a super type
pub record Head : Type 0 where
  pub name : ℕ
  pub super : Option ℕ
  pub start : Option ℕ
  pub count : ℕ

-- an entry; which known fields it gives follows from what was read before
pub record Entry : Type 0 where
  pub head : Head
  pub news : List New

-- the values of a chunk, each a list of elements
abbrev pub Chunk : Type 0
Chunk = List (List Element)

pub record Pair : Type 0 where
  pub strings : List (List ℕ)
  pub entries : List Entry
  pub chunks : List Chunk

abbrev pub Ledger : Type 0
Ledger = List Pair

-- ── what is known: strings, types and fields in order of declaration, and the ranges of objects that the blocks added ──

-- a type: its super type and the base type of its pool, by their places among the types
pub record Typ : Type 0 where
  pub super : Option ℕ
  pub base : ℕ

-- a field: the type that it belongs to, and its kind
pub record Field : Type 0 where
  pub owner : ℕ
  pub kind : Kind

-- a range: `count` objects of the type and those below it, which a block adds; `start` counts from the first object that the
-- block adds to the base pool, `first` from the pool's first
pub record Range : Type 0 where
  pub type : ℕ
  pub block : ℕ
  pub start : ℕ
  pub first : ℕ
  pub count : ℕ

-- names stand in lists of their own; `block` is the number of pairs before this one
pub record State : Type 0 where
  pub strings : List (List ℕ)
  pub type_names : List (List ℕ)
  pub types : List Typ
  pub field_names : List (List ℕ)
  pub fields : List Field
  pub log : List Range
  pub block : ℕ

unfoldable pub nothing : State
nothing = record { strings = []; type_names = []; types = []; field_names = []; fields = []; log = []; block = 0 }

-- a chunk that is due: its field, and how many values it has
pub record Due : Type 0 where
  pub field : ℕ
  pub values : ℕ

-- ── strings ──

-- string n, numbered from 1
unfoldable pub text : State → ℕ → List ℕ
text s n = get_or s.strings (n - 1) []

unfoldable pub a_string? : State → ℕ → Bool
a_string? s n = leb 1 n && leb n (length s.strings)

-- ── types ──

unfoldable pub type_named : State → List ℕ → Option ℕ
type_named s name = place (same name) 0 s.type_names

unfoldable pub no_type : Typ
no_type = record { super = none; base = 0 }

unfoldable pub type_in : List Typ → ℕ → Typ
type_in ts t = get_or ts t no_type

-- ── fields ──

unfoldable pub no_field : Field
no_field = record { owner = 0; kind = plain 0 }

unfoldable pub field_at : State → ℕ → Field
field_at s i = get_or s.fields i no_field

unfoldable pub owns? : ℕ → Field → Bool
owns? t d = eqb d.owner t

-- the fields of a type, in order, by their places
unfoldable pub fields_of : State → ℕ → List ℕ
fields_of s t = places (owns? t) 0 s.fields

unfoldable pub called? : ℕ → List ℕ → Field → List ℕ → Bool
called? t name d other = owns? t d && same name other

unfoldable pub field_named : State → ℕ → List ℕ → Option ℕ
field_named s t name = place_named (called? t name) 0 s.fields s.field_names

-- ── objects ──

-- a range of type t, and one that block b added
unfoldable pub of? : ℕ → Range → Bool
of? t r = eqb r.type t

unfoldable pub here? : ℕ → Range → Bool
here? b r = eqb r.block b

unfoldable pub size : Range → ℕ
size r = r.count

-- the objects of a type and of all below it
unfoldable pub objects_of : State → ℕ → ℕ
objects_of s t = total (of? t) size s.log

-- a range of type t that a block before b added
unfoldable pub before? : ℕ → ℕ → Range → Bool
before? b t r = of? t r && ltb r.block b

-- the objects of a base pool before this block
unfoldable pub pool_before : State → ℕ → ℕ
pool_before s t = total (before? s.block t) size s.log

-- a range of a base type
unfoldable pub base? : List Typ → Range → Bool
base? ts r = not (given? (type_in ts r.type).super)

-- the objects of all base pools
unfoldable pub objects_in_all : State → ℕ
objects_in_all s = total (base? s.types) size s.log

-- a range of type t in which object n of the base pool lies; objects are numbered from 1
unfoldable pub holds? : ℕ → ℕ → Range → Bool
holds? t n r = of? t r && (leb (r.first + 1) n && leb n (r.first + r.count))

-- object n of a base pool is of this type or below it
unfoldable pub object? : State → ℕ → ℕ → Bool
object? s t n = any (holds? t n) s.log

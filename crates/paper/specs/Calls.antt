-- The six calls: what each answers, 15 to 20 included, and what the lent memory holds afterwards. Assumes nothing.
use Rattle.std.specs.Prelude.{Bool, true, false, ◌&&◌, List, [], ◌∷◌, ◌++◌, map, ℕ, leb, ltb, eqb, ℤ, pos, length, drop, replicate}
use Rattle.std.proofs.Math.Option.{Option, none, some}
use Rattle.paper.specs.Reader.{when◌then◌else◌, Out, got, no}
use Rattle.paper.specs.Numbers.{signed}
use Rattle.paper.specs.Bounds.{table_length}
use Rattle.paper.specs.Lists.{fold}
use Rattle.paper.specs.Ledger.{Kind, constant, plain, array, many, mapping, Element, flag, whole, float, link, annotation, keys, Chunk, Due, Ledger, State, nothing, type_named, field_named, field_at, objects_of}
use Rattle.paper.specs.Rules.{with_strings, dues, after_pair}
use Rattle.paper.specs.File.{file}
use Rattle.paper.specs.Listing.{print}
use Rattle.paper.specs.Scan.{file_of}

-- ── answers ──

pub data Answer (A : Type 0) : Type 0 where
  done : A → Answer A
  refused : ℕ → Answer A

infixl 1 ◌>>=◌ ◌>>◌
unfoldable pub ◌>>=◌ : {A B : Type 0} → Answer A → (A → Answer B) → Answer B
done a >>= k = k a
refused n >>= k = refused n

unfoldable pub ◌>>◌ : {A B : Type 0} → Answer A → Answer B → Answer B
a >> b = a >>= λ x. b

unfoldable pub need : Bool → ℕ → Answer (Unit {0})
need true n = done tt
need false n = refused n

unfoldable pub found : {A : Type 0} → Option A → ℕ → Answer A
found none n = refused n
found (some a) n = done a

unfoldable pub answered : {A : Type 0} → Out A → Answer A
answered (got a e) = done a
answered (no n p) = refused n

-- ── check and objects: 15, then the file's own refusals, then 16 ──

-- the ledger of an accepted file, given a work table of this length
unfoldable pub read : ℕ → List ℕ → Answer Ledger
read table f = do
  need (leb table_length table) 15
  answered (file f)

unfoldable pub check : ℕ → List ℕ → Answer ℕ
check table f = do
  l ← read table f
  done 0

unfoldable pub known : Ledger → State
known l = fold after_pair nothing l

unfoldable pub objects : List ℕ → ℕ → List ℕ → Answer ℕ
objects type table f = do
  l ← read table f
  t ← found (type_named (known l) type) 16
  done (objects_of (known l) t)

-- ── "Columns" ──

-- bool is 0 or 1; f32 bits are taken as a number from 0 up, f64 bits as a signed one
unfoldable pub stored : Element → ℤ
stored (flag true) = pos 1
stored (flag false) = pos 0
stored (whole v) = v
stored (float w n) = when eqb w 8 then signed 8 n else pos n
stored (link n) = pos n
stored (annotation name n) = pos n
stored (keys n) = pos n

unfoldable pub stored_all : List (List Element) → List ℤ
stored_all [] = []
stored_all (v ∷ vs) = map stored v ++ stored_all vs

-- the values of a chunk, if it is of field i
unfoldable pub values_in : ℕ → Due → Chunk → List ℤ
values_in i d c = when eqb d.field i then stored_all c else []

unfoldable pub chunk_values : ℕ → List Due → List Chunk → List ℤ
chunk_values i [] cs = []
chunk_values i (d ∷ ds) [] = []
chunk_values i (d ∷ ds) (c ∷ cs) = values_in i d c ++ chunk_values i ds cs

-- chunk after chunk: base pool order
unfoldable pub field_values : ℕ → State → Ledger → List ℤ
field_values i s [] = []
field_values i s (p ∷ ps) = chunk_values i (dues (with_strings s p.strings) p.entries) p.chunks ++ field_values i (after_pair s p) ps

-- field i of type t, of the given kind: a constant stands once for each object
unfoldable pub column_by : Kind → Ledger → ℕ → ℕ → List ℤ
column_by (constant k v) l t i = replicate (objects_of (known l) t) v
column_by (plain k) l t i = field_values i nothing l
column_by (array n k) l t i = []
column_by (many c k) l t i = []
column_by (mapping ks) l t i = []

unfoldable pub column_of : Ledger → ℕ → ℕ → List ℤ
column_of l t i = column_by (field_at (known l) i).kind l t i

-- the kind that a column is asked with: 32 is a reference to any type; 33 for what has no column
unfoldable pub asked : Kind → ℕ
asked (constant k v) = k
asked (plain k) = when eqb k 5 then 33 else when ltb k 32 then k else 32
asked (array n k) = 33
asked (many c k) = 33
asked (mapping ks) = 33

-- 16, 17, 18: the type and its field that are asked for
unfoldable pub sought : List ℕ → List ℕ → ℕ → State → Answer (ℕ × ℕ)
sought type field k s = do
  t ← found (type_named s type) 16
  i ← found (field_named s t field) 17
  need (eqb k (asked (field_at s i).kind) && leb k 32) 18
  done (t, i)

-- how many values there are: one for each object
unfoldable pub count_values : List ℕ → List ℕ → ℕ → ℕ → List ℕ → Answer ℕ
count_values type field k table f = do
  l ← read table f
  (t, i) ← sought type field k (known l)
  done (objects_of (known l) t)

-- the values themselves, if there is room for them
unfoldable pub fill_values : List ℕ → List ℕ → ℕ → ℕ → ℕ → List ℕ → Answer (List ℤ)
fill_values type field k room table f = do
  l ← read table f
  (t, i) ← sought type field k (known l)
  need (leb (objects_of (known l) t) room) 19
  done (column_of l t i)

-- ── listing and build ──

-- what is written, if there is room for the whole
unfoldable pub fitted : ℕ → List ℕ → Answer (List ℕ)
fitted room t = do
  need (leb (length t) room) 19
  done t

unfoldable pub listing : ℕ → ℕ → List ℕ → Answer (List ℕ)
listing room table f = do
  l ← read table f
  fitted room (print l)

-- 15, 20, 19 in that order
unfoldable pub build : ℕ → ℕ → List ℕ → Answer (List ℕ)
build room table t = do
  need (leb table_length table) 15
  f ← found (file_of t) 20
  fitted room f

-- ── what the lent memory holds afterwards ──

-- the first 16,384 numbers are 0 and the rest as lent; a shorter table is untouched
unfoldable pub cleared : List ℕ → List ℕ
cleared table = when leb table_length (length table) then replicate table_length 0 ++ drop table_length table else table

-- the values at the front, the rest untouched
unfoldable pub over_front : {A : Type 0} → List A → List A → List A
over_front values out = values ++ drop (length values) out

-- a refusal leaves each output buffer untouched
unfoldable pub left_in : {A : Type 0} → List A → Answer (List A) → List A
left_in out (done values) = over_front values out
left_in out (refused n) = out

-- how many were written
unfoldable pub how_many : {A : Type 0} → Answer (List A) → Answer ℕ
how_many (done values) = done (length values)
how_many (refused n) = refused n

-- the answer, the work table and the output after a call
pub record Left (A : Type 0) : Type 0 where
  pub answer : Answer ℕ
  pub table : List ℕ
  pub output : List A

-- a call that writes what it answers to the front of its output
unfoldable pub writes : {A : Type 0} → Answer (List A) → List ℕ → List A → Left A
writes a table out = record { answer = how_many a; table = cleared table; output = left_in out a }

-- a call without an output
unfoldable pub tells : Answer ℕ → List ℕ → Left ℕ
tells a table = record { answer = a; table = cleared table; output = [] }

unfoldable pub after_check : List ℕ → List ℕ → Left ℕ
after_check file table = tells (check (length table) file) table

unfoldable pub after_objects : List ℕ → List ℕ → List ℕ → Left ℕ
after_objects file type table = tells (objects type (length table) file) table

unfoldable pub after_count : List ℕ → List ℕ → List ℕ → ℕ → List ℕ → Left ℕ
after_count file type field k table = tells (count_values type field k (length table) file) table

unfoldable pub after_fill : List ℕ → List ℕ → List ℕ → ℕ → List ℕ → List ℤ → Left ℤ
after_fill file type field k table out = writes (fill_values type field k (length out) (length table) file) table out

unfoldable pub after_listing : List ℕ → List ℕ → List ℕ → Left ℕ
after_listing file table out = writes (listing (length out) (length table) file) table out

unfoldable pub after_build : List ℕ → List ℕ → List ℕ → Left ℕ
after_build text table out = writes (build (length out) (length table) text) table out

-- What a ledger is written as, in the paper's order: pieces, each a number whose coding is open or bytes as they stand, with lengths and
-- end offsets worked out. Encode writes each number in its shortest coding; in a file that is read it may stand in any (Spell). Assumes
-- nothing.
use Rattle.std.specs.Prelude.{true, false, List, [], ◌∷◌, ◌++◌, ℕ, ◌+◌, ◌-◌, ◌^◌, ltb, ℤ, length, take, drop}
use Rattle.std.proofs.Math.Option.{Option, none, some}
use Rattle.paper.specs.Reader.{when◌then◌else◌}
use Rattle.paper.specs.Numbers.{unsigned, put_fixed}
use Rattle.paper.specs.Lists.{flat, given?}
use Rattle.paper.specs.Ledger.{
  Kind,
  constant,
  plain,
  array,
  many,
  mapping,
  Element,
  flag,
  whole,
  float,
  link,
  annotation,
  keys,
  New,
  Head,
  Entry,
  Chunk,
  Due,
  State,
  field_at,
}
use Rattle.paper.specs.Maps.{size_of, through_maps}
use Rattle.paper.specs.Rules.{known_due, with_strings, after_entry}

-- a number, whose coding is open, or bytes as they stand
pub data Piece : Type 0 where
  num : ℕ → Piece
  raw : List ℕ → Piece

abbrev pub free : ℕ → List Piece
free n = num n ∷ []

abbrev pub firm : List ℕ → List Piece
firm bs = raw bs ∷ []

-- where pieces end, the first of which begins at `from`
unfoldable pub ends_from : ℕ → List (List ℕ) → List ℕ
ends_from from [] = []
ends_from from (b ∷ bs) = (from + length b) ∷ ends_from (from + length b) bs

-- ── string block ──

unfoldable pub string_pieces : List (List ℕ) → List Piece
string_pieces ss = free (length ss) ++ firm (flat (put_fixed 4) (ends_from 0 ss)) ++ firm (flat (λ s. s) ss)

-- ── entries ──

unfoldable pub option_pieces : Option ℕ → List Piece
option_pieces none = []
option_pieces (some n) = free n

unfoldable pub head_pieces : Head → List Piece
head_pieces h = free h.name ++ option_pieces h.super ++ option_pieces h.start ++ free h.count ++ (when given? h.super then free 0 else [])

-- a whole number of kind k, counted from i8: i8, i16, i32, i64, v64
unfoldable pub whole_pieces : ℕ → ℤ → List Piece
whole_pieces k v = when ltb k 4 then firm (put_fixed (2 ^ k) (unsigned (2 ^ k) v)) else free (unsigned 8 v)

unfoldable pub kind_pieces : Kind → List Piece
kind_pieces (constant k v) = free k ++ whole_pieces k v
kind_pieces (plain k) = free k
kind_pieces (array n k) = free 15 ++ free n ++ free k
kind_pieces (many c k) = free c ++ free k
kind_pieces (mapping ks) = free 20 ++ free (length ks) ++ flat free ks

unfoldable pub new_pieces : New × ℕ → List Piece
new_pieces g = free 0 ++ kind_pieces g.0.kind ++ free g.0.name ++ free g.1

unfoldable pub zip : {A B : Type 0} → List A → List B → List (A × B)
zip [] ys = []
zip (x ∷ xs) [] = []
zip (x ∷ xs) (y ∷ ys) = (x, y) ∷ zip xs ys

-- fields with their ends: `known` ends alone, and then new fields
unfoldable pub field_pieces : ℕ → List New → List ℕ → List Piece
field_pieces known news es = free (known + length news) ++ flat free (take known es) ++ flat new_pieces (zip news (drop known es))

unfoldable pub entry_pieces : ℕ → Entry × List ℕ → List Piece
entry_pieces known e = head_pieces e.0.head ++ field_pieces known e.0.news e.1

-- entries with the ends of their chunks
unfoldable pub entries_pieces : State → List Entry → List ℕ → List Piece
entries_pieces s [] es = []
entries_pieces s (e ∷ l) es =
    let known = length (known_due s e.head) in
    let n = known + length e.news in
    entry_pieces known (e, take n es) ++ entries_pieces (after_entry s e) l (drop n es)

-- ── values ──

-- an element of a kind
unfoldable pub element_pieces : ℕ → Element → List Piece
element_pieces k (flag true) = firm (255 ∷ [])
element_pieces k (flag false) = firm (0 ∷ [])
element_pieces k (whole v) = whole_pieces (k - 7) v
element_pieces k (float w n) = firm (put_fixed w n)
element_pieces k (link n) = free n
element_pieces k (annotation name n) = free name ++ free n
element_pieces k (keys n) = free n

-- a size
unfoldable pub size_pieces : Element → List Piece
size_pieces e = free (size_of e)

unfoldable pub value_pieces : Kind → List Element → List Piece
value_pieces (constant k v) es = []
value_pieces (plain k) es = flat (element_pieces k) es
value_pieces (array n k) es = flat (element_pieces k) es
value_pieces (many c k) es = free (length es) ++ flat (element_pieces k) es
value_pieces (mapping ks) es = through_maps element_pieces size_pieces es (ks ∷ [])

unfoldable pub chunk_pieces : State → Due → Chunk → List Piece
chunk_pieces s d c = flat (value_pieces (field_at s d.field).kind) c

-- ── front ──

unfoldable pub front_pieces : State → List (List ℕ) → List Entry → List ℕ → List Piece
front_pieces s strings entries es = string_pieces strings ++ free (length entries) ++ entries_pieces (with_strings s strings) entries es

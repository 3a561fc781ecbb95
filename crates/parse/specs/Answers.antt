-- What the answers of the readers mean, in the terms of the definitions. Assumes nothing.
use Rattle.std.specs.Prelude.{Some, None, ◌≡◌, true, List, ℕ, ◌+◌, ◌^◌, ◌≤◌, ltb, length}
use Rattle.std.proofs.Math.Seq.{slice}
use Rattle.paper.specs.Reader.{when◌then◌else◌, Reader, Out, got, no, turned, ◌>>=◌, ◌>>◌, give, repeat}
use Rattle.paper.specs.Ledger.{Kind, constant, array, many, mapping, New, Head}
use Rattle.paper.specs.Rules.{element_kind_rules, any_type, noted}
use Rattle.paper.specs.Listing.{tab, newline, comma, hex}
use Rattle.paper.specs.Keeps.{number?, bytes?, kind_kept?}
use Rattle.paper.specs.Scan.{heed, byte_is, ended, natural, integer, hex_bytes, read_string, read_new}
use Rattle.table.specs.View.{kind_from}
use Rattle.words.specs.Answers.{Scanned, option}
use Rattle.parse.specs.declared.StringLine.{StringLine}
use Rattle.parse.specs.declared.TypeLine.{TypeLine}
use Rattle.parse.specs.declared.NewLine.{NewLine}
use Rattle.reader.specs.declared.kinds.Kind.{Kind as Numbers}

-- ── pair ──

-- two numbers that end a line
unfoldable pub read_two : Reader (ℕ × ℕ)
read_two = do
  a ← ended tab natural
  b ← ended newline natural
  give (a, b)

abbrev pub out_pair : Scanned (ℕ × ℕ) → Out (ℕ × ℕ)
out_pair (Some (x, c)) = got x c.at
out_pair None = no 20 0

-- ── string ──

-- the bytes that stand in hex from `start` on end at `end`
pub record HexEnd (t : List ℕ) (start end : ℕ) : Type 0 where
  pub bytes : List ℕ
  pub digits : hex_bytes t start ≡ got bytes end

-- a string was read whose hex digits stand from `start` to `end`
pub record StringAt (t : List ℕ) (at start end next : ℕ) : Type 0 where
  pub bytes : List ℕ
  pub read : read_string t at ≡ got bytes next
  pub digits : hex_bytes t start ≡ got bytes end
  pub begins : start ≡ at + 4
  pub forward : start ≤ end
  pub inside : end ≤ length t
  pub spelt : slice start end t ≡ hex bytes
  pub small : bytes? bytes ≡ true

abbrev pub SaysString : List ℕ → ℕ → Scanned StringLine → Type 0
SaysString t at (Some (l, c)) = StringAt t at l.from l.to c.at
SaysString t at None = read_string t at ≡ no 20 0

pub record StringReads (t : List ℕ) (at : ℕ) (r : Scanned StringLine) : Type 0 where
  pub says : SaysString t at r

-- ── type ──

abbrev pub head_of : TypeLine → Head
head_of l = record { name = l.name; super = option l.sup; start = option l.start; count = l.count }

abbrev pub out_type : Scanned TypeLine → Out (Head × ℕ)
out_type (Some (l, c)) = got (head_of l, l.fields) c.at
out_type None = no 20 0

-- ── kind ──

-- what is read is a kind that keeps its rules
unfoldable pub keeping : Reader Kind → Reader Kind
keeping r = do
  k ← r
  heed (kind_kept? k)
  give k

-- what follows a kind's number
unfoldable pub constant_of : ℕ → Reader Kind
constant_of k = do
  byte_is comma
  v ← integer
  give (constant k v)

unfoldable pub array_of : Reader Kind
array_of = do
  byte_is comma
  n ← ended comma natural
  e ← natural
  give (array n e)

unfoldable pub many_of : ℕ → Reader Kind
many_of k = do
  byte_is comma
  e ← natural
  give (many k e)

-- an element kind that keeps its rules
unfoldable pub element_of : Reader ℕ
element_of = do
  byte_is comma
  e ← natural
  heed (number? (element_kind_rules any_type) e)
  give e

-- the element kinds of a map of n types
unfoldable pub kinds_of : ℕ → Reader Kind
kinds_of n = do
  ks ← repeat n (byte_is comma >> natural)
  give (mapping ks)

unfoldable pub map_of : Reader Kind
map_of = do
  byte_is comma
  n ← natural
  kinds_of n

-- the bytes of a constant's value
abbrev pub width_of : ℕ → ℕ
width_of k = when ltb k 4 then 2 ^ k else 8

-- half the range of w bytes, which are at most eight
pub record Half (w h : ℕ) : Type 0 where
  pub twice : 256 ^ w ≡ h + h
  pub most : h ≤ 9223372036854775808

abbrev pub out_kind : Scanned Numbers → Out Kind
out_kind (Some (x, c)) = got (kind_from x.first x.bits x.last) c.at
out_kind None = no 20 0

-- a row of the table has room for the first number
abbrev pub ToldKind : Scanned Numbers → Type 0
ToldKind (Some (x, c)) = x.first ≤ 32
ToldKind None = Unit {0}

-- the answer is what is kept of the kind that the reader `r` gives at `at`, if it keeps the rules
pub record KindReads (r : Reader Kind) (t : List ℕ) (at : ℕ) (a : Scanned Numbers) : Type 0 where
  pub says : out_kind a ≡ turned noted (keeping r t at)
  pub told : ToldKind a

-- ── new ──

-- a new field whose kind keeps its rules
unfoldable pub kept_new : Reader New
kept_new = read_new >>= λ g. heed (kind_kept? g.kind) >> give g

-- with what is kept of its kind
abbrev pub noted_new : New → New
noted_new g = record { kind = noted g.kind; name = g.name }

abbrev pub out_new : Scanned NewLine → Out New
out_new (Some (l, c)) = got (record { kind = kind_from l.kind.first l.kind.bits l.kind.last; name = l.name }) c.at
out_new None = no 20 0

abbrev pub ToldNew : Scanned NewLine → Type 0
ToldNew (Some (l, c)) = l.kind.first ≤ 32
ToldNew None = Unit {0}

pub record NewReads (t : List ℕ) (at : ℕ) (r : Scanned NewLine) : Type 0 where
  pub says : out_new r ≡ turned noted_new (kept_new t at)
  pub told : ToldNew r

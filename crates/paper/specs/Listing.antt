-- "The listing": words, lines, and a ledger as text. Assumes nothing.
use Rattle.std.specs.Prelude.{true, false, List, [], ◌∷◌, ◌++◌, map, ℕ, zero, suc, ◌+◌, ◌*◌, ◌/◌, ◌%◌, ltb, ℤ, pos, negsuc, length, replicate}
use Rattle.std.proofs.Math.Option.{Option, none, some}
use Prim.Native.Char.{code}
use Prim.Native.String.{String, [] as no_text, ◌∷◌ as ◌∷ᵗ◌}
use Rattle.paper.specs.Reader.{when◌then◌else◌}
use Rattle.paper.specs.Lists.{flat}
use Rattle.paper.specs.Ledger.{
  Kind,
  constant,
  plain,
  array,
  many,
  mapping,
  Element,
  flag,
  whole,
  float,
  link,
  annotation,
  keys,
  New,
  Head,
  Entry,
  Chunk,
  Pair,
  Ledger,
  State,
  nothing,
}
use Rattle.paper.specs.Rules.{known_due, with_strings, after_entry, after_pair}

-- the bytes of a text of ASCII characters
unfoldable pub ascii : String → List ℕ
ascii no_text = []
ascii (c ∷ᵗ s) = code c ∷ ascii s

abbrev pub tab : ℕ
tab = 9

abbrev pub newline : ℕ
newline = 10

abbrev pub comma : ℕ
comma = 44

abbrev pub dash : ℕ
dash = 45

-- ── words ──

unfoldable pub glyph : ℕ → ℕ
glyph d = when ltb d 10 then 48 + d else 87 + d

-- n in decimal, from its last digit; k is more than the number of digits
unfoldable pub shown : ℕ → ℕ → List ℕ
shown zero n = []
shown (suc k) n = elim (ltb n 10) [ true ↦ glyph n ∷ [] | false ↦ shown k (n / 10) ++ (glyph (n % 10) ∷ []) ]

-- with no leading 0
unfoldable pub decimal : ℕ → List ℕ
decimal n = shown (n + 1) n

-- with no sign but a minus
unfoldable pub decimalℤ : ℤ → List ℕ
decimalℤ (pos n) = decimal n
decimalℤ (negsuc n) = dash ∷ decimal (n + 1)

-- the last k digits of n in lower-case hex
unfoldable pub hex_digits : ℕ → ℕ → List ℕ
hex_digits zero n = []
hex_digits (suc k) n = hex_digits k (n / 16) ++ (glyph (n % 16) ∷ [])

unfoldable pub hex : List ℕ → List ℕ
hex = flat (hex_digits 2)

-- numbers joined by commas
unfoldable pub joined : List (List ℕ) → List ℕ
joined [] = []
joined (w ∷ []) = w
joined (w ∷ v ∷ ws) = w ++ comma ∷ joined (v ∷ ws)

-- ── lines ended by a newline, fields parted by one tab ──

unfoldable pub line : List (List ℕ) → List ℕ
line [] = newline ∷ []
line (w ∷ []) = w ++ newline ∷ []
line (w ∷ v ∷ ws) = w ++ tab ∷ line (v ∷ ws)

-- `pair`, number of strings, number of entries
unfoldable pub pair_line : ℕ → ℕ → List ℕ
pair_line strings entries = line (ascii "pair" ∷ decimal strings ∷ decimal entries ∷ [])

-- `str`, the bytes in lower-case hex
unfoldable pub string_line : List ℕ → List ℕ
string_line s = line (ascii "str" ∷ hex s ∷ [])

unfoldable pub or_dash : Option ℕ → List ℕ
or_dash none = dash ∷ []
or_dash (some n) = decimal n

-- `type`, name, super, local start, count, number of fields
unfoldable pub type_line : Head → ℕ → List ℕ
type_line h n = line (ascii "type" ∷ decimal h.name ∷ or_dash h.super ∷ or_dash h.start ∷ decimal h.count ∷ decimal n ∷ [])

-- `old`
unfoldable pub old_line : List ℕ
old_line = line (ascii "old" ∷ [])

unfoldable pub kind_word : Kind → List ℕ
kind_word (constant k v) = joined (decimal k ∷ decimalℤ v ∷ [])
kind_word (plain k) = decimal k
kind_word (array n k) = joined (decimal 15 ∷ decimal n ∷ decimal k ∷ [])
kind_word (many c k) = joined (decimal c ∷ decimal k ∷ [])
kind_word (mapping ks) = joined (decimal 20 ∷ decimal (length ks) ∷ map decimal ks)

-- `new`, kind, name
unfoldable pub new_line : New → List ℕ
new_line g = line (ascii "new" ∷ kind_word g.kind ∷ decimal g.name ∷ [])

-- an annotation is two fields
unfoldable pub element_word : Element → List ℕ
element_word (flag true) = decimal 1
element_word (flag false) = decimal 0
element_word (whole v) = decimalℤ v
element_word (float w n) = hex_digits (2 * w) n
element_word (link n) = decimal n
element_word (annotation name n) = decimal name ++ tab ∷ decimal n
element_word (keys n) = decimal n

-- `val`, the value's elements, the word alone if it has none; a map's sizes stand before their keys
unfoldable pub value_line : List Element → List ℕ
value_line es = line (ascii "val" ∷ map element_word es)

-- ── the ledger: pair, strings, each entry with its fields, then values chunk by chunk ──

-- `known` lines for known fields
unfoldable pub print_entry : ℕ → Entry → List ℕ
print_entry known e =
    type_line e.head (known + length e.news) ++ flat (λ (u : Unit {0}). old_line) (replicate known tt) ++ flat new_line e.news

unfoldable pub print_entries : State → List Entry → List ℕ
print_entries s [] = []
print_entries s (e ∷ es) = print_entry (length (known_due s e.head)) e ++ print_entries (after_entry s e) es

unfoldable pub print_chunk : Chunk → List ℕ
print_chunk = flat value_line

unfoldable pub print_pair : State → Pair → List ℕ
print_pair s p =
    pair_line (length p.strings) (length p.entries) ++ flat string_line p.strings ++ print_entries (with_strings s p.strings) p.entries ++ flat print_chunk p.chunks

unfoldable pub print_pairs : State → Ledger → List ℕ
print_pairs s [] = []
print_pairs s (p ∷ ps) = print_pair s p ++ print_pairs (after_pair s p) ps

unfoldable pub print : Ledger → List ℕ
print = print_pairs nothing

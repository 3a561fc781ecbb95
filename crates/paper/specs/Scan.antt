-- A ledger from its listing: the text is read by the same kind of reader, and each rule is tested at its line. Whatever is
-- wrong is refused by 20, which has no place. Assumes nothing.
use Rattle.std.specs.Prelude.{Bool, true, false, ◌&&◌, List, [], ◌∷◌, map, ℕ, zero, suc, ◌+◌, ◌-◌, ◌*◌, ◌^◌, leb, ltb, eqb, ℤ, pos, negsuc, length, get_or, drop}
use Rattle.std.proofs.Math.Option.{Option, none, some}
use Rattle.paper.specs.Reader.{when◌then◌else◌, Reader, Out, got, no, and_then, ◌>>=◌, ◌>>◌, give, each, times, repeat, to_end}
use Rattle.paper.specs.Bounds.{most_bytes, most_pairs, most_objects}
use Rattle.paper.specs.Ledger.{
  Kind,
  constant,
  plain,
  array,
  many,
  mapping,
  Element,
  flag,
  whole,
  float,
  link,
  annotation,
  keys,
  New,
  Head,
  Entry,
  Chunk,
  Pair,
  Ledger,
  Due,
  State,
  nothing,
  field_at,
}
use Rattle.paper.specs.Rules.{small_rules, strings_rules, with_strings, type_of, after_head, known_due, field_count_rules, after_new, after_entry, dues, kinds_stand?, after_front, after_pair}
use Rattle.paper.specs.Maps.{map_of}
use Rattle.paper.specs.Listing.{ascii, tab, newline, comma, dash, old_line}
use Rattle.paper.specs.Encode.{encode}
use Rattle.paper.specs.Keeps.{number?, head?, new-field?, value?}

unfoldable pub bad : {A : Type 0} → Reader A
bad t at = no 20 0

-- a rule of the ledger
unfoldable pub heed : Bool → Reader (Unit {0})
heed b t at = when b then got tt at else no 20 0

-- ── words ──

-- the byte b; past the end there is none
unfoldable pub byte_is : ℕ → Reader (Unit {0})
byte_is b t at = when eqb (get_or t at 256) b then got tt (at + 1) else no 20 0

-- these bytes
unfoldable pub literal : List ℕ → Reader (Unit {0})
literal [] = give tt
literal (b ∷ bs) = byte_is b >> literal bs

-- a word, and the byte that ends it
unfoldable pub ended : {A : Type 0} → ℕ → Reader A → Reader A
ended c r = do
  a ← r
  byte_is c
  give a

unfoldable pub digit? : ℕ → Bool
digit? b = leb 48 b && leb b 57

-- one digit more would not fit 64 bits
unfoldable pub too_large? : ℕ → ℕ → Bool
too_large? v d = leb (2 ^ 64) (10 * v + d)

-- the digits go on: the number so far, and the place
unfoldable pub digits_on : ℕ → ℕ → List ℕ → Out ℕ
digits_on v e [] = got v e
digits_on v e (b ∷ ts) = when digit? b then (when too_large? v (b - 48) then no 20 0 else digits_on (10 * v + (b - 48)) (e + 1) ts) else got v e

-- behind a first 0 no digit belongs to the number
unfoldable pub decimal_in : ℕ → List ℕ → Out ℕ
decimal_in at [] = no 20 0
decimal_in at (b ∷ ts) = when eqb b 48 then got 0 (at + 1) else when digit? b then digits_on (b - 48) (at + 1) ts else no 20 0

-- a decimal below 2 ^ 64
unfoldable pub natural : Reader ℕ
natural t at = decimal_in at (drop at t)

unfoldable pub negative : Out ℕ → Out ℤ
negative (got n e) = when eqb n 0 then no 20 0 else when ltb (2 ^ 63) n then no 20 0 else got (negsuc (n - 1)) e
negative (no k p) = no 20 0

unfoldable pub positive : Out ℕ → Out ℤ
positive (got n e) = when leb (2 ^ 63) n then no 20 0 else got (pos n) e
positive (no k p) = no 20 0

-- a signed decimal of 64 bits
unfoldable pub integer : Reader ℤ
integer t at = when eqb (get_or t at 256) dash then negative (natural t (at + 1)) else positive (natural t at)

-- a decimal, or a dash for none
unfoldable pub or_none : Reader (Option ℕ)
or_none t at = when eqb (get_or t at 256) dash then got none (at + 1) else and_then (natural t at) λ n e. got (some n) e

-- a hex digit's value, 16 for any other byte
unfoldable pub nibble : ℕ → ℕ
nibble b = when ltb b 48 then 16 else when leb b 57 then b - 48 else when ltb b 97 then 16 else when leb b 102 then b - 87 else 16

-- k hex digits more, behind the number v
unfoldable pub hex_on : ℕ → ℕ → Reader ℕ
hex_on zero v t at = got v at
hex_on (suc k) v t at = when ltb (nibble (get_or t at 256)) 16 then hex_on k (16 * v + nibble (get_or t at 256)) t (at + 1) else no 20 0

-- pairs of hex digits, as long as there are any
unfoldable pub hex_pairs : ℕ → List ℕ → Out (List ℕ)
hex_pairs e [] = got [] e
hex_pairs e (a ∷ []) = got [] e
hex_pairs e (a ∷ b ∷ ts) =
    when eqb (nibble a) 16 then got [] e else when eqb (nibble b) 16 then got [] e else and_then (hex_pairs (e + 2) ts) λ ws d. got ((nibble a * 16 + nibble b) ∷ ws) d

unfoldable pub hex_bytes : Reader (List ℕ)
hex_bytes t at = hex_pairs at (drop at t)

-- ── lines ──

unfoldable pub read_pair : Reader (ℕ × ℕ)
read_pair = do
  literal (ascii "pair\t")
  strings ← ended tab natural
  entries ← ended newline natural
  give (strings, entries)

unfoldable pub read_string : Reader (List ℕ)
read_string = do
  literal (ascii "str\t")
  ended newline hex_bytes

-- an entry's head, and its number of fields
unfoldable pub read_type : Reader (Head × ℕ)
read_type = do
  literal (ascii "type\t")
  name ← ended tab natural
  super ← ended tab or_none
  start ← ended tab or_none
  count ← ended tab natural
  n ← ended newline natural
  give (record { name = name; super = super; start = start; count = count }, n)

unfoldable pub read_kind : Reader Kind
read_kind = do
  k ← natural
  when leb k 4 then (do
    byte_is comma
    v ← integer
    give (constant k v)) else
      when eqb k 15 then (do
        byte_is comma
        n ← ended comma natural
        e ← natural
        give (array n e)) else
      when leb 17 k && leb k 19 then (do
        byte_is comma
        e ← natural
        give (many k e)) else
      when eqb k 20 then (do
        byte_is comma
        n ← natural
        ks ← repeat n (byte_is comma >> natural)
        give (mapping ks)) else
      give (plain k)

unfoldable pub read_new : Reader New
read_new = do
  literal (ascii "new\t")
  k ← ended tab read_kind
  n ← ended newline natural
  give (record { kind = k; name = n })

unfoldable pub read_flag : Reader Element
read_flag t at = when eqb (get_or t at 256) 48 then got (flag false) (at + 1) else when eqb (get_or t at 256) 49 then got (flag true) (at + 1) else no 20 0

unfoldable pub read_element : ℕ → Reader Element
read_element k =
    when eqb k 5 then (do
      name ← ended tab natural
      n ← natural
      give (annotation name n)) else
    when eqb k 6 then
    read_flag else
    when leb k 11 then (do
      v ← integer
      give (whole v)) else
    when leb k 13 then (do
      n ← hex_on (2 * (4 * (k - 11))) 0
      give (float (4 * (k - 11)) n)) else do
        n ← natural
        give (link n)

-- at most n elements, each behind a tab
unfoldable pub tabbed : {A : Type 0} → ℕ → Reader A → Reader (List A)
tabbed zero r t at = got [] at
tabbed (suc n) r t at = when eqb (get_or t at 256) tab then and_then (r t (at + 1)) (λ a e. and_then (tabbed n r t e) λ l d. got (a ∷ l) d) else got [] at

unfoldable pub read_value : ℕ → Reader (List Element)
read_value k = do
  literal (ascii "val")
  ended newline (tabbed most_objects (read_element k))

-- a map: its words, each behind a tab
unfoldable pub map_words : List ℕ → Reader (List Element)
map_words ks = map_of bad (byte_is tab >> natural) keys (map (λ k. byte_is tab >> read_element k) ks)

unfoldable pub read_map : List ℕ → Reader (List Element)
read_map ks = do
  literal (ascii "val")
  ended newline (map_words ks)

-- ── the ledger ──

unfoldable pub new_text : ℕ → State → Reader New
new_text t s = do
  g ← read_new
  heed (new-field? t s g)
  give g

unfoldable pub entry_text : State → Reader Entry
entry_text s = do
  h ← read_type
  heed (head? s h.0)
  heed (number? (field_count_rules (after_head s h.0) (length (known_due s h.0))) h.1)
  olds ← repeat (length (known_due s h.0)) (literal old_line)
  news ← times (h.1 - length (known_due s h.0)) (new_text (type_of s h.0.name)) (after_new (type_of s h.0.name)) (after_head s h.0)
  give (record { head = h.0; news = news })

-- the line of a value
unfoldable pub read_line : Kind → Reader (List Element)
read_line (constant k v) = read_value 0
read_line (plain k) = read_value k
read_line (array n k) = read_value k
read_line (many c k) = read_value k
read_line (mapping ks) = read_map ks

unfoldable pub value_text : State → Kind → Reader (List Element)
value_text s k = do
  v ← read_line k
  heed (value? s k v)
  give v

unfoldable pub chunk_text : State → Due → Reader Chunk
chunk_text s d = repeat d.values (value_text s (field_at s d.field).kind)

unfoldable pub pair_text : State → Reader Pair
pair_text s = do
  n ← read_pair
  heed (number? (strings_rules s) n.0)
  heed (number? small_rules n.1)
  strings ← repeat n.0 read_string
  entries ← times n.1 entry_text after_entry (with_strings s strings)
  heed (kinds_stand? (after_front s strings entries) entries)
  chunks ← each (λ (u : Unit {0}). chunk_text (after_front s strings entries)) (λ u c. u) (dues (with_strings s strings) entries) tt
  give (record { strings = strings; entries = entries; chunks = chunks })

unfoldable pub scan : List ℕ → Out Ledger
scan t = to_end most_pairs bad pair_text after_pair nothing t 0

-- ── the file with this listing ──

unfoldable pub short : Out Ledger → Option (List ℕ)
short (got l e) = when leb (length (encode l)) most_bytes then some (encode l) else none
short (no n p) = none

unfoldable pub file_of : List ℕ → Option (List ℕ)
file_of t = short (scan t)

-- The file, read in the paper's order: string block, entries, kinds, data region, pair, file. Assumes nothing.
use Rattle.std.specs.Prelude.{Bool, ◌&&◌, List, [], ◌∷◌, ◌++◌, map, ℕ, ◌-◌, ◌*◌, ◌^◌, leb, ltb, eqb, ℤ, length, take, drop}
use Rattle.paper.specs.Reader.{
  when◌then◌else◌,
  Reader,
  Out,
  got,
  no,
  ◌>>=◌,
  ◌>>◌,
  give,
  refuse,
  must,
  within,
  bytes,
  part,
  each,
  times,
  repeat,
  only,
  to_end,
}
use Rattle.paper.specs.Numbers.{signed, fixed, v64, number}
use Rattle.paper.specs.Bounds.{most_bytes, most_pairs}
use Rattle.paper.specs.Lists.{flat, last_or, given?, or}
use Rattle.paper.specs.Ledger.{
  Kind,
  constant,
  plain,
  array,
  many,
  mapping,
  Element,
  flag,
  whole,
  float,
  link,
  annotation,
  keys,
  New,
  Head,
  Entry,
  Chunk,
  Pair,
  Ledger,
  Due,
  State,
  nothing,
  field_at,
}
use Rattle.paper.specs.Maps.{map_of}
use Rattle.paper.specs.Rules.{
  small_rules,
  strings_rules,
  with_strings,
  new?,
  type_of,
  type_name_rules,
  super_name_rules,
  super_of,
  count_rules,
  restriction_rules,
  after_head,
  known_due,
  field_count_rules,
  field_name_rules,
  after_new,
  after_entry,
  end_rules,
  dues,
  kind_rules,
  element_kind_rules,
  types_rules,
  any_type,
  a_type?,
  kinds_stand?,
  bool_rules,
  link_rules,
  annotation_rules,
  after_front,
  after_pair,
}

unfoldable pub small : Reader ℕ
small = number small_rules

-- ── "File, pair, string block" ──

-- not falling, from the start of the string bytes
unfoldable pub string_end : ℕ → Reader ℕ
string_end before = must (fixed 4) (end_rules before)

-- the strings, by their ends
unfoldable pub cut : ℕ → List ℕ → List ℕ → List (List ℕ)
cut from [] bs = []
cut from (e ∷ es) bs = take (e - from) bs ∷ cut e es (drop (e - from) bs)

unfoldable pub string_block : State → Reader (List (List ℕ))
string_block s = do
  n ← number (strings_rules s)
  ends ← times n string_end (λ before e. e) 0
  bs ← bytes (last_or 0 ends)
  give (cut 0 ends bs)

-- ── "Type block": an entry holds, in order ──

unfoldable pub restrictions : Reader ℕ
restrictions = number restriction_rules

-- 1. name; 2. super type's name; 3. local start; 4. count; 5. number of restrictions
unfoldable pub head : State → Reader Head
head s = do
  name ← number (type_name_rules s)
  super ← only (new? s name) (number (super_name_rules s (type_of s name)))
  start ← only (given? (super_of s name super)) small
  n ← number (count_rules s (super_of s name super) (or start 0))
  none? ← only (new? s name) restrictions
  give (record { name = name; super = super; start = start; count = n })

-- a whole number of kind k, counted from i8: i8, i16, i32, i64, v64
unfoldable pub whole_of : ℕ → Reader ℤ
whole_of k =
    when ltb k 4 then (do
      n ← fixed (2 ^ k)
      give (signed (2 ^ k) n)) else do
        n ← v64
        give (signed 8 n)

-- "Kinds"; `named` says which numbers from 32 upwards name a type
unfoldable pub kind : (ℕ → Bool) → Reader Kind
kind named = do
  k ← number (kind_rules named)
  when leb k 4 then (do
    v ← whole_of k
    give (constant k v)) else
      when eqb k 15 then (do
        n ← small
        e ← number (element_kind_rules named)
        give (array n e)) else
      when leb 17 k && leb k 19 then (do
        e ← number (element_kind_rules named)
        give (many k e)) else
      when eqb k 20 then (do
        n ← number types_rules
        ks ← repeat n (number (element_kind_rules named))
        give (mapping ks)) else
      give (plain k)

-- while the entries of a block are read: what is known, and the last end offset
pub record Upto : Type 0 where
  pub state : State
  pub end : ℕ

unfoldable pub end_offset : ℕ → Reader ℕ
end_offset before = number (end_rules before)

-- a new field and its end offset
unfoldable pub new_field : (ℕ → Bool) → ℕ → Upto → Reader (New × ℕ)
new_field named t u = do
  none? ← restrictions
  k ← kind named
  n ← number (field_name_rules t u.state)
  e ← end_offset u.end
  give (record { kind = k; name = n }, e)

unfoldable pub upto_new : ℕ → Upto → New × ℕ → Upto
upto_new t u g = record { state = after_new t u.state g.0; end = g.1 }

abbrev pub what : {A B : Type 0} → A × B → A
what p = p.0

abbrev pub ends : {A B : Type 0} → A × B → B
ends p = p.1

-- 6. number of fields, and the fields: `known` of them as end offsets alone, and then new ones
unfoldable pub fields : (ℕ → Bool) → ℕ → ℕ → Upto → Reader (List New × List ℕ)
fields named t known u = do
  n ← number (field_count_rules u.state known)
  olds ← times known end_offset (λ before e. e) u.end
  news ← times (n - known) (new_field named t) (upto_new t) (record { state = u.state; end = last_or u.end olds })
  give (map what news, olds ++ map ends news)

-- an entry and its end offsets
unfoldable pub entry : (ℕ → Bool) → Upto → Reader (Entry × List ℕ)
entry named u = do
  h ← head u.state
  fs ← fields named (type_of u.state h.name) (length (known_due u.state h)) (record { state = after_head u.state h; end = u.end })
  give (record { head = h; news = fs.0 }, fs.1)

unfoldable pub upto_entry : Upto → Entry × List ℕ → Upto
upto_entry u e = record { state = after_entry u.state e.0; end = last_or u.end e.1 }

-- what stands in a pair before the data region: strings, entries, and the end offsets of the chunks
pub record Front : Type 0 where
  pub strings : List (List ℕ)
  pub entries : List Entry
  pub ends : List ℕ

unfoldable pub front : (ℕ → Bool) → State → Reader Front
front named s = do
  strings ← string_block s
  n ← small
  es ← times n (entry named) upto_entry (record { state = with_strings s strings; end = 0 })
  give (record { strings = strings; entries = map what es; ends = flat ends es })

-- ── values ──

-- two numbers
unfoldable pub two_numbers : Reader (ℕ × ℕ)
two_numbers = do
  m ← v64
  n ← v64
  give (m, n)

unfoldable pub element : State → ℕ → Reader Element
element s k =
    when eqb k 5 then (do
      p ← must two_numbers (annotation_rules s)
      give (annotation p.0 p.1)) else
    when eqb k 6 then (do
      b ← must (fixed 1) bool_rules
      give (flag (eqb b 255))) else
    when leb k 11 then (do
      v ← whole_of (k - 7)
      give (whole v)) else
    when leb k 13 then (do
      n ← fixed (4 * (k - 11))
      give (float (4 * (k - 11)) n)) else do
        n ← number (link_rules s k)
        give (link n)

unfoldable pub value : State → Kind → Reader (List Element)
value s (constant k v) = give []
value s (plain k) = repeat 1 (element s k)
value s (array l k) = repeat l (element s k)
value s (many c k) = do
  n ← small
  repeat n (element s k)
value s (mapping ks) = map_of (refuse 10) small keys (map (element s) ks)

-- a chunk of so many bytes: its values fill it exactly
unfoldable pub chunk : State → Due × ℕ → Reader Chunk
chunk s d = part d.1 (repeat d.0.values (value s (field_at s d.0.field).kind))

-- the chunks that are due, each with its size: it runs from the end before it to its own
unfoldable pub sized : ℕ → List Due → List ℕ → List (Due × ℕ)
sized from [] es = []
sized from (d ∷ ds) [] = []
sized from (d ∷ ds) (e ∷ es) = (d, e - from) ∷ sized e ds es

-- the last end closes the region, which is empty if the block gives no end
unfoldable pub data_region : State → List Due → List ℕ → Reader (List Chunk)
data_region s ds es = part (last_or 0 es) (each (λ (u : Unit {0}). chunk s) (λ u c. u) (sized 0 ds es) tt)

-- ── pair and file ──

-- the refusal of a front that is read again
abbrev pub refusal_of : Out Front → Out (Unit {0})
refusal_of (got d e) = no 10 e
refusal_of (no n p) = no n p

-- kinds from 32 upwards, now that all types of the block are known: where one names no type, the front is read again from
-- the pair's start and refused at that kind's number
unfoldable pub kinds_named : State → ℕ → Front → Reader (Unit {0})
kinds_named s start d f at =
    let s₂ = after_front s d.strings d.entries in
    when kinds_stand? s₂ d.entries then got tt at else refusal_of (front (a_type? s₂) s f start)

-- string block; entries; data region within the file; kinds from 32 upwards; values
unfoldable pub pair_from : State → ℕ → Reader Pair
pair_from s start = do
  d ← front any_type s
  chunks ← within (last_or 0 d.ends) do
    kinds_named s start d
    data_region (after_front s d.strings d.entries) (dues (with_strings s d.strings) d.entries) d.ends
  give (record { strings = d.strings; entries = d.entries; chunks = chunks })

unfoldable pub pair : State → Reader Pair
pair s f at = pair_from s at f at

-- at most n pairs, up to the end of the file
unfoldable pub pairs : ℕ → State → Reader Ledger
pairs n s = to_end n (refuse 3) pair after_pair s

unfoldable pub file : List ℕ → Out Ledger
file f = when leb (length f) most_bytes then pairs most_pairs nothing f 0 else no 3 0

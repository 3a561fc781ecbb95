-- The rules, each with its refusal, and how what is known goes on: no bytes are read here. Assumes nothing.
use Rattle.std.specs.Prelude.{Bool, true, false, ◌&&◌, ◌||◌, not, List, [], ◌∷◌, ◌++◌, map, ℕ, zero, suc, ◌+◌, ◌-◌, min, leb, ltb, eqb, length}
use Rattle.std.proofs.Math.Option.{Option, none, some}
use Rattle.paper.specs.Reader.{when◌then◌else◌, Rule, ◌or_no◌}
use Rattle.paper.specs.Bounds.{most_strings, most_types, most_fields, most_objects}
use Rattle.paper.specs.Lists.{any, all, fold, given?, or}
use Rattle.paper.specs.Ledger.{Kind, constant, plain, array, many, mapping, New, Head, Entry, Pair, Typ, Range, Due, State, text, a_string?, type_named, type_in, field_at, fields_of, field_named, of?, here?, objects_of, pool_before, objects_in_all, object?}

-- a count, local start or length that is held to the bound of objects
unfoldable pub small_rules : ℕ → List Rule
small_rules n = (leb n most_objects or_no 3) ∷ []

-- ── "File, pair, string block" ──

unfoldable pub strings_rules : State → ℕ → List Rule
strings_rules s n = (leb (length s.strings + n) most_strings or_no 3) ∷ []

unfoldable pub with_strings : State → List (List ℕ) → State
with_strings s strings =
    record {
      strings = s.strings ++ strings;
      type_names = s.type_names;
      types = s.types;
      field_names = s.field_names;
      fields = s.fields;
      log = s.log;
      block = s.block;
    }

-- ── "Type block": 1. name ──

-- a type is new if no earlier entry has its name
unfoldable pub new? : State → ℕ → Bool
new? s name = not (given? (type_named s (text s name)))

-- the entry's type, by its place; a new one comes last
unfoldable pub type_of : State → ℕ → ℕ
type_of s name = or (type_named s (text s name)) (length s.type_names)

-- a range that block b adds to type t
unfoldable pub entry_of? : ℕ → ℕ → Range → Bool
entry_of? b t r = here? b r && of? t r

-- the type has an entry in this block
unfoldable pub entered? : State → ℕ → Bool
entered? s t = any (entry_of? s.block t) s.log

-- a new type finds room; a known one has at most one entry in a block
unfoldable pub place_rules : State → Option ℕ → List Rule
place_rules s none = (ltb (length s.type_names) most_types or_no 3) ∷ []
place_rules s (some t) = (not (entered? s t) or_no 6) ∷ []

unfoldable pub type_name_rules : State → ℕ → List Rule
type_name_rules s n = (a_string? s n or_no 5) ∷ place_rules s (type_named s (text s n))

-- ── 2. super type's name, only if new ──

-- the type that a super type's string number names; 0 names none
unfoldable pub super_named : State → ℕ → Option ℕ
super_named s n = when eqb n 0 then none else type_named s (text s n)

-- the chain of super types from a type upwards ends within n steps, and does not meet t
unfoldable pub chain_ends? : ℕ → List Typ → ℕ → Option ℕ → Bool
chain_ends? zero ts t up = not (given? up)
chain_ends? (suc n) ts t none = true
chain_ends? (suc n) ts t (some u) = not (eqb u t) && chain_ends? n ts t (type_in ts u).super

-- of the new type t: it must name a type from an earlier entry, and the chain of super types does not return to itself
unfoldable pub super_name_rules : State → ℕ → ℕ → List Rule
super_name_rules s t n =
    (leb n (length s.strings) or_no 5) ∷ (eqb n 0 || given? (super_named s n) or_no 7) ∷ (chain_ends? (length s.types) s.types t (super_named s n) or_no 8) ∷ []

-- the super type of an entry's type: a known type has it already
unfoldable pub super_of : State → ℕ → Option ℕ → Option ℕ
super_of s name none = (type_in s.types (type_of s name)).super
super_of s name (some n) = super_named s n

-- ── 3. and 4. local start and count ──

-- a range of type u and block b, around n objects from `start`
unfoldable pub around? : ℕ → ℕ → ℕ → ℕ → Range → Bool
around? b u start n r = entry_of? b u r && (leb r.start start && leb (start + n) (r.start + r.count))

-- type t is right below u
unfoldable pub below? : List Typ → ℕ → ℕ → Bool
below? ts t u = elim (type_in ts t).super [ none ↦ false | some v ↦ eqb v u ]

-- a range that is of another block, or of no type right below u, or ends at or before `start`
unfoldable pub clear? : ℕ → List Typ → ℕ → ℕ → Range → Bool
clear? b ts u start r = not (here? b r && below? ts r.type u) || leb (r.start + r.count) start

-- the range of a type below u lies within u's of the same block, at or after the end of every earlier sibling's; with
-- count 0 the start is 0 and no other range rule applies
unfoldable pub in_range? : State → Option ℕ → ℕ → ℕ → Bool
in_range? s none start n = true
in_range? s (some u) start n =
    when eqb n 0 then
    eqb start 0 else
    (any (around? s.block u start n) s.log && all (clear? s.block s.types u start) s.log)

-- the bound of objects, which only base types' counts add up to
unfoldable pub few_objects? : State → Option ℕ → ℕ → Bool
few_objects? s super n = leb n most_objects && (given? super || leb (objects_in_all s + n) most_objects)

unfoldable pub count_rules : State → Option ℕ → ℕ → ℕ → List Rule
count_rules s super start n = (few_objects? s super n or_no 3) ∷ (in_range? s super start n or_no 21) ∷ []

-- ── 5. number of restrictions ──

unfoldable pub restriction_rules : ℕ → List Rule
restriction_rules n = (eqb n 0 or_no 9) ∷ []

-- ── what an entry's head makes known ──

-- the base type of type t's pool, where t's super type is given
unfoldable pub base_under : List Typ → ℕ → Option ℕ → ℕ
base_under ts t none = t
base_under ts t (some u) = (type_in ts u).base

unfoldable pub base_of : State → Head → ℕ
base_of s h = base_under s.types (type_of s h.name) (super_of s h.name h.super)

unfoldable pub new_name : State → Head → List (List ℕ)
new_name s h = when new? s h.name then text s h.name ∷ [] else []

-- the type that the entry declares, if it is new
unfoldable pub new_type : State → Head → List Typ
new_type s h = when new? s h.name then record { super = super_of s h.name h.super; base = base_of s h } ∷ [] else []

-- objects of a base pool are numbered block after block
unfoldable pub new_range : State → Head → Range
new_range s h =
    record {
      type = type_of s h.name;
      block = s.block;
      start = or h.start 0;
      first = pool_before s (base_of s h) + or h.start 0;
      count = h.count;
    }

unfoldable pub after_head : State → Head → State
after_head s h =
    record {
      strings = s.strings;
      type_names = s.type_names ++ new_name s h;
      types = s.types ++ new_type s h;
      field_names = s.field_names;
      fields = s.fields;
      log = s.log ++ new_range s h ∷ [];
      block = s.block;
    }

-- ── 6. number of fields ──

-- the known fields that an entry gives, by their places: with count 0 all fields are new
unfoldable pub known_due : State → Head → List ℕ
known_due s h = when eqb h.count 0 then [] else fields_of s (type_of s h.name)

unfoldable pub field_count_rules : State → ℕ → ℕ → List Rule
field_count_rules s known n = (leb (length s.fields + (n - known)) most_fields or_no 3) ∷ (leb known n or_no 11) ∷ []

-- ── a new field ──

-- its name differs from the type's other field names
unfoldable pub field_name_rules : ℕ → State → ℕ → List Rule
field_name_rules t s n = (a_string? s n or_no 5) ∷ (not (given? (field_named s t (text s n))) or_no 6) ∷ []

-- what is kept of a kind: of a map's element kinds one byte each, since none from 255 upwards names a type
unfoldable pub noted : Kind → Kind
noted (constant k v) = constant k v
noted (plain k) = plain k
noted (array n k) = array n k
noted (many c k) = many c k
noted (mapping ks) = mapping (map (min 255) ks)

unfoldable pub after_new : ℕ → State → New → State
after_new t s g =
    record {
      strings = s.strings;
      type_names = s.type_names;
      types = s.types;
      field_names = s.field_names ++ text s g.name ∷ [];
      fields = s.fields ++ record { owner = t; kind = noted g.kind } ∷ [];
      log = s.log;
      block = s.block;
    }

unfoldable pub after_entry : State → Entry → State
after_entry s e = fold (after_new (type_of s e.head.name)) (after_head s e.head) e.news

-- end offsets do not fall over all fields of the block
unfoldable pub end_rules : ℕ → ℕ → List Rule
end_rules before e = (leb before e or_no 4) ∷ []

-- ── the chunks that are due ──

-- a constant's chunk is empty
unfoldable pub values_due : Kind → ℕ → ℕ
values_due (constant k v) n = 0
values_due (plain k) n = n
values_due (array l k) n = n
values_due (many c k) n = n
values_due (mapping ks) n = n

-- a known field has one value for each object added in this block
unfoldable pub old_due : State → ℕ → ℕ → Due
old_due s added i = record { field = i; values = values_due (field_at s i).kind added }

-- new fields, from the i-th on, have one for each of the n objects of the type so far, this block included
unfoldable pub new_dues : ℕ → ℕ → List New → List Due
new_dues i n [] = []
new_dues i n (g ∷ gs) = record { field = i; values = values_due g.kind n } ∷ new_dues (suc i) n gs

unfoldable pub entry_dues : State → Entry → List Due
entry_dues s e =
    map (old_due s e.head.count) (known_due s e.head) ++ new_dues (length s.fields) (objects_of (after_head s e.head) (type_of s e.head.name)) e.news

unfoldable pub dues : State → List Entry → List Due
dues s [] = []
dues s (e ∷ es) = entry_dues s e ++ dues (after_entry s e) es

-- ── "Kinds" ──

-- an element of one number
unfoldable pub single_kind? : ℕ → Bool
single_kind? k = leb 6 k && leb k 14 || leb 32 k

-- an annotation has two
unfoldable pub element_kind? : ℕ → Bool
element_kind? k = eqb k 5 || single_kind? k

-- 16 and 21 to 31 are not listed
unfoldable pub kind? : ℕ → Bool
kind? k = leb k 4 || element_kind? k || eqb k 15 || leb 17 k && leb k 19 || eqb k 20

-- a map's number of types
unfoldable pub types_rules : ℕ → List Rule
types_rules n = (leb 2 n && leb n 8 or_no 10) ∷ []

-- a kind from 32 upwards names a type, and `named` says which of them do
unfoldable pub kind_rules : (ℕ → Bool) → ℕ → List Rule
kind_rules named k = (kind? k or_no 10) ∷ (named k or_no 10) ∷ []

unfoldable pub element_kind_rules : (ℕ → Bool) → ℕ → List Rule
element_kind_rules named k = (element_kind? k or_no 10) ∷ (named k or_no 10) ∷ []

-- while the entries are read, any type may still be declared
abbrev pub any_type : ℕ → Bool
any_type k = true

-- 32 + n is the type declared n-th from 0
unfoldable pub a_type? : State → ℕ → Bool
a_type? s k = ltb k 32 || ltb (k - 32) (length s.type_names)

unfoldable pub kind_stands? : State → Kind → Bool
kind_stands? s (constant k v) = true
kind_stands? s (plain k) = a_type? s k
kind_stands? s (array l k) = a_type? s k
kind_stands? s (many c k) = a_type? s k
kind_stands? s (mapping ks) = all (a_type? s) ks

-- the types that new fields refer to are declared by the end of this block
unfoldable pub kinds_stand? : State → List Entry → Bool
kinds_stand? s es = all (λ (e : Entry). all (λ (g : New). kind_stands? s g.kind) e.news) es

-- ── values ──

-- bool: 00 or FF
unfoldable pub bool_rules : ℕ → List Rule
bool_rules b = (eqb b 0 || eqb b 255 or_no 13) ∷ []

-- a string's number, or an object's of the type of a kind from 32 upwards, or 0
unfoldable pub link? : State → ℕ → ℕ → Bool
link? s k n = when eqb k 14 then leb n (length s.strings) else (eqb n 0 || object? s (k - 32) n)

unfoldable pub link_rules : State → ℕ → ℕ → List Rule
link_rules s k n = (link? s k n or_no 14) ∷ []

-- object n of a base type's pool
unfoldable pub base_object? : State → Option ℕ → ℕ → Bool
base_object? s none n = false
base_object? s (some t) n = not (given? (type_in s.types t).super) && object? s t n

-- an annotation: the number of a base type's name and of an object in its pool, or 0 and 0
unfoldable pub annotation? : State → ℕ → ℕ → Bool
annotation? s name n = when eqb name 0 then eqb n 0 else (a_string? s name && base_object? s (type_named s (text s name)) n)

unfoldable pub annotation_rules : State → ℕ × ℕ → List Rule
annotation_rules s p = (annotation? s p.0 p.1 or_no 14) ∷ []

-- ── the pair ──

unfoldable pub closed : State → State
closed s =
    record {
      strings = s.strings;
      type_names = s.type_names;
      types = s.types;
      field_names = s.field_names;
      fields = s.fields;
      log = s.log;
      block = s.block + 1;
    }

unfoldable pub after_front : State → List (List ℕ) → List Entry → State
after_front s strings entries = fold after_entry (with_strings s strings) entries

unfoldable pub after_pair : State → Pair → State
after_pair s p = closed (after_front s p.strings p.entries)

-- An entry's head, as the code reads it. Assumes nothing.
use Rattle.std.specs.Prelude as prelude
use Rattle.std.specs.Prelude.{Ok, Err, Some, None, ℕ, ◌+◌, ◌≤◌, ◌<◌, List, [], ◌∷◌, ◌≡◌, Bool, true, false, not, length}
use Rattle.std.proofs.Math.Option.{Option, none, some}
use Rattle.paper.specs.Reader.{Reader, Out, got, no, only, turned, hold, Rule, ◌or_no◌}
use Rattle.paper.specs.Numbers.{number}
use Rattle.paper.specs.Lists.{given?, or, total, any}
use Rattle.paper.specs.Ledger.{State, Head, Typ, Range, before?, size, type_named, text}
use Rattle.paper.specs.Rules.{entry_of?, entered?, new?, type_of, place_rules, type_name_rules, super_named, chain_ends?, super_name_rules, super_of, count_rules, after_head}
use Rattle.paper.specs.File.{head}
use Rattle.numbers.specs.Cursors.{out_of, place_of, value_of, Outcome}
use Rattle.table.specs.View.{view, said, maybe, log_of, Holds, Said, Now, strings_in, types_in, ranges_in, block_in}
use Rattle.table.specs.Adds.{add_type}
use Rattle.table.specs.Asks.{found}
use Rattle.reader.specs.Sound.{Open}
use Rattle.reader.specs.Ruled.{Judged}
use Rattle.reader.specs.declared.heads.Name.{Name}
use Rattle.reader.specs.declared.heads.Top.{Top}
use Rattle.numbers.specs.Faults.{number_of}
use Rattle.reader.specs.declared.heads.Super.{Super}

-- a number that stands only if it is due
abbrev pub due : Bool → ℕ → Option ℕ
due true n = some n
due false n = none

-- ── a type by its name ──

abbrev pub FoundBelow : ℕ → prelude.Option ℕ → Type 0
FoundBelow m (Some t) = t < m
FoundBelow m None = Unit {0}

-- string n names the type r
pub record Known (f l : List ℕ) (n : ℕ) (r : prelude.Option ℕ) : Type 0 where
  pub is : type_named (view f l) (text (view f l) n) ≡ found r
  pub below : FoundBelow (types_in l) r

-- ── an entry's type ──

pub record Resolved (s : State) (x : Name) : Type 0 where
  pub low : 0 < x.number
  pub high : x.number ≤ length s.strings
  pub fresh : x.fresh ≡ new? s x.number
  pub typ : x.typ ≡ type_of s x.number
  pub few : x.typ < 32
  pub room : x.fresh ≡ true → length s.type_names < 32
  pub first : x.fresh ≡ false → entered? s x.typ ≡ false

abbrev pub out_name : Outcome Name → Out ℕ
out_name (Ok (x, c)) = got x.number c.at
out_name (Err e) = no (number_of e.fault) e.place

abbrev pub name_place : Outcome Name → ℕ
name_place (Ok (x, c)) = c.at
name_place (Err e) = e.place

abbrev pub ToldName : State → Outcome Name → Type 0
ToldName s (Ok (x, c)) = Resolved s x
ToldName s (Err e) = Unit {0}

-- what the rules make of the number n that began at `at` and has `next` behind it
pub record NameJudged (s : State) (n at next : ℕ) (r : Outcome Name) : Type 0 where
  pub says : out_name r ≡ hold (type_name_rules s n) at (got n next)
  pub inside : (m : ℕ) → at ≤ m → next ≤ m → name_place r ≤ m
  pub told : ToldName s r

pub record NameRead (s : State) (f : List ℕ) (at : ℕ) (r : Outcome Name) : Type 0 where
  pub says : out_name r ≡ number (type_name_rules s) f at
  pub inside : at ≤ length f → name_place r ≤ length f
  pub told : ToldName s r

-- string n, whose name the types have at o, passed the rules of its place
pub record Place (l : List ℕ) (n : ℕ) (o : Option ℕ) (x : Name) : Type 0 where
  pub number : x.number ≡ n
  pub fresh : x.fresh ≡ not (given? o)
  pub typ : x.typ ≡ or o (types_in l)
  pub few : x.typ < 32
  pub room : x.fresh ≡ true → types_in l < 32
  pub first : x.fresh ≡ false → any (entry_of? (block_in l) x.typ) (log_of l) ≡ false

abbrev pub ToldPlace : List ℕ → ℕ → Option ℕ → Outcome Name → Type 0
ToldPlace l n o (Ok (x, c)) = Place l n o x
ToldPlace l n o (Err e) = Unit {0}

pub record NamePlaced (l : List ℕ) (n : ℕ) (o : Option ℕ) (at next : ℕ) (r : Outcome Name) : Type 0 where
  pub says : (f : List ℕ) → Holds f l → out_name r ≡ hold (place_rules (view f l) o) at (got n next)
  pub inside : (m : ℕ) → at ≤ m → next ≤ m → name_place r ≤ m
  pub told : ToldPlace l n o r

-- ── a super type ──

abbrev pub out_above : Bool → Outcome Super → Out (Option ℕ)
out_above b (Ok (y, c)) = got (due b y.number) c.at
out_above b (Err e) = no (number_of e.fault) e.place

abbrev pub above_place : Outcome Super → ℕ
above_place (Ok (y, c)) = c.at
above_place (Err e) = e.place

-- the rules of a super type that is named by string n, which the types' names have at o
abbrev pub known_rules : List Typ → ℕ → Option ℕ → List Rule
known_rules ts t o = (given? o or_no 7) ∷ (chain_ends? (length ts) ts t o or_no 8) ∷ []

abbrev pub ToldUp : ℕ → Option ℕ → Outcome Super → Type 0
ToldUp n o (Ok (y, c)) = (y.number ≡ n) × (maybe y.up ≡ o)
ToldUp n o (Err e) = Unit {0}

pub record SuperPlaced (ts : List Typ) (t n : ℕ) (o : Option ℕ) (at next : ℕ) (r : Outcome Super) : Type 0 where
  pub says : out_above true r ≡ turned (due true) (hold (known_rules ts t o) at (got n next))
  pub inside : (m : ℕ) → at ≤ m → next ≤ m → above_place r ≤ m
  pub told : ToldUp n o r

-- of the new type t
abbrev pub ToldSuper : State → Outcome Super → Type 0
ToldSuper s (Ok (y, c)) = maybe y.up ≡ super_named s y.number
ToldSuper s (Err e) = Unit {0}

pub record SuperJudged (s : State) (t n at next : ℕ) (r : Outcome Super) : Type 0 where
  pub says : out_above true r ≡ turned (due true) (hold (super_name_rules s t n) at (got n next))
  pub inside : (m : ℕ) → at ≤ m → next ≤ m → above_place r ≤ m
  pub told : ToldSuper s r

pub record SuperRead (s : State) (t : ℕ) (f : List ℕ) (at : ℕ) (r : Outcome Super) : Type 0 where
  pub says : out_above true r ≡ only true (number (super_name_rules s t)) f at
  pub inside : at ≤ length f → above_place r ≤ length f
  pub told : ToldSuper s r

-- of an entry's type, which may be known
abbrev pub ToldAbove : State → Name → Outcome Super → Type 0
ToldAbove s x (Ok (y, c)) = maybe y.up ≡ super_of s x.number (due x.fresh y.number)
ToldAbove s x (Err e) = Unit {0}

pub record AboveRead (s : State) (x : Name) (f : List ℕ) (at : ℕ) (r : Outcome Super) : Type 0 where
  pub says : out_above x.fresh r ≡ only x.fresh (number (super_name_rules s x.typ)) f at
  pub inside : at ≤ length f → above_place r ≤ length f
  pub told : ToldAbove s x r

-- ── a number that is read only if it is due, and else is 0 ──

pub record DueRead (b : Bool) (q : Reader ℕ) (bound : ℕ) (f : List ℕ) (at : ℕ) (r : Outcome ℕ) : Type 0 where
  pub says : turned (due b) (out_of r) ≡ only b q f at
  pub inside : at ≤ length f → place_of r ≤ length f
  pub below : value_of r < bound
  pub none : b ≡ false → value_of r ≡ 0

-- ── a count of objects ──

pub record CountJudged (l : List ℕ) (up start n at next : ℕ) (r : Outcome ℕ) : Type 0 where
  pub judged : (f : List ℕ) → Holds f l → Judged (count_rules (view f l) (maybe up) start) n at next r
  pub below : value_of r < 65536

-- ── a head ──

-- what stands in the file, of the code's head
abbrev pub head_of : Top → Head
head_of h =
    record {
      name = h.name.number;
      super = due h.name.fresh h.above.number;
      start = due (given? (maybe h.above.up)) h.start;
      count = h.count;
    }

abbrev pub out_top : Outcome Top → Out Head
out_top (Ok (h, c)) = got (head_of h) c.at
out_top (Err e) = no (number_of e.fault) e.place

abbrev pub top_place : Outcome Top → ℕ
top_place (Ok (h, c)) = c.at
top_place (Err e) = e.place

pub record Placed (s : State) (h : Top) : Type 0 where
  pub name : Resolved s h.name
  pub up : maybe h.above.up ≡ super_of s h.name.number (due h.name.fresh h.above.number)
  pub start : h.start < 65536
  pub none : h.above.up ≡ 0 → h.start ≡ 0
  pub count : h.count < 65536

abbrev pub ToldTop : State → Outcome Top → Type 0
ToldTop s (Ok (h, c)) = Placed s h
ToldTop s (Err e) = Unit {0}

pub record TopRead (s : State) (f : List ℕ) (at : ℕ) (r : Outcome Top) : Type 0 where
  pub says : out_top r ≡ head s f at
  pub inside : at ≤ length f → top_place r ≤ length f
  pub told : ToldTop s r

-- ── a head that is entered ──

-- all that the table says, with an entry's head more
unfoldable pub add_head : Said → Head → Said
add_head g h = record { state = after_head g.state h; due = g.due; chunks = g.chunks }

abbrev pub range_for : List ℕ → Top → ℕ → Range
range_for l h base =
    record {
      type = h.name.typ;
      block = block_in l;
      start = h.start;
      first = total (before? (block_in l) base) size (log_of l) + h.start;
      count = h.count;
    }

-- a new type has a string for its name, and room
pub record Declares (l : List ℕ) (x : Name) : Type 0 where
  pub low : 0 < x.number
  pub high : x.number ≤ strings_in l
  pub room : x.fresh ≡ true → types_in l < 32

-- a type more, if it is new
abbrev pub add_new : Bool → Said → List ℕ → Typ → Said
add_new true g name t = add_type g name t
add_new false g name t = g

-- where a new one's name is no type's
pub record TypeEntered (f : List ℕ) (x : Name) (up base : ℕ) (l l' : List ℕ) : Type 0 where
  pub ranges : ranges_in l' ≡ ranges_in l
  pub says : (x.fresh ≡ true → type_named (view f l) (text (view f l) x.number) ≡ none) → Now f l' (add_new x.fresh (said f l) (text (view f l) x.number) (record { super = maybe up; base = base }))

-- the head h was entered, and the table l became l': the entry's type is open for its fields
pub record Entered (f l l' : List ℕ) (h : Top) : Type 0 where
  pub placed : Placed (view f l) h
  pub now : Now f l' (add_head (said f l) (head_of h))
  pub opens : Open (said f l') h.name.typ 0

abbrev pub LeftTop : List ℕ → List ℕ → List ℕ → Outcome Top → Type 0
LeftTop f l l' (Ok (h, c)) = Entered f l l' h
LeftTop f l l' (Err e) = Holds f l'

pub record TopEntered (f l l' : List ℕ) (at : ℕ) (r : Outcome Top) : Type 0 where
  pub says : out_top r ≡ head (view f l) f at
  pub inside : at ≤ length f → top_place r ≤ length f
  pub left : LeftTop f l l' r

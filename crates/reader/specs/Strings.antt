-- The string block, as the code reads it. Assumes nothing.
use Rattle.std.specs.Prelude.{Ok, Err, ℕ, ◌+◌, ◌-◌, ◌*◌, ◌^◌, ◌≤◌, List, [], ◌∷◌, ◌≡◌, leb, length, take, drop}
use Rattle.paper.specs.Reader.{when◌then◌else◌, Reader, Out, got, no, times, bytes}
use Rattle.paper.specs.Lists.{last_or}
use Rattle.paper.specs.Rules.{with_strings}
use Rattle.paper.specs.File.{string_end}
use Rattle.numbers.specs.Cursors.{Read, place_of, out_step, step_place, Outcome, Step}
use Rattle.table.specs.View.{Holds, Said, said}
use Rattle.table.specs.Adds.{add_string}
use Rattle.numbers.specs.Faults.{number_of}

-- ── a step that reads into the table ──

-- the step answered r and left the table l, and that is the outcome o
pub record Did (f l : List ℕ) (at : ℕ) (r : Step) (o : Out Said) : Type 0 where
  pub holds : Holds f l
  pub says : out_step r (said f l) ≡ o
  pub inside : at ≤ length f → step_place r ≤ length f

-- ── strings ──

-- strings more; nothing else that the table says is about strings
unfoldable pub add_strings : Said → List (List ℕ) → Said
add_strings g strings = record { state = with_strings g.state strings; due = g.due; chunks = g.chunks }

-- the ends of n strings
unfoldable pub ends : ℕ → ℕ → Reader (List ℕ)
ends n prev = times n string_end (λ before e. e) prev

-- a string's bytes, in a file whose string bytes begin at b
unfoldable pub piece : List ℕ → ℕ → ℕ → ℕ → List ℕ
piece f b from e = take (e - from) (drop (b + from) f)

unfoldable pub pieces : List ℕ → ℕ → ℕ → List ℕ → List (List ℕ)
pieces f b from [] = []
pieces f b from (e ∷ es) = piece f b from e ∷ pieces f b e es

-- a place in the file, or its end
unfoldable pub capped : ℕ → ℕ → ℕ
capped len n = when leb len n then len else n

-- ends that do not fall
abbrev pub Rising : ℕ → List ℕ → Type 0
Rising from [] = Unit {0}
Rising from (e ∷ es) = (from ≤ e) × Rising e es

-- the end e was read, and the table l became l': it has one string more
pub record OneEnd (f l l' : List ℕ) (b prev at e p : ℕ) : Type 0 where
  pub rises : prev ≤ e
  pub on : p ≡ at + 4
  pub says : said f l' ≡ add_string (said f l) (piece f b prev e)

abbrev pub LeftEnd : List ℕ → List ℕ → List ℕ → ℕ → ℕ → ℕ → Outcome ℕ → Type 0
LeftEnd f l l' b prev at (Ok (e, c)) = OneEnd f l l' b prev at e c.at
LeftEnd f l l' b prev at (Err r) = Unit {0}

pub record EndRead (f l l' : List ℕ) (b prev at : ℕ) (r : Outcome ℕ) : Type 0 where
  pub holds : Holds f l'
  pub read : Read (string_end prev) (256 ^ 4) f at r
  pub left : LeftEnd f l l' b prev at r

-- n ends were read, of which e is the last
pub record Ended (f l l' : List ℕ) (b n at e p : ℕ) : Type 0 where
  pub list : List ℕ
  pub read : ends n 0 f at ≡ got list p
  pub last : e ≡ last_or 0 list
  pub rises : Rising 0 list
  pub on : p ≡ at + 4 * n
  pub says : said f l' ≡ add_strings (said f l) (pieces f b 0 list)

abbrev pub LeftEnds : List ℕ → List ℕ → List ℕ → ℕ → ℕ → ℕ → Outcome ℕ → Type 0
LeftEnds f l l' b n at (Ok (e, c)) = Ended f l l' b n at e c.at
LeftEnds f l l' b n at (Err r) = ends n 0 f at ≡ no (number_of r.fault) r.place

pub record EndsRead (f l l' : List ℕ) (b n at : ℕ) (r : Outcome ℕ) : Type 0 where
  pub holds : Holds f l'
  pub inside : at ≤ length f → place_of r ≤ length f
  pub left : LeftEnds f l l' b n at r

-- a run of n bytes was passed over
pub record Skip (f : List ℕ) (at n : ℕ) (r : Step) : Type 0 where
  pub says : out_step r (take n (drop at f)) ≡ bytes n f at
  pub inside : at ≤ length f → step_place r ≤ length f

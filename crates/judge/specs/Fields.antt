-- The fields of an entry, read from a text, as steps of all that the table says. No chunk has a size yet. Assumes nothing.
use Rattle.std.specs.Prelude.{Option, Some, None, ◌≡◌, List, [], ◌∷◌, ◌++◌, map, ℕ, ◌+◌, ◌-◌, length}
use Rattle.paper.specs.Reader.{when◌then◌else◌, Reader, Out, got, no, turned, ◌>>=◌, ◌>>◌, times, repeat}
use Rattle.paper.specs.Lists.{fold}
use Rattle.paper.specs.Ledger.{New, Due, State, owns?, field_at, objects_of}
use Rattle.paper.specs.Rules.{field_count_rules, after_new, old_due, new_dues}
use Rattle.paper.specs.Listing.{old_line}
use Rattle.paper.specs.Keeps.{number?}
use Rattle.paper.specs.Scan.{heed, literal, new_text}
use Rattle.words.specs.declared.read.Place.{Place}
use Rattle.table.specs.View.{flds_of, Holds, Said, said, Now}
use Rattle.reader.specs.Sound.{Open}
use Rattle.reader.specs.Fields.{olds_of, add_new}

-- the size of a chunk is known only when its values are written
unfoldable pub unsized : Due → Due × ℕ
unsized d = (d, 0)

-- ── known fields ──

-- field i is a known one, of an entry that adds so many objects
unfoldable pub add_old : ℕ → Said → ℕ → Said
add_old added s i = record { state = s.state; due = s.due ++ unsized (old_due s.state added i) ∷ []; chunks = s.chunks }

-- field i, where it is one of type t
unfoldable pub old_step : ℕ → ℕ → ℕ → Said → Said
old_step added t i s = when owns? t (field_at s.state i) then add_old added s i else s

-- those at these places
unfoldable pub add_olds : ℕ → Said → List ℕ → Said
add_olds added s is = record { state = s.state; due = s.due ++ map unsized (map (old_due s.state added) is); chunks = s.chunks }

-- the table as it is over some bytes, with the chunks of type t that are due of fields before i
pub record Ready (l : List ℕ) (t i : ℕ) : Type 0 where
  pub names : List ℕ
  pub holds : Holds names l
  pub still_open : Open (said names l) t i

-- it says s of the bytes f
pub record Opens (f l : List ℕ) (t i : ℕ) (s : Said) : Type 0 where
  pub now : Now f l s
  pub still_open : Open (said f l) t i

-- whatever the bytes are: field i is told
pub record OldTold (t i added : ℕ) (l l' : List ℕ) : Type 0 where
  pub says : (f : List ℕ) → Holds f l → Open (said f l) t i → Opens f l' t (i + 1) (old_step added t i (said f l))

-- all known fields are
pub record OldsTold (t added : ℕ) (l l' : List ℕ) : Type 0 where
  pub says : (f : List ℕ) → Holds f l → Open (said f l) t 0 → Opens f l' t (length (flds_of l')) (add_olds added (said f l) (olds_of added (said f l).state t))

-- ── new fields ──

-- one of type t, which has n objects
unfoldable pub add_text : ℕ → ℕ → Said → New → Said
add_text t n s x = add_new t n s x 0

unfoldable pub new_step : ℕ → ℕ → Said → Reader Said
new_step t n s f at = turned (add_text t n s) (new_text t s.state f at)

-- `rest` of them
unfoldable pub news_step : ℕ → ℕ → ℕ → Said → Reader Said
news_step t n rest s f at = turned (fold (add_text t n) s) (times rest (new_text t) (after_new t) s.state f at)

-- ── all fields ──

-- of an entry of type t that adds so many objects and gives n fields: the new ones
unfoldable pub fields_text : State → ℕ → ℕ → ℕ → Reader (List New)
fields_text s t added n = do
  heed (number? (field_count_rules s (length (olds_of added s t))) n)
  olds ← repeat (length (olds_of added s t)) (literal old_line)
  times (n - length (olds_of added s t)) (new_text t) (after_new t) s

unfoldable pub add_fields : ℕ → ℕ → Said → List New → Said
add_fields added t s news =
    record {
      state = fold (after_new t) s.state news;
      due = s.due ++ map unsized (map (old_due s.state added) (olds_of added s.state t) ++ new_dues (length s.state.fields) (objects_of s.state t) news);
      chunks = s.chunks;
    }

unfoldable pub fields_step : ℕ → ℕ → ℕ → Said → Reader Said
fields_step t added n s f at = turned (add_fields added t s) (fields_text s.state t added n f at)

-- ── answers ──

-- where the text goes on, with all that the table says then
abbrev pub out_said : List ℕ → List ℕ → Option Place → Out Said
out_said f l (Some c) = got (said f l) c.at
out_said f l None = no 20 0

abbrev pub OpenAfter : List ℕ → List ℕ → ℕ → Option Place → Type 0
OpenAfter f l t (Some c) = Open (said f l) t (length (flds_of l))
OpenAfter f l t None = Unit {0}

-- the answer, with the table l that is left, is the outcome o; the chunks of type t that are due are of the fields that there
-- are
pub record Stepped (f l : List ℕ) (t : ℕ) (r : Option Place) (o : Out Said) : Type 0 where
  pub holds : Holds f l
  pub says : out_said f l r ≡ o
  pub still_open : OpenAfter f l t r

-- The fields of an entry, as steps of all that the table says and of the last end offset. Assumes nothing.
use Rattle.std.specs.Prelude.{Ok, Err, ◌≡◌, Bool, List, [], ◌∷◌, ◌++◌, map, ℕ, ◌≤◌, eqb, length}
use Rattle.paper.specs.Reader.{when◌then◌else◌, Reader, Out, got, no, turned, times}
use Rattle.paper.specs.Lists.{fold, last_or}
use Rattle.paper.specs.Ledger.{Kind, New, State, owns?, field_at, fields_of, objects_of}
use Rattle.paper.specs.Rules.{noted, after_new, values_due, old_due, new_dues}
use Rattle.paper.specs.File.{Upto, end_offset, new_field, upto_new, fields, sized}
use Rattle.numbers.specs.Cursors.{place_of, Outcome}
use Rattle.table.specs.View.{Holds, Said, said, Now}
use Rattle.reader.specs.declared.kinds.Kind.{Kind as KindRow}
use Rattle.reader.specs.Kinds.{kind_in}
use Rattle.reader.specs.Sound.{Open}
use Rattle.reader.specs.Going.{Going, go_old, go_olds, go_new}
use Rattle.numbers.specs.Faults.{number_of}

-- what the table says, with the last end offset
abbrev pub going : List ℕ → List ℕ → ℕ → Going
going f l end = record { said = said f l; end = end }

abbrev pub upto : Going → Upto
upto g = record { state = g.said.state; end = g.end }

-- ── steps, as readings ──

-- the known fields that an entry of type t gives, by their places: with no object added all fields are new
unfoldable pub olds_of : ℕ → State → ℕ → List ℕ
olds_of added s t = when eqb added 0 then [] else fields_of s t

-- field i, where it is a known one of type t
unfoldable pub old_go : ℕ → ℕ → ℕ → Going → Reader Going
old_go added t i g f at = when owns? t (field_at g.said.state i) then turned (go_old added g i) (end_offset g.end f at) else got g at

-- the known fields at these places
unfoldable pub olds_go : ℕ → List ℕ → Going → Reader Going
olds_go added is g f at = turned (go_olds added g is) (times (length is) end_offset (λ before e. e) g.end f at)

-- a new field of type t, which has n objects so far
unfoldable pub new_go : (ℕ → Bool) → ℕ → ℕ → Going → Reader Going
new_go named t n g f at = turned (go_new t n g) (new_field named t (upto g) f at)

-- `rest` new fields
unfoldable pub news_go : (ℕ → Bool) → ℕ → ℕ → ℕ → Going → Reader Going
news_go named t n rest g f at = turned (fold (go_new t n) g) (times rest (new_field named t) (upto_new t) (upto g) f at)

-- all fields of an entry of type t that adds so many objects: the new ones, and the ends of all
unfoldable pub go_fields : ℕ → ℕ → Going → List New × List ℕ → Going
go_fields added t g v =
    let s = g.said.state in
    record {
      said =
          record {
            state = fold (after_new t) s v.0;
            due = g.said.due ++ sized g.end (map (old_due s added) (olds_of added s t) ++ new_dues (length s.fields) (objects_of s t) v.0) v.1;
            chunks = g.said.chunks;
          };
      end = last_or g.end v.1;
    }

unfoldable pub fields_go : (ℕ → Bool) → ℕ → ℕ → Going → Reader Going
fields_go named t added g f at = turned (go_fields added t g) (fields named t (length (olds_of added g.said.state t)) (upto g) f at)

-- ── a new field's rows ──

-- with a chunk of so many bytes
unfoldable pub add_new : ℕ → ℕ → Said → New → ℕ → Said
add_new t n s x size =
    record {
      state = after_new t s.state x;
      due = s.due ++ (record { field = length s.state.fields; values = values_due x.kind n }, size) ∷ [];
      chunks = s.chunks;
    }

-- the field's name is that of string number `name`, and k is what is kept of its kind
pub record FieldAdded (f : List ℕ) (t n name : ℕ) (k : KindRow) (size : ℕ) (l l' : List ℕ) : Type 0 where
  pub says : (x : Kind) → noted x ≡ kind_in k → Now f l' (add_new t n (said f l) (record { kind = x; name = name }) size)

-- ── answers ──

-- an answer whose value is the last end offset
abbrev pub out_going : List ℕ → List ℕ → Outcome ℕ → Out Going
out_going f l (Ok (e, c)) = got (going f l e) c.at
out_going f l (Err r) = no (number_of r.fault) r.place

abbrev pub OpenBefore : List ℕ → List ℕ → ℕ → ℕ → Outcome ℕ → Type 0
OpenBefore f l t i (Ok (e, c)) = Open (said f l) t i
OpenBefore f l t i (Err r) = Unit {0}

-- the answer, with the table l that is left, is the outcome o; from a place within the file it leads to one, and the chunks
-- of type t that are due are then of fields before i
pub record Went (f l : List ℕ) (t i at : ℕ) (r : Outcome ℕ) (o : Out Going) : Type 0 where
  pub holds : Holds f l
  pub says : out_going f l r ≡ o
  pub inside : at ≤ length f → place_of r ≤ length f
  pub still_open : OpenBefore f l t i r

-- What the answers and the questions of lookups say. Assumes nothing.
use Rattle.std.specs.Prelude as prelude
use Rattle.std.specs.Prelude.{Some, None, ◌≡◌, ℕ, ◌-◌, ◌<◌, ◌≤◌, Bool, List, [], length, slice_index, slice_index_or}
use Rattle.std.proofs.Math.Option.{Option, none, some}
use Rattle.paper.specs.Ledger.{Range}
use Rattle.paper.specs.Lists.{same, place}
use Rattle.table.specs.View.{strs_of, names_of, said, Passed, Holds, Now}
use Rattle.table.specs.Answers.{range_in}
use Rattle.table.specs.declared.rows.RangeRow.{RangeRow}

abbrev pub found : prelude.Option ℕ → Option ℕ
found (Some i) = some i
found None = none

-- a name of length n that the first k types have not is not one of the first i either
pub record Shorter (l : List ℕ) (n k i : ℕ) : Type 0 where
  pub few : i ≤ slice_index l 1
  pub is : (f : List ℕ) → Holds f l → (name : List ℕ) → length name ≡ n → Passed (names_of f l) name k → Passed (names_of f l) name i

-- string i names the type m - 33, and none where m is below 33; the table, which may have a note of it now, says what it said
pub record Recalled (f l : List ℕ) (i m : ℕ) (l' : List ℕ) : Type 0 where
  pub now : Now f l' (said f l)
  pub none_has : m < 33 → place (same (slice_index_or (strs_of f l) i [])) 0 (names_of f l) ≡ none
  pub one_has : 33 ≤ m → place (same (slice_index_or (strs_of f l) i [])) 0 (names_of f l) ≡ some (m - 33)

-- whatever is answered of a range is what the test p says of it
abbrev pub Tests : (RangeRow → Bool → Type 0) → (Range → Bool) → Type 0
Tests answers p = (r : RangeRow) (b : Bool) → answers r b → b ≡ p (range_in r)

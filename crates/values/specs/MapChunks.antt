-- The values of a chunk of maps. Assumes nothing.
use Rattle.std.specs.Prelude.{◌≡◌, ℕ, ◌≤◌, true, List, [], ◌∷◌, length}
use Rattle.std.proofs.Common.{sym, ◌∙◌, arith}
use Rattle.paper.specs.Reader.{give, refuse, repeat}
use Rattle.paper.specs.Lists.{all}
use Rattle.paper.specs.Ledger.{mapping, keys, State}
use Rattle.paper.specs.Rules.{element_kind?}
use Rattle.paper.specs.File.{element, value}
use Rattle.laws.specs.Bools.{and_split}
use Rattle.numbers.specs.Cursors.{Outcome, out_of, place_of}
use Rattle.values.specs.Pass.{forget, Passed, alike-repeat}
use Rattle.values.specs.Items.{Known, alike-item}
use Rattle.values.specs.Maps.{AllAlike, alike-maps}
use Rattle.values.specs.Spans.{ranges, item_in}
use Rattle.values.specs.Ways.{map_in}

-- for each kind, the numbers are those of the state
abbrev pub AllKnown : State → ℕ → List ℕ → List ℕ → List ℕ → List ℕ → List ℕ → Type 0
AllKnown s strings pools starts first last [] = Unit {0}
AllKnown s strings pools starts first last (k ∷ ks) = Known s k strings pools (ranges starts k first) (ranges starts k last) × AllKnown s strings pools starts first last ks

-- the answer is that of n maps of these kinds, for every state that has these numbers
pub record MapsChecked (n strings : ℕ) (pools starts first last kinds f : List ℕ) (r : Outcome ℕ) : Type 0 where
  pub says : (s : State) → AllKnown s strings pools starts first last kinds → forget (out_of r) ≡ forget (repeat n (value s (mapping kinds)) f 0)
  pub inside : place_of r ≤ length f

all_alike :
    (s : State) (strings : ℕ) (pools starts first last f ks : List ℕ) → AllKnown s strings pools starts first last ks → all element_kind? ks ≡ true
    → AllAlike (element s) (item_in strings pools starts first last) f ks
unfolding all item_in
all_alike s strings pools starts first last f [] K L = tt
all_alike s strings pools starts first last f (k ∷ ks) K L = let (a, b) = and_split (element_kind? k) _ L in (alike-item K.0 a, all_alike s strings pools starts first last f ks K.1 b)

pub maps-checked :
    {n strings : ℕ} {pools starts first last kinds f : List ℕ} {r : Outcome ℕ} → 1 ≤ length kinds → all element_kind? kinds ≡ true
    → Passed (repeat n (map_in strings pools starts first last kinds)) f 0 r → MapsChecked n strings pools starts first last kinds f r
unfolding value map_in
maps-checked {n} {strings} {pools} {starts} {first} {last} {kinds} {f} h L P =
    record {
      says = λ s K.
          P.says ∙ sym ((alike-repeat (alike-maps (refuse 10) (give []) keys (λ m. m) (element s) (item_in strings pools starts first last) kinds h (all_alike s strings pools starts first last f kinds K L)) n).at 0);
      inside = P.inside (omega arith);
    }

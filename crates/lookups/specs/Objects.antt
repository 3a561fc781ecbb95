-- The objects of a type, as ranges that nobody has gathered. Assumes nothing.
use Rattle.std.specs.Prelude.{◌≡◌, Bool, ◌&&◌, ◌||◌, List, [], ◌∷◌, ℕ, ◌+◌, leb, eqb}
use Rattle.std.proofs.Math.Path.{refl}
use Rattle.std.proofs.Common.{ap, ◌∙◌, ne_eqb}
use Rattle.std.proofs.Math.Bool.{true, false}
use Rattle.paper.specs.Reader.{when◌then◌else◌}
use Rattle.paper.specs.Lists.{any}
use Rattle.paper.specs.Ledger.{Range, of?, holds?}
use Rattle.values.specs.Items.{in_ranges, some_object}

unfoldable pub firsts : ℕ → List Range → List ℕ
firsts t [] = []
firsts t (r ∷ log) = when of? t r then r.first ∷ firsts t log else firsts t log

unfoldable pub lasts : ℕ → List Range → List ℕ
lasts t [] = []
lasts t (r ∷ log) = when of? t r then (r.first + r.count) ∷ lasts t log else lasts t log

pub objects-lie : (t : ℕ) (log : List Range) (n : ℕ) → in_ranges (firsts t log) (lasts t log) n ≡ any (holds? t n) log
unfolding firsts lasts in_ranges any holds? when◌then◌else◌
objects-lie t [] n = refl
objects-lie t (r ∷ log) n = go (of? t r) (objects-lie t log n)
  where
    go :
        (b : Bool) → in_ranges (firsts t log) (lasts t log) n ≡ any (holds? t n) log
        → in_ranges (when b then r.first ∷ firsts t log else firsts t log) (when b then (r.first + r.count) ∷ lasts t log else lasts t log) n
        ≡ ((b && (leb (r.first + 1) n && leb n (r.first + r.count))) || any (holds? t n) log)
    go true ih = ap (λ (x : Bool). (leb (r.first + 1) n && leb n (r.first + r.count)) || x) ih
    go false ih = ih

module _ (t : ℕ) (log : List Range) (n : ℕ) where
  pub object-one : any (holds? t n) log ≡ true → some_object (firsts t log) (lasts t log) n ≡ true
  unfolding some_object
  object-one h = rw (objects-lie t log n ∙ h) (or-true (eqb n 0))
    where
      or-true : (x : Bool) → (x || true) ≡ true
      or-true true = refl
      or-true false = refl

  pub object-none : (n ≡ 0 → ⊥) → any (holds? t n) log ≡ false → some_object (firsts t log) (lasts t log) n ≡ false
  unfolding some_object
  object-none z h = rw (ne_eqb n 0 z, objects-lie t log n ∙ h)

-- Lines of one word, and kinds whose elements all have as many bytes. Assumes nothing.
use Rattle.std.specs.Prelude.{◌≡◌, refl, Bool, true, false, ◌⊎◌, List, [], ◌∷◌, ◌++◌, ℕ, ◌+◌, ◌^◌, ◌≤◌, ◌<◌, length}
use Rattle.std.proofs.Common.{inl, inr, ⊎_elim, arith, lt_of_not-le, le-leb}
use Rattle.std.proofs.Math.Decide.{dec_le}
use Rattle.std.proofs.lemmas.List.Edits.{sets}
use Rattle.paper.specs.Reader.{when◌then◌else◌}
use Rattle.paper.specs.Numbers.{fixed}
use Rattle.paper.specs.Rules.{single_kind?}
use Rattle.paper.specs.Listing.{tab, newline}
use Rattle.lay.specs.Laid.{Laid, most, laid_then}
use Rattle.words.specs.Stored.{Stored, stored-laid, stored-then}
use Rattle.values.specs.Bare.{bare, bound_of, bare-byte}

-- ── the line of a word ──

abbrev pub val : List ℕ
val = 118 ∷ 97 ∷ 108 ∷ tab ∷ []

unfoldable pub line_of : List ℕ → List ℕ
line_of w = val ++ (w ++ (newline ∷ []))

-- stored where there is room for all of it
pub line-stored :
    {l m n k w : List ℕ} {at p r : ℕ} → length l ≤ most → m ≡ sets l at val → Stored m (at + 4) w n p → Stored n p (newline ∷ []) k r → r ≤ length l
    → Laid l at (line_of w) k r
unfolding line_of
line-stored h is word end fits = stored-laid h fits (stored-then {v = val} (record { bytes = is; next = refl }) (stored-then word end))

-- laid as far as it fits
pub line-laid :
    {l m n k w : List ℕ} {at first end r : ℕ} → Laid l at val m first → Laid m first w n end → Laid n end (newline ∷ []) k r
    → Laid l at (line_of w) k r
unfolding line_of
line-laid a b c = laid_then a (laid_then b c)

-- the byte of a bool
abbrev pub FlagWord : Bool → ℕ → Type 0
FlagWord b r = (b ≡ true → r ≡ 49) × (b ≡ false → r ≡ 48)

-- ── kinds of a fixed width ──

pub record Fixed (e : ℕ) : Type 0 where
  pub low : 5 < e
  pub high : e < 14
  pub other : e ≡ 11 → ⊥

pub single-low : {e : ℕ} → Fixed e → single_kind? e ≡ true
unfolding single_kind?
single-low {e} K = rw (le-leb 6 e (omega (arith, K.low)), le-leb e 14 (omega (arith, K.high)))

-- a number of w bytes stands for such an element
pub record Width (e w : ℕ) : Type 0 where
  pub is : bare e ≡ fixed w
  pub bound : bound_of e ≡ 256 ^ w
  pub narrow : w ≤ 8

pub width-1 : (e : ℕ) → 6 ≤ e → e < 8 → Width e 1
width-1 e h k = let b = bare-byte e h k in record { is = b.0; bound = b.1; narrow = omega arith }

pub width-2 : (e : ℕ) → e ≡ 8 → Width e 2
unfolding bare bound_of when◌then◌else◌
width-2 e is = rw is (record { is = refl; bound = refl; narrow = omega arith })

pub width-4 : (e : ℕ) → (e ≡ 9) ⊎ (e ≡ 12) → Width e 4
unfolding bare bound_of when◌then◌else◌
width-4 e =
    ⊎_elim (λ is. rw is (record { is = refl; bound = refl; narrow = omega arith })) (λ is. rw is (record { is = refl; bound = refl; narrow = omega arith }))

-- what is left of them
pub width-8 : (e : ℕ) → Fixed e → 8 ≤ e → (e ≡ 8 → ⊥) → ((e ≡ 9) ⊎ (e ≡ 12) → ⊥) → Width e 8
unfolding bare bound_of when◌then◌else◌
width-8 e K h a b =
    let c : e ≡ 9 → ⊥ = λ q. b (inl q) in
    let d : e ≡ 12 → ⊥ = λ q. b (inr q) in
    elim (dec_le e 10) [
      | yes k ↦ (let is : e ≡ 10 = omega (arith, a, c) in rw is (record { is = refl; bound = refl; narrow = omega arith }))
      | no k ↦
          (let far : 11 < e = omega (arith, lt_of_not-le k, K.other) in
          let is : e ≡ 13 = omega (arith, far, d, K.high) in
          rw is (record { is = refl; bound = refl; narrow = omega arith }))
    ]

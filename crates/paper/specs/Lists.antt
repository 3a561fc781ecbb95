-- Questions to lists, in the words that the rules use. Assumes nothing.
use Rattle.std.specs.Prelude.{Bool, true, false, ◌&&◌, ◌||◌, List, [], ◌∷◌, ◌++◌, ℕ, suc, ◌+◌, eqb}
use Rattle.std.proofs.Math.Option.{Option, none, some}
use Rattle.paper.specs.Reader.{when◌then◌else◌}

-- the same bytes
unfoldable pub same : List ℕ → List ℕ → Bool
same [] [] = true
same [] (y ∷ ys) = false
same (x ∷ xs) [] = false
same (x ∷ xs) (y ∷ ys) = eqb x y && same xs ys

unfoldable pub any : {A : Type 0} → (A → Bool) → List A → Bool
any p [] = false
any p (x ∷ xs) = p x || any p xs

unfoldable pub all : {A : Type 0} → (A → Bool) → List A → Bool
all p [] = true
all p (x ∷ xs) = p x && all p xs

-- the place of the first that passes, counted from i
unfoldable pub place : {A : Type 0} → (A → Bool) → ℕ → List A → Option ℕ
place p i [] = none
place p i (x ∷ xs) = when p x then some i else place p (suc i) xs

-- the place of the first that passes together with its name
unfoldable pub place_named : {A B : Type 0} → (A → B → Bool) → ℕ → List A → List B → Option ℕ
place_named p i [] names = none
place_named p i (x ∷ xs) [] = none
place_named p i (x ∷ xs) (name ∷ names) = when p x name then some i else place_named p (suc i) xs names

-- the places of all that pass
unfoldable pub places : {A : Type 0} → (A → Bool) → ℕ → List A → List ℕ
places p i [] = []
places p i (x ∷ xs) = when p x then i ∷ places p (suc i) xs else places p (suc i) xs

-- the sum over those that pass
unfoldable pub total : {A : Type 0} → (A → Bool) → (A → ℕ) → List A → ℕ
total p n [] = 0
total p n (x ∷ xs) = when p x then n x + total p n xs else total p n xs

unfoldable pub fold : {S A : Type 0} → (S → A → S) → S → List A → S
fold after s [] = s
fold after s (x ∷ xs) = fold after (after s x) xs

-- the lists of all, one after the other
unfoldable pub flat : {A B : Type 0} → (A → List B) → List A → List B
flat g [] = []
flat g (x ∷ xs) = g x ++ flat g xs

unfoldable pub last_or : ℕ → List ℕ → ℕ
last_or d [] = d
last_or d (x ∷ xs) = last_or x xs

unfoldable pub given? : {A : Type 0} → Option A → Bool
given? none = false
given? (some a) = true

unfoldable pub or : {A : Type 0} → Option A → A → A
or none d = d
or (some a) d = a

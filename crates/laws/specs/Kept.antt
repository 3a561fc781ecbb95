-- The two laws that lead from bytes to what they say, and back. Assumes nothing.
use Rattle.std.specs.Prelude.{◌≡◌, Bool, true, List, ℕ}
use Rattle.paper.specs.Reader.{Reader}
use Rattle.laws.specs.Says.{Says}
use Rattle.laws.specs.Takes.{Takes}

-- what is read is what is written, and keeps the rules
abbrev pub Kept : {A : Type 0} → Reader A → (A → List ℕ) → (A → Bool) → Type 0
Kept r w ok = Says r (λ v cs. (w v ≡ cs) × (ok v ≡ true))

-- what is written and keeps the rules is read
abbrev pub Taken : {A : Type 0} → Reader A → (A → List ℕ) → (A → Bool) → Type 0
Taken {A} r w ok = (a : A) → ok a ≡ true → Takes r (w a) a

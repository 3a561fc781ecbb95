-- Loops over readings: what was read so far, and what is left to read from here, give the whole. Assumes nothing.
use Rattle.std.specs.Prelude.{◌≡◌, refl, List, [], ◌∷◌, ◌++◌}
use Rattle.std.proofs.Common.{append_assoc}
use Rattle.paper.specs.Reader.{Out, got, no, and_then}

module _ {A : Type 0} where
  -- nothing was read yet
  pub alone : (o : Out (List A)) → o ≡ and_then o (λ more q. got ([] ++ more) q)
  alone (got a e) = refl
  alone (no n p) = refl

  -- one more was read
  pub one_on :
      (done : List A) (a : A) (o : Out (List A))
      → and_then (and_then o (λ more q. got (a ∷ more) q)) (λ more q. got (done ++ more) q) ≡ and_then o (λ more q. got ((done ++ a ∷ []) ++ more) q)
  one_on done a (got more q) = rw (append_assoc done (a ∷ []) more)
  one_on done a (no n p) = refl

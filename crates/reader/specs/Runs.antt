-- Readings one after the other, as what they lead to. Assumes nothing.
use Rattle.std.specs.Prelude.{◌≡◌, List, [], ◌∷◌, ℕ, zero, suc, ◌-◌, ◌≤◌, ◌<◌, length, replicate}
use Rattle.std.proofs.Math.Path.{refl}
use Rattle.std.proofs.Common.{ap, ◌∙◌, not-suc-le-zero, sub-one}
use native.Mathlib.Omega.{arith}
use Rattle.std.proofs.lemmas.List.{length-replicate}
use Rattle.paper.specs.Reader.{Reader, Out, got, no, and_then, turned, ◌>>=◌, give, each, times}
use Rattle.paper.specs.Lists.{fold}

-- a value more, before others
pub turned_more : {A B : Type 0} (g : List A → B) (a : A) (o : Out (List A)) → turned g (and_then o (λ xs e. got (a ∷ xs) e)) ≡ turned (λ xs. g (a ∷ xs)) o
turned_more g a (got xs e) = refl
turned_more g a (no k p) = refl

-- as many as were asked for
each-many : {S X A : Type 0} (read : S → X → Reader A) (after : S → A → S) (f : List ℕ) (xs : List X) (s : S) (at : ℕ) (l : List A) (e : ℕ) → each read after xs s f at ≡ got l e → length l ≡ length xs
unfolding each give ◌>>=◌
each-many read after f [] s at l e q = let z : [] ≡ l = cc q in rw (← z)
each-many {S} {X} {A} read after f (x ∷ xs) s at l e q = first (λ u p ys m. each-many read after f xs u p ys m) (read s x f at) q
  where
    rest : (a : A) (o : Out (List A)) → ((ys : List A) (p : ℕ) → o ≡ got ys p → length ys ≡ length xs) → and_then o (λ ys p. got (a ∷ ys) p) ≡ got l e → length l ≡ suc (length xs)
    rest a (got ys p) again r = let z : a ∷ ys ≡ l = cc r in rw (← z) (ap suc (again ys p refl))
    rest a (no k p) again r = let z : ◌≡◌ {A = ℕ} 0 1 = cc r in absurd (omega arith)

    first :
        ((u : S) (p : ℕ) (ys : List A) (m : ℕ) → each read after xs u f p ≡ got ys m → length ys ≡ length xs) → (o : Out A)
        → and_then o (λ a p. and_then (each read after xs (after s a) f p) (λ ys p. got (a ∷ ys) p)) ≡ got l e → length l ≡ suc (length xs)
    first again (got a p) r = rest a (each read after xs (after s a) f p) (again (after s a) p) r
    first again (no k p) r = let z : ◌≡◌ {A = ℕ} 0 1 = cc r in absurd (omega arith)

pub times-many :
    {S A : Type 0} (n : ℕ) (read : S → Reader A) (after : S → A → S) (s : S) (f : List ℕ) (at : ℕ) {l : List A} {e : ℕ}
    → times n read after s f at ≡ got l e → length l ≡ n
unfolding times
times-many n read after s f at {l} {e} q = each-many (λ s x. read s) after f (replicate n (tt {0})) s at l e q ∙ length-replicate n _

-- `go` goes on from a G as `after` does from the state `of` it
module _ {S A G : Type 0} (read : S → Reader A) (after : S → A → S) (go : G → A → G) (of : G → S) (same : (g : G) (a : A) → of (go g a) ≡ after (of g) a) (f : List ℕ) where
  pub runs-stop : (n : ℕ) (g : G) (at : ℕ) → n ≤ 0 → turned (fold go g) (times n read after (of g) f at) ≡ got g at
  unfolding times each give fold
  runs-stop n g at le = let z : n ≡ 0 = omega arith in rw z refl

  runs-one :
      (n : ℕ) (g : G) (at : ℕ)
      → turned (fold go g) (times (suc n) read after (of g) f at) ≡ and_then (read (of g) f at) (λ a e. turned (fold go (go g a)) (times n read after (of (go g a)) f e))
  unfolding times each give fold ◌>>=◌
  runs-one n g at = step (read (of g) f at)
    where
      step :
          (o : Out A)
          → turned (fold go g) (and_then o (λ a e. and_then (each (λ s x. read s) after (replicate n (tt {0})) (after (of g) a) f e) (λ xs e. got (a ∷ xs) e)))
          ≡ and_then o (λ a e. turned (fold go (go g a)) (each (λ s x. read s) after (replicate n (tt {0})) (of (go g a)) f e))
      step (got a e) = turned_more (fold go g) a (each (λ s x. read s) after (replicate n (tt {0})) (after (of g) a) f e) ∙ rw (same g a) refl
      step (no k p) = refl

  pub runs-step :
      (n : ℕ) (g : G) (at : ℕ) → 0 < n
      → turned (fold go g) (times n read after (of g) f at) ≡ and_then (read (of g) f at) (λ a e. turned (fold go (go g a)) (times (n - 1) read after (of (go g a)) f e))
  runs-step zero g at h = absurd (not-suc-le-zero h)
  runs-step (suc n) g at h = runs-one n g at ∙ rw (sub-one (suc n)) refl

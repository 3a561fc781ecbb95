-- One after the other, each in the state that those before it lead to. Assumes nothing.
use Rattle.std.specs.Prelude.{◌≡◌, Bool, true, ◌&&◌, length, replicate}
use Rattle.std.proofs.Math.Path.{refl, ap}
use Rattle.std.proofs.Common.{sym, ◌∙◌}
use mathlib.Core.List.{List, [], ◌∷◌}
use Prim.Native.Nat.{ℕ, suc}
use Rattle.std.proofs.lemmas.List.{length-replicate}
use Rattle.paper.specs.Reader.{Reader, times}
use Rattle.paper.specs.Lists.{fold}
use Rattle.paper.specs.Keeps.{in_turn}
use Rattle.laws.specs.Says.{Says, weaker, times-says, Run}
use Rattle.laws.specs.Takes.{Takes, times-takes, written}
use Rattle.laws.specs.Bools.{and_split, and-join, turn-split, map₁}
use Rattle.laws.specs.Values.{Kept, Taken}

module _ {S A : Type 0} (after : S → A → S) (ok : S → A → Bool) where
  -- ── read and written ──

  module _ (w : S → A → List ℕ) where
    run-written :
        {X : Type 0} (xs : List X) (s : S) (l : List A) (cs : List ℕ) → Run (λ s x a cs. (w s a ≡ cs) × (ok s a ≡ true)) after xs s l cs
        → (written w after s l ≡ cs) × (length l ≡ length xs) × (in_turn ok after s l ≡ true)
    unfolding written in_turn
    run-written [] s [] cs r = (sym r, refl, refl)
    run-written [] s (a ∷ l) cs r = absurd r
    run-written (x ∷ xs) s [] cs r = absurd r
    run-written (x ∷ xs) s (a ∷ l) cs (c, d, e, p, q) =
        let ih = run-written xs (after s a) l d q in
        (rw (p.0, ih.0) (sym e), ap suc ih.1, and-join p.1 ih.2)

    pub times-kept :
        {read : S → Reader A} → ((s : S) → Kept (read s) (w s) (ok s)) → (n : ℕ) (s : S)
        → Says (times n read after s) (λ l cs. (written w after s l ≡ cs) × (length l ≡ n) × (in_turn ok after s l ≡ true))
    times-kept K n s =
        weaker _ (λ l cs r. let k = run-written (replicate n (tt {0})) s l cs r in (k.0, k.1 ∙ length-replicate n tt, k.2))
        (times-says after (λ s a cs. (w s a ≡ cs) × (ok s a ≡ true)) K n s)

    pub times-taken :
        (read : S → Reader A) → ((s : S) → Taken (read s) (w s) (ok s)) → (n : ℕ) (s : S) (l : List A) → length l ≡ n → in_turn ok after s l ≡ true
        → Takes (times n read after s) (written w after s l) l
    times-taken read T n s l e h =
        times-takes read after w n s l e (map₁ (λ s a. ok s a ≡ true) (λ s a. Takes (read s) (w s a) a) after T s l (turn-split ok after s l h))

  -- ── what every step keeps ──

  module _ (inv : S → Bool) (step : (s : S) (a : A) → inv s ≡ true → ok s a ≡ true → inv (after s a) ≡ true) where
    pub fold-keeps : (s : S) (l : List A) → inv s ≡ true → in_turn ok after s l ≡ true → inv (fold after s l) ≡ true
    unfolding fold in_turn
    fold-keeps s [] i h = i
    fold-keeps s (a ∷ l) i h = let (p, q) = and_split (ok s a) _ h in fold-keeps (after s a) l (step s a i p) q

    pub turn-also : (s : S) (l : List A) → inv s ≡ true → in_turn ok after s l ≡ true → in_turn (λ s a. inv s && ok s a) after s l ≡ true
    unfolding in_turn
    turn-also s [] i h = refl
    turn-also s (a ∷ l) i h = let (p, q) = and_split (ok s a) _ h in and-join (and-join i p) (turn-also (after s a) l (step s a i p) q)

-- Strings and objects of a table are so few that a column can store their numbers. Assumes nothing.
use Rattle.std.specs.Prelude.{◌≡◌, refl, Bool, false, ◌||◌, List, [], ◌∷◌, ◌++◌, ℕ, suc, ◌+◌, ◌-◌, ◌^◌, ◌≤◌, ◌<◌, ltb, length}
use Rattle.std.proofs.Common.{ap, ◌∙◌, arith, length-append, lt-ltb}
use Rattle.std.proofs.Math.Bool.{true}
use Rattle.paper.specs.Lists.{any, all}
use Rattle.paper.specs.Ledger.{Range, State, holds?, object?}
use Rattle.laws.specs.Columns.{Grows}
use Rattle.table.specs.View.{log_of, view, Holds}
use Rattle.values.specs.Bare.{Linkable}
use Rattle.values.specs.Linkable.{linkable, objects-below}
use Rattle.lookups.specs.Low.{Low}

low-all : (j : ℕ) (rs : List Range) → Low j rs → j + length rs ≤ 1024 → all (λ (r : Range). ltb (r.first + r.count) (2 ^ 63)) rs ≡ true
unfolding all
low-all j [] h le = refl
low-all j (r ∷ rs) h le = rw (lt-ltb (r.first + r.count) (2 ^ 63) (omega (arith, h.0, h.1)), low-all (suc j) rs h.2 (omega arith))

any-more : {A : Type 0} (p : A → Bool) (xs ys : List A) → any p xs ≡ true → any p (xs ++ ys) ≡ true
unfolding any
any-more p [] ys h = let z : ◌≡◌ {A = ℕ} 0 1 = cc h in absurd (omega arith)
any-more {A} p (x ∷ xs) ys h = go (p x) (any-more p xs ys) h
  where
    go : (b : Bool) → (any p xs ≡ true → any p (xs ++ ys) ≡ true) → (b || any p xs) ≡ true → (b || any p (xs ++ ys)) ≡ true
    go true ih q = refl
    go false ih q = ih q

-- in every state from which the table's has grown
module _ {f l : List ℕ} (H : Holds f l) (low : Low 0 (log_of l)) (k : ℕ) (s : State) (g : Grows s (view f l)) where
  few : length s.strings < 2 ^ 63
  few =
      let all = ap length g.strings.is ∙ length-append s.strings g.strings.rest in
      omega (arith, all, H.strs-count, H.ok.strs-fit)

  small : (n : ℕ) → object? s (k - 32) n ≡ true → n < 2 ^ 63
  unfolding object?
  small n h =
      let more : any (holds? (k - 32) n) (s.log ++ g.log.rest) ≡ true = any-more (holds? (k - 32) n) s.log g.log.rest h in
      let here : any (holds? (k - 32) n) (log_of l) ≡ true = rw g.log.is more in
      objects-below (2 ^ 63) (k - 32) n (log_of l) (low-all 0 (log_of l) low (omega (arith, H.ok.log-count, H.ok.log-fit))) here

  pub linkable-below : Linkable s k
  linkable-below = linkable s k few small

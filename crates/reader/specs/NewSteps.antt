-- The new fields of an entry, one after the other. Assumes nothing.
use Rattle.std.proofs.Math.Path.{◌≡◌, refl, sym, ap}
use Rattle.std.proofs.Common.{◌∙◌, arith}
use Rattle.std.specs.Prelude.{Bool, List, [], ◌∷◌, ℕ, ◌+◌, ◌-◌, ◌≤◌, ◌<◌}
use Rattle.std.proofs.Math.ListN.{length, length-append}
use Rattle.paper.specs.Reader.{Out, got, no, and_then, turned, times}
use Rattle.paper.specs.Lists.{fold}
use Rattle.paper.specs.Ledger.{New}
use Rattle.paper.specs.Rules.{noted, after_new}
use Rattle.paper.specs.File.{new_field, upto_new}
use Rattle.reader.specs.Going.{Going, go_new}
use Rattle.reader.specs.Fields.{upto, new_go, news_go}
use Rattle.reader.specs.Runs.{runs-stop, runs-step}

pub then-turned : {A B C : Type 0} (g : A → B) (o : Out A) (k : B → ℕ → Out C) → and_then (turned g o) k ≡ and_then o (λ a e. k (g a) e)
then-turned g (got a e) k = refl
then-turned g (no n p) k = refl

module _ (named : ℕ → Bool) (t n : ℕ) (f : List ℕ) where
  new-same : (g : Going) (x : New × ℕ) → upto (go_new t n g x) ≡ upto_new t (upto g) x
  unfolding go_new upto_new
  new-same g x = refl

  pub news-stop : (rest : ℕ) (g : Going) (at : ℕ) → rest ≤ 0 → news_go named t n rest g f at ≡ got g at
  unfolding news_go
  news-stop rest g at le = runs-stop (new_field named t) (upto_new t) (go_new t n) upto new-same f rest g at le

  pub news-step : (rest : ℕ) (g : Going) (at : ℕ) → 0 < rest → news_go named t n rest g f at ≡ and_then (new_go named t n g f at) (λ g' e. news_go named t n (rest - 1) g' f e)
  unfolding news_go new_go
  news-step rest g at pos =
      runs-step (new_field named t) (upto_new t) (go_new t n) upto new-same f rest g at pos
      ∙ sym (then-turned (go_new t n g) (new_field named t (upto g) f at) (λ g' e. turned (fold (go_new t n) g') (times (rest - 1) (new_field named t) (upto_new t) (upto g') f e)))

  -- a field more
  pub new-counts : (g g' : Going) (at e : ℕ) → got g' e ≡ new_go named t n g f at → length g'.said.state.fields ≡ length g.said.state.fields + 1
  unfolding new_go go_new after_new
  new-counts g g' at e q = go (new_field named t (upto g) f at) q
    where
      go : (o : Out (New × ℕ)) → got g' e ≡ turned (go_new t n g) o → length g'.said.state.fields ≡ length g.said.state.fields + 1
      go (got x p) r =
          let z : g' ≡ go_new t n g x = cc r in
          ap (λ (h : Going). length h.said.state.fields) z ∙ length-append g.said.state.fields (record { owner = t; kind = noted x.0.kind } ∷ [])
      go (no k p) r = let z : ◌≡◌ {A = ℕ} 0 1 = cc r in absurd (omega arith)

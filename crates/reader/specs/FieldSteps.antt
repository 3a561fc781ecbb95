-- All fields of an entry are its known fields and then its new ones. Assumes nothing.
use Rattle.std.specs.Prelude.{◌≡◌, Bool, ℕ, ◌-◌}
use Rattle.std.proofs.Math.Path.{refl, sym, ap}
use Rattle.std.proofs.Common.{◌∙◌, arith}
use mathlib.Core.List.{List, [], ◌∷◌, ◌++◌, map, append_assoc}
use Rattle.std.proofs.Math.ListN.{length, length-map}
use Rattle.paper.specs.Reader.{Out, got, no, and_then, turned, ◌>>=◌, give, times}
use Rattle.paper.specs.Numbers.{number}
use Rattle.paper.specs.Lists.{fold, last_or}
use Rattle.paper.specs.Ledger.{New, State, objects_of}
use Rattle.paper.specs.Rules.{field_count_rules, old_due, new_dues}
use Rattle.paper.specs.File.{end_offset, new_field, upto_new, what, ends, fields, sized}
use Rattle.reader.specs.Going.{Going, go_olds, go_new, go_old, olds-are, news-are, sized-append, last-append}
use Rattle.reader.specs.Fields.{upto, olds_of, olds_go, news_go, go_fields, fields_go}
use Rattle.reader.specs.Runs.{times-many}

-- ── known fields leave what is known ──

olds-state : (added : ℕ) (is es : List ℕ) (g : Going) → (go_olds added g is es).said.state ≡ g.said.state
unfolding go_olds go_old
olds-state added [] es g = refl
olds-state added (i ∷ is) [] g = refl
olds-state added (i ∷ is) (e ∷ es) g = olds-state added is es (go_old added g i e)

pub olds-keep : (added : ℕ) (is : List ℕ) (g g' : Going) (f : List ℕ) (at e : ℕ) → got g' e ≡ olds_go added is g f at → g'.said.state ≡ g.said.state
unfolding olds_go
olds-keep added is g g' f at e q = go (times (length is) end_offset (λ before e. e) g.end f at) q
  where
    go : (o : Out (List ℕ)) → got g' e ≡ turned (go_olds added g is) o → g'.said.state ≡ g.said.state
    go (got es p) r = let z : g' ≡ go_olds added g is es = cc r in ap (λ (h : Going). h.said.state) z ∙ olds-state added is es g
    go (no k p) r = let z : ◌≡◌ {A = ℕ} 0 1 = cc r in absurd (omega arith)

-- ── both in turn ──

module _ (named : ℕ → Bool) (t added : ℕ) (g : Going) (f : List ℕ) where
  abbrev state : State
  state = g.said.state

  abbrev olds : List ℕ
  olds = olds_of added state t

  -- where the known fields have led, by their ends
  after-olds : List ℕ → Going
  after-olds es =
      record {
        said = record { state = state; due = g.said.due ++ sized g.end (map (old_due state added) olds) es; chunks = g.said.chunks };
        end = last_or g.end es;
      }

  both-are :
      (es : List ℕ) (xs : List (New × ℕ)) → length olds ≡ length es
      → go_fields added t g (map what xs, es ++ map ends xs) ≡ fold (go_new t (objects_of state t)) (after-olds es) xs
  unfolding go_fields after-olds
  both-are es xs many =
      let ds = map (old_due state added) olds in
      let new-dues = new_dues (length state.fields) (objects_of state t) (map what xs) in
      let long : length ds ≡ length es = length-map olds (old_due state added) ∙ many in
      rw (sized-append g.end ds es new-dues (map ends xs) long, last-append g.end es (map ends xs), ← append_assoc)
      (sym (news-are t (objects_of state t) xs (after-olds es)))

  news-after :
      (count : ℕ) (es : List ℕ) → length olds ≡ length es → (o : Out (List (New × ℕ)))
      → turned (go_fields added t g) (and_then o (λ xs e. got (map what xs, es ++ map ends xs) e)) ≡ turned (fold (go_new t (objects_of state t)) (after-olds es)) o
  news-after count es many (got xs e) = ap (λ (h : Going). got h e) (both-are es xs many)
  news-after count es many (no k p) = refl

  olds-then :
      (count at : ℕ) (o : Out (List ℕ)) → times (length olds) end_offset (λ before e. e) g.end f at ≡ o
      → turned (go_fields added t g) (and_then o (λ es e. and_then (times count (new_field named t) (upto_new t) (record { state = state; end = last_or g.end es }) f e) (λ xs p. got (map what xs, es ++ map ends xs) p)))
      ≡ and_then (turned (go_olds added g olds) o) (λ h e. news_go named t (objects_of state t) count h f e)
  unfolding news_go after-olds
  olds-then count at (got es e) is =
      let many : length olds ≡ length es = sym (times-many (length olds) end_offset (λ before e. e) g.end f at is) in
      news-after count es many (times count (new_field named t) (upto_new t) (record { state = state; end = last_or g.end es }) f e)
      ∙ ap (λ (h : Going). turned (fold (go_new t (objects_of state t)) h) (times count (new_field named t) (upto_new t) (upto h) f e)) (sym (olds-are added olds es g many))
  olds-then count at (no k p) is = refl

  pub fields-are :
      (at : ℕ)
      → fields_go named t added g f at
      ≡ and_then (number (field_count_rules state (length olds)) f at) (λ n e. and_then (olds_go added olds g f e) (λ h e. news_go named t (objects_of state t) (n - length olds) h f e))
  unfolding fields_go fields olds_go ◌>>=◌ give
  fields-are at = go (number (field_count_rules state (length olds)) f at)
    where
      go :
          (o : Out ℕ)
          → turned (go_fields added t g) (and_then o (λ n e. and_then (times (length olds) end_offset (λ before e. e) g.end f e) (λ es e. and_then (times (n - length olds) (new_field named t) (upto_new t) (record { state = state; end = last_or g.end es }) f e) (λ xs p. got (map what xs, es ++ map ends xs) p))))
          ≡ and_then o (λ n e. and_then (turned (go_olds added g olds) (times (length olds) end_offset (λ before e. e) g.end f e)) (λ h e. news_go named t (objects_of state t) (n - length olds) h f e))
      go (got n e) = olds-then (n - length olds) e (times (length olds) end_offset (λ before e. e) g.end f e) refl
      go (no k p) = refl

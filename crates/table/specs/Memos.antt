-- What is noted of a string as a type's name: it stays true where types are added. Assumes nothing.
use Rattle.std.specs.Prelude.{◌≡◌, ℕ, ◌+◌, ◌-◌, ◌<◌, ◌≤◌, List, [], ◌∷◌, ◌++◌, length, drop, refl}
use Rattle.std.proofs.Common.{sym, ap, ◌∙◌, zero-le, arith, length-append, length-drop}
use Rattle.std.proofs.Math.Option.{Option, none, some}
use Rattle.std.proofs.lemmas.List.{drop-append-le}
use Rattle.paper.specs.Lists.{same, place}
use Rattle.table.specs.View.{Passed, Memo}
use Rattle.table.specs.Loops.{place_end}
use Rattle.table.specs.ApartLaws.{place-longer, place-behind}

module _ (names : List (List ℕ)) (name : List ℕ) where
  -- nothing is known
  pub passed_none : Passed names name 0
  passed_none = record { few = zero-le; on = refl }

  pub memo-none : {m : ℕ} → m ≡ 0 → Memo names name m
  memo-none is = rw is (record { passed = λ lt. passed_none; named = λ le. absurd (omega arith) })

  -- no type has the name
  pub passed-all : {k : ℕ} → Passed names name k → length names ≤ k → place (same name) 0 names ≡ none
  passed-all {k} p le = p.on ∙ place_end (same name) names k le

  pub memo-no : {m : ℕ} → m < 33 → m ≡ length names → place (same name) 0 names ≡ none → Memo names name m
  memo-no {m} lt is q =
      record { passed = λ l. record { few = omega arith; on = q ∙ sym (place_end (same name) names m (omega arith)) }; named = λ le. absurd (omega arith) }

  -- one has it
  pub memo-yes : {t : ℕ} → place (same name) 0 names ≡ some t → Memo names name (33 + t)
  memo-yes {t} q = let z : t ≡ 33 + t - 33 = omega arith in record { passed = λ lt. absurd (omega arith); named = λ le. q ∙ ap some z }

  module _ (x : List ℕ) where
    passed-more : {k : ℕ} → Passed names name k → Passed (names ++ x ∷ []) name k
    passed-more {k} p =
        record {
          few = omega (arith, length-append names (x ∷ []), p.few);
          on = go (place (same name) 0 names) refl ∙ ap (place (same name) k) (sym (drop-append-le k names (x ∷ []) p.few));
        }
      where
        long : 0 + length names ≡ k + length (drop k names)
        long = omega (arith, length-drop k names, p.few)

        go : (o : Option ℕ) → place (same name) 0 names ≡ o → place (same name) 0 (names ++ x ∷ []) ≡ place (same name) k (drop k names ++ x ∷ [])
        go (some i) e = place-longer (same name) 0 names (x ∷ []) e ∙ sym (place-longer (same name) k (drop k names) (x ∷ []) (sym p.on ∙ e))
        go none e =
            place-behind (same name) 0 names (x ∷ []) e ∙ ap (λ (j : ℕ). place (same name) j (x ∷ [])) long
            ∙ sym (place-behind (same name) k (drop k names) (x ∷ []) (sym p.on ∙ e))

    pub memo-more : {m : ℕ} → Memo names name m → Memo (names ++ x ∷ []) name m
    memo-more w = record { passed = λ lt. passed-more (w.passed lt); named = λ le. place-longer (same name) 0 names (x ∷ []) (w.named le) }

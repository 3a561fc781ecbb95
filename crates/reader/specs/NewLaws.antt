-- The ways out of reading new fields, on plain values: one field, and a turn of the loop over all. Assumes nothing.
use Rattle.std.specs.Prelude.{Ok, Err, ◌≡◌, refl, Bool, List, ℕ, ◌+◌, ◌-◌, ◌≤◌, ◌<◌, ◌^◌, length}
use Rattle.std.proofs.Math.Path.{sym, ap}
use Rattle.std.proofs.Common.{◌∙◌, arith}
use Rattle.paper.specs.Reader.{Out, got, no, and_then, ◌>>=◌, give}
use Rattle.paper.specs.Numbers.{number}
use Rattle.paper.specs.Ledger.{Kind}
use Rattle.paper.specs.Rules.{field_name_rules}
use Rattle.paper.specs.File.{restrictions, end_offset, new_field}
use Rattle.numbers.specs.Cursors.{Read, was-got, was-refused, Outcome}
use Rattle.numbers.specs.declared.Cursor.{Cursor}
use Rattle.numbers.specs.declared.Refusal.{Refusal}
use Rattle.table.specs.View.{flds_of, view, Holds, Said, said, Now, fields_in}
use Rattle.reader.specs.declared.kinds.Kind.{Kind as KindRow}
use Rattle.reader.specs.Kinds.{KindReads}
use Rattle.reader.specs.KindLaws.{kind-was-got, kind-refusal}
use Rattle.reader.specs.Sound.{Open}
use Rattle.reader.specs.Going.{Going, go_new}
use Rattle.reader.specs.Fields.{going, new_go, news_go, out_going, Went, add_new, FieldAdded}
use Rattle.reader.specs.NewSteps.{news-stop, news-step, new-counts}
use Rattle.reader.specs.NewRows.{open-due}
use Rattle.numbers.specs.Faults.{number_of}

-- ── one field ──

-- a refusal, with the table as it was
refused-new : {f l : List ℕ} → Holds f l → (t i : ℕ) {at : ℕ} {r : Refusal} {o : Out Going} → (at ≤ length f → r.place ≤ length f) → o ≡ no (number_of r.fault) r.place → Went f l t i at (Err r) o
refused-new h t i inside is = record { holds = h; says = sym is; inside = inside; still_open = tt }

module _ {f l : List ℕ} (h : Holds f l) (named : ℕ → Bool) (t n end : ℕ) {at : ℕ} {a : Outcome ℕ} (restricted : Read restrictions 1 f at a) where
  pub new-restricted : {e : Refusal} → a ≡ Err e → Went f l t (length (flds_of l)) at (Err e) (new_go named t n (going f l end) f at)
  unfolding new_go new_field ◌>>=◌
  new-restricted is =
      let R = was-refused restricted is in
      refused-new h t (length (flds_of l)) R.inside (rw R.says)

  module _ {x : ℕ} {c₁ : Cursor} (is₁ : a ≡ Ok (x, c₁)) {k : Outcome KindRow} (kinded : KindReads named f c₁.at k) where
    pub new-unkind : {e : Refusal} → k ≡ Err e → Went f l t (length (flds_of l)) at (Err e) (new_go named t n (going f l end) f at)
    unfolding new_go new_field ◌>>=◌
    new-unkind is =
        let R₁ = was-got restricted is₁ in
        let R = kind-refusal kinded is in
        refused-new h t (length (flds_of l)) (λ lo. R.inside (R₁.inside lo)) (rw (R₁.says, R.says))

    module _ {row : KindRow} {c₂ : Cursor} (is₂ : k ≡ Ok (row, c₂)) {b : Outcome ℕ} (name : Read (number (field_name_rules t (view f l))) (2 ^ 64) f c₂.at b) where
      pub new-unnamed : {e : Refusal} → b ≡ Err e → Went f l t (length (flds_of l)) at (Err e) (new_go named t n (going f l end) f at)
      unfolding new_go new_field ◌>>=◌
      new-unnamed is =
          let R₁ = was-got restricted is₁ in
          let R₂ = kind-was-got kinded is₂ in
          let R = was-refused name is in
          refused-new h t (length (flds_of l)) (λ lo. R.inside (R₂.inside (R₁.inside lo))) (rw (R₁.says, R₂.says, R.says))

      module _ {m : ℕ} {c₃ : Cursor} (is₃ : b ≡ Ok (m, c₃)) {d : Outcome ℕ} (ended : Read (end_offset end) (2 ^ 64) f c₃.at d) where
        pub new-unended : {e : Refusal} → d ≡ Err e → Went f l t (length (flds_of l)) at (Err e) (new_go named t n (going f l end) f at)
        unfolding new_go new_field ◌>>=◌
        new-unended is =
            let R₁ = was-got restricted is₁ in
            let R₂ = kind-was-got kinded is₂ in
            let R₃ = was-got name is₃ in
            let R = was-refused ended is in
            refused-new h t (length (flds_of l)) (λ lo. R.inside (R₃.inside (R₂.inside (R₁.inside lo)))) (rw (R₁.says, R₂.says, R₃.says, R.says))

        module _ {e : ℕ} {c₄ : Cursor} (is₄ : d ≡ Ok (e, c₄)) {l' : List ℕ} (added : FieldAdded f t n m row (e - end) l l') {i : ℕ} (o : Open (said f l) t i) (room : fields_in l < 128) where
          -- the kind that was read
          own : Kind
          own = (kind-was-got kinded is₂).own

          now : Now f l' (add_new t n (said f l) (record { kind = own; name = m }) (e - end))
          unfolding own
          now = added.says own (kind-was-got kinded is₂).kept

          new_is : new_go named t n (going f l end) f at ≡ got (go_new t n (going f l end) (record { kind = own; name = m }, e)) c₄.at
          unfolding own new_go new_field ◌>>=◌ give
          new_is = rw ((was-got restricted is₁).says, (kind-was-got kinded is₂).says, (was-got name is₃).says, (was-got ended is₄).says)

          new-says : out_going f l' (Ok (e, c₄)) ≡ new_go named t n (going f l end) f at
          unfolding go_new add_new
          new-says = ap (λ (s : Said). got (record { said = s; end = e }) c₄.at) now.says ∙ sym new_is

          pub new-got : Went f l' t (length (flds_of l')) at (Ok (e, c₄)) (new_go named t n (going f l end) f at)
          new-got =
              let more : length (flds_of l') ≡ length (flds_of l) + 1 = new-counts named t n f (going f l end) (going f l' e) at c₄.at new-says in
              record {
                holds = now.holds;
                says = new-says;
                inside = λ lo. (was-got ended is₄).inside ((was-got name is₃).inside ((kind-was-got kinded is₂).inside ((was-got restricted is₁).inside lo)));
                still_open = rw more (open-due h o room n (e - end) (record { kind = own; name = m }) now);
              }

-- ── all of them ──

-- `rest` are left, of `all`: what is left to do from here gives the whole
pub record NewsGoing (f l₀ l : List ℕ) (named : ℕ → Bool) (t n end at₀ all rest last at : ℕ) : Type 0 where
  pub holds : Holds f l
  pub still_open : Open (said f l) t (length (flds_of l))
  pub room : fields_in l + rest ≤ 128
  pub long : length l ≡ length l₀
  pub inside : at₀ ≤ length f → at ≤ length f
  pub says : news_go named t n all (going f l₀ end) f at₀ ≡ news_go named t n rest (going f l last) f at

pub news-begin : {f l : List ℕ} → Holds f l → {t : ℕ} → Open (said f l) t (length (flds_of l)) → {all : ℕ} → fields_in l + all ≤ 128 → (named : ℕ → Bool) (n end at : ℕ) → NewsGoing f l l named t n end at all all end at
news-begin h o room named n end at = record { holds = h; still_open = o; room = room; long = refl; inside = λ lo. lo; says = refl }

module _ {f l₀ l : List ℕ} {named : ℕ → Bool} {t n end at₀ all rest last at : ℕ} (g : NewsGoing f l₀ l named t n end at₀ all rest last at) where
  pub news-done : rest ≤ 0 → Went f l t (length (flds_of l)) at₀ (Ok (last, record { at = at })) (news_go named t n all (going f l₀ end) f at₀)
  news-done le = record { holds = g.holds; says = sym (g.says ∙ news-stop named t n f rest (going f l last) at le); inside = g.inside; still_open = g.still_open }

  module _ (pos : 0 < rest) {l' : List ℕ} {a : Outcome ℕ} (one : Went f l' t (length (flds_of l')) at a (new_go named t n (going f l last) f at)) where
    turn : news_go named t n all (going f l₀ end) f at₀ ≡ and_then (out_going f l' a) (λ g' e. news_go named t n (rest - 1) g' f e)
    turn = g.says ∙ news-step named t n f rest (going f l last) at pos ∙ rw (← one.says) refl

    pub news-no : {e : Refusal} → a ≡ Err e → Went f l' t (length (flds_of l')) at₀ (Err e) (news_go named t n all (going f l₀ end) f at₀)
    news-no is =
        let one' = rw is at one in
        record { holds = one'.holds; says = sym (turn ∙ rw is refl); inside = λ lo. one'.inside (g.inside lo); still_open = tt }

    pub news-next : {e : ℕ} {c : Cursor} → a ≡ Ok (e, c) → length l' ≡ length l → {left : ℕ} → left ≡ rest - 1 → NewsGoing f l₀ l' named t n end at₀ all left e c.at
    news-next {e} {c} is long fewer =
        let one' = rw is at one in
        let more : length (flds_of l') ≡ length (flds_of l) + 1 = new-counts named t n f (going f l last) (going f l' e) at c.at one'.says in
        rw fewer
        (record {
          holds = one'.holds;
          still_open = one'.still_open;
          room = omega (arith, more, one'.holds.ok.flds-count, g.holds.ok.flds-count, g.room);
          long = long ∙ g.long;
          inside = λ lo. one'.inside (g.inside lo);
          says = turn ∙ rw is refl;
        })

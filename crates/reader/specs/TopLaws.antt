-- The ways out of `read_head`, on plain values: each section adds what one more reading has learnt. Assumes nothing.
use Rattle.std.specs.Prelude.{Ok, Err, ◌≡◌, refl, Bool, true, false, List, ℕ, ◌≤◌, ◌<◌, length}
use Rattle.std.proofs.Common.{sym, ap, ◌∙◌}
use Rattle.std.proofs.Math.Option.{Option}
use Rattle.paper.specs.Reader.{Reader, got, no, ◌>>=◌, give, only}
use Rattle.paper.specs.Numbers.{number}
use Rattle.paper.specs.Lists.{given?, or}
use Rattle.paper.specs.Ledger.{State}
use Rattle.paper.specs.Rules.{new?, type_of, type_name_rules, super_name_rules, super_of, count_rules}
use Rattle.paper.specs.File.{small, restrictions, head}
use Rattle.numbers.specs.Cursors.{Read, was-got, Outcome, was-refused}
use Rattle.numbers.specs.declared.Cursor.{Cursor}
use Rattle.numbers.specs.declared.Refusal.{Refusal}
use Rattle.table.specs.View.{maybe}
use Rattle.reader.specs.declared.heads.Name.{Name}
use Rattle.reader.specs.declared.heads.Super.{Super}
use Rattle.reader.specs.Heads.{due, Resolved, NameRead, AboveRead, DueRead, TopRead}
use Rattle.reader.specs.CountLaws.{given-none}
use Rattle.numbers.specs.Faults.{number_of}

-- ── the definition, by what each of its readings gives ──

module _ (s : State) (f : List ℕ) (at : ℕ) where
  head-no-name : {k p : ℕ} → number (type_name_rules s) f at ≡ no k p → head s f at ≡ no k p
  unfolding head ◌>>=◌
  head-no-name h = rw h

  module _ {name e₁ : ℕ} (h₁ : number (type_name_rules s) f at ≡ got name e₁) where
    head-no-super : {k p : ℕ} → only (new? s name) (number (super_name_rules s (type_of s name))) f e₁ ≡ no k p → head s f at ≡ no k p
    unfolding head ◌>>=◌
    head-no-super h = rw (h₁, h)

    module _ {super : Option ℕ} {e₂ : ℕ} (h₂ : only (new? s name) (number (super_name_rules s (type_of s name))) f e₁ ≡ got super e₂) where
      head-no-start : {k p : ℕ} → only (given? (super_of s name super)) small f e₂ ≡ no k p → head s f at ≡ no k p
      unfolding head ◌>>=◌
      head-no-start h = rw (h₁, h₂, h)

      module _ {start : Option ℕ} {e₃ : ℕ} (h₃ : only (given? (super_of s name super)) small f e₂ ≡ got start e₃) where
        head-no-count : {k p : ℕ} → number (count_rules s (super_of s name super) (or start 0)) f e₃ ≡ no k p → head s f at ≡ no k p
        unfolding head ◌>>=◌
        head-no-count h = rw (h₁, h₂, h₃, h)

        module _ {n e₄ : ℕ} (h₄ : number (count_rules s (super_of s name super) (or start 0)) f e₃ ≡ got n e₄) where
          head-no-none : {k p : ℕ} → only (new? s name) restrictions f e₄ ≡ no k p → head s f at ≡ no k p
          unfolding head ◌>>=◌
          head-no-none h = rw (h₁, h₂, h₃, h₄, h)

          head-got : {o : Option ℕ} {e₅ : ℕ} → only (new? s name) restrictions f e₄ ≡ got o e₅ → head s f at ≡ got (record { name = name; super = super; start = start; count = n }) e₅
          unfolding head ◌>>=◌ give
          head-got h = rw (h₁, h₂, h₃, h₄, h)

-- ── what the code's readings give ──

stop : {s : State} {f : List ℕ} {at : ℕ} {u : Refusal} → head s f at ≡ no (number_of u.fault) u.place → (at ≤ length f → u.place ≤ length f) → TopRead s f at (Err u)
stop h lo = record { says = sym h; inside = lo; told = tt }

pub or-due : (b : Bool) (n : ℕ) → (b ≡ false → n ≡ 0) → or (due b n) 0 ≡ n
unfolding or
or-due true n h = refl
or-due false n h = sym (h refl)

module _ {s : State} {f : List ℕ} {at : ℕ} {a : Outcome Name} (na : NameRead s f at a) where
  pub top-no-name : {e : Refusal} → a ≡ Err e → TopRead s f at (Err e)
  top-no-name {e} is =
      let S : NameRead s f at (Err e) = rw is at na in
      stop (head-no-name s f at (sym S.says)) S.inside

  module _ {x : Name} {c₁ : Cursor} (isa : a ≡ Ok (x, c₁)) where
    name-got : NameRead s f at (Ok (x, c₁))
    name-got = rw isa at na

    pub resolved : Resolved s x
    resolved = name-got.told

    as-new : {A : Type 0} (q : Reader A) (e : ℕ) → only x.fresh q f e ≡ only (new? s x.number) q f e
    as-new q e = ap (λ (b : Bool). only b q f e) resolved.fresh

    super-as : only x.fresh (number (super_name_rules s x.typ)) f c₁.at ≡ only (new? s x.number) (number (super_name_rules s (type_of s x.number))) f c₁.at
    super-as = as-new (number (super_name_rules s x.typ)) c₁.at ∙ rw resolved.typ refl

    module _ {b : Outcome Super} (ab : AboveRead s x f c₁.at b) where
      pub top-no-super : {e : Refusal} → b ≡ Err e → TopRead s f at (Err e)
      top-no-super {e} is =
          let S : AboveRead s x f c₁.at (Err e) = rw is at ab in
          stop (head-no-super s f at (sym name-got.says) (sym super-as ∙ sym S.says)) (λ lo. S.inside (name-got.inside lo))

      module _ {y : Super} {c₂ : Cursor} (isb : b ≡ Ok (y, c₂)) where
        above-got : AboveRead s x f c₁.at (Ok (y, c₂))
        above-got = rw isb at ab

        in₂ : at ≤ length f → c₂.at ≤ length f
        in₂ lo = above-got.inside (name-got.inside lo)

        h₂ : only (new? s x.number) (number (super_name_rules s (type_of s x.number))) f c₁.at ≡ got (due x.fresh y.number) c₂.at
        h₂ = sym super-as ∙ sym above-got.says

        start-as : only (given? (maybe y.up)) small f c₂.at ≡ only (given? (super_of s x.number (due x.fresh y.number))) small f c₂.at
        start-as = ap (λ (o : Option ℕ). only (given? o) small f c₂.at) above-got.told

        module _ {d : Outcome ℕ} (st : DueRead (given? (maybe y.up)) small 65536 f c₂.at d) where
          pub top-no-start : {e : Refusal} → d ≡ Err e → TopRead s f at (Err e)
          top-no-start {e} is =
              let S : DueRead (given? (maybe y.up)) small 65536 f c₂.at (Err e) = rw is at st in
              stop (head-no-start s f at (sym name-got.says) h₂ (sym start-as ∙ sym S.says)) (λ lo. S.inside (in₂ lo))

          module _ {start : ℕ} {c₃ : Cursor} (isd : d ≡ Ok (start, c₃)) where
            start-got : DueRead (given? (maybe y.up)) small 65536 f c₂.at (Ok (start, c₃))
            start-got = rw isd at st

            pub start-below : start < 65536
            start-below = start-got.below

            in₃ : at ≤ length f → c₃.at ≤ length f
            in₃ lo = start-got.inside (in₂ lo)

            h₃ : only (given? (super_of s x.number (due x.fresh y.number))) small f c₂.at ≡ got (due (given? (maybe y.up)) start) c₃.at
            h₃ = sym start-as ∙ sym start-got.says

            count-as : number (count_rules s (maybe y.up) start) f c₃.at ≡ number (count_rules s (super_of s x.number (due x.fresh y.number)) (or (due (given? (maybe y.up)) start) 0)) f c₃.at
            count-as = rw (or-due (given? (maybe y.up)) start start-got.none, ← above-got.told) refl

            module _ {e : Outcome ℕ} (co : Read (number (count_rules s (maybe y.up) start)) 65536 f c₃.at e) where
              pub top-no-count : {r : Refusal} → e ≡ Err r → TopRead s f at (Err r)
              top-no-count is =
                  let S = was-refused co is in
                  stop (head-no-count s f at (sym name-got.says) h₂ h₃ (sym count-as ∙ S.says)) (λ lo. S.inside (in₃ lo))

              module _ {n : ℕ} {c₄ : Cursor} (ise : e ≡ Ok (n, c₄)) where
                pub count-below : n < 65536
                count-below = (was-got co ise).below

                in₄ : at ≤ length f → c₄.at ≤ length f
                in₄ lo = (was-got co ise).inside (in₃ lo)

                h₄ : number (count_rules s (super_of s x.number (due x.fresh y.number)) (or (due (given? (maybe y.up)) start) 0)) f c₃.at ≡ got n c₄.at
                h₄ = sym count-as ∙ (was-got co ise).says

                module _ {g : Outcome ℕ} (re : DueRead x.fresh restrictions 1 f c₄.at g) where
                  pub top-no-none : {r : Refusal} → g ≡ Err r → TopRead s f at (Err r)
                  top-no-none {r} is =
                      let S : DueRead x.fresh restrictions 1 f c₄.at (Err r) = rw is at re in
                      stop (head-no-none s f at (sym name-got.says) h₂ h₃ h₄ (sym (as-new restrictions c₄.at) ∙ sym S.says)) (λ lo. S.inside (in₄ lo))

                  pub top-got : {k : ℕ} {c₅ : Cursor} → g ≡ Ok (k, c₅) → TopRead s f at (Ok (record { name = x; above = y; start = start; count = n }, c₅))
                  top-got {k} {c₅} is =
                      let S : DueRead x.fresh restrictions 1 f c₄.at (Ok (k, c₅)) = rw is at re in
                      record {
                        says = sym (head-got s f at (sym name-got.says) h₂ h₃ h₄ (sym (as-new restrictions c₄.at) ∙ sym S.says));
                        inside = λ lo. S.inside (in₄ lo);
                        told =
                            record {
                              name = resolved;
                              up = above-got.told;
                              start = start-below;
                              none = λ z. start-got.none (given-none y.up z);
                              count = count-below;
                            };
                      }

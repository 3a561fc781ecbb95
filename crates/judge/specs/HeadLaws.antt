-- The ways out of what holds a listed head to the rules, on plain values. Assumes nothing.
use Rattle.std.proofs.Math.Path.{◌≡◌, refl, sym, ap, subst}
use Rattle.std.proofs.Common.{◌∙◌, arith, le-leb}
use Rattle.std.specs.Prelude as prelude
use Rattle.std.specs.Prelude.{Ok, Err, Some, None, Bool, ◌&&◌, List, [], ◌∷◌, ℕ, ◌≤◌, ◌<◌, ◌^◌}
use Rattle.std.proofs.Math.Bool.{true, false}
use Rattle.std.proofs.Math.Option.{Option, none, some}
use Rattle.std.proofs.lemmas.Bool.{lt-leb}
use Rattle.paper.specs.Reader.{when◌then◌else◌, got, no, ◌>>=◌, ◌>>◌, turned, hold, Rule, ◌or_no◌}
use Rattle.paper.specs.Lists.{given?, or}
use Rattle.paper.specs.Ledger.{State, Head, type_in}
use Rattle.paper.specs.Rules.{small_rules, type_name_rules, super_name_rules, super_named, super_of, count_rules}
use Rattle.paper.specs.Keeps.{every, hold?, number?, only?, head?}
use Rattle.paper.specs.Scan.{heed, read_type}
use Rattle.numbers.specs.Cursors.{out_of, value_of, Outcome}
use Rattle.numbers.specs.declared.Cursor.{Cursor}
use Rattle.numbers.specs.declared.Refusal.{Refusal}
use Rattle.table.specs.View.{view, maybe, Holds}
use Rattle.words.specs.Answers.{Scanned, option}
use Rattle.words.specs.declared.read.Place.{Place}
use Rattle.parse.specs.Answers.{head_of as listed, out_type}
use Rattle.parse.specs.declared.TypeLine.{TypeLine}
use Rattle.reader.specs.Ruled.{Judged, refused-not-got, held}
use Rattle.reader.specs.Keeping.{rules-hold, rules-break, number-as, judged-keeps, judged-breaks}
use Rattle.reader.specs.CountLaws.{given-none}
use Rattle.reader.specs.TopLaws.{or-due}
use Rattle.reader.specs.Heads.{due, Resolved, out_name, NameJudged, out_above, SuperJudged, CountJudged, Placed, Entered}
use Rattle.reader.specs.declared.heads.Name.{Name}
use Rattle.reader.specs.declared.heads.Super.{Super}
use Rattle.reader.specs.declared.heads.Top.{Top}
use Rattle.judge.specs.Heads.{super_kept?, SuperKept, SuperTold, StartKept, StartTold, HeadKept, HeadJudged, kept_type, HeadTold}

-- ── what was held to rules, and is handed on as a number that is due ──

turned-got : (rs : List Rule) (n : ℕ) {k e : ℕ} → turned (due true) (hold rs 0 (got n 0)) ≡ got (some k) e → (k ≡ n) × (hold? rs ≡ true)
unfolding hold?
turned-got [] n {k} q = let z : k ≡ n = cc q in (z, refl)
turned-got ((true or_no m) ∷ rs) n q = turned-got rs n q
turned-got ((false or_no m) ∷ rs) n q = refused-not-got q

turned-no : (rs : List Rule) (n : ℕ) {k p : ℕ} → turned (due true) (hold rs 0 (got n 0)) ≡ no k p → hold? rs ≡ false
unfolding hold?
turned-no [] n q = refused-not-got (sym q)
turned-no ((true or_no m) ∷ rs) n q = turned-no rs n q
turned-no ((false or_no m) ∷ rs) n q = refl

-- ── the super type ──

module _ {s : State} {x : Name} (known : Resolved s x) where
  super-is : (o : Option ℕ) {b : Bool} → x.fresh ≡ b → super_kept? s x.number o ≡ only? b (super_name_rules s x.typ) o
  super-is o e = rw (← known.typ, ← known.fresh, e) refl

  module _ {m : prelude.Option ℕ} (is : m ≡ None) where
    pub dash-new : x.fresh ≡ true → SuperTold s x (option m) None
    unfolding only?
    dash-new e = record { told = ap (λ (u : prelude.Option ℕ). super_kept? s x.number (option u)) is ∙ super-is none e }

    pub dash-known : x.fresh ≡ false → {up : ℕ} → maybe up ≡ (type_in s.types x.typ).super → SuperTold s x (option m) (Some (record { number = 0; up = up }))
    unfolding only? super_of
    dash-known e {up} q =
        subst (λ (u : prelude.Option ℕ). SuperTold s x (option u) (Some (record { number = 0; up = up }))) (sym is)
        (record {
          told =
              record {
                keeps = super-is none e;
                same = ap (λ (b : Bool). due b 0) e;
                up = q ∙ ap (λ (t : ℕ). (type_in s.types t).super) known.typ;
              };
        })

  module _ {m : prelude.Option ℕ} {n : ℕ} (is : m ≡ Some n) where
    given_is : {b : Bool} → super_kept? s x.number (some n) ≡ b → super_kept? s x.number (option m) ≡ b
    given_is q = ap (λ (u : prelude.Option ℕ). super_kept? s x.number (option u)) is ∙ q

    pub given-known : x.fresh ≡ false → SuperTold s x (option m) None
    unfolding only?
    given-known e = record { told = given_is (super-is (some n) e) }

    module _ (e : x.fresh ≡ true) (fits : n < 2 ^ 64) {a : Outcome Super} (judged : SuperJudged s x.typ n 0 0 a) where
      outcome : {b : Outcome Super} → a ≡ b → turned (due true) (hold (super_name_rules s x.typ n) 0 (got n 0)) ≡ out_above true b
      outcome q = sym judged.says ∙ ap (out_above true) q

      pub given-bad : {r : Refusal} → a ≡ Err r → SuperTold s x (option m) None
      unfolding only?
      given-bad q = record { told = given_is (super-is (some n) e ∙ number-as (super_name_rules s x.typ) fits (turned-no (super_name_rules s x.typ n) n (outcome q))) }

      pub given-good : {y : Super} {c : Cursor} → a ≡ Ok (y, c) → SuperTold s x (option m) (Some y)
      unfolding only? super_of
      given-good {y} {c} q =
          let w = turned-got (super_name_rules s x.typ n) n (outcome q) in
          let S : SuperJudged s x.typ n 0 0 (Ok (y, c)) = rw q at judged in
          subst (λ (u : prelude.Option ℕ). SuperTold s x (option u) (Some y)) (sym is)
          (record {
            told =
                record {
                  keeps = super-is (some n) e ∙ number-as (super_name_rules s x.typ) fits w.1;
                  same = ap (λ (b : Bool). due b y.number) e ∙ ap some w.0;
                  up = S.told ∙ ap (super_named s) w.0;
                };
          })

-- ── the local start ──

as-listed : {m u : prelude.Option ℕ} → m ≡ u → (b : Bool) → only? b small_rules (option m) ≡ only? b small_rules (option u)
as-listed is b = ap (λ (u : prelude.Option ℕ). only? b small_rules (option u)) is

-- it fits a cell
pub small-fits : {n : ℕ} → n ≤ 65535 → n < 2 ^ 32
small-fits h = omega arith

module _ {b : Bool} {m : prelude.Option ℕ} where
  pub start-lacks : b ≡ true → m ≡ None → StartTold b (option m) None
  unfolding only?
  start-lacks e is = record { told = as-listed is b ∙ rw e refl }

  pub start_none : b ≡ false → m ≡ None → StartTold b (option m) (Some 0)
  unfolding only?
  start_none e is = record { told = record { keeps = as-listed is b ∙ rw e refl; same = rw (e, is) refl; below = omega arith; none = λ w. refl } }

  module _ {n : ℕ} (is : m ≡ Some n) where
    pub start-stray : b ≡ false → StartTold b (option m) None
    unfolding only?
    start-stray e = record { told = as-listed is b ∙ rw e refl }

    module _ (e : b ≡ true) (fits : n < 2 ^ 64) where
      pub start-big : 65535 < n → StartTold b (option m) None
      unfolding only? hold? small_rules
      start-big lt = record { told = as-listed is b ∙ rw e (number-as small_rules fits (rw (lt-leb n 65535 lt) refl)) }

      pub start_small : n ≤ 65535 → StartTold b (option m) (Some n)
      unfolding only? hold? small_rules
      start_small le =
          record {
            told =
                record {
                  keeps = as-listed is b ∙ rw e (number-as small_rules fits (rw (le-leb n 65535 le) refl));
                  same = rw (e, is) refl;
                  below = omega arith;
                  none = λ w. let z : ◌≡◌ {A = ℕ} 0 1 = cc (sym e ∙ w) in absurd (omega arith);
                };
          }

-- ── the head ──

-- by its four numbers
module _ (s : State) (h : Head) where
  head-no-name : number? (type_name_rules s) h.name ≡ false → head? s h ≡ false
  unfolding head? every
  head-no-name e₁ = rw e₁ refl

  module _ (e₁ : number? (type_name_rules s) h.name ≡ true) where
    head-no-super : super_kept? s h.name h.super ≡ false → head? s h ≡ false
    unfolding head? every
    head-no-super e₂ = rw (e₁, e₂) refl

    module _ (e₂ : super_kept? s h.name h.super ≡ true) where
      head-no-start : only? (given? (super_of s h.name h.super)) small_rules h.start ≡ false → head? s h ≡ false
      unfolding head? every
      head-no-start e₃ = rw (e₁, e₂, e₃) refl

      module _ (e₃ : only? (given? (super_of s h.name h.super)) small_rules h.start ≡ true) where
        head-as-count : {k : Bool} → number? (count_rules s (super_of s h.name h.super) (or h.start 0)) h.count ≡ k → head? s h ≡ k
        unfolding head? every
        head-as-count {k} e₄ = rw (e₁, e₂, e₃, e₄) (go k)
          where
            go : (k : Bool) → (k && true) ≡ k
            go true = refl
            go false = refl

one-head : {n n' : ℕ} {u u' v v' : Option ℕ} {k k' : ℕ} → n ≡ n' → u ≡ u' → v ≡ v' → k ≡ k' → ◌≡◌ {A = Head} (record { name = n; super = u; start = v; count = k }) (record { name = n'; super = u'; start = v'; count = k' })
one-head p q r w = rw (p, q, r, w) refl

pub few-objects : {l : List ℕ} {up start n at next : ℕ} {r : Outcome ℕ} → CountJudged l up start n at next r → {k : ℕ} {c : Cursor} → r ≡ Ok (k, c) → k < 65536
few-objects j is = subst (λ (u : Outcome ℕ). value_of u < 65536) is j.below

module _ {s : State} (line : TypeLine) (fits : line.name < 2 ^ 64) {a : Outcome Name} (na : NameJudged s line.name 0 0 a) where
  name_out : {r : Outcome Name} → a ≡ r → hold (type_name_rules s line.name) 0 (got line.name 0) ≡ out_name r
  name_out is = sym na.says ∙ ap out_name is

  pub bad-name : {e : Refusal} → a ≡ Err e → HeadJudged s (listed line) None
  bad-name is =
      record { told = head-no-name s (listed line) (number-as (type_name_rules s) fits (rules-break (type_name_rules s line.name) 0 line.name 0 (name_out is))) }

  module _ {x : Name} {c : Cursor} (isa : a ≡ Ok (x, c)) where
    pub resolved : Resolved s x
    resolved = let S : NameJudged s line.name 0 0 (Ok (x, c)) = rw isa at na in S.told

    same_name : line.name ≡ x.number
    same_name = (held (type_name_rules s line.name) 0 line.name x.number 0 c.at (name_out isa)).0

    kept-name : number? (type_name_rules s) line.name ≡ true
    kept-name = number-as (type_name_rules s) fits (rules-hold (type_name_rules s line.name) 0 line.name 0 (name_out isa))

    module _ {b : prelude.Option Super} (ab : SuperTold s x (option line.sup) b) where
      pub bad-super : b ≡ None → HeadJudged s (listed line) None
      bad-super is =
          let S : SuperTold s x (option line.sup) None = rw is at ab in
          record { told = head-no-super s (listed line) kept-name (ap (λ (k : ℕ). super_kept? s k (option line.sup)) same_name ∙ S.told) }

      module _ {y : Super} (isb : b ≡ Some y) where
        super-kept : SuperKept s x (option line.sup) y
        super-kept = let S : SuperTold s x (option line.sup) (Some y) = rw isb at ab in S.told

        kept-super : super_kept? s line.name (option line.sup) ≡ true
        kept-super = ap (λ (k : ℕ). super_kept? s k (option line.sup)) same_name ∙ super-kept.keeps

        above-is : super_of s line.name (option line.sup) ≡ maybe y.up
        above-is = ap (λ (k : ℕ). super_of s k (option line.sup)) same_name ∙ sym super-kept.up

        start_is : only? (given? (super_of s line.name (option line.sup))) small_rules (option line.start) ≡ only? (given? (maybe y.up)) small_rules (option line.start)
        start_is = ap (λ (o : Option ℕ). only? (given? o) small_rules (option line.start)) above-is

        module _ {d : prelude.Option ℕ} (st : StartTold (given? (maybe y.up)) (option line.start) d) where
          pub bad-start : d ≡ None → HeadJudged s (listed line) None
          bad-start is =
              let S : StartTold (given? (maybe y.up)) (option line.start) None = rw is at st in
              record { told = head-no-start s (listed line) kept-name kept-super (start_is ∙ S.told) }

          module _ {n : ℕ} (isd : d ≡ Some n) where
            start-kept : StartKept (given? (maybe y.up)) (option line.start) n
            start-kept = let S : StartTold (given? (maybe y.up)) (option line.start) (Some n) = rw isd at st in S.told

            or-start : or (option line.start) 0 ≡ n
            or-start = ap (λ (o : Option ℕ). or o 0) (sym start-kept.same) ∙ or-due (given? (maybe y.up)) n start-kept.none

            count-is : number? (count_rules s (super_of s line.name (option line.sup)) (or (option line.start) 0)) line.count ≡ number? (count_rules s (maybe y.up) n) line.count
            count-is =
                ap (λ (o : Option ℕ). number? (count_rules s o (or (option line.start) 0)) line.count) above-is
                ∙ ap (λ (k : ℕ). number? (count_rules s (maybe y.up) k) line.count) or-start

            module _ (small : line.count < 2 ^ 64) {e : Outcome ℕ} (co : Judged (count_rules s (maybe y.up) n) line.count 0 0 e) where
              pub bad-count : {r : Refusal} → e ≡ Err r → HeadJudged s (listed line) None
              bad-count is =
                  record {
                    told =
                        head-as-count s (listed line) kept-name kept-super (start_is ∙ start-kept.keeps)
                        (count-is ∙ judged-breaks (count_rules s (maybe y.up) n) small co is);
                  }

              pub good-head : {k : ℕ} {c' : Cursor} → e ≡ Ok (k, c') → value_of e < 65536 → HeadJudged s (listed line) (Some (record { name = x; above = y; start = n; count = k }))
              good-head {k} {c'} is lt =
                  let same_count : line.count ≡ k =
                  (held (count_rules s (maybe y.up) n line.count) 0 line.count k 0 c'.at (sym co.says ∙ ap out_of is)).0 in
                  let few : k < 65536 = subst (λ (u : Outcome ℕ). value_of u < 65536) is lt in
                  record {
                    told =
                        record {
                          keeps =
                              head-as-count s (listed line) kept-name kept-super (start_is ∙ start-kept.keeps)
                              (count-is ∙ judged-keeps (count_rules s (maybe y.up) n) small co is);
                          same = one-head (sym same_name) super-kept.same start-kept.same (sym same_count);
                          placed =
                              record {
                                name = resolved;
                                up = super-kept.up ∙ ap (super_of s x.number) (sym super-kept.same);
                                start = start-kept.below;
                                none = λ z. start-kept.none (given-none y.up z);
                                count = few;
                              };
                        };
                  }

-- ── the line of a head ──

module _ {t l : List ℕ} (holds : Holds t l) (at : ℕ) {a : Scanned TypeLine} (read : out_type a ≡ read_type t at) where
  pub bad-line : a ≡ None → HeadTold t l at None l
  unfolding kept_type ◌>>=◌
  bad-line is =
      let q : read_type t at ≡ no 20 0 = sym read ∙ ap out_type is in
      record { told = record { read = rw q refl; holds = holds } }

  module _ {line : TypeLine} {c : Place} (is : a ≡ Some (line, c)) {b : prelude.Option Top} (judged : HeadJudged (view t l) (listed line) b) where
    line_read : read_type t at ≡ got (listed line, line.fields) c.at
    line_read = sym read ∙ ap out_type is

    pub bad-head : b ≡ None → HeadTold t l at None l
    unfolding kept_type ◌>>=◌ ◌>>◌ heed when◌then◌else◌
    bad-head isb =
        let S : HeadJudged (view t l) (listed line) None = rw isb at judged in
        record { told = record { read = rw (line_read, S.told) refl; holds = holds } }

    module _ {top : Top} (isb : b ≡ Some top) where
      kept : HeadKept (view t l) (listed line) top
      kept = let S : HeadJudged (view t l) (listed line) (Some top) = rw isb at judged in S.told

      pub text-placed : Placed (view t l) top
      text-placed = kept.placed

      pub text-entered : {l' : List ℕ} → Entered t l l' top → HeadTold t l at (Some ((top, line.fields), c)) l'
      text-entered entry =
          record {
            told = record { head = listed line; read = line_read; keeps = kept.keeps; same = kept.same; entered = entry };
          }

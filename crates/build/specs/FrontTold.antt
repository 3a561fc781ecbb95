-- The answer of reading the front of a listed pair. Assumes nothing.
use Rattle.std.specs.Prelude as prelude
use Rattle.std.specs.Prelude.{None, Some, ◌≡◌, refl, Bool, true, false, ◌&&◌, not, List, ℕ, ◌+◌, ◌-◌, ◌^◌, ◌≤◌, ◌<◌, leb, length}
use Rattle.std.proofs.Common.{sym, ap, ◌∙◌, subst, arith, lt_of_not-le, leb-true, le-leb, lt-ltb}
use Rattle.std.proofs.Math.Decide.{dec_le}
use Rattle.std.proofs.lemmas.Bool.{not-true, not-false, lt-leb}
use Rattle.paper.specs.Reader.{got, no as bad}
use Rattle.paper.specs.Bounds.{most_strings, most_objects}
use Rattle.paper.specs.Ledger.{State}
use Rattle.paper.specs.Rules.{small_rules, strings_rules}
use Rattle.paper.specs.Keeps.{hold?, number?}
use Rattle.paper.specs.Scan.{read_pair, pair_text}
use Rattle.laws.specs.Bools.{number-split, and_split}
use Rattle.laws.specs.Hexed.{hexed, Spelt}
use Rattle.table.specs.View.{view, said, Holds, strings_in, fields_in}
use Rattle.reader.specs.Sound.{Sound}
use Rattle.reader.specs.StringLaws.{strings-sound}
use Rattle.walk.specs.Blocks.{begins}
use Rattle.walk.specs.Stand.{AllStand}
use Rattle.judge.specs.Entries.{EntriesTold, EntriesRead}
use Rattle.parse.specs.Answers.{out_pair}
use Rattle.words.specs.declared.read.Place.{Place}
use Rattle.build.specs.Strings.{Strung, StringsTold, StrungBy}
use Rattle.build.specs.Fronts.{pair-no-line, pair-many, pair-no-strings}
use Rattle.build.specs.FrontLaws.{PairAsks, Fronted, few-hexed, fronted-no-entries, fronted-no-kinds, fronted}
use Rattle.words.specs.Answers.{Scanned}
use Rattle.build.specs.declared.front.Front.{Front}

abbrev pub FrontedBy : List ℕ → List ℕ → State → ℕ → prelude.Option Front → List ℕ → Type 0
FrontedBy t l s at (Some x) l' = Fronted t l s at x.entries x.from.at x.values.at l'
FrontedBy t l s at None l' = pair_text s t at ≡ bad 20 0

-- whatever the state that the table tells in hex
pub record FrontTold (t l : List ℕ) (at : ℕ) (r : prelude.Option Front) (l' : List ℕ) : Type 0 where
  pub told : (s : State) → Spelt s → view t l ≡ hexed s → FrontedBy t l s at r l'

-- ── room for strings, and not too many entries ──

number_small : (m : ℕ) → m < 2 ^ 64 → leb m 65535 ≡ number? small_rules m
unfolding number? small_rules hold?
number_small m h = rw (lt-ltb m (256 ^ 8) (omega arith)) (go (leb m most_objects))
  where
    go : (b : Bool) → b ≡ (b && true)
    go true = refl
    go false = refl

few-is : {f l : List ℕ} → Holds f l → (n m : ℕ) → n < 2 ^ 64 → m < 2 ^ 64 → {k : ℕ} → k ≡ strings_in l → (leb n (1024 - k) && leb m 65535) ≡ (number? (strings_rules (view f l)) n && number? small_rules m)
unfolding number? strings_rules hold?
few-is {f} {l} h n m a b {k} is = rw (← number_small m b, lt-ltb n (256 ^ 8) (omega arith), h.strs-count, is) (ap (λ (x : Bool). x && leb m 65535) (same (strings_in l) h.ok.strs-fit))
  where
    same : (c : ℕ) → c ≤ 1024 → leb n (1024 - c) ≡ (leb (c + n) most_strings && true)
    same c fit = elim (dec_le n (1024 - c)) [
      | yes d ↦ rw (le-leb n (1024 - c) d, le-leb (c + n) 1024 (omega arith))
      | no d ↦ (let gt = lt_of_not-le d in rw (lt-leb n (1024 - c) gt, lt-leb (c + n) 1024 (omega arith)))
    ]

module _ {f l : List ℕ} (h : Holds f l) (n m : ℕ) (a : n < 2 ^ 64) (b : m < 2 ^ 64) {k : ℕ} (is : k ≡ strings_in l) where
  pub few-yes : n ≤ 1024 - k → leb m 65535 ≡ (number? (strings_rules (view f l)) n && number? small_rules m)
  few-yes le = sym (rw (le-leb n (1024 - k) le)) ∙ few-is h n m a b is

  pub few-no : 1024 - k < n → leb n (1024 - k) ≡ (number? (strings_rules (view f l)) n && number? small_rules m)
  few-no lt = rw (lt-leb n (1024 - k) lt) (sym (rw (lt-leb n (1024 - k) lt)) ∙ few-is h n m a b is)

pub strings-room : {f l : List ℕ} → Holds f l → (n m : ℕ) → (number? (strings_rules (view f l)) n && number? small_rules m) ≡ true → strings_in l + n ≤ 1024
unfolding strings_rules
strings-room {f} {l} h n m q =
    let N = (number-split (strings_rules (view f l)) n (and_split (number? (strings_rules (view f l)) n) (number? small_rules m) q).0).1 in
    omega (arith, leb-true (length (view f l).strings + n) most_strings N.0, h.strs-count)

-- ── the ways out ──

module _ {t l : List ℕ} {at : ℕ} (A : PairAsks t l at) {a : Scanned (ℕ × ℕ)} (read : out_pair a ≡ read_pair t at) where
  pub front-no-line : a ≡ None → FrontTold t l at None l
  front-no-line is = record { told = λ s S q. pair-no-line s t at (sym (rw is at read)) }

  module _ {n m : ℕ} {first : Place} (is : a ≡ Some ((n, m), first)) where
    h₁ : read_pair t at ≡ got (n, m) first.at
    h₁ = sym (rw is at read)

    module _ {b : Bool} (judged : (f : List ℕ) → Holds f l → b ≡ (number? (strings_rules (view f l)) n && number? small_rules m)) where
      pub front-many : not b ≡ true → FrontTold t l at None l
      front-many no? = record { told = λ s S q. pair-many s t at h₁ (sym (few-hexed A s S q n m (judged t A.steady.holds)) ∙ not-true b no?) }

      module _ (yes? : not b ≡ false) where
        pub front-room : strings_in l + n ≤ 1024
        front-room = strings-room A.steady.holds n m (sym (judged t A.steady.holds) ∙ not-false b yes?)

        h₂ : (s : State) → Spelt s → view t l ≡ hexed s → (number? (strings_rules s) n && number? small_rules m) ≡ true
        h₂ s S q = sym (few-hexed A s S q n m (judged t A.steady.holds)) ∙ not-false b yes?

        module _ {r : prelude.Option Place} {l₁ : List ℕ} (D : StringsTold t l n first.at r l₁) where
          pub front-no-strings : r ≡ None → FrontTold t l at None l₁
          front-no-strings fails =
              let h₃ = subst (λ (x : prelude.Option Place). StrungBy t l n first.at x l₁) fails D.told in
              record { told = λ s S q. pair-no-strings s t at h₁ (h₂ s S q) h₃ }

          module _ {from : Place} (to : r ≡ Some from) where
            strung : Strung t l n first.at from.at l₁
            strung = subst (λ (x : prelude.Option Place). StrungBy t l n first.at x l₁) to D.told

            pub front-sound : Sound (said t l₁)
            front-sound = rw strung.says (strings-sound _ (begins A.steady.between A.block))

            module _ {e : prelude.Option Place} {l₂ : List ℕ} (E : EntriesTold t l₁ m from.at l₂ e) where
              pub front-no-entries : e ≡ None → FrontTold t l at None l₂
              front-no-entries fails =
                  let h₄ = (rw fails at E).says in
                  record { told = λ s S q. fronted-no-entries A s S q h₁ (h₂ s S q) strung h₄ }

              module _ {values : Place} (to₂ : e ≡ Some values) where
                listed : EntriesRead t l₁ m from.at l₂ values.at
                listed = (rw to₂ at E).says

                module _ {known : ℕ} (was : known ≡ fields_in l) {c : Bool} (T : AllStand l₂ known c) where
                  pub front-no-kinds : not c ≡ true → FrontTold t l at None l₂
                  front-no-kinds no? =
                      let none = rw (was, not-true c no?) at T in
                      record { told = λ s S q. fronted-no-kinds A s S q h₁ (h₂ s S q) strung listed.reads listed.now.holds listed.now.says none }

                  pub front-got : not c ≡ false → FrontTold t l at (Some (record { entries = m; from = from; values = values })) l₂
                  front-got yes? =
                      let all = rw (was, not-false c yes?) at T in
                      record { told = λ s S q. fronted A s S q h₁ (h₂ s S q) strung listed.reads listed.now.holds listed.now.says all listed.sound }

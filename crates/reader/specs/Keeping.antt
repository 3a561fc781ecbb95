-- A number that was held to rules keeps them or breaks one, in the words of the rules without reading. Assumes nothing.
use Rattle.std.specs.Prelude.{Ok, Err, ◌≡◌, refl, Bool, true, false, ◌&&◌, List, [], ◌∷◌, ℕ, ◌<◌, ◌^◌}
use Rattle.std.proofs.Common.{sym, ap, ap₂, ◌∙◌, arith, lt-ltb}
use Rattle.paper.specs.Reader.{got, no, hold, Rule, ◌or_no◌}
use Rattle.paper.specs.Keeps.{hold?, number?}
use Rattle.numbers.specs.Cursors.{out_of, Outcome}
use Rattle.numbers.specs.declared.Cursor.{Cursor}
use Rattle.numbers.specs.declared.Refusal.{Refusal}
use Rattle.reader.specs.Ruled.{Judged, refused-not-got}

pub rules-hold : {A : Type 0} (rs : List Rule) (p : ℕ) (a : A) (m : ℕ) {v : A} {e : ℕ} → hold rs p (got a m) ≡ got v e → hold? rs ≡ true
unfolding hold?
rules-hold [] p a m h = refl
rules-hold ((true or_no n) ∷ rs) p a m h = rules-hold rs p a m h
rules-hold ((false or_no n) ∷ rs) p a m h = refused-not-got h

pub rules-break : {A : Type 0} (rs : List Rule) (p : ℕ) (a : A) (m : ℕ) {k q : ℕ} → hold rs p (got a m) ≡ no k q → hold? rs ≡ false
unfolding hold?
rules-break [] p a m h = refused-not-got (sym h)
rules-break ((true or_no n) ∷ rs) p a m h = rules-break rs p a m h
rules-break ((false or_no n) ∷ rs) p a m h = refl

-- a number of 64 bits keeps what its rules say
pub number-as : (rules : ℕ → List Rule) {n : ℕ} → n < 2 ^ 64 → {b : Bool} → hold? (rules n) ≡ b → number? rules n ≡ b
unfolding number?
number-as rules {n} fits h = ap₂ ◌&&◌ (lt-ltb n (256 ^ 8) (omega arith)) h

module _ (rules : ℕ → List Rule) {n at next : ℕ} (fits : n < 2 ^ 64) {r : Outcome ℕ} (judged : Judged rules n at next r) where
  pub judged-keeps : {x : ℕ} {c : Cursor} → r ≡ Ok (x, c) → number? rules n ≡ true
  judged-keeps is = number-as rules fits (rules-hold (rules n) at n next (sym judged.says ∙ ap out_of is))

  pub judged-breaks : {e : Refusal} → r ≡ Err e → number? rules n ≡ false
  judged-breaks is = number-as rules fits (rules-break (rules n) at n next (sym judged.says ∙ ap out_of is))

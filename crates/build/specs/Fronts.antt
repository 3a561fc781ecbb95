-- The front of a listed pair: its line, its strings and its entries, read into the table. Assumes nothing.
use Rattle.std.specs.Prelude.{◌≡◌, Bool, true, false, ◌&&◌, List, ℕ}
use Rattle.std.proofs.Math.Path.{refl}
use Rattle.std.proofs.Common.{◌∙◌, arith}
use Rattle.paper.specs.Reader.{when◌then◌else◌, Reader, Out, got, no, and_then, ◌>>=◌, ◌>>◌, give, each, times, repeat}
use Rattle.paper.specs.Ledger.{Entry, Chunk, Pair, State}
use Rattle.paper.specs.Rules.{small_rules, strings_rules, with_strings, after_entry, dues, kinds_stand?, after_front}
use Rattle.paper.specs.Keeps.{number?}
use Rattle.paper.specs.Scan.{heed, read_pair, read_string, entry_text, chunk_text, pair_text}

-- the values of a pair, behind its strings and entries
unfoldable pub region_text : State → List (List ℕ) → List Entry → Reader (List Chunk)
region_text s strings entries = each (λ (u : Unit {0}). chunk_text (after_front s strings entries)) (λ u c. u) (dues (with_strings s strings) entries) tt

-- the pair, when its front was read
unfoldable pub with_values : State → List (List ℕ) → List Entry → Reader Pair
with_values s strings entries t at = and_then (region_text s strings entries t at) (λ cs q. got (record { strings = strings; entries = entries; chunks = cs }) q)

-- ── a pair, by what each of its readings gives ──

abbrev both : {A : Type 0} → Bool → Bool → (Unit {0} → ℕ → Out A) → ℕ → Out A
both a b k e = and_then (when a then got (tt {0}) e else no 20 0) (λ u e. and_then (when b then got (tt {0}) e else no 20 0) k)

not-both : {A : Type 0} (a b : Bool) (k : Unit {0} → ℕ → Out A) (e : ℕ) → (a && b) ≡ false → both a b k e ≡ no 20 0
unfolding when◌then◌else◌
not-both true true k e q = let z : ◌≡◌ {A = ℕ} 0 1 = cc q in absurd (omega arith)
not-both true false k e q = refl
not-both false b k e q = refl

so-both : {A : Type 0} (a b : Bool) (k : Unit {0} → ℕ → Out A) (e : ℕ) → (a && b) ≡ true → both a b k e ≡ k tt e
unfolding when◌then◌else◌
so-both true true k e q = refl
so-both true false k e q = let z : ◌≡◌ {A = ℕ} 0 1 = cc q in absurd (omega arith)
so-both false b k e q = let z : ◌≡◌ {A = ℕ} 0 1 = cc q in absurd (omega arith)

module _ (s : State) (t : List ℕ) (at : ℕ) where
  pub pair-no-line : read_pair t at ≡ no 20 0 → pair_text s t at ≡ no 20 0
  unfolding pair_text ◌>>=◌
  pair-no-line h = rw h

  module _ {n m e₁ : ℕ} (h₁ : read_pair t at ≡ got (n, m) e₁) where
    strung : Unit {0} → ℕ → Out Pair
    strung u e =
        and_then (repeat n read_string t e) (λ ss e. and_then (times m entry_text after_entry (with_strings s ss) t e)
        (λ es e. and_then (heed (kinds_stand? (after_front s ss es) es) t e) (λ u e. with_values s ss es t e)))

    counted : pair_text s t at ≡ both (number? (strings_rules s) n) (number? small_rules m) strung e₁
    unfolding pair_text with_values region_text strung heed ◌>>=◌ ◌>>◌ give
    counted = rw h₁ refl

    pub pair-many : (number? (strings_rules s) n && number? small_rules m) ≡ false → pair_text s t at ≡ no 20 0
    pair-many h = counted ∙ not-both (number? (strings_rules s) n) (number? small_rules m) strung e₁ h

    module _ (h₂ : (number? (strings_rules s) n && number? small_rules m) ≡ true) where
      few : pair_text s t at ≡ strung tt e₁
      few = counted ∙ so-both (number? (strings_rules s) n) (number? small_rules m) strung e₁ h₂

      pub pair-no-strings : repeat n read_string t e₁ ≡ no 20 0 → pair_text s t at ≡ no 20 0
      unfolding strung
      pair-no-strings h = few ∙ rw h

      module _ {ss : List (List ℕ)} {e₂ : ℕ} (h₃ : repeat n read_string t e₁ ≡ got ss e₂) where
        pub pair-no-entries : times m entry_text after_entry (with_strings s ss) t e₂ ≡ no 20 0 → pair_text s t at ≡ no 20 0
        unfolding strung
        pair-no-entries h = few ∙ rw (h₃, h)

        module _ {es : List Entry} {e₃ : ℕ} (h₄ : times m entry_text after_entry (with_strings s ss) t e₂ ≡ got es e₃) where
          pub pair-no-kinds : kinds_stand? (after_front s ss es) es ≡ false → pair_text s t at ≡ no 20 0
          unfolding strung heed when◌then◌else◌
          pair-no-kinds h = few ∙ rw (h₃, h₄, h)

          pub pair-fronted : kinds_stand? (after_front s ss es) es ≡ true → pair_text s t at ≡ with_values s ss es t e₃
          unfolding strung heed when◌then◌else◌
          pair-fronted h = few ∙ rw (h₃, h₄, h)

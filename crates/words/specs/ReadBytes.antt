-- A byte that was seen, and what the readers of single bytes make of it. Assumes nothing.
use Rattle.std.specs.Prelude.{◌≡◌, refl, List, [], ◌∷◌, ℕ, zero, suc, ◌+◌, ◌≤◌, ◌<◌, length, get_or, drop}
use Rattle.std.proofs.Common.{sym, ◌∙◌, arith, add-one, lt_of_not-le, drop_of_length-le, drop-cons, eq-eqb, ne_eqb}
use Rattle.std.proofs.Math.Decide.{dec_le}
use Rattle.std.proofs.Math.ListN.{get_or-eq_default}
use Rattle.paper.specs.Reader.{when◌then◌else◌, Reader, got, no as bad, ◌>>=◌, ◌>>◌, give}
use Rattle.paper.specs.Scan.{byte_is, literal, ended}
use Rattle.words.specs.Answers.{Peeked}

-- ── a byte is seen ──

module _ (t : List ℕ) (at : ℕ) where
  pub peeked-in : at < length t → get_or t at 0 < 256 → Peeked t at (get_or t at 0)
  peeked-in h k = record { is = other t at h; inside = λ l. h; past = λ l. absurd (omega arith); small = omega arith }
    where
      other : (l : List ℕ) (i : ℕ) → i < length l → get_or l i 0 ≡ get_or l i 256
      other [] i h = absurd (omega arith)
      other (a ∷ l) zero h = refl
      other (a ∷ l) (suc i) h = other l i (omega arith)

  pub peeked-past : length t ≤ at → Peeked t at 256
  peeked-past h = record { is = sym (get_or-eq_default t 256 h); inside = λ l. absurd (omega arith); past = λ l. h; small = omega arith }

module _ {t : List ℕ} {at b : ℕ} (k : Peeked t at b) where
  pub peeked-byte : at < length t → b < 256
  peeked-byte h = elim (dec_le 256 b) [ no d ↦ lt_of_not-le d | yes d ↦ let l = k.past d in absurd (omega arith) ]

  -- the text from here on
  pub here : b < 256 → drop at t ≡ b ∷ drop (at + 1) t
  here h = rw (add-one, k.is) (drop-cons t at 256 (k.inside h))

  -- what holds of a text that goes on with b, and of one at its end when b is no byte, holds here
  pub here-or-end : (P : List ℕ → Type 0) → P (b ∷ drop (at + 1) t) → P [] → P (drop at t)
  here-or-end P more none =
      elim (dec_le 256 b) [
        | no d ↦ rw (here (lt_of_not-le d)) more
        | yes d ↦ rw (drop_of_length-le t (k.past d)) none
      ]

  pub found : (c : ℕ) → b ≡ c → got tt (at + 1) ≡ byte_is c t at
  unfolding byte_is when◌then◌else◌
  found c e = rw (eq-eqb (get_or t at 256) c (sym k.is ∙ e))

  pub not_found : (c : ℕ) → (b ≡ c → ⊥) → bad 20 0 ≡ byte_is c t at
  unfolding byte_is when◌then◌else◌
  not_found c n = rw (ne_eqb (get_or t at 256) c (λ e. n (k.is ∙ e)))

-- ── these bytes ──

module _ (t w : List ℕ) (at i : ℕ) (h : i < length w) where
  pub literal-on : {p : ℕ} → got tt p ≡ byte_is (get_or w i 0) t at → literal (drop i w) t at ≡ literal (drop (i + 1) w) t p
  unfolding literal ◌>>◌
  literal-on e = rw (drop-cons w i 0 h, add-one, ← e)

  pub literal-not : bad 20 0 ≡ byte_is (get_or w i 0) t at → literal (drop i w) t at ≡ bad 20 0
  unfolding literal ◌>>◌
  literal-not e = rw (drop-cons w i 0 h, ← e)

pub literal-over : (w t : List ℕ) (i at : ℕ) → length w ≤ i → literal (drop i w) t at ≡ got tt at
unfolding literal give
literal-over w t i at h = rw (drop_of_length-le w h)

-- ── a word, and the byte that ends it ──

module _ {A : Type 0} (c : ℕ) (r : Reader A) (t : List ℕ) (at : ℕ) where
  pub ended-not : {n p : ℕ} → bad n p ≡ r t at → bad n p ≡ ended c r t at
  unfolding ended ◌>>=◌
  ended-not h = rw (← h)

  module _ {a : A} {e : ℕ} (h : got a e ≡ r t at) where
    pub ended-open : {n p : ℕ} → bad n p ≡ byte_is c t e → bad n p ≡ ended c r t at
    unfolding ended ◌>>=◌ ◌>>◌
    ended-open k = rw (← h, ← k)

    pub ended-got : {u : Unit {0}} {d : ℕ} → got u d ≡ byte_is c t e → got a d ≡ ended c r t at
    unfolding ended ◌>>=◌ ◌>>◌ give
    ended-got k = rw (← h, ← k)

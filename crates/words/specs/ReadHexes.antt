-- Hex digits read, by cases, as code meets them. Assumes nothing.
use Rattle.std.specs.Prelude.{◌≡◌, ℕ, suc, ◌+◌, ◌-◌, ◌*◌, ◌^◌, ◌≤◌, ◌<◌, length, get_or, drop}
use Rattle.std.proofs.Math.Path.{refl}
use Rattle.std.proofs.Common.{sym, ◌∙◌, ap, add-one, lt_of_not-le, pow-suc}
use mathlib.Core.List.{List, [], ◌∷◌, ◌++◌, append_assoc, append-nil}
use native.Mathlib.Omega.{arith}
use Rattle.std.proofs.Math.Nat.{pow-le-pow_right}
use Rattle.std.proofs.Math.Decide.{dec_le}
use Rattle.std.proofs.Math.Seq.{length-sets}
use borrow.Author.Tests.{lt-ltb, le-ltb, le-leb, lt-leb, eq-eqb, ne_eqb}
use Rattle.paper.specs.Reader.{when◌then◌else◌, Out, got, no as bad, and_then}
use Rattle.paper.specs.Scan.{nibble, hex_on, hex_pairs, hex_bytes}
use Rattle.lay.specs.Laid.{Laid, most, laid_none, laid_then}
use Rattle.words.specs.Answers.{Peeked, Unhexed}
use Rattle.words.specs.ReadBytes.{here, here-or-end}

-- ── a digit ──

module _ (b : ℕ) where
  pub nibble-below : b < 48 → 16 ≡ nibble b
  unfolding nibble when◌then◌else◌
  nibble-below h = rw (lt-ltb b 48 h)

  pub nibble-digit : 48 ≤ b → b ≤ 57 → b - 48 ≡ nibble b
  unfolding nibble when◌then◌else◌
  nibble-digit h k = rw (le-ltb b 48 h, le-leb b 57 k)

  pub nibble-between : 57 < b → b < 97 → 16 ≡ nibble b
  unfolding nibble when◌then◌else◌
  nibble-between h k = rw (le-ltb b 48 (omega arith), lt-leb b 57 h, lt-ltb b 97 k)

  pub nibble-letter : 97 ≤ b → b ≤ 102 → b - 87 ≡ nibble b
  unfolding nibble when◌then◌else◌
  nibble-letter h k = rw (le-ltb b 48 (omega arith), lt-leb b 57 (omega arith), le-ltb b 97 h, le-leb b 102 k)

  pub nibble-above : 102 < b → 16 ≡ nibble b
  unfolding nibble when◌then◌else◌
  nibble-above h = rw (le-ltb b 48 (omega arith), lt-leb b 57 (omega arith), le-ltb b 97 (omega arith), lt-leb b 102 h)

  nibble-byte : (nibble b ≡ 16 → ⊥) → b < 256
  nibble-byte n = elim (dec_le 256 b) [ no d ↦ lt_of_not-le d | yes d ↦ absurd (n (sym (nibble-above (omega arith)))) ]

-- ── a number of digits ──

-- a byte that was seen, and its value as a digit
module _ {t : List ℕ} {p a x : ℕ} (k : Peeked t p a) (v : x ≡ nibble a) where
  pub inside : (x ≡ 16 → ⊥) → p < length t
  inside n = k.inside (nibble-byte a (λ e. n (v ∙ e)))

  value : x ≡ nibble (get_or t p 256)
  value = v ∙ ap nibble k.is

  module _ (n i w : ℕ) (h : i < n) where
    one_less : n - i ≡ suc (n - (i + 1))
    one_less = omega arith

    pub hex-on : x < 16 → hex_on (n - i) w t p ≡ hex_on (n - (i + 1)) (16 * w + x) t (p + 1)
    unfolding hex_on when◌then◌else◌
    hex-on l = rw (one_less, ← value, lt-ltb x 16 l)

    pub hex-not : 16 ≤ x → hex_on (n - i) w t p ≡ bad 20 0
    unfolding hex_on when◌then◌else◌
    hex-not l = rw (one_less, ← value, le-ltb x 16 l)

pub hex-all : (n i w : ℕ) (t : List ℕ) (p : ℕ) → n ≤ i → hex_on (n - i) w t p ≡ got w p
unfolding hex_on
hex-all n i w t p h = let z : n - i ≡ 0 = omega arith in rw z

-- i digits are read: one more fits 64 bits
module _ (i w x : ℕ) (l : w < 16 ^ i) (h : x < 16) where
  pub hex-room : i ≤ 15 → 16 * w + x < 18446744073709551616
  hex-room k = let m : 16 ^ i ≤ 16 ^ 15 = pow-le-pow_right (omega arith) k in omega arith

  pub hex-grows : 16 * w + x < 16 ^ (i + 1)
  hex-grows = rw (add-one, pow-suc) (omega arith)

-- ── bytes ──

hex-first : (p a : ℕ) (ts : List ℕ) → nibble a ≡ 16 → hex_pairs p (a ∷ ts) ≡ got [] p
unfolding hex_pairs when◌then◌else◌
hex-first p a [] h = refl
hex-first p a (b ∷ ts) h = rw (eq-eqb (nibble a) 16 h)

module _ {t : List ℕ} {p a x : ℕ} (k : Peeked t p a) (v : x ≡ nibble a) where
  pub pairs-none : x ≡ 16 → hex_pairs p (drop p t) ≡ got [] p
  unfolding hex_pairs
  pairs-none h = here-or-end k (λ l. hex_pairs p l ≡ got [] p) (hex-first p a (drop (p + 1) t) (sym v ∙ h)) refl

  module _ {b y : ℕ} (n : x ≡ 16 → ⊥) (j : Peeked t (p + 1) b) (w : y ≡ nibble b) where
    first : nibble a ≡ 16 → ⊥
    first e = n (v ∙ e)

    pub pairs-half : y ≡ 16 → hex_pairs p (drop p t) ≡ got [] p
    unfolding hex_pairs when◌then◌else◌
    pairs-half h =
        rw (here k (nibble-byte a first))
        (here-or-end j (λ l. hex_pairs p (a ∷ l) ≡ got [] p) (rw (ne_eqb (nibble a) 16 first, eq-eqb (nibble b) 16 (sym w ∙ h))) refl)

    pub pairs-more : (y ≡ 16 → ⊥) → hex_pairs p (drop p t) ≡ and_then (hex_pairs (p + 2) (drop (p + 2) t)) (λ ws e. got ((x * 16 + y) ∷ ws) e)
    unfolding hex_pairs when◌then◌else◌
    pairs-more o =
        let second : nibble b ≡ 16 → ⊥ = λ e. o (w ∙ e) in
        let q : p + 1 + 1 ≡ p + 2 = omega arith in
        rw (v, w, here k (nibble-byte a first), here j (nibble-byte b second), ne_eqb (nibble a) 16 first, ne_eqb (nibble b) 16 second, q)

-- ── bytes read and laid: those that are done are laid, and with those that are left they are the whole ──

pub record Unhexing (t : List ℕ) (from : ℕ) (l : List ℕ) (at : ℕ) (m : List ℕ) (p q : ℕ) : Type 0 where
  pub done : List ℕ
  pub laid : Laid l at done m q
  pub whole : and_then (hex_pairs p (drop p t)) (λ ws e. got (done ++ ws) e) ≡ hex_bytes t from
  pub long : length m ≡ length l

alone : (o : Out (List ℕ)) → and_then o (λ ws e. got ([] ++ ws) e) ≡ o
alone (got a e) = refl
alone (bad n p) = refl

join :
    (o : Out (List ℕ)) (done : List ℕ) (x : ℕ)
    → and_then (and_then o (λ ws e. got (x ∷ ws) e)) (λ ws e. got (done ++ ws) e) ≡ and_then o (λ ws e. got ((done ++ x ∷ []) ++ ws) e)
join (got a e) done x = rw (append_assoc done (x ∷ []) a)
join (bad n p) done x = refl

pub unhexing-start : (t : List ℕ) (from : ℕ) {l : List ℕ} {at : ℕ} → length l ≤ most → at ≤ most → Unhexing t from l at l from at
unfolding hex_bytes
unhexing-start t from h k = record { done = []; laid = laid_none h k; whole = alone (hex_pairs from (drop from t)); long = refl }

module _ {t : List ℕ} {from : ℕ} {l : List ℕ} {at : ℕ} {m : List ℕ} {p q : ℕ} (u : Unhexing t from l at m p q) where
  pub unhexing-on :
      {m' : List ℕ} {q' : ℕ} (x p' : ℕ)
      → hex_pairs p (drop p t) ≡ and_then (hex_pairs p' (drop p' t)) (λ ws e. got (x ∷ ws) e)
      → Laid m q (x ∷ []) m' q'
      → Unhexing t from l at m' p' q'
  unhexing-on {m'} {q'} x p' h b =
      record {
        done = u.done ++ x ∷ [];
        laid = laid_then u.laid b;
        whole = sym (join (hex_pairs p' (drop p' t)) u.done x) ∙ rw h at u.whole;
        long = rw (b.bytes, length-sets) u.long;
      }

  pub unhexed : hex_pairs p (drop p t) ≡ got [] p → Unhexed t from l at m (record { next = record { at = p }; at = q })
  unhexed h = record { bytes = u.done; read = sym (rw (h, append-nil) at u.whole); laid = u.laid }

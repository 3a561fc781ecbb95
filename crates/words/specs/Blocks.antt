-- Many hex digits at once: told from other bytes, and reckoned. Assumes nothing.
use Rattle.std.specs.Prelude.{◌≡◌, refl, true, false, List, [], ◌∷◌, ◌++◌, ℕ, zero, suc, ◌+◌, ◌-◌, ◌*◌, ◌/◌, ◌%◌, ◌^◌, ◌≤◌, ◌<◌, length, get_or, drop}
use Rattle.std.proofs.Math.Path.{sym}
use Rattle.std.proofs.Common.{◌∙◌, ap, append_assoc, arith, add-zero, lt_of_not-le, drop-cons, ne_eqb}
use Rattle.std.proofs.Math.Nat.{sub-zero}
use Rattle.std.proofs.Math.Decide.{dec_le}
use Rattle.std.proofs.Math.Seq.{length-sets}
use Rattle.paper.specs.Reader.{when◌then◌else◌, Out, got, no as bad, and_then}
use Rattle.paper.specs.Scan.{nibble, hex_on, hex_pairs, hex_bytes}
use Rattle.lay.specs.Laid.{Laid, laid_then}
use Rattle.words.specs.Answers.{Unhexed}
use Rattle.words.specs.ReadBytes.{peeked-in}
use Rattle.words.specs.ReadHexes.{nibble-digit, nibble-letter, hex-on, hex-all, hex-grows, Unhexing}
use Rattle.words.specs.declared.read.Bytes.{Bytes}

-- ── a digit ──

-- a hex digit's value by its bits: those of a letter are 1 to 6
unfoldable pub value_of : ℕ → ℕ
value_of b = (b % 16 + 9 * (b / 64)) % 16

pub value-small : (b : ℕ) → value_of b < 16
unfolding value_of
value-small b = omega arith

-- what is written as b is the value of b
pub glyph-value : (b v : ℕ) → v < 16 → b ≡ 48 + v + 39 * ((v + 6) / 16) → nibble b ≡ v
glyph-value b v h is =
    elim (dec_le 10 v) [
      | yes d ↦ (let one : (v + 6) / 16 ≡ 1 = omega arith in sym (nibble-letter b (omega arith) (omega arith)) ∙ omega arith)
      | no d ↦ (let lt = lt_of_not-le d in let none : (v + 6) / 16 ≡ 0 = omega arith in sym (nibble-digit b (omega arith) (omega arith)) ∙ omega arith)
    ]

-- ── n digits from a place on ──

pub record Hexes (t : List ℕ) (at n : ℕ) : Type 0 where
  pub inside : at + n ≤ length t
  pub each : (i : ℕ) → i < n → nibble (get_or t (at + i) 0) ≡ value_of (get_or t (at + i) 0)

pub not_there : {t : List ℕ} {at n : ℕ} → false ≡ true → Hexes t at n
not_there h = let z : ◌≡◌ {A = ℕ} 0 1 = cc h in absurd (omega arith)

-- the first i are, if no other byte was met
pub record HexesYet (t : List ℕ) (at n others i : ℕ) : Type 0 where
  pub within : at + n ≤ length t
  pub high : i ≤ n
  pub so : others ≡ 0 → Hexes t at i

pub hexes-none : (t : List ℕ) (at n : ℕ) → at + n ≤ length t → HexesYet t at n 0 0
hexes-none t at n h = record { within = h; high = omega arith; so = λ z. record { inside = omega arith; each = λ i l. absurd (omega arith) } }

module _ {t : List ℕ} {at n others i : ℕ} (Y : HexesYet t at n others i) (due : i < n) where
  pub hexes-on : nibble (get_or t (at + i) 0) ≡ value_of (get_or t (at + i) 0) → HexesYet t at n others (i + 1)
  hexes-on one =
      record {
        within = Y.within;
        high = omega arith;
        so = λ z. record {
          inside = omega (arith, Y.within);
          each = λ j l. elim (dec_le i j) [
            | yes d ↦ (let is : j ≡ i = omega arith in rw is one)
            | no d ↦ (Y.so z).each j (lt_of_not-le d)
          ];
        };
      }

  pub hexes-other : HexesYet t at n 1 (i + 1)
  hexes-other = record { within = Y.within; high = omega arith; so = λ z. absurd (omega arith) }

-- ── their bytes ──

-- k bytes
unfoldable pub unhexed_from : ℕ → List ℕ → ℕ → List ℕ
unhexed_from zero t at = []
unhexed_from (suc k) t at = (value_of (get_or t at 0) * 16 + value_of (get_or t (at + 1) 0)) ∷ unhexed_from k t (at + 2)

pub unhexed-long : (k : ℕ) (t : List ℕ) (at : ℕ) → length (unhexed_from k t at) ≡ k
unfolding unhexed_from
unhexed-long zero t at = refl
unhexed-long (suc k) t at = ap suc (unhexed-long k t (at + 2))

pub unhexed-at :
    (k : ℕ) (t : List ℕ) (at i : ℕ) → i < k
    → get_or (unhexed_from k t at) i 0 ≡ value_of (get_or t (at + 2 * i) 0) * 16 + value_of (get_or t (at + 2 * i + 1) 0)
unfolding unhexed_from
unhexed-at zero t at i h = absurd (omega arith)
unhexed-at (suc k) t at zero h = rw add-zero refl
unhexed-at (suc k) t at (suc i) h =
    let place : at + 2 + 2 * i ≡ at + 2 * suc i = omega arith in
    rw place at (unhexed-at k t (at + 2) i (omega arith))

-- ── the number of n digits: v is that of the first i ──

pub record Valued (t : List ℕ) (at n v i : ℕ) : Type 0 where
  pub there : Hexes t at n
  pub small : v < 16 ^ i
  pub same : hex_on (n - i) v t (at + i) ≡ hex_on n 0 t at

pub valued-none : (t : List ℕ) (at n : ℕ) → Hexes t at n → Valued t at n 0 0
valued-none t at n H = record { there = H; small = omega arith; same = rw (sub-zero, add-zero) }

module _ {t : List ℕ} {at n v i : ℕ} (G : Valued t at n v i) where
  pub valued-on : {x : ℕ} → i < n → x ≡ value_of (get_or t (at + i) 0) → get_or t (at + i) 0 < 256 → Valued t at n (16 * v + x) (i + 1)
  valued-on {x} lt is byte =
      let seen = peeked-in t (at + i) (omega (arith, G.there.inside)) byte in
      let digit : x ≡ nibble (get_or t (at + i) 0) = is ∙ sym (G.there.each i lt) in
      let low : x < 16 = rw is (value-small (get_or t (at + i) 0)) in
      let next : at + (i + 1) ≡ at + i + 1 = omega arith in
      record {
        there = G.there;
        small = hex-grows i v x G.small low;
        same = rw next (sym (hex-on seen digit n i v lt low) ∙ G.same);
      }

  pub valued-all : i ≡ n → got v (at + n) ≡ hex_on n 0 t at
  valued-all e = rw e at (sym (hex-all n i v t (at + i) (omega arith)) ∙ G.same)

-- ── a reading goes over them ──

alone : (o : Out (List ℕ)) → o ≡ and_then o (λ ws e. got ([] ++ ws) e)
alone (got a e) = refl
alone (bad n p) = refl

more : (o : Out (List ℕ)) (x : ℕ) (xs : List ℕ) → and_then (and_then o (λ ws e. got (xs ++ ws) e)) (λ ws e. got (x ∷ ws) e) ≡ and_then o (λ ws e. got ((x ∷ xs) ++ ws) e)
more (got a e) x xs = refl
more (bad n p) x xs = refl

digit-there : {t : List ℕ} {at n i : ℕ} → Hexes t at n → i < n → nibble (get_or t (at + i) 0) ≡ 16 → ⊥
digit-there {t} {at} {n} {i} H l e = let s = value-small (get_or t (at + i) 0) in let v = H.each i l in omega arith

over :
    (a b x y e : ℕ) (ts : List ℕ) → (nibble a ≡ 16 → ⊥) → (nibble b ≡ 16 → ⊥) → nibble a ≡ x → nibble b ≡ y
    → hex_pairs e (a ∷ b ∷ ts) ≡ and_then (hex_pairs (e + 2) ts) (λ ws d. got ((x * 16 + y) ∷ ws) d)
unfolding hex_pairs when◌then◌else◌
over a b x y e ts first second high low = rw (ne_eqb (nibble a) 16 first, ne_eqb (nibble b) 16 second, high, low)

-- two digits, and those behind them
module _ (t : List ℕ) (at k : ℕ) (H : Hexes t at (2 * suc k)) where
  two : drop at t ≡ get_or t at 0 ∷ get_or t (at + 1) 0 ∷ drop (at + 2) t
  two =
      let next : suc at ≡ at + 1 = omega arith in
      let behind : suc (at + 1) ≡ at + 2 = omega arith in
      let second : drop (at + 1) t ≡ get_or t (at + 1) 0 ∷ drop (at + 2) t = rw behind at (drop-cons t (at + 1) 0 (omega (arith, H.inside))) in
      drop-cons t at 0 (omega (arith, H.inside)) ∙ rw next (ap (λ (l : List ℕ). get_or t at 0 ∷ l) second)

  moved : Hexes t (at + 2) (2 * k)
  moved =
      record {
        inside = omega (arith, H.inside);
        each = λ i l. let z : at + (2 + i) ≡ at + 2 + i = omega arith in rw z at (H.each (2 + i) (omega arith));
      }

  first_two :
      hex_pairs at (drop at t)
      ≡ and_then (hex_pairs (at + 2) (drop (at + 2) t)) (λ ws e. got ((value_of (get_or t at 0) * 16 + value_of (get_or t (at + 1) 0)) ∷ ws) e)
  first_two =
      let none : at + 0 ≡ at = omega arith in
      rw two (over (get_or t at 0) (get_or t (at + 1) 0) _ _ at (drop (at + 2) t)
      (rw none at (digit-there {i = 0} H (omega arith)))
      (digit-there {i = 1} H (omega arith))
      (rw none at (H.each 0 (omega arith)))
      (H.each 1 (omega arith)))

pub pairs-over :
    (k : ℕ) (t : List ℕ) (at : ℕ) → Hexes t at (2 * k)
    → hex_pairs at (drop at t) ≡ and_then (hex_pairs (at + 2 * k) (drop (at + 2 * k) t)) (λ ws e. got (unhexed_from k t at ++ ws) e)
unfolding unhexed_from
pairs-over zero t at H = rw add-zero (alone (hex_pairs at (drop at t)))
pairs-over (suc k) t at H =
    let place : at + 2 + 2 * k ≡ at + 2 * suc k = omega arith in
    let rest = rw place at (pairs-over k t (at + 2) (moved t at k H)) in
    first_two t at k H ∙ rw rest (more (hex_pairs (at + 2 * suc k) (drop (at + 2 * suc k) t)) (value_of (get_or t at 0) * 16 + value_of (get_or t (at + 1) 0)) (unhexed_from k t (at + 2)))

-- ── many bytes read and laid ──

join :
    (o : Out (List ℕ)) (done xs : List ℕ)
    → and_then (and_then o (λ ws e. got (xs ++ ws) e)) (λ ws e. got (done ++ ws) e) ≡ and_then o (λ ws e. got ((done ++ xs) ++ ws) e)
join (got a e) done xs = rw (append_assoc done xs a)
join (bad n p) done xs = refl

module _ {t : List ℕ} {from : ℕ} {l : List ℕ} {at : ℕ} {m : List ℕ} {p q : ℕ} (u : Unhexing t from l at m p q) where
  pub unhexing-over :
      {m' xs : List ℕ} {q' : ℕ} (p' : ℕ)
      → hex_pairs p (drop p t) ≡ and_then (hex_pairs p' (drop p' t)) (λ ws e. got (xs ++ ws) e)
      → Laid m q xs m' q'
      → Unhexing t from l at m' p' q'
  unhexing-over {m'} {xs} {q'} p' h b =
      record {
        done = u.done ++ xs;
        laid = laid_then u.laid b;
        whole = sym (join (hex_pairs p' (drop p' t)) u.done xs) ∙ rw h at u.whole;
        long = rw (b.bytes, length-sets) u.long;
      }

  pub unhexing-rest : {m' : List ℕ} {r : Bytes} → Unhexed t p m q m' r → Unhexed t from l at m' r
  unfolding hex_bytes
  unhexing-rest R = record { bytes = u.done ++ R.bytes; read = sym (rw R.read at u.whole); laid = laid_then u.laid R.laid }

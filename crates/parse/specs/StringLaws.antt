-- A string's line: its hex digits stay in the text, and there they are those that its bytes have. Assumes nothing.
use Rattle.std.specs.Prelude.{Some, None, ◌≡◌, refl, Bool, true, false, List, [], ◌∷◌, ℕ, zero, suc, ◌+◌, ◌-◌, ◌≤◌, ◌<◌, eqb, length, get_or, take, drop}
use Rattle.std.proofs.Math.Path.{sym}
use Rattle.std.proofs.Common.{ap, ◌∙◌, lt_of_not-le, not-suc-le-zero, eqb-true}
use native.Mathlib.Omega.{arith}
use Rattle.std.proofs.Math.Decide.{dec_le}
use Rattle.std.proofs.Math.ListN.{get_or-eq_default}
use Rattle.std.proofs.Math.Seq.{slice, take-nil}
use Rattle.paper.specs.Reader.{when◌then◌else◌, Out, got, no as bad, and_then, ◌>>◌, give}
use Rattle.paper.specs.Listing.{ascii, newline}
use Rattle.paper.specs.Scan.{byte_is, literal, hex_bytes, read_string}
use Rattle.laws.specs.Laws.{not-got}
use Rattle.laws.specs.Says.{Bytes, span}
use Rattle.laws.specs.Hexes.{hex_bytes-says}
use Rattle.words.specs.ReadBytes.{ended-open, ended-got}
use Rattle.words.specs.declared.read.Place.{Place}
use Rattle.parse.specs.Answers.{HexEnd, StringReads}

-- ── where bytes stand ──

-- a byte that was found stands inside the text
byte-there : (b : ℕ) (t : List ℕ) (at : ℕ) {u : Unit {0}} {e : ℕ} → b < 256 → got u e ≡ byte_is b t at → (e ≡ at + 1) × (at < length t)
unfolding byte_is when◌then◌else◌
byte-there b t at {u} {e} l h = go (eqb (get_or t at 256) b) refl (sym h)
  where
    go : (x : Bool) → eqb (get_or t at 256) b ≡ x → (when x then got tt (at + 1) else bad 20 0) ≡ got u e → (e ≡ at + 1) × (at < length t)
    go true s q =
        let z : at + 1 ≡ e = cc q in
        let seen = eqb-true (get_or t at 256) b s in
        (sym z, elim (dec_le (length t) at) [ no d ↦ lt_of_not-le d | yes d ↦ (let none = get_or-eq_default t 256 d in absurd (omega arith)) ])
    go false s q = not-got q

-- so do all that were found
literal-there : (b : ℕ) (bs : List ℕ) → Bytes (b ∷ bs) → (t : List ℕ) (at e : ℕ) → got (tt {0}) e ≡ literal (b ∷ bs) t at → (e ≡ at + length (b ∷ bs)) × (e ≤ length t)
unfolding literal ◌>>◌ give
literal-there b [] l t at e h = go (byte_is b t at) refl h
  where
    go : (o : Out (Unit {0})) → o ≡ byte_is b t at → got (tt {0}) e ≡ and_then o (λ u d. got (tt {0}) d) → (e ≡ at + 1) × (e ≤ length t)
    go (got u d) s q = let (p, i) = byte-there b t at l.0 s in let z : e ≡ d = cc q in (omega arith, omega arith)
    go (bad n p) s q = not-got (sym q)
literal-there b (c ∷ bs) l t at e h = go (byte_is b t at) refl h (literal-there c bs l.1 t (at + 1) e)
  where
    go :
        (o : Out (Unit {0})) → o ≡ byte_is b t at → got (tt {0}) e ≡ and_then o (λ u. literal (c ∷ bs) t)
        → (got (tt {0}) e ≡ literal (c ∷ bs) t (at + 1) → (e ≡ at + 1 + length (c ∷ bs)) × (e ≤ length t)) → (e ≡ at + length (b ∷ c ∷ bs)) × (e ≤ length t)
    go (got u d) s q ih = let (p, i) = byte-there b t at l.0 s in let (x, y) = ih (rw p at q) in (omega arith, y)
    go (bad n p) s q ih = not-got (sym q)

-- a part of the text, two ways
slice-span : (t : List ℕ) (a b : ℕ) → a ≤ b → slice a b t ≡ span t a b
slice-span t zero b h = let z : b ≡ b - 0 = omega arith in ap (λ (n : ℕ). take n t) z
slice-span [] (suc a) zero h = absurd (not-suc-le-zero h)
slice-span [] (suc a) (suc b) h = sym (take-nil (suc b - suc a))
slice-span (x ∷ t) (suc a) zero h = absurd (not-suc-le-zero h)
slice-span (x ∷ t) (suc a) (suc b) h = let z : b - a ≡ suc b - suc a = omega arith in slice-span t a b (omega arith) ∙ ap (λ (n : ℕ). take n (drop a t)) z

pub all-bytes : (t : List ℕ) → ((i : ℕ) → get_or t i 0 < 256) → Bytes t
all-bytes [] h = tt
all-bytes (b ∷ t) h = (h 0, all-bytes t (λ i. h (suc i)))

-- ── the ways out ──

module _ {t : List ℕ} {at : ℕ} where
  pub string-not : bad 20 0 ≡ literal (ascii "str\t") t at → StringReads t at None
  unfolding read_string ◌>>◌
  string-not h = record { says = rw (← h) }

  module _ {start : ℕ} (word : got tt start ≡ literal (ascii "str\t") t at) {end : ℕ} (H : HexEnd t start end) where
    pub string-open : bad 20 0 ≡ byte_is newline t end → StringReads t at None
    unfolding read_string ◌>>◌
    string-open h = record { says = rw (← word, ← ended-open newline hex_bytes t start (sym H.digits) h) }

    pub string-got : Bytes t → {c : Place} → got tt c.at ≡ byte_is newline t end → StringReads t at (Some (record { from = start; to = end }, c))
    unfolding read_string ascii ◌>>◌
    string-got B h =
        let (four, inside) = literal-there 115 (116 ∷ 114 ∷ 9 ∷ []) (omega arith, (omega arith, (omega arith, (omega arith, tt)))) t at start word in
        let S = hex_bytes-says.at t start H.bytes end B inside H.digits in
        record {
          says =
              record {
                bytes = H.bytes;
                read = rw (← word, ← ended-got newline hex_bytes t start (sym H.digits) h);
                digits = H.digits;
                begins = four;
                forward = S.forward;
                inside = S.inside;
                spelt = slice-span t start end S.forward ∙ sym S.said.0;
                small = S.said.1;
              };
        }

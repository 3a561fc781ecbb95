-- Single elements by cases, as code meets them: a v64 held to one rule, a bool, a number of a fixed width. Assumes nothing.
use Rattle.std.specs.Prelude.{Ok, Err, ◌≡◌, ℕ, zero, suc, ◌+◌, ◌-◌, ◌*◌, ◌/◌, ◌^◌, ◌<◌, ◌≤◌, Bool, true, false, List, [], ◌∷◌, length, ◌≢◌, slice_index}
use Rattle.std.proofs.Math.Path.{sym, ap}
use Rattle.std.proofs.Common.{◌∙◌, arith, add-zero, div-mul-le_self, mul-le-mul_right, lt_of_not-le}
use Rattle.std.proofs.Math.Nat.{zero-mul, suc-mul, div-add-mod', mod-lt}
use Rattle.std.proofs.Math.Decide.{dec_le}
use native.Nat.{ℕᴺ_discrete}
use borrow.Author.Tests.{le-leb, lt-leb, eq-eqb, ne_eqb}
use Rattle.paper.specs.Reader.{when◌then◌else◌, Reader, Out, got, ◌>>=◌, give, must, ◌or_no◌, bytes, repeat}
use Rattle.paper.specs.Numbers.{fixed, v64, number}
use Rattle.paper.specs.Rules.{bool_rules}
use Rattle.numbers.specs.Cursors.{Outcome, Read}
use Rattle.numbers.specs.Begun.{one_byte}
use Rattle.numbers.specs.Ruled.{read_no, read-bad, read-got}
use Rattle.numbers.specs.declared.Cursor.{Cursor}
use Rattle.numbers.specs.Faults.{number_of}
use Rattle.numbers.specs.declared.Refusal.{Refusal}
use Rattle.values.specs.Pass.{forget, Passed, read-passed, pass-none, pass-more}
use Rattle.numbers.specs.declared.Fault.{Fault}
use Rattle.numbers.specs.declared.Fault.TheVariants as fault

-- ── a v64 that is held to one rule ──

abbrev pub ruled : (ℕ → Bool) → ℕ → Reader ℕ
ruled ok why = number (λ n. (ok n or_no why) ∷ [])

module _ (ok : ℕ → Bool) (why : Fault) (bound : ℕ) {f : List ℕ} {at : ℕ} {a : Outcome ℕ} (R : Read v64 (2 ^ 64) f at a) where
  -- there is none
  pub ruled-cut : {e : Refusal} → a ≡ Err e → 0 < bound → Read (ruled ok (number_of why)) bound f at (Err e)
  unfolding number
  ruled-cut is h = read_no R _ h is

  module _ {n : ℕ} {c : Cursor} (is : a ≡ Ok (n, c)) where
    pub ruled-taken : ok n ≡ true → n < bound → Read (ruled ok (number_of why)) bound f at (Ok (n, c))
    unfolding number
    ruled-taken t h = read-got R _ h is (rw t)

    pub ruled-refused : ok n ≡ false → 0 < bound → Read (ruled ok (number_of why)) bound f at (Err (record { fault = why; place = at }))
    unfolding number
    ruled-refused t h = read-bad R _ h is (rw t)

-- ── a number of a fixed width ──

module _ (w : ℕ) (f : List ℕ) where
  pub fixed-there : (at : ℕ) → at + w ≤ length f → forget (fixed w f at) ≡ got tt (at + w)
  unfolding fixed bytes ◌>>=◌ give when◌then◌else◌ forget
  fixed-there at h = rw (le-leb (at + w) (length f) h)

  pub fixed-cut : (at : ℕ) → length f < at + w → fixed w f at ≡ Out.no 1 at
  unfolding fixed bytes ◌>>=◌ give when◌then◌else◌
  fixed-cut at h = rw (lt-leb (at + w) (length f) h)

  -- all are there
  pub all_there : (m at : ℕ) → at + m * w ≤ length f → forget (repeat m (fixed w) f at) ≡ got tt (at + m * w)
  all_there zero at h = rw (zero-mul, add-zero) (pass-none (fixed w) f at)
  all_there (suc m) at h =
      let k : at + (m * w + w) ≤ length f = rw suc-mul at h in
      rw (pass-more (fixed w) f m at, fixed-there at (omega arith))
      (all_there m (at + w) (omega arith) ∙ ap (λ (e : ℕ). got tt e) (rw suc-mul (omega arith)))

  -- the first j are there, and not the next
  pub some-there :
      (j m at : ℕ) → j < m → at + j * w ≤ length f → length f < at + j * w + w
      → forget (repeat m (fixed w) f at) ≡ Out.no 1 (at + j * w)
  unfolding forget
  some-there j zero at h le lt = absurd (omega arith)
  some-there zero (suc m) at h le lt =
      let k : length f < at + w = rw (zero-mul, add-zero) at lt in
      rw (pass-more (fixed w) f m at, fixed-cut at k, zero-mul, add-zero)
  some-there (suc j) (suc m) at h le lt =
      let le' : at + (j * w + w) ≤ length f = rw suc-mul at le in
      let lt' : length f < at + (j * w + w) + w = rw suc-mul at lt in
      rw (pass-more (fixed w) f m at, fixed-there at (omega arith))
      (some-there j m (at + w) (omega arith) (omega arith) (omega arith) ∙ ap (λ (e : ℕ). Out.no 1 e) (rw suc-mul (omega arith)))

-- ── a bool ──

module _ {bound : ℕ} {f : List ℕ} {at : ℕ} {a : Outcome ℕ} (R : Read (fixed 1) bound f at a) where
  pub bool-cut : {e : Refusal} → a ≡ Err e → Passed (must (fixed 1) bool_rules) f at (Err e)
  bool-cut is = read-passed (read_no R bool_rules {d = 1} (omega arith) is)

  module _ {b : ℕ} {c : Cursor} (is : a ≡ Ok (b, c)) where
    pub bool_false : b ≡ 0 → Passed (must (fixed 1) bool_rules) f at (Ok (b, c))
    unfolding bool_rules
    bool_false h = read-passed (read-got R bool_rules {d = suc b} (omega arith) is (rw (eq-eqb b 0 h)))

    pub bool-true : b ≡ 255 → Passed (must (fixed 1) bool_rules) f at (Ok (b, c))
    unfolding bool_rules
    bool-true h = read-passed (read-got R bool_rules {d = suc b} (omega arith) is (rw h))

    pub bool-wrong : (b ≢ 0) → (b ≢ 255) → Passed (must (fixed 1) bool_rules) f at (Err (record { fault = fault.Value; place = at }))
    unfolding bool_rules
    bool-wrong h k = read-passed (read-bad R bool_rules {d = 1} (omega arith) is (rw (ne_eqb b 0 h, ne_eqb b 255 k)))

-- ── many bools ──

-- all bytes from `at` up to `end` are 00 or FF
pub record Bools (f : List ℕ) (at end : ℕ) : Type 0 where
  pub each : (i : ℕ) → at ≤ i → i < end → (slice_index f i ≢ 0) → slice_index f i ≡ 255

-- so far, if none of the others was met
pub record BoolsYet (f : List ℕ) (at end others i : ℕ) : Type 0 where
  pub low : at ≤ i
  pub high : i ≤ end
  pub so : others ≡ 0 → Bools f at i

pub bools-none : (f : List ℕ) (at end : ℕ) → at ≤ end → BoolsYet f at end 0 at
bools-none f at end h = record { low = omega arith; high = h; so = λ z. record { each = λ i l m ne. absurd (omega arith) } }

module _ {f : List ℕ} {at end others i : ℕ} (Y : BoolsYet f at end others i) (due : i < end) where
  pub bools-on : ((slice_index f i ≢ 0) → slice_index f i ≡ 255) → BoolsYet f at end others (i + 1)
  bools-on one =
      record {
        low = omega (arith, Y.low);
        high = omega arith;
        so = λ z. record {
          each = λ j l m ne. elim (dec_le i j) [
            | yes d ↦ (let is : j ≡ i = omega arith in rw is (one (rw is at ne)))
            | no d ↦ (Y.so z).each j l (lt_of_not-le d) ne
          ];
        };
      }

  pub bools-other : BoolsYet f at end 1 (i + 1)
  bools-other = record { low = omega (arith, Y.low); high = omega arith; so = λ z. absurd (omega arith) }

module _ (f : List ℕ) where
  bool-there : (at : ℕ) → at < length f → ((slice_index f at ≢ 0) → slice_index f at ≡ 255) → forget (must (fixed 1) bool_rules f at) ≡ got tt (at + 1)
  unfolding must bool_rules forget
  bool-there at h one =
      elim (ℕᴺ_discrete (slice_index f at) 0) [
        | yes is ↦ rw (one_byte f at h, is)
        | no ne ↦ rw (one_byte f at h, one ne)
      ]

  bools-there : (m at : ℕ) → at + m ≤ length f → Bools f at (at + m) → forget (repeat m (must (fixed 1) bool_rules) f at) ≡ got tt (at + m)
  bools-there zero at h B = rw add-zero (pass-none (must (fixed 1) bool_rules) f at)
  bools-there (suc m) at h B =
      let next : at + 1 + m ≡ at + suc m = omega arith in
      rw (pass-more (must (fixed 1) bool_rules) f m at, bool-there at (omega arith) (B.each at (omega arith) (omega arith)))
      (bools-there m (at + 1) (omega arith) (record { each = λ i l k. B.each i (omega arith) (omega arith) }) ∙ ap (λ (e : ℕ). got tt e) next)

pub bools-all :
    {f : List ℕ} {at : ℕ} (m : ℕ) → at + m ≤ length f → Bools f at (at + m)
    → Passed (repeat m (must (fixed 1) bool_rules)) f at (Ok (0, record { at = at + m }))
unfolding forget
bools-all {f} {at} m h B = record { says = sym (bools-there f m at h B); inside = λ i. h }

-- ── how many numbers of a width have room ──

module _ (f : List ℕ) (at m w : ℕ) (wide : 0 < w) (within : at ≤ length f) where
  pub whole-fits : at + (length f - at) / w * w ≤ length f
  whole-fits = omega (arith, div-mul-le_self (length f - at) w)

  pub places-fit : m ≤ (length f - at) / w → at + m * w ≤ length f
  places-fit h = omega (arith, whole-fits, mul-le-mul_right w h)

  pub widths-there : m ≤ (length f - at) / w → Passed (repeat m (fixed w)) f at (Ok (0, record { at = at + m * w }))
  unfolding forget
  widths-there h = record { says = sym (all_there w f m at (places-fit h)); inside = λ i. places-fit h }

  pub widths-cut :
      (length f - at) / w < m
      → Passed (repeat m (fixed w)) f at (Err (record { fault = fault.Short; place = at + (length f - at) / w * w }))
  unfolding forget
  widths-cut h =
      let left = mod-lt (length f - at) wide in
      let all = div-add-mod' (length f - at) w in
      record { says = sym (some-there w f ((length f - at) / w) m at h whole-fits (omega arith)); inside = λ i. whole-fits }

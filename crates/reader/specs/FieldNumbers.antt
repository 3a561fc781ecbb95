-- The numbers of an entry's fields that are held to rules, and how many values a chunk has: the ways out, on plain values.
-- Assumes nothing.
use Rattle.std.specs.Prelude.{Ok, Err, ◌≡◌, refl, Bool, true, false, ◌&&◌, List, ℕ, ◌+◌, ◌-◌, ◌≤◌, ◌<◌, ◌^◌, leb, eqb, length}
use Rattle.std.proofs.Common.{arith}
use Rattle.std.proofs.Math.Decide.{dec_le}
use borrow.Author.Tests.{le-leb, lt-leb, eq-eqb, ne_eqb}
use Rattle.paper.specs.Reader.{when◌then◌else◌}
use Rattle.paper.specs.Numbers.{put_fixed, v64, number}
use Rattle.paper.specs.Ledger.{State, plain, array, many, mapping}
use Rattle.paper.specs.Rules.{restriction_rules, field_count_rules, end_rules, values_due}
use Rattle.paper.specs.File.{restrictions, end_offset}
use Rattle.numbers.specs.Cursors.{Read, was-got, Outcome}
use Rattle.numbers.specs.declared.Cursor.{Cursor}
use Rattle.numbers.specs.declared.Refusal.{Refusal}
use Rattle.table.specs.View.{kind_from}
use Rattle.numbers.specs.Ruled.{read_no, read-bad, read-got}
use Rattle.reader.specs.Ruled.{Judged, judged-bad, judged-got}
use Rattle.numbers.specs.declared.Fault.TheVariants as fault

module _ {f : List ℕ} {at : ℕ} {a : Outcome ℕ} (read : Read v64 (2 ^ 64) f at a) where
  -- ── the number of restrictions ──

  pub restrictions-no : {e : Refusal} → a ≡ Err e → Read restrictions 1 f at (Err e)
  unfolding restrictions number
  restrictions-no is = read_no read restriction_rules (omega arith) is

  pub restrictions-some : {n : ℕ} {c : Cursor} → a ≡ Ok (n, c) → (n ≡ 0 → ⊥) → Read restrictions 1 f at (Err (record { fault = fault.Restriction; place = at }))
  unfolding restrictions number restriction_rules
  restrictions-some {n} is ne = read-bad read restriction_rules (omega arith) is (rw (ne_eqb n 0 ne))

  pub restrictions-none : {n : ℕ} {c : Cursor} → a ≡ Ok (n, c) → n ≡ 0 → Read restrictions 1 f at (Ok (n, c))
  unfolding restrictions number restriction_rules
  restrictions-none {n} is eq = read-got read restriction_rules (omega arith) is (rw (eq-eqb n 0 eq))

  -- ── an end offset ──

  module _ (before : ℕ) where
    pub end-no : {e : Refusal} → a ≡ Err e → Read (end_offset before) (2 ^ 64) f at (Err e)
    unfolding end_offset number
    end-no is = read_no read (end_rules before) (omega arith) is

    pub end_falls : {e : ℕ} {c : Cursor} → a ≡ Ok (e, c) → e < before → Read (end_offset before) (2 ^ 64) f at (Err (record { fault = fault.Ends; place = at }))
    unfolding end_offset number end_rules
    end_falls {e} is lt = read-bad read (end_rules before) (omega arith) is (rw (lt-leb before e lt))

    pub end-got : {e : ℕ} {c : Cursor} → a ≡ Ok (e, c) → before ≤ e → Read (end_offset before) (2 ^ 64) f at (Ok (e, c))
    unfolding end_offset number end_rules
    end-got {e} is le = read-got read (end_rules before) (was-got read is).below is (rw (le-leb before e le))

-- ── the number of fields ──

module _ (s : State) (known : ℕ) {n at next : ℕ} where
  pub count-many : 128 < length s.fields + (n - known) → Judged (field_count_rules s known) n at next (Err (record { fault = fault.Limit; place = at }))
  unfolding field_count_rules
  count-many gt = judged-bad (field_count_rules s known) (rw (lt-leb (length s.fields + (n - known)) 128 gt))

  pub count-few : length s.fields + (n - known) ≤ 128 → n < known → Judged (field_count_rules s known) n at next (Err (record { fault = fault.Fields; place = at }))
  unfolding field_count_rules
  count-few le lt = judged-bad (field_count_rules s known) (rw (le-leb (length s.fields + (n - known)) 128 le, lt-leb known n lt))

  pub count-got : {c : Cursor} → c.at ≡ next → length s.fields + (n - known) ≤ 128 → known ≤ n → Judged (field_count_rules s known) n at next (Ok (n, c))
  unfolding field_count_rules
  count-got here le all = judged-got (field_count_rules s known) here (rw (le-leb (length s.fields + (n - known)) 128 le, le-leb known n all))

-- ── how many values a chunk has ──

pub constant-due : (k a e n : ℕ) → k ≤ 4 → 0 ≡ values_due (kind_from k a e) n
unfolding kind_from values_due when◌then◌else◌
constant-due k a e n le =
    elim (dec_le k 3) [
      | Dec.yes h ↦ rw (le-leb k 3 h) refl
      | Dec.no h ↦ rw (lt-leb k 3 (omega arith), eq-eqb k 4 (omega arith)) refl
    ]

pub other-due : (k a e n : ℕ) → 4 < k → n ≡ values_due (kind_from k a e) n
unfolding kind_from values_due when◌then◌else◌
other-due k a e n lt = rw (lt-leb k 3 (omega arith), ne_eqb k 4 (λ q. omega arith)) (go (eqb k 15) (leb 17 k && leb k 19) (eqb k 20))
  where
    go : (x y z : Bool) → n ≡ values_due (when x then array a e else when y then many k e else when z then mapping (put_fixed a e) else plain e) n
    go true y z = refl
    go false true z = refl
    go false false true = refl
    go false false false = refl

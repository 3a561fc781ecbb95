-- What is known of a number that was taken: its rules hold. Assumes nothing.
use Rattle.std.specs.Prelude.{Ok, ◌≡◌, List, ℕ, ◌+◌, ◌-◌, ◌≤◌, length}
use Rattle.std.proofs.Common.{arith}
use borrow.Author.Tests.{leb-true}
use Rattle.paper.specs.Reader.{Reader, Out, got, no, and_then, hold, must, Rule}
use Rattle.paper.specs.Numbers.{v64, number}
use Rattle.paper.specs.Ledger.{a_string?}
use Rattle.paper.specs.Rules.{field_count_rules, field_name_rules, end_rules}
use Rattle.paper.specs.File.{end_offset}
use Rattle.numbers.specs.Cursors.{Read, was-got, Outcome}
use Rattle.numbers.specs.declared.Cursor.{Cursor}
use Rattle.table.specs.View.{strs_of, flds_of, view, Holds, strings_in, fields_in}
use Rattle.laws.specs.Says.{Held}
use Rattle.laws.specs.Bools.{and_split}
use Rattle.reader.specs.Ruled.{refused-not-got, held}

pub must-held : {A : Type 0} (r : Reader A) (rules : A → List Rule) (f : List ℕ) (at : ℕ) {v : A} {e : ℕ} → must r rules f at ≡ got v e → Held (rules v)
unfolding must
must-held {A} r rules f at {v} {e} h = go (r f at) h
  where
    go : (o : Out A) → and_then o (λ a m. hold (rules a) at (got a m)) ≡ got v e → Held (rules v)
    go (got a m) q = let H = held (rules a) at a v m e q in rw (← H.0) H.1
    go (no n p) q = refused-not-got q

pub number-held : (rules : ℕ → List Rule) (f : List ℕ) (at : ℕ) {n e : ℕ} → number rules f at ≡ got n e → Held (rules n)
unfolding number
number-held rules f at h = must-held v64 rules f at h

-- ── of an entry's fields ──

pub end-held : {before b : ℕ} {f : List ℕ} {at : ℕ} {a : Outcome ℕ} → Read (end_offset before) b f at a → {e : ℕ} {c : Cursor} → a ≡ Ok (e, c) → before ≤ e
unfolding end_offset end_rules
end-held {before} {f = f} {at = at} read {e} is = leb-true before e (number-held (end_rules before) f at (was-got read is).says).0

-- ── over the table ──

module _ {f l : List ℕ} (h : Holds f l) {b at : ℕ} {a : Outcome ℕ} where
  pub count_held : (known : ℕ) → Read (number (field_count_rules (view f l) known)) b f at a → {n : ℕ} {c : Cursor} → a ≡ Ok (n, c) → (fields_in l + (n - known) ≤ 128) × (known ≤ n)
  unfolding field_count_rules
  count_held known read {n} is =
      let H = number-held (field_count_rules (view f l) known) f at (was-got read is).says in
      (omega (arith, h.ok.flds-count, leb-true (length (flds_of l) + (n - known)) 128 H.0), leb-true known n H.1.0)

  pub name-held : (t : ℕ) → Read (number (field_name_rules t (view f l))) b f at a → {n : ℕ} {c : Cursor} → a ≡ Ok (n, c) → (1 ≤ n) × (n ≤ strings_in l)
  unfolding field_name_rules a_string?
  name-held t read {n} is =
      let H = and_split _ _ (number-held (field_name_rules t (view f l)) f at (was-got read is).says).0 in
      (leb-true 1 n H.0, omega (arith, h.strs-count, leb-true n (length (strs_of f l)) H.1))

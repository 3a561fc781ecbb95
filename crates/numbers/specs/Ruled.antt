-- A number that was read and is held to rules: the ways out, once for all rules. Assumes nothing.
use Rattle.std.specs.Prelude.{◌≡◌, Bool, true, false, not, List, ℕ, ◌≤◌, ◌<◌, ◌^◌, leb}
use Rattle.std.proofs.Common.{sym, ◌∙◌, arith, leb-true, leb-false, le-leb}
use Rattle.std.proofs.lemmas.Bool.{lt-leb, not-true, not-false}
use Rattle.paper.specs.Reader.{Reader, got, no, hold, must, Rule}
use Rattle.paper.specs.Numbers.{v64, number}
use Rattle.paper.specs.Bounds.{most_objects}
use Rattle.paper.specs.Rules.{small_rules}
use Rattle.paper.specs.File.{small}
use Rattle.numbers.specs.Cursors.{Outcome, Read, was-got, was-refused}
use Rattle.std.specs.Prelude.{Ok, Err}
use Rattle.numbers.specs.declared.Cursor.{Cursor}
use Rattle.numbers.specs.Faults.{number_of}
use Rattle.numbers.specs.declared.Fault.{Fault}
use Rattle.numbers.specs.declared.Fault.TheVariants.{Limit}
use Rattle.numbers.specs.declared.Refusal.{Refusal}

module _ {r : Reader ℕ} {b : ℕ} {f : List ℕ} {at : ℕ} {a : Outcome ℕ} (read : Read r b f at a) (rules : ℕ → List Rule) where
  -- what the rules make of an answer
  pub ruled-no : {e : Refusal} → a ≡ Err e → must r rules f at ≡ no (number_of e.fault) e.place
  unfolding must
  ruled-no is = rw (was-refused read is).says

  pub ruled-is : {n : ℕ} {c : Cursor} → a ≡ Ok (n, c) → must r rules f at ≡ hold (rules n) at (got n c.at)
  unfolding must
  ruled-is is = rw (was-got read is).says

  -- a refusal goes on
  pub read_no : {d : ℕ} {e : Refusal} → 0 < d → a ≡ Err e → Read (must r rules) d f at (Err e)
  read_no {d} {e} pos is =
      let R = was-refused read is in
      record { says = sym (ruled-no is); inside = R.inside; below = pos }

  -- a broken rule
  pub read-bad : {d n : ℕ} {k : Fault} {c : Cursor} → 0 < d → a ≡ Ok (n, c) → hold {A = ℕ} (rules n) at (got n c.at) ≡ no (number_of k) at → Read (must r rules) d f at (Err (record { fault = k; place = at }))
  read-bad pos is h = record { says = sym (ruled-is is ∙ h); inside = λ lo. lo; below = pos }

  -- all rules hold
  pub read-got : {d n : ℕ} {c : Cursor} → n < d → a ≡ Ok (n, c) → hold {A = ℕ} (rules n) at (got n c.at) ≡ got n c.at → Read (must r rules) d f at (Ok (n, c))
  read-got lt is h = record { says = sym (ruled-is is ∙ h); inside = (was-got read is).inside; below = lt }

-- ── a bound, as code asks for it ──

module _ {b : Bool} {n most : ℕ} (asked : b ≡ leb n most) where
  pub within : not b ≡ false → n ≤ most
  within h = leb-true n most (sym asked ∙ not-false b h)

  pub beyond : not b ≡ true → most < n
  beyond h = leb-false n most (sym asked ∙ not-true b h)

-- ── a count, local start or length ──

module _ {f : List ℕ} {at : ℕ} {a : Outcome ℕ} (read : Read v64 (2 ^ 64) f at a) where
  pub small-no : {e : Refusal} → a ≡ Err e → Read small 65536 f at (Err e)
  unfolding small number
  small-no is = read_no read small_rules (omega arith) is

  pub small-big : {n : ℕ} {c : Cursor} → a ≡ Ok (n, c) → most_objects < n → Read small 65536 f at (Err (record { fault = Limit; place = at }))
  unfolding small number small_rules
  small-big {n} is lt = read-bad read small_rules (omega arith) is (rw (lt-leb n most_objects lt))

  pub small-got : {n : ℕ} {c : Cursor} → a ≡ Ok (n, c) → n ≤ most_objects → Read small 65536 f at (Ok (n, c))
  unfolding small number small_rules
  small-got {n} is le = read-got read small_rules (omega arith) is (rw (le-leb n most_objects le))

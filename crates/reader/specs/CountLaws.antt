-- The ways out of the reader of a local start, and of what holds a count to its rules, on plain values. Assumes nothing.
use Rattle.std.specs.Prelude.{Ok, Err, ◌≡◌, Bool, true, false, leb, eqb}
use Rattle.std.proofs.Math.Path.{refl, ap, subst}
use Rattle.std.proofs.Common.{sym, ◌∙◌}
use mathlib.Core.List.{List, []}
use Rattle.std.proofs.Math.Option.{Option, none}
use Prim.Native.Nat.{ℕ, zero, suc, ◌+◌, ◌-◌, ◌≤◌, ◌<◌}
use native.Mathlib.Omega.{arith}
use borrow.Author.Tests.{le-leb, lt-leb, eq-eqb, ne_eqb, leb-true}
use Rattle.paper.specs.Reader.{when◌then◌else◌, Reader, got, only, give, turned}
use Rattle.paper.specs.Lists.{any, all, given?}
use Rattle.paper.specs.Ledger.{State, objects_in_all}
use Rattle.paper.specs.Rules.{around?, clear?, in_range?, few_objects?, count_rules}
use Rattle.numbers.specs.Cursors.{Read, Outcome}
use Rattle.numbers.specs.declared.Cursor.{Cursor}
use Rattle.laws.specs.Bools.{and_split}
use Rattle.table.specs.View.{view, maybe}
use Rattle.reader.specs.Ruled.{judged-bad, judged-got}
use Rattle.reader.specs.Heads.{due, DueRead, CountJudged}
use Rattle.reader.specs.HeadLaws.{differ, only-due}
use Rattle.numbers.specs.declared.Fault.TheVariants as fault

-- ── what is read only if it is due ──

module _ {b : Bool} {q : Reader ℕ} {m : ℕ} {f : List ℕ} {at : ℕ} where
  pub due-read : b ≡ true → {r : Outcome ℕ} → Read q m f at r → DueRead b q m f at r
  due-read e {r} read =
      subst (λ (b : Bool). DueRead b q m f at r) (sym e)
      (record { says = ap (turned (due true)) read.says ∙ sym (only-due q f at); inside = read.inside; below = read.below; none = λ w. differ (cc w) })

  pub due-none : b ≡ false → 0 < m → {c : Cursor} → at ≡ c.at → DueRead b q m f at (Ok (0, c))
  unfolding only give
  due-none e pos {c} is =
      subst (λ (b : Bool). DueRead b q m f at (Ok (0, c))) (sym e)
      (record { says = ap (got none) (sym is); inside = λ lo. rw (← is) lo; below = pos; none = λ w. refl })

pub given-up : (up : ℕ) → (up ≡ 0 → ⊥) → given? (maybe up) ≡ true
unfolding given?
given-up zero ne = absurd (ne refl)
given-up (suc u) ne = refl

pub given-none : (up : ℕ) → up ≡ 0 → given? (maybe up) ≡ false
unfolding given?
given-none up e = ap (λ (u : ℕ). given? (maybe u)) e

-- ── the bound of objects ──

module _ (s : State) (super : Option ℕ) (n : ℕ) where
  pub few-big : 65535 < n → false ≡ few_objects? s super n
  unfolding few_objects?
  few-big lt = rw (lt-leb n 65535 lt)

  pub few-below : n ≤ 65535 → given? super ≡ true → true ≡ few_objects? s super n
  unfolding few_objects?
  few-below le e = rw (le-leb n 65535 le, e)

  pub few-base : n ≤ 65535 → given? super ≡ false → leb (objects_in_all s + n) 65535 ≡ few_objects? s super n
  unfolding few_objects?
  few-base le e = rw (le-leb n 65535 le, e) refl

  pub few-most : few_objects? s super n ≡ true → n ≤ 65535
  unfolding few_objects?
  few-most e = leb-true n 65535 (and_split (leb n 65535) _ e).0

-- ── the range rules ──

module _ (s : State) (start n : ℕ) where
  pub range-base : (up : ℕ) → up ≡ 0 → true ≡ in_range? s (maybe up) start n
  unfolding in_range?
  range-base up e = rw e refl

  pub range_none : (up : ℕ) → (up ≡ 0 → ⊥) → n ≡ 0 → eqb start 0 ≡ in_range? s (maybe up) start n
  unfolding in_range? when◌then◌else◌
  range_none zero ne e = absurd (ne refl)
  range_none (suc u) ne e = rw (eq-eqb n 0 e) refl

  pub range-out : (up : ℕ) → (up ≡ 0 → ⊥) → (n ≡ 0 → ⊥) → any (around? s.block (up - 1) start n) s.log ≡ false → false ≡ in_range? s (maybe up) start n
  unfolding in_range? when◌then◌else◌
  range-out zero low ne h = absurd (low refl)
  range-out (suc u) low ne h = let z : suc u - 1 ≡ u = omega arith in rw (ne_eqb n 0 ne, rw z at h)

  pub range-in : (up : ℕ) → (up ≡ 0 → ⊥) → (n ≡ 0 → ⊥) → any (around? s.block (up - 1) start n) s.log ≡ true → all (clear? s.block s.types (up - 1) start) s.log ≡ in_range? s (maybe up) start n
  unfolding in_range? when◌then◌else◌
  range-in zero low ne h = absurd (low refl)
  range-in (suc u) low ne h = let z : suc u - 1 ≡ u = omega arith in rw (ne_eqb n 0 ne, rw z at h, z) refl

-- ── the count ──

module _ {l : List ℕ} (up start : ℕ) {n at next : ℕ} where
  pub count-over : ((f : List ℕ) → few_objects? (view f l) (maybe up) n ≡ false) → CountJudged l up start n at next (Err (record { fault = fault.Limit; place = at }))
  unfolding count_rules
  count-over e = record { judged = λ f h. judged-bad (count_rules (view f l) (maybe up) start) (rw (e f)); below = omega arith }

  module _ (few : (f : List ℕ) → few_objects? (view f l) (maybe up) n ≡ true) where
    pub count-out : ((f : List ℕ) → in_range? (view f l) (maybe up) start n ≡ false) → CountJudged l up start n at next (Err (record { fault = fault.Range; place = at }))
    unfolding count_rules
    count-out e = record { judged = λ f h. judged-bad (count_rules (view f l) (maybe up) start) (rw (few f, e f)); below = omega arith }

    pub count-in : {c : Cursor} → c.at ≡ next → ((f : List ℕ) → in_range? (view f l) (maybe up) start n ≡ true) → CountJudged l up start n at next (Ok (n, c))
    unfolding count_rules
    count-in here e =
        record {
          judged = λ f h. judged-got (count_rules (view f l) (maybe up) start) here (rw (few f, e f));
          below = omega (arith, few-most (view [] l) (maybe up) n (few []));
        }

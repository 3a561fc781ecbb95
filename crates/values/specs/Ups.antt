-- Numbers that are there, of which only the largest is held against a bound. Assumes nothing.
use Rattle.std.specs.Prelude.{◌≡◌, ℕ, suc, ◌+◌, ◌-◌, ◌*◌, ◌<◌, ◌≤◌, max, List, length, refl}
use Rattle.std.proofs.Common.{arith, zero-add, suc-add, le-leb}
use Rattle.std.proofs.Math.Nat.{le-max_left, le-max_right}
use Rattle.paper.specs.Reader.{got, must}
use Rattle.paper.specs.Numbers.{v64, number}
use Rattle.numbers.specs.Turned.{TakenV64}
use Rattle.numbers.specs.declared.Taken.{Taken}
use Rattle.values.specs.Pass.{forget, Running, running-on}
use Rattle.values.specs.Items.{linked, at_most}

-- k numbers one after the other, none of them above `most`, from `at` up to the last argument
pub data Up (f : List ℕ) (most : ℕ) : ℕ → ℕ → ℕ → Type 0 where
  here : {at : ℕ} → Up f most 0 at at
  past : {k at x e end : ℕ} → v64 f at ≡ got x e → x ≤ most → e ≤ length f → Up f most k e end → Up f most (suc k) at end

up_more : {f : List ℕ} {a b k at end : ℕ} → a ≤ b → Up f a k at end → Up f b k at end
up_more h here = here
up_more h (past says low inside rest) = past says (omega arith) inside (up_more h rest)

up-then : {f : List ℕ} {most k m at e end : ℕ} → Up f most k at e → Up f most m e end → Up f most (k + m) at end
up-then {m = m} here o = rw (zero-add m) o
up-then {m = m} (past {k} says low inside rest) o = rw (suc-add k m) (past says low inside (up-then rest o))

-- r of `rest` numbers are there, whatever they are
pub record Surely (size at rest r : ℕ) : Type 0 where
  pub room : 0 < r → at + 9 * r ≤ size
  pub few : r ≤ rest

-- ── the loop: i are read ──

pub record Upward (f : List ℕ) (from largest at i : ℕ) : Type 0 where
  pub up : Up f largest i from at
  pub near : at ≤ from + 9 * i

pub upward-start : (f : List ℕ) (from : ℕ) → Upward f from 0 from 0
upward-start f from = record { up = here; near = omega arith }

module _ {f : List ℕ} {from largest at i : ℕ} (U : Upward f from largest at i) where
  pub upward-next : {t : Taken} → TakenV64 f at t → at + 9 ≤ length f → Upward f from (max largest t.number) t.next.at (i + 1)
  upward-next {t} T room =
      let inside : t.next.at ≤ length f = omega (arith, T.most) in
      let more = up_more (le-max_left largest t.number) U.up in
      record { up = up-then more (past T.says (le-max_right largest t.number) inside here); near = omega (arith, U.near, T.most) }

  pub upward-done : (n : ℕ) → i ≡ n → Up f largest n from at
  upward-done n all = rw all at U.up

-- ── those that are left to read are fewer by as many, where the largest keeps the bound ──

keeps : (most : ℕ) (f : List ℕ) (at : ℕ) {x e : ℕ} → v64 f at ≡ got x e → x ≤ most → forget (linked (at_most most) f at) ≡ got tt e
unfolding forget linked at_most number must
keeps most f at {x} says low = rw (says, le-leb x most low) refl

pub running-up :
    {f : List ℕ} {m from most at rest k e : ℕ} → Running (linked (at_most most)) f m from rest at → Up f most k at e → k ≤ rest
    → Running (linked (at_most most)) f m from (rest - k) e
running-up {rest = rest} R here h = let same : rest - 0 ≡ rest = omega arith in rw same R
running-up {f} {most = most} {at = at} {rest = rest} R (past {k} {e = e} says low inside others) h =
    let less : rest - suc k ≡ rest - 1 - k = omega arith in
    rw less (running-up (running-on R (omega arith) e (keeps most f at says low) (λ i. inside)) others (omega arith))

pub running-to :
    {f : List ℕ} {m from rest at most largest k e : ℕ} → Running (linked (at_most most)) f m from rest at → Up f largest k at e → largest ≤ most → k ≤ rest
    → Running (linked (at_most most)) f m from (rest - k) e
running-to R U low h = running-up R (up_more low U) h

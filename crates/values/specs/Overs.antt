-- Numbers of which nothing is asked, passed over many at a time. Assumes nothing.
use Rattle.std.specs.Prelude.{Ok, ◌≡◌, ℕ, suc, ◌+◌, ◌-◌, ◌*◌, ◌<◌, ◌≤◌, List}
use Rattle.std.proofs.Common.{sym, ◌∙◌, arith}
use Rattle.paper.specs.Reader.{Reader, Out, got, no, and_then, repeat}
use Rattle.paper.specs.Numbers.{v64}
use Rattle.numbers.specs.Begun.{Ended}
use Rattle.numbers.specs.Words.{Over, here, past, over-then, Ran}
use Rattle.numbers.specs.declared.Run.{Run}
use Rattle.values.specs.Pass.{forget, Passed, Running, running-start, running-on, running-done}
use Rattle.numbers.specs.Cursors.{Outcome}

-- r looks at nine bytes each from `at` on, of which each passes over eight numbers at most
pub record Looks (size at rest r : ℕ) : Type 0 where
  pub room : 0 < r → at + 9 * r ≤ size
  pub few : 8 * r ≤ rest

-- so many numbers as a run of n looks has
pub record RanTo (n : ℕ) (f : List ℕ) (at : ℕ) (r : Run) : Type 0 where
  pub over : Over f r.count at r.next.at
  pub some : 0 < n → 0 < r.count
  pub few : r.count ≤ 8 * n

-- ── the loop: i looks are done ──

pub record Looking (f : List ℕ) (from count at i : ℕ) : Type 0 where
  pub over : Over f count from at
  pub some : 0 < i → 0 < count
  pub few : count ≤ 8 * i
  pub near : at ≤ from + 9 * i

pub looking-start : (f : List ℕ) (from : ℕ) → Looking f from 0 from 0
looking-start f from = record { over = here; some = λ h. absurd (omega arith); few = omega arith; near = omega arith }

module _ {f : List ℕ} {from count at i : ℕ} (L : Looking f from count at i) where
  pub looking-next : {r : Run} → Ran f at r → Looking f from (count + r.count) r.next.at (i + 1)
  looking-next R =
      record {
        over = over-then L.over R.over;
        some = λ h. omega (arith, R.some);
        few = omega (arith, L.few, R.few);
        near = omega (arith, L.near, R.near);
      }

  pub looking-done : (n : ℕ) → i ≡ n → RanTo n f from (record { count = count; next = record { at = at } })
  looking-done n all = record { over = L.over; some = λ h. L.some (omega arith); few = omega (arith, L.few) }

-- ── those that are left to read are fewer by as many ──

pub running-over :
    {f : List ℕ} {m from at rest k e : ℕ} → Running v64 f m from rest at → Over f k at e → k ≤ rest → Running v64 f m from (rest - k) e
unfolding forget
running-over {rest = rest} R here h = let same : rest - 0 ≡ rest = omega arith in rw same R
running-over {f} {m} {from} {at} {rest} R (past {k} {e = e} one others) h =
    let less : rest - suc k ≡ rest - 1 - k = omega arith in
    rw less (running-over (running-on R (omega arith) e (ended (v64 f at) one.says) (λ i. one.inside)) others (omega arith))
  where
    ended : (o : Out ℕ) → and_then o (λ n e. got (tt {0}) e) ≡ got tt e → forget o ≡ got tt e
    ended (got n p) q = q
    ended (no n p) q = q

-- what reads those that are left reads the whole
pub running-rest :
    {r : Reader ℕ} {f : List ℕ} {m from rest at : ℕ} {n : Outcome ℕ} → Running r f m from rest at → Passed (repeat rest r) f at n → Passed (repeat m r) f from n
running-rest R P = record { says = P.says ∙ sym R.says; inside = λ h. P.inside (R.inside h) }

-- ── one by one, where all are there: i are passed over ──

pub record Each (f : List ℕ) (from at i : ℕ) : Type 0 where
  pub over : Over f i from at
  pub near : at ≤ from + 9 * i

pub each_start : (f : List ℕ) (from : ℕ) → Each f from from 0
each_start f from = record { over = here; near = omega arith }

pub each_next : {f : List ℕ} {from at i e : ℕ} → Each f from at i → Ended f at e → e ≤ at + 9 → Each f from e (i + 1)
each_next E one near = record { over = over-then E.over (past one here); near = omega (arith, E.near) }

pub each-done : {f : List ℕ} {from at i : ℕ} (m : ℕ) → Each f from at i → i ≡ m → Over f m from at
each-done m E all = rw all at E.over

pub over-passed : {f : List ℕ} {m at e : ℕ} (x : ℕ) → Over f m at e → Passed (repeat m v64) f at (Ok (x, record { at = e }))
over-passed {f} {m} {at} x O = running-done (running-over (running-start v64 f m at) O (omega arith)) x (omega arith)

-- Eight bytes as one number, lowest first: which of them end a v64, and how many v64s are passed over with them. Assumes nothing.
use Rattle.std.specs.Prelude.{List, ℕ, zero, suc, ◌+◌, ◌-◌, ◌*◌, ◌/◌, ◌%◌, ◌≤◌, ◌<◌}
use Rattle.std.proofs.Common.{zero-add, suc-add}
use Rattle.numbers.specs.Begun.{Ended}
use Rattle.numbers.specs.declared.Run.{Run}

-- 1 for a byte that ends a v64, unless it is the ninth: one without its top bit
abbrev pub stop : ℕ → ℕ
stop b = 1 - b / 128

-- the lowest n bytes of x, each of which has its top bit where it ends a v64, and no other bit
unfoldable pub marks : ℕ → ℕ → ℕ
marks zero x = 0
marks (suc n) x = 128 * stop (x % 256) + 256 * marks n (x / 256)

-- the lowest seven bits of each of them, side by side
unfoldable pub septets : ℕ → ℕ → ℕ
septets zero x = 0
septets (suc n) x = x % 128 + 128 * septets n (x / 256)

-- k numbers one after the other, from `at` up to the last argument
pub data Over (f : List ℕ) : ℕ → ℕ → ℕ → Type 0 where
  here : {at : ℕ} → Over f 0 at at
  past : {k at e end : ℕ} → Ended f at e → Over f k e end → Over f (suc k) at end

-- and then others
pub over-then : {f : List ℕ} {k m at e end : ℕ} → Over f k at e → Over f m e end → Over f (k + m) at end
over-then {m = m} here o = rw (zero-add m) o
over-then {m = m} (past {k} one rest) o = rw (suc-add k m) (past one (over-then rest o))

-- so many numbers as a run has, up to its cursor
pub record Ran (f : List ℕ) (at : ℕ) (r : Run) : Type 0 where
  pub over : Over f r.count at r.next.at
  pub some : 0 < r.count
  pub few : r.count ≤ 8
  pub near : r.next.at ≤ at + 9

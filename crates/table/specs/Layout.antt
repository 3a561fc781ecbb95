-- The six kinds of rows by number, so that each law is said once for all of them: 0 strings, 1 types, 2 fields, 3 ranges,
-- 4 chunks that are due, 5 chunks. Cell k has how many rows of kind k there are. The view's own numbers are these. Assumes nothing.
use Rattle.std.specs.Prelude.{◌≡◌, ℕ, zero, suc, ◌+◌, ◌*◌, ◌<◌, ◌≤◌, ◌≢◌, [], ◌∷◌, slice_index, refl}
use Rattle.std.proofs.Common.{zero-le, sym, le_refl, not-suc-le-zero, le_of_suc-le-suc, eq-or-lt_of_le, arith}
use Rattle.std.proofs.Math.Logic.{⊎_elim}
use Rattle.std.proofs.Math.Nat.{mul-le-mul_left}
use Rattle.table.specs.RowLaws.{lt-or-ge}

-- the numbers of a row, and the most rows
unfoldable pub width : ℕ → ℕ
width k = slice_index (2 ∷ 5 ∷ 16 ∷ 3 ∷ 4 ∷ 2 ∷ []) k

unfoldable pub most : ℕ → ℕ
most k = slice_index (1024 ∷ 32 ∷ 128 ∷ 1024 ∷ 128 ∷ 4096 ∷ []) k

-- the first cell of the rows of a kind: they stand one kind after the other, behind 16 cells for counts
unfoldable pub starts : ℕ → ℕ
starts zero = 16
starts (suc k) = starts k + width k * most k

pub starts-le : (a b : ℕ) → a ≤ b → starts a ≤ starts b
unfolding starts
starts-le zero zero h = le_refl _
starts-le (suc a) zero h = absurd (not-suc-le-zero h)
starts-le a (suc b) h =
    ⊎_elim (λ (e : a ≡ suc b). rw e (le_refl _)) (λ (lt : a < suc b). let r = starts-le a b (le_of_suc-le-suc lt) in omega arith) (eq-or-lt_of_le h)

pub head-le : (k : ℕ) → 16 ≤ starts k
unfolding starts
head-le k = starts-le 0 k zero-le

next-starts : (k : ℕ) → starts (suc k) ≡ starts k + width k * most k
unfolding starts
next-starts k = refl

-- the rows end where the tallies begin
all_end : starts 6 ≤ 16048
unfolding starts width most
all_end = omega arith

-- row n of kind c, within what is c's, touches no other kind's rows
module _ (k c n : ℕ) (other : k ≢ c) (fits : n < most c) where
  pub kinds-apart : starts k < starts c + width c * n + width c → starts k + width k * most k ≤ starts c + width c * n
  unfolding starts
  kinds-apart h =
      let row = mul-le-mul_left (width c) fits in
      ⊎_elim (λ (lt : k < c). let r = starts-le (suc k) c lt in omega arith)
      (λ (ge : c ≤ k). ⊎_elim (λ (e : c ≡ k). absurd (other (sym e))) (λ (gt : c < k). let r = starts-le (suc c) k gt in omega arith) (eq-or-lt_of_le ge))
      (lt-or-ge k c)

-- and stands within the table
pub row_fits : (c n : ℕ) → c < 6 → n < most c → starts c + width c * n + width c ≤ 16048
row_fits c n few fits =
    let row = mul-le-mul_left (width c) fits in
    let below = starts-le (suc c) 6 few in
    omega (arith, next-starts c, all_end)

pub kind_fits : (k : ℕ) → k < 6 → starts k + width k * most k ≤ 16048
kind_fits k few = let below = starts-le (suc k) 6 few in omega (arith, next-starts k, all_end)

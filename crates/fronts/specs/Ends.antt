-- Where the chunks that are due end, by their sizes in the table. Assumes nothing.
use Rattle.std.proofs.Math.Path.{◌≡◌, ap}
use Rattle.std.specs.Prelude.{refl, ℕ, suc, ◌+◌, ◌-◌, ◌^◌, ◌≤◌, ◌<◌, min, get_or}
use Rattle.std.proofs.Common.{sym, ◌∙◌, arith, add-one, drop-cons}
use mathlib.Core.List.{List, [], ◌∷◌, map}
use Rattle.std.proofs.Math.Nat.{min-eq_left, min-eq_right}
use Rattle.std.proofs.Math.ListN.{length, drop, drop_of_length-le}
use Rattle.paper.specs.Ledger.{Due}
use Rattle.paper.specs.Pieces.{ends_from}
use Rattle.table.specs.View.{dues_of, Ok, dues_in}
use Rattle.table.specs.Answers.{due_in, no_due}
use Rattle.table.specs.declared.rows.DueRow.{DueRow}
use Rattle.fronts.specs.declared.Ends.{Ends}

unfoldable pub sum : List ℕ → ℕ
sum [] = 0
sum (n ∷ ns) = n + sum ns

-- where pieces of these sizes end, the first of which begins at `from`
unfoldable pub ends_of : ℕ → List ℕ → List ℕ
ends_of from [] = []
ends_of from (n ∷ ns) = (from + n) ∷ ends_of (from + n) ns

pub ends-of : (from : ℕ) (bs : List (List ℕ)) → ends_of from (map length bs) ≡ ends_from from bs
unfolding ends_of ends_from
ends-of from [] = refl
ends-of from (b ∷ bs) = ap (λ (es : List ℕ). (from + length b) ∷ es) (ends-of (from + length b) bs)

-- ── as code reckons them ──

-- the end stands still at the most that 64 bits hold
unfoldable pub end_behind : ℕ → ℕ → ℕ
end_behind from n = min (from + n) 18446744073709551615

unfoldable pub ends_behind : ℕ → List ℕ → List ℕ
ends_behind from [] = []
ends_behind from (n ∷ ns) = end_behind from n ∷ ends_behind (end_behind from n) ns

pub ends-behind : (from : ℕ) (ns : List ℕ) → from + sum ns < 2 ^ 64 → ends_behind from ns ≡ ends_of from ns
unfolding ends_of ends_behind end_behind sum
ends-behind from [] h = refl
ends-behind from (n ∷ ns) h =
    let fits : from + n ≤ 18446744073709551615 = omega arith in
    rw (min-eq_left fits, ends-behind (from + n) ns (omega arith))

abbrev pub sizes : List (Due × ℕ) → List ℕ
sizes ds = map (λ (d : Due × ℕ). d.1) ds

-- the ends that come next
unfoldable pub left : List ℕ → Ends → List ℕ
left l e = ends_behind e.end (sizes (drop e.row (dues_of l)))

-- `r` is behind the first of them, if there is one
pub record NextEnd (l : List ℕ) (e r : Ends) : Type 0 where
  pub is : (x : ℕ) (xs : List ℕ) → left l e ≡ x ∷ xs → (r.end ≡ x) × (left l r ≡ xs)

-- ── the ways out of `next_end` ──

module _ (l : List ℕ) (e : Ends) (ok : Ok l) where
  pub none_left : dues_in l ≤ e.row → NextEnd l e e
  unfolding left ends_behind
  none_left h =
      record {
        is = λ x xs q.
            let past : length (dues_of l) ≤ e.row = omega (arith, ok.dues-count) in
            let none : drop e.row (dues_of l) ≡ [] = drop_of_length-le (dues_of l) past in
            let z : ◌≡◌ {A = List ℕ} [] (x ∷ xs) = rw none at q in
            let k : ◌≡◌ {A = ℕ} 0 (suc (length xs)) = ap length z in
            absurd (omega arith);
      }

  module _ (lt : e.row < dues_in l) {d : DueRow} (row : due_in d ≡ get_or (dues_of l) e.row no_due) where
    first-left : drop e.row (dues_of l) ≡ due_in d ∷ drop (e.row + 1) (dues_of l)
    first-left = drop-cons (dues_of l) e.row no_due (omega (arith, ok.dues-count)) ∙ rw (add-one, row) refl

    behind-first : (end : ℕ) → end ≡ end_behind e.end d.size → left l e ≡ end ∷ left l (record { row = e.row + 1; end = end })
    unfolding left ends_behind
    behind-first end is = rw (first-left, is)

    next-left : (end : ℕ) → end ≡ end_behind e.end d.size → NextEnd l e (record { row = e.row + 1; end = end })
    next-left end is =
        record {
          is = λ x xs q. let z : end ∷ left l (record { row = e.row + 1; end = end }) ≡ x ∷ xs = sym (behind-first end is) ∙ q in (cc z, cc z);
        }

    pub next-most : 18446744073709551615 - e.end < d.size → NextEnd l e (record { row = e.row + 1; end = 18446744073709551615 })
    unfolding end_behind
    next-most h = next-left _ (sym (min-eq_right (omega arith)))

    pub next-sum : e.end ≤ 18446744073709551615 → d.size ≤ 18446744073709551615 - e.end → NextEnd l e (record { row = e.row + 1; end = e.end + d.size })
    unfolding end_behind
    next-sum fits h = next-left _ (sym (min-eq_left (omega arith)))

-- How large the numbers of the ranges are at every stage that is reached, so that no sum of them is too long for a number of
-- 32 bits. Assumes nothing.
use Rattle.std.specs.Prelude.{◌≡◌, Bool, List, [], ◌∷◌, ◌++◌, ℕ, suc, ◌+◌, ◌*◌, ◌≤◌, leb, length}
use Rattle.std.proofs.Math.Path.{refl}
use Rattle.std.proofs.Math.Bool.{true, false}
use Rattle.std.proofs.Common.{arith}
use borrow.Author.Tests.{leb-true}
use Rattle.paper.specs.Reader.{when◌then◌else◌}
use Rattle.paper.specs.Bounds.{most_objects}
use Rattle.paper.specs.Lists.{total, given?, or}
use Rattle.paper.specs.Ledger.{Head, Range, State, nothing, of?, size, objects_of, before?, pool_before, base?, objects_in_all}
use Rattle.paper.specs.Rules.{small_rules, count_rules, few_objects?, super_of, base_of, new_range}
use Rattle.laws.specs.Bools.{and_split}
use Rattle.lookups.specs.Low.{Low, Bounded}
use Rattle.trail.specs.Stages.{Stage, begin}
use Rattle.recall.specs.Added.{HeadHeld, head-held, BlockAdded, EntryAdded}
use Rattle.recall.specs.Reached.{Reached, reached-keep}
use Rattle.recall.specs.Kept.{log-short, few-ranges}

-- ── a head's numbers ──

module _ (s : State) (h : Head) (H : HeadHeld s h) where
  pub start_small : or h.start 0 ≤ 65535
  unfolding small_rules or
  start_small = go (given? (super_of s h.name h.super)) refl
    where
      go : (b : Bool) → given? (super_of s h.name h.super) ≡ b → or h.start 0 ≤ 65535
      go true e = let (n, x, y) = H.start-due e in rw x (leb-true n most_objects y.0)
      go false e = rw (H.start_left e) (omega arith)

  pub count_small : h.count ≤ 65535
  unfolding count_rules few_objects?
  count_small = leb-true h.count most_objects (and_split (leb h.count most_objects) _ H.count.0).0

-- ── the ranges' numbers ──

low-snoc : (j : ℕ) (rs : List Range) (r : Range) → Low j rs → r.count ≤ 65535 → r.first ≤ 65535 * (j + length rs + 1) → Low j (rs ++ r ∷ [])
low-snoc j [] r h c f = (c, omega arith, tt)
low-snoc j (x ∷ rs) r h c f = (h.0, h.1, low-snoc (suc j) rs r h.2 c (omega arith))

low-total : (p : Range → Bool) (j : ℕ) (rs : List Range) → Low j rs → total p size rs ≤ 65535 * length rs
unfolding total size when◌then◌else◌
low-total p j [] h = omega arith
low-total p j (r ∷ rs) h = go (low-total p (suc j) rs h.2) (p r)
  where
    go : total p size rs ≤ 65535 * length rs → (b : Bool) → (when b then r.count + total p size rs else total p size rs) ≤ 65535 * suc (length rs)
    go ih true = omega (arith, h.0)
    go ih false = omega arith

pub record Lows (g : Stage) : Type 0 where
  pub low : Low 0 g.state.log

start-lows : Lows begin
unfolding begin nothing
start-lows = record { low = tt }

block-lows : (g h : Stage) → BlockAdded g h → Lows g → Lows h
block-lows g h A L = record { low = rw A.log L.low }

range-low : (s : State) (h : Head) → HeadHeld s h → Low 0 s.log → Low 0 (s.log ++ new_range s h ∷ [])
unfolding new_range pool_before
range-low s h H low =
    low-snoc 0 s.log (new_range s h) low (count_small s h H)
    (omega (arith, start_small s h H, low-total (before? s.block (base_of s h)) 0 s.log low))

entry-lows : (f : List ℕ) (g : Stage) (at : ℕ) (h : Stage) → (g.left ≡ 0 → ⊥) → EntryAdded f g at h → Lows g → Lows h
entry-lows f g at h nz A L =
    record { low = rw A.after.log (range-low g.state A.top (head-held g.state f at A.top A.after-top A.top_read) L.low) }

module _ {f : List ℕ} {k : ℕ} {g : Stage} (R : Reached f k g) where
  pub log-low : Low 0 g.state.log
  log-low = (reached-keep Lows (record { block = block-lows; entry = entry-lows }) start-lows R).low

  pub log-bounded : Bounded g.state.log
  log-bounded = record { low = log-low; few = few-ranges R }

  -- any of the ranges, summed
  pub sum-few : (p : Range → Bool) → total p size g.state.log ≤ 67107840
  sum-few p = omega (arith, low-total p 0 g.state.log log-low, log-short R)

  pub objects-few : (t : ℕ) → objects_of g.state t ≤ 67107840
  unfolding objects_of
  objects-few t = sum-few (of? t)

  pub all-few : objects_in_all g.state ≤ 67107840
  unfolding objects_in_all
  all-few = sum-few (base? g.state.types)

  pub pool-few : (t : ℕ) → pool_before g.state t ≤ 67107840
  unfolding pool_before
  pool-few t = sum-few (before? g.state.block t)

-- What a table's tallies tell. Assumes nothing.
use Rattle.std.specs.Prelude.{◌≡◌, ℕ, ◌-◌, ◌<◌, ◌≤◌, true, false, ◌&&◌, List, nat_le, slice_index, slice_index_or, refl}
use Rattle.std.proofs.Common.{sym, ◌∙◌, arith, le_refl, zero-le}
use Rattle.std.proofs.Math.Path.{ap}
use Rattle.paper.specs.Lists.{any, all, total, given?}
use Rattle.paper.specs.Ledger.{of?, before?, holds?, size, owns?, type_in}
use Rattle.paper.specs.Rules.{entry_of?, clear?}
use Rattle.table.specs.View.{maybe, types_of, flds_of, log_of, tally, Ok}
use Rattle.table.specs.Told.{up_to?}
use Rattle.table.specs.ToldLaws.{all-weak, none_of, total-same, total-none, still-up, no-entry, all-before, clear-more}
use Rattle.table.specs.OwnedLaws.{none_before, none-behind, none-past}
use Rattle.table.specs.Answers.{Stretched}
use Rattle.std.specs.Prelude.{Some}

module _ (l : List ℕ) (b t : ℕ) (none : all (up_to? t b) (log_of l) ≡ true) where
  pub not_entered : any (entry_of? b t) (log_of l) ≡ false
  not_entered = none_of (up_to? t b) (entry_of? b t) (no-entry t b b (le_refl b)) (log_of l) none

  pub no-count : total (entry_of? b t) size (log_of l) ≡ 0
  no-count = total-none (up_to? t b) (entry_of? b t) size (no-entry t b b (le_refl b)) (log_of l) none

module _ {l : List ℕ} (ok : Ok l) (on : slice_index_or l 7 0 ≡ 1) (t : ℕ) (lt : t < 32) where
  pub none_told : (b : ℕ) → tally l t 2 ≤ b → all (up_to? t b) (log_of l) ≡ true
  none_told b le = all-weak (up_to? t (tally l t 2)) (up_to? t b) (still-up t (tally l t 2) b le) (log_of l) ((ok.telling on).latest t lt)

  pub pool-all : (b : ℕ) → tally l t 2 ≤ b → total (before? b t) size (log_of l) ≡ total (of? t) size (log_of l)
  pool-all b le = total-same (up_to? t (tally l t 2)) (before? b t) (of? t) size (all-before t (tally l t 2) b le) (log_of l) ((ok.telling on).latest t lt)

  pub clear-beyond : (b start : ℕ) → tally l t 5 ≤ b → all (clear? b (types_of l) t start) (log_of l) ≡ true
  clear-beyond b start le = all-weak (clear? b (types_of l) t 0) (clear? b (types_of l) t start) (clear-more b (types_of l) t 0 start zero-le) (log_of l) ((ok.telling on).beyond t lt b le)

  pub clear-here : (b start : ℕ) → tally l t 5 - 1 ≡ b → tally l t 6 ≤ start → all (clear? b (types_of l) t start) (log_of l) ≡ true
  clear-here b start e le =
      all-weak (clear? b (types_of l) t (tally l t 6)) (clear? b (types_of l) t start) (clear-more b (types_of l) t (tally l t 6) start le) (log_of l)
      (ap (λ (k : ℕ). all (clear? k (types_of l) t (tally l t 6)) (log_of l)) (sym e) ∙ (ok.telling on).ended t lt)

  pub stretch-told : {a b : ℕ} → a ≡ tally l t 0 → b ≡ tally l t 7 → Stretched t (flds_of l) (record { from = a; to = b })
  stretch-told a-is b-is =
      let O = ok.owning on in
      rw (a-is, b-is) (record { forward = O.begins t lt; inside = O.ends t lt; before = none_before O t lt; behind = none-behind O t lt })

  -- of a base type
  pub pool-told : {up : ℕ} → maybe up ≡ (type_in (types_of l) t).super → up ≡ 0 → {x : ℕ} → x ≡ tally l t 1 → (n : ℕ) → Some x ≡ Some n → (m : ℕ) → any (holds? t m) (log_of l) ≡ (nat_le 1 m && nat_le m n)
  unfolding given?
  pool-told {up} above none_above {x} is n same m =
      let base : given? (type_in (types_of l) t).super ≡ false = ap given? (sym above) ∙ ap (λ (k : ℕ). given? (maybe k)) none_above in
      let count : x ≡ n = cc in
      (ok.telling on).lying t lt base m ∙ ap (λ (k : ℕ). nat_le 1 m && nat_le m k) (sym is ∙ count)

-- all fields
pub stretch-all : {l : List ℕ} (t : ℕ) → Ok l → {n : ℕ} → n ≡ slice_index l 2 → Stretched t (flds_of l) (record { from = 0; to = n })
stretch-all {l} t ok n-is =
    record { forward = zero-le; inside = omega (arith, ok.flds-count); before = refl; behind = none-past (owns? t) (flds_of l) (omega (arith, ok.flds-count)) }

-- The ways out of reading a pair, from what its calls answered. Assumes nothing.
use Rattle.std.specs.Prelude.{Err, Ok, ◌≡◌, Bool, true, false, not, List, ℕ, ◌+◌, ◌-◌, ◌≤◌, ◌<◌, length}
use Rattle.std.proofs.Common.{arith}
use Rattle.std.proofs.lemmas.Bool.{not-true, not-false}
use Rattle.numbers.specs.declared.Cursor.{Cursor}
use Rattle.numbers.specs.declared.Refusal.{Refusal}
use Rattle.table.specs.View.{said, fields_in}
use Rattle.table.specs.Counts.{counts_in, Next}
use Rattle.table.specs.declared.rows.Counts.{Counts}
use Rattle.reader.specs.Kinds.{named_by}
use Rattle.reader.specs.Sound.{Sound}
use Rattle.reader.specs.Entries.{front_go}
use Rattle.reader.specs.EntryLaws.{Passed}
use Rattle.walk.specs.Stand.{AllStand}
use Rattle.walk.specs.RegionTurns.{RegionReady, RegionChecked}
use Rattle.walk.specs.PairLaws.{PairReady, PairDone, Fronted, fronted, pair-short, pair-late, pair-ready, pair-refused, pair-got}
use Rattle.walk.specs.LateLaws.{LateReady, LateDone, late-ready, late-says}
use Rattle.numbers.specs.Cursors.{Outcome, Step}
use Rattle.numbers.specs.declared.Fault.TheVariants as fault

-- the front was read up to c, with a data region of so many bytes
module _ {f l : List ℕ} {at : ℕ} (R : PairReady f l at) {l₁ : List ℕ} {a : Outcome ℕ} (passed : Passed f l₁ at a (front_go (named_by false 0) (said f l) f at)) {size : ℕ} {c : Cursor} (is : a ≡ Ok (size, c)) where
  F : Fronted f l l₁ at size c.at
  F = fronted R passed is

  sound : Sound (said f l₁)
  sound = (rw is at passed).sound

  pub start-inside : c.at ≤ length f
  start-inside = (rw is at passed).inside R.inside

  pub region-short : length f - c.at < size → PairDone f l l₁ at (Err (record { fault = fault.Short; place = c.at }))
  region-short lt = pair-short R F passed.holds sound (omega (arith, start-inside))

  module _ {before : Counts} (had : before ≡ counts_in l) where
    pub late-asks : LateReady f l₁ before at
    late-asks = rw had (late-ready R F passed.holds sound)

    module _ {b : Bool} (asked : AllStand l₁ before.fields b) (le : size ≤ length f - c.at) where
      fits : c.at + size ≤ length f
      fits = omega (arith, start-inside)

      asked_here : AllStand l₁ (fields_in l) b
      asked_here = rw had at asked

      pub kind-late : not b ≡ true → {l₂ : List ℕ} {r : Step} → LateDone f l₁ before at r l₂ → PairDone f l l₂ at r
      kind-late t {l₂} {r} D =
          let D' = rw had at D in
          let z : b ≡ false = not-true b t in
          pair-late R F passed.holds sound fits (rw z at asked_here) D'.holds (late-says R F passed.holds sound D')

      pub region-asks : RegionReady f l₁ c.at
      region-asks = pair-ready R F passed.holds sound fits

      module _ (t : not b ≡ false) {l₂ : List ℕ} {d : Step} (checked : RegionChecked f l₁ c.at d l₂) where
        stand : AllStand l₁ (fields_in l) true
        stand = let z : b ≡ true = not-false b t in rw z at asked_here

        pub region-refused : {e : Refusal} → d ≡ Err e → PairDone f l l₂ at (Err e)
        region-refused no? = pair-refused R F passed.holds sound fits stand checked no?

        pub pair_ends : {e : Cursor} → d ≡ Ok e → {l₃ : List ℕ} → Next l₂ l₃ → PairDone f l l₃ at (Ok e)
        pair_ends yes? next = pair-got R F passed.holds sound fits stand checked yes? next

-- A pair laid down, or counted: its front, and with its values what was read of it. Assumes nothing.
use Rattle.std.specs.Prelude as prelude
use Rattle.std.specs.Prelude.{None, Some, ◌≡◌, refl, true, List, ◌++◌, map, ℕ, ◌+◌, ◌^◌, ◌≤◌, ◌<◌, min, length, drop}
use Rattle.std.proofs.Common.{ap, ◌∙◌, subst, arith}
use Rattle.paper.specs.Reader.{got, times}
use Rattle.paper.specs.Bounds.{most_bytes}
use Rattle.paper.specs.Numbers.{put}
use Rattle.paper.specs.Lists.{flat, all}
use Rattle.paper.specs.Ledger.{Entry, Due, State}
use Rattle.paper.specs.Rules.{after_entry, dues}
use Rattle.paper.specs.Listing.{hex}
use Rattle.laws.specs.Put.{put_strings, put_entries}
use Rattle.paper.specs.Keeps.{bytes?}
use Rattle.paper.specs.Scan.{entry_text}
use Rattle.lay.specs.Laid.{most, Laid, laid_then}
use Rattle.laws.specs.Hexed.{hexed, Spelt}
use Rattle.table.specs.View.{view, strs_of, dues_of, strings_in}
use Rattle.table.specs.Counts.{Next}
use Rattle.walk.specs.Region.{sizes}
use Rattle.fronts.specs.Ends.{sum, ends_of}
use Rattle.regions.specs.Turns.{RegionReady, RegionSized}
use Rattle.regions.specs.After.{still-ready, same_view}
use Rattle.words.specs.declared.read.Place.{Place}
use Rattle.build.specs.FrontLaws.{PairAsks, Fronted}
use Rattle.build.specs.FrontTold.{FrontTold, FrontedBy}
use Rattle.build.specs.Places.{front_bytes}
use Rattle.build.specs.Pairs.{wrong}
use Rattle.build.specs.Counting.{Counted, PairCounted}
use Rattle.build.specs.PairLaws.{region-ready, built-bad, built-long, pair, sum-small, as_many, front-laid, pair-counted, pair_inside, pair-built}
use Rattle.build.specs.declared.front.Front.{Front}

-- the bytes of a front, for every reading that these lines and rows are of
pub record FrontLays (t : List ℕ) (x : Front) (l : List ℕ) (from : ℕ) (out : List ℕ) (at : ℕ) (m : List ℕ) (r : ℕ) : Type 0 where
  pub laid :
      (ss : List (List ℕ)) → drop from (strs_of t l) ≡ map hex ss → all bytes? ss ≡ true → length (flat (λ s. s) ss) < 4294967296
      → (s : State) (es : List Entry) (next : ℕ) → times x.entries entry_text after_entry s t x.from.at ≡ got es next → length (dues_of l) ≡ length (dues s es)
      → sum (map (λ (d : Due × ℕ). d.1) (dues_of l)) < 2 ^ 64
      → Laid out at (put_strings ss ++ put x.entries ++ put_entries s es (ends_of 0 (map (λ (d : Due × ℕ). d.1) (dues_of l)))) m r

module _ {t : List ℕ} {x : Front} {l : List ℕ} {from : ℕ} {out m₁ m₂ m : List ℕ} {at p₁ p₂ r : ℕ} where
  pub front-lays :
      ((ss : List (List ℕ)) → drop from (strs_of t l) ≡ map hex ss → all bytes? ss ≡ true → length (flat (λ s. s) ss) < 4294967296 → Laid out at (put_strings ss) m₁ p₁)
      → Laid m₁ p₁ (put x.entries) m₂ p₂
      → ((s : State) (es : List Entry) (next : ℕ) → times x.entries entry_text after_entry s t x.from.at ≡ got es next → length (dues_of l) ≡ length (dues s es)
      → sum (map (λ (d : Due × ℕ). d.1) (dues_of l)) < 2 ^ 64 → Laid m₂ p₂ (put_entries s es (ends_of 0 (map (λ (d : Due × ℕ). d.1) (dues_of l)))) m r)
      → FrontLays t x l from out at m r
  front-lays a b c = record { laid = λ ss spelt small few s es next reads many fits. laid_then (laid_then (a ss spelt small few) b) (c s es next reads many fits) }

-- ── the ways out of counting a pair ──

module _ {t l : List ℕ} {at : ℕ} (A : PairAsks t l at) {a : prelude.Option Front} {l₁ : List ℕ} (T : FrontTold t l at a l₁) where
  pub pair-no-front : a ≡ None → {p : ℕ} {l' : List ℕ} → PairCounted t l at p None l'
  pair-no-front is = record { told = λ s S q. wrong (subst (λ (x : prelude.Option Front). FrontedBy t l s at x l₁) is (T.told s S q)) }

  module _ {x : Front} (is : a ≡ Some x) where
    pub fronted : (s : State) → Spelt s → view t l ≡ hexed s → Fronted t l s at x.entries x.from.at x.values.at l₁
    fronted s S q = subst (λ (y : prelude.Option Front). FrontedBy t l s at y l₁) is (T.told s S q)

    pub front-ready : RegionReady t l₁
    front-ready = region-ready A.spelt (fronted A.state A.spelt A.says)

    module _ {b : prelude.Option Place} {l₂ : List ℕ} (R : RegionSized t l₁ x.values.at b l₂) where
      pub pair-no-values : b ≡ None → {p : ℕ} {l' : List ℕ} → PairCounted t l at p None l'
      pair-no-values bad = record { told = λ s S q. built-bad S (fronted s S q) R bad }

      module _ {next : Place} (to : b ≡ Some next) where
        pub sized-ready : RegionReady t l₂
        sized-ready = still-ready (R.sized next to) front-ready

        -- the front as it was laid, or counted
        pub front-told :
            (s : State) (S : Spelt s) (q : view t l ≡ hexed s) → sizes (dues_of l₂) ≤ most_bytes → {from : ℕ} → from ≡ strings_in l → {out m : List ℕ} {p r : ℕ} → FrontLays t x l₂ from out p m r
            → Laid out p (front_bytes s (pair S (fronted s S q) R to)) m r
        front-told s S q small {from} first L =
            let F = fronted s S q in
            let spelt : drop from (strs_of t l₂) ≡ map hex F.strings = rw first (ap (λ (u : State). drop (strings_in l) u.strings) (same_view (R.sized next to)) ∙ F.spelt) in
            front-laid S F R to small (L.laid F.strings spelt F.small F.few _ F.entries x.values.at F.lines (as_many S F R to small) (sum-small S F R to small))

        module _ {n : ℕ} (size : n ≡ min (sizes (dues_of l₂)) most) where
          pub pair-long : most_bytes < n → {p : ℕ} {l' : List ℕ} → PairCounted t l at p None l'
          pair-long h = record { told = λ s S q. built-long S (fronted s S q) R to size h }

          pub pair-done :
              n ≤ most_bytes → {from : ℕ} → from ≡ strings_in l → {out m : List ℕ} {p v r : ℕ} → FrontLays t x l₂ from out p m v → r ≡ min (v + n) most → {l₃ : List ℕ} → Next l₂ l₃
              → PairCounted t l at p (Some (record { next = next; values = v; end = r })) l₃
          unfolding most pair-built
          pair-done h first {p = p} {v} {r} L end {l₃} N = record { told = λ s S q. counted s S q }
            where
              small : sizes (dues_of l₂) ≤ most_bytes
              small = omega (arith, size, h)

              counted : (s : State) → Spelt s → view t l ≡ hexed s → Counted s t l at p (record { next = next; values = v; end = r }) l₃
              counted s S q =
                  let F = fronted s S q in
                  let place = (front-told s S q small first L).next in
                  record { built = pair-built S F R to small N refl (pair_inside S F R to A.bytes) q (pair-counted S F R to small size place end); place = place }

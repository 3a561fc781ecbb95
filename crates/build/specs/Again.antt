-- The second pass: the values of a pair laid before its front, at the place where they are known to begin. Assumes nothing.
use Rattle.std.specs.Prelude as prelude
use Rattle.std.specs.Prelude.{None, Some, ◌≡◌, Bool, true, false, List, [], ℕ, ◌+◌, ◌-◌, ◌≤◌, ◌<◌, leb, get_or, drop}
use Rattle.std.proofs.Math.Path.{refl, sym, ap, subst}
use Rattle.std.proofs.Common.{◌∙◌, append-nil, arith, drop_of_length-le}
use Rattle.std.proofs.Math.Option.{none, some}
use Rattle.std.proofs.Math.ListN.{length}
use Rattle.std.proofs.lemmas.List.Edits.{sets}
use Rattle.paper.specs.Reader.{when◌then◌else◌, got}
use Rattle.paper.specs.Bounds.{most_bytes, most_pairs}
use Rattle.paper.specs.Lists.{fold}
use Rattle.paper.specs.Ledger.{Pair, Ledger, State, nothing}
use Rattle.paper.specs.Rules.{after_pair}
use Rattle.paper.specs.Encode.{put_pair, encode}
use Rattle.paper.specs.Scan.{pair_text, scan, short, file_of}
use Rattle.paper.specs.Calls.{over_front}
use Rattle.lay.specs.Laid.{most}
use Rattle.laws.specs.Laws.{not-got}
use Rattle.laws.specs.Says.{Bytes}
use Rattle.table.specs.View.{dues_of, strings_in}
use Rattle.table.specs.Counts.{Next}
use Rattle.walk.specs.Region.{sizes}
use Rattle.values.specs.Filling.{sets-front}
use Rattle.texts.specs.declared.Taken.{Taken}
use Rattle.regions.specs.Turns.{RegionReady, RegionSized}
use Rattle.regions.specs.Both.{RegionLaid, LaidSized, as-sized}
use Rattle.regions.specs.After.{still-ready}
use Rattle.build.specs.FrontLaws.{PairAsks, Fronted}
use Rattle.build.specs.FrontTold.{FrontTold, FrontedBy}
use Rattle.build.specs.Places.{front_bytes, value_bytes, pair-length, Placed, PairPlaced, placed_end, placed-next}
use Rattle.build.specs.Pairs.{Built, TextReady, FileBuilt, PairsGoing, pairs-begin, here, pairs-done, pair-asks, state-next, pairs_next}
use Rattle.build.specs.PairLaws.{values-read, pair, reads, small-sizes, region-laid, pair-laid, pair_inside, pair-built}
use Rattle.build.specs.Puts.{FrontLays, fronted, front-ready, front-told}
use Rattle.build.specs.declared.front.Front.{Front}

-- ── a pair ──

-- the pair is there, and its values begin at this place
pub record PairGiven (t l : List ℕ) (from at values : ℕ) : Type 0 where
  pub asks : PairAsks t l from
  pub pair : Pair
  pub next : ℕ
  pub reads : pair_text asks.state t from ≡ got pair next
  pub place : values ≡ at + length (front_bytes asks.state pair)
  pub short : at + length (put_pair asks.state pair) ≤ most_bytes

module _ {t l : List ℕ} {at p q : ℕ} (G : PairGiven t l at p q) {a : prelude.Option Front} {l₁ : List ℕ} (T : FrontTold t l at a l₁) where
  abbrev s : State
  s = G.asks.state

  pub again-no-front : a ≡ None → ⊥
  again-no-front is = not-got (sym (subst (λ (x : prelude.Option Front). FrontedBy t l s at x l₁) is (T.told s G.asks.spelt G.asks.says)) ∙ G.reads)

  module _ {x : Front} (is : a ≡ Some x) where
    abbrev F : Fronted t l s at x.entries x.from.at x.values.at l₁
    F = fronted G.asks T is s G.asks.spelt G.asks.says

    module _ {out m₁ : List ℕ} {b : prelude.Option Taken} {l₂ : List ℕ} (Y : LaidSized t l₁ x.values.at out q m₁ b l₂) where
      pub again-no-values : b ≡ None → ⊥
      unfolding most
      again-no-values bad =
          let (cs, reads, same) = values-read G.asks.spelt F G.reads in
          let over = Y.refused bad cs G.next reads in
          absurd (omega (arith, over, ap length same, pair-length s G.pair, G.place, G.short))

      module _ {k : Taken} (to : b ≡ Some k) where
        values-laid : RegionLaid t l₁ x.values.at out q m₁ k l₂
        values-laid = Y.laid k to

        abbrev R : RegionSized t l₁ x.values.at (Some k.next) l₂
        R = as-sized (front-ready G.asks T is) values-laid

        pub again-ready : RegionReady t l₂
        again-ready = still-ready values-laid.sized (front-ready G.asks T is)

        pub again-done : {from : ℕ} → from ≡ strings_in l → {m : List ℕ} {r : ℕ} → FrontLays t x l₂ from m₁ p m r → {l₃ : List ℕ} → Next l₂ l₃ → Built s t l at out p m k l₃
        unfolding most
        again-done first {m} {r} L N =
            let S = G.asks.spelt in
            let same : G.pair ≡ pair S F R refl = cc (sym G.reads ∙ reads S F R refl) in
            let small : sizes (dues_of l₂) ≤ most_bytes = small-sizes S F R refl (omega (arith, pair-length s G.pair, G.short, ap (λ (x : Pair). length (value_bytes s x)) same)) in
            let front = front-told G.asks T is R refl s S G.asks.says small first L in
            let meets : r ≡ q = omega (arith, front.next, G.place, G.short, pair-length s G.pair, ap (λ (x : Pair). length (front_bytes s x)) same) in
            pair-built S F R refl small N refl (pair_inside S F R refl G.asks.bytes) G.asks.says (pair-laid S F R refl small (region-laid S F R refl small values-laid) (rw meets at front))

-- ── the file ──

-- where a text has a file of the length that is lent, it stands there
pub record Filled (t out m : List ℕ) : Type 0 where
  pub told : (f : List ℕ) → file_of t ≡ some f → length f ≡ length out → m ≡ f

picked : (b : Bool) {f g : List ℕ} → (when b then some f else none) ≡ some g → f ≡ g
unfolding when◌then◌else◌
picked true q = cc q
picked false q = let z : ◌≡◌ {A = ℕ} 0 1 = cc q in absurd (omega arith)

file-is : (t : List ℕ) {l : Ledger} {e : ℕ} {f : List ℕ} → scan t ≡ got l e → file_of t ≡ some f → encode l ≡ f
unfolding file_of short
file-is t {l} {e} {f} reads is = picked (leb (length (encode l)) most_bytes) (sym (ap short reads) ∙ is)

over-all : (f out : List ℕ) → length f ≡ length out → sets out 0 f ≡ f
unfolding over_front
over-all f out long =
    let le : length out ≤ length f = omega arith in
    let none_left : drop (length f) out ≡ [] = drop_of_length-le out le in
    sets-front f out (omega arith) ∙ rw none_left (append-nil f)

whole : {t out m : List ℕ} {r : ℕ} → FileBuilt t out m r → Filled t out m
whole {t} {out} B = record { told = λ f is long. B.laid.bytes ∙ ap (sets out 0) (file-is t B.reads is) ∙ over-all f out long }

-- ── all pairs ──

-- the values of all pairs begin at these places, in a file that is short enough
pub record FileGiven (t ps : List ℕ) : Type 0 where
  pub end : ℕ
  pub short : end ≤ most_bytes
  pub many : length ps ≡ most_pairs
  pub placed : Placed t ps end nothing 0 0 most_pairs

pub record Going (t ps l₀ out l : List ℕ) (left : ℕ) (m : List ℕ) (from behind : ℕ) : Type 0 where
  pub going : PairsGoing t l₀ out l left m from behind
  pub end : ℕ
  pub short : end ≤ most_bytes
  pub placed : Placed t ps end (here going) from behind left

pub going_start : {t l ps : List ℕ} → TextReady t l → FileGiven t ps → (out : List ℕ) → length out ≤ most → Going t ps l out l most_pairs out 0 0
unfolding pairs-begin fold
going_start R F out h = record { going = pairs-begin R out h; end = F.end; short = F.short; placed = F.placed }

module _ {t ps l₀ out l : List ℕ} {left : ℕ} {m : List ℕ} {from behind : ℕ} (G : Going t ps l₀ out l left m from behind) where
  pub going_done : length t ≤ from → Filled t out m
  going_done le = whole (pairs-done G.going le)

  module _ (lt : from < length t) where
    next : PairPlaced t ps G.end (here G.going) from behind left
    next = placed-next G.placed lt

    pub some_left : 0 < left
    some_left = next.some

    ends-before : behind + length (put_pair (here G.going) next.pair) ≤ most_bytes
    ends-before = omega (arith, placed_end next.rest, G.short)

    pub going-asks : Bytes t → PairGiven t l from behind (get_or ps (left - 1) 0)
    unfolding most pair-asks
    going-asks bytes =
        let p = next.pair in
        let s = here G.going in
        record {
          asks = pair-asks G.going lt some_left bytes;
          pair = p;
          next = next.behind;
          reads = next.reads;
          place = omega (arith, next.place, ends-before, pair-length s p);
          short = ends-before;
        }

    pub going_next :
        Bytes t → {m₁ l₁ : List ℕ} {k : Taken} → ((A : PairGiven t l from behind (get_or ps (left - 1) 0)) → Built A.asks.state t l from m behind m₁ k l₁) → length l₁ ≡ length l
        → length m₁ ≡ length m → Going t ps l₀ out l₁ (left - 1) m₁ k.next.at k.at
    unfolding most pair-asks going-asks pairs_next
    going_next bytes {m₁} {l₁} {k} built long room =
        let s = here G.going in
        let B : Built s t l from m behind m₁ k l₁ = built (going-asks bytes) in
        let P : Placed t ps G.end (after_pair s next.pair) next.behind (behind + length (put_pair s next.pair)) (left - 1) = next.rest in
        let same : next.pair ≡ B.pair = cc (sym next.reads ∙ B.reads) in
        let on : next.behind ≡ k.next.at = cc (sym next.reads ∙ B.reads) in
        let at : behind + length (put_pair s next.pair) ≡ k.at = omega (arith, ends-before, B.laid.next, ap (λ (x : Pair). length (put_pair s x)) same) in
        record {
          going = pairs_next G.going lt some_left B long room;
          end = G.end;
          short = G.short;
          placed =
              subst (λ (u : State). Placed t ps G.end u k.next.at k.at (left - 1)) (ap (after_pair s) same ∙ sym (state-next G.going lt some_left B))
              (subst (λ (e : ℕ). Placed t ps G.end (after_pair s next.pair) e k.at (left - 1)) on
              (subst (λ (n : ℕ). Placed t ps G.end (after_pair s next.pair) next.behind n (left - 1)) at P));
        }

-- Pair after pair, to the end of the file: the loop's turns. Assumes nothing.
use Rattle.std.specs.Prelude.{Err, Ok, ◌≡◌, refl, List, ℕ, zero, suc, ◌+◌, ◌-◌, ◌≤◌, ◌<◌, length}
use Rattle.std.proofs.Common.{sym, ap, ◌∙◌, arith, le-leb}
use Rattle.std.proofs.lemmas.Bool.{lt-leb}
use Rattle.paper.specs.Reader.{when◌then◌else◌, Out, got, no, and_then, turned, within}
use Rattle.paper.specs.Lists.{last_or}
use Rattle.paper.specs.Ledger.{Chunk}
use Rattle.paper.specs.Rules.{any_type, closed}
use Rattle.paper.specs.File.{Front, front}
use Rattle.laws.specs.Faithful as faithful
use Rattle.laws.specs.Says.{Bytes}
use Rattle.numbers.specs.declared.Cursor.{Cursor}
use Rattle.numbers.specs.declared.Refusal.{Refusal}
use Rattle.table.specs.View.{said, Said, Holds, block_in}
use Rattle.walk.specs.Pairs.{said_after, pair_to, pairs_to}
use Rattle.walk.specs.Blocks.{front-block}
use Rattle.walk.specs.PairLaws.{Steady, PairReady, PairDone, out_said, SteadyAfter}
use Rattle.numbers.specs.Cursors.{Step}
use Rattle.numbers.specs.declared.Fault.TheVariants as fault

-- ── the definitions' side ──

pairs_end : (n : ℕ) (g : Said) (f : List ℕ) (at : ℕ) → length f ≤ at → pairs_to n g f at ≡ got g at
unfolding pairs_to when◌then◌else◌
pairs_end zero g f at le = rw (le-leb (length f) at le)
pairs_end (suc n) g f at le = rw (le-leb (length f) at le)

pairs-over : (n : ℕ) (g : Said) (f : List ℕ) (at : ℕ) → n ≡ 0 → at < length f → pairs_to n g f at ≡ no 3 at
unfolding pairs_to when◌then◌else◌
pairs-over n g f at z lt = rw (z, lt-leb (length f) at lt)

pairs-step : (n : ℕ) (g : Said) (f : List ℕ) (at : ℕ) → 0 < n → at < length f → pairs_to n g f at ≡ and_then (pair_to g f at) (λ g₁ e. pairs_to (n - 1) g₁ f e)
unfolding pairs_to when◌then◌else◌
pairs-step zero g f at pos lt = absurd (omega arith)
pairs-step (suc n) g f at pos lt = let z : suc n - 1 ≡ n = omega arith in rw (lt-leb (length f) at lt, z) refl

-- a pair that is read ends its block
pair-block : (g g' : Said) (f : List ℕ) (at e : ℕ) → got g' e ≡ pair_to g f at → g'.state.block ≡ g.state.block + 1
unfolding pair_to said_after closed
pair-block g g' f at e q = go (front any_type g.state f at) q
  where
    ended : (d : Front) (m : ℕ) (o : Out (List Chunk)) → got g' e ≡ turned (λ (cs : List Chunk). said_after g d m) o → g'.state.block ≡ g.state.block + 1
    ended d m (got cs p) r =
        let z : g' ≡ said_after g d m = cc r in
        ap (λ (u : Said). u.state.block) z ∙ ap (λ (n : ℕ). n + 1) (front-block g.state d.strings d.entries)
    ended d m (no k p) r = let z : ◌≡◌ {A = ℕ} 0 1 = cc r in absurd (omega arith)

    go :
        (o : Out Front)
        → got g' e ≡ and_then o (λ d m. turned (λ (cs : List Chunk). said_after g d m) (within (last_or 0 d.ends) (faithful.region g.state at d) f m))
        → g'.state.block ≡ g.state.block + 1
    go (got d m) r = ended d m (within (last_or 0 d.ends) (faithful.region g.state at d) f m) r
    go (no k p) r = let z : ◌≡◌ {A = ℕ} 0 1 = cc r in absurd (omega arith)

-- ── the code's side ──

-- what the walk asks: bytes, as many as a file may have, and a table that knows nothing yet
pub record WalkReady (f l : List ℕ) : Type 0 where
  pub steady : Steady f l
  pub bytes : Bytes f
  pub small : length f ≤ 1048576
  pub block : block_in l ≡ 0

pub record WalkDone (f l l' : List ℕ) (r : Step) : Type 0 where
  pub holds : Holds f l'
  pub says : out_said f l' r ≡ pairs_to 32 (said f l) f 0
  pub steady : SteadyAfter f l' r

-- at most `left` pairs are to come: what is left, from here, gives the whole
pub record PairsGoing (f l₀ l : List ℕ) (left at : ℕ) : Type 0 where
  pub steady : Steady f l
  pub inside : at ≤ length f
  pub block : block_in l + left ≡ 32
  pub long : length l ≡ length l₀
  pub says : pairs_to 32 (said f l₀) f 0 ≡ pairs_to left (said f l) f at

pub pairs-begin : {f l : List ℕ} → WalkReady f l → PairsGoing f l l 32 0
pairs-begin W = record { steady = W.steady; inside = omega arith; block = omega (arith, W.block); long = refl; says = refl }

module _ {f l₀ l : List ℕ} {left at : ℕ} (W : WalkReady f l₀) (G : PairsGoing f l₀ l left at) where
  pub pairs-done : length f ≤ at → WalkDone f l₀ l (Ok (record { at = at }))
  pairs-done le = record { holds = G.steady.holds; says = sym (G.says ∙ pairs_end left (said f l) f at le); steady = (G.steady, G.inside) }

  module _ (lt : at < length f) where
    pub pairs-many : left ≡ 0 → WalkDone f l₀ l (Err (record { fault = fault.Limit; place = at }))
    pairs-many z = record { holds = G.steady.holds; says = sym (G.says ∙ pairs-over left (said f l) f at z lt); steady = tt }

    module _ (pos : left ≡ 0 → ⊥) where
      pub pair-asks : PairReady f l at
      pair-asks = record { steady = G.steady; bytes = W.bytes; small = W.small; inside = G.inside; block = omega (arith, G.block, pos) }

      module _ {l' : List ℕ} {a : Step} (one : PairDone f l l' at a) where
        turn : pairs_to 32 (said f l₀) f 0 ≡ and_then (out_said f l' a) (λ g e. pairs_to (left - 1) g f e)
        turn = G.says ∙ pairs-step left (said f l) f at (omega (arith, pos)) lt ∙ rw (← one.says) refl

        pub pairs-no : {e : Refusal} → a ≡ Err e → WalkDone f l₀ l' (Err e)
        pairs-no is = record { holds = one.holds; says = sym (turn ∙ rw is refl); steady = tt }

        pub pairs_next : {c : Cursor} → a ≡ Ok c → length l' ≡ length l → PairsGoing f l₀ l' (left - 1) c.at
        pairs_next {c} is long =
            let one' = rw is at one in
            let next : block_in l' ≡ block_in l + 1 = pair-block (said f l) (said f l') f at c.at one'.says in
            record { steady = one'.steady.0; inside = one'.steady.1; block = omega (arith, G.block, pos); long = long ∙ G.long; says = turn ∙ rw is refl }

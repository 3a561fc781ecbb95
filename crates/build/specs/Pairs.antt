-- Pair after pair, to the end of a text: what is read, and the bytes that it is laid down as. Assumes nothing.
use Rattle.std.specs.Prelude.{◌≡◌, Bool, true, false, not, List, [], ◌∷◌, ◌++◌, leb, length}
use Rattle.std.proofs.Math.Path.{refl}
use Rattle.std.proofs.Common.{sym, ap, ◌∙◌, append_assoc, append-nil, length-append}
use Rattle.std.proofs.Math.Option.{none}
use Prim.Native.Nat.{ℕ, zero, suc, ◌+◌, ◌-◌, ◌≤◌, ◌<◌}
use native.Mathlib.Omega.{arith}
use borrow.Author.Tests.{leb-true, leb-false, not-true, not-false, le-leb, lt-leb}
use Rattle.paper.specs.Reader.{when◌then◌else◌, Out, got, no, and_then, ◌>>=◌, give, unless_end, to_end}
use Rattle.paper.specs.Bounds.{most_bytes, most_pairs}
use Rattle.paper.specs.Lists.{fold}
use Rattle.paper.specs.Ledger.{Pair, Ledger, State, nothing}
use Rattle.paper.specs.Rules.{after_pair}
use Rattle.paper.specs.Encode.{put_pair, put_pairs, encode}
use Rattle.paper.specs.Scan.{bad, pair_text, scan, short, file_of}
use Rattle.lay.specs.Laid.{most, Laid, laid_none, laid_then, laid_as}
use Rattle.laws.specs.Says.{Bytes}
use Rattle.laws.specs.Loops.{alone, one_on}
use Rattle.laws.specs.Hexed.{hexed, Spelt, spelt-nothing, nothing-hexed}
use Rattle.table.specs.View.{view, block_in}
use Rattle.walk.specs.PairLaws.{Steady}
use Rattle.texts.specs.declared.Taken.{Taken}
use Rattle.build.specs.FrontLaws.{PairAsks}

-- ── a pair ──

-- no file of a length that is accepted has this text from here on
pub data Refused (s : State) (t : List ℕ) (at : ℕ) : Type 0 where
  wrong : pair_text s t at ≡ no 20 0 → Refused s t at
  too_long : (p : Pair) (e : ℕ) → pair_text s t at ≡ got p e → most_bytes < length (put_pair s p) → Refused s t at

-- the pair that was read stands as its bytes in m, and the table l became l'
pub record Built (s : State) (t l : List ℕ) (from : ℕ) (out : List ℕ) (at : ℕ) (m : List ℕ) (k : Taken) (l' : List ℕ) : Type 0 where
  pub pair : Pair
  pub reads : pair_text s t from ≡ got pair k.next.at
  pub laid : Laid out at (put_pair s pair) m k.at
  pub inside : k.next.at ≤ length t
  pub steady : Steady t l'
  pub spelt : Spelt (after_pair s pair)
  pub says : view t l' ≡ hexed (after_pair s pair)
  pub block : block_in l' ≡ block_in l + 1

-- ── one after the other, on the definitions' side ──

module _ (s : State) (t : List ℕ) (at : ℕ) where
  to-end-done : (n : ℕ) → length t ≤ at → to_end n bad pair_text after_pair s t at ≡ got [] at
  unfolding to_end unless_end when◌then◌else◌
  to-end-done zero le = rw (le-leb (length t) at le)
  to-end-done (suc n) le = rw (le-leb (length t) at le)

  module _ (lt : at < length t) where
    to-end-over : (n : ℕ) → n ≡ 0 → to_end n bad pair_text after_pair s t at ≡ no 20 0
    unfolding to_end unless_end when◌then◌else◌ bad
    to-end-over n z = rw (z, lt-leb (length t) at lt)

    to-end-step :
        (n : ℕ) → 0 < n
        → to_end n bad pair_text after_pair s t at ≡ and_then (pair_text s t at) (λ p e. and_then (to_end (n - 1) bad pair_text after_pair (after_pair s p) t e) (λ l q. got (p ∷ l) q))
    unfolding to_end unless_end when◌then◌else◌ ◌>>=◌ give
    to-end-step zero pos = absurd (omega arith)
    to-end-step (suc n) pos = let z : suc n - 1 ≡ n = omega arith in rw (lt-leb (length t) at lt, z) refl

puts-more : (s : State) (a b : Ledger) → put_pairs s (a ++ b) ≡ put_pairs s a ++ put_pairs (fold after_pair s a) b
unfolding put_pairs fold
puts-more s [] b = refl
puts-more s (p ∷ a) b = rw (puts-more (after_pair s p) a b, append_assoc)

pub puts_one : (done : Ledger) (p : Pair) → put_pairs nothing done ++ put_pair (fold after_pair nothing done) p ≡ put_pairs nothing (done ++ p ∷ [])
unfolding put_pairs
puts_one done p = sym (puts-more nothing done (p ∷ []) ∙ rw (append-nil (put_pair (fold after_pair nothing done) p)))

fold_more : (s : State) (a : Ledger) (p : Pair) → fold after_pair s (a ++ p ∷ []) ≡ after_pair (fold after_pair s a) p
unfolding fold
fold_more s [] p = refl
fold_more s (q ∷ a) p = fold_more (after_pair s q) a p

-- a pair that is too long makes every file too long that it stands in
too-long : (done : Ledger) (p : Pair) (more : Ledger) → most_bytes < length (put_pair (fold after_pair nothing done) p) → most_bytes < length (encode (done ++ p ∷ more))
unfolding encode put_pairs
too-long done p more h =
    rw (puts-more nothing done (p ∷ more), length-append (put_pairs nothing done) (put_pairs (fold after_pair nothing done) (p ∷ more)), length-append) (omega arith)

pub not_short : (l : Ledger) (e : ℕ) → most_bytes < length (encode l) → short (got l e) ≡ none
unfolding short when◌then◌else◌
not_short l e h = rw (lt-leb (length (encode l)) most_bytes h)

-- by the answer of the code
module _ {b : Bool} {n : ℕ} (judged : b ≡ leb n most_bytes) where
  pub fits_not : not b ≡ true → most_bytes < n
  fits_not h = leb-false n most_bytes (sym judged ∙ not-true b h)

  pub fits-so : not b ≡ false → n ≤ most_bytes
  fits-so h = leb-true n most_bytes (sym judged ∙ not-false b h)

-- ── the loop ──

-- what the walk over a text asks: bytes, and a table that knows nothing yet
pub record TextReady (t l : List ℕ) : Type 0 where
  pub steady : Steady t l
  pub bytes : Bytes t
  pub none : view t l ≡ nothing

-- at most `left` pairs are to come from place `from`; those before stand in m
pub record PairsGoing (t l₀ out l : List ℕ) (left : ℕ) (m : List ℕ) (from behind : ℕ) : Type 0 where
  pub done : Ledger
  pub reads : scan t ≡ and_then (to_end left bad pair_text after_pair (fold after_pair nothing done) t from) (λ more q. got (done ++ more) q)
  pub laid : Laid out 0 (put_pairs nothing done) m behind
  pub steady : Steady t l
  pub spelt : Spelt (fold after_pair nothing done)
  pub says : view t l ≡ hexed (fold after_pair nothing done)
  pub inside : from ≤ length t
  pub block : block_in l + left ≡ most_pairs
  pub long : length l ≡ length l₀
  pub room : length m ≡ length out

-- the whole text was read, and stands as its bytes in m
pub record FileBuilt (t out m : List ℕ) (behind : ℕ) : Type 0 where
  pub ledger : Ledger
  pub end : ℕ
  pub reads : scan t ≡ got ledger end
  pub laid : Laid out 0 (encode ledger) m behind

unfoldable pub pairs-begin : {t l : List ℕ} → TextReady t l → (out : List ℕ) → length out ≤ most → PairsGoing t l out l most_pairs out 0 0
unfolding scan put_pairs fold nothing
pairs-begin {t} {l} R out h =
    let block : block_in l ≡ 0 = ap (λ (u : State). u.block) R.none in
    record {
      done = [];
      reads = alone (to_end most_pairs bad pair_text after_pair nothing t 0);
      laid = laid_none h (omega arith);
      steady = R.steady;
      spelt = spelt-nothing;
      says = R.none ∙ sym nothing-hexed;
      inside = omega arith;
      block = omega arith;
      long = refl;
      room = refl;
    }

module _ {t l₀ out l : List ℕ} {left : ℕ} {m : List ℕ} {from behind : ℕ} (G : PairsGoing t l₀ out l left m from behind) where
  -- the state that the pairs before lead to
  abbrev pub here : State
  here = fold after_pair nothing G.done

  pub all_read : length t ≤ from → scan t ≡ got G.done from
  all_read le = G.reads ∙ rw (to-end-done here t from left le, append-nil G.done)

  unfoldable pub pairs-done : length t ≤ from → FileBuilt t out m behind
  unfolding encode
  pairs-done le = record { ledger = G.done; end = from; reads = all_read le; laid = G.laid }

  module _ (lt : from < length t) where
    pub pairs-many : left ≡ 0 → file_of t ≡ none
    unfolding file_of short
    pairs-many z = rw (G.reads, to-end-over here t from lt left z) refl

    module _ (some : 0 < left) where
      unfoldable pub pair-asks : Bytes t → PairAsks t l from
      pair-asks bytes = record { state = here; spelt = G.spelt; says = G.says; steady = G.steady; bytes = bytes; inside = G.inside; block = omega (arith, G.block) }

      turn :
          scan t
          ≡ and_then (and_then (pair_text here t from) (λ p e. and_then (to_end (left - 1) bad pair_text after_pair (after_pair here p) t e) (λ more q. got (p ∷ more) q)))
          (λ more q. got (G.done ++ more) q)
      turn = G.reads ∙ ap (λ (o : Out Ledger). and_then o (λ more q. got (G.done ++ more) q)) (to-end-step here t from lt left some)

      pub pairs-bad : Refused here t from → file_of t ≡ none
      unfolding file_of short
      pairs-bad (wrong h) = rw (turn, h) refl
      pairs-bad (too_long p e h big) = rw (turn, h) (over (to_end (left - 1) bad pair_text after_pair (after_pair here p) t e))
        where
          over : (o : Out Ledger) → short (and_then (and_then o (λ more q. got (p ∷ more) q)) (λ more q. got (G.done ++ more) q)) ≡ none
          over (got more q) = not_short (G.done ++ p ∷ more) q (too-long G.done p more big)
          over (no k q) = refl

      module _ {m₁ l₁ : List ℕ} {k : Taken} (B : Built here t l from m behind m₁ k l₁) where
        pub state-next : fold after_pair nothing (G.done ++ B.pair ∷ []) ≡ after_pair here B.pair
        state-next = fold_more nothing G.done B.pair

        pub reads-next :
            scan t
            ≡ and_then (to_end (left - 1) bad pair_text after_pair (fold after_pair nothing (G.done ++ B.pair ∷ [])) t k.next.at) (λ more q. got ((G.done ++ B.pair ∷ []) ++ more) q)
        reads-next = turn ∙ rw (B.reads, state-next) (one_on G.done B.pair (to_end (left - 1) bad pair_text after_pair (after_pair here B.pair) t k.next.at))

        unfoldable pub pairs_next : length l₁ ≡ length l → length m₁ ≡ length m → PairsGoing t l₀ out l₁ (left - 1) m₁ k.next.at k.at
        pairs_next long room =
            record {
              done = G.done ++ B.pair ∷ [];
              reads = reads-next;
              laid = laid_as (laid_then G.laid B.laid) (puts_one G.done B.pair);
              steady = B.steady;
              spelt = rw state-next B.spelt;
              says = rw state-next B.says;
              inside = B.inside;
              block = omega (arith, G.block, B.block);
              long = long ∙ G.long;
              room = room ∙ G.room;
            }

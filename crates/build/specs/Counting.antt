-- The first pass: nothing is laid, and where the values of each pair begin is put down. Assumes nothing.
use Rattle.std.specs.Prelude as prelude
use Rattle.std.specs.Prelude.{None, Some, ◌≡◌, refl, List, [], ◌∷◌, ◌++◌, ℕ, ◌+◌, ◌-◌, ◌≤◌, ◌<◌, min, set}
use Rattle.std.proofs.Common.{sym, ◌∙◌, subst, arith}
use Rattle.std.proofs.Math.Path.{ap}
use Rattle.std.proofs.Math.Option.{none}
use Rattle.std.proofs.Math.ListN.{length, length-append, length-set}
use Rattle.paper.specs.Bounds.{most_pairs}
use Rattle.paper.specs.Lists.{fold}
use Rattle.paper.specs.Ledger.{State, nothing}
use Rattle.paper.specs.Encode.{put_pair, put_pairs, encode}
use Rattle.paper.specs.Scan.{file_of}
use Rattle.lay.specs.Laid.{most}
use Rattle.laws.specs.Says.{Bytes}
use Rattle.laws.specs.Hexed.{hexed, Spelt}
use Rattle.table.specs.View.{view}
use Rattle.texts.specs.declared.Taken.{Taken}
use Rattle.build.specs.FrontLaws.{PairAsks}
use Rattle.build.specs.Places.{front_bytes, Placed, Placing, placing-start, placing-next, placing-done}
use Rattle.build.specs.Pairs.{Refused, Built, TextReady, PairsGoing, FileBuilt, puts_one, pairs-begin, here, pairs-done, pairs-many, pair-asks, pairs-bad, state-next, pairs_next}
use Rattle.build.specs.declared.pairs.PairCount.{PairCount}

-- ── a pair ──

-- the pair was counted only, with the place where its values begin
pub record Counted (s : State) (t l : List ℕ) (from at : ℕ) (k : PairCount) (l' : List ℕ) : Type 0 where
  pub built : Built s t l from [] at [] (record { next = k.next; at = k.end }) l'
  pub place : k.values ≡ min (at + length (front_bytes s built.pair)) most

abbrev pub CountedBy : State → List ℕ → List ℕ → ℕ → ℕ → prelude.Option PairCount → List ℕ → Type 0
CountedBy s t l from at (Some k) l' = Counted s t l from at k l'
CountedBy s t l from at None l' = Refused s t from

-- whatever the state that the table tells in hex
pub record PairCounted (t l : List ℕ) (from at : ℕ) (r : prelude.Option PairCount) (l' : List ℕ) : Type 0 where
  pub told : (s : State) → Spelt s → view t l ≡ hexed s → CountedBy s t l from at r l'

-- ── all pairs ──

pub record Counting (t l₀ l ps : List ℕ) (left from behind : ℕ) : Type 0 where
  pub going : PairsGoing t l₀ [] l left [] from behind
  pub many : length ps ≡ most_pairs
  pub placing : Placing t ps (here going) from (length (put_pairs nothing going.done)) left

-- the file has so many bytes, and the values of its pairs begin at these places
pub record FileLong (t ps : List ℕ) (n : ℕ) : Type 0 where
  pub built : FileBuilt t [] [] n
  pub placed : Placed t ps (length (encode built.ledger)) nothing 0 0 most_pairs

abbrev pub FileBy : List ℕ → List ℕ → prelude.Option Taken → Type 0
FileBy t ps (Some k) = FileLong t ps k.at
FileBy t ps None = file_of t ≡ none

pub record FileCounted (t ps : List ℕ) (r : prelude.Option Taken) : Type 0 where
  pub told : FileBy t ps r

pub counting-start : {t l ps : List ℕ} → TextReady t l → length ps ≡ most_pairs → Counting t l l ps most_pairs 0 0
unfolding pairs-begin put_pairs fold
counting-start {t} {l} {ps} R many = record { going = pairs-begin R [] (omega arith); many = many; placing = placing-start t ps }

module _ {t l₀ l ps : List ℕ} {left from behind : ℕ} (C : Counting t l₀ l ps left from behind) where
  pub counting-done : length t ≤ from → (k : Taken) → k.at ≡ behind → FileCounted t ps (Some k)
  unfolding pairs-done encode
  counting-done le k is = record { told = rw is (record { built = pairs-done C.going le; placed = placing-done C.placing le }) }

  module _ (lt : from < length t) where
    pub counting-many : left ≡ 0 → {qs : List ℕ} → FileCounted t qs None
    counting-many z = record { told = pairs-many C.going lt z }

    module _ (some : left ≡ 0 → ⊥) where
      pub counting-asks : Bytes t → PairAsks t l from
      counting-asks bytes = pair-asks C.going lt (omega (arith, some)) bytes

      module _ {r : prelude.Option PairCount} {l₁ : List ℕ} (P : PairCounted t l from behind r l₁) where
        told_here : (x : prelude.Option PairCount) → r ≡ x → CountedBy (here C.going) t l from behind x l₁
        told_here x is = subst (λ (y : prelude.Option PairCount). CountedBy (here C.going) t l from behind y l₁) is (P.told (here C.going) C.going.spelt C.going.says)

        pub counting-bad : r ≡ None → {qs : List ℕ} → FileCounted t qs None
        counting-bad is = record { told = pairs-bad C.going lt (omega (arith, some)) (told_here None is) }

        pub counting-next : {k : PairCount} → r ≡ Some k → length l₁ ≡ length l → Counting t l₀ l₁ (set ps (left - 1) k.values) (left - 1) k.next.at k.end
        unfolding pairs_next
        counting-next {k} is long =
            let D : Counted (here C.going) t l from behind k l₁ = told_here (Some k) is in
            let B = D.built in
            let done = C.going.done in
            let pos : 0 < left = omega (arith, some) in
            let at : length (put_pairs nothing (done ++ B.pair ∷ [])) ≡ length (put_pairs nothing done) + length (put_pair (here C.going) B.pair) =
            ap length (sym (puts_one done B.pair)) ∙ length-append (put_pairs nothing done) (put_pair (here C.going) B.pair) in
            let next = placing-next C.placing B.pair k.next.at pos (omega (arith, C.many, C.going.block)) B.reads (D.place ∙ omega (arith, C.going.laid.next)) in
            record {
              going = pairs_next C.going lt pos B long refl;
              many = length-set ps (left - 1) k.values ∙ C.many;
              placing = rw (state-next C.going lt pos B, at) next;
            }

-- Where the values of each pair begin: what the first pass puts down, and the second one goes by. Assumes nothing.
use Rattle.std.specs.Prelude.{◌≡◌, refl, List, ◌++◌, ℕ, ◌+◌, ◌-◌, ◌≤◌, ◌<◌, min, length, get_or, set}
use Rattle.std.proofs.Common.{ap, ◌∙◌, arith, length-append, get_or-set_same, get_or-set_other}
use Rattle.paper.specs.Reader.{got}
use Rattle.paper.specs.Bounds.{most_pairs}
use Rattle.paper.specs.Lists.{flat}
use Rattle.paper.specs.Ledger.{Pair, State, nothing}
use Rattle.paper.specs.Rules.{with_strings, dues, after_front, after_pair}
use Rattle.paper.specs.Pieces.{ends_from}
use Rattle.paper.specs.Encode.{put_chunks, put_front, put_pair}
use Rattle.paper.specs.Scan.{pair_text}
use Rattle.lay.specs.Laid.{most}

-- ── a pair is its front and its values ──

abbrev pub chunk_bytes : State → Pair → List (List ℕ)
chunk_bytes s p = put_chunks (after_front s p.strings p.entries) (dues (with_strings s p.strings) p.entries) p.chunks

abbrev pub front_bytes : State → Pair → List ℕ
front_bytes s p = put_front s p.strings p.entries (ends_from 0 (chunk_bytes s p))

abbrev pub value_bytes : State → Pair → List ℕ
value_bytes s p = flat (λ b. b) (chunk_bytes s p)

pub pair_is : (s : State) (p : Pair) → put_pair s p ≡ front_bytes s p ++ value_bytes s p
unfolding put_pair
pair_is s p = refl

pub pair-length : (s : State) (p : Pair) → length (put_pair s p) ≡ length (front_bytes s p) + length (value_bytes s p)
pair-length s p = ap length (pair_is s p) ∙ length-append (front_bytes s p) (value_bytes s p)

-- ── all pairs ──

-- in state s the text t is read from place `from` to its end, at most `left` pairs of it, which stand from `at` to `end` in the
-- file; where the values of each begin stands in ps, for the first of them just before place `left`
pub data Placed (t ps : List ℕ) (end : ℕ) : State → ℕ → ℕ → ℕ → Type 0 where
  over : {s : State} {from at left : ℕ} → length t ≤ from → at ≡ end → Placed t ps end s from at left
  more :
      {s : State} {from at left : ℕ} (p : Pair) (e : ℕ) → 0 < left → pair_text s t from ≡ got p e → get_or ps (left - 1) 0 ≡ min (at + length (front_bytes s p)) most
      → Placed t ps end (after_pair s p) e (at + length (put_pair s p)) (left - 1) → Placed t ps end s from at left

pub placed_end : {t ps : List ℕ} {end : ℕ} {s : State} {from at left : ℕ} → Placed t ps end s from at left → at ≤ end
placed_end (over done is) = omega arith
placed_end (more p e some reads place rest) = omega (arith, placed_end rest)

-- the next pair
pub record PairPlaced (t ps : List ℕ) (end : ℕ) (s : State) (from at left : ℕ) : Type 0 where
  pub pair : Pair
  pub behind : ℕ
  pub some : 0 < left
  pub reads : pair_text s t from ≡ got pair behind
  pub place : get_or ps (left - 1) 0 ≡ min (at + length (front_bytes s pair)) most
  pub rest : Placed t ps end (after_pair s pair) behind (at + length (put_pair s pair)) (left - 1)

pub placed-next : {t ps : List ℕ} {end : ℕ} {s : State} {from at left : ℕ} → Placed t ps end s from at left → from < length t → PairPlaced t ps end s from at left
placed-next (over done is) lt = absurd (omega arith)
placed-next (more p e some reads place rest) lt = record { pair = p; behind = e; some = some; reads = reads; place = place; rest = rest }

-- ── as they are put down ──

-- whatever will stand before place `left` of ps: if that is right for what is left of the text, all of it is right
pub record Placing (t ps : List ℕ) (s : State) (from at left : ℕ) : Type 0 where
  pub whole : (qs : List ℕ) (end : ℕ) → ((i : ℕ) → left ≤ i → get_or qs i 0 ≡ get_or ps i 0) → Placed t qs end s from at left → Placed t qs end nothing 0 0 most_pairs

pub placing-start : (t ps : List ℕ) → Placing t ps nothing 0 0 most_pairs
placing-start t ps = record { whole = λ qs end same P. P }

module _ {t ps : List ℕ} {s : State} {from at left : ℕ} (G : Placing t ps s from at left) where
  pub placing-next :
      (p : Pair) (e : ℕ) → 0 < left → left ≤ length ps → pair_text s t from ≡ got p e → {v : ℕ} → v ≡ min (at + length (front_bytes s p)) most
      → Placing t (set ps (left - 1) v) (after_pair s p) e (at + length (put_pair s p)) (left - 1)
  placing-next p e some room reads {v} is =
      record {
        whole = λ qs end same P.
            G.whole qs end (λ i le. same i (omega arith) ∙ get_or-set_other ps (left - 1) i v 0 (λ q. absurd (omega (arith, q))))
            (more p e some reads (same (left - 1) (omega arith) ∙ get_or-set_same ps (left - 1) v 0 (omega arith) ∙ is) P);
      }

  pub placing-done : length t ≤ from → Placed t ps at nothing 0 0 most_pairs
  placing-done done = G.whole ps at (λ i le. refl) (over done refl)

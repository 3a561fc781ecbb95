-- The files that say a ledger: its pieces, each number in any of its codings of at most nine bytes, with the end offsets of the chunks as
-- they are spelt. Nothing is read here. Assumes nothing.
use Rattle.std.specs.Prelude.{◌≡◌, List, [], ◌∷◌, ◌++◌, ℕ, zero, suc, ◌≤◌, ◌<◌}
use Rattle.paper.specs.Numbers.{low_first}
use Rattle.paper.specs.Lists.{flat}
use Rattle.paper.specs.Ledger.{Chunk, Pair, Ledger, Due, State, nothing}
use Rattle.paper.specs.Rules.{with_strings, dues, after_front, after_pair}
use Rattle.paper.specs.Pieces.{Piece, num, raw, ends_from, chunk_pieces, front_pieces}

-- a coding of a v64, of which k more bytes may follow the first: the top bit is set when another follows, and tells nothing in
-- the ninth
pub data Coding : ℕ → List ℕ → Type 0 where
  ninth : {b : ℕ} → Coding zero (b ∷ [])
  last : {k b : ℕ} → b < 128 → Coding (suc k) (b ∷ [])
  more : {k b c : ℕ} {bs : List ℕ} → 128 ≤ b → b < 256 → Coding k (c ∷ bs) → Coding (suc k) (b ∷ c ∷ bs)

-- these bytes are these pieces, one behind the other: a number stands in any of its codings
pub data Spelt : List Piece → List ℕ → Type 0 where
  done : Spelt [] []
  number : {n : ℕ} {ps : List Piece} (c d : List ℕ) → Coding 8 c → low_first c ≡ n → Spelt ps d → Spelt (num n ∷ ps) (c ++ d)
  bytes : {ps : List Piece} (c d : List ℕ) → Spelt ps d → Spelt (raw c ∷ ps) (c ++ d)

-- each chunk that is due stands in its bytes
unfoldable pub SpeltChunks : State → List Due → List Chunk → List (List ℕ) → Type 0
SpeltChunks s [] cs bs = bs ≡ []
SpeltChunks s (d ∷ ds) [] bs = bs ≡ []
SpeltChunks s (d ∷ ds) (c ∷ cs) [] = ⊥
SpeltChunks s (d ∷ ds) (c ∷ cs) (b ∷ bs) = Spelt (chunk_pieces s d c) b × SpeltChunks s ds cs bs

-- a pair: its front, with the ends of the chunks as they are spelt, and then these chunks
pub record SpeltPair (s : State) (p : Pair) (f : List ℕ) : Type 0 where
  pub front : List ℕ
  pub chunks : List (List ℕ)
  pub is : f ≡ front ++ flat (λ c. c) chunks
  pub fronted : Spelt (front_pieces s p.strings p.entries (ends_from 0 chunks)) front
  pub chunked : SpeltChunks (after_front s p.strings p.entries) (dues (with_strings s p.strings) p.entries) p.chunks chunks

unfoldable pub SpeltPairs : State → Ledger → List ℕ → Type 0
SpeltPairs s [] f = f ≡ []
SpeltPairs s (p ∷ ps) f = (c : List ℕ) × (d : List ℕ) × (f ≡ c ++ d) × SpeltPair s p c × SpeltPairs (after_pair s p) ps d

-- the file says the ledger
unfoldable pub Spells : List ℕ → Ledger → Type 0
Spells f l = SpeltPairs nothing l f

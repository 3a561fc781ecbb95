-- "Numbers": v64, read in every coding and written in the shortest; fixed widths, highest byte first. Assumes nothing.
use Rattle.std.specs.Prelude.{List, [], ◌∷◌, ℕ, zero, suc, ◌+◌, ◌-◌, ◌*◌, ◌^◌, ◌/◌, ◌%◌, leb, ltb, ℤ, pos, negsuc, length}
use Rattle.paper.specs.Reader.{when◌then◌else◌, Reader, ◌>>=◌, give, must, started, Rule, bytes}

-- ── fixed widths: two's complement, and the bits of floats ──

-- highest byte first
unfoldable pub high_first : List ℕ → ℕ
high_first [] = 0
high_first (b ∷ bs) = b * 256 ^ length bs + high_first bs

-- w bytes
unfoldable pub fixed : ℕ → Reader ℕ
fixed w = do
  bs ← bytes w
  give (high_first bs)

unfoldable pub put_fixed : ℕ → ℕ → List ℕ
put_fixed zero n = []
put_fixed (suc w) n = n / 256 ^ w ∷ put_fixed w (n % 256 ^ w)

-- two's complement in w bytes
unfoldable pub signed : ℕ → ℕ → ℤ
signed w n = when ltb n (256 ^ w / 2) then pos n else negsuc (256 ^ w - 1 - n)

unfoldable pub unsigned : ℕ → ℤ → ℕ
unsigned w (pos n) = n
unsigned w (negsuc n) = 256 ^ w - 1 - n

-- ── v64 ──

-- the bytes of a v64, of which k more may follow the first: the top bit is set when another follows, and tells nothing
-- in the ninth
unfoldable pub coding : ℕ → Reader (List ℕ)
coding zero = do
  b ← fixed 1
  give (b ∷ [])
coding (suc k) = do
  b ← fixed 1
  when leb 128 b then (do
    bs ← coding k
    give (b ∷ bs)) else
      give (b ∷ [])

-- low seven bits first; the last byte carries all of its bits
unfoldable pub low_first : List ℕ → ℕ
low_first [] = 0
low_first (b ∷ []) = b
low_first (b ∷ c ∷ bs) = b - 128 + 128 * low_first (c ∷ bs)

unfoldable pub v64 : Reader ℕ
v64 = do
  bs ← started (coding 8)
  give (low_first bs)

-- the shortest coding
unfoldable pub put_v64 : ℕ → ℕ → List ℕ
put_v64 zero n = n ∷ []
put_v64 (suc k) n = when ltb n 128 then n ∷ [] else (128 + n % 128) ∷ put_v64 k (n / 128)

unfoldable pub put : ℕ → List ℕ
put = put_v64 8

-- a v64 that is held to rules
unfoldable pub number : (ℕ → List Rule) → Reader ℕ
number = must v64

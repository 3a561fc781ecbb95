-- The string block, as code lays it from strings in hex. Assumes nothing.
use Rattle.std.specs.Prelude.{◌≡◌, refl, true, List, [], ◌∷◌, ◌++◌, map, ℕ, ◌+◌, ◌-◌, ◌*◌, ◌/◌, ◌≤◌, ◌<◌, min, length, take, drop}
use Rattle.std.proofs.Common.{sym, ◌∙◌, arith, add-one, le_refl, le_of_lt, lt_of_not-le, length-append, length-drop, drop_of_length-le, drop-cons}
use Rattle.std.proofs.Math.Path.{ap}
use Rattle.std.proofs.Math.Nat.{min-eq_left, min-eq_right}
use Rattle.std.proofs.Math.Decide.{dec_le}
use Rattle.std.proofs.Math.ListN.{length-map}
use Rattle.std.proofs.Math.Seq.{slice}
use Rattle.paper.specs.Reader.{Out, got, no as refused}
use Rattle.paper.specs.Numbers.{put_fixed, put}
use Rattle.paper.specs.Lists.{flat, all}
use Rattle.paper.specs.Listing.{ascii, newline, hex_digits, hex, line, string_line}
use Rattle.paper.specs.Keeps.{bytes?}
use Rattle.paper.specs.Scan.{hex_bytes}
use Rattle.paper.specs.Pieces.{ends_from}
use Rattle.laws.specs.Put.{put_strings}
use Rattle.laws.specs.Bools.{and_split}
use Rattle.laws.specs.Hexes.{hex_bytes-whole}
use Rattle.lay.specs.Laid.{Laid, laid_then, laid_as}
use Rattle.words.specs.Answers.{Unhexed}
use Rattle.words.specs.declared.read.Bytes.{Bytes}
use Rattle.table.specs.View.{strs_of, Holds, strings_in}
use Rattle.table.specs.Answers.{Stands}
use Rattle.table.specs.NameLaws.{part_of}

-- ── what is laid, of any digits ──

-- the end offset behind n digits more: two are a byte, and no end is past what four bytes hold
unfoldable pub end_behind : ℕ → ℕ → ℕ
end_behind end n = min (end + n / 2) 4294967295

unfoldable pub ends_behind : ℕ → List (List ℕ) → List ℕ
ends_behind end [] = []
ends_behind end (d ∷ ds) = end_behind end (length d) ∷ ends_behind (end_behind end (length d)) ds

unfoldable pub found : Out (List ℕ) → List ℕ
found (got s e) = s
found (refused n p) = []

-- the bytes that stand in hex at the front of a text
unfoldable pub bytes_in : List ℕ → List ℕ
bytes_in t = found (hex_bytes t 0)

-- ── of the digits that strings have it is their block ──

hex-long : (s : List ℕ) → length (hex s) ≡ 2 * length s
unfolding hex flat hex_digits
hex-long [] = refl
hex-long (b ∷ s) = let ih = hex-long s in omega arith

ends-are : (end : ℕ) (ss : List (List ℕ)) → end + length (flat (λ s. s) ss) < 4294967296 → ends_behind end (map hex ss) ≡ ends_from end ss
unfolding ends_behind end_behind ends_from flat
ends-are end [] h = refl
ends-are end (s ∷ ss) h =
    let n = length-append s (flat (λ s. s) ss) in
    let half : length (hex s) / 2 ≡ length s = omega (arith, hex-long s) in
    let fits : end + length s ≤ 4294967295 = omega arith in
    rw (half, min-eq_left fits, ends-are (end + length s) ss (omega arith))

bytes-are : (ss : List (List ℕ)) → all bytes? ss ≡ true → flat bytes_in (map hex ss) ≡ flat (λ s. s) ss
unfolding flat all bytes_in found
bytes-are [] h = refl
bytes-are (s ∷ ss) h =
    let (here, rest) = and_split (bytes? s) (all bytes? ss) h in
    rw (hex_bytes-whole s here, bytes-are ss rest)

module _ {l m₁ m₂ m : List ℕ} {at p₁ p₂ r n : ℕ} {ds : List (List ℕ)} where
  pub block-laid :
      n ≡ length ds → Laid l at (put n) m₁ p₁ → Laid m₁ p₁ (flat (put_fixed 4) (ends_behind 0 ds)) m₂ p₂ → Laid m₂ p₂ (flat bytes_in ds) m r
      → (ss : List (List ℕ)) → ds ≡ map hex ss → all bytes? ss ≡ true → length (flat (λ s. s) ss) < 4294967296 → Laid l at (put_strings ss) m r
  unfolding put_strings
  block-laid count L₁ L₂ L₃ ss is bytes few =
      laid_as (laid_then (laid_then L₁ L₂) L₃) (rw (count, is, length-map ss hex, ends-are 0 ss (omega arith), bytes-are ss bytes))

-- Rows of a table may overlap, so that its strings are few enough does not follow from the text's length. It does where their
-- lines stand in the text one behind the other.
line-longer : (s : List ℕ) → length s ≤ length (string_line s)
unfolding string_line line ascii
line-longer s = omega (arith, hex-long s, length-append (hex s) (newline ∷ []))

pub lines-longer : (ss : List (List ℕ)) → length (flat (λ s. s) ss) ≤ length (flat string_line ss)
unfolding flat
lines-longer [] = le_refl _
lines-longer (s ∷ ss) =
    let ih = lines-longer ss in
    let both : length s + length (flat (λ s. s) ss) ≤ length (string_line s) + length (flat string_line ss) = omega (arith, line-longer s) in
    rw (length-append s (flat (λ s. s) ss), length-append (string_line s) (flat string_line ss)) both

-- ── rows ──

pub rows-from : {f l : List ℕ} → Holds f l → (from : ℕ) → strings_in l - from ≡ length (drop from (strs_of f l))
rows-from {f} {l} H from = sym (length-drop from (strs_of f l) ∙ ap (λ (n : ℕ). n - from) H.strs-count)

-- one more, whose digits are d
module _ (f l : List ℕ) {i start end : ℕ} {d : List ℕ} (lt : i < length (strs_of f l)) (S : Stands strs_of l i start end) (is : d ≡ slice start end f) where
  next-string : drop i (strs_of f l) ≡ d ∷ drop (i + 1) (strs_of f l)
  next-string = drop-cons (strs_of f l) i [] lt ∙ rw (add-one, S.is f, is) refl

  pub bytes-more : flat bytes_in (drop i (strs_of f l)) ≡ bytes_in d ++ flat bytes_in (drop (i + 1) (strs_of f l))
  unfolding flat
  bytes-more = ap (flat bytes_in) next-string

  pub ends_more :
      (was new : ℕ) → new ≡ end_behind was (length d)
      → flat (put_fixed 4) (ends_behind was (drop i (strs_of f l))) ≡ put_fixed 4 new ++ flat (put_fixed 4) (ends_behind new (drop (i + 1) (strs_of f l)))
  unfolding flat ends_behind
  ends_more was new e = rw (next-string, e)

-- no more
module _ (f l : List ℕ) (i : ℕ) (le : length (strs_of f l) ≤ i) where
  pub bytes-none : flat bytes_in (drop i (strs_of f l)) ≡ []
  unfolding flat
  bytes-none = rw (drop_of_length-le (strs_of f l) le)

  pub ends-none : (end : ℕ) → flat (put_fixed 4) (ends_behind end (drop i (strs_of f l))) ≡ []
  unfolding flat ends_behind
  ends-none end = rw (drop_of_length-le (strs_of f l) le)

-- ── as code meets them ──

-- a part as code lends it
pub digits_are : (t : List ℕ) (start : ℕ) {end : ℕ} → end ≤ length t → take (end - min start end) (drop (min start end) t) ≡ slice start end t
digits_are t start {end} h =
    elim (dec_le start end) [
      | yes d ↦ go (omega (arith, min-eq_left d))
      | no d ↦ (let le = le_of_lt (lt_of_not-le d) in go (omega (arith, min-eq_right le)))
    ]
  where
    go : end - (end - start) ≡ min start end → take (end - min start end) (drop (min start end) t) ≡ slice start end t
    go e = rw e at (part_of start end (end - start) t refl h)

pub unhexed-laid : {t l m : List ℕ} {at : ℕ} {r : Bytes} → Unhexed t 0 l at m r → Laid l at (bytes_in t) m r.at
unfolding bytes_in found
unhexed-laid U = laid_as U.laid (rw U.read)

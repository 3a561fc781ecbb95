-- The bound of a file's length: 1,048,576 bytes are read, one more is refused by 3 before anything is read. How many bytes there
-- are is said by a law and not computed. Assumes nothing.
use Rattle.std.specs.Prelude.{◌≡◌, List, [], ◌∷◌, ℕ, length, replicate}
use Rattle.std.proofs.Math.Path.{refl}
use Rattle.std.proofs.lemmas.List.{length-replicate}
use Rattle.paper.specs.Reader.{Out, got, no, when◌then◌else◌, ◌>>=◌, give, must, started, bytes, each, times, unless_end, to_end}
use Rattle.paper.specs.Numbers.{high_first, fixed, coding, low_first, v64, number}
use Rattle.paper.specs.Lists.{last_or}
use Rattle.paper.specs.Ledger.{nothing}
use Rattle.paper.specs.Rules.{strings_rules, end_rules}
use Rattle.paper.specs.File.{string_end, string_block, front, pair_from, pair, pairs, file}

-- a file of one string, which is longer than any file
abbrev endless : List ℕ → List ℕ
endless rest = 0x01 ∷ 0xFF ∷ 0xFF ∷ 0xFF ∷ 0xFF ∷ rest

module _ (rest : List ℕ) (is : length rest ≡ 1048571) where
  one-string : v64 (endless rest) 0 ≡ got 1 1
  unfolding v64 started coding fixed bytes when◌then◌else◌ ◌>>=◌ give high_first low_first
  one-string = rw is refl

  its-end : fixed 4 (endless rest) 1 ≡ got 0xFFFFFFFF 5
  unfolding fixed bytes when◌then◌else◌ ◌>>=◌ give high_first
  its-end = rw is refl

  too_few : bytes 0xFFFFFFFF (endless rest) 5 ≡ no 1 5
  unfolding bytes when◌then◌else◌
  too_few = rw is refl

  -- the longest file is read, and refused where it breaks a rule
  longest : file (endless rest) ≡ no 1 5
  unfolding file pairs to_end unless_end pair pair_from front string_block string_end number must times each when◌then◌else◌ ◌>>=◌ give last_or nothing strings_rules end_rules
  longest = rw is (rw one-string (rw its-end (rw too_few refl)))

-- a longer one is not
too-long : (rest : List ℕ) → length rest ≡ 1048572 → file (endless rest) ≡ no 3 0
unfolding file when◌then◌else◌
too-long rest is = rw is refl

at_bound : file (endless (replicate 1048571 0x00)) ≡ no 1 5
at_bound = longest (replicate 1048571 0x00) (length-replicate {0} {A = ℕ} 1048571 0x00)

past_bound : file (endless (replicate 1048572 0x00)) ≡ no 3 0
past_bound = too-long (replicate 1048572 0x00) (length-replicate {0} {A = ℕ} 1048572 0x00)

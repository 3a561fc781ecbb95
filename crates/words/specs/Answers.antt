-- What the answers of the readers mean, in the terms of the definitions. Assumes nothing.
use Rattle.std.specs.Prelude as prelude
use Rattle.std.specs.Prelude.{Some, None, ◌≡◌, true, false, List, ℕ, ◌+◌, ◌≤◌, ◌<◌, ℤ, length, get_or}
use Rattle.std.proofs.Math.Option.{Option, none, some}
use Rattle.paper.specs.Reader.{Out, got, no}
use Rattle.paper.specs.Numbers.{signed}
use Rattle.paper.specs.Scan.{digit?, nibble, hex_bytes}
use Rattle.lay.specs.Laid.{Laid}
use Rattle.words.specs.declared.read.Place.{Place}
use Rattle.words.specs.declared.read.Bytes.{Bytes}

-- what was read and the place behind it
abbrev pub Scanned : Type 0 → Type 0
Scanned A = prelude.Option (A × Place)

abbrev pub out_step : prelude.Option Place → Out (Unit {0})
out_step (Some c) = got tt c.at
out_step None = no 20 0

abbrev pub out_number : Scanned ℕ → Out ℕ
out_number (Some (x, c)) = got x c.at
out_number None = no 20 0

-- the signed number of 64 bits
abbrev pub out_bits : Scanned ℕ → Out ℤ
out_bits (Some (x, c)) = got (signed 8 x) c.at
out_bits None = no 20 0

abbrev pub option : prelude.Option ℕ → Option ℕ
option None = none
option (Some x) = some x

abbrev pub out_maybe : Scanned (prelude.Option ℕ) → Out (Option ℕ)
out_maybe (Some (m, c)) = got (option m) c.at
out_maybe None = no 20 0

-- r is the byte at a place, 256 past the end
pub record Peeked (t : List ℕ) (at r : ℕ) : Type 0 where
  pub is : r ≡ get_or t at 256
  pub inside : r < 256 → at < length t
  pub past : 256 ≤ r → length t ≤ at
  pub small : r ≤ 256

-- d is the value of the digit b, 10 or more if b is no digit
pub record Digit (b d : ℕ) : Type 0 where
  pub value : d < 10 → (b ≡ 48 + d) × (digit? b ≡ true)
  pub none : 10 ≤ d → (b ≡ 48 → ⊥) × (digit? b ≡ false)

-- the value of the hex digit b, if it is one
abbrev pub Nibble : ℕ → prelude.Option ℕ → Type 0
Nibble b None = nibble b ≡ 16
Nibble b (Some d) = (d ≡ nibble b) × (d < 16)

-- the bytes that stand in hex at a place are laid into `l` from `at` on, which gives `m`
pub record Unhexed (t : List ℕ) (from : ℕ) (l : List ℕ) (at : ℕ) (m : List ℕ) (r : Bytes) : Type 0 where
  pub bytes : List ℕ
  pub read : hex_bytes t from ≡ got bytes r.next.at
  pub laid : Laid l at bytes m r.at

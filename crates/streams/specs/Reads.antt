-- What is known of a read: it brings no more than there is room for. Assumes nothing.
use Rattle.std.specs.Prelude.{◌≡◌, List, ℕ, ◌+◌, ◌-◌, ◌≤◌, ◌<◌, length, take, drop, Result, Ok, Err}
use Rattle.std.proofs.Common.{arith, length-take, length-drop}

-- what came has room in the bytes that were lent for it
abbrev pub Within : {E : Type 0} → Result ℕ E → List ℕ → Type 0
Within (Ok n) l = n ≤ length l
Within (Err e) l = Unit {0}

-- what came into the bytes from a place on does not pass the end
pub came-on : (l : List ℕ) (at : ℕ) {E : Type 0} {a : Result ℕ E} {n : ℕ} → a ≡ Ok n → Within a (take (length l - at) (drop at l)) → at < length l → at + n ≤ length l
came-on l at is h lt = let k = rw (is, length-take, length-drop) at h in omega arith

pub came-fits : {E : Type 0} {a : Result ℕ E} {n : ℕ} (l : List ℕ) → a ≡ Ok n → Within a l → n ≤ length l
came-fits l is h = rw is at h

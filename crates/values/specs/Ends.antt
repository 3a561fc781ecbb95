-- Where the bytes end no element is read. Assumes nothing.
use Rattle.std.specs.Prelude.{◌≡◌, ℕ, zero, suc, ◌-◌, ◌*◌, ◌^◌, ◌<◌, ◌≤◌, Bool, true, false, ltb, List, length, ◌==◌, nat_le, nat_lt}
use Rattle.std.proofs.Math.Path.{refl}
use Rattle.std.proofs.Common.{arith, lit<, leb-false}
use Rattle.std.proofs.Math.Nat.{one-le-pow}
use Rattle.paper.specs.Reader.{when◌then◌else◌, no, ◌>>=◌, must, started}
use Rattle.paper.specs.Numbers.{fixed, coding, v64, number}
use Rattle.values.specs.Items.{linked, at_most}
use Rattle.values.specs.Held.{fixed-cut}
use Rattle.values.specs.Bare.{bare}

module _ (f : List ℕ) (at : ℕ) (end : length f ≤ at) where
  coding-end : (k : ℕ) → coding k f at ≡ no 1 at
  unfolding coding ◌>>=◌
  coding-end zero = rw (fixed-cut 1 f at (omega arith))
  coding-end (suc k) = rw (fixed-cut 1 f at (omega arith))

  v64-end : v64 f at ≡ no 1 at
  unfolding v64 must started ◌>>=◌
  v64-end = rw (coding-end 8)

  fixed-end : (w : ℕ) → 0 < w → fixed w f at ≡ no 1 at
  fixed-end w h = fixed-cut w f at (omega arith)

  pub bare-end : (k : ℕ) → bare k f at ≡ no 1 at
  unfolding bare linked number must when◌then◌else◌
  bare-end k = go (k == 6) (nat_le k 11) refl (nat_le k 13)
    where
      whole : (t : Bool) → (when t then fixed (2 ^ (k - 7)) else v64) f at ≡ no 1 at
      whole true = fixed-end (2 ^ (k - 7)) (one-le-pow (k - 7) 2 (lit< tt))
      whole false = v64-end

      go :
          (x y : Bool) → nat_le k 11 ≡ y → (z : Bool)
          → (when x then fixed 1 else when y then (when ltb (k - 7) 4 then fixed (2 ^ (k - 7)) else v64) else when z then fixed (4 * (k - 11)) else linked (at_most (2 ^ 63 - 1))) f at
          ≡ no 1 at
      go true y t z = fixed-end 1 (lit< tt)
      go false true t z = whole (nat_lt (k - 7) 4)
      go false false t true = fixed-end (4 * (k - 11)) (omega (arith, leb-false k 11 t))
      go false false t false = rw v64-end

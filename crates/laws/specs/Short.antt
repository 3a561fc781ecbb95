-- The listing of a ledger that keeps the rules is shorter than 2 ^ 32 bytes, so a place in it fits 32 bits. Assumes nothing.
use Rattle.std.specs.Prelude.{◌≡◌, true, ◌<◌, length}
use Rattle.std.proofs.Common.{arith, leb-true}
use Rattle.paper.specs.Bounds.{most_bytes}
use Rattle.paper.specs.Ledger.{Ledger}
use Rattle.paper.specs.Encode.{encode}
use Rattle.paper.specs.Keeps.{keeps?}
use Rattle.paper.specs.Listing.{print}
use Rattle.laws.specs.Bools.{every-split}
use Rattle.laws.specs.Room.{print-room, empty-few}

pub print-short : (l : Ledger) → keeps? l ≡ true → length (print l) < 4294967296
unfolding keeps?
print-short l h = let (a, _) = every-split _ h in omega (arith, leb-true (length (encode l)) most_bytes a, print-room l h, empty-few l h)

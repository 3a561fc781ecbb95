-- The room for a listing: 9 bytes for each byte of the file, and 4 for each value of an array of fixed length 0, are enough. Assumes
-- nothing.
use Rattle.std.specs.Prelude.{◌≡◌, false, List, ◌++◌, ℕ, ◌+◌, ◌*◌, ◌≤◌, length, drop, Result, Ok}
use Rattle.std.proofs.Common.{arith}
use Rattle.paper.specs.Bounds.{table_length}
use Rattle.paper.specs.Lists.{any}
use Rattle.paper.specs.Ledger.{Ledger}
use Rattle.paper.specs.Listing.{print}
use Rattle.paper.specs.Calls.{known, after_listing}
use Rattle.laws.specs.Room.{empty_field?, empty_values, print-room, empty-few, empty-none}
use Rattle.calls.specs.Told.{after}
use Rattle.calls.specs.declared.replies.Refused.{Refused}
use Rattle.demands.specs.Exact.{Follows, shortest}
use Rattle.demands.specs.Trips.{listing-exactly}

-- a reply to a listing with so much room, and the output afterwards: the whole listing
abbrev pub ListedInRoom : List ℕ → List ℕ → Result ℕ Refused → List ℕ → Type 0
ListedInRoom f out r o =
    (l : Ledger) → Follows f l → 9 * length f + 4 * empty_values l ≤ length out → (r ≡ Ok (length (print l))) × (o ≡ print l ++ drop (length (print l)) out)

module _ (f work out : List ℕ) {r : Result ℕ Refused} {w o : List ℕ} (h : table_length ≤ length work) (c : after r w o ≡ after_listing f work out) where
  pub listed-in-room : ListedInRoom f out r o
  listed-in-room l F room =
      listing-exactly f l work out h (omega (arith, print-room l F.keeps, shortest f l F)) c F

  module _ (l : Ledger) (F : Follows f l) where
    -- 33,553,920 bytes more are enough for every file
    pub listed-always : 9 * length f + 33553920 ≤ length out → r ≡ Ok (length (print l))
    listed-always room = (listed-in-room l F (omega (arith, empty-few l F.keeps))).0

    -- and none where no field is an array of fixed length 0
    pub listed_plain : any empty_field? (known l).fields ≡ false → 9 * length f ≤ length out → r ≡ Ok (length (print l))
    listed_plain nowhere room = (listed-in-room l F (omega (arith, empty-none l nowhere))).0

use Rattle.calls.specs.Told.{told_on}
use Rattle.listing.specs.Text.{table-there, listing-accepted, listing-refused}
use Rattle.listing.proofs.listing_read.Goals as goal

pub write_text-requires : goal.write_text-requires
write_text-requires c = table-there c.requires.1 c.in_ok-a.was

pub returns : goal.returns
returns c = listing-accepted c.requires.1 c.in_ok-a.was c.write_text.ensures

pub returns-in_err-a : goal.returns-in_err-a
returns-in_err-a c = rw (told_on c.from_residual.ensures.1) (listing-refused c.requires.1 c.in_err-a.was)

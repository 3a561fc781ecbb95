use Rattle.listing.specs.Room.{roomy-short, roomy-long}
use Rattle.listing.proofs.room.is_roomy.Goals as goal

pub returns-then-room-file : goal.returns-then-room-file
returns-then-room-file c = roomy-short

pub returns : goal.returns
returns c = roomy-long c.if-room-file.false c.has_empty.ensures

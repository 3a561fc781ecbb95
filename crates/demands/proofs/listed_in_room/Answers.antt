use Rattle.demands.specs.Room.{listed-in-room}
use Rattle.demands.proofs.listed_in_room.Goals as goal

pub returns : goal.returns
returns c = λ long. listed-in-room _ _ _ long c.listing.ensures

use Rattle.listing.specs.Room.{empty-array, empty-other}
use Rattle.listing.proofs.room.is_empty.Goals as goal

pub returns-then-kind-eq15 : goal.returns-then-kind-eq15
returns-then-kind-eq15 c = empty-array c.args.kind c.if-kind-eq15.true

pub returns : goal.returns
returns c = empty-other c.args.kind c.if-kind-eq15.false

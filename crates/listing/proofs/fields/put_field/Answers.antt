use Rattle.listing.specs.Maps.{put_map, put_other}
use Rattle.listing.proofs.fields.put_field.Goals as goal

pub returns-then-kind-eq20 : goal.returns-then-kind-eq20
returns-then-kind-eq20 c = put_map c.if-kind-eq20.true c.put_new_map.ensures

pub put_new-requires : goal.put_new-requires
put_new-requires c = c.if-kind-eq20.false

pub returns : goal.returns
returns c = put_other c.if-kind-eq20.false c.put_new.ensures

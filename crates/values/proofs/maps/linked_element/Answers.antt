use Rattle.values.specs.Spans.{item-own}
use Rattle.values.proofs.maps.linked_element.Goals as goal

pub returns : goal.returns
returns c strings pools = item-own strings pools _ _ _ c.requires c.ranges_of.ensures c.references.ensures

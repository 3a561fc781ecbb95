use Rattle.texts.specs.MapWays.{word-own}
use Rattle.texts.proofs.maps.word_text.Goals as goal

pub returns : goal.returns
returns c = word-own _ _ _ _ _ _ c.ranges_of.ensures c.next_element.ensures

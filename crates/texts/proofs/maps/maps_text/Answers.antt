use Rattle.std.proofs.Common.{arith, rules}
use Rattle.lay.specs.Laid.{most}
use Rattle.texts.specs.Told.{told-all}
use Rattle.texts.specs.MapLines.{maps-taken}
use Rattle.texts.proofs.maps.maps_text.Goals as goal

pub returns : goal.returns
unfolding most
returns c = maps-taken c.requires.1 (told-all (λ k lent x left met. search rules) (omega arith) (omega arith) c.each.ensures)

use Rattle.std.proofs.lemmas.Option.{IfSome_then}
use Rattle.values.specs.Quick.{quick-behind}
use Rattle.values.proofs.maps.element_behind.Goals as goal

pub returns : goal.returns
returns c = IfSome_then _ c.one_behind.ensures (λ e S. quick-behind c.bounds_of-b.ensures S)

use Rattle.std.proofs.Common.{refl, arith}
use Rattle.values.specs.Quick.{quick-none, quick-string}
use Rattle.values.specs.Items.{item-string}
use Rattle.values.proofs.maps.string_bounds.Goals as goal

pub returns-then-strings-eq18446744073709551615 : goal.returns-then-strings-eq18446744073709551615
returns-then-strings-eq18446744073709551615 c pools a b = quick-none _ (omega (arith, c.wide_bounds.ensures))

pub returns : goal.returns
returns c pools a b = rw (item-string _ pools a b 14 refl) (quick-string _ (omega (arith, c.if-strings-eq18446744073709551615.false)) c.number_bounds.ensures.0 c.number_bounds.ensures.2)

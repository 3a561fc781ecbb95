use Rattle.std.proofs.lemmas.Option.{IfSome_then}
use Rattle.std.proofs.Common.{refl, arith}
use Rattle.values.specs.Quick.{one_number, numbered, stands-number}
use Rattle.values.proofs.maps.number_behind.Goals as goal

pub returns-then-b-lt128 : goal.returns-then-b-lt128
returns-then-b-lt128 c =
    IfSome_then _ c.held.ensures (λ e W. stands-number refl (numbered (one_number _ _ _ c.if-at-part.true c.from-b.ensures c.if-b-lt128.true) W) (omega (arith, W.0)))

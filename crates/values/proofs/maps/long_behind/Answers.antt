use Rattle.std.proofs.lemmas.Option.{IfSome_then}
use Rattle.std.proofs.Common.{refl, arith}
use Rattle.numbers.specs.Cursors.{was-got}
use Rattle.values.specs.Quick.{past-any, any-numbered, numbered, stands-number}
use Rattle.values.proofs.maps.long_behind.Goals as goal

pub returns-then-high-eq18446744073709551615 : goal.returns-then-high-eq18446744073709551615
returns-then-high-eq18446744073709551615 c =
    stands-number refl (any-numbered c.if-high-eq18446744073709551615.true (past-any c.past_v64.ensures c.in-Ok.is)) ((rw c.in-Ok.is at c.past_v64.ensures).inside c.requires)

pub returns : goal.returns
returns c =
    let V = was-got c.v64.ensures c.in-Ok-v64.is in
    IfSome_then _ c.held.ensures (λ e W. stands-number refl (numbered V.says W) (omega (arith, W.0, V.inside c.requires)))

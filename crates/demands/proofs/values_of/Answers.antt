use Rattle.std.proofs.Common.{arith}
use Rattle.walk.specs.FileLaws.{all-bytes}
use Rattle.demands.specs.Exact.{counts-exactly, fills-exactly}
use Rattle.demands.specs.Pair.{then-counted, then-filled, pair-agrees}
use Rattle.demands.proofs.values_of.Goals as goal

pub returns : goal.returns
returns c = λ long.
    let A = c.ask_then_fill.ensures in
    let bytes = all-bytes c.args.file.now (λ i. omega (arith, c.type_inv.file i)) in
    (counts-exactly (then-counted A long), fills-exactly (then-filled A long), pair-agrees bytes (then-counted A long) (then-filled A long))

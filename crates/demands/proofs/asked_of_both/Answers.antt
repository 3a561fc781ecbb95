use Rattle.demands.specs.Pair.{then-counted, then-filled, still-long}
use Rattle.demands.specs.Growth.{grows}
use Rattle.demands.specs.Isolation.{isolated}
use Rattle.demands.proofs.asked_of_both.Goals as goal

pub returns : goal.returns
returns c = λ long.
    let A = c.ask_then_fill-a.ensures in
    let B = c.ask_then_fill-b.ensures in
    let again = still-long A long in
    (grows _ _ _ _ _ _ _ (then-counted A long) (then-counted B again) (then-filled A long) (then-filled B again), isolated _ _ _ _ _ _ _ (then-counted A long) (then-counted B again) (then-filled A long) (then-filled B again))

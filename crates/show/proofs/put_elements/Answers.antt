use Rattle.std.proofs.Common.{refl, arith, ◌≡◌, ◌+◌, ◌-◌}
use Rattle.lay.specs.Laid.{most}
use Rattle.laws.specs.Lines.{tabs}
use Rattle.show.specs.Shown.{showing-start, showing-next, shows-all}
use Rattle.show.proofs.put_elements.Goals as goal

pub loop-init : goal.loop-init
unfolding most
loop-init c = let all : c.args.m - 0 ≡ c.args.m = omega arith in rw all (showing-start _ _ _ _ _ _ _ (omega arith) (omega arith) refl)

pub loop-preserved : goal.loop-preserved
loop-preserved c =
    let less : c.args.m - (c.loop.counter + 1) ≡ c.args.m - c.loop.counter - 1 = omega arith in
    rw less (showing-next c.loop.invariant (omega arith) c.put_next-here.auto.out c.put_next-here.ensures)

pub returns : goal.returns
unfolding tabs
returns c = shows-all c.loop.invariant (omega arith)

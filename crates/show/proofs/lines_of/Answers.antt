use Rattle.std.proofs.Common.{refl, arith, ◌≡◌, ◌+◌, ◌-◌}
use Rattle.paper.specs.Listing.{print_chunk}
use Rattle.lay.specs.Laid.{most}
use Rattle.show.specs.Shown.{showing-start, showing-next, shown-all}
use Rattle.show.proofs.lines_of.Goals as goal

pub loop-init : goal.loop-init
unfolding most
loop-init g c = (c.requires, λ r f lays. let all : c.args.n - 0 ≡ c.args.n = omega arith in rw all (showing-start _ _ _ _ _ _ _ (omega arith) (omega arith) refl))

pub loop-preserved : goal.loop-preserved
loop-preserved g c =
    let less : c.args.n - (c.loop.counter + 1) ≡ c.args.n - c.loop.counter - 1 = omega arith in
    (c.requires, λ r f lays. let (kept, one) = lays.each _ _ _ _ c.step-here.ensures in rw less (showing-next (c.loop.invariant.1 r f lays) (omega arith) kept one))

pub returns : goal.returns
unfolding print_chunk
returns g c = λ r f lays. shown-all (c.loop.invariant.1 r f lays) (omega arith)

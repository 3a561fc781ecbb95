use Rattle.std.proofs.Common.{refl, arith, ◌≡◌, ◌+◌, ◌-◌}
use Rattle.laws.specs.Cells.{commas}
use Rattle.lay.specs.Laid.{most}
use Rattle.show.specs.Shown.{showing-start, showing-next, shown-all}
use Rattle.listing.proofs.maps.put_kinds.Goals as goal

pub loop-init : goal.loop-init
unfolding most
loop-init c = let all : c.args.n - 0 ≡ c.args.n = omega arith in rw all (showing-start _ _ _ _ _ _ _ (omega arith) (omega arith) refl)

pub loop-preserved : goal.loop-preserved
loop-preserved c =
    let less : c.args.n - (c.loop.counter + 1) ≡ c.args.n - c.loop.counter - 1 = omega arith in
    rw less (showing-next c.loop.invariant (omega arith) c.put_next_kind-here.auto.out c.put_next_kind-here.ensures)

pub shape_of-out : goal.shape_of-out
shape_of-out c = c.loop.invariant.long

pub returns : goal.returns
unfolding commas
returns c = shown-all c.loop.invariant (omega arith)

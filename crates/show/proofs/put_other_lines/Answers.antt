use Rattle.std.proofs.Common.{refl, arith, ◌≡◌, ◌+◌, ◌-◌}
use Rattle.paper.specs.Listing.{print_chunk}
use Rattle.lay.specs.Laid.{most}
use Rattle.show.specs.Shown.{showing-start, showing-next, shown-all}
use Rattle.show.proofs.put_other_lines.Goals as goal

pub loop-init : goal.loop-init
unfolding most
loop-init c = let all : c.args.n - 0 ≡ c.args.n = omega arith in rw all (showing-start _ _ _ _ _ _ _ (omega arith) (omega arith) refl)

pub loop-preserved : goal.loop-preserved
loop-preserved c =
    let less : c.args.n - (c.loop.counter + 1) ≡ c.args.n - c.loop.counter - 1 = omega arith in
    rw less (showing-next c.loop.invariant (omega arith) c.put_other_line-here.auto.out c.put_other_line-here.ensures)

pub returns : goal.returns
unfolding print_chunk
returns c = shown-all c.loop.invariant (omega arith)

use Rattle.numbers.specs.Cursors.{handed}
use Rattle.std.proofs.Common.{refl, ◌≡◌, ◌+◌, ◌-◌, arith}
use Rattle.listing.specs.Fields.{passing-start, passing-no, passing-on, passing-done}
use Rattle.listing.proofs.fields.past_ends.Goals as goal

pub loop-init : goal.loop-init
loop-init c = let all : c.args.n - 0 ≡ c.args.n = omega arith in rw all (passing-start _ _ _)

pub v64-requires : goal.v64-requires
v64-requires c = tt

pub returns-in_err-next : goal.returns-in_err-next
returns-in_err-next c = rw (handed c.from_residual.ensures.1) (passing-no c.loop.invariant (omega arith) c.v64.ensures c.in_err-next.was)

pub loop-preserved : goal.loop-preserved
loop-preserved c =
    let less : c.args.n - (c.loop.counter + 1) ≡ c.args.n - c.loop.counter - 1 = omega arith in
    rw less (passing-on c.loop.invariant (omega arith) c.v64.ensures c.in_ok-next.was)

pub returns : goal.returns
returns c = passing-done c.loop.invariant (omega arith) refl

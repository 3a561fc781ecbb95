use Rattle.std.proofs.Common.{arith, ◌≡◌, ◌+◌, ◌-◌}
use Rattle.build.specs.Strings.{stringing-start, stringing-bad, string-places, stringing-next, stringing-done}
use Rattle.build.proofs.strings.strings_text.Goals as goal

pub loop-init : goal.loop-init
loop-init c = let all : c.args.n - 0 ≡ c.args.n = omega arith in rw all (stringing-start c.requires.holds c.requires.n_bound _)

pub shape_of-work-in_err-line : goal.shape_of-work-in_err-line
shape_of-work-in_err-line c = c.loop.invariant.long

pub returns-in_err-line : goal.returns-in_err-line
returns-in_err-line c = rw c.from_residual.ensures (stringing-bad c.loop.invariant (omega arith) c.string_line.ensures c.in_err-line.was)

pub overflow_cast-line : goal.overflow_cast-line
overflow_cast-line c = omega (arith, (string-places c.loop.invariant (omega arith) c.string_line.ensures c.in_ok-line.was).0)

pub overflow_cast-line-in-loop : goal.overflow_cast-line-in-loop
overflow_cast-line-in-loop c = omega (arith, (string-places c.loop.invariant (omega arith) c.string_line.ensures c.in_ok-line.was).1)

pub push_string-requires : goal.push_string-requires
push_string-requires c = record { ok = c.loop.invariant.holds.ok; work_bound = omega (arith, c.loop.invariant.room) }

pub loop-preserved : goal.loop-preserved
loop-preserved c =
    let less : c.args.n - (c.loop.counter + 1) ≡ c.args.n - c.loop.counter - 1 = omega arith in
    rw less (stringing-next c.loop.invariant (omega arith) c.string_line.ensures c.in_ok-line.was c.push_string.ensures c.push_string.auto.work)

pub shape_of-work : goal.shape_of-work
shape_of-work c = c.loop.invariant.long

pub returns : goal.returns
returns c = stringing-done c.loop.invariant (omega arith)

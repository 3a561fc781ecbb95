use Rattle.std.proofs.Common.{sym, arith}
use Rattle.lay.specs.Laid.{most}
use Rattle.words.specs.ReadHexes.{inside, pairs-none, pairs-half, pairs-more, unhexing-start, unhexing-on, unhexed}
use Rattle.words.proofs.read.hex_pairs.Goals as goal

pub loop-a-init : goal.loop-a-init
unfolding most
loop-a-init c = unhexing-start _ _ (omega arith) (omega arith)

pub returns-in_default : goal.returns-in_default
returns-in_default c = unhexed c.loop-a.invariant (pairs-none c.peek.ensures (sym c.in_default.ensures) (omega arith))

pub overflow_add-p : goal.overflow_add-p
overflow_add-p c = let h = inside c.peek.ensures c.in-Some.ensures.0 (λ e. omega (arith, c.in-Some.ensures.1)) in omega arith

pub returns-in_default-nibble : goal.returns-in_default-nibble
returns-in_default-nibble c = unhexed c.loop-a.invariant (pairs-half c.peek.ensures c.in-Some.ensures.0 (λ e. omega (arith, c.in-Some.ensures.1)) c.peek-in-loop-a.ensures (sym c.in_default-nibble.ensures) (omega arith))

pub overflow_add-p-in-loop-a : goal.overflow_add-p-in-loop-a
overflow_add-p-in-loop-a c = let h = inside c.peek-in-loop-a.ensures c.in-Some-nibble.ensures.0 (λ e. omega (arith, c.in-Some-nibble.ensures.1)) in omega arith

pub loop-a-smaller : goal.loop-a-smaller
loop-a-smaller c = let h = inside c.peek-in-loop-a.ensures c.in-Some-nibble.ensures.0 (λ e. omega (arith, c.in-Some-nibble.ensures.1)) in omega arith

pub loop-a-preserved : goal.loop-a-preserved
loop-a-preserved c =
    unhexing-on c.loop-a.invariant _ _
    (pairs-more c.peek.ensures c.in-Some.ensures.0 (λ e. omega (arith, c.in-Some.ensures.1))
    c.peek-in-loop-a.ensures c.in-Some-nibble.ensures.0 (λ e. omega (arith, c.in-Some-nibble.ensures.1)))
    c.put-q.ensures

use Rattle.std.proofs.Common.{eq-eqb, ne_eqb}
use Rattle.calls.proofs.asks.is_asked.Goals as goal

pub returns-then-k-own : goal.returns-then-k-own
returns-then-k-own c = rw (← c.asked_with-own.ensures _, eq-eqb _ _ c.if-k-own.true)

pub returns-else-k-own : goal.returns-else-k-own
returns-else-k-own c = rw (← c.asked_with-own.ensures _, ne_eqb _ _ c.if-k-own.false)

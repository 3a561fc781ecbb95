use Rattle.std.proofs.Common.{sym, ◌-◌, ◌∙◌, arith}
use Rattle.parse.specs.OldLaws.{olds-none, olds-on, olds-not}
use Rattle.parse.proofs.old_lines.Goals as goal

pub returns-in_err-at : goal.returns-in_err-at
returns-in_err-at c = rw c.from_residual.ensures (sym (olds-not (c.args.n - c.loop.counter) _ c.loop.at.at (omega arith) c.in_err-at.ensures) ∙ c.loop.invariant)

pub loop-preserved : goal.loop-preserved
loop-preserved c = olds-on _ c.loop.at.at (omega arith) c.in_ok-at.ensures ∙ c.loop.invariant

pub returns : goal.returns
returns c = olds-none (c.args.n - c.loop.counter) _ c.loop.at.at (omega arith) ∙ c.loop.invariant

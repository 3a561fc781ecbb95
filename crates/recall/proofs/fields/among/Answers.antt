use Rattle.std.proofs.Common.{rules, arith}
use Rattle.recall.specs.Among.{among-start, among-on, among-found, among-end}
use Rattle.recall.proofs.fields.among.Goals as goal

pub loop-i-init : goal.loop-i-init
loop-i-init c = (among-start _ _ _ _ _ _, search rules)

pub returns-then-is_string : goal.returns-then-is_string
returns-then-is_string c = among-found c.args.t c.loop-i.invariant.0 c.loop-i-test.true c.new_at-g.ensures c.is_string.ensures c.if-is_string.true

pub loop-i-preserved : goal.loop-i-preserved
loop-i-preserved c = (among-on c.loop-i.invariant.0 c.loop-i-test.true c.new_at-g.ensures c.is_string.ensures c.if-is_string.false, c.loop-i.invariant.1)

pub returns : goal.returns
returns c = among-end c.args.t c.loop-i.invariant.0 (omega arith)

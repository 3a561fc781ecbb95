use Rattle.std.proofs.Common.{sym, ◌∙◌}
use Rattle.numbers.specs.Cursors.{handed}
use Rattle.values.specs.Annotations.{placed?, first-no, second-no, both-taken, both-refused}
use Rattle.values.proofs.annotations.annotation.Goals as goal

pub returns-in_err-m : goal.returns-in_err-m
returns-in_err-m c = rw (handed c.from_residual.ensures.1) (first-no (placed? _) c.v64.ensures c.in_err-m.was)

pub returns-in_err-n : goal.returns-in_err-n
returns-in_err-n c = rw (handed c.from_residual-in_err-n.ensures.1) (second-no (placed? _) c.v64.ensures c.in_ok-m.was c.v64-2.ensures c.in_err-n.was)

pub returns-then-placed : goal.returns-then-placed
returns-then-placed c = both-taken (placed? _) c.v64.ensures c.in_ok-m.was c.v64-2.ensures c.in_ok-n.was _ (sym c.placed.ensures ∙ c.if-placed.true)

pub returns : goal.returns
returns c = both-refused (placed? _) c.v64.ensures c.in_ok-m.was c.v64-2.ensures c.in_ok-n.was (sym c.placed.ensures ∙ c.if-placed.false)

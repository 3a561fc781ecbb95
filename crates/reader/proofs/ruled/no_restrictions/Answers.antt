-- `reader::fields::no_restrictions` meets its contract. Assumes nothing.
use Rattle.numbers.specs.Cursors.{handed}
use Rattle.reader.specs.FieldNumbers.{restrictions-no, restrictions-some, restrictions-none}
use Rattle.reader.proofs.ruled.no_restrictions.Goals as goal

pub returns-in_err-n : goal.returns-in_err-n
returns-in_err-n c = rw (handed c.from_residual.ensures.1) (restrictions-no c.v64.ensures c.in_err-n.was)

pub returns-then-n-ne0 : goal.returns-then-n-ne0
returns-then-n-ne0 c = restrictions-some c.v64.ensures c.in_ok-n.was c.if-n-ne0.true

pub returns : goal.returns
returns c = restrictions-none c.v64.ensures c.in_ok-n.was c.if-n-ne0.false

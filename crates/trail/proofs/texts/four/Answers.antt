use Rattle.std.proofs.Common.{arith}
use Rattle.trail.specs.Texts.{four-none, four-one}
use Rattle.trail.proofs.texts.four.Goals as goal

pub returns-in_default : goal.returns-in_default
returns-in_default c = four-none (c.be-a.ensures.reads (omega arith)) c.in_default.is

pub returns : goal.returns
returns c = four-one (c.be-a.ensures.reads (omega arith)) c.in-Ok.is

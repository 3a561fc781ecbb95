use Rattle.std.proofs.Common.{arith, rules}
use Rattle.show.specs.Single.{width-1, width-2, width-4, width-8}
use Rattle.show.proofs.width_of.Goals as goal

pub returns-in-8 : goal.returns-in-8
returns-in-8 c = width-2 _ c.in-8.is

pub returns-in-9 : goal.returns-in-9
returns-in-9 c = width-4 _ c.in-9.is

pub returns-in-6-to-7 : goal.returns-in-6-to-7
returns-in-6-to-7 c = width-1 _ (omega arith) (omega arith)

pub returns-in_default-2 : goal.returns-in_default-2
returns-in_default-2 c = search (rules, width-8 _ c.requires (omega arith))

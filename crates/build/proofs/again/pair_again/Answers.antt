use Rattle.std.proofs.Common.{arith}
use Rattle.build.specs.Puts.{front-ready}
use Rattle.build.specs.Again.{again-no-front, again-no-values, again-ready, again-done}
use Rattle.build.proofs.again.pair_again.Goals as goal

pub returns-in_default : goal.returns-in_default
returns-in_default c = λ G. absurd (again-no-front G c.front_text.ensures c.in_default.is)

pub lay_sized-requires : goal.lay_sized-requires
lay_sized-requires c = front-ready c.requires.asks c.front_text.ensures c.in-Some.is

pub returns-in_default-lay_sized : goal.returns-in_default-lay_sized
returns-in_default-lay_sized c = λ G. absurd (again-no-values G c.front_text.ensures c.in-Some.is c.lay_sized.ensures c.in_default-lay_sized.is)

pub next_block-requires : goal.next_block-requires
next_block-requires c = record { ok = c.lay_sized.ensures.holds.ok; work_bound = omega (arith, (again-ready c.requires c.front_text.ensures c.in-Some.is c.lay_sized.ensures c.in-Some-lay_sized.is).sound.block) }

pub returns : goal.returns
returns c = λ G. again-done G c.front_text.ensures c.in-Some.is c.lay_sized.ensures c.in-Some-lay_sized.is c.strings-known.ensures c.put_front.ensures c.next_block.ensures

use Rattle.std.proofs.Common.{rules, arith}
use Rattle.words.specs.Pairs.{no_block, block}
use Rattle.words.proofs.read.unhex_block.Goals as goal

pub returns-then-t-at : goal.returns-then-t-at
returns-then-t-at c = no_block

pub returns-then-t-at-lt64 : goal.returns-then-t-at-lt64
returns-then-t-at-lt64 c = no_block

pub copy_pairs-requires : goal.copy_pairs-requires
copy_pairs-requires c = (omega arith, search rules)

pub unhex_pairs-requires : goal.unhex_pairs-requires
unhex_pairs-requires c = (c.copy_pairs.ensures.long, c.requires)

pub returns : goal.returns
returns c t = block (omega arith) c.copy_pairs.ensures (c.unhex_pairs.ensures t)

use Rattle.std.proofs.Common.{arith, refl}
use Rattle.walk.specs.PairLaws.{pair-begins}
use Rattle.listing.specs.Pairs.{pair-not-read, fits, region-there, block-ends, pair-printed}
use Rattle.listing.proofs.pairs.print_pair.Goals as goal

pub print_front-printed-requires : goal.print_front-printed-requires
print_front-printed-requires c = pair-begins c.requires.0

pub returns-in_default : goal.returns-in_default
returns-in_default c = pair-not-read c.requires.0 c.print_front-printed.ensures c.in_default.is

pub print_region-p-requires : goal.print_region-p-requires
print_region-p-requires c = region-there c.requires.0 c.print_front-printed.ensures c.in-Ok.is c.requires.1

pub next_block-requires : goal.next_block-requires
next_block-requires c = let both = block-ends c.requires.0 c.print_front-printed.ensures c.in-Ok.is in record { ok = both.0; work_bound = both.1 }

pub overflow_add-end : goal.overflow_add-end
overflow_add-end c = record { fits = omega (arith, fits c.requires.0 c.print_front-printed.ensures c.in-Ok.is c.requires.1, c.requires.0.small) }

pub returns : goal.returns
returns c = pair-printed c.requires.0 c.print_front-printed.ensures c.in-Ok.is c.print_region-p.ensures c.next_block.ensures refl

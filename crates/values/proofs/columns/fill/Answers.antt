use Rattle.std.proofs.Common.{rules, arith}
use Rattle.values.specs.Listed.{listed-low}
use Rattle.values.specs.Rows.{wide-6, wide-7, wide-8, wide-9, wide-10, wide-12, wide-13, objects-only}
use Rattle.values.proofs.columns.fill.Goals as goal

pub fill_fixed-requires : goal.fill_fixed-requires
fill_fixed-requires c = (omega arith, wide-6)

pub fill_fixed-requires-in-7 : goal.fill_fixed-requires-in-7
fill_fixed-requires-in-7 c = (omega arith, wide-7)

pub fill_fixed-requires-in-8 : goal.fill_fixed-requires-in-8
fill_fixed-requires-in-8 c = (omega arith, wide-8)

pub fill_fixed-requires-in-9 : goal.fill_fixed-requires-in-9
fill_fixed-requires-in-9 c = (omega arith, wide-9)

pub fill_fixed-requires-in-10 : goal.fill_fixed-requires-in-10
fill_fixed-requires-in-10 c = (omega arith, wide-10)

pub fill_fixed-requires-in-12 : goal.fill_fixed-requires-in-12
fill_fixed-requires-in-12 c = (omega arith, wide-12)

pub fill_fixed-requires-in-13 : goal.fill_fixed-requires-in-13
fill_fixed-requires-in-13 c = (omega arith, wide-13)

pub returns-in_default : goal.returns-in_default
returns-in_default c = c.fill_objects.ensures c.args.k (search (rules, objects-only, listed-low _ c.requires))

use Rattle.std.proofs.Common.{◌∙◌, leb, refl, rules, tests}
use Rattle.std.proofs.lemmas.Iterator.{YieldsList-from_slice}
use Rattle.std.proofs.lemmas.Iterator.Search.{any_from_yields_List}
use Rattle.lookups.specs.Group.{refers?, found_any}
use Rattle.lookups.proofs.ranges.refers.Goals as goal

pub returns : goal.returns
unfolding refers?
returns c =
    let xs = c.args.kinds.now in
    any_from_yields_List (leb 32) _ _ _ c.any.ensures.ran (YieldsList-from_slice xs cc) (λ x b q k. search (rules, tests)) ∙ found_any (leb 32) (leb 32) (λ x. refl) xs

use Rattle.std.proofs.Common.{◌∷◌, arith}
use Rattle.paper.specs.Listing.{tab}
use Rattle.lay.specs.Laid.{most}
use Rattle.show.specs.Lines.{fixed-steps, link-shows, element-low}
use Rattle.show.proofs.put_next.Goals as goal

pub returns-then-e-gt13 : goal.returns-then-e-gt13
returns-then-e-gt13 c = link-shows c.if-e-gt13.true (λ w. tab ∷ w) c.put_number.ensures

pub put_other-end-requires : goal.put_other-end-requires
put_other-end-requires c = record { low = element-low _ c.requires c.if-e-eq5.false; high = omega arith; other = c.if-e-eq11.false }

pub width_of-requires : goal.width_of-requires
width_of-requires c = record { low = element-low _ c.requires c.if-e-eq5.false; high = omega arith; other = c.if-e-eq11.false }

pub returns : goal.returns
unfolding most
returns c = fixed-steps (record { low = element-low _ c.requires c.if-e-eq5.false; high = omega arith; other = c.if-e-eq11.false }) c.width_of.ensures (omega arith) c.behind.ensures c.put_other-end.ensures

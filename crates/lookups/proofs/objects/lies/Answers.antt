-- `lookups::objects::lies` meets its contract. Assumes nothing.
use Rattle.std.proofs.Common.{eq-eqb, ne_eqb, le-leb}
use borrow.Author.Tests.{lt-leb}
use Rattle.paper.specs.Ledger.{holds?, of?}
use Rattle.lookups.proofs.objects.lies.Goals as goal

pub returns-then-r-t : goal.returns-then-r-t
unfolding holds? of?
returns-then-r-t c = simp (ne_eqb _ _ c.if-r-t.true)

pub returns-then-n-first : goal.returns-then-n-first
unfolding holds? of?
returns-then-n-first c = simp (eq-eqb _ _ c.if-r-t.false, lt-leb _ _ c.if-n-first.true)

pub returns : goal.returns
unfolding holds? of?
returns c = simp (eq-eqb _ _ c.if-r-t.false, le-leb _ _ c.if-n-first.false)

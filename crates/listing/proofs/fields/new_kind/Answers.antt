use Rattle.numbers.specs.Cursors.{handed}
use Rattle.listing.specs.Fields.{kind-cut, kind-behind}
use Rattle.listing.proofs.fields.new_kind.Goals as goal

pub returns-in_err-next : goal.returns-in_err-next
returns-in_err-next c = rw (handed c.from_residual.ensures.1) (kind-cut c.no_restrictions.ensures c.in_err-next.was)

pub returns : goal.returns
returns c = kind-behind c.no_restrictions.ensures c.in_ok-next.was c.read_kind.ensures

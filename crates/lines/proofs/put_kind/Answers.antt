use Rattle.std.proofs.Common.{arith, sym, ap, ◌∙◌, to_z-of_z, w64}
use Rattle.lay.specs.Laid.{laid_as}
use Rattle.paper.specs.Ledger.{constant}
use Rattle.paper.specs.Listing.{kind_word}
use Rattle.values.specs.Chunks.{kind-array, kind-many, kind-plain}
use Rattle.lines.proofs.put_kind.Goals as goal

pub returns-in-15 : goal.returns-in-15
returns-in-15 c = rw (kind-array _ _ _ c.in-15.is) c.put_array.ensures

pub returns-in-0-to-4 : goal.returns-in-0-to-4
returns-in-0-to-4 c = laid_as c.put_constant.ensures (ap kind_word (ap (constant c.args.k) (to_z-of_z {w = w64} (record { sfits = c.constant_of.type_inv })) ∙ sym (c.constant_of.ensures _)))

pub returns-in-17-to-19 : goal.returns-in-17-to-19
returns-in-17-to-19 c = rw (kind-many c.args.k c.args.a c.args.e (omega arith) (omega arith)) c.put_many.ensures

pub returns-in_default : goal.returns-in_default
unfolding kind_word
returns-in_default c = rw (kind-plain _ _ _ (omega arith) (λ q. omega arith) (λ h. omega arith) c.requires) c.put_decimal.ensures

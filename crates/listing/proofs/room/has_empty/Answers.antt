use Rattle.std.proofs.Common.{arith, refl, sym, ◌∙◌}
use Rattle.paper.specs.Ledger.{no_field}
use Rattle.laws.specs.Room.{empty_field?}
use Rattle.table.specs.View.{flds_of}
use Rattle.table.specs.Loops.{any_here, any-on, any-end}
use Rattle.listing.proofs.room.has_empty.Goals as goal

pub loop-i-init : goal.loop-i-init
loop-i-init c = refl

pub returns-then-is_empty : goal.returns-then-is_empty
returns-then-is_empty c = sym (c.loop-i.invariant ∙ any_here empty_field? (flds_of c.args.table.now) c.loop-i.i no_field (omega (arith, c.requires.flds-count, c.fields-n.ensures)) c.field_at.ensures.result_value c.is_empty.ensures c.if-is_empty.true)

pub loop-i-preserved : goal.loop-i-preserved
loop-i-preserved c = c.loop-i.invariant ∙ any-on empty_field? (flds_of c.args.table.now) c.loop-i.i no_field (omega (arith, c.requires.flds-count, c.fields-n.ensures)) c.field_at.ensures.result_value c.is_empty.ensures c.if-is_empty.false

pub returns : goal.returns
returns c = sym (c.loop-i.invariant ∙ any-end empty_field? (flds_of c.args.table.now) c.loop-i.i (omega (arith, c.requires.flds-count, c.fields-n.ensures)))

use Rattle.std.proofs.Common.{arith, refl, ◌∙◌, ◌≡◌, ◌+◌, ◌-◌}
use Rattle.lay.specs.Laid.{most}
use Rattle.reader.specs.EntryLaws.{entry-unheaded, entry-opens, entry-got}
use Rattle.listing.specs.Entries.{entered-read, entry-no-head, printing-start, printing-done, printing-no, printing-on}
use Rattle.listing.proofs.entries.print_entries.Goals as goal

pub loop-init : goal.loop-init
unfolding most
loop-init c = let all : c.args.count - 0 ≡ c.args.count = omega arith in rw all (printing-start c.requires.0 c.requires.1 _ _ _ _ (omega arith) (omega arith))

pub enter_any-requires : goal.enter_any-requires
enter_any-requires c = record { holds = c.loop.invariant.reading.holds; sound = c.loop.invariant.reading.sound }

pub shape_of-work-in-Err : goal.shape_of-work-in-Err
shape_of-work-in-Err c = c.enter_any.auto.work ∙ c.loop.invariant.reading.long

pub shape_of-out-in-Err : goal.shape_of-out-in-Err
shape_of-out-in-Err c = c.loop.invariant.long

pub returns-in-Err : goal.returns-in-Err
returns-in-Err c = printing-no c.loop.invariant (omega arith) (entry-no-head _ _ (entered-read c.enter_any.ensures) c.in-Err.is) (entry-unheaded _ _ c.enter_any.ensures c.in-Err.is) refl

pub print_entry-p-requires : goal.print_entry-p-requires
print_entry-p-requires c = (entry-opens c.enter_any.ensures c.in-Ok.is).0

pub fields-requires : goal.fields-requires
fields-requires c = let both = entry-opens c.enter_any.ensures c.in-Ok.is in record { holds = both.0; fact = both.1 }

pub shape_of-work-in-Err-fields : goal.shape_of-work-in-Err-fields
shape_of-work-in-Err-fields c = c.fields.auto.work ∙ c.enter_any.auto.work ∙ c.loop.invariant.reading.long

pub shape_of-out-in-Err-fields : goal.shape_of-out-in-Err-fields
shape_of-out-in-Err-fields c = c.print_entry-p.auto.out ∙ c.loop.invariant.long

pub returns-in-Err-fields : goal.returns-in-Err-fields
returns-in-Err-fields c = printing-no c.loop.invariant (omega arith) (c.print_entry-p.ensures _ _ (rw c.in-Ok.is at c.enter_any.ensures)) (entry-got _ _ c.enter_any.ensures c.in-Ok.is refl c.fields.ensures) c.in-Err-fields.is

pub loop-preserved : goal.loop-preserved
loop-preserved c =
    let less : c.args.count - (c.loop.counter + 1) ≡ c.args.count - c.loop.counter - 1 = omega arith in
    rw less (printing-on c.loop.invariant (omega arith) (c.print_entry-p.ensures _ _ (rw c.in-Ok.is at c.enter_any.ensures)) (entry-got _ _ c.enter_any.ensures c.in-Ok.is refl c.fields.ensures) c.in-Ok-fields.is (c.fields.auto.work ∙ c.enter_any.auto.work) c.print_entry-p.auto.out)

pub shape_of-work : goal.shape_of-work
shape_of-work c = c.loop.invariant.reading.long

pub shape_of-out : goal.shape_of-out
shape_of-out c = c.loop.invariant.long

pub returns : goal.returns
returns c = printing-done c.loop.invariant (omega arith)

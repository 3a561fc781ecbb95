use Rattle.std.proofs.Common.{ap, ◌∙◌, ℕ, ◌-◌, arith}
use Rattle.reader.specs.EntryLaws.{still-sound}
use Rattle.listing.specs.Fronts.{front-no-strings, not-fewer, front-no-count, front-printed}
use Rattle.listing.proofs.fronts.print_front.Goals as goal

pub returns-in-Err : goal.returns-in-Err
returns-in-Err c = front-no-strings _ c.read_strings.ensures c.in-Err.is

pub returns-in-Err-small : goal.returns-in-Err-small
returns-in-Err-small c = front-no-count _ c.read_strings.ensures c.in-Ok.is c.small.ensures c.in-Err-small.is

pub overflow_sub-more : goal.overflow_sub-more
overflow_sub-more c = omega (arith, not-fewer _ c.read_strings.ensures c.in-Ok.is c.requires.0, c.strings-before.ensures, c.strings.ensures)

pub print_entries-requires : goal.print_entries-requires
print_entries-requires c = (c.read_strings.ensures.holds, still-sound _ c.read_strings.ensures c.in-Ok.is c.requires.1)

pub shape_of-work : goal.shape_of-work
shape_of-work c = c.print_entries.auto.work ∙ c.read_strings.auto.work

pub returns : goal.returns
returns c = front-printed _ c.read_strings.ensures c.in-Ok.is c.small.ensures c.in-Ok-small.is c.requires.0 c.strings-before.ensures (ap (λ (x : ℕ). x - c.strings-before.result) c.strings.ensures) c.put_pair-behind_pair.ensures c.print_strings-behind_strings.ensures c.print_entries.ensures

use Rattle.std.proofs.Common.{arith}
use Rattle.walk.specs.FileLaws.{all-bytes}
use Rattle.listing.specs.Text.{text-direct}
use Rattle.listing.proofs.write_text.Goals as goal

pub is_roomy-requires : goal.is_roomy-requires
is_roomy-requires c = c.requires.ok

pub print_file-count-requires : goal.print_file-count-requires
print_file-count-requires c = (c.requires.ok.long, c.requires.there)

pub returns-then-is_roomy : goal.returns-then-is_roomy
returns-then-is_roomy c = text-direct c.is_roomy.ensures c.if-is_roomy.true (all-bytes c.args.file.now (λ i. omega (arith, c.shared_slice_known-1.given i))) c.requires.says (omega arith) c.print_file-count.ensures

pub count_and_write-requires : goal.count_and_write-requires
count_and_write-requires c = (c.requires.ok.long, c.requires.there)

pub returns : goal.returns
returns c = c.count_and_write.ensures

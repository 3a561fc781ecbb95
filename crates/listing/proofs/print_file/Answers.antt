use Rattle.std.proofs.Common.{arith}
use Rattle.walk.specs.FileLaws.{all-bytes}
use Rattle.listing.specs.Text.{pairs-asked, file-printed}
use Rattle.listing.proofs.print_file.Goals as goal

pub print_pairs-requires : goal.print_pairs-requires
print_pairs-requires c = pairs-asked _ c.begin.ensures (all-bytes c.args.file.now (λ i. omega (arith, c.shared_slice_known-1.given i))) c.requires.1

pub returns : goal.returns
returns c = file-printed _ c.begin.ensures c.print_pairs.ensures

use Rattle.std.proofs.Common.{arith}
use Rattle.walk.specs.FileLaws.{all-bytes}
use Rattle.build.specs.Call.{text-ready}
use Rattle.build.proofs.fill_file.Goals as goal

pub pairs_again-requires : goal.pairs_again-requires
pairs_again-requires c = record { text_ready = text-ready c.requires.1 c.begin.ensures (all-bytes c.args.text.now (λ i. omega (arith, c.shared_slice_known-1.given i))); file_given = c.requires.2 }

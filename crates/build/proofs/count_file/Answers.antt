use Rattle.std.proofs.Common.{arith}
use Rattle.walk.specs.FileLaws.{all-bytes}
use Rattle.build.specs.Call.{text-ready}
use Rattle.build.proofs.count_file.Goals as goal

pub count_pairs-requires : goal.count_pairs-requires
count_pairs-requires c = record { text_ready = text-ready c.requires.1 c.begin.ensures (all-bytes c.args.text.now (λ i. omega (arith, c.shared_slice_known-1.given i))); places_len = c.requires.2 }

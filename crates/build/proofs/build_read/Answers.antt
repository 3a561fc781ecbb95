use Rattle.std.proofs.Common.{arith}
use Rattle.walk.specs.FileLaws.{all-bytes}
use Rattle.build.specs.Call.{build-too-long}
use Rattle.build.proofs.build_read.Goals as goal

pub returns-then-text-gt65999999 : goal.returns-then-text-gt65999999
returns-then-text-gt65999999 c = build-too-long _ (all-bytes c.args.text.now (λ i. omega (arith, c.shared_slice_known-1.given i))) c.if-text-gt65999999.true

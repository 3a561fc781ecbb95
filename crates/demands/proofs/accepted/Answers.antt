use Rattle.std.proofs.Common.{arith}
use Rattle.walk.specs.FileLaws.{all-bytes}
use Rattle.demands.specs.Exact.{accepts-exactly}
use Rattle.demands.proofs.accepted.Goals as goal

pub returns : goal.returns
returns c = λ long. accepts-exactly _ _ (all-bytes c.args.file.now (λ i. omega (arith, c.type_inv.file i))) long c.check.ensures

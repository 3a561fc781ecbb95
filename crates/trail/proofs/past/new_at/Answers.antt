use Rattle.std.proofs.Common.{arith}
use Rattle.trail.specs.Told.{new-no-kind, new-got}
use Rattle.trail.specs.Rows.{row-none, all-bytes}
use Rattle.trail.proofs.past.new_at.Goals as goal

pub past-none-requires : goal.past-none-requires
past-none-requires c = tt

pub read_kind-k-requires : goal.read_kind-k-requires
read_kind-k-requires c = tt

pub returns-in_default : goal.returns-in_default
returns-in_default c = new-no-kind c.past-none.ensures c.read_kind-k.ensures c.in_default.is (omega arith) row-none

pub past-name-requires : goal.past-name-requires
past-name-requires c = tt

pub past-end-requires : goal.past-end-requires
past-end-requires c = tt

pub returns : goal.returns
returns c = new-got c.past-none.ensures c.read_kind-k.ensures c.in-Ok.is c.past-name.ensures c.past-end.ensures (all-bytes c.args.file.now (λ i. omega (arith, c.shared_slice_known-1.given i)))

use Rattle.std.proofs.Common.{arith}
use Rattle.lay.specs.Laid.{laid_as}
use Rattle.laws.specs.Put.{put_kind}
use Rattle.values.specs.Chunks.{kind-array, kind-many, kind-plain}
use Rattle.puts.specs.Kinds.{kind-constant}
use Rattle.puts.proofs.put_kind.Goals as goal

pub returns-in-15 : goal.returns-in-15
unfolding put_kind
returns-in-15 c = rw (kind-array _ _ _ c.in-15.is) c.put_array.ensures

pub returns-in-0-to-4 : goal.returns-in-0-to-4
returns-in-0-to-4 c = laid_as c.put_constant.ensures (kind-constant _ _ _ (omega arith))

pub returns-in-17-to-19 : goal.returns-in-17-to-19
unfolding put_kind
returns-in-17-to-19 c = rw (kind-many c.args.kind.first c.args.kind.bits c.args.kind.last (omega arith) (omega arith)) c.put_two.ensures

pub returns-in_default : goal.returns-in_default
unfolding put_kind
returns-in_default c = rw (kind-plain _ _ _ (omega arith) (λ q. omega arith) (λ h. omega arith) c.requires) c.put_v64.ensures

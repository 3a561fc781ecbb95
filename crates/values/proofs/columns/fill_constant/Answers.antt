use Rattle.std.proofs.Common.{◌≡◌, length, take, refl, length-take, to_z-of_z, arith}
use Rattle.std.proofs.lemmas.List.{length-replicate}
use Rattle.paper.specs.Calls.{over_front}
use Rattle.values.proofs.columns.fill_constant.Goals as goal

pub returns : goal.returns
unfolding over_front
returns c = let long : length (take c.args.n c.args.out.now) ≡ c.args.n = rw length-take (omega arith) in
    rw (c.fill.ensures.after (λ y is. is), to_z-of_z c.ranges.z, length-replicate, long) refl

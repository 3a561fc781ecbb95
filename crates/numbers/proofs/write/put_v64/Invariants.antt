use Rattle.numbers.proofs.WriteLaws.{Writing}
use Rattle.numbers.proofs.write.put_v64.Given as goal

abbrev pub invariant-loop-left : goal.invariant-loop-left
invariant-loop-left l = Writing l.initial.out l.at l.x l.out l.p l.rest l._left

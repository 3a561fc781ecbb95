-- `reader::heads::read_head` meets its contract. Assumes nothing.
use Rattle.std.proofs.Common.{arith}
use Rattle.numbers.specs.Cursors.{handed}
use Rattle.reader.specs.TopLaws.{top-no-name, resolved, top-no-super, top-no-start, start-below, top-no-count, count-below, top-no-none, top-got}
use Rattle.reader.proofs.heads.read_head.Goals as goal

pub returns-in_err-name : goal.returns-in_err-name
returns-in_err-name c = rw (handed c.from_residual.ensures.1) (top-no-name c.type_name.ensures c.in_err-name.was)

pub super_name-requires : goal.super_name-requires
super_name-requires c = record { holds = c.requires; resolved = resolved c.type_name.ensures c.in_ok-name.was }

pub returns-in_err-above : goal.returns-in_err-above
returns-in_err-above c = rw (handed c.from_residual-in_err-above.ensures.1) (top-no-super c.type_name.ensures c.in_ok-name.was c.super_name.ensures c.in_err-above.was)

pub returns-in_err-start : goal.returns-in_err-start
returns-in_err-start c = rw (handed c.from_residual-in_err-start.ensures.1) (top-no-start c.type_name.ensures c.in_ok-name.was c.super_name.ensures c.in_ok-above.was c.local_start.ensures c.in_err-start.was)

pub overflow_cast-start : goal.overflow_cast-start
overflow_cast-start c = omega (arith, start-below c.type_name.ensures c.in_ok-name.was c.super_name.ensures c.in_ok-above.was c.local_start.ensures c.in_ok-start.was)

pub returns-in_err-n : goal.returns-in_err-n
returns-in_err-n c = rw (handed c.from_residual-in_err-n.ensures.1) (top-no-count c.type_name.ensures c.in_ok-name.was c.super_name.ensures c.in_ok-above.was c.local_start.ensures c.in_ok-start.was c.object_count.ensures c.in_err-n.was)

pub returns-in_err-end : goal.returns-in_err-end
returns-in_err-end c = rw (handed c.from_residual-in_err-end.ensures.1) (top-no-none c.type_name.ensures c.in_ok-name.was c.super_name.ensures c.in_ok-above.was c.local_start.ensures c.in_ok-start.was c.object_count.ensures c.in_ok-n.was c.type_restrictions.ensures c.in_err-end.was)

pub overflow_cast-top : goal.overflow_cast-top
overflow_cast-top c = omega (arith, start-below c.type_name.ensures c.in_ok-name.was c.super_name.ensures c.in_ok-above.was c.local_start.ensures c.in_ok-start.was)

pub overflow_cast-top-2 : goal.overflow_cast-top-2
overflow_cast-top-2 c = omega (arith, count-below c.type_name.ensures c.in_ok-name.was c.super_name.ensures c.in_ok-above.was c.local_start.ensures c.in_ok-start.was c.object_count.ensures c.in_ok-n.was)

pub returns : goal.returns
returns c = top-got c.type_name.ensures c.in_ok-name.was c.super_name.ensures c.in_ok-above.was c.local_start.ensures c.in_ok-start.was c.object_count.ensures c.in_ok-n.was c.type_restrictions.ensures c.in_ok-end.was

use Rattle.std.proofs.Common.{arith}
use Rattle.numbers.proofs.SignLaws.{up_fits, moved-fits, moved_back}
use Rattle.numbers.proofs.sign.from_low_bits.Goals as goal

pub overflow_cast-result : goal.overflow_cast-result
overflow_cast-result c = up_fits c.args.x c.args.half (omega arith) (omega arith) (omega arith)

pub overflow_sub-result : goal.overflow_sub-result
overflow_sub-result c = moved-fits c.args.x c.args.half (omega arith) (omega arith) (omega arith)

pub returns : goal.returns
returns c w two = moved_back c.args.x c.args.half (omega arith) (omega arith) (omega arith) w two

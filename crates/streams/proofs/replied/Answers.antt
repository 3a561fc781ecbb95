use Rattle.std.proofs.Common.{refl, arith}
use Rattle.streams.specs.Answers.{told-done, told-refused}
use Rattle.streams.proofs.replied.Goals as goal

pub returns-in-Ok : goal.returns-in-Ok
returns-in-Ok c = told-done c.in-Ok.is refl refl

pub returns-in-Err : goal.returns-in-Err
returns-in-Err c = told-refused c.in-Err.is (omega arith) _ refl c.put_refused.ensures

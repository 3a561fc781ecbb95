use Rattle.std.proofs.Common.{sym, arith}
use Rattle.words.specs.ReadHexes.{nibble-below, nibble-digit, nibble-between, nibble-letter, nibble-above}
use Rattle.words.proofs.read.nibble.Goals as goal

pub returns-then-b-lt48 : goal.returns-then-b-lt48
returns-then-b-lt48 c = sym (nibble-below _ (omega arith))

pub returns-then-b-le57 : goal.returns-then-b-le57
returns-then-b-le57 c = (nibble-digit _ (omega arith) (omega arith), omega arith)

pub returns-then-b-lt97 : goal.returns-then-b-lt97
returns-then-b-lt97 c = sym (nibble-between _ (omega arith) (omega arith))

pub returns-then-b-le102 : goal.returns-then-b-le102
returns-then-b-le102 c = (nibble-letter _ (omega arith) (omega arith), omega arith)

pub returns : goal.returns
returns c = sym (nibble-above _ (omega arith))

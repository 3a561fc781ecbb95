use Rattle.std.proofs.Common.{arith}
use Rattle.numbers.specs.Lengths.{between}
use Rattle.numbers.proofs.write.v64_length.Goals as goal

pub returns-then-x-lt128 : goal.returns-then-x-lt128
returns-then-x-lt128 c = between 0 _ (omega arith) (λ i. omega arith) (λ i. omega arith)

pub returns-then-x-lt16384 : goal.returns-then-x-lt16384
returns-then-x-lt16384 c = between 1 _ (omega arith) (λ i. omega arith) (λ i. omega arith)

pub returns-then-x-lt2097152 : goal.returns-then-x-lt2097152
returns-then-x-lt2097152 c = between 2 _ (omega arith) (λ i. omega arith) (λ i. omega arith)

pub returns-then-x-lt268435456 : goal.returns-then-x-lt268435456
returns-then-x-lt268435456 c = between 3 _ (omega arith) (λ i. omega arith) (λ i. omega arith)

pub returns-then-x-lt34359738368 : goal.returns-then-x-lt34359738368
returns-then-x-lt34359738368 c = between 4 _ (omega arith) (λ i. omega arith) (λ i. omega arith)

pub returns-then-x-lt4398046511104 : goal.returns-then-x-lt4398046511104
returns-then-x-lt4398046511104 c = between 5 _ (omega arith) (λ i. omega arith) (λ i. omega arith)

pub returns-then-x-lt562949953421312 : goal.returns-then-x-lt562949953421312
returns-then-x-lt562949953421312 c = between 6 _ (omega arith) (λ i. omega arith) (λ i. omega arith)

pub returns-then-x-lt72057594037927936 : goal.returns-then-x-lt72057594037927936
returns-then-x-lt72057594037927936 c = between 7 _ (omega arith) (λ i. omega arith) (λ i. omega arith)

pub returns : goal.returns
returns c = between 8 _ (omega arith) (λ i. omega arith) (λ i. omega arith)

use Rattle.std.proofs.Common.{arith}
use Rattle.texts.specs.Chunks.{chunk-constant, chunk-array, chunk-lists, chunk-plain}
use Rattle.texts.proofs.chunk_text.Goals as goal

pub returns-in-15 : goal.returns-in-15
returns-in-15 c = chunk-array _ _ _ _ _ _ _ _ _ (c.requires.0.element (omega (arith, c.in-15.is)) c.requires.1) c.in-15.is (c.requires.0.length c.in-15.is) c.values_text.ensures

pub returns-in-0-to-4 : goal.returns-in-0-to-4
returns-in-0-to-4 c = chunk-constant _ _ _ _ _ _ _ _ _ (omega arith) c.values_text-in-0-to-4.ensures

pub returns-in-17-to-19 : goal.returns-in-17-to-19
returns-in-17-to-19 c = chunk-lists _ _ _ _ _ _ _ _ _ (c.requires.0.element (omega arith) c.requires.1) (omega arith) (omega arith) c.lists_text.ensures

pub returns-in_default : goal.returns-in_default
returns-in_default c = chunk-plain _ _ _ _ _ _ _ _ _ (c.requires.0.element (omega arith) c.requires.1) (omega arith) (λ q. omega arith) (λ h. omega arith) c.requires.1 c.values_text-in_default.ensures

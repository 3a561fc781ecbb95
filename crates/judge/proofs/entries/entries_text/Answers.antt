-- `judge::entries::entries_text` meets its contract. Assumes nothing.
use Rattle.std.proofs.Common.{arith}
use Rattle.judge.specs.EntriesLaws.{entries-begin, entries-bad, entries_next, entries-done}
use Rattle.judge.proofs.entries.entries_text.Goals as goal

pub loop-init : goal.loop-init
loop-init c = entries-begin c.requires.holds c.requires.sound _ (omega arith)

pub entry_text-requires : goal.entry_text-requires
entry_text-requires c = record { holds = c.loop.invariant.holds; sound = c.loop.invariant.sound }

pub returns-in_err-at : goal.returns-in_err-at
returns-in_err-at c = rw c.from_residual.ensures (entries-bad c.loop.invariant (omega arith) c.entry_text.ensures c.in_err-at.was)

pub loop-preserved : goal.loop-preserved
loop-preserved c = entries_next c.loop.invariant (omega arith) c.entry_text.ensures (omega arith) c.in_ok-at.was c.entry_text.auto.work

pub returns : goal.returns
returns c = entries-done c.loop.invariant (omega arith)

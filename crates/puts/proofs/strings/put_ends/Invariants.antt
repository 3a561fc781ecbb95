use Rattle.std.proofs.Common.{◌<◌, drop}
use Rattle.paper.specs.Numbers.{put_fixed}
use Rattle.paper.specs.Lists.{flat}
use Rattle.lay.specs.Laid.{Leads}
use Rattle.table.specs.View.{strs_of}
use Rattle.puts.specs.Strings.{ends_behind}
use Rattle.puts.proofs.strings.put_ends.Given as goal

abbrev pub invariant-loop-i : goal.invariant-loop-i
invariant-loop-i l = (l.end < 4294967296)
    × Leads l.initial.out l.at (flat (put_fixed 4) (ends_behind 0 (drop l.from (strs_of l.t l.work)))) l.out l.p (flat (put_fixed 4) (ends_behind l.end (drop l.i (strs_of l.t l.work))))

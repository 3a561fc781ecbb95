use Rattle.std.proofs.Common.{drop}
use Rattle.paper.specs.Lists.{flat}
use Rattle.lay.specs.Laid.{Leads}
use Rattle.table.specs.View.{strs_of}
use Rattle.puts.specs.Strings.{bytes_in}
use Rattle.puts.proofs.strings.put_string_bytes.Given as goal

abbrev pub invariant-loop-i : goal.invariant-loop-i
invariant-loop-i l = Leads l.initial.out l.at (flat bytes_in (drop l.from (strs_of l.t l.work))) l.out l.p (flat bytes_in (drop l.i (strs_of l.t l.work)))

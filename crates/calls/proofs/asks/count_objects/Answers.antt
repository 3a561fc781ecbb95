use Rattle.calls.specs.Told.{answer_of, count_none, count-some}
use Rattle.calls.specs.Sought.{no-type, a-type}
use Rattle.paper.specs.Ledger.{objects_of}
use Rattle.calls.proofs.asks.count_objects.Goals as goal

pub returns-in_default : goal.returns-in_default
unfolding answer_of
returns-in_default c = count_none _ _ (no-type _ _ _ _ c.find_type_called-a.ensures c.in_default.is)

pub returns : goal.returns
unfolding answer_of objects_of
returns c = count-some _ _ (a-type _ _ _ _ c.find_type_called-a.ensures c.in-Some.is) c.objects_of-count.ensures.value

use Rattle.std.proofs.Common.{arith}
use Rattle.values.specs.Spans.{lendable, lent-own}
use Rattle.values.proofs.maps.ranges_of.Goals as goal

pub offset_bounds-groups-from : goal.offset_bounds-groups-from
offset_bounds-groups-from c = let L = lendable c.args.groups.now.grouped c.span_of-s.ensures in omega (arith, L.rising, L.in-first)

pub slice_bounds-result-count : goal.slice_bounds-result-count
slice_bounds-result-count c = (lendable c.args.groups.now.grouped c.span_of-s.ensures).rising

pub slice_bounds-result-start : goal.slice_bounds-result-start
slice_bounds-result-start c = (lendable c.args.groups.now.grouped c.span_of-s.ensures).rising

pub slice_bounds-result-end : goal.slice_bounds-result-end
slice_bounds-result-end c = (lendable c.args.groups.now.grouped c.span_of-s.ensures).in-first

pub offset_bounds-groups-from-2 : goal.offset_bounds-groups-from-2
offset_bounds-groups-from-2 c = let L = lendable c.args.groups.now.grouped c.span_of-s.ensures in omega (arith, L.rising, L.in-last)

pub slice_bounds-result-count-2 : goal.slice_bounds-result-count-2
slice_bounds-result-count-2 c = (lendable c.args.groups.now.grouped c.span_of-s.ensures).rising

pub slice_bounds-result-start-2 : goal.slice_bounds-result-start-2
slice_bounds-result-start-2 c = (lendable c.args.groups.now.grouped c.span_of-s.ensures).rising

pub slice_bounds-result-end-2 : goal.slice_bounds-result-end-2
slice_bounds-result-end-2 c = (lendable c.args.groups.now.grouped c.span_of-s.ensures).in-last

pub returns : goal.returns
returns c = lent-own _ _ c.span_of-s.ensures

use Rattle.std.proofs.Common.{sym, length-take-le}
use Rattle.streams.specs.Answers.{front-within}
use Rattle.make.proofs.main.Goals as goal

pub slice_bounds-out-end : goal.slice_bounds-out-end
slice_bounds-out-end c = front-within c.answer-count.ensures

pub slice_bounds-write_answer-end : goal.slice_bounds-write_answer-end
slice_bounds-write_answer-end c = sym (length-take-le _ _ (front-within c.answer-count.ensures))

use Rattle.paper.specs.Numbers.{signed}
use Rattle.paper.specs.Listing.{decimalℤ}
use Rattle.show.specs.Single.{line_of}
use Rattle.show.specs.Lines.{number-none, number-shows, v64-shows, one_line}
use Rattle.show.proofs.put_v64_line.Goals as goal

pub returns-in_default : goal.returns-in_default
returns-in_default c = one_line (v64-shows line_of (number-none c.v64.ensures (λ n. line_of (decimalℤ (signed 8 n))) c.in_default.is))

pub returns : goal.returns
returns c = one_line (v64-shows line_of (number-shows c.v64.ensures (λ n. line_of (decimalℤ (signed 8 n))) c.in-Ok.is c.put_integer_line-end.ensures))

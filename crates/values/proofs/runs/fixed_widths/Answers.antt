use Rattle.values.specs.Held.{widths-there, widths-cut}
use Rattle.values.proofs.runs.fixed_widths.Goals as goal

pub returns-then-m-whole : goal.returns-then-m-whole
returns-then-m-whole c = widths-there _ _ _ _ c.requires.0 c.requires.1 c.if-m-whole.true

pub returns : goal.returns
returns c = widths-cut _ _ _ _ c.requires.0 c.requires.1 c.if-m-whole.false

use Rattle.std.proofs.Common.{ap, ◌∙◌, arith, to_z-of_z, w64}
use Rattle.paper.specs.Listing.{decimalℤ}
use Rattle.lay.specs.Laid.{laid_as}
use Rattle.values.specs.Columns.{whole-fits}
use Rattle.show.specs.Lines.{word-flag, word-whole, float_narrow, word-float, word-object}
use Rattle.show.proofs.put_element.Goals as goal

pub overflow_mul-digits : goal.overflow_mul-digits
overflow_mul-digits c = omega (arith, float_narrow c.in-Float.is c.requires)

pub returns-in-Flag : goal.returns-in-Flag
returns-in-Flag c = laid_as c.put.ensures (word-flag _ c.in-Flag.is c.flag_word.ensures)

pub returns-in-Whole : goal.returns-in-Whole
returns-in-Whole c = laid_as c.put_signed.ensures (ap decimalℤ (to_z-of_z {w = w64} (record { sfits = whole-fits c.in-Whole.is c.requires })) ∙ word-whole c.in-Whole.is)

pub returns-in-Float : goal.returns-in-Float
returns-in-Float c = laid_as c.put_hex.ensures (word-float c.in-Float.is (omega arith))

pub returns-in-Object : goal.returns-in-Object
returns-in-Object c = laid_as c.put_decimal.ensures (word-object c.in-Object.is)

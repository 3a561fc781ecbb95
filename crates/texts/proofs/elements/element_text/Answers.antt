use Rattle.std.proofs.Common.{◌∙◌, arith}
use Rattle.values.specs.Listed.{listed-low}
use Rattle.texts.specs.Elements.{reckoned-flag, reckoned-whole, reckoned-f32, reckoned-f64, reckoned-string, reckoned-object, object-kind}
use Rattle.texts.proofs.elements.element_text.Goals as goal

pub returns-in-6 : goal.returns-in-6
returns-in-6 c pools = c.flag.ensures ∙ reckoned-flag _ pools _ _ _ _ _ c.in-6.is

pub returns-in-12 : goal.returns-in-12
returns-in-12 c pools = c.hex.ensures ∙ reckoned-f32 _ pools _ _ _ _ _ c.in-12.is

pub returns-in-13 : goal.returns-in-13
returns-in-13 c pools = c.hex-in-13.ensures ∙ reckoned-f64 _ pools _ _ _ _ _ c.in-13.is

pub returns-in-14 : goal.returns-in-14
returns-in-14 c pools = c.string_number.ensures ∙ reckoned-string _ pools _ _ _ _ _ c.in-14.is

pub returns-in-7-to-11 : goal.returns-in-7-to-11
returns-in-7-to-11 c pools = c.whole.ensures _ c.half.ensures.0 ∙ reckoned-whole _ pools _ _ _ _ _ (omega arith) (omega arith)

pub returns-in_default : goal.returns-in_default
returns-in_default c pools = c.object_number.ensures ∙ reckoned-object _ pools _ _ _ _ _ (object-kind _ c.requires (omega (arith, listed-low c.args.e c.requires)) (λ q. omega arith) (λ q. omega arith) (λ q. omega arith))

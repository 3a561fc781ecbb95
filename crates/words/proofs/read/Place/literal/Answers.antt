use Rattle.std.proofs.Common.{sym, refl, ◌∙◌, arith}
use Rattle.words.specs.ReadBytes.{literal-on, literal-not, literal-over}
use Rattle.words.proofs.read.Place.literal.Goals as goal

pub loop-b-init : goal.loop-b-init
loop-b-init c = refl

pub returns-in_err-p : goal.returns-in_err-p
returns-in_err-p c = rw c.from_residual.ensures (sym (literal-not c.args.t.now c.args.w.now c.loop-b.p.at c.loop-b.b-index (omega arith) (rw c.from.ensures at c.in_err-p.ensures)) ∙ c.loop-b.invariant)

pub loop-b-preserved : goal.loop-b-preserved
loop-b-preserved c = sym (literal-on c.args.t.now c.args.w.now c.loop-b.p.at c.loop-b.b-index (omega arith) (rw c.from.ensures at c.in_ok-p.ensures)) ∙ c.loop-b.invariant

pub returns : goal.returns
returns c = sym (literal-over c.args.w.now c.args.t.now c.loop-b.b-index c.loop-b.p.at (omega arith)) ∙ c.loop-b.invariant

use Rattle.std.proofs.Common.{◌<◌, sym, refl, ap, ◌∙◌, arith, to_z-of_z, w64}
use Rattle.values.specs.Listed.{listed-low}
use Rattle.paper.specs.Reader.{when◌then◌else◌}
use Rattle.paper.specs.Ledger.{whole}
use Rattle.values.specs.Bare.{made, made-whole, made-link, bound-link, bound_of}
use Rattle.values.specs.Columns.{held, element_of, Storable}
use Rattle.values.proofs.columns.value_of.Goals as goal

pub returns-in-6 : goal.returns-in-6
unfolding made element_of Storable when◌then◌else◌
returns-in-6 c = (rw c.in-6.is, tt)

pub returns-in-12 : goal.returns-in-12
unfolding made element_of Storable bound_of when◌then◌else◌
returns-in-12 c = (rw c.in-12.is, λ h. (refl, rw c.in-12.is at c.requires.1))

pub returns-in-13 : goal.returns-in-13
unfolding made element_of Storable when◌then◌else◌
returns-in-13 c = (rw c.in-13.is, λ h. absurd (h refl))

pub returns-in-7-to-11 : goal.returns-in-7-to-11
unfolding element_of Storable
returns-in-7-to-11 c = (ap whole (held c.whole.type_inv c.whole.ensures) ∙ sym (made-whole c.args.k c.args.n (omega arith) (omega arith)), rw (to_z-of_z {w = w64} (record { sfits = c.whole.type_inv })) c.whole.type_inv)

pub returns-in_default : goal.returns-in_default
returns-in_default c = absurd (omega (arith, listed-low c.args.k c.requires.0))

pub returns-in_default-2 : goal.returns-in_default-2
unfolding element_of Storable
returns-in_default-2 c = let h : 13 < c.args.k = omega arith in
    (sym (made-link c.args.k h c.args.n), rw (bound-link c.args.k h) at c.requires.1)

use Rattle.std.proofs.Common.{sym, ◌∙◌, arith}
use native.Mathlib.Nat.{sub-zero}
use Rattle.words.specs.ReadHexes.{inside, hex-on, hex-not, hex-all, hex-room, hex-grows}
use Rattle.words.proofs.read.hex_in_turn.Goals as goal

pub loop-i-init : goal.loop-i-init
loop-i-init c = record { small = omega arith; same = rw sub-zero }

pub returns-in_err-d : goal.returns-in_err-d
returns-in_err-d c = rw c.from_residual.ensures (sym (hex-not c.peek.ensures (sym c.in_err-d.ensures) _ c.loop-i._i c.loop-i.v (omega arith) (omega arith)) ∙ c.loop-i.invariant.same)

pub overflow_mul-v : goal.overflow_mul-v
overflow_mul-v c = let h = hex-room c.loop-i._i c.loop-i.v c.in_ok-d.d c.loop-i.invariant.small c.in_ok-d.ensures.1 (omega arith) in omega arith

pub overflow_add-v : goal.overflow_add-v
overflow_add-v c = let h = hex-room c.loop-i._i c.loop-i.v c.in_ok-d.d c.loop-i.invariant.small c.in_ok-d.ensures.1 (omega arith) in omega arith

pub overflow_add-p : goal.overflow_add-p
overflow_add-p c = let h = inside c.peek.ensures c.in_ok-d.ensures.0 (λ e. omega (arith, c.in_ok-d.ensures.1)) in omega arith

pub loop-i-preserved : goal.loop-i-preserved
loop-i-preserved c =
    record {
      small = hex-grows c.loop-i._i c.loop-i.v c.in_ok-d.d c.loop-i.invariant.small c.in_ok-d.ensures.1;
      same = sym (hex-on c.peek.ensures c.in_ok-d.ensures.0 _ c.loop-i._i c.loop-i.v (omega arith) c.in_ok-d.ensures.1) ∙ c.loop-i.invariant.same;
    }

pub returns : goal.returns
returns c = sym (hex-all _ c.loop-i._i c.loop-i.v _ c.loop-i.p (omega arith)) ∙ c.loop-i.invariant.same

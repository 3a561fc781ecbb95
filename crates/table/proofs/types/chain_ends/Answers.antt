-- `table::types::chain_ends` meets its contract. Assumes nothing.
use Rattle.std.proofs.Common.{◌≡◌, ℕ, ◌+◌, ◌-◌, sym, ap, ◌∙◌, arith}
use Rattle.paper.specs.Rules.{chain_ends?}
use Rattle.table.specs.View.{maybe, types_of}
use Rattle.table.specs.Below.{chain-none, chain-meets, chain-on, chain-over}
use Rattle.table.proofs.types.chain_ends.Goals as goal

pub returns-then-above-eq0 : goal.returns-then-above-eq0
returns-then-above-eq0 c = sym (c.loop.invariant ∙ chain-none (types_of c.args.work.now) c.args.t (c.types-end.result - c.loop.counter) c.loop.above (omega arith) c.if-above-eq0.true)

pub returns-then-u-t : goal.returns-then-u-t
returns-then-u-t c = sym (c.loop.invariant ∙ chain-meets (types_of c.args.work.now) c.args.t (c.types-end.result - c.loop.counter) c.loop.above (omega arith) (omega arith) c.if-u-t.true)

pub loop-preserved : goal.loop-preserved
loop-preserved c = let ts = types_of c.args.work.now in
    let left = c.types-end.result - c.loop.counter in
    let fewer : left - 1 ≡ c.types-end.result - (c.loop.counter + 1) = omega arith in
    c.loop.invariant
    ∙ chain-on ts c.args.t left c.loop.above c.super_of-above.result (omega arith) (omega arith) c.if-u-t.false c.super_of-above.ensures
    ∙ ap (λ (k : ℕ). chain_ends? k ts c.args.t (maybe c.super_of-above.result)) fewer

pub returns : goal.returns
returns c = chain-over (types_of c.args.work.now) c.args.t (c.types-end.result - c.loop.counter) c.loop.above (omega arith) ∙ sym c.loop.invariant

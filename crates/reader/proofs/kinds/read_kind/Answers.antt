use Rattle.std.proofs.Common.{arith, sym, ◌∙◌}
use Rattle.numbers.specs.Cursors.{handed}
use Rattle.reader.specs.KindLaws.{named-low, single-gap, long-gap, kind-no, kind-unlisted, kind-unnamed, kind-is-constant, kind-is-array, kind-is-many, kind-is-map, kind-is-low, kind-is-type}
use Rattle.reader.proofs.kinds.read_kind.Goals as goal

pub returns-in_err-k : goal.returns-in_err-k
returns-in_err-k c = rw (handed c.from_residual.ensures.1) (kind-no _ c.v64.ensures c.in_err-k.was)

pub many-requires : goal.many-requires
many-requires c = (omega arith, omega arith)

pub returns-then-is_named : goal.returns-then-is_named
returns-then-is_named c = kind-is-type _ c.v64.ensures c.in_ok-k.was (sym c.if-is_named.true ∙ c.is_named.ensures) (omega arith)

pub returns-in-15 : goal.returns-in-15
returns-in-15 c = kind-is-array _ c.v64.ensures c.in_ok-k.was (named-low _ _ _ (omega arith)) c.in-15.is c.array.ensures

pub returns-in-20 : goal.returns-in-20
returns-in-20 c = kind-is-map _ c.v64.ensures c.in_ok-k.was (named-low _ _ _ (omega arith)) c.in-20.is c.mapping.ensures

pub returns-in-0-to-4 : goal.returns-in-0-to-4
returns-in-0-to-4 c = kind-is-constant _ c.v64.ensures c.in_ok-k.was (named-low _ _ _ (omega arith)) (omega arith) c.constant.ensures

pub returns-in-5-to-14 : goal.returns-in-5-to-14
returns-in-5-to-14 c = kind-is-low _ c.v64.ensures c.in_ok-k.was (named-low _ _ _ (omega arith)) (omega arith) (omega arith)

pub returns-in-17-to-19 : goal.returns-in-17-to-19
returns-in-17-to-19 c = kind-is-many _ c.v64.ensures c.in_ok-k.was (named-low _ _ _ (omega arith)) (omega arith) (omega arith) c.many.ensures

pub returns-else-is_named : goal.returns-else-is_named
returns-else-is_named c = kind-unnamed _ c.v64.ensures c.in_ok-k.was (omega arith) (sym c.if-is_named.false ∙ c.is_named.ensures)

pub returns-in-16 : goal.returns-in-16
returns-in-16 c = kind-unlisted _ c.v64.ensures c.in_ok-k.was (single-gap _ c.in-16.in-16-own.keys3)

pub returns-in-16-2 : goal.returns-in-16-2
returns-in-16-2 c = kind-unlisted _ c.v64.ensures c.in_ok-k.was (long-gap _ (omega arith) (omega arith))

use Rattle.std.proofs.Common.{refl}
use Rattle.values.specs.Listed.{listed-low, single-5, other-single}
use Rattle.texts.specs.Elements.{kept-writes}
use Rattle.texts.specs.Told.{takes, refuses}
use Rattle.texts.specs.Chunks.{next-noted, next-no-tab, next-no-word, next_fits, next-lays}
use Rattle.texts.proofs.next_element.Goals as goal

pub returns-in_err-word : goal.returns-in_err-word
returns-in_err-word c = rw c.from_residual.ensures (refuses (next-no-tab _ _ _ _ (rw c.in_err-word.was at c.byte.ensures)))

pub returns-then-e-eq5 : goal.returns-then-e-eq5
returns-then-e-eq5 c = next-noted _ _ _ _ _ c.if-e-eq5.true (rw c.in_ok-word.was at c.byte.ensures) c.annotation_text.ensures

pub element_text-requires : goal.element_text-requires
element_text-requires c = other-single _ c.requires c.if-e-eq5.false

pub returns-in_err-n : goal.returns-in_err-n
returns-in_err-n c = rw c.from_residual-in_err-n.ensures (refuses (next-no-word _ _ _ _ (rw c.in_ok-word.was at c.byte.ensures) (rw c.in_err-n.was at (c.element_text.ensures c.args.pools.now))))

pub put_bits-end-requires : goal.put_bits-end-requires
put_bits-end-requires c = (listed-low _ (other-single _ c.requires c.if-e-eq5.false), next_fits _ _ _ _ (rw c.in_ok-word.was at c.byte.ensures) (rw c.in_ok-n.was at (c.element_text.ensures c.args.pools.now)) (kept-writes _ _ _ _ _ (single-5 _ (other-single _ c.requires c.if-e-eq5.false))))

pub returns : goal.returns
returns c = takes _ (next-lays _ _ _ _ (rw c.in_ok-word.was at c.byte.ensures) (rw c.in_ok-n.was at (c.element_text.ensures c.args.pools.now)) (kept-writes _ _ _ _ _ (single-5 _ (other-single _ c.requires c.if-e-eq5.false))) _ refl refl c.put_bits-end.ensures)

use Rattle.std.proofs.Common.{◌∙◌, w64}
use mir.Facts.{to_z_pos}
use Rattle.values.specs.Columns.{held, store_true, store-false, store-whole, whole-fits, store-f64, store-f32, bits_fit, store-object, object-fits}
use Rattle.values.proofs.columns.store.Goals as goal

pub f32_stored-requires : goal.f32_stored-requires
f32_stored-requires c = bits_fit c.in-Float.is c.if-width-eq8.false c.requires

pub overflow_cast-result : goal.overflow_cast-result
overflow_cast-result c = record { sfits = object-fits c.in-Object.is c.requires }

pub returns-then-b : goal.returns-then-b
returns-then-b c = store_true c.in-Flag.is c.if-b.true

pub returns-else-b : goal.returns-else-b
returns-else-b c = store-false c.in-Flag.is c.if-b.false

pub returns-in-Whole : goal.returns-in-Whole
returns-in-Whole c = held (whole-fits c.in-Whole.is c.requires) (store-whole c.in-Whole.is)

pub returns-then-width-eq8 : goal.returns-then-width-eq8
returns-then-width-eq8 c = held c.f64_stored.type_inv c.f64_stored.ensures ∙ store-f64 c.in-Float.is c.if-width-eq8.true

pub returns-else-width-eq8 : goal.returns-else-width-eq8
returns-else-width-eq8 c = held c.f32_stored.type_inv c.f32_stored.ensures ∙ store-f32 c.in-Float.is c.if-width-eq8.false c.requires

pub returns-in-Object : goal.returns-in-Object
returns-in-Object c = to_z_pos w64 (object-fits c.in-Object.is c.requires) ∙ store-object c.in-Object.is

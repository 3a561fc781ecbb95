use Rattle.std.proofs.Common.{refl}
use Rattle.listing.specs.Entries.{entered-read, olds-kept, entry-no-count, entry-few, entry-cut, entry-printed}
use Rattle.listing.proofs.entries.print_entry.Goals as goal

pub returns-in_default : goal.returns-in_default
returns-in_default c = λ l from e. entry-no-count _ _ (entered-read e) refl c.v64-a.ensures c.in_default.is

pub returns-then-n-known : goal.returns-then-n-known
returns-then-n-known c = λ l from e. entry-few _ _ (entered-read e) refl c.v64-a.ensures c.in-Ok.is (olds-kept e (c.known_fields-known.ensures _)) c.if-n-known.true

pub returns-in_default-all : goal.returns-in_default-all
returns-in_default-all c = λ l from e. entry-cut _ _ (entered-read e) refl c.v64-a.ensures c.in-Ok.is (olds-kept e (c.known_fields-known.ensures _)) c.put_head-behind_head.ensures c.print_fields-all.ensures c.in_default-all.is

pub returns : goal.returns
returns c = λ l from e. entry-printed _ _ (entered-read e) refl c.v64-a.ensures c.in-Ok.is (olds-kept e (c.known_fields-known.ensures _)) c.put_head-behind_head.ensures c.print_fields-all.ensures c.in-Ok-all.is

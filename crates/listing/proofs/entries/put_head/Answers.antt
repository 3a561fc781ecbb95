use Rattle.listing.proofs.entries.put_head.Goals as goal

pub returns : goal.returns
returns c = rw (c.super_word-sup.ensures, c.start_word-start.ensures) at c.put_type.ensures

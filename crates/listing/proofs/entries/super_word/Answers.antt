use Rattle.listing.proofs.entries.super_word.Goals as goal

pub returns-then-name : goal.returns-then-name
returns-then-name c = rw c.if-name.true

use Rattle.words.proofs.write.put_glyph.Goals as goal

pub returns : goal.returns
returns c = rw (← c.glyph_of.ensures) c.put.ensures

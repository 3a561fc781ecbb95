use Rattle.words.proofs.read.Place.hex.Goals as goal

pub hex_value-requires : goal.hex_value-requires
hex_value-requires c = (c.digits_there.ensures c.if-digits_there.true, c.requires)

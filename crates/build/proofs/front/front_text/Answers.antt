use Rattle.build.specs.FrontTold.{front-no-line, front-many, front-room, front-no-strings, front-sound, front-no-entries, front-no-kinds, front-got}
use Rattle.build.proofs.front.front_text.Goals as goal

pub returns-in_err-n : goal.returns-in_err-n
returns-in_err-n c = rw c.from_residual.ensures (front-no-line c.requires c.pair_line.ensures c.in_err-n.was)

pub returns-then-not-few : goal.returns-then-not-few
returns-then-not-few c = front-many c.requires c.pair_line.ensures c.in_ok-n.was c.few.ensures c.if-not-few.true-raw

pub strings_text-requires : goal.strings_text-requires
strings_text-requires c = record { holds = c.requires.steady.holds; n_bound = front-room c.requires c.pair_line.ensures c.in_ok-n.was c.few.ensures c.if-not-few.false-raw }

pub returns-in_err-from : goal.returns-in_err-from
returns-in_err-from c = rw c.from_residual-in_err-from.ensures (front-no-strings c.requires c.pair_line.ensures c.in_ok-n.was c.few.ensures c.if-not-few.false-raw c.strings_text.ensures c.in_err-from.was)

pub entries_text-requires : goal.entries_text-requires
entries_text-requires c = record { holds = c.strings_text.ensures.holds; sound = front-sound c.requires c.pair_line.ensures c.in_ok-n.was c.few.ensures c.if-not-few.false-raw c.strings_text.ensures c.in_ok-from.was }

pub returns-in_err-values : goal.returns-in_err-values
returns-in_err-values c = rw c.from_residual-in_err-values.ensures (front-no-entries c.requires c.pair_line.ensures c.in_ok-n.was c.few.ensures c.if-not-few.false-raw c.strings_text.ensures c.in_ok-from.was c.entries_text.ensures c.in_err-values.was)

pub returns-then-not-kinds_stand : goal.returns-then-not-kinds_stand
returns-then-not-kinds_stand c = front-no-kinds c.requires c.pair_line.ensures c.in_ok-n.was c.few.ensures c.if-not-few.false-raw c.strings_text.ensures c.in_ok-from.was c.entries_text.ensures c.in_ok-values.was c.fields-known.ensures c.kinds_stand.ensures c.if-not-kinds_stand.true-raw

pub returns : goal.returns
returns c = front-got c.requires c.pair_line.ensures c.in_ok-n.was c.few.ensures c.if-not-few.false-raw c.strings_text.ensures c.in_ok-from.was c.entries_text.ensures c.in_ok-values.was c.fields-known.ensures c.kinds_stand.ensures c.if-not-kinds_stand.false-raw

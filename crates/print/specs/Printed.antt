-- What the program writes for its input. Assumes nothing.
use Rattle.std.specs.Prelude.{◌≡◌, List, ℕ, ◌+◌, ◌≤◌, ◌<◌, length, take, Result}
use Rattle.paper.specs.Bounds.{table_length, most_input, most_output}
use Rattle.paper.specs.Calls.{listing, after_listing}
use Rattle.lay.specs.Laid.{Laid}
use Rattle.calls.specs.Told.{after}
use Rattle.calls.specs.declared.replies.Refused.{Refused}
use Rattle.streams.specs.Answers.{refusal_line, written_by, AtFront, Told, written-front, written-long, written-told}

-- what the program writes: the listing, as far as the bounds of the programs let it
unfoldable pub printed : List ℕ → List ℕ
printed input = written_by (listing most_output table_length) input

-- one byte more than is taken is enough to know that there are too many
pub printed-front : (f : List ℕ) → printed (take (most_input + 1) f) ≡ printed f
unfolding printed
printed-front f = written-front (listing most_output table_length) f

-- ── the ways out ──

module _ (f out : List ℕ) {m : List ℕ} {r : ℕ} (room : length out ≡ most_output) where
  pub answer-long : most_input < length f → (n : ℕ) → n ≡ 3 → Laid out 0 (refusal_line n) m r → AtFront (printed f) out m r
  unfolding printed
  answer-long = written-long (listing most_output table_length) f out room

  -- the call has answered, lent a table of this length
  pub answer-told :
      length f ≤ most_input → (work : List ℕ) → length work ≡ table_length → (a : Result ℕ Refused) {w o : List ℕ} → after a w o ≡ after_listing f work out → Told a o m r
      → AtFront (printed f) out m r
  unfolding printed after_listing
  answer-told short work table a L T = written-told (listing most_output table_length) f out room short work a (rw (table, room) at L) T

-- What the program writes for its input. Assumes nothing.
use Rattle.std.specs.Prelude.{◌≡◌, List, ℕ, ◌+◌, ◌≤◌, ◌<◌, length, take, Result}
use Rattle.paper.specs.Bounds.{table_length, most_input, most_output}
use Rattle.paper.specs.Calls.{build, after_build}
use Rattle.lay.specs.Laid.{Laid}
use Rattle.calls.specs.Told.{after}
use Rattle.calls.specs.declared.replies.Refused.{Refused}
use Rattle.streams.specs.Answers.{refusal_line, written_by, AtFront, Told, written-front, written-long, written-told}

-- what the program writes: the file of a listing, as far as the bounds of the programs let it
unfoldable pub made : List ℕ → List ℕ
made input = written_by (build most_output table_length) input

-- one byte more than is taken is enough to know that there are too many
pub made-front : (text : List ℕ) → made (take (most_input + 1) text) ≡ made text
unfolding made
made-front text = written-front (build most_output table_length) text

-- ── the ways out ──

module _ (text out : List ℕ) {m : List ℕ} {r : ℕ} (room : length out ≡ most_output) where
  pub answer-long : most_input < length text → (n : ℕ) → n ≡ 3 → Laid out 0 (refusal_line n) m r → AtFront (made text) out m r
  unfolding made
  answer-long = written-long (build most_output table_length) text out room

  -- the call has answered, lent a table of this length
  pub answer-told :
      length text ≤ most_input → (work : List ℕ) → length work ≡ table_length → (a : Result ℕ Refused) {w o : List ℕ} → after a w o ≡ after_build text work out → Told a o m r
      → AtFront (made text) out m r
  unfolding made after_build
  answer-told short work table a L T = written-told (build most_output table_length) text out room short work a (rw (table, room) at L) T

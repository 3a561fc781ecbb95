-- What a program writes for its input: the text of its call's answer, or the line of a refusal. Assumes nothing.
use Rattle.std.proofs.Math.Path.{◌≡◌, ap}
use Rattle.std.proofs.Common.{sym, ◌∙◌, arith, pow-suc, lt_of_not-le, length-append, length-take, take_all, le-leb, lt-ltb, le-ltb}
use mathlib.Core.List.{List, [], ◌∷◌, ◌++◌}
use Rattle.std.specs.Prelude.{ℕ, zero, suc, ◌+◌, ◌/◌, ◌^◌, ◌≤◌, ◌<◌, leb, take, Result, Ok, Err}
use Rattle.std.proofs.Math.Decide.{dec_le}
use Rattle.std.proofs.Math.ListN.{length}
use Rattle.std.proofs.lemmas.Bool.{lt-leb}
use Rattle.paper.specs.Reader.{when◌then◌else◌}
use Rattle.paper.specs.Bounds.{most_input, most_output}
use Rattle.paper.specs.Listing.{ascii, tab, newline, shown, decimal, line}
use Rattle.paper.specs.Calls.{Answer, done, refused, Left, over_front, left_in, how_many, writes}
use Rattle.lay.specs.Laid.{most, Laid, laid_then, laid_as}
use Rattle.values.specs.Filling.{sets-front}
use Rattle.calls.specs.Told.{answer_of, after, Wrote}
use Rattle.calls.specs.declared.replies.Refused.{Refused}

-- `refused`, a tab, the number and a newline
unfoldable pub refusal_line : ℕ → List ℕ
refusal_line n = line (ascii "refused" ∷ decimal n ∷ [])

-- the text of an answer: that of the call, or the line of its refusal
unfoldable pub told : Answer (List ℕ) → List ℕ
told (done text) = text
told (refused n) = refusal_line n

-- what a program writes that gives its input to this call
unfoldable pub written_by : (List ℕ → Answer (List ℕ)) → List ℕ → List ℕ
written_by call input = when leb (length input) most_input then told (call input) else refusal_line 3

-- the text stands at the front of the output, the rest as lent, and its length is the answer
pub record AtFront (text out out' : List ℕ) (r : ℕ) : Type 0 where
  pub bytes : out' ≡ over_front text out
  pub count : r ≡ length text

-- so one output and one length
pub one-front : {text out o p : List ℕ} {r q : ℕ} → AtFront text out o r → AtFront text out p q → (o ≡ p) × (r ≡ q)
one-front a b = (a.bytes ∙ sym b.bytes, a.count ∙ sym b.count)

-- whichever call replied so and left the output so: the text of its answer is now at the front of what was lent to it
pub record Told (a : Result ℕ Refused) (left out' : List ℕ) (r : ℕ) : Type 0 where
  pub tells : (x : Answer (List ℕ)) (out : List ℕ) → length out ≡ most_output → Wrote x out a left → AtFront (told x) out out' r

-- ── one byte more than is taken is enough to know that there are too many ──

pub written-front : (call : List ℕ → Answer (List ℕ)) (f : List ℕ) → written_by call (take (most_input + 1) f) ≡ written_by call f
unfolding written_by when◌then◌else◌
written-front call f =
    elim (dec_le (length f) most_input) [
      | yes d ↦ rw (take_all (most_input + 1) f (omega arith))
      | no d ↦
          (let many : most_input < length f = lt_of_not-le d in
          let cut : most_input < length (take (most_input + 1) f) = rw length-take (omega arith) in
          rw (lt-leb (length f) most_input many, lt-leb (length (take (most_input + 1) f)) most_input cut))
    ]

-- ── the line of a refusal, as code lays it ──

module _ (n : ℕ) {l m₁ m₂ m v w : List ℕ} {p₁ p₂ r : ℕ} where
  pub refusal-laid :
      Laid l 0 v m₁ p₁ → Laid m₁ p₁ (decimal n) m₂ p₂ → Laid m₂ p₂ w m r → v ≡ ascii "refused" ++ tab ∷ [] → w ≡ newline ∷ [] → Laid l 0 (refusal_line n) m r
  unfolding refusal_line line ascii
  refusal-laid a b c first last = laid_then (laid_as a first) (laid_then b (laid_as c last))

shown-short : (j k n : ℕ) → n < 10 ^ suc k → length (shown j n) ≤ suc k
unfolding shown
shown-short zero k n h = omega arith
shown-short (suc j) zero n h = rw (lt-ltb n 10 (omega arith), shown) (omega arith)
shown-short (suc j) (suc k) n h =
    elim (dec_le 10 n) [
      | yes d ↦
          (let first : n / 10 < 10 ^ suc k = (let z = rw pow-suc at h in omega arith) in
          rw (le-ltb n 10 d, shown, length-append) (omega (arith, shown-short j k (n / 10) first)))
      | no d ↦ rw (lt-ltb n 10 (lt_of_not-le d), shown) (omega arith)
    ]

refusal-short : (n : ℕ) → n < 2 ^ 64 → length (refusal_line n) ≤ 29
unfolding refusal_line line ascii decimal
refusal-short n h = simp length-append (omega (arith, shown-short (n + 1) 19 n (omega arith)))

refusal-first :
    {out m : List ℕ} {r : ℕ} (n : ℕ) → length out ≡ most_output → n < 2 ^ 64 → Laid out 0 (refusal_line n) m r → AtFront (refusal_line n) out m r
unfolding most
refusal-first {out} {m} {r} n room small L =
    let short = refusal-short n small in
    record { bytes = L.bytes ∙ sets-front (refusal_line n) out (omega arith); count = omega (arith, L.next) }

-- ── a reply, told ──

module _ {a : Result ℕ Refused} {left out' : List ℕ} {n r : ℕ} where
  pub told-done : a ≡ Ok n → r ≡ n → out' ≡ left → Told a left out' r
  unfolding answer_of how_many left_in told
  told-done is same stands = record { tells = λ x out room W. go x out (rw is at W.says) W.left }
    where
      go : (x : Answer (List ℕ)) (out : List ℕ) → done n ≡ how_many x → left ≡ left_in out x → AtFront (told x) out out' r
      go (done text) out e h = record { bytes = stands ∙ h; count = cc }
      go (refused k) out e h = let z : ◌≡◌ {A = ℕ} 0 1 = cc in absurd (omega arith)

  pub told-refused : a ≡ Err (record { number = n }) → n < 2 ^ 64 → (k : ℕ) → k ≡ n → Laid left 0 (refusal_line k) out' r → Told a left out' r
  unfolding answer_of how_many left_in told
  told-refused is small k same L = record { tells = λ x out room W. go x out room (rw is at W.says) W.left }
    where
      go : (x : Answer (List ℕ)) (out : List ℕ) → length out ≡ most_output → refused n ≡ how_many x → left ≡ left_in out x → AtFront (told x) out out' r
      go (done text) out room e h = let z : ◌≡◌ {A = ℕ} 0 1 = cc in absurd (omega arith)
      go (refused j) out room e h =
          let it : k ≡ j = cc in
          rw (← it) (refusal-first k room (omega arith) (rw h at L))

-- ── the ways out of a program over a call ──

module _ (call : List ℕ → Answer (List ℕ)) (f out : List ℕ) {m : List ℕ} {r : ℕ} (room : length out ≡ most_output) where
  pub written-long : most_input < length f → (n : ℕ) → n ≡ 3 → Laid out 0 (refusal_line n) m r → AtFront (written_by call f) out m r
  unfolding written_by when◌then◌else◌
  written-long h n is L = rw (lt-leb (length f) most_input h, ← is) (refusal-first n room (omega arith) L)

  pub written-told :
      length f ≤ most_input → (work : List ℕ) (a : Result ℕ Refused) {w o : List ℕ} → after a w o ≡ writes (call f) work out → Told a o m r → AtFront (written_by call f) out m r
  unfolding written_by when◌then◌else◌ writes
  written-told short work a L T =
      rw
      (le-leb (length f) most_input short)
      (T.tells (call f) out room (record { says = ap (λ (x : Left ℕ). x.answer) L; left = ap (λ (x : Left ℕ). x.output) L }))

-- the program writes no more than there is room for
pub front-within : {text out out' : List ℕ} {r : ℕ} → AtFront text out out' r → r ≤ length out'
unfolding over_front
front-within {text} {out} {out'} {r} F = let n = rw length-append at (ap length F.bytes) in omega arith

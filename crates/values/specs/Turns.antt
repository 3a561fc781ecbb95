-- Readings one after the other as a loop counts them: of n there are i behind it. Assumes nothing.
use Rattle.std.specs.Prelude.{Ok, Err, ◌≡◌, ℕ, ◌+◌, ◌-◌, ◌<◌, ◌≤◌, List}
use Rattle.std.proofs.Common.{arith}
use Rattle.paper.specs.Reader.{Reader, repeat}
use Rattle.numbers.specs.Cursors.{Outcome, Step, Past}
use Rattle.numbers.specs.declared.Cursor.{Cursor}
use Rattle.numbers.specs.declared.Refusal.{Refusal}
use Rattle.values.specs.Pass.{Passed, Running, running-start, running-done, running-next, running-no, running-past, running-stop}

-- what is left to read from here gives the whole
abbrev pub Turning : {A : Type 0} → Reader A → List ℕ → ℕ → ℕ → ℕ → ℕ → Type 0
Turning r f n from i at = Running r f n from (n - i) at

pub turning-start : {A : Type 0} (r : Reader A) (f : List ℕ) (n from : ℕ) → Turning r f n from 0 from
turning-start r f n from = let all : n - 0 ≡ n = omega arith in rw all (running-start r f n from)

module _ {A : Type 0} {r : Reader A} {f : List ℕ} {n from i at : ℕ} (R : Turning r f n from i at) where
  pub turning-done : (x : ℕ) → n ≤ i → Passed (repeat n r) f from (Ok (x, record { at = at }))
  turning-done x h = running-done R x (omega arith)

  module _ (due : i < n) {a : Outcome ℕ} (one : Passed r f at a) where
    pub turning-next : {x : ℕ} {c : Cursor} → a ≡ Ok (x, c) → Turning r f n from (i + 1) c.at
    turning-next is = let less : n - (i + 1) ≡ n - i - 1 = omega arith in rw less (running-next R (omega arith) one is)

    pub turning-no : {e : Refusal} → a ≡ Err e → Passed (repeat n r) f from (Err e)
    turning-no is = running-no R (omega arith) one is

-- the same, where only the cursor behind one is answered
module _ {r : Reader ℕ} {f : List ℕ} {n from i at : ℕ} (R : Turning r f n from i at) (due : i < n) {a : Step} (one : Past r f at a) where
  pub turning-past : {c : Cursor} → a ≡ Ok c → Turning r f n from (i + 1) c.at
  turning-past is = let less : n - (i + 1) ≡ n - i - 1 = omega arith in rw less (running-past R (omega arith) one is)

  pub turning-stop : {e : Refusal} → a ≡ Err e → Passed (repeat n r) f from (Err e)
  turning-stop is = running-stop R (omega arith) one is

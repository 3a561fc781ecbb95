-- A number that is held to rules, wherever it comes from: the ways out, once for all rules. Assumes nothing.
use Rattle.std.specs.Prelude.{Ok, Err, ◌≡◌, refl, true, false, List, [], ◌∷◌, ℕ, ◌≤◌, ◌<◌, ◌^◌, length}
use Rattle.std.proofs.Common.{sym, ap, ◌∙◌, arith}
use Rattle.paper.specs.Reader.{Reader, Out, got, no, hold, must, Rule, ◌or_no◌}
use Rattle.paper.specs.Numbers.{v64, number}
use Rattle.numbers.specs.Cursors.{Read, out_of, place_of, value_of, was-got, Outcome}
use Rattle.numbers.specs.Faults.{number_of}
use Rattle.numbers.specs.declared.Fault.{Fault}
use Rattle.numbers.specs.Ruled.{ruled-is, read_no}
use Rattle.numbers.specs.declared.Cursor.{Cursor}
use Rattle.numbers.specs.declared.Refusal.{Refusal}
use Rattle.laws.specs.Says.{Held}

-- ── a number, wherever it comes from ──

-- the answer is what the rules make of the number n that began at `at` and has `next` behind it
pub record Judged (rules : ℕ → List Rule) (n at next : ℕ) (r : Outcome ℕ) : Type 0 where
  pub says : out_of r ≡ hold (rules n) at (got n next)
  pub inside : (m : ℕ) → at ≤ m → next ≤ m → place_of r ≤ m

pub refused-not-got {ℓ} : {A : Type 0} {X : Type ℓ} {n p : ℕ} {v : A} {e : ℕ} → ◌≡◌ {A = Out A} (no n p) (got v e) → X
refused-not-got q = let z : ◌≡◌ {A = ℕ} 0 1 = cc q in absurd (omega arith)

pub held : {A : Type 0} (rs : List Rule) (p : ℕ) (a v : A) (m e : ℕ) → hold rs p (got a m) ≡ got v e → (a ≡ v) × Held rs
held [] p a v m e h = let z : a ≡ v = cc h in (z, tt)
held ((true or_no n) ∷ rs) p a v m e h = let r = held rs p a v m e h in (r.0, (refl, r.1))
held ((false or_no n) ∷ rs) p a v m e h = refused-not-got h

module _ (rules : ℕ → List Rule) {n at next : ℕ} where
  -- a broken rule
  pub judged-bad : {k : Fault} → hold {A = ℕ} (rules n) at (got n next) ≡ no (number_of k) at → Judged rules n at next (Err (record { fault = k; place = at }))
  judged-bad h = record { says = sym h; inside = λ m lo hi. lo }

  -- all rules hold
  pub judged-got : {c : Cursor} → c.at ≡ next → hold {A = ℕ} (rules n) at (got n next) ≡ got n next → Judged rules n at next (Ok (n, c))
  judged-got here h = record { says = ap (got n) here ∙ sym h; inside = λ m lo hi. rw here hi }

  -- a number that is taken is the one that was given
  pub judged-below : {r : Outcome ℕ} → Judged rules n at next r → {d : ℕ} → 0 < d → n < d → value_of r < d
  judged-below {r} j {d} pos lt = go r j.says
    where
      go : (r : Outcome ℕ) → out_of r ≡ hold (rules n) at (got n next) → value_of r < d
      go (Ok (x, c)) q = let same : n ≡ x = (held (rules n) at n x next c.at (sym q)).0 in omega arith
      go (Err e) q = pos

-- ── a number that was read ──

module _ {r : Reader ℕ} {b : ℕ} {f : List ℕ} {at : ℕ} {a : Outcome ℕ} (read : Read r b f at a) (rules : ℕ → List Rule) where
  -- what is made of a number, wherever it comes from, is made of one that was read
  pub read-judged : {n : ℕ} {c : Cursor} → a ≡ Ok (n, c) → {j : Outcome ℕ} → Judged rules n at c.at j → {d : ℕ} → value_of j < d → Read (must r rules) d f at j
  read-judged is j lt = record { says = j.says ∙ sym (ruled-is read rules is); inside = λ lo. j.inside (length f) lo ((was-got read is).inside lo); below = lt }

module _ {f : List ℕ} {at : ℕ} {a : Outcome ℕ} (read : Read v64 (2 ^ 64) f at a) (rules : ℕ → List Rule) where
  pub number-no : {e : Refusal} → a ≡ Err e → {d : ℕ} → 0 < d → Read (number rules) d f at (Err e)
  unfolding number
  number-no is pos = read_no read rules pos is

  pub number-judged : {n : ℕ} {c : Cursor} → a ≡ Ok (n, c) → {j : Outcome ℕ} → Judged rules n at c.at j → {d : ℕ} → value_of j < d → Read (number rules) d f at j
  unfolding number
  number-judged is j lt = read-judged read rules is j lt

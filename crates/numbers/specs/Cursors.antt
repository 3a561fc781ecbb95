-- What the answer of a cursor says: the outcome of a reading by the definitions. Assumes nothing.
use Rattle.std.proofs.lemmas.Result.{err_from_is_err_and}
use Rattle.std.specs.Prelude.{IsErrAnd, Result, Ok, Err, ◌≡◌, List, ℕ, ◌≤◌, ◌<◌, length}
use Rattle.std.proofs.Common.{sym, ap, ap₂, ◌∙◌, arith}
use Rattle.paper.specs.Reader.{Reader, Out, got, no, and_then}
use Rattle.numbers.specs.declared.Cursor.{Cursor}
use Rattle.numbers.specs.Faults.{number_of, one_fault}
use Rattle.numbers.specs.declared.Fault.{Fault}
use Rattle.numbers.specs.declared.Refusal.{Refusal}

-- what was read, with the cursor behind it, or the refusal
abbrev pub Outcome : Type 0 → Type 0
Outcome A = Result (A × Cursor) Refusal

-- the cursor behind what was passed over, or the refusal
abbrev pub Step : Type 0
Step = Result Cursor Refusal

abbrev pub out_of : Outcome ℕ → Out ℕ
out_of (Ok (x, c)) = got x c.at
out_of (Err e) = no (number_of e.fault) e.place

-- where a number that was read ends; of a refusal, its place
abbrev pub place_of : Outcome ℕ → ℕ
place_of (Ok (x, c)) = c.at
place_of (Err e) = e.place

-- a number that was read; 0 of a refusal
abbrev pub value_of : Outcome ℕ → ℕ
value_of (Ok (x, c)) = x
value_of (Err e) = 0

-- the answer is what the reader `r` gives at `at`; from a place within the file it leads to one, and its value has the bound
pub record Read (r : Reader ℕ) (bound : ℕ) (f : List ℕ) (at : ℕ) (n : Outcome ℕ) : Type 0 where
  pub says : out_of n ≡ r f at
  pub inside : at ≤ length f → place_of n ≤ length f
  pub below : value_of n < bound

-- what `?` hands on is the refusal itself
pub handed : {T : Type 0} {r : Result T Refusal} {e : Refusal} → IsErrAnd r (λ u. u ≡ e) → r ≡ Err e
handed {T} {r} {e} h = let p = err_from_is_err_and r h in p.1 ∙ ap Err p.2

-- ── an answer is determined ──

differ {ℓ} : {X : Type ℓ} → ◌≡◌ {A = ℕ} 0 1 → X
differ z = absurd (omega arith)

pub one_answer : (m n : Outcome ℕ) → out_of m ≡ out_of n → m ≡ n
one_answer (Ok (x, c)) (Ok (y, d)) h =
    let p : x ≡ y = cc in
    let q : c.at ≡ d.at = cc in
    ap Ok (ap₂ (λ (k : ℕ) (m : Cursor). (k, m)) p (ap (λ (k : ℕ). record { at = k }) q))
one_answer (Ok (x, c)) (Err e) h = differ (cc)
one_answer (Err e) (Ok (x, c)) h = differ (cc)
one_answer (Err e) (Err u) h =
    let p : number_of e.fault ≡ number_of u.fault = cc in
    let q : e.place ≡ u.place = cc in
    ap Err (ap₂ (λ (k : Fault) (l : ℕ). record { fault = k; place = l }) (one_fault e.fault u.fault p) q)

pub same_answer : {r : Reader ℕ} {b : ℕ} {f : List ℕ} {at : ℕ} {m n : Outcome ℕ} → Read r b f at m → Read r b f at n → m ≡ n
same_answer {r} {b} {f} {at} {m} {n} M N = one_answer m n (M.says ∙ sym N.says)

-- ── what a caller learns, by the two ways on from an answer ──

pub record Value (r : Reader ℕ) (bound : ℕ) (f : List ℕ) (at x e : ℕ) : Type 0 where
  pub says : r f at ≡ got x e
  pub inside : at ≤ length f → e ≤ length f
  pub below : x < bound

pub record Refused (r : Reader ℕ) (f : List ℕ) (at n p : ℕ) : Type 0 where
  pub says : r f at ≡ no n p
  pub inside : at ≤ length f → p ≤ length f

module _ {r : Reader ℕ} {b : ℕ} {f : List ℕ} {at : ℕ} {n : Outcome ℕ} (R : Read r b f at n) where
  pub was-got : {x : ℕ} {c : Cursor} → n ≡ Ok (x, c) → Value r b f at x c.at
  was-got h =
      let S = rw h at R in
      record { says = sym S.says; inside = S.inside; below = S.below }

  pub was-refused : {e : Refusal} → n ≡ Err e → Refused r f at (number_of e.fault) e.place
  was-refused h =
      let S = rw h at R in
      record { says = sym S.says; inside = S.inside }

-- ── how an answer is made ──

pub answer-got :
    {r : Reader ℕ} {b : ℕ} {f : List ℕ} {at x e : ℕ}
    → r f at ≡ got x e → e ≤ length f → x < b → Read r b f at (Ok (x, record { at = e }))
answer-got h k l = record { says = sym h; inside = λ i. k; below = l }

pub answer-no :
    {r : Reader ℕ} {b : ℕ} {f : List ℕ} {at : ℕ} {k : Fault}
    → r f at ≡ no (number_of k) at → 0 < b → Read r b f at (Err (record { fault = k; place = at }))
answer-no h l = record { says = sym h; inside = λ i. i; below = l }

-- ── a step: only the cursor behind what was read is answered ──

-- the outcome with the value v
abbrev pub out_step : {A : Type 0} → Step → A → Out A
out_step (Ok c) v = got v c.at
out_step (Err e) v = no (number_of e.fault) e.place

-- where the cursor stands afterwards; of a refusal, its place
abbrev pub step_place : Step → ℕ
step_place (Ok c) = c.at
step_place (Err e) = e.place

-- a number passed over
abbrev pub step_of : Outcome ℕ → Step
step_of (Ok (x, c)) = Ok c
step_of (Err e) = Err e

-- the step goes where the reader `r` goes, and refuses as it does
pub record Past (r : Reader ℕ) (f : List ℕ) (at : ℕ) (s : Step) : Type 0 where
  pub says : out_step s (tt {0}) ≡ and_then (r f at) (λ n e. got tt e)
  pub inside : at ≤ length f → step_place s ≤ length f

-- a number that was read, passed over
pub read_past : {r : Reader ℕ} {b : ℕ} {f : List ℕ} {at : ℕ} (n : Outcome ℕ) → Read r b f at n → Past r f at (step_of n)
read_past (Ok (x, c)) R = record { says = ap (λ (o : Out ℕ). and_then o (λ m e. got (tt {0}) e)) R.says; inside = R.inside }
read_past (Err u) R = record { says = ap (λ (o : Out ℕ). and_then o (λ m e. got (tt {0}) e)) R.says; inside = R.inside }

-- What is read, printed: for a reading that succeeds, its text stands there and the cursor is behind it. Assumes nothing.
use Rattle.std.specs.Prelude.{Err, Ok, Result, ◌≡◌, refl, true, false, List, [], ◌∷◌, replicate}
use Prim.Native.Nat.{ℕ, zero, suc, ◌-◌, ◌≤◌, ◌<◌}
use native.Mathlib.Omega.{arith}
use Rattle.paper.specs.Reader.{Reader, Out, got, no, and_then, hold, must, Rule, ◌or_no◌, give, each, times}
use Rattle.paper.specs.Numbers.{v64, number}
use Rattle.paper.specs.Keeps.{hold?}
use Rattle.laws.specs.Laws.{not-got, each-inv}
use Rattle.lay.specs.Laid.{Laid}
use Rattle.numbers.specs.declared.Cursor.{Cursor}
use Rattle.numbers.specs.declared.Refusal.{Refusal}

-- the words w are laid, and the cursor is at q
abbrev pub StandsBy : List ℕ → ℕ → List ℕ → List ℕ → ℕ → Result (Cursor × ℕ) Refusal → Type 0
StandsBy l at w m q (Ok (c, p)) = Laid l at w m p × (c.at ≡ q)
StandsBy l at w m q (Err e) = ⊥

pub record Prints {A : Type 0} (r : Reader A) (w : A → List ℕ) (f : List ℕ) (from : ℕ) (l : List ℕ) (at : ℕ) (m : List ℕ) (o : Result (Cursor × ℕ) Refusal) : Type 0 where
  pub there : (v : A) (q : ℕ) → r f from ≡ got v q → StandsBy l at (w v) m q o

-- nothing is promised where nothing is read
pub prints-none :
    {A : Type 0} {r : Reader A} {w : A → List ℕ} {f : List ℕ} {from : ℕ} {l : List ℕ} {at : ℕ} {m : List ℕ} {o : Result (Cursor × ℕ) Refusal}
    → ((v : A) (q : ℕ) → r f from ≡ got v q → ⊥) → Prints r w f from l at m o
prints-none never = record { there = λ v q h. absurd (never v q h) }

-- what is given is read where the reading stands
pub give-got : {A : Type 0} (a : A) (f : List ℕ) (at : ℕ) (v : A) (e : ℕ) → give a f at ≡ got v e → (a ≡ v) × (at ≡ e)
unfolding give
give-got a f at v e h = (cc h, cc h)

-- ── a number that is held to rules ──

hold-got : {A : Type 0} (rs : List Rule) (p : ℕ) (a : A) (m : ℕ) (v : A) (e : ℕ) → hold rs p (got a m) ≡ got v e → (a ≡ v) × (m ≡ e) × (hold? rs ≡ true)
unfolding hold?
hold-got [] p a m v e h = (cc h, cc h, refl)
hold-got ((true or_no n) ∷ rs) p a m v e h = hold-got rs p a m v e h
hold-got ((false or_no n) ∷ rs) p a m v e h = not-got h

pub number-got : (rules : ℕ → List Rule) (f : List ℕ) (at n e : ℕ) → number rules f at ≡ got n e → (v64 f at ≡ got n e) × (hold? (rules n) ≡ true)
unfolding number must
number-got rules f at n e h = go (v64 f at) refl h
  where
    go : (o : Out ℕ) → v64 f at ≡ o → and_then o (λ a m. hold (rules a) at (got a m)) ≡ got n e → (v64 f at ≡ got n e) × (hold? (rules n) ≡ true)
    go (got a m) is q = let (x, y, z) = hold-got (rules a) at a m n e q in (rw (← x, ← y) is, rw x at z)
    go (no k p) is q = not-got q

-- ── so many, each in the state that those before it lead to ──

pub record FirstOf {S A : Type 0} (read : S → Reader A) (after : S → A → S) (n : ℕ) (s : S) (f : List ℕ) (at : ℕ) (l : List A) (e : ℕ) : Type 0 where
  pub value : A
  pub next : ℕ
  pub more : List A
  pub first : read s f at ≡ got value next
  pub rest : times n read after (after s value) f next ≡ got more e
  pub is : l ≡ value ∷ more

module _ {S A : Type 0} (read : S → Reader A) (after : S → A → S) (s : S) (f : List ℕ) (at : ℕ) (l : List A) (e : ℕ) where
  one_more : (n : ℕ) → times (suc n) read after s f at ≡ got l e → FirstOf read after n s f at l e
  unfolding times
  one_more n q =
      let F = each-inv (λ u x. read u) after (tt {0}) (replicate n (tt {0})) s f at l e q in
      record { value = F.value; next = F.next; more = F.more; first = F.first; rest = F.rest; is = F.is }

  pub times-first : (n : ℕ) → 0 < n → times n read after s f at ≡ got l e → FirstOf read after (n - 1) s f at l e
  times-first zero h q = absurd (omega arith)
  times-first (suc n) h q = let less : suc n - 1 ≡ n = omega arith in rw less (one_more n q)

  pub times_none : (n : ℕ) → n ≤ 0 → times n read after s f at ≡ got l e → (l ≡ []) × (at ≡ e)
  unfolding times each give
  times_none n le q = let z : n ≡ 0 = omega arith in go n z q
    where
      go : (n : ℕ) → n ≡ 0 → times n read after s f at ≡ got l e → (l ≡ []) × (at ≡ e)
      go zero z q = (cc q, cc q)
      go (suc n) z q = absurd (omega arith)

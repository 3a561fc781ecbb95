-- A stage that so many steps from the start of a file lead to. Assumes nothing.
use Rattle.std.specs.Prelude.{◌≡◌, refl, List, length}
use Rattle.std.proofs.Common.{sym, ap, ◌∙◌, arith, add-one}
use Prim.Native.Nat.{ℕ, zero, suc, ◌+◌, ◌≤◌}
use Rattle.std.proofs.Math.Decide.{dec_le}
use Rattle.paper.specs.Reader.{got, give}
use Rattle.laws.specs.Laws.{bind_inv, bind-got}
use Rattle.trail.specs.Told.{give-got}
use Rattle.trail.specs.Stages.{Stage, begin, onward, steps, steps-more, At}
use Rattle.trail.specs.declared.trail.Trail.{Trail}
use Rattle.recall.specs.Added.{BlockAdded, EntryAdded, step-block-added, step-entry-added}

pub record Reached (f : List ℕ) (k : ℕ) (g : Stage) : Type 0 where
  pub short : length f ≤ 1048576
  pub at : ℕ
  pub reads : steps k begin f 0 ≡ got g at

pub reached-at : {f : List ℕ} {k : ℕ} {t : Trail} {g : Stage} → At f k t g → Reached f k g
reached-at {t = t} A = record { short = A.tells.knows.size; at = t.at; reads = A.reached }

pub reached-start : (f : List ℕ) → length f ≤ 1048576 → Reached f 0 begin
unfolding steps give
reached-start f short = record { short = short; at = 0; reads = refl }

pub reached-more : {f : List ℕ} {k : ℕ} {g : Stage} (R : Reached f k g) (h : Stage) (q : ℕ) → onward g f R.at ≡ got h q → Reached f (k + 1) h
reached-more {f} {k} {g} R h q one =
    record { short = R.short; at = q; reads = ap (λ (n : ℕ). steps n begin f 0) (add-one k) ∙ steps-more k begin f 0 R.reads one }

-- ── what every step keeps holds of every stage that is reached ──

pub record Keeps (I : Stage → Type 0) : Type 0 where
  pub block : (g h : Stage) → BlockAdded g h → I g → I h
  pub entry : (f : List ℕ) (g : Stage) (at : ℕ) (h : Stage) → (g.left ≡ 0 → ⊥) → EntryAdded f g at h → I g → I h

module _ (I : Stage → Type 0) (K : Keeps I) where
  pub step_keeps : (f : List ℕ) (g : Stage) (at : ℕ) (h : Stage) (q : ℕ) → onward g f at ≡ got h q → I g → I h
  step_keeps f g at h q r i = go (dec_le g.left 0)
    where
      go : Dec (g.left ≤ 0) → I h
      go (Dec.yes y) = K.block g h (step-block-added f g at h q (omega arith) r) i
      go (Dec.no n) =
          let nz : g.left ≡ 0 → ⊥ = λ z. n (omega arith) in
          K.entry f g at h nz (step-entry-added f g at h q nz r) i

  pub steps-keep : (k : ℕ) (f : List ℕ) (g : Stage) (at : ℕ) (h : Stage) (q : ℕ) → steps k g f at ≡ got h q → I g → I h
  unfolding steps
  steps-keep zero f g at h q r i = let (x, _) = give-got g f at h q r in rw (← x) i
  steps-keep (suc k) f g at h q r i =
      let A = bind_inv (onward g) (steps k) f at h q r in
      steps-keep k f A.value A.next h q A.rest (step_keeps f g at A.value A.next A.first i)

  pub reached-keep : {f : List ℕ} {k : ℕ} {g : Stage} → I begin → Reached f k g → I g
  reached-keep {f} {k} {g} i R = steps-keep k f begin 0 g R.at R.reads i

-- ── the first steps of many ──

pub steps-split : (i j : ℕ) (g : Stage) (f : List ℕ) (at : ℕ) (h : Stage) (q : ℕ) → steps (i + j) g f at ≡ got h q → (m : Stage) × (p : ℕ) × (steps i g f at ≡ got m p) × (steps j m f p ≡ got h q)
unfolding steps give
steps-split zero j g f at h q r = let z : 0 + j ≡ j = omega arith in (g, at, refl, ap (λ (n : ℕ). steps n g f at) (sym z) ∙ r)
steps-split (suc i) j g f at h q r =
    let z : suc i + j ≡ suc (i + j) = omega arith in
    let A = bind_inv (onward g) (steps (i + j)) f at h q (ap (λ (n : ℕ). steps n g f at) (sym z) ∙ r) in
    let (m, p, first, rest) = steps-split i j A.value f A.next h q A.rest in
    (m, p, bind-got (onward g) (steps i) f at A.first ∙ first, rest)

pub reached-first : {f : List ℕ} {g : Stage} (i j : ℕ) (R : Reached f (i + j) g) → (h : Stage) × (Q : Reached f i h) × (steps j h f Q.at ≡ got g R.at)
reached-first {f} {g} i j R =
    let (m, p, first, rest) = steps-split i j begin f 0 g R.at R.reads in
    (m, record { short = R.short; at = p; reads = first }, rest)

-- A lookup on a walk: what is left to walk from here leads to the same stage, and the answer so far is true of the stage here.
-- Assumes nothing.
use Rattle.std.specs.Prelude.{◌≡◌, List, ℕ, zero, suc, ◌+◌, ◌-◌, ◌≤◌, ◌<◌}
use Rattle.std.proofs.Common.{arith, sym, ap, ◌∙◌, subst}
use Rattle.paper.specs.Reader.{got}
use Rattle.paper.specs.Lists.{last_or}
use Rattle.paper.specs.Ledger.{Head, Entry}
use Rattle.paper.specs.Rules.{after_entry, any_type}
use Rattle.paper.specs.File.{entry}
use Rattle.laws.specs.Laws.{bind_inv}
use Rattle.trail.specs.declared.trail.Trail.{Trail}
use Rattle.trail.specs.declared.trail.Top.{Top}
use Rattle.trail.specs.Told.{give-got}
use Rattle.trail.specs.Heads.{TopTold, HeadPast}
use Rattle.trail.specs.Entries.{EntryParts, entry-parts}
use Rattle.trail.specs.Stages.{Stage, begin, onward, steps, StepPast, Begins, Opened, At, at-start, at-step, opens-parts, enters-parts, onward-block, onward-entry, steps-left, steps-none, steps-more}
use Rattle.recall.specs.Reached.{Reached}

-- ── the loop ──

-- P is what the answer so far means of the stage where the trail stands: it holds there, if the file was read so far
pub record Here (f : List ℕ) (rest : ℕ) (t : Trail) (P : Stage → Type 0) (g : Stage) (at : ℕ) : Type 0 where
  pub here : Stage
  pub done : ℕ
  pub stands : At f done t here
  pub left : steps rest here f t.at ≡ got g at
  pub holds : P here

-- behind i of k steps
pub record Going (f : List ℕ) (k i : ℕ) (t : Trail) (P : Stage → Type 0) : Type 0 where
  pub left : (g : Stage) (R : Reached f k g) → Here f (k - i) t P g R.at

-- where the trail's step leads, Q holds if P did before it: what the code of one step promises
pub record Keeps (f : List ℕ) (t : Trail) (P Q : Stage → Type 0) : Type 0 where
  pub told : (k : ℕ) (g : Stage) → At f k t g → (h : Stage) (q : ℕ) → onward g f t.at ≡ got h q → P g → Q h

-- what a walk promises
pub record Reaches (f : List ℕ) (k : ℕ) (P : Stage → Type 0) : Type 0 where
  pub told : (g : Stage) → Reached f k g → P g

pub go-start : {f : List ℕ} {k : ℕ} {t : Trail} {P : Stage → Type 0} → Begins t → P begin → Going f k 0 t P
go-start {f} {k} B p =
    let z : k - 0 ≡ k = omega arith in
    record {
      left = λ g R.
          let A = at-start B R.short in
          record { here = begin; done = 0; stands = A; left = rw z (ap (steps k begin f) (B.told f R.short).place ∙ R.reads); holds = p };
    }

module _ {f : List ℕ} {k i : ℕ} {t : Trail} {P : Stage → Type 0} (G : Going f k i t P) where
  pub go_on : i < k → {Q : Stage → Type 0} → Keeps f t P Q → {r : Trail} → StepPast f t r → Going f k (i + 1) r Q
  go_on lt K {r} S =
      record {
        left = λ g R.
            let H = G.left g R in
            let (m, p, one, more) = steps-left lt H.here f t.at g R.at H.left in
            record {
              here = m;
              done = H.done + 1;
              stands = at-step H.stands S one;
              left = ap (steps (k - (i + 1)) m f) (S.told H.here t.at H.stands.tells m p one).place ∙ more;
              holds = K.told H.done H.here H.stands m p one H.holds;
            };
      }

  pub go-done : k ≤ i → Reaches f k P
  go-done le =
      record {
        told = λ g R.
            let H = G.left g R in
            let (x, _) = steps-none (k - i) H.here f t.at g R.at (omega arith) H.left in
            subst P x H.holds;
      }

  -- the same said in other words
  pub go-as : {Q : Stage → Type 0} → ((g : Stage) → P g → Q g) → Going f k i t Q
  go-as w = record { left = λ g R. let H = G.left g R in record { here = H.here; done = H.done; stands = H.stands; left = H.left; holds = w H.here H.holds } }

-- ── out of the loop, with what no later step takes away ──

pub record Lasting (f : List ℕ) (P : Stage → Type 0) : Type 0 where
  pub told : (k : ℕ) (g : Stage) (at : ℕ) → steps k begin f 0 ≡ got g at → (h : Stage) (q : ℕ) → onward g f at ≡ got h q → P g → P h

lasts : {f : List ℕ} {P : Stage → Type 0} → Lasting f P → (n k : ℕ) (g : Stage) (at : ℕ) → steps k begin f 0 ≡ got g at → (h : Stage) (q : ℕ) → steps n g f at ≡ got h q → P g → P h
unfolding steps
lasts {f} {P} L zero k g at r h q w p = let (x, _) = give-got g f at h q w in subst P x p
lasts {f} L (suc n) k g at r h q w p =
    let A = bind_inv (onward g) (steps n) f at h q w in
    lasts L n (suc k) A.value A.next (steps-more k begin f 0 r A.first) h q A.rest (L.told k g at r A.value A.next A.first p)

pub go-out : {f : List ℕ} {k i : ℕ} {t : Trail} {P : Stage → Type 0} → Going f k i t P → Lasting f P → Reaches f k P
go-out {k = k} {i = i} {t = t} G L =
    record {
      told = λ g R.
          let H = G.left g R in
          lasts L (k - i) H.done H.here t.at H.stands.reached g R.at H.left H.holds;
    }

-- out of the loop behind one more step, which is not walked: there is one, since the loop goes on
pub go-last : {f : List ℕ} {k i : ℕ} {t : Trail} {P : Stage → Type 0} → Going f k i t P → i < k → {Q : Stage → Type 0} → Keeps f t P Q → Lasting f Q → Reaches f k Q
go-last {f} {k} {i} {t} G lt {Q} K L =
    record {
      told = λ g R.
          let H = G.left g R in
          let (m, p, one, more) = steps-left lt H.here f t.at g R.at H.left in
          lasts L (k - (i + 1)) (suc H.done) m p (steps-more H.done begin f 0 H.stands.reached one) g R.at more (K.told H.done H.here H.stands m p one H.holds);
    }

-- ── what a step reads ──

pub reached-next : {f : List ℕ} {k : ℕ} {t : Trail} {g : Stage} → At f k t g → (h : Stage) (q : ℕ) → onward g f t.at ≡ got h q → Reached f (suc k) h
reached-next {f} {k} A h q one = record { short = A.tells.knows.size; at = q; reads = steps-more k begin f 0 A.reached one }

-- into a block: nothing but strings is added
pub into_block : {f : List ℕ} {k : ℕ} {t : Trail} {g : Stage} → At f k t g → t.left ≡ 0 → (h : Stage) (q : ℕ) → onward g f t.at ≡ got h q → Opened f g t.at h q
into_block {f} {t = t} {g = g} A z h q r = opens-parts f g t.at h q (onward-block g f t.at (sym A.tells.left ∙ z) ∙ r)

-- over an entry
pub record Over (f : List ℕ) (t : Trail) (g h : Stage) (q : ℕ) : Type 0 where
  pub read : Entry × List ℕ
  pub parts : EntryParts g.state t.end f t.at read q
  pub is : h ≡ record { state = after_entry g.state read.0; pairs = g.pairs; left = g.left - 1; end = last_or g.end read.1 }

pub over-entry : {f : List ℕ} {k : ℕ} {t : Trail} {g : Stage} → At f k t g → (t.left ≡ 0 → ⊥) → (h : Stage) (q : ℕ) → onward g f t.at ≡ got h q → Over f t g h q
over-entry {f} {t = t} {g = g} A nz h q r =
    let T = A.tells in
    let (e, reads, is) = enters-parts f g t.at h q (onward-entry g f t.at (λ z. nz (T.left ∙ z)) ∙ r) in
    let reads' : entry any_type (record { state = g.state; end = t.end }) f t.at ≡ got e q = ap (λ (d : ℕ). entry any_type (record { state = g.state; end = d }) f t.at) T.end ∙ reads in
    record { read = e; parts = entry-parts g.state t.end f t.at e q reads'; is = is }

module _ {f : List ℕ} {t : Trail} {g h : Stage} {q : ℕ} (O : Over f t g h q) where
  -- its head is the one that was read
  pub over-head : O.read.0.head ≡ O.parts.top
  over-head = ap (λ (x : Entry × List ℕ). x.0.head) O.parts.is

  pub over-top : {k : ℕ} → At f k t g → {top : Top} → HeadPast f t top → TopTold f g.state t O.read.0.head O.parts.after-top top
  over-top A {top} H = subst (λ (x : Head). TopTold f g.state t x O.parts.after-top top) (sym over-head) (H.told g.state A.tells.knows O.parts.top O.parts.after-top O.parts.top_read)

  pub over-state : h.state ≡ after_entry g.state O.read.0
  over-state = ap (λ (x : Stage). x.state) O.is

  pub over-pairs : h.pairs ≡ g.pairs
  over-pairs = ap (λ (x : Stage). x.pairs) O.is

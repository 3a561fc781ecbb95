-- What is read, laid down as text: one reading, and so many of them. Assumes nothing.
use denote.Ref.{MutBor}
use Rattle.std.specs.Prelude.{◌≡◌, refl, length}
use Rattle.std.proofs.Common.{sym, ap, ◌∙◌}
use mathlib.Core.List.{List, ◌++◌}
use Prim.Native.Nat.{ℕ, zero, suc, ◌-◌, ◌≤◌, ◌<◌}
use native.Mathlib.Omega.{arith}
use Rattle.paper.specs.Reader.{Reader, got, repeat}
use Rattle.paper.specs.Lists.{flat}
use Rattle.paper.specs.Ledger.{State}
use Rattle.lay.specs.Laid.{most, Laid, laid_then, laid_as, Leads, leads-start, leads-on, leads-end}
use Rattle.values.specs.Filling.{repeat-first, repeat-none}
use Rattle.show.specs.declared.Behind.{Behind}

-- ── what a call promises ──

-- what r reads from place `from` of f stands as the text w in m, which is l besides, and p is the place behind it: for every
-- state
pub record Shown {A : Type 0} (r : State → Reader A) (w : A → List ℕ) (f : List ℕ) (from : ℕ) (l : List ℕ) (at : ℕ) (m : List ℕ) (p : ℕ) : Type 0 where
  pub laid : (s : State) (v : A) (q : ℕ) → r s f from ≡ got v q → Laid l at (w v) m p

-- and the cursor is behind what was read
pub record Shows {A : Type 0} (r : State → Reader A) (w : A → List ℕ) (f : List ℕ) (from : ℕ) (l : List ℕ) (at : ℕ) (m : List ℕ) (o : Behind) : Type 0 where
  pub text : Shown r w f from l at m o.at
  pub next : (s : State) (v : A) (q : ℕ) → r s f from ≡ got v q → o.next.at ≡ q

-- nothing is promised where nothing is read
pub shows-none :
    {A : Type 0} {r : State → Reader A} {w : A → List ℕ} {f : List ℕ} {from : ℕ} {l : List ℕ} {at : ℕ} {m : List ℕ} {o : Behind}
    → ((s : State) (v : A) (q : ℕ) → r s f from ≡ got v q → ⊥) → Shows r w f from l at m o
shows-none never =
    record { text = record { laid = λ s v q h. absurd (never s v q h) }; next = λ s v q h. absurd (never s v q h) }

-- the same reading in other words
pub shows-as :
    {A : Type 0} {r t : State → Reader A} {w : A → List ℕ} {f : List ℕ} {from to : ℕ} {l : List ℕ} {at : ℕ} {m : List ℕ} {o : Behind}
    → ((s : State) → r s f from ≡ t s f to) → Shows t w f to l at m o → Shows r w f from l at m o
shows-as same S =
    record {
      text = record { laid = λ s v q h. S.text.laid s v q (sym (same s) ∙ h) };
      next = λ s v q h. S.next s v q (sym (same s) ∙ h);
    }

-- what is read by r was read by t, and its text is the same
pub shows-by :
    {A B : Type 0} {r : State → Reader A} {t : State → Reader B} {w : A → List ℕ} {u : B → List ℕ} {f : List ℕ} {from : ℕ} {l : List ℕ} {at : ℕ} {m : List ℕ} {o : Behind}
    → ((s : State) (v : A) (q : ℕ) → r s f from ≡ got v q → (b : B) × (t s f from ≡ got b q) × (u b ≡ w v)) → Shows t u f from l at m o → Shows r w f from l at m o
shows-by apart S =
    record {
      text = record { laid = λ s v q h. let (b, x, y) = apart s v q h in laid_as (S.text.laid s b q x) y };
      next = λ s v q h. let (b, x, y) = apart s v q h in S.next s b q x;
    }

-- what is read by t was read by r and x, one behind the other, and its text is theirs
pub record Parted {A B : Type 0} (r : Reader A) (x : Reader B) (w : A → List ℕ) (u : B → List ℕ) (f : List ℕ) (from : ℕ) (text : List ℕ) (q : ℕ) : Type 0 where
  pub first : A
  pub place : ℕ
  pub second : B
  pub one : r f from ≡ got first place
  pub two : x f place ≡ got second q
  pub is : w first ++ u second ≡ text

pub shows_then :
    {A B C : Type 0} {r : State → Reader A} {x : State → Reader B} {t : State → Reader C} {w : A → List ℕ} {u : B → List ℕ} {y : C → List ℕ}
    {f : List ℕ} {from : ℕ} {l : List ℕ} {at : ℕ} {m n : List ℕ} {o o₂ : Behind}
    → ((s : State) (v : C) (q : ℕ) → t s f from ≡ got v q → Parted (r s) (x s) w u f from (y v) q)
    → Shows r w f from l at m o → Shows x u f o.next.at m o.at n o₂ → Shows t y f from l at n o₂
shows_then {x = x} {f = f} {o = o} apart R X =
    record {
      text = record {
        laid = λ s v q h. let P = apart s v q h in laid_as (laid_then (R.text.laid s P.first P.place P.one) (X.text.laid s P.second q (there s P.place P.second q (R.next s P.first P.place P.one) P.two))) P.is;
      };
      next = λ s v q h. let P = apart s v q h in X.next s P.second q (there s P.place P.second q (R.next s P.first P.place P.one) P.two);
    }
  where
    there : (s : State) (p : ℕ) (b : _) (q : ℕ) → o.next.at ≡ p → x s f p ≡ got b q → x s f o.next.at ≡ got b q
    there s p b q e h = rw e h

-- ── so many, one after the other: what is left to show from here gives the whole ──

pub record Left {A : Type 0} (r : Reader A) (w : A → List ℕ) (f : List ℕ) (vs : List A) (q : ℕ) (l : List ℕ) (at rest : ℕ) (m : List ℕ) (o : Behind) : Type 0 where
  pub more : List A
  pub reads : repeat rest r f o.next.at ≡ got more q
  pub leads : Leads l at (flat w vs) m o.at (flat w more)

-- of n that begin at place `from` this many are left
pub record Showing {A : Type 0} (r : State → Reader A) (w : A → List ℕ) (f : List ℕ) (n from : ℕ) (l : List ℕ) (at rest : ℕ) (m : List ℕ) (o : Behind) : Type 0 where
  pub long : length m ≡ length l
  pub fewer : rest ≤ n
  pub left : (s : State) (vs : List A) (q : ℕ) → repeat n (r s) f from ≡ got vs q → Left (r s) w f vs q l at rest m o

module _ {A : Type 0} (r : State → Reader A) (w : A → List ℕ) (f : List ℕ) (n : ℕ) (l : List ℕ) (at : ℕ) where
  pub showing-start : (o : Behind) → length l ≤ most → o.at ≤ most → o.at ≡ at → Showing r w f n o.next.at l at n l o
  showing-start o h k is =
      record {
        long = refl;
        fewer = omega arith;
        left = λ s vs q h₁. record { more = vs; reads = h₁; leads = rw is (leads-start h (rw is at k)) };
      }

module _ {A : Type 0} {r : State → Reader A} {w : A → List ℕ} {f : List ℕ} {n from : ℕ} {l : List ℕ} {at rest : ℕ} {m : List ℕ} {o : Behind} (g : Showing r w f n from l at rest m o) where
  pub showing-next :
      0 < rest → {m₂ : List ℕ} {o₂ : Behind} → length m₂ ≡ length m → Shows r w f o.next.at m o.at m₂ o₂
      → Showing r w f n from l at (rest - 1) m₂ o₂
  unfolding flat
  showing-next due {m₂} {o₂} kept one =
      record {
        long = kept ∙ g.long;
        fewer = omega (arith, g.fewer);
        left = λ s vs q h. let B = g.left s vs q h in go s vs q B.more B.leads rest due B.reads;
      }
    where
      go :
          (s : State) (vs : List A) (q : ℕ) → (more : List A) → Leads l at (flat w vs) m o.at (flat w more)
          → (j : ℕ) → 0 < j → repeat j (r s) f o.next.at ≡ got more q → Left (r s) w f vs q l at (j - 1) m₂ o₂
      go s vs q more leads zero h reads = absurd (omega arith)
      go s vs q more leads (suc j) h reads =
          let F = repeat-first (r s) j f o.next.at more q reads in
          let less : suc j - 1 ≡ j = omega arith in
          let there = one.next s F.value F.next F.first in
          record {
            more = F.more;
            reads = rw (less, there) F.rest;
            leads = leads-on leads (ap (flat w) F.is) (one.text.laid s F.value F.next F.first);
          }

  module _ (z : rest ≤ 0) where
    none : (s : State) (vs : List A) (q : ℕ) → repeat n (r s) f from ≡ got vs q → Laid l at (flat w vs) m o.at × (o.next.at ≡ q)
    unfolding flat
    none s vs q h =
        let B = g.left s vs q h in
        let over : rest ≡ 0 = omega arith in
        let E = repeat-none (r s) f o.next.at B.more q (rw over at B.reads) in
        (leads-end B.leads (ap (flat w) E.0), E.1)

    pub shown-all : Shown (λ s. repeat n (r s)) (flat w) f from l at m o.at
    shown-all = record { laid = λ s vs q h. (none s vs q h).0 }

    pub shows-all : Shows (λ s. repeat n (r s)) (flat w) f from l at m o
    shows-all = record { text = shown-all; next = λ s vs q h. (none s vs q h).1 }

-- ── the same, where each step is a call ──

-- whatever a call leaves, it shows the next value behind what was shown
pub record Lays {A : Type 0} (call : Behind → MutBor (List ℕ) → Behind → MutBor (List ℕ) → Type 0) (r : State → Reader A) (w : A → List ℕ) (f : List ℕ) : Type 0 where
  pub each : (h : Behind) (x : MutBor (List ℕ)) (o : Behind) (y : MutBor (List ℕ)) → call h x o y → (length y.now ≡ length x.now) × Shows r w f h.next.at x.now h.at y.now o

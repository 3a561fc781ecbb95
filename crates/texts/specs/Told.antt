-- What a reading of text gives, laid down as bytes: one reading, and so many of them. Assumes nothing.
use Rattle.std.specs.Prelude as prelude
use Rattle.std.specs.Borrow.{MutBor}
use Rattle.std.specs.Prelude.{None, Some, suc, ◌≡◌, refl, List, [], ◌∷◌, ◌++◌, ℕ, ◌-◌, ◌≤◌, ◌<◌, length}
use Rattle.std.proofs.Common.{sym, ap, ◌∙◌, append_assoc, append-nil, arith}
use Rattle.paper.specs.Reader.{Reader, got, no as bad, and_then, repeat}
use Rattle.paper.specs.Lists.{flat}
use Rattle.lay.specs.Laid.{most, Laid, laid_none, laid_then, laid-long, laid_as}
use Rattle.laws.specs.Loops.{alone, one_on}
use Rattle.texts.specs.Exact.{repeat-more, repeat-over}
use Rattle.texts.specs.declared.Taken.{Taken}

-- what r reads from place `from` of t stands as the bytes w in m, which is l besides, and k is behind both
pub record Lays {A : Type 0} (r : Reader A) (w : A → List ℕ) (t : List ℕ) (from : ℕ) (l : List ℕ) (at : ℕ) (m : List ℕ) (k : Taken) : Type 0 where
  pub value : A
  pub reads : r t from ≡ got value k.next.at
  pub laid : Laid l at (w value) m k.at

-- an answer: that, or that r refuses
pub data Told {A : Type 0} (r : Reader A) (w : A → List ℕ) (t : List ℕ) (from : ℕ) (l : List ℕ) (at : ℕ) (m : List ℕ) : prelude.Option Taken → Type 0 where
  takes : (k : Taken) → Lays r w t from l at m k → Told r w t from l at m (Some k)
  refuses : r t from ≡ bad 20 0 → Told r w t from l at m None

pub was-got :
    {A : Type 0} {r : Reader A} {w : A → List ℕ} {t : List ℕ} {from : ℕ} {l : List ℕ} {at : ℕ} {m : List ℕ} {o : prelude.Option Taken} {k : Taken}
    → Told r w t from l at m o → o ≡ Some k → Lays r w t from l at m k
was-got {k = j} (takes k L) is = let same : k ≡ j = cc is in rw same at L
was-got (refuses h) is = let z : ◌≡◌ {A = ℕ} 0 1 = cc is in absurd (omega arith)

pub was-bad :
    {A : Type 0} {r : Reader A} {w : A → List ℕ} {t : List ℕ} {from : ℕ} {l : List ℕ} {at : ℕ} {m : List ℕ} {o : prelude.Option Taken}
    → Told r w t from l at m o → o ≡ None → r t from ≡ bad 20 0
was-bad (takes k L) is = let z : ◌≡◌ {A = ℕ} 0 1 = cc is in absurd (omega arith)
was-bad (refuses h) is = h

-- ── so many, one after the other: what is left to take from here gives the whole ──

pub record Taking {A : Type 0} (r : Reader A) (w : A → List ℕ) (t : List ℕ) (n from : ℕ) (l : List ℕ) (at rest : ℕ) (m : List ℕ) (o : Taken) : Type 0 where
  pub long : length m ≡ length l
  pub fewer : rest ≤ n
  pub done : List A
  pub reads : repeat n r t from ≡ and_then (repeat rest r t o.next.at) (λ more q. got (done ++ more) q)
  pub laid : Laid l at (flat w done) m o.at

pub flat-more : {A : Type 0} (w : A → List ℕ) (done : List A) (a : A) → flat w done ++ w a ≡ flat w (done ++ a ∷ [])
unfolding flat
flat-more w [] a = sym (append-nil (w a))
flat-more w (b ∷ done) a = append_assoc (w b) (flat w done) (w a) ∙ ap (λ (z : List ℕ). w b ++ z) (flat-more w done a)

module _ {A : Type 0} (r : Reader A) (w : A → List ℕ) (t : List ℕ) (n : ℕ) (l : List ℕ) (at : ℕ) where
  pub taking-start : (o : Taken) → length l ≤ most → o.at ≤ most → o.at ≡ at → Taking r w t n o.next.at l at n l o
  unfolding flat
  taking-start o h k is =
      record { long = refl; fewer = omega arith; done = []; reads = alone (repeat n r t o.next.at); laid = rw is (laid_none h (rw is at k)) }

-- behind bytes that are laid already
pub taking-behind :
    {A : Type 0} (r : Reader A) (w : A → List ℕ) (t : List ℕ) (n : ℕ) (o : Taken) {l₀ v l : List ℕ} {at₀ at : ℕ} → Laid l₀ at₀ v l at → o.at ≡ at
    → Taking r w t n o.next.at l at n l o
taking-behind r w t n o {l₀} {v} {l} {at₀} {at} L is =
    taking-start r w t n l at o (omega (arith, laid-long L, L.room)) (omega (arith, L.next)) is

module _ {A : Type 0} {r : Reader A} {w : A → List ℕ} {t : List ℕ} {n from : ℕ} {l : List ℕ} {at rest : ℕ} {m : List ℕ} {o : Taken} (g : Taking r w t n from l at rest m o) where
  module _ {less : ℕ} (due : rest ≡ suc less) where
    module _ {m₂ : List ℕ} {x : prelude.Option Taken} (one : Told r w t o.next.at m o.at m₂ x) where
      pub taking-next : {k : Taken} → x ≡ Some k → length m₂ ≡ length m → Taking r w t n from l at less m₂ k
      taking-next {k} is kept =
          let L = was-got one is in
          record {
            long = kept ∙ g.long;
            fewer = omega (arith, g.fewer);
            done = g.done ++ L.value ∷ [];
            reads = g.reads ∙ rw (due, repeat-more r less t o.next.at, L.reads) (one_on g.done L.value (repeat less r t k.next.at));
            laid = laid_as (laid_then g.laid L.laid) (flat-more w g.done L.value);
          }

      pub taking-bad : x ≡ None → {m₃ : List ℕ} → Told (repeat n r) (flat w) t from l at m₃ None
      taking-bad is = refuses (g.reads ∙ rw (due, repeat-more r less t o.next.at, was-bad one is) refl)

  pub taking-done : rest ≤ 0 → Told (repeat n r) (flat w) t from l at m (Some o)
  taking-done z =
      let over : rest ≡ 0 = omega arith in
      takes o (record { value = g.done; reads = g.reads ∙ rw (over, repeat-over r t o.next.at, append-nil g.done); laid = g.laid })

-- ── so many calls, each behind the one before ──

-- n of them, from the place k and the room m: none is left, or one gives up, or one is behind the others
pub data Runs (step : Taken → List ℕ → prelude.Option Taken → List ℕ → Type 0) : ℕ → Taken → List ℕ → prelude.Option Taken → List ℕ → Type 0 where
  ends : (k : Taken) (m : List ℕ) → Runs step 0 k m (Some k) m
  stops : (n : ℕ) (k : Taken) (m m₂ : List ℕ) → step k m None m₂ → Runs step (suc n) k m None m₂
  goes : (n : ℕ) (k j : Taken) (m m₂ m₃ : List ℕ) (x : prelude.Option Taken) → step k m (Some j) m₂ → Runs step n j m₂ x m₃ → Runs step (suc n) k m x m₃

pub record Called (post : Taken → MutBor (List ℕ) → prelude.Option Taken → MutBor (List ℕ) → Type 0) (k : Taken) (m : List ℕ) (x : prelude.Option Taken) (m₂ : List ℕ) : Type 0 where
  pub lent : MutBor (List ℕ)
  pub lends : lent.now ≡ m
  pub left : MutBor (List ℕ)
  pub met : post k lent x left
  pub leaves : left.now ≡ m₂
  pub long : length m₂ ≡ length m

abbrev pub Repeats : (Taken → MutBor (List ℕ) → prelude.Option Taken → MutBor (List ℕ) → Type 0) → ℕ → Taken → List ℕ → prelude.Option Taken → List ℕ → Type 0
Repeats post = Runs (Called post)

pub called :
    {post : Taken → MutBor (List ℕ) → prelude.Option Taken → MutBor (List ℕ) → Type 0} {k : Taken} {x : prelude.Option Taken} (lent left : MutBor (List ℕ))
    → post k lent x left → length left.now ≡ length lent.now → Called post k lent.now x left.now
called lent left met long = record { lent = lent; lends = refl; left = left; met = met; leaves = refl; long = long }

module _ {step : Taken → List ℕ → prelude.Option Taken → List ℕ → Type 0} {rest less : ℕ} (due : rest ≡ suc less) {k : Taken} {m m₂ : List ℕ} {a : prelude.Option Taken} (one : step k m a m₂) where
  pub run-stops : a ≡ None → Runs step rest k m None m₂
  run-stops is = rw due (stops less k m m₂ (rw is at one))

  pub run-goes : {j : Taken} → a ≡ Some j → {x : prelude.Option Taken} {m₃ : List ℕ} → Runs step less j m₂ x m₃ → Runs step rest k m x m₃
  run-goes {j} is {x} {m₃} on = rw due (goes less k j m m₂ m₃ x (rw is at one) on)

pub run-ends : {step : Taken → List ℕ → prelude.Option Taken → List ℕ → Type 0} {rest : ℕ} {k : Taken} {m : List ℕ} → rest ≡ 0 → Runs step rest k m (Some k) m
run-ends {k = k} {m} none = rw none (ends k m)

-- each call tells r
abbrev pub Tells : {A : Type 0} → (Taken → MutBor (List ℕ) → prelude.Option Taken → MutBor (List ℕ) → Type 0) → Reader A → (A → List ℕ) → List ℕ → Type 0
Tells post r w t = (k : Taken) (lent : MutBor (List ℕ)) (x : prelude.Option Taken) (left : MutBor (List ℕ)) → post k lent x left → Told r w t k.next.at lent.now k.at left.now x

-- n calls, each of which tells r, tell n times r
module _ {A : Type 0} {r : Reader A} {w : A → List ℕ} {t : List ℕ} {post : Taken → MutBor (List ℕ) → prelude.Option Taken → MutBor (List ℕ) → Type 0} (tells : Tells post r w t) where
  told-call : {k : Taken} {m : List ℕ} {x : prelude.Option Taken} {m₂ : List ℕ} → Called post k m x m₂ → Told r w t k.next.at m k.at m₂ x
  told-call {k} {m} {x} {m₂} c = rw c.lends at (rw c.leaves at (tells k c.lent x c.left c.met))

  told-on :
      {n from : ℕ} {l : List ℕ} {at rest : ℕ} {m : List ℕ} {k : Taken} {x : prelude.Option Taken} {m₂ : List ℕ}
      → Taking r w t n from l at rest m k → Runs (Called post) rest k m x m₂ → Told (repeat n r) (flat w) t from l at m₂ x
  told-on g (ends k m) = taking-done g (omega arith)
  told-on g (stops n k m m₂ c) = taking-bad g refl (told-call c) refl
  told-on g (goes n k j m m₂ m₃ x c on) = told-on (taking-next g refl (told-call c) refl c.long) on

  pub told-all : {n : ℕ} {k : Taken} {l : List ℕ} {x : prelude.Option Taken} {m : List ℕ} → length l ≤ most → k.at ≤ most → Runs (Called post) n k l x m → Told (repeat n r) (flat w) t k.next.at l k.at m x
  told-all {n} {k} {l} h room on = told-on (taking-start r w t n l k.at k h room refl) on

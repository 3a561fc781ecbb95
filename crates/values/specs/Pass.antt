-- Readings of which only the place behind them matters, or the refusal: what they have in common whatever they make of the
-- bytes, and one reading after another as code runs them. Assumes nothing.
use Rattle.std.specs.Prelude.{Ok, Err, ◌≡◌, ℕ, zero, suc, ◌+◌, ◌-◌, ◌*◌, ◌<◌, ◌≤◌, List, ◌∷◌, length}
use Rattle.std.proofs.Math.Path.{refl, sym, ap}
use Rattle.std.proofs.Common.{◌∙◌, zero-add, suc-add, zero-mul, suc-mul, add_comm}
use native.Mathlib.Omega.{arith}
use Rattle.paper.specs.Reader.{Reader, Out, got, no, and_then, ◌>>=◌, give, hold, must, Rule, each, times, repeat}
use Rattle.numbers.specs.Cursors.{Outcome, Step, out_of, place_of, Read, out_step, Past}
use Rattle.numbers.specs.declared.Cursor.{Cursor}
use Rattle.numbers.specs.Faults.{number_of}
use Rattle.numbers.specs.declared.Refusal.{Refusal}

-- an outcome without its value
unfoldable pub forget : {A : Type 0} → Out A → Out (Unit {0})
forget (got a e) = got tt e
forget (no n p) = no n p

-- the answer goes where the reader goes, and refuses as it does; its number says nothing
pub record Passed {A : Type 0} (r : Reader A) (f : List ℕ) (at : ℕ) (n : Outcome ℕ) : Type 0 where
  pub says : forget (out_of n) ≡ forget (r f at)
  pub inside : at ≤ length f → place_of n ≤ length f

pub read-passed : {r : Reader ℕ} {b : ℕ} {f : List ℕ} {at : ℕ} {n : Outcome ℕ} → Read r b f at n → Passed r f at n
read-passed R = record { says = ap forget R.says; inside = R.inside }

-- its number is any
pub passed-with : {A : Type 0} {r : Reader A} {f : List ℕ} {at x : ℕ} {c : Cursor} (y : ℕ) → Passed r f at (Ok (x, c)) → Passed r f at (Ok (y, c))
unfolding forget
passed-with y P = record { says = P.says; inside = P.inside }

-- ── n times ──

forget-then : {A B C : Type 0} (o : Out A) (k : A → ℕ → Out B) (l : ℕ → Out C) → ((a : A) (e : ℕ) → forget (k a e) ≡ forget (l e)) → forget (and_then o k) ≡ and_then (forget o) (λ u e. forget (l e))
unfolding forget
forget-then (got a e) k l h = h a e
forget-then (no n p) k l h = refl

forget-put : {A B : Type 0} (g : A → B) (o : Out A) → forget (and_then o (λ a e. got (g a) e)) ≡ forget o
unfolding forget
forget-put g (got a e) = refl
forget-put g (no n p) = refl

then-after : {A : Type 0} (o : Out (Unit {0})) (k : ℕ → Out A) (l : A → ℕ → Out A) → and_then (and_then o (λ u. k)) l ≡ and_then o (λ u e. and_then (k e) l)
then-after (got u e) k l = refl
then-after (no n p) k l = refl

then_same : {A B : Type 0} (o : Out A) (k l : A → ℕ → Out B) → ((a : A) (e : ℕ) → k a e ≡ l a e) → and_then o k ≡ and_then o l
then_same (got a e) k l h = h a e
then_same (no n p) k l h = refl

module _ {A : Type 0} (r : Reader A) (f : List ℕ) where
  pub pass-none : (at : ℕ) → forget (repeat 0 r f at) ≡ got tt at
  unfolding forget repeat times each give
  pass-none at = refl

  pub pass-more : (n at : ℕ) → forget (repeat (suc n) r f at) ≡ and_then (forget (r f at)) (λ u e. forget (repeat n r f e))
  unfolding repeat times each give ◌>>=◌
  pass-more n at = forget-then (r f at) _ (repeat n r f) (λ a e. forget-put (λ l. a ∷ l) (repeat n r f e))

  -- so many and then so many more
  pub pass-add : (n m at : ℕ) → forget (repeat (n + m) r f at) ≡ and_then (forget (repeat n r f at)) (λ u e. forget (repeat m r f e))
  pass-add zero m at = rw (zero-add, pass-none at)
  pass-add (suc n) m at =
      rw (suc-add, pass-more (n + m) at, pass-more n at)
      (then_same (forget (r f at)) _ _ (λ u e. pass-add n m e) ∙ sym (then-after (forget (r f at)) (λ e. forget (repeat n r f e)) (λ u e. forget (repeat m r f e))))

-- ── two readers that go over the same bytes and refuse alike, whatever each makes of them ──

pub record Alike {A B : Type 0} (r : Reader A) (q : Reader B) (f : List ℕ) : Type 0 where
  pub at : (p : ℕ) → forget (r f p) ≡ forget (q f p)

module _ {f : List ℕ} where
  pub alike_self : {A : Type 0} (r : Reader A) → Alike r r f
  alike_self r = record { at = λ p. refl }

  pub alike_then : {A B C : Type 0} {r : Reader A} {q : Reader B} {v : Reader C} → Alike r q f → Alike q v f → Alike r v f
  alike_then x y = record { at = λ p. x.at p ∙ y.at p }

  pub alike-back : {A B : Type 0} {r : Reader A} {q : Reader B} → Alike r q f → Alike q r f
  alike-back x = record { at = λ p. sym (x.at p) }

  pub alike-repeat : {A B : Type 0} {r : Reader A} {q : Reader B} → Alike r q f → (n : ℕ) → Alike (repeat n r) (repeat n q) f
  alike-repeat {A} {B} {r} {q} x n = record { at = go n }
    where
      go : (n p : ℕ) → forget (repeat n r f p) ≡ forget (repeat n q f p)
      go zero p = pass-none r f p ∙ sym (pass-none q f p)
      go (suc n) p =
          rw (pass-more r f n p, pass-more q f n p, x.at p)
          (then_same (forget (q f p)) _ _ (λ u e. go n e))

  -- the value turned into another
  pub alike_turned : {A B : Type 0} (r : Reader A) (g : A → B) → Alike (r >>= λ a. give (g a)) r f
  unfolding ◌>>=◌ give
  alike_turned r g = record { at = λ p. forget-put g (r f p) }

  pub alike-bind : {A B C : Type 0} (r : Reader A) {k : A → Reader B} {l : A → Reader C} → ((a : A) → Alike (k a) (l a) f) → Alike (r >>= k) (r >>= l) f
  unfolding ◌>>=◌ forget
  alike-bind {A} {B} {C} r {k} {l} x = record { at = λ p. go (r f p) }
    where
      go : (o : Out A) → forget (and_then o (λ a. k a f)) ≡ forget (and_then o (λ a. l a f))
      go (got a e) = (x a).at e
      go (no n p) = refl

  -- the same rules in other words
  pub alike-must : {A : Type 0} (r : Reader A) (these those : A → List Rule) → ((a : A) → these a ≡ those a) → Alike (must r these) (must r those) f
  unfolding must
  alike-must r these those h =
      record { at = λ p. ap forget (then_same (r f p) _ _ (λ a e. ap (λ (rs : List Rule). hold rs p (got a e)) (h a))) }

  -- n times l are n * l
  pub alike-flat : {A : Type 0} (r : Reader A) (n l : ℕ) → Alike (repeat n (repeat l r)) (repeat (n * l) r) f
  alike-flat r n l = record { at = go n }
    where
      go : (n p : ℕ) → forget (repeat n (repeat l r) f p) ≡ forget (repeat (n * l) r f p)
      go zero p = rw zero-mul (pass-none (repeat l r) f p ∙ sym (pass-none r f p))
      go (suc n) p =
          rw (suc-mul, add_comm (n * l) l, pass-more (repeat l r) f n p)
          (then_same (forget (repeat l r f p)) _ _ (λ u e. go n e) ∙ sym (pass-add r f l (n * l) p))

  -- nothing is read n times
  pub alike-nothing : {A : Type 0} (a : A) (n : ℕ) → Alike (repeat n (give a)) (give (tt {0})) f
  unfolding give forget
  alike-nothing a n = record { at = go n }
    where
      go : (n p : ℕ) → forget (repeat n (give a) f p) ≡ got tt p
      go zero p = pass-none (give a) f p
      go (suc n) p = pass-more (give a) f n p ∙ go n p

  pub passed-as : {A B : Type 0} {r : Reader A} {q : Reader B} {at : ℕ} {n : Outcome ℕ} → Passed r f at n → Alike q r f → Passed q f at n
  passed-as {at = at} P x = record { says = P.says ∙ sym (x.at at); inside = P.inside }

-- ── a loop: what is left to read from here gives the whole ──

pub record Running {A : Type 0} (r : Reader A) (f : List ℕ) (m from rest at : ℕ) : Type 0 where
  pub says : forget (repeat m r f from) ≡ forget (repeat rest r f at)
  pub inside : from ≤ length f → at ≤ length f

pub running-start : {A : Type 0} (r : Reader A) (f : List ℕ) (m from : ℕ) → Running r f m from m from
running-start r f m from = record { says = refl; inside = λ h. h }

module _ {A : Type 0} {r : Reader A} {f : List ℕ} {m from rest at : ℕ} (R : Running r f m from rest at) where
  pub running-done : (x : ℕ) → rest ≤ 0 → Passed (repeat m r) f from (Ok (x, record { at = at }))
  unfolding forget
  running-done x z =
      let none : rest ≡ 0 = omega arith in
      record { says = sym (R.says ∙ rw none (pass-none r f at)); inside = R.inside }

  module _ (due : 0 < rest) where
    one_more : forget (repeat m r f from) ≡ and_then (forget (r f at)) (λ u e. forget (repeat (rest - 1) r f e))
    one_more = R.says ∙ go rest due
      where
        go : (k : ℕ) → 0 < k → forget (repeat k r f at) ≡ and_then (forget (r f at)) (λ u e. forget (repeat (k - 1) r f e))
        go zero h = absurd (omega arith)
        go (suc k) h = let less : suc k - 1 ≡ k = omega arith in rw less (pass-more r f k at)

    pub running-on : (e : ℕ) → forget (r f at) ≡ got tt e → (at ≤ length f → e ≤ length f) → Running r f m from (rest - 1) e
    running-on e h i = record { says = one_more ∙ rw h; inside = λ l. i (R.inside l) }

    pub running-out : (e : Refusal) → forget (r f at) ≡ no (number_of e.fault) e.place → (at ≤ length f → e.place ≤ length f) → Passed (repeat m r) f from (Err e)
    unfolding forget
    running-out e h i = record { says = sym (one_more ∙ rw h); inside = λ l. i (R.inside l) }

    module _ {a : Outcome ℕ} (one : Passed r f at a) where
      pub running-next : {x : ℕ} {c : Cursor} → a ≡ Ok (x, c) → Running r f m from (rest - 1) c.at
      unfolding forget
      running-next {x} {c} is = let P = rw is at one in running-on c.at (sym P.says) P.inside

      pub running-no : {e : Refusal} → a ≡ Err e → Passed (repeat m r) f from (Err e)
      unfolding forget
      running-no {e} is = let P = rw is at one in running-out e (sym P.says) P.inside

-- the same, where only the cursor behind one is answered
module _ {r : Reader ℕ} {f : List ℕ} {m from rest at : ℕ} (R : Running r f m from rest at) (due : 0 < rest) {a : Step} (one : Past r f at a) where
  went : out_step a tt ≡ forget (r f at)
  unfolding forget
  went = one.says ∙ go (r f at)
    where
      go : (o : Out ℕ) → and_then o (λ n e. got (tt {0}) e) ≡ forget o
      go (got n e) = refl
      go (no n p) = refl

  pub running-past : {c : Cursor} → a ≡ Ok c → Running r f m from (rest - 1) c.at
  running-past {c} is = running-on R due c.at (sym went ∙ ap (λ (s : Step). out_step s tt) is) (rw is at one).inside

  pub running-stop : {e : Refusal} → a ≡ Err e → Passed (repeat m r) f from (Err e)
  running-stop {e} is = running-out R due e (sym went ∙ ap (λ (s : Step). out_step s tt) is) (rw is at one).inside

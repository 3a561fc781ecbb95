-- The laws of readers: what a reader gives hangs on the bytes that it reads alone, and on a file that ends before them it is
-- refused by 1. Closed under all the ways in which readers are put flat. Assumes nothing.
use Rattle.std.specs.Prelude.{◌≡◌, refl, Bool, true, false, List, [], ◌∷◌, ℕ, ◌+◌, ◌≤◌, ◌<◌, leb, eqb, length, get_or, take, drop, replicate}
use Rattle.std.proofs.Common.{sym, ◌∙◌, ap, arith, length-take, length-drop, ext_get_or, get_or-take, get_or-drop, leb-true, le-leb, eqb-true}
use Rattle.std.proofs.Math.Option.{none, some}
use Rattle.std.proofs.Math.Decide.{dec_le}
use Rattle.std.proofs.lemmas.Bool.{lt-leb}
use Rattle.paper.specs.Reader.{when◌then◌else◌, Reader, Out, got, no, and_then, ◌>>=◌, ◌>>◌, give, hold, must, from_start, started, within, Rule, ◌or_no◌, bytes, each, times, repeat, only, filled, part}

-- as far as g goes, it is from `at` to `e` what f is
abbrev pub Agree : List ℕ → List ℕ → ℕ → ℕ → Type 0
Agree f g at e = (i : ℕ) → at ≤ i → i < e → i < length g → get_or f i 0 ≡ get_or g i 0

-- the refusal's number; 0 for a value
abbrev pub why : {A : Type 0} → Out A → ℕ
why (got a e) = 0
why (no n p) = n

pub record Stays {A : Type 0} (r : Reader A) (f : List ℕ) (at : ℕ) (v : A) (e : ℕ) : Type 0 where
  pub forward : at ≤ e
  pub inside : e ≤ length f
  pub local : (g : List ℕ) → at ≤ length g → Agree f g at e → e ≤ length g → r g at ≡ got v e
  pub short : (g : List ℕ) → at ≤ length g → Agree f g at e → length g < e → why (r g at) ≡ 1

pub record Faithful {A : Type 0} (r : Reader A) : Type 0 where
  pub at : (f : List ℕ) (at : ℕ) (v : A) (e : ℕ) → at ≤ length f → r f at ≡ got v e → Stays r f at v e

pub why-then : {A B : Type 0} (o : Out A) (k : A → ℕ → Out B) → why o ≡ 1 → why (and_then o k) ≡ 1
why-then (got a e) k h = absurd (omega (arith, h))
why-then (no n p) k h = h

pub not-got : {A : Type 0} {X : Type 0} {n p e : ℕ} {v : A} → no n p ≡ got v e → X
not-got h = let z : ◌≡◌ {A = ℕ} 0 1 = cc h in absurd (omega arith)

pub give-faithful : {A : Type 0} (a : A) → Faithful (give a)
unfolding give
give-faithful {A} a = record { at = go }
  where
    go : (f : List ℕ) (at : ℕ) (v : A) (e : ℕ) → at ≤ length f → give a f at ≡ got v e → Stays (give a) f at v e
    go f at v e h q =
        let z : at ≡ e = cc q in
        record {
          forward = omega arith;
          inside = omega arith;
          local = λ g hg ag le. q;
          short = λ g hg ag lt. absurd (omega arith);
        }

pub bind-faithful : {A B : Type 0} {r : Reader A} {k : A → Reader B} → Faithful r → ((a : A) → Faithful (k a)) → Faithful (r >>= k)
unfolding ◌>>=◌
bind-faithful {A} {B} {r} {k} R K = record { at = λ f at v e h q. go f at v e h (r f at) refl q }
  where
    go : (f : List ℕ) (at : ℕ) (v : B) (e : ℕ) → at ≤ length f → (o : Out A) → r f at ≡ o → and_then o (λ a. k a f) ≡ got v e → Stays (r >>= k) f at v e
    go f at v e h (got a m) er eq =
        let S = R.at f at a m h er in
        let U = (K a).at f m v e S.inside eq in
        let fw = S.forward in
        let fw' = U.forward in
        record {
          forward = omega arith;
          inside = U.inside;
          local = λ g hg ag le.
              rw (S.local g hg (λ i lo hi. ag i lo (omega arith)) (omega arith))
              (U.local g (omega arith) (λ i lo hi. ag i (omega arith) hi) le);
          short = λ g hg ag lt. by-case g hg ag lt S U (dec_le m (length g));
        }
      where
        by-case : (g : List ℕ) → at ≤ length g → Agree f g at e → length g < e → Stays r f at a m → Stays (k a) f m v e → Dec (m ≤ length g) → why (and_then (r g at) (λ a'. k a' g)) ≡ 1
        by-case g hg ag lt S U (Dec.yes y) =
            let fw = S.forward in
            let fw' = U.forward in
            rw (S.local g hg (λ i lo hi. ag i lo (omega arith)) y) (U.short g y (λ i lo hi. ag i (omega arith) hi) lt)
        by-case g hg ag lt S U (Dec.no y) = why-then (r g at) _ (S.short g hg (λ i lo hi. ag i lo (omega (arith, U.forward))) (omega arith))
    go f at v e h (no n p) er eq = not-got eq

pub then-faithful : {A B : Type 0} {r : Reader A} {q : Reader B} → Faithful r → Faithful q → Faithful (r >> q)
unfolding ◌>>◌ ◌>>=◌
then-faithful {r} {q} R Q = bind-faithful {r = r} {k = λ a. q} R (λ a. Q)

-- where rules let a value pass, they let pass whatever comes
holds : {A B : Type 0} (rs : List Rule) (p : ℕ) (a : A) (e : ℕ) {v : A} {e' : ℕ} → hold rs p (got a e) ≡ got v e' → (p' : ℕ) (o : Out B) → hold rs p' o ≡ o
holds [] p a e h p' o = refl
holds ((true or_no n) ∷ rs) p a e h p' o = holds rs p a e h p' o
holds ((false or_no n) ∷ rs) p a e h p' o = not-got h

pub must-faithful : {A : Type 0} {r : Reader A} (rules : A → List Rule) → Faithful r → Faithful (must r rules)
unfolding must
must-faithful {A} {r} rules R = record { at = λ f at v e h q. go f at v e h (r f at) refl q }
  where
    go :
        (f : List ℕ) (at : ℕ) (v : A) (e : ℕ) → at ≤ length f → (o : Out A) → r f at ≡ o
        → and_then o (λ a m. hold (rules a) at (got a m)) ≡ got v e → Stays (must r rules) f at v e
    go f at v e h (got a m) er eq =
        let S = R.at f at a m h er in
        let pass : (o : Out A) → hold (rules a) at o ≡ o = holds (rules a) at a m eq at in
        let same : got a m ≡ got v e = sym (pass (got a m)) ∙ eq in
        let z : m ≡ e = cc same in
        let fw = S.forward in
        let ins = S.inside in
        record {
          forward = omega arith;
          inside = omega arith;
          local = λ g hg ag le. rw (S.local g hg (λ i lo hi. ag i lo (omega arith)) (omega arith)) eq;
          short = λ g hg ag lt. why-then (r g at) _ (S.short g hg (λ i lo hi. ag i lo (omega arith)) (omega arith));
        }
    go f at v e h (no n p) er eq = not-got eq

pub if-faithful : {A : Type 0} (b : Bool) {r q : Reader A} → Faithful r → Faithful q → Faithful (when b then r else q)
unfolding when◌then◌else◌
if-faithful true R Q = R
if-faithful false R Q = Q

pub only-faithful : {A : Type 0} (b : Bool) {r : Reader A} → Faithful r → Faithful (only b r)
unfolding only
only-faithful true R = bind-faithful R λ a. give-faithful (some a)
only-faithful false R = give-faithful none

pub each-faithful :
    {S X A : Type 0} {read : S → X → Reader A} (after : S → A → S) → ((s : S) (x : X) → Faithful (read s x)) → (xs : List X) (s : S)
    → Faithful (each read after xs s)
unfolding each
each-faithful after R [] s = give-faithful []
each-faithful after R (x ∷ xs) s = bind-faithful (R s x) λ a. bind-faithful (each-faithful after R xs (after s a)) λ more. give-faithful (a ∷ more)

pub times-faithful :
    {S A : Type 0} {read : S → Reader A} (after : S → A → S) → ((s : S) → Faithful (read s)) → (n : ℕ) (s : S) → Faithful (times n read after s)
unfolding times
times-faithful after R n s = each-faithful after (λ s x. R s) (replicate n (tt {0})) s

pub repeat-faithful : {A : Type 0} (n : ℕ) {r : Reader A} → Faithful r → Faithful (repeat n r)
unfolding repeat
repeat-faithful n {r} R = times-faithful {read = λ (u : Unit {0}). r} (λ u a. u) (λ u. R) n tt

-- ── bytes and regions ──

part_length : (n at : ℕ) (f : List ℕ) → at + n ≤ length f → length (take n (drop at f)) ≡ n
part_length n at f h = simp (length-take, length-drop) (omega arith)

part_same : (n at : ℕ) (f g : List ℕ) → at + n ≤ length f → at + n ≤ length g → Agree f g at (at + n) → take n (drop at f) ≡ take n (drop at g)
part_same n at f g hf hg ag =
    ext_get_or 0 (take n (drop at f)) (take n (drop at g)) (part_length n at f hf ∙ sym (part_length n at g hg))
    λ i hi. let hi' : i < n = omega (arith, part_length n at f hf) in
    rw (get_or-take, get_or-drop, get_or-take, get_or-drop) (ag (at + i) (omega arith) (omega arith) (omega arith))

pub bytes-faithful : (n : ℕ) → Faithful (bytes n)
unfolding bytes when◌then◌else◌
bytes-faithful n = record { at = λ f at v e h q. go f at v e h (leb (at + n) (length f)) refl q }
  where
    go :
        (f : List ℕ) (at : ℕ) (v : List ℕ) (e : ℕ) → at ≤ length f → (b : Bool) → leb (at + n) (length f) ≡ b
        → (when b then got (take n (drop at f)) (at + n) else no 1 at) ≡ got v e → Stays (bytes n) f at v e
    go f at v e h true t eq =
        let le = leb-true (at + n) (length f) t in
        let z : at + n ≡ e = cc eq in
        record {
          forward = omega arith;
          inside = omega arith;
          local = λ g hg ag ge.
              rw (le-leb (at + n) (length g) (omega arith), ← part_same n at f g le (omega arith) (λ i lo hi. ag i lo (omega arith))) eq;
          short = λ g hg ag lt. rw (lt-leb (at + n) (length g) (omega arith));
        }
    go f at v e h false t eq = not-got eq

-- whatever is read from the part
pub part-faithful : {A : Type 0} (n : ℕ) (r : Reader A) → Faithful (part n r)
unfolding part when◌then◌else◌
part-faithful {A} n r = record { at = λ f at v e h q. go f at v e h (leb (at + n) (length f)) refl q }
  where
    full : (at m : ℕ) (a : A) (v : A) (e : ℕ) (b : Bool) → (when b then got a (at + n) else no 12 (at + m)) ≡ got v e → at + n ≡ e
    full at m a v e true h = cc h
    full at m a v e false h = not-got h

    ends : (at : ℕ) (o : Out A) (v : A) (e : ℕ) → filled at n o ≡ got v e → at + n ≡ e
    ends at (got a m) v e h = full at m a v e (eqb m n) h
    ends at (no k p) v e h = not-got h

    go :
        (f : List ℕ) (at : ℕ) (v : A) (e : ℕ) → at ≤ length f → (b : Bool) → leb (at + n) (length f) ≡ b
        → (when b then filled at n (r (take n (drop at f)) 0) else no 1 at) ≡ got v e → Stays (part n r) f at v e
    go f at v e h true t eq =
        let le = leb-true (at + n) (length f) t in
        let z = ends at (r (take n (drop at f)) 0) v e eq in
        record {
          forward = omega arith;
          inside = omega arith;
          local = λ g hg ag ge.
              rw (le-leb (at + n) (length g) (omega arith), ← part_same n at f g le (omega arith) (λ i lo hi. ag i lo (omega arith))) eq;
          short = λ g hg ag lt. rw (lt-leb (at + n) (length g) (omega arith));
        }
    go f at v e h false t eq = not-got eq

-- a reading that passes over the bytes that are asked for
pub within-faithful :
    {A : Type 0} (n : ℕ) {r : Reader A} → Faithful r → ((f : List ℕ) (at : ℕ) (v : A) (e : ℕ) → r f at ≡ got v e → at + n ≤ e) → Faithful (within n r)
unfolding within when◌then◌else◌
within-faithful {A} n {r} R covers = record { at = λ f at v e h q. go f at v e h (leb (at + n) (length f)) q }
  where
    go :
        (f : List ℕ) (at : ℕ) (v : A) (e : ℕ) → at ≤ length f → (b : Bool) → (when b then r f at else no 1 at) ≡ got v e → Stays (within n r) f at v e
    go f at v e h true eq =
        let S = R.at f at v e h eq in
        let c = covers f at v e eq in
        record {
          forward = S.forward;
          inside = S.inside;
          local = λ g hg ag le. rw (le-leb (at + n) (length g) (omega arith)) (S.local g hg ag le);
          short = λ g hg ag lt. cut g (leb (at + n) (length g)) (S.short g hg ag lt);
        }
      where
        cut : (g : List ℕ) (b : Bool) → why (r g at) ≡ 1 → why (when b then r g at else no 1 at) ≡ 1
        cut g true w = w
        cut g false w = refl
    go f at v e h false eq = not-got eq

pub start-got : {A : Type 0} (at : ℕ) (o : Out A) {v : A} {e : ℕ} → from_start at o ≡ got v e → o ≡ got v e
start-got at (got a m) h = h
start-got at (no n p) h = not-got h

start-why : {A : Type 0} (at : ℕ) (o : Out A) → why (from_start at o) ≡ why o
start-why at (got a e) = refl
start-why at (no n p) = refl

pub started-faithful : {A : Type 0} {r : Reader A} → Faithful r → Faithful (started r)
unfolding started
started-faithful {r} R =
    record {
      at = λ f at v e h q. let S = R.at f at v e h (start-got at (r f at) q) in
          record {
            forward = S.forward;
            inside = S.inside;
            local = λ g hg ag le. ap (from_start at) (S.local g hg ag le);
            short = λ g hg ag lt. start-why at (r g at) ∙ S.short g hg ag lt;
          };
    }

pub ruleset faithful = (
  bind-faithful,
  then-faithful,
  give-faithful,
  must-faithful,
  started-faithful,
  if-faithful,
  only-faithful,
  each-faithful,
  times-faithful,
  repeat-faithful,
  bytes-faithful,
  part-faithful,
)

-- ── what a reading that gave a value went through ──

pub record Bound {A B : Type 0} (r : Reader A) (k : A → Reader B) (f : List ℕ) (at : ℕ) (v : B) (e : ℕ) : Type 0 where
  pub value : A
  pub next : ℕ
  pub first : r f at ≡ got value next
  pub rest : k value f next ≡ got v e

pub bind_inv :
    {A B : Type 0} (r : Reader A) (k : A → Reader B) (f : List ℕ) (at : ℕ) (v : B) (e : ℕ) → (r >>= k) f at ≡ got v e → Bound r k f at v e
unfolding ◌>>=◌
bind_inv {A} r k f at v e h = go (r f at) refl h
  where
    go : (o : Out A) → r f at ≡ o → and_then o (λ a. k a f) ≡ got v e → Bound r k f at v e
    go (got a m) er eq = record { value = a; next = m; first = er; rest = eq }
    go (no n p) er eq = not-got eq

pub bind-got :
    {A B : Type 0} (r : Reader A) (k : A → Reader B) (f : List ℕ) (at : ℕ) {a : A} {m : ℕ} → r f at ≡ got a m → (r >>= k) f at ≡ k a f m
unfolding ◌>>=◌
bind-got r k f at h = rw h

pub bind-why : {A B : Type 0} (r : Reader A) (k : A → Reader B) (f : List ℕ) (at : ℕ) → why (r f at) ≡ 1 → why ((r >>= k) f at) ≡ 1
unfolding ◌>>=◌
bind-why r k f at h = why-then (r f at) _ h

-- what a reading of one and more went through
pub record First {S X A : Type 0} (read : S → X → Reader A) (after : S → A → S) (x : X) (xs : List X) (s : S) (f : List ℕ) (at : ℕ) (l : List A) (e : ℕ) : Type 0 where
  pub value : A
  pub next : ℕ
  pub more : List A
  pub first : read s x f at ≡ got value next
  pub rest : each read after xs (after s value) f next ≡ got more e
  pub is : l ≡ value ∷ more

pub each-inv :
    {S X A : Type 0} (read : S → X → Reader A) (after : S → A → S) (x : X) (xs : List X) (s : S) (f : List ℕ) (at : ℕ) (l : List A) (e : ℕ)
    → each read after (x ∷ xs) s f at ≡ got l e → First read after x xs s f at l e
unfolding each give
each-inv read after x xs s f at l e q =
    let P = bind_inv (read s x) _ f at l e q in
    let Q = bind_inv (each read after xs (after s P.value)) _ f P.next l e P.rest in
    let z : Q.next ≡ e = cc Q.rest in
    record {
      value = P.value;
      next = P.next;
      more = Q.value;
      first = P.first;
      rest = Q.first ∙ ap (λ (n : ℕ). got Q.value n) z;
      is = cc Q.rest;
    }

pub then-inv : {A B : Type 0} (r : Reader A) (q : Reader B) (f : List ℕ) (at : ℕ) (v : B) (e : ℕ) → (r >> q) f at ≡ got v e → Bound r (λ a. q) f at v e
unfolding ◌>>◌ ◌>>=◌
then-inv r q f at v e h = bind_inv r (λ a. q) f at v e h

-- what a part that was read went through
pub record Filled {A : Type 0} (n : ℕ) (r : Reader A) (f : List ℕ) (at : ℕ) (v : A) (e : ℕ) : Type 0 where
  pub room : at + n ≤ length f
  pub reads : r (take n (drop at f)) 0 ≡ got v n
  pub ends : e ≡ at + n

pub part-inv : {A : Type 0} (n : ℕ) (r : Reader A) (f : List ℕ) (at : ℕ) (v : A) (e : ℕ) → part n r f at ≡ got v e → Filled n r f at v e
unfolding part when◌then◌else◌
part-inv {A} n r f at v e q = go (leb (at + n) (length f)) refl q
  where
    full :
        at + n ≤ length f → (a : A) (m : ℕ) → r (take n (drop at f)) 0 ≡ got a m → (t : Bool) → eqb m n ≡ t
        → (when t then got a (at + n) else no 12 (at + m)) ≡ got v e → Filled n r f at v e
    full le a m x true t q =
        let w : m ≡ n = eqb-true m n t in
        let y : a ≡ v = cc q in
        record { room = le; reads = x ∙ ap (λ (z : A). got z m) y ∙ ap (λ (z : ℕ). got v z) w; ends = cc q }
    full le a m x false t q = not-got q

    out : at + n ≤ length f → (o : Out A) → r (take n (drop at f)) 0 ≡ o → filled at n o ≡ got v e → Filled n r f at v e
    out le (got a m) x q = full le a m x (eqb m n) refl q
    out le (no k p) x q = not-got q

    go : (t : Bool) → leb (at + n) (length f) ≡ t → (when t then filled at n (r (take n (drop at f)) 0) else no 1 at) ≡ got v e → Filled n r f at v e
    go true t q = out (leb-true (at + n) (length f) t) (r (take n (drop at f)) 0) refl q
    go false t q = not-got q

pub within-inv : {A : Type 0} (n : ℕ) (r : Reader A) (f : List ℕ) (at : ℕ) (v : A) (e : ℕ) → within n r f at ≡ got v e → r f at ≡ got v e
unfolding within when◌then◌else◌
within-inv n r f at v e q = go (leb (at + n) (length f)) q
  where
    go : (b : Bool) → (when b then r f at else no 1 at) ≡ got v e → r f at ≡ got v e
    go true q = q
    go false q = not-got q

-- What the bytes that a reader goes through say of the value that it gives. Assumes nothing.
use Rattle.std.specs.Prelude.{◌≡◌, refl, Bool, true, false, List, [], ◌∷◌, ◌++◌, ℕ, zero, suc, ◌+◌, ◌-◌, ◌≤◌, ◌<◌, leb, eqb, length, take, drop, replicate}
use Rattle.std.proofs.Common.{ap, append-nil, arith, length-take, length-drop, take-add, drop-drop, take_all, leb-true, eqb-true}
use Rattle.std.proofs.Math.Option.{Option, none, some}
use Rattle.std.proofs.Math.Nat.{sub-zero}
use Rattle.paper.specs.Reader.{when◌then◌else◌, Reader, Out, got, no, and_then, ◌>>=◌, ◌>>◌, give, hold, must, started, within, Rule, ◌or_no◌, bytes, each, times, only, filled, part}
use Rattle.laws.specs.Laws.{not-got, start-got}

-- ── bytes ──

abbrev pub Bytes : List ℕ → Type 0
Bytes [] = Unit {0}
Bytes (b ∷ bs) = (b < 256) × Bytes bs

pub bytes_take : (n : ℕ) (l : List ℕ) → Bytes l → Bytes (take n l)
bytes_take zero l h = tt
bytes_take (suc n) [] h = tt
bytes_take (suc n) (b ∷ l) h = (h.0, bytes_take n l h.1)

pub bytes_drop : (n : ℕ) (l : List ℕ) → Bytes l → Bytes (drop n l)
bytes_drop zero l h = h
bytes_drop (suc n) [] h = tt
bytes_drop (suc n) (b ∷ l) h = bytes_drop n l h.1

-- from `at` to `e`
abbrev pub span : List ℕ → ℕ → ℕ → List ℕ
span f at e = take (e - at) (drop at f)

pub span-join : (f : List ℕ) (at m e : ℕ) → at ≤ m → m ≤ e → span f at e ≡ span f at m ++ span f m e
span-join f at m e h k =
    let x : e - at ≡ (m - at) + (e - m) = omega arith in
    let y : at + (m - at) ≡ m = omega arith in
    rw (x, take-add, drop-drop, y)

-- ── the law ──

pub record Said {A : Type 0} (P : A → List ℕ → Type 0) (f : List ℕ) (at : ℕ) (v : A) (e : ℕ) : Type 0 where
  pub forward : at ≤ e
  pub inside : e ≤ length f
  pub said : P v (span f at e)

pub record Says {A : Type 0} (r : Reader A) (P : A → List ℕ → Type 0) : Type 0 where
  pub at : (f : List ℕ) (at : ℕ) (v : A) (e : ℕ) → Bytes f → at ≤ length f → r f at ≡ got v e → Said P f at v e

pub weaker : {A : Type 0} {r : Reader A} {P : A → List ℕ → Type 0} (Q : A → List ℕ → Type 0) → ((a : A) (cs : List ℕ) → P a cs → Q a cs) → Says r P → Says r Q
weaker Q imp R =
    record {
      at = λ f at v e b h q. let S = R.at f at v e b h q in
          record { forward = S.forward; inside = S.inside; said = imp v (span f at e) S.said };
    }

pub give-says : {A : Type 0} (a : A) (P : A → List ℕ → Type 0) → P a [] → Says (give a) P
unfolding give
give-says {A} a P p = record { at = go }
  where
    go : (f : List ℕ) (at : ℕ) (v : A) (e : ℕ) → Bytes f → at ≤ length f → got a at ≡ got v e → Said P f at v e
    go f at v e b h q =
        let z : at ≡ e = cc q in
        let y : a ≡ v = cc q in
        let n : e - at ≡ 0 = omega arith in
        record { forward = omega arith; inside = omega arith; said = rw (n, ← y) p }

pub bind-says :
    {A B : Type 0} {r : Reader A} {k : A → Reader B} {P : A → List ℕ → Type 0} (Q : B → List ℕ → Type 0) → Says r P
    → ((a : A) (cs : List ℕ) → P a cs → Says (k a) (λ v ds. Q v (cs ++ ds))) → Says (r >>= k) Q
unfolding ◌>>=◌
bind-says {A} {B} {r} {k} {P} Q R K = record { at = λ f at v e b h q. go f at v e b h (r f at) refl q }
  where
    go :
        (f : List ℕ) (at : ℕ) (v : B) (e : ℕ) → Bytes f → at ≤ length f → (o : Out A) → r f at ≡ o → and_then o (λ a. k a f) ≡ got v e
        → Said Q f at v e
    go f at v e b h (got a m) er eq =
        let S = R.at f at a m b h er in
        let U = (K a (span f at m) S.said).at f m v e b S.inside eq in
        let fw = S.forward in
        let fw' = U.forward in
        record { forward = omega arith; inside = U.inside; said = rw (span-join f at m e fw fw') U.said }
    go f at v e b h (no n p) er eq = not-got eq

abbrev pub Held : List Rule → Type 0
Held [] = Unit {0}
Held ((b or_no n) ∷ rs) = (b ≡ true) × Held rs

held : {A : Type 0} (rs : List Rule) (p : ℕ) (a v : A) (m e : ℕ) → hold rs p (got a m) ≡ got v e → (got a m ≡ got v e) × Held rs
held [] p a v m e h = (h, tt)
held ((true or_no n) ∷ rs) p a v m e h = let r = held rs p a v m e h in (r.0, (refl, r.1))
held ((false or_no n) ∷ rs) p a v m e h = not-got h

pub must-says :
    {A : Type 0} {r : Reader A} {P : A → List ℕ → Type 0} (rules : A → List Rule) → Says r P → Says (must r rules) (λ v cs. P v cs × Held (rules v))
unfolding must
must-says {A} {r} {P} rules R = record { at = λ f at v e b h q. go f at v e b h (r f at) refl q }
  where
    go :
        (f : List ℕ) (at : ℕ) (v : A) (e : ℕ) → Bytes f → at ≤ length f → (o : Out A) → r f at ≡ o
        → and_then o (λ a m. hold (rules a) at (got a m)) ≡ got v e → Said (λ v cs. P v cs × Held (rules v)) f at v e
    go f at v e b h (got a m) er eq =
        let H = held (rules a) at a v m e eq in
        let z : m ≡ e = cc H.0 in
        let y : a ≡ v = cc H.0 in
        let S = R.at f at a m b h er in
        record { forward = omega (arith, S.forward); inside = omega (arith, S.inside); said = rw (← y, ← z) (S.said, H.1) }
    go f at v e b h (no n p) er eq = not-got eq

pub started-says : {A : Type 0} {r : Reader A} {P : A → List ℕ → Type 0} → Says r P → Says (started r) P
unfolding started
started-says {r} R = record { at = λ f at v e b h q. R.at f at v e b h (start-got at (r f at) q) }

pub if-says :
    {A : Type 0} (b : Bool) {r q : Reader A} {P : A → List ℕ → Type 0} → (b ≡ true → Says r P) → (b ≡ false → Says q P) → Says (when b then r else q) P
unfolding when◌then◌else◌
if-says true R Q = R refl
if-says false R Q = Q refl

pub only-says :
    {A : Type 0} (b : Bool) {r : Reader A} (P : Option A → List ℕ → Type 0) → (b ≡ true → Says r (λ a cs. P (some a) (cs ++ []))) → (b ≡ false → P none [])
    → Says (only b r) P
unfolding only
only-says true P R Q = bind-says P (R refl) λ a cs p. give-says (some a) _ p
only-says false P R Q = give-says none P (Q refl)

pub bytes-says : (n : ℕ) → Says (bytes n) (λ bs cs. (bs ≡ cs) × Bytes bs × (length bs ≡ n))
unfolding bytes when◌then◌else◌
bytes-says n = record { at = λ f at v e b h q. go f at v e b h (leb (at + n) (length f)) refl q }
  where
    go :
        (f : List ℕ) (at : ℕ) (v : List ℕ) (e : ℕ) → Bytes f → at ≤ length f → (t : Bool) → leb (at + n) (length f) ≡ t
        → (when t then got (take n (drop at f)) (at + n) else no 1 at) ≡ got v e → Said (λ bs cs. (bs ≡ cs) × Bytes bs × (length bs ≡ n)) f at v e
    go f at v e b h true t eq =
        let le = leb-true (at + n) (length f) t in
        let z : at + n ≡ e = cc eq in
        let y : take n (drop at f) ≡ v = cc eq in
        let x : e - at ≡ n = omega arith in
        record {
          forward = omega arith;
          inside = omega arith;
          said = rw (← y, x) (refl, bytes_take n (drop at f) (bytes_drop at f b), simp (length-take, length-drop) (omega arith));
        }
    go f at v e b h false t eq = not-got eq

-- the part is all that is read
pub part_says : {A : Type 0} (n : ℕ) {r : Reader A} {P : A → List ℕ → Type 0} → Says r P → Says (part n r) P
unfolding part when◌then◌else◌
part_says {A} n {r} {P} R = record { at = λ f at v e b h q. go f at v e b h (leb (at + n) (length f)) refl q }
  where
    full :
        (f : List ℕ) (at : ℕ) (v : A) (e : ℕ) → Bytes f → at + n ≤ length f → (a : A) (m : ℕ) → r (take n (drop at f)) 0 ≡ got a m → (t : Bool)
        → eqb m n ≡ t → (when t then got a (at + n) else no 12 (at + m)) ≡ got v e → Said P f at v e
    full f at v e b le a m er true t eq =
        let S = R.at (take n (drop at f)) 0 a m (bytes_take n (drop at f) (bytes_drop at f b)) (omega arith) er in
        let z : at + n ≡ e = cc eq in
        let y : a ≡ v = cc eq in
        let x : e - at ≡ n = omega arith in
        let w : m ≡ n = eqb-true m n t in
        let len : length (take n (drop at f)) ≡ n = simp (length-take, length-drop) (omega arith) in
        let s : P a (take n (drop at f)) = rw (w, sub-zero, take_all n (take n (drop at f)) (omega arith)) at S.said in
        record { forward = omega arith; inside = omega arith; said = rw (x, ← y) s }
    full f at v e b le a m er false t eq = not-got eq

    out :
        (f : List ℕ) (at : ℕ) (v : A) (e : ℕ) → Bytes f → at + n ≤ length f → (o : Out A) → r (take n (drop at f)) 0 ≡ o
        → filled at n o ≡ got v e → Said P f at v e
    out f at v e b le (got a m) er eq = full f at v e b le a m er (eqb m n) refl eq
    out f at v e b le (no k p) er eq = not-got eq

    go :
        (f : List ℕ) (at : ℕ) (v : A) (e : ℕ) → Bytes f → at ≤ length f → (t : Bool) → leb (at + n) (length f) ≡ t
        → (when t then filled at n (r (take n (drop at f)) 0) else no 1 at) ≡ got v e → Said P f at v e
    go f at v e b h true t eq = out f at v e b (leb-true (at + n) (length f) t) (r (take n (drop at f)) 0) refl eq
    go f at v e b h false t eq = not-got eq

-- ── one after the other ──

-- each of the values stands in its relation to the state before it, to what it was read for, and to its bytes
abbrev pub Run : {S X A : Type 0} → (S → X → A → List ℕ → Type 0) → (S → A → S) → List X → S → List A → List ℕ → Type 0
Run R after [] s [] cs = cs ≡ []
Run R after [] s (a ∷ l) cs = ⊥
Run R after (x ∷ xs) s [] cs = ⊥
Run R after (x ∷ xs) s (a ∷ l) cs = (c : List ℕ) × (d : List ℕ) × (cs ≡ c ++ d) × R s x a c × Run R after xs (after s a) l d

pub each-says :
    {S X A : Type 0} {read : S → X → Reader A} (after : S → A → S) (R : S → X → A → List ℕ → Type 0) → ((s : S) (x : X) → Says (read s x) (R s x))
    → (xs : List X) (s : S) → Says (each read after xs s) (Run R after xs s)
unfolding each
each-says after R h [] s = give-says [] _ refl
each-says after R h (x ∷ xs) s =
    bind-says _ (h s x) λ a c p. bind-says _ (each-says after R h xs (after s a)) λ l d q. give-says (a ∷ l) _ (c, d, ap (λ (z : List ℕ). c ++ z) (append-nil d), p, q)

pub then-says :
    {A B : Type 0} {r : Reader A} {q : Reader B} {P : A → List ℕ → Type 0} (Q : B → List ℕ → Type 0) → Says r P
    → ((a : A) (cs : List ℕ) → P a cs → Says q (λ v ds. Q v (cs ++ ds))) → Says (r >> q) Q
unfolding ◌>>◌ ◌>>=◌
then-says {r} {q} Q R K = bind-says {r = r} {k = λ a. q} Q R K

pub within-says : {A : Type 0} (n : ℕ) {r : Reader A} {P : A → List ℕ → Type 0} → Says r P → Says (within n r) P
unfolding within when◌then◌else◌
within-says {A} n {r} {P} R = record { at = λ f at v e b h q. go f at v e b h (leb (at + n) (length f)) q }
  where
    go :
        (f : List ℕ) (at : ℕ) (v : A) (e : ℕ) → Bytes f → at ≤ length f → (t : Bool) → (when t then r f at else no 1 at) ≡ got v e → Said P f at v e
    go f at v e b h true q = R.at f at v e b h q
    go f at v e b h false q = not-got q

pub times-says :
    {S A : Type 0} {read : S → Reader A} (after : S → A → S) (R : S → A → List ℕ → Type 0) → ((s : S) → Says (read s) (R s)) → (n : ℕ) (s : S)
    → Says (times n read after s) (Run (λ s x. R s) after (replicate n (tt {0})) s)
unfolding times
times-says after R h n s = each-says after (λ s x. R s) (λ s x. h s) (replicate n (tt {0})) s

pub both_say : {A : Type 0} {r : Reader A} {P Q : A → List ℕ → Type 0} → Says r P → Says r Q → Says r (λ v cs. P v cs × Q v cs)
both_say R S =
    record {
      at = λ f at v e b h q. let X = R.at f at v e b h q in
          record { forward = X.forward; inside = X.inside; said = (X.said, (S.at f at v e b h q).said) };
    }

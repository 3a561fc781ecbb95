-- What is written is read: the laws, closed under the ways in which readers are put flat. Assumes nothing.
use Rattle.std.specs.Prelude.{◌≡◌, refl, Bool, true, false, List, [], ◌∷◌, ◌++◌, ℕ, ◌+◌, ◌≤◌, length, drop, replicate}
use Rattle.std.proofs.Common.{sym, ◌∙◌, ap, subst, append_assoc, append-nil, arith, length-append, length-drop, drop-drop, take_at, le-leb, eq-eqb}
use Rattle.std.proofs.Math.Option.{none, some}
use Rattle.std.proofs.Math.Seq.{drop-append_seam}
use Rattle.paper.specs.Reader.{when◌then◌else◌, Reader, Out, got, ◌>>=◌, ◌>>◌, give, hold, must, from_start, started, within, Rule, ◌or_no◌, bytes, each, times, only, part}
use Rattle.laws.specs.Says.{Bytes, Held}
use Rattle.paper.specs.Lists.{flat}

-- where these bytes stand the reader gives the value, and goes over them
pub record Takes {A : Type 0} (r : Reader A) (cs : List ℕ) (v : A) : Type 0 where
  pub bytes : Bytes cs
  pub at : (f : List ℕ) (p : ℕ) (rest : List ℕ) → p ≤ length f → drop p f ≡ cs ++ rest → r f p ≡ got v (p + length cs)

pub takes-as : {A : Type 0} {r : Reader A} {cs ds : List ℕ} {v : A} → cs ≡ ds → Takes r cs v → Takes r ds v
takes-as {r} {v} q t = subst (λ (z : List ℕ). Takes r z v) q t

pub takes-is : {A : Type 0} {r : Reader A} {cs : List ℕ} {v w : A} → v ≡ w → Takes r cs v → Takes r cs w
takes-is {r} {cs} q t = subst (λ z. Takes r cs z) q t

pub give-takes : {A : Type 0} (a : A) → Takes (give a) [] a
unfolding give
give-takes a = record { bytes = tt; at = λ f p rest h q. ap (got a) (omega arith) }

pub after-length : (f : List ℕ) (p : ℕ) (cs rest : List ℕ) → p ≤ length f → drop p f ≡ cs ++ rest → p + length cs ≤ length f
after-length f p cs rest h q =
    let n : length (drop p f) ≡ length (cs ++ rest) = ap length q in
    omega (arith, length-drop p f, length-append cs rest)

pub after-drop : (f : List ℕ) (p : ℕ) (cs rest : List ℕ) → drop p f ≡ cs ++ rest → drop (p + length cs) f ≡ rest
after-drop f p cs rest q = sym (drop-drop (length cs) p f) ∙ ap (drop (length cs)) q ∙ drop-append_seam cs rest

pub bytes-append : (cs ds : List ℕ) → Bytes cs → Bytes ds → Bytes (cs ++ ds)
bytes-append [] ds h k = k
bytes-append (c ∷ cs) ds h k = (h.0, bytes-append cs ds h.1 k)

pub bind-takes :
    {A B : Type 0} {r : Reader A} (k : A → Reader B) {cs ds : List ℕ} {a : A} {b : B} → Takes r cs a → Takes (k a) ds b → Takes (r >>= k) (cs ++ ds) b
unfolding ◌>>=◌
bind-takes {A} {B} {r} k {cs} {ds} {a} {b} R K =
    record {
      bytes = bytes-append cs ds R.bytes K.bytes;
      at = λ f p rest h q.
          let q' : drop p f ≡ cs ++ (ds ++ rest) = q ∙ append_assoc cs ds rest in
          let n : p + length cs + length ds ≡ p + length (cs ++ ds) = omega (arith, length-append cs ds) in
          rw (R.at f p (ds ++ rest) h q')
          (K.at f (p + length cs) rest (after-length f p cs (ds ++ rest) h q') (after-drop f p cs (ds ++ rest) q') ∙ ap (got b) n);
    }

pub then-takes :
    {A B : Type 0} {r : Reader A} {k : Reader B} {cs ds : List ℕ} {a : A} {b : B} → Takes r cs a → Takes k ds b → Takes (r >> k) (cs ++ ds) b
unfolding ◌>>◌ ◌>>=◌
then-takes {r} {k} R K = bind-takes {r = r} (λ a. k) R K

pub held-passes : {A : Type 0} (rs : List Rule) (p : ℕ) (o : Out A) → Held rs → hold rs p o ≡ o
held-passes [] p o h = refl
held-passes ((true or_no n) ∷ rs) p o h = held-passes rs p o h.1
held-passes ((false or_no n) ∷ rs) p o h = let z : ◌≡◌ {A = ℕ} 0 1 = cc h.0 in absurd (omega arith)

pub must-takes : {A : Type 0} {r : Reader A} (rules : A → List Rule) {cs : List ℕ} {v : A} → Held (rules v) → Takes r cs v → Takes (must r rules) cs v
unfolding must
must-takes rules {cs} {v} h R =
    record { bytes = R.bytes; at = λ f p rest le q. rw (R.at f p rest le q) (held-passes (rules v) p (got v (p + length cs)) h) }

pub within-takes : {A : Type 0} (n : ℕ) {r : Reader A} {cs : List ℕ} {v : A} → n ≤ length cs → Takes r cs v → Takes (within n r) cs v
unfolding within when◌then◌else◌
within-takes n {r} {cs} le R =
    record {
      bytes = R.bytes;
      at = λ f p rest h q.
          let fits : p + n ≤ length f = omega (arith, after-length f p cs rest h q) in
          rw (le-leb (p + n) (length f) fits) (R.at f p rest h q);
    }

pub started-takes : {A : Type 0} {r : Reader A} {cs : List ℕ} {v : A} → Takes r cs v → Takes (started r) cs v
unfolding started
started-takes R = record { bytes = R.bytes; at = λ f p rest le q. ap (from_start p) (R.at f p rest le q) }

pub if-takes-true : {A : Type 0} {b : Bool} {r : Reader A} (q : Reader A) {cs : List ℕ} {v : A} → b ≡ true → Takes r cs v → Takes (when b then r else q) cs v
unfolding when◌then◌else◌
if-takes-true q t R = rw t R

pub if-takes-false : {A : Type 0} {b : Bool} (r : Reader A) {q : Reader A} {cs : List ℕ} {v : A} → b ≡ false → Takes q cs v → Takes (when b then r else q) cs v
unfolding when◌then◌else◌
if-takes-false r t R = rw t R

pub only-takes-some : {A : Type 0} {b : Bool} {r : Reader A} {cs : List ℕ} {v : A} → b ≡ true → Takes r cs v → Takes (only b r) cs (some v)
unfolding only
only-takes-some {r} {cs} {v} t R = rw t (takes-as (append-nil cs) (bind-takes {r = r} _ R (give-takes (some v))))

pub only-takes-none : {A : Type 0} {b : Bool} (r : Reader A) → b ≡ false → Takes (only b r) [] none
unfolding only
only-takes-none r t = rw t (give-takes none)

pub bytes-takes : (n : ℕ) (bs : List ℕ) → Bytes bs → length bs ≡ n → Takes (bytes n) bs bs
unfolding bytes when◌then◌else◌
bytes-takes n bs b e =
    record {
      bytes = b;
      at = λ f p rest h q.
          let le : p + n ≤ length f = omega (arith, after-length f p bs rest h q) in
          rw (le-leb (p + n) (length f) le, q, take_at bs rest n e, e);
    }

pub part-takes : {A : Type 0} (n : ℕ) {r : Reader A} {cs : List ℕ} {v : A} → length cs ≡ n → Takes r cs v → Takes (part n r) cs v
unfolding part when◌then◌else◌
part-takes n {r} {cs} {v} e R =
    record {
      bytes = R.bytes;
      at = λ f p rest h q.
          let le : p + n ≤ length f = omega (arith, after-length f p cs rest h q) in
          let x : r cs 0 ≡ got v (0 + length cs) = R.at cs 0 [] (omega arith) (sym (append-nil cs)) in
          rw (le-leb (p + n) (length f) le, q, take_at cs rest n e, x, eq-eqb (0 + length cs) n (omega arith), e);
    }

-- one after the other: `w` writes each, in the state before it
unfoldable pub written : {S A B : Type 0} → (S → A → List B) → (S → A → S) → S → List A → List B
written w after s [] = []
written w after s (a ∷ l) = w s a ++ written w after (after s a) l

-- each of a list is taken, in the state before it
abbrev pub All₂ : {S X A : Type 0} → (S → X → A → Type 0) → (S → A → S) → List X → S → List A → Type 0
All₂ R after [] s [] = Unit {0}
All₂ R after [] s (a ∷ l) = ⊥
All₂ R after (x ∷ xs) s [] = ⊥
All₂ R after (x ∷ xs) s (a ∷ l) = R s x a × All₂ R after xs (after s a) l

pub each-takes :
    {S X A : Type 0} (read : S → X → Reader A) (after : S → A → S) (w : S → A → List ℕ) (xs : List X) (s : S) (l : List A)
    → All₂ (λ s x a. Takes (read s x) (w s a) a) after xs s l → Takes (each read after xs s) (written w after s l) l
unfolding each written
each-takes read after w [] s [] h = give-takes []
each-takes read after w [] s (a ∷ l) h = absurd h
each-takes read after w (x ∷ xs) s [] h = absurd h
each-takes read after w (x ∷ xs) s (a ∷ l) h =
    bind-takes _ h.0 (takes-as (append-nil _) (bind-takes _ (each-takes read after w xs (after s a) l h.1) (give-takes (a ∷ l))))

abbrev pub All₁ : {S A : Type 0} → (S → A → Type 0) → (S → A → S) → S → List A → Type 0
All₁ R after s [] = Unit {0}
All₁ R after s (a ∷ l) = R s a × All₁ R after (after s a) l

all_replicate : {S A : Type 0} (R : S → A → Type 0) (after : S → A → S) (s : S) (l : List A) → All₁ R after s l → All₂ (λ s (x : Unit {0}). R s) after (replicate (length l) tt) s l
all_replicate R after s [] h = tt
all_replicate R after s (a ∷ l) h = (h.0, all_replicate R after (after s a) l h.1)

pub times-takes :
    {S A : Type 0} (read : S → Reader A) (after : S → A → S) (w : S → A → List ℕ) (n : ℕ) (s : S) (l : List A) → length l ≡ n
    → All₁ (λ s a. Takes (read s) (w s a) a) after s l → Takes (times n read after s) (written w after s l) l
unfolding times
times-takes {S} {A} read after w n s l e h =
    rw (← e) (each-takes (λ s x. read s) after w (replicate (length l) (tt {0})) s l (all_replicate (λ s a. Takes (read s) (w s a) a) after s l h))

pub written-flat : {S A B : Type 0} (w : A → List B) (after : S → A → S) (s : S) (l : List A) → written (λ s. w) after s l ≡ flat w l
unfolding written flat
written-flat w after s [] = refl
written-flat {B} w after s (a ∷ l) = ap (λ (z : List B). w a ++ z) (written-flat w after (after s a) l)

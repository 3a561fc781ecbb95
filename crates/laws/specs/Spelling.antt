-- Pieces and their bytes: put together and taken apart; and a reader that takes pieces in whatever way they are spelt. Assumes nothing.
use Rattle.std.specs.Prelude.{◌≡◌, refl, Bool, true, false, List, [], ◌∷◌, ◌++◌, ℕ, suc, ◌≤◌, ◌<◌, length, replicate}
use Rattle.std.proofs.Common.{sym, ◌∙◌, ap, subst, append_assoc, append-nil, arith}
use Rattle.std.proofs.Math.Option.{none, some}
use Rattle.paper.specs.Reader.{when◌then◌else◌, Reader, ◌>>=◌, give, must, Rule, each, times, repeat, only}
use Rattle.paper.specs.Numbers.{low_first}
use Rattle.paper.specs.Lists.{all, flat}
use Rattle.paper.specs.Pieces.{Piece, num, raw, free, firm}
use Rattle.paper.specs.Spell.{Coding, more, Spelt, done, number, bytes}
use Rattle.laws.specs.Says.{Says, Held}
use Rattle.laws.specs.Takes.{Takes, takes-as, give-takes, bind-takes, must-takes, only-takes-some, only-takes-none, written, written-flat, All₁}
use Rattle.laws.specs.Bools.{all_split, map₁}

pub more' : {k b : ℕ} (bs : List ℕ) → 128 ≤ b → b < 256 → Coding k bs → Coding (suc k) (b ∷ bs)
more' [] h h' c = elim c [ ]
more' (x ∷ xs) h h' c = more h h' c

-- a coding has a byte
pub coding-some : {k : ℕ} (bs : List ℕ) → Coding k bs → 0 < length bs
coding-some [] c = elim c [ ]
coding-some (b ∷ bs) c = omega arith

-- ── pieces put together and taken apart ──

pub spelt-none : Spelt [] []
spelt-none = done

pub nothing-spelt : {cs : List ℕ} → Spelt [] cs → cs ≡ []
nothing-spelt done = refl

pub spelt-as : (ps : List Piece) {cs ds : List ℕ} → cs ≡ ds → Spelt ps cs → Spelt ps ds
spelt-as ps q t = subst (λ (z : List ℕ). Spelt ps z) q t

pub spelt-by : {ps qs : List Piece} {cs : List ℕ} → ps ≡ qs → Spelt ps cs → Spelt qs cs
spelt-by {cs} q t = subst (λ (z : List Piece). Spelt z cs) q t

pub spelt-join : (ps qs : List Piece) {cs ds : List ℕ} → Spelt ps cs → Spelt qs ds → Spelt (ps ++ qs) (cs ++ ds)
spelt-join [] qs done q = q
spelt-join (num n ∷ ps) qs {ds} (number c d k e t) q = spelt-as (num n ∷ ps ++ qs) (sym (append_assoc c d ds)) (number c (d ++ ds) k e (spelt-join ps qs t q))
spelt-join (raw b ∷ ps) qs {ds} (bytes c d t) q = spelt-as (raw b ∷ ps ++ qs) (sym (append_assoc c d ds)) (bytes c (d ++ ds) (spelt-join ps qs t q))

pub spelt-joins : (ps qs : List Piece) (cs ds : List ℕ) → Spelt ps cs → Spelt qs ds → Spelt (ps ++ qs) (cs ++ ds)
spelt-joins ps qs cs ds p q = spelt-join ps qs p q

-- the same with nothing behind the last
pub spelt-end : (ps : List Piece) {cs : List ℕ} → Spelt ps cs → Spelt ps (cs ++ [])
spelt-end ps {cs} t = spelt-as ps (sym (append-nil cs)) t

pub record Split (ps qs : List Piece) (cs : List ℕ) : Type 0 where
  pub front : List ℕ
  pub rest : List ℕ
  pub is : cs ≡ front ++ rest
  pub fronted : Spelt ps front
  pub rested : Spelt qs rest

split-more : {x : Piece} {ps qs : List Piece} (c d : List ℕ) (S : Split ps qs d) → Spelt (x ∷ ps) (c ++ S.front) → Split (x ∷ ps) qs (c ++ d)
split-more c d S t =
    record {
      front = c ++ S.front;
      rest = S.rest;
      is = ap (λ (z : List ℕ). c ++ z) S.is ∙ sym (append_assoc c S.front S.rest);
      fronted = t;
      rested = S.rested;
    }

pub spelt-split : (ps qs : List Piece) {cs : List ℕ} → Spelt (ps ++ qs) cs → Split ps qs cs
spelt-split [] qs {cs} t = record { front = []; rest = cs; is = refl; fronted = done; rested = t }
spelt-split (num n ∷ ps) qs (number c d k e t) = split-more c d (spelt-split ps qs t) (number c _ k e (spelt-split ps qs t).fronted)
spelt-split (raw b ∷ ps) qs (bytes c d t) = split-more c d (spelt-split ps qs t) (bytes c _ (spelt-split ps qs t).fronted)

pub free-spelt : {n : ℕ} (c : List ℕ) → Coding 8 c → low_first c ≡ n → Spelt (free n) c
free-spelt {n} c k e = spelt-as (free n) (append-nil c) (number c [] k e done)

pub free-is : {n : ℕ} {c : List ℕ} → Spelt (free n) c → Coding 8 c × (low_first c ≡ n)
free-is {n} (number c [] k e done) = subst (λ (x : List ℕ). Coding 8 x × (low_first x ≡ n)) (sym (append-nil c)) (k, e)
free-is {n = n} (number c (_ ∷ _) k e x7) = elim x7 [ ]

pub firm-spelt : (bs : List ℕ) → Spelt (firm bs) bs
firm-spelt bs = spelt-as (firm bs) (append-nil bs) (bytes bs [] done)

pub firm-as : {bs cs : List ℕ} → bs ≡ cs → Spelt (firm bs) cs
firm-as {bs} q = spelt-as (firm bs) q (firm-spelt bs)

pub firm-is : {bs c : List ℕ} → Spelt (firm bs) c → c ≡ bs
firm-is (bytes c [] done) = append-nil c
firm-is {bs = bs} (bytes _ (_ ∷ _) x7) = elim x7 [ ]

-- ── what is spelt is read ──

-- what is read is what is spelt, and keeps the rules
abbrev pub KeptSpelt : {A : Type 0} → Reader A → (A → List Piece) → (A → Bool) → Type 0
KeptSpelt r w ok = Says r (λ v cs. Spelt (w v) cs × (ok v ≡ true))

-- wherever these pieces are spelt the reader gives the value, and goes over them
pub record Reads {A : Type 0} (r : Reader A) (ps : List Piece) (v : A) : Type 0 where
  pub at : (cs : List ℕ) → Spelt ps cs → Takes r cs v

abbrev pub ReadSpelt : {A : Type 0} → Reader A → (A → List Piece) → (A → Bool) → Type 0
ReadSpelt {A} r w ok = (a : A) → ok a ≡ true → Reads r (w a) a

pub reads_as : {A : Type 0} {r : Reader A} {ps qs : List Piece} {v : A} → ps ≡ qs → Reads r ps v → Reads r qs v
reads_as {r} {v} q t = subst (λ (z : List Piece). Reads r z v) q t

pub reads-is : {A : Type 0} {r : Reader A} {ps : List Piece} {v w : A} → v ≡ w → Reads r ps v → Reads r ps w
reads-is {r} {ps} q t = subst (λ z. Reads r ps z) q t

pub give-reads : {A : Type 0} (a : A) → Reads (give a) [] a
give-reads a = record { at = λ cs t. takes-as (sym (nothing-spelt t)) (give-takes a) }

pub bind-reads :
    {A B : Type 0} {r : Reader A} (k : A → Reader B) {ps qs : List Piece} {a : A} {b : B} → Reads r ps a → Reads (k a) qs b → Reads (r >>= k) (ps ++ qs) b
bind-reads k {ps} {qs} R K =
    record { at = λ cs t. let S = spelt-split ps qs t in takes-as (sym S.is) (bind-takes k (R.at S.front S.fronted) (K.at S.rest S.rested)) }

pub must-reads : {A : Type 0} {r : Reader A} (rules : A → List Rule) {ps : List Piece} {v : A} → Held (rules v) → Reads r ps v → Reads (must r rules) ps v
must-reads rules h R = record { at = λ cs t. must-takes rules h (R.at cs t) }

pub if-reads-true : {A : Type 0} {b : Bool} {r : Reader A} (q : Reader A) {ps : List Piece} {v : A} → b ≡ true → Reads r ps v → Reads (when b then r else q) ps v
unfolding when◌then◌else◌
if-reads-true q t R = rw t R

pub if-reads-false : {A : Type 0} {b : Bool} (r : Reader A) {q : Reader A} {ps : List Piece} {v : A} → b ≡ false → Reads q ps v → Reads (when b then r else q) ps v
unfolding when◌then◌else◌
if-reads-false r t R = rw t R

pub only-reads-some : {A : Type 0} {b : Bool} {r : Reader A} {ps : List Piece} {v : A} → b ≡ true → Reads r ps v → Reads (only b r) ps (some v)
only-reads-some t R = record { at = λ cs u. only-takes-some t (R.at cs u) }

pub only-reads-none : {A : Type 0} {b : Bool} (r : Reader A) → b ≡ false → Reads (only b r) [] none
only-reads-none r t = record { at = λ cs u. takes-as (sym (nothing-spelt u)) (only-takes-none r t) }

-- bytes that stand as they are
pub firm-reads : {A : Type 0} {r : Reader A} {bs : List ℕ} {v : A} → Takes r bs v → Reads r (firm bs) v
firm-reads R = record { at = λ cs t. takes-as (sym (firm-is t)) R }

pub times-reads :
    {S A : Type 0} (read : S → Reader A) (after : S → A → S) (w : S → A → List Piece) (n : ℕ) (s : S) (l : List A) → length l ≡ n
    → All₁ (λ s a. Reads (read s) (w s a) a) after s l → Reads (times n read after s) (written w after s l) l
unfolding times each written
times-reads {S} {A} read after w n s l e h = rw (← e) (go s l h)
  where
    go :
        (s : S) (l : List A) → All₁ (λ s a. Reads (read s) (w s a) a) after s l
        → Reads (each (λ s (x : Unit {0}). read s) after (replicate (length l) tt) s) (written w after s l) l
    go s [] h = give-reads []
    go s (a ∷ l) h = bind-reads _ h.0 (reads_as (append-nil _) (bind-reads _ (go (after s a) l h.1) (give-reads (a ∷ l))))

pub repeat-reads :
    {A : Type 0} (r : Reader A) (w : A → List Piece) (ok : A → Bool) → ReadSpelt r w ok → (n : ℕ) (l : List A) → length l ≡ n → all ok l ≡ true → Reads (repeat n r) (flat w l) l
unfolding repeat
repeat-reads r w ok h n l e k =
    reads_as (written-flat w (λ u a. u) (tt {0}) l)
    (times-reads (λ (u : Unit {0}). r) (λ u a. u) (λ u. w) n tt l e (map₁ (λ u a. ok a ≡ true) (λ u a. Reads r (w a) a) (λ u a. u) (λ u a. h a) tt l (all_split ok (λ u a. u) tt l k)))

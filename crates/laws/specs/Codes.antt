-- A number that is written is read, and so is every coding of it. Assumes nothing.
use Rattle.std.specs.Prelude.{◌≡◌, refl, Bool, true, false, List, [], ◌∷◌, ℕ, zero, suc, ◌+◌, ◌-◌, ◌*◌, ◌/◌, ◌%◌, ◌^◌, ◌≤◌, ◌<◌, ltb, length}
use Rattle.std.proofs.Common.{ap, append-nil, arith, div-add-mod', mod-lt, div-lt_iff_lt-mul, le-leb, ltb-true, lt-ltb}
use Rattle.std.proofs.Math.Nat.{one-le-pow, pow-succ'}
use Rattle.std.proofs.lemmas.Bool.{lt-leb}
use Rattle.paper.specs.Reader.{when◌then◌else◌, Rule}
use Rattle.paper.specs.Numbers.{high_first, fixed, put_fixed, coding, low_first, v64, put_v64, number}
use Rattle.paper.specs.Pieces.{free}
use Rattle.paper.specs.Spell.{Coding, ninth, last, more}
use Rattle.laws.specs.Says.{Bytes, Held}
use Rattle.laws.specs.Takes.{Takes, takes-as, takes-is, give-takes, bind-takes, started-takes, if-takes-true, if-takes-false, bytes-takes}
use Rattle.laws.specs.Spelling.{more', free-is, Reads, must-reads}

pub fixed-length : (w n : ℕ) → length (put_fixed w n) ≡ w
unfolding put_fixed
fixed-length zero n = refl
fixed-length (suc w) n = ap suc (fixed-length w (n % 256 ^ w))

high-put : (w n : ℕ) → n < 256 ^ w → high_first (put_fixed w n) ≡ n
unfolding high_first put_fixed
high-put zero n h = let h' : n < 1 = h in omega arith
high-put (suc w) n h =
    let p : 0 < 256 ^ w = one-le-pow w 256 (omega arith) in
    rw (fixed-length w (n % 256 ^ w), high-put w (n % 256 ^ w) (mod-lt n p)) (div-add-mod' n (256 ^ w))

fixed-bytes : (w n : ℕ) → n < 256 ^ w → Bytes (put_fixed w n)
unfolding put_fixed
fixed-bytes zero n h = tt
fixed-bytes (suc w) n h =
    let p : 0 < 256 ^ w = one-le-pow w 256 (omega arith) in
    ((div-lt_iff_lt-mul p).1 (rw (pow-succ' 256 w) at h), fixed-bytes w (n % 256 ^ w) (mod-lt n p))

pub fixed-takes : (w n : ℕ) → n < 256 ^ w → Takes (fixed w) (put_fixed w n) n
unfolding fixed
fixed-takes w n h =
    takes-is (high-put w n h)
    (takes-as (append-nil (put_fixed w n)) (bind-takes _ (bytes-takes w (put_fixed w n) (fixed-bytes w n h) (fixed-length w n)) (give-takes (high_first (put_fixed w n)))))

pub byte-takes : (b : ℕ) → b < 256 → Takes (fixed 1) (b ∷ []) b
unfolding fixed high_first
byte-takes b lt = takes-is (omega arith) (bind-takes _ (bytes-takes 1 (b ∷ []) (lt, tt) refl) (give-takes (high_first (b ∷ []))))

-- ── v64 ──

pub v64-cons : (k n : ℕ) → (b : ℕ) × (bs : List ℕ) × (put_v64 k n ≡ b ∷ bs)
unfolding put_v64 when◌then◌else◌
v64-cons zero n = (n, [], refl)
v64-cons (suc k) n = go (ltb n 128)
  where
    go : (t : Bool) → (b : ℕ) × (bs : List ℕ) × ((when t then n ∷ [] else (128 + n % 128) ∷ put_v64 k (n / 128)) ≡ b ∷ bs)
    go true = (n, [], refl)
    go false = (128 + n % 128, put_v64 k (n / 128), refl)

low-more : (b : ℕ) (cs : List ℕ) {c : ℕ} {ds : List ℕ} → cs ≡ c ∷ ds → low_first (b ∷ cs) ≡ b - 128 + 128 * low_first cs
unfolding low_first
low-more b cs q = rw q refl

pub put_low : (k n : ℕ) → low_first (put_v64 k n) ≡ n
unfolding put_v64 when◌then◌else◌ low_first
put_low zero n = refl
put_low (suc k) n = go (put_low k (n / 128)) (ltb n 128) refl
  where
    go : low_first (put_v64 k (n / 128)) ≡ n / 128 → (t : Bool) → ltb n 128 ≡ t → low_first (when t then n ∷ [] else (128 + n % 128) ∷ put_v64 k (n / 128)) ≡ n
    go ih true t = refl
    go ih false t = rw (low-more (128 + n % 128) (put_v64 k (n / 128)) (v64-cons k (n / 128)).2, ih) (omega arith)

-- what is written is a coding
pub put-coding : (k n : ℕ) → Coding k (put_v64 k n)
unfolding put_v64 when◌then◌else◌
put-coding zero n = ninth
put-coding (suc k) n = go (put-coding k (n / 128)) (ltb n 128) refl
  where
    go : Coding k (put_v64 k (n / 128)) → (t : Bool) → ltb n 128 ≡ t → Coding (suc k) (when t then n ∷ [] else (128 + n % 128) ∷ put_v64 k (n / 128))
    go ih true t = last (ltb-true n 128 t)
    go ih false t = more' (put_v64 k (n / 128)) (omega arith) (omega arith) ih

-- every coding of a number of 64 bits is taken
coding-takes : {k : ℕ} (bs : List ℕ) → Coding k bs → low_first bs < 256 * 128 ^ k → Takes (coding k) bs bs
unfolding coding low_first
coding-takes {k = k} [] x h = elim x [ ]
coding-takes (b ∷ []) ninth h = bind-takes _ (byte-takes b h) (give-takes (b ∷ []))
coding-takes (b ∷ []) (last l) h = bind-takes _ (byte-takes b (omega arith)) (if-takes-false _ (lt-leb 128 b l) (give-takes (b ∷ [])))
coding-takes (b ∷ c ∷ bs) (more {k = k} l l' r) h =
    let p : 128 ^ suc k ≡ 128 * 128 ^ k = pow-succ' 128 k in
    let small : low_first (c ∷ bs) < 256 * 128 ^ k = omega (arith, h) in
    bind-takes _ (byte-takes b l')
    (if-takes-true _ (le-leb 128 b l) (takes-as (append-nil (c ∷ bs)) (bind-takes _ (coding-takes (c ∷ bs) r small) (give-takes (b ∷ c ∷ bs)))))

pub v64-reads : (n : ℕ) → n < 256 ^ 8 → Reads v64 (free n) n
unfolding v64
v64-reads n h =
    record {
      at = λ cs t. let (c, e) = free-is t in
          takes-is e (takes-as (append-nil cs) (bind-takes _ (started-takes (coding-takes cs c (rw e h))) (give-takes (low_first cs))));
    }

pub number-reads : (rules : ℕ → List Rule) (n : ℕ) → n < 256 ^ 8 → Held (rules n) → Reads (number rules) (free n) n
unfolding number
number-reads rules n lt h = must-reads rules h (v64-reads n lt)

-- ── the shortest coding ──

-- no coding of a number is shorter than what is written of it, or of one below it
pub put-short : {k : ℕ} (n : ℕ) (bs : List ℕ) → Coding k bs → n ≤ low_first bs → length (put_v64 k n) ≤ length bs
unfolding put_v64 low_first when◌then◌else◌
put-short {k = k} n [] x h = elim x [ ]
put-short n (b ∷ []) ninth h = omega arith
put-short n (b ∷ []) (last l) h = rw (lt-ltb n 128 (omega arith)) (omega arith)
put-short n (b ∷ c ∷ bs) (more {k = k} l l' r) h = go (put-short (n / 128) (c ∷ bs) r (omega arith)) (ltb n 128)
  where
    go : length (put_v64 k (n / 128)) ≤ length (c ∷ bs) → (t : Bool) → length (when t then n ∷ [] else (128 + n % 128) ∷ put_v64 k (n / 128)) ≤ length (b ∷ c ∷ bs)
    go ih true = omega arith
    go ih false = omega arith

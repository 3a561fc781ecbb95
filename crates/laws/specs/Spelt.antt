-- What is read of a number: bytes of a fixed width are what is written, and a v64 is a coding of it. Assumes nothing.
use Rattle.std.specs.Prelude.{◌≡◌, refl, List, [], ◌∷◌, ℕ, zero, suc, ◌*◌, ◌^◌, ◌≤◌, ◌<◌, length}
use Rattle.std.proofs.Common.{sym, ◌∙◌, ap, append-nil, arith, mod-eq_of_lt, div-one, add-zero, mul-le-mul_right, leb-true, leb-false}
use Rattle.std.proofs.Math.Nat.{mul-add-div_right, mul-add-mod_self_right, div-eq_of_lt, pow-succ', one-le-pow}
use Rattle.paper.specs.Numbers.{high_first, fixed, put_fixed, coding, low_first, v64}
use Rattle.paper.specs.Pieces.{free}
use Rattle.paper.specs.Spell.{Coding, ninth, last, Spelt}
use Rattle.laws.specs.Says.{Bytes, Says, weaker, give-says, bind-says, started-says, if-says, bytes-says}
use Rattle.laws.specs.Spelling.{more', spelt-as, free-spelt}

pub high-bound : (bs : List ℕ) → Bytes bs → high_first bs < 256 ^ length bs
unfolding high_first
high-bound [] h = omega arith
high-bound (b ∷ bs) h =
    let ih = high-bound bs h.1 in
    let m : b * 256 ^ length bs ≤ 255 * 256 ^ length bs = mul-le-mul_right _ (omega (arith, h.0)) in
    rw pow-succ' (omega arith)

-- reading and writing a fixed width
pub put-high : (bs : List ℕ) → Bytes bs → put_fixed (length bs) (high_first bs) ≡ bs
unfolding high_first put_fixed
put-high [] h = refl
put-high (b ∷ bs) h =
    let lt = high-bound bs h.1 in
    let p : 0 < 256 ^ length bs = one-le-pow (length bs) 256 (omega arith) in
    rw (mul-add-div_right p b (high_first bs), div-eq_of_lt lt, add-zero, mul-add-mod_self_right b (256 ^ length bs) (high_first bs), mod-eq_of_lt lt, put-high bs h.1)

pub fixed-says : (w : ℕ) → Says (fixed w) (λ n cs. (put_fixed w n ≡ cs) × (n < 256 ^ w))
unfolding fixed
fixed-says w =
    bind-says _ (bytes-says w) λ bs cs p. give-says (high_first bs) _
    (rw (← p.2, ← p.0, append-nil) (put-high bs p.1, high-bound bs p.1))

pub byte-says : Says (fixed 1) (λ n cs. (cs ≡ n ∷ []) × (n < 256))
unfolding put_fixed
byte-says = weaker _ (λ n cs p. (sym p.0 ∙ ap (λ (x : ℕ). x ∷ []) (div-one n), p.1)) (fixed-says 1)

-- ── v64 ──

low-last : (b : ℕ) → b < 256 → low_first (b ∷ []) < 256 * 128 ^ 0
unfolding low_first
low-last b h = h

low-short : (k b : ℕ) → b < 256 → low_first (b ∷ []) < 256 * 128 ^ suc k
unfolding low_first
low-short k b h = let p : 0 < 128 ^ suc k = one-le-pow (suc k) 128 (omega arith) in omega arith

low-bound : (k b : ℕ) (bs : List ℕ) → b < 256 → Coding k bs → low_first bs < 256 * 128 ^ k → low_first (b ∷ bs) < 256 * 128 ^ suc k
unfolding low_first
low-bound k b [] l c h = elim c [ ]
low-bound k b (c ∷ bs) l r h = rw pow-succ' (omega arith)

-- the bytes, which are a coding, and their value's bound
coding-says : (k : ℕ) → Says (coding k) (λ bs cs. (bs ≡ cs) × Coding k bs × (low_first bs < 256 * 128 ^ k))
unfolding coding
coding-says zero = bind-says _ byte-says λ b cs p. give-says (b ∷ []) _ (rw append-nil (sym p.0), ninth, low-last b p.1)
coding-says (suc k) =
    bind-says _ byte-says λ b cs p. if-says _
    (λ t. bind-says _ (coding-says k) λ bs ds q. give-says (b ∷ bs) _
    (rw (p.0, append-nil, q.0), more' bs (leb-true 128 b t) p.1 q.1, low-bound k b bs p.1 q.1 q.2))
    (λ t. give-says (b ∷ []) _ (rw append-nil (sym p.0), last (leb-false 128 b t), low-short k b p.1))

pub v64-says : Says v64 (λ n cs. Spelt (free n) cs × (n < 256 ^ 8))
unfolding v64
v64-says =
    bind-says _ (started-says (coding-says 8)) λ bs cs p. give-says (low_first bs) _
    (spelt-as (free (low_first bs)) (p.0 ∙ sym (append-nil cs)) (free-spelt bs p.1 refl), p.2)

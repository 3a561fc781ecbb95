-- Ranges at places of two lists, and one more put behind them. Assumes nothing.
use Rattle.std.specs.Prelude.{◌≡◌, refl, Bool, true, false, ◌&&◌, ◌||◌, List, ℕ, zero, suc, ◌+◌, ◌≤◌, ◌<◌, leb, length, get_or, take, drop, set}
use Rattle.std.proofs.Common.{ap, ap₂, ◌∙◌, arith, lt_of_not-le, drop-cons, get_or-set_same, get_or-set_other}
use Rattle.std.proofs.Math.Decide.{dec_le}
use Rattle.std.proofs.lemmas.Bool.{lt-leb}
use Rattle.values.specs.Items.{in_ranges}

-- object n lies in the range at place j
unfoldable pub lies_at : List ℕ → List ℕ → ℕ → ℕ → Bool
lies_at first last j n = leb (get_or first j 0 + 1) n && leb n (get_or last j 0)

-- or in one of m ranges from place a on
unfoldable pub lies_in : List ℕ → List ℕ → ℕ → ℕ → ℕ → Bool
lies_in first last a zero n = false
lies_in first last a (suc m) n = lies_at first last a n || lies_in first last (suc a) m n

-- as code lends them
pub lies-lent :
    (first last : List ℕ) (m a n : ℕ) → a + m ≤ length first → a + m ≤ length last
    → in_ranges (take m (drop a first)) (take m (drop a last)) n ≡ lies_in first last a m n
unfolding in_ranges lies_in lies_at
lies-lent first last zero a n p q = refl
lies-lent first last (suc m) a n p q =
    rw (drop-cons first a 0 (omega arith), drop-cons last a 0 (omega arith), lies-lent first last m (suc a) n (omega arith) (omega arith)) refl

pub or-false : (b : Bool) → (b || false) ≡ b
or-false true = refl
or-false false = refl

or_assoc : (x y z : Bool) → (x || (y || z)) ≡ ((x || y) || z)
or_assoc true y z = refl
or_assoc false y z = refl

-- the last of them apart
pub lies-last : (first last : List ℕ) (m a n : ℕ) → lies_in first last a (suc m) n ≡ (lies_in first last a m n || lies_at first last (a + m) n)
unfolding lies_in
lies-last first last zero a n = let z : a ≡ a + 0 = omega arith in or-false (lies_at first last a n) ∙ ap (λ (j : ℕ). lies_at first last j n) z
lies-last first last (suc m) a n =
    let z : suc a + m ≡ a + suc m = omega arith in
    let ih = lies-last first last m (suc a) n ∙ ap (λ (j : ℕ). lies_in first last (suc a) m n || lies_at first last j n) z in
    ap (λ (b : Bool). lies_at first last a n || b) ih ∙ or_assoc (lies_at first last a n) (lies_in first last (suc a) m n) (lies_at first last (a + suc m) n)

-- lists that say the same of these places
pub record Alike (a m : ℕ) (l l' : List ℕ) : Type 0 where
  pub same : (j : ℕ) → a ≤ j → j < a + m → get_or l j 0 ≡ get_or l' j 0

pub alike_set : (a m : ℕ) (l : List ℕ) (k x : ℕ) → (a ≤ k → k < a + m → ⊥) → Alike a m (set l k x) l
alike_set a m l k x out = record { same = λ j lo hi. get_or-set_other l k j x 0 (λ e. out (omega arith) (omega arith)) }

pub lies_same : {first last first' last' : List ℕ} (m a n : ℕ) → Alike a m first first' → Alike a m last last' → lies_in first last a m n ≡ lies_in first' last' a m n
unfolding lies_in lies_at
lies_same zero a n F L = refl
lies_same {first} {last} {first'} {last'} (suc m) a n F L =
    ap₂ (λ (x y : Bool). x || y)
    (ap₂ (λ (x y : ℕ). leb (x + 1) n && leb n y) (F.same a (omega arith) (omega arith)) (L.same a (omega arith) (omega arith)))
    (lies_same m (suc a) n (record { same = λ j lo hi. F.same j (omega arith) (omega arith) }) (record { same = λ j lo hi. L.same j (omega arith) (omega arith) }))

-- a range that ends where it begins is empty
lies-not : (first last : List ℕ) (j n : ℕ) → get_or first j 0 ≡ get_or last j 0 → lies_at first last j n ≡ false
unfolding lies_at
lies-not first last j n e = rw e (go (dec_le n (get_or last j 0)))
  where
    and-false : (b : Bool) → (b && false) ≡ false
    and-false true = refl
    and-false false = refl

    go : Dec (n ≤ get_or last j 0) → (leb (get_or last j 0 + 1) n && leb n (get_or last j 0)) ≡ false
    go (yes d) = rw (lt-leb (get_or last j 0 + 1) n (omega arith)) refl
    go (no d) = rw (lt-leb n (get_or last j 0) (lt_of_not-le d)) (and-false (leb (get_or last j 0 + 1) n))

pub lies_empty :
    (first last : List ℕ) (m a n k : ℕ) → ((j : ℕ) → a + m ≤ j → j < a + m + k → get_or first j 0 ≡ get_or last j 0)
    → lies_in first last a (m + k) n ≡ lies_in first last a m n
lies_empty first last m a n zero e = let z : m + 0 ≡ m = omega arith in ap (λ (i : ℕ). lies_in first last a i n) z
lies_empty first last m a n (suc k) e =
    let z : m + suc k ≡ suc (m + k) = omega arith in
    ap (λ (i : ℕ). lies_in first last a i n) z
    ∙ lies-last first last (m + k) a n
    ∙ ap (λ (b : Bool). lies_in first last a (m + k) n || b) (lies-not first last (a + (m + k)) n (e (a + (m + k)) (omega arith) (omega arith)))
    ∙ or-false (lies_in first last a (m + k) n)
    ∙ lies_empty first last m a n k (λ j lo hi. e j lo (omega arith))

-- ── one more ──

pub lies_more :
    (first last : List ℕ) (a m begin end n : ℕ) → a + m < length first → a + m < length last
    → lies_in (set first (a + m) begin) (set last (a + m) end) a (suc m) n ≡ (lies_in first last a m n || (leb (begin + 1) n && leb n end))
unfolding lies_at
lies_more first last a m begin end n p q =
    lies-last (set first (a + m) begin) (set last (a + m) end) m a n
    ∙ ap₂ (λ (x y : Bool). x || y)
    (lies_same m a n (alike_set a m first (a + m) begin (λ lo hi. omega arith)) (alike_set a m last (a + m) end (λ lo hi. omega arith)))
    (rw (get_or-set_same first (a + m) begin 0 p, get_or-set_same last (a + m) end 0 q) refl)

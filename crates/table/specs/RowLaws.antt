-- The laws of rows, once for every segment: what a push makes of its own segment, and that it leaves every other. Assumes nothing.
use Rattle.std.specs.Prelude.{◌≡◌, ℕ, zero, suc, ◌+◌, ◌*◌, ◌<◌, ◌≤◌, ◌≢◌, ◌⊎◌, List, [], ◌∷◌, ◌++◌, length, get_or, slice_index, slice_index_or, slice_set}
use Rattle.std.proofs.Math.Path.{refl, ap, ap₂}
use Rattle.std.proofs.Common.{sym, ◌∙◌, subst, inl, inr, zero-le, suc-le-suc, le_refl, le_of_lt, le_of_eq, not-suc-le-zero, le_of_suc-le-suc, eq-or-lt_of_le, arith, length-set, get_or-set_same, get_or-set_other}
use Rattle.std.proofs.Math.Logic.{⊎_elim}
use Rattle.std.proofs.Math.Nat.{le_step, mul-le-mul_left}
use Rattle.std.proofs.Math.Numerals.{add-one}
use Rattle.std.proofs.Math.ListN.{length-append, get_or-append}
use Rattle.std.proofs.lemmas.List.Edits.{sets}
use Rattle.std.proofs.Math.Seq.{length-sets}
use Rattle.std.proofs.lemmas.List.{get_or_at}
use Rattle.table.specs.Segs.{tab, cells, seg, Each, Laid}

pub lt-or-ge : (a b : ℕ) → (a < b) ⊎ (b ≤ a)
lt-or-ge a zero = inr zero-le
lt-or-ge zero (suc b) = inl (suc-le-suc zero-le)
lt-or-ge (suc a) (suc b) = ⊎_elim (λ p. inl (suc-le-suc p)) (λ q. inr (suc-le-suc q)) (lt-or-ge a b)

pub same_or_not : (a b : ℕ) → (a ≡ b) ⊎ (a ≢ b)
same_or_not a b =
    ⊎_elim (λ (lt : a < b). inr (λ e. omega arith)) (λ (ge : b ≤ a). ⊎_elim (λ (e : b ≡ a). inl (sym e)) (λ (gt : b < a). inr (λ e. omega arith)) (eq-or-lt_of_le ge)) (lt-or-ge a b)

module _ {A : Type 0} where
  pub length-tab : (n : ℕ) (f : ℕ → A) → length (tab n f) ≡ n
  unfolding tab
  length-tab zero f = refl
  length-tab (suc n) f = length-append (tab n f) (f n ∷ []) ∙ ap (λ (k : ℕ). k + 1) (length-tab n f) ∙ add-one n

  pub tab-cong : (n : ℕ) (f g : ℕ → A) → ((i : ℕ) → i < n → f i ≡ g i) → tab n f ≡ tab n g
  unfolding tab
  tab-cong zero f g h = refl
  tab-cong (suc n) f g h = ap₂ (λ (xs : List A) (x : A). xs ++ (x ∷ [])) (tab-cong n f g (λ i l. h i (le_step l))) (h n (le_refl (suc n)))

  pub get_d-tab : (n : ℕ) (f : ℕ → A) (i : ℕ) (d : A) → i < n → slice_index_or (tab n f) i d ≡ f i
  unfolding tab
  get_d-tab zero f i d h = absurd (not-suc-le-zero h)
  get_d-tab (suc n) f i d h =
      ⊎_elim (λ (e : i ≡ n). rw e (get_or_at (tab n f) (f n) [] d n (length-tab n f)))
      (λ (l : i < n). get_or-append (tab n f) (f n ∷ []) d i (rw length-tab l) ∙ get_d-tab n f i d l)
      (eq-or-lt_of_le (le_of_suc-le-suc h))

-- two tables that agree over a run of cells have the same numbers there
pub cells-cong : (l l' : List ℕ) (at w : ℕ) → ((j : ℕ) → at ≤ j → j < at + w → slice_index l' j ≡ slice_index l j) → cells l' at w ≡ cells l at w
unfolding cells
cells-cong l l' at zero h = refl
cells-cong l l' at (suc w) h = ap₂ (λ (x : ℕ) (xs : List ℕ). x ∷ xs) (h at (le_refl at) (omega arith)) (cells-cong l l' (suc at) w (λ j p q. h j (le_of_lt p) (omega arith)))

-- a run of stores leaves the cells outside it
pub sets-other : (vs l : List ℕ) (at j : ℕ) → (at ≤ j → at + length vs ≤ j) → slice_index (sets l at vs) j ≡ slice_index l j
sets-other [] l at j h = refl
sets-other (v ∷ vs) l at j h =
    sets-other vs (slice_set l at v) (suc at) j (λ p. let q : at + suc (length vs) ≤ j = h (le_of_lt p) in omega arith)
    ∙ get_or-set_other l at j v 0 (λ e. let q : at + suc (length vs) ≤ j = h (le_of_eq (sym e)) in omega arith)

-- and has its numbers in it
pub cells-sets : (vs l : List ℕ) (at : ℕ) → at + length vs ≤ length l → cells (sets l at vs) at (length vs) ≡ vs
unfolding cells
cells-sets [] l at h = refl
cells-sets (v ∷ vs) l at h =
    ap₂ (λ (x : ℕ) (xs : List ℕ). x ∷ xs)
    (sets-other vs (slice_set l at v) (suc at) at (λ p. omega arith) ∙ get_or-set_same l at v 0 (omega arith))
    (cells-sets vs (slice_set l at v) (suc at) (rw length-set (omega arith)))

-- each of them
pub stored_at : (vs l : List ℕ) (at k j : ℕ) → j ≡ at + k → k < length vs → at + length vs ≤ length l → slice_index (sets l at vs) j ≡ slice_index vs k
stored_at [] l at k j is lt fits = absurd (not-suc-le-zero lt)
stored_at (v ∷ vs) l at zero j is lt fits =
    let e : j ≡ at = omega arith in
    rw e (sets-other vs (slice_set l at v) (suc at) at (λ p. omega arith) ∙ get_or-set_same l at v 0 (omega arith))
stored_at (v ∷ vs) l at (suc k) j is lt fits =
    stored_at vs (slice_set l at v) (suc at) k j (omega arith) (le_of_suc-le-suc lt) (rw length-set (omega arith))

module _ (c base w : ℕ) (l l' : List ℕ) (same : (j : ℕ) → base ≤ j → j < base + w * slice_index l c → slice_index l' j ≡ slice_index l j) where
  rows-kept : {A : Type 0} (of : List ℕ → A) → tab (slice_index l c) (λ i. of (cells l' (base + w * i) w)) ≡ seg of c base w l
  unfolding seg
  rows-kept of =
      tab-cong (slice_index l c) (λ i. of (cells l' (base + w * i) w)) (λ i. of (cells l (base + w * i) w))
      (λ i h. ap of (cells-cong l l' (base + w * i) w (λ j p q. same j (omega arith) (omega (arith, mul-le-mul_left w h)))))

  pub seg-kept : {A : Type 0} (of : List ℕ → A) → slice_index l' c ≡ slice_index l c → seg of c base w l' ≡ seg of c base w l
  unfolding seg
  seg-kept of e = ap (λ (n : ℕ). tab n (λ i. of (cells l' (base + w * i) w))) e ∙ rows-kept of

  pub seg-more : {A : Type 0} (of : List ℕ → A) (vs : List ℕ) → slice_index l' c ≡ slice_index l c + 1 → cells l' (base + w * slice_index l c) w ≡ vs → seg of c base w l' ≡ seg of c base w l ++ (of vs ∷ [])
  unfolding seg tab
  seg-more {A} of vs e is =
      ap (λ (n : ℕ). tab n (λ i. of (cells l' (base + w * i) w))) (e ∙ add-one (slice_index l c))
      ∙ ap₂ (λ (xs : List A) (x : List ℕ). xs ++ (of x ∷ [])) (rows-kept of) is

  pub each-kept : (P : List ℕ → Type 0) → slice_index l' c ≡ slice_index l c → Each P c base w l → Each P c base w l'
  each-kept P e h =
      record {
        row = λ i lt. let lt' : i < get_or l c 0 = omega arith in
            subst P (sym (cells-cong l l' (base + w * i) w (λ j p q. same j (omega arith) (omega (arith, mul-le-mul_left w lt'))))) (h.row i lt');
      }

  pub each_more : (P : List ℕ → Type 0) (vs : List ℕ) → slice_index l' c ≡ slice_index l c + 1 → cells l' (base + w * slice_index l c) w ≡ vs → P vs → Each P c base w l → Each P c base w l'
  each_more P vs e is new h =
      record {
        row = λ i lt. ⊎_elim
            (λ (q : i ≡ slice_index l c). subst P (sym is ∙ ap (λ (k : ℕ). cells l' (base + w * k) w) (sym q)) new)
            (λ (lt' : i < slice_index l c). subst P (sym (cells-cong l l' (base + w * i) w (λ j p q. same j (omega arith) (omega (arith, mul-le-mul_left w lt'))))) (h.row i lt'))
            (eq-or-lt_of_le (le_of_suc-le-suc (rw (e, add-one) at lt)));
      }

-- row i of a segment
pub seg-at : {A : Type 0} (of : List ℕ → A) (c base w : ℕ) (l : List ℕ) (i : ℕ) (d : A) → i < length (seg of c base w l) → slice_index_or (seg of c base w l) i d ≡ of (cells l (base + w * i) w)
unfolding seg
seg-at of c base w l i d h = get_d-tab (slice_index l c) (λ i. of (cells l (base + w * i) w)) i d (rw length-tab at h)

pub seg-none : {A : Type 0} (of : List ℕ → A) (c base w : ℕ) (l : List ℕ) → slice_index l c ≡ 0 → seg of c base w l ≡ []
unfolding seg tab
seg-none of c base w l e = ap (λ (n : ℕ). tab n (λ i. of (cells l (base + w * i) w))) e

module _ {c base w : ℕ} {vs l l' : List ℕ} (p : Laid c base w vs l l') where
  -- where the row goes
  abbrev at : ℕ
  at = base + w * slice_index l c

  pub push-other : (j : ℕ) → j < 16048 → (j ≢ 7) → j ≢ c → (base + w * slice_index l c ≤ j → base + w * slice_index l c + w ≤ j) → slice_index l' j ≡ slice_index l j
  push-other j lt n7 ne apart =
      p.near j lt n7
      ∙ get_or-set_other (sets l at vs) c j (slice_index l c + 1) 0 ne
      ∙ sets-other vs l at j (λ r. let q : at + w ≤ j = apart r in omega (arith, p.wide))

  pub push-long : length l' ≡ length l
  push-long = p.long

  pub push-count : get_or l' c 0 ≡ slice_index l c + 1
  push-count = p.near c (omega (arith, p.low)) (λ e. omega (arith, p.low)) ∙ get_or-set_same (sets l at vs) c (slice_index l c + 1) 0 (rw length-sets (omega (arith, p.low, p.full)))

  pub push-cells : cells l' at w ≡ vs
  push-cells =
      cells-cong (sets l at vs) l' at w
      (λ j a b. p.near j (omega (arith, p.room)) (λ e. omega (arith, p.head)) ∙ get_or-set_other (sets l at vs) c j (slice_index l c + 1) 0 (λ e. omega (arith, p.low, p.head)))
      ∙ ap (λ (k : ℕ). cells (sets l at vs) at k) (sym p.wide)
      ∙ cells-sets vs l at (omega (arith, p.wide, p.room, p.full))

  own-kept : (j : ℕ) → base ≤ j → j < base + w * slice_index l c → slice_index l' j ≡ slice_index l j
  own-kept j a b = push-other j (omega (arith, p.room)) (λ e. omega (arith, p.head)) (λ e. omega (arith, p.low, p.head)) (λ r. omega arith)

  pub push-mine : {A : Type 0} (of : List ℕ → A) → seg of c base w l' ≡ seg of c base w l ++ (of vs ∷ [])
  push-mine of = seg-more c base w l l' own-kept of vs push-count push-cells

  pub push-each : (P : List ℕ → Type 0) → P vs → Each P c base w l → Each P c base w l'
  push-each P new h = each_more c base w l l' own-kept P vs push-count push-cells new h

  -- another segment, of at most cap rows, that the push does not reach
  module _ (c' base' w' cap : ℕ) (ne : c' ≢ c) (low' : c' < 7) (high : 16 ≤ base') (few : get_or l c' 0 ≤ cap) (inside : base' + w' * cap ≤ 16048) (apart : base' < base + w * slice_index l c + w → base' + w' * cap ≤ base + w * slice_index l c) where
    kept-cells : (j : ℕ) → base' ≤ j → j < base' + w' * slice_index l c' → slice_index l' j ≡ slice_index l j
    kept-cells j a b =
        push-other j (omega (arith, mul-le-mul_left w' few)) (λ e. omega arith) (λ e. omega (arith, p.low))
        (λ r. ⊎_elim (λ (s : base' < at + w). let t : base' + w' * cap ≤ at = apart s in omega (arith, mul-le-mul_left w' few))
        (λ (s : at + w ≤ base'). omega arith)
        (lt-or-ge base' (at + w)))

    count_same : get_or l' c' 0 ≡ slice_index l c'
    count_same = push-other c' (omega arith) (λ e. omega arith) ne (λ r. omega (arith, p.head))

    pub push_kept : {A : Type 0} (of : List ℕ → A) → seg of c' base' w' l' ≡ seg of c' base' w' l
    push_kept of = seg-kept c' base' w' l l' kept-cells of count_same

    pub push-each-kept : (P : List ℕ → Type 0) → Each P c' base' w' l → Each P c' base' w' l'
    push-each-kept P all = each-kept c' base' w' l l' kept-cells P count_same all

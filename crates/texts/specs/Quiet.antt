-- The words of a line: none has a tab or a newline in it, and what is no word is refused by 20. So the tabs that are to come in a
-- line are as many as the words of the elements that are read from it. Assumes nothing.
use Rattle.std.specs.Prelude.{◌≡◌, refl, Bool, true, false, List, [], ◌∷◌, ℕ, zero, suc, ◌+◌, ◌-◌, ◌*◌, ◌^◌, ◌≤◌, ◌<◌, leb, ltb, eqb, pos, negsuc, get_or, drop}
use Rattle.std.proofs.Math.Path.{sym}
use Rattle.std.proofs.Common.{ap, ◌∙◌, add-one, add-zero, zero-add, suc-mul, zero-mul, pow-suc, lt_of_not-le, drop_of_length-le, drop-cons, drop-drop, leb-true, leb-false, ltb-true, eqb-true, ne_eqb}
use native.Mathlib.Omega.{arith}
use Rattle.std.proofs.Math.Decide.{dec_le}
use Rattle.std.proofs.Math.ListN.{length, get_or-eq_default}
use Rattle.paper.specs.Reader.{when◌then◌else◌, Reader, Out, got, no as bad, and_then, ◌>>=◌, ◌>>◌, give}
use Rattle.paper.specs.Ledger.{flag, whole, float, link, annotation}
use Rattle.paper.specs.Listing.{tab, newline, dash}
use Rattle.paper.specs.Scan.{digit?, too_large?, digits_on, decimal_in, natural, negative, positive, integer, nibble, hex_on, byte_is, ended, read_flag, read_element, tabbed}
use Rattle.laws.specs.Bools.{not_so, and_split}
use Rattle.words.specs.Answers.{Peeked}

-- ── the tabs to come ──

unfoldable pub tabs_in : List ℕ → ℕ
tabs_in [] = 0
tabs_in (b ∷ ts) = when eqb b newline then 0 else when eqb b tab then suc (tabs_in ts) else tabs_in ts

-- in the line, from a place on
unfoldable pub tabs_from : List ℕ → ℕ → ℕ
tabs_from t p = tabs_in (drop p t)

-- a byte that neither parts elements nor ends a line
pub record Quiet (b : ℕ) : Type 0 where
  pub no-tab : b ≡ 9 → ⊥
  pub no-newline : b ≡ 10 → ⊥

tabs-quiet : (b : ℕ) (ts : List ℕ) → Quiet b → tabs_in (b ∷ ts) ≡ tabs_in ts
unfolding tabs_in when◌then◌else◌
tabs-quiet b ts Q = rw (ne_eqb b 10 Q.no-newline, ne_eqb b 9 Q.no-tab)

module _ (t : List ℕ) (p : ℕ) where
  -- past the end nothing is to come
  past : length t ≤ p → (tabs_from t p ≡ 0) × (tabs_from t (p + 1) ≡ 0)
  unfolding tabs_from tabs_in
  past h =
      let more : length t ≤ p + 1 = omega arith in
      (rw (drop_of_length-le t h), rw (drop_of_length-le t more))

  inside : p < length t → drop p t ≡ get_or t p 256 ∷ drop (p + 1) t
  inside h = rw add-one (drop-cons t p 256 h)

  pub over-quiet : Quiet (get_or t p 256) → tabs_from t p ≡ tabs_from t (p + 1)
  unfolding tabs_from
  over-quiet Q =
      elim (dec_le (length t) p) [
        | yes d ↦ (past d).0 ∙ sym (past d).1
        | no d ↦ rw (inside (lt_of_not-le d)) (tabs-quiet (get_or t p 256) (drop (p + 1) t) Q)
      ]

  byte_inside : {b : ℕ} → b < 256 → get_or t p 256 ≡ b → p < length t
  byte_inside {b} h is =
      elim (dec_le (length t) p) [
        | yes d ↦ (let end : get_or t p 256 ≡ 256 = get_or-eq_default t 256 d in absurd (omega arith))
        | no d ↦ lt_of_not-le d
      ]

  pub over-tab : get_or t p 256 ≡ 9 → tabs_from t p ≡ suc (tabs_from t (p + 1))
  unfolding tabs_from tabs_in when◌then◌else◌
  over-tab is = rw (inside (byte_inside (omega arith) is), is)

  pub at-newline : get_or t p 256 ≡ 10 → tabs_from t p ≡ 0
  unfolding tabs_from tabs_in when◌then◌else◌
  at-newline is = rw (inside (byte_inside (omega arith) is), is)

  pub at-end : length t ≤ p → tabs_from t p ≡ 0
  at-end h = (past h).0

-- ── a count of them: with those that are to come it gives the whole ──

pub record Counting (t : List ℕ) (from at n : ℕ) : Type 0 where
  pub few : n ≤ at
  pub whole : n + tabs_from t at ≡ tabs_from t from

pub counting-start : (t : List ℕ) (from : ℕ) → Counting t from from 0
counting-start t from = record { few = omega arith; whole = zero-add (tabs_from t from) }

module _ {t : List ℕ} {from at n : ℕ} (C : Counting t from at n) where
  pub counting-end : length t ≤ at → n ≡ tabs_from t from
  counting-end h = omega (arith, C.whole, at-end t at h)

  module _ {b : ℕ} (seen : Peeked t at b) where
    pub counting-newline : b ≡ 10 → n ≡ tabs_from t from
    counting-newline h = omega (arith, C.whole, at-newline t at (sym seen.is ∙ h))

    pub counting-tab : b ≡ 9 → Counting t from (at + 1) (n + 1)
    counting-tab h = record { few = omega (arith, C.few); whole = omega (arith, C.whole, over-tab t at (sym seen.is ∙ h)) }

    pub counting-quiet : (b ≡ 10 → ⊥) → (b ≡ 9 → ⊥) → Counting t from (at + 1) n
    counting-quiet x y =
        let Q : Quiet (get_or t at 256) = record { no-tab = λ e. y (seen.is ∙ e); no-newline = λ e. x (seen.is ∙ e) } in
        record { few = omega (arith, C.few); whole = omega (arith, C.whole, over-quiet t at Q) }

-- ── what comes of a reading of text: a value of which Q holds, or 20 ──

pub data Fate {A : Type 0} (Q : A → ℕ → Type 0) : Out A → Type 0 where
  gives : (a : A) (e : ℕ) → Q a e → Fate Q (got a e)
  refuses : Fate Q (bad 20 0)

module _ {A B : Type 0} {Q : A → ℕ → Type 0} (k : A → ℕ → Out B) where
  pub fate-then : {R : B → ℕ → Type 0} {o : Out A} → Fate Q o → ((a : A) (e : ℕ) → Q a e → Fate R (k a e)) → Fate R (and_then o k)
  fate-then (gives a e q) h = h a e q
  fate-then refuses h = refuses

  -- whatever is read, it is refused
  pub refused-then : {o : Out A} → Fate Q o → ((a : A) (e : ℕ) → Q a e → k a e ≡ bad 20 0) → and_then o k ≡ bad 20 0
  refused-then (gives a e q) h = h a e q
  refused-then refuses h = refl

  -- two ways on from what is read
  pub same_then : (l : A → ℕ → Out B) {o : Out A} → Fate Q o → ((a : A) (e : ℕ) → Q a e → k a e ≡ l a e) → and_then o k ≡ and_then o l
  same_then l (gives a e q) h = h a e q
  same_then l refuses h = refl

-- a word of which P holds
pub record Word {A : Type 0} (P : A → Type 0) (t : List ℕ) (at : ℕ) (a : A) (e : ℕ) : Type 0 where
  pub tabs : tabs_from t at ≡ tabs_from t e
  pub holds : P a

abbrev pub Any : {A : Type 0} → A → Type 0
Any a = Unit {0}

-- a word that begins later
later : {A : Type 0} {P : A → Type 0} (t : List ℕ) (at p : ℕ) {o : Out A} → tabs_from t at ≡ tabs_from t p → Fate (Word P t p) o → Fate (Word P t at) o
later t at p h (gives a e w) = gives a e (record { tabs = h ∙ w.tabs; holds = w.holds })
later t at p h refuses = refuses

-- ── decimals ──

digit-quiet : (b : ℕ) → digit? b ≡ true → Quiet b
unfolding digit?
digit-quiet b h =
    let low = leb-true 48 b (and_split (leb 48 b) (leb b 57) h).0 in
    record { no-tab = λ e. omega arith; no-newline = λ e. omega arith }

digit-small : (b : ℕ) → digit? b ≡ true → b - 48 < 2 ^ 64
unfolding digit?
digit-small b h = let high = leb-true b 57 (and_split (leb 48 b) (leb b 57) h).1 in omega arith

drop-on : (t : List ℕ) (e b : ℕ) (ts : List ℕ) → drop e t ≡ b ∷ ts → drop (e + 1) t ≡ ts
drop-on t e b ts h = sym (drop-drop 1 e t) ∙ ap (drop 1) h

pub record Small (n : ℕ) : Type 0 where
  pub below : n < 2 ^ 64

digits-word : (t : List ℕ) (ts : List ℕ) (v e : ℕ) → drop e t ≡ ts → v < 2 ^ 64 → Fate (Word Small t e) (digits_on v e ts)
unfolding digits_on when◌then◌else◌ too_large? tabs_from
digits-word t [] v e q h = gives v e (record { tabs = refl; holds = record { below = h } })
digits-word t (b ∷ ts) v e q h =
    let next = drop-on t e b ts q in
    go (digit? b) refl (leb (2 ^ 64) (10 * v + (b - 48))) refl next (λ w l. digits-word t ts w (e + 1) next l)
  where
    go :
        (x : Bool) → digit? b ≡ x → (y : Bool) → leb (2 ^ 64) (10 * v + (b - 48)) ≡ y → drop (e + 1) t ≡ ts
        → ((w : ℕ) → w < 2 ^ 64 → Fate (Word Small t (e + 1)) (digits_on w (e + 1) ts))
        → Fate (Word Small t e) (when x then (when y then bad 20 0 else digits_on (10 * v + (b - 48)) (e + 1) ts) else got v e)
    go false d y l next on = gives v e (record { tabs = refl; holds = record { below = h } })
    go true d true l next on = refuses
    go true d false l next on =
        let same : tabs_from t e ≡ tabs_from t (e + 1) = rw (q, next) (tabs-quiet b ts (digit-quiet b d)) in
        later t e (e + 1) same (on (10 * v + (b - 48)) (leb-false (2 ^ 64) (10 * v + (b - 48)) l))

pub natural-word : (t : List ℕ) (at : ℕ) → Fate (Word Small t at) (natural t at)
unfolding natural decimal_in when◌then◌else◌ tabs_from
natural-word t at = on (drop at t) refl
  where
    on : (ts : List ℕ) → drop at t ≡ ts → Fate (Word Small t at) (decimal_in at ts)
    on [] q = refuses
    on (b ∷ ts) q = go (eqb b 48) refl (digit? b) refl (drop-on t at b ts q)
      where
        same : Quiet b → drop (at + 1) t ≡ ts → tabs_from t at ≡ tabs_from t (at + 1)
        same Q next = rw (q, next) (tabs-quiet b ts Q)

        go :
            (x : Bool) → eqb b 48 ≡ x → (y : Bool) → digit? b ≡ y → drop (at + 1) t ≡ ts
            → Fate (Word Small t at) (when x then got 0 (at + 1) else when y then digits_on (b - 48) (at + 1) ts else bad 20 0)
        go true z y d next =
            let is = eqb-true b 48 z in
            gives 0 (at + 1) (record { tabs = same (record { no-tab = λ e. omega arith; no-newline = λ e. omega arith }) next; holds = record { below = omega arith } })
        go false z true d next = later t at (at + 1) (same (digit-quiet b d) next) (digits-word t ts (b - 48) (at + 1) next (digit-small b d))
        go false z false d next = refuses

-- ── signed decimals ──

pub integer-word : (t : List ℕ) (at : ℕ) → Fate (Word Any t at) (integer t at)
unfolding integer negative positive when◌then◌else◌
integer-word t at = go (eqb (get_or t at 256) dash) refl
  where
    minus : {o : Out ℕ} → Fate (Word Small t at) o → Fate (Word Any t at) (negative o)
    minus refuses = refuses
    minus (gives n e w) = by (eqb n 0) (ltb (2 ^ 63) n)
      where
        by : (x y : Bool) → Fate (Word Any t at) (when x then bad 20 0 else when y then bad 20 0 else got (negsuc (n - 1)) e)
        by true y = refuses
        by false true = refuses
        by false false = gives (negsuc (n - 1)) e (record { tabs = w.tabs; holds = tt })

    plus : {o : Out ℕ} → Fate (Word Small t at) o → Fate (Word Any t at) (positive o)
    plus refuses = refuses
    plus (gives n e w) = by (leb (2 ^ 63) n)
      where
        by : (x : Bool) → Fate (Word Any t at) (when x then bad 20 0 else got (pos n) e)
        by true = refuses
        by false = gives (pos n) e (record { tabs = w.tabs; holds = tt })

    go : (x : Bool) → eqb (get_or t at 256) dash ≡ x → Fate (Word Any t at) (when x then negative (natural t (at + 1)) else positive (natural t at))
    go true z =
        let is = eqb-true (get_or t at 256) dash z in
        minus (later t at (at + 1) (over-quiet t at (record { no-tab = λ e. omega arith; no-newline = λ e. omega arith })) (natural-word t (at + 1)))
    go false z = plus (natural-word t at)

-- ── hex digits ──

nibble-quiet : (b : ℕ) → ltb (nibble b) 16 ≡ true → Quiet b
unfolding nibble when◌then◌else◌
nibble-quiet b h = record { no-tab = λ e. not_so (rw e at h); no-newline = λ e. not_so (rw e at h) }

-- k digits more, behind j that gave v
pub hex-word : (t : List ℕ) (k j v at : ℕ) → v < 16 ^ j → Fate (Word (λ n. n < 16 ^ (j + k)) t at) (hex_on k v t at)
unfolding hex_on when◌then◌else◌
hex-word t zero j v at h = gives v at (record { tabs = refl; holds = rw add-zero h })
hex-word t (suc k) j v at h = go (ltb (nibble (get_or t at 256)) 16) refl (λ w l. hex-word t k (suc j) w (at + 1) l)
  where
    go :
        (x : Bool) → ltb (nibble (get_or t at 256)) 16 ≡ x
        → ((w : ℕ) → w < 16 ^ suc j → Fate (Word (λ n. n < 16 ^ (suc j + k)) t (at + 1)) (hex_on k w t (at + 1)))
        → Fate (Word (λ n. n < 16 ^ (j + suc k)) t at) (when x then hex_on k (16 * v + nibble (get_or t at 256)) t (at + 1) else bad 20 0)
    go false z on = refuses
    go true z on =
        let low = ltb-true (nibble (get_or t at 256)) 16 z in
        let grown : 16 * v + nibble (get_or t at 256) < 16 ^ suc j = rw pow-suc (omega arith) in
        let same : suc j + k ≡ j + suc k = omega arith in
        later t at (at + 1) (over-quiet t at (nibble-quiet (get_or t at 256) z)) (simp same at (on (16 * v + nibble (get_or t at 256)) grown))

-- ── elements ──

flag_word : (t : List ℕ) (at : ℕ) → Fate (Word Any t at) (read_flag t at)
unfolding read_flag when◌then◌else◌
flag_word t at = go (eqb (get_or t at 256) 48) refl (eqb (get_or t at 256) 49) refl
  where
    go :
        (x : Bool) → eqb (get_or t at 256) 48 ≡ x → (y : Bool) → eqb (get_or t at 256) 49 ≡ y
        → Fate (Word Any t at) (when x then got (flag false) (at + 1) else when y then got (flag true) (at + 1) else bad 20 0)
    go true z y w =
        let is = eqb-true (get_or t at 256) 48 z in
        gives (flag false) (at + 1) (record { tabs = over-quiet t at (record { no-tab = λ e. omega arith; no-newline = λ e. omega arith }); holds = tt })
    go false z true w =
        let is = eqb-true (get_or t at 256) 49 w in
        gives (flag true) (at + 1) (record { tabs = over-quiet t at (record { no-tab = λ e. omega arith; no-newline = λ e. omega arith }); holds = tt })
    go false z false w = refuses

turned-word :
    {A B : Type 0} {P : A → Type 0} (r : Reader A) (g : A → B) {t : List ℕ} {at : ℕ} → Fate (Word P t at) (r t at) → Fate (Word Any t at) ((r >>= λ a. give (g a)) t at)
unfolding ◌>>=◌ give
turned-word r g F = fate-then _ F (λ a e w. gives (g a) e (record { tabs = w.tabs; holds = tt }))

single-word : (k : ℕ) (t : List ℕ) (at : ℕ) → eqb k 5 ≡ false → Fate (Word Any t at) (read_element k t at)
unfolding read_element when◌then◌else◌
single-word k t at single = rw single (go (eqb k 6) (leb k 11) (leb k 13))
  where
    go :
        (x y z : Bool)
        → Fate (Word Any t at)
        ((when x then read_flag else
        when y then (integer >>= λ v. give (whole v)) else
        when z then (hex_on (2 * (4 * (k - 11))) 0 >>= λ n. give (float (4 * (k - 11)) n)) else (natural >>= λ n. give (link n))) t at)
    go true y z = flag_word t at
    go false true z = turned-word integer whole (integer-word t at)
    go false false true = turned-word (hex_on (2 * (4 * (k - 11))) 0) (float (4 * (k - 11))) (hex-word t (2 * (4 * (k - 11))) 0 0 at (omega arith))
    go false false false = turned-word natural link (natural-word t at)

-- ── one byte ──

pub byte-fate : (b : ℕ) (t : List ℕ) (at : ℕ) → Fate (λ u e. (get_or t at 256 ≡ b) × (e ≡ at + 1)) (byte_is b t at)
unfolding byte_is when◌then◌else◌
byte-fate b t at = go (eqb (get_or t at 256) b) refl
  where
    go : (x : Bool) → eqb (get_or t at 256) b ≡ x → Fate (λ u e. (get_or t at 256 ≡ b) × (e ≡ at + 1)) (when x then got (tt {0}) (at + 1) else bad 20 0)
    go true z = gives tt (at + 1) (eqb-true (get_or t at 256) b z, refl)
    go false z = refuses

-- ── the words of an element: an annotation has two, and a tab between them ──

unfoldable pub words_of : ℕ → ℕ
words_of k = when eqb k 5 then 2 else 1

pub words-two : (k : ℕ) → k ≡ 5 → words_of k ≡ 2
unfolding words_of when◌then◌else◌
words-two k is = rw is

pub words-one : (k : ℕ) → (k ≡ 5 → ⊥) → words_of k ≡ 1
unfolding words_of when◌then◌else◌
words-one k other = rw (ne_eqb k 5 other)

-- with the tab before them there are as many tabs as words
pub record Worded {A : Type 0} (w : ℕ) (t : List ℕ) (at : ℕ) (a : A) (e : ℕ) : Type 0 where
  pub tabs : suc (tabs_from t at) ≡ w + tabs_from t e

-- a decimal and the tab behind it
pub record Parted (t : List ℕ) (at n e : ℕ) : Type 0 where
  pub tabs : tabs_from t at ≡ suc (tabs_from t e)
  pub below : n < 2 ^ 64

pub parted : (t : List ℕ) (at : ℕ) → Fate (Parted t at) (ended tab natural t at)
unfolding ended ◌>>=◌ ◌>>◌ give
parted t at =
    fate-then _ (natural-word t at) (λ n e w.
    fate-then _ (byte-fate tab t e) (λ u d h.
    gives n d (record { tabs = w.tabs ∙ over-tab t e h.0 ∙ ap (λ (p : ℕ). suc (tabs_from t p)) (sym h.1); below = w.holds.below })))

annotation-word : (t : List ℕ) (at : ℕ) → Fate (Worded 2 t at) (read_element 5 t at)
unfolding read_element when◌then◌else◌ ◌>>=◌ give
annotation-word t at =
    fate-then _ (parted t at) (λ m e h.
    fate-then _ (natural-word t e) (λ n d w.
    gives (annotation m n) d (record { tabs = omega (arith, h.tabs, w.tabs) })))

pub element-word : (k : ℕ) (t : List ℕ) (at : ℕ) → Fate (Worded (words_of k) t at) (read_element k t at)
unfolding words_of when◌then◌else◌
element-word k t at = go (eqb k 5) refl
  where
    single : {A : Type 0} {o : Out A} → Fate (Word Any t at) o → Fate (Worded 1 t at) o
    single (gives a e w) = gives a e (record { tabs = omega (arith, w.tabs) })
    single refuses = refuses

    go : (b : Bool) → eqb k 5 ≡ b → Fate (Worded (when b then 2 else 1) t at) (read_element k t at)
    go true z = rw (eqb-true k 5 z) (annotation-word t at)
    go false z = single (single-word k t at z)

-- ── elements, each behind a tab ──

-- n at the most, and as many words as there are tabs
pub record Counted {A : Type 0} (w : ℕ) (t : List ℕ) (at n : ℕ) (l : List A) (e : ℕ) : Type 0 where
  pub tabs : tabs_from t at ≡ length l * w + tabs_from t e
  pub few : length l ≤ n

pub tabbed-counts :
    {A : Type 0} (r : Reader A) (w : ℕ) (t : List ℕ) → ((at : ℕ) → Fate (Worded w t at) (r t at)) → (n at : ℕ) → Fate (Counted w t at n) (tabbed n r t at)
unfolding tabbed when◌then◌else◌
tabbed-counts {A} r w t W zero at = gives [] at (record { tabs = rw (zero-mul w) (sym (zero-add _)); few = omega arith })
tabbed-counts {A} r w t W (suc n) at = go (eqb (get_or t at 256) tab) refl (λ e. tabbed-counts r w t W n e)
  where
    go :
        (x : Bool) → eqb (get_or t at 256) tab ≡ x → ((e : ℕ) → Fate (Counted w t e n) (tabbed n r t e))
        → Fate (Counted w t at (suc n)) (when x then and_then (r t (at + 1)) (λ a e. and_then (tabbed n r t e) λ l d. got (a ∷ l) d) else got [] at)
    go false z more = gives [] at (record { tabs = rw (zero-mul w) (sym (zero-add _)); few = omega arith })
    go true z more =
        let first = over-tab t at (eqb-true (get_or t at 256) tab z) in
        fate-then _ (W (at + 1)) (λ a e one.
        fate-then _ (more e) (λ l d C. gives (a ∷ l) d (record { tabs = omega (arith, one.tabs, C.tabs, suc-mul (length l) w); few = omega (arith, C.few) })))

-- Numbers laid byte by byte: what is left to write leads to the whole. Assumes nothing.
use mathlib.Core.Path.{◌≡◌, refl, sym, ap, ap₂, ◌∙◌}
use mathlib.Core.List.{List, [], ◌∷◌, append-nil}
use Prim.Native.Nat.{ℕ, zero, suc, ◌+◌, ◌-◌, ◌*◌, ◌^◌, ◌/◌, ◌%◌, ◌≤◌, ◌<◌}
use native.Mathlib.Omega.{arith}
use native.Mathlib.Nat.{pow-suc, pow-succ', one-le-pow, lt_of_not-le, mod-lt, mod-eq_of_lt, div-eq_of_lt, mul-add-div_right, mul-add-mod_self_right, add-zero}
use native.Mathlib.Decide.{dec_le}
use lib.Arith.{mod-mul}
use lib.Pow.{pow-add}
use lib.Dec.{lit<}
use lib.ListN.{length}
use Rattle.paper.specs.Numbers.{put_fixed, put_v64, put}
use Rattle.lay.specs.Laid.{Laid, Leads, most, leads-start, leads-on, leads-end}
use Rattle.numbers.specs.Lengths.{Length, one_left, more_left, last-left, has_some}

-- the last bytes of a text
pub leads-last :
    {l₀ w₀ l v m : List ℕ} {at₀ at p : ℕ} → Leads l₀ at₀ w₀ l at v → Laid l at v m p → Laid l₀ at₀ w₀ m p
leads-last {v = v} a b = leads-end (leads-on a (sym (append-nil v)) b) refl

-- what is asked of x below the widest, and holds of all machine numbers there
pub in_width : (w x : ℕ) → w ≤ 8 → (w < 8 → x < 256 ^ w) → x < 2 ^ 64 → x < 256 ^ w
in_width w x most below small =
    elim (dec_le 8 w) [
      | yes h ↦ (let is : w ≡ 8 = omega arith in rw is (omega arith))
      | no h ↦ below (lt_of_not-le h)
    ]

-- ── v64: `rest` is left to write, in `left` bytes, at most k before a ninth ──

pub record Writing (l₀ : List ℕ) (at x : ℕ) (l : List ℕ) (p rest left : ℕ) : Type 0 where
  pub k : ℕ
  pub leads : Leads l₀ at (put x) l p (put_v64 k rest)
  pub long : left ≡ length (put_v64 k rest)
  pub small : rest < 256 * 128 ^ k

pub writing_start :
    (l : List ℕ) (at x left : ℕ) → length l ≤ most → at ≤ most → x < 2 ^ 64 → Length x left → Writing l at x l at x left
unfolding put
writing_start l at x left h j lt L =
    record { k = 8; leads = leads-start h j; long = L.same; small = omega arith }

-- one byte is left
pub record One (l₀ : List ℕ) (at x : ℕ) (l : List ℕ) (p rest : ℕ) : Type 0 where
  pub leads : Leads l₀ at (put x) l p (rest ∷ [])
  pub small : rest < 256

module _ {l₀ : List ℕ} {at x : ℕ} {l : List ℕ} {p rest left : ℕ} where
  pub writing_more :
      {m : List ℕ} {q b : ℕ} → Writing l₀ at x l p rest left → 1 < left → b ≡ 128 + rest % 128 → Laid l p (b ∷ []) m q
      → Writing l₀ at x m q (rest / 128) (left - 1)
  writing_more {m} {q} W lt is b = by_place W.k W.leads W.long W.small (dec_le 128 rest)
    where
      by_place :
          (k : ℕ) → Leads l₀ at (put x) l p (put_v64 k rest) → left ≡ length (put_v64 k rest) → rest < 256 * 128 ^ k
          → Dec (128 ≤ rest) → Writing l₀ at x m q (rest / 128) (left - 1)
      by_place zero a long small d = absurd (omega (arith, long, ap length (last-left rest)))
      by_place (suc k) a long small (Dec.no d) =
          absurd (omega (arith, long, ap length (one_left (suc k) rest (lt_of_not-le d))))
      by_place (suc k) a long small (Dec.yes d) =
          let z = rw (pow-suc 128 k) at small in
          record {
            k = k;
            leads = leads-on a (more_left k rest d) (rw is at b);
            long = omega (arith, long, ap length (more_left k rest d));
            small = omega arith;
          }

  pub writing-one : Writing l₀ at x l p rest left → left ≤ 1 → One l₀ at x l p rest
  writing-one W h = by_place W.k W.leads W.long W.small (dec_le 128 rest)
    where
      by_place :
          (k : ℕ) → Leads l₀ at (put x) l p (put_v64 k rest) → left ≡ length (put_v64 k rest) → rest < 256 * 128 ^ k
          → Dec (128 ≤ rest) → One l₀ at x l p rest
      by_place zero a long small d = record { leads = rw last-left at a; small = omega arith }
      by_place (suc k) a long small (Dec.no d) =
          record { leads = rw (one_left (suc k) rest (lt_of_not-le d)) at a; small = omega (arith, lt_of_not-le d) }
      by_place (suc k) a long small (Dec.yes d) =
          absurd (omega (arith, long, ap length (more_left k rest d), has_some k (rest / 128)))

-- ── fixed widths ──

-- a byte and what lies below it
fixed_more : (l q r : ℕ) → r < 256 ^ l → put_fixed (suc l) (q * 256 ^ l + r) ≡ q ∷ put_fixed l r
unfolding put_fixed
fixed_more l q r h =
    let some = one-le-pow l 256 (lit< tt) in
    let high : (q * 256 ^ l + r) / 256 ^ l ≡ q = mul-add-div_right some q r ∙ rw (div-eq_of_lt h) (add-zero q) in
    let low : (q * 256 ^ l + r) % 256 ^ l ≡ r = mul-add-mod_self_right q (256 ^ l) r ∙ mod-eq_of_lt h in
    ap₂ ◌∷◌ high (ap (put_fixed l) low)

pub shifted : (l : ℕ) → 2 ^ (8 * l) ≡ 256 ^ l
shifted zero = refl
shifted (suc l) =
    let z : 8 * suc l ≡ 8 * l + 8 = omega arith in
    rw (z, pow-add 2 (8 * l) 8, shifted l, pow-suc 256 l)

next-byte :
    (l x : ℕ) → put_fixed (suc l) (x % 256 ^ suc l) ≡ (x / 2 ^ (8 * l) % 256) ∷ put_fixed l (x % 256 ^ l)
next-byte l x =
    let some = one-le-pow l 256 (lit< tt) in
    rw (shifted l, pow-succ' 256 l, mod-mul x {m = 256} {c = 256 ^ l} (lit< tt) some)
    (fixed_more l (x / 256 ^ l % 256) (x % 256 ^ l) (mod-lt x some))

-- the lowest `left` bytes of x are left to write
pub record Lowering (l₀ : List ℕ) (at x width : ℕ) (l : List ℕ) (p left : ℕ) : Type 0 where
  pub leads : Leads l₀ at (put_fixed width x) l p (put_fixed left (x % 256 ^ left))
  pub count : left ≤ width

pub lowering-start :
    (l : List ℕ) (at x width : ℕ) → length l ≤ most → at ≤ most → x < 256 ^ width → Lowering l at x width l at width
lowering-start l at x width h j lt = record { leads = rw (mod-eq_of_lt lt) (leads-start h j); count = omega arith }

pub lowering-more :
    {l₀ : List ℕ} {at x width : ℕ} {l m : List ℕ} {p q left : ℕ} → Lowering l₀ at x width l p left → 0 < left
    → Laid l p ((x / 2 ^ (8 * (left - 1)) % 256) ∷ []) m q → Lowering l₀ at x width m q (left - 1)
lowering-more {l₀} {at} {x} {width} {l} {m} {p} {q} {left = zero} L lt b = absurd (omega arith)
lowering-more {l₀} {at} {x} {width} {l} {m} {p} {q} {left = (suc left)} L lt b =
    let one_less : suc left - 1 ≡ left = omega arith in
    rw one_less
    (record { leads = leads-on L.leads (next-byte left x) (rw one_less at b); count = omega (arith, L.count) })

pub lowering-end :
    {l₀ : List ℕ} {at x width : ℕ} {l : List ℕ} {p left : ℕ} → Lowering l₀ at x width l p left → left ≤ 0
    → Laid l₀ at (put_fixed width x) l p
unfolding put_fixed
lowering-end {left = left} L h = let z : left ≡ 0 = omega arith in leads-end L.leads (rw z)

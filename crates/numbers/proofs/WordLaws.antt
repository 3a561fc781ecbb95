-- Eight bytes as one number: where v64s end in them, told by bits. Assumes nothing.
use mathlib.Core.Path.{◌≡◌, refl, sym, ap, ap₂, ◌∙◌}
use mathlib.Core.List.{List}
use Prim.Native.Nat.{ℕ, zero, suc, ◌+◌, ◌-◌, ◌*◌, ◌^◌, ◌/◌, ◌%◌, ◌≤◌, ◌<◌}
use native.Mathlib.Omega.{arith}
use native.Mathlib.Nat.{pow-suc, one-le-pow, zero-add, suc-add, add_comm, mul_comm, mul-div_cancel, mul-mod_left, lt_of_not-le}
use native.Mathlib.Numerals.{add-one}
use native.Mathlib.Decide.{dec_le}
use lib.Dec.{lit<}
use lib.Bits.{bit_and, and_block, and_mask, and_high, and_zero_r}
use lib.Pow.{pow_pos, pow-add, high}
use lib.Arith.{mod-mul}
use lib.Count.{ones, ones_cat, count_leading_zeros, leading_unique, count_trailing_zeros, trailing_of_zero}
use lib.ListN.{length, get_or, take, drop}
use lib.Seq.{drop-cons}
use Rattle.paper.specs.Reader.{Out, got}
use Rattle.paper.specs.Numbers.{coding}
use Rattle.numbers.specs.Begun.{Ended}
use Rattle.numbers.specs.Turned.{low_bytes, TakenV64}
use Rattle.numbers.specs.Words.{stop, marks, septets, Over, here, past, Ran}
use Rattle.numbers.proofs.WriteLaws.{shifted}
use Rattle.numbers.proofs.V64Laws.{goes, goes_last, goes-more, ended, valued, valued-last, valued-more, goes-valued, taken-v64}

-- ── the top bits ──

-- those of n bytes
unfoldable tops : ℕ → ℕ
tops zero = 0
tops (suc n) = 128 + 256 * tops n

top_bit : (b : ℕ) → b < 256 → bit_and b 128 + 128 * stop b ≡ 128
top_bit b h = let z : bit_and b 128 ≡ b / 128 % 2 * 128 = and_high b 1 7 in omega arith

and-tops : (n x : ℕ) → bit_and x (tops n) + marks n x ≡ tops n
unfolding tops marks
and-tops zero x = omega (arith, and_zero_r x)
and-tops (suc n) x =
    let x-is : x ≡ x / 256 * 2 ^ 8 + x % 256 = omega arith in
    let tops_are : 128 + 256 * tops n ≡ tops n * 2 ^ 8 + 128 = omega arith in
    let apart : bit_and x (128 + 256 * tops n) ≡ bit_and (x / 256) (tops n) * 2 ^ 8 + bit_and (x % 256) 128 =
    ap₂ bit_and x-is tops_are ∙ and_block 8 (x / 256) (tops n) (x % 256) 128 (omega arith) (lit< tt) in
    omega (arith, and-tops n (x / 256), top_bit (x % 256) (omega arith))

pub marked : (x : ℕ) → (bit_and x 9259542123273814144 ≤ 9259542123273814144) × (9259542123273814144 - bit_and x 9259542123273814144 ≡ marks 8 x)
unfolding tops
marked x = let z : bit_and x 9259542123273814144 + marks 8 x ≡ 9259542123273814144 = and-tops 8 x in (omega arith, omega arith)

-- ── how many there are ──

unfoldable stops : ℕ → ℕ → ℕ
stops zero x = 0
stops (suc n) x = stop (x % 256) + stops n (x / 256)

one-mark : (s : ℕ) → s ≤ 1 → ones (128 * s) ≡ s
unfolding ones
one-mark zero h = refl
one-mark (suc zero) h = refl
one-mark (suc (suc s)) h = absurd (omega arith)

ones-marks : (n x : ℕ) → ones (marks n x) ≡ stops n x
unfolding ones marks stops
ones-marks zero x = refl
ones-marks (suc n) x =
    let parts : 128 * stop (x % 256) + 256 * marks n (x / 256) ≡ marks n (x / 256) * 2 ^ 8 + 128 * stop (x % 256) = omega arith in
    ap ones parts
    ∙ ones_cat 8 (marks n (x / 256)) (128 * stop (x % 256)) (omega arith)
    ∙ ap₂ (λ (a b : ℕ). a + b) (ones-marks n (x / 256)) (one-mark (stop (x % 256)) (omega arith))
    ∙ add_comm (stops n (x / 256)) (stop (x % 256))

-- ── how many bytes there are up to the last ──

abbrev reach : ℕ → ℕ → ℕ → ℕ
reach zero s u = s
reach (suc c) s u = suc u

unfoldable upto : ℕ → ℕ → ℕ
upto zero x = 0
upto (suc n) x = reach (stops n (x / 256)) (stop (x % 256)) (upto n (x / 256))

-- the marks m of n bytes, of which c are set, the last in byte u
record Top (n m c u : ℕ) : Type 0 where
  none : c ≡ 0 → m ≡ 0
  few : c ≤ n
  most : u ≤ n
  below : m < 256 ^ u
  above : 0 < c → 256 ^ u ≤ 2 * m

only : (n s : ℕ) → s ≤ 1 → Top (suc n) (128 * s) s s
only n zero h = record { none = λ e. refl; few = omega arith; most = omega arith; below = omega arith; above = λ i. absurd (omega arith) }
only n (suc zero) h = record { none = λ e. absurd (omega arith); few = omega arith; most = omega arith; below = omega arith; above = λ i. omega arith }
only n (suc (suc s)) h = absurd (omega arith)

top : (n x : ℕ) → Top n (marks n x) (stops n x) (upto n x)
unfolding marks stops upto
top zero x = record { none = λ e. refl; few = omega arith; most = omega arith; below = omega arith; above = λ i. absurd (omega arith) }
top (suc n) x = go (stop (x % 256)) (omega arith) (marks n (x / 256)) (stops n (x / 256)) (upto n (x / 256)) (top n (x / 256))
  where
    go : (s : ℕ) → s ≤ 1 → (m c u : ℕ) → Top n m c u → Top (suc n) (128 * s + 256 * m) (s + c) (reach c s u)
    go s h m zero u T =
        let no_more : m ≡ 0 = T.none refl in
        let all : 128 * s + 256 * m ≡ 128 * s = omega arith in
        let count : s + 0 ≡ s = omega arith in
        rw (all, count) (only n s h)
    go s h m (suc c) u T =
        let below = T.below in
        let above : 256 ^ u ≤ 2 * m = T.above (omega arith) in
        record {
          none = λ e. absurd (omega arith);
          few = omega (arith, T.few);
          most = omega (arith, T.most);
          below = rw (pow-suc 256 u) (omega arith);
          above = λ i. rw (pow-suc 256 u) (omega arith);
        }

leads : (x : ℕ) → 0 < stops 8 x → count_leading_zeros 64 (marks 8 x) + 8 * upto 8 x ≡ 64
leads x h =
    let T = top 8 x in
    let most = T.most in
    let zeros = leading_unique 64 (marks 8 x) (64 - 8 * upto 8 x) (8 * upto 8 x) (omega arith) (rw (shifted (upto 8 x)) T.below) (rw (shifted (upto 8 x)) (omega (arith, T.above h))) in
    omega arith

-- ── the bytes ──

-- x has the n bytes from p on
pub record Word (f : List ℕ) (p n x : ℕ) : Type 0 where
  pub is : x ≡ low_bytes (take n (drop p f))
  pub room : p + n ≤ length f
  pub small : (i : ℕ) → get_or f i 0 < 256

module _ {f : List ℕ} {p n x : ℕ} (W : Word f p (suc n) x) where
  word-parts : x ≡ get_or f p 0 + 256 * low_bytes (take n (drop (p + 1) f))
  unfolding low_bytes
  word-parts = rw (add-one p) (W.is ∙ ap (λ (l : List ℕ). low_bytes (take (suc n) l)) (drop-cons f p 0 (omega (arith, W.room))))

  word_byte : x % 256 ≡ get_or f p 0
  word_byte = omega (arith, W.small p, word-parts)

  word-rest : Word f (p + 1) n (x / 256)
  word-rest = record { is = omega (arith, W.small p, word-parts); room = omega (arith, W.room); small = W.small }

-- a number that goes on with o, and then k numbers
record Passing (f : List ℕ) (o : Out (List ℕ)) (k end : ℕ) : Type 0 where
  mid : ℕ
  says : goes o ≡ got tt mid
  inside : mid ≤ length f
  rest : Over f k mid end

passes :
    {f : List ℕ} (n p x l k : ℕ) → Word f p n x → n ≤ 8 → n ≤ l → stops n x ≡ suc k → Passing f (coding l f p) k (p + upto n x)
unfolding stops upto
passes zero p x l k W most le is = absurd (omega arith)
passes (suc n) p x zero k W most le is = absurd (omega arith)
passes {f} (suc n) p x (suc l) k W most le is =
    by_byte (dec_le 128 (x % 256))
    (λ j e. passes n (p + 1) (x / 256) 8 j (word-rest W) (omega arith) (omega arith) e)
    (λ e. passes n (p + 1) (x / 256) l k (word-rest W) (omega arith) (omega arith) e)
  where
    room : p < length f
    room = omega (arith, W.room)

    -- the byte ends the number: others follow, or none
    others :
        (c : ℕ) → c ≡ k → stop (x % 256) ≡ 1
        → ((j : ℕ) → c ≡ suc j → Passing f (coding 8 f (p + 1)) j (p + 1 + upto n (x / 256)))
        → Over f k (p + 1) (p + reach c (stop (x % 256)) (upto n (x / 256)))
    others zero e one on = rw (← e, one) here
    others (suc c) e one on =
        let P = on c refl in
        let end : p + 1 + upto n (x / 256) ≡ p + suc (upto n (x / 256)) = omega arith in
        rw (← e, ← end) (past (ended f (p + 1) P.says P.inside) P.rest)

    by_byte :
        Dec (128 ≤ x % 256)
        → ((j : ℕ) → stops n (x / 256) ≡ suc j → Passing f (coding 8 f (p + 1)) j (p + 1 + upto n (x / 256)))
        → (stops n (x / 256) ≡ suc k → Passing f (coding l f (p + 1)) k (p + 1 + upto n (x / 256)))
        → Passing f (coding (suc l) f p) k (p + reach (stops n (x / 256)) (stop (x % 256)) (upto n (x / 256)))
    by_byte (Dec.no d) on same =
        let low = lt_of_not-le d in
        record {
          mid = p + 1;
          says = goes_last f p (suc l) room (λ i. omega (arith, word_byte W));
          inside = omega arith;
          rest = others (stops n (x / 256)) (omega arith) (omega arith) on;
        }
    by_byte (Dec.yes d) on same =
        let all : stops n (x / 256) ≡ suc k = omega arith in
        let P = same all in
        let end : p + 1 + upto n (x / 256) ≡ p + suc (upto n (x / 256)) = omega arith in
        rw (all, ← end)
        (record {
          mid = P.mid;
          says = goes-more f p l room (omega (arith, word_byte W)) ∙ P.says;
          inside = P.inside;
          rest = P.rest;
        })

-- none of the bytes ends it: the next one does
on-to-last : {f : List ℕ} (n p x : ℕ) → Word f p n x → p + n < length f → stops n x ≡ 0 → goes (coding n f p) ≡ got tt (p + n + 1)
unfolding stops
on-to-last {f} zero p x W room is =
    let end : p + 0 + 1 ≡ p + 1 = omega arith in
    rw end (goes_last f p 0 (omega arith) (λ i. absurd (omega arith)))
on-to-last {f} (suc n) p x W room is =
    let end : p + suc n + 1 ≡ p + 1 + n + 1 = omega arith in
    rw end (goes-more f p n (omega arith) (omega (arith, word_byte W)) ∙ on-to-last n (p + 1) (x / 256) (word-rest W) (omega arith) (omega arith))

-- ── what is passed over ──

module _ (x : ℕ) {m : ℕ} (is : m ≡ marks 8 x) where
  count : ones m ≡ stops 8 x
  count = ap ones is ∙ ones-marks 8 x

  pub few-marked : ones m ≤ 8
  few-marked = omega (arith, count, (top 8 x).few)

  no_stop : m ≡ 0 → stops 8 x ≡ 0
  unfolding ones
  no_stop e = sym count ∙ ap ones e

  some-stop : (m ≡ 0 → ⊥) → 0 < stops 8 x
  some-stop marked = go (stops 8 x) refl
    where
      go : (c : ℕ) → stops 8 x ≡ c → 0 < c
      go zero e = absurd (marked (is ∙ (top 8 x).none e))
      go (suc c) e = omega arith

module _ {f : List ℕ} {at x m : ℕ} (W : Word f at 8 x) (is : m ≡ marks 8 x) where
  pub ran-nine : at + 9 ≤ length f → m ≡ 0 → Ran f at (record { count = 1; next = record { at = at + 9 } })
  ran-nine room e =
      let end : at + 8 + 1 ≡ at + 9 = omega arith in
      let says : goes (coding 8 f at) ≡ got tt (at + 9) = rw end at (on-to-last 8 at x W (omega arith) (no_stop x is e)) in
      record { over = past (ended f at says room) here; some = omega arith; few = omega arith; near = omega arith }

  pub ran_many : (m ≡ 0 → ⊥) → Ran f at (record { count = ones m; next = record { at = at + (8 - count_leading_zeros 64 m / 8) } })
  ran_many marked =
      let most = (top 8 x).most in
      let zeros : count_leading_zeros 64 m + 8 * upto 8 x ≡ 64 = rw is (leads x (some-stop x is marked)) in
      let end : 8 - count_leading_zeros 64 m / 8 ≡ upto 8 x = omega arith in
      record {
        over = rw (end, count x is) (all (stops 8 x) refl);
        some = omega (arith, count x is, some-stop x is marked);
        few = few-marked x is;
        near = omega arith;
      }
    where
      all : (c : ℕ) → stops 8 x ≡ c → Over f c at (at + upto 8 x)
      all zero e = absurd (omega (arith, some-stop x is marked))
      all (suc k) e = let P = passes 8 at x 8 k W (omega arith) (omega arith) e in past (ended f at P.says P.inside) P.rest

-- ── how many bytes there are up to the first ──

abbrev pick : ℕ → ℕ → ℕ
pick zero i = suc i
pick (suc s) i = 0

unfoldable first : ℕ → ℕ → ℕ
first zero x = 0
first (suc n) x = pick (stop (x % 256)) (first n (x / 256))

trailing_even : (k m : ℕ) → count_trailing_zeros (suc k) (2 * m) ≡ suc (count_trailing_zeros k m)
unfolding count_trailing_zeros
trailing_even k m =
    let low : 2 * m % 2 ≡ 0 = omega arith in
    let high : 2 * m / 2 ≡ m = omega arith in
    rw (low, high) refl

trailing_odd : (k m : ℕ) → count_trailing_zeros (suc k) (2 * m + 1) ≡ 0
unfolding count_trailing_zeros
trailing_odd k m = let low : (2 * m + 1) % 2 ≡ 1 = omega arith in rw low refl

trailing-shift : (j k m : ℕ) → count_trailing_zeros (j + k) (2 ^ j * m) ≡ j + count_trailing_zeros k m
trailing-shift zero k m =
    let all : 2 ^ 0 * m ≡ m = omega arith in
    rw (zero-add k, all, zero-add (count_trailing_zeros k m)) refl
trailing-shift (suc j) k m =
    let twice : 2 ^ suc j * m ≡ 2 * (2 ^ j * m) = rw (pow-suc 2 j) (omega arith) in
    rw (suc-add j k, twice, suc-add j (count_trailing_zeros k m)) (trailing_even (j + k) (2 ^ j * m) ∙ ap suc (trailing-shift j k m))

-- the lowest mark of n bytes, of which one is set
record Bottom (n m i : ℕ) : Type 0 where
  zeros : count_trailing_zeros (8 * n) m ≡ 8 * i + 7
  below : i < n

bottom : (n x : ℕ) → 0 < stops n x → Bottom n (marks n x) (first n x)
unfolding marks stops first
bottom zero x h = absurd (omega arith)
bottom (suc n) x h = go (stop (x % 256)) (omega arith) h (bottom n (x / 256))
  where
    go :
        (s : ℕ) → s ≤ 1 → 0 < s + stops n (x / 256) → (0 < stops n (x / 256) → Bottom n (marks n (x / 256)) (first n (x / 256)))
        → Bottom (suc n) (128 * s + 256 * marks n (x / 256)) (pick s (first n (x / 256)))
    go zero le some rest =
        let B = rest (omega arith) in
        let size : 8 * suc n ≡ 8 + 8 * n = omega arith in
        let m-is : 128 * 0 + 256 * marks n (x / 256) ≡ 2 ^ 8 * marks n (x / 256) = omega arith in
        let zeros : count_trailing_zeros (8 * suc n) (128 * 0 + 256 * marks n (x / 256)) ≡ 8 + count_trailing_zeros (8 * n) (marks n (x / 256)) =
        rw (size, m-is) (trailing-shift 8 (8 * n) (marks n (x / 256))) in
        record { zeros = omega (arith, B.zeros); below = omega (arith, B.below) }
    go (suc zero) le some rest =
        let size : 8 * suc n ≡ 7 + suc (8 * n) = omega arith in
        let m-is : 128 * 1 + 256 * marks n (x / 256) ≡ 2 ^ 7 * (2 * marks n (x / 256) + 1) = omega arith in
        let zeros : count_trailing_zeros (8 * suc n) (128 * 1 + 256 * marks n (x / 256)) ≡ 7 + count_trailing_zeros (suc (8 * n)) (2 * marks n (x / 256) + 1) =
        rw (size, m-is) (trailing-shift 7 (suc (8 * n)) (2 * marks n (x / 256) + 1)) in
        record { zeros = omega (arith, trailing_odd (8 * n) (marks n (x / 256))); below = omega arith }
    go (suc (suc s)) le some rest = absurd (omega arith)

-- ── the number of a coding ──

septets-none : (n : ℕ) → septets n 0 ≡ 0
unfolding septets
septets-none zero = refl
septets-none (suc n) = omega (arith, septets-none n)

septets-below : (n x : ℕ) → septets n x < 128 ^ n
unfolding septets
septets-below zero x = omega arith
septets-below (suc n) x = let rest = septets-below n (x / 256) in rw (pow-suc 128 n) (omega arith)

-- the byte that ends it is among the n
to-first :
    {f : List ℕ} (n p x l : ℕ) → Word f p n x → n ≤ l → 0 < stops n x
    → valued (coding l f p) ≡ got (septets n (x % 256 ^ suc (first n x))) (p + (first n x + 1))
unfolding stops first septets
to-first zero p x l W le some = absurd (omega arith)
to-first (suc n) p x zero W le some = absurd (omega arith)
to-first {f} (suc n) p x (suc l) W le some = by-stop (stop (x % 256)) refl (to-first n (p + 1) (x / 256) l (word-rest W) (omega arith))
  where
    room : p < length f
    room = omega (arith, W.room)

    by-stop :
        (s : ℕ) → stop (x % 256) ≡ s
        → (0 < stops n (x / 256) → valued (coding l f (p + 1)) ≡ got (septets n (x / 256 % 256 ^ suc (first n (x / 256)))) (p + 1 + (first n (x / 256) + 1)))
        → valued (coding (suc l) f p)
        ≡ got (x % 256 ^ suc (pick s (first n (x / 256))) % 128 + 128 * septets n (x % 256 ^ suc (pick s (first n (x / 256))) / 256)) (p + (pick s (first n (x / 256)) + 1))
    by-stop zero is rest =
        let i : ℕ = first n (x / 256) in
        let parts : x % 256 ^ suc (suc (first n (x / 256))) ≡ x / 256 % 256 ^ suc (first n (x / 256)) * 256 + x % 256 =
        rw (pow-suc 256 (suc (first n (x / 256)))) (mod-mul x {m = 256 ^ suc (first n (x / 256))} {c = 256} (one-le-pow (suc (first n (x / 256))) 256 (lit< tt)) (lit< tt)) in
        let low : x % 256 ^ suc (suc (first n (x / 256))) % 128 ≡ get_or f p 0 - 128 = omega (arith, word_byte W) in
        let high : x % 256 ^ suc (suc (first n (x / 256))) / 256 ≡ x / 256 % 256 ^ suc (first n (x / 256)) = omega arith in
        let end : p + (suc (first n (x / 256)) + 1) ≡ p + 1 + (first n (x / 256) + 1) = omega arith in
        rw (low, high, end) (valued-more f p l room (omega (arith, word_byte W)) (rest (omega arith)))
    by-stop (suc s) is rest =
        let low : x % 256 ^ 1 % 128 ≡ get_or f p 0 = omega (arith, word_byte W) in
        let high : x % 256 ^ 1 / 256 ≡ 0 = omega arith in
        let end : p + (0 + 1) ≡ p + 1 = omega arith in
        let all : get_or f p 0 + 128 * 0 ≡ get_or f p 0 = omega arith in
        rw (low, high, septets-none n, end, all) (valued-last f p (suc l) room (λ h. omega (arith, word_byte W)))

-- none of the n is: the next one does
to-ninth :
    {f : List ℕ} (n p x c : ℕ) → Word f p n x → p + n < length f → c ≡ get_or f (p + n) 0 → stops n x ≡ 0
    → valued (coding n f p) ≡ got (septets n x + 128 ^ n * c) (p + (n + 1))
unfolding stops septets
to-ninth {f} zero p x c W room is none =
    let here-is : p + 0 ≡ p = omega arith in
    let end : p + (0 + 1) ≡ p + 1 = omega arith in
    let all : 0 + 128 ^ 0 * c ≡ get_or f p 0 = omega (arith, rw here-is at is) in
    rw (all, end) (valued-last f p 0 (omega arith) (λ h. absurd (omega arith)))
to-ninth {f} (suc n) p x c W room is none =
    let next : p + suc n ≡ p + 1 + n = omega arith in
    let end : p + (suc n + 1) ≡ p + 1 + (n + 1) = omega arith in
    let low : x % 128 ≡ get_or f p 0 - 128 = omega (arith, word_byte W) in
    let all : x % 128 + 128 * septets n (x / 256) + 128 ^ suc n * c ≡ get_or f p 0 - 128 + 128 * (septets n (x / 256) + 128 ^ n * c) =
    rw (pow-suc 128 n, low) (omega arith) in
    rw (all, end)
    (valued-more f p n (omega arith) (omega (arith, word_byte W)) (to-ninth n (p + 1) (x / 256) c (word-rest W) (omega arith) (rw next at is) (omega arith)))

-- ── what is taken ──

-- the bits of x up to one of them, by moving the others out
pub up-to-bit : (x bit : ℕ) → bit < 64 → x * 2 ^ (63 - bit) % 2 ^ 64 / 2 ^ (63 - bit) ≡ x % 2 ^ (bit + 1)
up-to-bit x bit h =
    let size : 64 ≡ bit + 1 + (63 - bit) = omega arith in
    let whole : 2 ^ 64 ≡ 2 ^ (bit + 1) * 2 ^ (63 - bit) = ap (λ (n : ℕ). 2 ^ n) size ∙ pow-add 2 (bit + 1) (63 - bit) in
    ap (λ (n : ℕ). x * 2 ^ (63 - bit) % n / 2 ^ (63 - bit)) whole
    ∙ ap (λ (n : ℕ). n / 2 ^ (63 - bit)) (mod-mul (x * 2 ^ (63 - bit)) {m = 2 ^ (bit + 1)} {c = 2 ^ (63 - bit)} (pow_pos (bit + 1)) (pow_pos (63 - bit)))
    ∙ ap₂ (λ (a b : ℕ). (a % 2 ^ (bit + 1) * 2 ^ (63 - bit) + b) / 2 ^ (63 - bit)) (mul-div_cancel x (pow_pos (63 - bit))) (mul-mod_left x (2 ^ (63 - bit)))
    ∙ high (x % 2 ^ (bit + 1)) (63 - bit) (pow_pos (63 - bit))

module _ (x : ℕ) {m : ℕ} (is : m ≡ marks 8 x) (marked : m ≡ 0 → ⊥) where
  at-bit : count_trailing_zeros 64 m ≡ 8 * first 8 x + 7
  at-bit = ap (count_trailing_zeros 64) is ∙ (bottom 8 x (some-stop x is marked)).zeros

  pub in-word : count_trailing_zeros 64 m < 64
  in-word = omega (arith, at-bit, (bottom 8 x (some-stop x is marked)).below)

-- the ninth byte has eight bits, and all have room
pub nine-fits : (x c : ℕ) → c < 256 → {j : ℕ} → j ≡ septets 8 x → j + c * 2 ^ 56 % 2 ^ 64 < 2 ^ 64
nine-fits x c small is = omega (arith, septets-below 8 x)

module _ {f : List ℕ} {at x m : ℕ} (W : Word f at 8 x) (is : m ≡ marks 8 x) where
  pub took-nine :
      at + 9 ≤ length f → m ≡ 0 → (c : ℕ) → c ≡ get_or f (at + 8) 0 → c < 256 → {j : ℕ} → j ≡ septets 8 x
      → TakenV64 f at (record { number = j + c * 2 ^ 56 % 2 ^ 64; next = record { at = at + 9 } })
  took-nine room e c c-is small {j} j-is =
      let all : j + c * 2 ^ 56 % 2 ^ 64 ≡ septets 8 x + 128 ^ 8 * c = omega (arith, septets-below 8 x) in
      let says : valued (coding 8 f at) ≡ got (septets 8 x + 128 ^ 8 * c) (at + 9) = to-ninth 8 at x c W (omega arith) c-is (no_stop x is e) in
      taken-v64 f at (rw all says) (omega arith) (omega arith) (nine-fits x c small j-is)

  pub took-bit :
      (m ≡ 0 → ⊥) → {bit y j : ℕ} → bit ≡ count_trailing_zeros 64 m → y ≡ x % 2 ^ (bit + 1) → j ≡ septets 8 y
      → TakenV64 f at (record { number = j; next = record { at = at + bit / 8 + 1 } })
  took-bit marked {bit} {y} {j} bit_is y-is j-is =
      let i-is = at-bit x is marked in
      let low = in-word x is marked in
      let size : bit + 1 ≡ 8 * suc (first 8 x) = omega arith in
      let power : 2 ^ (bit + 1) ≡ 256 ^ suc (first 8 x) = ap (λ (n : ℕ). 2 ^ n) size ∙ shifted (suc (first 8 x)) in
      let number : j ≡ septets 8 (x % 256 ^ suc (first 8 x)) = j-is ∙ ap (septets 8) (y-is ∙ ap (λ (n : ℕ). x % n) power) in
      let end : at + bit / 8 + 1 ≡ at + (first 8 x + 1) = omega arith in
      let below : j < 2 ^ 64 = omega (arith, septets-below 8 y) in
      rw end (taken-v64 f at (rw number (to-first 8 at x 8 W (omega arith) (some-stop x is marked))) (omega arith) (omega arith) below)

  -- where it ends, whichever byte ends it
  pub passed-word : at + 9 ≤ length f → Ended f at (at + count_trailing_zeros 64 m / 8 + 1) × (at + count_trailing_zeros 64 m / 8 + 1 ≤ at + 9)
  passed-word room = go m refl
    where
      go : (k : ℕ) → m ≡ k → Ended f at (at + count_trailing_zeros 64 m / 8 + 1) × (at + count_trailing_zeros 64 m / 8 + 1 ≤ at + 9)
      go zero e =
          let bit : count_trailing_zeros 64 m ≡ 64 = ap (count_trailing_zeros 64) e ∙ trailing_of_zero 64 in
          let end : at + count_trailing_zeros 64 m / 8 + 1 ≡ at + 8 + 1 = omega arith in
          rw end (ended f at (on-to-last 8 at x W (omega arith) (no_stop x is e)) (omega arith), omega arith)
      go (suc k) e =
          let marked : m ≡ 0 → ⊥ = λ q. omega arith in
          let i-is = at-bit x is marked in
          let low = in-word x is marked in
          let end : at + count_trailing_zeros 64 m / 8 + 1 ≡ at + (first 8 x + 1) = omega arith in
          rw end (ended f at (goes-valued f at 8 (to-first 8 at x 8 W (omega arith) (some-stop x is marked))) (omega arith), omega arith)

-- ── seven bits of each byte, side by side ──

-- both numbers in parts of w bits
lane : (w r q s m : ℕ) → r < 2 ^ w → s < 2 ^ w → bit_and (r + 2 ^ w * q) (s + 2 ^ w * m) ≡ bit_and r s + 2 ^ w * bit_and q m
lane w r q s m h k =
    ap₂ bit_and (turn r q) (turn s m) ∙ and_block w q m r s h k ∙ sym (turn (bit_and r s) (bit_and q m))
  where
    turn : (a b : ℕ) → a + 2 ^ w * b ≡ b * 2 ^ w + a
    turn a b = add_comm a (2 ^ w * b) ∙ ap (λ (n : ℕ). n + a) (mul_comm (2 ^ w) b)

-- the seven bits of each of n bytes, where they stand
unfoldable sevens : ℕ → ℕ → ℕ
sevens zero x = 0
sevens (suc n) x = x % 128 + 256 * sevens n (x / 256)

unfoldable sevenths : ℕ → ℕ
sevenths zero = 0
sevenths (suc n) = 127 + 256 * sevenths n

and-sevenths : (n x : ℕ) → bit_and x (sevenths n) ≡ sevens n x
unfolding sevens sevenths
and-sevenths zero x = and_zero_r x
and-sevenths (suc n) x =
    let x-is : x ≡ x % 256 + 2 ^ 8 * (x / 256) = omega arith in
    let low : bit_and (x % 256) 127 ≡ x % 128 = and_mask (x % 256) 7 ∙ omega arith in
    ap (λ (z : ℕ). bit_and z (127 + 256 * sevenths n)) x-is
    ∙ lane 8 (x % 256) (x / 256) 127 (sevenths n) (omega arith) (lit< tt)
    ∙ ap₂ (λ (u v : ℕ). u + 256 * v) low (and-sevenths n (x / 256))

-- twos from ones
abbrev highs : ℕ → ℕ
highs o = bit_and o 9151454082924314368

second-of-two : (a b : ℕ) → a < 128 → b < 128 → bit_and (a + 256 * b) 32512 ≡ 256 * b
second-of-two a b h k = let z : bit_and (a + 256 * b) 32512 ≡ (a + 256 * b) / 256 % 128 * 256 = and_high (a + 256 * b) 7 8 in omega arith

next-two : (a b q m : ℕ) → a < 128 → b < 128 → bit_and (a + 256 * b + 65536 * q) (32512 + 65536 * m) ≡ 256 * b + 65536 * bit_and q m
next-two a b q m h k = lane 16 (a + 256 * b) q 32512 m (omega arith) (lit< tt) ∙ ap (λ (u : ℕ). u + 65536 * bit_and q m) (second-of-two a b h k)

-- fours from twos
abbrev fours_of : ℕ → ℕ
fours_of t = bit_and t 70364449226751 + bit_and t 4611404544524353536 / 4

module _ (t u v w : ℕ) (t-low : t < 16384) (u-low : u < 16384) (v_low : v < 16384) (w-low : w < 16384) where
  fours-are : fours_of (t + 65536 * u + 4294967296 * (v + 65536 * w)) ≡ t + 16384 * u + 4294967296 * (v + 16384 * w)
  fours-are =
      let low-t : bit_and (t + 65536 * u) 16383 ≡ t = and_mask (t + 65536 * u) 14 ∙ omega arith in
      let low-v : bit_and (v + 65536 * w) 16383 ≡ v = and_mask (v + 65536 * w) 14 ∙ omega arith in
      let high-u : bit_and (t + 65536 * u) 1073676288 ≡ 65536 * u = and_high (t + 65536 * u) 14 16 ∙ omega arith in
      let high-w : bit_and (v + 65536 * w) 1073676288 ≡ 65536 * w = and_high (v + 65536 * w) 14 16 ∙ omega arith in
      let lows : bit_and (t + 65536 * u + 4294967296 * (v + 65536 * w)) 70364449226751 ≡ t + 4294967296 * v =
      lane 32 (t + 65536 * u) (v + 65536 * w) 16383 16383 (omega arith) (lit< tt) ∙ ap₂ (λ (a b : ℕ). a + 4294967296 * b) low-t low-v in
      let tops_are : bit_and (t + 65536 * u + 4294967296 * (v + 65536 * w)) 4611404544524353536 ≡ 65536 * u + 4294967296 * (65536 * w) =
      lane 32 (t + 65536 * u) (v + 65536 * w) 1073676288 1073676288 (omega arith) (lit< tt) ∙ ap₂ (λ (a b : ℕ). a + 4294967296 * b) high-u high-w in
      rw (lows, tops_are) (omega arith)

-- and all eight
abbrev eight_of : ℕ → ℕ
eight_of f = bit_and f 268435455 + bit_and f 1152921500311879680 / 16

eight_are : (f g : ℕ) → f < 268435456 → g < 268435456 → eight_of (f + 4294967296 * g) ≡ f + 268435456 * g
eight_are f g h k =
    let low : bit_and (f + 4294967296 * g) 268435455 ≡ f = and_mask (f + 4294967296 * g) 28 ∙ omega arith in
    let high-g : bit_and (f + 4294967296 * g) 1152921500311879680 ≡ 4294967296 * g = and_high (f + 4294967296 * g) 28 32 ∙ omega arith in
    rw (low, high-g) (omega arith)

-- what is done to the ones o, of which comes v: no step leaves the range
pub record Joins (o v : ℕ) : Type 0 where
  pub less : highs o / 2 ≤ o
  pub fours : fours_of (o - highs o / 2) < 2 ^ 64
  pub fits : eight_of (fours_of (o - highs o / 2)) < 2 ^ 64
  pub is : eight_of (fours_of (o - highs o / 2)) ≡ v

joins :
    (a b c d e f g h : ℕ) → a < 128 → b < 128 → c < 128 → d < 128 → e < 128 → f < 128 → g < 128 → h < 128
    → Joins (a + 256 * b + 65536 * (c + 256 * d + 65536 * (e + 256 * f + 65536 * (g + 256 * h))))
    (a + 128 * b + 16384 * (c + 128 * d) + 268435456 * (e + 128 * f + 16384 * (g + 128 * h)))
joins a b c d e f g h la lb lc ld le lf lg lh =
    let highs-are : highs (a + 256 * b + 65536 * (c + 256 * d + 65536 * (e + 256 * f + 65536 * (g + 256 * h)))) ≡ 256 * b + 65536 * (256 * d + 65536 * (256 * f + 65536 * (256 * h))) =
    next-two a b (c + 256 * d + 65536 * (e + 256 * f + 65536 * (g + 256 * h))) 139640107466496 la lb
    ∙ ap (λ (n : ℕ). 256 * b + 65536 * n)
    (next-two c d (e + 256 * f + 65536 * (g + 256 * h)) 2130738944 lc ld
    ∙ ap (λ (n : ℕ). 256 * d + 65536 * n) (next-two e f (g + 256 * h) 32512 le lf ∙ ap (λ (n : ℕ). 256 * f + 65536 * n) (second-of-two g h lg lh))) in
    let less : highs (a + 256 * b + 65536 * (c + 256 * d + 65536 * (e + 256 * f + 65536 * (g + 256 * h)))) / 2 ≤ a + 256 * b + 65536 * (c + 256 * d + 65536 * (e + 256 * f + 65536 * (g + 256 * h))) = omega arith in
    let twos :
    a + 256 * b + 65536 * (c + 256 * d + 65536 * (e + 256 * f + 65536 * (g + 256 * h))) - highs (a + 256 * b + 65536 * (c + 256 * d + 65536 * (e + 256 * f + 65536 * (g + 256 * h)))) / 2
    ≡ a + 128 * b + 65536 * (c + 128 * d) + 4294967296 * (e + 128 * f + 65536 * (g + 128 * h)) = omega arith in
    let fours = fours-are (a + 128 * b) (c + 128 * d) (e + 128 * f) (g + 128 * h) (omega arith) (omega arith) (omega arith) (omega arith) in
    let eight = eight_are (a + 128 * b + 16384 * (c + 128 * d)) (e + 128 * f + 16384 * (g + 128 * h)) (omega arith) (omega arith) in
    record {
      less = less;
      fours = rw (twos, fours) (omega arith);
      fits = rw (twos, fours, eight) (omega arith);
      is = rw (twos, fours, eight) refl;
    }

pub joining : (x : ℕ) → Joins (bit_and x 9187201950435737471) (septets 8 x)
unfolding sevens sevenths septets
joining x =
    let ones-are : bit_and x 9187201950435737471 ≡ x % 128 + 256 * (x / 256 % 128) + 65536 * (x / 256 / 256 % 128 + 256 * (x / 256 / 256 / 256 % 128) + 65536 * (x / 256 / 256 / 256 / 256 % 128 + 256 * (x / 256 / 256 / 256 / 256 / 256 % 128) + 65536 * (x / 256 / 256 / 256 / 256 / 256 / 256 % 128 + 256 * (x / 256 / 256 / 256 / 256 / 256 / 256 / 256 % 128)))) = and-sevenths 8 x ∙ omega arith in
    let all : septets 8 x ≡ x % 128 + 128 * (x / 256 % 128) + 16384 * (x / 256 / 256 % 128 + 128 * (x / 256 / 256 / 256 % 128)) + 268435456 * (x / 256 / 256 / 256 / 256 % 128 + 128 * (x / 256 / 256 / 256 / 256 / 256 % 128) + 16384 * (x / 256 / 256 / 256 / 256 / 256 / 256 % 128 + 128 * (x / 256 / 256 / 256 / 256 / 256 / 256 / 256 % 128))) = omega arith in
    rw (ones-are, all)
    (joins (x % 128) (x / 256 % 128) (x / 256 / 256 % 128) (x / 256 / 256 / 256 % 128) (x / 256 / 256 / 256 / 256 % 128) (x / 256 / 256 / 256 / 256 / 256 % 128) (x / 256 / 256 / 256 / 256 / 256 / 256 % 128) (x / 256 / 256 / 256 / 256 / 256 / 256 / 256 % 128) (omega arith) (omega arith) (omega arith) (omega arith) (omega arith) (omega arith) (omega arith) (omega arith))

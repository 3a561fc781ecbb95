-- The elements that keep the rules, by numbers alone, and the number that stands for each in a file. Assumes nothing.
use Rattle.std.specs.Prelude.{◌≡◌, ◌⊎◌, Bool, ◌&&◌, not, List, ℕ, ◌+◌, ◌-◌, ◌*◌, ◌^◌, ◌/◌, ◌≤◌, ◌<◌, ltb, ℤ, pos, negsuc, get_or}
use Rattle.std.proofs.Math.Path.{refl, sym}
use Rattle.std.proofs.Common.{ap, ◌∙◌, inl, inr, arith, zero-add, lt_of_not-le, lit<}
use Rattle.std.proofs.Math.Bool.{true, false}
use Rattle.std.proofs.Math.Nat.{one-le-pow}
use Rattle.std.proofs.Math.Decide.{dec_le}
use Rattle.std.proofs.Math.Dec.{leb, eqb}
use borrow.Author.Tests.{leb-false, ltb-true, eqb-true, not-true, le-leb, lt-leb, lt-ltb, le-ltb, eq-eqb, ne_eqb}
use Rattle.paper.specs.Reader.{when◌then◌else◌, Reader, Out, got, no as bad, and_then, ◌>>=◌, ◌>>◌, give}
use Rattle.paper.specs.Numbers.{signed, unsigned, put_fixed, put}
use Rattle.paper.specs.Ledger.{Element, flag, whole, float, link, annotation, keys, State}
use Rattle.paper.specs.Rules.{single_kind?, element_kind?, link?, link_rules, annotation?}
use Rattle.laws.specs.Put.{put_whole, put_element}
use Rattle.paper.specs.Keeps.{hold?, number?, signed?, whole?, element?}
use Rattle.paper.specs.Listing.{tab}
use Rattle.paper.specs.Scan.{heed, ended, natural, integer, hex_on, read_flag, read_element}
use Rattle.laws.specs.Bools.{not_so, and_split}
use Rattle.words.specs.Answers.{Peeked}
use Rattle.values.specs.Listed.{listed-object}
use Rattle.values.specs.Annotations.{placed?}
use Rattle.values.specs.Items.{at_most, some_object, Known, link-is}
use Rattle.texts.specs.Quiet.{Fate, gives, refuses, Word, Small, natural-word, hex-word}

-- ── what an element is held to ──

-- by the number of strings, the numbers of objects in pools and the ranges of objects
unfoldable pub kept : ℕ → List ℕ → List ℕ → List ℕ → ℕ → Element → Bool
kept strings pools first last e (flag b) = eqb e 6
kept strings pools first last e (whole v) = not (eqb e 5) && (not (eqb e 6) && leb e 11 && whole? (e - 7) v)
kept strings pools first last e (float w n) = not (leb e 11) && leb e 13 && eqb w (4 * (e - 11)) && ltb n (256 ^ w)
kept strings pools first last e (link n) = not (leb e 13) && (ltb n (256 ^ 8) && (when eqb e 14 then at_most strings n else some_object first last n))
kept strings pools first last e (annotation m n) = eqb e 5 && (ltb m (256 ^ 8) && (ltb n (256 ^ 8) && placed? pools m n))
kept strings pools first last e (keys n) = false

pub and_yes : (b : Bool) → (b && true) ≡ b
and_yes true = refl
and_yes false = refl

-- that is what the state holds it to
pub kept-known :
    {s : State} {e strings : ℕ} {pools first last : List ℕ} → Known s e strings pools first last → element_kind? e ≡ true → (x : Element)
    → element? s e x ≡ kept strings pools first last e x
unfolding element? kept number? hold? link_rules when◌then◌else◌
kept-known K listed (flag b) = refl
kept-known K listed (whole v) = refl
kept-known K listed (float w n) = refl
kept-known K listed (keys n) = refl
kept-known {s} {e} {strings} {pools} {first} {last} K listed (annotation m n) = go (eqb e 5) refl
  where
    go :
        (b : Bool) → eqb e 5 ≡ b
        → (b && (ltb m (256 ^ 8) && (ltb n (256 ^ 8) && annotation? s m n))) ≡ (b && (ltb m (256 ^ 8) && (ltb n (256 ^ 8) && placed? pools m n)))
    go false t = refl
    go true t = rw (K.pools-are (eqb-true e 5 t) m n)
kept-known {s} {e} {strings} {pools} {first} {last} K listed (link n) = go (leb e 13) refl
  where
    go :
        (b : Bool) → leb e 13 ≡ b
        → (not b && (ltb n (256 ^ 8) && (link? s e n && true))) ≡ (not b && (ltb n (256 ^ 8) && (when eqb e 14 then at_most strings n else some_object first last n)))
    go true t = refl
    go false t = rw (and_yes (link? s e n), link-is K listed (leb-false e 13 t) n)

-- ── annotations ──

-- two numbers, held to the rule when both are read
unfoldable pub noted : List ℕ → Reader Element
noted pools = do
  m ← ended tab natural
  n ← natural
  heed (placed? pools m n)
  give (annotation m n)

-- ── the number that stands for an element ──

unfoldable pub whole_width : ℕ → ℕ
whole_width e = when ltb (e - 7) 4 then 2 ^ (e - 7) else 8

unfoldable pub number_of : ℕ → Element → ℕ
number_of e (flag b) = when b then 255 else 0
number_of e (whole v) = unsigned (whole_width e) v
number_of e (float w n) = n
number_of e (link n) = n
-- neither is one number
number_of e (annotation m n) = 0
number_of e (keys n) = 0

-- the bytes of the number of kind e
unfoldable pub in_bytes : ℕ → ℕ → List ℕ
in_bytes e n =
    when eqb e 6 then
    put_fixed 1 n else
    when leb e 11 then
    (when ltb (e - 7) 4 then put_fixed (2 ^ (e - 7)) n else put n) else
    when leb e 13 then
    put_fixed (4 * (e - 11)) n else
    put n

-- what such numbers are below
unfoldable pub bound_in : ℕ → ℕ
bound_in e =
    when eqb e 6 then
    256 else
    when leb e 11 then
    (when ltb (e - 7) 4 then 256 ^ (2 ^ (e - 7)) else 2 ^ 64) else
    when leb e 13 then
    256 ^ (4 * (e - 11)) else
    2 ^ 64

-- an element of kind e that is held to a rule, as its number
unfoldable pub reckoned : (Element → Bool) → ℕ → Reader ℕ
reckoned ok e t at = and_then (read_element e t at) λ x d. when ok x then got (number_of e x) d else bad 20 0

-- ── the same by kinds, as code tells them apart ──

unfoldable pub flag_number : Reader ℕ
flag_number t at = when eqb (get_or t at 256) 48 then got 0 (at + 1) else when eqb (get_or t at 256) 49 then got 255 (at + 1) else bad 20 0

unfoldable pub whole_number : ℕ → Reader ℕ
whole_number w t at = and_then (integer t at) λ z d. when signed? w z then got (unsigned w z) d else bad 20 0

unfoldable pub link_number : (ℕ → Bool) → Reader ℕ
link_number ok t at = and_then (natural t at) λ n d. when ok n then got n d else bad 20 0

module _ (strings : ℕ) (pools first last : List ℕ) (e : ℕ) (t : List ℕ) (at : ℕ) where
  pub reckoned-flag : e ≡ 6 → flag_number t at ≡ reckoned (kept strings pools first last e) e t at
  unfolding reckoned read_element read_flag flag_number kept number_of when◌then◌else◌
  reckoned-flag is = rw is (go (eqb (get_or t at 256) 48) (eqb (get_or t at 256) 49))
    where
      go :
          (x y : Bool)
          → (when x then got 0 (at + 1) else when y then got 255 (at + 1) else bad 20 0)
          ≡ and_then (when x then got (flag false) (at + 1) else when y then got (flag true) (at + 1) else bad 20 0) (λ f d. when kept strings pools first last 6 f then got (number_of 6 f) d else bad 20 0)
      go true y = refl
      go false true = refl
      go false false = refl

  pub reckoned-whole : 6 < e → e < 12 → whole_number (whole_width e) t at ≡ reckoned (kept strings pools first last e) e t at
  unfolding reckoned read_element whole_number whole_width kept whole? number_of when◌then◌else◌ ◌>>=◌ give
  reckoned-whole h l = simp (ne_eqb e 5 (λ z. omega arith), ne_eqb e 6 (λ z. omega arith), le-leb e 11 (omega arith)) (go (integer t at))
    where
      go :
          (o : Out ℤ)
          → and_then o (λ z d. when signed? (whole_width e) z then got (unsigned (whole_width e) z) d else bad 20 0)
          ≡ and_then (and_then o (λ z d. got (whole z) d)) (λ x d. when kept strings pools first last e x then got (number_of e x) d else bad 20 0)
      go (got z d) = rw (ne_eqb e 5 (λ z. omega arith), ne_eqb e 6 (λ z. omega arith), le-leb e 11 (omega arith))
      go (bad n p) = refl

  -- so many digits fill the width
  reckoned-float : 11 < e → e < 14 → 16 ^ (2 * (4 * (e - 11))) ≡ 256 ^ (4 * (e - 11)) → hex_on (2 * (4 * (e - 11))) 0 t at ≡ reckoned (kept strings pools first last e) e t at
  unfolding reckoned read_element kept number_of when◌then◌else◌ ◌>>=◌ give
  reckoned-float h l fills =
      rw (ne_eqb e 5 (λ z. omega arith), ne_eqb e 6 (λ z. omega arith), lt-leb e 11 h, le-leb e 13 (omega arith))
      (go (hex-word t (2 * (4 * (e - 11))) 0 0 at (omega arith)))
    where
      go :
          {o : Out ℕ} → Fate (Word (λ n. n < 16 ^ (0 + 2 * (4 * (e - 11)))) t at) o
          → o ≡ and_then (and_then o (λ n d. got (float (4 * (e - 11)) n) d)) (λ x d. when kept strings pools first last e x then got (number_of e x) d else bad 20 0)
      go (gives n d w) =
          let small : n < 256 ^ (4 * (e - 11)) = rw (zero-add, fills) at w.holds in
          rw (lt-leb e 11 h, le-leb e 13 (omega arith), eq-eqb (4 * (e - 11)) (4 * (e - 11)) refl, lt-ltb n (256 ^ (4 * (e - 11))) small)
      go refuses = refl

  pub reckoned-f32 : e ≡ 12 → hex_on 8 0 t at ≡ reckoned (kept strings pools first last e) e t at
  reckoned-f32 is = ap (λ (k : ℕ). hex_on (2 * (4 * (k - 11))) 0 t at) (sym is) ∙ reckoned-float (omega arith) (omega arith) (rw is)

  pub reckoned-f64 : e ≡ 13 → hex_on 16 0 t at ≡ reckoned (kept strings pools first last e) e t at
  reckoned-f64 is = ap (λ (k : ℕ). hex_on (2 * (4 * (k - 11))) 0 t at) (sym is) ∙ reckoned-float (omega arith) (omega arith) (rw is)

  reckoned-link : 13 < e → link_number (λ n. when eqb e 14 then at_most strings n else some_object first last n) t at ≡ reckoned (kept strings pools first last e) e t at
  unfolding reckoned read_element link_number kept number_of when◌then◌else◌ ◌>>=◌ give
  reckoned-link h = rw (ne_eqb e 5 (λ z. omega arith), ne_eqb e 6 (λ z. omega arith), lt-leb e 11 (omega arith), lt-leb e 13 h) (go (natural-word t at))
    where
      go :
          {o : Out ℕ} → Fate (Word Small t at) o
          → and_then o (λ n d. when (when eqb e 14 then at_most strings n else some_object first last n) then got n d else bad 20 0)
          ≡ and_then (and_then o (λ n d. got (link n) d)) (λ x d. when kept strings pools first last e x then got (number_of e x) d else bad 20 0)
      go (gives n d w) = rw (lt-leb e 13 h, lt-ltb n (256 ^ 8) w.holds.below)
      go refuses = refl

  pub reckoned-string : e ≡ 14 → link_number (at_most strings) t at ≡ reckoned (kept strings pools first last e) e t at
  unfolding when◌then◌else◌
  reckoned-string is = sym (ap (λ (b : Bool). link_number (λ n. when b then at_most strings n else some_object first last n) t at) (eq-eqb e 14 is)) ∙ reckoned-link (omega arith)

  pub reckoned-object : 32 ≤ e → link_number (some_object first last) t at ≡ reckoned (kept strings pools first last e) e t at
  unfolding when◌then◌else◌
  reckoned-object h =
      sym (ap (λ (b : Bool). link_number (λ n. when b then at_most strings n else some_object first last n) t at) (ne_eqb e 14 (λ z. omega arith))) ∙ reckoned-link (omega arith)

-- ── the ways out of each ──

module _ {t : List ℕ} {at b : ℕ} (seen : Peeked t at b) where
  flag_is : (n : ℕ) → b ≡ n → get_or t at 256 ≡ n
  flag_is n is = sym seen.is ∙ is

  flag-false : b ≡ 48 → got 0 (at + 1) ≡ flag_number t at
  unfolding flag_number when◌then◌else◌
  flag-false is = rw (eq-eqb (get_or t at 256) 48 (flag_is 48 is))

  flag_true : b ≡ 49 → got 255 (at + 1) ≡ flag_number t at
  unfolding flag_number when◌then◌else◌
  flag_true is = rw (flag_is 49 is)

  pub flag-bit : 48 ≤ b → b ≤ 49 → got (255 * (b - 48)) (at + 1) ≡ flag_number t at
  flag-bit low high =
      elim (dec_le 49 b) [
        | yes d ↦ (let set : 255 * (b - 48) ≡ 255 = omega arith in ap (λ (n : ℕ). got n (at + 1)) set ∙ flag_true (omega arith))
        | no d ↦ (let clear : 255 * (b - 48) ≡ 0 = omega (arith, lt_of_not-le d) in ap (λ (n : ℕ). got n (at + 1)) clear ∙ flag-false (omega (arith, lt_of_not-le d)))
      ]

  pub flag-none : (b ≡ 48 → ⊥) → (b ≡ 49 → ⊥) → bad 20 0 ≡ flag_number t at
  unfolding flag_number when◌then◌else◌
  flag-none x y = rw (ne_eqb (get_or t at 256) 48 (λ z. x (seen.is ∙ z)), ne_eqb (get_or t at 256) 49 (λ z. y (seen.is ∙ z)))

module _ (w : ℕ) {half : ℕ} (narrow : half ≤ 2 ^ 63) (two : 256 ^ w ≡ half + half) (t : List ℕ) (at : ℕ) where
  halved : 256 ^ w / 2 ≡ half
  halved = rw two (omega arith)

  pub whole-refused : bad 20 0 ≡ integer t at → bad 20 0 ≡ whole_number w t at
  unfolding whole_number
  whole-refused h = rw (← h)

  module _ (x d : ℕ) (is : got (signed 8 x) d ≡ integer t at) where
    pub whole-low : x < half → got x d ≡ whole_number w t at
    unfolding whole_number signed signed? unsigned when◌then◌else◌
    whole-low h = rw (← is, lt-ltb x 9223372036854775808 (omega arith), halved, lt-ltb x half h)

    pub whole-high : 18446744073709551615 - x < half → x < 2 ^ 64 → got (half + (half - 1 - (18446744073709551615 - x))) d ≡ whole_number w t at
    unfolding whole_number signed signed? unsigned when◌then◌else◌
    whole-high h k =
        rw (← is, le-ltb x 9223372036854775808 (omega arith), halved, lt-ltb (18446744073709551615 - x) half h, two) (ap (λ (n : ℕ). got n d) (omega arith))

    pub whole_wide : half ≤ x → half ≤ 18446744073709551615 - x → bad 20 0 ≡ whole_number w t at
    unfolding whole_number signed signed? when◌then◌else◌
    whole_wide h k =
        elim (dec_le 9223372036854775808 x) [
          | yes y ↦ rw (← is, le-ltb x 9223372036854775808 y, halved, le-ltb (18446744073709551615 - x) half k)
          | no y ↦ rw (← is, lt-ltb x 9223372036854775808 (lt_of_not-le y), halved, le-ltb x half h)
        ]

module _ (ok : ℕ → Bool) (t : List ℕ) (at : ℕ) where
  pub link-refused : bad 20 0 ≡ natural t at → bad 20 0 ≡ link_number ok t at
  unfolding link_number
  link-refused h = rw (← h)

  module _ (n d : ℕ) (is : got n d ≡ natural t at) where
    pub link-taken : ok n ≡ true → got n d ≡ link_number ok t at
    unfolding link_number when◌then◌else◌
    link-taken h = rw (← is, h)

    pub link-none : ok n ≡ false → bad 20 0 ≡ link_number ok t at
    unfolding link_number when◌then◌else◌
    link-none h = rw (← is, h)

pub string-there : (most n : ℕ) → n ≤ most → at_most most n ≡ true
unfolding at_most
string-there most n h = le-leb n most h

pub string-missing : (most n : ℕ) → most < n → at_most most n ≡ false
unfolding at_most
string-missing most n h = lt-leb n most h

-- ── the widths, as code chooses them ──

pub width-last : (e : ℕ) → 9 < e → e < 12 → whole_width e ≡ 8
unfolding whole_width when◌then◌else◌
width-last e h l =
    elim (dec_le e 10) [
      | yes d ↦ (let is : e ≡ 10 = omega arith in rw is)
      | no d ↦ rw (le-ltb (e - 7) 4 (omega (arith, lt_of_not-le d)))
    ]

-- a bool and i8 are one byte
pub one_byte : (e : ℕ) → 6 ≤ e → e < 8 → ((n : ℕ) → in_bytes e n ≡ put_fixed 1 n) × (bound_in e ≡ 256)
unfolding in_bytes bound_in when◌then◌else◌
one_byte e h l =
    elim (dec_le e 6) [
      | yes d ↦ (let is : e ≡ 6 = omega arith in rw is ((λ n. refl), refl))
      | no d ↦ (let is : e ≡ 7 = omega (arith, lt_of_not-le d) in rw is ((λ n. refl), refl))
    ]

pub four_bytes : (e : ℕ) → (e ≡ 9) ⊎ (e ≡ 12) → ((n : ℕ) → in_bytes e n ≡ put_fixed 4 n) × (bound_in e ≡ 256 ^ 4)
unfolding in_bytes bound_in when◌then◌else◌
four_bytes e (inl is) = rw is ((λ n. refl), refl)
four_bytes e (inr is) = rw is ((λ n. refl), refl)

pub eight-bytes : (e : ℕ) → (e ≡ 10) ⊎ (e ≡ 13) → (n : ℕ) → in_bytes e n ≡ put_fixed 8 n
unfolding in_bytes when◌then◌else◌
eight-bytes e (inl is) n = rw is
eight-bytes e (inr is) n = rw is

past : {j k : ℕ} → j ≤ k → (k ≡ j → ⊥) → j < k
past h z = omega arith

-- what is left once the fixed widths are told apart
pub v64-kind : (e : ℕ) → 7 < e → (e ≡ 8 → ⊥) → ((e ≡ 9) ⊎ (e ≡ 12) → ⊥) → ((e ≡ 10) ⊎ (e ≡ 13) → ⊥) → (e ≡ 11) ⊎ (13 < e)
v64-kind e h b c d =
    let on : 11 ≤ e = past (past (past h b) (λ q. c (inl q))) (λ q. d (inl q)) in
    elim (dec_le e 11) [
      | yes l ↦ inl (omega arith)
      | no l ↦ inr (past (past (lt_of_not-le l) (λ q. c (inr q))) (λ q. d (inr q)))
    ]

-- and once all but those of objects are
pub object-kind : (e : ℕ) → single_kind? e ≡ true → 11 < e → (e ≡ 12 → ⊥) → (e ≡ 13 → ⊥) → (e ≡ 14 → ⊥) → 32 ≤ e
object-kind e listed h a b c = listed-object e listed (past (past h a) b) c

pub v64-bytes : (e n : ℕ) → (e ≡ 11) ⊎ (13 < e) → in_bytes e n ≡ put n
unfolding in_bytes when◌then◌else◌
v64-bytes e n (inl is) = rw is
v64-bytes e n (inr h) = rw (ne_eqb e 6 (λ z. omega arith), lt-leb e 11 (omega arith), lt-leb e 13 h)

-- ── the bytes of an element are those of its number ──

pub record Writes (e : ℕ) (x : Element) : Type 0 where
  pub bytes : put_element e x ≡ in_bytes e (number_of e x)
  pub fits : number_of e x < bound_in e

unsigned-below : (w : ℕ) (z : ℤ) → signed? w z ≡ true → unsigned w z < 256 ^ w
unfolding signed? unsigned
unsigned-below w (pos n) h = omega (arith, ltb-true n (256 ^ w / 2) h)
unsigned-below w (negsuc n) h = omega (arith, one-le-pow w 256 (lit< tt))

writes-whole : (e : ℕ) (v : ℤ) → eqb e 6 ≡ false → leb e 11 ≡ true → whole? (e - 7) v ≡ true → Writes e (whole v)
unfolding put_element put_whole in_bytes bound_in number_of whole_width whole? when◌then◌else◌
writes-whole e v x y = go (ltb (e - 7) 4) refl
  where
    go : (b : Bool) → ltb (e - 7) 4 ≡ b → signed? (when b then 2 ^ (e - 7) else 8) v ≡ true → Writes e (whole v)
    go true z h = record { bytes = rw (x, y, z); fits = rw (x, y, z) (unsigned-below (2 ^ (e - 7)) v h) }
    go false z h = record { bytes = rw (x, y, z); fits = rw (x, y, z) (unsigned-below 8 v h) }

module _ (strings : ℕ) (pools first last : List ℕ) where
  pub kept-writes : (e : ℕ) → eqb e 5 ≡ false → (x : Element) → kept strings pools first last e x ≡ true → Writes e x
  unfolding kept put_element in_bytes bound_in number_of when◌then◌else◌ put_fixed
  kept-writes e single (flag true) h = let is = eqb-true e 6 h in record { bytes = rw is; fits = rw is (omega arith) }
  kept-writes e single (flag false) h = let is = eqb-true e 6 h in record { bytes = rw is; fits = rw is (omega arith) }
  kept-writes e single (annotation m n) h = not_so (sym single ∙ (and_split (eqb e 5) _ h).0)
  kept-writes e single (keys n) h = not_so h
  kept-writes e single (whole v) h =
      let (a, b) = and_split (not (eqb e 6) && leb e 11) _ (and_split (not (eqb e 5)) _ h).1 in
      let (x, y) = and_split (not (eqb e 6)) _ a in
      writes-whole e v (not-true (eqb e 6) x) y b
  kept-writes e single (float w n) h =
      let (a, z) = and_split (not (leb e 11) && leb e 13 && eqb w (4 * (e - 11))) _ h in
      let (b, d) = and_split (not (leb e 11) && leb e 13) _ a in
      let (x, y) = and_split (not (leb e 11)) _ b in
      let above = leb-false e 11 (not-true (leb e 11) x) in
      let is = eqb-true w (4 * (e - 11)) d in
      let small : n < 256 ^ (4 * (e - 11)) = rw is at (ltb-true n (256 ^ w) z) in
      record {
        bytes = rw (ne_eqb e 6 (λ q. omega arith), not-true (leb e 11) x, y, is);
        fits = rw (ne_eqb e 6 (λ q. omega arith), not-true (leb e 11) x, y) small;
      }
  kept-writes e single (link n) h =
      let (x, y) = and_split (not (leb e 13)) _ h in
      let (z, _) = and_split (ltb n (256 ^ 8)) _ y in
      let above = leb-false e 13 (not-true (leb e 13) x) in
      record {
        bytes = rw (ne_eqb e 6 (λ q. omega arith), lt-leb e 11 (omega arith), not-true (leb e 13) x);
        fits = rw (ne_eqb e 6 (λ q. omega arith), lt-leb e 11 (omega arith), not-true (leb e 13) x) (ltb-true n (256 ^ 8) z);
      }

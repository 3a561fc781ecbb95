-- A map's kind: its element kinds are held to their rules one by one, and not when all are read. All that can go wrong is
-- refused alike. Assumes nothing.
use Rattle.std.specs.Prelude.{Some, None, ◌≡◌, Bool}
use Rattle.std.proofs.Math.Path.{refl, ap}
use Rattle.std.proofs.Common.{sym, ◌∙◌, length-append}
use Rattle.std.proofs.Math.Bool.{true, false}
use mathlib.Core.List.{List, [], ◌∷◌, ◌++◌, append_assoc, append-nil, map}
use Prim.Native.Nat.{ℕ, zero, suc, ◌+◌, ◌-◌, ◌*◌, ◌^◌, ◌≤◌, ◌<◌, min}
use native.Mathlib.Omega.{arith}
use Rattle.std.proofs.Math.Nat.{min_comm}
use Rattle.std.proofs.Math.ListN.{length}
use borrow.Author.Tests.{le-leb, lt-leb, lt-ltb}
use Rattle.paper.specs.Reader.{when◌then◌else◌, Reader, Out, got, no as bad, and_then, turned, ◌>>=◌, ◌>>◌, give, each, times, repeat}
use Rattle.paper.specs.Numbers.{put_fixed}
use Rattle.paper.specs.Lists.{all}
use Rattle.paper.specs.Ledger.{Kind, mapping}
use Rattle.paper.specs.Rules.{types_rules, element_kind_rules, any_type, noted}
use Rattle.paper.specs.Listing.{comma}
use Rattle.paper.specs.Keeps.{hold?, number?, kind_kept?}
use Rattle.paper.specs.Scan.{heed, byte_is, natural}
use Rattle.laws.specs.Packed.{packed, packed_none, packed_more, packed-room, packed-back}
use Rattle.laws.specs.Laws.{not-got}
use Rattle.table.specs.View.{kind_from}
use Rattle.words.specs.Answers.{Scanned}
use Rattle.reader.specs.declared.kinds.Kind.{Kind as Numbers}
use Rattle.parse.specs.Answers.{keeping, element_of, kinds_of, map_of, KindReads}
use Rattle.parse.specs.Twenty.{Twenty, byte-twenty, natural-twenty, then-twenty, repeat-twenty}
use Rattle.parse.specs.KindLaws.{kind-bad}

-- ── so many, one after the other ──

module _ {A : Type 0} (r : Reader A) (t : List ℕ) where
  pub repeat-more : (n at : ℕ) → repeat (suc n) r t at ≡ and_then (r t at) (λ a e. and_then (repeat n r t e) (λ l d. got (a ∷ l) d))
  unfolding repeat times each give ◌>>=◌
  repeat-more n at = refl

  pub repeat-empty : (at : ℕ) → repeat 0 r t at ≡ got [] at
  unfolding repeat times each give
  repeat-empty at = refl

  pub repeat-length : (n at : ℕ) (l : List A) (e : ℕ) → repeat n r t at ≡ got l e → length l ≡ n
  repeat-length zero at l e h = let z : [] ≡ l = cc (sym (repeat-empty at) ∙ h) in rw (← z)
  repeat-length (suc n) at l e h = first (λ d k q. repeat-length n d k q) (r t at) (sym (repeat-more n at) ∙ h)
    where
      rest : (a : A) (o : Out (List A)) → ((k : List A) (d : ℕ) → o ≡ got k d → length k ≡ n) → and_then o (λ k d. got (a ∷ k) d) ≡ got l e → length l ≡ suc n
      rest a (got k d) ih q = let z : a ∷ k ≡ l = cc q in rw (← z) (ap suc (ih k d refl))
      rest a (bad m p) ih q = not-got q

      first :
          ((d : ℕ) (k : List A) (q : ℕ) → repeat n r t d ≡ got k q → length k ≡ n) → (o : Out A)
          → and_then o (λ a e. and_then (repeat n r t e) (λ k d. got (a ∷ k) d)) ≡ got l e → length l ≡ suc n
      first ih (got a d) q = rest a (repeat n r t d) (ih d) q
      first ih (bad m p) q = not-got q

-- ── held to their rules one by one ──

abbrev element? : ℕ → Bool
element? k = number? (element_kind_rules any_type) k

abbrev pub behind_comma : Reader ℕ
behind_comma = byte_is comma >> natural

abbrev all_held : Out (List ℕ) → Out (List ℕ)
all_held o = and_then o (λ ks e. when all element? ks then got ks e else bad 20 0)

module _ (t : List ℕ) where
  comma-twenty : (at : ℕ) → Twenty (behind_comma t at)
  unfolding ◌>>◌
  comma-twenty at = then-twenty (byte_is comma t at) _ (byte-twenty comma t at) (λ u e. natural-twenty t e)

  one_by_one : (n at : ℕ) → all_held (repeat n behind_comma t at) ≡ repeat n element_of t at
  unfolding element_of heed all ◌>>=◌ ◌>>◌ give when◌then◌else◌
  one_by_one zero at = rw (repeat-empty behind_comma t at, repeat-empty element_of t at)
  one_by_one (suc n) at = rw (repeat-more behind_comma t n at, repeat-more element_of t n at) (behind (λ e. one_by_one n e) (byte_is comma t at))
    where
      -- the rest of them, behind one that is an element kind, and behind one that is none
      rest :
          (a : ℕ) → element? a ≡ true → (o : Out (List ℕ))
          → all_held (and_then o (λ l d. got (a ∷ l) d)) ≡ and_then (all_held o) (λ l d. got (a ∷ l) d)
      rest a is (got l d) = rw is (last a l d (all element? l))
        where
          last : (a : ℕ) (l : List ℕ) (d : ℕ) (b : Bool) → (when b then got (a ∷ l) d else bad 20 0) ≡ and_then (when b then got l d else bad 20 0) (λ l d. got (a ∷ l) d)
          last a l d true = refl
          last a l d false = refl
      rest a is (bad m p) = refl

      none : (a : ℕ) → element? a ≡ false → (o : Out (List ℕ)) → Twenty o → all_held (and_then o (λ l d. got (a ∷ l) d)) ≡ bad 20 0
      none a is (got l d) w = rw is
      none a is (bad m p) w = rw (w.0, w.1)

      ruled :
          ((e : ℕ) → all_held (repeat n behind_comma t e) ≡ repeat n element_of t e) → (a e : ℕ) (b : Bool) → element? a ≡ b
          → all_held (and_then (repeat n behind_comma t e) (λ l d. got (a ∷ l) d))
          ≡ and_then (and_then (when b then got (tt {0}) e else bad 20 0) (λ u e. got a e)) (λ a e. and_then (repeat n element_of t e) (λ l d. got (a ∷ l) d))
      ruled ih a e true is = rest a is (repeat n behind_comma t e) ∙ ap (λ (o : Out (List ℕ)). and_then o (λ l d. got (a ∷ l) d)) (ih e)
      ruled ih a e false is = none a is (repeat n behind_comma t e) (repeat-twenty behind_comma t comma-twenty n e)

      word :
          ((e : ℕ) → all_held (repeat n behind_comma t e) ≡ repeat n element_of t e) → (o : Out ℕ)
          → all_held (and_then o (λ a e. and_then (repeat n behind_comma t e) (λ l d. got (a ∷ l) d)))
          ≡ and_then (and_then o (λ a e. and_then (when element? a then got (tt {0}) e else bad 20 0) (λ u e. got a e))) (λ a e. and_then (repeat n element_of t e) (λ l d. got (a ∷ l) d))
      word ih (got a e) = ruled ih a e (element? a) refl
      word ih (bad m p) = refl

      behind :
          ((e : ℕ) → all_held (repeat n behind_comma t e) ≡ repeat n element_of t e) → (o : Out (Unit {0}))
          → all_held (and_then (and_then o (λ u e. natural t e)) (λ a e. and_then (repeat n behind_comma t e) (λ l d. got (a ∷ l) d)))
          ≡ and_then (and_then o (λ u e. and_then (natural t e) (λ a e. and_then (when element? a then got (tt {0}) e else bad 20 0) (λ u e. got a e)))) (λ a e. and_then (repeat n element_of t e) (λ l d. got (a ∷ l) d))
      behind ih (got u e) = word ih (natural t e)
      behind ih (bad m p) = refl

-- ── the kinds of a map ──

module _ (n : ℕ) where
  -- its number of types keeps its rules, or it does not
  types-kept : 2 ≤ n → n ≤ 8 → number? types_rules n ≡ true
  unfolding number? types_rules hold?
  types-kept lo hi = rw (lt-ltb n (256 ^ 8) (omega arith), le-leb 2 n lo, le-leb n 8 hi)

  types-few : n < 2 → number? types_rules n ≡ false
  unfolding number? types_rules hold?
  types-few hi = rw (lt-ltb n (256 ^ 8) (omega arith), lt-leb 2 n hi)

  types-many : n < 2 ^ 64 → 8 < n → number? types_rules n ≡ false
  unfolding number? types_rules hold?
  types-many fits lo = rw (lt-ltb n (256 ^ 8) fits, le-leb 2 n (omega arith), lt-leb n 8 lo)

module _ (n : ℕ) (t : List ℕ) (at : ℕ) where
  abbrev kept_map : Out (List ℕ) → Out Kind
  kept_map o = and_then (and_then o (λ ks e. got (mapping ks) e)) (λ k e. and_then (when kind_kept? k then got (tt {0}) e else bad 20 0) (λ u e. got k e))

  kinds-are : keeping (kinds_of n) t at ≡ kept_map (repeat n behind_comma t at)
  unfolding keeping kinds_of heed ◌>>=◌ ◌>>◌ give
  kinds-are = refl

  -- of a number of types that keeps its rules
  kinds-held : number? types_rules n ≡ true → keeping (kinds_of n) t at ≡ turned mapping (repeat n element_of t at)
  unfolding kind_kept? when◌then◌else◌
  kinds-held few = kinds-are ∙ go (repeat n behind_comma t at) (repeat-length behind_comma t n at) ∙ ap (turned mapping) (one_by_one t n at)
    where
      last : (ks : List ℕ) (e : ℕ) (b : Bool) → and_then (when b then got (tt {0}) e else bad 20 0) (λ u e. got (mapping ks) e) ≡ turned mapping (when b then got ks e else bad 20 0)
      last ks e true = refl
      last ks e false = refl

      go : (o : Out (List ℕ)) → ((l : List ℕ) (e : ℕ) → o ≡ got l e → length l ≡ n) → kept_map o ≡ turned mapping (all_held o)
      go (got ks e) long = rw (long ks e refl, few) (last ks e (all element? ks))
      go (bad m p) long = refl

  -- of another there is no map
  kinds-none : number? types_rules n ≡ false → keeping (kinds_of n) t at ≡ bad 20 0
  unfolding kind_kept? when◌then◌else◌
  kinds-none out = kinds-are ∙ go (repeat n behind_comma t at) (repeat-length behind_comma t n at) (repeat-twenty behind_comma t (comma-twenty t) n at)
    where
      go : (o : Out (List ℕ)) → ((l : List ℕ) (e : ℕ) → o ≡ got l e → length l ≡ n) → Twenty o → kept_map o ≡ bad 20 0
      go (got ks e) long w = rw (long ks e refl, out)
      go (bad m p) long w = rw (w.0, w.1)

-- ── one after the other ──

-- `left` of n are still to be read, from `at` on, and `bytes` are those of the others
pub record KindsGoing (t : List ℕ) (from n at left bytes : ℕ) : Type 0 where
  pub ks : List ℕ
  pub count : length ks + left ≡ n
  pub is : bytes ≡ packed ks
  pub rest : repeat n element_of t from ≡ and_then (repeat left element_of t at) (λ more d. got (ks ++ more) d)

pub kinds-begin : (t : List ℕ) (from : ℕ) {n left : ℕ} → left ≡ n → KindsGoing t from n from left 0
kinds-begin t from {n} all = record { ks = []; count = omega arith; is = sym packed_none; rest = rw all (go (repeat n element_of t from)) }
  where
    go : (o : Out (List ℕ)) → o ≡ and_then o (λ more d. got ([] ++ more) d)
    go (got l d) = refl
    go (bad m p) = refl

module _ {t : List ℕ} {from n at left bytes : ℕ} (g : KindsGoing t from n at left bytes) where
  -- so a byte more has room
  pub kinds-room : 0 < left → n ≤ 8 → bytes * 256 + 255 < 2 ^ 64
  kinds-room pos most = rw g.is (packed-room g.ks (omega (arith, g.count)))

  one_more : {rest : ℕ} → left ≡ suc rest → repeat left element_of t at ≡ and_then (element_of t at) (λ a e. and_then (repeat rest element_of t e) (λ l d. got (a ∷ l) d))
  one_more {rest} is = ap (λ (k : ℕ). repeat k element_of t at) is ∙ repeat-more element_of t rest at

  pub kinds-next : {rest : ℕ} → left ≡ suc rest → {k e : ℕ} → got k e ≡ element_of t at → KindsGoing t from n e rest (bytes * 256 + min k 255)
  kinds-next {rest} due {k} {e} h =
      record {
        ks = g.ks ++ k ∷ [];
        count = rw length-append (omega (arith, g.count));
        is = rw (packed_more g.ks k, ← g.is, min_comm k 255);
        rest = g.rest ∙ rw (one_more due, ← h) (go (repeat rest element_of t e));
      }
    where
      go : (o : Out (List ℕ)) → and_then (and_then o (λ l d. got (k ∷ l) d)) (λ more d. got (g.ks ++ more) d) ≡ and_then o (λ more d. got (g.ks ++ k ∷ [] ++ more) d)
      go (got l d) = ap (λ (x : List ℕ). got x d) (sym (append_assoc g.ks (k ∷ []) l))
      go (bad m p) = refl

  module _ (lo : 2 ≤ n) (hi : n ≤ 8) where
    pub kinds-bad : 0 < left → bad 20 0 ≡ element_of t at → KindReads (kinds_of n) t from None
    kinds-bad pos h =
        let due : left ≡ suc (left - 1) = omega arith in
        record { says = sym (rw (kinds-held n t from (types-kept n lo hi), g.rest, one_more due, ← h)); told = tt }

    pub kinds-done : left ≤ 0 → KindReads (kinds_of n) t from (Some ((record { first = 20; bits = n; last = bytes }), (record { at = at })))
    unfolding noted kind_from when◌then◌else◌
    kinds-done le =
        let none : left ≡ 0 = omega arith in
        let long : length g.ks ≡ n = omega (arith, g.count) in
        let back : put_fixed n bytes ≡ map (min 255) g.ks = rw (← long, g.is) (packed-back g.ks) in
        record {
          says = rw (kinds-held n t from (types-kept n lo hi), g.rest, none, repeat-empty element_of t at, append-nil, back);
          told = omega arith;
        }

-- ── a map ──

module _ (t : List ℕ) (at : ℕ) where
  pub map-no-comma : bad 20 0 ≡ byte_is comma t at → KindReads map_of t at None
  unfolding map_of ◌>>◌
  map-no-comma h = kind-bad (rw (← h))

  module _ {p : ℕ} (sep : got tt p ≡ byte_is comma t at) where
    pub map-no-types : bad 20 0 ≡ natural t p → KindReads map_of t at None
    unfolding map_of ◌>>=◌ ◌>>◌
    map-no-types h = kind-bad (rw (← sep, ← h))

    module _ {n q : ℕ} (types : got n q ≡ natural t p) where
      pub map_on : {a : Scanned Numbers} → KindReads (kinds_of n) t q a → KindReads map_of t at a
      unfolding keeping map_of ◌>>=◌ ◌>>◌
      map_on R = record { says = R.says ∙ rw (← sep, ← types); told = R.told }

      pub map-few : n < 2 → KindReads map_of t at None
      map-few hi = map_on (record { says = rw (kinds-none n t q (types-few n hi)); told = tt })

      pub map-many : n < 2 ^ 64 → 8 < n → KindReads map_of t at None
      map-many fits lo = map_on (record { says = rw (kinds-none n t q (types-many n fits lo)); told = tt })

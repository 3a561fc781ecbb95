-- The ways out of the readers of kinds, on plain values. Assumes nothing.
use Rattle.std.specs.Prelude.{Some, None, ◌≡◌, Bool, ◌&&◌, not, List, ℕ, ◌+◌, ◌-◌, ◌^◌, ◌/◌, ◌≤◌, ◌<◌, leb}
use Rattle.std.proofs.Math.Path.{refl, ap}
use Rattle.std.proofs.Common.{sym, ◌∙◌}
use Rattle.std.proofs.Math.Bool.{true, false}
use native.Mathlib.Omega.{arith}
use Rattle.std.proofs.Math.Nat.{lt_of_not-le}
use Rattle.std.proofs.Math.Decide.{dec_le}
use Rattle.std.proofs.Math.Dec.{ltb}
use Rattle.std.proofs.Math.IntN.{pos, negsuc}
use borrow.Author.Tests.{le-leb, lt-leb, lt-ltb, le-ltb, eq-eqb, ne_eqb, ltb-true, ltb-false, not-true, not-false}
use Rattle.paper.specs.Reader.{when◌then◌else◌, Reader, Out, got, no as bad, and_then, turned, ◌>>=◌, ◌>>◌, give}
use Rattle.paper.specs.Numbers.{signed}
use Rattle.paper.specs.Bounds.{most_objects}
use Rattle.paper.specs.Ledger.{Kind, constant, plain, array, many}
use Rattle.paper.specs.Rules.{small_rules, single_kind?, element_kind?, element_kind_rules, any_type, noted}
use Rattle.paper.specs.Listing.{comma}
use Rattle.paper.specs.Keeps.{hold?, number?, signed?, whole?, kind_kept?}
use Rattle.paper.specs.Scan.{heed, byte_is, ended, natural, integer, read_kind}
use Rattle.table.specs.View.{kind_from}
use Rattle.values.specs.Chunks.{kind-array, kind-many, kind-plain}
use Rattle.reader.specs.declared.kinds.Kind.{Kind as Numbers}
use Rattle.words.specs.Answers.{Scanned}
use Rattle.parse.specs.Answers.{keeping, constant_of, array_of, many_of, element_of, kinds_of, map_of, width_of, Half, KindReads}

-- ── a number below 2 ^ 64, and its rules ──

module _ (k : ℕ) (fits : k < 2 ^ 64) where
  element-is : number? (element_kind_rules any_type) k ≡ (element_kind? k && true)
  unfolding number? hold? element_kind_rules
  element-is = rw (lt-ltb k (256 ^ 8) fits)

  pub element-low : 5 ≤ k → k ≤ 14 → true ≡ number? (element_kind_rules any_type) k
  unfolding element_kind? single_kind?
  element-low lo hi =
      elim (dec_le 6 k) [
        | yes d ↦ rw (element-is, ne_eqb k 5 (λ q. omega arith), le-leb 6 k d, le-leb k 14 hi)
        | no d ↦ (let five : k ≡ 5 = omega (arith, lt_of_not-le d) in rw (element-is, eq-eqb k 5 five))
      ]

  pub element-type : 32 ≤ k → true ≡ number? (element_kind_rules any_type) k
  unfolding element_kind? single_kind?
  element-type lo = rw (element-is, ne_eqb k 5 (λ q. omega arith), le-leb 6 k (omega arith), lt-leb k 14 (omega arith), le-leb 32 k lo)

  pub element-under : k < 5 → false ≡ number? (element_kind_rules any_type) k
  unfolding element_kind? single_kind?
  element-under hi = rw (element-is, ne_eqb k 5 (λ q. omega arith), lt-leb 6 k (omega arith), lt-leb 32 k (omega arith))

  pub element-gap : 15 ≤ k → k < 32 → false ≡ number? (element_kind_rules any_type) k
  unfolding element_kind? single_kind?
  element-gap lo hi = rw (element-is, ne_eqb k 5 (λ q. omega arith), le-leb 6 k (omega arith), lt-leb k 14 (omega arith), lt-leb 32 k hi)

  small_is : number? small_rules k ≡ (leb k most_objects && true)
  unfolding number? hold? small_rules
  small_is = rw (lt-ltb k (256 ^ 8) fits)

-- ── a value of 64 bits, in fewer bytes ──

module _ (w : ℕ) {h : ℕ} (H : Half w h) (x : ℕ) where
  half_is : 256 ^ w / 2 ≡ h
  half_is = omega (arith, H.twice)

  fits_low : x < h → (signed? w (signed 8 x) ≡ true) × (signed w x ≡ signed 8 x)
  unfolding signed signed? when◌then◌else◌
  fits_low l =
      let t : ltb x 9223372036854775808 ≡ true = lt-ltb x 9223372036854775808 (omega (arith, H.most)) in
      let u : ltb x (256 ^ w / 2) ≡ true = rw half_is (lt-ltb x h l) in
      (rw t u, rw (t, u))

  too_wide : h ≤ x → h ≤ 18446744073709551615 - x → signed? w (signed 8 x) ≡ false
  unfolding signed signed? when◌then◌else◌
  too_wide l m = go (ltb x 9223372036854775808)
    where
      go : (b : Bool) → signed? w (when b then pos x else negsuc (18446744073709551615 - x)) ≡ false
      go true = rw half_is (le-ltb x h l)
      go false = rw half_is (le-ltb (18446744073709551615 - x) h m)

  fits-high : x < 2 ^ 64 → 18446744073709551615 - x < h → (signed? w (signed 8 x) ≡ true) × (signed w (h + (h - 1 - (18446744073709551615 - x))) ≡ signed 8 x)
  unfolding signed signed? when◌then◌else◌
  fits-high f l =
      let a = h + (h - 1 - (18446744073709551615 - x)) in
      let t : ltb x 9223372036854775808 ≡ false = le-ltb x 9223372036854775808 (omega (arith, H.most)) in
      let u : ltb a (256 ^ w / 2) ≡ false = rw half_is (le-ltb a h (omega arith)) in
      let v : ltb (18446744073709551615 - x) (256 ^ w / 2) ≡ true = rw half_is (lt-ltb (18446744073709551615 - x) h l) in
      (rw t v, rw (t, u) (ap negsuc (omega (arith, H.twice))))

-- half the range at each width
module _ (k : ℕ) where
  pub half-narrow : (w h : ℕ) → k < 4 → 2 ^ k ≡ w → 256 ^ w ≡ h + h → h ≤ 9223372036854775808 → Half (width_of k) h
  unfolding when◌then◌else◌
  half-narrow w h l is twice most = rw (lt-ltb k 4 l, is) (record { twice = twice; most = most })

  -- the widest has eight bytes, and so has a v64
  pub half-wide : 3 ≤ k → Half (width_of k) 9223372036854775808
  unfolding when◌then◌else◌
  half-wide l =
      elim (dec_le k 3) [
        | yes d ↦ (let three : k ≡ 3 = omega arith in half-narrow 8 9223372036854775808 (omega arith) (rw three) refl (omega arith))
        | no d ↦ rw (le-ltb k 4 (lt_of_not-le d)) (record { twice = refl; most = omega arith })
      ]

-- ── what is read, held to its rules ──

module _ {r : Reader Kind} {t : List ℕ} {at : ℕ} where
  pub kind-bad : bad 20 0 ≡ r t at → KindReads r t at None
  unfolding keeping ◌>>=◌
  kind-bad h = record { says = rw (← h); told = tt }

  module _ {x : Kind} {e : ℕ} (h : got x e ≡ r t at) where
    kind-broken : kind_kept? x ≡ false → KindReads r t at None
    unfolding keeping heed ◌>>=◌ ◌>>◌ when◌then◌else◌
    kind-broken b = record { says = rw (← h, b); told = tt }

    kind-kept : kind_kept? x ≡ true → (n : Numbers) → kind_from n.first n.bits n.last ≡ noted x → n.first ≤ 32 → KindReads r t at (Some (n, (record { at = e })))
    unfolding keeping heed ◌>>=◌ ◌>>◌ give when◌then◌else◌
    kind-kept b n is l = record { says = rw (← h, b, is); told = l }

-- ── a constant ──

kind-constant : (k a e : ℕ) → k ≤ 4 → kind_from k a e ≡ constant k (signed (width_of k) a)
unfolding kind_from when◌then◌else◌
kind-constant k a e l = go (ltb k 4) refl
  where
    go : (b : Bool) → ltb k 4 ≡ b → kind_from k a e ≡ constant k (signed (when b then 2 ^ k else 8) a)
    go true h = rw (le-leb k 3 (omega (arith, ltb-true k 4 h)))
    go false h = rw (lt-leb k 3 (omega (arith, ltb-false k 4 h)), eq-eqb k 4 (omega (arith, ltb-false k 4 h)))

module _ (k : ℕ) (t : List ℕ) (at : ℕ) where
  pub constant-no-comma : bad 20 0 ≡ byte_is comma t at → KindReads (constant_of k) t at None
  unfolding constant_of ◌>>=◌ ◌>>◌
  constant-no-comma h = kind-bad (rw (← h))

  module _ {p : ℕ} (sep : got tt p ≡ byte_is comma t at) where
    pub constant-no-value : bad 20 0 ≡ integer t p → KindReads (constant_of k) t at None
    unfolding constant_of ◌>>=◌ ◌>>◌
    constant-no-value h = kind-bad (rw (← sep, ← h))

    module _ (x : ℕ) {e : ℕ} (value : got (signed 8 x) e ≡ integer t p) (l : k ≤ 4) {h : ℕ} (H : Half (width_of k) h) where
      constant-is : got (constant k (signed 8 x)) e ≡ constant_of k t at
      unfolding constant_of ◌>>=◌ ◌>>◌ give
      constant-is = rw (← sep, ← value)

      kept_if : {b : Bool} → signed? (width_of k) (signed 8 x) ≡ b → kind_kept? (constant k (signed 8 x)) ≡ b
      unfolding kind_kept? whole?
      kept_if s = rw (le-leb k 4 l) s

      constant-kept : (a : ℕ) → (signed? (width_of k) (signed 8 x) ≡ true) × (signed (width_of k) a ≡ signed 8 x) → KindReads (constant_of k) t at (Some ((record { first = k; bits = a; last = 0 }), (record { at = e })))
      unfolding noted
      constant-kept a s = kind-kept constant-is (kept_if s.0) _ (kind-constant k a 0 l ∙ ap (constant k) s.1) (omega arith)

      pub constant-low : x < h → KindReads (constant_of k) t at (Some ((record { first = k; bits = x; last = 0 }), (record { at = e })))
      constant-low s = constant-kept x (fits_low (width_of k) H x s)

      pub constant_wide : h ≤ x → h ≤ 18446744073709551615 - x → KindReads (constant_of k) t at None
      constant_wide s u = kind-broken constant-is (kept_if (too_wide (width_of k) H x s u))

      pub constant-high : x < 2 ^ 64 → 18446744073709551615 - x < h → KindReads (constant_of k) t at (Some ((record { first = k; bits = h + (h - 1 - (18446744073709551615 - x)); last = 0 }), (record { at = e })))
      constant-high f s = constant-kept _ (fits-high (width_of k) H x f s)

-- ── an array ──

module _ (t : List ℕ) (at : ℕ) where
  pub array-no-comma : bad 20 0 ≡ byte_is comma t at → KindReads array_of t at None
  unfolding array_of ◌>>=◌ ◌>>◌
  array-no-comma h = kind-bad (rw (← h))

  module _ {p : ℕ} (sep : got tt p ≡ byte_is comma t at) where
    pub array-no-length : bad 20 0 ≡ ended comma natural t p → KindReads array_of t at None
    unfolding array_of ◌>>=◌ ◌>>◌
    array-no-length h = kind-bad (rw (← sep, ← h))

    module _ {n q : ℕ} (long : got n q ≡ ended comma natural t p) where
      pub array-no-element : bad 20 0 ≡ natural t q → KindReads array_of t at None
      unfolding array_of ◌>>=◌ ◌>>◌
      array-no-element h = kind-bad (rw (← sep, ← long, ← h))

      module _ {e d : ℕ} (element : got e d ≡ natural t q) (fits : n < 2 ^ 64) where
        array-is : got (array n e) d ≡ array_of t at
        unfolding array_of ◌>>=◌ ◌>>◌ give
        array-is = rw (← sep, ← long, ← element)

        pub array_long : {b : Bool} → b ≡ leb n most_objects → not b ≡ true → KindReads array_of t at None
        unfolding kind_kept?
        array_long {b} is h = kind-broken array-is (rw (small_is n fits, ← is, not-true b h))

        module _ {b : Bool} (is : b ≡ leb n most_objects) (h : not b ≡ false) where
          pub array-got : true ≡ number? (element_kind_rules any_type) e → KindReads array_of t at (Some ((record { first = 15; bits = n; last = e }), (record { at = d })))
          unfolding kind_kept? noted
          array-got s = kind-kept array-is (rw (small_is n fits, ← is, not-false b h, ← s)) _ (kind-array 15 n e refl) (omega arith)

          pub array-gap : false ≡ number? (element_kind_rules any_type) e → KindReads array_of t at None
          unfolding kind_kept?
          array-gap s = kind-broken array-is (rw (small_is n fits, ← is, not-false b h, ← s))

-- ── an element kind ──

module _ (t : List ℕ) (at : ℕ) where
  pub element-no-comma : bad 20 0 ≡ byte_is comma t at → bad 20 0 ≡ element_of t at
  unfolding element_of ◌>>=◌ ◌>>◌
  element-no-comma h = rw (← h)

  module _ {p : ℕ} (sep : got tt p ≡ byte_is comma t at) where
    pub element-none : bad 20 0 ≡ natural t p → bad 20 0 ≡ element_of t at
    unfolding element_of ◌>>=◌ ◌>>◌
    element-none h = rw (← sep, ← h)

    module _ {e d : ℕ} (read : got e d ≡ natural t p) where
      pub element-got : true ≡ number? (element_kind_rules any_type) e → got e d ≡ element_of t at
      unfolding element_of heed ◌>>=◌ ◌>>◌ give when◌then◌else◌
      element-got s = rw (← sep, ← read, ← s)

      pub element-broken : false ≡ number? (element_kind_rules any_type) e → bad 20 0 ≡ element_of t at
      unfolding element_of heed ◌>>=◌ ◌>>◌ give when◌then◌else◌
      element-broken s = rw (← sep, ← read, ← s)

-- ── as many elements as a value says ──

module _ (k : ℕ) (t : List ℕ) (at : ℕ) (lo : 17 ≤ k) (hi : k ≤ 19) where
  many_is : keeping (many_of k) t at ≡ turned (many k) (element_of t at)
  unfolding keeping many_of element_of kind_kept? heed ◌>>=◌ ◌>>◌ give when◌then◌else◌
  many_is = behind (byte_is comma t at)
    where
      ruled : (e d : ℕ) (b : Bool) → and_then (when b then got (tt {0}) d else bad 20 0) (λ u d. got (many k e) d) ≡ turned (many k) (and_then (when b then got (tt {0}) d else bad 20 0) (λ u d. got e d))
      ruled e d true = refl
      ruled e d false = refl

      element :
          (o : Out ℕ)
          → and_then (and_then o (λ e d. got (many k e) d)) (λ x d. and_then (when kind_kept? x then got (tt {0}) d else bad 20 0) (λ u d. got x d))
          ≡ turned (many k) (and_then o (λ e d. and_then (when number? (element_kind_rules any_type) e then got (tt {0}) d else bad 20 0) (λ u d. got e d)))
      element (got e d) = rw (le-leb 17 k lo, le-leb k 19 hi) (ruled e d (number? (element_kind_rules any_type) e))
      element (bad n p) = refl

      behind :
          (o : Out (Unit {0}))
          → and_then (and_then o (λ u e. and_then (natural t e) (λ x d. got (many k x) d))) (λ x d. and_then (when kind_kept? x then got (tt {0}) d else bad 20 0) (λ u d. got x d))
          ≡ turned (many k) (and_then o (λ u e. and_then (natural t e) (λ e d. and_then (when number? (element_kind_rules any_type) e then got (tt {0}) d else bad 20 0) (λ u d. got e d))))
      behind (got u e) = element (natural t e)
      behind (bad n p) = refl

  pub many-none : bad 20 0 ≡ element_of t at → KindReads (many_of k) t at None
  many-none h = record { says = rw (many_is, ← h); told = tt }

  pub many-got : {e d : ℕ} → got e d ≡ element_of t at → KindReads (many_of k) t at (Some ((record { first = k; bits = 0; last = e }), (record { at = d })))
  unfolding noted
  many-got {e} h = record { says = rw (many_is, ← h, kind-many k 0 e lo hi); told = omega arith }

-- ── a kind of one number ──

module _ (k : ℕ) (t : List ℕ) (at : ℕ) where
  alone-is : got (plain k) at ≡ give (plain k) t at
  unfolding give
  alone-is = refl

  alone-gap : false ≡ number? (element_kind_rules any_type) k → KindReads (give (plain k)) t at None
  unfolding kind_kept?
  alone-gap s = kind-broken alone-is (sym s)

  alone-kept : true ≡ number? (element_kind_rules any_type) k → (n : ℕ) → kind_from n 0 k ≡ plain k → n ≤ 32 → KindReads (give (plain k)) t at (Some ((record { first = n; bits = 0; last = k }), (record { at = at })))
  unfolding kind_kept? noted
  alone-kept s n is hi = kind-kept alone-is (sym s) _ is hi

-- ── a kind ──

module _ {t : List ℕ} {at : ℕ} where
  pub kind-none : bad 20 0 ≡ natural t at → KindReads read_kind t at None
  unfolding read_kind ◌>>=◌
  kind-none h = kind-bad (rw (← h))

  module _ {k e : ℕ} (h : got k e ≡ natural t at) {a : Scanned Numbers} where
    -- what follows the number is read by r
    goes_on : {r : Reader Kind} → read_kind t at ≡ r t e → KindReads r t e a → KindReads read_kind t at a
    unfolding keeping ◌>>=◌
    goes_on same R = record { says = R.says ∙ rw same; told = R.told }

    pub kind-is-constant : k ≤ 4 → KindReads (constant_of k) t e a → KindReads read_kind t at a
    unfolding read_kind constant_of ◌>>=◌ when◌then◌else◌
    kind-is-constant l = goes_on (rw (← h, le-leb k 4 l))

    pub kind-is-array : k ≡ 15 → KindReads array_of t e a → KindReads read_kind t at a
    unfolding read_kind array_of ◌>>=◌ when◌then◌else◌
    kind-is-array is = goes_on (rw (← h, lt-leb k 4 (omega arith), eq-eqb k 15 is))

    pub kind-is-many : 17 ≤ k → k ≤ 19 → KindReads (many_of k) t e a → KindReads read_kind t at a
    unfolding read_kind many_of ◌>>=◌ when◌then◌else◌
    kind-is-many lo hi = goes_on (rw (← h, lt-leb k 4 (omega arith), ne_eqb k 15 (λ q. omega arith), le-leb 17 k lo, le-leb k 19 hi))

    pub kind-is-map : k ≡ 20 → KindReads map_of t e a → KindReads read_kind t at a
    unfolding read_kind map_of kinds_of ◌>>=◌ when◌then◌else◌
    kind-is-map is = goes_on (rw (← h, lt-leb k 4 (omega arith), ne_eqb k 15 (λ q. omega arith), le-leb 17 k (omega arith), lt-leb k 19 (omega arith), eq-eqb k 20 is))

    kind-is-alone : 4 < k → (k ≡ 15 → ⊥) → (17 ≤ k → 20 < k) → KindReads (give (plain k)) t e a → KindReads read_kind t at a
    unfolding read_kind ◌>>=◌ when◌then◌else◌
    kind-is-alone l x y =
        goes_on
        (elim (dec_le 17 k) [
          | yes d ↦ rw (← h, lt-leb k 4 l, ne_eqb k 15 x, le-leb 17 k d, lt-leb k 19 (omega (arith, y d)), ne_eqb k 20 (λ q. omega (arith, y d)))
          | no d ↦ rw (← h, lt-leb k 4 l, ne_eqb k 15 x, lt-leb 17 k (lt_of_not-le d), ne_eqb k 20 (λ q. omega (arith, lt_of_not-le d)))
        ])

  module _ {k e : ℕ} (h : got k e ≡ natural t at) (fits : k < 2 ^ 64) where
    pub kind-is-low : 5 ≤ k → k ≤ 14 → KindReads read_kind t at (Some ((record { first = k; bits = 0; last = k }), (record { at = e })))
    kind-is-low lo hi =
        kind-is-alone h (omega arith) (λ q. omega arith) (λ q. omega arith)
        (alone-kept k t e (element-low k fits lo hi) k (kind-plain k 0 k (omega arith) (λ q. omega arith) (λ q. omega arith) (λ q. omega arith)) (omega arith))

    pub kind-is-type : 32 ≤ k → KindReads read_kind t at (Some ((record { first = 32; bits = 0; last = k }), (record { at = e })))
    kind-is-type lo =
        kind-is-alone h (omega arith) (λ q. omega arith) (λ q. omega arith)
        (alone-kept k t e (element-type k fits lo) 32 (kind-plain 32 0 k (omega arith) (λ q. omega arith) (λ q. omega arith) (λ q. omega arith)) (omega arith))

    pub kind-is-gap : 15 < k → k < 32 → (17 ≤ k → 20 < k) → KindReads read_kind t at None
    kind-is-gap lo hi past = kind-is-alone h (omega arith) (λ q. omega arith) past (alone-gap k t e (element-gap k fits (omega arith) hi))

-- Words in decimal: what is read is what would be written, and what is written is read. Assumes nothing.
use Rattle.std.specs.Prelude.{◌≡◌, refl, Bool, true, false, List, [], ◌∷◌, ◌++◌, ℕ, zero, suc, ◌+◌, ◌-◌, ◌*◌, ◌/◌, ◌%◌, ◌^◌, ◌≤◌, ◌<◌, leb, ltb, eqb, ℤ, pos, negsuc, length, get_or}
use Rattle.std.proofs.Common.{sym, ◌∙◌, ap, append_assoc, append-nil, arith, lt_of_not-le, length-append, leb-true, le-leb, eqb-true, ne_eqb, ltb-true, le-ltb}
use Rattle.std.proofs.Math.Option.{Option, none, some}
use Rattle.std.proofs.Math.Decide.{dec_le}
use Rattle.std.proofs.lemmas.Bool.{lt-leb, eqb-false}
use Rattle.paper.specs.Reader.{when◌then◌else◌, Reader, Out, got, no as refused, ◌>>=◌, give}
use Rattle.paper.specs.Listing.{dash, decimal, decimalℤ, or_dash}
use Rattle.paper.specs.Keeps.{signed?}
use Rattle.paper.specs.Scan.{digit?, too_large?, digits_on, decimal_in, natural, negative, positive, integer, or_none}
use Rattle.laws.specs.Laws.{not-got}
use Rattle.laws.specs.Says.{Says, give-says, bind-says}
use Rattle.laws.specs.Takes.{give-takes}
use Rattle.laws.specs.Bools.{and_split}
use Rattle.laws.specs.Digits.{decimal-low, decimal-high, decimal-more, decimal-figures}
use Rattle.laws.specs.Before.{Front, front-none, front-more, front-says, peek-says, TakesBefore, Stops, takes-before, turn-before, front-before, peek-before-yes, peek-before-no}

-- ── decimals ──

digit-in : (d : ℕ) → d < 10 → digit? (48 + d) ≡ true
unfolding digit?
digit-in d h = simp (le-leb 48 (48 + d) (omega arith), le-leb (48 + d) 57 (omega arith))

digit-below : (b : ℕ) → b < 48 → digit? b ≡ false
unfolding digit?
digit-below b h = simp (lt-leb 48 b h)

digit-is : (b : ℕ) → digit? b ≡ true → (48 ≤ b) × (b ≤ 57)
unfolding digit?
digit-is b h = let (p, q) = and_split (leb 48 b) (leb b 57) h in (leb-true 48 b p, leb-true b 57 q)

-- a decimal goes on from that of v
abbrev Goes : ℕ → ℕ → List ℕ → Type 0
Goes v n cs = decimal n ≡ decimal v ++ cs

digits_on-front : (ts : List ℕ) (v e n d : ℕ) → 0 < v → digits_on v e ts ≡ got n d → Front (Goes v) e ts n d
unfolding digits_on when◌then◌else◌
digits_on-front [] v e n d p h = front-none [] (sym (append-nil (decimal v))) h
digits_on-front (c ∷ ts) v e n d p h = go (λ p h. digits_on-front ts (10 * v + (c - 48)) (e + 1) n d p h) (digit? c) refl (too_large? v (c - 48)) h
  where
    go :
        (0 < 10 * v + (c - 48) → digits_on (10 * v + (c - 48)) (e + 1) ts ≡ got n d → Front (Goes (10 * v + (c - 48))) (e + 1) ts n d)
        → (x : Bool) → digit? c ≡ x → (y : Bool) → (when x then (when y then refused 20 0 else digits_on (10 * v + (c - 48)) (e + 1) ts) else got v e) ≡ got n d
        → Front (Goes v) e (c ∷ ts) n d
    go ih false t y h = front-none (c ∷ ts) (sym (append-nil (decimal v))) h
    go ih true t true h = not-got h
    go ih true t false h =
        let (lo, hi) = digit-is c t in
        let F = ih (omega arith) h in
        let b : 48 + (c - 48) ≡ c = omega arith in
        front-more c F (F.says ∙ rw (decimal-more v (c - 48) p (omega arith), b, append_assoc))

pub natural-says : Says natural (λ n cs. decimal n ≡ cs)
unfolding natural decimal_in when◌then◌else◌
natural-says = front-says decimal_in front
  where
    front : (ts : List ℕ) (at n e : ℕ) → decimal_in at ts ≡ got n e → Front (λ n cs. decimal n ≡ cs) at ts n e
    front [] at n e h = not-got h
    front (c ∷ ts) at n e h = go (eqb c 48) refl (digit? c) refl h
      where
        go :
            (x : Bool) → eqb c 48 ≡ x → (y : Bool) → digit? c ≡ y
            → (when x then got 0 (at + 1) else when y then digits_on (c - 48) (at + 1) ts else refused 20 0) ≡ got n e → Front (λ n cs. decimal n ≡ cs) at (c ∷ ts) n e
        go true t y u h =
            let q : 0 ≡ n = cc h in
            let r : at + 1 ≡ e = cc h in
            record { word = c ∷ []; rest = ts; same = refl; place = omega arith; says = rw (← q, eqb-true c 48 t) (decimal-low 0 (omega arith)) }
        go false t false u h = not-got h
        go false t true u h =
            let (lo, hi) = digit-is c u in
            let ne = eqb-false c 48 t in
            let p : 0 < c - 48 = elim (dec_le 49 c) [ yes d ↦ omega arith | no d ↦ (let l = lt_of_not-le d in absurd (ne (omega arith))) ] in
            let F = digits_on-front ts (c - 48) (at + 1) n e p h in
            let b : 48 + (c - 48) ≡ c = omega arith in
            front-more c F (F.says ∙ rw (decimal-low (c - 48) (omega arith), b))

-- a digit is taken
digits_on-more : (v d e : ℕ) (ts : List ℕ) → d < 10 → 10 * v + d < 2 ^ 64 → digits_on v e ((48 + d) ∷ ts) ≡ digits_on (10 * v + d) (e + 1) ts
unfolding digits_on when◌then◌else◌ too_large?
digits_on-more v d e ts l h =
    let q : 48 + d - 48 ≡ d = omega arith in
    rw (digit-in d l, q, lt-leb (2 ^ 64) (10 * v + d) h)

digits_on-ends : (v e : ℕ) (ts : List ℕ) → Stops ts → digits_on v e ts ≡ got v e
unfolding digits_on when◌then◌else◌
digits_on-ends v e [] h = refl
digits_on-ends v e (b ∷ ts) h = rw (digit-below b h)

decimal_in-zero : (at : ℕ) (ts : List ℕ) → decimal_in at (48 ∷ ts) ≡ got 0 (at + 1)
unfolding decimal_in when◌then◌else◌
decimal_in-zero at ts = refl

decimal_in-first : (d e : ℕ) (ts : List ℕ) → 0 < d → d < 10 → decimal_in e ((48 + d) ∷ ts) ≡ digits_on d (e + 1) ts
unfolding decimal_in when◌then◌else◌
decimal_in-first d e ts p l =
    let q : 48 + d - 48 ≡ d = omega arith in
    rw (ne_eqb (48 + d) 48 (λ z. omega arith), digit-in d l, q)

-- k is at least n: the number is taken digit by digit
decimal_in-goes : (k n at : ℕ) (rest : List ℕ) → n ≤ k → 0 < n → n < 2 ^ 64 → decimal_in at (decimal n ++ rest) ≡ digits_on n (at + length (decimal n)) rest
decimal_in-goes zero n at rest h p b = absurd (omega arith)
decimal_in-goes (suc k) n at rest h p b =
    elim (dec_le 10 n) [
      | no d ↦ (let l : n < 10 = lt_of_not-le d in rw (decimal-low n l) (decimal_in-first n at rest p l))
      | yes d ↦
          (let ih = decimal_in-goes k (n / 10) at ((48 + n % 10) ∷ rest) (omega arith) (omega arith) (omega arith) in
          let q : 10 * (n / 10) + n % 10 ≡ n = omega arith in
          let s = digits_on-more (n / 10) (n % 10) (at + length (decimal (n / 10))) rest (omega arith) (omega arith) in
          rw (decimal-high n d, append_assoc (decimal (n / 10)) ((48 + n % 10) ∷ []) rest, length-append)
          (ih ∙ rw q at s ∙ ap (λ (m : ℕ). digits_on n m rest) (omega arith)))
    ]

pub natural-before : (n : ℕ) → n < 2 ^ 64 → TakesBefore Stops natural (decimal n) n
unfolding natural
natural-before n b = front-before decimal_in (decimal n) (decimal-figures n).bytes go
  where
    go : (at : ℕ) (rest : List ℕ) → Stops rest → decimal_in at (decimal n ++ rest) ≡ got n (at + length (decimal n))
    go at rest s =
        elim (dec_le 1 n) [
          | yes p ↦ (decimal_in-goes n n at rest (omega arith) p b ∙ digits_on-ends n (at + length (decimal n)) rest s)
          | no p ↦
              (let z : n ≡ 0 = let l = lt_of_not-le p in omega arith in
              rw (z, decimal-low 0 (omega arith)) (decimal_in-zero at rest))
        ]

-- ── decimals with a sign, and a dash for none ──

-- what is read, turned by g, which refuses some
turned-says :
    {A B : Type 0} {r : Reader A} {P : A → List ℕ → Type 0} (g : Out A → Out B) (Q : B → List ℕ → Type 0)
    → ((o : Out A) (b : B) (e : ℕ) → g o ≡ got b e → (a : A) × (o ≡ got a e) × ((cs : List ℕ) → P a cs → Q b cs)) → Says r P → Says (λ t at. g (r t at)) Q
turned-says {r} g Q inv R =
    record {
      at = λ f at v e b h q.
          let (a, p, imp) = inv (r f at) v e q in
          let S = R.at f at a e b h p in
          record { forward = S.forward; inside = S.inside; said = imp _ S.said };
    }

turned-before :
    {A B : Type 0} {F : List ℕ → Type 0} {r : Reader A} (g : Out A → Out B) {cs : List ℕ} {a : A} {b : B} → ((e : ℕ) → g (got a e) ≡ got b e)
    → TakesBefore F r cs a → TakesBefore F (λ t at. g (r t at)) cs b
turned-before g turn R = record { bytes = R.bytes; at = λ f p rest h s q. rw (R.at f p rest h s q) (turn _) }

negative-says : Says (λ t at. negative (natural t at)) (λ z cs. decimalℤ z ≡ dash ∷ cs)
unfolding negative decimalℤ when◌then◌else◌
negative-says = turned-says negative _ inv natural-says
  where
    inv : (o : Out ℕ) (z : ℤ) (e : ℕ) → negative o ≡ got z e → (n : ℕ) × (o ≡ got n e) × ((cs : List ℕ) → decimal n ≡ cs → decimalℤ z ≡ dash ∷ cs)
    inv (refused k p) z e h = not-got h
    inv (got n d) z e h = go (eqb n 0) refl (ltb (2 ^ 63) n) h
      where
        go :
            (x : Bool) → eqb n 0 ≡ x → (y : Bool) → (when x then refused 20 0 else when y then refused 20 0 else got (negsuc (n - 1)) d) ≡ got z e
            → (m : ℕ) × (got n d ≡ got m e) × ((cs : List ℕ) → decimal m ≡ cs → decimalℤ z ≡ dash ∷ cs)
        go true t y h = not-got h
        go false t true h = not-got h
        go false t false h =
            let ne = eqb-false n 0 t in
            let q : d ≡ e = cc h in
            let w : negsuc (n - 1) ≡ z = cc h in
            let v : n - 1 + 1 ≡ n = omega arith in
            (n, ap (got n) q, λ cs p. rw (← w, v, p))

positive-says : Says (λ t at. positive (natural t at)) (λ z cs. decimalℤ z ≡ cs)
unfolding positive decimalℤ when◌then◌else◌
positive-says = turned-says positive _ inv natural-says
  where
    inv : (o : Out ℕ) (z : ℤ) (e : ℕ) → positive o ≡ got z e → (n : ℕ) × (o ≡ got n e) × ((cs : List ℕ) → decimal n ≡ cs → decimalℤ z ≡ cs)
    inv (refused k p) z e h = not-got h
    inv (got n d) z e h = go (leb (2 ^ 63) n) h
      where
        go :
            (x : Bool) → (when x then refused 20 0 else got (pos n) d) ≡ got z e
            → (m : ℕ) × (got n d ≡ got m e) × ((cs : List ℕ) → decimal m ≡ cs → decimalℤ z ≡ cs)
        go true h = not-got h
        go false h =
            let q : d ≡ e = cc h in
            let w : pos n ≡ z = cc h in
            (n, ap (got n) q, λ cs p. rw (← w, p))

pub integer-says : Says integer (λ z cs. decimalℤ z ≡ cs)
unfolding integer
integer-says = peek-says dash (omega arith) _ negative-says positive-says

no-dash : (n : ℕ) (rest : List ℕ) → Stops rest → get_or (decimal n ++ rest) 0 256 ≡ dash → ⊥
no-dash n rest s q = omega (arith, (decimal-figures n).first rest)

pub integer-before : (z : ℤ) → signed? 8 z ≡ true → TakesBefore Stops integer (decimalℤ z) z
unfolding integer decimalℤ signed? negative positive when◌then◌else◌
integer-before (pos n) h =
    let l = ltb-true n (256 ^ 8 / 2) h in
    peek-before-no dash (λ t at. negative (natural t at)) (no-dash n) (turned-before positive (λ e. rw (lt-leb (2 ^ 63) n (omega arith))) (natural-before n (omega arith)))
integer-before (negsuc n) h =
    let l = ltb-true n (256 ^ 8 / 2) h in
    let q : n + 1 - 1 ≡ n = omega arith in
    peek-before-yes dash (omega arith) _
    (turned-before negative (λ e. rw (ne_eqb (n + 1) 0 (λ z. omega arith), le-ltb (2 ^ 63) (n + 1) (omega arith), q)) (natural-before (n + 1) (omega arith)))

pub or_none-says : Says or_none (λ o cs. or_dash o ≡ cs)
unfolding or_none or_dash ◌>>=◌ give
or_none-says = peek-says dash (omega arith) _ (give-says none _ refl) (bind-says _ natural-says λ n cs p. give-says (some n) _ (rw append-nil p))

-- a number that may be missing is of 64 bits
abbrev pub Fits : Option ℕ → Type 0
Fits none = Unit {0}
Fits (some n) = n < 2 ^ 64

pub or_none-before : (o : Option ℕ) → Fits o → TakesBefore Stops or_none (or_dash o) o
unfolding or_none or_dash ◌>>=◌ give
or_none-before none h = peek-before-yes dash (omega arith) _ (takes-before Stops (give-takes none))
or_none-before (some n) h = peek-before-no dash (give none) (no-dash n) (turn-before some (natural-before n h))

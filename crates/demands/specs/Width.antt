-- Full width: the number that a column holds determines the value, whatever the kind of the column. Assumes nothing.
use Rattle.std.specs.Prelude.{◌≡◌, refl, Bool, true, false, ◌&&◌, not, ℕ, zero, suc, ◌+◌, ◌-◌, ◌*◌, ◌^◌, ◌≤◌, ◌<◌, leb, ltb, eqb, ℤ, pos, negsuc}
use Rattle.std.proofs.Common.{sym, ap, ◌∙◌, arith, leb-true, leb-false, ltb-true, eqb-true}
use Rattle.paper.specs.Reader.{when◌then◌else◌}
use Rattle.paper.specs.Numbers.{signed, unsigned}
use Rattle.paper.specs.Ledger.{plain, Element, flag, whole, float, link, annotation, keys, State}
use Rattle.paper.specs.Keeps.{element?, whole?, signed?}
use Rattle.paper.specs.Calls.{stored, asked}
use Rattle.laws.specs.Bools.{not_so, and_split}
use Rattle.laws.specs.Values.{unsigned_signed}

-- the kinds of each case
flag-kind : (s : State) (k : ℕ) (b : Bool) → element? s k (flag b) ≡ true → k ≡ 6
unfolding element?
flag-kind s k b h = eqb-true k 6 h

not-true : (b : Bool) → not b ≡ true → b ≡ false
not-true true h = not_so h
not-true false h = refl

whole-kind : (s : State) (k : ℕ) (v : ℤ) → element? s k (whole v) ≡ true → (k ≤ 11) × (k ≡ 6 → ⊥)
unfolding element?
whole-kind s k v h =
    let (_, others) = and_split (not (eqb k 5)) _ h in
    let (both, _) = and_split (not (eqb k 6) && leb k 11) _ others in
    let (a, c) = and_split (not (eqb k 6)) (leb k 11) both in
    (leb-true k 11 c, λ e. let z : not (eqb 6 6) ≡ true = rw e at a in not_so z)

float-kind : (s : State) (k w n : ℕ) → element? s k (float w n) ≡ true → (11 < k) × (k ≤ 13) × (w ≡ 4 * (k - 11)) × (n < 256 ^ w)
unfolding element?
float-kind s k w n h =
    let (three, g) = and_split (not (leb k 11) && leb k 13 && eqb w (4 * (k - 11))) (ltb n (256 ^ w)) h in
    let (two, e) = and_split (not (leb k 11) && leb k 13) (eqb w (4 * (k - 11))) three in
    let (a, c) = and_split (not (leb k 11)) (leb k 13) two in
    (leb-false k 11 (not-true (leb k 11) a), leb-true k 13 c, eqb-true w _ e, ltb-true n (256 ^ w) g)

link-kind : (s : State) (k n : ℕ) → element? s k (link n) ≡ true → 13 < k
unfolding element?
link-kind s k n h = let (a, _) = and_split (not (leb k 13)) _ h in leb-false k 13 (not-true (leb k 13) a)

float-bits : (w n : ℕ) → ℤ
float-bits w n = when eqb w 8 then signed 8 n else pos n

-- a float's bits are those that its number says
bits-same : (w n m : ℕ) → n < 256 ^ w → m < 256 ^ w → float-bits w n ≡ float-bits w m → n ≡ m
unfolding float-bits when◌then◌else◌
bits-same w n m a b = go (eqb w 8) refl
  where
    go : (c : Bool) → eqb w 8 ≡ c → (when c then signed 8 n else pos n) ≡ (when c then signed 8 m else pos m) → n ≡ m
    go true e q =
        let z = eqb-true w 8 e in
        let a₈ : n < 256 ^ 8 = rw z at a in
        let b₈ : m < 256 ^ 8 = rw z at b in
        sym (unsigned_signed 8 (256 ^ 7) (omega arith) n a₈) ∙ ap (unsigned 8) q ∙ unsigned_signed 8 (256 ^ 7) (omega arith) m b₈
    go false e q = cc q

-- annotations have no column
no-annotation : (s : State) (k m n : ℕ) → asked (plain k) ≤ 32 → element? s k (annotation m n) ≡ true → ⊥
unfolding element? asked when◌then◌else◌
no-annotation s k m n c h =
    let (five, _) = and_split (eqb k 5) _ h in
    let most : 33 ≤ 32 = rw five at c in
    omega arith

-- two values of a kind that has a column, stored as the same number, are the same value
pub full-width : (s : State) (k : ℕ) (e e' : Element) → asked (plain k) ≤ 32 → element? s k e ≡ true → element? s k e' ≡ true → stored e ≡ stored e' → e ≡ e'
unfolding stored float-bits element?
full-width s k (flag true) (flag true) c h h' q = refl
full-width s k (flag true) (flag false) c h h' q = let z : ◌≡◌ {A = ℕ} 1 0 = cc q in absurd (omega arith)
full-width s k (flag false) (flag true) c h h' q = let z : ◌≡◌ {A = ℕ} 0 1 = cc q in absurd (omega arith)
full-width s k (flag false) (flag false) c h h' q = refl
full-width s k (flag b) (whole v) c h h' q = absurd ((whole-kind s k v h').1 (flag-kind s k b h))
full-width s k (flag b) (float w n) c h h' q = absurd (omega (arith, flag-kind s k b h, (float-kind s k w n h').0))
full-width s k (flag b) (link n) c h h' q = absurd (omega (arith, flag-kind s k b h, link-kind s k n h'))
full-width s k (whole v) (flag b) c h h' q = absurd ((whole-kind s k v h).1 (flag-kind s k b h'))
full-width s k (whole v) (whole u) c h h' q = ap (λ (x : ℤ). whole x) q
full-width s k (whole v) (float w n) c h h' q = absurd (omega (arith, (whole-kind s k v h).0, (float-kind s k w n h').0))
full-width s k (whole v) (link n) c h h' q = absurd (omega (arith, (whole-kind s k v h).0, link-kind s k n h'))
full-width s k (float w n) (flag b) c h h' q = absurd (omega (arith, flag-kind s k b h', (float-kind s k w n h).0))
full-width s k (float w n) (whole v) c h h' q = absurd (omega (arith, (whole-kind s k v h').0, (float-kind s k w n h).0))
full-width s k (float w n) (float u m) c h h' q =
    let (_, _, a, lt) = float-kind s k w n h in
    let (_, _, b, lt') = float-kind s k u m h' in
    let z : w ≡ u = omega arith in
    let lt'' : m < 256 ^ w = rw z lt' in
    let y = bits-same w n m lt lt'' (rw (← z) at q) in
    ap (λ (x : ℕ). float w x) y ∙ ap (λ (x : ℕ). float x m) z
full-width s k (float w n) (link m) c h h' q = absurd (omega (arith, (float-kind s k w n h).1, link-kind s k m h'))
full-width s k (link n) (flag b) c h h' q = absurd (omega (arith, flag-kind s k b h', link-kind s k n h))
full-width s k (link n) (whole v) c h h' q = absurd (omega (arith, (whole-kind s k v h').0, link-kind s k n h))
full-width s k (link n) (float w m) c h h' q = absurd (omega (arith, (float-kind s k w m h').1, link-kind s k n h))
full-width s k (link n) (link m) c h h' q = let z : n ≡ m = cc q in ap (λ (x : ℕ). link x) z
full-width s k (flag b) (annotation x y) c h h' q = absurd (no-annotation s k x y c h')
full-width s k (flag b) (keys x) c h h' q = not_so h'
full-width s k (whole v) (annotation x y) c h h' q = absurd (no-annotation s k x y c h')
full-width s k (whole v) (keys x) c h h' q = not_so h'
full-width s k (float w n) (annotation x y) c h h' q = absurd (no-annotation s k x y c h')
full-width s k (float w n) (keys x) c h h' q = not_so h'
full-width s k (link n) (annotation x y) c h h' q = absurd (no-annotation s k x y c h')
full-width s k (link n) (keys x) c h h' q = not_so h'
full-width s k (annotation x y) e c h h' q = absurd (no-annotation s k x y c h)
full-width s k (keys x) e c h h' q = not_so h

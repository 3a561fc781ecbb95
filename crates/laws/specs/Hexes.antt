-- Words in hex: what is read is what would be written, and what is written is read. Assumes nothing.
use Rattle.std.specs.Prelude.{◌≡◌, refl, Bool, true, false, List, [], ◌∷◌, ◌++◌, ℕ, zero, suc, ◌+◌, ◌*◌, ◌/◌, ◌%◌, ◌^◌, ◌≤◌, ◌<◌, ltb, eqb, length, get_or}
use Rattle.std.proofs.Common.{sym, ◌∙◌, ap, append-nil, arith, eq-eqb, ne_eqb, ltb-true, lt-ltb}
use Rattle.std.proofs.Math.Nat.{pow-zero, pow-succ'}
use Rattle.std.proofs.lemmas.Bool.{eqb-false}
use Rattle.paper.specs.Reader.{when◌then◌else◌, Out, got, no as refused, and_then, ◌>>=◌, give}
use Rattle.paper.specs.Lists.{flat, all}
use Rattle.paper.specs.Listing.{glyph, hex_digits, hex}
use Rattle.paper.specs.Keeps.{bytes?}
use Rattle.paper.specs.Scan.{byte_is, nibble, hex_on, hex_pairs, hex_bytes}
use Rattle.laws.specs.Laws.{not-got}
use Rattle.laws.specs.Says.{Bytes, Says, Said, weaker, give-says, bind-says}
use Rattle.laws.specs.Takes.{Takes, takes-is, give-takes, bind-takes}
use Rattle.laws.specs.Bools.{and-join}
use Rattle.laws.specs.Digits.{glyph-byte, nibble-below, nibble-glyph, glyph-nibble, hex_digits-more}
use Rattle.laws.specs.Before.{Front, front-none, front-says, byte_is-says, bytes_back, TakesBefore, Stops, front-before, first_of}

-- ── a number of so many digits ──

-- one digit
digit-says : (m : ℕ) → Says (hex_on 1 m) (λ n cs. (d : ℕ) × (d < 16) × (n ≡ 16 * m + d) × (glyph d ∷ [] ≡ cs))
unfolding hex_on when◌then◌else◌ byte_is
digit-says m = record { at = λ f at v e b h q. go f at v e b h (ltb (nibble (get_or f at 256)) 16) refl q }
  where
    go :
        (f : List ℕ) (at v e : ℕ) → Bytes f → at ≤ length f → (t : Bool) → ltb (nibble (get_or f at 256)) 16 ≡ t
        → (when t then got (16 * m + nibble (get_or f at 256)) (at + 1) else refused 20 0) ≡ got v e
        → Said (λ n cs. (d : ℕ) × (d < 16) × (n ≡ 16 * m + d) × (glyph d ∷ [] ≡ cs)) f at v e
    go f at v e b h true t q =
        let c = get_or f at 256 in
        let l = ltb-true (nibble c) 16 t in
        let (k, g) = glyph-nibble c (λ z. omega arith) in
        let n : 16 * m + nibble c ≡ v = cc q in
        let S = (byte_is-says c (rw g at (glyph-byte (nibble c) l))).at f at tt (at + 1) b h (rw (eq-eqb c c refl)) in
        let z : at + 1 ≡ e = cc q in
        rw (← z) (record { forward = S.forward; inside = S.inside; said = (nibble c, l, sym n, rw g S.said) })
    go f at v e b h false t q = not-got q

digit-takes : (m d : ℕ) → d < 16 → Takes (hex_on 1 m) (glyph d ∷ []) (16 * m + d)
unfolding hex_on when◌then◌else◌
digit-takes m d h =
    record {
      bytes = (glyph-byte d h, tt);
      at = λ f p rest le q. rw (first_of f p _ q, nibble-glyph d h, lt-ltb d 16 h);
    }

-- the last digit is read behind the others
hex_on-last : (k v : ℕ) (t : List ℕ) (at : ℕ) → hex_on (suc k) v t at ≡ (hex_on k v >>= hex_on 1) t at
unfolding hex_on ◌>>=◌ when◌then◌else◌
hex_on-last zero v t at = refl
hex_on-last (suc k) v t at = go (ltb (nibble (get_or t at 256)) 16) (hex_on-last k (16 * v + nibble (get_or t at 256)) t (at + 1))
  where
    w : ℕ
    w = 16 * v + nibble (get_or t at 256)

    go :
        (x : Bool) → hex_on (suc k) w t (at + 1) ≡ and_then (hex_on k w t (at + 1)) (λ m. hex_on 1 m t)
        → (when x then hex_on (suc k) w t (at + 1) else refused 20 0) ≡ and_then (when x then hex_on k w t (at + 1) else refused 20 0) (λ m. hex_on 1 m t)
    go true ih = ih
    go false ih = refl

pub hex_on-says : (k : ℕ) → Says (hex_on k 0) (λ n cs. hex_digits k n ≡ cs)
unfolding hex_on hex_digits give
hex_on-says zero = give-says 0 _ refl
hex_on-says (suc k) =
    let both : Says (hex_on k 0 >>= hex_on 1) (λ n cs. hex_digits (suc k) n ≡ cs) =
    bind-says _ (hex_on-says k) λ m cs p. weaker _ (λ n ds (d, l, q, g). rw (q, hex_digits-more k m d l, p, g)) (digit-says m) in
    record { at = λ f at v e b h q. both.at f at v e b h (sym (hex_on-last k 0 f at) ∙ q) }

pub hex_on-takes : (k n : ℕ) → n < 16 ^ k → Takes (hex_on k 0) (hex_digits k n) n
unfolding hex_on hex_digits give
hex_on-takes zero n h = let z : 0 ≡ n = let h' : n < 1 = rw pow-zero at h in omega arith in takes-is z (give-takes 0)
hex_on-takes (suc k) n h =
    let h' : n < 16 * 16 ^ k = rw pow-succ' at h in
    let q : 16 * (n / 16) + n % 16 ≡ n = omega arith in
    let T = takes-is q (bind-takes (hex_on 1) (hex_on-takes k (n / 16) (omega arith)) (digit-takes (n / 16) (n % 16) (omega arith))) in
    record { bytes = T.bytes; at = λ f p rest le g. hex_on-last k 0 f p ∙ T.at f p rest le g }

-- ── bytes, as long as there are pairs of digits ──

-- these bytes, in hex
abbrev Hexed : List ℕ → List ℕ → Type 0
Hexed s cs = (hex s ≡ cs) × (bytes? s ≡ true)

hex_pairs-front : (ts : List ℕ) (e : ℕ) (s : List ℕ) (d : ℕ) → hex_pairs e ts ≡ got s d → Front Hexed e ts s d
unfolding hex_pairs when◌then◌else◌ hex flat bytes? all hex_digits
hex_pairs-front [] e s d h = front-none [] (refl, refl) h
hex_pairs-front (a ∷ []) e s d h = front-none (a ∷ []) (refl, refl) h
hex_pairs-front (a ∷ b ∷ ts) e s d h =
    go (λ s d k. hex_pairs-front ts (e + 2) s d k) (eqb (nibble a) 16) refl (eqb (nibble b) 16) refl (hex_pairs (e + 2) ts) refl h
  where
    go :
        ((s : List ℕ) (d : ℕ) → hex_pairs (e + 2) ts ≡ got s d → Front Hexed (e + 2) ts s d) → (x : Bool) → eqb (nibble a) 16 ≡ x → (y : Bool)
        → eqb (nibble b) 16 ≡ y → (o : Out (List ℕ)) → hex_pairs (e + 2) ts ≡ o
        → (when x then got [] e else when y then got [] e else and_then o λ ws d. got ((nibble a * 16 + nibble b) ∷ ws) d) ≡ got s d → Front Hexed e (a ∷ b ∷ ts) s d
    go ih true t y u o w h = front-none (a ∷ b ∷ ts) (refl, refl) h
    go ih false t true u o w h = front-none (a ∷ b ∷ ts) (refl, refl) h
    go ih false t false u (refused k p) w h = not-got h
    go ih false t false u (got ws m) w h =
        let F = ih ws m w in
        let v = nibble a * 16 + nibble b in
        let p : v ∷ ws ≡ s = cc h in
        let q : m ≡ d = cc h in
        let (i, g) = glyph-nibble a (eqb-false (nibble a) 16 t) in
        let (j, k) = glyph-nibble b (eqb-false (nibble b) 16 u) in
        let hi : v / 16 % 16 ≡ nibble a = omega arith in
        let lo : v % 16 ≡ nibble b = omega arith in
        record {
          word = a ∷ b ∷ F.word;
          rest = F.rest;
          same = ap (λ (z : List ℕ). a ∷ b ∷ z) F.same;
          place = omega (arith, F.place);
          says = rw (← p) (rw (hi, lo, g, k, F.says.0), and-join (lt-ltb v 256 (omega arith)) F.says.1);
        }

pub hex_bytes-says : Says hex_bytes (λ s cs. (hex s ≡ cs) × (bytes? s ≡ true))
unfolding hex_bytes
hex_bytes-says = front-says hex_pairs hex_pairs-front

hex_pairs-ends : (e : ℕ) (ts : List ℕ) → Stops ts → hex_pairs e ts ≡ got [] e
unfolding hex_pairs when◌then◌else◌
hex_pairs-ends e [] h = refl
hex_pairs-ends e (a ∷ []) h = refl
hex_pairs-ends e (a ∷ b ∷ ts) h = rw (eq-eqb (nibble a) 16 (nibble-below a h))

-- where no pair follows
hex_pairs-goes :
    (s : List ℕ) (e : ℕ) (rest : List ℕ) → Bytes s → ((d : ℕ) → hex_pairs d rest ≡ got [] d) → hex_pairs e (hex s ++ rest) ≡ got s (e + length (hex s))
unfolding hex flat hex_pairs when◌then◌else◌ hex_digits
hex_pairs-goes [] e rest h s = s e ∙ ap (got []) (omega arith)
hex_pairs-goes (b ∷ bs) e rest h s =
    let lt = h.0 in
    let v : b / 16 % 16 * 16 + b % 16 ≡ b = omega arith in
    rw (
      nibble-glyph (b / 16 % 16) (omega arith),
      nibble-glyph (b % 16) (omega arith),
      ne_eqb (b / 16 % 16) 16 (λ z. omega arith),
      ne_eqb (b % 16) 16 (λ z. omega arith),
      v,
      hex_pairs-goes bs (e + 2) rest h.1 s,
    )
    (ap (got (b ∷ bs)) (omega arith))

hex-bytes : (s : List ℕ) → Bytes (hex s)
unfolding hex flat hex_digits
hex-bytes [] = tt
hex-bytes (b ∷ s) = (glyph-byte (b / 16 % 16) (omega arith), (glyph-byte (b % 16) (omega arith), hex-bytes s))

pub hex_bytes-before : (s : List ℕ) → bytes? s ≡ true → TakesBefore Stops hex_bytes (hex s) s
unfolding hex_bytes
hex_bytes-before s h = front-before hex_pairs (hex s) (hex-bytes s) λ at rest t. hex_pairs-goes s at rest (bytes_back s h) (λ d. hex_pairs-ends d rest t)

-- all of a text
pub hex_bytes-whole : (s : List ℕ) → bytes? s ≡ true → hex_bytes (hex s) 0 ≡ got s (length (hex s))
unfolding hex_bytes hex_pairs
hex_bytes-whole s h = rw append-nil at (hex_pairs-goes s 0 [] (bytes_back s h) (λ d. refl)) ∙ ap (got s) (omega arith)

-- Values: what is read is what is spelt, and keeps the rules; and back. Assumes nothing.
use Rattle.std.specs.Prelude.{◌≡◌, Bool, ◌||◌, not, leb, eqb, ℤ, length, replicate}
use Rattle.std.proofs.Math.Path.{refl, ap}
use Rattle.std.proofs.Common.{sym, ◌∙◌, length-take, length-drop}
use Rattle.std.proofs.Math.Bool.{true, false}
use mathlib.Core.List.{List, [], ◌∷◌, ◌++◌, append-nil}
use Prim.Native.Nat.{ℕ, zero, suc, ◌-◌, ◌*◌, ◌/◌, ◌^◌, ◌≤◌, ◌<◌}
use native.Mathlib.Omega.{arith}
use Rattle.std.proofs.Math.Nat.{pow-succ', one-le-pow}
use Rattle.std.proofs.Math.Dec.{ltb}
use Rattle.std.proofs.Math.IntN.{pos, negsuc}
use Rattle.std.proofs.Math.ListN.{length-replicate}
use borrow.Author.Tests.{leb-true, leb-false, le-leb, lt-leb, eqb-true, eq-eqb, ltb-true, ltb-false, lt-ltb, le-ltb, not-true}
use Rattle.paper.specs.Reader.{when◌then◌else◌, Reader, got, ◌>>=◌, give, refuse, Rule, repeat, part}
use Rattle.paper.specs.Numbers.{signed, unsigned, fixed, put_fixed, v64, number}
use Rattle.paper.specs.Ledger.{Kind, constant, plain, array, many, mapping, Element, flag, whole, float, link, annotation, keys, Chunk, Due, State, field_at}
use Rattle.paper.specs.Lists.{all, flat}
use Rattle.paper.specs.Rules.{small_rules, bool_rules, link_rules, annotation_rules}
use Rattle.paper.specs.Maps.{size_of, size?}
use Rattle.paper.specs.File.{small, whole_of, two_numbers, element, value, chunk}
use Rattle.paper.specs.Keeps.{number?, signed?, whole?, element?, sized?, value?, chunk?}
use Rattle.laws.specs.Laws.{not-got, part-inv}
use Rattle.laws.specs.Says.{Bytes, Says, Said, weaker, give-says, bind-says, must-says, if-says, part_says, times-says, both_say, Run}
use Rattle.laws.specs.Spelt.{fixed-says, byte-says, v64-says}
use Rattle.laws.specs.Takes.{Takes, takes-as, part-takes, times-takes, written-flat}
use Rattle.laws.specs.Maps.{stand-alone, map-says, map-before}
use Rattle.paper.specs.Pieces.{Piece, free, firm, whole_pieces, element_pieces, size_pieces, value_pieces, chunk_pieces}
use Rattle.paper.specs.Spell.{Spelt}
use Rattle.laws.specs.Spelling.{spelt-none, spelt-join, spelt-joins, spelt-end, firm-spelt, KeptSpelt, ReadSpelt, Reads, reads_as, reads-is, give-reads, bind-reads, must-reads, if-reads-true, if-reads-false, firm-reads, repeat-reads}
use Rattle.laws.specs.Codes.{fixed-takes, byte-takes, v64-reads, number-reads}
pub use Rattle.laws.specs.Kept.{Kept, Taken}
use Rattle.laws.specs.Bools.{not_so, and_split, and-join, number-split, number-join, all_split, map₁}

pub number-kept : (rules : ℕ → List Rule) → KeptSpelt (number rules) free (number? rules)
unfolding number
number-kept rules = weaker _ (λ n cs p. (p.0.0, number-join rules n p.0.1 p.1)) (must-says rules v64-says)

pub number-taken : (rules : ℕ → List Rule) → ReadSpelt (number rules) free (number? rules)
number-taken rules n h = let s = number-split rules n h in number-reads rules n s.0 s.1

-- ── one after the other ──

-- for pieces of any sort, by the law Sp of how they stand in bytes
module _ {B : Type 0} (Sp : List B → List ℕ → Type 0) (none : Sp [] []) (join : (ps qs : List B) (cs ds : List ℕ) → Sp ps cs → Sp qs ds → Sp (ps ++ qs) (cs ++ ds)) where
  run_by :
      {S X A : Type 0} (w : A → List B) (ok : A → Bool) (after : S → A → S) (xs : List X) (s : S) (l : List A) (cs : List ℕ)
      → Run (λ s x a cs. Sp (w a) cs × (ok a ≡ true)) after xs s l cs → Sp (flat w l) cs × (length l ≡ length xs) × (all ok l ≡ true)
  unfolding flat all
  run_by w ok after [] s [] cs r = (rw r none, refl, refl)
  run_by w ok after [] s (a ∷ l) cs r = absurd r
  run_by w ok after (x ∷ xs) s [] cs r = absurd r
  run_by w ok after (x ∷ xs) s (a ∷ l) cs (c, d, e, p, q) =
      let ih = run_by w ok after xs (after s a) l d q in
      (rw e (join (w a) (flat w l) c d p.0 ih.0), ap suc ih.1, and-join p.1 ih.2)

  repeat-by :
      {A : Type 0} (r : Reader A) (w : A → List B) (ok : A → Bool) → Says r (λ v cs. Sp (w v) cs × (ok v ≡ true)) → (n : ℕ)
      → Says (repeat n r) (λ l cs. Sp (flat w l) cs × (length l ≡ n) × (all ok l ≡ true))
  unfolding repeat
  repeat-by r w ok h n =
      weaker _ (λ l cs q. let k = run_by w ok _ (replicate n (tt {0})) (tt {0}) l cs q in (k.0, k.1 ∙ length-replicate n tt, k.2))
      (times-says _ (λ s a cs. Sp (w a) cs × (ok a ≡ true)) (λ s. h) n (tt {0}))

pub repeat-spelt :
    {A : Type 0} (r : Reader A) (w : A → List Piece) (ok : A → Bool) → KeptSpelt r w ok → (n : ℕ) → Says (repeat n r) (λ l cs. Spelt (flat w l) cs × (length l ≡ n) × (all ok l ≡ true))
repeat-spelt = repeat-by Spelt spelt-none spelt-joins

module _ {A : Type 0} (r : Reader A) (w : A → List ℕ) (ok : A → Bool) where
  pub repeat-kept : Kept r w ok → (n : ℕ) → Says (repeat n r) (λ l cs. (flat w l ≡ cs) × (length l ≡ n) × (all ok l ≡ true))
  repeat-kept = repeat-by (λ ps cs. ps ≡ cs) refl (λ ps qs cs ds p q. rw (p, q)) r w ok

  pub repeat-taken : Taken r w ok → (n : ℕ) (l : List A) → length l ≡ n → all ok l ≡ true → Takes (repeat n r) (flat w l) l
  unfolding repeat
  repeat-taken h n l e k =
      takes-as (written-flat w (λ u a. u) (tt {0}) l)
      (times-takes (λ (u : Unit {0}). r) (λ u a. u) (λ u. w) n tt l e (map₁ (λ u a. ok a ≡ true) (λ u a. Takes r (w a) a) (λ u a. u) (λ u a. h a) tt l (all_split ok (λ u a. u) tt l k)))

-- ── elements ──

module _ (w x : ℕ) (pow : 256 ^ w ≡ 256 * x) where
  pub unsigned_signed : (n : ℕ) → n < 256 ^ w → unsigned w (signed w n) ≡ n
  unfolding unsigned signed when◌then◌else◌
  unsigned_signed n h = go (ltb n (256 ^ w / 2))
    where
      go : (b : Bool) → unsigned w (when b then pos n else negsuc (256 ^ w - 1 - n)) ≡ n
      go true = refl
      go false = omega arith

  signed-kept : (n : ℕ) → n < 256 ^ w → signed? w (signed w n) ≡ true
  unfolding signed? signed when◌then◌else◌
  signed-kept n h = go (ltb n (256 ^ w / 2)) refl
    where
      go : (b : Bool) → ltb n (256 ^ w / 2) ≡ b → signed? w (when b then pos n else negsuc (256 ^ w - 1 - n)) ≡ true
      go true t = t
      go false t = let ge = ltb-false n (256 ^ w / 2) t in lt-ltb (256 ^ w - 1 - n) (256 ^ w / 2) (omega arith)

  unsigned_small : (v : ℤ) → signed? w v ≡ true → unsigned w v < 256 ^ w
  unfolding signed? unsigned
  unsigned_small (pos n) h = omega (arith, ltb-true n (256 ^ w / 2) h)
  unsigned_small (negsuc n) h = omega (arith, ltb-true n (256 ^ w / 2) h)

  signed-unsigned : (v : ℤ) → signed? w v ≡ true → signed w (unsigned w v) ≡ v
  unfolding signed? unsigned signed when◌then◌else◌
  signed-unsigned (pos n) h = rw h
  signed-unsigned (negsuc n) h =
      let lt = ltb-true n (256 ^ w / 2) h in
      rw (le-ltb (256 ^ w - 1 - n) (256 ^ w / 2) (omega arith)) (ap negsuc (omega arith))

pub pow_more : (w : ℕ) → 0 < w → 256 ^ w ≡ 256 * 256 ^ (w - 1)
pow_more zero h = absurd (omega arith)
pow_more (suc w) h = pow-succ' 256 w ∙ ap (λ (z : ℕ). 256 * 256 ^ z) (omega arith)

pub two-pow : (k : ℕ) → 0 < 2 ^ k
two-pow k = one-le-pow k 2 (omega arith)

pub whole-kept : (k : ℕ) → KeptSpelt (whole_of k) (whole_pieces k) (whole? k)
unfolding whole_of whole_pieces whole? when◌then◌else◌
whole-kept k =
    if-says (ltb k 4)
    (λ t. bind-says _ (fixed-says (2 ^ k)) λ n cs p. give-says (signed (2 ^ k) n) _
    (rw t (let q = pow_more (2 ^ k) (two-pow k) in (rw (unsigned_signed (2 ^ k) _ q n p.1, append-nil, ← p.0) (firm-spelt _), signed-kept (2 ^ k) _ q n p.1))))
    (λ t. bind-says _ v64-says λ n cs p. give-says (signed 8 n) _
    (rw t ((rw (unsigned_signed 8 (256 ^ 7) refl n p.1, append-nil) p.0, signed-kept 8 (256 ^ 7) refl n p.1))))

pub whole-taken : (k : ℕ) → ReadSpelt (whole_of k) (whole_pieces k) (whole? k)
unfolding whole_of whole_pieces whole? when◌then◌else◌
whole-taken k v = go (ltb k 4) refl
  where
    go :
        (b : Bool) → ltb k 4 ≡ b → signed? (when b then 2 ^ k else 8) v ≡ true
        → Reads (when b then (fixed (2 ^ k) >>= λ n. give (signed (2 ^ k) n)) else (v64 >>= λ n. give (signed 8 n)))
        (when b then firm (put_fixed (2 ^ k) (unsigned (2 ^ k) v)) else free (unsigned 8 v)) v
    go true t h =
        let q = pow_more (2 ^ k) (two-pow k) in
        reads-is (signed-unsigned (2 ^ k) (256 ^ (2 ^ k - 1)) q v h)
        (bind-reads _ (firm-reads (fixed-takes (2 ^ k) (unsigned (2 ^ k) v) (unsigned_small (2 ^ k) (256 ^ (2 ^ k - 1)) q v h))) (give-reads (signed (2 ^ k) (unsigned (2 ^ k) v))))
    go false t h =
        reads-is (signed-unsigned 8 (256 ^ 7) refl v h)
        (bind-reads _ (v64-reads (unsigned 8 v) (unsigned_small 8 (256 ^ 7) refl v h)) (give-reads (signed 8 (unsigned 8 v))))

flag-put : (k b : ℕ) → (eqb b 0 || eqb b 255) ≡ true → element_pieces k (flag (eqb b 255)) ≡ firm (b ∷ [])
unfolding element_pieces
flag-put k b h = go (eqb b 255) refl (eqb b 0) refl h
  where
    go : (x : Bool) → eqb b 255 ≡ x → (y : Bool) → eqb b 0 ≡ y → (y || x) ≡ true → element_pieces k (flag x) ≡ firm (b ∷ [])
    go true e y e' t = ap (λ (z : ℕ). firm (z ∷ [])) (sym (eqb-true b 255 e))
    go false e true e' t = ap (λ (z : ℕ). firm (z ∷ [])) (sym (eqb-true b 0 e'))
    go false e false e' t = not_so t

two-says : Says two_numbers (λ p cs. Spelt (free p.0 ++ free p.1) cs × ((p.0 < 256 ^ 8) × (p.1 < 256 ^ 8)))
unfolding two_numbers
two-says = bind-says _ v64-says λ m cs p. bind-says _ v64-says λ n ds q. give-says (m, n) _ (spelt-join (free m) (free n) p.0 (spelt-end (free n) q.0), (p.1, q.1))

two-takes : (m n : ℕ) → m < 256 ^ 8 → n < 256 ^ 8 → Reads two_numbers (free m ++ free n) (m, n)
unfolding two_numbers
two-takes m n h k = bind-reads _ (v64-reads m h) (bind-reads _ (v64-reads n k) (give-reads (m, n)))

element-kept : (s : State) (k : ℕ) → KeptSpelt (element s k) (element_pieces k) (element? s k)
unfolding element element_pieces element? bool_rules annotation_rules
element-kept s k =
    if-says _
    (λ t. bind-says _ (must-says _ two-says) λ p cs q. give-says (annotation p.0 p.1) _
    (rw append-nil q.0.0, rw (t, lt-ltb _ _ q.0.1.0, lt-ltb _ _ q.0.1.1) q.1.0))
    λ t₀. if-says _
    (λ t. bind-says _ (must-says _ byte-says) λ b cs p. give-says (flag (eqb b 255)) _ (rw (flag-put k b p.1.0, append-nil, p.0.0) (firm-spelt (b ∷ [])), t))
    λ t₁. if-says _ (λ t₂. bind-says _ (whole-kept (k - 7)) λ v cs p. give-says (whole v) _ (rw append-nil p.0, rw (t₀, t₁, t₂) p.1))
    λ t₂. if-says _
    (λ t₃. bind-says _ (fixed-says (4 * (k - 11))) λ n cs p. give-says (float (4 * (k - 11)) n) _
    (rw (append-nil, ← p.0) (firm-spelt _), rw (t₂, t₃, eq-eqb (4 * (k - 11)) (4 * (k - 11)) refl) (lt-ltb n _ p.1)))
    λ t₃. bind-says _ (number-kept (link_rules s k)) λ n cs p. give-says (link n) _ (rw append-nil p.0, rw t₃ p.1)

le-both : (k : ℕ) → eqb k 6 ≡ true → leb k 11 ≡ true
le-both k h = le-leb k 11 (omega (arith, eqb-true k 6 h))

not-5 : (k : ℕ) → 5 < k → eqb k 5 ≡ false
not-5 k h = borrow.Author.Tests.ne_eqb k 5 (λ e. omega arith)

not-6 : (k : ℕ) → 11 < k → eqb k 6 ≡ false
not-6 k h = borrow.Author.Tests.ne_eqb k 6 (λ e. omega arith)

element-taken : (s : State) (k : ℕ) → ReadSpelt (element s k) (element_pieces k) (element? s k)
unfolding element element_pieces element? bool_rules annotation_rules
element-taken s k (flag true) h =
    if-reads-false _ (not-5 k (omega (arith, eqb-true k 6 h))) (if-reads-true _ h (bind-reads _ (must-reads _ (refl, tt) (firm-reads (byte-takes 255 (omega arith)))) (give-reads (flag true))))
element-taken s k (flag false) h =
    if-reads-false _ (not-5 k (omega (arith, eqb-true k 6 h))) (if-reads-true _ h (bind-reads _ (must-reads _ (refl, tt) (firm-reads (byte-takes 0 (omega arith)))) (give-reads (flag false))))
element-taken s k (whole v) h =
    let (h₀, h') = and_split (not (eqb k 5)) _ h in
    let (h₁, h₂) = and_split _ (whole? (k - 7) v) h' in
    let (h₃, h₄) = and_split _ (leb k 11) h₁ in
    if-reads-false _ (not-true _ h₀) (if-reads-false _ (not-true _ h₃) (if-reads-true _ h₄ (reads_as (append-nil _) (bind-reads _ (whole-taken (k - 7) v h₂) (give-reads (whole v))))))
element-taken s k (float w n) h =
    let (h₁, lt) = and_split _ (ltb n (256 ^ w)) h in
    let (h₂, e) = and_split _ (eqb w (4 * (k - 11))) h₁ in
    let (h₃, h₄) = and_split _ (leb k 13) h₂ in
    let big = leb-false k 11 (not-true _ h₃) in
    rw (eqb-true w (4 * (k - 11)) e)
    (if-reads-false _ (not-5 k (omega arith)) (if-reads-false _ (not-6 k big) (if-reads-false _ (not-true _ h₃) (if-reads-true _ h₄
    (reads_as (append-nil _) (bind-reads _ (firm-reads (fixed-takes (4 * (k - 11)) n (rw (eqb-true w (4 * (k - 11)) e) at (ltb-true n (256 ^ w) lt)))) (give-reads (float (4 * (k - 11)) n))))))))
element-taken s k (link n) h =
    let (h₁, h₂) = and_split _ (number? (link_rules s k) n) h in
    let big = leb-false k 13 (not-true _ h₁) in
    if-reads-false _ (not-5 k (omega arith)) (if-reads-false _ (not-6 k (omega arith)) (if-reads-false _ (lt-leb k 11 (omega arith)) (if-reads-false _ (not-true _ h₁)
    (reads_as (append-nil _) (bind-reads _ (number-taken (link_rules s k) n h₂) (give-reads (link n)))))))
element-taken s k (annotation m n) h =
    let (h₁, h₂) = and_split (eqb k 5) _ h in
    let (a, h₃) = and_split (ltb m (256 ^ 8)) _ h₂ in
    let (b, c) = and_split (ltb n (256 ^ 8)) _ h₃ in
    if-reads-true _ h₁ (reads_as (append-nil _) (bind-reads _ (must-reads _ (c, tt) (two-takes m n (ltb-true m _ a) (ltb-true n _ b))) (give-reads (annotation m n))))
element-taken s k (keys n) h = not_so h

-- ── maps ──

refuse-says : {A : Type 0} (n : ℕ) (P : A → List ℕ → Type 0) → Says (refuse n) P
unfolding refuse
refuse-says n P = record { at = λ f at v e b h q. not-got q }

size-kept : Says small (λ n cs. Spelt (size_pieces (keys n)) cs × (sized? (keys n) ≡ true))
unfolding small size_pieces sized? size_of size?
size-kept = number-kept small_rules

size-taken : (n : ℕ) → sized? (keys n) ≡ true → Reads small (size_pieces (keys n)) n
unfolding small size_pieces sized? size_of size?
size-taken n h = number-taken small_rules n h

pub fit-size : (e : Element) → size? e ≡ true → e ≡ keys (size_of e)
unfolding size_of size?
fit-size (flag b) h = not_so h
fit-size (whole v) h = not_so h
fit-size (float w n) h = not_so h
fit-size (link n) h = not_so h
fit-size (annotation m n) h = not_so h
fit-size (keys n) h = refl

pub sized-size : (e : Element) → sized? e ≡ true → e ≡ keys (size_of e)
unfolding sized?
sized-size e h = fit-size e (and_split (size? e) _ h).0

-- ── values ──

no_length : {A : Type 0} (l : List A) → length l ≡ 0 → l ≡ []
no_length [] h = refl
no_length (a ∷ l) h = absurd (omega arith)

value-kept : (s : State) (k : Kind) → KeptSpelt (value s k) (value_pieces k) (value? s k)
unfolding value value_pieces value? small
value-kept s (constant k v) = give-says [] _ (spelt-none, refl)
value-kept s (plain k) = weaker _ (λ l cs p. (p.0, and-join (eq-eqb _ 1 p.1) p.2)) (repeat-spelt _ (element_pieces k) (element? s k) (element-kept s k) 1)
value-kept s (array n k) = weaker _ (λ l cs p. (p.0, and-join (eq-eqb _ n p.1) p.2)) (repeat-spelt _ (element_pieces k) (element? s k) (element-kept s k) n)
value-kept s (many c k) =
    bind-says _ (number-kept small_rules) λ n cs p.
    weaker _ (λ l ds q. rw q.1 (spelt-join (free n) _ p.0 q.0, and-join p.1 q.2)) (repeat-spelt _ (element_pieces k) (element? s k) (element-kept s k) n)
value-kept s (mapping ks) =
    weaker _ (λ es cs p. stand-alone Spelt spelt-none spelt-joins element_pieces size_pieces (element? s) sized? p)
    (map-says Spelt spelt-none spelt-joins element_pieces size_pieces (element? s) sized? (refuse-says 10) size-kept (element-kept s) ks)

value_taken : (s : State) (k : Kind) → ReadSpelt (value s k) (value_pieces k) (value? s k)
unfolding value value_pieces value? small
value_taken s (constant k v) es h = reads-is (sym (no_length es (eqb-true _ 0 h))) (give-reads [])
value_taken s (plain k) es h =
    let (e, a) = and_split _ (all (element? s k) es) h in
    repeat-reads _ (element_pieces k) (element? s k) (element-taken s k) 1 es (eqb-true _ 1 e) a
value_taken s (array n k) es h =
    let (e, a) = and_split _ (all (element? s k) es) h in
    repeat-reads _ (element_pieces k) (element? s k) (element-taken s k) n es (eqb-true _ n e) a
value_taken s (many c k) es h =
    let (e, a) = and_split _ (all (element? s k) es) h in
    bind-reads _ (number-taken small_rules (length es) e) (repeat-reads _ (element_pieces k) (element? s k) (element-taken s k) (length es) es refl a)
value_taken s (mapping ks) es h =
    map-before element_pieces size_pieces (element? s) sized? (λ A r ps v. Reads r ps v) (λ ps. Unit {0}) (λ A a. give-reads a) (λ A C r k ps qs a b R K st. bind-reads k R K) tt (λ ps qs x y. tt) (refuse 10)
    size-taken (element-taken s) sized-size (λ k e. tt) (λ e. tt) ks es h

-- ── chunks ──

-- a part is as long as it should be
pub part-size : {A : Type 0} (n : ℕ) (r : Reader A) → Says (part n r) (λ v cs. length cs ≡ n)
part-size {A} n r = record { at = go }
  where
    go : (f : List ℕ) (at : ℕ) (v : A) (e : ℕ) → Bytes f → at ≤ length f → part n r f at ≡ got v e → Said (λ v cs. length cs ≡ n) f at v e
    go f at v e b h q =
        let P = part-inv n r f at v e q in
        let room = P.room in
        let ends = P.ends in
        record { forward = omega arith; inside = omega arith; said = rw (length-take, length-drop) (omega arith) }

pub chunk_kept : (s : State) (d : Due × ℕ) → Says (chunk s d) (λ c cs. (Spelt (chunk_pieces s d.0 c) cs × (chunk? s d.0 c ≡ true)) × (length cs ≡ d.1))
unfolding chunk chunk_pieces chunk?
chunk_kept s d =
    both_say
    (part_says d.1
    (weaker _ (λ l cs p. (p.0, and-join (eq-eqb _ _ p.1) p.2)) (repeat-spelt _ (value_pieces (field_at s d.0.field).kind) (value? s (field_at s d.0.field).kind) (value-kept s (field_at s d.0.field).kind) d.0.values)))
    (part-size d.1 _)

pub chunk-taken : (s : State) (d : Due × ℕ) (c : Chunk) (cs : List ℕ) → Spelt (chunk_pieces s d.0 c) cs → length cs ≡ d.1 → chunk? s d.0 c ≡ true → Takes (chunk s d) cs c
unfolding chunk chunk_pieces chunk?
chunk-taken s d c cs t n h =
    let (e, a) = and_split _ (all (value? s (field_at s d.0.field).kind) c) h in
    part-takes d.1 n ((repeat-reads _ (value_pieces (field_at s d.0.field).kind) (value? s (field_at s d.0.field).kind) (value_taken s (field_at s d.0.field).kind) d.0.values c (eqb-true _ _ e) a).at cs t)

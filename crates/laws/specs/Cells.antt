-- A kind and a value's elements in the listing, both ways. Assumes nothing.
use Rattle.std.specs.Prelude.{◌≡◌, refl, Bool, true, false, ◌&&◌, ◌||◌, not, List, [], ◌∷◌, ◌++◌, map, ℕ, zero, suc, ◌-◌, ◌*◌, ◌/◌, ◌^◌, ◌≤◌, ◌<◌, leb, ltb, eqb, length, ℤ, pos, negsuc}
use Rattle.std.proofs.Common.{sym, ap, append_assoc, append-nil, arith, leb-true, leb-false, le-leb, eqb-true, ne_eqb, ltb-true, lt-ltb}
use Rattle.std.proofs.Math.Nat.{pow-le-pow_right, pow-succ'}
use Rattle.std.proofs.lemmas.Bool.{lt-leb, not-true}
use Rattle.paper.specs.Reader.{when◌then◌else◌, ◌>>◌, give, repeat}
use Rattle.paper.specs.Lists.{all, flat}
use Rattle.paper.specs.Ledger.{annotation, keys, mapping, Kind, constant, plain, array, many, Element, flag, whole, float, link, State}
use Rattle.paper.specs.Rules.{types_rules, small_rules, single_kind?, element_kind?, element_kind_rules, any_type, link_rules}
use Rattle.paper.specs.Listing.{tab, comma, decimal, joined, kind_word, element_word}
use Rattle.paper.specs.Keeps.{number?, signed?, whole?, kind_kept?, element?}
use Rattle.paper.specs.Scan.{bad, byte_is, natural, read_kind, read_flag, read_element}
use Rattle.laws.specs.Says.{Says, weaker, give-says, bind-says, then-says, if-says}
use Rattle.laws.specs.Takes.{give-takes}
use Rattle.laws.specs.Bools.{not_so, and_split, number-split}
use Rattle.laws.specs.Values.{repeat-kept}
use Rattle.laws.specs.Digits.{decimal-low}
use Rattle.laws.specs.Before.{repeat-before, byte_is-says, byte_is-takes, bad-says, word-says, word-takes, peek-says, TakesBefore, Stops, takes-before, before-as, bind-before, then-before, turn-before, if-before-true, if-before-false, peek-before-yes, peek-before-no}
use Rattle.laws.specs.Words.{natural-says, natural-before, integer-says, integer-before}
use Rattle.laws.specs.Hexes.{hex_on-says, hex_on-takes}

-- ── kinds ──

-- words, each behind a comma
unfoldable pub commas : {A : Type 0} → (A → List ℕ) → List A → List ℕ
commas w = flat (λ a. comma ∷ w a)

pub joined-commas : {A : Type 0} (w : A → List ℕ) (v : List ℕ) (l : List A) → joined (v ∷ map w l) ≡ v ++ commas w l
unfolding joined commas flat
joined-commas w v [] = sym (append-nil v)
joined-commas w v (a ∷ l) = ap (λ (z : List ℕ). v ++ comma ∷ z) (joined-commas w (w a) l)

kinds-says : (n : ℕ) → Says (repeat n (byte_is comma >> natural)) (λ ks cs. (commas decimal ks ≡ cs) × (length ks ≡ n))
unfolding commas
kinds-says n =
    weaker _ (λ ks cs p. (p.0, p.1))
    (repeat-kept (byte_is comma >> natural) (λ k. comma ∷ decimal k) (λ k. true)
    (then-says _ (byte_is-says comma (omega arith)) λ u cs p. weaker _ (λ k ds q. (rw (← p, q), refl)) natural-says) n)

pub kind-says : Says read_kind (λ k cs. kind_word k ≡ cs)
unfolding read_kind kind_word joined
kind-says =
    bind-says _ natural-says λ k cs p. if-says _
    (λ t. then-says _ (byte_is-says comma (omega arith)) λ u ds q. bind-says _ integer-says λ v es r. give-says (constant k v) _ (rw (p, ← q, r, append-nil)))
    λ t₁. if-says _
    (λ t. then-says _ (byte_is-says comma (omega arith)) λ u ds q. bind-says _ (word-says decimal comma (omega arith) natural-says) λ n es r. bind-says _ natural-says λ e gs w.
    give-says (array n e) (λ z hs. kind_word z ≡ cs ++ (ds ++ (es ++ (gs ++ hs)))) (rw (← eqb-true k 15 t, p, ← q, ← r, w) (simp (append_assoc, append-nil))))
    λ t₂. if-says _
    (λ t. then-says _ (byte_is-says comma (omega arith)) λ u ds q. bind-says _ natural-says λ e es r. give-says (many k e) _ (rw (p, ← q, r, append-nil)))
    λ t₃. if-says _
    (λ t. then-says _ (byte_is-says comma (omega arith)) λ u ds q. bind-says _ natural-says λ n es r. bind-says _ (kinds-says n) λ ks gs w.
    give-says (mapping ks) (λ z hs. kind_word z ≡ cs ++ (ds ++ (es ++ (gs ++ hs))))
    (rw (joined-commas decimal (decimal (length ks)) ks, w.1, ← eqb-true k 20 t, p, ← q, r, w.0) (simp (append_assoc, append-nil))))
    λ t₄. give-says (plain k) _ (rw append-nil p)

-- a kind that stands alone is told from the others by its number
record Alone (k : ℕ) : Type 0 where
  low : leb k 4 ≡ false
  fixed : eqb k 15 ≡ false
  listed : (leb 17 k && leb k 19) ≡ false
  single : eqb k 20 ≡ false

alone : (k : ℕ) → element_kind? k ≡ true → Alone k
unfolding element_kind? single_kind?
alone k h = by (eqb k 5) refl h
  where
    far : 32 ≤ k → Alone k
    far ge = record { low = lt-leb k 4 (omega arith); fixed = ne_eqb k 15 (λ e. omega arith); listed = rw (le-leb 17 k (omega arith), lt-leb k 19 (omega arith)); single = ne_eqb k 20 (λ e. omega arith) }

    go : (a : Bool) → leb 6 k ≡ a → (b : Bool) → leb k 14 ≡ b → (c : Bool) → leb 32 k ≡ c → (a && b || c) ≡ true → Alone k
    go true a true b c c' h =
        let ge = leb-true 6 k a in
        let le = leb-true k 14 b in
        record { low = lt-leb k 4 (omega arith); fixed = ne_eqb k 15 (λ e. omega arith); listed = rw (lt-leb 17 k (omega arith)); single = ne_eqb k 20 (λ e. omega arith) }
    go true a false b true c h = far (leb-true 32 k c)
    go true a false b false c h = not_so h
    go false a b b' true c h = far (leb-true 32 k c)
    go false a b b' false c h = not_so h

    by : (x : Bool) → eqb k 5 ≡ x → (x || (leb 6 k && leb k 14 || leb 32 k)) ≡ true → Alone k
    by true t h = let is = eqb-true k 5 t in rw is (record { low = refl; fixed = refl; listed = refl; single = refl })
    by false t h = go (leb 6 k) refl (leb k 14) refl (leb 32 k) refl h

less : (w n : ℕ) → w ≤ 8 → ltb n (256 ^ w / 2) ≡ true → ltb n (256 ^ 8 / 2) ≡ true
less w n le h =
    let p = pow-le-pow_right {n = 256} (omega arith) {i = w} {j = 8} le in
    lt-ltb n (256 ^ 8 / 2) (omega (arith, ltb-true n (256 ^ w / 2) h))

wider : (w : ℕ) → w ≤ 8 → (v : ℤ) → signed? w v ≡ true → signed? 8 v ≡ true
unfolding signed?
wider w le (pos n) h = less w n le h
wider w le (negsuc n) h = less w n le h

-- a number of fewer bytes is one of eight
pub whole-64 : (k : ℕ) (v : ℤ) → whole? k v ≡ true → signed? 8 v ≡ true
unfolding whole? when◌then◌else◌
whole-64 k v h = go (ltb k 4) refl h
  where
    go : (b : Bool) → ltb k 4 ≡ b → signed? (when b then 2 ^ k else 8) v ≡ true → signed? 8 v ≡ true
    go true t h =
        let lt = ltb-true k 4 t in
        wider (2 ^ k) (pow-le-pow_right {n = 2} (omega arith) {i = k} {j = 3} (omega arith)) v h
    go false t h = h

kinds-before : (ks : List ℕ) → all (number? (element_kind_rules any_type)) ks ≡ true → TakesBefore Stops (repeat (length ks) (byte_is comma >> natural)) (commas decimal ks) ks
unfolding commas
kinds-before ks b =
    repeat-before Stops (λ k. comma ∷ decimal k) (λ k rest. omega arith) (number? (element_kind_rules any_type))
    (λ k t. then-before (byte_is-takes comma (omega arith)) (natural-before k (number-split (element_kind_rules any_type) k t).0)) ks b

commas-stop : (ks rest : List ℕ) → Stops rest → Stops (commas decimal ks ++ rest)
unfolding commas flat
commas-stop [] rest s = s
commas-stop (k ∷ ks) rest s = omega arith

pub kind-before : (k : Kind) → kind_kept? k ≡ true → TakesBefore Stops read_kind (kind_word k) k
unfolding read_kind kind_word joined kind_kept? element_kind_rules
kind-before (constant k v) h =
    let (t, w) = and_split (leb k 4) (whole? k v) h in
    bind-before _ (natural-before k (omega (arith, leb-true k 4 t)))
    (if-before-true _ t (then-before (byte_is-takes comma (omega arith)) (turn-before (constant k) (integer-before v (whole-64 k v w))))) λ rest s. omega arith
kind-before (plain k) h =
    let (lt, r) = number-split (element_kind_rules any_type) k h in
    let A = alone k r.0 in
    before-as (append-nil (decimal k))
    (bind-before _ (natural-before k lt)
    (if-before-false _ A.low (if-before-false _ A.fixed (if-before-false _ A.listed (if-before-false _ A.single (takes-before Stops (give-takes (plain k))))))) λ rest s. s)
kind-before (array n k) h =
    let (a, b) = and_split (number? small_rules n) (number? (element_kind_rules any_type) k) h in
    before-as (simp append_assoc)
    (bind-before _ (natural-before 15 (omega arith))
    (if-before-false _ refl (if-before-true _ refl
    (then-before (byte_is-takes comma (omega arith))
    (bind-before _ (takes-before (λ rest. Unit {0}) (word-takes comma (omega arith) (natural-before n (number-split small_rules n a).0)))
    (turn-before (array n) (natural-before k (number-split (element_kind_rules any_type) k b).0)) λ rest s. tt)))) λ rest s. omega arith)
kind-before (many c k) h =
    let (a, b) = and_split (leb 17 c && leb c 19) (number? (element_kind_rules any_type) k) h in
    let (x, y) = and_split (leb 17 c) (leb c 19) a in
    let ge = leb-true 17 c x in
    let le = leb-true c 19 y in
    bind-before _ (natural-before c (omega arith))
    (if-before-false _ (lt-leb c 4 (omega arith)) (if-before-false _ (ne_eqb c 15 (λ e. omega arith)) (if-before-true _ a
    (then-before (byte_is-takes comma (omega arith)) (turn-before (many c) (natural-before k (number-split (element_kind_rules any_type) k b).0)))))) λ rest s. omega arith
kind-before (mapping ks) h =
    let (a, b) = and_split (number? types_rules (length ks)) (all (number? (element_kind_rules any_type)) ks) h in
    before-as (ap (λ (z : List ℕ). decimal 20 ++ comma ∷ z) (sym (joined-commas decimal (decimal (length ks)) ks)))
    (bind-before _ (natural-before 20 (omega arith))
    (if-before-false _ refl (if-before-false _ refl (if-before-false _ refl (if-before-true _ refl
    (then-before (byte_is-takes comma (omega arith))
    (bind-before _ (natural-before (length ks) (number-split types_rules (length ks) a).0) (turn-before mapping (kinds-before ks b)) (commas-stop ks))))))) λ rest s. omega arith)

-- ── elements ──

flag-says : Says read_flag (λ e cs. element_word e ≡ cs)
unfolding read_flag element_word give bad
flag-says =
    peek-says 48 (omega arith) _ (give-says (flag false) _ (decimal-low 0 (omega arith)))
    (peek-says 49 (omega arith) _ (give-says (flag true) _ (decimal-low 1 (omega arith))) (bad-says _))

pub element-says : (k : ℕ) → Says (read_element k) (λ e cs. element_word e ≡ cs)
unfolding read_element element_word
element-says k =
    if-says _
    (λ t. bind-says _ (word-says decimal tab (omega arith) natural-says) λ m cs p. bind-says _ natural-says λ n ds q. give-says (annotation m n) _
    (rw (append-nil, ← p, q) (simp append_assoc)))
    λ t₀. if-says _ (λ t. flag-says)
    λ t₁. if-says _ (λ t. bind-says _ integer-says λ v cs p. give-says (whole v) _ (rw append-nil p))
    λ t₂. if-says _ (λ t. bind-says _ (hex_on-says (2 * (4 * (k - 11)))) λ n cs p. give-says (float (4 * (k - 11)) n) _ (rw append-nil p))
    λ t₃. bind-says _ natural-says λ n cs p. give-says (link n) _ (rw append-nil p)

pow-256 : (w : ℕ) → 256 ^ w ≡ 16 ^ (2 * w)
pow-256 zero = refl
pow-256 (suc w) =
    let e : 2 * suc w ≡ suc (suc (2 * w)) = omega arith in
    rw (e, pow-succ' 256 w, pow-succ' 16 (suc (2 * w)), pow-succ' 16 (2 * w), pow-256 w) (omega arith)

flag-before : (b : Bool) → TakesBefore Stops read_flag (element_word (flag b)) (flag b)
unfolding read_flag element_word give bad
flag-before true =
    before-as (sym (decimal-low 1 (omega arith)))
    (peek-before-no 48 (give (flag false)) (λ rest s z. omega arith) (peek-before-yes 49 (omega arith) bad (takes-before Stops (give-takes (flag true)))))
flag-before false = before-as (sym (decimal-low 0 (omega arith))) (peek-before-yes 48 (omega arith) _ (takes-before Stops (give-takes (flag false))))

pub element-before : (s : State) (k : ℕ) (e : Element) → element? s k e ≡ true → TakesBefore Stops (read_element k) (element_word e) e
unfolding read_element element_word element?
element-before s k (flag b) h = if-before-false _ (ne_eqb k 5 (λ e. omega (arith, eqb-true k 6 h))) (if-before-true _ h (flag-before b))
element-before s k (whole v) h =
    let (h₀, h') = and_split (not (eqb k 5)) _ h in
    let (h₁, h₂) = and_split _ (whole? (k - 7) v) h' in
    let (h₃, h₄) = and_split _ (leb k 11) h₁ in
    if-before-false _ (not-true _ h₀) (if-before-false _ (not-true _ h₃) (if-before-true _ h₄ (turn-before whole (integer-before v (whole-64 (k - 7) v h₂)))))
element-before s k (float w n) h =
    let (h₁, lt) = and_split _ (ltb n (256 ^ w)) h in
    let (h₂, e) = and_split _ (eqb w (4 * (k - 11))) h₁ in
    let (h₃, h₄) = and_split _ (leb k 13) h₂ in
    let big = leb-false k 11 (not-true _ h₃) in
    let q = eqb-true w (4 * (k - 11)) e in
    let small : n < 16 ^ (2 * (4 * (k - 11))) = rw (pow-256 w, q) at (ltb-true n (256 ^ w) lt) in
    rw q
    (if-before-false _ (ne_eqb k 5 (λ e. omega arith)) (if-before-false _ (ne_eqb k 6 (λ e. omega arith)) (if-before-false _ (not-true _ h₃) (if-before-true _ h₄
    (turn-before (float (4 * (k - 11))) (takes-before Stops (hex_on-takes (2 * (4 * (k - 11))) n small)))))))
element-before s k (link n) h =
    let (h₁, h₂) = and_split _ (number? (link_rules s k) n) h in
    let big = leb-false k 13 (not-true _ h₁) in
    if-before-false _ (ne_eqb k 5 (λ e. omega arith)) (if-before-false _ (ne_eqb k 6 (λ e. omega arith)) (if-before-false _ (lt-leb k 11 (omega arith)) (if-before-false _ (not-true _ h₁)
    (turn-before link (natural-before n (number-split (link_rules s k) n h₂).0)))))
element-before s k (annotation m n) h =
    let (h₁, h₂) = and_split (eqb k 5) _ h in
    let (a, h₃) = and_split (ltb m (256 ^ 8)) _ h₂ in
    let (b, c) = and_split (ltb n (256 ^ 8)) _ h₃ in
    if-before-true _ h₁
    (before-as (append_assoc (decimal m) (tab ∷ []) (decimal n))
    (bind-before _ (takes-before (λ rest. Unit {0}) (word-takes tab (omega arith) (natural-before m (ltb-true m _ a)))) (turn-before (annotation m) (natural-before n (ltb-true n _ b))) λ rest s. tt))
element-before s k (keys n) h = not_so h

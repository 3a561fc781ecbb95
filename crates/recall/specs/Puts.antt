-- Ranges put down by their types, each behind those of its type that are there. Assumes nothing.
use Rattle.std.specs.Prelude.{◌≡◌, Bool, true, false, ◌&&◌, ◌||◌, ◌⊎◌, List, [], ◌∷◌, ◌++◌, ℕ, suc, ◌+◌, ◌≤◌, ◌<◌, leb, length, get_or, set}
use Rattle.std.proofs.Math.Path.{refl}
use Rattle.std.proofs.Common.{sym, ap, ap₂, ◌∙◌, inl, inr, arith, lt_of_not-le, get_or-set_same, get_or-set_other, eq-eqb, ne_eqb}
use Rattle.std.proofs.Math.Decide.{dec_le}
use native.Nat.{ℕᴺ_discrete}
use Rattle.paper.specs.Reader.{when◌then◌else◌}
use Rattle.paper.specs.Lists.{any, total}
use Rattle.paper.specs.Ledger.{Range, of?, holds?}
use Rattle.lookups.specs.Low.{count_of}
use Rattle.reader.specs.Counting.{total-snoc}
use Rattle.recall.specs.Lying.{lies_in, or-false, lies_same, lies_more}

-- ── one range ──

-- where the next range of its type has a place in both lists it is put there, and that place moves on by one
pub record PutOn (typ begin end : ℕ) (places first last places' first' last' : List ℕ) : Type 0 where
  pub places-long : length places' ≡ length places
  pub first-long : length first' ≡ length first
  pub last-long : length last' ≡ length last
  pub ends : (t : ℕ) → get_or places t 0 ≤ length first → get_or places' t 0 ≤ length first
  pub done :
      typ < length places → get_or places typ 0 < length first → get_or places typ 0 < length last
      → (places' ≡ set places typ (get_or places typ 0 + 1)) × (first' ≡ set first (get_or places typ 0) begin) × (last' ≡ set last (get_or places typ 0) end)
  pub left : length first ≤ get_or places typ 0 → (places' ≡ places) × (first' ≡ first) × (last' ≡ last)

-- ── the ranges of all types ──

-- a type has room for 32 ranges from its place on
pub record Room (places first last : List ℕ) (t : ℕ) : Type 0 where
  pub in-first : get_or places t 0 + 32 ≤ length first
  pub in-last : get_or places t 0 + 32 ≤ length last

-- or its place is outside of the lists; and the rooms lie apart
pub record Planned (places first last : List ℕ) : Type 0 where
  pub long : length places ≡ 32
  pub asked : (t : ℕ) → t < 32 → Room places first last t ⊎ (length first ≤ get_or places t 0)
  pub apart : (t u : ℕ) → t < u → u < 32 → Room places first last t → Room places first last u → get_or places t 0 + 32 ≤ get_or places u 0

-- of one type: so many places are used, the ranges there are those of the log, and the other places are as they were
pub record Own (places₀ first₀ last₀ : List ℕ) (log : List Range) (places first last : List ℕ) (t : ℕ) : Type 0 where
  pub used : ℕ
  pub place : get_or places t 0 ≡ get_or places₀ t 0 + used
  pub few : used ≤ count_of t log
  pub short : used ≤ 32
  pub lies : (n : ℕ) → lies_in first last (get_or places₀ t 0) used n ≡ any (holds? t n) log
  pub rest-first : (j : ℕ) → get_or places₀ t 0 + used ≤ j → j < get_or places₀ t 0 + 32 → get_or first j 0 ≡ get_or first₀ j 0
  pub rest-last : (j : ℕ) → get_or places₀ t 0 + used ≤ j → j < get_or places₀ t 0 + 32 → get_or last j 0 ≡ get_or last₀ j 0

pub record Gathering (places₀ first₀ last₀ : List ℕ) (log : List Range) (places first last : List ℕ) : Type 0 where
  pub places-long : length places ≡ length places₀
  pub first-long : length first ≡ length first₀
  pub last-long : length last ≡ length last₀
  pub out : (t : ℕ) → length first₀ ≤ get_or places₀ t 0 → get_or places t 0 ≡ get_or places₀ t 0
  pub own : (t : ℕ) → t < 32 → Room places₀ first₀ last₀ t → Own places₀ first₀ last₀ log places first last t

pub gathering-start : (places first last : List ℕ) → Gathering places first last [] places first last
unfolding lies_in any count_of total
gathering-start places first last =
    record {
      places-long = refl;
      first-long = refl;
      last-long = refl;
      out = λ t o. refl;
      own = λ t lt R. record { used = 0; place = omega arith; few = omega arith; short = omega arith; lies = λ n. refl; rest-first = λ j lo hi. refl; rest-last = λ j lo hi. refl };
    }

-- ── the log with one range more ──

any_snoc : {A : Type 0} (p : A → Bool) (xs : List A) (x : A) → any p (xs ++ x ∷ []) ≡ (any p xs || p x)
unfolding any
any_snoc p [] x = or-false (p x)
any_snoc p (y ∷ xs) x = go (any_snoc p xs x) (p y)
  where
    go : any p (xs ++ x ∷ []) ≡ (any p xs || p x) → (b : Bool) → (b || any p (xs ++ x ∷ [])) ≡ ((b || any p xs) || p x)
    go ih true = refl
    go ih false = ih

module _ (log : List Range) (r : Range) (t : ℕ) where
  count_same : r.type ≡ t → count_of t (log ++ r ∷ []) ≡ count_of t log + 1
  unfolding count_of of? total when◌then◌else◌
  count_same e = total-snoc (of? t) (λ x. 1) log r ∙ rw (eq-eqb r.type t e) refl

  count-other : (r.type ≡ t → ⊥) → count_of t (log ++ r ∷ []) ≡ count_of t log
  unfolding count_of of? total when◌then◌else◌
  count-other ne = total-snoc (of? t) (λ x. 1) log r ∙ rw (ne_eqb r.type t ne) (omega arith)

  holds_same : r.type ≡ t → (n : ℕ) → any (holds? t n) (log ++ r ∷ []) ≡ (any (holds? t n) log || (leb (r.first + 1) n && leb n (r.first + r.count)))
  unfolding holds? of?
  holds_same e n = any_snoc (holds? t n) log r ∙ rw (eq-eqb r.type t e) refl

  holds-other : (r.type ≡ t → ⊥) → (n : ℕ) → any (holds? t n) (log ++ r ∷ []) ≡ any (holds? t n) log
  unfolding holds? of?
  holds-other ne n = any_snoc (holds? t n) log r ∙ rw (ne_eqb r.type t ne) (or-false (any (holds? t n) log))

module _
    {places₀ first₀ last₀ : List ℕ} (P : Planned places₀ first₀ last₀) {log : List Range} {places first last : List ℕ} (G : Gathering places₀ first₀ last₀ log places first last)
    (r : Range) {typ : ℕ} (lt : typ < 32) (mine : r.type ≡ typ)
  where
    -- another type
    own-other :
        (t : ℕ) → t < 32 → (t ≡ typ → ⊥) → (R : Room places₀ first₀ last₀ t) {places' first' last' : List ℕ} → get_or places' t 0 ≡ get_or places t 0
        → ((j : ℕ) → get_or places₀ t 0 ≤ j → j < get_or places₀ t 0 + 32 → get_or first' j 0 ≡ get_or first j 0) → ((j : ℕ) → get_or places₀ t 0 ≤ j → j < get_or places₀ t 0 + 32 → get_or last' j 0 ≡ get_or last j 0)
        → Own places₀ first₀ last₀ (log ++ r ∷ []) places' first' last' t
    own-other t below ne R p F L =
        let O = G.own t below R in
        let other : r.type ≡ t → ⊥ = λ e. ne (sym e ∙ mine) in
        let short = O.short in
        record {
          used = O.used;
          place = p ∙ O.place;
          few = omega (arith, O.few, count-other log r t other);
          short = short;
          lies = λ n. lies_same O.used (get_or places₀ t 0) n (record { same = λ j lo hi. F j lo (omega arith) }) (record { same = λ j lo hi. L j lo (omega arith) }) ∙ O.lies n ∙ sym (holds-other log r t other n);
          rest-first = λ j lo hi. F j (omega arith) hi ∙ O.rest-first j lo hi;
          rest-last = λ j lo hi. L j (omega arith) hi ∙ O.rest-last j lo hi;
        }

    module _ {begin end : ℕ} {places' first' last' : List ℕ} (first-is : begin ≡ r.first) (last-is : end ≡ r.first + r.count) (fits : count_of typ (log ++ r ∷ []) ≤ 32) (D : PutOn typ begin end places first last places' first' last') where
      -- a type that is not asked for
      passed : length first₀ ≤ get_or places₀ typ 0 → Gathering places₀ first₀ last₀ (log ++ r ∷ []) places' first' last'
      passed away =
          let (p, f, l) = D.left (omega (arith, G.out typ away, G.first-long)) in
          record {
            places-long = D.places-long ∙ G.places-long;
            first-long = D.first-long ∙ G.first-long;
            last-long = D.last-long ∙ G.last-long;
            out = λ t o. ap (λ (x : List ℕ). get_or x t 0) p ∙ G.out t o;
            own = λ t below R.
                own-other t below (λ e. let is = ap (λ (i : ℕ). get_or places₀ i 0) e in omega (arith, R.in-first)) R
                (ap (λ (x : List ℕ). get_or x t 0) p) (λ j lo hi. ap (λ (x : List ℕ). get_or x j 0) f) (λ j lo hi. ap (λ (x : List ℕ). get_or x j 0) l);
          }

      module _ (R : Room places₀ first₀ last₀ typ) where
        abbrev O : Own places₀ first₀ last₀ log places first last typ
        O = G.own typ lt R

        room-left : O.used < 32
        room-left = omega (arith, O.few, count_same log r typ mine)

        abbrev at : ℕ
        at = get_or places₀ typ 0 + O.used

        put-there : (places' ≡ set places typ (at + 1)) × (first' ≡ set first at begin) × (last' ≡ set last at end)
        put-there =
            let left = room-left in
            let (p, f, l) = D.done (omega (arith, G.places-long, P.long)) (omega (arith, O.place, R.in-first, G.first-long)) (omega (arith, O.place, R.in-last, G.last-long)) in
            (p ∙ ap (λ (k : ℕ). set places typ (k + 1)) O.place, f ∙ ap (λ (k : ℕ). set first k begin) O.place, l ∙ ap (λ (k : ℕ). set last k end) O.place)

        own-more : Own places₀ first₀ last₀ (log ++ r ∷ []) places' first' last' typ
        own-more =
            let left = room-left in
            let (p, f, l) = put-there in
            let near : at < length first = omega (arith, R.in-first, G.first-long) in
            let near_last : at < length last = omega (arith, R.in-last, G.last-long) in
            record {
              used = suc O.used;
              place = ap (λ (x : List ℕ). get_or x typ 0) p ∙ get_or-set_same places typ (at + 1) 0 (omega (arith, G.places-long, P.long)) ∙ omega arith;
              few = omega (arith, O.few, count_same log r typ mine);
              short = omega arith;
              lies = λ n.
                  ap₂ (λ (x y : List ℕ). lies_in x y (get_or places₀ typ 0) (suc O.used) n) f l
                  ∙ lies_more first last (get_or places₀ typ 0) O.used begin end n near near_last
                  ∙ ap₂ (λ (x : Bool) (y : Bool). x || y) (O.lies n) (ap₂ (λ (x y : ℕ). leb (x + 1) n && leb n y) first-is last-is)
                  ∙ sym (holds_same log r typ mine n);
              rest-first = λ j lo hi. ap (λ (x : List ℕ). get_or x j 0) f ∙ get_or-set_other first at j begin 0 (λ e. omega arith) ∙ O.rest-first j (omega arith) hi;
              rest-last = λ j lo hi. ap (λ (x : List ℕ). get_or x j 0) l ∙ get_or-set_other last at j end 0 (λ e. omega arith) ∙ O.rest-last j (omega arith) hi;
            }

        -- it lies outside of the room of any other type
        outside : (t : ℕ) → t < 32 → (t ≡ typ → ⊥) → Room places₀ first₀ last₀ t → (j : ℕ) → get_or places₀ t 0 ≤ j → j < get_or places₀ t 0 + 32 → j ≡ at → ⊥
        outside t below ne S j lo hi e =
            let left = room-left in
            elim (dec_le t typ) [
              | yes d ↦ let le = P.apart t typ (omega arith) lt S R in omega arith
              | no d ↦ let le = P.apart typ t (lt_of_not-le d) below R S in omega arith
            ]

        taken : Gathering places₀ first₀ last₀ (log ++ r ∷ []) places' first' last'
        taken =
            let (p, f, l) = put-there in
            record {
              places-long = D.places-long ∙ G.places-long;
              first-long = D.first-long ∙ G.first-long;
              last-long = D.last-long ∙ G.last-long;
              out = λ t o.
                  ap (λ (x : List ℕ). get_or x t 0) p ∙ get_or-set_other places typ t (at + 1) 0 (λ e. let is = ap (λ (i : ℕ). get_or places₀ i 0) e in omega (arith, R.in-first)) ∙ G.out t o;
              own = λ t below S. either t below S (ℕᴺ_discrete t typ);
            }
          where
            either : (t : ℕ) → t < 32 → Room places₀ first₀ last₀ t → Dec (t ≡ typ) → Own places₀ first₀ last₀ (log ++ r ∷ []) places' first' last' t
            either t below S (yes e) = rw e own-more
            either t below S (no ne) =
                let (p, f, l) = put-there in
                own-other t below ne S
                (ap (λ (x : List ℕ). get_or x t 0) p ∙ get_or-set_other places typ t (at + 1) 0 ne)
                (λ j lo hi. ap (λ (x : List ℕ). get_or x j 0) f ∙ get_or-set_other first at j begin 0 (outside t below ne S j lo hi))
                (λ j lo hi. ap (λ (x : List ℕ). get_or x j 0) l ∙ get_or-set_other last at j end 0 (outside t below ne S j lo hi))

      pub gathering-on : Gathering places₀ first₀ last₀ (log ++ r ∷ []) places' first' last'
      gathering-on = elim (P.asked typ lt) [ inl R ↦ taken R | inr away ↦ passed away ]

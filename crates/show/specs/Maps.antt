-- Maps as text: their words stand in the order in which the elements are read. Once over the number of types. Assumes nothing.
use Rattle.std.specs.Prelude.{Err, Ok, ◌≡◌, refl, true, List, [], ◌∷◌, ◌++◌, map, ℕ, ◌+◌, ◌-◌, ◌*◌, ◌≤◌, ◌<◌, length, get_or, take, drop}
use Rattle.std.proofs.Common.{sym, ap, ◌∙◌, subst, append_assoc, arith, length-drop, take_at}
use Rattle.paper.specs.Reader.{when◌then◌else◌, Reader, got, ◌>>=◌, give, refuse, repeat}
use Rattle.paper.specs.Numbers.{put_fixed}
use Rattle.paper.specs.Lists.{flat, all}
use Rattle.paper.specs.Ledger.{Element, keys, State}
use Rattle.paper.specs.Maps.{key_and_rest, map_of}
use Rattle.paper.specs.Rules.{element_kind?}
use Rattle.paper.specs.File.{small, element, value}
use Rattle.paper.specs.Calls.{over_front}
use Rattle.paper.specs.Listing.{tab, decimal, element_word, print_chunk}
use Rattle.lay.specs.Laid.{Laid, laid_then, laid_as}
use Rattle.laws.specs.Laws.{not-got, bind_inv}
use Rattle.laws.specs.Bools.{and_split}
use Rattle.laws.specs.Codes.{fixed-length}
use Rattle.laws.specs.Lines.{tabs}
use Rattle.numbers.specs.Cursors.{Outcome, Read, was-got, was-refused}
use Rattle.numbers.specs.declared.Cursor.{Cursor}
use Rattle.numbers.specs.declared.Refusal.{Refusal}
use Rattle.table.specs.View.{kind_from}
use Rattle.values.specs.Maps.{rest_part}
use Rattle.values.specs.Chunks.{Kinds}
use Rattle.show.specs.Shown.{Shown, Shows, shows-none, shows-as, Parted, shows_then}
use Rattle.show.specs.Lines.{one-shows, ChunkShown}
use Rattle.show.specs.declared.Behind.{Behind}

-- ── what is lent ──

-- the kinds of a map of `least` types or more
pub record Keyed (least : ℕ) (ks : List ℕ) : Type 0 where
  pub long : least ≤ length ks
  pub listed : all element_kind? ks ≡ true

pub first-listed : {least : ℕ} {ks : List ℕ} → Keyed least ks → 1 ≤ least → element_kind? (get_or ks 0 0) ≡ true
unfolding all
first-listed {least} {ks} K h = go ks (omega (arith, K.long)) K.listed
  where
    go : (l : List ℕ) → 1 ≤ length l → all element_kind? l ≡ true → element_kind? (get_or l 0 0) ≡ true
    go [] h t = absurd (omega arith)
    go (k ∷ l) h t = (and_split (element_kind? k) (all element_kind? l) t).0

pub second-listed : {ks : List ℕ} → Keyed 2 ks → element_kind? (get_or ks 1 0) ≡ true
unfolding all
second-listed {ks} K = go ks K.long K.listed
  where
    go : (l : List ℕ) → 2 ≤ length l → all element_kind? l ≡ true → element_kind? (get_or l 1 0) ≡ true
    go [] h t = absurd (omega arith)
    go (k ∷ []) h t = absurd (omega arith)
    go (k ∷ m ∷ l) h t = (and_split (element_kind? m) (all element_kind? l) (and_split (element_kind? k) (all element_kind? (m ∷ l)) t).1).0

-- the other kinds, lent as a part
pub rest-keyed : {ks : List ℕ} → Keyed 2 ks → Keyed 1 (take (length ks - 1) (drop 1 ks))
unfolding all
rest-keyed {ks} K = rw (rest_part ks) (go ks K.long K.listed)
  where
    go : (l : List ℕ) → 2 ≤ length l → all element_kind? l ≡ true → Keyed 1 (drop 1 l)
    go [] h t = absurd (omega arith)
    go (k ∷ l) h t = record { long = omega arith; listed = (and_split (element_kind? k) (all element_kind? l) t).1 }

pub rest-falls : {ks : List ℕ} {t : ℕ} → Keyed 2 ks → 2 * length ks ≡ t → 2 * length (take (length ks - 1) (drop 1 ks)) + 1 < t
rest-falls {ks} K is = rw (rest_part ks) (omega (arith, length-drop 1 ks, K.long))

pub more-types : {ks : List ℕ} → Keyed 1 ks → (length ks ≡ 1 → ⊥) → 2 ≤ length ks
more-types K h = omega (arith, K.long)

-- ── a map, and a key with what it leads to ──

unfoldable pub map_in : List ℕ → State → Reader (List Element)
map_in ks s = map_of (refuse 10) small keys (map (element s) ks)

unfoldable pub key_in : List ℕ → State → Reader (List Element)
key_in ks s = key_and_rest (element s (get_or ks 0 0)) (map_in (drop 1 ks) s)

-- of one type it is an element, and of more a size and so many keys
map-one : (ks : List ℕ) (s : State) → length ks ≡ 1 → map_in ks s ≡ repeat 1 (element s (get_or ks 0 0))
unfolding map_in map_of
map-one [] s h = absurd (omega arith)
map-one (k ∷ []) s h = refl
map-one (k ∷ l ∷ ks) s h = absurd (omega arith)

map-many :
    (ks : List ℕ) (s : State) → 2 ≤ length ks
    → map_in ks s ≡ (small >>= λ n. repeat n (key_in ks s) >>= λ l. give (keys n ∷ flat (λ v. v) l))
unfolding map_in key_in map_of
map-many [] s h = absurd (omega arith)
map-many (k ∷ []) s h = absurd (omega arith)
map-many (k ∷ l ∷ ks) s h = refl

-- ── words ──

-- the words of several maps are those of all their elements
tabs-append : {A : Type 0} (w : A → List ℕ) (v l : List A) → tabs w (v ++ l) ≡ tabs w v ++ tabs w l
unfolding tabs flat
tabs-append w [] l = refl
tabs-append w (a ∷ v) l = rw (tabs-append w v l, append_assoc)

tabs-flat : {A : Type 0} (w : A → List ℕ) (vs : List (List A)) → flat (tabs w) vs ≡ tabs w (flat (λ v. v) vs)
unfolding tabs flat
tabs-flat w [] = refl
tabs-flat w (v ∷ vs) = ap (λ (l : List ℕ). tabs w v ++ l) (tabs-flat w vs) ∙ sym (tabs-append w v (flat (λ v. v) vs))

-- a size and the words of so many keys with what they lead to
map-words : (n : ℕ) (vs : List (List Element)) → tab ∷ (decimal n ++ flat (tabs element_word) vs) ≡ tabs element_word (keys n ∷ flat (λ v. v) vs)
unfolding tabs flat element_word
map-words n vs = ap (λ (l : List ℕ). tab ∷ (decimal n ++ l)) (tabs-flat element_word vs)

-- ── a map that is read, taken apart ──

record Sized (ks : List ℕ) (s : State) (f : List ℕ) (from : ℕ) (v : List Element) (q : ℕ) : Type 0 where
  count : ℕ
  begin : ℕ
  maps : List (List Element)
  size-read : small f from ≡ got count begin
  keys-read : repeat count (key_in ks s) f begin ≡ got maps q
  is : keys count ∷ flat (λ v. v) maps ≡ v

sized-parts : (ks : List ℕ) (s : State) (f : List ℕ) (from : ℕ) (v : List Element) (q : ℕ) → 2 ≤ length ks → map_in ks s f from ≡ got v q → Sized ks s f from v q
unfolding give
sized-parts ks s f from v q two h =
    let A = bind_inv small _ f from v q (rw (map-many ks s two) at h) in
    let B = bind_inv (repeat A.value (key_in ks s)) _ f A.next v q A.rest in
    let z : B.next ≡ q = cc B.rest in
    record {
      count = A.value;
      begin = A.next;
      maps = B.value;
      size-read = A.first;
      keys-read = B.first ∙ ap (λ (p : ℕ). got B.value p) z;
      is = cc B.rest;
    }

-- ── the ways of a map ──

module _ (ks : List ℕ) {f : List ℕ} {from : ℕ} {l : List ℕ} {at : ℕ} where
  pub map-element :
      {m : List ℕ} {o : Behind} → length ks ≡ 1 → Shows (λ s. element s (get_or ks 0 0)) (λ x. tab ∷ element_word x) f from l at m o
      → Shows (map_in ks) (tabs element_word) f from l at m o
  map-element one S = shows-as (λ s. ap (λ (r : Reader (List Element)). r f from) (map-one ks s one)) (one-shows S)

  module _ (two : 2 ≤ length ks) {a : Outcome ℕ} (R : Read small 65536 f from a) where
    pub map-none : {u : Refusal} {m : List ℕ} {o : Behind} → a ≡ Err u → Shows (map_in ks) (tabs element_word) f from l at m o
    map-none is =
        shows-none (λ s v q h.
        let P = sized-parts ks s f from v q two h in
        not-got (sym (was-refused R is).says ∙ P.size-read))

    pub map-shows :
        {n : ℕ} {c : Cursor} {m k m₂ : List ℕ} {p r : ℕ} {o : Behind} → a ≡ Ok (n, c) → Laid l at (tab ∷ []) m p → Laid m p (decimal n) k r
        → Shows (λ s. repeat n (key_in ks s)) (flat (tabs element_word)) f c.at k r m₂ o → Shows (map_in ks) (tabs element_word) f from l at m₂ o
    map-shows {n} {c} {m} {k} {m₂} {p} {r} {o} is one word S =
        record {
          text = record {
            laid = λ s v q h.
                let P = sized-parts ks s f from v q two h in
                let same : n ≡ P.count = (there P).0 in
                laid_as (laid_then one (laid_then word (S.text.laid s P.maps q (rest P)))) (rw same (map-words P.count P.maps ∙ ap (tabs element_word) P.is));
          };
          next = λ s v q h. let P = sized-parts ks s f from v q two h in S.next s P.maps q (rest P);
        }
      where
        there : {s : State} {v : List Element} {q : ℕ} (P : Sized ks s f from v q) → (n ≡ P.count) × (c.at ≡ P.begin)
        there P = let z : got n c.at ≡ got P.count P.begin = sym (was-got R is).says ∙ P.size-read in (cc z, cc z)

        rest : {s : State} {v : List Element} {q : ℕ} (P : Sized ks s f from v q) → repeat n (key_in ks s) f c.at ≡ got P.maps q
        rest P = rw ((there P).0, (there P).1) P.keys-read

-- ── a key, and what it leads to ──

key-parts :
    (ks : List ℕ) (s : State) (f : List ℕ) (from : ℕ) (v : List Element) (q : ℕ) → key_in ks s f from ≡ got v q
    → Parted (element s (get_or ks 0 0)) (map_in (drop 1 ks) s) (λ x. tab ∷ element_word x) (tabs element_word) f from (tabs element_word v) q
unfolding key_in key_and_rest give tabs flat
key-parts ks s f from v q h =
    let A = bind_inv (element s (get_or ks 0 0)) _ f from v q h in
    let B = bind_inv (map_in (drop 1 ks) s) _ f A.next v q A.rest in
    let z : B.next ≡ q = cc B.rest in
    let is : A.value ∷ B.value ≡ v = cc B.rest in
    record {
      first = A.value;
      place = A.next;
      second = B.value;
      one = A.first;
      two = B.first ∙ ap (λ (p : ℕ). got B.value p) z;
      is = ap (flat (λ x. tab ∷ element_word x)) is;
    }

pub key-shows :
    (ks : List ℕ) {f : List ℕ} {from : ℕ} {l : List ℕ} {at : ℕ} {m n : List ℕ} {o o₂ : Behind}
    → Shows (λ s. element s (get_or ks 0 0)) (λ x. tab ∷ element_word x) f from l at m o
    → Shows (map_in (take (length ks - 1) (drop 1 ks))) (tabs element_word) f o.next.at m o.at n o₂
    → Shows (key_in ks) (tabs element_word) f from l at n o₂
key-shows ks {f} {from} {l} {at} {m} {n} {o} {o₂} K M =
    shows_then (λ s. key-parts ks s f from) K
    (subst (λ (r : List ℕ). Shows (map_in r) (tabs element_word) f o.next.at m o.at n o₂) (rest_part ks) M)

-- where one kind is left, that is an element
last-left : (l : List ℕ) → length l ≡ 2 → (length (take (length l - 1) (drop 1 l)) ≡ 1) × (get_or (take (length l - 1) (drop 1 l)) 0 0 ≡ get_or l 1 0)
last-left [] h = absurd (omega arith)
last-left (k ∷ []) h = absurd (omega arith)
last-left (k ∷ m ∷ l) h = rw (rest_part (k ∷ m ∷ l)) (omega arith, refl)

pub key-last :
    (ks : List ℕ) {f : List ℕ} {from : ℕ} {l : List ℕ} {at : ℕ} {m n : List ℕ} {o o₂ : Behind} → length ks ≡ 2
    → Shows (λ s. element s (get_or ks 0 0)) (λ x. tab ∷ element_word x) f from l at m o
    → Shows (λ s. element s (get_or ks 1 0)) (λ x. tab ∷ element_word x) f o.next.at m o.at n o₂
    → Shows (key_in ks) (tabs element_word) f from l at n o₂
key-last ks {f} {from} {l} {at} {m} {n} {o} {o₂} two K E =
    let (one, same) = last-left ks two in
    let last : Shows (λ s. element s (get_or (take (length ks - 1) (drop 1 ks)) 0 0)) (λ x. tab ∷ element_word x) f o.next.at m o.at n o₂ =
    subst (λ (k : ℕ). Shows (λ s. element s k) (λ x. tab ∷ element_word x) f o.next.at m o.at n o₂) (sym same) E in
    key-shows ks K (map-element (take (length ks - 1) (drop 1 ks)) one last)

-- ── a chunk of maps, by the numbers of a table's row ──

pub row-keyed : {k a e : ℕ} → Kinds k a e → k ≡ 20 → Keyed 1 (put_fixed a e)
row-keyed {k} {a} {e} K h =
    let long : length (put_fixed a e) ≡ a = fixed-length a e in
    let many = (K.types h).0 in
    record { long = omega arith; listed = K.kinds h }

pub row-types : (a e : ℕ) → Keyed 1 (put_fixed a e) → 1 ≤ a
row-types a e K = omega (arith, K.long, fixed-length a e)

-- the first of the lent kinds are those of the row
module _ (a e : ℕ) (l : List ℕ) {r : ℕ} {m : List ℕ} (laid : (r ≡ a) × (m ≡ over_front (put_fixed a e) l)) where
  row-part : put_fixed a e ≡ take r m
  unfolding over_front
  row-part = rw (laid.0, laid.1) (sym (take_at (put_fixed a e) (drop (length (put_fixed a e)) l) a (fixed-length a e)))

  pub row-lent : Keyed 1 (put_fixed a e) → Keyed 1 (take r m)
  row-lent K = subst (Keyed 1) row-part K

  pub row-shown :
      (n : ℕ) {f o : List ℕ} {at : ℕ} {k : List ℕ} {p : ℕ} → Shown (λ s. repeat n (map_in (take r m) s)) print_chunk f 0 o at k p
      → Shown (λ s. repeat n (map_in (put_fixed a e) s)) print_chunk f 0 o at k p
  row-shown n {f} {o} {at} {k} {p} S = subst (λ (ks : List ℕ). Shown (λ s. repeat n (map_in ks s)) print_chunk f 0 o at k p) (sym row-part) S

pub chunk-maps :
    {n k a e : ℕ} {f l : List ℕ} {at : ℕ} {m : List ℕ} {p : ℕ} → k ≡ 20 → Shown (λ s. repeat n (map_in (put_fixed a e) s)) print_chunk f 0 l at m p
    → ChunkShown n k a e f l at m p
unfolding kind_from when◌then◌else◌ value map_in
chunk-maps {n} {k} {a} {e} is S = record { laid = λ s c q h. S.laid s c q (rw is at h) }

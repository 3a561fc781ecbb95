-- What a trail tells of the types, and a type by its name. Assumes nothing.
use Rattle.std.specs.Prelude.{◌≡◌, Bool, true, false, ℕ, suc, ◌+◌, ◌-◌, ◌≤◌, ◌<◌, get_or, take}
use Rattle.std.proofs.Math.Path.{refl, sym, ap}
use Rattle.std.proofs.Common.{ap₂, ◌∙◌, arith, drop-cons}
use mathlib.Core.List.{List, [], ◌∷◌}
use Rattle.std.proofs.Math.Option.{Option, none, some}
use Rattle.std.proofs.Math.Numerals.{add-one}
use Rattle.std.proofs.Math.ListN.{length, drop, drop_of_length-le}
use Rattle.paper.specs.Reader.{when◌then◌else◌}
use Rattle.paper.specs.Lists.{same, place, or}
use Rattle.table.specs.ApartLaws.{same_self}
use Rattle.table.specs.View.{Apart}
use Rattle.trail.specs.Texts.{bytes_of}
use Rattle.trail.specs.declared.texts.Span.{Span}

-- the bytes from one place to another
pub record Stands (f : List ℕ) (from to : ℕ) (w : List ℕ) : Type 0 where
  pub rises : from ≤ to
  pub inside : to ≤ length f
  pub is : take (to - from) (drop from f) ≡ w

pub record IsAt (f w : List ℕ) (from to : ℕ) (r : Bool) : Type 0 where
  pub is : (v : List ℕ) → Stands f from to v → r ≡ same w v

-- where the name itself stands
pub at_place : {f : List ℕ} {a b from to : ℕ} → a ≡ from → b ≡ to → IsAt f (take (b - a) (drop a f)) from to true
at_place {f} {a} {b} {from} {to} p q =
    let w : take (b - a) (drop a f) ≡ take (to - from) (drop from f) = ap₂ (λ (x y : ℕ). take (y - x) (drop x f)) p q in
    record { is = λ v S. sym (same_self v) ∙ ap (λ (x : List ℕ). same x v) (sym (w ∙ S.is)) }

-- the names of the types, in order
pub record Names (f : List ℕ) (n : ℕ) (froms tos : List ℕ) (names : List (List ℕ)) : Type 0 where
  pub count : n ≡ length names
  pub few : n ≤ 32
  pub stands : (i : ℕ) → i < n → Stands f (get_or froms i 0) (get_or tos i 0) (get_or names i [])
  pub apart : Apart names

pub record Found (f : List ℕ) (n : ℕ) (froms tos : List ℕ) (w : List ℕ) (r : ℕ) : Type 0 where
  pub most : r ≤ n
  pub is : (names : List (List ℕ)) → Names f n froms tos names → r ≡ or (place (same w) 0 names) (length names)

pub record Finding (f : List ℕ) (n : ℕ) (froms tos : List ℕ) (w : List ℕ) (i : ℕ) : Type 0 where
  pub most : i ≤ n
  pub left : (names : List (List ℕ)) → Names f n froms tos names → place (same w) 0 names ≡ place (same w) i (drop i names)

pub find-start : (f : List ℕ) (n : ℕ) (froms tos : List ℕ) (w : List ℕ) → Finding f n froms tos w 0
find-start f n froms tos w = record { most = omega arith; left = λ names N. refl }

module _ {f : List ℕ} {n : ℕ} {froms tos : List ℕ} {w : List ℕ} {i : ℕ} (g : Finding f n froms tos w i) where
  pub find-end : n ≤ i → Found f n froms tos w n
  unfolding place or
  find-end le =
      record {
        most = omega arith;
        is = λ names N.
            let over : length names ≤ i = omega (arith, N.count) in
            let none_left : drop i names ≡ [] = drop_of_length-le names over in
            let z : place (same w) 0 names ≡ none = g.left names N ∙ ap (place (same w) i) none_left in
            N.count ∙ ap (λ (o : Option ℕ). or o (length names)) (sym z);
      }

  module _ (lt : i < n) {r : Bool} (A : IsAt f w (get_or froms i 0) (get_or tos i 0) r) where
    here : (names : List (List ℕ)) → Names f n froms tos names → place (same w) 0 names ≡ (when r then some i else place (same w) (i + 1) (drop (i + 1) names))
    unfolding place
    here names N =
        let z = A.is (get_or names i []) (N.stands i lt) in
        g.left names N ∙ ap (place (same w) i) (drop-cons names i [] (omega (arith, N.count))) ∙ rw (z, add-one i) refl

    pub find-found : r ≡ true → Found f n froms tos w i
    unfolding or when◌then◌else◌
    find-found q =
        record {
          most = omega arith;
          is = λ names N. sym (ap (λ (o : Option ℕ). or o (length names)) (here names N ∙ ap (λ (b : Bool). when b then some i else place (same w) (i + 1) (drop (i + 1) names)) q));
        }

    pub find-on : r ≡ false → Finding f n froms tos w (i + 1)
    unfolding when◌then◌else◌
    find-on q =
        record {
          most = omega arith;
          left = λ names N. here names N ∙ ap (λ (b : Bool). when b then some i else place (same w) (i + 1) (drop (i + 1) names)) q;
        }

-- ── a name that stands where a type's name does ──

pub record StandsAt (n : ℕ) (froms tos : List ℕ) (name : Span) (r : ℕ) : Type 0 where
  pub is : r < n → (get_or froms r 0 ≡ name.start) × (get_or tos r 0 ≡ name.end)

-- no name occurs twice, so no other type has it
pub find-there : {f : List ℕ} {n : ℕ} {froms tos : List ℕ} {name : Span} {r : ℕ} → StandsAt n froms tos name r → r < n → Found f n froms tos (bytes_of f name) r
unfolding or
find-there {f} {n} {froms} {tos} {name} {r} A lt =
    record {
      most = omega arith;
      is = λ names N.
          let S = N.stands r lt in
          let (a, b) = A.is lt in
          let w : bytes_of f name ≡ get_or names r [] = rw (a, b) at S.is in
          sym (ap (λ (x : List ℕ). or (place (same x) 0 names) (length names)) w ∙ ap (λ (o : Option ℕ). or o (length names)) (N.apart.first r (omega (arith, N.count))));
    }

-- ── new or known ──

pub place-below : {A : Type 0} (p : A → Bool) (i : ℕ) (l : List A) (j : ℕ) → place p i l ≡ some j → j < i + length l
unfolding place when◌then◌else◌
place-below p i [] j h = absurd (nothing h)
  where
    nothing : none ≡ some j → ⊥
    nothing h = let z : ◌≡◌ {A = ℕ} 0 1 = cc h in absurd (omega arith)
place-below {A} p i (x ∷ l) j h = go (λ k q. place-below p (suc i) l k q) (p x) h
  where
    go : ((k : ℕ) → place p (suc i) l ≡ some k → k < suc i + length l) → (b : Bool) → (when b then some i else place p (suc i) l) ≡ some j → j < i + suc (length l)
    go again true q = let z : i ≡ j = cc q in omega arith
    go again false q = omega (arith, again j q)

-- what is told of a type by its place: whether it is known
pub record Placed (o : Option ℕ) (n r : ℕ) : Type 0 where
  pub known : r < n → o ≡ some r
  pub fresh : n ≤ r → o ≡ none

pub placed : (w : List ℕ) (names : List (List ℕ)) (r : ℕ) → r ≡ or (place (same w) 0 names) (length names) → Placed (place (same w) 0 names) (length names) r
unfolding or
placed w names r h = go (place (same w) 0 names) refl h
  where
    go : (o : Option ℕ) → place (same w) 0 names ≡ o → r ≡ or o (length names) → Placed o (length names) r
    go none is q = record { known = λ lt. absurd (omega arith); fresh = λ ge. refl }
    go (some j) is q = let lt = place-below (same w) 0 names j is in record { known = λ k. ap some (sym q); fresh = λ ge. absurd (omega arith) }

-- A map of several types as code goes over it, once over the number of types. Assumes nothing.
use Rattle.std.specs.Prelude.{Ok, Err, ◌≡◌, ℕ, ◌-◌, ◌≤◌, List, [], ◌∷◌, map, length, take, drop, slice_index}
use Rattle.std.proofs.Math.Path.{refl, sym}
use Rattle.std.proofs.Common.{◌∙◌, arith, length-drop, take_all}
use Rattle.paper.specs.Reader.{Reader, Out, got, no, and_then, ◌>>=◌, give, repeat}
use Rattle.paper.specs.Lists.{flat}
use Rattle.paper.specs.Maps.{key_and_rest, map_of}
use Rattle.paper.specs.File.{small}
use Rattle.numbers.specs.Cursors.{Outcome, Read, was-got, was-refused}
use Rattle.numbers.specs.declared.Cursor.{Cursor}
use Rattle.numbers.specs.Faults.{number_of}
use Rattle.numbers.specs.declared.Refusal.{Refusal}
use Rattle.values.specs.Pass.{forget, Passed, Alike, alike_then, alike-back, alike-repeat, alike_turned, alike-bind, passed-as, pass-none, pass-more}

-- a key of the first type, and what it leads to
unfoldable pub key_of : {A : Type 0} → Reader (List A) → Reader ℕ → (ℕ → A) → List (Reader A) → Reader (List A)
key_of stop size sized [] = stop
key_of stop size sized (r ∷ rs) = key_and_rest r (map_of stop size sized rs)

-- ── as code goes over it ──

pub alike-one : {A : Type 0} (r : Reader A) {f : List ℕ} → Alike (repeat 1 r) r f
unfolding forget
alike-one {A} r {f} = record { at = λ p. pass-more r f 0 p ∙ go (r f p) }
  where
    go : (o : Out A) → and_then (forget o) (λ u e. forget (repeat 0 r f e)) ≡ forget o
    go (got a e) = pass-none r f e
    go (no n p) = refl

pub passed-inside : {A : Type 0} {r : Reader A} {f : List ℕ} {at : ℕ} {a : Outcome ℕ} {n : ℕ} {c : Cursor} → Passed r f at a → a ≡ Ok (n, c) → at ≤ length f → c.at ≤ length f
passed-inside P is h = let Q = rw is at P in Q.inside h

pub rest_part : (l : List ℕ) → take (length l - 1) (drop 1 l) ≡ drop 1 l
rest_part l = take_all (length l - 1) (drop 1 l) (rw length-drop (omega arith))

module _ {A : Type 0} (stop : Reader (List A)) (sized : ℕ → A) (g : ℕ → Reader A) where
  pub map-one : (l : List ℕ) → length l ≡ 1 → map_of stop small sized (map g l) ≡ repeat 1 (g (slice_index l 0))
  unfolding map_of
  map-one [] h = absurd (omega arith)
  map-one (k ∷ []) h = refl
  map-one (k ∷ m ∷ l) h = absurd (omega arith)

  pub map-many : (l : List ℕ) {f : List ℕ} → 2 ≤ length l → Alike (map_of stop small sized (map g l)) (small >>= λ n. repeat n (key_of stop small sized (map g l))) f
  unfolding map_of key_of
  map-many [] h = absurd (omega arith)
  map-many (k ∷ []) h = absurd (omega arith)
  map-many (k ∷ m ∷ l) h = alike-bind small (λ n. alike_turned (repeat n (key_and_rest (g k) (map_of stop small sized (g m ∷ map g l)))) _)

  pub key-first : (l : List ℕ) → 1 ≤ length l → key_of stop small sized (map g l) ≡ key_and_rest (g (slice_index l 0)) (map_of stop small sized (map g (drop 1 l)))
  unfolding key_of
  key-first [] h = absurd (omega arith)
  key-first (k ∷ l) h = refl

  module _ (l : List ℕ) {f : List ℕ} {at : ℕ} where
    -- ── a map ──

    pub map-element : {a : Outcome ℕ} → length l ≡ 1 → Passed (g (slice_index l 0)) f at a → Passed (map_of stop small sized (map g l)) f at a
    map-element h P = rw (map-one l h) (passed-as P (alike-one (g (slice_index l 0))))

    module _ (two : 2 ≤ length l) {a : Outcome ℕ} (R : Read small 65536 f at a) where
      pub map-no : {u : Refusal} → a ≡ Err u → Passed (map_of stop small sized (map g l)) f at (Err u)
      unfolding forget ◌>>=◌
      map-no {u} is =
          let W = was-refused R is in
          let P : Passed (small >>= λ n. repeat n (key_of stop small sized (map g l))) f at (Err u) = record { says = sym (rw W.says); inside = W.inside } in
          passed-as P (map-many l two)

      pub map_keys : {n : ℕ} {c : Cursor} {b : Outcome ℕ} → a ≡ Ok (n, c) → Passed (repeat n (key_of stop small sized (map g l))) f c.at b → Passed (map_of stop small sized (map g l)) f at b
      unfolding ◌>>=◌
      map_keys {n} {c} {b} is Q =
          let W = was-got R is in
          let P : Passed (small >>= λ n. repeat n (key_of stop small sized (map g l))) f at b = record { says = Q.says ∙ sym (rw W.says); inside = λ h. Q.inside (W.inside h) } in
          passed-as P (map-many l two)

    -- ── a key and what it leads to ──

    module _ (some : 1 ≤ length l) {a : Outcome ℕ} (P : Passed (g (slice_index l 0)) f at a) where
      pub key-no : {u : Refusal} → a ≡ Err u → Passed (key_of stop small sized (map g l)) f at (Err u)
      unfolding forget key_and_rest ◌>>=◌
      key-no {u} is =
          let Q = rw is at P in
          rw (key-first l some) (record { says = go (g (slice_index l 0) f at) Q.says; inside = Q.inside })
        where
          go : (o : Out A) → no (number_of u.fault) u.place ≡ forget o → no (number_of u.fault) u.place ≡ forget (and_then o (λ a e. and_then (map_of stop small sized (map g (drop 1 l)) f e) (λ v d. give (a ∷ v) f d)))
          go (got x e) q = let z : ◌≡◌ {A = ℕ} 0 1 = cc q in absurd (omega arith)
          go (no n p) q = q

      -- what it leads to is read by the rest of the kinds, lent as a part
      pub key-then :
          {n : ℕ} {c : Cursor} {b : Outcome ℕ} → a ≡ Ok (n, c) → Passed (map_of stop small sized (map g (take (length l - 1) (drop 1 l)))) f c.at b
          → Passed (key_of stop small sized (map g l)) f at b
      unfolding forget key_and_rest ◌>>=◌ give
      key-then {n} {c} {b} is T =
          let R : Passed (map_of stop small sized (map g (drop 1 l))) f c.at b = rw (rest_part l) at T in
          let Q = rw is at P in
          rw (key-first l some) (record { says = R.says ∙ go (g (slice_index l 0) f at) Q.says; inside = λ h. R.inside (Q.inside h) })
        where
          put : (x : A) (o : Out (List A)) → forget o ≡ forget (and_then o (λ v d. got (x ∷ v) d))
          put x (got v d) = refl
          put x (no n p) = refl

          go : (o : Out A) → got tt c.at ≡ forget o → forget (map_of stop small sized (map g (drop 1 l)) f c.at) ≡ forget (and_then o (λ a e. and_then (map_of stop small sized (map g (drop 1 l)) f e) (λ v d. got (a ∷ v) d)))
          go (got x e) q = let z : c.at ≡ e = cc q in rw (← z) (put x (map_of stop small sized (map g (drop 1 l)) f c.at))
          go (no n p) q = let z : ◌≡◌ {A = ℕ} 0 1 = cc q in absurd (omega arith)

-- ── whatever the readers make of the bytes ──

-- values turned, on both sides
alike_both : {A B C D : Type 0} {r : Reader A} {q : Reader B} {f : List ℕ} (g : A → C) (h : B → D) → Alike r q f → Alike (r >>= λ a. give (g a)) (q >>= λ b. give (h b)) f
alike_both {r = r} {q = q} g h x = alike_then (alike_turned r g) (alike_then x (alike-back (alike_turned q h)))

-- one after the other, on both sides
alike-seq :
    {A B C D : Type 0} {r : Reader A} {q : Reader B} {k : A → Reader C} {l : B → Reader D} {f : List ℕ} → Alike r q f → ((a : A) (b : B) → Alike (k a) (l b) f)
    → Alike (r >>= k) (q >>= l) f
unfolding ◌>>=◌ forget
alike-seq {A} {B} {C} {D} {r} {q} {k} {l} {f} x y = record { at = λ p. go (r f p) (q f p) (x.at p) }
  where
    go : (o : Out A) (u : Out B) → forget o ≡ forget u → forget (and_then o (λ a. k a f)) ≡ forget (and_then u (λ b. l b f))
    go (got a e) (got b d) h = let z : e ≡ d = cc h in rw z ((y a b).at d)
    go (got a e) (no n p) h = let z : ◌≡◌ {A = ℕ} 0 1 = cc h in absurd (omega arith)
    go (no n p) (got b d) h = let z : ◌≡◌ {A = ℕ} 0 1 = cc h in absurd (omega arith)
    go (no n p) (no m c) h = h

alike-key : {A B : Type 0} {r : Reader A} {q : Reader B} {u : Reader (List A)} {v : Reader (List B)} {f : List ℕ} → Alike r q f → Alike u v f → Alike (key_and_rest r u) (key_and_rest q v) f
unfolding key_and_rest
alike-key x y = alike-seq x (λ a b. alike_both (λ l. a ∷ l) (λ l. b ∷ l) y)

abbrev pub AllAlike : {A B : Type 0} → (ℕ → Reader A) → (ℕ → Reader B) → List ℕ → List ℕ → Type 0
AllAlike g h f [] = Unit {0}
AllAlike g h f (k ∷ ks) = Alike (g k) (h k) f × AllAlike g h f ks

pub alike-maps :
    {A B : Type 0} (stop : Reader (List A)) (halt : Reader (List B)) (sized : ℕ → A) (counted : ℕ → B) (g : ℕ → Reader A) (h : ℕ → Reader B) {f : List ℕ}
    (ks : List ℕ) → 1 ≤ length ks → AllAlike g h f ks → Alike (map_of stop small sized (map g ks)) (map_of halt small counted (map h ks)) f
unfolding map_of
alike-maps stop halt sized counted g h [] some G = absurd (omega arith)
alike-maps stop halt sized counted g h (k ∷ []) some G = alike-repeat G.0 1
alike-maps stop halt sized counted g h (k ∷ l ∷ ks) some G =
    alike-bind small (λ n. alike_both (λ l. sized n ∷ flat (λ v. v) l) (λ l. counted n ∷ flat (λ v. v) l) (alike-repeat (alike-key G.0 (alike-maps stop halt sized counted g h (l ∷ ks) (omega arith) G.1)) n))

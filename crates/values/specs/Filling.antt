-- A column, filled value by value up to the end of a chunk. Assumes nothing.
use Rattle.std.specs.Prelude.{Ok, Err, ◌≡◌, ℕ, zero, suc, ◌+◌, ◌<◌, ◌≤◌, false, List, [], ◌∷◌, ◌++◌, length, replicate, ℤ, nat_eq, slice_set, refl}
use Rattle.std.proofs.Math.Path.{sym, ap}
use Rattle.std.proofs.Common.{◌∙◌, arith, add-one, add-zero, zero-add}
use Rattle.std.proofs.Math.ListN.{length-set}
use Rattle.std.proofs.lemmas.List.Edits.{sets, sets-eq}
use Rattle.paper.specs.Reader.{Reader, got, give, each, times, repeat}
use Rattle.paper.specs.Ledger.{Element, plain, State}
use Rattle.paper.specs.Calls.{stored, stored_all, over_front}
use Rattle.paper.specs.File.{element, value}
use Rattle.laws.specs.Laws.{not-got, each-inv}
use Rattle.numbers.specs.declared.Cursor.{Cursor}
use Rattle.numbers.specs.declared.Refusal.{Refusal}
use Rattle.values.specs.Bare.{Linkable, element-stands}
use Rattle.values.specs.Ends.{bare-end}
use Rattle.values.specs.Columns.{element_of, valued, ValueRead}
use Rattle.values.specs.declared.columns.Value.{Value}
use Rattle.numbers.specs.Cursors.{Outcome}

-- ── the first of n values ──

pub record FirstOf {A : Type 0} (r : Reader A) (m : ℕ) (f : List ℕ) (at : ℕ) (l : List A) (e : ℕ) : Type 0 where
  pub value : A
  pub next : ℕ
  pub more : List A
  pub first : r f at ≡ got value next
  pub rest : repeat m r f next ≡ got more e
  pub is : l ≡ value ∷ more

pub repeat-first :
    {A : Type 0} (r : Reader A) (m : ℕ) (f : List ℕ) (at : ℕ) (l : List A) (e : ℕ) → repeat (suc m) r f at ≡ got l e → FirstOf r m f at l e
unfolding repeat times
repeat-first r m f at l e q =
    let F = each-inv (λ (u : Unit {0}) (x : Unit {0}). r) (λ u a. u) tt (replicate m (tt {0})) tt f at l e q in
    record { value = F.value; next = F.next; more = F.more; first = F.first; rest = F.rest; is = F.is }

pub repeat-none : {A : Type 0} (r : Reader A) (f : List ℕ) (at : ℕ) (l : List A) (e : ℕ) → repeat 0 r f at ≡ got l e → (l ≡ []) × (at ≡ e)
unfolding repeat times each give
repeat-none r f at l e q = (cc q, cc q)

-- a value of a plain kind is one element
record OneOf (s : State) (k m : ℕ) (f : List ℕ) (at : ℕ) (vs : List (List Element)) (e : ℕ) : Type 0 where
  one : Element
  next : ℕ
  more : List (List Element)
  first : element s k f at ≡ got one next
  rest : repeat m (value s (plain k)) f next ≡ got more e
  is : vs ≡ (one ∷ []) ∷ more

value-first :
    (s : State) (k m : ℕ) (f : List ℕ) (at : ℕ) (vs : List (List Element)) (e : ℕ) → repeat (suc m) (value s (plain k)) f at ≡ got vs e
    → OneOf s k m f at vs e
unfolding value
value-first s k m f at vs e q =
    let F = repeat-first (value s (plain k)) m f at vs e q in
    let G = repeat-first (element s k) 0 f at F.value F.next F.first in
    let N = repeat-none (element s k) f G.next G.more F.next G.rest in
    let v : F.value ≡ G.value ∷ [] = G.is ∙ ap (λ (l : List Element). G.value ∷ l) N.0 in
    record {
      one = G.value;
      next = F.next;
      more = F.more;
      first = G.first ∙ ap (λ (p : ℕ). got G.value p) N.1;
      rest = F.rest;
      is = F.is ∙ ap (λ (l : List Element). l ∷ F.more) v;
    }

-- n values store n numbers
pub stored-count :
    (s : State) (k : ℕ) (f : List ℕ) (n at : ℕ) (vs : List (List Element)) (e : ℕ) → repeat n (value s (plain k)) f at ≡ got vs e
    → length (stored_all vs) ≡ n
unfolding stored_all
stored-count s k f zero at vs e q = rw (repeat-none (value s (plain k)) f at vs e q).0
stored-count s k f (suc n) at vs e q =
    let F = value-first s k n f at vs e q in
    rw F.is (ap suc (stored-count s k f n F.next F.more e F.rest))

-- ── what a call promises ──

-- n values up to the end of f keep the rules, and there is room for them in l from place `at` on
pub record Fillable (s : State) (k : ℕ) (f : List ℕ) (l : List ℤ) (at n : ℕ) (vs : List (List Element)) : Type 0 where
  pub linkable : Linkable s k
  pub reads : repeat n (value s (plain k)) f 0 ≡ got vs (length f)
  pub room : at + n ≤ length l

-- then m is l with the numbers that are stored of them, and r the place behind the last
pub record Filled (k : ℕ) (f : List ℕ) (l : List ℤ) (at : ℕ) (m : List ℤ) (r : ℕ) : Type 0 where
  pub numbers : (s : State) (n : ℕ) (vs : List (List Element)) → Fillable s k f l at n vs → m ≡ sets l at (stored_all vs)
  pub place : (s : State) (n : ℕ) (vs : List (List Element)) → Fillable s k f l at n vs → r ≡ at + n

-- ── the loop: what is left to store from here gives the whole ──

pub record Left (s : State) (k : ℕ) (f : List ℕ) (l : List ℤ) (at n : ℕ) (vs : List (List Element)) (m : List ℤ) (p from : ℕ) : Type 0 where
  pub rest : ℕ
  pub more : List (List Element)
  pub reads : repeat rest (value s (plain k)) f from ≡ got more (length f)
  pub count : p + rest ≡ at + n
  pub stores : sets m p (stored_all more) ≡ sets l at (stored_all vs)

pub record Filling (k : ℕ) (f : List ℕ) (l : List ℤ) (at : ℕ) (m : List ℤ) (p from : ℕ) : Type 0 where
  pub long : length m ≡ length l
  pub left : (s : State) (n : ℕ) (vs : List (List Element)) → Fillable s k f l at n vs → Left s k f l at n vs m p from

pub fill_start : (k : ℕ) (f : List ℕ) (l : List ℤ) (at : ℕ) → Filling k f l at l at 0
fill_start k f l at =
    record {
      long = refl;
      left = λ s n vs h. record { rest = n; more = vs; reads = h.reads; count = refl; stores = refl };
    }

-- a value that is left, before the end
record Next (s : State) (k : ℕ) (f : List ℕ) (l : List ℤ) (at n : ℕ) (vs : List (List Element)) (m : List ℤ) (p from : ℕ) : Type 0 where
  rest : ℕ
  one : Element
  next : ℕ
  more : List (List Element)
  first : element s k f from ≡ got one next
  reads : repeat rest (value s (plain k)) f next ≡ got more (length f)
  count : p + suc rest ≡ at + n
  stores : sets (slice_set m p (stored one)) (suc p) (stored_all more) ≡ sets l at (stored_all vs)

one_left :
    {s : State} {k : ℕ} {f : List ℕ} {l : List ℤ} {at n : ℕ} {vs : List (List Element)} {m : List ℤ} {p from : ℕ}
    → Left s k f l at n vs m p from → from < length f → Next s k f l at n vs m p from
unfolding stored_all
one_left {s} {k} {f} {l} {at} {n} {vs} {m} {p} {from} L h = go L.rest L.reads L.count
  where
    go : (j : ℕ) → repeat j (value s (plain k)) f from ≡ got L.more (length f) → p + j ≡ at + n → Next s k f l at n vs m p from
    go zero q c = absurd (omega (arith, (repeat-none (value s (plain k)) f from L.more (length f) q).1))
    go (suc j) q c =
        let F = value-first s k j f from L.more (length f) q in
        record {
          rest = j;
          one = F.one;
          next = F.next;
          more = F.more;
          first = F.first;
          reads = F.rest;
          count = c;
          stores = rw F.is at L.stores;
        }

module _ {k : ℕ} {f : List ℕ} {l : List ℤ} {at : ℕ} {m : List ℤ} {p from : ℕ} (g : Filling k f l at m p from) where
  -- at the end none is left
  none_left : nat_eq k 5 ≡ false → length f ≤ from → {s : State} {n : ℕ} {vs : List (List Element)} → Fillable s k f l at n vs → (m ≡ sets l at (stored_all vs)) × (p ≡ at + n)
  unfolding stored_all
  none_left single e {s} {n} {vs} h = go L.rest L.reads L.count
    where
      L : Left s k f l at n vs m p from
      L = g.left s n vs h

      go : (j : ℕ) → repeat j (value s (plain k)) f from ≡ got L.more (length f) → p + j ≡ at + n → (m ≡ sets l at (stored_all vs)) × (p ≡ at + n)
      go zero q c = (rw (repeat-none (value s (plain k)) f from L.more (length f) q).0 at L.stores, omega arith)
      go (suc j) q c =
          let F = value-first s k j f from L.more (length f) q in
          let S = element-stands s k f from F.one F.next single h.linkable F.first in
          not-got (sym (bare-end f from e k) ∙ S.reads)

  pub fill_done : nat_eq k 5 ≡ false → length f ≤ from → Filled k f l at m p
  fill_done single e = record { numbers = λ s n vs h. (none_left single e h).0; place = λ s n vs h. (none_left single e h).1 }

  module _ (before : from < length f) where
    never : ((s : State) (n : ℕ) (vs : List (List Element)) → Fillable s k f l at n vs → ⊥) → Filled k f l at m p
    never no_such = record { numbers = λ s n vs h. absurd (no_such s n vs h); place = λ s n vs h. absurd (no_such s n vs h) }

    pub fill-full : length m ≤ p → Filled k f l at m p
    fill-full le =
        never (λ s n vs h. let N = one_left (g.left s n vs h) before in omega (arith, N.count, h.room, g.long))

    module _ {a : Outcome Value} (R : ValueRead k f from a) where
      pub fill-cut : {e : Refusal} → a ≡ Err e → Filled k f l at m p
      unfolding valued
      fill-cut {e} is =
          never (λ s n vs h.
          let N = one_left (g.left s n vs h) before in
          let q : valued (Err e) ≡ got N.one N.next = ap valued (sym is) ∙ R.reads s N.one N.next h.linkable N.first in
          not-got q)

      -- there are no such values, so whatever is left of them gives the whole
      pub fill-no : {e : Refusal} → a ≡ Err e → {m' : List ℤ} {p' from' : ℕ} → length m' ≡ length l → Filling k f l at m' p' from'
      unfolding valued
      fill-no {e} is long =
          record {
            long = long;
            left = λ s n vs h.
                let N = one_left (g.left s n vs h) before in
                let q : valued (Err e) ≡ got N.one N.next = ap valued (sym is) ∙ R.reads s N.one N.next h.linkable N.first in
                not-got q;
          }

      pub fill-next : {v : Value} {c : Cursor} {z : ℤ} → a ≡ Ok (v, c) → z ≡ stored (element_of v) → Filling k f l at (slice_set m p z) (p + 1) c.at
      unfolding valued
      fill-next {v} {c} {z} is e =
          record {
            long = length-set m p z ∙ g.long;
            left = λ s n vs h.
                let N = one_left (g.left s n vs h) before in
                let q : valued (Ok (v, c)) ≡ got N.one N.next = ap valued (sym is) ∙ R.reads s N.one N.next h.linkable N.first in
                let same : element_of v ≡ N.one = cc q in
                let next : N.next ≡ c.at = cc q in
                let z-is : stored N.one ≡ z = sym (e ∙ ap stored same) in
                record {
                  rest = N.rest;
                  more = N.more;
                  reads = rw next at N.reads;
                  count = omega (arith, N.count);
                  stores = rw (add-one p, ← z-is) N.stores;
                };
          }

-- ── lists that are stored ──

-- a list that is stored at the front
pub sets-front : {A : Type 0} (w l : List A) → length w ≤ length l → sets l 0 w ≡ over_front w l
unfolding over_front
sets-front w l h = sets-eq w l 0 (omega arith) ∙ rw zero-add

-- one list behind the other
pub sets_then : {A : Type 0} (v w l : List A) (at : ℕ) → sets l at (v ++ w) ≡ sets (sets l at v) (at + length v) w
sets_then [] w l at = rw add-zero
sets_then {A} (b ∷ v) w l at =
    sets_then v w (slice_set l at b) (suc at) ∙ ap (λ (n : ℕ). sets (sets (slice_set l at b) (suc at) v) n w) (omega arith)

-- The objects of each type, those before this block, and the base types of the pools, on a walk. Assumes nothing.
use Rattle.std.specs.Prelude.{◌≡◌, Bool, ◌&&◌, ℕ, zero, suc, ◌+◌, ◌-◌, ◌≤◌, ◌<◌, ltb, set}
use Rattle.std.proofs.Math.Path.{refl, sym, ap, ap₂}
use Rattle.std.proofs.Common.{◌∙◌, arith, lt_of_not-le, get_or-set_same, get_or-set_other, lt-ltb, le-ltb, eq-eqb, ne_eqb}
use Rattle.std.proofs.Math.Bool.{true, false}
use mathlib.Core.List.{List, [], ◌∷◌, ◌++◌, append-nil}
use Rattle.std.proofs.Math.Decide.{dec_le}
use native.Nat.{ℕᴺ_discrete}
use Rattle.std.proofs.Math.Dec.{eqb}
use Rattle.std.proofs.Math.ListN.{length, get_or, length-set}
use Rattle.std.proofs.lemmas.List.{get_or_at}
use Rattle.paper.specs.Reader.{when◌then◌else◌}
use Rattle.paper.specs.Lists.{total}
use Rattle.paper.specs.Ledger.{Typ, Range, nothing, type_in, no_type, of?, size, objects_of, before?, pool_before}
use Rattle.paper.specs.Rules.{base_under, super_of, base_of, new_type}
use Rattle.laws.specs.Objects.{total-last, type_in-others}
use Rattle.table.specs.View.{maybe}
use Rattle.reader.specs.Counting.{Keys}
use Rattle.trail.specs.Heads.{Knows, TopTold, new_is}
use Rattle.trail.specs.Stages.{Stage, begin}
use Rattle.trail.specs.declared.trail.Trail.{Trail}
use Rattle.trail.specs.declared.trail.Top.{Top}
use Rattle.recall.specs.Added.{BlockAdded, EntryAdded, RangeAdded}
use Rattle.recall.specs.Kept.{block_of_range}

-- ── what lists of 32 say of each type ──

pub record Summed (g : Stage) (sums befores bases : List ℕ) : Type 0 where
  pub sums-long : length sums ≡ 32
  pub befores-long : length befores ≡ 32
  pub bases-long : length bases ≡ 32
  pub sums-are : (i : ℕ) → get_or sums i 0 ≡ objects_of g.state i
  pub befores-are : (i : ℕ) → get_or befores i 0 ≡ pool_before g.state i
  pub bases-are : (i : ℕ) → get_or bases i 0 ≡ (type_in g.state.types i).base

pub summed-start : {z : List ℕ} → length z ≡ 32 → ((i : ℕ) → get_or z i 0 ≡ 0) → Summed begin z z z
unfolding begin nothing objects_of pool_before total type_in no_type
summed-start long is =
    record { sums-long = long; befores-long = long; bases-long = long; sums-are = is; befores-are = is; bases-are = λ i. is i }

-- ── a sum, a type's number, and a base type, as code finds them ──

-- a sum stands still at its top
pub record Plus (sum n r : ℕ) : Type 0 where
  pub is : sum + n ≤ 4294967295 → r ≡ sum + n

pub record OfType (list : List ℕ) (typ r : ℕ) : Type 0 where
  pub is : r ≡ get_or list typ 0

pub record BaseTold (bases : List ℕ) (typ up r : ℕ) : Type 0 where
  pub is : (ts : List Typ) → ((i : ℕ) → get_or bases i 0 ≡ (type_in ts i).base) → r ≡ base_under ts typ (maybe up)

pub base-own : {bases : List ℕ} {typ up : ℕ} → up ≡ 0 → BaseTold bases typ up typ
unfolding base_under
base-own z = record { is = λ ts B. rw z refl }

pub base_above : {bases : List ℕ} {typ up r : ℕ} → (up ≡ 0 → ⊥) → OfType bases (up - 1) r → BaseTold bases typ up r
unfolding base_under
base_above {bases} {typ} {up} {r} nz O = record { is = λ ts B. go up nz O.is ts B }
  where
    go : (u : ℕ) → (u ≡ 0 → ⊥) → r ≡ get_or bases (u - 1) 0 → (ts : List Typ) → ((i : ℕ) → get_or bases i 0 ≡ (type_in ts i).base) → r ≡ base_under ts typ (maybe u)
    go zero nz e ts B = absurd (nz refl)
    go (suc u) nz e ts B = let z : suc u - 1 ≡ u = omega arith in e ∙ ap (λ (i : ℕ). get_or bases i 0) z ∙ B u

-- ── into a block ──

all-before : (b i : ℕ) (log : List Range) → Keys block_of_range b log → total (before? b i) size log ≡ total (of? i) size log
unfolding total before? when◌then◌else◌ size
all-before b i [] k = refl
all-before b i (r ∷ log) k = go (of? i r) (all-before b i log k.1)
  where
    go :
        (x : Bool) → total (before? b i) size log ≡ total (of? i) size log
        → (when x && ltb r.block b then r.count + total (before? b i) size log else total (before? b i) size log) ≡ (when x then r.count + total (of? i) size log else total (of? i) size log)
    go true ih = rw (lt-ltb r.block b k.0, ih) refl
    go false ih = ih

pub summed-block : {g h : Stage} {sums befores bases : List ℕ} → Summed g sums befores bases → Keys block_of_range g.pairs g.state.log → BlockAdded g h → Summed h sums sums bases
unfolding objects_of pool_before
summed-block {g} {h} S K A =
    record {
      sums-long = S.sums-long;
      befores-long = S.sums-long;
      bases-long = S.bases-long;
      sums-are = λ i. S.sums-are i ∙ ap (total (of? i) size) (sym A.log);
      befores-are = λ i. S.sums-are i ∙ sym (all-before g.pairs i g.state.log K) ∙ rw (A.log, A.block) refl;
      bases-are = λ i. S.bases-are i ∙ ap (λ (ts : List Typ). (type_in ts i).base) (sym A.types);
    }

-- ── over an entry ──

-- the types behind it
pub record TypesOn (ts ts' : List Typ) (typ up : ℕ) : Type 0 where
  pub known : typ < length ts → ts' ≡ ts
  pub fresh : length ts ≤ typ → (x : Typ) × (ts' ≡ ts ++ x ∷ []) × (x.base ≡ base_under ts typ (maybe up)) × (typ ≡ length ts)

pub types-on : {f : List ℕ} {g : Stage} {at : ℕ} {h : Stage} {t : Trail} {top : Top} → Knows f g.state t → (E : EntryAdded f g at h) → TopTold f g.state t E.top E.after-top top → TypesOn g.state.types h.state.types top.typ top.up
unfolding new_type base_of when◌then◌else◌
types-on {g = g} {top = top} K E X =
    let s = g.state in
    let is-new = new_is s E.top.name X.placed in
    record {
      known = λ lt. E.after.types ∙ rw (is-new.0 (omega (arith, K.typed)), append-nil s.types) refl;
      fresh = λ ge. (record { super = super_of s E.top.name E.top.super; base = base_of s E.top }, E.after.types ∙ rw (is-new.1 (omega (arith, K.typed))) refl, rw (X.typ, X.up) refl, omega (arith, K.typed, X.most));
    }

-- the lists behind it
pub record PoolOn (sums befores bases : List ℕ) (types typ count base : ℕ) (sums' befores' bases' : List ℕ) : Type 0 where
  pub befores-same : befores' ≡ befores
  pub sum : ℕ
  pub sum_is : Plus (get_or sums typ 0) count sum
  pub sums-set : sums' ≡ set sums typ sum
  pub known : typ < types → bases' ≡ bases
  pub fresh : types ≤ typ → bases' ≡ set bases typ base

module _ {g h : Stage} {top : Top} {sums befores bases : List ℕ} (S : Summed g sums befores bases) (R : RangeAdded g h top) where
  objects-on : (i : ℕ) → objects_of h.state i ≡ objects_of g.state i + (when eqb top.typ i then top.count else 0)
  unfolding objects_of of?
  objects-on i = ap (total (of? i) size) R.log ∙ total-last (of? i) g.state.log R.range ∙ ap₂ (λ (a b : ℕ). total (of? i) size g.state.log + (when eqb a i then b else 0)) R.type R.count

  before_on : (i : ℕ) → pool_before h.state i ≡ pool_before g.state i
  unfolding pool_before before? when◌then◌else◌
  before_on i =
      rw (R.log, R.still) (total-last (before? g.state.block i) g.state.log R.range ∙ none_more)
    where
      and-false : (b : Bool) → (b && false) ≡ false
      and-false true = refl
      and-false false = refl

      none_more : total (before? g.state.block i) size g.state.log + (when before? g.state.block i R.range then R.range.count else 0) ≡ total (before? g.state.block i) size g.state.log
      none_more = rw (le-ltb R.range.block g.state.block (omega (arith, R.block)), and-false (of? i R.range)) (omega arith)

  -- where the sums fit
  pub summed-entry :
      {types base : ℕ} {sums' befores' bases' : List ℕ} → top.typ < 32 → types ≡ length g.state.types → TypesOn g.state.types h.state.types top.typ top.up
      → base ≡ base_under g.state.types top.typ (maybe top.up) → PoolOn sums befores bases types top.typ top.count base sums' befores' bases' → objects_of h.state top.typ ≤ 4294967295
      → Summed h sums' befores' bases'
  unfolding when◌then◌else◌ type_in
  summed-entry {types} {base} {sums'} {befores'} {bases'} room many T base-is P fits =
      record {
        sums-long = ap length P.sums-set ∙ length-set sums top.typ P.sum ∙ S.sums-long;
        befores-long = ap length P.befores-same ∙ S.befores-long;
        bases-long = long (dec_le types top.typ);
        sums-are = λ i. ap (λ (l : List ℕ). get_or l i 0) P.sums-set ∙ sum-at i (ℕᴺ_discrete i top.typ);
        befores-are = λ i. ap (λ (l : List ℕ). get_or l i 0) P.befores-same ∙ S.befores-are i ∙ sym (before_on i);
        bases-are = λ i. base-at i (dec_le types top.typ);
      }
    where
      long : Dec (types ≤ top.typ) → length bases' ≡ 32
      long (yes ge) = ap length (P.fresh ge) ∙ length-set bases top.typ base ∙ S.bases-long
      long (no lt) = ap length (P.known (lt_of_not-le lt)) ∙ S.bases-long

      mine : objects_of h.state top.typ ≡ objects_of g.state top.typ + top.count
      mine = objects-on top.typ ∙ rw (eq-eqb top.typ top.typ refl) refl

      sum-at : (i : ℕ) → Dec (i ≡ top.typ) → get_or (set sums top.typ P.sum) i 0 ≡ objects_of h.state i
      sum-at i (yes e) =
          rw e (get_or-set_same sums top.typ P.sum 0 (omega (arith, S.sums-long)) ∙ P.sum_is.is (omega (arith, S.sums-are top.typ, mine)) ∙ omega (arith, S.sums-are top.typ, mine))
      sum-at i (no ne) =
          get_or-set_other sums top.typ i P.sum 0 ne ∙ S.sums-are i ∙ sym (objects-on i ∙ rw (ne_eqb top.typ i (λ e. ne (sym e))) (omega arith))

      fresh_at : (x : Typ) → x.base ≡ base → top.typ ≡ length g.state.types → (i : ℕ) → Dec (i ≡ top.typ) → get_or (set bases top.typ base) i 0 ≡ (type_in (g.state.types ++ x ∷ []) i).base
      fresh_at x b n i (yes e) =
          ap (λ (j : ℕ). get_or (set bases top.typ base) j 0) e ∙ get_or-set_same bases top.typ base 0 (omega (arith, S.bases-long)) ∙ sym b
          ∙ ap (λ (y : Typ). y.base) (sym (get_or_at g.state.types x [] no_type i (sym n ∙ sym e)))
      fresh_at x b n i (no ne) =
          get_or-set_other bases top.typ i base 0 ne ∙ S.bases-are i ∙ ap (λ (y : Typ). y.base) (sym (type_in-others g.state.types x i (λ e. ne (sym e ∙ sym n))))

      base-at : (i : ℕ) → Dec (types ≤ top.typ) → get_or bases' i 0 ≡ (type_in h.state.types i).base
      base-at i (yes ge) =
          let (x, is, b, n) = T.fresh (omega (arith, many)) in
          ap (λ (l : List ℕ). get_or l i 0) (P.fresh ge) ∙ fresh_at x (b ∙ sym base-is) n i (ℕᴺ_discrete i top.typ) ∙ ap (λ (ts : List Typ). (type_in ts i).base) (sym is)
      base-at i (no lt) =
          ap (λ (l : List ℕ). get_or l i 0) (P.known (lt_of_not-le lt)) ∙ S.bases-are i ∙ ap (λ (ts : List Typ). (type_in ts i).base) (sym (T.known (omega (arith, many, lt_of_not-le lt))))

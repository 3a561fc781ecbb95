-- The log of ranges on a walk: what each entry adds to sums and tests over it. Assumes nothing.
use Rattle.std.specs.Prelude.{◌≡◌, Bool, ℕ, zero, suc, ◌+◌, ◌≤◌, ◌<◌, get_or}
use Rattle.std.proofs.Math.Path.{refl, sym, ap, ap₂}
use Rattle.std.proofs.Common.{◌∙◌, subst, arith}
use Rattle.std.proofs.Math.Bool.{true, false, ◌&&◌, ◌||◌, not}
use mathlib.Core.List.{List, [], ◌∷◌, ◌++◌, append-nil}
use Rattle.std.proofs.Math.Option.{Option, none, some}
use Rattle.std.proofs.Math.Decide.{dec_le}
use Rattle.std.proofs.Math.Dec.{leb, eqb}
use Rattle.std.proofs.Math.ListN.{length, get_or-append}
use Rattle.std.proofs.lemmas.List.{get_or_at}
use borrow.Author.Tests.{eqb-true, eqb-false, eq-eqb, ne_eqb}
use Rattle.paper.specs.Reader.{when◌then◌else◌, got}
use Rattle.paper.specs.Lists.{any, all, total, given?}
use Rattle.paper.specs.Ledger.{Typ, Range, nothing, type_in, no_type, of?, here?, size, objects_of, base?, objects_in_all}
use Rattle.paper.specs.Rules.{new?, super_of, base_of, new_type, new_range, entry_of?, entered?, around?, below?, clear?}
use Rattle.laws.specs.Objects.{total-last}
use Rattle.table.specs.View.{maybe}
use Rattle.reader.specs.Counting.{Keys}
use Rattle.reader.specs.Sound.{type_of_range}
use Rattle.trail.specs.declared.trail.Trail.{Trail}
use Rattle.trail.specs.declared.trail.Top.{Top}
use Rattle.trail.specs.Heads.{HeadPast, new_is}
use Rattle.trail.specs.Stages.{Stage, begin, onward, At}
use Rattle.recall.specs.declared.log.Entries.{Entries}
use Rattle.recall.specs.declared.log.Fits.{Fits}
use Rattle.recall.specs.Added.{BlockAdded, EntryAdded, RangeAdded, head-held, top-told, range-added, step-block-added, step-entry-added}
use Rattle.recall.specs.Reached.{Reached, reached-at}
use Rattle.recall.specs.Kept.{block_of_range, bounds, types-known, blocks-known}
use Rattle.recall.specs.Few.{objects-few, all-few}
use Rattle.recall.specs.Walks.{Keeps, Reaches, reached-next}

-- ── an entry, as the trail tells it ──

pub record OneMore (t : Trail) (g h : Stage) (top : Top) : Type 0 where
  pub added : RangeAdded g h top
  pub here : added.range.block + 1 ≡ t.blocks
  pub room : top.typ < 32
  -- its type's super type, and those of the types that were known before
  pub mine : (type_in h.state.types top.typ).super ≡ maybe top.up
  pub others : (i : ℕ) → i < length g.state.types → type_in h.state.types i ≡ type_in g.state.types i

module _ {f : List ℕ} {k : ℕ} {t : Trail} {g h : Stage} {top : Top} (A : At f k t g) (H : HeadPast f t top) (E : EntryAdded f g t.at h) where
  its-super : (type_in h.state.types top.typ).super ≡ maybe top.up
  unfolding new_type when◌then◌else◌ type_in super_of
  its-super = go (dec_le t.types top.typ)
    where
      go : Dec (t.types ≤ top.typ) → (get_or h.state.types top.typ no_type).super ≡ maybe top.up
      go (Dec.yes ge) =
          let s = g.state in
          let X = top-told H A.tells E in
          let fresh : new? s E.top.name ≡ true = (new_is s E.top.name X.placed).1 ge in
          let x : Typ = record { super = super_of s E.top.name E.top.super; base = base_of s E.top } in
          let types : h.state.types ≡ s.types ++ x ∷ [] = E.after.types ∙ rw fresh refl in
          let last : top.typ ≡ length s.types = omega (arith, X.most, A.tells.knows.typed) in
          ap (λ (ts : List Typ). (get_or ts top.typ no_type).super) types ∙ ap (λ (i : ℕ). (get_or (s.types ++ x ∷ []) i no_type).super) last ∙ ap (λ (z : Typ). z.super) (get_or_at s.types x [] no_type (length s.types) refl) ∙ sym X.up
      go (Dec.no lt) =
          let s = g.state in
          let X = top-told H A.tells E in
          let old : new? s E.top.name ≡ false = (new_is s E.top.name X.placed).0 (omega arith) in
          let types : h.state.types ≡ s.types = E.after.types ∙ rw (old, append-nil s.types) refl in
          let unnamed : E.top.super ≡ none = (head-held s f t.at E.top E.after-top E.top_read).super-left old in
          ap (λ (ts : List Typ). (get_or ts top.typ no_type).super) types ∙ ap (λ (i : ℕ). (get_or s.types i no_type).super) X.typ ∙ sym (ap (super_of s E.top.name) unnamed) ∙ sym X.up

-- a range more, whatever the head says
record RangeMore (t : Trail) (g h : Stage) : Type 0 where
  range : Range
  log : h.state.log ≡ g.state.log ++ range ∷ []
  here : range.block + 1 ≡ t.blocks
  others : (i : ℕ) → i < length g.state.types → type_in h.state.types i ≡ type_in g.state.types i

range-more : {f : List ℕ} {k : ℕ} {t : Trail} {g : Stage} → At f k t g → (t.left ≡ 0 → ⊥) → (h : Stage) (q : ℕ) → onward g f t.at ≡ got h q → RangeMore t g h
unfolding type_in new_range
range-more {f} {k} {t} {g} A nz h q r =
    let left : g.left ≡ 0 → ⊥ = λ z. nz (A.tells.left ∙ z) in
    let E = step-entry-added f g t.at h q left r in
    let S = bounds (reached-at A) in
    record {
      range = new_range g.state E.top;
      log = E.after.log;
      here = omega (arith, S.numbered (S.started left), A.tells.pairs);
      others = λ i lt. ap (λ (ts : List Typ). get_or ts i no_type) E.after.types ∙ get_or-append g.state.types (new_type g.state E.top) no_type i lt;
    }

pub one_more : {f : List ℕ} {k : ℕ} {t : Trail} {g : Stage} → At f k t g → (t.left ≡ 0 → ⊥) → {top : Top} → HeadPast f t top → (h : Stage) (q : ℕ) → onward g f t.at ≡ got h q → OneMore t g h top
one_more {f} {k} {t} {g} A nz H h q r =
    let left : g.left ≡ 0 → ⊥ = λ z. nz (A.tells.left ∙ z) in
    let E = step-entry-added f g t.at h q left r in
    let S = bounds (reached-at A) in
    let R = range-added H A.tells E in
    record {
      added = R;
      here = omega (arith, R.block, S.numbered (S.started left), A.tells.pairs);
      room = (top-told H A.tells E).room;
      mine = its-super A H E;
      others = (range-more A nz h q r).others;
    }

-- every range's type is among the types
pub declared : {f : List ℕ} {k : ℕ} {g : Stage} → Reached f k g → Keys type_of_range (length g.state.types) g.state.log
declared {g = g} R = subst (λ (n : ℕ). Keys type_of_range n g.state.log) (sym (bounds R).types) (types-known R)

-- a block adds no range
no_more : {f : List ℕ} {k : ℕ} {t : Trail} {g : Stage} → At f k t g → t.left ≡ 0 → (h : Stage) (q : ℕ) → onward g f t.at ≡ got h q → BlockAdded g h
no_more {f} {t = t} {g = g} A z h q r = step-block-added f g t.at h q (sym A.tells.left ∙ z) r

-- ── sums and tests over one range more, and over the same ranges by another test ──

or-false : (b : Bool) → b ≡ (b || false)
or-false true = refl
or-false false = refl

or-true : (b : Bool) → true ≡ (b || true)
or-true true = refl
or-true false = refl

and-true : (b : Bool) → b ≡ (b && true)
and-true true = refl
and-true false = refl

module _ {A : Type 0} where
  any_last : (p : A → Bool) (xs : List A) (x : A) → any p (xs ++ x ∷ []) ≡ (any p xs || p x)
  unfolding any
  any_last p [] x = sym (or-false (p x))
  any_last p (y ∷ xs) x = go (p y) (any_last p xs x)
    where
      go : (b : Bool) → any p (xs ++ x ∷ []) ≡ (any p xs || p x) → (b || any p (xs ++ x ∷ [])) ≡ ((b || any p xs) || p x)
      go true ih = refl
      go false ih = ih

  all-last : (p : A → Bool) (xs : List A) (x : A) → all p (xs ++ x ∷ []) ≡ (all p xs && p x)
  unfolding all
  all-last p [] x = sym (and-true (p x))
  all-last p (y ∷ xs) x = go (p y) (all-last p xs x)
    where
      go : (b : Bool) → all p (xs ++ x ∷ []) ≡ (all p xs && p x) → (b && all p (xs ++ x ∷ [])) ≡ ((b && all p xs) && p x)
      go true ih = ih
      go false ih = refl

  module _ (key : A → ℕ) (m : ℕ) (p q : A → Bool) (alike : (x : A) → key x < m → p x ≡ q x) where
    pub total-alike : (n : A → ℕ) (xs : List A) → Keys key m xs → total p n xs ≡ total q n xs
    unfolding total
    total-alike n [] h = refl
    total-alike n (x ∷ xs) h = ap₂ (λ (b : Bool) (s : ℕ). when b then n x + s else s) (alike x h.0) (total-alike n xs h.1)

    pub any-alike : (xs : List A) → Keys key m xs → any p xs ≡ any q xs
    unfolding any
    any-alike [] h = refl
    any-alike (x ∷ xs) h = ap₂ ◌||◌ (alike x h.0) (any-alike xs h.1)

    pub all_alike : (xs : List A) → Keys key m xs → all p xs ≡ all q xs
    unfolding all
    all_alike [] h = refl
    all_alike (x ∷ xs) h = ap₂ ◌&&◌ (alike x h.0) (all_alike xs h.1)

-- ── a sum that stands still at its top ──

pub record Plus (sum n r : ℕ) : Type 0 where
  pub low : r ≤ 4294967295
  pub is : sum + n ≤ 4294967295 → r ≡ sum + n

-- ── the objects of a type ──

pub record ObjectsAre (typ r : ℕ) (g : Stage) : Type 0 where
  pub is : r ≡ objects_of g.state typ

objects-more : {t : Trail} {g h : Stage} {top : Top} → OneMore t g h top → (typ : ℕ) → objects_of h.state typ ≡ objects_of g.state typ + (when eqb top.typ typ then top.count else 0)
unfolding objects_of of?
objects-more {g = g} {h = h} O typ =
    let R = O.added in
    ap (total (of? typ) size) R.log ∙ total-last (of? typ) g.state.log R.range ∙ ap₂ (λ (a b : ℕ). total (of? typ) size g.state.log + (when eqb a typ then b else 0)) R.type R.count

objects-same : {g h : Stage} → BlockAdded g h → (typ : ℕ) → objects_of h.state typ ≡ objects_of g.state typ
unfolding objects_of
objects-same B typ = ap (total (of? typ) size) B.log

objects-none : (typ : ℕ) → 0 ≡ objects_of begin.state typ
unfolding begin nothing objects_of total
objects-none typ = refl

pub objects-start : {typ : ℕ} → ObjectsAre typ 0 begin
objects-start {typ} = record { is = objects-none typ }

module _ {f : List ℕ} {t : Trail} where
  pub share-block : {typ sum : ℕ} → t.left ≡ 0 → Keeps f t (ObjectsAre typ sum) (ObjectsAre typ sum)
  share-block {typ} z = record { told = λ k g A h q r p. record { is = p.is ∙ sym (objects-same (no_more A z h q r) typ) } }

  module _ (nz : t.left ≡ 0 → ⊥) {top : Top} (H : HeadPast f t top) where
    pub share_other : {typ sum : ℕ} → (top.typ ≡ typ → ⊥) → Keeps f t (ObjectsAre typ sum) (ObjectsAre typ sum)
    unfolding when◌then◌else◌
    share_other {typ} ne =
        record {
          told = λ k g A h q r p.
              let b : objects_of h.state typ ≡ objects_of g.state typ + 0 = objects-more (one_more A nz H h q r) typ ∙ rw (ne_eqb top.typ typ ne) refl in
              record { is = omega (arith, p.is, b) };
        }

    -- the sum of the entry's type, which is small
    grown : {k : ℕ} {g : Stage} → At f k t g → (h : Stage) (q : ℕ) → onward g f t.at ≡ got h q → (typ : ℕ) → top.typ ≡ typ → {sum r : ℕ} → sum ≡ objects_of g.state typ → Plus sum top.count r → r ≡ objects_of h.state typ
    unfolding when◌then◌else◌
    grown {g = g} A h q r typ same is P =
        let b : objects_of h.state typ ≡ objects_of g.state typ + top.count = objects-more (one_more A nz H h q r) typ ∙ rw (eq-eqb top.typ typ same) refl in
        let few = objects-few (reached-next A h q r) typ in
        omega (arith, is, b, few, P.is (omega (arith, is, b, few)))

    pub share-more : {typ sum r : ℕ} → top.typ ≡ typ → Plus sum top.count r → Keeps f t (ObjectsAre typ sum) (ObjectsAre typ r)
    share-more {typ} same P = record { told = λ k g A h q w p. record { is = grown A h q w typ same p.is P } }

-- ── the objects of all base pools ──

-- a base type has none above it
base-up : (up : ℕ) → not (given? (maybe up)) ≡ eqb up 0
unfolding given?
base-up zero = refl
base-up (suc u) = sym (ne_eqb (suc u) 0 (λ e. absurd (omega arith)))

all_more : {t : Trail} {g h : Stage} {top : Top} → OneMore t g h top → Keys type_of_range (length g.state.types) g.state.log → objects_in_all h.state ≡ objects_in_all g.state + (when eqb top.up 0 then top.count else 0)
unfolding objects_in_all base?
all_more {g = g} {h = h} {top = top} O known =
    let R = O.added in
    let ts = h.state.types in
    let is_base : not (given? (type_in ts R.range.type).super) ≡ eqb top.up 0 = ap (λ (i : ℕ). not (given? (type_in ts i).super)) R.type ∙ ap (λ (o : Option ℕ). not (given? o)) O.mine ∙ base-up top.up in
    ap (total (base? ts) size) R.log
    ∙ total-last (base? ts) g.state.log R.range
    ∙ ap₂ ◌+◌
    (total-alike type_of_range (length g.state.types) (base? ts) (base? g.state.types) (λ r lt. ap (λ (x : Typ). not (given? x.super)) (O.others r.type lt)) size g.state.log known)
    (ap₂ (λ (b : Bool) (n : ℕ). when b then n else 0) is_base R.count)

-- the sum behind an entry's head
pub record BasePlus (top : Top) (all r : ℕ) : Type 0 where
  pub base : top.up ≡ 0 → Plus all top.count r
  pub other : (top.up ≡ 0 → ⊥) → r ≡ all

-- ── whether a type has an entry in the block that is numbered so, from 1 ──

unfoldable pub here_in : ℕ → Range → Bool
here_in block r = eqb (r.block + 1) block

unfoldable pub entry_in : ℕ → ℕ → Range → Bool
entry_in block typ r = here_in block r && of? typ r

pub record EnteredIn (block typ : ℕ) (r : Entries) (g : Stage) : Type 0 where
  pub entered : r.entered ≡ any (entry_in block typ) g.state.log
  pub all : r.all ≡ objects_in_all g.state

pub entered-start : {block typ : ℕ} → EnteredIn block typ (record { entered = false; all = 0 }) begin
unfolding begin nothing objects_in_all total any
entered-start = record { entered = refl; all = refl }

pub entered-block : {f : List ℕ} {t : Trail} {block typ : ℕ} {seen : Entries} → t.left ≡ 0 → Keeps f t (EnteredIn block typ seen) (EnteredIn block typ seen)
unfolding objects_in_all
entered-block {block = block} {typ = typ} z =
    record {
      told = λ k g A h q r p.
          let B = no_more A z h q r in
          record {
            entered = p.entered ∙ ap (any (entry_in block typ)) (sym B.log);
            all = p.all ∙ ap₂ (λ (ts : List Typ) (l : List Range). total (base? ts) size l) (sym B.types) (sym B.log);
          };
    }

module _ {f : List ℕ} {t : Trail} (nz : t.left ≡ 0 → ⊥) {top : Top} (H : HeadPast f t top) where
  with-base : {before after : ℕ} → BasePlus top before after → {k : ℕ} {g : Stage} → At f k t g → (h : Stage) (q : ℕ) → onward g f t.at ≡ got h q → before ≡ objects_in_all g.state → after ≡ objects_in_all h.state
  unfolding when◌then◌else◌
  with-base {before} {after} P {g = g} A h q r is = by-up (eqb top.up 0) refl
    where
      by-up : (b : Bool) → eqb top.up 0 ≡ b → after ≡ objects_in_all h.state
      by-up true e =
          let m : objects_in_all h.state ≡ objects_in_all g.state + top.count = all_more (one_more A nz H h q r) (declared (reached-at A)) ∙ rw e refl in
          let few = all-few (reached-next A h q r) in
          omega (arith, is, m, few, (P.base (eqb-true top.up 0 e)).is (omega (arith, is, m, few)))
      by-up false e =
          let m : objects_in_all h.state ≡ objects_in_all g.state + 0 = all_more (one_more A nz H h q r) (declared (reached-at A)) ∙ rw e refl in
          omega (arith, is, m, P.other (eqb-false top.up 0 e))

  entry-is : (block typ : ℕ) {k : ℕ} {g : Stage} → At f k t g → (h : Stage) (q : ℕ) → onward g f t.at ≡ got h q → any (entry_in block typ) h.state.log ≡ (any (entry_in block typ) g.state.log || (eqb t.blocks block && eqb top.typ typ))
  unfolding entry_in here_in of?
  entry-is block typ {g = g} A h q r =
      let O = one_more A nz H h q r in
      let R = O.added in
      ap (any (entry_in block typ)) R.log ∙ any_last (entry_in block typ) g.state.log R.range ∙ ap₂ (λ (a b : ℕ). any (entry_in block typ) g.state.log || (eqb a block && eqb b typ)) O.here R.type

  module _ {block typ : ℕ} {seen : Entries} {all : ℕ} (P : BasePlus top seen.all all) where
    entered-entry : {e : Bool} → e ≡ (seen.entered || (eqb t.blocks block && eqb top.typ typ)) → Keeps f t (EnteredIn block typ seen) (EnteredIn block typ (record { entered = e; all = all }))
    entered-entry is =
        record {
          told = λ k g A h q r p.
              record {
                entered = is ∙ ap (λ (b : Bool). b || (eqb t.blocks block && eqb top.typ typ)) p.entered ∙ sym (entry-is block typ A h q r);
                all = with-base P A h q r p.all;
              };
        }

    pub entered-elsewhere : (t.blocks ≡ block → ⊥) → Keeps f t (EnteredIn block typ seen) (EnteredIn block typ (record { entered = seen.entered; all = all }))
    entered-elsewhere ne = entered-entry (or-false seen.entered ∙ ap (λ (x : Bool). seen.entered || (x && eqb top.typ typ)) (sym (ne_eqb t.blocks block ne)))

    pub entered-other : t.blocks ≡ block → (top.typ ≡ typ → ⊥) → Keeps f t (EnteredIn block typ seen) (EnteredIn block typ (record { entered = seen.entered; all = all }))
    entered-other e ne = entered-entry (or-false seen.entered ∙ ap₂ (λ (x y : Bool). seen.entered || (x && y)) (sym (eq-eqb t.blocks block e)) (sym (ne_eqb top.typ typ ne)))

    pub entered_here : t.blocks ≡ block → top.typ ≡ typ → Keeps f t (EnteredIn block typ seen) (EnteredIn block typ (record { entered = true; all = all }))
    entered_here e is = entered-entry (or-true seen.entered ∙ ap₂ (λ (x y : Bool). seen.entered || (x && y)) (sym (eq-eqb t.blocks block e)) (sym (eq-eqb top.typ typ is)))

-- ── a block by its number from 1 is the one that is read ──

eqb-suc : (a b : ℕ) → eqb (a + 1) (b + 1) ≡ eqb a b
eqb-suc a b = go (eqb a b) refl
  where
    go : (x : Bool) → eqb a b ≡ x → eqb (a + 1) (b + 1) ≡ x
    go true e = eq-eqb (a + 1) (b + 1) (omega (arith, eqb-true a b e))
    go false e = ne_eqb (a + 1) (b + 1) (λ z. eqb-false a b e (omega arith))

module _ {f : List ℕ} {k : ℕ} {g : Stage} (R : Reached f k g) {block : ℕ} (is : block ≡ g.pairs) where
  here-is : (r : Range) → r.block < g.pairs → here_in block r ≡ here? g.state.block r
  unfolding here_in here?
  here-is r lt = ap (eqb (r.block + 1)) (is ∙ sym ((bounds R).numbered (omega arith))) ∙ eqb-suc r.block g.state.block

  any_here : (p : Bool → Range → Bool) → any (λ r. p (here_in block r) r) g.state.log ≡ any (λ r. p (here? g.state.block r) r) g.state.log
  any_here p = any-alike block_of_range g.pairs _ _ (λ r lt. ap (λ (b : Bool). p b r) (here-is r lt)) g.state.log (blocks-known R)

  all_here : (p : Bool → Range → Bool) → all (λ r. p (here_in block r) r) g.state.log ≡ all (λ r. p (here? g.state.block r) r) g.state.log
  all_here p = all_alike block_of_range g.pairs _ _ (λ r lt. ap (λ (b : Bool). p b r) (here-is r lt)) g.state.log (blocks-known R)

-- ── what is asked at the name of an entry's type ──

pub record EnteredIs (block typ : ℕ) (r : Entries) (g : Stage) : Type 0 where
  pub entered : block ≡ g.pairs → r.entered ≡ entered? g.state typ
  pub all : r.all ≡ objects_in_all g.state

pub entered-done : {f : List ℕ} {k block typ : ℕ} {r : Entries} → Reaches f k (EnteredIn block typ r) → Reaches f k (EnteredIs block typ r)
unfolding entry_in entered? entry_of?
entered-done {typ = typ} W =
    record {
      told = λ g R.
          let p = W.told g R in
          record { entered = λ is. p.entered ∙ any_here R is (λ b r. b && of? typ r); all = p.all };
    }

-- ── what is asked at a range ──

unfoldable pub around_in : ℕ → ℕ → ℕ → ℕ → Range → Bool
around_in block u start n r = (here_in block r && of? u r) && (leb r.start start && leb (start + n) (r.start + r.count))

unfoldable pub clear_in : ℕ → List Typ → ℕ → ℕ → Range → Bool
clear_in block ts u start r = not (here_in block r && below? ts r.type u) || leb (r.start + r.count) start

pub record InsideIn (block up start n : ℕ) (r : Fits) (g : Stage) : Type 0 where
  pub around : (u : ℕ) → up ≡ u + 1 → r.around ≡ any (around_in block u start n) g.state.log
  pub clear : (u : ℕ) → up ≡ u + 1 → r.clear ≡ all (clear_in block g.state.types u start) g.state.log

pub inside-start : {block up start n : ℕ} → InsideIn block up start n (record { around = false; clear = true }) begin
unfolding begin nothing any all
inside-start = record { around = λ u e. refl; clear = λ u e. refl }

pub record Around (top : Top) (up start n : ℕ) (before r : Bool) : Type 0 where
  pub is : (u : ℕ) → up ≡ u + 1 → r ≡ (before || (eqb top.typ u && (leb top.start start && leb (start + n) (top.start + top.count))))

pub record Clear (top : Top) (up start : ℕ) (before r : Bool) : Type 0 where
  pub is : r ≡ (before && (not (eqb top.up up) || leb (top.start + top.count) start))

below_up : (up u : ℕ) → elim (maybe up) [ none ↦ false | some v ↦ eqb v u ] ≡ eqb up (u + 1)
below_up zero u = sym (ne_eqb 0 (u + 1) (λ e. absurd (omega arith)))
below_up (suc v) u = sym (eqb-suc v u) ∙ ap (λ (k : ℕ). eqb k (u + 1)) (omega arith)

-- the tests of the ranges before it
clear_kept : (block start u : ℕ) (g h : Stage) → ((i : ℕ) → i < length g.state.types → type_in h.state.types i ≡ type_in g.state.types i) → Keys type_of_range (length g.state.types) g.state.log → all (clear_in block h.state.types u start) g.state.log ≡ all (clear_in block g.state.types u start) g.state.log
unfolding clear_in below?
clear_kept block start u g h others known =
    all_alike type_of_range (length g.state.types) (clear_in block h.state.types u start) (clear_in block g.state.types u start)
    (λ r lt. ap (λ (x : Typ). not (here_in block r && elim x.super [ none ↦ false | some v ↦ eqb v u ]) || leb (r.start + r.count) start) (others r.type lt)) g.state.log known

module _ (block start u : ℕ) {t : Trail} {g h : Stage} {top : Top} (O : OneMore t g h top) where
  around-more : (n : ℕ) → any (around_in block u start n) h.state.log ≡ (any (around_in block u start n) g.state.log || ((eqb t.blocks block && eqb top.typ u) && (leb top.start start && leb (start + n) (top.start + top.count))))
  unfolding around_in here_in of?
  around-more n =
      let R = O.added in
      ap (any (around_in block u start n)) R.log
      ∙ any_last (around_in block u start n) g.state.log R.range
      ∙ ap (λ (x : Bool). any (around_in block u start n) g.state.log || x)
      (ap₂ ◌&&◌ (ap₂ (λ (a b : ℕ). eqb a block && eqb b u) O.here R.type) (ap₂ (λ (a b : ℕ). leb a start && leb (start + n) (a + b)) R.start R.count))

  below-mine : below? h.state.types O.added.range.type u ≡ eqb top.up (u + 1)
  unfolding below?
  below-mine = ap (λ (i : ℕ). elim (type_in h.state.types i).super [ none ↦ false | some v ↦ eqb v u ]) O.added.type ∙ ap (λ (o : Option ℕ). elim o [ none ↦ false | some v ↦ eqb v u ]) O.mine ∙ below_up top.up u

  clear-more : Keys type_of_range (length g.state.types) g.state.log → all (clear_in block h.state.types u start) h.state.log ≡ (all (clear_in block g.state.types u start) g.state.log && (not (eqb t.blocks block && eqb top.up (u + 1)) || leb (top.start + top.count) start))
  unfolding clear_in here_in
  clear-more known =
      let R = O.added in
      let ts = h.state.types in
      ap (all (clear_in block ts u start)) R.log
      ∙ all-last (clear_in block ts u start) g.state.log R.range
      ∙ ap₂ ◌&&◌ (clear_kept block start u g h O.others known)
      (ap₂ ◌||◌ (ap₂ (λ (a : ℕ) (b : Bool). not (eqb a block && b)) O.here below-mine) (ap₂ (λ (a b : ℕ). leb (a + b) start) R.start R.count))

module _ (block start u : ℕ) {t : Trail} {g h : Stage} (M : RangeMore t g h) (elsewhere : t.blocks ≡ block → ⊥) where
  not-here : here_in block M.range ≡ false
  unfolding here_in
  not-here = ne_eqb (M.range.block + 1) block (λ e. elsewhere (sym M.here ∙ e))

  around-same : (n : ℕ) → any (around_in block u start n) g.state.log ≡ any (around_in block u start n) h.state.log
  unfolding around_in
  around-same n = or-false _ ∙ sym (ap (any (around_in block u start n)) M.log ∙ any_last (around_in block u start n) g.state.log M.range ∙ rw not-here refl)

  clear-same : Keys type_of_range (length g.state.types) g.state.log → all (clear_in block g.state.types u start) g.state.log ≡ all (clear_in block h.state.types u start) h.state.log
  unfolding clear_in
  clear-same known =
      and-true _
      ∙ sym
      (ap (all (clear_in block h.state.types u start)) M.log
      ∙ all-last (clear_in block h.state.types u start) g.state.log M.range
      ∙ ap₂ ◌&&◌ (clear_kept block start u g h M.others known) (rw not-here refl))

module _ {f : List ℕ} {t : Trail} {block up start n : ℕ} {seen : Fits} where
  pub inside-block : t.left ≡ 0 → Keeps f t (InsideIn block up start n seen) (InsideIn block up start n seen)
  inside-block z =
      record {
        told = λ k g A h q r p.
            let B = no_more A z h q r in
            record {
              around = λ u e. p.around u e ∙ ap (any (around_in block u start n)) (sym B.log);
              clear = λ u e. p.clear u e ∙ ap₂ (λ (ts : List Typ) (l : List Range). all (clear_in block ts u start) l) (sym B.types) (sym B.log);
            };
      }

  pub inside-elsewhere : (t.left ≡ 0 → ⊥) → (t.blocks ≡ block → ⊥) → Keeps f t (InsideIn block up start n seen) (InsideIn block up start n seen)
  inside-elsewhere nz ne =
      record {
        told = λ k g A h q r p.
            let M = range-more A nz h q r in
            record {
              around = λ u e. p.around u e ∙ around-same block start u M ne n;
              clear = λ u e. p.clear u e ∙ clear-same block start u M ne (declared (reached-at A));
            };
      }

  pub inside-here : (t.left ≡ 0 → ⊥) → {top : Top} → HeadPast f t top → t.blocks ≡ block → {a c : Bool} → Around top up start n seen.around a → Clear top up start seen.clear c → Keeps f t (InsideIn block up start n seen) (InsideIn block up start n (record { around = a; clear = c }))
  inside-here nz {top} H same X Y =
      record {
        told = λ k g A h q r p.
            let O = one_more A nz H h q r in
            let known = declared (reached-at A) in
            let here = eq-eqb t.blocks block same in
            record {
              around = λ u e. X.is u e ∙ ap (λ (b : Bool). b || (eqb top.typ u && (leb top.start start && leb (start + n) (top.start + top.count)))) (p.around u e) ∙ sym (around-more block start u O n ∙ rw here refl);
              clear = λ u e. Y.is ∙ ap₂ (λ (b : Bool) (v : ℕ). b && (not (eqb top.up v) || leb (top.start + top.count) start)) (p.clear u e) e ∙ sym (clear-more block start u O known ∙ rw here refl);
            };
      }

pub record InsideIs (block up start n : ℕ) (r : Fits) (g : Stage) : Type 0 where
  pub around : block ≡ g.pairs → (u : ℕ) → up ≡ u + 1 → r.around ≡ any (around? g.state.block u start n) g.state.log
  pub clear : block ≡ g.pairs → (u : ℕ) → up ≡ u + 1 → r.clear ≡ all (clear? g.state.block g.state.types u start) g.state.log

pub inside-done : {f : List ℕ} {k block up start n : ℕ} {r : Fits} → Reaches f k (InsideIn block up start n r) → Reaches f k (InsideIs block up start n r)
unfolding around_in around? entry_of? clear_in clear?
inside-done {start = start} {n = n} W =
    record {
      told = λ g R.
          let p = W.told g R in
          record {
            around = λ is u e. p.around u e ∙ any_here R is (λ b r. (b && of? u r) && (leb r.start start && leb (start + n) (r.start + r.count)));
            clear = λ is u e. p.clear u e ∙ all_here R is (λ b r. not (b && below? g.state.types r.type u) || leb (r.start + r.count) start);
          };
    }

-- The ways out of reading a pair, on plain values. Assumes nothing.
use Rattle.std.proofs.Math.Path.{◌≡◌, refl, sym, ap, subst}
use Rattle.std.proofs.Common.{◌∙◌, arith, le-leb}
use Rattle.std.specs.Prelude.{Err, Ok, Bool, true, false, ℕ, ◌+◌, ◌≤◌, ◌<◌}
use mathlib.Core.List.{List, [], ◌∷◌, ◌++◌}
use Rattle.std.proofs.Math.ListN.{length}
use Rattle.std.proofs.lemmas.Bool.{lt-leb}
use Rattle.paper.specs.Reader.{when◌then◌else◌, Out, got, no, and_then, turned, ◌>>◌, within}
use Rattle.paper.specs.Lists.{last_or}
use Rattle.paper.specs.Ledger.{Chunk, Due, State}
use Rattle.paper.specs.Rules.{with_strings, any_type, a_type?, kinds_stand?, dues, closed, after_front}
use Rattle.paper.specs.File.{Front, sized, data_region, front, refusal_of, kinds_named}
use Rattle.paper.specs.Places.{Spot, spots_from, pair_spots}
use Rattle.laws.specs.Says.{Bytes}
use Rattle.laws.specs.Entries.{Rising}
use Rattle.laws.specs.Exact.{front-says}
use Rattle.laws.specs.Faithful as faithful
use Rattle.numbers.specs.declared.Cursor.{Cursor}
use Rattle.numbers.specs.declared.Refusal.{Refusal}
use Rattle.numbers.specs.Cursors.{Step, Outcome, out_step}
use Rattle.table.specs.View.{flds_of, log_of, dues_of, chunks_of, view, said, Said, Holds, fields_in, block_in}
use Rattle.table.specs.Counts.{next_block, Next}
use Rattle.values.specs.Pass.{forget}
use Rattle.reader.specs.Counting.{Keys}
use Rattle.reader.specs.Kinds.{named_by}
use Rattle.reader.specs.Sound.{Sound}
use Rattle.reader.specs.Going.{Going}
use Rattle.reader.specs.Fields.{going}
use Rattle.reader.specs.Entries.{go_front, front_go}
use Rattle.reader.specs.EntryLaws.{Passed}
use Rattle.walk.specs.Pairs.{said_after, pair_to}
use Rattle.walk.specs.Region.{chunks_at, sizes, region-is, NotFalling, sizes-are}
use Rattle.laws.specs.Pools.{Pooled, closed-pooled, front-pooled}
use Rattle.lookups.specs.Low.{Low, front_low}
use Rattle.walk.specs.Listed.{Listed, front-listed}
use Rattle.walk.specs.Steps.{step_of}
use Rattle.walk.specs.Stand.{AllStand, new-fields-stand}
use Rattle.walk.specs.Dues.{front-declared}
use Rattle.walk.specs.RegionTurns.{RegionReady, RegionChecked, region-ends}
use Rattle.walk.specs.Blocks.{block_of_range, Between, begins, front-block, front-past, bounded-by, closes}
use Rattle.numbers.specs.Faults.{number_of}
use Rattle.numbers.specs.declared.Fault.TheVariants as fault

-- ── what a pair finds and leaves ──

-- the table between two pairs
pub record Steady (f l : List ℕ) : Type 0 where
  pub holds : Holds f l
  pub between : Between (said f l)
  pub low : Low 0 (log_of l)
  pub pooled : Pooled (view f l)
  pub listed : Listed (flds_of l)

-- what a pair asks: bytes, as many as a file may have, and a table that was left by the pairs before
pub record PairReady (f l : List ℕ) (at : ℕ) : Type 0 where
  pub steady : Steady f l
  pub bytes : Bytes f
  pub small : length f ≤ 1048576
  pub inside : at ≤ length f
  pub block : block_in l < 32

abbrev pub out_said : List ℕ → List ℕ → Step → Out Said
out_said f l r = out_step r (said f l)

abbrev pub SteadyAfter : List ℕ → List ℕ → Step → Type 0
SteadyAfter f l (Ok c) = Steady f l × (c.at ≤ length f)
SteadyAfter f l (Err e) = Unit {0}

pub record PairDone (f l l' : List ℕ) (at : ℕ) (r : Step) : Type 0 where
  pub holds : Holds f l'
  pub says : out_said f l' r ≡ pair_to (said f l) f at
  pub steady : SteadyAfter f l' r

-- ── a kind that names no type: the front is read again, and refused ──

abbrev pub late_of : Out Going → Out (Unit {0})
late_of (got g e) = no 10 e
late_of (no k p) = no k p

pub late-front : (h : Front → Going) (o : Out Front) → late_of (turned h o) ≡ refusal_of o
late-front h (got d e) = refl
late-front h (no k p) = refl

-- ── the front ──

-- the front d was read, up to m
pub record Fronted (f l l₁ : List ℕ) (at size m : ℕ) : Type 0 where
  pub d : Front
  pub is : front any_type (view f l) f at ≡ got d m
  pub says : going f l₁ size ≡ go_front (said f l) d

module _ {f l : List ℕ} {at : ℕ} (R : PairReady f l at) where
  pub pair-begins : Holds f l × Sound (said f l) × (at ≤ length f)
  pair-begins = (R.steady.holds, begins R.steady.between R.block, R.inside)

  module _ {l₁ : List ℕ} {a : Outcome ℕ} (passed : Passed f l₁ at a (front_go (named_by false 0) (said f l) f at)) where
    pub pair-no-front : {e : Refusal} → a ≡ Err e → PairDone f l l₁ at (Err e)
    unfolding front_go pair_to named_by
    pair-no-front {e} is =
        let P = rw is at passed in
        record { holds = P.holds; says = go (front any_type (view f l) f at) P.says; steady = tt }
      where
        go :
            (o : Out Front) → no (number_of e.fault) e.place ≡ turned (go_front (said f l)) o
            → no (number_of e.fault) e.place ≡ and_then o (λ d m. turned (λ (cs : List Chunk). said_after (said f l) d m) (within (last_or 0 d.ends) (faithful.region (view f l) at d) f m))
        go (got d m) q = let z : ◌≡◌ {A = ℕ} 0 1 = cc q in absurd (omega arith)
        go (no k p) q = let z : no (number_of e.fault) e.place ≡ turned (go_front (said f l)) (no k p) = q in cc z

    module _ {size : ℕ} {c : Cursor} (is : a ≡ Ok (size, c)) where
      pub fronted : Fronted f l l₁ at size c.at
      unfolding front_go named_by
      fronted = let P = rw is at passed in go (front any_type (view f l) f at) refl P.says
        where
          go : (o : Out Front) → front any_type (view f l) f at ≡ o → got (going f l₁ size) c.at ≡ turned (go_front (said f l)) o → Fronted f l l₁ at size c.at
          go (got d m) read q = let z : c.at ≡ m = cc q in record { d = d; is = read ∙ ap (got d) (sym z); says = cc q }
          go (no k p) read q = let z : ◌≡◌ {A = ℕ} 0 1 = cc q in absurd (omega arith)

-- ── behind the front ──

rising-only : (from : ℕ) (es : List ℕ) → Rising from es → NotFalling from es
rising-only from [] h = tt
rising-only from (e ∷ es) h = (h.0, rising-only e es h.2)

spots-many : (at : ℕ) (ds : List (Due × ℕ)) → length (spots_from at ds) ≡ length ds
unfolding spots_from
spots-many at [] = refl
spots-many at (d ∷ ds) = omega (arith, spots-many (at + d.1) ds)

not_late : {X : Type 0} {e : ℕ} (o : Out Front) → got tt e ≡ refusal_of o → X
not_late (got d m) q = let z : ◌≡◌ {A = ℕ} 0 1 = cc q in absurd (omega arith)
not_late (no k p) q = let z : ◌≡◌ {A = ℕ} 0 1 = cc q in absurd (omega arith)

module _ {f l l₁ : List ℕ} {at size m : ℕ} (R : PairReady f l at) (F : Fronted f l l₁ at size m) (h₁ : Holds f l₁) (sound : Sound (said f l₁)) where
  abbrev s : State
  s = view f l

  abbrev d : Front
  d = F.d

  abbrev s₂ : State
  s₂ = after_front s d.strings d.entries

  pub size_is : size ≡ last_or 0 d.ends
  unfolding go_front
  size_is = ap (λ (g : Going). g.end) F.says

  pub state-is : view f l₁ ≡ s₂
  unfolding go_front
  state-is = ap (λ (g : Going). g.said.state) F.says

  pub dues-are : dues_of l₁ ≡ sized 0 (dues (with_strings s d.strings) d.entries) d.ends
  unfolding go_front
  dues-are = ap (λ (g : Going). g.said.due) F.says ∙ rw R.steady.between.none refl

  pub chunks-are : chunks_of l₁ ≡ chunks_of l
  unfolding go_front
  chunks-are = ap (λ (g : Going). g.said.chunks) F.says

  pair_is : pair_to (said f l) f at ≡ turned (λ (cs : List Chunk). said_after (said f l) d m) (within (last_or 0 d.ends) (faithful.region s at d) f m)
  unfolding pair_to
  pair_is = rw F.is

  -- the data region does not end within the file
  pub pair-short : length f < m + size → PairDone f l l₁ at (Err (record { fault = fault.Short; place = m }))
  unfolding within when◌then◌else◌
  pair-short lt = record { holds = h₁; says = sym (pair_is ∙ rw (lt-leb (m + last_or 0 d.ends) (length f) (omega (arith, size_is)))); steady = tt }

  stood : {b : Bool} → AllStand l₁ (fields_in l) b → b ≡ kinds_stand? s₂ d.entries
  stood A =
      let fields : flds_of l₁ ≡ s₂.fields = ap (λ (u : State). u.fields) state-is in
      let count : fields_in l ≡ length (flds_of l) = sym R.steady.holds.ok.flds-count in
      let few : length s₂.type_names ≤ 32 = rw (← state-is) sound.names in
      A.says f h₁ ∙ rw (count, state-is, fields) (new-fields-stand s d.strings d.entries few)

  module _ (le : m + size ≤ length f) where
    -- a kind names no type: the refusal is that of the front, read again
    pub pair-late : AllStand l₁ (fields_in l) false → {l₂ : List ℕ} {r : Step} → Holds f l₂ → step_of r ≡ refusal_of (front (a_type? (view f l₁)) s f at) → PairDone f l l₂ at r
    unfolding within when◌then◌else◌ kinds_named ◌>>◌
    pair-late A {l₂} {r} h₂ q =
        let again : step_of r ≡ refusal_of (front (a_type? s₂) s f at) = rw state-is at q in
        let is : pair_to (said f l) f at ≡ turned (λ (cs : List Chunk). said_after (said f l) d m) (and_then (refusal_of (front (a_type? s₂) s f at)) (λ u e. data_region s₂ (dues (with_strings s d.strings) d.entries) d.ends f e)) =
        pair_is ∙ rw (le-leb (m + last_or 0 d.ends) (length f) (omega (arith, size_is)), ← stood A) refl in
        go r (front (a_type? s₂) s f at) again is
      where
        go :
            (r : Step) (o : Out Front) → step_of r ≡ refusal_of o
            → pair_to (said f l) f at ≡ turned (λ (cs : List Chunk). said_after (said f l) d m) (and_then (refusal_of o) (λ u e. data_region s₂ (dues (with_strings s d.strings) d.entries) d.ends f e))
            → PairDone f l l₂ at r
        go (Ok c) o q is = not_late o q
        go (Err e) (got d₂ p) q is = record { holds = h₂; says = cc q ∙ sym is; steady = tt }
        go (Err e) (no k p) q is = record { holds = h₂; says = cc q ∙ sym is; steady = tt }

    pub sizes-is : sizes (dues_of l₁) ≡ size
    sizes-is =
        let S = ((front-says s).at f at d m R.bytes R.inside F.is).said in
        rw dues-are (omega (arith, size_is, sizes-are 0 (dues (with_strings s d.strings) d.entries) d.ends (sym S.many) (rising-only 0 d.ends S.rising)))

    pub pair-ready : RegionReady f l₁ m
    pair-ready =
        let fields : length (flds_of l₁) ≡ length s₂.fields = ap (λ (u : State). length u.fields) state-is in
        record {
          holds = h₁;
          bounded = bounded-by sound (rw (ap (λ (u : State). u.log) state-is) (front_low s f at d m R.bytes R.inside F.is R.steady.low));
          pooled = subst Pooled (sym state-is) (front-pooled s f at d m R.bytes R.inside F.is R.steady.pooled);
          listed = rw (ap (λ (u : State). u.fields) state-is) (front-listed s f at d m R.bytes R.inside F.is R.steady.listed);
          declared = rw (sym h₁.ok.flds-count ∙ fields, dues-are) (front-declared s d.strings d.entries d.ends);
          within = omega (arith, sizes-is);
          small = R.small;
          room = omega (arith, h₁.ok.chunks-count, h₁.ok.dues-fit, sound.chunks, sound.block);
        }

    -- the block ends with these chunks put down
    pub still-steady :
        (cs : List Spot) → length cs ≤ 128 → {l₃ : List ℕ} → Holds f l₃ → said f l₃ ≡ next_block (record { state = view f l₁; due = dues_of l₁; chunks = chunks_of l₁ ++ cs })
        → Steady f l₃
    unfolding next_block closed
    still-steady cs many h₃ closing =
        let own : Keys block_of_range ((view f l₁).block + 1) (log_of l₁) =
        subst (λ (u : State). Keys block_of_range (u.block + 1) u.log) (sym state-is) (rw (front-block s d.strings d.entries) (front-past s d.strings d.entries R.steady.between.past)) in
        let ready = pair-ready in
        record {
          holds = h₃;
          between = rw closing (closes sound own cs many);
          low = subst (λ (g : Said). Low 0 g.state.log) (sym closing) ready.bounded.low;
          pooled = subst (λ (g : Said). Pooled g.state) (sym closing) (closed-pooled (view f l₁) ready.pooled);
          listed = subst (λ (g : Said). Listed g.state.fields) (sym closing) ready.listed;
        }

    module _ (A : AllStand l₁ (fields_in l) true) where
      whole : within (last_or 0 d.ends) (faithful.region s at d) f m ≡ chunks_at (view f l₁) (dues_of l₁) f m
      unfolding within when◌then◌else◌ kinds_named ◌>>◌ data_region chunks_at
      whole =
          rw (le-leb (m + last_or 0 d.ends) (length f) (omega (arith, size_is)), ← stood A)
          (rw (state-is, ← dues-are, ← size_is) (region-is s₂ f m size (omega arith) (dues_of l₁) sizes-is))

      module _ {l₂ : List ℕ} where
        pub pair-refused : {b : Step} {e : Refusal} → RegionChecked f l₁ m b l₂ → b ≡ Err e → PairDone f l l₂ at (Err e)
        unfolding forget
        pair-refused {b} {e} C is =
            let C' = rw is at C in
            record { holds = C'.holds; says = go (chunks_at (view f l₁) (dues_of l₁) f m) C'.says ∙ sym (pair_is ∙ rw whole refl); steady = tt }
          where
            go : (o : Out (List Chunk)) → no (number_of e.fault) e.place ≡ forget o → no (number_of e.fault) e.place ≡ turned (λ (cs : List Chunk). said_after (said f l) d m) o
            go (got cs p) q = let z : ◌≡◌ {A = ℕ} 0 1 = cc q in absurd (omega arith)
            go (no k p) q = cc q

        pub pair-got : {b : Step} {c : Cursor} {l₃ : List ℕ} → RegionChecked f l₁ m b l₂ → b ≡ Ok c → Next l₂ l₃ → PairDone f l l₃ at (Ok c)
        unfolding forget said_after next_block pair_spots closed
        pair-got {b} {c} {l₃} C is next =
            let C' = rw is at C in
            let after = next.says f C'.holds in
            let puts = C'.puts c refl in
            let closing : said f l₃ ≡ next_block (record { state = view f l₁; due = dues_of l₁; chunks = chunks_of l₁ ++ spots_from m (dues_of l₁) }) = after.says ∙ ap next_block puts in
            let is-after : said f l₃ ≡ said_after (said f l) d m = closing ∙ (λ i. record { state = closed (state-is i); due = []; chunks = chunks-are i ++ spots_from m (dues-are i) }) in
            let many : length (spots_from m (dues_of l₁)) ≤ 128 = omega (arith, spots-many m (dues_of l₁), h₁.ok.dues-count, h₁.ok.dues-fit) in
            let ends = region-ends C' in
            record {
              holds = after.holds;
              says = go (chunks_at (view f l₁) (dues_of l₁) f m) C'.says is-after ∙ sym (pair_is ∙ rw whole refl);
              steady = (
                still-steady (spots_from m (dues_of l₁)) many after.holds closing,
                omega (arith, pair-ready.within),
              );
            }
          where
            go : (o : Out (List Chunk)) → got tt c.at ≡ forget o → said f l₃ ≡ said_after (said f l) d m → got (said f l₃) c.at ≡ turned (λ (cs : List Chunk). said_after (said f l) d m) o
            go (got cs p) q w = let z : c.at ≡ p = cc q in rw (w, z) refl
            go (no k p) q w = let z : ◌≡◌ {A = ℕ} 0 1 = cc q in absurd (omega arith)

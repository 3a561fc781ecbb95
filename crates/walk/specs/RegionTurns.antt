-- A data region in code: a turn for each chunk that is due, which is checked and put down with its place. Assumes nothing.
use Rattle.std.specs.Prelude.{Err, Ok, ◌≡◌, refl, ℕ, ◌+◌, ◌≤◌, ◌<◌, get_or}
use Rattle.std.proofs.Math.Path.{sym, ap}
use Rattle.std.proofs.Common.{◌∙◌, subst, add-one, arith, drop-cons}
use mathlib.Core.List.{List, [], ◌∷◌, ◌++◌, append_assoc, append-nil}
use Rattle.std.proofs.Math.ListN.{length, drop, length-append, drop_of_length-le}
use Rattle.paper.specs.Reader.{Out, got, no, and_then, ◌>>=◌, give, each, repeat}
use Rattle.paper.specs.Ledger.{Chunk, Due, State, field_at}
use Rattle.paper.specs.File.{value, chunk}
use Rattle.paper.specs.Places.{spots_from}
use Rattle.laws.specs.Laws.{part-inv, not-got}
use Rattle.laws.specs.Pools.{Pooled}
use Rattle.table.specs.View.{flds_of, log_of, dues_of, chunks_of, view, said, Said, Holds, Now, fields_in, dues_in, chunks_in}
use Rattle.table.specs.Answers.{due_in, no_due}
use Rattle.table.specs.Adds.{add_chunk}
use Rattle.table.specs.Pushes.{Pushed}
use Rattle.table.specs.Packed.{chunk_cells}
use Rattle.table.specs.ViewLaws.{pushed-chunk}
use Rattle.table.specs.declared.rows.DueRow.{DueRow}
use Rattle.numbers.specs.declared.Cursor.{Cursor}
use Rattle.numbers.specs.declared.Refusal.{Refusal}
use Rattle.values.specs.Pass.{forget}
use Rattle.walk.specs.Region.{chunks_at, sizes}
use Rattle.lookups.specs.Low.{Bounded}
use Rattle.lookups.specs.Named.{Noted}
use Rattle.walk.specs.Listed.{Listed}
use Rattle.walk.specs.Dues.{Declared, declared-at}
use Rattle.walk.specs.Steps.{step_of}
use Rattle.numbers.specs.Cursors.{Step}

-- ── one chunk and then the others, without their values ──

forget-chunks : (s : State) (d : Due × ℕ) (ds : List (Due × ℕ)) (f : List ℕ) (at : ℕ)
    → forget (chunks_at s (d ∷ ds) f at) ≡ and_then (forget (chunk s d f at)) (λ u e. forget (chunks_at s ds f e))
unfolding chunks_at each give ◌>>=◌ forget
forget-chunks s d ds f at = go (chunk s d f at)
  where
    put : (c : Chunk) (o : Out (List Chunk)) → forget (and_then o (λ cs e. got (c ∷ cs) e)) ≡ forget o
    put c (got cs e) = refl
    put c (no k p) = refl

    go : (o : Out Chunk) → forget (and_then o (λ c e. and_then (chunks_at s ds f e) (λ cs e₁. got (c ∷ cs) e₁))) ≡ and_then (forget o) (λ u e. forget (chunks_at s ds f e))
    go (got c e) = put c (chunks_at s ds f e)
    go (no k p) = refl

forget-none : (s : State) (f : List ℕ) (at : ℕ) → forget (chunks_at s [] f at) ≡ got tt at
unfolding chunks_at each give forget
forget-none s f at = refl

-- a chunk that is read ends where it should
pub chunk-ends : (s : State) (d : Due × ℕ) (f : List ℕ) (at e : ℕ) → got tt e ≡ forget (chunk s d f at) → e ≡ at + d.1
unfolding chunk forget
chunk-ends s d f at e h = go (chunk s d f at) refl h
  where
    go : (o : Out Chunk) → chunk s d f at ≡ o → got tt e ≡ forget o → e ≡ at + d.1
    go (got c e₁) is q =
        let same : e ≡ e₁ = cc q in
        same ∙ (part-inv d.1 (repeat d.0.values (value s (field_at s d.0.field).kind)) f at c e₁ is).ends
    go (no k p) is q = not-got (sym q)

-- and so do all of a list
pub chunks-end : (s : State) (ds : List (Due × ℕ)) (f : List ℕ) (at e : ℕ) → got tt e ≡ forget (chunks_at s ds f at) → e ≡ at + sizes ds
unfolding sizes
chunks-end s [] f at e h = let z : e ≡ at = cc (h ∙ forget-none s f at) in omega arith
chunks-end s (d ∷ ds) f at e h = go (λ m q. chunks-end s ds f m e q) (forget (chunk s d f at)) refl (h ∙ forget-chunks s d ds f at)
  where
    go :
        ((m : ℕ) → got tt e ≡ forget (chunks_at s ds f m) → e ≡ m + sizes ds) → (o : Out (Unit {0})) → forget (chunk s d f at) ≡ o
        → got tt e ≡ and_then o (λ u e₁. forget (chunks_at s ds f e₁)) → e ≡ at + (d.1 + sizes ds)
    go rest (got u m) is q = omega (arith, chunk-ends s d f at m (sym is), rest m q)
    go rest (no k p) is q = not-got (sym q)

-- ── one turn ──

-- what a turn asks: the i-th chunk that is due stands at `at`
pub record DueAt (f l pools : List ℕ) (at i : ℕ) : Type 0 where
  pub holds : Holds f l
  pub bounded : Bounded (log_of l)
  pub noted : Noted pools (view f l)
  pub listed : Listed (flds_of l)
  pub due : i < dues_in l
  pub declared : (get_or (dues_of l) i no_due).0.field < fields_in l
  pub within : at + (get_or (dues_of l) i no_due).1 ≤ length f
  pub small : length f ≤ 1048576
  pub room : chunks_in l < 4096

-- what it does: the answer is the chunk's, and the chunk's place is put down if it was read
pub record TurnDone (f l : List ℕ) (at i : ℕ) (r : Step) (l' : List ℕ) : Type 0 where
  pub says : step_of r ≡ forget (chunk (view f l) (get_or (dues_of l) i no_due) f at)
  pub holds : Holds f l'
  pub puts : (c : Cursor) → r ≡ Ok c → said f l' ≡ add_chunk (said f l) (record { field = (get_or (dues_of l) i no_due).0.field; start = at; end = c.at })

module _ {f l pools : List ℕ} {at i : ℕ} (D : DueAt f l pools at i) {d : DueRow} (is : due_in d ≡ get_or (dues_of l) i no_due) where
  field_is : d.field ≡ (get_or (dues_of l) i no_due).0.field
  field_is = ap (λ (x : Due × ℕ). x.0.field) is

  size_is : d.size ≡ (get_or (dues_of l) i no_due).1
  size_is = ap (λ (x : Due × ℕ). x.1) is

  -- its row fits the file, the table, and the cells of the place
  pub field-declared : d.field < fields_in l
  field-declared = omega (arith, field_is, D.declared)

  pub size-within : at + d.size ≤ length f
  size-within = omega (arith, size_is, D.within)

  -- the chunk was checked
  module _ (a : Step) (says : step_of a ≡ forget (chunk (view f l) (due_in d) f at)) where
    pub end-within : {c : Cursor} → a ≡ Ok c → c.at ≤ length f
    end-within {c} got? =
        let end = chunk-ends (view f l) (due_in d) f at c.at (rw got? at says) in
        omega (arith, size-within)

    says-due : step_of a ≡ forget (chunk (view f l) (get_or (dues_of l) i no_due) f at)
    says-due = rw (← is) says

    pub turned-no : {e : Refusal} → a ≡ Err e → TurnDone f l at i (Err e) l
    turned-no refused =
        record { says = rw refused at says-due; holds = D.holds; puts = λ c got?. not-got (ap step_of got?) }

    pub turned-got : {c : Cursor} {l' : List ℕ} → a ≡ Ok c → Pushed 5 7856 2 (chunk_cells d.field at c.at) l l' → TurnDone f l at i (Ok c) l'
    turned-got {c} {l'} got? P =
        let after = pushed-chunk D.holds d.field at c.at D.room (omega (arith, field-declared, D.holds.ok.flds-fit)) P.push in
        record {
          says = rw got? at says-due;
          holds = after.holds;
          puts = λ c' same.
              let end : c.at ≡ c'.at = cc same in
              rw (← field_is, ← end) after.says;
        }

-- ── all turns ──

-- what a region asks of the file and the table: the chunks that are due begin at `from`
pub record RegionReady (f l : List ℕ) (from : ℕ) : Type 0 where
  pub holds : Holds f l
  pub bounded : Bounded (log_of l)
  pub pooled : Pooled (view f l)
  pub listed : Listed (flds_of l)
  pub declared : Declared (fields_in l) (dues_of l)
  pub within : from + sizes (dues_of l) ≤ length f
  pub small : length f ≤ 1048576
  pub room : chunks_in l + dues_in l ≤ 4096

-- what it does: the answer is that of the chunks one after the other, and where all are read their places are put down
pub record RegionChecked (f l : List ℕ) (from : ℕ) (r : Step) (l' : List ℕ) : Type 0 where
  pub says : step_of r ≡ forget (chunks_at (view f l) (dues_of l) f from)
  pub holds : Holds f l'
  pub puts : (c : Cursor) → r ≡ Ok c → said f l' ≡ record { state = view f l; due = dues_of l; chunks = chunks_of l ++ spots_from from (dues_of l) }

-- a region that is read ends where its last chunk should
pub region-ends : {f l l' : List ℕ} {from : ℕ} {c : Cursor} → RegionChecked f l from (Ok c) l' → c.at ≡ from + sizes (dues_of l)
region-ends {f} {l} {l'} {from} {c} C = chunks-end (view f l) (dues_of l) f from c.at C.says

-- i chunks are read and put down: what is left, from here, gives the whole
pub record Going (f l₀ : List ℕ) (from : ℕ) (l : List ℕ) (at i : ℕ) : Type 0 where
  pub holds : Holds f l
  pub state : view f l ≡ view f l₀
  pub due : dues_of l ≡ dues_of l₀
  pub count : chunks_in l ≡ chunks_in l₀ + i
  pub within : at + sizes (drop i (dues_of l₀)) ≤ length f
  pub says : forget (chunks_at (view f l₀) (drop i (dues_of l₀)) f at) ≡ forget (chunks_at (view f l₀) (dues_of l₀) f from)
  pub spots : chunks_of l ++ spots_from at (drop i (dues_of l₀)) ≡ chunks_of l₀ ++ spots_from from (dues_of l₀)

pub going_start : {f l : List ℕ} {from : ℕ} → RegionReady f l from → Going f l from l from 0
going_start R = record { holds = R.holds; state = refl; due = refl; count = omega arith; within = R.within; says = refl; spots = refl }

module _ {f l₀ : List ℕ} {from : ℕ} (R : RegionReady f l₀ from) {l : List ℕ} {at i : ℕ} (G : Going f l₀ from l at i) where
  pub going_done : dues_in l₀ ≤ i → RegionChecked f l₀ from (Ok (record { at = at })) l
  unfolding spots_from
  going_done le =
      let past : length (dues_of l₀) ≤ i = omega (arith, R.holds.ok.dues-count) in
      let none : drop i (dues_of l₀) ≡ [] = drop_of_length-le (dues_of l₀) past in
      let whole : chunks_of l ≡ chunks_of l₀ ++ spots_from from (dues_of l₀) = sym (append-nil (chunks_of l)) ∙ rw none at G.spots in
      record {
        says = sym (forget-none (view f l₀) f at) ∙ rw none at G.says;
        holds = G.holds;
        puts = λ c is j. record { state = G.state j; due = G.due j; chunks = whole j };
      }

  module _ (lt : i < dues_in l₀) where
    there : i < length (dues_of l₀)
    there = omega (arith, R.holds.ok.dues-count)

    next : drop i (dues_of l₀) ≡ get_or (dues_of l₀) i no_due ∷ drop (i + 1) (dues_of l₀)
    next = drop-cons (dues_of l₀) i no_due there ∙ rw add-one refl

    fields-same : flds_of l ≡ flds_of l₀
    fields-same = ap (λ (s : State). s.fields) G.state

    size_fits : at + ((get_or (dues_of l₀) i no_due).1 + sizes (drop (i + 1) (dues_of l₀))) ≤ length f
    unfolding sizes
    size_fits = rw next at G.within

    pub going_next : {pools : List ℕ} → Noted pools (view f l₀) → DueAt f l pools at i
    going_next {pools} N =
        let dues : length (dues_of l) ≡ length (dues_of l₀) = ap length G.due in
        let fields : length (flds_of l) ≡ length (flds_of l₀) = ap length fields-same in
        let own = G.holds.ok in
        let before = R.holds.ok in
        record {
          holds = G.holds;
          bounded = rw (ap (λ (s : State). s.log) G.state) R.bounded;
          noted = subst (Noted pools) (sym G.state) N;
          listed = rw fields-same R.listed;
          due = omega (arith, own.dues-count, before.dues-count);
          declared = rw G.due (omega (arith, own.flds-count, before.flds-count, declared-at (fields_in l₀) (dues_of l₀) i R.declared there));
          within = rw G.due (omega (arith, size_fits));
          small = R.small;
          room = omega (arith, G.count, R.room);
        }

    module _ {r : Step} {l' : List ℕ} (T : TurnDone f l at i r l') where
      says-chunk : step_of r ≡ forget (chunk (view f l₀) (get_or (dues_of l₀) i no_due) f at)
      says-chunk = rw (← G.state, ← G.due) T.says

      says-next : and_then (step_of r) (λ u e. forget (chunks_at (view f l₀) (drop (i + 1) (dues_of l₀)) f e)) ≡ forget (chunks_at (view f l₀) (dues_of l₀) f from)
      says-next =
          rw says-chunk (sym (forget-chunks (view f l₀) (get_or (dues_of l₀) i no_due) (drop (i + 1) (dues_of l₀)) f at) ∙ rw next at G.says)

      pub going-out : {e : Refusal} → r ≡ Err e → RegionChecked f l₀ from (Err e) l'
      going-out refused =
          record { says = rw refused at says-next; holds = T.holds; puts = λ c got?. not-got (ap step_of got?) }

      pub going_on : {c : Cursor} → r ≡ Ok c → Going f l₀ from l' c.at (i + 1)
      unfolding add_chunk spots_from
      going_on {c} got? =
          let after = T.puts c got? in
          let end = chunk-ends (view f l₀) (get_or (dues_of l₀) i no_due) f at c.at (rw got? at says-chunk) in
          let more : chunks_of l' ≡ chunks_of l ++ record { field = (get_or (dues_of l₀) i no_due).0.field; start = at; end = at + (get_or (dues_of l₀) i no_due).1 } ∷ [] =
          rw (G.due, end) at (ap (λ (s : Said). s.chunks) after) in
          let one : length (chunks_of l') ≡ length (chunks_of l) + 1 = ap length more ∙ length-append (chunks_of l) _ in
          record {
            holds = T.holds;
            state = ap (λ (s : Said). s.state) after ∙ G.state;
            due = ap (λ (s : Said). s.due) after ∙ G.due;
            count = omega (arith, G.count, G.holds.ok.chunks-count, T.holds.ok.chunks-count);
            within = omega (arith, size_fits);
            says = rw got? at says-next;
            spots = rw (more, end) (append_assoc (chunks_of l) _ _ ∙ rw next at G.spots);
          }

-- ── a table that says the same ──

module _ {f l l₁ : List ℕ} (N : Now f l₁ (said f l)) where
  pub ready-same : {from : ℕ} → RegionReady f l from → RegionReady f l₁ from
  ready-same {from} R =
      let says = N.says in
      let fields : fields_in l₁ ≡ fields_in l = sym N.holds.ok.flds-count ∙ ap (λ (g : Said). length g.state.fields) says ∙ R.holds.ok.flds-count in
      let dues : dues_in l₁ ≡ dues_in l = sym N.holds.ok.dues-count ∙ ap (λ (g : Said). length g.due) says ∙ R.holds.ok.dues-count in
      let chunks : chunks_in l₁ ≡ chunks_in l = sym N.holds.ok.chunks-count ∙ ap (λ (g : Said). length g.chunks) says ∙ R.holds.ok.chunks-count in
      record {
        holds = N.holds;
        bounded = subst (λ (g : Said). Bounded g.state.log) (sym says) R.bounded;
        pooled = subst (λ (g : Said). Pooled g.state) (sym says) R.pooled;
        listed = subst (λ (g : Said). Listed g.state.fields) (sym says) R.listed;
        declared = subst (λ (x : ℕ × List (Due × ℕ)). Declared x.0 x.1) (λ i. (sym fields i, (sym says i).due)) R.declared;
        within = subst (λ (g : Said). from + sizes g.due ≤ length f) (sym says) R.within;
        small = R.small;
        room = omega (arith, chunks, dues, R.room);
      }

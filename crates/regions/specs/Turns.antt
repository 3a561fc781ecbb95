-- The chunks that are due in code: a turn for each, which puts down its size. Assumes nothing.
use Rattle.std.specs.Prelude as prelude
use Rattle.std.specs.Prelude.{None, Some, ◌≡◌, refl, List, [], ◌∷◌, ◌++◌, map, ℕ, zero, suc, ◌+◌, ◌≤◌, ◌<◌, min, length, get_or}
use Rattle.std.proofs.Common.{sym, ap, ◌∙◌, subst, arith}
use Rattle.std.proofs.Math.ListN.{get_or-map}
use Rattle.std.proofs.lemmas.List.{length-map}
use Rattle.paper.specs.Reader.{got, no}
use Rattle.paper.specs.Lists.{flat}
use Rattle.paper.specs.File.{what}
use Rattle.paper.specs.Ledger.{Chunk, Due, State}
use Rattle.paper.specs.Pieces.{zip}
use Rattle.paper.specs.Encode.{put_chunk, put_chunks}
use Rattle.paper.specs.Scan.{chunk_text}
use Rattle.laws.specs.Pools.{Pooled}
use Rattle.lay.specs.Laid.{most}
use Rattle.table.specs.View.{flds_of, log_of, dues_of, chunks_of, view, said, Said, Holds, Now, fields_in, dues_in}
use Rattle.table.specs.Answers.{due_in, no_due}
use Rattle.table.specs.Sizes.{resized, DueSized}
use Rattle.table.specs.declared.rows.DueRow.{DueRow}
use Rattle.words.specs.declared.read.Place.{Place}
use Rattle.reader.specs.Sound.{Sound, Every, Declared}
use Rattle.lookups.specs.Low.{Bounded}
use Rattle.lookups.specs.Named.{Noted}
use Rattle.walk.specs.Listed.{Listed}
use Rattle.texts.specs.Told.{Told, was-got, was-bad}
use Rattle.texts.specs.declared.Taken.{Taken}
use Rattle.regions.specs.Chunks.{chunks_text, Left, left-start, left-done, left-bad, left-next}
use Rattle.regions.specs.Sizes.{counted, sized_by, sized-none, sized-at, sized_same, sized-more, sized-all}

-- what the chunks of a region ask of the table: it is one that a front was read into
pub record RegionReady (t l : List ℕ) : Type 0 where
  pub holds : Holds t l
  pub sound : Sound (said t l)
  pub bounded : Bounded (log_of l)
  pub pooled : Pooled (view t l)
  pub listed : Listed (flds_of l)

abbrev pub what_due : List ℕ → List Due
what_due l = map what (dues_of l)

every-at : (P : Due × ℕ → Type 0) (ds : List (Due × ℕ)) (i : ℕ) → Every P ds → i < length ds → P (get_or ds i no_due)
every-at P [] i h lt = absurd (omega arith)
every-at P (d ∷ ds) zero h lt = h.0
every-at P (d ∷ ds) (suc i) h lt = every-at P ds i h.1 (omega arith)

-- ── one chunk, by its place among those due ──

-- what a turn asks, with a list that says which annotations keep the rule
pub record DueReady (t l pools : List ℕ) (i : ℕ) : Type 0 where
  pub holds : Holds t l
  pub bounded : Bounded (log_of l)
  pub noted : Noted pools (view t l)
  pub listed : Listed (flds_of l)
  pub due : i < dues_in l
  pub declared : (get_or (dues_of l) i no_due).0.field < fields_in l

abbrev pub due_at : List ℕ → ℕ → Due
due_at l i = (get_or (dues_of l) i no_due).0

ready_at : {t l pools : List ℕ} → RegionReady t l → Noted pools (view t l) → (i : ℕ) → i < dues_in l → DueReady t l pools i
ready_at {t} {l} R N i lt =
    let ok = R.holds.ok in
    record {
      holds = R.holds;
      bounded = R.bounded;
      noted = N;
      listed = R.listed;
      due = lt;
      declared = omega (arith, ok.flds-count, (every-at (Declared (view t l)) (dues_of l) i R.sound.declared (omega (arith, ok.dues-count))).below);
    }

pub field-declared : {t l pools : List ℕ} {i : ℕ} → DueReady t l pools i → (d : DueRow) → due_in d ≡ get_or (dues_of l) i no_due → d.field < fields_in l
field-declared D d is = omega (arith, ap (λ (x : Due × ℕ). x.0.field) is, D.declared)

-- its reading and its bytes
abbrev pub DueTold : List ℕ → List ℕ → ℕ → ℕ → List ℕ → ℕ → List ℕ → prelude.Option Taken → Type 0
DueTold t l i from out at m r = Told (chunk_text (view t l) (due_at l i)) (put_chunk (view t l) (due_at l i)) t from out at m r

pub due-told :
    {t : List ℕ} (l : List ℕ) (i : ℕ) {from : ℕ} {out : List ℕ} {at : ℕ} {m : List ℕ} {r : prelude.Option Taken} (d : DueRow) → due_in d ≡ get_or (dues_of l) i no_due
    → Told (chunk_text (view t l) (due_in d).0) (put_chunk (view t l) (due_in d).0) t from out at m r → DueTold t l i from out at m r
due-told {t} l i {from} {out} {at} {m} {r} d is T =
    subst (λ (u : Due). Told (chunk_text (view t l) u) (put_chunk (view t l) u) t from out at m r) (ap (λ (x : Due × ℕ). x.0) is) T

-- ── its size ──

-- the chunk ends at e, and the table says its size
pub record OneSized (t l : List ℕ) (from i e : ℕ) (l' : List ℕ) : Type 0 where
  pub chunk : Chunk
  pub reads : chunk_text (view t l) (due_at l i) t from ≡ got chunk e
  pub now : Now t l' (record { state = view t l; due = resized i (counted (put_chunk (view t l) (due_at l i) chunk)) (dues_of l); chunks = chunks_of l })

pub record ChunkSized (t l : List ℕ) (from i : ℕ) (r : prelude.Option Place) (l' : List ℕ) : Type 0 where
  pub holds : Holds t l'
  pub sized : (next : Place) → r ≡ Some next → OneSized t l from i next.at l'
  pub refused : r ≡ None → chunk_text (view t l) (due_at l i) t from ≡ no 20 0

module _ {t l pools : List ℕ} {i : ℕ} (D : DueReady t l pools i) {from : ℕ} {out : List ℕ} {at : ℕ} {m : List ℕ} {a : prelude.Option Taken} (T : DueTold t l i from out at m a) where
  pub sized-bad : a ≡ None → ChunkSized t l from i None l
  sized-bad is =
      record {
        holds = D.holds;
        sized = λ next q. let z : ◌≡◌ {A = ℕ} 0 1 = cc q in absurd (omega arith);
        refused = λ q. was-bad T is;
      }

  -- it was counted from 0
  pub sized-got : {k : Taken} {l' : List ℕ} → at ≡ 0 → a ≡ Some k → DueSized i k.at l l' → ChunkSized t l from i (Some k.next) l'
  sized-got {k} {l'} start is S =
      let L = was-got T is in
      let size : k.at ≡ counted (put_chunk (view t l) (due_at l i) L.value) = L.laid.next ∙ ap (λ (n : ℕ). min n most) (omega arith) in
      let after = subst (λ (n : ℕ). Now t l' (record { state = view t l; due = resized i n (dues_of l); chunks = chunks_of l })) size (S.says t D.holds) in
      record {
        holds = after.holds;
        sized = λ next q.
            let same : k.next.at ≡ next.at = cc q in
            record { chunk = L.value; reads = L.reads ∙ ap (λ (e : ℕ). got L.value e) same; now = after };
        refused = λ q. let z : ◌≡◌ {A = ℕ} 0 1 = cc q in absurd (omega arith);
      }

-- ── all sizes ──

-- the chunks end at e, and the table says the size of each
pub record Sized (t l : List ℕ) (from e : ℕ) (l' : List ℕ) : Type 0 where
  pub chunks : List Chunk
  pub count : length chunks ≡ length (what_due l)
  pub reads : chunks_text (view t l) (what_due l) t from ≡ got chunks e
  pub now : Now t l' (record { state = view t l; due = zip (what_due l) (map counted (put_chunks (view t l) (what_due l) chunks)); chunks = chunks_of l })

pub record RegionSized (t l : List ℕ) (from : ℕ) (r : prelude.Option Place) (l' : List ℕ) : Type 0 where
  pub holds : Holds t l'
  pub long : length l' ≡ length l
  pub sized : (next : Place) → r ≡ Some next → Sized t l from next.at l'
  pub refused : r ≡ None → chunks_text (view t l) (what_due l) t from ≡ no 20 0

-- i of them have their sizes
pub record Sizing (t l₀ : List ℕ) (from : ℕ) (l : List ℕ) (at i : ℕ) : Type 0 where
  pub holds : Holds t l
  pub done : List Chunk
  pub left : Left (view t l₀) (what_due l₀) t from i done at
  pub state : view t l ≡ view t l₀
  pub due : dues_of l ≡ sized_by (view t l₀) (dues_of l₀) done
  pub chunks : chunks_of l ≡ chunks_of l₀

unfoldable pub sizing-start : {t l : List ℕ} (from : ℕ) → RegionReady t l → Sizing t l from l from 0
sizing-start {t} {l} from R =
    record { holds = R.holds; done = []; left = left-start (view t l) (what_due l) t from; state = refl; due = sym (sized-none (view t l) (dues_of l)); chunks = refl }

-- the same chunk by either list
pub what-at : (l : List ℕ) (i : ℕ) → get_or (what_due l) i (what no_due) ≡ due_at l i
what-at l i = get_or-map what (dues_of l) i no_due

pub what-long : {t l : List ℕ} → Holds t l → length (what_due l) ≡ dues_in l
what-long {t} {l} h = length-map (dues_of l) what ∙ h.ok.dues-count

module _ {t l₀ : List ℕ} {from : ℕ} (R : RegionReady t l₀) {l : List ℕ} {at i : ℕ} (G : Sizing t l₀ from l at i) where
  unfoldable pub sizing-done : dues_in l₀ ≤ i → i ≤ dues_in l₀ → RegionSized t l₀ from (Some (record { at = at })) l
  sizing-done le ge =
      let all : length G.done ≡ length (dues_of l₀) = omega (arith, G.left.count, R.holds.ok.dues-count) in
      let whole = G.due ∙ sized-all (view t l₀) (dues_of l₀) G.done all in
      let reads = left-done G.left (omega (arith, what-long R.holds)) in
      record {
        holds = G.holds;
        long = G.holds.ok.long ∙ sym R.holds.ok.long;
        sized = λ next q.
            let same : at ≡ next.at = cc q in
            record {
              chunks = G.done;
              count = omega (arith, all, length-map (dues_of l₀) what);
              reads = reads ∙ ap (λ (e : ℕ). got G.done e) same;
              now = record { holds = G.holds; says = λ j. record { state = G.state j; due = whole j; chunks = G.chunks j } };
            };
        refused = λ q. let z : ◌≡◌ {A = ℕ} 0 1 = cc q in absurd (omega arith);
      }

  module _ (lt : i < dues_in l₀) where
    pub row_same : get_or (dues_of l) i no_due ≡ get_or (dues_of l₀) i no_due
    row_same = ap (λ (ds : List (Due × ℕ)). get_or ds i no_due) G.due ∙ sized-at (view t l₀) (dues_of l₀) G.done i (omega (arith, G.left.count))

    pub there : i < length (what_due l₀)
    there = omega (arith, what-long R.holds)

    dues-long : length (dues_of l) ≡ length (dues_of l₀)
    dues-long = ap length G.due ∙ sized-long (dues_of l₀) G.done
      where
        sized-long : (ds : List (Due × ℕ)) (cs : List Chunk) → length (sized_by (view t l₀) ds cs) ≡ length ds
        sized-long ds cs = sym (length-map (sized_by (view t l₀) ds cs) what) ∙ ap length (sized_same (view t l₀) ds cs) ∙ length-map ds what

    pub sizing-ready : {pools : List ℕ} → Noted pools (view t l₀) → DueReady t l pools i
    sizing-ready {pools} N =
        let own = G.holds.ok in
        let before = R.holds.ok in
        let fields : length (flds_of l) ≡ length (flds_of l₀) = ap (λ (s : State). length s.fields) G.state in
        let first = ready_at R N i lt in
        record {
          holds = G.holds;
          bounded = subst (λ (s : State). Bounded s.log) (sym G.state) R.bounded;
          noted = subst (Noted pools) (sym G.state) N;
          listed = subst (λ (s : State). Listed s.fields) (sym G.state) R.listed;
          due = omega (arith, own.dues-count, before.dues-count, dues-long);
          declared = subst (λ (d : Due × ℕ). d.0.field < fields_in l) (sym row_same) (omega (arith, own.flds-count, before.flds-count, fields, first.declared));
        }

    -- what is said of the turn's chunk, by what the region began with
    pub as_first : {X : Type 0} (f : State → Due → X) → f (view t l₀) (get_or (what_due l₀) i (what no_due)) ≡ f (view t l) (due_at l i)
    as_first f =
        ap (λ (d : Due). f (view t l₀) d) (what-at l₀ i ∙ ap (λ (d : Due × ℕ). d.0) (sym row_same))
        ∙ ap (λ (s : State). f s (due_at l i)) (sym G.state)

    module _ {r : prelude.Option Place} {l' : List ℕ} (C : ChunkSized t l at i r l') where
      pub sizing-bad : r ≡ None → RegionSized t l₀ from None l'
      sizing-bad is =
          let all = left-bad G.left (what no_due) there (as_first (λ s d. chunk_text s d t at) ∙ C.refused is) in
          record {
            holds = C.holds;
            long = C.holds.ok.long ∙ sym R.holds.ok.long;
            sized = λ next q. let z : ◌≡◌ {A = ℕ} 0 1 = cc q in absurd (omega arith);
            refused = λ q. all;
          }

      unfoldable pub sizing-next : {next : Place} → r ≡ Some next → Sizing t l₀ from l' next.at (i + 1)
      sizing-next {next} is =
          let O = C.sized next is in
          let c = O.chunk in
          let said-now = O.now.says in
          let size : counted (put_chunk (view t l) (due_at l i) c) ≡ counted (put_chunk (view t l₀) (due_at l₀ i) c) =
          ap (λ (s : State). counted (put_chunk s (due_at l i) c)) G.state ∙ ap (λ (d : Due × ℕ). counted (put_chunk (view t l₀) d.0 c)) row_same in
          record {
            holds = C.holds;
            done = G.done ++ c ∷ [];
            left = left-next G.left (what no_due) there (as_first (λ s d. chunk_text s d t at) ∙ O.reads);
            state = ap (λ (x : Said). x.state) said-now ∙ G.state;
            due =
                ap (λ (x : Said). x.due) said-now
                ∙ ap (λ (n : ℕ). resized i n (dues_of l)) size
                ∙ ap (λ (ds : List (Due × ℕ)). resized i (counted (put_chunk (view t l₀) (due_at l₀ i) c)) ds) G.due
                ∙ sized-more (view t l₀) (dues_of l₀) G.done i c G.left.count (omega (arith, R.holds.ok.dues-count));
            chunks = ap (λ (x : Said). x.chunks) said-now ∙ G.chunks;
          }

-- ── all bytes ──

abbrev pub region_bytes : State → List Due → List Chunk → List ℕ
region_bytes s ds cs = flat (λ b. b) (put_chunks s ds cs)

-- ── a table that says the same ──

module _ {t : List ℕ} (l : List ℕ) {l₁ : List ℕ} (N : Now t l₁ (said t l)) where
  pub ready-same : RegionReady t l → RegionReady t l₁
  ready-same R =
      let says = N.says in
      record {
        holds = N.holds;
        sound = subst Sound (sym says) R.sound;
        bounded = subst (λ (g : Said). Bounded g.state.log) (sym says) R.bounded;
        pooled = subst (λ (g : Said). Pooled g.state) (sym says) R.pooled;
        listed = subst (λ (g : Said). Listed g.state.fields) (sym says) R.listed;
      }

  pub text_same : (from : ℕ) → chunks_text (view t l₁) (what_due l₁) t from ≡ chunks_text (view t l) (what_due l) t from
  text_same from = ap (λ (g : Said). chunks_text g.state (map what g.due) t from) N.says

  unfoldable pub all-sized-same : {from e : ℕ} {l₂ : List ℕ} → Sized t l₁ from e l₂ → Sized t l from e l₂
  all-sized-same {from} {e} {l₂} S =
      let says = N.says in
      record {
        chunks = S.chunks;
        count = S.count ∙ ap (λ (g : Said). length (map what g.due)) says;
        reads = sym (text_same from) ∙ S.reads;
        now = subst (λ (g : Said). Now t l₂ (record { state = g.state; due = zip (map what g.due) (map counted (put_chunks g.state (map what g.due) S.chunks)); chunks = g.chunks })) says S.now;
      }

  pub region-sized-same : Holds t l → {from : ℕ} {r : prelude.Option Place} {l₂ : List ℕ} → RegionSized t l₁ from r l₂ → RegionSized t l from r l₂
  region-sized-same H {from} C =
      record {
        holds = C.holds;
        long = C.long ∙ N.holds.ok.long ∙ sym H.ok.long;
        sized = λ next q. all-sized-same (C.sized next q);
        refused = λ q. sym (text_same from) ∙ C.refused q;
      }

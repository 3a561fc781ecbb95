-- The chunks that are due laid as their bytes, with the size of each put down on the way. Assumes nothing.
use Rattle.std.specs.Prelude as prelude
use Rattle.std.proofs.Math.Path.{◌≡◌, ap, subst}
use Rattle.std.specs.Prelude.{None, Some, refl, List, [], ◌∷◌, ◌++◌, map, ℕ, ◌+◌, ◌-◌, ◌≤◌, ◌<◌, length, get_or}
use Rattle.std.proofs.Common.{sym, ◌∙◌, append_assoc, arith, length-append}
use Rattle.paper.specs.Reader.{got}
use Rattle.paper.specs.Lists.{flat}
use Rattle.paper.specs.File.{what}
use Rattle.paper.specs.Ledger.{Chunk}
use Rattle.paper.specs.Encode.{put_chunk, put_chunks}
use Rattle.paper.specs.Scan.{chunk_text}
use Rattle.lay.specs.Laid.{most, Laid, laid_none, laid_then, laid_as, laid-long}
use Rattle.laws.specs.Laws.{not-got}
use Rattle.table.specs.View.{dues_of, chunks_of, view, said, Said, Holds, Now, dues_in}
use Rattle.table.specs.Answers.{no_due}
use Rattle.table.specs.Sizes.{resized, DueSized}
use Rattle.texts.specs.Told.{was-got, was-bad, flat-more}
use Rattle.texts.specs.declared.Taken.{Taken}
use Rattle.regions.specs.Chunks.{chunks_text, left_one, put-none, put-more, put-longer}
use Rattle.regions.specs.Sizes.{counted}
use Rattle.regions.specs.Turns.{RegionReady, DueReady, DueTold, due_at, what_due, OneSized, ChunkSized, Sized, RegionSized, Sizing, sizing-start, sizing-next, sizing-done, region_bytes, there, as_first, text_same, all-sized-same}

-- ── one chunk ──

-- it stands as its bytes in m, the table says its size, and k is behind both
pub record OneLaid (t l : List ℕ) (from i : ℕ) (out : List ℕ) (at : ℕ) (m : List ℕ) (k : Taken) (l' : List ℕ) : Type 0 where
  pub sized : OneSized t l from i k.next.at l'
  pub laid : Laid out at (put_chunk (view t l) (due_at l i) sized.chunk) m k.at

-- an answer: that, or that no chunk is read whose bytes end before the largest number
pub record DueLaid (t l : List ℕ) (from i : ℕ) (out : List ℕ) (at : ℕ) (m : List ℕ) (r : prelude.Option Taken) (l' : List ℕ) : Type 0 where
  pub holds : Holds t l'
  pub laid : (k : Taken) → r ≡ Some k → OneLaid t l from i out at m k l'
  pub refused : r ≡ None → (c : Chunk) (e : ℕ) → chunk_text (view t l) (due_at l i) t from ≡ got c e → most ≤ at + length (put_chunk (view t l) (due_at l i) c)

module _ {t l pools : List ℕ} {i : ℕ} (D : DueReady t l pools i) {from : ℕ} {out : List ℕ} {at : ℕ} {m : List ℕ} where
  due-bad : ((c : Chunk) (e : ℕ) → chunk_text (view t l) (due_at l i) t from ≡ got c e → most ≤ at + length (put_chunk (view t l) (due_at l i) c)) → DueLaid t l from i out at m None l
  due-bad h = record { holds = D.holds; laid = λ k q. let z : ◌≡◌ {A = ℕ} 0 1 = cc q in absurd (omega arith); refused = λ q. h }

  pub due-not-read : {a : prelude.Option Taken} → DueTold t l i from out at m a → a ≡ None → DueLaid t l from i out at m None l
  due-not-read T is = due-bad (λ c e q. not-got (sym (was-bad T is) ∙ q))

  module _ {a : prelude.Option Taken} (T : DueTold t l i from out at m a) {k : Taken} (is : a ≡ Some k) where
    -- it would end at the largest number, or behind it
    pub due-too-long : most ≤ k.at → DueLaid t l from i out at m None l
    due-too-long le =
        let L = was-got T is in
        due-bad (λ c e q. let same : L.value ≡ c = cc (sym L.reads ∙ q) in
        omega (arith, L.laid.next, ap (λ (x : Chunk). length (put_chunk (view t l) (due_at l i) x)) same))

    pub due-behind : at ≤ most → at ≤ k.at
    due-behind le = let next = (was-got T is).laid.next in omega (arith, next)

    pub due-laid : {l' : List ℕ} → k.at < most → DueSized i (k.at - at) l l' → DueLaid t l from i out at m (Some k) l'
    due-laid {l'} lt S =
        let L = was-got T is in
        let size : k.at - at ≡ counted (put_chunk (view t l) (due_at l i) L.value) = omega (arith, L.laid.next) in
        let after = subst (λ (n : ℕ). Now t l' (record { state = view t l; due = resized i n (dues_of l); chunks = chunks_of l })) size (S.says t D.holds) in
        let one : OneLaid t l from i out at m k l' = record { sized = record { chunk = L.value; reads = L.reads; now = after }; laid = L.laid } in
        record { holds = after.holds; laid = λ j q. let same : k ≡ j = cc q in subst (λ (x : Taken). OneLaid t l from i out at m x l') same one; refused = λ q. let z : ◌≡◌ {A = ℕ} 0 1 = cc q in absurd (omega arith) }

-- ── all ──

pub record RegionLaid (t l : List ℕ) (from : ℕ) (out : List ℕ) (at : ℕ) (m : List ℕ) (k : Taken) (l' : List ℕ) : Type 0 where
  pub sized : Sized t l from k.next.at l'
  pub laid : Laid out at (region_bytes (view t l) (what_due l) sized.chunks) m k.at

-- an answer: that, or that no chunks are read whose bytes end before the largest number
pub record LaidSized (t l : List ℕ) (from : ℕ) (out : List ℕ) (at : ℕ) (m : List ℕ) (r : prelude.Option Taken) (l' : List ℕ) : Type 0 where
  pub holds : Holds t l'
  pub laid : (k : Taken) → r ≡ Some k → RegionLaid t l from out at m k l'
  pub refused :
      r ≡ None → (cs : List Chunk) (e : ℕ) → chunks_text (view t l) (what_due l) t from ≡ got cs e → most ≤ at + length (region_bytes (view t l) (what_due l) cs)

-- what the pass that only sizes would have told
pub as-sized : {t l : List ℕ} → RegionReady t l → {from : ℕ} {out : List ℕ} {at : ℕ} {m : List ℕ} {k : Taken} {l' : List ℕ} → RegionLaid t l from out at m k l' → RegionSized t l from (Some k.next) l'
as-sized {t} {l} R {from} {k = k} {l'} Y =
    record {
      holds = Y.sized.now.holds;
      long = Y.sized.now.holds.ok.long ∙ sym R.holds.ok.long;
      sized = λ next q. let same : k.next.at ≡ next.at = cc q in subst (λ (e : ℕ). Sized t l from e l') same Y.sized;
      refused = λ q. let z : ◌≡◌ {A = ℕ} 0 1 = cc q in absurd (omega arith);
    }

-- i of them are laid, and have their sizes
pub record Both (t l₀ : List ℕ) (from : ℕ) (out : List ℕ) (at : ℕ) (l m : List ℕ) (i : ℕ) (k : Taken) : Type 0 where
  pub long : length m ≡ length out
  pub sizing : Sizing t l₀ from l k.next.at i
  pub laid : Laid out at (region_bytes (view t l₀) (what_due l₀) sizing.done) m k.at

pub both-start : {t l : List ℕ} → RegionReady t l → (out : List ℕ) (at : ℕ) (k : Taken) → length out ≤ most → k.at ≤ most → k.at ≡ at → Both t l k.next.at out at l out 0 k
unfolding sizing-start flat
both-start {t} {l} R out at k h le is =
    record {
      long = refl;
      sizing = sizing-start k.next.at R;
      laid = rw is (laid_as (laid_none h (rw is at le)) (sym (ap (flat (λ b. b)) (put-none (view t l) (what_due l)))));
    }

module _ {t l₀ : List ℕ} (R : RegionReady t l₀) {from : ℕ} {out : List ℕ} {at : ℕ} {l m : List ℕ} {i : ℕ} {k : Taken} (G : Both t l₀ from out at l m i k) where
  pub both-done : dues_in l₀ ≤ i → i ≤ dues_in l₀ → LaidSized t l₀ from out at m (Some k) l
  unfolding sizing-done
  both-done le ge =
      let S = sizing-done R G.sizing le ge in
      record {
        holds = S.holds;
        laid = λ j q.
            let same : k ≡ j = cc q in
            subst (λ (x : Taken). RegionLaid t l₀ from out at m x l) same (record { sized = S.sized k.next refl; laid = G.laid });
        refused = λ q. let z : ◌≡◌ {A = ℕ} 0 1 = cc q in absurd (omega arith);
      }

  module _ (lt : i < dues_in l₀) {m₂ : List ℕ} {a : prelude.Option Taken} {l₂ : List ℕ} (T : DueLaid t l k.next.at i m k.at m₂ a l₂) where
    -- the bytes of one chunk more, behind those that are laid
    one-laid :
        (c : Chunk)
        → region_bytes (view t l₀) (what_due l₀) G.sizing.done ++ put_chunk (view t l₀) (get_or (what_due l₀) i (what no_due)) c ≡ region_bytes (view t l₀) (what_due l₀) (G.sizing.done ++ c ∷ [])
    one-laid c =
        flat-more (λ b. b) (put_chunks (view t l₀) (what_due l₀) G.sizing.done) (put_chunk (view t l₀) (get_or (what_due l₀) i (what no_due)) c)
        ∙ ap (flat (λ b. b)) (sym (put-more (view t l₀) (what_due l₀) G.sizing.done i (what no_due) c G.sizing.left.count (there R G.sizing lt)))

    pub both-bad : a ≡ None → {m₃ : List ℕ} → LaidSized t l₀ from out at m₃ None l₂
    both-bad is = record { holds = T.holds; laid = λ k q. let z : ◌≡◌ {A = ℕ} 0 1 = cc q in absurd (omega arith); refused = λ q cs e h. over cs e h }
      where
        over : (cs : List Chunk) (e : ℕ) → chunks_text (view t l₀) (what_due l₀) t from ≡ got cs e → most ≤ at + length (region_bytes (view t l₀) (what_due l₀) cs)
        over cs e h =
            let (c, more, p, reads, split) = left_one G.sizing.left (what no_due) (there R G.sizing lt) h in
            let s = view t l₀ in
            let ds = what_due l₀ in
            let done = G.sizing.done in
            let last : most ≤ k.at + length (put_chunk (view t l) (due_at l i) c) = T.refused is c p (sym (as_first R G.sizing lt (λ s d. chunk_text s d t k.next.at)) ∙ reads) in
            let size : length (put_chunk s (get_or ds i (what no_due)) c) ≡ length (put_chunk (view t l) (due_at l i) c) = as_first R G.sizing lt (λ s d. length (put_chunk s d c)) in
            let so_far : length (region_bytes s ds done) + length (put_chunk s (get_or ds i (what no_due)) c) ≡ length (region_bytes s ds (done ++ c ∷ [])) =
            sym (length-append (region_bytes s ds done) (put_chunk s (get_or ds i (what no_due)) c)) ∙ ap length (one-laid c) in
            let all : length (region_bytes s ds ((done ++ c ∷ []) ++ more)) ≡ length (region_bytes s ds cs) = ap (λ (x : List Chunk). length (region_bytes s ds x)) (append_assoc done (c ∷ []) more ∙ split) in
            omega (arith, last, size, so_far, all, put-longer s ds (done ++ c ∷ []) more, G.laid.next)

    pub both-next : {k₂ : Taken} → a ≡ Some k₂ → Both t l₀ from out at l₂ m₂ (i + 1) k₂
    unfolding sizing-next
    both-next {k₂} is =
        let O = T.laid k₂ is in
        let c = O.sized.chunk in
        let C : ChunkSized t l k.next.at i (Some k₂.next) l₂ =
        record {
          holds = T.holds;
          sized = λ next q. let same : k₂.next.at ≡ next.at = cc q in record { chunk = c; reads = O.sized.reads ∙ ap (λ (e : ℕ). got c e) same; now = O.sized.now };
          refused = λ q. let z : ◌≡◌ {A = ℕ} 0 1 = cc q in absurd (omega arith);
        } in
        record {
          long = laid-long O.laid ∙ G.long;
          sizing = sizing-next R G.sizing lt C refl;
          laid = laid_as (laid_then G.laid (laid_as O.laid (sym (as_first R G.sizing lt (λ s d. put_chunk s d c))))) (one-laid c);
        }

-- ── a table that says the same ──

pub laid-sized-same :
    {t : List ℕ} (l : List ℕ) {l₁ : List ℕ} → Now t l₁ (said t l) → {from : ℕ} {out : List ℕ} {at : ℕ} {m : List ℕ} {r : prelude.Option Taken} {l₂ : List ℕ} → LaidSized t l₁ from out at m r l₂
    → LaidSized t l from out at m r l₂
unfolding all-sized-same
laid-sized-same {t} l N {from} {out} {at} {m} C =
    let says = N.says in
    record {
      holds = C.holds;
      laid = λ k q.
          let L = C.laid k q in
          record { sized = all-sized-same l N L.sized; laid = subst (λ (g : Said). Laid out at (region_bytes g.state (map what g.due) L.sized.chunks) m k.at) says L.laid };
      refused = λ q cs e is. subst (λ (g : Said). most ≤ at + length (region_bytes g.state (map what g.due) cs)) says (C.refused q cs e (text_same l N from ∙ is));
    }

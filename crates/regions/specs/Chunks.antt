-- The chunks of a list read one after the other from a text. Assumes nothing.
use Rattle.std.specs.Prelude.{◌≡◌, refl, List, [], ◌∷◌, ◌++◌, ℕ, zero, suc, ◌+◌, ◌≤◌, ◌<◌, length, get_or, drop}
use Rattle.std.proofs.Common.{sym, ap, ◌∙◌, append-nil, add-one, arith, length-append, drop_of_length-le, drop-cons}
use Rattle.paper.specs.Reader.{Reader, Out, got, no, and_then, ◌>>=◌, give, each}
use Rattle.paper.specs.Lists.{flat}
use Rattle.paper.specs.Ledger.{Chunk, Due, State}
use Rattle.paper.specs.Encode.{put_chunk, put_chunks}
use Rattle.paper.specs.Scan.{chunk_text}
use Rattle.laws.specs.Laws.{not-got}
use Rattle.laws.specs.Loops.{alone, one_on}

unfoldable pub chunks_text : State → List Due → Reader (List Chunk)
chunks_text s ds = each (λ (u : Unit {0}). chunk_text s) (λ u c. u) ds tt

chunks-none : (s : State) (t : List ℕ) (at : ℕ) → chunks_text s [] t at ≡ got [] at
unfolding chunks_text each give
chunks-none s t at = refl

chunks-more :
    (s : State) (d : Due) (ds : List Due) (t : List ℕ) (at : ℕ)
    → chunks_text s (d ∷ ds) t at ≡ and_then (chunk_text s d t at) (λ c e. and_then (chunks_text s ds t e) (λ cs q. got (c ∷ cs) q))
unfolding chunks_text each give ◌>>=◌
chunks-more s d ds t at = refl

-- i of them are read: what is left, from here, gives the whole
pub record Left (s : State) (ds : List Due) (t : List ℕ) (from i : ℕ) (done : List Chunk) (at : ℕ) : Type 0 where
  pub count : length done ≡ i
  pub reads : chunks_text s ds t from ≡ and_then (chunks_text s (drop i ds) t at) (λ more q. got (done ++ more) q)

length-snoc : (cs : List Chunk) (c : Chunk) → length (cs ++ c ∷ []) ≡ length cs + 1
length-snoc [] c = refl
length-snoc (b ∷ cs) c = omega (arith, length-snoc cs c)

pub left-start : (s : State) (ds : List Due) (t : List ℕ) (from : ℕ) → Left s ds t from 0 [] from
left-start s ds t from = record { count = refl; reads = alone (chunks_text s ds t from) }

module _ {s : State} {ds : List Due} {t : List ℕ} {from i : ℕ} {done : List Chunk} {at : ℕ} (g : Left s ds t from i done at) where
  pub left-done : length ds ≤ i → chunks_text s ds t from ≡ got done at
  left-done le = g.reads ∙ rw (drop_of_length-le ds le, chunks-none s t at, append-nil done)

  module _ (x : Due) (lt : i < length ds) where
    next : drop i ds ≡ get_or ds i x ∷ drop (i + 1) ds
    next = drop-cons ds i x lt ∙ rw add-one refl

    one_more : chunks_text s (drop i ds) t at ≡ and_then (chunk_text s (get_or ds i x) t at) (λ c e. and_then (chunks_text s (drop (i + 1) ds) t e) (λ cs q. got (c ∷ cs) q))
    one_more = ap (λ (rest : List Due). chunks_text s rest t at) next ∙ chunks-more s (get_or ds i x) (drop (i + 1) ds) t at

    pub left-bad : chunk_text s (get_or ds i x) t at ≡ no 20 0 → chunks_text s ds t from ≡ no 20 0
    left-bad h = g.reads ∙ rw (one_more, h)

    pub left-next : {c : Chunk} {e : ℕ} → chunk_text s (get_or ds i x) t at ≡ got c e → Left s ds t from (i + 1) (done ++ c ∷ []) e
    left-next {c} {e} h =
        record {
          count = length-snoc done c ∙ ap (λ (n : ℕ). n + 1) g.count;
          reads = g.reads ∙ rw (one_more, h) (one_on done c (chunks_text s (drop (i + 1) ds) t e));
        }

    -- where all of them are read, so is the next, and it stands behind those that were read
    pub left_one :
        {cs : List Chunk} {q : ℕ} → chunks_text s ds t from ≡ got cs q
        → (c : Chunk) × (more : List Chunk) × (e : ℕ) × (chunk_text s (get_or ds i x) t at ≡ got c e) × (done ++ c ∷ more ≡ cs)
    left_one {cs} {q} is = one (chunk_text s (get_or ds i x) t at) (sym (g.reads ∙ ap (λ (o : Out (List Chunk)). and_then o (λ more e. got (done ++ more) e)) one_more) ∙ is)
      where
        rest :
            (c : Chunk) (e : ℕ) (o : Out (List Chunk)) → and_then (and_then o (λ more e. got (c ∷ more) e)) (λ more e. got (done ++ more) e) ≡ got cs q
            → (c' : Chunk) × (more : List Chunk) × (e' : ℕ) × (got c e ≡ got c' e') × (done ++ c' ∷ more ≡ cs)
        rest c e (got more p) h = (c, more, e, refl, cc h)
        rest c e (no n p) h = not-got h

        one :
            (o : Out Chunk)
            → and_then (and_then o (λ c e. and_then (chunks_text s (drop (i + 1) ds) t e) (λ more e. got (c ∷ more) e))) (λ more e. got (done ++ more) e) ≡ got cs q
            → (c : Chunk) × (more : List Chunk) × (e : ℕ) × (o ≡ got c e) × (done ++ c ∷ more ≡ cs)
        one (got c e) h = rest c e (chunks_text s (drop (i + 1) ds) t e) h
        one (no n p) h = not-got h

-- ── their bytes ──

pub put_count : (s : State) (ds : List Due) (cs : List Chunk) → length cs ≡ length ds → length (put_chunks s ds cs) ≡ length ds
unfolding put_chunks
put_count s [] cs h = refl
put_count s (d ∷ ds) [] h = absurd (omega arith)
put_count s (d ∷ ds) (c ∷ cs) h = omega (arith, put_count s ds cs (omega arith))

pub put-none : (s : State) (ds : List Due) → put_chunks s ds [] ≡ []
unfolding put_chunks
put-none s [] = refl
put-none s (d ∷ ds) = refl

-- one chunk more
pub put-more :
    (s : State) (ds : List Due) (cs : List Chunk) (i : ℕ) (x : Due) (c : Chunk) → length cs ≡ i → i < length ds
    → put_chunks s ds (cs ++ c ∷ []) ≡ put_chunks s ds cs ++ put_chunk s (get_or ds i x) c ∷ []
unfolding put_chunks
put-more s [] cs i x c h lt = absurd (omega arith)
put-more s (d ∷ ds) [] zero x c h lt = ap (λ (r : List (List ℕ)). put_chunk s d c ∷ r) (put-none s ds)
put-more s (d ∷ ds) [] (suc i) x c h lt = absurd (omega arith)
put-more s (d ∷ ds) (b ∷ cs) zero x c h lt = absurd (omega arith)
put-more s (d ∷ ds) (b ∷ cs) (suc i) x c h lt = ap (λ (r : List (List ℕ)). put_chunk s d b ∷ r) (put-more s ds cs i x c (omega arith) (omega arith))

-- the first chunks have as many or fewer
pub put-longer : (s : State) (ds : List Due) (cs more : List Chunk) → length (flat (λ b. b) (put_chunks s ds cs)) ≤ length (flat (λ b. b) (put_chunks s ds (cs ++ more)))
unfolding put_chunks flat
put-longer s [] cs more = omega arith
put-longer s (d ∷ ds) [] more = omega arith
put-longer s (d ∷ ds) (c ∷ cs) more =
    let b = put_chunk s d c in
    omega (arith, put-longer s ds cs more, length-append b (flat (λ b. b) (put_chunks s ds cs)), length-append b (flat (λ b. b) (put_chunks s ds (cs ++ more))))

-- What the table says of the chunks due once the first of them have their sizes. Assumes nothing.
use Rattle.std.specs.Prelude.{◌≡◌, refl, List, [], ◌∷◌, ◌++◌, map, ℕ, zero, suc, ◌≤◌, ◌<◌, min, length, get_or}
use Rattle.std.proofs.Common.{sym, ap, arith}
use Rattle.paper.specs.File.{what}
use Rattle.paper.specs.Ledger.{Chunk, Due, State}
use Rattle.paper.specs.Pieces.{zip}
use Rattle.paper.specs.Encode.{put_chunk, put_chunks}
use Rattle.lay.specs.Laid.{most}
use Rattle.table.specs.Answers.{no_due}
use Rattle.table.specs.Sizes.{resized}

-- a count of bytes, which stands still at the largest number
abbrev pub counted : List ℕ → ℕ
counted b = min (length b) most

-- the chunks cs are those of the first that are due
unfoldable pub sized_by : State → List (Due × ℕ) → List Chunk → List (Due × ℕ)
sized_by s [] cs = []
sized_by s (d ∷ ds) [] = d ∷ ds
sized_by s (d ∷ ds) (c ∷ cs) = (d.0, counted (put_chunk s d.0 c)) ∷ sized_by s ds cs

pub sized-none : (s : State) (ds : List (Due × ℕ)) → sized_by s ds [] ≡ ds
unfolding sized_by
sized-none s [] = refl
sized-none s (d ∷ ds) = refl

-- the others are as they were
pub sized-at : (s : State) (ds : List (Due × ℕ)) (cs : List Chunk) (i : ℕ) → length cs ≤ i → get_or (sized_by s ds cs) i no_due ≡ get_or ds i no_due
unfolding sized_by
sized-at s [] cs i le = refl
sized-at s (d ∷ ds) [] i le = refl
sized-at s (d ∷ ds) (c ∷ cs) zero le = absurd (omega arith)
sized-at s (d ∷ ds) (c ∷ cs) (suc i) le = sized-at s ds cs i (omega arith)

pub sized_same : (s : State) (ds : List (Due × ℕ)) (cs : List Chunk) → map what (sized_by s ds cs) ≡ map what ds
unfolding sized_by
sized_same s [] cs = refl
sized_same s (d ∷ ds) [] = refl
sized_same s (d ∷ ds) (c ∷ cs) = ap (λ (r : List Due). d.0 ∷ r) (sized_same s ds cs)

-- one more has its size
pub sized-more :
    (s : State) (ds : List (Due × ℕ)) (cs : List Chunk) (i : ℕ) (c : Chunk) → length cs ≡ i → i < length ds
    → resized i (counted (put_chunk s (get_or ds i no_due).0 c)) (sized_by s ds cs) ≡ sized_by s ds (cs ++ c ∷ [])
unfolding sized_by resized
sized-more s [] cs i c h lt = absurd (omega arith)
sized-more s (d ∷ ds) [] zero c h lt = ap (λ (r : List (Due × ℕ)). (d.0, counted (put_chunk s d.0 c)) ∷ r) (sym (sized-none s ds))
sized-more s (d ∷ ds) [] (suc i) c h lt = absurd (omega arith)
sized-more s (d ∷ ds) (b ∷ cs) zero c h lt = absurd (omega arith)
sized-more s (d ∷ ds) (b ∷ cs) (suc i) c h lt =
    ap (λ (r : List (Due × ℕ)). (d.0, counted (put_chunk s d.0 b)) ∷ r) (sized-more s ds cs i c (omega arith) (omega arith))

-- all have
pub sized-all :
    (s : State) (ds : List (Due × ℕ)) (cs : List Chunk) → length cs ≡ length ds
    → sized_by s ds cs ≡ zip (map what ds) (map counted (put_chunks s (map what ds) cs))
unfolding sized_by zip put_chunks
sized-all s [] cs h = refl
sized-all s (d ∷ ds) [] h = absurd (omega arith)
sized-all s (d ∷ ds) (c ∷ cs) h = ap (λ (r : List (Due × ℕ)). (d.0, counted (put_chunk s d.0 c)) ∷ r) (sized-all s ds cs (omega arith))

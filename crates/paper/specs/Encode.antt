-- The bytes of a ledger: its pieces, every number in shortest coding. Assumes nothing.
use Rattle.std.specs.Prelude.{List, [], ◌∷◌, ◌++◌, ℕ}
use Rattle.paper.specs.Numbers.{put}
use Rattle.paper.specs.Lists.{flat}
use Rattle.paper.specs.Ledger.{Entry, Chunk, Pair, Ledger, Due, State, nothing}
use Rattle.paper.specs.Rules.{with_strings, dues, after_front, after_pair}
use Rattle.paper.specs.Pieces.{Piece, num, raw, ends_from, chunk_pieces, front_pieces}

unfoldable pub write : List Piece → List ℕ
write [] = []
write (num n ∷ ps) = put n ++ write ps
write (raw bs ∷ ps) = bs ++ write ps

unfoldable pub put_chunk : State → Due → Chunk → List ℕ
put_chunk s d c = write (chunk_pieces s d c)

unfoldable pub put_chunks : State → List Due → List Chunk → List (List ℕ)
put_chunks s [] cs = []
put_chunks s (d ∷ ds) [] = []
put_chunks s (d ∷ ds) (c ∷ cs) = put_chunk s d c ∷ put_chunks s ds cs

unfoldable pub put_front : State → List (List ℕ) → List Entry → List ℕ → List ℕ
put_front s strings entries es = write (front_pieces s strings entries es)

unfoldable pub put_pair : State → Pair → List ℕ
put_pair s p =
    let cs = put_chunks (after_front s p.strings p.entries) (dues (with_strings s p.strings) p.entries) p.chunks in
    put_front s p.strings p.entries (ends_from 0 cs) ++ flat (λ c. c) cs

unfoldable pub put_pairs : State → Ledger → List ℕ
put_pairs s [] = []
put_pairs s (p ∷ ps) = put_pair s p ++ put_pairs (after_pair s p) ps

unfoldable pub encode : Ledger → List ℕ
encode = put_pairs nothing

-- What is encoded is one of the files that say the ledger, and none of them is shorter. Assumes nothing.
use Rattle.std.specs.Prelude.{◌≡◌, refl, List, [], ◌∷◌, ◌++◌, ℕ, zero, suc, ◌+◌, ◌≤◌, length, take, drop}
use Rattle.std.proofs.Common.{◌∙◌, ap, arith, le_refl, length-append}
use Rattle.paper.specs.Numbers.{put}
use Rattle.paper.specs.Lists.{flat}
use Rattle.paper.specs.Ledger.{New, Entry, Chunk, Pair, Ledger, Due, State, nothing}
use Rattle.paper.specs.Rules.{known_due, with_strings, after_entry, dues, after_front, after_pair}
use Rattle.paper.specs.Pieces.{Piece, num, raw, free, ends_from, zip, string_pieces, head_pieces, kind_pieces, new_pieces, field_pieces, entry_pieces, entries_pieces, chunk_pieces, front_pieces}
use Rattle.paper.specs.Encode.{write, put_chunk, put_chunks, put_front, put_pair, put_pairs, encode}
use Rattle.paper.specs.Spell.{Spelt, done, number, bytes, SpeltChunks, SpeltPair, SpeltPairs, Spells}
use Rattle.laws.specs.Codes.{put-coding, put_low, put-short}

-- ── what is encoded says the ledger ──

write-spelt : (ps : List Piece) → Spelt ps (write ps)
unfolding write put
write-spelt [] = done
write-spelt (num n ∷ ps) = number (put n) (write ps) (put-coding 8 n) (put_low 8 n) (write-spelt ps)
write-spelt (raw bs ∷ ps) = bytes bs (write ps) (write-spelt ps)

pub chunks-spelt : (s : State) (ds : List Due) (l : List Chunk) → SpeltChunks s ds l (put_chunks s ds l)
unfolding SpeltChunks put_chunks put_chunk
chunks-spelt s [] l = refl
chunks-spelt s (d ∷ ds) [] = refl
chunks-spelt s (d ∷ ds) (c ∷ l) = (write-spelt (chunk_pieces s d c), chunks-spelt s ds l)

pair-spelt : (s : State) (p : Pair) → SpeltPair s p (put_pair s p)
unfolding put_pair put_front
pair-spelt s p =
    let cs = put_chunks (after_front s p.strings p.entries) (dues (with_strings s p.strings) p.entries) p.chunks in
    record {
      front = put_front s p.strings p.entries (ends_from 0 cs);
      chunks = cs;
      is = refl;
      fronted = write-spelt (front_pieces s p.strings p.entries (ends_from 0 cs));
      chunked = chunks-spelt (after_front s p.strings p.entries) (dues (with_strings s p.strings) p.entries) p.chunks;
    }

pairs-spelt : (s : State) (l : Ledger) → SpeltPairs s l (put_pairs s l)
unfolding SpeltPairs put_pairs
pairs-spelt s [] = refl
pairs-spelt s (p ∷ l) = (put_pair s p, put_pairs (after_pair s p) l, refl, pair-spelt s p, pairs-spelt (after_pair s p) l)

pub encode-spells : (l : Ledger) → Spells (encode l) l
unfolding Spells encode
encode-spells l = pairs-spelt nothing l

-- ── no file that says the ledger is shorter ──

-- the same pieces, but for numbers that are no larger
data Below : List Piece → List Piece → Type 0 where
  ended : Below [] []
  smaller : {m n : ℕ} {ps qs : List Piece} → m ≤ n → Below ps qs → Below (num m ∷ ps) (num n ∷ qs)
  same : {bs : List ℕ} {ps qs : List Piece} → Below ps qs → Below (raw bs ∷ ps) (raw bs ∷ qs)

below-same : (ps : List Piece) → Below ps ps
below-same [] = ended
below-same (num n ∷ ps) = smaller (le_refl n) (below-same ps)
below-same (raw bs ∷ ps) = same (below-same ps)

below-join : {ps qs : List Piece} (rs ts : List Piece) → Below ps qs → Below rs ts → Below (ps ++ rs) (qs ++ ts)
below-join rs ts ended b = b
below-join rs ts (smaller h a) b = smaller h (below-join rs ts a b)
below-join rs ts (same a) b = same (below-join rs ts a b)

below-short : {ps qs : List Piece} {cs : List ℕ} → Below ps qs → Spelt qs cs → length (write ps) ≤ length cs
unfolding write put
below-short ended t = omega arith
below-short (smaller {m = m} h a) (number c d k e t) =
    rw (length-append, length-append) (omega (arith, put-short m c k (rw e h), below-short a t))
below-short (same a) (bytes c d t) = rw (length-append, length-append) (omega (arith, below-short a t))

-- end offsets of which none is larger
abbrev Under : List ℕ → List ℕ → Type 0
Under [] [] = Unit {0}
Under [] (e ∷ es) = ⊥
Under (d ∷ ds) [] = ⊥
Under (d ∷ ds) (e ∷ es) = (d ≤ e) × Under ds es

under-take : (n : ℕ) (ds es : List ℕ) → Under ds es → Under (take n ds) (take n es)
under-take zero ds es h = tt
under-take (suc n) [] [] h = tt
under-take (suc n) [] (e ∷ es) h = absurd h
under-take (suc n) (d ∷ ds) [] h = absurd h
under-take (suc n) (d ∷ ds) (e ∷ es) h = (h.0, under-take n ds es h.1)

under_drop : (n : ℕ) (ds es : List ℕ) → Under ds es → Under (drop n ds) (drop n es)
under_drop zero ds es h = h
under_drop (suc n) [] [] h = tt
under_drop (suc n) [] (e ∷ es) h = absurd h
under_drop (suc n) (d ∷ ds) [] h = absurd h
under_drop (suc n) (d ∷ ds) (e ∷ es) h = under_drop n ds es h.1

below-ends : (ds es : List ℕ) → Under ds es → Below (flat free ds) (flat free es)
unfolding flat
below-ends [] [] h = ended
below-ends [] (e ∷ es) h = absurd h
below-ends (d ∷ ds) [] h = absurd h
below-ends (d ∷ ds) (e ∷ es) h = smaller h.0 (below-ends ds es h.1)

below_new : (g : New) (d e : ℕ) → d ≤ e → Below (new_pieces (g, d)) (new_pieces (g, e))
unfolding new_pieces
below_new g d e h = below-join (free d) (free e) (below-same (free 0 ++ kind_pieces g.kind ++ free g.name)) (smaller h ended)

below-news : (gs : List New) (ds es : List ℕ) → Under ds es → Below (flat new_pieces (zip gs ds)) (flat new_pieces (zip gs es))
unfolding flat zip
below-news [] ds es h = ended
below-news (g ∷ gs) [] [] h = ended
below-news (g ∷ gs) [] (e ∷ es) h = absurd h
below-news (g ∷ gs) (d ∷ ds) [] h = absurd h
below-news (g ∷ gs) (d ∷ ds) (e ∷ es) h = below-join _ _ (below_new g d e h.0) (below-news gs ds es h.1)

below-fields : (known : ℕ) (gs : List New) (ds es : List ℕ) → Under ds es → Below (field_pieces known gs ds) (field_pieces known gs es)
unfolding field_pieces
below-fields known gs ds es h =
    below-join _ _ (below-join _ _ (below-same (free (known + length gs))) (below-ends (take known ds) (take known es) (under-take known ds es h)))
    (below-news gs (drop known ds) (drop known es) (under_drop known ds es h))

below-entries : (s : State) (l : List Entry) (ds es : List ℕ) → Under ds es → Below (entries_pieces s l ds) (entries_pieces s l es)
unfolding entries_pieces entry_pieces
below-entries s [] ds es h = ended
below-entries s (e ∷ l) ds es h =
    let known = length (known_due s e.head) in
    let n = known + length e.news in
    below-join _ _ (below-join _ _ (below-same (head_pieces e.head)) (below-fields known e.news (take n ds) (take n es) (under-take n ds es h)))
    (below-entries (after_entry s e) l (drop n ds) (drop n es) (under_drop n ds es h))

below-front : (s : State) (ss : List (List ℕ)) (l : List Entry) (ds es : List ℕ) → Under ds es → Below (front_pieces s ss l ds) (front_pieces s ss l es)
unfolding front_pieces
below-front s ss l ds es h = below-join _ _ (below-same (string_pieces ss ++ free (length l))) (below-entries (with_strings s ss) l ds es h)

-- chunks of which none is longer
record Shorter (bs cs : List (List ℕ)) : Type 0 where
  all : length (flat (λ c. c) bs) ≤ length (flat (λ c. c) cs)
  ends : (m n : ℕ) → m ≤ n → Under (ends_from m bs) (ends_from n cs)

chunks-short : (s : State) (ds : List Due) (l : List Chunk) (bs : List (List ℕ)) → SpeltChunks s ds l bs → Shorter (put_chunks s ds l) bs
unfolding SpeltChunks put_chunks put_chunk flat ends_from
chunks-short s [] l bs h = rw h (record { all = omega arith; ends = λ m n le. tt })
chunks-short s (d ∷ ds) [] bs h = rw h (record { all = omega arith; ends = λ m n le. tt })
chunks-short s (d ∷ ds) (c ∷ l) [] h = absurd h
chunks-short s (d ∷ ds) (c ∷ l) (b ∷ bs) h =
    let ih = chunks-short s ds l bs h.1 in
    let one : length (put_chunk s d c) ≤ length b = below-short (below-same (chunk_pieces s d c)) h.0 in
    record {
      all = rw (length-append, length-append) (omega (arith, ih.all));
      ends = λ m n le. (omega arith, ih.ends (m + length (put_chunk s d c)) (n + length b) (omega arith));
    }

pair-short : (s : State) (p : Pair) (f : List ℕ) → SpeltPair s p f → length (put_pair s p) ≤ length f
unfolding put_pair put_front
pair-short s p f P =
    let s₂ = after_front s p.strings p.entries in
    let ds = dues (with_strings s p.strings) p.entries in
    let cs = put_chunks s₂ ds p.chunks in
    let C = chunks-short s₂ ds p.chunks P.chunks P.chunked in
    let front : length (put_front s p.strings p.entries (ends_from 0 cs)) ≤ length P.front =
    (below-short (below-front s p.strings p.entries (ends_from 0 cs) (ends_from 0 P.chunks) (C.ends 0 0 (omega arith))) P.fronted) in
    let whole : length f ≡ length P.front + length (flat (λ c. c) P.chunks) = ap length P.is ∙ length-append P.front (flat (λ c. c) P.chunks) in
    rw length-append (omega (arith, C.all))

pairs-short : (s : State) (l : Ledger) (f : List ℕ) → SpeltPairs s l f → length (put_pairs s l) ≤ length f
unfolding SpeltPairs put_pairs
pairs-short s [] f h = omega arith
pairs-short s (p ∷ l) f (c, d, e, P, h) =
    let whole : length f ≡ length c + length d = ap length e ∙ length-append c d in
    rw length-append (omega (arith, pair-short s p c P, pairs-short (after_pair s p) l d h))

-- what is encoded is the shortest of the files that say the ledger
pub encode-short : (f : List ℕ) (l : Ledger) → Spells f l → length (encode l) ≤ length f
unfolding Spells encode
encode-short f l h = pairs-short nothing l f h

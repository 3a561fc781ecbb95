-- A file is accepted exactly when it says a ledger that keeps the rules, in whatever codings. Assumes nothing.
use Rattle.std.specs.Prelude.{◌≡◌, refl, true, List, [], ◌∷◌, ◌++◌, map, ℕ, suc, ◌+◌, ◌-◌, ◌^◌, ◌≤◌, ◌<◌, length}
use Rattle.std.proofs.Common.{sym, ◌∙◌, ap, subst, append_assoc, append-nil, arith, zero-add, length-append, leb-true, le-leb}
use Rattle.paper.specs.Reader.{when◌then◌else◌, got, each, refuse}
use Rattle.paper.specs.Ledger.{Entry, Chunk, Pair, Ledger, Due, State, nothing}
use Rattle.paper.specs.Lists.{all, last_or, flat}
use Rattle.paper.specs.Bounds.{most_bytes, most_pairs}
use Rattle.paper.specs.Rules.{small_rules, strings_rules, with_strings, kinds_stand?, any_type, after_entry, dues, after_front, after_pair}
use Rattle.paper.specs.File.{Front, small, what, ends, chunk, sized, data_region, front, kinds_named, pair_from, pair, pairs, file}
use Rattle.paper.specs.Pieces.{ends_from}
use Rattle.paper.specs.Encode.{put_chunks, encode}
use Rattle.paper.specs.Pieces.{Piece, free, string_pieces, entries_pieces, chunk_pieces, front_pieces}
use Rattle.paper.specs.Spell.{Spelt, number, bytes, SpeltChunks, SpeltPair, SpeltPairs, Spells}
use Rattle.paper.specs.Keeps.{in_turn, number?, bytes?, entry?, chunk?, chunks?, pair?, keeps?}
use Rattle.laws.specs.Faithful.{named-inv, named-stands}
use Rattle.laws.specs.Longer.{file-inv, file-length}
use Rattle.laws.specs.ToEnd.{refuse-never, Chain, chain-kept, chain-taken, chain-bytes}
use Rattle.laws.specs.Says.{Bytes, Says, Said, weaker, give-says, bind-says, then-says, within-says, part_says, each-says, Run}
use Rattle.laws.specs.Takes.{Takes, takes-as, give-takes, bind-takes, then-takes, within-takes, part-takes}
use Rattle.laws.specs.Spelling.{coding-some, spelt-by, spelt-join, spelt-end, Reads, reads_as, reads-is, give-reads, bind-reads}
use Rattle.laws.specs.Shortest.{encode-spells, encode-short}
use Rattle.laws.specs.Bools.{not_so, and_split, and-join, every-split, every-join}
use Rattle.laws.specs.Values.{number-kept, number-taken, chunk_kept, chunk-taken}
use Rattle.laws.specs.Heads.{strings-kept, strings-taken, ends_last, ends-length}
use Rattle.laws.specs.Entries.{Rising, entries-says, entries-taken, share, what-share, ends-share}

-- ── the data region ──

record RegionSays (s : State) (ds : List Due) (from : ℕ) (es : List ℕ) (l : List Chunk) (cs : List ℕ) : Type 0 where
  chunks : List (List ℕ)
  is : flat (λ c. c) chunks ≡ cs
  spelt : SpeltChunks s ds l chunks
  kept : chunks? s ds l ≡ true
  ended : ends_from from chunks ≡ es

ChunkSays : State → Due × ℕ → Chunk → List ℕ → Type 0
ChunkSays s d c cs = (Spelt (chunk_pieces s d.0 c) cs × (chunk? s d.0 c ≡ true)) × (length cs ≡ d.1)

run-chunks :
    (s : State) (ds : List Due) (from : ℕ) (es : List ℕ) (u : Unit {0}) (l : List Chunk) (cs : List ℕ) → length es ≡ length ds → Rising from es
    → Run (λ u d. ChunkSays s d) (λ u c. u) (sized from ds es) u l cs → RegionSays s ds from es l cs
unfolding sized SpeltChunks chunks? ends_from flat ChunkSays
run-chunks s [] from [] u [] cs n r x = record { chunks = []; is = sym x; spelt = refl; kept = refl; ended = refl }
run-chunks s [] from [] u (c ∷ l) cs n r x = absurd x
run-chunks s [] from (e ∷ es) u l cs n r x = absurd (omega arith)
run-chunks s (d ∷ ds) from [] u l cs n r x = absurd (omega arith)
run-chunks s (d ∷ ds) from (e ∷ es) u [] cs n r x = absurd x
run-chunks s (d ∷ ds) from (e ∷ es) u (c ∷ l) cs n r (c₁, d₁, q, ((p, ok), len), x) =
    let ih = run-chunks s ds e es u l d₁ (omega arith) r.2 x in
    let z : from + length c₁ ≡ e = omega (arith, r.0) in
    record {
      chunks = c₁ ∷ ih.chunks;
      is = rw ih.is (sym q);
      spelt = (p, ih.spelt);
      kept = and-join ok ih.kept;
      ended = rw (z, ih.ended);
    }

region-says :
    (s : State) (ds : List Due) (es : List ℕ) → length es ≡ length ds → Rising 0 es → Says (data_region s ds es) (RegionSays s ds 0 es)
unfolding data_region ChunkSays
region-says s ds es n r =
    part_says (last_or 0 es)
    (weaker _ (λ l cs q. run-chunks s ds 0 es tt l cs n r q) (each-says _ (λ u d. ChunkSays s d) (λ u d. chunk_kept s d) (sized 0 ds es) tt))

-- the kinds' test reads nothing
named-says :
    (s : State) (start : ℕ) (d : Front) → Says (kinds_named s start d) (λ u cs. (cs ≡ []) × (kinds_stand? (after_front s d.strings d.entries) d.entries ≡ true))
named-says s start d = record { at = go }
  where
    go :
        (f : List ℕ) (at : ℕ) (v : Unit {0}) (e : ℕ) → Bytes f → at ≤ length f → kinds_named s start d f at ≡ got v e
        → Said (λ u cs. (cs ≡ []) × (kinds_stand? (after_front s d.strings d.entries) d.entries ≡ true)) f at v e
    go f at v e b h q =
        let (t, z) = named-inv s start d f at v e q in
        let n : e - at ≡ 0 = omega arith in
        record { forward = omega arith; inside = omega arith; said = rw n (refl, t) }

named-takes :
    (s : State) (start : ℕ) (d : Front) → kinds_stand? (after_front s d.strings d.entries) d.entries ≡ true → Takes (kinds_named s start d) [] tt
named-takes s start d h =
    record { bytes = tt; at = λ f p rest le q. named-stands s start d f p h ∙ ap (got tt) (omega arith) }

chunks-taken :
    (s : State) (ds : List Due) (from : ℕ) (l : List Chunk) (bs : List (List ℕ)) → SpeltChunks s ds l bs → chunks? s ds l ≡ true
    → Takes (each (λ (u : Unit {0}). chunk s) (λ u c. u) (sized from ds (ends_from from bs)) tt) (flat (λ c. c) bs) l
unfolding sized SpeltChunks chunks? ends_from flat each
chunks-taken s [] from [] bs t h = rw t (give-takes [])
chunks-taken s [] from (c ∷ l) bs t h = not_so h
chunks-taken s (d ∷ ds) from [] bs t h = not_so h
chunks-taken s (d ∷ ds) from (c ∷ l) [] t h = absurd t
chunks-taken s (d ∷ ds) from (c ∷ l) (b ∷ bs) t h =
    let (x, y) = and_split (chunk? s d c) _ h in
    takes-as (ap (λ (z : List ℕ). b ++ z) (append-nil _))
    (bind-takes _ (chunk-taken s (d, from + length b - from) c b t.0 (omega arith) x)
    (bind-takes _ (chunks-taken s ds (from + length b) l bs t.1 y) (give-takes (c ∷ l))))

region-taken :
    (s : State) (ds : List Due) (l : List Chunk) (bs : List (List ℕ)) → SpeltChunks s ds l bs → chunks? s ds l ≡ true → Takes (data_region s ds (ends_from 0 bs)) (flat (λ c. c) bs) l
unfolding data_region
region-taken s ds l bs t h = part-takes (last_or 0 (ends_from 0 bs)) (sym (ends_last 0 bs ∙ zero-add _)) (chunks-taken s ds 0 l bs t h)

-- ── the pair ──

pub record FrontSays (s : State) (d : Front) (cs : List ℕ) : Type 0 where
  pub is : Spelt (front_pieces s d.strings d.entries d.ends) cs
  pub strings : number? (strings_rules s) (length d.strings) ≡ true
  pub bytes : all bytes? d.strings ≡ true
  pub number : number? small_rules (length d.entries) ≡ true
  pub kept : in_turn entry? after_entry (with_strings s d.strings) d.entries ≡ true
  pub many : length d.ends ≡ length (dues (with_strings s d.strings) d.entries)
  pub rising : Rising 0 d.ends

front-parts :
    (ss : List (List ℕ)) (l : List Entry) {rest : List Piece} {cs ds gs : List ℕ} → Spelt (string_pieces ss) cs → Spelt (free (length l)) ds → Spelt rest gs
    → Spelt (string_pieces ss ++ free (length l) ++ rest) (cs ++ (ds ++ gs))
front-parts ss l {rest} p q r =
    spelt-by (sym (append_assoc (string_pieces ss) (free (length l)) rest)) (spelt-join (string_pieces ss) _ p (spelt-join (free (length l)) rest q r))

pub front-says : (s : State) → Says (front any_type s) (FrontSays s)
unfolding front front_pieces small
front-says s =
    bind-says _ (strings-kept s) λ strings cs p. bind-says _ (number-kept small_rules) λ n ds q.
    bind-says _ (entries-says n (record { state = with_strings s strings; end = 0 })) λ es gs r. give-says _ _
    (record {
      is = front-parts strings (map what es) p.0 (subst (λ (z : ℕ). Spelt (free z) ds) (sym r.1) q.0) (spelt-end (entries_pieces (with_strings s strings) (map what es) (flat ends es)) r.0.is);
      strings = p.1;
      bytes = p.2;
      number = rw r.1 q.1;
      kept = r.0.kept;
      many = r.0.many;
      rising = r.0.rising;
    })

front-taken :
    (s : State) (d : Front) → number? (strings_rules s) (length d.strings) ≡ true → all bytes? d.strings ≡ true → length (flat (λ s. s) d.strings) < 256 ^ 4
    → number? small_rules (length d.entries) ≡ true → in_turn entry? after_entry (with_strings s d.strings) d.entries ≡ true
    → length d.ends ≡ length (dues (with_strings s d.strings) d.entries) → Rising 0 d.ends
    → Reads (front any_type s) (front_pieces s d.strings d.entries d.ends) d
unfolding front front_pieces small
front-taken s d a x lt b c n r =
    let s₁ = with_strings s d.strings in
    let same : ◌≡◌ {A = Front} (record { strings = d.strings; entries = map what (share s₁ d.entries d.ends); ends = flat ends (share s₁ d.entries d.ends) }) d =
    rw (what-share s₁ d.entries d.ends, ends-share s₁ d.entries d.ends n) in
    reads-is same
    (reads_as (ap (λ (z : List Piece). string_pieces d.strings ++ (free (length d.entries) ++ z)) (append-nil _) ∙ sym (append_assoc (string_pieces d.strings) (free (length d.entries)) _))
    (bind-reads _ (strings-taken s d.strings a x lt)
    (bind-reads _ (number-taken small_rules (length d.entries) b)
    (bind-reads _ (entries-taken (record { state = s₁; end = 0 }) d.entries d.ends c n r)
    (give-reads (record { strings = d.strings; entries = map what (share s₁ d.entries d.ends); ends = flat ends (share s₁ d.entries d.ends) }))))))

from-kept : (s : State) (start : ℕ) → Says (pair_from s start) (λ p cs. SpeltPair s p cs × (pair? s p ≡ true))
unfolding pair_from pair?
from-kept s start =
    bind-says _ (front-says s) λ d cs p.
    bind-says _
    (within-says (last_or 0 d.ends)
    (then-says
    (λ l gs. RegionSays (after_front s d.strings d.entries) (dues (with_strings s d.strings) d.entries) 0 d.ends l gs × (kinds_stand? (after_front s d.strings d.entries) d.entries ≡ true))
    (named-says s start d)
    λ u gs k. rw k.0 (weaker _ (λ l hs q. (q, k.1)) (region-says (after_front s d.strings d.entries) (dues (with_strings s d.strings) d.entries) d.ends p.many p.rising))))
    λ chunks ds q. give-says _ _ (
      record {
        front = cs;
        chunks = q.0.chunks;
        is = ap (λ (z : List ℕ). cs ++ z) (append-nil ds ∙ sym q.0.is);
        fronted = subst (λ (z : List ℕ). Spelt (front_pieces s d.strings d.entries z) cs) (sym q.0.ended) p.is;
        chunked = q.0.spelt;
      },
      every-join _ (p.strings, (p.bytes, (p.number, (p.kept, (q.1, (q.0.kept, tt)))))),
    )

pub pair-kept : (s : State) → Says (pair s) (λ p cs. SpeltPair s p cs × (pair? s p ≡ true))
unfolding pair
pair-kept s = record { at = λ f at v e b h q. (from-kept s at).at f at v e b h q }

rising-from : (from : ℕ) (bs : List (List ℕ)) → from + length (flat (λ c. c) bs) < 256 ^ 8 → Rising from (ends_from from bs)
unfolding ends_from flat
rising-from from [] h = tt
rising-from from (b ∷ bs) h =
    let n = length-append b (flat (λ c. c) bs) in
    (omega arith, omega arith, rising-from (from + length b) bs (omega arith))

pub chunks-length : (s : State) (ds : List Due) (l : List Chunk) (bs : List (List ℕ)) → SpeltChunks s ds l bs → chunks? s ds l ≡ true → length bs ≡ length ds
unfolding chunks? SpeltChunks
chunks-length s [] [] bs t h = rw t
chunks-length s [] (c ∷ l) bs t h = not_so h
chunks-length s (d ∷ ds) [] bs t h = not_so h
chunks-length s (d ∷ ds) (c ∷ l) [] t h = absurd t
chunks-length s (d ∷ ds) (c ∷ l) (b ∷ bs) t h = ap suc (chunks-length s ds l bs t.1 (and_split (chunk? s d c) _ h).1)

-- the bytes of a pair's chunks, as they are encoded
abbrev pub chunks_of : State → Pair → List (List ℕ)
chunks_of s p = put_chunks (after_front s p.strings p.entries) (dues (with_strings s p.strings) p.entries) p.chunks

-- a front has a byte, and the strings are no longer than it
front_length : (s : State) (ss : List (List ℕ)) (l : List Entry) (es cs : List ℕ) → Spelt (front_pieces s ss l es) cs → (0 < length cs) × (length (flat (λ s. s) ss) ≤ length cs)
unfolding front_pieces string_pieces
front_length s ss l es cs (number c d k e (bytes a b (bytes x y t))) =
    rw (length-append, length-append, length-append) (omega (arith, coding-some c k), omega arith)

-- so has a pair; and its strings and its region are no longer than it
pair-length : (s : State) (p : Pair) (f : List ℕ) (P : SpeltPair s p f) → (0 < length f) × (length (flat (λ s. s) p.strings) ≤ length f) × (length (flat (λ c. c) P.chunks) ≤ length f)
pair-length s p f P =
    let h = front_length s p.strings p.entries (ends_from 0 P.chunks) P.front P.fronted in
    let n : length f ≡ length P.front + length (flat (λ c. c) P.chunks) = ap length P.is ∙ length-append P.front (flat (λ c. c) P.chunks) in
    (omega arith, omega arith, omega arith)

from-taken : (s : State) (start : ℕ) (p : Pair) (f : List ℕ) → SpeltPair s p f → length f ≤ most_bytes → pair? s p ≡ true → Takes (pair_from s start) f p
unfolding pair_from pair?
from-taken s start p f P le h =
    let (a, (b, (c, (d, (e, (g, _)))))) = every-split _ h in
    let s₂ = after_front s p.strings p.entries in
    let ds = dues (with_strings s p.strings) p.entries in
    let cs = P.chunks in
    let n = pair-length s p f P in
    let front : Front = record { strings = p.strings; entries = p.entries; ends = ends_from 0 cs } in
    takes-as (ap (λ (z : List ℕ). P.front ++ z) (append-nil _) ∙ sym P.is)
    (bind-takes _
    ((front-taken s front a b (omega arith) c d (ends-length 0 cs ∙ chunks-length s₂ ds p.chunks cs P.chunked g) (rising-from 0 cs (omega arith))).at P.front P.fronted)
    (bind-takes _
    (within-takes (last_or 0 (ends_from 0 cs)) (omega (arith, ends_last 0 cs)) (then-takes (named-takes s start front e) (region-taken s₂ ds p.chunks cs P.chunked g)))
    (give-takes p)))

pub pair-taken : (s : State) (p : Pair) (f : List ℕ) → SpeltPair s p f → length f ≤ most_bytes → pair? s p ≡ true → Takes (pair s) f p
unfolding pair
pair-taken s p f P le h = record { bytes = (from-taken s 0 p f P le h).bytes; at = λ g at rest hp q. (from-taken s at p f P le h).at g at rest hp q }

-- ── the file ──

pairs-chain : (s : State) (l : Ledger) (f : List ℕ) → Chain SpeltPair after_pair s l f → SpeltPairs s l f
unfolding SpeltPairs
pairs-chain s [] f h = h
pairs-chain s (p ∷ l) f (c, d, e, P, h) = (c, d, e, P, pairs-chain (after_pair s p) l d h)

chain-pairs : (s : State) (l : Ledger) (f : List ℕ) → SpeltPairs s l f → Chain SpeltPair after_pair s l f
unfolding SpeltPairs
chain-pairs s [] f h = h
chain-pairs s (p ∷ l) f (c, d, e, P, h) = (c, d, e, P, chain-pairs (after_pair s p) l d h)

-- an accepted file says its ledger, and the ledger keeps the rules
pub file-kept : (f : List ℕ) (l : Ledger) (e : ℕ) → Bytes f → file f ≡ got l e → Spells f l × (keeps? l ≡ true) × (e ≡ length f)
unfolding Spells keeps? pairs
file-kept f l e b q =
    let k = chain-kept (refuse 3) (refuse-never 3) pair after_pair SpeltPair pair? pair-kept most_pairs nothing f l e b (file-inv f l e q) in
    let says : Spells f l = pairs-chain nothing l f k.0 in
    let short : length (encode l) ≤ most_bytes = omega (arith, encode-short f l says, file-length f l e q) in
    (says, every-join _ (le-leb (length (encode l)) most_bytes short, (le-leb (length l) most_pairs k.2, (k.1, tt))), k.3)

module _ (f : List ℕ) (l : Ledger) (S : Spells f l) (h : keeps? l ≡ true) (few : length f ≤ most_bytes) where
  -- what says a ledger that keeps the rules is bytes
  pub spells-bytes : Bytes f
  unfolding Spells keeps?
  spells-bytes =
      let (a, (b, (c, _))) = every-split _ h in
      chain-bytes (refuse 3) (refuse-never 3) pair after_pair SpeltPair pair? most_bytes pair-taken (λ s p c P. (pair-length s p c P).0) l nothing f (chain-pairs nothing l f S) c few

  -- and is read
  pub file-taken : file f ≡ got l (length f)
  unfolding Spells keeps? file pairs when◌then◌else◌
  file-taken =
      let (a, (b, (c, _))) = every-split _ h in
      rw (le-leb (length f) most_bytes few)
      (chain-taken (refuse 3) (refuse-never 3) pair after_pair SpeltPair pair? most_bytes pair-taken (λ s p c P. (pair-length s p c P).0) most_pairs nothing l f (chain-pairs nothing l f S) (leb-true _ most_pairs b) c few)

-- what is encoded is not too long
pub encode-fits : (l : Ledger) → keeps? l ≡ true → length (encode l) ≤ most_bytes
unfolding keeps?
encode-fits l h = leb-true _ most_bytes (every-split _ h).0

pub encode-bytes : (l : Ledger) → keeps? l ≡ true → Bytes (encode l)
encode-bytes l h = spells-bytes (encode l) l (encode-spells l) h (encode-fits l h)

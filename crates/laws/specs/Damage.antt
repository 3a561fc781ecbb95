-- Two accepted files that differ only inside one field's chunks have the same other columns. Assumes nothing.
use Rattle.std.specs.Prelude.{◌≡◌, Bool, ◌&&◌, ◌⊎◌, ℕ, zero, suc, ◌+◌, ◌-◌, ◌≤◌, ◌<◌, leb, ltb, get_or, take, drop}
use Rattle.std.proofs.Math.Path.{refl, sym, ap}
use Rattle.std.proofs.Common.{◌∙◌, inl, inr, arith, add_assoc, add-zero, length-take, length-drop, get_or-take, get_or-drop, eqb-true, ne_eqb, le-leb, le-ltb}
use Rattle.std.proofs.Math.Bool.{true, false}
use Rattle.std.proofs.Math.Option.{some}
use mathlib.Core.List.{List, [], ◌∷◌, ◌++◌}
use Rattle.std.proofs.Math.Dec.{eqb}
use Rattle.std.proofs.Math.ListN.{length}
use Rattle.std.proofs.lemmas.Bool.{lt-leb}
use Rattle.paper.specs.Reader.{when◌then◌else◌, Reader, got, ◌>>=◌, give, each, within, refuse, to_end}
use Rattle.paper.specs.Ledger.{mapping, Kind, constant, plain, array, many, Chunk, Pair, Ledger, Due, State, nothing, field_at, type_named, field_named}
use Rattle.paper.specs.Lists.{fold, any, last_or}
use Rattle.paper.specs.Bounds.{most_pairs}
use Rattle.paper.specs.Rules.{with_strings, any_type, dues, after_front, closed, after_pair}
use Rattle.paper.specs.File.{Front, chunk, sized, data_region, front, pair_from, pair, pairs, file}
use Rattle.paper.specs.Places.{Spot, spots_from, pair_spots, spots_of, spots, inside?}
use Rattle.paper.specs.Calls.{Answer, done, refused, read, check, known, values_in, chunk_values, field_values, column_by, column_of, sought, count_values, fill_values, ◌>>=◌ as ◌then=◌}
use Rattle.laws.specs.Columns.{bind_done, then-done, answered-done}
use Rattle.laws.specs.Asked.{sought-asks}
use Rattle.laws.specs.Laws.{not-got, bind_inv, part-faithful, each-inv, part-inv, within-inv}
use Rattle.laws.specs.Faithful.{front-faithful, region-end, region, region-inv}
use Rattle.laws.specs.Longer.{unless_end-inv, AtEnd, Before, file-inv}

-- ── spots that come later ──

abbrev Later : ℕ → List Spot → Type 0
Later at [] = Unit {0}
Later at (p ∷ ps) = (at ≤ p.start) × Later at ps

later-less : (a b : ℕ) (ps : List Spot) → a ≤ b → Later b ps → Later a ps
later-less a b [] le h = tt
later-less a b (p ∷ ps) le h = (omega (arith, h.0), later-less a b ps le h.1)

later-append : (a : ℕ) (ps qs : List Spot) → Later a ps → Later a qs → Later a (ps ++ qs)
later-append a [] qs h k = k
later-append a (p ∷ ps) qs h k = (h.0, later-append a ps qs h.1 k)

later-from : (at : ℕ) (ds : List (Due × ℕ)) → Later at (spots_from at ds)
unfolding spots_from
later-from at [] = tt
later-from at (d ∷ ds) = (omega arith, later-less at (at + d.1) (spots_from (at + d.1) ds) (omega arith) (later-from (at + d.1) ds))

and_no : (a b c : Bool) → b ≡ false → (a && b && c) ≡ false
and_no true b c h = rw h
and_no false b c h = refl

and-no' : (a b c : Bool) → c ≡ false → (a && b && c) ≡ false
and-no' true true c h = h
and-no' true false c h = refl
and-no' false b c h = refl

later-outside : (i k at : ℕ) (ps : List Spot) → k < at → Later at ps → inside? i k ps ≡ false
unfolding inside? any
later-outside i k at [] lt h = refl
later-outside i k at (p ∷ ps) lt h =
    rw (and_no (eqb p.field i) (leb p.start k) (ltb k p.end) (lt-leb p.start k (omega (arith, h.0))), later-outside i k at ps lt h.1)

-- behind a spot
past-outside : (i k : ℕ) (p : Spot) (ps : List Spot) → p.end ≤ k → inside? i k (p ∷ ps) ≡ inside? i k ps
unfolding inside? any
past-outside i k p ps le = rw (and-no' (eqb p.field i) (leb p.start k) (ltb k p.end) (le-ltb k p.end le))

-- a spot of another field
other-outside : (i k : ℕ) (p : Spot) (ps : List Spot) → (p.field ≡ i → ⊥) → inside? i k (p ∷ ps) ≡ inside? i k ps
unfolding inside? any
other-outside i k p ps ne = rw (ne_eqb p.field i ne)

-- ── chunks ──

-- the same chunks, but for those of field i
abbrev pub AlikeChunks : ℕ → List Due → List Chunk → List Chunk → Type 0
AlikeChunks i [] cs cs' = Unit {0}
AlikeChunks i (d ∷ ds) [] [] = Unit {0}
AlikeChunks i (d ∷ ds) [] (c ∷ cs) = ⊥
AlikeChunks i (d ∷ ds) (c ∷ cs) [] = ⊥
AlikeChunks i (d ∷ ds) (c ∷ cs) (c' ∷ cs') = ((d.field ≡ i → ⊥) → c ≡ c') × AlikeChunks i ds cs cs'

abbrev pub chunks_of : State → List (Due × ℕ) → Reader (List Chunk)
chunks_of s ds = each (λ (u : Unit {0}). chunk s) (λ u c. u) ds tt

-- in a region that begins at m, from `at` on, f and g differ only in spots of field i
abbrev OffIn : ℕ → ℕ → List ℕ → List ℕ → ℕ → List Spot → Type 0
OffIn i m f g at ps = (k : ℕ) → at ≤ k → k < length f → inside? i (m + k) ps ≡ false → get_or f k 0 ≡ get_or g k 0

module _ (i m : ℕ) (s : State) (f g : List ℕ) (same : length f ≡ length g) where
  chunk-alike :
      (d : Due × ℕ) (at : ℕ) (c c' : Chunk) (e e' : ℕ) (ps : List Spot) → at ≤ length f → Later (m + at + d.1) ps → chunk s d f at ≡ got c e
      → chunk s d g at ≡ got c' e' → OffIn i m f g at (record { field = d.0.field; start = m + at; end = m + at + d.1 } ∷ ps) → (d.0.field ≡ i → ⊥) → c ≡ c'
  unfolding chunk
  chunk-alike d at c c' e e' ps h l p q o ne =
      let P = part-inv d.1 _ f at c e p in
      let room = P.room in
      let stop = P.ends in
      let L = ((part-faithful d.1 _).at f at c e h p).local g (omega arith)
      (λ k lo hi hi'. o k lo (omega arith) (other-outside i (m + k) _ ps ne ∙ later-outside i (m + k) (m + at + d.1) ps (omega arith) l)) (omega arith) in
      let z : got c e ≡ got c' e' = sym L ∙ q in
      cc z

  chunks-alike :
      (ds : List Due) (es : List ℕ) (from at : ℕ) (cs cs' : List Chunk) (e e' : ℕ) (ps : List Spot) → at ≤ length f → Later (m + length f) ps
      → chunks_of s (sized from ds es) f at ≡ got cs e → chunks_of s (sized from ds es) g at ≡ got cs' e'
      → OffIn i m f g at (spots_from (m + at) (sized from ds es) ++ ps) → AlikeChunks i ds cs cs'
  unfolding sized spots_from each give chunk
  chunks-alike [] es from at cs cs' e e' ps h l p q o = tt
  chunks-alike (d ∷ ds) [] from at cs cs' e e' ps h l p q o =
      let x : cs ≡ [] = cc p in
      let y : cs' ≡ [] = cc q in
      rw (x, y) tt
  chunks-alike (d ∷ ds) (t ∷ es) from at cs cs' e e' ps h l p q o =
      let n = t - from in
      let P = each-inv (λ (u : Unit {0}). chunk s) (λ u c. u) (d, n) (sized t ds es) tt f at cs e p in
      let Q = each-inv (λ (u : Unit {0}). chunk s) (λ u c. u) (d, n) (sized t ds es) tt g at cs' e' q in
      let F = part-inv n _ f at P.value P.next P.first in
      let G = part-inv n _ g at Q.value Q.next Q.first in
      let room = F.room in
      let rest = spots_from (m + at + n) (sized t ds es) ++ ps in
      let later : Later (m + at + n) rest = later-append (m + at + n) (spots_from (m + at + n) (sized t ds es)) ps (later-from (m + at + n) (sized t ds es)) (later-less (m + at + n) (m + length f) ps (omega arith) l) in
      let off : OffIn i m f g (at + n) (spots_from (m + (at + n)) (sized t ds es) ++ ps) =
      λ k lo hi z. o k (omega arith) hi (past-outside i (m + k) (record { field = d.field; start = m + at; end = m + at + n }) rest (omega arith) ∙ rw (add_assoc m at n) z) in
      rw (P.is, Q.is) (
        chunk-alike (d, n) at P.value Q.value P.next Q.next rest h later P.first Q.first o,
        chunks-alike ds es t (at + n) P.more Q.more e e' ps room l (rw F.ends at P.rest) (rw G.ends at Q.rest) off,
      )

-- the spots end within the region
abbrev Ending : ℕ → List Spot → Type 0
Ending e [] = Unit {0}
Ending e (p ∷ ps) = (p.end ≤ e) × Ending e ps

past-within : (i k e : ℕ) (ps qs : List Spot) → e ≤ k → Ending e ps → inside? i k (ps ++ qs) ≡ inside? i k qs
past-within i k e [] qs le h = refl
past-within i k e (p ∷ ps) qs le h = past-outside i k p (ps ++ qs) (omega (arith, h.0)) ∙ past-within i k e ps qs le h.1

chunks-within :
    (m : ℕ) (s : State) (f : List ℕ) (ds : List (Due × ℕ)) (at : ℕ) (cs : List Chunk) (e : ℕ) → chunks_of s ds f at ≡ got cs e → Ending (m + length f) (spots_from (m + at) ds)
unfolding spots_from chunk
chunks-within m s f [] at cs e q = tt
chunks-within m s f (d ∷ ds) at cs e q =
    let P = each-inv (λ (u : Unit {0}). chunk s) (λ u c. u) d ds tt f at cs e q in
    let F = part-inv d.1 _ f at P.value P.next P.first in
    let room = F.room in
    (omega arith, rw (add_assoc m at d.1) (chunks-within m s f ds (at + d.1) P.more e (rw F.ends at P.rest)))

-- ── the region ──

-- from `at` on, f and g differ only in spots of field i
abbrev pub Off : ℕ → List ℕ → List ℕ → ℕ → List Spot → Type 0
Off i f g at ps = (k : ℕ) → at ≤ k → inside? i k ps ≡ false → get_or f k 0 ≡ get_or g k 0

part_length : (n at : ℕ) (f : List ℕ) → at + n ≤ length f → length (take n (drop at f)) ≡ n
part_length n at f h = simp (length-take, length-drop) (omega arith)

record AlikeRegion (i : ℕ) (ds : List Due) (cs cs' : List Chunk) (e e' m : ℕ) (es : List ℕ) (n : ℕ) : Type 0 where
  chunks : AlikeChunks i ds cs cs'
  end : e ≡ m + last_or 0 es
  end' : e' ≡ m + last_or 0 es
  room : m + last_or 0 es ≤ n

region-alike :
    (i : ℕ) (s : State) (ds : List Due) (es : List ℕ) (f g : List ℕ) (m : ℕ) (cs cs' : List Chunk) (e e' : ℕ) (ps : List Spot) → length f ≡ length g
    → data_region s ds es f m ≡ got cs e → data_region s ds es g m ≡ got cs' e' → Later (m + last_or 0 es) ps → Off i f g m (spots_from m (sized 0 ds es) ++ ps)
    → AlikeRegion i ds cs cs' e e' m es (length f)
unfolding data_region
region-alike i s ds es f g m cs cs' e e' ps len p q l o =
    let n = last_or 0 es in
    let P = part-inv n _ f m cs e p in
    let Q = part-inv n _ g m cs' e' q in
    let room = P.room in
    let room' = Q.room in
    let f₁ = take n (drop m f) in
    let g₁ = take n (drop m g) in
    let lf = part_length n m f room in
    let lg = part_length n m g room' in
    let off : OffIn i m f₁ g₁ 0 (spots_from (m + 0) (sized 0 ds es) ++ ps) =
    λ k lo hi z. rw (get_or-take n (drop m f) k 0 (omega arith), get_or-take n (drop m g) k 0 (omega arith), get_or-drop m f k 0, get_or-drop m g k 0)
    (o (m + k) (omega arith) (rw (add-zero m) at z)) in
    record {
      chunks = chunks-alike i m s f₁ g₁ (lf ∙ sym lg) ds es 0 0 cs cs' n n ps (omega arith) (rw lf l) P.reads Q.reads off;
      end = P.ends;
      end' = Q.ends;
      room = room;
    }

-- ── the pair ──

give-inv : {A : Type 0} (a : A) (f : List ℕ) (at : ℕ) (v : A) (e : ℕ) → give a f at ≡ got v e → (v ≡ a) × (e ≡ at)
unfolding give
give-inv a f at v e q = (cc q, cc q)

-- a pair that was read: its front, and its region
pub record Parts (s : State) (f : List ℕ) (at : ℕ) (p : Pair) (e : ℕ) : Type 0 where
  pub d : Front
  pub next : ℕ
  pub first : front any_type s f at ≡ got d next
  pub region : data_region (after_front s d.strings d.entries) (dues (with_strings s d.strings) d.entries) d.ends f next ≡ got p.chunks e
  pub strings : p.strings ≡ d.strings
  pub entries : p.entries ≡ d.entries

pub parts : (s : State) (f : List ℕ) (at : ℕ) (p : Pair) (e : ℕ) → pair s f at ≡ got p e → Parts s f at p e
unfolding pair pair_from
parts s f at p e q =
    let P = bind_inv (front any_type s) _ f at p e q in
    let d = P.value in
    let Q = bind_inv (within (last_or 0 d.ends) (region s at d)) _ f P.next p e P.rest in
    let (_, R) = region-inv s at d f P.next Q.value Q.next (within-inv (last_or 0 d.ends) (region s at d) f P.next Q.value Q.next Q.first) in
    let G = give-inv _ f Q.next p e Q.rest in
    record {
      d = d;
      next = P.next;
      first = P.first;
      region = R ∙ ap (λ (x : List Chunk). got x Q.next) (ap (λ (x : Pair). x.chunks) (sym G.0)) ∙ ap (λ (n : ℕ). got p.chunks n) (sym G.1);
      strings = ap (λ (x : Pair). x.strings) G.0;
      entries = ap (λ (x : Pair). x.entries) G.0;
    }

after-parts : (s : State) (p : Pair) (d : Front) → p.strings ≡ d.strings → p.entries ≡ d.entries → closed (after_front s d.strings d.entries) ≡ after_pair s p
unfolding after_pair
after-parts s p d x y = rw (x, y)

pair-within : (s : State) (f : List ℕ) (at : ℕ) (p : Pair) (e : ℕ) (P : Parts s f at p e) → Ending e (pair_spots s P.d P.next)
unfolding pair_spots data_region
pair-within s f at p e P =
    let d = P.d in
    let m = P.next in
    let n = last_or 0 d.ends in
    let Q = part-inv n _ f m p.chunks e P.region in
    let ds = sized 0 (dues (with_strings s d.strings) d.entries) d.ends in
    let W = chunks-within m (after_front s d.strings d.entries) (take n (drop m f)) ds 0 p.chunks n Q.reads in
    rw Q.ends (rw (part_length n m f Q.room, add-zero m) at W)

-- ── pairs ──

follow : ℕ → State → Pair → Reader Ledger
follow n s p = pairs n (after_pair s p) >>= λ ps. give (p ∷ ps)

-- pairs that were read: none at the end of the file, or one and more
pub data Went (n : ℕ) (s : State) (f : List ℕ) (at : ℕ) : Ledger → ℕ → Type 0 where
  ended : {l : Ledger} {e : ℕ} → length f ≤ at → l ≡ [] → Went n s f at l e
  went : {l : Ledger} {e : ℕ} (p : Pair) (m : ℕ) (ps : Ledger) → at < length f → pair s f at ≡ got p m → pairs n (after_pair s p) f m ≡ got ps e → l ≡ p ∷ ps → Went n s f at l e

pub went-through : (n : ℕ) (s : State) (f : List ℕ) (at : ℕ) (l : Ledger) (e : ℕ) → pairs (suc n) s f at ≡ got l e → Went n s f at l e
unfolding pairs to_end follow
went-through n s f at l e q = go (unless_end-inv [] (pair s >>= follow n s) f at l e q)
  where
    go : AtEnd [] f at l e ⊎ Before (pair s >>= follow n s) f at l e → Went n s f at l e
    go (inl a) = ended a.after a.same
    go (inr b) =
        let P = bind_inv (pair s) (follow n s) f at l e b.reads in
        let F = bind_inv (pairs n (after_pair s P.value)) (λ ps. give (P.value ∷ ps)) f P.next l e P.rest in
        let G = give-inv (P.value ∷ F.value) f F.next l e F.rest in
        went P.value P.next F.value b.before P.first (F.first ∙ ap (λ (x : ℕ). got F.value x) (sym G.1)) G.0

-- the spots of one pair and more
pub spots-more :
    (n : ℕ) (s : State) (f : List ℕ) (at : ℕ) (p : Pair) (e : ℕ) (P : Parts s f at p e) → at < length f
    → spots_of (suc n) s f at ≡ pair_spots s P.d P.next ++ spots_of n (after_pair s p) f e
unfolding spots_of when◌then◌else◌
spots-more n s f at p e P lt =
    let z = region-end _ _ P.d.ends f P.next p.chunks e P.region in
    rw (lt-leb (length f) at lt, P.first, after-parts s p P.d P.strings P.entries, ← z.0)

pub spots-end : (n : ℕ) (s : State) (f : List ℕ) (at : ℕ) → length f ≤ at → spots_of n s f at ≡ []
unfolding spots_of when◌then◌else◌
spots-end zero s f at h = refl
spots-end (suc n) s f at h = rw (le-leb (length f) at h)

SpotsLater : ℕ → Type 0
SpotsLater n = (s : State) (f : List ℕ) (at : ℕ) (l : Ledger) (e : ℕ) → at ≤ length f → pairs n s f at ≡ got l e → Later at (spots_of n s f at)

later-step : (n : ℕ) → SpotsLater n → SpotsLater (suc n)
unfolding SpotsLater pair_spots
later-step n ih s f at l e h q = go (went-through n s f at l e q)
  where
    go : Went n s f at l e → Later at (spots_of (suc n) s f at)
    go (ended x y) = rw (spots-end (suc n) s f at x) tt
    go (went p m ps lt pr rest is) =
        let P = parts s f at p m pr in
        let S = (front-faithful any_type s).at f at P.d P.next h P.first in
        let z = region-end _ _ P.d.ends f P.next p.chunks m P.region in
        let fw = S.forward in
        let u : at ≤ m = omega (arith, z.0) in
        let ds = sized 0 (dues (with_strings s P.d.strings) P.d.entries) P.d.ends in
        rw (spots-more n s f at p m P lt)
        (later-append at (spots_from P.next ds) (spots_of n (after_pair s p) f m)
        (later-less at P.next (spots_from P.next ds) fw (later-from P.next ds))
        (later-less at m (spots_of n (after_pair s p) f m) u (ih (after_pair s p) f m ps e z.1 rest)))

spots-later : (n : ℕ) → SpotsLater n
unfolding SpotsLater spots_of
spots-later zero = λ s f at l e h q. tt
spots-later (suc n) = later-step n (spots-later n)

-- ── alike ──

pub record AlikePair (i : ℕ) (s : State) (p q : Pair) : Type 0 where
  pub strings : p.strings ≡ q.strings
  pub entries : p.entries ≡ q.entries
  pub chunks : AlikeChunks i (dues (with_strings s p.strings) p.entries) p.chunks q.chunks

abbrev pub Alike : ℕ → State → Ledger → Ledger → Type 0
Alike i s [] [] = Unit {0}
Alike i s [] (q ∷ qs) = ⊥
Alike i s (p ∷ ps) [] = ⊥
Alike i s (p ∷ ps) (q ∷ qs) = AlikePair i s p q × Alike i (after_pair s p) ps qs

record AlikePairs (i : ℕ) (s : State) (p p' : Pair) (e e' : ℕ) : Type 0 where
  alike : AlikePair i s p p'
  ends : e ≡ e'

pair-alike :
    (i : ℕ) (s : State) (f g : List ℕ) (at : ℕ) (p p' : Pair) (e e' : ℕ) (ps : List Spot) → length f ≡ length g → at ≤ length f
    → (P : Parts s f at p e) → Parts s g at p' e' → Later e ps → Off i f g at (pair_spots s P.d P.next ++ ps) → AlikePairs i s p p' e e'
unfolding pair_spots
pair-alike i s f g at p p' e e' ps len h P Q l o =
    let d = P.d in
    let ds = dues (with_strings s d.strings) d.entries in
    let S = (front-faithful any_type s).at f at d P.next h P.first in
    let fw = S.forward in
    let ins = S.inside in
    let E = region-end _ _ d.ends f P.next p.chunks e P.region in
    let later : Later P.next (spots_from P.next (sized 0 ds d.ends) ++ ps) =
    later-append P.next (spots_from P.next (sized 0 ds d.ends)) ps (later-from P.next _) (later-less P.next e ps (omega (arith, E.0)) l) in
    let L = S.local g (omega arith) (λ k lo hi hi'. o k lo (later-outside i k P.next _ hi later)) (omega arith) in
    let z : got d P.next ≡ got Q.d Q.next = sym L ∙ Q.first in
    let x : d ≡ Q.d = cc z in
    let n : P.next ≡ Q.next = cc z in
    let A =
    region-alike i (after_front s d.strings d.entries) ds d.ends f g P.next p.chunks p'.chunks e e' ps len P.region
    (rw (← x, ← n) at Q.region) (rw E.0 at l) (λ k lo z. o k (omega arith) z) in
    record {
      alike =
          record {
            strings = P.strings ∙ ap (λ (y : Front). y.strings) x ∙ sym Q.strings;
            entries = P.entries ∙ ap (λ (y : Front). y.entries) x ∙ sym Q.entries;
            chunks = rw (P.strings, P.entries) A.chunks;
          };
      ends = A.end ∙ sym A.end';
    }

after-alike : (i : ℕ) (s : State) (p p' : Pair) → AlikePair i s p p' → after_pair s p ≡ after_pair s p'
unfolding after_pair
after-alike i s p p' a = rw (a.strings, a.entries)

AlikeAll : ℕ → ℕ → Type 0
AlikeAll i n =
    (s : State) (f g : List ℕ) (at : ℕ) (l l' : Ledger) (e e' : ℕ) → length f ≡ length g → at ≤ length f → pairs n s f at ≡ got l e
    → pairs n s g at ≡ got l' e' → Off i f g at (spots_of n s f at) → Alike i s l l'

alike-step : (i n : ℕ) → AlikeAll i n → AlikeAll i (suc n)
unfolding AlikeAll SpotsLater
alike-step i n ih s f g at l l' e e' len h p q o = go (went-through n s f at l e p) (went-through n s g at l' e' q)
  where
    go : Went n s f at l e → Went n s g at l' e' → Alike i s l l'
    go (ended x y) (ended x' y') = rw (y, y') tt
    go (ended x y) (went p' m' ps' lt pr pr' is') = absurd (omega arith)
    go (went p m ps lt pr pr' is) (ended x y) = absurd (omega arith)
    go (went p m ps lt pr rest is) (went p' m' ps' lt' pr' rest' is') =
        let P = parts s f at p m pr in
        let E = region-end _ _ P.d.ends f P.next p.chunks m P.region in
        let later = spots-later n (after_pair s p) f m ps e E.1 rest in
        let o' : Off i f g at (pair_spots s P.d P.next ++ spots_of n (after_pair s p) f m) = rw (spots-more n s f at p m P lt) at o in
        let A = pair-alike i s f g at p p' m m' (spots_of n (after_pair s p) f m) len h P (parts s g at p' m' pr') later o' in
        rw (is, is') (
          A.alike,
          ih (after_pair s p) f g m ps ps' e e' len E.1 rest (rw (← after-alike i s p p' A.alike, ← A.ends) at rest')
              (λ k lo z. o' k (omega (arith, ((front-faithful any_type s).at f at P.d P.next h P.first).forward, E.0)) (past-within i k m (pair_spots s P.d P.next) _ lo (pair-within s f at p m P) ∙ z)),
        )

alike-none : (i : ℕ) → AlikeAll i 0
unfolding AlikeAll pairs to_end refuse
alike-none i s f g at l l' e e' len h p q o = go (unless_end-inv [] (refuse 3) f at l e p) (unless_end-inv [] (refuse 3) g at l' e' q)
  where
    go : AtEnd [] f at l e ⊎ Before (refuse 3) f at l e → AtEnd [] g at l' e' ⊎ Before (refuse 3) g at l' e' → Alike i s l l'
    go (inl x) (inl y) = rw (x.same, y.same) tt
    go (inl x) (inr y) = not-got y.reads
    go (inr x) y = not-got x.reads

alike_all : (i n : ℕ) → AlikeAll i n
alike_all i zero = alike-none i
alike_all i (suc n) = alike-step i n (alike_all i n)

-- ── the columns ──

known_alike : (i : ℕ) (s : State) (l l' : Ledger) → Alike i s l l' → fold after_pair s l ≡ fold after_pair s l'
unfolding fold
known_alike i s [] [] a = refl
known_alike i s [] (q ∷ qs) a = absurd a
known_alike i s (p ∷ l) [] a = absurd a
known_alike i s (p ∷ l) (p' ∷ l') a = known_alike i (after_pair s p) l l' a.1 ∙ ap (λ (u : State). fold after_pair u l') (after-alike i s p p' a.0)

module _ (i j : ℕ) (ne : j ≡ i → ⊥) where
  values-in-alike : (d : Due) (c c' : Chunk) → ((d.field ≡ i → ⊥) → c ≡ c') → values_in j d c ≡ values_in j d c'
  unfolding values_in when◌then◌else◌
  values-in-alike d c c' a = go (eqb d.field j) refl
    where
      go : (t : Bool) → eqb d.field j ≡ t → values_in j d c ≡ values_in j d c'
      go true t = ap (values_in j d) (a λ x. ne (sym (eqb-true d.field j t) ∙ x))
      go false t = rw t

  chunk-values-alike : (ds : List Due) (cs cs' : List Chunk) → AlikeChunks i ds cs cs' → chunk_values j ds cs ≡ chunk_values j ds cs'
  unfolding chunk_values
  chunk-values-alike [] cs cs' a = refl
  chunk-values-alike (d ∷ ds) [] [] a = refl
  chunk-values-alike (d ∷ ds) [] (c ∷ cs) a = absurd a
  chunk-values-alike (d ∷ ds) (c ∷ cs) [] a = absurd a
  chunk-values-alike (d ∷ ds) (c ∷ cs) (c' ∷ cs') a = rw (values-in-alike d c c' a.0, chunk-values-alike ds cs cs' a.1)

  values-alike : (s : State) (l l' : Ledger) → Alike i s l l' → field_values j s l ≡ field_values j s l'
  unfolding field_values
  values-alike s [] [] a = refl
  values-alike s [] (q ∷ qs) a = absurd a
  values-alike s (p ∷ l) [] a = absurd a
  values-alike s (p ∷ l) (p' ∷ l') a =
      rw (← after-alike i s p p' a.0, ← a.0.strings, ← a.0.entries, chunk-values-alike _ p.chunks p'.chunks a.0.chunks, values-alike (after_pair s p) l l' a.1)

  by_alike : (k : Kind) (l l' : Ledger) (t : ℕ) → known l ≡ known l' → Alike i nothing l l' → column_by k l t j ≡ column_by k l' t j
  unfolding column_by
  by_alike (constant k v) l l' t e a = rw e
  by_alike (plain k) l l' t e a = values-alike nothing l l' a
  by_alike (array n k) l l' t e a = refl
  by_alike (many c k) l l' t e a = refl
  by_alike (mapping ks) l l' t e a = refl

-- ── the calls ──

record Read (table : ℕ) (f : List ℕ) (l : Ledger) : Type 0 where
  answer : read table f ≡ done l
  end : ℕ
  reads : file f ≡ got l end

read-inv : (table : ℕ) (f : List ℕ) → check table f ≡ done 0 → (l : Ledger) × Read table f l
unfolding check read
read-inv table f q =
    let (l, x, _) = bind_done _ _ 0 q in
    let (e, y) = answered-done _ l (then-done _ _ l x) in
    (l, record { answer = x; end = e; reads = y })

bind-same : {A B : Type 0} (a : Answer A) (k k' : A → Answer B) → ((x : A) → a ≡ done x → k x ≡ k' x) → ◌then=◌ a k ≡ ◌then=◌ a k'
unfolding ◌then=◌
bind-same (done x) k k' h = h x refl
bind-same (refused n) k k' h = refl

known_same : (l l' : Ledger) → fold after_pair nothing l ≡ fold after_pair nothing l' → known l ≡ known l'
unfolding known
known_same l l' h = h

column-of : (i j : ℕ) (ne : j ≡ i → ⊥) (l l' : Ledger) (t : ℕ) → known l ≡ known l' → Alike i nothing l l' → column_of l t j ≡ column_of l' t j
unfolding column_of
column-of i j ne l l' t k A = by_alike i j ne (field_at (known l) j).kind l l' t k A ∙ ap (λ (s : State). column_by (field_at s j).kind l' t j) k

-- what is read of two accepted files that differ only inside the chunks of field i
record Both (i table : ℕ) (f g : List ℕ) : Type 0 where
  one : Ledger
  other : Ledger
  reads : read table f ≡ done one
  reads_other : read table g ≡ done other
  same : known one ≡ known other
  alike : Alike i nothing one other

module _ (i table : ℕ) (f g : List ℕ) (long : length f ≡ length g) (c : check table f ≡ done 0) (d : check table g ≡ done 0) (off : Off i f g 0 (spots f)) where
  both : Both i table f g
  unfolding AlikeAll spots
  both =
      let (l, L) = read-inv table f c in
      let (m, M) = read-inv table g d in
      let A = alike_all i most_pairs nothing f g 0 l m L.end M.end long (omega arith) (file-inv f l L.end L.reads) (file-inv g m M.end M.reads) off in
      record { one = l; other = m; reads = L.answer; reads_other = M.answer; same = known_same l m (known_alike i nothing l m A); alike = A }

  module _ (type field : List ℕ) (k : ℕ) where
    -- they give the same answer to the question how many values any field has
    pub count-alike : count_values type field k table f ≡ count_values type field k table g
    unfolding count_values ◌then=◌
    count-alike = let B = both in rw (B.reads, B.reads_other, B.same)

    -- and to the question for the values of every other field
    pub fill-alike :
        (room : ℕ) → ((l : Ledger) (t : ℕ) → read table f ≡ done l → type_named (known l) type ≡ some t → field_named (known l) t field ≡ some i → ⊥)
        → fill_values type field k room table f ≡ fill_values type field k room table g
    unfolding fill_values ◌then=◌
    fill-alike room other =
        let B = both in
        rw (B.reads, B.reads_other, ← B.same)
        (bind-same (sought type field k (known B.one)) _ _
        (λ p x. let Q = sought-asks x in
        rw (column-of i p.1 (λ e. other B.one p.0 B.reads Q.typed (rw e at Q.fielded)) B.one B.other p.0 B.same B.alike)))

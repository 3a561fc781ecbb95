-- The values of a field, found again at the places of its chunks. Assumes nothing.
use Rattle.std.specs.Prelude.{◌≡◌, Bool, ◌⊎◌, ℕ, zero, suc, ◌+◌, ◌-◌, ◌≤◌, ◌<◌, ℤ}
use Rattle.std.proofs.Math.Path.{refl}
use Rattle.std.proofs.Common.{sym, ◌∙◌, ap, inl, inr}
use Rattle.std.proofs.Math.Bool.{true, false}
use mathlib.Core.List.{List, [], ◌∷◌, ◌++◌, append_assoc}
use native.Mathlib.Omega.{arith}
use Rattle.std.proofs.Math.Decide.{dec_lt}
use Rattle.std.proofs.Math.Nat.{add-zero, add_assoc}
use Rattle.std.proofs.Math.Dec.{eqb}
use lib.ListN.{length, get_or, take, drop, length-take, length-drop}
use lib.Seq.{take-take, drop-drop}
use borrow.Author.Tests.{eqb-true, eqb-false, ne_eqb}
use Rattle.paper.specs.Reader.{when◌then◌else◌, Reader, Out, got, no, each, part, repeat, refuse, to_end}
use Rattle.paper.specs.Bounds.{most_pairs}
use Rattle.paper.specs.Lists.{last_or, fold}
use Rattle.paper.specs.Ledger.{Kind, Chunk, Pair, Ledger, Due, Field, State, nothing, field_at, no_field}
use Rattle.paper.specs.Rules.{with_strings, dues, after_front, closed, after_pair}
use Rattle.paper.specs.File.{value, chunk, sized, data_region, pairs, file}
use Rattle.paper.specs.Places.{Spot, spots_from, pair_spots, spots_of, spots}
use Rattle.paper.specs.Calls.{stored_all, values_in, chunk_values, field_values, known}
use Rattle.laws.specs.Laws.{not-got, each-inv, part-inv}
use Rattle.laws.specs.Longer.{unless_end-inv, AtEnd, Before, file-inv}
use Rattle.laws.specs.Says.{span}
use Rattle.laws.specs.Columns.{Grows, grows-trans, closed-grows, fold-grows, pair-grows}
use Rattle.laws.specs.Damage.{Parts, parts, Went, went-through, spots-more, spots-end, chunks_of}
use Rattle.laws.specs.Lengths.{Under, front-under}

-- the values of field i, of kind k, that stand at these places; each chunk was read in a state from which S has grown
pub data Fills (i : ℕ) (k : Kind) (f : List ℕ) (S : State) : List Spot → List ℤ → Type 0 where
  ended : Fills i k f S [] []
  other : {p : Spot} {ps : List Spot} {vs : List ℤ} → (p.field ≡ i → ⊥) → Fills i k f S ps vs → Fills i k f S (p ∷ ps) vs
  filled :
      {p : Spot} {ps : List Spot} {vs : List ℤ} (s : State) (n : ℕ) (c : Chunk) → Grows s S → p.field ≡ i → p.start ≤ p.end → p.end ≤ length f
      → repeat n (value s k) (span f p.start p.end) 0 ≡ got c (p.end - p.start) → Fills i k f S ps vs → Fills i k f S (p ∷ ps) (stored_all c ++ vs)

fills-append : {i : ℕ} {k : Kind} {f : List ℕ} {S : State} {ps qs : List Spot} {us vs : List ℤ} → Fills i k f S ps us → Fills i k f S qs vs → Fills i k f S (ps ++ qs) (us ++ vs)
fills-append ended b = b
fills-append (other ne a) b = other ne (fills-append a b)
fills-append (filled s n c grown is le in_f reads a) b = rw append_assoc (filled s n c grown is le in_f reads (fills-append a b))

-- ── a region ──

drop-take : (n m : ℕ) (l : List ℕ) → n ≤ m → drop n (take m l) ≡ take (m - n) (drop n l)
drop-take zero m l h = let z : m ≡ m - 0 = omega arith in ap (λ (k : ℕ). take k l) z
drop-take (suc n) zero l h = absurd (omega arith)
drop-take (suc n) (suc m) [] h = sym (lib.Seq.take-nil (suc m - suc n))
drop-take (suc n) (suc m) (x ∷ l) h = drop-take n m l (omega arith) ∙ (let z : m - n ≡ suc m - suc n = omega arith in ap (λ (k : ℕ). take k (drop n l)) z)

-- a part of a part
inner : (f : List ℕ) (m n at size : ℕ) → at + size ≤ n → take size (drop at (take n (drop m f))) ≡ span f (m + at) (m + at + size)
inner f m n at size h =
    let z : m + at + size - (m + at) ≡ size = omega arith in
    rw (drop-take at n (drop m f) (omega arith), take-take size (n - at) (drop at (drop m f)) (omega arith), drop-drop at m f, z)

module _ (i : ℕ) (k : Kind) (f : List ℕ) (m n : ℕ) (fits : m + n ≤ length f) (s : State) (kind-is : (field_at s i).kind ≡ k) (S : State) (grown : Grows s S) where
  abbrev g : List ℕ
  g = take n (drop m f)

  g-long : length g ≡ n
  g-long = simp (length-take, length-drop) (omega arith)

  chunks-fill :
      (ds : List Due) (es : List ℕ) (from at : ℕ) (cs : List Chunk) (e : ℕ) → at ≤ n → chunks_of s (sized from ds es) g at ≡ got cs e
      → Fills i k f S (spots_from (m + at) (sized from ds es)) (chunk_values i ds cs)
  unfolding sized spots_from each chunk_values values_in when◌then◌else◌ chunk Rattle.paper.specs.Reader.give
  chunks-fill [] es from at cs e h q = ended
  chunks-fill (d ∷ ds) [] from at cs e h q = let x : cs ≡ [] = cc q in rw x ended
  chunks-fill (d ∷ ds) (t ∷ es) from at cs e h q =
      let size = t - from in
      let P = each-inv (λ (u : Unit {0}). chunk s) (λ u c. u) (d, size) (sized t ds es) tt g at cs e q in
      let F = part-inv size _ g at P.value P.next P.first in
      let room = F.room in
      let long = g-long in
      let rest = chunks-fill ds es t (at + size) P.more e (omega arith) (rw F.ends at P.rest) in
      rw P.is (go P.value P.more (eqb d.field i) refl F.reads (omega arith) (rw (← add_assoc m at size) at rest))
    where
      go :
          (c : Chunk) (more : List Chunk) (b : Bool) → eqb d.field i ≡ b
          → repeat d.values (value s (field_at s d.field).kind) (take (t - from) (drop at g)) 0 ≡ got c (t - from) → at + (t - from) ≤ n
          → Fills i k f S (spots_from (m + at + (t - from)) (sized t ds es)) (chunk_values i ds more)
          → Fills i k f S (record { field = d.field; start = m + at; end = m + at + (t - from) } ∷ spots_from (m + at + (t - from)) (sized t ds es)) ((when b then stored_all c else []) ++ chunk_values i ds more)
      go c more true t₁ reads le rest =
          let is = eqb-true d.field i t₁ in
          let z : m + at + (t - from) - (m + at) ≡ t - from = omega arith in
          let there : repeat d.values (value s k) (span f (m + at) (m + at + (t - from))) 0 ≡ got c (m + at + (t - from) - (m + at)) =
          rw (← inner f m n at (t - from) le, z, ← kind-is, ← is) reads in
          filled {p = record { field = d.field; start = m + at; end = m + at + (t - from) }} s d.values c grown is (omega arith) (omega arith) there rest
      go c more false t₁ reads le rest = other (eqb-false d.field i t₁) rest

-- ── pairs ──

-- a field that a pair has chunks of has its kind already
kind-early : (i : ℕ) (k : Kind) (S : State) → (field_at S i).kind ≡ k → (s : State) → Grows s S → i < length s.fields → (field_at s i).kind ≡ k
unfolding field_at
kind-early i k S is s g lt =
    let b = g.fields in
    ap (λ (d : Field). d.kind) (sym (lib.ListN.get_or-append s.fields b.rest no_field i lt)) ∙ ap (λ (l : List Field). (get_or l i no_field).kind) (sym b.is) ∙ is

after-grows : (s : State) (p : Pair) (l : Ledger) → Grows (after_front s p.strings p.entries) (fold after_pair (after_pair s p) l)
unfolding after_pair
after-grows s p l = grows-trans (closed-grows (after_front s p.strings p.entries)) (fold-grows _ pair-grows l (closed (after_front s p.strings p.entries)))

-- no chunk of a field that is not declared yet
module _ (i bound : ℕ) (le : bound ≤ i) where
  no-values : (ds : List Due) (cs : List Chunk) → Under bound ds → chunk_values i ds cs ≡ []
  unfolding chunk_values values_in when◌then◌else◌
  no-values [] cs h = refl
  no-values (d ∷ ds) [] h = refl
  no-values (d ∷ ds) (c ∷ cs) h = rw (ne_eqb d.field i (λ e. omega (arith, h.0)), no-values ds cs h.1)

  no-spots : (k : Kind) (f : List ℕ) (S : State) (ds : List Due) (es : List ℕ) (from at : ℕ) → Under bound ds → Fills i k f S (spots_from at (sized from ds es)) []
  unfolding sized spots_from
  no-spots k f S [] es from at h = ended
  no-spots k f S (d ∷ ds) [] from at h = ended
  no-spots k f S (d ∷ ds) (t ∷ es) from at h = other {p = record { field = d.field; start = at; end = at + (t - from) }} (λ (e : d.field ≡ i). omega (arith, h.0)) (no-spots k f S ds es t (at + (t - from)) h.1)

module _ (i : ℕ) (k : Kind) (f : List ℕ) (S : State) (is : (field_at S i).kind ≡ k) where
  pair-fills :
      (s : State) (at : ℕ) (p : Pair) (e : ℕ) (P : Parts s f at p e) → Grows (after_front s p.strings p.entries) S
      → Fills i k f S (pair_spots s P.d P.next) (chunk_values i (dues (with_strings s p.strings) p.entries) p.chunks)
  unfolding pair_spots data_region
  pair-fills s at p e P b =
      let d = P.d in
      let m = P.next in
      let s₂ = after_front s d.strings d.entries in
      let ds = dues (with_strings s d.strings) d.entries in
      let b' : Grows s₂ S = rw (P.strings, P.entries) at b in
      let under : Under (length s₂.fields) ds = rw (P.strings, P.entries) at (front-under s p) in
      rw (P.strings, P.entries) (go s₂ ds m b' under P.region (dec_lt i (length s₂.fields)))
    where
      go :
          (s₂ : State) (ds : List Due) (m : ℕ) → Grows s₂ S → Under (length s₂.fields) ds → data_region s₂ ds P.d.ends f m ≡ got p.chunks e
          → Dec (i < length s₂.fields) → Fills i k f S (spots_from m (sized 0 ds P.d.ends)) (chunk_values i ds p.chunks)
      go s₂ ds m b under q (Dec.yes lt) =
          let n = last_or 0 P.d.ends in
          let Q = part-inv n _ f m p.chunks e q in
          rw add-zero at (chunks-fill i k f m n Q.room s₂ (kind-early i k S is s₂ b lt) S b ds P.d.ends 0 0 p.chunks n (omega arith) Q.reads)
      go s₂ ds m b under q (Dec.no ge) =
          rw (no-values i (length s₂.fields) (omega arith) ds p.chunks under) (no-spots i (length s₂.fields) (omega arith) k f S ds P.d.ends 0 m under)

  AllFill : ℕ → Type 0
  AllFill n =
      (s : State) (at : ℕ) (l : Ledger) (e : ℕ) → pairs n s f at ≡ got l e → fold after_pair s l ≡ S → Fills i k f S (spots_of n s f at) (field_values i s l)

  fill_none : AllFill 0
  unfolding AllFill pairs to_end refuse spots_of field_values
  fill_none s at l e q S-is = go (unless_end-inv [] (refuse 3) f at l e q)
    where
      go : AtEnd [] f at l e ⊎ Before (refuse 3) f at l e → Fills i k f S [] (field_values i s l)
      go (inl a) = rw a.same ended
      go (inr b) = not-got b.reads

  fill_step : (n : ℕ) → AllFill n → AllFill (suc n)
  unfolding AllFill field_values fold
  fill_step n ih s at l e q S-is = go (went-through n s f at l e q) S-is
    where
      go : Went n s f at l e → fold after_pair s l ≡ S → Fills i k f S (spots_of (suc n) s f at) (field_values i s l)
      go (Went.ended x y) z = rw (spots-end (suc n) s f at x, y) ended
      go (Went.went p m ps lt pr rest y) z =
          let P = parts s f at p m pr in
          let S-is' : fold after_pair (after_pair s p) ps ≡ S = rw y at z in
          rw (spots-more n s f at p m P lt, y)
          (fills-append (pair-fills s at p m P (rw S-is' at (after-grows s p ps))) (ih (after_pair s p) m ps e rest S-is'))

  fill-all : (n : ℕ) → AllFill n
  fill-all zero = fill_none
  fill-all (suc n) = fill_step n (fill-all n)

-- the values of a field of an accepted file stand at the places of its chunks, in this order
pub file-fills : (f : List ℕ) (l : Ledger) (e i : ℕ) → file f ≡ got l e → Fills i (field_at (known l) i).kind f (known l) (spots f) (field_values i nothing l)
unfolding spots known AllFill
file-fills f l e i q = fill-all i (field_at (known l) i).kind f (known l) refl most_pairs nothing 0 l e (file-inv f l e q) refl

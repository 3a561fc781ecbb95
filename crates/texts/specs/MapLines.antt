-- The lines of a chunk of maps. Assumes nothing.
use Rattle.std.specs.Prelude as prelude
use Rattle.std.specs.Prelude.{◌≡◌, refl, Bool, true, false, ℕ}
use Rattle.std.proofs.Math.Path.{sym}
use Rattle.std.proofs.Common.{◌∙◌}
use mathlib.Core.List.{List, [], ◌∷◌}
use Rattle.paper.specs.Reader.{when◌then◌else◌, Reader, Out, got, no as bad, and_then, ◌>>=◌, ◌>>◌, give, repeat}
use Rattle.paper.specs.Lists.{flat, all}
use Rattle.paper.specs.Ledger.{mapping, Element, State}
use Rattle.paper.specs.Rules.{element_kind?}
use Rattle.paper.specs.Keeps.{element?, value?}
use Rattle.laws.specs.Put.{put_value}
use Rattle.paper.specs.Listing.{ascii, newline}
use Rattle.paper.specs.Scan.{heed, byte_is, literal, ended, read_map, read_line, value_text}
use Rattle.laws.specs.Bools.{and_split}
use Rattle.values.specs.Spans.{ranges}
use Rattle.values.specs.MapChunks.{AllKnown}
use Rattle.texts.specs.Quiet.{Fate, gives, refuses, byte-fate}
use Rattle.texts.specs.Exact.{then-then}
use Rattle.texts.specs.Elements.{kept, kept-known}
use Rattle.texts.specs.Told.{Told}
use Rattle.texts.specs.Chunks.{told-all}
use Rattle.texts.specs.Maps.{put_map, held_to, Held, held-as, AllHeld, word_held, map-held}
use Rattle.texts.specs.MapWays.{kept_in, word_in, map_in, line_in}
use Rattle.texts.specs.declared.Taken.{Taken}

-- the answer is that of n maps of these kinds, for every state that has these numbers
pub record MapsTaken (n strings : ℕ) (pools starts first last kinds t : List ℕ) (from : ℕ) (l : List ℕ) (at : ℕ) (m : List ℕ) (o : prelude.Option Taken) : Type 0 where
  pub told :
      (s : State) → AllKnown s strings pools starts first last kinds
      → Told (repeat n (value_text s (mapping kinds))) (flat (put_value (mapping kinds))) t from l at m o

-- ── a line ──

module _ (strings : ℕ) (pools starts first last kinds t : List ℕ) (from : ℕ) where
  pub line_refused : bad 20 0 ≡ literal (118 ∷ 97 ∷ 108 ∷ []) t from → line_in strings pools starts first last kinds t from ≡ bad 20 0
  unfolding line_in ascii ◌>>◌
  line_refused h = rw (← h)

  pub line_as : {u : Unit {0}} {q : ℕ} → got u q ≡ literal (118 ∷ 97 ∷ 108 ∷ []) t from → line_in strings pools starts first last kinds t from ≡ ended newline (map_in strings pools starts first last kinds) t q
  unfolding line_in ascii ◌>>◌
  line_as h = rw (← h)

-- a line that is read and held to a test then, and one whose words are held to it
line-held :
    {t : List ℕ} {r q : Reader (List Element)} {test : List Element → Bool} {F : List Element → Type 0} → Held t r q test F → (at : ℕ)
    → ((literal (ascii "val") >> ended newline r) >>= λ v. heed (test v) >> give v) t at ≡ (literal (ascii "val") >> ended newline q) t at
unfolding ended heed when◌then◌else◌ ◌>>=◌ ◌>>◌ give held_to
line-held {t} {r} {q} {test} {F} X at = then-then (literal (ascii "val") t at) _ _ ∙ go (literal (ascii "val") t at)
  where
    -- the end of the line, and the test before it or behind it
    ends :
        (a : List Element) (b : Bool) → test a ≡ b → (d : ℕ) {P : Unit {0} → ℕ → Type 0} {o : Out (Unit {0})} → Fate P o → byte_is newline t d ≡ o
        → and_then (and_then o (λ u e. got a e)) (λ v e. and_then (when test v then got (tt {0}) e else bad 20 0) (λ u p. got v p))
        ≡ and_then (when b then got a d else bad 20 0) (λ v e. and_then (byte_is newline t e) (λ u p. got v p))
    ends a true h d (gives u e p) is = rw (h, is)
    ends a true h d refuses is = rw is
    ends a false h d (gives u e p) is = rw h
    ends a false h d refuses is = refl

    words :
        {o : Out (List Element)} → Fate (λ a d. F a) o
        → and_then (and_then o (λ a d. and_then (byte_is newline t d) (λ u e. got a e))) (λ v e. and_then (when test v then got (tt {0}) e else bad 20 0) (λ u p. got v p))
        ≡ and_then (and_then o (λ a d. when test a then got a d else bad 20 0)) (λ v e. and_then (byte_is newline t e) (λ u p. got v p))
    words (gives a d f) = ends a (test a) refl d (byte-fate newline t d) refl
    words refuses = refl

    go :
        (o : Out (Unit {0}))
        → and_then o (λ u p. and_then (and_then (r t p) (λ a d. and_then (byte_is newline t d) (λ u e. got a e))) (λ v e. and_then (when test v then got (tt {0}) e else bad 20 0) (λ u p. got v p)))
        ≡ and_then o (λ u p. and_then (q t p) (λ a d. and_then (byte_is newline t d) (λ u e. got a e)))
    go (got u p) = rw (X.same p) (words (X.fate p))
    go (bad n p) = refl

-- ── a chunk ──

module _ (s : State) (strings : ℕ) (pools starts first last t : List ℕ) where
  all_held :
      (ks : List ℕ) → AllKnown s strings pools starts first last ks → all element_kind? ks ≡ true
      → AllHeld (element? s) t (word_in strings pools starts first last) ks
  unfolding all word_in kept_in
  all_held [] K L = tt
  all_held (k ∷ ks) K L =
      let (a, b) = and_split (element_kind? k) _ L in
      (held-as (λ x. sym (kept-known K.0 a x)) (word_held (element? s) t k (kept strings pools (ranges starts k first) (ranges starts k last) k)), all_held ks K.1 b)

  text-map : (ks : List ℕ) → AllKnown s strings pools starts first last ks → all element_kind? ks ≡ true → (at : ℕ) → value_text s (mapping ks) t at ≡ line_in strings pools starts first last ks t at
  unfolding value_text read_line read_map value? line_in map_in
  text-map ks K L at = line-held (map-held (element? s) t (word_in strings pools starts first last) ks (all_held ks K L)) at

pub maps-taken :
    {n strings : ℕ} {pools starts first last kinds t : List ℕ} {from : ℕ} {l : List ℕ} {at : ℕ} {m : List ℕ} {o : prelude.Option Taken} → all element_kind? kinds ≡ true
    → Told (repeat n (line_in strings pools starts first last kinds)) (flat (put_map kinds)) t from l at m o → MapsTaken n strings pools starts first last kinds t from l at m o
unfolding put_value put_map
maps-taken {n} {strings} {pools} {starts} {first} {last} {kinds} {t} L T =
    record { told = λ s K. told-all _ _ t (λ p. text-map s strings pools starts first last t kinds K L p) (put_map kinds) (put_value (mapping kinds)) (λ p v d q. refl) n T }

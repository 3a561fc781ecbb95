-- The five wrong readers of the paper, and one that turns padded numbers away: each breaks a sentence of demand 2, with D and E as witnesses.
-- Assumes nothing.
use Rattle.std.proofs.Math.Path.{◌≡◌, refl, sym, ap}
use Rattle.std.proofs.Common.{◌∙◌}
use Rattle.std.specs.Prelude.{Bool, true, false, ℕ, zero, suc, ◌+◌, ◌≤◌, ◌<◌, ℤ, length, drop, replicate, Result, Ok, Err}
use mathlib.Core.List.{List, [], ◌∷◌, ◌++◌}
use Rattle.std.proofs.Math.Option.{Option, none, some}
use native.Mathlib.Omega.{arith}
use Rattle.std.proofs.Math.IntN.{pos, negsuc}
use Rattle.std.proofs.lemmas.List.{length-replicate}
use Rattle.paper.specs.Ledger.{Kind, plain, Element, whole, New, Head, Entry, Pair, Ledger, type_named, field_named, field_at, objects_of}
use Rattle.paper.specs.Bounds.{table_length}
use Rattle.paper.specs.Encode.{encode}
use Rattle.paper.specs.Keeps.{keeps?}
use Rattle.paper.specs.Calls.{Answer, done, refused, Left, check, known, column_of, tells, after_count, after_fill}
use Rattle.paper.specs.Table.{D, E, E-with, date}
use Rattle.paper.specs.Whole.{whole as all-of-it}
use Rattle.calls.specs.declared.replies.Refused.{Refused}
use Rattle.laws.specs.Says.{Bytes}
use Rattle.laws.specs.Heads.{bytes_back}
use Rattle.demands.specs.Answers.{some-reply}
use Rattle.laws.specs.Asked.{Asks}
use Rattle.demands.specs.Exact.{Follows, accepted-follows, shortest-follows, AcceptsExactly, CountsExactly, FillsExactly, counts-exactly, fills-exactly, follows-check, follows-bytes}

-- ── what D and E say: D the first pair, E the second one behind it ──

unfoldable pub first : Pair
first =
    record {
      strings = date ∷ [];
      entries = record { head = record { name = 1; super = some 0; start = none; count = 2 }; news = record { kind = plain 11; name = 1 } ∷ [] } ∷ [];
      chunks = ((whole (pos 1) ∷ []) ∷ (whole (negsuc 0) ∷ []) ∷ []) ∷ [];
    }

unfoldable pub second : Pair
second =
    record {
      strings = [];
      entries = record { head = record { name = 1; super = none; start = none; count = 1 }; news = [] } ∷ [];
      chunks = ((whole (pos 256) ∷ []) ∷ []) ∷ [];
    }

D-encoded : D ≡ encode (first ∷ [])
unfolding all-of-it date first
D-encoded = refl

E-encoded : E ≡ encode (first ∷ second ∷ [])
unfolding all-of-it date first second E E-with
E-encoded = refl

pub D-follows : Follows D (first ∷ [])
unfolding all-of-it date first
D-follows = rw D-encoded (shortest-follows (first ∷ []) refl)

pub E-follows : Follows E (first ∷ second ∷ [])
unfolding all-of-it date first second
E-follows = rw E-encoded (shortest-follows (first ∷ second ∷ []) refl)

-- D with every number in nine bytes says what D says
unfoldable pub nine : ℕ → List ℕ
nine n = (128 + n) ∷ replicate 7 0x80 ++ 0 ∷ []

unfoldable pub nines : List ℕ
nines =
    nine 1 ++ (0 ∷ 0 ∷ 0 ∷ 4 ∷ date) ++ nine 1 ++ nine 1 ++ nine 0 ++ nine 2 ++ nine 0 ++ nine 1 ++ nine 0 ++ nine 11 ++ nine 1 ++ nine 18 ++ nine 1
    ++ replicate 9 0xFF

pub nines-follow : Follows nines (first ∷ [])
unfolding all-of-it date first nine nines
nines-follow = accepted-follows (record { bytes = bytes_back nines refl; reads = refl })

D-asks : Asks (known (first ∷ [])) date date 11 0 0
unfolding all-of-it date first
D-asks = record { typed = refl; fielded = refl; kind = refl; given = omega arith }

E-asks : Asks (known (first ∷ second ∷ [])) date date 11 0 0
unfolding all-of-it date first second
E-asks = record { typed = refl; fielded = refl; kind = refl; given = omega arith }

D-objects : objects_of (known (first ∷ [])) 0 ≡ 2
unfolding all-of-it date first
D-objects = refl

E-objects : objects_of (known (first ∷ second ∷ [])) 0 ≡ 3
unfolding all-of-it date first second
E-objects = refl

D-column : column_of (first ∷ []) 0 0 ≡ pos 1 ∷ negsuc 0 ∷ []
unfolding all-of-it date first
D-column = refl

E-column : column_of (first ∷ second ∷ []) 0 0 ≡ pos 1 ∷ negsuc 0 ∷ pos 256 ∷ []
unfolding all-of-it date first second
E-column = refl

-- E with 257 in its last pair
unfoldable other : Pair
other = record { strings = second.strings; entries = second.entries; chunks = ((whole (pos 257) ∷ []) ∷ []) ∷ [] }

other-follows : Follows (encode (first ∷ other ∷ [])) (first ∷ other ∷ [])
unfolding all-of-it date first second other
other-follows = shortest-follows (first ∷ other ∷ []) refl

other-asks : Asks (known (first ∷ other ∷ [])) date date 11 0 0
unfolding all-of-it date first second other
other-asks = record { typed = refl; fielded = refl; kind = refl; given = omega arith }

other-objects : objects_of (known (first ∷ other ∷ [])) 0 ≡ 3
unfolding all-of-it date first second other
other-objects = refl

other-column : column_of (first ∷ other ∷ []) 0 0 ≡ pos 1 ∷ negsuc 0 ∷ pos 257 ∷ []
unfolding all-of-it date first second other
other-column = refl

-- ── the questions: how many values D's or E's field has, and which, with room ──

module _ (r : Result ℕ Refused) where
  D-counted : CountsExactly D date date 11 r → r ≡ Ok 2
  D-counted h = h (first ∷ []) 0 0 D-follows D-asks ∙ ap {B = Result ℕ Refused} Ok D-objects

  E-counted : CountsExactly E date date 11 r → r ≡ Ok 3
  E-counted h = h (first ∷ second ∷ []) 0 0 E-follows E-asks ∙ ap {B = Result ℕ Refused} Ok E-objects

module _ (out : List ℤ) (r : Result ℕ Refused) (o : List ℤ) where
  D-exactly : 2 ≤ length out → FillsExactly D date date 11 out r o → (r ≡ Ok 2) × (o ≡ pos 1 ∷ negsuc 0 ∷ drop 2 out)
  D-exactly fits h =
      let (a, _, b) = h (first ∷ []) 0 0 D-follows D-asks (rw D-objects fits) in
      (a ∙ ap {B = Result ℕ Refused} Ok D-objects, b ∙ ap (λ (n : ℕ). column_of (first ∷ []) 0 0 ++ drop n out) D-objects ∙ ap (λ (c : List ℤ). c ++ drop 2 out) D-column)

  E-exactly : 3 ≤ length out → FillsExactly E date date 11 out r o → (r ≡ Ok 3) × (o ≡ pos 1 ∷ negsuc 0 ∷ pos 256 ∷ drop 3 out)
  E-exactly fits h =
      let (a, _, b) = h (first ∷ second ∷ []) 0 0 E-follows E-asks (rw E-objects fits) in (
        a ∙ ap {B = Result ℕ Refused} Ok E-objects,
        b ∙ ap (λ (n : ℕ). column_of (first ∷ second ∷ []) 0 0 ++ drop n out) E-objects ∙ ap (λ (c : List ℤ). c ++ drop 3 out) E-column,
      )

  other-exactly : 3 ≤ length out → FillsExactly (encode (first ∷ other ∷ [])) date date 11 out r o → o ≡ pos 1 ∷ negsuc 0 ∷ pos 257 ∷ drop 3 out
  other-exactly fits h =
      let (_, _, b) = h (first ∷ other ∷ []) 0 0 other-follows other-asks (rw other-objects fits) in
      b ∙ ap (λ (n : ℕ). column_of (first ∷ other ∷ []) 0 0 ++ drop n out) other-objects ∙ ap (λ (c : List ℤ). c ++ drop 3 out) other-column

-- what a reader answers D and E is not the same
two-is-not-three : {r : Result ℕ Refused} → r ≡ Ok 2 → r ≡ Ok 3 → ⊥
two-is-not-three a b = let z : ◌≡◌ {A = Result ℕ Refused} (Ok 2) (Ok 3) = sym a ∙ b in let y : ◌≡◌ {A = ℕ} 2 3 = cc z in omega arith

-- three numbers to write to
abbrev noughts : List ℤ
noughts = pos 0 ∷ pos 0 ∷ pos 0 ∷ []

-- ── a reader that meets the contract breaks nothing ──

-- what the definitions leave, with a work table of noughts
unfoldable pub right-count : List ℕ → Left ℕ
right-count f = after_count f date date 11 (replicate table_length 0)

unfoldable pub right : List ℕ → List ℤ → Left ℤ
right f out = after_fill f date date 11 (replicate table_length 0) out

-- it is long enough
noughts-long : table_length ≤ length (replicate {A = ℕ} table_length 0)
noughts-long = rw (length-replicate {A = ℕ} table_length 0) (omega arith)

pub the-right-count : (f : List ℕ) → CountsExactly f date date 11 (some-reply (right-count f)).0
unfolding right-count after_count tells
the-right-count f = counts-exactly (record { work = _; left = (right-count f).table; long = noughts-long; replied = (some-reply (right-count f)).1 })

pub the-right-one : (f : List ℕ) (out : List ℤ) → FillsExactly f date date 11 out (some-reply (right f out)).0 (right f out).output
unfolding right
the-right-one f out = fills-exactly (record { work = _; left = (right f out).table; long = noughts-long; replied = (some-reply (right f out)).1 })

-- ── what a reader replies to a check of a file ──

-- E with a last pair that breaks the rules: its end is 01
damaged : check 16384 (E-with 0x01 0x01 0x01) ≡ refused 12
unfolding all-of-it E-with
damaged = refl

damaged-bytes : Bytes (E-with 0x01 0x01 0x01)
unfolding all-of-it E-with
damaged-bytes = bytes_back (E-with 0x01 0x01 0x01) refl

module _ (reply : List ℕ → Result ℕ Refused) (exactly : (f : List ℕ) → Bytes f → AcceptsExactly f (reply f)) where
  D-accepted : reply D ≡ Ok 0
  D-accepted = (exactly D (follows-bytes D (first ∷ []) D-follows)).1 (first ∷ [], D-follows)

  -- one that refuses everything refuses D
  pub refuses-everything : ((f : List ℕ) → (n : ℕ) × (reply f ≡ Err (record { number = n }))) → ⊥
  refuses-everything wrong =
      let (n, is) = wrong D in
      let z : ◌≡◌ {A = Result ℕ Refused} (Ok 0) (Err (record { number = n })) = sym D-accepted ∙ is in
      let y : ◌≡◌ {A = ℕ} 0 1 = cc z in
      omega arith

  -- one that takes D and not D with its numbers in nine bytes, as the paper once said, refuses what says the same
  pub refuses-padded : (n : ℕ) → reply nines ≡ Err (record { number = n }) → ⊥
  refuses-padded n is =
      let z : ◌≡◌ {A = Result ℕ Refused} (Ok 0) (Err (record { number = n })) = sym ((exactly nines (follows-bytes nines (first ∷ []) nines-follow)).1 (first ∷ [], nines-follow)) ∙ is in
      let y : ◌≡◌ {A = ℕ} 0 1 = cc z in
      omega arith

  -- one that reads the first pair and pretends for the later ones takes whatever stands behind D
  pub first-pair-checked : ((g : List ℕ) → reply (D ++ g) ≡ reply D) → ⊥
  unfolding E-with
  first-pair-checked wrong =
      let (l, F) = (exactly (E-with 0x01 0x01 0x01) damaged-bytes).0 (wrong _ ∙ D-accepted) in
      let z : ◌≡◌ {A = Answer ℕ} (refused 12) (done 0) = sym damaged ∙ follows-check (E-with 0x01 0x01 0x01) l F 16384 (omega arith) in
      let y : ◌≡◌ {A = ℕ} 0 1 = cc z in
      omega arith

-- ── what it replies to the question how many values the field `date` has ──

module _ (reply : List ℕ → Result ℕ Refused) (exactly : (f : List ℕ) → CountsExactly f date date 11 (reply f)) where
  -- one with a fixed answer, or one that returns an invented n, gives the same to D and E: whatever n is, it is not by the file
  pub invented-count : (r : Result ℕ Refused) → ((f : List ℕ) → reply f ≡ r) → ⊥
  invented-count r wrong = two-is-not-three (sym (wrong D) ∙ D-counted _ (exactly D)) (sym (wrong E) ∙ E-counted _ (exactly E))

  -- one that reads the first pair and pretends for the later ones counts the values of E as it does those of D
  pub first-pair-counted : ((p : Pair) (ps qs : Ledger) → reply (encode (p ∷ ps)) ≡ reply (encode (p ∷ qs))) → ⊥
  first-pair-counted wrong =
      two-is-not-three
      (ap reply (sym D-encoded) ∙ D-counted _ (exactly D))
      (wrong first [] (second ∷ []) ∙ ap reply (sym E-encoded) ∙ E-counted _ (exactly E))

  -- one that refuses everything refuses this too
  pub refuses-to-count : ((f : List ℕ) → (n : ℕ) × (reply f ≡ Err (record { number = n }))) → ⊥
  refuses-to-count wrong =
      let (n, is) = wrong D in
      let z : ◌≡◌ {A = Result ℕ Refused} (Ok 2) (Err (record { number = n })) = sym (D-counted _ (exactly D)) ∙ is in
      let y : ◌≡◌ {A = ℕ} 0 1 = cc z in
      omega arith

-- ── what it replies to the question for these values, and what the lent output then holds ──

module _
    (reply : List ℕ → List ℤ → Result ℕ Refused)
    (left : List ℕ → List ℤ → List ℤ)
    (exactly : (f : List ℕ) (out : List ℤ) → FillsExactly f date date 11 out (reply f out) (left f out))
  where
    D-replied : reply D noughts ≡ Ok 2
    D-replied = (D-exactly noughts _ _ (omega arith) (exactly D noughts)).0

    E-replied : reply E noughts ≡ Ok 3
    E-replied = (E-exactly noughts _ _ (omega arith) (exactly E noughts)).0

    -- one with a fixed answer gives the same to D and E
    pub fixed_answer : (r : Result ℕ Refused) → ((f : List ℕ) (out : List ℤ) → reply f out ≡ r) → ⊥
    fixed_answer r wrong = two-is-not-three (sym (wrong D noughts) ∙ D-replied) (sym (wrong E noughts) ∙ E-replied)

    -- one that writes nothing leaves 0 where D has 1
    pub writes_nothing : ((f : List ℕ) (out : List ℤ) → left f out ≡ out) → ⊥
    writes_nothing wrong =
        let z : noughts ≡ pos 1 ∷ negsuc 0 ∷ pos 0 ∷ [] = sym (wrong D noughts) ∙ (D-exactly noughts _ _ (omega arith) (exactly D noughts)).1 in
        let y : ◌≡◌ {A = ℕ} 0 1 = cc z in
        omega arith

    -- one that reads the first pair and pretends for the later ones replies to E what it replies to D
    pub first-pair-only : ((p : Pair) (ps qs : Ledger) (out : List ℤ) → reply (encode (p ∷ ps)) out ≡ reply (encode (p ∷ qs)) out) → ⊥
    first-pair-only wrong =
        two-is-not-three
        (ap (λ (f : List ℕ). reply f noughts) (sym D-encoded) ∙ D-replied)
        (wrong first [] (second ∷ []) noughts ∙ ap (λ (f : List ℕ). reply f noughts) (sym E-encoded) ∙ E-replied)

    -- or it reads how many values the later pairs have, and makes these up: then E with another last value has E's column
    pub first-pair-values :
        ((p q q' : Pair) (out : List ℤ) → q.strings ≡ q'.strings → q.entries ≡ q'.entries → left (encode (p ∷ q ∷ [])) out ≡ left (encode (p ∷ q' ∷ [])) out) → ⊥
    unfolding second other
    first-pair-values wrong =
        let e = ap (λ (f : List ℕ). left f noughts) (sym E-encoded) ∙ (E-exactly noughts _ _ (omega arith) (exactly E noughts)).1 in
        let o = other-exactly noughts _ _ (omega arith) (exactly (encode (first ∷ other ∷ [])) noughts) in
        let z : pos 1 ∷ negsuc 0 ∷ pos 256 ∷ [] ≡ pos 1 ∷ negsuc 0 ∷ pos 257 ∷ [] = sym e ∙ wrong first second other noughts refl refl ∙ o in
        let y : ◌≡◌ {A = ℕ} 256 257 = cc z in
        omega arith

    -- one that returns an invented n: not by the file, but by the lent output, say
    pub invented-n : (n : List ℤ → ℕ) → ((f : List ℕ) (out : List ℤ) → reply f out ≡ Ok (n out)) → ⊥
    invented-n n wrong = two-is-not-three (sym (wrong D noughts) ∙ D-replied) (sym (wrong E noughts) ∙ E-replied)

-- The laws, for each reader of the file. Assumes nothing.
use Rattle.std.specs.Prelude.{◌≡◌, refl, Bool, true, false, List, [], ◌∷◌, ℕ, zero, suc, ◌+◌, ◌≤◌, length}
use Rattle.std.proofs.Common.{sym, ◌∙◌, ap, arith}
use Rattle.paper.specs.Reader.{Reader, Out, got, no, ◌>>◌, when◌then◌else◌}
use Rattle.paper.specs.Numbers.{fixed, coding, v64, number}
use Rattle.paper.specs.Lists.{last_or}
use Rattle.paper.specs.Ledger.{State, Due, Chunk}
use Rattle.paper.specs.Rules.{with_strings, dues, after_front, any_type, a_type?, kinds_stand?}
use Rattle.paper.specs.File.{Upto, Front, small, string_end, string_block, restrictions, head, whole_of, kind, end_offset, new_field, fields, entry, data_region, front, refusal_of, kinds_named, pair_from, pair}
use Rattle.laws.specs.Laws.{Stays, Faithful, faithful, not-got, then-inv, part-inv, bind-faithful, then-faithful, give-faithful, must-faithful, if-faithful, within-faithful, part-faithful}

pub fixed-faithful : (w : ℕ) → Faithful (fixed w)
unfolding fixed
fixed-faithful w = search faithful

pub coding-faithful : (k : ℕ) → Faithful (coding k)
unfolding coding
coding-faithful zero = search (faithful, fixed-faithful)
coding-faithful (suc k) =
    bind-faithful (fixed-faithful 1) λ b. if-faithful _ (bind-faithful (coding-faithful k) λ bs. give-faithful (b ∷ bs)) (give-faithful (b ∷ []))

pub v64-faithful : Faithful v64
unfolding v64
v64-faithful = search (faithful, coding-faithful)

pub number-faithful : (rules : _) → Faithful (number rules)
unfolding number
number-faithful rules = must-faithful rules v64-faithful

pub small-faithful : Faithful small
unfolding small
small-faithful = number-faithful _

ruleset numbers = (faithful, number-faithful, fixed-faithful, v64-faithful, small-faithful)

pub string_block-faithful : (s : State) → Faithful (string_block s)
unfolding string_block string_end
string_block-faithful s = search numbers depth 9

pub head-faithful : (s : State) → Faithful (head s)
unfolding head restrictions
head-faithful s = search numbers depth 12

pub whole_of-faithful : (k : ℕ) → Faithful (whole_of k)
unfolding whole_of
whole_of-faithful k = search numbers

pub kind-faithful : (named : ℕ → Bool) → Faithful (kind named)
unfolding kind
kind-faithful named = search (numbers, whole_of-faithful) depth 12

pub fields-faithful : (named : ℕ → Bool) (t known : ℕ) (u : Upto) → Faithful (fields named t known u)
unfolding fields new_field end_offset restrictions
fields-faithful named t known u = search (numbers, kind-faithful) depth 12

pub entry-faithful : (named : ℕ → Bool) (u : Upto) → Faithful (entry named u)
unfolding entry
entry-faithful named u = search (faithful, head-faithful, fields-faithful)

pub front-faithful : (named : ℕ → Bool) (s : State) → Faithful (front named s)
unfolding front
front-faithful named s = search (numbers, string_block-faithful, entry-faithful) depth 9

-- ── kinds from 32 upwards ──

pub refusal-never : {X : Type 0} (o : Out Front) {v : Unit {0}} {e : ℕ} → refusal_of o ≡ got v e → X
refusal-never (got d m) h = not-got h
refusal-never (no n p) h = not-got h

-- what the kinds' test goes by: it reads nothing
pub named-inv :
    (s : State) (start : ℕ) (d : Front) (f : List ℕ) (at : ℕ) (v : Unit {0}) (e : ℕ) → kinds_named s start d f at ≡ got v e
    → (kinds_stand? (after_front s d.strings d.entries) d.entries ≡ true) × (e ≡ at)
unfolding kinds_named when◌then◌else◌
named-inv s start d f at v e q = go (kinds_stand? (after_front s d.strings d.entries) d.entries) refl q
  where
    go :
        (b : Bool) → kinds_stand? (after_front s d.strings d.entries) d.entries ≡ b
        → (when b then got tt at else refusal_of (front (a_type? (after_front s d.strings d.entries)) s f start)) ≡ got v e
        → (kinds_stand? (after_front s d.strings d.entries) d.entries ≡ true) × (e ≡ at)
    go true t q = (t, cc q)
    go false t q = refusal-never (front (a_type? (after_front s d.strings d.entries)) s f start) q

pub named-stands :
    (s : State) (start : ℕ) (d : Front) (f : List ℕ) (at : ℕ) → kinds_stand? (after_front s d.strings d.entries) d.entries ≡ true
    → kinds_named s start d f at ≡ got tt at
unfolding kinds_named when◌then◌else◌
named-stands s start d f at h = rw h

named-faithful : (s : State) (start : ℕ) (d : Front) → Faithful (kinds_named s start d)
named-faithful s start d = record { at = go }
  where
    go : (f : List ℕ) (at : ℕ) (v : Unit {0}) (e : ℕ) → at ≤ length f → kinds_named s start d f at ≡ got v e → Stays (kinds_named s start d) f at v e
    go f at v e h q =
        let (t, z) = named-inv s start d f at v e q in
        record {
          forward = omega arith;
          inside = omega arith;
          local = λ g hg ag le. named-stands s start d g at t ∙ ap (got tt) (sym z);
          short = λ g hg ag lt. absurd (omega arith);
        }

-- ── pair ──

-- a region that is read ends where it should
pub region-end : (s : State) (ds : List Due) (es : List ℕ) (f : List ℕ) (m : ℕ) (cs : List Chunk) (e : ℕ) → data_region s ds es f m ≡ got cs e → (e ≡ m + last_or 0 es) × (e ≤ length f)
unfolding data_region
region-end s ds es f m cs e q = let P = part-inv (last_or 0 es) _ f m cs e q in (P.ends, omega (arith, P.ends, P.room))

-- the kinds' test and then the region
abbrev pub region : State → ℕ → Front → Reader (List Chunk)
region s start d = kinds_named s start d >> data_region (after_front s d.strings d.entries) (dues (with_strings s d.strings) d.entries) d.ends

pub region-inv :
    (s : State) (start : ℕ) (d : Front) (f : List ℕ) (at : ℕ) (v : List Chunk) (e : ℕ) → region s start d f at ≡ got v e
    → (kinds_stand? (after_front s d.strings d.entries) d.entries ≡ true)
    × (data_region (after_front s d.strings d.entries) (dues (with_strings s d.strings) d.entries) d.ends f at ≡ got v e)
region-inv s start d f at v e q =
    let B = then-inv (kinds_named s start d) _ f at v e q in
    let (t, z) = named-inv s start d f at B.value B.next B.first in
    (t, rw z at B.rest)

region-covers : (s : State) (start : ℕ) (d : Front) (f : List ℕ) (at : ℕ) (v : List Chunk) (e : ℕ) → region s start d f at ≡ got v e → at + last_or 0 d.ends ≤ e
region-covers s start d f at v e q =
    let (_, r) = region-inv s start d f at v e q in
    omega (arith, (region-end _ _ d.ends f at v e r).0)

region-faithful : (s : State) (start : ℕ) (d : Front) → Faithful (region s start d)
unfolding data_region
region-faithful s start d = then-faithful (named-faithful s start d) (part-faithful _ _)

from-faithful : (s : State) (start : ℕ) → Faithful (pair_from s start)
unfolding pair_from
from-faithful s start =
    bind-faithful (front-faithful any_type s) λ d.
    bind-faithful (within-faithful (last_or 0 d.ends) (region-faithful s start d) (region-covers s start d)) λ chunks. give-faithful _

pub pair-faithful : (s : State) → Faithful (pair s)
unfolding pair
pair-faithful s =
    record {
      at = λ f at v e h q. let S = (from-faithful s at).at f at v e h q in
          record { forward = S.forward; inside = S.inside; local = S.local; short = S.short };
    }

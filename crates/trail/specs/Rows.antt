-- The numbers of a kind that a file gives are those of one that is listed. Assumes nothing.
use Rattle.std.specs.Prelude.{◌≡◌, refl, Bool, true, false, List, [], ◌∷◌, ℕ, suc, ◌+◌, ◌≤◌, ◌<◌, leb, length, get_or, take, drop}
use Rattle.std.proofs.Common.{sym, arith, leb-true}
use Rattle.paper.specs.Reader.{when◌then◌else◌, Out, got, no, turned, and_then, hold, must, from_start, started, bytes, Rule}
use Rattle.paper.specs.Numbers.{fixed, coding, v64, number}
use Rattle.paper.specs.Ledger.{Kind, plain}
use Rattle.paper.specs.Rules.{element_kind?, any_type, kind_rules, element_kind_rules, noted}
use Rattle.paper.specs.File.{kind}
use Rattle.paper.specs.Keeps.{hold?, kind_kept?, number?}
use Rattle.laws.specs.Laws.{not-got, bind_inv}
use Rattle.laws.specs.Says.{Bytes}
use Rattle.laws.specs.Heads.{kind-kept}
use Rattle.table.specs.View.{kind_from}
use Rattle.reader.specs.Kinds.{named_by, kind_in}
use Rattle.reader.specs.declared.kinds.Kind.{Kind as KindRow}

pub record RowKept (r : KindRow) : Type 0 where
  pub own : Kind
  pub is : kind_in r ≡ noted own
  pub kept : kind_kept? own ≡ true

-- ── what is read begins within the file ──

bytes-there : (n : ℕ) (f : List ℕ) (at : ℕ) (bs : List ℕ) (e : ℕ) → bytes n f at ≡ got bs e → at ≤ length f
unfolding bytes when◌then◌else◌
bytes-there n f at bs e h = go (leb (at + n) (length f)) refl h
  where
    go : (t : Bool) → leb (at + n) (length f) ≡ t → (when t then got (take n (drop at f)) (at + n) else no 1 at) ≡ got bs e → at ≤ length f
    go true t h = omega (arith, leb-true (at + n) (length f) t)
    go false t h = not-got h

coding-there : (f : List ℕ) (at : ℕ) (bs : List ℕ) (e : ℕ) → coding 8 f at ≡ got bs e → at ≤ length f
unfolding coding fixed
coding-there f at bs e h =
    let A = bind_inv (fixed 1) _ f at bs e h in
    let B = bind_inv (bytes 1) _ f at A.value A.next A.first in
    bytes-there 1 f at B.value B.next B.first

v64-there : (f : List ℕ) (at n e : ℕ) → v64 f at ≡ got n e → at ≤ length f
unfolding v64 started
v64-there f at n e h = let A = bind_inv (started (coding 8)) _ f at n e h in begun (coding 8 f at) refl A.first
  where
    begun : {bs : List ℕ} {m : ℕ} (o : Out (List ℕ)) → coding 8 f at ≡ o → from_start at o ≡ got bs m → at ≤ length f
    begun (got bs m) is q = coding-there f at bs m is
    begun (no k p) is q = not-got q

pub number-there : (rules : ℕ → List Rule) (f : List ℕ) (at n e : ℕ) → number rules f at ≡ got n e → at ≤ length f
unfolding number must
number-there rules f at n e h = go (v64 f at) refl h
  where
    go : (o : Out ℕ) → v64 f at ≡ o → and_then o (λ a m. hold (rules a) at (got a m)) ≡ got n e → at ≤ length f
    go (got a m) is q = v64-there f at a m is
    go (no k p) is q = not-got q

kind-there : (f : List ℕ) (at : ℕ) (k : Kind) (e : ℕ) → kind any_type f at ≡ got k e → at ≤ length f
unfolding kind
kind-there f at k e h =
    let A = bind_inv (number (kind_rules any_type)) _ f at k e h in
    number-there (kind_rules any_type) f at A.value A.next A.first

-- ── the row of a kind ──

pub row_kept : (f : List ℕ) (at q : ℕ) (r : KindRow) → Bytes f → got (kind_in r) q ≡ turned noted (kind (named_by false 0) f at) → RowKept r
unfolding named_by
row_kept f at q r low h = go (kind any_type f at) refl h
  where
    go : (o : Out Kind) → kind any_type f at ≡ o → got (kind_in r) q ≡ turned noted o → RowKept r
    go (got k e) is h = record { own = k; is = cc h; kept = (kind-kept.at f at k e low (kind-there f at k e is) is).said.1 }
    go (no k p) is h = not-got (sym h)

-- where no kind is read
pub row-none : RowKept (record { first = 5; bits = 0; last = 5 })
unfolding kind_from when◌then◌else◌ noted kind_kept? number? hold? element_kind_rules element_kind?
row-none = record { own = plain 5; is = refl; kept = refl }

-- that all bytes are below 256 is known of what a function is lent
pub all-bytes : (f : List ℕ) → ((i : ℕ) → get_or f i 0 < 256) → Bytes f
all-bytes [] h = tt
all-bytes (b ∷ f) h = (h 0, all-bytes f (λ i. h (suc i)))

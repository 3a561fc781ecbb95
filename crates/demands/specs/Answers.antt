-- Demand 1: each call has one reply to what it is lent, no second one, and leaves the lent memory in one way. Assumes nothing.
use Rattle.std.specs.Prelude.{◌≡◌, refl, List, [], ◌∷◌, ◌++◌, ℕ, ◌≤◌, ◌<◌, ℤ, leb, length, drop, replicate, Result, Ok, Err}
use Rattle.std.proofs.Common.{sym, ap, ◌∙◌, arith, length-append, le-leb}
use Rattle.std.proofs.lemmas.List.{length-replicate}
use Rattle.std.proofs.lemmas.Bool.{lt-leb}
use Rattle.paper.specs.Reader.{when◌then◌else◌}
use Rattle.paper.specs.Bounds.{table_length}
use Rattle.paper.specs.Calls.{Answer, done, refused, Left, cleared, writes, tells, after_check, after_objects, after_count, after_fill, after_listing, after_build}
use Rattle.laws.specs.Answers.{Refusal, check-refusals, objects-refusals, count-refusals, fill-refusals, listing-refusals, build-refusals}
use Rattle.calls.specs.Told.{answer_of, after}
use Rattle.calls.specs.Fixed.{one_way}
use Rattle.calls.specs.declared.replies.Refused.{Refused}
use Rattle.demands.specs.Replies.{tells-answer, was-done, was-refused, drop-front}

-- ── a reply, and only one ──

-- whatever the definitions leave, there is a reply that says it
pub some-reply : {A : Type 0} (left : Left A) → (r : Result ℕ Refused) × (after r left.table left.output ≡ left)
unfolding answer_of
some-reply {A} left = go left.answer refl
  where
    go : (a : Answer ℕ) → left.answer ≡ a → (r : Result ℕ Refused) × (after r left.table left.output ≡ left)
    go (done n) q = (Ok n, ap (λ (x : Answer ℕ). record { answer = x; table = left.table; output = left.output }) (sym q))
    go (refused n) q = (Err (record { number = n }), ap (λ (x : Answer ℕ). record { answer = x; table = left.table; output = left.output }) (sym q))

-- any two replies to the same call are equal, and so is all that was lent
module _ {r q : Result ℕ Refused} {w v : List ℕ} where
  pub one-check : (f work : List ℕ) → after r w [] ≡ after_check f work → after q v [] ≡ after_check f work → (r ≡ q) × (w ≡ v)
  one-check f work a b = let (x, y, _) = one_way a b in (x, y)

  pub one-objects : (f type work : List ℕ) → after r w [] ≡ after_objects f type work → after q v [] ≡ after_objects f type work → (r ≡ q) × (w ≡ v)
  one-objects f type work a b = let (x, y, _) = one_way a b in (x, y)

  module _ (f type field : List ℕ) (k : ℕ) (work : List ℕ) where
    pub one-count : after r w [] ≡ after_count f type field k work → after q v [] ≡ after_count f type field k work → (r ≡ q) × (w ≡ v)
    one-count a b = let (x, y, _) = one_way a b in (x, y)

    pub one-fill : (out : List ℤ) {o p : List ℤ} → after r w o ≡ after_fill f type field k work out → after q v p ≡ after_fill f type field k work out → (r ≡ q) × (w ≡ v) × (o ≡ p)
    one-fill out a b = one_way a b

  pub one-listing : (f work out : List ℕ) {o p : List ℕ} → after r w o ≡ after_listing f work out → after q v p ≡ after_listing f work out → (r ≡ q) × (w ≡ v) × (o ≡ p)
  one-listing f work out a b = one_way a b

  pub one-build : (t work out : List ℕ) {o p : List ℕ} → after r w o ≡ after_build t work out → after q v p ≡ after_build t work out → (r ≡ q) × (w ≡ v) × (o ≡ p)
  one-build t work out a b = one_way a b

-- ── a refusal is one of the paper's numbers, and never 2 ──

module _ (n : ℕ) {w : List ℕ} where
  pub check-refusal : (f work : List ℕ) → after (Err (record { number = n })) w [] ≡ after_check f work → Refusal n
  unfolding after_check answer_of
  check-refusal f work c = check-refusals (length work) f n (sym (tells-answer _ work (Err (record { number = n })) c))

  pub objects-refusal : (f type work : List ℕ) → after (Err (record { number = n })) w [] ≡ after_objects f type work → Refusal n
  unfolding after_objects answer_of
  objects-refusal f type work c = objects-refusals type (length work) f n (sym (tells-answer _ work (Err (record { number = n })) c))

  module _ (f type field : List ℕ) (k : ℕ) (work : List ℕ) where
    -- the first of the pair never gives 19
    pub count-refusal : after (Err (record { number = n })) w [] ≡ after_count f type field k work → Refusal n × (n ≡ 19 → ⊥)
    unfolding after_count answer_of
    count-refusal c = count-refusals type field k (length work) f n (sym (tells-answer _ work (Err (record { number = n })) c))

    pub fill-refusal : (out : List ℤ) {o : List ℤ} → after (Err (record { number = n })) w o ≡ after_fill f type field k work out → Refusal n
    unfolding after_fill
    fill-refusal out c = fill-refusals type field k (length out) (length work) f n (was-refused _ work out (Err (record { number = n })) c n refl).0

  pub listing-refusal : (f work out : List ℕ) {o : List ℕ} → after (Err (record { number = n })) w o ≡ after_listing f work out → Refusal n
  unfolding after_listing
  listing-refusal f work out c = listing-refusals (length out) (length work) f n (was-refused _ work out (Err (record { number = n })) c n refl).0

  pub build-refusal : (t work out : List ℕ) {o : List ℕ} → after (Err (record { number = n })) w o ≡ after_build t work out → Refusal n
  unfolding after_build
  build-refusal t work out c = build-refusals (length out) (length work) t n (was-refused _ work out (Err (record { number = n })) c n refl).0

-- ── what the lent memory holds afterwards ──

-- the first 16,384 numbers are 0 and the rest as lent
pub cleared-long : (work : List ℕ) → table_length ≤ length work → cleared work ≡ replicate table_length 0 ++ drop table_length work
unfolding cleared when◌then◌else◌
cleared-long work h = rw (le-leb table_length (length work) h)

-- a shorter one is untouched
pub cleared-short : (work : List ℕ) → length work < table_length → cleared work ≡ work
unfolding cleared when◌then◌else◌
cleared-short work h = rw (lt-leb table_length (length work) h)

-- a long one stays long
pub cleared-length : (work : List ℕ) → table_length ≤ length work → table_length ≤ length (cleared work)
cleared-length work h = rw (cleared-long work h, length-append (replicate {A = ℕ} table_length 0) (drop table_length work), length-replicate {A = ℕ} table_length 0) (omega arith)

-- so the work table is left after any call
pub work-after :
    (f t type field work out : List ℕ) (k : ℕ) (numbers : List ℤ)
    → ((after_check f work).table ≡ cleared work) ×
    ((after_objects f type work).table ≡ cleared work) ×
    ((after_count f type field k work).table ≡ cleared work) ×
    ((after_fill f type field k work numbers).table ≡ cleared work) ×
    ((after_listing f work out).table ≡ cleared work) ×
    ((after_build t work out).table ≡ cleared work)
unfolding after_check after_objects after_count after_fill after_listing after_build writes tells
work-after f t type field work out k numbers = (refl, refl, refl, refl, refl, refl)

-- a refusal leaves the output untouched; else what stands behind the first n is untouched
pub record OutputKept {A : Type 0} (out : List A) (left : Left A) : Type 0 where
  pub refused_all : (n : ℕ) {w : List ℕ} {o : List A} → after (Err (record { number = n })) w o ≡ left → o ≡ out
  pub done-rest : (n : ℕ) {w : List ℕ} {o : List A} → after (Ok n) w o ≡ left → drop n o ≡ drop n out

rest-kept : {A : Type 0} (n : ℕ) (vs o out : List A) → n ≡ length vs → o ≡ vs ++ drop n out → drop n o ≡ drop n out
rest-kept n vs o out count is = rw is (rw (sym count) at (drop-front vs (drop n out)))

writes_kept : {A : Type 0} (a : Answer (List A)) (work : List ℕ) (out : List A) → OutputKept out (writes a work out)
writes_kept a work out =
    record {
      refused_all = λ n h. (was-refused a work out (Err (record { number = n })) h n refl).1;
      done-rest = λ n h. let (vs, _, count, is) = was-done a work out (Ok n) h n refl in rest-kept n vs _ out count is;
    }

pub fill-kept : (f type field : List ℕ) (k : ℕ) (work : List ℕ) (out : List ℤ) → OutputKept out (after_fill f type field k work out)
unfolding after_fill
fill-kept f type field k work out = writes_kept _ work out

pub listing-kept : (f work out : List ℕ) → OutputKept out (after_listing f work out)
unfolding after_listing
listing-kept f work out = writes_kept _ work out

pub build-kept : (t work out : List ℕ) → OutputKept out (after_build t work out)
unfolding after_build
build-kept t work out = writes_kept _ work out

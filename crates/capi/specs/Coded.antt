-- An answer in one signed number. Assumes nothing.
use Rattle.std.specs.Prelude.{◌≡◌, List, ℕ, zero, suc, ◌≤◌, ◌<◌, leb, ℤ, pos, negsuc, neg_ℤ, Result}
use Rattle.std.proofs.Math.Path.{refl, ap}
use Rattle.std.proofs.Common.{sym, ◌∙◌, arith, le-leb}
use Rattle.std.proofs.Math.ListN.{length}
use Rattle.paper.specs.Reader.{when◌then◌else◌}
use Rattle.paper.specs.Calls.{Answer, done, refused, check, objects, count_values, fill_values, listing, build, how_many, Left, tells, writes, after_check, after_objects, after_count, after_fill, after_listing, after_build}
use Rattle.laws.specs.Says.{Bytes}
use Rattle.paper.specs.Listing.{print}
use Rattle.laws.specs.Columns.{bind_done}
use Rattle.laws.specs.Promises.{fitted-inv}
use Rattle.laws.specs.Answers.{Refusal, check-refusals, objects-refusals, count-refusals, fill-refusals, listing-refusals, build-refusals, objects-most, count_most, fill-most, build-most}
use Rattle.calls.specs.Told.{answer_of, after}
use Rattle.calls.specs.declared.replies.Refused.{Refused}

-- what was done, from 0 up, or minus the number of the refusal
unfoldable pub coded : Answer ℕ → ℤ
coded (done n) = pos n
coded (refused n) = neg_ℤ (pos n)

-- and back
unfoldable pub decoded : ℤ → Answer ℕ
decoded (pos n) = done n
decoded (negsuc n) = refused (suc n)

-- no refusal has the number 0
unfoldable pub Numbered : Answer ℕ → Type 0
Numbered (done n) = Unit {0}
Numbered (refused n) = 1 ≤ n

pub decoded-back : (a : Answer ℕ) → Numbered a → decoded (coded a) ≡ a
unfolding decoded coded Numbered
decoded-back (done n) h = refl
decoded-back (refused zero) h = absurd (omega arith)
decoded-back (refused (suc n)) h = refl

-- a call's number says its answer, and its table and its output are what the definitions leave
pub record Coded {A : Type 0} (z : ℤ) (table : List ℕ) (out : List A) (left : Left A) : Type 0 where
  pub number : z ≡ coded left.answer
  pub back : decoded z ≡ left.answer
  pub table_is : table ≡ left.table
  pub output-is : out ≡ left.output

-- and so there is one number, one table and one output that a call can leave
pub one-coded :
    {A : Type 0} {z y : ℤ} {w v : List ℕ} {o p : List A} {left : Left A} → Coded z w o left → Coded y v p left → (z ≡ y) × (w ≡ v) × (o ≡ p)
one-coded a b = (a.number ∙ sym b.number, a.table_is ∙ sym b.table_is, a.output-is ∙ sym b.output-is)

-- there is such a number wherever refusals are numbered from 1, as they are for each call (`check-plain` .. `build-plain`)
pub some-coded : {A : Type 0} (left : Left A) → Numbered left.answer → Coded (coded left.answer) left.table left.output left
some-coded left h = record { number = refl; back = decoded-back left.answer h; table_is = refl; output-is = refl }

-- ── in code no number passes the top of the range, and none comes near it ──

unfoldable pub up_to_top : ℕ → ℕ
up_to_top n = when leb n 9223372036854775807 then n else 9223372036854775807

unfoldable pub coded_up_to : Answer ℕ → ℤ
coded_up_to (done n) = pos (up_to_top n)
coded_up_to (refused n) = neg_ℤ (pos (up_to_top n))

unfoldable pub Small : Answer ℕ → Type 0
Small (done n) = n ≤ 9223372036854775807
Small (refused n) = n ≤ 9223372036854775807

up_to : (n : ℕ) → n ≤ 9223372036854775807 → up_to_top n ≡ n
unfolding up_to_top when◌then◌else◌
up_to n h = rw (le-leb n 9223372036854775807 h)

small-code : (a : Answer ℕ) → Small a → coded_up_to a ≡ coded a
unfolding coded_up_to coded Small
small-code (done n) h = rw (up_to n h)
small-code (refused n) h = rw (up_to n h)

-- ── each call's answer is small, and its refusals are numbered ──

pub record Plain (a : Answer ℕ) : Type 0 where
  pub small : Small a
  pub numbered : Numbered a

pub as-coded : {A : Type 0} {z : ℤ} (r : Result ℕ Refused) {table : List ℕ} {out : List A} {left : Left A} → z ≡ coded_up_to (answer_of r) → after r table out ≡ left → Plain left.answer → Coded z table out left
as-coded {A} r {left = left} is says plain =
    let number = is ∙ ap (λ (x : Left A). coded_up_to x.answer) says ∙ small-code left.answer plain.small in
    record {
      number = number;
      back = ap decoded number ∙ decoded-back left.answer plain.numbered;
      table_is = ap (λ (x : Left A). x.table) says;
      output-is = ap (λ (x : Left A). x.output) says;
    }

plain-refusal : (n : ℕ) → Refusal n → Plain (refused n)
unfolding Small Numbered
plain-refusal n h = record { small = omega (arith, h.1); numbered = h.0 }

plain_done : (n : ℕ) → n ≤ 9223372036854775807 → Plain (done n)
unfolding Small Numbered
plain_done n h = record { small = h; numbered = tt }

module _ (f w : List ℕ) where
  pub check-plain : Plain (after_check f w).answer
  unfolding after_check tells check
  check-plain = go (check (length w) f) refl
    where
      go : (a : Answer ℕ) → check (length w) f ≡ a → Plain a
      go (done n) is = let (_, _, z) = bind_done _ _ n is in let y : 0 ≡ n = cc z in plain_done n (omega arith)
      go (refused n) is = plain-refusal n (check-refusals (length w) f n is)

  pub objects-plain : Bytes f → (type : List ℕ) → Plain (after_objects f type w).answer
  unfolding after_objects tells
  objects-plain bytes type = go (objects type (length w) f) refl
    where
      go : (a : Answer ℕ) → objects type (length w) f ≡ a → Plain a
      go (done n) is = plain_done n (omega (arith, objects-most type (length w) f n bytes is))
      go (refused n) is = plain-refusal n (objects-refusals type (length w) f n is)

  module _ (bytes : Bytes f) (type field : List ℕ) (k : ℕ) where
    pub count-plain : Plain (after_count f type field k w).answer
    unfolding after_count tells
    count-plain = go (count_values type field k (length w) f) refl
      where
        go : (a : Answer ℕ) → count_values type field k (length w) f ≡ a → Plain a
        go (done n) is = plain_done n (omega (arith, count_most type field k (length w) f n bytes is))
        go (refused n) is = plain-refusal n (count-refusals type field k (length w) f n is).0

    pub fill-plain : (out : List ℤ) → Plain (after_fill f type field k w out).answer
    unfolding after_fill writes how_many
    fill-plain out = go (fill_values type field k (length out) (length w) f) refl
      where
        go : (a : Answer (List ℤ)) → fill_values type field k (length out) (length w) f ≡ a → Plain (how_many a)
        go (done c) is = plain_done (length c) (omega (arith, fill-most type field k (length out) (length w) f c bytes is))
        go (refused n) is = plain-refusal n (fill-refusals type field k (length out) (length w) f n is)

  pub listing-plain : (out : List ℕ) → length out < 9223372036854775808 → Plain (after_listing f w out).answer
  unfolding after_listing writes how_many listing
  listing-plain out room = go (listing (length out) (length w) f) refl
    where
      go : (a : Answer (List ℕ)) → listing (length out) (length w) f ≡ a → Plain (how_many a)
      go (done t) is =
          let (l, _, z) = bind_done _ _ t is in
          let (same, fits) = fitted-inv (length out) (print l) t z in
          plain_done (length t) (omega (arith, ap length same))
      go (refused n) is = plain-refusal n (listing-refusals (length out) (length w) f n is)

  -- here f is the text
  pub build-plain : (out : List ℕ) → Plain (after_build f w out).answer
  unfolding after_build writes how_many
  build-plain out = go (build (length out) (length w) f) refl
    where
      go : (a : Answer (List ℕ)) → build (length out) (length w) f ≡ a → Plain (how_many a)
      go (done t) is = plain_done (length t) (omega (arith, build-most (length out) (length w) f t is))
      go (refused n) is = plain-refusal n (build-refusals (length out) (length w) f n is)

-- Each call's contract fixes its reply and all that is lent: any two that meet it are equal. Assumes nothing.
use Rattle.std.specs.Prelude.{◌≡◌, List, [], ℕ, ℤ, Result, Ok, Err}
use Rattle.std.proofs.Common.{sym, ap, ◌∙◌, arith}
use Rattle.paper.specs.Calls.{Left, after_check, after_objects, after_count, after_fill}
use Rattle.calls.specs.Told.{answer_of, after}
use Rattle.calls.specs.declared.replies.Refused.{Refused}

-- two replies that say the same are the same
pub same-reply : (r q : Result ℕ Refused) → answer_of r ≡ answer_of q → r ≡ q
unfolding answer_of
same-reply (Ok n) (Ok m) h = let z : n ≡ m = cc h in ap {B = Result ℕ Refused} Ok z
same-reply (Ok n) (Err e) h = let z : ◌≡◌ {A = ℕ} 0 1 = cc h in absurd (omega arith)
same-reply (Err e) (Ok m) h = let z : ◌≡◌ {A = ℕ} 0 1 = cc h in absurd (omega arith)
same-reply (Err e) (Err d) h = let z : e.number ≡ d.number = cc h in ap {B = Result ℕ Refused} (λ (x : ℕ). Err (record { number = x })) z

-- for every call: whatever a contract gives, it gives once
pub one_way : {A : Type 0} {r q : Result ℕ Refused} {w v : List ℕ} {o p : List A} {left : Left A} → after r w o ≡ left → after q v p ≡ left → (r ≡ q) × (w ≡ v) × (o ≡ p)
one_way {A} {r} {q} a b =
    let h = a ∙ sym b in
    (same-reply r q (ap (λ (x : Left A). x.answer) h), ap (λ (x : Left A). x.table) h, ap (λ (x : Left A). x.output) h)

module _ (file work : List ℕ) {r q : Result ℕ Refused} {w v : List ℕ} where
  pub check-fixed : after r w [] ≡ after_check file work → after q v [] ≡ after_check file work → (r ≡ q) × (w ≡ v)
  check-fixed a b = let (x, y, _) = one_way a b in (x, y)

  pub objects-fixed : (name : List ℕ) → after r w [] ≡ after_objects file name work → after q v [] ≡ after_objects file name work → (r ≡ q) × (w ≡ v)
  objects-fixed name a b = let (x, y, _) = one_way a b in (x, y)

  module _ (owner name : List ℕ) (k : ℕ) where
    pub count-fixed : after r w [] ≡ after_count file owner name k work → after q v [] ≡ after_count file owner name k work → (r ≡ q) × (w ≡ v)
    count-fixed a b = let (x, y, _) = one_way a b in (x, y)

    pub fill-fixed :
        (out : List ℤ) {o p : List ℤ} → after r w o ≡ after_fill file owner name k work out → after q v p ≡ after_fill file owner name k work out → (r ≡ q) × (w ≡ v) × (o ≡ p)
    fill-fixed out a b = one_way a b

-- What a reply says of the definitions' answer, and the other way round. Assumes nothing.
use Rattle.std.proofs.Math.Path.{◌≡◌, refl, sym, ap}
use Rattle.std.proofs.Common.{◌∙◌, arith}
use mathlib.Core.List.{List, [], ◌∷◌, ◌++◌}
use Rattle.std.specs.Prelude.{ℕ, zero, suc, ◌+◌, ◌≤◌, ◌<◌, take, Result, Ok, Err}
use Rattle.std.proofs.Math.ListN.{length, drop}
use Rattle.paper.specs.Calls.{Answer, done, refused, Left, how_many, left_in, over_front, cleared, writes, tells}
use Rattle.calls.specs.Told.{answer_of, after}
use Rattle.calls.specs.declared.replies.Refused.{Refused}

pub take-front : {A : Type 0} (l m : List A) → take (length l) (l ++ m) ≡ l
take-front [] m = refl
take-front (x ∷ l) m = ap (λ (z : List _). x ∷ z) (take-front l m)

-- the first n numbers of what was written are what was answered
pub front-is : {A : Type 0} (n : ℕ) (vs o rest : List A) → n ≡ length vs → o ≡ vs ++ rest → take n o ≡ vs
front-is n vs o rest count is = rw (is, count) (take-front vs rest)

pub drop-front : {A : Type 0} (l m : List A) → drop (length l) (l ++ m) ≡ m
drop-front [] m = refl
drop-front (x ∷ l) m = drop-front l m

-- ── from the reply to the answer ──

pub said-done : (r : Result ℕ Refused) (n : ℕ) → answer_of r ≡ done n → r ≡ Ok n
unfolding answer_of
said-done (Ok m) n q = let z : m ≡ n = cc q in ap {B = Result ℕ Refused} Ok z
said-done (Err e) n q = let z : ◌≡◌ {A = ℕ} 0 1 = cc q in absurd (omega arith)

pub said-refused : (r : Result ℕ Refused) (n : ℕ) → answer_of r ≡ refused n → r ≡ Err (record { number = n })
unfolding answer_of
said-refused (Ok m) n q = let z : ◌≡◌ {A = ℕ} 0 1 = cc q in absurd (omega arith)
said-refused (Err e) n q = let z : e.number ≡ n = cc q in ap {B = Result ℕ Refused} (λ (x : ℕ). Err (record { number = x })) z

pub says-done : (r : Result ℕ Refused) (n : ℕ) → r ≡ Ok n → answer_of r ≡ done n
unfolding answer_of
says-done r n q = rw q

pub says-refused : (r : Result ℕ Refused) (n : ℕ) → r ≡ Err (record { number = n }) → answer_of r ≡ refused n
unfolding answer_of
says-refused r n q = rw q

-- ── a call without an output ──

module _ (a : Answer ℕ) (work : List ℕ) (r : Result ℕ Refused) {w o : List ℕ} (h : after r w o ≡ tells a work) where
  pub tells-answer : answer_of r ≡ a
  unfolding tells
  tells-answer = ap (λ (x : Left ℕ). x.answer) h

-- ── a call that writes ──

module _ {A : Type 0} (a : Answer (List A)) (work : List ℕ) (out : List A) (r : Result ℕ Refused) {w : List ℕ} {o : List A} (h : after r w o ≡ writes a work out) where
  pub writes-answer : answer_of r ≡ how_many a
  unfolding writes
  writes-answer = ap (λ (x : Left A). x.answer) h

  pub writes_output : o ≡ left_in out a
  unfolding writes
  writes_output = ap (λ (x : Left A). x.output) h

  -- what is answered is written to the front, and the reply is how many
  pub written : (vs : List A) → a ≡ done vs → (r ≡ Ok (length vs)) × (o ≡ vs ++ drop (length vs) out)
  unfolding how_many left_in over_front
  written vs is =
      (said-done r (length vs) (writes-answer ∙ rw is), writes_output ∙ rw is)

  pub unwritten : (n : ℕ) → a ≡ refused n → (r ≡ Err (record { number = n })) × (o ≡ out)
  unfolding how_many left_in
  unwritten n is = (said-refused r n (writes-answer ∙ rw is), writes_output ∙ rw is)

  -- and the other way round
  pub was-done : (n : ℕ) → r ≡ Ok n → (vs : List A) × (a ≡ done vs) × (n ≡ length vs) × (o ≡ vs ++ drop n out)
  unfolding how_many left_in over_front
  was-done n is = go a refl
    where
      go : (b : Answer (List A)) → a ≡ b → (vs : List A) × (a ≡ done vs) × (n ≡ length vs) × (o ≡ vs ++ drop n out)
      go (done vs) q =
          let z : done n ≡ done (length vs) = sym (says-done r n is) ∙ writes-answer ∙ rw q in
          let y : n ≡ length vs = cc z in
          (vs, q, y, rw y (written vs q).1)
      go (refused m) q =
          let z : done n ≡ refused m = sym (says-done r n is) ∙ writes-answer ∙ rw q in
          let y : ◌≡◌ {A = ℕ} 0 1 = cc z in absurd (omega arith)

  pub was-refused : (n : ℕ) → r ≡ Err (record { number = n }) → (a ≡ refused n) × (o ≡ out)
  unfolding how_many
  was-refused n is = go a refl
    where
      go : (b : Answer (List A)) → a ≡ b → (a ≡ refused n) × (o ≡ out)
      go (done vs) q =
          let z : refused n ≡ done (length vs) = sym (says-refused r n is) ∙ writes-answer ∙ rw q in
          let y : ◌≡◌ {A = ℕ} 0 1 = cc z in absurd (omega arith)
      go (refused m) q =
          let z : refused n ≡ refused m = sym (says-refused r n is) ∙ writes-answer ∙ rw q in
          let y : m ≡ n = cc z in
          (q ∙ ap {B = Answer (List A)} refused y, (unwritten m q).1)

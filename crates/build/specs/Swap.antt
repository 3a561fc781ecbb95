-- What lies behind may be laid first. Assumes nothing.
use Rattle.std.specs.Prelude.{◌≡◌, refl, List, [], ◌∷◌, ◌++◌, ℕ, suc, ◌+◌, ◌≤◌, ◌<◌, length, set}
use Rattle.std.proofs.Common.{sym, ap, ◌∙◌, arith}
use Rattle.std.proofs.Math.Decide.{dec_le}
use Rattle.std.proofs.lemmas.List.Edits.{sets}
use Rattle.std.proofs.lemmas.List.{set_comm}
use Rattle.std.proofs.Math.Seq.{length-sets}
use Rattle.lay.specs.Laid.{most, Laid, laid_then, sets-out}

one-swap : (w l : List ℕ) (i b j : ℕ) → i < j → set (sets l j w) i b ≡ sets (set l i b) j w
one-swap [] l i b j lt = refl
one-swap (c ∷ w) l i b j lt =
    one-swap w (set l j c) i b (suc j) (omega arith) ∙ ap (λ (x : List ℕ). sets x (suc j) w) (set_comm l j i c b (λ e. absurd (omega (arith, e))))

-- two runs of stores, the one before the other
sets-swap : (v w l : List ℕ) (i j : ℕ) → i + length v ≤ j → sets (sets l j w) i v ≡ sets (sets l i v) j w
sets-swap [] w l i j le = refl
sets-swap (b ∷ v) w l i j le =
    ap (λ (x : List ℕ). sets x (suc i) v) (one-swap w l i b j (omega arith)) ∙ sets-swap v w (set l i b) (suc i) j (omega arith)

-- the text v, and behind it w, which was laid before
pub laid-swap : {l m₁ m v w : List ℕ} {p q r : ℕ} → Laid l q w m₁ r → Laid m₁ p v m q → Laid l p (v ++ w) m r
laid-swap {l} {m₁} {m} {v} {w} {p} {q} {r} a b =
    let first : Laid l p v (sets l p v) q = record { bytes = refl; next = b.next; room = a.room } in
    let long : length (sets l p v) ≡ length l = length-sets l p v in
    let swapped : sets (sets l q w) p v ≡ sets (sets l p v) q w =
    elim (dec_le (p + length v) most) [
      | yes d ↦ sets-swap v w l p q (omega (arith, b.next))
      | no d ↦
          (let past : length l ≤ q = omega (arith, b.next, a.room) in
          ap (λ (x : List ℕ). sets x p v) (sets-out w l q past) ∙ sym (sets-out w (sets l p v) q (omega arith)))
    ] in
    laid_then first (record { bytes = b.bytes ∙ ap (λ (x : List ℕ). sets x p v) a.bytes ∙ swapped; next = a.next; room = omega (arith, a.room) })

-- Tests that are put flat, and rules. Assumes nothing.
use Rattle.std.specs.Prelude.{◌≡◌, refl, Bool, true, false, ◌&&◌, List, [], ◌∷◌, ℕ, ◌<◌, ◌^◌, ltb}
use Rattle.std.proofs.Common.{arith, ltb-true, lt-ltb}
use Rattle.paper.specs.Reader.{Rule, ◌or_no◌}
use Rattle.paper.specs.Lists.{all}
use Rattle.paper.specs.Keeps.{every, hold?, in_turn, number?}
use Rattle.laws.specs.Says.{Held}
use Rattle.laws.specs.Takes.{All₁}

pub not_so : {X : Type 0} → false ≡ true → X
not_so h = let z : ◌≡◌ {A = ℕ} 0 1 = cc h in absurd (omega arith)

pub and_split : (a b : Bool) → (a && b) ≡ true → (a ≡ true) × (b ≡ true)
and_split true b h = (refl, h)
and_split false b h = not_so h

pub and-join : {a b : Bool} → a ≡ true → b ≡ true → (a && b) ≡ true
and-join p q = rw (p, q)

abbrev pub Every : List Bool → Type 0
Every [] = Unit {0}
Every (b ∷ bs) = (b ≡ true) × Every bs

pub every-split : (bs : List Bool) → every bs ≡ true → Every bs
unfolding every
every-split [] h = tt
every-split (b ∷ bs) h = let s = and_split b (every bs) h in (s.0, every-split bs s.1)

pub every-join : (bs : List Bool) → Every bs → every bs ≡ true
unfolding every
every-join [] h = refl
every-join (b ∷ bs) h = and-join h.0 (every-join bs h.1)

pub held-split : (rs : List Rule) → hold? rs ≡ true → Held rs
unfolding hold?
held-split [] h = tt
held-split ((b or_no n) ∷ rs) h = let s = and_split b (hold? rs) h in (s.0, held-split rs s.1)

pub held-join : (rs : List Rule) → Held rs → hold? rs ≡ true
unfolding hold?
held-join [] h = refl
held-join ((b or_no n) ∷ rs) h = and-join h.0 (held-join rs h.1)

pub number-split : (rules : ℕ → List Rule) (n : ℕ) → number? rules n ≡ true → (n < 256 ^ 8) × Held (rules n)
unfolding number?
number-split rules n h =
    let s = and_split (ltb n (256 ^ 8)) (hold? (rules n)) h in
    (ltb-true n (256 ^ 8) s.0, held-split (rules n) s.1)

pub number-join : (rules : ℕ → List Rule) (n : ℕ) → n < 256 ^ 8 → Held (rules n) → number? rules n ≡ true
unfolding number?
number-join rules n lt h = and-join (lt-ltb n (256 ^ 8) lt) (held-join (rules n) h)

pub turn-split : {S A : Type 0} (ok : S → A → Bool) (after : S → A → S) (s : S) (l : List A) → in_turn ok after s l ≡ true → All₁ (λ s a. ok s a ≡ true) after s l
unfolding in_turn
turn-split ok after s [] h = tt
turn-split ok after s (a ∷ l) h = let p = and_split (ok s a) (in_turn ok after (after s a) l) h in (p.0, turn-split ok after (after s a) l p.1)

pub turn-join : {S A : Type 0} (ok : S → A → Bool) (after : S → A → S) (s : S) (l : List A) → All₁ (λ s a. ok s a ≡ true) after s l → in_turn ok after s l ≡ true
unfolding in_turn
turn-join ok after s [] h = refl
turn-join ok after s (a ∷ l) h = and-join h.0 (turn-join ok after (after s a) l h.1)

pub all_split : {S A : Type 0} (ok : A → Bool) (after : S → A → S) (s : S) (l : List A) → all ok l ≡ true → All₁ (λ s a. ok a ≡ true) after s l
unfolding all
all_split ok after s [] h = tt
all_split ok after s (a ∷ l) h = let p = and_split (ok a) (all ok l) h in (p.0, all_split ok after (after s a) l p.1)

pub map₁ : {S A : Type 0} (R Q : S → A → Type 0) (after : S → A → S) → ((s : S) (a : A) → R s a → Q s a) → (s : S) (l : List A) → All₁ R after s l → All₁ Q after s l
map₁ R Q after f s [] h = tt
map₁ R Q after f s (a ∷ l) h = (f s a h.0, map₁ R Q after f (after s a) l h.1)

-- A text is refused by 20 alone. Assumes nothing.
use Rattle.std.specs.Prelude.{◌≡◌, refl, Bool, true, false, List, [], ◌∷◌, ℕ, zero, suc, ◌+◌, ◌-◌, ◌*◌, eqb, get_or, drop}
use Rattle.paper.specs.Reader.{when◌then◌else◌, Reader, Out, got, no as bad, and_then, ◌>>=◌, ◌>>◌, give, each, times, repeat}
use Rattle.paper.specs.Scan.{byte_is, ended, digit?, too_large?, digits_on, decimal_in, natural}

abbrev pub Twenty : {A : Type 0} → Out A → Type 0
Twenty (got a e) = Unit {0}
Twenty (bad n p) = (n ≡ 20) × (p ≡ 0)

if-twenty : {A : Type 0} (b : Bool) (o u : Out A) → Twenty o → Twenty u → Twenty (when b then o else u)
unfolding when◌then◌else◌
if-twenty true o u h k = h
if-twenty false o u h k = k

pub byte-twenty : (b : ℕ) (t : List ℕ) (at : ℕ) → Twenty (byte_is b t at)
unfolding byte_is
byte-twenty b t at = if-twenty (eqb (get_or t at 256) b) _ _ tt (refl, refl)

digits-twenty : (v e : ℕ) (ts : List ℕ) → Twenty (digits_on v e ts)
unfolding digits_on
digits-twenty v e [] = tt
digits-twenty v e (b ∷ ts) = if-twenty (digit? b) _ _ (if-twenty (too_large? v (b - 48)) _ _ (refl, refl) (digits-twenty (10 * v + (b - 48)) (e + 1) ts)) tt

pub natural-twenty : (t : List ℕ) (at : ℕ) → Twenty (natural t at)
unfolding natural decimal_in
natural-twenty t at = go (drop at t)
  where
    go : (ts : List ℕ) → Twenty (decimal_in at ts)
    go [] = (refl, refl)
    go (b ∷ ts) = if-twenty (eqb b 48) _ _ tt (if-twenty (digit? b) _ _ (digits-twenty (b - 48) (at + 1) ts) (refl, refl))

pub then-twenty : {A B : Type 0} (o : Out A) (k : A → ℕ → Out B) → Twenty o → ((a : A) (e : ℕ) → Twenty (k a e)) → Twenty (and_then o k)
then-twenty (got a e) k h more = more a e
then-twenty (bad n p) k h more = h

pub repeat-twenty : {A : Type 0} (r : Reader A) (t : List ℕ) → ((at : ℕ) → Twenty (r t at)) → (n at : ℕ) → Twenty (repeat n r t at)
unfolding repeat times each give ◌>>=◌
repeat-twenty r t one zero at = tt
repeat-twenty r t one (suc n) at = then-twenty (r t at) _ (one at) (λ a e. then-twenty (repeat n r t e) _ (repeat-twenty r t one n e) (λ l d. tt))

pub ended-twenty : (c : ℕ) (t : List ℕ) (at : ℕ) → Twenty (ended c natural t at)
unfolding ended ◌>>=◌ ◌>>◌ give
ended-twenty c t at = then-twenty (natural t at) _ (natural-twenty t at) (λ a e. then-twenty (byte_is c t e) _ (byte-twenty c t e) (λ u d. tt))

-- A reading of a file. It is given the whole file and a place in it, and gives a value with the next place, or the number
-- of a refusal with the place where what broke the rule began. Assumes nothing.
use Rattle.std.specs.Prelude.{Bool, true, false, List, [], ◌∷◌, ℕ, zero, suc, ◌+◌, leb, eqb, length, take, drop, replicate}
use Rattle.std.proofs.Math.Option.{Option, none, some}

infixr 5 when◌then◌else◌
unfoldable pub when◌then◌else◌ : {A : Type 0} → Bool → A → A → A
when true then a else b = a
when false then a else b = b

-- `got value next`, or `no refusal place`
pub data Out (A : Type 0) : Type 0 where
  got : A → ℕ → Out A
  no : ℕ → ℕ → Out A

abbrev pub Reader : Type 0 → Type 0
Reader A = List ℕ → ℕ → Out A

-- ── one reading after another ──

abbrev pub and_then : {A B : Type 0} → Out A → (A → ℕ → Out B) → Out B
and_then (got a e) k = k a e
and_then (no n p) k = no n p

-- an outcome, with its value turned into another
abbrev pub turned : {A B : Type 0} → (A → B) → Out A → Out B
turned g (got a e) = got (g a) e
turned g (no n p) = no n p

infixl 1 ◌>>=◌ ◌>>◌
unfoldable pub ◌>>=◌ : {A B : Type 0} → Reader A → (A → Reader B) → Reader B
◌>>=◌ r k f at = and_then (r f at) λ a. k a f

unfoldable pub ◌>>◌ : {A B : Type 0} → Reader A → Reader B → Reader B
◌>>◌ r q f at = and_then (r f at) λ a. q f

unfoldable pub give : {A : Type 0} → A → Reader A
give a f at = got a at

unfoldable pub refuse : {A : Type 0} → ℕ → Reader A
refuse n f at = no n at

-- ── rules ──

-- a rule, and the refusal of what breaks it
infix 6 ◌or_no◌
pub data Rule : Type 0 where
  ◌or_no◌ : Bool → ℕ → Rule

-- the first rule that is broken decides: an outcome, or the refusal at the given place
abbrev pub hold : {A : Type 0} → List Rule → ℕ → Out A → Out A
hold [] p o = o
hold ((true or_no n) ∷ rs) p o = hold rs p o
hold ((false or_no n) ∷ rs) p o = no n p

-- what is read, held to rules: a broken one is refused at the place where the reading began
unfoldable pub must : {A : Type 0} → Reader A → (A → List Rule) → Reader A
must r rules f at = and_then (r f at) λ a e. hold (rules a) at (got a e)

-- a reading whose refusal stands where it began
abbrev pub from_start : {A : Type 0} → ℕ → Out A → Out A
from_start at (got a e) = got a e
from_start at (no n p) = no n at

unfoldable pub started : {A : Type 0} → Reader A → Reader A
started r f at = from_start at (r f at)

-- ── bytes ──

-- a reading for which n bytes are there
unfoldable pub within : {A : Type 0} → ℕ → Reader A → Reader A
within n r f at = when leb (at + n) (length f) then r f at else no 1 at

-- n bytes
unfoldable pub bytes : ℕ → Reader (List ℕ)
bytes n f at = when leb (at + n) (length f) then got (take n (drop at f)) (at + n) else no 1 at

-- the n bytes that come next, as a file of their own: what is read fills it exactly, else the refusal is 12
abbrev pub filled : {A : Type 0} → ℕ → ℕ → Out A → Out A
filled at n (got a e) = when eqb e n then got a (at + n) else no 12 (at + e)
filled at n (no k p) = no (when eqb k 1 then 12 else k) (at + p)

unfoldable pub part : {A : Type 0} → ℕ → Reader A → Reader A
part n r f at = when leb (at + n) (length f) then filled at n (r (take n (drop at f)) 0) else no 1 at

-- ── many, and perhaps none ──

-- one after the other, for each of a list: what was read so far goes into a state
unfoldable pub each : {S X A : Type 0} → (S → X → Reader A) → (S → A → S) → List X → S → Reader (List A)
each read after [] s = give []
each read after (x ∷ xs) s = do
  a ← read s x
  more ← each read after xs (after s a)
  give (a ∷ more)

-- n times
unfoldable pub times : {S A : Type 0} → ℕ → (S → Reader A) → (S → A → S) → S → Reader (List A)
times n read after = each (λ s x. read s) after (replicate n (tt {0}))

-- n times, with no state
unfoldable pub repeat : {A : Type 0} → ℕ → Reader A → Reader (List A)
repeat n r = times n (λ (u : Unit {0}). r) (λ u a. u) tt

-- only if it is due
unfoldable pub only : {A : Type 0} → Bool → Reader A → Reader (Option A)
only true r = do
  a ← r
  give (some a)
only false r = give none

-- a value at the end of the file, and else a reading
unfoldable pub unless_end : {A : Type 0} → A → Reader A → Reader A
unless_end a r f at = when leb (length f) at then got a at else r f at

-- one after the other up to the end of the file: at most n, and `stop` where there are more
unfoldable pub to_end : {S A : Type 0} → ℕ → Reader (List A) → (S → Reader A) → (S → A → S) → S → Reader (List A)
to_end zero stop read after s = unless_end [] stop
to_end (suc n) stop read after s = unless_end [] do
  a ← read s
  l ← to_end n stop read after (after s a)
  give (a ∷ l)

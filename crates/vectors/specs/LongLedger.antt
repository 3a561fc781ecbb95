-- What is too long to be computed: a ledger at the bound of bytes, and a value at the bound of elements, by laws for every length.
-- Assumes nothing.
use Rattle.std.specs.Prelude.{◌≡◌, refl, Bool, true, false, ◌&&◌, List, [], ◌∷◌, ◌++◌, ℕ, zero, suc, ◌+◌, leb, ltb, eqb, length, get_or, replicate}
use Rattle.std.proofs.Common.{ap, ◌∙◌, arith, zero-add, suc-add}
use Rattle.std.proofs.Math.Option.{Option, none, some}
use Rattle.std.proofs.lemmas.List.{length-replicate}
use Rattle.paper.specs.Reader.{when◌then◌else◌, Out, got, no, and_then, ◌>>=◌, ◌>>◌, give}
use Rattle.paper.specs.Lists.{all}
use Rattle.paper.specs.Ledger.{Element, flag, Pair, Ledger, nothing}
use Rattle.paper.specs.Rules.{after_pair}
use Rattle.paper.specs.Encode.{encode}
use Rattle.paper.specs.Listing.{ascii}
use Rattle.paper.specs.Keeps.{every, in_turn, pair?, keeps?}
use Rattle.paper.specs.Scan.{byte_is, literal, ended, read_flag, read_element, tabbed, read_value, short}
use Rattle.paper.specs.Whole.{whole}

-- ── a ledger of one string of n bytes has n + 6 bytes ──

abbrev one_string : ℕ → Ledger
one_string n = record { strings = replicate n 0 ∷ []; entries = []; chunks = [] } ∷ []

tail-length : (xs : List ℕ) → length (xs ++ [] ++ 0 ∷ [] ++ [] ++ []) ≡ length xs + 1
tail-length [] = refl
tail-length (x ∷ xs) = omega (arith, tail-length xs)

encoded-length : (n : ℕ) → length (encode (one_string n)) ≡ n + 6
unfolding whole
encoded-length n =
    let laid : length (encode (one_string n)) ≡ suc (suc (suc (suc (suc (length {A = ℕ} (replicate n 0 ++ [] ++ 0 ∷ [] ++ [] ++ [])))))) = refl in
    omega (arith, laid, tail-length (replicate n 0), length-replicate {A = ℕ} n 0)

low : (n : ℕ) → all (λ b. ltb b 256) (replicate n 0) ≡ true
unfolding all
low zero = refl
low (suc n) = low n

rules-kept : (n : ℕ) → in_turn pair? after_pair nothing (one_string n) ≡ true
unfolding whole
rules-kept n = ap (λ (b : Bool). ((b && true) && true) && true) (low n)

and-true : (b : Bool) → b && true ≡ b
and-true true = refl
and-true false = refl

-- a file has at most 1,048,576 bytes: a ledger keeps this rule, and a listing is built, just if it does
long_kept : (n : ℕ) → keeps? (one_string n) ≡ leb (n + 6) 1048576
unfolding keeps? every
long_kept n = rw (encoded-length n, rules-kept n) (and-true (leb (n + 6) 1048576))

long-built : (n : ℕ) → short (got (one_string n) 0) ≡ (when leb (n + 6) 1048576 then some (encode (one_string n)) else none)
unfolding short
long-built n = rw (encoded-length n)

-- ── a value of n elements ──

-- n flags as they stand in a line, each behind a tab
unfoldable zeros : ℕ → List ℕ
zeros zero = []
zeros (suc n) = 9 ∷ 48 ∷ zeros n

at-end : (pre : List ℕ) (x : ℕ) (xs : List ℕ) → get_or (pre ++ x ∷ xs) (length pre) 256 ≡ x
at-end [] x xs = refl
at-end (p ∷ pre) x xs = at-end pre x xs

behind-end : (pre : List ℕ) (x y : ℕ) (xs : List ℕ) → get_or (pre ++ x ∷ y ∷ xs) (length pre + 1) 256 ≡ y
behind-end [] x y xs = refl
behind-end (p ∷ pre) x y xs = ap (λ (k : ℕ). get_or (p ∷ (pre ++ x ∷ y ∷ xs)) k 256) (suc-add (length pre) 1) ∙ behind-end pre x y xs

at-second-end : (pre zs : List ℕ) (x : ℕ) (xs : List ℕ) → get_or (pre ++ (zs ++ x ∷ xs)) (length pre + length zs) 256 ≡ x
at-second-end [] zs x xs = ap (λ (k : ℕ). get_or (zs ++ x ∷ xs) k 256) (zero-add (length zs)) ∙ at-end zs x xs
at-second-end (p ∷ pre) zs x xs = ap (λ (k : ℕ). get_or (p ∷ (pre ++ (zs ++ x ∷ xs))) k 256) (suc-add (length pre) (length zs)) ∙ at-second-end pre zs x xs

regrouped : (pre : List ℕ) (x y : ℕ) (xs : List ℕ) → pre ++ x ∷ y ∷ xs ≡ (pre ++ x ∷ y ∷ []) ++ xs
regrouped [] x y xs = refl
regrouped (p ∷ pre) x y xs = ap {B = List ℕ} (λ r. p ∷ r) (regrouped pre x y xs)

two-more : (pre : List ℕ) (x y : ℕ) → length pre + 1 + 1 ≡ length (pre ++ x ∷ y ∷ [])
two-more [] x y = refl
two-more (p ∷ pre) x y = omega (arith, two-more pre x y)

-- the next flag, at the end of what was read
next-flag : (pre xs : List ℕ) → read_element 6 (pre ++ 9 ∷ 48 ∷ xs) (length pre + 1) ≡ got (flag false) (length pre + 1 + 1)
unfolding read_element read_flag when◌then◌else◌
next-flag pre xs = rw (behind-end pre 9 48 xs)

-- at most n are read, whatever follows
flags-read : (n : ℕ) (pre rest : List ℕ) → tabbed n (read_element 6) (pre ++ (zeros n ++ rest)) (length pre) ≡ got (replicate n (flag false)) (length pre + length (zeros n))
unfolding tabbed zeros when◌then◌else◌
flags-read zero pre rest = ap {B = Out (List Element)} (λ (e : ℕ). got [] e) (omega arith)
flags-read (suc n) pre rest =
    let text = pre ++ 9 ∷ 48 ∷ (zeros n ++ rest) in
    let more : tabbed n (read_element 6) text (length pre + 1 + 1) ≡ got (replicate n (flag false)) (length (pre ++ 9 ∷ 48 ∷ []) + length (zeros n)) =
    ap (λ (k : ℕ). tabbed n (read_element 6) text k) (two-more pre 9 48)
    ∙ ap (λ (t : List ℕ). tabbed n (read_element 6) t (length (pre ++ 9 ∷ 48 ∷ []))) (regrouped pre 9 48 (zeros n ++ rest))
    ∙ flags-read n (pre ++ 9 ∷ 48 ∷ []) rest in
    rw (at-end pre 9 (48 ∷ (zeros n ++ rest)), next-flag pre (zeros n ++ rest), more)
    (ap {B = Out (List Element)} (λ (e : ℕ). got (flag false ∷ replicate n (flag false)) e) (omega (arith, two-more pre 9 48)))

-- a test that is asked behind a reading
asked-last : (b : Bool) (k : ℕ) (l : List Element) → and_then (when b then got (tt {0}) k else no 20 0) (λ u e. got l e) ≡ (when b then got l k else no 20 0)
unfolding when◌then◌else◌
asked-last true k l = refl
asked-last false k l = refl

-- behind them a newline is due
line_read :
    (n x : ℕ) (xs : List ℕ) →
    ended 10 (tabbed n (read_element 6)) (118 ∷ 97 ∷ 108 ∷ (zeros n ++ x ∷ xs)) 3 ≡ (when eqb x 10 then got (replicate n (flag false)) (3 + length (zeros n) + 1) else no 20 0)
unfolding ended ◌>>=◌ ◌>>◌ byte_is give
line_read n x xs =
    ap {B = Out (List Element)} (λ (o : Out (List Element)). and_then o λ l. (byte_is 10 >> give l) (118 ∷ 97 ∷ 108 ∷ (zeros n ++ x ∷ xs))) (flags-read n (118 ∷ 97 ∷ 108 ∷ []) (x ∷ xs))
    ∙ ap {B = Out (List Element)} (λ (b : ℕ). and_then (when eqb b 10 then got (tt {0}) (3 + length (zeros n) + 1) else no 20 0) (λ u e. got (replicate n (flag false)) e)) (at-second-end (118 ∷ 97 ∷ 108 ∷ []) (zeros n) x xs)
    ∙ asked-last (eqb x 10) (3 + length (zeros n) + 1) (replicate n (flag false))

-- an array has at most 65,535 elements: so many are read, and what follows them is no other
long-value :
    (x : ℕ) (xs : List ℕ) →
    read_value 6 (118 ∷ 97 ∷ 108 ∷ (zeros 65535 ++ x ∷ xs)) 0 ≡ (when eqb x 10 then got (replicate 65535 (flag false)) (3 + length (zeros 65535) + 1) else no 20 0)
unfolding read_value literal byte_is ◌>>◌ give ascii when◌then◌else◌
long-value x xs = line_read 65535 x xs

-- A refusal of a file is one of the paper's numbers. Assumes nothing.
use Rattle.std.specs.Prelude.{◌≡◌, refl, Bool, true, false, ◌&&◌, ◌||◌, not, List, [], ◌∷◌, map, ℕ, zero, suc, ◌+◌, leb, eqb, length, take, drop, replicate}
use Rattle.std.proofs.Math.Option.{Option, none, some}
use Rattle.std.proofs.Common.{arith}
use Rattle.paper.specs.Reader.{when◌then◌else◌, Reader, Out, got, no, and_then, ◌>>=◌, ◌>>◌, give, refuse, Rule, ◌or_no◌, hold, must, from_start, started, within, bytes, filled, part, each, times, repeat, only, unless_end, to_end}
use Rattle.paper.specs.Numbers.{fixed, coding, v64, number}
use Rattle.paper.specs.Bounds.{most_bytes, most_pairs}
use Rattle.paper.specs.Ledger.{keys, mapping, Kind, constant, plain, array, many, Due, State, nothing}
use Rattle.paper.specs.Rules.{types_rules, annotation_rules, small_rules, strings_rules, place_rules, type_name_rules, super_name_rules, count_rules, restriction_rules, field_count_rules, field_name_rules, end_rules, kind_rules, element_kind_rules, bool_rules, link_rules, after_front, after_pair, a_type?, kinds_stand?}
use Rattle.paper.specs.Maps.{key_and_rest, map_of}
use Rattle.paper.specs.File.{two_numbers, Upto, Front, small, string_end, string_block, restrictions, head, whole_of, kind, end_offset, new_field, fields, entry, front, element, value, chunk, data_region, refusal_of, kinds_named, pair_from, pair, pairs, file}
use Rattle.laws.specs.Bools.{and_split}

-- the numbers that reading a file can give: 1, 3 to 14, and 21
unfoldable pub file_refusal? : ℕ → Bool
file_refusal? n = not (eqb n 2) && (leb 1 n && leb n 14) || eqb n 21

-- every rule's number is one of them
abbrev listed? : List Rule → Bool
listed? [] = true
listed? ((b or_no n) ∷ rs) = file_refusal? n && listed? rs

-- ── the law ──

-- an outcome's refusal is one of them
abbrev Known : {A : Type 0} → Out A → Type 0
Known (got a e) = Unit {0}
Known (no n p) = file_refusal? n ≡ true

record Refuses {A : Type 0} (r : Reader A) : Type 0 where
  at : (f : List ℕ) (at : ℕ) → Known (r f at)

-- ── closed under all the ways in which readers are put together ──

give-refuses : {A : Type 0} (a : A) → Refuses (give a)
unfolding give
give-refuses a = record { at = λ f at. tt }

refuse-refuses : {A : Type 0} (n : ℕ) → file_refusal? n ≡ true → Refuses {A = A} (refuse n)
unfolding refuse
refuse-refuses n h = record { at = λ f at. h }

then-known : {A B : Type 0} (o : Out A) (k : A → ℕ → Out B) → Known o → ((a : A) (e : ℕ) → Known (k a e)) → Known (and_then o k)
then-known (got a e) k h K = K a e
then-known (no n p) k h K = h

bind-refuses : {A B : Type 0} {r : Reader A} {k : A → Reader B} → Refuses r → ((a : A) → Refuses (k a)) → Refuses (r >>= k)
unfolding ◌>>=◌
bind-refuses {r} {k} R K = record { at = λ f at. then-known (r f at) (λ a. k a f) (R.at f at) λ a e. (K a).at f e }

then-refuses : {A B : Type 0} {r : Reader A} {q : Reader B} → Refuses r → Refuses q → Refuses (r >> q)
unfolding ◌>>◌
then-refuses {r} {q} R Q = record { at = λ f at. then-known (r f at) (λ a. q f) (R.at f at) λ a e. Q.at f e }

hold-known : {A : Type 0} (rs : List Rule) (p : ℕ) (a : A) (e : ℕ) → listed? rs ≡ true → Known (hold rs p (got a e))
hold-known [] p a e h = tt
hold-known ((true or_no n) ∷ rs) p a e h = hold-known rs p a e (and_split (file_refusal? n) _ h).1
hold-known ((false or_no n) ∷ rs) p a e h = (and_split (file_refusal? n) _ h).0

must-refuses : {A : Type 0} {r : Reader A} (rules : A → List Rule) → ((a : A) → listed? (rules a) ≡ true) → Refuses r → Refuses (must r rules)
unfolding must
must-refuses {r} rules L R =
    record { at = λ f at. then-known (r f at) (λ a e. hold (rules a) at (got a e)) (R.at f at) λ a e. hold-known (rules a) at a e (L a) }

start-known : {A : Type 0} (at : ℕ) (o : Out A) → Known o → Known (from_start at o)
start-known at (got a e) h = tt
start-known at (no n p) h = h

started-refuses : {A : Type 0} {r : Reader A} → Refuses r → Refuses (started r)
unfolding started
started-refuses {r} R = record { at = λ f at. start-known at (r f at) (R.at f at) }

if-known : {A : Type 0} (b : Bool) (o q : Out A) → Known o → Known q → Known (when b then o else q)
unfolding when◌then◌else◌
if-known true o q h k = h
if-known false o q h k = k

if-refuses : {A : Type 0} (b : Bool) {r q : Reader A} → Refuses r → Refuses q → Refuses (when b then r else q)
unfolding when◌then◌else◌
if-refuses true R Q = R
if-refuses false R Q = Q

within-refuses : {A : Type 0} (n : ℕ) {r : Reader A} → Refuses r → Refuses (within n r)
unfolding within file_refusal?
within-refuses n {r} R = record { at = λ f at. if-known (leb (at + n) (length f)) (r f at) (no 1 at) (R.at f at) refl }

bytes-refuses : (n : ℕ) → Refuses (bytes n)
unfolding bytes file_refusal?
bytes-refuses n = record { at = λ f at. if-known (leb (at + n) (length f)) (got (take n (drop at f)) (at + n)) (no 1 at) tt refl }

-- 1 becomes 12
filled-known : {A : Type 0} (at n : ℕ) (o : Out A) → Known o → Known (filled at n o)
unfolding file_refusal? when◌then◌else◌
filled-known at n (got a e) h = if-known (eqb e n) (got a (at + n)) (no 12 (at + e)) tt refl
filled-known at n (no k p) h = go (eqb k 1)
  where
    go : (b : Bool) → file_refusal? (when b then 12 else k) ≡ true
    go true = refl
    go false = h

part-refuses : {A : Type 0} (n : ℕ) {r : Reader A} → Refuses r → Refuses (part n r)
unfolding part file_refusal?
part-refuses n {r} R =
    record {
      at = λ f at. if-known (leb (at + n) (length f)) (filled at n (r (take n (drop at f)) 0)) (no 1 at)
          (filled-known at n (r (take n (drop at f)) 0) (R.at (take n (drop at f)) 0)) refl;
    }

each-refuses :
    {S X A : Type 0} {read : S → X → Reader A} (after : S → A → S) → ((s : S) (x : X) → Refuses (read s x)) → (xs : List X) (s : S)
    → Refuses (each read after xs s)
unfolding each
each-refuses after R [] s = give-refuses []
each-refuses after R (x ∷ xs) s = bind-refuses (R s x) λ a. bind-refuses (each-refuses after R xs (after s a)) λ more. give-refuses (a ∷ more)

times-refuses :
    {S A : Type 0} {read : S → Reader A} (after : S → A → S) → ((s : S) → Refuses (read s)) → (n : ℕ) (s : S) → Refuses (times n read after s)
unfolding times
times-refuses after R n s = each-refuses after (λ s x. R s) (replicate n (tt {0})) s

repeat-refuses : {A : Type 0} (n : ℕ) {r : Reader A} → Refuses r → Refuses (repeat n r)
unfolding repeat
repeat-refuses n {r} R = times-refuses {read = λ (u : Unit {0}). r} (λ u a. u) (λ u. R) n tt

only-refuses : {A : Type 0} (b : Bool) {r : Reader A} → Refuses r → Refuses (only b r)
unfolding only
only-refuses true R = bind-refuses R λ a. give-refuses (some a)
only-refuses false R = give-refuses none

unless_end-refuses : {A : Type 0} (a : A) {r : Reader A} → Refuses r → Refuses (unless_end a r)
unfolding unless_end
unless_end-refuses a {r} R = record { at = λ f at. if-known (leb (length f) at) (got a at) (r f at) tt (R.at f at) }

to_end-refuses :
    {S A : Type 0} (n : ℕ) {stop : Reader (List A)} {read : S → Reader A} (after : S → A → S) → Refuses stop → ((s : S) → Refuses (read s)) → (s : S)
    → Refuses (to_end n stop read after s)
unfolding to_end
to_end-refuses zero after Q R s = unless_end-refuses [] Q
to_end-refuses (suc n) after Q R s = unless_end-refuses [] (bind-refuses (R s) λ a. bind-refuses (to_end-refuses n after Q R (after s a)) λ l. give-refuses (a ∷ l))

ruleset refuses = (
  bind-refuses,
  then-refuses,
  give-refuses,
  must-refuses,
  started-refuses,
  if-refuses,
  only-refuses,
  within-refuses,
  bytes-refuses,
  part-refuses,
  each-refuses,
  times-refuses,
  repeat-refuses,
)

-- ── numbers ──

fixed-refuses : (w : ℕ) → Refuses (fixed w)
unfolding fixed
fixed-refuses w = search refuses

coding-refuses : (k : ℕ) → Refuses (coding k)
unfolding coding
coding-refuses zero = search (refuses, fixed-refuses)
coding-refuses (suc k) = bind-refuses (fixed-refuses 1) λ b. if-refuses _ (bind-refuses (coding-refuses k) λ bs. give-refuses (b ∷ bs)) (give-refuses (b ∷ []))

v64-refuses : Refuses v64
unfolding v64 file_refusal?
v64-refuses = search (refuses, coding-refuses)

number-refuses : (rules : ℕ → List Rule) → ((n : ℕ) → listed? (rules n) ≡ true) → Refuses (number rules)
unfolding number
number-refuses rules L = must-refuses rules L v64-refuses

small-refuses : Refuses small
unfolding small small_rules file_refusal?
small-refuses = number-refuses _ λ n. refl

ruleset numbers = (refuses, number-refuses, fixed-refuses, v64-refuses, small-refuses)

-- ── the readers of the file ──

string_block-refuses : (s : State) → Refuses (string_block s)
unfolding string_block string_end strings_rules end_rules file_refusal?
string_block-refuses s = search numbers depth 9

place-listed : (s : State) (o : Option ℕ) → listed? (place_rules s o) ≡ true
unfolding place_rules file_refusal?
place-listed s none = refl
place-listed s (some t) = refl

head-refuses : (s : State) → Refuses (head s)
unfolding head restrictions type_name_rules super_name_rules count_rules restriction_rules file_refusal?
head-refuses s = search (numbers, place-listed) depth 12

whole_of-refuses : (k : ℕ) → Refuses (whole_of k)
unfolding whole_of
whole_of-refuses k = search numbers

kind-refuses : (named : ℕ → Bool) → Refuses (kind named)
unfolding kind kind_rules element_kind_rules types_rules file_refusal?
kind-refuses named = search (numbers, whole_of-refuses) depth 12

fields-refuses : (named : ℕ → Bool) (t known : ℕ) (u : Upto) → Refuses (fields named t known u)
unfolding fields new_field end_offset restrictions field_count_rules field_name_rules end_rules restriction_rules file_refusal?
fields-refuses named t known u = search (numbers, kind-refuses) depth 12

entry-refuses : (named : ℕ → Bool) (u : Upto) → Refuses (entry named u)
unfolding entry
entry-refuses named u = search (refuses, head-refuses, fields-refuses)

front-refuses : (named : ℕ → Bool) (s : State) → Refuses (front named s)
unfolding front
front-refuses named s = search (numbers, string_block-refuses, entry-refuses) depth 9

element-refuses : (s : State) (k : ℕ) → Refuses (element s k)
unfolding element two_numbers bool_rules link_rules annotation_rules file_refusal?
element-refuses s k = search (numbers, whole_of-refuses) depth 9

map-refuses : (s : State) (ks : List ℕ) → Refuses (map_of (refuse 10) small keys (map (element s) ks))
unfolding map_of key_and_rest file_refusal?
map-refuses s [] = refuse-refuses 10 refl
map-refuses s (k ∷ []) = repeat-refuses 1 (element-refuses s k)
map-refuses s (k ∷ l ∷ ks) =
    bind-refuses small-refuses λ n.
    bind-refuses (repeat-refuses n (bind-refuses (element-refuses s k) λ a. bind-refuses (map-refuses s (l ∷ ks)) λ v. give-refuses (a ∷ v))) λ v. give-refuses _

value-refuses : (s : State) (k : Kind) → Refuses (value s k)
unfolding value
value-refuses s (constant k v) = give-refuses []
value-refuses s (plain k) = repeat-refuses 1 (element-refuses s k)
value-refuses s (array l k) = repeat-refuses l (element-refuses s k)
value-refuses s (many c k) = bind-refuses small-refuses λ n. repeat-refuses n (element-refuses s k)
value-refuses s (mapping ks) = map-refuses s ks

region-refuses : (s : State) (ds : List Due) (es : List ℕ) → Refuses (data_region s ds es)
unfolding data_region chunk
region-refuses s ds es = search (refuses, value-refuses) depth 9

refusal-known : (o : Out Front) → Known o → Known (refusal_of o)
unfolding file_refusal?
refusal-known (got d e) h = refl
refusal-known (no n p) h = h

named-refuses : (s : State) (start : ℕ) (d : Front) → Refuses (kinds_named s start d)
unfolding kinds_named
named-refuses s start d =
    let s₂ = after_front s d.strings d.entries in
    record {
      at = λ f at. if-known (kinds_stand? s₂ d.entries) (got tt at) _ tt (refusal-known (front (a_type? s₂) s f start) ((front-refuses (a_type? s₂) s).at f start));
    }

pair-refuses : (s : State) → Refuses (pair s)
unfolding pair pair_from
pair-refuses s = record { at = λ f at. (from at).at f at }
  where
    from : (start : ℕ) → Refuses (pair_from s start)
    from start = search (refuses, front-refuses, named-refuses, region-refuses) depth 9

file-known : (f : List ℕ) → Known (file f)
unfolding file pairs file_refusal?
file-known f = if-known (leb (length f) most_bytes) _ (no 3 0) ((to_end-refuses most_pairs after_pair (refuse-refuses 3 refl) pair-refuses nothing).at f 0) refl

-- a refusal of a file is one of the paper's numbers
pub file-refusals : (f : List ℕ) (n p : ℕ) → file f ≡ no n p → file_refusal? n ≡ true
file-refusals f n p q = rw q at (file-known f)

-- 2 is never given
pub never-padded : (f : List ℕ) (p : ℕ) → file f ≡ no 2 p → ⊥
unfolding file_refusal?
never-padded f p q = let z : ◌≡◌ {A = ℕ} 0 1 = cc (file-refusals f 2 p q) in omega arith

-- The ledgers that keep the rules: a second account of what is accepted, in which nothing is read. Assumes nothing.
use Rattle.std.specs.Prelude.{Bool, true, false, ◌&&◌, not, List, [], ◌∷◌, ℕ, ◌+◌, ◌-◌, ◌*◌, ◌^◌, ◌/◌, leb, ltb, eqb, ℤ, pos, negsuc, length}
use Rattle.std.proofs.Math.Option.{Option, none, some}
use Rattle.paper.specs.Reader.{when◌then◌else◌, Rule, ◌or_no◌}
use Rattle.paper.specs.Bounds.{most_bytes, most_pairs}
use Rattle.paper.specs.Lists.{all, given?, or}
use Rattle.paper.specs.Ledger.{
  Kind,
  constant,
  plain,
  array,
  many,
  mapping,
  Element,
  flag,
  whole,
  float,
  link,
  annotation,
  keys,
  New,
  Head,
  Entry,
  Chunk,
  Pair,
  Ledger,
  Due,
  State,
  nothing,
  field_at,
}
use Rattle.paper.specs.Rules.{
  small_rules,
  strings_rules,
  with_strings,
  new?,
  type_of,
  type_name_rules,
  super_name_rules,
  super_of,
  count_rules,
  after_head,
  known_due,
  field_count_rules,
  field_name_rules,
  after_new,
  after_entry,
  dues,
  element_kind_rules,
  types_rules,
  annotation?,
  any_type,
  kinds_stand?,
  link_rules,
  after_front,
  after_pair,
}
use Rattle.paper.specs.Maps.{size?, size_of, all_through}
use Rattle.paper.specs.Encode.{encode}

unfoldable pub every : List Bool → Bool
every [] = true
every (b ∷ bs) = b && every bs

-- all rules hold
unfoldable pub hold? : List Rule → Bool
hold? [] = true
hold? ((b or_no n) ∷ rs) = b && hold? rs

-- one after the other, each in the state that those before it lead to
unfoldable pub in_turn : {S A : Type 0} → (S → A → Bool) → (S → A → S) → S → List A → Bool
in_turn ok after s [] = true
in_turn ok after s (a ∷ l) = ok s a && in_turn ok after (after s a) l

-- a number of 64 bits, held to rules
unfoldable pub number? : (ℕ → List Rule) → ℕ → Bool
number? rules n = ltb n (256 ^ 8) && hold? (rules n)

-- such a number just if it is due
unfoldable pub only? : Bool → (ℕ → List Rule) → Option ℕ → Bool
only? true rules none = false
only? true rules (some n) = number? rules n
only? false rules none = true
only? false rules (some n) = false

unfoldable pub bytes? : List ℕ → Bool
bytes? = all (λ b. ltb b 256)

-- ── entries ──

unfoldable pub head? : State → Head → Bool
head? s h =
    let super = super_of s h.name h.super in
    every
    (number? (type_name_rules s) h.name ∷
    only? (new? s h.name) (super_name_rules s (type_of s h.name)) h.super ∷
    only? (given? super) small_rules h.start ∷
    number? (count_rules s super (or h.start 0)) h.count ∷
    [])

-- a signed number of w bytes
unfoldable pub signed? : ℕ → ℤ → Bool
signed? w (pos n) = ltb n (256 ^ w / 2)
signed? w (negsuc n) = ltb n (256 ^ w / 2)

-- i8, i16, i32, i64, v64
unfoldable pub whole? : ℕ → ℤ → Bool
whole? k v = signed? (when ltb k 4 then 2 ^ k else 8) v

unfoldable pub kind_kept? : Kind → Bool
kind_kept? (constant k v) = leb k 4 && whole? k v
kind_kept? (plain k) = number? (element_kind_rules any_type) k
kind_kept? (array n k) = number? small_rules n && number? (element_kind_rules any_type) k
kind_kept? (many c k) = leb 17 c && leb c 19 && number? (element_kind_rules any_type) k
kind_kept? (mapping ks) = number? types_rules (length ks) && all (number? (element_kind_rules any_type)) ks

unfoldable pub new-field? : ℕ → State → New → Bool
new-field? t s g = kind_kept? g.kind && number? (field_name_rules t s) g.name

unfoldable pub entry? : State → Entry → Bool
entry? s e =
    let known = length (known_due s e.head) in
    let s₁ = after_head s e.head in
    let t = type_of s e.head.name in
    every
    (head? s e.head ∷
    number? (field_count_rules s₁ known) (known + length e.news) ∷
    in_turn (new-field? t) (after_new t) s₁ e.news ∷
    [])

-- ── values ──

unfoldable pub element? : State → ℕ → Element → Bool
element? s k (flag b) = eqb k 6
element? s k (whole v) = not (eqb k 5) && (not (eqb k 6) && leb k 11 && whole? (k - 7) v)
element? s k (float w n) = not (leb k 11) && leb k 13 && eqb w (4 * (k - 11)) && ltb n (256 ^ w)
element? s k (link n) = not (leb k 13) && number? (link_rules s k) n
element? s k (annotation name n) = eqb k 5 && (ltb name (256 ^ 8) && (ltb n (256 ^ 8) && annotation? s name n))
element? s k (keys n) = false

-- a size
unfoldable pub sized? : Element → Bool
sized? e = size? e && number? small_rules (size_of e)

unfoldable pub value? : State → Kind → List Element → Bool
value? s (constant k v) es = eqb (length es) 0
value? s (plain k) es = eqb (length es) 1 && all (element? s k) es
value? s (array n k) es = eqb (length es) n && all (element? s k) es
value? s (many c k) es = number? small_rules (length es) && all (element? s k) es
value? s (mapping ks) es = all_through (element? s) sized? es (ks ∷ [])

unfoldable pub chunk? : State → Due → Chunk → Bool
chunk? s d vs = eqb (length vs) d.values && all (value? s (field_at s d.field).kind) vs

unfoldable pub chunks? : State → List Due → List Chunk → Bool
chunks? s [] [] = true
chunks? s [] (c ∷ cs) = false
chunks? s (d ∷ ds) [] = false
chunks? s (d ∷ ds) (c ∷ cs) = chunk? s d c && chunks? s ds cs

-- ── pair and file ──

unfoldable pub pair? : State → Pair → Bool
pair? s p =
    let s₁ = with_strings s p.strings in
    let s₂ = after_front s p.strings p.entries in
    every
    (number? (strings_rules s) (length p.strings) ∷
    all bytes? p.strings ∷
    number? small_rules (length p.entries) ∷
    in_turn entry? after_entry s₁ p.entries ∷
    kinds_stand? s₂ p.entries ∷
    chunks? s₂ (dues s₁ p.entries) p.chunks ∷
    [])

unfoldable pub keeps? : Ledger → Bool
keeps? l = every (leb (length (encode l)) most_bytes ∷ leb (length l) most_pairs ∷ in_turn pair? after_pair nothing l ∷ [])

-- The room that a listing takes: at most 9 bytes for each byte of the file, and 4 for each value of an array of fixed length 0,
-- which takes no byte there. Assumes nothing.
use Rattle.std.specs.Prelude.{◌≡◌, refl, Bool, true, false, ◌&&◌, not, ℕ, zero, suc, ◌+◌, ◌-◌, ◌*◌, ◌/◌, ◌%◌, ◌^◌, ◌≤◌, ◌<◌, leb, ltb, eqb, ℤ, pos, negsuc, length, get_or, replicate, take, drop}
use Rattle.std.proofs.Common.{sym, ◌∙◌, ap, arith, lt_of_not-le, pow-suc, add-zero, add-suc, suc-add, zero-add, length-append, length-take, length-drop, get_or-append-add, leb-true, leb-false, ltb-true, eqb-true, eq-eqb}
use mathlib.Core.List.{List, [], ◌∷◌, ◌++◌, map, append_assoc}
use Rattle.std.proofs.Math.Option.{Option, none, some}
use Rattle.std.proofs.Math.Nat.{one-le-pow}
use Rattle.std.proofs.Math.Decide.{dec_le}
use Rattle.std.proofs.Math.ListN.{get_or-append}
use Rattle.std.proofs.lemmas.Bool.{eqb-false, not-true}
use Rattle.paper.specs.Reader.{when◌then◌else◌, Rule}
use Rattle.paper.specs.Bounds.{most_fields, most_objects}
use Rattle.paper.specs.Numbers.{unsigned, put_fixed, put_v64, put}
use Rattle.paper.specs.Lists.{any, all, places, total, fold, flat, given?, or}
use Rattle.paper.specs.Ledger.{Kind, constant, plain, array, many, mapping, Element, flag, whole, float, link, annotation, keys, New, Head, Entry, Chunk, Pair, Ledger, Field, Due, State, nothing, no_field, field_at, owns?, fields_of, objects_of}
use Rattle.paper.specs.Rules.{noted, types_rules, small_rules, strings_rules, with_strings, new?, type_of, type_name_rules, super_name_rules, super_of, count_rules, after_head, known_due, field_count_rules, field_name_rules, after_new, after_entry, values_due, old_due, new_dues, entry_dues, dues, element_kind_rules, any_type, link_rules, closed, after_front, after_pair}
use Rattle.paper.specs.Pieces.{ends_from, zip}
use Rattle.paper.specs.Encode.{put_chunk, put_chunks, put_pair, put_pairs, encode}
use Rattle.laws.specs.Put.{put_strings, put_option, put_head, put_whole, put_kind, put_new, put_fields, put_entry, put_entries, put_element, put_size, put_value, put-chunk, put-front}
use Rattle.paper.specs.Maps.{size_of, size?, opened, through_maps, all_through, at_first}
use Rattle.paper.specs.Keeps.{sized?, in_turn, number?, only?, head?, signed?, whole?, kind_kept?, new-field?, entry?, element?, value?, chunk?, chunks?, pair?, keeps?}
use Rattle.paper.specs.Listing.{ascii, decimal, decimalℤ, hex_digits, hex, joined, line, pair_line, string_line, or_dash, type_line, old_line, kind_word, new_line, element_word, value_line, print_entry, print_entries, print_chunk, print_pair, print_pairs, print}
use Rattle.paper.specs.Calls.{known}
use Rattle.laws.specs.Bools.{not_so, and_split, every-split, number-split}
use Rattle.laws.specs.Codes.{fixed-length, v64-cons}
use Rattle.laws.specs.Digits.{decimal-low, decimal-high}
use Rattle.laws.specs.Cells.{commas, joined-commas}
use Rattle.laws.specs.Longer.{Begins}
use Rattle.laws.specs.Columns.{total-append, fold-grows, entry-grows}
use Rattle.laws.specs.Count.{once, made, fold-fields, fold-objects, head-objects}
use Rattle.laws.specs.Heads.{ends-length}
use Rattle.laws.specs.Entries.{dues-more}
use Rattle.laws.specs.Shortest.{chunks-spelt}
use Rattle.laws.specs.Exact.{chunks-length, chunks_of}
use Rattle.laws.specs.Bounds.{ledger-within}
use Rattle.laws.specs.Objects.{total-none, ledger-objects}

-- ── arrays of fixed length 0 ──

unfoldable pub empty? : Kind → Bool
empty? (constant k v) = false
empty? (plain k) = false
empty? (array n k) = eqb n 0
empty? (many c k) = false
empty? (mapping ks) = false

unfoldable pub empty_field? : Field → Bool
empty_field? d = empty? d.kind

-- the values of such fields where type t has n t objects
unfoldable empty_in : (ℕ → ℕ) → List Field → ℕ
empty_in n ds = total empty_field? (λ (d : Field). n d.owner) ds

unfoldable empty_of : State → ℕ
empty_of s = empty_in (objects_of s) s.fields

-- all such values of a ledger: a field has one for each object of its type (`values-even`)
unfoldable pub empty_values : Ledger → ℕ
empty_values l = total empty_field? (λ (d : Field). objects_of (known l) d.owner) (known l).fields

once-add : (n m : ℕ) (b : Bool) → once (n + m) b ≡ once n b + once m b
unfolding once when◌then◌else◌
once-add n m true = refl
once-add n m false = omega arith

once_more : (n : ℕ) (b : Bool) → once (suc n) b ≡ once 1 b + once n b
unfolding once when◌then◌else◌
once_more n true = omega arith
once_more n false = omega arith

once-same : (n t u : ℕ) → t ≡ u → once n (eqb t u) ≡ n
unfolding once when◌then◌else◌
once-same n t u is = rw (eq-eqb t u is)

once-most : (n : ℕ) (b : Bool) → once n b ≤ n
unfolding once when◌then◌else◌
once-most n true = omega arith
once-most n false = omega arith

empty-nil : (n : ℕ → ℕ) → empty_in n [] ≡ 0
unfolding empty_in total
empty-nil n = refl

empty-more : (n : ℕ → ℕ) (d : Field) (ds : List Field) → empty_in n (d ∷ ds) ≡ once (n d.owner) (empty? d.kind) + empty_in n ds
unfolding empty_in empty_field? total once when◌then◌else◌
empty-more n d ds = go (empty? d.kind)
  where
    go : (b : Bool) → (when b then n d.owner + empty_in n ds else empty_in n ds) ≡ (when b then n d.owner else 0) + empty_in n ds
    go true = refl
    go false = omega arith

empty-append : (n : ℕ → ℕ) (ds es : List Field) → empty_in n (ds ++ es) ≡ empty_in n ds + empty_in n es
unfolding empty_in
empty-append n ds es = total-append empty_field? (λ (d : Field). n d.owner) ds es

empty-most : (n : ℕ → ℕ) → ((t : ℕ) → n t ≤ most_objects) → (ds : List Field) → empty_in n ds ≤ most_objects * length ds
empty-most n h [] = omega (arith, empty-nil n)
empty-most n h (d ∷ ds) = rw (empty-more n d ds) (omega (arith, once-most (n d.owner) (empty? d.kind), h d.owner, empty-most n h ds))

-- ── words: a number has at most three digits for each of its bytes ──

tenth : (n : ℕ) → length (decimal n) ≤ 1 + length (decimal (n / 10))
tenth n =
    elim (dec_le 10 n) [
      | yes d ↦ rw (decimal-high n d, length-append) (omega arith)
      | no d ↦ rw (decimal-low n (lt_of_not-le d)) (omega arith)
    ]

byte-digits : (w n : ℕ) → n < 256 ^ suc w → length (decimal n) ≤ 3 * suc w
byte-digits zero n h = omega (arith, tenth n, tenth (n / 10), ap length (decimal-low (n / 10 / 10) (omega arith)))
byte-digits (suc w) n h =
    let p = pow-suc 256 (suc w) in
    omega (arith, tenth n, tenth (n / 10), tenth (n / 10 / 10), byte-digits w (n / 10 / 10 / 10) (omega arith))

v64-under : (k n : ℕ) → n < 256 * 128 ^ k → n < 256 ^ length (put_v64 k n)
unfolding put_v64 when◌then◌else◌
v64-under zero n h = omega arith
v64-under (suc k) n h = go (v64-under k (n / 128)) (ltb n 128) refl
  where
    go : (n / 128 < 256 * 128 ^ k → n / 128 < 256 ^ length (put_v64 k (n / 128))) → (b : Bool) → ltb n 128 ≡ b → n < 256 ^ length (when b then n ∷ [] else (128 + n % 128) ∷ put_v64 k (n / 128))
    go ih true t = omega (arith, ltb-true n 128 t)
    go ih false t =
        let p = pow-suc 128 k in
        let q = pow-suc 256 (length (put_v64 k (n / 128))) in
        omega (arith, ih (omega arith))

put_some : (n : ℕ) → 1 ≤ length (put n)
unfolding put
put_some n = let (b, bs, q) = v64-cons 8 n in rw q (omega arith)

-- of a number that is no larger, too
put-digits : (m n : ℕ) → m ≤ n → n < 256 ^ 8 → length (decimal m) ≤ 3 * length (put n)
unfolding put
put-digits m n le h =
    let (b, bs, q) = v64-cons 8 n in
    let under : n < 256 ^ length (b ∷ bs) = rw q at (v64-under 8 n (omega arith)) in
    rw q (byte-digits (length bs) m (omega arith))

number-room : (rules : ℕ → List Rule) (n : ℕ) → number? rules n ≡ true → length (decimal n) ≤ 3 * length (put n)
number-room rules n h = put-digits n n (omega arith) (number-split rules n h).0

only-room : (due : Bool) (rules : ℕ → List Rule) (o : Option ℕ) → only? due rules o ≡ true → length (or_dash o) ≤ 1 + 3 * length (put_option o)
unfolding only? or_dash put_option
only-room true rules none h = not_so h
only-room true rules (some n) h = omega (arith, number-room rules n h)
only-room false rules none h = omega arith
only-room false rules (some n) h = not_so h

fixed-room : (w : ℕ) (v : ℤ) → signed? (suc w) v ≡ true → length (decimalℤ v) ≤ 1 + 3 * suc w
unfolding signed? decimalℤ
fixed-room w (pos n) h = omega (arith, byte-digits w n (omega (arith, ltb-true n (256 ^ suc w / 2) h)))
fixed-room w (negsuc n) h = omega (arith, byte-digits w (n + 1) (omega (arith, ltb-true n (256 ^ suc w / 2) h)))

v64-room : (v : ℤ) → signed? 8 v ≡ true → length (decimalℤ v) ≤ 1 + 3 * length (put (unsigned 8 v))
unfolding signed? decimalℤ unsigned
v64-room (pos n) h = let lt = ltb-true n (256 ^ 8 / 2) h in omega (arith, put-digits n n (omega arith) (omega arith))
v64-room (negsuc n) h = let lt = ltb-true n (256 ^ 8 / 2) h in omega (arith, put-digits (n + 1) (256 ^ 8 - 1 - n) (omega arith) (omega arith))

-- and a whole number takes a byte at least
whole_room : (k : ℕ) (v : ℤ) → whole? k v ≡ true → (1 ≤ length (put_whole k v)) × (length (decimalℤ v) ≤ 1 + 3 * length (put_whole k v))
unfolding whole? put_whole when◌then◌else◌
whole_room k v h = go (ltb k 4) h
  where
    wide : (w : ℕ) → 1 ≤ w → signed? w v ≡ true → length (decimalℤ v) ≤ 1 + 3 * w
    wide zero le h = absurd (omega arith)
    wide (suc w) le h = fixed-room w v h

    go :
        (b : Bool) → signed? (when b then 2 ^ k else 8) v ≡ true
        → (1 ≤ length (when b then put_fixed (2 ^ k) (unsigned (2 ^ k) v) else put (unsigned 8 v))) ×
        (length (decimalℤ v) ≤ 1 + 3 * length (when b then put_fixed (2 ^ k) (unsigned (2 ^ k) v) else put (unsigned 8 v)))
    go true h =
        let least = one-le-pow k 2 (omega arith) in
        rw (fixed-length (2 ^ k) (unsigned (2 ^ k) v)) (least, wide (2 ^ k) least h)
    go false h = (put_some (unsigned 8 v), v64-room v h)

hex_digits-length : (k n : ℕ) → length (hex_digits k n) ≡ k
unfolding hex_digits
hex_digits-length zero n = refl
hex_digits-length (suc k) n = rw (length-append, hex_digits-length k (n / 16)) (omega arith)

hex-length : (s : List ℕ) → length (hex s) ≡ 2 * length s
unfolding hex flat
hex-length [] = refl
hex-length (b ∷ s) = rw (length-append, hex_digits-length 2 b, hex-length s) (omega arith)

-- ── values: 9 bytes for each byte of the file, and 4 for a line that stands for none ──

-- an element's bytes pay for its word with the tab before it, and for four bytes more
element-room : (s : State) (k : ℕ) (e : Element) → element? s k e ≡ true → 5 + length (element_word e) ≤ 9 * length (put_element k e)
unfolding element? element_word put_element
element-room s k (flag true) h = omega (arith, byte-digits 0 1 (omega arith))
element-room s k (flag false) h = omega (arith, byte-digits 0 0 (omega arith))
element-room s k (whole v) h =
    let (_, h') = and_split (not (eqb k 5)) _ h in
    let (_, w) = and_split (not (eqb k 6) && leb k 11) (whole? (k - 7) v) h' in
    let (least, word) = whole_room (k - 7) v w in
    omega arith
element-room s k (float w n) h =
    let (h₁, _) = and_split _ (ltb n (256 ^ w)) h in
    let (h₂, e) = and_split _ (eqb w (4 * (k - 11))) h₁ in
    let (h₃, _) = and_split _ (leb k 13) h₂ in
    let big = leb-false k 11 (not-true _ h₃) in
    let is = eqb-true w (4 * (k - 11)) e in
    rw (hex_digits-length (2 * w) n, fixed-length w n) (omega arith)
element-room s k (link n) h =
    let (_, q) = and_split (not (leb k 13)) (number? (link_rules s k) n) h in
    omega (arith, number-room (link_rules s k) n q, put_some n)
element-room s k (annotation m n) h =
    let (_, h₂) = and_split (eqb k 5) _ h in
    let (a, h₃) = and_split (ltb m (256 ^ 8)) _ h₂ in
    let (b, _) = and_split (ltb n (256 ^ 8)) _ h₃ in
    rw (length-append (decimal m), length-append (put m))
    (omega (arith, put-digits m m (omega arith) (ltb-true m _ a), put-digits n n (omega arith) (ltb-true n _ b), put_some m, put_some n))
element-room s k (keys n) h = not_so h

size_room : (e : Element) → sized? e ≡ true → 5 + length (element_word e) ≤ 9 * length (put_size e)
unfolding sized? size? size_of put_size element_word
size_room (flag b) h = not_so h
size_room (whole v) h = not_so h
size_room (float w n) h = not_so h
size_room (link n) h = not_so h
size_room (annotation m n) h = not_so h
size_room (keys n) h = omega (arith, number-room small_rules n h, put_some n)

-- behind the word w
elements-room :
    (s : State) (k : ℕ) (es : List Element) (w : List ℕ) → all (element? s k) es ≡ true
    → length (line (w ∷ map element_word es)) + 4 * length es ≤ 1 + length w + 9 * length (flat (put_element k) es)
unfolding line all flat
elements-room s k [] w h = rw length-append (omega arith)
elements-room s k (e ∷ es) w h =
    let (a, b) = and_split (element? s k e) _ h in
    let ih = elements-room s k es (element_word e) b in
    rw (length-append w, length-append (put_element k e)) (omega (arith, element-room s k e a))

-- the elements of maps, behind the word w
through-room :
    (s : State) (es : List Element) (due : List (List ℕ)) (w : List ℕ) → all_through (element? s) sized? es due ≡ true
    → length (line (w ∷ map element_word es)) + 4 * length es ≤ 1 + length w + 9 * length (through_maps put_element put_size es due)
unfolding line all_through through_maps at_first
through-room s [] due w h = rw length-append (omega arith)
through-room s (e ∷ es) [] w h = not_so h
through-room s (e ∷ es) ([] ∷ due) w h = not_so h
through-room s (e ∷ es) ((k ∷ []) ∷ due) w h =
    let (a, b) = and_split (element? s k e) _ h in
    let ih = through-room s es (opened (k ∷ []) e ++ due) (element_word e) b in
    rw (length-append w, length-append (put_element k e)) (omega (arith, element-room s k e a))
through-room s (e ∷ es) ((k ∷ l ∷ ks) ∷ due) w h =
    let (a, b) = and_split (sized? e) _ h in
    let ih = through-room s es (opened (k ∷ l ∷ ks) e ++ due) (element_word e) b in
    rw (length-append w, length-append (put_size e)) (omega (arith, size_room e a))

-- a value of such a kind takes no byte; a constant has none
bare? : Kind → Bool
bare? (constant k v) = true
bare? (plain k) = false
bare? (array n k) = eqb n 0
bare? (many c k) = false
bare? (mapping ks) = false

due-bare : (k : Kind) (n : ℕ) → once (values_due k n) (bare? k) ≤ once n (empty? k)
unfolding values_due bare? empty? once when◌then◌else◌
due-bare (constant k v) n = omega arith
due-bare (plain k) n = omega arith
due-bare (array l k) n = omega arith
due-bare (many c k) n = omega arith
due-bare (mapping ks) n = omega arith

bare-line : length (value_line []) ≡ 4
unfolding value_line line ascii
bare-line = refl

value_room : (s : State) (k : Kind) (es : List Element) → value? s k es ≡ true → length (value_line es) ≤ 4 * once 1 (bare? k) + 9 * length (put_value k es)
unfolding value? value_line put_value bare? once when◌then◌else◌ ascii all_through
value_room s (constant k v) [] h = omega (arith, bare-line)
value_room s (constant k v) (e ∷ es) h = absurd (omega (arith, eqb-true (length (e ∷ es)) 0 h))
value_room s (plain k) es h =
    let (n, a) = and_split (eqb (length es) 1) (all (element? s k) es) h in
    omega (arith, eqb-true (length es) 1 n, elements-room s k es (ascii "val") a)
value_room s (array n k) es h =
    let (m, a) = and_split (eqb (length es) n) (all (element? s k) es) h in
    go (eqb-true (length es) n m) (elements-room s k es (ascii "val") a) (eqb n 0) refl
  where
    go :
        length es ≡ n → length (line (ascii "val" ∷ map element_word es)) + 4 * length es ≤ 4 + 9 * length (flat (put_element k) es) → (b : Bool) → eqb n 0 ≡ b
        → length (line (ascii "val" ∷ map element_word es)) ≤ 4 * (when b then 1 else 0) + 9 * length (flat (put_element k) es)
    go m a true t = omega arith
    go m a false t = let some : (n ≡ 0 → ⊥) = eqb-false n 0 t in omega arith
value_room s (many c k) es h =
    let (_, a) = and_split (number? small_rules (length es)) (all (element? s k) es) h in
    rw length-append (omega (arith, elements-room s k es (ascii "val") a, put_some (length es)))
value_room s (mapping ks) [] h = not_so h
value_room s (mapping ks) (e ∷ es) h = omega (arith, through-room s (e ∷ es) (ks ∷ []) (ascii "val") h)

values-room :
    (s : State) (k : Kind) (c : Chunk) → all (value? s k) c ≡ true → length (flat value_line c) ≤ 4 * once (length c) (bare? k) + 9 * length (flat (put_value k) c)
unfolding all flat
values-room s k [] h = omega arith
values-room s k (v ∷ vs) h =
    let (a, b) = and_split (value? s k v) _ h in
    let more : once (length (v ∷ vs)) (bare? k) ≡ once 1 (bare? k) + once (length vs) (bare? k) = once_more (length vs) (bare? k) in
    rw (length-append (value_line v), length-append (put_value k v)) (omega (arith, value_room s k v a, values-room s k vs b))

-- how many values that take no byte are due
bare_due : List Field → List Due → ℕ
bare_due F [] = 0
bare_due F (d ∷ ds) = once d.values (bare? (get_or F d.field no_field).kind) + bare_due F ds

bare-append : (F : List Field) (ds es : List Due) → bare_due F (ds ++ es) ≡ bare_due F ds + bare_due F es
unfolding bare_due
bare-append F [] es = omega arith
bare-append F (d ∷ ds) es = omega (arith, bare-append F ds es)

chunks-room :
    (s : State) (ds : List Due) (cs : List Chunk) → chunks? s ds cs ≡ true
    → length (flat print_chunk cs) ≤ 4 * bare_due s.fields ds + 9 * length (flat (λ c. c) (put_chunks s ds cs))
unfolding chunks? chunk? bare_due flat put_chunks print_chunk field_at
chunks-room s [] [] h = omega arith
chunks-room s [] (c ∷ cs) h = not_so h
chunks-room s (d ∷ ds) [] h = not_so h
chunks-room s (d ∷ ds) (c ∷ cs) h =
    let k = (get_or s.fields d.field no_field).kind in
    let (a, b) = and_split (chunk? s d c) _ h in
    let (x, y) = and_split (eqb (length c) d.values) _ a in
    let mine : length (flat value_line c) ≤ 4 * once d.values (bare? k) + 9 * length (flat (put_value k) c) = rw (eqb-true (length c) d.values x) at (values-room s k c y) in
    let bytes : length (put_chunk s d c) ≡ length (flat (put_value k) c) = ap length (put-chunk s d c) in
    rw (length-append (flat value_line c), length-append (put_chunk s d c)) (omega (arith, mine, bytes, chunks-room s ds cs b))

-- ── the values of all fields ──

-- these fields stand among F, from place i on
abbrev Stands : List Field → ℕ → List Field → Type 0
Stands F i ds = (j : ℕ) → j < length ds → get_or F (i + j) no_field ≡ get_or ds j no_field

stands : (ls ds rs : List Field) → Stands (ls ++ (ds ++ rs)) (length ls) ds
stands ls ds rs j lt = get_or-append-add ls (ds ++ rs) j no_field ∙ get_or-append ds rs no_field j lt

module _ (F : List Field) (i : ℕ) (d : Field) (ds : List Field) (S : Stands F i (d ∷ ds)) where
  stands-first : get_or F i no_field ≡ d
  stands-first = rw (add-zero i) at (S 0 (omega arith))

  stands-rest : Stands F (suc i) ds
  stands-rest j lt = rw (suc-add i j, ← add-suc i j) (S (suc j) (omega arith))

-- c more objects of type t
module _ (s : State) (F : List Field) (n m : ℕ → ℕ) (t c : ℕ) (more : (u : ℕ) → m u ≡ n u + once c (eqb t u)) where
  olds-empty :
      (ds : List Field) (i : ℕ) → Stands s.fields i ds → Stands F i ds → empty_in n ds + bare_due F (map (old_due s c) (places (owns? t) i ds)) ≤ empty_in m ds
  unfolding bare_due old_due places owns? when◌then◌else◌ field_at
  olds-empty [] i S T = omega (arith, empty-nil n, empty-nil m)
  olds-empty (d ∷ ds) i S T =
      rw (empty-more n d ds, empty-more m d ds, more d.owner, once-add (n d.owner) (once c (eqb t d.owner)) (empty? d.kind))
      (go (olds-empty ds (suc i) (stands-rest s.fields i d ds S) (stands-rest F i d ds T)) (eqb d.owner t) refl)
    where
      mine : once (values_due (get_or s.fields i no_field).kind c) (bare? (get_or F i no_field).kind) ≤ once c (empty? d.kind)
      mine = rw (stands-first s.fields i d ds S, stands-first F i d ds T) (due-bare d.kind c)

      go :
          empty_in n ds + bare_due F (map (old_due s c) (places (owns? t) (suc i) ds)) ≤ empty_in m ds → (b : Bool) → eqb d.owner t ≡ b
          → once (n d.owner) (empty? d.kind) + empty_in n ds + bare_due F (map (old_due s c) (when b then i ∷ places (owns? t) (suc i) ds else places (owns? t) (suc i) ds)) ≤ once (n d.owner) (empty? d.kind) + once (once c (eqb t d.owner)) (empty? d.kind) + empty_in m ds
      go ih true e =
          rw (once-same c t d.owner (sym (eqb-true d.owner t e))) (omega (arith, mine))
      go ih false e = omega arith

-- what is kept of a kind is as bare
noted-bare : (k : Kind) → bare? (noted k) ≡ bare? k
unfolding noted bare?
noted-bare (constant k v) = refl
noted-bare (plain k) = refl
noted-bare (array n k) = refl
noted-bare (many c k) = refl
noted-bare (mapping ks) = refl

noted-empty : (k : Kind) → empty? (noted k) ≡ empty? k
unfolding noted empty?
noted-empty (constant k v) = refl
noted-empty (plain k) = refl
noted-empty (array n k) = refl
noted-empty (many c k) = refl
noted-empty (mapping ks) = refl

news-empty :
    (F : List Field) (m : ℕ → ℕ) (t n : ℕ) → m t ≡ n → (gs : List New) (i : ℕ) → Stands F i (map (made t) gs) → bare_due F (new_dues i n gs) ≤ empty_in m (map (made t) gs)
unfolding bare_due new_dues made
news-empty F m t n is [] i S = omega arith
news-empty F m t n is (g ∷ gs) i S =
    let mine : once (values_due g.kind n) (bare? (get_or F i no_field).kind) ≤ once n (empty? g.kind) = rw (stands-first F i (made t g) (map (made t) gs) S, noted-bare g.kind) (due-bare g.kind n) in
    rw (empty-more m (made t g) (map (made t) gs), noted-empty g.kind, is) (omega (arith, mine, news-empty F m t n is gs (suc i) (stands-rest F i (made t g) (map (made t) gs) S)))

-- with count 0 no known field is due
known-fewer :
    (F : List Field) (s : State) (h : Head)
    → bare_due F (map (old_due s h.count) (known_due s h)) ≤ bare_due F (map (old_due s h.count) (fields_of s (type_of s h.name)))
unfolding known_due when◌then◌else◌ bare_due
known-fewer F s h = go (eqb h.count 0)
  where
    go :
        (b : Bool)
        → bare_due F (map (old_due s h.count) (when b then [] else fields_of s (type_of s h.name))) ≤ bare_due F (map (old_due s h.count) (fields_of s (type_of s h.name)))
    go true = omega arith
    go false = omega arith

-- what is due to an entry, its fields get
entry-empty : (s : State) (e : Entry) (F : List Field) → Begins (after_entry s e).fields F → empty_of s + bare_due F (entry_dues s e) ≤ empty_of (after_entry s e)
unfolding empty_of entry_dues after_entry after_head fields_of
entry-empty s e F B =
    let h = e.head in
    let t = type_of s h.name in
    let s₁ = after_head s h in
    let s₂ = fold (after_new t) s₁ e.news in
    let m = objects_of s₂ in
    let news = map (made t) e.news in
    let fields : s₂.fields ≡ s.fields ++ news = fold-fields t e.news s₁ in
    let F-is : F ≡ s.fields ++ (news ++ B.rest) = B.is ∙ ap (λ (l : List Field). l ++ B.rest) fields ∙ append_assoc s.fields news B.rest in
    let more : (u : ℕ) → m u ≡ objects_of s u + once h.count (eqb t u) = λ u. fold-objects t e.news s₁ u ∙ head-objects s h u in
    let old-places : Stands F 0 s.fields = rw F-is (stands [] s.fields (news ++ B.rest)) in
    let new-places : Stands F (length s.fields) news = rw F-is (stands s.fields news B.rest) in
    let own-places : Stands s.fields 0 s.fields = λ j lt. ap (λ (k : ℕ). get_or s.fields k no_field) (zero-add j) in
    let olds = olds-empty s F (objects_of s) m t h.count more s.fields 0 own-places old-places in
    let mine = news-empty F m t (objects_of s₁ t) (fold-objects t e.news s₁ t) e.news (length s.fields) new-places in
    let all-fields : empty_in m s₂.fields ≡ empty_in m s.fields + empty_in m news = ap (empty_in m) fields ∙ empty-append m s.fields news in
    omega (
      arith,
      olds,
      mine,
      known-fewer F s h,
      all-fields,
      bare-append F (map (old_due s h.count) (known_due s h)) (new_dues (length s.fields) (objects_of s₁ t) e.news),
    )

-- ── entries ──

-- element kinds, each behind a comma
commas-room : (ks : List ℕ) → all (number? (element_kind_rules any_type)) ks ≡ true → length (commas decimal ks) ≤ 5 * length (flat put ks)
unfolding all commas flat
commas-room [] h = omega arith
commas-room (k ∷ ks) h =
    let (a, b) = and_split (number? (element_kind_rules any_type) k) _ h in
    rw (length-append (decimal k), length-append (put k)) (omega (arith, number-room (element_kind_rules any_type) k a, put_some k, commas-room ks b))

kind-room : (k : Kind) → kind_kept? k ≡ true → length (kind_word k) ≤ 5 * length (put_kind k)
unfolding kind_kept? kind_word joined put_kind
kind-room (constant k v) h =
    let (t, w) = and_split (leb k 4) (whole? k v) h in
    let low = leb-true k 4 t in
    let (least, word) = whole_room k v w in
    rw (length-append (decimal k), length-append (put k)) (omega (arith, put-digits k k (omega arith) (omega arith), put_some k))
kind-room (plain k) h = omega (arith, number-room (element_kind_rules any_type) k h)
kind-room (array n k) h =
    let (a, b) = and_split (number? small_rules n) (number? (element_kind_rules any_type) k) h in
    rw (length-append (decimal 15), length-append (decimal n), length-append (put 15 ++ put n), length-append (put 15))
    (omega (arith, put-digits 15 15 (omega arith) (omega arith), put_some 15, number-room small_rules n a, number-room (element_kind_rules any_type) k b))
kind-room (many c k) h =
    let (a, b) = and_split (leb 17 c && leb c 19) (number? (element_kind_rules any_type) k) h in
    let (_, t) = and_split (leb 17 c) (leb c 19) a in
    let low = leb-true c 19 t in
    rw (length-append (decimal c), length-append (put c)) (omega (arith, put-digits c c (omega arith) (omega arith), put_some c, number-room (element_kind_rules any_type) k b))
kind-room (mapping ks) h =
    let (a, b) = and_split (number? types_rules (length ks)) (all (number? (element_kind_rules any_type)) ks) h in
    rw (joined-commas decimal (decimal (length ks)) ks, length-append (decimal 20), length-append (decimal (length ks)), length-append (put 20 ++ put (length ks)), length-append (put 20))
    (omega (arith, put-digits 20 20 (omega arith) (omega arith), put_some 20, number-room types_rules (length ks) a, commas-room ks b))

put-new : (g : New) (end : ℕ) → length (put_new (g, end)) ≡ length (put 0) + length (put_kind g.kind) + length (put g.name) + length (put end)
unfolding put_new
put-new g end = rw (length-append, length-append, length-append)

new-room : (t : ℕ) (s : State) (g : New) (end : ℕ) → new-field? t s g ≡ true → length (new_line g) ≤ 9 * length (put_new (g, end))
unfolding new-field? new_line line ascii
new-room t s g end h =
    let (a, b) = and_split (kind_kept? g.kind) (number? (field_name_rules t s) g.name) h in
    rw (length-append (kind_word g.kind), length-append (decimal g.name), put-new g end)
    (omega (arith, put_some 0, kind-room g.kind a, number-room (field_name_rules t s) g.name b))

news-room :
    (t : ℕ) (gs : List New) (s : State) (es : List ℕ) → in_turn (new-field? t) (after_new t) s gs ≡ true → length es ≡ length gs
    → length (flat new_line gs) ≤ 9 * length (flat put_new (zip gs es))
unfolding in_turn flat zip
news-room t [] s es h n = omega arith
news-room t (g ∷ gs) s [] h n = absurd (omega arith)
news-room t (g ∷ gs) s (e ∷ es) h n =
    let (a, b) = and_split (new-field? t s g) _ h in
    rw (length-append (new_line g), length-append (put_new (g, e))) (omega (arith, new-room t s g e a, news-room t gs (after_new t s g) es b (omega arith)))

olds-room : (n : ℕ) (es : List ℕ) → length es ≡ n → length (flat (λ (u : Unit {0}). old_line) (replicate n tt)) ≤ 9 * length (flat put es)
unfolding flat old_line line ascii
olds-room zero es h = omega arith
olds-room (suc n) [] h = absurd (omega arith)
olds-room (suc n) (e ∷ es) h = rw (length-append (put e)) (omega (arith, put_some e, olds-room n es (omega arith)))

put-head : (h : Head) → length (put h.name) + length (put_option h.super) + length (put_option h.start) + length (put h.count) ≤ length (put_head h)
unfolding put_head
put-head h = rw (length-append, length-append, length-append, length-append) (omega arith)

type-room : (s : State) (h : Head) (n : ℕ) → head? s h ≡ true → n < 256 ^ 8 → length (type_line h n) ≤ 9 * (length (put_head h) + length (put n))
unfolding head? type_line line ascii
type-room s h n k lt =
    let super = super_of s h.name h.super in
    let (a, (b, (c, (d, _)))) = every-split _ k in
    rw (length-append (decimal h.name), length-append (or_dash h.super), length-append (or_dash h.start), length-append (decimal h.count), length-append (decimal n))
    (omega (
      arith,
      put-head h,
      number-room (type_name_rules s) h.name a,
      only-room (new? s h.name) (super_name_rules s (type_of s h.name)) h.super b,
      only-room (given? super) small_rules h.start c,
      number-room (count_rules s super (or h.start 0)) h.count d,
      put-digits n n (omega arith) lt,
      put_some h.name,
      put_some n,
    ))

put-entry :
    (k : ℕ) (e : Entry) (ends : List ℕ)
    → length (put_entry k (e, ends)) ≡ length (put_head e.head) + (length (put (k + length e.news)) + length (flat put (take k ends)) + length (flat put_new (zip e.news (drop k ends))))
unfolding put_entry put_fields
put-entry k e ends = rw (length-append, length-append, length-append)

entry-room :
    (s : State) (e : Entry) (ends : List ℕ) → entry? s e ≡ true → length ends ≡ length (known_due s e.head) + length e.news
    → length (print_entry (length (known_due s e.head)) e) ≤ 9 * length (put_entry (length (known_due s e.head)) (e, ends))
unfolding entry? print_entry
entry-room s e ends h n =
    let (a, (b, (c, _))) = every-split _ h in
    let k = length (known_due s e.head) in
    let t = type_of s e.head.name in
    let small = (number-split (field_count_rules (after_head s e.head) k) (k + length e.news) b).0 in
    let olds = olds-room k (take k ends) (rw length-take (omega arith)) in
    let news = news-room t e.news (after_head s e.head) (drop k ends) c (rw length-drop (omega arith)) in
    rw (put-entry k e ends, length-append, length-append) (omega (arith, type-room s e.head (k + length e.news) a small, olds, news))

-- what is printed and due is paid for by the bytes of the entries and by what the fields get
entries-room :
    (es : List Entry) (s : State) (ends : List ℕ) → in_turn entry? after_entry s es ≡ true → length ends ≡ length (dues s es)
    → length (print_entries s es) + 4 * bare_due (fold after_entry s es).fields (dues s es) + 4 * empty_of s ≤ 9 * length (put_entries s es ends) + 4 * empty_of (fold after_entry s es)
unfolding in_turn print_entries dues put_entries fold bare_due
entries-room [] s ends h n = omega arith
entries-room (e ∷ es) s ends h n =
    let (a, b) = and_split (entry? s e) _ h in
    let k = length (known_due s e.head) in
    let m = k + length e.news in
    let F = (fold after_entry (after_entry s e) es).fields in
    let many = dues-more s e es in
    let mine = entry-room s e (take m ends) a (rw length-take (omega arith)) in
    let rest = entries-room es (after_entry s e) (drop m ends) b (rw length-drop (omega arith)) in
    let due = entry-empty s e F (fold-grows after_entry entry-grows es (after_entry s e)).fields in
    rw (length-append (print_entry k e), bare-append F (entry_dues s e) (dues (after_entry s e) es), length-append (put_entry k (e, take m ends))) (omega (arith, mine, rest, due))

-- ── pairs, the ledger ──

-- a string's line, against its bytes and the four of its end
strings-room : (ss : List (List ℕ)) (from : ℕ) → length (flat string_line ss) ≤ 2 * (length (flat (put_fixed 4) (ends_from from ss)) + length (flat (λ s. s) ss))
unfolding flat string_line line ascii ends_from
strings-room [] from = omega arith
strings-room (s ∷ ss) from =
    let ih = strings-room ss (from + length s) in
    let mine : length (string_line s) ≡ 5 + 2 * length s = rw (length-append (hex s)) (omega (arith, hex-length s)) in
    rw (length-append (string_line s), length-append (put_fixed 4 (from + length s)), length-append s) (omega (arith, fixed-length 4 (from + length s)))

line-room : (n m : ℕ) → length (decimal n) ≤ 3 * length (put n) → length (decimal m) ≤ 3 * length (put m) → length (pair_line n m) ≤ 9 * (length (put n) + length (put m))
unfolding pair_line line ascii
line-room n m h k = rw (length-append (decimal n), length-append (decimal m)) (omega (arith, put_some n, put_some m))

strings-empty : (s : State) (ss : List (List ℕ)) → empty_of (with_strings s ss) ≡ empty_of s
unfolding empty_of with_strings objects_of
strings-empty s ss = refl

closed-empty : (s : State) → empty_of (closed s) ≡ empty_of s
unfolding empty_of closed objects_of
closed-empty s = refl

printed-length :
    (s : State) (p : Pair)
    → length (print_pair s p) ≡ length (pair_line (length p.strings) (length p.entries)) + length (flat string_line p.strings) + length (print_entries (with_strings s p.strings) p.entries) + length (flat print_chunk p.chunks)
unfolding print_pair
printed-length s p = rw (length-append, length-append, length-append)

put-length :
    (s : State) (p : Pair)
    → length (put_pair s p) ≡ length (put (length p.strings)) + length (flat (put_fixed 4) (ends_from 0 p.strings)) + length (flat (λ s. s) p.strings) + length (put (length p.entries)) + length (put_entries (with_strings s p.strings) p.entries (ends_from 0 (chunks_of s p))) + length (flat (λ c. c) (chunks_of s p))
unfolding put_pair put_strings
put-length s p = rw (put-front s p.strings p.entries, length-append, length-append, length-append, length-append, length-append)

pair-room : (s : State) (p : Pair) → pair? s p ≡ true → length (print_pair s p) + 4 * empty_of s ≤ 9 * length (put_pair s p) + 4 * empty_of (after_pair s p)
unfolding pair? after_pair after_front
pair-room s p h =
    let (a, (_, (b, (c, (_, (d, _)))))) = every-split _ h in
    let n = length p.strings in
    let m = length p.entries in
    let s₁ = with_strings s p.strings in
    let s₂ = after_front s p.strings p.entries in
    let ds = dues s₁ p.entries in
    let first = line-room n m (number-room (strings_rules s) n a) (number-room small_rules m b) in
    let entries = entries-room p.entries s₁ (ends_from 0 (chunks_of s p)) c (ends-length 0 (chunks_of s p) ∙ chunks-length s₂ ds p.chunks (chunks_of s p) (chunks-spelt s₂ ds p.chunks) d) in
    let chunks = chunks-room s₂ ds p.chunks d in
    rw (printed-length s p, put-length s p, closed-empty) (omega (arith, first, strings-room p.strings 0, entries, chunks, strings-empty s p.strings))

pairs-room :
    (l : Ledger) (s : State) → in_turn pair? after_pair s l ≡ true → length (print_pairs s l) + 4 * empty_of s ≤ 9 * length (put_pairs s l) + 4 * empty_of (fold after_pair s l)
unfolding in_turn print_pairs put_pairs fold
pairs-room [] s h = omega arith
pairs-room (p ∷ l) s h =
    let (a, b) = and_split (pair? s p) _ h in
    rw (length-append (print_pair s p), length-append (put_pair s p)) (omega (arith, pair-room s p a, pairs-room l (after_pair s p) b))

module _ (l : Ledger) (h : keeps? l ≡ true) where
  pub print-room : length (print l) ≤ 9 * length (encode l) + 4 * empty_values l
  unfolding keeps? print encode empty_values empty_of empty_in known
  print-room = let (_, (_, (c, _))) = every-split _ h in omega (arith, pairs-room l nothing c)

  -- at most one for each object and field
  pub empty-few : empty_values l ≤ most_objects * most_fields
  unfolding empty_values empty_in known
  empty-few =
      let s = fold after_pair nothing l in
      omega (arith, empty-most (objects_of s) (λ t. ledger-objects l t h) s.fields, (ledger-within l h).fields)

-- none, where no field is an array of fixed length 0
pub empty-none : (l : Ledger) → any empty_field? (known l).fields ≡ false → empty_values l ≡ 0
unfolding empty_values
empty-none l h = total-none empty_field? _ (known l).fields h

-- Ledgers as values: which of them keep the rules, how they are written as bytes, and where the chunks of a file stand. The answers are
-- the paper's, worked out by hand. Assumes nothing.
use Rattle.std.specs.Prelude.{◌≡◌, refl, Bool, true, false, List, [], ◌∷◌, ◌++◌, ℕ, zero, suc, ◌+◌, ◌-◌, ◌^◌, ℤ, pos, negsuc, replicate}
use Rattle.std.proofs.Math.Option.{Option, none, some}
use Rattle.paper.specs.Reader.{Out, got, no, Rule, ◌or_no◌}
use Rattle.paper.specs.Ledger.{Kind, constant, plain, array, many, Element, flag, whole, float, link, New, Head, Entry, Chunk, Pair, Ledger, Typ, Field, Range, State, nothing, Due}
use Rattle.paper.specs.Rules.{small_rules, with_strings}
use Rattle.paper.specs.File.{file}
use Rattle.paper.specs.Pieces.{ends_from, string_pieces, option_pieces, head_pieces, whole_pieces, kind_pieces, new_pieces, zip, field_pieces, element_pieces, value_pieces}
use Rattle.paper.specs.Encode.{write, put_chunks, encode}
use Rattle.paper.specs.Listing.{ascii, print}
use Rattle.paper.specs.Keeps.{every, hold?, number?, only?, bytes?, head?, signed?, whole?, kind_kept?, new-field?, entry?, element?, value?, chunk?, chunks?, pair?, keeps?}
use Rattle.paper.specs.Calls.{done, check}
use Rattle.paper.specs.Places.{Spot, spots_from, spots_of, spots, pair_spots, inside?}
use Rattle.paper.specs.Table.{D, E-with, E}
use Rattle.paper.specs.Whole.{whole as all}

-- ── ledgers in short ──

abbrev pair_of : List (List ℕ) → List Entry → List Chunk → Pair
pair_of strings entries chunks = record { strings = strings; entries = entries; chunks = chunks }

abbrev entry_of : ℕ → Option ℕ → Option ℕ → ℕ → List New → Entry
entry_of name super start n news = record { head = record { name = name; super = super; start = start; count = n }; news = news }

-- a new type with no super type, and a known one
abbrev base : ℕ → ℕ → List New → Entry
base name n news = entry_of name (some 0) none n news

abbrev more : ℕ → ℕ → List New → Entry
more name n news = entry_of name none none n news

abbrev field : Kind → ℕ → New
field k n = record { kind = k; name = n }

-- the strings a and b
abbrev a : List ℕ
a = 97 ∷ []

abbrev b : List ℕ
b = 98 ∷ []

-- one type of one object with one field of this kind and one value
abbrev one : Kind → List Element → Ledger
one k v = pair_of (a ∷ []) (base 1 1 (field k 1 ∷ []) ∷ []) ((v ∷ []) ∷ []) ∷ []

-- the same with a constant
abbrev fixed : ℕ → ℤ → Ledger
fixed k v = pair_of (a ∷ []) (base 1 1 (field (constant k v) 1 ∷ []) ∷ []) ([] ∷ []) ∷ []

-- a type of two objects with a field of i8, and a second pair with these entries and chunks
abbrev followed : List Entry → List Chunk → Ledger
followed entries chunks =
    pair_of (a ∷ b ∷ []) (base 1 2 (field (plain 7) 1 ∷ []) ∷ []) (((whole (pos 1) ∷ []) ∷ (whole (pos 2) ∷ []) ∷ []) ∷ []) ∷
    pair_of [] entries chunks ∷
    []

abbrev i8 : ℕ → List Element
i8 n = whole (pos n) ∷ []

-- ── whole ledgers that keep the rules, and that break one ──

ledgers-kept :
    (keeps? [] ≡ true) ×
    (keeps? (replicate 32 (pair_of [] [] [])) ≡ true) ×
    (keeps? (replicate 33 (pair_of [] [] [])) ≡ false) ×
    (keeps? (pair_of (a ∷ []) [] [] ∷ []) ≡ true) ×
    (keeps? (pair_of ((255 ∷ 0 ∷ []) ∷ []) [] [] ∷ []) ≡ true) ×
    (keeps? (pair_of (a ∷ (0 ∷ 256 ∷ []) ∷ []) [] [] ∷ []) ≡ false) ×
    (keeps? (pair_of ((256 ∷ 0 ∷ []) ∷ a ∷ []) [] [] ∷ []) ≡ false) ×
    (keeps? (pair_of (a ∷ []) (base 1 0 [] ∷ []) [] ∷ []) ≡ true) ×
    (keeps? (pair_of (a ∷ []) (base 0 0 [] ∷ []) [] ∷ []) ≡ false) ×
    (keeps? (pair_of (a ∷ []) (base 2 0 [] ∷ []) [] ∷ []) ≡ false) ×
    (keeps? (pair_of [] (base 1 0 [] ∷ []) [] ∷ pair_of (a ∷ []) [] [] ∷ []) ≡ false) ×
    (keeps? (pair_of (a ∷ []) [] [] ∷ pair_of [] (base 1 0 [] ∷ []) [] ∷ []) ≡ true) ×
    (keeps? (pair_of (a ∷ []) (more 1 0 [] ∷ []) [] ∷ []) ≡ false) ×
    (keeps? (pair_of (a ∷ []) (entry_of 1 (some 1) (some 0) 0 [] ∷ []) [] ∷ []) ≡ false) ×
    (keeps? (pair_of (a ∷ []) (entry_of 1 (some 2) (some 0) 0 [] ∷ []) [] ∷ []) ≡ false) ×
    (keeps? (pair_of (a ∷ []) (entry_of 1 (some 0) (some 0) 0 [] ∷ []) [] ∷ []) ≡ false) ×
    (keeps? (pair_of (a ∷ []) (base 1 65535 [] ∷ []) [] ∷ []) ≡ true) ×
    (keeps? (pair_of (a ∷ []) (base 1 65536 [] ∷ []) [] ∷ []) ≡ false) ×
    (keeps? (pair_of (a ∷ b ∷ []) (base 1 65534 [] ∷ base 2 1 [] ∷ []) [] ∷ []) ≡ true) ×
    (keeps? (pair_of (a ∷ b ∷ []) (base 1 65535 [] ∷ base 2 1 [] ∷ []) [] ∷ []) ≡ false) ×
    (keeps? (pair_of (a ∷ b ∷ []) (base 1 1 [] ∷ more 1 1 [] ∷ []) [] ∷ []) ≡ false) ×
    (keeps? (pair_of (a ∷ a ∷ []) (base 1 1 [] ∷ base 2 1 [] ∷ []) [] ∷ []) ≡ false)
unfolding all
ledgers-kept = (refl, refl, refl, refl, refl, refl, refl, refl, refl, refl, refl, refl, refl, refl, refl, refl, refl, refl, refl, refl, refl, refl)

-- super types, starts and counts
ranges-kept :
    (keeps? (pair_of (a ∷ b ∷ []) (base 1 2 [] ∷ entry_of 2 (some 1) (some 1) 1 [] ∷ []) [] ∷ []) ≡ true) ×
    (keeps? (pair_of (a ∷ b ∷ []) (base 1 2 [] ∷ entry_of 2 (some 1) (some 1) 2 [] ∷ []) [] ∷ []) ≡ false) ×
    (keeps? (pair_of (a ∷ b ∷ []) (base 1 2 [] ∷ entry_of 2 (some 1) none 1 [] ∷ []) [] ∷ []) ≡ false) ×
    (keeps? (pair_of (a ∷ b ∷ []) (base 1 2 [] ∷ entry_of 2 (some 1) (some 0) 0 [] ∷ []) [] ∷ []) ≡ true) ×
    (keeps? (pair_of (a ∷ b ∷ []) (base 1 2 [] ∷ entry_of 2 (some 1) (some 1) 0 [] ∷ []) [] ∷ []) ≡ false) ×
    (keeps? (pair_of (a ∷ b ∷ []) (base 1 2 [] ∷ entry_of 2 none (some 1) 1 [] ∷ []) [] ∷ []) ≡ false) ×
    (keeps? (pair_of (a ∷ b ∷ []) (entry_of 2 (some 1) (some 0) 1 [] ∷ base 1 2 [] ∷ []) [] ∷ []) ≡ false) ×
    (keeps? (followed (more 1 3 [] ∷ []) ((i8 3 ∷ i8 4 ∷ i8 5 ∷ []) ∷ [])) ≡ true) ×
    (keeps? (followed (entry_of 1 (some 0) none 3 [] ∷ []) ((i8 3 ∷ i8 4 ∷ i8 5 ∷ []) ∷ [])) ≡ false) ×
    (keeps? (followed (entry_of 1 none (some 0) 3 [] ∷ []) ((i8 3 ∷ i8 4 ∷ i8 5 ∷ []) ∷ [])) ≡ false)
unfolding all
ranges-kept = (refl, refl, refl, refl, refl, refl, refl, refl, refl, refl)

-- chunks: one for each field that is due, and one value for each object
chunks-kept :
    (keeps? (followed [] []) ≡ true) ×
    (keeps? (followed [] ([] ∷ [])) ≡ false) ×
    (keeps? (followed (more 1 1 [] ∷ []) []) ≡ false) ×
    (keeps? (followed (more 1 1 [] ∷ []) ([] ∷ [])) ≡ false) ×
    (keeps? (followed (more 1 1 [] ∷ []) ((i8 3 ∷ []) ∷ [])) ≡ true) ×
    (keeps? (followed (more 1 1 [] ∷ []) ((i8 3 ∷ i8 4 ∷ []) ∷ [])) ≡ false) ×
    (keeps? (followed (more 1 1 [] ∷ []) ((i8 3 ∷ []) ∷ [] ∷ [])) ≡ false) ×
    (keeps? (followed (more 1 1 [] ∷ []) ((i8 128 ∷ []) ∷ [])) ≡ false) ×
    (keeps? (followed (more 1 2 [] ∷ []) ((i8 3 ∷ i8 128 ∷ []) ∷ [])) ≡ false) ×
    (keeps? (followed (more 1 0 [] ∷ []) []) ≡ true) ×
    (keeps? (followed (more 1 0 [] ∷ []) ([] ∷ [])) ≡ false) ×
    (keeps? (followed (more 1 1 (field (plain 8) 2 ∷ []) ∷ []) ((i8 3 ∷ []) ∷ (i8 300 ∷ i8 301 ∷ i8 302 ∷ []) ∷ [])) ≡ true) ×
    (keeps? (followed (more 1 1 (field (plain 8) 2 ∷ []) ∷ []) ((i8 300 ∷ i8 301 ∷ i8 302 ∷ []) ∷ (i8 3 ∷ []) ∷ [])) ≡ false) ×
    (keeps? (followed (more 1 1 (field (plain 8) 2 ∷ []) ∷ []) ((i8 3 ∷ []) ∷ (i8 300 ∷ []) ∷ [])) ≡ false) ×
    (keeps? (followed (more 1 1 (field (plain 8) 2 ∷ []) ∷ []) ((i8 3 ∷ []) ∷ (i8 300 ∷ i8 301 ∷ i8 32768 ∷ []) ∷ [])) ≡ false) ×
    (keeps? (followed (more 1 0 (field (plain 8) 2 ∷ []) ∷ []) ((i8 300 ∷ i8 301 ∷ []) ∷ [])) ≡ true) ×
    (keeps? (followed (more 1 0 (field (plain 8) 1 ∷ []) ∷ []) ((i8 300 ∷ i8 301 ∷ []) ∷ [])) ≡ false) ×
    (keeps? (followed (more 1 0 (field (plain 8) 3 ∷ []) ∷ []) ((i8 300 ∷ i8 301 ∷ []) ∷ [])) ≡ false) ×
    (keeps? (followed (more 1 0 (field (plain 8) 0 ∷ []) ∷ []) ((i8 300 ∷ i8 301 ∷ []) ∷ [])) ≡ false) ×
    (keeps? (followed (more 1 1 (field (constant 0 (pos 5)) 2 ∷ []) ∷ []) ((i8 3 ∷ []) ∷ [] ∷ [])) ≡ true) ×
    (keeps? (followed (more 1 1 (field (constant 0 (pos 5)) 2 ∷ []) ∷ []) ((i8 3 ∷ []) ∷ ([] ∷ [] ∷ [] ∷ []) ∷ [])) ≡ false)
unfolding all
chunks-kept = (refl, refl, refl, refl, refl, refl, refl, refl, refl, refl, refl, refl, refl, refl, refl, refl, refl, refl, refl, refl, refl)

-- references reach the types and objects of this pair, strings those of this pair
reach-kept :
    (keeps? (pair_of (a ∷ b ∷ []) (base 1 1 (field (plain 33) 1 ∷ []) ∷ base 2 1 [] ∷ []) (((link 1 ∷ []) ∷ []) ∷ []) ∷ []) ≡ true) ×
    (keeps? (pair_of (a ∷ b ∷ []) (base 1 1 (field (plain 33) 1 ∷ []) ∷ base 2 1 [] ∷ []) (((link 2 ∷ []) ∷ []) ∷ []) ∷ []) ≡ false) ×
    (keeps? (pair_of (a ∷ b ∷ []) (base 1 1 (field (plain 33) 1 ∷ []) ∷ []) (((link 0 ∷ []) ∷ []) ∷ []) ∷ pair_of [] (base 2 1 [] ∷ []) [] ∷ []) ≡ false) ×
    (keeps? (pair_of (a ∷ []) (base 1 0 (field (plain 32) 1 ∷ []) ∷ []) ([] ∷ []) ∷ []) ≡ true) ×
    (keeps? (pair_of (a ∷ []) (base 1 0 (field (plain 33) 1 ∷ []) ∷ []) ([] ∷ []) ∷ []) ≡ false) ×
    (keeps? (pair_of (a ∷ []) (base 1 0 (field (many 17 33) 1 ∷ []) ∷ []) ([] ∷ []) ∷ []) ≡ false) ×
    (keeps? (pair_of (a ∷ []) (base 1 0 (field (array 1 33) 1 ∷ []) ∷ []) ([] ∷ []) ∷ []) ≡ false) ×
    (keeps? (one (plain 14) (link 0 ∷ [])) ≡ true) ×
    (keeps? (one (plain 14) (link 1 ∷ [])) ≡ true) ×
    (keeps? (one (plain 14) (link 2 ∷ [])) ≡ false) ×
    (keeps? (one (plain 32) (link 0 ∷ [])) ≡ true) ×
    (keeps? (one (plain 32) (link 1 ∷ [])) ≡ true) ×
    (keeps? (one (plain 32) (link 2 ∷ [])) ≡ false)
unfolding all
reach-kept = (refl, refl, refl, refl, refl, refl, refl, refl, refl, refl, refl, refl, refl)

-- ── values of every kind ──

-- whole numbers at the ends of their ranges, as values and as constants
wholes-kept :
    (keeps? (one (plain 7) (whole (pos 127) ∷ [])) ≡ true) ×
    (keeps? (one (plain 7) (whole (pos 128) ∷ [])) ≡ false) ×
    (keeps? (one (plain 7) (whole (negsuc 127) ∷ [])) ≡ true) ×
    (keeps? (one (plain 7) (whole (negsuc 128) ∷ [])) ≡ false) ×
    (element? nothing 8 (whole (pos (2 ^ 15 - 1))) ≡ true) ×
    (element? nothing 8 (whole (pos (2 ^ 15))) ≡ false) ×
    (element? nothing 8 (whole (negsuc (2 ^ 15 - 1))) ≡ true) ×
    (element? nothing 8 (whole (negsuc (2 ^ 15))) ≡ false) ×
    (element? nothing 9 (whole (pos (2 ^ 31 - 1))) ≡ true) ×
    (element? nothing 9 (whole (pos (2 ^ 31))) ≡ false) ×
    (element? nothing 9 (whole (negsuc (2 ^ 31 - 1))) ≡ true) ×
    (element? nothing 9 (whole (negsuc (2 ^ 31))) ≡ false) ×
    (element? nothing 10 (whole (pos (2 ^ 63 - 1))) ≡ true) ×
    (element? nothing 10 (whole (pos (2 ^ 63))) ≡ false) ×
    (element? nothing 10 (whole (negsuc (2 ^ 63 - 1))) ≡ true) ×
    (element? nothing 10 (whole (negsuc (2 ^ 63))) ≡ false) ×
    (element? nothing 11 (whole (pos (2 ^ 63 - 1))) ≡ true) ×
    (element? nothing 11 (whole (pos (2 ^ 63))) ≡ false) ×
    (element? nothing 11 (whole (negsuc (2 ^ 63 - 1))) ≡ true) ×
    (element? nothing 11 (whole (negsuc (2 ^ 63))) ≡ false)
unfolding all
wholes-kept = (refl, refl, refl, refl, refl, refl, refl, refl, refl, refl, refl, refl, refl, refl, refl, refl, refl, refl, refl, refl)

constants-kept :
    (keeps? (fixed 0 (pos 127)) ≡ true) ×
    (keeps? (fixed 0 (pos 128)) ≡ false) ×
    (keeps? (fixed 0 (negsuc 127)) ≡ true) ×
    (keeps? (fixed 0 (negsuc 128)) ≡ false) ×
    (kind_kept? (constant 1 (pos (2 ^ 15 - 1))) ≡ true) ×
    (kind_kept? (constant 1 (negsuc (2 ^ 15))) ≡ false) ×
    (kind_kept? (constant 2 (negsuc (2 ^ 31 - 1))) ≡ true) ×
    (kind_kept? (constant 2 (pos (2 ^ 31))) ≡ false) ×
    (kind_kept? (constant 3 (pos (2 ^ 63 - 1))) ≡ true) ×
    (kind_kept? (constant 3 (negsuc (2 ^ 63))) ≡ false) ×
    (kind_kept? (constant 4 (negsuc (2 ^ 63 - 1))) ≡ true) ×
    (kind_kept? (constant 4 (pos (2 ^ 63 - 1))) ≡ true) ×
    (kind_kept? (constant 4 (pos (2 ^ 63))) ≡ false) ×
    (kind_kept? (constant 4 (negsuc (2 ^ 63))) ≡ false) ×
    (kind_kept? (constant 5 (pos 0)) ≡ false) ×
    (kind_kept? (constant 7 (pos 0)) ≡ false) ×
    (keeps? (pair_of (a ∷ []) (base 1 1 (field (constant 0 (pos 5)) 1 ∷ []) ∷ []) (([] ∷ []) ∷ []) ∷ []) ≡ false) ×
    (keeps? (pair_of (a ∷ []) (base 1 1 (field (constant 0 (pos 5)) 1 ∷ []) ∷ []) (((whole (pos 5) ∷ []) ∷ []) ∷ []) ∷ []) ≡ false) ×
    (value? nothing (constant 0 (pos 5)) [] ≡ true) ×
    (value? nothing (constant 0 (pos 5)) (whole (pos 5) ∷ []) ≡ false)
unfolding all
constants-kept = (refl, refl, refl, refl, refl, refl, refl, refl, refl, refl, refl, refl, refl, refl, refl, refl, refl, refl, refl, refl)

-- a state with objects past 64 bits: a number of a file has 64
abbrev crowd : State
crowd =
    record {
      strings = [];
      type_names = a ∷ [];
      types = record { super = none; base = 0 } ∷ [];
      field_names = [];
      fields = [];
      log = record { type = 0; block = 0; start = 0; first = 0; count = 2 ^ 64 } ∷ [];
      block = 0;
    }

-- an element is of its kind's sort, and of its width
elements-kept :
    (element? nothing 6 (flag true) ≡ true) ×
    (element? nothing 6 (flag false) ≡ true) ×
    (element? nothing 7 (flag true) ≡ false) ×
    (element? nothing 5 (flag true) ≡ false) ×
    (element? nothing 14 (flag true) ≡ false) ×
    (element? nothing 6 (whole (pos 0)) ≡ false) ×
    (element? nothing 12 (whole (pos 0)) ≡ false) ×
    (element? nothing 14 (whole (pos 0)) ≡ false) ×
    (element? nothing 32 (whole (pos 0)) ≡ false) ×
    (element? nothing 12 (float 4 (2 ^ 32 - 1)) ≡ true) ×
    (element? nothing 12 (float 4 (2 ^ 32)) ≡ false) ×
    (element? nothing 12 (float 8 0) ≡ false) ×
    (element? nothing 13 (float 8 (2 ^ 64 - 1)) ≡ true) ×
    (element? nothing 13 (float 8 (2 ^ 64)) ≡ false) ×
    (element? nothing 13 (float 4 0) ≡ false) ×
    (element? nothing 11 (float 0 0) ≡ false) ×
    (element? nothing 14 (float 12 0) ≡ false) ×
    (element? nothing 14 (link 0) ≡ true) ×
    (element? nothing 13 (link 0) ≡ false) ×
    (element? nothing 11 (link 0) ≡ false) ×
    (element? nothing 6 (link 0) ≡ false) ×
    (element? nothing 32 (link 0) ≡ true) ×
    (element? nothing 32 (link 1) ≡ false) ×
    (element? crowd 32 (link (2 ^ 64 - 1)) ≡ true) ×
    (element? crowd 32 (link (2 ^ 64)) ≡ false)
unfolding all
elements-kept = (refl, refl, refl, refl, refl, refl, refl, refl, refl, refl, refl, refl, refl, refl, refl, refl, refl, refl, refl, refl, refl, refl, refl, refl, refl)

-- how many elements a value has, and each of them held to the rules
values-kept :
    (value? nothing (plain 6) [] ≡ false) ×
    (value? nothing (plain 6) (flag true ∷ []) ≡ true) ×
    (value? nothing (plain 6) (flag true ∷ flag true ∷ []) ≡ false) ×
    (value? nothing (plain 7) (flag true ∷ []) ≡ false) ×
    (value? nothing (array 2 6) (flag true ∷ []) ≡ false) ×
    (value? nothing (array 2 6) (flag true ∷ flag false ∷ []) ≡ true) ×
    (value? nothing (array 2 6) (flag true ∷ flag false ∷ flag true ∷ []) ≡ false) ×
    (value? nothing (array 2 6) (flag true ∷ whole (pos 0) ∷ []) ≡ false) ×
    (value? nothing (array 2 6) (whole (pos 0) ∷ flag true ∷ []) ≡ false) ×
    (value? nothing (array 0 6) [] ≡ true) ×
    (value? nothing (many 17 6) [] ≡ true) ×
    (value? nothing (many 17 6) (flag true ∷ flag false ∷ []) ≡ true) ×
    (value? nothing (many 17 6) (flag true ∷ whole (pos 0) ∷ []) ≡ false) ×
    (value? nothing (many 17 6) (whole (pos 0) ∷ flag true ∷ []) ≡ false) ×
    (value? nothing (many 17 6) (replicate 65535 (flag true)) ≡ true) ×
    (value? nothing (many 17 6) (replicate 65536 (flag true)) ≡ false)
unfolding all
values-kept = (refl, refl, refl, refl, refl, refl, refl, refl, refl, refl, refl, refl, refl, refl, refl, refl)

kinds_kept :
    (kind_kept? (plain 4) ≡ false) ×
    (kind_kept? (plain 5) ≡ true) ×
    (kind_kept? (plain 6) ≡ true) ×
    (kind_kept? (plain 14) ≡ true) ×
    (kind_kept? (plain 15) ≡ false) ×
    (kind_kept? (plain 16) ≡ false) ×
    (kind_kept? (plain 17) ≡ false) ×
    (kind_kept? (plain 31) ≡ false) ×
    (kind_kept? (plain 32) ≡ true) ×
    (kind_kept? (plain (2 ^ 64 - 1)) ≡ true) ×
    (kind_kept? (plain (2 ^ 64)) ≡ false) ×
    (kind_kept? (array 0 6) ≡ true) ×
    (kind_kept? (array 65535 32) ≡ true) ×
    (kind_kept? (array 65536 32) ≡ false) ×
    (kind_kept? (array 1 4) ≡ false) ×
    (kind_kept? (array 1 5) ≡ true) ×
    (kind_kept? (array 1 15) ≡ false) ×
    (kind_kept? (array 1 (2 ^ 64)) ≡ false) ×
    (kind_kept? (many 16 6) ≡ false) ×
    (kind_kept? (many 17 6) ≡ true) ×
    (kind_kept? (many 18 14) ≡ true) ×
    (kind_kept? (many 19 32) ≡ true) ×
    (kind_kept? (many 20 6) ≡ false) ×
    (kind_kept? (many 15 6) ≡ false) ×
    (kind_kept? (many 17 5) ≡ true) ×
    (kind_kept? (many 17 16) ≡ false) ×
    (kind_kept? (many 17 17) ≡ false) ×
    (kind_kept? (many 17 (2 ^ 64)) ≡ false)
unfolding all
kinds_kept = (refl, refl, refl, refl, refl, refl, refl, refl, refl, refl, refl, refl, refl, refl, refl, refl, refl, refl, refl, refl, refl, refl, refl, refl, refl, refl, refl, refl)

-- ── at the bounds of strings and fields: a pair or an entry behind all but one of them ──

-- a type 5 with so many fields
abbrev fielded : ℕ → State
fielded n =
    record {
      strings = a ∷ b ∷ [];
      type_names = [];
      types = [];
      field_names = replicate n [];
      fields = replicate n (record { owner = 5; kind = plain 7 });
      log = [];
      block = 0;
    }

bounds-kept :
    (pair? (with_strings nothing (replicate 1023 [])) (pair_of ([] ∷ []) [] []) ≡ true) ×
    (pair? (with_strings nothing (replicate 1024 [])) (pair_of [] [] []) ≡ true) ×
    (pair? (with_strings nothing (replicate 1024 [])) (pair_of ([] ∷ []) [] []) ≡ false) ×
    (entry? (fielded 127) (base 1 0 (field (plain 7) 1 ∷ [])) ≡ true) ×
    (entry? (fielded 126) (base 1 0 (field (plain 7) 1 ∷ field (plain 7) 2 ∷ [])) ≡ true) ×
    (entry? (fielded 127) (base 1 0 (field (plain 7) 1 ∷ field (plain 7) 2 ∷ [])) ≡ false) ×
    (entry? (fielded 128) (base 1 0 []) ≡ true) ×
    (entry? (fielded 128) (base 1 0 (field (plain 7) 1 ∷ [])) ≡ false) ×
    (entry? (fielded 0) (base 1 0 (field (plain 7) 1 ∷ field (plain 7) 1 ∷ [])) ≡ false)
unfolding all
bounds-kept = (refl, refl, refl, refl, refl, refl, refl, refl, refl)

-- ── what these rules are said with ──

words-kept :
    (every [] ≡ true) ×
    (every (true ∷ true ∷ []) ≡ true) ×
    (every (true ∷ false ∷ []) ≡ false) ×
    (every (false ∷ true ∷ []) ≡ false) ×
    (hold? [] ≡ true) ×
    (hold? ((true or_no 3) ∷ (true or_no 5) ∷ []) ≡ true) ×
    (hold? ((true or_no 3) ∷ (false or_no 5) ∷ []) ≡ false) ×
    (hold? ((false or_no 3) ∷ (true or_no 5) ∷ []) ≡ false) ×
    (number? (λ n. []) (2 ^ 64 - 1) ≡ true) ×
    (number? (λ n. []) (2 ^ 64) ≡ false) ×
    (number? small_rules 65535 ≡ true) ×
    (number? small_rules 65536 ≡ false) ×
    (only? true small_rules none ≡ false) ×
    (only? true small_rules (some 65535) ≡ true) ×
    (only? true small_rules (some 65536) ≡ false) ×
    (only? false small_rules none ≡ true) ×
    (only? false small_rules (some 0) ≡ false) ×
    (bytes? [] ≡ true) ×
    (bytes? (255 ∷ 255 ∷ []) ≡ true) ×
    (bytes? (255 ∷ 256 ∷ []) ≡ false) ×
    (bytes? (256 ∷ 255 ∷ []) ≡ false)
unfolding all
words-kept = (refl, refl, refl, refl, refl, refl, refl, refl, refl, refl, refl, refl, refl, refl, refl, refl, refl, refl, refl, refl, refl)

-- ── bytes ──

-- D and E as ledgers
abbrev of_d : Pair
of_d = pair_of ((100 ∷ 97 ∷ 116 ∷ 101 ∷ []) ∷ []) (base 1 2 (field (plain 11) 1 ∷ []) ∷ []) (((whole (pos 1) ∷ []) ∷ (whole (negsuc 0) ∷ []) ∷ []) ∷ [])

abbrev of_e : Pair
of_e = pair_of [] (more 1 1 [] ∷ []) (((whole (pos 256) ∷ []) ∷ []) ∷ [])

papers-written :
    (encode [] ≡ []) ×
    (encode (of_d ∷ []) ≡ D) ×
    (encode (of_d ∷ of_e ∷ []) ≡ E) ×
    (file E ≡ got (of_d ∷ of_e ∷ []) 37) ×
    (keeps? (of_d ∷ of_e ∷ []) ≡ true) ×
    (keeps? (of_e ∷ []) ≡ false)
unfolding all E-with E
papers-written = (refl, refl, refl, refl, refl, refl)

pieces-written :
    (ends_from 3 [] ≡ []) ×
    (ends_from 3 ((7 ∷ 7 ∷ []) ∷ [] ∷ (7 ∷ []) ∷ []) ≡ 5 ∷ 5 ∷ 6 ∷ []) ×
    (write (string_pieces []) ≡ 0x00 ∷ []) ×
    (write (string_pieces (a ∷ [] ∷ (98 ∷ 99 ∷ []) ∷ [])) ≡ 0x03 ∷ 0x00 ∷ 0x00 ∷ 0x00 ∷ 0x01 ∷ 0x00 ∷ 0x00 ∷ 0x00 ∷ 0x01 ∷ 0x00 ∷ 0x00 ∷ 0x00 ∷ 0x03 ∷ 97 ∷ 98 ∷ 99 ∷ []) ×
    (write (option_pieces none) ≡ []) ×
    (write (option_pieces (some 300)) ≡ 0xAC ∷ 0x02 ∷ []) ×
    (write (head_pieces (record { name = 1; super = some 0; start = none; count = 3 })) ≡ 0x01 ∷ 0x00 ∷ 0x03 ∷ 0x00 ∷ []) ×
    (write (head_pieces (record { name = 1; super = some 4; start = some 5; count = 3 })) ≡ 0x01 ∷ 0x04 ∷ 0x05 ∷ 0x03 ∷ 0x00 ∷ []) ×
    (write (head_pieces (record { name = 1; super = none; start = some 5; count = 3 })) ≡ 0x01 ∷ 0x05 ∷ 0x03 ∷ []) ×
    (write (head_pieces (record { name = 1; super = none; start = none; count = 3 })) ≡ 0x01 ∷ 0x03 ∷ []) ×
    (write (whole_pieces 0 (negsuc 0)) ≡ 0xFF ∷ []) ×
    (write (whole_pieces 1 (negsuc 255)) ≡ 0xFF ∷ 0x00 ∷ []) ×
    (write (whole_pieces 2 (pos 0x01020304)) ≡ 0x01 ∷ 0x02 ∷ 0x03 ∷ 0x04 ∷ []) ×
    (write (whole_pieces 3 (pos 0x0102030405060708)) ≡ 0x01 ∷ 0x02 ∷ 0x03 ∷ 0x04 ∷ 0x05 ∷ 0x06 ∷ 0x07 ∷ 0x08 ∷ []) ×
    (write (whole_pieces 4 (pos 300)) ≡ 0xAC ∷ 0x02 ∷ []) ×
    (write (whole_pieces 4 (negsuc 0)) ≡ replicate 9 0xFF) ×
    (write (kind_pieces (constant 1 (pos 2))) ≡ 0x01 ∷ 0x00 ∷ 0x02 ∷ []) ×
    (write (kind_pieces (constant 4 (pos 2))) ≡ 0x04 ∷ 0x02 ∷ []) ×
    (write (kind_pieces (plain 300)) ≡ 0xAC ∷ 0x02 ∷ []) ×
    (write (kind_pieces (array 300 7)) ≡ 0x0F ∷ 0xAC ∷ 0x02 ∷ 0x07 ∷ []) ×
    (write (kind_pieces (many 18 300)) ≡ 0x12 ∷ 0xAC ∷ 0x02 ∷ []) ×
    (write (new_pieces (field (plain 7) 3, 300)) ≡ 0x00 ∷ 0x07 ∷ 0x03 ∷ 0xAC ∷ 0x02 ∷ [])
unfolding all
pieces-written = (refl, refl, refl, refl, refl, refl, refl, refl, refl, refl, refl, refl, refl, refl, refl, refl, refl, refl, refl, refl, refl, refl)

values-written :
    (write (field_pieces 0 [] []) ≡ 0x00 ∷ []) ×
    (write (field_pieces 2 (field (plain 7) 3 ∷ []) (4 ∷ 5 ∷ 6 ∷ [])) ≡ 0x03 ∷ 0x04 ∷ 0x05 ∷ 0x00 ∷ 0x07 ∷ 0x03 ∷ 0x06 ∷ []) ×
    (zip {A = ℕ} {B = ℕ} [] (1 ∷ []) ≡ []) ×
    (zip {A = ℕ} {B = ℕ} (1 ∷ []) [] ≡ []) ×
    (zip {A = ℕ} {B = ℕ} (1 ∷ 2 ∷ []) (3 ∷ 4 ∷ 5 ∷ []) ≡ (1, 3) ∷ (2, 4) ∷ []) ×
    (write (element_pieces 6 (flag true)) ≡ 0xFF ∷ []) ×
    (write (element_pieces 6 (flag false)) ≡ 0x00 ∷ []) ×
    (write (element_pieces 7 (whole (negsuc 1))) ≡ 0xFE ∷ []) ×
    (write (element_pieces 8 (whole (negsuc 1))) ≡ 0xFF ∷ 0xFE ∷ []) ×
    (write (element_pieces 11 (whole (pos 128))) ≡ 0x80 ∷ 0x01 ∷ []) ×
    (write (element_pieces 12 (float 4 0xFF800001)) ≡ 0xFF ∷ 0x80 ∷ 0x00 ∷ 0x01 ∷ []) ×
    (write (element_pieces 13 (float 8 1)) ≡ replicate 7 0x00 ++ 0x01 ∷ []) ×
    (write (element_pieces 14 (link 300)) ≡ 0xAC ∷ 0x02 ∷ []) ×
    (write (value_pieces (constant 0 (pos 5)) []) ≡ []) ×
    (write (value_pieces (constant 0 (pos 5)) (whole (pos 5) ∷ [])) ≡ []) ×
    (write (value_pieces (plain 8) (whole (pos 5) ∷ [])) ≡ 0x00 ∷ 0x05 ∷ []) ×
    (write (value_pieces (array 2 8) (whole (pos 5) ∷ whole (pos 6) ∷ [])) ≡ 0x00 ∷ 0x05 ∷ 0x00 ∷ 0x06 ∷ []) ×
    (write (value_pieces (many 17 8) (whole (pos 5) ∷ whole (pos 6) ∷ [])) ≡ 0x02 ∷ 0x00 ∷ 0x05 ∷ 0x00 ∷ 0x06 ∷ []) ×
    (write (value_pieces (many 17 8) []) ≡ 0x00 ∷ []) ×
    (put_chunks (fielded 1) [] ((i8 5 ∷ []) ∷ []) ≡ []) ×
    (put_chunks (fielded 1) (record { field = 0; values = 1 } ∷ []) [] ≡ []) ×
    (put_chunks (fielded 1) (record { field = 0; values = 1 } ∷ []) ((i8 5 ∷ i8 6 ∷ []) ∷ []) ≡ (0x05 ∷ 0x06 ∷ []) ∷ [])
unfolding all
values-written = (refl, refl, refl, refl, refl, refl, refl, refl, refl, refl, refl, refl, refl, refl, refl, refl, refl, refl, refl, refl, refl, refl)

-- the same type twice in a block, which no file can say: what is known goes on from entry to entry
abbrev twice : Ledger
twice = pair_of (a ∷ b ∷ []) (base 1 1 (field (plain 7) 1 ∷ []) ∷ more 1 1 (field (plain 7) 2 ∷ []) ∷ []) ((i8 5 ∷ []) ∷ (i8 6 ∷ []) ∷ (i8 7 ∷ i8 8 ∷ []) ∷ []) ∷ []

twice-said :
    (keeps? twice ≡ false) ×
    (encode twice ≡ write (string_pieces (a ∷ b ∷ [])) ++ 0x02 ∷ 0x01 ∷ 0x00 ∷ 0x01 ∷ 0x00 ∷ 0x01 ∷ 0x00 ∷ 0x07 ∷ 0x01 ∷ 0x01 ∷ 0x01 ∷ 0x01 ∷ 0x02 ∷ 0x02 ∷ 0x00 ∷ 0x07 ∷ 0x02 ∷ 0x04 ∷ 0x05 ∷ 0x06 ∷ 0x07 ∷ 0x08 ∷ []) ×
    (print twice ≡ ascii "pair\t2\t2\nstr\t61\nstr\t62\ntype\t1\t0\t-\t1\t1\nnew\t7\t1\ntype\t1\t-\t-\t1\t2\nold\nnew\t7\t2\nval\t5\nval\t6\nval\t7\nval\t8\n")
unfolding all
twice-said = (refl, refl, refl)

-- ── where the chunks stand ──

abbrev spot : ℕ → ℕ → ℕ → Spot
spot i m n = record { field = i; start = m; end = n }

-- two types; a constant and an i16 of the first, a reference of the second; then the first again, by a later equal string, with a late field
abbrev several : List ℕ
several =
    0x02 ∷ 0x00 ∷ 0x00 ∷ 0x00 ∷ 0x01 ∷ 0x00 ∷ 0x00 ∷ 0x00 ∷ 0x02 ∷ 0x61 ∷ 0x62 ∷ 0x02 ∷
    0x01 ∷ 0x00 ∷ 0x02 ∷ 0x00 ∷ 0x02 ∷ 0x00 ∷ 0x00 ∷ 0x05 ∷ 0x01 ∷ 0x00 ∷ 0x00 ∷ 0x08 ∷ 0x02 ∷ 0x04 ∷
    0x02 ∷ 0x00 ∷ 0x01 ∷ 0x00 ∷ 0x01 ∷ 0x00 ∷ 0x21 ∷ 0x01 ∷ 0x05 ∷
    0x00 ∷ 0x01 ∷ 0x00 ∷ 0x02 ∷ 0x01 ∷
    0x02 ∷ 0x00 ∷ 0x00 ∷ 0x00 ∷ 0x01 ∷ 0x00 ∷ 0x00 ∷ 0x00 ∷ 0x02 ∷ 0x61 ∷ 0x63 ∷ 0x01 ∷ 0x03 ∷ 0x01 ∷ 0x03 ∷ 0x00 ∷ 0x02 ∷ 0x00 ∷ 0x07 ∷ 0x04 ∷ 0x05 ∷
    0x00 ∷ 0x03 ∷ 0x0A ∷ 0x0B ∷ 0x0C ∷
    []

places :
    (spots [] ≡ []) ×
    (spots D ≡ spot 0 19 29 ∷ []) ×
    (spots E ≡ spot 0 19 29 ∷ spot 0 35 37 ∷ []) ×
    (check 16384 several ≡ done 0) ×
    (spots several ≡ spot 0 35 35 ∷ spot 1 35 39 ∷ spot 2 39 40 ∷ spot 0 61 61 ∷ spot 1 61 63 ∷ spot 3 63 66 ∷ []) ×
    (spots (replicate 62 0x00 ++ D) ≡ spot 0 81 91 ∷ []) ×
    (spots (replicate 64 0x00 ++ D) ≡ []) ×
    (spots (D ++ 0x80 ∷ 0x00 ∷ []) ≡ spot 0 19 29 ∷ []) ×
    (spots (0x80 ∷ 0x00 ∷ D) ≡ []) ×
    (spots_from 7 [] ≡ []) ×
    (spots_from 7 ((record { field = 4; values = 1 }, 2) ∷ (record { field = 5; values = 1 }, 3) ∷ []) ≡ spot 4 7 9 ∷ spot 5 9 12 ∷ [])
unfolding all E-with E spots_from spots_of spots pair_spots
places = (refl, refl, refl, refl, refl, refl, refl, refl, refl, refl, refl)

insides :
    (inside? 0 18 (spots E) ≡ false) ×
    (inside? 0 19 (spots E) ≡ true) ×
    (inside? 0 28 (spots E) ≡ true) ×
    (inside? 0 29 (spots E) ≡ false) ×
    (inside? 0 34 (spots E) ≡ false) ×
    (inside? 0 35 (spots E) ≡ true) ×
    (inside? 0 36 (spots E) ≡ true) ×
    (inside? 0 37 (spots E) ≡ false) ×
    (inside? 1 19 (spots E) ≡ false) ×
    (inside? 0 35 (spots several) ≡ false) ×
    (inside? 1 35 (spots several) ≡ true) ×
    (inside? 2 38 (spots several) ≡ false) ×
    (inside? 2 39 (spots several) ≡ true) ×
    (inside? 1 62 (spots several) ≡ true) ×
    (inside? 1 63 (spots several) ≡ false) ×
    (inside? 3 63 (spots several) ≡ true) ×
    (inside? 3 65 (spots several) ≡ true) ×
    (inside? 3 66 (spots several) ≡ false)
unfolding all E-with E spots_from spots_of spots pair_spots inside?
insides = (refl, refl, refl, refl, refl, refl, refl, refl, refl, refl, refl, refl, refl, refl, refl, refl, refl, refl)

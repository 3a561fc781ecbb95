-- Maps and annotations one by one: their kinds, their elements as values, the lines of a listing and the bytes of a file. The answers
-- are the paper's, worked out by hand. Assumes nothing.
use Rattle.std.specs.Prelude.{◌≡◌, refl, true, false, List, [], ◌∷◌, ◌++◌, ℕ, ◌+◌, ◌-◌, ◌^◌, pos, negsuc, replicate}
use Rattle.std.proofs.Math.Option.{none, some}
use Rattle.paper.specs.Reader.{got, no}
use Rattle.paper.specs.Ledger.{plain, array, many, mapping, Element, flag, whole, link, annotation, keys, State, nothing}
use Rattle.paper.specs.Rules.{element_kind?, single_kind?, noted, kind_stands?, annotation?}
use Rattle.paper.specs.Maps.{keys_due, opened}
use Rattle.paper.specs.Pieces.{kind_pieces, value_pieces}
use Rattle.paper.specs.Encode.{write}
use Rattle.paper.specs.Keeps.{kind_kept?, element?, value?}
use Rattle.paper.specs.Listing.{ascii, kind_word, element_word, value_line}
use Rattle.paper.specs.Scan.{read_kind, read_element, read_line}
use Rattle.paper.specs.File.{element, value}
use Rattle.paper.specs.Calls.{asked}
use Rattle.paper.specs.Whole.{whole as all}

-- two strings; type 0 is named by the first and has two objects, type 1 below it is named by the second and has one of them
abbrev s : State
s =
    record {
      strings = (0x61 ∷ []) ∷ (0x62 ∷ []) ∷ (0x61 ∷ []) ∷ [];
      type_names = (0x61 ∷ []) ∷ (0x62 ∷ []) ∷ [];
      types = record { super = none; base = 0 } ∷ record { super = some 0; base = 0 } ∷ [];
      field_names = [];
      fields = [];
      log = record { type = 0; block = 0; start = 0; first = 0; count = 2 } ∷ record { type = 1; block = 0; start = 1; first = 1; count = 1 } ∷ [];
      block = 0;
    }

-- ── kinds ──

kinds-of-maps :
    (element_kind? 4 ≡ false) ×
    (element_kind? 5 ≡ true) ×
    (element_kind? 15 ≡ false) ×
    (element_kind? 20 ≡ false) ×
    (single_kind? 5 ≡ false) ×
    (kind_kept? (mapping []) ≡ false) ×
    (kind_kept? (mapping (14 ∷ [])) ≡ false) ×
    (kind_kept? (mapping (14 ∷ 11 ∷ [])) ≡ true) ×
    (kind_kept? (mapping (5 ∷ 32 ∷ 6 ∷ [])) ≡ true) ×
    (kind_kept? (mapping (replicate 8 7)) ≡ true) ×
    (kind_kept? (mapping (replicate 9 7)) ≡ false) ×
    (kind_kept? (mapping (14 ∷ 20 ∷ [])) ≡ false) ×
    (kind_kept? (mapping (17 ∷ 14 ∷ [])) ≡ false) ×
    (kind_kept? (mapping (14 ∷ 2 ^ 64 ∷ [])) ≡ false) ×
    (kind_stands? s (mapping (32 ∷ 33 ∷ [])) ≡ true) ×
    (kind_stands? s (mapping (32 ∷ 34 ∷ [])) ≡ false) ×
    (noted (mapping (254 ∷ 255 ∷ 256 ∷ [])) ≡ mapping (254 ∷ 255 ∷ 255 ∷ [])) ×
    (asked (plain 5) ≡ 33) ×
    (asked (mapping (14 ∷ 11 ∷ [])) ≡ 33) ×
    (write (kind_pieces (mapping (14 ∷ 11 ∷ 7 ∷ []))) ≡ 0x14 ∷ 0x03 ∷ 0x0E ∷ 0x0B ∷ 0x07 ∷ []) ×
    (kind_word (mapping (14 ∷ 11 ∷ 7 ∷ [])) ≡ ascii "20,3,14,11,7") ×
    (read_kind (ascii "20,3,14,11,7\t") 0 ≡ got (mapping (14 ∷ 11 ∷ 7 ∷ [])) 12) ×
    (read_kind (ascii "20,2,14\t") 0 ≡ no 20 0) ×
    (read_kind (ascii "20,1,14\t") 0 ≡ got (mapping (14 ∷ [])) 7) ×
    (read_kind (ascii "20,3;14,11,7") 0 ≡ no 20 0)
unfolding all
kinds-of-maps = (refl, refl, refl, refl, refl, refl, refl, refl, refl, refl, refl, refl, refl, refl, refl, refl, refl, refl, refl, refl, refl, refl, refl, refl, refl)

-- ── annotations ──

annotations-kept :
    (annotation? s 0 0 ≡ true) ×
    (annotation? s 0 1 ≡ false) ×
    (annotation? s 1 0 ≡ false) ×
    (annotation? s 1 1 ≡ true) ×
    (annotation? s 1 2 ≡ true) ×
    (annotation? s 1 3 ≡ false) ×
    (annotation? s 2 2 ≡ false) ×
    (annotation? s 3 2 ≡ true) ×
    (annotation? s 4 1 ≡ false) ×
    (element? s 5 (annotation 1 2) ≡ true) ×
    (element? s 14 (annotation 1 2) ≡ false) ×
    (element? s 5 (link 1) ≡ false) ×
    (element? s 5 (whole (pos 1)) ≡ false) ×
    (element? s 5 (keys 1) ≡ false) ×
    (value? s (many 17 5) (annotation 1 1 ∷ annotation 0 0 ∷ []) ≡ true) ×
    (value? s (array 1 5) (annotation 1 1 ∷ annotation 0 0 ∷ []) ≡ false) ×
    (element_word (annotation 300 0) ≡ ascii "300\t0") ×
    (element s 5 (0x01 ∷ 0x02 ∷ []) 0 ≡ got (annotation 1 2) 2) ×
    (element s 5 (0x07 ∷ 0x01 ∷ 0x03 ∷ []) 1 ≡ no 14 1) ×
    (element s 5 (0x07 ∷ 0x09 ∷ []) 1 ≡ no 1 2) ×
    (read_element 5 (ascii "1\t2\n") 0 ≡ got (annotation 1 2) 3) ×
    (read_element 5 (ascii "1\n") 0 ≡ no 20 0) ×
    (write (value_pieces (many 18 5) (annotation 1 2 ∷ [])) ≡ 0x01 ∷ 0x01 ∷ 0x02 ∷ [])
unfolding all
annotations-kept = (refl, refl, refl, refl, refl, refl, refl, refl, refl, refl, refl, refl, refl, refl, refl, refl, refl, refl, refl, refl, refl, refl, refl)

-- ── maps ──

-- one key leads to a map of two, another to one of none
abbrev two : List Element
two = keys 2 ∷ link 1 ∷ keys 2 ∷ whole (pos 5) ∷ flag true ∷ whole (negsuc 0) ∷ flag false ∷ link 2 ∷ keys 0 ∷ []

maps-kept :
    (keys_due 7 (8 ∷ []) 2 ≡ (7 ∷ []) ∷ (8 ∷ []) ∷ (7 ∷ []) ∷ (8 ∷ []) ∷ []) ×
    (opened (7 ∷ []) (keys 2) ≡ []) ×
    (opened (7 ∷ 8 ∷ 9 ∷ []) (keys 1) ≡ (7 ∷ []) ∷ (8 ∷ 9 ∷ []) ∷ []) ×
    (value? s (mapping (14 ∷ 11 ∷ 6 ∷ [])) two ≡ true) ×
    (value? s (mapping (14 ∷ 11 ∷ [])) two ≡ false) ×
    (value? s (mapping (14 ∷ 11 ∷ 6 ∷ [])) [] ≡ false) ×
    (value? s (mapping (14 ∷ 11 ∷ [])) (keys 0 ∷ []) ≡ true) ×
    (value? s (mapping (14 ∷ 11 ∷ [])) (keys 0 ∷ link 1 ∷ []) ≡ false) ×
    (value? s (mapping (14 ∷ 11 ∷ [])) (keys 1 ∷ link 1 ∷ []) ≡ false) ×
    (value? s (mapping (14 ∷ 11 ∷ [])) (keys 1 ∷ whole (pos 1) ∷ link 1 ∷ []) ≡ false) ×
    (value? s (mapping (14 ∷ 14 ∷ [])) (keys 2 ∷ link 1 ∷ link 2 ∷ link 1 ∷ link 2 ∷ []) ≡ true) ×
    (value? s (mapping (14 ∷ 14 ∷ [])) (keys 65536 ∷ []) ≡ false) ×
    (value? s (mapping (14 ∷ 14 ∷ [])) (link 0 ∷ []) ≡ false) ×
    (value? s (mapping (5 ∷ 33 ∷ [])) (keys 1 ∷ annotation 1 2 ∷ link 2 ∷ []) ≡ true) ×
    (value? s (mapping (5 ∷ 33 ∷ [])) (keys 1 ∷ annotation 1 2 ∷ link 1 ∷ []) ≡ false) ×
    (value_line two ≡ ascii "val\t2\t1\t2\t5\t1\t-1\t0\t2\t0\n") ×
    (read_line (mapping (14 ∷ 11 ∷ 6 ∷ [])) (ascii "val\t2\t1\t2\t5\t1\t-1\t0\t2\t0\n") 0 ≡ got two 23) ×
    (read_line (mapping (14 ∷ 11 ∷ [])) (ascii "val\t0\n") 0 ≡ got (keys 0 ∷ []) 6) ×
    (read_line (mapping (14 ∷ 11 ∷ [])) (ascii "val\t1\t1\n") 0 ≡ no 20 0) ×
    (read_line (mapping (14 ∷ 11 ∷ [])) (ascii "val\n") 0 ≡ no 20 0) ×
    (write (value_pieces (mapping (14 ∷ 11 ∷ 6 ∷ [])) two) ≡ 0x02 ∷ 0x01 ∷ 0x02 ∷ 0x05 ∷ 0xFF ∷ 0xFF ∷ 0xFF ∷ 0xFF ∷ 0xFF ∷ 0xFF ∷ 0xFF ∷ 0xFF ∷ 0xFF ∷ 0xFF ∷ 0x00 ∷ 0x02 ∷ 0x00 ∷ []) ×
    (value s (mapping (14 ∷ 11 ∷ 6 ∷ [])) (0x02 ∷ 0x01 ∷ 0x02 ∷ 0x05 ∷ 0xFF ∷ 0xFF ∷ 0xFF ∷ 0xFF ∷ 0xFF ∷ 0xFF ∷ 0xFF ∷ 0xFF ∷ 0xFF ∷ 0xFF ∷ 0x00 ∷ 0x02 ∷ 0x00 ∷ []) 0 ≡ got two 17) ×
    (value s (mapping (14 ∷ 14 ∷ [])) (0x01 ∷ 0x01 ∷ 0x04 ∷ []) 0 ≡ no 14 2) ×
    (value s (mapping (14 ∷ 14 ∷ [])) (0x80 ∷ 0x80 ∷ 0x04 ∷ []) 0 ≡ no 3 0) ×
    (value s (mapping (14 ∷ 14 ∷ 14 ∷ [])) (0x01 ∷ 0x01 ∷ 0x80 ∷ 0x80 ∷ 0x04 ∷ []) 0 ≡ no 3 2)
unfolding all
maps-kept = (refl, refl, refl, refl, refl, refl, refl, refl, refl, refl, refl, refl, refl, refl, refl, refl, refl, refl, refl, refl, refl, refl, refl, refl, refl)

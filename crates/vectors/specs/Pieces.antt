-- Pieces of the calls, one by one and at their edges: words and lines as they are printed and as they are read, and a column's values.
-- The answers are the paper's, worked out by hand. Assumes nothing.
use Rattle.std.specs.Prelude.{◌≡◌, refl, Bool, true, false, List, [], ◌∷◌, ◌++◌, ℕ, zero, suc, ◌+◌, ◌-◌, ◌^◌, ℤ, pos, negsuc, replicate}
use Rattle.std.proofs.Math.Option.{Option, none, some}
use Rattle.paper.specs.Reader.{Out, got, no}
use Rattle.paper.specs.Ledger.{Kind, constant, plain, array, many, Element, flag, whole, float, link, New, Head, Entry, Chunk, Pair, Ledger, Field, State, nothing, Due}
use Rattle.paper.specs.Rules.{with_strings}
use Rattle.paper.specs.Listing.{ascii, glyph, decimal, decimalℤ, hex_digits, hex, joined, line, pair_line, string_line, or_dash, type_line, old_line, kind_word, new_line, element_word, value_line}
use Rattle.paper.specs.Scan.{bad, heed, byte_is, literal, ended, digit?, too_large?, digits_on, decimal_in, natural, negative, positive, integer, or_none, nibble, hex_on, hex_pairs, hex_bytes, read_pair, read_string, read_type, read_kind, read_new, read_flag, read_element, tabbed, read_value, pair_text, entry_text, short, file_of}
use Rattle.paper.specs.Calls.{Answer, done, refused, stored, stored_all, values_in, chunk_values, column_by, asked, cleared, over_front, left_in, how_many}
use Rattle.paper.specs.Whole.{whole as all}

-- ── words ──

decimals-printed :
    (decimal 0 ≡ ascii "0") ×
    (decimal 9 ≡ ascii "9") ×
    (decimal 10 ≡ ascii "10") ×
    (decimal 1024 ≡ ascii "1024") ×
    (decimal (2 ^ 64 - 1) ≡ ascii "18446744073709551615") ×
    (decimal (2 ^ 63) ≡ ascii "9223372036854775808") ×
    (decimalℤ (pos 0) ≡ ascii "0") ×
    (decimalℤ (pos 17) ≡ ascii "17") ×
    (decimalℤ (negsuc 0) ≡ ascii "-1") ×
    (decimalℤ (negsuc 9) ≡ ascii "-10") ×
    (decimalℤ (negsuc (2 ^ 63 - 1)) ≡ ascii "-9223372036854775808")
unfolding all
decimals-printed = (refl, refl, refl, refl, refl, refl, refl, refl, refl, refl, refl)

hexes-printed :
    (glyph 0 ≡ 48) ×
    (glyph 9 ≡ 57) ×
    (glyph 10 ≡ 97) ×
    (glyph 15 ≡ 102) ×
    (hex_digits 0 5 ≡ []) ×
    (hex_digits 4 0x9af ≡ ascii "09af") ×
    (hex [] ≡ []) ×
    (hex (0x00 ∷ 0x9A ∷ 0xF1 ∷ []) ≡ ascii "009af1") ×
    (joined [] ≡ []) ×
    (joined (ascii "1" ∷ []) ≡ ascii "1") ×
    (joined (ascii "1" ∷ ascii "23" ∷ ascii "4" ∷ []) ≡ ascii "1,23,4")
unfolding all
hexes-printed = (refl, refl, refl, refl, refl, refl, refl, refl, refl, refl, refl)

lines-printed :
    (line [] ≡ ascii "\n") ×
    (line (ascii "a" ∷ []) ≡ ascii "a\n") ×
    (line (ascii "a" ∷ [] ∷ ascii "b" ∷ []) ≡ ascii "a\t\tb\n") ×
    (pair_line 12 3 ≡ ascii "pair\t12\t3\n") ×
    (string_line [] ≡ ascii "str\t\n") ×
    (string_line (0x61 ∷ []) ≡ ascii "str\t61\n") ×
    (or_dash none ≡ ascii "-") ×
    (or_dash (some 0) ≡ ascii "0") ×
    (type_line (record { name = 1; super = some 2; start = some 3; count = 4 }) 5 ≡ ascii "type\t1\t2\t3\t4\t5\n") ×
    (type_line (record { name = 1; super = none; start = none; count = 4 }) 5 ≡ ascii "type\t1\t-\t-\t4\t5\n") ×
    (old_line ≡ ascii "old\n") ×
    (kind_word (constant 4 (negsuc 0)) ≡ ascii "4,-1") ×
    (kind_word (plain 32) ≡ ascii "32") ×
    (kind_word (array 3 8) ≡ ascii "15,3,8") ×
    (kind_word (many 19 14) ≡ ascii "19,14") ×
    (new_line (record { kind = array 3 8; name = 2 }) ≡ ascii "new\t15,3,8\t2\n") ×
    (element_word (flag true) ≡ ascii "1") ×
    (element_word (flag false) ≡ ascii "0") ×
    (element_word (whole (negsuc 4)) ≡ ascii "-5") ×
    (element_word (float 4 0x0A) ≡ ascii "0000000a") ×
    (element_word (float 8 0x0A) ≡ ascii "000000000000000a") ×
    (element_word (link 12) ≡ ascii "12") ×
    (value_line [] ≡ ascii "val\n") ×
    (value_line (link 1 ∷ link 2 ∷ []) ≡ ascii "val\t1\t2\n")
unfolding all
lines-printed = (refl, refl, refl, refl, refl, refl, refl, refl, refl, refl, refl, refl, refl, refl, refl, refl, refl, refl, refl, refl, refl, refl, refl, refl)

-- ── words read: at their ends, and at the end of the text ──

bytes_read :
    (bad {A = ℕ} (ascii "ab") 1 ≡ no 20 0) ×
    (heed true (ascii "ab") 1 ≡ got tt 1) ×
    (heed false (ascii "ab") 1 ≡ no 20 0) ×
    (byte_is 97 (ascii "ba") 1 ≡ got tt 2) ×
    (byte_is 98 (ascii "ba") 1 ≡ no 20 0) ×
    (byte_is 97 (ascii "bb") 1 ≡ no 20 0) ×
    (byte_is 10 [] 0 ≡ no 20 0) ×
    (byte_is 0 (ascii "a") 1 ≡ no 20 0) ×
    (literal [] (ascii "ab") 1 ≡ got tt 1) ×
    (literal (ascii "ab") (ascii "xab") 1 ≡ got tt 3) ×
    (literal (ascii "ab") (ascii "xaab") 1 ≡ no 20 0) ×
    (literal (ascii "ab") (ascii "xa") 1 ≡ no 20 0) ×
    (ended 44 natural (ascii "12,") 0 ≡ got 12 3) ×
    (ended 44 natural (ascii "12;") 0 ≡ no 20 0) ×
    (ended 44 natural (ascii "12") 0 ≡ no 20 0)
unfolding all
bytes_read = (refl, refl, refl, refl, refl, refl, refl, refl, refl, refl, refl, refl, refl, refl, refl)

numbers-read :
    (digit? 47 ≡ false) ×
    (digit? 48 ≡ true) ×
    (digit? 57 ≡ true) ×
    (digit? 58 ≡ false) ×
    (too_large? 1844674407370955161 5 ≡ false) ×
    (too_large? 1844674407370955161 6 ≡ true) ×
    (natural [] 0 ≡ no 20 0) ×
    (natural (ascii "12") 2 ≡ no 20 0) ×
    (natural (ascii "7") 0 ≡ got 7 1) ×
    (natural (ascii "x1024y") 1 ≡ got 1024 5) ×
    (natural (ascii "0") 0 ≡ got 0 1) ×
    (natural (ascii "012") 0 ≡ got 0 1) ×
    (natural (ascii "100") 0 ≡ got 100 3) ×
    (natural (ascii "1/") 0 ≡ got 1 1) ×
    (natural (ascii "1:") 0 ≡ got 1 1) ×
    (natural (ascii "/") 0 ≡ no 20 0) ×
    (natural (ascii ":") 0 ≡ no 20 0) ×
    (natural (ascii "-1") 0 ≡ no 20 0) ×
    (natural (ascii "18446744073709551615") 0 ≡ got (2 ^ 64 - 1) 20) ×
    (natural (ascii "18446744073709551616") 0 ≡ no 20 0) ×
    (natural (ascii "99999999999999999999") 0 ≡ no 20 0)
unfolding all
numbers-read = (refl, refl, refl, refl, refl, refl, refl, refl, refl, refl, refl, refl, refl, refl, refl, refl, refl, refl, refl, refl, refl)

integers-read :
    (integer (ascii "0") 0 ≡ got (pos 0) 1) ×
    (integer (ascii "x17") 1 ≡ got (pos 17) 3) ×
    (integer (ascii "x-17") 1 ≡ got (negsuc 16) 4) ×
    (integer (ascii "-1") 0 ≡ got (negsuc 0) 2) ×
    (integer (ascii "-0") 0 ≡ no 20 0) ×
    (integer (ascii "-") 0 ≡ no 20 0) ×
    (integer (ascii "--1") 0 ≡ no 20 0) ×
    (integer (ascii "+1") 0 ≡ no 20 0) ×
    (integer [] 0 ≡ no 20 0) ×
    (integer (ascii "9223372036854775807") 0 ≡ got (pos (2 ^ 63 - 1)) 19) ×
    (integer (ascii "9223372036854775808") 0 ≡ no 20 0) ×
    (integer (ascii "-9223372036854775808") 0 ≡ got (negsuc (2 ^ 63 - 1)) 20) ×
    (integer (ascii "-9223372036854775809") 0 ≡ no 20 0) ×
    (negative (no 20 7) ≡ no 20 0) ×
    (positive (no 20 7) ≡ no 20 0) ×
    (or_none (ascii "x-") 1 ≡ got none 2) ×
    (or_none (ascii "x12") 1 ≡ got (some 12) 3) ×
    (or_none (ascii "x") 0 ≡ no 20 0) ×
    (or_none [] 0 ≡ no 20 0)
unfolding all
integers-read = (refl, refl, refl, refl, refl, refl, refl, refl, refl, refl, refl, refl, refl, refl, refl, refl, refl, refl, refl)

hexes-read :
    (nibble 47 ≡ 16) ×
    (nibble 48 ≡ 0) ×
    (nibble 57 ≡ 9) ×
    (nibble 58 ≡ 16) ×
    (nibble 65 ≡ 16) ×
    (nibble 70 ≡ 16) ×
    (nibble 96 ≡ 16) ×
    (nibble 97 ≡ 10) ×
    (nibble 102 ≡ 15) ×
    (nibble 103 ≡ 16) ×
    (nibble 256 ≡ 16) ×
    (hex_on 0 7 [] 0 ≡ got 7 0) ×
    (hex_on 1 0 [] 0 ≡ no 20 0) ×
    (hex_on 3 0 (ascii "x9afb") 1 ≡ got 0x9AF 4) ×
    (hex_on 3 0 (ascii "x9ag") 1 ≡ no 20 0) ×
    (hex_on 2 1 (ascii "00") 0 ≡ got 256 2) ×
    (hex_bytes [] 0 ≡ got [] 0) ×
    (hex_bytes (ascii "x9") 1 ≡ got [] 1) ×
    (hex_bytes (ascii "x9af10") 1 ≡ got (0x9A ∷ 0xF1 ∷ []) 5) ×
    (hex_bytes (ascii "00ff\n") 0 ≡ got (0x00 ∷ 0xFF ∷ []) 4) ×
    (hex_bytes (ascii "00g0") 0 ≡ got (0x00 ∷ []) 2) ×
    (hex_bytes (ascii "000g") 0 ≡ got (0x00 ∷ []) 2)
unfolding all
hexes-read = (refl, refl, refl, refl, refl, refl, refl, refl, refl, refl, refl, refl, refl, refl, refl, refl, refl, refl, refl, refl, refl, refl)

-- ── lines read ──

lines-read :
    (read_pair (ascii "pair\t12\t3\n") 0 ≡ got (12, 3) 10) ×
    (read_string (ascii "str\t\n") 0 ≡ got [] 5) ×
    (read_string (ascii "str\t61fe\n") 0 ≡ got (0x61 ∷ 0xFE ∷ []) 9) ×
    (read_string (ascii "str\t616\n") 0 ≡ no 20 0) ×
    (read_type (ascii "type\t1\t2\t3\t4\t5\n") 0 ≡ got (record { name = 1; super = some 2; start = some 3; count = 4 }, 5) 15) ×
    (read_type (ascii "type\t1\t-\t-\t4\t5\n") 0 ≡ got (record { name = 1; super = none; start = none; count = 4 }, 5) 15) ×
    (read_kind (ascii "0,-5") 0 ≡ got (constant 0 (negsuc 4)) 4) ×
    (read_kind (ascii "4,5") 0 ≡ got (constant 4 (pos 5)) 3) ×
    (read_kind (ascii "5") 0 ≡ got (plain 5) 1) ×
    (read_kind (ascii "14") 0 ≡ got (plain 14) 2) ×
    (read_kind (ascii "15,3,8") 0 ≡ got (array 3 8) 6) ×
    (read_kind (ascii "16") 0 ≡ got (plain 16) 2) ×
    (read_kind (ascii "17,8") 0 ≡ got (many 17 8) 4) ×
    (read_kind (ascii "18,8") 0 ≡ got (many 18 8) 4) ×
    (read_kind (ascii "19,8") 0 ≡ got (many 19 8) 4) ×
    (read_kind (ascii "20") 0 ≡ no 20 0) ×
    (read_kind (ascii "21") 0 ≡ got (plain 21) 2) ×
    (read_kind (ascii "32") 0 ≡ got (plain 32) 2) ×
    (read_kind (ascii "4;5") 0 ≡ no 20 0) ×
    (read_kind (ascii "15;3,8") 0 ≡ no 20 0) ×
    (read_kind (ascii "15,3;8") 0 ≡ no 20 0) ×
    (read_kind (ascii "17;8") 0 ≡ no 20 0) ×
    (read_new (ascii "new\t15,3,8\t2\n") 0 ≡ got (record { kind = array 3 8; name = 2 }) 13)
unfolding all
lines-read = (refl, refl, refl, refl, refl, refl, refl, refl, refl, refl, refl, refl, refl, refl, refl, refl, refl, refl, refl, refl, refl, refl, refl)

values-read :
    (read_flag (ascii "x0") 1 ≡ got (flag false) 2) ×
    (read_flag (ascii "x1") 1 ≡ got (flag true) 2) ×
    (read_flag (ascii "x2") 1 ≡ no 20 0) ×
    (read_flag (ascii "x/") 1 ≡ no 20 0) ×
    (read_flag [] 0 ≡ no 20 0) ×
    (read_element 6 (ascii "1") 0 ≡ got (flag true) 1) ×
    (read_element 7 (ascii "-1") 0 ≡ got (whole (negsuc 0)) 2) ×
    (read_element 11 (ascii "-1") 0 ≡ got (whole (negsuc 0)) 2) ×
    (read_element 12 (ascii "0000000a0") 0 ≡ got (float 4 10) 8) ×
    (read_element 13 (ascii "00000000000000ff") 0 ≡ got (float 8 255) 16) ×
    (read_element 13 (ascii "000000000000000") 0 ≡ no 20 0) ×
    (read_element 14 (ascii "12") 0 ≡ got (link 12) 2) ×
    (read_element 14 (ascii "-1") 0 ≡ no 20 0) ×
    (read_element 32 (ascii "12") 0 ≡ got (link 12) 2) ×
    (tabbed 0 natural (ascii "\t1\t2") 0 ≡ got [] 0) ×
    (tabbed 1 natural (ascii "\t1\t2") 0 ≡ got (1 ∷ []) 2) ×
    (tabbed 3 natural (ascii "\t1\t2") 0 ≡ got (1 ∷ 2 ∷ []) 4) ×
    (tabbed 3 natural (ascii "x\t1\t2\n") 1 ≡ got (1 ∷ 2 ∷ []) 5) ×
    (tabbed 3 natural (ascii "\t1\t") 0 ≡ no 20 0) ×
    (tabbed 3 natural [] 0 ≡ got [] 0) ×
    (read_value 7 (ascii "val\n") 0 ≡ got [] 4) ×
    (read_value 7 (ascii "val\t1\t-2\n") 0 ≡ got (whole (pos 1) ∷ whole (negsuc 1) ∷ []) 9) ×
    (read_value 7 (ascii "val\t1 \n") 0 ≡ no 20 0)
unfolding all
values-read = (refl, refl, refl, refl, refl, refl, refl, refl, refl, refl, refl, refl, refl, refl, refl, refl, refl, refl, refl, refl, refl, refl, refl)

-- ── at the bounds of strings and fields: a pair or an entry behind all but one of them ──

abbrev fielded : ℕ → State
fielded n =
    record {
      strings = (97 ∷ []) ∷ [];
      type_names = [];
      types = [];
      field_names = replicate n [];
      fields = replicate n (record { owner = 5; kind = plain 7 });
      log = [];
      block = 0;
    }

bounds-read :
    (pair_text (with_strings nothing (replicate 1023 [])) (ascii "pair\t1\t0\nstr\t\n") 0 ≡ got (record { strings = [] ∷ []; entries = []; chunks = [] }) 14) ×
    (pair_text (with_strings nothing (replicate 1024 [])) (ascii "pair\t0\t0\n") 0 ≡ got (record { strings = []; entries = []; chunks = [] }) 9) ×
    (pair_text (with_strings nothing (replicate 1024 [])) (ascii "pair\t1\t0\nstr\t\n") 0 ≡ no 20 0) ×
    (entry_text (fielded 127) (ascii "type\t1\t0\t-\t0\t1\nnew\t7\t1\n") 0 ≡ got (record { head = record { name = 1; super = some 0; start = none; count = 0 }; news = record { kind = plain 7; name = 1 } ∷ [] }) 23) ×
    (entry_text (fielded 128) (ascii "type\t1\t0\t-\t0\t1\nnew\t7\t1\n") 0 ≡ no 20 0)
unfolding all
bounds-read = (refl, refl, refl, refl, refl)

-- ── a column's values, and lent memory ──

values-stored :
    (stored (flag true) ≡ pos 1) ×
    (stored (flag false) ≡ pos 0) ×
    (stored (whole (negsuc 4)) ≡ negsuc 4) ×
    (stored (float 4 (2 ^ 32 - 1)) ≡ pos (2 ^ 32 - 1)) ×
    (stored (float 8 (2 ^ 63 - 1)) ≡ pos (2 ^ 63 - 1)) ×
    (stored (float 8 (2 ^ 63)) ≡ negsuc (2 ^ 63 - 1)) ×
    (stored (float 8 (2 ^ 64 - 1)) ≡ negsuc 0) ×
    (stored (link 12) ≡ pos 12) ×
    (stored_all ((link 1 ∷ link 2 ∷ []) ∷ [] ∷ (link 3 ∷ []) ∷ []) ≡ pos 1 ∷ pos 2 ∷ pos 3 ∷ []) ×
    (chunk_values 1 [] (((link 1 ∷ []) ∷ []) ∷ []) ≡ []) ×
    (chunk_values 1 (record { field = 1; values = 1 } ∷ []) [] ≡ []) ×
    (chunk_values 1 (record { field = 0; values = 1 } ∷ record { field = 1; values = 1 } ∷ record { field = 1; values = 1 } ∷ []) (((link 5 ∷ []) ∷ []) ∷ ((link 6 ∷ []) ∷ []) ∷ ((link 7 ∷ []) ∷ []) ∷ []) ≡ pos 6 ∷ pos 7 ∷ []) ×
    (column_by (array 2 7) [] 0 0 ≡ []) ×
    (column_by (many 17 7) [] 0 0 ≡ []) ×
    (asked (constant 4 (pos 1)) ≡ 4) ×
    (asked (plain 14) ≡ 14) ×
    (asked (plain 32) ≡ 32) ×
    (asked (plain 40) ≡ 32)
unfolding all
values-stored = (refl, refl, refl, refl, refl, refl, refl, refl, refl, refl, refl, refl, refl, refl, refl, refl, refl, refl)

memory-left :
    (cleared [] ≡ []) ×
    (cleared (7 ∷ 8 ∷ []) ≡ 7 ∷ 8 ∷ []) ×
    (cleared (replicate 16383 7) ≡ replicate 16383 7) ×
    (cleared (replicate 16384 7) ≡ replicate 16384 0) ×
    (cleared (replicate 16385 7) ≡ replicate 16384 0 ++ 7 ∷ []) ×
    (over_front {A = ℕ} [] (1 ∷ 2 ∷ []) ≡ 1 ∷ 2 ∷ []) ×
    (over_front {A = ℕ} (5 ∷ []) (1 ∷ 2 ∷ 3 ∷ []) ≡ 5 ∷ 2 ∷ 3 ∷ []) ×
    (over_front {A = ℕ} (5 ∷ 6 ∷ []) (1 ∷ 2 ∷ []) ≡ 5 ∷ 6 ∷ []) ×
    (left_in {A = ℕ} (1 ∷ 2 ∷ []) (refused 19) ≡ 1 ∷ 2 ∷ []) ×
    (left_in {A = ℕ} (1 ∷ 2 ∷ []) (done (5 ∷ [])) ≡ 5 ∷ 2 ∷ []) ×
    (how_many {A = ℕ} (done (5 ∷ 6 ∷ [])) ≡ done 2) ×
    (how_many {A = ℕ} (refused 19) ≡ refused 19)
unfolding all
memory-left = (refl, refl, refl, refl, refl, refl, refl, refl, refl, refl, refl, refl)

-- Files of the second program, computed with the definitions: the answers are that program's, and it writes this file.
-- Assumes nothing.
use Rattle.std.specs.Prelude.{◌≡◌, refl, List, [], ◌∷◌, ◌++◌, ℕ, replicate, ℤ, pos, negsuc}
use Rattle.paper.specs.Reader.{Out, got, no}
use Rattle.paper.specs.File.{file}
use Rattle.paper.specs.Listing.{ascii}
use Rattle.paper.specs.Calls.{Answer, done, refused, objects, fill_values, listing, build}
use Rattle.paper.specs.Whole.{whole}

abbrev P : List ℕ
P = 0x05 ∷ 0x00 ∷ 0x00 ∷ 0x00 ∷ 0x01 ∷ 0x00 ∷ 0x00 ∷ 0x00 ∷ 0x02 ∷ 0x00 ∷ 0x00 ∷ 0x00 ∷ 0x03 ∷ 0x00 ∷ 0x00 ∷ 0x00 ∷ 0x04 ∷ 0x00 ∷ 0x00 ∷ 0x00 ∷ 0x05 ∷ 0x61 ∷ 0x62 ∷ 0x63 ∷ 0x64 ∷ 0x65 ∷ []

abbrev Q : List ℕ
Q = 0x02 ∷ 0x00 ∷ 0x00 ∷ 0x00 ∷ 0x01 ∷ 0x00 ∷ 0x00 ∷ 0x00 ∷ 0x02 ∷ 0x61 ∷ 0x62 ∷ []

abbrev D : List ℕ
D = 0x01 ∷ 0x00 ∷ 0x00 ∷ 0x00 ∷ 0x04 ∷ 0x64 ∷ 0x61 ∷ 0x74 ∷ 0x65 ∷ 0x01 ∷ 0x01 ∷ 0x00 ∷ 0x02 ∷ 0x00 ∷ 0x01 ∷ 0x00 ∷ 0x0B ∷ 0x01 ∷ 0x0A ∷ 0x01 ∷ 0xFF ∷ 0xFF ∷ 0xFF ∷ 0xFF ∷ 0xFF ∷ 0xFF ∷ 0xFF ∷ 0xFF ∷ 0xFF ∷ []

-- 32 pairs are accepted
strings0 :
    (listing 288 16384 (replicate 64 0x00 ++ []) ≡ done (ascii "pair\t0\t0\npair\t0\t0\npair\t0\t0\npair\t0\t0\npair\t0\t0\npair\t0\t0\npair\t0\t0\npair\t0\t0\npair\t0\t0\npair\t0\t0\npair\t0\t0\npair\t0\t0\npair\t0\t0\npair\t0\t0\npair\t0\t0\npair\t0\t0\npair\t0\t0\npair\t0\t0\npair\t0\t0\npair\t0\t0\npair\t0\t0\npair\t0\t0\npair\t0\t0\npair\t0\t0\npair\t0\t0\npair\t0\t0\npair\t0\t0\npair\t0\t0\npair\t0\t0\npair\t0\t0\npair\t0\t0\npair\t0\t0\n"))
unfolding whole
strings0 = refl

-- a 33rd pair is refused at its first byte
strings1 :
    (file (replicate 66 0x00 ++ []) ≡ no 3 64)
unfolding whole
strings1 = refl

-- a 33rd pair is refused before its first byte is decoded, cut
strings2 :
    (file (replicate 64 0x00 ++ 0x80 ∷ []) ≡ no 3 64)
unfolding whole
strings2 = refl

-- a 33rd pair is refused before its first byte is decoded, padded
strings3 :
    (file (replicate 64 0x00 ++ 0x80 ∷ 0x00 ∷ []) ≡ no 3 64)
unfolding whole
strings3 = refl

-- the 32nd pair is decoded, cut
strings4 :
    (file (replicate 62 0x00 ++ 0x80 ∷ []) ≡ no 1 62)
unfolding whole
strings4 = refl

-- the 32nd pair is decoded: a padded 0, and the entries are due
strings5 :
    (file (replicate 62 0x00 ++ 0x80 ∷ 0x00 ∷ []) ≡ no 1 64)
unfolding whole
strings5 = refl

-- the next pair starts where the region ends
strings6 :
    (file (D ++ 0x00 ∷ []) ≡ no 1 30)
unfolding whole
strings6 = refl

-- a pair with strings alone, and one with entries alone
strings7 :
    (listing 47 16384 (Q ++ 0x00 ∷ 0x00 ∷ 0x01 ∷ 0x01 ∷ 0x00 ∷ 0x00 ∷ 0x00 ∷ 0x00 ∷ []) ≡ done (ascii "pair\t2\t0\nstr\t61\nstr\t62\npair\t0\t1\ntype\t1\t0\t-\t0\t0\n"))
unfolding whole
strings7 = refl

-- 1024 strings are accepted: the first end is due
strings8 :
    (file (0x80 ∷ 0x08 ∷ []) ≡ no 1 2)
unfolding whole
strings8 = refl

-- 1025 strings, before any end is read
strings9 :
    (file (0x81 ∷ 0x08 ∷ 0x00 ∷ 0x00 ∷ 0x00 ∷ 0x01 ∷ 0x00 ∷ 0x00 ∷ 0x00 ∷ 0x00 ∷ []) ≡ no 3 0)
unfolding whole
strings9 = refl

-- the bound of strings is the file's: 1 and 1023
strings10 :
    (file (0x01 ∷ replicate 5 0x00 ++ 0xFF ∷ 0x07 ∷ []) ≡ no 1 8)
unfolding whole
strings10 = refl

-- the bound of strings is the file's: 1 and 1024
strings11 :
    (file (0x01 ∷ replicate 5 0x00 ++ 0x80 ∷ 0x08 ∷ []) ≡ no 3 6)
unfolding whole
strings11 = refl

-- the bound of strings is the file's: 1, 2 and 1021
strings12 :
    (file (0x01 ∷ replicate 5 0x00 ++ 0x02 ∷ replicate 9 0x00 ++ 0xFD ∷ 0x07 ∷ []) ≡ no 1 18)
unfolding whole
strings12 = refl

-- the bound of strings is the file's: 1, 2 and 1022
strings13 :
    (file (0x01 ∷ replicate 5 0x00 ++ 0x02 ∷ replicate 9 0x00 ++ 0xFE ∷ 0x07 ∷ []) ≡ no 3 16)
unfolding whole
strings13 = refl

-- the bound of strings is the file's: 1 and 2^64 - 1
strings14 :
    (file (0x01 ∷ replicate 5 0x00 ++ replicate 9 0xFF ++ []) ≡ no 3 6)
unfolding whole
strings14 = refl

-- ends have four bytes, highest first
strings15 :
    (listing 533 16384 (0x02 ∷ 0x00 ∷ 0x00 ∷ 0x01 ∷ 0x00 ∷ 0x00 ∷ 0x00 ∷ 0x01 ∷ 0x01 ∷ replicate 256 0x61 ++ 0x62 ∷ 0x00 ∷ []) ≡ done (ascii "pair\t2\t0\nstr\t61616161616161616161616161616161616161616161616161616161616161616161616161616161616161616161616161616161616161616161616161616161616161616161616161616161616161616161616161616161616161616161616161616161616161616161616161616161616161616161616161616161616161616161616161616161616161616161616161616161616161616161616161616161616161616161616161616161616161616161616161616161616161616161616161616161616161616161616161616161616161616161616161616161616161616161616161616161616161616161616161616161616161616161616161616161\nstr\t62\n"))
unfolding whole
strings15 = refl

-- ends are unsigned: 80000000 is above 7FFFFFFF
strings16 :
    (file (0x02 ∷ 0x7F ∷ 0xFF ∷ 0xFF ∷ 0xFF ∷ 0x80 ∷ 0x00 ∷ 0x00 ∷ 0x00 ∷ []) ≡ no 1 9)
unfolding whole
strings16 = refl

-- ends are unsigned: 7FFFFFFF is below 80000000
strings17 :
    (file (0x02 ∷ 0x80 ∷ 0x00 ∷ 0x00 ∷ 0x00 ∷ 0x7F ∷ 0xFF ∷ 0xFF ∷ 0xFF ∷ []) ≡ no 4 5)
unfolding whole
strings17 = refl

-- the first end is cut
strings18 :
    (file (0x01 ∷ 0x00 ∷ 0x00 ∷ 0x00 ∷ []) ≡ no 1 1)
unfolding whole
strings18 = refl

-- the second end is cut, and the first past the file
strings19 :
    (file (0x02 ∷ replicate 6 0xFF ++ []) ≡ no 1 5)
unfolding whole
strings19 = refl

-- ends do not fall
strings20 :
    (file (0x02 ∷ 0x00 ∷ 0x00 ∷ 0x00 ∷ 0x01 ∷ 0x00 ∷ 0x00 ∷ 0x00 ∷ 0x00 ∷ 0x61 ∷ 0x00 ∷ []) ≡ no 4 5)
unfolding whole
strings20 = refl

-- ends do not fall: against the one before, not the first
strings21 :
    (file (0x03 ∷ replicate 7 0x00 ++ 0x02 ∷ 0x00 ∷ 0x00 ∷ 0x00 ∷ 0x01 ∷ 0x61 ∷ 0x62 ∷ 0x00 ∷ []) ≡ no 4 9)
unfolding whole
strings21 = refl

-- ends do not fall: the third against the second
strings22 :
    (file (0x03 ∷ 0x00 ∷ 0x00 ∷ 0x00 ∷ 0x01 ∷ 0x00 ∷ 0x00 ∷ 0x00 ∷ 0x02 ∷ 0x00 ∷ 0x00 ∷ 0x00 ∷ 0x01 ∷ 0x61 ∷ 0x62 ∷ 0x00 ∷ []) ≡ no 4 9)
unfolding whole
strings22 = refl

-- ends do not fall: before a later end is missed
strings23 :
    (file (0x03 ∷ 0x00 ∷ 0x00 ∷ 0x00 ∷ 0x01 ∷ 0x00 ∷ 0x00 ∷ 0x00 ∷ 0x00 ∷ []) ≡ no 4 5)
unfolding whole
strings23 = refl

-- equal ends are empty strings, at the front, between and last
strings24 :
    (listing 40 16384 (0x05 ∷ replicate 7 0x00 ++ 0x01 ∷ 0x00 ∷ 0x00 ∷ 0x00 ∷ 0x01 ∷ 0x00 ∷ 0x00 ∷ 0x00 ∷ 0x03 ∷ 0x00 ∷ 0x00 ∷ 0x00 ∷ 0x03 ∷ 0x61 ∷ 0x62 ∷ 0x63 ∷ 0x00 ∷ []) ≡ done (ascii "pair\t5\t0\nstr\t\nstr\t61\nstr\t\nstr\t6263\nstr\t\n"))
unfolding whole
strings24 = refl

-- a string runs from the end before it to its own
strings25 :
    (listing 36 16384 (0x03 ∷ 0x00 ∷ 0x00 ∷ 0x00 ∷ 0x01 ∷ 0x00 ∷ 0x00 ∷ 0x00 ∷ 0x03 ∷ 0x00 ∷ 0x00 ∷ 0x00 ∷ 0x06 ∷ 0x61 ∷ 0x62 ∷ 0x62 ∷ 0x63 ∷ 0x63 ∷ 0x63 ∷ 0x00 ∷ []) ≡ done (ascii "pair\t3\t0\nstr\t61\nstr\t6262\nstr\t636363\n"))
unfolding whole
strings25 = refl

-- ends begin anew in each block
strings26 :
    (listing 34 16384 (0x01 ∷ 0x00 ∷ 0x00 ∷ 0x00 ∷ 0x02 ∷ 0x61 ∷ 0x61 ∷ 0x00 ∷ 0x01 ∷ 0x00 ∷ 0x00 ∷ 0x00 ∷ 0x01 ∷ 0x62 ∷ 0x00 ∷ []) ≡ done (ascii "pair\t1\t0\nstr\t6161\npair\t1\t0\nstr\t62\n"))
unfolding whole
strings26 = refl

-- the last end is held against the file's end: one byte short
strings27 :
    (file (0x02 ∷ 0x00 ∷ 0x00 ∷ 0x00 ∷ 0x01 ∷ 0x00 ∷ 0x00 ∷ 0x00 ∷ 0x03 ∷ 0x61 ∷ 0x62 ∷ []) ≡ no 1 9)
unfolding whole
strings27 = refl

-- the last end is held against the file's end: all there
strings28 :
    (file (Q ++ []) ≡ no 1 11)
unfolding whole
strings28 = refl

-- the last end is held against the file's end: the number of entries is no string byte
strings29 :
    (file (0x01 ∷ 0x00 ∷ 0x00 ∷ 0x00 ∷ 0x02 ∷ 0x61 ∷ 0x00 ∷ []) ≡ no 1 7)
unfolding whole
strings29 = refl

-- the last end alone is held against the file's end, behind the ends
strings30 :
    (file (0x02 ∷ 0x00 ∷ 0x00 ∷ 0x00 ∷ 0x08 ∷ 0x00 ∷ 0x00 ∷ 0x00 ∷ 0x09 ∷ 0x61 ∷ []) ≡ no 1 9)
unfolding whole
strings30 = refl

-- the last end is held against the file's end before the entries are read
strings31 :
    (file (0x01 ∷ 0x00 ∷ 0x00 ∷ 0x00 ∷ 0x09 ∷ 0x61 ∷ 0x01 ∷ 0x00 ∷ []) ≡ no 1 5)
unfolding whole
strings31 = refl

-- an end of 2^32 - 1
strings32 :
    (file (0x01 ∷ 0xFF ∷ 0xFF ∷ 0xFF ∷ 0xFF ∷ 0x61 ∷ []) ≡ no 1 5)
unfolding whole
strings32 = refl

-- equal strings may occur twice, in a pair and over pairs
strings33 :
    (listing 39 16384 (0x02 ∷ 0x00 ∷ 0x00 ∷ 0x00 ∷ 0x01 ∷ 0x00 ∷ 0x00 ∷ 0x00 ∷ 0x02 ∷ 0x61 ∷ 0x61 ∷ 0x00 ∷ 0x01 ∷ 0x00 ∷ 0x00 ∷ 0x00 ∷ 0x01 ∷ 0x61 ∷ 0x00 ∷ []) ≡ done (ascii "pair\t2\t0\nstr\t61\nstr\t61\npair\t1\t0\nstr\t61\n"))
unfolding whole
strings33 = refl

-- UTF-8 is not checked
strings34 :
    (listing 22 16384 (0x01 ∷ 0x00 ∷ 0x00 ∷ 0x00 ∷ 0x04 ∷ 0xFF ∷ 0xC0 ∷ 0x80 ∷ 0x00 ∷ 0x00 ∷ []) ≡ done (ascii "pair\t1\t0\nstr\tffc08000\n"))
unfolding whole
strings34 = refl

-- strings are numbered through the whole file, the earlier ones first
strings35 :
    (file (0x02 ∷ 0x00 ∷ 0x00 ∷ 0x00 ∷ 0x01 ∷ 0x00 ∷ 0x00 ∷ 0x00 ∷ 0x02 ∷ 0x61 ∷ 0x61 ∷ 0x00 ∷ 0x01 ∷ 0x00 ∷ 0x00 ∷ 0x00 ∷ 0x01 ∷ 0x62 ∷ 0x02 ∷ 0x01 ∷ 0x00 ∷ 0x00 ∷ 0x00 ∷ 0x00 ∷ 0x02 ∷ []) ≡ no 6 24)
unfolding whole
strings35 = refl

-- strings are numbered through the whole file: the third pair's
strings36 :
    (file (0x01 ∷ 0x00 ∷ 0x00 ∷ 0x00 ∷ 0x01 ∷ 0x61 ∷ 0x00 ∷ 0x01 ∷ 0x00 ∷ 0x00 ∷ 0x00 ∷ 0x01 ∷ 0x62 ∷ 0x00 ∷ 0x02 ∷ 0x00 ∷ 0x00 ∷ 0x00 ∷ 0x01 ∷ 0x00 ∷ 0x00 ∷ 0x00 ∷ 0x02 ∷ 0x63 ∷ 0x63 ∷ 0x02 ∷ 0x03 ∷ 0x00 ∷ 0x00 ∷ 0x00 ∷ 0x00 ∷ 0x04 ∷ []) ≡ no 6 31)
unfolding whole
strings36 = refl

-- strings are numbered through the whole file: pairs without strings count none
strings37 :
    (listing 56 16384 (0x01 ∷ 0x00 ∷ 0x00 ∷ 0x00 ∷ 0x01 ∷ 0x61 ∷ 0x00 ∷ 0x00 ∷ 0x00 ∷ 0x01 ∷ 0x00 ∷ 0x00 ∷ 0x00 ∷ 0x01 ∷ 0x62 ∷ 0x01 ∷ 0x02 ∷ 0x00 ∷ 0x00 ∷ 0x00 ∷ 0x00 ∷ []) ≡ done (ascii "pair\t1\t0\nstr\t61\npair\t0\t0\npair\t1\t1\nstr\t62\ntype\t2\t0\t-\t0\t0\n"))
unfolding whole
strings37 = refl

-- Files of the second program, computed with the definitions: the answers are that program's, and it writes this file.
-- Assumes nothing.
use Rattle.std.specs.Prelude.{◌≡◌, refl, List, [], ◌∷◌, ◌++◌, ℕ, replicate, ℤ, pos, negsuc}
use Rattle.paper.specs.Reader.{Out, got, no}
use Rattle.paper.specs.File.{file}
use Rattle.paper.specs.Listing.{ascii}
use Rattle.paper.specs.Calls.{Answer, done, refused, objects, fill_values, listing, build}
use Rattle.paper.specs.Whole.{whole}

abbrev P : List ℕ
P = 0x05 ∷ 0x00 ∷ 0x00 ∷ 0x00 ∷ 0x01 ∷ 0x00 ∷ 0x00 ∷ 0x00 ∷ 0x02 ∷ 0x00 ∷ 0x00 ∷ 0x00 ∷ 0x03 ∷ 0x00 ∷ 0x00 ∷ 0x00 ∷ 0x04 ∷ 0x00 ∷ 0x00 ∷ 0x00 ∷ 0x05 ∷ 0x61 ∷ 0x62 ∷ 0x63 ∷ 0x64 ∷ 0x65 ∷ []

abbrev Q : List ℕ
Q = 0x02 ∷ 0x00 ∷ 0x00 ∷ 0x00 ∷ 0x01 ∷ 0x00 ∷ 0x00 ∷ 0x00 ∷ 0x02 ∷ 0x61 ∷ 0x62 ∷ []

abbrev D : List ℕ
D = 0x01 ∷ 0x00 ∷ 0x00 ∷ 0x00 ∷ 0x04 ∷ 0x64 ∷ 0x61 ∷ 0x74 ∷ 0x65 ∷ 0x01 ∷ 0x01 ∷ 0x00 ∷ 0x02 ∷ 0x00 ∷ 0x01 ∷ 0x00 ∷ 0x0B ∷ 0x01 ∷ 0x0A ∷ 0x01 ∷ 0xFF ∷ 0xFF ∷ 0xFF ∷ 0xFF ∷ 0xFF ∷ 0xFF ∷ 0xFF ∷ 0xFF ∷ 0xFF ∷ []

-- v64: the smallest and the largest coding of one to nine bytes, the 64 bits signed in values
numbers0 :
    (listing 394 16384 (P ++ 0x01 ∷ 0x01 ∷ 0x00 ∷ 0x15 ∷ 0x00 ∷ 0x01 ∷ 0x00 ∷ 0x0B ∷ 0x01 ∷ 0x75 ∷ 0x00 ∷ 0x7F ∷ 0x80 ∷ 0x01 ∷ 0xFF ∷ 0x7F ∷ 0x80 ∷ 0x80 ∷ 0x01 ∷ 0xFF ∷ 0xFF ∷ 0x7F ∷ 0x80 ∷ 0x80 ∷ 0x80 ∷ 0x01 ∷ 0xFF ∷ 0xFF ∷ 0xFF ∷ 0x7F ∷ 0x80 ∷ 0x80 ∷ 0x80 ∷ 0x80 ∷ 0x01 ∷ 0xFF ∷ 0xFF ∷ 0xFF ∷ 0xFF ∷ 0x7F ∷ replicate 5 0x80 ++ 0x01 ∷ replicate 5 0xFF ++ 0x7F ∷ replicate 6 0x80 ++ 0x01 ∷ replicate 6 0xFF ++ 0x7F ∷ replicate 7 0x80 ++ 0x01 ∷ replicate 7 0xFF ++ 0x7F ∷ replicate 8 0x80 ++ 0x01 ∷ replicate 8 0xFF ++ 0x7F ∷ replicate 9 0x80 ++ replicate 9 0xFF ++ 0x81 ∷ 0x82 ∷ 0x83 ∷ 0x84 ∷ 0x85 ∷ 0x86 ∷ 0x87 ∷ 0x88 ∷ 0x09 ∷ []) ≡ done (ascii "pair\t5\t1\nstr\t61\nstr\t62\nstr\t63\nstr\t64\nstr\t65\ntype\t1\t0\t-\t21\t1\nnew\t11\t1\nval\t0\nval\t127\nval\t128\nval\t16383\nval\t16384\nval\t2097151\nval\t2097152\nval\t268435455\nval\t268435456\nval\t34359738367\nval\t34359738368\nval\t4398046511103\nval\t4398046511104\nval\t562949953421311\nval\t562949953421312\nval\t72057594037927935\nval\t72057594037927936\nval\t9223372036854775807\nval\t-9223372036854775808\nval\t-1\nval\t653052939803345153\n"))
unfolding whole
numbers0 = refl

-- v64: a count of two bytes, low seven bits first
numbers1 :
    (listing 40 16384 (Q ++ 0x01 ∷ 0x01 ∷ 0x00 ∷ 0x81 ∷ 0x02 ∷ 0x00 ∷ 0x00 ∷ []) ≡ done (ascii "pair\t2\t1\nstr\t61\nstr\t62\ntype\t1\t0\t-\t257\t0\n"))
unfolding whole
numbers1 = refl

-- v64: 127 in two bytes
numbers2 :
    (file (0xFF ∷ 0x00 ∷ []) ≡ no 1 2)
unfolding whole
numbers2 = refl

-- v64: 0 in three bytes
numbers3 :
    (file (0x80 ∷ 0x80 ∷ 0x00 ∷ []) ≡ no 1 3)
unfolding whole
numbers3 = refl

-- v64: 49409 in four bytes
numbers4 :
    (file (0x81 ∷ 0x82 ∷ 0x83 ∷ 0x00 ∷ []) ≡ no 3 0)
unfolding whole
numbers4 = refl

-- v64: 2^42 - 1 in seven bytes
numbers5 :
    (file (replicate 6 0xFF ++ 0x00 ∷ []) ≡ no 3 0)
unfolding whole
numbers5 = refl

-- v64: 0 in eight bytes
numbers6 :
    (file (replicate 7 0x80 ++ 0x00 ∷ []) ≡ no 1 8)
unfolding whole
numbers6 = refl

-- v64: 2^56 - 1 in nine bytes
numbers7 :
    (file (replicate 8 0xFF ++ 0x00 ∷ []) ≡ no 3 0)
unfolding whole
numbers7 = refl

-- v64: 00 alone is a coding
numbers8 :
    (file (0x00 ∷ 0x01 ∷ []) ≡ no 1 2)
unfolding whole
numbers8 = refl

-- v64: unsigned in counts, the ninth byte is the last whatever its top bit
numbers9 :
    (file (replicate 9 0x80 ++ 0x00 ∷ []) ≡ no 3 0)
unfolding whole
numbers9 = refl

-- v64: unsigned in counts, 2^64 - 1
numbers10 :
    (file (replicate 9 0xFF ++ []) ≡ no 3 0)
unfolding whole
numbers10 = refl

-- v64: a tenth byte is left over
numbers11 :
    (file (P ++ 0x01 ∷ 0x01 ∷ 0x00 ∷ 0x01 ∷ 0x00 ∷ 0x01 ∷ 0x00 ∷ 0x0B ∷ 0x01 ∷ 0x0A ∷ replicate 9 0x80 ++ 0x01 ∷ []) ≡ no 12 45)
unfolding whole
numbers11 = refl

-- v64: cut behind its first byte, at its first byte
numbers12 :
    (file (0x00 ∷ 0x80 ∷ []) ≡ no 1 1)
unfolding whole
numbers12 = refl

-- v64: cut behind two bytes, at its first byte
numbers13 :
    (file (0x00 ∷ 0xFF ∷ 0xFF ∷ []) ≡ no 1 1)
unfolding whole
numbers13 = refl

-- v64: cut behind eight bytes, at its first byte
numbers14 :
    (file (0x00 ∷ replicate 8 0x80 ++ []) ≡ no 1 1)
unfolding whole
numbers14 = refl

-- v64: 0 in three bytes, further on
numbers15 :
    (listing 9 16384 (0x00 ∷ 0x80 ∷ 0x80 ∷ 0x00 ∷ []) ≡ done (ascii "pair\t0\t0\n"))
unfolding whole
numbers15 = refl

-- i8 is two's complement
numbers16 :
    (listing 103 16384 (P ++ 0x01 ∷ 0x01 ∷ 0x00 ∷ 0x05 ∷ 0x00 ∷ 0x01 ∷ 0x00 ∷ 0x07 ∷ 0x01 ∷ 0x05 ∷ 0x00 ∷ 0x01 ∷ 0x7F ∷ 0x80 ∷ 0xFF ∷ []) ≡ done (ascii "pair\t5\t1\nstr\t61\nstr\t62\nstr\t63\nstr\t64\nstr\t65\ntype\t1\t0\t-\t5\t1\nnew\t7\t1\nval\t0\nval\t1\nval\t127\nval\t-128\nval\t-1\n"))
unfolding whole
numbers16 = refl

-- i16 is two's complement, highest byte first
numbers17 :
    (listing 109 16384 (P ++ 0x01 ∷ 0x01 ∷ 0x00 ∷ 0x05 ∷ 0x00 ∷ 0x01 ∷ 0x00 ∷ 0x08 ∷ 0x01 ∷ 0x0A ∷ 0x00 ∷ 0x00 ∷ 0x01 ∷ 0x02 ∷ 0x7F ∷ 0xFF ∷ 0x80 ∷ 0x00 ∷ 0xFF ∷ 0xFE ∷ []) ≡ done (ascii "pair\t5\t1\nstr\t61\nstr\t62\nstr\t63\nstr\t64\nstr\t65\ntype\t1\t0\t-\t5\t1\nnew\t8\t1\nval\t0\nval\t258\nval\t32767\nval\t-32768\nval\t-2\n"))
unfolding whole
numbers17 = refl

-- i32 is two's complement, highest byte first
numbers18 :
    (listing 124 16384 (P ++ 0x01 ∷ 0x01 ∷ 0x00 ∷ 0x05 ∷ 0x00 ∷ 0x01 ∷ 0x00 ∷ 0x09 ∷ 0x01 ∷ 0x14 ∷ 0x00 ∷ 0x00 ∷ 0x00 ∷ 0x00 ∷ 0x01 ∷ 0x02 ∷ 0x03 ∷ 0x04 ∷ 0x7F ∷ 0xFF ∷ 0xFF ∷ 0xFF ∷ 0x80 ∷ 0x00 ∷ 0x00 ∷ 0x00 ∷ 0xFF ∷ 0xFF ∷ 0xFF ∷ 0xFE ∷ []) ≡ done (ascii "pair\t5\t1\nstr\t61\nstr\t62\nstr\t63\nstr\t64\nstr\t65\ntype\t1\t0\t-\t5\t1\nnew\t9\t1\nval\t0\nval\t16909060\nval\t2147483647\nval\t-2147483648\nval\t-2\n"))
unfolding whole
numbers18 = refl

-- i64 is two's complement, highest byte first
numbers19 :
    (listing 146 16384 (P ++ 0x01 ∷ 0x01 ∷ 0x00 ∷ 0x04 ∷ 0x00 ∷ 0x01 ∷ 0x00 ∷ 0x0A ∷ 0x01 ∷ 0x20 ∷ 0x01 ∷ 0x02 ∷ 0x03 ∷ 0x04 ∷ 0x05 ∷ 0x06 ∷ 0x07 ∷ 0x08 ∷ 0x7F ∷ replicate 7 0xFF ++ 0x80 ∷ replicate 7 0x00 ++ replicate 7 0xFF ++ 0xFE ∷ []) ≡ done (ascii "pair\t5\t1\nstr\t61\nstr\t62\nstr\t63\nstr\t64\nstr\t65\ntype\t1\t0\t-\t4\t1\nnew\t10\t1\nval\t72623859790382856\nval\t9223372036854775807\nval\t-9223372036854775808\nval\t-2\n"))
unfolding whole
numbers19 = refl

-- f32 is four bytes, highest first
numbers20 :
    (listing 107 16384 (P ++ 0x01 ∷ 0x01 ∷ 0x00 ∷ 0x03 ∷ 0x00 ∷ 0x01 ∷ 0x00 ∷ 0x0C ∷ 0x01 ∷ 0x0C ∷ 0x01 ∷ 0x02 ∷ 0x03 ∷ 0x04 ∷ 0x7F ∷ 0xC0 ∷ 0x00 ∷ 0x01 ∷ 0xFF ∷ 0x80 ∷ 0x00 ∷ 0x00 ∷ []) ≡ done (ascii "pair\t5\t1\nstr\t61\nstr\t62\nstr\t63\nstr\t64\nstr\t65\ntype\t1\t0\t-\t3\t1\nnew\t12\t1\nval\t01020304\nval\t7fc00001\nval\tff800000\n"))
unfolding whole
numbers20 = refl

-- f64 is eight bytes, highest first
numbers21 :
    (listing 131 16384 (P ++ 0x01 ∷ 0x01 ∷ 0x00 ∷ 0x03 ∷ 0x00 ∷ 0x01 ∷ 0x00 ∷ 0x0D ∷ 0x01 ∷ 0x18 ∷ 0x01 ∷ 0x02 ∷ 0x03 ∷ 0x04 ∷ 0x05 ∷ 0x06 ∷ 0x07 ∷ 0x08 ∷ 0x7F ∷ 0xF0 ∷ replicate 5 0x00 ++ 0x01 ∷ 0xFF ∷ 0xF0 ∷ replicate 6 0x00 ++ []) ≡ done (ascii "pair\t5\t1\nstr\t61\nstr\t62\nstr\t63\nstr\t64\nstr\t65\ntype\t1\t0\t-\t3\t1\nnew\t13\t1\nval\t0102030405060708\nval\t7ff0000000000001\nval\tfff0000000000000\n"))
unfolding whole
numbers21 = refl

-- constants i8 are two's complement
numbers22 :
    (listing 95 16384 (P ++ 0x01 ∷ 0x01 ∷ 0x00 ∷ 0x01 ∷ 0x00 ∷ 0x03 ∷ 0x00 ∷ 0x00 ∷ 0x7F ∷ 0x01 ∷ 0x00 ∷ 0x00 ∷ 0x00 ∷ 0x80 ∷ 0x02 ∷ 0x00 ∷ 0x00 ∷ 0x00 ∷ 0xFF ∷ 0x03 ∷ 0x00 ∷ []) ≡ done (ascii "pair\t5\t1\nstr\t61\nstr\t62\nstr\t63\nstr\t64\nstr\t65\ntype\t1\t0\t-\t1\t3\nnew\t0,127\t1\nnew\t0,-128\t2\nnew\t0,-1\t3\n"))
unfolding whole
numbers22 = refl

-- constants i16 are two's complement
numbers23 :
    (listing 111 16384 (P ++ 0x01 ∷ 0x01 ∷ 0x00 ∷ 0x01 ∷ 0x00 ∷ 0x04 ∷ 0x00 ∷ 0x01 ∷ 0x7F ∷ 0xFF ∷ 0x01 ∷ 0x00 ∷ 0x00 ∷ 0x01 ∷ 0x80 ∷ 0x00 ∷ 0x02 ∷ 0x00 ∷ 0x00 ∷ 0x01 ∷ 0xFF ∷ 0xFF ∷ 0x03 ∷ 0x00 ∷ 0x00 ∷ 0x01 ∷ 0x01 ∷ 0x02 ∷ 0x04 ∷ 0x00 ∷ []) ≡ done (ascii "pair\t5\t1\nstr\t61\nstr\t62\nstr\t63\nstr\t64\nstr\t65\ntype\t1\t0\t-\t1\t4\nnew\t1,32767\t1\nnew\t1,-32768\t2\nnew\t1,-1\t3\nnew\t1,258\t4\n"))
unfolding whole
numbers23 = refl

-- constants i32 are two's complement
numbers24 :
    (listing 126 16384 (P ++ 0x01 ∷ 0x01 ∷ 0x00 ∷ 0x01 ∷ 0x00 ∷ 0x04 ∷ 0x00 ∷ 0x02 ∷ 0x7F ∷ 0xFF ∷ 0xFF ∷ 0xFF ∷ 0x01 ∷ 0x00 ∷ 0x00 ∷ 0x02 ∷ 0x80 ∷ 0x00 ∷ 0x00 ∷ 0x00 ∷ 0x02 ∷ 0x00 ∷ 0x00 ∷ 0x02 ∷ 0xFF ∷ 0xFF ∷ 0xFF ∷ 0xFF ∷ 0x03 ∷ 0x00 ∷ 0x00 ∷ 0x02 ∷ 0x01 ∷ 0x02 ∷ 0x03 ∷ 0x04 ∷ 0x04 ∷ 0x00 ∷ []) ≡ done (ascii "pair\t5\t1\nstr\t61\nstr\t62\nstr\t63\nstr\t64\nstr\t65\ntype\t1\t0\t-\t1\t4\nnew\t2,2147483647\t1\nnew\t2,-2147483648\t2\nnew\t2,-1\t3\nnew\t2,16909060\t4\n"))
unfolding whole
numbers24 = refl

-- constants i64 are two's complement
numbers25 :
    (listing 153 16384 (P ++ 0x01 ∷ 0x01 ∷ 0x00 ∷ 0x01 ∷ 0x00 ∷ 0x04 ∷ 0x00 ∷ 0x03 ∷ 0x7F ∷ replicate 7 0xFF ++ 0x01 ∷ 0x00 ∷ 0x00 ∷ 0x03 ∷ 0x80 ∷ replicate 7 0x00 ++ 0x02 ∷ 0x00 ∷ 0x00 ∷ 0x03 ∷ replicate 8 0xFF ++ 0x03 ∷ 0x00 ∷ 0x00 ∷ 0x03 ∷ 0x01 ∷ 0x02 ∷ 0x03 ∷ 0x04 ∷ 0x05 ∷ 0x06 ∷ 0x07 ∷ 0x08 ∷ 0x04 ∷ 0x00 ∷ []) ≡ done (ascii "pair\t5\t1\nstr\t61\nstr\t62\nstr\t63\nstr\t64\nstr\t65\ntype\t1\t0\t-\t1\t4\nnew\t3,9223372036854775807\t1\nnew\t3,-9223372036854775808\t2\nnew\t3,-1\t3\nnew\t3,72623859790382856\t4\n"))
unfolding whole
numbers25 = refl

-- constants v64 are signed
numbers26 :
    (listing 149 16384 (P ++ 0x01 ∷ 0x01 ∷ 0x00 ∷ 0x01 ∷ 0x00 ∷ 0x05 ∷ 0x00 ∷ 0x04 ∷ replicate 8 0xFF ++ 0x7F ∷ 0x01 ∷ 0x00 ∷ 0x00 ∷ 0x04 ∷ replicate 9 0x80 ++ 0x02 ∷ 0x00 ∷ 0x00 ∷ 0x04 ∷ replicate 9 0xFF ++ 0x03 ∷ 0x00 ∷ 0x00 ∷ 0x04 ∷ 0x80 ∷ 0x01 ∷ 0x04 ∷ 0x00 ∷ 0x00 ∷ 0x04 ∷ 0x00 ∷ 0x05 ∷ 0x00 ∷ []) ≡ done (ascii "pair\t5\t1\nstr\t61\nstr\t62\nstr\t63\nstr\t64\nstr\t65\ntype\t1\t0\t-\t1\t5\nnew\t4,9223372036854775807\t1\nnew\t4,-9223372036854775808\t2\nnew\t4,-1\t3\nnew\t4,128\t4\nnew\t4,0\t5\n"))
unfolding whole
numbers26 = refl

-- all 64 bits count: 2^32 strings
numbers27 :
    (file (0x80 ∷ 0x80 ∷ 0x80 ∷ 0x80 ∷ 0x10 ∷ 0x00 ∷ []) ≡ no 3 0)
unfolding whole
numbers27 = refl

-- all 64 bits count: 2^32 entries
numbers28 :
    (file (Q ++ 0x80 ∷ 0x80 ∷ 0x80 ∷ 0x80 ∷ 0x10 ∷ 0x00 ∷ []) ≡ no 3 11)
unfolding whole
numbers28 = refl

-- all 64 bits count: a name of 257
numbers29 :
    (file (Q ++ 0x01 ∷ 0x81 ∷ 0x02 ∷ 0x00 ∷ 0x00 ∷ 0x00 ∷ 0x00 ∷ []) ≡ no 5 12)
unfolding whole
numbers29 = refl

-- all 64 bits count: a name of 2^32 + 1
numbers30 :
    (file (Q ++ 0x01 ∷ 0x81 ∷ 0x80 ∷ 0x80 ∷ 0x80 ∷ 0x10 ∷ 0x00 ∷ 0x00 ∷ 0x00 ∷ 0x00 ∷ []) ≡ no 5 12)
unfolding whole
numbers30 = refl

-- all 64 bits count: a super name of 2^32
numbers31 :
    (file (Q ++ 0x01 ∷ 0x01 ∷ 0x80 ∷ 0x80 ∷ 0x80 ∷ 0x80 ∷ 0x10 ∷ 0x00 ∷ 0x00 ∷ 0x00 ∷ []) ≡ no 5 13)
unfolding whole
numbers31 = refl

-- all 64 bits count: a local start of 2^32
numbers32 :
    (file (Q ++ 0x02 ∷ 0x01 ∷ 0x00 ∷ 0x01 ∷ 0x00 ∷ 0x00 ∷ 0x02 ∷ 0x01 ∷ 0x80 ∷ 0x80 ∷ 0x80 ∷ 0x80 ∷ 0x10 ∷ 0x01 ∷ 0x00 ∷ 0x00 ∷ []) ≡ no 3 19)
unfolding whole
numbers32 = refl

-- all 64 bits count: a count of 2^32 + 1
numbers33 :
    (file (Q ++ 0x01 ∷ 0x01 ∷ 0x00 ∷ 0x81 ∷ 0x80 ∷ 0x80 ∷ 0x80 ∷ 0x10 ∷ 0x00 ∷ 0x00 ∷ []) ≡ no 3 14)
unfolding whole
numbers33 = refl

-- all 64 bits count: 2^32 fields
numbers34 :
    (file (Q ++ 0x01 ∷ 0x01 ∷ 0x00 ∷ 0x01 ∷ 0x00 ∷ 0x80 ∷ 0x80 ∷ 0x80 ∷ 0x80 ∷ 0x10 ∷ []) ≡ no 3 16)
unfolding whole
numbers34 = refl

-- all 64 bits count: a length of 2^32 + 1 in a kind
numbers35 :
    (file (Q ++ 0x01 ∷ 0x01 ∷ 0x00 ∷ 0x01 ∷ 0x00 ∷ 0x01 ∷ 0x00 ∷ 0x0F ∷ 0x81 ∷ 0x80 ∷ 0x80 ∷ 0x80 ∷ 0x10 ∷ 0x07 ∷ 0x01 ∷ 0x01 ∷ 0x05 ∷ []) ≡ no 3 19)
unfolding whole
numbers35 = refl

-- all 64 bits count: a field name of 2^32 + 1
numbers36 :
    (file (Q ++ 0x01 ∷ 0x01 ∷ 0x00 ∷ 0x01 ∷ 0x00 ∷ 0x01 ∷ 0x00 ∷ 0x07 ∷ 0x81 ∷ 0x80 ∷ 0x80 ∷ 0x80 ∷ 0x10 ∷ 0x01 ∷ 0x05 ∷ []) ≡ no 5 19)
unfolding whole
numbers36 = refl

-- all 64 bits count: an end of 2^32 + 1
numbers37 :
    (file (Q ++ 0x01 ∷ 0x01 ∷ 0x00 ∷ 0x01 ∷ 0x00 ∷ 0x01 ∷ 0x00 ∷ 0x07 ∷ 0x01 ∷ 0x81 ∷ 0x80 ∷ 0x80 ∷ 0x80 ∷ 0x10 ∷ 0x05 ∷ []) ≡ no 1 25)
unfolding whole
numbers37 = refl

-- all 64 bits count: an end of 257
numbers38 :
    (file (Q ++ 0x01 ∷ 0x01 ∷ 0x00 ∷ 0x01 ∷ 0x00 ∷ 0x01 ∷ 0x00 ∷ 0x07 ∷ 0x01 ∷ 0x81 ∷ 0x02 ∷ 0x05 ∷ []) ≡ no 1 22)
unfolding whole
numbers38 = refl

-- all 64 bits count: a string number of 2^32 + 1
numbers39 :
    (file (Q ++ 0x01 ∷ 0x01 ∷ 0x00 ∷ 0x01 ∷ 0x00 ∷ 0x01 ∷ 0x00 ∷ 0x0E ∷ 0x01 ∷ 0x05 ∷ 0x81 ∷ 0x80 ∷ 0x80 ∷ 0x80 ∷ 0x10 ∷ []) ≡ no 14 21)
unfolding whole
numbers39 = refl

-- all 64 bits count: an object number of 2^32 + 1
numbers40 :
    (file (Q ++ 0x01 ∷ 0x01 ∷ 0x00 ∷ 0x01 ∷ 0x00 ∷ 0x01 ∷ 0x00 ∷ 0x20 ∷ 0x01 ∷ 0x05 ∷ 0x81 ∷ 0x80 ∷ 0x80 ∷ 0x80 ∷ 0x10 ∷ []) ≡ no 14 21)
unfolding whole
numbers40 = refl

-- all 64 bits count: an array's length of 2^32 + 1
numbers41 :
    (file (Q ++ 0x01 ∷ 0x01 ∷ 0x00 ∷ 0x01 ∷ 0x00 ∷ 0x01 ∷ 0x00 ∷ 0x11 ∷ 0x07 ∷ 0x01 ∷ 0x06 ∷ 0x81 ∷ 0x80 ∷ 0x80 ∷ 0x80 ∷ 0x10 ∷ 0x05 ∷ []) ≡ no 3 22)
unfolding whole
numbers41 = refl

-- padded number of strings: 16383 is above the bound
numbers42 :
    (file (0xFF ∷ 0xFF ∷ 0x80 ∷ 0x00 ∷ []) ≡ no 3 0)
unfolding whole
numbers42 = refl

-- padded number of entries: 2097151 is above the bound
numbers43 :
    (file (P ++ 0xFF ∷ 0xFF ∷ 0xFF ∷ 0x00 ∷ []) ≡ no 3 26)
unfolding whole
numbers43 = refl

-- padded name: 0 is none
numbers44 :
    (file (P ++ 0x01 ∷ 0x80 ∷ 0x00 ∷ []) ≡ no 5 27)
unfolding whole
numbers44 = refl

-- padded name: 127 is too large
numbers45 :
    (file (P ++ 0x01 ∷ 0xFF ∷ 0x00 ∷ []) ≡ no 5 27)
unfolding whole
numbers45 = refl

-- padded name: 1 has an entry
numbers46 :
    (file (P ++ 0x02 ∷ 0x01 ∷ 0x00 ∷ 0x00 ∷ 0x00 ∷ 0x00 ∷ 0x81 ∷ 0x00 ∷ []) ≡ no 6 32)
unfolding whole
numbers46 = refl

-- padded super name: 127 is too large
numbers47 :
    (file (P ++ 0x01 ∷ 0x01 ∷ 0xFF ∷ 0x00 ∷ []) ≡ no 5 28)
unfolding whole
numbers47 = refl

-- padded super name: 2 is no type
numbers48 :
    (file (P ++ 0x01 ∷ 0x01 ∷ 0x82 ∷ 0x00 ∷ []) ≡ no 7 28)
unfolding whole
numbers48 = refl

-- padded super name: 0 is for none, and the count is due
numbers49 :
    (file (P ++ 0x01 ∷ 0x01 ∷ 0x80 ∷ 0x00 ∷ []) ≡ no 1 30)
unfolding whole
numbers49 = refl

-- padded local start: 2097151 is above the bound
numbers50 :
    (file (P ++ 0x02 ∷ 0x01 ∷ 0x00 ∷ 0x01 ∷ 0x00 ∷ 0x00 ∷ 0x02 ∷ 0x01 ∷ 0xFF ∷ 0xFF ∷ 0xFF ∷ 0x00 ∷ []) ≡ no 3 34)
unfolding whole
numbers50 = refl

-- padded count: 2097151 is above the bound
numbers51 :
    (file (P ++ 0x01 ∷ 0x01 ∷ 0x00 ∷ 0xFF ∷ 0xFF ∷ 0xFF ∷ 0x00 ∷ []) ≡ no 3 29)
unfolding whole
numbers51 = refl

-- padded count: 5 is past the range above
numbers52 :
    (file (P ++ 0x02 ∷ 0x01 ∷ 0x00 ∷ 0x01 ∷ 0x00 ∷ 0x00 ∷ 0x02 ∷ 0x01 ∷ 0x00 ∷ 0x85 ∷ 0x00 ∷ []) ≡ no 21 35)
unfolding whole
numbers52 = refl

-- padded restrictions of a type: 0, and the number of fields is due
numbers53 :
    (file (P ++ 0x01 ∷ 0x01 ∷ 0x00 ∷ 0x01 ∷ 0x80 ∷ 0x00 ∷ []) ≡ no 1 32)
unfolding whole
numbers53 = refl

-- padded restrictions of a type: 1
numbers54 :
    (file (P ++ 0x01 ∷ 0x01 ∷ 0x00 ∷ 0x01 ∷ 0x81 ∷ 0x00 ∷ []) ≡ no 9 30)
unfolding whole
numbers54 = refl

-- padded number of fields: 16383 is above the bound
numbers55 :
    (file (P ++ 0x01 ∷ 0x01 ∷ 0x00 ∷ 0x01 ∷ 0x00 ∷ 0xFF ∷ 0xFF ∷ 0x00 ∷ []) ≡ no 3 31)
unfolding whole
numbers55 = refl

-- padded number of fields: 0 of one known field
numbers56 :
    (file (D ++ 0x00 ∷ 0x01 ∷ 0x01 ∷ 0x01 ∷ 0x80 ∷ 0x00 ∷ []) ≡ no 11 33)
unfolding whole
numbers56 = refl

-- padded end of a known field: 1 is past the file
numbers57 :
    (file (D ++ 0x00 ∷ 0x01 ∷ 0x01 ∷ 0x01 ∷ 0x01 ∷ 0x81 ∷ 0x00 ∷ []) ≡ no 1 36)
unfolding whole
numbers57 = refl

-- padded restrictions of a field: 1
numbers58 :
    (file (P ++ 0x01 ∷ 0x01 ∷ 0x00 ∷ 0x01 ∷ 0x00 ∷ 0x01 ∷ 0x81 ∷ 0x00 ∷ []) ≡ no 9 32)
unfolding whole
numbers58 = refl

-- padded kind: 16 is not listed
numbers59 :
    (file (P ++ 0x01 ∷ 0x01 ∷ 0x00 ∷ 0x01 ∷ 0x00 ∷ 0x01 ∷ 0x00 ∷ 0x90 ∷ 0x00 ∷ []) ≡ no 10 33)
unfolding whole
numbers59 = refl

-- padded kind: 11 is listed
numbers60 :
    (listing 74 16384 (P ++ 0x01 ∷ 0x01 ∷ 0x00 ∷ 0x01 ∷ 0x00 ∷ 0x01 ∷ 0x00 ∷ 0x8B ∷ 0x00 ∷ 0x01 ∷ 0x01 ∷ 0x00 ∷ []) ≡ done (ascii "pair\t5\t1\nstr\t61\nstr\t62\nstr\t63\nstr\t64\nstr\t65\ntype\t1\t0\t-\t1\t1\nnew\t11\t1\nval\t0\n"))
unfolding whole
numbers60 = refl

-- padded constant: 0
numbers61 :
    (listing 69 16384 (P ++ 0x01 ∷ 0x01 ∷ 0x00 ∷ 0x01 ∷ 0x00 ∷ 0x01 ∷ 0x00 ∷ 0x04 ∷ 0x80 ∷ 0x00 ∷ 0x01 ∷ 0x00 ∷ []) ≡ done (ascii "pair\t5\t1\nstr\t61\nstr\t62\nstr\t63\nstr\t64\nstr\t65\ntype\t1\t0\t-\t1\t1\nnew\t4,0\t1\n"))
unfolding whole
numbers61 = refl

-- padded length in a kind: 2097151 is above the bound
numbers62 :
    (file (P ++ 0x01 ∷ 0x01 ∷ 0x00 ∷ 0x01 ∷ 0x00 ∷ 0x01 ∷ 0x00 ∷ 0x0F ∷ 0xFF ∷ 0xFF ∷ 0xFF ∷ 0x00 ∷ []) ≡ no 3 34)
unfolding whole
numbers62 = refl

-- padded element kind: 16 is not listed
numbers63 :
    (file (P ++ 0x01 ∷ 0x01 ∷ 0x00 ∷ 0x01 ∷ 0x00 ∷ 0x01 ∷ 0x00 ∷ 0x11 ∷ 0x90 ∷ 0x00 ∷ []) ≡ no 10 34)
unfolding whole
numbers63 = refl

-- padded element kind of a fixed array: 16 is not listed
numbers64 :
    (file (P ++ 0x01 ∷ 0x01 ∷ 0x00 ∷ 0x01 ∷ 0x00 ∷ 0x01 ∷ 0x00 ∷ 0x0F ∷ 0x02 ∷ 0x90 ∷ 0x00 ∷ []) ≡ no 10 35)
unfolding whole
numbers64 = refl

-- padded field name: 0 is none
numbers65 :
    (file (P ++ 0x01 ∷ 0x01 ∷ 0x00 ∷ 0x01 ∷ 0x00 ∷ 0x01 ∷ 0x00 ∷ 0x0B ∷ 0x80 ∷ 0x00 ∷ []) ≡ no 5 34)
unfolding whole
numbers65 = refl

-- padded field name: 1 is used
numbers66 :
    (file (P ++ 0x01 ∷ 0x01 ∷ 0x00 ∷ 0x01 ∷ 0x00 ∷ 0x02 ∷ 0x00 ∷ 0x0B ∷ 0x01 ∷ 0x01 ∷ 0x00 ∷ 0x0B ∷ 0x81 ∷ 0x00 ∷ []) ≡ no 6 38)
unfolding whole
numbers66 = refl

-- padded end: 0 falls
numbers67 :
    (file (P ++ 0x01 ∷ 0x01 ∷ 0x00 ∷ 0x01 ∷ 0x00 ∷ 0x02 ∷ 0x00 ∷ 0x0B ∷ 0x01 ∷ 0x01 ∷ 0x00 ∷ 0x0B ∷ 0x02 ∷ 0x80 ∷ 0x00 ∷ []) ≡ no 4 39)
unfolding whole
numbers67 = refl

-- a number of strings is due, b
numbers68 :
    (file (0x00 ∷ 0x00 ∷ 0x80 ∷ []) ≡ no 1 2)
unfolding whole
numbers68 = refl

-- the number of entries is due, a
numbers69 :
    (file (Q ++ []) ≡ no 1 11)
unfolding whole
numbers69 = refl

-- the number of entries is due, b
numbers70 :
    (file (Q ++ 0x80 ∷ []) ≡ no 1 11)
unfolding whole
numbers70 = refl

-- a name is due, a
numbers71 :
    (file (Q ++ 0x01 ∷ []) ≡ no 1 12)
unfolding whole
numbers71 = refl

-- a name is due, b
numbers72 :
    (file (Q ++ 0x01 ∷ 0x80 ∷ []) ≡ no 1 12)
unfolding whole
numbers72 = refl

-- a second entry's name is due
numbers73 :
    (file (Q ++ 0x02 ∷ 0x01 ∷ 0x00 ∷ 0x00 ∷ 0x00 ∷ 0x00 ∷ []) ≡ no 1 17)
unfolding whole
numbers73 = refl

-- a super name is due, a
numbers74 :
    (file (Q ++ 0x01 ∷ 0x01 ∷ []) ≡ no 1 13)
unfolding whole
numbers74 = refl

-- a super name is due, b
numbers75 :
    (file (Q ++ 0x01 ∷ 0x01 ∷ 0x80 ∷ []) ≡ no 1 13)
unfolding whole
numbers75 = refl

-- a local start is due, a
numbers76 :
    (file (Q ++ 0x02 ∷ 0x01 ∷ 0x00 ∷ 0x00 ∷ 0x00 ∷ 0x00 ∷ 0x02 ∷ 0x01 ∷ []) ≡ no 1 19)
unfolding whole
numbers76 = refl

-- a local start is due, b
numbers77 :
    (file (Q ++ 0x02 ∷ 0x01 ∷ 0x00 ∷ 0x00 ∷ 0x00 ∷ 0x00 ∷ 0x02 ∷ 0x01 ∷ 0x80 ∷ []) ≡ no 1 19)
unfolding whole
numbers77 = refl

-- a known type's local start is due
numbers78 :
    (file (Q ++ 0x02 ∷ 0x01 ∷ 0x00 ∷ 0x00 ∷ 0x00 ∷ 0x00 ∷ 0x02 ∷ 0x01 ∷ replicate 5 0x00 ++ 0x01 ∷ 0x02 ∷ []) ≡ no 1 26)
unfolding whole
numbers78 = refl

-- a count is due, a
numbers79 :
    (file (Q ++ 0x01 ∷ 0x01 ∷ 0x00 ∷ []) ≡ no 1 14)
unfolding whole
numbers79 = refl

-- a count is due, b
numbers80 :
    (file (Q ++ 0x01 ∷ 0x01 ∷ 0x00 ∷ 0x80 ∷ []) ≡ no 1 14)
unfolding whole
numbers80 = refl

-- a subtype's count is due
numbers81 :
    (file (Q ++ 0x02 ∷ 0x01 ∷ 0x00 ∷ 0x00 ∷ 0x00 ∷ 0x00 ∷ 0x02 ∷ 0x01 ∷ 0x00 ∷ []) ≡ no 1 20)
unfolding whole
numbers81 = refl

-- a known type's count is due
numbers82 :
    (file (Q ++ 0x01 ∷ 0x01 ∷ replicate 5 0x00 ++ 0x01 ∷ 0x01 ∷ []) ≡ no 1 20)
unfolding whole
numbers82 = refl

-- restrictions are due, a
numbers83 :
    (file (Q ++ 0x01 ∷ 0x01 ∷ 0x00 ∷ 0x01 ∷ []) ≡ no 1 15)
unfolding whole
numbers83 = refl

-- restrictions are due, b
numbers84 :
    (file (Q ++ 0x01 ∷ 0x01 ∷ 0x00 ∷ 0x01 ∷ 0x80 ∷ []) ≡ no 1 15)
unfolding whole
numbers84 = refl

-- the number of fields is due, a
numbers85 :
    (file (Q ++ 0x01 ∷ 0x01 ∷ 0x00 ∷ 0x01 ∷ 0x00 ∷ []) ≡ no 1 16)
unfolding whole
numbers85 = refl

-- the number of fields is due, b
numbers86 :
    (file (Q ++ 0x01 ∷ 0x01 ∷ 0x00 ∷ 0x01 ∷ 0x00 ∷ 0x80 ∷ []) ≡ no 1 16)
unfolding whole
numbers86 = refl

-- a known type's number of fields is due
numbers87 :
    (file (Q ++ 0x01 ∷ 0x01 ∷ 0x00 ∷ 0x01 ∷ 0x00 ∷ 0x00 ∷ 0x00 ∷ 0x01 ∷ 0x01 ∷ 0x01 ∷ []) ≡ no 1 21)
unfolding whole
numbers87 = refl

-- a known field's end is due, a
numbers88 :
    (file (D ++ 0x00 ∷ 0x01 ∷ 0x01 ∷ 0x01 ∷ 0x01 ∷ []) ≡ no 1 34)
unfolding whole
numbers88 = refl

-- a known field's end is due, b
numbers89 :
    (file (D ++ 0x00 ∷ 0x01 ∷ 0x01 ∷ 0x01 ∷ 0x01 ∷ 0x80 ∷ []) ≡ no 1 34)
unfolding whole
numbers89 = refl

-- restrictions of a field are due, a
numbers90 :
    (file (Q ++ 0x01 ∷ 0x01 ∷ 0x00 ∷ 0x01 ∷ 0x00 ∷ 0x01 ∷ []) ≡ no 1 17)
unfolding whole
numbers90 = refl

-- restrictions of a field are due, b
numbers91 :
    (file (Q ++ 0x01 ∷ 0x01 ∷ 0x00 ∷ 0x01 ∷ 0x00 ∷ 0x01 ∷ 0x80 ∷ []) ≡ no 1 17)
unfolding whole
numbers91 = refl

-- a kind is due, a
numbers92 :
    (file (Q ++ 0x01 ∷ 0x01 ∷ 0x00 ∷ 0x01 ∷ 0x00 ∷ 0x01 ∷ 0x00 ∷ []) ≡ no 1 18)
unfolding whole
numbers92 = refl

-- a kind is due, b
numbers93 :
    (file (Q ++ 0x01 ∷ 0x01 ∷ 0x00 ∷ 0x01 ∷ 0x00 ∷ 0x01 ∷ 0x00 ∷ 0x8B ∷ []) ≡ no 1 18)
unfolding whole
numbers93 = refl

-- a constant i8 is due
numbers94 :
    (file (Q ++ 0x01 ∷ 0x01 ∷ 0x00 ∷ 0x01 ∷ 0x00 ∷ 0x01 ∷ 0x00 ∷ 0x00 ∷ []) ≡ no 1 19)
unfolding whole
numbers94 = refl

-- a constant i16 is due, b
numbers95 :
    (file (Q ++ 0x01 ∷ 0x01 ∷ 0x00 ∷ 0x01 ∷ 0x00 ∷ 0x01 ∷ 0x00 ∷ 0x01 ∷ 0xFF ∷ []) ≡ no 1 19)
unfolding whole
numbers95 = refl

-- a constant i32 is due, b
numbers96 :
    (file (Q ++ 0x01 ∷ 0x01 ∷ 0x00 ∷ 0x01 ∷ 0x00 ∷ 0x01 ∷ 0x00 ∷ 0x02 ∷ 0xFF ∷ 0xFF ∷ 0xFF ∷ []) ≡ no 1 19)
unfolding whole
numbers96 = refl

-- a constant i64 is due, b
numbers97 :
    (file (Q ++ 0x01 ∷ 0x01 ∷ 0x00 ∷ 0x01 ∷ 0x00 ∷ 0x01 ∷ 0x00 ∷ 0x03 ∷ replicate 7 0xFF ++ []) ≡ no 1 19)
unfolding whole
numbers97 = refl

-- a constant v64 is due, a
numbers98 :
    (file (Q ++ 0x01 ∷ 0x01 ∷ 0x00 ∷ 0x01 ∷ 0x00 ∷ 0x01 ∷ 0x00 ∷ 0x04 ∷ []) ≡ no 1 19)
unfolding whole
numbers98 = refl

-- a constant v64 is due, b
numbers99 :
    (file (Q ++ 0x01 ∷ 0x01 ∷ 0x00 ∷ 0x01 ∷ 0x00 ∷ 0x01 ∷ 0x00 ∷ 0x04 ∷ replicate 8 0xFF ++ []) ≡ no 1 19)
unfolding whole
numbers99 = refl

-- a length in a kind is due
numbers100 :
    (file (Q ++ 0x01 ∷ 0x01 ∷ 0x00 ∷ 0x01 ∷ 0x00 ∷ 0x01 ∷ 0x00 ∷ 0x0F ∷ []) ≡ no 1 19)
unfolding whole
numbers100 = refl

-- a fixed array's element kind is due
numbers101 :
    (file (Q ++ 0x01 ∷ 0x01 ∷ 0x00 ∷ 0x01 ∷ 0x00 ∷ 0x01 ∷ 0x00 ∷ 0x0F ∷ 0x02 ∷ []) ≡ no 1 20)
unfolding whole
numbers101 = refl

-- an array's element kind is due
numbers102 :
    (file (Q ++ 0x01 ∷ 0x01 ∷ 0x00 ∷ 0x01 ∷ 0x00 ∷ 0x01 ∷ 0x00 ∷ 0x11 ∷ []) ≡ no 1 19)
unfolding whole
numbers102 = refl

-- a list's element kind is due
numbers103 :
    (file (Q ++ 0x01 ∷ 0x01 ∷ 0x00 ∷ 0x01 ∷ 0x00 ∷ 0x01 ∷ 0x00 ∷ 0x12 ∷ []) ≡ no 1 19)
unfolding whole
numbers103 = refl

-- a set's element kind is due
numbers104 :
    (file (Q ++ 0x01 ∷ 0x01 ∷ 0x00 ∷ 0x01 ∷ 0x00 ∷ 0x01 ∷ 0x00 ∷ 0x13 ∷ []) ≡ no 1 19)
unfolding whole
numbers104 = refl

-- a field name is due, a
numbers105 :
    (file (Q ++ 0x01 ∷ 0x01 ∷ 0x00 ∷ 0x01 ∷ 0x00 ∷ 0x01 ∷ 0x00 ∷ 0x0B ∷ []) ≡ no 1 19)
unfolding whole
numbers105 = refl

-- a field name is due, b
numbers106 :
    (file (Q ++ 0x01 ∷ 0x01 ∷ 0x00 ∷ 0x01 ∷ 0x00 ∷ 0x01 ∷ 0x00 ∷ 0x0B ∷ 0x80 ∷ []) ≡ no 1 19)
unfolding whole
numbers106 = refl

-- a field name is due behind a constant
numbers107 :
    (file (Q ++ 0x01 ∷ 0x01 ∷ 0x00 ∷ 0x01 ∷ 0x00 ∷ 0x01 ∷ 0x00 ∷ 0x01 ∷ 0xFF ∷ 0xFF ∷ []) ≡ no 1 21)
unfolding whole
numbers107 = refl

-- a field name is due behind an element kind
numbers108 :
    (file (Q ++ 0x01 ∷ 0x01 ∷ 0x00 ∷ 0x01 ∷ 0x00 ∷ 0x01 ∷ 0x00 ∷ 0x0F ∷ 0x02 ∷ 0x0B ∷ []) ≡ no 1 21)
unfolding whole
numbers108 = refl

-- an end is due, a
numbers109 :
    (file (Q ++ 0x01 ∷ 0x01 ∷ 0x00 ∷ 0x01 ∷ 0x00 ∷ 0x01 ∷ 0x00 ∷ 0x0B ∷ 0x01 ∷ []) ≡ no 1 20)
unfolding whole
numbers109 = refl

-- an end is due, b
numbers110 :
    (file (Q ++ 0x01 ∷ 0x01 ∷ 0x00 ∷ 0x01 ∷ 0x00 ∷ 0x01 ∷ 0x00 ∷ 0x0B ∷ 0x01 ∷ 0x80 ∷ []) ≡ no 1 20)
unfolding whole
numbers110 = refl

-- a second field is due
numbers111 :
    (file (Q ++ 0x01 ∷ 0x01 ∷ 0x00 ∷ 0x01 ∷ 0x00 ∷ 0x02 ∷ 0x00 ∷ 0x0B ∷ 0x01 ∷ 0x01 ∷ []) ≡ no 1 21)
unfolding whole
numbers111 = refl

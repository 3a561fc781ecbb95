-- Questions to the six calls, computed with the definitions: the answers are the second program's, and it writes this file.
-- Assumes nothing.
use Rattle.std.specs.Prelude.{◌≡◌, refl, List, [], ◌∷◌, ◌++◌, ℕ, zero, suc, ℤ, pos, negsuc, replicate}
use Rattle.paper.specs.Listing.{ascii}
use Rattle.paper.specs.Calls.{Answer, done, refused, check, objects, count_values, fill_values, listing, build, Left, after_check, after_objects, after_count, after_fill, after_listing, after_build}
use Rattle.paper.specs.Whole.{whole}

-- a piece n times
abbrev again : ℕ → List ℕ → List ℕ
again zero piece = []
again (suc n) piece = piece ++ again n piece

-- a type a of two objects with a field b of i8
abbrev two : List ℕ
two =
    0x02 ∷ 0x00 ∷ 0x00 ∷ 0x00 ∷ 0x01 ∷ 0x00 ∷ 0x00 ∷ 0x00 ∷ 0x02 ∷ 0x61 ∷ 0x62 ∷ 0x01 ∷ 0x01 ∷ 0x00 ∷ 0x02 ∷ 0x00 ∷ 0x01 ∷ 0x00 ∷ 0x07 ∷ 0x02 ∷ 0x02 ∷ 0x05 ∷ 0xFF ∷ []

-- the same and a number behind it that is cut in its padding
abbrev cut : List ℕ
cut =
    0x02 ∷ 0x00 ∷ 0x00 ∷ 0x00 ∷ 0x01 ∷ 0x00 ∷ 0x00 ∷ 0x00 ∷ 0x02 ∷ 0x61 ∷ 0x62 ∷ 0x01 ∷ 0x01 ∷ 0x00 ∷ 0x02 ∷ 0x00 ∷ 0x01 ∷ 0x00 ∷ 0x07 ∷ 0x02 ∷ 0x02 ∷ 0x05 ∷ 0xFF ∷ 0x80 ∷ 0x80 ∷ []

-- the empty file
abbrev empty : List ℕ
empty =
    []

-- three pairs
abbrev three : List ℕ
three =
    0x01 ∷ 0x00 ∷ 0x00 ∷ 0x00 ∷ 0x01 ∷ 0x61 ∷ 0x01 ∷ 0x01 ∷ 0x00 ∷ 0x00 ∷ 0x00 ∷ 0x00 ∷ 0x00 ∷ 0x00 ∷ 0x00 ∷ 0x01 ∷ 0x01 ∷ 0x01 ∷ 0x00 ∷ []

-- 15 comes first
table-short :
    (check 0 two ≡ refused 15) ×
    (objects (ascii "a") 0 two ≡ refused 15) ×
    (objects (ascii "z") 0 two ≡ refused 15) ×
    (check 0 cut ≡ refused 15) ×
    (objects (ascii "a") 0 cut ≡ refused 15) ×
    (objects (ascii "z") 0 cut ≡ refused 15) ×
    (check 0 empty ≡ refused 15) ×
    (objects (ascii "a") 0 empty ≡ refused 15) ×
    (objects (ascii "z") 0 empty ≡ refused 15) ×
    (check 16383 two ≡ refused 15) ×
    (objects (ascii "a") 16383 two ≡ refused 15) ×
    (objects (ascii "z") 16383 two ≡ refused 15) ×
    (check 16383 cut ≡ refused 15) ×
    (objects (ascii "a") 16383 cut ≡ refused 15) ×
    (objects (ascii "z") 16383 cut ≡ refused 15) ×
    (check 16383 empty ≡ refused 15) ×
    (objects (ascii "a") 16383 empty ≡ refused 15) ×
    (objects (ascii "z") 16383 empty ≡ refused 15)
unfolding whole
table-short = (refl, refl, refl, refl, refl, refl, refl, refl, refl, refl, refl, refl, refl, refl, refl, refl, refl, refl)

-- then the file's own refusal, then 16; an accepted check answers 0
table-enough :
    (check 16384 two ≡ done 0) ×
    (objects (ascii "a") 16384 two ≡ done 2) ×
    (objects (ascii "z") 16384 two ≡ refused 16) ×
    (check 16384 cut ≡ refused 1) ×
    (objects (ascii "a") 16384 cut ≡ refused 1) ×
    (objects (ascii "z") 16384 cut ≡ refused 1) ×
    (check 16384 empty ≡ done 0) ×
    (objects (ascii "a") 16384 empty ≡ refused 16) ×
    (objects (ascii "z") 16384 empty ≡ refused 16) ×
    (check 16384 three ≡ done 0) ×
    (objects (ascii "a") 16384 three ≡ done 1) ×
    (objects (ascii "z") 16384 three ≡ refused 16) ×
    (check 16385 two ≡ done 0) ×
    (objects (ascii "a") 16385 two ≡ done 2) ×
    (objects (ascii "z") 16385 two ≡ refused 16) ×
    (check 16385 cut ≡ refused 1) ×
    (objects (ascii "a") 16385 cut ≡ refused 1) ×
    (objects (ascii "z") 16385 cut ≡ refused 1) ×
    (check 16385 empty ≡ done 0) ×
    (objects (ascii "a") 16385 empty ≡ refused 16) ×
    (objects (ascii "z") 16385 empty ≡ refused 16) ×
    (check 16385 three ≡ done 0) ×
    (objects (ascii "a") 16385 three ≡ done 1) ×
    (objects (ascii "z") 16385 three ≡ refused 16) ×
    (check 49152 two ≡ done 0) ×
    (objects (ascii "a") 49152 two ≡ done 2) ×
    (objects (ascii "z") 49152 two ≡ refused 16) ×
    (check 49152 cut ≡ refused 1) ×
    (objects (ascii "a") 49152 cut ≡ refused 1) ×
    (objects (ascii "z") 49152 cut ≡ refused 1) ×
    (check 49152 empty ≡ done 0) ×
    (objects (ascii "a") 49152 empty ≡ refused 16) ×
    (objects (ascii "z") 49152 empty ≡ refused 16) ×
    (check 49152 three ≡ done 0) ×
    (objects (ascii "a") 49152 three ≡ done 1) ×
    (objects (ascii "z") 49152 three ≡ refused 16)
unfolding whole
table-enough = (refl, refl, refl, refl, refl, refl, refl, refl, refl, refl, refl, refl, refl, refl, refl, refl, refl, refl, refl, refl, refl, refl, refl, refl, refl, refl, refl, refl, refl, refl, refl, refl, refl, refl, refl, refl)

-- 15, the file's own refusal, 16, 17, 18: every choice of wrong names and kind
count-order :
    (count_values (ascii "z") (ascii "z") 33 16384 cut ≡ refused 1) ×
    (count_values (ascii "z") (ascii "z") 33 16384 two ≡ refused 16) ×
    (count_values (ascii "z") (ascii "z") 7 16384 cut ≡ refused 1) ×
    (count_values (ascii "z") (ascii "z") 7 16384 two ≡ refused 16) ×
    (count_values (ascii "z") (ascii "b") 33 16384 cut ≡ refused 1) ×
    (count_values (ascii "z") (ascii "b") 33 16384 two ≡ refused 16) ×
    (count_values (ascii "z") (ascii "b") 7 16384 cut ≡ refused 1) ×
    (count_values (ascii "z") (ascii "b") 7 16384 two ≡ refused 16) ×
    (count_values (ascii "a") (ascii "z") 33 16384 cut ≡ refused 1) ×
    (count_values (ascii "a") (ascii "z") 33 16384 two ≡ refused 17) ×
    (count_values (ascii "a") (ascii "z") 7 16384 cut ≡ refused 1) ×
    (count_values (ascii "a") (ascii "z") 7 16384 two ≡ refused 17) ×
    (count_values (ascii "a") (ascii "b") 33 16384 cut ≡ refused 1) ×
    (count_values (ascii "a") (ascii "b") 33 16384 two ≡ refused 18) ×
    (count_values (ascii "a") (ascii "b") 7 16384 cut ≡ refused 1) ×
    (count_values (ascii "a") (ascii "b") 7 16384 two ≡ done 2) ×
    (count_values (ascii "z") (ascii "z") 33 16383 cut ≡ refused 15) ×
    (count_values (ascii "z") (ascii "z") 33 16383 two ≡ refused 15) ×
    (count_values (ascii "a") (ascii "b") 7 16383 cut ≡ refused 15) ×
    (count_values (ascii "a") (ascii "b") 7 16383 two ≡ refused 15)
unfolding whole
count-order = (refl, refl, refl, refl, refl, refl, refl, refl, refl, refl, refl, refl, refl, refl, refl, refl, refl, refl, refl, refl)

-- 15, the file's own refusal, 16, 17, 18, 19: every choice of what is wrong
fill-order :
    (fill_values (ascii "z") (ascii "z") 33 1 16383 cut ≡ refused 15) ×
    (fill_values (ascii "z") (ascii "z") 33 1 16383 two ≡ refused 15) ×
    (fill_values (ascii "z") (ascii "z") 33 1 16384 cut ≡ refused 1) ×
    (fill_values (ascii "z") (ascii "z") 33 1 16384 two ≡ refused 16) ×
    (fill_values (ascii "z") (ascii "z") 33 2 16383 cut ≡ refused 15) ×
    (fill_values (ascii "z") (ascii "z") 33 2 16383 two ≡ refused 15) ×
    (fill_values (ascii "z") (ascii "z") 33 2 16384 cut ≡ refused 1) ×
    (fill_values (ascii "z") (ascii "z") 33 2 16384 two ≡ refused 16) ×
    (fill_values (ascii "z") (ascii "z") 7 1 16383 cut ≡ refused 15) ×
    (fill_values (ascii "z") (ascii "z") 7 1 16383 two ≡ refused 15) ×
    (fill_values (ascii "z") (ascii "z") 7 1 16384 cut ≡ refused 1) ×
    (fill_values (ascii "z") (ascii "z") 7 1 16384 two ≡ refused 16) ×
    (fill_values (ascii "z") (ascii "z") 7 2 16383 cut ≡ refused 15) ×
    (fill_values (ascii "z") (ascii "z") 7 2 16383 two ≡ refused 15) ×
    (fill_values (ascii "z") (ascii "z") 7 2 16384 cut ≡ refused 1) ×
    (fill_values (ascii "z") (ascii "z") 7 2 16384 two ≡ refused 16) ×
    (fill_values (ascii "z") (ascii "b") 33 1 16383 cut ≡ refused 15) ×
    (fill_values (ascii "z") (ascii "b") 33 1 16383 two ≡ refused 15) ×
    (fill_values (ascii "z") (ascii "b") 33 1 16384 cut ≡ refused 1) ×
    (fill_values (ascii "z") (ascii "b") 33 1 16384 two ≡ refused 16) ×
    (fill_values (ascii "z") (ascii "b") 33 2 16383 cut ≡ refused 15) ×
    (fill_values (ascii "z") (ascii "b") 33 2 16383 two ≡ refused 15) ×
    (fill_values (ascii "z") (ascii "b") 33 2 16384 cut ≡ refused 1) ×
    (fill_values (ascii "z") (ascii "b") 33 2 16384 two ≡ refused 16) ×
    (fill_values (ascii "z") (ascii "b") 7 1 16383 cut ≡ refused 15) ×
    (fill_values (ascii "z") (ascii "b") 7 1 16383 two ≡ refused 15) ×
    (fill_values (ascii "z") (ascii "b") 7 1 16384 cut ≡ refused 1) ×
    (fill_values (ascii "z") (ascii "b") 7 1 16384 two ≡ refused 16) ×
    (fill_values (ascii "z") (ascii "b") 7 2 16383 cut ≡ refused 15) ×
    (fill_values (ascii "z") (ascii "b") 7 2 16383 two ≡ refused 15) ×
    (fill_values (ascii "z") (ascii "b") 7 2 16384 cut ≡ refused 1) ×
    (fill_values (ascii "z") (ascii "b") 7 2 16384 two ≡ refused 16) ×
    (fill_values (ascii "a") (ascii "z") 33 1 16383 cut ≡ refused 15) ×
    (fill_values (ascii "a") (ascii "z") 33 1 16383 two ≡ refused 15) ×
    (fill_values (ascii "a") (ascii "z") 33 1 16384 cut ≡ refused 1) ×
    (fill_values (ascii "a") (ascii "z") 33 1 16384 two ≡ refused 17) ×
    (fill_values (ascii "a") (ascii "z") 33 2 16383 cut ≡ refused 15) ×
    (fill_values (ascii "a") (ascii "z") 33 2 16383 two ≡ refused 15) ×
    (fill_values (ascii "a") (ascii "z") 33 2 16384 cut ≡ refused 1) ×
    (fill_values (ascii "a") (ascii "z") 33 2 16384 two ≡ refused 17) ×
    (fill_values (ascii "a") (ascii "z") 7 1 16383 cut ≡ refused 15) ×
    (fill_values (ascii "a") (ascii "z") 7 1 16383 two ≡ refused 15) ×
    (fill_values (ascii "a") (ascii "z") 7 1 16384 cut ≡ refused 1) ×
    (fill_values (ascii "a") (ascii "z") 7 1 16384 two ≡ refused 17) ×
    (fill_values (ascii "a") (ascii "z") 7 2 16383 cut ≡ refused 15) ×
    (fill_values (ascii "a") (ascii "z") 7 2 16383 two ≡ refused 15) ×
    (fill_values (ascii "a") (ascii "z") 7 2 16384 cut ≡ refused 1) ×
    (fill_values (ascii "a") (ascii "z") 7 2 16384 two ≡ refused 17) ×
    (fill_values (ascii "a") (ascii "b") 33 1 16383 cut ≡ refused 15) ×
    (fill_values (ascii "a") (ascii "b") 33 1 16383 two ≡ refused 15) ×
    (fill_values (ascii "a") (ascii "b") 33 1 16384 cut ≡ refused 1) ×
    (fill_values (ascii "a") (ascii "b") 33 1 16384 two ≡ refused 18) ×
    (fill_values (ascii "a") (ascii "b") 33 2 16383 cut ≡ refused 15) ×
    (fill_values (ascii "a") (ascii "b") 33 2 16383 two ≡ refused 15) ×
    (fill_values (ascii "a") (ascii "b") 33 2 16384 cut ≡ refused 1) ×
    (fill_values (ascii "a") (ascii "b") 33 2 16384 two ≡ refused 18) ×
    (fill_values (ascii "a") (ascii "b") 7 1 16383 cut ≡ refused 15) ×
    (fill_values (ascii "a") (ascii "b") 7 1 16383 two ≡ refused 15) ×
    (fill_values (ascii "a") (ascii "b") 7 1 16384 cut ≡ refused 1) ×
    (fill_values (ascii "a") (ascii "b") 7 1 16384 two ≡ refused 19) ×
    (fill_values (ascii "a") (ascii "b") 7 2 16383 cut ≡ refused 15) ×
    (fill_values (ascii "a") (ascii "b") 7 2 16383 two ≡ refused 15) ×
    (fill_values (ascii "a") (ascii "b") 7 2 16384 cut ≡ refused 1) ×
    (fill_values (ascii "a") (ascii "b") 7 2 16384 two ≡ done (pos 5 ∷ negsuc 0 ∷ []))
unfolding whole
fill-order = (refl, refl, refl, refl, refl, refl, refl, refl, refl, refl, refl, refl, refl, refl, refl, refl, refl, refl, refl, refl, refl, refl, refl, refl, refl, refl, refl, refl, refl, refl, refl, refl, refl, refl, refl, refl, refl, refl, refl, refl, refl, refl, refl, refl, refl, refl, refl, refl, refl, refl, refl, refl, refl, refl, refl, refl, refl, refl, refl, refl, refl, refl, refl, refl)

-- how many there are, then no room, one more than needed, much more
fill-rooms :
    (count_values (ascii "a") (ascii "b") 7 16385 two ≡ done 2) ×
    (count_values (ascii "a") (ascii "b") 8 16385 two ≡ refused 18) ×
    (count_values (ascii "a") (ascii "z") 7 16385 two ≡ refused 17) ×
    (fill_values (ascii "a") (ascii "b") 7 0 16385 two ≡ refused 19) ×
    (fill_values (ascii "a") (ascii "b") 8 0 16385 two ≡ refused 18) ×
    (fill_values (ascii "a") (ascii "z") 7 0 16385 two ≡ refused 17) ×
    (fill_values (ascii "a") (ascii "b") 7 3 16385 two ≡ done (pos 5 ∷ negsuc 0 ∷ [])) ×
    (fill_values (ascii "a") (ascii "b") 8 3 16385 two ≡ refused 18) ×
    (fill_values (ascii "a") (ascii "z") 7 3 16385 two ≡ refused 17) ×
    (fill_values (ascii "a") (ascii "b") 7 100 16385 two ≡ done (pos 5 ∷ negsuc 0 ∷ [])) ×
    (fill_values (ascii "a") (ascii "b") 8 100 16385 two ≡ refused 18) ×
    (fill_values (ascii "a") (ascii "z") 7 100 16385 two ≡ refused 17)
unfolding whole
fill-rooms = (refl, refl, refl, refl, refl, refl, refl, refl, refl, refl, refl, refl)

-- 15, the file's own refusal, 19
listing-order :
    (listing 0 16383 two ≡ refused 15) ×
    (listing 58 16383 two ≡ refused 15) ×
    (listing 59 16383 two ≡ refused 15) ×
    (listing 60 16383 two ≡ refused 15) ×
    (listing 0 16383 cut ≡ refused 15) ×
    (listing 1000 16383 cut ≡ refused 15) ×
    (listing 0 16383 empty ≡ refused 15) ×
    (listing 1 16383 empty ≡ refused 15) ×
    (listing 0 16384 two ≡ refused 19) ×
    (listing 58 16384 two ≡ refused 19) ×
    (listing 59 16384 two ≡ done (ascii "pair\t2\t1\nstr\t61\nstr\t62\ntype\t1\t0\t-\t2\t1\nnew\t7\t2\nval\t5\nval\t-1\n")) ×
    (listing 60 16384 two ≡ done (ascii "pair\t2\t1\nstr\t61\nstr\t62\ntype\t1\t0\t-\t2\t1\nnew\t7\t2\nval\t5\nval\t-1\n")) ×
    (listing 0 16384 cut ≡ refused 1) ×
    (listing 1000 16384 cut ≡ refused 1) ×
    (listing 0 16384 empty ≡ done []) ×
    (listing 1 16384 empty ≡ done []) ×
    (listing 0 16385 two ≡ refused 19) ×
    (listing 58 16385 two ≡ refused 19) ×
    (listing 59 16385 two ≡ done (ascii "pair\t2\t1\nstr\t61\nstr\t62\ntype\t1\t0\t-\t2\t1\nnew\t7\t2\nval\t5\nval\t-1\n")) ×
    (listing 60 16385 two ≡ done (ascii "pair\t2\t1\nstr\t61\nstr\t62\ntype\t1\t0\t-\t2\t1\nnew\t7\t2\nval\t5\nval\t-1\n")) ×
    (listing 0 16385 cut ≡ refused 1) ×
    (listing 1000 16385 cut ≡ refused 1) ×
    (listing 0 16385 empty ≡ done []) ×
    (listing 1 16385 empty ≡ done [])
unfolding whole
listing-order = (refl, refl, refl, refl, refl, refl, refl, refl, refl, refl, refl, refl, refl, refl, refl, refl, refl, refl, refl, refl, refl, refl, refl, refl)

-- 15, 20, 19; the empty text gives the empty file
build-order :
    (build 0 16383 (ascii "pair\t2\t1\nstr\t61\nstr\t62\ntype\t1\t0\t-\t2\t1\nnew\t7\t2\nval\t5\nval\t-1\n") ≡ refused 15) ×
    (build 22 16383 (ascii "pair\t2\t1\nstr\t61\nstr\t62\ntype\t1\t0\t-\t2\t1\nnew\t7\t2\nval\t5\nval\t-1\n") ≡ refused 15) ×
    (build 23 16383 (ascii "pair\t2\t1\nstr\t61\nstr\t62\ntype\t1\t0\t-\t2\t1\nnew\t7\t2\nval\t5\nval\t-1\n") ≡ refused 15) ×
    (build 24 16383 (ascii "pair\t2\t1\nstr\t61\nstr\t62\ntype\t1\t0\t-\t2\t1\nnew\t7\t2\nval\t5\nval\t-1\n") ≡ refused 15) ×
    (build 1000 16383 (ascii "pair\t2\t1\nstr\t61\nstr\t62\ntype\t1\t0\t-\t2\t1\nnew\t7\t2\nval\t5\nval\t-1\n") ≡ refused 15) ×
    (build 0 16383 (ascii "pair\t0\t0") ≡ refused 15) ×
    (build 0 16383 [] ≡ refused 15) ×
    (build 7 16383 (ascii "pair\t0\t0") ≡ refused 15) ×
    (build 7 16383 [] ≡ refused 15) ×
    (build 8 16383 (ascii "pair\t0\t0") ≡ refused 15) ×
    (build 8 16383 [] ≡ refused 15) ×
    (build 1000 16383 (ascii "pair\t0\t0") ≡ refused 15) ×
    (build 1000 16383 [] ≡ refused 15) ×
    (build 0 16384 (ascii "pair\t2\t1\nstr\t61\nstr\t62\ntype\t1\t0\t-\t2\t1\nnew\t7\t2\nval\t5\nval\t-1\n") ≡ refused 19) ×
    (build 22 16384 (ascii "pair\t2\t1\nstr\t61\nstr\t62\ntype\t1\t0\t-\t2\t1\nnew\t7\t2\nval\t5\nval\t-1\n") ≡ refused 19) ×
    (build 23 16384 (ascii "pair\t2\t1\nstr\t61\nstr\t62\ntype\t1\t0\t-\t2\t1\nnew\t7\t2\nval\t5\nval\t-1\n") ≡ done (0x02 ∷ 0x00 ∷ 0x00 ∷ 0x00 ∷ 0x01 ∷ 0x00 ∷ 0x00 ∷ 0x00 ∷ 0x02 ∷ 0x61 ∷ 0x62 ∷ 0x01 ∷ 0x01 ∷ 0x00 ∷ 0x02 ∷ 0x00 ∷ 0x01 ∷ 0x00 ∷ 0x07 ∷ 0x02 ∷ 0x02 ∷ 0x05 ∷ 0xFF ∷ [])) ×
    (build 24 16384 (ascii "pair\t2\t1\nstr\t61\nstr\t62\ntype\t1\t0\t-\t2\t1\nnew\t7\t2\nval\t5\nval\t-1\n") ≡ done (0x02 ∷ 0x00 ∷ 0x00 ∷ 0x00 ∷ 0x01 ∷ 0x00 ∷ 0x00 ∷ 0x00 ∷ 0x02 ∷ 0x61 ∷ 0x62 ∷ 0x01 ∷ 0x01 ∷ 0x00 ∷ 0x02 ∷ 0x00 ∷ 0x01 ∷ 0x00 ∷ 0x07 ∷ 0x02 ∷ 0x02 ∷ 0x05 ∷ 0xFF ∷ [])) ×
    (build 1000 16384 (ascii "pair\t2\t1\nstr\t61\nstr\t62\ntype\t1\t0\t-\t2\t1\nnew\t7\t2\nval\t5\nval\t-1\n") ≡ done (0x02 ∷ 0x00 ∷ 0x00 ∷ 0x00 ∷ 0x01 ∷ 0x00 ∷ 0x00 ∷ 0x00 ∷ 0x02 ∷ 0x61 ∷ 0x62 ∷ 0x01 ∷ 0x01 ∷ 0x00 ∷ 0x02 ∷ 0x00 ∷ 0x01 ∷ 0x00 ∷ 0x07 ∷ 0x02 ∷ 0x02 ∷ 0x05 ∷ 0xFF ∷ [])) ×
    (build 0 16384 (ascii "pair\t0\t0") ≡ refused 20) ×
    (build 0 16384 [] ≡ done ([])) ×
    (build 7 16384 (ascii "pair\t0\t0") ≡ refused 20) ×
    (build 7 16384 [] ≡ done ([])) ×
    (build 8 16384 (ascii "pair\t0\t0") ≡ refused 20) ×
    (build 8 16384 [] ≡ done ([])) ×
    (build 1000 16384 (ascii "pair\t0\t0") ≡ refused 20) ×
    (build 1000 16384 [] ≡ done ([])) ×
    (build 0 16385 (ascii "pair\t2\t1\nstr\t61\nstr\t62\ntype\t1\t0\t-\t2\t1\nnew\t7\t2\nval\t5\nval\t-1\n") ≡ refused 19) ×
    (build 22 16385 (ascii "pair\t2\t1\nstr\t61\nstr\t62\ntype\t1\t0\t-\t2\t1\nnew\t7\t2\nval\t5\nval\t-1\n") ≡ refused 19) ×
    (build 23 16385 (ascii "pair\t2\t1\nstr\t61\nstr\t62\ntype\t1\t0\t-\t2\t1\nnew\t7\t2\nval\t5\nval\t-1\n") ≡ done (0x02 ∷ 0x00 ∷ 0x00 ∷ 0x00 ∷ 0x01 ∷ 0x00 ∷ 0x00 ∷ 0x00 ∷ 0x02 ∷ 0x61 ∷ 0x62 ∷ 0x01 ∷ 0x01 ∷ 0x00 ∷ 0x02 ∷ 0x00 ∷ 0x01 ∷ 0x00 ∷ 0x07 ∷ 0x02 ∷ 0x02 ∷ 0x05 ∷ 0xFF ∷ [])) ×
    (build 24 16385 (ascii "pair\t2\t1\nstr\t61\nstr\t62\ntype\t1\t0\t-\t2\t1\nnew\t7\t2\nval\t5\nval\t-1\n") ≡ done (0x02 ∷ 0x00 ∷ 0x00 ∷ 0x00 ∷ 0x01 ∷ 0x00 ∷ 0x00 ∷ 0x00 ∷ 0x02 ∷ 0x61 ∷ 0x62 ∷ 0x01 ∷ 0x01 ∷ 0x00 ∷ 0x02 ∷ 0x00 ∷ 0x01 ∷ 0x00 ∷ 0x07 ∷ 0x02 ∷ 0x02 ∷ 0x05 ∷ 0xFF ∷ [])) ×
    (build 1000 16385 (ascii "pair\t2\t1\nstr\t61\nstr\t62\ntype\t1\t0\t-\t2\t1\nnew\t7\t2\nval\t5\nval\t-1\n") ≡ done (0x02 ∷ 0x00 ∷ 0x00 ∷ 0x00 ∷ 0x01 ∷ 0x00 ∷ 0x00 ∷ 0x00 ∷ 0x02 ∷ 0x61 ∷ 0x62 ∷ 0x01 ∷ 0x01 ∷ 0x00 ∷ 0x02 ∷ 0x00 ∷ 0x01 ∷ 0x00 ∷ 0x07 ∷ 0x02 ∷ 0x02 ∷ 0x05 ∷ 0xFF ∷ [])) ×
    (build 0 16385 (ascii "pair\t0\t0") ≡ refused 20) ×
    (build 0 16385 [] ≡ done ([])) ×
    (build 7 16385 (ascii "pair\t0\t0") ≡ refused 20) ×
    (build 7 16385 [] ≡ done ([])) ×
    (build 8 16385 (ascii "pair\t0\t0") ≡ refused 20) ×
    (build 8 16385 [] ≡ done ([])) ×
    (build 1000 16385 (ascii "pair\t0\t0") ≡ refused 20) ×
    (build 1000 16385 [] ≡ done ([]))
unfolding whole
build-order = (refl, refl, refl, refl, refl, refl, refl, refl, refl, refl, refl, refl, refl, refl, refl, refl, refl, refl, refl, refl, refl, refl, refl, refl, refl, refl, refl, refl, refl, refl, refl, refl, refl, refl, refl, refl, refl, refl, refl)

-- signed numbers of each width at their ends
abbrev wholes : List ℕ
wholes =
    0x06 ∷ 0x00 ∷ 0x00 ∷ 0x00 ∷ 0x01 ∷ 0x00 ∷ 0x00 ∷ 0x00 ∷ 0x02 ∷ 0x00 ∷ 0x00 ∷ 0x00 ∷ 0x03 ∷ 0x00 ∷ 0x00 ∷ 0x00 ∷ 0x04 ∷ 0x00 ∷ 0x00 ∷ 0x00 ∷ 0x05 ∷ 0x00 ∷ 0x00 ∷ 0x00 ∷ 0x06 ∷ 0x61 ∷ 0x62 ∷ 0x63 ∷ 0x64 ∷ 0x65 ∷ 0x66 ∷ 0x01 ∷ 0x01 ∷ 0x00 ∷ 0x03 ∷ 0x00 ∷ 0x05 ∷ 0x00 ∷ 0x07 ∷ 0x02 ∷ 0x03 ∷ 0x00 ∷ 0x08 ∷ 0x03 ∷ 0x09 ∷ 0x00 ∷ 0x09 ∷ 0x04 ∷ 0x15 ∷ 0x00 ∷ 0x0A ∷ 0x05 ∷ 0x2D ∷ 0x00 ∷ 0x0B ∷ 0x06 ∷ 0x48 ∷ 0x80 ∷ 0x7F ∷ 0xFF ∷ 0x80 ∷ 0x00 ∷ 0x7F ∷ 0xFF ∷ 0x00 ∷ 0xFF ∷ 0x80 ∷ 0x00 ∷ 0x00 ∷ 0x00 ∷ 0x7F ∷ 0xFF ∷ 0xFF ∷ 0xFF ∷ 0x00 ∷ 0x01 ∷ 0x00 ∷ 0x00 ∷ 0x80 ∷ 0x00 ∷ 0x00 ∷ 0x00 ∷ 0x00 ∷ 0x00 ∷ 0x00 ∷ 0x00 ∷ 0x7F ∷ 0xFF ∷ 0xFF ∷ 0xFF ∷ 0xFF ∷ 0xFF ∷ 0xFF ∷ 0xFF ∷ 0x00 ∷ 0x00 ∷ 0x00 ∷ 0x01 ∷ 0x00 ∷ 0x00 ∷ 0x00 ∷ 0x00 ∷ 0x80 ∷ 0x80 ∷ 0x80 ∷ 0x80 ∷ 0x80 ∷ 0x80 ∷ 0x80 ∷ 0x80 ∷ 0x80 ∷ 0xFF ∷ 0xFF ∷ 0xFF ∷ 0xFF ∷ 0xFF ∷ 0xFF ∷ 0xFF ∷ 0xFF ∷ 0x7F ∷ 0xFE ∷ 0xFF ∷ 0xFF ∷ 0xFF ∷ 0xFF ∷ 0xFF ∷ 0xFF ∷ 0xFF ∷ 0xFF ∷ []

-- signed numbers of each width at their ends
fill-wholes :
    (fill_values (ascii "a") (ascii "b") 7 3 16384 wholes ≡ done (negsuc 127 ∷ pos 127 ∷ negsuc 0 ∷ [])) ×
    (fill_values (ascii "a") (ascii "c") 8 3 16384 wholes ≡ done (negsuc 32767 ∷ pos 32767 ∷ pos 255 ∷ [])) ×
    (fill_values (ascii "a") (ascii "d") 9 3 16384 wholes ≡ done (negsuc 2147483647 ∷ pos 2147483647 ∷ pos 65536 ∷ [])) ×
    (fill_values (ascii "a") (ascii "e") 10 3 16384 wholes ≡ done (negsuc 9223372036854775807 ∷ pos 9223372036854775807 ∷ pos 4294967296 ∷ [])) ×
    (fill_values (ascii "a") (ascii "f") 11 3 16384 wholes ≡ done (negsuc 9223372036854775807 ∷ pos 9223372036854775807 ∷ negsuc 1 ∷ []))
unfolding whole
fill-wholes = (refl, refl, refl, refl, refl)

-- and asked for as other kinds
fill-wholes-other :
    (fill_values (ascii "a") (ascii "b") 6 3 16384 wholes ≡ refused 18) ×
    (fill_values (ascii "a") (ascii "b") 8 3 16384 wholes ≡ refused 18) ×
    (fill_values (ascii "a") (ascii "b") 0 3 16384 wholes ≡ refused 18) ×
    (fill_values (ascii "a") (ascii "c") 7 3 16384 wholes ≡ refused 18) ×
    (fill_values (ascii "a") (ascii "c") 1 3 16384 wholes ≡ refused 18) ×
    (fill_values (ascii "a") (ascii "d") 10 3 16384 wholes ≡ refused 18) ×
    (fill_values (ascii "a") (ascii "d") 12 3 16384 wholes ≡ refused 18) ×
    (fill_values (ascii "a") (ascii "e") 11 3 16384 wholes ≡ refused 18) ×
    (fill_values (ascii "a") (ascii "e") 13 3 16384 wholes ≡ refused 18) ×
    (fill_values (ascii "a") (ascii "f") 4 3 16384 wholes ≡ refused 18) ×
    (fill_values (ascii "a") (ascii "f") 10 3 16384 wholes ≡ refused 18) ×
    (fill_values (ascii "a") (ascii "f") 12 3 16384 wholes ≡ refused 18) ×
    (fill_values (ascii "a") (ascii "f") 18446744073709551615 3 16384 wholes ≡ refused 18) ×
    (fill_values (ascii "a") (ascii "f") 4294967307 3 16384 wholes ≡ refused 18)
unfolding whole
fill-wholes-other = (refl, refl, refl, refl, refl, refl, refl, refl, refl, refl, refl, refl, refl, refl)

-- how many of them there are
count-wholes :
    (count_values (ascii "a") (ascii "b") 7 16384 wholes ≡ done 3) ×
    (count_values (ascii "a") (ascii "c") 8 16384 wholes ≡ done 3) ×
    (count_values (ascii "a") (ascii "d") 9 16384 wholes ≡ done 3) ×
    (count_values (ascii "a") (ascii "e") 10 16384 wholes ≡ done 3) ×
    (count_values (ascii "a") (ascii "f") 11 16384 wholes ≡ done 3) ×
    (count_values (ascii "a") (ascii "b") 0 16384 wholes ≡ refused 18) ×
    (count_values (ascii "a") (ascii "f") 4294967307 16384 wholes ≡ refused 18)
unfolding whole
count-wholes = (refl, refl, refl, refl, refl, refl, refl)

-- flags, floats with the top bit, strings and references
abbrev others : List ℕ
others =
    0x06 ∷ 0x00 ∷ 0x00 ∷ 0x00 ∷ 0x01 ∷ 0x00 ∷ 0x00 ∷ 0x00 ∷ 0x02 ∷ 0x00 ∷ 0x00 ∷ 0x00 ∷ 0x03 ∷ 0x00 ∷ 0x00 ∷ 0x00 ∷ 0x04 ∷ 0x00 ∷ 0x00 ∷ 0x00 ∷ 0x05 ∷ 0x00 ∷ 0x00 ∷ 0x00 ∷ 0x06 ∷ 0x61 ∷ 0x62 ∷ 0x63 ∷ 0x64 ∷ 0x65 ∷ 0x66 ∷ 0x01 ∷ 0x01 ∷ 0x00 ∷ 0x03 ∷ 0x00 ∷ 0x05 ∷ 0x00 ∷ 0x06 ∷ 0x02 ∷ 0x03 ∷ 0x00 ∷ 0x0C ∷ 0x03 ∷ 0x0F ∷ 0x00 ∷ 0x0D ∷ 0x04 ∷ 0x27 ∷ 0x00 ∷ 0x0E ∷ 0x05 ∷ 0x2A ∷ 0x00 ∷ 0x20 ∷ 0x06 ∷ 0x2D ∷ 0xFF ∷ 0x00 ∷ 0xFF ∷ 0xFF ∷ 0x80 ∷ 0x00 ∷ 0x01 ∷ 0x7F ∷ 0x80 ∷ 0x00 ∷ 0x00 ∷ 0x00 ∷ 0x00 ∷ 0x00 ∷ 0x01 ∷ 0x80 ∷ 0x00 ∷ 0x00 ∷ 0x00 ∷ 0x00 ∷ 0x00 ∷ 0x00 ∷ 0x01 ∷ 0x7F ∷ 0xFF ∷ 0xFF ∷ 0xFF ∷ 0xFF ∷ 0xFF ∷ 0xFF ∷ 0xFF ∷ 0xFF ∷ 0xFF ∷ 0xFF ∷ 0xFF ∷ 0xFF ∷ 0xFF ∷ 0xFF ∷ 0xFF ∷ 0x06 ∷ 0x00 ∷ 0x01 ∷ 0x03 ∷ 0x00 ∷ 0x01 ∷ []

-- flags, floats with the top bit, strings and references
fill-others :
    (fill_values (ascii "a") (ascii "b") 6 3 16384 others ≡ done (pos 1 ∷ pos 0 ∷ pos 1 ∷ [])) ×
    (fill_values (ascii "a") (ascii "c") 12 3 16384 others ≡ done (pos 4286578689 ∷ pos 2139095040 ∷ pos 1 ∷ [])) ×
    (fill_values (ascii "a") (ascii "d") 13 3 16384 others ≡ done (negsuc 9223372036854775806 ∷ pos 9223372036854775807 ∷ negsuc 0 ∷ [])) ×
    (fill_values (ascii "a") (ascii "e") 14 3 16384 others ≡ done (pos 6 ∷ pos 0 ∷ pos 1 ∷ [])) ×
    (fill_values (ascii "a") (ascii "f") 32 3 16384 others ≡ done (pos 3 ∷ pos 0 ∷ pos 1 ∷ []))
unfolding whole
fill-others = (refl, refl, refl, refl, refl)

-- and asked for as other kinds
fill-others-other :
    (fill_values (ascii "a") (ascii "b") 5 3 16384 others ≡ refused 18) ×
    (fill_values (ascii "a") (ascii "b") 7 3 16384 others ≡ refused 18) ×
    (fill_values (ascii "a") (ascii "c") 9 3 16384 others ≡ refused 18) ×
    (fill_values (ascii "a") (ascii "c") 13 3 16384 others ≡ refused 18) ×
    (fill_values (ascii "a") (ascii "d") 10 3 16384 others ≡ refused 18) ×
    (fill_values (ascii "a") (ascii "d") 12 3 16384 others ≡ refused 18) ×
    (fill_values (ascii "a") (ascii "d") 14 3 16384 others ≡ refused 18) ×
    (fill_values (ascii "a") (ascii "e") 13 3 16384 others ≡ refused 18) ×
    (fill_values (ascii "a") (ascii "e") 15 3 16384 others ≡ refused 18) ×
    (fill_values (ascii "a") (ascii "e") 32 3 16384 others ≡ refused 18) ×
    (fill_values (ascii "a") (ascii "f") 14 3 16384 others ≡ refused 18) ×
    (fill_values (ascii "a") (ascii "f") 31 3 16384 others ≡ refused 18) ×
    (fill_values (ascii "a") (ascii "f") 33 3 16384 others ≡ refused 18) ×
    (fill_values (ascii "a") (ascii "f") 64 3 16384 others ≡ refused 18) ×
    (fill_values (ascii "a") (ascii "f") 11 3 16384 others ≡ refused 18) ×
    (fill_values (ascii "a") (ascii "f") 18446744073709551615 3 16384 others ≡ refused 18)
unfolding whole
fill-others-other = (refl, refl, refl, refl, refl, refl, refl, refl, refl, refl, refl, refl, refl, refl, refl, refl)

-- how many of them there are
count-others :
    (count_values (ascii "a") (ascii "b") 6 16384 others ≡ done 3) ×
    (count_values (ascii "a") (ascii "c") 12 16384 others ≡ done 3) ×
    (count_values (ascii "a") (ascii "d") 13 16384 others ≡ done 3) ×
    (count_values (ascii "a") (ascii "e") 14 16384 others ≡ done 3) ×
    (count_values (ascii "a") (ascii "f") 32 16384 others ≡ done 3) ×
    (count_values (ascii "a") (ascii "b") 5 16384 others ≡ refused 18) ×
    (count_values (ascii "a") (ascii "f") 33 16384 others ≡ refused 18)
unfolding whole
count-others = (refl, refl, refl, refl, refl, refl, refl)

-- constants over three blocks
abbrev constants : List ℕ
constants =
    0x07 ∷ 0x00 ∷ 0x00 ∷ 0x00 ∷ 0x01 ∷ 0x00 ∷ 0x00 ∷ 0x00 ∷ 0x02 ∷ 0x00 ∷ 0x00 ∷ 0x00 ∷ 0x03 ∷ 0x00 ∷ 0x00 ∷ 0x00 ∷ 0x04 ∷ 0x00 ∷ 0x00 ∷ 0x00 ∷ 0x05 ∷ 0x00 ∷ 0x00 ∷ 0x00 ∷ 0x06 ∷ 0x00 ∷ 0x00 ∷ 0x00 ∷ 0x07 ∷ 0x61 ∷ 0x62 ∷ 0x63 ∷ 0x64 ∷ 0x65 ∷ 0x66 ∷ 0x67 ∷ 0x01 ∷ 0x01 ∷ 0x00 ∷ 0x01 ∷ 0x00 ∷ 0x04 ∷ 0x00 ∷ 0x00 ∷ 0x80 ∷ 0x02 ∷ 0x00 ∷ 0x00 ∷ 0x01 ∷ 0x7F ∷ 0xFF ∷ 0x03 ∷ 0x00 ∷ 0x00 ∷ 0x07 ∷ 0x04 ∷ 0x01 ∷ 0x00 ∷ 0x02 ∷ 0x80 ∷ 0x00 ∷ 0x00 ∷ 0x00 ∷ 0x05 ∷ 0x01 ∷ 0x09 ∷ 0x00 ∷ 0x01 ∷ 0x01 ∷ 0x02 ∷ 0x05 ∷ 0x00 ∷ 0x00 ∷ 0x02 ∷ 0x02 ∷ 0x00 ∷ 0x03 ∷ 0x7F ∷ 0xFF ∷ 0xFF ∷ 0xFF ∷ 0xFF ∷ 0xFF ∷ 0xFF ∷ 0xFF ∷ 0x06 ∷ 0x02 ∷ 0x08 ∷ 0x07 ∷ 0x00 ∷ 0x01 ∷ 0x01 ∷ 0x00 ∷ 0x01 ∷ 0x00 ∷ 0x04 ∷ 0xFF ∷ 0xFF ∷ 0xFF ∷ 0xFF ∷ 0xFF ∷ 0xFF ∷ 0xFF ∷ 0xFF ∷ 0xFF ∷ 0x07 ∷ 0x00 ∷ []

-- its listing, and the file built back from it
constants-listed :
    (listing 249 16384 constants ≡ done (ascii "pair\t7\t1\nstr\t61\nstr\t62\nstr\t63\nstr\t64\nstr\t65\nstr\t66\nstr\t67\ntype\t1\t0\t-\t1\t4\nnew\t0,-128\t2\nnew\t1,32767\t3\nnew\t7\t4\nnew\t2,-2147483648\t5\nval\t9\npair\t0\t1\ntype\t1\t-\t-\t2\t5\nold\nold\nold\nold\nnew\t3,9223372036854775807\t6\nval\t8\nval\t7\npair\t0\t1\ntype\t1\t-\t-\t0\t1\nnew\t4,-1\t7\n")) ×
    (build 107 16384 (ascii "pair\t7\t1\nstr\t61\nstr\t62\nstr\t63\nstr\t64\nstr\t65\nstr\t66\nstr\t67\ntype\t1\t0\t-\t1\t4\nnew\t0,-128\t2\nnew\t1,32767\t3\nnew\t7\t4\nnew\t2,-2147483648\t5\nval\t9\npair\t0\t1\ntype\t1\t-\t-\t2\t5\nold\nold\nold\nold\nnew\t3,9223372036854775807\t6\nval\t8\nval\t7\npair\t0\t1\ntype\t1\t-\t-\t0\t1\nnew\t4,-1\t7\n") ≡ done (0x07 ∷ 0x00 ∷ 0x00 ∷ 0x00 ∷ 0x01 ∷ 0x00 ∷ 0x00 ∷ 0x00 ∷ 0x02 ∷ 0x00 ∷ 0x00 ∷ 0x00 ∷ 0x03 ∷ 0x00 ∷ 0x00 ∷ 0x00 ∷ 0x04 ∷ 0x00 ∷ 0x00 ∷ 0x00 ∷ 0x05 ∷ 0x00 ∷ 0x00 ∷ 0x00 ∷ 0x06 ∷ 0x00 ∷ 0x00 ∷ 0x00 ∷ 0x07 ∷ 0x61 ∷ 0x62 ∷ 0x63 ∷ 0x64 ∷ 0x65 ∷ 0x66 ∷ 0x67 ∷ 0x01 ∷ 0x01 ∷ 0x00 ∷ 0x01 ∷ 0x00 ∷ 0x04 ∷ 0x00 ∷ 0x00 ∷ 0x80 ∷ 0x02 ∷ 0x00 ∷ 0x00 ∷ 0x01 ∷ 0x7F ∷ 0xFF ∷ 0x03 ∷ 0x00 ∷ 0x00 ∷ 0x07 ∷ 0x04 ∷ 0x01 ∷ 0x00 ∷ 0x02 ∷ 0x80 ∷ 0x00 ∷ 0x00 ∷ 0x00 ∷ 0x05 ∷ 0x01 ∷ 0x09 ∷ 0x00 ∷ 0x01 ∷ 0x01 ∷ 0x02 ∷ 0x05 ∷ 0x00 ∷ 0x00 ∷ 0x02 ∷ 0x02 ∷ 0x00 ∷ 0x03 ∷ 0x7F ∷ 0xFF ∷ 0xFF ∷ 0xFF ∷ 0xFF ∷ 0xFF ∷ 0xFF ∷ 0xFF ∷ 0x06 ∷ 0x02 ∷ 0x08 ∷ 0x07 ∷ 0x00 ∷ 0x01 ∷ 0x01 ∷ 0x00 ∷ 0x01 ∷ 0x00 ∷ 0x04 ∷ 0xFF ∷ 0xFF ∷ 0xFF ∷ 0xFF ∷ 0xFF ∷ 0xFF ∷ 0xFF ∷ 0xFF ∷ 0xFF ∷ 0x07 ∷ 0x00 ∷ []))
unfolding whole
constants-listed = (refl, refl)

-- a constant stands once for each object, over all blocks
fill-constants :
    (fill_values (ascii "a") (ascii "b") 0 3 16384 constants ≡ done (negsuc 127 ∷ negsuc 127 ∷ negsuc 127 ∷ [])) ×
    (fill_values (ascii "a") (ascii "c") 1 3 16384 constants ≡ done (pos 32767 ∷ pos 32767 ∷ pos 32767 ∷ [])) ×
    (fill_values (ascii "a") (ascii "d") 7 3 16384 constants ≡ done (pos 9 ∷ pos 8 ∷ pos 7 ∷ [])) ×
    (fill_values (ascii "a") (ascii "e") 2 3 16384 constants ≡ done (negsuc 2147483647 ∷ negsuc 2147483647 ∷ negsuc 2147483647 ∷ [])) ×
    (fill_values (ascii "a") (ascii "f") 3 3 16384 constants ≡ done (pos 9223372036854775807 ∷ pos 9223372036854775807 ∷ pos 9223372036854775807 ∷ [])) ×
    (fill_values (ascii "a") (ascii "g") 4 3 16384 constants ≡ done (negsuc 0 ∷ negsuc 0 ∷ negsuc 0 ∷ [])) ×
    (fill_values (ascii "a") (ascii "b") 0 2 16384 constants ≡ refused 19) ×
    (fill_values (ascii "a") (ascii "g") 4 4 16384 constants ≡ done (negsuc 0 ∷ negsuc 0 ∷ negsuc 0 ∷ []))
unfolding whole
fill-constants = (refl, refl, refl, refl, refl, refl, refl, refl)

-- and asked for as other kinds
fill-constants-other :
    (fill_values (ascii "a") (ascii "b") 7 3 16384 constants ≡ refused 18) ×
    (fill_values (ascii "a") (ascii "b") 1 3 16384 constants ≡ refused 18) ×
    (fill_values (ascii "a") (ascii "c") 8 3 16384 constants ≡ refused 18) ×
    (fill_values (ascii "a") (ascii "c") 0 3 16384 constants ≡ refused 18) ×
    (fill_values (ascii "a") (ascii "e") 9 3 16384 constants ≡ refused 18) ×
    (fill_values (ascii "a") (ascii "f") 10 3 16384 constants ≡ refused 18) ×
    (fill_values (ascii "a") (ascii "f") 4 3 16384 constants ≡ refused 18) ×
    (fill_values (ascii "a") (ascii "g") 11 3 16384 constants ≡ refused 18) ×
    (fill_values (ascii "a") (ascii "g") 3 3 16384 constants ≡ refused 18) ×
    (fill_values (ascii "a") (ascii "g") 5 3 16384 constants ≡ refused 18)
unfolding whole
fill-constants-other = (refl, refl, refl, refl, refl, refl, refl, refl, refl, refl)

-- a constant has as many values as there are objects
count-constants :
    (count_values (ascii "a") (ascii "b") 0 16384 constants ≡ done 3) ×
    (count_values (ascii "a") (ascii "c") 1 16384 constants ≡ done 3) ×
    (count_values (ascii "a") (ascii "d") 7 16384 constants ≡ done 3) ×
    (count_values (ascii "a") (ascii "e") 2 16384 constants ≡ done 3) ×
    (count_values (ascii "a") (ascii "f") 3 16384 constants ≡ done 3) ×
    (count_values (ascii "a") (ascii "g") 4 16384 constants ≡ done 3) ×
    (count_values (ascii "a") (ascii "b") 7 16384 constants ≡ refused 18) ×
    (count_values (ascii "a") (ascii "g") 11 16384 constants ≡ refused 18)
unfolding whole
count-constants = (refl, refl, refl, refl, refl, refl, refl, refl)

-- arrays of every kind
abbrev arrays : List ℕ
arrays =
    0x06 ∷ 0x00 ∷ 0x00 ∷ 0x00 ∷ 0x01 ∷ 0x00 ∷ 0x00 ∷ 0x00 ∷ 0x02 ∷ 0x00 ∷ 0x00 ∷ 0x00 ∷ 0x03 ∷ 0x00 ∷ 0x00 ∷ 0x00 ∷ 0x04 ∷ 0x00 ∷ 0x00 ∷ 0x00 ∷ 0x05 ∷ 0x00 ∷ 0x00 ∷ 0x00 ∷ 0x06 ∷ 0x61 ∷ 0x62 ∷ 0x63 ∷ 0x64 ∷ 0x65 ∷ 0x66 ∷ 0x01 ∷ 0x01 ∷ 0x00 ∷ 0x01 ∷ 0x00 ∷ 0x05 ∷ 0x00 ∷ 0x0F ∷ 0x01 ∷ 0x07 ∷ 0x02 ∷ 0x01 ∷ 0x00 ∷ 0x11 ∷ 0x08 ∷ 0x03 ∷ 0x04 ∷ 0x00 ∷ 0x12 ∷ 0x09 ∷ 0x04 ∷ 0x09 ∷ 0x00 ∷ 0x13 ∷ 0x20 ∷ 0x05 ∷ 0x0B ∷ 0x00 ∷ 0x0F ∷ 0x00 ∷ 0x06 ∷ 0x06 ∷ 0x0B ∷ 0x05 ∷ 0x01 ∷ 0x00 ∷ 0x06 ∷ 0x01 ∷ 0x00 ∷ 0x00 ∷ 0x00 ∷ 0x07 ∷ 0x01 ∷ 0x01 ∷ []

-- an array has no column, whatever is asked
fill-arrays :
    (fill_values (ascii "a") (ascii "b") 15 1 16384 arrays ≡ refused 18) ×
    (fill_values (ascii "a") (ascii "b") 7 1 16384 arrays ≡ refused 18) ×
    (fill_values (ascii "a") (ascii "b") 33 1 16384 arrays ≡ refused 18) ×
    (fill_values (ascii "a") (ascii "c") 17 1 16384 arrays ≡ refused 18) ×
    (fill_values (ascii "a") (ascii "c") 8 1 16384 arrays ≡ refused 18) ×
    (fill_values (ascii "a") (ascii "c") 33 1 16384 arrays ≡ refused 18) ×
    (fill_values (ascii "a") (ascii "d") 18 1 16384 arrays ≡ refused 18) ×
    (fill_values (ascii "a") (ascii "d") 9 1 16384 arrays ≡ refused 18) ×
    (fill_values (ascii "a") (ascii "d") 33 1 16384 arrays ≡ refused 18) ×
    (fill_values (ascii "a") (ascii "e") 19 1 16384 arrays ≡ refused 18) ×
    (fill_values (ascii "a") (ascii "e") 32 1 16384 arrays ≡ refused 18) ×
    (fill_values (ascii "a") (ascii "e") 33 1 16384 arrays ≡ refused 18) ×
    (fill_values (ascii "a") (ascii "f") 15 1 16384 arrays ≡ refused 18) ×
    (fill_values (ascii "a") (ascii "f") 6 1 16384 arrays ≡ refused 18) ×
    (fill_values (ascii "a") (ascii "f") 33 1 16384 arrays ≡ refused 18) ×
    (fill_values (ascii "a") (ascii "c") 0 1 16384 arrays ≡ refused 18) ×
    (fill_values (ascii "a") (ascii "c") 15 1 16384 arrays ≡ refused 18) ×
    (fill_values (ascii "a") (ascii "c") 16 1 16384 arrays ≡ refused 18) ×
    (fill_values (ascii "a") (ascii "c") 32 1 16384 arrays ≡ refused 18) ×
    (fill_values (ascii "a") (ascii "c") 34 1 16384 arrays ≡ refused 18) ×
    (fill_values (ascii "a") (ascii "c") 18446744073709551615 1 16384 arrays ≡ refused 18)
unfolding whole
fill-arrays = (refl, refl, refl, refl, refl, refl, refl, refl, refl, refl, refl, refl, refl, refl, refl, refl, refl, refl, refl, refl, refl)

-- nor are its values counted
count-arrays :
    (count_values (ascii "a") (ascii "b") 15 16384 arrays ≡ refused 18) ×
    (count_values (ascii "a") (ascii "b") 7 16384 arrays ≡ refused 18) ×
    (count_values (ascii "a") (ascii "c") 17 16384 arrays ≡ refused 18) ×
    (count_values (ascii "a") (ascii "d") 18 16384 arrays ≡ refused 18) ×
    (count_values (ascii "a") (ascii "e") 19 16384 arrays ≡ refused 18) ×
    (count_values (ascii "a") (ascii "e") 32 16384 arrays ≡ refused 18)
unfolding whole
count-arrays = (refl, refl, refl, refl, refl, refl)

-- annotations and maps over two blocks
abbrev links : List ℕ
links =
    0x07 ∷ 0x00 ∷ 0x00 ∷ 0x00 ∷ 0x01 ∷ 0x00 ∷ 0x00 ∷ 0x00 ∷ 0x02 ∷ 0x00 ∷ 0x00 ∷ 0x00 ∷ 0x03 ∷ 0x00 ∷ 0x00 ∷ 0x00 ∷ 0x04 ∷ 0x00 ∷ 0x00 ∷ 0x00 ∷ 0x05 ∷ 0x00 ∷ 0x00 ∷ 0x00 ∷ 0x06 ∷ 0x00 ∷ 0x00 ∷ 0x00 ∷ 0x07 ∷ 0x61 ∷ 0x62 ∷ 0x63 ∷ 0x64 ∷ 0x65 ∷ 0x66 ∷ 0x67 ∷ 0x01 ∷ 0x01 ∷ 0x00 ∷ 0x02 ∷ 0x00 ∷ 0x05 ∷ 0x00 ∷ 0x05 ∷ 0x02 ∷ 0x04 ∷ 0x00 ∷ 0x14 ∷ 0x02 ∷ 0x07 ∷ 0x08 ∷ 0x03 ∷ 0x0C ∷ 0x00 ∷ 0x07 ∷ 0x04 ∷ 0x0E ∷ 0x00 ∷ 0x14 ∷ 0x03 ∷ 0x05 ∷ 0x20 ∷ 0x0B ∷ 0x05 ∷ 0x1D ∷ 0x00 ∷ 0x11 ∷ 0x05 ∷ 0x06 ∷ 0x21 ∷ 0x01 ∷ 0x02 ∷ 0x00 ∷ 0x00 ∷ 0x02 ∷ 0x05 ∷ 0x02 ∷ 0x58 ∷ 0x05 ∷ 0xFF ∷ 0xFF ∷ 0x00 ∷ 0x09 ∷ 0xF8 ∷ 0x01 ∷ 0x01 ∷ 0x01 ∷ 0x01 ∷ 0x02 ∷ 0xFD ∷ 0xFF ∷ 0xFF ∷ 0xFF ∷ 0xFF ∷ 0xFF ∷ 0xFF ∷ 0xFF ∷ 0xFF ∷ 0x00 ∷ 0x01 ∷ 0x01 ∷ 0x01 ∷ 0x00 ∷ 0x00 ∷ 0x01 ∷ 0x01 ∷ 0x01 ∷ 0x06 ∷ 0x02 ∷ 0x06 ∷ 0x07 ∷ 0x0B ∷ 0x0E ∷ 0x00 ∷ 0x05 ∷ 0x07 ∷ 0x14 ∷ 0x01 ∷ 0x03 ∷ 0x01 ∷ 0xFB ∷ 0x00 ∷ 0x07 ∷ 0x07 ∷ 0x01 ∷ 0x00 ∷ 0x00 ∷ 0x00 ∷ 0x01 ∷ 0x00 ∷ 0x00 ∷ 0x00 ∷ 0x00 ∷ 0x00 ∷ 0x00 ∷ 0x01 ∷ 0x01 ∷ []

-- its listing, and the file built back from it
links-listed :
    (listing 342 16384 links ≡ done (ascii "pair\t7\t1\nstr\t61\nstr\t62\nstr\t63\nstr\t64\nstr\t65\nstr\t66\nstr\t67\ntype\t1\t0\t-\t2\t5\nnew\t5\t2\nnew\t20,2,7,8\t3\nnew\t7\t4\nnew\t20,3,5,32,11\t5\nnew\t17,5\t6\nval\t1\t2\nval\t0\t0\nval\t2\t5\t600\t5\t-1\nval\t0\nval\t9\nval\t-8\nval\t1\t1\t1\t1\t2\t-3\nval\t0\nval\t1\t1\nval\npair\t0\t1\ntype\t1\t-\t-\t1\t6\nold\nold\nold\nold\nold\nnew\t5\t7\nval\t1\t3\nval\t1\t-5\t7\nval\t7\nval\t1\t0\t0\t0\nval\t0\t0\nval\t0\t0\nval\t0\t0\nval\t1\t1\n")) ×
    (build 137 16384 (ascii "pair\t7\t1\nstr\t61\nstr\t62\nstr\t63\nstr\t64\nstr\t65\nstr\t66\nstr\t67\ntype\t1\t0\t-\t2\t5\nnew\t5\t2\nnew\t20,2,7,8\t3\nnew\t7\t4\nnew\t20,3,5,32,11\t5\nnew\t17,5\t6\nval\t1\t2\nval\t0\t0\nval\t2\t5\t600\t5\t-1\nval\t0\nval\t9\nval\t-8\nval\t1\t1\t1\t1\t2\t-3\nval\t0\nval\t1\t1\nval\npair\t0\t1\ntype\t1\t-\t-\t1\t6\nold\nold\nold\nold\nold\nnew\t5\t7\nval\t1\t3\nval\t1\t-5\t7\nval\t7\nval\t1\t0\t0\t0\nval\t0\t0\nval\t0\t0\nval\t0\t0\nval\t1\t1\n") ≡ done (0x07 ∷ 0x00 ∷ 0x00 ∷ 0x00 ∷ 0x01 ∷ 0x00 ∷ 0x00 ∷ 0x00 ∷ 0x02 ∷ 0x00 ∷ 0x00 ∷ 0x00 ∷ 0x03 ∷ 0x00 ∷ 0x00 ∷ 0x00 ∷ 0x04 ∷ 0x00 ∷ 0x00 ∷ 0x00 ∷ 0x05 ∷ 0x00 ∷ 0x00 ∷ 0x00 ∷ 0x06 ∷ 0x00 ∷ 0x00 ∷ 0x00 ∷ 0x07 ∷ 0x61 ∷ 0x62 ∷ 0x63 ∷ 0x64 ∷ 0x65 ∷ 0x66 ∷ 0x67 ∷ 0x01 ∷ 0x01 ∷ 0x00 ∷ 0x02 ∷ 0x00 ∷ 0x05 ∷ 0x00 ∷ 0x05 ∷ 0x02 ∷ 0x04 ∷ 0x00 ∷ 0x14 ∷ 0x02 ∷ 0x07 ∷ 0x08 ∷ 0x03 ∷ 0x0C ∷ 0x00 ∷ 0x07 ∷ 0x04 ∷ 0x0E ∷ 0x00 ∷ 0x14 ∷ 0x03 ∷ 0x05 ∷ 0x20 ∷ 0x0B ∷ 0x05 ∷ 0x1D ∷ 0x00 ∷ 0x11 ∷ 0x05 ∷ 0x06 ∷ 0x21 ∷ 0x01 ∷ 0x02 ∷ 0x00 ∷ 0x00 ∷ 0x02 ∷ 0x05 ∷ 0x02 ∷ 0x58 ∷ 0x05 ∷ 0xFF ∷ 0xFF ∷ 0x00 ∷ 0x09 ∷ 0xF8 ∷ 0x01 ∷ 0x01 ∷ 0x01 ∷ 0x01 ∷ 0x02 ∷ 0xFD ∷ 0xFF ∷ 0xFF ∷ 0xFF ∷ 0xFF ∷ 0xFF ∷ 0xFF ∷ 0xFF ∷ 0xFF ∷ 0x00 ∷ 0x01 ∷ 0x01 ∷ 0x01 ∷ 0x00 ∷ 0x00 ∷ 0x01 ∷ 0x01 ∷ 0x01 ∷ 0x06 ∷ 0x02 ∷ 0x06 ∷ 0x07 ∷ 0x0B ∷ 0x0E ∷ 0x00 ∷ 0x05 ∷ 0x07 ∷ 0x14 ∷ 0x01 ∷ 0x03 ∷ 0x01 ∷ 0xFB ∷ 0x00 ∷ 0x07 ∷ 0x07 ∷ 0x01 ∷ 0x00 ∷ 0x00 ∷ 0x00 ∷ 0x01 ∷ 0x00 ∷ 0x00 ∷ 0x00 ∷ 0x00 ∷ 0x00 ∷ 0x00 ∷ 0x01 ∷ 0x01 ∷ []))
unfolding whole
links-listed = (refl, refl)

-- annotations and maps have no column, whatever is asked; a field between them has its own
fill-links :
    (fill_values (ascii "a") (ascii "b") 5 3 16384 links ≡ refused 18) ×
    (fill_values (ascii "a") (ascii "b") 0 3 16384 links ≡ refused 18) ×
    (fill_values (ascii "a") (ascii "b") 4 3 16384 links ≡ refused 18) ×
    (fill_values (ascii "a") (ascii "b") 6 3 16384 links ≡ refused 18) ×
    (fill_values (ascii "a") (ascii "b") 11 3 16384 links ≡ refused 18) ×
    (fill_values (ascii "a") (ascii "b") 14 3 16384 links ≡ refused 18) ×
    (fill_values (ascii "a") (ascii "b") 20 3 16384 links ≡ refused 18) ×
    (fill_values (ascii "a") (ascii "b") 32 3 16384 links ≡ refused 18) ×
    (fill_values (ascii "a") (ascii "b") 33 3 16384 links ≡ refused 18) ×
    (fill_values (ascii "a") (ascii "b") 37 3 16384 links ≡ refused 18) ×
    (fill_values (ascii "a") (ascii "b") 18446744073709551615 3 16384 links ≡ refused 18) ×
    (fill_values (ascii "a") (ascii "c") 20 3 16384 links ≡ refused 18) ×
    (fill_values (ascii "a") (ascii "c") 5 3 16384 links ≡ refused 18) ×
    (fill_values (ascii "a") (ascii "c") 2 3 16384 links ≡ refused 18) ×
    (fill_values (ascii "a") (ascii "c") 7 3 16384 links ≡ refused 18) ×
    (fill_values (ascii "a") (ascii "c") 8 3 16384 links ≡ refused 18) ×
    (fill_values (ascii "a") (ascii "c") 11 3 16384 links ≡ refused 18) ×
    (fill_values (ascii "a") (ascii "c") 17 3 16384 links ≡ refused 18) ×
    (fill_values (ascii "a") (ascii "c") 32 3 16384 links ≡ refused 18) ×
    (fill_values (ascii "a") (ascii "c") 33 3 16384 links ≡ refused 18) ×
    (fill_values (ascii "a") (ascii "c") 52 3 16384 links ≡ refused 18) ×
    (fill_values (ascii "a") (ascii "c") 18446744073709551615 3 16384 links ≡ refused 18) ×
    (fill_values (ascii "a") (ascii "d") 5 3 16384 links ≡ refused 18) ×
    (fill_values (ascii "a") (ascii "d") 20 3 16384 links ≡ refused 18) ×
    (fill_values (ascii "a") (ascii "d") 6 3 16384 links ≡ refused 18) ×
    (fill_values (ascii "a") (ascii "d") 8 3 16384 links ≡ refused 18) ×
    (fill_values (ascii "a") (ascii "e") 20 3 16384 links ≡ refused 18) ×
    (fill_values (ascii "a") (ascii "e") 3 3 16384 links ≡ refused 18) ×
    (fill_values (ascii "a") (ascii "e") 5 3 16384 links ≡ refused 18) ×
    (fill_values (ascii "a") (ascii "e") 11 3 16384 links ≡ refused 18) ×
    (fill_values (ascii "a") (ascii "e") 32 3 16384 links ≡ refused 18) ×
    (fill_values (ascii "a") (ascii "f") 17 3 16384 links ≡ refused 18) ×
    (fill_values (ascii "a") (ascii "f") 5 3 16384 links ≡ refused 18) ×
    (fill_values (ascii "a") (ascii "f") 20 3 16384 links ≡ refused 18) ×
    (fill_values (ascii "a") (ascii "f") 32 3 16384 links ≡ refused 18) ×
    (fill_values (ascii "a") (ascii "g") 5 3 16384 links ≡ refused 18) ×
    (fill_values (ascii "a") (ascii "g") 20 3 16384 links ≡ refused 18) ×
    (fill_values (ascii "a") (ascii "g") 7 3 16384 links ≡ refused 18) ×
    (fill_values (ascii "a") (ascii "d") 7 3 16384 links ≡ done (pos 9 ∷ negsuc 7 ∷ pos 7 ∷ []))
unfolding whole
fill-links = (refl, refl, refl, refl, refl, refl, refl, refl, refl, refl, refl, refl, refl, refl, refl, refl, refl, refl, refl, refl, refl, refl, refl, refl, refl, refl, refl, refl, refl, refl, refl, refl, refl, refl, refl, refl, refl, refl, refl)

-- 18 has its place behind 16 and 17 and before 19
fill-links-order :
    (fill_values (ascii "a") (ascii "b") 5 0 16384 links ≡ refused 18) ×
    (fill_values (ascii "a") (ascii "c") 5 0 16384 links ≡ refused 18) ×
    (fill_values (ascii "a") (ascii "d") 5 0 16384 links ≡ refused 18) ×
    (fill_values (ascii "a") (ascii "z") 5 0 16384 links ≡ refused 17) ×
    (fill_values (ascii "z") (ascii "b") 5 0 16384 links ≡ refused 16) ×
    (fill_values (ascii "a") (ascii "b") 5 2 16384 links ≡ refused 18) ×
    (fill_values (ascii "a") (ascii "c") 5 2 16384 links ≡ refused 18) ×
    (fill_values (ascii "a") (ascii "d") 5 2 16384 links ≡ refused 18) ×
    (fill_values (ascii "a") (ascii "z") 5 2 16384 links ≡ refused 17) ×
    (fill_values (ascii "z") (ascii "b") 5 2 16384 links ≡ refused 16) ×
    (fill_values (ascii "a") (ascii "b") 5 4 16384 links ≡ refused 18) ×
    (fill_values (ascii "a") (ascii "c") 5 4 16384 links ≡ refused 18) ×
    (fill_values (ascii "a") (ascii "d") 5 4 16384 links ≡ refused 18) ×
    (fill_values (ascii "a") (ascii "z") 5 4 16384 links ≡ refused 17) ×
    (fill_values (ascii "z") (ascii "b") 5 4 16384 links ≡ refused 16) ×
    (fill_values (ascii "a") (ascii "b") 20 0 16384 links ≡ refused 18) ×
    (fill_values (ascii "a") (ascii "c") 20 0 16384 links ≡ refused 18) ×
    (fill_values (ascii "a") (ascii "d") 20 0 16384 links ≡ refused 18) ×
    (fill_values (ascii "a") (ascii "z") 20 0 16384 links ≡ refused 17) ×
    (fill_values (ascii "z") (ascii "b") 20 0 16384 links ≡ refused 16) ×
    (fill_values (ascii "a") (ascii "b") 20 2 16384 links ≡ refused 18) ×
    (fill_values (ascii "a") (ascii "c") 20 2 16384 links ≡ refused 18) ×
    (fill_values (ascii "a") (ascii "d") 20 2 16384 links ≡ refused 18) ×
    (fill_values (ascii "a") (ascii "z") 20 2 16384 links ≡ refused 17) ×
    (fill_values (ascii "z") (ascii "b") 20 2 16384 links ≡ refused 16) ×
    (fill_values (ascii "a") (ascii "b") 20 4 16384 links ≡ refused 18) ×
    (fill_values (ascii "a") (ascii "c") 20 4 16384 links ≡ refused 18) ×
    (fill_values (ascii "a") (ascii "d") 20 4 16384 links ≡ refused 18) ×
    (fill_values (ascii "a") (ascii "z") 20 4 16384 links ≡ refused 17) ×
    (fill_values (ascii "z") (ascii "b") 20 4 16384 links ≡ refused 16)
unfolding whole
fill-links-order = (refl, refl, refl, refl, refl, refl, refl, refl, refl, refl, refl, refl, refl, refl, refl, refl, refl, refl, refl, refl, refl, refl, refl, refl, refl, refl, refl, refl, refl, refl)

-- annotations and maps are not counted either; 18 has its place behind 16 and 17
count-links :
    (count_values (ascii "a") (ascii "b") 5 16384 links ≡ refused 18) ×
    (count_values (ascii "a") (ascii "c") 20 16384 links ≡ refused 18) ×
    (count_values (ascii "a") (ascii "d") 7 16384 links ≡ done 3) ×
    (count_values (ascii "a") (ascii "e") 20 16384 links ≡ refused 18) ×
    (count_values (ascii "a") (ascii "d") 5 16384 links ≡ refused 18) ×
    (count_values (ascii "a") (ascii "z") 20 16384 links ≡ refused 17) ×
    (count_values (ascii "z") (ascii "b") 5 16384 links ≡ refused 16)
unfolding whole
count-links = (refl, refl, refl, refl, refl, refl, refl)

-- the objects of a type that has them
links-objects :
    (objects (ascii "a") 16384 links ≡ done 3) ×
    (objects (ascii "b") 16384 links ≡ refused 16)
unfolding whole
links-objects = (refl, refl)

-- references to three types
abbrev references : List ℕ
references =
    0x06 ∷ 0x00 ∷ 0x00 ∷ 0x00 ∷ 0x01 ∷ 0x00 ∷ 0x00 ∷ 0x00 ∷ 0x02 ∷ 0x00 ∷ 0x00 ∷ 0x00 ∷ 0x03 ∷ 0x00 ∷ 0x00 ∷ 0x00 ∷ 0x04 ∷ 0x00 ∷ 0x00 ∷ 0x00 ∷ 0x05 ∷ 0x00 ∷ 0x00 ∷ 0x00 ∷ 0x06 ∷ 0x61 ∷ 0x62 ∷ 0x63 ∷ 0x64 ∷ 0x65 ∷ 0x66 ∷ 0x03 ∷ 0x01 ∷ 0x00 ∷ 0x02 ∷ 0x00 ∷ 0x03 ∷ 0x00 ∷ 0x20 ∷ 0x04 ∷ 0x02 ∷ 0x00 ∷ 0x21 ∷ 0x05 ∷ 0x04 ∷ 0x00 ∷ 0x22 ∷ 0x06 ∷ 0x06 ∷ 0x02 ∷ 0x00 ∷ 0x01 ∷ 0x00 ∷ 0x00 ∷ 0x03 ∷ 0x00 ∷ 0x03 ∷ 0x00 ∷ 0x00 ∷ 0x02 ∷ 0x01 ∷ 0x01 ∷ 0x00 ∷ 0x03 ∷ 0x02 ∷ []

-- its listing, and the file built back from it
references-listed :
    (listing 159 16384 references ≡ done (ascii "pair\t6\t3\nstr\t61\nstr\t62\nstr\t63\nstr\t64\nstr\t65\nstr\t66\ntype\t1\t0\t-\t2\t3\nnew\t32\t4\nnew\t33\t5\nnew\t34\t6\ntype\t2\t0\t-\t1\t0\ntype\t3\t0\t-\t3\t0\nval\t2\nval\t1\nval\t1\nval\t0\nval\t3\nval\t2\n")) ×
    (build 65 16384 (ascii "pair\t6\t3\nstr\t61\nstr\t62\nstr\t63\nstr\t64\nstr\t65\nstr\t66\ntype\t1\t0\t-\t2\t3\nnew\t32\t4\nnew\t33\t5\nnew\t34\t6\ntype\t2\t0\t-\t1\t0\ntype\t3\t0\t-\t3\t0\nval\t2\nval\t1\nval\t1\nval\t0\nval\t3\nval\t2\n") ≡ done (0x06 ∷ 0x00 ∷ 0x00 ∷ 0x00 ∷ 0x01 ∷ 0x00 ∷ 0x00 ∷ 0x00 ∷ 0x02 ∷ 0x00 ∷ 0x00 ∷ 0x00 ∷ 0x03 ∷ 0x00 ∷ 0x00 ∷ 0x00 ∷ 0x04 ∷ 0x00 ∷ 0x00 ∷ 0x00 ∷ 0x05 ∷ 0x00 ∷ 0x00 ∷ 0x00 ∷ 0x06 ∷ 0x61 ∷ 0x62 ∷ 0x63 ∷ 0x64 ∷ 0x65 ∷ 0x66 ∷ 0x03 ∷ 0x01 ∷ 0x00 ∷ 0x02 ∷ 0x00 ∷ 0x03 ∷ 0x00 ∷ 0x20 ∷ 0x04 ∷ 0x02 ∷ 0x00 ∷ 0x21 ∷ 0x05 ∷ 0x04 ∷ 0x00 ∷ 0x22 ∷ 0x06 ∷ 0x06 ∷ 0x02 ∷ 0x00 ∷ 0x01 ∷ 0x00 ∷ 0x00 ∷ 0x03 ∷ 0x00 ∷ 0x03 ∷ 0x00 ∷ 0x00 ∷ 0x02 ∷ 0x01 ∷ 0x01 ∷ 0x00 ∷ 0x03 ∷ 0x02 ∷ []))
unfolding whole
references-listed = (refl, refl)

-- 32 asks for a reference to any type
fill-references :
    (fill_values (ascii "a") (ascii "d") 32 2 16384 references ≡ done (pos 2 ∷ pos 1 ∷ [])) ×
    (fill_values (ascii "a") (ascii "d") 33 2 16384 references ≡ refused 18) ×
    (fill_values (ascii "a") (ascii "d") 34 2 16384 references ≡ refused 18) ×
    (fill_values (ascii "a") (ascii "d") 33 2 16384 references ≡ refused 18) ×
    (fill_values (ascii "a") (ascii "e") 32 2 16384 references ≡ done (pos 1 ∷ pos 0 ∷ [])) ×
    (fill_values (ascii "a") (ascii "e") 33 2 16384 references ≡ refused 18) ×
    (fill_values (ascii "a") (ascii "e") 34 2 16384 references ≡ refused 18) ×
    (fill_values (ascii "a") (ascii "e") 34 2 16384 references ≡ refused 18) ×
    (fill_values (ascii "a") (ascii "f") 32 2 16384 references ≡ done (pos 3 ∷ pos 2 ∷ [])) ×
    (fill_values (ascii "a") (ascii "f") 33 2 16384 references ≡ refused 18) ×
    (fill_values (ascii "a") (ascii "f") 34 2 16384 references ≡ refused 18) ×
    (fill_values (ascii "a") (ascii "f") 35 2 16384 references ≡ refused 18)
unfolding whole
fill-references = (refl, refl, refl, refl, refl, refl, refl, refl, refl, refl, refl, refl)

-- how many of them there are, to any type
count-references :
    (count_values (ascii "a") (ascii "d") 32 16384 references ≡ done 2) ×
    (count_values (ascii "a") (ascii "e") 32 16384 references ≡ done 2) ×
    (count_values (ascii "a") (ascii "f") 32 16384 references ≡ done 2) ×
    (count_values (ascii "a") (ascii "e") 33 16384 references ≡ refused 18)
unfolding whole
count-references = (refl, refl, refl, refl)

-- each type's own number; a field's name is no type's
objects-of-types :
    (objects (ascii "a") 16384 references ≡ done 2) ×
    (objects (ascii "b") 16384 references ≡ done 1) ×
    (objects (ascii "c") 16384 references ≡ done 3) ×
    (objects (ascii "d") 16384 references ≡ refused 16)
unfolding whole
objects-of-types = (refl, refl, refl, refl)

-- types below types over three blocks
abbrev tree : List ℕ
tree =
    0x07 ∷ 0x00 ∷ 0x00 ∷ 0x00 ∷ 0x02 ∷ 0x00 ∷ 0x00 ∷ 0x00 ∷ 0x04 ∷ 0x00 ∷ 0x00 ∷ 0x00 ∷ 0x06 ∷ 0x00 ∷ 0x00 ∷ 0x00 ∷ 0x08 ∷ 0x00 ∷ 0x00 ∷ 0x00 ∷ 0x09 ∷ 0x00 ∷ 0x00 ∷ 0x00 ∷ 0x0A ∷ 0x00 ∷ 0x00 ∷ 0x00 ∷ 0x0B ∷ 0x61 ∷ 0x62 ∷ 0x63 ∷ 0x64 ∷ 0x65 ∷ 0x66 ∷ 0x78 ∷ 0x79 ∷ 0x7A ∷ 0x76 ∷ 0x77 ∷ 0x02 ∷ 0x01 ∷ 0x00 ∷ 0x03 ∷ 0x00 ∷ 0x01 ∷ 0x00 ∷ 0x07 ∷ 0x04 ∷ 0x03 ∷ 0x02 ∷ 0x01 ∷ 0x01 ∷ 0x02 ∷ 0x00 ∷ 0x02 ∷ 0x00 ∷ 0x07 ∷ 0x04 ∷ 0x05 ∷ 0x00 ∷ 0x08 ∷ 0x05 ∷ 0x09 ∷ 0x01 ∷ 0x02 ∷ 0x03 ∷ 0x04 ∷ 0x05 ∷ 0x02 ∷ 0x58 ∷ 0x02 ∷ 0xBC ∷ 0x02 ∷ 0x00 ∷ 0x00 ∷ 0x00 ∷ 0x02 ∷ 0x00 ∷ 0x00 ∷ 0x00 ∷ 0x03 ∷ 0x61 ∷ 0x62 ∷ 0x75 ∷ 0x04 ∷ 0x08 ∷ 0x04 ∷ 0x02 ∷ 0x04 ∷ 0x00 ∷ 0x07 ∷ 0x06 ∷ 0x0B ∷ 0x03 ∷ 0x01 ∷ 0x00 ∷ 0x01 ∷ 0x00 ∷ 0x01 ∷ 0x00 ∷ 0x07 ∷ 0x07 ∷ 0x0C ∷ 0x02 ∷ 0x02 ∷ 0x02 ∷ 0x03 ∷ 0x0E ∷ 0x12 ∷ 0x00 ∷ 0x00 ∷ 0xFD ∷ 0x09 ∷ 0x12 ∷ 0x09 ∷ 0x02 ∷ 0x03 ∷ 0x01 ∷ 0x00 ∷ 0x01 ∷ 0x00 ∷ 0x07 ∷ 0x07 ∷ 0x13 ∷ 0x08 ∷ 0x09 ∷ 0x0A ∷ 0x0B ∷ 0x15 ∷ 0x16 ∷ 0x17 ∷ 0x18 ∷ 0x19 ∷ 0x1A ∷ 0x1B ∷ 0x1F ∷ 0x0C ∷ 0x0D ∷ 0x03 ∷ 0x20 ∷ 0x03 ∷ 0x84 ∷ 0x29 ∷ 0x00 ∷ 0x03 ∷ 0x01 ∷ 0x01 ∷ 0x02 ∷ 0x01 ∷ 0x02 ∷ 0x02 ∷ 0x00 ∷ 0x00 ∷ 0x01 ∷ 0x00 ∷ 0x0B ∷ 0x01 ∷ 0x26 ∷ 0x03 ∷ 0x00 ∷ 0x01 ∷ 0x01 ∷ 0x27 ∷ 0x0E ∷ 0x1C ∷ 0xFF ∷ 0xFF ∷ 0xFF ∷ 0xFF ∷ 0xFF ∷ 0xFF ∷ 0xFF ∷ 0xFF ∷ 0xFF ∷ 0xFE ∷ 0xFF ∷ 0xFF ∷ 0xFF ∷ 0xFF ∷ 0xFF ∷ 0xFF ∷ 0xFF ∷ 0xFF ∷ 0xFD ∷ 0xFF ∷ 0xFF ∷ 0xFF ∷ 0xFF ∷ 0xFF ∷ 0xFF ∷ 0xFF ∷ 0xFF ∷ 0xFC ∷ 0xFF ∷ 0xFF ∷ 0xFF ∷ 0xFF ∷ 0xFF ∷ 0xFF ∷ 0xFF ∷ 0xFF ∷ 0x20 ∷ []

-- its listing, and the file built back from it
tree-listed :
    (listing 541 16384 tree ≡ done (ascii "pair\t7\t2\nstr\t6162\nstr\t6364\nstr\t6566\nstr\t7879\nstr\t7a\nstr\t76\nstr\t77\ntype\t1\t0\t-\t3\t1\nnew\t7\t4\ntype\t2\t1\t1\t2\t2\nnew\t7\t4\nnew\t8\t5\nval\t1\nval\t2\nval\t3\nval\t4\nval\t5\nval\t600\nval\t700\npair\t2\t4\nstr\t6162\nstr\t75\ntype\t8\t-\t-\t4\t2\nold\nnew\t7\t6\ntype\t3\t1\t0\t1\t1\nnew\t7\t7\ntype\t2\t-\t2\t2\t3\nold\nold\nnew\t0,-3\t9\ntype\t9\t2\t3\t1\t1\nnew\t7\t7\nval\t8\nval\t9\nval\t10\nval\t11\nval\t21\nval\t22\nval\t23\nval\t24\nval\t25\nval\t26\nval\t27\nval\t31\nval\t12\nval\t13\nval\t800\nval\t900\nval\t41\npair\t0\t3\ntype\t1\t-\t-\t1\t2\nold\nold\ntype\t2\t-\t0\t0\t1\nnew\t11\t1\ntype\t3\t-\t0\t1\t1\nold\nval\t14\nval\t28\nval\t-1\nval\t-2\nval\t-3\nval\t-4\nval\t32\n")) ×
    (build 203 16384 (ascii "pair\t7\t2\nstr\t6162\nstr\t6364\nstr\t6566\nstr\t7879\nstr\t7a\nstr\t76\nstr\t77\ntype\t1\t0\t-\t3\t1\nnew\t7\t4\ntype\t2\t1\t1\t2\t2\nnew\t7\t4\nnew\t8\t5\nval\t1\nval\t2\nval\t3\nval\t4\nval\t5\nval\t600\nval\t700\npair\t2\t4\nstr\t6162\nstr\t75\ntype\t8\t-\t-\t4\t2\nold\nnew\t7\t6\ntype\t3\t1\t0\t1\t1\nnew\t7\t7\ntype\t2\t-\t2\t2\t3\nold\nold\nnew\t0,-3\t9\ntype\t9\t2\t3\t1\t1\nnew\t7\t7\nval\t8\nval\t9\nval\t10\nval\t11\nval\t21\nval\t22\nval\t23\nval\t24\nval\t25\nval\t26\nval\t27\nval\t31\nval\t12\nval\t13\nval\t800\nval\t900\nval\t41\npair\t0\t3\ntype\t1\t-\t-\t1\t2\nold\nold\ntype\t2\t-\t0\t0\t1\nnew\t11\t1\ntype\t3\t-\t0\t1\t1\nold\nval\t14\nval\t28\nval\t-1\nval\t-2\nval\t-3\nval\t-4\nval\t32\n") ≡ done (0x07 ∷ 0x00 ∷ 0x00 ∷ 0x00 ∷ 0x02 ∷ 0x00 ∷ 0x00 ∷ 0x00 ∷ 0x04 ∷ 0x00 ∷ 0x00 ∷ 0x00 ∷ 0x06 ∷ 0x00 ∷ 0x00 ∷ 0x00 ∷ 0x08 ∷ 0x00 ∷ 0x00 ∷ 0x00 ∷ 0x09 ∷ 0x00 ∷ 0x00 ∷ 0x00 ∷ 0x0A ∷ 0x00 ∷ 0x00 ∷ 0x00 ∷ 0x0B ∷ 0x61 ∷ 0x62 ∷ 0x63 ∷ 0x64 ∷ 0x65 ∷ 0x66 ∷ 0x78 ∷ 0x79 ∷ 0x7A ∷ 0x76 ∷ 0x77 ∷ 0x02 ∷ 0x01 ∷ 0x00 ∷ 0x03 ∷ 0x00 ∷ 0x01 ∷ 0x00 ∷ 0x07 ∷ 0x04 ∷ 0x03 ∷ 0x02 ∷ 0x01 ∷ 0x01 ∷ 0x02 ∷ 0x00 ∷ 0x02 ∷ 0x00 ∷ 0x07 ∷ 0x04 ∷ 0x05 ∷ 0x00 ∷ 0x08 ∷ 0x05 ∷ 0x09 ∷ 0x01 ∷ 0x02 ∷ 0x03 ∷ 0x04 ∷ 0x05 ∷ 0x02 ∷ 0x58 ∷ 0x02 ∷ 0xBC ∷ 0x02 ∷ 0x00 ∷ 0x00 ∷ 0x00 ∷ 0x02 ∷ 0x00 ∷ 0x00 ∷ 0x00 ∷ 0x03 ∷ 0x61 ∷ 0x62 ∷ 0x75 ∷ 0x04 ∷ 0x08 ∷ 0x04 ∷ 0x02 ∷ 0x04 ∷ 0x00 ∷ 0x07 ∷ 0x06 ∷ 0x0B ∷ 0x03 ∷ 0x01 ∷ 0x00 ∷ 0x01 ∷ 0x00 ∷ 0x01 ∷ 0x00 ∷ 0x07 ∷ 0x07 ∷ 0x0C ∷ 0x02 ∷ 0x02 ∷ 0x02 ∷ 0x03 ∷ 0x0E ∷ 0x12 ∷ 0x00 ∷ 0x00 ∷ 0xFD ∷ 0x09 ∷ 0x12 ∷ 0x09 ∷ 0x02 ∷ 0x03 ∷ 0x01 ∷ 0x00 ∷ 0x01 ∷ 0x00 ∷ 0x07 ∷ 0x07 ∷ 0x13 ∷ 0x08 ∷ 0x09 ∷ 0x0A ∷ 0x0B ∷ 0x15 ∷ 0x16 ∷ 0x17 ∷ 0x18 ∷ 0x19 ∷ 0x1A ∷ 0x1B ∷ 0x1F ∷ 0x0C ∷ 0x0D ∷ 0x03 ∷ 0x20 ∷ 0x03 ∷ 0x84 ∷ 0x29 ∷ 0x00 ∷ 0x03 ∷ 0x01 ∷ 0x01 ∷ 0x02 ∷ 0x01 ∷ 0x02 ∷ 0x02 ∷ 0x00 ∷ 0x00 ∷ 0x01 ∷ 0x00 ∷ 0x0B ∷ 0x01 ∷ 0x26 ∷ 0x03 ∷ 0x00 ∷ 0x01 ∷ 0x01 ∷ 0x27 ∷ 0x0E ∷ 0x1C ∷ 0xFF ∷ 0xFF ∷ 0xFF ∷ 0xFF ∷ 0xFF ∷ 0xFF ∷ 0xFF ∷ 0xFF ∷ 0xFF ∷ 0xFE ∷ 0xFF ∷ 0xFF ∷ 0xFF ∷ 0xFF ∷ 0xFF ∷ 0xFF ∷ 0xFF ∷ 0xFF ∷ 0xFD ∷ 0xFF ∷ 0xFF ∷ 0xFF ∷ 0xFF ∷ 0xFF ∷ 0xFF ∷ 0xFF ∷ 0xFF ∷ 0xFC ∷ 0xFF ∷ 0xFF ∷ 0xFF ∷ 0xFF ∷ 0xFF ∷ 0xFF ∷ 0xFF ∷ 0xFF ∷ 0x20 ∷ []))
unfolding whole
tree-listed = (refl, refl)

-- a type's objects are those below it as well, in all blocks
tree-objects :
    (objects (ascii "ab") 16384 tree ≡ done 8) ×
    (objects (ascii "cd") 16384 tree ≡ done 4) ×
    (objects (ascii "ef") 16384 tree ≡ done 2) ×
    (objects (ascii "u") 16384 tree ≡ done 1) ×
    (objects (ascii "xy") 16384 tree ≡ refused 16) ×
    (objects (ascii "z") 16384 tree ≡ refused 16) ×
    (objects [] 16384 tree ≡ refused 16) ×
    (objects (ascii "a") 16384 tree ≡ refused 16) ×
    (objects (ascii "b") 16384 tree ≡ refused 16) ×
    (objects (ascii "abc") 16384 tree ≡ refused 16) ×
    (objects (ascii "ba") 16384 tree ≡ refused 16)
unfolding whole
tree-objects = (refl, refl, refl, refl, refl, refl, refl, refl, refl, refl, refl)

-- chunk after chunk, a late field's first one for all objects so far
tree-filled :
    (fill_values (ascii "ab") (ascii "xy") 7 8 16384 tree ≡ done (pos 1 ∷ pos 2 ∷ pos 3 ∷ pos 8 ∷ pos 9 ∷ pos 10 ∷ pos 11 ∷ pos 14 ∷ [])) ×
    (fill_values (ascii "ab") (ascii "v") 7 8 16384 tree ≡ done (pos 21 ∷ pos 22 ∷ pos 23 ∷ pos 24 ∷ pos 25 ∷ pos 26 ∷ pos 27 ∷ pos 28 ∷ [])) ×
    (fill_values (ascii "cd") (ascii "xy") 7 4 16384 tree ≡ done (pos 4 ∷ pos 5 ∷ pos 12 ∷ pos 13 ∷ [])) ×
    (fill_values (ascii "cd") (ascii "z") 8 4 16384 tree ≡ done (pos 600 ∷ pos 700 ∷ pos 800 ∷ pos 900 ∷ [])) ×
    (fill_values (ascii "cd") (ascii "u") 0 4 16384 tree ≡ done (negsuc 2 ∷ negsuc 2 ∷ negsuc 2 ∷ negsuc 2 ∷ [])) ×
    (fill_values (ascii "cd") (ascii "ab") 11 4 16384 tree ≡ done (negsuc 0 ∷ negsuc 1 ∷ negsuc 2 ∷ negsuc 3 ∷ [])) ×
    (fill_values (ascii "ef") (ascii "w") 7 2 16384 tree ≡ done (pos 31 ∷ pos 32 ∷ [])) ×
    (fill_values (ascii "u") (ascii "w") 7 1 16384 tree ≡ done (pos 41 ∷ []))
unfolding whole
tree-filled = (refl, refl, refl, refl, refl, refl, refl, refl)

-- one short, and one more than needed
tree-rooms :
    (fill_values (ascii "ab") (ascii "xy") 7 7 16384 tree ≡ refused 19) ×
    (fill_values (ascii "ab") (ascii "v") 7 9 16384 tree ≡ done (pos 21 ∷ pos 22 ∷ pos 23 ∷ pos 24 ∷ pos 25 ∷ pos 26 ∷ pos 27 ∷ pos 28 ∷ [])) ×
    (fill_values (ascii "cd") (ascii "z") 8 3 16384 tree ≡ refused 19) ×
    (fill_values (ascii "cd") (ascii "u") 0 3 16384 tree ≡ refused 19) ×
    (fill_values (ascii "u") (ascii "w") 7 0 16384 tree ≡ refused 19) ×
    (fill_values (ascii "u") (ascii "w") 7 2 16384 tree ≡ done (pos 41 ∷ []))
unfolding whole
tree-rooms = (refl, refl, refl, refl, refl, refl)

-- fields of super types, of types below, of others; parts of names and longer ones
tree-names :
    (fill_values (ascii "ef") (ascii "xy") 7 8 16384 tree ≡ refused 17) ×
    (fill_values (ascii "ab") (ascii "z") 7 8 16384 tree ≡ refused 17) ×
    (fill_values (ascii "ab") (ascii "w") 7 8 16384 tree ≡ refused 17) ×
    (fill_values (ascii "u") (ascii "xy") 7 8 16384 tree ≡ refused 17) ×
    (fill_values (ascii "u") (ascii "z") 7 8 16384 tree ≡ refused 17) ×
    (fill_values (ascii "cd") (ascii "v") 7 8 16384 tree ≡ refused 17) ×
    (fill_values (ascii "ef") (ascii "v") 7 8 16384 tree ≡ refused 17) ×
    (fill_values (ascii "cd") (ascii "cd") 7 8 16384 tree ≡ refused 17) ×
    (fill_values (ascii "ab") (ascii "x") 7 8 16384 tree ≡ refused 17) ×
    (fill_values (ascii "ab") (ascii "xyz") 7 8 16384 tree ≡ refused 17) ×
    (fill_values (ascii "ab") (ascii "y") 7 8 16384 tree ≡ refused 17) ×
    (fill_values (ascii "ab") [] 7 8 16384 tree ≡ refused 17) ×
    (fill_values (ascii "a") (ascii "xy") 7 8 16384 tree ≡ refused 16) ×
    (fill_values (ascii "abc") (ascii "xy") 7 8 16384 tree ≡ refused 16) ×
    (fill_values [] (ascii "xy") 7 8 16384 tree ≡ refused 16) ×
    (fill_values (ascii "xy") (ascii "xy") 7 8 16384 tree ≡ refused 16) ×
    (fill_values (ascii "v") (ascii "v") 7 8 16384 tree ≡ refused 16)
unfolding whole
tree-names = (refl, refl, refl, refl, refl, refl, refl, refl, refl, refl, refl, refl, refl, refl, refl, refl, refl)

-- a field has as many values as its own type has objects, whoever is above it; it is looked for in that type alone
count-tree :
    (count_values (ascii "ab") (ascii "xy") 7 16384 tree ≡ done 8) ×
    (count_values (ascii "ab") (ascii "v") 7 16384 tree ≡ done 8) ×
    (count_values (ascii "cd") (ascii "xy") 7 16384 tree ≡ done 4) ×
    (count_values (ascii "cd") (ascii "z") 8 16384 tree ≡ done 4) ×
    (count_values (ascii "cd") (ascii "u") 0 16384 tree ≡ done 4) ×
    (count_values (ascii "cd") (ascii "ab") 11 16384 tree ≡ done 4) ×
    (count_values (ascii "ef") (ascii "w") 7 16384 tree ≡ done 2) ×
    (count_values (ascii "u") (ascii "w") 7 16384 tree ≡ done 1) ×
    (count_values (ascii "ef") (ascii "xy") 7 16384 tree ≡ refused 17) ×
    (count_values (ascii "ab") (ascii "z") 7 16384 tree ≡ refused 17) ×
    (count_values (ascii "abc") (ascii "xy") 7 16384 tree ≡ refused 16) ×
    (count_values (ascii "xy") (ascii "xy") 7 16384 tree ≡ refused 16)
unfolding whole
count-tree = (refl, refl, refl, refl, refl, refl, refl, refl, refl, refl, refl, refl)

-- empty names, and a type without objects
abbrev unnamed : List ℕ
unnamed =
    0x04 ∷ 0x00 ∷ 0x00 ∷ 0x00 ∷ 0x00 ∷ 0x00 ∷ 0x00 ∷ 0x00 ∷ 0x02 ∷ 0x00 ∷ 0x00 ∷ 0x00 ∷ 0x03 ∷ 0x00 ∷ 0x00 ∷ 0x00 ∷ 0x06 ∷ 0x61 ∷ 0x62 ∷ 0x61 ∷ 0x62 ∷ 0x63 ∷ 0x64 ∷ 0x02 ∷ 0x01 ∷ 0x00 ∷ 0x01 ∷ 0x00 ∷ 0x02 ∷ 0x00 ∷ 0x07 ∷ 0x01 ∷ 0x01 ∷ 0x00 ∷ 0x07 ∷ 0x04 ∷ 0x02 ∷ 0x02 ∷ 0x00 ∷ 0x00 ∷ 0x00 ∷ 0x02 ∷ 0x00 ∷ 0x07 ∷ 0x03 ∷ 0x02 ∷ 0x00 ∷ 0x00 ∷ 0x01 ∷ 0x02 ∷ 0x02 ∷ 0x05 ∷ 0x06 ∷ []

-- empty names are names; no objects need no room
unnamed-asked :
    (objects [] 16384 unnamed ≡ done 1) ×
    (objects (ascii "ab") 16384 unnamed ≡ done 0) ×
    (objects (ascii "a") 16384 unnamed ≡ refused 16) ×
    (objects (ascii "b") 16384 unnamed ≡ refused 16) ×
    (objects (ascii "bcd") 16384 unnamed ≡ refused 16) ×
    (fill_values [] [] 7 1 16384 unnamed ≡ done (pos 5 ∷ [])) ×
    (fill_values [] (ascii "bcd") 7 1 16384 unnamed ≡ done (pos 6 ∷ [])) ×
    (fill_values [] (ascii "bcd") 7 0 16384 unnamed ≡ refused 19) ×
    (fill_values (ascii "ab") (ascii "a") 7 0 16384 unnamed ≡ done ([])) ×
    (fill_values (ascii "ab") (ascii "a") 7 1 16384 unnamed ≡ done ([])) ×
    (fill_values (ascii "ab") (ascii "a") 8 0 16384 unnamed ≡ refused 18) ×
    (fill_values (ascii "ab") (ascii "ab") 0 0 16384 unnamed ≡ done ([])) ×
    (fill_values (ascii "ab") (ascii "ab") 0 5 16384 unnamed ≡ done ([])) ×
    (fill_values (ascii "ab") [] 7 1 16384 unnamed ≡ refused 17) ×
    (fill_values [] (ascii "a") 7 1 16384 unnamed ≡ refused 17) ×
    (fill_values (ascii "a") (ascii "a") 7 1 16384 unnamed ≡ refused 16)
unfolding whole
unnamed-asked = (refl, refl, refl, refl, refl, refl, refl, refl, refl, refl, refl, refl, refl, refl, refl, refl)

-- no objects have no values, a constant neither
count-unnamed :
    (count_values [] [] 7 16384 unnamed ≡ done 1) ×
    (count_values (ascii "ab") (ascii "a") 7 16384 unnamed ≡ done 0) ×
    (count_values (ascii "ab") (ascii "ab") 0 16384 unnamed ≡ done 0) ×
    (count_values (ascii "ab") (ascii "a") 8 16384 unnamed ≡ refused 18) ×
    (count_values (ascii "a") (ascii "a") 7 16384 unnamed ≡ refused 16)
unfolding whole
count-unnamed = (refl, refl, refl, refl, refl)

-- as many objects as there can be
abbrev many : List ℕ
many =
    0x01 ∷ 0x00 ∷ 0x00 ∷ 0x00 ∷ 0x01 ∷ 0x61 ∷ 0x01 ∷ 0x01 ∷ 0x00 ∷ 0xFF ∷ 0xFF ∷ 0x03 ∷ 0x00 ∷ 0x01 ∷ 0x00 ∷ 0x00 ∷ 0xFD ∷ 0x01 ∷ 0x00 ∷ []

-- all of them are counted; they are not filled in where one has no room
count-many :
    (count_values (ascii "a") (ascii "a") 0 16384 many ≡ done 65535) ×
    (fill_values (ascii "a") (ascii "a") 0 65534 16384 many ≡ refused 19)
unfolding whole
count-many = (refl, refl)

-- every hex digit on both sides, an empty string, strings again
abbrev hexes : List ℕ
hexes =
    0x04 ∷ 0x00 ∷ 0x00 ∷ 0x00 ∷ 0x08 ∷ 0x00 ∷ 0x00 ∷ 0x00 ∷ 0x08 ∷ 0x00 ∷ 0x00 ∷ 0x00 ∷ 0x10 ∷ 0x00 ∷ 0x00 ∷ 0x00 ∷ 0x10 ∷ 0x01 ∷ 0x23 ∷ 0x45 ∷ 0x67 ∷ 0x89 ∷ 0xAB ∷ 0xCD ∷ 0xEF ∷ 0xFE ∷ 0xDC ∷ 0xBA ∷ 0x98 ∷ 0x76 ∷ 0x54 ∷ 0x32 ∷ 0x10 ∷ 0x00 ∷ 0x01 ∷ 0x00 ∷ 0x00 ∷ 0x00 ∷ 0x04 ∷ 0x09 ∷ 0xAF ∷ 0x90 ∷ 0xFA ∷ 0x00 ∷ []

-- its listing, and the file built back from it
hexes-listed :
    (listing 83 16384 hexes ≡ done (ascii "pair\t4\t0\nstr\t0123456789abcdef\nstr\t\nstr\tfedcba9876543210\nstr\t\npair\t1\t0\nstr\t09af90fa\n")) ×
    (build 44 16384 (ascii "pair\t4\t0\nstr\t0123456789abcdef\nstr\t\nstr\tfedcba9876543210\nstr\t\npair\t1\t0\nstr\t09af90fa\n") ≡ done (0x04 ∷ 0x00 ∷ 0x00 ∷ 0x00 ∷ 0x08 ∷ 0x00 ∷ 0x00 ∷ 0x00 ∷ 0x08 ∷ 0x00 ∷ 0x00 ∷ 0x00 ∷ 0x10 ∷ 0x00 ∷ 0x00 ∷ 0x00 ∷ 0x10 ∷ 0x01 ∷ 0x23 ∷ 0x45 ∷ 0x67 ∷ 0x89 ∷ 0xAB ∷ 0xCD ∷ 0xEF ∷ 0xFE ∷ 0xDC ∷ 0xBA ∷ 0x98 ∷ 0x76 ∷ 0x54 ∷ 0x32 ∷ 0x10 ∷ 0x00 ∷ 0x01 ∷ 0x00 ∷ 0x00 ∷ 0x00 ∷ 0x04 ∷ 0x09 ∷ 0xAF ∷ 0x90 ∷ 0xFA ∷ 0x00 ∷ []))
unfolding whole
hexes-listed = (refl, refl)

-- 8 and 16 digits with leading noughts
abbrev floats : List ℕ
floats =
    0x02 ∷ 0x00 ∷ 0x00 ∷ 0x00 ∷ 0x01 ∷ 0x00 ∷ 0x00 ∷ 0x00 ∷ 0x02 ∷ 0x61 ∷ 0x62 ∷ 0x01 ∷ 0x01 ∷ 0x00 ∷ 0x02 ∷ 0x00 ∷ 0x02 ∷ 0x00 ∷ 0x0C ∷ 0x01 ∷ 0x08 ∷ 0x00 ∷ 0x0D ∷ 0x02 ∷ 0x18 ∷ 0x00 ∷ 0x00 ∷ 0x00 ∷ 0x00 ∷ 0x01 ∷ 0x23 ∷ 0xAB ∷ 0xCD ∷ 0x00 ∷ 0x00 ∷ 0x00 ∷ 0x00 ∷ 0x00 ∷ 0x00 ∷ 0x00 ∷ 0x0F ∷ 0xF9 ∷ 0xA0 ∷ 0x12 ∷ 0x34 ∷ 0x56 ∷ 0x78 ∷ 0x9B ∷ 0xCE ∷ []

-- its listing, and the file built back from it
floats-listed :
    (listing 124 16384 floats ≡ done (ascii "pair\t2\t1\nstr\t61\nstr\t62\ntype\t1\t0\t-\t2\t2\nnew\t12\t1\nnew\t13\t2\nval\t00000000\nval\t0123abcd\nval\t000000000000000f\nval\tf9a0123456789bce\n")) ×
    (build 49 16384 (ascii "pair\t2\t1\nstr\t61\nstr\t62\ntype\t1\t0\t-\t2\t2\nnew\t12\t1\nnew\t13\t2\nval\t00000000\nval\t0123abcd\nval\t000000000000000f\nval\tf9a0123456789bce\n") ≡ done (0x02 ∷ 0x00 ∷ 0x00 ∷ 0x00 ∷ 0x01 ∷ 0x00 ∷ 0x00 ∷ 0x00 ∷ 0x02 ∷ 0x61 ∷ 0x62 ∷ 0x01 ∷ 0x01 ∷ 0x00 ∷ 0x02 ∷ 0x00 ∷ 0x02 ∷ 0x00 ∷ 0x0C ∷ 0x01 ∷ 0x08 ∷ 0x00 ∷ 0x0D ∷ 0x02 ∷ 0x18 ∷ 0x00 ∷ 0x00 ∷ 0x00 ∷ 0x00 ∷ 0x01 ∷ 0x23 ∷ 0xAB ∷ 0xCD ∷ 0x00 ∷ 0x00 ∷ 0x00 ∷ 0x00 ∷ 0x00 ∷ 0x00 ∷ 0x00 ∷ 0x0F ∷ 0xF9 ∷ 0xA0 ∷ 0x12 ∷ 0x34 ∷ 0x56 ∷ 0x78 ∷ 0x9B ∷ 0xCE ∷ []))
unfolding whole
floats-listed = (refl, refl)

-- decimals of one digit up to nineteen
abbrev decimals : List ℕ
decimals =
    0x01 ∷ 0x00 ∷ 0x00 ∷ 0x00 ∷ 0x01 ∷ 0x61 ∷ 0x01 ∷ 0x01 ∷ 0x00 ∷ 0x0A ∷ 0x00 ∷ 0x01 ∷ 0x00 ∷ 0x0B ∷ 0x01 ∷ 0x32 ∷ 0x00 ∷ 0x09 ∷ 0x0A ∷ 0x63 ∷ 0x64 ∷ 0xFF ∷ 0xFF ∷ 0xFF ∷ 0xFF ∷ 0xFF ∷ 0xFF ∷ 0xFF ∷ 0xFF ∷ 0xFF ∷ 0xF7 ∷ 0xFF ∷ 0xFF ∷ 0xFF ∷ 0xFF ∷ 0xFF ∷ 0xFF ∷ 0xFF ∷ 0xFF ∷ 0xF6 ∷ 0xFF ∷ 0xFF ∷ 0xFF ∷ 0xFF ∷ 0xFF ∷ 0xFF ∷ 0xFF ∷ 0xFF ∷ 0x95 ∷ 0x82 ∷ 0xA6 ∷ 0xEF ∷ 0xC7 ∷ 0x9E ∷ 0x84 ∷ 0x91 ∷ 0x11 ∷ 0x80 ∷ 0x80 ∷ 0x80 ∷ 0x80 ∷ 0x80 ∷ 0x80 ∷ 0x80 ∷ 0x80 ∷ 0x80 ∷ []

-- its listing, and the file built back from it
decimals-listed :
    (listing 146 16384 decimals ≡ done (ascii "pair\t1\t1\nstr\t61\ntype\t1\t0\t-\t10\t1\nnew\t11\t1\nval\t0\nval\t9\nval\t10\nval\t99\nval\t100\nval\t-1\nval\t-9\nval\t-10\nval\t1234567890123456789\nval\t-9223372036854775808\n")) ×
    (build 66 16384 (ascii "pair\t1\t1\nstr\t61\ntype\t1\t0\t-\t10\t1\nnew\t11\t1\nval\t0\nval\t9\nval\t10\nval\t99\nval\t100\nval\t-1\nval\t-9\nval\t-10\nval\t1234567890123456789\nval\t-9223372036854775808\n") ≡ done (0x01 ∷ 0x00 ∷ 0x00 ∷ 0x00 ∷ 0x01 ∷ 0x61 ∷ 0x01 ∷ 0x01 ∷ 0x00 ∷ 0x0A ∷ 0x00 ∷ 0x01 ∷ 0x00 ∷ 0x0B ∷ 0x01 ∷ 0x32 ∷ 0x00 ∷ 0x09 ∷ 0x0A ∷ 0x63 ∷ 0x64 ∷ 0xFF ∷ 0xFF ∷ 0xFF ∷ 0xFF ∷ 0xFF ∷ 0xFF ∷ 0xFF ∷ 0xFF ∷ 0xFF ∷ 0xF7 ∷ 0xFF ∷ 0xFF ∷ 0xFF ∷ 0xFF ∷ 0xFF ∷ 0xFF ∷ 0xFF ∷ 0xFF ∷ 0xF6 ∷ 0xFF ∷ 0xFF ∷ 0xFF ∷ 0xFF ∷ 0xFF ∷ 0xFF ∷ 0xFF ∷ 0xFF ∷ 0x95 ∷ 0x82 ∷ 0xA6 ∷ 0xEF ∷ 0xC7 ∷ 0x9E ∷ 0x84 ∷ 0x91 ∷ 0x11 ∷ 0x80 ∷ 0x80 ∷ 0x80 ∷ 0x80 ∷ 0x80 ∷ 0x80 ∷ 0x80 ∷ 0x80 ∷ 0x80 ∷ []))
unfolding whole
decimals-listed = (refl, refl)

-- an entry of each form: with no super type, with one, known, with and without start and objects
abbrev entries : List ℕ
entries =
    0x04 ∷ 0x00 ∷ 0x00 ∷ 0x00 ∷ 0x01 ∷ 0x00 ∷ 0x00 ∷ 0x00 ∷ 0x02 ∷ 0x00 ∷ 0x00 ∷ 0x00 ∷ 0x03 ∷ 0x00 ∷ 0x00 ∷ 0x00 ∷ 0x04 ∷ 0x61 ∷ 0x62 ∷ 0x63 ∷ 0x64 ∷ 0x04 ∷ 0x01 ∷ 0x00 ∷ 0x03 ∷ 0x00 ∷ 0x01 ∷ 0x00 ∷ 0x07 ∷ 0x04 ∷ 0x03 ∷ 0x02 ∷ 0x01 ∷ 0x01 ∷ 0x02 ∷ 0x00 ∷ 0x01 ∷ 0x00 ∷ 0x07 ∷ 0x04 ∷ 0x05 ∷ 0x03 ∷ 0x02 ∷ 0x00 ∷ 0x00 ∷ 0x00 ∷ 0x01 ∷ 0x00 ∷ 0x07 ∷ 0x03 ∷ 0x05 ∷ 0x04 ∷ 0x00 ∷ 0x00 ∷ 0x00 ∷ 0x00 ∷ 0x01 ∷ 0x02 ∷ 0x03 ∷ 0x04 ∷ 0x05 ∷ 0x01 ∷ 0x00 ∷ 0x00 ∷ 0x00 ∷ 0x01 ∷ 0x65 ∷ 0x04 ∷ 0x04 ∷ 0x0C ∷ 0x02 ∷ 0x00 ∷ 0x06 ∷ 0x04 ∷ 0x0C ∷ 0x00 ∷ 0x06 ∷ 0x01 ∷ 0x18 ∷ 0x01 ∷ 0x01 ∷ 0x01 ∷ 0x19 ∷ 0x03 ∷ 0x00 ∷ 0x00 ∷ 0x01 ∷ 0x00 ∷ 0x08 ∷ 0x04 ∷ 0x19 ∷ 0x02 ∷ 0x00 ∷ 0x01 ∷ 0x02 ∷ 0x1A ∷ 0x00 ∷ 0x0A ∷ 0x05 ∷ 0x32 ∷ 0xFF ∷ 0x00 ∷ 0xFF ∷ 0x00 ∷ 0xFF ∷ 0x00 ∷ 0xFF ∷ 0x00 ∷ 0xFF ∷ 0x00 ∷ 0xFF ∷ 0x00 ∷ 0x00 ∷ 0x00 ∷ 0x00 ∷ 0x00 ∷ 0x00 ∷ 0x00 ∷ 0x00 ∷ 0x00 ∷ 0x00 ∷ 0x00 ∷ 0x00 ∷ 0xFF ∷ 0x06 ∷ 0x07 ∷ 0x00 ∷ 0x00 ∷ 0x00 ∷ 0x00 ∷ 0x00 ∷ 0x00 ∷ 0x00 ∷ 0x0B ∷ 0x00 ∷ 0x00 ∷ 0x00 ∷ 0x00 ∷ 0x00 ∷ 0x00 ∷ 0x00 ∷ 0x0C ∷ 0x00 ∷ 0x00 ∷ 0x00 ∷ 0x00 ∷ 0x00 ∷ 0x00 ∷ 0x00 ∷ 0x0D ∷ []

-- its listing, and the file built back from it
entries-listed :
    (listing 446 16384 entries ≡ done (ascii "pair\t4\t4\nstr\t61\nstr\t62\nstr\t63\nstr\t64\ntype\t1\t0\t-\t3\t1\nnew\t7\t4\ntype\t2\t1\t1\t2\t1\nnew\t7\t4\ntype\t3\t2\t0\t0\t1\nnew\t7\t3\ntype\t4\t0\t-\t0\t0\nval\t1\nval\t2\nval\t3\nval\t4\nval\t5\npair\t1\t4\nstr\t65\ntype\t4\t-\t-\t12\t2\nnew\t6\t4\nnew\t6\t1\ntype\t1\t-\t-\t1\t1\nold\ntype\t3\t-\t0\t0\t1\nnew\t8\t4\ntype\t2\t-\t0\t1\t2\nold\nnew\t10\t5\nval\t1\nval\t0\nval\t1\nval\t0\nval\t1\nval\t0\nval\t1\nval\t0\nval\t1\nval\t0\nval\t1\nval\t0\nval\t0\nval\t0\nval\t0\nval\t0\nval\t0\nval\t0\nval\t0\nval\t0\nval\t0\nval\t0\nval\t0\nval\t1\nval\t6\nval\t7\nval\t11\nval\t12\nval\t13\n")) ×
    (build 150 16384 (ascii "pair\t4\t4\nstr\t61\nstr\t62\nstr\t63\nstr\t64\ntype\t1\t0\t-\t3\t1\nnew\t7\t4\ntype\t2\t1\t1\t2\t1\nnew\t7\t4\ntype\t3\t2\t0\t0\t1\nnew\t7\t3\ntype\t4\t0\t-\t0\t0\nval\t1\nval\t2\nval\t3\nval\t4\nval\t5\npair\t1\t4\nstr\t65\ntype\t4\t-\t-\t12\t2\nnew\t6\t4\nnew\t6\t1\ntype\t1\t-\t-\t1\t1\nold\ntype\t3\t-\t0\t0\t1\nnew\t8\t4\ntype\t2\t-\t0\t1\t2\nold\nnew\t10\t5\nval\t1\nval\t0\nval\t1\nval\t0\nval\t1\nval\t0\nval\t1\nval\t0\nval\t1\nval\t0\nval\t1\nval\t0\nval\t0\nval\t0\nval\t0\nval\t0\nval\t0\nval\t0\nval\t0\nval\t0\nval\t0\nval\t0\nval\t0\nval\t1\nval\t6\nval\t7\nval\t11\nval\t12\nval\t13\n") ≡ done (0x04 ∷ 0x00 ∷ 0x00 ∷ 0x00 ∷ 0x01 ∷ 0x00 ∷ 0x00 ∷ 0x00 ∷ 0x02 ∷ 0x00 ∷ 0x00 ∷ 0x00 ∷ 0x03 ∷ 0x00 ∷ 0x00 ∷ 0x00 ∷ 0x04 ∷ 0x61 ∷ 0x62 ∷ 0x63 ∷ 0x64 ∷ 0x04 ∷ 0x01 ∷ 0x00 ∷ 0x03 ∷ 0x00 ∷ 0x01 ∷ 0x00 ∷ 0x07 ∷ 0x04 ∷ 0x03 ∷ 0x02 ∷ 0x01 ∷ 0x01 ∷ 0x02 ∷ 0x00 ∷ 0x01 ∷ 0x00 ∷ 0x07 ∷ 0x04 ∷ 0x05 ∷ 0x03 ∷ 0x02 ∷ 0x00 ∷ 0x00 ∷ 0x00 ∷ 0x01 ∷ 0x00 ∷ 0x07 ∷ 0x03 ∷ 0x05 ∷ 0x04 ∷ 0x00 ∷ 0x00 ∷ 0x00 ∷ 0x00 ∷ 0x01 ∷ 0x02 ∷ 0x03 ∷ 0x04 ∷ 0x05 ∷ 0x01 ∷ 0x00 ∷ 0x00 ∷ 0x00 ∷ 0x01 ∷ 0x65 ∷ 0x04 ∷ 0x04 ∷ 0x0C ∷ 0x02 ∷ 0x00 ∷ 0x06 ∷ 0x04 ∷ 0x0C ∷ 0x00 ∷ 0x06 ∷ 0x01 ∷ 0x18 ∷ 0x01 ∷ 0x01 ∷ 0x01 ∷ 0x19 ∷ 0x03 ∷ 0x00 ∷ 0x00 ∷ 0x01 ∷ 0x00 ∷ 0x08 ∷ 0x04 ∷ 0x19 ∷ 0x02 ∷ 0x00 ∷ 0x01 ∷ 0x02 ∷ 0x1A ∷ 0x00 ∷ 0x0A ∷ 0x05 ∷ 0x32 ∷ 0xFF ∷ 0x00 ∷ 0xFF ∷ 0x00 ∷ 0xFF ∷ 0x00 ∷ 0xFF ∷ 0x00 ∷ 0xFF ∷ 0x00 ∷ 0xFF ∷ 0x00 ∷ 0x00 ∷ 0x00 ∷ 0x00 ∷ 0x00 ∷ 0x00 ∷ 0x00 ∷ 0x00 ∷ 0x00 ∷ 0x00 ∷ 0x00 ∷ 0x00 ∷ 0xFF ∷ 0x06 ∷ 0x07 ∷ 0x00 ∷ 0x00 ∷ 0x00 ∷ 0x00 ∷ 0x00 ∷ 0x00 ∷ 0x00 ∷ 0x0B ∷ 0x00 ∷ 0x00 ∷ 0x00 ∷ 0x00 ∷ 0x00 ∷ 0x00 ∷ 0x00 ∷ 0x0C ∷ 0x00 ∷ 0x00 ∷ 0x00 ∷ 0x00 ∷ 0x00 ∷ 0x00 ∷ 0x00 ∷ 0x0D ∷ []))
unfolding whole
entries-listed = (refl, refl)

-- count 0 of a known type has no old lines
abbrev count0 : List ℕ
count0 =
    0x02 ∷ 0x00 ∷ 0x00 ∷ 0x00 ∷ 0x01 ∷ 0x00 ∷ 0x00 ∷ 0x00 ∷ 0x02 ∷ 0x61 ∷ 0x62 ∷ 0x01 ∷ 0x01 ∷ 0x00 ∷ 0x01 ∷ 0x00 ∷ 0x02 ∷ 0x00 ∷ 0x07 ∷ 0x01 ∷ 0x01 ∷ 0x00 ∷ 0x04 ∷ 0xAC ∷ 0x02 ∷ 0x02 ∷ 0x01 ∷ 0x05 ∷ 0x01 ∷ 0x00 ∷ 0x00 ∷ 0x00 ∷ 0x01 ∷ 0x63 ∷ 0x01 ∷ 0x01 ∷ 0x00 ∷ 0x01 ∷ 0x00 ∷ 0x08 ∷ 0x03 ∷ 0x02 ∷ 0xFE ∷ 0xD4 ∷ 0x00 ∷ 0x01 ∷ 0x01 ∷ 0x00 ∷ 0x00 ∷ 0x00 ∷ 0x01 ∷ 0x01 ∷ 0x02 ∷ 0x03 ∷ 0x02 ∷ 0x02 ∷ 0x06 ∷ 0x06 ∷ 0x07 ∷ 0x00 ∷ 0x08 ∷ 0x00 ∷ 0x09 ∷ []

-- its listing, and the file built back from it
count0-listed :
    (listing 196 16384 count0 ≡ done (ascii "pair\t2\t1\nstr\t61\nstr\t62\ntype\t1\t0\t-\t1\t2\nnew\t7\t1\nnew\t4,300\t2\nval\t5\npair\t1\t1\nstr\t63\ntype\t1\t-\t-\t0\t1\nnew\t8\t3\nval\t-300\npair\t0\t1\ntype\t1\t-\t-\t0\t0\npair\t0\t1\ntype\t1\t-\t-\t2\t3\nold\nold\nold\nval\t6\nval\t7\nval\t8\nval\t9\n")) ×
    (build 63 16384 (ascii "pair\t2\t1\nstr\t61\nstr\t62\ntype\t1\t0\t-\t1\t2\nnew\t7\t1\nnew\t4,300\t2\nval\t5\npair\t1\t1\nstr\t63\ntype\t1\t-\t-\t0\t1\nnew\t8\t3\nval\t-300\npair\t0\t1\ntype\t1\t-\t-\t0\t0\npair\t0\t1\ntype\t1\t-\t-\t2\t3\nold\nold\nold\nval\t6\nval\t7\nval\t8\nval\t9\n") ≡ done (0x02 ∷ 0x00 ∷ 0x00 ∷ 0x00 ∷ 0x01 ∷ 0x00 ∷ 0x00 ∷ 0x00 ∷ 0x02 ∷ 0x61 ∷ 0x62 ∷ 0x01 ∷ 0x01 ∷ 0x00 ∷ 0x01 ∷ 0x00 ∷ 0x02 ∷ 0x00 ∷ 0x07 ∷ 0x01 ∷ 0x01 ∷ 0x00 ∷ 0x04 ∷ 0xAC ∷ 0x02 ∷ 0x02 ∷ 0x01 ∷ 0x05 ∷ 0x01 ∷ 0x00 ∷ 0x00 ∷ 0x00 ∷ 0x01 ∷ 0x63 ∷ 0x01 ∷ 0x01 ∷ 0x00 ∷ 0x01 ∷ 0x00 ∷ 0x08 ∷ 0x03 ∷ 0x02 ∷ 0xFE ∷ 0xD4 ∷ 0x00 ∷ 0x01 ∷ 0x01 ∷ 0x00 ∷ 0x00 ∷ 0x00 ∷ 0x01 ∷ 0x01 ∷ 0x02 ∷ 0x03 ∷ 0x02 ∷ 0x02 ∷ 0x06 ∷ 0x06 ∷ 0x07 ∷ 0x00 ∷ 0x08 ∷ 0x00 ∷ 0x09 ∷ []))
unfolding whole
count0-listed = (refl, refl)

-- kinds of one number and of several
abbrev kinds : List ℕ
kinds =
    0x0C ∷ 0x00 ∷ 0x00 ∷ 0x00 ∷ 0x01 ∷ 0x00 ∷ 0x00 ∷ 0x00 ∷ 0x02 ∷ 0x00 ∷ 0x00 ∷ 0x00 ∷ 0x03 ∷ 0x00 ∷ 0x00 ∷ 0x00 ∷ 0x04 ∷ 0x00 ∷ 0x00 ∷ 0x00 ∷ 0x05 ∷ 0x00 ∷ 0x00 ∷ 0x00 ∷ 0x06 ∷ 0x00 ∷ 0x00 ∷ 0x00 ∷ 0x07 ∷ 0x00 ∷ 0x00 ∷ 0x00 ∷ 0x08 ∷ 0x00 ∷ 0x00 ∷ 0x00 ∷ 0x09 ∷ 0x00 ∷ 0x00 ∷ 0x00 ∷ 0x0A ∷ 0x00 ∷ 0x00 ∷ 0x00 ∷ 0x0B ∷ 0x00 ∷ 0x00 ∷ 0x00 ∷ 0x0C ∷ 0x61 ∷ 0x62 ∷ 0x63 ∷ 0x64 ∷ 0x65 ∷ 0x66 ∷ 0x67 ∷ 0x68 ∷ 0x69 ∷ 0x6A ∷ 0x6B ∷ 0x6C ∷ 0x01 ∷ 0x0C ∷ 0x00 ∷ 0x01 ∷ 0x00 ∷ 0x0C ∷ 0x00 ∷ 0x00 ∷ 0x00 ∷ 0x01 ∷ 0x00 ∷ 0x00 ∷ 0x01 ∷ 0xFE ∷ 0xD4 ∷ 0x02 ∷ 0x00 ∷ 0x00 ∷ 0x02 ∷ 0x00 ∷ 0x01 ∷ 0x00 ∷ 0x00 ∷ 0x03 ∷ 0x00 ∷ 0x00 ∷ 0x03 ∷ 0xFF ∷ 0xFF ∷ 0xFF ∷ 0xFF ∷ 0x00 ∷ 0x00 ∷ 0x00 ∷ 0x00 ∷ 0x04 ∷ 0x00 ∷ 0x00 ∷ 0x04 ∷ 0xFF ∷ 0xFF ∷ 0xFF ∷ 0xFF ∷ 0xFF ∷ 0xFF ∷ 0xFF ∷ 0xFF ∷ 0x7F ∷ 0x05 ∷ 0x00 ∷ 0x00 ∷ 0x0F ∷ 0x00 ∷ 0x0E ∷ 0x06 ∷ 0x00 ∷ 0x00 ∷ 0x0F ∷ 0x02 ∷ 0x20 ∷ 0x07 ∷ 0x02 ∷ 0x00 ∷ 0x11 ∷ 0x0D ∷ 0x08 ∷ 0x13 ∷ 0x00 ∷ 0x12 ∷ 0x06 ∷ 0x09 ∷ 0x17 ∷ 0x00 ∷ 0x13 ∷ 0x0B ∷ 0x0A ∷ 0x18 ∷ 0x00 ∷ 0x0E ∷ 0x0B ∷ 0x19 ∷ 0x00 ∷ 0x20 ∷ 0x0C ∷ 0x1A ∷ 0x01 ∷ 0x00 ∷ 0x02 ∷ 0xFF ∷ 0xF0 ∷ 0x00 ∷ 0x00 ∷ 0x00 ∷ 0x00 ∷ 0x00 ∷ 0x00 ∷ 0x00 ∷ 0x00 ∷ 0x00 ∷ 0x00 ∷ 0x00 ∷ 0x00 ∷ 0x00 ∷ 0x00 ∷ 0x03 ∷ 0xFF ∷ 0x00 ∷ 0xFF ∷ 0x00 ∷ 0x0C ∷ 0x01 ∷ []

-- its listing, and the file built back from it
kinds-listed :
    (listing 357 16384 kinds ≡ done (ascii "pair\t12\t1\nstr\t61\nstr\t62\nstr\t63\nstr\t64\nstr\t65\nstr\t66\nstr\t67\nstr\t68\nstr\t69\nstr\t6a\nstr\t6b\nstr\t6c\ntype\t12\t0\t-\t1\t12\nnew\t0,0\t1\nnew\t1,-300\t2\nnew\t2,65536\t3\nnew\t3,-4294967296\t4\nnew\t4,9223372036854775807\t5\nnew\t15,0,14\t6\nnew\t15,2,32\t7\nnew\t17,13\t8\nnew\t18,6\t9\nnew\t19,11\t10\nnew\t14\t11\nnew\t32\t12\nval\nval\t1\t0\nval\tfff0000000000000\t0000000000000000\nval\t1\t0\t1\nval\nval\t12\nval\t1\n")) ×
    (build 172 16384 (ascii "pair\t12\t1\nstr\t61\nstr\t62\nstr\t63\nstr\t64\nstr\t65\nstr\t66\nstr\t67\nstr\t68\nstr\t69\nstr\t6a\nstr\t6b\nstr\t6c\ntype\t12\t0\t-\t1\t12\nnew\t0,0\t1\nnew\t1,-300\t2\nnew\t2,65536\t3\nnew\t3,-4294967296\t4\nnew\t4,9223372036854775807\t5\nnew\t15,0,14\t6\nnew\t15,2,32\t7\nnew\t17,13\t8\nnew\t18,6\t9\nnew\t19,11\t10\nnew\t14\t11\nnew\t32\t12\nval\nval\t1\t0\nval\tfff0000000000000\t0000000000000000\nval\t1\t0\t1\nval\nval\t12\nval\t1\n") ≡ done (0x0C ∷ 0x00 ∷ 0x00 ∷ 0x00 ∷ 0x01 ∷ 0x00 ∷ 0x00 ∷ 0x00 ∷ 0x02 ∷ 0x00 ∷ 0x00 ∷ 0x00 ∷ 0x03 ∷ 0x00 ∷ 0x00 ∷ 0x00 ∷ 0x04 ∷ 0x00 ∷ 0x00 ∷ 0x00 ∷ 0x05 ∷ 0x00 ∷ 0x00 ∷ 0x00 ∷ 0x06 ∷ 0x00 ∷ 0x00 ∷ 0x00 ∷ 0x07 ∷ 0x00 ∷ 0x00 ∷ 0x00 ∷ 0x08 ∷ 0x00 ∷ 0x00 ∷ 0x00 ∷ 0x09 ∷ 0x00 ∷ 0x00 ∷ 0x00 ∷ 0x0A ∷ 0x00 ∷ 0x00 ∷ 0x00 ∷ 0x0B ∷ 0x00 ∷ 0x00 ∷ 0x00 ∷ 0x0C ∷ 0x61 ∷ 0x62 ∷ 0x63 ∷ 0x64 ∷ 0x65 ∷ 0x66 ∷ 0x67 ∷ 0x68 ∷ 0x69 ∷ 0x6A ∷ 0x6B ∷ 0x6C ∷ 0x01 ∷ 0x0C ∷ 0x00 ∷ 0x01 ∷ 0x00 ∷ 0x0C ∷ 0x00 ∷ 0x00 ∷ 0x00 ∷ 0x01 ∷ 0x00 ∷ 0x00 ∷ 0x01 ∷ 0xFE ∷ 0xD4 ∷ 0x02 ∷ 0x00 ∷ 0x00 ∷ 0x02 ∷ 0x00 ∷ 0x01 ∷ 0x00 ∷ 0x00 ∷ 0x03 ∷ 0x00 ∷ 0x00 ∷ 0x03 ∷ 0xFF ∷ 0xFF ∷ 0xFF ∷ 0xFF ∷ 0x00 ∷ 0x00 ∷ 0x00 ∷ 0x00 ∷ 0x04 ∷ 0x00 ∷ 0x00 ∷ 0x04 ∷ 0xFF ∷ 0xFF ∷ 0xFF ∷ 0xFF ∷ 0xFF ∷ 0xFF ∷ 0xFF ∷ 0xFF ∷ 0x7F ∷ 0x05 ∷ 0x00 ∷ 0x00 ∷ 0x0F ∷ 0x00 ∷ 0x0E ∷ 0x06 ∷ 0x00 ∷ 0x00 ∷ 0x0F ∷ 0x02 ∷ 0x20 ∷ 0x07 ∷ 0x02 ∷ 0x00 ∷ 0x11 ∷ 0x0D ∷ 0x08 ∷ 0x13 ∷ 0x00 ∷ 0x12 ∷ 0x06 ∷ 0x09 ∷ 0x17 ∷ 0x00 ∷ 0x13 ∷ 0x0B ∷ 0x0A ∷ 0x18 ∷ 0x00 ∷ 0x0E ∷ 0x0B ∷ 0x19 ∷ 0x00 ∷ 0x20 ∷ 0x0C ∷ 0x1A ∷ 0x01 ∷ 0x00 ∷ 0x02 ∷ 0xFF ∷ 0xF0 ∷ 0x00 ∷ 0x00 ∷ 0x00 ∷ 0x00 ∷ 0x00 ∷ 0x00 ∷ 0x00 ∷ 0x00 ∷ 0x00 ∷ 0x00 ∷ 0x00 ∷ 0x00 ∷ 0x00 ∷ 0x00 ∷ 0x03 ∷ 0xFF ∷ 0x00 ∷ 0xFF ∷ 0x00 ∷ 0x0C ∷ 0x01 ∷ []))
unfolding whole
kinds-listed = (refl, refl)

-- values of several elements, of one and of none
abbrev lists : List ℕ
lists =
    0x03 ∷ 0x00 ∷ 0x00 ∷ 0x00 ∷ 0x01 ∷ 0x00 ∷ 0x00 ∷ 0x00 ∷ 0x02 ∷ 0x00 ∷ 0x00 ∷ 0x00 ∷ 0x03 ∷ 0x61 ∷ 0x62 ∷ 0x63 ∷ 0x01 ∷ 0x01 ∷ 0x00 ∷ 0x03 ∷ 0x00 ∷ 0x03 ∷ 0x00 ∷ 0x11 ∷ 0x08 ∷ 0x01 ∷ 0x0B ∷ 0x00 ∷ 0x12 ∷ 0x0C ∷ 0x02 ∷ 0x1A ∷ 0x00 ∷ 0x13 ∷ 0x0E ∷ 0x03 ∷ 0x20 ∷ 0x03 ∷ 0xFF ∷ 0xFF ∷ 0x01 ∷ 0x00 ∷ 0x00 ∷ 0x00 ∷ 0x00 ∷ 0x01 ∷ 0x00 ∷ 0x07 ∷ 0x00 ∷ 0x02 ∷ 0x00 ∷ 0x00 ∷ 0x00 ∷ 0x0A ∷ 0xA0 ∷ 0x00 ∷ 0x00 ∷ 0x00 ∷ 0x01 ∷ 0xFF ∷ 0xFF ∷ 0xFF ∷ 0xFF ∷ 0x02 ∷ 0x03 ∷ 0x03 ∷ 0x01 ∷ 0x00 ∷ 0x00 ∷ []

-- its listing, and the file built back from it
lists-listed :
    (listing 160 16384 lists ≡ done (ascii "pair\t3\t1\nstr\t61\nstr\t62\nstr\t63\ntype\t1\t0\t-\t3\t3\nnew\t17,8\t1\nnew\t18,12\t2\nnew\t19,14\t3\nval\t-1\t256\t0\nval\nval\t7\nval\nval\t0000000a\ta0000000\nval\tffffffff\nval\t3\t3\nval\t0\nval\n")) ×
    (build 69 16384 (ascii "pair\t3\t1\nstr\t61\nstr\t62\nstr\t63\ntype\t1\t0\t-\t3\t3\nnew\t17,8\t1\nnew\t18,12\t2\nnew\t19,14\t3\nval\t-1\t256\t0\nval\nval\t7\nval\nval\t0000000a\ta0000000\nval\tffffffff\nval\t3\t3\nval\t0\nval\n") ≡ done (0x03 ∷ 0x00 ∷ 0x00 ∷ 0x00 ∷ 0x01 ∷ 0x00 ∷ 0x00 ∷ 0x00 ∷ 0x02 ∷ 0x00 ∷ 0x00 ∷ 0x00 ∷ 0x03 ∷ 0x61 ∷ 0x62 ∷ 0x63 ∷ 0x01 ∷ 0x01 ∷ 0x00 ∷ 0x03 ∷ 0x00 ∷ 0x03 ∷ 0x00 ∷ 0x11 ∷ 0x08 ∷ 0x01 ∷ 0x0B ∷ 0x00 ∷ 0x12 ∷ 0x0C ∷ 0x02 ∷ 0x1A ∷ 0x00 ∷ 0x13 ∷ 0x0E ∷ 0x03 ∷ 0x20 ∷ 0x03 ∷ 0xFF ∷ 0xFF ∷ 0x01 ∷ 0x00 ∷ 0x00 ∷ 0x00 ∷ 0x00 ∷ 0x01 ∷ 0x00 ∷ 0x07 ∷ 0x00 ∷ 0x02 ∷ 0x00 ∷ 0x00 ∷ 0x00 ∷ 0x0A ∷ 0xA0 ∷ 0x00 ∷ 0x00 ∷ 0x00 ∷ 0x01 ∷ 0xFF ∷ 0xFF ∷ 0xFF ∷ 0xFF ∷ 0x02 ∷ 0x03 ∷ 0x03 ∷ 0x01 ∷ 0x00 ∷ 0x00 ∷ []))
unfolding whole
lists-listed = (refl, refl)

-- annotations are two fields each, null is two noughts; alone, in arrays of every form, by equal strings
abbrev annotated : List ℕ
annotated =
    0x07 ∷ 0x00 ∷ 0x00 ∷ 0x00 ∷ 0x01 ∷ 0x00 ∷ 0x00 ∷ 0x00 ∷ 0x02 ∷ 0x00 ∷ 0x00 ∷ 0x00 ∷ 0x03 ∷ 0x00 ∷ 0x00 ∷ 0x00 ∷ 0x04 ∷ 0x00 ∷ 0x00 ∷ 0x00 ∷ 0x05 ∷ 0x00 ∷ 0x00 ∷ 0x00 ∷ 0x06 ∷ 0x00 ∷ 0x00 ∷ 0x00 ∷ 0x07 ∷ 0x61 ∷ 0x62 ∷ 0x63 ∷ 0x64 ∷ 0x65 ∷ 0x66 ∷ 0x61 ∷ 0x02 ∷ 0x01 ∷ 0x00 ∷ 0x02 ∷ 0x00 ∷ 0x05 ∷ 0x00 ∷ 0x05 ∷ 0x01 ∷ 0x04 ∷ 0x00 ∷ 0x0F ∷ 0x02 ∷ 0x05 ∷ 0x02 ∷ 0x0C ∷ 0x00 ∷ 0x11 ∷ 0x05 ∷ 0x03 ∷ 0x14 ∷ 0x00 ∷ 0x12 ∷ 0x05 ∷ 0x04 ∷ 0x18 ∷ 0x00 ∷ 0x13 ∷ 0x05 ∷ 0x05 ∷ 0x20 ∷ 0x02 ∷ 0x00 ∷ 0x03 ∷ 0x00 ∷ 0x01 ∷ 0x00 ∷ 0x0F ∷ 0x00 ∷ 0x05 ∷ 0x06 ∷ 0x20 ∷ 0x02 ∷ 0x03 ∷ 0x00 ∷ 0x00 ∷ 0x07 ∷ 0x01 ∷ 0x00 ∷ 0x00 ∷ 0x00 ∷ 0x00 ∷ 0x01 ∷ 0x02 ∷ 0x00 ∷ 0x03 ∷ 0x02 ∷ 0x01 ∷ 0x02 ∷ 0x02 ∷ 0x02 ∷ 0x03 ∷ 0x01 ∷ 0x00 ∷ 0x00 ∷ 0x00 ∷ 0x02 ∷ 0x01 ∷ 0x01 ∷ 0x01 ∷ 0x01 ∷ 0x01 ∷ 0x07 ∷ 0x02 ∷ []

-- its listing, and the file built back from it
annotated-listed :
    (listing 259 16384 annotated ≡ done (ascii "pair\t7\t2\nstr\t61\nstr\t62\nstr\t63\nstr\t64\nstr\t65\nstr\t66\nstr\t61\ntype\t1\t0\t-\t2\t5\nnew\t5\t1\nnew\t15,2,5\t2\nnew\t17,5\t3\nnew\t18,5\t4\nnew\t19,5\t5\ntype\t2\t0\t-\t3\t1\nnew\t15,0,5\t6\nval\t2\t3\nval\t0\t0\nval\t7\t1\t0\t0\nval\t0\t0\t1\t2\nval\nval\t2\t1\t2\t2\t2\t3\nval\t0\t0\nval\nval\t1\t1\t1\t1\nval\t7\t2\nval\nval\nval\n")) ×
    (build 110 16384 (ascii "pair\t7\t2\nstr\t61\nstr\t62\nstr\t63\nstr\t64\nstr\t65\nstr\t66\nstr\t61\ntype\t1\t0\t-\t2\t5\nnew\t5\t1\nnew\t15,2,5\t2\nnew\t17,5\t3\nnew\t18,5\t4\nnew\t19,5\t5\ntype\t2\t0\t-\t3\t1\nnew\t15,0,5\t6\nval\t2\t3\nval\t0\t0\nval\t7\t1\t0\t0\nval\t0\t0\t1\t2\nval\nval\t2\t1\t2\t2\t2\t3\nval\t0\t0\nval\nval\t1\t1\t1\t1\nval\t7\t2\nval\nval\nval\n") ≡ done (0x07 ∷ 0x00 ∷ 0x00 ∷ 0x00 ∷ 0x01 ∷ 0x00 ∷ 0x00 ∷ 0x00 ∷ 0x02 ∷ 0x00 ∷ 0x00 ∷ 0x00 ∷ 0x03 ∷ 0x00 ∷ 0x00 ∷ 0x00 ∷ 0x04 ∷ 0x00 ∷ 0x00 ∷ 0x00 ∷ 0x05 ∷ 0x00 ∷ 0x00 ∷ 0x00 ∷ 0x06 ∷ 0x00 ∷ 0x00 ∷ 0x00 ∷ 0x07 ∷ 0x61 ∷ 0x62 ∷ 0x63 ∷ 0x64 ∷ 0x65 ∷ 0x66 ∷ 0x61 ∷ 0x02 ∷ 0x01 ∷ 0x00 ∷ 0x02 ∷ 0x00 ∷ 0x05 ∷ 0x00 ∷ 0x05 ∷ 0x01 ∷ 0x04 ∷ 0x00 ∷ 0x0F ∷ 0x02 ∷ 0x05 ∷ 0x02 ∷ 0x0C ∷ 0x00 ∷ 0x11 ∷ 0x05 ∷ 0x03 ∷ 0x14 ∷ 0x00 ∷ 0x12 ∷ 0x05 ∷ 0x04 ∷ 0x18 ∷ 0x00 ∷ 0x13 ∷ 0x05 ∷ 0x05 ∷ 0x20 ∷ 0x02 ∷ 0x00 ∷ 0x03 ∷ 0x00 ∷ 0x01 ∷ 0x00 ∷ 0x0F ∷ 0x00 ∷ 0x05 ∷ 0x06 ∷ 0x20 ∷ 0x02 ∷ 0x03 ∷ 0x00 ∷ 0x00 ∷ 0x07 ∷ 0x01 ∷ 0x00 ∷ 0x00 ∷ 0x00 ∷ 0x00 ∷ 0x01 ∷ 0x02 ∷ 0x00 ∷ 0x03 ∷ 0x02 ∷ 0x01 ∷ 0x02 ∷ 0x02 ∷ 0x02 ∷ 0x03 ∷ 0x01 ∷ 0x00 ∷ 0x00 ∷ 0x00 ∷ 0x02 ∷ 0x01 ∷ 0x01 ∷ 0x01 ∷ 0x01 ∷ 0x01 ∷ 0x07 ∷ 0x02 ∷ []))
unfolding whole
annotated-listed = (refl, refl)

-- annotations of known and late fields, to objects and types of this pair and before
abbrev annotated-late : List ℕ
annotated-late =
    0x04 ∷ 0x00 ∷ 0x00 ∷ 0x00 ∷ 0x01 ∷ 0x00 ∷ 0x00 ∷ 0x00 ∷ 0x02 ∷ 0x00 ∷ 0x00 ∷ 0x00 ∷ 0x03 ∷ 0x00 ∷ 0x00 ∷ 0x00 ∷ 0x04 ∷ 0x61 ∷ 0x62 ∷ 0x63 ∷ 0x64 ∷ 0x02 ∷ 0x01 ∷ 0x00 ∷ 0x02 ∷ 0x00 ∷ 0x01 ∷ 0x00 ∷ 0x05 ∷ 0x04 ∷ 0x04 ∷ 0x02 ∷ 0x01 ∷ 0x01 ∷ 0x01 ∷ 0x00 ∷ 0x00 ∷ 0x01 ∷ 0x02 ∷ 0x00 ∷ 0x00 ∷ 0x01 ∷ 0x00 ∷ 0x00 ∷ 0x00 ∷ 0x01 ∷ 0x61 ∷ 0x02 ∷ 0x05 ∷ 0x01 ∷ 0x02 ∷ 0x02 ∷ 0x00 ∷ 0x05 ∷ 0x03 ∷ 0x08 ∷ 0x03 ∷ 0x00 ∷ 0x01 ∷ 0x00 ∷ 0x01 ∷ 0x00 ∷ 0x05 ∷ 0x04 ∷ 0x0A ∷ 0x03 ∷ 0x01 ∷ 0x05 ∷ 0x03 ∷ 0x03 ∷ 0x01 ∷ 0x00 ∷ 0x00 ∷ 0x01 ∷ 0x01 ∷ []

-- its listing, and the file built back from it
annotated-late-listed :
    (listing 197 16384 annotated-late ≡ done (ascii "pair\t4\t2\nstr\t61\nstr\t62\nstr\t63\nstr\t64\ntype\t1\t0\t-\t2\t1\nnew\t5\t4\ntype\t2\t1\t1\t1\t0\nval\t1\t2\nval\t0\t0\npair\t1\t2\nstr\t61\ntype\t5\t-\t-\t1\t2\nold\nnew\t5\t3\ntype\t3\t0\t-\t1\t1\nnew\t5\t4\nval\t3\t1\nval\t5\t3\nval\t3\t1\nval\t0\t0\nval\t1\t1\n")) ×
    (build 75 16384 (ascii "pair\t4\t2\nstr\t61\nstr\t62\nstr\t63\nstr\t64\ntype\t1\t0\t-\t2\t1\nnew\t5\t4\ntype\t2\t1\t1\t1\t0\nval\t1\t2\nval\t0\t0\npair\t1\t2\nstr\t61\ntype\t5\t-\t-\t1\t2\nold\nnew\t5\t3\ntype\t3\t0\t-\t1\t1\nnew\t5\t4\nval\t3\t1\nval\t5\t3\nval\t3\t1\nval\t0\t0\nval\t1\t1\n") ≡ done (0x04 ∷ 0x00 ∷ 0x00 ∷ 0x00 ∷ 0x01 ∷ 0x00 ∷ 0x00 ∷ 0x00 ∷ 0x02 ∷ 0x00 ∷ 0x00 ∷ 0x00 ∷ 0x03 ∷ 0x00 ∷ 0x00 ∷ 0x00 ∷ 0x04 ∷ 0x61 ∷ 0x62 ∷ 0x63 ∷ 0x64 ∷ 0x02 ∷ 0x01 ∷ 0x00 ∷ 0x02 ∷ 0x00 ∷ 0x01 ∷ 0x00 ∷ 0x05 ∷ 0x04 ∷ 0x04 ∷ 0x02 ∷ 0x01 ∷ 0x01 ∷ 0x01 ∷ 0x00 ∷ 0x00 ∷ 0x01 ∷ 0x02 ∷ 0x00 ∷ 0x00 ∷ 0x01 ∷ 0x00 ∷ 0x00 ∷ 0x00 ∷ 0x01 ∷ 0x61 ∷ 0x02 ∷ 0x05 ∷ 0x01 ∷ 0x02 ∷ 0x02 ∷ 0x00 ∷ 0x05 ∷ 0x03 ∷ 0x08 ∷ 0x03 ∷ 0x00 ∷ 0x01 ∷ 0x00 ∷ 0x01 ∷ 0x00 ∷ 0x05 ∷ 0x04 ∷ 0x0A ∷ 0x03 ∷ 0x01 ∷ 0x05 ∷ 0x03 ∷ 0x03 ∷ 0x01 ∷ 0x00 ∷ 0x00 ∷ 0x01 ∷ 0x01 ∷ []))
unfolding whole
annotated-late-listed = (refl, refl)

-- maps print their sizes before their keys: every element kind as key and as value, repeated and null keys, empty maps
abbrev mapped : List ℕ
mapped =
    0x06 ∷ 0x00 ∷ 0x00 ∷ 0x00 ∷ 0x01 ∷ 0x00 ∷ 0x00 ∷ 0x00 ∷ 0x02 ∷ 0x00 ∷ 0x00 ∷ 0x00 ∷ 0x03 ∷ 0x00 ∷ 0x00 ∷ 0x00 ∷ 0x04 ∷ 0x00 ∷ 0x00 ∷ 0x00 ∷ 0x05 ∷ 0x00 ∷ 0x00 ∷ 0x00 ∷ 0x06 ∷ 0x61 ∷ 0x62 ∷ 0x63 ∷ 0x64 ∷ 0x65 ∷ 0x66 ∷ 0x01 ∷ 0x01 ∷ 0x00 ∷ 0x02 ∷ 0x00 ∷ 0x06 ∷ 0x00 ∷ 0x14 ∷ 0x02 ∷ 0x06 ∷ 0x07 ∷ 0x01 ∷ 0x06 ∷ 0x00 ∷ 0x14 ∷ 0x02 ∷ 0x08 ∷ 0x09 ∷ 0x02 ∷ 0x1A ∷ 0x00 ∷ 0x14 ∷ 0x02 ∷ 0x0A ∷ 0x0B ∷ 0x03 ∷ 0x26 ∷ 0x00 ∷ 0x14 ∷ 0x02 ∷ 0x0C ∷ 0x0D ∷ 0x04 ∷ 0x34 ∷ 0x00 ∷ 0x14 ∷ 0x02 ∷ 0x0E ∷ 0x05 ∷ 0x05 ∷ 0x42 ∷ 0x00 ∷ 0x14 ∷ 0x02 ∷ 0x20 ∷ 0x0E ∷ 0x06 ∷ 0x4A ∷ 0x02 ∷ 0xFF ∷ 0x80 ∷ 0xFF ∷ 0x7F ∷ 0x00 ∷ 0x01 ∷ 0xFE ∷ 0xD4 ∷ 0x00 ∷ 0x01 ∷ 0x11 ∷ 0x70 ∷ 0x02 ∷ 0x00 ∷ 0x05 ∷ 0x00 ∷ 0x00 ∷ 0x00 ∷ 0x06 ∷ 0x00 ∷ 0x05 ∷ 0x00 ∷ 0x00 ∷ 0x00 ∷ 0x06 ∷ 0x00 ∷ 0x01 ∷ 0xFF ∷ 0xFF ∷ 0xFF ∷ 0xFF ∷ 0x00 ∷ 0x00 ∷ 0x00 ∷ 0x00 ∷ 0x80 ∷ 0x01 ∷ 0x01 ∷ 0x01 ∷ 0x23 ∷ 0xAB ∷ 0xCD ∷ 0xFE ∷ 0xDC ∷ 0xBA ∷ 0x98 ∷ 0x76 ∷ 0x54 ∷ 0x32 ∷ 0x10 ∷ 0x00 ∷ 0x03 ∷ 0x06 ∷ 0x01 ∷ 0x02 ∷ 0x00 ∷ 0x00 ∷ 0x00 ∷ 0x00 ∷ 0x00 ∷ 0x00 ∷ 0x01 ∷ 0x01 ∷ 0x01 ∷ 0x01 ∷ 0x02 ∷ 0x02 ∷ 0x00 ∷ 0x00 ∷ 0x06 ∷ 0x01 ∷ 0x01 ∷ 0x05 ∷ []

-- its listing, and the file built back from it
mapped-listed :
    (listing 345 16384 mapped ≡ done (ascii "pair\t6\t1\nstr\t61\nstr\t62\nstr\t63\nstr\t64\nstr\t65\nstr\t66\ntype\t1\t0\t-\t2\t6\nnew\t20,2,6,7\t1\nnew\t20,2,8,9\t2\nnew\t20,2,10,11\t3\nnew\t20,2,12,13\t4\nnew\t20,2,14,5\t5\nnew\t20,2,32,14\t6\nval\t2\t1\t-128\t1\t127\nval\t0\nval\t1\t-300\t70000\nval\t2\t5\t6\t5\t6\nval\t0\nval\t1\t-4294967296\t128\nval\t1\t0123abcd\tfedcba9876543210\nval\t0\nval\t3\t6\t1\t2\t0\t0\t0\t0\t0\t0\nval\t1\t1\t1\t1\nval\t2\t2\t0\t0\t6\nval\t1\t1\t5\n")) ×
    (build 153 16384 (ascii "pair\t6\t1\nstr\t61\nstr\t62\nstr\t63\nstr\t64\nstr\t65\nstr\t66\ntype\t1\t0\t-\t2\t6\nnew\t20,2,6,7\t1\nnew\t20,2,8,9\t2\nnew\t20,2,10,11\t3\nnew\t20,2,12,13\t4\nnew\t20,2,14,5\t5\nnew\t20,2,32,14\t6\nval\t2\t1\t-128\t1\t127\nval\t0\nval\t1\t-300\t70000\nval\t2\t5\t6\t5\t6\nval\t0\nval\t1\t-4294967296\t128\nval\t1\t0123abcd\tfedcba9876543210\nval\t0\nval\t3\t6\t1\t2\t0\t0\t0\t0\t0\t0\nval\t1\t1\t1\t1\nval\t2\t2\t0\t0\t6\nval\t1\t1\t5\n") ≡ done (0x06 ∷ 0x00 ∷ 0x00 ∷ 0x00 ∷ 0x01 ∷ 0x00 ∷ 0x00 ∷ 0x00 ∷ 0x02 ∷ 0x00 ∷ 0x00 ∷ 0x00 ∷ 0x03 ∷ 0x00 ∷ 0x00 ∷ 0x00 ∷ 0x04 ∷ 0x00 ∷ 0x00 ∷ 0x00 ∷ 0x05 ∷ 0x00 ∷ 0x00 ∷ 0x00 ∷ 0x06 ∷ 0x61 ∷ 0x62 ∷ 0x63 ∷ 0x64 ∷ 0x65 ∷ 0x66 ∷ 0x01 ∷ 0x01 ∷ 0x00 ∷ 0x02 ∷ 0x00 ∷ 0x06 ∷ 0x00 ∷ 0x14 ∷ 0x02 ∷ 0x06 ∷ 0x07 ∷ 0x01 ∷ 0x06 ∷ 0x00 ∷ 0x14 ∷ 0x02 ∷ 0x08 ∷ 0x09 ∷ 0x02 ∷ 0x1A ∷ 0x00 ∷ 0x14 ∷ 0x02 ∷ 0x0A ∷ 0x0B ∷ 0x03 ∷ 0x26 ∷ 0x00 ∷ 0x14 ∷ 0x02 ∷ 0x0C ∷ 0x0D ∷ 0x04 ∷ 0x34 ∷ 0x00 ∷ 0x14 ∷ 0x02 ∷ 0x0E ∷ 0x05 ∷ 0x05 ∷ 0x42 ∷ 0x00 ∷ 0x14 ∷ 0x02 ∷ 0x20 ∷ 0x0E ∷ 0x06 ∷ 0x4A ∷ 0x02 ∷ 0xFF ∷ 0x80 ∷ 0xFF ∷ 0x7F ∷ 0x00 ∷ 0x01 ∷ 0xFE ∷ 0xD4 ∷ 0x00 ∷ 0x01 ∷ 0x11 ∷ 0x70 ∷ 0x02 ∷ 0x00 ∷ 0x05 ∷ 0x00 ∷ 0x00 ∷ 0x00 ∷ 0x06 ∷ 0x00 ∷ 0x05 ∷ 0x00 ∷ 0x00 ∷ 0x00 ∷ 0x06 ∷ 0x00 ∷ 0x01 ∷ 0xFF ∷ 0xFF ∷ 0xFF ∷ 0xFF ∷ 0x00 ∷ 0x00 ∷ 0x00 ∷ 0x00 ∷ 0x80 ∷ 0x01 ∷ 0x01 ∷ 0x01 ∷ 0x23 ∷ 0xAB ∷ 0xCD ∷ 0xFE ∷ 0xDC ∷ 0xBA ∷ 0x98 ∷ 0x76 ∷ 0x54 ∷ 0x32 ∷ 0x10 ∷ 0x00 ∷ 0x03 ∷ 0x06 ∷ 0x01 ∷ 0x02 ∷ 0x00 ∷ 0x00 ∷ 0x00 ∷ 0x00 ∷ 0x00 ∷ 0x00 ∷ 0x01 ∷ 0x01 ∷ 0x01 ∷ 0x01 ∷ 0x02 ∷ 0x02 ∷ 0x00 ∷ 0x00 ∷ 0x06 ∷ 0x01 ∷ 0x01 ∷ 0x05 ∷ []))
unfolding whole
mapped-listed = (refl, refl)

-- an inner map prints its size first: three, four and eight types, empty ones at every depth
abbrev mapped-deep : List ℕ
mapped-deep =
    0x03 ∷ 0x00 ∷ 0x00 ∷ 0x00 ∷ 0x01 ∷ 0x00 ∷ 0x00 ∷ 0x00 ∷ 0x02 ∷ 0x00 ∷ 0x00 ∷ 0x00 ∷ 0x03 ∷ 0x61 ∷ 0x62 ∷ 0x63 ∷ 0x01 ∷ 0x01 ∷ 0x00 ∷ 0x03 ∷ 0x00 ∷ 0x03 ∷ 0x00 ∷ 0x14 ∷ 0x03 ∷ 0x0E ∷ 0x0B ∷ 0x07 ∷ 0x01 ∷ 0x16 ∷ 0x00 ∷ 0x14 ∷ 0x04 ∷ 0x06 ∷ 0x05 ∷ 0x20 ∷ 0x08 ∷ 0x02 ∷ 0x26 ∷ 0x00 ∷ 0x14 ∷ 0x08 ∷ 0x07 ∷ 0x07 ∷ 0x07 ∷ 0x07 ∷ 0x07 ∷ 0x07 ∷ 0x07 ∷ 0x07 ∷ 0x03 ∷ 0x51 ∷ 0x02 ∷ 0x03 ∷ 0x02 ∷ 0xFF ∷ 0xFF ∷ 0xFF ∷ 0xFF ∷ 0xFF ∷ 0xFF ∷ 0xFF ∷ 0xFF ∷ 0xFF ∷ 0x05 ∷ 0xAC ∷ 0x02 ∷ 0x06 ∷ 0x00 ∷ 0x00 ∷ 0x00 ∷ 0x01 ∷ 0x01 ∷ 0x00 ∷ 0x01 ∷ 0xFF ∷ 0x02 ∷ 0x00 ∷ 0x00 ∷ 0x00 ∷ 0x01 ∷ 0x03 ∷ 0x01 ∷ 0x02 ∷ 0xFE ∷ 0xD4 ∷ 0x01 ∷ 0x00 ∷ 0x00 ∷ 0x00 ∷ 0x01 ∷ 0x01 ∷ 0x01 ∷ 0x02 ∷ 0x01 ∷ 0x03 ∷ 0x01 ∷ 0x04 ∷ 0x01 ∷ 0x05 ∷ 0x01 ∷ 0x06 ∷ 0x01 ∷ 0x07 ∷ 0x08 ∷ 0x02 ∷ 0x01 ∷ 0x00 ∷ 0x02 ∷ 0x02 ∷ 0x03 ∷ 0x00 ∷ 0x04 ∷ 0x01 ∷ 0x05 ∷ 0x00 ∷ 0x01 ∷ 0x01 ∷ 0x01 ∷ 0x02 ∷ 0x01 ∷ 0x03 ∷ 0x01 ∷ 0x04 ∷ 0x01 ∷ 0x05 ∷ 0x01 ∷ 0x06 ∷ 0x02 ∷ 0x07 ∷ 0x08 ∷ 0x09 ∷ 0x0A ∷ []

-- its listing, and the file built back from it
mapped-deep-listed :
    (listing 296 16384 mapped-deep ≡ done (ascii "pair\t3\t1\nstr\t61\nstr\t62\nstr\t63\ntype\t1\t0\t-\t3\t3\nnew\t20,3,14,11,7\t1\nnew\t20,4,6,5,32,8\t2\nnew\t20,8,7,7,7,7,7,7,7,7\t3\nval\t2\t3\t2\t-1\t5\t300\t6\t0\t0\nval\t0\nval\t1\t1\t0\nval\t1\t1\t2\t0\t0\t0\t1\t3\t1\t2\t-300\nval\t1\t0\t0\nval\t0\nval\t1\t1\t1\t2\t1\t3\t1\t4\t1\t5\t1\t6\t1\t7\t8\nval\t2\t1\t0\t2\t2\t3\t0\t4\t1\t5\t0\nval\t1\t1\t1\t2\t1\t3\t1\t4\t1\t5\t1\t6\t2\t7\t8\t9\t10\n")) ×
    (build 133 16384 (ascii "pair\t3\t1\nstr\t61\nstr\t62\nstr\t63\ntype\t1\t0\t-\t3\t3\nnew\t20,3,14,11,7\t1\nnew\t20,4,6,5,32,8\t2\nnew\t20,8,7,7,7,7,7,7,7,7\t3\nval\t2\t3\t2\t-1\t5\t300\t6\t0\t0\nval\t0\nval\t1\t1\t0\nval\t1\t1\t2\t0\t0\t0\t1\t3\t1\t2\t-300\nval\t1\t0\t0\nval\t0\nval\t1\t1\t1\t2\t1\t3\t1\t4\t1\t5\t1\t6\t1\t7\t8\nval\t2\t1\t0\t2\t2\t3\t0\t4\t1\t5\t0\nval\t1\t1\t1\t2\t1\t3\t1\t4\t1\t5\t1\t6\t2\t7\t8\t9\t10\n") ≡ done (0x03 ∷ 0x00 ∷ 0x00 ∷ 0x00 ∷ 0x01 ∷ 0x00 ∷ 0x00 ∷ 0x00 ∷ 0x02 ∷ 0x00 ∷ 0x00 ∷ 0x00 ∷ 0x03 ∷ 0x61 ∷ 0x62 ∷ 0x63 ∷ 0x01 ∷ 0x01 ∷ 0x00 ∷ 0x03 ∷ 0x00 ∷ 0x03 ∷ 0x00 ∷ 0x14 ∷ 0x03 ∷ 0x0E ∷ 0x0B ∷ 0x07 ∷ 0x01 ∷ 0x16 ∷ 0x00 ∷ 0x14 ∷ 0x04 ∷ 0x06 ∷ 0x05 ∷ 0x20 ∷ 0x08 ∷ 0x02 ∷ 0x26 ∷ 0x00 ∷ 0x14 ∷ 0x08 ∷ 0x07 ∷ 0x07 ∷ 0x07 ∷ 0x07 ∷ 0x07 ∷ 0x07 ∷ 0x07 ∷ 0x07 ∷ 0x03 ∷ 0x51 ∷ 0x02 ∷ 0x03 ∷ 0x02 ∷ 0xFF ∷ 0xFF ∷ 0xFF ∷ 0xFF ∷ 0xFF ∷ 0xFF ∷ 0xFF ∷ 0xFF ∷ 0xFF ∷ 0x05 ∷ 0xAC ∷ 0x02 ∷ 0x06 ∷ 0x00 ∷ 0x00 ∷ 0x00 ∷ 0x01 ∷ 0x01 ∷ 0x00 ∷ 0x01 ∷ 0xFF ∷ 0x02 ∷ 0x00 ∷ 0x00 ∷ 0x00 ∷ 0x01 ∷ 0x03 ∷ 0x01 ∷ 0x02 ∷ 0xFE ∷ 0xD4 ∷ 0x01 ∷ 0x00 ∷ 0x00 ∷ 0x00 ∷ 0x01 ∷ 0x01 ∷ 0x01 ∷ 0x02 ∷ 0x01 ∷ 0x03 ∷ 0x01 ∷ 0x04 ∷ 0x01 ∷ 0x05 ∷ 0x01 ∷ 0x06 ∷ 0x01 ∷ 0x07 ∷ 0x08 ∷ 0x02 ∷ 0x01 ∷ 0x00 ∷ 0x02 ∷ 0x02 ∷ 0x03 ∷ 0x00 ∷ 0x04 ∷ 0x01 ∷ 0x05 ∷ 0x00 ∷ 0x01 ∷ 0x01 ∷ 0x01 ∷ 0x02 ∷ 0x01 ∷ 0x03 ∷ 0x01 ∷ 0x04 ∷ 0x01 ∷ 0x05 ∷ 0x01 ∷ 0x06 ∷ 0x02 ∷ 0x07 ∷ 0x08 ∷ 0x09 ∷ 0x0A ∷ []))
unfolding whole
mapped-deep-listed = (refl, refl)

-- maps of known and late fields; types of later entries as keys and values
abbrev mapped-late : List ℕ
mapped-late =
    0x03 ∷ 0x00 ∷ 0x00 ∷ 0x00 ∷ 0x01 ∷ 0x00 ∷ 0x00 ∷ 0x00 ∷ 0x02 ∷ 0x00 ∷ 0x00 ∷ 0x00 ∷ 0x03 ∷ 0x61 ∷ 0x62 ∷ 0x63 ∷ 0x02 ∷ 0x01 ∷ 0x00 ∷ 0x01 ∷ 0x00 ∷ 0x01 ∷ 0x00 ∷ 0x14 ∷ 0x02 ∷ 0x21 ∷ 0x20 ∷ 0x03 ∷ 0x05 ∷ 0x02 ∷ 0x00 ∷ 0x02 ∷ 0x00 ∷ 0x00 ∷ 0x02 ∷ 0x02 ∷ 0x01 ∷ 0x00 ∷ 0x00 ∷ 0x00 ∷ 0x01 ∷ 0x01 ∷ 0x02 ∷ 0x02 ∷ 0x04 ∷ 0x00 ∷ 0x14 ∷ 0x03 ∷ 0x06 ∷ 0x21 ∷ 0x05 ∷ 0x02 ∷ 0x0E ∷ 0x00 ∷ 0x01 ∷ 0x01 ∷ 0x03 ∷ 0x01 ∷ 0x00 ∷ 0x01 ∷ 0x02 ∷ 0x02 ∷ 0x02 ∷ 0x00 ∷ 0x01 ∷ 0xFF ∷ 0x00 ∷ []

-- its listing, and the file built back from it
mapped-late-listed :
    (listing 185 16384 mapped-late ≡ done (ascii "pair\t3\t2\nstr\t61\nstr\t62\nstr\t63\ntype\t1\t0\t-\t1\t1\nnew\t20,2,33,32\t3\ntype\t2\t0\t-\t2\t0\nval\t2\t2\t1\t0\t0\npair\t0\t1\ntype\t1\t-\t-\t2\t2\nold\nnew\t20,3,6,33,5\t2\nval\t0\nval\t1\t1\t3\nval\t1\t0\t1\t2\t2\t2\nval\t0\nval\t1\t1\t0\n")) ×
    (build 67 16384 (ascii "pair\t3\t2\nstr\t61\nstr\t62\nstr\t63\ntype\t1\t0\t-\t1\t1\nnew\t20,2,33,32\t3\ntype\t2\t0\t-\t2\t0\nval\t2\t2\t1\t0\t0\npair\t0\t1\ntype\t1\t-\t-\t2\t2\nold\nnew\t20,3,6,33,5\t2\nval\t0\nval\t1\t1\t3\nval\t1\t0\t1\t2\t2\t2\nval\t0\nval\t1\t1\t0\n") ≡ done (0x03 ∷ 0x00 ∷ 0x00 ∷ 0x00 ∷ 0x01 ∷ 0x00 ∷ 0x00 ∷ 0x00 ∷ 0x02 ∷ 0x00 ∷ 0x00 ∷ 0x00 ∷ 0x03 ∷ 0x61 ∷ 0x62 ∷ 0x63 ∷ 0x02 ∷ 0x01 ∷ 0x00 ∷ 0x01 ∷ 0x00 ∷ 0x01 ∷ 0x00 ∷ 0x14 ∷ 0x02 ∷ 0x21 ∷ 0x20 ∷ 0x03 ∷ 0x05 ∷ 0x02 ∷ 0x00 ∷ 0x02 ∷ 0x00 ∷ 0x00 ∷ 0x02 ∷ 0x02 ∷ 0x01 ∷ 0x00 ∷ 0x00 ∷ 0x00 ∷ 0x01 ∷ 0x01 ∷ 0x02 ∷ 0x02 ∷ 0x04 ∷ 0x00 ∷ 0x14 ∷ 0x03 ∷ 0x06 ∷ 0x21 ∷ 0x05 ∷ 0x02 ∷ 0x0E ∷ 0x00 ∷ 0x01 ∷ 0x01 ∷ 0x03 ∷ 0x01 ∷ 0x00 ∷ 0x01 ∷ 0x02 ∷ 0x02 ∷ 0x02 ∷ 0x00 ∷ 0x01 ∷ 0xFF ∷ 0x00 ∷ []))
unfolding whole
mapped-late-listed = (refl, refl)

-- the largest length of a fixed array, of a type that has no objects
abbrev longest : List ℕ
longest =
    0x01 ∷ 0x00 ∷ 0x00 ∷ 0x00 ∷ 0x01 ∷ 0x61 ∷ 0x01 ∷ 0x01 ∷ 0x00 ∷ 0x00 ∷ 0x00 ∷ 0x01 ∷ 0x00 ∷ 0x0F ∷ 0xFF ∷ 0xFF ∷ 0x03 ∷ 0x07 ∷ 0x01 ∷ 0x00 ∷ []

-- its listing, and the file built back from it
longest-listed :
    (listing 48 16384 longest ≡ done (ascii "pair\t1\t1\nstr\t61\ntype\t1\t0\t-\t0\t1\nnew\t15,65535,7\t1\n")) ×
    (build 20 16384 (ascii "pair\t1\t1\nstr\t61\ntype\t1\t0\t-\t0\t1\nnew\t15,65535,7\t1\n") ≡ done (0x01 ∷ 0x00 ∷ 0x00 ∷ 0x00 ∷ 0x01 ∷ 0x61 ∷ 0x01 ∷ 0x01 ∷ 0x00 ∷ 0x00 ∷ 0x00 ∷ 0x01 ∷ 0x00 ∷ 0x0F ∷ 0xFF ∷ 0xFF ∷ 0x03 ∷ 0x07 ∷ 0x01 ∷ 0x00 ∷ []))
unfolding whole
longest-listed = (refl, refl)

-- the ends of each kind's range and one beyond
values-built :
    (build 400 16384 (ascii "pair\t1\t1\nstr\t61\ntype\t1\t0\t-\t1\t1\nnew\t7\t1\nval\t127\n") ≡ done (0x01 ∷ 0x00 ∷ 0x00 ∷ 0x00 ∷ 0x01 ∷ 0x61 ∷ 0x01 ∷ 0x01 ∷ 0x00 ∷ 0x01 ∷ 0x00 ∷ 0x01 ∷ 0x00 ∷ 0x07 ∷ 0x01 ∷ 0x01 ∷ 0x7F ∷ [])) ×
    (build 400 16384 (ascii "pair\t1\t1\nstr\t61\ntype\t1\t0\t-\t1\t1\nnew\t7\t1\nval\t-128\n") ≡ done (0x01 ∷ 0x00 ∷ 0x00 ∷ 0x00 ∷ 0x01 ∷ 0x61 ∷ 0x01 ∷ 0x01 ∷ 0x00 ∷ 0x01 ∷ 0x00 ∷ 0x01 ∷ 0x00 ∷ 0x07 ∷ 0x01 ∷ 0x01 ∷ 0x80 ∷ [])) ×
    (build 400 16384 (ascii "pair\t1\t1\nstr\t61\ntype\t1\t0\t-\t1\t1\nnew\t7\t1\nval\t128\n") ≡ refused 20) ×
    (build 400 16384 (ascii "pair\t1\t1\nstr\t61\ntype\t1\t0\t-\t1\t1\nnew\t7\t1\nval\t-129\n") ≡ refused 20) ×
    (build 400 16384 (ascii "pair\t1\t1\nstr\t61\ntype\t1\t0\t-\t1\t1\nnew\t7\t1\nval\t255\n") ≡ refused 20) ×
    (build 400 16384 (ascii "pair\t1\t1\nstr\t61\ntype\t1\t0\t-\t1\t1\nnew\t8\t1\nval\t32767\n") ≡ done (0x01 ∷ 0x00 ∷ 0x00 ∷ 0x00 ∷ 0x01 ∷ 0x61 ∷ 0x01 ∷ 0x01 ∷ 0x00 ∷ 0x01 ∷ 0x00 ∷ 0x01 ∷ 0x00 ∷ 0x08 ∷ 0x01 ∷ 0x02 ∷ 0x7F ∷ 0xFF ∷ [])) ×
    (build 400 16384 (ascii "pair\t1\t1\nstr\t61\ntype\t1\t0\t-\t1\t1\nnew\t8\t1\nval\t-32768\n") ≡ done (0x01 ∷ 0x00 ∷ 0x00 ∷ 0x00 ∷ 0x01 ∷ 0x61 ∷ 0x01 ∷ 0x01 ∷ 0x00 ∷ 0x01 ∷ 0x00 ∷ 0x01 ∷ 0x00 ∷ 0x08 ∷ 0x01 ∷ 0x02 ∷ 0x80 ∷ 0x00 ∷ [])) ×
    (build 400 16384 (ascii "pair\t1\t1\nstr\t61\ntype\t1\t0\t-\t1\t1\nnew\t8\t1\nval\t32768\n") ≡ refused 20) ×
    (build 400 16384 (ascii "pair\t1\t1\nstr\t61\ntype\t1\t0\t-\t1\t1\nnew\t8\t1\nval\t-32769\n") ≡ refused 20) ×
    (build 400 16384 (ascii "pair\t1\t1\nstr\t61\ntype\t1\t0\t-\t1\t1\nnew\t9\t1\nval\t2147483647\n") ≡ done (0x01 ∷ 0x00 ∷ 0x00 ∷ 0x00 ∷ 0x01 ∷ 0x61 ∷ 0x01 ∷ 0x01 ∷ 0x00 ∷ 0x01 ∷ 0x00 ∷ 0x01 ∷ 0x00 ∷ 0x09 ∷ 0x01 ∷ 0x04 ∷ 0x7F ∷ 0xFF ∷ 0xFF ∷ 0xFF ∷ [])) ×
    (build 400 16384 (ascii "pair\t1\t1\nstr\t61\ntype\t1\t0\t-\t1\t1\nnew\t9\t1\nval\t-2147483648\n") ≡ done (0x01 ∷ 0x00 ∷ 0x00 ∷ 0x00 ∷ 0x01 ∷ 0x61 ∷ 0x01 ∷ 0x01 ∷ 0x00 ∷ 0x01 ∷ 0x00 ∷ 0x01 ∷ 0x00 ∷ 0x09 ∷ 0x01 ∷ 0x04 ∷ 0x80 ∷ 0x00 ∷ 0x00 ∷ 0x00 ∷ [])) ×
    (build 400 16384 (ascii "pair\t1\t1\nstr\t61\ntype\t1\t0\t-\t1\t1\nnew\t9\t1\nval\t2147483648\n") ≡ refused 20) ×
    (build 400 16384 (ascii "pair\t1\t1\nstr\t61\ntype\t1\t0\t-\t1\t1\nnew\t9\t1\nval\t-2147483649\n") ≡ refused 20) ×
    (build 400 16384 (ascii "pair\t1\t1\nstr\t61\ntype\t1\t0\t-\t1\t1\nnew\t10\t1\nval\t9223372036854775807\n") ≡ done (0x01 ∷ 0x00 ∷ 0x00 ∷ 0x00 ∷ 0x01 ∷ 0x61 ∷ 0x01 ∷ 0x01 ∷ 0x00 ∷ 0x01 ∷ 0x00 ∷ 0x01 ∷ 0x00 ∷ 0x0A ∷ 0x01 ∷ 0x08 ∷ 0x7F ∷ 0xFF ∷ 0xFF ∷ 0xFF ∷ 0xFF ∷ 0xFF ∷ 0xFF ∷ 0xFF ∷ [])) ×
    (build 400 16384 (ascii "pair\t1\t1\nstr\t61\ntype\t1\t0\t-\t1\t1\nnew\t10\t1\nval\t-9223372036854775808\n") ≡ done (0x01 ∷ 0x00 ∷ 0x00 ∷ 0x00 ∷ 0x01 ∷ 0x61 ∷ 0x01 ∷ 0x01 ∷ 0x00 ∷ 0x01 ∷ 0x00 ∷ 0x01 ∷ 0x00 ∷ 0x0A ∷ 0x01 ∷ 0x08 ∷ 0x80 ∷ 0x00 ∷ 0x00 ∷ 0x00 ∷ 0x00 ∷ 0x00 ∷ 0x00 ∷ 0x00 ∷ [])) ×
    (build 400 16384 (ascii "pair\t1\t1\nstr\t61\ntype\t1\t0\t-\t1\t1\nnew\t10\t1\nval\t9223372036854775808\n") ≡ refused 20) ×
    (build 400 16384 (ascii "pair\t1\t1\nstr\t61\ntype\t1\t0\t-\t1\t1\nnew\t10\t1\nval\t-9223372036854775809\n") ≡ refused 20) ×
    (build 400 16384 (ascii "pair\t1\t1\nstr\t61\ntype\t1\t0\t-\t1\t1\nnew\t11\t1\nval\t9223372036854775807\n") ≡ done (0x01 ∷ 0x00 ∷ 0x00 ∷ 0x00 ∷ 0x01 ∷ 0x61 ∷ 0x01 ∷ 0x01 ∷ 0x00 ∷ 0x01 ∷ 0x00 ∷ 0x01 ∷ 0x00 ∷ 0x0B ∷ 0x01 ∷ 0x09 ∷ 0xFF ∷ 0xFF ∷ 0xFF ∷ 0xFF ∷ 0xFF ∷ 0xFF ∷ 0xFF ∷ 0xFF ∷ 0x7F ∷ [])) ×
    (build 400 16384 (ascii "pair\t1\t1\nstr\t61\ntype\t1\t0\t-\t1\t1\nnew\t11\t1\nval\t-9223372036854775808\n") ≡ done (0x01 ∷ 0x00 ∷ 0x00 ∷ 0x00 ∷ 0x01 ∷ 0x61 ∷ 0x01 ∷ 0x01 ∷ 0x00 ∷ 0x01 ∷ 0x00 ∷ 0x01 ∷ 0x00 ∷ 0x0B ∷ 0x01 ∷ 0x09 ∷ 0x80 ∷ 0x80 ∷ 0x80 ∷ 0x80 ∷ 0x80 ∷ 0x80 ∷ 0x80 ∷ 0x80 ∷ 0x80 ∷ [])) ×
    (build 400 16384 (ascii "pair\t1\t1\nstr\t61\ntype\t1\t0\t-\t1\t1\nnew\t11\t1\nval\t9223372036854775808\n") ≡ refused 20) ×
    (build 400 16384 (ascii "pair\t1\t1\nstr\t61\ntype\t1\t0\t-\t1\t1\nnew\t11\t1\nval\t-9223372036854775809\n") ≡ refused 20) ×
    (build 400 16384 (ascii "pair\t1\t1\nstr\t61\ntype\t1\t0\t-\t1\t1\nnew\t11\t1\nval\t18446744073709551615\n") ≡ refused 20) ×
    (build 400 16384 (ascii "pair\t1\t1\nstr\t61\ntype\t1\t0\t-\t1\t1\nnew\t11\t1\nval\t18446744073709551616\n") ≡ refused 20) ×
    (build 400 16384 (ascii "pair\t1\t1\nstr\t61\ntype\t1\t0\t-\t1\t1\nnew\t11\t1\nval\t18446744073709551617\n") ≡ refused 20) ×
    (build 400 16384 (ascii "pair\t1\t1\nstr\t61\ntype\t1\t0\t-\t1\t1\nnew\t11\t1\nval\t-18446744073709551615\n") ≡ refused 20) ×
    (build 400 16384 (ascii "pair\t1\t1\nstr\t61\ntype\t1\t0\t-\t1\t1\nnew\t6\t1\nval\t0\n") ≡ done (0x01 ∷ 0x00 ∷ 0x00 ∷ 0x00 ∷ 0x01 ∷ 0x61 ∷ 0x01 ∷ 0x01 ∷ 0x00 ∷ 0x01 ∷ 0x00 ∷ 0x01 ∷ 0x00 ∷ 0x06 ∷ 0x01 ∷ 0x01 ∷ 0x00 ∷ [])) ×
    (build 400 16384 (ascii "pair\t1\t1\nstr\t61\ntype\t1\t0\t-\t1\t1\nnew\t6\t1\nval\t1\n") ≡ done (0x01 ∷ 0x00 ∷ 0x00 ∷ 0x00 ∷ 0x01 ∷ 0x61 ∷ 0x01 ∷ 0x01 ∷ 0x00 ∷ 0x01 ∷ 0x00 ∷ 0x01 ∷ 0x00 ∷ 0x06 ∷ 0x01 ∷ 0x01 ∷ 0xFF ∷ [])) ×
    (build 400 16384 (ascii "pair\t1\t1\nstr\t61\ntype\t1\t0\t-\t1\t1\nnew\t6\t1\nval\t2\n") ≡ refused 20) ×
    (build 400 16384 (ascii "pair\t1\t1\nstr\t61\ntype\t1\t0\t-\t1\t1\nnew\t6\t1\nval\t00\n") ≡ refused 20) ×
    (build 400 16384 (ascii "pair\t1\t1\nstr\t61\ntype\t1\t0\t-\t1\t1\nnew\t6\t1\nval\t10\n") ≡ refused 20) ×
    (build 400 16384 (ascii "pair\t1\t1\nstr\t61\ntype\t1\t0\t-\t1\t1\nnew\t6\t1\nval\t-1\n") ≡ refused 20) ×
    (build 400 16384 (ascii "pair\t1\t1\nstr\t61\ntype\t1\t0\t-\t1\t1\nnew\t6\t1\nval\t\n") ≡ refused 20) ×
    (build 400 16384 (ascii "pair\t1\t1\nstr\t61\ntype\t1\t0\t-\t1\t1\nnew\t6\t1\nval\tt\n") ≡ refused 20) ×
    (build 400 16384 (ascii "pair\t1\t1\nstr\t61\ntype\t1\t0\t-\t1\t1\nnew\t12\t1\nval\t0123abcd\n") ≡ done (0x01 ∷ 0x00 ∷ 0x00 ∷ 0x00 ∷ 0x01 ∷ 0x61 ∷ 0x01 ∷ 0x01 ∷ 0x00 ∷ 0x01 ∷ 0x00 ∷ 0x01 ∷ 0x00 ∷ 0x0C ∷ 0x01 ∷ 0x04 ∷ 0x01 ∷ 0x23 ∷ 0xAB ∷ 0xCD ∷ [])) ×
    (build 400 16384 (ascii "pair\t1\t1\nstr\t61\ntype\t1\t0\t-\t1\t1\nnew\t12\t1\nval\t0123abc\n") ≡ refused 20) ×
    (build 400 16384 (ascii "pair\t1\t1\nstr\t61\ntype\t1\t0\t-\t1\t1\nnew\t12\t1\nval\t0123abcd0\n") ≡ refused 20) ×
    (build 400 16384 (ascii "pair\t1\t1\nstr\t61\ntype\t1\t0\t-\t1\t1\nnew\t12\t1\nval\t0123abcD\n") ≡ refused 20) ×
    (build 400 16384 (ascii "pair\t1\t1\nstr\t61\ntype\t1\t0\t-\t1\t1\nnew\t12\t1\nval\t0123abcg\n") ≡ refused 20) ×
    (build 400 16384 (ascii "pair\t1\t1\nstr\t61\ntype\t1\t0\t-\t1\t1\nnew\t12\t1\nval\t/123abcd\n") ≡ refused 20) ×
    (build 400 16384 (ascii "pair\t1\t1\nstr\t61\ntype\t1\t0\t-\t1\t1\nnew\t12\t1\nval\t:123abcd\n") ≡ refused 20) ×
    (build 400 16384 (ascii "pair\t1\t1\nstr\t61\ntype\t1\t0\t-\t1\t1\nnew\t12\t1\nval\t`123abcd\n") ≡ refused 20) ×
    (build 400 16384 (ascii "pair\t1\t1\nstr\t61\ntype\t1\t0\t-\t1\t1\nnew\t12\t1\nval\t-1\n") ≡ refused 20) ×
    (build 400 16384 (ascii "pair\t1\t1\nstr\t61\ntype\t1\t0\t-\t1\t1\nnew\t12\t1\nval\t\n") ≡ refused 20) ×
    (build 400 16384 (ascii "pair\t1\t1\nstr\t61\ntype\t1\t0\t-\t1\t1\nnew\t13\t1\nval\t0123456789abcdef\n") ≡ done (0x01 ∷ 0x00 ∷ 0x00 ∷ 0x00 ∷ 0x01 ∷ 0x61 ∷ 0x01 ∷ 0x01 ∷ 0x00 ∷ 0x01 ∷ 0x00 ∷ 0x01 ∷ 0x00 ∷ 0x0D ∷ 0x01 ∷ 0x08 ∷ 0x01 ∷ 0x23 ∷ 0x45 ∷ 0x67 ∷ 0x89 ∷ 0xAB ∷ 0xCD ∷ 0xEF ∷ [])) ×
    (build 400 16384 (ascii "pair\t1\t1\nstr\t61\ntype\t1\t0\t-\t1\t1\nnew\t13\t1\nval\t01234567\n") ≡ refused 20) ×
    (build 400 16384 (ascii "pair\t1\t1\nstr\t61\ntype\t1\t0\t-\t1\t1\nnew\t13\t1\nval\t0123456789abcde\n") ≡ refused 20) ×
    (build 400 16384 (ascii "pair\t1\t1\nstr\t61\ntype\t1\t0\t-\t1\t1\nnew\t13\t1\nval\t0123456789abcdef0\n") ≡ refused 20) ×
    (build 400 16384 (ascii "pair\t1\t1\nstr\t61\ntype\t1\t0\t-\t1\t1\nnew\t13\t1\nval\t0123456789abcdeF\n") ≡ refused 20) ×
    (build 400 16384 (ascii "pair\t1\t1\nstr\t61\ntype\t1\t0\t-\t1\t1\nnew\t14\t1\nval\t0\n") ≡ done (0x01 ∷ 0x00 ∷ 0x00 ∷ 0x00 ∷ 0x01 ∷ 0x61 ∷ 0x01 ∷ 0x01 ∷ 0x00 ∷ 0x01 ∷ 0x00 ∷ 0x01 ∷ 0x00 ∷ 0x0E ∷ 0x01 ∷ 0x01 ∷ 0x00 ∷ [])) ×
    (build 400 16384 (ascii "pair\t1\t1\nstr\t61\ntype\t1\t0\t-\t1\t1\nnew\t14\t1\nval\t1\n") ≡ done (0x01 ∷ 0x00 ∷ 0x00 ∷ 0x00 ∷ 0x01 ∷ 0x61 ∷ 0x01 ∷ 0x01 ∷ 0x00 ∷ 0x01 ∷ 0x00 ∷ 0x01 ∷ 0x00 ∷ 0x0E ∷ 0x01 ∷ 0x01 ∷ 0x01 ∷ [])) ×
    (build 400 16384 (ascii "pair\t1\t1\nstr\t61\ntype\t1\t0\t-\t1\t1\nnew\t14\t1\nval\t2\n") ≡ refused 20) ×
    (build 400 16384 (ascii "pair\t1\t1\nstr\t61\ntype\t1\t0\t-\t1\t1\nnew\t14\t1\nval\t-1\n") ≡ refused 20) ×
    (build 400 16384 (ascii "pair\t1\t1\nstr\t61\ntype\t1\t0\t-\t1\t1\nnew\t14\t1\nval\t\n") ≡ refused 20) ×
    (build 400 16384 (ascii "pair\t1\t1\nstr\t61\ntype\t1\t0\t-\t1\t1\nnew\t14\t1\nval\t18446744073709551616\n") ≡ refused 20) ×
    (build 400 16384 (ascii "pair\t1\t1\nstr\t61\ntype\t1\t0\t-\t1\t1\nnew\t32\t1\nval\t0\n") ≡ done (0x01 ∷ 0x00 ∷ 0x00 ∷ 0x00 ∷ 0x01 ∷ 0x61 ∷ 0x01 ∷ 0x01 ∷ 0x00 ∷ 0x01 ∷ 0x00 ∷ 0x01 ∷ 0x00 ∷ 0x20 ∷ 0x01 ∷ 0x01 ∷ 0x00 ∷ [])) ×
    (build 400 16384 (ascii "pair\t1\t1\nstr\t61\ntype\t1\t0\t-\t1\t1\nnew\t32\t1\nval\t1\n") ≡ done (0x01 ∷ 0x00 ∷ 0x00 ∷ 0x00 ∷ 0x01 ∷ 0x61 ∷ 0x01 ∷ 0x01 ∷ 0x00 ∷ 0x01 ∷ 0x00 ∷ 0x01 ∷ 0x00 ∷ 0x20 ∷ 0x01 ∷ 0x01 ∷ 0x01 ∷ [])) ×
    (build 400 16384 (ascii "pair\t1\t1\nstr\t61\ntype\t1\t0\t-\t1\t1\nnew\t32\t1\nval\t2\n") ≡ refused 20) ×
    (build 400 16384 (ascii "pair\t1\t1\nstr\t61\ntype\t1\t0\t-\t1\t1\nnew\t32\t1\nval\t-1\n") ≡ refused 20)
unfolding whole
values-built = (refl, refl, refl, refl, refl, refl, refl, refl, refl, refl, refl, refl, refl, refl, refl, refl, refl, refl, refl, refl, refl, refl, refl, refl, refl, refl, refl, refl, refl, refl, refl, refl, refl, refl, refl, refl, refl, refl, refl, refl, refl, refl, refl, refl, refl, refl, refl, refl, refl, refl, refl, refl, refl, refl, refl, refl, refl, refl)

-- a decimal has one form, and a line one tab before each field
words-built :
    (build 400 16384 (ascii "pair\t1\t1\nstr\t61\ntype\t1\t0\t-\t1\t1\nnew\t11\t1\nval\t0\n") ≡ done (0x01 ∷ 0x00 ∷ 0x00 ∷ 0x00 ∷ 0x01 ∷ 0x61 ∷ 0x01 ∷ 0x01 ∷ 0x00 ∷ 0x01 ∷ 0x00 ∷ 0x01 ∷ 0x00 ∷ 0x0B ∷ 0x01 ∷ 0x01 ∷ 0x00 ∷ [])) ×
    (build 400 16384 (ascii "pair\t1\t1\nstr\t61\ntype\t1\t0\t-\t1\t1\nnew\t11\t1\nval\t00\n") ≡ refused 20) ×
    (build 400 16384 (ascii "pair\t1\t1\nstr\t61\ntype\t1\t0\t-\t1\t1\nnew\t11\t1\nval\t01\n") ≡ refused 20) ×
    (build 400 16384 (ascii "pair\t1\t1\nstr\t61\ntype\t1\t0\t-\t1\t1\nnew\t11\t1\nval\t-0\n") ≡ refused 20) ×
    (build 400 16384 (ascii "pair\t1\t1\nstr\t61\ntype\t1\t0\t-\t1\t1\nnew\t11\t1\nval\t-00\n") ≡ refused 20) ×
    (build 400 16384 (ascii "pair\t1\t1\nstr\t61\ntype\t1\t0\t-\t1\t1\nnew\t11\t1\nval\t-01\n") ≡ refused 20) ×
    (build 400 16384 (ascii "pair\t1\t1\nstr\t61\ntype\t1\t0\t-\t1\t1\nnew\t11\t1\nval\t--1\n") ≡ refused 20) ×
    (build 400 16384 (ascii "pair\t1\t1\nstr\t61\ntype\t1\t0\t-\t1\t1\nnew\t11\t1\nval\t+1\n") ≡ refused 20) ×
    (build 400 16384 (ascii "pair\t1\t1\nstr\t61\ntype\t1\t0\t-\t1\t1\nnew\t11\t1\nval\t-\n") ≡ refused 20) ×
    (build 400 16384 (ascii "pair\t1\t1\nstr\t61\ntype\t1\t0\t-\t1\t1\nnew\t11\t1\nval\t\n") ≡ refused 20) ×
    (build 400 16384 (ascii "pair\t1\t1\nstr\t61\ntype\t1\t0\t-\t1\t1\nnew\t11\t1\nval\n") ≡ refused 20) ×
    (build 400 16384 (ascii "pair\t1\t1\nstr\t61\ntype\t1\t0\t-\t1\t1\nnew\t11\t1\nval1\n") ≡ refused 20) ×
    (build 400 16384 (ascii "pair\t1\t1\nstr\t61\ntype\t1\t0\t-\t1\t1\nnew\t11\t1\nval 1\n") ≡ refused 20) ×
    (build 400 16384 (ascii "pair\t1\t1\nstr\t61\ntype\t1\t0\t-\t1\t1\nnew\t11\t1\nval\t 1\n") ≡ refused 20) ×
    (build 400 16384 (ascii "pair\t1\t1\nstr\t61\ntype\t1\t0\t-\t1\t1\nnew\t11\t1\nval\t1 \n") ≡ refused 20) ×
    (build 400 16384 (ascii "pair\t1\t1\nstr\t61\ntype\t1\t0\t-\t1\t1\nnew\t11\t1\nval\t1\t\n") ≡ refused 20) ×
    (build 400 16384 (ascii "pair\t1\t1\nstr\t61\ntype\t1\t0\t-\t1\t1\nnew\t11\t1\nval\t1\t1\n") ≡ refused 20) ×
    (build 400 16384 (ascii "pair\t1\t1\nstr\t61\ntype\t1\t0\t-\t1\t1\nnew\t11\t1\nval\t1\r\n") ≡ refused 20) ×
    (build 400 16384 (ascii "pair\t1\t1\nstr\t61\ntype\t1\t0\t-\t1\t1\nnew\t11\t1\nval\t1:\n") ≡ refused 20) ×
    (build 400 16384 (ascii "pair\t1\t1\nstr\t61\ntype\t1\t0\t-\t1\t1\nnew\t11\t1\nval\t1/\n") ≡ refused 20) ×
    (build 400 16384 (ascii "pair\t1\t1\nstr\t61\ntype\t1\t0\t-\t1\t1\nnew\t11\t1\nval\t:\n") ≡ refused 20) ×
    (build 400 16384 (ascii "pair\t1\t1\nstr\t61\ntype\t1\t0\t-\t1\t1\nnew\t11\t1\nval\t/\n") ≡ refused 20) ×
    (build 400 16384 (ascii "pair\t1\t1\nstr\t61\ntype\t1\t0\t-\t1\t1\nnew\t11\t1\nval\t1.0\n") ≡ refused 20) ×
    (build 400 16384 (ascii "pair\t1\t1\nstr\t61\ntype\t1\t0\t-\t1\t1\nnew\t11\t1\nval\t0x1\n") ≡ refused 20) ×
    (build 400 16384 (ascii "pair\t1\t1\nstr\t61\ntype\t1\t0\t-\t1\t1\nnew\t11\t1\nval\t1,1\n") ≡ refused 20) ×
    (build 400 16384 (ascii "pair\t1\t1\nstr\t61\ntype\t1\t0\t-\t1\t1\nnew\t11\t1\nval\ta\n") ≡ refused 20) ×
    (build 400 16384 (ascii "pair\t1\t1\nstr\t61\ntype\t1\t0\t-\t1\t1\nnew\t11\t1\nval\t1a\n") ≡ refused 20) ×
    (build 400 16384 (ascii "pair\t1\t1\nstr\t61\ntype\t1\t0\t-\t1\t1\nnew\t11\t1\nval\t\t1\n") ≡ refused 20)
unfolding whole
words-built = (refl, refl, refl, refl, refl, refl, refl, refl, refl, refl, refl, refl, refl, refl, refl, refl, refl, refl, refl, refl, refl, refl, refl, refl, refl, refl, refl, refl)

-- a string is pairs of lower-case hex digits
strings-built :
    (build 400 16384 (ascii "pair\t1\t0\nstr\t\n") ≡ done (0x01 ∷ 0x00 ∷ 0x00 ∷ 0x00 ∷ 0x00 ∷ 0x00 ∷ [])) ×
    (build 400 16384 (ascii "pair\t1\t0\nstr\t6\n") ≡ refused 20) ×
    (build 400 16384 (ascii "pair\t1\t0\nstr\t61\n") ≡ done (0x01 ∷ 0x00 ∷ 0x00 ∷ 0x00 ∷ 0x01 ∷ 0x61 ∷ 0x00 ∷ [])) ×
    (build 400 16384 (ascii "pair\t1\t0\nstr\t616\n") ≡ refused 20) ×
    (build 400 16384 (ascii "pair\t1\t0\nstr\t6g\n") ≡ refused 20) ×
    (build 400 16384 (ascii "pair\t1\t0\nstr\tg6\n") ≡ refused 20) ×
    (build 400 16384 (ascii "pair\t1\t0\nstr\t6G\n") ≡ refused 20) ×
    (build 400 16384 (ascii "pair\t1\t0\nstr\t6A\n") ≡ refused 20) ×
    (build 400 16384 (ascii "pair\t1\t0\nstr\tA6\n") ≡ refused 20) ×
    (build 400 16384 (ascii "pair\t1\t0\nstr\ta/\n") ≡ refused 20) ×
    (build 400 16384 (ascii "pair\t1\t0\nstr\t/a\n") ≡ refused 20) ×
    (build 400 16384 (ascii "pair\t1\t0\nstr\ta:\n") ≡ refused 20) ×
    (build 400 16384 (ascii "pair\t1\t0\nstr\ta`\n") ≡ refused 20) ×
    (build 400 16384 (ascii "pair\t1\t0\nstr\t 61\n") ≡ refused 20) ×
    (build 400 16384 (ascii "pair\t1\t0\nstr\t61 \n") ≡ refused 20) ×
    (build 400 16384 (ascii "pair\t1\t0\nstr\t61\t\n") ≡ refused 20) ×
    (build 400 16384 (ascii "pair\t1\t0\nstr\taf09\n") ≡ done (0x01 ∷ 0x00 ∷ 0x00 ∷ 0x00 ∷ 0x02 ∷ 0xAF ∷ 0x09 ∷ 0x00 ∷ [])) ×
    (build 400 16384 (0x70 ∷ 0x61 ∷ 0x69 ∷ 0x72 ∷ 0x09 ∷ 0x31 ∷ 0x09 ∷ 0x30 ∷ 0x0A ∷ 0x73 ∷ 0x74 ∷ 0x72 ∷ 0x09 ∷ 0xC3 ∷ 0xA9 ∷ 0x0A ∷ []) ≡ refused 20) ×
    (build 400 16384 (ascii "pair\t1\t0\nstr\n") ≡ refused 20)
unfolding whole
strings-built = (refl, refl, refl, refl, refl, refl, refl, refl, refl, refl, refl, refl, refl, refl, refl, refl, refl, refl, refl)

-- kinds by their numbers, and how many elements a value has
kinds-built :
    (build 400 16384 (ascii "pair\t1\t1\nstr\t61\ntype\t1\t0\t-\t1\t1\nnew\t15,2,6\t1\nval\t0\t1\n") ≡ done (0x01 ∷ 0x00 ∷ 0x00 ∷ 0x00 ∷ 0x01 ∷ 0x61 ∷ 0x01 ∷ 0x01 ∷ 0x00 ∷ 0x01 ∷ 0x00 ∷ 0x01 ∷ 0x00 ∷ 0x0F ∷ 0x02 ∷ 0x06 ∷ 0x01 ∷ 0x02 ∷ 0x00 ∷ 0xFF ∷ [])) ×
    (build 400 16384 (ascii "pair\t1\t1\nstr\t61\ntype\t1\t0\t-\t1\t1\nnew\t15,2,6\t1\nval\t0\n") ≡ refused 20) ×
    (build 400 16384 (ascii "pair\t1\t1\nstr\t61\ntype\t1\t0\t-\t1\t1\nnew\t15,2,6\t1\nval\t0\t1\t0\n") ≡ refused 20) ×
    (build 400 16384 (ascii "pair\t1\t1\nstr\t61\ntype\t1\t0\t-\t1\t1\nnew\t15,2,6\t1\nval\t0\t2\n") ≡ refused 20) ×
    (build 400 16384 (ascii "pair\t1\t1\nstr\t61\ntype\t1\t0\t-\t1\t1\nnew\t15,2,7\t1\nval\t127\t-128\n") ≡ done (0x01 ∷ 0x00 ∷ 0x00 ∷ 0x00 ∷ 0x01 ∷ 0x61 ∷ 0x01 ∷ 0x01 ∷ 0x00 ∷ 0x01 ∷ 0x00 ∷ 0x01 ∷ 0x00 ∷ 0x0F ∷ 0x02 ∷ 0x07 ∷ 0x01 ∷ 0x02 ∷ 0x7F ∷ 0x80 ∷ [])) ×
    (build 400 16384 (ascii "pair\t1\t1\nstr\t61\ntype\t1\t0\t-\t1\t1\nnew\t15,2,7\t1\nval\t127\t-129\n") ≡ refused 20) ×
    (build 400 16384 (ascii "pair\t1\t1\nstr\t61\ntype\t1\t0\t-\t1\t1\nnew\t15,0,6\t1\nval\n") ≡ done (0x01 ∷ 0x00 ∷ 0x00 ∷ 0x00 ∷ 0x01 ∷ 0x61 ∷ 0x01 ∷ 0x01 ∷ 0x00 ∷ 0x01 ∷ 0x00 ∷ 0x01 ∷ 0x00 ∷ 0x0F ∷ 0x00 ∷ 0x06 ∷ 0x01 ∷ 0x00 ∷ [])) ×
    (build 400 16384 (ascii "pair\t1\t1\nstr\t61\ntype\t1\t0\t-\t1\t1\nnew\t15,0,6\t1\nval\t0\n") ≡ refused 20) ×
    (build 400 16384 (ascii "pair\t1\t1\nstr\t61\ntype\t1\t0\t-\t1\t1\nnew\t17,6\t1\nval\n") ≡ done (0x01 ∷ 0x00 ∷ 0x00 ∷ 0x00 ∷ 0x01 ∷ 0x61 ∷ 0x01 ∷ 0x01 ∷ 0x00 ∷ 0x01 ∷ 0x00 ∷ 0x01 ∷ 0x00 ∷ 0x11 ∷ 0x06 ∷ 0x01 ∷ 0x01 ∷ 0x00 ∷ [])) ×
    (build 400 16384 (ascii "pair\t1\t1\nstr\t61\ntype\t1\t0\t-\t1\t1\nnew\t17,6\t1\nval\t\n") ≡ refused 20) ×
    (build 400 16384 (ascii "pair\t1\t1\nstr\t61\ntype\t1\t0\t-\t1\t1\nnew\t17,6\t1\nval\t1\t0\t1\n") ≡ done (0x01 ∷ 0x00 ∷ 0x00 ∷ 0x00 ∷ 0x01 ∷ 0x61 ∷ 0x01 ∷ 0x01 ∷ 0x00 ∷ 0x01 ∷ 0x00 ∷ 0x01 ∷ 0x00 ∷ 0x11 ∷ 0x06 ∷ 0x01 ∷ 0x04 ∷ 0x03 ∷ 0xFF ∷ 0x00 ∷ 0xFF ∷ [])) ×
    (build 400 16384 (ascii "pair\t1\t1\nstr\t61\ntype\t1\t0\t-\t1\t1\nnew\t17,6\t1\nval\t1\t2\n") ≡ refused 20) ×
    (build 400 16384 (ascii "pair\t1\t1\nstr\t61\ntype\t1\t0\t-\t1\t1\nnew\t18,12\t1\nval\t00000000\t0000000\n") ≡ refused 20) ×
    (build 400 16384 (ascii "pair\t1\t1\nstr\t61\ntype\t1\t0\t-\t1\t1\nnew\t19,14\t1\nval\t1\t0\t1\n") ≡ done (0x01 ∷ 0x00 ∷ 0x00 ∷ 0x00 ∷ 0x01 ∷ 0x61 ∷ 0x01 ∷ 0x01 ∷ 0x00 ∷ 0x01 ∷ 0x00 ∷ 0x01 ∷ 0x00 ∷ 0x13 ∷ 0x0E ∷ 0x01 ∷ 0x04 ∷ 0x03 ∷ 0x01 ∷ 0x00 ∷ 0x01 ∷ [])) ×
    (build 400 16384 (ascii "pair\t1\t1\nstr\t61\ntype\t1\t0\t-\t1\t1\nnew\t19,14\t1\nval\t1\t2\t1\n") ≡ refused 20) ×
    (build 400 16384 (ascii "pair\t1\t1\nstr\t61\ntype\t1\t0\t-\t1\t1\nnew\t19,32\t1\nval\t1\t0\n") ≡ done (0x01 ∷ 0x00 ∷ 0x00 ∷ 0x00 ∷ 0x01 ∷ 0x61 ∷ 0x01 ∷ 0x01 ∷ 0x00 ∷ 0x01 ∷ 0x00 ∷ 0x01 ∷ 0x00 ∷ 0x13 ∷ 0x20 ∷ 0x01 ∷ 0x03 ∷ 0x02 ∷ 0x01 ∷ 0x00 ∷ [])) ×
    (build 400 16384 (ascii "pair\t1\t1\nstr\t61\ntype\t1\t0\t-\t1\t1\nnew\t19,32\t1\nval\t2\t0\n") ≡ refused 20) ×
    (build 400 16384 (ascii "pair\t1\t1\nstr\t61\ntype\t1\t0\t-\t1\t1\nnew\t17,33\t1\nval\n") ≡ refused 20) ×
    (build 400 16384 (ascii "pair\t1\t1\nstr\t61\ntype\t1\t0\t-\t1\t1\nnew\t15,0,33\t1\nval\n") ≡ refused 20) ×
    (build 400 16384 (ascii "pair\t1\t1\nstr\t61\ntype\t1\t0\t-\t1\t1\nnew\t33\t1\nval\t0\n") ≡ refused 20) ×
    (build 400 16384 (ascii "pair\t1\t1\nstr\t61\ntype\t1\t0\t-\t1\t1\nnew\t5\t1\nval\t0\n") ≡ refused 20) ×
    (build 400 16384 (ascii "pair\t1\t1\nstr\t61\ntype\t1\t0\t-\t1\t1\nnew\t16\t1\nval\t0\n") ≡ refused 20) ×
    (build 400 16384 (ascii "pair\t1\t1\nstr\t61\ntype\t1\t0\t-\t1\t1\nnew\t16,6\t1\nval\t0\n") ≡ refused 20) ×
    (build 400 16384 (ascii "pair\t1\t1\nstr\t61\ntype\t1\t0\t-\t1\t1\nnew\t20\t1\nval\t0\n") ≡ refused 20) ×
    (build 400 16384 (ascii "pair\t1\t1\nstr\t61\ntype\t1\t0\t-\t1\t1\nnew\t20,6\t1\nval\t0\n") ≡ refused 20) ×
    (build 400 16384 (ascii "pair\t1\t1\nstr\t61\ntype\t1\t0\t-\t1\t1\nnew\t21\t1\nval\t0\n") ≡ refused 20) ×
    (build 400 16384 (ascii "pair\t1\t1\nstr\t61\ntype\t1\t0\t-\t1\t1\nnew\t21,6\t1\nval\t0\n") ≡ refused 20) ×
    (build 400 16384 (ascii "pair\t1\t1\nstr\t61\ntype\t1\t0\t-\t1\t1\nnew\t31\t1\nval\t0\n") ≡ refused 20) ×
    (build 400 16384 (ascii "pair\t1\t1\nstr\t61\ntype\t1\t0\t-\t1\t1\nnew\t17,5\t1\nval\n") ≡ done (0x01 ∷ 0x00 ∷ 0x00 ∷ 0x00 ∷ 0x01 ∷ 0x61 ∷ 0x01 ∷ 0x01 ∷ 0x00 ∷ 0x01 ∷ 0x00 ∷ 0x01 ∷ 0x00 ∷ 0x11 ∷ 0x05 ∷ 0x01 ∷ 0x01 ∷ 0x00 ∷ [])) ×
    (build 400 16384 (ascii "pair\t1\t1\nstr\t61\ntype\t1\t0\t-\t1\t1\nnew\t17,16\t1\nval\n") ≡ refused 20) ×
    (build 400 16384 (ascii "pair\t1\t1\nstr\t61\ntype\t1\t0\t-\t1\t1\nnew\t17,4\t1\nval\n") ≡ refused 20) ×
    (build 400 16384 (ascii "pair\t1\t1\nstr\t61\ntype\t1\t0\t-\t1\t1\nnew\t17,15\t1\nval\n") ≡ refused 20) ×
    (build 400 16384 (ascii "pair\t1\t1\nstr\t61\ntype\t1\t0\t-\t1\t1\nnew\t17,31\t1\nval\n") ≡ refused 20) ×
    (build 400 16384 (ascii "pair\t1\t1\nstr\t61\ntype\t1\t0\t-\t1\t1\nnew\t15,0,5\t1\nval\n") ≡ done (0x01 ∷ 0x00 ∷ 0x00 ∷ 0x00 ∷ 0x01 ∷ 0x61 ∷ 0x01 ∷ 0x01 ∷ 0x00 ∷ 0x01 ∷ 0x00 ∷ 0x01 ∷ 0x00 ∷ 0x0F ∷ 0x00 ∷ 0x05 ∷ 0x01 ∷ 0x00 ∷ [])) ×
    (build 400 16384 (ascii "pair\t1\t1\nstr\t61\ntype\t1\t0\t-\t1\t1\nnew\t15,0,16\t1\nval\n") ≡ refused 20) ×
    (build 400 16384 (ascii "pair\t1\t1\nstr\t61\ntype\t1\t0\t-\t1\t1\nnew\t15,0,15\t1\nval\n") ≡ refused 20) ×
    (build 400 16384 (ascii "pair\t1\t1\nstr\t61\ntype\t1\t0\t-\t1\t1\nnew\t15,1\t1\nval\t0\n") ≡ refused 20) ×
    (build 400 16384 (ascii "pair\t1\t1\nstr\t61\ntype\t1\t0\t-\t1\t1\nnew\t15,1,6,6\t1\nval\t0\n") ≡ refused 20) ×
    (build 400 16384 (ascii "pair\t1\t1\nstr\t61\ntype\t1\t0\t-\t1\t1\nnew\t17\t1\nval\n") ≡ refused 20) ×
    (build 400 16384 (ascii "pair\t1\t1\nstr\t61\ntype\t1\t0\t-\t1\t1\nnew\t17,6,6\t1\nval\n") ≡ refused 20) ×
    (build 400 16384 (ascii "pair\t1\t1\nstr\t61\ntype\t1\t0\t-\t1\t1\nnew\t17,06\t1\nval\n") ≡ refused 20) ×
    (build 400 16384 (ascii "pair\t1\t1\nstr\t61\ntype\t1\t0\t-\t1\t1\nnew\t015,0,6\t1\nval\n") ≡ refused 20) ×
    (build 400 16384 (ascii "pair\t1\t1\nstr\t61\ntype\t1\t0\t-\t1\t1\nnew\t11,\t1\nval\t0\n") ≡ refused 20) ×
    (build 400 16384 (ascii "pair\t1\t1\nstr\t61\ntype\t1\t0\t-\t1\t1\nnew\t,11\t1\nval\t0\n") ≡ refused 20) ×
    (build 400 16384 (ascii "pair\t1\t1\nstr\t61\ntype\t1\t0\t-\t1\t1\nnew\t15,-1,6\t1\nval\n") ≡ refused 20) ×
    (build 400 16384 (ascii "pair\t1\t1\nstr\t61\ntype\t1\t0\t-\t1\t1\nnew\t17,-6\t1\nval\n") ≡ refused 20) ×
    (build 400 16384 (ascii "pair\t1\t1\nstr\t61\ntype\t1\t0\t-\t1\t1\nnew\t18446744073709551627\t1\nval\t0\n") ≡ refused 20) ×
    (build 400 16384 (ascii "pair\t1\t1\nstr\t61\ntype\t1\t0\t-\t1\t1\nnew\t18446744073709551615\t1\nval\t0\n") ≡ refused 20)
unfolding whole
kinds-built = (refl, refl, refl, refl, refl, refl, refl, refl, refl, refl, refl, refl, refl, refl, refl, refl, refl, refl, refl, refl, refl, refl, refl, refl, refl, refl, refl, refl, refl, refl, refl, refl, refl, refl, refl, refl, refl, refl, refl, refl, refl, refl, refl, refl, refl, refl, refl, refl)

-- constants at the ends of their ranges, lengths at their bound
constants-built :
    (build 400 16384 (ascii "pair\t1\t1\nstr\t61\ntype\t1\t0\t-\t0\t1\nnew\t0,127\t1\n") ≡ done (0x01 ∷ 0x00 ∷ 0x00 ∷ 0x00 ∷ 0x01 ∷ 0x61 ∷ 0x01 ∷ 0x01 ∷ 0x00 ∷ 0x00 ∷ 0x00 ∷ 0x01 ∷ 0x00 ∷ 0x00 ∷ 0x7F ∷ 0x01 ∷ 0x00 ∷ [])) ×
    (build 400 16384 (ascii "pair\t1\t1\nstr\t61\ntype\t1\t0\t-\t0\t1\nnew\t0,-128\t1\n") ≡ done (0x01 ∷ 0x00 ∷ 0x00 ∷ 0x00 ∷ 0x01 ∷ 0x61 ∷ 0x01 ∷ 0x01 ∷ 0x00 ∷ 0x00 ∷ 0x00 ∷ 0x01 ∷ 0x00 ∷ 0x00 ∷ 0x80 ∷ 0x01 ∷ 0x00 ∷ [])) ×
    (build 400 16384 (ascii "pair\t1\t1\nstr\t61\ntype\t1\t0\t-\t0\t1\nnew\t0,128\t1\n") ≡ refused 20) ×
    (build 400 16384 (ascii "pair\t1\t1\nstr\t61\ntype\t1\t0\t-\t0\t1\nnew\t0,-129\t1\n") ≡ refused 20) ×
    (build 400 16384 (ascii "pair\t1\t1\nstr\t61\ntype\t1\t0\t-\t0\t1\nnew\t0\t1\n") ≡ refused 20) ×
    (build 400 16384 (ascii "pair\t1\t1\nstr\t61\ntype\t1\t0\t-\t0\t1\nnew\t0,\t1\n") ≡ refused 20) ×
    (build 400 16384 (ascii "pair\t1\t1\nstr\t61\ntype\t1\t0\t-\t0\t1\nnew\t0,1,1\t1\n") ≡ refused 20) ×
    (build 400 16384 (ascii "pair\t1\t1\nstr\t61\ntype\t1\t0\t-\t0\t1\nnew\t0,-0\t1\n") ≡ refused 20) ×
    (build 400 16384 (ascii "pair\t1\t1\nstr\t61\ntype\t1\t0\t-\t0\t1\nnew\t0,01\t1\n") ≡ refused 20) ×
    (build 400 16384 (ascii "pair\t1\t1\nstr\t61\ntype\t1\t0\t-\t0\t1\nnew\t0,+1\t1\n") ≡ refused 20) ×
    (build 400 16384 (ascii "pair\t1\t1\nstr\t61\ntype\t1\t0\t-\t0\t1\nnew\t1,32767\t1\n") ≡ done (0x01 ∷ 0x00 ∷ 0x00 ∷ 0x00 ∷ 0x01 ∷ 0x61 ∷ 0x01 ∷ 0x01 ∷ 0x00 ∷ 0x00 ∷ 0x00 ∷ 0x01 ∷ 0x00 ∷ 0x01 ∷ 0x7F ∷ 0xFF ∷ 0x01 ∷ 0x00 ∷ [])) ×
    (build 400 16384 (ascii "pair\t1\t1\nstr\t61\ntype\t1\t0\t-\t0\t1\nnew\t1,-32768\t1\n") ≡ done (0x01 ∷ 0x00 ∷ 0x00 ∷ 0x00 ∷ 0x01 ∷ 0x61 ∷ 0x01 ∷ 0x01 ∷ 0x00 ∷ 0x00 ∷ 0x00 ∷ 0x01 ∷ 0x00 ∷ 0x01 ∷ 0x80 ∷ 0x00 ∷ 0x01 ∷ 0x00 ∷ [])) ×
    (build 400 16384 (ascii "pair\t1\t1\nstr\t61\ntype\t1\t0\t-\t0\t1\nnew\t1,32768\t1\n") ≡ refused 20) ×
    (build 400 16384 (ascii "pair\t1\t1\nstr\t61\ntype\t1\t0\t-\t0\t1\nnew\t1,-32769\t1\n") ≡ refused 20) ×
    (build 400 16384 (ascii "pair\t1\t1\nstr\t61\ntype\t1\t0\t-\t0\t1\nnew\t2,2147483647\t1\n") ≡ done (0x01 ∷ 0x00 ∷ 0x00 ∷ 0x00 ∷ 0x01 ∷ 0x61 ∷ 0x01 ∷ 0x01 ∷ 0x00 ∷ 0x00 ∷ 0x00 ∷ 0x01 ∷ 0x00 ∷ 0x02 ∷ 0x7F ∷ 0xFF ∷ 0xFF ∷ 0xFF ∷ 0x01 ∷ 0x00 ∷ [])) ×
    (build 400 16384 (ascii "pair\t1\t1\nstr\t61\ntype\t1\t0\t-\t0\t1\nnew\t2,-2147483648\t1\n") ≡ done (0x01 ∷ 0x00 ∷ 0x00 ∷ 0x00 ∷ 0x01 ∷ 0x61 ∷ 0x01 ∷ 0x01 ∷ 0x00 ∷ 0x00 ∷ 0x00 ∷ 0x01 ∷ 0x00 ∷ 0x02 ∷ 0x80 ∷ 0x00 ∷ 0x00 ∷ 0x00 ∷ 0x01 ∷ 0x00 ∷ [])) ×
    (build 400 16384 (ascii "pair\t1\t1\nstr\t61\ntype\t1\t0\t-\t0\t1\nnew\t2,2147483648\t1\n") ≡ refused 20) ×
    (build 400 16384 (ascii "pair\t1\t1\nstr\t61\ntype\t1\t0\t-\t0\t1\nnew\t2,-2147483649\t1\n") ≡ refused 20) ×
    (build 400 16384 (ascii "pair\t1\t1\nstr\t61\ntype\t1\t0\t-\t0\t1\nnew\t3,9223372036854775807\t1\n") ≡ done (0x01 ∷ 0x00 ∷ 0x00 ∷ 0x00 ∷ 0x01 ∷ 0x61 ∷ 0x01 ∷ 0x01 ∷ 0x00 ∷ 0x00 ∷ 0x00 ∷ 0x01 ∷ 0x00 ∷ 0x03 ∷ 0x7F ∷ 0xFF ∷ 0xFF ∷ 0xFF ∷ 0xFF ∷ 0xFF ∷ 0xFF ∷ 0xFF ∷ 0x01 ∷ 0x00 ∷ [])) ×
    (build 400 16384 (ascii "pair\t1\t1\nstr\t61\ntype\t1\t0\t-\t0\t1\nnew\t3,-9223372036854775808\t1\n") ≡ done (0x01 ∷ 0x00 ∷ 0x00 ∷ 0x00 ∷ 0x01 ∷ 0x61 ∷ 0x01 ∷ 0x01 ∷ 0x00 ∷ 0x00 ∷ 0x00 ∷ 0x01 ∷ 0x00 ∷ 0x03 ∷ 0x80 ∷ 0x00 ∷ 0x00 ∷ 0x00 ∷ 0x00 ∷ 0x00 ∷ 0x00 ∷ 0x00 ∷ 0x01 ∷ 0x00 ∷ [])) ×
    (build 400 16384 (ascii "pair\t1\t1\nstr\t61\ntype\t1\t0\t-\t0\t1\nnew\t3,9223372036854775808\t1\n") ≡ refused 20) ×
    (build 400 16384 (ascii "pair\t1\t1\nstr\t61\ntype\t1\t0\t-\t0\t1\nnew\t3,-9223372036854775809\t1\n") ≡ refused 20) ×
    (build 400 16384 (ascii "pair\t1\t1\nstr\t61\ntype\t1\t0\t-\t0\t1\nnew\t4,9223372036854775807\t1\n") ≡ done (0x01 ∷ 0x00 ∷ 0x00 ∷ 0x00 ∷ 0x01 ∷ 0x61 ∷ 0x01 ∷ 0x01 ∷ 0x00 ∷ 0x00 ∷ 0x00 ∷ 0x01 ∷ 0x00 ∷ 0x04 ∷ 0xFF ∷ 0xFF ∷ 0xFF ∷ 0xFF ∷ 0xFF ∷ 0xFF ∷ 0xFF ∷ 0xFF ∷ 0x7F ∷ 0x01 ∷ 0x00 ∷ [])) ×
    (build 400 16384 (ascii "pair\t1\t1\nstr\t61\ntype\t1\t0\t-\t0\t1\nnew\t4,-9223372036854775808\t1\n") ≡ done (0x01 ∷ 0x00 ∷ 0x00 ∷ 0x00 ∷ 0x01 ∷ 0x61 ∷ 0x01 ∷ 0x01 ∷ 0x00 ∷ 0x00 ∷ 0x00 ∷ 0x01 ∷ 0x00 ∷ 0x04 ∷ 0x80 ∷ 0x80 ∷ 0x80 ∷ 0x80 ∷ 0x80 ∷ 0x80 ∷ 0x80 ∷ 0x80 ∷ 0x80 ∷ 0x01 ∷ 0x00 ∷ [])) ×
    (build 400 16384 (ascii "pair\t1\t1\nstr\t61\ntype\t1\t0\t-\t0\t1\nnew\t4,9223372036854775808\t1\n") ≡ refused 20) ×
    (build 400 16384 (ascii "pair\t1\t1\nstr\t61\ntype\t1\t0\t-\t0\t1\nnew\t4,-9223372036854775809\t1\n") ≡ refused 20) ×
    (build 400 16384 (ascii "pair\t1\t1\nstr\t61\ntype\t1\t0\t-\t0\t1\nnew\t4,18446744073709551615\t1\n") ≡ refused 20) ×
    (build 400 16384 (ascii "pair\t1\t1\nstr\t61\ntype\t1\t0\t-\t0\t1\nnew\t5,1\t1\n") ≡ refused 20) ×
    (build 400 16384 (ascii "pair\t1\t1\nstr\t61\ntype\t1\t0\t-\t0\t1\nnew\t15,65535,7\t1\n") ≡ done (0x01 ∷ 0x00 ∷ 0x00 ∷ 0x00 ∷ 0x01 ∷ 0x61 ∷ 0x01 ∷ 0x01 ∷ 0x00 ∷ 0x00 ∷ 0x00 ∷ 0x01 ∷ 0x00 ∷ 0x0F ∷ 0xFF ∷ 0xFF ∷ 0x03 ∷ 0x07 ∷ 0x01 ∷ 0x00 ∷ [])) ×
    (build 400 16384 (ascii "pair\t1\t1\nstr\t61\ntype\t1\t0\t-\t0\t1\nnew\t15,65536,7\t1\n") ≡ refused 20) ×
    (build 400 16384 (ascii "pair\t1\t1\nstr\t61\ntype\t1\t0\t-\t0\t1\nnew\t15,18446744073709551616,7\t1\n") ≡ refused 20) ×
    (build 400 16384 (ascii "pair\t1\t1\nstr\t61\ntype\t1\t0\t-\t0\t1\nnew\t17,32\t1\n") ≡ done (0x01 ∷ 0x00 ∷ 0x00 ∷ 0x00 ∷ 0x01 ∷ 0x61 ∷ 0x01 ∷ 0x01 ∷ 0x00 ∷ 0x00 ∷ 0x00 ∷ 0x01 ∷ 0x00 ∷ 0x11 ∷ 0x20 ∷ 0x01 ∷ 0x00 ∷ [])) ×
    (build 400 16384 (ascii "pair\t1\t1\nstr\t61\ntype\t1\t0\t-\t0\t1\nnew\t17,33\t1\n") ≡ refused 20) ×
    (build 400 16384 (ascii "pair\t1\t1\nstr\t61\ntype\t1\t0\t-\t0\t1\nnew\t32\t1\n") ≡ done (0x01 ∷ 0x00 ∷ 0x00 ∷ 0x00 ∷ 0x01 ∷ 0x61 ∷ 0x01 ∷ 0x01 ∷ 0x00 ∷ 0x00 ∷ 0x00 ∷ 0x01 ∷ 0x00 ∷ 0x20 ∷ 0x01 ∷ 0x00 ∷ [])) ×
    (build 400 16384 (ascii "pair\t1\t1\nstr\t61\ntype\t1\t0\t-\t0\t1\nnew\t33\t1\n") ≡ refused 20) ×
    (build 400 16384 (ascii "pair\t1\t1\nstr\t61\ntype\t1\t0\t-\t0\t1\nnew\t15,65535,32\t1\n") ≡ done (0x01 ∷ 0x00 ∷ 0x00 ∷ 0x00 ∷ 0x01 ∷ 0x61 ∷ 0x01 ∷ 0x01 ∷ 0x00 ∷ 0x00 ∷ 0x00 ∷ 0x01 ∷ 0x00 ∷ 0x0F ∷ 0xFF ∷ 0xFF ∷ 0x03 ∷ 0x20 ∷ 0x01 ∷ 0x00 ∷ [])) ×
    (build 400 16384 (ascii "pair\t1\t1\nstr\t61\ntype\t1\t0\t-\t0\t1\nnew\t15,1,33\t1\n") ≡ refused 20)
unfolding whole
constants-built = (refl, refl, refl, refl, refl, refl, refl, refl, refl, refl, refl, refl, refl, refl, refl, refl, refl, refl, refl, refl, refl, refl, refl, refl, refl, refl, refl, refl, refl, refl, refl, refl, refl, refl, refl, refl, refl)

-- an annotation is two fields, both 0 or neither
annotations-built :
    (build 400 16384 (ascii "pair\t1\t1\nstr\t61\ntype\t1\t0\t-\t1\t1\nnew\t5\t1\nval\t0\t0\n") ≡ done (0x01 ∷ 0x00 ∷ 0x00 ∷ 0x00 ∷ 0x01 ∷ 0x61 ∷ 0x01 ∷ 0x01 ∷ 0x00 ∷ 0x01 ∷ 0x00 ∷ 0x01 ∷ 0x00 ∷ 0x05 ∷ 0x01 ∷ 0x02 ∷ 0x00 ∷ 0x00 ∷ [])) ×
    (build 400 16384 (ascii "pair\t1\t1\nstr\t61\ntype\t1\t0\t-\t1\t1\nnew\t5\t1\nval\t1\t1\n") ≡ done (0x01 ∷ 0x00 ∷ 0x00 ∷ 0x00 ∷ 0x01 ∷ 0x61 ∷ 0x01 ∷ 0x01 ∷ 0x00 ∷ 0x01 ∷ 0x00 ∷ 0x01 ∷ 0x00 ∷ 0x05 ∷ 0x01 ∷ 0x02 ∷ 0x01 ∷ 0x01 ∷ [])) ×
    (build 400 16384 (ascii "pair\t1\t1\nstr\t61\ntype\t1\t0\t-\t1\t1\nnew\t5\t1\nval\n") ≡ refused 20) ×
    (build 400 16384 (ascii "pair\t1\t1\nstr\t61\ntype\t1\t0\t-\t1\t1\nnew\t5\t1\nval\t0\n") ≡ refused 20) ×
    (build 400 16384 (ascii "pair\t1\t1\nstr\t61\ntype\t1\t0\t-\t1\t1\nnew\t5\t1\nval\t1\n") ≡ refused 20) ×
    (build 400 16384 (ascii "pair\t1\t1\nstr\t61\ntype\t1\t0\t-\t1\t1\nnew\t5\t1\nval\t1\t0\n") ≡ refused 20) ×
    (build 400 16384 (ascii "pair\t1\t1\nstr\t61\ntype\t1\t0\t-\t1\t1\nnew\t5\t1\nval\t0\t1\n") ≡ refused 20) ×
    (build 400 16384 (ascii "pair\t1\t1\nstr\t61\ntype\t1\t0\t-\t1\t1\nnew\t5\t1\nval\t1\t2\n") ≡ refused 20) ×
    (build 400 16384 (ascii "pair\t1\t1\nstr\t61\ntype\t1\t0\t-\t1\t1\nnew\t5\t1\nval\t2\t1\n") ≡ refused 20) ×
    (build 400 16384 (ascii "pair\t1\t1\nstr\t61\ntype\t1\t0\t-\t1\t1\nnew\t5\t1\nval\t2\t0\n") ≡ refused 20) ×
    (build 400 16384 (ascii "pair\t1\t1\nstr\t61\ntype\t1\t0\t-\t1\t1\nnew\t5\t1\nval\t1\t1\t\n") ≡ refused 20) ×
    (build 400 16384 (ascii "pair\t1\t1\nstr\t61\ntype\t1\t0\t-\t1\t1\nnew\t5\t1\nval\t1\t1\t1\n") ≡ refused 20) ×
    (build 400 16384 (ascii "pair\t1\t1\nstr\t61\ntype\t1\t0\t-\t1\t1\nnew\t5\t1\nval\t1\t1\t0\t0\n") ≡ refused 20) ×
    (build 400 16384 (ascii "pair\t1\t1\nstr\t61\ntype\t1\t0\t-\t1\t1\nnew\t5\t1\nval\t1\t01\n") ≡ refused 20) ×
    (build 400 16384 (ascii "pair\t1\t1\nstr\t61\ntype\t1\t0\t-\t1\t1\nnew\t5\t1\nval\t01\t1\n") ≡ refused 20) ×
    (build 400 16384 (ascii "pair\t1\t1\nstr\t61\ntype\t1\t0\t-\t1\t1\nnew\t5\t1\nval\t1\t-1\n") ≡ refused 20) ×
    (build 400 16384 (ascii "pair\t1\t1\nstr\t61\ntype\t1\t0\t-\t1\t1\nnew\t5\t1\nval\t-1\t1\n") ≡ refused 20) ×
    (build 400 16384 (ascii "pair\t1\t1\nstr\t61\ntype\t1\t0\t-\t1\t1\nnew\t5\t1\nval\t-0\t0\n") ≡ refused 20) ×
    (build 400 16384 (ascii "pair\t1\t1\nstr\t61\ntype\t1\t0\t-\t1\t1\nnew\t5\t1\nval\t-\n") ≡ refused 20) ×
    (build 400 16384 (ascii "pair\t1\t1\nstr\t61\ntype\t1\t0\t-\t1\t1\nnew\t5\t1\nval\t-\t-\n") ≡ refused 20) ×
    (build 400 16384 (ascii "pair\t1\t1\nstr\t61\ntype\t1\t0\t-\t1\t1\nnew\t5\t1\nval\t1,1\n") ≡ refused 20) ×
    (build 400 16384 (ascii "pair\t1\t1\nstr\t61\ntype\t1\t0\t-\t1\t1\nnew\t5\t1\nval\t1 1\n") ≡ refused 20) ×
    (build 400 16384 (ascii "pair\t1\t1\nstr\t61\ntype\t1\t0\t-\t1\t1\nnew\t5\t1\nval\t1\t\t1\n") ≡ refused 20) ×
    (build 400 16384 (ascii "pair\t1\t1\nstr\t61\ntype\t1\t0\t-\t1\t1\nnew\t5\t1\nval\t18446744073709551615\t1\n") ≡ refused 20) ×
    (build 400 16384 (ascii "pair\t1\t1\nstr\t61\ntype\t1\t0\t-\t1\t1\nnew\t5\t1\nval\t1\t18446744073709551615\n") ≡ refused 20) ×
    (build 400 16384 (ascii "pair\t1\t1\nstr\t61\ntype\t1\t0\t-\t1\t1\nnew\t5\t1\nval\t18446744073709551617\t1\n") ≡ refused 20) ×
    (build 400 16384 (ascii "pair\t1\t1\nstr\t61\ntype\t1\t0\t-\t1\t1\nnew\t5\t1\nval\t1\t18446744073709551617\n") ≡ refused 20) ×
    (build 400 16384 (ascii "pair\t1\t1\nstr\t61\ntype\t1\t0\t-\t1\t1\nnew\t5\t1\nval\t18446744073709551616\t18446744073709551616\n") ≡ refused 20)
unfolding whole
annotations-built = (refl, refl, refl, refl, refl, refl, refl, refl, refl, refl, refl, refl, refl, refl, refl, refl, refl, refl, refl, refl, refl, refl, refl, refl, refl, refl, refl, refl)

-- as many pairs of fields as an array has annotations
annotated-arrays-built :
    (build 400 16384 (ascii "pair\t1\t1\nstr\t61\ntype\t1\t0\t-\t1\t1\nnew\t17,5\t1\nval\t0\t0\t1\t1\n") ≡ done (0x01 ∷ 0x00 ∷ 0x00 ∷ 0x00 ∷ 0x01 ∷ 0x61 ∷ 0x01 ∷ 0x01 ∷ 0x00 ∷ 0x01 ∷ 0x00 ∷ 0x01 ∷ 0x00 ∷ 0x11 ∷ 0x05 ∷ 0x01 ∷ 0x05 ∷ 0x02 ∷ 0x00 ∷ 0x00 ∷ 0x01 ∷ 0x01 ∷ [])) ×
    (build 400 16384 (ascii "pair\t1\t1\nstr\t61\ntype\t1\t0\t-\t1\t1\nnew\t17,5\t1\nval\t0\n") ≡ refused 20) ×
    (build 400 16384 (ascii "pair\t1\t1\nstr\t61\ntype\t1\t0\t-\t1\t1\nnew\t17,5\t1\nval\t1\t1\t0\n") ≡ refused 20) ×
    (build 400 16384 (ascii "pair\t1\t1\nstr\t61\ntype\t1\t0\t-\t1\t1\nnew\t17,5\t1\nval\t1\t1\t0\t1\n") ≡ refused 20) ×
    (build 400 16384 (ascii "pair\t1\t1\nstr\t61\ntype\t1\t0\t-\t1\t1\nnew\t17,5\t1\nval\t1\t1\t1\t2\n") ≡ refused 20) ×
    (build 400 16384 (ascii "pair\t1\t1\nstr\t61\ntype\t1\t0\t-\t1\t1\nnew\t18,5\t1\nval\t1\t1\t1\t1\n") ≡ done (0x01 ∷ 0x00 ∷ 0x00 ∷ 0x00 ∷ 0x01 ∷ 0x61 ∷ 0x01 ∷ 0x01 ∷ 0x00 ∷ 0x01 ∷ 0x00 ∷ 0x01 ∷ 0x00 ∷ 0x12 ∷ 0x05 ∷ 0x01 ∷ 0x05 ∷ 0x02 ∷ 0x01 ∷ 0x01 ∷ 0x01 ∷ 0x01 ∷ [])) ×
    (build 400 16384 (ascii "pair\t1\t1\nstr\t61\ntype\t1\t0\t-\t1\t1\nnew\t18,5\t1\nval\t1\t1\t1\n") ≡ refused 20) ×
    (build 400 16384 (ascii "pair\t1\t1\nstr\t61\ntype\t1\t0\t-\t1\t1\nnew\t19,5\t1\nval\t0\t0\t0\t0\n") ≡ done (0x01 ∷ 0x00 ∷ 0x00 ∷ 0x00 ∷ 0x01 ∷ 0x61 ∷ 0x01 ∷ 0x01 ∷ 0x00 ∷ 0x01 ∷ 0x00 ∷ 0x01 ∷ 0x00 ∷ 0x13 ∷ 0x05 ∷ 0x01 ∷ 0x05 ∷ 0x02 ∷ 0x00 ∷ 0x00 ∷ 0x00 ∷ 0x00 ∷ [])) ×
    (build 400 16384 (ascii "pair\t1\t1\nstr\t61\ntype\t1\t0\t-\t1\t1\nnew\t19,5\t1\nval\t0\t0\t0\t0\t0\n") ≡ refused 20) ×
    (build 400 16384 (ascii "pair\t1\t1\nstr\t61\ntype\t1\t0\t-\t1\t1\nnew\t15,2,5\t1\nval\t1\t1\t0\t0\n") ≡ done (0x01 ∷ 0x00 ∷ 0x00 ∷ 0x00 ∷ 0x01 ∷ 0x61 ∷ 0x01 ∷ 0x01 ∷ 0x00 ∷ 0x01 ∷ 0x00 ∷ 0x01 ∷ 0x00 ∷ 0x0F ∷ 0x02 ∷ 0x05 ∷ 0x01 ∷ 0x04 ∷ 0x01 ∷ 0x01 ∷ 0x00 ∷ 0x00 ∷ [])) ×
    (build 400 16384 (ascii "pair\t1\t1\nstr\t61\ntype\t1\t0\t-\t1\t1\nnew\t15,2,5\t1\nval\t1\t1\n") ≡ refused 20) ×
    (build 400 16384 (ascii "pair\t1\t1\nstr\t61\ntype\t1\t0\t-\t1\t1\nnew\t15,2,5\t1\nval\t1\t1\t0\n") ≡ refused 20) ×
    (build 400 16384 (ascii "pair\t1\t1\nstr\t61\ntype\t1\t0\t-\t1\t1\nnew\t15,2,5\t1\nval\t1\t1\t0\t0\t0\t0\n") ≡ refused 20) ×
    (build 400 16384 (ascii "pair\t1\t1\nstr\t61\ntype\t1\t0\t-\t1\t1\nnew\t15,1,5\t1\nval\t1\t1\n") ≡ done (0x01 ∷ 0x00 ∷ 0x00 ∷ 0x00 ∷ 0x01 ∷ 0x61 ∷ 0x01 ∷ 0x01 ∷ 0x00 ∷ 0x01 ∷ 0x00 ∷ 0x01 ∷ 0x00 ∷ 0x0F ∷ 0x01 ∷ 0x05 ∷ 0x01 ∷ 0x02 ∷ 0x01 ∷ 0x01 ∷ [])) ×
    (build 400 16384 (ascii "pair\t1\t1\nstr\t61\ntype\t1\t0\t-\t1\t1\nnew\t15,1,5\t1\nval\t1\n") ≡ refused 20) ×
    (build 400 16384 (ascii "pair\t1\t1\nstr\t61\ntype\t1\t0\t-\t1\t1\nnew\t15,0,5\t1\nval\t0\t0\n") ≡ refused 20)
unfolding whole
annotated-arrays-built = (refl, refl, refl, refl, refl, refl, refl, refl, refl, refl, refl, refl, refl, refl, refl, refl)

-- a size before its keys, each followed by what it leads to
maps-built :
    (build 400 16384 (ascii "pair\t1\t1\nstr\t61\ntype\t1\t0\t-\t1\t1\nnew\t20,2,6,7\t1\nval\t0\n") ≡ done (0x01 ∷ 0x00 ∷ 0x00 ∷ 0x00 ∷ 0x01 ∷ 0x61 ∷ 0x01 ∷ 0x01 ∷ 0x00 ∷ 0x01 ∷ 0x00 ∷ 0x01 ∷ 0x00 ∷ 0x14 ∷ 0x02 ∷ 0x06 ∷ 0x07 ∷ 0x01 ∷ 0x01 ∷ 0x00 ∷ [])) ×
    (build 400 16384 (ascii "pair\t1\t1\nstr\t61\ntype\t1\t0\t-\t1\t1\nnew\t20,2,6,7\t1\nval\t1\t0\t5\n") ≡ done (0x01 ∷ 0x00 ∷ 0x00 ∷ 0x00 ∷ 0x01 ∷ 0x61 ∷ 0x01 ∷ 0x01 ∷ 0x00 ∷ 0x01 ∷ 0x00 ∷ 0x01 ∷ 0x00 ∷ 0x14 ∷ 0x02 ∷ 0x06 ∷ 0x07 ∷ 0x01 ∷ 0x03 ∷ 0x01 ∷ 0x00 ∷ 0x05 ∷ [])) ×
    (build 400 16384 (ascii "pair\t1\t1\nstr\t61\ntype\t1\t0\t-\t1\t1\nnew\t20,2,6,7\t1\nval\t2\t1\t-128\t1\t127\n") ≡ done (0x01 ∷ 0x00 ∷ 0x00 ∷ 0x00 ∷ 0x01 ∷ 0x61 ∷ 0x01 ∷ 0x01 ∷ 0x00 ∷ 0x01 ∷ 0x00 ∷ 0x01 ∷ 0x00 ∷ 0x14 ∷ 0x02 ∷ 0x06 ∷ 0x07 ∷ 0x01 ∷ 0x05 ∷ 0x02 ∷ 0xFF ∷ 0x80 ∷ 0xFF ∷ 0x7F ∷ [])) ×
    (build 400 16384 (ascii "pair\t1\t1\nstr\t61\ntype\t1\t0\t-\t1\t1\nnew\t20,2,6,7\t1\nval\n") ≡ refused 20) ×
    (build 400 16384 (ascii "pair\t1\t1\nstr\t61\ntype\t1\t0\t-\t1\t1\nnew\t20,2,6,7\t1\nval\t1\n") ≡ refused 20) ×
    (build 400 16384 (ascii "pair\t1\t1\nstr\t61\ntype\t1\t0\t-\t1\t1\nnew\t20,2,6,7\t1\nval\t1\t0\n") ≡ refused 20) ×
    (build 400 16384 (ascii "pair\t1\t1\nstr\t61\ntype\t1\t0\t-\t1\t1\nnew\t20,2,6,7\t1\nval\t0\t0\t5\n") ≡ refused 20) ×
    (build 400 16384 (ascii "pair\t1\t1\nstr\t61\ntype\t1\t0\t-\t1\t1\nnew\t20,2,6,7\t1\nval\t1\t0\t5\t0\n") ≡ refused 20) ×
    (build 400 16384 (ascii "pair\t1\t1\nstr\t61\ntype\t1\t0\t-\t1\t1\nnew\t20,2,6,7\t1\nval\t1\t0\t5\t1\t6\n") ≡ refused 20) ×
    (build 400 16384 (ascii "pair\t1\t1\nstr\t61\ntype\t1\t0\t-\t1\t1\nnew\t20,2,6,7\t1\nval\t2\t0\t5\n") ≡ refused 20) ×
    (build 400 16384 (ascii "pair\t1\t1\nstr\t61\ntype\t1\t0\t-\t1\t1\nnew\t20,2,6,7\t1\nval\t2\t0\t5\t1\n") ≡ refused 20) ×
    (build 400 16384 (ascii "pair\t1\t1\nstr\t61\ntype\t1\t0\t-\t1\t1\nnew\t20,2,6,7\t1\nval\t1\t2\t5\n") ≡ refused 20) ×
    (build 400 16384 (ascii "pair\t1\t1\nstr\t61\ntype\t1\t0\t-\t1\t1\nnew\t20,2,6,7\t1\nval\t1\t0\t128\n") ≡ refused 20) ×
    (build 400 16384 (ascii "pair\t1\t1\nstr\t61\ntype\t1\t0\t-\t1\t1\nnew\t20,2,6,7\t1\nval\t00\n") ≡ refused 20) ×
    (build 400 16384 (ascii "pair\t1\t1\nstr\t61\ntype\t1\t0\t-\t1\t1\nnew\t20,2,6,7\t1\nval\t-0\n") ≡ refused 20) ×
    (build 400 16384 (ascii "pair\t1\t1\nstr\t61\ntype\t1\t0\t-\t1\t1\nnew\t20,2,6,7\t1\nval\t-1\n") ≡ refused 20) ×
    (build 400 16384 (ascii "pair\t1\t1\nstr\t61\ntype\t1\t0\t-\t1\t1\nnew\t20,2,6,7\t1\nval\t01\t0\t5\n") ≡ refused 20) ×
    (build 400 16384 (ascii "pair\t1\t1\nstr\t61\ntype\t1\t0\t-\t1\t1\nnew\t20,2,6,7\t1\nval\t1,0\t5\n") ≡ refused 20) ×
    (build 400 16384 (ascii "pair\t1\t1\nstr\t61\ntype\t1\t0\t-\t1\t1\nnew\t20,2,6,7\t1\nval\t65535\n") ≡ refused 20) ×
    (build 400 16384 (ascii "pair\t1\t1\nstr\t61\ntype\t1\t0\t-\t1\t1\nnew\t20,2,6,7\t1\nval\t65536\n") ≡ refused 20) ×
    (build 400 16384 (ascii "pair\t1\t1\nstr\t61\ntype\t1\t0\t-\t1\t1\nnew\t20,2,6,7\t1\nval\t65537\t0\t5\n") ≡ refused 20) ×
    (build 400 16384 (ascii "pair\t1\t1\nstr\t61\ntype\t1\t0\t-\t1\t1\nnew\t20,2,6,7\t1\nval\t4294967297\t0\t5\n") ≡ refused 20) ×
    (build 400 16384 (ascii "pair\t1\t1\nstr\t61\ntype\t1\t0\t-\t1\t1\nnew\t20,2,6,7\t1\nval\t18446744073709551615\n") ≡ refused 20) ×
    (build 400 16384 (ascii "pair\t1\t1\nstr\t61\ntype\t1\t0\t-\t1\t1\nnew\t20,2,6,7\t1\nval\t18446744073709551616\n") ≡ refused 20) ×
    (build 400 16384 (ascii "pair\t1\t1\nstr\t61\ntype\t1\t0\t-\t1\t1\nnew\t20,2,6,7\t1\nval\t18446744073709551617\t0\t5\n") ≡ refused 20) ×
    (build 400 16384 (ascii "pair\t1\t1\nstr\t61\ntype\t1\t0\t-\t1\t1\nnew\t20,3,6,7,14\t1\nval\t0\n") ≡ done (0x01 ∷ 0x00 ∷ 0x00 ∷ 0x00 ∷ 0x01 ∷ 0x61 ∷ 0x01 ∷ 0x01 ∷ 0x00 ∷ 0x01 ∷ 0x00 ∷ 0x01 ∷ 0x00 ∷ 0x14 ∷ 0x03 ∷ 0x06 ∷ 0x07 ∷ 0x0E ∷ 0x01 ∷ 0x01 ∷ 0x00 ∷ [])) ×
    (build 400 16384 (ascii "pair\t1\t1\nstr\t61\ntype\t1\t0\t-\t1\t1\nnew\t20,3,6,7,14\t1\nval\t1\t0\t0\n") ≡ done (0x01 ∷ 0x00 ∷ 0x00 ∷ 0x00 ∷ 0x01 ∷ 0x61 ∷ 0x01 ∷ 0x01 ∷ 0x00 ∷ 0x01 ∷ 0x00 ∷ 0x01 ∷ 0x00 ∷ 0x14 ∷ 0x03 ∷ 0x06 ∷ 0x07 ∷ 0x0E ∷ 0x01 ∷ 0x03 ∷ 0x01 ∷ 0x00 ∷ 0x00 ∷ [])) ×
    (build 400 16384 (ascii "pair\t1\t1\nstr\t61\ntype\t1\t0\t-\t1\t1\nnew\t20,3,6,7,14\t1\nval\t1\t0\t1\t5\t1\n") ≡ done (0x01 ∷ 0x00 ∷ 0x00 ∷ 0x00 ∷ 0x01 ∷ 0x61 ∷ 0x01 ∷ 0x01 ∷ 0x00 ∷ 0x01 ∷ 0x00 ∷ 0x01 ∷ 0x00 ∷ 0x14 ∷ 0x03 ∷ 0x06 ∷ 0x07 ∷ 0x0E ∷ 0x01 ∷ 0x05 ∷ 0x01 ∷ 0x00 ∷ 0x01 ∷ 0x05 ∷ 0x01 ∷ [])) ×
    (build 400 16384 (ascii "pair\t1\t1\nstr\t61\ntype\t1\t0\t-\t1\t1\nnew\t20,3,6,7,14\t1\nval\t2\t1\t0\t1\t2\t5\t0\t5\t1\n") ≡ done (0x01 ∷ 0x00 ∷ 0x00 ∷ 0x00 ∷ 0x01 ∷ 0x61 ∷ 0x01 ∷ 0x01 ∷ 0x00 ∷ 0x01 ∷ 0x00 ∷ 0x01 ∷ 0x00 ∷ 0x14 ∷ 0x03 ∷ 0x06 ∷ 0x07 ∷ 0x0E ∷ 0x01 ∷ 0x09 ∷ 0x02 ∷ 0xFF ∷ 0x00 ∷ 0xFF ∷ 0x02 ∷ 0x05 ∷ 0x00 ∷ 0x05 ∷ 0x01 ∷ [])) ×
    (build 400 16384 (ascii "pair\t1\t1\nstr\t61\ntype\t1\t0\t-\t1\t1\nnew\t20,3,6,7,14\t1\nval\t1\n") ≡ refused 20) ×
    (build 400 16384 (ascii "pair\t1\t1\nstr\t61\ntype\t1\t0\t-\t1\t1\nnew\t20,3,6,7,14\t1\nval\t1\t0\n") ≡ refused 20) ×
    (build 400 16384 (ascii "pair\t1\t1\nstr\t61\ntype\t1\t0\t-\t1\t1\nnew\t20,3,6,7,14\t1\nval\t1\t0\t1\n") ≡ refused 20) ×
    (build 400 16384 (ascii "pair\t1\t1\nstr\t61\ntype\t1\t0\t-\t1\t1\nnew\t20,3,6,7,14\t1\nval\t1\t0\t1\t5\n") ≡ refused 20) ×
    (build 400 16384 (ascii "pair\t1\t1\nstr\t61\ntype\t1\t0\t-\t1\t1\nnew\t20,3,6,7,14\t1\nval\t1\t0\t5\t1\n") ≡ refused 20) ×
    (build 400 16384 (ascii "pair\t1\t1\nstr\t61\ntype\t1\t0\t-\t1\t1\nnew\t20,3,6,7,14\t1\nval\t1\t0\t0\t5\t1\n") ≡ refused 20) ×
    (build 400 16384 (ascii "pair\t1\t1\nstr\t61\ntype\t1\t0\t-\t1\t1\nnew\t20,3,6,7,14\t1\nval\t1\t0\t2\t5\t1\n") ≡ refused 20) ×
    (build 400 16384 (ascii "pair\t1\t1\nstr\t61\ntype\t1\t0\t-\t1\t1\nnew\t20,3,6,7,14\t1\nval\t1\t0\t1\t5\t2\n") ≡ refused 20) ×
    (build 400 16384 (ascii "pair\t1\t1\nstr\t61\ntype\t1\t0\t-\t1\t1\nnew\t20,3,6,7,14\t1\nval\t1\t0\t1\t5\t1\t0\n") ≡ refused 20) ×
    (build 400 16384 (ascii "pair\t1\t1\nstr\t61\ntype\t1\t0\t-\t1\t1\nnew\t20,3,6,7,14\t1\nval\t2\t0\t1\t5\t1\n") ≡ refused 20) ×
    (build 400 16384 (ascii "pair\t1\t1\nstr\t61\ntype\t1\t0\t-\t1\t1\nnew\t20,3,6,7,14\t1\nval\t1\t0\t00\n") ≡ refused 20) ×
    (build 400 16384 (ascii "pair\t1\t1\nstr\t61\ntype\t1\t0\t-\t1\t1\nnew\t20,3,6,7,14\t1\nval\t1\t0\t65536\n") ≡ refused 20) ×
    (build 400 16384 (ascii "pair\t1\t1\nstr\t61\ntype\t1\t0\t-\t1\t1\nnew\t20,3,6,7,14\t1\nval\t1\t0\t18446744073709551615\n") ≡ refused 20) ×
    (build 400 16384 (ascii "pair\t1\t1\nstr\t61\ntype\t1\t0\t-\t1\t1\nnew\t20,3,6,7,14\t1\nval\t1\t0\t18446744073709551616\n") ≡ refused 20) ×
    (build 400 16384 (ascii "pair\t1\t1\nstr\t61\ntype\t1\t0\t-\t1\t1\nnew\t20,3,6,7,14\t1\nval\t1\t0\t18446744073709551617\t5\t1\n") ≡ refused 20) ×
    (build 400 16384 (ascii "pair\t1\t1\nstr\t61\ntype\t1\t0\t-\t1\t1\nnew\t20,8,7,7,7,7,7,7,7,7\t1\nval\t0\n") ≡ done (0x01 ∷ 0x00 ∷ 0x00 ∷ 0x00 ∷ 0x01 ∷ 0x61 ∷ 0x01 ∷ 0x01 ∷ 0x00 ∷ 0x01 ∷ 0x00 ∷ 0x01 ∷ 0x00 ∷ 0x14 ∷ 0x08 ∷ 0x07 ∷ 0x07 ∷ 0x07 ∷ 0x07 ∷ 0x07 ∷ 0x07 ∷ 0x07 ∷ 0x07 ∷ 0x01 ∷ 0x01 ∷ 0x00 ∷ [])) ×
    (build 400 16384 (ascii "pair\t1\t1\nstr\t61\ntype\t1\t0\t-\t1\t1\nnew\t20,8,7,7,7,7,7,7,7,7\t1\nval\t1\t1\t1\t2\t1\t3\t1\t4\t1\t5\t1\t6\t1\t7\t8\n") ≡ done (0x01 ∷ 0x00 ∷ 0x00 ∷ 0x00 ∷ 0x01 ∷ 0x61 ∷ 0x01 ∷ 0x01 ∷ 0x00 ∷ 0x01 ∷ 0x00 ∷ 0x01 ∷ 0x00 ∷ 0x14 ∷ 0x08 ∷ 0x07 ∷ 0x07 ∷ 0x07 ∷ 0x07 ∷ 0x07 ∷ 0x07 ∷ 0x07 ∷ 0x07 ∷ 0x01 ∷ 0x0F ∷ 0x01 ∷ 0x01 ∷ 0x01 ∷ 0x02 ∷ 0x01 ∷ 0x03 ∷ 0x01 ∷ 0x04 ∷ 0x01 ∷ 0x05 ∷ 0x01 ∷ 0x06 ∷ 0x01 ∷ 0x07 ∷ 0x08 ∷ [])) ×
    (build 400 16384 (ascii "pair\t1\t1\nstr\t61\ntype\t1\t0\t-\t1\t1\nnew\t20,8,7,7,7,7,7,7,7,7\t1\nval\t1\t1\t1\t2\t1\t3\t1\t4\t1\t5\t1\t6\t0\n") ≡ done (0x01 ∷ 0x00 ∷ 0x00 ∷ 0x00 ∷ 0x01 ∷ 0x61 ∷ 0x01 ∷ 0x01 ∷ 0x00 ∷ 0x01 ∷ 0x00 ∷ 0x01 ∷ 0x00 ∷ 0x14 ∷ 0x08 ∷ 0x07 ∷ 0x07 ∷ 0x07 ∷ 0x07 ∷ 0x07 ∷ 0x07 ∷ 0x07 ∷ 0x07 ∷ 0x01 ∷ 0x0D ∷ 0x01 ∷ 0x01 ∷ 0x01 ∷ 0x02 ∷ 0x01 ∷ 0x03 ∷ 0x01 ∷ 0x04 ∷ 0x01 ∷ 0x05 ∷ 0x01 ∷ 0x06 ∷ 0x00 ∷ [])) ×
    (build 400 16384 (ascii "pair\t1\t1\nstr\t61\ntype\t1\t0\t-\t1\t1\nnew\t20,8,7,7,7,7,7,7,7,7\t1\nval\t1\t1\t1\t2\t1\t3\t1\t4\t1\t5\t1\t6\t1\t7\n") ≡ refused 20) ×
    (build 400 16384 (ascii "pair\t1\t1\nstr\t61\ntype\t1\t0\t-\t1\t1\nnew\t20,8,7,7,7,7,7,7,7,7\t1\nval\t1\t1\t1\t2\t1\t3\t1\t4\t1\t5\t1\t6\n") ≡ refused 20) ×
    (build 400 16384 (ascii "pair\t1\t1\nstr\t61\ntype\t1\t0\t-\t1\t1\nnew\t20,8,7,7,7,7,7,7,7,7\t1\nval\t1\t1\t1\t2\t1\t3\t1\t4\t1\t5\t1\t6\t0\t7\t8\n") ≡ refused 20) ×
    (build 400 16384 (ascii "pair\t1\t1\nstr\t61\ntype\t1\t0\t-\t1\t1\nnew\t20,8,7,7,7,7,7,7,7,7\t1\nval\t1\t1\t1\t2\t1\t3\t1\t4\t1\t5\t1\t6\t1\t7\t8\t9\n") ≡ refused 20) ×
    (build 400 16384 (ascii "pair\t1\t1\nstr\t61\ntype\t1\t0\t-\t1\t1\nnew\t20,8,7,7,7,7,7,7,7,7\t1\nval\t1\t1\t2\t3\t4\t5\t6\t7\t8\n") ≡ refused 20) ×
    (build 400 16384 (ascii "pair\t1\t1\nstr\t61\ntype\t1\t0\t-\t1\t1\nnew\t20,3,5,32,14\t1\nval\t1\t1\t1\t1\t1\t1\n") ≡ done (0x01 ∷ 0x00 ∷ 0x00 ∷ 0x00 ∷ 0x01 ∷ 0x61 ∷ 0x01 ∷ 0x01 ∷ 0x00 ∷ 0x01 ∷ 0x00 ∷ 0x01 ∷ 0x00 ∷ 0x14 ∷ 0x03 ∷ 0x05 ∷ 0x20 ∷ 0x0E ∷ 0x01 ∷ 0x06 ∷ 0x01 ∷ 0x01 ∷ 0x01 ∷ 0x01 ∷ 0x01 ∷ 0x01 ∷ [])) ×
    (build 400 16384 (ascii "pair\t1\t1\nstr\t61\ntype\t1\t0\t-\t1\t1\nnew\t20,3,5,32,14\t1\nval\t1\t0\t0\t1\t0\t0\n") ≡ done (0x01 ∷ 0x00 ∷ 0x00 ∷ 0x00 ∷ 0x01 ∷ 0x61 ∷ 0x01 ∷ 0x01 ∷ 0x00 ∷ 0x01 ∷ 0x00 ∷ 0x01 ∷ 0x00 ∷ 0x14 ∷ 0x03 ∷ 0x05 ∷ 0x20 ∷ 0x0E ∷ 0x01 ∷ 0x06 ∷ 0x01 ∷ 0x00 ∷ 0x00 ∷ 0x01 ∷ 0x00 ∷ 0x00 ∷ [])) ×
    (build 400 16384 (ascii "pair\t1\t1\nstr\t61\ntype\t1\t0\t-\t1\t1\nnew\t20,3,5,32,14\t1\nval\t1\t1\t0\t0\n") ≡ refused 20) ×
    (build 400 16384 (ascii "pair\t1\t1\nstr\t61\ntype\t1\t0\t-\t1\t1\nnew\t20,3,5,32,14\t1\nval\t1\t0\t1\t0\n") ≡ refused 20) ×
    (build 400 16384 (ascii "pair\t1\t1\nstr\t61\ntype\t1\t0\t-\t1\t1\nnew\t20,3,5,32,14\t1\nval\t1\t1\t2\t0\n") ≡ refused 20) ×
    (build 400 16384 (ascii "pair\t1\t1\nstr\t61\ntype\t1\t0\t-\t1\t1\nnew\t20,3,5,32,14\t1\nval\t1\t2\t1\t0\n") ≡ refused 20) ×
    (build 400 16384 (ascii "pair\t1\t1\nstr\t61\ntype\t1\t0\t-\t1\t1\nnew\t20,3,5,32,14\t1\nval\t1\t0\t0\t1\t2\t0\n") ≡ refused 20) ×
    (build 400 16384 (ascii "pair\t1\t1\nstr\t61\ntype\t1\t0\t-\t1\t1\nnew\t20,3,5,32,14\t1\nval\t1\t0\t0\t1\t0\t2\n") ≡ refused 20) ×
    (build 400 16384 (ascii "pair\t1\t1\nstr\t61\ntype\t1\t0\t-\t1\t1\nnew\t20,3,5,32,14\t1\nval\t1\t1\t1\n") ≡ refused 20) ×
    (build 400 16384 (ascii "pair\t1\t1\nstr\t61\ntype\t1\t0\t-\t1\t1\nnew\t20,3,5,32,14\t1\nval\t1\t1\n") ≡ refused 20) ×
    (build 400 16384 (ascii "pair\t1\t1\nstr\t61\ntype\t1\t0\t-\t1\t1\nnew\t20,2,12,13\t1\nval\t1\t0123abcd\t0123456789abcdef\n") ≡ done (0x01 ∷ 0x00 ∷ 0x00 ∷ 0x00 ∷ 0x01 ∷ 0x61 ∷ 0x01 ∷ 0x01 ∷ 0x00 ∷ 0x01 ∷ 0x00 ∷ 0x01 ∷ 0x00 ∷ 0x14 ∷ 0x02 ∷ 0x0C ∷ 0x0D ∷ 0x01 ∷ 0x0D ∷ 0x01 ∷ 0x01 ∷ 0x23 ∷ 0xAB ∷ 0xCD ∷ 0x01 ∷ 0x23 ∷ 0x45 ∷ 0x67 ∷ 0x89 ∷ 0xAB ∷ 0xCD ∷ 0xEF ∷ [])) ×
    (build 400 16384 (ascii "pair\t1\t1\nstr\t61\ntype\t1\t0\t-\t1\t1\nnew\t20,2,12,13\t1\nval\t1\t0123abc\t0123456789abcdef\n") ≡ refused 20) ×
    (build 400 16384 (ascii "pair\t1\t1\nstr\t61\ntype\t1\t0\t-\t1\t1\nnew\t20,2,12,13\t1\nval\t1\t0123abcd\t0123456789abcdeF\n") ≡ refused 20) ×
    (build 400 16384 (ascii "pair\t1\t1\nstr\t61\ntype\t1\t0\t-\t1\t1\nnew\t20,2,11,5\t1\nval\t1\t-1\t1\t1\n") ≡ done (0x01 ∷ 0x00 ∷ 0x00 ∷ 0x00 ∷ 0x01 ∷ 0x61 ∷ 0x01 ∷ 0x01 ∷ 0x00 ∷ 0x01 ∷ 0x00 ∷ 0x01 ∷ 0x00 ∷ 0x14 ∷ 0x02 ∷ 0x0B ∷ 0x05 ∷ 0x01 ∷ 0x0C ∷ 0x01 ∷ 0xFF ∷ 0xFF ∷ 0xFF ∷ 0xFF ∷ 0xFF ∷ 0xFF ∷ 0xFF ∷ 0xFF ∷ 0xFF ∷ 0x01 ∷ 0x01 ∷ [])) ×
    (build 400 16384 (ascii "pair\t1\t1\nstr\t61\ntype\t1\t0\t-\t1\t1\nnew\t20,2,11,5\t1\nval\t1\t-1\t1\n") ≡ refused 20) ×
    (build 400 16384 (ascii "pair\t1\t1\nstr\t61\ntype\t1\t0\t-\t1\t1\nnew\t20,2,11,5\t1\nval\t1\t-1\t1\t0\n") ≡ refused 20) ×
    (build 400 16384 (ascii "pair\t1\t1\nstr\t61\ntype\t1\t0\t-\t1\t1\nnew\t20,2,11,5\t1\nval\t1\t-1\t0\t1\n") ≡ refused 20) ×
    (build 400 16384 (ascii "pair\t1\t1\nstr\t61\ntype\t1\t0\t-\t1\t1\nnew\t20,2,11,5\t1\nval\t1\t-1\t0\t0\t0\n") ≡ refused 20)
unfolding whole
maps-built = (refl, refl, refl, refl, refl, refl, refl, refl, refl, refl, refl, refl, refl, refl, refl, refl, refl, refl, refl, refl, refl, refl, refl, refl, refl, refl, refl, refl, refl, refl, refl, refl, refl, refl, refl, refl, refl, refl, refl, refl, refl, refl, refl, refl, refl, refl, refl, refl, refl, refl, refl, refl, refl, refl, refl, refl, refl, refl, refl, refl, refl, refl, refl, refl, refl, refl, refl, refl, refl, refl)

-- the number of types and as many element kinds, each with a value
map-kinds-built :
    (build 400 16384 (ascii "pair\t1\t1\nstr\t61\ntype\t1\t0\t-\t1\t1\nnew\t20,2,14,14\t1\nval\t0\n") ≡ done (0x01 ∷ 0x00 ∷ 0x00 ∷ 0x00 ∷ 0x01 ∷ 0x61 ∷ 0x01 ∷ 0x01 ∷ 0x00 ∷ 0x01 ∷ 0x00 ∷ 0x01 ∷ 0x00 ∷ 0x14 ∷ 0x02 ∷ 0x0E ∷ 0x0E ∷ 0x01 ∷ 0x01 ∷ 0x00 ∷ [])) ×
    (build 400 16384 (ascii "pair\t1\t1\nstr\t61\ntype\t1\t0\t-\t1\t1\nnew\t20,2,5,32\t1\nval\t0\n") ≡ done (0x01 ∷ 0x00 ∷ 0x00 ∷ 0x00 ∷ 0x01 ∷ 0x61 ∷ 0x01 ∷ 0x01 ∷ 0x00 ∷ 0x01 ∷ 0x00 ∷ 0x01 ∷ 0x00 ∷ 0x14 ∷ 0x02 ∷ 0x05 ∷ 0x20 ∷ 0x01 ∷ 0x01 ∷ 0x00 ∷ [])) ×
    (build 400 16384 (ascii "pair\t1\t1\nstr\t61\ntype\t1\t0\t-\t1\t1\nnew\t20,8,5,6,7,8,9,10,11,12\t1\nval\t0\n") ≡ done (0x01 ∷ 0x00 ∷ 0x00 ∷ 0x00 ∷ 0x01 ∷ 0x61 ∷ 0x01 ∷ 0x01 ∷ 0x00 ∷ 0x01 ∷ 0x00 ∷ 0x01 ∷ 0x00 ∷ 0x14 ∷ 0x08 ∷ 0x05 ∷ 0x06 ∷ 0x07 ∷ 0x08 ∷ 0x09 ∷ 0x0A ∷ 0x0B ∷ 0x0C ∷ 0x01 ∷ 0x01 ∷ 0x00 ∷ [])) ×
    (build 400 16384 (ascii "pair\t1\t1\nstr\t61\ntype\t1\t0\t-\t1\t1\nnew\t20,8,6,6,6,6,6,6,6\t1\nval\t0\n") ≡ refused 20) ×
    (build 400 16384 (ascii "pair\t1\t1\nstr\t61\ntype\t1\t0\t-\t1\t1\nnew\t20,9,6,6,6,6,6,6,6,6,6\t1\nval\t0\n") ≡ refused 20) ×
    (build 400 16384 (ascii "pair\t1\t1\nstr\t61\ntype\t1\t0\t-\t1\t1\nnew\t20,2\t1\nval\t0\n") ≡ refused 20) ×
    (build 400 16384 (ascii "pair\t1\t1\nstr\t61\ntype\t1\t0\t-\t1\t1\nnew\t20,2,\t1\nval\t0\n") ≡ refused 20) ×
    (build 400 16384 (ascii "pair\t1\t1\nstr\t61\ntype\t1\t0\t-\t1\t1\nnew\t20,2,14\t1\nval\t0\n") ≡ refused 20) ×
    (build 400 16384 (ascii "pair\t1\t1\nstr\t61\ntype\t1\t0\t-\t1\t1\nnew\t20,2,14,\t1\nval\t0\n") ≡ refused 20) ×
    (build 400 16384 (ascii "pair\t1\t1\nstr\t61\ntype\t1\t0\t-\t1\t1\nnew\t20,2,14,14,\t1\nval\t0\n") ≡ refused 20) ×
    (build 400 16384 (ascii "pair\t1\t1\nstr\t61\ntype\t1\t0\t-\t1\t1\nnew\t20,2,14,14,14\t1\nval\t0\n") ≡ refused 20) ×
    (build 400 16384 (ascii "pair\t1\t1\nstr\t61\ntype\t1\t0\t-\t1\t1\nnew\t20,2,,14\t1\nval\t0\n") ≡ refused 20) ×
    (build 400 16384 (ascii "pair\t1\t1\nstr\t61\ntype\t1\t0\t-\t1\t1\nnew\t20,14,14\t1\nval\t0\n") ≡ refused 20) ×
    (build 400 16384 (ascii "pair\t1\t1\nstr\t61\ntype\t1\t0\t-\t1\t1\nnew\t20,0\t1\nval\t0\n") ≡ refused 20) ×
    (build 400 16384 (ascii "pair\t1\t1\nstr\t61\ntype\t1\t0\t-\t1\t1\nnew\t20,1,14\t1\nval\t0\n") ≡ refused 20) ×
    (build 400 16384 (ascii "pair\t1\t1\nstr\t61\ntype\t1\t0\t-\t1\t1\nnew\t20,1,14,14\t1\nval\t0\n") ≡ refused 20) ×
    (build 400 16384 (ascii "pair\t1\t1\nstr\t61\ntype\t1\t0\t-\t1\t1\nnew\t20,3,14,14\t1\nval\t0\n") ≡ refused 20) ×
    (build 400 16384 (ascii "pair\t1\t1\nstr\t61\ntype\t1\t0\t-\t1\t1\nnew\t20,02,14,14\t1\nval\t0\n") ≡ refused 20) ×
    (build 400 16384 (ascii "pair\t1\t1\nstr\t61\ntype\t1\t0\t-\t1\t1\nnew\t20,2,014,14\t1\nval\t0\n") ≡ refused 20) ×
    (build 400 16384 (ascii "pair\t1\t1\nstr\t61\ntype\t1\t0\t-\t1\t1\nnew\t20,-2,14,14\t1\nval\t0\n") ≡ refused 20) ×
    (build 400 16384 (ascii "pair\t1\t1\nstr\t61\ntype\t1\t0\t-\t1\t1\nnew\t20,2,4,14\t1\nval\t0\n") ≡ refused 20) ×
    (build 400 16384 (ascii "pair\t1\t1\nstr\t61\ntype\t1\t0\t-\t1\t1\nnew\t20,2,14,15\t1\nval\t0\n") ≡ refused 20) ×
    (build 400 16384 (ascii "pair\t1\t1\nstr\t61\ntype\t1\t0\t-\t1\t1\nnew\t20,2,16,14\t1\nval\t0\n") ≡ refused 20) ×
    (build 400 16384 (ascii "pair\t1\t1\nstr\t61\ntype\t1\t0\t-\t1\t1\nnew\t20,2,14,17\t1\nval\t0\n") ≡ refused 20) ×
    (build 400 16384 (ascii "pair\t1\t1\nstr\t61\ntype\t1\t0\t-\t1\t1\nnew\t20,2,20,14\t1\nval\t0\n") ≡ refused 20) ×
    (build 400 16384 (ascii "pair\t1\t1\nstr\t61\ntype\t1\t0\t-\t1\t1\nnew\t20,2,14,21\t1\nval\t0\n") ≡ refused 20) ×
    (build 400 16384 (ascii "pair\t1\t1\nstr\t61\ntype\t1\t0\t-\t1\t1\nnew\t20,2,31,14\t1\nval\t0\n") ≡ refused 20) ×
    (build 400 16384 (ascii "pair\t1\t1\nstr\t61\ntype\t1\t0\t-\t1\t1\nnew\t20,2,14,33\t1\nval\t0\n") ≡ refused 20) ×
    (build 400 16384 (ascii "pair\t1\t1\nstr\t61\ntype\t1\t0\t-\t1\t1\nnew\t20,2,33,14\t1\nval\t0\n") ≡ refused 20) ×
    (build 400 16384 (ascii "pair\t1\t1\nstr\t61\ntype\t1\t0\t-\t1\t1\nnew\t20,2,14,18446744073709551615\t1\nval\t0\n") ≡ refused 20) ×
    (build 400 16384 (ascii "pair\t1\t1\nstr\t61\ntype\t1\t0\t-\t1\t1\nnew\t20,2,14,18446744073709551630\t1\nval\t0\n") ≡ refused 20) ×
    (build 400 16384 (ascii "pair\t1\t1\nstr\t61\ntype\t1\t0\t-\t1\t1\nnew\t20,18446744073709551618,14,14\t1\nval\t0\n") ≡ refused 20) ×
    (build 400 16384 (ascii "pair\t1\t1\nstr\t61\ntype\t1\t0\t-\t1\t1\nnew\t17,20\t1\nval\t0\n") ≡ refused 20) ×
    (build 400 16384 (ascii "pair\t1\t1\nstr\t61\ntype\t1\t0\t-\t1\t1\nnew\t15,0,20\t1\nval\t0\n") ≡ refused 20) ×
    (build 400 16384 (ascii "pair\t1\t1\nstr\t61\ntype\t1\t0\t-\t1\t1\nnew\t20,2,14,14\t1\nval\n") ≡ refused 20)
unfolding whole
map-kinds-built = (refl, refl, refl, refl, refl, refl, refl, refl, refl, refl, refl, refl, refl, refl, refl, refl, refl, refl, refl, refl, refl, refl, refl, refl, refl, refl, refl, refl, refl, refl, refl, refl, refl, refl, refl)

-- a size of more than a byte
map-of-130-built :
    (build 400 16384 ((ascii "pair\t1\t1\nstr\t61\ntype\t1\t0\t-\t1\t1\nnew\t20,2,7,6\t1\nval\t130") ++ (again 130 (ascii "\t5\t0")) ++ (ascii "\n")) ≡ done (0x01 ∷ 0x00 ∷ 0x00 ∷ 0x00 ∷ 0x01 ∷ 0x61 ∷ 0x01 ∷ 0x01 ∷ 0x00 ∷ 0x01 ∷ 0x00 ∷ 0x01 ∷ 0x00 ∷ 0x14 ∷ 0x02 ∷ 0x07 ∷ 0x06 ∷ 0x01 ∷ 0x86 ∷ 0x02 ∷ 0x82 ∷ 0x01 ∷ 0x05 ∷ 0x00 ∷ 0x05 ∷ 0x00 ∷ 0x05 ∷ 0x00 ∷ 0x05 ∷ 0x00 ∷ 0x05 ∷ 0x00 ∷ 0x05 ∷ 0x00 ∷ 0x05 ∷ 0x00 ∷ 0x05 ∷ 0x00 ∷ 0x05 ∷ 0x00 ∷ 0x05 ∷ 0x00 ∷ 0x05 ∷ 0x00 ∷ 0x05 ∷ 0x00 ∷ 0x05 ∷ 0x00 ∷ 0x05 ∷ 0x00 ∷ 0x05 ∷ 0x00 ∷ 0x05 ∷ 0x00 ∷ 0x05 ∷ 0x00 ∷ 0x05 ∷ 0x00 ∷ 0x05 ∷ 0x00 ∷ 0x05 ∷ 0x00 ∷ 0x05 ∷ 0x00 ∷ 0x05 ∷ 0x00 ∷ 0x05 ∷ 0x00 ∷ 0x05 ∷ 0x00 ∷ 0x05 ∷ 0x00 ∷ 0x05 ∷ 0x00 ∷ 0x05 ∷ 0x00 ∷ 0x05 ∷ 0x00 ∷ 0x05 ∷ 0x00 ∷ 0x05 ∷ 0x00 ∷ 0x05 ∷ 0x00 ∷ 0x05 ∷ 0x00 ∷ 0x05 ∷ 0x00 ∷ 0x05 ∷ 0x00 ∷ 0x05 ∷ 0x00 ∷ 0x05 ∷ 0x00 ∷ 0x05 ∷ 0x00 ∷ 0x05 ∷ 0x00 ∷ 0x05 ∷ 0x00 ∷ 0x05 ∷ 0x00 ∷ 0x05 ∷ 0x00 ∷ 0x05 ∷ 0x00 ∷ 0x05 ∷ 0x00 ∷ 0x05 ∷ 0x00 ∷ 0x05 ∷ 0x00 ∷ 0x05 ∷ 0x00 ∷ 0x05 ∷ 0x00 ∷ 0x05 ∷ 0x00 ∷ 0x05 ∷ 0x00 ∷ 0x05 ∷ 0x00 ∷ 0x05 ∷ 0x00 ∷ 0x05 ∷ 0x00 ∷ 0x05 ∷ 0x00 ∷ 0x05 ∷ 0x00 ∷ 0x05 ∷ 0x00 ∷ 0x05 ∷ 0x00 ∷ 0x05 ∷ 0x00 ∷ 0x05 ∷ 0x00 ∷ 0x05 ∷ 0x00 ∷ 0x05 ∷ 0x00 ∷ 0x05 ∷ 0x00 ∷ 0x05 ∷ 0x00 ∷ 0x05 ∷ 0x00 ∷ 0x05 ∷ 0x00 ∷ 0x05 ∷ 0x00 ∷ 0x05 ∷ 0x00 ∷ 0x05 ∷ 0x00 ∷ 0x05 ∷ 0x00 ∷ 0x05 ∷ 0x00 ∷ 0x05 ∷ 0x00 ∷ 0x05 ∷ 0x00 ∷ 0x05 ∷ 0x00 ∷ 0x05 ∷ 0x00 ∷ 0x05 ∷ 0x00 ∷ 0x05 ∷ 0x00 ∷ 0x05 ∷ 0x00 ∷ 0x05 ∷ 0x00 ∷ 0x05 ∷ 0x00 ∷ 0x05 ∷ 0x00 ∷ 0x05 ∷ 0x00 ∷ 0x05 ∷ 0x00 ∷ 0x05 ∷ 0x00 ∷ 0x05 ∷ 0x00 ∷ 0x05 ∷ 0x00 ∷ 0x05 ∷ 0x00 ∷ 0x05 ∷ 0x00 ∷ 0x05 ∷ 0x00 ∷ 0x05 ∷ 0x00 ∷ 0x05 ∷ 0x00 ∷ 0x05 ∷ 0x00 ∷ 0x05 ∷ 0x00 ∷ 0x05 ∷ 0x00 ∷ 0x05 ∷ 0x00 ∷ 0x05 ∷ 0x00 ∷ 0x05 ∷ 0x00 ∷ 0x05 ∷ 0x00 ∷ 0x05 ∷ 0x00 ∷ 0x05 ∷ 0x00 ∷ 0x05 ∷ 0x00 ∷ 0x05 ∷ 0x00 ∷ 0x05 ∷ 0x00 ∷ 0x05 ∷ 0x00 ∷ 0x05 ∷ 0x00 ∷ 0x05 ∷ 0x00 ∷ 0x05 ∷ 0x00 ∷ 0x05 ∷ 0x00 ∷ 0x05 ∷ 0x00 ∷ 0x05 ∷ 0x00 ∷ 0x05 ∷ 0x00 ∷ 0x05 ∷ 0x00 ∷ 0x05 ∷ 0x00 ∷ 0x05 ∷ 0x00 ∷ 0x05 ∷ 0x00 ∷ 0x05 ∷ 0x00 ∷ 0x05 ∷ 0x00 ∷ 0x05 ∷ 0x00 ∷ 0x05 ∷ 0x00 ∷ 0x05 ∷ 0x00 ∷ 0x05 ∷ 0x00 ∷ 0x05 ∷ 0x00 ∷ 0x05 ∷ 0x00 ∷ 0x05 ∷ 0x00 ∷ 0x05 ∷ 0x00 ∷ 0x05 ∷ 0x00 ∷ 0x05 ∷ 0x00 ∷ 0x05 ∷ 0x00 ∷ 0x05 ∷ 0x00 ∷ 0x05 ∷ 0x00 ∷ 0x05 ∷ 0x00 ∷ 0x05 ∷ 0x00 ∷ []))
unfolding whole
map-of-130-built = refl

-- names, super types, starts and counts
heads-built :
    (build 400 16384 (ascii "pair\t1\t1\nstr\t61\ntype\t1\t0\t-\t0\t0\n") ≡ done (0x01 ∷ 0x00 ∷ 0x00 ∷ 0x00 ∷ 0x01 ∷ 0x61 ∷ 0x01 ∷ 0x01 ∷ 0x00 ∷ 0x00 ∷ 0x00 ∷ 0x00 ∷ [])) ×
    (build 400 16384 (ascii "pair\t1\t1\nstr\t61\ntype\t0\t0\t-\t0\t0\n") ≡ refused 20) ×
    (build 400 16384 (ascii "pair\t1\t1\nstr\t61\ntype\t2\t0\t-\t0\t0\n") ≡ refused 20) ×
    (build 400 16384 (ascii "pair\t1\t1\nstr\t61\ntype\t-\t0\t-\t0\t0\n") ≡ refused 20) ×
    (build 400 16384 (ascii "pair\t1\t1\nstr\t61\ntype\t1\t-\t-\t0\t0\n") ≡ refused 20) ×
    (build 400 16384 (ascii "pair\t1\t1\nstr\t61\ntype\t1\t1\t-\t0\t0\n") ≡ refused 20) ×
    (build 400 16384 (ascii "pair\t1\t1\nstr\t61\ntype\t1\t1\t0\t0\t0\n") ≡ refused 20) ×
    (build 400 16384 (ascii "pair\t1\t1\nstr\t61\ntype\t1\t2\t0\t0\t0\n") ≡ refused 20) ×
    (build 400 16384 (ascii "pair\t1\t1\nstr\t61\ntype\t1\t0\t0\t0\t0\n") ≡ refused 20) ×
    (build 400 16384 (ascii "pair\t1\t1\nstr\t61\ntype\t1\t0\t-\t-\t0\n") ≡ refused 20) ×
    (build 400 16384 (ascii "pair\t1\t1\nstr\t61\ntype\t1\t0\t-\t0\t-\n") ≡ refused 20) ×
    (build 400 16384 (ascii "pair\t1\t1\nstr\t61\ntype\t1\t0\t-\t0\t0\t0\n") ≡ refused 20) ×
    (build 400 16384 (ascii "pair\t1\t1\nstr\t61\ntype\t1\t0\t-\t0\n") ≡ refused 20) ×
    (build 400 16384 (ascii "pair\t1\t1\nstr\t61\ntype\t1\t0\t-\t65535\t0\n") ≡ done (0x01 ∷ 0x00 ∷ 0x00 ∷ 0x00 ∷ 0x01 ∷ 0x61 ∷ 0x01 ∷ 0x01 ∷ 0x00 ∷ 0xFF ∷ 0xFF ∷ 0x03 ∷ 0x00 ∷ 0x00 ∷ [])) ×
    (build 400 16384 (ascii "pair\t1\t1\nstr\t61\ntype\t1\t0\t-\t65536\t0\n") ≡ refused 20) ×
    (build 400 16384 (ascii "pair\t1\t1\nstr\t61\ntype\t1\t0\t-\t18446744073709551616\t0\n") ≡ refused 20) ×
    (build 400 16384 (ascii "pair\t2\t2\nstr\t61\nstr\t62\ntype\t1\t0\t-\t65534\t0\ntype\t2\t0\t-\t1\t0\n") ≡ done (0x02 ∷ 0x00 ∷ 0x00 ∷ 0x00 ∷ 0x01 ∷ 0x00 ∷ 0x00 ∷ 0x00 ∷ 0x02 ∷ 0x61 ∷ 0x62 ∷ 0x02 ∷ 0x01 ∷ 0x00 ∷ 0xFE ∷ 0xFF ∷ 0x03 ∷ 0x00 ∷ 0x00 ∷ 0x02 ∷ 0x00 ∷ 0x01 ∷ 0x00 ∷ 0x00 ∷ [])) ×
    (build 400 16384 (ascii "pair\t2\t2\nstr\t61\nstr\t62\ntype\t1\t0\t-\t65535\t0\ntype\t2\t0\t-\t1\t0\n") ≡ refused 20) ×
    (build 400 16384 (ascii "pair\t1\t1\nstr\t61\ntype\t1\t0\t-\t65535\t0\npair\t0\t1\ntype\t1\t-\t-\t1\t0\n") ≡ refused 20) ×
    (build 400 16384 (ascii "pair\t2\t1\nstr\t61\nstr\t62\ntype\t1\t2\t0\t0\t0\n") ≡ refused 20) ×
    (build 400 16384 (ascii "pair\t2\t2\nstr\t61\nstr\t62\ntype\t1\t0\t-\t2\t0\ntype\t2\t1\t1\t1\t0\n") ≡ done (0x02 ∷ 0x00 ∷ 0x00 ∷ 0x00 ∷ 0x01 ∷ 0x00 ∷ 0x00 ∷ 0x00 ∷ 0x02 ∷ 0x61 ∷ 0x62 ∷ 0x02 ∷ 0x01 ∷ 0x00 ∷ 0x02 ∷ 0x00 ∷ 0x00 ∷ 0x02 ∷ 0x01 ∷ 0x01 ∷ 0x01 ∷ 0x00 ∷ 0x00 ∷ [])) ×
    (build 400 16384 (ascii "pair\t2\t2\nstr\t61\nstr\t62\ntype\t1\t0\t-\t2\t0\ntype\t2\t1\t1\t2\t0\n") ≡ refused 20) ×
    (build 400 16384 (ascii "pair\t2\t2\nstr\t61\nstr\t62\ntype\t1\t0\t-\t2\t0\ntype\t2\t1\t-\t1\t0\n") ≡ refused 20) ×
    (build 400 16384 (ascii "pair\t2\t2\nstr\t61\nstr\t62\ntype\t1\t0\t-\t2\t0\ntype\t2\t1\t0\t0\t0\n") ≡ done (0x02 ∷ 0x00 ∷ 0x00 ∷ 0x00 ∷ 0x01 ∷ 0x00 ∷ 0x00 ∷ 0x00 ∷ 0x02 ∷ 0x61 ∷ 0x62 ∷ 0x02 ∷ 0x01 ∷ 0x00 ∷ 0x02 ∷ 0x00 ∷ 0x00 ∷ 0x02 ∷ 0x01 ∷ 0x00 ∷ 0x00 ∷ 0x00 ∷ 0x00 ∷ [])) ×
    (build 400 16384 (ascii "pair\t2\t2\nstr\t61\nstr\t62\ntype\t1\t0\t-\t2\t0\ntype\t2\t1\t-\t0\t0\n") ≡ refused 20) ×
    (build 400 16384 (ascii "pair\t2\t2\nstr\t61\nstr\t62\ntype\t1\t0\t-\t2\t0\ntype\t2\t1\t1\t0\t0\n") ≡ refused 20) ×
    (build 400 16384 (ascii "pair\t2\t2\nstr\t61\nstr\t62\ntype\t1\t0\t-\t2\t0\ntype\t2\t-\t0\t1\t0\n") ≡ refused 20) ×
    (build 400 16384 (ascii "pair\t2\t2\nstr\t61\nstr\t62\ntype\t1\t0\t-\t65535\t0\ntype\t2\t1\t65535\t0\t0\n") ≡ refused 20) ×
    (build 400 16384 (ascii "pair\t2\t2\nstr\t61\nstr\t62\ntype\t1\t0\t-\t65535\t0\ntype\t2\t1\t65534\t1\t0\n") ≡ done (0x02 ∷ 0x00 ∷ 0x00 ∷ 0x00 ∷ 0x01 ∷ 0x00 ∷ 0x00 ∷ 0x00 ∷ 0x02 ∷ 0x61 ∷ 0x62 ∷ 0x02 ∷ 0x01 ∷ 0x00 ∷ 0xFF ∷ 0xFF ∷ 0x03 ∷ 0x00 ∷ 0x00 ∷ 0x02 ∷ 0x01 ∷ 0xFE ∷ 0xFF ∷ 0x03 ∷ 0x01 ∷ 0x00 ∷ 0x00 ∷ [])) ×
    (build 400 16384 (ascii "pair\t2\t2\nstr\t61\nstr\t62\ntype\t1\t0\t-\t65535\t0\ntype\t2\t1\t65536\t0\t0\n") ≡ refused 20) ×
    (build 400 16384 (ascii "pair\t2\t2\nstr\t61\nstr\t62\ntype\t1\t0\t-\t1\t0\ntype\t1\t-\t-\t1\t0\n") ≡ refused 20) ×
    (build 400 16384 (ascii "pair\t2\t2\nstr\t61\nstr\t61\ntype\t1\t0\t-\t1\t0\ntype\t2\t-\t-\t1\t0\n") ≡ refused 20) ×
    (build 400 16384 (ascii "pair\t2\t2\nstr\t61\nstr\t61\ntype\t1\t0\t-\t1\t0\ntype\t2\t0\t-\t1\t0\n") ≡ refused 20) ×
    (build 400 16384 (ascii "pair\t1\t1\nstr\t61\ntype\t1\t0\t-\t1\t0\npair\t1\t1\nstr\t61\ntype\t2\t-\t-\t1\t0\n") ≡ done (0x01 ∷ 0x00 ∷ 0x00 ∷ 0x00 ∷ 0x01 ∷ 0x61 ∷ 0x01 ∷ 0x01 ∷ 0x00 ∷ 0x01 ∷ 0x00 ∷ 0x00 ∷ 0x01 ∷ 0x00 ∷ 0x00 ∷ 0x00 ∷ 0x01 ∷ 0x61 ∷ 0x01 ∷ 0x02 ∷ 0x01 ∷ 0x00 ∷ [])) ×
    (build 400 16384 (ascii "pair\t1\t1\nstr\t61\ntype\t1\t0\t-\t1\t0\npair\t1\t1\nstr\t61\ntype\t2\t0\t-\t1\t0\n") ≡ refused 20) ×
    (build 400 16384 (ascii "pair\t1\t1\nstr\t61\ntype\t1\t0\t-\t1\t0\npair\t0\t1\ntype\t1\t0\t-\t1\t0\n") ≡ refused 20) ×
    (build 400 16384 (ascii "pair\t1\t1\nstr\t61\ntype\t1\t0\t-\t1\t0\npair\t0\t1\ntype\t1\t-\t0\t1\t0\n") ≡ refused 20) ×
    (build 400 16384 (ascii "pair\t1\t1\nstr\t61\ntype\t1\t0\t-\t1\t0\npair\t0\t1\ntype\t1\t-\t-\t1\t0\n") ≡ done (0x01 ∷ 0x00 ∷ 0x00 ∷ 0x00 ∷ 0x01 ∷ 0x61 ∷ 0x01 ∷ 0x01 ∷ 0x00 ∷ 0x01 ∷ 0x00 ∷ 0x00 ∷ 0x00 ∷ 0x01 ∷ 0x01 ∷ 0x01 ∷ 0x00 ∷ [])) ×
    (build 400 16384 (ascii "pair\t2\t2\nstr\t61\nstr\t62\ntype\t1\t0\t-\t1\t0\ntype\t2\t1\t0\t1\t0\npair\t0\t1\ntype\t2\t-\t0\t0\t0\n") ≡ done (0x02 ∷ 0x00 ∷ 0x00 ∷ 0x00 ∷ 0x01 ∷ 0x00 ∷ 0x00 ∷ 0x00 ∷ 0x02 ∷ 0x61 ∷ 0x62 ∷ 0x02 ∷ 0x01 ∷ 0x00 ∷ 0x01 ∷ 0x00 ∷ 0x00 ∷ 0x02 ∷ 0x01 ∷ 0x00 ∷ 0x01 ∷ 0x00 ∷ 0x00 ∷ 0x00 ∷ 0x01 ∷ 0x02 ∷ 0x00 ∷ 0x00 ∷ 0x00 ∷ [])) ×
    (build 400 16384 (ascii "pair\t2\t2\nstr\t61\nstr\t62\ntype\t1\t0\t-\t1\t0\ntype\t2\t1\t0\t1\t0\npair\t0\t1\ntype\t2\t-\t-\t0\t0\n") ≡ refused 20) ×
    (build 400 16384 (ascii "pair\t2\t2\nstr\t61\nstr\t62\ntype\t1\t0\t-\t1\t0\ntype\t2\t1\t0\t1\t0\npair\t0\t1\ntype\t2\t-\t0\t1\t0\n") ≡ refused 20) ×
    (build 400 16384 (ascii "pair\t2\t2\nstr\t61\nstr\t62\ntype\t1\t0\t-\t1\t0\ntype\t2\t1\t0\t1\t0\npair\t0\t2\ntype\t1\t-\t-\t1\t0\ntype\t2\t1\t0\t1\t0\n") ≡ refused 20) ×
    (build 400 16384 (ascii "pair\t3\t3\nstr\t61\nstr\t62\nstr\t63\ntype\t1\t0\t-\t3\t0\ntype\t2\t1\t0\t2\t0\ntype\t3\t1\t2\t1\t0\n") ≡ done (0x03 ∷ 0x00 ∷ 0x00 ∷ 0x00 ∷ 0x01 ∷ 0x00 ∷ 0x00 ∷ 0x00 ∷ 0x02 ∷ 0x00 ∷ 0x00 ∷ 0x00 ∷ 0x03 ∷ 0x61 ∷ 0x62 ∷ 0x63 ∷ 0x03 ∷ 0x01 ∷ 0x00 ∷ 0x03 ∷ 0x00 ∷ 0x00 ∷ 0x02 ∷ 0x01 ∷ 0x00 ∷ 0x02 ∷ 0x00 ∷ 0x00 ∷ 0x03 ∷ 0x01 ∷ 0x02 ∷ 0x01 ∷ 0x00 ∷ 0x00 ∷ [])) ×
    (build 400 16384 (ascii "pair\t3\t3\nstr\t61\nstr\t62\nstr\t63\ntype\t1\t0\t-\t3\t0\ntype\t2\t1\t0\t2\t0\ntype\t3\t1\t1\t1\t0\n") ≡ refused 20)
unfolding whole
heads-built = (refl, refl, refl, refl, refl, refl, refl, refl, refl, refl, refl, refl, refl, refl, refl, refl, refl, refl, refl, refl, refl, refl, refl, refl, refl, refl, refl, refl, refl, refl, refl, refl, refl, refl, refl, refl, refl, refl, refl, refl, refl, refl, refl, refl)

-- numbers of fields, known and new ones, their names
fields-built :
    (build 400 16384 (ascii "pair\t1\t1\nstr\t61\ntype\t1\t0\t-\t0\t1\nnew\t7\t1\n") ≡ done (0x01 ∷ 0x00 ∷ 0x00 ∷ 0x00 ∷ 0x01 ∷ 0x61 ∷ 0x01 ∷ 0x01 ∷ 0x00 ∷ 0x00 ∷ 0x00 ∷ 0x01 ∷ 0x00 ∷ 0x07 ∷ 0x01 ∷ 0x00 ∷ [])) ×
    (build 400 16384 (ascii "pair\t1\t1\nstr\t61\ntype\t1\t0\t-\t0\t1\nnew\t7\t0\n") ≡ refused 20) ×
    (build 400 16384 (ascii "pair\t1\t1\nstr\t61\ntype\t1\t0\t-\t0\t1\nnew\t7\t2\n") ≡ refused 20) ×
    (build 400 16384 (ascii "pair\t1\t1\nstr\t61\ntype\t1\t0\t-\t0\t1\nnew\t7\t-\n") ≡ refused 20) ×
    (build 400 16384 (ascii "pair\t1\t1\nstr\t61\ntype\t1\t0\t-\t0\t0\nnew\t7\t1\n") ≡ refused 20) ×
    (build 400 16384 (ascii "pair\t1\t1\nstr\t61\ntype\t1\t0\t-\t0\t2\nnew\t7\t1\n") ≡ refused 20) ×
    (build 400 16384 (ascii "pair\t1\t1\nstr\t61\ntype\t1\t0\t-\t0\t1\nold\n") ≡ refused 20) ×
    (build 400 16384 (ascii "pair\t1\t1\nstr\t61\ntype\t1\t0\t-\t0\t129\nnew\t7\t1\n") ≡ refused 20) ×
    (build 400 16384 (ascii "pair\t2\t1\nstr\t61\nstr\t62\ntype\t1\t0\t-\t0\t2\nnew\t7\t1\nnew\t7\t2\n") ≡ done (0x02 ∷ 0x00 ∷ 0x00 ∷ 0x00 ∷ 0x01 ∷ 0x00 ∷ 0x00 ∷ 0x00 ∷ 0x02 ∷ 0x61 ∷ 0x62 ∷ 0x01 ∷ 0x01 ∷ 0x00 ∷ 0x00 ∷ 0x00 ∷ 0x02 ∷ 0x00 ∷ 0x07 ∷ 0x01 ∷ 0x00 ∷ 0x00 ∷ 0x07 ∷ 0x02 ∷ 0x00 ∷ [])) ×
    (build 400 16384 (ascii "pair\t2\t1\nstr\t61\nstr\t62\ntype\t1\t0\t-\t0\t2\nnew\t7\t1\nnew\t8\t1\n") ≡ refused 20) ×
    (build 400 16384 (ascii "pair\t2\t1\nstr\t61\nstr\t61\ntype\t1\t0\t-\t0\t2\nnew\t7\t1\nnew\t8\t2\n") ≡ refused 20) ×
    (build 400 16384 (ascii "pair\t2\t2\nstr\t61\nstr\t62\ntype\t1\t0\t-\t0\t1\nnew\t7\t1\ntype\t2\t0\t-\t0\t1\nnew\t7\t1\n") ≡ done (0x02 ∷ 0x00 ∷ 0x00 ∷ 0x00 ∷ 0x01 ∷ 0x00 ∷ 0x00 ∷ 0x00 ∷ 0x02 ∷ 0x61 ∷ 0x62 ∷ 0x02 ∷ 0x01 ∷ 0x00 ∷ 0x00 ∷ 0x00 ∷ 0x01 ∷ 0x00 ∷ 0x07 ∷ 0x01 ∷ 0x00 ∷ 0x02 ∷ 0x00 ∷ 0x00 ∷ 0x00 ∷ 0x01 ∷ 0x00 ∷ 0x07 ∷ 0x01 ∷ 0x00 ∷ [])) ×
    (build 400 16384 (ascii "pair\t2\t2\nstr\t61\nstr\t62\ntype\t1\t0\t-\t0\t1\nnew\t7\t1\ntype\t2\t1\t0\t0\t1\nnew\t7\t1\n") ≡ done (0x02 ∷ 0x00 ∷ 0x00 ∷ 0x00 ∷ 0x01 ∷ 0x00 ∷ 0x00 ∷ 0x00 ∷ 0x02 ∷ 0x61 ∷ 0x62 ∷ 0x02 ∷ 0x01 ∷ 0x00 ∷ 0x00 ∷ 0x00 ∷ 0x01 ∷ 0x00 ∷ 0x07 ∷ 0x01 ∷ 0x00 ∷ 0x02 ∷ 0x01 ∷ 0x00 ∷ 0x00 ∷ 0x00 ∷ 0x01 ∷ 0x00 ∷ 0x07 ∷ 0x01 ∷ 0x00 ∷ [])) ×
    (build 400 16384 (ascii "pair\t2\t1\nstr\t61\nstr\t62\ntype\t1\t0\t-\t0\t1\nnew\t7\t1\npair\t0\t1\ntype\t1\t-\t-\t0\t1\nnew\t7\t1\n") ≡ refused 20) ×
    (build 400 16384 (ascii "pair\t2\t1\nstr\t61\nstr\t62\ntype\t1\t0\t-\t0\t1\nnew\t7\t1\npair\t0\t1\ntype\t1\t-\t-\t0\t1\nnew\t7\t2\n") ≡ done (0x02 ∷ 0x00 ∷ 0x00 ∷ 0x00 ∷ 0x01 ∷ 0x00 ∷ 0x00 ∷ 0x00 ∷ 0x02 ∷ 0x61 ∷ 0x62 ∷ 0x01 ∷ 0x01 ∷ 0x00 ∷ 0x00 ∷ 0x00 ∷ 0x01 ∷ 0x00 ∷ 0x07 ∷ 0x01 ∷ 0x00 ∷ 0x00 ∷ 0x01 ∷ 0x01 ∷ 0x00 ∷ 0x01 ∷ 0x00 ∷ 0x07 ∷ 0x02 ∷ 0x00 ∷ [])) ×
    (build 400 16384 (ascii "pair\t2\t1\nstr\t61\nstr\t62\ntype\t1\t0\t-\t0\t1\nnew\t7\t1\npair\t0\t1\ntype\t1\t-\t-\t0\t1\nold\n") ≡ refused 20) ×
    (build 400 16384 (ascii "pair\t2\t1\nstr\t61\nstr\t62\ntype\t1\t0\t-\t0\t1\nnew\t7\t1\npair\t0\t1\ntype\t1\t-\t-\t1\t1\nold\nval\t5\n") ≡ done (0x02 ∷ 0x00 ∷ 0x00 ∷ 0x00 ∷ 0x01 ∷ 0x00 ∷ 0x00 ∷ 0x00 ∷ 0x02 ∷ 0x61 ∷ 0x62 ∷ 0x01 ∷ 0x01 ∷ 0x00 ∷ 0x00 ∷ 0x00 ∷ 0x01 ∷ 0x00 ∷ 0x07 ∷ 0x01 ∷ 0x00 ∷ 0x00 ∷ 0x01 ∷ 0x01 ∷ 0x01 ∷ 0x01 ∷ 0x01 ∷ 0x05 ∷ [])) ×
    (build 400 16384 (ascii "pair\t2\t1\nstr\t61\nstr\t62\ntype\t1\t0\t-\t0\t1\nnew\t7\t1\npair\t0\t1\ntype\t1\t-\t-\t1\t0\nold\nval\t5\n") ≡ refused 20) ×
    (build 400 16384 (ascii "pair\t2\t1\nstr\t61\nstr\t62\ntype\t1\t0\t-\t0\t1\nnew\t7\t1\npair\t0\t1\ntype\t1\t-\t-\t1\t0\nval\t5\n") ≡ refused 20) ×
    (build 400 16384 (ascii "pair\t2\t1\nstr\t61\nstr\t62\ntype\t1\t0\t-\t0\t1\nnew\t7\t1\npair\t0\t1\ntype\t1\t-\t-\t1\t0\n") ≡ refused 20) ×
    (build 400 16384 (ascii "pair\t2\t1\nstr\t61\nstr\t62\ntype\t1\t0\t-\t0\t1\nnew\t7\t1\npair\t0\t1\ntype\t1\t-\t-\t1\t1\nnew\t7\t2\nval\t5\n") ≡ refused 20) ×
    (build 400 16384 (ascii "pair\t2\t1\nstr\t61\nstr\t62\ntype\t1\t0\t-\t0\t1\nnew\t7\t1\npair\t0\t1\ntype\t1\t-\t-\t1\t2\nold\nnew\t7\t2\nval\t5\nval\t6\n") ≡ done (0x02 ∷ 0x00 ∷ 0x00 ∷ 0x00 ∷ 0x01 ∷ 0x00 ∷ 0x00 ∷ 0x00 ∷ 0x02 ∷ 0x61 ∷ 0x62 ∷ 0x01 ∷ 0x01 ∷ 0x00 ∷ 0x00 ∷ 0x00 ∷ 0x01 ∷ 0x00 ∷ 0x07 ∷ 0x01 ∷ 0x00 ∷ 0x00 ∷ 0x01 ∷ 0x01 ∷ 0x01 ∷ 0x02 ∷ 0x01 ∷ 0x00 ∷ 0x07 ∷ 0x02 ∷ 0x02 ∷ 0x05 ∷ 0x06 ∷ [])) ×
    (build 400 16384 (ascii "pair\t2\t1\nstr\t61\nstr\t62\ntype\t1\t0\t-\t0\t1\nnew\t7\t1\npair\t0\t1\ntype\t1\t-\t-\t1\t2\nnew\t7\t2\nold\nval\t5\nval\t6\n") ≡ refused 20) ×
    (build 400 16384 (ascii "pair\t2\t1\nstr\t61\nstr\t62\ntype\t1\t0\t-\t0\t1\nnew\t7\t1\npair\t0\t1\ntype\t1\t-\t-\t1\t2\nold\nnew\t7\t1\nval\t5\nval\t6\n") ≡ refused 20) ×
    (build 400 16384 (ascii "pair\t2\t1\nstr\t61\nstr\t62\ntype\t1\t0\t-\t0\t1\nnew\t7\t1\npair\t0\t1\ntype\t1\t-\t-\t1\t2\nold\nold\nval\t5\nval\t6\n") ≡ refused 20) ×
    (build 400 16384 (ascii "pair\t2\t1\nstr\t61\nstr\t62\ntype\t1\t0\t-\t0\t1\nnew\t7\t1\npair\t0\t1\ntype\t1\t-\t-\t1\t1\nold\nnew\t7\t2\nval\t5\nval\t6\n") ≡ refused 20)
unfolding whole
fields-built = (refl, refl, refl, refl, refl, refl, refl, refl, refl, refl, refl, refl, refl, refl, refl, refl, refl, refl, refl, refl, refl, refl, refl, refl, refl, refl)

-- fewer lines, more lines, other lines
lines-built :
    (build 400 16384 (ascii "pair\t1\t1\nstr\t61\ntype\t1\t0\t-\t2\t1\nnew\t7\t1\nval\t5\nval\t6\n") ≡ done (0x01 ∷ 0x00 ∷ 0x00 ∷ 0x00 ∷ 0x01 ∷ 0x61 ∷ 0x01 ∷ 0x01 ∷ 0x00 ∷ 0x02 ∷ 0x00 ∷ 0x01 ∷ 0x00 ∷ 0x07 ∷ 0x01 ∷ 0x02 ∷ 0x05 ∷ 0x06 ∷ [])) ×
    (build 400 16384 (ascii "pair\t1\t1\nstr\t61\ntype\t1\t0\t-\t2\t1\nnew\t7\t1\nval\t5\n") ≡ refused 20) ×
    (build 400 16384 (ascii "pair\t1\t1\nstr\t61\ntype\t1\t0\t-\t2\t1\nnew\t7\t1\nval\t5\nval\t6\nval\t7\n") ≡ refused 20) ×
    (build 400 16384 (ascii "pair\t1\t1\nstr\t61\ntype\t1\t0\t-\t2\t1\nnew\t7\t1\n") ≡ refused 20) ×
    (build 400 16384 (ascii "pair\t0\t1\nstr\t61\ntype\t1\t0\t-\t2\t1\nnew\t7\t1\nval\t5\nval\t6\n") ≡ refused 20) ×
    (build 400 16384 (ascii "pair\t2\t1\nstr\t61\ntype\t1\t0\t-\t2\t1\nnew\t7\t1\nval\t5\nval\t6\n") ≡ refused 20) ×
    (build 400 16384 (ascii "pair\t1\t1\nstr\t61\nstr\t61\ntype\t1\t0\t-\t2\t1\nnew\t7\t1\nval\t5\nval\t6\n") ≡ refused 20) ×
    (build 400 16384 (ascii "pair\t1\t0\nstr\t61\ntype\t1\t0\t-\t2\t1\nnew\t7\t1\nval\t5\nval\t6\n") ≡ refused 20) ×
    (build 400 16384 (ascii "pair\t1\t2\nstr\t61\ntype\t1\t0\t-\t2\t1\nnew\t7\t1\nval\t5\nval\t6\n") ≡ refused 20) ×
    (build 400 16384 (ascii "pair\t1\t65536\nstr\t61\ntype\t1\t0\t-\t2\t1\nnew\t7\t1\nval\t5\nval\t6\n") ≡ refused 20) ×
    (build 400 16384 (ascii "pair\t1\t1\ntype\t1\t0\t-\t2\t1\nnew\t7\t1\nstr\t61\nval\t5\nval\t6\n") ≡ refused 20) ×
    (build 400 16384 (ascii "pair\t1\t1\nstr\t61\ntype\t1\t0\t-\t2\t1\nval\t5\nval\t6\nnew\t7\t1\n") ≡ refused 20) ×
    (build 400 16384 (ascii "pair\t1\t1\nstr\t61\ntype\t1\t0\t-\t2\t2\nnew\t0,1\t1\nnew\t7\t1\nval\t5\nval\t6\n") ≡ refused 20) ×
    (build 400 16384 (ascii "pair\t2\t1\nstr\t61\nstr\t62\ntype\t1\t0\t-\t2\t2\nnew\t0,1\t1\nnew\t7\t2\nval\t5\nval\t6\n") ≡ done (0x02 ∷ 0x00 ∷ 0x00 ∷ 0x00 ∷ 0x01 ∷ 0x00 ∷ 0x00 ∷ 0x00 ∷ 0x02 ∷ 0x61 ∷ 0x62 ∷ 0x01 ∷ 0x01 ∷ 0x00 ∷ 0x02 ∷ 0x00 ∷ 0x02 ∷ 0x00 ∷ 0x00 ∷ 0x01 ∷ 0x01 ∷ 0x00 ∷ 0x00 ∷ 0x07 ∷ 0x02 ∷ 0x02 ∷ 0x05 ∷ 0x06 ∷ [])) ×
    (build 400 16384 (ascii "pair\t2\t1\nstr\t61\nstr\t62\ntype\t1\t0\t-\t2\t2\nnew\t0,1\t1\nnew\t7\t2\nval\nval\nval\t5\nval\t6\n") ≡ refused 20) ×
    (build 400 16384 (ascii "pair\t2\t1\nstr\t61\nstr\t62\ntype\t1\t0\t-\t2\t2\nnew\t0,1\t1\nnew\t7\t2\nval\t1\nval\t1\nval\t5\nval\t6\n") ≡ refused 20) ×
    (build 400 16384 (ascii "pair\t2\t1\nstr\t61\nstr\t62\ntype\t1\t0\t-\t2\t2\nnew\t7\t1\nnew\t8\t2\nval\t5\nval\t6\nval\t300\nval\t400\n") ≡ done (0x02 ∷ 0x00 ∷ 0x00 ∷ 0x00 ∷ 0x01 ∷ 0x00 ∷ 0x00 ∷ 0x00 ∷ 0x02 ∷ 0x61 ∷ 0x62 ∷ 0x01 ∷ 0x01 ∷ 0x00 ∷ 0x02 ∷ 0x00 ∷ 0x02 ∷ 0x00 ∷ 0x07 ∷ 0x01 ∷ 0x02 ∷ 0x00 ∷ 0x08 ∷ 0x02 ∷ 0x06 ∷ 0x05 ∷ 0x06 ∷ 0x01 ∷ 0x2C ∷ 0x01 ∷ 0x90 ∷ [])) ×
    (build 400 16384 (ascii "pair\t2\t1\nstr\t61\nstr\t62\ntype\t1\t0\t-\t2\t2\nnew\t7\t1\nnew\t8\t2\nval\t300\nval\t400\nval\t5\nval\t6\n") ≡ refused 20) ×
    (build 400 16384 (ascii "pair\t2\t1\nstr\t61\nstr\t62\ntype\t1\t0\t-\t2\t2\nnew\t7\t1\nnew\t8\t2\nval\t5\nval\t300\nval\t6\nval\t400\n") ≡ refused 20) ×
    (build 400 16384 (ascii "pair\t1\t1\nstr\t61\ntype\t1\t0\t-\t1\t1\nnew\t7\t1\nval\t5\npair\t0\t1\ntype\t1\t-\t-\t1\t1\nold\nval\t6\n") ≡ done (0x01 ∷ 0x00 ∷ 0x00 ∷ 0x00 ∷ 0x01 ∷ 0x61 ∷ 0x01 ∷ 0x01 ∷ 0x00 ∷ 0x01 ∷ 0x00 ∷ 0x01 ∷ 0x00 ∷ 0x07 ∷ 0x01 ∷ 0x01 ∷ 0x05 ∷ 0x00 ∷ 0x01 ∷ 0x01 ∷ 0x01 ∷ 0x01 ∷ 0x01 ∷ 0x06 ∷ [])) ×
    (build 400 16384 (ascii "pair\t1\t1\nstr\t61\ntype\t1\t0\t-\t1\t1\nnew\t7\t1\nval\t5\npair\t0\t1\ntype\t1\t-\t-\t1\t1\nold\nval\t6\nval\t7\n") ≡ refused 20) ×
    (build 400 16384 (ascii "pair\t1\t1\nstr\t61\ntype\t1\t0\t-\t1\t1\nnew\t7\t1\nval\t5\npair\t0\t1\ntype\t1\t-\t-\t2\t1\nold\nval\t6\n") ≡ refused 20) ×
    (build 400 16384 (ascii "pair\t2\t1\nstr\t61\nstr\t62\ntype\t1\t0\t-\t2\t0\npair\t0\t1\ntype\t1\t-\t-\t1\t1\nnew\t7\t2\nval\t5\nval\t6\nval\t7\n") ≡ done (0x02 ∷ 0x00 ∷ 0x00 ∷ 0x00 ∷ 0x01 ∷ 0x00 ∷ 0x00 ∷ 0x00 ∷ 0x02 ∷ 0x61 ∷ 0x62 ∷ 0x01 ∷ 0x01 ∷ 0x00 ∷ 0x02 ∷ 0x00 ∷ 0x00 ∷ 0x00 ∷ 0x01 ∷ 0x01 ∷ 0x01 ∷ 0x01 ∷ 0x00 ∷ 0x07 ∷ 0x02 ∷ 0x03 ∷ 0x05 ∷ 0x06 ∷ 0x07 ∷ [])) ×
    (build 400 16384 (ascii "pair\t2\t1\nstr\t61\nstr\t62\ntype\t1\t0\t-\t2\t0\npair\t0\t1\ntype\t1\t-\t-\t1\t1\nnew\t7\t2\nval\t5\n") ≡ refused 20) ×
    (build 400 16384 (ascii "pair\t0\t0\n\npair\t0\t0\n") ≡ refused 20) ×
    (build 400 16384 (ascii "pair\t0\t0\npair\t0\t0\n") ≡ done (0x00 ∷ 0x00 ∷ 0x00 ∷ 0x00 ∷ [])) ×
    (build 400 16384 (ascii "val\t1\n") ≡ refused 20) ×
    (build 400 16384 (ascii "str\t61\n") ≡ refused 20)
unfolding whole
lines-built = (refl, refl, refl, refl, refl, refl, refl, refl, refl, refl, refl, refl, refl, refl, refl, refl, refl, refl, refl, refl, refl, refl, refl, refl, refl, refl, refl, refl)

-- types and objects as far as this pair
reach-built :
    (build 400 16384 (ascii "pair\t2\t2\nstr\t61\nstr\t62\ntype\t1\t0\t-\t1\t1\nnew\t33\t1\ntype\t2\t0\t-\t1\t0\nval\t1\n") ≡ done (0x02 ∷ 0x00 ∷ 0x00 ∷ 0x00 ∷ 0x01 ∷ 0x00 ∷ 0x00 ∷ 0x00 ∷ 0x02 ∷ 0x61 ∷ 0x62 ∷ 0x02 ∷ 0x01 ∷ 0x00 ∷ 0x01 ∷ 0x00 ∷ 0x01 ∷ 0x00 ∷ 0x21 ∷ 0x01 ∷ 0x01 ∷ 0x02 ∷ 0x00 ∷ 0x01 ∷ 0x00 ∷ 0x00 ∷ 0x01 ∷ [])) ×
    (build 400 16384 (ascii "pair\t2\t2\nstr\t61\nstr\t62\ntype\t1\t0\t-\t1\t1\nnew\t33\t1\ntype\t2\t0\t-\t1\t0\nval\t2\n") ≡ refused 20) ×
    (build 400 16384 (ascii "pair\t2\t1\nstr\t61\nstr\t62\ntype\t1\t0\t-\t1\t1\nnew\t33\t1\nval\t0\npair\t0\t1\ntype\t2\t0\t-\t1\t0\n") ≡ refused 20) ×
    (build 400 16384 (ascii "pair\t2\t1\nstr\t61\nstr\t62\ntype\t1\t0\t-\t1\t1\nnew\t17,33\t1\nval\npair\t0\t1\ntype\t2\t0\t-\t1\t0\n") ≡ refused 20) ×
    (build 400 16384 (ascii "pair\t1\t1\nstr\t61\ntype\t1\t0\t-\t1\t1\nnew\t32\t1\nval\t1\npair\t0\t1\ntype\t1\t-\t-\t1\t1\nold\nval\t2\n") ≡ done (0x01 ∷ 0x00 ∷ 0x00 ∷ 0x00 ∷ 0x01 ∷ 0x61 ∷ 0x01 ∷ 0x01 ∷ 0x00 ∷ 0x01 ∷ 0x00 ∷ 0x01 ∷ 0x00 ∷ 0x20 ∷ 0x01 ∷ 0x01 ∷ 0x01 ∷ 0x00 ∷ 0x01 ∷ 0x01 ∷ 0x01 ∷ 0x01 ∷ 0x01 ∷ 0x02 ∷ [])) ×
    (build 400 16384 (ascii "pair\t1\t1\nstr\t61\ntype\t1\t0\t-\t1\t1\nnew\t32\t1\nval\t1\npair\t0\t1\ntype\t1\t-\t-\t1\t1\nold\nval\t3\n") ≡ refused 20) ×
    (build 400 16384 (ascii "pair\t1\t1\nstr\t61\ntype\t1\t0\t-\t1\t1\nnew\t32\t1\nval\t2\npair\t0\t1\ntype\t1\t-\t-\t1\t1\nold\nval\t1\n") ≡ refused 20) ×
    (build 400 16384 (ascii "pair\t1\t1\nstr\t61\ntype\t1\t0\t-\t1\t1\nnew\t14\t1\nval\t1\npair\t1\t1\nstr\t62\ntype\t1\t-\t-\t1\t1\nold\nval\t2\n") ≡ done (0x01 ∷ 0x00 ∷ 0x00 ∷ 0x00 ∷ 0x01 ∷ 0x61 ∷ 0x01 ∷ 0x01 ∷ 0x00 ∷ 0x01 ∷ 0x00 ∷ 0x01 ∷ 0x00 ∷ 0x0E ∷ 0x01 ∷ 0x01 ∷ 0x01 ∷ 0x01 ∷ 0x00 ∷ 0x00 ∷ 0x00 ∷ 0x01 ∷ 0x62 ∷ 0x01 ∷ 0x01 ∷ 0x01 ∷ 0x01 ∷ 0x01 ∷ 0x02 ∷ [])) ×
    (build 400 16384 (ascii "pair\t1\t1\nstr\t61\ntype\t1\t0\t-\t1\t1\nnew\t14\t1\nval\t2\npair\t1\t1\nstr\t62\ntype\t1\t-\t-\t1\t1\nold\nval\t2\n") ≡ refused 20) ×
    (build 400 16384 (ascii "pair\t2\t2\nstr\t61\nstr\t62\ntype\t1\t0\t-\t3\t1\nnew\t33\t1\ntype\t2\t1\t1\t1\t0\nval\t2\nval\t0\nval\t2\n") ≡ done (0x02 ∷ 0x00 ∷ 0x00 ∷ 0x00 ∷ 0x01 ∷ 0x00 ∷ 0x00 ∷ 0x00 ∷ 0x02 ∷ 0x61 ∷ 0x62 ∷ 0x02 ∷ 0x01 ∷ 0x00 ∷ 0x03 ∷ 0x00 ∷ 0x01 ∷ 0x00 ∷ 0x21 ∷ 0x01 ∷ 0x03 ∷ 0x02 ∷ 0x01 ∷ 0x01 ∷ 0x01 ∷ 0x00 ∷ 0x00 ∷ 0x02 ∷ 0x00 ∷ 0x02 ∷ [])) ×
    (build 400 16384 (ascii "pair\t2\t2\nstr\t61\nstr\t62\ntype\t1\t0\t-\t3\t1\nnew\t33\t1\ntype\t2\t1\t1\t1\t0\nval\t2\nval\t0\nval\t1\n") ≡ refused 20) ×
    (build 400 16384 (ascii "pair\t2\t2\nstr\t61\nstr\t62\ntype\t1\t0\t-\t1\t1\nnew\t5\t1\ntype\t2\t0\t-\t2\t0\nval\t2\t2\n") ≡ done (0x02 ∷ 0x00 ∷ 0x00 ∷ 0x00 ∷ 0x01 ∷ 0x00 ∷ 0x00 ∷ 0x00 ∷ 0x02 ∷ 0x61 ∷ 0x62 ∷ 0x02 ∷ 0x01 ∷ 0x00 ∷ 0x01 ∷ 0x00 ∷ 0x01 ∷ 0x00 ∷ 0x05 ∷ 0x01 ∷ 0x02 ∷ 0x02 ∷ 0x00 ∷ 0x02 ∷ 0x00 ∷ 0x00 ∷ 0x02 ∷ 0x02 ∷ [])) ×
    (build 400 16384 (ascii "pair\t2\t2\nstr\t61\nstr\t62\ntype\t1\t0\t-\t1\t1\nnew\t5\t1\ntype\t2\t0\t-\t2\t0\nval\t2\t3\n") ≡ refused 20) ×
    (build 400 16384 (ascii "pair\t2\t2\nstr\t61\nstr\t62\ntype\t1\t0\t-\t1\t1\nnew\t5\t1\ntype\t2\t1\t0\t1\t0\nval\t1\t1\n") ≡ done (0x02 ∷ 0x00 ∷ 0x00 ∷ 0x00 ∷ 0x01 ∷ 0x00 ∷ 0x00 ∷ 0x00 ∷ 0x02 ∷ 0x61 ∷ 0x62 ∷ 0x02 ∷ 0x01 ∷ 0x00 ∷ 0x01 ∷ 0x00 ∷ 0x01 ∷ 0x00 ∷ 0x05 ∷ 0x01 ∷ 0x02 ∷ 0x02 ∷ 0x01 ∷ 0x00 ∷ 0x01 ∷ 0x00 ∷ 0x00 ∷ 0x01 ∷ 0x01 ∷ [])) ×
    (build 400 16384 (ascii "pair\t2\t2\nstr\t61\nstr\t62\ntype\t1\t0\t-\t1\t1\nnew\t5\t1\ntype\t2\t1\t0\t1\t0\nval\t2\t1\n") ≡ refused 20) ×
    (build 400 16384 (ascii "pair\t2\t1\nstr\t61\nstr\t62\ntype\t1\t0\t-\t1\t1\nnew\t5\t1\nval\t2\t1\npair\t0\t1\ntype\t2\t0\t-\t1\t0\n") ≡ refused 20) ×
    (build 400 16384 (ascii "pair\t2\t1\nstr\t61\nstr\t62\ntype\t2\t0\t-\t1\t0\npair\t0\t1\ntype\t1\t0\t-\t1\t1\nnew\t5\t1\nval\t2\t1\n") ≡ done (0x02 ∷ 0x00 ∷ 0x00 ∷ 0x00 ∷ 0x01 ∷ 0x00 ∷ 0x00 ∷ 0x00 ∷ 0x02 ∷ 0x61 ∷ 0x62 ∷ 0x01 ∷ 0x02 ∷ 0x00 ∷ 0x01 ∷ 0x00 ∷ 0x00 ∷ 0x00 ∷ 0x01 ∷ 0x01 ∷ 0x00 ∷ 0x01 ∷ 0x00 ∷ 0x01 ∷ 0x00 ∷ 0x05 ∷ 0x01 ∷ 0x02 ∷ 0x02 ∷ 0x01 ∷ [])) ×
    (build 400 16384 (ascii "pair\t2\t1\nstr\t61\nstr\t61\ntype\t1\t0\t-\t1\t1\nnew\t5\t1\nval\t2\t1\n") ≡ done (0x02 ∷ 0x00 ∷ 0x00 ∷ 0x00 ∷ 0x01 ∷ 0x00 ∷ 0x00 ∷ 0x00 ∷ 0x02 ∷ 0x61 ∷ 0x61 ∷ 0x01 ∷ 0x01 ∷ 0x00 ∷ 0x01 ∷ 0x00 ∷ 0x01 ∷ 0x00 ∷ 0x05 ∷ 0x01 ∷ 0x02 ∷ 0x02 ∷ 0x01 ∷ [])) ×
    (build 400 16384 (ascii "pair\t1\t1\nstr\t61\ntype\t1\t0\t-\t1\t1\nnew\t5\t1\nval\t2\t1\npair\t1\t0\nstr\t61\n") ≡ refused 20) ×
    (build 400 16384 (ascii "pair\t1\t1\nstr\t61\ntype\t1\t0\t-\t1\t1\nnew\t5\t1\nval\t0\t0\npair\t1\t1\nstr\t61\ntype\t2\t-\t-\t1\t1\nold\nval\t2\t2\n") ≡ done (0x01 ∷ 0x00 ∷ 0x00 ∷ 0x00 ∷ 0x01 ∷ 0x61 ∷ 0x01 ∷ 0x01 ∷ 0x00 ∷ 0x01 ∷ 0x00 ∷ 0x01 ∷ 0x00 ∷ 0x05 ∷ 0x01 ∷ 0x02 ∷ 0x00 ∷ 0x00 ∷ 0x01 ∷ 0x00 ∷ 0x00 ∷ 0x00 ∷ 0x01 ∷ 0x61 ∷ 0x01 ∷ 0x02 ∷ 0x01 ∷ 0x01 ∷ 0x02 ∷ 0x02 ∷ 0x02 ∷ [])) ×
    (build 400 16384 (ascii "pair\t1\t1\nstr\t61\ntype\t1\t0\t-\t1\t1\nnew\t5\t1\nval\t1\t2\npair\t1\t1\nstr\t61\ntype\t2\t-\t-\t1\t1\nold\nval\t2\t2\n") ≡ refused 20) ×
    (build 400 16384 (ascii "pair\t1\t1\nstr\t61\ntype\t1\t0\t-\t200\t0\npair\t1\t1\nstr\t62\ntype\t2\t0\t-\t1\t1\nnew\t5\t2\nval\t1\t200\n") ≡ done (0x01 ∷ 0x00 ∷ 0x00 ∷ 0x00 ∷ 0x01 ∷ 0x61 ∷ 0x01 ∷ 0x01 ∷ 0x00 ∷ 0xC8 ∷ 0x01 ∷ 0x00 ∷ 0x00 ∷ 0x01 ∷ 0x00 ∷ 0x00 ∷ 0x00 ∷ 0x01 ∷ 0x62 ∷ 0x01 ∷ 0x02 ∷ 0x00 ∷ 0x01 ∷ 0x00 ∷ 0x01 ∷ 0x00 ∷ 0x05 ∷ 0x02 ∷ 0x03 ∷ 0x01 ∷ 0xC8 ∷ 0x01 ∷ [])) ×
    (build 400 16384 (ascii "pair\t1\t1\nstr\t61\ntype\t1\t0\t-\t200\t0\npair\t1\t1\nstr\t62\ntype\t2\t0\t-\t1\t1\nnew\t5\t2\nval\t1\t201\n") ≡ refused 20) ×
    (build 400 16384 (ascii "pair\t2\t2\nstr\t61\nstr\t62\ntype\t1\t0\t-\t1\t1\nnew\t20,2,33,5\t1\ntype\t2\t0\t-\t1\t0\nval\t1\t1\t2\t1\n") ≡ done (0x02 ∷ 0x00 ∷ 0x00 ∷ 0x00 ∷ 0x01 ∷ 0x00 ∷ 0x00 ∷ 0x00 ∷ 0x02 ∷ 0x61 ∷ 0x62 ∷ 0x02 ∷ 0x01 ∷ 0x00 ∷ 0x01 ∷ 0x00 ∷ 0x01 ∷ 0x00 ∷ 0x14 ∷ 0x02 ∷ 0x21 ∷ 0x05 ∷ 0x01 ∷ 0x04 ∷ 0x02 ∷ 0x00 ∷ 0x01 ∷ 0x00 ∷ 0x00 ∷ 0x01 ∷ 0x01 ∷ 0x02 ∷ 0x01 ∷ [])) ×
    (build 400 16384 (ascii "pair\t2\t1\nstr\t61\nstr\t62\ntype\t1\t0\t-\t1\t1\nnew\t20,2,33,5\t1\nval\t0\npair\t0\t1\ntype\t2\t0\t-\t1\t0\n") ≡ refused 20) ×
    (build 400 16384 (ascii "pair\t1\t1\nstr\t61\ntype\t1\t0\t-\t1\t1\nnew\t20,2,6,32\t1\nval\t0\npair\t0\t1\ntype\t1\t-\t-\t1\t1\nold\nval\t1\t0\t2\n") ≡ done (0x01 ∷ 0x00 ∷ 0x00 ∷ 0x00 ∷ 0x01 ∷ 0x61 ∷ 0x01 ∷ 0x01 ∷ 0x00 ∷ 0x01 ∷ 0x00 ∷ 0x01 ∷ 0x00 ∷ 0x14 ∷ 0x02 ∷ 0x06 ∷ 0x20 ∷ 0x01 ∷ 0x01 ∷ 0x00 ∷ 0x00 ∷ 0x01 ∷ 0x01 ∷ 0x01 ∷ 0x01 ∷ 0x03 ∷ 0x01 ∷ 0x00 ∷ 0x02 ∷ [])) ×
    (build 400 16384 (ascii "pair\t1\t1\nstr\t61\ntype\t1\t0\t-\t1\t1\nnew\t20,2,6,32\t1\nval\t1\t0\t2\npair\t0\t1\ntype\t1\t-\t-\t1\t1\nold\nval\t0\n") ≡ refused 20) ×
    (build 400 16384 (ascii "pair\t1\t1\nstr\t61\ntype\t1\t0\t-\t1\t1\nnew\t20,2,6,7\t1\nval\t2\t0\t5\nval\t1\t6\n") ≡ refused 20) ×
    (build 400 16384 (ascii "pair\t1\t1\nstr\t61\ntype\t1\t0\t-\t1\t0\npair\t1\t1\nstr\t62\ntype\t2\t1\t0\t0\t0\n") ≡ done (0x01 ∷ 0x00 ∷ 0x00 ∷ 0x00 ∷ 0x01 ∷ 0x61 ∷ 0x01 ∷ 0x01 ∷ 0x00 ∷ 0x01 ∷ 0x00 ∷ 0x00 ∷ 0x01 ∷ 0x00 ∷ 0x00 ∷ 0x00 ∷ 0x01 ∷ 0x62 ∷ 0x01 ∷ 0x02 ∷ 0x01 ∷ 0x00 ∷ 0x00 ∷ 0x00 ∷ 0x00 ∷ [])) ×
    (build 400 16384 (ascii "pair\t1\t0\nstr\t61\npair\t0\t1\ntype\t1\t0\t-\t0\t0\n") ≡ done (0x01 ∷ 0x00 ∷ 0x00 ∷ 0x00 ∷ 0x01 ∷ 0x61 ∷ 0x00 ∷ 0x00 ∷ 0x01 ∷ 0x01 ∷ 0x00 ∷ 0x00 ∷ 0x00 ∷ 0x00 ∷ [])) ×
    (build 400 16384 (ascii "pair\t0\t1\ntype\t1\t0\t-\t0\t0\npair\t1\t0\nstr\t61\n") ≡ refused 20)
unfolding whole
reach-built = (refl, refl, refl, refl, refl, refl, refl, refl, refl, refl, refl, refl, refl, refl, refl, refl, refl, refl, refl, refl, refl, refl, refl, refl, refl, refl, refl, refl, refl, refl, refl)

-- what stands before, behind and between lines
whole-built :
    (build 400 16384 [] ≡ done ([])) ×
    (build 400 16384 (ascii "\n") ≡ refused 20) ×
    (build 400 16384 (ascii " ") ≡ refused 20) ×
    (build 400 16384 (ascii "\t") ≡ refused 20) ×
    (build 400 16384 (ascii "pair") ≡ refused 20) ×
    (build 400 16384 (ascii "pair\t0\t0") ≡ refused 20) ×
    (build 400 16384 (ascii "pair\t0\t0\n") ≡ done (0x00 ∷ 0x00 ∷ [])) ×
    (build 400 16384 (ascii "pair\t0\t0\n\n") ≡ refused 20) ×
    (build 400 16384 (ascii "pair\t0\t0\n ") ≡ refused 20) ×
    (build 400 16384 (0x70 ∷ 0x61 ∷ 0x69 ∷ 0x72 ∷ 0x09 ∷ 0x30 ∷ 0x09 ∷ 0x30 ∷ 0x0A ∷ 0x00 ∷ []) ≡ refused 20) ×
    (build 400 16384 (ascii "pair\t0\t0\r\n") ≡ refused 20) ×
    (build 400 16384 (ascii "pair\t0\t0\npair") ≡ refused 20) ×
    (build 400 16384 (ascii " pair\t0\t0\n") ≡ refused 20) ×
    (build 400 16384 (ascii "\npair\t0\t0\n") ≡ refused 20) ×
    (build 400 16384 (ascii "Pair\t0\t0\n") ≡ refused 20) ×
    (build 400 16384 (ascii "pair 0 0\n") ≡ refused 20) ×
    (build 400 16384 (ascii "pair\t0\n") ≡ refused 20) ×
    (build 400 16384 (ascii "pair\t\t0\n") ≡ refused 20) ×
    (build 400 16384 (ascii "pair\t0\t\n") ≡ refused 20) ×
    (build 400 16384 (ascii "pair\t-0\t0\n") ≡ refused 20) ×
    (build 400 16384 (ascii "pair\t0\t00\n") ≡ refused 20) ×
    (build 400 16384 (ascii "pair\t0\t65536\n") ≡ refused 20) ×
    (build 400 16384 (ascii "pair\t1025\t0\n") ≡ refused 20) ×
    (build 400 16384 (ascii "pair\t18446744073709551616\t0\n") ≡ refused 20) ×
    (build 400 16384 (ascii "pair\t0\t18446744073709551616\n") ≡ refused 20) ×
    (build 400 16384 (ascii "refused\t1\n") ≡ refused 20)
unfolding whole
whole-built = (refl, refl, refl, refl, refl, refl, refl, refl, refl, refl, refl, refl, refl, refl, refl, refl, refl, refl, refl, refl, refl, refl, refl, refl, refl, refl)

-- 32 pairs, and one more
pairs-built :
    (build 400 16384 (again 32 (ascii "pair\t0\t0\n")) ≡ done (0x00 ∷ 0x00 ∷ 0x00 ∷ 0x00 ∷ 0x00 ∷ 0x00 ∷ 0x00 ∷ 0x00 ∷ 0x00 ∷ 0x00 ∷ 0x00 ∷ 0x00 ∷ 0x00 ∷ 0x00 ∷ 0x00 ∷ 0x00 ∷ 0x00 ∷ 0x00 ∷ 0x00 ∷ 0x00 ∷ 0x00 ∷ 0x00 ∷ 0x00 ∷ 0x00 ∷ 0x00 ∷ 0x00 ∷ 0x00 ∷ 0x00 ∷ 0x00 ∷ 0x00 ∷ 0x00 ∷ 0x00 ∷ 0x00 ∷ 0x00 ∷ 0x00 ∷ 0x00 ∷ 0x00 ∷ 0x00 ∷ 0x00 ∷ 0x00 ∷ 0x00 ∷ 0x00 ∷ 0x00 ∷ 0x00 ∷ 0x00 ∷ 0x00 ∷ 0x00 ∷ 0x00 ∷ 0x00 ∷ 0x00 ∷ 0x00 ∷ 0x00 ∷ 0x00 ∷ 0x00 ∷ 0x00 ∷ 0x00 ∷ 0x00 ∷ 0x00 ∷ 0x00 ∷ 0x00 ∷ 0x00 ∷ 0x00 ∷ 0x00 ∷ 0x00 ∷ [])) ×
    (build 400 16384 (again 33 (ascii "pair\t0\t0\n")) ≡ refused 20) ×
    (build 400 16384 ((again 32 (ascii "pair\t0\t0\n")) ++ (ascii "\n")) ≡ refused 20)
unfolding whole
pairs-built = (refl, refl, refl)

-- a blank for each tab, newline and comma in turn
separators-built :
    (build 400 16384 (ascii "pair\t3\t2\nstr\t6162\nstr\t63\nstr\t\ntype\t1\t0\t-\t1\t3\nnew\t15,2,8\t1\nnew\t4,-12\t2\nnew\t12\t3\ntype\t2\t1\t0\t1\t1\nnew\t17,11\t1\nval\t1\t-1\nval\t0a1b2c3d\nval\t10\t20\n") ≡ done (0x03 ∷ 0x00 ∷ 0x00 ∷ 0x00 ∷ 0x02 ∷ 0x00 ∷ 0x00 ∷ 0x00 ∷ 0x03 ∷ 0x00 ∷ 0x00 ∷ 0x00 ∷ 0x03 ∷ 0x61 ∷ 0x62 ∷ 0x63 ∷ 0x02 ∷ 0x01 ∷ 0x00 ∷ 0x01 ∷ 0x00 ∷ 0x03 ∷ 0x00 ∷ 0x0F ∷ 0x02 ∷ 0x08 ∷ 0x01 ∷ 0x04 ∷ 0x00 ∷ 0x04 ∷ 0xF4 ∷ 0xFF ∷ 0xFF ∷ 0xFF ∷ 0xFF ∷ 0xFF ∷ 0xFF ∷ 0xFF ∷ 0xFF ∷ 0x02 ∷ 0x04 ∷ 0x00 ∷ 0x0C ∷ 0x03 ∷ 0x08 ∷ 0x02 ∷ 0x01 ∷ 0x00 ∷ 0x01 ∷ 0x00 ∷ 0x01 ∷ 0x00 ∷ 0x11 ∷ 0x0B ∷ 0x01 ∷ 0x0B ∷ 0x00 ∷ 0x01 ∷ 0xFF ∷ 0xFF ∷ 0x0A ∷ 0x1B ∷ 0x2C ∷ 0x3D ∷ 0x02 ∷ 0x0A ∷ 0x14 ∷ [])) ×
    (build 400 16384 (ascii "pair 3\t2\nstr\t6162\nstr\t63\nstr\t\ntype\t1\t0\t-\t1\t3\nnew\t15,2,8\t1\nnew\t4,-12\t2\nnew\t12\t3\ntype\t2\t1\t0\t1\t1\nnew\t17,11\t1\nval\t1\t-1\nval\t0a1b2c3d\nval\t10\t20\n") ≡ refused 20) ×
    (build 400 16384 (ascii "pair\t3 2\nstr\t6162\nstr\t63\nstr\t\ntype\t1\t0\t-\t1\t3\nnew\t15,2,8\t1\nnew\t4,-12\t2\nnew\t12\t3\ntype\t2\t1\t0\t1\t1\nnew\t17,11\t1\nval\t1\t-1\nval\t0a1b2c3d\nval\t10\t20\n") ≡ refused 20) ×
    (build 400 16384 (ascii "pair\t3\t2 str\t6162\nstr\t63\nstr\t\ntype\t1\t0\t-\t1\t3\nnew\t15,2,8\t1\nnew\t4,-12\t2\nnew\t12\t3\ntype\t2\t1\t0\t1\t1\nnew\t17,11\t1\nval\t1\t-1\nval\t0a1b2c3d\nval\t10\t20\n") ≡ refused 20) ×
    (build 400 16384 (ascii "pair\t3\t2\nstr 6162\nstr\t63\nstr\t\ntype\t1\t0\t-\t1\t3\nnew\t15,2,8\t1\nnew\t4,-12\t2\nnew\t12\t3\ntype\t2\t1\t0\t1\t1\nnew\t17,11\t1\nval\t1\t-1\nval\t0a1b2c3d\nval\t10\t20\n") ≡ refused 20) ×
    (build 400 16384 (ascii "pair\t3\t2\nstr\t6162 str\t63\nstr\t\ntype\t1\t0\t-\t1\t3\nnew\t15,2,8\t1\nnew\t4,-12\t2\nnew\t12\t3\ntype\t2\t1\t0\t1\t1\nnew\t17,11\t1\nval\t1\t-1\nval\t0a1b2c3d\nval\t10\t20\n") ≡ refused 20) ×
    (build 400 16384 (ascii "pair\t3\t2\nstr\t6162\nstr 63\nstr\t\ntype\t1\t0\t-\t1\t3\nnew\t15,2,8\t1\nnew\t4,-12\t2\nnew\t12\t3\ntype\t2\t1\t0\t1\t1\nnew\t17,11\t1\nval\t1\t-1\nval\t0a1b2c3d\nval\t10\t20\n") ≡ refused 20) ×
    (build 400 16384 (ascii "pair\t3\t2\nstr\t6162\nstr\t63 str\t\ntype\t1\t0\t-\t1\t3\nnew\t15,2,8\t1\nnew\t4,-12\t2\nnew\t12\t3\ntype\t2\t1\t0\t1\t1\nnew\t17,11\t1\nval\t1\t-1\nval\t0a1b2c3d\nval\t10\t20\n") ≡ refused 20) ×
    (build 400 16384 (ascii "pair\t3\t2\nstr\t6162\nstr\t63\nstr \ntype\t1\t0\t-\t1\t3\nnew\t15,2,8\t1\nnew\t4,-12\t2\nnew\t12\t3\ntype\t2\t1\t0\t1\t1\nnew\t17,11\t1\nval\t1\t-1\nval\t0a1b2c3d\nval\t10\t20\n") ≡ refused 20) ×
    (build 400 16384 (ascii "pair\t3\t2\nstr\t6162\nstr\t63\nstr\t type\t1\t0\t-\t1\t3\nnew\t15,2,8\t1\nnew\t4,-12\t2\nnew\t12\t3\ntype\t2\t1\t0\t1\t1\nnew\t17,11\t1\nval\t1\t-1\nval\t0a1b2c3d\nval\t10\t20\n") ≡ refused 20) ×
    (build 400 16384 (ascii "pair\t3\t2\nstr\t6162\nstr\t63\nstr\t\ntype 1\t0\t-\t1\t3\nnew\t15,2,8\t1\nnew\t4,-12\t2\nnew\t12\t3\ntype\t2\t1\t0\t1\t1\nnew\t17,11\t1\nval\t1\t-1\nval\t0a1b2c3d\nval\t10\t20\n") ≡ refused 20) ×
    (build 400 16384 (ascii "pair\t3\t2\nstr\t6162\nstr\t63\nstr\t\ntype\t1 0\t-\t1\t3\nnew\t15,2,8\t1\nnew\t4,-12\t2\nnew\t12\t3\ntype\t2\t1\t0\t1\t1\nnew\t17,11\t1\nval\t1\t-1\nval\t0a1b2c3d\nval\t10\t20\n") ≡ refused 20) ×
    (build 400 16384 (ascii "pair\t3\t2\nstr\t6162\nstr\t63\nstr\t\ntype\t1\t0 -\t1\t3\nnew\t15,2,8\t1\nnew\t4,-12\t2\nnew\t12\t3\ntype\t2\t1\t0\t1\t1\nnew\t17,11\t1\nval\t1\t-1\nval\t0a1b2c3d\nval\t10\t20\n") ≡ refused 20) ×
    (build 400 16384 (ascii "pair\t3\t2\nstr\t6162\nstr\t63\nstr\t\ntype\t1\t0\t- 1\t3\nnew\t15,2,8\t1\nnew\t4,-12\t2\nnew\t12\t3\ntype\t2\t1\t0\t1\t1\nnew\t17,11\t1\nval\t1\t-1\nval\t0a1b2c3d\nval\t10\t20\n") ≡ refused 20) ×
    (build 400 16384 (ascii "pair\t3\t2\nstr\t6162\nstr\t63\nstr\t\ntype\t1\t0\t-\t1 3\nnew\t15,2,8\t1\nnew\t4,-12\t2\nnew\t12\t3\ntype\t2\t1\t0\t1\t1\nnew\t17,11\t1\nval\t1\t-1\nval\t0a1b2c3d\nval\t10\t20\n") ≡ refused 20) ×
    (build 400 16384 (ascii "pair\t3\t2\nstr\t6162\nstr\t63\nstr\t\ntype\t1\t0\t-\t1\t3 new\t15,2,8\t1\nnew\t4,-12\t2\nnew\t12\t3\ntype\t2\t1\t0\t1\t1\nnew\t17,11\t1\nval\t1\t-1\nval\t0a1b2c3d\nval\t10\t20\n") ≡ refused 20) ×
    (build 400 16384 (ascii "pair\t3\t2\nstr\t6162\nstr\t63\nstr\t\ntype\t1\t0\t-\t1\t3\nnew 15,2,8\t1\nnew\t4,-12\t2\nnew\t12\t3\ntype\t2\t1\t0\t1\t1\nnew\t17,11\t1\nval\t1\t-1\nval\t0a1b2c3d\nval\t10\t20\n") ≡ refused 20) ×
    (build 400 16384 (ascii "pair\t3\t2\nstr\t6162\nstr\t63\nstr\t\ntype\t1\t0\t-\t1\t3\nnew\t15 2,8\t1\nnew\t4,-12\t2\nnew\t12\t3\ntype\t2\t1\t0\t1\t1\nnew\t17,11\t1\nval\t1\t-1\nval\t0a1b2c3d\nval\t10\t20\n") ≡ refused 20) ×
    (build 400 16384 (ascii "pair\t3\t2\nstr\t6162\nstr\t63\nstr\t\ntype\t1\t0\t-\t1\t3\nnew\t15,2 8\t1\nnew\t4,-12\t2\nnew\t12\t3\ntype\t2\t1\t0\t1\t1\nnew\t17,11\t1\nval\t1\t-1\nval\t0a1b2c3d\nval\t10\t20\n") ≡ refused 20) ×
    (build 400 16384 (ascii "pair\t3\t2\nstr\t6162\nstr\t63\nstr\t\ntype\t1\t0\t-\t1\t3\nnew\t15,2,8 1\nnew\t4,-12\t2\nnew\t12\t3\ntype\t2\t1\t0\t1\t1\nnew\t17,11\t1\nval\t1\t-1\nval\t0a1b2c3d\nval\t10\t20\n") ≡ refused 20) ×
    (build 400 16384 (ascii "pair\t3\t2\nstr\t6162\nstr\t63\nstr\t\ntype\t1\t0\t-\t1\t3\nnew\t15,2,8\t1 new\t4,-12\t2\nnew\t12\t3\ntype\t2\t1\t0\t1\t1\nnew\t17,11\t1\nval\t1\t-1\nval\t0a1b2c3d\nval\t10\t20\n") ≡ refused 20) ×
    (build 400 16384 (ascii "pair\t3\t2\nstr\t6162\nstr\t63\nstr\t\ntype\t1\t0\t-\t1\t3\nnew\t15,2,8\t1\nnew 4,-12\t2\nnew\t12\t3\ntype\t2\t1\t0\t1\t1\nnew\t17,11\t1\nval\t1\t-1\nval\t0a1b2c3d\nval\t10\t20\n") ≡ refused 20) ×
    (build 400 16384 (ascii "pair\t3\t2\nstr\t6162\nstr\t63\nstr\t\ntype\t1\t0\t-\t1\t3\nnew\t15,2,8\t1\nnew\t4 -12\t2\nnew\t12\t3\ntype\t2\t1\t0\t1\t1\nnew\t17,11\t1\nval\t1\t-1\nval\t0a1b2c3d\nval\t10\t20\n") ≡ refused 20) ×
    (build 400 16384 (ascii "pair\t3\t2\nstr\t6162\nstr\t63\nstr\t\ntype\t1\t0\t-\t1\t3\nnew\t15,2,8\t1\nnew\t4,-12 2\nnew\t12\t3\ntype\t2\t1\t0\t1\t1\nnew\t17,11\t1\nval\t1\t-1\nval\t0a1b2c3d\nval\t10\t20\n") ≡ refused 20) ×
    (build 400 16384 (ascii "pair\t3\t2\nstr\t6162\nstr\t63\nstr\t\ntype\t1\t0\t-\t1\t3\nnew\t15,2,8\t1\nnew\t4,-12\t2 new\t12\t3\ntype\t2\t1\t0\t1\t1\nnew\t17,11\t1\nval\t1\t-1\nval\t0a1b2c3d\nval\t10\t20\n") ≡ refused 20) ×
    (build 400 16384 (ascii "pair\t3\t2\nstr\t6162\nstr\t63\nstr\t\ntype\t1\t0\t-\t1\t3\nnew\t15,2,8\t1\nnew\t4,-12\t2\nnew 12\t3\ntype\t2\t1\t0\t1\t1\nnew\t17,11\t1\nval\t1\t-1\nval\t0a1b2c3d\nval\t10\t20\n") ≡ refused 20) ×
    (build 400 16384 (ascii "pair\t3\t2\nstr\t6162\nstr\t63\nstr\t\ntype\t1\t0\t-\t1\t3\nnew\t15,2,8\t1\nnew\t4,-12\t2\nnew\t12 3\ntype\t2\t1\t0\t1\t1\nnew\t17,11\t1\nval\t1\t-1\nval\t0a1b2c3d\nval\t10\t20\n") ≡ refused 20) ×
    (build 400 16384 (ascii "pair\t3\t2\nstr\t6162\nstr\t63\nstr\t\ntype\t1\t0\t-\t1\t3\nnew\t15,2,8\t1\nnew\t4,-12\t2\nnew\t12\t3 type\t2\t1\t0\t1\t1\nnew\t17,11\t1\nval\t1\t-1\nval\t0a1b2c3d\nval\t10\t20\n") ≡ refused 20) ×
    (build 400 16384 (ascii "pair\t3\t2\nstr\t6162\nstr\t63\nstr\t\ntype\t1\t0\t-\t1\t3\nnew\t15,2,8\t1\nnew\t4,-12\t2\nnew\t12\t3\ntype 2\t1\t0\t1\t1\nnew\t17,11\t1\nval\t1\t-1\nval\t0a1b2c3d\nval\t10\t20\n") ≡ refused 20) ×
    (build 400 16384 (ascii "pair\t3\t2\nstr\t6162\nstr\t63\nstr\t\ntype\t1\t0\t-\t1\t3\nnew\t15,2,8\t1\nnew\t4,-12\t2\nnew\t12\t3\ntype\t2 1\t0\t1\t1\nnew\t17,11\t1\nval\t1\t-1\nval\t0a1b2c3d\nval\t10\t20\n") ≡ refused 20) ×
    (build 400 16384 (ascii "pair\t3\t2\nstr\t6162\nstr\t63\nstr\t\ntype\t1\t0\t-\t1\t3\nnew\t15,2,8\t1\nnew\t4,-12\t2\nnew\t12\t3\ntype\t2\t1 0\t1\t1\nnew\t17,11\t1\nval\t1\t-1\nval\t0a1b2c3d\nval\t10\t20\n") ≡ refused 20) ×
    (build 400 16384 (ascii "pair\t3\t2\nstr\t6162\nstr\t63\nstr\t\ntype\t1\t0\t-\t1\t3\nnew\t15,2,8\t1\nnew\t4,-12\t2\nnew\t12\t3\ntype\t2\t1\t0 1\t1\nnew\t17,11\t1\nval\t1\t-1\nval\t0a1b2c3d\nval\t10\t20\n") ≡ refused 20) ×
    (build 400 16384 (ascii "pair\t3\t2\nstr\t6162\nstr\t63\nstr\t\ntype\t1\t0\t-\t1\t3\nnew\t15,2,8\t1\nnew\t4,-12\t2\nnew\t12\t3\ntype\t2\t1\t0\t1 1\nnew\t17,11\t1\nval\t1\t-1\nval\t0a1b2c3d\nval\t10\t20\n") ≡ refused 20) ×
    (build 400 16384 (ascii "pair\t3\t2\nstr\t6162\nstr\t63\nstr\t\ntype\t1\t0\t-\t1\t3\nnew\t15,2,8\t1\nnew\t4,-12\t2\nnew\t12\t3\ntype\t2\t1\t0\t1\t1 new\t17,11\t1\nval\t1\t-1\nval\t0a1b2c3d\nval\t10\t20\n") ≡ refused 20) ×
    (build 400 16384 (ascii "pair\t3\t2\nstr\t6162\nstr\t63\nstr\t\ntype\t1\t0\t-\t1\t3\nnew\t15,2,8\t1\nnew\t4,-12\t2\nnew\t12\t3\ntype\t2\t1\t0\t1\t1\nnew 17,11\t1\nval\t1\t-1\nval\t0a1b2c3d\nval\t10\t20\n") ≡ refused 20) ×
    (build 400 16384 (ascii "pair\t3\t2\nstr\t6162\nstr\t63\nstr\t\ntype\t1\t0\t-\t1\t3\nnew\t15,2,8\t1\nnew\t4,-12\t2\nnew\t12\t3\ntype\t2\t1\t0\t1\t1\nnew\t17 11\t1\nval\t1\t-1\nval\t0a1b2c3d\nval\t10\t20\n") ≡ refused 20) ×
    (build 400 16384 (ascii "pair\t3\t2\nstr\t6162\nstr\t63\nstr\t\ntype\t1\t0\t-\t1\t3\nnew\t15,2,8\t1\nnew\t4,-12\t2\nnew\t12\t3\ntype\t2\t1\t0\t1\t1\nnew\t17,11 1\nval\t1\t-1\nval\t0a1b2c3d\nval\t10\t20\n") ≡ refused 20) ×
    (build 400 16384 (ascii "pair\t3\t2\nstr\t6162\nstr\t63\nstr\t\ntype\t1\t0\t-\t1\t3\nnew\t15,2,8\t1\nnew\t4,-12\t2\nnew\t12\t3\ntype\t2\t1\t0\t1\t1\nnew\t17,11\t1 val\t1\t-1\nval\t0a1b2c3d\nval\t10\t20\n") ≡ refused 20) ×
    (build 400 16384 (ascii "pair\t3\t2\nstr\t6162\nstr\t63\nstr\t\ntype\t1\t0\t-\t1\t3\nnew\t15,2,8\t1\nnew\t4,-12\t2\nnew\t12\t3\ntype\t2\t1\t0\t1\t1\nnew\t17,11\t1\nval 1\t-1\nval\t0a1b2c3d\nval\t10\t20\n") ≡ refused 20) ×
    (build 400 16384 (ascii "pair\t3\t2\nstr\t6162\nstr\t63\nstr\t\ntype\t1\t0\t-\t1\t3\nnew\t15,2,8\t1\nnew\t4,-12\t2\nnew\t12\t3\ntype\t2\t1\t0\t1\t1\nnew\t17,11\t1\nval\t1 -1\nval\t0a1b2c3d\nval\t10\t20\n") ≡ refused 20) ×
    (build 400 16384 (ascii "pair\t3\t2\nstr\t6162\nstr\t63\nstr\t\ntype\t1\t0\t-\t1\t3\nnew\t15,2,8\t1\nnew\t4,-12\t2\nnew\t12\t3\ntype\t2\t1\t0\t1\t1\nnew\t17,11\t1\nval\t1\t-1 val\t0a1b2c3d\nval\t10\t20\n") ≡ refused 20) ×
    (build 400 16384 (ascii "pair\t3\t2\nstr\t6162\nstr\t63\nstr\t\ntype\t1\t0\t-\t1\t3\nnew\t15,2,8\t1\nnew\t4,-12\t2\nnew\t12\t3\ntype\t2\t1\t0\t1\t1\nnew\t17,11\t1\nval\t1\t-1\nval 0a1b2c3d\nval\t10\t20\n") ≡ refused 20) ×
    (build 400 16384 (ascii "pair\t3\t2\nstr\t6162\nstr\t63\nstr\t\ntype\t1\t0\t-\t1\t3\nnew\t15,2,8\t1\nnew\t4,-12\t2\nnew\t12\t3\ntype\t2\t1\t0\t1\t1\nnew\t17,11\t1\nval\t1\t-1\nval\t0a1b2c3d val\t10\t20\n") ≡ refused 20) ×
    (build 400 16384 (ascii "pair\t3\t2\nstr\t6162\nstr\t63\nstr\t\ntype\t1\t0\t-\t1\t3\nnew\t15,2,8\t1\nnew\t4,-12\t2\nnew\t12\t3\ntype\t2\t1\t0\t1\t1\nnew\t17,11\t1\nval\t1\t-1\nval\t0a1b2c3d\nval 10\t20\n") ≡ refused 20) ×
    (build 400 16384 (ascii "pair\t3\t2\nstr\t6162\nstr\t63\nstr\t\ntype\t1\t0\t-\t1\t3\nnew\t15,2,8\t1\nnew\t4,-12\t2\nnew\t12\t3\ntype\t2\t1\t0\t1\t1\nnew\t17,11\t1\nval\t1\t-1\nval\t0a1b2c3d\nval\t10 20\n") ≡ refused 20) ×
    (build 400 16384 (ascii "pair\t3\t2\nstr\t6162\nstr\t63\nstr\t\ntype\t1\t0\t-\t1\t3\nnew\t15,2,8\t1\nnew\t4,-12\t2\nnew\t12\t3\ntype\t2\t1\t0\t1\t1\nnew\t17,11\t1\nval\t1\t-1\nval\t0a1b2c3d\nval\t10\t20 ") ≡ refused 20) ×
    (build 400 16384 (ascii "pair\t1\t1\nstr\t61\ntype\t1\t0\t-\t1\t1\nnew\t20,3,14,7,5\t1\nval\t1\t0\t2\t5\t0\t0\t-5\t1\t1\n") ≡ done (0x01 ∷ 0x00 ∷ 0x00 ∷ 0x00 ∷ 0x01 ∷ 0x61 ∷ 0x01 ∷ 0x01 ∷ 0x00 ∷ 0x01 ∷ 0x00 ∷ 0x01 ∷ 0x00 ∷ 0x14 ∷ 0x03 ∷ 0x0E ∷ 0x07 ∷ 0x05 ∷ 0x01 ∷ 0x09 ∷ 0x01 ∷ 0x00 ∷ 0x02 ∷ 0x05 ∷ 0x00 ∷ 0x00 ∷ 0xFB ∷ 0x01 ∷ 0x01 ∷ [])) ×
    (build 400 16384 (ascii "pair 1\t1\nstr\t61\ntype\t1\t0\t-\t1\t1\nnew\t20,3,14,7,5\t1\nval\t1\t0\t2\t5\t0\t0\t-5\t1\t1\n") ≡ refused 20) ×
    (build 400 16384 (ascii "pair\t1 1\nstr\t61\ntype\t1\t0\t-\t1\t1\nnew\t20,3,14,7,5\t1\nval\t1\t0\t2\t5\t0\t0\t-5\t1\t1\n") ≡ refused 20) ×
    (build 400 16384 (ascii "pair\t1\t1 str\t61\ntype\t1\t0\t-\t1\t1\nnew\t20,3,14,7,5\t1\nval\t1\t0\t2\t5\t0\t0\t-5\t1\t1\n") ≡ refused 20) ×
    (build 400 16384 (ascii "pair\t1\t1\nstr 61\ntype\t1\t0\t-\t1\t1\nnew\t20,3,14,7,5\t1\nval\t1\t0\t2\t5\t0\t0\t-5\t1\t1\n") ≡ refused 20) ×
    (build 400 16384 (ascii "pair\t1\t1\nstr\t61 type\t1\t0\t-\t1\t1\nnew\t20,3,14,7,5\t1\nval\t1\t0\t2\t5\t0\t0\t-5\t1\t1\n") ≡ refused 20) ×
    (build 400 16384 (ascii "pair\t1\t1\nstr\t61\ntype 1\t0\t-\t1\t1\nnew\t20,3,14,7,5\t1\nval\t1\t0\t2\t5\t0\t0\t-5\t1\t1\n") ≡ refused 20) ×
    (build 400 16384 (ascii "pair\t1\t1\nstr\t61\ntype\t1 0\t-\t1\t1\nnew\t20,3,14,7,5\t1\nval\t1\t0\t2\t5\t0\t0\t-5\t1\t1\n") ≡ refused 20) ×
    (build 400 16384 (ascii "pair\t1\t1\nstr\t61\ntype\t1\t0 -\t1\t1\nnew\t20,3,14,7,5\t1\nval\t1\t0\t2\t5\t0\t0\t-5\t1\t1\n") ≡ refused 20) ×
    (build 400 16384 (ascii "pair\t1\t1\nstr\t61\ntype\t1\t0\t- 1\t1\nnew\t20,3,14,7,5\t1\nval\t1\t0\t2\t5\t0\t0\t-5\t1\t1\n") ≡ refused 20) ×
    (build 400 16384 (ascii "pair\t1\t1\nstr\t61\ntype\t1\t0\t-\t1 1\nnew\t20,3,14,7,5\t1\nval\t1\t0\t2\t5\t0\t0\t-5\t1\t1\n") ≡ refused 20) ×
    (build 400 16384 (ascii "pair\t1\t1\nstr\t61\ntype\t1\t0\t-\t1\t1 new\t20,3,14,7,5\t1\nval\t1\t0\t2\t5\t0\t0\t-5\t1\t1\n") ≡ refused 20) ×
    (build 400 16384 (ascii "pair\t1\t1\nstr\t61\ntype\t1\t0\t-\t1\t1\nnew 20,3,14,7,5\t1\nval\t1\t0\t2\t5\t0\t0\t-5\t1\t1\n") ≡ refused 20) ×
    (build 400 16384 (ascii "pair\t1\t1\nstr\t61\ntype\t1\t0\t-\t1\t1\nnew\t20 3,14,7,5\t1\nval\t1\t0\t2\t5\t0\t0\t-5\t1\t1\n") ≡ refused 20) ×
    (build 400 16384 (ascii "pair\t1\t1\nstr\t61\ntype\t1\t0\t-\t1\t1\nnew\t20,3 14,7,5\t1\nval\t1\t0\t2\t5\t0\t0\t-5\t1\t1\n") ≡ refused 20) ×
    (build 400 16384 (ascii "pair\t1\t1\nstr\t61\ntype\t1\t0\t-\t1\t1\nnew\t20,3,14 7,5\t1\nval\t1\t0\t2\t5\t0\t0\t-5\t1\t1\n") ≡ refused 20) ×
    (build 400 16384 (ascii "pair\t1\t1\nstr\t61\ntype\t1\t0\t-\t1\t1\nnew\t20,3,14,7 5\t1\nval\t1\t0\t2\t5\t0\t0\t-5\t1\t1\n") ≡ refused 20) ×
    (build 400 16384 (ascii "pair\t1\t1\nstr\t61\ntype\t1\t0\t-\t1\t1\nnew\t20,3,14,7,5 1\nval\t1\t0\t2\t5\t0\t0\t-5\t1\t1\n") ≡ refused 20) ×
    (build 400 16384 (ascii "pair\t1\t1\nstr\t61\ntype\t1\t0\t-\t1\t1\nnew\t20,3,14,7,5\t1 val\t1\t0\t2\t5\t0\t0\t-5\t1\t1\n") ≡ refused 20) ×
    (build 400 16384 (ascii "pair\t1\t1\nstr\t61\ntype\t1\t0\t-\t1\t1\nnew\t20,3,14,7,5\t1\nval 1\t0\t2\t5\t0\t0\t-5\t1\t1\n") ≡ refused 20) ×
    (build 400 16384 (ascii "pair\t1\t1\nstr\t61\ntype\t1\t0\t-\t1\t1\nnew\t20,3,14,7,5\t1\nval\t1 0\t2\t5\t0\t0\t-5\t1\t1\n") ≡ refused 20) ×
    (build 400 16384 (ascii "pair\t1\t1\nstr\t61\ntype\t1\t0\t-\t1\t1\nnew\t20,3,14,7,5\t1\nval\t1\t0 2\t5\t0\t0\t-5\t1\t1\n") ≡ refused 20) ×
    (build 400 16384 (ascii "pair\t1\t1\nstr\t61\ntype\t1\t0\t-\t1\t1\nnew\t20,3,14,7,5\t1\nval\t1\t0\t2 5\t0\t0\t-5\t1\t1\n") ≡ refused 20) ×
    (build 400 16384 (ascii "pair\t1\t1\nstr\t61\ntype\t1\t0\t-\t1\t1\nnew\t20,3,14,7,5\t1\nval\t1\t0\t2\t5 0\t0\t-5\t1\t1\n") ≡ refused 20) ×
    (build 400 16384 (ascii "pair\t1\t1\nstr\t61\ntype\t1\t0\t-\t1\t1\nnew\t20,3,14,7,5\t1\nval\t1\t0\t2\t5\t0 0\t-5\t1\t1\n") ≡ refused 20) ×
    (build 400 16384 (ascii "pair\t1\t1\nstr\t61\ntype\t1\t0\t-\t1\t1\nnew\t20,3,14,7,5\t1\nval\t1\t0\t2\t5\t0\t0 -5\t1\t1\n") ≡ refused 20) ×
    (build 400 16384 (ascii "pair\t1\t1\nstr\t61\ntype\t1\t0\t-\t1\t1\nnew\t20,3,14,7,5\t1\nval\t1\t0\t2\t5\t0\t0\t-5 1\t1\n") ≡ refused 20) ×
    (build 400 16384 (ascii "pair\t1\t1\nstr\t61\ntype\t1\t0\t-\t1\t1\nnew\t20,3,14,7,5\t1\nval\t1\t0\t2\t5\t0\t0\t-5\t1 1\n") ≡ refused 20) ×
    (build 400 16384 (ascii "pair\t1\t1\nstr\t61\ntype\t1\t0\t-\t1\t1\nnew\t20,3,14,7,5\t1\nval\t1\t0\t2\t5\t0\t0\t-5\t1\t1 ") ≡ refused 20)
unfolding whole
separators-built = (refl, refl, refl, refl, refl, refl, refl, refl, refl, refl, refl, refl, refl, refl, refl, refl, refl, refl, refl, refl, refl, refl, refl, refl, refl, refl, refl, refl, refl, refl, refl, refl, refl, refl, refl, refl, refl, refl, refl, refl, refl, refl, refl, refl, refl, refl, refl, refl, refl, refl, refl, refl, refl, refl, refl, refl, refl, refl, refl, refl, refl, refl, refl, refl, refl, refl, refl, refl, refl, refl, refl, refl, refl, refl, refl)

-- each byte of a listing left out in turn
left-out-built :
    (build 400 16384 (ascii "air\t1\t1\nstr\t6a\ntype\t1\t0\t-\t1\t1\nnew\t17,11\t1\nval\t1\t-1\n") ≡ refused 20) ×
    (build 400 16384 (ascii "pir\t1\t1\nstr\t6a\ntype\t1\t0\t-\t1\t1\nnew\t17,11\t1\nval\t1\t-1\n") ≡ refused 20) ×
    (build 400 16384 (ascii "par\t1\t1\nstr\t6a\ntype\t1\t0\t-\t1\t1\nnew\t17,11\t1\nval\t1\t-1\n") ≡ refused 20) ×
    (build 400 16384 (ascii "pai\t1\t1\nstr\t6a\ntype\t1\t0\t-\t1\t1\nnew\t17,11\t1\nval\t1\t-1\n") ≡ refused 20) ×
    (build 400 16384 (ascii "pair1\t1\nstr\t6a\ntype\t1\t0\t-\t1\t1\nnew\t17,11\t1\nval\t1\t-1\n") ≡ refused 20) ×
    (build 400 16384 (ascii "pair\t\t1\nstr\t6a\ntype\t1\t0\t-\t1\t1\nnew\t17,11\t1\nval\t1\t-1\n") ≡ refused 20) ×
    (build 400 16384 (ascii "pair\t11\nstr\t6a\ntype\t1\t0\t-\t1\t1\nnew\t17,11\t1\nval\t1\t-1\n") ≡ refused 20) ×
    (build 400 16384 (ascii "pair\t1\t\nstr\t6a\ntype\t1\t0\t-\t1\t1\nnew\t17,11\t1\nval\t1\t-1\n") ≡ refused 20) ×
    (build 400 16384 (ascii "pair\t1\t1str\t6a\ntype\t1\t0\t-\t1\t1\nnew\t17,11\t1\nval\t1\t-1\n") ≡ refused 20) ×
    (build 400 16384 (ascii "pair\t1\t1\ntr\t6a\ntype\t1\t0\t-\t1\t1\nnew\t17,11\t1\nval\t1\t-1\n") ≡ refused 20) ×
    (build 400 16384 (ascii "pair\t1\t1\nsr\t6a\ntype\t1\t0\t-\t1\t1\nnew\t17,11\t1\nval\t1\t-1\n") ≡ refused 20) ×
    (build 400 16384 (ascii "pair\t1\t1\nst\t6a\ntype\t1\t0\t-\t1\t1\nnew\t17,11\t1\nval\t1\t-1\n") ≡ refused 20) ×
    (build 400 16384 (ascii "pair\t1\t1\nstr6a\ntype\t1\t0\t-\t1\t1\nnew\t17,11\t1\nval\t1\t-1\n") ≡ refused 20) ×
    (build 400 16384 (ascii "pair\t1\t1\nstr\ta\ntype\t1\t0\t-\t1\t1\nnew\t17,11\t1\nval\t1\t-1\n") ≡ refused 20) ×
    (build 400 16384 (ascii "pair\t1\t1\nstr\t6\ntype\t1\t0\t-\t1\t1\nnew\t17,11\t1\nval\t1\t-1\n") ≡ refused 20) ×
    (build 400 16384 (ascii "pair\t1\t1\nstr\t6atype\t1\t0\t-\t1\t1\nnew\t17,11\t1\nval\t1\t-1\n") ≡ refused 20) ×
    (build 400 16384 (ascii "pair\t1\t1\nstr\t6a\nype\t1\t0\t-\t1\t1\nnew\t17,11\t1\nval\t1\t-1\n") ≡ refused 20) ×
    (build 400 16384 (ascii "pair\t1\t1\nstr\t6a\ntpe\t1\t0\t-\t1\t1\nnew\t17,11\t1\nval\t1\t-1\n") ≡ refused 20) ×
    (build 400 16384 (ascii "pair\t1\t1\nstr\t6a\ntye\t1\t0\t-\t1\t1\nnew\t17,11\t1\nval\t1\t-1\n") ≡ refused 20) ×
    (build 400 16384 (ascii "pair\t1\t1\nstr\t6a\ntyp\t1\t0\t-\t1\t1\nnew\t17,11\t1\nval\t1\t-1\n") ≡ refused 20) ×
    (build 400 16384 (ascii "pair\t1\t1\nstr\t6a\ntype1\t0\t-\t1\t1\nnew\t17,11\t1\nval\t1\t-1\n") ≡ refused 20) ×
    (build 400 16384 (ascii "pair\t1\t1\nstr\t6a\ntype\t\t0\t-\t1\t1\nnew\t17,11\t1\nval\t1\t-1\n") ≡ refused 20) ×
    (build 400 16384 (ascii "pair\t1\t1\nstr\t6a\ntype\t10\t-\t1\t1\nnew\t17,11\t1\nval\t1\t-1\n") ≡ refused 20) ×
    (build 400 16384 (ascii "pair\t1\t1\nstr\t6a\ntype\t1\t\t-\t1\t1\nnew\t17,11\t1\nval\t1\t-1\n") ≡ refused 20) ×
    (build 400 16384 (ascii "pair\t1\t1\nstr\t6a\ntype\t1\t0-\t1\t1\nnew\t17,11\t1\nval\t1\t-1\n") ≡ refused 20) ×
    (build 400 16384 (ascii "pair\t1\t1\nstr\t6a\ntype\t1\t0\t\t1\t1\nnew\t17,11\t1\nval\t1\t-1\n") ≡ refused 20) ×
    (build 400 16384 (ascii "pair\t1\t1\nstr\t6a\ntype\t1\t0\t-1\t1\nnew\t17,11\t1\nval\t1\t-1\n") ≡ refused 20) ×
    (build 400 16384 (ascii "pair\t1\t1\nstr\t6a\ntype\t1\t0\t-\t\t1\nnew\t17,11\t1\nval\t1\t-1\n") ≡ refused 20) ×
    (build 400 16384 (ascii "pair\t1\t1\nstr\t6a\ntype\t1\t0\t-\t11\nnew\t17,11\t1\nval\t1\t-1\n") ≡ refused 20) ×
    (build 400 16384 (ascii "pair\t1\t1\nstr\t6a\ntype\t1\t0\t-\t1\t\nnew\t17,11\t1\nval\t1\t-1\n") ≡ refused 20) ×
    (build 400 16384 (ascii "pair\t1\t1\nstr\t6a\ntype\t1\t0\t-\t1\t1new\t17,11\t1\nval\t1\t-1\n") ≡ refused 20) ×
    (build 400 16384 (ascii "pair\t1\t1\nstr\t6a\ntype\t1\t0\t-\t1\t1\new\t17,11\t1\nval\t1\t-1\n") ≡ refused 20) ×
    (build 400 16384 (ascii "pair\t1\t1\nstr\t6a\ntype\t1\t0\t-\t1\t1\nnw\t17,11\t1\nval\t1\t-1\n") ≡ refused 20) ×
    (build 400 16384 (ascii "pair\t1\t1\nstr\t6a\ntype\t1\t0\t-\t1\t1\nne\t17,11\t1\nval\t1\t-1\n") ≡ refused 20) ×
    (build 400 16384 (ascii "pair\t1\t1\nstr\t6a\ntype\t1\t0\t-\t1\t1\nnew17,11\t1\nval\t1\t-1\n") ≡ refused 20) ×
    (build 400 16384 (ascii "pair\t1\t1\nstr\t6a\ntype\t1\t0\t-\t1\t1\nnew\t7,11\t1\nval\t1\t-1\n") ≡ refused 20) ×
    (build 400 16384 (ascii "pair\t1\t1\nstr\t6a\ntype\t1\t0\t-\t1\t1\nnew\t1,11\t1\nval\t1\t-1\n") ≡ refused 20) ×
    (build 400 16384 (ascii "pair\t1\t1\nstr\t6a\ntype\t1\t0\t-\t1\t1\nnew\t1711\t1\nval\t1\t-1\n") ≡ refused 20) ×
    (build 400 16384 (ascii "pair\t1\t1\nstr\t6a\ntype\t1\t0\t-\t1\t1\nnew\t17,1\t1\nval\t1\t-1\n") ≡ refused 20) ×
    (build 400 16384 (ascii "pair\t1\t1\nstr\t6a\ntype\t1\t0\t-\t1\t1\nnew\t17,1\t1\nval\t1\t-1\n") ≡ refused 20) ×
    (build 400 16384 (ascii "pair\t1\t1\nstr\t6a\ntype\t1\t0\t-\t1\t1\nnew\t17,111\nval\t1\t-1\n") ≡ refused 20) ×
    (build 400 16384 (ascii "pair\t1\t1\nstr\t6a\ntype\t1\t0\t-\t1\t1\nnew\t17,11\t\nval\t1\t-1\n") ≡ refused 20) ×
    (build 400 16384 (ascii "pair\t1\t1\nstr\t6a\ntype\t1\t0\t-\t1\t1\nnew\t17,11\t1val\t1\t-1\n") ≡ refused 20) ×
    (build 400 16384 (ascii "pair\t1\t1\nstr\t6a\ntype\t1\t0\t-\t1\t1\nnew\t17,11\t1\nal\t1\t-1\n") ≡ refused 20) ×
    (build 400 16384 (ascii "pair\t1\t1\nstr\t6a\ntype\t1\t0\t-\t1\t1\nnew\t17,11\t1\nvl\t1\t-1\n") ≡ refused 20) ×
    (build 400 16384 (ascii "pair\t1\t1\nstr\t6a\ntype\t1\t0\t-\t1\t1\nnew\t17,11\t1\nva\t1\t-1\n") ≡ refused 20) ×
    (build 400 16384 (ascii "pair\t1\t1\nstr\t6a\ntype\t1\t0\t-\t1\t1\nnew\t17,11\t1\nval1\t-1\n") ≡ refused 20) ×
    (build 400 16384 (ascii "pair\t1\t1\nstr\t6a\ntype\t1\t0\t-\t1\t1\nnew\t17,11\t1\nval\t\t-1\n") ≡ refused 20) ×
    (build 400 16384 (ascii "pair\t1\t1\nstr\t6a\ntype\t1\t0\t-\t1\t1\nnew\t17,11\t1\nval\t1-1\n") ≡ refused 20) ×
    (build 400 16384 (ascii "pair\t1\t1\nstr\t6a\ntype\t1\t0\t-\t1\t1\nnew\t17,11\t1\nval\t1\t1\n") ≡ done (0x01 ∷ 0x00 ∷ 0x00 ∷ 0x00 ∷ 0x01 ∷ 0x6A ∷ 0x01 ∷ 0x01 ∷ 0x00 ∷ 0x01 ∷ 0x00 ∷ 0x01 ∷ 0x00 ∷ 0x11 ∷ 0x0B ∷ 0x01 ∷ 0x03 ∷ 0x02 ∷ 0x01 ∷ 0x01 ∷ [])) ×
    (build 400 16384 (ascii "pair\t1\t1\nstr\t6a\ntype\t1\t0\t-\t1\t1\nnew\t17,11\t1\nval\t1\t-\n") ≡ refused 20) ×
    (build 400 16384 (ascii "pair\t1\t1\nstr\t6a\ntype\t1\t0\t-\t1\t1\nnew\t17,11\t1\nval\t1\t-1") ≡ refused 20) ×
    (build 400 16384 (ascii "pair\t1\t1\nstr\t6a\ntype\t1\t0\t-\t1\t1\nnew\t0,2,11,5\t1\nval\t1\t-1\t1\t1\n") ≡ refused 20) ×
    (build 400 16384 (ascii "pair\t1\t1\nstr\t6a\ntype\t1\t0\t-\t1\t1\nnew\t2,2,11,5\t1\nval\t1\t-1\t1\t1\n") ≡ refused 20) ×
    (build 400 16384 (ascii "pair\t1\t1\nstr\t6a\ntype\t1\t0\t-\t1\t1\nnew\t202,11,5\t1\nval\t1\t-1\t1\t1\n") ≡ refused 20) ×
    (build 400 16384 (ascii "pair\t1\t1\nstr\t6a\ntype\t1\t0\t-\t1\t1\nnew\t20,,11,5\t1\nval\t1\t-1\t1\t1\n") ≡ refused 20) ×
    (build 400 16384 (ascii "pair\t1\t1\nstr\t6a\ntype\t1\t0\t-\t1\t1\nnew\t20,211,5\t1\nval\t1\t-1\t1\t1\n") ≡ refused 20) ×
    (build 400 16384 (ascii "pair\t1\t1\nstr\t6a\ntype\t1\t0\t-\t1\t1\nnew\t20,2,1,5\t1\nval\t1\t-1\t1\t1\n") ≡ refused 20) ×
    (build 400 16384 (ascii "pair\t1\t1\nstr\t6a\ntype\t1\t0\t-\t1\t1\nnew\t20,2,1,5\t1\nval\t1\t-1\t1\t1\n") ≡ refused 20) ×
    (build 400 16384 (ascii "pair\t1\t1\nstr\t6a\ntype\t1\t0\t-\t1\t1\nnew\t20,2,115\t1\nval\t1\t-1\t1\t1\n") ≡ refused 20) ×
    (build 400 16384 (ascii "pair\t1\t1\nstr\t6a\ntype\t1\t0\t-\t1\t1\nnew\t20,2,11,\t1\nval\t1\t-1\t1\t1\n") ≡ refused 20) ×
    (build 400 16384 (ascii "pair\t1\t1\nstr\t6a\ntype\t1\t0\t-\t1\t1\nnew\t20,2,11,51\nval\t1\t-1\t1\t1\n") ≡ refused 20) ×
    (build 400 16384 (ascii "pair\t1\t1\nstr\t6a\ntype\t1\t0\t-\t1\t1\nnew\t20,2,11,5\t\nval\t1\t-1\t1\t1\n") ≡ refused 20) ×
    (build 400 16384 (ascii "pair\t1\t1\nstr\t6a\ntype\t1\t0\t-\t1\t1\nnew\t20,2,11,5\t1val\t1\t-1\t1\t1\n") ≡ refused 20) ×
    (build 400 16384 (ascii "pair\t1\t1\nstr\t6a\ntype\t1\t0\t-\t1\t1\nnew\t20,2,11,5\t1\nal\t1\t-1\t1\t1\n") ≡ refused 20) ×
    (build 400 16384 (ascii "pair\t1\t1\nstr\t6a\ntype\t1\t0\t-\t1\t1\nnew\t20,2,11,5\t1\nvl\t1\t-1\t1\t1\n") ≡ refused 20) ×
    (build 400 16384 (ascii "pair\t1\t1\nstr\t6a\ntype\t1\t0\t-\t1\t1\nnew\t20,2,11,5\t1\nva\t1\t-1\t1\t1\n") ≡ refused 20) ×
    (build 400 16384 (ascii "pair\t1\t1\nstr\t6a\ntype\t1\t0\t-\t1\t1\nnew\t20,2,11,5\t1\nval1\t-1\t1\t1\n") ≡ refused 20) ×
    (build 400 16384 (ascii "pair\t1\t1\nstr\t6a\ntype\t1\t0\t-\t1\t1\nnew\t20,2,11,5\t1\nval\t\t-1\t1\t1\n") ≡ refused 20) ×
    (build 400 16384 (ascii "pair\t1\t1\nstr\t6a\ntype\t1\t0\t-\t1\t1\nnew\t20,2,11,5\t1\nval\t1-1\t1\t1\n") ≡ refused 20) ×
    (build 400 16384 (ascii "pair\t1\t1\nstr\t6a\ntype\t1\t0\t-\t1\t1\nnew\t20,2,11,5\t1\nval\t1\t1\t1\t1\n") ≡ done (0x01 ∷ 0x00 ∷ 0x00 ∷ 0x00 ∷ 0x01 ∷ 0x6A ∷ 0x01 ∷ 0x01 ∷ 0x00 ∷ 0x01 ∷ 0x00 ∷ 0x01 ∷ 0x00 ∷ 0x14 ∷ 0x02 ∷ 0x0B ∷ 0x05 ∷ 0x01 ∷ 0x04 ∷ 0x01 ∷ 0x01 ∷ 0x01 ∷ 0x01 ∷ [])) ×
    (build 400 16384 (ascii "pair\t1\t1\nstr\t6a\ntype\t1\t0\t-\t1\t1\nnew\t20,2,11,5\t1\nval\t1\t-\t1\t1\n") ≡ refused 20) ×
    (build 400 16384 (ascii "pair\t1\t1\nstr\t6a\ntype\t1\t0\t-\t1\t1\nnew\t20,2,11,5\t1\nval\t1\t-11\t1\n") ≡ refused 20) ×
    (build 400 16384 (ascii "pair\t1\t1\nstr\t6a\ntype\t1\t0\t-\t1\t1\nnew\t20,2,11,5\t1\nval\t1\t-1\t\t1\n") ≡ refused 20) ×
    (build 400 16384 (ascii "pair\t1\t1\nstr\t6a\ntype\t1\t0\t-\t1\t1\nnew\t20,2,11,5\t1\nval\t1\t-1\t11\n") ≡ refused 20) ×
    (build 400 16384 (ascii "pair\t1\t1\nstr\t6a\ntype\t1\t0\t-\t1\t1\nnew\t20,2,11,5\t1\nval\t1\t-1\t1\t\n") ≡ refused 20) ×
    (build 400 16384 (ascii "pair\t1\t1\nstr\t6a\ntype\t1\t0\t-\t1\t1\nnew\t20,2,11,5\t1\nval\t1\t-1\t1\t1") ≡ refused 20)
unfolding whole
left-out-built = (refl, refl, refl, refl, refl, refl, refl, refl, refl, refl, refl, refl, refl, refl, refl, refl, refl, refl, refl, refl, refl, refl, refl, refl, refl, refl, refl, refl, refl, refl, refl, refl, refl, refl, refl, refl, refl, refl, refl, refl, refl, refl, refl, refl, refl, refl, refl, refl, refl, refl, refl, refl, refl, refl, refl, refl, refl, refl, refl, refl, refl, refl, refl, refl, refl, refl, refl, refl, refl, refl, refl, refl, refl, refl, refl, refl, refl)

-- a number cut in its padding
abbrev lent_cut : List ℕ
lent_cut =
    0x80 ∷ 0x80 ∷ 0x80 ∷ 0x80 ∷ 0x80 ∷ 0x80 ∷ 0x80 ∷ 0x80 ∷ []

-- the table after a check, accepted and refused
after-check :
    (after_check two (replicate 16384 7 ++ 8 ∷ 9 ∷ []) ≡ record { answer = done 0; table = (replicate 16384 0 ++ 8 ∷ 9 ∷ []); output = [] }) ×
    (after_check two (5 ∷ replicate 16382 7 ++ []) ≡ record { answer = refused 15; table = (5 ∷ replicate 16382 7 ++ []); output = [] }) ×
    (after_check two ([]) ≡ record { answer = refused 15; table = ([]); output = [] }) ×
    (after_check lent_cut (5 ∷ replicate 16382 7 ++ 6 ∷ []) ≡ record { answer = refused 1; table = (replicate 16384 0 ++ []); output = [] })
unfolding whole
after-check = (refl, refl, refl, refl)

-- the table after a question for objects
after-objects :
    (after_objects two (ascii "a") (replicate 16384 7 ++ 8 ∷ 9 ∷ []) ≡ record { answer = done 2; table = (replicate 16384 0 ++ 8 ∷ 9 ∷ []); output = [] }) ×
    (after_objects two (ascii "a") (5 ∷ replicate 16382 7 ++ []) ≡ record { answer = refused 15; table = (5 ∷ replicate 16382 7 ++ []); output = [] }) ×
    (after_objects two (ascii "z") (5 ∷ replicate 16382 7 ++ 6 ∷ []) ≡ record { answer = refused 16; table = (replicate 16384 0 ++ []); output = [] })
unfolding whole
after-objects = (refl, refl, refl)

-- the table after a question for how many: longer than needed, enough, one short
after-count :
    (after_count two (ascii "a") (ascii "b") 7 (replicate 16384 7 ++ 8 ∷ 9 ∷ []) ≡ record { answer = done 2; table = (replicate 16384 0 ++ 8 ∷ 9 ∷ []); output = [] }) ×
    (after_count two (ascii "a") (ascii "b") 7 (5 ∷ replicate 16382 7 ++ 6 ∷ []) ≡ record { answer = done 2; table = (replicate 16384 0 ++ []); output = [] }) ×
    (after_count two (ascii "a") (ascii "b") 7 (5 ∷ replicate 16382 7 ++ []) ≡ record { answer = refused 15; table = (5 ∷ replicate 16382 7 ++ []); output = [] }) ×
    (after_count two (ascii "a") (ascii "b") 8 (replicate 16384 7 ++ 8 ∷ 9 ∷ []) ≡ record { answer = refused 18; table = (replicate 16384 0 ++ 8 ∷ 9 ∷ []); output = [] }) ×
    (after_count lent_cut (ascii "a") (ascii "b") 7 (5 ∷ replicate 16382 7 ++ 6 ∷ []) ≡ record { answer = refused 1; table = (replicate 16384 0 ++ []); output = [] })
unfolding whole
after-count = (refl, refl, refl, refl, refl)

-- table and output after values were filled in: longer than needed, enough, one short
after-fill :
    (after_fill two (ascii "a") (ascii "b") 7 (replicate 16384 7 ++ 8 ∷ 9 ∷ []) (negsuc 3 ∷ negsuc 3 ∷ negsuc 3 ∷ negsuc 3 ∷ []) ≡ record { answer = done 2; table = (replicate 16384 0 ++ 8 ∷ 9 ∷ []); output = (pos 5 ∷ negsuc 0 ∷ negsuc 3 ∷ negsuc 3 ∷ []) }) ×
    (after_fill two (ascii "a") (ascii "b") 7 (replicate 16384 7 ++ 8 ∷ 9 ∷ []) (negsuc 3 ∷ []) ≡ record { answer = refused 19; table = (replicate 16384 0 ++ 8 ∷ 9 ∷ []); output = (negsuc 3 ∷ []) }) ×
    (after_fill two (ascii "a") (ascii "b") 7 (5 ∷ replicate 16382 7 ++ 6 ∷ []) (negsuc 3 ∷ negsuc 3 ∷ []) ≡ record { answer = done 2; table = (replicate 16384 0 ++ []); output = (pos 5 ∷ negsuc 0 ∷ []) }) ×
    (after_fill two (ascii "a") (ascii "b") 7 (5 ∷ replicate 16382 7 ++ []) (negsuc 3 ∷ negsuc 3 ∷ negsuc 3 ∷ negsuc 3 ∷ []) ≡ record { answer = refused 15; table = (5 ∷ replicate 16382 7 ++ []); output = (negsuc 3 ∷ negsuc 3 ∷ negsuc 3 ∷ negsuc 3 ∷ []) }) ×
    (after_fill lent_cut (ascii "a") (ascii "b") 7 (replicate 16384 7 ++ 8 ∷ 9 ∷ []) (negsuc 3 ∷ negsuc 3 ∷ negsuc 3 ∷ negsuc 3 ∷ []) ≡ record { answer = refused 1; table = (replicate 16384 0 ++ 8 ∷ 9 ∷ []); output = (negsuc 3 ∷ negsuc 3 ∷ negsuc 3 ∷ negsuc 3 ∷ []) })
unfolding whole
after-fill = (refl, refl, refl, refl, refl)

-- table and output after a listing
after-listing :
    (after_listing two (replicate 16384 7 ++ 8 ∷ 9 ∷ []) (replicate 61 1 ++ []) ≡ record { answer = done 59; table = (replicate 16384 0 ++ 8 ∷ 9 ∷ []); output = (112 ∷ 97 ∷ 105 ∷ 114 ∷ 9 ∷ 50 ∷ 9 ∷ 49 ∷ 10 ∷ 115 ∷ 116 ∷ 114 ∷ 9 ∷ 54 ∷ 49 ∷ 10 ∷ 115 ∷ 116 ∷ 114 ∷ 9 ∷ 54 ∷ 50 ∷ 10 ∷ 116 ∷ 121 ∷ 112 ∷ 101 ∷ 9 ∷ 49 ∷ 9 ∷ 48 ∷ 9 ∷ 45 ∷ 9 ∷ 50 ∷ 9 ∷ 49 ∷ 10 ∷ 110 ∷ 101 ∷ 119 ∷ 9 ∷ 55 ∷ 9 ∷ 50 ∷ 10 ∷ 118 ∷ 97 ∷ 108 ∷ 9 ∷ 53 ∷ 10 ∷ 118 ∷ 97 ∷ 108 ∷ 9 ∷ 45 ∷ 49 ∷ 10 ∷ 1 ∷ 1 ∷ []) }) ×
    (after_listing two (replicate 16384 7 ++ 8 ∷ 9 ∷ []) (replicate 58 1 ++ []) ≡ record { answer = refused 19; table = (replicate 16384 0 ++ 8 ∷ 9 ∷ []); output = (replicate 58 1 ++ []) }) ×
    (after_listing two (5 ∷ replicate 16382 7 ++ []) (replicate 59 1 ++ []) ≡ record { answer = refused 15; table = (5 ∷ replicate 16382 7 ++ []); output = (replicate 59 1 ++ []) }) ×
    (after_listing lent_cut (5 ∷ replicate 16382 7 ++ 6 ∷ []) (replicate 61 1 ++ []) ≡ record { answer = refused 1; table = (replicate 16384 0 ++ []); output = (replicate 61 1 ++ []) })
unfolding whole
after-listing = (refl, refl, refl, refl)

-- table and output after a build
after-build :
    (after_build (ascii "pair\t2\t1\nstr\t61\nstr\t62\ntype\t1\t0\t-\t2\t1\nnew\t7\t2\nval\t5\nval\t-1\n") (replicate 16384 7 ++ 8 ∷ 9 ∷ []) (replicate 25 1 ++ []) ≡ record { answer = done 23; table = (replicate 16384 0 ++ 8 ∷ 9 ∷ []); output = (2 ∷ 0 ∷ 0 ∷ 0 ∷ 1 ∷ 0 ∷ 0 ∷ 0 ∷ 2 ∷ 97 ∷ 98 ∷ 1 ∷ 1 ∷ 0 ∷ 2 ∷ 0 ∷ 1 ∷ 0 ∷ 7 ∷ 2 ∷ 2 ∷ 5 ∷ 255 ∷ 1 ∷ 1 ∷ []) }) ×
    (after_build (ascii "pair\t2\t1\nstr\t61\nstr\t62\ntype\t1\t0\t-\t2\t1\nnew\t7\t2\nval\t5\nval\t-1\n") (replicate 16384 7 ++ 8 ∷ 9 ∷ []) (replicate 22 1 ++ []) ≡ record { answer = refused 19; table = (replicate 16384 0 ++ 8 ∷ 9 ∷ []); output = (replicate 22 1 ++ []) }) ×
    (after_build (ascii "pair\t2\t1\nstr\t61\nstr\t62\ntype\t1\t0\t-\t2\t1\nnew\t7\t2\nval\t5\nval\t-1\n") (5 ∷ replicate 16382 7 ++ []) (replicate 23 1 ++ []) ≡ record { answer = refused 15; table = (5 ∷ replicate 16382 7 ++ []); output = (replicate 23 1 ++ []) }) ×
    (after_build (ascii "pair\t0\t0") (5 ∷ replicate 16382 7 ++ 6 ∷ []) (replicate 25 1 ++ []) ≡ record { answer = refused 20; table = (replicate 16384 0 ++ []); output = (replicate 25 1 ++ []) })
unfolding whole
after-build = (refl, refl, refl, refl)

-- a map with an annotation
abbrev lent_map : List ℕ
lent_map =
    0x01 ∷ 0x00 ∷ 0x00 ∷ 0x00 ∷ 0x01 ∷ 0x61 ∷ 0x01 ∷ 0x01 ∷ 0x00 ∷ 0x01 ∷ 0x00 ∷ 0x01 ∷ 0x00 ∷ 0x14 ∷ 0x02 ∷ 0x07 ∷ 0x05 ∷ 0x01 ∷ 0x04 ∷ 0x01 ∷ 0xFF ∷ 0x01 ∷ 0x01 ∷ []

-- table and output after questions about a map
after-maps :
    (after_fill lent_map (ascii "a") (ascii "a") 20 (replicate 16384 7 ++ 8 ∷ 9 ∷ []) (negsuc 3 ∷ negsuc 3 ∷ negsuc 3 ∷ []) ≡ record { answer = refused 18; table = (replicate 16384 0 ++ 8 ∷ 9 ∷ []); output = (negsuc 3 ∷ negsuc 3 ∷ negsuc 3 ∷ []) }) ×
    (after_listing lent_map (replicate 16384 7 ++ 8 ∷ 9 ∷ []) (replicate 61 1 ++ []) ≡ record { answer = done 59; table = (replicate 16384 0 ++ 8 ∷ 9 ∷ []); output = (112 ∷ 97 ∷ 105 ∷ 114 ∷ 9 ∷ 49 ∷ 9 ∷ 49 ∷ 10 ∷ 115 ∷ 116 ∷ 114 ∷ 9 ∷ 54 ∷ 49 ∷ 10 ∷ 116 ∷ 121 ∷ 112 ∷ 101 ∷ 9 ∷ 49 ∷ 9 ∷ 48 ∷ 9 ∷ 45 ∷ 9 ∷ 49 ∷ 9 ∷ 49 ∷ 10 ∷ 110 ∷ 101 ∷ 119 ∷ 9 ∷ 50 ∷ 48 ∷ 44 ∷ 50 ∷ 44 ∷ 55 ∷ 44 ∷ 53 ∷ 9 ∷ 49 ∷ 10 ∷ 118 ∷ 97 ∷ 108 ∷ 9 ∷ 49 ∷ 9 ∷ 45 ∷ 49 ∷ 9 ∷ 49 ∷ 9 ∷ 49 ∷ 10 ∷ 1 ∷ 1 ∷ []) }) ×
    (after_listing lent_map (5 ∷ replicate 16382 7 ++ 6 ∷ []) (replicate 58 1 ++ []) ≡ record { answer = refused 19; table = (replicate 16384 0 ++ []); output = (replicate 58 1 ++ []) }) ×
    (after_build (ascii "pair\t1\t1\nstr\t61\ntype\t1\t0\t-\t1\t1\nnew\t20,2,7,5\t1\nval\t1\t-1\t1\t1\n") (replicate 16384 7 ++ 8 ∷ 9 ∷ []) (replicate 25 1 ++ []) ≡ record { answer = done 23; table = (replicate 16384 0 ++ 8 ∷ 9 ∷ []); output = (1 ∷ 0 ∷ 0 ∷ 0 ∷ 1 ∷ 97 ∷ 1 ∷ 1 ∷ 0 ∷ 1 ∷ 0 ∷ 1 ∷ 0 ∷ 20 ∷ 2 ∷ 7 ∷ 5 ∷ 1 ∷ 4 ∷ 1 ∷ 255 ∷ 1 ∷ 1 ∷ 1 ∷ 1 ∷ []) }) ×
    (after_build (ascii "pair\t1\t1\nstr\t61\ntype\t1\t0\t-\t1\t1\nnew\t20,2,7,5\t1\nval\t1\t-1\t1\t1\n") (5 ∷ replicate 16382 7 ++ 6 ∷ []) (replicate 22 1 ++ []) ≡ record { answer = refused 19; table = (replicate 16384 0 ++ []); output = (replicate 22 1 ++ []) })
unfolding whole
after-maps = (refl, refl, refl, refl, refl)

-- the file two with every number in nine bytes
abbrev nine : List ℕ
nine =
    0x82 ∷ 0x80 ∷ 0x80 ∷ 0x80 ∷ 0x80 ∷ 0x80 ∷ 0x80 ∷ 0x80 ∷ 0x00 ∷ 0x00 ∷ 0x00 ∷ 0x00 ∷ 0x01 ∷ 0x00 ∷ 0x00 ∷ 0x00 ∷ 0x02 ∷ 0x61 ∷ 0x62 ∷ 0x81 ∷ 0x80 ∷ 0x80 ∷ 0x80 ∷ 0x80 ∷ 0x80 ∷ 0x80 ∷ 0x80 ∷ 0x00 ∷ 0x81 ∷ 0x80 ∷ 0x80 ∷ 0x80 ∷ 0x80 ∷ 0x80 ∷ 0x80 ∷ 0x80 ∷ 0x00 ∷ 0x80 ∷ 0x80 ∷ 0x80 ∷ 0x80 ∷ 0x80 ∷ 0x80 ∷ 0x80 ∷ 0x80 ∷ 0x00 ∷ 0x82 ∷ 0x80 ∷ 0x80 ∷ 0x80 ∷ 0x80 ∷ 0x80 ∷ 0x80 ∷ 0x80 ∷ 0x00 ∷ 0x80 ∷ 0x80 ∷ 0x80 ∷ 0x80 ∷ 0x80 ∷ 0x80 ∷ 0x80 ∷ 0x80 ∷ 0x00 ∷ 0x81 ∷ 0x80 ∷ 0x80 ∷ 0x80 ∷ 0x80 ∷ 0x80 ∷ 0x80 ∷ 0x80 ∷ 0x00 ∷ 0x80 ∷ 0x80 ∷ 0x80 ∷ 0x80 ∷ 0x80 ∷ 0x80 ∷ 0x80 ∷ 0x80 ∷ 0x00 ∷ 0x87 ∷ 0x80 ∷ 0x80 ∷ 0x80 ∷ 0x80 ∷ 0x80 ∷ 0x80 ∷ 0x80 ∷ 0x00 ∷ 0x82 ∷ 0x80 ∷ 0x80 ∷ 0x80 ∷ 0x80 ∷ 0x80 ∷ 0x80 ∷ 0x80 ∷ 0x00 ∷ 0x82 ∷ 0x80 ∷ 0x80 ∷ 0x80 ∷ 0x80 ∷ 0x80 ∷ 0x80 ∷ 0x80 ∷ 0x00 ∷ 0x05 ∷ 0xFF ∷ []

-- a file and the same with padded numbers have the same answers
padded-asked :
    (check 16384 two ≡ done 0) ×
    (check 16383 two ≡ refused 15) ×
    (objects (ascii "a") 16384 two ≡ done 2) ×
    (objects (ascii "b") 16384 two ≡ refused 16) ×
    (count_values (ascii "a") (ascii "b") 7 16384 two ≡ done 2) ×
    (fill_values (ascii "a") (ascii "b") 7 2 16384 two ≡ done (pos 5 ∷ negsuc 0 ∷ [])) ×
    (fill_values (ascii "a") (ascii "b") 7 1 16384 two ≡ refused 19) ×
    (fill_values (ascii "a") (ascii "b") 8 2 16384 two ≡ refused 18) ×
    (fill_values (ascii "a") (ascii "c") 7 2 16384 two ≡ refused 17) ×
    (check 16384 nine ≡ done 0) ×
    (check 16383 nine ≡ refused 15) ×
    (objects (ascii "a") 16384 nine ≡ done 2) ×
    (objects (ascii "b") 16384 nine ≡ refused 16) ×
    (count_values (ascii "a") (ascii "b") 7 16384 nine ≡ done 2) ×
    (fill_values (ascii "a") (ascii "b") 7 2 16384 nine ≡ done (pos 5 ∷ negsuc 0 ∷ [])) ×
    (fill_values (ascii "a") (ascii "b") 7 1 16384 nine ≡ refused 19) ×
    (fill_values (ascii "a") (ascii "b") 8 2 16384 nine ≡ refused 18) ×
    (fill_values (ascii "a") (ascii "c") 7 2 16384 nine ≡ refused 17)
unfolding whole
padded-asked = (refl, refl, refl, refl, refl, refl, refl, refl, refl, refl, refl, refl, refl, refl, refl, refl, refl, refl)

-- its listing does not show padding, and the file built from it has none
nine-listed :
    (listing 59 16384 nine ≡ done (ascii "pair\t2\t1\nstr\t61\nstr\t62\ntype\t1\t0\t-\t2\t1\nnew\t7\t2\nval\t5\nval\t-1\n")) ×
    (listing 58 16384 nine ≡ refused 19) ×
    (build 22 16384 (ascii "pair\t2\t1\nstr\t61\nstr\t62\ntype\t1\t0\t-\t2\t1\nnew\t7\t2\nval\t5\nval\t-1\n") ≡ refused 19) ×
    (build 23 16384 (ascii "pair\t2\t1\nstr\t61\nstr\t62\ntype\t1\t0\t-\t2\t1\nnew\t7\t2\nval\t5\nval\t-1\n") ≡ done (0x02 ∷ 0x00 ∷ 0x00 ∷ 0x00 ∷ 0x01 ∷ 0x00 ∷ 0x00 ∷ 0x00 ∷ 0x02 ∷ 0x61 ∷ 0x62 ∷ 0x01 ∷ 0x01 ∷ 0x00 ∷ 0x02 ∷ 0x00 ∷ 0x01 ∷ 0x00 ∷ 0x07 ∷ 0x02 ∷ 0x02 ∷ 0x05 ∷ 0xFF ∷ [])) ×
    (build 111 16384 (ascii "pair\t2\t1\nstr\t61\nstr\t62\ntype\t1\t0\t-\t2\t1\nnew\t7\t2\nval\t5\nval\t-1\n") ≡ done (0x02 ∷ 0x00 ∷ 0x00 ∷ 0x00 ∷ 0x01 ∷ 0x00 ∷ 0x00 ∷ 0x00 ∷ 0x02 ∷ 0x61 ∷ 0x62 ∷ 0x01 ∷ 0x01 ∷ 0x00 ∷ 0x02 ∷ 0x00 ∷ 0x01 ∷ 0x00 ∷ 0x07 ∷ 0x02 ∷ 0x02 ∷ 0x05 ∷ 0xFF ∷ []))
unfolding whole
nine-listed = (refl, refl, refl, refl, refl)

-- v64 values with every number in nine bytes
abbrev nine-values : List ℕ
nine-values =
    0x82 ∷ 0x80 ∷ 0x80 ∷ 0x80 ∷ 0x80 ∷ 0x80 ∷ 0x80 ∷ 0x80 ∷ 0x00 ∷ 0x00 ∷ 0x00 ∷ 0x00 ∷ 0x01 ∷ 0x00 ∷ 0x00 ∷ 0x00 ∷ 0x02 ∷ 0x61 ∷ 0x62 ∷ 0x81 ∷ 0x80 ∷ 0x80 ∷ 0x80 ∷ 0x80 ∷ 0x80 ∷ 0x80 ∷ 0x80 ∷ 0x00 ∷ 0x81 ∷ 0x80 ∷ 0x80 ∷ 0x80 ∷ 0x80 ∷ 0x80 ∷ 0x80 ∷ 0x80 ∷ 0x00 ∷ 0x80 ∷ 0x80 ∷ 0x80 ∷ 0x80 ∷ 0x80 ∷ 0x80 ∷ 0x80 ∷ 0x80 ∷ 0x00 ∷ 0x82 ∷ 0x80 ∷ 0x80 ∷ 0x80 ∷ 0x80 ∷ 0x80 ∷ 0x80 ∷ 0x80 ∷ 0x00 ∷ 0x80 ∷ 0x80 ∷ 0x80 ∷ 0x80 ∷ 0x80 ∷ 0x80 ∷ 0x80 ∷ 0x80 ∷ 0x00 ∷ 0x81 ∷ 0x80 ∷ 0x80 ∷ 0x80 ∷ 0x80 ∷ 0x80 ∷ 0x80 ∷ 0x80 ∷ 0x00 ∷ 0x80 ∷ 0x80 ∷ 0x80 ∷ 0x80 ∷ 0x80 ∷ 0x80 ∷ 0x80 ∷ 0x80 ∷ 0x00 ∷ 0x8B ∷ 0x80 ∷ 0x80 ∷ 0x80 ∷ 0x80 ∷ 0x80 ∷ 0x80 ∷ 0x80 ∷ 0x00 ∷ 0x82 ∷ 0x80 ∷ 0x80 ∷ 0x80 ∷ 0x80 ∷ 0x80 ∷ 0x80 ∷ 0x80 ∷ 0x00 ∷ 0x92 ∷ 0x80 ∷ 0x80 ∷ 0x80 ∷ 0x80 ∷ 0x80 ∷ 0x80 ∷ 0x80 ∷ 0x00 ∷ 0x80 ∷ 0x82 ∷ 0x80 ∷ 0x80 ∷ 0x80 ∷ 0x80 ∷ 0x80 ∷ 0x80 ∷ 0x00 ∷ 0xFF ∷ 0xFF ∷ 0xFF ∷ 0xFF ∷ 0xFF ∷ 0xFF ∷ 0xFF ∷ 0xFF ∷ 0xFF ∷ []

-- how many padded numbers, and their values
padded-values :
    (count_values (ascii "a") (ascii "b") 11 16384 nine-values ≡ done 2) ×
    (fill_values (ascii "a") (ascii "b") 11 2 16384 nine-values ≡ done (pos 256 ∷ negsuc 0 ∷ [])) ×
    (fill_values (ascii "a") (ascii "b") 11 1 16384 nine-values ≡ refused 19)
unfolding whole
padded-values = (refl, refl, refl)

-- its listing does not show padding, and the file built from it has none
nine-values-listed :
    (listing 62 16384 nine-values ≡ done (ascii "pair\t2\t1\nstr\t61\nstr\t62\ntype\t1\t0\t-\t2\t1\nnew\t11\t2\nval\t256\nval\t-1\n")) ×
    (listing 61 16384 nine-values ≡ refused 19) ×
    (build 31 16384 (ascii "pair\t2\t1\nstr\t61\nstr\t62\ntype\t1\t0\t-\t2\t1\nnew\t11\t2\nval\t256\nval\t-1\n") ≡ refused 19) ×
    (build 32 16384 (ascii "pair\t2\t1\nstr\t61\nstr\t62\ntype\t1\t0\t-\t2\t1\nnew\t11\t2\nval\t256\nval\t-1\n") ≡ done (0x02 ∷ 0x00 ∷ 0x00 ∷ 0x00 ∷ 0x01 ∷ 0x00 ∷ 0x00 ∷ 0x00 ∷ 0x02 ∷ 0x61 ∷ 0x62 ∷ 0x01 ∷ 0x01 ∷ 0x00 ∷ 0x02 ∷ 0x00 ∷ 0x01 ∷ 0x00 ∷ 0x0B ∷ 0x02 ∷ 0x0B ∷ 0x80 ∷ 0x02 ∷ 0xFF ∷ 0xFF ∷ 0xFF ∷ 0xFF ∷ 0xFF ∷ 0xFF ∷ 0xFF ∷ 0xFF ∷ 0xFF ∷ [])) ×
    (build 127 16384 (ascii "pair\t2\t1\nstr\t61\nstr\t62\ntype\t1\t0\t-\t2\t1\nnew\t11\t2\nval\t256\nval\t-1\n") ≡ done (0x02 ∷ 0x00 ∷ 0x00 ∷ 0x00 ∷ 0x01 ∷ 0x00 ∷ 0x00 ∷ 0x00 ∷ 0x02 ∷ 0x61 ∷ 0x62 ∷ 0x01 ∷ 0x01 ∷ 0x00 ∷ 0x02 ∷ 0x00 ∷ 0x01 ∷ 0x00 ∷ 0x0B ∷ 0x02 ∷ 0x0B ∷ 0x80 ∷ 0x02 ∷ 0xFF ∷ 0xFF ∷ 0xFF ∷ 0xFF ∷ 0xFF ∷ 0xFF ∷ 0xFF ∷ 0xFF ∷ 0xFF ∷ []))
unfolding whole
nine-values-listed = (refl, refl, refl, refl, refl)

-- table and output after questions about padded numbers
after-padded :
    (after_check nine (replicate 16384 7 ++ 8 ∷ []) ≡ record { answer = done 0; table = (replicate 16384 0 ++ 8 ∷ []); output = [] }) ×
    (after_count nine (ascii "a") (ascii "b") 7 (replicate 16384 7 ++ 8 ∷ []) ≡ record { answer = done 2; table = (replicate 16384 0 ++ 8 ∷ []); output = [] }) ×
    (after_fill nine (ascii "a") (ascii "b") 7 (replicate 16384 7 ++ 8 ∷ []) (negsuc 3 ∷ negsuc 3 ∷ negsuc 3 ∷ []) ≡ record { answer = done 2; table = (replicate 16384 0 ++ 8 ∷ []); output = (pos 5 ∷ negsuc 0 ∷ negsuc 3 ∷ []) }) ×
    (after_listing nine (replicate 16384 7 ++ 8 ∷ []) (replicate 60 1 ++ []) ≡ record { answer = done 59; table = (replicate 16384 0 ++ 8 ∷ []); output = (112 ∷ 97 ∷ 105 ∷ 114 ∷ 9 ∷ 50 ∷ 9 ∷ 49 ∷ 10 ∷ 115 ∷ 116 ∷ 114 ∷ 9 ∷ 54 ∷ 49 ∷ 10 ∷ 115 ∷ 116 ∷ 114 ∷ 9 ∷ 54 ∷ 50 ∷ 10 ∷ 116 ∷ 121 ∷ 112 ∷ 101 ∷ 9 ∷ 49 ∷ 9 ∷ 48 ∷ 9 ∷ 45 ∷ 9 ∷ 50 ∷ 9 ∷ 49 ∷ 10 ∷ 110 ∷ 101 ∷ 119 ∷ 9 ∷ 55 ∷ 9 ∷ 50 ∷ 10 ∷ 118 ∷ 97 ∷ 108 ∷ 9 ∷ 53 ∷ 10 ∷ 118 ∷ 97 ∷ 108 ∷ 9 ∷ 45 ∷ 49 ∷ 10 ∷ 1 ∷ []) }) ×
    (after_build (ascii "pair\t2\t1\nstr\t61\nstr\t62\ntype\t1\t0\t-\t2\t1\nnew\t7\t2\nval\t5\nval\t-1\n") (replicate 16384 7 ++ 8 ∷ []) (replicate 25 1 ++ []) ≡ record { answer = done 23; table = (replicate 16384 0 ++ 8 ∷ []); output = (2 ∷ 0 ∷ 0 ∷ 0 ∷ 1 ∷ 0 ∷ 0 ∷ 0 ∷ 2 ∷ 97 ∷ 98 ∷ 1 ∷ 1 ∷ 0 ∷ 2 ∷ 0 ∷ 1 ∷ 0 ∷ 7 ∷ 2 ∷ 2 ∷ 5 ∷ 255 ∷ 1 ∷ 1 ∷ []) })
unfolding whole
after-padded = (refl, refl, refl, refl, refl)

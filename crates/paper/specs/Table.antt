-- The proved table: the paper's codings, and files D and E, as one statement about the definitions. Assumes nothing.
use Rattle.std.specs.Prelude.{◌≡◌, refl, List, [], ◌∷◌, ◌++◌, ℕ, ◌-◌, ◌^◌, ℤ, pos, negsuc, replicate, length}
use Rattle.paper.specs.Reader.{got}
use Rattle.paper.specs.Numbers.{v64, signed, put, unsigned}
use Rattle.paper.specs.Listing.{ascii}
use Rattle.paper.specs.Calls.{done, refused, check, objects, count_values, fill_values, listing, build}
use Rattle.paper.specs.Whole.{whole}

-- the bytes are read as this number, and the number is written as these bytes
unfoldable pub Codes : List ℕ → ℤ → Type 0
Codes bs v = (v64 bs 0 ≡ got (unsigned 8 v) (length bs)) × (signed 8 (unsigned 8 v) ≡ v) × (put (unsigned 8 v) ≡ bs)

-- document 000's date example, 29 bytes
abbrev pub D : List ℕ
D =
    0x01 ∷ 0x00 ∷ 0x00 ∷ 0x00 ∷ 0x04 ∷ 0x64 ∷ 0x61 ∷ 0x74 ∷ 0x65 ∷ 0x01 ∷ 0x01 ∷ 0x00 ∷ 0x02 ∷ 0x00 ∷ 0x01 ∷ 0x00 ∷ 0x0B ∷ 0x01 ∷ 0x0A ∷ 0x01 ∷ replicate 9 0xFF

-- D with a second pair of this count, number of fields and end
unfoldable pub E-with : ℕ → ℕ → ℕ → List ℕ
E-with count fields end = D ++ 0x00 ∷ 0x01 ∷ 0x01 ∷ count ∷ fields ∷ end ∷ 0x80 ∷ 0x02 ∷ []

unfoldable pub E : List ℕ
E = E-with 0x01 0x01 0x02

unfoldable pub date : List ℕ
date = ascii "date"

unfoldable pub E-listing : List ℕ
E-listing = ascii "pair\t1\t1\nstr\t64617465\ntype\t1\t0\t-\t2\t1\nnew\t11\t1\nval\t1\nval\t-1\npair\t0\t1\ntype\t1\t-\t-\t1\t1\nold\nval\t256\n"

pub table :
    Codes (0x00 ∷ []) (pos 0) ×
    Codes (0x7F ∷ []) (pos 127) ×
    Codes (0x80 ∷ 0x01 ∷ []) (pos 128) ×
    Codes (0xFF ∷ 0x01 ∷ []) (pos 255) ×
    Codes (0x80 ∷ 0x02 ∷ []) (pos 256) ×
    Codes (0xFF ∷ 0x7F ∷ []) (pos 16383) ×
    Codes (0x80 ∷ 0x80 ∷ 0x01 ∷ []) (pos 16384) ×
    Codes (replicate 7 0xFF ++ 0x7F ∷ []) (pos (2 ^ 56 - 1)) ×
    Codes (replicate 8 0x80 ++ 0x01 ∷ []) (pos (2 ^ 56)) ×
    Codes (replicate 9 0x80) (negsuc (2 ^ 63 - 1)) ×
    Codes (replicate 9 0xFF) (negsuc 0) ×
    (v64 (0x80 ∷ 0x00 ∷ []) 0 ≡ got 0 2) ×
    (v64 (replicate 8 0x80 ++ 0x00 ∷ []) 0 ≡ got 0 9) ×
    (signed 1 0x7F ≡ pos 127) ×
    (signed 1 0x80 ≡ negsuc 127) ×
    (length D ≡ 29) ×
    (check 16384 D ≡ done 0) ×
    (count_values date date 11 16384 D ≡ done 2) ×
    (fill_values date date 11 2 16384 D ≡ done (pos 1 ∷ negsuc 0 ∷ [])) ×
    (check 16384 E ≡ done 0) ×
    (count_values date date 11 16384 E ≡ done 3) ×
    (fill_values date date 11 3 16384 E ≡ done (pos 1 ∷ negsuc 0 ∷ pos 256 ∷ [])) ×
    (objects date 16384 E ≡ done 3) ×
    (listing 200 16384 E ≡ done E-listing) ×
    (build 37 16384 E-listing ≡ done E) ×
    (check 16384 (E-with 0x01 0x01 0x01) ≡ refused 12) ×
    (check 16384 (E-with 0x01 0x01 0x03) ≡ refused 1) ×
    (check 16384 (E-with 0x02 0x01 0x02) ≡ refused 12) ×
    (check 16384 (E-with 0x01 0x00 0x02) ≡ refused 11) ×
    (check 16384 [] ≡ done 0)
unfolding whole Codes E-with E date E-listing
table = (
  (refl, refl, refl),
  (refl, refl, refl),
  (refl, refl, refl),
  (refl, refl, refl),
  (refl, refl, refl),
  (refl, refl, refl),
  (refl, refl, refl),
  (refl, refl, refl),
  (refl, refl, refl),
  (refl, refl, refl),
  (refl, refl, refl),
  refl,
  refl,
  refl,
  refl,
  refl,
  refl,
  refl,
  refl,
  refl,
  refl,
  refl,
  refl,
  refl,
  refl,
  refl,
  refl,
  refl,
  refl,
  refl,
)

-- The call: the file whose listing a text is. Assumes nothing.
use Rattle.std.specs.Prelude as prelude
use Rattle.std.specs.Prelude.{None, Some, ◌≡◌, refl, true, ℕ, ◌≤◌, ◌<◌, take, Result, Ok, Err}
use Rattle.std.proofs.Common.{sym, ◌∙◌, subst, arith, length-take}
use Rattle.std.proofs.Math.Path.{ap}
use mathlib.Core.List.{List, [], ◌++◌}
use Rattle.std.proofs.Math.Option.{Option, none, some}
use Rattle.std.proofs.Math.ListN.{length, drop}
use borrow.Author.Tests.{le-leb, lt-leb, leb-true}
use Rattle.paper.specs.Reader.{when◌then◌else◌}
use Rattle.paper.specs.Bounds.{most_bytes, most_pairs, table_length}
use Rattle.paper.specs.Ledger.{Ledger}
use Rattle.paper.specs.Encode.{encode}
use Rattle.paper.specs.Keeps.{keeps?}
use Rattle.paper.specs.Listing.{print}
use Rattle.paper.specs.Scan.{short, file_of}
use Rattle.paper.specs.Calls.{refused, ◌>>=◌, ◌>>◌, need, found, fitted, build, how_many, left_in, writes, over_front, after_build}
use Rattle.lay.specs.Laid.{most}
use Rattle.laws.specs.Says.{Bytes}
use Rattle.laws.specs.Promises.{accepted-exactly, forth, fitted-done}
use Rattle.laws.specs.Bools.{every-split}
use Rattle.laws.specs.Room.{print-room, empty-few}
use Rattle.table.specs.Counts.{noughts, Begun}
use Rattle.walk.specs.FileLaws.{steady-begun, state-begun}
use Rattle.texts.specs.declared.Taken.{Taken}
use Rattle.calls.specs.Told.{answer_of, after, Wrote, wrote_none, wrote-all}
use Rattle.calls.specs.Table.{untouched, noughts-first}
use Rattle.calls.specs.Fixed.{one_way}
use Rattle.calls.specs.declared.replies.Refused.{Refused}
use Rattle.build.specs.Pairs.{TextReady, FileBuilt, not_short}
use Rattle.build.specs.Counting.{FileLong, FileBy, FileCounted}
use Rattle.build.specs.Again.{FileGiven, Filled}

-- ── what the definitions answer, with a table that is long enough ──

module _ (room : ℕ) (t : List ℕ) where
  build-none : file_of t ≡ none → build room table_length t ≡ refused 20
  unfolding build need found ◌>>=◌ ◌>>◌
  build-none h = rw h

  build-some : {f : List ℕ} → file_of t ≡ some f → build room table_length t ≡ fitted room f
  unfolding build need found ◌>>=◌ ◌>>◌
  build-some h = rw h

-- a listing has fewer bytes than what the table keeps of a string's place can say
print-few : (l : Ledger) → keeps? l ≡ true → length (print l) < 66000000
unfolding keeps?
print-few l h = let (a, _) = every-split _ h in omega (arith, leb-true (length (encode l)) most_bytes a, print-room l h, empty-few l h)

-- so a longer text is none
pub text-too-long : (t : List ℕ) → Bytes t → 65999999 < length t → file_of t ≡ none
text-too-long t b h = go (file_of t) refl
  where
    go : (o : Option (List ℕ)) → file_of t ≡ o → o ≡ none
    go none is = refl
    go (some f) is =
        let (l, a, p, _) = forth t f b is in
        let s : length (print l) < 66000000 = print-few l ((accepted-exactly f l).0 a).0 in
        let q : length (print l) ≡ length t = ap length p in
        absurd (omega arith)

pub text-ready : {t l : List ℕ} → length t < 66000000 → Begun l → Bytes t → TextReady t l
text-ready {t} lt begun bytes = record { steady = steady-begun t lt begun; bytes = bytes; none = state-begun t lt begun }

-- ── a text that was read, by its file's length ──

module _ {t : List ℕ} {n : ℕ} (B : FileBuilt t [] [] n) where
  file-over : most_bytes < n → file_of t ≡ none
  unfolding file_of most
  file-over h = rw B.reads (not_short B.ledger B.end (omega (arith, B.laid.next)))

  file-fits : n ≤ most_bytes → file_of t ≡ some (encode B.ledger)
  unfolding file_of short when◌then◌else◌ most
  file-fits h = rw (B.reads, le-leb (length (encode B.ledger)) most_bytes (omega (arith, B.laid.next)))

  file-length : n ≤ most_bytes → length (encode B.ledger) ≡ n
  unfolding most
  file-length h = omega (arith, B.laid.next)

-- ── counted, and then written ──

-- so many bytes are lent
pub lent : (n : ℕ) (out : List ℕ) → n ≤ length out → n ≡ length (take n out)
lent n out le = omega (arith, length-take n out)

module _ {t ps : List ℕ} {a : prelude.Option Taken} (C : FileCounted t ps a) where
  pub build-bad : a ≡ None → {out : List ℕ} → Wrote (build (length out) table_length t) out (Err (record { number = 20 })) out
  build-bad is {out} = wrote_none (build-none (length out) t (subst (FileBy t ps) is C.told))

  module _ {k : Taken} (is : a ≡ Some k) where
    counted : FileLong t ps k.at
    counted = subst (FileBy t ps) is C.told

    file : List ℕ
    file = encode counted.built.ledger

    pub build-over : most_bytes < k.at → {out : List ℕ} → Wrote (build (length out) table_length t) out (Err (record { number = 20 })) out
    build-over h {out} = wrote_none (build-none (length out) t (file-over counted.built h))

    module _ (le : k.at ≤ most_bytes) where
      file-there : file_of t ≡ some file
      unfolding file
      file-there = file-fits counted.built le

      many : length file ≡ k.at
      unfolding file
      many = file-length counted.built le

      -- the places are right, and the file short
      pub file-given : length ps ≡ most_pairs → FileGiven t ps
      unfolding file
      file-given long = record { end = length file; short = omega (arith, many, le); many = long; placed = counted.placed }

      module _ {out : List ℕ} where
        pub build-no-room : length out < k.at → Wrote (build (length out) table_length t) out (Err (record { number = 19 })) out
        unfolding fitted need ◌>>◌ ◌>>=◌
        build-no-room lt = wrote_none (build-some (length out) t file-there ∙ rw (lt-leb (length file) (length out) (omega (arith, many))))

        pub build-written : k.at ≤ length out → {m : List ℕ} → Filled t (take k.at out) m → Wrote (build (length out) table_length t) out (Ok k.at) (m ++ drop k.at out)
        unfolding over_front
        build-written room W =
            let stands = W.told file file-there (many ∙ lent k.at out room) in
            wrote-all (build-some (length out) t file-there ∙ fitted-done (length out) file (omega (arith, many))) many
            (ap (λ (x : List ℕ). x ++ drop k.at out) stands ∙ ap (λ (n : ℕ). file ++ drop n out) (sym many))

-- a text that is too long is not read at all
pub build-too-long : (t : List ℕ) → Bytes t → 65999999 < length t → {out : List ℕ} → Wrote (build (length out) table_length t) out (Err (record { number = 20 })) out
build-too-long t b h {out} = wrote_none (build-none (length out) t (text-too-long t b h))

-- ── by the length of the lent work table ──

pub build-short : (t w out : List ℕ) → length w < 16384 → after (Err (record { number = 15 })) w out ≡ after_build t w out
unfolding after_build writes build need ◌>>◌ ◌>>=◌ answer_of how_many left_in
build-short t w out lt = rw (lt-leb 16384 (length w) lt, untouched t w lt)

pub build-long :
    (t w : List ℕ) → 16384 ≤ length w → (r : Result ℕ Refused) {v : List ℕ} → v ≡ noughts → {out out' : List ℕ} → Wrote (build (length out) table_length t) out r out'
    → after r (v ++ drop 16384 w) out' ≡ after_build t w out
unfolding after_build writes build need
build-long t w le r left h = rw (le-leb 16384 (length w) le, noughts-first t w le, left, h.says, h.left)

-- ── the contract fixes the reply and all that is lent ──

pub build-fixed :
    (t work out : List ℕ) {r q : Result ℕ Refused} {w v o p : List ℕ} → after r w o ≡ after_build t work out → after q v p ≡ after_build t work out → (r ≡ q) × (w ≡ v) × (o ≡ p)
build-fixed t work out a b = one_way a b

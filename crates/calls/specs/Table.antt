-- The four calls, by the length of the lent work table. Assumes nothing.
use Rattle.std.specs.Prelude.{◌≡◌, List, [], ◌++◌, ℕ, ◌≤◌, ◌<◌, ℤ, length, take, drop, Result, Err}
use Rattle.std.proofs.Common.{length-take-le, le-leb}
use Rattle.std.proofs.lemmas.Bool.{lt-leb}
use Rattle.paper.specs.Reader.{when◌then◌else◌}
use Rattle.paper.specs.Calls.{refused, ◌>>=◌, ◌>>◌, need, read, check, objects, count_values, fill_values, cleared, left_in, how_many, tells, writes, after_check, after_objects, after_count, after_fill}
use Rattle.table.specs.Counts.{noughts}
use Rattle.calls.specs.Told.{answer_of, after, Wrote}
use Rattle.calls.specs.declared.replies.Refused.{Refused}

-- ── a table that is too short ──

module _ (f w : List ℕ) (lt : length w < 16384) where
  pub untouched : cleared w ≡ w
  unfolding cleared when◌then◌else◌
  untouched = rw (lt-leb 16384 (length w) lt)

  pub read_short : read (length w) f ≡ refused 15
  unfolding read need ◌>>◌ ◌>>=◌
  read_short = rw (lt-leb 16384 (length w) lt)

  pub check-short : after (Err (record { number = 15 })) w [] ≡ after_check f w
  unfolding after_check tells check ◌>>=◌ answer_of
  check-short = rw (read_short, untouched)

  pub objects-short : (name : List ℕ) → after (Err (record { number = 15 })) w [] ≡ after_objects f name w
  unfolding after_objects tells objects ◌>>=◌ answer_of
  objects-short name = rw (read_short, untouched)

  module _ (owner name : List ℕ) (k : ℕ) where
    pub count-short : after (Err (record { number = 15 })) w [] ≡ after_count f owner name k w
    unfolding after_count tells count_values ◌>>=◌ answer_of
    count-short = rw (read_short, untouched)

    pub fill-short : (out : List ℤ) → after (Err (record { number = 15 })) w out ≡ after_fill f owner name k w out
    unfolding after_fill writes fill_values ◌>>=◌ answer_of how_many left_in
    fill-short out = rw (read_short, untouched)

-- ── a table that is long enough ──

-- the part that is lent for the reading
pub front_long : (w : List ℕ) → 16384 ≤ length w → length (take 16384 w) ≡ 16384
front_long w le = length-take-le 16384 w le

module _ (f w : List ℕ) (le : 16384 ≤ length w) where
  pub noughts-first : cleared w ≡ noughts ++ drop 16384 w
  unfolding cleared when◌then◌else◌ noughts
  noughts-first = rw (le-leb 16384 (length w) le)

  pub read-long : read (length w) f ≡ read 16384 f
  unfolding read need
  read-long = rw (le-leb 16384 (length w) le)

  module _ (r : Result ℕ Refused) {t : List ℕ} (left : t ≡ noughts) where
    pub check-long : answer_of r ≡ check 16384 f → after r (t ++ drop 16384 w) [] ≡ after_check f w
    unfolding after_check tells check
    check-long h = rw (read-long, noughts-first, left, h)

    pub objects-long : (name : List ℕ) → answer_of r ≡ objects name 16384 f → after r (t ++ drop 16384 w) [] ≡ after_objects f name w
    unfolding after_objects tells objects
    objects-long name h = rw (read-long, noughts-first, left, h)

    module _ (owner name : List ℕ) (k : ℕ) where
      pub count_long : answer_of r ≡ count_values owner name k 16384 f → after r (t ++ drop 16384 w) [] ≡ after_count f owner name k w
      unfolding after_count tells count_values
      count_long h = rw (read-long, noughts-first, left, h)

      pub fill-long : {out out' : List ℤ} → Wrote (fill_values owner name k (length out) 16384 f) out r out' → after r (t ++ drop 16384 w) out' ≡ after_fill f owner name k w out
      unfolding after_fill writes fill_values
      fill-long h = rw (read-long, noughts-first, left, h.says, h.left)

-- Demand 2, of the pair of calls: the first one's n is the number that the second writes, whatever room it is lent that holds n. Assumes
-- nothing.
use Rattle.std.specs.Prelude.{◌≡◌, refl, Bool, true, false, ℕ, ◌≤◌, ◌<◌, leb, ℤ, take, drop, replicate, Result, Ok, Err}
use Rattle.std.proofs.Math.Path.{sym, ap, subst}
use Rattle.std.proofs.Common.{◌∙◌, arith, lt_of_not-le, take-append-drop, drop_of_length-le}
use mathlib.Core.List.{List, [], ◌∷◌, ◌++◌, append-nil}
use Rattle.std.proofs.Math.Decide.{dec_le}
use Rattle.std.proofs.Math.ListN.{length}
use Rattle.std.proofs.lemmas.List.{length-replicate}
use Rattle.std.proofs.Math.Seq.{length-take-le}
use borrow.Author.Tests.{le-leb, lt-leb, leb-true}
use Rattle.paper.specs.Reader.{when◌then◌else◌}
use Rattle.paper.specs.Bounds.{table_length}
use Rattle.paper.specs.Calls.{Answer, done, refused, ◌>>=◌, ◌>>◌, need, read, column_of, count_values, fill_values, how_many, left_in, over_front, cleared, Left, writes, tells, after_count, after_fill}
use Rattle.laws.specs.Says.{Bytes}
use Rattle.laws.specs.Columns.{bind_done, need-done}
use Rattle.laws.specs.Asked.{Taken, count-done, count-refused}
use Rattle.laws.specs.Lengths.{column-length, fill-by-count}
use Rattle.calls.specs.Told.{answer_of, after, room-19, room-done}
use Rattle.calls.specs.declared.replies.Refused.{Refused}
use Rattle.demands.specs.Replies.{said-done, said-refused, says-done, says-refused, tells-answer, writes-answer, written, unwritten, drop-front}
use Rattle.demands.specs.Answers.{cleared-long, cleared-length}
use Rattle.demands.specs.Exact.{Counted, Filled, count-says}

-- what the second call replies, by the first one's reply and the room that it is lent
unfoldable pub then_fill : Result ℕ Refused → ℕ → Result ℕ Refused
then_fill (Ok n) room = when leb n room then Ok n else Err (record { number = 19 })
then_fill (Err e) room = Err e

-- ── a table that is long enough is as good as another ──

module _ (f type field : List ℕ) (k table table' : ℕ) (h : table_length ≤ table) (h' : table_length ≤ table') where
  pub same_count : count_values type field k table f ≡ count_values type field k table' f
  unfolding count_values read need
  same_count = rw (le-leb table_length table h, le-leb table_length table' h')

  pub same-fill : (room : ℕ) → fill_values type field k room table f ≡ fill_values type field k room table' f
  unfolding fill_values read need
  same-fill room = rw (le-leb table_length table h, le-leb table_length table' h')

-- ── the replies ──

reply-then : (r q : Result ℕ Refused) (room : ℕ) → answer_of q ≡ (answer_of r >>= λ n. need (leb n room) 19 >> done n) → q ≡ then_fill r room
unfolding answer_of then_fill need ◌>>=◌ ◌>>◌ when◌then◌else◌
reply-then (Err e) q room h = said-refused q e.number h
reply-then (Ok n) q room h = go (leb n room) h
  where
    go : (fits : Bool) → answer_of q ≡ (need fits 19 >> done n) → q ≡ (when fits then Ok n else Err (record { number = 19 }))
    go true h = said-done q n h
    go false h = said-refused q 19 h

-- whatever the file is, and whatever is asked for
pub pair-agrees :
    {f type field : List ℕ} {k : ℕ} {out : List ℤ} {r q : Result ℕ Refused} {o : List ℤ} → Bytes f → Counted f type field k r → Filled f type field k out q o → q ≡ then_fill r (length out)
unfolding after_fill
pair-agrees {f} {type} {field} {k} {out} {r} {q} bytes C D =
    let counted = count-says C ∙ same_count f type field k (length C.work) (length D.work) C.long D.long in
    let filled = writes-answer _ D.work out q D.replied ∙ fill-by-count type field k (length D.work) f bytes (length out) in
    reply-then r q (length out) (filled ∙ ap (λ (a : Answer ℕ). a >>= λ n. need (leb n (length out)) 19 >> done n) (sym counted))

-- ── ask, then fill with exactly n ──

-- what both calls leave, one after the other: the first's reply is the definitions', and the rest is as if the second had been lent all of
-- the output at once
pub record AskedAndFilled (f type field : List ℕ) (k : ℕ) (work : List ℕ) (out : List ℤ) (r q : Result ℕ Refused) (w : List ℕ) (o : List ℤ) : Type 0 where
  pub counted : after r (cleared work) [] ≡ after_count f type field k work
  pub filled : after q w o ≡ after_fill f type field k work out

module _ {f type field : List ℕ} {k : ℕ} {work : List ℕ} {out : List ℤ} {r q : Result ℕ Refused} {w : List ℕ} {o : List ℤ} (A : AskedAndFilled f type field k work out r q w o) (h : table_length ≤ length work) where
  pub then-counted : Counted f type field k r
  then-counted = record { work = work; left = cleared work; long = h; replied = A.counted }

  pub then-filled : Filled f type field k out q o
  then-filled = record { work = work; left = w; long = h; replied = A.filled }

  -- a work table that was long enough is so again
  pub still-long : table_length ≤ length w
  unfolding after_fill writes
  still-long = let z : w ≡ cleared work = ap (λ (x : Left ℤ). x.table) A.filled in rw z (cleared-length work h)

-- the room that is lent to the second call: exactly n, where there is as much
pub record RoomFor (n there room : ℕ) : Type 0 where
  pub enough : n ≤ there → room ≡ n
  pub short : there < n → room ≡ there

pub room-inside : {n there room : ℕ} → RoomFor n there room → room ≤ there
room-inside {n} {there} {room} R =
    elim (dec_le n there) [
      | yes fits ↦ omega (arith, R.enough fits)
      | no over ↦ omega (arith, R.short (lt_of_not-le over))
    ]

cleared-twice : (work : List ℕ) → table_length ≤ length work → cleared (cleared work) ≡ cleared work
cleared-twice work h =
    let front : drop table_length (replicate table_length 0 ++ drop table_length work) ≡ drop table_length work =
    subst (λ (n : ℕ). drop n (replicate table_length 0 ++ drop table_length work) ≡ drop table_length work) (length-replicate {A = ℕ} table_length 0)
    (drop-front (replicate table_length 0) (drop table_length work)) in
    cleared-long (cleared work) (cleared-length work h) ∙ ap (λ (x : List ℕ). replicate table_length 0 ++ drop table_length x) (cleared-long work h)
    ∙ ap (λ (x : List ℕ). replicate table_length 0 ++ x) front ∙ sym (cleared-long work h)

writes-is :
    (a : Answer (List ℤ)) (work : List ℕ) (out : List ℤ) (q : Result ℕ Refused) {w : List ℕ} {o : List ℤ} → answer_of q ≡ how_many a → w ≡ cleared work → o ≡ left_in out a → after q w o ≡ writes a work out
unfolding writes
writes-is a work out q x y z = rw (x, y, z)

-- what is written into exactly so much room is what is written at the front of all of it
exact-front :
    (vs out : List ℤ) (room : ℕ) (o : List ℤ) → room ≡ length vs → room ≤ length out → o ≡ vs ++ drop (length vs) (take room out) → o ++ drop room out ≡ vs ++ drop (length vs) out
exact-front vs out room o exact inside is =
    let most : length (take room out) ≤ length vs = omega (arith, length-take-le room out inside) in
    let nothing-behind = drop_of_length-le (take room out) most in
    rw (is, nothing-behind, append-nil vs, exact)

module _ (f type field : List ℕ) (k : ℕ) (work : List ℕ) (out : List ℤ) (r : Result ℕ Refused) {w : List ℕ} (c : after r w [] ≡ after_count f type field k work) where
  table-after : w ≡ cleared work
  unfolding after_count tells
  table-after = ap (λ (x : Left ℕ). x.table) c

  counted-so : after r (cleared work) [] ≡ after_count f type field k work
  counted-so = subst (λ (x : List ℕ). after r x [] ≡ after_count f type field k work) table-after c

  -- the first call refused, and the second was not made
  pub asked-none : {n : ℕ} → r ≡ Err (record { number = n }) → AskedAndFilled f type field k work out (Err (record { number = n })) (Err (record { number = n })) w out
  unfolding after_count after_fill answer_of how_many left_in
  asked-none {n} is =
      let unfilled = count-refused type field k (length work) f n (sym (tells-answer _ work r c) ∙ says-refused r n is) (length out) in
      record {
        counted = subst (λ (x : Result ℕ Refused). after x (cleared work) [] ≡ after_count f type field k work) is counted-so;
        filled = writes-is _ work out (Err (record { number = n })) (rw unfilled) table-after (rw unfilled);
      }

  -- it answered, so the table was long enough
  answered-long : {n : ℕ} → r ≡ Ok n → table_length ≤ length work
  unfolding after_count count_values read
  answered-long {n} is =
      let (l, x, _) = bind_done _ _ n (sym (tells-answer _ work r c) ∙ says-done r n is) in
      let (long, _) = need-done _ 15 _ l x in
      leb-true table_length (length work) long

  module _ {n room : ℕ} (is : r ≡ Ok n) (R : RoomFor n (length out) room) (bytes : Bytes f) where
    module _ (q : Result ℕ Refused) {v : List ℕ} {o : List ℤ} (d : after q v o ≡ after_fill f type field k w (take room out)) where
      -- the second call as it was made, over the table as it was at first
      as-made : after q v o ≡ writes (fill_values type field k room (length work) f) (cleared work) (take room out)
      unfolding after_fill
      as-made =
          let h = answered-long is in
          let long : table_length ≤ length w = rw table-after (cleared-length work h) in
          let same = same-fill f type field k (length w) (length work) long h room in
          let lent = length-take-le room out (room-inside R) in
          rw (lent, same, table-after) at d

      table-left : v ≡ cleared work
      unfolding writes
      table-left = ap (λ (x : Left ℤ). x.table) as-made ∙ cleared-twice work (answered-long is)

      fills : (T : Taken type field k f) × (n ≡ length (column_of T.ledger T.t T.i)) × ((m : ℕ) → fill_values type field k m (length work) f ≡ (need (leb n m) 19 >> done (column_of T.ledger T.t T.i)))
      unfolding after_count
      fills =
          let (T, count, all) = count-done type field k (length work) f n (sym (tells-answer _ work r c) ∙ says-done r n is) in
          (T, count ∙ sym (column-length bytes T), all)

      filled-whole : n ≤ length out → after q v (o ++ drop room out) ≡ after_fill f type field k work out
      unfolding after_fill answer_of how_many left_in over_front
      filled-whole fits =
          let (T, count, all) = fills in
          let exact = R.enough fits in
          let whole = all (length out) ∙ room-done n (length out) _ fits in
          let (a, b) = written _ (cleared work) (take room out) q as-made (column_of T.ledger T.t T.i) (all room ∙ room-done n room _ (omega (arith, exact))) in
          writes-is _ work out q (rw whole (says-done q _ a)) table-left
          (rw whole (exact-front (column_of T.ledger T.t T.i) out room o (exact ∙ count) (room-inside R) b))

      filled_none : length out < n → after q v (o ++ drop room out) ≡ after_fill f type field k work out
      unfolding after_fill answer_of how_many left_in
      filled_none over =
          let (T, count, all) = fills in
          let short = R.short over in
          let whole = all (length out) ∙ room-19 n (length out) _ over in
          let (a, b) = unwritten _ (cleared work) (take room out) q as-made 19 (all room ∙ room-19 n room _ (omega (arith, short))) in
          writes-is _ work out q (rw whole (says-refused q 19 a)) table-left (rw whole (rw b (take-append-drop room out)))

      pub asked-filled : AskedAndFilled f type field k work out (Ok n) q v (o ++ drop room out)
      asked-filled =
          record {
            counted = subst (λ (x : Result ℕ Refused). after x (cleared work) [] ≡ after_count f type field k work) is counted-so;
            filled = elim (dec_le n (length out)) [ yes fits ↦ filled-whole fits | no over ↦ filled_none (lt_of_not-le over) ];
          }

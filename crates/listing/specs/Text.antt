-- The call: a file as text. Assumes nothing.
use Rattle.std.specs.Prelude as prelude
use Rattle.std.specs.Prelude.{Err, Ok, ◌≡◌, refl, Bool, true, false, List, [], ◌++◌, ℕ, ◌^◌, ◌≤◌, ◌<◌, leb, drop, Result}
use Rattle.std.proofs.Common.{sym, ◌∙◌, leb-true}
use Rattle.std.proofs.Math.Path.{ap, subst}
use native.Mathlib.Omega.{arith}
use Rattle.std.proofs.Math.ListN.{length}
use Rattle.std.proofs.lemmas.Bool.{lt-leb}
use Rattle.paper.specs.Reader.{when◌then◌else◌, got, no}
use Rattle.paper.specs.Bounds.{most_bytes, most_pairs}
use Rattle.paper.specs.Ledger.{Ledger, State, nothing}
use Rattle.paper.specs.File.{pairs, file}
use Rattle.paper.specs.Listing.{print, print_pairs}
use Rattle.paper.specs.Calls.{known, ◌>>=◌, ◌>>◌, need, fitted, listing, left_in, how_many, writes, after_listing}
use Rattle.laws.specs.Laws.{not-got}
use Rattle.laws.specs.Longer.{file-inv}
use Rattle.laws.specs.Says.{Bytes}
use Rattle.laws.specs.Promises.{fitted-done}
use Rattle.lay.specs.Laid.{most, Laid}
use Rattle.table.specs.View.{view, Said, Ok as TableOk}
use Rattle.table.specs.Counts.{noughts, begun, Begun}
use Rattle.numbers.specs.declared.Cursor.{Cursor}
use Rattle.numbers.specs.declared.Refusal.{Refusal}
use Rattle.values.specs.Filling.{sets-front}
use Rattle.walk.specs.PairTurns.{WalkReady}
use Rattle.walk.specs.FileLaws.{FileRead, walk-ready}
use Rattle.calls.specs.Told.{answer_of, after, Wrote, wrote_none, wrote-all, read-got, read_no}
use Rattle.calls.specs.Table.{untouched, read_short, noughts-first, read-long}
use Rattle.calls.specs.Column.{sees, still-holds}
use Rattle.calls.specs.Behind.{table-known, refused-file}
use Rattle.calls.specs.Fixed.{one_way}
use Rattle.calls.specs.declared.replies.Refused.{Refused}
use Rattle.listing.specs.Pairs.{PairsThere, PairsPrinted}
use Rattle.listing.specs.Room.{Roomy, roomy-fits}
use Rattle.numbers.specs.Cursors.{Step}
use Rattle.numbers.specs.Faults.{number_of}

-- the file is accepted
pub record FileThere (f : List ℕ) : Type 0 where
  pub ledger : Ledger
  pub end : ℕ
  pub read : file f ≡ got ledger end

pub record FilePrinted (f out m : List ℕ) (r : ℕ) : Type 0 where
  pub text : (K : FileThere f) → Laid out 0 (print K.ledger) m r

pub record TextWritten (f out : List ℕ) (r : Result ℕ Refused) (m : List ℕ) : Type 0 where
  pub wrote : (K : FileThere f) → Wrote (fitted (length out) (print K.ledger)) out r m

-- ── a table that knows nothing ──

-- an accepted file is not too long
short : {f : List ℕ} → FileThere f → length f ≤ 1048576
unfolding file when◌then◌else◌
short {f} K = go (leb (length f) most_bytes) refl K.read
  where
    go : (b : Bool) → leb (length f) most_bytes ≡ b → (when b then pairs most_pairs nothing f 0 else no 3 0) ≡ got K.ledger K.end → length f ≤ 1048576
    go true t q = leb-true (length f) most_bytes t
    go false t q = not-got q

module _ (f : List ℕ) {l : List ℕ} (B : Begun l) where
  state-none : FileThere f → view f l ≡ nothing
  unfolding begun
  state-none K = ap (λ (s : Said). s.state) (B.says f (omega (arith, short K))).says

  there : FileThere f → PairsThere f l 32 0
  there K = record { ledger = K.ledger; end = K.end; read = ap (λ (u : State). pairs 32 u f 0) (state-none K) ∙ file-inv f K.ledger K.end K.read }

  pub pairs-asked : Bytes f → FileThere f → WalkReady f l × PairsThere f l 32 0
  pairs-asked bytes K = (walk-ready f (short K) B bytes, there K)

  pub file-printed : {out m : List ℕ} {r : ℕ} → PairsPrinted f l out 0 m r → FilePrinted f out m r
  unfolding print there
  file-printed {out} {m} {r} P =
      record { text = λ K. subst (λ (u : State). Laid out 0 (print_pairs u K.ledger) m r) (state-none K) (P.text (there K)) }

-- ── counted, and then written ──

module _ {f out out₁ : List ℕ} (same : out₁ ≡ out) {m₀ : List ℕ} {n : ℕ} (C : FilePrinted f [] m₀ n) (small : length out < 2 ^ 63) where
  pub text-no-room : length out₁ < n → TextWritten f out (prelude.Err (record { number = 19 })) out₁
  unfolding fitted need ◌>>◌ ◌>>=◌ most
  text-no-room lt =
      record {
        wrote = λ K.
            let count = (C.text K).next in
            let long : length out₁ ≡ length out = ap length same in
            rw same (wrote_none (rw (lt-leb (length (print K.ledger)) (length out) (omega (arith, count)))));
      }

  pub text-written : n ≤ length out₁ → {m : List ℕ} {r : ℕ} → FilePrinted f out₁ m r → TextWritten f out (prelude.Ok n) m
  unfolding most
  text-written le {m} {r} L =
      record {
        wrote = λ K.
            let count = (C.text K).next in
            let long : length out₁ ≡ length out = ap length same in
            let whole : length (print K.ledger) ≡ n = omega (arith, count) in
            let fits : length (print K.ledger) ≤ length out = omega arith in
            let L' : FilePrinted f out m r = rw same at L in
            wrote-all (fitted-done (length out) (print K.ledger) fits) whole ((L'.text K).bytes ∙ sets-front (print K.ledger) out fits);
      }

-- written at once, where it is known to fit
pub text-direct :
    {f l out m : List ℕ} {n : ℕ} {b : Bool} → Roomy f l (length out) b → b ≡ true → Bytes f → ((K : FileThere f) → view f l ≡ known K.ledger) → length out < 2 ^ 63
    → FilePrinted f out m n → TextWritten f out (prelude.Ok n) m
unfolding most
text-direct {f} {l} {out} {m} {n} R is bytes says small L =
    record {
      wrote = λ K.
          let fits = roomy-fits R is K.ledger K.end bytes K.read (says K) in
          let whole : length (print K.ledger) ≡ n = omega (arith, (L.text K).next) in
          wrote-all (fitted-done (length out) (print K.ledger) fits) whole ((L.text K).bytes ∙ sets-front (print K.ledger) out fits);
    }

-- ── behind the reading ──

-- the table that was read is asked for its fields
pub record TableThere (f l : List ℕ) : Type 0 where
  pub ok : TableOk l
  pub there : FileThere f
  pub says : (K : FileThere f) → view f l ≡ known K.ledger

module _ {f l : List ℕ} {a : Step} (F : FileRead f l a) where
  pub table-there : {c : Cursor} → a ≡ Ok c → TableThere f l
  table-there is =
      let K = table-known F is in
      record {
        ok = (still-holds K).ok;
        there = record { ledger = K.accepted.ledger; end = K.at; read = K.accepted.read };
        says = λ T. sees K ∙ ap known (one-ledger (sym K.accepted.read ∙ T.read));
      }
    where
      one-ledger : {x y : Ledger} {d e : ℕ} → got x d ≡ got y e → x ≡ y
      one-ledger q = cc q

  pub file-there : {c : Cursor} → a ≡ Ok c → FileThere f
  file-there is = let K = table-known F is in record { ledger = K.accepted.ledger; end = K.at; read = K.accepted.read }

  pub listing-accepted : {c : Cursor} (is : a ≡ Ok c) {out : List ℕ} {r : Result ℕ Refused} {m : List ℕ} → TextWritten f out r m → Wrote (listing (length out) 16384 f) out r m
  unfolding listing ◌>>=◌ file-there
  listing-accepted is T = rw (read-got f (file-there is).read) (T.wrote (file-there is))

  pub listing-refused : {e : Refusal} → a ≡ Err e → {out : List ℕ} → Wrote (listing (length out) 16384 f) out (prelude.Err (record { number = number_of e.fault })) out
  unfolding listing ◌>>=◌
  listing-refused is = wrote_none (rw (read_no f (refused-file F is)))

-- ── by the length of the lent work table ──

pub listing-short : (f w out : List ℕ) → length w < 16384 → after (prelude.Err (record { number = 15 })) w out ≡ after_listing f w out
unfolding after_listing writes listing ◌>>=◌ answer_of how_many left_in
listing-short f w out lt = rw (read_short f w lt, untouched f w lt)

pub listing-long :
    (f w : List ℕ) → 16384 ≤ length w → (r : Result ℕ Refused) {t : List ℕ} → t ≡ noughts → {out out' : List ℕ} → Wrote (listing (length out) 16384 f) out r out'
    → after r (t ++ drop 16384 w) out' ≡ after_listing f w out
unfolding after_listing writes listing
listing-long f w le r left h = rw (read-long f w le, noughts-first f w le, left, h.says, h.left)

-- ── the contract fixes the reply and all that is lent ──

pub listing-fixed :
    (f work out : List ℕ) {r q : Result ℕ Refused} {w v o p : List ℕ} → after r w o ≡ after_listing f work out → after q v p ≡ after_listing f work out → (r ≡ q) × (w ≡ v) × (o ≡ p)
listing-fixed f work out a b = one_way a b

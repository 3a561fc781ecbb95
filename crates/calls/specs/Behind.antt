-- What each call replies behind the reading of the file. Assumes nothing.
use Rattle.std.specs.Prelude.{◌≡◌, List, ℕ, ℤ, length, Result, Ok, Err}
use Rattle.std.proofs.Math.Path.{sym}
use Rattle.std.proofs.Common.{◌∙◌, subst}
use Rattle.paper.specs.Reader.{no}
use Rattle.paper.specs.Ledger.{State}
use Rattle.paper.specs.File.{file}
use Rattle.paper.specs.Calls.{Answer, check, objects, count_values, fill_values}
use Rattle.table.specs.View.{view}
use Rattle.numbers.specs.declared.Cursor.{Cursor}
use Rattle.numbers.specs.declared.Refusal.{Refusal}
use Rattle.walk.specs.FileLaws.{FileRead, ToldFile}
use Rattle.calls.specs.Told.{answer_of, Wrote, wrote_none, count_of, values_of, check-got, objects-got, count-got, fill-got, check-no, objects-no, count_no, fill-no}
use Rattle.calls.specs.Column.{Known, sees, ColumnTold}
use Rattle.calls.specs.declared.replies.Refused.{Refused}
use Rattle.numbers.specs.Cursors.{Step}
use Rattle.numbers.specs.Faults.{number_of}

module _ {f l : List ℕ} {a : Step} (F : FileRead f l a) where
  module _ {c : Cursor} (is : a ≡ Ok c) where
    pub table-known : Known f l
    table-known = record { at = c.at; accepted = subst (ToldFile f l) is F.told }

    pub check-accepted : answer_of (Ok 0) ≡ check 16384 f
    unfolding answer_of
    check-accepted = sym (check-got f table-known.accepted.read)

    pub objects-accepted : (name : List ℕ) {r : Answer ℕ} → r ≡ count_of (view f l) name → r ≡ objects name 16384 f
    objects-accepted name {r} h =
        subst (λ (u : State). r ≡ count_of u name) (sees table-known) h ∙ sym (objects-got f table-known.accepted.read name)

    module _ (owner name : List ℕ) (k : ℕ) where
      pub count-accepted : {r : Answer ℕ} → r ≡ values_of (view f l) owner name k → r ≡ count_values owner name k 16384 f
      count-accepted {r} h =
          subst (λ (u : State). r ≡ values_of u owner name k) (sees table-known) h ∙ sym (count-got f table-known.accepted.read owner name k)

      pub fill-accepted : {out : List ℤ} {r : Result ℕ Refused} {out' : List ℤ} → ColumnTold f l owner name k out r out' → Wrote (fill_values owner name k (length out) 16384 f) out r out'
      fill-accepted {out} h = rw (fill-got f table-known.accepted.read owner name k (length out)) (h.told table-known)

  module _ {e : Refusal} (is : a ≡ Err e) where
    pub refused-file : file f ≡ no (number_of e.fault) e.place
    refused-file = subst (ToldFile f l) is F.told

    pub check-refused : answer_of (Err (record { number = number_of e.fault })) ≡ check 16384 f
    unfolding answer_of
    check-refused = sym (check-no f refused-file)

    pub objects-refused : (name : List ℕ) → answer_of (Err (record { number = number_of e.fault })) ≡ objects name 16384 f
    unfolding answer_of
    objects-refused name = sym (objects-no f refused-file name)

    module _ (owner name : List ℕ) (k : ℕ) where
      pub count-refused : answer_of (Err (record { number = number_of e.fault })) ≡ count_values owner name k 16384 f
      unfolding answer_of
      count-refused = sym (count_no f refused-file owner name k)

      pub fill-refused : {out : List ℤ} → Wrote (fill_values owner name k (length out) 16384 f) out (Err (record { number = number_of e.fault })) out
      fill-refused {out} = wrote_none (fill-no f refused-file owner name k (length out))

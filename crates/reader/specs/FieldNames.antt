-- The name of a new field: its string's number is held to the rules, on plain values. Assumes nothing.
use Rattle.std.specs.Prelude.{Ok, Err, ◌≡◌, List, ℕ, ◌-◌, ◌≤◌, ◌<◌, length}
use Rattle.std.proofs.Common.{sym, arith}
use Rattle.std.proofs.Math.Option.{Option, none, some}
use Rattle.std.proofs.Math.Seq.{slice}
use borrow.Author.Tests.{le-leb, lt-leb}
use Rattle.paper.specs.Lists.{place_named, given?}
use Rattle.paper.specs.Ledger.{text, a_string?, field_named, called?}
use Rattle.paper.specs.Rules.{field_name_rules}
use Rattle.numbers.specs.declared.Cursor.{Cursor}
use Rattle.table.specs.View.{strs_of, titles_of, flds_of, view, Holds, strings_in}
use Rattle.table.specs.Answers.{Stands}
use Rattle.reader.specs.Ruled.{Judged, judged-bad, judged-got}
use Rattle.numbers.specs.declared.Fault.TheVariants as fault

module _ {f l : List ℕ} (h : Holds f l) (t : ℕ) {n : ℕ} where
  pub name-nought : {at next : ℕ} → n ≡ 0 → Judged (field_name_rules t (view f l)) n at next (Err (record { fault = fault.Name; place = at }))
  unfolding field_name_rules a_string?
  name-nought eq = judged-bad (field_name_rules t (view f l)) (rw (lt-leb 1 n (omega arith)))

  pub name-past : {at next : ℕ} → strings_in l < n → Judged (field_name_rules t (view f l)) n at next (Err (record { fault = fault.Name; place = at }))
  unfolding field_name_rules a_string?
  name-past gt =
      judged-bad (field_name_rules t (view f l)) (rw (le-leb 1 n (omega arith), lt-leb n (length (strs_of f l)) (omega (arith, h.strs-count))))

  -- a string's number: the string is sought among the names of the type's fields
  module _ (low : 1 ≤ n) (high : n ≤ strings_in l) {start end : ℕ} (stands : Stands strs_of l (n - 1) start end) {place : Option ℕ} (sought : place ≡ place_named (called? t (slice start end f)) 0 (flds_of l) (titles_of f l)) where
    sought-is : field_named (view f l) t (text (view f l) n) ≡ place
    unfolding field_named text
    sought-is = rw (stands.is f) (sym sought)

    pub name-used : {at next i : ℕ} → place ≡ some i → Judged (field_name_rules t (view f l)) n at next (Err (record { fault = fault.Twice; place = at }))
    unfolding field_name_rules a_string? given?
    name-used there =
        judged-bad (field_name_rules t (view f l))
        (rw (le-leb 1 n low, le-leb n (length (strs_of f l)) (omega (arith, h.strs-count)), sought-is, there))

    pub name_free : {at next : ℕ} {c : Cursor} → c.at ≡ next → place ≡ none → Judged (field_name_rules t (view f l)) n at next (Ok (n, c))
    unfolding field_name_rules a_string? given?
    name_free here nowhere =
        judged-got (field_name_rules t (view f l)) here
        (rw (le-leb 1 n low, le-leb n (length (strs_of f l)) (omega (arith, h.strs-count)), sought-is, nowhere))

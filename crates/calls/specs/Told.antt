-- What a reply says, and what each call replies to a file that is accepted or refused. Assumes nothing.
use Rattle.std.specs.Prelude.{◌≡◌, refl, false, ◌&&◌, List, [], ◌∷◌, ◌++◌, ℕ, ◌≤◌, ◌<◌, leb, eqb, ℤ, length, drop, Result, Ok, Err}
use Rattle.std.proofs.Common.{arith, le-leb, IsErrAnd, ap, ◌∙◌}
use Rattle.std.proofs.lemmas.Result.{err_from_is_err_and}
use Rattle.std.proofs.Math.Option.{none, some}
use Rattle.std.proofs.lemmas.Bool.{lt-leb}
use Rattle.paper.specs.Reader.{got, no}
use Rattle.paper.specs.Ledger.{Ledger, State, type_named, field_named, field_at, objects_of}
use Rattle.paper.specs.File.{file}
use Rattle.paper.specs.Calls.{
  Answer,
  done,
  refused,
  ◌>>=◌,
  ◌>>◌,
  need,
  found,
  answered,
  read,
  check,
  known,
  objects,
  column_of,
  asked,
  sought,
  count_values,
  fill_values,
  over_front,
  Left,
  left_in,
  how_many,
}
use Rattle.laws.specs.Asked.{Asks, asks-sought}
use Rattle.calls.specs.declared.replies.Refused.{Refused}

-- this paper's answer, for each case of a reply
unfoldable pub answer_of : Result ℕ Refused → Answer ℕ
answer_of (Ok n) = done n
answer_of (Err e) = refused e.number

-- what `?` hands on is the refusal itself
pub told_on : {T : Type 0} {r : Result T Refused} {q : Refused} → IsErrAnd r (λ u. u ≡ q) → r ≡ Err q
told_on {T} {r} h = let p = err_from_is_err_and r h in p.1 ∙ ap Err p.2

-- the answer, the work table and the output after a call
abbrev pub after : {A : Type 0} → Result ℕ Refused → List ℕ → List A → Left A
after r table out = record { answer = answer_of r; table = table; output = out }

-- a reply to a call that writes: how many, and what the output then holds
pub record Wrote {A : Type 0} (a : Answer (List A)) (out : List A) (r : Result ℕ Refused) (out' : List A) : Type 0 where
  pub says : answer_of r ≡ how_many a
  pub left : out' ≡ left_in out a

module _ {A : Type 0} {a : Answer (List A)} {out : List A} where
  pub wrote_none : {n : ℕ} → a ≡ refused n → Wrote a out (Err (record { number = n })) out
  unfolding answer_of how_many left_in
  wrote_none is = record { says = rw is; left = rw is }

  pub wrote-all : {vs out' : List A} {n : ℕ} → a ≡ done vs → length vs ≡ n → out' ≡ over_front vs out → Wrote a out (Ok n) out'
  unfolding answer_of how_many left_in
  wrote-all is count stands = record { says = rw (is, count); left = rw is stands }

-- no room, lent and given back
pub nothing_lent : {A : Type 0} (m out : List A) → length m ≡ 0 → m ++ drop 0 out ≡ out
nothing_lent [] out h = refl
nothing_lent (x ∷ m) out h = absurd (omega arith)

-- ── a file that was read, with a table that is long enough ──

-- the objects of the type with this name
unfoldable pub count_of : State → List ℕ → Answer ℕ
count_of s type = do
  t ← found (type_named s type) 16
  done (objects_of s t)

-- how many values the field has that is asked for
unfoldable pub values_of : State → List ℕ → List ℕ → ℕ → Answer ℕ
values_of s type field k = do
  (t, i) ← sought type field k s
  done (objects_of s t)

-- and these values
unfoldable pub column_in : Ledger → List ℕ → List ℕ → ℕ → ℕ → Answer (List ℤ)
column_in l type field k room = do
  (t, i) ← sought type field k (known l)
  need (leb (objects_of (known l) t) room) 19
  done (column_of l t i)

module _ (f : List ℕ) where
  module _ {l : Ledger} {at : ℕ} (is : file f ≡ got l at) where
    pub read-got : read 16384 f ≡ done l
    unfolding read need ◌>>◌ ◌>>=◌ answered
    read-got = rw is

    pub check-got : check 16384 f ≡ done 0
    unfolding check ◌>>=◌
    check-got = rw read-got

    pub objects-got : (type : List ℕ) → objects type 16384 f ≡ count_of (known l) type
    unfolding objects count_of ◌>>=◌
    objects-got type = rw read-got

    module _ (type field : List ℕ) (k : ℕ) where
      pub count-got : count_values type field k 16384 f ≡ values_of (known l) type field k
      unfolding count_values values_of ◌>>=◌
      count-got = rw read-got

      pub fill-got : (room : ℕ) → fill_values type field k room 16384 f ≡ column_in l type field k room
      unfolding fill_values column_in ◌>>=◌
      fill-got room = rw read-got

  module _ {n p : ℕ} (is : file f ≡ no n p) where
    pub read_no : read 16384 f ≡ refused n
    unfolding read need ◌>>◌ ◌>>=◌ answered
    read_no = rw is

    pub check-no : check 16384 f ≡ refused n
    unfolding check ◌>>=◌
    check-no = rw read_no

    pub objects-no : (type : List ℕ) → objects type 16384 f ≡ refused n
    unfolding objects ◌>>=◌
    objects-no type = rw read_no

    module _ (type field : List ℕ) (k : ℕ) where
      pub count_no : count_values type field k 16384 f ≡ refused n
      unfolding count_values ◌>>=◌
      count_no = rw read_no

      pub fill-no : (room : ℕ) → fill_values type field k room 16384 f ≡ refused n
      unfolding fill_values ◌>>=◌
      fill-no room = rw read_no

-- ── 16, 17, 18, 19 ──

module _ (s : State) (type : List ℕ) where
  pub count_none : type_named s type ≡ none → refused 16 ≡ count_of s type
  unfolding count_of found ◌>>=◌
  count_none h = rw h

  pub count-some : {t n : ℕ} → type_named s type ≡ some t → n ≡ objects_of s t → done n ≡ count_of s type
  unfolding count_of found ◌>>=◌
  count-some h e = rw (h, e)

  module _ (field : List ℕ) (k : ℕ) where
    pub sought-16 : type_named s type ≡ none → sought type field k s ≡ refused 16
    unfolding sought found ◌>>=◌
    sought-16 h = rw h

    module _ {t : ℕ} (h : type_named s type ≡ some t) where
      pub sought-17 : field_named s t field ≡ none → sought type field k s ≡ refused 17
      unfolding sought found ◌>>=◌
      sought-17 h₁ = rw (h, h₁)

      pub sought-18 : {i : ℕ} → field_named s t field ≡ some i → (eqb k (asked (field_at s i).kind) && leb k 32) ≡ false → sought type field k s ≡ refused 18
      unfolding sought found ◌>>=◌ ◌>>◌ need
      sought-18 h₁ h₂ = rw (h, h₁, h₂)

    pub values-none : {n : ℕ} → sought type field k s ≡ refused n → refused n ≡ values_of s type field k
    unfolding values_of ◌>>=◌
    values-none h = rw h

    pub values-some : {t i n : ℕ} → Asks s type field k t i → n ≡ objects_of s t → done n ≡ values_of s type field k
    unfolding values_of ◌>>=◌
    values-some Q e = rw (asks-sought Q, e)

module _ (l : Ledger) (type field : List ℕ) (k room : ℕ) where
  pub column-none : {n : ℕ} → sought type field k (known l) ≡ refused n → column_in l type field k room ≡ refused n
  unfolding column_in ◌>>=◌
  column-none h = rw h

  pub column-some : {t i : ℕ} → Asks (known l) type field k t i → column_in l type field k room ≡ (need (leb (objects_of (known l) t) room) 19 >> done (column_of l t i))
  unfolding column_in ◌>>=◌
  column-some Q = rw (asks-sought Q)

module _ (n room : ℕ) (vs : List ℤ) where
  pub room-19 : room < n → (need (leb n room) 19 >> done vs) ≡ refused 19
  unfolding need ◌>>◌ ◌>>=◌
  room-19 h = rw (lt-leb n room h)

  pub room-done : n ≤ room → (need (leb n room) 19 >> done vs) ≡ done vs
  unfolding need ◌>>◌ ◌>>=◌
  room-done h = rw (le-leb n room h)

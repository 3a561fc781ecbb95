-- Where a listing fits into the lent room whatever it is. Assumes nothing.
use Rattle.std.specs.Prelude.{◌≡◌, refl, Bool, true, not, List, ℕ, ◌*◌, ◌/◌, ◌≤◌, ◌<◌, eqb, length}
use Rattle.std.proofs.Common.{sym, ◌∙◌, subst, arith, le-leb}
use Rattle.std.proofs.Math.Bool.{false}
use Rattle.std.proofs.Math.Nat.{lt_of_not-le}
use Rattle.std.proofs.Math.Decide.{dec_le}
use native.Nat.{ℕᴺ_discrete}
use Rattle.paper.specs.Reader.{when◌then◌else◌, got}
use Rattle.paper.specs.Lists.{any}
use Rattle.paper.specs.Ledger.{Ledger, State}
use Rattle.paper.specs.File.{file}
use Rattle.paper.specs.Listing.{print}
use Rattle.paper.specs.Calls.{known}
use Rattle.laws.specs.Bools.{not_so}
use Rattle.laws.specs.Says.{Bytes}
use Rattle.laws.specs.Shortest.{encode-short}
use Rattle.laws.specs.Exact.{file-kept}
use Rattle.laws.specs.Room.{empty?, empty_field?, empty_values, print-room, empty-none}
use Rattle.table.specs.View.{kind_from, flds_of, view}
use Rattle.table.specs.Answers.{field_in}
use Rattle.table.specs.declared.rows.FieldRow.{FieldRow}
use Rattle.values.specs.Chunks.{kind-array, kind-many, kind-plain}

-- ── a row ──

module _ (row : FieldRow) where
  pub empty-array : row.kind ≡ 15 → eqb row.a 0 ≡ empty_field? (field_in row)
  unfolding empty_field? empty?
  empty-array h = rw (kind-array row.kind row.a row.e h)

  pub empty-other : (row.kind ≡ 15 → ⊥) → false ≡ empty_field? (field_in row)
  unfolding empty_field? empty? kind_from when◌then◌else◌
  empty-other other =
      elim (dec_le row.kind 4) [
        | yes d ↦
            (elim (dec_le row.kind 3) [
              | yes c ↦ rw (le-leb row.kind 3 c)
              | no c ↦ (let four : row.kind ≡ 4 = omega (arith, lt_of_not-le c) in rw four)
            ])
        | no d ↦ rest (lt_of_not-le d)
      ]
    where
      rest : 4 < row.kind → false ≡ empty? (kind_from row.kind row.a row.e)
      rest h =
          elim (ℕᴺ_discrete row.kind 20) [
            | yes t ↦ rw t
            | no t ↦
                (elim (dec_le 17 row.kind) [
                  | yes b ↦
                      (elim (dec_le row.kind 19) [
                        | yes u ↦ rw (kind-many row.kind row.a row.e b u)
                        | no u ↦ rw (kind-plain row.kind row.a row.e h other (λ g. lt_of_not-le u) t)
                      ])
                  | no b ↦ rw (kind-plain row.kind row.a row.e h other (λ g. absurd (b g)) t)
                ])
          ]

-- ── the room ──

-- if it is said to be enough, there are nine bytes for each of the file's, and no field's lines stand for none
pub record Roomy (f l : List ℕ) (room : ℕ) (r : Bool) : Type 0 where
  pub nine : r ≡ true → 9 * length f ≤ room
  pub some : r ≡ true → any empty_field? (flds_of l) ≡ false

pub roomy-short : {f l : List ℕ} {room : ℕ} → Roomy f l room false
roomy-short = record { nine = λ h. not_so h; some = λ h. not_so h }

pub roomy-long : {f l : List ℕ} {room : ℕ} {b : Bool} → length f ≤ room / 9 → b ≡ any empty_field? (flds_of l) → Roomy f l room (not b)
roomy-long {f} {l} {room} {b} le is = record { nine = λ h. omega arith; some = λ h. sym is ∙ go b h }
  where
    go : (b : Bool) → not b ≡ true → b ≡ false
    go true h = not_so h
    go false h = refl

-- then the listing fits
pub roomy-fits :
    {f l : List ℕ} {room : ℕ} {r : Bool} → Roomy f l room r → r ≡ true → (ledger : Ledger) (e : ℕ) → Bytes f → file f ≡ got ledger e → view f l ≡ known ledger
    → length (print ledger) ≤ room
roomy-fits {f} {l} {room} R is ledger e b q says =
    let (spells, keeps, _) = file-kept f ledger e b q in
    let none : empty_values ledger ≡ 0 = empty-none ledger (subst (λ (s : State). any empty_field? s.fields ≡ false) says (R.some is)) in
    omega (arith, print-room ledger keeps, encode-short f ledger spells, R.nine is)

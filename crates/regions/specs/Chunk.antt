-- One chunk that is due: the lines of its values, by what the table says of its field. Assumes nothing.
use Rattle.std.specs.Prelude as prelude
use Rattle.std.specs.Prelude.{◌≡◌, refl, false, List, ℕ, ◌≤◌, ◌<◌, get_or}
use Rattle.std.proofs.Common.{sym, ap, ◌∙◌, subst, arith, lt_of_not-le, le-leb}
use Rattle.std.proofs.Math.Path.{fun_ext}
use Rattle.std.proofs.Math.Decide.{dec_le}
use native.Nat.{ℕᴺ_discrete}
use Rattle.paper.specs.Reader.{when◌then◌else◌, repeat}
use Rattle.paper.specs.Numbers.{put_fixed}
use Rattle.paper.specs.Lists.{flat}
use Rattle.paper.specs.Ledger.{Kind, mapping, Field, State, no_field, field_at, Chunk}
use Rattle.paper.specs.Rules.{annotation?}
use Rattle.paper.specs.Encode.{put_chunk}
use Rattle.laws.specs.Put.{put_value, put-chunk}
use Rattle.paper.specs.Scan.{value_text, chunk_text}
use Rattle.table.specs.View.{kind_from, flds_of, view, Holds, strings_in}
use Rattle.table.specs.Answers.{field_in, due_in}
use Rattle.table.specs.declared.rows.DueRow.{DueRow}
use Rattle.table.specs.declared.rows.FieldRow.{FieldRow}
use Rattle.values.specs.Annotations.{placed?}
use Rattle.values.specs.Items.{Known}
use Rattle.values.specs.Chunks.{Kinds}
use Rattle.lookups.specs.Group.{AllGrouped}
use Rattle.lookups.specs.Named.{unnamed?, unnamed-map, unnamed-other}
use Rattle.lookups.specs.Known.{plain_known, noted-known, map-known}
use Rattle.walk.specs.Steps.{NotedKind}
use Rattle.texts.specs.Told.{Told}
use Rattle.texts.specs.Chunks.{ChunkTaken}
use Rattle.texts.specs.MapLines.{MapsTaken}
use Rattle.texts.specs.declared.Taken.{Taken}

-- the answer is that of n values of the kind, in the state that the table l says of the text t
abbrev pub KindTaken : ℕ → FieldRow → List ℕ → List ℕ → ℕ → List ℕ → ℕ → List ℕ → prelude.Option Taken → Type 0
KindTaken n row l t from out at m r =
    Told (repeat n (value_text (view t l) (kind_from row.kind row.a row.e))) (flat (put_value (kind_from row.kind row.a row.e))) t from out at m r

pub kind-taken :
    {n : ℕ} (row : FieldRow) (l : List ℕ) {strings : ℕ} {pools first last t : List ℕ} {from : ℕ} {out : List ℕ} {at : ℕ} {m : List ℕ} {r : prelude.Option Taken}
    → Known (view t l) row.e strings pools first last → ChunkTaken n row.kind row.a row.e strings pools first last t from out at m r → KindTaken n row l t from out at m r
kind-taken row l {t = t} K C = C.told (view t l) K

-- the same, in every state whose objects of the kind lie in these ranges, whatever stands where the pools would
pub record RangedTaken (n : ℕ) (row : FieldRow) (strings : ℕ) (first last t : List ℕ) (from : ℕ) (out : List ℕ) (at : ℕ) (m : List ℕ) (r : prelude.Option Taken) : Type 0 where
  pub told :
      (s : State) → ((pools : List ℕ) → Known s row.e strings pools first last)
      → Told (repeat n (value_text s (kind_from row.kind row.a row.e))) (flat (put_value (kind_from row.kind row.a row.e))) t from out at m r

pub ranged-taken :
    {n : ℕ} (row : FieldRow) {strings : ℕ} {pools first last t : List ℕ} {from : ℕ} {out : List ℕ} {at : ℕ} {m : List ℕ} {r : prelude.Option Taken}
    → ChunkTaken n row.kind row.a row.e strings pools first last t from out at m r → RangedTaken n row strings first last t from out at m r
ranged-taken row {pools = pools} C = record { told = λ s K. C.told s (K pools) }

-- ── constants ──

-- a constant's kind has no number of an element's
constant-same : (k a e d : ℕ) → k ≤ 4 → kind_from k a d ≡ kind_from k a e
unfolding kind_from when◌then◌else◌
constant-same k a e d h =
    elim (dec_le k 3) [
      | yes le ↦ rw (le-leb k 3 le)
      | no le ↦ (let four : k ≡ 4 = omega (arith, lt_of_not-le le) in rw four)
    ]

-- nothing is asked of its numbers
pub constant-kinds : (k a e : ℕ) → k ≤ 4 → Kinds k a e
constant-kinds k a e h =
    record { element = λ l. absurd (omega arith); length = λ is. absurd (omega arith); types = λ is. absurd (omega arith); kinds = λ is. absurd (omega arith) }

pub constant-taken :
    {n : ℕ} (row : FieldRow) (l : List ℕ) {strings : ℕ} {pools first last t : List ℕ} {from : ℕ} {out : List ℕ} {at : ℕ} {m : List ℕ} {r : prelude.Option Taken} → Holds t l → strings ≡ strings_in l
    → row.kind ≤ 4 → ChunkTaken n row.kind row.a 0 strings pools first last t from out at m r → KindTaken n row l t from out at m r
constant-taken {n} row l {t = t} {from} {out} {at} {m} {r} H count h C =
    subst (λ (k : Kind). Told (repeat n (value_text (view t l) k)) (flat (put_value k)) t from out at m r) (constant-same row.kind row.a row.e 0 h)
    (C.told (view t l) (plain_known H count (omega arith) (λ is. omega arith)))

-- ── values of one kind of element, which refers to no object unless it is an annotation ──

pub plain-taken :
    {n : ℕ} (row : FieldRow) (l : List ℕ) {strings : ℕ} {pools first last t : List ℕ} {from : ℕ} {out : List ℕ} {at : ℕ} {m : List ℕ} {r : prelude.Option Taken} → Holds t l → strings ≡ strings_in l
    → NotedKind pools row.kind row.a row.e (view t l) → 4 < row.kind → (row.kind ≡ 20 → ⊥) → row.e < 32
    → ChunkTaken n row.kind row.a row.e strings pools first last t from out at m r → KindTaken n row l t from out at m r
plain-taken row l {strings} {pools} {first} {last} {t} H count N some single low C = kind-taken row l (known (ℕᴺ_discrete row.e 5)) C
  where
    known : Dec (row.e ≡ 5) → Known (view t l) row.e strings pools first last
    known (yes d) = noted-known H count d (N.say (sym (unnamed-other row.kind row.a row.e some single {b = false} (rw d))))
    known (no d) = plain_known H count low d

-- ── maps ──

-- the pools know the annotations, where one of these kinds is theirs
abbrev pub PoolsSay : List ℕ → List ℕ → State → Type 0
PoolsSay kinds pools s = unnamed? kinds ≡ false → (m n : ℕ) → placed? pools m n ≡ annotation? s m n

-- the answer is that of n maps of these kinds
abbrev pub MapsTold : ℕ → List ℕ → List ℕ → List ℕ → ℕ → List ℕ → ℕ → List ℕ → prelude.Option Taken → Type 0
MapsTold n kinds l t from out at m r = Told (repeat n (value_text (view t l) (mapping kinds))) (flat (put_value (mapping kinds))) t from out at m r

pub maps-told :
    {n strings : ℕ} {pools starts first last kinds l t : List ℕ} {from : ℕ} {out : List ℕ} {at : ℕ} {m : List ℕ} {r : prelude.Option Taken} → Holds t l → strings ≡ strings_in l
    → AllGrouped kinds l starts first last → PoolsSay kinds pools (view t l) → MapsTaken n strings pools starts first last kinds t from out at m r → MapsTold n kinds l t from out at m r
maps-told {pools = pools} {kinds = kinds} {l = l} {t = t} H count A say C = C.told (view t l) (map-known H count pools kinds A say)

-- the kinds of a row
pub row-say : (row : FieldRow) {kinds pools : List ℕ} {s : State} → row.kind ≡ 20 → kinds ≡ put_fixed row.a row.e → NotedKind pools row.kind row.a row.e s → PoolsSay kinds pools s
row-say row is these N h = N.say (sym (unnamed-map row.kind row.a row.e is refl) ∙ ap unnamed? (sym these) ∙ h)

pub row_told :
    (n : ℕ) (row : FieldRow) (l : List ℕ) {kinds t : List ℕ} {from : ℕ} {out : List ℕ} {at : ℕ} {m : List ℕ} {r : prelude.Option Taken} → row.kind ≡ 20 → kinds ≡ put_fixed row.a row.e
    → MapsTold n kinds l t from out at m r → KindTaken n row l t from out at m r
unfolding kind_from when◌then◌else◌
row_told n row l is these T = rw is (rw these at T)

-- ── the chunk ──

-- the field's row has the chunk's kind
pub chunk-told :
    (d : DueRow) (row : FieldRow) (l : List ℕ) {t : List ℕ} {from : ℕ} {out : List ℕ} {at : ℕ} {m : List ℕ} {r : prelude.Option Taken} → field_in row ≡ get_or (flds_of l) d.field no_field
    → KindTaken d.values row l t from out at m r → Told (chunk_text (view t l) (due_in d).0) (put_chunk (view t l) (due_in d).0) t from out at m r
unfolding chunk_text field_at
chunk-told d row l {t} {from} {out} {at} {m} {r} is T =
    subst (λ (w : Chunk → List ℕ). Told (repeat d.values (value_text (view t l) (field_at (view t l) d.field).kind)) w t from out at m r) (sym (fun_ext (put-chunk (view t l) (due_in d).0)))
    (subst (λ (k : Kind). Told (repeat d.values (value_text (view t l) k)) (flat (put_value k)) t from out at m r) (ap (λ (x : Field). x.kind) is) T)

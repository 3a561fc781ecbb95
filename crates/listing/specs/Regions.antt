-- The lines of the values of a block. Assumes nothing.
use Rattle.std.specs.Prelude.{◌≡◌, refl, ℕ, ◌+◌, ◌-◌, ◌≤◌, ◌<◌, get_or, take}
use Rattle.std.proofs.Math.Path.{sym}
use Rattle.std.proofs.Common.{ap, ◌∙◌, add-one, drop-cons}
use mathlib.Core.List.{List, [], ◌∷◌}
use native.Mathlib.Omega.{arith}
use Rattle.std.proofs.Math.ListN.{length, drop, drop_of_length-le}
use Rattle.paper.specs.Reader.{got, each, give, repeat}
use Rattle.paper.specs.Lists.{flat}
use Rattle.paper.specs.Ledger.{Field, Chunk, Due, field_at, no_field}
use Rattle.paper.specs.File.{value, chunk}
use Rattle.paper.specs.Listing.{print_chunk}
use Rattle.laws.specs.Laws.{each-inv, part-inv}
use Rattle.lay.specs.Laid.{most, Laid, Leads, leads-start, leads-on, leads-end}
use Rattle.table.specs.View.{kind_from, flds_of, dues_of, view, fields_in, dues_in}
use Rattle.table.specs.Answers.{field_in, due_in, no_due}
use Rattle.table.specs.declared.rows.DueRow.{DueRow}
use Rattle.table.specs.declared.rows.FieldRow.{FieldRow}
use Rattle.values.specs.Chunks.{Kinds}
use Rattle.show.specs.Lines.{ChunkShown}
use Rattle.walk.specs.Region.{chunks_at, sizes}
use Rattle.walk.specs.Dues.{declared-at}
use Rattle.walk.specs.Listed.{row-kinds}
use Rattle.walk.specs.RegionTurns.{RegionReady}

-- the values of the chunks that are due stand as their lines
pub record RegionPrinted (f l : List ℕ) (from : ℕ) (out : List ℕ) (o : ℕ) (m : List ℕ) (r : ℕ) : Type 0 where
  pub text : (cs : List Chunk) (q : ℕ) → chunks_at (view f l) (dues_of l) f from ≡ got cs q → Laid out o (flat print_chunk cs) m r

-- what is left to print from here gives the whole
pub record ChunksLeft (f l : List ℕ) (cs : List Chunk) (q : ℕ) (place i : ℕ) (out : List ℕ) (o : ℕ) (m : List ℕ) (p : ℕ) : Type 0 where
  pub more : List Chunk
  pub reads : chunks_at (view f l) (drop i (dues_of l)) f place ≡ got more q
  pub leads : Leads out o (flat print_chunk cs) m p (flat print_chunk more)

pub record RegionPrinting (f l : List ℕ) (from place i : ℕ) (out : List ℕ) (o : ℕ) (m : List ℕ) (p : ℕ) : Type 0 where
  pub long : length m ≡ length out
  pub within : place + sizes (drop i (dues_of l)) ≤ length f
  pub left : (cs : List Chunk) (q : ℕ) → chunks_at (view f l) (dues_of l) f from ≡ got cs q → ChunksLeft f l cs q place i out o m p

pub region-start : {f l : List ℕ} {from : ℕ} → RegionReady f l from → (out : List ℕ) (o : ℕ) → length out ≤ most → o ≤ most → RegionPrinting f l from from 0 out o out o
region-start R out o a b =
    record { long = refl; within = R.within; left = λ cs q h. record { more = cs; reads = h; leads = leads-start a b } }

module _ {f l : List ℕ} {from : ℕ} (R : RegionReady f l from) {place i : ℕ} {out : List ℕ} {o : ℕ} {m : List ℕ} {p : ℕ} (g : RegionPrinting f l from place i out o m p) where
  pub region-done : dues_in l ≤ i → RegionPrinted f l from out o m p
  unfolding chunks_at each give flat
  region-done le =
      record {
        text = λ cs q h.
            let B = g.left cs q h in
            let past : length (dues_of l) ≤ i = omega (arith, R.holds.ok.dues-count) in
            let none : drop i (dues_of l) ≡ [] = drop_of_length-le (dues_of l) past in
            let z : B.more ≡ [] = cc (rw none at B.reads) in
            leads-end B.leads (ap (flat print_chunk) z);
      }

  module _ (lt : i < dues_in l) {d : DueRow} (due-is : due_in d ≡ get_or (dues_of l) i no_due) where
    there : i < length (dues_of l)
    there = omega (arith, R.holds.ok.dues-count)

    next : drop i (dues_of l) ≡ due_in d ∷ drop (i + 1) (dues_of l)
    next = drop-cons (dues_of l) i no_due there ∙ rw (add-one, due-is) refl

    pub field-there : d.field < fields_in l
    field-there = rw (ap (λ (x : Due × ℕ). x.0.field) due-is) (declared-at (fields_in l) (dues_of l) i R.declared there)

    pub within-file : place + d.size + sizes (drop (i + 1) (dues_of l)) ≤ length f
    unfolding sizes
    within-file = omega (arith, rw next at g.within)

    module _ (row : FieldRow) (row_is : field_in row ≡ get_or (flds_of l) d.field no_field) where
      pub kinds-there : Kinds row.kind row.a row.e
      kinds-there = row-kinds (flds_of l) d.field row.owner row.kind row.a row.e R.listed (omega (arith, field-there, R.holds.ok.flds-count)) row_is

      pub region-on :
          {m₂ : List ℕ} {p₂ : ℕ} → length m₂ ≡ length m → ChunkShown d.values row.kind row.a row.e (take (place + d.size - place) (drop place f)) m p m₂ p₂
          → RegionPrinting f l from (place + d.size) (i + 1) out o m₂ p₂
      unfolding chunks_at flat chunk field_at
      region-on kept S =
          record {
            long = kept ∙ g.long;
            within = within-file;
            left = λ cs q h.
                let B = g.left cs q h in
                let E = each-inv (λ (u : Unit {0}). chunk (view f l)) (λ u c. u) (due_in d) (drop (i + 1) (dues_of l)) tt f place B.more q (rw next at B.reads) in
                let P = part-inv d.size _ f place E.value E.next E.first in
                let kind-is : (get_or (flds_of l) d.field no_field).kind ≡ kind_from row.kind row.a row.e = sym (ap (λ (x : Field). x.kind) row_is) in
                let size_is : place + d.size - place ≡ d.size = omega arith in
                let reads : repeat d.values (value (view f l) (kind_from row.kind row.a row.e)) (take (place + d.size - place) (drop place f)) 0 ≡ got E.value d.size =
                rw (size_is, ← kind-is) P.reads in
                let L = S.laid (view f l) E.value d.size reads in
                record {
                  more = E.more;
                  reads = rw (← P.ends) E.rest;
                  leads = leads-on B.leads (ap (flat print_chunk) E.is) L;
                };
          }

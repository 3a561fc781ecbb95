-- The answer of a chunk as an outcome of the definitions, and how a chunk's values, read as a part of the file, become it.
-- Assumes nothing.
use Rattle.std.specs.Prelude.{Err, Ok, ◌≡◌, refl, Bool, true, List, [], ℕ, ◌+◌, ◌-◌, ◌≤◌, ◌<◌, eqb, length, get_or, take, drop}
use Rattle.std.proofs.Math.Path.{sym, ap}
use Rattle.std.proofs.Common.{◌∙◌, length-take, take_at, le-leb, eq-eqb, ne_eqb}
use Rattle.std.proofs.Math.Bool.{false}
use native.Mathlib.Omega.{arith}
use native.Nat.{ℕᴺ_discrete}
use Rattle.paper.specs.Reader.{when◌then◌else◌, Reader, Out, got, no, filled, part, repeat}
use Rattle.paper.specs.Numbers.{put_fixed}
use Rattle.paper.specs.Lists.{all}
use Rattle.paper.specs.Calls.{over_front}
use Rattle.laws.specs.Codes.{fixed-length}
use Rattle.paper.specs.Ledger.{mapping, Field, Chunk, State, no_field, field_at}
use Rattle.paper.specs.Rules.{element_kind?, annotation?}
use Rattle.paper.specs.File.{value, chunk}
use Rattle.table.specs.View.{kind_from, flds_of, log_of, view, Holds, strings_in}
use Rattle.table.specs.Answers.{field_in, due_in}
use Rattle.table.specs.declared.rows.DueRow.{DueRow}
use Rattle.table.specs.declared.rows.FieldRow.{FieldRow}
use Rattle.numbers.specs.Cursors.{Step, Outcome, out_of, place_of, out_step}
use Rattle.numbers.specs.declared.Cursor.{Cursor}
use Rattle.numbers.specs.declared.Refusal.{Refusal}
use Rattle.values.specs.Pass.{forget, Passed}
use Rattle.values.specs.Annotations.{placed?}
use Rattle.values.specs.Items.{Known, linked, some_object, checked-by, item-object}
use Rattle.values.specs.Chunks.{Kinds, ChunkChecked, chunk-plain, constants-read}
use Rattle.values.specs.MapChunks.{MapsChecked}
use Rattle.lookups.specs.Group.{AllGrouped}
use Rattle.lookups.specs.Named.{unnamed?, element_kinds, unnamed_field?, Noted, noted-at, unnamed-map, unnamed-other}
use Rattle.lookups.specs.Objects.{firsts, lasts}
use Rattle.lookups.specs.Known.{lying-known, plain_known, noted-known, map-known}
use Rattle.numbers.specs.Faults.{number_of}
use Rattle.numbers.specs.declared.Fault.TheVariants as fault

-- an outcome of which only the next place is answered
abbrev pub step_of : Step → Out (Unit {0})
step_of r = out_step r tt

-- ── the values, by the numbers of the table ──

-- the answer is that of n values of the kind with the numbers k, a and e, in a state
pub record Valued (n k a e : ℕ) (s : State) (f : List ℕ) (r : Outcome ℕ) : Type 0 where
  pub says : forget (out_of r) ≡ forget (repeat n (value s (kind_from k a e)) f 0)
  pub inside : place_of r ≤ length f

pub valued : {n k a e strings : ℕ} {pools first last f : List ℕ} {r : Outcome ℕ} (s : State) → Known s e strings pools first last → ChunkChecked n k a e strings pools first last f r → Valued n k a e s f r
valued s K C = record { says = C.says s K; inside = C.inside }

-- the same, in every state whose objects of the kind lie in these ranges, whatever stands where the pools would
pub record Ranged (n k a e strings : ℕ) (first last f : List ℕ) (r : Outcome ℕ) : Type 0 where
  pub says : (s : State) → ((pools : List ℕ) → Known s e strings pools first last) → Valued n k a e s f r

pub ranged : {n k a e strings : ℕ} {pools first last f : List ℕ} {r : Outcome ℕ} → ChunkChecked n k a e strings pools first last f r → Ranged n k a e strings first last f r
ranged {pools} C = record { says = λ s K. valued s (K pools) C }

-- single references, each of which was asked for by itself
pub objects-valued :
    {n k a e t : ℕ} {f l part : List ℕ} {r : Outcome ℕ} → Kinds k a e → 32 ≤ k → 32 ≤ e → t ≡ e - 32 → Holds f l
    → Passed (repeat n (linked (some_object (firsts t (log_of l)) (lasts t (log_of l))))) part 0 r → Valued n k a e (view f l) part r
objects-valued {n} {k} {a} {e} {t} {f} {l} {part} {r} K single high is H P =
    let listed = K.element (omega arith) (λ q. omega arith) in
    let asked : Passed (repeat n (linked (some_object (firsts (e - 32) (log_of l)) (lasts (e - 32) (log_of l))))) part 0 r = rw is at P in
    valued {strings = strings_in l} {pools = []} (view f l) (lying-known H refl high)
    (chunk-plain listed (omega arith) (λ q. omega arith) (λ q. omega arith) (λ q. omega arith) (checked-by listed _ (item-object (strings_in l) [] _ _ e high) asked))

-- that of n maps of these kinds, in every state that the table l says and whose annotations the pools know
pub record MapsValued (n : ℕ) (kinds pools l f : List ℕ) (r : Outcome ℕ) : Type 0 where
  pub says :
      (source : List ℕ) → Holds source l → (unnamed? kinds ≡ false → (m n : ℕ) → placed? pools m n ≡ annotation? (view source l) m n)
      → forget (out_of r) ≡ forget (repeat n (value (view source l) (mapping kinds)) f 0)
  pub inside : place_of r ≤ length f

pub maps-valued :
    {n strings : ℕ} {pools starts first last kinds l f : List ℕ} {r : Outcome ℕ} → strings ≡ strings_in l → AllGrouped kinds l starts first last
    → MapsChecked n strings pools starts first last kinds f r → MapsValued n kinds pools l f r
maps-valued {n} {strings} {pools} {starts} {first} {last} {kinds} {l} {f} {r} count A C = record { says = λ source H say. C.says (view source l) (map-known H count pools kinds A say); inside = C.inside }

-- where the kind with these numbers has annotations, the pools say which of them keep the rule
pub record NotedKind (pools : List ℕ) (k a e : ℕ) (s : State) : Type 0 where
  pub say : unnamed? (element_kinds (kind_from k a e)) ≡ false → (m n : ℕ) → placed? pools m n ≡ annotation? s m n

-- as one does of which a field's kind is
pub noted-kind :
    {pools : List ℕ} {s : State} → Noted pools s → (i : ℕ) (row : FieldRow) → i < length s.fields → field_in row ≡ get_or s.fields i no_field
    → NotedKind pools row.kind row.a row.e s
unfolding unnamed_field?
noted-kind N i row lt is = record { say = λ h. noted-at N i no_field lt (rw (← is) h) }

-- the kinds of a row, which were laid at the front of a list
module _ {k a e : ℕ} (K : Kinds k a e) (is : k ≡ 20) where
  pub kinds-few : (1 ≤ a) × (a ≤ 8)
  kinds-few = let (lo, hi) = K.types is in (omega arith, hi)

  module _ (l : List ℕ) {j : ℕ} {m : List ℕ} (all_of : j ≡ a) (laid : m ≡ over_front (put_fixed a e) l) where
    pub kinds-are : take j m ≡ put_fixed a e
    unfolding over_front
    kinds-are = rw (all_of, laid) (take_at (put_fixed a e) _ a (fixed-length a e))

    pub kinds-lent : j ≡ length (take j m)
    kinds-lent = rw kinds-are (all_of ∙ sym (fixed-length a e))

    pub kinds-asked : (1 ≤ length (take j m)) × (all element_kind? (take j m) ≡ true)
    kinds-asked = rw kinds-are (omega (arith, fixed-length a e, kinds-few.0), K.kinds is)

    pub kinds-due : (2 ≤ length (take j m)) × (all element_kind? (take j m) ≡ true)
    kinds-due = rw kinds-are (omega (arith, fixed-length a e, (K.types is).0), K.kinds is)

    pub row-valued :
        {n : ℕ} {f w pools part : List ℕ} {r : Outcome ℕ} → Holds f w → NotedKind pools k a e (view f w) → MapsValued n (take j m) pools w part r → Valued n k a e (view f w) part r
    unfolding kind_from when◌then◌else◌
    row-valued {n} {f} {w} {pools} {part} {r} H N M =
        let known : MapsValued n (put_fixed a e) pools w part r = rw kinds-are at M in
        let say : unnamed? (put_fixed a e) ≡ false → (m n : ℕ) → placed? pools m n ≡ annotation? (view f w) m n = λ h. N.say (sym (unnamed-map k a e is refl) ∙ h) in
        record { says = rw is (known.says f H say); inside = M.inside }

-- constants are no bytes
pub constant-valued : {n k a e : ℕ} {s : State} {f : List ℕ} (x : ℕ) → k ≤ 4 → Valued n k a e s f (Ok (x, (record { at = 0 })))
unfolding forget
constant-valued {n} {k} {a} {e} {s} {f} x h = record { says = sym (constants-read n k a e s f h); inside = omega arith }

-- values that are neither maps nor refer to objects
pub plain-valued :
    {n k a e strings : ℕ} {f l pools first last part : List ℕ} {r : Outcome ℕ} → Holds f l → strings ≡ strings_in l → 4 < k → (k ≡ 20 → ⊥) → e < 32
    → NotedKind pools k a e (view f l) → ChunkChecked n k a e strings pools first last part r → Valued n k a e (view f l) part r
plain-valued {n} {k} {a} {e} {strings} {f} {l} {pools} {first} {last} {part} {r} H count from-5 other low N C = go (ℕᴺ_discrete e 5)
  where
    go : Dec (e ≡ 5) → Valued n k a e (view f l) part r
    go (Dec.no d) = valued (view f l) (plain_known H count low d) C
    go (Dec.yes d) = valued (view f l) (noted-known H count d (N.say (sym (unnamed-other k a e from-5 other {b = false} (rw d))))) C

-- ── a part that must be filled ──

forget-filled : {A : Type 0} (at n : ℕ) (o : Out A) → filled at n (forget o) ≡ forget (filled at n o)
unfolding forget when◌then◌else◌
forget-filled {A} at n (got a e) = go (eqb e n)
  where
    go : (b : Bool) → (when b then got tt (at + n) else no 12 (at + e)) ≡ forget (when b then got a (at + n) else no 12 (at + e))
    go true = refl
    go false = refl
forget-filled at n (no k p) = refl

-- a part is as long as it is cut
pub part-long : (f : List ℕ) (at size : ℕ) → length (take (at + size - at) (drop at f)) ≤ size
part-long f at size = rw length-take (omega arith)

-- the chunk, from the answer of its values, which code cut out of the file by their end
module _ (f l : List ℕ) (at : ℕ) (d : DueRow) (row : FieldRow) where
  pub chunk-is :
      {a : Outcome ℕ} {o : Out (Unit {0})} → Holds f l → at + d.size ≤ length f → field_in row ≡ get_or (flds_of l) d.field no_field
      → Valued d.values row.kind row.a row.e (view f l) (take (at + d.size - at) (drop at f)) a → o ≡ filled at d.size (forget (out_of a))
      → o ≡ forget (chunk (view f l) (due_in d) f at)
  unfolding chunk part field_at when◌then◌else◌
  chunk-is h room field vs q =
      let kind : (get_or (flds_of l) d.field no_field).kind ≡ kind_from row.kind row.a row.e = sym (ap (λ (x : Field). x.kind) field) in
      let read : Reader Chunk = repeat d.values (value (view f l) (kind_from row.kind row.a row.e)) in
      let long : at + d.size - at ≡ d.size = omega arith in
      rw (le-leb (at + d.size) (length f) room, kind)
      (q ∙ ap (filled at d.size) vs.says ∙ forget-filled at d.size (read (take (at + d.size - at) (drop at f)) 0)
      ∙ ap (λ (n : ℕ). forget (filled at d.size (read (take n (drop at f)) 0))) long)

-- ── the ways out of a part, as code meets them ──

module _ (at size : ℕ) {a : Outcome ℕ} where
  pub part-used : {x : ℕ} {c : Cursor} → a ≡ Ok (x, c) → c.at ≡ size → step_of (Ok (record { at = at + c.at })) ≡ filled at size (forget (out_of a))
  unfolding when◌then◌else◌ forget
  part-used {x} {c} is h = rw is (rw (eq-eqb c.at size h) (ap (λ (e : ℕ). got tt (at + e)) h))

  pub bytes_left : {x : ℕ} {c : Cursor} → a ≡ Ok (x, c) → (c.at ≡ size → ⊥) → step_of (Err (record { fault = fault.Chunk; place = at + c.at })) ≡ filled at size (forget (out_of a))
  unfolding when◌then◌else◌ forget
  bytes_left {x} {c} is h = rw is (rw (ne_eqb c.at size h))

  pub part-short : {e : Refusal} → a ≡ Err e → number_of e.fault ≡ 1 → step_of (Err (record { fault = fault.Chunk; place = at + e.place })) ≡ filled at size (forget (out_of a))
  unfolding when◌then◌else◌ forget
  part-short {e} is h = rw is (rw (eq-eqb (number_of e.fault) 1 h))

  pub part-refused : {e : Refusal} → a ≡ Err e → (number_of e.fault ≡ 1 → ⊥) → step_of (Err (record { fault = e.fault; place = at + e.place })) ≡ filled at size (forget (out_of a))
  unfolding when◌then◌else◌ forget
  part-refused {e} is h = rw is (rw (ne_eqb (number_of e.fault) 1 h))

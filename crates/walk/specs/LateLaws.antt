-- A kind that names no type: the table is cut back to where the pair began, and the front is read again. Assumes nothing.
use Rattle.std.specs.Prelude.{Err, Ok, ◌≡◌, Bool, ◌||◌, length, take}
use Rattle.std.proofs.Math.Path.{sym, ap, subst}
use Rattle.std.proofs.Common.{◌∙◌, arith, length-append}
use Rattle.std.proofs.Math.Bool.{true}
use mathlib.Core.List.{List, []}
use Prim.Native.Nat.{ℕ, ◌-◌, ◌≤◌}
use Rattle.std.proofs.Math.Dec.{ltb}
use Rattle.std.proofs.Math.Seq.{take-append_seam, take_all}
use Rattle.paper.specs.Ledger.{State}
use Rattle.paper.specs.Rules.{a_type?, closed, after_pair}
use Rattle.paper.specs.File.{front, refusal_of}
use Rattle.laws.specs.Longer.{Begins}
use Rattle.laws.specs.Columns.{Grows, pair-grows}
use Rattle.numbers.specs.declared.Cursor.{Cursor}
use Rattle.numbers.specs.declared.Refusal.{Refusal}
use Rattle.table.specs.View.{chunks_of, view, said, Said, Holds, strings_in, types_in, fields_in, ranges_in, chunks_in}
use Rattle.table.specs.Counts.{counts_in, cut_to, recounted, NotAbove, Cut}
use Rattle.table.specs.declared.rows.Counts.{Counts}
use Rattle.reader.specs.Kinds.{named_by}
use Rattle.reader.specs.Sound.{Sound}
use Rattle.reader.specs.Fields.{out_going}
use Rattle.reader.specs.Entries.{go_front, front_go}
use Rattle.reader.specs.EntryLaws.{Passed}
use Rattle.walk.specs.Steps.{step_of}
use Rattle.walk.specs.Blocks.{begins, front-block}
use Rattle.walk.specs.PairLaws.{PairReady, Fronted, late_of, late-front, state-is, chunks-are}
use Rattle.numbers.specs.Cursors.{Outcome, Step}
use Rattle.numbers.specs.declared.Fault.TheVariants as fault

-- what it asks of the table l, which has rows of a front that was read, and had so many before
pub record LateReady (f l : List ℕ) (before : Counts) (at : ℕ) : Type 0 where
  pub holds : Holds f l
  pub fewer : NotAbove before l
  pub sound : Sound (cut_to before (said f l))
  pub inside : at ≤ length f

pub record LateDone (f l : List ℕ) (before : Counts) (at : ℕ) (r : Step) (l' : List ℕ) : Type 0 where
  pub holds : Holds f l'
  pub says : step_of r ≡ refusal_of (front (a_type? (view f l)) (cut_to before (said f l)).state f at)

module _ {f l : List ℕ} {before : Counts} {at : ℕ} (L : LateReady f l before at) {l₁ : List ℕ} (cut : Cut before l l₁) where
  module _ {types : ℕ} (count : types ≡ types_in l) {l₂ : List ℕ} {a : Outcome ℕ} (passed : Passed f l₂ at a (front_go (named_by true types) (said f l₁) f at)) where
    same-named : named_by true types ≡ a_type? (view f l)
    unfolding named_by a_type?
    same-named = λ i k. ltb k 32 || ltb (k - 32) ((count ∙ sym L.holds.names-count) i)

    late_is : late_of (out_going f l₂ a) ≡ refusal_of (front (a_type? (view f l)) (cut_to before (said f l)).state f at)
    unfolding front_go
    late_is =
        ap late_of passed.says ∙ late-front (go_front (said f l₁)) (front (named_by true types) (view f l₁) f at)
        ∙ ap (λ (named : ℕ → Bool). refusal_of (front named (view f l₁) f at)) same-named
        ∙ ap (λ (u : Said). refusal_of (front (a_type? (view f l)) u.state f at)) (cut.says f L.holds).says

    pub late-got : {x : ℕ} {c : Cursor} → a ≡ Ok (x, c) → LateDone f l before at (Err (record { fault = fault.Kind; place = c.at })) l₂
    late-got is = record { holds = passed.holds; says = rw is at late_is }

    pub late-no : {e : Refusal} → a ≡ Err e → LateDone f l before at (Err e) l₂
    late-no is = record { holds = passed.holds; says = rw is at late_is }

-- ── cut back, the table says what it said ──

begins-length : {A : Type 0} {xs ys : List A} → Begins xs ys → length xs ≤ length ys
begins-length {A} {xs} b = omega (arith, ap length b.is ∙ length-append xs b.rest)

begins-take : {A : Type 0} {xs ys : List A} (n : ℕ) → Begins xs ys → n ≡ length xs → take n ys ≡ xs
begins-take {A} {xs} n b is = rw (is, b.is) (take-append_seam xs b.rest)

module _ {f l l₁ : List ℕ} {at size m : ℕ} (R : PairReady f l at) (F : Fronted f l l₁ at size m) (h₁ : Holds f l₁) (sound : Sound (said f l₁)) where
  grown : Grows (view f l) (view f l₁)
  unfolding after_pair closed
  grown =
      let g = pair-grows (view f l) (record { strings = F.d.strings; entries = F.d.entries; chunks = [] }) in
      subst (Grows (view f l)) (sym (state-is R F h₁ sound))
      (record { strings = g.strings; type_names = g.type_names; types = g.types; field_names = g.field_names; fields = g.fields; log = g.log })

  not-above : NotAbove (counts_in l) l₁
  not-above =
      let h = R.steady.holds in
      record {
        strings-had = omega (arith, begins-length grown.strings, h.strs-count, h₁.strs-count);
        types-had = omega (arith, begins-length grown.type_names, h.names-count, h₁.names-count);
        fields_had = omega (arith, begins-length grown.fields, h.ok.flds-count, h₁.ok.flds-count);
        ranges-had = omega (arith, begins-length grown.log, h.ok.log-count, h₁.ok.log-count);
        chunks-had = omega (arith, ap length (chunks-are R F h₁ sound), h.ok.chunks-count, h₁.ok.chunks-count);
      }

  pub cut-same : cut_to (counts_in l) (said f l₁) ≡ said f l
  unfolding recounted
  cut-same =
      let h = R.steady.holds in
      λ i. record {
        state = record {
          strings = begins-take (strings_in l) grown.strings (sym h.strs-count) i;
          type_names = begins-take (types_in l) grown.type_names (sym h.names-count) i;
          types = begins-take (types_in l) grown.types (sym h.ok.types-count) i;
          field_names = begins-take (fields_in l) grown.field_names (sym h.titles-count) i;
          fields = begins-take (fields_in l) grown.fields (sym h.ok.flds-count) i;
          log = begins-take (ranges_in l) grown.log (sym h.ok.log-count) i;
          block = (ap (λ (u : State). u.block) (state-is R F h₁ sound) ∙ front-block (view f l) F.d.strings F.d.entries) i;
        };
        due = sym R.steady.between.none i;
        chunks = (ap (take (chunks_in l)) (chunks-are R F h₁ sound) ∙ take_all (chunks_in l) (chunks_of l) (omega (arith, h.ok.chunks-count))) i;
      }

  pub late-ready : LateReady f l₁ (counts_in l) at
  late-ready = record { holds = h₁; fewer = not-above; sound = rw cut-same (begins R.steady.between R.block); inside = R.inside }

  -- the refusal of the front that is read again is the pair's
  pub late-says : {r : Step} {l₂ : List ℕ} → LateDone f l₁ (counts_in l) at r l₂ → step_of r ≡ refusal_of (front (a_type? (view f l₁)) (view f l) f at)
  late-says D = D.says ∙ ap (λ (u : Said). refusal_of (front (a_type? (view f l₁)) u.state f at)) cut-same

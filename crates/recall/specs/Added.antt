-- What a step of the walk adds to what is known: a block adds strings, an entry one range, and perhaps a type and fields.
-- Assumes nothing.
use Rattle.std.specs.Prelude.{◌≡◌, true, false, List, [], ◌∷◌, ◌++◌, map, ℕ, ◌+◌, ◌-◌, ◌≤◌, ◌<◌, length}
use Rattle.std.proofs.Math.Path.{refl, sym}
use Rattle.std.proofs.Common.{ap, ◌∙◌, subst, arith, length-append, leb-true}
use Rattle.std.proofs.Math.Option.{none, some}
use Rattle.std.proofs.lemmas.List.{length-map}
use Rattle.paper.specs.Reader.{got, only}
use Rattle.paper.specs.Numbers.{number}
use Rattle.paper.specs.Lists.{fold, given?, or, last_or}
use Rattle.paper.specs.Ledger.{New, Head, Entry, Range, State, text, pool_before}
use Rattle.paper.specs.Rules.{small_rules, strings_rules, with_strings, new?, type_of, type_name_rules, super_name_rules, super_of, count_rules, restriction_rules, base_under, base_of, new_name, new_type, new_range, after_head, field_count_rules, after_new, after_entry, any_type}
use Rattle.paper.specs.File.{small, string_block, restrictions, head, new_field, upto_new, what}
use Rattle.laws.specs.Laws.{bind_inv}
use Rattle.laws.specs.Says.{Held}
use Rattle.laws.specs.Bools.{held-split}
use Rattle.laws.specs.Count.{made, fold-fields}
use Rattle.table.specs.View.{maybe}
use Rattle.lookups.specs.Low.{news-log}
use Rattle.reader.specs.Runs.{times-many}
use Rattle.trail.specs.Told.{number-got, give-got}
use Rattle.trail.specs.Texts.{block_read}
use Rattle.trail.specs.Heads.{TopTold, HeadPast, only-got}
use Rattle.trail.specs.Entries.{FieldsParts, entry-parts}
use Rattle.trail.specs.Stages.{Stage, numbered, enters, onward, Tells, Opened, opens-parts, enters-parts, onward-block, onward-entry}
use Rattle.trail.specs.declared.trail.Trail.{Trail}
use Rattle.trail.specs.declared.trail.Top.{Top}

-- ── an entry and what is known ──

news-block : (t : ℕ) (gs : List New) (s : State) → (fold (after_new t) s gs).block ≡ s.block
unfolding fold after_new
news-block t [] s = refl
news-block t (g ∷ gs) s = news-block t gs (after_new t s g)

news-strings : (t : ℕ) (gs : List New) (s : State) → (fold (after_new t) s gs).strings ≡ s.strings
unfolding fold after_new
news-strings t [] s = refl
news-strings t (g ∷ gs) s = news-strings t gs (after_new t s g)

news-type_names : (t : ℕ) (gs : List New) (s : State) → (fold (after_new t) s gs).type_names ≡ s.type_names
unfolding fold after_new
news-type_names t [] s = refl
news-type_names t (g ∷ gs) s = news-type_names t gs (after_new t s g)

news-types : (t : ℕ) (gs : List New) (s : State) → (fold (after_new t) s gs).types ≡ s.types
unfolding fold after_new
news-types t [] s = refl
news-types t (g ∷ gs) s = news-types t gs (after_new t s g)

news-field_names : (t : ℕ) (gs : List New) (s : State) → length (fold (after_new t) s gs).field_names ≡ length s.field_names + length gs
unfolding fold after_new
news-field_names t [] s = omega arith
news-field_names t (g ∷ gs) s = omega (arith, news-field_names t gs (after_new t s g), length-append s.field_names (text s g.name ∷ []))

pub entry-log : (s : State) (e : Entry) → (after_entry s e).log ≡ s.log ++ new_range s e.head ∷ []
unfolding after_entry after_head
entry-log s e = news-log (type_of s e.head.name) e.news (after_head s e.head)

-- what an entry adds, by its head and its new fields
pub record After (s : State) (h : Head) (gs : List New) (s₂ : State) : Type 0 where
  pub strings : s₂.strings ≡ s.strings
  pub type_names : s₂.type_names ≡ s.type_names ++ new_name s h
  pub types : s₂.types ≡ s.types ++ new_type s h
  pub fields : s₂.fields ≡ s.fields ++ map (made (type_of s h.name)) gs
  pub field_names : length s₂.field_names ≡ length s.field_names + length gs
  pub log : s₂.log ≡ s.log ++ new_range s h ∷ []
  pub block : s₂.block ≡ s.block

pub entry-after : (s : State) (h : Head) (gs : List New) → After s h gs (after_entry s (record { head = h; news = gs }))
unfolding after_entry after_head
entry-after s h gs =
    let t = type_of s h.name in
    let s₁ = after_head s h in
    record {
      strings = news-strings t gs s₁;
      type_names = news-type_names t gs s₁;
      types = news-types t gs s₁;
      fields = fold-fields t gs s₁;
      field_names = news-field_names t gs s₁;
      log = news-log t gs s₁;
      block = news-block t gs s₁;
    }

-- ── the rules that a head was held to ──

pub record HeadHeld (s : State) (h : Head) : Type 0 where
  pub name : Held (type_name_rules s h.name)
  pub super-due : new? s h.name ≡ true → (n : ℕ) × (h.super ≡ some n) × Held (super_name_rules s (type_of s h.name) n)
  pub super-left : new? s h.name ≡ false → h.super ≡ none
  pub start-due : given? (super_of s h.name h.super) ≡ true → (n : ℕ) × (h.start ≡ some n) × Held (small_rules n)
  pub start_left : given? (super_of s h.name h.super) ≡ false → h.start ≡ none
  pub count : Held (count_rules s (super_of s h.name h.super) (or h.start 0) h.count)

pub head-held : (s : State) (f : List ℕ) (at : ℕ) (h : Head) (q : ℕ) → head s f at ≡ got h q → HeadHeld s h
unfolding head small restrictions
head-held s f at h q r =
    let A = bind_inv (number (type_name_rules s)) _ f at h q r in
    let B = bind_inv (only (new? s A.value) (number (super_name_rules s (type_of s A.value)))) _ f A.next h q A.rest in
    let C = bind_inv (only (given? (super_of s A.value B.value)) (number small_rules)) _ f B.next h q B.rest in
    let D = bind_inv (number (count_rules s (super_of s A.value B.value) (or C.value 0))) _ f C.next h q C.rest in
    let E = bind_inv (only (new? s A.value) (number restriction_rules)) _ f D.next h q D.rest in
    let (is, z) = give-got (record { name = A.value; super = B.value; start = C.value; count = D.value }) f E.next h q E.rest in
    let super = only-got (new? s A.value) (super_name_rules s (type_of s A.value)) f A.next B.value B.next B.first in
    let start = only-got (given? (super_of s A.value B.value)) small_rules f B.next C.value C.next C.first in
    subst (HeadHeld s) is
    (record {
      name = held-split (type_name_rules s A.value) (number-got (type_name_rules s) f at A.value A.next A.first).1;
      super-due = λ t. let (n, x, y) = super.due t in (n, x, held-split (super_name_rules s (type_of s A.value) n) (number-got (super_name_rules s (type_of s A.value)) f A.next n B.next y).1);
      super-left = λ t. (super.left t).0;
      start-due = λ t. let (n, x, y) = start.due t in (n, x, held-split (small_rules n) (number-got small_rules f B.next n C.next y).1);
      start_left = λ t. (start.left t).0;
      count = held-split (count_rules s (super_of s A.value B.value) (or C.value 0) D.value) (number-got (count_rules s (super_of s A.value B.value) (or C.value 0)) f C.next D.value D.next D.first).1;
    })

-- ── a step into a block ──

pub record BlockAdded (g h : Stage) : Type 0 where
  pub strings : List (List ℕ)
  pub room : length g.state.strings + length strings ≤ 1024
  pub few : g.pairs < 32
  pub known : h.state.strings ≡ g.state.strings ++ strings
  pub type_names : h.state.type_names ≡ g.state.type_names
  pub types : h.state.types ≡ g.state.types
  pub fields : h.state.fields ≡ g.state.fields
  pub field_names : h.state.field_names ≡ g.state.field_names
  pub log : h.state.log ≡ g.state.log
  pub block : h.state.block ≡ g.pairs
  pub pairs : h.pairs ≡ g.pairs + 1

strings-room : (s : State) (f : List ℕ) (p : ℕ) (strs : List (List ℕ)) (q : ℕ) → string_block s f p ≡ got strs q → length s.strings + length strs ≤ 1024
unfolding string_block strings_rules
strings-room s f p strs q h =
    let A = bind_inv (number (strings_rules s)) _ f p strs q h in
    let (v, w) = number-got (strings_rules s) f p A.value A.next A.first in
    let B = block_read s f p strs q h in
    let n-is : A.value ≡ length strs = cc (sym v ∙ B.block.counted) in
    let le : length s.strings + A.value ≤ 1024 = leb-true (length s.strings + A.value) 1024 (held-split (strings_rules s A.value) w).0 in
    omega (arith, le)

pub block-added : {f : List ℕ} {g : Stage} {at : ℕ} {h : Stage} {q : ℕ} → Opened f g at h q → BlockAdded g h
unfolding with_strings numbered
block-added {f = f} {g = g} {at = at} O =
    subst (BlockAdded g) (sym O.is)
    (record {
      strings = O.strings;
      room = strings-room (numbered g) f (at + g.end) O.strings O.after-strings O.strings-read;
      few = O.few;
      known = refl;
      type_names = refl;
      types = refl;
      fields = refl;
      field_names = refl;
      log = refl;
      block = refl;
      pairs = refl;
    })

-- ── a step over an entry ──

pub record EntryAdded (f : List ℕ) (g : Stage) (at : ℕ) (h : Stage) : Type 0 where
  pub top : Head
  pub after-top : ℕ
  pub top_read : head g.state f at ≡ got top after-top
  pub news : List New
  pub room : length g.state.fields + length news ≤ 128
  pub after : After g.state top news h.state
  pub pairs : h.pairs ≡ g.pairs
  pub left : h.left ≡ g.left - 1

fields-room : (s : State) (h : Head) {t known end : ℕ} {f : List ℕ} {at : ℕ} {v : List New × List ℕ} {q : ℕ} → FieldsParts t known (record { state = after_head s h; end = end }) f at v q → length s.fields + length v.0 ≤ 128
unfolding field_count_rules after_head
fields-room s h {t = t} {known = known} {end = end} {f = f} {at = at} {v = v} P =
    let rules = field_count_rules (after_head s h) known in
    let H = held-split (rules P.count) (number-got rules f at P.count P.after-count P.count-read).1 in
    let many = times-many (P.count - known) (new_field any_type t) (upto_new t) (record { state = after_head s h; end = last_or end P.olds }) f P.after-olds P.news-read in
    let long : length v.0 ≡ length P.news = ap (λ (x : List New × List ℕ). length x.0) P.is ∙ length-map P.news what in
    let le : length s.fields + (P.count - known) ≤ 128 = leb-true (length s.fields + (P.count - known)) 128 H.0 in
    omega (arith, many, long, le)

pub entry-added : (f : List ℕ) (g : Stage) (at : ℕ) (h : Stage) (q : ℕ) → enters g f at ≡ got h q → EntryAdded f g at h
entry-added f g at h q r =
    let (e, reads, is) = enters-parts f g at h q r in
    let P = entry-parts g.state g.end f at e q reads in
    let e-is : e.0 ≡ record { head = P.top; news = P.body.0 } = ap (λ (x : Entry × List ℕ). x.0) P.is in
    let A = entry-after g.state P.top P.body.0 in
    subst (EntryAdded f g at) (sym is)
    (record {
      top = P.top;
      after-top = P.after-top;
      top_read = P.top_read;
      news = P.body.0;
      room = fields-room g.state P.top P.parts;
      after = subst (λ (x : Entry). After g.state P.top P.body.0 (after_entry g.state x)) (sym e-is) A;
      pairs = refl;
      left = refl;
    })

-- ── the same, by what a trail tells of the head ──

pub record RangeAdded (g h : Stage) (top : Top) : Type 0 where
  pub range : Range
  pub log : h.state.log ≡ g.state.log ++ range ∷ []
  pub type : range.type ≡ top.typ
  pub block : range.block ≡ g.state.block
  pub start : range.start ≡ top.start
  pub first : range.first ≡ pool_before g.state (base_under g.state.types top.typ (maybe top.up)) + top.start
  pub count : range.count ≡ top.count
  pub still : h.state.block ≡ g.state.block

module _ {f : List ℕ} {g h : Stage} {at : ℕ} {t : Trail} {top : Top} (H : HeadPast f t top) (T : Tells f g at t) (E : EntryAdded f g at h) where
  pub top-told : TopTold f g.state t E.top E.after-top top
  top-told = H.told g.state T.knows E.top E.after-top (ap (head g.state f) T.place ∙ E.top_read)

  pub range-added : RangeAdded g h top
  unfolding new_range base_of
  range-added =
      let X = top-told in
      let s = g.state in
      let base-is : base_under s.types (type_of s E.top.name) (super_of s E.top.name E.top.super) ≡ base_under s.types top.typ (maybe top.up) = rw (X.typ, X.up) refl in
      record {
        range = new_range s E.top;
        log = E.after.log;
        type = sym X.typ;
        block = refl;
        start = sym X.start;
        first = rw (base-is, X.start) refl;
        count = sym X.count;
        still = E.after.block;
      }

-- ── the same, for a step of either kind ──

pub step-block-added : (f : List ℕ) (g : Stage) (at : ℕ) (h : Stage) (q : ℕ) → g.left ≡ 0 → onward g f at ≡ got h q → BlockAdded g h
step-block-added f g at h q z r = block-added (opens-parts f g at h q (onward-block g f at z ∙ r))

pub step-entry-added : (f : List ℕ) (g : Stage) (at : ℕ) (h : Stage) (q : ℕ) → (g.left ≡ 0 → ⊥) → onward g f at ≡ got h q → EntryAdded f g at h
step-entry-added f g at h q nz r = entry-added f g at h q (onward-entry g f at nz ∙ r)

-- The ways out of reading known fields, on plain values: one field, and a turn of the loop over all. Assumes nothing.
use Rattle.std.specs.Prelude.{Ok, Err, ◌≡◌, List, [], ℕ, ◌+◌, ◌-◌, ◌≤◌, ◌<◌, ◌^◌, length, get_or}
use Rattle.std.proofs.Math.Path.{refl, sym, ap}
use Rattle.std.proofs.Common.{◌∙◌, arith, le_refl}
use borrow.Author.Tests.{eq-eqb, ne_eqb}
use Rattle.paper.specs.Reader.{when◌then◌else◌, got, and_then, turned}
use Rattle.paper.specs.Ledger.{State, Field, no_field, field_at, owns?}
use Rattle.paper.specs.Rules.{values_due, old_due}
use Rattle.paper.specs.File.{end_offset}
use Rattle.numbers.specs.Cursors.{Read, was-got, was-refused, Outcome}
use Rattle.numbers.specs.declared.Cursor.{Cursor}
use Rattle.numbers.specs.declared.Refusal.{Refusal}
use Rattle.table.specs.View.{flds_of, view, Holds, Said, said, Now, fields_in, dues_in}
use Rattle.table.specs.Answers.{Stretched}
use Rattle.table.specs.declared.rows.Stretch.{Stretch}
use Rattle.table.specs.Adds.{add_due}
use Rattle.table.specs.Packed.{due_cells}
use Rattle.table.specs.Pushes.{Pushed}
use Rattle.table.specs.ViewLaws.{pushed-due}
use Rattle.reader.specs.Sound.{every_map, Before, Open, old-room, due-added}
use Rattle.reader.specs.Going.{go_old}
use Rattle.reader.specs.Fields.{going, olds_of, old_go, olds_go, out_going, Went}
use Rattle.reader.specs.OldSteps.{own_from, olds-all, olds-none, own-begins, own-ends, olds-stop, olds-step, old-keeps}

pub open-later : {g : Said} {t i j : ℕ} → Open g t i → i ≤ j → Open g t j
open-later {g} {t} {i} {j} o le =
    record { sound = o.sound; entered = o.entered; before = every_map (Before g.state t i) (Before g.state t j) (λ d h own. omega (arith, h own)) g.due o.before }

-- ── field i ──

module _ {f l : List ℕ} (h : Holds f l) {t i : ℕ} (o : Open (said f l) t i) (lt : i < fields_in l) {d : Field} (is : d ≡ get_or (flds_of l) i no_field) where
  -- it is of another type
  pub old-other : (added end : ℕ) {c : Cursor} → (d.owner ≡ t → ⊥) → Went f l t (i + 1) c.at (Ok (end, c)) (old_go added t i (going f l end) f c.at)
  unfolding old_go owns? field_at when◌then◌else◌
  old-other added end not-mine =
      record {
        holds = h;
        says = rw (← is, ne_eqb d.owner t not-mine);
        inside = λ lo. lo;
        still_open = open-later o (omega arith);
      }

  module _ (mine : d.owner ≡ t) where
    owner-is : (field_at (view f l) i).owner ≡ t
    unfolding field_at
    owner-is = rw (← is) mine

    pub old-has-room : dues_in l < 128
    old-has-room = omega (arith, h.ok.dues-count, old-room o i (le_refl i) (omega (arith, h.ok.flds-count)) owner-is)

    module _ (added end : ℕ) {at : ℕ} {a : Outcome ℕ} (read : Read (end_offset end) (2 ^ 64) f at a) where
      old-is : old_go added t i (going f l end) f at ≡ turned (go_old added (going f l end) i) (end_offset end f at)
      unfolding old_go owns? field_at when◌then◌else◌
      old-is = rw (← is, eq-eqb d.owner t mine)

      pub old-no : {e : Refusal} → a ≡ Err e → Went f l t (i + 1) at (Err e) (old_go added t i (going f l end) f at)
      old-no no-is =
          let R = was-refused read no-is in
          record { holds = h; says = sym (old-is ∙ rw R.says); inside = R.inside; still_open = tt }

      module _ {e : ℕ} {c : Cursor} (got-is : a ≡ Ok (e, c)) {l' : List ℕ} {v : ℕ} (due-is : v ≡ values_due d.kind added) (p : Pushed 4 7344 4 (due_cells i v (e - end)) l l') where
        now : Now f l' (add_due (said f l) (record { field = i; values = v }) (e - end))
        now = pushed-due h i v (e - end) old-has-room p.push

        due-goes : add_due (said f l) (record { field = i; values = v }) (e - end) ≡ (go_old added (going f l end) i e).said
        unfolding add_due go_old old_due field_at
        due-goes = rw (← is, due-is)

        opened_after : Open (said f l') t (i + 1)
        unfolding add_due
        opened_after =
            due-added {g = said f l} {g' = said f l'} o i (le_refl i) (omega (arith, h.ok.flds-count)) owner-is (record { field = i; values = v }, e - end) refl
            (ap (λ (s : Said). s.state) now.says) (ap (λ (s : Said). s.due) now.says) (ap (λ (s : Said). s.chunks) now.says)

        pub old-got : Went f l' t (i + 1) at (Ok (e, c)) (old_go added t i (going f l end) f at)
        unfolding go_old
        old-got =
            let R = was-got read got-is in
            record {
              holds = now.holds;
              says = ap (λ (s : Said). got (record { said = s; end = e }) c.at) (now.says ∙ due-goes) ∙ sym (old-is ∙ rw R.says);
              inside = R.inside;
              still_open = opened_after;
            }

-- ── all of them ──

-- no object is added
pub olds-skip : {f l : List ℕ} → Holds f l → {t : ℕ} → Open (said f l) t 0 → {added : ℕ} → added ≡ 0 → (end : ℕ) {c : Cursor} → Went f l t (length (flds_of l)) c.at (Ok (end, c)) (olds_go added (olds_of added (view f l) t) (going f l end) f c.at)
olds-skip {f} {l} h {t} o {added} none end {c} =
    record {
      holds = h;
      says = sym (rw (olds-none added (view f l) t none) (olds-stop added f (going f l end) c.at));
      inside = λ lo. lo;
      still_open = open-later o (omega arith);
    }

-- at place i, of n: what is left to do from here gives the whole
pub record OldsGoing (f l₀ l : List ℕ) (t added end at₀ n i last at : ℕ) : Type 0 where
  pub holds : Holds f l
  pub still_open : Open (said f l) t i
  pub fields : n ≤ fields_in l
  pub fewer : i ≤ n
  pub behind : own_from t n (flds_of l) ≡ []
  pub long : length l ≡ length l₀
  pub inside : at₀ ≤ length f → at ≤ length f
  pub says : olds_go added (olds_of added (view f l₀) t) (going f l₀ end) f at₀ ≡ olds_go added (own_from t i (flds_of l)) (going f l last) f at

pub olds-begin : {f l : List ℕ} → Holds f l → {t : ℕ} → Open (said f l) t 0 → {added : ℕ} → (added ≡ 0 → ⊥) → {r : Stretch} → Stretched t (flds_of l) r → (end at : ℕ) → OldsGoing f l l t added end at r.to r.from end at
olds-begin {f} {l} h {t} o {added} some own end at =
    record {
      holds = h;
      still_open = open-later o (omega arith);
      fields = omega (arith, own.inside, h.ok.flds-count);
      fewer = own.forward;
      behind = own-ends own;
      long = refl;
      inside = λ lo. lo;
      says = rw (olds-all added (view f l) t some) (ap (λ (is : List ℕ). olds_go added is (going f l end) f at) (own-begins own));
    }

module _ {f l₀ l : List ℕ} {t added end at₀ n i last at : ℕ} (g : OldsGoing f l₀ l t added end at₀ n i last at) where
  pub olds-done : n ≤ i → Went f l t (length (flds_of l)) at₀ (Ok (last, record { at = at })) (olds_go added (olds_of added (view f l₀) t) (going f l₀ end) f at₀)
  olds-done le =
      let last-is : i ≡ n = omega (arith, g.fewer) in
      record {
        holds = g.holds;
        says = sym (g.says ∙ rw (last-is, g.behind) (olds-stop added f (going f l last) at));
        inside = g.inside;
        still_open = open-later g.still_open (omega (arith, g.fewer, g.fields, g.holds.ok.flds-count));
      }

  module _ (lt : i < n) {l' : List ℕ} {a : Outcome ℕ} (one : Went f l' t (i + 1) at a (old_go added t i (going f l last) f at)) where
    turn : olds_go added (olds_of added (view f l₀) t) (going f l₀ end) f at₀ ≡ and_then (out_going f l' a) (λ g' e. olds_go added (own_from t (i + 1) g'.said.state.fields) g' f e)
    turn =
        g.says ∙ olds-step added f t i (going f l last) at (omega (arith, g.holds.ok.flds-count, g.fields)) ∙ rw (← one.says) refl

    pub olds-no : {e : Refusal} → a ≡ Err e → Went f l' t (length (flds_of l')) at₀ (Err e) (olds_go added (olds_of added (view f l₀) t) (going f l₀ end) f at₀)
    olds-no is =
        let one' = rw is at one in
        record { holds = one'.holds; says = sym (turn ∙ rw is refl); inside = λ lo. one'.inside (g.inside lo); still_open = tt }

    pub olds-next : {e : ℕ} {c : Cursor} → a ≡ Ok (e, c) → length l' ≡ length l → OldsGoing f l₀ l' t added end at₀ n (i + 1) e c.at
    olds-next {e} {c} is long =
        let one' = rw is at one in
        let kept : view f l' ≡ view f l = old-keeps added f t i (going f l last) (going f l' e) at c.at one'.says in
        let same : flds_of l' ≡ flds_of l = ap (λ (s : State). s.fields) kept in
        record {
          holds = one'.holds;
          still_open = one'.still_open;
          fields = omega (arith, one'.holds.ok.flds-count, ap length same, g.holds.ok.flds-count, g.fields);
          fewer = omega arith;
          behind = ap (own_from t n) same ∙ g.behind;
          long = long ∙ g.long;
          inside = λ lo. one'.inside (g.inside lo);
          says = turn ∙ rw is refl;
        }

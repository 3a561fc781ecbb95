-- The chunks of known fields, put down as due: the ways out, on plain values, for one field and for all. Assumes nothing.
use Rattle.std.specs.Prelude.{◌≡◌, Bool, true, false, List, [], ◌∷◌, ℕ, ◌+◌, ◌≤◌, ◌<◌, length, get_or}
use Rattle.std.proofs.Math.Path.{refl}
use Rattle.std.proofs.Common.{sym, ap, ◌∙◌, append_assoc, append-nil, arith, le_refl}
use borrow.Author.Tests.{eq-eqb, ne_eqb}
use Rattle.paper.specs.Reader.{when◌then◌else◌}
use Rattle.paper.specs.Ledger.{State, Field, no_field, field_at, owns?}
use Rattle.paper.specs.Rules.{values_due, old_due}
use Rattle.table.specs.View.{flds_of, view, Holds, Said, said, fields_in, dues_in}
use Rattle.table.specs.Answers.{Stretched}
use Rattle.table.specs.declared.rows.Stretch.{Stretch}
use Rattle.table.specs.Adds.{add_due}
use Rattle.table.specs.Packed.{due_cells}
use Rattle.table.specs.Pushes.{Pushed}
use Rattle.table.specs.ViewLaws.{pushed-due}
use Rattle.reader.specs.Sound.{Open, old-room, due-added}
use Rattle.reader.specs.Fields.{olds_of}
use Rattle.reader.specs.OldSteps.{own_from, own-step, own-begins, own-ends, olds-all, olds-none}
use Rattle.reader.specs.OldLaws.{open-later}
use Rattle.judge.specs.Fields.{unsized, add_old, old_step, add_olds, Ready, Opens, OldTold, OldsTold}

-- ── field i ──

module _ (l : List ℕ) {t i : ℕ} (lt : i < fields_in l) {d : Field} (is : d ≡ get_or (flds_of l) i no_field) (added : ℕ) where
  -- it is of another type
  pub old-other : (d.owner ≡ t → ⊥) → OldTold t i added l l
  unfolding old_step owns? field_at when◌then◌else◌
  old-other not-mine =
      record { says = λ f h o. record { now = record { holds = h; says = rw (← is, ne_eqb d.owner t not-mine) }; still_open = open-later o (omega arith) } }

  module _ (mine : d.owner ≡ t) where
    owner-is : (f : List ℕ) → (field_at (view f l) i).owner ≡ t
    unfolding field_at
    owner-is f = rw (← is) mine

    room-over : (f : List ℕ) → Holds f l → Open (said f l) t i → dues_in l < 128
    room-over f h o = omega (arith, h.ok.dues-count, old-room o i (le_refl i) (omega (arith, h.ok.flds-count)) (owner-is f))

    pub old-has-room : Ready l t i → dues_in l < 128
    old-has-room r = room-over r.names r.holds r.still_open

    module _ {v : ℕ} (v-is : v ≡ values_due d.kind added) {l' : List ℕ} (p : Pushed 4 7344 4 (due_cells i v 0) l l') where
      is-step : (f : List ℕ) → add_due (said f l) (record { field = i; values = v }) 0 ≡ old_step added t i (said f l)
      unfolding add_due old_step add_old unsized old_due owns? field_at when◌then◌else◌
      is-step f = rw (← is, eq-eqb d.owner t mine, v-is)

      told : (f : List ℕ) → Holds f l → Open (said f l) t i → Opens f l' t (i + 1) (old_step added t i (said f l))
      unfolding add_due
      told f h o =
          let now = pushed-due h i v 0 (room-over f h o) p.push in
          record {
            now = record { holds = now.holds; says = now.says ∙ is-step f };
            still_open = due-added {g = said f l} {g' = said f l'} o i (le_refl i) (omega (arith, h.ok.flds-count)) (owner-is f) (record { field = i; values = v }, 0) refl
                (ap (λ (s : Said). s.state) now.says) (ap (λ (s : Said). s.due) now.says) (ap (λ (s : Said). s.chunks) now.says);
          }

      pub old-mine : OldTold t i added l l'
      old-mine = record { says = told }

-- ── one place after the other ──

olds-stop : (added : ℕ) (s : Said) → add_olds added s [] ≡ s
unfolding add_olds
olds-stop added s = λ j. record { state = s.state; due = append-nil s.due j; chunks = s.chunks }

olds-one : (added : ℕ) (s : Said) (i : ℕ) (is : List ℕ) → add_olds added s (i ∷ is) ≡ add_olds added (add_old added s i) is
unfolding add_olds add_old
olds-one added s i is = rw append_assoc refl

old-keeps : (added t i : ℕ) (s : Said) → (old_step added t i s).state ≡ s.state
unfolding old_step add_old when◌then◌else◌
old-keeps added t i s = go (owns? t (field_at s.state i))
  where
    go : (b : Bool) → (when b then add_old added s i else s).state ≡ s.state
    go true = refl
    go false = refl

-- what is left at place i is field i and what is left then
olds-step : (added t i : ℕ) (s : Said) → i < length s.state.fields → add_olds added s (own_from t i s.state.fields) ≡ add_olds added (old_step added t i s) (own_from t (i + 1) s.state.fields)
unfolding old_step field_at when◌then◌else◌
olds-step added t i s lt = ap (add_olds added s) (own-step t i s.state.fields lt) ∙ go (owns? t (get_or s.state.fields i no_field))
  where
    after : List ℕ
    after = own_from t (i + 1) s.state.fields

    go : (b : Bool) → add_olds added s (when b then i ∷ after else after) ≡ add_olds added (when b then add_old added s i else s) after
    go true = olds-one added s i after
    go false = refl

-- ── all of them ──

-- over the bytes f: what is left at place i gives the whole
pub record Left (f l₀ l : List ℕ) (t added i : ℕ) : Type 0 where
  pub holds : Holds f l
  pub still_open : Open (said f l) t i
  pub rest : add_olds added (said f l₀) (olds_of added (view f l₀) t) ≡ add_olds added (said f l) (own_from t i (flds_of l))

pub record DuesGoing (l₀ l : List ℕ) (t added n i : ℕ) : Type 0 where
  pub ready : Ready l t i
  pub fields : n ≤ fields_in l
  pub fewer : i ≤ n
  pub behind : own_from t n (flds_of l) ≡ []
  pub long : length l ≡ length l₀
  pub says : (f : List ℕ) → Holds f l₀ → Open (said f l₀) t 0 → Left f l₀ l t added i

-- no object is added
pub dues-skip : {l : List ℕ} (t : ℕ) {added : ℕ} → added ≡ 0 → OldsTold t added l l
dues-skip {l} t {added} none =
    record {
      says = λ f h o. record {
        now = record { holds = h; says = sym (ap (add_olds added (said f l)) (olds-none added (view f l) t none) ∙ olds-stop added (said f l)) };
        still_open = open-later o (omega arith);
      };
    }

pub dues-begin : {l : List ℕ} {t : ℕ} → Ready l t 0 → {added : ℕ} → (added ≡ 0 → ⊥) → {r : Stretch} → Stretched t (flds_of l) r → DuesGoing l l t added r.to r.from
dues-begin {l} {t} ready {added} some own =
    record {
      ready = record { names = ready.names; holds = ready.holds; still_open = open-later ready.still_open (omega arith) };
      fields = omega (arith, own.inside, ready.holds.ok.flds-count);
      fewer = own.forward;
      behind = own-ends own;
      long = refl;
      says = λ f h o. record { holds = h; still_open = open-later o (omega arith); rest = ap (add_olds added (said f l)) (olds-all added (view f l) t some ∙ own-begins own) };
    }

module _ {l₀ l : List ℕ} {t added n i : ℕ} (g : DuesGoing l₀ l t added n i) where
  pub dues-done : n ≤ i → OldsTold t added l₀ l
  dues-done le =
      record {
        says = λ f h o.
            let L = g.says f h o in
            let none_left : own_from t i (flds_of l) ≡ [] = let last-is : i ≡ n = omega (arith, g.fewer) in ap (λ (k : ℕ). own_from t k (flds_of l)) last-is ∙ g.behind in
            record {
              now = record { holds = L.holds; says = sym (L.rest ∙ ap (add_olds added (said f l)) none_left ∙ olds-stop added (said f l)) };
              still_open = open-later L.still_open (omega (arith, g.fewer, g.fields, L.holds.ok.flds-count));
            };
      }

  pub dues-next : i < n → {l' : List ℕ} → OldTold t i added l l' → length l' ≡ length l → DuesGoing l₀ l' t added n (i + 1)
  dues-next lt {l'} one long =
      record {
        ready = record { names = R.names; holds = O.now.holds; still_open = O.still_open };
        fields = omega (arith, O.now.holds.ok.flds-count, ap length (same R.names O), R.holds.ok.flds-count, g.fields);
        fewer = omega arith;
        behind = ap (own_from t n) (same R.names O) ∙ g.behind;
        long = long ∙ g.long;
        says = λ f h o.
            let L = g.says f h o in
            let N = one.says f L.holds L.still_open in
            record {
              holds = N.now.holds;
              still_open = N.still_open;
              rest = L.rest
                  ∙ olds-step added t i (said f l) (omega (arith, L.holds.ok.flds-count, g.fields))
                  ∙ ap (λ (s : Said). add_olds added s (own_from t (i + 1) (flds_of l))) (sym N.now.says)
                  ∙ ap (λ (fs : List Field). add_olds added (said f l') (own_from t (i + 1) fs)) (sym (same f N));
            };
      }
    where
      R : Ready l t i
      R = g.ready

      O : Opens R.names l' t (i + 1) (old_step added t i (said R.names l))
      O = one.says R.names R.holds R.still_open

      same : (f : List ℕ) → Opens f l' t (i + 1) (old_step added t i (said f l)) → flds_of l' ≡ flds_of l
      same f N = ap (λ (s : Said). s.state.fields) N.now.says ∙ ap (λ (s : State). s.fields) (old-keeps added t i (said f l))

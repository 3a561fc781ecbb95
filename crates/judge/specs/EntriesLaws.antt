-- The ways out of reading an entry and all entries from a text, on plain values. Assumes nothing.
use Rattle.std.proofs.Math.Path.{◌≡◌, refl, ap}
use Rattle.std.proofs.Common.{sym, ◌∙◌, arith}
use Rattle.std.specs.Prelude.{Option, Some, None, List, ℕ, suc, ◌-◌, ◌≤◌, ◌<◌, length}
use Rattle.paper.specs.Reader.{when◌then◌else◌, Out, got, no, and_then, turned, ◌>>=◌, ◌>>◌, give, times}
use Rattle.paper.specs.Lists.{fold}
use Rattle.paper.specs.Ledger.{Head, Entry}
use Rattle.paper.specs.Rules.{type_of, after_entry}
use Rattle.paper.specs.Scan.{heed, entry_text}
use Rattle.words.specs.declared.read.Place.{Place}
use Rattle.table.specs.View.{view, Holds, Said, said}
use Rattle.reader.specs.Sound.{Sound, Open}
use Rattle.reader.specs.declared.heads.Top.{Top}
use Rattle.reader.specs.Heads.{head_of}
use Rattle.words.specs.Answers.{Scanned}
use Rattle.judge.specs.Heads.{kept_type, HeadTold}
use Rattle.judge.specs.Fields.{fields_step, out_said, OpenAfter, Stepped}
use Rattle.judge.specs.Entries.{add_entry, entry_step, entry-is, entries_step, entries-stop, entries-step, entries-are, EntriesRead, EntriesTold}

abbrev pub SoundAfter : List ℕ → List ℕ → Option Place → Type 0
SoundAfter f l (Some c) = Sound (said f l)
SoundAfter f l None = Unit {0}

-- the answer, with the table l that is left, is the outcome o
pub record Walked (f l : List ℕ) (r : Option Place) (o : Out Said) : Type 0 where
  pub holds : Holds f l
  pub says : out_said f l r ≡ o
  pub sound : SoundAfter f l r

-- ── an entry ──

-- its head was entered: the fields may follow
pub entry-opens : {f l l₁ : List ℕ} {at : ℕ} {a : Scanned (Top × ℕ)} → HeadTold f l at a l₁ → {top : Top} {n : ℕ} {c : Place} → a ≡ Some ((top, n), c) → Holds f l₁ × Open (said f l₁) top.name.typ 0
entry-opens told is = let G = (rw is at told).told.entered in (G.now.holds, G.opens)

module _ {f l l₁ : List ℕ} {at : ℕ} {a : Scanned (Top × ℕ)} (told : HeadTold f l at a l₁) where
  pub entry-unheaded : a ≡ None → Walked f l₁ None (entry_step (said f l) f at)
  entry-unheaded is =
      let B = (rw is at told).told in
      record { holds = B.holds; says = sym (entry-is (said f l) f at ∙ rw B.read refl); sound = tt }

  module _ {top : Top} {n : ℕ} {c : Place} (is : a ≡ Some ((top, n), c)) where
    headed : kept_type (view f l) f at ≡ got (head_of top, n) c.at
    unfolding kept_type heed ◌>>=◌ ◌>>◌ give when◌then◌else◌
    headed = let G = (rw is at told).told in rw (G.read, G.keeps) (ap (λ (h : Head). got (h, n) c.at) (sym G.same))

    pub entry-got :
        {t : ℕ} → t ≡ top.name.typ → {l₂ : List ℕ} {r : Option Place}
        → Stepped f l₂ t r (fields_step t top.count n (said f l₁) f c.at) → Walked f l₂ r (entry_step (said f l) f at)
    entry-got {t} same {l₂} {r} S =
        let E = (rw is at told).told.entered in
        record {
          holds = S.holds;
          says =
              S.says ∙ ap (λ (u : ℕ). fields_step u top.count n (said f l₁) f c.at) (same ∙ E.placed.name.typ)
              ∙ ap (λ (s : Said). fields_step (type_of (view f l) top.name.number) top.count n s f c.at) E.now.says
              ∙ sym (entry-is (said f l) f at ∙ rw headed refl);
          sound = after r S.still_open;
        }
      where
        after : (r : Option Place) → OpenAfter f l₂ t r → SoundAfter f l₂ r
        after (Some d) o = o.sound
        after None o = tt

-- ── all entries ──

-- `rest` are left, of `all`: what is left to do from here gives the whole
pub record EntriesGoing (f l₀ l : List ℕ) (at₀ all rest at : ℕ) : Type 0 where
  pub holds : Holds f l
  pub sound : Sound (said f l)
  pub long : length l ≡ length l₀
  pub says : entries_step all (said f l₀) f at₀ ≡ entries_step rest (said f l) f at

pub entries-begin : {f l : List ℕ} → Holds f l → Sound (said f l) → (at : ℕ) {all rest : ℕ} → rest ≡ all → EntriesGoing f l l at all rest at
entries-begin {f} {l} h s at same = record { holds = h; sound = s; long = refl; says = rw same refl }

-- what the whole has led to
module _ {f l l' : List ℕ} (n at : ℕ) (h : Holds f l') where
  pub told-bad : no 20 0 ≡ entries_step n (said f l) f at → EntriesTold f l n at l' None
  unfolding entries_step
  told-bad q = record { holds = h; says = go (times n entry_text after_entry (view f l) f at) q }
    where
      go : (o : Out (List Entry)) → no 20 0 ≡ turned (fold add_entry (said f l)) o → o ≡ no 20 0
      go (got es e) r = let z : ◌≡◌ {A = ℕ} 0 1 = cc r in absurd (omega arith)
      go (no k p) r = let x : 20 ≡ k = cc r in let y : 0 ≡ p = cc r in rw (← x, ← y)

  pub told-to : {c : Place} → got (said f l') c.at ≡ entries_step n (said f l) f at → Sound (said f l') → length l' ≡ length l → EntriesTold f l n at l' (Some c)
  unfolding entries_step
  told-to {c} q sound long = record { holds = h; says = go (times n entry_text after_entry (view f l) f at) refl q }
    where
      go : (o : Out (List Entry)) → times n entry_text after_entry (view f l) f at ≡ o → got (said f l') c.at ≡ turned (fold add_entry (said f l)) o → EntriesRead f l n at l' c.at
      go (got es e) is r =
          let x : said f l' ≡ fold add_entry (said f l) es = cc r in
          let y : c.at ≡ e = cc r in
          record { entries = es; reads = is ∙ ap (λ (p : ℕ). got es p) (sym y); now = record { holds = h; says = x ∙ entries-are es (said f l) }; sound = sound; long = long }
      go (no k p) is r = let z : ◌≡◌ {A = ℕ} 0 1 = cc r in absurd (omega arith)

module _ {f l₀ l : List ℕ} {at₀ all rest at : ℕ} (g : EntriesGoing f l₀ l at₀ all rest at) where
  pub entries-done : rest ≤ 0 → EntriesTold f l₀ all at₀ l (Some (record { at = at }))
  entries-done le = told-to all at₀ g.holds (sym (g.says ∙ entries-stop f rest (said f l) at le)) g.sound g.long

  module _ (pos : 0 < rest) {l' : List ℕ} {a : Option Place} (one : Walked f l' a (entry_step (said f l) f at)) where
    turn : entries_step all (said f l₀) f at₀ ≡ and_then (out_said f l' a) (λ s e. entries_step (rest - 1) s f e)
    turn = g.says ∙ entries-step f rest (said f l) at pos ∙ rw (← one.says) refl

    pub entries-bad : a ≡ None → EntriesTold f l₀ all at₀ l' None
    entries-bad is = told-bad all at₀ one.holds (sym (turn ∙ rw is refl))

    pub entries_next : {c : Place} {less : ℕ} → rest ≡ suc less → a ≡ Some c → length l' ≡ length l → EntriesGoing f l₀ l' at₀ all less c.at
    entries_next {less = less} due is long =
        let one' = rw is at one in
        let same : rest - 1 ≡ less = omega arith in
        record { holds = one'.holds; sound = one'.sound; long = long ∙ g.long; says = turn ∙ rw (is, same) refl }

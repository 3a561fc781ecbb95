-- The ways out of reading an entry, all entries, and the front of a pair, on plain values. Assumes nothing.
use Rattle.std.specs.Prelude.{Ok, Err, ◌≡◌, refl, Bool, List, ℕ, ◌-◌, ◌≤◌, ◌<◌, length, get_or}
use Rattle.std.proofs.Math.Path.{sym, ap}
use Rattle.std.proofs.Common.{◌∙◌, subst, arith}
use Rattle.paper.specs.Reader.{Out, got, no, and_then, turned}
use Rattle.paper.specs.Rules.{type_of}
use Rattle.paper.specs.File.{small, string_block}
use Rattle.numbers.specs.Cursors.{Read, place_of, was-got, was-refused, Outcome, Step}
use Rattle.numbers.specs.declared.Cursor.{Cursor}
use Rattle.numbers.specs.declared.Refusal.{Refusal}
use Rattle.table.specs.View.{log_of, view, Holds, Said, said, ranges_in}
use Rattle.table.specs.Answers.{range_in, no_range}
use Rattle.table.specs.declared.rows.RangeRow.{RangeRow}
use Rattle.reader.specs.declared.heads.Top.{Top}
use Rattle.reader.specs.Sound.{Sound, Open}
use Rattle.reader.specs.Going.{Going, go_head}
use Rattle.reader.specs.Fields.{going, fields_go, out_going, Went}
use Rattle.reader.specs.Heads.{head_of, add_head, TopEntered}
use Rattle.reader.specs.KnownHeads.{HeadKnown, last-typ, last-count}
use Rattle.reader.specs.Strings.{Did, add_strings}
use Rattle.reader.specs.StringLaws.{strings-sound}
use Rattle.reader.specs.Entries.{entry_go, entry-is, entries_go, entries-stop, entries-step, front_go}
use Rattle.reader.specs.FrontSteps.{front-is}

abbrev pub SoundAfter : List ℕ → List ℕ → Outcome ℕ → Type 0
SoundAfter f l (Ok (e, c)) = Sound (said f l)
SoundAfter f l (Err r) = Unit {0}

-- the answer, with the table l that is left, is the outcome o; from a place within the file it leads to one
pub record Passed (f l : List ℕ) (at : ℕ) (r : Outcome ℕ) (o : Out Going) : Type 0 where
  pub holds : Holds f l
  pub says : out_going f l r ≡ o
  pub inside : at ≤ length f → place_of r ≤ length f
  pub sound : SoundAfter f l r

-- ── an entry ──

pub entry-opens : {f l l₁ : List ℕ} {at : ℕ} {a : Outcome Top} → TopEntered f l l₁ at a → {h : Top} {c : Cursor} → a ≡ Ok (h, c) → Holds f l₁ × Open (said f l₁) h.name.typ 0
entry-opens entered is = let T = rw is at entered in (T.left.now.holds, T.left.opens)

module _ {f l l₁ : List ℕ} (named : ℕ → Bool) (end : ℕ) {at : ℕ} {a : Outcome Top} (entered : TopEntered f l l₁ at a) where
  pub entry-unheaded : {e : Refusal} → a ≡ Err e → Passed f l₁ at (Err e) (entry_go named (going f l end) f at)
  entry-unheaded is =
      let T = rw is at entered in
      record { holds = T.left; says = sym (entry-is named (going f l end) f at ∙ rw (← T.says) refl); inside = T.inside; sound = tt }

  module _ {h : Top} {c : Cursor} (is : a ≡ Ok (h, c)) {l₂ : List ℕ} {t i : ℕ} {r : Outcome ℕ} (same : t ≡ h.name.typ) where
    pub entry-got : Went f l₂ t i c.at r (fields_go named t h.count (going f l₁ end) f c.at) → Passed f l₂ at r (entry_go named (going f l end) f at)
    unfolding go_head add_head
    entry-got went =
        let T = rw is at entered in
        let typed : type_of (view f l) h.name.number ≡ t = sym T.left.placed.name.typ ∙ sym same in
        let on : going f l₁ end ≡ go_head (going f l end) (head_of h) = ap (λ (s : Said). record { said = s; end = end }) T.left.now.says in
        record {
          holds = went.holds;
          says = went.says ∙ sym (entry-is named (going f l end) f at ∙ rw (← T.says, typed, ← on) refl);
          inside = λ lo. went.inside (T.inside lo);
          sound = after r went.still_open;
        }
      where
        after : (r : Outcome ℕ) → Rattle.reader.specs.Fields.OpenBefore f l₂ t i r → SoundAfter f l₂ r
        after (Ok (e, d)) o = o.sound
        after (Err e) o = tt

-- ── an entry whose head was read the short way ──

module _ {f l l₁ : List ℕ} {at at₁ : ℕ} (k : HeadKnown f l l₁ at at₁) where
  -- nothing was done
  module _ (is : at₁ ≡ 0) where
    pub known-anew : (named : ℕ → Bool) (end : ℕ) {l₂ : List ℕ} {r : Outcome ℕ} → Passed f l₂ at r (entry_go named (going f l₁ end) f at) → Passed f l₂ at r (entry_go named (going f l end) f at)
    known-anew named end {l₂} {r} p = subst (λ (x : List ℕ). Passed f l₂ at r (entry_go named (going f x end) f at)) (k.none is) p

  module _ (ne : at₁ ≡ 0 → ⊥) where
    module _ {last : RangeRow} (row : range_in last ≡ get_or (log_of l₁) (ranges_in l₁ - 1) no_range) where
      pub known-opens : Holds f l₁ × Open (said f l₁) last.typ 0
      known-opens = let (h, w) = k.some ne in (w.top.left.now.holds, rw (last-typ w.top.left row) w.top.left.opens)

      pub known-got : (named : ℕ → Bool) (end : ℕ) {l₂ : List ℕ} {i : ℕ} {r : Outcome ℕ} → Went f l₂ last.typ i at₁ r (fields_go named last.typ last.count (going f l₁ end) f at₁) → Passed f l₂ at r (entry_go named (going f l end) f at)
      known-got named end went = let (h, w) = k.some ne in entry-got named end w.top refl (last-typ w.top.left row) (rw (last-count w.top.left row) at went)

-- ── all entries ──

-- `rest` are left, of `all`: what is left to do from here gives the whole
pub record EntriesGoing (f l₀ l : List ℕ) (named : ℕ → Bool) (at₀ all rest last at : ℕ) : Type 0 where
  pub holds : Holds f l
  pub sound : Sound (said f l)
  pub long : length l ≡ length l₀
  pub inside : at₀ ≤ length f → at ≤ length f
  pub says : entries_go named all (going f l₀ 0) f at₀ ≡ entries_go named rest (going f l last) f at

pub entries-begin : {f l : List ℕ} → Holds f l → Sound (said f l) → (named : ℕ → Bool) (all at : ℕ) → EntriesGoing f l l named at all all 0 at
entries-begin h s named all at = record { holds = h; sound = s; long = refl; inside = λ lo. lo; says = refl }

module _ {f l₀ l : List ℕ} {named : ℕ → Bool} {at₀ all rest last at : ℕ} (g : EntriesGoing f l₀ l named at₀ all rest last at) where
  pub entries-done : rest ≤ 0 → Passed f l at₀ (Ok (last, record { at = at })) (entries_go named all (going f l₀ 0) f at₀)
  entries-done le = record { holds = g.holds; says = sym (g.says ∙ entries-stop named f rest (going f l last) at le); inside = g.inside; sound = g.sound }

  module _ (pos : 0 < rest) {l' : List ℕ} {a : Outcome ℕ} (one : Passed f l' at a (entry_go named (going f l last) f at)) where
    turn : entries_go named all (going f l₀ 0) f at₀ ≡ and_then (out_going f l' a) (λ g' e. entries_go named (rest - 1) g' f e)
    turn = g.says ∙ entries-step named f rest (going f l last) at pos ∙ rw (← one.says) refl

    pub entries-no : {e : Refusal} → a ≡ Err e → Passed f l' at₀ (Err e) (entries_go named all (going f l₀ 0) f at₀)
    entries-no is =
        let one' = rw is at one in
        record { holds = one'.holds; says = sym (turn ∙ rw is refl); inside = λ lo. one'.inside (g.inside lo); sound = tt }

    pub entries_next : {e : ℕ} {c : Cursor} → a ≡ Ok (e, c) → length l' ≡ length l → {left : ℕ} → left ≡ rest - 1 → EntriesGoing f l₀ l' named at₀ all left e c.at
    entries_next is long fewer =
        let one' = rw is at one in
        rw fewer (record { holds = one'.holds; sound = one'.sound; long = long ∙ g.long; inside = λ lo. one'.inside (g.inside lo); says = turn ∙ rw is refl })

-- ── the front ──

pub still-sound : {f : List ℕ} (l : List ℕ) {l₁ : List ℕ} {at : ℕ} {a : Step} → Did f l₁ at a (turned (add_strings (said f l)) (string_block (view f l) f at)) → {c : Cursor} → a ≡ Ok c → Sound (said f l) → Sound (said f l₁)
still-sound {f} l {l₁} {at} did {c} is k = let D = rw is at did in go (string_block (view f l) f at) D.says
  where
    go : (o : Out (List (List ℕ))) → got (said f l₁) c.at ≡ turned (add_strings (said f l)) o → Sound (said f l₁)
    go (got strings e) q = let z : said f l₁ ≡ add_strings (said f l) strings = cc q in rw z (strings-sound strings k)
    go (no n p) q = let z : ◌≡◌ {A = ℕ} 0 1 = cc q in absurd (omega arith)

module _ {f : List ℕ} (l : List ℕ) {l₁ : List ℕ} (named : ℕ → Bool) {at : ℕ} {a : Step} (did : Did f l₁ at a (turned (add_strings (said f l)) (string_block (view f l) f at))) where
  pub front-unstrung : {e : Refusal} → a ≡ Err e → Passed f l₁ at (Err e) (front_go named (said f l) f at)
  front-unstrung is =
      let D = rw is at did in
      record { holds = D.holds; says = sym (front-is named (said f l) f at ∙ rw (← D.says) refl); inside = D.inside; sound = tt }

  module _ {c : Cursor} (is : a ≡ Ok c) where
    strung : front_go named (said f l) f at ≡ and_then (small f c.at) (λ n e. entries_go named n (going f l₁ 0) f e)
    strung = let D = rw is at did in front-is named (said f l) f at ∙ rw (← D.says) refl

    module _ {b : Outcome ℕ} (counted : Read small 65536 f c.at b) where
      pub front-uncounted : {e : Refusal} → b ≡ Err e → Passed f l₁ at (Err e) (front_go named (said f l) f at)
      front-uncounted is₁ =
          let R = was-refused counted is₁ in
          record { holds = did.holds; says = sym (strung ∙ rw R.says); inside = λ lo. R.inside ((rw is at did).inside lo); sound = tt }

      pub front-got : {n : ℕ} {c₁ : Cursor} → b ≡ Ok (n, c₁) → {l₂ : List ℕ} {r : Outcome ℕ} → Passed f l₂ c₁.at r (entries_go named n (going f l₁ 0) f c₁.at) → Passed f l₂ at r (front_go named (said f l) f at)
      front-got is₁ rest =
          let R = was-got counted is₁ in
          record {
            holds = rest.holds;
            says = rest.says ∙ sym (strung ∙ rw R.says refl);
            inside = λ lo. rest.inside (R.inside ((rw is at did).inside lo));
            sound = rest.sound;
          }

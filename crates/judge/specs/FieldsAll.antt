-- The ways out of reading all fields of an entry from a text, on plain values. Assumes nothing.
use Rattle.std.proofs.Math.Path.{◌≡◌, refl, ap}
use Rattle.std.proofs.Common.{sym, ◌∙◌, append_assoc, append-nil, arith, length-append, leb-true}
use Rattle.std.specs.Prelude.{Option, Some, None, true, false, List, [], ◌∷◌, ◌++◌, map, ℕ, suc, ◌+◌, ◌-◌, ◌≤◌, length}
use Rattle.std.proofs.lemmas.List.{map-append}
use Rattle.paper.specs.Reader.{when◌then◌else◌, Out, got, no, and_then, turned, ◌>>=◌, ◌>>◌, times, repeat}
use Rattle.paper.specs.Lists.{fold, total}
use Rattle.paper.specs.Ledger.{New, State, of?, size, objects_of}
use Rattle.paper.specs.Rules.{field_count_rules, after_new, old_due, new_dues}
use Rattle.paper.specs.Listing.{old_line}
use Rattle.paper.specs.Keeps.{number?}
use Rattle.paper.specs.Scan.{heed, literal, new_text}
use Rattle.laws.specs.Bools.{number-split}
use Rattle.words.specs.Answers.{out_step}
use Rattle.words.specs.declared.read.Place.{Place}
use Rattle.values.specs.Pass.{forget}
use Rattle.table.specs.View.{flds_of, log_of, view, Holds, Said, said, Now, fields_in}
use Rattle.reader.specs.Sound.{Sound, Open}
use Rattle.reader.specs.Fields.{olds_of, add_new}
use Rattle.judge.specs.Fields.{unsized, add_olds, OldsTold, add_text, news_step, fields_text, add_fields, fields_step, Stepped}

-- ── both kinds in turn ──

fields-more : (t : ℕ) (s : State) (x : New) → length (after_new t s x).fields ≡ suc (length s.fields)
unfolding after_new
fields-more t s x = length-append s.fields _ ∙ omega arith

news-are :
    (t n : ℕ) (xs : List New) (s : Said)
    → fold (add_text t n) s xs ≡ record {
      state = fold (after_new t) s.state xs;
      due = s.due ++ map unsized (new_dues (length s.state.fields) n xs);
      chunks = s.chunks;
    }
unfolding fold add_text add_new unsized new_dues
news-are t n [] s = λ j. record { state = s.state; due = sym (append-nil s.due) j; chunks = s.chunks }
news-are t n (x ∷ xs) s = news-are t n xs (add_text t n s x) ∙ rw (append_assoc, fields-more t s.state x) refl

both-are :
    (added t : ℕ) (s : Said) (news : List New)
    → add_fields added t s news ≡ fold (add_text t (objects_of s.state t)) (add_olds added s (olds_of added s.state t)) news
unfolding add_fields add_olds
both-are added t s news =
    let olds = map (old_due s.state added) (olds_of added s.state t) in
    rw (map-append unsized olds (new_dues (length s.state.fields) (objects_of s.state t) news), ← append_assoc)
    (sym (news-are t (objects_of s.state t) news (add_olds added s (olds_of added s.state t))))

module _ (t added n : ℕ) (s : Said) (f : List ℕ) (at : ℕ) where
  abbrev known_of : ℕ
  known_of = length (olds_of added s.state t)

  fields-refused : number? (field_count_rules s.state known_of) n ≡ false → fields_step t added n s f at ≡ no 20 0
  unfolding fields_step fields_text heed ◌>>◌ when◌then◌else◌
  fields-refused broken = rw broken

  fields-are :
      number? (field_count_rules s.state known_of) n ≡ true
      → fields_step t added n s f at
      ≡ and_then (forget (repeat known_of (literal old_line) f at)) (λ u e. news_step t (objects_of s.state t) (n - known_of) (add_olds added s (olds_of added s.state t)) f e)
  unfolding fields_step fields_text heed forget news_step add_olds ◌>>=◌ ◌>>◌ when◌then◌else◌
  fields-are kept = rw kept (go (repeat known_of (literal old_line) f at))
    where
      news : (o : Out (List New)) → turned (add_fields added t s) o ≡ turned (fold (add_text t (objects_of s.state t)) (add_olds added s (olds_of added s.state t))) o
      news (got xs e) = ap (λ (u : Said). got u e) (both-are added t s xs)
      news (no k p) = refl

      go :
          (o : Out (List (Unit {0})))
          → turned (add_fields added t s) (and_then o (λ a e. times (n - known_of) (new_text t) (after_new t) s.state f e))
          ≡ and_then (forget o) (λ u e. turned (fold (add_text t (objects_of s.state t)) (add_olds added s (olds_of added s.state t))) (times (n - known_of) (new_text t) (after_new t) s.state f e))
      go (got a e) = news (times (n - known_of) (new_text t) (after_new t) s.state f e)
      go (no k p) = refl

-- ── the ways out ──

pub count_held : {f l : List ℕ} → Holds f l → (known : ℕ) {n : ℕ} → number? (field_count_rules (view f l) known) n ≡ true → (fields_in l + (n - known) ≤ 128) × (known ≤ n)
unfolding field_count_rules
count_held {f} {l} h known {n} k =
    let H = (number-split (field_count_rules (view f l) known) n k).1 in
    (omega (arith, h.ok.flds-count, leb-true (length (flds_of l) + (n - known)) 128 H.0), leb-true known n H.1.0)

-- after the known ones there is room for the new ones
pub news-ready :
    {f l : List ℕ} → Holds f l → {t added : ℕ} (n known : ℕ) → number? (field_count_rules (view f l) known) n ≡ true → Open (said f l) t 0 → {l₁ : List ℕ} → OldsTold t added l l₁
    → Holds f l₁ × (Open (said f l₁) t (length (flds_of l₁)) × (fields_in l₁ + (n - known) ≤ 128))
unfolding add_olds
news-ready {f} {l} h {t} {added} n known kept o {l₁} due =
    let D = due.says f h o in
    let same : length (flds_of l₁) ≡ length (flds_of l) = ap (λ (s : Said). length s.state.fields) D.now.says in
    (D.now.holds, (D.still_open, omega (arith, same, h.ok.flds-count, D.now.holds.ok.flds-count, (count_held h known kept).0)))

module _ {f l : List ℕ} (h : Holds f l) (t added n at : ℕ) {known : ℕ} (known-are : known ≡ length (olds_of added (view f l) t)) where
  pub fields-uncounted : number? (field_count_rules (view f l) known) n ≡ false → Stepped f l t None (fields_step t added n (said f l) f at)
  fields-uncounted broken = record { holds = h; says = sym (fields-refused t added n (said f l) f at (rw known-are at broken)); still_open = tt }

  module _ (kept : number? (field_count_rules (view f l) known) n ≡ true) (a : Option Place) (listed : out_step a ≡ forget (repeat known (literal old_line) f at)) where
    counted-are :
        {objects : ℕ} → objects ≡ total (of? t) size (log_of l)
        → fields_step t added n (said f l) f at ≡ and_then (out_step a) (λ u e. news_step t objects (n - known) (add_olds added (said f l) (olds_of added (view f l) t)) f e)
    unfolding objects_of
    counted-are objects-are = rw (listed, objects-are, known-are) (fields-are t added n (said f l) f at (rw known-are at kept))

    pub fields-unlisted : a ≡ None → Stepped f l t None (fields_step t added n (said f l) f at)
    fields-unlisted is = record { holds = h; says = sym (counted-are refl ∙ rw is refl); still_open = tt }

    pub fields-got :
        {c : Place} → a ≡ Some c → Open (said f l) t 0 → {l₁ : List ℕ} → OldsTold t added l l₁ → {objects : ℕ} → objects ≡ total (of? t) size (log_of l) → {l₂ : List ℕ} {r : Option Place}
        → Stepped f l₂ t r (news_step t objects (n - known) (said f l₁) f c.at) → Stepped f l₂ t r (fields_step t added n (said f l) f at)
    fields-got {c} is o due {objects} objects-are news =
        record {
          holds = news.holds;
          says =
              news.says ∙ ap (λ (s : Said). news_step t objects (n - known) s f c.at) (due.says f h o).now.says
              ∙ sym (counted-are objects-are ∙ rw is refl);
          still_open = news.still_open;
        }

-- ── what the whole has led to ──

-- the fields were read from place `at` to `next`, and the table l became l'
pub record FieldsRead (f l : List ℕ) (t added n at : ℕ) (l' : List ℕ) (next : ℕ) : Type 0 where
  pub news : List New
  pub reads : fields_text (view f l) t added n f at ≡ got news next
  pub now : Now f l' (add_fields added t (said f l) news)
  pub sound : Sound (said f l')

abbrev pub FieldsSay : List ℕ → List ℕ → ℕ → ℕ → ℕ → ℕ → List ℕ → Option Place → Type 0
FieldsSay f l t added n at l' (Some c) = FieldsRead f l t added n at l' c.at
FieldsSay f l t added n at l' None = fields_text (view f l) t added n f at ≡ no 20 0

pub record FieldsTold (f l : List ℕ) (t added n at : ℕ) (l' : List ℕ) (r : Option Place) : Type 0 where
  pub holds : Holds f l'
  pub says : FieldsSay f l t added n at l' r

module _ (f l : List ℕ) (t added n at : ℕ) (l' : List ℕ) where
  pub fields_told : (r : Option Place) → Stepped f l' t r (fields_step t added n (said f l) f at) → FieldsTold f l t added n at l' r
  unfolding fields_step
  fields_told (Some c) S = record { holds = S.holds; says = go (fields_text (view f l) t added n f at) refl S.says }
    where
      go : (o : Out (List New)) → fields_text (view f l) t added n f at ≡ o → got (said f l') c.at ≡ turned (add_fields added t (said f l)) o → FieldsRead f l t added n at l' c.at
      go (got news e) is r =
          let x : said f l' ≡ add_fields added t (said f l) news = cc r in
          let y : c.at ≡ e = cc r in
          record { news = news; reads = is ∙ ap (λ (p : ℕ). got news p) (sym y); now = record { holds = S.holds; says = x }; sound = S.still_open.sound }
      go (no k p) is r = let z : ◌≡◌ {A = ℕ} 0 1 = cc r in absurd (omega arith)
  fields_told None S = record { holds = S.holds; says = go (fields_text (view f l) t added n f at) S.says }
    where
      go : (o : Out (List New)) → no 20 0 ≡ turned (add_fields added t (said f l)) o → o ≡ no 20 0
      go (got news e) r = let z : ◌≡◌ {A = ℕ} 0 1 = cc r in absurd (omega arith)
      go (no k p) r = let x : 20 ≡ k = cc r in let y : 0 ≡ p = cc r in rw (← x, ← y)

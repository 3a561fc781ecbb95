-- The ways out of reading new fields from a text, on plain values: one field, and a turn of the loop over all. Assumes nothing.
use Rattle.std.proofs.Math.Path.{◌≡◌, refl, sym, ap}
use Rattle.std.proofs.Common.{subst, ◌∙◌, arith, length-append, leb-true}
use Rattle.std.specs.Prelude.{Option, Some, None, Bool, true, false, ◌&&◌, List, [], ◌∷◌, ℕ, suc, ◌+◌, ◌-◌, ◌≤◌, ◌<◌}
use Rattle.std.proofs.Math.ListN.{length}
use Rattle.paper.specs.Reader.{when◌then◌else◌, Out, got, no, and_then, turned, ◌>>=◌, ◌>>◌, give, times}
use Rattle.paper.specs.Lists.{fold}
use Rattle.paper.specs.Ledger.{New, State, a_string?}
use Rattle.paper.specs.Rules.{field_name_rules, noted, after_new}
use Rattle.paper.specs.Keeps.{number?, kind_kept?, new-field?}
use Rattle.paper.specs.Scan.{heed, read_new, new_text}
use Rattle.laws.specs.Bools.{and_split, number-split}
use Rattle.words.specs.declared.read.Place.{Place}
use Rattle.table.specs.View.{kind_from, strs_of, flds_of, view, Holds, Said, said, Now, strings_in, fields_in}
use Rattle.parse.specs.declared.NewLine.{NewLine}
use Rattle.words.specs.Answers.{Scanned}
use Rattle.parse.specs.Answers.{kept_new, noted_new, NewReads}
use Rattle.parse.specs.NewLaws.{Before, turned-got, turned-bad}
use Rattle.reader.specs.Sound.{Open}
use Rattle.reader.specs.Fields.{add_new, FieldAdded}
use Rattle.reader.specs.Runs.{runs-stop, runs-step}
use Rattle.reader.specs.NewSteps.{then-turned}
use Rattle.reader.specs.NewRows.{open-due}
use Rattle.judge.specs.Fields.{add_text, new_step, news_step, out_said, Stepped}

-- a name that keeps its rules is a string's number
pub name-held : {f l : List ℕ} → Holds f l → (t : ℕ) {n : ℕ} → number? (field_name_rules t (view f l)) n ≡ true → (1 ≤ n) × (n ≤ strings_in l)
unfolding field_name_rules a_string?
name-held {f} {l} h t {n} k =
    let H = and_split _ _ (number-split (field_name_rules t (view f l)) n k).1.0 in
    (leb-true 1 n H.0, omega (arith, h.strs-count, leb-true n (length (strs_of f l)) H.1))

-- ── one field ──

-- so a row of the table has room for its kind
pub new-first : {f : List ℕ} {at : ℕ} {a : Scanned NewLine} → NewReads f at a → {x : NewLine} {c : Place} → a ≡ Some (x, c) → x.kind.first ≤ 32
new-first line is = (rw is at line).told

-- the line, whose kind keeps its rules, and then the rules of the name
new_is : (t : ℕ) (s : State) (f : List ℕ) (at : ℕ) → new_text t s f at ≡ and_then (kept_new f at) (λ g e. when number? (field_name_rules t s) g.name then got g e else no 20 0)
unfolding new_text kept_new heed new-field? ◌>>=◌ ◌>>◌ give when◌then◌else◌
new_is t s f at = go (read_new f at)
  where
    last : (g : New) (e : ℕ) (b : Bool) → and_then (when b then got (tt {0}) e else no 20 0) (λ u e. got g e) ≡ (when b then got g e else no 20 0)
    last g e true = refl
    last g e false = refl

    held :
        (g : New) (e : ℕ) (a : Bool)
        → and_then (when a && number? (field_name_rules t s) g.name then got (tt {0}) e else no 20 0) (λ u e. got g e)
        ≡ and_then (and_then (when a then got (tt {0}) e else no 20 0) (λ u e. got g e)) (λ g e. when number? (field_name_rules t s) g.name then got g e else no 20 0)
    held g e true = last g e (number? (field_name_rules t s) g.name)
    held g e false = refl

    go :
        (o : Out New)
        → and_then o (λ g e. and_then (when kind_kept? g.kind && number? (field_name_rules t s) g.name then got (tt {0}) e else no 20 0) (λ u e. got g e))
        ≡ and_then (and_then o (λ g e. and_then (when kind_kept? g.kind then got (tt {0}) e else no 20 0) (λ u e. got g e))) (λ g e. when number? (field_name_rules t s) g.name then got g e else no 20 0)
    go (got g e) = held g e (kind_kept? g.kind)
    go (no k p) = refl

fields-more : (t n : ℕ) (s : Said) (x : New) → length (add_text t n s x).state.fields ≡ length s.state.fields + 1
unfolding add_text add_new after_new
fields-more t n s x = length-append s.state.fields (record { owner = t; kind = noted x.kind } ∷ [])

module _ {f l : List ℕ} (h : Holds f l) (t n : ℕ) {at : ℕ} {a : Scanned NewLine} (line : NewReads f at a) where
  step_is : new_step t n (said f l) f at ≡ turned (add_text t n (said f l)) (and_then (kept_new f at) (λ g e. when number? (field_name_rules t (view f l)) g.name then got g e else no 20 0))
  unfolding new_step
  step_is = ap (turned (add_text t n (said f l))) (new_is t (view f l) f at)

  pub new-unread : a ≡ None → Stepped f l t None (new_step t n (said f l) f at)
  new-unread is =
      let unread = turned-bad noted_new (kept_new f at) (rw is at line).says in
      record { holds = h; says = sym (step_is ∙ rw (← unread)); still_open = tt }

  module _ {x : NewLine} {c : Place} (is : a ≡ Some (x, c)) where
    -- the field that was read, of whose kind the line says what is kept
    read : Before noted_new (kept_new f at) (record { kind = kind_from x.kind.first x.kind.bits x.kind.last; name = x.name }) c.at
    read = turned-got noted_new (kept_new f at) (rw is at line).says

    called : x.name ≡ read.value.name
    called = ap (λ (g : New). g.name) read.is

    pub new-unnamed : number? (field_name_rules t (view f l)) x.name ≡ false → Stepped f l t None (new_step t n (said f l) f at)
    unfolding when◌then◌else◌
    new-unnamed broken = record { holds = h; says = sym (step_is ∙ rw (← read.first, ← called, broken)); still_open = tt }

    module _ (kept : number? (field_name_rules t (view f l)) x.name ≡ true) {l' : List ℕ} (added : FieldAdded f t n x.name x.kind 0 l l') where
      got-is : new_step t n (said f l) f at ≡ got (add_text t n (said f l) read.value) c.at
      unfolding when◌then◌else◌
      got-is = step_is ∙ rw (← read.first, ← called, kept)

      now-says : Now f l' (add_new t n (said f l) read.value 0)
      now-says =
          let whole : record { kind = read.value.kind; name = x.name } ≡ read.value = λ i. record { kind = read.value.kind; name = called i } in
          subst (λ (g : New). Now f l' (add_new t n (said f l) g 0)) whole (added.says read.value.kind (sym (ap (λ (g : New). g.kind) read.is)))

      pub new-got : {i : ℕ} → Open (said f l) t i → fields_in l < 128 → Stepped f l' t (Some c) (new_step t n (said f l) f at)
      unfolding add_text
      new-got o room =
          let more : length (flds_of l') ≡ length (flds_of l) + 1 = ap (λ (s : Said). length s.state.fields) now-says.says ∙ fields-more t n (said f l) read.value in
          record {
            holds = now-says.holds;
            says = ap (λ (s : Said). got s c.at) now-says.says ∙ sym got-is;
            still_open = rw more (open-due h o room n 0 read.value now-says);
          }

-- ── all of them ──

module _ (t n : ℕ) (f : List ℕ) where
  state-of : Said → State
  state-of s = s.state

  new-same : (s : Said) (x : New) → state-of (add_text t n s x) ≡ after_new t (state-of s) x
  unfolding state-of add_text add_new
  new-same s x = refl

  news-stop : (rest : ℕ) (s : Said) (at : ℕ) → rest ≤ 0 → news_step t n rest s f at ≡ got s at
  unfolding news_step state-of
  news-stop rest s at le = runs-stop (new_text t) (after_new t) (add_text t n) state-of new-same f rest s at le

  news-step : (rest : ℕ) (s : Said) (at : ℕ) → 0 < rest → news_step t n rest s f at ≡ and_then (new_step t n s f at) (λ s' e. news_step t n (rest - 1) s' f e)
  unfolding news_step new_step state-of
  news-step rest s at pos =
      runs-step (new_text t) (after_new t) (add_text t n) state-of new-same f rest s at pos
      ∙ sym (then-turned (add_text t n s) (new_text t s.state f at) (λ s' e. turned (fold (add_text t n) s') (times (rest - 1) (new_text t) (after_new t) s'.state f e)))

  -- a field more
  new-counts : (s s' : Said) (at e : ℕ) → got s' e ≡ new_step t n s f at → length s'.state.fields ≡ length s.state.fields + 1
  unfolding new_step
  new-counts s s' at e q = go (new_text t s.state f at) q
    where
      go : (o : Out New) → got s' e ≡ turned (add_text t n s) o → length s'.state.fields ≡ length s.state.fields + 1
      go (got x p) r =
          let z : s' ≡ add_text t n s x = cc r in
          ap (λ (u : Said). length u.state.fields) z ∙ fields-more t n s x
      go (no k p) r = let z : ◌≡◌ {A = ℕ} 0 1 = cc r in absurd (omega arith)

-- `rest` are left, of `all`: what is left to do from here gives the whole
pub record NewsGoing (f l₀ l : List ℕ) (t n at₀ all rest at : ℕ) : Type 0 where
  pub holds : Holds f l
  pub still_open : Open (said f l) t (length (flds_of l))
  pub room : fields_in l + rest ≤ 128
  pub long : length l ≡ length l₀
  pub says : news_step t n all (said f l₀) f at₀ ≡ news_step t n rest (said f l) f at

pub news-begin : {f l : List ℕ} → Holds f l → {t : ℕ} → Open (said f l) t (length (flds_of l)) → {all rest : ℕ} → rest ≡ all → fields_in l + all ≤ 128 → (n at : ℕ) → NewsGoing f l l t n at all rest at
news-begin h o same room n at = record { holds = h; still_open = o; room = omega arith; long = refl; says = rw same refl }

module _ {f l₀ l : List ℕ} {t n at₀ all rest at : ℕ} (g : NewsGoing f l₀ l t n at₀ all rest at) where
  pub news-done : rest ≤ 0 → Stepped f l t (Some (record { at = at })) (news_step t n all (said f l₀) f at₀)
  news-done le = record { holds = g.holds; says = sym (g.says ∙ news-stop t n f rest (said f l) at le); still_open = g.still_open }

  module _ (pos : 0 < rest) {l' : List ℕ} {a : Option Place} (one : Stepped f l' t a (new_step t n (said f l) f at)) where
    turn : news_step t n all (said f l₀) f at₀ ≡ and_then (out_said f l' a) (λ s e. news_step t n (rest - 1) s f e)
    turn = g.says ∙ news-step t n f rest (said f l) at pos ∙ rw (← one.says) refl

    pub news-bad : a ≡ None → Stepped f l' t None (news_step t n all (said f l₀) f at₀)
    news-bad is = record { holds = one.holds; says = sym (turn ∙ rw is refl); still_open = tt }

    pub news-next : {c : Place} {less : ℕ} → rest ≡ suc less → a ≡ Some c → length l' ≡ length l → NewsGoing f l₀ l' t n at₀ all less c.at
    news-next {c} {less} due is long =
        let one' = rw is at one in
        let same : rest - 1 ≡ less = omega arith in
        let more : length (flds_of l') ≡ length (flds_of l) + 1 = new-counts t n f (said f l) (said f l') at c.at one'.says in
        record {
          holds = one'.holds;
          still_open = one'.still_open;
          room = omega (arith, more, one'.holds.ok.flds-count, g.holds.ok.flds-count, g.room);
          long = long ∙ g.long;
          says = turn ∙ rw (is, same) refl;
        }

-- The ways out of reading all fields of an entry, on plain values. Assumes nothing.
use Rattle.std.specs.Prelude.{Ok, Err, ◌≡◌, Bool, List, ℕ, ◌+◌, ◌-◌, ◌≤◌, ◌^◌, length}
use Rattle.std.proofs.Math.Path.{refl}
use Rattle.std.proofs.Common.{sym, ap, ◌∙◌, arith}
use Rattle.paper.specs.Reader.{and_then}
use Rattle.paper.specs.Numbers.{number}
use Rattle.paper.specs.Lists.{places, total}
use Rattle.paper.specs.Ledger.{State, owns?, fields_of, of?, size, objects_of}
use Rattle.paper.specs.Rules.{field_count_rules}
use Rattle.numbers.specs.Cursors.{Read, was-got, was-refused, Outcome}
use Rattle.numbers.specs.declared.Cursor.{Cursor}
use Rattle.numbers.specs.declared.Refusal.{Refusal}
use Rattle.table.specs.View.{flds_of, log_of, view, Holds, said, fields_in}
use Rattle.reader.specs.Sound.{Open}
use Rattle.reader.specs.Fields.{going, olds_of, olds_go, news_go, fields_go, out_going, Went}
use Rattle.reader.specs.RulesHeld.{count_held}
use Rattle.reader.specs.OldSteps.{olds-none, olds-known}
use Rattle.reader.specs.FieldSteps.{olds-keep, fields-are}
use Rattle.reader.specs.Ruled.{number-judged}
use Rattle.reader.specs.FieldNumbers.{count-got}
use Rattle.reader.specs.OldLaws.{olds-skip}
use Rattle.reader.specs.NewLaws.{NewsGoing, news-begin, news-done}
use Rattle.reader.specs.KnownHeads.{OneByte}

-- ── how many fields are known ──

module _ (l : List ℕ) (t : ℕ) {added : ℕ} where
  pub none-known : added ≡ 0 → (f : List ℕ) → 0 ≡ length (olds_of added (view f l) t)
  none-known none f = rw (olds-none added (view f l) t none)

  pub all_known : (added ≡ 0 → ⊥) → {n : ℕ} → n ≡ length (places (owns? t) 0 (flds_of l)) → (f : List ℕ) → n ≡ length (olds_of added (view f l) t)
  unfolding fields_of
  all_known some is f = is ∙ rw (olds-known added (view f l) t some) refl

-- ── all fields ──

-- after the known ones there is room for the new ones
module _ {f l : List ℕ} (h : Holds f l) (t added end known : ℕ) {at : ℕ} {a : Outcome ℕ} (counted : Read (number (field_count_rules (view f l) known)) (2 ^ 64) f at a) {n : ℕ} {c₁ : Cursor} (is₁ : a ≡ Ok (n, c₁)) where
  pub news-ready :
      {l₁ : List ℕ} {b : Outcome ℕ} → Went f l₁ t (length (flds_of l₁)) c₁.at b (olds_go added (olds_of added (view f l) t) (going f l end) f c₁.at)
      → {last : ℕ} {c₂ : Cursor} → b ≡ Ok (last, c₂) → Holds f l₁ × (Open (said f l₁) t (length (flds_of l₁)) × (fields_in l₁ + (n - known) ≤ 128))
  news-ready {l₁} olds {last} {c₂} is₂ =
      let went = rw is₂ at olds in
      let kept : view f l₁ ≡ view f l = olds-keep added (olds_of added (view f l) t) (going f l end) (going f l₁ last) f c₁.at c₂.at went.says in
      let same : length (flds_of l₁) ≡ length (flds_of l) = ap (λ (s : State). length s.fields) kept in
      (went.holds, (went.still_open, omega (arith, same, h.ok.flds-count, went.holds.ok.flds-count, (count_held h known counted is₁).0)))

module _ {f l : List ℕ} (h : Holds f l) (named : ℕ → Bool) (t added end : ℕ) {objects known : ℕ} (objects-are : objects ≡ total (of? t) size (log_of l)) (known-are : known ≡ length (olds_of added (view f l) t)) {at : ℕ} {a : Outcome ℕ} (counted : Read (number (field_count_rules (view f l) known)) (2 ^ 64) f at a) where
  all_are :
      fields_go named t added (going f l end) f at
      ≡ and_then (number (field_count_rules (view f l) known) f at) (λ n e. and_then (olds_go added (olds_of added (view f l) t) (going f l end) f e) (λ g e. news_go named t objects (n - known) g f e))
  unfolding objects_of
  all_are = rw (objects-are, known-are) (fields-are named t added (going f l end) f at)

  pub fields-uncounted : {e : Refusal} → a ≡ Err e → Went f l t (length (flds_of l)) at (Err e) (fields_go named t added (going f l end) f at)
  fields-uncounted is =
      let R = was-refused counted is in
      record { holds = h; says = sym (all_are ∙ rw R.says); inside = R.inside; still_open = tt }

  module _ {n : ℕ} {c₁ : Cursor} (is₁ : a ≡ Ok (n, c₁)) {l₁ : List ℕ} {b : Outcome ℕ} (olds : Went f l₁ t (length (flds_of l₁)) c₁.at b (olds_go added (olds_of added (view f l) t) (going f l end) f c₁.at)) where
    counted-are : fields_go named t added (going f l end) f at ≡ and_then (out_going f l₁ b) (λ g e. news_go named t objects (n - known) g f e)
    counted-are = all_are ∙ rw ((was-got counted is₁).says, ← olds.says) refl

    pub fields-unended : {e : Refusal} → b ≡ Err e → Went f l₁ t (length (flds_of l₁)) at (Err e) (fields_go named t added (going f l end) f at)
    fields-unended is =
        let went = rw is at olds in
        record { holds = went.holds; says = sym (counted-are ∙ rw is refl); inside = λ lo. went.inside ((was-got counted is₁).inside lo); still_open = tt }

    module _ {last : ℕ} {c₂ : Cursor} (is₂ : b ≡ Ok (last, c₂)) where
      pub fields-got : {l₂ : List ℕ} {d : Outcome ℕ} → Went f l₂ t (length (flds_of l₂)) c₂.at d (news_go named t objects (n - known) (going f l₁ last) f c₂.at) → Went f l₂ t (length (flds_of l₂)) at d (fields_go named t added (going f l end) f at)
      fields-got news =
          let went = rw is₂ at olds in
          record {
            holds = news.holds;
            says = news.says ∙ sym (counted-are ∙ rw is₂ refl);
            inside = λ lo. news.inside (went.inside ((was-got counted is₁).inside lo));
            still_open = news.still_open;
          }

-- ── no object is added, and no field is given ──

pub no_fields :
    {f l : List ℕ} → Holds f l → {t : ℕ} → Open (said f l) t 0 → {added at : ℕ} → added ≡ 0 → OneByte f at 0 → (named : ℕ → Bool) (end : ℕ)
    → Went f l t (length (flds_of l)) at (Ok (end, record { at = at + 1 })) (fields_go named t added (going f l end) f at)
no_fields {f} {l} h {t} o {added} {at} none byte named end =
    let objects = total (of? t) size (log_of l) in
    let counted : Read (number (field_count_rules (view f l) 0)) (2 ^ 64) f at (Ok (0, record { at = at + 1 })) =
    number-judged byte.read (field_count_rules (view f l) 0) refl (count-got (view f l) 0 refl (omega (arith, h.ok.flds-count, h.ok.flds-fit)) (omega arith)) (omega arith) in
    let olds : Went f l t (length (flds_of l)) (at + 1) (Ok (end, record { at = at + 1 })) (olds_go added (olds_of added (view f l) t) (going f l end) f (at + 1)) = olds-skip h o none end in
    let begun : NewsGoing f l l named t objects end (at + 1) 0 0 end (at + 1) = news-begin h olds.still_open (omega (arith, h.ok.flds-fit)) named objects end (at + 1) in
    fields-got h named t added end refl (none-known l t none f) counted refl olds refl (news-done begun (omega arith))

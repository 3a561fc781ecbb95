-- The lines of an entry's fields. Assumes nothing.
use Rattle.std.specs.Prelude.{Err, Ok, Result, ◌≡◌, refl, false, List, ◌++◌, map, ℕ, ◌-◌, ◌≤◌, ◌<◌, length, replicate}
use Rattle.std.proofs.Common.{sym, ap, ◌∙◌, arith}
use Rattle.paper.specs.Reader.{got, turned, Rule, ◌>>◌, give, times}
use Rattle.paper.specs.Numbers.{v64, number}
use Rattle.paper.specs.Lists.{flat}
use Rattle.paper.specs.Ledger.{Kind, New}
use Rattle.paper.specs.Rules.{any_type, field_name_rules, end_rules, noted}
use Rattle.paper.specs.File.{Upto, restrictions, kind, end_offset, new_field, upto_new, what}
use Rattle.paper.specs.Listing.{old_line, new_line}
use Rattle.laws.specs.Laws.{not-got, bind_inv}
use Rattle.lay.specs.Laid.{most, Laid, laid_then, laid_as, Leads, leads-start, leads-on, leads-end}
use Rattle.numbers.specs.Cursors.{Step, Outcome, Read, was-got, was-refused}
use Rattle.numbers.specs.declared.Cursor.{Cursor}
use Rattle.numbers.specs.declared.Refusal.{Refusal}
use Rattle.reader.specs.Kinds.{named_by, kind_in, out_kind, KindReads}
use Rattle.reader.specs.declared.kinds.Kind.{Kind as KindRow}
use Rattle.listing.specs.Prints.{StandsBy, Prints, prints-none, number-got, times-first, times_none}
use Rattle.listing.specs.Maps.{new_kind, FieldPut}

abbrev pub new_word : New × ℕ → List ℕ
new_word g = new_line g.0

abbrev pub new_words : List (New × ℕ) → List ℕ
new_words gs = flat new_line (map what gs)

-- ── a number that keeps its rules, read without them ──

module _ {f : List ℕ} {at : ℕ} {a : Outcome ℕ} (R : Read v64 18446744073709551616 f at a) (rules : ℕ → List Rule) {n e : ℕ} (h : number rules f at ≡ got n e) where
  not-refused : {u : Refusal} → a ≡ Err u → ⊥
  not-refused is = not-got (sym (was-refused R is).says ∙ (number-got rules f at n e h).0)

  as_read : {x : ℕ} {c : Cursor} → a ≡ Ok (x, c) → (x ≡ n) × (c.at ≡ e)
  as_read {x} {c} is = let z : got x c.at ≡ got n e = sym (was-got R is).says ∙ (number-got rules f at n e h).0 in (cc z, cc z)

-- ── the ends of known fields ──

abbrev pub StepTo : ℕ → Step → Type 0
StepTo q (Ok c) = c.at ≡ q
StepTo q (Err e) = ⊥

pub record PastAll (n : ℕ) (f : List ℕ) (at : ℕ) (r : Step) : Type 0 where
  pub there : (before : ℕ) (es : List ℕ) (e : ℕ) → times n end_offset (λ b x. x) before f at ≡ got es e → StepTo e r

-- what is left to pass over from here ends where the whole does
pub record Passing (n : ℕ) (f : List ℕ) (at rest here : ℕ) : Type 0 where
  pub fewer : rest ≤ n
  pub left : (before : ℕ) (es : List ℕ) (e : ℕ) → times n end_offset (λ b x. x) before f at ≡ got es e → (b : ℕ) × (more : List ℕ) × (times rest end_offset (λ b x. x) b f here ≡ got more e)

pub passing-start : (n : ℕ) (f : List ℕ) (at : ℕ) → Passing n f at n at
passing-start n f at = record { fewer = omega arith; left = λ before es e h. (before, es, h) }

module _ {n : ℕ} {f : List ℕ} {at rest here : ℕ} (g : Passing n f at rest here) where
  module _ (due : 0 < rest) {a : Outcome ℕ} (R : Read v64 18446744073709551616 f here a) where
    pub passing-no : {u : Refusal} → a ≡ Err u → {s : Step} → PastAll n f at s
    unfolding end_offset
    passing-no is =
        record {
          there = λ before es e h.
              let (b, more, q) = g.left before es e h in
              let F = times-first end_offset (λ b x. x) b f here more e rest due q in
              absurd (not-refused R (end_rules b) F.first is);
        }

    pub passing-on : {x : ℕ} {c : Cursor} → a ≡ Ok (x, c) → Passing n f at (rest - 1) c.at
    unfolding end_offset
    passing-on is =
        record {
          fewer = omega (arith, g.fewer);
          left = λ before es e h.
              let (b, more, q) = g.left before es e h in
              let F = times-first end_offset (λ b x. x) b f here more e rest due q in
              let z = (as_read R (end_rules b) F.first is).1 in
              (F.value, F.more, rw z F.rest);
        }

  pub passing-done : rest ≤ 0 → {c : Cursor} → c.at ≡ here → PastAll n f at (Ok c)
  passing-done le is =
      record {
        there = λ before es e h.
            let (b, more, q) = g.left before es e h in
            is ∙ (times_none end_offset (λ b x. x) b f here more e rest le q).1;
      }

-- ── the kind of a new field ──

-- the answer is what is kept of the kind behind the number of restrictions
pub record NewKind (f : List ℕ) (at : ℕ) (k : Outcome KindRow) : Type 0 where
  pub says : out_kind k ≡ turned noted (new_kind f at)

module _ {f : List ℕ} {at : ℕ} {a : Outcome ℕ} (R : Read restrictions 1 f at a) where
  pub kind-cut : {e : Refusal} → a ≡ Err e → NewKind f at (Err e)
  unfolding new_kind ◌>>◌
  kind-cut is = record { says = rw (was-refused R is).says }

  pub kind-behind : {n : ℕ} {c : Cursor} → a ≡ Ok (n, c) → {k : Outcome KindRow} → KindReads (named_by false 0) f c.at k → NewKind f at k
  unfolding new_kind ◌>>◌ named_by
  kind-behind is K = record { says = rw (was-got R is).says K.says }

-- ── a new field, taken apart ──

record NewParts (t : ℕ) (u : Upto) (f : List ℕ) (at : ℕ) (g : New × ℕ) (q : ℕ) : Type 0 where
  own : Kind
  after-kind : ℕ
  name : ℕ
  after-name : ℕ
  end : ℕ
  kind-read : new_kind f at ≡ got own after-kind
  name-read : number (field_name_rules t u.state) f after-kind ≡ got name after-name
  end_read : end_offset u.end f after-name ≡ got end q
  is : g ≡ (record { kind = own; name = name }, end)

new-parts : (t : ℕ) (u : Upto) (f : List ℕ) (at : ℕ) (g : New × ℕ) (q : ℕ) → new_field any_type t u f at ≡ got g q → NewParts t u f at g q
unfolding new_field give new_kind ◌>>◌
new-parts t u f at g q h =
    let A = bind_inv restrictions _ f at g q h in
    let B = bind_inv (kind any_type) _ f A.next g q A.rest in
    let C = bind_inv (number (field_name_rules t u.state)) _ f B.next g q B.rest in
    let D = bind_inv (end_offset u.end) _ f C.next g q C.rest in
    let z : D.next ≡ q = cc D.rest in
    record {
      own = B.value;
      after-kind = B.next;
      name = C.value;
      after-name = C.next;
      end = D.value;
      kind-read = rw A.first B.first;
      name-read = C.first;
      end_read = D.first ∙ ap (got D.value) z;
      is = cc D.rest;
    }

module _ {f : List ℕ} {at : ℕ} {k : Outcome KindRow} (K : NewKind f at k) where
  here : {t : ℕ} {u : Upto} {g : New × ℕ} {q : ℕ} (N : NewParts t u f at g q) → out_kind k ≡ got (noted N.own) N.after-kind
  here N = K.says ∙ ap (turned noted) N.kind-read

  pub new-no-kind : {e : Refusal} → k ≡ Err e → {l : List ℕ} {o : ℕ} {m : List ℕ} {b : Result (Cursor × ℕ) Refusal} (t : ℕ) (u : Upto) → Prints (new_field any_type t u) new_word f at l o m b
  new-no-kind is t u = prints-none (λ g q h. not-got (ap out_kind (sym is) ∙ here (new-parts t u f at g q h)))

  module _ {row : KindRow} {c₁ : Cursor} (is : k ≡ Ok (row, c₁)) {a : Outcome ℕ} (R : Read v64 18446744073709551616 f c₁.at a) where
    name-there : {t : ℕ} {u : Upto} {g : New × ℕ} {q : ℕ} (N : NewParts t u f at g q) → number (field_name_rules t u.state) f c₁.at ≡ got N.name N.after-name
    name-there N = let z : c₁.at ≡ N.after-kind = cc (ap out_kind (sym is) ∙ here N) in rw z N.name-read

    pub new-no-name : {e : Refusal} → a ≡ Err e → {l : List ℕ} {o : ℕ} {m : List ℕ} {b : Result (Cursor × ℕ) Refusal} (t : ℕ) (u : Upto) → Prints (new_field any_type t u) new_word f at l o m b
    new-no-name no? t u = prints-none (λ g q h. not-refused R (field_name_rules t u.state) (name-there (new-parts t u f at g q h)) no?)

    module _ {n : ℕ} {c₂ : Cursor} (got? : a ≡ Ok (n, c₂)) {d : Outcome ℕ} (E : Read v64 18446744073709551616 f c₂.at d) where
      as-named : {t : ℕ} {u : Upto} {g : New × ℕ} {q : ℕ} (N : NewParts t u f at g q) → (n ≡ N.name) × (c₂.at ≡ N.after-name)
      as-named {t} {u} N = as_read R (field_name_rules t u.state) (name-there N) got?

      end-there : {t : ℕ} {u : Upto} {g : New × ℕ} {q : ℕ} (N : NewParts t u f at g q) → number (end_rules u.end) f c₂.at ≡ got N.end q
      unfolding end_offset
      end-there N = rw (as-named N).1 N.end_read

      pub new-no-end : {e : Refusal} → d ≡ Err e → {l : List ℕ} {o : ℕ} {m : List ℕ} {b : Result (Cursor × ℕ) Refusal} (t : ℕ) (u : Upto) → Prints (new_field any_type t u) new_word f at l o m b
      new-no-end no? t u = prints-none (λ g q h. not-refused E (end_rules u.end) (end-there (new-parts t u f at g q h)) no?)

      module _ {x : ℕ} {c₃ : Cursor} (ended? : d ≡ Ok (x, c₃)) {l : List ℕ} {o : ℕ} {m : List ℕ} {p : ℕ} where
        pub new-printed : FieldPut f at row n l o m p → (t : ℕ) (u : Upto) → Prints (new_field any_type t u) new_word f at l o m (Ok (c₃, p))
        new-printed L t u =
            record {
              there = λ g q h.
                  let N = new-parts t u f at g q h in
                  let k-is : kind_in row ≡ noted N.own = cc (ap out_kind (sym is) ∙ here N) in
                  let n-is : n ≡ N.name = (as-named N).0 in
                  (laid_as (L.line N.own N.after-kind N.kind-read k-is) (rw n-is (ap new_word (sym N.is))), (as_read E (end_rules u.end) (end-there N) ended?).1);
            }

-- ── so many new fields: what is left to print from here gives the whole ──

pub record NewsLeft (t : ℕ) (f : List ℕ) (gs : List (New × ℕ)) (q : ℕ) (l : List ℕ) (o rest here : ℕ) (m : List ℕ) (p : ℕ) : Type 0 where
  pub upto : Upto
  pub more : List (New × ℕ)
  pub reads : times rest (new_field any_type t) (upto_new t) upto f here ≡ got more q
  pub leads : Leads l o (new_words gs) m p (new_words more)

pub record NewsPrinting (f : List ℕ) (n at : ℕ) (l : List ℕ) (o rest here : ℕ) (m : List ℕ) (p : ℕ) : Type 0 where
  pub long : length m ≡ length l
  pub fewer : rest ≤ n
  pub left : (t : ℕ) (u : Upto) (gs : List (New × ℕ)) (q : ℕ) → times n (new_field any_type t) (upto_new t) u f at ≡ got gs q → NewsLeft t f gs q l o rest here m p

pub news-start : (f : List ℕ) (n at : ℕ) (l : List ℕ) (o : ℕ) → length l ≤ most → o ≤ most → NewsPrinting f n at l o n at l o
news-start f n at l o a b =
    record {
      long = refl;
      fewer = omega arith;
      left = λ t u gs q r. record { upto = u; more = gs; reads = r; leads = leads-start a b };
    }

module _ {f : List ℕ} {n at : ℕ} {l : List ℕ} {o rest here : ℕ} {m : List ℕ} {p : ℕ} (g : NewsPrinting f n at l o rest here m p) where
  module _ (due : 0 < rest) {m₂ : List ℕ} {b : Result (Cursor × ℕ) Refusal} (one : (t : ℕ) (u : Upto) → Prints (new_field any_type t u) new_word f here m p m₂ b) where
    -- the first of them stands there
    first-there :
        (t : ℕ) {gs : List (New × ℕ)} {q : ℕ} (B : NewsLeft t f gs q l o rest here m p)
        → (let F = times-first (new_field any_type t) (upto_new t) B.upto f here B.more q rest due B.reads in StandsBy m p (new_word F.value) m₂ F.next b)
    first-there t {gs} {q} B =
        let F = times-first (new_field any_type t) (upto_new t) B.upto f here B.more q rest due B.reads in
        (one t B.upto).there F.value F.next F.first

    pub news-no : {e : Refusal} → b ≡ Err e → {m' : List ℕ} {b' : Result (Cursor × ℕ) Refusal} (t : ℕ) (u : Upto) → Prints (times n (new_field any_type t) (upto_new t) u) new_words f at l o m' b'
    news-no is t u = prints-none {r = times n (new_field any_type t) (upto_new t) u} (λ gs q r. let S = first-there t (g.left t u gs q r) in rw is at S)

    pub news-on : {c : Cursor} {p₂ : ℕ} → b ≡ Ok (c, p₂) → length m₂ ≡ length m → NewsPrinting f n at l o (rest - 1) c.at m₂ p₂
    unfolding flat
    news-on {c} {p₂} is kept =
        record {
          long = kept ∙ g.long;
          fewer = omega (arith, g.fewer);
          left = λ t u gs q r.
              let B = g.left t u gs q r in
              let F = times-first (new_field any_type t) (upto_new t) B.upto f here B.more q rest due B.reads in
              let S : Laid m p (new_word F.value) m₂ p₂ × (c.at ≡ F.next) = rw is at (first-there t B) in
              record {
                upto = upto_new t B.upto F.value;
                more = F.more;
                reads = rw S.1 F.rest;
                leads = leads-on B.leads (ap new_words F.is) S.0;
              };
        }

  pub news-done : rest ≤ 0 → {c : Cursor} → c.at ≡ here → (t : ℕ) (u : Upto) → Prints (times n (new_field any_type t) (upto_new t) u) new_words f at l o m (Ok (c, p))
  unfolding flat
  news-done le is t u =
      record {
        there = λ gs q r.
            let B = g.left t u gs q r in
            let N = times_none (new_field any_type t) (upto_new t) B.upto f here B.more q rest le B.reads in
            (leads-end B.leads (ap new_words N.0), is ∙ N.1);
      }

-- ── known fields, and then new ones ──

abbrev pub old_words : ℕ → List ℕ
old_words known = flat (λ (u : Unit {0}). old_line) (replicate known tt)

pub record FieldsPrinted (known count : ℕ) (f : List ℕ) (at : ℕ) (l : List ℕ) (o : ℕ) (m : List ℕ) (r : Result (Cursor × ℕ) Refusal) : Type 0 where
  pub there :
      (before : ℕ) (es : List ℕ) (e : ℕ) → times known end_offset (λ b x. x) before f at ≡ got es e
      → (t : ℕ) (u : Upto) (gs : List (New × ℕ)) (q : ℕ) → times count (new_field any_type t) (upto_new t) u f e ≡ got gs q → StandsBy l o (old_words known ++ new_words gs) m q r

behind-olds :
    {l m : List ℕ} {o p : ℕ} (known : ℕ) → Laid l o (old_words known) m p → (m₂ : List ℕ) (gs : List (New × ℕ)) (q : ℕ) (r : Result (Cursor × ℕ) Refusal) → StandsBy m p (new_words gs) m₂ q r
    → StandsBy l o (old_words known ++ new_words gs) m₂ q r
behind-olds known L m₂ gs q (Ok (d, e)) S = (laid_then L S.0, S.1)
behind-olds known L m₂ gs q (Err e) S = S

module _ {known : ℕ} (count : ℕ) {f : List ℕ} {at : ℕ} {a : Step} (P : PastAll known f at a) where
  pub fields-none : {e : Refusal} → a ≡ Err e → {l : List ℕ} {o : ℕ} {m : List ℕ} {r : Result (Cursor × ℕ) Refusal} → FieldsPrinted known count f at l o m r
  fields-none is = record { there = λ before es e h t u gs q k. absurd (rw is at (P.there before es e h)) }

  pub fields-printed :
      {c : Cursor} → a ≡ Ok c → {l m : List ℕ} {o p : ℕ} → Laid l o (old_words known) m p → {m₂ : List ℕ} {r : Result (Cursor × ℕ) Refusal}
      → ((t : ℕ) (u : Upto) → Prints (times count (new_field any_type t) (upto_new t) u) new_words f c.at m p m₂ r) → FieldsPrinted known count f at l o m₂ r
  fields-printed {c} is L {m₂} {r} N =
      record {
        there = λ before es e h t u gs q k.
            let z : c.at ≡ e = rw is at (P.there before es e h) in
            behind-olds known L m₂ gs q r ((N t u).there gs q (rw z k));
      }

-- The lines of an entry, and of all entries of a block. Assumes nothing.
use Rattle.std.specs.Prelude.{Err, Ok, Result, ◌≡◌, refl, true, false, ℕ, zero, suc, ◌+◌, ◌-◌, ◌≤◌, ◌<◌, leb, eqb}
use Rattle.std.proofs.Math.Path.{sym, ap}
use Rattle.std.proofs.Common.{◌∙◌, arith, leb-true}
use mathlib.Core.List.{List, [], ◌++◌, map, append_assoc}
use Rattle.std.proofs.Math.Option.{none, some}
use Rattle.std.proofs.Math.ListN.{length, length-map}
use Rattle.paper.specs.Reader.{when◌then◌else◌, got, times}
use Rattle.paper.specs.Numbers.{v64, number}
use Rattle.paper.specs.Bounds.{most_fields}
use Rattle.paper.specs.Lists.{given?, places}
use Rattle.paper.specs.Ledger.{New, Head, Entry, State, Field, fields_of, owns?}
use Rattle.paper.specs.Rules.{any_type, type_of, after_head, known_due, field_count_rules, after_entry}
use Rattle.paper.specs.Keeps.{hold?}
use Rattle.paper.specs.File.{Upto, end_offset, new_field, upto_new, what, head, fields, entry, upto_entry}
use Rattle.paper.specs.Listing.{type_line, print_entry, print_entries}
use Rattle.laws.specs.Bools.{and_split}
use Rattle.laws.specs.Laws.{not-got, bind_inv}
use Rattle.lay.specs.Laid.{most, Laid, laid_then, laid_as, Leads, leads-start, leads-on, leads-end}
use Rattle.table.specs.View.{maybe, view, Said, said, Holds}
use Rattle.numbers.specs.Cursors.{Outcome, Read, was-got, was-refused}
use Rattle.numbers.specs.declared.Cursor.{Cursor}
use Rattle.numbers.specs.declared.Refusal.{Refusal}
use Rattle.reader.specs.declared.heads.Top.{Top}
use Rattle.reader.specs.Sound.{Sound}
use Rattle.reader.specs.Kinds.{named_by}
use Rattle.reader.specs.Going.{Going, go_entry}
use Rattle.reader.specs.Fields.{olds_of, going, out_going}
use Rattle.reader.specs.Entries.{entry_go, entries_go}
use Rattle.reader.specs.EntryLaws.{Passed, EntriesGoing, entries-begin, entries-done, entries-no, entries_next}
use Rattle.reader.specs.Heads.{due, head_of, out_top, ToldTop, TopRead, add_head, LeftTop, TopEntered}
use Rattle.reader.specs.Runs.{times-many}
use Rattle.listing.specs.declared.entries.Printed.{Printed}
use Rattle.listing.specs.Prints.{StandsBy, give-got, number-got, FirstOf, times-first, times_none}
use Rattle.listing.specs.Fields.{new_words, old_words, FieldsPrinted}

-- the entry at a place stands as its lines
pub record EntryPrinted (f l : List ℕ) (at : ℕ) (out : List ℕ) (o : ℕ) (m : List ℕ) (r : ℕ) : Type 0 where
  pub text : (end : ℕ) (e : Entry × List ℕ) (q : ℕ) → entry any_type (record { state = view f l; end = end }) f at ≡ got e q → Laid out o (print_entry (length (known_due (view f l) e.0.head)) e.0) m r

-- ── what an entry may leave out ──

pub start_none : (up n : ℕ) → up ≡ 0 → none ≡ due (given? (maybe up)) n
unfolding given?
start_none up n is = rw is

pub start-some : (up n : ℕ) → (up ≡ 0 → ⊥) → some n ≡ due (given? (maybe up)) n
unfolding given?
start-some zero n h = absurd (h refl)
start-some (suc up) n h = refl

-- ── an entry, taken apart ──

record EntryParts (s : State) (end : ℕ) (f : List ℕ) (at : ℕ) (e : Entry × List ℕ) (q : ℕ) : Type 0 where
  top : Head
  after-top : ℕ
  count : ℕ
  after-count : ℕ
  olds : List ℕ
  after-olds : ℕ
  upto : Upto
  news : List (New × ℕ)
  top_read : head s f at ≡ got top after-top
  count-read : number (field_count_rules (after_head s top) (length (known_due s top))) f after-top ≡ got count after-count
  olds-read : times (length (known_due s top)) end_offset (λ b x. x) end f after-count ≡ got olds after-olds
  news-read : times (count - length (known_due s top)) (new_field any_type (type_of s top.name)) (upto_new (type_of s top.name)) upto f after-olds ≡ got news q
  is : e.0 ≡ record { head = top; news = map what news }

record FieldsParts (t known : ℕ) (u : Upto) (f : List ℕ) (at : ℕ) (v : List New × List ℕ) (q : ℕ) : Type 0 where
  count : ℕ
  after-count : ℕ
  olds : List ℕ
  after-olds : ℕ
  upto : Upto
  news : List (New × ℕ)
  count-read : number (field_count_rules u.state known) f at ≡ got count after-count
  olds-read : times known end_offset (λ b x. x) u.end f after-count ≡ got olds after-olds
  news-read : times (count - known) (new_field any_type t) (upto_new t) upto f after-olds ≡ got news q
  is : v.0 ≡ map what news

fields-parts : (t known : ℕ) (u : Upto) (f : List ℕ) (at : ℕ) (v : List New × List ℕ) (q : ℕ) → fields any_type t known u f at ≡ got v q → FieldsParts t known u f at v q
unfolding fields
fields-parts t known u f at v q h =
    let C = bind_inv (number (field_count_rules u.state known)) _ f at v q h in
    let D = bind_inv (times known end_offset (λ b x. x) u.end) _ f C.next v q C.rest in
    let E = bind_inv (times (C.value - known) (new_field any_type t) (upto_new t) _) _ f D.next v q D.rest in
    let (same, ended) = give-got _ f E.next v q E.rest in
    record {
      count = C.value;
      after-count = C.next;
      olds = D.value;
      after-olds = D.next;
      upto = _;
      news = E.value;
      count-read = C.first;
      olds-read = D.first;
      news-read = E.first ∙ ap (got E.value) ended;
      is = sym (ap (λ (x : List New × List ℕ). x.0) same);
    }

entry-parts : (s : State) (end : ℕ) (f : List ℕ) (at : ℕ) (e : Entry × List ℕ) (q : ℕ) → entry any_type (record { state = s; end = end }) f at ≡ got e q → EntryParts s end f at e q
unfolding entry
entry-parts s end f at e q h =
    let A = bind_inv (head s) _ f at e q h in
    let t = type_of s A.value.name in
    let known = length (known_due s A.value) in
    let B = bind_inv (fields any_type t known (record { state = after_head s A.value; end = end })) _ f A.next e q A.rest in
    let (same, ended) = give-got _ f B.next e q B.rest in
    let P = fields-parts t known (record { state = after_head s A.value; end = end }) f A.next B.value B.next B.first in
    record {
      top = A.value;
      after-top = A.next;
      count = P.count;
      after-count = P.after-count;
      olds = P.olds;
      after-olds = P.after-olds;
      upto = P.upto;
      news = P.news;
      top_read = A.first;
      count-read = P.count-read;
      olds-read = P.olds-read;
      news-read = P.news-read ∙ ap (got P.news) ended;
      is = sym (ap (λ (x : Entry × List ℕ). x.0) same) ∙ ap (λ (gs : List New). record { head = A.value; news = gs }) P.is;
    }

-- the number of fields is not below that of the known ones
enough : (s : State) (known n : ℕ) → hold? (field_count_rules s known n) ≡ true → known ≤ n
unfolding field_count_rules hold?
enough s known n h =
    let (_, b) = and_split (leb (length s.fields + (n - known)) most_fields) _ h in
    let (c, _) = and_split (leb known n) true b in
    leb-true known n c

-- ── a head that was entered was read ──

pub entered-read : {f l l₁ : List ℕ} {at : ℕ} {a : Outcome Top} → TopEntered f l l₁ at a → TopRead (view f l) f at a
entered-read {f} {l} {l₁} {at} {a} e = record { says = e.says; inside = e.inside; told = go a e.left }
  where
    go : (a : Outcome Top) → LeftTop f l l₁ a → ToldTop (view f l) a
    go (Ok (h, c)) x = x.placed
    go (Err u) x = tt

-- the known fields are the same before it and behind it
pub olds-kept : {f l l₁ : List ℕ} {at : ℕ} {top : Top} {c : Cursor} → TopEntered f l l₁ at (Ok (top, c)) → {known : ℕ} → known ≡ length (olds_of top.count (view f l₁) top.name.typ) → known ≡ length (olds_of top.count (view f l) top.name.typ)
unfolding olds_of fields_of add_head after_head
olds-kept {top = top} e is =
    is ∙ ap (λ (x : List Field). length (when eqb top.count 0 then [] else places (owns? top.name.typ) 0 x)) (ap (λ (g : Said). g.state.fields) e.left.now.says)

-- ── the ways out ──

module _ (f l : List ℕ) {at : ℕ} {a : Outcome Top} (T : TopRead (view f l) f at a) where
  pub entry-no-head : {out : List ℕ} {o : ℕ} {e : Refusal} → a ≡ Err e → EntryPrinted f l at out o out o
  entry-no-head is = record { text = λ end e q h. not-got (ap out_top (sym is) ∙ T.says ∙ (entry-parts (view f l) end f at e q h).top_read) }

  module _ {top : Top} {c₁ : Cursor} (is : a ≡ Ok (top, c₁)) {b : Outcome ℕ} (R : Read v64 18446744073709551616 f c₁.at b) where
    there : {end : ℕ} {e : Entry × List ℕ} {q : ℕ} (P : EntryParts (view f l) end f at e q) → got (head_of top) c₁.at ≡ got P.top P.after-top
    there P = ap out_top (sym is) ∙ T.says ∙ P.top_read

    counted : {end : ℕ} {e : Entry × List ℕ} {q : ℕ} (P : EntryParts (view f l) end f at e q) → (v64 f c₁.at ≡ got P.count P.after-count) × (length (known_due (view f l) P.top) ≤ P.count)
    counted P =
        let z : c₁.at ≡ P.after-top = cc (there P) in
        let (x, y) = number-got _ f P.after-top P.count P.after-count P.count-read in
        (rw z x, enough _ _ P.count y)

    pub entry-no-count : {out : List ℕ} {o : ℕ} {e : Refusal} → b ≡ Err e → EntryPrinted f l at out o out o
    entry-no-count no? =
        record { text = λ end e q h. not-got (sym (was-refused R no?).says ∙ (counted (entry-parts (view f l) end f at e q h)).0) }

    module _ {n : ℕ} {c₂ : Cursor} (got? : b ≡ Ok (n, c₂)) {known : ℕ} (K : known ≡ length (olds_of top.count (view f l) top.name.typ)) where
      known_is : {end : ℕ} {e : Entry × List ℕ} {q : ℕ} (P : EntryParts (view f l) end f at e q) → length (known_due (view f l) P.top) ≡ known
      unfolding olds_of known_due
      known_is P =
          let z : head_of top ≡ P.top = cc (there P) in
          let placed = (rw is at T).told in
          rw (← z, ← placed.name.typ) (sym K)

      count-is : {end : ℕ} {e : Entry × List ℕ} {q : ℕ} (P : EntryParts (view f l) end f at e q) → got n c₂.at ≡ got P.count P.after-count
      count-is P = sym (was-got R got?).says ∙ (counted P).0

      pub entry-few : {out : List ℕ} {o : ℕ} → n < known → EntryPrinted f l at out o out o
      entry-few lt =
          record {
            text = λ end e q h.
                let P = entry-parts (view f l) end f at e q h in
                let same : n ≡ P.count = cc (count-is P) in
                absurd (omega (arith, (counted P).1, known_is P));
          }

      module _ {out m₁ m₂ : List ℕ} {o o₁ : ℕ} (L : Laid out o (type_line (head_of top) n) m₁ o₁) {h : Result (Cursor × ℕ) Refusal} (F : FieldsPrinted known (n - known) f c₂.at m₁ o₁ m₂ h) where
        -- the fields, as the definitions read them
        news-are : {end : ℕ} {e : Entry × List ℕ} {q : ℕ} (P : EntryParts (view f l) end f at e q) → times (n - known) (new_field any_type (type_of (view f l) P.top.name)) (upto_new (type_of (view f l) P.top.name)) P.upto f P.after-olds ≡ got P.news q
        news-are P =
            let n-is : n ≡ P.count = cc (count-is P) in
            rw (← known_is P, n-is) P.news-read

        fields-there : {end : ℕ} {e : Entry × List ℕ} {q : ℕ} (P : EntryParts (view f l) end f at e q) → StandsBy m₁ o₁ (old_words known ++ new_words P.news) m₂ q h
        fields-there {end} {e} {q} P =
            let c-is : c₂.at ≡ P.after-count = cc (count-is P) in
            F.there end P.olds P.after-olds (rw (← known_is P, c-is) P.olds-read) _ P.upto P.news q (news-are P)

        pub entry-cut : {u : Refusal} → h ≡ Err u → {r : ℕ} → EntryPrinted f l at out o m₂ r
        entry-cut is = record { text = λ end e q r. absurd (rw is at (fields-there (entry-parts (view f l) end f at e q r))) }

        pub entry-printed : {c₃ : Cursor} {p : ℕ} → h ≡ Ok (c₃, p) → EntryPrinted f l at out o m₂ p
        unfolding print_entry
        entry-printed {c₃} {p} is =
            record {
              text = λ end e q r.
                  let P = entry-parts (view f l) end f at e q r in
                  let t = type_of (view f l) P.top.name in
                  let head-is : head_of top ≡ P.top = cc (there P) in
                  let n-is : n ≡ P.count = cc (count-is P) in
                  let k-is = known_is P in
                  let S : Laid m₁ o₁ (old_words known ++ new_words P.news) m₂ p × (c₃.at ≡ q) = rw is at (fields-there P) in
                  let many : length (map what P.news) ≡ n - known = length-map P.news what ∙ times-many (n - known) (new_field any_type t) (upto_new t) P.upto f P.after-olds (news-are P) in
                  let all : n ≡ known + length (map what P.news) = omega (arith, (counted P).1) in
                  let whole : Entry = record { head = P.top; news = map what P.news } in
                  let text-is : type_line (head_of top) n ++ (old_words known ++ new_words P.news) ≡ print_entry known whole = sym (append_assoc (type_line (head_of top) n) (old_words known) (new_words P.news)) ∙ rw (head-is, ← all) in
                  laid_as (laid_then L S.0) (text-is ∙ ap (λ (k : ℕ). print_entry k whole) (sym k-is) ∙ ap (λ (x : Entry). print_entry (length (known_due (view f l) x.head)) x) (sym P.is));
            }

-- ── all entries of a block ──

abbrev pub upto_here : List ℕ → List ℕ → ℕ → Upto
upto_here f l end = record { state = view f l; end = end }

-- they are read into the table, which becomes l', and stand as their lines
pub record EntriesDone (f l l' : List ℕ) (n at : ℕ) (out : List ℕ) (o : ℕ) (m : List ℕ) (r : Printed) : Type 0 where
  pub passed : Passed f l' at r.read (entries_go (named_by false 0) n (going f l 0) f at)
  pub text : (es : List (Entry × List ℕ)) (q : ℕ) → times n (entry any_type) upto_entry (upto_here f l 0) f at ≡ got es q → Laid out o (print_entries (view f l) (map what es)) m r.at

-- what is left to print from here gives the whole
pub record EntriesLeft (f l₀ l : List ℕ) (es : List (Entry × List ℕ)) (q rest last at : ℕ) (out : List ℕ) (o : ℕ) (m : List ℕ) (p : ℕ) : Type 0 where
  pub more : List (Entry × List ℕ)
  pub reads : times rest (entry any_type) upto_entry (upto_here f l last) f at ≡ got more q
  pub leads : Leads out o (print_entries (view f l₀) (map what es)) m p (print_entries (view f l) (map what more))

pub record EntriesPrinting (f l₀ l : List ℕ) (at₀ all rest last at : ℕ) (out : List ℕ) (o : ℕ) (m : List ℕ) (p : ℕ) : Type 0 where
  pub reading : EntriesGoing f l₀ l (named_by false 0) at₀ all rest last at
  pub long : length m ≡ length out
  pub left : (es : List (Entry × List ℕ)) (q : ℕ) → times all (entry any_type) upto_entry (upto_here f l₀ 0) f at₀ ≡ got es q → EntriesLeft f l₀ l es q rest last at out o m p

pub printing-start :
    {f l : List ℕ} → Holds f l → Sound (said f l) → (all at : ℕ) (out : List ℕ) (o : ℕ) → length out ≤ most → o ≤ most → EntriesPrinting f l l at all all 0 at out o out o
printing-start h s all at out o a b =
    record {
      reading = entries-begin h s (named_by false 0) all at;
      long = refl;
      left = λ es q r. record { more = es; reads = r; leads = leads-start a b };
    }

module _ {f l₀ l : List ℕ} {at₀ all rest last at : ℕ} {out : List ℕ} {o : ℕ} {m : List ℕ} {p : ℕ} (g : EntriesPrinting f l₀ l at₀ all rest last at out o m p) where
  pub printing-done : rest ≤ 0 → EntriesDone f l₀ l all at₀ out o m (record { read = Ok (last, (record { at = at })); at = p })
  unfolding print_entries
  printing-done le =
      record {
        passed = entries-done g.reading le;
        text = λ es q r.
            let B = g.left es q r in
            let N = times_none (entry any_type) upto_entry (upto_here f l last) f at B.more q rest le B.reads in
            leads-end B.leads (ap (λ (x : List (Entry × List ℕ)). print_entries (view f l) (map what x)) N.0);
      }

  module _ (due? : 0 < rest) {m₂ : List ℕ} {p₂ : ℕ} (E : EntryPrinted f l at m p m₂ p₂) {l' : List ℕ} {a : Outcome ℕ} (one : Passed f l' at a (entry_go (named_by false 0) (going f l last) f at)) where
    -- the entry, as the definitions read it
    first_of : {es : List (Entry × List ℕ)} {q : ℕ} (B : EntriesLeft f l₀ l es q rest last at out o m p) → FirstOf (entry any_type) upto_entry (rest - 1) (upto_here f l last) f at B.more q
    first_of {es} {q} B = times-first (entry any_type) upto_entry (upto_here f l last) f at B.more q rest due? B.reads

    read-so : {e : Entry × List ℕ} {q : ℕ} → entry any_type (upto_here f l last) f at ≡ got e q → out_going f l' a ≡ got (go_entry (going f l last) e) q
    unfolding entry_go named_by
    read-so h = one.says ∙ rw h

    pub printing-no : {e : Refusal} → a ≡ Err e → EntriesDone f l₀ l' all at₀ out o m₂ (record { read = Err e; at = p₂ })
    printing-no is =
        record {
          passed = entries-no g.reading due? one is;
          text = λ es q r.
              let F = first_of (g.left es q r) in
              not-got (ap (out_going f l') (sym is) ∙ read-so F.first);
        }

    pub printing-on : {e : ℕ} {c : Cursor} → a ≡ Ok (e, c) → length l' ≡ length l → length m₂ ≡ length m → EntriesPrinting f l₀ l' at₀ all (rest - 1) e c.at out o m₂ p₂
    unfolding print_entries go_entry upto_entry
    printing-on {e} {c} is long kept =
        record {
          reading = entries_next g.reading due? one is long refl;
          long = kept ∙ g.long;
          left = λ es q r.
              let B = g.left es q r in
              let F = first_of B in
              let both : got (going f l' e) c.at ≡ got (go_entry (going f l last) F.value) F.next = ap (out_going f l') (sym is) ∙ read-so F.first in
              let now-is : going f l' e ≡ go_entry (going f l last) F.value = cc both in
              let next-is : c.at ≡ F.next = cc both in
              let upto_is : upto_here f l' e ≡ upto_entry (upto_here f l last) F.value = ap (λ (x : Going). record { state = x.said.state; end = x.end }) now-is in
              let view-is : view f l' ≡ after_entry (view f l) F.value.0 = ap (λ (x : Going). x.said.state) now-is in
              let split : print_entries (view f l) (map what B.more) ≡ print_entry (length (known_due (view f l) F.value.0.head)) F.value.0 ++ print_entries (view f l') (map what F.more) =
              ap (λ (x : List (Entry × List ℕ)). print_entries (view f l) (map what x)) F.is
              ∙ ap (λ (u : State). print_entry (length (known_due (view f l) F.value.0.head)) F.value.0 ++ print_entries u (map what F.more)) (sym view-is) in
              record {
                more = F.more;
                reads = ap (λ (u : Upto). times (rest - 1) (entry any_type) upto_entry u f c.at) upto_is ∙ ap (λ (x : ℕ). times (rest - 1) (entry any_type) upto_entry (upto_entry (upto_here f l last) F.value) f x) next-is ∙ F.rest;
                leads = leads-on B.leads split (E.text last F.value F.next F.first);
              };
        }

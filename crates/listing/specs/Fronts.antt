-- The lines of what stands in a pair before its values. Assumes nothing.
use Rattle.std.specs.Prelude.{Err, Ok, ◌≡◌, false, ℕ, ◌+◌, ◌-◌, ◌≤◌, ◌<◌, take}
use Rattle.std.proofs.Math.Path.{refl, sym, ap}
use Rattle.std.proofs.Common.{◌∙◌, arith, add-one, drop_of_length-le}
use mathlib.Core.List.{List, [], ◌∷◌, ◌++◌, map}
use Rattle.std.proofs.Math.ListN.{length, drop, length-append}
use Rattle.std.proofs.lemmas.List.{length-map}
use Rattle.std.proofs.Math.Seq.{slice, drop-cons, drop_at}
use Rattle.paper.specs.Reader.{Out, got, no, turned, times}
use Rattle.paper.specs.Lists.{flat}
use Rattle.paper.specs.Ledger.{Entry, State}
use Rattle.paper.specs.Rules.{any_type, with_strings}
use Rattle.paper.specs.File.{Front, what, ends, small, string_block, entry, upto_entry, front}
use Rattle.paper.specs.Listing.{pair_line, string_line, print_entries}
use Rattle.laws.specs.Laws.{not-got, bind_inv}
use Rattle.lay.specs.Laid.{most, Laid, laid_then, laid_as, Leads, leads-start, leads-on, leads-end}
use Rattle.table.specs.View.{strs_of, view, said, Said, Holds, strings_in}
use Rattle.table.specs.Answers.{Stands}
use Rattle.table.specs.NameLaws.{part_of}
use Rattle.numbers.specs.Cursors.{Step, Outcome, Read, was-got, was-refused, out_step}
use Rattle.numbers.specs.declared.Cursor.{Cursor}
use Rattle.numbers.specs.declared.Refusal.{Refusal}
use Rattle.reader.specs.Kinds.{named_by}
use Rattle.reader.specs.Strings.{Did, add_strings}
use Rattle.reader.specs.Entries.{front_go}
use Rattle.reader.specs.EntryLaws.{Passed, front-unstrung, front-uncounted, front-got}
use Rattle.reader.specs.Runs.{times-many}
use Rattle.listing.specs.declared.entries.Printed.{Printed}
use Rattle.listing.specs.Prints.{give-got}
use Rattle.listing.specs.Entries.{upto_here, EntriesDone}

-- ── strings ──

-- a part as code lends it
pub part-is : (f : List ℕ) (start end : ℕ) → start ≤ end → end ≤ length f → take (end - start) (drop start f) ≡ slice start end f
part-is f start end h k = let back : end - (end - start) ≡ start = omega arith in rw back at (part_of start end (end - start) f refl k)

-- one that ends before it starts
pub part_none : (f : List ℕ) (start end : ℕ) → end < start → end ≤ length f → take (end - end) (drop end f) ≡ slice start end f
part_none f start end h k =
    let none : 0 ≡ end - start = omega arith in
    let back : end - 0 ≡ end = omega arith in
    rw back at (part_of start end 0 f none k)

-- what is left to print from here gives the whole
pub record StringsPrinting (f l : List ℕ) (from i : ℕ) (out : List ℕ) (o : ℕ) (m : List ℕ) (p : ℕ) : Type 0 where
  pub leads : Leads out o (flat string_line (drop from (strs_of f l))) m p (flat string_line (drop i (strs_of f l)))

pub strings-start : (f l : List ℕ) (from : ℕ) (out : List ℕ) (o : ℕ) → length out ≤ most → o ≤ most → StringsPrinting f l from from out o out o
strings-start f l from out o a b = record { leads = leads-start a b }

module _ {f l : List ℕ} {from i : ℕ} {out : List ℕ} {o : ℕ} {m : List ℕ} {p : ℕ} (g : StringsPrinting f l from i out o m p) where
  pub strings-on :
      i < length (strs_of f l) → {start end : ℕ} → Stands strs_of l i start end → {m₂ : List ℕ} {p₂ : ℕ} → Laid m p (string_line (slice start end f)) m₂ p₂
      → StringsPrinting f l from (i + 1) out o m₂ p₂
  unfolding flat
  strings-on lt {start} {end} S L =
      let next : drop i (strs_of f l) ≡ slice start end f ∷ drop (i + 1) (strs_of f l) =
      drop-cons (strs_of f l) i [] lt ∙ rw (add-one, S.is f) refl in
      record { leads = leads-on g.leads (ap (flat string_line) next) L }

  pub strings-done : length (strs_of f l) ≤ i → Laid out o (flat string_line (drop from (strs_of f l))) m p
  unfolding flat
  strings-done le = leads-end g.leads (ap (flat string_line) (drop_of_length-le (strs_of f l) le))

-- ── the front ──

-- the text of what stands before the values, from what is known before the pair
unfoldable pub front_text : State → Front → List ℕ
front_text s d = pair_line (length d.strings) (length d.entries) ++ flat string_line d.strings ++ print_entries (with_strings s d.strings) d.entries

-- it is read into the table, which becomes l', and stands as its lines
pub record FrontDone (f l l' : List ℕ) (at : ℕ) (out : List ℕ) (o : ℕ) (m : List ℕ) (r : Printed) : Type 0 where
  pub passed : Passed f l' at r.read (front_go (named_by false 0) (said f l) f at)
  pub text : (d : Front) (q : ℕ) → front any_type (view f l) f at ≡ got d q → Laid out o (front_text (view f l) d) m r.at

record FrontParts (s : State) (f : List ℕ) (at : ℕ) (d : Front) (q : ℕ) : Type 0 where
  strings : List (List ℕ)
  after-strings : ℕ
  count : ℕ
  after-count : ℕ
  entries : List (Entry × List ℕ)
  strings-read : string_block s f at ≡ got strings after-strings
  count-read : small f after-strings ≡ got count after-count
  entries-read : times count (entry any_type) upto_entry (record { state = with_strings s strings; end = 0 }) f after-count ≡ got entries q
  is : d ≡ record { strings = strings; entries = map what entries; ends = flat ends entries }

front-parts : (s : State) (f : List ℕ) (at : ℕ) (d : Front) (q : ℕ) → front any_type s f at ≡ got d q → FrontParts s f at d q
unfolding front
front-parts s f at d q h =
    let A = bind_inv (string_block s) _ f at d q h in
    let B = bind_inv small _ f A.next d q A.rest in
    let C = bind_inv (times B.value (entry any_type) upto_entry (record { state = with_strings s A.value; end = 0 })) _ f B.next d q B.rest in
    let (same, ended) = give-got _ f C.next d q C.rest in
    record {
      strings = A.value;
      after-strings = A.next;
      count = B.value;
      after-count = B.next;
      entries = C.value;
      strings-read = A.first;
      count-read = B.first;
      entries-read = C.first ∙ ap (got C.value) ended;
      is = sym same;
    }

module _ {f : List ℕ} (l : List ℕ) {l₁ : List ℕ} {at : ℕ} {a : Step} (did : Did f l₁ at a (turned (add_strings (said f l)) (string_block (view f l) f at))) where
  -- the step, where the strings are read
  did_so : {strings : List (List ℕ)} {e : ℕ} → string_block (view f l) f at ≡ got strings e → out_step a (said f l₁) ≡ got (add_strings (said f l) strings) e
  did_so h = did.says ∙ rw h

  pub front-no-strings : {e : Refusal} → a ≡ Err e → {out : List ℕ} {o : ℕ} → FrontDone f l l₁ at out o out (record { read = Err e; at = o })
  front-no-strings is =
      record {
        passed = front-unstrung l (named_by false 0) did is;
        text = λ d q h. not-got (ap (λ (x : Step). out_step x (said f l₁)) (sym is) ∙ did_so (front-parts (view f l) f at d q h).strings-read);
      }

  module _ {c₁ : Cursor} (is : a ≡ Ok c₁) where
    both : {strings : List (List ℕ)} {e : ℕ} → string_block (view f l) f at ≡ got strings e → got (said f l₁) c₁.at ≡ got (add_strings (said f l) strings) e
    both h = ap (λ (x : Step). out_step x (said f l₁)) (sym is) ∙ did_so h

    -- what the step added are the last strings
    pub not-fewer : Holds f l → strings_in l ≤ strings_in l₁
    unfolding add_strings with_strings
    not-fewer H = go (string_block (view f l) f at) (ap (λ (x : Step). out_step x (said f l₁)) (sym is) ∙ did.says)
      where
        go : (o : Out (List (List ℕ))) → got (said f l₁) c₁.at ≡ turned (add_strings (said f l)) o → strings_in l ≤ strings_in l₁
        go (got strings e) q =
            let z : said f l₁ ≡ add_strings (said f l) strings = cc q in
            let more : strs_of f l₁ ≡ strs_of f l ++ strings = ap (λ (g : Said). g.state.strings) z in
            let long = ap length more ∙ length-append (strs_of f l) strings in
            omega (arith, long, H.strs-count, did.holds.strs-count)
        go (no n p) q = not-got (sym q)

    module _ {b : Outcome ℕ} (counted : Read small 65536 f c₁.at b) where
      count-so : {d : Front} {q : ℕ} (P : FrontParts (view f l) f at d q) → small f c₁.at ≡ got P.count P.after-count
      count-so P = let z : c₁.at ≡ P.after-strings = cc (both P.strings-read) in ap (small f) z ∙ P.count-read

      pub front-no-count : {e : Refusal} → b ≡ Err e → {out : List ℕ} {o : ℕ} → FrontDone f l l₁ at out o out (record { read = Err e; at = o })
      front-no-count no? =
          record {
            passed = front-uncounted l (named_by false 0) did is counted no?;
            text = λ d q h. not-got (sym (was-refused counted no?).says ∙ count-so (front-parts (view f l) f at d q h));
          }

      module _ {n : ℕ} {c₂ : Cursor} (got? : b ≡ Ok (n, c₂)) (H : Holds f l) {before more : ℕ} (had : before ≡ strings_in l) (new : more ≡ strings_in l₁ - before) where
        module _ {out m₁ m₂ m₃ : List ℕ} {o o₁ o₂ : ℕ} (L₁ : Laid out o (pair_line more n) m₁ o₁) (L₂ : Laid m₁ o₁ (flat string_line (drop before (strs_of f l₁))) m₂ o₂) {l₂ : List ℕ} {r : Printed} (D : EntriesDone f l₁ l₂ n c₂.at m₂ o₂ m₃ r) where
          front-text : {d : Front} {q : ℕ} → FrontParts (view f l) f at d q → Laid out o (front_text (view f l) d) m₃ r.at
          unfolding front_text add_strings with_strings
          front-text {d} {q} P =
              let said-is : said f l₁ ≡ add_strings (said f l) P.strings = cc (both P.strings-read) in
              let view-is : view f l₁ ≡ with_strings (view f l) P.strings = ap (λ (g : Said). g.state) said-is in
              let strs-are : strs_of f l₁ ≡ strs_of f l ++ P.strings = ap (λ (g : Said). g.state.strings) said-is in
              let counts = sym (was-got counted got?).says ∙ count-so P in
              let n-is : n ≡ P.count = cc counts in
              let c-is : c₂.at ≡ P.after-count = cc counts in
              let first : length (strs_of f l) ≡ before = H.strs-count ∙ sym had in
              let last : drop before (strs_of f l₁) ≡ P.strings = ap (drop before) strs-are ∙ drop_at (strs_of f l) P.strings before first in
              let more-is : more ≡ length P.strings =
              omega (arith, ap length strs-are ∙ length-append (strs_of f l) P.strings, did.holds.strs-count) in
              let reads : times n (entry any_type) upto_entry (upto_here f l₁ 0) f c₂.at ≡ got P.entries q =
              ap (λ (u : State). times n (entry any_type) upto_entry (record { state = u; end = 0 }) f c₂.at) view-is ∙ rw (n-is, c-is) P.entries-read in
              let all : n ≡ length (map what P.entries) = sym (length-map P.entries what ∙ times-many n (entry any_type) upto_entry (upto_here f l₁ 0) f c₂.at reads) in
              let L₃ = laid_as (D.text P.entries q reads) (ap (λ (u : State). print_entries u (map what P.entries)) view-is) in
              let L₁' = laid_as L₁ (ap (λ (x : ℕ). pair_line x n) more-is ∙ ap (pair_line (length P.strings)) all) in
              let L₂' = laid_as L₂ (ap (flat string_line) last) in
              laid_as (laid_then (laid_then L₁' L₂') L₃) (ap (front_text (view f l)) (sym P.is))

          pub front-printed : FrontDone f l l₂ at out o m₃ r
          front-printed =
              record {
                passed = front-got l (named_by false 0) did is counted got? D.passed;
                text = λ d q h. front-text (front-parts (view f l) f at d q h);
              }

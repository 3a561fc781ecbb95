-- The head of an entry whose type is known, read the short way: what its pieces say, and that it is the head that is read number
-- by number. Assumes nothing.
use Rattle.std.specs.Prelude as prelude
use Rattle.std.specs.Prelude.{Some, ◌≡◌, refl, Bool, true, List, [], ◌∷◌, ◌++◌, ℕ, zero, suc, ◌+◌, ◌-◌, ◌^◌, ◌≤◌, ◌<◌, length, get_or}
use Rattle.std.proofs.Math.Path.{sym, ap}
use Rattle.std.proofs.Common.{◌∙◌, subst, append-nil, arith, length-append}
use Rattle.std.proofs.Math.Bool.{false}
use Rattle.std.proofs.Math.Option.{some}
use Rattle.std.proofs.Math.Seq.{get_or-append_seam}
use borrow.Author.Tests.{le-leb, lt-leb}
use Rattle.paper.specs.Reader.{when◌then◌else◌, got, ◌>>=◌, give, started}
use Rattle.paper.specs.Numbers.{coding, low_first, v64, number}
use Rattle.paper.specs.Lists.{same, any, place, given?, total}
use Rattle.paper.specs.Ledger.{Range, text, a_string?, type_named, type_in, before?, size}
use Rattle.paper.specs.Rules.{entry_of?, few_objects?, in_range?, count_rules, new?, after_head, new_type, new_range}
use Rattle.paper.specs.File.{small, restrictions}
use Rattle.numbers.specs.Begun.{one_byte}
use Rattle.numbers.specs.Cursors.{Read, answer-got, Outcome}
use Rattle.numbers.specs.Ruled.{small-got}
use Rattle.table.specs.View.{view, Said, said, maybe, strs_of, names_of, types_of, log_of, Ok, Holds, strings_in, types_in, ranges_in, block_in}
use Rattle.table.specs.Answers.{Stands, Named, range_in, no_range}
use Rattle.table.specs.declared.rows.RangeRow.{RangeRow}
use Rattle.reader.specs.declared.heads.Name.{Name}
use Rattle.reader.specs.declared.heads.Top.{Top}
use Rattle.reader.specs.Sound.{Sound}
use Rattle.reader.specs.Ruled.{number-judged}
use Rattle.reader.specs.Heads.{head_of, Known, NamePlaced, CountJudged, NameRead, AboveRead, DueRead, TopRead, Placed, add_head, range_for, Entered, TopEntered}
use Rattle.reader.specs.HeadLaws.{differ, placed-known, name-placed, name-read, above-old}
use Rattle.reader.specs.CountLaws.{due-none, due-read, given-up, given-none, count-in}
use Rattle.reader.specs.TopLaws.{or-due, top-got}
use Rattle.reader.specs.EnterLaws.{no-up}

-- ── a number of one byte ──

-- it stands at a place
pub record OneByte (f : List ℕ) (at n : ℕ) : Type 0 where
  pub there : at < length f
  pub is : n ≡ get_or f at 0
  pub read : Read v64 (2 ^ 64) f at (prelude.Ok (n, record { at = at + 1 }))

low-v64 : (f : List ℕ) (p : ℕ) → p < length f → get_or f p 0 < 128 → v64 f p ≡ got (get_or f p 0) (p + 1)
unfolding v64 started coding low_first ◌>>=◌ give when◌then◌else◌
low-v64 f p h lt = rw (one_byte f p h, lt-leb 128 (get_or f p 0) lt)

pub byte-there : (f : List ℕ) (at n : ℕ) → at < length f → n ≡ get_or f at 0 → n < 128 → OneByte f at n
byte-there f at n h is lt =
    record { there = h; is = is; read = answer-got (rw is (low-v64 f at h (omega arith))) (omega arith) (omega arith) }

-- ── the type ──

-- the name of type t stands where string n does
pub record Called (l : List ℕ) (t n : ℕ) : Type 0 where
  pub below : t < types_in l
  pub is : (f : List ℕ) → Holds f l → type_named (view f l) (text (view f l) n) ≡ some t

pub called : {l : List ℕ} {t n a b a' b' sum : ℕ} → t < types_in l → Stands strs_of l (n - 1) a' b' → Named names_of l t a b sum → a ≡ a' → b ≡ b' → Called l t n
unfolding type_named text
called {l} {t} {n} lt string row p q =
    record {
      below = lt;
      is = λ f h.
          ap (λ (x : List ℕ). place (same x) 0 (names_of f l)) (string.is f ∙ sym (row.is f ∙ rw (p, q) refl)) ∙ h.names_apart.first t (omega (arith, h.names-count));
    }

-- string n, of one byte, names the known type t, which has no entry in this block
pub record Knows (l : List ℕ) (n t : ℕ) : Type 0 where
  pub low : 0 < n
  pub byte : n < 128
  pub high : n ≤ strings_in l
  pub called : Called l t n
  pub first : any (entry_of? (block_in l) t) (log_of l) ≡ false

-- ── local start and count ──

abbrev pub behind : ℕ → ℕ → ℕ
behind at zero = at
behind at (suc up) = at + 1

pub behind-one : (at up : ℕ) → (up ≡ 0 → ⊥) → at + 1 ≡ behind at up
behind-one at zero ne = absurd (ne refl)
behind-one at (suc up) ne = refl

pub record StartByte (f : List ℕ) (at up n : ℕ) : Type 0 where
  pub inside : at ≤ length f → behind at up ≤ length f
  pub read : DueRead (given? (maybe up)) small 65536 f at (prelude.Ok (n, record { at = behind at up }))

pub start_none : (f : List ℕ) (at up : ℕ) → up ≡ 0 → StartByte f at up 0
start_none f at up e = rw e (record { inside = λ lo. lo; read = due-none (given-none 0 refl) (omega arith) refl })

pub start-there : (f : List ℕ) (at up n : ℕ) → (up ≡ 0 → ⊥) → n < 128 → OneByte f at n → StartByte f at up n
start-there f at zero n ne lt b = absurd (ne refl)
start-there f at (suc up) n ne lt b = record { inside = λ lo. omega (arith, b.there); read = due-read (given-up (suc up) ne) (small-got b.read refl (omega arith)) }

pub record CountByte (f l : List ℕ) (at up start n : ℕ) : Type 0 where
  pub there : at < length f
  pub read : Read (number (count_rules (view f l) (maybe up) start)) 65536 f at (prelude.Ok (n, record { at = at + 1 }))

pub count-there :
    {f l : List ℕ} {at n : ℕ} (up start : ℕ) → Holds f l → OneByte f at n
    → ((f : List ℕ) → few_objects? (view f l) (maybe up) n ≡ true) → ((f : List ℕ) → in_range? (view f l) (maybe up) start n ≡ true) → CountByte f l at up start n
count-there {f} {l} {at} {n} up start h b few range =
    let J : CountJudged l up start n at (at + 1) (prelude.Ok (n, record { at = at + 1 })) = count-in up start few refl range in
    record { there = b.there; read = number-judged b.read (count_rules (view f l) (maybe up) start) refl (J.judged f h) J.below }

-- ── the head ──

abbrev pub known_top : ℕ → ℕ → ℕ → ℕ → ℕ → Top
known_top n t up start count =
    record { name = record { number = n; typ = t; fresh = false }; above = record { number = 0; up = up }; start = start; count = count }

-- its range
pub known-range : (l : List ℕ) (h : Top) (base : ℕ) {b before : ℕ} → b ≡ block_in l → before ≡ total (before? b base) size (log_of l) → range_in (record { typ = h.name.typ; block = b; start = h.start; first = before + h.start; count = h.count }) ≡ range_for l h base
known-range l h base is sum = rw (is, rw is at sum) refl

-- it was read as h and entered, and the table l became l'; the place behind it is r
pub record Knew (f l l' : List ℕ) (at r : ℕ) (h : Top) : Type 0 where
  pub there : at < length f
  pub number : h.name.number ≡ get_or f at 0
  pub fresh : h.name.fresh ≡ false
  pub above : h.above.number ≡ 0
  pub up : maybe h.above.up ≡ (type_in (types_of l) h.name.typ).super
  pub top : TopEntered f l l' at (prelude.Ok (h, record { at = r }))

-- where the place is 0 nothing was done
pub record HeadKnown (f l l' : List ℕ) (at r : ℕ) : Type 0 where
  pub none : r ≡ 0 → l' ≡ l
  pub some : (r ≡ 0 → ⊥) → (h : Top) × Knew f l l' at r h

module _ {f l : List ℕ} (h : Holds f l) {at n t up start count next : ℕ} (name : OneByte f at n) (k : Knows l n t) (ups : maybe up ≡ (type_in (types_of l) t).super) (st : StartByte f (at + 1) up start) (here : next ≡ behind (at + 1) up) (co : CountByte f l next up start count) where
  abbrev x : Name
  x = record { number = n; typ = t; fresh = false }

  a-string : a_string? (view f l) n ≡ true
  unfolding a_string?
  a-string = rw (le-leb 1 n k.low, le-leb n (length (strs_of f l)) (omega (arith, k.high, h.strs-count)))

  name-is : NameRead (view f l) f at (prelude.Ok (x, record { at = at + 1 }))
  name-is =
      let P : NamePlaced l n (some t) at (at + 1) (prelude.Ok (x, record { at = at + 1 })) = placed-known h.ok {o = Some t} refl (sym k.first) refl k.called.below refl in
      let K : Known f l n (Some t) = record { is = k.called.is f h; below = k.called.below } in
      name-read (view f l) name.read refl (name-placed h a-string K P)

  above-is : AboveRead (view f l) x f (at + 1) (prelude.Ok (record { number = 0; up = up }, record { at = at + 1 }))
  above-is = above-old name-is.told refl refl ups

  start_is : DueRead (given? (maybe up)) small 65536 f (at + 1) (prelude.Ok (start, record { at = next }))
  start_is = rw here st.read

  pub known_read : TopRead (view f l) f at (prelude.Ok (known_top n t up start count, record { at = next + 1 }))
  known_read =
      let R : DueRead false restrictions 1 f (next + 1) (prelude.Ok (0, record { at = next + 1 })) = due-none refl (omega arith) refl in
      top-got name-is refl above-is refl start_is refl co.read refl R refl

  pub known-placed : Placed (view f l) (known_top n t up start count)
  known-placed = known_read.told

  pub known-entered : {l' : List ℕ} → Entered f l l' (known_top n t up start count) → HeadKnown f l l' at (next + 1)
  known-entered e =
      record {
        none = λ z. absurd (omega (arith, z));
        some = λ z. (
          known_top n t up start count,
          record { there = name.there; number = name.is; fresh = refl; above = refl; up = ups; top = record { says = known_read.says; inside = known_read.inside; left = e } },
        );
      }

pub known-not : {f l : List ℕ} {at r : ℕ} → r ≡ 0 → HeadKnown f l l at r
known-not is = record { none = λ z. refl; some = λ ne. absurd (ne is) }

-- ── its range is the last of the log ──

module _ {f l l' : List ℕ} {h : Top} (e : Entered f l l' h) where
  log_is : log_of l' ≡ log_of l ++ new_range (view f l) (head_of h) ∷ []
  unfolding add_head after_head
  log_is = ap (λ (g : Said). g.state.log) e.now.says

  one_more : ranges_in l' ≡ length (log_of l) + 1
  one_more = sym e.now.holds.ok.log-count ∙ ap length log_is ∙ length-append (log_of l) (new_range (view f l) (head_of h) ∷ [])

  pub some-range : 0 < ranges_in l'
  some-range = omega (arith, one_more)

  module _ {r : RangeRow} (is : range_in r ≡ get_or (log_of l') (ranges_in l' - 1) no_range) where
    last-is : range_in r ≡ new_range (view f l) (head_of h)
    last-is =
        let back : ranges_in l' - 1 ≡ length (log_of l) = omega (arith, one_more) in
        is ∙ rw (back, log_is) (get_or-append_seam (log_of l) (new_range (view f l) (head_of h)) [] no_range)

    pub last-typ : r.typ ≡ h.name.typ
    unfolding new_range
    last-typ = ap (λ (x : Range). x.type) last-is ∙ sym e.placed.name.typ

    pub last-count : r.count ≡ h.count
    unfolding new_range
    last-count = ap (λ (x : Range). x.count) last-is

    pub last-start : r.start ≡ h.start
    unfolding new_range
    last-start = ap (λ (x : Range). x.start) last-is ∙ or-due (given? (maybe h.above.up)) h.start (λ g. e.placed.none (no-up h.above.up g))

-- ── the head again, from the file and the table that it was entered in ──

pub record LastTop (f : List ℕ) (at : ℕ) (l : List ℕ) (h : Top) : Type 0 where
  pub number : h.name.number ≡ get_or f at 0
  pub fresh : h.name.fresh ≡ false
  pub above : h.above.number ≡ 0
  pub up : maybe h.above.up ≡ (type_in (types_of l) h.name.typ).super
  pub row : RangeRow
  pub last : range_in row ≡ get_or (log_of l) (ranges_in l - 1) no_range
  pub typ : h.name.typ ≡ row.typ
  pub start : h.start ≡ row.start
  pub count : h.count ≡ row.count

one_up : (a b : ℕ) → maybe a ≡ maybe b → a ≡ b
one_up zero zero e = refl
one_up zero (suc b) e = differ (cc e)
one_up (suc a) zero e = differ (cc e)
one_up (suc a) (suc b) e = let z : a ≡ b = cc e in ap suc z

abbrev top_of : ℕ → ℕ → Bool → ℕ → ℕ → ℕ → ℕ → Top
top_of n t new m up start count =
    record { name = record { number = n; typ = t; fresh = new }; above = record { number = m; up = up }; start = start; count = count }

module _ {f l l' : List ℕ} {at r : ℕ} {h : Top} (k : Knew f l l' at r h) where
  -- no type came to those that are known
  types-kept : types_of l' ≡ types_of l
  unfolding add_head after_head new_type when◌then◌else◌
  types-kept =
      let old : new? (view f l) h.name.number ≡ false = sym k.top.left.placed.name.fresh ∙ k.fresh in
      ap (λ (g : Said). g.state.types) k.top.left.now.says ∙ rw old (append-nil (types_of l))

  pub again : {t : Top} → LastTop f at l' t → TopEntered f l l' at (prelude.Ok (t, record { at = r }))
  again {t} a =
      let e = k.top.left in
      let typ-is : t.name.typ ≡ h.name.typ = a.typ ∙ last-typ e a.last in
      let start_is : t.start ≡ h.start = a.start ∙ last-start e a.last in
      let count-is : t.count ≡ h.count = a.count ∙ last-count e a.last in
      let number_is : t.name.number ≡ h.name.number = a.number ∙ sym k.number in
      let fresh-is : t.name.fresh ≡ h.name.fresh = a.fresh ∙ sym k.fresh in
      let above-is : t.above.number ≡ h.above.number = a.above ∙ sym k.above in
      let up_is : t.above.up ≡ h.above.up = one_up _ _ (a.up ∙ rw (types-kept, typ-is) (sym k.up)) in
      let is : top_of t.name.number t.name.typ t.name.fresh t.above.number t.above.up t.start t.count ≡ top_of h.name.number h.name.typ h.name.fresh h.above.number h.above.up h.start h.count =
      rw (number_is, typ-is, fresh-is, above-is, up_is, start_is, count-is) refl in
      subst (λ (x : Top). TopEntered f l l' at (prelude.Ok (x, record { at = r }))) (sym is) k.top

-- what was known of the table before holds of it where nothing was done
module _ {f l l' : List ℕ} {at r : ℕ} (k : HeadKnown f l l' at r) where
  pub known-before : r ≡ 0 → Holds f l → Sound (said f l) → Holds f l' × Sound (said f l')
  known-before is h s = rw (k.none is) (h, s)

  pub known-again : r ≡ 0 → {a : Outcome Top} {l'' : List ℕ} → TopEntered f l' l'' at a → TopEntered f l l'' at a
  known-again is {a} {l''} e = subst (λ (x : List ℕ). TopEntered f x l'' at a) (k.none is) e

  module _ (ne : r ≡ 0 → ⊥) where
    pub known-there : (Ok l' × (0 < ranges_in l')) × (at < length f)
    known-there = let (h, w) = k.some ne in ((w.top.left.now.holds.ok, some-range w.top.left), w.there)

    pub known-topped : {t : Top} → LastTop f at l' t → TopEntered f l l' at (prelude.Ok (t, record { at = r }))
    known-topped a = let (h, w) = k.some ne in again w a

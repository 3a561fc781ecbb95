-- A head enters the table, on plain values. Assumes nothing.
use Rattle.std.specs.Prelude as prelude
use Rattle.std.specs.Prelude.{◌≡◌, Bool, not, ℕ, zero, suc, ◌+◌, ◌-◌, ◌≤◌, ◌<◌, get_or}
use Rattle.std.proofs.Math.Path.{refl, ap}
use Rattle.std.proofs.Common.{sym, ◌∙◌, subst, arith}
use Rattle.std.proofs.Math.Bool.{true, false}
use mathlib.Core.List.{List, [], ◌∷◌, ◌++◌, append-nil}
use Rattle.std.proofs.Math.Option.{Option, none, some}
use Rattle.std.proofs.Math.ListN.{length, length-append}
use Rattle.paper.specs.Reader.{when◌then◌else◌}
use Rattle.paper.specs.Lists.{same, place, given?, or}
use Rattle.paper.specs.Ledger.{State, Head, Range, Typ, type_named, type_in, text, pool_before}
use Rattle.paper.specs.Rules.{entered?, new?, type_of, super_of, base_under, base_of, new_name, new_type, new_range, after_head}
use Rattle.numbers.specs.declared.Cursor.{Cursor}
use Rattle.numbers.specs.declared.Refusal.{Refusal}
use Rattle.table.specs.View.{view, Said, said, maybe, types_of, strs_of, names_of, sum_of, tally, Ok, Holds, Now, Memo, ranges_in}
use Rattle.table.specs.Adds.{add_type, add_range}
use Rattle.table.specs.Answers.{Stands, range_in, Small}
use Rattle.table.specs.Packed.{range_cells}
use Rattle.table.specs.Pushes.{Pushed}
use Rattle.table.specs.ViewLaws.{pushed-type, pushed-range}
use Rattle.table.specs.ApartLaws.{same_self, place-last}
use Rattle.table.specs.Memos.{memo-yes}
use Rattle.table.specs.Notes.{NoteTaken}
use Rattle.table.specs.declared.rows.RangeRow.{RangeRow}
use Rattle.reader.specs.declared.heads.Name.{Name}
use Rattle.reader.specs.declared.heads.Top.{Top}
use Rattle.reader.specs.Sound.{Sound, Headed, Open, log-room, entered-new, opened}
use Rattle.reader.specs.Going.{Going, go_head}
use Rattle.reader.specs.Heads.{Placed, head_of, TopRead, add_head, range_for, Declares, add_new, TypeEntered, Entered, TopEntered}
use Rattle.reader.specs.HeadLaws.{differ, named-below}
use Rattle.reader.specs.TopLaws.{or-due}
use Rattle.numbers.specs.Cursors.{Outcome}

-- ── the base type of a pool ──

pub base-none : (ts : List Typ) (t up : ℕ) → up ≡ 0 → t ≡ base_under ts t (maybe up)
unfolding base_under
base-none ts t up e = rw e refl

pub base-some : (ts : List Typ) (t up : ℕ) → (up ≡ 0 → ⊥) → (type_in ts (up - 1)).base ≡ base_under ts t (maybe up)
unfolding base_under
base-some ts t zero ne = absurd (ne refl)
base-some ts t (suc u) ne = let z : suc u - 1 ≡ u = omega arith in rw z refl

-- ── a new type ──

module _ {f l : List ℕ} (h : Holds f l) {x : Name} (up base : ℕ) where
  pub type-known : x.fresh ≡ false → TypeEntered f x up base l l
  type-known e = record { ranges = refl; says = λ none_has. record { holds = h; says = rw e refl } }

  pub type-new :
      {a b sum : ℕ} {l' : List ℕ} → Declares l x → x.fresh ≡ true → Stands strs_of l (x.number - 1) a b → sum ≡ sum_of (get_or (strs_of f l) (x.number - 1) [])
      → Pushed 1 2064 5 (a ∷ b ∷ up ∷ base ∷ sum ∷ []) l l' → TypeEntered f x up base l l'
  unfolding text type_named
  type-new {a} {b} {sum} declares e row sums pushed =
      record {
        ranges = omega (arith, pushed.ranges);
        says = λ none_has.
            rw (e, row.is f)
            (pushed-type h (record { start = a; end = b; sup = up; base = base; sum = sum }) (declares.room e) (row.within f h) (sums ∙ ap sum_of (row.is f))
            (ap (λ (name : List ℕ). place (same name) 0 (names_of f l)) (sym (row.is f)) ∙ none_has e)
            pushed.push);
      }

-- ── what a head makes of all that the table says: perhaps a type, and a range ──

head-added :
    (g : Said) (h : Head)
    → add_head g h ≡ add_range (add_new (new? g.state h.name) g (text g.state h.name) (record { super = super_of g.state h.name h.super; base = base_of g.state h })) (new_range g.state h)
unfolding add_head after_head new_name new_type add_type add_range when◌then◌else◌
head-added g h = go (new? g.state h.name) refl
  where
    go : (b : Bool) → new? g.state h.name ≡ b → add_head g h ≡ add_range (add_new (new? g.state h.name) g (text g.state h.name) (record { super = super_of g.state h.name h.super; base = base_of g.state h })) (new_range g.state h)
    go true e = rw e refl
    go false e = rw (e, append-nil g.state.type_names, append-nil g.state.types) refl

-- the same, of what goes on while entries are read
pub head-going : (g : Going) (h : Head) → go_head g h ≡ record { said = add_head g.said h; end = g.end }
unfolding go_head add_head
head-going g h = refl

-- ── the type's place ──

unknown : (s : State) (n : ℕ) → new? s n ≡ true → type_of s n ≡ length s.type_names
unfolding new? type_of given? or
unknown s n e = go (type_named s (text s n)) e
  where
    go : (o : Option ℕ) → not (given? o) ≡ true → or o (length s.type_names) ≡ length s.type_names
    go none w = refl
    go (some u) w = differ (cc w)

no-type : (s : State) (n : ℕ) → new? s n ≡ true → type_named s (text s n) ≡ none
unfolding new? given?
no-type s n e = go (type_named s (text s n)) e
  where
    go : (o : Option ℕ) → not (given? o) ≡ true → o ≡ none
    go none w = refl
    go (some u) w = differ (cc w)

known-below : (s : State) (n : ℕ) → new? s n ≡ false → type_of s n < length s.type_names
unfolding new? type_of given? or
known-below s n e = go (type_named s (text s n)) refl e
  where
    go : (o : Option ℕ) → type_named s (text s n) ≡ o → not (given? o) ≡ false → or o (length s.type_names) < length s.type_names
    go none is w = differ (cc w)
    go (some u) is w = named-below s (text s n) u is

known_at : (s : State) (n : ℕ) → new? s n ≡ false → type_named s (text s n) ≡ some (type_of s n)
unfolding new? type_of given? or
known_at s n e = go (type_named s (text s n)) e
  where
    go : (o : Option ℕ) → not (given? o) ≡ false → o ≡ some (or o (length s.type_names))
    go none w = differ (cc w)
    go (some u) w = refl

-- once the type is entered, its string names it
named-entered : (g : Said) (n t : ℕ) (ty : Typ) (b : Bool) → new? g.state n ≡ b → t ≡ type_of g.state n → type_named (add_new b g (text g.state n) ty).state (text (add_new b g (text g.state n) ty).state n) ≡ some t
unfolding add_type text type_named
named-entered g n t ty false e is = known_at g.state n e ∙ ap some (sym is)
named-entered g n t ty true e is =
    let x = text g.state n in
    let last : 0 + length g.state.type_names ≡ t = omega (arith, unknown g.state n e) in
    place-last (same x) 0 g.state.type_names x (no-type g.state n e) (same_self x) ∙ ap some last

same-strings : (b : Bool) (g : Said) (name : List ℕ) (ty : Typ) → (add_new b g name ty).state.strings ≡ g.state.strings
unfolding add_type
same-strings false g name ty = refl
same-strings true g name ty = refl

-- ── a head that was read finds room, and its type is open afterwards ──

module _ {g : Said} (k : Sound g) {t : Top} (p : Placed g.state t) where
  not_entered : entered? g.state t.name.typ ≡ false
  not_entered = go t.name.fresh refl
    where
      go : (b : Bool) → t.name.fresh ≡ b → entered? g.state t.name.typ ≡ false
      go false e = p.name.first e
      go true e = rw (p.name.typ ∙ unknown g.state t.name.number (sym p.name.fresh ∙ e)) (entered-new k)

  nameless : t.name.fresh ≡ true → type_named g.state (text g.state t.name.number) ≡ none
  nameless e = no-type g.state t.name.number (sym p.name.fresh ∙ e)

  pub head-room : length g.state.log < 1024
  head-room = log-room k t.name.typ p.name.few not_entered

  abbrev names : ℕ
  names = length g.state.type_names + length (new_name g.state (head_of t))

  fits : (type_of g.state t.name.number < names) × (names ≤ 32)
  unfolding new_name when◌then◌else◌
  fits = go (new? g.state t.name.number) refl
    where
      go : (b : Bool) → new? g.state t.name.number ≡ b → (type_of g.state t.name.number < names) × (names ≤ 32)
      go true e = rw e (omega (arith, unknown g.state t.name.number e), omega (arith, p.name.room (p.name.fresh ∙ e)))
      go false e = rw e (omega (arith, known-below g.state t.name.number e), omega (arith, k.names))

  headed : Headed g.state (after_head g.state (head_of t)) (new_range g.state (head_of t))
  unfolding after_head new_range
  headed =
      let many : length (g.state.type_names ++ new_name g.state (head_of t)) ≡ names = length-append g.state.type_names (new_name g.state (head_of t)) in
      record {
        log = refl;
        block = refl;
        fields = refl;
        mine = refl;
        more = omega arith;
        few = omega (arith, fits.1);
        known = omega (arith, fits.0);
      }

  pub head-opens : {g' : Said} → g' ≡ add_head g (head_of t) → Open g' t.name.typ 0
  unfolding add_head new_range
  head-opens is =
      rw (is, p.name.typ) (opened {g = g} {g' = add_head g (head_of t)} k headed refl refl (subst (λ (u : ℕ). entered? g.state u ≡ false) p.name.typ not_entered))

pub no-up : (up : ℕ) → given? (maybe up) ≡ false → up ≡ 0
unfolding given?
no-up zero e = refl
no-up (suc u) e = differ (cc e)

-- ── the steps of `enter_top` ──

module _ {f l : List ℕ} (h : Holds f l) {t : Top} (placed : Placed (view f l) t) where
  pub declares : Declares l t.name
  declares =
      record {
        low = placed.name.low;
        high = omega (arith, placed.name.high, h.strs-count);
        room = λ w. omega (arith, placed.name.room w, h.names-count);
      }

  -- that string's number names the type is noted
  module _ (k : Sound (said f l)) {up base : ℕ} {l₁ : List ℕ} (typed : TypeEntered f t.name up base l l₁) where
    then-says : Now f l₁ (add_new t.name.fresh (said f l) (text (view f l) t.name.number) (record { super = maybe up; base = base }))
    then-says = typed.says (nameless k placed)

    pub note-fits : Ok l₁ × ((t.name.number - 1 < get_or l₁ 0 0) × (33 + t.name.typ ≤ 64))
    note-fits =
        let many = ap (λ (g : Said). length g.state.strings) then-says.says ∙ ap length (same-strings t.name.fresh (said f l) (text (view f l) t.name.number) (record { super = maybe up; base = base })) in
        (then-says.holds.ok, (omega (arith, then-says.holds.strs-count, many, placed.name.low, placed.name.high), omega (arith, placed.name.few)))

    its-memo : Memo (names_of f l₁) (get_or (strs_of f l₁) (t.name.number - 1) []) (33 + t.name.typ)
    unfolding text type_named
    its-memo =
        memo-yes (names_of f l₁) (get_or (strs_of f l₁) (t.name.number - 1) [])
        (ap (λ (g : Said). type_named g.state (text g.state t.name.number)) then-says.says
        ∙ named-entered (said f l) t.name.number t.name.typ (record { super = maybe up; base = base }) t.name.fresh (sym placed.name.fresh) placed.name.typ)

    pub type-noted : {l₂ : List ℕ} → NoteTaken (t.name.number - 1) (33 + t.name.typ) l₁ l₂ → TypeEntered f t.name up base l l₂
    type-noted N =
        record {
          ranges = N.counts 3 (omega arith) ∙ typed.ranges;
          says = λ none_has.
              let now = typed.says none_has in
              let kept = N.says f now.holds its-memo in
              record { holds = kept.holds; says = kept.says ∙ now.says };
        }

  module _ (k : Sound (said f l)) {base : ℕ} (isb : base ≡ base_under (types_of l) t.name.typ (maybe t.above.up)) {r : RangeRow} (isr : range_in r ≡ range_for l t base) {l₁ : List ℕ} (typed : TypeEntered f t.name t.above.up base l l₁) where
    pub range-fits : Ok l₁ × ((ranges_in l₁ < 1024) × Small r)
    range-fits =
        let small : Small r =
        record {
          typ-fits = omega (arith, ap (λ (x : Range). x.type) isr, placed.name.few);
          block-fits = omega (arith, ap (λ (x : Range). x.block) isr, k.block);
          start_fits = omega (arith, ap (λ (x : Range). x.start) isr, placed.start);
          count_fits = omega (arith, ap (λ (x : Range). x.count) isr, placed.count);
        } in
        ((typed.says (nameless k placed)).holds.ok, (omega (arith, typed.ranges, head-room k placed, h.ok.log-count), small))

    base-is : base_of (view f l) (head_of t) ≡ base
    unfolding base_of
    base-is = rw (← placed.name.typ, ← placed.up) (sym isb)

    range-is : new_range (view f l) (head_of t) ≡ range_in r
    unfolding new_range pool_before
    range-is =
        rw (or-due (given? (maybe t.above.up)) t.start (λ g. placed.none (no-up t.above.up g)), base-is, ← placed.name.typ) (sym isr)

    pub entered : {l' : List ℕ} → Pushed 3 4272 3 (range_cells r (tally l₁ r.typ 4)) l₁ l' → Entered f l l' t
    entered pushed =
        let room = range-fits in
        let first = typed.says (nameless k placed) in
        let second = pushed-range first.holds r (tally l₁ r.typ 4) room.1.0 room.1.1 pushed.push in
        let now : said f _ ≡ add_head (said f l) (head_of t) =
        second.says ∙ ap (λ (g : Said). add_range g (range_in r)) first.says
        ∙ sym (head-added (said f l) (head_of t) ∙ rw (← placed.name.fresh, ← placed.up, base-is, range-is) refl) in
        record { placed = placed; now = record { holds = second.holds; says = now }; opens = head-opens k placed now }

-- ── the ways out of `enter_head` ──

module _ {f l : List ℕ} (h : Holds f l) {at : ℕ} {a : Outcome Top} (read : TopRead (view f l) f at a) where
  pub entered-no : {e : Refusal} → a ≡ prelude.Err e → TopEntered f l l at (prelude.Err e)
  entered-no is = let R = rw is at read in record { says = R.says; inside = R.inside; left = h }

  module _ {t : Top} {c : Cursor} (is : a ≡ prelude.Ok (t, c)) where
    top_read : TopRead (view f l) f at (prelude.Ok (t, c))
    top_read = rw is at read

    pub top_placed : Placed (view f l) t
    top_placed = top_read.told

    pub entered-top : {l' : List ℕ} → Entered f l l' t → TopEntered f l l' at (prelude.Ok (t, c))
    entered-top entry = record { says = top_read.says; inside = top_read.inside; left = entry }

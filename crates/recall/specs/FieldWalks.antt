-- A field of a type by its name, and its kind, looked up on a walk. Assumes nothing.
use Rattle.std.specs.Prelude as prelude
use Rattle.std.specs.Prelude.{Some, None, ◌≡◌, refl, Bool, true, false, ℕ, suc, ◌+◌, ◌-◌, ◌≤◌, ◌<◌, eqb}
use Rattle.std.proofs.Math.Path.{sym, ap, subst}
use Rattle.std.proofs.Common.{◌∙◌, arith, eqb-true}
use mathlib.Core.List.{List, [], ◌∷◌, ◌++◌, map, map-append}
use Rattle.std.proofs.Math.Option.{Option, none, some}
use Rattle.std.proofs.Math.ListN.{length, get_or, length-map}
use Rattle.std.proofs.lemmas.Bool.{eqb-false}
use Rattle.paper.specs.Reader.{when◌then◌else◌, got, times}
use Rattle.paper.specs.Lists.{same, place, place_named, places, or, fold}
use Rattle.paper.specs.Ledger.{New, Head, Entry, Field, State, nothing, field_at, fields_of, field_named}
use Rattle.paper.specs.Rules.{any_type, with_strings, type_of, after_head, after_entry}
use Rattle.paper.specs.File.{Upto, new_field, upto_new, what}
use Rattle.laws.specs.Columns.{Grows, grows-refl, entry-grows, field-stays, place-lt}
use Rattle.reader.specs.Kinds.{kind_in}
use Rattle.reader.specs.declared.kinds.Kind.{Kind as KindRow}
use Rattle.trail.specs.Rows.{RowKept}
use Rattle.trail.specs.declared.past.Behind.{Behind}
use Rattle.trail.specs.declared.past.NewField.{NewField}
use Rattle.trail.specs.declared.trail.Trail.{Trail}
use Rattle.trail.specs.declared.trail.Fields.{Fields}
use Rattle.trail.specs.Told.{Told, NewTold, last_end, end_of}
use Rattle.trail.specs.Entries.{FieldsPast}
use Rattle.trail.specs.Stages.{Stage, begin, numbered, onward, StepPast, Begins, At, opens-parts, enters-parts, onward-block, onward-entry}
use Rattle.recall.specs.Reached.{Reached, reached-at}
use Rattle.recall.specs.Kept.{bounds}
use Rattle.recall.specs.Walks.{Going, Keeps, Lasting, go-start, go_on, go-done, go-as, go-last, into_block, Over, over-entry}
use Rattle.recall.specs.FieldLaws.{Paired, name_of, entry_named, entry-unnamed, entry-own, entry-same, entry_place, entry-kind, own-stays}
use Rattle.recall.specs.Among.{goes_by, Among, times-at}

-- ── what is answered ──

-- the own-th field of the type has the name
pub record OwnNamed (typ : ℕ) (name : List ℕ) (own : ℕ) (s : State) : Type 0 where
  pub there : own < length (fields_of s typ)
  pub is : field_named s typ name ≡ some (get_or (fields_of s typ) own 0)

pub record FieldFound (s : State) (typ : ℕ) (name : List ℕ) (r : prelude.Option ℕ) : Type 0 where
  pub nothing : r ≡ None → field_named s typ name ≡ none
  pub at : (own : ℕ) → r ≡ Some own → OwnNamed typ name own s

-- the kind of the own-th field of the type, if there is one
pub record KindTold (typ own : ℕ) (r : KindRow) (s : State) : Type 0 where
  pub is : own < length (fields_of s typ) → kind_in r ≡ (field_at s (get_or (fields_of s typ) own 0)).kind

-- while nothing was found
pub record Lacking (typ : ℕ) (name : List ℕ) (s : State) : Type 0 where
  pub none_yet : field_named s typ name ≡ none

-- what one step adds
pub record FoundIn (f : List ℕ) (t : Trail) (typ : ℕ) (name : List ℕ) (r : prelude.Option ℕ) : Type 0 where
  pub keeps : Keeps f t (λ g. Lacking typ name g.state) (λ g. FieldFound g.state typ name r)

-- a row that stands whatever the file is: that of a kind which is listed
abbrev pub RowStands : KindRow → Type 0
RowStands r = (r.first ≤ 32) × RowKept r

pub record KindIn (f : List ℕ) (t : Trail) (typ own : ℕ) (before r : KindRow) : Type 0 where
  pub row : RowStands before → RowStands r
  pub keeps : Keeps f t (λ g. KindTold typ own before g.state) (λ g. KindTold typ own r g.state)

-- what a walk of so many steps answers
pub record FieldSought (f : List ℕ) (k typ : ℕ) (name : List ℕ) (r : prelude.Option ℕ) : Type 0 where
  pub told : (g : Stage) → Reached f k g → FieldFound g.state typ name r

pub record KindSought (f : List ℕ) (k typ own : ℕ) (r : KindRow) : Type 0 where
  pub row : r.first ≤ 32
  pub kept : RowKept r
  pub told : (g : Stage) → Reached f k g → own < length (fields_of g.state typ) → kind_in r ≡ (field_at g.state (get_or (fields_of g.state typ) own 0)).kind

not_found : {A : Type 0} {own : ℕ} → ◌≡◌ {A = prelude.Option ℕ} None (Some own) → A
not_found h = let z : ◌≡◌ {A = ℕ} 0 1 = cc h in absurd (omega arith)

none_found : {s : State} {typ : ℕ} {name : List ℕ} → field_named s typ name ≡ none → FieldFound s typ name None
none_found h = record { nothing = λ e. h; at = λ own e. not_found e }

one_found : {s : State} {typ : ℕ} {name : List ℕ} {own : ℕ} → OwnNamed typ name own s → FieldFound s typ name (Some own)
one_found {s} {typ} {name} {own} O = record { nothing = λ e. not_found (sym e); at = λ k e. let z : own ≡ k = cc e in subst (λ (n : ℕ). OwnNamed typ name n s) z O }

-- ── a step puts its fields behind those that are there ──

block-grows : (g : Stage) (strings : List (List ℕ)) → Grows g.state (with_strings (numbered g) strings)
unfolding with_strings numbered
block-grows g strings =
    let G = grows-refl g.state in
    record { strings = record { rest = strings; is = refl }; type_names = G.type_names; types = G.types; field_names = G.field_names; fields = G.fields; log = G.log }

pub step-grows : (g : Stage) (f : List ℕ) (at : ℕ) (h : Stage) (q : ℕ) → onward g f at ≡ got h q → Grows g.state h.state
step-grows g f at h q r = go (eqb g.left 0) refl
  where
    go : (b : Bool) → eqb g.left 0 ≡ b → Grows g.state h.state
    go true z =
        let O = opens-parts f g at h q (onward-block g f at (eqb-true g.left 0 z) ∙ r) in
        subst (λ (x : Stage). Grows g.state x.state) (sym O.is) (block-grows g O.strings)
    go false z =
        let (e, _, is) = enters-parts f g at h q (onward-entry g f at (eqb-false g.left 0 z) ∙ r) in
        subst (λ (x : Stage). Grows g.state x.state) (sym is) (entry-grows g.state e.0)

pub own-lasts : (f : List ℕ) (typ : ℕ) (name : List ℕ) (own : ℕ) → Lasting f (λ g. OwnNamed typ name own g.state)
own-lasts f typ name own =
    record {
      told = λ k g at reached h q r O.
          let G = step-grows g f at h q r in
          let S = own-stays G O.there in
          record { there = S.there; is = (field-stays g.state h.state typ name (get_or (fields_of g.state typ) own 0) G O.is).0 ∙ ap some (sym S.place) };
    }

paired : {f : List ℕ} {k : ℕ} {t : Trail} {g : Stage} → At f k t g → Paired g.state
paired A = sym (bounds (reached-at A)).field_names

-- ── into a block ──

still-lacks : {typ : ℕ} {name : List ℕ} (g : Stage) (strings : List (List ℕ)) → Lacking typ name g.state → FieldFound (with_strings (numbered g) strings) typ name None
unfolding with_strings numbered field_named
still-lacks g strings L = none_found L.none_yet

same_kind : {typ own : ℕ} {b : KindRow} (g : Stage) (strings : List (List ℕ)) → KindTold typ own b g.state → KindTold typ own b (with_strings (numbered g) strings)
unfolding with_strings numbered fields_of field_at
same_kind g strings T = record { is = T.is }

module _ {f : List ℕ} {t : Trail} (z : t.left ≡ 0) (typ : ℕ) where
  pub block-lacks : (name : List ℕ) → FoundIn f t typ name None
  block-lacks name =
      record { keeps = record { told = λ k g A h q r L. let O = into_block A z h q r in subst (λ (x : Stage). FieldFound x.state typ name None) (sym O.is) (still-lacks g O.strings L) } }

  pub block-kind : (own : ℕ) (b : KindRow) → KindIn f t typ own b b
  block-kind own b =
      record { row = λ le. le; keeps = record { told = λ k g A h q r T. let O = into_block A z h q r in subst (λ (x : Stage). KindTold typ own b x.state) (sym O.is) (same_kind g O.strings T) } }

-- ── over an entry ──

-- the entry that was read, by what was told of it
record Met (f : List ℕ) (s s₂ : State) (e : Fields) : Type 0 where
  top : Head
  news : List (New × ℕ)
  q : ℕ
  typ : e.top.typ ≡ type_of s top.name
  have : e.have ≡ length (fields_of s e.top.typ)
  more : e.more ≡ length (map what news)
  reads : times e.more (new_field any_type (type_of s top.name)) (upto_new (type_of s top.name)) (record { state = after_head s top; end = e.last }) f e.at ≡ got news q
  is : s₂ ≡ after_entry s (record { head = top; news = map what news })

met : {f : List ℕ} {t : Trail} {e : Fields} → FieldsPast f t e → {k : ℕ} {g h : Stage} {q : ℕ} → At f k t g → Over f t g h q → Met f g.state h.state e
met F {k} {g} {h} {q} A O =
    let P = O.parts in
    let M = F.told g.state A.tells.knows O.read q P in
    let e-is : O.read.0 ≡ record { head = P.top; news = map what P.parts.news } = ap (λ (x : Entry × List ℕ). x.0) P.is ∙ ap (λ (v : List New × List ℕ). record { head = P.top; news = v.0 }) P.parts.is in
    record {
      top = P.top;
      news = P.parts.news;
      q = q;
      typ = M.top.typ;
      have = M.have;
      more = M.more ∙ sym (length-map P.parts.news what);
      reads = M.news-read;
      is = ap (λ (x : Stage). x.state) O.is ∙ ap (after_entry g.state) e-is;
    }

-- ── a name among the new fields ──

moved : ℕ → Option ℕ → Option ℕ
moved m none = none
moved m (some j) = some (m + j)

place-from : {A B : Type 0} (p : B → Bool) (w : A → B) (m i : ℕ) (l : List A) → place p (m + i) (map w l) ≡ moved m (place (λ x. p (w x)) i l)
unfolding place moved when◌then◌else◌
place-from p w m i [] = refl
place-from {A} {B} p w m i (x ∷ l) =
    let z : suc (m + i) ≡ m + suc i = omega arith in
    go (p (w x)) (ap (λ (k : ℕ). place p k (map w l)) z ∙ place-from p w m (suc i) l)
  where
    go : (b : Bool) → place p (suc (m + i)) (map w l) ≡ moved m (place (λ x. p (w x)) (suc i) l) → (when b then some (m + i) else place p (suc (m + i)) (map w l)) ≡ moved m (when b then some i else place (λ x. p (w x)) (suc i) l)
    go true ih = refl
    go false ih = ih

or_some : (o : Option ℕ) {n i : ℕ} → i ≡ or o n → i < n → o ≡ some i
unfolding or
or_some none q lt = absurd (omega arith)
or_some (some j) q lt = ap some (sym q)

or-none : (o : Option ℕ) {n i : ℕ} → ((j : ℕ) → o ≡ some j → j < n) → i ≡ or o n → n ≤ i → o ≡ none
unfolding or
or-none none low q le = refl
or-none (some j) low q le = absurd (omega (arith, low j refl))

head-strings : (s : State) (h : Head) → (after_head s h).strings ≡ s.strings
unfolding after_head
head-strings s h = refl

module _ {f : List ℕ} {t : Trail} (nz : t.left ≡ 0 → ⊥) {e : Fields} (F : FieldsPast f t e) (typ : ℕ) where
  pub entry-lacks : (e.top.typ ≡ typ → ⊥) → (name : List ℕ) → FoundIn f t typ name None
  entry-lacks ne name =
      record {
        keeps = record {
          told = λ k g A h q r L.
              let M = met F A (over-entry A nz h q r) in
              let E : Entry = record { head = M.top; news = map what M.news } in
              subst (λ (x : State). FieldFound x typ name None) (sym M.is)
              (none_found (entry-unnamed g.state E (λ z. ne (M.typ ∙ z)) name (paired A) L.none_yet));
        };
      }

  module _ (is : e.top.typ ≡ typ) (name : List ℕ) {i : ℕ} (N : Among f t e.at e.more name i) where
    -- the first new field that has the name
    sought : {k : ℕ} {g : Stage} → At f k t g → {s₂ : State} (M : Met f g.state s₂ e) → i ≡ or (place (goes_by g.state name) 0 M.news) e.more
    sought {g = g} A M = N.is g.state A.tells.knows (type_of g.state M.top.name) (record { state = after_head g.state M.top; end = e.last }) (head-strings g.state M.top) M.news M.q M.reads

    here : {s s₂ : State} (M : Met f s s₂ e) → Paired s → Lacking typ name s → field_named (after_entry s (record { head = M.top; news = map what M.news })) typ name ≡ moved (length s.fields) (place (goes_by s name) 0 M.news)
    here {s} M P L =
        let z : length s.fields ≡ length s.fields + 0 = omega arith in
        entry_named s (record { head = M.top; news = map what M.news }) (sym M.typ ∙ is) name P L.none_yet
        ∙ ap (λ (k : ℕ). place (λ g. same name (name_of s g)) k (map what M.news)) z ∙ place-from (λ g. same name (name_of s g)) what (length s.fields) 0 M.news

    pub entry-finds : i < e.more → FoundIn f t typ name (Some (e.have + i))
    unfolding moved
    entry-finds lt =
        record {
          keeps = record {
            told = λ k g A h q r L.
                let s = g.state in
                let M = met F A (over-entry A nz h q r) in
                let E : Entry = record { head = M.top; news = map what M.news } in
                let own : type_of s M.top.name ≡ typ = sym M.typ ∙ is in
                let have : e.have ≡ length (fields_of s typ) = M.have ∙ ap (λ (k : ℕ). length (fields_of s k)) is in
                let at : place (goes_by s name) 0 M.news ≡ some i = or_some (place (goes_by s name) 0 M.news) (sought A M) lt in
                let stands : get_or (fields_of (after_entry s E) typ) (e.have + i) 0 ≡ length s.fields + i = ap (λ (k : ℕ). get_or (fields_of (after_entry s E) typ) (k + i) 0) have ∙ entry_place s E own i (omega (arith, M.more)) in
                let named : field_named (after_entry s E) typ name ≡ some (length s.fields + i) = here M (paired A) L ∙ ap (moved (length s.fields)) at in
                subst (λ (x : State). FieldFound x typ name (Some (e.have + i))) (sym M.is)
                (one_found (record { there = omega (arith, entry-own s E own, M.more, have); is = named ∙ ap some (sym stands) }));
          };
        }

    pub entry-misses : e.more ≤ i → FoundIn f t typ name None
    unfolding moved
    entry-misses le =
        record {
          keeps = record {
            told = λ k g A h q r L.
                let s = g.state in
                let M = met F A (over-entry A nz h q r) in
                let E : Entry = record { head = M.top; news = map what M.news } in
                let many = length-map M.news what in
                let low : (j : ℕ) → place (goes_by s name) 0 M.news ≡ some j → j < e.more = λ j is. omega (arith, place-lt (goes_by s name) 0 j M.news is, M.more) in
                let at : place (goes_by s name) 0 M.news ≡ none = or-none (place (goes_by s name) 0 M.news) low (sought A M) le in
                subst (λ (x : State). FieldFound x typ name None) (sym M.is)
                (none_found (here M (paired A) L ∙ ap (moved (length s.fields)) at));
          };
        }

  -- ── the kind ──

  kind-stays : {own : ℕ} {b : KindRow} {s u : State} → Grows s u → (own < length (fields_of u typ) → own < length (fields_of s typ)) → KindTold typ own b s → KindTold typ own b u
  kind-stays G old T = record { is = λ lt. T.is (old lt) ∙ ap (λ (d : Field). d.kind) (sym (own-stays G (old lt)).field) }

  kept : (own : ℕ) (b : KindRow) → ((s s₂ : State) (M : Met f s s₂ e) → own < length (fields_of (after_entry s (record { head = M.top; news = map what M.news })) typ) → own < length (fields_of s typ)) → KindIn f t typ own b b
  kept own b old =
      record {
        row = λ le. le;
        keeps = record {
          told = λ k g A h q r T.
              let M = met F A (over-entry A nz h q r) in
              subst (KindTold typ own b) (sym M.is) (kind-stays (entry-grows g.state (record { head = M.top; news = map what M.news })) (old g.state h.state M) T);
        };
      }

  pub kind-else : (e.top.typ ≡ typ → ⊥) → (own : ℕ) (b : KindRow) → KindIn f t typ own b b
  kind-else ne own b =
      kept own b
      (λ s s₂ M lt.
      let same = entry-same s (record { head = M.top; news = map what M.news }) {t = typ} (λ z. ne (M.typ ∙ z)) in
      rw same at lt)

  module _ (is : e.top.typ ≡ typ) (own : ℕ) where
    own-have : {s s₂ : State} → Met f s s₂ e → e.have ≡ length (fields_of s typ)
    own-have {s} M = M.have ∙ ap (λ (k : ℕ). length (fields_of s k)) is

    own-more : {s s₂ : State} (M : Met f s s₂ e) → length (fields_of (after_entry s (record { head = M.top; news = map what M.news })) typ) ≡ e.have + e.more
    own-more {s} M = omega (arith, entry-own s (record { head = M.top; news = map what M.news }) {t = typ} (sym M.typ ∙ is), own-have M, M.more)

    pub kind-old : own < e.have → (b : KindRow) → KindIn f t typ own b b
    kind-old old b = kept own b (λ s s₂ M lt. omega (arith, own-have M))

    pub kind-later : e.have + e.more ≤ own → (b : KindRow) → KindIn f t typ own b b
    kind-later over b = kept own b (λ s s₂ M lt. absurd (omega (arith, own-more M)))

    -- of the new ones the one that is so far behind the others
    module _ {k : ℕ} (at : own ≡ e.have + k) (lt : k < e.more) {b : Behind} (P : (i : ℕ) (u : Upto) → u.end ≡ e.last → Told (times k (new_field any_type i) (upto_new i) u) (last_end (upto_new i) end_of u) f e.at b) {n : NewField} (N : NewTold f b.at n) where
      new-kind : {s s₂ : State} (M : Met f s s₂ e) → kind_in n.kind ≡ (field_at (after_entry s (record { head = M.top; news = map what M.news })) (length s.fields + k)).kind
      new-kind {s} M =
          let i = type_of s M.top.name in
          let u : Upto = record { state = after_head s M.top; end = e.last } in
          let T = times-at (new_field any_type i) (upto_new i) f k e.more lt u e.at M.news M.q M.reads in
          let z : b.at ≡ T.place = (P i u refl).place T.before T.place T.first in
          let X = N.told i (fold (upto_new i) u T.before) T.value T.next (ap (new_field any_type i (fold (upto_new i) u T.before) f) z ∙ T.one) in
          let parts : map what M.news ≡ map what T.before ++ T.value.0 ∷ map what T.behind = ap (map what) T.is ∙ map-append what T.before (T.value ∷ T.behind) in
          X.kind ∙ sym (entry-kind s (record { head = M.top; news = map what M.news }) (map what T.before) T.value.0 (map what T.behind) parts k (length-map T.before what ∙ T.long))

      pub kind-new : (before : KindRow) → KindIn f t typ own before n.kind
      kind-new before =
          record {
            row = λ le. (N.row, N.kept);
            keeps = record {
              told = λ j g A h q r T.
                  let s = g.state in
                  let M = met F A (over-entry A nz h q r) in
                  let E : Entry = record { head = M.top; news = map what M.news } in
                  let own_is : own ≡ length (fields_of s typ) + k = omega (arith, own-have M) in
                  let stands : get_or (fields_of (after_entry s E) typ) own 0 ≡ length s.fields + k = ap (λ (k : ℕ). get_or (fields_of (after_entry s E) typ) k 0) own_is ∙ entry_place s E (sym M.typ ∙ is) k (omega (arith, M.more)) in
                  subst (KindTold typ own n.kind) (sym M.is) (record { is = λ there. new-kind M ∙ ap (λ (k : ℕ). (field_at (after_entry s E) k).kind) (sym stands) });
            };
          }

-- ── the walks ──

-- the type has no field of this name so far
abbrev pub Finding : List ℕ → ℕ → ℕ → List ℕ → ℕ → Trail → Type 0
Finding f k typ name i t = Going f k i t (λ g. Lacking typ name g.state)

lacks-start : (typ : ℕ) (name : List ℕ) → Lacking typ name begin.state
unfolding begin nothing field_named place_named
lacks-start typ name = record { none_yet = refl }

pub find-start : (f : List ℕ) (k typ : ℕ) (name : List ℕ) {t : Trail} → Begins t → Finding f k typ name 0 t
find-start f k typ name B = go-start B (lacks-start typ name)

module _ {f : List ℕ} {k typ : ℕ} {name : List ℕ} {i : ℕ} {t : Trail} (G : Finding f k typ name i t) where
  pub find-on : i < k → {r : prelude.Option ℕ} → FoundIn f t typ name r → r ≡ None → {u : Trail} → StepPast f t u → Finding f k typ name (i + 1) u
  find-on lt F is S = go-as (go_on G lt F.keeps S) (λ g X. record { none_yet = X.nothing is })

  -- no later step takes it away
  pub find-out : i < k → {r : prelude.Option ℕ} → FoundIn f t typ name r → {own : ℕ} → r ≡ Some own → FieldSought f k typ name (Some own)
  find-out lt F {own} is =
      let K : Keeps f t (λ g. Lacking typ name g.state) (λ g. OwnNamed typ name own g.state) = record { told = λ j g A h q r L. (F.keeps.told j g A h q r L).at own is } in
      record { told = λ g R. one_found ((go-last G lt K (own-lasts f typ name own)).told g R) }

  pub find-end : k ≤ i → FieldSought f k typ name None
  find-end le = record { told = λ g R. none_found ((go-done G le).told g R).none_yet }

abbrev pub Kinding : List ℕ → ℕ → ℕ → ℕ → ℕ → Trail → KindRow → Type 0
Kinding f k typ own i t b = Going f k i t (λ g. KindTold typ own b g.state)

no_kind : (typ own : ℕ) (b : KindRow) → KindTold typ own b begin.state
unfolding begin nothing fields_of places
no_kind typ own b = record { is = λ lt. absurd (omega arith) }

pub kind-start : (f : List ℕ) (k typ own : ℕ) (b : KindRow) {t : Trail} → Begins t → Kinding f k typ own 0 t b
kind-start f k typ own b B = go-start B (no_kind typ own b)

module _ {f : List ℕ} {k typ own i : ℕ} {t : Trail} {b : KindRow} (G : Kinding f k typ own i t b) where
  pub kind-on : i < k → {r : KindRow} → KindIn f t typ own b r → {u : Trail} → StepPast f t u → Kinding f k typ own (i + 1) u r
  kind-on lt K S = go_on G lt K.keeps S

  pub kind-end : k ≤ i → RowStands b → KindSought f k typ own b
  kind-end le row = record { row = row.0; kept = row.1; told = λ g R. ((go-done G le).told g R).is }

-- An entry that was read before, passed over. Assumes nothing.
use Rattle.std.specs.Prelude.{◌≡◌, Bool, ℕ, suc, ◌+◌, ◌-◌, ◌≤◌, ◌<◌, leb, eqb, set}
use Rattle.std.proofs.Math.Path.{refl, sym, ap}
use Rattle.std.proofs.Common.{◌∙◌, subst, leb-true, eq-eqb, ne_eqb, eqb-true}
use Rattle.std.proofs.Math.Bool.{true, false}
use mathlib.Core.List.{List, [], ◌∷◌, ◌++◌, map, append-nil}
use native.Mathlib.Omega.{arith}
use Rattle.std.proofs.Math.ListN.{length, get_or, length-append, length-set, get_or-append}
use Rattle.std.proofs.lemmas.List.{length-map}
use Rattle.std.proofs.Math.Seq.{get_or_at, get_or-set_same, get_or-set_other}
use Rattle.paper.specs.Reader.{when◌then◌else◌, got, times}
use Rattle.paper.specs.Numbers.{v64, number}
use Rattle.paper.specs.Lists.{places, fold, last_or}
use Rattle.paper.specs.Ledger.{New, Head, Entry, Typ, State, text, no_type, type_named, type_in, owns?, fields_of}
use Rattle.paper.specs.Rules.{any_type, new?, type_of, super_of, base_of, new_name, new_type, after_head, known_due, field_count_rules, noted, after_new, after_entry}
use Rattle.paper.specs.Keeps.{hold?}
use Rattle.paper.specs.File.{Upto, head, end_offset, new_field, upto_new, what, ends, fields, entry}
use Rattle.laws.specs.Laws.{bind_inv}
use Rattle.laws.specs.Bools.{and_split}
use Rattle.table.specs.View.{maybe}
use Rattle.table.specs.ApartLaws.{apart_more}
use Rattle.reader.specs.Runs.{times-many}
use Rattle.trail.specs.Told.{Told, number-got, give-got, last_end, end_of, after}
use Rattle.trail.specs.Texts.{Within}
use Rattle.trail.specs.Types.{Stands}
use Rattle.trail.specs.declared.past.Behind.{Behind}
use Rattle.trail.specs.declared.trail.Trail.{Trail}
use Rattle.trail.specs.declared.trail.Top.{Top}
use Rattle.trail.specs.declared.trail.Fields.{Fields}
use Rattle.trail.specs.Heads.{Knows, TopTold, HeadPast, new_is, not-both}

pub record Had (t : Trail) (typ r : ℕ) : Type 0 where
  pub small : r < 256
  pub is : (f : List ℕ) (s : State) → Knows f s t → r ≡ length (fields_of s typ)

pub record Moved (t : Trail) (behind : Behind) (r : Trail) : Type 0 where
  pub at : r.at ≡ behind.at
  pub end : r.end ≡ behind.value
  pub left : r.left ≡ t.left - 1
  pub blocks : r.blocks ≡ t.blocks

pub record Entered (f : List ℕ) (t : Trail) (entry : Fields) (behind : Behind) (r : Trail) : Type 0 where
  pub told :
      (s : State) → Knows f s t → (h : Head) (q : ℕ) → TopTold f s t h q entry.top → (gs : List New) → entry.have ≡ length (fields_of s entry.top.typ) → entry.more ≡ length gs → length s.fields + length gs ≤ 128 → 0 < t.left
      → Knows f (after_entry s (record { head = h; news = gs })) r × Moved t behind r

pub record EntryTold (f : List ℕ) (s : State) (t : Trail) (e : Entry × List ℕ) (q : ℕ) (r : Trail) : Type 0 where
  pub knows : Knows f (after_entry s e.0) r
  pub moved : Moved t (record { value = last_or t.end e.1; at = q }) r

pub record EntryPast (f : List ℕ) (t : Trail) (r : Trail) : Type 0 where
  pub told : (s : State) → Knows f s t → 0 < t.left → (e : Entry × List ℕ) (q : ℕ) → entry any_type (record { state = s; end = t.end }) f t.at ≡ got e q → EntryTold f s t e q r

-- ── the fields that a type has ──

-- ── what an entry makes known ──

-- so many more for the type t₀
abbrev more : ℕ → ℕ → ℕ → ℕ
more t₀ n i = when eqb i t₀ then n else 0

places-snoc : {A : Type 0} (p : A → Bool) (i : ℕ) (l : List A) (x : A) → length (places p i (l ++ x ∷ [])) ≡ length (places p i l) + (when p x then 1 else 0)
unfolding places when◌then◌else◌
places-snoc p i [] x = last (p x)
  where
    last : (b : Bool) → length (when b then i ∷ [] else []) ≡ 0 + (when b then 1 else 0)
    last true = refl
    last false = refl
places-snoc {A} p i (y ∷ l) x = go (p y) (places-snoc p (suc i) l x)
  where
    go :
        (b : Bool) → length (places p (suc i) (l ++ x ∷ [])) ≡ length (places p (suc i) l) + (when p x then 1 else 0)
        → length (when b then i ∷ places p (suc i) (l ++ x ∷ []) else places p (suc i) (l ++ x ∷ [])) ≡ length (when b then i ∷ places p (suc i) l else places p (suc i) l) + (when p x then 1 else 0)
    go true ih = omega (arith, ih)
    go false ih = ih

record News (t₀ : ℕ) (s : State) (gs : List New) (s₂ : State) : Type 0 where
  strings : s₂.strings ≡ s.strings
  names : s₂.type_names ≡ s.type_names
  types : s₂.types ≡ s.types
  all : length s₂.fields ≡ length s.fields + length gs
  fields : (i : ℕ) → length (fields_of s₂ i) ≡ length (fields_of s i) + more t₀ (length gs) i

eqb_swap : (a b : ℕ) → eqb a b ≡ eqb b a
eqb_swap a b = go (eqb a b) refl
  where
    go : (x : Bool) → eqb a b ≡ x → x ≡ eqb b a
    go true q = sym (eq-eqb b a (sym (eqb-true a b q)))
    go false q = sym (ne_eqb b a (λ e. not-both (sym (eq-eqb a b (sym e)) ∙ q)))

one_field : (t₀ : ℕ) (s : State) (g : New) (i : ℕ) → length (fields_of (after_new t₀ s g) i) ≡ length (fields_of s i) + more t₀ 1 i
unfolding fields_of after_new owns? when◌then◌else◌
one_field t₀ s g i = places-snoc (owns? i) 0 s.fields (record { owner = t₀; kind = noted g.kind }) ∙ ap (λ (b : Bool). length (places (owns? i) 0 s.fields) + (when b then 1 else 0)) (eqb_swap t₀ i)

more-sum : (t₀ n i : ℕ) → more t₀ 1 i + more t₀ n i ≡ more t₀ (suc n) i
unfolding when◌then◌else◌
more-sum t₀ n i = go (eqb i t₀)
  where
    go : (b : Bool) → (when b then 1 else 0) + (when b then n else 0) ≡ (when b then suc n else 0)
    go true = omega arith
    go false = refl

more-none : (t₀ i : ℕ) → more t₀ 0 i ≡ 0
unfolding when◌then◌else◌
more-none t₀ i = go (eqb i t₀)
  where
    go : (b : Bool) → ◌≡◌ {A = ℕ} (when b then 0 else 0) 0
    go true = refl
    go false = refl

news-told : (t₀ : ℕ) (s : State) (gs : List New) → News t₀ s gs (fold (after_new t₀) s gs)
unfolding fold after_new
news-told t₀ s [] = record { strings = refl; names = refl; types = refl; all = omega arith; fields = λ i. omega (arith, more-none t₀ i) }
news-told t₀ s (g ∷ gs) =
    let ih = news-told t₀ (after_new t₀ s g) gs in
    record {
      strings = ih.strings;
      names = ih.names;
      types = ih.types;
      all = omega (arith, ih.all, length-append s.fields (record { owner = t₀; kind = noted g.kind } ∷ []));
      fields = λ i. omega (arith, ih.fields i, one_field t₀ s g i, more-sum t₀ (length gs) i);
    }

record After (s : State) (h : Head) (gs : List New) (s₂ : State) : Type 0 where
  strings : s₂.strings ≡ s.strings
  names : s₂.type_names ≡ s.type_names ++ new_name s h
  types : s₂.types ≡ s.types ++ new_type s h
  all : length s₂.fields ≡ length s.fields + length gs
  fields : (i : ℕ) → length (fields_of s₂ i) ≡ length (fields_of s i) + more (type_of s h.name) (length gs) i

after-told : (s : State) (h : Head) (gs : List New) → After s h gs (after_entry s (record { head = h; news = gs }))
unfolding after_entry after_head fields_of
after-told s h gs =
    let N = news-told (type_of s h.name) (after_head s h) gs in
    record { strings = N.strings; names = N.names; types = N.types; all = N.all; fields = N.fields }

more-here : (t₀ n i : ℕ) → i ≡ t₀ → more t₀ n i ≡ n
unfolding when◌then◌else◌
more-here t₀ n i e = rw (eq-eqb i t₀ e)

more-else : (t₀ n i : ℕ) → (i ≡ t₀ → ⊥) → more t₀ n i ≡ 0
unfolding when◌then◌else◌
more-else t₀ n i e = rw (ne_eqb i t₀ e)

-- ── the trail behind an entry ──

pub data Either (A B : Type 0) : Type 0 where
  inl : A → Either A B
  inr : B → Either A B

pub dec_equal : (a b : ℕ) → Either (a ≡ b) (a ≡ b → ⊥)
dec_equal a b = go (eqb a b) refl
  where
    go : (x : Bool) → eqb a b ≡ x → Either (a ≡ b) (a ≡ b → ⊥)
    go true q = inl (eqb-true a b q)
    go false q = inr (λ e. not-both (sym (eq-eqb a b e) ∙ q))

stands-as : {f : List ℕ} {a b a₂ b₂ : ℕ} {w w₂ : List ℕ} → Stands f a b w → a₂ ≡ a → b₂ ≡ b → w₂ ≡ w → Stands f a₂ b₂ w₂
stands-as S p q r = rw (p, q, r) S

set_here : (l : List ℕ) (j i a : ℕ) → i ≡ j → j < length l → get_or (set l j a) i 0 ≡ a
set_here l j i a e lt = ap (λ (k : ℕ). get_or (set l j a) k 0) e ∙ get_or-set_same l j a 0 lt

same-fields : (s : State) (h : Head) (gs : List New) {s₂ : State} → After s h gs s₂ → {typ : ℕ} → typ ≡ type_of s h.name → (i : ℕ) → (i ≡ typ → ⊥) → length (fields_of s₂ i) ≡ length (fields_of s i)
same-fields s h gs A is i ne = omega (arith, A.fields i, more-else (type_of s h.name) (length gs) i (λ e. ne (e ∙ sym is)))

more-fields : (s : State) (h : Head) (gs : List New) {s₂ : State} → After s h gs s₂ → {typ : ℕ} → typ ≡ type_of s h.name → (i : ℕ) → i ≡ typ → length (fields_of s₂ i) ≡ length (fields_of s i) + length gs
more-fields s h gs A is i e = omega (arith, A.fields i, more-here (type_of s h.name) (length gs) i (e ∙ is))

places-fewer : {A : Type 0} (p : A → Bool) (i : ℕ) (l : List A) → length (places p i l) ≤ length l
unfolding places when◌then◌else◌
places-fewer p i [] = omega arith
places-fewer {A} p i (x ∷ l) = go (p x) (places-fewer p (suc i) l)
  where
    go : (b : Bool) → length (places p (suc i) l) ≤ length l → length (when b then i ∷ places p (suc i) l else places p (suc i) l) ≤ suc (length l)
    go true ih = omega (arith, ih)
    go false ih = omega (arith, ih)

fields-fewer : (s : State) (i : ℕ) → length (fields_of s i) ≤ length s.fields
unfolding fields_of
fields-fewer s i = places-fewer (owns? i) 0 s.fields

module _ {f : List ℕ} {t : Trail} {entry : Fields} {behind : Behind} where
  -- what no accepted file has
  pub enter-not : (length f ≤ 1048576 → entry.top.typ < 32 → entry.have + entry.more ≤ 128 → t.fields ≤ 128 → 0 < t.left → ⊥) → {r : Trail} → Entered f t entry behind r
  enter-not never =
      record {
        told = λ s K h q T gs had news room left.
            let fewer = fields-fewer s entry.top.typ in
            absurd (never K.size T.room (omega arith) (omega (arith, K.fields)) left);
      }

  -- a known type
  pub enter-known :
      entry.top.typ < t.types
      → Entered f t entry behind (record { at = behind.at; left = t.left - 1; end = behind.value; blocks = t.blocks; strings = t.strings; fields = t.fields + entry.more; starts = t.starts; types = t.types; froms = t.froms; tos = t.tos; sups = t.sups; owns = set t.owns entry.top.typ (entry.have + entry.more) })
  unfolding new_name new_type when◌then◌else◌
  enter-known lt =
      record {
        told = λ s K h q T gs had news room left.
            let own = entry.have + entry.more in
            let is : own ≡ length (fields_of s entry.top.typ) + length gs = omega arith in
            let A = after-told s h gs in
            let old : new? s h.name ≡ false = (new_is s h.name T.placed).0 lt in
            let names : (after_entry s (record { head = h; news = gs })).type_names ≡ s.type_names = A.names ∙ rw (old, append-nil s.type_names) refl in
            let types : (after_entry s (record { head = h; news = gs })).types ≡ s.types = A.types ∙ rw (old, append-nil s.types) refl in (
              record {
                size = K.size;
                strings = K.strings ∙ ap length (sym A.strings);
                fields = omega (arith, K.fields, A.all);
                long = record { starts = K.long.starts; froms = K.long.froms; tos = K.long.tos; sups = K.long.sups; owns = length-set t.owns entry.top.typ own ∙ K.long.owns };
                texts = rw A.strings K.texts;
                names = rw names (record { count = K.names.count; few = K.names.few; stands = K.names.stands; apart = K.names.apart });
                typed = ap length types ∙ K.typed;
                sups = λ i l. K.sups i l ∙ ap (λ (x : List Typ). (type_in x i).super) (sym types);
                owns = λ i l. elim (dec_equal i entry.top.typ) [
                  | inl e ↦ ap (λ (x : ℕ). get_or (set t.owns entry.top.typ own) x 0) e ∙ get_or-set_same t.owns entry.top.typ own 0 (omega (arith, T.room, K.long.owns)) ∙ is ∙ ap (λ (x : ℕ). length (fields_of s x) + length gs) (sym e) ∙ sym (more-fields s h gs A T.typ i e)
                  | inr ne ↦ get_or-set_other t.owns entry.top.typ i own 0 ne ∙ K.owns i l ∙ sym (same-fields s h gs A T.typ i ne)
                ];
                others = λ i l. same-fields s h gs A T.typ i (λ e. absurd (omega arith)) ∙ K.others i l;
              },
              record { at = refl; end = refl; left = refl; blocks = refl },
            );
      }

  -- a new type
  module _ (W : Within f entry.top.name) (ge : t.types ≤ entry.top.typ) where
    pub enter-new :
        Entered f t entry behind (record { at = behind.at; left = t.left - 1; end = behind.value; blocks = t.blocks; strings = t.strings; fields = t.fields + entry.more; starts = t.starts; types = entry.top.typ + 1; froms = set t.froms entry.top.typ entry.top.name.start; tos = set t.tos entry.top.typ entry.top.name.end; sups = set t.sups entry.top.typ entry.top.up; owns = set t.owns entry.top.typ (entry.have + entry.more) })
    unfolding new_name new_type when◌then◌else◌ type_in type_named
    enter-new =
        record {
          told = λ s K h q T gs had news room left.
              let own = entry.have + entry.more in
              let is : own ≡ length (fields_of s entry.top.typ) + length gs = omega arith in
              let A = after-told s h gs in
              let fresh : new? s h.name ≡ true = (new_is s h.name T.placed).1 ge in
              let w = text s h.name in
              let typ = entry.top.typ in
              let typ-is : typ ≡ t.types = omega (arith, T.most) in
              let x : Typ = record { super = super_of s h.name h.super; base = base_of s h } in
              let names : (after_entry s (record { head = h; news = gs })).type_names ≡ s.type_names ++ w ∷ [] = A.names ∙ rw fresh refl in
              let types : (after_entry s (record { head = h; news = gs })).types ≡ s.types ++ x ∷ [] = A.types ∙ rw fresh refl in (
                record {
                  size = K.size;
                  strings = K.strings ∙ ap length (sym A.strings);
                  fields = omega (arith, K.fields, A.all);
                  long =
                      record {
                        starts = K.long.starts;
                        froms = length-set t.froms entry.top.typ entry.top.name.start ∙ K.long.froms;
                        tos = length-set t.tos entry.top.typ entry.top.name.end ∙ K.long.tos;
                        sups = length-set t.sups entry.top.typ entry.top.up ∙ K.long.sups;
                        owns = length-set t.owns entry.top.typ own ∙ K.long.owns;
                      };
                  texts = rw A.strings K.texts;
                  names =
                      rw names
                      (record {
                        count = omega (arith, K.names.count, length-append s.type_names (w ∷ []));
                        few = omega (arith, T.room);
                        stands = λ i l. elim (dec_equal i typ) [
                          | inl e ↦
                              stands-as (record { rises = W.rises; inside = W.inside; is = T.named })
                              (set_here t.froms typ i entry.top.name.start e (omega (arith, T.room, K.long.froms))) (set_here t.tos typ i entry.top.name.end e (omega (arith, T.room, K.long.tos)))
                              (ap (λ (k : ℕ). get_or (s.type_names ++ w ∷ []) k []) (e ∙ typ-is ∙ K.names.count) ∙ get_or_at s.type_names w [] [] (length s.type_names) refl)
                          | inr ne ↦
                              stands-as (K.names.stands i (omega arith)) (get_or-set_other t.froms typ i entry.top.name.start 0 ne) (get_or-set_other t.tos typ i entry.top.name.end 0 ne)
                              (get_or-append s.type_names (w ∷ []) [] i (omega (arith, K.names.count)))
                        ];
                        apart = apart_more s.type_names w K.names.apart (T.placed.fresh ge);
                      });
                  typed = ap length types ∙ omega (arith, K.typed, length-append s.types (x ∷ []));
                  sups = λ i l. elim (dec_equal i typ) [
                    | inl e ↦ ap maybe (set_here t.sups typ i entry.top.up e (omega (arith, T.room, K.long.sups))) ∙ T.up ∙ sym (ap (λ (ts : List Typ). (get_or ts i no_type).super) types ∙ ap (λ (k : ℕ). (get_or (s.types ++ x ∷ []) k no_type).super) (e ∙ typ-is ∙ sym K.typed) ∙ ap (λ (z : Typ). z.super) (get_or_at s.types x [] no_type (length s.types) refl))
                    | inr ne ↦ ap maybe (get_or-set_other t.sups typ i entry.top.up 0 ne) ∙ K.sups i (omega arith) ∙ sym (ap (λ (ts : List Typ). (get_or ts i no_type).super) types ∙ ap (λ (z : Typ). z.super) (get_or-append s.types (x ∷ []) no_type i (omega (arith, K.typed))))
                  ];
                  owns = λ i l. elim (dec_equal i typ) [
                    | inl e ↦ set_here t.owns typ i own e (omega (arith, T.room, K.long.owns)) ∙ is ∙ ap (λ (k : ℕ). length (fields_of s k) + length gs) (sym e) ∙ sym (more-fields s h gs A T.typ i e)
                    | inr ne ↦ get_or-set_other t.owns typ i own 0 ne ∙ K.owns i (omega arith) ∙ sym (same-fields s h gs A T.typ i ne)
                  ];
                  others = λ i l. same-fields s h gs A T.typ i (λ e. absurd (omega arith)) ∙ K.others i (omega arith);
                },
                record { at = refl; end = refl; left = refl; blocks = refl },
              );
        }

-- ── an entry, taken apart ──

pub record FieldsParts (t known : ℕ) (u : Upto) (f : List ℕ) (at : ℕ) (v : List New × List ℕ) (q : ℕ) : Type 0 where
  pub count : ℕ
  pub after-count : ℕ
  pub olds : List ℕ
  pub after-olds : ℕ
  pub news : List (New × ℕ)
  pub count-read : number (field_count_rules u.state known) f at ≡ got count after-count
  pub olds-read : times known end_offset after u.end f after-count ≡ got olds after-olds
  pub news-read : times (count - known) (new_field any_type t) (upto_new t) (record { state = u.state; end = last_or u.end olds }) f after-olds ≡ got news q
  pub is : v ≡ (map what news, olds ++ map ends news)

fields-parts : (t known : ℕ) (u : Upto) (f : List ℕ) (at : ℕ) (v : List New × List ℕ) (q : ℕ) → fields any_type t known u f at ≡ got v q → FieldsParts t known u f at v q
unfolding fields
fields-parts t known u f at v q h =
    let C = bind_inv (number (field_count_rules u.state known)) _ f at v q h in
    let D = bind_inv (times known end_offset after u.end) _ f C.next v q C.rest in
    let E = bind_inv (times (C.value - known) (new_field any_type t) (upto_new t) _) _ f D.next v q D.rest in
    let (same, ended) = give-got _ f E.next v q E.rest in
    record {
      count = C.value;
      after-count = C.next;
      olds = D.value;
      after-olds = D.next;
      news = E.value;
      count-read = C.first;
      olds-read = D.first;
      news-read = E.first ∙ ap (got E.value) ended;
      is = sym same;
    }

pub record EntryParts (s : State) (end : ℕ) (f : List ℕ) (at : ℕ) (e : Entry × List ℕ) (q : ℕ) : Type 0 where
  pub top : Head
  pub after-top : ℕ
  pub body : List New × List ℕ
  pub top_read : head s f at ≡ got top after-top
  pub parts : FieldsParts (type_of s top.name) (length (known_due s top)) (record { state = after_head s top; end = end }) f after-top body q
  pub is : e ≡ (record { head = top; news = body.0 }, body.1)

pub entry-parts : (s : State) (end : ℕ) (f : List ℕ) (at : ℕ) (e : Entry × List ℕ) (q : ℕ) → entry any_type (record { state = s; end = end }) f at ≡ got e q → EntryParts s end f at e q
unfolding entry
entry-parts s end f at e q h =
    let A = bind_inv (head s) _ f at e q h in
    let t = type_of s A.value.name in
    let known = length (known_due s A.value) in
    let B = bind_inv (fields any_type t known (record { state = after_head s A.value; end = end })) _ f A.next e q A.rest in
    let (same, ended) = give-got _ f B.next e q B.rest in
    record {
      top = A.value;
      after-top = A.next;
      body = B.value;
      top_read = A.first;
      parts = fields-parts t known (record { state = after_head s A.value; end = end }) f A.next B.value q (B.first ∙ ap (got B.value) ended);
      is = sym same;
    }

-- ── its ways out ──

-- the number of fields is not below that of the known ones, and there is room for the new ones
pub count_held : (s : State) (known n : ℕ) → hold? (field_count_rules s known n) ≡ true → (known ≤ n) × (length s.fields + (n - known) ≤ 128)
unfolding field_count_rules hold?
count_held s known n h =
    let (a, b) = and_split (leb (length s.fields + (n - known)) 128) _ h in
    let (c, _) = and_split (leb known n) true b in
    (leb-true known n c, leb-true (length s.fields + (n - known)) 128 a)

-- how many known fields an entry gives
pub known_is : (s : State) (h : Head) (typ have count known : ℕ) → typ ≡ type_of s h.name → have ≡ length (fields_of s typ) → count ≡ h.count → (count ≡ 0 → known ≡ 0) → ((count ≡ 0 → ⊥) → known ≡ have) → known ≡ length (known_due s h)
unfolding known_due when◌then◌else◌
known_is s h typ have count known t-is have-is c-is zero? other? =
    elim (dec_equal count 0) [
      | inl z ↦
          let w : 0 ≡ length (when eqb h.count 0 then [] else fields_of s (type_of s h.name)) = rw (eq-eqb h.count 0 (sym c-is ∙ z)) refl in
          zero? z ∙ w
      | inr nz ↦
          let w : length (fields_of s (type_of s h.name)) ≡ length (when eqb h.count 0 then [] else fields_of s (type_of s h.name)) = rw (ne_eqb h.count 0 (λ e. nz (c-is ∙ e))) refl in
          other? nz ∙ have-is ∙ ap (λ (i : ℕ). length (fields_of s i)) t-is ∙ w
    ]

pub last-fold : (d : ℕ) (es : List ℕ) → fold after d es ≡ last_or d es
unfolding fold last_or
last-fold d [] = refl
last-fold d (e ∷ es) = last-fold e es

pub last-news : (t : ℕ) (u : Upto) (gs : List (New × ℕ)) → end_of (fold (upto_new t) u gs) ≡ last_or u.end (map ends gs)
unfolding fold last_or upto_new
last-news t u [] = refl
last-news t u (g ∷ gs) = last-news t (upto_new t u g) gs

pub last-append : (a : ℕ) (xs ys : List ℕ) → last_or (last_or a xs) ys ≡ last_or a (xs ++ ys)
unfolding last_or
last-append a [] ys = refl
last-append a (x ∷ xs) ys = last-append x xs ys

pub head-fields : (s : State) (h : Head) → ((after_head s h).fields ≡ s.fields)
unfolding after_head
head-fields s h = refl

pub record Given (have count r : ℕ) : Type 0 where
  pub none : count ≡ 0 → r ≡ 0
  pub all : (count ≡ 0 → ⊥) → r ≡ have

pub record Beyond (n known r : ℕ) : Type 0 where
  pub few : r ≤ 128
  pub is : known ≤ n → n - known ≤ 128 → r ≡ n - known

-- the numbers of an entry that was read, as its parts have them
pub record FieldsTold (f : List ℕ) (s : State) (t : Trail) (e : Entry × List ℕ) (q : ℕ) (P : EntryParts s t.end f t.at e q) (r : Fields) : Type 0 where
  pub top : TopTold f s t P.top P.after-top r.top
  pub have : r.have ≡ length (fields_of s r.top.typ)
  pub due : r.known ≡ length (known_due s P.top)
  pub known : r.known ≡ length P.parts.olds
  pub more : r.more ≡ length P.parts.news
  pub count : P.parts.count ≡ r.known + r.more
  pub ends : r.ends ≡ P.parts.after-count
  pub place : r.at ≡ P.parts.after-olds
  pub last : r.last ≡ last_or t.end P.parts.olds
  pub room : length s.fields + r.more ≤ 128
  -- the end offsets of known fields, and the new fields, read where the numbers say
  pub olds-read : times r.known end_offset after t.end f r.ends ≡ got P.parts.olds r.at
  pub news-read : times r.more (new_field any_type (type_of s P.top.name)) (upto_new (type_of s P.top.name)) (record { state = after_head s P.top; end = r.last }) f r.at ≡ got P.parts.news q

pub record FieldsPast (f : List ℕ) (t : Trail) (r : Fields) : Type 0 where
  pub head : HeadPast f t r.top
  pub had : r.have < 256
  pub few : r.more ≤ 128
  pub told : (s : State) → Knows f s t → (e : Entry × List ℕ) (q : ℕ) (P : EntryParts s t.end f t.at e q) → FieldsTold f s t e q P r

module _ {f : List ℕ} {t : Trail} {top : Top} (H : HeadPast f t top) {n : Behind} (N : Told v64 (λ x. x) f top.at n) {have : ℕ} (D : Had t top.typ have) {known : ℕ} (Y : Given have top.count known) {more : ℕ} (Z : Beyond n.value known more) {olds : Behind} (O : Told (times known end_offset after t.end) (last_end after (λ x. x) t.end) f n.at olds) where
  fields_told : (s : State) → Knows f s t → (e : Entry × List ℕ) (q : ℕ) (P : EntryParts s t.end f t.at e q) → FieldsTold f s t e q P (record { top = top; have = have; known = known; more = more; ends = n.at; at = olds.at; last = olds.value })
  fields_told s K e q P =
      let B = P.parts in
      let T = H.told s K P.top P.after-top P.top_read in
      let k-is = known_is s P.top top.typ have top.count known T.typ (D.is f s K) T.count Y.none Y.all in
      let (v, w) = number-got _ f P.after-top B.count B.after-count B.count-read in
      let v' = ap (v64 f) T.place ∙ v in
      let n-is = N.value B.count B.after-count v' in
      let n-at = N.place B.count B.after-count v' in
      let (lo, hi) = count_held (after_head s P.top) (length (known_due s P.top)) B.count w in
      let same = ap length (head-fields s P.top) in
      let m-is : more ≡ n.value - known = Z.is (omega arith) (omega arith) in
      let m-read : more ≡ B.count - length (known_due s P.top) = omega arith in
      let i = type_of s P.top.name in
      let olds-read : times known end_offset after t.end f n.at ≡ got B.olds B.after-olds = rw (k-is, n-at) B.olds-read in
      let o_is : olds.value ≡ last_or t.end B.olds = O.value B.olds B.after-olds olds-read ∙ last-fold t.end B.olds in
      let o-at = O.place B.olds B.after-olds olds-read in
      let news-read : times more (new_field any_type i) (upto_new i) (record { state = after_head s P.top; end = olds.value }) f olds.at ≡ got B.news q = rw (m-read, o_is, o-at) B.news-read in
      record {
        top = T;
        have = D.is f s K;
        due = k-is;
        known = sym (times-many known end_offset after t.end f n.at olds-read);
        more = sym (times-many more (new_field any_type i) (upto_new i) (record { state = after_head s P.top; end = olds.value }) f olds.at news-read);
        count = omega arith;
        ends = n-at;
        place = o-at;
        last = o_is;
        room = omega arith;
        olds-read = olds-read ∙ ap (got B.olds) (sym o-at);
        news-read = news-read;
      }

  pub fields-past : FieldsPast f t (record { top = top; have = have; known = known; more = more; ends = n.at; at = olds.at; last = olds.value })
  fields-past = record { head = H; had = D.small; few = Z.few; told = fields_told }

module _ {f : List ℕ} {t : Trail} {entry : Fields} (F : FieldsPast f t entry) {behind : Behind} (G : (i : ℕ) (u : Upto) → u.end ≡ entry.last → Told (times entry.more (new_field any_type i) (upto_new i) u) (last_end (upto_new i) end_of u) f entry.at behind) {r : Trail} (E : Entered f t entry behind r) where
  pub entry_past : EntryPast f t r
  entry_past =
      record {
        told = λ s K left e q h.
            let P = entry-parts s t.end f t.at e q h in
            let M = F.told s K e q P in
            let B = P.parts in
            let i = type_of s P.top.name in
            let u : Upto = record { state = after_head s P.top; end = entry.last } in
            let X = G i u refl in
            let end_is : behind.value ≡ last_or entry.last (map ends B.news) = X.value B.news q M.news-read ∙ last-news i u B.news in
            let end-at : behind.at ≡ q = X.place B.news q M.news-read in
            let whole-end : last_or entry.last (map ends B.news) ≡ last_or t.end (B.olds ++ map ends B.news) = ap (λ (d : ℕ). last_or d (map ends B.news)) M.last ∙ last-append t.end B.olds (map ends B.news) in
            let gs : List New = map what B.news in
            let many : length gs ≡ length B.news = length-map B.news what in
            let (knows, moved) = E.told s K P.top P.after-top M.top gs M.have (M.more ∙ sym many) (omega (arith, M.room, M.more, many)) left in
            let whole : e ≡ (record { head = P.top; news = gs }, B.olds ++ map ends B.news) = P.is ∙ ap (λ (v : List New × List ℕ). (record { head = P.top; news = v.0 }, v.1)) B.is in
            let told : EntryTold f s t (record { head = P.top; news = gs }, B.olds ++ map ends B.news) q r =
            record {
              knows = knows;
              moved = record { at = moved.at ∙ end-at; end = moved.end ∙ end_is ∙ whole-end; left = moved.left; blocks = moved.blocks };
            } in
            subst (λ (x : Entry × List ℕ). EntryTold f s t x q r) (sym whole) told;
      }

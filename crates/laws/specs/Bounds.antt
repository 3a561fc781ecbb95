-- The bounds hold in every state that a ledger leads to which keeps the rules: no reading. Assumes nothing.
use Rattle.std.specs.Prelude.{◌≡◌, refl, Bool, true, not, List, [], ◌∷◌, ℕ, ◌+◌, ◌-◌, ◌≤◌, length}
use Rattle.std.proofs.Common.{◌∙◌, arith, length-append, leb-true, ltb-true}
use Rattle.std.proofs.Math.Option.{Option, none, some}
use Rattle.paper.specs.Reader.{when◌then◌else◌}
use Rattle.paper.specs.Bounds.{most_strings, most_types, most_fields}
use Rattle.paper.specs.Ledger.{New, Entry, Pair, Ledger, Typ, State, nothing, text, type_named}
use Rattle.paper.specs.Lists.{fold, given?}
use Rattle.paper.specs.Rules.{strings_rules, with_strings, new?, type_of, type_name_rules, new_type, after_head, known_due, field_count_rules, after_new, after_entry, after_front, closed, after_pair, place_rules, new_name, super_of, base_of}
use Rattle.paper.specs.Keeps.{in_turn, head?, entry?, pair?, keeps?}
use Rattle.laws.specs.Bools.{and_split, every-split, number-split}
use Rattle.laws.specs.Says.{Held}

-- the bounds, and that names stand beside what they name
pub record Within (s : State) : Type 0 where
  pub strings : length s.strings ≤ most_strings
  pub type_names : length s.type_names ≤ most_types
  pub fields : length s.fields ≤ most_fields
  pub types_named : length s.type_names ≡ length s.types
  pub fields_named : length s.field_names ≡ length s.fields

-- what each step keeps, all steps keep
pub turn-keeps :
    {S A : Type 0} (ok : S → A → Bool) (after : S → A → S) (I : S → Type 0) → ((s : S) (a : A) → ok s a ≡ true → I s → I (after s a)) → (l : List A) (s : S)
    → in_turn ok after s l ≡ true → I s → I (fold after s l)
unfolding in_turn fold
turn-keeps ok after I step [] s h i = i
turn-keeps ok after I step (a ∷ l) s h i = let (p, q) = and_split (ok s a) _ h in turn-keeps ok after I step l (after s a) q (step s a p i)

-- a new type finds room for its name, and has a name
one_more : {A B : Type 0} (s : State) (o : Option ℕ) (x : A) (y : B) → length s.type_names ≤ most_types → Held (place_rules s o)
    → (length s.type_names + length (when not (given? o) then x ∷ [] else []) ≤ most_types) × (length (when not (given? o) then x ∷ [] else []) ≡ length (when not (given? o) then y ∷ [] else []))
unfolding place_rules given? when◌then◌else◌
one_more s none x y le h = (omega (arith, ltb-true (length s.type_names) most_types h.0), refl)
one_more s (some t) x y le h = (omega arith, refl)

news-add :
    (t : ℕ) (gs : List New) (s : State)
    → (length (fold (after_new t) s gs).fields ≡ length s.fields + length gs) × (length (fold (after_new t) s gs).field_names ≡ length s.field_names + length gs)
unfolding fold after_new
news-add t [] s = (omega arith, omega arith)
news-add t (g ∷ gs) s = let (a, b) = news-add t gs (after_new t s g) in (a ∙ rw length-append (omega arith), b ∙ rw length-append (omega arith))

news-same :
    (t : ℕ) (gs : List New) (s : State)
    → ((fold (after_new t) s gs).strings ≡ s.strings) × ((fold (after_new t) s gs).type_names ≡ s.type_names) × ((fold (after_new t) s gs).types ≡ s.types)
unfolding fold after_new
news-same t [] s = (refl, refl, refl)
news-same t (g ∷ gs) s = news-same t gs (after_new t s g)

entry-within : (s : State) (e : Entry) → entry? s e ≡ true → Within s → Within (after_entry s e)
unfolding entry? head? after_entry after_head new_type new_name new? type_name_rules field_count_rules
entry-within s e h w =
    let (a, (b, (c, _))) = every-split _ h in
    let (a₁, _) = every-split _ a in
    let N = (number-split (type_name_rules s) e.head.name a₁).1 in
    let k = length (known_due s e.head) in
    let F = (number-split (field_count_rules (after_head s e.head) k) (k + length e.news) b).1 in
    let few : length s.fields + (k + length e.news - k) ≤ most_fields = leb-true _ most_fields F.0 in
    let t = type_of s e.head.name in
    let S = news-same t e.news (after_head s e.head) in
    let A = news-add t e.news (after_head s e.head) in
    let O = one_more {B = Typ} s (type_named s (text s e.head.name)) (text s e.head.name) (record { super = super_of s e.head.name e.head.super; base = base_of s e.head }) w.type_names N.1 in
    let W₁ = w.types_named in
    let W₂ = w.fields_named in
    record {
      strings = rw S.0 w.strings;
      type_names = rw (S.1, length-append) O.0;
      fields = rw A.0 (omega arith);
      types_named = rw (S.1, S.2, length-append, length-append, O.1, W₁);
      fields_named = rw (A.0, A.1, W₂);
    }

pair-within : (s : State) (p : Pair) → pair? s p ≡ true → Within s → Within (after_pair s p)
unfolding pair? after_pair after_front closed with_strings strings_rules
pair-within s p h w =
    let (a, (b, (c, (d, _)))) = every-split _ h in
    let few : length s.strings + length p.strings ≤ most_strings = leb-true _ most_strings (number-split (strings_rules s) (length p.strings) a).1.0 in
    let s₁ = with_strings s p.strings in
    let W = turn-keeps _ after_entry Within entry-within p.entries s₁ d
    (record { strings = rw length-append few; type_names = w.type_names; fields = w.fields; types_named = w.types_named; fields_named = w.fields_named }) in
    record { strings = W.strings; type_names = W.type_names; fields = W.fields; types_named = W.types_named; fields_named = W.fields_named }

-- at most 1,024 strings, 32 types and 128 fields
pub ledger-within : (l : Ledger) → keeps? l ≡ true → Within (fold after_pair nothing l)
unfolding keeps? nothing
ledger-within l h =
    let (a, (b, (c, _))) = every-split _ h in
    turn-keeps _ after_pair Within pair-within l nothing c (record { strings = omega arith; type_names = omega arith; fields = omega arith; types_named = refl; fields_named = refl })

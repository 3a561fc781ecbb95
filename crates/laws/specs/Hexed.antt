-- A state with its strings and names in hex: every rule and every lookup gives the same over both. Assumes nothing.
use Rattle.std.specs.Prelude.{◌≡◌, Bool, ◌&&◌, eqb, get_or}
use Rattle.std.proofs.Math.Path.{refl, ap, fun_ext}
use Rattle.std.proofs.Common.{sym, ◌∙◌, arith, eqb-true, eq-eqb, ne_eqb}
use Rattle.std.proofs.Math.Bool.{true, false}
use mathlib.Core.List.{List, [], ◌∷◌, ◌++◌, map, map-append}
use Rattle.std.proofs.Math.Option.{Option, none, some}
use Prim.Native.Nat.{ℕ, zero, suc, ◌-◌, ◌/◌, ◌%◌, ◌<◌}
use Rattle.std.proofs.Math.ListN.{length-map, get_or-map}
use Rattle.std.proofs.lemmas.Bool.{eqb-false}
use Rattle.paper.specs.Reader.{when◌then◌else◌}
use Rattle.paper.specs.Lists.{same, all, place, place_named, fold, flat}
use Rattle.paper.specs.Ledger.{annotation, keys, mapping, Kind, constant, plain, array, many, Element, flag, whole, float, link, New, Head, Entry, Pair, Field, State, nothing, text, a_string?, type_named, type_in, field_at, fields_of, called?, field_named, objects_of, pool_before, objects_in_all, object?}
use Rattle.paper.specs.Rules.{base_object?, annotation?, strings_rules, with_strings, new?, type_of, entered?, place_rules, type_name_rules, super_named, super_name_rules, super_of, in_range?, few_objects?, count_rules, base_of, new_name, new_type, new_range, after_head, known_due, field_count_rules, field_name_rules, after_new, after_entry, old_due, entry_dues, dues, a_type?, kind_stands?, kinds_stand?, link?, link_rules, closed, after_front, after_pair}
use Rattle.paper.specs.Listing.{glyph, hex_digits, hex}
use Rattle.paper.specs.Keeps.{sized?, number?, bytes?, head?, new-field?, element?, value?}
use Rattle.paper.specs.Maps.{all_through}
use Rattle.paper.specs.Scan.{nibble}
use Rattle.laws.specs.Says.{Bytes}
use Rattle.laws.specs.Before.{bytes_back}
use Rattle.laws.specs.Bools.{and_split}
use Rattle.laws.specs.Digits.{nibble-glyph}

-- ── hex tells bytes apart ──

glyph-test : (c d : ℕ) → c < 16 → d < 16 → eqb (glyph c) (glyph d) ≡ eqb c d
glyph-test c d h k = go (eqb c d) refl
  where
    go : (t : Bool) → eqb c d ≡ t → eqb (glyph c) (glyph d) ≡ t
    go true e = eq-eqb (glyph c) (glyph d) (ap glyph (eqb-true c d e))
    go false e = ne_eqb (glyph c) (glyph d) λ q. eqb-false c d e (sym (nibble-glyph c h) ∙ ap nibble q ∙ nibble-glyph d k)

byte-test :
    (x y : ℕ) → x < 256 → y < 256 → (r : Bool)
    → (eqb (glyph (x / 16 % 16)) (glyph (y / 16 % 16)) && (eqb (glyph (x % 16)) (glyph (y % 16)) && r)) ≡ (eqb x y && r)
byte-test x y h k r =
    rw (glyph-test (x / 16 % 16) (y / 16 % 16) (omega arith) (omega arith), glyph-test (x % 16) (y % 16) (omega arith) (omega arith))
    (go (eqb (x / 16 % 16) (y / 16 % 16)) refl (eqb (x % 16) (y % 16)) refl)
  where
    go : (p : Bool) → eqb (x / 16 % 16) (y / 16 % 16) ≡ p → (q : Bool) → eqb (x % 16) (y % 16) ≡ q → (p && (q && r)) ≡ (eqb x y && r)
    go true p true q = rw (eq-eqb x y (omega (arith, eqb-true (x / 16 % 16) (y / 16 % 16) p, eqb-true (x % 16) (y % 16) q)))
    go true p false q = rw (ne_eqb x y λ e. eqb-false (x % 16) (y % 16) q (ap (λ (n : ℕ). n % 16) e))
    go false p q u = rw (ne_eqb x y λ e. eqb-false (x / 16 % 16) (y / 16 % 16) p (ap (λ (n : ℕ). n / 16 % 16) e))

pub same-hex : (a b : List ℕ) → Bytes a → Bytes b → same (hex a) (hex b) ≡ same a b
unfolding same hex flat hex_digits
same-hex [] [] h k = refl
same-hex [] (y ∷ b) h k = refl
same-hex (x ∷ a) [] h k = refl
same-hex (x ∷ a) (y ∷ b) h k = byte-test x y h.0 k.0 _ ∙ ap (λ (t : Bool). eqb x y && t) (same-hex a b h.1 k.1)

-- ── lists of names ──

-- each of them is bytes
abbrev pub EachBytes : List (List ℕ) → Type 0
EachBytes [] = Unit {0}
EachBytes (l ∷ ls) = Bytes l × EachBytes ls

pub each_back : (ls : List (List ℕ)) → all bytes? ls ≡ true → EachBytes ls
unfolding all
each_back [] h = tt
each_back (l ∷ ls) h = let (a, b) = and_split (bytes? l) (all bytes? ls) h in (bytes_back l a, each_back ls b)

each_append : (ls ms : List (List ℕ)) → EachBytes ls → EachBytes ms → EachBytes (ls ++ ms)
each_append [] ms h k = k
each_append (l ∷ ls) ms h k = (h.0, each_append ls ms h.1 k)

each_at : (ls : List (List ℕ)) (i : ℕ) → EachBytes ls → Bytes (get_or ls i [])
each_at [] i h = tt
each_at (l ∷ ls) zero h = h.0
each_at (l ∷ ls) (suc i) h = each_at ls i h.1

place-hex :
    (name : List ℕ) → Bytes name → (i : ℕ) (names : List (List ℕ)) → EachBytes names → place (same (hex name)) i (map hex names) ≡ place (same name) i names
unfolding place
place-hex name b i [] h = refl
place-hex name b i (l ∷ ls) h = rw (same-hex name l b h.0, place-hex name b (suc i) ls h.1)

named-hex :
    (t : ℕ) (name : List ℕ) → Bytes name → (i : ℕ) (ds : List Field) (names : List (List ℕ)) → EachBytes names
    → place_named (called? t (hex name)) i ds (map hex names) ≡ place_named (called? t name) i ds names
unfolding place_named called?
named-hex t name b i [] names h = refl
named-hex t name b i (d ∷ ds) [] h = refl
named-hex t name b i (d ∷ ds) (l ∷ ls) h = rw (same-hex name l b h.0, named-hex t name b (suc i) ds ls h.1)

-- ── a state ──

-- the same state, with its strings and names in hex
unfoldable pub hexed : State → State
hexed s =
    record {
      strings = map hex s.strings;
      type_names = map hex s.type_names;
      types = s.types;
      field_names = map hex s.field_names;
      fields = s.fields;
      log = s.log;
      block = s.block;
    }

-- every string and name is bytes
pub record Spelt (s : State) : Type 0 where
  pub strings : EachBytes s.strings
  pub type_names : EachBytes s.type_names
  pub field_names : EachBytes s.field_names

pub spelt-nothing : Spelt nothing
unfolding nothing
spelt-nothing = record { strings = tt; type_names = tt; field_names = tt }

-- ── what asks for no string and no name ──

pub nothing-hexed : hexed nothing ≡ nothing
unfolding hexed nothing
nothing-hexed = refl

module _ (s : State) where
  pub field_at-hexed : (i : ℕ) → field_at (hexed s) i ≡ field_at s i
  unfolding hexed field_at
  field_at-hexed i = refl

  pub objects_of-hexed : (t : ℕ) → objects_of (hexed s) t ≡ objects_of s t
  unfolding hexed objects_of
  objects_of-hexed t = refl

  pub object-hexed : (t n : ℕ) → object? (hexed s) t n ≡ object? s t n
  unfolding hexed object?
  object-hexed t n = refl

  pub entered-hexed : (t : ℕ) → entered? (hexed s) t ≡ entered? s t
  unfolding hexed entered?
  entered-hexed t = refl

  pub count_rules-hexed : (super : Option ℕ) (start n : ℕ) → count_rules (hexed s) super start n ≡ count_rules s super start n
  unfolding hexed count_rules in_range? few_objects? objects_in_all
  count_rules-hexed none start n = refl
  count_rules-hexed (some u) start n = refl

  pub field_count_rules-hexed : (known n : ℕ) → field_count_rules (hexed s) known n ≡ field_count_rules s known n
  unfolding hexed field_count_rules
  field_count_rules-hexed known n = refl

  pub closed-hexed : closed (hexed s) ≡ hexed (closed s)
  unfolding hexed closed
  closed-hexed = refl

  -- ── what asks only how many there are ──

  pub a_string-hexed : (n : ℕ) → a_string? (hexed s) n ≡ a_string? s n
  unfolding hexed a_string?
  a_string-hexed n = rw length-map

  pub strings_rules-hexed : (n : ℕ) → strings_rules (hexed s) n ≡ strings_rules s n
  unfolding hexed strings_rules
  strings_rules-hexed n = rw length-map

  place_rules-hexed : (o : Option ℕ) → place_rules (hexed s) o ≡ place_rules s o
  unfolding hexed place_rules entered?
  place_rules-hexed none = rw length-map
  place_rules-hexed (some t) = refl

  kind_stands-hexed : (k : Kind) → kind_stands? (hexed s) k ≡ kind_stands? s k
  unfolding hexed kind_stands? a_type?
  kind_stands-hexed (constant k v) = refl
  kind_stands-hexed (plain k) = rw length-map
  kind_stands-hexed (array n k) = rw length-map
  kind_stands-hexed (many c k) = rw length-map
  kind_stands-hexed (mapping ks) = ap (λ (p : ℕ → Bool). all p ks) (fun_ext λ k. rw length-map)

  pub kinds_stand-hexed : (es : List Entry) → kinds_stand? (hexed s) es ≡ kinds_stand? s es
  unfolding kinds_stand?
  kinds_stand-hexed es = ap (λ (p : Kind → Bool). all (λ (e : Entry). all (λ (g : New). p g.kind) e.news) es) (fun_ext kind_stands-hexed)

  pub link-hexed : (k n : ℕ) → link? (hexed s) k n ≡ link? s k n
  unfolding hexed link? object?
  link-hexed k n = rw length-map

  pub link_rules-hexed : (k n : ℕ) → link_rules (hexed s) k n ≡ link_rules s k n
  unfolding link_rules
  link_rules-hexed k n = rw (link-hexed k n)

  -- ── strings and names ──

  pub with_strings-hexed : (ss : List (List ℕ)) → with_strings (hexed s) (map hex ss) ≡ hexed (with_strings s ss)
  unfolding hexed with_strings
  with_strings-hexed ss = rw map-append

  pub text-hexed : (n : ℕ) → text (hexed s) n ≡ hex (text s n)
  unfolding hexed text hex flat
  text-hexed n = get_or-map hex s.strings (n - 1) []

  pub after_new-hexed : (t : ℕ) (g : New) → after_new t (hexed s) g ≡ hexed (after_new t s g)
  unfolding hexed after_new
  after_new-hexed t g = rw (map-append, text-hexed g.name)

  base-hexed : (o : Option ℕ) (n : ℕ) → base_object? (hexed s) o n ≡ base_object? s o n
  unfolding hexed base_object? object?
  base-hexed none n = refl
  base-hexed (some t) n = refl

  module _ (S : Spelt s) where
    pub text-bytes : (n : ℕ) → Bytes (text s n)
    unfolding text
    text-bytes n = each_at s.strings (n - 1) S.strings

    pub type_named-hexed : (name : List ℕ) → Bytes name → type_named (hexed s) (hex name) ≡ type_named s name
    unfolding hexed type_named
    type_named-hexed name b = place-hex name b 0 s.type_names S.type_names

    pub field_named-hexed : (t : ℕ) (name : List ℕ) → Bytes name → field_named (hexed s) t (hex name) ≡ field_named s t name
    unfolding hexed field_named
    field_named-hexed t name b = named-hex t name b 0 s.fields s.field_names S.field_names

    -- the type that string n names
    typed : (n : ℕ) → type_named (hexed s) (text (hexed s) n) ≡ type_named s (text s n)
    typed n = rw (text-hexed n) (type_named-hexed (text s n) (text-bytes n))

    -- ── values ──

    annotation-hexed : (m n : ℕ) → annotation? (hexed s) m n ≡ annotation? s m n
    unfolding annotation?
    annotation-hexed m n = rw (a_string-hexed m, typed m, base-hexed (type_named s (text s m)) n)

    pub element-hexed : (k : ℕ) (e : Element) → element? (hexed s) k e ≡ element? s k e
    unfolding element? number?
    element-hexed k (flag b) = refl
    element-hexed k (whole v) = refl
    element-hexed k (float w n) = refl
    element-hexed k (link n) = rw (link_rules-hexed k n)
    element-hexed k (annotation m n) = rw (annotation-hexed m n)
    element-hexed k (keys n) = refl

    pub value-hexed : (k : Kind) (es : List Element) → value? (hexed s) k es ≡ value? s k es
    unfolding value?
    value-hexed (constant k v) es = refl
    value-hexed (plain k) es = rw (fun_ext (element-hexed k))
    value-hexed (array n k) es = rw (fun_ext (element-hexed k))
    value-hexed (many c k) es = rw (fun_ext (element-hexed k))
    value-hexed (mapping ks) es = ap (λ (ok : ℕ → Element → Bool). all_through ok sized? es (ks ∷ [])) (fun_ext λ k. fun_ext (element-hexed k))

    pub new-hexed : (n : ℕ) → new? (hexed s) n ≡ new? s n
    unfolding new?
    new-hexed n = rw (typed n)

    pub type_of-hexed : (n : ℕ) → type_of (hexed s) n ≡ type_of s n
    unfolding hexed type_of
    type_of-hexed n = rw (typed n, length-map)

    pub type_name_rules-hexed : (n : ℕ) → type_name_rules (hexed s) n ≡ type_name_rules s n
    unfolding type_name_rules
    type_name_rules-hexed n = rw (a_string-hexed n, typed n, place_rules-hexed)

    pub super_named-hexed : (n : ℕ) → super_named (hexed s) n ≡ super_named s n
    unfolding super_named
    super_named-hexed n = rw (typed n)

    pub super_name_rules-hexed : (t n : ℕ) → super_name_rules (hexed s) t n ≡ super_name_rules s t n
    unfolding hexed super_name_rules
    super_name_rules-hexed t n = rw (super_named-hexed n, length-map)

    pub super_of-hexed : (n : ℕ) (super : Option ℕ) → super_of (hexed s) n super ≡ super_of s n super
    unfolding hexed super_of
    super_of-hexed n none = ap (λ (t : ℕ). (type_in s.types t).super) (type_of-hexed n)
    super_of-hexed n (some u) = super_named-hexed u

    pub field_name_rules-hexed : (t n : ℕ) → field_name_rules t (hexed s) n ≡ field_name_rules t s n
    unfolding field_name_rules
    field_name_rules-hexed t n = rw (a_string-hexed n, text-hexed n, field_named-hexed t (text s n) (text-bytes n))

    pub known_due-hexed : (h : Head) → known_due (hexed s) h ≡ known_due s h
    unfolding hexed known_due fields_of
    known_due-hexed h = rw (type_of-hexed h.name)

    pub head-hexed : (h : Head) → head? (hexed s) h ≡ head? s h
    unfolding head? number?
    head-hexed h =
        rw (
          super_of-hexed h.name h.super,
          new-hexed h.name,
          type_of-hexed h.name,
          type_name_rules-hexed h.name,
          fun_ext (super_name_rules-hexed (type_of s h.name)),
          count_rules-hexed,
        )

    pub new-field-hexed : (t : ℕ) (g : New) → new-field? t (hexed s) g ≡ new-field? t s g
    unfolding new-field? number?
    new-field-hexed t g = rw (field_name_rules-hexed t g.name)

    -- ── what a head makes known ──

    base_of-hexed : (h : Head) → base_of (hexed s) h ≡ base_of s h
    unfolding hexed base_of
    base_of-hexed h = rw (type_of-hexed h.name, super_of-hexed h.name h.super)

    new_name-hexed : (h : Head) → new_name (hexed s) h ≡ map hex (new_name s h)
    unfolding new_name when◌then◌else◌
    new_name-hexed h = rw (new-hexed h.name, text-hexed h.name) (go (new? s h.name))
      where
        go : (b : Bool) → (when b then hex (text s h.name) ∷ [] else []) ≡ map hex (when b then text s h.name ∷ [] else [])
        go true = refl
        go false = refl

    new_type-hexed : (h : Head) → new_type (hexed s) h ≡ new_type s h
    unfolding new_type
    new_type-hexed h = rw (new-hexed h.name, super_of-hexed h.name h.super, base_of-hexed h)

    new_range-hexed : (h : Head) → new_range (hexed s) h ≡ new_range s h
    unfolding hexed new_range pool_before
    new_range-hexed h = rw (type_of-hexed h.name, base_of-hexed h)

    pub after_head-hexed : (h : Head) → after_head (hexed s) h ≡ hexed (after_head s h)
    unfolding hexed after_head
    after_head-hexed h = rw (new_name-hexed h, new_type-hexed h, new_range-hexed h, map-append)

    pub entry_dues-hexed : (e : Entry) → entry_dues (hexed s) e ≡ entry_dues s e
    unfolding hexed entry_dues old_due field_at objects_of
    entry_dues-hexed e = rw (known_due-hexed e.head, after_head-hexed e.head, type_of-hexed e.head.name)

    -- ── bytes stay bytes ──

    pub spelt-strings : (ss : List (List ℕ)) → EachBytes ss → Spelt (with_strings s ss)
    unfolding with_strings
    spelt-strings ss h = record { strings = each_append s.strings ss S.strings h; type_names = S.type_names; field_names = S.field_names }

    pub spelt-head : (h : Head) → Spelt (after_head s h)
    unfolding after_head new_name when◌then◌else◌
    spelt-head h = record { strings = S.strings; type_names = each_append s.type_names _ S.type_names (go (new? s h.name)); field_names = S.field_names }
      where
        go : (b : Bool) → EachBytes (when b then text s h.name ∷ [] else [])
        go true = (text-bytes h.name, tt)
        go false = tt

    pub spelt-new : (t : ℕ) (g : New) → Spelt (after_new t s g)
    unfolding after_new
    spelt-new t g =
        record { strings = S.strings; type_names = S.type_names; field_names = each_append s.field_names _ S.field_names (text-bytes g.name, tt) }

    pub spelt-closed : Spelt (closed s)
    unfolding closed
    spelt-closed = record { strings = S.strings; type_names = S.type_names; field_names = S.field_names }

-- ── one after the other ──

module _ {A : Type 0} (after : State → A → State) (spelt : (s : State) → Spelt s → (a : A) → Spelt (after s a)) where
  spelt-fold : (s : State) → Spelt s → (l : List A) → Spelt (fold after s l)
  unfolding fold
  spelt-fold s S [] = S
  spelt-fold s S (a ∷ l) = spelt-fold (after s a) (spelt s S a) l

  fold-hexed : ((s : State) → Spelt s → (a : A) → after (hexed s) a ≡ hexed (after s a)) → (s : State) → Spelt s → (l : List A) → fold after (hexed s) l ≡ hexed (fold after s l)
  unfolding fold
  fold-hexed step s S [] = refl
  fold-hexed step s S (a ∷ l) = rw (step s S a) (fold-hexed step (after s a) (spelt s S a) l)

pub spelt-entry : (s : State) → Spelt s → (e : Entry) → Spelt (after_entry s e)
unfolding after_entry
spelt-entry s S e = spelt-fold _ (λ s S. spelt-new s S _) _ (spelt-head s S e.head) e.news

pub after_entry-hexed : (s : State) → Spelt s → (e : Entry) → after_entry (hexed s) e ≡ hexed (after_entry s e)
unfolding after_entry
after_entry-hexed s S e =
    rw (type_of-hexed s S e.head.name, after_head-hexed s S e.head)
    (fold-hexed _ (λ s S. spelt-new s S _) (λ s S. after_new-hexed s _) _ (spelt-head s S e.head) e.news)

pub dues-hexed : (s : State) → Spelt s → (es : List Entry) → dues (hexed s) es ≡ dues s es
unfolding dues
dues-hexed s S [] = refl
dues-hexed s S (e ∷ es) = rw (entry_dues-hexed s S e, after_entry-hexed s S e, dues-hexed (after_entry s e) (spelt-entry s S e) es)

module _ (s : State) (S : Spelt s) where
  pub spelt-front : (ss : List (List ℕ)) → EachBytes ss → (es : List Entry) → Spelt (after_front s ss es)
  unfolding after_front
  spelt-front ss h es = spelt-fold after_entry spelt-entry _ (spelt-strings s S ss h) es

  pub after_front-hexed : (ss : List (List ℕ)) → EachBytes ss → (es : List Entry) → after_front (hexed s) (map hex ss) es ≡ hexed (after_front s ss es)
  unfolding after_front
  after_front-hexed ss h es = rw (with_strings-hexed s ss) (fold-hexed after_entry spelt-entry after_entry-hexed _ (spelt-strings s S ss h) es)

  pub spelt-pair : (p : Pair) → EachBytes p.strings → Spelt (after_pair s p)
  unfolding after_pair
  spelt-pair p h = spelt-closed _ (spelt-front p.strings h p.entries)

-- The ways out of what holds the names of an entry's type and its super type to their rules, and of their readers, on plain
-- values. Assumes nothing.
use Rattle.std.specs.Prelude as prelude
use Rattle.std.specs.Prelude.{Some, None, ◌≡◌, Bool, true, false, List, [], ◌∷◌, ℕ, zero, suc, ◌+◌, ◌-◌, ◌^◌, ◌≤◌, ◌<◌, leb, length, get_or}
use Rattle.std.proofs.Math.Path.{refl, sym, ap}
use Rattle.std.proofs.Common.{◌∙◌, arith, add-one}
use Rattle.std.proofs.Math.Option.{none, some}
use borrow.Author.Tests.{le-leb, lt-leb, lt-ltb, le-ltb, ne_eqb, leb-true}
use Rattle.paper.specs.Reader.{when◌then◌else◌, Reader, Out, got, no, and_then, ◌>>=◌, give, hold, must, only, turned, Rule}
use Rattle.paper.specs.Numbers.{v64, number}
use Rattle.paper.specs.Lists.{same, any, place, given?, or}
use Rattle.paper.specs.Ledger.{State, Typ, text, a_string?, type_named, type_in}
use Rattle.paper.specs.Rules.{entry_of?, entered?, new?, type_of, place_rules, type_name_rules, super_named, chain_ends?, super_name_rules, super_of}
use Rattle.numbers.specs.Cursors.{Read, was-got, Outcome, was-refused}
use Rattle.numbers.specs.declared.Cursor.{Cursor}
use Rattle.numbers.specs.declared.Refusal.{Refusal}
use Rattle.laws.specs.Bools.{and_split}
use Rattle.table.specs.View.{view, maybe, strs_of, names_of, types_of, log_of, Ok, Holds, strings_in, types_in, block_in}
use Rattle.table.specs.Asks.{found}
use Rattle.numbers.specs.Ruled.{ruled-is}
use Rattle.reader.specs.declared.heads.Name.{Name}
use Rattle.reader.specs.Heads.{due, FoundBelow, Known, Resolved, ToldName, NameJudged, NameRead, ToldPlace, NamePlaced, known_rules, ToldUp, SuperPlaced, ToldSuper, SuperJudged, SuperRead, ToldAbove, AboveRead}
use Rattle.numbers.specs.Faults.{number_of}
use Rattle.numbers.specs.declared.Fault.TheVariants as fault
use Rattle.reader.specs.declared.heads.Super.{Super}

pub differ {ℓ} : {X : Type ℓ} → ◌≡◌ {A = ℕ} 0 1 → X
differ z = absurd (omega arith)

-- ── a number under rules, as a caller hands it on ──

module _ {f : List ℕ} {at : ℕ} {a : Outcome ℕ} (read : Read v64 (2 ^ 64) f at a) (rules : ℕ → List Rule) where
  number-no : {e : Refusal} → a ≡ prelude.Err e → number rules f at ≡ no (number_of e.fault) e.place
  unfolding number must
  number-no is = rw (was-refused read is).says

  number_is : {n : ℕ} {c : Cursor} → a ≡ prelude.Ok (n, c) → number rules f at ≡ hold (rules n) at (got n c.at)
  unfolding number
  number_is is = ruled-is read rules is

-- ── strings ──

pub string-zero : (s : State) (n : ℕ) → n ≡ 0 → false ≡ a_string? s n
unfolding a_string?
string-zero s n e = rw (lt-leb 1 n (omega arith))

pub string-upto : (s : State) (n k : ℕ) → (n ≡ 0 → ⊥) → length s.strings ≡ k → leb n k ≡ a_string? s n
unfolding a_string?
string-upto s n k ne is = rw (le-leb 1 n (omega arith), is) refl

-- a string's number has a string
pub string-there : {f l : List ℕ} → Holds f l → {n : ℕ} → a_string? (view f l) n ≡ true → (0 < n) × (n ≤ strings_in l)
unfolding a_string?
string-there {f} {l} h {n} e =
    let p = and_split (leb 1 n) (leb n (length (strs_of f l))) e in
    (omega (arith, leb-true 1 n p.0), omega (arith, leb-true n (length (strs_of f l)) p.1, h.strs-count))

-- ── a type by its name ──

place-below : {A : Type 0} (p : A → Bool) (i : ℕ) (xs : List A) (u : ℕ) → place p i xs ≡ some u → u < i + length xs
unfolding place when◌then◌else◌
place-below p i [] u h = differ (cc h)
place-below p i (x ∷ xs) u h = go (λ w. place-below p (suc i) xs u w) (p x) h
  where
    go : (place p (suc i) xs ≡ some u → u < suc i + length xs) → (b : Bool) → (when b then some i else place p (suc i) xs) ≡ some u → u < i + suc (length xs)
    go again true w = let z : i ≡ u = cc w in omega arith
    go again false w = omega (arith, again w)

pub named-below : (s : State) (name : List ℕ) (u : ℕ) → type_named s name ≡ some u → u < length s.type_names
unfolding type_named
named-below s name u is = omega (arith, place-below (same name) 0 s.type_names u is)

pub looked-up : {f l : List ℕ} → Holds f l → {n : ℕ} (o : prelude.Option ℕ) → found o ≡ place (same (get_or (strs_of f l) (n - 1) [])) 0 (names_of f l) → Known f l n o
unfolding type_named text
looked-up {f} {l} h {n} o says = record { is = sym says; below = go o (sym says) }
  where
    go : (o : prelude.Option ℕ) → type_named (view f l) (text (view f l) n) ≡ found o → FoundBelow (types_in l) o
    go (Some u) is = omega (arith, named-below (view f l) (text (view f l) n) u is, h.names-count)
    go None is = tt

-- ── the place of an entry's type ──

module _ {l : List ℕ} (ok : Ok l) {n at e : ℕ} where
  module _ {o : prelude.Option ℕ} {t : ℕ} (is : o ≡ Some t) {b : Bool} (says : b ≡ any (entry_of? (block_in l) t) (log_of l)) where
    pub placed-again : b ≡ true → NamePlaced l n (found o) at e (prelude.Err (record { fault = fault.Twice; place = at }))
    unfolding place_rules entered?
    placed-again w = record { says = λ f h. rw (is, sym says ∙ w) refl; inside = λ m lo hi. lo; told = tt }

    pub placed-known : {c : Cursor} → c.at ≡ e → FoundBelow (types_in l) o → b ≡ false → NamePlaced l n (found o) at e (prelude.Ok (record { number = n; typ = t; fresh = false }, c))
    unfolding place_rules entered? given? or
    placed-known {c} here below w =
        let lt : t < types_in l = rw is at below in
        record {
          says = λ f h. rw (is, sym says ∙ w, here) refl;
          inside = λ m lo hi. rw here hi;
          told = record { number = refl; fresh = rw is refl; typ = rw is refl; few = omega (arith, ok.types-fit); room = λ z. differ (cc z); first = λ z. sym says ∙ w };
        }

  module _ {o : prelude.Option ℕ} (is : o ≡ None) where
    pub placed-full : 32 ≤ types_in l → NamePlaced l n (found o) at e (prelude.Err (record { fault = fault.Limit; place = at }))
    unfolding place_rules
    placed-full full =
        record { says = λ f h. rw (is, le-ltb (length (names_of f l)) 32 (omega (arith, h.names-count))) refl; inside = λ m lo hi. lo; told = tt }

    pub placed-new : {t : ℕ} {c : Cursor} → t ≡ types_in l → c.at ≡ e → types_in l < 32 → NamePlaced l n (found o) at e (prelude.Ok (record { number = n; typ = t; fresh = true }, c))
    unfolding place_rules given? or
    placed-new {t} {c} last here room =
        record {
          says = λ f h. rw (is, lt-ltb (length (names_of f l)) 32 (omega (arith, h.names-count)), here) refl;
          inside = λ m lo hi. rw here hi;
          told = record { number = refl; fresh = rw is refl; typ = rw is last; few = omega arith; room = λ z. room; first = λ z. differ (cc z) };
        }

-- ── the name of an entry's type ──

module _ {f l : List ℕ} (h : Holds f l) {n at next : ℕ} where
  pub name-bad : a_string? (view f l) n ≡ false → NameJudged (view f l) n at next (prelude.Err (record { fault = fault.Name; place = at }))
  unfolding type_name_rules
  name-bad e = record { says = rw e refl; inside = λ m lo hi. lo; told = tt }

  pub name-placed : a_string? (view f l) n ≡ true → {o : prelude.Option ℕ} → Known f l n o → {r : Outcome Name} → NamePlaced l n (found o) at next r → NameJudged (view f l) n at next r
  unfolding type_name_rules new? type_of entered?
  name-placed e {o} k {r} p = record { says = p.says f h ∙ sym (rw (e, k.is) refl); inside = p.inside; told = go r p.told }
    where
      go : (r : Outcome Name) → ToldPlace l n (found o) r → ToldName (view f l) r
      go (prelude.Ok (x, e')) t =
          let there = string-there h e in
          record {
            low = omega (arith, t.number, there.0);
            high = omega (arith, t.number, there.1, h.strs-count);
            fresh = t.fresh ∙ rw (t.number, k.is) refl;
            typ = t.typ ∙ rw (t.number, k.is, h.names-count) refl;
            few = t.few;
            room = λ w. omega (arith, h.names-count, t.room w);
            first = t.first;
          }
      go (prelude.Err x) t = tt

-- one that was read
module _ (s : State) {f : List ℕ} {at : ℕ} {a : Outcome ℕ} (read : Read v64 (2 ^ 64) f at a) where
  pub name-no : {e : Refusal} → a ≡ prelude.Err e → NameRead s f at (prelude.Err e)
  name-no is = record { says = sym (number-no read (type_name_rules s) is); inside = (was-refused read is).inside; told = tt }

  pub name-read : {n : ℕ} {c : Cursor} → a ≡ prelude.Ok (n, c) → {r : Outcome Name} → NameJudged s n at c.at r → NameRead s f at r
  name-read is j =
      record {
        says = j.says ∙ sym (number_is read (type_name_rules s) is);
        inside = λ lo. j.inside (length f) lo ((was-got read is).inside lo);
        told = j.told;
      }

-- ── a super type that is named ──

above-it : (ts : List Typ) (t u : ℕ) → chain_ends? (length ts) ts t (some u) ≡ chain_ends? (length ts) ts t (maybe (u + 1))
above-it ts t u = ap (λ (k : ℕ). chain_ends? (length ts) ts t (maybe k)) (sym (add-one u))

module _ {ts : List Typ} {t n at e : ℕ} where
  pub super-unknown : {o : prelude.Option ℕ} → o ≡ None → SuperPlaced ts t n (found o) at e (prelude.Err (record { fault = fault.Super; place = at }))
  unfolding given?
  super-unknown is = record { says = rw is refl; inside = λ m lo hi. lo; told = tt }

  module _ {o : prelude.Option ℕ} {u : ℕ} (is : o ≡ Some u) {b : Bool} (says : b ≡ chain_ends? (length ts) ts t (maybe (u + 1))) where
    pub super-round : b ≡ false → SuperPlaced ts t n (found o) at e (prelude.Err (record { fault = fault.Loop; place = at }))
    unfolding given?
    super-round w = record { says = rw (is, above-it ts t u ∙ sym says ∙ w) refl; inside = λ m lo hi. lo; told = tt }

    pub super-known : {c : Cursor} → c.at ≡ e → b ≡ true → SuperPlaced ts t n (found o) at e (prelude.Ok (record { number = n; up = u + 1 }, c))
    unfolding given?
    super-known here w = record { says = rw (is, above-it ts t u ∙ sym says ∙ w, here) refl; inside = λ m lo hi. rw here hi; told = (refl, rw (add-one u, is) refl) }

chain-none : (n : ℕ) (ts : List Typ) (t : ℕ) → chain_ends? n ts t none ≡ true
unfolding chain_ends? given?
chain-none zero ts t = refl
chain-none (suc n) ts t = refl

-- what is read only if it is due, where it is
pub only-due : (q : Reader ℕ) (f : List ℕ) (at : ℕ) → only true q f at ≡ turned (due true) (q f at)
unfolding only ◌>>=◌ give
only-due q f at = go (q f at)
  where
    go : (o : Out ℕ) → and_then o (λ a e. got (some a) e) ≡ turned (due true) o
    go (got a e) = refl
    go (no n p) = refl

module _ {f l : List ℕ} (h : Holds f l) (t : ℕ) {n at next : ℕ} where
  pub super-none : n ≡ 0 → {c : Cursor} → c.at ≡ next → SuperJudged (view f l) t n at next (prelude.Ok (record { number = 0; up = 0 }, c))
  unfolding super_name_rules super_named when◌then◌else◌
  super-none e here =
      let q : hold {A = ℕ} (super_name_rules (view f l) t n) at (got n next) ≡ got 0 next = rw (e, le-leb 0 (length (strs_of f l)) (omega arith), chain-none (length (types_of l)) (types_of l) t) refl in
      record { says = rw (q, here) refl; inside = λ m lo hi. rw here hi; told = refl }

  pub super-far : strings_in l < n → SuperJudged (view f l) t n at next (prelude.Err (record { fault = fault.Name; place = at }))
  unfolding super_name_rules
  super-far lt =
      let q : hold {A = ℕ} (super_name_rules (view f l) t n) at (got n next) ≡ no 5 at = rw (lt-leb n (length (strs_of f l)) (omega (arith, h.strs-count))) refl in
      record { says = rw q refl; inside = λ m lo hi. lo; told = tt }

  pub super-placed : (n ≡ 0 → ⊥) → n ≤ strings_in l → {o : prelude.Option ℕ} → Known f l n o → {r : Outcome Super} → SuperPlaced (types_of l) t n (found o) at next r → SuperJudged (view f l) t n at next r
  unfolding super_name_rules super_named when◌then◌else◌
  super-placed low high {o} k {r} p =
      let q : hold {A = ℕ} (super_name_rules (view f l) t n) at (got n next) ≡ hold (known_rules (types_of l) t (found o)) at (got n next) =
      rw (le-leb n (length (strs_of f l)) (omega (arith, h.strs-count)), ne_eqb n 0 low, k.is) refl in
      record { says = p.says ∙ sym (ap (turned (due true)) q); inside = p.inside; told = go r p.told }
    where
      go : (r : Outcome Super) → ToldUp n (found o) r → ToldSuper (view f l) r
      go (prelude.Ok (y, c')) w = rw (w.0, ne_eqb n 0 low, k.is) w.1
      go (prelude.Err e) w = tt

-- one that was read
module _ (s : State) (t : ℕ) {f : List ℕ} {at : ℕ} {a : Outcome ℕ} (read : Read v64 (2 ^ 64) f at a) where
  abbrev rules : ℕ → List Rule
  rules = super_name_rules s t

  pub super-no : {e : Refusal} → a ≡ prelude.Err e → SuperRead s t f at (prelude.Err e)
  super-no is = record { says = rw (only-due (number rules) f at, number-no read rules is) refl; inside = (was-refused read is).inside; told = tt }

  pub super-read : {n : ℕ} {c : Cursor} → a ≡ prelude.Ok (n, c) → {r : Outcome Super} → SuperJudged s t n at c.at r → SuperRead s t f at r
  super-read is j =
      record {
        says = j.says ∙ sym (only-due (number rules) f at ∙ ap (turned (due true)) (number_is read rules is));
        inside = λ lo. j.inside (length f) lo ((was-got read is).inside lo);
        told = j.told;
      }

-- of an entry's type
module _ {s : State} {x : Name} (known : Resolved s x) {f : List ℕ} {at : ℕ} where
  pub above_new : x.fresh ≡ true → {r : Outcome Super} → SuperRead s x.typ f at r → AboveRead s x f at r
  unfolding super_of
  above_new e {r} q = record { says = rw e q.says; inside = q.inside; told = go r q.told }
    where
      go : (r : Outcome Super) → ToldSuper s r → ToldAbove s x r
      go (prelude.Ok (y, c)) t = rw e t
      go (prelude.Err r) t = tt

  pub above-old : x.fresh ≡ false → {up : ℕ} {c : Cursor} → c.at ≡ at → maybe up ≡ (type_in s.types x.typ).super → AboveRead s x f at (prelude.Ok (record { number = 0; up = up }, c))
  unfolding super_of only give
  above-old e here is =
      record {
        says = rw (e, here) refl;
        inside = λ lo. rw here lo;
        told = rw e (is ∙ ap (λ (t : ℕ). (type_in s.types t).super) known.typ);
      }

-- The new fields of an entry, one after the other: the first that has a name, and the k-th. Assumes nothing.
use Rattle.std.specs.Prelude.{◌≡◌, Bool, true, false, leb, get_or, take}
use Rattle.std.proofs.Math.Path.{refl, sym, ap}
use Rattle.std.proofs.Common.{◌∙◌, leb-true}
use mathlib.Core.List.{List, [], ◌∷◌, ◌++◌}
use Rattle.std.proofs.Math.Option.{Option, some}
use Prim.Native.Nat.{ℕ, zero, suc, ◌+◌, ◌-◌, ◌≤◌, ◌<◌}
use native.Mathlib.Omega.{arith}
use Rattle.std.proofs.Math.Numerals.{add-one}
use Rattle.std.proofs.Math.ListN.{length}
use Rattle.paper.specs.Reader.{when◌then◌else◌, Reader, got, give, each, times}
use Rattle.paper.specs.Lists.{same, place, or, fold}
use Rattle.paper.specs.Ledger.{New, State, text, a_string?}
use Rattle.paper.specs.Rules.{any_type, field_name_rules, after_new}
use Rattle.paper.specs.File.{Upto, new_field, upto_new}
use Rattle.paper.specs.Keeps.{hold?}
use Rattle.laws.specs.Laws.{bind-got}
use Rattle.laws.specs.Bools.{and_split}
use Rattle.trail.specs.Told.{NewTold, FirstOf, times-first, times_none, new-parts, number-got}
use Rattle.trail.specs.Texts.{Blocks}
use Rattle.trail.specs.Heads.{Knows}
use Rattle.trail.specs.declared.past.NewField.{NewField}
use Rattle.trail.specs.declared.trail.Trail.{Trail}

-- ── a string by its number, compared ──

pub record IsString (f starts : List ℕ) (blocks n : ℕ) (name : List ℕ) (r : Bool) : Type 0 where
  pub is : (strs : List (List ℕ)) → Blocks f (take blocks starts) strs → 0 < n → n ≤ length strs → r ≡ same name (get_or strs (n - 1) [])

-- ── a new field's name is a string ──

string-numbered : (s : State) (n : ℕ) → a_string? s n ≡ true → (0 < n) × (n ≤ length s.strings)
unfolding a_string?
string-numbered s n h = let (a, b) = and_split (leb 1 n) _ h in (leb-true 1 n a, leb-true n (length s.strings) b)

name-held : (t : ℕ) (s : State) (n : ℕ) → hold? (field_name_rules t s n) ≡ true → (0 < n) × (n ≤ length s.strings)
unfolding field_name_rules hold?
name-held t s n h = let (a, _) = and_split (a_string? s n) _ h in string-numbered s n a

new-named : (t : ℕ) (u : Upto) (f : List ℕ) (at : ℕ) (g : New × ℕ) (q : ℕ) → new_field any_type t u f at ≡ got g q → (0 < g.0.name) × (g.0.name ≤ length u.state.strings)
new-named t u f at g q h =
    let N = new-parts t u f at g q h in
    let (_, w) = number-got (field_name_rules t u.state) f N.after-kind N.name N.after-name N.name-read in
    let is : g.0.name ≡ N.name = ap (λ (x : New × ℕ). x.0.name) N.is in
    rw is (name-held t u.state N.name w)

-- ── the first that has a name ──

abbrev pub goes_by : State → List ℕ → New × ℕ → Bool
goes_by s name x = same name (text s x.0.name)

-- of n new fields from a place on the first that has the name, counted from 0, or n
pub record Among (f : List ℕ) (t : Trail) (at n : ℕ) (name : List ℕ) (r : ℕ) : Type 0 where
  pub most : r ≤ n
  pub is :
      (s : State) → Knows f s t → (typ : ℕ) (u : Upto) → u.state.strings ≡ s.strings → (l : List (New × ℕ)) (q : ℕ) → times n (new_field any_type typ) (upto_new typ) u f at ≡ got l q
      → r ≡ or (place (goes_by s name) 0 l) n

-- what is left to look at from the i-th on, which stands at `here`
pub record AmongLeft (f : List ℕ) (s : State) (name : List ℕ) (typ n i here : ℕ) (l : List (New × ℕ)) (q : ℕ) : Type 0 where
  pub upto : Upto
  pub more : List (New × ℕ)
  pub strings : upto.state.strings ≡ s.strings
  pub reads : times (n - i) (new_field any_type typ) (upto_new typ) upto f here ≡ got more q
  pub is : place (goes_by s name) 0 l ≡ place (goes_by s name) i more

pub record AmongGoing (f starts : List ℕ) (blocks at n : ℕ) (name : List ℕ) (i here : ℕ) : Type 0 where
  pub most : i ≤ n
  pub left :
      (s : State) → Blocks f (take blocks starts) s.strings → (typ : ℕ) (u : Upto) → u.state.strings ≡ s.strings → (l : List (New × ℕ)) (q : ℕ) → times n (new_field any_type typ) (upto_new typ) u f at ≡ got l q
      → AmongLeft f s name typ n i here l q

pub among-start : (f starts : List ℕ) (blocks at n : ℕ) (name : List ℕ) → AmongGoing f starts blocks at n name 0 at
among-start f starts blocks at n name =
    let z : n ≡ n - 0 = omega arith in
    record {
      most = omega arith;
      left = λ s B typ u e l q h. record { upto = u; more = l; strings = e; reads = ap (λ (k : ℕ). times k (new_field any_type typ) (upto_new typ) u f at) (sym z) ∙ h; is = refl };
    }

-- one of them, and those behind it
record AmongOne (f : List ℕ) (s : State) (name : List ℕ) (typ n i : ℕ) (l : List (New × ℕ)) (q : ℕ) (g : NewField) (b : Bool) : Type 0 where
  upto : Upto
  more : List (New × ℕ)
  strings : upto.state.strings ≡ s.strings
  reads : times (n - (i + 1)) (new_field any_type typ) (upto_new typ) upto f g.at ≡ got more q
  is : place (goes_by s name) 0 l ≡ (when b then some i else place (goes_by s name) (i + 1) more)

module _ {f starts : List ℕ} {blocks at n : ℕ} {name : List ℕ} {i here : ℕ} (G : AmongGoing f starts blocks at n name i here) where
  module _ (lt : i < n) {g : NewField} (N : NewTold f here g) {b : Bool} (I : IsString f starts blocks g.name name b) where
    one :
        (s : State) → Blocks f (take blocks starts) s.strings → (typ : ℕ) (u : Upto) → u.state.strings ≡ s.strings → (l : List (New × ℕ)) (q : ℕ) → times n (new_field any_type typ) (upto_new typ) u f at ≡ got l q
        → AmongOne f s name typ n i l q g b
    unfolding place upto_new after_new text
    one s B typ u e l q h =
        let L = G.left s B typ u e l q h in
        let F = times-first (new_field any_type typ) (upto_new typ) L.upto f here L.more q (n - i) (omega arith) L.reads in
        let T = N.told typ L.upto F.value F.next F.first in
        let (lo, hi) = new-named typ L.upto f here F.value F.next F.first in
        let all : length L.upto.state.strings ≡ length s.strings = ap length L.strings in
        let z : n - i - 1 ≡ n - (i + 1) = omega arith in
        let says : b ≡ goes_by s name F.value = I.is s.strings B (omega (arith, T.name)) (omega (arith, T.name)) ∙ ap (λ (k : ℕ). same name (text s k)) T.name in
        let reads : times (n - (i + 1)) (new_field any_type typ) (upto_new typ) (upto_new typ L.upto F.value) f g.at ≡ got F.more q = rw (← z, T.place) F.rest in
        record {
          upto = upto_new typ L.upto F.value;
          more = F.more;
          strings = L.strings;
          reads = reads;
          is = L.is ∙ ap (place (goes_by s name) i) F.is ∙ rw (says, add-one i) refl;
        }

    pub among-on : b ≡ false → AmongGoing f starts blocks at n name (i + 1) g.at
    unfolding when◌then◌else◌
    among-on is =
        record {
          most = omega arith;
          left = λ s B typ u e l q h.
              let O = one s B typ u e l q h in
              record { upto = O.upto; more = O.more; strings = O.strings; reads = O.reads; is = O.is ∙ ap (λ (b : Bool). when b then some i else place (goes_by s name) (i + 1) O.more) is };
        }

module _ {f : List ℕ} (t : Trail) {at n : ℕ} {name : List ℕ} {i here : ℕ} (G : AmongGoing f t.starts t.blocks at n name i here) where
  pub among-end : n ≤ i → Among f t at n name n
  unfolding place or
  among-end le =
      record {
        most = omega arith;
        is = λ s K typ u e l q h.
            let L = G.left s K.texts typ u e l q h in
            let (x, _) = times_none (new_field any_type typ) (upto_new typ) L.upto f here L.more q (n - i) (omega arith) L.reads in
            sym (ap (λ (o : Option ℕ). or o n) (L.is ∙ ap (place (goes_by s name) i) x));
      }

  pub among-found : i < n → {g : NewField} → NewTold f here g → {b : Bool} → IsString f t.starts t.blocks g.name name b → b ≡ true → Among f t at n name i
  unfolding or when◌then◌else◌
  among-found lt N I is =
      record {
        most = omega arith;
        is = λ s K typ u e l q h.
            let O = one G lt N I s K.texts typ u e l q h in
            sym (ap (λ (o : Option ℕ). or o n) (O.is ∙ ap (λ (b : Bool). when b then some i else place (goes_by s name) (i + 1) O.more) is));
      }

-- ── the k-th of so many readings ──

pub record TimesAt {S A : Type 0} (read : S → Reader A) (after : S → A → S) (k : ℕ) (s : S) (f : List ℕ) (at : ℕ) (l : List A) : Type 0 where
  pub before : List A
  pub value : A
  pub behind : List A
  pub place : ℕ
  pub next : ℕ
  pub first : times k read after s f at ≡ got before place
  pub one : read (fold after s before) f place ≡ got value next
  pub is : l ≡ before ++ value ∷ behind
  pub long : length before ≡ k

module _ {S A : Type 0} (read : S → Reader A) (after : S → A → S) (f : List ℕ) where
  times_more : (k : ℕ) (s : S) (at : ℕ) (a : A) (p : ℕ) (l : List A) (q : ℕ) → read s f at ≡ got a p → times k read after (after s a) f p ≡ got l q → times (suc k) read after s f at ≡ got (a ∷ l) q
  unfolding times each give
  times_more k s at a p l q one rest = bind-got (read s) _ f at one ∙ bind-got (times k read after (after s a)) (λ xs. give (a ∷ xs)) f p rest

  behind-first : {k n : ℕ} {s : S} {at : ℕ} {l : List A} {e : ℕ} (F : FirstOf read after n s f at l e) → TimesAt read after k (after s F.value) f F.next F.more → TimesAt read after (suc k) s f at l
  unfolding fold
  behind-first {k} {n} {s} {at} F T =
      record {
        before = F.value ∷ T.before;
        value = T.value;
        behind = T.behind;
        place = T.place;
        next = T.next;
        first = times_more k s at F.value F.next T.before T.place F.first T.first;
        one = T.one;
        is = F.is ∙ ap (λ (x : List A). F.value ∷ x) T.is;
        long = ap suc T.long;
      }

  pub times-at : (k n : ℕ) → k < n → (s : S) (at : ℕ) (l : List A) (e : ℕ) → times n read after s f at ≡ got l e → TimesAt read after k s f at l
  unfolding times each give fold
  times-at zero n lt s at l e h =
      let F = times-first read after s f at l e n lt h in
      record { before = []; value = F.value; behind = F.more; place = at; next = F.next; first = refl; one = F.first; is = F.is; long = refl }
  times-at (suc k) n lt s at l e h =
      let F = times-first read after s f at l e n (omega arith) h in
      behind-first F (times-at k (n - 1) (omega arith) (after s F.value) F.next F.more e F.rest)

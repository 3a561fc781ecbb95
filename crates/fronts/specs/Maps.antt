-- The line of a new field whose values are maps: where its element kinds stand, and what is laid of them. The kinds are laid as
-- they are read, since a table keeps only a byte of each. Assumes nothing.
use Rattle.std.specs.Prelude.{Option, Some, None, ◌≡◌, refl, Bool, true, false, ◌&&◌, List, ◌++◌, map, ℕ, suc, ◌-◌, ◌^◌, ◌≤◌, ◌<◌, min, leb, eqb, length}
use Rattle.std.proofs.Math.Path.{sym, ap}
use Rattle.std.proofs.Common.{◌∙◌, append_assoc, ne_eqb}
use native.Mathlib.Omega.{arith}
use Rattle.std.proofs.lemmas.List.{length-map}
use Rattle.paper.specs.Reader.{when◌then◌else◌, Reader, got, no, ◌>>=◌, ◌>>◌, give, repeat}
use Rattle.paper.specs.Numbers.{signed, put_fixed, put}
use Rattle.paper.specs.Lists.{flat}
use Rattle.paper.specs.Ledger.{Kind, constant, plain, array, many, mapping, New}
use Rattle.paper.specs.Rules.{noted}
use Rattle.paper.specs.Listing.{ascii, tab, newline, comma}
use Rattle.paper.specs.Keeps.{kind_kept?}
use Rattle.paper.specs.Scan.{byte_is, literal, ended, natural, integer, read_kind, read_new}
use Rattle.laws.specs.Put.{put_kind, put_new}
use Rattle.laws.specs.Laws.{not-got, bind_inv, then-inv}
use Rattle.laws.specs.Bools.{not_so}
use Rattle.laws.specs.Codes.{fixed-length}
use Rattle.lay.specs.Laid.{most, Laid, laid_then, laid_as, Leads, leads-start, leads-on, leads-end}
use Rattle.table.specs.View.{kind_from}
use Rattle.words.specs.declared.read.Place.{Place}
use Rattle.parse.specs.Answers.{kept_new, noted_new}
use Rattle.parse.specs.MapLaws.{behind_comma, repeat-length}
use Rattle.fronts.specs.Lines.{heed-then, give-inv}
use Rattle.values.specs.Filling.{FirstOf, repeat-first, repeat-none}

-- ── a kind, from what is kept of it ──

map? : Kind → Bool
map? (constant k v) = false
map? (plain k) = false
map? (array n k) = false
map? (many c k) = false
map? (mapping ks) = true

-- of no other kind than a map anything is lost
noted-whole : (x : Kind) → map? (noted x) ≡ false → x ≡ noted x
unfolding noted map?
noted-whole (constant k v) h = refl
noted-whole (plain k) h = refl
noted-whole (array n k) h = refl
noted-whole (many c k) h = refl
noted-whole (mapping ks) h = not_so (sym h)

not-map : (k a e : ℕ) → (k ≡ 20 → ⊥) → map? (kind_from k a e) ≡ false
unfolding kind_from map? when◌then◌else◌
not-map k a e other = rw (ne_eqb k 20 other) (go (leb k 3) (eqb k 4) (eqb k 15) (leb 17 k && leb k 19))
  where
    go :
        (b c d f : Bool)
        → map? (when b then constant k (signed (2 ^ k) a) else when c then constant k (signed 8 a) else when d then array a e else when f then many k e else plain e) ≡ false
    go true c d f = refl
    go false true d f = refl
    go false false true f = refl
    go false false false true = refl
    go false false false false = refl

whole-kind : (k a e : ℕ) → (k ≡ 20 → ⊥) → (x : Kind) → kind_from k a e ≡ noted x → x ≡ kind_from k a e
whole-kind k a e other x is = noted-whole x (ap map? (sym is) ∙ not-map k a e other) ∙ sym is

-- a map's number of types is kept
pub record MapKind (x : Kind) (n : ℕ) : Type 0 where
  pub kinds : List ℕ
  pub is : x ≡ mapping kinds
  pub long : length kinds ≡ n

map-kind : (n e : ℕ) (x : Kind) → kind_from 20 n e ≡ noted x → MapKind x n
unfolding kind_from noted map? when◌then◌else◌
map-kind n e (constant k v) is = not_so (sym (ap map? is))
map-kind n e (plain k) is = not_so (sym (ap map? is))
map-kind n e (array m k) is = not_so (sym (ap map? is))
map-kind n e (many c k) is = not_so (sym (ap map? is))
map-kind n e (mapping ks) is =
    let same : put_fixed n e ≡ map (min 255) ks = cc is in
    record { kinds = ks; is = refl; long = sym (length-map ks (min 255)) ∙ ap length (sym same) ∙ fixed-length n e }

-- ── where a map's element kinds stand ──

-- in the line that begins at `at`: behind the first number, 20, and the number of types
record MapAt (t : List ℕ) (at : ℕ) (ks : List ℕ) : Type 0 where
  word : ℕ
  types : ℕ
  first : ℕ
  n : ℕ
  kinds : ℕ
  end : ℕ
  begins : literal (ascii "new\t") t at ≡ got tt word
  twenty : ended comma natural t word ≡ got first types
  count : natural t types ≡ got n kinds
  reads : repeat n behind_comma t kinds ≡ got ks end

-- a line that is read as a new field's has its kind
new-kind : (t : List ℕ) (at : ℕ) (g : New) (q : ℕ) → read_new t at ≡ got g q → (p : ℕ) × (e : ℕ) × (literal (ascii "new\t") t at ≡ got tt p) × (read_kind t p ≡ got g.kind e)
unfolding read_new ended
new-kind t at g q h =
    let L = then-inv (literal (ascii "new\t")) _ t at g q h in
    let K = bind_inv (ended tab read_kind) _ t L.next g q L.rest in
    let N = bind_inv (ended newline natural) _ t K.next g q K.rest in
    let (is, last) = give-inv (record { kind = K.value; name = N.value }) t N.next g q N.rest in
    let R = bind_inv read_kind _ t L.next K.value K.next K.first in
    let T = then-inv (byte_is tab) _ t R.next K.value K.next R.rest in
    let (same, behind) = give-inv R.value t T.next K.value K.next T.rest in
    (L.next, R.next, L.first, R.first ∙ ap (λ (x : Kind). got x R.next) (same ∙ ap (λ (g : New). g.kind) is))

ended-got : {A : Type 0} (c : ℕ) (r : Reader A) (t : List ℕ) (at : ℕ) {a : A} {p q : ℕ} {u : Unit {0}} → r t at ≡ got a p → byte_is c t p ≡ got u q → ended c r t at ≡ got a q
unfolding ended ◌>>=◌ ◌>>◌ give
ended-got c r t at h b = rw (h, b)

-- and a map's kind has them
kind_at :
    (t : List ℕ) (at p : ℕ) (ks : List ℕ) (e : ℕ) → literal (ascii "new\t") t at ≡ got tt p → read_kind t p ≡ got (mapping ks) e → MapAt t at ks
unfolding read_kind map? when◌then◌else◌
kind_at t at p ks e begins h =
    let A = bind_inv natural _ t p (mapping ks) e h in
    go A.value A.next A.first (leb A.value 4) (eqb A.value 15) (leb 17 A.value && leb A.value 19) (eqb A.value 20) A.rest
  where
    other : {X : Type 0} (x : Kind) (q : ℕ) → map? x ≡ false → give x t q ≡ got (mapping ks) e → X
    other x q no-map r = not_so (sym no-map ∙ ap map? (give-inv x t q (mapping ks) e r).0)

    mapped : (k q : ℕ) → natural t p ≡ got k q → (byte_is comma >> (natural >>= λ n. repeat n behind_comma >>= λ ks. give (mapping ks))) t q ≡ got (mapping ks) e → MapAt t at ks
    mapped k q first r =
        let C = then-inv (byte_is comma) _ t q (mapping ks) e r in
        let N = bind_inv natural _ t C.next (mapping ks) e C.rest in
        let S = bind_inv (repeat N.value behind_comma) _ t N.next (mapping ks) e N.rest in
        let (is, last) = give-inv (mapping S.value) t S.next (mapping ks) e S.rest in
        let same : S.value ≡ ks = cc is in
        record {
          word = p;
          types = C.next;
          first = k;
          n = N.value;
          kinds = N.next;
          end = S.next;
          begins = begins;
          twenty = ended-got comma natural t p first C.first;
          count = N.first;
          reads = S.first ∙ ap (λ (l : List ℕ). got l S.next) same;
        }

    go :
        (k q : ℕ) → natural t p ≡ got k q → (a b c d : Bool)
        → (when a then (byte_is comma >> (integer >>= λ v. give (constant k v))) else
        when b then (byte_is comma >> (ended comma natural >>= λ n. natural >>= λ e. give (array n e))) else
        when c then (byte_is comma >> (natural >>= λ e. give (many k e))) else
        when d then (byte_is comma >> (natural >>= λ n. repeat n behind_comma >>= λ ks. give (mapping ks))) else
        give (plain k)) t q ≡ got (mapping ks) e
        → MapAt t at ks
    go k q first true b c d r =
        let C = then-inv (byte_is comma) _ t q (mapping ks) e r in
        let I = bind_inv integer _ t C.next (mapping ks) e C.rest in
        other (constant k I.value) I.next refl I.rest
    go k q first false true c d r =
        let C = then-inv (byte_is comma) _ t q (mapping ks) e r in
        let N = bind_inv (ended comma natural) _ t C.next (mapping ks) e C.rest in
        let E = bind_inv natural _ t N.next (mapping ks) e N.rest in
        other (array N.value E.value) E.next refl E.rest
    go k q first false false true d r =
        let C = then-inv (byte_is comma) _ t q (mapping ks) e r in
        let E = bind_inv natural _ t C.next (mapping ks) e C.rest in
        other (many k E.value) E.next refl E.rest
    go k q first false false false true r = mapped k q first r
    go k q first false false false false r = other (plain k) q refl r

map_at : (t : List ℕ) (at : ℕ) (g : New) (q : ℕ) (ks : List ℕ) → kept_new t at ≡ got g q → g.kind ≡ mapping ks → MapAt t at ks
unfolding kept_new
map_at t at g q ks h is =
    let A = bind_inv read_new _ t at g q h in
    let (kept, given) = heed-then (kind_kept? A.value.kind) _ t A.next g q A.rest in
    let (same, last) = give-inv A.value t A.next g q given in
    let (p, e, begins, kind) = new-kind t at A.value A.next A.first in
    kind_at t at p ks e begins (kind ∙ ap (λ (x : Kind). got x e) (ap (λ (g : New). g.kind) same ∙ is))

-- so they stand behind the answer, where the line is read
abbrev pub KindsStand : List ℕ → List ℕ → Option Place → Type 0
KindsStand t ks (Some c) = (e : ℕ) × (repeat (length ks) behind_comma t c.at ≡ got ks e)
KindsStand t ks None = ⊥

pub record KindsFound (t : List ℕ) (at : ℕ) (r : Option Place) : Type 0 where
  pub found : (g : New) (q : ℕ) (ks : List ℕ) → kept_new t at ≡ got g q → g.kind ≡ mapping ks → KindsStand t ks r

module _ {t : List ℕ} {at : ℕ} where
  pub found-no-line : no 20 0 ≡ literal (ascii "new\t") t at → {r : Option Place} → KindsFound t at r
  found-no-line h = record { found = λ g q ks read is. not-got (h ∙ (map_at t at g q ks read is).begins) }

  module _ {p : ℕ} (word : got tt p ≡ literal (ascii "new\t") t at) where
    behind-word : {ks : List ℕ} (M : MapAt t at ks) → M.word ≡ p
    behind-word M = let z : got tt M.word ≡ got tt p = sym M.begins ∙ sym word in cc z

    pub found-no-kind : no 20 0 ≡ ended comma natural t p → {r : Option Place} → KindsFound t at r
    found-no-kind h =
        record {
          found = λ g q ks read is.
              let M = map_at t at g q ks read is in
              not-got (h ∙ ap (λ (x : ℕ). ended comma natural t x) (sym (behind-word M)) ∙ M.twenty);
        }

    module _ {k d : ℕ} (first : got k d ≡ ended comma natural t p) where
      behind-first : {ks : List ℕ} (M : MapAt t at ks) → M.types ≡ d
      behind-first M =
          let z : got M.first M.types ≡ got k d = sym M.twenty ∙ ap (λ (x : ℕ). ended comma natural t x) (behind-word M) ∙ sym first in
          cc z

      pub found-no-types : no 20 0 ≡ natural t d → {r : Option Place} → KindsFound t at r
      found-no-types h =
          record {
            found = λ g q ks read is.
                let M = map_at t at g q ks read is in
                not-got (h ∙ ap (natural t) (sym (behind-first M)) ∙ M.count);
          }

      pub found-there : {n : ℕ} {c : Place} → got n c.at ≡ natural t d → KindsFound t at (Some c)
      found-there {n} {c} h =
          record {
            found = λ g q ks read is.
                let M = map_at t at g q ks read is in
                let z : got M.n M.kinds ≡ got n c.at = sym M.count ∙ ap (natural t) (behind-first M) ∙ sym h in
                let here : M.kinds ≡ c.at = cc z in
                let long = repeat-length behind_comma t M.n M.kinds ks M.end M.reads in
                (M.end, rw (long, ← here) M.reads);
          }

-- ── the kinds laid ──

pub record KindsLaid (t : List ℕ) (from n : ℕ) (m : List ℕ) (at : ℕ) (m' : List ℕ) (r : ℕ) : Type 0 where
  pub laid : (ks : List ℕ) (e : ℕ) → repeat n behind_comma t from ≡ got ks e → Laid m at (flat put ks) m' r

-- `rest` of n are left to lay
pub record KindsLeft (t : List ℕ) (m₀ : List ℕ) (at₀ : ℕ) (ks : List ℕ) (e from rest : ℕ) (m : List ℕ) (at : ℕ) : Type 0 where
  pub more : List ℕ
  pub reads : repeat rest behind_comma t from ≡ got more e
  pub leads : Leads m₀ at₀ (flat put ks) m at (flat put more)

pub record KindsGoing (t : List ℕ) (from₀ n : ℕ) (m₀ : List ℕ) (at₀ from rest : ℕ) (m : List ℕ) (at : ℕ) : Type 0 where
  pub long : length m ≡ length m₀
  pub left : (ks : List ℕ) (e : ℕ) → repeat n behind_comma t from₀ ≡ got ks e → KindsLeft t m₀ at₀ ks e from rest m at

pub kinds-begin : (t : List ℕ) (from : ℕ) {n rest : ℕ} (m : List ℕ) (at : ℕ) → rest ≡ n → length m ≤ most → at ≤ most → KindsGoing t from n m at from rest m at
kinds-begin t from m at all a b = record { long = refl; left = λ ks e h. record { more = ks; reads = rw all h; leads = leads-start a b } }

module _ {t : List ℕ} {from₀ n : ℕ} {m₀ : List ℕ} {at₀ from rest : ℕ} {m : List ℕ} {at : ℕ} (g : KindsGoing t from₀ n m₀ at₀ from rest m at) where
  pub kinds-done : rest ≤ 0 → KindsLaid t from₀ n m₀ at₀ m at
  unfolding flat
  kinds-done le =
      record {
        laid = λ ks e h.
            let L = g.left ks e h in
            let none : rest ≡ 0 = omega arith in
            let empty = (repeat-none behind_comma t from L.more e (rw none at L.reads)).0 in
            leads-end L.leads (ap (flat put) empty);
      }

  first_of : {less : ℕ} → rest ≡ suc less → (ks : List ℕ) (e : ℕ) (L : KindsLeft t m₀ at₀ ks e from rest m at) → FirstOf behind_comma less t from L.more e
  first_of {less} due ks e L = repeat-first behind_comma less t from L.more e (rw due at L.reads)

  module _ (pos : 0 < rest) where
    -- what cannot be read promises nothing
    kinds-no : no 20 0 ≡ behind_comma t from → {m' : List ℕ} {r : ℕ} → KindsLaid t from₀ n m₀ at₀ m' r
    kinds-no h =
        let due : rest ≡ suc (rest - 1) = omega arith in
        record { laid = λ ks e s. not-got (h ∙ (first_of due ks e (g.left ks e s)).first) }

    pub kinds-no-comma : no 20 0 ≡ byte_is comma t from → {m' : List ℕ} {r : ℕ} → KindsLaid t from₀ n m₀ at₀ m' r
    unfolding ◌>>◌
    kinds-no-comma h = kinds-no (rw (← h))

    pub kinds-no-number : {p : ℕ} → got tt p ≡ byte_is comma t from → no 20 0 ≡ natural t p → {m' : List ℕ} {r : ℕ} → KindsLaid t from₀ n m₀ at₀ m' r
    unfolding ◌>>◌
    kinds-no-number sep h = kinds-no (rw (← sep, ← h))

  pub kinds-next :
      {less : ℕ} → rest ≡ suc less → {p : ℕ} → got tt p ≡ byte_is comma t from → {k d : ℕ} → got k d ≡ natural t p
      → {m₂ : List ℕ} {q : ℕ} → length m₂ ≡ length m → Laid m at (put k) m₂ q → KindsGoing t from₀ n m₀ at₀ d less m₂ q
  unfolding flat ◌>>◌
  kinds-next due sep {k} {d} h {m₂} {q} kept one =
      let read : got k d ≡ behind_comma t from = rw (← sep, ← h) in
      record {
        long = kept ∙ g.long;
        left = λ ks e s.
            let L = g.left ks e s in
            let F = first_of due ks e L in
            let z : got F.value F.next ≡ got k d = sym F.first ∙ sym read in
            let same : F.value ≡ k = cc z in
            let there : F.next ≡ d = cc z in
            let next : flat put L.more ≡ put k ++ flat put F.more = ap (flat put) F.is ∙ ap (λ (x : ℕ). put x ++ flat put F.more) same in
            record {
              more = F.more;
              reads = rw there at F.rest;
              leads = leads-on L.leads next one;
            };
      }

-- ── a new field ──

-- its line is read at `from`, and its chunk ends at `end`
pub record MapLaid (t : List ℕ) (from n name end : ℕ) (m : List ℕ) (at : ℕ) (m' : List ℕ) (r : ℕ) : Type 0 where
  pub laid : (g : New) (q : ℕ) → kept_new t from ≡ got g q → MapKind g.kind n → g.name ≡ name → Laid m at (put_new (g, end)) m' r

pub map-unread : {t : List ℕ} {from : ℕ} → KindsFound t from None → {n name end : ℕ} {m : List ℕ} {at : ℕ} {m' : List ℕ} {r : ℕ} → MapLaid t from n name end m at m' r
map-unread F = record { laid = λ g q read K called. absurd (F.found g q K.kinds read K.is) }

map-bytes : (ks : List ℕ) (n name end : ℕ) → length ks ≡ n → put 0 ++ put 20 ++ put n ++ flat put ks ++ (put name ++ put end) ≡ put_new (record { kind = mapping ks; name = name }, end)
unfolding put_new put_kind
map-bytes ks n name end long = rw (← long) (sides (put 0) (put 20) (put (length ks)) (flat put ks) (put name) (put end))
  where
    sides : (a b c d e f : List ℕ) → a ++ b ++ c ++ d ++ (e ++ f) ≡ a ++ (b ++ c ++ d) ++ e ++ f
    sides a b c d e f = sym (append_assoc (a ++ b ++ c ++ d) e f) ∙ ap (λ (l : List ℕ). l ++ e ++ f) (ap (λ (l : List ℕ). l ++ d) (append_assoc a b c) ∙ append_assoc a (b ++ c) d)

pub map-laid :
    {t : List ℕ} {from n name end : ℕ} {c : Place} → KindsFound t from (Some c) → {m : List ℕ} {at : ℕ} {m₁ m₂ m₃ m₄ : List ℕ} {p₁ p₂ p₃ p₄ : ℕ} → Laid m at (put 0 ++ put 20) m₁ p₁
    → Laid m₁ p₁ (put n) m₂ p₂ → KindsLaid t c.at n m₂ p₂ m₃ p₃ → Laid m₃ p₃ (put name ++ put end) m₄ p₄ → MapLaid t from n name end m at m₄ p₄
map-laid {t} {from} {n} {name} {end} {c} F A B C D =
    record {
      laid = λ g q read K called.
          let ks = K.kinds in
          let (e, stand) = F.found g q ks read K.is in
          let kinds = C.laid ks e (rw K.long at stand) in
          let whole : g ≡ record { kind = mapping ks; name = name } = λ i. record { kind = K.is i; name = called i } in
          laid_as (laid_then (laid_then (laid_then A B) kinds) D) (map-bytes ks n name end K.long ∙ ap (λ (g : New). put_new (g, end)) (sym whole));
    }

pub record LineLaid (t : List ℕ) (from k a e name end : ℕ) (m : List ℕ) (at : ℕ) (m' : List ℕ) (r : ℕ) : Type 0 where
  pub laid : (g : New) (q : ℕ) → kept_new t from ≡ got g q → record { kind = kind_from k a e; name = name } ≡ noted_new g → Laid m at (put_new (g, end)) m' r

module _ {t : List ℕ} {from k a e name end : ℕ} {m : List ℕ} {at : ℕ} {m' : List ℕ} {r : ℕ} where
  pub line-map : k ≡ 20 → MapLaid t from a name end m at m' r → LineLaid t from k a e name end m at m' r
  line-map is M =
      record {
        laid = λ g q read noted-is.
            let kind = ap (λ (x : New). x.kind) noted-is in
            M.laid g q read (map-kind a e g.kind (rw is at kind)) (sym (ap (λ (x : New). x.name) noted-is));
      }

  pub line_other : (k ≡ 20 → ⊥) → Laid m at (put_new (record { kind = kind_from k a e; name = name }, end)) m' r → LineLaid t from k a e name end m at m' r
  line_other other L =
      record {
        laid = λ g q read noted-is.
            let kind = whole-kind k a e other g.kind (ap (λ (x : New). x.kind) noted-is) in
            let called = ap (λ (x : New). x.name) noted-is in
            let whole : g ≡ record { kind = kind_from k a e; name = name } = λ i. record { kind = kind i; name = sym called i } in
            laid_as L (ap (λ (g : New). put_new (g, end)) (sym whole));
      }

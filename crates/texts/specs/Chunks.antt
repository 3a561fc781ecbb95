-- Elements, values and chunks of a listing as bytes. Assumes nothing.
use Rattle.std.specs.Prelude as prelude
use Rattle.std.specs.Prelude.{None, Some, ◌≡◌, Bool, ◌&&◌, not, List, [], ◌∷◌, ◌++◌, ℤ, length}
use Rattle.std.proofs.Math.Path.{refl, sym, ap}
use Rattle.std.proofs.Common.{◌∙◌, arith, lt_of_not-le}
use Rattle.std.proofs.Math.Bool.{true, false}
use Prim.Native.Nat.{ℕ, zero, suc, ◌/◌, ◌^◌, ◌≤◌, ◌<◌}
use Rattle.std.proofs.Math.Decide.{dec_le}
use Rattle.std.proofs.Math.Dec.{eqb}
use borrow.Author.Tests.{not-true, not-false, le-leb, lt-ltb}
use Rattle.paper.specs.Reader.{when◌then◌else◌, Reader, Out, got, no as bad, and_then, ◌>>=◌, ◌>>◌, give, each, times, repeat}
use Rattle.paper.specs.Lists.{flat, all}
use Rattle.paper.specs.Numbers.{signed, put}
use Rattle.paper.specs.Ledger.{constant, Element, annotation, State}
use Rattle.paper.specs.Rules.{small_rules, element_kind?}
use Rattle.paper.specs.Keeps.{number?, element?, value?}
use Rattle.laws.specs.Put.{put_element, put_value}
use Rattle.paper.specs.Listing.{ascii, tab, newline}
use Rattle.paper.specs.Scan.{heed, byte_is, literal, ended, natural, read_element, read_value, read_line, value_text}
use Rattle.lay.specs.Laid.{Laid, laid_then, laid_as}
use Rattle.laws.specs.Laws.{not-got, bind_inv, then-inv}
use Rattle.table.specs.View.{kind_from}
use Rattle.words.specs.ReadBytes.{ended-not, ended-open, ended-got}
use Rattle.values.specs.Filling.{repeat-first, repeat-none}
use Rattle.values.specs.Annotations.{placed?}
use Rattle.values.specs.Items.{Known}
use Rattle.values.specs.Chunks.{kind-array, kind-many, kind-plain}
use Rattle.texts.specs.Quiet.{words_of, tabs_from, same_then, natural-word, parted}
use Rattle.texts.specs.Exact.{judged, behind_tab, exactly, tested, listed, line-exactly, listed-refused, listed-many, listed-as, repeat-more, repeat-over, then-then}
use Rattle.texts.specs.Elements.{and_yes, kept, kept-known, noted, number_of, in_bytes, bound_in, reckoned, Writes}
use Rattle.texts.specs.Told.{Lays, Told, takes, refuses, was-got, was-bad}
use Rattle.texts.specs.declared.Taken.{Taken}

-- an array that gives its own length
unfoldable pub put_list : ℕ → List Element → List ℕ
put_list e es = put (length es) ++ flat (put_element e) es

-- the answer is that of n values of the kind, for every state that has these numbers
pub record ChunkTaken (n k a e strings : ℕ) (pools first last t : List ℕ) (from : ℕ) (l : List ℕ) (at : ℕ) (m : List ℕ) (o : prelude.Option Taken) : Type 0 where
  pub told :
      (s : State) → Known s e strings pools first last
      → Told (repeat n (value_text s (kind_from k a e))) (flat (put_value (kind_from k a e))) t from l at m o

-- ── the next element ──

-- an element with this number was read
record Found (ok : Element → Bool) (e : ℕ) (t : List ℕ) (at n d : ℕ) : Type 0 where
  element : Element
  reads : read_element e t at ≡ got element d
  keeps : ok element ≡ true
  number : n ≡ number_of e element

module _ (ok : Element → Bool) (e : ℕ) (t : List ℕ) (at : ℕ) where
  found : {n d : ℕ} → got n d ≡ reckoned ok e t at → Found ok e t at n d
  unfolding reckoned when◌then◌else◌
  found {n} {d} h = go (read_element e t at) refl h
    where
      by : (x : Element) (q : ℕ) → read_element e t at ≡ got x q → (b : Bool) → ok x ≡ b → got n d ≡ (when b then got (number_of e x) q else bad 20 0) → Found ok e t at n d
      by x q r true k z =
          let same : q ≡ d = cc z in
          record { element = x; reads = r ∙ ap (λ (p : ℕ). got x p) same; keeps = k; number = cc z }
      by x q r false k z = not-got (sym z)

      go : (o : Out Element) → read_element e t at ≡ o → got n d ≡ and_then o (λ x q. when ok x then got (number_of e x) q else bad 20 0) → Found ok e t at n d
      go (got x q) r z = by x q r (ok x) refl z
      go (bad c p) r z = not-got (sym z)

  not_found : bad 20 0 ≡ reckoned ok e t at → judged ok e t at ≡ bad 20 0
  unfolding reckoned judged heed when◌then◌else◌ ◌>>=◌ ◌>>◌ give
  not_found h = go (read_element e t at) h
    where
      by : (x : Element) (q : ℕ) (b : Bool) → bad 20 0 ≡ (when b then got (number_of e x) q else bad 20 0) → and_then (when b then got (tt {0}) q else bad 20 0) (λ u p. got x p) ≡ bad 20 0
      by x q true z = not-got z
      by x q false z = refl

      go :
          (o : Out Element) → bad 20 0 ≡ and_then o (λ x q. when ok x then got (number_of e x) q else bad 20 0)
          → and_then o (λ x q. and_then (when ok x then got (tt {0}) q else bad 20 0) (λ u p. got x p)) ≡ bad 20 0
      go (got x q) z = by x q (ok x) z
      go (bad c p) z =
          let x : c ≡ 20 = cc z in
          let y : p ≡ 0 = cc z in
          rw (x, y)

module _ (ok : Element → Bool) (e : ℕ) (t : List ℕ) (from : ℕ) where
  pub next-no-tab : bad 20 0 ≡ byte_is tab t from → behind_tab ok e t from ≡ bad 20 0
  unfolding behind_tab ◌>>◌
  next-no-tab h = rw (← h)

  module _ {u : Unit {0}} {p : ℕ} (tabbed : got u p ≡ byte_is tab t from) where
    pub next-no-word : bad 20 0 ≡ reckoned ok e t p → behind_tab ok e t from ≡ bad 20 0
    unfolding behind_tab ◌>>◌
    next-no-word h = rw (← tabbed) (not_found ok e t p h)

    module _ {n d : ℕ} (word : got n d ≡ reckoned ok e t p) (writes : (x : Element) → ok x ≡ true → Writes e x) where
      pub next_fits : n < bound_in e
      next_fits = let F = found ok e t p word in rw F.number (writes F.element F.keeps).fits

      pub next-lays : {l m : List ℕ} {at r : ℕ} (k : Taken) → k.next.at ≡ d → k.at ≡ r → Laid l at (in_bytes e n) m r → Lays (behind_tab ok e) (put_element e) t from l at m k
      unfolding behind_tab judged heed when◌then◌else◌ ◌>>=◌ ◌>>◌ give
      next-lays k x y L =
          let F = found ok e t p word in
          record {
            value = F.element;
            reads = rw (← tabbed, F.reads, F.keeps, x);
            laid = rw y (laid_as L (ap (in_bytes e) F.number ∙ sym (writes F.element F.keeps).bytes));
          }

-- the same reading in other words
pub told-as :
    {A : Type 0} {r q : Reader A} {w : A → List ℕ} {t : List ℕ} {from to : ℕ} {l : List ℕ} {at : ℕ} {m : List ℕ} {o : prelude.Option Taken}
    → r t from ≡ q t to → Told q w t to l at m o → Told r w t from l at m o
told-as same (takes k L) = takes k (record { value = L.value; reads = same ∙ L.reads; laid = L.laid })
told-as same (refuses h) = refuses (same ∙ h)

-- ── an annotation ──

module _ (pools t : List ℕ) (from : ℕ) where
  pub noted-none : bad 20 0 ≡ ended tab natural t from → noted pools t from ≡ bad 20 0
  unfolding noted ◌>>=◌
  noted-none h = rw (← h)

  module _ {a p : ℕ} (name : got a p ≡ ended tab natural t from) where
    pub noted-half : bad 20 0 ≡ natural t p → noted pools t from ≡ bad 20 0
    unfolding noted ◌>>=◌
    noted-half h = rw (← name, ← h)

    module _ {b q : ℕ} (object : got b q ≡ natural t p) {c : Bool} (asked : c ≡ placed? pools a b) where
      pub noted-wrong : not c ≡ true → noted pools t from ≡ bad 20 0
      unfolding noted heed when◌then◌else◌ ◌>>=◌ ◌>>◌
      noted-wrong h = rw (← name, ← object, sym asked ∙ not-true c h)

      pub noted-lays :
          {l m n : List ℕ} {at d r : ℕ} → not c ≡ false → (k : Taken) → k.next.at ≡ q → k.at ≡ r → Laid l at (put a) m d → Laid m d (put b) n r
          → Lays (noted pools) (put_element 5) t from l at n k
      unfolding noted heed when◌then◌else◌ ◌>>=◌ ◌>>◌ give put_element
      noted-lays h k x y L M =
          record {
            value = annotation a b;
            reads = rw (← name, ← object, sym asked ∙ not-false c h, x);
            laid = rw y (laid_then L M);
          }

module _ (strings : ℕ) (pools first last t : List ℕ) where
  -- that is what an element of this kind is held to
  noted-as : (at : ℕ) → judged (kept strings pools first last 5) 5 t at ≡ noted pools t at
  unfolding judged read_element noted kept heed when◌then◌else◌ ◌>>=◌ ◌>>◌ give
  noted-as at =
      then-then (ended tab natural t at) _ _
      ∙ same_then _ _ (parted t at) (λ a p s.
      then-then (natural t p) _ _
      ∙ same_then _ _ (natural-word t p) (λ b q w. rw (lt-ltb a (256 ^ 8) s.below, lt-ltb b (256 ^ 8) w.holds.below)))

  pub next-noted :
      {e from : ℕ} {u : Unit {0}} {p : ℕ} {l : List ℕ} {at : ℕ} {m : List ℕ} {o : prelude.Option Taken} → e ≡ 5 → got u p ≡ byte_is tab t from
      → Told (noted pools) (put_element 5) t p l at m o → Told (behind_tab (kept strings pools first last e) e) (put_element e) t from l at m o
  unfolding behind_tab ◌>>◌
  next-noted {e} {from} {u} {p} is tabbed T = rw is (told-as {r = behind_tab (kept strings pools first last 5) 5} {from = from} (rw (← tabbed) (noted-as p)) T)

-- ── a line ──

module _ {r : Reader (List Element)} {w : List Element → List ℕ} {t : List ℕ} {from : ℕ} {l : List ℕ} {at : ℕ} {m : List ℕ} {o : prelude.Option Taken} (T : Told r w t from l at m o) where
  pub rest-bad : o ≡ None → ended newline r t from ≡ bad 20 0
  rest-bad is = sym (ended-not newline r t from (sym (was-bad T is)))

  module _ {k : Taken} (is : o ≡ Some k) where
    pub rest-open : bad 20 0 ≡ byte_is newline t k.next.at → ended newline r t from ≡ bad 20 0
    rest-open h = sym (ended-open newline r t from (sym (was-got T is).reads) h)

    pub rest-lays : {u : Unit {0}} {d : ℕ} → got u d ≡ byte_is newline t k.next.at → (j : Taken) → j.next.at ≡ d → j.at ≡ k.at → Lays (ended newline r) w t from l at m j
    rest-lays {u} {d} h j x y =
        let L = was-got T is in
        record { value = L.value; reads = sym (rw x (ended-got newline r t from (sym L.reads) h)); laid = rw y L.laid }

module _ (m : ℕ) (ok : Element → Bool) (e : ℕ) (t : List ℕ) (from : ℕ) where
  pub value-refused : bad 20 0 ≡ literal (118 ∷ 97 ∷ 108 ∷ []) t from → exactly m ok e t from ≡ bad 20 0
  unfolding exactly ascii ◌>>◌
  value-refused h = rw (← h)

  pub value_as : {u : Unit {0}} {q : ℕ} → got u q ≡ literal (118 ∷ 97 ∷ 108 ∷ []) t from → exactly m ok e t from ≡ ended newline (repeat m (behind_tab ok e)) t q
  unfolding exactly ascii ◌>>◌
  value_as h = rw (← h)

-- ── an array that gives its own length ──

repeat-length : {A : Type 0} (r : Reader A) (t : List ℕ) (n at : ℕ) (l : List A) (e : ℕ) → repeat n r t at ≡ got l e → length l ≡ n
repeat-length r t zero at l e q = rw (repeat-none r t at l e q).0
repeat-length r t (suc n) at l e q =
    let F = repeat-first r n t at l e q in
    rw F.is (ap suc (repeat-length r t n F.next F.more e F.rest))

-- the length is that of the elements behind it
line-length : (m : ℕ) (r : Reader Element) (t : List ℕ) (q d : ℕ) (es : List Element) → ended newline (repeat m r) t q ≡ got es d → length es ≡ m
unfolding ended give
line-length m r t q d es h =
    let B = bind_inv (repeat m r) _ t q es d h in
    let C = then-inv (byte_is newline) (give B.value) t B.next es d B.rest in
    let same : B.value ≡ es = cc C.rest in
    sym (ap length same) ∙ repeat-length r t m q B.value B.next B.first

-- so many elements as there are tabs for
pub tabs-over : (w : ℕ) {m n tabs : ℕ} → m ≡ n / w → n ≡ tabs → m ≡ tabs / w
tabs-over w h is = h ∙ ap (λ (x : ℕ). x / w) is

module _ (ok : Element → Bool) (e : ℕ) (t : List ℕ) (from : ℕ) where
  pub list-refused : bad 20 0 ≡ literal (118 ∷ 97 ∷ 108 ∷ []) t from → listed ok e t from ≡ bad 20 0
  unfolding ascii
  list-refused h = listed-refused ok e t from (sym h)

  module _ {u : Unit {0}} {q m : ℕ} (word : got u q ≡ literal (118 ∷ 97 ∷ 108 ∷ []) t from) (count : m ≡ tabs_from t q / words_of e) where
    pub list-long : 65535 < m → listed ok e t from ≡ bad 20 0
    unfolding ascii
    list-long h = listed-many ok e t from (sym word) (omega (arith, count))

    pub list-told :
        {l₁ l₂ l₃ : List ℕ} {at p : ℕ} {o : prelude.Option Taken} → m ≤ 65535 → Laid l₁ at (put m) l₂ p
        → Told (ended newline (repeat m (behind_tab ok e))) (flat (put_element e)) t q l₂ p l₃ o → Told (listed ok e) (put_list e) t from l₁ at l₃ o
    unfolding ascii put_list
    list-told h L (takes k M) =
        let same = listed-as ok e t from (sym word) (omega (arith, count)) in
        let long = line-length m (behind_tab ok e) t q k.next.at M.value M.reads in
        takes k (record {
          value = M.value;
          reads = same ∙ rw (← count) M.reads;
          laid = laid_then (laid_as L (ap put (sym long))) M.laid;
        })
    list-told h L (refuses r) = refuses (listed-as ok e t from (sym word) (omega (arith, count)) ∙ rw (← count) r)

-- ── a chunk ──

module _ {A : Type 0} (r q : Reader A) (t : List ℕ) (same : (p : ℕ) → r t p ≡ q t p) where
  repeat-same : (n p : ℕ) → repeat n r t p ≡ repeat n q t p
  repeat-same zero p = repeat-over r t p ∙ sym (repeat-over q t p)
  repeat-same (suc n) p = rw (repeat-more r n t p, repeat-more q n t p, same p) (go (q t p) (repeat-same n))
    where
      go : (o : Out A) → ((d : ℕ) → repeat n r t d ≡ repeat n q t d) → and_then o (λ a d. and_then (repeat n r t d) λ l c. got (a ∷ l) c) ≡ and_then o (λ a d. and_then (repeat n q t d) λ l c. got (a ∷ l) c)
      go (got a d) more = rw (more d)
      go (bad c d) more = refl

  -- what is written is the same of all that is read
  module _ (w v : A → List ℕ) (alike : (p : ℕ) (a : A) (d : ℕ) → q t p ≡ got a d → w a ≡ v a) where
    flat-same : (n p : ℕ) (l : List A) (d : ℕ) → repeat n q t p ≡ got l d → flat w l ≡ flat v l
    unfolding flat
    flat-same zero p l d h = rw (repeat-none q t p l d h).0
    flat-same (suc n) p l d h =
        let F = repeat-first q n t p l d h in
        rw (F.is, alike p F.value F.next F.first, flat-same n F.next F.more d F.rest)

    pub told-all :
        (n : ℕ) {from : ℕ} {l : List ℕ} {at : ℕ} {m : List ℕ} {o : prelude.Option Taken} → Told (repeat n q) (flat w) t from l at m o → Told (repeat n r) (flat v) t from l at m o
    told-all n {from} (takes k L) =
        takes k (record {
          value = L.value;
          reads = repeat-same n from ∙ L.reads;
          laid = laid_as L.laid (flat-same n from L.value k.next.at L.reads);
        })
    told-all n {from} (refuses h) = refuses (repeat-same n from ∙ h)

all_same : (f g : Element → Bool) → ((x : Element) → f x ≡ g x) → (l : List Element) → all f l ≡ all g l
unfolding all
all_same f g same [] = refl
all_same f g same (x ∷ l) = rw (same x, all_same f g same l)

all_true : (l : List Element) → all (λ x. true) l ≡ true
unfolding all
all_true [] = refl
all_true (x ∷ l) = all_true l

-- a line held to the same test in other words
tested-same : (f g : List Element → Bool) → ((v : List Element) → f v ≡ g v) → (e : ℕ) (t : List ℕ) (at : ℕ) → tested f e t at ≡ tested g e t at
unfolding tested heed ◌>>=◌ ◌>>◌ give when◌then◌else◌
tested-same f g same e t at = go (read_value e t at)
  where
    go :
        (o : Out (List Element))
        → and_then o (λ v d. and_then (when f v then got (tt {0}) d else bad 20 0) (λ u p. got v p)) ≡ and_then o (λ v d. and_then (when g v then got (tt {0}) d else bad 20 0) (λ u p. got v p))
    go (got v d) = rw (same v)
    go (bad n p) = refl

-- a constant's kind
record Constant (k a e : ℕ) : Type 0 where
  value : ℤ
  is : kind_from k a e ≡ constant k value

kind-constant : (k a e : ℕ) → k ≤ 4 → Constant k a e
unfolding kind_from when◌then◌else◌
kind-constant k a e h =
    elim (dec_le k 3) [
      | yes d ↦ record { value = signed (2 ^ k) a; is = rw (le-leb k 3 d) }
      | no d ↦ (let four : k ≡ 4 = omega (arith, lt_of_not-le d) in record { value = signed 8 a; is = rw four })
    ]

-- no elements are the same of every kind
exactly-none : (f g : Element → Bool) (e d : ℕ) (t : List ℕ) (p : ℕ) → exactly 0 f e t p ≡ exactly 0 g d t p
unfolding exactly repeat times each
exactly-none f g e d t p = refl

none_read : (ok : Element → Bool) (e : ℕ) (t : List ℕ) (p : ℕ) (v : List Element) (d : ℕ) → exactly 0 ok e t p ≡ got v d → v ≡ []
unfolding exactly
none_read ok e t p v d h =
    let B = then-inv (literal (ascii "val")) (ended newline (repeat 0 (behind_tab ok e))) t p v d h in
    empty v (line-length 0 (behind_tab ok e) t B.next d v B.rest)
  where
    empty : (l : List Element) → length l ≡ 0 → l ≡ []
    empty [] h = refl
    empty (x ∷ l) h = absurd (omega arith)

-- the line of a value, as code reads it
module _ {s : State} {e strings : ℕ} {pools first last : List ℕ} (K : Known s e strings pools first last) (t : List ℕ) (p : ℕ) where
  text-constant : (k : ℕ) (z : ℤ) → value_text s (constant k z) t p ≡ exactly 0 (kept strings pools first last e) e t p
  unfolding value_text read_line value? tested
  text-constant k z =
      line-exactly (λ x. true) 0 t (λ v. eqb (length v) 0) 0 (omega arith) (λ v. rw (all_true v) (sym (and_yes (eqb (length v) 0)))) p
      ∙ exactly-none (λ x. true) (kept strings pools first last e) 0 e t p

  module _ (kind : element_kind? e ≡ true) where
    all-kept : (v : List Element) → all (element? s e) v ≡ all (kept strings pools first last e) v
    all-kept = all_same (element? s e) (kept strings pools first last e) (kept-known K kind)

    text-exactly : (m : ℕ) → m ≤ 65535 → tested (λ v. eqb (length v) m && all (element? s e) v) e t p ≡ exactly m (kept strings pools first last e) e t p
    text-exactly m h = line-exactly (kept strings pools first last e) e t _ m h (λ v. rw (all-kept v)) p

    text-listed : tested (λ v. number? small_rules (length v) && all (element? s e) v) e t p ≡ listed (kept strings pools first last e) e t p
    unfolding listed
    text-listed = tested-same _ _ (λ v. rw (all-kept v)) e t p

module _ (n k a e strings : ℕ) (pools first last t : List ℕ) {from : ℕ} {l : List ℕ} {at : ℕ} {m : List ℕ} {o : prelude.Option Taken} where
  -- what is written where nothing is read is nothing
  pub chunk-constant : k ≤ 4 → Told (repeat n (exactly 0 (kept strings pools first last e) e)) (flat (flat (put_element e))) t from l at m o → ChunkTaken n k a e strings pools first last t from l at m o
  unfolding put_value flat
  chunk-constant h T =
      let C = kind-constant k a e h in
      record {
        told = λ s K. rw C.is
            (told-all _ _ t (λ p. text-constant K t p k C.value) (flat (put_element e)) (λ es. [])
            (λ p v d q. ap (flat (put_element e)) (none_read (kept strings pools first last e) e t p v d q)) n T);
      }

  module _ (kind : element_kind? e ≡ true) where
    pub chunk-array : k ≡ 15 → a ≤ 65535 → Told (repeat n (exactly a (kept strings pools first last e) e)) (flat (flat (put_element e))) t from l at m o → ChunkTaken n k a e strings pools first last t from l at m o
    unfolding value_text read_line value? tested put_value
    chunk-array h le T =
        record {
          told = λ s K. rw (kind-array k a e h)
              (told-all _ _ t (λ p. text-exactly K t p kind a le) (flat (put_element e)) (λ es. flat (put_element e) es) (λ p v d q. refl) n T);
        }

    pub chunk-plain :
        4 < k → (k ≡ 15 → ⊥) → (17 ≤ k → 19 < k) → (k ≡ 20 → ⊥) → Told (repeat n (exactly 1 (kept strings pools first last e) e)) (flat (flat (put_element e))) t from l at m o
        → ChunkTaken n k a e strings pools first last t from l at m o
    unfolding value_text read_line value? tested put_value
    chunk-plain h x y z T =
        record {
          told = λ s K. rw (kind-plain k a e h x y z)
              (told-all _ _ t (λ p. text-exactly K t p kind 1 (omega arith)) (flat (put_element e)) (λ es. flat (put_element e) es) (λ p v d q. refl) n T);
        }

    pub chunk-lists : 17 ≤ k → k ≤ 19 → Told (repeat n (listed (kept strings pools first last e) e)) (flat (put_list e)) t from l at m o → ChunkTaken n k a e strings pools first last t from l at m o
    unfolding value_text read_line value? tested put_value put_list
    chunk-lists h le T =
        record {
          told = λ s K. rw (kind-many k a e h le)
              (told-all _ _ t (λ p. text-listed K t p kind) (put_list e) (λ es. put (length es) ++ flat (put_element e) es) (λ p v d q. refl) n T);
        }

-- A line of exactly so many elements, each held to the rules as it is read: the same as a line that is read first and held to
-- them then. Assumes nothing.
use Rattle.std.specs.Prelude.{◌≡◌, Bool, ◌&&◌, eqb, get_or}
use Rattle.std.proofs.Math.Path.{refl, sym}
use Rattle.std.proofs.Common.{◌∙◌, arith}
use Rattle.std.proofs.Math.Bool.{true, false}
use mathlib.Core.List.{List, [], ◌∷◌}
use Prim.Native.Nat.{ℕ, zero, suc, ◌+◌, ◌-◌, ◌*◌, ◌/◌, ◌^◌, ◌≤◌, ◌<◌}
use Rattle.std.proofs.Math.Decide.{ℕ_discrete}
use Rattle.std.proofs.Math.Dec.{eqb-zero-suc, eqb-suc-zero, eqb-suc-suc}
use Rattle.std.proofs.Math.ListN.{length}
use borrow.Author.Tests.{eq-eqb, ne_eqb, lt-ltb, le-leb}
use Rattle.paper.specs.Reader.{when◌then◌else◌, Reader, Out, got, no as bad, and_then, ◌>>=◌, ◌>>◌, give, each, times, repeat}
use Rattle.paper.specs.Lists.{all}
use Rattle.paper.specs.Ledger.{Element}
use Rattle.paper.specs.Listing.{ascii, tab, newline}
use Rattle.paper.specs.Scan.{heed, byte_is, literal, ended, read_element, tabbed, read_value}
use Rattle.paper.specs.Bounds.{most_objects}
use Rattle.paper.specs.Rules.{small_rules}
use Rattle.paper.specs.Keeps.{hold?, number?}
use Rattle.texts.specs.Quiet.{tabs_from, at-newline, Fate, refused-then, same_then, byte-fate, words_of, Worded, element-word, Counted, tabbed-counts}

-- ── the readings in the order of the code ──

-- an element of kind e that is held to a rule
unfoldable pub judged : (Element → Bool) → ℕ → Reader Element
judged ok e = do
  x ← read_element e
  heed (ok x)
  give x

unfoldable pub behind_tab : (Element → Bool) → ℕ → Reader Element
behind_tab ok e = byte_is tab >> judged ok e

-- the line of a value with m elements
unfoldable pub exactly : ℕ → (Element → Bool) → ℕ → Reader (List Element)
exactly m ok e = literal (ascii "val") >> ended newline (repeat m (behind_tab ok e))

-- a line that is held to a rule when it is read
unfoldable pub tested : (List Element → Bool) → ℕ → Reader (List Element)
tested test e = do
  v ← read_value e
  heed (test v)
  give v

-- ── one byte ──

byte-other : (b : ℕ) (t : List ℕ) (at : ℕ) → (get_or t at 256 ≡ b → ⊥) → byte_is b t at ≡ bad 20 0
unfolding byte_is when◌then◌else◌
byte-other b t at n = rw (ne_eqb (get_or t at 256) b n)

byte-here : (b : ℕ) (t : List ℕ) (at : ℕ) → get_or t at 256 ≡ b → byte_is b t at ≡ got tt (at + 1)
unfolding byte_is when◌then◌else◌
byte-here b t at h = rw (eq-eqb (get_or t at 256) b h)

-- ── so many ──

pub repeat-more :
    {A : Type 0} (r : Reader A) (n : ℕ) (t : List ℕ) (at : ℕ) → repeat (suc n) r t at ≡ and_then (r t at) (λ a e. and_then (repeat n r t e) λ l d. got (a ∷ l) d)
unfolding repeat times each ◌>>=◌ give
repeat-more r n t at = refl

pub repeat-some :
    {A : Type 0} (r : Reader A) (t : List ℕ) (at n : ℕ) → 0 < n → repeat n r t at ≡ and_then (r t at) (λ a e. and_then (repeat (n - 1) r t e) λ l d. got (a ∷ l) d)
repeat-some r t at zero h = absurd (omega arith)
repeat-some r t at (suc n) h = let less : suc n - 1 ≡ n = omega arith in rw less (repeat-more r n t at)

pub repeat-over : {A : Type 0} (r : Reader A) (t : List ℕ) (at : ℕ) → repeat 0 r t at ≡ got [] at
unfolding repeat times each give
repeat-over r t at = refl

and_no : (b : Bool) → (b && false) ≡ false
and_no true = refl
and_no false = refl

-- one reading after two
pub then-then : {A B C : Type 0} (o : Out A) (k : A → ℕ → Out B) (l : B → ℕ → Out C) → and_then (and_then o k) l ≡ and_then o (λ a e. and_then (k a e) l)
then-then (got a e) k l = refl
then-then (bad n p) k l = refl

-- ── elements behind tabs ──

module _ (ok : Element → Bool) (e : ℕ) (t : List ℕ) where
  word : (at : ℕ) → Fate (Worded (words_of e) t at) (read_element e t at)
  word = element-word e t

  -- elements that are read only to be refused
  all-refused : {B : Type 0} (n at : ℕ) (k : List Element → ℕ → Out B) → ((l : List Element) (q : ℕ) → k l q ≡ bad 20 0) → and_then (tabbed n (read_element e) t at) k ≡ bad 20 0
  all-refused n at k h = refused-then k (tabbed-counts (read_element e) (words_of e) t word n at) (λ l q C. h l q)

  module _ {B : Type 0} (at : ℕ) where
    tabbed-tab :
        (n : ℕ) (k : List Element → ℕ → Out B) → get_or t at 256 ≡ tab
        → and_then (tabbed (suc n) (read_element e) t at) k ≡ and_then (read_element e t (at + 1)) (λ x d. and_then (tabbed n (read_element e) t d) λ l q. k (x ∷ l) q)
    unfolding tabbed when◌then◌else◌
    tabbed-tab n k h =
        rw (eq-eqb (get_or t at 256) tab h)
        (then-then (read_element e t (at + 1)) _ k
        ∙ same_then _ _ (word (at + 1)) (λ x d w. then-then (tabbed n (read_element e) t d) (λ l q. got (x ∷ l) q) k))

    tabbed-none : (n : ℕ) (k : List Element → ℕ → Out B) → (get_or t at 256 ≡ tab → ⊥) → and_then (tabbed (suc n) (read_element e) t at) k ≡ k [] at
    unfolding tabbed when◌then◌else◌
    tabbed-none n k h = rw (ne_eqb (get_or t at 256) tab h)

    repeat-tab :
        (m : ℕ) (k : List Element → ℕ → Out B) → get_or t at 256 ≡ tab
        → and_then (repeat (suc m) (behind_tab ok e) t at) k
        ≡ and_then (read_element e t (at + 1)) (λ x d. when ok x then and_then (repeat m (behind_tab ok e) t d) (λ l q. k (x ∷ l) q) else bad 20 0)
    unfolding behind_tab judged heed ◌>>=◌ ◌>>◌ give when◌then◌else◌
    repeat-tab m k h =
        rw (repeat-more (behind_tab ok e) m t at, byte-here tab t at h)
        (then-then (and_then (read_element e t (at + 1)) held) _ k
        ∙ then-then (read_element e t (at + 1)) held _
        ∙ same_then _ _ (word (at + 1)) (λ x d w. go x d (ok x)))
      where
        held : Element → ℕ → Out Element
        held = λ x d. and_then (when ok x then got (tt {0}) d else bad 20 0) λ u q. got x q

        go :
            (x : Element) (d : ℕ) (b : Bool)
            → and_then (and_then (when b then got (tt {0}) d else bad 20 0) (λ u q. got x q)) (λ y q. and_then (and_then (repeat m (behind_tab ok e) t q) (λ l p. got (y ∷ l) p)) k)
            ≡ (when b then and_then (repeat m (behind_tab ok e) t d) (λ l q. k (x ∷ l) q) else bad 20 0)
        go x d true = then-then (repeat m (behind_tab ok e) t d) (λ l p. got (x ∷ l) p) k
        go x d false = refl

    repeat-none : (m : ℕ) (k : List Element → ℕ → Out B) → (get_or t at 256 ≡ tab → ⊥) → and_then (repeat (suc m) (behind_tab ok e) t at) k ≡ bad 20 0
    unfolding behind_tab ◌>>◌
    repeat-none m k h = rw (repeat-more (behind_tab ok e) m t at, byte-other tab t at h)

  -- ── the law ──

  -- what follows the elements of a line: its end, and a test of them
  unfoldable ends : {B : Type 0} → Bool → ℕ → (ℕ → Out B) → Out B
  ends b q k = and_then (byte_is newline t q) λ u d. when b then k d else bad 20 0

  ends-no : {B : Type 0} (q : ℕ) (k : ℕ → Out B) → ends false q k ≡ bad 20 0
  unfolding ends when◌then◌else◌
  ends-no q k = refused-then _ (byte-fate newline t q) (λ u d h. refl)

  ends-tab : {B : Type 0} (b : Bool) (q : ℕ) (k : ℕ → Out B) → get_or t q 256 ≡ tab → ends b q k ≡ bad 20 0
  unfolding ends
  ends-tab b q k h = rw (byte-other newline t q (λ z. omega (arith, h, z)))

  -- no elements at all
  exact_none :
      {B : Type 0} (n at : ℕ) (k : List Element → ℕ → Out B)
      → and_then (tabbed n (read_element e) t at) (λ l q. ends (eqb (length l) 0 && all ok l) q (k l)) ≡ ends true at (k [])
  unfolding all tabbed
  exact_none zero at k = refl
  exact_none (suc n) at k = go (ℕ_discrete (get_or t at 256) tab)
    where
      go :
          Dec (get_or t at 256 ≡ tab)
          → and_then (tabbed (suc n) (read_element e) t at) (λ l q. ends (eqb (length l) 0 && all ok l) q (k l)) ≡ ends true at (k [])
      go (Dec.no d) = tabbed-none at n _ d
      go (Dec.yes d) =
          tabbed-tab at n _ d
          ∙ refused-then _ (word (at + 1)) (λ x d w. all-refused n d _ (λ l q. rw (eqb-suc-zero (length l)) (ends-no q (k (x ∷ l)))))
          ∙ sym (ends-tab true at (k []) d)

  -- elements that are read, counted and judged at the end of the line are m elements, each judged when it is read: whatever is
  -- wrong is refused alike
  exact :
      {B : Type 0} (m n : ℕ) → m ≤ n → (at : ℕ) (k : List Element → ℕ → Out B)
      → and_then (tabbed n (read_element e) t at) (λ l q. ends (eqb (length l) m && all ok l) q (k l))
      ≡ and_then (repeat m (behind_tab ok e) t at) (λ l q. ends true q (k l))
  unfolding all when◌then◌else◌
  exact {B} zero n h at k = exact_none n at k ∙ sym (rw (repeat-over (behind_tab ok e) t at))
  exact {B} (suc m) zero h at k = absurd (omega arith)
  exact {B} (suc m) (suc n) h at k = go (ℕ_discrete (get_or t at 256) tab) (λ d j. exact m n (omega arith) d j)
    where
      go :
          Dec (get_or t at 256 ≡ tab)
          → ((d : ℕ) (j : List Element → ℕ → Out B)
          → and_then (tabbed n (read_element e) t d) (λ l q. ends (eqb (length l) m && all ok l) q (j l)) ≡ and_then (repeat m (behind_tab ok e) t d) (λ l q. ends true q (j l)))
          → and_then (tabbed (suc n) (read_element e) t at) (λ l q. ends (eqb (length l) (suc m) && all ok l) q (k l))
          ≡ and_then (repeat (suc m) (behind_tab ok e) t at) (λ l q. ends true q (k l))
      go (Dec.no d) more = tabbed-none at n _ d ∙ rw (eqb-zero-suc m) (ends-no at (k [])) ∙ sym (repeat-none at m _ d)
      go (Dec.yes d) more = tabbed-tab at n _ d ∙ same_then _ _ (word (at + 1)) (λ x p w. by x p (ok x)) ∙ sym (repeat-tab at m _ d)
        where
          by :
              (x : Element) (p : ℕ) (b : Bool)
              → and_then (tabbed n (read_element e) t p) (λ l q. ends (eqb (suc (length l)) (suc m) && (b && all ok l)) q (k (x ∷ l)))
              ≡ (when b then and_then (repeat m (behind_tab ok e) t p) (λ l q. ends true q (k (x ∷ l))) else bad 20 0)
          by x p true = same_then _ _ (tabbed-counts (read_element e) (words_of e) t word n p) (λ l q C. rw (eqb-suc-suc (length l) m)) ∙ more p (λ l. k (x ∷ l))
          by x p false = all-refused n p _ (λ l q. rw (and_no (eqb (suc (length l)) (suc m))) (ends-no q (k (x ∷ l))))

  -- ── lines ──

  -- what stands behind the word `val`, held to a rule when it is read
  module _ (test : List Element → Bool) where
    unfoldable rest : ℕ → ℕ → Out (List Element)
    rest n q = and_then (ended newline (tabbed n (read_element e)) t q) (λ v. (heed (test v) >> give v) t)

    rest-ends : (n q : ℕ) → rest n q ≡ and_then (tabbed n (read_element e) t q) (λ v d. ends (test v) d (got v))
    unfolding rest ended ends heed ◌>>=◌ ◌>>◌ give when◌then◌else◌
    rest-ends n q =
        then-then (tabbed n (read_element e) t q) _ _
        ∙ same_then _ _ (tabbed-counts (read_element e) (words_of e) t word n q) (λ v d C. then-then (byte_is newline t d) _ _ ∙ same_then _ _ (byte-fate newline t d) (λ u p h. by v p (test v)))
      where
        by : (v : List Element) (p : ℕ) (b : Bool) → and_then (when b then got (tt {0}) p else bad 20 0) (λ u q. got v q) ≡ (when b then got v p else bad 20 0)
        by v p true = refl
        by v p false = refl

    -- where the test is that of exactly m elements
    rest-exact :
        (n m q : ℕ) → m ≤ n → ((v : List Element) (d : ℕ) → Counted (words_of e) t q n v d → get_or t d 256 ≡ newline → test v ≡ (eqb (length v) m && all ok v))
        → rest n q ≡ ended newline (repeat m (behind_tab ok e)) t q
    unfolding ends ended ◌>>=◌ ◌>>◌ give when◌then◌else◌
    rest-exact n m q h same =
        rest-ends n q
        ∙ same_then _ _ (tabbed-counts (read_element e) (words_of e) t word n q) (λ v d C. same_then _ _ (byte-fate newline t d) (λ u p z. rw (same v d C z.0)))
        ∙ exact m n h q (λ v p. got v p)

    rest-none :
        (n q : ℕ) → ((v : List Element) (d : ℕ) → Counted (words_of e) t q n v d → get_or t d 256 ≡ newline → test v ≡ false) → rest n q ≡ bad 20 0
    unfolding ends when◌then◌else◌
    rest-none n q never =
        rest-ends n q
        ∙ refused-then _ (tabbed-counts (read_element e) (words_of e) t word n q) (λ v d C. refused-then _ (byte-fate newline t d) (λ u p z. rw (never v d C z.0)))

    -- a line that is read, and held to its rule then
    tested-rest : (at : ℕ) → tested test e t at ≡ and_then (literal (ascii "val") t at) (λ u. rest most_objects)
    unfolding tested read_value rest ◌>>=◌ ◌>>◌
    tested-rest at = then-then (literal (ascii "val") t at) _ _

    -- a rule that asks for m elements which keep theirs
    pub line-exactly :
        (m : ℕ) → m ≤ most_objects → ((v : List Element) → test v ≡ (eqb (length v) m && all ok v)) → (at : ℕ) → tested test e t at ≡ exactly m ok e t at
    unfolding exactly ◌>>◌
    line-exactly m h same at =
        tested-rest at
        ∙ go (literal (ascii "val") t at)
      where
        go : (o : Out (Unit {0})) → and_then o (λ u. rest most_objects) ≡ and_then o (λ u. ended newline (repeat m (behind_tab ok e)) t)
        go (got u q) = rest-exact most_objects m q h (λ v d C z. same v)
        go (bad n p) = refl

-- ── an array that gives its own length ──

unfoldable pub listed : (Element → Bool) → ℕ → Reader (List Element)
listed ok e = tested (λ v. number? small_rules (length v) && all ok v) e

small-enough : (n : ℕ) → n ≤ most_objects → number? small_rules n ≡ true
unfolding number? hold? small_rules
small-enough n h = rw (lt-ltb n (256 ^ 8) (omega arith), le-leb n most_objects h)

module _ (ok : Element → Bool) (e : ℕ) (t : List ℕ) (at : ℕ) where
  pub listed-refused : literal (ascii "val") t at ≡ bad 20 0 → listed ok e t at ≡ bad 20 0
  unfolding listed
  listed-refused h = tested-rest ok e t _ at ∙ rw h

  module _ {u : Unit {0}} {q : ℕ} (val : literal (ascii "val") t at ≡ got u q) where
    -- so many elements as there are tabs for
    counted : {v : List Element} {d : ℕ} → Counted (words_of e) t q most_objects v d → get_or t d 256 ≡ newline → length v ≡ tabs_from t q / words_of e
    unfolding words_of when◌then◌else◌
    counted {v} {d} C z = go (eqb e 5) C.tabs
      where
        go : (b : Bool) → tabs_from t q ≡ length v * (when b then 2 else 1) + tabs_from t d → length v ≡ tabs_from t q / (when b then 2 else 1)
        go true h = omega (arith, h, at-newline t d z)
        go false h = omega (arith, h, at-newline t d z)

    pub listed-many : most_objects < tabs_from t q / words_of e → listed ok e t at ≡ bad 20 0
    unfolding listed
    listed-many h =
        tested-rest ok e t _ at
        ∙ rw val
        (rest-none ok e t _ most_objects q (λ v d C z. absurd (omega (arith, h, counted C z, C.few))))

    pub listed-as : tabs_from t q / words_of e ≤ most_objects → listed ok e t at ≡ ended newline (repeat (tabs_from t q / words_of e) (behind_tab ok e)) t q
    unfolding listed
    listed-as h =
        tested-rest ok e t _ at
        ∙ rw val
        (rest-exact ok e t _ most_objects (tabs_from t q / words_of e) q h (λ v d C z. rw (small-enough (length v) C.few, eq-eqb (length v) (tabs_from t q / words_of e) (counted C z))))

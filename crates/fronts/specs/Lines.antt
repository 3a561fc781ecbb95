-- The lines of entries without what is known before them: what they say, and its bytes. A text that was read with all rules is
-- read like this too, and has the same bytes. Assumes nothing.
use Rattle.std.specs.Prelude.{◌≡◌, refl, Bool, true, false, List, [], ◌∷◌, ◌++◌, map, ℕ, zero, suc, ◌+◌, ◌-◌, leb, eqb, length, get_or, take, drop, replicate}
use Rattle.std.proofs.Common.{sym, ap, ◌∙◌, append_assoc, arith, zero-add, suc-add, length-append, take-take, leb-true, eqb-true}
use Rattle.std.proofs.Math.Option.{Option, none, some}
use Rattle.std.proofs.lemmas.List.{length-map, length-replicate}
use Rattle.std.proofs.Math.Seq.{take-nil, drop-nil}
use Rattle.paper.specs.Reader.{when◌then◌else◌, Reader, Out, got, no, and_then, ◌>>=◌, ◌>>◌, give, each, times, repeat}
use Rattle.paper.specs.Numbers.{put}
use Rattle.paper.specs.Lists.{flat}
use Rattle.paper.specs.Ledger.{New, Head, Entry, State}
use Rattle.paper.specs.Rules.{type_of, after_head, known_due, field_count_rules, after_new, after_entry, new_dues, entry_dues, dues}
use Rattle.paper.specs.Listing.{ascii, line, old_line}
use Rattle.paper.specs.Keeps.{number?, head?, kind_kept?, new-field?}
use Rattle.paper.specs.Scan.{heed, byte_is, literal, read_type, read_new, new_text, entry_text}
use Rattle.paper.specs.Pieces.{zip}
use Rattle.laws.specs.Put.{put_head, put_new, put_fields, put_entry, put_entries}
use Rattle.laws.specs.Laws.{not-got, bind_inv, bind-got, then-inv, each-inv}
use Rattle.laws.specs.Bools.{and_split, number-split}
use Rattle.values.specs.Filling.{repeat-first, repeat-none}
use Rattle.parse.specs.Answers.{kept_new}
use Rattle.parse.specs.MapLaws.{repeat-empty}

-- ── one behind the other, each with the ends that it needs ──

unfoldable pub needed : {A : Type 0} → (A → ℕ) → List A → ℕ
needed n [] = 0
needed n (v ∷ vs) = n v + needed n vs

unfoldable pub written : {A : Type 0} → (A → ℕ) → (A → List ℕ → List ℕ) → List A → List ℕ → List ℕ
written n w [] es = []
written n w (v ∷ vs) es = w v es ++ written n w vs (drop (n v) es)

-- ── a field ──

-- a line says nothing of a known field, and of a new one its kind and name
abbrev pub Listed : Type 0
Listed = Option New

unfoldable pub old_or : Out (Unit {0}) → Out New → Out Listed
old_or (got u e) o = got none e
old_or (no n p) o = and_then o λ g e. got (some g) e

unfoldable pub field_line : Reader Listed
field_line t at = old_or (literal old_line t at) (kept_new t at)

abbrev pub one_end : Listed → ℕ
one_end f = 1

unfoldable pub field_bytes : Listed → List ℕ → List ℕ
field_bytes f [] = []
field_bytes none (e ∷ es) = put e
field_bytes (some g) (e ∷ es) = put_new (g, e)

pub one_each : (fs : List Listed) → needed one_end fs ≡ length fs
unfolding needed
one_each [] = refl
one_each (f ∷ fs) = let ih = one_each fs in omega arith

-- ── an entry ──

abbrev pub Lines : Type 0
Lines = Head × List Listed

unfoldable pub entry_lines : Reader Lines
entry_lines = do
  h ← read_type
  fs ← repeat h.1 field_line
  give (h.0, fs)

abbrev pub ends_of_entry : Lines → ℕ
ends_of_entry e = length e.1

unfoldable pub entry_bytes : Lines → List ℕ → List ℕ
entry_bytes e es = put_head e.0 ++ put (length e.1) ++ written one_end field_bytes e.1 es

-- the lines of an entry that gives so many known fields
unfoldable pub lines_of : ℕ → Entry → Lines
lines_of known e = (e.head, replicate known none ++ map some e.news)

unfoldable pub all_lines : State → List Entry → List Lines
all_lines s [] = []
all_lines s (e ∷ es) = lines_of (length (known_due s e.head)) e ∷ all_lines (after_entry s e) es

-- ── what is read with all rules ──

-- a byte is one and no other
byte-is : (b : ℕ) (t : List ℕ) (at : ℕ) {u : Unit {0}} {e : ℕ} → byte_is b t at ≡ got u e → get_or t at 256 ≡ b
unfolding byte_is when◌then◌else◌
byte-is b t at {u} {e} h = go (eqb (get_or t at 256) b) refl h
  where
    go : (x : Bool) → eqb (get_or t at 256) b ≡ x → (when x then got tt (at + 1) else no 20 0) ≡ got u e → get_or t at 256 ≡ b
    go true s q = eqb-true (get_or t at 256) b s
    go false s q = not-got q

literal-first : (b : ℕ) (bs t : List ℕ) (at : ℕ) {u : Unit {0}} {e : ℕ} → literal (b ∷ bs) t at ≡ got u e → get_or t at 256 ≡ b
unfolding literal
literal-first b bs t at {u} {e} h = byte-is b t at (then-inv (byte_is b) (literal bs) t at u e h).first

-- a rule that is kept
pub heed-then : {B : Type 0} (b : Bool) (r : Reader B) (t : List ℕ) (at : ℕ) (v : B) (e : ℕ) → (heed b >> r) t at ≡ got v e → (b ≡ true) × (r t at ≡ got v e)
unfolding heed when◌then◌else◌ ◌>>◌
heed-then true r t at v e h = (refl, h)
heed-then false r t at v e h = not-got h

pub give-inv : {A : Type 0} (a : A) (t : List ℕ) (at : ℕ) (v : A) (e : ℕ) → give a t at ≡ got v e → (a ≡ v) × (at ≡ e)
unfolding give
give-inv a t at v e h = (cc h, cc h)

old-first : (t : List ℕ) (at : ℕ) {u : Unit {0}} {e : ℕ} → literal old_line t at ≡ got u e → get_or t at 256 ≡ 111
unfolding old_line line ascii
old-first t at h = literal-first 111 (108 ∷ 100 ∷ 10 ∷ []) t at h

new-first : (t : List ℕ) (at : ℕ) {g : New} {e : ℕ} → read_new t at ≡ got g e → get_or t at 256 ≡ 110
unfolding read_new ascii
new-first t at {g} {e} h = literal-first 110 (101 ∷ 119 ∷ 9 ∷ []) t at (then-inv (literal (ascii "new\t")) _ t at g e h).first

pub old-line : (t : List ℕ) (at : ℕ) {u : Unit {0}} {e : ℕ} → literal old_line t at ≡ got u e → field_line t at ≡ got none e
unfolding field_line old_or
old-line t at h = rw h

-- a line that was read as a new field's does not begin as a known one's
pub new_line : (t : List ℕ) (at : ℕ) {g : New} {e : ℕ} → read_new t at ≡ got g e → kind_kept? g.kind ≡ true → field_line t at ≡ got (some g) e
unfolding field_line old_or kept_new heed when◌then◌else◌ give ◌>>=◌ ◌>>◌
new_line t at {g} {e} h kept = go (literal old_line t at) refl
  where
    go : (o : Out (Unit {0})) → literal old_line t at ≡ o → old_or o (kept_new t at) ≡ got (some g) e
    go (got u d) is = let x = old-first t at is in let y = new-first t at h in absurd (omega arith)
    go (no n p) is = rw (h, kept)

module _ {A : Type 0} (r : Reader A) (t : List ℕ) where
  repeat-cons :
      (n at : ℕ) {a : A} {m : ℕ} {l : List A} {e : ℕ} → r t at ≡ got a m → repeat n r t m ≡ got l e → repeat (suc n) r t at ≡ got (a ∷ l) e
  unfolding repeat times each give ◌>>=◌
  repeat-cons n at h k = rw (h, k)

  repeat-append :
      (n k at : ℕ) (l : List A) (m : ℕ) {l₂ : List A} {e : ℕ} → repeat n r t at ≡ got l m → repeat k r t m ≡ got l₂ e → repeat (n + k) r t at ≡ got (l ++ l₂) e
  repeat-append zero k at l m h q =
      let N = repeat-none r t at l m h in
      rw (zero-add, N.0, N.1) q
  repeat-append (suc n) k at l m {l₂} {e} h q =
      let F = repeat-first r n t at l m h in
      rw (suc-add, F.is) (repeat-cons (n + k) at F.first (repeat-append n k F.next F.more m F.rest q))

olds-read : (t : List ℕ) (k at : ℕ) (us : List (Unit {0})) (e : ℕ) → repeat k (literal old_line) t at ≡ got us e → repeat k field_line t at ≡ got (replicate k none) e
olds-read t zero at us e h = repeat-empty field_line t at ∙ ap (got []) (repeat-none (literal old_line) t at us e h).1
olds-read t (suc k) at us e h =
    let F = repeat-first (literal old_line) k t at us e h in
    repeat-cons field_line t k at (old-line t at F.first) (olds-read t k F.next F.more e F.rest)

new-read : (y : ℕ) (s : State) (t : List ℕ) (at : ℕ) (g : New) (e : ℕ) → new_text y s t at ≡ got g e → field_line t at ≡ got (some g) e
unfolding new_text new-field? give
new-read y s t at g e h =
    let A = bind_inv read_new _ t at g e h in
    let (rules, given) = heed-then (new-field? y s A.value) _ t A.next g e A.rest in
    let (is, last) = give-inv A.value t A.next g e given in
    let kept = (and_split (kind_kept? A.value.kind) _ rules).0 in
    new_line t at A.first kept ∙ rw (is, last)

-- one of so many, each in the state that those before it lead to
record FirstOf {S A : Type 0} (read : S → Reader A) (after : S → A → S) (n : ℕ) (s : S) (f : List ℕ) (at : ℕ) (l : List A) (e : ℕ) : Type 0 where
  value : A
  next : ℕ
  more : List A
  first : read s f at ≡ got value next
  rest : times n read after (after s value) f next ≡ got more e
  is : l ≡ value ∷ more

module _ {S A : Type 0} (read : S → Reader A) (after : S → A → S) (s : S) (f : List ℕ) (at : ℕ) (l : List A) (e : ℕ) where
  times-first : (n : ℕ) → times (suc n) read after s f at ≡ got l e → FirstOf read after n s f at l e
  unfolding times
  times-first n q =
      let F = each-inv (λ u x. read u) after (tt {0}) (replicate n (tt {0})) s f at l e q in
      record { value = F.value; next = F.next; more = F.more; first = F.first; rest = F.rest; is = F.is }

  times_none : times 0 read after s f at ≡ got l e → (l ≡ []) × (at ≡ e)
  unfolding times each give
  times_none q = (cc q, cc q)

news-read :
    (y : ℕ) (t : List ℕ) (k : ℕ) (s : State) (at : ℕ) (gs : List New) (e : ℕ) → times k (new_text y) (after_new y) s t at ≡ got gs e
    → repeat k field_line t at ≡ got (map some gs) e
news-read y t zero s at gs e h =
    let N = times_none (new_text y) (after_new y) s t at gs e h in
    rw (N.0, ← N.1) (repeat-empty field_line t at)
news-read y t (suc k) s at gs e h =
    let F = times-first (new_text y) (after_new y) s t at gs e k h in
    rw F.is
    (repeat-cons field_line t k at (new-read y s t at F.value F.next F.first) (news-read y t k (after_new y s F.value) F.next F.more e F.rest))

fields_read :
    (y : ℕ) (s : State) (t : List ℕ) (known n at m : ℕ) (us : List (Unit {0})) (gs : List New) (d q : ℕ) → leb known n ≡ true
    → repeat known (literal old_line) t at ≡ got us m → times (n - known) (new_text y) (after_new y) s t m ≡ got gs d → d ≡ q
    → repeat n field_line t at ≡ got (replicate known none ++ map some gs) q
fields_read y s t known n at m us gs d q few old new last =
    let all : known + (n - known) ≡ n = omega (arith, leb-true known n few) in
    let both = repeat-append field_line t known (n - known) at (replicate known none) m (olds-read t known at us m old) (news-read y t (n - known) s m gs d new) in
    rw (all, last) at both

-- an entry: the number of its fields is that of its lines
entry_read : (s : State) (t : List ℕ) (at : ℕ) (e : Entry) (q : ℕ) → entry_text s t at ≡ got e q → entry_lines t at ≡ got (lines_of (length (known_due s e.head)) e) q
unfolding entry_text entry_lines lines_of give field_count_rules
entry_read s t at e q h =
    let A = bind_inv read_type _ t at e q h in
    let head = A.value.0 in
    let n = A.value.1 in
    let known = length (known_due s head) in
    let y = type_of s head.name in
    let (u, behind) = heed-then (head? s head) _ t A.next e q A.rest in
    let (v, lines) = heed-then (number? (field_count_rules (after_head s head) known) n) _ t A.next e q behind in
    let D = bind_inv (repeat known (literal old_line)) _ t A.next e q lines in
    let E = bind_inv (times (n - known) (new_text y) (after_new y) (after_head s head)) _ t D.next e q D.rest in
    let (is, last) = give-inv (record { head = head; news = E.value }) t E.next e q E.rest in
    let few : leb known n ≡ true = (number-split (field_count_rules (after_head s head) known) n v).1.1.0 in
    let fields = fields_read y (after_head s head) t known n A.next D.next D.value E.value E.next q few D.first E.first last in
    let after : Out Lines = (repeat n field_line >>= λ fs. give (head, fs)) t A.next in
    ◌∙◌ {b = after} (bind-got read_type _ t at A.first) (bind-got (repeat n field_line) _ t A.next fields)
    ∙ ap (λ (x : Entry). got (lines_of (length (known_due s x.head)) x) q) is

pub entries-read :
    (t : List ℕ) (n : ℕ) (s : State) (at : ℕ) (es : List Entry) (q : ℕ) → times n entry_text after_entry s t at ≡ got es q
    → repeat n entry_lines t at ≡ got (all_lines s es) q
unfolding all_lines
entries-read t zero s at es q h =
    let N = times_none entry_text after_entry s t at es q h in
    rw (N.0, ← N.1) (repeat-empty entry_lines t at)
entries-read t (suc n) s at es q h =
    let F = times-first entry_text after_entry s t at es q n h in
    rw F.is
    (repeat-cons entry_lines t n at (entry_read s t at F.value F.next F.first) (entries-read t n (after_entry s F.value) F.next F.more q F.rest))

-- ── the same bytes ──

zip-none : {A B : Type 0} (xs : List A) → zip {A = A} {B = B} xs [] ≡ []
unfolding zip
zip-none [] = refl
zip-none (x ∷ xs) = refl

zip-take : {A B : Type 0} (xs : List A) (ys : List B) → zip xs (take (length xs) ys) ≡ zip xs ys
unfolding zip
zip-take [] ys = refl
zip-take (x ∷ xs) [] = refl
zip-take {A} {B} (x ∷ xs) (y ∷ ys) = ap (λ (l : List (A × B)). (x, y) ∷ l) (zip-take xs ys)

drop-take : {A : Type 0} (k n : ℕ) (l : List A) → drop k (take (k + n) l) ≡ take n (drop k l)
drop-take zero n l = rw zero-add
drop-take (suc k) n [] = rw suc-add (sym (take-nil n))
drop-take (suc k) n (x ∷ l) = rw suc-add (drop-take k n l)

olds-written :
    (k : ℕ) (fs : List Listed) (es : List ℕ)
    → written one_end field_bytes (replicate k none ++ fs) es ≡ flat put (take k es) ++ written one_end field_bytes fs (drop k es)
unfolding written flat field_bytes
olds-written zero fs es = refl
olds-written (suc k) fs [] = olds-written k fs [] ∙ rw (take-nil k, drop-nil k)
olds-written (suc k) fs (e ∷ es) =
    ap (λ (w : List ℕ). put e ++ w) (olds-written k fs es) ∙ sym (append_assoc (put e) (flat put (take k es)) (written one_end field_bytes fs (drop k es)))

news-written : (gs : List New) (es : List ℕ) → written one_end field_bytes (map some gs) es ≡ flat put_new (zip gs es)
unfolding written flat field_bytes zip
news-written [] es = refl
news-written (g ∷ gs) [] = news-written gs [] ∙ rw (zip-none {A = New} {B = ℕ} gs)
news-written (g ∷ gs) (e ∷ es) = ap (λ (w : List ℕ). put_new (g, e) ++ w) (news-written gs es)

lines_long : (known : ℕ) (e : Entry) → ends_of_entry (lines_of known e) ≡ known + length e.news
unfolding lines_of
lines_long known e = rw (length-append, length-replicate, length-map)

entry-same : (known : ℕ) (e : Entry) (es : List ℕ) → put_entry known (e, take (known + length e.news) es) ≡ entry_bytes (lines_of known e) es
unfolding put_entry put_fields entry_bytes lines_of
entry-same known e es =
    let n = length e.news in
    let first : take known (take (known + n) es) ≡ take known es = take-take known (known + n) es (omega arith) in
    let rest : zip e.news (drop known (take (known + n) es)) ≡ zip e.news (drop known es) = rw (drop-take known n es) (zip-take e.news (drop known es)) in
    let fields = olds-written known (map some e.news) es ∙ ap (λ (w : List ℕ). flat put (take known es) ++ w) (news-written e.news (drop known es)) in
    rw (first, rest, lines_long known e)
    (rw fields
    (sides (put_head e.head) (put (known + n)) (flat put (take known es)) (flat put_new (zip e.news (drop known es)))))
  where
    sides : (a b c d : List ℕ) → a ++ (b ++ c ++ d) ≡ a ++ b ++ (c ++ d)
    sides a b c d = ap (λ (w : List ℕ). a ++ w) (append_assoc b c d) ∙ sym (append_assoc a b (c ++ d))

pub entries-same : (s : State) (es : List Entry) (ends : List ℕ) → put_entries s es ends ≡ written ends_of_entry entry_bytes (all_lines s es) ends
unfolding put_entries written all_lines
entries-same s [] ends = refl
entries-same s (e ∷ es) ends =
    let known = length (known_due s e.head) in
    rw (lines_long known e, entry-same known e ends, entries-same (after_entry s e) es (drop (known + length e.news) ends))

-- ── as many ends as chunks ──

news-due : (i n : ℕ) (gs : List New) → length (new_dues i n gs) ≡ length gs
unfolding new_dues
news-due i n [] = refl
news-due i n (g ∷ gs) = ap suc (news-due (suc i) n gs)

pub ends-due : (s : State) (es : List Entry) → needed ends_of_entry (all_lines s es) ≡ length (dues s es)
unfolding needed all_lines dues entry_dues
ends-due s [] = refl
ends-due s (e ∷ es) =
    rw (lines_long (length (known_due s e.head)) e, ends-due (after_entry s e) es, length-append, length-append, length-map, news-due)

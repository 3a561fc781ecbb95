-- The listing: what is read is what is printed, and keeps the rules; and back. Assumes nothing.
use Rattle.std.specs.Prelude.{◌≡◌, refl, Bool, true, false, ◌&&◌, List, [], ◌∷◌, ◌++◌, ℕ, ◌+◌, ◌-◌, ◌≤◌, ◌<◌, eqb, length, replicate}
use Rattle.std.proofs.Common.{sym, ◌∙◌, ap, append_assoc, append-nil, arith, leb-true, eqb-true, eq-eqb}
use Rattle.std.proofs.Math.Option.{Option, none, some}
use Rattle.std.proofs.lemmas.List.{length-replicate}
use Rattle.paper.specs.Reader.{Reader, got, ◌>>=◌, ◌>>◌, give, times, Rule}
use Rattle.paper.specs.Bounds.{most_pairs}
use Rattle.paper.specs.Lists.{all, flat, given?, or}
use Rattle.paper.specs.Ledger.{mapping, Kind, constant, plain, array, many, Element, Entry, Chunk, Pair, Ledger, Due, State, nothing, field_at}
use Rattle.paper.specs.Rules.{small_rules, strings_rules, with_strings, new?, type_of, type_name_rules, super_name_rules, super_of, count_rules, after_head, known_due, field_count_rules, field_name_rules, after_new, after_entry, dues, after_front, after_pair}
use Rattle.paper.specs.Listing.{ascii, line, pair_line, string_line, old_line, new_line, value_line, print_entry, print_entries, print_chunk, print_pair, print_pairs, print}
use Rattle.paper.specs.Keeps.{in_turn, number?, only?, bytes?, head?, kind_kept?, new-field?, entry?, element?, value?, chunk?, chunks?, pair?}
use Rattle.paper.specs.Scan.{bad, heed, literal, read_string, new_text, entry_text, read_line, value_text, chunk_text, pair_text, scan}
use Rattle.laws.specs.Says.{Bytes, Says, weaker, give-says, bind-says, then-says, each-says, Run}
use Rattle.laws.specs.Takes.{Takes, takes-as, give-takes, bind-takes, then-takes, each-takes, written, written-flat, All₂}
use Rattle.laws.specs.Bools.{not_so, and_split, and-join, every-split, every-join, number-split}
use Rattle.laws.specs.Values.{Kept, Taken, repeat-kept, repeat-taken}
use Rattle.laws.specs.ToEnd.{whole-kept, whole-taken, whole-bytes}
use Rattle.laws.specs.Before.{heed-says, heed-takes, bad-never}
use Rattle.laws.specs.Words.{Fits}
use Rattle.laws.specs.Lines.{pair-says, pair-takes, string-kept, string-taken, type-says, type-takes, old-says, old-takes, new-says, new-takes, value-says, value-takes, map-line-says, map-line-takes}
use Rattle.laws.specs.Turns.{times-kept, times-taken, turn-also}
use Rattle.laws.specs.Arrays.{short-arrays?, nothing-short, front-short, pair-short, short?, row?, kind-short, field-kind-short}

-- ── a line and its rule ──

heeded-kept : {A : Type 0} {r : Reader A} (w : A → List ℕ) (ok : A → Bool) → Says r (λ a cs. w a ≡ cs) → Kept (r >>= λ a. heed (ok a) >> give a) w ok
heeded-kept w ok R = bind-says _ R λ a cs p. then-says _ (heed-says (ok a)) λ u ds q. give-says a _ (rw (q.0, append-nil) p, q.1)

heeded-taken : {A : Type 0} {r : Reader A} (ok : A → Bool) {cs : List ℕ} {a : A} → ok a ≡ true → Takes r cs a → Takes (r >>= λ a. heed (ok a) >> give a) cs a
heeded-taken ok {cs} {a} h R = takes-as (append-nil cs) (bind-takes _ R (then-takes (heed-takes h) (give-takes a)))

new-kept : (t : ℕ) (s : State) → Kept (new_text t s) new_line (new-field? t s)
unfolding new_text
new-kept t s = heeded-kept new_line (new-field? t s) new-says

new-taken : (t : ℕ) (s : State) → Taken (new_text t s) new_line (new-field? t s)
unfolding new_text new-field?
new-taken t s g h =
    let (a, b) = and_split (kind_kept? g.kind) _ h in
    heeded-taken (new-field? t s) h (new-takes g a (number-split (field_name_rules t s) g.name b).0)

-- ── entries ──

units : (l : List (Unit {0})) → l ≡ replicate (length l) tt
units [] = refl
units (u ∷ l) = ap (λ (z : List (Unit {0})). tt ∷ z) (units l)

entry_lines : State → Entry → List ℕ
entry_lines s e = print_entry (length (known_due s e.head)) e

entry_kept : (s : State) → Kept (entry_text s) (entry_lines s) (entry? s)
unfolding entry_text entry_lines print_entry entry? field_count_rules
entry_kept s =
    bind-says _ type-says λ h cs p.
    then-says _ (heed-says _) λ u ds q.
    then-says _ (heed-says _) λ u' es r.
    bind-says _ (repeat-kept (literal old_line) (λ u. old_line) (λ u. true) (weaker _ (λ u cs p. (p, refl)) old-says) (length (known_due s h.0))) λ olds gs v.
    bind-says _
    (times-kept (after_new (type_of s h.0.name)) (new-field? (type_of s h.0.name)) (λ s. new_line) (new-kept (type_of s h.0.name)) (h.1 - length (known_due s h.0)) (after_head s h.0))
    λ news hs w. give-says _ _
    (let F = (number-split (field_count_rules (after_head s h.0) (length (known_due s h.0))) h.1 r.1).1 in
    let le = leb-true (length (known_due s h.0)) h.1 F.1.0 in
    let n : length (known_due s h.0) + length news ≡ h.1 = omega (arith, w.1) in
    let g : flat new_line news ≡ hs = sym (written-flat new_line (after_new (type_of s h.0.name)) (after_head s h.0) news) ∙ w.0 in
    (rw (n, ← v.1, ← units olds, p, q.0, r.0, v.0, g) (simp (append_assoc, append-nil)), every-join _ (q.1, (rw n r.1, (w.2, tt)))))

only-fits : (b : Bool) (rules : ℕ → List Rule) (o : Option ℕ) → only? b rules o ≡ true → Fits o
unfolding only?
only-fits true rules none h = tt
only-fits true rules (some n) h = (number-split rules n h).0
only-fits false rules none h = tt
only-fits false rules (some n) h = not_so h

all_yes : {A : Type 0} (l : List A) → all (λ a. true) l ≡ true
unfolding all
all_yes [] = refl
all_yes (a ∷ l) = all_yes l

entry-taken : (s : State) → Taken (entry_text s) (entry_lines s) (entry? s)
unfolding entry_text entry_lines print_entry entry? head?
entry-taken s e h =
    let (a, (b, (c, _))) = every-split _ h in
    let (a₁, (a₂, (a₃, (a₄, _)))) = every-split _ a in
    let super = super_of s e.head.name e.head.super in
    let t = type_of s e.head.name in
    let s₁ = after_head s e.head in
    let k = length (known_due s e.head) in
    let n = length e.news in
    takes-as (simp (append_assoc, append-nil))
    (bind-takes _
    (type-takes e.head (k + n) (number-split (type_name_rules s) e.head.name a₁).0
    (only-fits (new? s e.head.name) (super_name_rules s t) e.head.super a₂)
    (only-fits (given? super) small_rules e.head.start a₃)
    (number-split (count_rules s super (or e.head.start 0)) e.head.count a₄).0
    (number-split (field_count_rules s₁ k) (k + n) b).0)
    (then-takes (heed-takes a)
    (then-takes (heed-takes b)
    (bind-takes _ (repeat-taken (literal old_line) (λ u. old_line) (λ u. true) (λ u h. old-takes) k (replicate k tt) (length-replicate k tt) (all_yes (replicate k tt)))
    (bind-takes _
    (takes-as (written-flat new_line (after_new t) s₁ e.news)
    (times-taken (after_new t) (new-field? t) (λ s. new_line) (new_text t) (new-taken t) (k + n - k) s₁ e.news (omega arith) c))
    (give-takes e))))))

entries-written : (s : State) (l : List Entry) → written entry_lines after_entry s l ≡ print_entries s l
unfolding written print_entries entry_lines
entries-written s [] = refl
entries-written s (e ∷ l) = ap (λ (z : List ℕ). entry_lines s e ++ z) (entries-written (after_entry s e) l)

pub entries-kept : (n : ℕ) (s : State) → Says (times n entry_text after_entry s) (λ es cs. (print_entries s es ≡ cs) × (length es ≡ n) × (in_turn entry? after_entry s es ≡ true))
entries-kept n s = weaker _ (λ es cs k. (sym (entries-written s es) ∙ k.0, k.1, k.2)) (times-kept after_entry entry? entry_lines entry_kept n s)

-- ── chunks ──

line-says : (k : Kind) → Says (read_line k) (λ es cs. value_line es ≡ cs)
unfolding read_line
line-says (constant k v) = value-says 0
line-says (plain k) = value-says k
line-says (array n k) = value-says k
line-says (many c k) = value-says k
line-says (mapping ks) = map-line-says ks

chunk_kept : (s : State) (d : Due) → Kept (chunk_text s d) print_chunk (chunk? s d)
unfolding chunk_text print_chunk chunk? value_text
chunk_kept s d =
    let k = (field_at s d.field).kind in
    weaker _ (λ c cs p. (p.0, and-join (eq-eqb (length c) d.values p.1) p.2))
    (repeat-kept _ value_line (value? s k) (heeded-kept value_line (value? s k) (line-says k)) d.values)

no-elements : (ok : Element → Bool) (l : List Element) → length l ≡ 0 → all ok l ≡ true
unfolding all
no-elements ok [] h = refl
no-elements ok (a ∷ l) h = absurd (omega arith)

line_taken : (s : State) (k : Kind) (es : List Element) → short? k ≡ true → value? s k es ≡ true → Takes (read_line k) (value_line es) es
unfolding read_line value? row?
line_taken s (constant k v) es i h = value-takes s 0 es (no-elements (element? s 0) es (eqb-true (length es) 0 h)) (kind-short s (constant k v) es refl i h)
line_taken s (plain k) es i h = value-takes s k es (and_split (eqb (length es) 1) _ h).1 (kind-short s (plain k) es refl i h)
line_taken s (array n k) es i h = value-takes s k es (and_split (eqb (length es) n) _ h).1 (kind-short s (array n k) es refl i h)
line_taken s (many c k) es i h = value-takes s k es (and_split (number? small_rules (length es)) _ h).1 (kind-short s (many c k) es refl i h)
line_taken s (mapping ks) es i h = map-line-takes s ks es h

chunk-taken : (s : State) → short-arrays? s ≡ true → (d : Due) → Taken (chunk_text s d) print_chunk (chunk? s d)
unfolding chunk_text print_chunk chunk? value_text
chunk-taken s i d c h =
    let k = (field_at s d.field).kind in
    let (a, b) = and_split (eqb (length c) d.values) (all (value? s k) c) h in
    repeat-taken _ value_line (value? s k)
    (λ es v. heeded-taken (value? s k) v (line_taken s k es (field-kind-short s d.field i) v)) d.values c
    (eqb-true (length c) d.values a) b

run-chunks :
    (s : State) (ds : List Due) (u : Unit {0}) (l : List Chunk) (cs : List ℕ) → Run (λ u d c cs. (print_chunk c ≡ cs) × (chunk? s d c ≡ true)) (λ u c. u) ds u l cs
    → (flat print_chunk l ≡ cs) × (chunks? s ds l ≡ true)
unfolding flat chunks?
run-chunks s [] u [] cs r = (sym r, refl)
run-chunks s [] u (c ∷ l) cs r = absurd r
run-chunks s (d ∷ ds) u [] cs r = absurd r
run-chunks s (d ∷ ds) u (c ∷ l) cs (x, y, q, p, r) =
    let ih = run-chunks s ds u l y r in
    (rw (p.0, ih.0) (sym q), and-join p.1 ih.1)

chunks-all :
    (s : State) → short-arrays? s ≡ true → (ds : List Due) (l : List Chunk) → chunks? s ds l ≡ true
    → All₂ (λ (u : Unit {0}) d c. Takes (chunk_text s d) (print_chunk c) c) (λ u c. u) ds tt l
unfolding chunks?
chunks-all s i [] [] h = tt
chunks-all s i [] (c ∷ l) h = not_so h
chunks-all s i (d ∷ ds) [] h = not_so h
chunks-all s i (d ∷ ds) (c ∷ l) h =
    let (a, b) = and_split (chunk? s d c) _ h in
    (chunk-taken s i d c a, chunks-all s i ds l b)

-- ── a pair ──

pub pair-kept : (s : State) → Kept (pair_text s) (print_pair s) (pair? s)
unfolding pair_text print_pair pair?
pair-kept s =
    bind-says _ pair-says λ n cs p.
    then-says _ (heed-says _) λ u es q.
    then-says _ (heed-says _) λ u' gs r.
    bind-says _ (repeat-kept read_string string_line bytes? string-kept n.0) λ strings hs v.
    bind-says _ (times-kept after_entry entry? entry_lines entry_kept n.1 (with_strings s strings)) λ entries is w.
    then-says _ (heed-says _) λ u'' js x.
    bind-says _
    (weaker (λ chunks ks. (flat print_chunk chunks ≡ ks) × (chunks? (after_front s strings entries) (dues (with_strings s strings) entries) chunks ≡ true))
    (run-chunks (after_front s strings entries) (dues (with_strings s strings) entries) tt)
    (each-says _ (λ u d c cs. (print_chunk c ≡ cs) × (chunk? (after_front s strings entries) d c ≡ true)) (λ u. chunk_kept (after_front s strings entries)) (dues (with_strings s strings) entries) tt))
    λ chunks ks y. give-says _ _ (
      rw (v.1, w.1, p, v.0, ← entries-written (with_strings s strings) entries, w.0, q.0, r.0, x.0, y.0) (simp (append_assoc, append-nil)),
      every-join _ (rw v.1 q.1, (v.2, (rw w.1 r.1, (w.2, (x.1, (y.1, tt)))))),
    )

pub pair-taken : (s : State) (p : Pair) → short-arrays? s ≡ true → pair? s p ≡ true → Takes (pair_text s) (print_pair s p) p
unfolding pair_text print_pair pair?
pair-taken s p i h =
    let (a, (b, (c, (d, (e, (g, _)))))) = every-split _ h in
    let s₁ = with_strings s p.strings in
    let s₂ = after_front s p.strings p.entries in
    let n = length p.strings in
    let m = length p.entries in
    takes-as (simp (append_assoc, append-nil))
    (bind-takes _ (pair-takes n m (number-split (strings_rules s) n a).0 (number-split small_rules m c).0)
    (then-takes (heed-takes a)
    (then-takes (heed-takes c)
    (bind-takes _ (repeat-taken read_string string_line bytes? string-taken n p.strings refl b)
    (bind-takes _ (takes-as (entries-written s₁ p.entries) (times-taken after_entry entry? entry_lines entry_text entry-taken m s₁ p.entries refl d))
    (then-takes (heed-takes e)
    (bind-takes _
    (takes-as (written-flat print_chunk (λ u c. u) (tt {0}) p.chunks)
    (each-takes (λ (u : Unit {0}). chunk_text s₂) (λ u c. u) (λ u. print_chunk) (dues s₁ p.entries) tt p.chunks
    (chunks-all s₂ (front-short s p.strings p.entries i d) (dues s₁ p.entries) p.chunks g)))
    (give-takes p))))))))

pair-some : (s : State) (p : Pair) → 0 < length (print_pair s p)
unfolding print_pair pair_line line ascii
pair-some s p = omega arith

-- ── the whole text ──

printed : (s : State) (l : Ledger) → written print_pair after_pair s l ≡ print_pairs s l
unfolding written print_pairs
printed s [] = refl
printed s (p ∷ l) = ap (λ (z : List ℕ). print_pair s p ++ z) (printed (after_pair s p) l)

-- a text is read as a ledger exactly when it is its listing and the ledger keeps the rules, its encoded length aside
pub scan-kept : (t : List ℕ) (l : Ledger) (e : ℕ) → Bytes t → scan t ≡ got l e → (print l ≡ t) × (in_turn pair? after_pair nothing l ≡ true) × (length l ≤ 32)
unfolding scan print
scan-kept t l e b q =
    let k = whole-kept bad bad-never pair_text after_pair print_pair pair? pair-kept most_pairs nothing t l e b q in
    (sym (printed nothing l) ∙ k.0, k.1, k.2)

-- a pair in a state that pairs which keep the rules lead to
kept? : State → Pair → Bool
kept? s p = short-arrays? s && pair? s p

kept-turn : (l : Ledger) → in_turn pair? after_pair nothing l ≡ true → in_turn kept? after_pair nothing l ≡ true
unfolding kept?
kept-turn l h = turn-also after_pair pair? short-arrays? pair-short nothing l nothing-short h

kept-takes : (most : ℕ) (s : State) (p : Pair) → length (print_pair s p) ≤ most → kept? s p ≡ true → Takes (pair_text s) (print_pair s p) p
unfolding kept?
kept-takes most s p le h = let (i, k) = and_split (short-arrays? s) (pair? s p) h in pair-taken s p i k

pub scan-taken : (l : Ledger) → in_turn pair? after_pair nothing l ≡ true → length l ≤ 32 → scan (print l) ≡ got l (length (print l))
unfolding scan print
scan-taken l h le =
    rw (← printed nothing l)
    (whole-taken bad bad-never pair_text after_pair print_pair kept? (length (written print_pair after_pair nothing l)) (kept-takes _) pair-some most_pairs nothing l le (kept-turn l h) (omega arith))

-- what keeps the rules has a listing of bytes
pub print-bytes : (l : Ledger) → in_turn pair? after_pair nothing l ≡ true → Bytes (print l)
unfolding print
print-bytes l h =
    rw (← printed nothing l)
    (whole-bytes bad bad-never pair_text after_pair print_pair kept? (length (written print_pair after_pair nothing l)) (kept-takes _) pair-some l nothing (kept-turn l h) (omega arith))

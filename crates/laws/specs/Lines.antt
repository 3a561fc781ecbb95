-- Lines of the listing: what is read is what would be printed, and what is printed is read. Assumes nothing.
use Rattle.std.specs.Prelude.{◌≡◌, refl, Bool, true, List, [], ◌∷◌, ◌++◌, map, ℕ, zero, suc, ◌^◌, ◌≤◌, ◌<◌, length, get_or}
use Rattle.std.proofs.Common.{sym, ◌∙◌, append_assoc, append-nil, arith}
use Rattle.paper.specs.Reader.{Reader, ◌>>=◌, ◌>>◌, give}
use Rattle.paper.specs.Bounds.{most_objects}
use Rattle.paper.specs.Lists.{flat, all}
use Rattle.paper.specs.Ledger.{mapping, Element, keys, New, Head, State}
use Rattle.paper.specs.Listing.{ascii, tab, newline, decimal, line, pair_line, string_line, or_dash, type_line, old_line, kind_word, new_line, element_word, value_line}
use Rattle.paper.specs.Keeps.{bytes?, kind_kept?, element?, sized?, value?}
use Rattle.paper.specs.Rules.{small_rules}
use Rattle.paper.specs.Maps.{size?, size_of}
use Rattle.paper.specs.Scan.{bad, byte_is, natural, map_words, read_map, literal, read_pair, read_string, read_type, read_new, read_element, tabbed, read_value}
use Rattle.laws.specs.Says.{Says, weaker, give-says, bind-says, then-says}
use Rattle.laws.specs.Takes.{Takes, takes-as, give-takes, bind-takes, then-takes}
use Rattle.laws.specs.Bools.{and_split, number-split}
use Rattle.laws.specs.Values.{Kept, Taken, sized-size}
use Rattle.laws.specs.Maps.{Stand, stand-alone, map-says, map-before, through_same}
use Rattle.laws.specs.Before.{byte_is-says, byte_is-takes, bad-says, before-as, then-before, literal-says, literal-takes, ended-says, ended-takes, word-says, word-takes, peek-says, TakesBefore, Stops, takes-before, bind-before, turn-before, peek-before-yes, peek-before-no}
use Rattle.laws.specs.Words.{natural-says, natural-before, or_none-says, Fits, or_none-before}
use Rattle.laws.specs.Hexes.{hex_bytes-says, hex_bytes-before}
use Rattle.laws.specs.Cells.{kind-says, kind-before, element-says, element-before}

-- ── pair, string, type, old, new ──

pub pair-says : Says read_pair (λ n cs. pair_line n.0 n.1 ≡ cs)
unfolding read_pair pair_line line ascii bytes? all
pair-says =
    then-says _ (literal-says (ascii "pair\t") refl) λ u cs p.
    bind-says _ (word-says decimal tab (omega arith) natural-says) λ n ds q.
    bind-says _ (word-says decimal newline (omega arith) natural-says) λ m es r.
    give-says (n, m) _ (rw (← p, ← q, ← r) (simp (append_assoc, append-nil)))

pub pair-takes : (n m : ℕ) → n < 2 ^ 64 → m < 2 ^ 64 → Takes read_pair (pair_line n m) (n, m)
unfolding read_pair pair_line line ascii bytes? all
pair-takes n m h k =
    takes-as (simp (append_assoc, append-nil))
    (then-takes (literal-takes (ascii "pair\t") refl)
    (bind-takes _ (word-takes tab (omega arith) (natural-before n h))
    (bind-takes _ (word-takes newline (omega arith) (natural-before m k))
    (give-takes (n, m)))))

pub string-kept : Kept read_string string_line bytes?
unfolding read_string string_line line ascii bytes? all
string-kept =
    then-says _ (literal-says (ascii "str\t") refl) λ u cs p.
    ended-says newline (omega arith) _ (λ s ds q. (rw (← p, q.0), q.1)) hex_bytes-says

pub string-taken : Taken read_string string_line bytes?
unfolding read_string string_line line ascii bytes? all
string-taken s h = then-takes (literal-takes (ascii "str\t") refl) (word-takes newline (omega arith) (hex_bytes-before s h))

pub type-says : Says read_type (λ h cs. type_line h.0 h.1 ≡ cs)
unfolding read_type type_line line ascii bytes? all
type-says =
    then-says _ (literal-says (ascii "type\t") refl) λ u cs p.
    bind-says _ (word-says decimal tab (omega arith) natural-says) λ name ds q.
    bind-says _ (word-says or_dash tab (omega arith) or_none-says) λ super es r.
    bind-says _ (word-says or_dash tab (omega arith) or_none-says) λ start gs v.
    bind-says _ (word-says decimal tab (omega arith) natural-says) λ count hs w.
    bind-says _ (word-says decimal newline (omega arith) natural-says) λ n is x.
    give-says _ _ (rw (← p, ← q, ← r, ← v, ← w, ← x) (simp (append_assoc, append-nil)))

pub type-takes :
    (h : Head) (n : ℕ) → h.name < 2 ^ 64 → Fits h.super → Fits h.start → h.count < 2 ^ 64 → n < 2 ^ 64 → Takes read_type (type_line h n) (h, n)
unfolding read_type type_line line ascii bytes? all
type-takes h n a b c d e =
    takes-as (simp (append_assoc, append-nil))
    (then-takes (literal-takes (ascii "type\t") refl)
    (bind-takes _ (word-takes tab (omega arith) (natural-before h.name a))
    (bind-takes _ (word-takes tab (omega arith) (or_none-before h.super b))
    (bind-takes _ (word-takes tab (omega arith) (or_none-before h.start c))
    (bind-takes _ (word-takes tab (omega arith) (natural-before h.count d))
    (bind-takes _ (word-takes newline (omega arith) (natural-before n e))
    (give-takes (h, n))))))))

pub old-says : Says (literal old_line) (λ u cs. old_line ≡ cs)
unfolding old_line line ascii bytes? all
old-says = literal-says old_line refl

pub old-takes : Takes (literal old_line) old_line tt
unfolding old_line line ascii bytes? all
old-takes = literal-takes old_line refl

pub new-says : Says read_new (λ g cs. new_line g ≡ cs)
unfolding read_new new_line line ascii bytes? all
new-says =
    then-says _ (literal-says (ascii "new\t") refl) λ u cs p.
    bind-says _ (word-says kind_word tab (omega arith) kind-says) λ k ds q.
    bind-says _ (word-says decimal newline (omega arith) natural-says) λ n es r.
    give-says _ _ (rw (← p, ← q, ← r) (simp (append_assoc, append-nil)))

pub new-takes : (g : New) → kind_kept? g.kind ≡ true → g.name < 2 ^ 64 → Takes read_new (new_line g) g
unfolding read_new new_line line ascii bytes? all
new-takes g h k =
    takes-as (simp (append_assoc, append-nil))
    (then-takes (literal-takes (ascii "new\t") refl)
    (bind-takes _ (word-takes tab (omega arith) (kind-before g.kind h))
    (bind-takes _ (word-takes newline (omega arith) (natural-before g.name k))
    (give-takes g))))

-- ── values ──

-- words, each behind a tab
unfoldable pub tabs : {A : Type 0} → (A → List ℕ) → List A → List ℕ
tabs w = flat (λ a. tab ∷ w a)

pub line-tabs : {A : Type 0} (w : A → List ℕ) (v : List ℕ) (l : List A) → line (v ∷ map w l) ≡ v ++ (tabs w l ++ newline ∷ [])
unfolding line tabs flat
line-tabs w v [] = refl
line-tabs w v (a ∷ l) = rw (line-tabs w (w a) l, append_assoc)

tabbed-says : {A : Type 0} (r : Reader A) (w : A → List ℕ) → Says r (λ a cs. w a ≡ cs) → (n : ℕ) → Says (tabbed n r) (λ l cs. tabs w l ≡ cs)
unfolding tabbed tabs flat give ◌>>=◌
tabbed-says r w R zero = give-says [] _ refl
tabbed-says r w R (suc n) =
    peek-says tab (omega arith) _
    (bind-says _ R λ a cs p. bind-says _ (tabbed-says r w R n) λ l ds q. give-says (a ∷ l) _ (rw (p, q, append-nil)))
    (give-says [] _ refl)

-- a line ends here
AtEnd : List ℕ → Type 0
AtEnd rest = get_or rest 0 256 ≡ newline

tabs-stop : {A : Type 0} (w : A → List ℕ) (l : List A) (rest : List ℕ) → AtEnd rest → Stops (tabs w l ++ rest)
unfolding tabs flat AtEnd
tabs-stop w [] rest s = omega arith
tabs-stop w (a ∷ l) rest s = omega arith

abbrev Each : {A : Type 0} → (A → Type 0) → List A → Type 0
Each P [] = Unit {0}
Each P (a ∷ l) = P a × Each P l

tabbed-before :
    {A : Type 0} (r : Reader A) (w : A → List ℕ) (n : ℕ) (l : List A) → length l ≤ n → Each (λ a. TakesBefore Stops r (w a) a) l → TakesBefore AtEnd (tabbed n r) (tabs w l) l
unfolding tabbed tabs flat give ◌>>=◌ AtEnd
tabbed-before r w zero [] h R = takes-before AtEnd (give-takes [])
tabbed-before r w (suc n) [] h R =
    peek-before-no tab (r >>= λ a. tabbed n r >>= λ l. give (a ∷ l)) (λ rest s z. omega arith) (takes-before AtEnd (give-takes []))
tabbed-before r w zero (a ∷ l) h R = absurd (omega arith)
tabbed-before r w (suc n) (a ∷ l) h R =
    peek-before-yes tab (omega arith) (give [])
    (bind-before _ R.0 (turn-before (λ l. a ∷ l) (tabbed-before r w n l (omega arith) R.1)) (tabs-stop w l))

pub value-says : (k : ℕ) → Says (read_value k) (λ es cs. value_line es ≡ cs)
unfolding read_value value_line ascii bytes? all
value-says k =
    then-says _ (literal-says (ascii "val") refl) λ u cs p.
    ended-says newline (omega arith) _ (λ es ds q. rw (line-tabs element_word, ← p, q)) (tabbed-says (read_element k) element_word (element-says k) most_objects)

elements-before : (s : State) (k : ℕ) (es : List Element) → all (element? s k) es ≡ true → Each (λ e. TakesBefore Stops (read_element k) (element_word e) e) es
unfolding all
elements-before s k [] h = tt
elements-before s k (e ∷ es) h = let (a, b) = and_split (element? s k e) _ h in (element-before s k e a, elements-before s k es b)

pub value-takes : (s : State) (k : ℕ) (es : List Element) → all (element? s k) es ≡ true → length es ≤ most_objects → Takes (read_value k) (value_line es) es
unfolding read_value value_line ascii bytes? all AtEnd
value-takes s k es h le =
    takes-as (sym (line-tabs element_word (ascii "val") es))
    (then-takes (literal-takes (ascii "val") refl)
    (ended-takes newline (omega arith) (λ rest. refl) (tabbed-before (read_element k) element_word most_objects es le (elements-before s k es h))))

-- ── the line of a map ──

size-says : Says (byte_is tab >> natural) (λ n cs. (tab ∷ element_word (keys n) ≡ cs) × (size? (keys n) ≡ true))
unfolding element_word size?
size-says = then-says _ (byte_is-says tab (omega arith)) λ u cs p. weaker _ (λ n ds q. (rw (← p, q), refl)) natural-says

word-behind : (k : ℕ) → Says (byte_is tab >> read_element k) (λ e cs. (tab ∷ element_word e ≡ cs) × (◌≡◌ {A = Bool} true true))
word-behind k = then-says _ (byte_is-says tab (omega arith)) λ u cs p. weaker _ (λ e ds q. (rw (← p, q), refl)) (element-says k)

-- a line stands as it is written
abbrev SameLine : List ℕ → List ℕ → Type 0
SameLine ps cs = ps ≡ cs

join : (ps qs cs ds : List ℕ) → SameLine ps cs → SameLine qs ds → SameLine (ps ++ qs) (cs ++ ds)
join ps qs cs ds p q = rw (p, q)

map-words :
    {ks : List ℕ} {es : List Element} {cs : List ℕ} → Stand SameLine refl join (λ k e. tab ∷ element_word e) (λ e. tab ∷ element_word e) (λ k e. true) size? (ks ∷ []) es cs
    → tabs element_word es ≡ cs
unfolding tabs
map-words {ks} {es} p =
    let q = stand-alone SameLine refl join (λ k e. tab ∷ element_word e) (λ e. tab ∷ element_word e) (λ k e. true) size? p in
    sym (through_same (λ e. tab ∷ element_word e) (λ k e. true) size? es (ks ∷ []) q.1) ∙ q.0

pub map-line-says : (ks : List ℕ) → Says (read_map ks) (λ es cs. value_line es ≡ cs)
unfolding read_map map_words value_line ascii bytes? all
map-line-says ks =
    then-says _ (literal-says (ascii "val") refl) λ u cs p.
    ended-says newline (omega arith) _ (λ es ds q. rw (line-tabs element_word, ← p, q)) (weaker (λ es ds. tabs element_word es ≡ ds) (λ es ds q. map-words q)
    (map-says SameLine refl join (λ k e. tab ∷ element_word e) (λ e. tab ∷ element_word e) (λ k e. true) size? bad-says size-says word-behind ks))

size-before : (n : ℕ) → sized? (keys n) ≡ true → TakesBefore Stops (byte_is tab >> natural) (tab ∷ element_word (keys n)) n
unfolding element_word sized? size_of size?
size-before n h = then-before (byte_is-takes tab (omega arith)) (natural-before n (number-split small_rules n h).0)

map-words-before : (s : State) (ks : List ℕ) (es : List Element) → value? s (mapping ks) es ≡ true → TakesBefore Stops (map_words ks) (tabs element_word es) es
unfolding map_words value? tabs
map-words-before s ks es h =
    before-as (through_same (λ e. tab ∷ element_word e) (element? s) sized? es (ks ∷ []) h)
    (map-before (λ k e. tab ∷ element_word e) (λ e. tab ∷ element_word e) (element? s) sized? (λ A r cs v. TakesBefore Stops r cs v) (λ bs. (rest : List ℕ) → Stops rest → Stops (bs ++ rest))
    (λ A a. takes-before Stops (give-takes a)) (λ A C r k ps qs a b R K st. bind-before {r = r} k R K st) (λ rest t. t) (λ ps qs x y rest t. rw (append_assoc ps qs rest) (x (qs ++ rest) (y rest t))) bad size-before
    (λ k e t. then-before (byte_is-takes tab (omega arith)) (element-before s k e t)) sized-size (λ k e rest t. omega arith) (λ e rest t. omega arith) ks es h)

pub map-line-takes : (s : State) (ks : List ℕ) (es : List Element) → value? s (mapping ks) es ≡ true → Takes (read_map ks) (value_line es) es
unfolding read_map value_line ascii bytes? all
map-line-takes s ks es h =
    takes-as (sym (line-tabs element_word (ascii "val") es))
    (then-takes (literal-takes (ascii "val") refl) (ended-takes newline (omega arith) (λ rest. omega arith) (map-words-before s ks es h)))

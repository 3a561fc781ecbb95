-- Fields and entries with their end offsets: what is read is what is spelt, and keeps the rules; and back. Assumes nothing.
use Rattle.std.specs.Prelude.{◌≡◌, refl, true, List, [], ◌∷◌, ◌++◌, map, ℕ, zero, suc, ◌+◌, ◌-◌, ◌^◌, ◌≤◌, ◌<◌, length, take, drop, replicate}
use Rattle.std.proofs.Common.{sym, ◌∙◌, ap, append_assoc, append-nil, arith, length-append, length-take, length-drop, take-append-drop, take_at, drop_at, leb-true, le-leb}
use Rattle.std.proofs.lemmas.List.{length-replicate, length-map}
use Rattle.paper.specs.Reader.{times}
use Rattle.paper.specs.Ledger.{New, Entry, State, objects_of}
use Rattle.paper.specs.Lists.{fold, last_or, flat}
use Rattle.paper.specs.Rules.{type_of, after_head, known_due, field_count_rules, field_name_rules, after_new, after_entry, old_due, new_dues, entry_dues, dues, any_type, end_rules}
use Rattle.paper.specs.File.{Upto, end_offset, new_field, upto_new, what, ends, fields, entry, upto_entry}
use Rattle.paper.specs.Pieces.{zip}
use Rattle.paper.specs.Keeps.{in_turn, number?, kind_kept?, new-field?, entry?}
use Rattle.laws.specs.Says.{Says, weaker, give-says, bind-says, times-says, Run}
use Rattle.laws.specs.Takes.{written, written-flat, All₁}
use Rattle.paper.specs.Pieces.{Piece, free, kind_pieces, head_pieces, new_pieces, field_pieces, entry_pieces, entries_pieces}
use Rattle.paper.specs.Spell.{Spelt}
use Rattle.laws.specs.Spelling.{spelt-none, spelt-by, spelt-join, spelt-end, Reads, reads_as, reads-is, give-reads, bind-reads, times-reads}
use Rattle.laws.specs.Codes.{number-reads}
use Rattle.laws.specs.Bools.{and_split, and-join, every-split, every-join, number-split}
use Rattle.laws.specs.Values.{number-kept, number-taken}
use Rattle.laws.specs.Heads.{no-restrictions, restrictions-taken, head-kept, head-taken, kind-kept, kind-taken}

-- end offsets of 64 bits that do not fall
abbrev pub Rising : ℕ → List ℕ → Type 0
Rising from [] = Unit {0}
Rising from (e ∷ es) = (from ≤ e) × (e < 256 ^ 8) × Rising e es

rising-append : (a : ℕ) (xs ys : List ℕ) → Rising a xs → Rising (last_or a xs) ys → Rising a (xs ++ ys)
unfolding last_or
rising-append a [] ys h k = k
rising-append a (x ∷ xs) ys h k = (h.0, h.1, rising-append x xs ys h.2 k)

rising-take : (n a : ℕ) (es : List ℕ) → Rising a es → Rising a (take n es)
rising-take zero a es h = tt
rising-take (suc n) a [] h = tt
rising-take (suc n) a (e ∷ es) h = (h.0, h.1, rising-take n e es h.2)

rising-drop : (n a : ℕ) (es : List ℕ) → Rising a es → Rising (last_or a (take n es)) (drop n es)
unfolding last_or
rising-drop zero a es h = h
rising-drop (suc n) a [] h = tt
rising-drop (suc n) a (e ∷ es) h = rising-drop n e es h.2

last-append : (a : ℕ) (xs ys : List ℕ) → last_or (last_or a xs) ys ≡ last_or a (xs ++ ys)
unfolding last_or
last-append a [] ys = refl
last-append a (x ∷ xs) ys = last-append x xs ys

-- ── ends alone ──

end-says : (before : ℕ) → Says (end_offset before) (λ e cs. Spelt (free e) cs × (before ≤ e) × (e < 256 ^ 8))
unfolding end_offset end_rules
end-says before =
    weaker _ (λ e cs p. let s = number-split (end_rules before) e p.1 in (p.0, leb-true before e s.1.0, s.0))
    (number-kept (end_rules before))

end-taken : (before e : ℕ) → before ≤ e → e < 256 ^ 8 → Reads (end_offset before) (free e) e
unfolding end_offset end_rules
end-taken before e le lt = number-reads _ e lt (le-leb before e le, tt)

run_ends :
    {X : Type 0} (xs : List X) (from : ℕ) (es cs : List ℕ) → Run (λ before x e cs. Spelt (free e) cs × (before ≤ e) × (e < 256 ^ 8)) (λ before e. e) xs from es cs
    → Spelt (flat free es) cs × (length es ≡ length xs) × Rising from es
unfolding flat
run_ends [] from [] cs r = (rw r spelt-none, refl, tt)
run_ends [] from (e ∷ es) cs r = absurd r
run_ends (x ∷ xs) from [] cs r = absurd r
run_ends (x ∷ xs) from (e ∷ es) cs (c, d, q, (p, le, lt), r) =
    let ih = run_ends xs e es d r in
    (rw q (spelt-join (free e) _ p ih.0), ap suc ih.1, (le, lt, ih.2))

ends-taken : (from : ℕ) (es : List ℕ) → Rising from es → All₁ (λ b e. Reads (end_offset b) (free e) e) (λ b e. e) from es
ends-taken from [] h = tt
ends-taken from (e ∷ es) h = (end-taken from e h.0 h.1, ends-taken e es h.2)

-- ── new fields ──

NewSays : ℕ → Upto → New × ℕ → List ℕ → Type 0
NewSays t u g cs = Spelt (new_pieces g) cs × (new-field? t u.state g.0 ≡ true) × (u.end ≤ g.1) × (g.1 < 256 ^ 8)

new-says : (t : ℕ) (u : Upto) → Says (new_field any_type t u) (NewSays t u)
unfolding new_field new_pieces new-field? NewSays
new-says t u =
    bind-says _ no-restrictions λ z cs p. bind-says _ kind-kept λ k ds q. bind-says _ (number-kept (field_name_rules t u.state)) λ n es r.
    bind-says _ (end-says u.end) λ e gs w. give-says _ _
    (spelt-by (ap (λ (z : List Piece). free 0 ++ z) (sym (append_assoc (kind_pieces k) (free n) (free e)))) (spelt-join (free 0) _ p (spelt-join (kind_pieces k) _ q.0 (spelt-join (free n) _ r.0 (spelt-end (free e) w.0)))), and-join q.1 r.1, w.1, w.2)

new-taken : (t : ℕ) (u : Upto) (g : New × ℕ) → new-field? t u.state g.0 ≡ true → u.end ≤ g.1 → g.1 < 256 ^ 8 → Reads (new_field any_type t u) (new_pieces g) g
unfolding new_field new_pieces new-field?
new-taken t u g h le lt =
    let (a, b) = and_split (kind_kept? g.0.kind) _ h in
    reads_as (simp (append_assoc, append-nil))
    (bind-reads _ restrictions-taken (bind-reads _ (kind-taken g.0.kind a) (bind-reads _ (number-taken (field_name_rules t u.state) g.0.name b)
    (bind-reads _ (end-taken u.end g.1 le lt) (give-reads g)))))

run-news :
    {X : Type 0} (t : ℕ) (xs : List X) (u : Upto) (l : List (New × ℕ)) (cs : List ℕ) → Run (λ u x. NewSays t u) (upto_new t) xs u l cs
    → Spelt (flat new_pieces l) cs × (length l ≡ length xs) × (in_turn (new-field? t) (after_new t) u.state (map what l) ≡ true) × Rising u.end (map ends l)
unfolding flat NewSays in_turn upto_new
run-news t [] u [] cs r = (rw r spelt-none, refl, refl, tt)
run-news t [] u (g ∷ l) cs r = absurd r
run-news t (x ∷ xs) u [] cs r = absurd r
run-news t (x ∷ xs) u (g ∷ l) cs (c, d, q, (p, ok, le, lt), r) =
    let ih = run-news t xs (upto_new t u g) l d r in
    (rw q (spelt-join (new_pieces g) _ p ih.0), ap suc ih.1, and-join ok ih.2, (le, lt, ih.3))

news-taken :
    (t : ℕ) (u : Upto) (gs : List New) (es : List ℕ) → length es ≡ length gs → in_turn (new-field? t) (after_new t) u.state gs ≡ true → Rising u.end es
    → All₁ (λ u g. Reads (new_field any_type t u) (new_pieces g) g) (upto_new t) u (zip gs es)
unfolding zip in_turn upto_new
news-taken t u [] es n h r = tt
news-taken t u (g ∷ gs) [] n h r = absurd (omega arith)
news-taken t u (g ∷ gs) (e ∷ es) n h r =
    let (a, b) = and_split (new-field? t u.state g) _ h in
    (new-taken t u (g, e) a r.0 r.1, news-taken t (upto_new t u (g, e)) gs es (omega arith) b r.2)

-- ── zip ──

zip-maps : {A B : Type 0} (l : List (A × B)) → zip (map what l) (map ends l) ≡ l
unfolding zip
zip-maps [] = refl
zip-maps {A} {B} (p ∷ l) = ap (λ (z : List (A × B)). p ∷ z) (zip-maps l)

what-zip : {A B : Type 0} (xs : List A) (ys : List B) → length ys ≡ length xs → map what (zip xs ys) ≡ xs
unfolding zip
what-zip [] ys h = refl
what-zip (x ∷ xs) [] h = absurd (omega arith)
what-zip {A} (x ∷ xs) (y ∷ ys) h = ap (λ (z : List A). x ∷ z) (what-zip xs ys (omega arith))

ends-zip : {A B : Type 0} (xs : List A) (ys : List B) → length ys ≡ length xs → map ends (zip xs ys) ≡ ys
unfolding zip
ends-zip [] [] h = refl
ends-zip [] (y ∷ ys) h = absurd (omega arith)
ends-zip (x ∷ xs) [] h = absurd (omega arith)
ends-zip {A} {B} (x ∷ xs) (y ∷ ys) h = ap (λ (z : List B). y ∷ z) (ends-zip xs ys (omega arith))

zip_length : {A B : Type 0} (xs : List A) (ys : List B) → length ys ≡ length xs → length (zip xs ys) ≡ length xs
unfolding zip
zip_length [] ys h = refl
zip_length (x ∷ xs) [] h = absurd (omega arith)
zip_length (x ∷ xs) (y ∷ ys) h = ap suc (zip_length xs ys (omega arith))

-- ── the fields of an entry ──

record FieldsSay (t known : ℕ) (u : Upto) (v : List New × List ℕ) (cs : List ℕ) : Type 0 where
  is : Spelt (field_pieces known v.0 v.1) cs
  count : number? (field_count_rules u.state known) (known + length v.0) ≡ true
  news : in_turn (new-field? t) (after_new t) u.state v.0 ≡ true
  many : length v.1 ≡ known + length v.0
  rising : Rising u.end v.1

fields_join :
    (t known : ℕ) (u : Upto) (n : ℕ) (cs : List ℕ) (olds ds : List ℕ) (news : List (New × ℕ)) (es : List ℕ)
    → Spelt (free n) cs × (number? (field_count_rules u.state known) n ≡ true)
    → Spelt (flat free olds) ds × (length olds ≡ known) × Rising u.end olds
    → Spelt (flat new_pieces news) es × (length news ≡ n - known) × (in_turn (new-field? t) (after_new t) u.state (map what news) ≡ true) × Rising (last_or u.end olds) (map ends news)
    → FieldsSay t known u (map what news, olds ++ map ends news) (cs ++ (ds ++ (es ++ [])))
unfolding field_pieces field_count_rules
fields_join t known u n cs olds ds news es p q r =
    let le = leb-true known n (number-split (field_count_rules u.state known) n p.1).1.1.0 in
    let z : known + length (map what news) ≡ n = rw (length-map news what, r.1) (omega arith) in
    record {
      is = rw (z, take_at olds (map ends news) known q.1, drop_at olds (map ends news) known q.1, zip-maps news) (spelt-join (free n) _ p.0 (spelt-join (flat free olds) _ q.0 (spelt-end (flat new_pieces news) r.0)));
      count = rw z p.1;
      news = r.2;
      many = rw (z, length-append, length-map news ends, q.1, r.1) (omega arith);
      rising = rising-append u.end olds (map ends news) q.2 r.3;
    }

fields-says : (t known : ℕ) (u : Upto) → Says (fields any_type t known u) (FieldsSay t known u)
unfolding fields
fields-says t known u =
    bind-says _ (number-kept (field_count_rules u.state known)) λ n cs p.
    bind-says _
    (weaker (λ olds ds. Spelt (flat free olds) ds × (length olds ≡ known) × Rising u.end olds)
    (λ olds ds r. let k = run_ends (replicate known (tt {0})) u.end olds ds r in (k.0, k.1 ∙ length-replicate known (tt {0}), k.2))
    (times-says _ (λ before e cs. Spelt (free e) cs × (before ≤ e) × (e < 256 ^ 8)) end-says known u.end))
    λ olds ds q.
    bind-says _
    (weaker
    (λ news es. Spelt (flat new_pieces news) es × (length news ≡ n - known) × (in_turn (new-field? t) (after_new t) u.state (map what news) ≡ true) × Rising (last_or u.end olds) (map ends news))
    (λ news es r. let k = run-news t (replicate (n - known) (tt {0})) (record { state = u.state; end = last_or u.end olds }) news es r in (k.0, k.1 ∙ length-replicate (n - known) (tt {0}), k.2, k.3))
    (times-says _ (NewSays t) (new-says t) (n - known) (record { state = u.state; end = last_or u.end olds })))
    λ news es r. give-says _ _ (fields_join t known u n cs olds ds news es p q r)

fields-taken :
    (t known : ℕ) (u : Upto) (gs : List New) (es : List ℕ) → number? (field_count_rules u.state known) (known + length gs) ≡ true
    → in_turn (new-field? t) (after_new t) u.state gs ≡ true → length es ≡ known + length gs → Rising u.end es
    → Reads (fields any_type t known u) (field_pieces known gs es) (gs, es)
unfolding fields field_pieces
fields-taken t known u gs es h k n r =
    let u₁ : Upto = record { state = u.state; end = last_or u.end (take known es) } in
    let m : known + length gs - known ≡ length gs = omega arith in
    let d : length (drop known es) ≡ length gs = rw length-drop (omega arith) in
    let o : length (take known es) ≡ known = rw length-take (omega arith) in
    let same : ◌≡◌ {A = List New × List ℕ} (map what (zip gs (drop known es)), take known es ++ map ends (zip gs (drop known es))) (gs, es) =
    rw (what-zip gs (drop known es) d, ends-zip gs (drop known es) d, take-append-drop known es) in
    reads-is same
    (reads_as (simp (append_assoc, append-nil))
    (bind-reads _ (number-taken (field_count_rules u.state known) (known + length gs) h)
    (bind-reads _
    (reads_as (written-flat free (λ b e. e) u.end (take known es))
    (times-reads end_offset (λ b e. e) (λ b. free) known u.end (take known es) o (ends-taken u.end (take known es) (rising-take known u.end es r))))
    (bind-reads _
    (reads_as (written-flat new_pieces (upto_new t) u₁ (zip gs (drop known es)))
    (times-reads (new_field any_type t) (upto_new t) (λ u. new_pieces) (known + length gs - known) u₁ (zip gs (drop known es)) (zip_length gs (drop known es) d ∙ sym m)
    (news-taken t u₁ gs (drop known es) d k (rising-drop known u.end es r))))
    (give-reads (map what (zip gs (drop known es)), take known es ++ map ends (zip gs (drop known es))))))))

-- ── an entry ──

abbrev known_in : State → Entry → ℕ
known_in s e = length (known_due s e.head)

record EntrySays (u : Upto) (e : Entry × List ℕ) (cs : List ℕ) : Type 0 where
  is : Spelt (entry_pieces (known_in u.state e.0) e) cs
  kept : entry? u.state e.0 ≡ true
  many : length e.1 ≡ known_in u.state e.0 + length e.0.news
  rising : Rising u.end e.1

entry-says : (u : Upto) → Says (entry any_type u) (EntrySays u)
unfolding entry entry_pieces entry?
entry-says u =
    bind-says _ (head-kept u.state) λ h cs p.
    bind-says _ (fields-says (type_of u.state h.name) (length (known_due u.state h)) (record { state = after_head u.state h; end = u.end })) λ fs ds q.
    give-says _ _
    (record {
      is = spelt-join (head_pieces h) _ p.0 (spelt-end (field_pieces (length (known_due u.state h)) fs.0 fs.1) q.is);
      kept = every-join _ (p.1, (q.count, (q.news, tt)));
      many = q.many;
      rising = q.rising;
    })

entry-taken :
    (u : Upto) (e : Entry) (es : List ℕ) → entry? u.state e ≡ true → length es ≡ known_in u.state e + length e.news → Rising u.end es
    → Reads (entry any_type u) (entry_pieces (known_in u.state e) (e, es)) (e, es)
unfolding entry entry_pieces entry?
entry-taken u e es h n r =
    let (a, (b, (c, _))) = every-split _ h in
    reads_as (ap (λ (z : List Piece). head_pieces e.head ++ z) (append-nil _))
    (bind-reads _ (head-taken u.state e.head a)
    (bind-reads _ (fields-taken (type_of u.state e.head.name) (known_in u.state e) (record { state = after_head u.state e.head; end = u.end }) e.news es b c n r)
    (give-reads (e, es))))

-- ── entries ──

news-length : (i n : ℕ) (gs : List New) → length (new_dues i n gs) ≡ length gs
unfolding new_dues
news-length i n [] = refl
news-length i n (g ∷ gs) = ap suc (news-length (suc i) n gs)

dues-length : (s : State) (e : Entry) → length (entry_dues s e) ≡ known_in s e + length e.news
unfolding entry_dues
dues-length s e = rw (length-append, length-map (known_due s e.head) (old_due s e.head.count), news-length (length s.fields) (objects_of (after_head s e.head) (type_of s e.head.name)) e.news)

pub dues-more : (s : State) (e : Entry) (l : List Entry) → length (dues s (e ∷ l)) ≡ known_in s e + length e.news + length (dues (after_entry s e) l)
unfolding dues
dues-more s e l = rw (length-append, dues-length s e)

pub record EntriesSay (u : Upto) (entries : List Entry) (es cs : List ℕ) : Type 0 where
  pub is : Spelt (entries_pieces u.state entries es) cs
  pub kept : in_turn entry? after_entry u.state entries ≡ true
  pub many : length es ≡ length (dues u.state entries)
  pub rising : Rising u.end es

run-entries :
    {X : Type 0} (xs : List X) (u : Upto) (l : List (Entry × List ℕ)) (cs : List ℕ) → Run (λ u x. EntrySays u) upto_entry xs u l cs
    → EntriesSay u (map what l) (flat ends l) cs × (length (map what l) ≡ length xs)
unfolding entries_pieces in_turn dues flat upto_entry
run-entries [] u [] cs r = (record { is = rw r spelt-none; kept = refl; many = refl; rising = tt }, refl)
run-entries [] u (e ∷ l) cs r = absurd r
run-entries (x ∷ xs) u [] cs r = absurd r
run-entries (x ∷ xs) u (e ∷ l) cs (c, d, q, p, r) =
    let (ih, n) = run-entries xs (upto_entry u e) l d r in (
      record {
        is = rw (take_at e.1 (flat ends l) _ p.many, drop_at e.1 (flat ends l) _ p.many, q) (spelt-join (entry_pieces (known_in u.state e.0) e) _ p.is ih.is);
        kept = and-join p.kept ih.kept;
        many = rw (length-append, length-append, dues-length u.state e.0, p.many, ih.many);
        rising = rising-append u.end e.1 (flat ends l) p.rising ih.rising;
      },
      ap suc n,
    )

pub entries-says :
    (n : ℕ) (u : Upto) → Says (times n (entry any_type) upto_entry u) (λ l cs. EntriesSay u (map what l) (flat ends l) cs × (length (map what l) ≡ n))
entries-says n u =
    weaker _ (λ l cs r. let k = run-entries (replicate n (tt {0})) u l cs r in (k.0, k.1 ∙ length-replicate n (tt {0}))) (times-says _ EntrySays entry-says n u)

-- entries, each with its ends
pub share : State → List Entry → List ℕ → List (Entry × List ℕ)
share s [] es = []
share s (e ∷ l) es = let n = known_in s e + length e.news in (e, take n es) ∷ share (after_entry s e) l (drop n es)

pub what-share : (s : State) (l : List Entry) (es : List ℕ) → map what (share s l es) ≡ l
unfolding share
what-share s [] es = refl
what-share s (e ∷ l) es = ap (λ (z : List Entry). e ∷ z) (what-share (after_entry s e) l (drop (known_in s e + length e.news) es))

pub ends-share : (s : State) (l : List Entry) (es : List ℕ) → length es ≡ length (dues s l) → flat ends (share s l es) ≡ es
unfolding share flat dues
ends-share s [] [] h = refl
ends-share s [] (x ∷ es) h = absurd (omega arith)
ends-share s (e ∷ l) es h =
    let n = dues-more s e l in
    rw (ends-share (after_entry s e) l (drop (known_in s e + length e.news) es) (rw length-drop (omega arith))) (take-append-drop (known_in s e + length e.news) es)

written-share : (u : Upto) (l : List Entry) (es : List ℕ) → written (λ u e. entry_pieces (known_in u.state e.0) e) upto_entry u (share u.state l es) ≡ entries_pieces u.state l es
unfolding written share entries_pieces upto_entry
written-share u [] es = refl
written-share u (e ∷ l) es =
    let n = known_in u.state e + length e.news in
    ap (λ (z : List Piece). entry_pieces (known_in u.state e) (e, take n es) ++ z) (written-share (upto_entry u (e, take n es)) l (drop n es))

share-taken :
    (u : Upto) (l : List Entry) (es : List ℕ) → in_turn entry? after_entry u.state l ≡ true → length es ≡ length (dues u.state l) → Rising u.end es
    → All₁ (λ u e. Reads (entry any_type u) (entry_pieces (known_in u.state e.0) e) e) upto_entry u (share u.state l es)
unfolding share in_turn dues upto_entry
share-taken u [] es h n r = tt
share-taken u (e ∷ l) es h n r =
    let (a, b) = and_split (entry? u.state e) _ h in
    let k = known_in u.state e + length e.news in
    let m = dues-more u.state e l in (
      entry-taken u e (take k es) a (rw length-take (omega arith)) (rising-take k u.end es r),
      share-taken (upto_entry u (e, take k es)) l (drop k es) b (rw length-drop (omega arith)) (rising-drop k u.end es r),
    )

share-length : (s : State) (l : List Entry) (es : List ℕ) → length (share s l es) ≡ length l
unfolding share
share-length s [] es = refl
share-length s (e ∷ l) es = ap suc (share-length (after_entry s e) l (drop (known_in s e + length e.news) es))

pub entries-taken :
    (u : Upto) (l : List Entry) (es : List ℕ) → in_turn entry? after_entry u.state l ≡ true → length es ≡ length (dues u.state l) → Rising u.end es
    → Reads (times (length l) (entry any_type) upto_entry u) (entries_pieces u.state l es) (share u.state l es)
entries-taken u l es h n r =
    reads_as (written-share u l es)
    (times-reads (entry any_type) upto_entry (λ u e. entry_pieces (known_in u.state e.0) e) (length l) u (share u.state l es) (share-length u.state l es) (share-taken u l es h n r))

-- one entry more, as code goes on
pub dues-append : (l m : List Entry) (s : State) → dues s (l ++ m) ≡ dues s l ++ dues (fold after_entry s l) m
unfolding dues fold
dues-append [] m s = refl
dues-append (e ∷ l) m s = rw (dues-append l m (after_entry s e)) (sym (append_assoc (entry_dues s e) (dues (after_entry s e) l) (dues (fold after_entry (after_entry s e) l) m)))

-- Strings, heads and kinds: what is read is what is spelt, and keeps the rules; and back. Assumes nothing.
use Rattle.std.specs.Prelude.{◌≡◌, refl, Bool, true, false, ◌||◌, ◌&&◌, List, [], ◌∷◌, ◌++◌, ℕ, suc, ◌+◌, ◌-◌, ◌^◌, ◌≤◌, ◌<◌, leb, ltb, eqb, length, take, drop, replicate}
use Rattle.std.proofs.Common.{sym, ◌∙◌, ap, subst, append_assoc, append-nil, arith, zero-add, length-append, length-take, length-drop, take-append-drop, leb-true, le-leb, eqb-true, ne_eqb, ltb-true, lt-ltb}
use Rattle.std.proofs.Math.Option.{Option, none, some}
use Rattle.std.proofs.lemmas.List.{length-replicate}
use Rattle.std.proofs.Math.Seq.{take-append_seam, drop-append_seam}
use Rattle.std.proofs.lemmas.Bool.{lt-leb}
use Rattle.paper.specs.Reader.{when◌then◌else◌, Rule, only}
use Rattle.paper.specs.Numbers.{put_fixed, number}
use Rattle.paper.specs.Ledger.{mapping, constant, plain, array, many, Head, State}
use Rattle.paper.specs.Lists.{all, given?, or, last_or, flat}
use Rattle.paper.specs.Rules.{types_rules, small_rules, strings_rules, new?, super_of, type_name_rules, super_name_rules, count_rules, single_kind?, element_kind?, kind?, kind_rules, element_kind_rules, any_type, restriction_rules, end_rules, type_of}
use Rattle.paper.specs.File.{small, cut, string_end, string_block, restrictions, head, kind}
use Rattle.paper.specs.Pieces.{ends_from}
use Rattle.paper.specs.Keeps.{number?, only?, bytes?, head?, whole?, kind_kept?}
use Rattle.laws.specs.Says.{Bytes, bytes_take, bytes_drop, Says, weaker, give-says, bind-says, must-says, if-says, only-says, bytes-says, times-says, Run}
use Rattle.laws.specs.Spelt.{fixed-says}
use Rattle.laws.specs.Takes.{Takes, takes-as, must-takes, bytes-takes, times-takes, written-flat, All₁, bytes-append}
use Rattle.paper.specs.Pieces.{Piece, free, firm, option_pieces, head_pieces, kind_pieces, string_pieces, whole_pieces}
use Rattle.paper.specs.Spell.{Spelt}
use Rattle.laws.specs.Spelling.{spelt-none, spelt-by, spelt-join, spelt-end, firm-as, KeptSpelt, ReadSpelt, Reads, reads_as, reads-is, give-reads, bind-reads, if-reads-true, if-reads-false, only-reads-some, only-reads-none, firm-reads, repeat-reads}
use Rattle.laws.specs.Codes.{fixed-takes, number-reads}
use Rattle.laws.specs.Bools.{not_so, and_split, and-join, every-split, every-join, number-split, number-join}
use Rattle.laws.specs.Values.{repeat-spelt, number-kept, number-taken, whole-kept, whole-taken}

-- ── only if due ──

only_kept : (b : Bool) (rules : ℕ → List Rule) → Says (only b (number rules)) (λ o cs. Spelt (option_pieces o) cs × (only? b rules o ≡ true) × (given? o ≡ b))
unfolding option_pieces only? given?
only_kept true rules =
    only-says true _ (λ t. weaker _ (λ n cs p. (spelt-end (free n) p.0, p.1, refl)) (number-kept rules)) (λ t. not_so (sym t))
only_kept false rules = only-says false _ (λ t. not_so t) (λ t. (spelt-none, refl, refl))

only-taken : (b : Bool) (rules : ℕ → List Rule) → ReadSpelt (only b (number rules)) option_pieces (only? b rules)
unfolding option_pieces only?
only-taken true rules none h = not_so h
only-taken true rules (some n) h = only-reads-some refl (number-taken rules n h)
only-taken false rules none h = only-reads-none _ refl
only-taken false rules (some n) h = not_so h

only-given : (b : Bool) (rules : ℕ → List Rule) (o : Option ℕ) → only? b rules o ≡ true → given? o ≡ b
unfolding given? only?
only-given true rules none h = not_so h
only-given true rules (some n) h = refl
only-given false rules none h = refl
only-given false rules (some n) h = not_so h

-- ── the head ──

pub no-restrictions : Says restrictions (λ n cs. Spelt (free 0) cs)
unfolding restrictions restriction_rules
no-restrictions =
    weaker _ (λ n cs p. rw (← eqb-true n 0 (number-split restriction_rules n p.1).1.0) p.0) (number-kept restriction_rules)

pub restrictions-taken : Reads restrictions (free 0) 0
unfolding restrictions restriction_rules
restrictions-taken = number-reads _ 0 (omega arith) (refl, tt)

if-put : Bool → List Piece
if-put b = when b then free 0 else []

restricted-kept : (b : Bool) → Says (only b restrictions) (λ o cs. Spelt (if-put b) cs)
unfolding if-put when◌then◌else◌
restricted-kept true = only-says true _ (λ t. weaker _ (λ n cs p. spelt-end (free 0) p) no-restrictions) (λ t. not_so (sym t))
restricted-kept false = only-says false _ (λ t. not_so t) (λ t. spelt-none)

restricted : Bool → Option ℕ
restricted b = when b then some 0 else none

restricted-taken : (b : Bool) → Reads (only b restrictions) (if-put b) (restricted b)
unfolding if-put restricted when◌then◌else◌
restricted-taken true = only-reads-some refl restrictions-taken
restricted-taken false = only-reads-none _ refl

head-parts : (h : Head) → free h.name ++ (option_pieces h.super ++ (option_pieces h.start ++ (free h.count ++ if-put (given? h.super)))) ≡ head_pieces h
unfolding head_pieces if-put
head-parts h =
    ap (λ (z : List Piece). free h.name ++ z)
    (sym (append_assoc (option_pieces h.super) (option_pieces h.start) _) ∙ sym (append_assoc (option_pieces h.super ++ option_pieces h.start) (free h.count) _))

pub head-kept : (s : State) → KeptSpelt (head s) head_pieces (head? s)
unfolding head head? small
head-kept s =
    bind-says _ (number-kept (type_name_rules s)) λ name cs p. bind-says _ (only_kept (new? s name) (super_name_rules s (type_of s name))) λ super ds q.
    bind-says _ (only_kept (given? (super_of s name super)) small_rules) λ start es r.
    bind-says _ (number-kept (count_rules s (super_of s name super) (or start 0))) λ n gs u.
    bind-says _ (restricted-kept (new? s name)) λ z hs w. give-says _ _ (
      spelt-by (head-parts (record { name = name; super = super; start = start; count = n }))
          (spelt-join (free name) _ p.0 (spelt-join (option_pieces super) _ q.0 (spelt-join (option_pieces start) _ r.0 (spelt-join (free n) _ u.0 (spelt-end (if-put (given? super)) (subst (λ (z : Bool). Spelt (if-put z) hs) (sym q.2) w)))))),
      every-join _ (p.1, (q.1, (r.1, (u.1, tt)))),
    )

pub head-taken : (s : State) → ReadSpelt (head s) head_pieces (head? s)
unfolding head head? small
head-taken s h k =
    let (a, (b, (c, (d, _)))) = every-split _ k in
    reads_as (ap (λ (z : Bool). free h.name ++ (option_pieces h.super ++ (option_pieces h.start ++ (free h.count ++ (if-put z ++ []))))) (sym (only-given (new? s h.name) (super_name_rules s (type_of s h.name)) h.super b)) ∙ rw (append-nil (if-put (given? h.super))) (head-parts h))
    (bind-reads _ (number-taken (type_name_rules s) h.name a)
    (bind-reads _ (only-taken (new? s h.name) (super_name_rules s (type_of s h.name)) h.super b)
    (bind-reads _ (only-taken (given? (super_of s h.name h.super)) small_rules h.start c)
    (bind-reads _ (number-taken (count_rules s (super_of s h.name h.super) (or h.start 0)) h.count d)
    (bind-reads _ (restricted-taken (new? s h.name)) (give-reads h))))))

-- ── kinds ──

plain-kind : (k : ℕ) → kind? k ≡ true → leb k 4 ≡ false → eqb k 15 ≡ false → (leb 17 k && leb k 19) ≡ false → eqb k 20 ≡ false → element_kind? k ≡ true
unfolding kind?
plain-kind k h t₁ t₂ t₃ t₄ = go (element_kind? k) (rw (t₁, t₂, t₃, t₄) at h)
  where
    go : (b : Bool) → (b || false || false || false) ≡ true → b ≡ true
    go true h = refl
    go false h = h

plain-held : (k : ℕ) → number? (kind_rules any_type) k ≡ true → leb k 4 ≡ false → eqb k 15 ≡ false → (leb 17 k && leb k 19) ≡ false → eqb k 20 ≡ false → number? (element_kind_rules any_type) k ≡ true
unfolding kind_rules element_kind_rules
plain-held k h t₁ t₂ t₃ t₄ =
    let s = number-split (kind_rules any_type) k h in
    number-join (element_kind_rules any_type) k s.0 (plain-kind k s.1.0 t₁ t₂ t₃ t₄, (refl, tt))

pub kind-kept : KeptSpelt (kind any_type) kind_pieces kind_kept?
unfolding kind kind_pieces kind_kept? small
kind-kept =
    bind-says (λ v cs. Spelt (kind_pieces v) cs × (kind_kept? v ≡ true)) (number-kept (kind_rules any_type)) λ k cs p.
    if-says (leb k 4) (λ t. bind-says _ (whole-kept k) λ v ds q. give-says (constant k v) _ (spelt-join (free k) _ p.0 (spelt-end (whole_pieces k v) q.0), and-join t q.1))
    λ t₁. if-says (eqb k 15)
    (λ t.
    bind-says _ (number-kept small_rules) λ n ds q. bind-says _ (number-kept (element_kind_rules any_type)) λ e es r. give-says (array n e) _
    (rw (← eqb-true k 15 t) (spelt-join (free k) _ p.0 (spelt-join (free n) _ q.0 (spelt-end (free e) r.0))), and-join q.1 r.1))
    λ t₂. if-says (leb 17 k && leb k 19)
    (λ t. bind-says _ (number-kept (element_kind_rules any_type)) λ e ds q. give-says (many k e) _ (spelt-join (free k) _ p.0 (spelt-end (free e) q.0), and-join t q.1))
    λ t₃. if-says (eqb k 20)
    (λ t.
    bind-says _ (number-kept types_rules) λ n ds q. bind-says _ (repeat-spelt _ free (number? (element_kind_rules any_type)) (number-kept (element_kind_rules any_type)) n) λ ks es r. give-says (mapping ks) _
    (rw (← eqb-true k 20 t, r.1) (spelt-join (free k) _ p.0 (spelt-join (free n) _ q.0 (spelt-end (flat free ks) r.0))), rw r.1 (and-join q.1 r.2)))
    λ t₄. give-says (plain k) _ (spelt-end (free k) p.0, plain-held k p.1 t₁ t₂ t₃ t₄)

-- an element kind is none of the others
pub record Apart (k : ℕ) : Type 0 where
  pub low : leb k 4 ≡ false
  pub fixed? : eqb k 15 ≡ false
  pub listed : (leb 17 k && leb k 19) ≡ false
  pub map? : eqb k 20 ≡ false

pub apart : (k : ℕ) → element_kind? k ≡ true → Apart k
unfolding element_kind? single_kind?
apart k h = by (eqb k 5) refl h
  where
    go : (a : Bool) → leb 6 k ≡ a → (b : Bool) → leb k 14 ≡ b → (c : Bool) → leb 32 k ≡ c → (a && b || c) ≡ true → Apart k
    go true a true b c c' h =
        let ge = leb-true 6 k a in
        let le = leb-true k 14 b in
        record { low = lt-leb k 4 (omega arith); fixed? = ne_eqb k 15 (λ e. omega arith); listed = rw (lt-leb 17 k (omega arith)); map? = ne_eqb k 20 (λ e. omega arith) }
    go true a false b true c h = far (leb-true 32 k c)
      where
        far : 32 ≤ k → Apart k
        far ge =
            record { low = lt-leb k 4 (omega arith); fixed? = ne_eqb k 15 (λ e. omega arith); listed = rw (le-leb 17 k (omega arith), lt-leb k 19 (omega arith)); map? = ne_eqb k 20 (λ e. omega arith) }
    go true a false b false c h = not_so h
    go false a b b' true c h =
        let ge = leb-true 32 k c in
        record { low = lt-leb k 4 (omega arith); fixed? = ne_eqb k 15 (λ e. omega arith); listed = rw (le-leb 17 k (omega arith), lt-leb k 19 (omega arith)); map? = ne_eqb k 20 (λ e. omega arith) }
    go false a b b' false c h = not_so h

    by : (x : Bool) → eqb k 5 ≡ x → (x || (leb 6 k && leb k 14 || leb 32 k)) ≡ true → Apart k
    by true t h = let is = eqb-true k 5 t in rw is (record { low = refl; fixed? = refl; listed = refl; map? = refl })
    by false t h = go (leb 6 k) refl (leb k 14) refl (leb 32 k) refl h

kind-number : (k : ℕ) → k < 256 ^ 8 → kind? k ≡ true → Reads (number (kind_rules any_type)) (free k) k
unfolding kind_rules
kind-number k lt h = number-reads (kind_rules any_type) k lt (h, (refl, tt))

element-or : (a b c d e : Bool) → b ≡ true → (a || b || c || d || e) ≡ true
element-or true b c d e h = refl
element-or false b c d e h = rw h

listed-or : (a b c d e : Bool) → d ≡ true → (a || b || c || d || e) ≡ true
listed-or true b c d e h = refl
listed-or false true c d e h = refl
listed-or false false true d e h = refl
listed-or false false false d e h = rw h

or-true : (b : Bool) → (false || b || true || false || false) ≡ true
or-true true = refl
or-true false = refl

or-last : (b : Bool) → (false || b || false || false || true) ≡ true
or-last true = refl
or-last false = refl

pub kind-taken : ReadSpelt (kind any_type) kind_pieces kind_kept?
unfolding kind kind_pieces kind_kept? small kind? element_kind_rules
kind-taken (constant k v) h =
    let (t, w) = and_split _ (whole? k v) h in
    let le = leb-true k 4 t in
    reads_as (ap (λ (z : List Piece). free k ++ z) (append-nil _))
    (bind-reads _ (kind-number k (omega arith) (rw t)) (if-reads-true _ t (bind-reads _ (whole-taken k v w) (give-reads (constant k v)))))
kind-taken (plain k) h =
    let s = number-split (element_kind_rules any_type) k h in
    let A = apart k s.1.0 in
    reads_as (append-nil _)
    (bind-reads _ (kind-number k s.0 (element-or (leb k 4) (element_kind? k) (eqb k 15) _ _ s.1.0))
    (if-reads-false _ A.low (if-reads-false _ A.fixed? (if-reads-false _ A.listed (if-reads-false _ A.map? (give-reads (plain k)))))))
kind-taken (array n k) h =
    let (a, b) = and_split _ (number? (element_kind_rules any_type) k) h in
    reads_as (simp (append_assoc, append-nil))
    (bind-reads _ (kind-number 15 (omega arith) (or-true (element_kind? 15)))
    (if-reads-false _ refl (if-reads-true _ refl (bind-reads _ (number-taken small_rules n a) (bind-reads _ (number-taken (element_kind_rules any_type) k b) (give-reads (array n k)))))))
kind-taken (many c k) h =
    let (a, b) = and_split _ (number? (element_kind_rules any_type) k) h in
    let (p, q) = and_split _ (leb c 19) a in
    let ge = leb-true 17 c p in
    let le = leb-true c 19 q in
    reads_as (ap (λ (z : List Piece). free c ++ z) (append-nil _))
    (bind-reads _ (kind-number c (omega arith) (listed-or (leb c 4) (element_kind? c) (eqb c 15) _ _ a))
    (if-reads-false _ (lt-leb c 4 (omega arith)) (if-reads-false _ (ne_eqb c 15 (λ e. omega arith)) (if-reads-true _ a
    (bind-reads _ (number-taken (element_kind_rules any_type) k b) (give-reads (many c k)))))))
kind-taken (mapping ks) h =
    let (a, b) = and_split _ (all (number? (element_kind_rules any_type)) ks) h in
    reads_as (simp (append_assoc, append-nil))
    (bind-reads _ (kind-number 20 (omega arith) (or-last (element_kind? 20)))
    (if-reads-false _ refl (if-reads-false _ refl (if-reads-false _ refl (if-reads-true _ refl
    (bind-reads _ (number-taken types_rules (length ks) a)
    (bind-reads _ (repeat-reads _ free (number? (element_kind_rules any_type)) (number-taken (element_kind_rules any_type)) (length ks) ks refl b) (give-reads (mapping ks)))))))))

-- ── strings ──

bytes-kept : (l : List ℕ) → Bytes l → bytes? l ≡ true
unfolding bytes? all
bytes-kept [] h = refl
bytes-kept (b ∷ l) h = and-join (lt-ltb b 256 h.0) (bytes-kept l h.1)

pub bytes_back : (l : List ℕ) → bytes? l ≡ true → Bytes l
unfolding bytes? all
bytes_back [] h = tt
bytes_back (b ∷ l) h = let s = and_split (ltb b 256) (bytes? l) h in (ltb-true b 256 s.0, bytes_back l s.1)

StringEnd : ℕ → ℕ → List ℕ → Type 0
StringEnd before e cs = (put_fixed 4 e ≡ cs) × (before ≤ e)

end-says : (before : ℕ) → Says (string_end before) (StringEnd before)
unfolding string_end StringEnd end_rules
end-says before = weaker _ (λ e cs p. (p.0.0, leb-true before e p.1.0)) (must-says _ (fixed-says 4))

abbrev Ends : {X : Type 0} → List X → ℕ → List ℕ → List ℕ → Type 0
Ends = Run (λ s x. StringEnd s) (λ before e. e)

last-ge : {X : Type 0} (xs : List X) (from : ℕ) (ends cs : List ℕ) → Ends xs from ends cs → from ≤ last_or from ends
unfolding last_or StringEnd
last-ge [] from [] cs r = omega arith
last-ge [] from (e ∷ es) cs r = absurd r
last-ge (x ∷ xs) from [] cs r = absurd r
last-ge (x ∷ xs) from (e ∷ es) cs (c, d, q, (p, le), r) = omega (arith, last-ge xs e es d r)

record Cut (n from : ℕ) (ends cs bs : List ℕ) : Type 0 where
  written : flat (put_fixed 4) (ends_from from (cut from ends bs)) ≡ cs
  whole : flat (λ s. s) (cut from ends bs) ≡ bs
  many : length (cut from ends bs) ≡ n
  bytes : all bytes? (cut from ends bs) ≡ true

strings-again :
    {X : Type 0} (xs : List X) (from : ℕ) (ends cs bs : List ℕ) → Ends xs from ends cs → from + length bs ≡ last_or from ends → Bytes bs
    → Cut (length xs) from ends cs bs
unfolding last_or StringEnd ends_from cut flat all
strings-again [] from [] cs [] r h b = record { written = sym r; whole = refl; many = refl; bytes = refl }
strings-again [] from [] cs (c ∷ bs) r h b = absurd (omega arith)
strings-again [] from (e ∷ es) cs bs r h b = absurd r
strings-again (x ∷ xs) from [] cs bs r h b = absurd r
strings-again (x ∷ xs) from (e ∷ es) cs bs (c, d, q, (p, le), r) h b =
    let ge = last-ge xs e es d r in
    let len : from + length (take (e - from) bs) ≡ e = rw length-take (omega arith) in
    let ih = strings-again xs e es d (drop (e - from) bs) r (rw length-drop (omega arith)) (bytes_drop (e - from) bs b) in
    record {
      written = rw (len, p, ih.written) (sym q);
      whole = rw ih.whole (take-append-drop (e - from) bs);
      many = ap suc ih.many;
      bytes = and-join (bytes-kept _ (bytes_take (e - from) bs b)) ih.bytes;
    }

pub strings-kept : (s : State) → Says (string_block s) (λ ss cs. Spelt (string_pieces ss) cs × (number? (strings_rules s) (length ss) ≡ true) × (all bytes? ss ≡ true))
unfolding string_block string_pieces
strings-kept s =
    bind-says _ (number-kept (strings_rules s)) λ n cs p. bind-says _ (times-says _ StringEnd end-says n 0) λ ends ds q.
    bind-says _ (bytes-says (last_or 0 ends)) λ bs es r. give-says (cut 0 ends bs) _
    (let C = strings-again (replicate n (tt {0})) 0 ends ds bs q (zero-add _ ∙ r.2) r.1 in
    let len : length (cut 0 ends bs) ≡ n = C.many ∙ length-replicate n (tt {0}) in (
      spelt-join (free (length (cut 0 ends bs))) _ (subst (λ (z : ℕ). Spelt (free z) cs) (sym len) p.0) (spelt-join (firm _) _ (firm-as C.written) (spelt-end (firm _) (firm-as (C.whole ∙ r.0)))),
      rw len p.1,
      C.bytes,
    ))

pub ends-length : (from : ℕ) (ss : List (List ℕ)) → length (ends_from from ss) ≡ length ss
unfolding ends_from
ends-length from [] = refl
ends-length from (s ∷ ss) = ap suc (ends-length (from + length s) ss)

pub ends_last : (from : ℕ) (ss : List (List ℕ)) → last_or from (ends_from from ss) ≡ from + length (flat (λ s. s) ss)
unfolding ends_from last_or flat
ends_last from [] = omega arith
ends_last from (s ∷ ss) = ends_last (from + length s) ss ∙ rw length-append (omega arith)

ends-taken :
    (from : ℕ) (ss : List (List ℕ)) → from + length (flat (λ s. s) ss) < 256 ^ 4 → All₁ (λ b e. Takes (string_end b) (put_fixed 4 e) e) (λ b e. e) from (ends_from from ss)
unfolding ends_from flat string_end end_rules
ends-taken from [] h = tt
ends-taken from (s ∷ ss) h =
    let n = length-append s (flat (λ s. s) ss) in (
      must-takes _ (le-leb from (from + length s) (omega arith), tt) (fixed-takes 4 (from + length s) (omega arith)),
      ends-taken (from + length s) ss (omega arith),
    )

cut-ends : (from : ℕ) (ss : List (List ℕ)) → cut from (ends_from from ss) (flat (λ s. s) ss) ≡ ss
unfolding ends_from flat cut
cut-ends from [] = refl
cut-ends from (s ∷ ss) =
    let n : from + length s - from ≡ length s = omega arith in
    rw (n, take-append_seam, drop-append_seam, cut-ends (from + length s) ss)

bytes-flat : (ss : List (List ℕ)) → all bytes? ss ≡ true → Bytes (flat (λ s. s) ss)
unfolding all flat
bytes-flat [] h = tt
bytes-flat (s ∷ ss) h = let (a, b) = and_split (bytes? s) (all bytes? ss) h in bytes-append s (flat (λ s. s) ss) (bytes_back s a) (bytes-flat ss b)

pub strings-taken :
    (s : State) (ss : List (List ℕ)) → number? (strings_rules s) (length ss) ≡ true → all bytes? ss ≡ true → length (flat (λ s. s) ss) < 256 ^ 4 → Reads (string_block s) (string_pieces ss) ss
unfolding string_block string_pieces
strings-taken s ss h b lt =
    reads-is (cut-ends 0 ss)
    (bind-reads _ (number-taken (strings_rules s) (length ss) h)
    (bind-reads _
    (firm-reads (takes-as (written-flat (put_fixed 4) (λ b e. e) 0 (ends_from 0 ss))
    (times-takes string_end (λ b e. e) (λ b. put_fixed 4) (length ss) 0 (ends_from 0 ss) (ends-length 0 ss) (ends-taken 0 ss (omega arith)))))
    (bind-reads _ (firm-reads (bytes-takes (last_or 0 (ends_from 0 ss)) (flat (λ s. s) ss) (bytes-flat ss b) (sym (ends_last 0 ss ∙ zero-add _))))
    (give-reads (cut 0 (ends_from 0 ss) (flat (λ s. s) ss))))))

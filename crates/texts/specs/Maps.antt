-- A map's words, each held to the rules when it is read: the same as a map that is read first and held to them then. Once over the
-- number of types. Assumes nothing.
use Rattle.std.specs.Prelude.{◌≡◌, Bool, ◌&&◌}
use Rattle.std.proofs.Math.Path.{refl, ap}
use Rattle.std.proofs.Common.{sym, ◌∙◌}
use Rattle.std.proofs.Math.Bool.{true, false}
use mathlib.Core.List.{List, [], ◌∷◌, ◌++◌, map, append_assoc, append-nil}
use Prim.Native.Nat.{ℕ, zero, suc}
use Rattle.paper.specs.Reader.{when◌then◌else◌, Reader, Out, got, no as bad, and_then, ◌>>=◌, ◌>>◌, give, each, times, repeat}
use Rattle.paper.specs.Lists.{flat}
use Rattle.paper.specs.Ledger.{Element, keys}
use Rattle.paper.specs.Maps.{key_and_rest, map_of, size_of, size?, keys_due, opened, at_first, through_maps, all_through}
use Rattle.paper.specs.Rules.{small_rules}
use Rattle.paper.specs.Keeps.{number?, sized?}
use Rattle.laws.specs.Put.{put_element, put_size}
use Rattle.paper.specs.Listing.{tab}
use Rattle.paper.specs.Scan.{bad as stop, heed, byte_is, natural, read_element, map_words}
use Rattle.laws.specs.Laws.{not-got}
use Rattle.laws.specs.Bools.{not_so, and_split}
use Rattle.texts.specs.Quiet.{Fate, gives, refuses, fate-then, natural-word, byte-fate, element-word}
use Rattle.texts.specs.Exact.{judged, behind_tab}

-- a size
unfoldable pub size_word : Reader ℕ
size_word = byte_is tab >> (natural >>= λ n. heed (number? small_rules n) >> give n)

-- the bytes of a map of these kinds, and of a key of the first kind with what it leads to
unfoldable pub put_map : List ℕ → List Element → List ℕ
put_map ks es = through_maps put_element put_size es (ks ∷ [])

unfoldable pub put_key : List ℕ → List Element → List ℕ
put_key [] es = []
put_key (k ∷ ks) es = through_maps put_element put_size es ((k ∷ []) ∷ ks ∷ [])

-- ── a reading held to a test: whatever is wrong is refused alike ──

unfoldable pub held_to : {A : Type 0} → (A → Bool) → Out A → Out A
held_to test o = and_then o λ v d. when test v then got v d else bad 20 0

-- q reads what r reads and the test lets pass; F holds of all that r reads, and what r refuses is refused by 20
pub record Held {A : Type 0} (t : List ℕ) (r q : Reader A) (test : A → Bool) (F : A → Type 0) : Type 0 where
  pub fate : (at : ℕ) → Fate (λ a d. F a) (r t at)
  pub same : (at : ℕ) → q t at ≡ held_to test (r t at)

abbrev pub Anything : {A : Type 0} → A → Type 0
Anything a = Unit {0}

-- what q reads was read by r
pub held-read : {A : Type 0} {t : List ℕ} {r q : Reader A} {test : A → Bool} {F : A → Type 0} {at : ℕ} {v : A} {d : ℕ} → Held t r q test F → q t at ≡ got v d → F v
unfolding held_to when◌then◌else◌
held-read {A} {t} {r} {q} {test} {F} {at} {v} {d} X h = go (X.fate at) (sym (X.same at) ∙ h)
  where
    by : (a : A) (e : ℕ) → F a → (b : Bool) → (when b then got a e else bad 20 0) ≡ got v d → F v
    by a e f true z = let is : a ≡ v = cc z in rw is at f
    by a e f false z = not-got z

    go : {o : Out A} → Fate (λ a e. F a) o → and_then o (λ a e. when test a then got a e else bad 20 0) ≡ got v d → F v
    go (gives a e f) z = by a e f (test a) z
    go refuses z = not-got z

-- the same test in other words
pub held-as : {A : Type 0} {t : List ℕ} {r q : Reader A} {P Q : A → Bool} {F : A → Type 0} → ((a : A) → P a ≡ Q a) → Held t r q P F → Held t r q Q F
unfolding held_to when◌then◌else◌
held-as {A} {t} {r} {q} {P} {Q} {F} alike X = record { fate = X.fate; same = λ at. X.same at ∙ go (r t at) }
  where
    go : (o : Out A) → and_then o (λ a e. when P a then got a e else bad 20 0) ≡ and_then o (λ a e. when Q a then got a e else bad 20 0)
    go (got a e) = rw (alike a)
    go (bad n p) = refl

held-give : {A : Type 0} {t : List ℕ} (a : A) {test : A → Bool} {F : A → Type 0} → test a ≡ true → F a → Held t (give a) (give a) test F
unfolding give held_to when◌then◌else◌
held-give a h f = record { fate = λ at. gives a at f; same = λ at. rw h }

-- a value that is held to its test at once
held-judged : {A : Type 0} {t : List ℕ} (r : Reader A) (ok : A → Bool) {F : A → Type 0} → ((at : ℕ) → Fate (λ a d. F a) (r t at)) → Held t r (r >>= λ a. heed (ok a) >> give a) ok F
unfolding held_to heed when◌then◌else◌ ◌>>=◌ ◌>>◌ give
held-judged {A} {t} r ok fate = record { fate = fate; same = λ at. go (r t at) }
  where
    by : (a : A) (d : ℕ) (b : Bool) → and_then (when b then got (tt {0}) d else bad 20 0) (λ u e. got a e) ≡ (when b then got a d else bad 20 0)
    by a d true = refl
    by a d false = refl

    go : (o : Out A) → and_then o (λ a d. and_then (when ok a then got (tt {0}) d else bad 20 0) (λ u e. got a e)) ≡ and_then o (λ a d. when ok a then got a d else bad 20 0)
    go (got a d) = by a d (ok a)
    go (bad n p) = refl

anything : {A : Type 0} {Q : A → ℕ → Type 0} {o : Out A} → Fate Q o → Fate (λ a d. Anything a) o
anything (gives a d q) = gives a d tt
anything refuses = refuses

-- behind a tab
held-tab : {A : Type 0} {t : List ℕ} {r q : Reader A} {test : A → Bool} {F : A → Type 0} → Held t r q test F → Held t (byte_is tab >> r) (byte_is tab >> q) test F
unfolding held_to ◌>>◌
held-tab {A} {t} {r} {q} {test} X = record { fate = λ at. fate-then _ (byte-fate tab t at) (λ u d h. X.fate d); same = λ at. go (byte_is tab t at) }
  where
    go : (o : Out (Unit {0})) → and_then o (λ u. q t) ≡ and_then (and_then o (λ u. r t)) (λ a d. when test a then got a d else bad 20 0)
    go (got u d) = X.same d
    go (bad n p) = refl

-- one after the other: the test of what both give is the tests of both
module _
    {A B C : Type 0} {t : List ℕ} {r q : Reader A} {s u : A → Reader B} {P : A → Bool} {F : A → Type 0} {Q : A → B → Bool} {G : A → B → Type 0} (c : A → B → C)
    (R : C → Bool) (H : C → Type 0) (X : Held t r q P F) (Y : (a : A) → Held t (s a) (u a) (Q a) (G a))
    (join : (a : A) (b : B) → F a → G a b → (R (c a b) ≡ (P a && Q a b)) × H (c a b)) where
  second-kept :
      (a : A) → F a → P a ≡ true → {o : Out B} → Fate (λ b e. G a b) o
      → and_then (and_then o (λ b e. when Q a b then got b e else bad 20 0)) (λ b e. got (c a b) e) ≡ and_then (and_then o (λ b e. got (c a b) e)) (λ v e. when R v then got v e else bad 20 0)
  unfolding when◌then◌else◌
  second-kept a f z (gives b e g) = rw ((join a b f g).0, z) (by (Q a b))
    where
      by : (x : Bool) → and_then (when x then got b e else bad 20 0) (λ b d. got (c a b) d) ≡ (when x then got (c a b) e else bad 20 0)
      by true = refl
      by false = refl
  second-kept a f z refuses = refl

  second-lost : (a : A) → F a → P a ≡ false → {o : Out B} → Fate (λ b e. G a b) o → bad 20 0 ≡ and_then (and_then o (λ b e. got (c a b) e)) (λ v e. when R v then got v e else bad 20 0)
  unfolding when◌then◌else◌
  second-lost a f z (gives b e g) = rw ((join a b f g).0, z)
  second-lost a f z refuses = refl

  both-held :
      {o : Out A} → Fate (λ a d. F a) o
      → and_then (and_then o (λ a d. when P a then got a d else bad 20 0)) (λ a d. and_then (u a t d) (λ b e. got (c a b) e))
      ≡ and_then (and_then o (λ a d. and_then (s a t d) (λ b e. got (c a b) e))) (λ v e. when R v then got v e else bad 20 0)
  unfolding held_to when◌then◌else◌
  both-held (gives a d f) = by (P a) refl
    where
      by :
          (x : Bool) → P a ≡ x
          → and_then (when x then got a d else bad 20 0) (λ a d. and_then (u a t d) (λ b e. got (c a b) e)) ≡ and_then (and_then (s a t d) (λ b e. got (c a b) e)) (λ v e. when R v then got v e else bad 20 0)
      by true z = rw ((Y a).same d) (second-kept a f z ((Y a).fate d))
      by false z = second-lost a f z ((Y a).fate d)
  both-held refuses = refl

  held_then : Held t (r >>= λ a. s a >>= λ b. give (c a b)) (q >>= λ a. u a >>= λ b. give (c a b)) R H
  unfolding ◌>>=◌ give held_to
  held_then =
      record {
        fate = λ at. fate-then _ (X.fate at) (λ a d f. fate-then _ ((Y a).fate d) (λ b e g. gives (c a b) e (join a b f g).1));
        same = λ at. rw (X.same at) (both-held (X.fate at));
      }

-- ── elements in the form of the maps that are due: theirs end where those of others begin ──

unfoldable pub Formed : List Element → List (List ℕ) → Type 0
Formed es ks = all_through (λ k e. true) (λ e. true) es ks ≡ true

and_assoc : (a b c : Bool) → (a && (b && c)) ≡ ((a && b) && c)
and_assoc true b c = refl
and_assoc false b c = refl

module _ (ok : ℕ → Element → Bool) (fit : Element → Bool) (more : List Element) (due : List (List ℕ)) where
  apart-kept : (es : List Element) (ks : List (List ℕ)) → Formed es ks → all_through ok fit (es ++ more) (ks ++ due) ≡ (all_through ok fit es ks && all_through ok fit more due)
  unfolding Formed all_through
  apart-kept [] [] f = refl
  apart-kept [] (k ∷ ks) f = not_so f
  apart-kept (e ∷ es) [] f = not_so f
  apart-kept (e ∷ es) (k ∷ ks) f =
      let (a, b) = and_split (at_first false (λ k e. true) (λ e. true) k e) _ f in
      rw (← append_assoc (opened k e) ks due, apart-kept es (opened k e ++ ks) b) (and_assoc (at_first false ok fit k e) _ _)

module _ (one : ℕ → Element → List ℕ) (of : Element → List ℕ) (more : List Element) (due : List (List ℕ)) where
  apart-written : (es : List Element) (ks : List (List ℕ)) → Formed es ks → through_maps one of (es ++ more) (ks ++ due) ≡ through_maps one of es ks ++ through_maps one of more due
  unfolding Formed all_through through_maps
  apart-written [] [] f = refl
  apart-written [] (k ∷ ks) f = not_so f
  apart-written (e ∷ es) [] f = not_so f
  apart-written (e ∷ es) (k ∷ ks) f =
      let (a, b) = and_split (at_first false (λ k e. true) (λ e. true) k e) _ f in
      rw (← append_assoc (opened k e) ks due, apart-written es (opened k e ++ ks) b) (sym (append_assoc (at_first [] one of k e) _ _))

formed-join : (es fs : List Element) (ks ls : List (List ℕ)) → Formed es ks → Formed fs ls → Formed (es ++ fs) (ks ++ ls)
unfolding Formed
formed-join es fs ks ls f g = apart-kept (λ k e. true) (λ e. true) fs ls es ks f ∙ rw (f, g)

-- ── keys, each with what it leads to ──

pub record Apart (k : ℕ) (ks : List ℕ) (n : ℕ) (l : List (List Element)) : Type 0 where
  pub formed : Formed (flat (λ v. v) l) (keys_due k ks n)
  pub written : through_maps put_element put_size (flat (λ v. v) l) (keys_due k ks n) ≡ flat (put_key (k ∷ ks)) l

module _ (ok : ℕ → Element → Bool) (t : List ℕ) where
  pub keys-held :
      (k : ℕ) (ks : List ℕ) {r q : Reader (List Element)}
      → Held t r q (λ v. all_through ok sized? v ((k ∷ []) ∷ ks ∷ [])) (λ v. Formed v ((k ∷ []) ∷ ks ∷ []))
      → (n : ℕ) → Held t (repeat n r) (repeat n q) (λ l. all_through ok sized? (flat (λ v. v) l) (keys_due k ks n)) (Apart k ks n)
  unfolding repeat times each keys_due flat all_through through_maps put_key Formed
  keys-held k ks X zero = held-give [] refl (record { formed = refl; written = refl })
  keys-held k ks {r} {q} X (suc n) =
      held_then ◌∷◌ _ _ X (λ v. keys-held k ks X n) (λ v l f a. (
        apart-kept ok sized? (flat (λ v. v) l) (keys_due k ks n) v ((k ∷ []) ∷ ks ∷ []) f,
        record {
          formed = formed-join v (flat (λ v. v) l) ((k ∷ []) ∷ ks ∷ []) (keys_due k ks n) f a.formed;
          written = apart-written put_element put_size (flat (λ v. v) l) (keys_due k ks n) v ((k ∷ []) ∷ ks ∷ []) f ∙ ap (λ (z : List ℕ). through_maps put_element put_size v ((k ∷ []) ∷ ks ∷ []) ++ z) a.written;
        },
      ))

  -- the words of each kind are held to a test
  abbrev pub AllHeld : (ℕ → Reader Element) → List ℕ → Type 0
  AllHeld q [] = Unit {0}
  AllHeld q (k ∷ ks) = Held t (byte_is tab >> read_element k) (q k) (ok k) Anything × AllHeld q ks

  pub key-held :
      (k : ℕ) (ks : List ℕ) {w v : Reader Element} {r q : Reader (List Element)} → Held t w v (ok k) Anything → Held t r q (λ es. all_through ok sized? es (ks ∷ [])) (λ es. Formed es (ks ∷ []))
      → Held t (key_and_rest w r) (key_and_rest v q) (λ es. all_through ok sized? es ((k ∷ []) ∷ ks ∷ [])) (λ es. Formed es ((k ∷ []) ∷ ks ∷ []))
  unfolding key_and_rest all_through at_first opened Formed
  key-held k ks W X = held_then ◌∷◌ _ _ W (λ a. X) (λ a es u f. (refl, f))

  size-held : Held t (byte_is tab >> natural) size_word (λ n. sized? (keys n)) Anything
  unfolding size_word sized? size? size_of
  size-held = held-tab (held-judged natural (number? small_rules) (λ at. anything (natural-word t at)))

  -- an element behind a tab
  pub word_held : (k : ℕ) (kept : Element → Bool) → Held t (byte_is tab >> read_element k) (behind_tab kept k) kept Anything
  unfolding behind_tab judged
  word_held k kept = held-tab (held-judged (read_element k) kept (λ at. anything (element-word k t at)))

  pub map-held :
      (q : ℕ → Reader Element) (ks : List ℕ) → AllHeld q ks
      → Held t (map_words ks) (map_of stop size_word keys (map q ks)) (λ es. all_through ok sized? es (ks ∷ [])) (λ es. Formed es (ks ∷ []))
  unfolding map_words map_of stop repeat times each all_through at_first opened size_of Formed held_to
  map-held q [] all = record { fate = λ at. refuses; same = λ at. refl }
  map-held q (k ∷ []) all = held_then ◌∷◌ _ _ all.0 (λ a. held-give [] refl refl) (λ a l u is. one a l is)
    where
      one : (a : Element) (l : List Element) → l ≡ [] → (all_through ok sized? (a ∷ l) ((k ∷ []) ∷ []) ≡ (ok k a && true)) × (all_through (λ k e. true) (λ e. true) (a ∷ l) ((k ∷ []) ∷ []) ≡ true)
      one a l is = rw is (refl, refl)
  map-held q (k ∷ l ∷ ks) all =
      held_then (λ n v. keys n ∷ flat (λ x. x) v) _ _ size-held (λ n. keys-held k (l ∷ ks) (key-held k (l ∷ ks) all.0 (map-held q (l ∷ ks) all.1)) n)
      (λ n v u a. (rw (append-nil (keys_due k (l ∷ ks) n)), rw (append-nil (keys_due k (l ∷ ks) n)) a.formed))

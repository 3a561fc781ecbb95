-- The ways out of a map's words and of a key's with those of what it leads to, as code takes them. Assumes nothing.
use Rattle.std.specs.Prelude as prelude
use Rattle.std.specs.Prelude.{None, Some, ◌≡◌, Bool, ◌&&◌, ℕ, ◌-◌, ◌^◌, ◌≤◌, ◌<◌, ltb, length, get_or, take, drop}
use Rattle.std.proofs.Math.Path.{refl}
use Rattle.std.proofs.Common.{sym, ap, ◌∙◌, arith}
use Rattle.std.proofs.Math.Bool.{true, false}
use mathlib.Core.List.{List, [], ◌∷◌, ◌++◌, map, append-nil}
use borrow.Author.Tests.{lt-ltb, le-leb, lt-leb}
use Rattle.paper.specs.Reader.{when◌then◌else◌, Reader, got, no as bad, and_then, ◌>>=◌, ◌>>◌, give, repeat}
use Rattle.paper.specs.Lists.{flat}
use Rattle.paper.specs.Ledger.{Element, keys}
use Rattle.paper.specs.Maps.{key_and_rest, map_of, size_of, keys_due, opened, at_first, through_maps}
use Rattle.paper.specs.Rules.{small_rules}
use Rattle.paper.specs.Keeps.{hold?, number?}
use Rattle.laws.specs.Put.{put_element, put_size}
use Rattle.paper.specs.Numbers.{put}
use Rattle.paper.specs.Listing.{ascii, tab, newline}
use Rattle.paper.specs.Scan.{bad as stop, heed, byte_is, literal, ended, natural}
use Rattle.lay.specs.Laid.{Laid, laid_then, laid_as}
use Rattle.values.specs.Spans.{ranges}
use Rattle.values.specs.Maps.{key_of, rest_part}
use Rattle.texts.specs.Exact.{behind_tab, repeat-some, repeat-over}
use Rattle.texts.specs.Elements.{kept}
use Rattle.texts.specs.Told.{Lays, Told, takes, refuses, was-got, was-bad}
use Rattle.texts.specs.Maps.{size_word, put_map, put_key, held-read, Apart, keys-held, AllHeld, key-held, word_held, map-held}
use Rattle.texts.specs.declared.Taken.{Taken}

-- what an element of kind k is held to, and such an element behind a tab
unfoldable pub kept_in : ℕ → List ℕ → List ℕ → List ℕ → List ℕ → ℕ → Element → Bool
kept_in strings pools starts first last k = kept strings pools (ranges starts k first) (ranges starts k last) k

unfoldable pub word_in : ℕ → List ℕ → List ℕ → List ℕ → List ℕ → ℕ → Reader Element
word_in strings pools starts first last k = behind_tab (kept_in strings pools starts first last k) k

-- the map of these kinds, a key of the first with what it leads to, and the map's line
unfoldable pub map_in : ℕ → List ℕ → List ℕ → List ℕ → List ℕ → List ℕ → Reader (List Element)
map_in strings pools starts first last kinds = map_of stop size_word keys (map (word_in strings pools starts first last) kinds)

unfoldable pub key_in : ℕ → List ℕ → List ℕ → List ℕ → List ℕ → List ℕ → Reader (List Element)
key_in strings pools starts first last kinds = key_of stop size_word keys (map (word_in strings pools starts first last) kinds)

unfoldable pub line_in : ℕ → List ℕ → List ℕ → List ℕ → List ℕ → List ℕ → Reader (List Element)
line_in strings pools starts first last kinds = literal (ascii "val") >> ended newline (map_in strings pools starts first last kinds)

-- an element held to its type's own ranges
pub word-own :
    (strings : ℕ) (pools starts first last : List ℕ) (k : ℕ) {own-first own-last t : List ℕ} {p : ℕ} {l : List ℕ} {at : ℕ} {m : List ℕ} {o : prelude.Option Taken}
    → (own-first ≡ ranges starts k first) × (own-last ≡ ranges starts k last)
    → Told (behind_tab (kept strings pools own-first own-last k) k) (put_element k) t p l at m o
    → Told (word_in strings pools starts first last k) (put_element k) t p l at m o
unfolding word_in kept_in
word-own strings pools starts first last k own T = rw (own.0, own.1) at T

-- ── a size ──

module _ (t : List ℕ) (from : ℕ) where
  pub size-no-tab : bad 20 0 ≡ byte_is tab t from → bad 20 0 ≡ size_word t from
  unfolding size_word ◌>>◌
  size-no-tab h = rw (← h)

  module _ {u : Unit {0}} {p : ℕ} (tabbed : got u p ≡ byte_is tab t from) where
    pub size-no-word : bad 20 0 ≡ natural t p → bad 20 0 ≡ size_word t from
    unfolding size_word ◌>>=◌ ◌>>◌
    size-no-word h = rw (← tabbed, ← h)

    module _ {n q : ℕ} (word : got n q ≡ natural t p) where
      pub size-large : 65535 < n → bad 20 0 ≡ size_word t from
      unfolding size_word heed number? hold? small_rules when◌then◌else◌ ◌>>=◌ ◌>>◌
      size-large h = rw (← tabbed, ← word, lt-leb n 65535 h) (go (ltb n (256 ^ 8)))
        where
          go : (b : Bool) → bad 20 0 ≡ and_then (when b && false then got (tt {0}) q else bad 20 0) (λ u. give n t)
          go true = refl
          go false = refl

      pub size-taken : n ≤ 65535 → got n q ≡ size_word t from
      unfolding size_word heed number? hold? small_rules when◌then◌else◌ ◌>>=◌ ◌>>◌ give
      size-taken h = rw (← tabbed, ← word, le-leb n 65535 h, lt-ltb n (256 ^ 8) (omega arith))

-- ── a map ──

module _ (strings : ℕ) (pools starts first last : List ℕ) where
  all_words : (t ks : List ℕ) → AllHeld (kept_in strings pools starts first last) t (word_in strings pools starts first last) ks
  unfolding word_in
  all_words t [] = tt
  all_words t (k ∷ ks) = (word_held (kept_in strings pools starts first last) t k (kept_in strings pools starts first last k), all_words t ks)

  module _ {t : List ℕ} {from : ℕ} where
    one-taken :
        (k : ℕ) {l : List ℕ} {at : ℕ} {m : List ℕ} {o : prelude.Option Taken} → Told (word_in strings pools starts first last k) (put_element k) t from l at m o
        → Told (map_in strings pools starts first last (k ∷ [])) (put_map (k ∷ [])) t from l at m o
    unfolding map_in map_of put_map through_maps at_first opened
    one-taken k (takes j L) =
        takes j (record {
          value = L.value ∷ [];
          reads = repeat-some (word_in strings pools starts first last k) t from 1 (omega arith) ∙ rw (L.reads, repeat-over (word_in strings pools starts first last k) t j.next.at);
          laid = laid_as L.laid (sym (append-nil (put_element k L.value)));
        })
    one-taken k (refuses h) = refuses (repeat-some (word_in strings pools starts first last k) t from 1 (omega arith) ∙ rw h)

  many_read :
      (k l : ℕ) (ks : List ℕ) (t : List ℕ) (from : ℕ)
      → map_in strings pools starts first last (k ∷ l ∷ ks) t from
      ≡ and_then (size_word t from) (λ n d. and_then (repeat n (key_in strings pools starts first last (k ∷ l ∷ ks)) t d) (λ v e. got (keys n ∷ flat (λ x. x) v) e))
  unfolding map_in key_in map_of key_of ◌>>=◌ give
  many_read k l ks t from = refl

  keys-apart :
      (k l : ℕ) (ks : List ℕ) (n : ℕ) (t : List ℕ) (from : ℕ) {v : List (List Element)} {d : ℕ} → repeat n (key_in strings pools starts first last (k ∷ l ∷ ks)) t from ≡ got v d
      → Apart k (l ∷ ks) n v
  unfolding key_in key_of
  keys-apart k l ks n t from h =
      held-read
      (keys-held (kept_in strings pools starts first last) t k (l ∷ ks)
      (key-held (kept_in strings pools starts first last) t k (l ∷ ks) (all_words t (k ∷ [])).0
      (map-held (kept_in strings pools starts first last) t (word_in strings pools starts first last) (l ∷ ks) (all_words t (l ∷ ks)))) n) h

  keys-taken :
      (k l : ℕ) (ks : List ℕ) {t : List ℕ} {from n p : ℕ} {l₁ l₂ l₃ : List ℕ} {at q : ℕ} {o : prelude.Option Taken} → got n p ≡ size_word t from → Laid l₁ at (put n) l₂ q
      → Told (repeat n (key_in strings pools starts first last (k ∷ l ∷ ks))) (flat (put_key (k ∷ l ∷ ks))) t p l₂ q l₃ o
      → Told (map_in strings pools starts first last (k ∷ l ∷ ks)) (put_map (k ∷ l ∷ ks)) t from l₁ at l₃ o
  unfolding put_map through_maps at_first opened put_size size_of
  keys-taken k l ks {t} {from} {n} {p} size L (takes j M) =
      let A = keys-apart k l ks n t p M.reads in
      takes j (record {
        value = keys n ∷ flat (λ x. x) M.value;
        reads = many_read k l ks t from ∙ rw (← size, M.reads);
        laid = laid_as (laid_then L M.laid) (rw (append-nil (keys_due k (l ∷ ks) n)) (ap (λ (z : List ℕ). put n ++ z) (sym A.written)));
      })
  keys-taken k l ks {t} {from} size L (refuses h) = refuses (many_read k l ks t from ∙ rw (← size, h))

  pub way-word :
      (l : List ℕ) {t : List ℕ} {from : ℕ} {l₁ : List ℕ} {at : ℕ} {m : List ℕ} {o : prelude.Option Taken} → length l ≡ 1
      → Told (word_in strings pools starts first last (get_or l 0 0)) (put_element (get_or l 0 0)) t from l₁ at m o → Told (map_in strings pools starts first last l) (put_map l) t from l₁ at m o
  way-word [] h T = absurd (omega arith)
  way-word (k ∷ []) h T = one-taken k T
  way-word (k ∷ l ∷ ks) h T = absurd (omega arith)

  pub way-no-size : (l t : List ℕ) (from : ℕ) → 1 ≤ length l → (length l ≡ 1 → ⊥) → bad 20 0 ≡ size_word t from → map_in strings pools starts first last l t from ≡ bad 20 0
  way-no-size [] t from h more z = absurd (omega arith)
  way-no-size (k ∷ []) t from h more z = absurd (more refl)
  way-no-size (k ∷ l ∷ ks) t from h more z = many_read k l ks t from ∙ rw (← z)

  pub way-keys :
      (l : List ℕ) {t : List ℕ} {from n p : ℕ} {l₁ l₂ l₃ : List ℕ} {at q : ℕ} {o : prelude.Option Taken} → 1 ≤ length l → (length l ≡ 1 → ⊥) → got n p ≡ size_word t from → Laid l₁ at (put n) l₂ q
      → Told (repeat n (key_in strings pools starts first last l)) (flat (put_key l)) t p l₂ q l₃ o → Told (map_in strings pools starts first last l) (put_map l) t from l₁ at l₃ o
  way-keys [] h more = absurd (omega arith)
  way-keys (k ∷ []) h more = absurd (more refl)
  way-keys (k ∷ l ∷ ks) h more = keys-taken k l ks

  -- ── a key and what it leads to ──

  key-read :
      (k : ℕ) (ks : List ℕ) (t : List ℕ) (from : ℕ)
      → key_in strings pools starts first last (k ∷ ks) t from
      ≡ and_then (word_in strings pools starts first last k t from) (λ a d. and_then (map_in strings pools starts first last ks t d) (λ v e. got (a ∷ v) e))
  unfolding key_in map_in key_of key_and_rest ◌>>=◌ give
  key-read k ks t from = refl

  module _ {t : List ℕ} {from : ℕ} {l₁ : List ℕ} {at : ℕ} {m : List ℕ} where
    pub way-no-key :
        (l : List ℕ) {o : prelude.Option Taken} → 2 ≤ length l → Told (word_in strings pools starts first last (get_or l 0 0)) (put_element (get_or l 0 0)) t from l₁ at m o → o ≡ None
        → key_in strings pools starts first last l t from ≡ bad 20 0
    way-no-key [] h T is = absurd (omega arith)
    way-no-key (k ∷ ks) h T is = key-read k ks t from ∙ rw (was-bad T is)

    rest-taken :
        (k : ℕ) (ks : List ℕ) {j : Taken} {l₃ : List ℕ} {x : prelude.Option Taken} → Lays (word_in strings pools starts first last k) (put_element k) t from l₁ at m j
        → Told (map_in strings pools starts first last ks) (put_map ks) t j.next.at m j.at l₃ x → Told (key_in strings pools starts first last (k ∷ ks)) (put_key (k ∷ ks)) t from l₁ at l₃ x
    unfolding put_key put_map through_maps at_first opened
    rest-taken k ks L (takes i M) =
        takes i (record {
          value = L.value ∷ M.value;
          reads = key-read k ks t from ∙ rw (L.reads, M.reads);
          laid = laid_then L.laid M.laid;
        })
    rest-taken k ks L (refuses h) = refuses (key-read k ks t from ∙ rw (L.reads, h))

    -- what it leads to is read by the rest of the kinds, lent as a part
    pub way-rest :
        (l : List ℕ) {o : prelude.Option Taken} {j : Taken} {l₃ : List ℕ} {x : prelude.Option Taken} → 2 ≤ length l → Told (word_in strings pools starts first last (get_or l 0 0)) (put_element (get_or l 0 0)) t from l₁ at m o
        → o ≡ Some j → Told (map_in strings pools starts first last (take (length l - 1) (drop 1 l))) (put_map (take (length l - 1) (drop 1 l))) t j.next.at m j.at l₃ x
        → Told (key_in strings pools starts first last l) (put_key l) t from l₁ at l₃ x
    way-rest [] h T is M = absurd (omega arith)
    way-rest (k ∷ ks) h T is M = rest-taken k ks (was-got T is) (rw (rest_part (k ∷ ks)) at M)

-- A text laid into lent bytes: what does not fit is not stored, but counted. Assumes nothing.
use Rattle.std.specs.Prelude.{◌≡◌, refl, List, [], ◌∷◌, ◌++◌, ℕ, suc, ◌+◌, ◌-◌, ◌^◌, ◌≤◌, ◌<◌, min, length, get_or, drop, set}
use Rattle.std.proofs.Common.{sym, ◌∙◌, ap, append_assoc, append-nil, arith, add-one, add-zero, le_of_lt, lt_of_not-le, length-append, length-set, drop_of_length-le, drop-cons}
use Rattle.std.proofs.Math.Nat.{min-eq_left, min-eq_right}
use Rattle.std.proofs.Math.Decide.{dec_le}
use Rattle.std.proofs.lemmas.List.Edits.{sets}
use Rattle.std.proofs.Math.Seq.{set_out, length-sets}

-- the largest number that a count reaches: there it stands still
unfoldable pub most : ℕ
most = 2 ^ 64 - 1

-- `m` is `l` with the text `w` from place `at`, as far as it fits, and `r` is the place behind the text
pub record Laid (l : List ℕ) (at : ℕ) (w m : List ℕ) (r : ℕ) : Type 0 where
  pub bytes : m ≡ sets l at w
  pub next : r ≡ min (at + length w) most
  pub room : length l ≤ most

-- stores past the end are none
pub sets-out : (w l : List ℕ) (at : ℕ) → length l ≤ at → sets l at w ≡ l
sets-out [] l at h = refl
sets-out (b ∷ w) l at h =
    let q : length (set l at b) ≤ suc at = simp length-set (omega arith) in
    sets-out w (set l at b) (suc at) q ∙ set_out l at b h

pub sets-append : (v w l : List ℕ) (at : ℕ) → sets l at (v ++ w) ≡ sets (sets l at v) (at + length v) w
sets-append [] w l at = rw add-zero
sets-append (b ∷ v) w l at =
    sets-append v w (set l at b) (suc at) ∙ ap (λ (n : ℕ). sets (sets (set l at b) (suc at) v) n w) (omega arith)

-- a place that stands still is behind the end
sets-least : (w l : List ℕ) (k : ℕ) → length l ≤ most → sets l (min k most) w ≡ sets l k w
sets-least w l k h =
    elim (dec_le k most) [
      | yes d ↦ rw (min-eq_left d)
      | no d ↦
          (let lt : most < k = lt_of_not-le d in
          rw (min-eq_right (le_of_lt lt)) (sets-out w l most h ∙ sym (sets-out w l k (omega arith))))
    ]

min-least : (a b n : ℕ) → min (min a n + b) n ≡ min (a + b) n
min-least a b n = omega arith

-- ── what code meets ──

pub laid_none : {l : List ℕ} {at : ℕ} → length l ≤ most → at ≤ most → Laid l at [] l at
laid_none h k = record { bytes = refl; next = rw add-zero (sym (min-eq_left k)); room = h }

pub laid_then : {l m n v w : List ℕ} {at p r : ℕ} → Laid l at v m p → Laid m p w n r → Laid l at (v ++ w) n r
laid_then {l} {m} {n} {v} {w} {at} {p} {r} a b =
    record {
      bytes =
          b.bytes
          ∙ rw (a.bytes, a.next, sets-least w (sets l at v) (at + length v) (rw length-sets a.room)) (sym (sets-append v w l at));
      next = b.next ∙ rw (a.next, min-least (at + length v) (length w) most, length-append v w) (ap (λ (k : ℕ). min k most) (omega arith));
      room = a.room;
    }

pub laid-long : {l m w : List ℕ} {at r : ℕ} → Laid l at w m r → length m ≡ length l
laid-long {l} {m} {w} {at} {r} a = rw a.bytes (length-sets l at w)

-- the same text in other words
pub laid_as : {l m v w : List ℕ} {at r : ℕ} → Laid l at v m r → v ≡ w → Laid l at w m r
laid_as {l} {m} {v} {w} {at} {r} a e = rw e at a

module _ (l : List ℕ) (at b : ℕ) where
  pub laid_in : length l ≤ most → at < length l → Laid l at (b ∷ []) (set l at b) (at + 1)
  laid_in h lt = record { bytes = refl; next = omega arith; room = h }

  pub laid-past : length l ≤ at → at < most → Laid l at (b ∷ []) l (at + 1)
  laid-past le lt = record { bytes = sym (set_out l at b le); next = omega arith; room = omega arith }

  pub laid-still : length l ≤ most → at ≡ most → Laid l at (b ∷ []) l at
  laid-still h e =
      record { bytes = sym (set_out l at b (omega arith)); next = omega arith; room = h }

-- a text that lies wholly behind the end
pub laid-over : {l w : List ℕ} {at r : ℕ} → length l ≤ most → length l ≤ at → r ≡ min (at + length w) most → Laid l at w l r
laid-over {l} {w} {at} h le is = record { bytes = sym (sets-out w l at le); next = is; room = h }

-- one that fits wholly
pub laid-whole : {l w m : List ℕ} {at : ℕ} → length l ≤ most → at + length w ≤ length l → m ≡ sets l at w → Laid l at w m (at + length w)
laid-whole h fits is = record { bytes = is; next = sym (min-eq_left (omega arith)); room = h }

-- bytes that are stored one by one
pub record Storing (l : List ℕ) (at : ℕ) (w m : List ℕ) (i : ℕ) : Type 0 where
  pub long : length m ≡ length l
  pub within : i ≤ length w
  pub same : sets m (at + i) (drop i w) ≡ sets l at w

pub storing-start : (l : List ℕ) (at : ℕ) (w : List ℕ) → Storing l at w l 0
storing-start l at w = record { long = refl; within = omega arith; same = rw add-zero }

module _ {l : List ℕ} {at : ℕ} {w m : List ℕ} {i : ℕ} (g : Storing l at w m i) where
  pub storing-on : i < length w → Storing l at w (set m (at + i) (get_or w i 0)) (i + 1)
  storing-on lt =
      let next : at + (i + 1) ≡ suc (at + i) = omega arith in
      record {
        long = length-set m (at + i) (get_or w i 0) ∙ g.long;
        within = omega arith;
        same = rw (next, add-one) (rw (drop-cons w i 0 lt) at g.same);
      }

  pub storing-done : length w ≤ i → m ≡ sets l at w
  storing-done le = rw (drop_of_length-le w le) at g.same

-- ── loops: what is left to write leads to the whole ──

-- one element more
pub drop_more : (s : List ℕ) (i : ℕ) → i < length s → drop i s ≡ (get_or s i 0 ∷ []) ++ drop (i + 1) s
drop_more s i h = rw (drop-cons s i 0 h, add-one)

pub record Leads (l₀ : List ℕ) (at₀ : ℕ) (w₀ l : List ℕ) (at : ℕ) (w : List ℕ) : Type 0 where
  pub done : List ℕ
  pub laid : Laid l₀ at₀ done l at
  pub whole : done ++ w ≡ w₀
  pub long : length l ≡ length l₀

pub leads-start : {l w : List ℕ} {at : ℕ} → length l ≤ most → at ≤ most → Leads l at w l at w
leads-start h k = record { done = []; laid = laid_none h k; whole = refl; long = refl }

pub leads-on :
    {l₀ w₀ l u v w m : List ℕ} {at₀ at p : ℕ}
    → Leads l₀ at₀ w₀ l at u → u ≡ v ++ w → Laid l at v m p → Leads l₀ at₀ w₀ m p w
leads-on {l₀} {w₀} {l} {u} {v} {w} {m} a e b =
    record {
      done = a.done ++ v;
      laid = laid_then a.laid b;
      whole = append_assoc a.done v w ∙ rw e at a.whole;
      long = rw (b.bytes, length-sets) a.long;
    }

pub leads-end : {l₀ w₀ l w : List ℕ} {at₀ at : ℕ} → Leads l₀ at₀ w₀ l at w → w ≡ [] → Laid l₀ at₀ w₀ l at
leads-end {l₀} {w₀} {l} {w} a e = laid_as a.laid (sym (append-nil a.done) ∙ rw e at a.whole)

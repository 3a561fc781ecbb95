-- String ends and the cut of the string bytes, on plain values. Assumes nothing.
use Rattle.std.specs.Prelude.{◌≡◌, Bool, true, false, List, [], ◌∷◌, ◌++◌, ℕ, zero, suc, ◌+◌, ◌-◌, ◌*◌, ◌≤◌, ◌<◌, leb, drop}
use Rattle.std.proofs.Math.Path.{refl, ap}
use Rattle.std.proofs.Common.{sym, ap₂, ◌∙◌, append_assoc, append-nil, le_refl, not-suc-le-zero, sub-one, take_all, take-take, drop-drop}
use native.Mathlib.Omega.{arith}
use Rattle.std.proofs.Math.Decide.{dec_le}
use Rattle.std.proofs.Math.ListN.{length, take, length-drop, drop_of_length-le}
use Rattle.std.proofs.Math.Seq.{slice, take-nil, take-length, drop-length}
use borrow.Author.Tests.{le-leb, lt-leb}
use Rattle.paper.specs.Reader.{when◌then◌else◌, Out, got, no, times, each, and_then, ◌>>=◌, give, must, bytes}
use Rattle.paper.specs.Numbers.{fixed, number, v64, high_first}
use Rattle.paper.specs.Lists.{last_or}
use Rattle.paper.specs.Ledger.{State, field_at}
use Rattle.paper.specs.Rules.{with_strings, strings_rules, entered?}
use Rattle.paper.specs.File.{string_end, cut, string_block}
use Rattle.laws.specs.Laws.{not-got}
use Rattle.table.specs.View.{Said}
use Rattle.table.specs.Adds.{add_string}
use Rattle.reader.specs.Sound.{Sound, Declared, every_map}
use Rattle.reader.specs.Strings.{add_strings, ends, piece, pieces, capped, Rising}

-- ── a place that is cut at the file's end ──

cap-len : (len n : ℕ) → len ≤ n → capped len n ≡ len
unfolding capped when◌then◌else◌
cap-len len n h = rw (le-leb len n h)

cap-n : (len n : ℕ) → n < len → capped len n ≡ n
unfolding capped when◌then◌else◌
cap-n len n h = rw (lt-leb len n h)

pub cap-most : (len n : ℕ) → capped len n ≤ len
cap-most len n = elim (dec_le len n) [ Dec.yes h ↦ rw (cap-len len n h) (le_refl len) | Dec.no h ↦ omega (arith, cap-n len n (omega arith)) ]

pub placed_end : (len base e : ℕ) → len ≤ base + e → len ≡ capped len (base + e)
placed_end len base e h = sym (cap-len len (base + e) h)

pub placed-in : (len base e : ℕ) → base + e < len → base + e ≡ capped len (base + e)
placed-in len base e h = sym (cap-n len (base + e) h)

-- a part of the file, two ways
slice-take : (f : List ℕ) (a b : ℕ) → a ≤ b → slice a b f ≡ take (b - a) (drop a f)
slice-take f zero b h = let z : b ≡ b - 0 = omega arith in ap (λ (n : ℕ). take n f) z
slice-take [] (suc a) zero h = absurd (not-suc-le-zero h)
slice-take [] (suc a) (suc b) h = sym (take-nil (suc b - suc a))
slice-take (x ∷ f) (suc a) zero h = absurd (not-suc-le-zero h)
slice-take (x ∷ f) (suc a) (suc b) h = let z : b - a ≡ suc b - suc a = omega arith in slice-take f a b (omega arith) ∙ ap (λ (n : ℕ). take n (drop a f)) z

module _ (f : List ℕ) (b from e : ℕ) (le : from ≤ e) where
  pub capped-piece : slice (capped (length f) (b + from)) (capped (length f) (b + e)) f ≡ piece f b from e
  unfolding piece
  capped-piece =
      elim (dec_le (length f) (b + from)) [
        | Dec.yes h ↦
            rw (cap-len (length f) (b + from) h, cap-len (length f) (b + e) (omega arith), take-length f, drop-length f, drop_of_length-le f h)
            (sym (take-nil (e - from)))
        | Dec.no h ↦
            let lt : b + from < length f = omega arith in
            elim (dec_le (length f) (b + e)) [
              | Dec.yes k ↦
                  rw (cap-n (length f) (b + from) lt, cap-len (length f) (b + e) k, take-length f)
                  (sym (take_all (e - from) (drop (b + from) f) (rw length-drop (omega arith))))
              | Dec.no k ↦
                  rw (cap-n (length f) (b + from) lt, cap-n (length f) (b + e) (omega arith))
                  (let z : b + e - (b + from) ≡ e - from = omega arith in slice-take f (b + from) (b + e) (omega arith) ∙ ap (λ (n : ℕ). take n (drop (b + from) f)) z)
            ]
      ]

-- ── ends ──

pub four-on : (f : List ℕ) (at e q : ℕ) → fixed 4 f at ≡ got e q → q ≡ at + 4
unfolding fixed bytes ◌>>=◌ give when◌then◌else◌
four-on f at e q h = go (leb (at + 4) (length f)) h
  where
    go : (t : Bool) → and_then (when t then got (take 4 (drop at f)) (at + 4) else no 1 at) (λ bs m. got (high_first bs) m) ≡ got e q → q ≡ at + 4
    go true k = cc k
    go false k = not-got k

pub then-then : {A B C : Type 0} (o : Out A) (g : A → ℕ → Out B) (h : B → ℕ → Out C) → and_then (and_then o g) h ≡ and_then o (λ a e. and_then (g a e) h)
then-then (got a e) g h = refl
then-then (no n p) g h = refl

module _ (f : List ℕ) (prev at : ℕ) where
  ends-none : ends 0 prev f at ≡ got [] at
  unfolding ends times each give
  ends-none = refl

  ends-one : (n : ℕ) → ends (suc n) prev f at ≡ and_then (string_end prev f at) (λ e p. and_then (ends n e f p) (λ es q. got (e ∷ es) q))
  unfolding ends times each give ◌>>=◌
  ends-one n = refl

  -- where some are left
  pub ends-step : (n : ℕ) → 0 < n → ends n prev f at ≡ and_then (string_end prev f at) (λ e p. and_then (ends (n - 1) e f p) (λ es q. got (e ∷ es) q))
  ends-step zero h = absurd (not-suc-le-zero h)
  ends-step (suc n) h = ends-one n ∙ rw (sub-one (suc n)) refl

  pub ends-stop : (n : ℕ) → n ≤ 0 → ends n prev f at ≡ got [] at
  ends-stop n h = let z : n ≡ 0 = omega arith in ap (λ (k : ℕ). ends k prev f at) z ∙ ends-none

pub last_snoc : (d : ℕ) (es : List ℕ) (e : ℕ) → last_or d (es ++ e ∷ []) ≡ e
unfolding last_or
last_snoc d [] e = refl
last_snoc d (x ∷ es) e = last_snoc x es e

pub rising_snoc : (from : ℕ) (es : List ℕ) (e : ℕ) → Rising from es → last_or from es ≤ e → Rising from (es ++ e ∷ [])
unfolding last_or
rising_snoc from [] e r h = (h, tt)
rising_snoc from (x ∷ es) e r h = (r.0, rising_snoc x es e r.1 h)

rising-last : (from : ℕ) (es : List ℕ) → Rising from es → from ≤ last_or from es
unfolding last_or
rising-last from [] r = le_refl from
rising-last from (e ∷ es) r = omega (arith, rising-last e es r.1, r.0)

pub pieces-snoc : (f : List ℕ) (b from : ℕ) (es : List ℕ) (e : ℕ) → pieces f b from (es ++ e ∷ []) ≡ pieces f b from es ++ piece f b (last_or from es) e ∷ []
unfolding pieces last_or
pieces-snoc f b from [] e = refl
pieces-snoc f b from (x ∷ es) e = ap (λ (l : List (List ℕ)). piece f b from x ∷ l) (pieces-snoc f b x es e)

-- ── strings that the table has more ──

-- all that the table says, with other strings
abbrev restrung : Said → List (List ℕ) → Said
restrung g strings =
    record {
      state =
          record {
            strings = strings;
            type_names = g.state.type_names;
            types = g.state.types;
            field_names = g.state.field_names;
            fields = g.state.fields;
            log = g.state.log;
            block = g.state.block;
          };
      due = g.due;
      chunks = g.chunks;
    }

pub add-string : (g : Said) (ps : List (List ℕ)) (x : List ℕ) → add_string (add_strings g ps) x ≡ add_strings g (ps ++ x ∷ [])
unfolding add_string add_strings with_strings
add-string g ps x = ap (restrung g) (append_assoc g.state.strings ps (x ∷ []))

pub add_none : (g : Said) → add_strings g [] ≡ g
unfolding add_strings with_strings
add_none g = ap (restrung g) (append-nil g.state.strings)

-- they do not matter to what holds while entries are read
pub strings-sound : {g : Said} (ps : List (List ℕ)) → Sound g → Sound (add_strings g ps)
unfolding add_strings with_strings field_at entered?
strings-sound {g} ps k =
    record {
      block = k.block;
      names = k.names;
      flds = k.flds;
      known = k.known;
      once = k.once;
      room = k.room;
      spread = k.spread;
      declared = every_map (Declared g.state) (Declared (with_strings g.state ps)) (λ d x. record { below = x.below; entered = x.entered }) g.due k.declared;
      apart = k.apart;
      chunks = k.chunks;
    }

-- ── the cut of the string bytes ──

drop-take : (n m : ℕ) (l : List ℕ) → drop n (take m l) ≡ take (m - n) (drop n l)
drop-take zero m l = let z : m ≡ m - 0 = omega arith in ap (λ (k : ℕ). take k l) z
drop-take (suc n) zero l = let z : 0 ≡ 0 - suc n = omega arith in rw (← z) refl
drop-take (suc n) (suc m) [] = sym (take-nil (suc m - suc n))
drop-take (suc n) (suc m) (x ∷ l) = drop-take n m l ∙ (let z : m - n ≡ suc m - suc n = omega arith in ap (λ (k : ℕ). take k (drop n l)) z)

cut-pieces : (f : List ℕ) (b from last : ℕ) (es : List ℕ) → Rising from es → last_or from es ≤ last → cut from es (take (last - from) (drop (b + from) f)) ≡ pieces f b from es
unfolding cut pieces piece last_or
cut-pieces f b from last [] r h = refl
cut-pieces f b from last (e ∷ es) r h =
    let le : e ≤ last = omega (arith, rising-last e es r.1, h) in
    let first : take (e - from) (take (last - from) (drop (b + from) f)) ≡ take (e - from) (drop (b + from) f) = take-take (e - from) (last - from) (drop (b + from) f) (omega arith) in
    let rest : drop (e - from) (take (last - from) (drop (b + from) f)) ≡ take (last - e) (drop (b + e) f) =
    drop-take (e - from) (last - from) (drop (b + from) f)
    ∙ rw (drop-drop (e - from) (b + from) f)
    (let z : last - from - (e - from) ≡ last - e = omega (arith, r.0) in
    let w : b + from + (e - from) ≡ b + e = omega (arith, r.0) in
    rw (z, w) refl) in
    ap₂ (λ (x : List ℕ) (xs : List (List ℕ)). x ∷ xs) first (ap (cut e es) rest ∙ cut-pieces f b e last es r.1 h)

-- ── the whole block ──

abbrev rest : List ℕ → Out (List ℕ) → Out (List (List ℕ))
rest f o = and_then o (λ es p. and_then (bytes (last_or 0 es) f p) (λ bs q. got (cut 0 es bs) q))

module _ (s : State) (f : List ℕ) (at : ℕ) where
  pub block_no : {n p : ℕ} → v64 f at ≡ no n p → string_block s f at ≡ no n p
  unfolding string_block number must ◌>>=◌ give
  block_no h = rw h

  module _ {n e : ℕ} (h : v64 f at ≡ got n e) where
    pub block-full : 1024 < length s.strings + n → string_block s f at ≡ no 3 at
    unfolding string_block number must strings_rules ◌>>=◌ give
    block-full lt = rw (h, lt-leb (length s.strings + n) 1024 lt)

    module _ (room : length s.strings + n ≤ 1024) where
      to-ends : string_block s f at ≡ rest f (ends n 0 f e)
      unfolding string_block number must strings_rules ◌>>=◌ give ends
      to-ends = rw (h, le-leb (length s.strings + n) 1024 room)

      pub block-no-ends : {k p : ℕ} → ends n 0 f e ≡ no k p → string_block s f at ≡ no k p
      block-no-ends q = to-ends ∙ ap (rest f) q

      module _ {es : List ℕ} {p : ℕ} (read : ends n 0 f e ≡ got es p) where
        pub block-no-bytes : {k d : ℕ} → bytes (last_or 0 es) f p ≡ no k d → string_block s f at ≡ no k d
        block-no-bytes w = to-ends ∙ rw (read, w)

        pub block-got : {d : ℕ} → Rising 0 es → p ≡ e + 4 * n → bytes (last_or 0 es) f p ≡ got (take (last_or 0 es) (drop p f)) d → string_block s f at ≡ got (pieces f (e + 4 * n) 0 es) d
        block-got {d} rises on w =
            let last = last_or 0 es in
            let c : cut 0 es (take (last - 0) (drop (e + 4 * n + 0) f)) ≡ pieces f (e + 4 * n) 0 es = cut-pieces f (e + 4 * n) 0 last es rises (le_refl last) in
            let z : last - 0 ≡ last = omega arith in
            let y : e + 4 * n + 0 ≡ p = omega arith in
            to-ends ∙ rw (read, w) (ap (λ (x : List (List ℕ)). got x d) (rw (z, y) at c))

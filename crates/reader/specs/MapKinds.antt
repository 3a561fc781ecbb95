-- The element kinds of a map, read one after the other into one number: the turns of the loop, on plain values. Assumes nothing.
use Rattle.std.specs.Prelude.{Ok, Err, ◌≡◌, refl, Bool, List, [], ◌∷◌, ◌++◌, ℕ, ◌+◌, ◌-◌, ◌*◌, ◌^◌, ◌≤◌, ◌<◌, min}
use Rattle.std.proofs.Math.Path.{sym, ap}
use Rattle.std.proofs.Common.{◌∙◌, append_assoc, append-nil, arith, length-append}
use Rattle.std.proofs.Math.Nat.{pow-le-pow_right, min-le_left, min_comm}
use Rattle.std.proofs.Math.ListN.{length}
use Rattle.paper.specs.Reader.{Out, got, no, and_then, turned, repeat}
use Rattle.paper.specs.Numbers.{number}
use Rattle.paper.specs.Lists.{fold}
use Rattle.paper.specs.Rules.{element_kind_rules}
use Rattle.laws.specs.Packed.{packed, packed_none, packed_more, packed-below, packed-room}
use Rattle.numbers.specs.Cursors.{Read, was-got, was-refused, Outcome}
use Rattle.numbers.specs.declared.Cursor.{Cursor}
use Rattle.numbers.specs.declared.Refusal.{Refusal}
use Rattle.reader.specs.Kinds.{packed_of}
use Rattle.reader.specs.Runs.{runs-stop, runs-step}

-- a kind more comes last
abbrev behind : List ℕ → ℕ → List ℕ
behind done k = done ++ k ∷ []

all-behind : (ks done : List ℕ) → fold behind done ks ≡ done ++ ks
unfolding fold
all-behind [] done = sym (append-nil done)
all-behind (k ∷ ks) done = all-behind ks (done ++ k ∷ []) ∙ append_assoc done (k ∷ []) ks

behind-none : (o : Out (List ℕ)) → o ≡ turned (fold behind []) o
behind-none (got ks e) = ap (λ (l : List ℕ). got l e) (sym (all-behind ks []))
behind-none (no n p) = refl

-- `rest` are left, of `all`: those that were read make the number p, and what is left to read from here gives the whole
pub record KindsGoing (named : ℕ → Bool) (f : List ℕ) (at₀ all rest p at : ℕ) : Type 0 where
  pub done : List ℕ
  pub is : p ≡ packed done
  pub few : length done + rest ≤ 8
  pub inside : at₀ ≤ length f → at ≤ length f
  pub says : packed_of named all f at₀ ≡ turned packed (turned (fold behind done) (repeat rest (number (element_kind_rules named)) f at))

pub kinds-begin : (named : ℕ → Bool) (f : List ℕ) (at : ℕ) {all : ℕ} → all ≤ 8 → KindsGoing named f at all all 0 at
unfolding packed_of
kinds-begin named f at {all} le =
    record {
      done = [];
      is = sym packed_none;
      few = omega arith;
      inside = λ lo. lo;
      says = ap (turned packed) (behind-none (repeat all (number (element_kind_rules named)) f at));
    }

module _ {named : ℕ → Bool} {f : List ℕ} {at₀ all rest p at : ℕ} (g : KindsGoing named f at₀ all rest p at) where
  -- there is room for one byte more
  pub kinds-room : 0 < rest → p * 256 + 255 < 2 ^ 64
  kinds-room pos = omega (arith, g.is, packed-room g.done (omega (arith, g.few)))

  pub kinds-fit : 0 < rest → (k : ℕ) {b : ℕ} → b ≡ min k 255 → p * 256 + b < 2 ^ 64
  kinds-fit pos k byte = omega (arith, kinds-room pos, byte, min_comm k 255, min-le_left 255 k)

  pub kinds-done : rest ≤ 0 → Read (packed_of named all) (2 ^ 64) f at₀ (Ok (p, record { at = at }))
  unfolding repeat
  kinds-done le =
      let stop : turned (fold behind g.done) (repeat rest (number (element_kind_rules named)) f at) ≡ got g.done at =
      runs-stop (λ u. number (element_kind_rules named)) (λ u a. u) behind (λ done. tt) (λ done a. refl) f rest g.done at le in
      let most : 256 ^ length g.done ≤ 256 ^ 8 = pow-le-pow_right {n = 256} (omega arith) {j = 8} (omega (arith, g.few)) in
      record {
        says = ap (λ (n : ℕ). got n at) g.is ∙ sym (g.says ∙ ap (turned packed) stop);
        inside = g.inside;
        below = omega (arith, g.is, packed-below g.done, most);
      }

  module _ (pos : 0 < rest) {a : Outcome ℕ} (one : Read (number (element_kind_rules named)) (2 ^ 64) f at a) where
    turn :
        packed_of named all f at₀
        ≡ turned packed (and_then (number (element_kind_rules named) f at) (λ k e. turned (fold behind (behind g.done k)) (repeat (rest - 1) (number (element_kind_rules named)) f e)))
    unfolding repeat
    turn =
        g.says ∙ ap (turned packed) (runs-step (λ u. number (element_kind_rules named)) (λ u a. u) behind (λ done. tt) (λ done a. refl) f rest g.done at pos)

    pub kinds-no : {e : Refusal} → a ≡ Err e → Read (packed_of named all) (2 ^ 64) f at₀ (Err e)
    kinds-no is =
        let R = was-refused one is in
        record { says = sym (turn ∙ rw R.says); inside = λ lo. R.inside (g.inside lo); below = omega arith }

    pub kinds-next : {k : ℕ} {c : Cursor} → a ≡ Ok (k, c) → {b : ℕ} → b ≡ min k 255 → {left : ℕ} → left ≡ rest - 1 → KindsGoing named f at₀ all left (p * 256 + b) c.at
    kinds-next {k} is byte fewer =
        let R = was-got one is in
        rw fewer
        (record {
          done = g.done ++ k ∷ [];
          is = rw (byte, min_comm k 255, g.is) (sym (packed_more g.done k));
          few = rw (length-append g.done (k ∷ [])) (omega (arith, g.few));
          inside = λ lo. R.inside (g.inside lo);
          says = turn ∙ rw R.says;
        })

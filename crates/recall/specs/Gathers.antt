-- The ranges of one type, gathered on a walk. Assumes nothing.
use Rattle.std.specs.Prelude.{◌≡◌, refl, false, List, [], ◌∷◌, ℕ, ◌≤◌, ◌<◌, length, get_or, take, set}
use Rattle.std.proofs.Common.{sym, ap, ◌∙◌, inl, inr, arith, length-set, get_or-set_same, get_or-set_other, ne_eqb}
use native.Nat.{ℕᴺ_discrete}
use Rattle.paper.specs.Lists.{any}
use Rattle.paper.specs.Ledger.{Range, of?, holds?}
use Rattle.values.specs.Items.{in_ranges}
use Rattle.reader.specs.Counting.{Keys}
use Rattle.reader.specs.Sound.{type_of_range}
use Rattle.trail.specs.Stages.{Stage}
use Rattle.recall.specs.declared.ranges.Met.{Met}
use Rattle.recall.specs.Reached.{Reached}
use Rattle.recall.specs.Kept.{bounds, types-known}
use Rattle.recall.specs.Lying.{lies_in, lies-lent}
use Rattle.recall.specs.Puts.{Room, Planned}
use Rattle.recall.specs.Meets.{Nowhere, MetAll}

-- an object lies in one of the first r ranges just if it is one of the type
pub record Gathered (f : List ℕ) (k typ : ℕ) (first last : List ℕ) (r : ℕ) : Type 0 where
  pub few : r ≤ 32
  pub told : (g : Stage) → Reached f k g → (n : ℕ) → in_ranges (take r first) (take r last) n ≡ any (holds? typ n) g.state.log

none-held : (b t n : ℕ) (log : List Range) → Keys type_of_range b log → b ≤ t → any (holds? t n) log ≡ false
unfolding any holds? of?
none-held b t n [] k le = refl
none-held b t n (r ∷ log) k le = rw (ne_eqb r.type t (λ e. omega (arith, k.0))) (none-held b t n log k.1 le)

-- there is no type from 32 on
pub none-far : {f : List ℕ} {k : ℕ} {g : Stage} → Reached f k g → (t n : ℕ) → 32 ≤ t → any (holds? t n) g.state.log ≡ false
none-far {g = g} R t n far = none-held (length g.state.type_names) t n g.state.log (types-known R) (omega (arith, (bounds R).names))

pub gather-far : {f : List ℕ} {k typ : ℕ} {first last : List ℕ} → 32 ≤ typ → Gathered f k typ first last 0
unfolding in_ranges
gather-far {typ = typ} far = record { few = omega arith; told = λ g R n. sym (none-far R typ n far) }

module _ {places : List ℕ} (N : Nowhere places) {typ : ℕ} (lt : typ < 32) where
  here : get_or (set places typ 0) typ 0 ≡ 0
  here = get_or-set_same places typ 0 0 (omega (arith, N.long))

  else-far : (t : ℕ) → t < 32 → (t ≡ typ → ⊥) → get_or (set places typ 0) t 0 ≡ 18446744073709551615
  else-far t below ne = get_or-set_other places typ t 0 0 ne ∙ N.far t below

  module _ (first₀ last₀ : List ℕ) (a : length first₀ ≡ 32) (b : length last₀ ≡ 32) where
    has_room : Room (set places typ 0) first₀ last₀ typ
    has_room = record { in-first = omega (arith, here); in-last = omega (arith, here) }

    only_here : (t : ℕ) → t < 32 → Room (set places typ 0) first₀ last₀ t → t ≡ typ
    only_here t below R = elim (ℕᴺ_discrete t typ) [ yes e ↦ e | no ne ↦ absurd (omega (arith, else-far t below ne, R.in-first)) ]

    gather-plan : Planned (set places typ 0) first₀ last₀
    gather-plan =
        record {
          long = length-set places typ 0 ∙ N.long;
          asked = λ t below. elim (ℕᴺ_discrete t typ) [ yes e ↦ inl (rw e has_room) | no ne ↦ inr (omega (arith, else-far t below ne)) ];
          apart = λ t u up below R S. absurd (omega (arith, only_here t (omega arith) R, only_here u below S));
        }

    pub gather-done :
        {f : List ℕ} {k : ℕ} {places' first last : List ℕ} {r : Met} → MetAll f k (set places typ 0) first₀ last₀ places' first last r → Gathered f k typ first last (get_or places' typ 0)
    gather-done {places' = places'} {first = first} {last = last} M =
        record {
          few = omega (arith, M.ends typ (omega (arith, here)));
          told = λ g R n.
              let G = (M.told g R).lists gather-plan in
              let O = G.own typ lt has_room in
              let r-is : get_or places' typ 0 ≡ O.used = omega (arith, O.place, here) in
              ap (λ (m : ℕ). in_ranges (take m first) (take m last) n) r-is
              ∙ lies-lent first last O.used 0 n (omega (arith, O.short, G.first-long)) (omega (arith, O.short, G.last-long))
              ∙ ap (λ (i : ℕ). lies_in first last i O.used n) (sym here)
              ∙ O.lies n;
        }

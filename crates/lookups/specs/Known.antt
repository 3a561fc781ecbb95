-- What is known of a state by the numbers gathered from its table. Assumes nothing.
use Rattle.std.specs.Prelude.{◌≡◌, refl, Bool, true, false, ◌&&◌, not, List, [], ◌∷◌, ℕ, ◌-◌, ◌≤◌, ◌<◌, eqb, length}
use Rattle.std.proofs.Common.{sym, ◌∙◌, arith, eq-eqb}
use Rattle.paper.specs.Lists.{any, all}
use Rattle.paper.specs.Ledger.{object?, holds?}
use Rattle.paper.specs.Rules.{annotation?}
use Rattle.table.specs.View.{log_of, view, Holds, strings_in}
use Rattle.values.specs.Annotations.{placed?}
use Rattle.values.specs.Items.{in_ranges, Known}
use Rattle.values.specs.Spans.{ranges}
use Rattle.values.specs.MapChunks.{AllKnown}
use Rattle.lookups.specs.Gather.{between, GatheredTo}
use Rattle.lookups.specs.Group.{asked?, asked-first, asked-later, AllGrouped}
use Rattle.lookups.specs.Named.{unnamed?}
use Rattle.lookups.specs.Objects.{firsts, lasts, objects-lie}

annotated : (k : ℕ) (ks : List ℕ) → k ≡ 5 → unnamed? (k ∷ ks) ≡ false
unfolding unnamed? all
annotated k ks is = rw (eq-eqb k 5 is)

annotated-later : (k : ℕ) (ks : List ℕ) → unnamed? ks ≡ false → unnamed? (k ∷ ks) ≡ false
unfolding unnamed? all
annotated-later k ks some = go (not (eqb k 5)) some
  where
    go : (b : Bool) → all (λ k. not (eqb k 5)) ks ≡ false → (b && all (λ k. not (eqb k 5)) ks) ≡ false
    go true some = some
    go false some = refl

module _ {f l : List ℕ} (H : Holds f l) {strings : ℕ} (count : strings ≡ strings_in l) where
  strings-known : length (view f l).strings ≡ strings
  strings-known = H.strs-count ∙ sym count

  -- no element refers to an object
  pub plain_known : {k : ℕ} {pools first last : List ℕ} → k < 32 → (k ≡ 5 → ⊥) → Known (view f l) k strings pools first last
  plain_known low single =
      record { strings-are = strings-known; pools-are = λ is. absurd (single is); objects-are = λ high. absurd (omega arith) }

  -- the elements refer to objects of the type that k names
  pub linked-known : {k to j : ℕ} {pools first₀ last₀ first last : List ℕ} → 32 ≤ k → GatheredTo (k - 32) (log_of l) to first₀ last₀ first last j → Known (view f l) k strings pools (between j to first) (between j to last)
  unfolding object?
  linked-known high G =
      record { strings-are = strings-known; pools-are = λ is. absurd (omega arith); objects-are = λ h. G.objects-are }

  -- the same, where nothing was gathered
  pub lying-known : {k : ℕ} {pools : List ℕ} → 32 ≤ k → Known (view f l) k strings pools (firsts (k - 32) (log_of l)) (lasts (k - 32) (log_of l))
  unfolding object?
  lying-known {k} high =
      record { strings-are = strings-known; pools-are = λ is. absurd (omega arith); objects-are = λ h. objects-lie (k - 32) (log_of l) }

  -- the elements are annotations
  pub noted-known :
      {k : ℕ} {pools first last : List ℕ} → k ≡ 5 → ((m n : ℕ) → placed? pools m n ≡ annotation? (view f l) m n) → Known (view f l) k strings pools first last
  noted-known is say = record { strings-are = strings-known; pools-are = λ e. say; objects-are = λ h. absurd (omega arith) }

  -- the elements of a map are any of these
  kind-known :
      {pools first last : List ℕ} (k : ℕ) → (32 ≤ k → (n : ℕ) → in_ranges first last n ≡ any (holds? (k - 32) n) (log_of l))
      → (k ≡ 5 → (m n : ℕ) → placed? pools m n ≡ annotation? (view f l) m n) → Known (view f l) k strings pools first last
  unfolding object?
  kind-known k are say = record { strings-are = strings-known; pools-are = say; objects-are = are }

  pub map-known :
      {starts first last : List ℕ} (pools ks : List ℕ) → AllGrouped ks l starts first last
      → (unnamed? ks ≡ false → (m n : ℕ) → placed? pools m n ≡ annotation? (view f l) m n) → AllKnown (view f l) strings pools starts first last ks
  map-known {starts} {first} {last} pools ks A say = go ks A.objects-are say
    where
      go :
          (ks : List ℕ) → ((k : ℕ) → asked? ks k ≡ true → 32 ≤ k → (n : ℕ) → in_ranges (ranges starts k first) (ranges starts k last) n ≡ any (holds? (k - 32) n) (log_of l))
          → (unnamed? ks ≡ false → (m n : ℕ) → placed? pools m n ≡ annotation? (view f l) m n) → AllKnown (view f l) strings pools starts first last ks
      go [] are say = tt
      go (k ∷ ks) are say = (kind-known k (are k (asked-first k ks)) (λ is. say (annotated k ks is)), go ks (λ j asks. are j (asked-later k j ks asks)) (λ some. say (annotated-later k ks some)))

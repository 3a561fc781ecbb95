-- One after the other up to the end of the file, for files and listings alike. Assumes nothing.
use Rattle.std.specs.Prelude.{◌≡◌, Bool, true, false, ◌⊎◌, leb, take, drop}
use Rattle.std.proofs.Math.Path.{refl, sym, ap}
use Rattle.std.proofs.Common.{◌∙◌, subst, inl, inr, take_all}
use mathlib.Core.List.{List, [], ◌∷◌, ◌++◌, append-nil}
use Prim.Native.Nat.{ℕ, zero, suc, ◌+◌, ◌-◌, ◌≤◌, ◌<◌}
use native.Mathlib.Omega.{arith}
use Rattle.std.proofs.Math.Nat.{sub-zero}
use Rattle.std.proofs.Math.ListN.{length, length-append, length-drop}
use Rattle.paper.specs.Reader.{when◌then◌else◌, Reader, got, ◌>>=◌, give, refuse, unless_end, to_end}
use Rattle.paper.specs.Keeps.{in_turn}
use Rattle.laws.specs.Laws.{not-got, bind_inv}
use Rattle.laws.specs.Longer.{unless_end-inv, AtEnd, Before, unless_end-before, unless_end-end}
use Rattle.laws.specs.Says.{Bytes, Says, Said, give-says, bind-says}
use Rattle.laws.specs.Takes.{Takes, takes-as, written, after-length, after-drop, bytes-append}
use Rattle.laws.specs.Bools.{and_split, and-join}
use Rattle.laws.specs.Kept.{Kept}

-- a reader that always refuses
abbrev pub Never : {A : Type 0} → Reader A → Type 0
Never {A} r = (f : List ℕ) (at : ℕ) (v : A) (e : ℕ) → r f at ≡ got v e → ⊥

pub refuse-never : {A : Type 0} (n : ℕ) → Never {A = A} (refuse n)
unfolding refuse
refuse-never n f at v e q = not-got q

never-says : {A : Type 0} {r : Reader A} (P : A → List ℕ → Type 0) → Never r → Says r P
never-says P N = record { at = λ f at v e b h q. absurd (N f at v e q) }

pub unless_end-says : {A : Type 0} (a : A) {r : Reader A} (P : A → List ℕ → Type 0) → P a [] → Says r P → Says (unless_end a r) P
unfolding unless_end when◌then◌else◌ give
unless_end-says {A} a {r} P p R = record { at = λ f at v e b h q. go f at v e b h (leb (length f) at) q }
  where
    go :
        (f : List ℕ) (at : ℕ) (v : A) (e : ℕ) → Bytes f → at ≤ length f → (t : Bool) → (when t then got a at else r f at) ≡ got v e → Said P f at v e
    go f at v e b h true q = (give-says a P p).at f at v e b h q
    go f at v e b h false q = R.at f at v e b h q

give-end : {A : Type 0} (a v : A) (f : List ℕ) (at e : ℕ) → give a f at ≡ got v e → e ≡ at
unfolding give
give-end a v f at e q = cc q

-- one after the other, each in the state before it: W says which bytes each stands in
abbrev pub Chain : {S A : Type 0} → (S → A → List ℕ → Type 0) → (S → A → S) → S → List A → List ℕ → Type 0
Chain W after s [] cs = cs ≡ []
Chain W after s (a ∷ l) cs = (c : List ℕ) × (d : List ℕ) × (cs ≡ c ++ d) × W s a c × Chain W after (after s a) l d

module _ {S A : Type 0} (stop : Reader (List A)) (never : Never stop) (read : S → Reader A) (after : S → A → S) (W : S → A → List ℕ → Type 0) (ok : S → A → Bool) where
  module _ (K : (s : S) → Says (read s) (λ a cs. W s a cs × (ok s a ≡ true))) where
    end-says : (n : ℕ) (s : S) → Says (to_end n stop read after s) (λ l cs. Chain W after s l cs × (in_turn ok after s l ≡ true) × (length l ≤ n))
    unfolding to_end in_turn
    end-says zero s = unless_end-says [] _ (refl, refl, omega arith) (never-says _ never)
    end-says (suc n) s =
        unless_end-says [] _ (refl, refl, omega arith)
        (bind-says _ (K s) λ a cs q. bind-says _ (end-says n (after s a)) λ l ds r. give-says (a ∷ l) _
        ((cs, ds, ap (λ (z : List ℕ). cs ++ z) (append-nil ds), q.0, r.0), and-join q.1 r.1, omega (arith, r.2)))

    end-there : (n : ℕ) (s : S) (f : List ℕ) (at : ℕ) (l : List A) (e : ℕ) → Bytes f → at ≤ length f → to_end n stop read after s f at ≡ got l e → e ≡ length f
    unfolding to_end
    end-there zero s f at l e b h q = go (unless_end-inv [] stop f at l e q)
      where
        go : AtEnd [] f at l e ⊎ Before stop f at l e → e ≡ length f
        go (inl a) = omega arith
        go (inr b) = absurd (never f at l e b.reads)
    end-there (suc n) s f at l e b h q = go (λ s at l e. end-there n s f at l e b) (unless_end-inv [] _ f at l e q)
      where
        follow : A → Reader (List A)
        follow a = to_end n stop read after (after s a) >>= λ l. give (a ∷ l)

        go :
            ((s : S) (at : ℕ) (l : List A) (e : ℕ) → at ≤ length f → to_end n stop read after s f at ≡ got l e → e ≡ length f)
            → AtEnd [] f at l e ⊎ Before (read s >>= follow) f at l e → e ≡ length f
        go ih (inl a) = omega arith
        go ih (inr r) =
            let P = bind_inv (read s) follow f at l e r.reads in
            let S₁ = (K s).at f at P.value P.next b h P.first in
            let F = bind_inv (to_end n stop read after (after s P.value)) (λ l. give (P.value ∷ l)) f P.next l e P.rest in
            give-end _ _ _ _ _ F.rest ∙ ih (after s P.value) P.next F.value F.next S₁.inside F.first

    -- a file that is read to its end stands in bytes as what was read does, and that keeps the rules
    pub chain-kept :
        (n : ℕ) (s : S) (f : List ℕ) (l : List A) (e : ℕ) → Bytes f → to_end n stop read after s f 0 ≡ got l e
        → Chain W after s l f × (in_turn ok after s l ≡ true) × (length l ≤ n) × (e ≡ length f)
    chain-kept n s f l e b q =
        let T = (end-says n s).at f 0 l e b (omega arith) q in
        let z = end-there n s f 0 l e b (omega arith) q in
        let all : take (e - 0) f ≡ f = rw (z, sub-zero) (take_all (length f) f (omega arith)) in
        (subst (λ (x : List ℕ). Chain W after s l x) all T.said.0, T.said.1, T.said.2, z)

  -- each takes at most `most` bytes, and some
  module _
      (most : ℕ) (T : (s : S) (a : A) (c : List ℕ) → W s a c → length c ≤ most → ok s a ≡ true → Takes (read s) c a) (some : (s : S) (a : A) (c : List ℕ) → W s a c → 0 < length c) where
    both :
        (n : ℕ) (s : S) (x : A) (l : List A) (f : List ℕ) (at : ℕ) {m e : ℕ} → read s f at ≡ got x m → to_end n stop read after (after s x) f m ≡ got l e
        → (read s >>= λ a. to_end n stop read after (after s a) >>= λ l. give (a ∷ l)) f at ≡ got (x ∷ l) e
    unfolding ◌>>=◌ give
    both n s x l f at u v = rw (u, v)

    end-taken :
        (n : ℕ) (s : S) (l : List A) (bs f : List ℕ) (at : ℕ) → Chain W after s l bs → length l ≤ n → in_turn ok after s l ≡ true → length bs ≤ most → at ≤ length f
        → drop at f ≡ bs → to_end n stop read after s f at ≡ got l (length f)
    unfolding to_end in_turn
    end-taken n s [] bs f at w le h short p q = nothing_left n
      where
        there : at ≡ length f
        there = let z = ap length (q ∙ w) in omega (arith, length-drop at f)

        nothing_left : (n : ℕ) → to_end n stop read after s f at ≡ got [] (length f)
        nothing_left zero = unless_end-end [] _ f at there
        nothing_left (suc n) = unless_end-end [] _ f at there
    end-taken zero s (x ∷ l) bs f at w le h short p q = absurd (omega arith)
    end-taken (suc n) s (x ∷ l) bs f at (c, d, e, w, v) le h short p q =
        let (a, b) = and_split (ok s x) _ h in
        let q' : drop at f ≡ c ++ d = q ∙ e in
        let len : length bs ≡ length c + length d = ap length e ∙ length-append c d in
        let here : read s f at ≡ got x (at + length c) = (T s x c w (omega arith) a).at f at d p q' in
        let next = after-length f at c d p q' in
        let before : at < length f = omega (arith, some s x c w) in
        let ih = end-taken n (after s x) l d f (at + length c) v (omega arith) b (omega arith) next (after-drop f at c d q') in
        unless_end-before [] _ f at before ∙ both n s x l f at here ih

    -- bytes in which what keeps the rules stands are read
    pub chain-taken :
        (n : ℕ) (s : S) (l : List A) (f : List ℕ) → Chain W after s l f → length l ≤ n → in_turn ok after s l ≡ true → length f ≤ most
        → to_end n stop read after s f 0 ≡ got l (length f)
    chain-taken n s l f w le h short = end-taken n s l f f 0 w le h short (omega arith) refl

    pub chain-bytes : (l : List A) (s : S) (f : List ℕ) → Chain W after s l f → in_turn ok after s l ≡ true → length f ≤ most → Bytes f
    unfolding in_turn
    chain-bytes [] s f w h short = rw w tt
    chain-bytes (x ∷ l) s f (c, d, e, w, v) h short =
        let (a, b) = and_split (ok s x) _ h in
        let n : length f ≡ length c + length d = ap length e ∙ length-append c d in
        rw e (bytes-append c d (T s x c w (omega arith) a).bytes (chain-bytes l (after s x) d v b (omega arith)))

-- ── where each is written in one way ──

module _ {S A : Type 0} (stop : Reader (List A)) (never : Never stop) (read : S → Reader A) (after : S → A → S) (w : S → A → List ℕ) (ok : S → A → Bool) where
  chain-is : (s : S) (l : List A) (cs : List ℕ) → Chain (λ s a c. w s a ≡ c) after s l cs → written w after s l ≡ cs
  unfolding written
  chain-is s [] cs h = sym h
  chain-is s (a ∷ l) cs (c, d, e, p, q) = rw (p, chain-is (after s a) l d q) (sym e)

  is-chain : (s : S) (l : List A) → Chain (λ s a c. w s a ≡ c) after s l (written w after s l)
  unfolding written
  is-chain s [] = refl
  is-chain s (a ∷ l) = (w s a, written w after (after s a) l, refl, refl, is-chain (after s a) l)

  -- a file that is read to its end is what is written of what was read, and that keeps the rules
  pub whole-kept :
      ((s : S) → Kept (read s) (w s) (ok s)) → (n : ℕ) (s : S) (f : List ℕ) (l : List A) (e : ℕ) → Bytes f → to_end n stop read after s f 0 ≡ got l e
      → (written w after s l ≡ f) × (in_turn ok after s l ≡ true) × (length l ≤ n) × (e ≡ length f)
  whole-kept K n s f l e b q =
      let k = chain-kept stop never read after (λ s a c. w s a ≡ c) ok K n s f l e b q in
      (chain-is s l f k.0, k.1, k.2, k.3)

  module _ (most : ℕ) (T : (s : S) (a : A) → length (w s a) ≤ most → ok s a ≡ true → Takes (read s) (w s a) a) (some : (s : S) (a : A) → 0 < length (w s a)) where
    taken_as : (s : S) (a : A) (c : List ℕ) → w s a ≡ c → length c ≤ most → ok s a ≡ true → Takes (read s) c a
    taken_as s a c e n h = takes-as e (T s a (rw e n) h)

    -- what is written of what keeps the rules is read
    pub whole-taken :
        (n : ℕ) (s : S) (l : List A) → length l ≤ n → in_turn ok after s l ≡ true → length (written w after s l) ≤ most
        → to_end n stop read after s (written w after s l) 0 ≡ got l (length (written w after s l))
    whole-taken n s l le h short =
        chain-taken stop never read after (λ s a c. w s a ≡ c) ok most taken_as (λ s a c e. rw (← e) (some s a)) n s l (written w after s l) (is-chain s l) le h short

    pub whole-bytes : (l : List A) (s : S) → in_turn ok after s l ≡ true → length (written w after s l) ≤ most → Bytes (written w after s l)
    whole-bytes l s h short =
        chain-bytes stop never read after (λ s a c. w s a ≡ c) ok most taken_as (λ s a c e. rw (← e) (some s a)) l s (written w after s l) (is-chain s l) h short

-- A file that begins with another: the other's pairs come first. A file cut off: its first pairs, or refusal 1. Assumes nothing.
use Rattle.std.specs.Prelude.{◌≡◌, refl, Bool, true, false, ◌⊎◌, List, [], ◌∷◌, ◌++◌, ℕ, zero, suc, ◌≤◌, ◌<◌, leb, length, take}
use Rattle.std.proofs.Common.{sym, ◌∙◌, ap, inl, inr, arith, length-append, length-take, get_or-take, leb-true, leb-false, le-leb}
use Rattle.std.proofs.Math.Decide.{dec_le}
use Rattle.std.proofs.Math.ListN.{get_or-append}
use Rattle.std.proofs.lemmas.Bool.{lt-leb}
use Rattle.paper.specs.Reader.{when◌then◌else◌, Reader, Out, got, no, ◌>>=◌, give, refuse, unless_end, to_end}
use Rattle.paper.specs.Ledger.{State, Pair, Ledger, nothing}
use Rattle.paper.specs.Rules.{after_pair}
use Rattle.paper.specs.Bounds.{most_bytes}
use Rattle.paper.specs.File.{pair, pairs, file}
use Rattle.laws.specs.Laws.{Agree, why, not-got, Bound, bind_inv, bind-got, bind-why}
use Rattle.laws.specs.Faithful.{pair-faithful}

-- at the end of the file, or before it
pub record Before {A : Type 0} (r : Reader A) (f : List ℕ) (at : ℕ) (v : A) (e : ℕ) : Type 0 where
  pub before : at < length f
  pub reads : r f at ≡ got v e

pub record AtEnd {A : Type 0} (a : A) (f : List ℕ) (at : ℕ) (v : A) (e : ℕ) : Type 0 where
  pub after : length f ≤ at
  pub same : v ≡ a
  pub there : e ≡ at

pub unless_end-inv :
    {A : Type 0} (a : A) (r : Reader A) (f : List ℕ) (at : ℕ) (v : A) (e : ℕ) → unless_end a r f at ≡ got v e → AtEnd a f at v e ⊎ Before r f at v e
unfolding unless_end when◌then◌else◌
unless_end-inv a r f at v e h = go (leb (length f) at) refl h
  where
    go : (b : Bool) → leb (length f) at ≡ b → (when b then got a at else r f at) ≡ got v e → AtEnd a f at v e ⊎ Before r f at v e
    go true t q = inl (record { after = leb-true _ _ t; same = cc q; there = cc q })
    go false t q = inr (record { before = leb-false _ _ t; reads = q })

pub unless_end-before : {A : Type 0} (a : A) (r : Reader A) (f : List ℕ) (at : ℕ) → at < length f → unless_end a r f at ≡ r f at
unfolding unless_end when◌then◌else◌
unless_end-before a r f at h = rw (lt-leb (length f) at h)

-- l begins l'
pub record Begins {A : Type 0} (l l' : List A) : Type 0 where
  pub rest : List A
  pub is : l' ≡ l ++ rest

-- what follows a pair
follow : ℕ → State → Pair → Reader Ledger
follow n s p = pairs n (after_pair s p) >>= λ ps. give (p ∷ ps)

Longer : ℕ → Type 0
Longer n =
    (s : State) (f g : List ℕ) (at : ℕ) (l l' : Ledger) (e e' : ℕ) → at ≤ length f → length f ≤ length g → Agree f g at (length f)
    → pairs n s f at ≡ got l e → pairs n s g at ≡ got l' e' → Begins l l'

empty-begins : {A : Type 0} {l : List A} (l' : List A) → l ≡ [] → Begins l l'
empty-begins l' h = record { rest = l'; is = rw h }

longer-step : (n : ℕ) → Longer n → Longer (suc n)
unfolding Longer pairs to_end follow give
longer-step n ih s f g at l l' e e' h le ag p q = go (unless_end-inv [] (pair s >>= follow n s) f at l e p)
  where
    tail_of : (a : Pair) (ps ps' : Ledger) → l ≡ a ∷ ps → l' ≡ a ∷ ps' → Begins ps ps' → Begins l l'
    tail_of a ps ps' x y b = record { rest = b.rest; is = y ∙ ap (λ (z : Ledger). a ∷ z) b.is ∙ ap (λ (z : Ledger). z ++ b.rest) (sym x) }

    go : AtEnd [] f at l e ⊎ Before (pair s >>= follow n s) f at l e → Begins l l'
    go (inl a) = empty-begins l' a.same
    go (inr b) =
        let P = bind_inv (pair s) (follow n s) f at l e b.reads in
        let S = (pair-faithful s).at f at P.value P.next h P.first in
        let ins = S.inside in
        let fw = S.forward in
        let here = S.local g (omega arith) (λ i lo hi. ag i lo (omega arith)) (omega arith) in
        let q' : follow n s P.value g P.next ≡ got l' e' =
        sym (bind-got (pair s) (follow n s) g at here) ∙ sym (unless_end-before [] (pair s >>= follow n s) g at (omega (arith, b.before))) ∙ q in
        let F = bind_inv (pairs n (after_pair s P.value)) (λ ps. give (P.value ∷ ps)) f P.next l e P.rest in
        let G = bind_inv (pairs n (after_pair s P.value)) (λ ps. give (P.value ∷ ps)) g P.next l' e' q' in
        tail_of P.value F.value G.value (cc F.rest) (cc G.rest)
        (ih (after_pair s P.value) f g P.next F.value G.value F.next G.next ins le (λ i lo hi. ag i (omega arith) hi) F.first G.first)

longer-none : Longer 0
unfolding Longer pairs to_end refuse
longer-none s f g at l l' e e' h le ag p q = go (unless_end-inv [] (refuse 3) f at l e p)
  where
    go : AtEnd [] f at l e ⊎ Before (refuse 3) f at l e → Begins l l'
    go (inl a) = empty-begins l' a.same
    go (inr b) = not-got b.reads

longer : (n : ℕ) → Longer n
longer zero = longer-none
longer (suc n) = longer-step n (longer n)

-- a file of at most 1,048,576 bytes is read as pairs
pub file-inv : (f : List ℕ) (l : Ledger) (e : ℕ) → file f ≡ got l e → pairs 32 nothing f 0 ≡ got l e
unfolding file when◌then◌else◌
file-inv f l e h = go (leb (length f) most_bytes) h
  where
    go : (b : Bool) → (when b then pairs 32 nothing f 0 else no 3 0) ≡ got l e → pairs 32 nothing f 0 ≡ got l e
    go true q = q
    go false q = not-got q

agree-append : (f g : List ℕ) → Agree f (f ++ g) 0 (length f)
agree-append f g i lo hi hi' = sym (get_or-append f g 0 i hi)

-- the pairs of an accepted file come first in every accepted file that begins with it
pub file-longer : (f g : List ℕ) (l l' : Ledger) (e e' : ℕ) → file f ≡ got l e → file (f ++ g) ≡ got l' e' → Begins l l'
unfolding Longer
file-longer f g l l' e e' p q =
    longer 32 nothing f (f ++ g) 0 l l' e e' (omega arith) (omega (arith, length-append f g)) (agree-append f g) (file-inv f l e p)
    (file-inv (f ++ g) l' e' q)

-- ── a file cut off ──

-- the first of the pairs, or refusal 1
abbrev pub FirstOrShort : Out Ledger → Ledger → ℕ → Type 0
FirstOrShort o l c = ((k : Ledger) × (o ≡ got k c) × Begins k l) ⊎ (why o ≡ 1)

Shorter : ℕ → Type 0
Shorter n =
    (s : State) (f g : List ℕ) (at : ℕ) (l : Ledger) (e : ℕ) → at ≤ length g → length g ≤ length f → Agree f g at (length f)
    → pairs n s f at ≡ got l e → FirstOrShort (pairs n s g at) l (length g)

pub unless_end-end : {A : Type 0} (a : A) (r : Reader A) (f : List ℕ) (at : ℕ) → at ≡ length f → unless_end a r f at ≡ got a (length f)
unfolding unless_end when◌then◌else◌
unless_end-end a r f at h = rw (le-leb (length f) at (omega arith)) (ap (got a) h)

-- the first pairs behind one more pair
cons-first :
    (n : ℕ) (s : State) (p : Pair) (g : List ℕ) (m : ℕ) (l ps : Ledger) → l ≡ p ∷ ps → FirstOrShort (pairs n (after_pair s p) g m) ps (length g)
    → FirstOrShort (follow n s p g m) l (length g)
unfolding follow give
cons-first n s p g m l ps x (inl (k, q, b)) =
    inl
    (p ∷ k, bind-got (pairs n (after_pair s p)) (λ ps'. give (p ∷ ps')) g m q, record { rest = b.rest; is = x ∙ ap (λ (z : Ledger). p ∷ z) b.is })
cons-first n s p g m l ps x (inr w) = inr (bind-why (pairs n (after_pair s p)) (λ ps'. give (p ∷ ps')) g m w)

shorter-step : (n : ℕ) → Shorter n → Shorter (suc n)
unfolding Shorter pairs to_end follow give
shorter-step n ih s f g at l e h le ag p = cases (dec_le (length g) at)
  where
    pair_of :
        (lt : at < length g) (P : Bound (pair s) (follow n s) f at l e) → Dec (P.next ≤ length g)
        → FirstOrShort ((pair s >>= follow n s) g at) l (length g)
    pair_of lt P (Dec.yes y) =
        let S = (pair-faithful s).at f at P.value P.next (omega arith) P.first in
        let ins = S.inside in
        let fw = S.forward in
        let here = S.local g h (λ i lo hi. ag i lo (omega arith)) y in
        let F = bind_inv (pairs n (after_pair s P.value)) (λ ps. give (P.value ∷ ps)) f P.next l e P.rest in
        rw (bind-got (pair s) (follow n s) g at here)
        (cons-first n s P.value g P.next l F.value (cc F.rest)
        (ih (after_pair s P.value) f g P.next F.value F.next y le (λ i lo hi. ag i (omega arith) hi) F.first))
    pair_of lt P (Dec.no y) =
        let S = (pair-faithful s).at f at P.value P.next (omega arith) P.first in
        let ins = S.inside in
        inr (bind-why (pair s) (follow n s) g at (S.short g h (λ i lo hi. ag i lo (omega arith)) (omega arith)))

    before : at < length g → AtEnd [] f at l e ⊎ Before (pair s >>= follow n s) f at l e → FirstOrShort (pairs (suc n) s g at) l (length g)
    before lt (inl a) = absurd (omega (arith, a.after))
    before lt (inr b) =
        let P = bind_inv (pair s) (follow n s) f at l e b.reads in
        rw (unless_end-before [] (pair s >>= follow n s) g at lt) (pair_of lt P (dec_le P.next (length g)))

    cases : Dec (length g ≤ at) → FirstOrShort (pairs (suc n) s g at) l (length g)
    cases (Dec.yes y) = inl ([], unless_end-end [] (pair s >>= follow n s) g at (omega arith), record { rest = l; is = refl })
    cases (Dec.no y) = before (omega arith) (unless_end-inv [] (pair s >>= follow n s) f at l e p)

shorter-none : Shorter 0
unfolding Shorter pairs to_end refuse
shorter-none s f g at l e h le ag p = go (unless_end-inv [] (refuse 3) f at l e p)
  where
    go : AtEnd [] f at l e ⊎ Before (refuse 3) f at l e → FirstOrShort (pairs 0 s g at) l (length g)
    go (inl a) = inl ([], unless_end-end [] (refuse 3) g at (omega (arith, a.after)), record { rest = l; is = refl })
    go (inr b) = not-got b.reads

shorter : (n : ℕ) → Shorter n
shorter zero = shorter-none
shorter (suc n) = shorter-step n (shorter n)

pub file-length : (f : List ℕ) (l : Ledger) (e : ℕ) → file f ≡ got l e → length f ≤ most_bytes
unfolding file when◌then◌else◌
file-length f l e h = go (leb (length f) most_bytes) refl h
  where
    go : (b : Bool) → leb (length f) most_bytes ≡ b → (when b then pairs 32 nothing f 0 else no 3 0) ≡ got l e → length f ≤ most_bytes
    go true t q = leb-true _ _ t
    go false t q = not-got q

file-pairs : (f : List ℕ) → length f ≤ most_bytes → file f ≡ pairs 32 nothing f 0
unfolding file when◌then◌else◌
file-pairs f h = rw (le-leb (length f) most_bytes h)

-- an accepted file, cut off anywhere, is accepted with its first pairs, or refused by 1
pub file-cut : (f : List ℕ) (l : Ledger) (e c : ℕ) → c ≤ length f → file f ≡ got l e → FirstOrShort (file (take c f)) l c
unfolding Shorter
file-cut f l e c h p =
    let n : length (take c f) ≡ c = simp length-take (omega arith) in
    let big = file-length f l e p in
    let r = shorter 32 nothing f (take c f) 0 l e (omega arith) (omega arith) (λ i lo hi hi'. sym (get_or-take c f i 0 (omega arith))) (file-inv f l e p) in
    rw (file-pairs (take c f) (omega arith)) (rw n at r)

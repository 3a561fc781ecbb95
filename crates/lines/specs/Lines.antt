-- Lines as code lays them, a word with the byte that ends it at a time. Assumes nothing.
use Rattle.std.specs.Prelude.{◌≡◌, List, [], ◌∷◌, ◌++◌, ℕ, suc, replicate}
use Rattle.std.proofs.Common.{append_assoc}
use Rattle.lay.specs.Laid.{Laid, laid_then, laid_as}
use Rattle.paper.specs.Lists.{flat}
use Rattle.paper.specs.Listing.{tab, newline, comma, line, joined, old_line}

-- ── words one behind the other ──

line-cons : (w v : List ℕ) (ws : List (List ℕ)) → (w ++ tab ∷ []) ++ line (v ∷ ws) ≡ line (w ∷ v ∷ ws)
unfolding line
line-cons w v ws = append_assoc w (tab ∷ []) (line (v ∷ ws))

joined-cons : (w v : List ℕ) (ws : List (List ℕ)) → (w ++ comma ∷ []) ++ joined (v ∷ ws) ≡ joined (w ∷ v ∷ ws)
unfolding joined
joined-cons w v ws = append_assoc w (comma ∷ []) (joined (v ∷ ws))

module _ {l m n : List ℕ} {at p r : ℕ} (w v : List ℕ) (ws : List (List ℕ)) where
  -- a word and a tab, and then the rest of the line
  pub line_on : Laid l at (w ++ tab ∷ []) m p → Laid m p (line (v ∷ ws)) n r → Laid l at (line (w ∷ v ∷ ws)) n r
  line_on a b = laid_as (laid_then a b) (line-cons w v ws)

  -- a word and a comma, and then the rest of the kind
  pub joined-on : Laid l at (w ++ comma ∷ []) m p → Laid m p (joined (v ∷ ws)) n r → Laid l at (joined (w ∷ v ∷ ws)) n r
  joined-on a b = laid_as (laid_then a b) (joined-cons w v ws)

-- the last two words with the newline
pub line-two : {l m : List ℕ} {at r : ℕ} (w v : List ℕ) → Laid l at (w ++ tab ∷ (v ++ newline ∷ [])) m r → Laid l at (line (w ∷ v ∷ [])) m r
unfolding line
line-two w v a = a

module _ {l m : List ℕ} {at r : ℕ} (w : List ℕ) where
  -- the last word and the newline
  pub line-end : Laid l at (w ++ newline ∷ []) m r → Laid l at (line (w ∷ [])) m r
  unfolding line
  line-end a = a

  -- the last word of a kind
  pub joined_end : Laid l at w m r → Laid l at (joined (w ∷ [])) m r
  unfolding joined
  joined_end a = a

-- ── the lines of known fields ──

-- k of them
abbrev pub olds : ℕ → List ℕ
olds k = flat (λ (u : Unit {0}). old_line) (replicate k tt)

pub olds-more : {k less : ℕ} → k ≡ suc less → olds k ≡ old_line ++ olds less
unfolding flat
olds-more due = rw due

pub olds-none : {k : ℕ} → k ≡ 0 → olds k ≡ []
unfolding flat
olds-none none = rw none

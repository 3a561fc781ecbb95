-- "Kinds", 20: a map of several types is counted keys, each followed by what it leads to, a map of the other types; of one
-- type it is an element. A map value is a list of elements, in which a size stands before its keys. Assumes nothing.
use Rattle.std.specs.Prelude.{Bool, true, false, ◌&&◌, List, [], ◌∷◌, ◌++◌, ℕ, zero, suc}
use Rattle.paper.specs.Reader.{Reader, ◌>>=◌, give, repeat}
use Rattle.paper.specs.Lists.{flat}
use Rattle.paper.specs.Ledger.{Element, flag, whole, float, link, annotation, keys}

-- ── read, from a file or from a line of its listing ──

-- a key, and what it leads to
unfoldable pub key_and_rest : {A : Type 0} → Reader A → Reader (List A) → Reader (List A)
key_and_rest key rest = do
  a ← key
  l ← rest
  give (a ∷ l)

-- a map, by the readers of a size and of an element of each type; `sized` is a size as an element, and of no types there is
-- no map: `stop`
unfoldable pub map_of : {A : Type 0} → Reader (List A) → Reader ℕ → (ℕ → A) → List (Reader A) → Reader (List A)
map_of stop size sized [] = stop
map_of stop size sized (r ∷ []) = repeat 1 r
map_of stop size sized (r ∷ q ∷ rs) = do
  n ← size
  l ← repeat n (key_and_rest r (map_of stop size sized (q ∷ rs)))
  give (sized n ∷ flat (λ v. v) l)

-- ── the list of elements taken apart: maps are due, each by its kinds ──

unfoldable pub size_of : Element → ℕ
size_of (flag b) = 0
size_of (whole v) = 0
size_of (float w n) = 0
size_of (link n) = 0
size_of (annotation name n) = 0
size_of (keys n) = n

unfoldable pub size? : Element → Bool
size? (flag b) = false
size? (whole v) = false
size? (float w n) = false
size? (link n) = false
size? (annotation name n) = false
size? (keys n) = true

-- n keys of kind k, each with what it leads to
unfoldable pub keys_due : ℕ → List ℕ → ℕ → List (List ℕ)
keys_due k ks zero = []
keys_due k ks (suc n) = (k ∷ []) ∷ ks ∷ keys_due k ks n

-- what is due inside a map that begins with this element
unfoldable pub opened : List ℕ → Element → List (List ℕ)
opened [] e = []
opened (k ∷ []) e = []
opened (k ∷ l ∷ ks) e = keys_due k (l ∷ ks) (size_of e)

-- the first element of a map: of a single type it is of that kind, and else a size
unfoldable pub at_first : {B : Type 0} → B → (ℕ → Element → B) → (Element → B) → List ℕ → Element → B
at_first none one size [] e = none
at_first none one size (k ∷ []) e = one k e
at_first none one size (k ∷ l ∷ ks) e = size e

-- what is written of the maps that are due, one after the other
unfoldable pub through_maps : {B : Type 0} → (ℕ → Element → List B) → (Element → List B) → List Element → List (List ℕ) → List B
through_maps one size [] due = []
through_maps one size (e ∷ es) [] = []
through_maps one size (e ∷ es) (ks ∷ due) = at_first [] one size ks e ++ through_maps one size es (opened ks e ++ due)

-- the elements are those of the maps that are due, and no more
unfoldable pub all_through : (ℕ → Element → Bool) → (Element → Bool) → List Element → List (List ℕ) → Bool
all_through one size [] [] = true
all_through one size [] (ks ∷ due) = false
all_through one size (e ∷ es) [] = false
all_through one size (e ∷ es) (ks ∷ due) = at_first false one size ks e && all_through one size es (opened ks e ++ due)

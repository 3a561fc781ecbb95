-- How all that the table says goes on while the entries of a block are read: the state, the chunks that are due with their
-- sizes, and the last end offset. Assumes nothing.
use Rattle.std.specs.Prelude.{◌≡◌, refl, List, [], ◌∷◌, ◌++◌, map, ℕ, suc, ◌-◌, length}
use Rattle.std.proofs.Common.{sym, ap, ◌∙◌, append_assoc, append-nil, arith, length-append}
use Rattle.paper.specs.Lists.{fold, last_or}
use Rattle.paper.specs.Ledger.{New, Head, Entry, Due, State}
use Rattle.paper.specs.Rules.{after_head, after_new, after_entry, values_due, old_due, new_dues, entry_dues}
use Rattle.paper.specs.File.{what, ends, sized}
use Rattle.table.specs.View.{Said}

pub record Going : Type 0 where
  pub said : Said
  pub end : ℕ

-- ── steps ──

-- a known field i of an entry that adds so many objects, with its end offset
unfoldable pub go_old : ℕ → Going → ℕ → ℕ → Going
go_old added g i e =
    record {
      said = record { state = g.said.state; due = g.said.due ++ (old_due g.said.state added i, e - g.end) ∷ []; chunks = g.said.chunks };
      end = e;
    }

unfoldable pub go_olds : ℕ → Going → List ℕ → List ℕ → Going
go_olds added g [] es = g
go_olds added g (i ∷ is) [] = g
go_olds added g (i ∷ is) (e ∷ es) = go_olds added (go_old added g i e) is es

-- a new field of type t, which has n objects so far, with its end offset
unfoldable pub go_new : ℕ → ℕ → Going → New × ℕ → Going
go_new t n g x =
    record {
      said =
          record {
            state = after_new t g.said.state x.0;
            due = g.said.due ++ (record { field = length g.said.state.fields; values = values_due x.0.kind n }, x.1 - g.end) ∷ [];
            chunks = g.said.chunks;
          };
      end = x.1;
    }

-- an entry with the end offsets of its chunks
unfoldable pub go_entry : Going → Entry × List ℕ → Going
go_entry g e =
    record {
      said =
          record {
            state = after_entry g.said.state e.0;
            due = g.said.due ++ sized g.end (entry_dues g.said.state e.0) e.1;
            chunks = g.said.chunks;
          };
      end = last_or g.end e.1;
    }

-- the head alone
unfoldable pub go_head : Going → Head → Going
go_head g h = record { said = record { state = after_head g.said.state h; due = g.said.due; chunks = g.said.chunks }; end = g.end }

-- ── sizes ──

pub sized-append :
    (from : ℕ) (ds : List Due) (es : List ℕ) (ds' : List Due) (es' : List ℕ) → length ds ≡ length es
    → sized from (ds ++ ds') (es ++ es') ≡ sized from ds es ++ sized (last_or from es) ds' es'
unfolding sized last_or
sized-append from [] [] ds' es' h = refl
sized-append from [] (e ∷ es) ds' es' h = absurd (omega arith)
sized-append from (d ∷ ds) [] ds' es' h = absurd (omega arith)
sized-append from (d ∷ ds) (e ∷ es) ds' es' h = ap (λ (l : List (Due × ℕ)). (d, e - from) ∷ l) (sized-append e ds es ds' es' (omega arith))

pub last-append : (a : ℕ) (xs ys : List ℕ) → last_or a (xs ++ ys) ≡ last_or (last_or a xs) ys
unfolding last_or
last-append a [] ys = refl
last-append a (x ∷ xs) ys = last-append x xs ys

-- ── the olds of an entry ──

pub olds-are :
    (added : ℕ) (is es : List ℕ) (g : Going) → length is ≡ length es
    → go_olds added g is es ≡ record {
      said = record { state = g.said.state; due = g.said.due ++ sized g.end (map (old_due g.said.state added) is) es; chunks = g.said.chunks };
      end = last_or g.end es;
    }
unfolding go_olds go_old sized last_or
olds-are added [] [] g h =
    λ j. record { said = record { state = g.said.state; due = sym (append-nil g.said.due) j; chunks = g.said.chunks }; end = g.end }
olds-are added [] (e ∷ es) g h = absurd (omega arith)
olds-are added (i ∷ is) [] g h = absurd (omega arith)
olds-are added (i ∷ is) (e ∷ es) g h = olds-are added is es (go_old added g i e) (omega arith) ∙ rw append_assoc refl

-- ── the news ──

fields-more : (t : ℕ) (s : State) (x : New) → length (after_new t s x).fields ≡ suc (length s.fields)
unfolding after_new
fields-more t s x = length-append s.fields _ ∙ omega arith

pub news-are :
    (t n : ℕ) (xs : List (New × ℕ)) (g : Going)
    → fold (go_new t n) g xs ≡ record {
      said =
          record {
            state = fold (after_new t) g.said.state (map what xs);
            due = g.said.due ++ sized g.end (new_dues (length g.said.state.fields) n (map what xs)) (map ends xs);
            chunks = g.said.chunks;
          };
      end = last_or g.end (map ends xs);
    }
unfolding fold go_new sized last_or new_dues
news-are t n [] g =
    λ j. record { said = record { state = g.said.state; due = sym (append-nil g.said.due) j; chunks = g.said.chunks }; end = g.end }
news-are t n (x ∷ xs) g = news-are t n xs (go_new t n g x) ∙ rw (append_assoc, fields-more t g.said.state x.0) refl

-- The front of a pair as the strings and then the entries; each entry gives as many ends as chunks are due. Assumes nothing.
use Rattle.std.specs.Prelude.{◌≡◌, refl, Bool, List, [], ◌∷◌, ◌++◌, map, ℕ, suc, ◌+◌, ◌-◌, length, replicate}
use Rattle.std.proofs.Common.{sym, ap, ◌∙◌, subst, append_assoc, append-nil, length-append}
use Rattle.std.proofs.lemmas.List.{length-map}
use Rattle.paper.specs.Reader.{Out, got, no, and_then, turned, ◌>>=◌, give, each, times}
use Rattle.paper.specs.Lists.{fold, flat, last_or}
use Rattle.paper.specs.Numbers.{number}
use Rattle.paper.specs.Ledger.{New, Entry, State, objects_of}
use Rattle.paper.specs.Rules.{type_of, after_head, known_due, after_entry, field_count_rules, old_due, new_dues, entry_dues, dues, with_strings, after_front}
use Rattle.paper.specs.File.{Upto, what, ends, sized, small, string_block, head, end_offset, new_field, upto_new, fields, entry, upto_entry, front}
use Rattle.laws.specs.Laws.{bind_inv, each-inv}
use Rattle.table.specs.View.{Said}
use Rattle.reader.specs.Going.{Going, go_entry, sized-append, last-append}
use Rattle.reader.specs.Fields.{upto}
use Rattle.reader.specs.Runs.{times-many}
use Rattle.reader.specs.Strings.{add_strings}
use Rattle.reader.specs.Entries.{entries_go, go_front, front_go, begun}

-- ── as many ends as chunks ──

news-many : (i n : ℕ) (xs : List New) → length (new_dues i n xs) ≡ length xs
unfolding new_dues
news-many i n [] = refl
news-many i n (x ∷ xs) = ap suc (news-many (suc i) n xs)

dues-many : (s : State) (e : Entry) → length (entry_dues s e) ≡ length (known_due s e.head) + length e.news
unfolding entry_dues
dues-many s e = rw (length-append, length-map (known_due s e.head) (old_due s e.head.count), news-many (length s.fields) (objects_of (after_head s e.head) (type_of s e.head.name)) e.news)

fields-even : (named : ℕ → Bool) (t known : ℕ) (u : Upto) (f : List ℕ) (at : ℕ) (v : List New × List ℕ) (e : ℕ) → fields named t known u f at ≡ got v e → length v.1 ≡ known + length v.0
unfolding fields give
fields-even named t known u f at v e q =
    let N = bind_inv (number (field_count_rules u.state known)) _ f at v e q in
    let O = bind_inv (times known end_offset (λ before e. e) u.end) _ f N.next v e N.rest in
    let R = bind_inv (times (N.value - known) (new_field named t) (upto_new t) (record { state = u.state; end = last_or u.end O.value })) _ f O.next v e O.rest in
    let z : (map what R.value, O.value ++ map ends R.value) ≡ v = cc R.rest in
    let many : length O.value ≡ known = times-many known end_offset (λ before e. e) u.end f N.next O.first in
    subst (λ (w : List New × List ℕ). length w.1 ≡ known + length w.0) z
    (rw (length-append, length-map R.value ends, length-map R.value what, many))

entry-even : (named : ℕ → Bool) (u : Upto) (f : List ℕ) (at : ℕ) (v : Entry × List ℕ) (e : ℕ) → entry named u f at ≡ got v e → length (entry_dues u.state v.0) ≡ length v.1
unfolding entry give
entry-even named u f at v e q =
    let H = bind_inv (head u.state) _ f at v e q in
    let known = length (known_due u.state H.value) in
    let F = bind_inv (fields named (type_of u.state H.value.name) known (record { state = after_head u.state H.value; end = u.end })) _ f H.next v e H.rest in
    let z : ◌≡◌ {A = Entry × List ℕ} (record { head = H.value; news = F.value.0 }, F.value.1) v = cc F.rest in
    subst (λ (w : Entry × List ℕ). length (entry_dues u.state w.0) ≡ length w.1) z
    (dues-many u.state (record { head = H.value; news = F.value.0 }) ∙ sym (fields-even named (type_of u.state H.value.name) known _ f H.next F.value F.next F.first))

-- each entry gives as many ends as chunks of it are due
Even : State → List (Entry × List ℕ) → Type 0
Even s [] = Unit {0}
Even s (e ∷ es) = (length (entry_dues s e.0) ≡ length e.1) × Even (after_entry s e.0) es

entries-even :
    {X : Type 0} (named : ℕ → Bool) (xs : List X) (u : Upto) (f : List ℕ) (at : ℕ) (l : List (Entry × List ℕ)) (e : ℕ)
    → each (λ u x. entry named u) upto_entry xs u f at ≡ got l e → Even u.state l
unfolding each give upto_entry Even
entries-even named [] u f at l e q = let z : [] ≡ l = cc q in subst (Even u.state) z tt
entries-even named (x ∷ xs) u f at l e q =
    let P = each-inv (λ u x. entry named u) upto_entry x xs u f at l e q in
    rw P.is (entry-even named u f at P.value P.next P.first, entries-even named xs (upto_entry u P.value) f P.next P.more e P.rest)

entries-are :
    (l : List (Entry × List ℕ)) (g : Going) → Even g.said.state l
    → fold go_entry g l ≡ record {
      said =
          record {
            state = fold after_entry g.said.state (map what l);
            due = g.said.due ++ sized g.end (dues g.said.state (map what l)) (flat ends l);
            chunks = g.said.chunks;
          };
      end = last_or g.end (flat ends l);
    }
unfolding fold go_entry sized last_or dues flat Even
entries-are [] g h = λ j. record { said = record { state = g.said.state; due = sym (append-nil g.said.due) j; chunks = g.said.chunks }; end = g.end }
entries-are (e ∷ l) g h =
    entries-are l (go_entry g e) h.1
    ∙ rw (append_assoc, last-append g.end e.1 (flat ends l), sized-append g.end (entry_dues g.said.state e.0) e.1 (dues (after_entry g.said.state e.0) (map what l)) (flat ends l) h.0) refl

-- ── the front ──

front_same :
    (named : ℕ → Bool) (s : Said) (strings : List (List ℕ)) (f : List ℕ) (n at : ℕ) (o : Out (List (Entry × List ℕ)))
    → times n (entry named) upto_entry (upto (begun s strings)) f at ≡ o
    → turned (go_front s) (and_then o (λ es e. got (record { strings = strings; entries = map what es; ends = flat ends es }) e)) ≡ turned (fold go_entry (begun s strings)) o
unfolding go_front add_strings after_front times
front_same named s strings f n at (got l e) q =
    ap (λ (g : Going). got g e) (sym (entries-are l (begun s strings) (entries-even named (replicate n (tt {0})) (upto (begun s strings)) f at l e q)))
front_same named s strings f n at (no k p) q = refl

pub front-is :
    (named : ℕ → Bool) (s : Said) (f : List ℕ) (at : ℕ)
    → front_go named s f at ≡ and_then (turned (add_strings s) (string_block s.state f at)) (λ s₁ e. and_then (small f e) (λ n e₁. entries_go named n (record { said = s₁; end = 0 }) f e₁))
unfolding front_go front ◌>>=◌ give entries_go add_strings
front-is named s f at = go (string_block s.state f at)
  where
    more :
        (strings : List (List ℕ)) (o : Out ℕ)
        → turned (go_front s) (and_then o (λ n e. and_then (times n (entry named) upto_entry (upto (begun s strings)) f e) (λ es e₁. got (record { strings = strings; entries = map what es; ends = flat ends es }) e₁)))
        ≡ and_then o (λ n e. turned (fold go_entry (begun s strings)) (times n (entry named) upto_entry (upto (begun s strings)) f e))
    more strings (got n e) = front_same named s strings f n e (times n (entry named) upto_entry (upto (begun s strings)) f e) refl
    more strings (no k p) = refl

    go :
        (o : Out (List (List ℕ)))
        → turned (go_front s) (and_then o (λ strings e. and_then (small f e) (λ n e₁. and_then (times n (entry named) upto_entry (record { state = with_strings s.state strings; end = 0 }) f e₁) (λ es e₂. got (record { strings = strings; entries = map what es; ends = flat ends es }) e₂))))
        ≡ and_then (turned (add_strings s) o) (λ s₁ e. and_then (small f e) (λ n e₁. turned (fold go_entry (record { said = s₁; end = 0 })) (times n (entry named) upto_entry (record { state = s₁.state; end = 0 }) f e₁)))
    go (got strings e) = more strings (small f e)
    go (no k p) = refl

-- The entries of a pair, read from a text, as steps of all that the table says. Assumes nothing.
use Rattle.std.specs.Prelude.{Option, Some, None, ◌≡◌, Bool, List, [], ◌∷◌, ◌++◌, map, ℕ, ◌-◌, ◌≤◌, ◌<◌, length}
use Rattle.std.proofs.Math.Path.{refl, sym}
use Rattle.std.proofs.Common.{ap, ◌∙◌, append_assoc, append-nil}
use Rattle.std.proofs.lemmas.List.{map-append}
use Rattle.paper.specs.Reader.{when◌then◌else◌, Reader, Out, got, no, and_then, turned, ◌>>=◌, ◌>>◌, give, times, repeat}
use Rattle.paper.specs.Lists.{fold}
use Rattle.paper.specs.Ledger.{New, Head, Entry, State, field_at, fields_of}
use Rattle.paper.specs.Rules.{type_of, after_head, known_due, field_count_rules, after_new, after_entry, old_due, entry_dues, dues}
use Rattle.paper.specs.Listing.{old_line}
use Rattle.paper.specs.Keeps.{number?, head?}
use Rattle.paper.specs.Scan.{heed, literal, read_type, new_text, entry_text}
use Rattle.words.specs.declared.read.Place.{Place}
use Rattle.table.specs.View.{dues_of, chunks_of, view, Holds, Said, said, Now}
use Rattle.reader.specs.Sound.{Sound}
use Rattle.reader.specs.Fields.{olds_of}
use Rattle.reader.specs.Heads.{add_head}
use Rattle.reader.specs.Runs.{runs-stop, runs-step}
use Rattle.reader.specs.NewSteps.{then-turned}
use Rattle.judge.specs.Heads.{kept_type}
use Rattle.judge.specs.Fields.{unsized, fields_text, add_fields, fields_step}

-- ── an entry is its head and then its fields ──

unfoldable pub add_entry : Said → Entry → Said
add_entry s e = record { state = after_entry s.state e; due = s.due ++ map unsized (entry_dues s.state e); chunks = s.chunks }

unfoldable pub entry_step : Said → Reader Said
entry_step s f at = turned (add_entry s) (entry_text s.state f at)

entry-goes-on :
    (s : Said) (h : Head) (news : List New)
    → add_entry s (record { head = h; news = news }) ≡ add_fields h.count (type_of s.state h.name) (add_head s h) news
unfolding add_entry add_fields add_head entry_dues known_due olds_of fields_of after_entry after_head old_due field_at
entry-goes-on s h news = refl

-- what stands behind the head
abbrev behind_head : State → Head × ℕ → Reader (List New)
behind_head s h = fields_text (after_head s h.0) (type_of s h.0.name) h.0.count h.1

-- the lines of an entry, one after the other, once as they stand in it and once with the fields for themselves
module _ (s : State) (f : List ℕ) where
  abbrev known : Head → ℕ
  known h = length (known_due s h)

  abbrev rule : Bool → ℕ → Out (Unit {0})
  rule b e = when b then got tt e else no 20 0

  abbrev counted : Head × ℕ → ℕ → Out (Unit {0})
  counted h e = rule (number? (field_count_rules (after_head s h.0) (known h.0)) h.1) e

  abbrev listed : Head → ℕ → Out (List (Unit {0}))
  listed h e = repeat (known h) (literal old_line) f e

  abbrev added : Head × ℕ → ℕ → Out (List New)
  added h e = times (h.1 - known h.0) (new_text (type_of s h.0.name)) (after_new (type_of s h.0.name)) (after_head s h.0) f e

  abbrev whole : Head → Out (List New) → Out Entry
  whole h o = and_then o (λ news e. got (record { head = h; news = news }) e)

  abbrev inside : Head × ℕ → ℕ → Out Entry
  inside h e = and_then (counted h e) (λ u e. and_then (listed h.0 e) (λ olds e. whole h.0 (added h e)))

  abbrev apart : Head × ℕ → ℕ → Out Entry
  apart h e = whole h.0 (and_then (counted h e) (λ u e. and_then (listed h.0 e) (λ olds e. added h e)))

  after-olds : (h : Head × ℕ) (o : Out (List (Unit {0}))) → and_then o (λ olds e. whole h.0 (added h e)) ≡ whole h.0 (and_then o (λ olds e. added h e))
  after-olds h (got olds e) = refl
  after-olds h (no n p) = refl

  after-count :
      (h : Head × ℕ) (o : Out (Unit {0}))
      → and_then o (λ u e. and_then (listed h.0 e) (λ olds e. whole h.0 (added h e))) ≡ whole h.0 (and_then o (λ u e. and_then (listed h.0 e) (λ olds e. added h e)))
  after-count h (got u e) = after-olds h (listed h.0 e)
  after-count h (no n p) = refl

  after-rule : (h : Head × ℕ) (o : Out (Unit {0})) → and_then o (λ u e. inside h e) ≡ and_then (and_then o (λ u e. got h e)) apart
  after-rule h (got u e) = after-count h (counted h e)
  after-rule h (no n p) = refl

  after_line : (o : Out (Head × ℕ)) → and_then o (λ h e. and_then (rule (head? s h.0) e) (λ u e. inside h e)) ≡ and_then (and_then o (λ h e. and_then (rule (head? s h.0) e) (λ u e. got h e))) apart
  after_line (got h e) = after-rule h (rule (head? s h.0) e)
  after_line (no n p) = refl

entry-parts : (s : State) (f : List ℕ) (at : ℕ) → entry_text s f at ≡ and_then (kept_type s f at) (λ h e. whole s f h.0 (behind_head s h f e))
unfolding entry_text kept_type fields_text heed known_due olds_of fields_of after_head ◌>>=◌ ◌>>◌ give
entry-parts s f at = after_line s f (read_type f at)

pub entry-is :
    (s : Said) (f : List ℕ) (at : ℕ)
    → entry_step s f at ≡ and_then (kept_type s.state f at) (λ h e. fields_step (type_of s.state h.0.name) h.0.count h.1 (add_head s h.0) f e)
unfolding entry_step fields_step add_head
entry-is s f at = ap (turned (add_entry s)) (entry-parts s.state f at) ∙ go (kept_type s.state f at)
  where
    with-head : (h : Head) (o : Out (List New)) → turned (add_entry s) (and_then o (λ news e. got (record { head = h; news = news }) e)) ≡ turned (add_fields h.count (type_of s.state h.name) (add_head s h)) o
    with-head h (got news e) = ap (λ (u : Said). got u e) (entry-goes-on s h news)
    with-head h (no k p) = refl

    go :
        (o : Out (Head × ℕ))
        → turned (add_entry s) (and_then o (λ h e. whole s.state f h.0 (behind_head s.state h f e)))
        ≡ and_then o (λ h e. turned (add_fields h.0.count (type_of s.state h.0.name) (add_head s h.0)) (behind_head s.state h f e))
    go (got h e) = with-head h.0 (behind_head s.state h f e)
    go (no k p) = refl

-- ── entries ──

unfoldable pub entries_step : ℕ → Said → Reader Said
entries_step n s f at = turned (fold add_entry s) (times n entry_text after_entry s.state f at)

module _ (f : List ℕ) where
  state-of : Said → State
  state-of s = s.state

  entry-same : (s : Said) (e : Entry) → state-of (add_entry s e) ≡ after_entry (state-of s) e
  unfolding state-of add_entry
  entry-same s e = refl

  pub entries-stop : (n : ℕ) (s : Said) (at : ℕ) → n ≤ 0 → entries_step n s f at ≡ got s at
  unfolding entries_step state-of
  entries-stop n s at le = runs-stop entry_text after_entry add_entry state-of entry-same f n s at le

  pub entries-step : (n : ℕ) (s : Said) (at : ℕ) → 0 < n → entries_step n s f at ≡ and_then (entry_step s f at) (λ s₁ e. entries_step (n - 1) s₁ f e)
  unfolding entries_step entry_step state-of
  entries-step n s at pos =
      runs-step entry_text after_entry add_entry state-of entry-same f n s at pos
      ∙ sym (then-turned (add_entry s) (entry_text s.state f at) (λ s₁ e. turned (fold add_entry s₁) (times (n - 1) entry_text after_entry s₁.state f e)))

-- the chunks of all of them
pub entries-are :
    (es : List Entry) (s : Said)
    → fold add_entry s es ≡ record { state = fold after_entry s.state es; due = s.due ++ map unsized (dues s.state es); chunks = s.chunks }
unfolding fold add_entry dues
entries-are [] s = λ j. record { state = s.state; due = sym (append-nil s.due) j; chunks = s.chunks }
entries-are (e ∷ es) s =
    entries-are es (add_entry s e) ∙ rw (map-append unsized (entry_dues s.state e) (dues (after_entry s.state e) es), append_assoc) refl

-- ── answers ──

-- n entries were read from place `at` to `next`, and the table l became l'
pub record EntriesRead (f l : List ℕ) (n at : ℕ) (l' : List ℕ) (next : ℕ) : Type 0 where
  pub entries : List Entry
  pub reads : times n entry_text after_entry (view f l) f at ≡ got entries next
  pub now : Now f l' (record { state = fold after_entry (view f l) entries; due = dues_of l ++ map unsized (dues (view f l) entries); chunks = chunks_of l })
  pub sound : Sound (said f l')
  pub long : length l' ≡ length l

abbrev pub EntriesSay : List ℕ → List ℕ → ℕ → ℕ → List ℕ → Option Place → Type 0
EntriesSay f l n at l' (Some c) = EntriesRead f l n at l' c.at
EntriesSay f l n at l' None = times n entry_text after_entry (view f l) f at ≡ no 20 0

pub record EntriesTold (f l : List ℕ) (n at : ℕ) (l' : List ℕ) (r : Option Place) : Type 0 where
  pub holds : Holds f l'
  pub says : EntriesSay f l n at l' r

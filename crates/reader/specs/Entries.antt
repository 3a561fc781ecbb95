-- Entries one after the other, and the front of a pair, as steps of all that the table says. Assumes nothing.
use Rattle.std.specs.Prelude.{◌≡◌, Bool, List, ◌++◌, ℕ, ◌-◌, ◌≤◌, ◌<◌, length}
use Rattle.std.proofs.Math.Path.{refl, sym}
use Rattle.std.proofs.Common.{ap, ◌∙◌}
use Rattle.paper.specs.Reader.{Reader, Out, got, no, and_then, turned, ◌>>=◌, give, times}
use Rattle.paper.specs.Lists.{fold, last_or}
use Rattle.paper.specs.Ledger.{New, Head, Entry, field_at, fields_of}
use Rattle.paper.specs.Rules.{type_of, after_head, known_due, after_entry, old_due, entry_dues, dues, with_strings, after_front}
use Rattle.paper.specs.File.{Front, sized, head, fields, entry, upto_entry, front}
use Rattle.table.specs.View.{Said}
use Rattle.reader.specs.Going.{Going, go_head, go_entry}
use Rattle.reader.specs.Fields.{upto, olds_of, go_fields, fields_go}
use Rattle.reader.specs.Runs.{runs-stop, runs-step}
use Rattle.reader.specs.NewSteps.{then-turned}
use Rattle.reader.specs.Strings.{add_strings}

-- ── an entry is its head and then its fields ──

unfoldable pub entry_go : (ℕ → Bool) → Going → Reader Going
entry_go named g f at = turned (go_entry g) (entry named (upto g) f at)

entry-goes-on :
    (g : Going) (h : Head) (v : List New × List ℕ)
    → go_entry g (record { head = h; news = v.0 }, v.1) ≡ go_fields h.count (type_of g.said.state h.name) (go_head g h) v
unfolding go_fields go_head go_entry entry_dues known_due olds_of fields_of after_entry after_head old_due field_at
entry-goes-on g h v = refl

pub entry-is :
    (named : ℕ → Bool) (g : Going) (f : List ℕ) (at : ℕ)
    → entry_go named g f at
    ≡ and_then (head g.said.state f at) (λ h e. fields_go named (type_of g.said.state h.name) h.count (go_head g h) f e)
unfolding entry_go entry fields_go go_head known_due olds_of fields_of after_head ◌>>=◌ give
entry-is named g f at = go (head g.said.state f at)
  where
    with-head : (h : Head) (o : Out (List New × List ℕ)) → turned (go_entry g) (and_then o (λ v e. got (record { head = h; news = v.0 }, v.1) e)) ≡ turned (go_fields h.count (type_of g.said.state h.name) (go_head g h)) o
    with-head h (got v e) = ap (λ (x : Going). got x e) (entry-goes-on g h v)
    with-head h (no k p) = refl

    go :
        (o : Out Head)
        → turned (go_entry g) (and_then o (λ h e. and_then (fields named (type_of g.said.state h.name) (length (known_due g.said.state h)) (record { state = after_head g.said.state h; end = g.end }) f e) (λ v e. got (record { head = h; news = v.0 }, v.1) e)))
        ≡ and_then o (λ h e. turned (go_fields h.count (type_of g.said.state h.name) (go_head g h)) (fields named (type_of g.said.state h.name) (length (known_due g.said.state h)) (record { state = after_head g.said.state h; end = g.end }) f e))
    go (got h e) = with-head h (fields named (type_of g.said.state h.name) (length (known_due g.said.state h)) (record { state = after_head g.said.state h; end = g.end }) f e)
    go (no k p) = refl

-- ── entries ──

unfoldable pub entries_go : (ℕ → Bool) → ℕ → Going → Reader Going
entries_go named n g f at = turned (fold go_entry g) (times n (entry named) upto_entry (upto g) f at)

module _ (named : ℕ → Bool) (f : List ℕ) where
  entry-same : (g : Going) (e : Entry × List ℕ) → upto (go_entry g e) ≡ upto_entry (upto g) e
  unfolding upto_entry go_entry
  entry-same g e = refl

  pub entries-stop : (n : ℕ) (g : Going) (at : ℕ) → n ≤ 0 → entries_go named n g f at ≡ got g at
  unfolding entries_go
  entries-stop n g at le = runs-stop (entry named) upto_entry go_entry upto entry-same f n g at le

  pub entries-step : (n : ℕ) (g : Going) (at : ℕ) → 0 < n → entries_go named n g f at ≡ and_then (entry_go named g f at) (λ g₁ e. entries_go named (n - 1) g₁ f e)
  unfolding entries_go entry_go
  entries-step n g at pos =
      runs-step (entry named) upto_entry go_entry upto entry-same f n g at pos
      ∙ sym (then-turned (go_entry g) (entry named (upto g) f at) (λ g₁ e. turned (fold go_entry g₁) (times (n - 1) (entry named) upto_entry (upto g₁) f e)))

-- ── the front of a pair, from all that the table says before it ──

unfoldable pub go_front : Said → Front → Going
go_front s d =
    record {
      said =
          record {
            state = after_front s.state d.strings d.entries;
            due = s.due ++ sized 0 (dues (with_strings s.state d.strings) d.entries) d.ends;
            chunks = s.chunks;
          };
      end = last_or 0 d.ends;
    }

unfoldable pub front_go : (ℕ → Bool) → Said → Reader Going
front_go named s f at = turned (go_front s) (front named s.state f at)

-- no chunk is due before the entries are read
abbrev pub begun : Said → List (List ℕ) → Going
begun s strings = record { said = add_strings s strings; end = 0 }

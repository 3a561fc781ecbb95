-- Between two blocks: what the table says there gives the next block its room, and a block that ends leaves it so. Assumes nothing.
use Rattle.std.specs.Prelude.{◌≡◌, refl, false, List, [], ◌∷◌, ◌++◌, ℕ, ◌+◌, ◌*◌, ◌≤◌, ◌<◌, length}
use Rattle.std.proofs.Common.{◌∙◌, arith, length-append, ne_eqb}
use Rattle.paper.specs.Bounds.{most_pairs, most_types, most_fields}
use Rattle.paper.specs.Lists.{fold, total}
use Rattle.paper.specs.Ledger.{Range, New, Entry, State, here?, of?}
use Rattle.paper.specs.Rules.{entry_of?, new_range, after_head, after_new, after_entry, with_strings, closed, after_front}
use Rattle.paper.specs.Places.{Spot}
use Rattle.table.specs.View.{Said}
use Rattle.table.specs.Counts.{next_block}
use Rattle.reader.specs.Counting.{one, count-not, count_none, none-counted, Keys, keys-weaker, keys-snoc, fewer-rows, none-past}
use Rattle.reader.specs.Sound.{type_of_range, Sound}
use Rattle.lookups.specs.Low.{Low, count_of, Bounded, news-log}

abbrev pub block_of_range : Range → ℕ
block_of_range r = r.block

pub record Between (g : Said) : Type 0 where
  pub block : g.state.block ≤ most_pairs
  pub names : length g.state.type_names ≤ most_types
  pub flds : length g.state.fields ≤ most_fields
  pub known : Keys type_of_range (length g.state.type_names) g.state.log
  pub past : Keys block_of_range g.state.block g.state.log
  pub room : length g.state.log ≤ 32 * g.state.block
  pub spread : (t : ℕ) → total (of? t) one g.state.log ≤ g.state.block
  pub none : g.due ≡ []
  pub chunks : length g.chunks ≤ 128 * g.state.block

-- ── a block begins ──

of-another : (b t : ℕ) (r : Range) → r.block < b → entry_of? b t r ≡ false
unfolding entry_of? here?
of-another b t r lt = rw (ne_eqb r.block b (λ e. omega arith))

no-entry : (b t : ℕ) (log : List Range) → Keys block_of_range b log → total (entry_of? b t) one log ≡ 0
no-entry b t [] h = count_none (entry_of? b t)
no-entry b t (r ∷ log) h = count-not (entry_of? b t) r log (of-another b t r h.0) ∙ no-entry b t log h.1

pub begins : {g : Said} → Between g → g.state.block < most_pairs → Sound g
begins {g} k lt =
    record {
      block = lt;
      names = k.names;
      flds = k.flds;
      known = k.known;
      once = λ t. omega (arith, no-entry g.state.block t g.state.log k.past);
      room = omega (arith, k.room);
      spread = λ t. omega (arith, k.spread t);
      declared = rw k.none tt;
      apart = λ i. rw (k.none, count_none _) (omega arith);
      chunks = k.chunks;
    }

-- ── the ranges of a block are its own ──

news-block : (t : ℕ) (gs : List New) (s : State) → (fold (after_new t) s gs).block ≡ s.block
unfolding fold after_new
news-block t [] s = refl
news-block t (g ∷ gs) s = news-block t gs (after_new t s g)

entry-block : (s : State) (e : Entry) → (after_entry s e).block ≡ s.block
unfolding after_entry after_head
entry-block s e = news-block _ e.news (after_head s e.head)

entry_past : (s : State) (e : Entry) (n : ℕ) → s.block < n → Keys block_of_range n s.log → Keys block_of_range n (after_entry s e).log
unfolding after_entry after_head new_range
entry_past s e n lt h = rw (news-log _ e.news (after_head s e.head)) (keys-snoc block_of_range n s.log (new_range s e.head) h lt)

entries-past : (es : List Entry) (s : State) (n : ℕ) → s.block < n → Keys block_of_range n s.log → Keys block_of_range n (fold after_entry s es).log
unfolding fold
entries-past [] s n lt h = h
entries-past (e ∷ es) s n lt h = entries-past es (after_entry s e) n (rw (entry-block s e) lt) (entry_past s e n lt h)

entries-block : (es : List Entry) (s : State) → (fold after_entry s es).block ≡ s.block
unfolding fold
entries-block [] s = refl
entries-block (e ∷ es) s = entries-block es (after_entry s e) ∙ entry-block s e

pub front-block : (s : State) (strings : List (List ℕ)) (es : List Entry) → (after_front s strings es).block ≡ s.block
unfolding after_front with_strings
front-block s strings es = entries-block es (with_strings s strings)

pub front-past : (s : State) (strings : List (List ℕ)) (es : List Entry) → Keys block_of_range s.block s.log → Keys block_of_range (s.block + 1) (after_front s strings es).log
unfolding after_front with_strings
front-past s strings es h = entries-past es (with_strings s strings) (s.block + 1) (omega arith) (keys-weaker block_of_range s.block (s.block + 1) s.log (omega arith) h)

-- ── its data region: the values are held to a log with no more ranges of a type than there are blocks ──

pub bounded-by : {g : Said} → Sound g → Low 0 g.state.log → Bounded g.state.log
unfolding count_of
bounded-by k low = record { low = low; few = λ t. omega (arith, k.spread t, k.once t, k.block) }

-- ── a block ends ──

-- it has at most an entry for each type
few-here : {g : Said} → Sound g → total (here? g.state.block) one g.state.log ≤ 32
unfolding entry_of? of?
few-here {g} k =
    let b = g.state.block in
    let log = g.state.log in
    let keys = keys-weaker type_of_range (length g.state.type_names) 32 log k.names k.known in
    omega (
      arith,
      fewer-rows (here? b) type_of_range 33 log 32 (omega arith) (keys-weaker type_of_range 32 33 log (omega arith) keys) k.once (none-counted (entry_of? b 32) log (none-past (here? b) type_of_range 32 log keys)),
    )

-- all chunks that were due are put down
pub closes :
    {g : Said} → Sound g → Keys block_of_range (g.state.block + 1) g.state.log → (cs : List Spot) → length cs ≤ 128
    → Between (next_block (record { state = g.state; due = g.due; chunks = g.chunks ++ cs }))
unfolding next_block closed
closes {g} k past cs few =
    record {
      block = omega (arith, k.block);
      names = k.names;
      flds = k.flds;
      known = k.known;
      past = past;
      room = omega (arith, k.room, few-here k);
      spread = λ t. omega (arith, k.spread t, k.once t);
      none = refl;
      chunks = rw (length-append g.chunks cs) (omega (arith, k.chunks));
    }

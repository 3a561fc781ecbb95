-- Bounds, and what holds of the ranges, at every stage that is reached. Assumes nothing.
use Rattle.std.specs.Prelude.{◌≡◌, refl, false, List, [], ◌∷◌, ◌++◌, map, ℕ, ◌+◌, ◌-◌, ◌*◌, ◌≤◌, ◌<◌, length}
use Rattle.std.proofs.Common.{ap, ◌∙◌, subst, append-nil, arith, length-append, ltb-true, ne_eqb}
use Rattle.std.proofs.Math.Option.{Option, none, some}
use Rattle.std.proofs.Math.Decide.{dec_le}
use Rattle.std.proofs.lemmas.List.{length-map}
use Rattle.std.proofs.lemmas.Bool.{not-true}
use Rattle.paper.specs.Reader.{when◌then◌else◌}
use Rattle.paper.specs.Lists.{total, given?, or}
use Rattle.paper.specs.Ledger.{New, Head, Range, State, nothing, text, type_named, here?, of?}
use Rattle.paper.specs.Rules.{type_name_rules, place_rules, new?, type_of, entry_of?, entered?, new_name, new_type, new_range, after_head}
use Rattle.laws.specs.Says.{Held}
use Rattle.laws.specs.Count.{made}
use Rattle.laws.specs.Objects.{type-low}
use Rattle.table.specs.View.{Said}
use Rattle.lookups.specs.Low.{count_of}
use Rattle.reader.specs.Counting.{one, count-not, count_none, none-counted, Keys, keys-weaker, keys-snoc, fewer-rows, none-past}
use Rattle.reader.specs.Sound.{type_of_range, Sound, Headed, head-sound, entered-new}
use Rattle.trail.specs.Stages.{Stage, begin}
use Rattle.recall.specs.Added.{After, HeadHeld, head-held, BlockAdded, EntryAdded}
use Rattle.recall.specs.Reached.{Reached, reached-keep}

-- ── bounds ──

pub record Bounds (g : Stage) : Type 0 where
  pub strings : length g.state.strings ≤ 1024
  pub names : length g.state.type_names ≤ 32
  pub types : length g.state.types ≡ length g.state.type_names
  pub fields : length g.state.fields ≤ 128
  pub field_names : length g.state.field_names ≡ length g.state.fields
  pub pairs : g.pairs ≤ 32
  pub numbered : 0 < g.pairs → g.state.block + 1 ≡ g.pairs
  pub unnumbered : g.pairs ≡ 0 → g.state.block ≡ 0
  pub started : (g.left ≡ 0 → ⊥) → 0 < g.pairs

-- the type of an entry has room among the types
pub record Entrant (s : State) (h : Head) : Type 0 where
  pub few : length s.type_names ≤ 32 → length (s.type_names ++ new_name s h) ≤ 32
  pub more : length s.type_names ≤ length (s.type_names ++ new_name s h)
  pub known : type_of s h.name < length (s.type_names ++ new_name s h)
  pub alike : length (new_type s h) ≡ length (new_name s h)
  pub old : type_of s h.name < length s.type_names → entered? s (type_of s h.name) ≡ false
  pub most : type_of s h.name ≤ length s.type_names

pub entrant : (s : State) (h : Head) → HeadHeld s h → Entrant s h
unfolding type_name_rules place_rules new_name new_type new? type_of given? or when◌then◌else◌
entrant s h H = go (type_named s (text s h.name)) refl H.name.1
  where
    go : (o : Option ℕ) → type_named s (text s h.name) ≡ o → Held (place_rules s o) → Entrant s h
    go none q R =
        record {
          few = λ le. rw (q, length-append s.type_names (text s h.name ∷ [])) (omega (arith, ltb-true (length s.type_names) 32 R.0));
          more = rw (q, length-append s.type_names (text s h.name ∷ [])) (omega arith);
          known = rw (q, length-append s.type_names (text s h.name ∷ [])) (omega arith);
          alike = rw q refl;
          old = λ lt. let z : length s.type_names < length s.type_names = rw q at lt in absurd (omega arith);
          most = rw q (omega arith);
        }
    go (some t) q R =
        record {
          few = λ le. rw (q, append-nil s.type_names) le;
          more = rw (q, append-nil s.type_names) (omega arith);
          known = rw (q, append-nil s.type_names) (type-low s (text s h.name) t q);
          alike = rw q refl;
          old = λ lt. rw q (not-true _ R.0);
          most = rw q (omega (arith, type-low s (text s h.name) t q));
        }

pub start-bounds : Bounds begin
unfolding begin nothing
start-bounds =
    record {
      strings = omega arith;
      names = omega arith;
      types = refl;
      fields = omega arith;
      field_names = refl;
      pairs = omega arith;
      numbered = λ lt. absurd (omega arith);
      unnumbered = λ z. refl;
      started = λ nz. absurd (nz refl);
    }

pub block-bounds : (g h : Stage) → BlockAdded g h → Bounds g → Bounds h
block-bounds g h A B =
    record {
      strings = rw (A.known, length-append g.state.strings A.strings) A.room;
      names = rw A.type_names B.names;
      types = rw (A.types, A.type_names) B.types;
      fields = rw A.fields B.fields;
      field_names = rw (A.field_names, A.fields) B.field_names;
      pairs = omega (arith, A.pairs, A.few);
      numbered = λ lt. omega (arith, A.block, A.pairs);
      unnumbered = λ z. absurd (omega (arith, A.pairs));
      started = λ nz. omega (arith, A.pairs);
    }

pub entry-bounds : (f : List ℕ) (g : Stage) (at : ℕ) (h : Stage) → (g.left ≡ 0 → ⊥) → EntryAdded f g at h → Bounds g → Bounds h
entry-bounds f g at h nz A B =
    let s = g.state in
    let X = A.after in
    let E = entrant s A.top (head-held s f at A.top A.after-top A.top_read) in
    let many : length h.state.fields ≡ length s.fields + length A.news = ap length X.fields ∙ length-append s.fields (map (made (type_of s A.top.name)) A.news) ∙ ap (λ (n : ℕ). length s.fields + n) (length-map A.news (made (type_of s A.top.name))) in
    record {
      strings = rw X.strings B.strings;
      names = rw X.type_names (E.few B.names);
      types = rw (X.types, X.type_names, length-append s.types (new_type s A.top), length-append s.type_names (new_name s A.top)) (omega (arith, B.types, E.alike));
      fields = omega (arith, many, A.room);
      field_names = omega (arith, many, X.field_names, B.field_names);
      pairs = omega (arith, A.pairs, B.pairs);
      numbered = λ lt. let z = B.started nz in omega (arith, B.numbered z, X.block, A.pairs);
      unnumbered = λ z. absurd (omega (arith, B.started nz, A.pairs));
      started = λ n. omega (arith, B.started nz, A.pairs);
    }

pub bounds : {f : List ℕ} {k : ℕ} {g : Stage} → Reached f k g → Bounds g
bounds R = reached-keep Bounds (record { block = block-bounds; entry = entry-bounds }) start-bounds R

-- ── ranges ──

abbrev pub block_of_range : Range → ℕ
block_of_range r = r.block

-- a state by itself, without chunks
abbrev pub bare : State → Said
bare s = record { state = s; due = []; chunks = [] }

pub record Ranges (g : Stage) : Type 0 where
  pub sound : Sound (bare g.state)
  pub past : Keys block_of_range g.pairs g.state.log
  pub bounds : Bounds g

start-ranges : Ranges begin
unfolding begin nothing total
start-ranges =
    record {
      sound =
          record {
            block = omega arith;
            names = omega arith;
            flds = omega arith;
            known = tt;
            once = λ t. omega arith;
            room = omega arith;
            spread = λ t. omega arith;
            declared = tt;
            apart = λ i. omega arith;
            chunks = omega arith;
          };
      past = tt;
      bounds = start-bounds;
    }

-- a block has at most an entry for each type
few-here : {s : State} → Sound (bare s) → total (here? s.block) one s.log ≤ 32
unfolding entry_of? of?
few-here {s} k =
    let keys = keys-weaker type_of_range (length s.type_names) 32 s.log k.names k.known in
    omega (
      arith,
      fewer-rows (here? s.block) type_of_range 33 s.log 32 (omega arith) (keys-weaker type_of_range 32 33 s.log (omega arith) keys) k.once
          (none-counted (entry_of? s.block 32) s.log (none-past (here? s.block) type_of_range 32 s.log keys)),
    )

none-there : (log : List Range) → Keys block_of_range 0 log → log ≡ []
none-there [] h = refl
none-there (r ∷ log) h = absurd (omega (arith, h.0))

-- of the ranges of the blocks so far
pub log-of-blocks : (g : Stage) → Ranges g → length g.state.log ≤ 32 * g.pairs
log-of-blocks g R = go (dec_le g.pairs 0)
  where
    go : Dec (g.pairs ≤ 0) → length g.state.log ≤ 32 * g.pairs
    go (Dec.yes z) =
        let none_yet = none-there g.state.log (subst (λ (n : ℕ). Keys block_of_range n g.state.log) (omega arith) R.past) in
        omega (arith, ap length none_yet)
    go (Dec.no nz) = omega (arith, R.bounds.numbered (omega arith), R.sound.room, few-here R.sound)

-- a type has at most one range in each block
pub spread-of-blocks : (g : Stage) → Ranges g → (t : ℕ) → total (of? t) one g.state.log ≤ g.pairs
unfolding total
spread-of-blocks g R t = go (dec_le g.pairs 0)
  where
    go : Dec (g.pairs ≤ 0) → total (of? t) one g.state.log ≤ g.pairs
    go (Dec.yes z) =
        let none_yet = none-there g.state.log (subst (λ (n : ℕ). Keys block_of_range n g.state.log) (omega arith) R.past) in
        omega (arith, ap (total (of? t) one) none_yet)
    go (Dec.no nz) = omega (arith, R.bounds.numbered (omega arith), R.sound.spread t, R.sound.once t)

of-another : (b t : ℕ) (r : Range) → r.block < b → entry_of? b t r ≡ false
unfolding entry_of? here?
of-another b t r lt = rw (ne_eqb r.block b (λ e. omega arith))

-- a block that begins has no entry
pub no-entry : (b t : ℕ) (log : List Range) → Keys block_of_range b log → total (entry_of? b t) one log ≡ 0
no-entry b t [] h = count_none (entry_of? b t)
no-entry b t (r ∷ log) h = count-not (entry_of? b t) r log (of-another b t r h.0) ∙ no-entry b t log h.1

block-ranges : (g h : Stage) → BlockAdded g h → Ranges g → Ranges h
block-ranges g h A R =
    let B = block-bounds g h A R.bounds in
    record {
      sound =
          record {
            block = omega (arith, A.block, A.few);
            names = B.names;
            flds = B.fields;
            known = rw (A.log, A.type_names) R.sound.known;
            once = λ t. rw (A.log, A.block) (omega (arith, no-entry g.pairs t g.state.log R.past));
            room = rw (A.log, A.block) (omega (arith, log-of-blocks g R));
            spread = λ t. rw (A.log, A.block) (omega (arith, spread-of-blocks g R t));
            declared = tt;
            apart = R.sound.apart;
            chunks = omega arith;
          };
      past = rw (A.log, A.pairs) (keys-weaker block_of_range g.pairs (g.pairs + 1) g.state.log (omega arith) R.past);
      bounds = B;
    }

-- the type of an entry that was read had none in this block before
pub not_entered : (s : State) (h : Head) → HeadHeld s h → Sound (bare s) → entered? s (type_of s h.name) ≡ false
not_entered s h H k = go (dec_le (length s.type_names) (type_of s h.name))
  where
    go : Dec (length s.type_names ≤ type_of s h.name) → entered? s (type_of s h.name) ≡ false
    go (Dec.yes ge) =
        let z : type_of s h.name ≡ length s.type_names = omega (arith, (entrant s h H).most) in
        rw z (entered-new k)
    go (Dec.no lt) = (entrant s h H).old (omega arith)

headed : (s : State) (h : Head) → HeadHeld s h → length s.type_names ≤ 32 → Headed s (after_head s h) (new_range s h)
unfolding after_head new_range
headed s h H few =
    let E = entrant s h H in
    record { log = refl; block = refl; fields = refl; mine = refl; more = E.more; few = E.few few; known = E.known }

after-sound : (s : State) (h : Head) → HeadHeld s h → Sound (bare s) → Sound (bare (after_head s h))
unfolding new_range
after-sound s h H k = head-sound k (headed s h H k.names) refl refl (not_entered s h H k)

entry-sound : (s : State) (h : Head) (gs : List New) (s₂ : State) → After s h gs s₂ → length s₂.fields ≤ 128 → Sound (bare (after_head s h)) → Sound (bare s₂)
unfolding after_head
entry-sound s h gs s₂ X few k =
    record {
      block = rw X.block k.block;
      names = rw X.type_names k.names;
      flds = few;
      known = rw (X.type_names, X.log) k.known;
      once = λ t. rw (X.log, X.block) (k.once t);
      room = rw (X.log, X.block) k.room;
      spread = λ t. rw (X.log, X.block) (k.spread t);
      declared = tt;
      apart = k.apart;
      chunks = omega arith;
    }

new-block : (s : State) (h : Head) → (new_range s h).block ≡ s.block
unfolding new_range
new-block s h = refl

entry-ranges : (f : List ℕ) (g : Stage) (at : ℕ) (h : Stage) → (g.left ≡ 0 → ⊥) → EntryAdded f g at h → Ranges g → Ranges h
entry-ranges f g at h nz A R =
    let s = g.state in
    let X = A.after in
    let H = head-held s f at A.top A.after-top A.top_read in
    let B = entry-bounds f g at h nz A R.bounds in
    let z = R.bounds.numbered (R.bounds.started nz) in
    record {
      sound = entry-sound s A.top A.news h.state X B.fields (after-sound s A.top H R.sound);
      past = rw (X.log, A.pairs) (keys-snoc block_of_range g.pairs s.log (new_range s A.top) R.past (omega (arith, new-block s A.top, z)));
      bounds = B;
    }

pub ranges : {f : List ℕ} {k : ℕ} {g : Stage} → Reached f k g → Ranges g
ranges R = reached-keep Ranges (record { block = block-ranges; entry = entry-ranges }) start-ranges R

module _ {f : List ℕ} {k : ℕ} {g : Stage} (R : Reached f k g) where
  -- every range's type is declared
  pub types-known : Keys type_of_range (length g.state.type_names) g.state.log
  types-known = (ranges R).sound.known

  -- and every range's block has begun
  pub blocks-known : Keys block_of_range g.pairs g.state.log
  blocks-known = (ranges R).past

  -- at most one entry of a type in this block
  pub once-here : (t : ℕ) → total (entry_of? g.state.block t) one g.state.log ≤ 1
  once-here = (ranges R).sound.once

  pub log-short : length g.state.log ≤ 1024
  log-short = omega (arith, log-of-blocks g (ranges R), (bounds R).pairs)

  pub few-ranges : (t : ℕ) → count_of t g.state.log ≤ 32
  unfolding count_of
  few-ranges t = omega (arith, spread-of-blocks g (ranges R) t, (bounds R).pairs)

  -- the block in which entries are read; before the first it is 0
  pub block-is : g.state.block ≡ g.pairs - 1
  block-is = go (dec_le g.pairs 0)
    where
      go : Dec (g.pairs ≤ 0) → g.state.block ≡ g.pairs - 1
      go (Dec.yes z) = omega (arith, (bounds R).unnumbered (omega arith))
      go (Dec.no nz) = omega (arith, (bounds R).numbered (omega arith))

-- The ways out of building a pair, on plain values: its front was read, and its values are counted, or laid. Assumes nothing.
use Rattle.std.specs.Prelude as prelude
use Rattle.std.specs.Prelude.{None, Some, ◌≡◌, ℕ, ◌+◌, ◌^◌, ◌≤◌, ◌<◌, min, length}
use Rattle.std.proofs.Math.Path.{refl, sym, ap, subst}
use Rattle.std.proofs.Common.{◌∙◌, arith}
use mathlib.Core.List.{List, [], ◌∷◌, ◌++◌, map, append-nil}
use Rattle.std.proofs.lemmas.List.{length-map}
use Rattle.paper.specs.Reader.{Out, got, no, and_then}
use Rattle.paper.specs.Bounds.{most_bytes}
use Rattle.paper.specs.Numbers.{put}
use Rattle.paper.specs.Lists.{flat}
use Rattle.paper.specs.Ledger.{Entry, Chunk, Pair, Due, State}
use Rattle.paper.specs.Rules.{with_strings, dues, closed, after_front, after_pair}
use Rattle.paper.specs.Pieces.{zip}
use Rattle.paper.specs.Encode.{put_chunks, put_pair}
use Rattle.laws.specs.Put.{put_strings, put_entries, put-front}
use Rattle.paper.specs.Scan.{pair_text}
use Rattle.lay.specs.Laid.{most, Laid, laid_as, laid-over}
use Rattle.laws.specs.Laws.{not-got}
use Rattle.laws.specs.Says.{Bytes}
use Rattle.laws.specs.Built.{pair-kept}
use Rattle.laws.specs.Hexed.{hexed, Spelt, each_back, closed-hexed, spelt-front, spelt-closed}
use Rattle.table.specs.View.{view, said, Said, dues_of, chunks_of}
use Rattle.table.specs.Counts.{next_block, Next}
use Rattle.walk.specs.Region.{sizes}
use Rattle.walk.specs.Blocks.{bounded-by, closes, front-block}
use Rattle.laws.specs.Pools.{Pooled, closed-pooled}
use Rattle.lookups.specs.Low.{Low}
use Rattle.walk.specs.PairLaws.{Steady}
use Rattle.judge.specs.Fields.{unsized}
use Rattle.texts.specs.declared.Taken.{Taken}
use Rattle.fronts.specs.Ends.{sum, ends_of, ends-of}
use Rattle.regions.specs.Sizes.{counted}
use Rattle.regions.specs.Chunks.{chunks_text, put_count}
use Rattle.regions.specs.Turns.{what_due, RegionReady, RegionSized, Sized, region_bytes}
use Rattle.regions.specs.Both.{RegionLaid}
use Rattle.regions.specs.After.{same-dues, sized-length}
use Rattle.words.specs.declared.read.Place.{Place}
use Rattle.build.specs.Spelling.{chunk_text-hexed, put_chunks-hexed}
use Rattle.build.specs.Swap.{laid-swap}
use Rattle.build.specs.Fronts.{region_text, with_values}
use Rattle.build.specs.FrontLaws.{Fronted}
use Rattle.build.specs.Places.{front_bytes, value_bytes, pair_is, pair-length}
use Rattle.build.specs.Pairs.{Refused, wrong, too_long, Built}

what-unsized : (ds : List Due) → map (λ (d : Due × ℕ). d.0) (map unsized ds) ≡ ds
unfolding unsized
what-unsized [] = refl
what-unsized (d ∷ ds) = ap (λ (r : List Due). d ∷ r) (what-unsized ds)

-- pieces that are counted to less than the most are counted whole
counted-whole : (ds : List Due) (bs : List (List ℕ)) → length bs ≡ length ds → sizes (zip ds (map counted bs)) < most → map (λ (d : Due × ℕ). d.1) (zip ds (map counted bs)) ≡ map length bs
unfolding sizes zip
counted-whole [] [] h lt = refl
counted-whole [] (b ∷ bs) h lt = absurd (omega arith)
counted-whole (d ∷ ds) [] h lt = absurd (omega arith)
counted-whole (d ∷ ds) (b ∷ bs) h lt =
    let one : min (length b) most ≡ length b = omega arith in
    rw one (ap (λ (r : List ℕ). length b ∷ r) (counted-whole ds bs (omega arith) (omega arith)))

sums : (ds : List (Due × ℕ)) → sum (map (λ (d : Due × ℕ). d.1) ds) ≡ sizes ds
unfolding sum sizes
sums [] = refl
sums (d ∷ ds) = ap (λ (n : ℕ). d.1 + n) (sums ds)

module _ {t l : List ℕ} {at : ℕ} {s : State} (S : Spelt s) {m from to : ℕ} {l₁ : List ℕ} (F : Fronted t l s at m from to l₁) where
  abbrev ss : List (List ℕ)
  ss = F.strings

  abbrev es : List Entry
  es = F.entries

  abbrev s₂ : State
  s₂ = after_front s ss es

  abbrev ds : List Due
  ds = dues (with_strings s ss) es

  pub region-ready : RegionReady t l₁
  region-ready = record { holds = F.holds; sound = F.sound; bounded = bounded-by F.sound F.low; pooled = F.pooled; listed = F.listed }

  dues-what : what_due l₁ ≡ ds
  dues-what = ap (map (λ (d : Due × ℕ). d.0)) F.due ∙ what-unsized ds

  region-as : (e : ℕ) → chunks_text (view t l₁) (what_due l₁) t e ≡ region_text s ss es t e
  unfolding chunks_text region_text
  region-as e = rw (dues-what, F.state, chunk_text-hexed s₂ (spelt-front s S ss (each_back ss F.small) es)) refl

  bytes-as : (cs : List Chunk) → put_chunks (view t l₁) (what_due l₁) cs ≡ put_chunks s₂ ds cs
  bytes-as cs = rw (dues-what, F.state) (put_chunks-hexed s₂ ds cs)

  pub built-bad : {r : prelude.Option Place} {l₂ : List ℕ} → RegionSized t l₁ to r l₂ → r ≡ None → Refused s t at
  unfolding with_values
  built-bad R is = wrong (F.reads ∙ rw (sym (region-as to) ∙ R.refused is))

  -- the values of a pair that is read, by what the table says
  pub values-read :
      {p : Pair} {e : ℕ} → pair_text s t at ≡ got p e
      → (cs : List Chunk) × (chunks_text (view t l₁) (what_due l₁) t to ≡ got cs e) × (region_bytes (view t l₁) (what_due l₁) cs ≡ value_bytes s p)
  unfolding with_values
  values-read {p} {e} h =
      go (chunks_text (view t l₁) (what_due l₁) t to) refl
      (ap (λ (o : Out (List Chunk)). and_then o (λ cs q. got (record { strings = ss; entries = es; chunks = cs }) q)) (region-as to) ∙ sym F.reads ∙ h)
    where
      go :
          (o : Out (List Chunk)) → chunks_text (view t l₁) (what_due l₁) t to ≡ o → and_then o (λ cs q. got (record { strings = ss; entries = es; chunks = cs }) q) ≡ got p e
          → (cs : List Chunk) × (chunks_text (view t l₁) (what_due l₁) t to ≡ got cs e) × (region_bytes (view t l₁) (what_due l₁) cs ≡ value_bytes s p)
      go (got cs q) is k =
          let end : q ≡ e = cc k in
          let same : record { strings = ss; entries = es; chunks = cs } ≡ p = cc k in
          (cs, is ∙ ap (λ (x : ℕ). got cs x) end, ap (flat (λ b. b)) (bytes-as cs) ∙ ap (λ (x : Pair). value_bytes s x) same)
      go (no n q) is k = not-got k

  module _ {r : prelude.Option Place} {l₂ : List ℕ} (R : RegionSized t l₁ to r l₂) {next : Place} (is : r ≡ Some next) where
    pub sized : Sized t l₁ to next.at l₂
    sized = R.sized next is

    abbrev cs : List Chunk
    cs = sized.chunks

    abbrev pub pair : Pair
    pair = record { strings = ss; entries = es; chunks = cs }

    pub reads : pair_text s t at ≡ got pair next.at
    unfolding with_values
    reads = F.reads ∙ rw (sym (region-as to) ∙ sized.reads)

    pub pair_inside : Bytes t → next.at ≤ length t
    pair_inside b = ((pair-kept s).at t at pair next.at b F.begins reads).inside

    abbrev bs : List (List ℕ)
    bs = put_chunks s₂ ds cs

    region-length : min (sizes (dues_of l₂)) most ≡ min (length (value_bytes s pair)) most
    region-length = sized-length sized ∙ ap (λ (x : List (List ℕ)). min (length (flat (λ b. b) x)) most) (bytes-as cs)

    pub built-long : {n : ℕ} → n ≡ min (sizes (dues_of l₂)) most → most_bytes < n → Refused s t at
    unfolding most
    built-long {n} size h = too_long pair next.at reads (omega (arith, pair-length s pair, region-length))

    -- values that a file can have
    pub small-sizes : length (value_bytes s pair) ≤ most_bytes → sizes (dues_of l₂) ≤ most_bytes
    unfolding most
    small-sizes h = omega (arith, region-length)

    module _ (small : sizes (dues_of l₂) ≤ most_bytes) where
      many : length cs ≡ length ds
      many = sized.count ∙ ap length dues-what

      dues-are : dues_of l₂ ≡ zip ds (map counted bs)
      dues-are = ap (λ (g : Said). g.due) sized.now.says ∙ rw (bytes-as cs, dues-what) refl

      sizes-are : map (λ (d : Due × ℕ). d.1) (dues_of l₂) ≡ map length bs
      unfolding most
      sizes-are = rw dues-are (counted-whole ds bs (put_count s₂ ds cs many) (omega (arith, small, ap sizes dues-are)))

      pub sum-small : sum (map (λ (d : Due × ℕ). d.1) (dues_of l₂)) < 2 ^ 64
      sum-small = rw (sums (dues_of l₂)) (omega (arith, small))

      pub as_many : length (dues_of l₂) ≡ length ds
      as_many = sym (length-map (dues_of l₂) (λ (d : Due × ℕ). d.0)) ∙ ap length (same-dues sized ∙ dues-what)

      -- strings, the number of entries, and the entries
      pub front-laid :
          {out o : List ℕ} {p r : ℕ} → Laid out p (put_strings ss ++ put m ++ put_entries (with_strings s ss) es (ends_of 0 (map (λ (d : Due × ℕ). d.1) (dues_of l₂)))) o r
          → Laid out p (front_bytes s pair) o r
      front-laid a = laid_as a (rw (put-front, F.many, sizes-are, ends-of 0 bs) refl)

      -- the values, laid before it
      pub region-laid : {o₁ o₂ : List ℕ} {p₁ : ℕ} {k : Taken} → RegionLaid t l₁ to o₁ p₁ o₂ k l₂ → Laid o₁ p₁ (value_bytes s pair) o₂ k.at
      region-laid Y =
          let same : Y.sized.chunks ≡ cs = cc (sym Y.sized.reads ∙ sized.reads) in
          laid_as Y.laid (ap (λ (x : List Chunk). region_bytes (view t l₁) (what_due l₁) x) same ∙ ap (flat (λ b. b)) (bytes-as cs))

      pub pair-laid : {out o₁ o₂ : List ℕ} {p q r : ℕ} → Laid out q (value_bytes s pair) o₁ r → Laid o₁ p (front_bytes s pair) o₂ q → Laid out p (put_pair s pair) o₂ r
      pair-laid a b = laid_as (laid-swap a b) (sym (pair_is s pair))

      -- both counted
      pub pair-counted : {n : ℕ} → n ≡ min (sizes (dues_of l₂)) most → {p v r : ℕ} → v ≡ min (p + length (front_bytes s pair)) most → r ≡ min (v + n) most → Laid [] p (put_pair s pair) [] r
      unfolding most
      pair-counted size front end = laid-over (omega arith) (omega arith) (omega (arith, pair-length s pair, region-length))

      -- ── the block ends ──

      module _ {l₃ : List ℕ} (N : Next l₂ l₃) where
        closing : said t l₃ ≡ next_block (record { state = view t l₁; due = dues_of l₁; chunks = chunks_of l₁ ++ [] })
        unfolding next_block
        closing =
            (N.says t sized.now.holds).says
            ∙ ap (λ (g : Said). next_block g) sized.now.says
            ∙ rw (append-nil (chunks_of l₁)) refl

        pub pair-steady : Steady t l₃
        unfolding next_block closed
        pair-steady =
            record {
              holds = (N.says t sized.now.holds).holds;
              between = rw closing (closes F.sound F.past [] (omega arith));
              low = subst (λ (g : Said). Low 0 g.state.log) (sym closing) F.low;
              pooled = subst (λ (g : Said). Pooled g.state) (sym closing) (closed-pooled (view t l₁) F.pooled);
              listed = subst (λ (g : Said). Rattle.walk.specs.Listed.Listed g.state.fields) (sym closing) F.listed;
            }

        pub pair-says : view t l₃ ≡ hexed (closed s₂)
        unfolding next_block
        pair-says = ap (λ (g : Said). g.state) closing ∙ ap closed F.state ∙ closed-hexed s₂

        unfoldable pub pair-built :
            {out o : List ℕ} {p : ℕ} {k : Taken} → k.next ≡ next → next.at ≤ length t → view t l ≡ hexed s → Laid out p (put_pair s pair) o k.at
            → Built s t l at out p o k l₃
        unfolding next_block after_pair hexed closed
        pair-built {k = k} same inside before L =
            record {
              pair = pair;
              reads = rw same reads;
              laid = L;
              inside = rw same inside;
              steady = pair-steady;
              spelt = spelt-closed s₂ (spelt-front s S ss (each_back ss F.small) es);
              says = pair-says;
              block =
                  ap (λ (u : State). u.block) pair-says ∙ ap (λ (x : ℕ). x + 1) (front-block s ss es ∙ sym (ap (λ (u : State). u.block) before));
            }

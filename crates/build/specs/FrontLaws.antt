-- The ways out of reading the front of a listed pair, on plain values. Assumes nothing.
use Rattle.std.specs.Prelude.{◌≡◌, Bool, true, false, ◌&&◌, ℕ, ◌+◌, ◌≤◌, ◌<◌, drop}
use Rattle.std.proofs.Math.Path.{refl, sym, ap, subst}
use Rattle.std.proofs.Common.{◌∙◌, arith, length-take, length-drop}
use mathlib.Core.List.{List, [], ◌∷◌, ◌++◌, map, map-append}
use Rattle.std.proofs.Math.ListN.{length}
use Rattle.std.proofs.lemmas.List.{length-map}
use Rattle.std.proofs.Math.Seq.{drop-append_seam}
use Rattle.paper.specs.Reader.{got, no, times}
use Rattle.paper.specs.Bounds.{most_types}
use Rattle.paper.specs.Lists.{flat, fold, all}
use Rattle.paper.specs.Ledger.{New, Entry, State}
use Rattle.paper.specs.Rules.{small_rules, strings_rules, with_strings, after_head, after_new, after_entry, dues, kinds_stand?, after_front}
use Rattle.paper.specs.Listing.{hex, string_line}
use Rattle.paper.specs.Keeps.{number?, bytes?}
use Rattle.paper.specs.Scan.{read_pair, read_string, entry_text, pair_text}
use Rattle.laws.specs.Says.{Bytes}
use Rattle.laws.specs.Lines.{pair-says, string-kept}
use Rattle.laws.specs.Values.{repeat-kept}
use Rattle.laws.specs.Built.{entries-kept}
use Rattle.laws.specs.Hexed.{hexed, Spelt, each_back, strings_rules-hexed, with_strings-hexed, kinds_stand-hexed, dues-hexed, after_front-hexed, spelt-strings}
use Rattle.table.specs.View.{view, said, Said, strs_of, flds_of, log_of, dues_of, chunks_of, Holds, strings_in, fields_in, block_in}
use Rattle.reader.specs.Counting.{Keys}
use Rattle.reader.specs.Sound.{Sound}
use Rattle.reader.specs.Strings.{add_strings}
use Rattle.laws.specs.Pools.{Pooled, entries-pooled, strings-pooled}
use Rattle.lookups.specs.Low.{Low, entries-low}
use Rattle.walk.specs.Listed.{Listed, entries-listed}
use Rattle.walk.specs.Blocks.{block_of_range, front-block, front-past}
use Rattle.walk.specs.Stand.{stands?, AllStand, new-fields-stand}
use Rattle.walk.specs.PairLaws.{Steady}
use Rattle.judge.specs.Fields.{unsized}
use Rattle.puts.specs.Strings.{lines-longer}
use Rattle.build.specs.Strings.{Strung}
use Rattle.build.specs.Spelling.{entries_text-hexed}
use Rattle.build.specs.Fronts.{with_values, pair-no-entries, pair-no-kinds, pair-fronted}

-- what a pair asks of the text and of the table that the pairs before it left: there is a state that the table tells in hex
pub record PairAsks (t l : List ℕ) (at : ℕ) : Type 0 where
  pub state : State
  pub spelt : Spelt state
  pub says : view t l ≡ hexed state
  pub steady : Steady t l
  pub bytes : Bytes t
  pub inside : at ≤ length t
  pub block : block_in l < 32

-- in state s a front was read, of m entries from `from` up to `to`, and the table l became l'
pub record Fronted (t l : List ℕ) (s : State) (at m from to : ℕ) (l' : List ℕ) : Type 0 where
  pub strings : List (List ℕ)
  pub entries : List Entry
  pub reads : pair_text s t at ≡ with_values s strings entries t to
  pub lines : times m entry_text after_entry (with_strings s strings) t from ≡ got entries to
  pub many : length entries ≡ m
  pub small : all bytes? strings ≡ true
  pub few : length (flat (λ x. x) strings) < 4294967296
  pub spelt : drop (strings_in l) (strs_of t l') ≡ map hex strings
  pub state : view t l' ≡ hexed (after_front s strings entries)
  pub due : dues_of l' ≡ map unsized (dues (with_strings s strings) entries)
  pub chunks : chunks_of l' ≡ chunks_of l
  pub holds : Holds t l'
  pub sound : Sound (said t l')
  pub low : Low 0 (log_of l')
  pub pooled : Pooled (view t l')
  pub listed : Listed (flds_of l')
  pub past : Keys block_of_range (block_in l' + 1) (log_of l')
  pub begins : at ≤ length t
  pub inside : to ≤ length t

-- ── names in hex are as many ──

hexed-pooled : (s : State) → Pooled s → Pooled (hexed s)
unfolding hexed
hexed-pooled s P = record { even = length-map s.type_names hex ∙ P.even; sofar = P.sofar; pools = P.pools }

unhexed-pooled : (s : State) → Pooled (hexed s) → Pooled s
unfolding hexed
unhexed-pooled s P = record { even = sym (length-map s.type_names hex) ∙ P.even; sofar = P.sofar; pools = P.pools }

-- ── entries say nothing of strings ──

news-strings : (t : ℕ) (gs : List New) (s : State) → (fold (after_new t) s gs).strings ≡ s.strings
unfolding fold after_new
news-strings t [] s = refl
news-strings t (g ∷ gs) s = news-strings t gs (after_new t s g)

entries-strings : (es : List Entry) (s : State) → (fold after_entry s es).strings ≡ s.strings
unfolding fold after_entry after_head
entries-strings [] s = refl
entries-strings (e ∷ es) s = entries-strings es (after_entry s e) ∙ news-strings _ e.news (after_head s e.head)

-- ── the readings, over the state with its names in bytes ──

module _ {t l : List ℕ} {at : ℕ} (A : PairAsks t l at) (s : State) (S : Spelt s) (is : view t l ≡ hexed s) where
  pub few-hexed : (n m : ℕ) {b : Bool} → b ≡ (number? (strings_rules (view t l)) n && number? small_rules m) → b ≡ (number? (strings_rules s) n && number? small_rules m)
  unfolding number?
  few-hexed n m q = q ∙ rw (is, strings_rules-hexed s n) refl

  module _ {n m e₁ : ℕ} (h₁ : read_pair t at ≡ got (n, m) e₁) (h₂ : (number? (strings_rules s) n && number? small_rules m) ≡ true) {e₂ : ℕ} {l₁ : List ℕ} (D : Strung t l n e₁ e₂ l₁) where
    abbrev ss : List (List ℕ)
    ss = D.strings

    in₁ : e₁ ≤ length t
    in₁ = (pair-says.at t at (n, m) e₁ A.bytes A.inside h₁).inside

    in₂ : e₂ ≤ length t
    in₂ = ((repeat-kept read_string string_line bytes? string-kept n).at t e₁ ss e₂ A.bytes in₁ D.reads).inside

    pub strings-few : Holds t l → length (flat (λ x. x) ss) < 4294967296
    strings-few h =
        let K = (repeat-kept read_string string_line bytes? string-kept n).at t e₁ ss e₂ A.bytes in₁ D.reads in
        let long : length (flat string_line ss) ≤ length t = rw (K.said.0, length-take, length-drop) (omega arith) in
        omega (arith, lines-longer ss, h.small)

    strung-state : view t l₁ ≡ hexed (with_strings s ss)
    unfolding add_strings
    strung-state = ap (λ (g : Said). g.state) D.says ∙ rw is refl ∙ with_strings-hexed s ss

    spelt₁ : Spelt (with_strings s ss)
    spelt₁ = spelt-strings s S ss (each_back ss D.small)

    entries-as : (e : ℕ) → times m entry_text after_entry (view t l₁) t e ≡ times m entry_text after_entry (with_strings s ss) t e
    entries-as e = rw strung-state (entries_text-hexed m (with_strings s ss) spelt₁ t e)

    pub fronted-no-entries : times m entry_text after_entry (view t l₁) t e₂ ≡ no 20 0 → pair_text s t at ≡ no 20 0
    fronted-no-entries h = pair-no-entries s t at h₁ h₂ D.reads (sym (entries-as e₂) ∙ h)

    module _
        {es : List Entry} {e₃ : ℕ} (h₄ : times m entry_text after_entry (view t l₁) t e₂ ≡ got es e₃) {l₂ : List ℕ} (H : Holds t l₂)
        (says : said t l₂ ≡ record { state = fold after_entry (view t l₁) es; due = dues_of l₁ ++ map unsized (dues (view t l₁) es); chunks = chunks_of l₁ })
      where
        read : times m entry_text after_entry (with_strings s ss) t e₂ ≡ got es e₃
        read = sym (entries-as e₂) ∙ h₄

        unhexed : fold after_entry (view t l₁) es ≡ hexed (after_front s ss es)
        unfolding after_front
        unhexed = rw (strung-state, ← with_strings-hexed s ss) (after_front-hexed s S ss (each_back ss D.small) es)

        state-is : view t l₂ ≡ hexed (after_front s ss es)
        state-is = ap (λ (g : Said). g.state) says ∙ unhexed

        stood : {b : Bool} → AllStand l₂ (fields_in l) b → b ≡ kinds_stand? (after_front s ss es) es
        unfolding hexed
        stood T =
            let back : after_front (hexed s) (map hex ss) es ≡ view t l₂ = after_front-hexed s S ss (each_back ss D.small) es ∙ sym state-is in
            let count : fields_in l ≡ length (hexed s).fields = sym A.steady.holds.ok.flds-count ∙ ap (λ (u : State). length u.fields) is in
            let told : all (stands? (view t l₂)) (drop (fields_in l) (flds_of l₂)) ≡ kinds_stand? (view t l₂) es =
            rw count (subst (λ (u : State). all (stands? u) (drop (length (hexed s).fields) u.fields) ≡ kinds_stand? u es) back (new-fields-stand (hexed s) (map hex ss) es (few back))) in
            T.says t H ∙ told ∙ ap (λ (u : State). kinds_stand? u es) state-is ∙ kinds_stand-hexed (after_front s ss es) es
          where
            few : after_front (hexed s) (map hex ss) es ≡ view t l₂ → length (after_front (hexed s) (map hex ss) es).type_names ≤ most_types
            few back = rw back (omega (arith, H.names-count, H.ok.types-fit))

        pub fronted-no-kinds : AllStand l₂ (fields_in l) false → pair_text s t at ≡ no 20 0
        fronted-no-kinds T = pair-no-kinds s t at h₁ h₂ D.reads read (sym (stood T))

        pub fronted : AllStand l₂ (fields_in l) true → Sound (said t l₂) → Fronted t l s at m e₂ e₃ l₂
        unfolding hexed after_front with_strings add_strings
        fronted T sound =
            let K = (entries-kept m (with_strings s ss)).at t e₂ es e₃ A.bytes in₂ read in
            let kept = K.said.2 in
            let log : log_of l₂ ≡ (after_front s ss es).log = ap (λ (u : State). u.log) state-is in
            let flds : flds_of l₂ ≡ (after_front s ss es).fields = ap (λ (u : State). u.fields) state-is in
            let block : block_in l₂ ≡ s.block = ap (λ (u : State). u.block) state-is ∙ front-block s ss es in
            let low : Low 0 s.log = subst (λ (u : State). Low 0 u.log) is A.steady.low in
            let pooled : Pooled s = unhexed-pooled s (subst Pooled is A.steady.pooled) in
            let listed : Listed s.fields = subst (λ (u : State). Listed u.fields) is A.steady.listed in
            let past : Keys block_of_range s.block s.log = subst (λ (u : State). Keys block_of_range u.block u.log) is A.steady.between.past in
            let count : strings_in l ≡ length (map hex s.strings) = sym A.steady.holds.strs-count ∙ ap (λ (u : State). length u.strings) is in
            let strings : strs_of t l₂ ≡ map hex s.strings ++ map hex ss =
            ap (λ (u : State). u.strings) state-is ∙ ap (map hex) (entries-strings es (with_strings s ss)) ∙ map-append hex s.strings ss in
            record {
              strings = ss;
              entries = es;
              reads = pair-fronted s t at h₁ h₂ D.reads read (sym (stood T));
              lines = read;
              many = K.said.1;
              small = D.small;
              few = strings-few A.steady.holds;
              spelt = rw (count, strings) (drop-append_seam (map hex s.strings) (map hex ss));
              state = state-is;
              due =
                  ap (λ (g : Said). g.due) says
                  ∙ rw (ap (λ (g : Said). g.due) D.says, A.steady.between.none, strung-state) (ap (map unsized) (dues-hexed (with_strings s ss) spelt₁ es));
              chunks = ap (λ (g : Said). g.chunks) says ∙ ap (λ (g : Said). g.chunks) D.says;
              holds = H;
              sound = sound;
              low = rw log (entries-low es (with_strings s ss) kept low);
              pooled = subst Pooled (sym state-is) (hexed-pooled (after_front s ss es) (entries-pooled es (with_strings s ss) kept (strings-pooled s ss pooled)));
              listed = rw flds (entries-listed es (with_strings s ss) kept listed);
              past = rw (log, block) (front-past s ss es past);
              begins = A.inside;
              inside = K.inside;
            }

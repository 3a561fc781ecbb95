-- The lines of a pair, and of all pairs of an accepted file. Assumes nothing.
use Rattle.std.specs.Prelude.{Err, Ok, ◌≡◌, refl, ◌⊎◌, ℕ, zero, suc, ◌+◌, ◌-◌, ◌≤◌, ◌<◌, length}
use Rattle.std.proofs.Math.Path.{sym, ap}
use Rattle.std.proofs.Common.{◌∙◌, inl, inr, arith}
use mathlib.Core.List.{List, [], ◌∷◌, ◌++◌, append-nil}
use Rattle.paper.specs.Reader.{got, part, refuse, to_end}
use Rattle.paper.specs.Lists.{flat, last_or}
use Rattle.paper.specs.Ledger.{Entry, Pair, Ledger, Due, State}
use Rattle.paper.specs.Places.{Spot}
use Rattle.paper.specs.Rules.{any_type, with_strings, dues, closed, after_front, after_pair}
use Rattle.paper.specs.File.{Front, data_region, front, pair, pairs}
use Rattle.paper.specs.Listing.{print_chunk, print_pair, print_pairs}
use Rattle.laws.specs.Laws.{not-got, part-inv}
use Rattle.laws.specs.Longer.{AtEnd, Before, unless_end-inv}
use Rattle.laws.specs.Damage.{Parts, parts, Went, went-through}
use Rattle.lay.specs.Laid.{most, Laid, laid_then, laid_as, Leads, leads-start, leads-on, leads-end}
use Rattle.table.specs.View.{dues_of, chunks_of, view, said, Said, Ok as TableOk, block_in}
use Rattle.table.specs.Counts.{next_block, Next}
use Rattle.numbers.specs.declared.Cursor.{Cursor}
use Rattle.numbers.specs.declared.Refusal.{Refusal}
use Rattle.reader.specs.Sound.{Sound}
use Rattle.reader.specs.Kinds.{named_by}
use Rattle.reader.specs.Fields.{out_going}
use Rattle.reader.specs.Entries.{go_front, front_go}
use Rattle.walk.specs.Region.{chunks_at, region-is}
use Rattle.walk.specs.Blocks.{front-block}
use Rattle.walk.specs.RegionTurns.{RegionReady}
use Rattle.walk.specs.PairTurns.{WalkReady}
use Rattle.walk.specs.PairLaws.{Steady, PairReady, Fronted, fronted, size_is, state-is, dues-are, sizes-is, pair-ready, still-steady}
use Rattle.show.specs.declared.Behind.{Behind}
use Rattle.listing.specs.declared.entries.Printed.{Printed}
use Rattle.listing.specs.Fronts.{front_text, FrontDone}
use Rattle.listing.specs.Regions.{RegionPrinted}

-- ── a pair ──

-- the pair that stands there is accepted
pub record PairThere (f l : List ℕ) (at : ℕ) : Type 0 where
  pub own : Pair
  pub end : ℕ
  pub read : pair (view f l) f at ≡ got own end

-- it is read into the table, which becomes l', and stands as its lines
pub record PairText (f l l' : List ℕ) {at : ℕ} (K : PairThere f l at) (out : List ℕ) (o : ℕ) (m : List ℕ) (h : Behind) : Type 0 where
  pub text : Laid out o (print_pair (view f l) K.own) m h.at
  pub next : h.next.at ≡ K.end
  pub inside : K.end ≤ length f
  pub steady : Steady f l'
  pub state : view f l' ≡ after_pair (view f l) K.own
  pub block : block_in l' ≡ block_in l + 1

pub record PairPrinted (f l l' : List ℕ) (at : ℕ) (out : List ℕ) (o : ℕ) (m : List ℕ) (h : Behind) : Type 0 where
  pub printed : (K : PairThere f l at) → PairText f l l' K out o m h

module _ {f l : List ℕ} {at : ℕ} (R : PairReady f l at) {l₁ out : List ℕ} {o : ℕ} {m : List ℕ} {r : Printed} (D : FrontDone f l l₁ at out o m r) where
  -- the front is read
  read-so : {d : Front} {e : ℕ} → front any_type (view f l) f at ≡ got d e → out_going f l₁ r.read ≡ got (go_front (said f l) d) e
  unfolding front_go named_by
  read-so h = D.passed.says ∙ rw h

  pub pair-not-read : {e : Refusal} → r.read ≡ Err e → {l' : List ℕ} {m' : List ℕ} {h : Behind} → PairPrinted f l l' at out o m' h
  pair-not-read is = record { printed = λ K. not-got (ap (out_going f l₁) (sym is) ∙ read-so (parts (view f l) f at K.own K.end K.read).first) }

  module _ {size : ℕ} {c : Cursor} (is : r.read ≡ Ok (size, c)) where
    F : Fronted f l l₁ at size c.at
    F = fronted R D.passed is

    sound : Sound (said f l₁)
    sound = (rw is at D.passed).sound

    module _ (K : PairThere f l at) where
      abbrev P : Parts (view f l) f at K.own K.end
      P = parts (view f l) f at K.own K.end K.read

      same-front : got F.d c.at ≡ got P.d P.next
      same-front = sym F.is ∙ P.first

      d-is : F.d ≡ P.d
      d-is = cc same-front

      next-is : c.at ≡ P.next
      next-is = cc same-front

      -- its data region, from where the front ended
      region : data_region (after_front (view f l) F.d.strings F.d.entries) (dues (with_strings (view f l) F.d.strings) F.d.entries) F.d.ends f c.at ≡ got K.own.chunks K.end
      region = rw (d-is, next-is) P.region

      pub fits : c.at + size ≤ length f
      unfolding data_region
      fits = let Q = part-inv (last_or 0 F.d.ends) _ f c.at K.own.chunks K.end region in omega (arith, Q.room, size_is R F D.passed.holds sound)

      pub ends_there : K.end ≡ c.at + size
      unfolding data_region
      ends_there = let Q = part-inv (last_or 0 F.d.ends) _ f c.at K.own.chunks K.end region in omega (arith, Q.ends, size_is R F D.passed.holds sound)

      pub region-there : RegionReady f l₁ c.at
      region-there = pair-ready R F D.passed.holds sound fits

      chunks-read : chunks_at (view f l₁) (dues_of l₁) f c.at ≡ got K.own.chunks K.end
      unfolding data_region chunks_at
      chunks-read =
          let h = D.passed.holds in
          let n = last_or 0 F.d.ends in
          let s₂ = after_front (view f l) F.d.strings F.d.entries in
          sym (region-is (view f l₁) f c.at size fits (dues_of l₁) (sizes-is R F h sound fits))
          ∙ ap (λ (k : ℕ). part k (chunks_at (view f l₁) (dues_of l₁)) f c.at) (size_is R F h sound)
          ∙ ap (λ (u : State). part n (chunks_at u (dues_of l₁)) f c.at) (state-is R F h sound)
          ∙ ap (λ (ds : List (Due × ℕ)). part n (chunks_at s₂ ds) f c.at) (dues-are R F h sound)
          ∙ region

      -- the block ends, and the next pair can be read
      module _ {m₂ : List ℕ} {p : ℕ} (Q : RegionPrinted f l₁ c.at m r.at m₂ p) {l₃ : List ℕ} (N : Next l₁ l₃) where
        closing : said f l₃ ≡ next_block (record { state = view f l₁; due = dues_of l₁; chunks = chunks_of l₁ ++ [] })
        closing = (N.says f D.passed.holds).says ∙ ap (λ (x : List Spot). next_block (record { state = view f l₁; due = dues_of l₁; chunks = x })) (sym (append-nil (chunks_of l₁)))

        state-after : view f l₃ ≡ after_pair (view f l) K.own
        unfolding next_block after_pair
        state-after =
            ap (λ (x : Said). x.state) closing
            ∙ ap closed (state-is R F D.passed.holds sound)
            ∙ ap (λ (x : Front). closed (after_front (view f l) x.strings x.entries)) d-is
            ∙ ap (λ (x : List (List ℕ)). closed (after_front (view f l) x P.d.entries)) (sym P.strings)
            ∙ ap (λ (x : List Entry). closed (after_front (view f l) K.own.strings x)) (sym P.entries)

        text-there : Laid out o (print_pair (view f l) K.own) m₂ p
        unfolding print_pair front_text
        text-there =
            laid_as (laid_then (D.text P.d P.next P.first) (Q.text K.own.chunks K.end chunks-read))
            (ap (λ (x : List (List ℕ)). front_text (view f l) (record { strings = x; entries = P.d.entries; ends = P.d.ends }) ++ flat print_chunk K.own.chunks) (sym P.strings)
            ∙ ap (λ (x : List Entry). front_text (view f l) (record { strings = K.own.strings; entries = x; ends = P.d.ends }) ++ flat print_chunk K.own.chunks) (sym P.entries))

        block-after : block_in l₃ ≡ block_in l + 1
        unfolding next_block closed
        block-after =
            ap (λ (x : Said). x.state.block) closing
            ∙ ap (λ (u : State). u.block + 1) (state-is R F D.passed.holds sound)
            ∙ ap (λ (n : ℕ). n + 1) (front-block (view f l) F.d.strings F.d.entries)

        pair-text : {c₂ : Cursor} → c₂.at ≡ c.at + size → PairText f l l₃ K out o m₂ (record { next = c₂; at = p })
        pair-text there =
            record {
              text = text-there;
              next = there ∙ sym ends_there;
              inside = omega (arith, ends_there, fits);
              steady = still-steady R F D.passed.holds sound fits [] (omega arith) (N.says f D.passed.holds).holds closing;
              state = state-after;
              block = block-after;
            }

    pub pair-printed :
        {m₂ : List ℕ} {p : ℕ} → RegionPrinted f l₁ c.at m r.at m₂ p → {l₃ : List ℕ} → Next l₁ l₃ → {c₂ : Cursor} → c₂.at ≡ c.at + size
        → PairPrinted f l l₃ at out o m₂ (record { next = c₂; at = p })
    pair-printed Q N there = record { printed = λ K. pair-text K Q N there }

    -- what ending the block asks
    pub block-ends : TableOk l₁ × (block_in l₁ < 4294967295)
    block-ends = (D.passed.holds.ok, omega (arith, sound.block))

-- ── all pairs ──

-- at most n pairs are there, up to the end of the file
pub record PairsThere (f l : List ℕ) (n at : ℕ) : Type 0 where
  pub ledger : Ledger
  pub end : ℕ
  pub read : pairs n (view f l) f at ≡ got ledger end

pub record PairsPrinted (f l : List ℕ) (out : List ℕ) (o : ℕ) (m : List ℕ) (r : ℕ) : Type 0 where
  pub text : (K : PairsThere f l 32 0) → Laid out o (print_pairs (view f l) K.ledger) m r

-- what is left to print from here gives the whole
pub record PairsLeft (f l₀ l : List ℕ) (K : PairsThere f l₀ 32 0) (place left : ℕ) (out : List ℕ) (o : ℕ) (m : List ℕ) (p : ℕ) : Type 0 where
  pub ready : Steady f l
  pub inside : place ≤ length f
  pub block : block_in l + left ≡ 32
  pub more : PairsThere f l left place
  pub leads : Leads out o (print_pairs (view f l₀) K.ledger) m p (print_pairs (view f l) more.ledger)

pub record PairsPrinting (f l₀ l : List ℕ) (place left : ℕ) (out : List ℕ) (o : ℕ) (m : List ℕ) (p : ℕ) : Type 0 where
  pub long : length m ≡ length out
  pub table : length l ≡ length l₀
  pub left-to : (K : PairsThere f l₀ 32 0) → PairsLeft f l₀ l K place left out o m p

pub pairs_start : {f l : List ℕ} → WalkReady f l → (out : List ℕ) (o : ℕ) → length out ≤ most → o ≤ most → PairsPrinting f l l 0 32 out o out o
pairs_start R out o a b =
    record {
      long = refl;
      table = refl;
      left-to = λ K. record { ready = R.steady; inside = omega arith; block = omega (arith, R.block); more = K; leads = leads-start a b };
    }

-- the next of them, before the end
record OneMore (f l : List ℕ) (n at : ℕ) (K : PairsThere f l n at) : Type 0 where
  one : PairThere f l at
  rest : Ledger
  reads : pairs (n - 1) (after_pair (view f l) one.own) f one.end ≡ got rest K.end
  is : K.ledger ≡ one.own ∷ rest

none_at_all : (f : List ℕ) (s : State) (at : ℕ) (ps : Ledger) (e : ℕ) → at < length f → pairs 0 s f at ≡ got ps e → ⊥
unfolding pairs to_end refuse
none_at_all f s at ps e lt q = go (unless_end-inv [] (refuse 3) f at ps e q)
  where
    go : AtEnd [] f at ps e ⊎ Before (refuse 3) f at ps e → ⊥
    go (inl a) = omega (arith, a.after)
    go (inr b) = not-got b.reads

one_more : (f l : List ℕ) (n at : ℕ) (K : PairsThere f l n at) → at < length f → OneMore f l n at K
one_more f l zero at K lt = absurd (none_at_all f (view f l) at K.ledger K.end lt K.read)
one_more f l (suc n) at K lt = go (went-through n (view f l) f at K.ledger K.end K.read)
  where
    go : Went n (view f l) f at K.ledger K.end → OneMore f l (suc n) at K
    go (Went.ended x y) = absurd (omega arith)
    go (Went.went p m ps lt pr rest y) =
        let less : suc n - 1 ≡ n = omega arith in
        record { one = record { own = p; end = m; read = pr }; rest = ps; reads = rw less rest; is = y }

-- at the end there are none
no_more : (f : List ℕ) (s : State) (n at : ℕ) (ps : Ledger) (e : ℕ) → length f ≤ at → pairs n s f at ≡ got ps e → ps ≡ []
unfolding pairs to_end refuse
no_more f s zero at ps e le q = go (unless_end-inv [] (refuse 3) f at ps e q)
  where
    go : AtEnd [] f at ps e ⊎ Before (refuse 3) f at ps e → ps ≡ []
    go (inl a) = a.same
    go (inr b) = not-got b.reads
no_more f s (suc n) at ps e le q = go (went-through n s f at ps e q)
  where
    go : Went n s f at ps e → ps ≡ []
    go (Went.ended x y) = y
    go (Went.went p m qs lt pr rest y) = absurd (omega arith)

module _ {f l₀ l : List ℕ} {place left : ℕ} {out : List ℕ} {o : ℕ} {m : List ℕ} {p : ℕ} (g : PairsPrinting f l₀ l place left out o m p) where
  pub pairs-done : length f ≤ place → PairsPrinted f l₀ out o m p
  unfolding print_pairs
  pairs-done le =
      record {
        text = λ K.
            let B = g.left-to K in
            let z = no_more f (view f l) left place B.more.ledger B.more.end le B.more.read in
            leads-end B.leads (ap (print_pairs (view f l)) z);
      }

  module _ (lt : place < length f) where
    pub pairs-too-many : left ≡ 0 → PairsPrinted f l₀ out o m p
    pairs-too-many z =
        record {
          text = λ K.
              let B = g.left-to K in
              absurd (none_at_all f (view f l) place B.more.ledger B.more.end lt (rw z at B.more.read));
        }

    pub pair-asks : WalkReady f l₀ → (left ≡ 0 → ⊥) → PairsThere f l₀ 32 0 → PairReady f l place × PairThere f l place
    pair-asks R some K =
        let B = g.left-to K in (
          record { steady = B.ready; bytes = R.bytes; small = R.small; inside = B.inside; block = omega (arith, B.block) },
          (one_more f l left place B.more lt).one,
        )

    pub pairs-on :
        {l' m₂ : List ℕ} {h : Behind} → (left ≡ 0 → ⊥) → length l' ≡ length l → length m₂ ≡ length m → PairPrinted f l l' place m p m₂ h
        → PairsPrinting f l₀ l' h.next.at (left - 1) out o m₂ h.at
    unfolding print_pairs
    pairs-on {l'} {m₂} {h} some table kept Q =
        record {
          long = kept ∙ g.long;
          table = table ∙ g.table;
          left-to = λ K.
              let B = g.left-to K in
              let M = one_more f l left place B.more lt in
              let T = Q.printed M.one in
              let split : print_pairs (view f l) B.more.ledger ≡ print_pair (view f l) M.one.own ++ print_pairs (view f l') M.rest =
              ap (print_pairs (view f l)) M.is ∙ ap (λ (u : State). print_pair (view f l) M.one.own ++ print_pairs u M.rest) (sym T.state) in
              record {
                ready = T.steady;
                inside = rw T.next T.inside;
                block = omega (arith, T.block, B.block);
                more =
                    record {
                      ledger = M.rest;
                      end = B.more.end;
                      read =
                          ap (λ (u : State). pairs (left - 1) u f h.next.at) T.state
                          ∙ ap (pairs (left - 1) (after_pair (view f l) M.one.own) f) T.next
                          ∙ M.reads;
                    };
                leads = leads-on B.leads split T.text;
              };
        }

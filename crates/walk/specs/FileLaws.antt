-- A whole file, read into a table that knew nothing: what the table then says. Assumes nothing.
use Rattle.std.proofs.Math.Path.{◌≡◌, refl, sym, ap, subst}
use Rattle.std.proofs.Common.{◌∙◌, le-leb}
use Rattle.std.specs.Prelude.{Err, Ok, List, [], ◌∷◌, ℕ, suc, ◌≤◌, ◌<◌, length, get_or}
use native.Mathlib.Omega.{arith}
use Rattle.std.proofs.lemmas.Bool.{lt-leb}
use Rattle.paper.specs.Reader.{when◌then◌else◌, Out, got, no, turned}
use Rattle.paper.specs.Bounds.{most_bytes}
use Rattle.paper.specs.Ledger.{Ledger, nothing, of?}
use Rattle.paper.specs.File.{file}
use Rattle.paper.specs.Places.{spots}
use Rattle.paper.specs.Calls.{known}
use Rattle.laws.specs.Says.{Bytes}
use Rattle.table.specs.View.{view, said, Said}
use Rattle.table.specs.Counts.{begun, Begun}
use Rattle.reader.specs.Counting.{count_none}
use Rattle.walk.specs.Pairs.{pairs_to, said_of, pairs-are}
use Rattle.laws.specs.Pools.{Pooled, nothing-pooled}
use Rattle.lookups.specs.Low.{Low}
use Rattle.walk.specs.Listed.{Listed}
use Rattle.walk.specs.PairLaws.{Steady, out_said}
use Rattle.walk.specs.PairTurns.{WalkReady, WalkDone}
use Rattle.numbers.specs.Cursors.{Step}
use Rattle.numbers.specs.Faults.{number_of}
use Rattle.numbers.specs.declared.Fault.TheVariants as fault

-- ── what reading a file comes to ──

-- the table says what is known of the ledger, and where each chunk stands
pub record Accepted (f l : List ℕ) (at : ℕ) : Type 0 where
  pub ledger : Ledger
  pub read : file f ≡ got ledger at
  pub steady : Steady f l
  pub says : said f l ≡ record { state = known ledger; due = []; chunks = spots f }

abbrev pub ToldFile : List ℕ → List ℕ → Step → Type 0
ToldFile f l (Ok c) = Accepted f l c.at
ToldFile f l (Err e) = file f ≡ no (number_of e.fault) e.place

pub record FileRead (f l : List ℕ) (r : Step) : Type 0 where
  pub told : ToldFile f l r

-- ── a file that is too long ──

pub file-long : {f l : List ℕ} → 1048576 < length f → FileRead f l (Err (record { fault = fault.Limit; place = 0 }))
unfolding file when◌then◌else◌
file-long {f} lt = record { told = rw (lt-leb (length f) most_bytes lt) }

-- ── the others ──

-- a slice's numbers, as they are known one by one
pub all-bytes : (f : List ℕ) → ((i : ℕ) → get_or f i 0 < 256) → Bytes f
all-bytes [] h = tt
all-bytes (b ∷ f) h = (h 0, all-bytes f (λ i. h (suc i)))

module _ (f : List ℕ) {l : List ℕ} (lt : length f < 66000000) (B : Begun l) where
  now-begun : said f l ≡ begun
  now-begun = (B.says f lt).says

  -- a table that knows nothing, over bytes whose places fit its cells
  pub steady-begun : Steady f l
  unfolding begun nothing
  steady-begun =
      record {
        holds = (B.says f lt).holds;
        between = rw now-begun (record { block = omega arith; names = omega arith; flds = omega arith; known = tt; past = tt; room = omega arith; spread = λ t. omega (arith, count_none (of? t)); none = refl; chunks = omega arith });
        low = subst (λ (s : Said). Low 0 s.state.log) (sym now-begun) tt;
        pooled = subst (λ (s : Said). Pooled s.state) (sym now-begun) nothing-pooled;
        listed = subst (λ (s : Said). Listed s.state.fields) (sym now-begun) tt;
      }

  pub state-begun : view f l ≡ nothing
  unfolding begun
  state-begun = ap (λ (s : Said). s.state) now-begun

module _ (f : List ℕ) {l : List ℕ} (le : length f ≤ 1048576) (B : Begun l) where
  small : length f < 66000000
  small = omega arith

  pub walk-ready : Bytes f → WalkReady f l
  unfolding begun nothing
  walk-ready b = record { steady = steady-begun f small B; bytes = b; small = le; block = ap (λ (s : Said). s.state.block) (now-begun f small B) }

  file-is : turned (said_of 32 begun f 0) (file f) ≡ pairs_to 32 (said f l) f 0
  unfolding file when◌then◌else◌ begun
  file-is = rw (le-leb (length f) most_bytes le, now-begun f small B) (sym (pairs-are 32 begun f 0 refl))

  pub file-read : {l' : List ℕ} {r : Step} → WalkDone f l l' r → FileRead f l' r
  unfolding said_of begun known spots
  file-read {l'} {r} D = record { told = go r (file f) refl (D.says ∙ sym file-is) D.steady }
    where
      go : (r : Step) (o : Out Ledger) → file f ≡ o → out_said f l' r ≡ turned (said_of 32 begun f 0) o → Rattle.walk.specs.PairLaws.SteadyAfter f l' r → ToldFile f l' r
      go (Ok c) (got ledger e) is q s = let z : c.at ≡ e = cc q in record { ledger = ledger; read = is ∙ ap (got ledger) (sym z); steady = s.0; says = cc q }
      go (Ok c) (no k p) is q s = let z : ◌≡◌ {A = ℕ} 0 1 = cc q in absurd (omega arith)
      go (Err e) (got ledger m) is q s = let z : ◌≡◌ {A = ℕ} 0 1 = cc q in absurd (omega arith)
      go (Err e) (no k p) is q s = is ∙ cc (sym q)

-- What is told of a listed head that was held to the rules. Assumes nothing.
use Rattle.std.specs.Prelude as prelude
use Rattle.std.specs.Prelude.{Some, None, ◌≡◌, Bool, true, false, List, ℕ, ◌<◌}
use Rattle.std.proofs.Math.Option.{Option}
use Rattle.paper.specs.Reader.{Reader, got, no, ◌>>=◌, ◌>>◌, give}
use Rattle.paper.specs.Ledger.{State, Head}
use Rattle.paper.specs.Rules.{small_rules, new?, type_of, super_name_rules, super_of}
use Rattle.paper.specs.Keeps.{only?, head?}
use Rattle.paper.specs.Scan.{heed, read_type}
use Rattle.words.specs.Answers.{Scanned}
use Rattle.table.specs.View.{view, maybe, Holds}
use Rattle.reader.specs.Heads.{due, head_of, Placed, Entered}
use Rattle.reader.specs.declared.heads.Name.{Name}
use Rattle.reader.specs.declared.heads.Super.{Super}
use Rattle.reader.specs.declared.heads.Top.{Top}

-- ── the super type of the entry's type x, listed as o ──

abbrev pub super_kept? : State → ℕ → Option ℕ → Bool
super_kept? s n o = only? (new? s n) (super_name_rules s (type_of s n)) o

pub record SuperKept (s : State) (x : Name) (o : Option ℕ) (y : Super) : Type 0 where
  pub keeps : super_kept? s x.number o ≡ true
  pub same : due x.fresh y.number ≡ o
  pub up : maybe y.up ≡ super_of s x.number o

abbrev pub ToldSuper : State → Name → Option ℕ → prelude.Option Super → Type 0
ToldSuper s x o (Some y) = SuperKept s x o y
ToldSuper s x o None = super_kept? s x.number o ≡ false

pub record SuperTold (s : State) (x : Name) (o : Option ℕ) (r : prelude.Option Super) : Type 0 where
  pub told : ToldSuper s x o r

-- ── the local start, listed as o, which is due or not ──

pub record StartKept (b : Bool) (o : Option ℕ) (n : ℕ) : Type 0 where
  pub keeps : only? b small_rules o ≡ true
  pub same : due b n ≡ o
  pub below : n < 65536
  pub none : b ≡ false → n ≡ 0

abbrev pub ToldStart : Bool → Option ℕ → prelude.Option ℕ → Type 0
ToldStart b o (Some n) = StartKept b o n
ToldStart b o None = only? b small_rules o ≡ false

pub record StartTold (b : Bool) (o : Option ℕ) (r : prelude.Option ℕ) : Type 0 where
  pub told : ToldStart b o r

-- ── the head h ──

pub record HeadKept (s : State) (h : Head) (top : Top) : Type 0 where
  pub keeps : head? s h ≡ true
  pub same : head_of top ≡ h
  pub placed : Placed s top

abbrev pub JudgedHead : State → Head → prelude.Option Top → Type 0
JudgedHead s h (Some top) = HeadKept s h top
JudgedHead s h None = head? s h ≡ false

pub record HeadJudged (s : State) (h : Head) (r : prelude.Option Top) : Type 0 where
  pub told : JudgedHead s h r

-- ── a head that is read from a text, and entered ──

-- a head that keeps the rules, and its number of fields
unfoldable pub kept_type : State → Reader (Head × ℕ)
kept_type s = do
  h ← read_type
  heed (head? s h.0)
  give h

-- the head `top` with n fields stands in the text t, and the table l became l'
pub record HeadGot (t l : List ℕ) (at : ℕ) (top : Top) (n next : ℕ) (l' : List ℕ) : Type 0 where
  pub head : Head
  pub read : read_type t at ≡ got (head, n) next
  pub keeps : head? (view t l) head ≡ true
  pub same : head_of top ≡ head
  pub entered : Entered t l l' top

-- no head that keeps the rules stands there
pub record HeadBad (t l : List ℕ) (at : ℕ) (l' : List ℕ) : Type 0 where
  pub read : kept_type (view t l) t at ≡ no 20 0
  pub holds : Holds t l'

abbrev pub ToldHead : List ℕ → List ℕ → ℕ → Scanned (Top × ℕ) → List ℕ → Type 0
ToldHead t l at (Some ((top, n), next)) l' = HeadGot t l at top n next.at l'
ToldHead t l at None l' = HeadBad t l at l'

pub record HeadTold (t l : List ℕ) (at : ℕ) (r : Scanned (Top × ℕ)) (l' : List ℕ) : Type 0 where
  pub told : ToldHead t l at r l'

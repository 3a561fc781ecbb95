-- The strings of a listed pair: the table has them as they stand in the text, in hex. Assumes nothing.
use Rattle.std.specs.Prelude as prelude
use Rattle.std.specs.Prelude.{None, Some, ◌≡◌, refl, true, List, [], ◌∷◌, ◌++◌, map, ℕ, ◌+◌, ◌-◌, ◌≤◌, ◌<◌, length}
use Rattle.std.proofs.Common.{sym, ap, ◌∙◌, append_assoc, append-nil, arith}
use Rattle.std.proofs.lemmas.List.{map-append}
use Rattle.std.proofs.Math.Seq.{slice}
use Rattle.paper.specs.Reader.{got, no, and_then, repeat}
use Rattle.paper.specs.Lists.{all}
use Rattle.paper.specs.Listing.{hex}
use Rattle.paper.specs.Keeps.{bytes?}
use Rattle.paper.specs.Rules.{with_strings}
use Rattle.paper.specs.Scan.{read_string}
use Rattle.laws.specs.Bools.{and_split, and-join}
use Rattle.laws.specs.Loops.{alone, one_on}
use Rattle.table.specs.View.{said, Said, Holds, Now, strings_in}
use Rattle.table.specs.Adds.{add_string}
use Rattle.table.specs.Pushes.{Pushed}
use Rattle.table.specs.ViewLaws.{pushed-string}
use Rattle.words.specs.declared.read.Place.{Place}
use Rattle.parse.specs.Answers.{StringAt, StringReads}
use Rattle.reader.specs.Strings.{add_strings}
use Rattle.texts.specs.Exact.{repeat-some, repeat-over}
use Rattle.words.specs.Answers.{Scanned}
use Rattle.parse.specs.declared.StringLine.{StringLine}

-- n strings were read, up to m, and the table l became l'
pub record Strung (t l : List ℕ) (n at m : ℕ) (l' : List ℕ) : Type 0 where
  pub strings : List (List ℕ)
  pub reads : repeat n read_string t at ≡ got strings m
  pub small : all bytes? strings ≡ true
  pub says : said t l' ≡ add_strings (said t l) (map hex strings)

abbrev pub StrungBy : List ℕ → List ℕ → ℕ → ℕ → prelude.Option Place → List ℕ → Type 0
StrungBy t l n at (Some c) l' = Strung t l n at c.at l'
StrungBy t l n at None l' = repeat n read_string t at ≡ no 20 0

pub record StringsTold (t l : List ℕ) (n at : ℕ) (r : prelude.Option Place) (l' : List ℕ) : Type 0 where
  pub holds : Holds t l'
  pub told : StrungBy t l n at r l'

-- ── line after line: what is left to read from here gives the whole ──

pub record Stringing (t l₀ : List ℕ) (n at₀ : ℕ) (l : List ℕ) (rest at : ℕ) : Type 0 where
  pub holds : Holds t l
  pub long : length l ≡ length l₀
  pub room : strings_in l + rest ≤ 1024
  pub done : List (List ℕ)
  pub reads : repeat n read_string t at₀ ≡ and_then (repeat rest read_string t at) (λ more q. got (done ++ more) q)
  pub small : all bytes? done ≡ true
  pub says : said t l ≡ add_strings (said t l₀) (map hex done)

none-added : (g : Said) → g ≡ add_strings g []
unfolding add_strings with_strings
none-added g = rw (append-nil g.state.strings)

one-added : (g : Said) (ss : List (List ℕ)) (x : List ℕ) → add_string (add_strings g ss) x ≡ add_strings g (ss ++ x ∷ [])
unfolding add_strings with_strings add_string
one-added g ss x = rw (append_assoc g.state.strings ss (x ∷ []))

all_snoc : (done : List (List ℕ)) (x : List ℕ) → all bytes? done ≡ true → bytes? x ≡ true → all bytes? (done ++ x ∷ []) ≡ true
unfolding all
all_snoc [] x h k = rw k
all_snoc (y ∷ done) x h k = let (a, b) = and_split (bytes? y) (all bytes? done) h in and-join a (all_snoc done x b k)

pub stringing-start : {t l : List ℕ} → Holds t l → {n : ℕ} → strings_in l + n ≤ 1024 → (at : ℕ) → Stringing t l n at l n at
unfolding all
stringing-start {t} {l} h {n} room at =
    record { holds = h; long = refl; room = room; done = []; reads = alone (repeat n read_string t at); small = refl; says = none-added (said t l) }

module _ {t l₀ : List ℕ} {n at₀ : ℕ} {l : List ℕ} {rest at : ℕ} (g : Stringing t l₀ n at₀ l rest at) where
  module _ (due : 0 < rest) where
    module _ {a : Scanned StringLine} (read : StringReads t at a) where
      pub stringing-bad : a ≡ None → StringsTold t l₀ n at₀ None l
      stringing-bad is = let R = rw is at read.says in record { holds = g.holds; told = g.reads ∙ rw (repeat-some read_string t at rest due, R) }

      module _ {start end : ℕ} {next : Place} (is : a ≡ Some (record { from = start; to = end }, next)) where
        there : StringAt t at start end next.at
        there = rw is at read.says

        pub string-places : (start < 4294967296) × (end < 4294967296)
        string-places = (omega (arith, there.forward, there.inside, g.holds.small), omega (arith, there.inside, g.holds.small))

        pub stringing-next : {l₁ : List ℕ} → Pushed 0 16 2 (start ∷ end ∷ []) l l₁ → length l₁ ≡ length l → Stringing t l₀ n at₀ l₁ (rest - 1) next.at
        stringing-next {l₁} p same =
            let now : Now t l₁ (add_string (said t l) (slice start end t)) = pushed-string g.holds (omega (arith, g.room)) (omega (arith, there.forward, there.inside)) there.inside p.push in
            record {
              holds = now.holds;
              long = same ∙ g.long;
              room = omega (arith, g.room, p.strings);
              done = g.done ++ there.bytes ∷ [];
              reads = g.reads ∙ rw (repeat-some read_string t at rest due, there.read) (one_on g.done there.bytes (repeat (rest - 1) read_string t next.at));
              small = all_snoc g.done there.bytes g.small there.small;
              says =
                  now.says
                  ∙ rw (g.says, there.spelt) (one-added (said t l₀) (map hex g.done) (hex there.bytes))
                  ∙ ap (add_strings (said t l₀)) (sym (map-append hex g.done (there.bytes ∷ [])));
            }

  pub stringing-done : rest ≤ 0 → StringsTold t l₀ n at₀ (Some (record { at = at })) l
  stringing-done z =
      let over : rest ≡ 0 = omega arith in
      record {
        holds = g.holds;
        told = record { strings = g.done; reads = g.reads ∙ rw (over, repeat-over read_string t at, append-nil g.done); small = g.small; says = g.says };
      }

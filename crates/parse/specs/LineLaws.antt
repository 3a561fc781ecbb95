-- The ways out of the readers of a pair's line and of a type's, on plain values. Both end with two numbers. Assumes nothing.
use Rattle.std.specs.Prelude.{◌≡◌, refl, List, ℕ}
use Rattle.std.proofs.Math.Option.{Option}
use Rattle.paper.specs.Reader.{Out, got, no as bad, and_then, turned, ◌>>=◌, ◌>>◌, give}
use Rattle.paper.specs.Ledger.{Head}
use Rattle.paper.specs.Listing.{ascii, tab, newline}
use Rattle.paper.specs.Scan.{literal, ended, natural, or_none, read_pair, read_type}
use Rattle.parse.specs.Answers.{read_two}

-- ── two numbers ──

module _ (t : List ℕ) (at : ℕ) where
  pub two-no-first : bad 20 0 ≡ ended tab natural t at → bad 20 0 ≡ read_two t at
  unfolding read_two ◌>>=◌
  two-no-first h = rw (← h)

  module _ {a p : ℕ} (first : got a p ≡ ended tab natural t at) where
    pub two-no-second : bad 20 0 ≡ ended newline natural t p → bad 20 0 ≡ read_two t at
    unfolding read_two ◌>>=◌
    two-no-second h = rw (← first, ← h)

    pub two-got : {b e : ℕ} → got b e ≡ ended newline natural t p → got (a, b) e ≡ read_two t at
    unfolding read_two ◌>>=◌ give
    two-got h = rw (← first, ← h)

-- of which a line makes something
two_made :
    {A : Type 0} (g : ℕ → ℕ → A) (t : List ℕ) (at : ℕ)
    → (ended tab natural >>= λ a. ended newline natural >>= λ b. give (g a b)) t at ≡ turned (λ (x : ℕ × ℕ). g x.0 x.1) (read_two t at)
unfolding read_two ◌>>=◌ give
two_made {A} g t at = go (ended tab natural t at)
  where
    second : (a : ℕ) (o : Out ℕ) → and_then o (λ b e. got (g a b) e) ≡ turned (λ (x : ℕ × ℕ). g x.0 x.1) (and_then o (λ b e. got (a, b) e))
    second a (got b e) = refl
    second a (bad n p) = refl

    go :
        (o : Out ℕ)
        → and_then o (λ a e. and_then (ended newline natural t e) (λ b e. got (g a b) e))
        ≡ turned (λ (x : ℕ × ℕ). g x.0 x.1) (and_then o (λ a e. and_then (ended newline natural t e) (λ b e. got (a, b) e)))
    go (got a e) = second a (ended newline natural t e)
    go (bad n p) = refl

-- ── pair ──

module _ (t : List ℕ) (at : ℕ) where
  pub pair-not : bad 20 0 ≡ literal (ascii "pair\t") t at → bad 20 0 ≡ read_pair t at
  unfolding read_pair ◌>>◌
  pair-not h = rw (← h)

  pub pair-two : {p : ℕ} {o : Out (ℕ × ℕ)} → got tt p ≡ literal (ascii "pair\t") t at → o ≡ read_two t p → o ≡ read_pair t at
  unfolding read_pair read_two ◌>>◌
  pair-two word h = rw (← word) h

-- ── type ──

module _ (t : List ℕ) (at : ℕ) where
  pub type-not : bad 20 0 ≡ literal (ascii "type\t") t at → bad 20 0 ≡ read_type t at
  unfolding read_type ◌>>◌
  type-not h = rw (← h)

  module _ {p : ℕ} (word : got tt p ≡ literal (ascii "type\t") t at) where
    pub type-no-name : bad 20 0 ≡ ended tab natural t p → bad 20 0 ≡ read_type t at
    unfolding read_type ◌>>=◌ ◌>>◌
    type-no-name h = rw (← word, ← h)

    module _ {name q : ℕ} (called : got name q ≡ ended tab natural t p) where
      pub type-no-super : bad 20 0 ≡ ended tab or_none t q → bad 20 0 ≡ read_type t at
      unfolding read_type ◌>>=◌ ◌>>◌
      type-no-super h = rw (← word, ← called, ← h)

      module _ {super : Option ℕ} {s : ℕ} (above : got super s ≡ ended tab or_none t q) where
        pub type-no-start : bad 20 0 ≡ ended tab or_none t s → bad 20 0 ≡ read_type t at
        unfolding read_type ◌>>=◌ ◌>>◌
        type-no-start h = rw (← word, ← called, ← above, ← h)

        module _ {start : Option ℕ} {e : ℕ} (local : got start e ≡ ended tab or_none t s) where
          head_with : ℕ → ℕ → Head × ℕ
          head_with count n = (record { name = name; super = super; start = start; count = count }, n)

          type-two : read_type t at ≡ turned (λ (x : ℕ × ℕ). head_with x.0 x.1) (read_two t e)
          unfolding read_type ◌>>=◌ ◌>>◌ head_with
          type-two = rw (← word, ← called, ← above, ← local) (two_made head_with t e)

          pub type-no-numbers : bad 20 0 ≡ read_two t e → bad 20 0 ≡ read_type t at
          type-no-numbers h = rw (type-two, ← h)

          pub type-got :
              {count n d : ℕ} → got (count, n) d ≡ read_two t e → got (record { name = name; super = super; start = start; count = count }, n) d ≡ read_type t at
          unfolding head_with
          type-got h = rw (type-two, ← h)

-- A text is read the same whether the names that are known stand in bytes or in hex. Assumes nothing.
use Rattle.std.specs.Prelude.{◌≡◌, Bool, ◌&&◌, List, [], ◌∷◌, ltb, length}
use Rattle.std.proofs.Math.Path.{refl, ap, fun_ext}
use Rattle.std.proofs.Common.{sym, ◌∙◌}
use Prim.Native.Nat.{ℕ, zero, suc, ◌-◌, ◌^◌}
use Rattle.paper.specs.Reader.{Reader, Out, got, no, and_then, ◌>>=◌, ◌>>◌, give, each, times, repeat}
use Rattle.paper.specs.Ledger.{Element, New, Head, Entry, Chunk, Due, State, field_at}
use Rattle.paper.specs.Rules.{type_of, after_head, known_due, field_count_rules, after_new, after_entry}
use Rattle.paper.specs.Listing.{old_line}
use Rattle.paper.specs.Pieces.{chunk_pieces}
use Rattle.paper.specs.Encode.{put_chunk, put_chunks}
use Rattle.paper.specs.Keeps.{number?, hold?, head?}
use Rattle.paper.specs.Scan.{heed, literal, read_type, read_new, read_line, new_text, entry_text, value_text, chunk_text}
use Rattle.laws.specs.Hexed.{hexed, Spelt, head-hexed, known_due-hexed, type_of-hexed, after_head-hexed, field_count_rules-hexed, new-field-hexed, after_new-hexed, after_entry-hexed, spelt-head, spelt-new, spelt-entry, field_at-hexed, value-hexed}

-- ── so many readings, each of which is the same ──

module _
    {A : Type 0} (read : State → Reader A) (after : State → A → State) (t : List ℕ)
    (same : (s : State) → Spelt s → (at : ℕ) → read (hexed s) t at ≡ read s t at)
    (goes : (s : State) → Spelt s → (a : A) → after (hexed s) a ≡ hexed (after s a))
    (spelt : (s : State) → Spelt s → (a : A) → Spelt (after s a))
  where
    times-hexed : (n : ℕ) (s : State) → Spelt s → (at : ℕ) → times n read after (hexed s) t at ≡ times n read after s t at
    unfolding times each give ◌>>=◌
    times-hexed zero s S at = refl
    times-hexed (suc n) s S at = rw (same s S at) (go (times-hexed n) (read s t at))
      where
        go :
            ((u : State) → Spelt u → (e : ℕ) → times n read after (hexed u) t e ≡ times n read after u t e) → (o : Out A)
            → and_then o (λ a e. and_then (times n read after (after (hexed s) a) t e) (λ more q. got (a ∷ more) q))
            ≡ and_then o (λ a e. and_then (times n read after (after s a) t e) (λ more q. got (a ∷ more) q))
        go again (got a e) = rw (goes s S a, again (after s a) (spelt s S a) e) refl
        go again (no k p) = refl

-- ── entries ──

module _ (t : ℕ) where
  pub new_text-hexed : (s : State) → Spelt s → (f : List ℕ) (at : ℕ) → new_text t (hexed s) f at ≡ new_text t s f at
  unfolding new_text
  new_text-hexed s S f at = ap (λ (ok : New → Bool). (read_new >>= λ g. heed (ok g) >> give g) f at) (fun_ext (new-field-hexed s S t))

-- what follows an entry's head, with its fields
rest : State → Head → ℕ → ℕ → List ℕ → ℕ → ℕ → Out Entry
rest s h n t f known e =
    and_then (heed (number? (field_count_rules s known) n) f e)
    λ u e. and_then (repeat known (literal old_line) f e)
    λ olds e. and_then (times (n - known) (new_text t) (after_new t) s f e)
    λ news e. got (record { head = h; news = news }) e

rest-hexed : (s : State) → Spelt s → (h : Head) (n t : ℕ) (f : List ℕ) (known e : ℕ) → rest (hexed s) h n t f known e ≡ rest s h n t f known e
unfolding rest number?
rest-hexed s S h n t f known e =
    rw (field_count_rules-hexed s known n)
    (ap (λ (r : ℕ → Out (List New)). and_then (heed (ltb n (256 ^ 8) && hold? (field_count_rules s known n)) f e) λ u e. and_then (repeat known (literal old_line) f e) λ olds e. and_then (r e) λ news e. got (record { head = h; news = news }) e)
    (fun_ext λ e. times-hexed (new_text t) (after_new t) f (λ s S. new_text-hexed t s S f) (λ s S. after_new-hexed s t) (λ s S. spelt-new s S t) (n - known) s S e))

entry-text-is :
    (s : State) (f : List ℕ) (at : ℕ)
    → entry_text s f at
    ≡ and_then (read_type f at) (λ h e. and_then (heed (head? s h.0) f e) λ u e. rest (after_head s h.0) h.0 h.1 (type_of s h.0.name) f (length (known_due s h.0)) e)
unfolding entry_text rest ◌>>=◌ ◌>>◌ give
entry-text-is s f at = refl

pub entry_text-hexed : (s : State) → Spelt s → (f : List ℕ) (at : ℕ) → entry_text (hexed s) f at ≡ entry_text s f at
entry_text-hexed s S f at = entry-text-is (hexed s) f at ∙ go (read_type f at) ∙ sym (entry-text-is s f at)
  where
    go :
        (o : Out (Head × ℕ))
        → and_then o (λ h e. and_then (heed (head? (hexed s) h.0) f e) λ u e. rest (after_head (hexed s) h.0) h.0 h.1 (type_of (hexed s) h.0.name) f (length (known_due (hexed s) h.0)) e)
        ≡ and_then o (λ h e. and_then (heed (head? s h.0) f e) λ u e. rest (after_head s h.0) h.0 h.1 (type_of s h.0.name) f (length (known_due s h.0)) e)
    go (got (h, n) e) =
        rw (head-hexed s S h, after_head-hexed s S h, type_of-hexed s S h.name, known_due-hexed s S h)
        (ap (λ (r : ℕ → Out Entry). and_then (heed (head? s h) f e) λ u e. r e) (fun_ext (rest-hexed (after_head s h) (spelt-head s S h) h n (type_of s h.name) f (length (known_due s h)))))
    go (no k p) = refl

pub entries_text-hexed :
    (n : ℕ) (s : State) → Spelt s → (f : List ℕ) (at : ℕ) → times n entry_text after_entry (hexed s) f at ≡ times n entry_text after_entry s f at
entries_text-hexed n s S f at = times-hexed entry_text after_entry f (λ s S. entry_text-hexed s S f) after_entry-hexed spelt-entry n s S at

-- ── chunks ──

pub chunk_text-hexed : (s : State) → Spelt s → ◌≡◌ {A = Due → Reader Chunk} (chunk_text (hexed s)) (chunk_text s)
unfolding chunk_text value_text
chunk_text-hexed s S = fun_ext λ d.
    rw (field_at-hexed s d.field)
    (ap (λ (ok : List Element → Bool). repeat d.values (read_line (field_at s d.field).kind >>= λ v. heed (ok v) >> give v)) (fun_ext (value-hexed s S (field_at s d.field).kind)))

pub put_chunks-hexed : (s : State) (ds : List Due) (cs : List Chunk) → put_chunks (hexed s) ds cs ≡ put_chunks s ds cs
unfolding put_chunks put_chunk chunk_pieces
put_chunks-hexed s [] cs = refl
put_chunks-hexed s (d ∷ ds) [] = refl
put_chunks-hexed s (d ∷ ds) (c ∷ cs) = rw (field_at-hexed s d.field, put_chunks-hexed s ds cs)

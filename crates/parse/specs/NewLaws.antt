-- A new field's line. Its kind is held to its rules as soon as it is read, and not when the whole line is: all that can go wrong
-- is refused alike. Assumes nothing.
use Rattle.std.specs.Prelude.{Some, None, ◌≡◌, refl, Bool, List, ℕ}
use Rattle.std.proofs.Math.Path.{sym, ap}
use Rattle.std.proofs.Common.{◌∙◌}
use Rattle.std.proofs.Math.Bool.{true, false}
use Rattle.paper.specs.Reader.{when◌then◌else◌, Reader, Out, got, no as bad, and_then, turned, ◌>>=◌, ◌>>◌, give}
use Rattle.paper.specs.Ledger.{Kind, New}
use Rattle.paper.specs.Rules.{noted}
use Rattle.paper.specs.Listing.{ascii, tab, newline}
use Rattle.paper.specs.Keeps.{kind_kept?}
use Rattle.paper.specs.Scan.{heed, byte_is, literal, ended, natural, read_kind, read_new}
use Rattle.laws.specs.Laws.{not-got}
use Rattle.table.specs.View.{kind_from}
use Rattle.words.specs.declared.read.Place.{Place}
use Rattle.reader.specs.declared.kinds.Kind.{Kind as Numbers}
use Rattle.parse.specs.Answers.{keeping, KindReads, kept_new, noted_new, NewReads}
use Rattle.parse.specs.Twenty.{Twenty, byte-twenty, ended-twenty}

-- ── a kind that was read and held to its rules ──

module _ (r : Reader Kind) (t : List ℕ) (p : ℕ) where
  keeping-got : {k : Kind} {e : ℕ} → got k e ≡ keeping r t p → (got k e ≡ r t p) × (kind_kept? k ≡ true)
  unfolding keeping heed ◌>>=◌ ◌>>◌ give when◌then◌else◌
  keeping-got {k} {e} h = go (r t p) h
    where
      held : (x : Kind) (d : ℕ) (b : Bool) → kind_kept? x ≡ b → got k e ≡ and_then (when b then got (tt {0}) d else bad 20 0) (λ u d. got x d) → (got k e ≡ got x d) × (kind_kept? k ≡ true)
      held x d true s q = let z : k ≡ x = cc q in (q, rw z s)
      held x d false s q = not-got (sym q)

      go : (o : Out Kind) → got k e ≡ and_then o (λ x d. and_then (when kind_kept? x then got (tt {0}) d else bad 20 0) (λ u d. got x d)) → (got k e ≡ o) × (kind_kept? k ≡ true)
      go (got x d) q = held x d (kind_kept? x) refl q
      go (bad n m) q = not-got (sym q)

-- ── an outcome that was turned ──

-- what it was before
pub record Before {A B : Type 0} (g : A → B) (o : Out A) (b : B) (e : ℕ) : Type 0 where
  pub value : A
  pub first : got value e ≡ o
  pub is : b ≡ g value

pub turned-got : {A B : Type 0} (g : A → B) (o : Out A) {b : B} {e : ℕ} → got b e ≡ turned g o → Before g o b e
turned-got g (got a d) {b} {e} h =
    let last : e ≡ d = cc h in
    let same : b ≡ g a = cc h in
    record { value = a; first = ap (got a) last; is = same }
turned-got g (bad n p) h = not-got (sym h)

pub turned-bad : {A B : Type 0} (g : A → B) (o : Out A) → bad 20 0 ≡ turned g o → bad 20 0 ≡ o
turned-bad g (got a d) h = not-got h
turned-bad {A} g (bad n p) h = let x : 20 ≡ n = cc h in let y : 0 ≡ p = cc h in rw (← x, ← y)

-- ── the ways out ──

-- what comes behind a kind, behind its tab, and the rules of the whole line
module _ (t : List ℕ) where
  abbrev ruled : Out New → Out New
  ruled o = and_then o (λ g e. and_then (when kind_kept? g.kind then got (tt {0}) e else bad 20 0) (λ u e. got g e))

  abbrev behind_tab : Out Kind → Out New
  behind_tab o = and_then o (λ k e. and_then (ended newline natural t e) (λ n e. got (record { kind = k; name = n }) e))

  abbrev behind_kind : Out Kind → Out New
  behind_kind o = ruled (behind_tab (and_then o (λ k e. and_then (byte_is tab t e) (λ u e. got k e))))

module _ (t : List ℕ) (at : ℕ) where
  pub new-not : bad 20 0 ≡ literal (ascii "new\t") t at → NewReads t at None
  unfolding kept_new read_new ◌>>=◌ ◌>>◌
  new-not h = record { says = rw (← h); told = tt }

  module _ {p : ℕ} (word : got tt p ≡ literal (ascii "new\t") t at) where
    kept-is : kept_new t at ≡ behind_kind t (read_kind t p)
    unfolding kept_new read_new ended heed ◌>>=◌ ◌>>◌ give
    kept-is = rw (← word)

    pub new-no-kind : KindReads read_kind t p None → NewReads t at None
    unfolding keeping heed ◌>>=◌ ◌>>◌ give when◌then◌else◌
    new-no-kind K = record { says = ap (turned noted_new) (go (read_kind t p) (turned-bad noted _ K.says) ∙ sym kept-is); told = tt }
      where
        named : (k : Kind) → kind_kept? k ≡ false → (o : Out ℕ) → Twenty o → bad 20 0 ≡ ruled t (and_then o (λ n e. got (record { kind = k; name = n }) e))
        named k b (got n e) w = rw b
        named k b (bad n q) w = rw (w.0, w.1)

        parted : (k : Kind) → kind_kept? k ≡ false → (o : Out (Unit {0})) → Twenty o → bad 20 0 ≡ ruled t (behind_tab t (and_then o (λ u e. got k e)))
        parted k b (got u e) w = named k b (ended newline natural t e) (ended-twenty newline t e)
        parted k b (bad n q) w = rw (w.0, w.1)

        held : (k : Kind) (e : ℕ) (b : Bool) → kind_kept? k ≡ b → bad 20 0 ≡ and_then (when b then got (tt {0}) e else bad 20 0) (λ u e. got k e) → bad 20 0 ≡ behind_kind t (got k e)
        held k e true b h = not-got h
        held k e false b h = parted k b (byte_is tab t e) (byte-twenty tab t e)

        go : (o : Out Kind) → bad 20 0 ≡ and_then o (λ k e. and_then (when kind_kept? k then got (tt {0}) e else bad 20 0) (λ u e. got k e)) → bad 20 0 ≡ behind_kind t o
        go (got k e) h = held k e (kind_kept? k) refl h
        go (bad n q) h = let x : 20 ≡ n = cc h in let y : 0 ≡ q = cc h in rw (← x, ← y)

    module _ {x : Numbers} {q : Place} (K : KindReads read_kind t p (Some (x, q))) where
      kept-kind : Before noted (keeping read_kind t p) (kind_from x.first x.bits x.last) q.at
      kept-kind = turned-got noted _ K.says

      read : got kept-kind.value q.at ≡ read_kind t p
      read = (keeping-got read_kind t p kept-kind.first).0

      kept : kind_kept? kept-kind.value ≡ true
      kept = (keeping-got read_kind t p kept-kind.first).1

      pub new-no-tab : bad 20 0 ≡ byte_is tab t q.at → NewReads t at None
      new-no-tab h = record { says = rw (kept-is, ← read, ← h); told = tt }

      module _ {d : ℕ} (sep : got tt d ≡ byte_is tab t q.at) where
        pub new-no-name : bad 20 0 ≡ ended newline natural t d → NewReads t at None
        new-no-name h = record { says = rw (kept-is, ← read, ← sep, ← h); told = tt }

        pub new-got : {name : ℕ} {c : Place} → got name c.at ≡ ended newline natural t d → NewReads t at (Some (record { kind = x; name = name }, c))
        unfolding when◌then◌else◌
        new-got h = record { says = rw (kept-is, ← read, ← sep, ← h, kept, kept-kind.is); told = K.told }

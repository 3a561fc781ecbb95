-- What is laid of the lines that stand in a text, with the ends that the table's sizes give. Assumes nothing.
use Rattle.std.specs.Prelude.{Option, Some, None, ◌≡◌, refl, ℕ, suc, ◌+◌, ◌-◌, ◌^◌, ◌≤◌, ◌<◌}
use Rattle.std.proofs.Common.{sym, ◌∙◌, length-drop, drop-drop}
use Rattle.std.proofs.Math.Path.{ap, subst}
use mathlib.Core.List.{List, [], ◌∷◌, ◌++◌}
use Rattle.std.proofs.Math.Option.{none, some}
use native.Mathlib.Omega.{arith}
use Rattle.std.proofs.Math.ListN.{length, drop}
use Rattle.std.proofs.lemmas.List.{length-map}
use Rattle.paper.specs.Reader.{Reader, got, no, give, times, repeat}
use Rattle.paper.specs.Numbers.{put}
use Rattle.paper.specs.Ledger.{New, Head, Entry, State}
use Rattle.paper.specs.Rules.{after_entry, dues}
use Rattle.paper.specs.Listing.{old_line}
use Rattle.paper.specs.Scan.{literal, read_type, entry_text}
use Rattle.laws.specs.Put.{put_head, put_new, put_entries}
use Rattle.laws.specs.Laws.{not-got, bind_inv, bind-got}
use Rattle.lay.specs.Laid.{most, Laid, laid_then, laid_as, Leads, leads-start, leads-on, leads-end}
use Rattle.values.specs.Filling.{repeat-first, repeat-none}
use Rattle.table.specs.View.{dues_of}
use Rattle.words.specs.declared.read.Place.{Place}
use Rattle.parse.specs.declared.NewLine.{NewLine}
use Rattle.parse.specs.Answers.{kept_new, noted_new, NewReads}
use Rattle.parse.specs.MapLaws.{repeat-length}
use Rattle.parse.specs.NewLaws.{turned-got, turned-bad}
use Rattle.fronts.specs.declared.Ends.{Ends}
use Rattle.fronts.specs.declared.Here.{Here}
use Rattle.fronts.specs.Ends.{sum, ends_of, sizes, ends-behind, left, NextEnd}
use Rattle.fronts.specs.Maps.{LineLaid}
use Rattle.fronts.specs.Lines.{needed, written, Listed, old_or, field_line, one_end, field_bytes, one_each, Lines, entry_lines, ends_of_entry, entry_bytes, all_lines, give-inv, entries-read, entries-same, ends-due}

-- the bytes `w` are laid, the text goes on at `q`, and the ends that come next are `es`
pub record Went (l : List ℕ) (w : List ℕ) (q : ℕ) (es m : List ℕ) (at : ℕ) (m' : List ℕ) (r : Here) : Type 0 where
  pub laid : Laid m at w m' r.at
  pub place : r.next.at ≡ q
  pub ends : left l r.ends ≡ es

-- so it is of lines that were read
abbrev pub WentTo : List ℕ → List ℕ → ℕ → List ℕ → List ℕ → ℕ → List ℕ → Option Here → Type 0
WentTo l w q es m at m' (Some r) = Went l w q es m at m' r
WentTo l w q es m at m' None = ⊥

-- If `read` reads v here, and there are the n v ends that it needs, then its bytes are laid, and n v ends are used up. What
-- is not read promises nothing.
pub record Puts {A : Type 0} (read : Reader A) (n : A → ℕ) (w : A → List ℕ → List ℕ) (t l : List ℕ) (h : Here) (m m' : List ℕ) (r : Option Here) : Type 0 where
  pub went :
      (v : A) (q : ℕ) → read t h.next.at ≡ got v q → n v ≤ length (left l h.ends)
      → WentTo l (w v (left l h.ends)) q (drop (n v) (left l h.ends)) m h.at m' r

-- ── so many: what is left to lay from here gives the whole ──

pub record Remains {A : Type 0} (read : Reader A) (n : A → ℕ) (w : A → List ℕ → List ℕ) (t l : List ℕ) (h₀ : Here) (m₀ : List ℕ) (vs : List A) (q rest : ℕ) (h : Here) (m : List ℕ) : Type 0 where
  pub more : List A
  pub reads : repeat rest read t h.next.at ≡ got more q
  pub enough : needed n more ≤ length (left l h.ends)
  pub ends : drop (needed n more) (left l h.ends) ≡ drop (needed n vs) (left l h₀.ends)
  pub leads : Leads m₀ h₀.at (written n w vs (left l h₀.ends)) m h.at (written n w more (left l h.ends))

pub record Going {A : Type 0} (read : Reader A) (n : A → ℕ) (w : A → List ℕ → List ℕ) (t l : List ℕ) (count : ℕ) (h₀ : Here) (m₀ : List ℕ) (rest : ℕ) (h : Here) (m : List ℕ) : Type 0 where
  pub long : length m ≡ length m₀
  pub remains : (vs : List A) (q : ℕ) → repeat count read t h₀.next.at ≡ got vs q → needed n vs ≤ length (left l h₀.ends) → Remains read n w t l h₀ m₀ vs q rest h m

module _ {A : Type 0} (read : Reader A) (n : A → ℕ) (w : A → List ℕ → List ℕ) (t l : List ℕ) where
  pub going_start : {count rest : ℕ} (h : Here) (m : List ℕ) → rest ≡ count → length m ≤ most → h.at ≤ most → Going read n w t l count h m rest h m
  going_start h m all a b =
      record {
        long = refl;
        remains = λ vs q r enough. record { more = vs; reads = rw all r; enough = enough; ends = refl; leads = leads-start a b };
      }

module _ {A : Type 0} {read : Reader A} {n : A → ℕ} {w : A → List ℕ → List ℕ} {t l : List ℕ} {count : ℕ} {h₀ : Here} {m₀ : List ℕ} {rest : ℕ} {h : Here} {m : List ℕ} (g : Going read n w t l count h₀ m₀ rest h m) where
  -- the first of them
  first-went :
      (k : ℕ) (vs : List A) (q : ℕ) (B : Remains read n w t l h₀ m₀ vs q (suc k) h m) {m₂ : List ℕ} {b : Option Here} → Puts read n w t l h m m₂ b
      → (let F = repeat-first read k t h.next.at B.more q B.reads in WentTo l (w F.value (left l h.ends)) F.next (drop (n F.value) (left l h.ends)) m h.at m₂ b)
  unfolding needed
  first-went k vs q B one =
      let F = repeat-first read k t h.next.at B.more q B.reads in
      let all : n F.value + needed n F.more ≤ length (left l h.ends) = rw F.is at B.enough in
      one.went F.value F.next F.first (omega (arith, all))

  remains-on :
      (k : ℕ) (vs : List A) (q : ℕ) → Remains read n w t l h₀ m₀ vs q (suc k) h m → {m₂ : List ℕ} {h₂ : Here} → Puts read n w t l h m m₂ (Some h₂)
      → Remains read n w t l h₀ m₀ vs q k h₂ m₂
  unfolding needed written
  remains-on k vs q B {m₂} {h₂} one =
      let F = repeat-first read k t h.next.at B.more q B.reads in
      let all : n F.value + needed n F.more ≤ length (left l h.ends) = rw F.is at B.enough in
      let W : Went l (w F.value (left l h.ends)) F.next (drop (n F.value) (left l h.ends)) m h.at m₂ h₂ = first-went k vs q B one in
      let next : written n w B.more (left l h.ends) ≡ w F.value (left l h.ends) ++ written n w F.more (left l h₂.ends) =
      ap (λ (vs : List A). written n w vs (left l h.ends)) F.is ∙ ap (λ (es : List ℕ). w F.value (left l h.ends) ++ written n w F.more es) (sym W.ends) in
      record {
        more = F.more;
        reads = ap (λ (p : ℕ). repeat k read t p) W.place ∙ F.rest;
        enough = rw (W.ends, length-drop) (omega (arith, all));
        ends = rw (W.ends, drop-drop) (rw F.is at B.ends);
        leads = leads-on B.leads next W.laid;
      }

  pub going_on : {less : ℕ} → rest ≡ suc less → {m₂ : List ℕ} → length m₂ ≡ length m → {h₂ : Here} → Puts read n w t l h m m₂ (Some h₂) → Going read n w t l count h₀ m₀ less h₂ m₂
  going_on {less} due kept one =
      record {
        long = kept ∙ g.long;
        remains = λ vs q r enough. remains-on less vs q (rw due at (g.remains vs q r enough)) one;
      }

  pub going-no : 0 < rest → {m₂ : List ℕ} → Puts read n w t l h m m₂ None → {m' : List ℕ} {b : Option Here} → Puts (repeat count read) (needed n) (written n w) t l h₀ m₀ m' b
  going-no pos one =
      let due : rest ≡ suc (rest - 1) = omega arith in
      record { went = λ vs q r enough. absurd (first-went (rest - 1) vs q (rw due at (g.remains vs q r enough)) one) }

  pub going_done : rest ≤ 0 → Puts (repeat count read) (needed n) (written n w) t l h₀ m₀ m (Some h)
  unfolding needed written
  going_done le =
      record {
        went = λ vs q r enough.
            let B = g.remains vs q r enough in
            let none : rest ≡ 0 = omega arith in
            let (empty, last) = repeat-none read t h.next.at B.more q (rw none at B.reads) in
            record {
              laid = leads-end B.leads (rw empty refl);
              place = last;
              ends = rw empty at B.ends;
            };
      }

-- ── a field ──

-- nothing is promised where nothing is read
puts_none : {A : Type 0} {read : Reader A} {n : A → ℕ} {w : A → List ℕ → List ℕ} {t l : List ℕ} {h : Here} {m m' : List ℕ} {r : Option Here} → ((v : A) (q : ℕ) → read t h.next.at ≡ got v q → ⊥) → Puts read n w t l h m m' r
puts_none never = record { went = λ v q s enough. absurd (never v q s) }

-- where there is an end, it is the next one
first-end : (es : List ℕ) → 1 ≤ length es → (x : ℕ) × (xs : List ℕ) × (es ≡ x ∷ xs)
first-end [] h = absurd (omega arith)
first-end (x ∷ xs) h = (x, xs, refl)

module _ (l : List ℕ) (h : Here) {e : Ends} (N : NextEnd l h.ends e) {m m' : List ℕ} {p : ℕ} {c : Place} where
  field-went :
      (f : Listed) (w : ℕ → List ℕ) → ((x : ℕ) (xs : List ℕ) → w x ≡ field_bytes f (x ∷ xs)) → Laid m h.at (w e.end) m' p
      → (q : ℕ) → c.at ≡ q → 1 ≤ length (left l h.ends)
      → Went l (field_bytes f (left l h.ends)) q (drop 1 (left l h.ends)) m h.at m' (record { next = c; ends = e; at = p })
  field-went f w is L q last enough =
      let (x, xs, here) = first-end (left l h.ends) enough in
      let (end, more) = N.is x xs here in
      record {
        laid = laid_as L (ap w end ∙ is x xs ∙ ap (field_bytes f) (sym here));
        place = last;
        ends = more ∙ ap (drop 1) (sym here);
      }

  -- of the field that is read here
  field_put :
      (t : List ℕ) (f : Listed) (w : ℕ → List ℕ) → ((x : ℕ) (xs : List ℕ) → w x ≡ field_bytes f (x ∷ xs)) → field_line t h.next.at ≡ got f c.at
      → Laid m h.at (w e.end) m' p → Puts field_line one_end field_bytes t l h m m' (Some (record { next = c; ends = e; at = p }))
  field_put t f w is read L =
      record {
        went = λ v q r enough.
            let z : got f c.at ≡ got v q = sym read ∙ r in
            let same : f ≡ v = cc z in
            let last : c.at ≡ q = cc z in
            subst (λ (v : Listed). Went l (field_bytes v (left l h.ends)) q (drop 1 (left l h.ends)) m h.at m' (record { next = c; ends = e; at = p })) same
            (field-went f w is L q last enough);
      }

  pub old-put : (t : List ℕ) → got tt c.at ≡ literal old_line t h.next.at → Laid m h.at (put e.end) m' p → Puts field_line one_end field_bytes t l h m m' (Some (record { next = c; ends = e; at = p }))
  unfolding field_line old_or field_bytes
  old-put t read L = field_put t none put (λ x xs. refl) (rw (← read)) L

  new-put :
      (t : List ℕ) → no 20 0 ≡ literal old_line t h.next.at → {g : New} → got g c.at ≡ kept_new t h.next.at
      → Laid m h.at (put_new (g, e.end)) m' p → Puts field_line one_end field_bytes t l h m m' (Some (record { next = c; ends = e; at = p }))
  unfolding field_line old_or field_bytes
  new-put t not-old {g} read L = field_put t (some g) (λ x. put_new (g, x)) (λ x xs. refl) (rw (← not-old, ← read)) L

  -- by what its line says
  pub line-put :
      (t : List ℕ) → no 20 0 ≡ literal old_line t h.next.at → {x : NewLine} → NewReads t h.next.at (Some (x, c))
      → LineLaid t h.next.at x.kind.first x.kind.bits x.kind.last x.name e.end m h.at m' p → Puts field_line one_end field_bytes t l h m m' (Some (record { next = c; ends = e; at = p }))
  line-put t not-old R L =
      let B = turned-got noted_new (kept_new t h.next.at) R.says in
      new-put t not-old B.first (L.laid B.value c.at (sym B.first) B.is)

pub no-put :
    {t l : List ℕ} {h : Here} {m m' : List ℕ} {r : Option Here} → no 20 0 ≡ literal old_line t h.next.at → NewReads t h.next.at None
    → Puts field_line one_end field_bytes t l h m m' r
unfolding field_line old_or
no-put {t} {l} {h} not-old R = let read = turned-bad noted_new (kept_new t h.next.at) R.says in puts_none (λ f q r. not-got (rw (← not-old, ← read) at r))

-- ── an entry ──

behind-head :
    (l w m₃ : List ℕ) {v m m₂ : List ℕ} {at p d q : ℕ} {es fs : List ℕ} → Laid m at v m₂ p → d ≡ q → es ≡ fs → (r : Option Here) → WentTo l w d es m₂ p m₃ r → WentTo l (v ++ w) q fs m at m₃ r
behind-head l w m₃ L last same (Some r) W = record { laid = laid_then L W.laid; place = W.place ∙ last; ends = W.ends ∙ same }
behind-head l w m₃ L last same None W = W

module _ {t l : List ℕ} {h : Here} {m : List ℕ} where
  pub entry-not : no 20 0 ≡ read_type t h.next.at → {m' : List ℕ} {r : Option Here} → Puts entry_lines ends_of_entry entry_bytes t l h m m' r
  unfolding entry_lines
  entry-not read = puts_none (λ e q r. not-got (read ∙ (bind_inv read_type _ t h.next.at e q r).first))

  pub entry-put :
      {head : Head} {n : ℕ} {c : Place} {m₁ m₂ m₃ : List ℕ} {p₁ p₂ : ℕ} {r : Option Here} → got (head, n) c.at ≡ read_type t h.next.at
      → Laid m h.at (put_head head) m₁ p₁ → Laid m₁ p₁ (put n) m₂ p₂
      → Puts (repeat n field_line) (needed one_end) (written one_end field_bytes) t l (record { next = c; ends = h.ends; at = p₂ }) m₂ m₃ r
      → Puts entry_lines ends_of_entry entry_bytes t l h m m₃ r
  unfolding entry_lines entry_bytes
  entry-put {head} {n} {c} {m₁} {m₂} {m₃} {p₁} {p₂} {r} read L₁ L₂ F =
      record {
        went = λ e q reads enough.
            let B = bind_inv (repeat n field_line) (λ fs. give (head, fs)) t c.at e q (sym (bind-got read_type _ t h.next.at (sym read)) ∙ reads) in
            let (is, last) = give-inv (head, B.value) t B.next e q B.rest in
            fields B.value B.next B.first e q is last enough;
      }
    where
      fields :
          (fs : List Listed) (d : ℕ) → repeat n field_line t c.at ≡ got fs d → (e : Lines) (q : ℕ) → (head, fs) ≡ e → d ≡ q
          → length e.1 ≤ length (left l h.ends) → WentTo l (entry_bytes e (left l h.ends)) q (drop (length e.1) (left l h.ends)) m h.at m₃ r
      fields fs d reads e q is last enough =
          let long : length fs ≡ n = repeat-length field_line t n c.at fs d reads in
          let each : needed one_end fs ≡ length fs = one_each fs in
          let same : fs ≡ e.1 = ap (λ (x : Lines). x.1) is in
          subst (λ (x : Lines). WentTo l (entry_bytes x (left l h.ends)) q (drop (length x.1) (left l h.ends)) m h.at m₃ r) is
          (behind-head l (written one_end field_bytes fs (left l h.ends)) m₃ (laid_then L₁ (laid_as L₂ (ap put (sym long)))) last (ap (λ (k : ℕ). drop k (left l h.ends)) each) r (F.went fs d reads (rw (each, same) enough)))

-- ── all entries ──

abbrev front : Place → ℕ → Here
front c at = record { next = c; ends = record { row = 0; end = 0 }; at = at }

left-all : (l : List ℕ) → sum (sizes (dues_of l)) < 2 ^ 64 → left l (record { row = 0; end = 0 }) ≡ ends_of 0 (sizes (dues_of l))
unfolding left
left-all l h = ends-behind 0 (sizes (dues_of l)) (omega arith)

ends-long : (from : ℕ) (ns : List ℕ) → length (ends_of from ns) ≡ length ns
unfolding ends_of
ends-long from [] = refl
ends-long from (n ∷ ns) = ap suc (ends-long (from + n) ns)

enough-ends : (l : List ℕ) (s : State) (es : List Entry) → length (dues_of l) ≡ length (dues s es) → sum (sizes (dues_of l)) < 2 ^ 64 → needed ends_of_entry (all_lines s es) ≤ length (left l (record { row = 0; end = 0 }))
enough-ends l s es count small =
    let long : length (left l (record { row = 0; end = 0 })) ≡ length (dues_of l) = ap length (left-all l small) ∙ ends-long 0 (sizes (dues_of l)) ∙ length-map (dues_of l) (λ d. d.1) in
    omega (arith, long, count, ends-due s es)

pub entries-put :
    {t l : List ℕ} (n : ℕ) {c : Place} {at : ℕ} {m m' : List ℕ} {r : Here}
    → Puts (repeat n entry_lines) (needed ends_of_entry) (written ends_of_entry entry_bytes) t l (front c at) m m' (Some r)
    → (s : State) (es : List Entry) (next : ℕ) → times n entry_text after_entry s t c.at ≡ got es next → length (dues_of l) ≡ length (dues s es)
    → sum (sizes (dues_of l)) < 2 ^ 64 → Laid m at (put_entries s es (ends_of 0 (sizes (dues_of l)))) m' r.at
entries-put {t} {l} n {c} {at} {m} {m'} {r} P s es next reads count small =
    let W = P.went (all_lines s es) next (entries-read t n s c.at es next reads) (enough-ends l s es count small) in
    laid_as W.laid (ap (written ends_of_entry entry_bytes (all_lines s es)) (left-all l small) ∙ sym (entries-same s es (ends_of 0 (sizes (dues_of l)))))

-- no text that is read is cut off
pub entries-cut :
    {t l : List ℕ} (n : ℕ) {c : Place} {at : ℕ} {m m' : List ℕ} → Puts (repeat n entry_lines) (needed ends_of_entry) (written ends_of_entry entry_bytes) t l (front c at) m m' None
    → (k : ℕ) (s : State) (es : List Entry) (next : ℕ) → times n entry_text after_entry s t c.at ≡ got es next → length (dues_of l) ≡ length (dues s es)
    → sum (sizes (dues_of l)) < 2 ^ 64 → Laid m at (put_entries s es (ends_of 0 (sizes (dues_of l)))) m' k
entries-cut {t} {l} n {c} P k s es next reads count small = absurd (P.went (all_lines s es) next (entries-read t n s c.at es next reads) (enough-ends l s es count small))

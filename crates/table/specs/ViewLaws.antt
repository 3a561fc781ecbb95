-- What a push makes of what the table says. Assumes nothing.
use Rattle.std.specs.Prelude.{◌≡◌, ℕ, zero, suc, ◌%◌, ◌<◌, ◌≤◌, ◌≢◌, List, [], ◌∷◌, ◌++◌, length, slice_index, slice_index_or}
use Rattle.std.proofs.Common.{sym, ◌∙◌, arith}
use Rattle.std.proofs.Math.Path.{ap, subst}
use Rattle.std.proofs.Math.Logic.{⊎_elim}
use Rattle.std.proofs.Math.Seq.{slice}
use Rattle.std.proofs.Math.Option.{none}
use Rattle.paper.specs.Ledger.{Field, Range, Due}
use Rattle.paper.specs.Lists.{same, place}
use Rattle.paper.specs.Places.{Spot}
use Rattle.table.specs.Segs.{seg, Each, Laid}
use Rattle.table.specs.Rows.{Push}
use Rattle.table.specs.RowLaws.{same_or_not, length-tab, push-other, push-long, push-count, push-mine, push_kept, push-each, push-each-kept}
use Rattle.table.specs.Layout.{width, most, starts, head-le, kinds-apart, kind_fits}
use Rattle.table.specs.View.{text_of, string_of, typ_of, fld_of, range_of, due_of, spot_of, strs_of, names_of, types_of, titles_of, flds_of, log_of, dues_of, chunks_of, said, Telling, Owning, Ok, Within, Holds, Now, Apart, sum_of, Memo, Recalls, Noting}
use Rattle.table.specs.Answers.{typ_in, field_in, range_in, Small}
use Rattle.table.specs.Packed.{type_cells, field_cells, range_cells, due_cells, chunk_cells, field-cells, range-cells, due-cells, chunk-cells}
use Rattle.table.specs.declared.rows.TypeRow.{TypeRow}
use Rattle.table.specs.declared.rows.FieldRow.{FieldRow}
use Rattle.table.specs.declared.rows.RangeRow.{RangeRow}
use Rattle.table.specs.ApartLaws.{apart_more}
use Rattle.table.specs.Memos.{memo-none, memo-more}
use Rattle.table.specs.Adds.{add_string, add_type, add_field, add_range, add_due, add_chunk}

-- ── what every table keeps, from what it must ──

module _ (f l : List ℕ) where
  pub count-strs : length (strs_of f l) ≡ slice_index l 0
  unfolding strs_of seg
  count-strs = length-tab (slice_index l 0) _

  pub count-names : length (names_of f l) ≡ slice_index l 1
  unfolding names_of seg
  count-names = length-tab (slice_index l 1) _

  pub count-titles : length (titles_of f l) ≡ slice_index l 2
  unfolding titles_of seg
  count-titles = length-tab (slice_index l 2) _

module _ (l : List ℕ) where
  pub count-types : length (types_of l) ≡ slice_index l 1
  unfolding types_of seg
  count-types = length-tab (slice_index l 1) _

  pub count-flds : length (flds_of l) ≡ slice_index l 2
  unfolding flds_of seg
  count-flds = length-tab (slice_index l 2) _

  pub count-log : length (log_of l) ≡ slice_index l 3
  unfolding log_of seg
  count-log = length-tab (slice_index l 3) _

  pub count-dues : length (dues_of l) ≡ slice_index l 4
  unfolding dues_of seg
  count-dues = length-tab (slice_index l 4) _

  pub count-chunks : length (chunks_of l) ≡ slice_index l 5
  unfolding chunks_of seg
  count-chunks = length-tab (slice_index l 5) _

-- no kind has more rows than fit
abbrev pub Fits : List ℕ → Type 0
Fits l = (k : ℕ) → k < 6 → slice_index l k ≤ most k

pub ok-fits : {l : List ℕ} → Ok l → Fits l
unfolding most
ok-fits ok zero lt = ok.strs-fit
ok-fits ok (suc zero) lt = ok.types-fit
ok-fits ok (suc (suc zero)) lt = ok.flds-fit
ok-fits ok (suc (suc (suc zero))) lt = ok.log-fit
ok-fits ok (suc (suc (suc (suc zero)))) lt = ok.dues-fit
ok-fits ok (suc (suc (suc (suc (suc zero))))) lt = ok.chunks_fit
ok-fits ok (suc (suc (suc (suc (suc (suc k)))))) lt = absurd (omega arith)

pub ok_of : {l : List ℕ} → length l ≡ 16384 → Fits l → Telling l → Owning l → Ok l
unfolding most
ok_of {l} long fits telling owning =
    record {
      long = long;
      strs-fit = fits 0 (omega arith);
      types-fit = fits 1 (omega arith);
      flds-fit = fits 2 (omega arith);
      log-fit = fits 3 (omega arith);
      dues-fit = fits 4 (omega arith);
      chunks_fit = fits 5 (omega arith);
      types-count = count-types l;
      flds-count = count-flds l;
      log-count = count-log l;
      dues-count = count-dues l;
      chunks-count = count-chunks l;
      telling = telling;
      owning = owning;
    }

-- the texts of kind k, 0 to 2, lie within the bytes
abbrev pub In : List ℕ → List ℕ → ℕ → Type 0
In f l k = Each (Within f k) k (starts k) (width k) l

pub holds_of : {f l : List ℕ} → Ok l → length f < 66000000 → In f l 0 → In f l 1 → In f l 2 → Apart (names_of f l) → Noting f l → Holds f l
unfolding starts width most
holds_of {f} {l} ok small a b d apart noting =
    record {
      ok = ok;
      small = small;
      strs-in = a;
      names_in = b;
      titles-in = d;
      names_apart = apart;
      noting = noting;
      strs-count = count-strs f l;
      names-count = count-names f l;
      titles-count = count-titles f l;
    }

pub holds-in : {f l : List ℕ} → Holds f l → (k : ℕ) → k < 3 → In f l k
unfolding starts width most
holds-in h zero lt = h.strs-in
holds-in h (suc zero) lt = h.names_in
holds-in h (suc (suc zero)) lt = h.titles-in
holds-in h (suc (suc (suc k))) lt = absurd (omega arith)

-- ── a push of a row of kind c ──

-- it leaves the rows of the other kinds
pub record Others (c : ℕ) (f l l' : List ℕ) : Type 0 where
  pub strings : 0 ≢ c → strs_of f l' ≡ strs_of f l
  pub type_names : 1 ≢ c → names_of f l' ≡ names_of f l
  pub types : 1 ≢ c → types_of l' ≡ types_of l
  pub field_names : 2 ≢ c → titles_of f l' ≡ titles_of f l
  pub fields : 2 ≢ c → flds_of l' ≡ flds_of l
  pub log : 3 ≢ c → log_of l' ≡ log_of l
  pub due : 4 ≢ c → dues_of l' ≡ dues_of l
  pub chunks : 5 ≢ c → chunks_of l' ≡ chunks_of l
  pub block : slice_index_or l' 6 0 ≡ slice_index l 6

module _ {c : ℕ} {vs l l' : List ℕ} (p : Laid c (starts c) (width c) vs l l') (ok : Ok l) (few : c < 6) (room : slice_index_or l c 0 < most c) where
  kept : {A : Type 0} (of : List ℕ → A) (k : ℕ) → k < 6 → k ≢ c → seg of k (starts k) (width k) l' ≡ seg of k (starts k) (width k) l
  kept of k lt ne =
      push_kept p k (starts k) (width k) (most k) ne (omega arith) (head-le k) (ok-fits ok k lt) (kind_fits k lt) (kinds-apart k c (slice_index l c) ne room) of

  pub in_after : (f : List ℕ) (k : ℕ) → k < 3 → (k ≡ c → Within f c vs) → In f l k → In f l' k
  in_after f k lt new all =
      ⊎_elim
      (λ (e : k ≡ c). subst (λ (j : ℕ). In f l j → In f l' j) (sym e) (push-each p (Within f c) (new e)) all)
      (λ (ne : k ≢ c).
      push-each-kept p k (starts k) (width k) (most k) ne (omega arith) (head-le k) (ok-fits ok k (omega arith)) (kind_fits k (omega arith)) (kinds-apart k c (slice_index l c) ne room) (Within f k) all)
      (same_or_not k c)

  fits_after : Fits l'
  fits_after k lt =
      ⊎_elim
      (λ (e : k ≡ c). rw e (omega (arith, push-count p)))
      (λ (ne : k ≢ c). omega (arith, push-other p k (omega arith) (omega arith) ne (λ r. omega (arith, head-le c)), ok-fits ok k lt))
      (same_or_not k c)

  -- once the tallies are right
  pub ok-after : Telling l' → Owning l' → Ok l'
  ok-after telling owning = ok_of (push-long p ∙ ok.long) fits_after telling owning

  pub others : (f : List ℕ) → Others c f l l'
  unfolding starts width most strs_of names_of types_of titles_of flds_of log_of dues_of chunks_of
  others f =
      record {
        strings = kept (string_of f) 0 (omega arith);
        type_names = kept (text_of f) 1 (omega arith);
        types = kept typ_of 1 (omega arith);
        field_names = kept (text_of f) 2 (omega arith);
        fields = kept fld_of 2 (omega arith);
        log = kept range_of 3 (omega arith);
        due = kept due_of 4 (omega arith);
        chunks = kept spot_of 5 (omega arith);
        block = push-other p 6 (omega arith) (omega arith) (omega arith) (λ r. omega (arith, head-le c));
      }

  apart-after : (f : List ℕ) → (1 ≡ c → place (same (text_of f vs)) 0 (names_of f l) ≡ none) → Apart (names_of f l) → Apart (names_of f l')
  unfolding starts width most names_of
  apart-after f new a =
      ⊎_elim
      (λ (e : 1 ≡ c). subst Apart (sym (more e)) (apart_more (names_of f l) (text_of f vs) a (new e)))
      (λ (ne : 1 ≢ c). subst Apart (sym ((others f).type_names ne)) a)
      (same_or_not 1 c)
    where
      more : 1 ≡ c → names_of f l' ≡ names_of f l ++ text_of f vs ∷ []
      more e = push-mine (subst (λ (j : ℕ). Laid j (starts j) (width j) vs l l') (sym e) p) (text_of f)

  -- what is noted of a name stays true
  memo-after : (f : List ℕ) (name : List ℕ) {m : ℕ} → Memo (names_of f l) name m → Memo (names_of f l') name m
  unfolding starts width most names_of
  memo-after f name {m} w =
      ⊎_elim
      (λ (e : 1 ≡ c). subst (λ (x : List (List ℕ)). Memo x name m) (sym (more e)) (memo-more (names_of f l) name (text_of f vs) w))
      (λ (ne : 1 ≢ c). subst (λ (x : List (List ℕ)). Memo x name m) (sym ((others f).type_names ne)) w)
      (same_or_not 1 c)
    where
      more : 1 ≡ c → names_of f l' ≡ names_of f l ++ text_of f vs ∷ []
      more e = push-mine (subst (λ (j : ℕ). Laid j (starts j) (width j) vs l l') (sym e) p) (text_of f)

  noted-after : (f : List ℕ) → (0 ≡ c → slice_index vs 0 < 66000000) → Noting f l → Noting f l'
  unfolding starts width most
  noted-after f low w =
      record {
        rows = λ on.
            let all : Each (Recalls f (names_of f l)) 0 16 2 l = w.rows (sym (push-other p 8 (omega arith) (omega arith) (omega arith) (λ r. omega (arith, head-le c))) ∙ on) in
            let kept : Each (Recalls f (names_of f l)) 0 16 2 l' =
            ⊎_elim
            (λ (e : 0 ≡ c).
            let new : Recalls f (names_of f l) vs = record { memo = memo-none (names_of f l) (string_of f vs) (omega (arith, low e)) } in
            push-each (subst (λ (j : ℕ). Laid j (starts j) (width j) vs l l') (sym e) p) (Recalls f (names_of f l)) new all)
            (λ (ne : 0 ≢ c). push-each-kept p 0 16 2 1024 ne (omega arith) (omega arith) ok.strs-fit (omega arith) (kinds-apart 0 c (slice_index l c) ne room) (Recalls f (names_of f l)) all)
            (same_or_not 0 c) in
            record { row = λ i lt. record { memo = memo-after f _ (kept.row i lt).memo } };
      }

  -- a name lies within the bytes, a type's is not one that a type has, and of a string nothing is noted yet
  pub holds_after : {f : List ℕ} → Holds f l → Ok l' → (c < 3 → Within f c vs) → (1 ≡ c → place (same (text_of f vs)) 0 (names_of f l) ≡ none) → (0 ≡ c → slice_index vs 0 < 66000000) → Holds f l'
  holds_after {f} h ok' new fresh low =
      holds_of ok' h.small
      (in_after f 0 (omega arith) (λ e. new (omega arith)) (holds-in h 0 (omega arith)))
      (in_after f 1 (omega arith) (λ e. new (omega arith)) (holds-in h 1 (omega arith)))
      (in_after f 2 (omega arith) (λ e. new (omega arith)) (holds-in h 2 (omega arith)))
      (apart-after f fresh h.names_apart)
      (noted-after f low h.noting)

module _ {f l l' : List ℕ} (h : Holds f l) where
  pub pushed-string : {a b : ℕ} → slice_index l 0 < 1024 → a ≤ length f → b ≤ length f → Push 0 16 2 (a ∷ b ∷ []) l l' → Now f l' (add_string (said f l) (slice a b f))
  unfolding starts width most strs_of names_of types_of titles_of flds_of log_of dues_of chunks_of add_string
  pushed-string {a} {b} room from within p =
      let other = others {c = 0} p.laid h.ok (omega arith) room f in
      let low : a % 66000000 ≡ a = omega (arith, h.small) in
      let mine = push-mine p.laid (string_of f) ∙ ap (λ (k : ℕ). strs_of f l ++ slice k b f ∷ []) low in
      record {
        holds = holds_after {c = 0} p.laid h.ok (omega arith) room h p.ok (λ lt. record { inside = within; sum = λ named. absurd (omega arith) }) (λ e. absurd (omega arith)) (λ e. omega (arith, h.small));
        says = λ i. record {
          state = record {
            strings = mine i;
            type_names = other.type_names (omega arith) i;
            types = other.types (omega arith) i;
            field_names = other.field_names (omega arith) i;
            fields = other.fields (omega arith) i;
            log = other.log (omega arith) i;
            block = other.block i;
          };
          due = other.due (omega arith) i;
          chunks = other.chunks (omega arith) i;
        };
      }

  pub pushed-type : (r : TypeRow) → slice_index l 1 < 32 → r.end ≤ length f → r.sum ≡ sum_of (slice r.start r.end f) → place (same (slice r.start r.end f)) 0 (names_of f l) ≡ none → Push 1 2064 5 (type_cells r) l l' → Now f l' (add_type (said f l) (slice r.start r.end f) (typ_in r))
  unfolding starts width most strs_of names_of types_of titles_of flds_of log_of dues_of chunks_of add_type
  pushed-type r room within sums fresh p =
      let other = others {c = 1} p.laid h.ok (omega arith) room f in
      record {
        holds = holds_after {c = 1} p.laid h.ok (omega arith) room h p.ok (λ lt. record { inside = within; sum = λ named. sums }) (λ e. fresh) (λ e. absurd (omega arith));
        says = λ i. record {
          state = record {
            strings = other.strings (omega arith) i;
            type_names = push-mine p.laid (text_of f) i;
            types = push-mine p.laid typ_of i;
            field_names = other.field_names (omega arith) i;
            fields = other.fields (omega arith) i;
            log = other.log (omega arith) i;
            block = other.block i;
          };
          due = other.due (omega arith) i;
          chunks = other.chunks (omega arith) i;
        };
      }

  pub pushed-field : (r : FieldRow) → slice_index l 2 < 128 → r.end ≤ length f → r.sum ≡ sum_of (slice r.start r.end f) → Push 2 2224 16 (field_cells r) l l' → Now f l' (add_field (said f l) (slice r.start r.end f) (field_in r))
  unfolding starts width most strs_of names_of types_of titles_of flds_of log_of dues_of chunks_of add_field
  pushed-field r room within sums p =
      let other = others {c = 2} p.laid h.ok (omega arith) room f in
      let mine = push-mine p.laid fld_of ∙ ap (λ (d : Field). flds_of l ++ d ∷ []) (field-cells r) in
      record {
        holds = holds_after {c = 2} p.laid h.ok (omega arith) room h p.ok (λ lt. record { inside = within; sum = λ named. sums }) (λ e. absurd (omega arith)) (λ e. absurd (omega arith));
        says = λ i. record {
          state = record {
            strings = other.strings (omega arith) i;
            type_names = other.type_names (omega arith) i;
            types = other.types (omega arith) i;
            field_names = push-mine p.laid (text_of f) i;
            fields = mine i;
            log = other.log (omega arith) i;
            block = other.block i;
          };
          due = other.due (omega arith) i;
          chunks = other.chunks (omega arith) i;
        };
      }

  pub pushed-range : (r : RangeRow) (k : ℕ) → slice_index l 3 < 1024 → Small r → Push 3 4272 3 (range_cells r k) l l' → Now f l' (add_range (said f l) (range_in r))
  unfolding starts width most strs_of names_of types_of titles_of flds_of log_of dues_of chunks_of add_range
  pushed-range r k room small p =
      let other = others {c = 3} p.laid h.ok (omega arith) room f in
      let mine = push-mine p.laid range_of ∙ ap (λ (d : Range). log_of l ++ d ∷ []) (range-cells r k small) in
      record {
        holds = holds_after {c = 3} p.laid h.ok (omega arith) room h p.ok (λ lt. absurd (omega arith)) (λ e. absurd (omega arith)) (λ e. absurd (omega arith));
        says = λ i. record {
          state = record {
            strings = other.strings (omega arith) i;
            type_names = other.type_names (omega arith) i;
            types = other.types (omega arith) i;
            field_names = other.field_names (omega arith) i;
            fields = other.fields (omega arith) i;
            log = mine i;
            block = other.block i;
          };
          due = other.due (omega arith) i;
          chunks = other.chunks (omega arith) i;
        };
      }

  pub pushed-due : (field values size : ℕ) → slice_index l 4 < 128 → Push 4 7344 4 (due_cells field values size) l l' → Now f l' (add_due (said f l) (record { field = field; values = values }) size)
  unfolding starts width most strs_of names_of types_of titles_of flds_of log_of dues_of chunks_of add_due
  pushed-due field values size room p =
      let other = others {c = 4} p.laid h.ok (omega arith) room f in
      let mine = push-mine p.laid due_of ∙ ap (λ (d : Due × ℕ). dues_of l ++ d ∷ []) (due-cells field values size) in
      record {
        holds = holds_after {c = 4} p.laid h.ok (omega arith) room h p.ok (λ lt. absurd (omega arith)) (λ e. absurd (omega arith)) (λ e. absurd (omega arith));
        says = λ i. record {
          state = record {
            strings = other.strings (omega arith) i;
            type_names = other.type_names (omega arith) i;
            types = other.types (omega arith) i;
            field_names = other.field_names (omega arith) i;
            fields = other.fields (omega arith) i;
            log = other.log (omega arith) i;
            block = other.block i;
          };
          due = mine i;
          chunks = other.chunks (omega arith) i;
        };
      }

  pub pushed-chunk : (field start end : ℕ) → slice_index l 5 < 4096 → field < 128 → Push 5 7856 2 (chunk_cells field start end) l l' → Now f l' (add_chunk (said f l) (record { field = field; start = start; end = end }))
  unfolding starts width most strs_of names_of types_of titles_of flds_of log_of dues_of chunks_of add_chunk
  pushed-chunk field start end room small p =
      let other = others {c = 5} p.laid h.ok (omega arith) room f in
      let mine = push-mine p.laid spot_of ∙ ap (λ (d : Spot). chunks_of l ++ d ∷ []) (chunk-cells field start end small) in
      record {
        holds = holds_after {c = 5} p.laid h.ok (omega arith) room h p.ok (λ lt. absurd (omega arith)) (λ e. absurd (omega arith)) (λ e. absurd (omega arith));
        says = λ i. record {
          state = record {
            strings = other.strings (omega arith) i;
            type_names = other.type_names (omega arith) i;
            types = other.types (omega arith) i;
            field_names = other.field_names (omega arith) i;
            fields = other.fields (omega arith) i;
            log = other.log (omega arith) i;
            block = other.block i;
          };
          due = other.due (omega arith) i;
          chunks = mine i;
        };
      }

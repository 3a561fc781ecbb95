-- The ways out of the readers of the string block, on plain values. Assumes nothing.
use Rattle.std.specs.Prelude.{Ok, Err, ◌≡◌, ℕ, ◌+◌, ◌-◌, ◌*◌, ◌^◌, ◌≤◌, ◌<◌, take, drop}
use Rattle.std.proofs.Math.Path.{refl, sym, ap, subst}
use Rattle.std.proofs.Common.{◌∙◌, arith, le-leb}
use mathlib.Core.List.{List, [], ◌∷◌, ◌++◌, append_assoc, append-nil}
use Rattle.std.proofs.Math.ListN.{length, length-append}
use Rattle.std.proofs.lemmas.Bool.{lt-leb}
use Rattle.paper.specs.Reader.{when◌then◌else◌, Out, got, no, and_then, turned, bytes}
use Rattle.paper.specs.Numbers.{fixed, v64}
use Rattle.paper.specs.Lists.{last_or}
use Rattle.paper.specs.Rules.{end_rules}
use Rattle.paper.specs.File.{string_end, string_block}
use Rattle.numbers.specs.Cursors.{Read, was-got, was-refused, out_step, Outcome, Step}
use Rattle.numbers.specs.declared.Cursor.{Cursor}
use Rattle.numbers.specs.declared.Refusal.{Refusal}
use Rattle.table.specs.Rows.{Push}
use Rattle.table.specs.View.{view, Said, said, strs_of, Holds, Now, strings_in}
use Rattle.table.specs.ViewLaws.{pushed-string}
use Rattle.table.specs.Adds.{add_string}
use Rattle.laws.specs.Laws.{not-got}
use Rattle.numbers.specs.Ruled.{read_no, read-bad, read-got}
use Rattle.reader.specs.Sound.{Sound}
use Rattle.reader.specs.Strings.{Did, add_strings, ends, piece, pieces, capped, Rising, OneEnd, LeftEnd, EndRead, Ended, LeftEnds, EndsRead, Skip}
use Rattle.reader.specs.StringLaws.{cap-most, capped-piece, four-on, then-then, ends-step, ends-stop, last_snoc, rising_snoc, pieces-snoc, add-string, add_none, strings-sound, block_no, block-full, block-no-ends, block-no-bytes, block-got}
use Rattle.numbers.specs.Faults.{number_of}
use Rattle.numbers.specs.declared.Fault.TheVariants as fault

-- ── one end ──

module _ {f l : List ℕ} (h : Holds f l) {b prev at : ℕ} {a : Outcome ℕ} (read : Read (fixed 4) (256 ^ 4) f at a) where
  pub end_refused : {r : Refusal} → a ≡ Err r → EndRead f l l b prev at (Err r)
  unfolding string_end
  end_refused is = record { holds = h; read = read_no read (end_rules prev) (omega arith) is; left = tt }

  module _ {e : ℕ} {next : Cursor} (is : a ≡ Ok (e, next)) where
    pub end-fell : e < prev → EndRead f l l b prev at (Err (record { fault = fault.Ends; place = at }))
    unfolding string_end end_rules
    end-fell lt = record { holds = h; read = read-bad read (end_rules prev) (omega arith) is (rw (lt-leb prev e lt)); left = tt }

    pub end_read : {l' : List ℕ} {x y : ℕ} → strings_in l < 1024 → prev ≤ e → x ≡ capped (length f) (b + prev) → y ≡ capped (length f) (b + e) → Push 0 16 2 (x ∷ y ∷ []) l l' → EndRead f l l' b prev at (Ok (e, next))
    unfolding string_end end_rules
    end_read few le is_x is_y push =
        let n = pushed-string h few (rw is_x (cap-most (length f) (b + prev))) (rw is_y (cap-most (length f) (b + e))) push in
        let v = was-got read is in
        record {
          holds = n.holds;
          read = read-got read (end_rules prev) v.below is (rw (le-leb prev e le));
          left =
              record {
                rises = le;
                on = four-on f at e next.at v.says;
                says = n.says ∙ ap (add_string (said f l)) (rw (is_x, is_y) (capped-piece f b prev e le));
              };
        }

-- ── the loop over ends ──

-- the ends in `done` were read, and `rest` are left
pub record Ending (f l₀ l : List ℕ) (b n at₀ rest prev at : ℕ) : Type 0 where
  pub holds : Holds f l
  pub done : List ℕ
  pub room : strings_in l + rest ≤ 1024
  pub long : length l ≡ length l₀
  pub many : length done + rest ≡ n
  pub inside : at₀ ≤ length f → at ≤ length f
  pub last : prev ≡ last_or 0 done
  pub rises : Rising 0 done
  pub on : at ≡ at₀ + 4 * length done
  pub says : ends n 0 f at₀ ≡ and_then (ends rest prev f at) (λ es p. got (done ++ es) p)
  pub left : said f l ≡ add_strings (said f l₀) (pieces f b 0 done)

then-unit : {A : Type 0} (o : Out A) → and_then o (λ a p. got a p) ≡ o
then-unit (got a e) = refl
then-unit (no n p) = refl

pub ending-start : {f l : List ℕ} {b n at : ℕ} → Holds f l → strings_in l + n ≤ 1024 → Ending f l l b n at n 0 at
unfolding last_or pieces
ending-start {f} {l} {b} {n} {at} h room =
    record {
      holds = h;
      done = [];
      room = room;
      long = refl;
      many = omega arith;
      inside = λ x. x;
      last = refl;
      rises = tt;
      on = omega arith;
      says = sym (then-unit (ends n 0 f at));
      left = sym (add_none (said f l));
    }

module _ {f l₀ l : List ℕ} {b n at₀ rest prev at : ℕ} (g : Ending f l₀ l b n at₀ rest prev at) where
  pub ending-done : rest ≤ 0 → EndsRead f l₀ l b n at₀ (Ok (prev, record { at = at }))
  ending-done z =
      record {
        holds = g.holds;
        inside = g.inside;
        left =
            record {
              list = g.done;
              read = g.says ∙ rw (ends-stop f prev at rest z, append-nil g.done) refl;
              last = g.last;
              rises = g.rises;
              on = omega (arith, g.on, g.many);
              says = g.left;
            };
      }

  module _ (pos : 0 < rest) {l' : List ℕ} {a : Outcome ℕ} (one : EndRead f l l' b prev at a) where
    pub ending-no : {r : Refusal} → a ≡ Err r → EndsRead f l₀ l' b n at₀ (Err r)
    ending-no {r} is =
        let w : ends n 0 f at₀ ≡ no (number_of r.fault) r.place = g.says ∙ rw (ends-step f prev at rest pos, (was-refused one.read is).says) refl in
        record { holds = one.holds; inside = λ lo. (was-refused one.read is).inside (g.inside lo); left = w }

    pub ending-next : {e : ℕ} {next : Cursor} → a ≡ Ok (e, next) → length l' ≡ length l → {left : ℕ} → left ≡ rest - 1 → Ending f l₀ l' b n at₀ left e next.at
    unfolding add_string
    ending-next {e} {next} is long fewer =
        let v = was-got one.read is in
        let o : OneEnd f l l' b prev at e next.at = subst (LeftEnd f l l' b prev at) is one.left in
        let more : length (strs_of f l') ≡ length (strs_of f l) + 1 = ap (λ (s : Said). length s.state.strings) o.says ∙ length-append (strs_of f l) _ in
        let h = g.holds in
        let h' = one.holds in
        let grown : length (g.done ++ e ∷ []) ≡ length g.done + 1 = length-append g.done (e ∷ []) in
        rw fewer
        (record {
          holds = h';
          done = g.done ++ e ∷ [];
          room = omega arith;
          long = long ∙ g.long;
          many = omega (arith, g.many);
          inside = λ lo. v.inside (g.inside lo);
          last = sym (last_snoc 0 g.done e);
          rises = rising_snoc 0 g.done e g.rises (omega (arith, g.last, o.rises));
          on = omega (arith, o.on, g.on);
          says = g.says ∙ rw (ends-step f prev at rest pos, v.says) (then-then (ends (rest - 1) e f next.at) _ _ ∙ shift (ends (rest - 1) e f next.at));
          left = o.says ∙ ap (λ (s : Said). add_string s (piece f b prev e)) g.left ∙ add-string (said f l₀) (pieces f b 0 g.done) (piece f b prev e) ∙ ap (add_strings (said f l₀)) (rw g.last (sym (pieces-snoc f b 0 g.done e)));
        })
      where
        shift : (o : Out (List ℕ)) → and_then o (λ es p. got (g.done ++ e ∷ es) p) ≡ and_then o (λ es p. got ((g.done ++ e ∷ []) ++ es) p)
        shift (got es p) = ap (λ (x : List ℕ). got x p) (sym (append_assoc g.done (e ∷ []) es))
        shift (no a b) = refl

-- ── a run of bytes ──

module _ (f : List ℕ) (at n : ℕ) where
  pub skip-no : length f < at + n → Skip f at n (Err (record { fault = fault.Short; place = at }))
  unfolding bytes when◌then◌else◌
  skip-no lt = record { says = rw (lt-leb (at + n) (length f) lt); inside = λ x. x }

  pub skip-got : at + n ≤ length f → Skip f at n (Ok (record { at = at + n }))
  unfolding bytes when◌then◌else◌
  skip-got le = record { says = rw (le-leb (at + n) (length f) le); inside = λ x. le }

-- ── the block ──

module _ {f l : List ℕ} {at : ℕ} (h : Holds f l) (low : at ≤ length f) {a : Outcome ℕ} (read : Read v64 (2 ^ 64) f at a) where
  abbrev wanted : Out Said
  wanted = turned (add_strings (said f l)) (string_block (view f l) f at)

  pub refused-number : {r : Refusal} → a ≡ Err r → Did f l at (Err r) wanted
  refused-number is =
      let w = was-refused read is in
      record { holds = h; says = rw (block_no (view f l) f at w.says) refl; inside = w.inside }

  module _ {n : ℕ} {next : Cursor} (is : a ≡ Ok (n, next)) where
    pub next-inside : next.at ≤ length f
    next-inside = (was-got read is).inside low

    is_read : v64 f at ≡ got n next.at
    is_read = (was-got read is).says

    pub too_many : 1024 - strings_in l < n → Did f l at (Err (record { fault = fault.Limit; place = at })) wanted
    too_many lt =
        record {
          holds = h;
          says = rw (block-full (view f l) f at is_read (omega (arith, h.strs-count, h.ok.strs-fit))) refl;
          inside = λ lo. lo;
        }

    module _ (few : n ≤ 1024 - strings_in l) {l' : List ℕ} {b : Outcome ℕ} (es : EndsRead f l l' (next.at + 4 * n) n next.at b) where
      room : length (strs_of f l) + n ≤ 1024
      room = omega (arith, h.strs-count, h.ok.strs-fit)

      pub ends-refused : {r : Refusal} → b ≡ Err r → Did f l' at (Err r) wanted
      ends-refused {r} isb =
          let w : ends n 0 f next.at ≡ no (number_of r.fault) r.place = subst (LeftEnds f l l' (next.at + 4 * n) n next.at) isb es.left in
          record {
            holds = es.holds;
            says = rw (block-no-ends (view f l) f at is_read room w) refl;
            inside = λ lo. rw isb at (es.inside next-inside);
          }

      pub block-done : {last : ℕ} {end : Cursor} {r : Step} → b ≡ Ok (last, end) → Skip f end.at last r → Did f l' at r wanted
      block-done {last} {end} {r} isb sk =
          let t : Ended f l l' (next.at + 4 * n) n next.at last end.at = subst (LeftEnds f l l' (next.at + 4 * n) n next.at) isb es.left in
          record {
            holds = es.holds;
            says = go t r (rw t.last at sk.says);
            inside = λ lo. sk.inside (rw isb at (es.inside next-inside));
          }
        where
          go : (t : Ended f l l' (next.at + 4 * n) n next.at last end.at) (r : Step) → out_step r (take (last_or 0 t.list) (drop end.at f)) ≡ bytes (last_or 0 t.list) f end.at → out_step r (said f l') ≡ wanted
          go t (Ok c) q = rw (block-got (view f l) f at is_read room t.read t.rises t.on (sym q)) (ap (λ (s : Said). got s c.at) t.says)
          go t (Err e) q = rw (block-no-bytes (view f l) f at is_read room t.read (sym q)) refl

-- ── what a caller learns, by the two ways on ──

-- the string block was read up to e: the table l became l'
pub record Strung (f l l' : List ℕ) (at e : ℕ) : Type 0 where
  pub strings : List (List ℕ)
  pub read : string_block (view f l) f at ≡ got strings e
  pub now : Now f l' (add_strings (said f l) strings)
  pub inside : at ≤ length f → e ≤ length f
  pub sound : Sound (said f l) → Sound (said f l')

pub record Unstrung (f l l' : List ℕ) (at n p : ℕ) : Type 0 where
  pub read : string_block (view f l) f at ≡ no n p
  pub holds : Holds f l'
  pub inside : at ≤ length f → p ≤ length f

module _ {f l l' : List ℕ} {at : ℕ} {r : Step} (did : Did f l' at r (turned (add_strings (said f l)) (string_block (view f l) f at))) where
  pub was-strung : {c : Cursor} → r ≡ Ok c → Strung f l l' at c.at
  was-strung {c} is = go (string_block (view f l) f at) refl (rw is at did.says)
    where
      go : (o : Out (List (List ℕ))) → string_block (view f l) f at ≡ o → got (said f l') c.at ≡ turned (add_strings (said f l)) o → Strung f l l' at c.at
      go (got ss e) re q =
          let z : said f l' ≡ add_strings (said f l) ss = cc q in
          let y : c.at ≡ e = cc q in
          record {
            strings = ss;
            read = rw y re;
            now = record { holds = did.holds; says = z };
            inside = λ lo. rw is at (did.inside lo);
            sound = λ k. rw z (strings-sound ss k);
          }
      go (no n p) re q = not-got (sym q)

  pub was-unstrung : {e : Refusal} → r ≡ Err e → Unstrung f l l' at (number_of e.fault) e.place
  was-unstrung {e} is = record { read = go (string_block (view f l) f at) (rw is at did.says); holds = did.holds; inside = λ lo. rw is at (did.inside lo) }
    where
      go : (o : Out (List (List ℕ))) → no (number_of e.fault) e.place ≡ turned (add_strings (said f l)) o → o ≡ no (number_of e.fault) e.place
      go (got ss p) q = not-got q
      go (no n p) q = cc q

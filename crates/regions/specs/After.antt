-- Once the sizes of a region's chunks are put down, all else that the table says is as it was, and the sizes say how many bytes
-- the region has. Assumes nothing.
use Rattle.std.specs.Prelude.{◌≡◌, refl, true, List, [], ◌∷◌, map, ℕ, ◌+◌, ◌<◌, min, eqb, length}
use Rattle.std.proofs.Common.{sym, ap, ◌∙◌, subst, arith}
use Rattle.paper.specs.Reader.{when◌then◌else◌}
use Rattle.paper.specs.Lists.{total}
use Rattle.paper.specs.File.{what}
use Rattle.paper.specs.Ledger.{Due, State, field_at}
use Rattle.paper.specs.Rules.{entered?}
use Rattle.paper.specs.Pieces.{zip}
use Rattle.paper.specs.Encode.{put_chunks}
use Rattle.laws.specs.Pools.{Pooled}
use Rattle.lay.specs.Laid.{most}
use Rattle.table.specs.View.{dues_of, view, said, Said}
use Rattle.reader.specs.Counting.{one, at?}
use Rattle.reader.specs.Sound.{Sound, Every, Declared, field_of_due, any-due}
use Rattle.lookups.specs.Low.{Bounded}
use Rattle.walk.specs.Listed.{Listed}
use Rattle.walk.specs.Region.{sizes}
use Rattle.regions.specs.Chunks.{put_count}
use Rattle.regions.specs.Sizes.{counted}
use Rattle.regions.specs.Turns.{RegionReady, Sized, what_due, region_bytes}
use Rattle.regions.specs.Sums.{pieces-length}

-- ── what holds of chunks that are due, whatever their sizes ──

every-declared : (s : State) (ds es : List (Due × ℕ)) → map what ds ≡ map what es → Every (Declared s) es → Every (Declared s) ds
every-declared s [] es same h = tt
every-declared s (d ∷ ds) [] same h = let z : ◌≡◌ {A = ℕ} 0 1 = cc same in absurd (omega arith)
every-declared s (d ∷ ds) (e ∷ es) same h =
    let first : e.0 ≡ d.0 = cc same in
    let rest : map what ds ≡ map what es = cc same in
    (other first h.0, every-declared s ds es rest h.1)
  where
    other : e.0 ≡ d.0 → Declared s e → Declared s d
    other q x =
        record {
          below = subst (λ (u : Due). u.field < length s.fields) q x.below;
          entered = subst (λ (u : Due). entered? s (field_at s u.field).owner ≡ true) q x.entered;
        }

times-due : (i : ℕ) (ds es : List (Due × ℕ)) → map what ds ≡ map what es → total (at? any-due field_of_due i) one ds ≡ total (at? any-due field_of_due i) one es
unfolding total
times-due i [] [] same = refl
times-due i [] (e ∷ es) same = let z : ◌≡◌ {A = ℕ} 0 1 = cc same in absurd (omega arith)
times-due i (d ∷ ds) [] same = let z : ◌≡◌ {A = ℕ} 0 1 = cc same in absurd (omega arith)
times-due i (d ∷ ds) (e ∷ es) same =
    let first : d.0 ≡ e.0 = cc same in
    let rest : map what ds ≡ map what es = cc same in
    ap (λ (u : Due). when eqb u.field i then 1 + total (at? any-due field_of_due i) one ds else total (at? any-due field_of_due i) one ds) first
    ∙ ap (λ (n : ℕ). when eqb e.0.field i then 1 + n else n) (times-due i ds es rest)

still-sound : {g g' : Said} → Sound g → g'.state ≡ g.state → map what g'.due ≡ map what g.due → g'.chunks ≡ g.chunks → Sound g'
still-sound {g} {g'} k state due chunks =
    record {
      block = rw state k.block;
      names = rw state k.names;
      flds = rw state k.flds;
      known = rw state k.known;
      once = λ u. rw state (k.once u);
      room = rw state k.room;
      spread = λ u. rw state (k.spread u);
      declared = rw state (every-declared g.state g'.due g.due due k.declared);
      apart = λ u. rw (times-due u g'.due g.due due) (k.apart u);
      chunks = rw (chunks, state) k.chunks;
    }

-- ── the table afterwards ──

zip-what : (ds : List Due) (ns : List ℕ) → length ns ≡ length ds → map what (zip ds ns) ≡ ds
unfolding zip
zip-what [] ns h = refl
zip-what (d ∷ ds) [] h = absurd (omega arith)
zip-what (d ∷ ds) (n ∷ ns) h = ap (λ (r : List Due). d ∷ r) (zip-what ds ns (omega arith))

counted-count : (bs : List (List ℕ)) → length (map counted bs) ≡ length bs
counted-count [] = refl
counted-count (b ∷ bs) = omega (arith, counted-count bs)

module _ {t l : List ℕ} {from e : ℕ} {l' : List ℕ} (S : Sized t l from e l') where
  pieces-count : length (put_chunks (view t l) (what_due l) S.chunks) ≡ length (what_due l)
  pieces-count = put_count (view t l) (what_due l) S.chunks S.count

  pub same_view : view t l' ≡ view t l
  same_view = ap (λ (g : Said). g.state) S.now.says

  pub same-dues : what_due l' ≡ what_due l
  same-dues =
      ap (λ (g : Said). map what g.due) S.now.says
      ∙ zip-what (what_due l) _ (counted-count (put_chunks (view t l) (what_due l) S.chunks) ∙ pieces-count)

  pub still-ready : RegionReady t l → RegionReady t l'
  still-ready R =
      record {
        holds = S.now.holds;
        sound = still-sound {g = said t l} {g' = said t l'} R.sound same_view same-dues (ap (λ (g : Said). g.chunks) S.now.says);
        bounded = subst (λ (s : State). Bounded s.log) (sym same_view) R.bounded;
        pooled = subst Pooled (sym same_view) R.pooled;
        listed = subst (λ (s : State). Listed s.fields) (sym same_view) R.listed;
      }

  -- the sum of the sizes is the length of the region
  pub sized-length : min (sizes (dues_of l')) most ≡ min (length (region_bytes (view t l) (what_due l) S.chunks)) most
  sized-length =
      ap (λ (g : Said). min (sizes g.due) most) S.now.says
      ∙ pieces-length (what_due l) (put_chunks (view t l) (what_due l) S.chunks) pieces-count

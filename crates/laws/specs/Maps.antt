-- Maps, once over the number of types: a reading is local; what is read is what is written, and back. What is written of an
-- element and of a size, how that is spelt, and the readers of both, are left open: a file and a line of its listing share each
-- law. Assumes nothing.
use Rattle.std.specs.Prelude.{◌≡◌, Bool, true, replicate}
use Rattle.std.proofs.Math.Path.{refl, sym, ap, subst}
use Rattle.std.proofs.Common.{◌∙◌}
use mathlib.Core.List.{List, [], ◌∷◌, ◌++◌, map, append_assoc, append-nil}
use Prim.Native.Nat.{ℕ, zero, suc}
use Rattle.paper.specs.Reader.{Reader, ◌>>=◌, give, each, times, repeat}
use Rattle.paper.specs.Lists.{flat}
use Rattle.paper.specs.Ledger.{Element, keys}
use Rattle.paper.specs.Maps.{key_and_rest, map_of, size_of, keys_due, opened, at_first, through_maps, all_through}
use Rattle.laws.specs.Laws.{Faithful, give-faithful, bind-faithful, repeat-faithful}
use Rattle.laws.specs.Says.{Says, weaker, give-says, bind-says, Run, times-says}
use Rattle.laws.specs.Bools.{not_so, and_split}

-- ── local ──

pub key-faithful : {A : Type 0} {r : Reader A} {q : Reader (List A)} → Faithful r → Faithful q → Faithful (key_and_rest r q)
unfolding key_and_rest
key-faithful R Q = bind-faithful R (λ a. bind-faithful Q (λ l. give-faithful (a ∷ l)))

pub map-faithful :
    {A : Type 0} {stop : Reader (List A)} {size : Reader ℕ} (sized : ℕ → A) {g : ℕ → Reader A} → Faithful stop → Faithful size → ((k : ℕ) → Faithful (g k)) → (ks : List ℕ)
    → Faithful (map_of stop size sized (map g ks))
unfolding map_of
map-faithful sized Z S G [] = Z
map-faithful sized Z S G (k ∷ []) = repeat-faithful 1 (G k)
map-faithful sized Z S G (k ∷ l ∷ ks) =
    bind-faithful S (λ n. bind-faithful (repeat-faithful n (key-faithful (G k) (map-faithful sized Z S G (l ∷ ks)))) (λ v. give-faithful _))

-- ── what is read is what is written ──

-- what is written of an element and of a size are lists of pieces of some sort B; Sp says which bytes are such a list
module _
    {B : Type 0} (Sp : List B → List ℕ → Type 0) (none : Sp [] []) (join : (ps qs : List B) (cs ds : List ℕ) → Sp ps cs → Sp qs ds → Sp (ps ++ qs) (cs ++ ds))
    (one : ℕ → Element → List B) (of : Element → List B) (ok : ℕ → Element → Bool) (fit : Element → Bool) where
  -- these are the elements of maps that are due, and these are their bytes, whatever follows
  pub record Stand (ks : List (List ℕ)) (es : List Element) (cs : List ℕ) : Type 0 where
    pub pieces : List B
    pub spelt : Sp pieces cs
    pub written : (due : List (List ℕ)) (more : List Element) → through_maps one of (es ++ more) (ks ++ due) ≡ pieces ++ through_maps one of more due
    pub kept : (due : List (List ℕ)) (more : List Element) → all_through ok fit (es ++ more) (ks ++ due) ≡ all_through ok fit more due

  stand-none : Stand [] [] []
  stand-none = record { pieces = []; spelt = none; written = λ due more. refl; kept = λ due more. refl }

  stand-join : {a b : List (List ℕ)} {es fs : List Element} {cs ds : List ℕ} → Stand a es cs → Stand b fs ds → Stand (a ++ b) (es ++ fs) (cs ++ ds)
  stand-join {a} {b} {es} {fs} {cs} {ds} x y =
      record {
        pieces = x.pieces ++ y.pieces;
        spelt = join x.pieces y.pieces cs ds x.spelt y.spelt;
        written = λ due more.
            rw (append_assoc a b due, append_assoc es fs more, append_assoc x.pieces y.pieces (through_maps one of more due))
            (x.written (b ++ due) (fs ++ more) ∙ ap (λ (z : List B). x.pieces ++ z) (y.written due more));
        kept = λ due more. rw (append_assoc a b due, append_assoc es fs more) (x.kept (b ++ due) (fs ++ more) ∙ y.kept due more);
      }

  stand-one : (k : ℕ) (e : Element) (cs : List ℕ) → Sp (one k e) cs → ok k e ≡ true → Stand ((k ∷ []) ∷ []) (e ∷ []) cs
  unfolding through_maps all_through at_first opened
  stand-one k e cs t h = record { pieces = one k e; spelt = t; written = λ due more. refl; kept = λ due more. rw h }

  -- nothing else is due, and nothing follows
  pub stand-alone : {ks : List ℕ} {es : List Element} {cs : List ℕ} → Stand (ks ∷ []) es cs → Sp (through_maps one of es (ks ∷ [])) cs × (all_through ok fit es (ks ∷ []) ≡ true)
  unfolding through_maps all_through
  stand-alone {ks} {es} {cs} p =
      let same : through_maps one of es (ks ∷ []) ≡ p.pieces = rw (append-nil es, append-nil p.pieces) at (p.written [] []) in
      (subst (λ (z : List B). Sp z cs) (sym same) p.spelt, rw (append-nil es) at (p.kept [] []))

  stand-size :
      (k l : ℕ) (ks : List ℕ) (n : ℕ) (bs : List ℕ) {es : List Element} {cs : List ℕ} → Sp (of (keys n)) bs → fit (keys n) ≡ true → Stand (keys_due k (l ∷ ks) n) es cs
      → Stand ((k ∷ l ∷ ks) ∷ []) (keys n ∷ es) (bs ++ cs)
  unfolding through_maps all_through at_first opened size_of
  stand-size k l ks n bs {es} {cs} t h x =
      record {
        pieces = of (keys n) ++ x.pieces;
        spelt = join (of (keys n)) x.pieces bs cs t x.spelt;
        written = λ due more. ap (λ (z : List B). of (keys n) ++ z) (x.written due more) ∙ sym (append_assoc (of (keys n)) x.pieces (through_maps one of more due));
        kept = λ due more. rw h (x.kept due more);
      }

  module _
      {stop : Reader (List Element)} {size : Reader ℕ} {g : ℕ → Reader Element} (Z : (P : List Element → List ℕ → Type 0) → Says stop P) (S : Says size (λ n cs. Sp (of (keys n)) cs × (fit (keys n) ≡ true)))
      (G : (k : ℕ) → Says (g k) (λ e cs. Sp (one k e) cs × (ok k e ≡ true))) where
    key-says :
        (k : ℕ) (ks : List ℕ) {q : Reader (List Element)} → Says q (Stand (ks ∷ [])) → Says (key_and_rest (g k) q) (Stand ((k ∷ []) ∷ ks ∷ []))
    unfolding key_and_rest
    key-says k ks Q =
        bind-says _ (G k) λ e cs p. bind-says _ Q λ es ds q. give-says (e ∷ es) _
        (rw (append-nil ds) (stand-join {a = (k ∷ []) ∷ []} {b = ks ∷ []} {es = e ∷ []} (stand-one k e cs p.0 p.1) q))

    run-stands :
        (k : ℕ) (ks : List ℕ) (n : ℕ) (l : List (List Element)) (cs : List ℕ)
        → Run (λ (u : Unit {0}) (x : Unit {0}) es cs. Stand ((k ∷ []) ∷ ks ∷ []) es cs) (λ u a. u) (replicate n tt) tt l cs
        → Stand (keys_due k ks n) (flat (λ v. v) l) cs
    unfolding keys_due flat
    run-stands k ks zero [] cs r = rw r stand-none
    run-stands k ks zero (v ∷ l) cs r = absurd r
    run-stands k ks (suc n) [] cs r = absurd r
    run-stands k ks (suc n) (v ∷ l) cs (c, d, e, p, q) =
        rw e (stand-join {a = (k ∷ []) ∷ ks ∷ []} {b = keys_due k ks n} {es = v} p (run-stands k ks n l d q))

    pub map-says : (ks : List ℕ) → Says (map_of stop size keys (map g ks)) (Stand (ks ∷ []))
    unfolding map_of repeat times each
    map-says [] = Z _
    map-says (k ∷ []) =
        bind-says _ (G k) λ e cs p. bind-says _ (give-says [] (λ l ds. (l ≡ []) × (ds ≡ [])) (refl, refl)) λ l ds q. give-says (e ∷ l) _
        (rw (q.0, q.1, append-nil cs) (stand-one k e cs p.0 p.1))
    map-says (k ∷ l ∷ ks) =
        bind-says _ S λ n cs p.
        bind-says _ (weaker _ (run-stands k (l ∷ ks) n) (times-says _ _ (λ u. key-says k (l ∷ ks) (map-says (l ∷ ks))) n (tt {0}))) λ v ds q.
        give-says _ _ (rw (append-nil ds) (stand-size k l ks n cs p.0 p.1 q))

-- ── what is written is read ──

-- T is the law that a reader takes such pieces as a value, St what must follow before it
module _
    {B : Type 0} (one : ℕ → Element → List B) (of : Element → List B) (ok : ℕ → Element → Bool) (fit : Element → Bool) (T : (A : Type 0) → Reader A → List B → A → Type 0) (St : List B → Type 0)
    (T-give : (A : Type 0) (a : A) → T A (give a) [] a)
    (T-bind : (A C : Type 0) (r : Reader A) (k : A → Reader C) (ps qs : List B) (a : A) (b : C) → T A r ps a → T C (k a) qs b → St qs → T C (r >>= k) (ps ++ qs) b)
    (St-none : St []) (St-join : (ps qs : List B) → St ps → St qs → St (ps ++ qs)) where
  none_more : (more : List Element) → all_through ok fit more [] ≡ true → more ≡ []
  unfolding all_through
  none_more [] h = refl
  none_more (e ∷ es) h = not_so h

  turned : {A C : Type 0} {r : Reader A} (g : A → C) {ps : List B} {a : A} → T A r ps a → T C (r >>= λ a. give (g a)) ps (g a)
  turned {A} {C} {r} g {ps} {a} R = subst (λ (z : List B). T C (r >>= λ a. give (g a)) z (g a)) (append-nil ps) (T-bind A C r (λ a. give (g a)) ps [] a (g a) R (T-give C (g a)) St-none)

  module _
      (stop : Reader (List Element)) {size : Reader ℕ} {g : ℕ → Reader Element} (S : (n : ℕ) → fit (keys n) ≡ true → T ℕ size (of (keys n)) n)
      (G : (k : ℕ) (e : Element) → ok k e ≡ true → T Element (g k) (one k e) e) (fit-size : (e : Element) → fit e ≡ true → e ≡ keys (size_of e))
      (before-one : (k : ℕ) (e : Element) → St (one k e)) (before-size : (e : Element) → St (of e)) where
    -- the elements begin with those of a value that the reader takes: of the maps due before, those after are left
    record Begins {A : Type 0} (r : Reader A) (join : A → List Element) (before : List (List ℕ)) (after : A → List (List ℕ)) (es : List Element) : Type 0 where
      value : A
      more : List Element
      bytes : List B
      is : es ≡ join value ++ more
      written : through_maps one of es before ≡ bytes ++ through_maps one of more (after value)
      kept : all_through ok fit more (after value) ≡ true
      taken : T A r bytes value
      stops : St bytes

    begin-then :
        {A D C : Type 0} {r : Reader A} (q : A → Reader D) (c : A → D → C) {i : A → List Element} {j : D → List Element} (k : C → List Element)
        {x : List (List ℕ)} {y : A → List (List ℕ)} {z : List (List ℕ)} {es : List Element} → ((a : A) (b : D) → k (c a b) ≡ i a ++ j b)
        → (P : Begins r i x y es) → Begins (q P.value) j (y P.value) (λ b. z) P.more
        → Begins (r >>= λ a. q a >>= λ b. give (c a b)) k x (λ b. z) es
    begin-then {A} {D} {C} {r} q c {i} {j} k {x} {y} {z} {es} h P Q =
        record {
          value = c P.value Q.value;
          more = Q.more;
          bytes = P.bytes ++ Q.bytes;
          is = P.is ∙ ap (λ (l : List Element). i P.value ++ l) Q.is ∙ sym (append_assoc (i P.value) (j Q.value) Q.more) ∙ ap (λ (l : List Element). l ++ Q.more) (sym (h P.value Q.value));
          written = P.written ∙ ap (λ (l : List B). P.bytes ++ l) Q.written ∙ sym (append_assoc P.bytes Q.bytes (through_maps one of Q.more z));
          kept = Q.kept;
          taken = T-bind A C r _ P.bytes Q.bytes P.value (c P.value Q.value) P.taken (turned (c P.value) Q.taken) Q.stops;
          stops = St-join P.bytes Q.bytes P.stops Q.stops;
        }

    begin-one : (k : ℕ) (due : List (List ℕ)) (es : List Element) → all_through ok fit es ((k ∷ []) ∷ due) ≡ true → Begins (g k) (λ e. e ∷ []) ((k ∷ []) ∷ due) (λ e. due) es
    unfolding through_maps all_through at_first opened
    begin-one k due [] h = not_so h
    begin-one k due (e ∷ es) h =
        let (a, b) = and_split (ok k e) _ h in
        record { value = e; more = es; bytes = one k e; is = refl; written = refl; kept = b; taken = G k e a; stops = before-one k e }

    begin-size :
        (k l : ℕ) (ks : List ℕ) (due : List (List ℕ)) (es : List Element) → all_through ok fit es ((k ∷ l ∷ ks) ∷ due) ≡ true
        → Begins size (λ n. keys n ∷ []) ((k ∷ l ∷ ks) ∷ due) (λ n. keys_due k (l ∷ ks) n ++ due) es
    unfolding through_maps all_through at_first opened
    begin-size k l ks due [] h = not_so h
    begin-size k l ks due (e ∷ es) h =
        let (a, b) = and_split (fit e) _ h in
        let is = fit-size e a in
        record {
          value = size_of e;
          more = es;
          bytes = of e;
          is = ap (λ (x : Element). x ∷ es) is;
          written = refl;
          kept = b;
          taken = rw (← is) at (S (size_of e) (rw (← is) a));
          stops = before-size e;
        }

    begin-keys :
        (k : ℕ) (ks : List ℕ) {q : Reader (List Element)}
        → ((due : List (List ℕ)) (es : List Element) → all_through ok fit es (ks ∷ due) ≡ true → Begins q (λ v. v) (ks ∷ due) (λ v. due) es)
        → (n : ℕ) (due : List (List ℕ)) (es : List Element) → all_through ok fit es (keys_due k ks n ++ due) ≡ true
        → Begins (repeat n (key_and_rest (g k) q)) (flat (λ v. v)) (keys_due k ks n ++ due) (λ v. due) es
    unfolding keys_due repeat times each flat key_and_rest
    begin-keys k ks M zero due es h =
        record { value = []; more = es; bytes = []; is = refl; written = refl; kept = h; taken = T-give _ []; stops = St-none }
    begin-keys k ks {q} M (suc n) due es h =
        let P = begin-one k (ks ∷ keys_due k ks n ++ due) es h in
        let Q = M (keys_due k ks n ++ due) P.more P.kept in
        let R = begin-then (λ e. q) (λ e v. e ∷ v) (λ v. v) (λ e v. refl) P Q in
        begin-then (λ v. repeat n (key_and_rest (g k) q)) (λ v l. v ∷ l) (flat (λ v. v)) (λ v l. refl) R (begin-keys k ks M n due R.more R.kept)

    begin-map :
        (ks : List ℕ) (due : List (List ℕ)) (es : List Element) → all_through ok fit es (ks ∷ due) ≡ true
        → Begins (map_of stop size keys (map g ks)) (λ v. v) (ks ∷ due) (λ v. due) es
    unfolding map_of repeat times each flat all_through at_first
    begin-map [] due [] t = not_so t
    begin-map [] due (e ∷ es) t = not_so t
    begin-map (k ∷ []) due es t =
        let P = begin-one k due es t in
        begin-then (λ e. give []) (λ e v. e ∷ v) (λ v. v) (λ e v. refl) P
        (record { value = []; more = P.more; bytes = []; is = refl; written = refl; kept = P.kept; taken = T-give _ []; stops = St-none })
    begin-map (k ∷ l ∷ ks) due es t =
        let P = begin-size k l ks due es t in
        begin-then (λ n. repeat n (key_and_rest (g k) (map_of stop size keys (map g (l ∷ ks))))) (λ n v. keys n ∷ flat (λ x. x) v) (λ v. v) (λ n v. refl) P
        (begin-keys k (l ∷ ks) (begin-map (l ∷ ks)) P.value due P.more P.kept)

    pub map-before :
        (ks : List ℕ) (es : List Element) → all_through ok fit es (ks ∷ []) ≡ true
        → T (List Element) (map_of stop size keys (map g ks)) (through_maps one of es (ks ∷ [])) es
    unfolding through_maps
    map-before ks es t =
        let M = begin-map ks [] es t in
        let none = none_more M.more M.kept in
        let all : es ≡ M.value = M.is ∙ ap (λ (l : List Element). M.value ++ l) none ∙ append-nil M.value in
        let same : through_maps one of es (ks ∷ []) ≡ M.bytes = M.written ∙ ap (λ (l : List Element). M.bytes ++ through_maps one of l []) none ∙ append-nil M.bytes in
        subst (λ (z : List B). T (List Element) (map_of stop size keys (map g ks)) z es) (sym same) (subst (λ (v : List Element). T (List Element) (map_of stop size keys (map g ks)) M.bytes v) (sym all) M.taken)

-- ── where each element is written alike ──

pub through_same :
    (w : Element → List ℕ) (ok : ℕ → Element → Bool) (fit : Element → Bool) (es : List Element) (due : List (List ℕ)) → all_through ok fit es due ≡ true
    → through_maps (λ k. w) w es due ≡ flat w es
unfolding through_maps all_through at_first flat
through_same w ok fit [] due h = refl
through_same w ok fit (e ∷ es) [] h = not_so h
through_same w ok fit (e ∷ es) ([] ∷ due) h = not_so h
through_same w ok fit (e ∷ es) ((k ∷ []) ∷ due) h =
    ap (λ (z : List ℕ). w e ++ z) (through_same w ok fit es (opened (k ∷ []) e ++ due) (and_split (ok k e) _ h).1)
through_same w ok fit (e ∷ es) ((k ∷ l ∷ ks) ∷ due) h =
    ap (λ (z : List ℕ). w e ++ z) (through_same w ok fit es (opened (k ∷ l ∷ ks) e ++ due) (and_split (fit e) _ h).1)

-- Check, listing and build, as calls: what they promise of each other. Assumes nothing.
use Rattle.std.specs.Prelude.{◌≡◌, refl, Bool, true, false, ◌↔◌, List, ℕ, ◌≤◌, leb, length}
use Rattle.std.proofs.Common.{sym, ◌∙◌, ap, arith, le_refl, leb-true, le-leb}
use Rattle.std.proofs.Math.Option.{Option, none, some}
use Rattle.paper.specs.Reader.{when◌then◌else◌, Out, got, no}
use Rattle.paper.specs.Ledger.{Ledger, nothing}
use Rattle.paper.specs.File.{file}
use Rattle.paper.specs.Listing.{print}
use Rattle.paper.specs.Encode.{encode}
use Rattle.paper.specs.Spell.{Spells}
use Rattle.paper.specs.Keeps.{in_turn, pair?, keeps?}
use Rattle.paper.specs.Calls.{Answer, done, refused, need, found, answered, read, check, fitted, listing, ◌>>=◌, ◌>>◌, build}
use Rattle.laws.specs.Says.{Bytes}
use Rattle.laws.specs.Columns.{bind_done, then-done, need-done, found-done, answered-done}
use Rattle.laws.specs.Exact.{file-kept, file-taken, spells-bytes, encode-fits}
use Rattle.laws.specs.Shortest.{encode-spells, encode-short}
use Rattle.laws.specs.Longer.{file-length}
use Rattle.paper.specs.Bounds.{most_bytes, table_length}
use Rattle.paper.specs.Rules.{after_pair}
use Rattle.paper.specs.Scan.{scan, short, file_of}
use Rattle.laws.specs.Bools.{every-split, every-join}
use Rattle.laws.specs.Built.{scan-kept, scan-taken}

-- a file that is accepted, of which l is what it says
pub record Accepted (f : List ℕ) (l : Ledger) : Type 0 where
  pub bytes : Bytes f
  pub reads : file f ≡ got l (length f)

-- a file is accepted exactly when it says a ledger that keeps the rules, and is not too long
pub accepted-exactly : (f : List ℕ) (l : Ledger) → Accepted f l ↔ ((keeps? l ≡ true) × Spells f l × (length f ≤ most_bytes))
accepted-exactly f l = (
  (λ a. let k = file-kept f l (length f) a.bytes a.reads in (k.1, k.0, file-length f l (length f) a.reads)),
  (λ (k, s, n). record { bytes = spells-bytes f l s k n; reads = file-taken f l s k n }),
)

-- a file says one ledger that keeps the rules, and no second one
pub says-one : (f : List ℕ) (l m : Ledger) → keeps? l ≡ true → Spells f l → keeps? m ≡ true → Spells f m → length f ≤ most_bytes → l ≡ m
says-one f l m k s k' s' n = let q = sym (file-taken f l s k n) ∙ file-taken f m s' k' n in cc q

-- the same contents in shortest coding: they are accepted, as the same ledger, and no file that says it is shorter
pub encode-accepted : (l : Ledger) → keeps? l ≡ true → Accepted (encode l) l
encode-accepted l k = (accepted-exactly (encode l) l).1 (k, encode-spells l, encode-fits l k)

pub accepted-short : (f : List ℕ) (l : Ledger) → Accepted f l → Accepted (encode l) l × (length (encode l) ≤ length f)
accepted-short f l a =
    let (k, s, _) = (accepted-exactly f l).0 a in
    (encode-accepted l k, encode-short f l s)

-- ── the file with a given listing ──

-- the listing of an accepted file is taken to the same contents in shortest coding
pub back : (f : List ℕ) (l : Ledger) → Accepted f l → file_of (print l) ≡ some (encode l)
unfolding file_of short when◌then◌else◌ keeps?
back f l a =
    let k = file-kept f l (length f) a.bytes a.reads in
    let (x, (y, (z, _))) = every-split _ k.1 in
    rw (scan-taken l z (leb-true (length l) 32 y), x)

-- what a text is taken to is accepted, and has this listing, and is in shortest coding
pub forth : (t f : List ℕ) → Bytes t → file_of t ≡ some f → (l : Ledger) × Accepted f l × (print l ≡ t) × (f ≡ encode l)
unfolding file_of short when◌then◌else◌ keeps?
forth t f b h = go (scan t) refl h
  where
    fits :
        (l : Ledger) → (print l ≡ t) × (in_turn pair? after_pair nothing l ≡ true) × (length l ≤ 32) → (c : Bool) → leb (length (encode l)) most_bytes ≡ c
        → (when c then some (encode l) else none) ≡ some f → (l : Ledger) × Accepted f l × (print l ≡ t) × (f ≡ encode l)
    fits l k true c q =
        let z : encode l ≡ f = cc q in
        (l, rw (← z) (encode-accepted l (every-join _ (c, (le-leb (length l) 32 k.2, (k.1, tt))))), k.0, sym z)
    fits l k false c q = let z : ◌≡◌ {A = ℕ} 0 1 = cc q in absurd (omega arith)

    go : (o : Out Ledger) → scan t ≡ o → short o ≡ some f → (l : Ledger) × Accepted f l × (print l ≡ t) × (f ≡ encode l)
    go (no n p) x q = let z : ◌≡◌ {A = ℕ} 0 1 = cc q in absurd (omega arith)
    go (got l e) x q = fits l (scan-kept t l e b x) (leb (length (encode l)) most_bytes) refl q

-- accepted files with the same listing say the same
pub one-ledger : (f g : List ℕ) (l m : Ledger) → Accepted f l → Accepted g m → print l ≡ print m → l ≡ m
unfolding keeps?
one-ledger f g l m a b e =
    let (x, (y, (z, _))) = every-split _ ((accepted-exactly f l).0 a).0 in
    let (x', (y', (z', _))) = every-split _ ((accepted-exactly g m).0 b).0 in
    let q = sym (scan-taken l z (leb-true (length l) 32 y)) ∙ ap scan e ∙ scan-taken m z' (leb-true (length m) 32 y') in
    cc q

-- a text is taken to no file exactly when no accepted file has this listing
pub none-exactly : (t : List ℕ) → Bytes t → (file_of t ≡ none) ↔ ((f : List ℕ) (l : Ledger) → Accepted f l → print l ≡ t → ⊥)
none-exactly t b = (there, λ h. here h (file_of t) refl)
  where
    there : file_of t ≡ none → (f : List ℕ) (l : Ledger) → Accepted f l → print l ≡ t → ⊥
    there n f l a e =
        let x : file_of t ≡ some (encode l) = rw e at (back f l a) in
        let z : ◌≡◌ {A = ℕ} 0 1 = cc (x, n) in
        omega arith

    here : ((f : List ℕ) (l : Ledger) → Accepted f l → print l ≡ t → ⊥) → (o : Option (List ℕ)) → file_of t ≡ o → file_of t ≡ none
    here h none x = x
    here h (some f) x = let (l, a, e, _) = forth t f b x in absurd (h f l a e)

-- ── the calls ──

-- what is written fits, and is written whole
pub fitted-inv : (room : ℕ) (t u : List ℕ) → fitted room t ≡ done u → (t ≡ u) × (length t ≤ room)
unfolding fitted
fitted-inv room t u q =
    let (a, b) = need-done (leb (length t) room) 19 _ u q in
    (cc b, leb-true (length t) room a)

pub fitted-done : (room : ℕ) (t : List ℕ) → length t ≤ room → fitted room t ≡ done t
unfolding fitted need ◌>>◌ ◌>>=◌
fitted-done room t h = rw (le-leb (length t) room h)

pub listing-inv : (room table : ℕ) (f t : List ℕ) → Bytes f → listing room table f ≡ done t → (l : Ledger) × Accepted f l × (print l ≡ t)
unfolding listing read
listing-inv room table f t b q =
    let (l, x, y) = bind_done _ _ t q in
    let (e, z) = answered-done _ l (then-done _ _ l x) in
    let k = file-kept f l e b z in
    (l, record { bytes = b; reads = z ∙ ap (got l) k.2 }, (fitted-inv room (print l) t y).0)

pub listing-done : (room table : ℕ) (f : List ℕ) (l : Ledger) → table_length ≤ table → length (print l) ≤ room → Accepted f l → listing room table f ≡ done (print l)
unfolding listing read need ◌>>=◌ ◌>>◌ answered
listing-done room table f l h r a = rw (le-leb table_length table h, a.reads) (fitted-done room (print l) r)

-- given room, building from the listing of what an accepted file says gives the same contents in shortest coding
pub build-done : (room table : ℕ) {f : List ℕ} (l : Ledger) → table_length ≤ table → length (encode l) ≤ room → Accepted f l → build room table (print l) ≡ done (encode l)
unfolding build need found ◌>>=◌ ◌>>◌
build-done room table {f} l h r a = rw (le-leb table_length table h, back f l a) (fitted-done room (encode l) r)

pub build-listing :
    (room table room' table' : ℕ) (f t : List ℕ) → Bytes f → listing room table f ≡ done t → table_length ≤ table' → length f ≤ room'
    → (l : Ledger) × Accepted f l × (build room' table' t ≡ done (encode l))
build-listing room table room' table' f t b q h r =
    let (l, a, e) = listing-inv room table f t b q in
    (l, a, ap (build room' table') (sym e) ∙ build-done room' table' l h (omega (arith, (accepted-short f l a).1)) a)

-- and the listing of a built file is the listing it was built from
pub listing-build :
    (room table room' : ℕ) (t f : List ℕ) → Bytes t → build room table t ≡ done f → length t ≤ room' → (listing room' table f ≡ done t) × Bytes f × (length f ≤ room)
unfolding build
listing-build room table room' t f b q r =
    let (h, q₁) = need-done (leb table_length table) 15 _ f q in
    let (g, x, q₂) = bind_done _ _ f q₁ in
    let (z, fits) = fitted-inv room g f q₂ in
    let (l, a, e, _) = forth t f b (found-done _ 20 g x ∙ ap {B = Option (List ℕ)} some z) in
    let room_for : length (print l) ≤ room' = rw e r in
    (rw e at (listing-done room' table f l (leb-true table_length table h) room_for a), a.bytes, rw z at fits)

-- a built file is in shortest coding, and comes back from its listing as it was
pub built-back :
    (room table room' table' room'' table'' : ℕ) (t f u : List ℕ) → Bytes t → build room table t ≡ done f → listing room' table' f ≡ done u → table_length ≤ table'' → length f ≤ room''
    → build room'' table'' u ≡ done f
unfolding build
built-back room table room' table' room'' table'' t f u b q p h r =
    let (_, q₁) = need-done (leb table_length table) 15 _ f q in
    let (g, x, q₂) = bind_done _ _ f q₁ in
    let (z, fits) = fitted-inv room g f q₂ in
    let (m, c, _, same) = forth t f b (found-done _ 20 g x ∙ ap {B = Option (List ℕ)} some z) in
    let (l, a, k) = build-listing room' table' room'' table'' f u c.bytes p h r in
    let is : l ≡ m = let y = sym a.reads ∙ c.reads in cc y in
    k ∙ ap {B = Answer (List ℕ)} done (ap encode is ∙ sym same)

-- what build answers, by the file that a text is taken to
outcome : ℕ → Option (List ℕ) → Answer (List ℕ)
outcome room o = found o 20 >>= fitted room

build-outcome : (room table : ℕ) (t : List ℕ) → table_length ≤ table → build room table t ≡ outcome room (file_of t)
unfolding build outcome need ◌>>◌ ◌>>=◌
build-outcome room table t h = rw (le-leb table_length table h)

not-20 : (room : ℕ) (f : List ℕ) → outcome room (some f) ≡ refused 20 → ⊥
unfolding outcome found need fitted ◌>>◌ ◌>>=◌
not-20 room f q = go (leb (length f) room) q
  where
    go : (b : Bool) → (need b 19 >> done f) ≡ refused 20 → ⊥
    go true q = let z : ◌≡◌ {A = ℕ} 0 1 = cc q in omega arith
    go false q = let z : ◌≡◌ {A = ℕ} 19 20 = cc q in omega arith

-- build refuses by 20 exactly when no accepted file has this listing
pub build-refuses :
    (room table : ℕ) (t : List ℕ) → Bytes t → table_length ≤ table
    → (build room table t ≡ refused 20) ↔ ((f : List ℕ) (room' : ℕ) → Bytes f → listing room' table f ≡ done t → ⊥)
unfolding outcome found ◌>>=◌
build-refuses room table t b h = (there, λ n. build-outcome room table t h ∙ here n (file_of t) refl)
  where
    there : build room table t ≡ refused 20 → (f : List ℕ) (room' : ℕ) → Bytes f → listing room' table f ≡ done t → ⊥
    there q f room' bf x =
        let (l, a, e) = listing-inv room' table f t bf x in
        let y : file_of t ≡ some (encode l) = rw e at (back f l a) in
        not-20 room (encode l) (ap (outcome room) (sym y) ∙ sym (build-outcome room table t h) ∙ q)

    here : ((f : List ℕ) (room' : ℕ) → Bytes f → listing room' table f ≡ done t → ⊥) → (o : Option (List ℕ)) → file_of t ≡ o → outcome room o ≡ refused 20
    here n none x = refl
    here n (some f) x =
        let (l, a, e, _) = forth t f b x in
        let r : length (print l) ≤ length t = rw e (le_refl (length t)) in
        absurd (n f (length t) a.bytes (rw e at (listing-done (length t) table f l h r a)))

-- ── check ──

check_inv : (table : ℕ) (f : List ℕ) → check table f ≡ done 0 → (l : Ledger) × (e : ℕ) × (file f ≡ got l e)
unfolding check read
check_inv table f q =
    let (l, x, _) = bind_done _ _ 0 q in
    let (e, y) = answered-done _ l (then-done _ _ l x) in
    (l, e, y)

check_done : (table : ℕ) (f : List ℕ) (l : Ledger) → table_length ≤ table → Accepted f l → check table f ≡ done 0
unfolding check read need answered ◌>>=◌ ◌>>◌
check_done table f l h a = rw (le-leb table_length table h, a.reads)

-- check accepts exactly the files that say a ledger that keeps the rules, and are not too long
pub check-exactly : (table : ℕ) (f : List ℕ) → table_length ≤ table → Bytes f → (check table f ≡ done 0) ↔ ((l : Ledger) × (keeps? l ≡ true) × Spells f l × (length f ≤ most_bytes))
check-exactly table f h b = (there, here)
  where
    there : check table f ≡ done 0 → (l : Ledger) × (keeps? l ≡ true) × Spells f l × (length f ≤ most_bytes)
    there q =
        let (l, e, y) = check_inv table f q in
        let k = file-kept f l e b y in
        (l, k.1, k.0, file-length f l e y)

    here : (l : Ledger) × (keeps? l ≡ true) × Spells f l × (length f ≤ most_bytes) → check table f ≡ done 0
    here (l, k, s, n) = check_done table f l h ((accepted-exactly f l).1 (k, s, n))

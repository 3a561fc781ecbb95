-- Demand 2, the round trips: from a file to its listing and back to the same contents in shortest coding, and from a listing to its file and
-- back. Assumes nothing.
use Rattle.std.specs.Prelude.{◌≡◌, refl, Bool, true, false, ◌↔◌, List, [], ◌∷◌, ◌++◌, ℕ, ◌≤◌, ◌<◌, Result, Ok, Err}
use Rattle.std.proofs.Math.Path.{sym, ap, subst}
use Rattle.std.proofs.Common.{◌∙◌, arith, length-append}
use Rattle.std.proofs.Math.ListN.{length, take, drop}
use Rattle.paper.specs.Bounds.{table_length}
use Rattle.paper.specs.Ledger.{Ledger}
use Rattle.paper.specs.Encode.{encode}
use Rattle.paper.specs.Listing.{print}
use Rattle.paper.specs.Keeps.{keeps?}
use Rattle.paper.specs.Calls.{Answer, done, refused, listing, build, Left, cleared, writes, after_listing, after_build}
use Rattle.laws.specs.Says.{Bytes}
use Rattle.laws.specs.Promises.{encode-accepted, listing-inv, listing-done, build-done, listing-build, build-refuses}
use Rattle.calls.specs.Told.{answer_of, after}
use Rattle.calls.specs.declared.replies.Refused.{Refused}
use Rattle.demands.specs.Replies.{written, unwritten, was-done, was-refused, front-is}
use Rattle.demands.specs.Answers.{cleared-length}
use Rattle.demands.specs.Exact.{Follows, accepted-follows, follows-accepted, shortest-follows, shortest, follows-one}

front_fits : {A : Type 0} (n : ℕ) (vs o out : List A) → n ≡ length vs → o ≡ vs ++ drop n out → n ≤ length o
front_fits n vs o out count is = rw (is, length-append vs (drop n out)) (omega arith)

-- the listing of an accepted file
pub listing-exactly :
    (f : List ℕ) (l : Ledger) (work out : List ℕ) {r : Result ℕ Refused} {w o : List ℕ} → table_length ≤ length work → length (print l) ≤ length out
    → after r w o ≡ after_listing f work out → Follows f l → (r ≡ Ok (length (print l))) × (o ≡ print l ++ drop (length (print l)) out)
unfolding after_listing
listing-exactly f l work out {r} h fits c F =
    written _ work out r c (print l) (listing-done (length out) (length work) f l h fits (follows-accepted F))

-- the shortest file with a given listing
pub build-exactly :
    (l : Ledger) (work out : List ℕ) {r : Result ℕ Refused} {w o : List ℕ} → table_length ≤ length work → length (encode l) ≤ length out
    → after r w o ≡ after_build (print l) work out → keeps? l ≡ true → (r ≡ Ok (length (encode l))) × (o ≡ encode l ++ drop (length (encode l)) out)
unfolding after_build
build-exactly l work out {r} h fits c k = written _ work out r c (encode l) (build-done (length out) (length work) l h fits (encode-accepted l k))

-- given room, building from an accepted file's listing gives the same contents in shortest coding
pub built-again :
    (f work out work' out' : List ℕ) (n : ℕ) {q : Result ℕ Refused} {w o v p : List ℕ} → Bytes f → after (Ok n) w o ≡ after_listing f work out
    → after q v p ≡ after_build (take n o) work' out' → table_length ≤ length work'
    → (l : Ledger) × Follows f l × (length (encode l) ≤ length out' → (q ≡ Ok (length (encode l))) × (p ≡ encode l ++ drop (length (encode l)) out'))
unfolding after_listing
built-again f work out work' out' n {q} {w} {o} {v} {p} b c d h =
    let (t, is, count, left) = was-done _ work out (Ok n) c n refl in
    let front = front-is n t o _ count left in
    let (l, A, e) = listing-inv (length out) (length work) f t b is in
    let F = accepted-follows A in
    let same : take n o ≡ print l = front ∙ sym e in
    (l, F, λ fits. build-exactly l work' out' h fits (d ∙ ap (λ (x : List ℕ). after_build x work' out') same) F.keeps)

-- and the listing of a built file is the listing it was built from
pub listed-again :
    (t work out work' out' : List ℕ) (n : ℕ) {q : Result ℕ Refused} {w o v p : List ℕ} → Bytes t → after (Ok n) w o ≡ after_build t work out
    → after q v p ≡ after_listing (take n o) work' out' → table_length ≤ length work' → length t ≤ length out' → (q ≡ Ok (length t)) × (p ≡ t ++ drop (length t) out')
unfolding after_listing after_build
listed-again t work out work' out' n {q} {w} {o} b c d h fits =
    let (f, is, count, left) = was-done _ work out (Ok n) c n refl in
    let front = front-is n f o _ count left in
    let L = listing-build (length out) (length work) (length out') t f b is fits in
    let (l, a, e) = listing-inv (length out') (length work) f t L.1 L.0 in
    let room : length (print l) ≤ length out' = rw e fits in
    let again : listing (length out') (length work') f ≡ done t = rw e at (listing-done (length out') (length work') f l h room a) in
    written _ work' out' q d t (ap (listing (length out') (length work')) front ∙ again)

-- build refuses by 20 exactly when no accepted file has this listing
pub refused-exactly :
    (t work out : List ℕ) {r : Result ℕ Refused} {w o : List ℕ} → Bytes t → table_length ≤ length work → after r w o ≡ after_build t work out
    → (r ≡ Err (record { number = 20 })) ↔ ((f : List ℕ) (l : Ledger) → Follows f l → print l ≡ t → ⊥)
unfolding after_build
refused-exactly t work out {r} b h c = (there, here)
  where
    R : (build (length out) (length work) t ≡ refused 20) ↔ ((f : List ℕ) (room' : ℕ) → Bytes f → listing room' (length work) f ≡ done t → ⊥)
    R = build-refuses (length out) (length work) t b h

    there : r ≡ Err (record { number = 20 }) → (f : List ℕ) (l : Ledger) → Follows f l → print l ≡ t → ⊥
    there is f l F e =
        let A = follows-accepted F in
        let L : listing (length t) (length work) f ≡ done t = rw e at (listing-done (length (print l)) (length work) f l h (omega arith) A) in
        R.0 (was-refused _ work out r c 20 is).0 f (length t) A.bytes L

    here : ((f : List ℕ) (l : Ledger) → Follows f l → print l ≡ t → ⊥) → r ≡ Err (record { number = 20 })
    here n =
        (unwritten _ work out r c 20
        (R.1 (λ f room x q. let (l, A, e) = listing-inv room (length work) f t x q in n f l (accepted-follows A) e))).0

-- ── one call behind the other, with one work table ──

-- a reply to a build from the listing of f that `text` has room for: the shortest of the files that say what f says
abbrev pub BuiltAgain : List ℕ → List ℕ → List ℕ → Result ℕ Refused → List ℕ → Type 0
BuiltAgain f text out r o =
    (l : Ledger) → Follows f l → length (print l) ≤ length text → length (encode l) ≤ length out
    → (r ≡ Ok (length (encode l))) × (o ≡ encode l ++ drop (length (encode l)) out)

-- a reply to a listing of the file that t was built to, where `file` has room for it: t again
abbrev pub ListedAgain : List ℕ → List ℕ → List ℕ → Result ℕ Refused → List ℕ → Type 0
ListedAgain t file out r o =
    (f : List ℕ) (l : Ledger) → Follows f l → print l ≡ t → length f ≤ length file → length t ≤ length out → (r ≡ Ok (length t)) × (o ≡ t ++ drop (length t) out)

-- a reply to a build from the listing of the file that t was built to, where all three have room: the same file, byte for byte
abbrev pub ComesBack : List ℕ → List ℕ → List ℕ → List ℕ → Result ℕ Refused → List ℕ → List ℕ → Type 0
ComesBack t file again out r f o =
    (l : Ledger) → keeps? l ≡ true → print l ≡ t → length (encode l) ≤ length file → length t ≤ length again → length (encode l) ≤ length out
    → (r ≡ Ok (length (encode l))) × (f ≡ encode l ++ drop (length (encode l)) file) × (o ≡ encode l ++ drop (length (encode l)) out)

not-refused : {B : Type 0} (n m : ℕ) → ◌≡◌ {A = Result ℕ Refused} (Err (record { number = n })) (Ok m) → B
not-refused n m q = let z : ◌≡◌ {A = ℕ} 0 1 = cc q in absurd (omega arith)

-- the listing was written, or not
module _ (f work text : List ℕ) {a : Result ℕ Refused} {w o : List ℕ} (c : after a w o ≡ after_listing f work text) where
  pub listing-room : {n : ℕ} → a ≡ Ok n → n ≤ length o
  unfolding after_listing
  listing-room {n} is = let (t, _, count, left) = was-done _ work text a c n is in front_fits n t o text count left

  pub listed-built : {n : ℕ} → a ≡ Ok n → (out : List ℕ) {q : Result ℕ Refused} {v p : List ℕ} → after q v p ≡ after_build (take n o) w out → table_length ≤ length work → BuiltAgain f text out q p
  unfolding after_listing writes
  listed-built {n} is out {q} {v} {p} d h l F _ fits =
      let z : w ≡ cleared work = ap (λ (x : Left ℕ). x.table) c in
      let (m, G, B) = built-again f work text w out n (follows-accepted F).bytes (subst (λ (x : Result ℕ Refused). after x w o ≡ after_listing f work text) is c) d (rw z (cleared-length work h)) in
      let same : m ≡ l = follows-one f m l G F in
      subst (λ (x : Ledger). length (encode x) ≤ length out → (q ≡ Ok (length (encode x))) × (p ≡ encode x ++ drop (length (encode x)) out)) same B fits

  pub listed-none : {n : ℕ} → a ≡ Err (record { number = n }) → (r : Result ℕ Refused) (out out' : List ℕ) → table_length ≤ length work → BuiltAgain f text out r out'
  listed-none {n} is r out out' h l F fits _ = not-refused n _ (sym is ∙ (listing-exactly f l work text h fits c F).0)

-- the file was written, or not
module _ (t work file : List ℕ) {a : Result ℕ Refused} {w o : List ℕ} (c : after a w o ≡ after_build t work file) where
  pub build-room : {n : ℕ} → a ≡ Ok n → n ≤ length o
  unfolding after_build
  build-room {n} is = let (f, _, count, left) = was-done _ work file a c n is in front_fits n f o file count left

  pub built-listed : {n : ℕ} → a ≡ Ok n → Bytes t → (out : List ℕ) {q : Result ℕ Refused} {v p : List ℕ} → after q v p ≡ after_listing (take n o) w out → table_length ≤ length work → ListedAgain t file out q p
  unfolding after_build writes
  built-listed {n} is b out d h f l F _ _ fits =
      let z : w ≡ cleared work = ap (λ (x : Left ℕ). x.table) c in
      listed-again t work file w out n b (subst (λ (x : Result ℕ Refused). after x w o ≡ after_build t work file) is c) d (rw z (cleared-length work h)) fits

  pub built-back : {n : ℕ} → a ≡ Ok n → (again out : List ℕ) {q : Result ℕ Refused} {p : List ℕ} → (table_length ≤ length w → BuiltAgain (take n o) again out q p) → table_length ≤ length work → ComesBack t file again out q o p
  unfolding after_build writes
  built-back {n} is again out B h l k same fits roomy enough =
      let c' : after a w o ≡ after_build (print l) work file = rw same c in
      let (x, y) = build-exactly l work file h fits c' k in
      let z : w ≡ cleared work = ap (λ (x : Left ℕ). x.table) c in
      let count : n ≡ length (encode l) = let u : ◌≡◌ {A = Result ℕ Refused} (Ok n) (Ok (length (encode l))) = sym is ∙ x in cc u in
      let front : take n o ≡ encode l = front-is n (encode l) o _ count y in
      let (u, v) = B (rw z (cleared-length work h)) l (rw front (shortest-follows l k)) (rw same roomy) enough in
      (u, y, v)

  pub unbuilt-back : {n : ℕ} → a ≡ Err (record { number = n }) → (r : Result ℕ Refused) (again out out' : List ℕ) → table_length ≤ length work → ComesBack t file again out r o out'
  unbuilt-back {n} is r again out out' h l k same fits _ _ =
      let c' : after a w o ≡ after_build (print l) work file = rw same c in
      not-refused n _ (sym is ∙ (build-exactly l work file h fits c' k).0)

  pub built-none : {n : ℕ} → a ≡ Err (record { number = n }) → (r : Result ℕ Refused) (out out' : List ℕ) → table_length ≤ length work → ListedAgain t file out r out'
  built-none {n} is r out out' h f l F same fits _ =
      let c' : after a w o ≡ after_build (print l) work file = rw same c in
      not-refused n _ (sym is ∙ (build-exactly l work file h (omega (arith, shortest f l F)) c' F.keeps).0)

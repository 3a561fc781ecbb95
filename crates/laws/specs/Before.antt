-- Readers of text: bytes that must stand there, and words that end where something else begins. Assumes nothing.
use Rattle.std.specs.Prelude.{◌≡◌, refl, Bool, true, false, List, [], ◌∷◌, ◌++◌, ℕ, ◌+◌, ◌-◌, ◌≤◌, ◌<◌, eqb, length, get_or, drop}
use Rattle.std.proofs.Common.{sym, ◌∙◌, ap, append_assoc, append-nil, arith, add-zero, lt_of_not-le, add-one, length-append, drop-cons, get_or-drop, eqb-true, eq-eqb, ne_eqb, ltb-true}
use Rattle.std.proofs.Math.Decide.{dec_le}
use Rattle.std.proofs.Math.ListN.{get_or-eq_default}
use Rattle.std.proofs.Math.Seq.{take-append_seam}
use Rattle.paper.specs.Reader.{when◌then◌else◌, Reader, Out, got, no as refused, ◌>>=◌, ◌>>◌, give, each, times, repeat}
use Rattle.paper.specs.Keeps.{bytes?}
use Rattle.paper.specs.Lists.{all, flat}
use Rattle.paper.specs.Scan.{bad, heed, byte_is, literal, ended}
use Rattle.laws.specs.Laws.{not-got}
use Rattle.laws.specs.Says.{Bytes, Says, Said, weaker, give-says, bind-says, then-says}
use Rattle.laws.specs.Takes.{Takes, give-takes, then-takes, after-length, after-drop, bytes-append}
use Rattle.laws.specs.Bools.{and_split}
use Rattle.laws.specs.ToEnd.{Never}

-- ── what is read is what stands there ──

-- a word at the front of a text
pub record Front {A : Type 0} (P : A → List ℕ → Type 0) (at : ℕ) (ts : List ℕ) (v : A) (e : ℕ) : Type 0 where
  pub word : List ℕ
  pub rest : List ℕ
  pub same : ts ≡ word ++ rest
  pub place : e ≡ at + length word
  pub says : P v word

front-said : {A : Type 0} {P : A → List ℕ → Type 0} (f : List ℕ) (at : ℕ) {v : A} {e : ℕ} → at ≤ length f → Front P at (drop at f) v e → Said P f at v e
front-said f at {v} {e} h F =
    let i = after-length f at F.word F.rest h F.same in
    let p = F.place in
    let n : e - at ≡ length F.word = omega arith in
    record { forward = omega arith; inside = omega arith; said = rw (n, F.same, take-append_seam F.word F.rest) F.says }

pub front-none : {A : Type 0} {P : A → List ℕ → Type 0} (ts : List ℕ) {at : ℕ} {a v : A} {e : ℕ} → P a [] → got a at ≡ got v e → Front P at ts v e
front-none ts {at} {a} {v} {e} p h =
    let q : a ≡ v = cc h in
    let r : at ≡ e = cc h in
    record { word = []; rest = ts; same = refl; place = omega arith; says = rw (← q) p }

-- a byte more in front of the word
pub front-more :
    {A : Type 0} {P Q : A → List ℕ → Type 0} {at : ℕ} {ts : List ℕ} {v : A} {e : ℕ} (c : ℕ) (F : Front P (at + 1) ts v e)
    → Q v (c ∷ F.word) → Front Q at (c ∷ ts) v e
front-more c F q =
    record { word = c ∷ F.word; rest = F.rest; same = ap (λ (z : List ℕ). c ∷ z) F.same; place = omega (arith, F.place); says = q }

-- a reader that looks only at what comes next
pub front-says :
    {A : Type 0} (g : ℕ → List ℕ → Out A) {P : A → List ℕ → Type 0}
    → ((ts : List ℕ) (at : ℕ) (v : A) (e : ℕ) → g at ts ≡ got v e → Front P at ts v e) → Says (λ t at. g at (drop at t)) P
front-says g F = record { at = λ f at v e b h q. front-said f at h (F (drop at f) at v e q) }

-- a byte that is seen is there
seen : (f : List ℕ) (p b : ℕ) → b < 256 → get_or f p 256 ≡ b → drop p f ≡ b ∷ drop (p + 1) f
seen f p b l q =
    let i : p < length f = elim (dec_le (length f) p) [ no d ↦ lt_of_not-le d | yes d ↦ let z = get_or-eq_default f 256 d in absurd (omega arith) ] in
    rw (add-one, ← q) (drop-cons f p 256 i)

pub byte_is-says : (b : ℕ) → b < 256 → Says (byte_is b) (λ u cs. b ∷ [] ≡ cs)
unfolding byte_is when◌then◌else◌
byte_is-says b l = record { at = λ f at v e c h q. go f at v e h (eqb (get_or f at 256) b) refl q }
  where
    go :
        (f : List ℕ) (at : ℕ) (v : Unit {0}) (e : ℕ) → at ≤ length f → (t : Bool) → eqb (get_or f at 256) b ≡ t
        → (when t then got tt (at + 1) else refused 20 0) ≡ got v e → Said (λ u cs. b ∷ [] ≡ cs) f at v e
    go f at v e h true t q =
        let z : at + 1 ≡ e = cc q in
        front-said f at h (record { word = b ∷ []; rest = drop (at + 1) f; same = seen f at b l (eqb-true (get_or f at 256) b t); place = sym z; says = refl })
    go f at v e h false t q = not-got q

pub bytes_back : (l : List ℕ) → bytes? l ≡ true → Bytes l
unfolding bytes? all
bytes_back [] h = tt
bytes_back (b ∷ l) h = let s = and_split _ (bytes? l) h in (ltb-true b 256 s.0, bytes_back l s.1)

pub literal-says : (bs : List ℕ) → bytes? bs ≡ true → Says (literal bs) (λ u cs. bs ≡ cs)
unfolding literal
literal-says bs h = go bs (bytes_back bs h)
  where
    go : (bs : List ℕ) → Bytes bs → Says (literal bs) (λ u cs. bs ≡ cs)
    go [] h = give-says tt _ refl
    go (b ∷ bs) h = then-says _ (byte_is-says b h.0) λ u cs p. weaker _ (λ v ds q. rw (← p, q)) (go bs h.1)

pub heed-says : (b : Bool) → Says (heed b) (λ u cs. (cs ≡ []) × (b ≡ true))
unfolding heed when◌then◌else◌ give
heed-says true = give-says tt _ (refl, refl)
heed-says false = record { at = λ f at v e b h q. not-got q }

pub bad-never : {A : Type 0} → Never {A = A} bad
unfolding bad
bad-never f at v e q = not-got q

pub bad-says : {A : Type 0} (P : A → List ℕ → Type 0) → Says bad P
bad-says P = record { at = λ f at v e b h q. absurd (bad-never f at v e q) }

-- a word, and the byte that ends it
pub ended-says :
    {A : Type 0} {r : Reader A} {P : A → List ℕ → Type 0} (c : ℕ) → c < 256 → (Q : A → List ℕ → Type 0) → ((a : A) (cs : List ℕ) → P a cs → Q a (cs ++ c ∷ []))
    → Says r P → Says (ended c r) Q
unfolding ended
ended-says c l Q imp R = bind-says _ R λ a cs p. then-says _ (byte_is-says c l) λ u ds q. give-says a _ (rw (← q) (imp a cs p))

pub word-says : {A : Type 0} {r : Reader A} (w : A → List ℕ) (c : ℕ) → c < 256 → Says r (λ a cs. w a ≡ cs) → Says (ended c r) (λ a cs. w a ++ c ∷ [] ≡ cs)
word-says w c l R = ended-says c l _ (λ a cs p. ap (λ (z : List ℕ). z ++ c ∷ []) p) R

-- after the byte b one reading, and else another
abbrev pub peek : {A : Type 0} → ℕ → Reader A → Reader A → Reader A
peek b r q t at = when eqb (get_or t at 256) b then r t (at + 1) else q t at

peek-yes : {A : Type 0} (b : ℕ) (r q : Reader A) (f : List ℕ) (at : ℕ) → eqb (get_or f at 256) b ≡ true → peek b r q f at ≡ (byte_is b >> r) f at
unfolding byte_is ◌>>◌ when◌then◌else◌
peek-yes b r q f at t = rw t

peek-no : {A : Type 0} (b : ℕ) (r q : Reader A) (f : List ℕ) (at : ℕ) → eqb (get_or f at 256) b ≡ false → peek b r q f at ≡ q f at
unfolding when◌then◌else◌
peek-no b r q f at t = rw t

pub peek-says :
    {A : Type 0} (b : ℕ) → b < 256 → {r q : Reader A} (P : A → List ℕ → Type 0) → Says r (λ a cs. P a (b ∷ cs)) → Says q P → Says (peek b r q) P
peek-says {A} b l {r} {q} P R Q = record { at = λ f at v e c h g. go f at v e c h (eqb (get_or f at 256) b) refl g }
  where
    after : Says (byte_is b >> r) P
    after = then-says P (byte_is-says b l) λ u cs p. rw (← p) R

    go :
        (f : List ℕ) (at : ℕ) (v : A) (e : ℕ) → Bytes f → at ≤ length f → (t : Bool) → eqb (get_or f at 256) b ≡ t → peek b r q f at ≡ got v e → Said P f at v e
    go f at v e c h true t g = after.at f at v e c h (sym (peek-yes b r q f at t) ∙ g)
    go f at v e c h false t g = Q.at f at v e c h (sym (peek-no b r q f at t) ∙ g)

-- ── what stands there is read ──

-- where these bytes stand, and what follows is as F says, the reader gives the value, and goes over the bytes
pub record TakesBefore {A : Type 0} (F : List ℕ → Type 0) (r : Reader A) (cs : List ℕ) (v : A) : Type 0 where
  pub bytes : Bytes cs
  pub at : (f : List ℕ) (p : ℕ) (rest : List ℕ) → p ≤ length f → F rest → drop p f ≡ cs ++ rest → r f p ≡ got v (p + length cs)

-- a tab, a newline or a comma comes next: a byte below every digit, so that the word does not go on
abbrev pub Stops : List ℕ → Type 0
Stops rest = get_or rest 0 256 < 48

-- no matter what follows
pub takes-before : {A : Type 0} (F : List ℕ → Type 0) {r : Reader A} {cs : List ℕ} {v : A} → Takes r cs v → TakesBefore F r cs v
takes-before F R = record { bytes = R.bytes; at = λ f p rest h s q. R.at f p rest h q }

pub before-takes : {A : Type 0} {r : Reader A} {cs : List ℕ} {v : A} → TakesBefore (λ rest. Unit {0}) r cs v → Takes r cs v
before-takes R = record { bytes = R.bytes; at = λ f p rest h q. R.at f p rest h tt q }

pub before-as : {A : Type 0} {F : List ℕ → Type 0} {r : Reader A} {cs ds : List ℕ} {v : A} → cs ≡ ds → TakesBefore F r cs v → TakesBefore F r ds v
before-as q t = rw (← q) t

pub bind-before :
    {A B : Type 0} {F G : List ℕ → Type 0} {r : Reader A} (k : A → Reader B) {cs ds : List ℕ} {a : A} {b : B} → TakesBefore F r cs a → TakesBefore G (k a) ds b
    → ((rest : List ℕ) → G rest → F (ds ++ rest)) → TakesBefore G (r >>= k) (cs ++ ds) b
unfolding ◌>>=◌
bind-before {A} {B} {F} {G} {r} k {cs} {ds} {a} {b} R K imp =
    record {
      bytes = bytes-append cs ds R.bytes K.bytes;
      at = λ f p rest h s q.
          let q' : drop p f ≡ cs ++ (ds ++ rest) = q ∙ append_assoc cs ds rest in
          let n : p + length cs + length ds ≡ p + length (cs ++ ds) = omega (arith, length-append cs ds) in
          rw (R.at f p (ds ++ rest) h (imp rest s) q')
          (K.at f (p + length cs) rest (after-length f p cs (ds ++ rest) h q') s (after-drop f p cs (ds ++ rest) q') ∙ ap (got b) n);
    }

pub then-before :
    {A B : Type 0} {G : List ℕ → Type 0} {r : Reader A} {k : Reader B} {cs ds : List ℕ} {a : A} {b : B} → Takes r cs a → TakesBefore G k ds b
    → TakesBefore G (r >> k) (cs ++ ds) b
unfolding ◌>>◌ ◌>>=◌
then-before {G} {r} {k} R K = bind-before {r = r} (λ a. k) (takes-before (λ rest. Unit {0}) R) K (λ rest s. tt)

-- a word in another form
pub turn-before :
    {A B : Type 0} {F : List ℕ → Type 0} {r : Reader A} (g : A → B) {cs : List ℕ} {a : A} → TakesBefore F r cs a → TakesBefore F (r >>= λ a. give (g a)) cs (g a)
turn-before {F} g {cs} {a} R = before-as (append-nil cs) (bind-before _ R (takes-before F (give-takes (g a))) (λ rest s. s))

pub if-before-true :
    {A : Type 0} {F : List ℕ → Type 0} {b : Bool} {r : Reader A} (q : Reader A) {cs : List ℕ} {v : A} → b ≡ true → TakesBefore F r cs v
    → TakesBefore F (when b then r else q) cs v
unfolding when◌then◌else◌
if-before-true q t R = rw t R

pub if-before-false :
    {A : Type 0} {F : List ℕ → Type 0} {b : Bool} (r : Reader A) {q : Reader A} {cs : List ℕ} {v : A} → b ≡ false → TakesBefore F q cs v
    → TakesBefore F (when b then r else q) cs v
unfolding when◌then◌else◌
if-before-false r t R = rw t R

-- a reader that looks only at what comes next
pub front-before :
    {A : Type 0} {F : List ℕ → Type 0} (g : ℕ → List ℕ → Out A) (cs : List ℕ) {v : A} → Bytes cs
    → ((at : ℕ) (rest : List ℕ) → F rest → g at (cs ++ rest) ≡ got v (at + length cs)) → TakesBefore F (λ t at. g at (drop at t)) cs v
front-before g cs b G = record { bytes = b; at = λ f p rest h s q. rw q (G p rest s) }

-- the byte at a place is the first of what comes next
pub first_of : (f : List ℕ) (p : ℕ) (ts : List ℕ) → drop p f ≡ ts → get_or f p 256 ≡ get_or ts 0 256
first_of f p ts q = rw (← q, get_or-drop, add-zero)

pub byte_is-takes : (b : ℕ) → b < 256 → Takes (byte_is b) (b ∷ []) tt
unfolding byte_is when◌then◌else◌
byte_is-takes b l = record { bytes = (l, tt); at = λ f p rest h q. rw (eq-eqb (get_or f p 256) b (first_of f p _ q)) }

pub literal-takes : (bs : List ℕ) → bytes? bs ≡ true → Takes (literal bs) bs tt
unfolding literal
literal-takes bs h = go bs (bytes_back bs h)
  where
    go : (bs : List ℕ) → Bytes bs → Takes (literal bs) bs tt
    go [] h = give-takes tt
    go (b ∷ bs) h = then-takes (byte_is-takes b h.0) (go bs h.1)

pub heed-takes : {b : Bool} → b ≡ true → Takes (heed b) [] tt
unfolding heed when◌then◌else◌ give
heed-takes h = rw h (give-takes tt)

pub ended-takes :
    {A : Type 0} {F : List ℕ → Type 0} {r : Reader A} {cs : List ℕ} {v : A} (c : ℕ) → c < 256 → ((rest : List ℕ) → F (c ∷ rest)) → TakesBefore F r cs v
    → Takes (ended c r) (cs ++ c ∷ []) v
unfolding ended
ended-takes {A} {F} {r} {cs} {v} c l s R =
    let E = bind-before {r = r} (λ a. byte_is c >> give a) R (takes-before (λ rest. Unit {0}) (then-takes (byte_is-takes c l) (give-takes v))) (λ rest u. s rest) in
    record { bytes = E.bytes; at = λ f p rest h q. E.at f p rest h tt q }

pub word-takes : {A : Type 0} {r : Reader A} {cs : List ℕ} {v : A} (c : ℕ) → c < 48 → TakesBefore Stops r cs v → Takes (ended c r) (cs ++ c ∷ []) v
word-takes c l R = ended-takes c (omega arith) (λ rest. l) R

pub peek-before-yes :
    {A : Type 0} {F : List ℕ → Type 0} (b : ℕ) → b < 256 → {r : Reader A} (q : Reader A) {cs : List ℕ} {v : A} → TakesBefore F r cs v
    → TakesBefore F (peek b r q) (b ∷ cs) v
peek-before-yes b l {r} q {cs} {v} R =
    let T = then-before (byte_is-takes b l) R in
    record { bytes = T.bytes; at = λ f p rest h s g. peek-yes b r q f p (eq-eqb (get_or f p 256) b (first_of f p _ g)) ∙ T.at f p rest h s g }

pub peek-before-no :
    {A : Type 0} {F : List ℕ → Type 0} (b : ℕ) (r : Reader A) {q : Reader A} {cs : List ℕ} {v : A} → ((rest : List ℕ) → F rest → get_or (cs ++ rest) 0 256 ≡ b → ⊥)
    → TakesBefore F q cs v → TakesBefore F (peek b r q) cs v
peek-before-no b r {q} {cs} {v} n Q =
    record {
      bytes = Q.bytes;
      at = λ f p rest h s g. peek-no b r q f p (ne_eqb (get_or f p 256) b (λ z. n rest s (sym (first_of f p _ g) ∙ z))) ∙ Q.at f p rest h s g;
    }

-- one after the other, each of which begins as F says
pub repeat-before :
    {A : Type 0} (F : List ℕ → Type 0) {r : Reader A} (w : A → List ℕ) → ((a : A) (rest : List ℕ) → F (w a ++ rest)) → (ok : A → Bool)
    → ((a : A) → ok a ≡ true → TakesBefore F r (w a) a) → (l : List A) → all ok l ≡ true → TakesBefore F (repeat (length l) r) (flat w l) l
unfolding repeat times each flat all
repeat-before F w s ok R [] h = takes-before F (give-takes [])
repeat-before {A} F w s ok R (a ∷ l) h =
    let (x, y) = and_split (ok a) (all ok l) h in
    bind-before _ (R a x) (turn-before (λ v. a ∷ v) (repeat-before F w s ok R l y)) (stops l)
  where
    stops : (l : List A) (rest : List ℕ) → F rest → F (flat w l ++ rest)
    stops [] rest t = t
    stops (b ∷ l) rest t = rw (append_assoc (w b) (flat w l) rest) (s b (flat w l ++ rest))

-- What the pieces of a ledger are written as, each by itself, in shortest coding: the form that the writer's code is held to. Assumes nothing.
use Rattle.std.specs.Prelude.{◌≡◌, refl, Bool, true, false, List, [], ◌∷◌, ◌++◌, ℕ, ◌+◌, ◌-◌, ◌^◌, ltb, ℤ, length, take, drop}
use Rattle.std.proofs.Common.{sym, append_assoc, append-nil}
use Rattle.std.proofs.Math.Option.{Option, none, some}
use Rattle.paper.specs.Reader.{when◌then◌else◌}
use Rattle.paper.specs.Numbers.{put, put_fixed, unsigned}
use Rattle.paper.specs.Lists.{flat, given?}
use Rattle.paper.specs.Ledger.{Kind, constant, plain, array, many, mapping, Element, flag, whole, float, link, annotation, keys, New, Head, Entry, Chunk, Due, State, field_at}
use Rattle.paper.specs.Maps.{size_of, opened, at_first, through_maps}
use Rattle.paper.specs.Rules.{known_due, with_strings, after_entry}
use Rattle.paper.specs.Pieces.{Piece, num, raw, free, firm, ends_from, zip, string_pieces, option_pieces, head_pieces, whole_pieces, kind_pieces, new_pieces, field_pieces, entry_pieces, entries_pieces, element_pieces, size_pieces, value_pieces, chunk_pieces, front_pieces}
use Rattle.paper.specs.Encode.{write, put_chunk, put_front}

-- ── the pieces as bytes ──

unfoldable pub put_strings : List (List ℕ) → List ℕ
put_strings ss = put (length ss) ++ flat (put_fixed 4) (ends_from 0 ss) ++ flat (λ s. s) ss

unfoldable pub put_option : Option ℕ → List ℕ
put_option none = []
put_option (some n) = put n

unfoldable pub put_head : Head → List ℕ
put_head h = put h.name ++ put_option h.super ++ put_option h.start ++ put h.count ++ (when given? h.super then put 0 else [])

unfoldable pub put_whole : ℕ → ℤ → List ℕ
put_whole k v = when ltb k 4 then put_fixed (2 ^ k) (unsigned (2 ^ k) v) else put (unsigned 8 v)

unfoldable pub put_kind : Kind → List ℕ
put_kind (constant k v) = put k ++ put_whole k v
put_kind (plain k) = put k
put_kind (array n k) = put 15 ++ put n ++ put k
put_kind (many c k) = put c ++ put k
put_kind (mapping ks) = put 20 ++ put (length ks) ++ flat put ks

unfoldable pub put_new : New × ℕ → List ℕ
put_new g = put 0 ++ put_kind g.0.kind ++ put g.0.name ++ put g.1

unfoldable pub put_fields : ℕ → List New → List ℕ → List ℕ
put_fields known news es = put (known + length news) ++ flat put (take known es) ++ flat put_new (zip news (drop known es))

unfoldable pub put_entry : ℕ → Entry × List ℕ → List ℕ
put_entry known e = put_head e.0.head ++ put_fields known e.0.news e.1

unfoldable pub put_entries : State → List Entry → List ℕ → List ℕ
put_entries s [] es = []
put_entries s (e ∷ l) es =
    let known = length (known_due s e.head) in
    let n = known + length e.news in
    put_entry known (e, take n es) ++ put_entries (after_entry s e) l (drop n es)

unfoldable pub put_element : ℕ → Element → List ℕ
put_element k (flag true) = 255 ∷ []
put_element k (flag false) = 0 ∷ []
put_element k (whole v) = put_whole (k - 7) v
put_element k (float w n) = put_fixed w n
put_element k (link n) = put n
put_element k (annotation name n) = put name ++ put n
put_element k (keys n) = put n

unfoldable pub put_size : Element → List ℕ
put_size e = put (size_of e)

unfoldable pub put_value : Kind → List Element → List ℕ
put_value (constant k v) es = []
put_value (plain k) es = flat (put_element k) es
put_value (array n k) es = flat (put_element k) es
put_value (many c k) es = put (length es) ++ flat (put_element k) es
put_value (mapping ks) es = through_maps put_element put_size es (ks ∷ [])

-- ── pieces one behind the other ──

write-append : (ps qs : List Piece) → write (ps ++ qs) ≡ write ps ++ write qs
unfolding write
write-append [] qs = refl
write-append (num n ∷ ps) qs = rw (write-append ps qs) (sym (append_assoc (put n) (write ps) (write qs)))
write-append (raw bs ∷ ps) qs = rw (write-append ps qs) (sym (append_assoc bs (write ps) (write qs)))

write-free : (n : ℕ) → write (free n) ≡ put n
unfolding write
write-free n = append-nil (put n)

write-firm : (bs : List ℕ) → write (firm bs) ≡ bs
unfolding write
write-firm bs = append-nil bs

write-flat : {A : Type 0} (w : A → List Piece) (v : A → List ℕ) → ((a : A) → write (w a) ≡ v a) → (l : List A) → write (flat w l) ≡ flat v l
unfolding flat write
write-flat w v h [] = refl
write-flat w v h (a ∷ l) = rw (write-append (w a) (flat w l), h a, write-flat w v h l)

write-both : (ps qs : List Piece) {cs ds : List ℕ} → write ps ≡ cs → write qs ≡ ds → write (ps ++ qs) ≡ cs ++ ds
write-both ps qs p q = rw (write-append ps qs, p, q)

-- ── so the pieces are written ──

option-write : (o : Option ℕ) → write (option_pieces o) ≡ put_option o
unfolding option_pieces put_option write
option-write none = refl
option-write (some n) = write-free n

if-write : (b : Bool) → write (when b then free 0 else []) ≡ (when b then put 0 else [])
unfolding when◌then◌else◌ write
if-write true = write-free 0
if-write false = refl

head-write : (h : Head) → write (head_pieces h) ≡ put_head h
unfolding head_pieces put_head
head-write h =
    write-both (free h.name ++ option_pieces h.super ++ option_pieces h.start ++ free h.count) _
    (write-both (free h.name ++ option_pieces h.super ++ option_pieces h.start) (free h.count)
    (write-both (free h.name ++ option_pieces h.super) _ (write-both (free h.name) _ (write-free h.name) (option-write h.super)) (option-write h.start))
    (write-free h.count))
    (if-write (given? h.super))

whole-write : (k : ℕ) (v : ℤ) → write (whole_pieces k v) ≡ put_whole k v
unfolding whole_pieces put_whole when◌then◌else◌
whole-write k v = go (ltb k 4)
  where
    go : (b : Bool) → write (when b then firm (put_fixed (2 ^ k) (unsigned (2 ^ k) v)) else free (unsigned 8 v)) ≡ (when b then put_fixed (2 ^ k) (unsigned (2 ^ k) v) else put (unsigned 8 v))
    go true = write-firm _
    go false = write-free _

kind-write : (k : Kind) → write (kind_pieces k) ≡ put_kind k
unfolding kind_pieces put_kind
kind-write (constant k v) = write-both (free k) _ (write-free k) (whole-write k v)
kind-write (plain k) = write-free k
kind-write (array n k) = write-both (free 15 ++ free n) (free k) (write-both (free 15) (free n) (write-free 15) (write-free n)) (write-free k)
kind-write (many c k) = write-both (free c) (free k) (write-free c) (write-free k)
kind-write (mapping ks) =
    write-both (free 20 ++ free (length ks)) _ (write-both (free 20) (free (length ks)) (write-free 20) (write-free (length ks))) (write-flat free put write-free ks)

new-write : (g : New × ℕ) → write (new_pieces g) ≡ put_new g
unfolding new_pieces put_new
new-write g =
    write-both (free 0 ++ kind_pieces g.0.kind ++ free g.0.name) (free g.1)
    (write-both (free 0 ++ kind_pieces g.0.kind) (free g.0.name) (write-both (free 0) _ (write-free 0) (kind-write g.0.kind)) (write-free g.0.name))
    (write-free g.1)

field-write : (known : ℕ) (gs : List New) (es : List ℕ) → write (field_pieces known gs es) ≡ put_fields known gs es
unfolding field_pieces put_fields
field-write known gs es =
    write-both (free (known + length gs) ++ flat free (take known es)) _
    (write-both (free (known + length gs)) _ (write-free (known + length gs)) (write-flat free put write-free (take known es)))
    (write-flat new_pieces put_new new-write (zip gs (drop known es)))

entry-write : (known : ℕ) (e : Entry × List ℕ) → write (entry_pieces known e) ≡ put_entry known e
unfolding entry_pieces put_entry
entry-write known e = write-both (head_pieces e.0.head) _ (head-write e.0.head) (field-write known e.0.news e.1)

entries-write : (s : State) (l : List Entry) (es : List ℕ) → write (entries_pieces s l es) ≡ put_entries s l es
unfolding entries_pieces put_entries write
entries-write s [] es = refl
entries-write s (e ∷ l) es =
    let known = length (known_due s e.head) in
    let n = known + length e.news in
    write-both (entry_pieces known (e, take n es)) _ (entry-write known (e, take n es)) (entries-write (after_entry s e) l (drop n es))

string-write : (ss : List (List ℕ)) → write (string_pieces ss) ≡ put_strings ss
unfolding string_pieces put_strings
string-write ss =
    write-both (free (length ss) ++ firm (flat (put_fixed 4) (ends_from 0 ss))) _
    (write-both (free (length ss)) _ (write-free (length ss)) (write-firm (flat (put_fixed 4) (ends_from 0 ss))))
    (write-firm (flat (λ s. s) ss))

pub put-front : (s : State) (ss : List (List ℕ)) (l : List Entry) (es : List ℕ) → put_front s ss l es ≡ put_strings ss ++ put (length l) ++ put_entries (with_strings s ss) l es
unfolding front_pieces put_front
put-front s ss l es =
    write-both (string_pieces ss ++ free (length l)) _ (write-both (string_pieces ss) _ (string-write ss) (write-free (length l))) (entries-write (with_strings s ss) l es)

element-write : (k : ℕ) (e : Element) → write (element_pieces k e) ≡ put_element k e
unfolding element_pieces put_element
element-write k (flag true) = write-firm (255 ∷ [])
element-write k (flag false) = write-firm (0 ∷ [])
element-write k (whole v) = whole-write (k - 7) v
element-write k (float w n) = write-firm (put_fixed w n)
element-write k (link n) = write-free n
element-write k (annotation m n) = write-both (free m) (free n) (write-free m) (write-free n)
element-write k (keys n) = write-free n

first-write : (ks : List ℕ) (e : Element) → write (at_first [] element_pieces size_pieces ks e) ≡ at_first [] put_element put_size ks e
unfolding at_first size_pieces put_size write
first-write [] e = refl
first-write (k ∷ []) e = element-write k e
first-write (k ∷ l ∷ ks) e = write-free (size_of e)

maps-write : (es : List Element) (due : List (List ℕ)) → write (through_maps element_pieces size_pieces es due) ≡ through_maps put_element put_size es due
unfolding through_maps write
maps-write [] due = refl
maps-write (e ∷ es) [] = refl
maps-write (e ∷ es) (ks ∷ due) = write-both (at_first [] element_pieces size_pieces ks e) _ (first-write ks e) (maps-write es (opened ks e ++ due))

value-write : (k : Kind) (es : List Element) → write (value_pieces k es) ≡ put_value k es
unfolding value_pieces put_value write
value-write (constant k v) es = refl
value-write (plain k) es = write-flat (element_pieces k) (put_element k) (element-write k) es
value-write (array n k) es = write-flat (element_pieces k) (put_element k) (element-write k) es
value-write (many c k) es = write-both (free (length es)) (flat (element_pieces k) es) (write-free (length es)) (write-flat (element_pieces k) (put_element k) (element-write k) es)
value-write (mapping ks) es = maps-write es (ks ∷ [])

pub put-chunk : (s : State) (d : Due) (c : Chunk) → put_chunk s d c ≡ flat (put_value (field_at s d.field).kind) c
unfolding chunk_pieces put_chunk
put-chunk s d c = write-flat (value_pieces (field_at s d.field).kind) (put_value (field_at s d.field).kind) (value-write (field_at s d.field).kind) c

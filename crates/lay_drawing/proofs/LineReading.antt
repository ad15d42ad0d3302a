-- What is read of a line is what is written.
use Rattle.std.proofs.Common.{◌≡◌, ℕ, zero, suc, ◌^◌, ◌<◌, ◌≤◌, ◌==◌, ◌&&◌, true, false, List, [], ◌∷◌, length, refl, sym, ap, subst, ◌∙◌, arith, ℤ, pos, negsuc, neg_ℤ, codes, Option, Some, None, IfSome, option_and_then, nat_lt, nat_le}
use Rattle.std.proofs.lemmas.Int.{ints}
use Rattle.std.specs.List.{join_with_byte}
use Rattle.std.specs.Str.Parse.{AllDigits}
use Rattle.std.specs.Fmt.{decimal, signed_decimal}
use Rattle.std.proofs.lemmas.Bool.{ltb-true, lt-ltb, le-leb, leb-true, ne_eqb, eqb-true, and_parts}
use Rattle.std.proofs.lemmas.Option.{option_and_then_some}
use Rattle.std.proofs.lemmas.Slice.Eq.{bytes_eq-Decides}
use Rattle.std.proofs.lemmas.List.Splits.{join_with_byte-slice_split}
use Rattle.std.proofs.lemmas.Str.Parse.{digit_from_value}
use Rattle.std.proofs.lemmas.Fmt.{decimal_is_IsNumeral}
use Rattle.lay_units.specs.declared.length.Unit.{Unit as Length}
use Rattle.lay_units.specs.declared.records.Rect.{Rect}
use Rattle.lay_units.specs.Units.{IsPosition}
use Rattle.lay_frag.specs.declared.frag.Frag.{Frag}
use Rattle.lay_frag.specs.declared.frag.FragKind.{FragKind}
use Rattle.lay_frag.specs.declared.frag.FragKind.TheVariants.{Box, Line as LineBox, Text}
use Rattle.lay_frag.specs.Lines.{kind_word}
use Rattle.lay_frag.specs.Pieces.{IsRectInRange}
use Rattle.lay_drawing.specs.declared.line.EditReply.{EditReply}
use Rattle.lay_drawing.specs.declared.line.EditReply.TheVariants.{Accepted, Refused, NoMemory}
use Rattle.lay_drawing.specs.declared.line.Line.{Line}
use Rattle.lay_drawing.specs.declared.line.Line.TheVariants.{Edit, Publish, Latest, Sync, Final, Laid, Piece}
use Rattle.lay_drawing.specs.Lines.{line_fields, line_body, reply_fields, place_fields, shown_field, IsLine, IsPlace, IsReply, IsVersion, IsPiece}
use Rattle.lay_drawing.specs.Reading.{number_of, small_of, negative_of, positive_of, position_of, counted_of, version_shown, read_of, fault_of, place_field, refused_of, reply_of, edit_line, kind_of, rect_of, piece_of, line_of, fields_in, line_in, is_word}
use Rattle.lay_drawing.proofs.Numerals.{by_bool, number_complete, number_sound}
use Rattle.lay_drawing.proofs.Splitting.{Lacks, AllLack, decimal_lacks, lacks_more, fields_back, joined_lack}

-- numbers

small_complete : (n : ℕ) → n < 2 ^ 32 → small_of (decimal n) ≡ Some n
small_complete n small = let e = number_complete n (omega arith) in let less : nat_lt n (2 ^ 32) ≡ true = lt-ltb n (2 ^ 32) small in rw (e, less) refl

positive_complete : (n : ℕ) → n < 2 ^ 62 → positive_of (decimal n) ≡ Some (record { 0 = pos n })
positive_complete n small = let e = number_complete n (omega arith) in let less : nat_lt n (2 ^ 62) ≡ true = lt-ltb n (2 ^ 62) small in rw (e, less) refl

negative_complete : (n : ℕ) → suc n < 2 ^ 62 → negative_of (decimal (suc n)) ≡ Some (record { 0 = negsuc n })
negative_complete n small =
    let e = number_complete (suc n) (omega arith) in
    let less : nat_lt (suc n) (2 ^ 62) ≡ true = lt-ltb (suc n) (2 ^ 62) small in
    let some : nat_lt 0 (suc n) ≡ true = lt-ltb 0 (suc n) (omega arith) in
    rw (e, less, some) refl

position_digits : (ds : List ℕ) → AllDigits 10 ds → 0 < length ds → position_of ds ≡ positive_of ds
position_digits [] digits some = absurd (omega arith)
position_digits (d ∷ ds) digits some =
    let range = digit_from_value d digits.0 in
    let other : (d == 45) ≡ false = ne_eqb d 45 (λ e. omega (arith, range.0, e)) in
    rw other refl

position_complete : (z : ℤ) → IsPosition z → position_of (signed_decimal z) ≡ Some (record { 0 = z })
position_complete (pos n) is =
    let small : n < 2 ^ 62 = omega (arith, ints, is.1) in
    let k = decimal_is_IsNumeral n (omega arith) in
    position_digits (decimal n) k.0.1 k.0.0 ∙ positive_complete n small
position_complete (negsuc n) is = negative_complete n (omega (arith, ints, is.0))

counted_complete : (n : ℕ) → n < 2 ^ 64 → counted_of (decimal n ∷ []) ≡ Some n
counted_complete n small = number_complete n small

fault_complete : (k : ℕ) → 1 ≤ k → k ≤ 11 → fault_of (69 ∷ decimal k) ≡ Some k
fault_complete k low high =
    let e = number_complete k (omega arith) in
    let a : nat_le 1 k ≡ true = le-leb 1 k low in
    let b : nat_le k 11 ≡ true = le-leb k 11 high in
    rw (e, a, b) refl

place_complete : (o : Option ℕ) → IsPlace o → place_field (place_fields o) ≡ Some o
place_complete None is = refl
place_complete (Some n) is = ap (option_and_then (λ k. Some (Some k))) (counted_complete n is)

reply_complete : (r : EditReply) → IsReply r → reply_of (reply_fields r) ≡ Some r
reply_complete (Accepted v) is = ap (option_and_then (λ n. Some (Accepted n))) (counted_complete v is)
reply_complete (Refused k place) is = rw (fault_complete k is.0 is.1, place_complete place is.2) refl
reply_complete NoMemory is = refl

word_differs : (ds : List ℕ) → AllDigits 10 ds → is_word (codes "nomemory") ds ≡ false
word_differs ds digits = by_bool (is_word (codes "nomemory") ds)
    (λ same. let e = (bytes_eq-Decides ds (codes "nomemory")).0 same in let d : AllDigits 10 (codes "nomemory") = subst (AllDigits 10) e digits in absurd (omega (arith, (digit_from_value 110 d.0).1)))
    (λ other. other)

shown_complete : (o : Option ℕ) → IsVersion o → version_shown (shown_field o ∷ []) ≡ Some o
shown_complete None is = refl
shown_complete (Some v) is =
    let other = word_differs (decimal v) (decimal_is_IsNumeral v is).0.1 in
    rw other (ap (option_and_then (λ n. Some (Some n))) (counted_complete v is))

rect_complete : (r : Rect) → IsRectInRange r → rect_of (signed_decimal r.x.0 ∷ signed_decimal r.y.0 ∷ signed_decimal r.w.0 ∷ signed_decimal r.h.0 ∷ []) ≡ Some r
rect_complete r is = rw (position_complete r.x.0 is.x, position_complete r.y.0 is.y, position_complete r.w.0 is.w, position_complete r.h.0 is.h) refl

piece_complete : (kind : FragKind) (f : Frag) → IsPiece f
    → piece_of kind (decimal f.node.0 ∷ decimal f.part ∷ signed_decimal f.rect.x.0 ∷ signed_decimal f.rect.y.0 ∷ signed_decimal f.rect.w.0 ∷ signed_decimal f.rect.h.0 ∷ []) ≡ Some (record f { kind = kind })
piece_complete kind f is = rw (small_complete f.node.0 is.0, small_complete f.part is.1, rect_complete f.rect is.2) refl

piece_line_complete : (kind : FragKind) (f : Frag) → IsPiece f
    → line_of (kind_word kind ∷ decimal f.node.0 ∷ decimal f.part ∷ signed_decimal f.rect.x.0 ∷ signed_decimal f.rect.y.0 ∷ signed_decimal f.rect.w.0 ∷ signed_decimal f.rect.h.0 ∷ []) ≡ Some (Piece (record f { kind = kind }))
piece_line_complete Box f is = ap (option_and_then (λ g. Some (Piece g))) (piece_complete Box f is)
piece_line_complete LineBox f is = ap (option_and_then (λ g. Some (Piece g))) (piece_complete LineBox f is)
piece_line_complete Text f is = ap (option_and_then (λ g. Some (Piece g))) (piece_complete Text f is)

fields_complete : (l : Line) → IsLine l → line_of (line_fields l) ≡ Some l
fields_complete (Edit e i r) is = rw (small_complete e is.0, small_complete i is.1, reply_complete r is.2) refl
fields_complete (Publish v) is = ap (option_and_then (λ n. Some (Publish n))) (counted_complete v is)
fields_complete (Latest e i s) is = rw (small_complete e is.0, small_complete i is.1, shown_complete s is.2) refl
fields_complete (Sync e i s) is = rw (small_complete e is.0, small_complete i is.1, shown_complete s is.2) refl
fields_complete (Final v) is = ap (option_and_then (λ n. Some (Final n))) (counted_complete v is)
fields_complete (Laid v) is = ap (option_and_then (λ n. Some (Laid n))) (counted_complete v is)
fields_complete (Piece f) is = piece_line_complete f.kind f is

-- no field has a space or a linefeed in it

signed_lacks : (c : ℕ) (z : ℤ) → c < 45 → IsPosition z → Lacks c (signed_decimal z)
signed_lacks c (pos n) low is = decimal_lacks c n (omega arith) (omega (arith, ints, is.1))
signed_lacks c (negsuc n) low is = lacks_more c 45 (decimal (suc n)) (ne_eqb 45 c (λ e. omega arith)) (decimal_lacks c (suc n) (omega arith) (omega (arith, ints, is.0)))

Low : List ℕ → Type 0
Low [] = Unit {0}
Low (x ∷ xs) = (45 < x) × Low xs

letters : (c : ℕ) → c < 45 → (xs : List ℕ) → Low xs → Lacks c xs
unfolding Low
letters c low [] high = refl
letters c low (x ∷ xs) high = lacks_more c x xs (ne_eqb x c (λ e. omega (arith, high.0))) (letters c low xs high.1)

kind_lacks : (c : ℕ) (kind : FragKind) → c < 45 → Lacks c (kind_word kind)
unfolding Low
kind_lacks c Box low = letters c low (codes "box") (omega arith, (omega arith, (omega arith, tt)))
kind_lacks c LineBox low = letters c low (codes "line") (omega arith, (omega arith, (omega arith, (omega arith, tt))))
kind_lacks c Text low = letters c low (codes "text") (omega arith, (omega arith, (omega arith, (omega arith, tt))))

nomemory_lacks : (c : ℕ) → c < 45 → Lacks c (codes "nomemory")
unfolding Low
nomemory_lacks c low = letters c low (codes "nomemory") (omega arith, (omega arith, (omega arith, (omega arith, (omega arith, (omega arith, (omega arith, (omega arith, tt))))))))

shown_lacks : (c : ℕ) (o : Option ℕ) → c < 45 → IsVersion o → Lacks c (shown_field o)
unfolding Low
shown_lacks c (Some v) low is = decimal_lacks c v (omega arith) is
shown_lacks c None low is = nomemory_lacks c low

place_lacks : (c : ℕ) (o : Option ℕ) → c < 45 → IsPlace o → AllLack c (place_fields o)
unfolding Low
place_lacks c (Some n) low is = (letters c low (codes "at") (omega arith, (omega arith, tt)), (decimal_lacks c n (omega arith) is, tt))
place_lacks c None low is = tt

reply_lacks : (c : ℕ) (r : EditReply) → c < 45 → IsReply r → AllLack c (reply_fields r)
unfolding Low
reply_lacks c (Accepted v) low is = (letters c low (codes "accepted") (omega arith, (omega arith, (omega arith, (omega arith, (omega arith, (omega arith, (omega arith, (omega arith, tt)))))))), (decimal_lacks c v (omega arith) is, tt))
reply_lacks c (Refused k place) low is = (
  letters c low (codes "refused") (omega arith, (omega arith, (omega arith, (omega arith, (omega arith, (omega arith, (omega arith, tt))))))),
  (lacks_more c 69 (decimal k) (ne_eqb 69 c (λ e. omega arith)) (decimal_lacks c k (omega arith) (omega (arith, is.1))), place_lacks c place low is.2),
)
reply_lacks c NoMemory low is = (nomemory_lacks c low, tt)

all_lack : (c : ℕ) (l : Line) → c < 45 → IsLine l → AllLack c (line_fields l)
unfolding Low
all_lack c (Edit e i r) low is = (letters c low (codes "edit") (omega arith, (omega arith, (omega arith, (omega arith, tt)))), (decimal_lacks c e (omega arith) (omega (arith, is.0)), (decimal_lacks c i (omega arith) (omega (arith, is.1)), reply_lacks c r low is.2)))
all_lack c (Publish v) low is = (letters c low (codes "publish") (omega arith, (omega arith, (omega arith, (omega arith, (omega arith, (omega arith, (omega arith, tt))))))), (decimal_lacks c v (omega arith) is, tt))
all_lack c (Latest e i s) low is = (letters c low (codes "latest") (omega arith, (omega arith, (omega arith, (omega arith, (omega arith, (omega arith, tt)))))), (decimal_lacks c e (omega arith) (omega (arith, is.0)), (decimal_lacks c i (omega arith) (omega (arith, is.1)), (shown_lacks c s low is.2, tt))))
all_lack c (Sync e i s) low is = (letters c low (codes "sync") (omega arith, (omega arith, (omega arith, (omega arith, tt)))), (decimal_lacks c e (omega arith) (omega (arith, is.0)), (decimal_lacks c i (omega arith) (omega (arith, is.1)), (shown_lacks c s low is.2, tt))))
all_lack c (Final v) low is = (letters c low (codes "final") (omega arith, (omega arith, (omega arith, (omega arith, (omega arith, tt))))), (decimal_lacks c v (omega arith) is, tt))
all_lack c (Laid v) low is = (letters c low (codes "laid") (omega arith, (omega arith, (omega arith, (omega arith, tt)))), (decimal_lacks c v (omega arith) is, tt))
all_lack c (Piece f) low is = (
  kind_lacks c f.kind low,
  (
    decimal_lacks c f.node.0 (omega arith) (omega (arith, is.0)),
    (
      decimal_lacks c f.part (omega arith) (omega (arith, is.1)),
      (signed_lacks c f.rect.x.0 low is.2.x, (signed_lacks c f.rect.y.0 low is.2.y, (signed_lacks c f.rect.w.0 low is.2.w, (signed_lacks c f.rect.h.0 low is.2.h, tt)))),
    ),
  ),
)

-- a line has no linefeed before its end
pub body_lacks : (l : Line) → IsLine l → Lacks 10 (line_body l)
body_lacks l is = joined_lack 10 (line_fields l) refl (all_lack 10 l (omega arith) is)

back : (fields : List (List ℕ)) → 0 < length fields → AllLack 32 fields → fields_in (join_with_byte 32 fields) ≡ fields
back [] some lack = absurd (omega arith)
back (x ∷ xs) some lack = fields_back x xs lack

has_fields : (l : Line) → 0 < length (line_fields l)
has_fields (Edit e i r) = omega arith
has_fields (Publish v) = omega arith
has_fields (Latest e i s) = omega arith
has_fields (Sync e i s) = omega arith
has_fields (Final v) = omega arith
has_fields (Laid v) = omega arith
has_fields (Piece f) = omega arith

-- a line that is written is read
pub line_complete : (l : Line) → IsLine l → line_in (line_body l) ≡ Some l
line_complete l is = ap line_of (back (line_fields l) (has_fields l) (all_lack 32 l (omega arith) is)) ∙ fields_complete l is

-- what is read is written so

small_sound : (t : List ℕ) (n : ℕ) → small_of t ≡ Some n → (t ≡ decimal n) × (n < 2 ^ 32)
small_sound t n e = option_and_then_some _ (number_of t) n e (λ m read rest.
    let s = number_sound t m read in
    by_bool (nat_lt m (2 ^ 32))
    (λ less. let f = rw less at rest in let q : m ≡ n = cc in (s.0 ∙ ap decimal q, omega (arith, ltb-true m (2 ^ 32) less, q)))
    (λ more. let f = rw more at rest in absurd cc))

is_nil : {X : Type 0} (ys : List X) → (length ys == 0) ≡ true → ys ≡ []
is_nil [] q = refl
is_nil (y ∷ ys) q = absurd (omega (arith, eqb-true (suc (length ys)) 0 q))

counted_sound : (fields : List (List ℕ)) (n : ℕ) → counted_of fields ≡ Some n → (fields ≡ decimal n ∷ []) × (n < 2 ^ 64)
counted_sound [] n e = absurd cc
counted_sound (x ∷ xs) n e = by_bool (length xs == 0)
    (λ none. let f = rw none at e in let s = number_sound x n f in let q = is_nil xs none in (let g = s.0 in cc, s.1))
    (λ some. let f = rw some at e in absurd cc)

word_sound : (word field : List ℕ) → is_word word field ≡ true → field ≡ word
word_sound word field e = (bytes_eq-Decides field word).0 e

negated : (m : ℕ) → 0 < m → m < 2 ^ 62 → (45 ∷ decimal m ≡ signed_decimal (neg_ℤ (pos m))) × IsPosition (neg_ℤ (pos m))
negated zero some small = absurd (omega arith)
negated (suc m) some small = (refl, (omega (arith, ints), omega (arith, ints)))

negative_sound : (t : List ℕ) (v : Length) → negative_of t ≡ Some v → (45 ∷ t ≡ signed_decimal v.0) × IsPosition v.0
negative_sound t v e = option_and_then_some _ (number_of t) v e (λ m read rest.
    let s = number_sound t m read in
    by_bool (nat_lt 0 m && nat_lt m (2 ^ 62))
    (λ less.
    let f = rw less at rest in
    let q : record { 0 = neg_ℤ (pos m) } ≡ v = cc in
    let parts = and_parts (nat_lt 0 m) (nat_lt m (2 ^ 62)) less in
    let k = negated m (ltb-true 0 m parts.0) (ltb-true m (2 ^ 62) parts.1) in
    (ap (λ (ds : List ℕ). 45 ∷ ds) s.0 ∙ k.0 ∙ ap (λ (u : Length). signed_decimal u.0) q, subst (λ (u : Length). IsPosition u.0) q k.1))
    (λ more. let f = rw more at rest in absurd cc))

positive_sound : (t : List ℕ) (v : Length) → positive_of t ≡ Some v → (t ≡ signed_decimal v.0) × IsPosition v.0
positive_sound t v e = option_and_then_some _ (number_of t) v e (λ m read rest.
    let s = number_sound t m read in
    by_bool (nat_lt m (2 ^ 62))
    (λ less.
    let f = rw less at rest in
    let q : record { 0 = pos m } ≡ v = cc in
    let small = ltb-true m (2 ^ 62) less in
    let range : IsPosition (pos m) = (omega (arith, ints), omega (arith, ints)) in
    (s.0 ∙ ap (λ (u : Length). signed_decimal u.0) q, subst (λ (u : Length). IsPosition u.0) q range))
    (λ more. let f = rw more at rest in absurd cc))

position_sound : (t : List ℕ) (v : Length) → position_of t ≡ Some v → (t ≡ signed_decimal v.0) × IsPosition v.0
position_sound [] v e = absurd cc
position_sound (x ∷ xs) v e = by_bool (x == 45)
    (λ minus. let f = rw minus at e in let s = negative_sound xs v f in (ap (λ (y : ℕ). y ∷ xs) (eqb-true x 45 minus) ∙ s.0, s.1))
    (λ plus. let f = rw plus at e in positive_sound (x ∷ xs) v f)

abbrev rect_fields : Rect → List (List ℕ)
rect_fields r = signed_decimal r.x.0 ∷ signed_decimal r.y.0 ∷ signed_decimal r.w.0 ∷ signed_decimal r.h.0 ∷ []

rect_sound : (fields : List (List ℕ)) (r : Rect) → rect_of fields ≡ Some r → (fields ≡ rect_fields r) × IsRectInRange r
rect_sound [] r e = absurd cc
rect_sound (x ∷ []) r e = absurd cc
rect_sound (x ∷ y ∷ []) r e = absurd cc
rect_sound (x ∷ y ∷ w ∷ []) r e = absurd cc
rect_sound (x ∷ y ∷ w ∷ h ∷ rest) r e = by_bool (length rest == 0)
    (λ none.
    let f = rw none at e in
    option_and_then_some _ (position_of x) r f (λ left a e1.
    option_and_then_some _ (position_of y) r e1 (λ top b e2.
    option_and_then_some _ (position_of w) r e2 (λ width c e3.
    option_and_then_some _ (position_of h) r e3 (λ height d e4.
    let q : record { x = left; y = top; w = width; h = height } ≡ r = cc in
    let p1 = position_sound x left a in
    let p2 = position_sound y top b in
    let p3 = position_sound w width c in
    let p4 = position_sound h height d in
    let z = is_nil rest none in
    let same : x ∷ y ∷ w ∷ h ∷ rest ≡ rect_fields (record { x = left; y = top; w = width; h = height }) = (let g1 = p1.0 in let g2 = p2.0 in let g3 = p3.0 in let g4 = p4.0 in cc) in
    (same ∙ ap rect_fields q, subst IsRectInRange q (record { x = p1.1; y = p2.1; w = p3.1; h = p4.1 })))))))
    (λ some. let f = rw some at e in absurd cc)

abbrev piece_fields : Frag → List (List ℕ)
piece_fields f = decimal f.node.0 ∷ decimal f.part ∷ rect_fields f.rect

piece_sound : (kind : FragKind) (fields : List (List ℕ)) (f : Frag) → piece_of kind fields ≡ Some f → (fields ≡ piece_fields f) × (f.kind ≡ kind) × IsPiece f
piece_sound kind [] f e = absurd cc
piece_sound kind (x ∷ []) f e = absurd cc
piece_sound kind (x ∷ y ∷ rest) f e =
    option_and_then_some _ (small_of x) f e (λ node a e1.
    option_and_then_some _ (small_of y) f e1 (λ part b e2.
    option_and_then_some _ (rect_of rest) f e2 (λ r c e3.
    let q : record { kind = kind; node = record { 0 = node }; part = part; rect = r } ≡ f = cc in
    let p1 = small_sound x node a in
    let p2 = small_sound y part b in
    let p3 = rect_sound rest r c in
    let same : x ∷ y ∷ rest ≡ piece_fields (record { kind = kind; node = record { 0 = node }; part = part; rect = r }) = (let g1 = p1.0 in let g2 = p2.0 in let g3 = p3.0 in cc) in
    (same ∙ ap piece_fields q, ap (λ (g : Frag). g.kind) (sym q), subst IsPiece q (p1.1, p2.1, p3.1)))))

kind_sound : (word : List ℕ) (kind : FragKind) → kind_of word ≡ Some kind → word ≡ kind_word kind
kind_sound word kind e = by_bool (is_word (codes "box") word)
    (λ a. let f = rw a at e in let q : Box ≡ kind = cc in word_sound (codes "box") word a ∙ ap kind_word q)
    (λ na. let f = rw na at e in by_bool (is_word (codes "line") word)
    (λ b. let g = rw b at f in let q : LineBox ≡ kind = cc in word_sound (codes "line") word b ∙ ap kind_word q)
    (λ nb. let g = rw nb at f in by_bool (is_word (codes "text") word)
    (λ c. let h = rw c at g in let q : Text ≡ kind = cc in word_sound (codes "text") word c ∙ ap kind_word q)
    (λ nc. let h = rw nc at g in absurd cc)))

shown_sound : (fields : List (List ℕ)) (o : Option ℕ) → version_shown fields ≡ Some o → (fields ≡ shown_field o ∷ []) × IsVersion o
shown_sound [] o e = absurd cc
shown_sound (x ∷ xs) o e = by_bool (is_word (codes "nomemory") x && (length xs == 0))
    (λ both_are.
    let f = rw both_are at e in
    let q : None ≡ o = cc in
    let parts = and_parts (is_word (codes "nomemory") x) (length xs == 0) both_are in
    let g1 = word_sound (codes "nomemory") x parts.0 in
    let g2 = is_nil xs parts.1 in
    subst (λ (u : Option ℕ). (x ∷ xs ≡ shown_field u ∷ []) × IsVersion u) q (let same : x ∷ xs ≡ codes "nomemory" ∷ [] = cc in same, tt))
    (λ other.
    let f = rw other at e in
    option_and_then_some _ (counted_of (x ∷ xs)) o f (λ v a e1.
    let q : Some v ≡ o = cc in
    let s = counted_sound (x ∷ xs) v a in
    subst (λ (u : Option ℕ). (x ∷ xs ≡ shown_field u ∷ []) × IsVersion u) q s))

abbrev Read : Type 0
Read = ℕ × ℕ × Option ℕ

abbrev read_fields : Read → List (List ℕ)
read_fields r = decimal r.0 ∷ decimal r.1 ∷ shown_field r.2 ∷ []

abbrev IsRead : Read → Type 0
IsRead r = (r.0 < 2 ^ 32) × (r.1 < 2 ^ 32) × IsVersion r.2

read_sound : (fields : List (List ℕ)) (r : Read) → read_of fields ≡ Some r → (fields ≡ read_fields r) × IsRead r
read_sound [] r e = absurd cc
read_sound (x ∷ []) r e = absurd cc
read_sound (x ∷ y ∷ rest) r e =
    option_and_then_some _ (small_of x) r e (λ editor a e1.
    option_and_then_some _ (small_of y) r e1 (λ index b e2.
    option_and_then_some _ (version_shown rest) r e2 (λ shown c e3.
    let made : Read = (editor, index, shown) in
    let q : made ≡ r = cc in
    let p1 = small_sound x editor a in
    let p2 = small_sound y index b in
    let p3 = shown_sound rest shown c in
    let same : x ∷ y ∷ rest ≡ decimal editor ∷ decimal index ∷ shown_field shown ∷ [] = (let g1 = p1.0 in let g2 = p2.0 in let g3 = p3.0 in cc) in
    (same ∙ ap read_fields q, subst IsRead q (p1.1, p2.1, p3.1)))))

fault_sound : (field : List ℕ) (k : ℕ) → fault_of field ≡ Some k → (field ≡ 69 ∷ decimal k) × (1 ≤ k) × (k ≤ 11)
fault_sound [] k e = absurd cc
fault_sound (x ∷ xs) k e =
    option_and_then_some _ (number_of xs) k e (λ m a e1.
    by_bool (x == 69 && nat_le 1 m && nat_le m 11)
    (λ all.
    let f = rw all at e1 in
    let q : m ≡ k = cc in
    let p1 = and_parts (x == 69 && nat_le 1 m) (nat_le m 11) all in
    let p2 = and_parts (x == 69) (nat_le 1 m) p1.0 in
    let letter : x ≡ 69 = eqb-true x 69 p2.0 in
    let s = number_sound xs m a in
    let same : x ∷ xs ≡ 69 ∷ decimal m = (let g = s.0 in cc) in
    (same ∙ ap (λ (n : ℕ). 69 ∷ decimal n) q, omega (arith, leb-true 1 m p2.1, q), omega (arith, leb-true m 11 p1.1, q)))
    (λ some. let f = rw some at e1 in absurd cc))

place_sound : (fields : List (List ℕ)) (o : Option ℕ) → place_field fields ≡ Some o → (fields ≡ place_fields o) × IsPlace o
place_sound [] o e = let q : None ≡ o = cc in (ap place_fields q, subst IsPlace q tt)
place_sound (word ∷ rest) o e = by_bool (is_word (codes "at") word)
    (λ a. let f = rw a at e in
    option_and_then_some _ (counted_of rest) o f (λ n b e1.
    let q : Some n ≡ o = cc in
    let w = word_sound (codes "at") word a in
    let s = counted_sound rest n b in
    let same : word ∷ rest ≡ codes "at" ∷ decimal n ∷ [] = (let g = s.0 in cc) in
    (same ∙ ap place_fields q, subst IsPlace q s.1)))
    (λ na. let f = rw na at e in absurd cc)

-- a fault, and the place behind it
refused_sound : (fields : List (List ℕ)) (r : EditReply) → refused_of fields ≡ Some r → (codes "refused" ∷ fields ≡ reply_fields r) × IsReply r
refused_sound [] r e = absurd cc
refused_sound (field ∷ rest) r e =
    option_and_then_some _ (fault_of field) r e (λ k a e1.
    option_and_then_some _ (place_field rest) r e1 (λ o b e2.
    let q : Refused k o ≡ r = cc in
    let s = fault_sound field k a in
    let t = place_sound rest o b in
    let same : codes "refused" ∷ field ∷ rest ≡ codes "refused" ∷ (69 ∷ decimal k) ∷ place_fields o = (let g = s.0 in let h = t.0 in cc) in
    (same ∙ ap reply_fields q, subst IsReply q (s.1, s.2, t.1))))

reply_sound : (fields : List (List ℕ)) (r : EditReply) → reply_of fields ≡ Some r → (fields ≡ reply_fields r) × IsReply r
reply_sound [] r e = absurd cc
reply_sound (word ∷ rest) r e = by_bool (is_word (codes "accepted") word)
    (λ a. let f = rw a at e in
    option_and_then_some _ (counted_of rest) r f (λ v b e1.
    let q : Accepted v ≡ r = cc in
    let w = word_sound (codes "accepted") word a in
    let s = counted_sound rest v b in
    let same : word ∷ rest ≡ codes "accepted" ∷ decimal v ∷ [] = (let g = s.0 in cc) in
    (same ∙ ap reply_fields q, subst IsReply q s.1)))
    (λ na. let f = rw na at e in by_bool (is_word (codes "refused") word)
    (λ a. let g = rw a at f in
    let w = word_sound (codes "refused") word a in
    let s = refused_sound rest r g in
    let same : word ∷ rest ≡ codes "refused" ∷ rest = cc in
    (same ∙ s.0, s.1))
    (λ nb. let g = rw nb at f in by_bool (is_word (codes "nomemory") word && (length rest == 0))
    (λ a. let h = rw a at g in
    let q : NoMemory ≡ r = cc in
    let parts = and_parts (is_word (codes "nomemory") word) (length rest == 0) a in
    let w = word_sound (codes "nomemory") word parts.0 in
    let z = is_nil rest parts.1 in
    let same : word ∷ rest ≡ codes "nomemory" ∷ [] = cc in
    (same ∙ ap reply_fields q, subst IsReply q tt))
    (λ nc. let h = rw nc at g in absurd cc)))

edit_sound : (fields : List (List ℕ)) (l : Line) → edit_line fields ≡ Some l → (codes "edit" ∷ fields ≡ line_fields l) × IsLine l
edit_sound [] l e = absurd cc
edit_sound (x ∷ []) l e = absurd cc
edit_sound (x ∷ y ∷ rest) l e =
    option_and_then_some _ (small_of x) l e (λ editor a e1.
    option_and_then_some _ (small_of y) l e1 (λ index b e2.
    option_and_then_some _ (reply_of rest) l e2 (λ reply c e3.
    let q : Edit editor index reply ≡ l = cc in
    let p1 = small_sound x editor a in
    let p2 = small_sound y index b in
    let p3 = reply_sound rest reply c in
    let same : codes "edit" ∷ x ∷ y ∷ rest ≡ codes "edit" ∷ decimal editor ∷ decimal index ∷ reply_fields reply = (let g1 = p1.0 in let g2 = p2.0 in let g3 = p3.0 in cc) in
    (same ∙ ap line_fields q, subst IsLine q (p1.1, p2.1, p3.1)))))

-- a word, and a count behind it
count_line : (make : ℕ → Line) (word : List ℕ) → ((n : ℕ) → line_fields (make n) ≡ word ∷ decimal n ∷ []) → ((n : ℕ) → n < 2 ^ 64 → IsLine (make n))
    → (field : List ℕ) (rest : List (List ℕ)) (l : Line) → is_word word field ≡ true → option_and_then (λ n. Some (make n)) (counted_of rest) ≡ Some l → (field ∷ rest ≡ line_fields l) × IsLine l
count_line make word written fits field rest l a e =
    option_and_then_some _ (counted_of rest) l e (λ n b e1.
    let q : make n ≡ l = cc in
    let w = word_sound word field a in
    let s = counted_sound rest n b in
    let same : field ∷ rest ≡ word ∷ decimal n ∷ [] = (let g = s.0 in cc) in
    (same ∙ sym (written n) ∙ ap line_fields q, subst IsLine q (fits n s.1)))

-- a word, and a read behind it
read_line : (make : Read → Line) (word : List ℕ) → ((r : Read) → line_fields (make r) ≡ word ∷ read_fields r) → ((r : Read) → IsRead r → IsLine (make r))
    → (field : List ℕ) (rest : List (List ℕ)) (l : Line) → is_word word field ≡ true → option_and_then (λ r. Some (make r)) (read_of rest) ≡ Some l → (field ∷ rest ≡ line_fields l) × IsLine l
read_line make word written fits field rest l a e =
    option_and_then_some _ (read_of rest) l e (λ r b e1.
    let q : make r ≡ l = cc in
    let w = word_sound word field a in
    let s = read_sound rest r b in
    let same : field ∷ rest ≡ word ∷ read_fields r = (let g = s.0 in cc) in
    (same ∙ sym (written r) ∙ ap line_fields q, subst IsLine q (fits r s.1)))

piece_line : (field : List ℕ) (rest : List (List ℕ)) (l : Line) → option_and_then (λ kind. option_and_then (λ f. Some (Piece f)) (piece_of kind rest)) (kind_of field) ≡ Some l → (field ∷ rest ≡ line_fields l) × IsLine l
piece_line field rest l e =
    option_and_then_some _ (kind_of field) l e (λ kind a e1.
    option_and_then_some _ (piece_of kind rest) l e1 (λ f b e2.
    let q : Piece f ≡ l = cc in
    let w = kind_sound field kind a in
    let s = piece_sound kind rest f b in
    let k : kind_word kind ≡ kind_word f.kind = ap kind_word (sym s.1) in
    let same : field ∷ rest ≡ line_fields (Piece f) = (let g = s.0 in let first : field ≡ kind_word f.kind = w ∙ k in cc) in
    (same ∙ ap line_fields q, subst IsLine q s.2)))

fields_sound : (fields : List (List ℕ)) (l : Line) → line_of fields ≡ Some l → (fields ≡ line_fields l) × IsLine l
fields_sound [] l e = absurd cc
fields_sound (word ∷ rest) l e = by_bool (is_word (codes "edit") word)
    (λ a. let f = rw a at e in let s = edit_sound rest l f in (ap (λ (w : List ℕ). w ∷ rest) (word_sound (codes "edit") word a) ∙ s.0, s.1))
    (λ n1. let f1 = rw n1 at e in by_bool (is_word (codes "latest") word)
    (λ a. let f = rw a at f1 in read_line (λ r. Latest r.0 r.1 r.2) (codes "latest") (λ r. refl) (λ r is. is) word rest l a f)
    (λ n2. let f2 = rw n2 at f1 in by_bool (is_word (codes "sync") word)
    (λ a. let f = rw a at f2 in read_line (λ r. Sync r.0 r.1 r.2) (codes "sync") (λ r. refl) (λ r is. is) word rest l a f)
    (λ n3. let f3 = rw n3 at f2 in by_bool (is_word (codes "publish") word)
    (λ a. let f = rw a at f3 in count_line Publish (codes "publish") (λ n. refl) (λ n is. is) word rest l a f)
    (λ n4. let f4 = rw n4 at f3 in by_bool (is_word (codes "final") word)
    (λ a. let f = rw a at f4 in count_line Final (codes "final") (λ n. refl) (λ n is. is) word rest l a f)
    (λ n5. let f5 = rw n5 at f4 in by_bool (is_word (codes "laid") word)
    (λ a. let f = rw a at f5 in count_line Laid (codes "laid") (λ n. refl) (λ n is. is) word rest l a f)
    (λ n6. let f6 = rw n6 at f5 in piece_line word rest l f6))))))

pub line_sound : (text : List ℕ) (l : Line) → line_in text ≡ Some l → (text ≡ line_body l) × IsLine l
line_sound text l e =
    let s = fields_sound (fields_in text) l e in
    (sym (join_with_byte-slice_split 32 text) ∙ ap (join_with_byte 32) s.0, s.1)

pub if_line : (text : List ℕ) (o : Option Line) → o ≡ line_in text → IfSome o IsLine
if_line text None e = tt
if_line text (Some l) e = (line_sound text l (sym e)).1

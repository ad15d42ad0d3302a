-- The parts of a line: they are those of a shape, and how many there are.
use Rattle.std.proofs.Common.{◌≡◌, ◌∙◌, ℕ, zero, suc, ◌+◌, ◌-◌, ◌<◌, ◌≤◌, List, [], ◌∷◌, ◌++◌, length, take, slice_get, Option, Some, None, All, inl, inr, refl, sym, ap, subst, arith, add-one}
use Rattle.std.proofs.lemmas.Bool.{cases_lt}
use Rattle.std.proofs.lemmas.Grind.{elements}
use Rattle.std.proofs.lemmas.List.Elements.{All-push, All-take, All-weaker}
use Rattle.lay_valign.specs.declared.parts.Part.{Part as LinePart}
use Rattle.lay_valign.specs.declared.parts.Shift.{Shift}
use Rattle.lay_valign.specs.Parts.{part_at, AreParts}
use Rattle.lay_lines.specs.declared.content.content.InlineStart.{InlineStart}
use Rattle.lay_lines.specs.declared.content.content.Part.{Part}
use Rattle.lay_lines.specs.declared.content.content.Part.TheVariants.{Space, PreservedSpace, Tab, Linefeed, Text, Start, End, Atomic}
use Rattle.lay_lines.specs.declared.content.content.Stretch.{Stretch}
use Rattle.lay_lines.specs.declared.content.frame.Extent.{Extent}
use Rattle.lay_lines.specs.declared.content.frame.Frame.{Frame}
use Rattle.lay_lines.specs.Content.Extents.{LineParts, part_by, innermost, strut_alone, stood, opened, opened_all, closed, Reading, read, read_all, read_at, reading_to, parts_to}
use Rattle.lay_lines.specs.Content.LineContents.{total, boxes_of_part}
use Rattle.lay_lines.proofs.ContentLemmas.Totals.{part_of, total_to}

abbrev pub strut_part : Extent → LinePart
strut_part e = part_at (strut_alone e).parts 0

pub length_more : (ps : List LinePart) (x : LinePart) → length (ps ++ x ∷ []) ≡ length ps + 1
length_more [] x = refl
length_more (p ∷ ps) x = let e = length_more ps x in omega (arith, e)

pub part_before : (ps : List LinePart) (x : LinePart) (k : ℕ) → k < length ps → part_at (ps ++ x ∷ []) k ≡ part_at ps k
part_before ps x k lt = grind (arith, elements)

pub part_last : (ps : List LinePart) (x : LinePart) (k : ℕ) → k ≡ length ps → part_at (ps ++ x ∷ []) k ≡ x
part_last ps x k e = grind (arith, elements)

parts_more : (ps : List LinePart) (x : LinePart) → AreParts ps → x.parent < length ps → AreParts (ps ++ x ∷ [])
parts_more ps x are parent = record {
  strut = (let e = length_more ps x in omega (arith, e));
  before = λ k some within. elim (cases_lt k (length ps)) [
    | inl low ↦ subst (λ (p : LinePart). p.parent < k) (sym (part_before ps x k low)) (are.before k some low)
    | inr high ↦ (
        let n = length_more ps x in
        let e : k ≡ length ps = omega (arith, n, within, high) in
        subst (λ (p : LinePart). p.parent < k) (sym (part_last ps x k e)) (omega (arith, parent, e)))
  ];
}

pub innermost_before : (places : List ℕ) (n : ℕ) → 0 < n → All (λ (k : ℕ). k < n) places → innermost places < n
innermost_before [] n some all = some
innermost_before (k ∷ places) n some all = all (length (k ∷ places) - 1) 0 (omega arith)

-- a line that has so many parts beside the strut
pub record Counted (strut : LinePart) (n : ℕ) (l : LineParts) : Type 0 where
  pub rest : List LinePart
  pub is : l.parts ≡ strut ∷ rest
  pub count : length rest ≡ n
  pub are : AreParts l.parts
  pub places : All (λ (k : ℕ). k < length l.parts) l.places

counted_as : (strut : LinePart) (n n' : ℕ) (l : LineParts) → n ≡ n' → Counted strut n l → Counted strut n' l
counted_as strut n n' l e c = record { rest = c.rest; is = c.is; count = c.count ∙ e; are = c.are; places = c.places }

pub alone_counted : (e : Extent) → Counted (strut_part e) 0 (strut_alone e)
alone_counted e = record {
  rest = [];
  is = refl;
  count = refl;
  are = record { strut = omega arith; before = λ k some within. absurd (omega (arith, some, within)) };
  places = λ k d lt. absurd (omega (arith, lt));
}

stood_counted : (strut : LinePart) (n : ℕ) (l : LineParts) (e : Extent) (shift : Shift) → Counted strut n l → Counted strut (n + 1) (stood l e shift)
stood_counted strut n l e shift c =
    let x = part_by e shift (innermost l.places) in
    let some = c.are.strut in
    let more = length_more l.parts x in
    record {
      rest = c.rest ++ x ∷ [];
      is = ap (λ (ps : List LinePart). ps ++ x ∷ []) c.is;
      count = (let a = length_more c.rest x in let b = c.count in omega (arith, a, b));
      are = parts_more l.parts x c.are (innermost_before l.places (length l.parts) some c.places);
      places = All-weaker (λ (k : ℕ). k < length l.parts) (λ (k : ℕ). k < length (l.parts ++ x ∷ [])) (λ k lt. omega (arith, more, lt)) l.places c.places;
    }

pub opened_counted : (strut : LinePart) (n : ℕ) (l : LineParts) (e : Extent) (shift : Shift) → Counted strut n l → Counted strut (n + 1) (opened l e shift)
opened_counted strut n l e shift c =
    let s = stood_counted strut n l e shift c in
    let more = length_more l.parts (part_by e shift (innermost l.places)) in
    record {
      rest = s.rest;
      is = s.is;
      count = s.count;
      are = s.are;
      places = All-push (λ (k : ℕ). k < length (stood l e shift).parts) l.places (length l.parts) s.places (omega (arith, more));
    }

closed_counted : (strut : LinePart) (n : ℕ) (l : LineParts) → Counted strut n l → Counted strut n (closed l)
closed_counted strut n l c = record {
  rest = c.rest;
  is = c.is;
  count = c.count;
  are = c.are;
  places = All-take (λ (k : ℕ). k < length l.parts) _ l.places c.places;
}

all_opened : (strut : LinePart) (n : ℕ) (l : LineParts) (bs : List InlineStart) → Counted strut n l → Counted strut (n + length bs) (opened_all l bs)
all_opened strut n l [] c = counted_as strut n (n + 0) l (omega arith) c
all_opened strut n l (b ∷ bs) c =
    counted_as strut ((n + 1) + length bs) (n + length (b ∷ bs)) (opened_all (opened l b.extent b.shift) bs)
    (omega arith)
    (all_opened strut (n + 1) (opened l b.extent b.shift) bs (opened_counted strut n l b.extent b.shift c))

-- and the inline boxes that are open then are no more
pub record ReadingCounted (strut : LinePart) (n : ℕ) (r : Reading) : Type 0 where
  pub line : Counted strut n r.line
  pub open_count : length r.open_boxes ≤ n

reading_as : (strut : LinePart) (n n' : ℕ) (r : Reading) → n ≡ n' → ReadingCounted strut n r → ReadingCounted strut n' r
reading_as strut n n' r f c = record {
  line = counted_as strut n n' r.line f c.line;
  open_count = (let a = c.open_count in omega (arith, a, f));
}

pub boxes_more : (bs : List InlineStart) (b : InlineStart) → length (bs ++ b ∷ []) ≡ length bs + 1
boxes_more [] b = refl
boxes_more (x ∷ bs) b = let e = boxes_more bs b in omega (arith, e)

take_count : (n : ℕ) (bs : List InlineStart) → length (take n bs) ≤ length bs
take_count zero bs = omega arith
take_count (suc n) [] = omega arith
take_count (suc n) (b ∷ bs) = let e = take_count n bs in omega (arith, e)

same_counted : (strut : LinePart) (n : ℕ) (r : Reading) → ReadingCounted strut n r → ReadingCounted strut (n + 0) r
same_counted strut n r c = reading_as strut n (n + 0) r (omega arith) c

pub read_counted : (strut : LinePart) (n : ℕ) (r : Reading) (x : Part) → ReadingCounted strut n r → ReadingCounted strut (n + boxes_of_part x) (read r x)
read_counted strut n r (Space w) c = same_counted strut n r c
read_counted strut n r (PreservedSpace w) c = same_counted strut n r c
read_counted strut n r (Tab t) c = same_counted strut n r c
read_counted strut n r Linefeed c = same_counted strut n r c
read_counted strut n r (Text w) c = same_counted strut n r c
read_counted strut n r (Start b) c = record {
  line = opened_counted strut n r.line b.extent b.shift c.line;
  open_count = (let a = c.open_count in let e = boxes_more r.open_boxes b in omega (arith, a, e));
}
read_counted strut n r (End b) c = same_counted strut n (read r (End b)) record {
  line = closed_counted strut n r.line c.line;
  open_count = (let a = c.open_count in let e = take_count (length r.open_boxes - 1) r.open_boxes in omega (arith, a, e));
}
read_counted strut n r (Atomic a) c = record {
  line = stood_counted strut n r.line a.extent a.shift c.line;
  open_count = (let e = c.open_count in omega (arith, e));
}

all_counted : (strut : LinePart) (n : ℕ) (r : Reading) (xs : List Part) → ReadingCounted strut n r → ReadingCounted strut (n + total boxes_of_part xs) (read_all r xs)
all_counted strut n r [] c = same_counted strut n r c
all_counted strut n r (x ∷ xs) c =
    reading_as strut ((n + boxes_of_part x) + total boxes_of_part xs) (n + total boxes_of_part (x ∷ xs))
    (read_all (read r x) xs) (omega arith)
    (all_counted strut (n + boxes_of_part x) (read r x) xs (read_counted strut n r x c))

abbrev pub stretch_boxes : Stretch → ℕ
stretch_boxes s = total boxes_of_part s.parts

at_counted : (strut : LinePart) (n : ℕ) (r : Reading) (o : Option Stretch) → ReadingCounted strut n r → ReadingCounted strut (n + part_of stretch_boxes o) (read_at r o)
at_counted strut n r None c = same_counted strut n r c
at_counted strut n r (Some s) c = all_counted strut n r s.parts c

pub to_counted : (fr : Frame) (bs : List InlineStart) (ss : List Stretch) (k : ℕ)
    → ReadingCounted (strut_part fr.strut) (length bs + total_to stretch_boxes ss k) (reading_to fr bs ss k)
to_counted fr bs ss zero = record {
  line = counted_as (strut_part fr.strut) (0 + length bs) (length bs + 0) _ (omega arith)
      (all_opened (strut_part fr.strut) 0 (strut_alone fr.strut) bs (alone_counted fr.strut));
  open_count = omega arith;
}
to_counted fr bs ss (suc k) =
    let i = length bs in
    let j = total_to stretch_boxes ss k in
    let there = part_of stretch_boxes (slice_get ss k) in
    reading_as (strut_part fr.strut) ((i + j) + there) (i + (j + there)) (reading_to fr bs ss (suc k)) (omega arith)
    (at_counted (strut_part fr.strut) (i + j) (reading_to fr bs ss k) (slice_get ss k) (to_counted fr bs ss k))

pub are_parts : (fr : Frame) (bs : List InlineStart) (ss : List Stretch) (k : ℕ) → AreParts (parts_to fr bs ss k)
are_parts fr bs ss k = (to_counted fr bs ss k).line.are

-- parts are only added
opened_grow : (l : LineParts) (bs : List InlineStart) → length l.parts ≤ length (opened_all l bs).parts
opened_grow l [] = omega arith
opened_grow l (b ∷ bs) =
    let more = length_more l.parts (part_by b.extent b.shift (innermost l.places)) in
    let e = opened_grow (opened l b.extent b.shift) bs in
    omega (arith, more, e)

pub first_few : (l : LineParts) (bs : List InlineStart) (all : LineParts) → opened_all l bs ≡ all → length all.parts < 4294967296 → length l.parts < 4294967296
first_few l bs all e few = let le = opened_grow l bs in let same = ap (λ (m : LineParts). length m.parts) e in omega (arith, le, same, few)

read_grow : (r : Reading) (x : Part) → length r.line.parts ≤ length (read r x).line.parts
read_grow r (Space w) = omega arith
read_grow r (PreservedSpace w) = omega arith
read_grow r (Tab t) = omega arith
read_grow r Linefeed = omega arith
read_grow r (Text w) = omega arith
read_grow r (Start b) = let e = length_more r.line.parts (part_by b.extent b.shift (innermost r.line.places)) in omega (arith, e)
read_grow r (End b) = omega arith
read_grow r (Atomic a) = let e = length_more r.line.parts (part_by a.extent a.shift (innermost r.line.places)) in omega (arith, e)

reads_grow : (r : Reading) (xs : List Part) → length r.line.parts ≤ length (read_all r xs).line.parts
reads_grow r [] = omega arith
reads_grow r (x ∷ xs) = let a = read_grow r x in let b = reads_grow (read r x) xs in omega (arith, a, b)

pub read_few : (r : Reading) (xs : List Part) (all : Reading) → read_all r xs ≡ all → length all.line.parts < 4294967296 → length r.line.parts < 4294967296
read_few r xs all e few = let le = reads_grow r xs in let same = ap (λ (q : Reading). length q.line.parts) e in omega (arith, le, same, few)

at_grow : (r : Reading) (o : Option Stretch) → length r.line.parts ≤ length (read_at r o).line.parts
at_grow r None = omega arith
at_grow r (Some s) = reads_grow r s.parts

pub to_grow : (fr : Frame) (bs : List InlineStart) (ss : List Stretch) (k n : ℕ) → k ≤ n → length (parts_to fr bs ss k) ≤ length (parts_to fr bs ss n)
to_grow fr bs ss k zero le = let e : k ≡ 0 = omega (arith, le) in subst (λ (i : ℕ). length (parts_to fr bs ss i) ≤ length (parts_to fr bs ss 0)) (sym e) (omega arith)
to_grow fr bs ss k (suc n) le = elim (cases_lt n k) [
  | inl less ↦ (let e : k ≡ suc n = omega (arith, less, le) in subst (λ (i : ℕ). length (parts_to fr bs ss i) ≤ length (parts_to fr bs ss (suc n))) (sym e) (omega arith))
  | inr more ↦ (let a = to_grow fr bs ss k n more in let b = at_grow (reading_to fr bs ss n) (slice_get ss n) in omega (arith, a, b))
]

-- what the next stretch needs
pub next_few : (fr : Frame) (bs : List InlineStart) (ss : List Stretch) (k n : ℕ) (s : Stretch) (r : Reading) → r ≡ reading_to fr bs ss k → slice_get ss k ≡ Some s → k < n → length (parts_to fr bs ss n) < 4294967296
    → length (read_all r s.parts).line.parts < 4294967296
next_few fr bs ss k n s r e is lt few =
    let le = to_grow fr bs ss (suc k) n (omega (arith, lt)) in
    let same = ap (λ (o : Option Stretch). length (read_at (reading_to fr bs ss k) o).line.parts) is in
    let same_as = ap (λ (q : Reading). length (read_all q s.parts).line.parts) e in
    omega (arith, le, same, same_as, few)

pub reading_next : (fr : Frame) (bs : List InlineStart) (ss : List Stretch) (k : ℕ) (s : Stretch) (r q : Reading) → q ≡ read_all r s.parts → r ≡ reading_to fr bs ss k → slice_get ss k ≡ Some s → q ≡ reading_to fr bs ss (k + 1)
reading_next fr bs ss k s r q e so_far is =
    e ∙ ap (λ (x : Reading). read_all x s.parts) so_far ∙ ap (λ (o : Option Stretch). read_at (reading_to fr bs ss k) o) (sym is) ∙ ap (λ (n : ℕ). reading_to fr bs ss n) (sym (add-one k))

-- How deep the parts of a line stand in each other: no deeper than inline boxes and atomic boxes do in its content.
use Rattle.std.proofs.Common.{◌≡◌, ◌∙◌, ℕ, zero, suc, ◌+◌, ◌-◌, ◌<◌, ◌≤◌, List, [], ◌∷◌, ◌++◌, length, take, drop, slice_get, Option, Some, None, All, inl, inr, refl, sym, ap, subst, arith}
use Rattle.std.specs.Prelude.{slice_index}
use Rattle.std.proofs.lemmas.Bool.{cases_lt}
use Rattle.std.proofs.lemmas.Grind.{elements}
use Rattle.std.proofs.lemmas.List.{get_or-take, length-take-le}
use Rattle.std.proofs.lemmas.Option.{same_Some, slice_get_within}
use Rattle.lay_valign.specs.declared.parts.Part.{Part as LinePart}
use Rattle.lay_valign.specs.declared.parts.Shift.{Shift}
use Rattle.lay_valign.specs.Low.{LevelsWithin}
use Rattle.lay_valign.specs.Parts.{part_at, AreParts}
use Rattle.lay_lines.specs.declared.content.content.InlineStart.{InlineStart}
use Rattle.lay_lines.specs.declared.content.content.Part.{Part}
use Rattle.lay_lines.specs.declared.content.content.Part.TheVariants.{Space, PreservedSpace, Tab, Linefeed, Text, Start, End, Atomic}
use Rattle.lay_lines.specs.declared.content.content.Stretch.{Stretch}
use Rattle.lay_lines.specs.declared.content.frame.Extent.{Extent}
use Rattle.lay_lines.specs.declared.content.frame.Frame.{Frame}
use Rattle.lay_lines.specs.Content.Extents.{LineParts, part_by, innermost, strut_alone, stood, opened, opened_all, closed, Reading, read, read_all, read_at, reading_to}
use Rattle.lay_lines.specs.Content.LineContents.{boxes_of_part, open_count_after, open_after_parts, AreNestedParts, AreNested}
use Rattle.lay_lines.proofs.ContentLemmas.LineParts.{length_more, part_before, part_last, innermost_before, boxes_more, Counted, ReadingCounted, strut_part, alone_counted, opened_counted, read_counted, to_counted}

index_before : (xs : List ℕ) (x k : ℕ) → k < length xs → slice_index (xs ++ x ∷ []) k ≡ slice_index xs k
index_before xs x k lt = grind (arith, elements)

index_last : (xs : List ℕ) (x k : ℕ) → k ≡ length xs → slice_index (xs ++ x ∷ []) k ≡ x
index_last xs x k e = grind (arith, elements)

more_indices : (xs : List ℕ) (x : ℕ) → length (xs ++ x ∷ []) ≡ length xs + 1
more_indices [] x = refl
more_indices (y ∷ xs) x = let e = more_indices xs x in omega (arith, e)

-- where d inline boxes are open, the parts of a line have levels: the strut 0, and the inline box that is open at place i
-- at most i + 1
pub record LineLevels (d : ℕ) (l : LineParts) : Type 0 where
  pub levels : List ℕ
  pub as_many : length levels ≡ length l.parts
  pub deeper : (k : ℕ) → 0 < k → k < length l.parts → slice_index levels (part_at l.parts k).parent < slice_index levels k
  pub most : (k : ℕ) → k < length l.parts → slice_index levels k ≤ 128
  pub first : slice_index levels 0 ≡ 0
  pub count : length l.places ≡ d
  pub low : (i : ℕ) → i < length l.places → slice_index levels (slice_index l.places i) ≤ i + 1

levels_as : (d e : ℕ) (l : LineParts) → d ≡ e → LineLevels d l → LineLevels e l
levels_as d e l q is = record { levels = is.levels; as_many = is.as_many; deeper = is.deeper; most = is.most; first = is.first; count = is.count ∙ q; low = is.low }

alone_levels : (e : Extent) → LineLevels 0 (strut_alone e)
alone_levels e = record {
  levels = 0 ∷ [];
  as_many = refl;
  deeper = λ k some within. absurd (omega (arith, some, within));
  most = λ k within. (let z : k ≡ 0 = omega (arith, within) in subst (λ (i : ℕ). slice_index (0 ∷ []) i ≤ 128) (sym z) (omega arith));
  first = refl;
  count = refl;
  low = λ i lt. absurd (omega (arith, lt));
}

-- the innermost box that is open is on no deeper level than boxes are open
innermost_low : (levels places : List ℕ) → slice_index levels 0 ≡ 0 → ((i : ℕ) → i < length places → slice_index levels (slice_index places i) ≤ i + 1)
    → slice_index levels (innermost places) ≤ length places
innermost_low levels [] first low = omega (arith, first)
innermost_low levels (p ∷ places) first low = let e = low (length (p ∷ places) - 1) (omega arith) in omega (arith, e)

-- with one more part
module _ (d : ℕ) (l : LineParts) (e : Extent) (shift : Shift) (is : LineLevels d l) (are : AreParts l.parts) (all : All (λ (k : ℕ). k < length l.parts) l.places) (few : d + 1 ≤ 128) where
  abbrev parent : ℕ
  parent = innermost l.places

  abbrev part : LinePart
  part = part_by e shift parent

  abbrev level : ℕ
  level = slice_index is.levels parent + 1

  abbrev levels : List ℕ
  levels = is.levels ++ level ∷ []

  parent_within : parent < length l.parts
  parent_within = innermost_before l.places (length l.parts) are.strut all

  before : (k : ℕ) → k < length l.parts → slice_index levels k ≡ slice_index is.levels k
  before k lt = index_before is.levels level k (let m = is.as_many in omega (arith, m, lt))

  last : (k : ℕ) → k ≡ length l.parts → slice_index levels k ≡ level
  last k e = index_last is.levels level k (let m = is.as_many in omega (arith, m, e))

  level_low : level ≤ d + 1
  level_low = let low = innermost_low is.levels l.places is.first is.low in let o = is.count in omega (arith, low, o)

  place_of : (k : ℕ) → k < length (l.parts ++ part ∷ []) → length l.parts ≤ k → k ≡ length l.parts
  place_of k within high = let n = length_more l.parts part in omega (arith, n, within, high)

  deeper : (k : ℕ) → 0 < k → k < length (l.parts ++ part ∷ []) → slice_index levels (part_at (l.parts ++ part ∷ []) k).parent < slice_index levels k
  deeper k some within = elim (cases_lt k (length l.parts)) [
    | inl low ↦ subst (λ (p : LinePart). slice_index levels p.parent < slice_index levels k) (sym (part_before l.parts part k low)) (
        let less = is.deeper k some low in
        let a = before (part_at l.parts k).parent (let b = are.before k some low in omega (arith, b, low)) in
        let b = before k low in
        omega (arith, less, a, b))
    | inr high ↦ (
        let q = place_of k within high in
        subst (λ (p : LinePart). slice_index levels p.parent < slice_index levels k) (sym (part_last l.parts part k q)) (
        let a = before parent parent_within in
        let b = last k q in
        omega (arith, a, b)))
  ]

  most : (k : ℕ) → k < length (l.parts ++ part ∷ []) → slice_index levels k ≤ 128
  most k within = elim (cases_lt k (length l.parts)) [
    | inl low ↦ (let a = before k low in let b = is.most k low in omega (arith, a, b))
    | inr high ↦ (let a = last k (place_of k within high) in let b = level_low in omega (arith, a, b, few))
  ]

  first : slice_index levels 0 ≡ 0
  first = before 0 are.strut ∙ is.first

  place_within : (i : ℕ) → i < length l.places → slice_index l.places i < length l.parts
  place_within i lt = all i 0 lt

  old_low : (i : ℕ) → i < length l.places → slice_index levels (slice_index l.places i) ≤ i + 1
  old_low i lt = let a = before (slice_index l.places i) (place_within i lt) in let b = is.low i lt in omega (arith, a, b)

  pub stood_levels : LineLevels d (stood l e shift)
  stood_levels = record {
    levels = levels;
    as_many = (let a = more_indices is.levels level in let b = length_more l.parts part in let m = is.as_many in omega (arith, a, b, m));
    deeper = deeper;
    most = most;
    first = first;
    count = is.count;
    low = old_low;
  }

  pub opened_levels : LineLevels (d + 1) (opened l e shift)
  opened_levels = record {
    levels = levels;
    as_many = (let a = more_indices is.levels level in let b = length_more l.parts part in let m = is.as_many in omega (arith, a, b, m));
    deeper = deeper;
    most = most;
    first = first;
    count = (let a = more_indices l.places (length l.parts) in let o = is.count in omega (arith, a, o));
    low = λ i lt. elim (cases_lt i (length l.places)) [
      | inl less ↦ (let a = ap (slice_index levels) (index_before l.places (length l.parts) i less) in let b = old_low i less in omega (arith, a, b))
      | inr more ↦ (
          let n = more_indices l.places (length l.parts) in
          let q : i ≡ length l.places = omega (arith, n, lt, more) in
          let a = ap (slice_index levels) (index_last l.places (length l.parts) i q) in
          let b = last (length l.parts) refl in
          let c = level_low in
          let o = is.count in
          omega (arith, a, b, c, o, q))
    ];
  }

closed_levels : (d : ℕ) (l : LineParts) → LineLevels d l → LineLevels (d - 1) (closed l)
closed_levels d l is =
    let n = length l.places - 1 in
    let taken : length (take n l.places) ≡ n = length-take-le n l.places (omega arith) in
    record {
      levels = is.levels;
      as_many = is.as_many;
      deeper = is.deeper;
      most = is.most;
      first = is.first;
      count = (let o = is.count in omega (arith, taken, o));
      low = λ i lt. (let less : i < n = omega (arith, taken, lt) in
          let a = ap (slice_index is.levels) (get_or-take n l.places i 0 less) in let b = is.low i (omega (arith, less)) in omega (arith, a, b));
    }

-- after some content, where so many inline boxes are open
pub record ReadingLevels (strut : LinePart) (d : ℕ) (r : Reading) : Type 0 where
  pub boxes : ℕ
  pub counted : ReadingCounted strut boxes r
  pub line : LineLevels d r.line
  pub count : length r.open_boxes ≡ d

read_levels : (strut : LinePart) (d : ℕ) (r : Reading) (x : Part) → d + boxes_of_part x ≤ 128 → ReadingLevels strut d r → ReadingLevels strut (open_count_after d x) (read r x)
read_levels strut d r (Space w) few is = is
read_levels strut d r (PreservedSpace w) few is = is
read_levels strut d r (Tab t) few is = is
read_levels strut d r Linefeed few is = is
read_levels strut d r (Text w) few is = is
read_levels strut d r (Start b) few is = record {
  boxes = is.boxes + 1;
  counted = read_counted strut is.boxes r (Start b) is.counted;
  line = opened_levels d r.line b.extent b.shift is.line is.counted.line.are is.counted.line.places few;
  count = (let a = boxes_more r.open_boxes b in let o = is.count in omega (arith, a, o));
}
read_levels strut d r (End b) few is = record {
  boxes = is.boxes + 0;
  counted = read_counted strut is.boxes r (End b) is.counted;
  line = closed_levels d r.line is.line;
  count = (let a = length-take-le (length r.open_boxes - 1) r.open_boxes (omega arith) in let o = is.count in omega (arith, a, o));
}
read_levels strut d r (Atomic a) few is = record {
  boxes = is.boxes + 1;
  counted = read_counted strut is.boxes r (Atomic a) is.counted;
  line = stood_levels d r.line a.extent a.shift is.line is.counted.line.are is.counted.line.places few;
  count = is.count;
}

all_levels : (strut : LinePart) (d : ℕ) (r : Reading) (xs : List Part) → AreNestedParts d xs → ReadingLevels strut d r → ReadingLevels strut (open_after_parts d xs) (read_all r xs)
all_levels strut d r [] nested is = is
all_levels strut d r (x ∷ xs) nested is = all_levels strut (open_count_after d x) (read r x) xs nested.1 (read_levels strut d r x nested.0 is)

-- how many inline boxes are open after the first k of these stretches
abbrev pub open_at : ℕ → Option Stretch → ℕ
open_at n None = n
open_at n (Some s) = open_after_parts n s.parts

abbrev pub open_to : ℕ → List Stretch → ℕ → ℕ
open_to n ss zero = n
open_to n ss (suc k) = open_at (open_to n ss k) (slice_get ss k)

open_none : (n k : ℕ) → open_to n [] k ≡ n
open_none n zero = refl
open_none n (suc k) = open_none n k

open_first : (n : ℕ) (s : Stretch) (ss : List Stretch) (k : ℕ) → open_to n (s ∷ ss) (suc k) ≡ open_to (open_after_parts n s.parts) ss k
open_first n s ss zero = refl
open_first n s ss (suc k) = ap (λ (m : ℕ). open_at m (slice_get ss k)) (open_first n s ss k)

-- the content that is left is nested as deep at most
pub nested_drop : (n : ℕ) (ss : List Stretch) (k : ℕ) → AreNested n ss → AreNested (open_to n ss k) (drop k ss)
nested_drop n ss zero nested = nested
nested_drop n [] (suc k) nested = subst (λ (m : ℕ). m ≤ 128) (sym (open_none n (suc k))) nested
nested_drop n (s ∷ ss) (suc k) nested = subst (λ (m : ℕ). AreNested m (drop k ss)) (sym (open_first n s ss k)) (nested_drop (open_after_parts n s.parts) ss k nested.1)

nested_at : (n : ℕ) (ss : List Stretch) (k : ℕ) → AreNested n ss → (s : Stretch) → slice_get ss k ≡ Some s → AreNestedParts (open_to n ss k) s.parts
nested_at n [] k nested s is = absurd (let w = slice_get_within {A = Stretch} [] k s is in omega (arith, w))
nested_at n (t ∷ ss) zero nested s is = subst (λ (q : Stretch). AreNestedParts n q.parts) (same_Some _ _ is) nested.0
nested_at n (t ∷ ss) (suc k) nested s is = subst (λ (m : ℕ). AreNestedParts m s.parts) (sym (open_first n t ss k)) (nested_at (open_after_parts n t.parts) ss k nested.1 s is)

-- at most 128 are open
parts_few : (n : ℕ) (xs : List Part) → AreNestedParts n xs → n ≤ 128
parts_few n [] nested = nested
parts_few n (x ∷ xs) nested = let a = nested.0 in omega (arith, a)

few_open : (n : ℕ) (ss : List Stretch) → AreNested n ss → n ≤ 128
few_open n [] nested = nested
few_open n (s ∷ ss) nested = parts_few n s.parts nested.0

all_opened : (strut : LinePart) (n d : ℕ) (l : LineParts) (bs : List InlineStart) → Counted strut n l → LineLevels d l → d + length bs ≤ 128 → LineLevels (d + length bs) (opened_all l bs)
all_opened strut n d l [] c is few = levels_as d (d + 0) l (omega arith) is
all_opened strut n d l (b ∷ bs) c is few =
    levels_as ((d + 1) + length bs) (d + length (b ∷ bs)) (opened_all (opened l b.extent b.shift) bs) (omega arith)
    (all_opened strut (n + 1) (d + 1) (opened l b.extent b.shift) bs (opened_counted strut n l b.extent b.shift c)
    (opened_levels d l b.extent b.shift is c.are c.places (omega (arith, few))) (omega (arith, few)))

at_levels : (strut : LinePart) (d : ℕ) (r : Reading) (o : Option Stretch) → ((s : Stretch) → o ≡ Some s → AreNestedParts d s.parts) → ReadingLevels strut d r → ReadingLevels strut (open_at d o) (read_at r o)
at_levels strut d r None nested is = is
at_levels strut d r (Some s) nested is = all_levels strut d r s.parts (nested s refl) is

pub to_levels : (fr : Frame) (bs : List InlineStart) (ss : List Stretch) (k : ℕ) → AreNested (length bs) ss → ReadingLevels (strut_part fr.strut) (open_to (length bs) ss k) (reading_to fr bs ss k)
to_levels fr bs ss zero nested = record {
  boxes = length bs + 0;
  counted = to_counted fr bs ss 0;
  line = levels_as (0 + length bs) (length bs) _ (omega arith)
      (all_opened (strut_part fr.strut) 0 0 (strut_alone fr.strut) bs (alone_counted fr.strut) (alone_levels fr.strut) (let few = few_open (length bs) ss nested in omega (arith, few)));
  count = refl;
}
to_levels fr bs ss (suc k) nested =
    at_levels (strut_part fr.strut) (open_to (length bs) ss k) (reading_to fr bs ss k) (slice_get ss k) (nested_at (length bs) ss k nested) (to_levels fr bs ss k nested)

-- the levels of the parts of a line
pub levels_of : (d : ℕ) (l : LineParts) (parts : List LinePart) → l.parts ≡ parts → LineLevels d l → LevelsWithin 128 parts
levels_of d l parts e is = subst (LevelsWithin 128) e (record { levels = is.levels; deeper = is.deeper; most = is.most })

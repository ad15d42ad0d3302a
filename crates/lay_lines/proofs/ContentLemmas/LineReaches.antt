-- How far the parts of a line reach beside its strut: an inline box at most 2^34 units, and an atomic box further by its hull.
use Rattle.std.proofs.Common.{◌≡◌, ◌∙◌, ℕ, zero, suc, ◌+◌, ◌-◌, ◌<◌, ◌≤◌, ◌^◌, List, [], ◌∷◌, length, slice_get, Option, Some, None, All, inl, inr, refl, sym, subst, arith}
use Rattle.std.specs.Prelude.{ℤ, pos, negsuc, ◌≤ℤ◌}
use Rattle.std.proofs.lemmas.Bool.{cases_lt}
use Rattle.std.proofs.lemmas.Int.{ints}
use Rattle.std.proofs.lemmas.List.Elements.{All-head, All-tail, All-push, All-take}
use Rattle.std.proofs.lemmas.Option.{get_or_from_slice_get, slice_get_within}
use Rattle.lay_floats.specs.Within.{IsWithin}
use Rattle.lay_valign.specs.declared.parts.Part.{Part as LinePart}
use Rattle.lay_valign.specs.declared.parts.Shift.{Shift}
use Rattle.lay_valign.specs.Low.{PartReaches}
use Rattle.lay_valign.specs.Parts.{part_at}
use Rattle.lay_lines.specs.declared.content.content.InlineStart.{InlineStart}
use Rattle.lay_lines.specs.declared.content.content.Part.{Part}
use Rattle.lay_lines.specs.declared.content.content.Part.TheVariants.{Space, PreservedSpace, Tab, Linefeed, Text, Start, End, Atomic}
use Rattle.lay_lines.specs.declared.content.content.Stretch.{Stretch}
use Rattle.lay_lines.specs.declared.content.frame.Extent.{Extent}
use Rattle.lay_lines.specs.declared.content.frame.Frame.{Frame}
use Rattle.lay_lines.specs.Content.Extents.{LineParts, part_by, innermost, strut_alone, stood, opened, opened_all, Reading, read, read_all, read_at, reading_to, height_of}
use Rattle.lay_lines.specs.Content.LineContents.{total, positive, hull_of_part, ExtentWithin, ShiftWithin, InlineStartWithin, PartWithin, StretchWithin}
use Rattle.lay_lines.proofs.ContentLemmas.LineParts.{length_more, part_before, part_last}
use Rattle.lay_lines.proofs.ContentLemmas.Totals.{part_of, total_to}

-- a part of a line whose atomic boxes reach so far above and below the baseline in all
pub record PartStands (up down : ℕ) (p : LinePart) : Type 0 where
  pub reaches : PartReaches (17179869184 + (up + down)) (17179869184 + up) (17179869184 + down) p
  pub shift : ShiftWithin p.shift

stands_wider : (u v up down : ℕ) (p : LinePart) → u ≤ up → v ≤ down → PartStands u v p → PartStands up down p
stands_wider u v up down p le lo is =
    let w = is.reaches in
    let a = w.near_above.0 in let b = w.near_above.1 in let c = w.near_below.0 in let d = w.near_below.1 in let e = w.above in let f = w.below in
    record {
      reaches = record {
        near_above = (omega (arith, ints, le, lo, a), omega (arith, ints, le, lo, b));
        near_below = (omega (arith, ints, le, lo, c), omega (arith, ints, le, lo, d));
        above = omega (arith, ints, le, e);
        below = omega (arith, ints, lo, f);
      };
      shift = is.shift;
    }

most : (v : ℤ) → v ≤ℤ pos (positive v)
most (pos n) = omega (arith, ints)
most (negsuc n) = omega (arith, ints)

inline_stands : (up down : ℕ) (e : Extent) (shift : Shift) (parent : ℕ) → ExtentWithin e → ShiftWithin shift → PartStands up down (part_by e shift parent)
inline_stands up down e shift parent w s =
    let a = w.above.0 in let b = w.above.1 in let c = w.below.0 in let d = w.below.1 in
    record {
      reaches = record {
        near_above = (omega (arith, ints, a), omega (arith, ints, b));
        near_below = (omega (arith, ints, c), omega (arith, ints, d));
        above = omega (arith, ints, b);
        below = omega (arith, ints, d);
      };
      shift = s;
    }

atomic_stands : (up down : ℕ) (e : Extent) (shift : Shift) (parent : ℕ) → IsWithin (pos (2 ^ 34)) (height_of e) → ShiftWithin shift
    → PartStands (up + positive e.above.0) (down + positive e.below.0) (part_by e shift parent)
atomic_stands up down e shift parent w s =
    let low = w.0 in
    let a = most e.above.0 in let b = most e.below.0 in
    record {
      reaches = record {
        near_above = (omega (arith, ints, low, b), omega (arith, ints, a));
        near_below = (omega (arith, ints, low, a), omega (arith, ints, b));
        above = omega (arith, ints, a);
        below = omega (arith, ints, b);
      };
      shift = s;
    }

-- each part but the strut
pub record LineReaches (up down : ℕ) (l : LineParts) : Type 0 where
  pub each : (k : ℕ) → 0 < k → k < length l.parts → PartStands up down (part_at l.parts k)

stood_reaches : (u v up down : ℕ) (l : LineParts) (e : Extent) (shift : Shift) → u ≤ up → v ≤ down → LineReaches u v l → PartStands up down (part_by e shift (innermost l.places)) → LineReaches up down (stood l e shift)
stood_reaches u v up down l e shift le lo is one =
    let x = part_by e shift (innermost l.places) in
    record {
      each = λ k some within. elim (cases_lt k (length l.parts)) [
        | inl low ↦ subst (PartStands up down) (sym (part_before l.parts x k low)) (stands_wider u v up down (part_at l.parts k) le lo (is.each k some low))
        | inr high ↦ (
            let n = length_more l.parts x in
            let q : k ≡ length l.parts = omega (arith, n, within, high) in
            subst (PartStands up down) (sym (part_last l.parts x k q)) one)
      ];
    }

opened_reaches : (up down : ℕ) (l : LineParts) (b : InlineStart) → LineReaches up down l → InlineStartWithin b → LineReaches up down (opened l b.extent b.shift)
opened_reaches up down l b is w = record {
  each = (stood_reaches up down up down l b.extent b.shift (omega arith) (omega arith) is (inline_stands up down b.extent b.shift (innermost l.places) w.extent w.shift)).each;
}

all_opened : (up down : ℕ) (l : LineParts) (bs : List InlineStart) → LineReaches up down l → All InlineStartWithin bs → LineReaches up down (opened_all l bs)
all_opened up down l [] is all = is
all_opened up down l (b ∷ bs) is all =
    all_opened up down (opened l b.extent b.shift) bs (opened_reaches up down l b is (All-head InlineStartWithin b bs all)) (All-tail InlineStartWithin b bs all)

-- after some content whose hulls come to h
pub record ReadingReaches (h : ℕ) (r : Reading) : Type 0 where
  pub up : ℕ
  pub down : ℕ
  pub sum : up + down ≡ h
  pub line : LineReaches up down r.line
  pub open_boxes : All InlineStartWithin r.open_boxes

reading_as : (h i : ℕ) (r : Reading) → h ≡ i → ReadingReaches h r → ReadingReaches i r
reading_as h i r e w = record { up = w.up; down = w.down; sum = w.sum ∙ e; line = w.line; open_boxes = w.open_boxes }

same_reaches : (h : ℕ) (r : Reading) → ReadingReaches h r → ReadingReaches (h + 0) r
same_reaches h r w = reading_as h (h + 0) r (omega arith) w

read_reaches : (h : ℕ) (r : Reading) (x : Part) → PartWithin x → ReadingReaches h r → ReadingReaches (h + hull_of_part x) (read r x)
read_reaches h r (Space w) is was = same_reaches h r was
read_reaches h r (PreservedSpace w) is was = same_reaches h r was
read_reaches h r (Tab t) is was = same_reaches h r was
read_reaches h r Linefeed is was = same_reaches h r was
read_reaches h r (Text w) is was = same_reaches h r was
read_reaches h r (Start b) is was = same_reaches h (read r (Start b)) record {
  up = was.up;
  down = was.down;
  sum = was.sum;
  line = opened_reaches was.up was.down r.line b was.line is;
  open_boxes = All-push InlineStartWithin r.open_boxes b was.open_boxes is;
}
read_reaches h r (End b) is was = same_reaches h (read r (End b)) record {
  up = was.up;
  down = was.down;
  sum = was.sum;
  line = record { each = was.line.each };
  open_boxes = All-take InlineStartWithin (length r.open_boxes - 1) r.open_boxes was.open_boxes;
}
read_reaches h r (Atomic a) is was =
    let u = positive a.extent.above.0 in
    let v = positive a.extent.below.0 in
    record {
      up = was.up + u;
      down = was.down + v;
      sum = (let e = was.sum in omega (arith, e));
      line = stood_reaches was.up was.down (was.up + u) (was.down + v) r.line a.extent a.shift (omega arith) (omega arith) was.line
          (atomic_stands was.up was.down a.extent a.shift (innermost r.line.places) is.height is.shift);
      open_boxes = was.open_boxes;
    }

all_reaches : (h : ℕ) (r : Reading) (xs : List Part) → All PartWithin xs → ReadingReaches h r → ReadingReaches (h + total hull_of_part xs) (read_all r xs)
all_reaches h r [] all was = same_reaches h r was
all_reaches h r (x ∷ xs) all was =
    reading_as ((h + hull_of_part x) + total hull_of_part xs) (h + total hull_of_part (x ∷ xs)) (read_all (read r x) xs) (omega arith)
    (all_reaches (h + hull_of_part x) (read r x) xs (All-tail PartWithin x xs all) (read_reaches h r x (All-head PartWithin x xs all) was))

abbrev pub stretch_hulls : Stretch → ℕ
stretch_hulls s = total hull_of_part s.parts

at_reaches : (h : ℕ) (r : Reading) (o : Option Stretch) → ((s : Stretch) → o ≡ Some s → All PartWithin s.parts) → ReadingReaches h r → ReadingReaches (h + part_of stretch_hulls o) (read_at r o)
at_reaches h r None all was = same_reaches h r was
at_reaches h r (Some s) all was = all_reaches h r s.parts (all s refl) was

parts_at : (ss : List Stretch) (k : ℕ) → All StretchWithin ss → (s : Stretch) → slice_get ss k ≡ Some s → All PartWithin s.parts
parts_at ss k all s is = (subst StretchWithin (get_or_from_slice_get ss k s s is) (all k s (slice_get_within ss k s is))).parts

pub to_reaches : (fr : Frame) (bs : List InlineStart) (ss : List Stretch) (k : ℕ) → All InlineStartWithin bs → All StretchWithin ss → ReadingReaches (total_to stretch_hulls ss k) (reading_to fr bs ss k)
to_reaches fr bs ss zero boxes all = record {
  up = 0;
  down = 0;
  sum = refl;
  line = all_opened 0 0 (strut_alone fr.strut) bs (record { each = λ k some within. absurd (omega (arith, some, within)) }) boxes;
  open_boxes = boxes;
}
to_reaches fr bs ss (suc k) boxes all = at_reaches (total_to stretch_hulls ss k) (reading_to fr bs ss k) (slice_get ss k) (parts_at ss k all) (to_reaches fr bs ss k boxes all)

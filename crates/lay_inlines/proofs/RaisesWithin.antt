-- Raises, and then strokes, that are within bounds.
use Rattle.std.proofs.Common.{ℕ, zero, suc, ◌-◌, List, [], ◌∷◌, length, arith}
use Rattle.std.specs.List.{All}
use Rattle.std.proofs.lemmas.Int.{ints}
use Rattle.std.proofs.lemmas.List.Elements.{All-nil, All-cons, All-head, All-tail, All-append, All-take, All-drop}
use Rattle.lay_units.specs.declared.length.Unit.{Unit}
use Rattle.lay_units.specs.Lengths.{no_length}
use Rattle.lay_lines.specs.declared.content.content.Part.{Part}
use Rattle.lay_lines.specs.declared.content.content.Part.TheVariants.{Space, PreservedSpace, Tab, Linefeed, Text, Start, End, Atomic}
use Rattle.lay_lines.specs.declared.content.frame.Frame.{Frame}
use Rattle.lay_lines.specs.declared.content.pen.Pen.{Pen}
use Rattle.lay_lines.specs.Content.Pens.{over}
use Rattle.lay_inlines.specs.Bounds.{PensWithin, RaiseWithin, RaisesWithin, StrokeWithin}
use Rattle.lay_inlines.specs.Raises.{RaisesValue, raise_at, innermost, raise_of, raises_after, raises_of, behind_strut}
use Rattle.lay_inlines.specs.Strokes.{strokes, stroke_of}
use Rattle.lay_inlines.proofs.PenPlaces.{first_within}

zero_within : RaiseWithin no_length
zero_within = (omega (arith, ints), omega (arith, ints))

pub raise_within : (us : List Unit) (k : ℕ) → All RaiseWithin us → RaiseWithin (raise_at us k)
raise_within [] k is = zero_within
raise_within (u ∷ us) zero is = All-head RaiseWithin u us is
raise_within (u ∷ us) (suc k) is = raise_within us k (All-tail RaiseWithin u us is)

inner_within : (us : List Unit) → All RaiseWithin us → RaiseWithin (innermost us)
inner_within us is = raise_within us (length us - 1) is

of_within : (r : RaisesValue) (x : Part) → RaisesWithin r → RaiseWithin (raise_of r x)
of_within r (Space w) is = inner_within r.open_boxes is.open_boxes
of_within r (PreservedSpace w) is = inner_within r.open_boxes is.open_boxes
of_within r (Tab t) is = inner_within r.open_boxes is.open_boxes
of_within r Linefeed is = inner_within r.open_boxes is.open_boxes
of_within r (Text w) is = inner_within r.open_boxes is.open_boxes
of_within r (Start b) is = raise_within r.coming 0 is.coming
of_within r (End b) is = inner_within r.open_boxes is.open_boxes
of_within r (Atomic b) is = raise_within r.coming 0 is.coming

after_within : (r : RaisesValue) (x : Part) → RaisesWithin r → RaisesWithin (raises_after r x)
after_within r (Space w) is = is
after_within r (PreservedSpace w) is = is
after_within r (Tab t) is = is
after_within r Linefeed is = is
after_within r (Text w) is = is
after_within r (Start b) is = record {
  open_boxes = All-append RaiseWithin r.open_boxes (raise_at r.coming 0 ∷ []) is.open_boxes
      (All-cons RaiseWithin (raise_at r.coming 0) [] (raise_within r.coming 0 is.coming) (All-nil RaiseWithin));
  coming = All-drop RaiseWithin 1 r.coming is.coming;
}
after_within r (End b) is = record { open_boxes = All-take RaiseWithin (length r.open_boxes - 1) r.open_boxes is.open_boxes; coming = is.coming }
after_within r (Atomic b) is = record { open_boxes = is.open_boxes; coming = All-drop RaiseWithin 1 r.coming is.coming }

pub strut_within : (shifts : List Unit) → All RaiseWithin shifts → All RaiseWithin (behind_strut shifts)
strut_within shifts is = All-drop RaiseWithin 1 shifts is

pub start_within : (shifts : List Unit) (count : ℕ) → All RaiseWithin shifts → RaisesWithin (raises_of shifts count)
start_within shifts count is = record {
  open_boxes = All-take RaiseWithin count (behind_strut shifts) (strut_within shifts is);
  coming = All-drop RaiseWithin count (behind_strut shifts) (strut_within shifts is);
}

pub strokes_within : (fr : Frame) (p : Pen) (r : RaisesValue) (xs : List Part) → PensWithin fr p xs → RaisesWithin r → All StrokeWithin (strokes fr p r xs)
strokes_within fr p r [] is raises = All-nil StrokeWithin
strokes_within fr p r (x ∷ xs) is raises =
    All-cons StrokeWithin (stroke_of x (raise_of r x) p (over fr p x)) (strokes fr (over fr p x) (raises_after r x) xs)
    (record { raise = of_within r x raises; before = is.0; after = first_within fr (over fr p x) xs is.1 })
    (strokes_within fr (over fr p x) (raises_after r x) xs is.1 (after_within r x raises))

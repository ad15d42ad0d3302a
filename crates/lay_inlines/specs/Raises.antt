-- How far what stands on a line is raised above the line's baseline (CSS 2.2, 10.8.1). The shifts of a line are those of its
-- strut, of the inline boxes that are open at its start, outermost first, and of each inline box that starts on it and
-- each atomic box, in order. A text stands on the baseline of the innermost inline box that holds it, and on the
-- strut's where none does.
use Rattle.std.specs.Prelude.{ℕ, ◌-◌, List, [], ◌∷◌, ◌++◌, length, take, drop, slice_index_or}
use Rattle.lay_units.specs.declared.length.Unit.{Unit}
use Rattle.lay_units.specs.Lengths.{no_length}
use Rattle.lay_lines.specs.declared.content.content.Part.{Part}
use Rattle.lay_lines.specs.declared.content.content.Part.TheVariants.{Space, PreservedSpace, Tab, Linefeed, Text, Start, End, Atomic}

-- the raises of the inline boxes that are open, outermost first, and those of what is to come: of each inline box that
-- starts and each atomic box, in order
pub record RaisesValue : Type 0 where
  pub open_boxes : List Unit
  pub coming : List Unit

abbrev pub raise_at : List Unit → ℕ → Unit
raise_at raises k = slice_index_or raises k no_length

abbrev pub innermost : List Unit → Unit
innermost raises = raise_at raises (length raises - 1)

abbrev pub raise_of : RaisesValue → Part → Unit
raise_of r (Space w) = innermost r.open_boxes
raise_of r (PreservedSpace w) = innermost r.open_boxes
raise_of r (Tab t) = innermost r.open_boxes
raise_of r Linefeed = innermost r.open_boxes
raise_of r (Text w) = innermost r.open_boxes
raise_of r (Start b) = raise_at r.coming 0
raise_of r (End b) = innermost r.open_boxes
raise_of r (Atomic b) = raise_at r.coming 0

abbrev pub one_opened : RaisesValue → RaisesValue
one_opened r = record { open_boxes = r.open_boxes ++ raise_at r.coming 0 ∷ []; coming = drop 1 r.coming }

abbrev pub one_closed : RaisesValue → RaisesValue
one_closed r = record { open_boxes = take (length r.open_boxes - 1) r.open_boxes; coming = r.coming }

abbrev pub one_passed : RaisesValue → RaisesValue
one_passed r = record { open_boxes = r.open_boxes; coming = drop 1 r.coming }

abbrev pub raises_after : RaisesValue → Part → RaisesValue
raises_after r (Space w) = r
raises_after r (PreservedSpace w) = r
raises_after r (Tab t) = r
raises_after r Linefeed = r
raises_after r (Text w) = r
raises_after r (Start b) = one_opened r
raises_after r (End b) = one_closed r
raises_after r (Atomic b) = one_passed r

abbrev pub raises_after_all : RaisesValue → List Part → RaisesValue
raises_after_all r [] = r
raises_after_all r (x ∷ xs) = raises_after_all (raises_after r x) xs

-- those of the parts of a line behind its strut
abbrev pub behind_strut : List Unit → List Unit
behind_strut shifts = drop 1 shifts

-- where a line with these shifts begins, with so many inline boxes open
abbrev pub raises_of : List Unit → ℕ → RaisesValue
raises_of shifts count = record { open_boxes = take count (behind_strut shifts); coming = drop count (behind_strut shifts) }

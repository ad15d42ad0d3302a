-- Preferred widths are those of lines. CSS 2.2, 10.3.5: "calculate the preferred width by formatting the content without breaking
-- lines other than where explicit line breaks occur, and also calculate the preferred minimum width, e.g., by trying all
-- possible line breaks." So content that has its preferred width breaks only where it must, and no line reaches past the
-- preferred minimum width.
--
-- The laws rest on what `AreAlone` says: no floats beside or in the lines, no percentages, and atomic boxes as wide as they were
-- measured. Floats move the places of tabs, and 10.3.5 doesn't say what a percentage is of before the width is known. That content
-- which doesn't have to break stays on one line rests on one more: nothing has a negative width. Else a part of it
-- may reach further than all of it does.
use Rattle.std.specs.Prelude.{◌≡◌, ℤ, ◌-ℤ◌, ◌≤ℤ◌, List, All}
use Rattle.lay_units.specs.declared.length.Unit.{Unit as Length}
use Rattle.lay_floats.specs.declared.placed.Placed.{Placed}
use Rattle.lay_box_tree.specs.declared.box_tree.BoxNode.{BoxNode}
use Rattle.lay_space.specs.declared.item.Item.{Item}
use Rattle.lay_space.specs.declared.segment.Segment.{Segment}
use Rattle.lay_lines.specs.declared.content.frame.Frame.{Frame}
use Rattle.lay_lines.specs.declared.content.pen.Pen.{Pen as LinePen}
use Rattle.lay_lines.specs.Content.Pens.{over_all as over_line}
use Rattle.lay_lines.specs.declared.row.Ended.{Ended}
use Rattle.lay_lines.specs.Lines.{LinesValue}
use Rattle.lay_line_measures.specs.declared.container.Container.{Container}
use Rattle.lay_line_measures.specs.BoxMeasuresValue.{BoxMeasuresValue}
use Rattle.lay_line_measures.specs.Contents.{content_in}
use Rattle.lay_line_measures.specs.Stretches.{parts_of as line_parts_of}
use Rattle.lay_measure.specs.declared.pen.Breaking.{Breaking}
use Rattle.lay_measure.specs.declared.pen.Breaking.TheVariants as breaking
use Rattle.lay_measure.specs.LineParts.{parts_of}
use Rattle.lay_measure.specs.LineWidths.{inline_widths, pen_after}
use Rattle.lay_measure.specs.MeasureInValue.{MeasureInValue}
use Rattle.lay_flow_boxes.specs.Words.LinesAlone.{AreAlone, BreakWhereForced, IsAsMeasured, NoneIsNegative, measuring_pen}

-- The pen of a line comes as far as the one by which preferred widths are worked out, from wherever it begins: by the same
-- advances and the same tab stops, and with the same spaces at the end not counted.
abbrev pub LinesComeAsFarAsMeasured : Type 0
LinesComeAsFarAsMeasured =
    (how : Breaking) (m : BoxMeasuresValue) (by : MeasureInValue) (fr : Frame) (p : LinePen) (items : List Item)
    → All (IsAsMeasured how m by) items
    → pen_after how fr.tab.0 (measuring_pen p) (parts_of by items) ≡ measuring_pen (over_line fr p (line_parts_of m items))

-- In a width that is no less than the preferred one lines break only where they have to.
abbrev pub PreferredWidthBreaksNothing : Type 0
PreferredWidthBreaksNothing =
    (m : BoxMeasuresValue) (by : MeasureInValue) (c : Container) (b : BoxNode) (segments : List Segment) (left right : Length) (top : ℤ)
    (floats : List Placed) (v : LinesValue) → AreAlone breaking.WhereForced m by c b segments left right top floats v
    → NoneIsNegative (content_in m c segments).stretches → (inline_widths by b.style.text segments).preferred.0 ≤ℤ (right.0 -ℤ left.0)
    → BreakWhereForced (content_in m c segments).stretches v.rows

-- In a width that is no less than the preferred minimum one no line reaches past its right edge, spaces at its end not counted.
abbrev pub MinimumWidthHoldsEachLine : Type 0
MinimumWidthHoldsEachLine =
    (m : BoxMeasuresValue) (by : MeasureInValue) (c : Container) (b : BoxNode) (segments : List Segment) (left right : Length) (top : ℤ)
    (floats : List Placed) (v : LinesValue) → AreAlone breaking.WhereAllowed m by c b segments left right top floats v
    → (inline_widths by b.style.text segments).minimum.0 ≤ℤ (right.0 -ℤ left.0)
    → All (λ (r : Ended). r.reach.pen.visible.0 ≤ℤ (right.0 -ℤ left.0)) v.rows

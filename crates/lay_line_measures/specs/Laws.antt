-- Laws of content.
use Rattle.std.specs.Prelude.{◌≡◌, ℤ, pos, ◌+ℤ◌, List, None}
use Rattle.std.specs.List.{list_any}
use Rattle.lay_units.specs.declared.length.Unit.{Unit as Length}
use Rattle.lay_floats.specs.declared.placed.Placed.{Placed}
use Rattle.lay_space.specs.declared.segment.Segment.{Segment}
use Rattle.lay_lines.specs.declared.row.Ended.{Ended}
use Rattle.lay_lines.specs.FloatNumbers.{HeadsBeginLines}
use Rattle.lay_lines.specs.Lines.{AreLines, LinesValue}
use Rattle.lay_sizes.specs.declared.own_boxes.OwnBox.{OwnBox}
use Rattle.lay_sizes.specs.OwnBoxes.{margin_height}
use Rattle.lay_line_measures.specs.declared.container.Container.{Container}
use Rattle.lay_line_measures.specs.AtomicBoxes.{margin_extent}
use Rattle.lay_line_measures.specs.BoxMeasuresValue.{BoxMeasuresValue}
use Rattle.lay_line_measures.specs.Contents.{content_in}
use Rattle.lay_line_measures.specs.SeenLines.{has_seen_line}

-- Content has a line that is seen exactly where some line is seen when it is laid, whatever floats stand beside it and
-- wherever lines break. So whether a container holds lines is known before they are laid.
abbrev pub SeenLinesAreSeen : Type 0
SeenLinesAreSeen =
    (m : BoxMeasuresValue) (c : Container) (segments : List Segment) (left right : Length) (top : ℤ) (before : List Placed) (v : LinesValue)
    → AreLines (content_in m c segments) left right top before v
    → list_any (λ (r : Ended). r.seen) v.rows ≡ has_seen_line (content_in m c segments).stretches

-- Only a stretch that surely begins a line has floats that are met before its content, so each float of it has a place
-- when its lines are laid (law `each_float_has_a_place` of lay_lines).
abbrev pub HeadsOfContentBeginLines : Type 0
HeadsOfContentBeginLines = (m : BoxMeasuresValue) (c : Container) (segments : List Segment)
    → HeadsBeginLines (content_in m c segments).stretches

-- "This is the height of their margin box" (10.8.1): so far an atomic box reaches above and below its baseline together,
-- and where it has none, it reaches nowhere below.
abbrev pub AtomicBoxesAreMarginBoxes : Type 0
AtomicBoxesAreMarginBoxes =
    (o : OwnBox)
    → ((margin_extent o).above.0 +ℤ (margin_extent o).below.0 ≡ margin_height o)
    × (o.baseline ≡ None → (margin_extent o).below.0 ≡ pos 0)

-- Between clusters that are nothing but text to a line no line breaks (CSS 2.2, 16.6), so the clusters of a word may have one width
-- together. A pen comes just as far over a text that is gathered so as over its clusters one by one, wherever clusters begin at
-- characters: in lines (9.4.2), and where lines are tried for preferred widths (10.3.5).
use Rattle.std.specs.Prelude.{ℕ, ◌≡◌, ℤ, List}
use Rattle.lay_units.specs.declared.records.ClusterWidth.{ClusterWidth}
use Rattle.lay_space.specs.declared.item.Mode.{Mode}
use Rattle.lay_space.specs.SegmentLaws.{StandOnBoundaries}
use Rattle.lay_line_items.specs.GatheredWidths.{gathered}
use Rattle.lay_lines.specs.declared.content.frame.Frame.{Frame}
use Rattle.lay_lines.specs.declared.content.pen.Pen.{Pen as LinePen}
use Rattle.lay_lines.specs.Content.Pens.{over_all as over_parts}
use Rattle.lay_line_measures.specs.TextParts.{text_parts}
use Rattle.lay_measure.specs.declared.pen.Breaking.{Breaking}
use Rattle.lay_measure.specs.declared.pen.Pen.{Pen}
use Rattle.lay_measure.specs.LineParts.{text_parts as measured_parts}
use Rattle.lay_measure.specs.LineWidths.{pen_after}

abbrev pub WordsAreTheirClusters : Type 0
WordsAreTheirClusters =
    (fr : Frame) (p : LinePen) (node : ℕ) (m : Mode) (text : List ℕ) (widths : List ClusterWidth) → StandOnBoundaries text widths
    → over_parts fr p (text_parts (record { node = node; mode = m }) text (gathered text widths))
    ≡ over_parts fr p (text_parts (record { node = node; mode = m }) text widths)

abbrev pub WordsMeasureAsTheirClusters : Type 0
WordsMeasureAsTheirClusters =
    (how : Breaking) (tab : ℤ) (p : Pen) (m : Mode) (text : List ℕ) (widths : List ClusterWidth) → StandOnBoundaries text widths
    → pen_after how tab p (measured_parts m text (gathered text widths)) ≡ pen_after how tab p (measured_parts m text widths)

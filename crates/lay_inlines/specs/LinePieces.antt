-- The pieces of the lines of a block container (CSS 2.2, 9.4.2, 10.8 and 16.2): for each line that is seen the line box,
-- as wide as the room that floats leave it and as high as its extent, and then in document order the inline boxes, the
-- atomic boxes and the texts on it. Each stands on its own baseline, which `vertical-align` raises above the line's
-- (10.8.1), and all are moved where `text-align` says so and the line is wider than its content. A box on a line is as
-- high as its border box, whatever the height of the line.
use Rattle.std.specs.Prelude.{ℕ, ℤ, pos, ◌+ℤ◌, ◌-ℤ◌, if◌then◌else◌, List, [], ◌∷◌, ◌++◌, drop, take, length, map}
use Rattle.std.specs.Int.{int_max}
use Rattle.lay_units.specs.Units.{half_of}
use Rattle.lay_units.specs.declared.records.Rect.{Rect}
use Rattle.lay_lines.specs.declared.content.content.InlineArea.{InlineArea}
use Rattle.lay_lines.specs.declared.content.content.Part.{Part}
use Rattle.lay_lines.specs.declared.content.content.Stretch.{Stretch}
use Rattle.lay_lines.specs.declared.content.frame.Frame.{Frame}
use Rattle.lay_lines.specs.declared.content.pen.Pen.{Pen}
use Rattle.lay_lines.specs.Content.LineContents.{LineContentValue}
use Rattle.lay_lines.specs.Content.Pens.{blank, start_of, over_all}
use Rattle.lay_lines.specs.declared.row.Ended.{Ended}
use Rattle.lay_lines.specs.Lines.{frame_of}
use Rattle.lay_lines.specs.Rows.{next_frame}
use Rattle.lay_inlines.specs.declared.align.Align.{Align}
use Rattle.lay_inlines.specs.declared.align.Align.TheVariants.{Left, Right, Center}
use Rattle.lay_inlines.specs.declared.line_piece.LinePiece.{LinePiece}
use Rattle.lay_inlines.specs.declared.line_piece.LinePieceKind.TheVariants.{Line}
use Rattle.lay_inlines.specs.declared.lines.Container.{Container}
use Rattle.lay_inlines.specs.declared.spans.Span.{Span}
use Rattle.lay_inlines.specs.Strokes.{parts_of, strokes}
use Rattle.lay_inlines.specs.declared.strokes.Stroke.{Stroke}
use Rattle.lay_inlines.specs.Spans.{unit, area_at, ended_right_edges, spans_of, open_spans}
use Rattle.lay_inlines.specs.Raises.{behind_strut, raises_of}
use Rattle.lay_inlines.specs.OpenBoxes.{open_after}

-- how far content moves that leaves this width of its line free (16.2): nowhere where it leaves none
abbrev pub aligned_shift : Align → ℤ → ℤ
aligned_shift Left free = pos 0
aligned_shift Right free = int_max (pos 0) free
aligned_shift Center free = half_of (int_max (pos 0) free)

abbrev pub unit_rect : ℤ → ℤ → ℤ → ℤ → Rect
unit_rect x y w h = record { x = unit x; y = unit y; w = unit w; h = unit h }

abbrev pub line_box : ℕ → Ended → LinePiece
line_box node row = record {
  kind = Line;
  node = node;
  rect = unit_rect row.reach.start.0 row.top.0 (row.reach.end.0 -ℤ row.reach.start.0) (row.extent.above.0 +ℤ row.extent.below.0);
}

-- what a span shows, with the pen's place 0 at `origin`, on a line with this baseline
abbrev pub piece_of : List InlineArea → ℤ → ℤ → Span → LinePiece
piece_of areas origin baseline s = record {
  kind = s.kind;
  node = s.node;
  rect = unit_rect (origin +ℤ s.from.0) ((baseline -ℤ s.raise.0) -ℤ (area_at areas s.node).above.0) (s.to.0 -ℤ s.from.0)
      ((area_at areas s.node).above.0 +ℤ (area_at areas s.node).below.0);
}

abbrev pub baseline_of : Ended → ℤ
baseline_of row = row.top.0 +ℤ row.extent.above.0

-- where the pen's place 0 is on a line whose content ends at `end`
abbrev pub origin_of : Container → Ended → ℤ → ℤ
origin_of c row end = c.left.0 +ℤ aligned_shift c.align ((row.reach.end.0 -ℤ c.left.0) -ℤ end)

-- before the content of a line
abbrev pub blank_of : Frame → Ended → Pen
blank_of fr row = blank (start_of fr row.reach.start.0)

-- where the content of a line ends; preserved spaces at its end count (16.6.1)
abbrev pub content_end : Frame → Ended → List Part → ℤ
content_end fr row xs = (over_all fr (blank_of fr row) xs).solid.0

-- the strokes of a line with these parts, on which these inline boxes are open from its start
abbrev pub line_strokes : Frame → Ended → List ℕ → List Part → List Stroke
line_strokes fr row ns xs = strokes fr (blank_of fr row) (raises_of row.shifts (length ns)) xs

-- and its boxes and texts
abbrev pub line_spans : List InlineArea → Frame → Ended → List ℕ → List Part → List Span
line_spans areas fr row ns xs =
    open_spans (start_of fr row.reach.start.0) (content_end fr row xs) (ended_right_edges areas (line_strokes fr row ns xs))
    (behind_strut row.shifts) ns
    ++ spans_of areas (content_end fr row xs) (line_strokes fr row ns xs)

abbrev pub line_pieces_of : Container → List InlineArea → Frame → Ended → List ℕ → List Part → List LinePiece
line_pieces_of c areas fr row ns xs =
    line_box c.node row ∷ map (piece_of areas (origin_of c row (content_end fr row xs)) (baseline_of row)) (line_spans areas fr row ns xs)

-- a line that isn't seen has none
abbrev pub pieces_if_seen : Container → List InlineArea → Frame → Ended → List ℕ → List Part → List LinePiece
pieces_if_seen c areas fr row ns xs = if row.seen then line_pieces_of c areas fr row ns xs else []

-- the pieces of these lines, the first of which begins with this frame, these open inline boxes and this content
abbrev pub pieces_from : Container → List InlineArea → Frame → List ℕ → List Stretch → List Ended → List LinePiece
pieces_from c areas fr ns ss [] = []
pieces_from c areas fr ns ss (row ∷ rows) =
    pieces_if_seen c areas fr row ns (parts_of (take row.reach.count ss))
    ++ pieces_from c areas (next_frame fr row.seen) (open_after ns (parts_of (take row.reach.count ss))) (drop row.reach.count ss) rows

abbrev pub pieces_of : Container → LineContentValue → List Ended → List InlineArea → List LinePiece
pieces_of c content rows areas = pieces_from c areas (frame_of content c.left c.right) [] content.stretches rows

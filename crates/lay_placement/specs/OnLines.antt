-- What stands on the lines of the boxes of one formatting context (CSS 2.2, 9.4.2), in document order.
use Rattle.std.specs.Prelude.{ℕ, zero, suc, ◌≡◌, ◌<◌, Bool, true, false, List, [], ◌++◌, length, slice_index_or}
use Rattle.lay_style.specs.declared.style_words.TextAlign.{TextAlign}
use Rattle.lay_style.specs.declared.style_words.TextAlign.TheVariants as align
use Rattle.lay_style.specs.ComputedStyle.{style_at}
use Rattle.lay_box_tree.specs.declared.box_tree.BoxNode.{BoxNode}
use Rattle.lay_box_tree.specs.BoxColumns.{box_styles}
use Rattle.lay_inlines.specs.declared.align.Align.{Align}
use Rattle.lay_inlines.specs.declared.align.Align.TheVariants as aligned
use Rattle.lay_inlines.specs.declared.line_piece.LinePiece.{LinePiece}
use Rattle.lay_inlines.specs.declared.lines.Container.{Container}
use Rattle.lay_inlines.specs.LinePieces.{pieces_of}
use Rattle.lay_flow.specs.declared.blocks.flow_box.BlockBox.{BlockBox}
use Rattle.lay_flow.specs.declared.blocks.flow_box.FlowKind.{FlowKind}
use Rattle.lay_flow.specs.declared.blocks.flow_box.FlowKind.TheVariants.{Block as block, Lines as lines, Solid as solid}
use Rattle.lay_flow.specs.declared.blocks.flow_box.FlowKind.TheVariants.{Float as float, LineFloat as line_float, Inline as inline}
use Rattle.lay_flow.specs.Blocks.Boxes.{box_at}
use Rattle.lay_flow.specs.Blocks.FlowPlaces.{FlowPlacesValue}
use Rattle.lay_line_measures.specs.BoxMeasuresValue.{BoxMeasuresValue}
use Rattle.lay_line_measures.specs.InlineBoxes.{inline_areas}
use Rattle.lay_flow_boxes.specs.PlaceInputs.{PlaceInput}
use Rattle.lay_placement.specs.ContextPlaces.{ContextPlaces, measures_of, rows_at}

-- the used value of `text-align` (16.2). Lines aren't justified: that isn't of this layout.
abbrev pub used_text_align : TextAlign → Align
used_text_align align.Left = aligned.Left
used_text_align align.Right = aligned.Right
used_text_align align.Center = aligned.Center
used_text_align align.Justify = aligned.Left

-- the block box at k, as its lines take it
abbrev pub block_line_container : List BoxNode → ℕ → BlockBox → Container
block_line_container boxes k b = record {
  node = k;
  left = b.content.left;
  right = b.content.right;
  align = used_text_align (style_at (box_styles boxes) k).text.text_align;
}

-- what stands on the lines of the box at k, where it is this in its flow
abbrev pub pieces_on_lines : BoxMeasuresValue → FlowPlacesValue → ℕ → FlowKind → List LinePiece
pieces_on_lines m places k (block b) = []
pieces_on_lines m places k (lines l) =
    pieces_of (block_line_container m.boxes k l.block) l.content (rows_at places k) (inline_areas m)
pieces_on_lines m places k (solid b) = []
pieces_on_lines m places k (float b) = []
pieces_on_lines m places k (line_float b) = []
pieces_on_lines m places k inline = []

-- only such a box has any
abbrev pub holds_lines : FlowKind → Bool
holds_lines (lines l) = true
holds_lines _ = false

abbrev pub on_lines_of : PlaceInput → ContextPlaces → ℕ → List LinePiece
on_lines_of i p k = pieces_on_lines (measures_of i p) p.places k (box_at p.shape.flow_boxes k).kind

-- what stands on the lines of the first n boxes
abbrev pub on_lines_to : PlaceInput → ContextPlaces → ℕ → List LinePiece
on_lines_to i p zero = []
on_lines_to i p (suc k) = on_lines_to i p k ++ on_lines_of i p k

-- what is kept of the lines of each box: nothing, where no box holds lines
abbrev pub on_lines_at : List (List LinePiece) → ℕ → List LinePiece
on_lines_at all k = slice_index_or all k []

-- this is what stands on them
pub record AreOnLines (i : PlaceInput) (p : ContextPlaces) (all : List (List LinePiece)) : Type 0 where
  pub each : (k : ℕ) → k < length i.boxes → on_lines_at all k ≡ on_lines_of i p k

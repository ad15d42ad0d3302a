-- The pieces of one formatting context, counted from the corner of its own border box: its own border box and then, in the order
-- of its box tree, the border boxes of its blocks, and behind that of a block with lines, line by line, the line, its inline
-- boxes and its texts (CSS 2.2, 9.2.1, 9.4.1 and 9.4.2). The boxes of elements inside it that have formatting contexts of their
-- own are pieces of those. An anonymous one is of the same element, and its pieces stand where its box does: in box order, or
-- on its line. An anonymous box is a piece of the nearest element. On a line without anything seen nothing is.
use Rattle.std.specs.Prelude.{ℕ, zero, suc, ◌+ℤ◌, List, [], ◌∷◌, if◌then◌else◌}
use Rattle.std.specs.List.{flat_map}
use Rattle.lay_units.specs.declared.records.Rect.{Rect}
use Rattle.lay_frag.specs.declared.frag.Frag.{Frag}
use Rattle.lay_frag.specs.declared.frag.FragKind.{FragKind}
use Rattle.lay_frag.specs.declared.frag.FragKind.TheVariants as kind
use Rattle.lay_box_tree.specs.Roles.{is_inline_level, role_at}
use Rattle.lay_inlines.specs.declared.line_piece.LinePiece.{LinePiece}
use Rattle.lay_inlines.specs.declared.line_piece.LinePieceKind.{LinePieceKind}
use Rattle.lay_inlines.specs.declared.line_piece.LinePieceKind.TheVariants as on_line
use Rattle.lay_sizes.specs.BoxSizes.{border_width}
use Rattle.lay_sizes.specs.OwnBoxes.{own_box_at}
use Rattle.lay_sizes.specs.SizeColumns.{sizes_at}
use Rattle.lay_box_tree.specs.ContextBoxes.{is_inner}
use Rattle.lay_box_tree.specs.InlineParts.{id_at}
use Rattle.lay_abspos.specs.declared.relative.offset.Offset.{Offset}
use Rattle.lay_abspos.specs.Relative.Moves.{move_at}
use Rattle.lay_flow_boxes.specs.PlaceInputs.{PlaceInput}
use Rattle.lay_placements.specs.InnerPieces.{inner_pieces_at}
use Rattle.lay_placements.specs.PieceParts.{with_pieces}
use Rattle.lay_placements.specs.Splicing.{border_box, spliced}
use Rattle.lay_placement.specs.BoxStandings.{standing_of_box}
use Rattle.lay_placement.specs.ContextPlaces.{ContextPlaces}
use Rattle.lay_placement.specs.OnLines.{on_lines_of}

-- a rectangle that is moved so far
abbrev pub moved_rect : Offset → Rect → Rect
moved_rect o r = record { x = record { 0 = o.right.0 +ℤ r.x.0 }; y = record { 0 = o.down.0 +ℤ r.y.0 }; w = r.w; h = r.h }

-- a piece on a line that is painted as this, whose part isn't known yet: it is moved with its box
abbrev pub piece_as : PlaceInput → ContextPlaces → LinePiece → FragKind → Frag
piece_as i p piece kind = record {
  kind = kind;
  node = record { 0 = id_at i.boxes piece.node };
  part = 0;
  rect = moved_rect (move_at p.moves piece.node) piece.rect;
}

-- the pieces of the anonymous formatting context whose own box is the one at k, if it is that of one
abbrev pub spliced_at : PlaceInput → ContextPlaces → ℕ → List Frag
spliced_at i p k = spliced (own_box_at i.inner k).width (standing_of_box i p k) (inner_pieces_at i.pieces k)

-- what is painted of a piece of this kind on a line
abbrev pub painted_of_piece : PlaceInput → ContextPlaces → LinePiece → LinePieceKind → List Frag
painted_of_piece i p piece on_line.Line = piece_as i p piece kind.Line ∷ []
painted_of_piece i p piece on_line.Inline = piece_as i p piece kind.Box ∷ []
painted_of_piece i p piece on_line.Text = piece_as i p piece kind.Text ∷ []
painted_of_piece i p piece on_line.Atomic = spliced_at i p piece.node

abbrev pub pieces_on_line : PlaceInput → ContextPlaces → LinePiece → List Frag
pieces_on_line i p piece = painted_of_piece i p piece piece.kind

-- the border box of the box at k
abbrev pub piece_of_box : PlaceInput → ContextPlaces → ℕ → Frag
piece_of_box i p k = record {
  kind = kind.Box;
  node = record { 0 = id_at i.boxes k };
  part = 0;
  rect = border_box (record { 0 = border_width (sizes_at i.sizes k) }) (standing_of_box i p k);
}

-- the pieces of the box at k
abbrev pub pieces_of_box : PlaceInput → ContextPlaces → ℕ → List Frag
pieces_of_box i p k =
    if is_inline_level (role_at i.boxes k) then []
    else (if is_inner i.boxes k then spliced_at i p k
    else piece_of_box i p k ∷ flat_map (pieces_on_line i p) (on_lines_of i p k))

-- the pieces of the first n boxes, each with its part
abbrev pub pieces_to : PlaceInput → ContextPlaces → ℕ → List Frag
pieces_to i p zero = []
pieces_to i p (suc k) = with_pieces (pieces_to i p k) (pieces_of_box i p k)

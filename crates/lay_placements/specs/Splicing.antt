-- The pieces of an anonymous formatting context are those of the element around it, so they stand among its pieces, moved to
-- where the box stands (CSS 2.2, 9.2.1.1 and 17.2.1): as a context stands on the page, so this one stands in the one around it.
use Rattle.std.specs.Prelude.{List}
use Rattle.lay_units.specs.declared.length.Unit.{Unit as Length}
use Rattle.lay_units.specs.declared.records.Rect.{Rect}
use Rattle.lay_frag.specs.declared.frag.Frag.{Frag}
use Rattle.lay_frag.specs.Pieces.{pieces_at}
use Rattle.lay_placements.specs.declared.standing.Standing.{Standing}

-- the border box of a box that stands so and is so wide
abbrev pub border_box : Length → Standing → Rect
border_box width s = record { x = s.corner.x; y = s.corner.y; w = width; h = s.height }

-- the pieces of a formatting context whose own box is this, as they stand in the one around it
abbrev pub spliced : Length → Standing → List Frag → List Frag
spliced width s pieces = pieces_at (border_box width s) s.shift pieces

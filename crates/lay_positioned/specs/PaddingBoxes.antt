-- The padding box of a box (CSS 2.2, 8.1), where its formatting context is laid out: its border box, less the used widths of its
-- borders. The borders of a table are those of the table box, so the padding box of its wrapper is its border box (17.4).
use Rattle.std.specs.Prelude.{ℕ, Bool, true, false, ◌+ℤ◌, ◌-ℤ◌, List, map, slice_index_or}
use Rattle.lay_units.specs.declared.records.Rect.{Rect}
use Rattle.lay_units.specs.declared.records.Sides.{Sides}
use Rattle.lay_style.specs.declared.style.Style.{Style}
use Rattle.lay_style.specs.ComputedStyle.{style_at}
use Rattle.lay_style.specs.LengthValues.{size_of}
use Rattle.lay_box_tree.specs.BoxColumns.{box_styles}
use Rattle.lay_box_tree.specs.declared.box_tree.BoxNode.{BoxNode}
use Rattle.lay_box_tree.specs.Kinds.{is_wrapper}
use Rattle.lay_sizes.specs.declared.sizing.BoxSizes.{BoxSizes}
use Rattle.lay_sizes.specs.BoxSizes.{border_width}
use Rattle.lay_sizes.specs.SizeColumns.{no_edges, sizes_at}
use Rattle.lay_placements.specs.declared.standing.Standing.{Standing}
use Rattle.lay_placements.specs.Standings.{standing_at}
use Rattle.lay_positioned.specs.Layouts.{Layout}

abbrev pub is_wrapper_at : List BoxNode → ℕ → Bool
is_wrapper_at boxes k = slice_index_or (map (λ b. is_wrapper b.kind) boxes) k false

-- the used widths of the borders of a box of this style
abbrev pub borders_of : (is_wrapper : Bool) → Style → Sides
borders_of true s = no_edges
borders_of false s = record {
  top = size_of s.border.width.top.0;
  right = size_of s.border.width.right.0;
  bottom = size_of s.border.width.bottom.0;
  left = size_of s.border.width.left.0;
}

-- the padding box of a box that stands so, with these sizes and these borders
abbrev pub inside_borders : Standing → BoxSizes → Sides → Rect
inside_borders standing z borders = record {
  x = record { 0 = standing.corner.x.0 +ℤ borders.left.0 };
  y = record { 0 = standing.corner.y.0 +ℤ borders.top.0 };
  w = record { 0 = border_width z -ℤ borders.left.0 -ℤ borders.right.0 };
  h = record { 0 = standing.height.0 -ℤ borders.top.0 -ℤ borders.bottom.0 };
}

-- that of the box at k among these, where they are laid out so
abbrev pub padding_box : List BoxNode → Layout → ℕ → Rect
padding_box boxes layout k =
    inside_borders (standing_at layout.standings k) (sizes_at layout.sizes k)
    (borders_of (is_wrapper_at boxes k) (style_at (box_styles boxes) k))

-- The borders of a table box and of its cells (CSS 2.2, 17.6). Where borders are separate, they are those of the style
-- (17.6.1). Where they collapse, a border is drawn on each edge, half of it on each side (17.6.2): a cell has the halves
-- inside of the widest edges on each of its sides; the table has on its left and its right the halves outside of the
-- edges of the first row, and above and below those of the widest edges. A table without rows or columns has no
-- collapsed borders.
use Rattle.std.specs.Prelude.{ℕ, ◌≡◌, ◌⊎◌, ◌+◌, ◌<◌, ℤ, ◌≤ℤ◌, Option, Some, None, List, length}
use Rattle.lay_units.specs.declared.records.Sides.{Sides}
use Rattle.lay_box_tree.specs.declared.box_tree.BoxNode.{BoxNode}
use Rattle.lay_borders.specs.declared.candidate.Cand.{Cand}
use Rattle.lay_borders.specs.Edges.{IsEdge}
use Rattle.lay_borders.specs.Halves.{edge_width, first_half, second_half}
use Rattle.lay_sizes.specs.SizeColumns.{no_edges}
use Rattle.lay_table_grid.specs.TableParts.{TableParts}
use Rattle.lay_table_grid.specs.declared.elements.Side.TheVariants as side
use Rattle.lay_table_grid.specs.declared.cell_area.CellArea.{CellArea}
use Rattle.lay_table_grid.specs.MeetingBorders.{meeting_above, meeting_left, width_on}

-- the borders of a style
abbrev pub own_borders : Option BoxNode → Sides
own_borders None = no_edges
own_borders (Some box) = record {
  top = width_on side.Top box.style;
  right = width_on side.Right box.style;
  bottom = width_on side.Bottom box.style;
  left = width_on side.Left box.style;
}

-- how wide the border of an edge is drawn where these meet
abbrev pub IsEdgeWidth : List Cand → ℤ → Type 0
IsEdgeWidth borders width = (edge : Option Cand) × IsEdge borders edge × (width ≡ edge_width edge)

-- the greatest width of so many edges
pub record IsWidest (meeting : ℕ → List Cand) (count : ℕ) (width : ℤ) : Type 0 where
  pub one_of : (k : ℕ) × (k < count) × IsEdgeWidth (meeting k) width
  pub most : (k : ℕ) (other : ℤ) → k < count → IsEdgeWidth (meeting k) other → other ≤ℤ width

-- a half of that
abbrev pub IsHalf : (ℤ → ℤ) → (ℕ → List Cand) → ℕ → ℤ → Type 0
IsHalf half meeting count border = (width : ℤ) × IsWidest meeting count width × (border ≡ half width)

pub record AreCellBorders (p : TableParts) (a : CellArea) (sides : Sides) : Type 0 where
  pub top : IsHalf second_half (λ k. meeting_above p a.row (a.column + k)) a.columns sides.top.0
  pub bottom : IsHalf first_half (λ k. meeting_above p (a.row + a.rows) (a.column + k)) a.columns sides.bottom.0
  pub left : IsHalf second_half (λ k. meeting_left p (a.row + k) a.column) a.rows sides.left.0
  pub right : IsHalf first_half (λ k. meeting_left p (a.row + k) (a.column + a.columns)) a.rows sides.right.0

pub record AreOuterHalves (p : TableParts) (sides : Sides) : Type 0 where
  pub top : IsHalf first_half (λ k. meeting_above p 0 k) p.columns sides.top.0
  pub bottom : IsHalf second_half (λ k. meeting_above p (length p.rows) k) p.columns sides.bottom.0
  pub left : IsHalf first_half (λ k. meeting_left p k 0) 1 sides.left.0
  pub right : IsHalf second_half (λ k. meeting_left p k p.columns) 1 sides.right.0

pub record AreTableBorders (p : TableParts) (sides : Sides) : Type 0 where
  pub some : 0 < length p.rows → 0 < p.columns → AreOuterHalves p sides
  pub none : (length p.rows ≡ 0) ⊎ (p.columns ≡ 0) → sides ≡ no_edges

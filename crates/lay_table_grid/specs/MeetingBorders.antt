-- Which borders meet at an edge of the grid of a table whose borders collapse (CSS 2.2, 17.6.2.1): those of the cells,
-- rows, row groups, columns, column groups and the table that end there. An edge lies between two slots or at the rim of
-- the grid. Inside a cell no borders meet, and a slot that no cell covers has none.
--
-- A row is bordered above and below along the whole grid, a row group where it begins and where it ends. A column is
-- bordered on its left and on its right along the whole grid, a column group where it begins and where it ends. At the
-- left and the right rim rows and row groups end as well, at the upper and the lower one columns and column groups, and
-- the table at each. A border is known by the first row and the first column of what it is of. Columns that share a box
-- are bordered each by itself.
use Rattle.std.specs.Prelude.{ℕ, zero, suc, ◌==◌, ◌&&◌, nat_le, nat_lt, Bool, false}
use Rattle.std.specs.Prelude.{Option, Some, None, List, [], ◌∷◌, ◌++◌, length, map, slice_get, if◌then◌else◌}
use Rattle.lay_units.specs.declared.length.Unit.{Unit as Length}
use Rattle.lay_style.specs.declared.style.Style.{Style}
use Rattle.lay_style.specs.declared.style_words.BorderStyle.{BorderStyle as Computed}
use Rattle.lay_style.specs.declared.style_words.BorderStyle.TheVariants as computed
use Rattle.lay_style.specs.LengthValues.{size_of}
use Rattle.lay_box_tree.specs.declared.box_tree.BoxNode.{BoxNode}
use Rattle.lay_box_tree.specs.Containers.{box_parent}
use Rattle.lay_grid.specs.Places.{right_edge}
use Rattle.lay_borders.specs.declared.candidate.BorderStyle.{BorderStyle}
use Rattle.lay_borders.specs.declared.candidate.BorderStyle.TheVariants as style
use Rattle.lay_borders.specs.declared.candidate.Cand.{Cand}
use Rattle.lay_borders.specs.declared.candidate.Origin.TheVariants as origin
use Rattle.lay_table_grid.specs.declared.rows.TableRow.{TableRow}
use Rattle.lay_table_grid.specs.declared.placed.PlacedCell.{PlacedCell}
use Rattle.lay_table_grid.specs.TableBoxes.{is_column_kind, is_column_group_kind, is_row_group_kind, kind_at}
use Rattle.lay_table_grid.specs.TableParts.{TableParts}
use Rattle.lay_table_grid.specs.declared.elements.Element.{Element}
use Rattle.lay_table_grid.specs.declared.elements.Side.{Side}
use Rattle.lay_table_grid.specs.declared.elements.Side.TheVariants as side

-- the style of a border as a conflict knows it
abbrev pub conflict_style : Computed → BorderStyle
conflict_style computed.None = style.None
conflict_style computed.Hidden = style.Hidden
conflict_style computed.Dotted = style.Dotted
conflict_style computed.Dashed = style.Dashed
conflict_style computed.Solid = style.Solid
conflict_style computed.Double = style.Double
conflict_style computed.Groove = style.Groove
conflict_style computed.Ridge = style.Ridge
conflict_style computed.Inset = style.Inset
conflict_style computed.Outset = style.Outset

abbrev pub style_on : Side → Style → BorderStyle
style_on side.Top s = conflict_style s.border.style.top
style_on side.Right s = conflict_style s.border.style.right
style_on side.Bottom s = conflict_style s.border.style.bottom
style_on side.Left s = conflict_style s.border.style.left

abbrev pub width_on : Side → Style → Length
width_on side.Top s = size_of s.border.width.top.0
width_on side.Right s = size_of s.border.width.right.0
width_on side.Bottom s = size_of s.border.width.bottom.0
width_on side.Left s = size_of s.border.width.left.0

abbrev pub border_on : Side → Element → Style → Cand
border_on on element s = record {
  style = style_on on s;
  width = width_on on s;
  origin = element.origin;
  row = element.row;
  column = element.column;
}

abbrev pub border_of_box : Side → Element → Option BoxNode → List Cand
border_of_box on element None = []
border_of_box on element (Some box) = border_on on element box.style ∷ []

-- the border of an element on a side, if there is such an element
abbrev pub border_of : List BoxNode → Side → Option Element → List Cand
border_of boxes on None = []
border_of boxes on (Some element) = border_of_box on element (slice_get boxes element.place)

-- The i-th is beside the one before it, if there is one.
abbrev pub before : ℕ → Option ℕ
before zero = None
before (suc i) = Some i

-- the i-th of so many, if there is one
abbrev pub among : ℕ → ℕ → Option ℕ
among count i = if nat_lt i count then Some i else None

abbrev pub item : {X : Type 0} → List X → Option ℕ → Option X
item xs None = None
item xs (Some i) = slice_get xs i

-- both are there, and are the same
abbrev pub are_one : Option ℕ → Option ℕ → Bool
are_one None b = false
are_one (Some a) None = false
are_one (Some a) (Some b) = a == b

-- the first of those that stand together with the i-th and are the same
abbrev pub first_of_run : List ℕ → ℕ → ℕ
first_of_run xs zero = 0
first_of_run xs (suc i) =
    if are_one (slice_get xs i) (slice_get xs (suc i)) then first_of_run xs i else suc i

-- the cell that covers the slot of this row and this column, if one does
abbrev pub covers : PlacedCell → ℕ → ℕ → Bool
covers placed r c =
    nat_le placed.cell.area.row r
    && (nat_lt r placed.cell.area.end && (nat_le placed.cell.left c && nat_lt c (right_edge placed.cell)))

abbrev pub covering : List PlacedCell → ℕ → ℕ → Option PlacedCell
covering [] r c = None
covering (placed ∷ cells) r c = if covers placed r c then Some placed else covering cells r c

abbrev pub covering_in : List PlacedCell → Option ℕ → Option ℕ → Option PlacedCell
covering_in cells None column = None
covering_in cells (Some r) None = None
covering_in cells (Some r) (Some c) = covering cells r c

-- the place of a cell's box, which is its own alone
abbrev pub cell_box_place : Option PlacedCell → Option ℕ
cell_box_place None = None
cell_box_place (Some placed) = Some placed.place

abbrev pub cell_element : Option PlacedCell → Option Element
cell_element None = None
cell_element (Some placed) = Some (record {
  place = placed.place;
  origin = origin.Cell;
  row = placed.cell.area.row;
  column = placed.cell.left;
})

-- the row with this number
abbrev pub row_with_number : ℕ → Option TableRow → Option Element
row_with_number r None = None
row_with_number r (Some row) = Some (record { place = row.place; origin = origin.Row; row = r; column = 0 })

abbrev pub row_element : TableParts → Option ℕ → Option Element
row_element p None = None
row_element p (Some r) = row_with_number r (slice_get p.rows r)

-- what each row stands in
abbrev pub row_groups : TableParts → List ℕ
row_groups p = map (λ row. row.group) p.rows

-- the row group of the row with this number, if it is in one
abbrev pub group_of : TableParts → ℕ → Option ℕ → Option Element
group_of p r None = None
group_of p r (Some group) =
    if is_row_group_kind (kind_at p.boxes group)
    then Some (record { place = group; origin = origin.RowGroup; row = first_of_run (row_groups p) r; column = 0 })
    else None

abbrev pub group_element : TableParts → Option ℕ → Option Element
group_element p None = None
group_element p (Some r) = group_of p r (slice_get (row_groups p) r)

-- the column with this number, if it has a box of its own kind
abbrev pub column_of : TableParts → ℕ → Option ℕ → Option Element
column_of p c None = None
column_of p c (Some k) =
    if is_column_kind (kind_at p.boxes k)
    then Some (record { place = k; origin = origin.Column; row = 0; column = c })
    else None

abbrev pub column_element : TableParts → Option ℕ → Option Element
column_element p None = None
column_element p (Some c) = column_of p c (slice_get p.column_boxes c)

-- what a column stands in: its box, where that is a column group, or else the parent of that
abbrev pub around_column : List BoxNode → ℕ → ℕ
around_column boxes k = if is_column_group_kind (kind_at boxes k) then k else box_parent boxes k

abbrev pub column_groups : TableParts → List ℕ
column_groups p = map (around_column p.boxes) p.column_boxes

-- the column group of the column with this number, if it is in one
abbrev pub column_group_of : TableParts → ℕ → Option ℕ → Option Element
column_group_of p c None = None
column_group_of p c (Some group) =
    if is_column_group_kind (kind_at p.boxes group)
    then Some (record { place = group; origin = origin.ColumnGroup; row = 0; column = first_of_run (column_groups p) c })
    else None

abbrev pub column_group_element : TableParts → Option ℕ → Option Element
column_group_element p None = None
column_group_element p (Some c) = column_group_of p c (slice_get (column_groups p) c)

abbrev pub table_element : TableParts → Option Element
table_element p = Some (record { place = p.table; origin = origin.Table; row = 0; column = 0 })

-- the borders of what is above an edge and of what is below it
abbrev pub above_and_below : TableParts → Option Element → Option Element → List Cand
above_and_below p above below = border_of p.boxes side.Bottom above ++ border_of p.boxes side.Top below

abbrev pub left_and_right : TableParts → Option Element → Option Element → List Cand
left_and_right p left right = border_of p.boxes side.Right left ++ border_of p.boxes side.Left right

-- the borders of the column with this number and of the table, at the upper or the lower rim
abbrev pub column_ends : TableParts → Side → ℕ → List Cand
column_ends p on c =
    border_of p.boxes on (column_element p (Some c))
    ++ (border_of p.boxes on (column_group_element p (Some c)) ++ border_of p.boxes on (table_element p))

-- the borders of the row with this number and of the table, at the left or the right rim
abbrev pub row_ends : TableParts → Side → ℕ → List Cand
row_ends p on r =
    border_of p.boxes on (row_element p (Some r))
    ++ (border_of p.boxes on (group_element p (Some r)) ++ border_of p.boxes on (table_element p))

abbrev pub unless : Bool → List Cand → List Cand
unless b borders = if b then [] else borders

abbrev pub where_so : Bool → List Cand → List Cand
where_so b borders = if b then borders else []

-- the row r and the one above it are in one group
abbrev pub is_inside_group : TableParts → ℕ → Bool
is_inside_group p r = are_one (item (row_groups p) (before r)) (item (row_groups p) (Some r))

abbrev pub is_inside_column_group : TableParts → ℕ → Bool
is_inside_column_group p c = are_one (item (column_groups p) (before c)) (item (column_groups p) (Some c))

-- the borders of rows and row groups above the row r
abbrev pub lines_above : TableParts → ℕ → List Cand
lines_above p r =
    above_and_below p (row_element p (before r)) (row_element p (Some r))
    ++ unless (is_inside_group p r) (above_and_below p (group_element p (before r)) (group_element p (Some r)))

-- those of columns, column groups and the table there
abbrev pub rim_above : TableParts → ℕ → ℕ → List Cand
rim_above p r c =
    where_so (r == 0) (column_ends p side.Top c) ++ where_so (r == length p.rows) (column_ends p side.Bottom c)

abbrev pub cells_above : TableParts → Option PlacedCell → Option PlacedCell → List Cand
cells_above p above below = above_and_below p (cell_element above) (cell_element below)

-- the borders that meet above the slot of the row r and the column c, or below that of the last row
abbrev pub meeting_above : TableParts → ℕ → ℕ → List Cand
meeting_above p r c =
    let above = covering_in p.cells (before r) (Some c) in
    let below = covering_in p.cells (among (length p.rows) r) (Some c) in
    unless (are_one (cell_box_place above) (cell_box_place below))
    (cells_above p above below ++ (lines_above p r ++ rim_above p r c))

-- the borders of columns and column groups on the left of the column c
abbrev pub lines_left : TableParts → ℕ → List Cand
lines_left p c =
    left_and_right p (column_element p (before c)) (column_element p (Some c))
    ++ unless (is_inside_column_group p c)
    (left_and_right p (column_group_element p (before c)) (column_group_element p (Some c)))

-- those of rows, row groups and the table there
abbrev pub rim_left : TableParts → ℕ → ℕ → List Cand
rim_left p r c =
    where_so (c == 0) (row_ends p side.Left r) ++ where_so (c == p.columns) (row_ends p side.Right r)

abbrev pub cells_left : TableParts → Option PlacedCell → Option PlacedCell → List Cand
cells_left p left right = left_and_right p (cell_element left) (cell_element right)

-- the borders that meet on the left of the slot of the row r and the column c, or on the right of that of the last column
abbrev pub meeting_left : TableParts → ℕ → ℕ → List Cand
meeting_left p r c =
    let left = covering_in p.cells (Some r) (before c) in
    let right = covering_in p.cells (Some r) (among p.columns c) in
    unless (are_one (cell_box_place left) (cell_box_place right))
    (cells_left p left right ++ (lines_left p c ++ rim_left p r c))

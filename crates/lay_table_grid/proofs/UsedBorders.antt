-- The borders that meet at an edge are used sizes wide.
use Rattle.std.proofs.Common.{◌≡◌, ℕ, zero, suc, ◌==◌, ℤ, Bool, true, false, Option, Some, None, List, [], ◌∷◌, ◌++◌, length, slice_get, subst}
use Rattle.std.specs.Prelude.{⊤}
use Rattle.lay_units.specs.Units.{IsUsedSize}
use Rattle.lay_sizes.proofs.SizesFit.{size_is_used, zero_is_size}
use Rattle.lay_style.specs.declared.style.Style.{Style}
use Rattle.lay_box_tree.specs.declared.box_tree.BoxNode.{BoxNode}
use Rattle.lay_borders.specs.declared.candidate.Cand.{Cand}
use Rattle.lay_borders.specs.Edges.{IsEdge}
use Rattle.lay_borders.specs.Halves.{drawn_width, edge_width}
use Rattle.lay_borders.specs.declared.candidate.BorderStyle.{BorderStyle}
use Rattle.lay_borders.specs.declared.candidate.BorderStyle.TheVariants as style
use Rattle.lay_table_grid.specs.TableParts.{TableParts}
use Rattle.lay_table_grid.specs.declared.elements.Element.{Element}
use Rattle.lay_table_grid.specs.declared.elements.Side.{Side}
use Rattle.lay_table_grid.specs.declared.elements.Side.TheVariants as side
use Rattle.lay_table_grid.specs.MeetingBorders.{above_and_below, among, are_one, before, border_of, border_of_box, cell_element, cells_above, cells_left, column_element, column_ends, column_group_element, covering_in, group_element, is_inside_column_group, is_inside_group, left_and_right, lines_above, lines_left, meeting_above, meeting_left, cell_box_place, rim_above, rim_left, row_element, row_ends, table_element, unless, where_so, width_on}
use Rattle.lay_table_grid.specs.Pass.UsedBorders.{AreUsed}

abbrev Used : List Cand → Type 0
Used [] = ⊤
Used (border ∷ borders) = IsUsedSize border.width.0 × Used borders

both : (xs ys : List Cand) → Used xs → Used ys → Used (xs ++ ys)
both [] ys p q = q
both (x ∷ xs) ys p q = (p.0, both xs ys p.1 q)

used_width : (on : Side) (s : Style) → IsUsedSize (width_on on s).0
used_width side.Top s = size_is_used s.border.width.top.0
used_width side.Right s = size_is_used s.border.width.right.0
used_width side.Bottom s = size_is_used s.border.width.bottom.0
used_width side.Left s = size_is_used s.border.width.left.0

in_box : (on : Side) (element : Element) (box : Option BoxNode) → Used (border_of_box on element box)
in_box on element None = tt
in_box on element (Some box) = (used_width on box.style, tt)

of_element : (boxes : List BoxNode) (on : Side) (element : Option Element) → Used (border_of boxes on element)
of_element boxes on None = tt
of_element boxes on (Some element) = in_box on element (slice_get boxes element.place)

stacked : (p : TableParts) (above below : Option Element) → Used (above_and_below p above below)
stacked p above below = both (border_of p.boxes side.Bottom above) (border_of p.boxes side.Top below) (of_element p.boxes side.Bottom above) (of_element p.boxes side.Top below)

abreast : (p : TableParts) (left right : Option Element) → Used (left_and_right p left right)
abreast p left right = both (border_of p.boxes side.Right left) (border_of p.boxes side.Left right) (of_element p.boxes side.Right left) (of_element p.boxes side.Left right)

three : (boxes : List BoxNode) (on : Side) (a b c : Option Element) → Used (border_of boxes on a ++ (border_of boxes on b ++ border_of boxes on c))
three boxes on a b c =
    both (border_of boxes on a) (border_of boxes on b ++ border_of boxes on c) (of_element boxes on a)
    (both (border_of boxes on b) (border_of boxes on c) (of_element boxes on b) (of_element boxes on c))

used_unless : (b : Bool) (borders : List Cand) → Used borders → Used (unless b borders)
used_unless true borders used = tt
used_unless false borders used = used

used_where : (b : Bool) (borders : List Cand) → Used borders → Used (where_so b borders)
used_where true borders used = used
used_where false borders used = tt

-- as slices have them
used_at : (borders : List Cand) → Used borders → AreUsed borders
used_at [] used k border at = absurd (cc (at))
used_at (x ∷ borders) used zero border at = let e : x ≡ border = cc in subst (λ (b : Cand). IsUsedSize b.width.0) e used.0
used_at (x ∷ borders) used (suc k) border at = used_at borders used.1 k border at

pub used_above : (p : TableParts) (r c : ℕ) → AreUsed (meeting_above p r c)
used_above p r c =
    let above = covering_in p.cells (before r) (Some c) in
    let below = covering_in p.cells (among (length p.rows) r) (Some c) in
    let group = above_and_below p (group_element p (before r)) (group_element p (Some r)) in
    let row = above_and_below p (row_element p (before r)) (row_element p (Some r)) in
    let lines = both row (unless (is_inside_group p r) group) (stacked p (row_element p (before r)) (row_element p (Some r)))
    (used_unless (is_inside_group p r) group (stacked p (group_element p (before r)) (group_element p (Some r)))) in
    let top = used_where (r == 0) (column_ends p side.Top c) (three p.boxes side.Top (column_element p (Some c)) (column_group_element p (Some c)) (table_element p)) in
    let bottom = used_where (r == length p.rows) (column_ends p side.Bottom c) (three p.boxes side.Bottom (column_element p (Some c)) (column_group_element p (Some c)) (table_element p)) in
    let rim = both (where_so (r == 0) (column_ends p side.Top c)) (where_so (r == length p.rows) (column_ends p side.Bottom c)) top bottom in
    let all = both (cells_above p above below) (lines_above p r ++ rim_above p r c) (stacked p (cell_element above) (cell_element below))
    (both (lines_above p r) (rim_above p r c) lines rim) in
    used_at (meeting_above p r c)
    (used_unless (are_one (cell_box_place above) (cell_box_place below)) (cells_above p above below ++ (lines_above p r ++ rim_above p r c)) all)

pub used_left : (p : TableParts) (r c : ℕ) → AreUsed (meeting_left p r c)
used_left p r c =
    let left = covering_in p.cells (Some r) (before c) in
    let right = covering_in p.cells (Some r) (among p.columns c) in
    let group = left_and_right p (column_group_element p (before c)) (column_group_element p (Some c)) in
    let column = left_and_right p (column_element p (before c)) (column_element p (Some c)) in
    let lines = both column (unless (is_inside_column_group p c) group) (abreast p (column_element p (before c)) (column_element p (Some c)))
    (used_unless (is_inside_column_group p c) group (abreast p (column_group_element p (before c)) (column_group_element p (Some c)))) in
    let first = used_where (c == 0) (row_ends p side.Left r) (three p.boxes side.Left (row_element p (Some r)) (group_element p (Some r)) (table_element p)) in
    let last = used_where (c == p.columns) (row_ends p side.Right r) (three p.boxes side.Right (row_element p (Some r)) (group_element p (Some r)) (table_element p)) in
    let rim = both (where_so (c == 0) (row_ends p side.Left r)) (where_so (c == p.columns) (row_ends p side.Right r)) first last in
    let all = both (cells_left p left right) (lines_left p c ++ rim_left p r c) (abreast p (cell_element left) (cell_element right))
    (both (lines_left p c) (rim_left p r c) lines rim) in
    used_at (meeting_left p r c)
    (used_unless (are_one (cell_box_place left) (cell_box_place right)) (cells_left p left right ++ (lines_left p c ++ rim_left p r c)) all)

drawn_used : (s : BorderStyle) (width : ℤ) → IsUsedSize width → IsUsedSize (drawn_width s width)
drawn_used style.None width used = zero_is_size
drawn_used style.Hidden width used = zero_is_size
drawn_used style.Dotted width used = used
drawn_used style.Dashed width used = used
drawn_used style.Solid width used = used
drawn_used style.Double width used = used
drawn_used style.Groove width used = used
drawn_used style.Ridge width used = used
drawn_used style.Inset width used = used
drawn_used style.Outset width used = used

pub edge_used : (borders : List Cand) (edge : Option Cand) → AreUsed borders → IsEdge borders edge → IsUsedSize (edge_width edge)
edge_used borders None used is = zero_is_size
edge_used borders (Some border) used is = let at = is.one_of in drawn_used border.style border.width.0 (used at.0 border at.1)

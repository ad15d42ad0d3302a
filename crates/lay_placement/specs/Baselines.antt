-- The baseline of the own box of a formatting context. With its last line an inline-block stands on a line (CSS 2.2, 10.8.1):
-- "The baseline of an 'inline-block' is the baseline of its last line box in the normal flow, unless it has either no in-flow
-- line boxes or if its 'overflow' property has a computed value other than 'visible', in which case the baseline is the bottom
-- margin edge." With its first one a cell stands in its row (17.5.3): "The baseline of a cell is the baseline of the first
-- in-flow line box in the cell, or the first in-flow table-row in the cell, whichever comes first." A line on which nothing is
-- seen is treated as not there (9.4.2), and what floats or is in another formatting context has lines of its own, which don't
-- count. Of those the rows of a block-level table in flow alone count for a cell. It is counted downward from the top border
-- edge of the own box.
use Rattle.std.specs.Prelude.{ℕ, zero, suc, ◌+ℤ◌, ◌&&◌, Bool, true, false, List, map}
use Rattle.std.specs.Prelude.{length, reverse, slice_index_or, Option, None, if◌then◌else◌}
use Rattle.std.specs.List.{find, flat_map}
use Rattle.std.specs.Option.{option_map, option_or}
use Rattle.lay_units.specs.declared.length.Unit.{Unit as Length}
use Rattle.lay_style.specs.declared.style_words.Overflow.{Overflow}
use Rattle.lay_style.specs.declared.style_words.Overflow.TheVariants as overflow
use Rattle.lay_style.specs.ComputedStyle.{style_at}
use Rattle.lay_box_tree.specs.declared.box_role.Role.{Role}
use Rattle.lay_box_tree.specs.declared.box_role.Role.TheVariants as role
use Rattle.lay_box_tree.specs.declared.box_tree.BoxKind.TheVariants as kind
use Rattle.lay_box_tree.specs.declared.box_tree.BoxNode.{BoxNode}
use Rattle.lay_box_tree.specs.BoxColumns.{box_styles}
use Rattle.lay_box_tree.specs.Kinds.{is_wrapper, is_cell_kind}
use Rattle.lay_box_tree.specs.Roles.{role_at}
use Rattle.lay_lines.specs.declared.row.Ended.{Ended}
use Rattle.lay_inlines.specs.LinePieces.{baseline_of}
use Rattle.lay_flow.specs.Blocks.FlowPlaces.{FlowPlacesValue, box_place_at}
use Rattle.lay_sizes.specs.OwnBoxes.{own_box_at}
use Rattle.lay_flow_boxes.specs.PlaceInputs.{PlaceInput}
use Rattle.lay_placement.specs.ContextPlaces.{rows_at}

-- the lines of a formatting context in document order
abbrev pub lines_in_order : FlowPlacesValue → List Ended
lines_in_order places = flat_map (λ rows. rows) places.lines

-- the last of these that is seen: the first one from the end
abbrev pub last_seen_row : List Ended → Option Ended
last_seen_row rows = find (λ row. row.seen) (reverse rows)

-- its baseline
abbrev pub last_baseline : List Ended → Option Length
last_baseline rows = option_map (λ row. record { 0 = baseline_of row }) (last_seen_row rows)

-- the baseline of the first of these that is seen
abbrev pub first_baseline : List Ended → Option Length
first_baseline rows = option_map (λ row. record { 0 = baseline_of row }) (find (λ row. row.seen) rows)

abbrev pub is_solid_role : Role → Bool
is_solid_role role.Solid = true
is_solid_role _ = false

-- the box at k is the wrapper of a block-level table in flow
abbrev pub is_table_in_flow : List BoxNode → ℕ → Bool
is_table_in_flow boxes k = is_solid_role (role_at boxes k) && slice_index_or (map (λ b. is_wrapper b.kind) boxes) k false

-- the baseline of its first row, which is that of its own box
abbrev pub table_baseline : PlaceInput → FlowPlacesValue → ℕ → Option Length
table_baseline i places k =
    option_map (λ b. record { 0 = (box_place_at places.boxes k).corner.y.0 +ℤ b.0 }) (own_box_at i.inner k).baseline

-- the baseline of the first line of the box at k that is seen, or of its first row
abbrev pub baseline_in : PlaceInput → FlowPlacesValue → ℕ → Option Length
baseline_in i places k = if is_table_in_flow i.boxes k then table_baseline i places k else first_baseline (rows_at places k)

-- the first of those of the first n boxes
abbrev pub first_baseline_to : PlaceInput → FlowPlacesValue → ℕ → Option Length
first_baseline_to i places zero = None
first_baseline_to i places (suc k) = option_or (first_baseline_to i places k) (baseline_in i places k)

abbrev pub is_visible : Overflow → Bool
is_visible overflow.Visible = true
is_visible _ = false

-- the own box is a table cell
abbrev pub is_of_cell : List BoxNode → Bool
is_of_cell boxes = slice_index_or (map (λ b. is_cell_kind b.kind) boxes) 0 false

-- the baseline of the own box, where it has another than its bottom edge
abbrev pub own_baseline : PlaceInput → FlowPlacesValue → Option Length
own_baseline i places =
    if is_of_cell i.boxes then first_baseline_to i places (length i.boxes)
    else (if is_visible (style_at (box_styles i.boxes) 0).overflow then last_baseline (lines_in_order places) else None)

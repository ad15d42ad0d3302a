-- The column groups that have a width, with the columns that they span (CSS 2.2, 17.5.2.2): "For each column group element with a
-- 'width' other than 'auto', increase the minimum widths of the columns it spans". A group spans the columns in it, or as many as
-- its `span` says, which stand next to each other.
--
-- A group with the `width` 200 over two columns behind a column of no group: it begins at the column 1 and spans 2.
use Rattle.std.specs.Prelude.{ℕ, suc, ◌+◌, ◌==◌, Bool, false, Option, Some, None, List, [], ◌∷◌, ◌++◌, map, slice_get, if◌then◌else◌}
use Rattle.lay_units.specs.declared.length.Unit.{Unit as Length}
use Rattle.lay_box_tree.specs.declared.box_tree.BoxNode.{BoxNode}
use Rattle.lay_grid.specs.declared.automatic.bounds.GroupSpan.{GroupSpan}
use Rattle.lay_table_grid.specs.MeetingBorders.{around_column}
use Rattle.lay_table_sizes.specs.GivenWidths.{group_width_of}

-- how many of these, from the first on, are this one
abbrev pub run_of : ℕ → List ℕ → ℕ
run_of group [] = 0
run_of group (g ∷ gs) = if g == group then suc (run_of group gs) else 0

-- this is what the column before stands in
abbrev pub goes_on : Option ℕ → ℕ → Bool
goes_on None group = false
goes_on (Some before) group = before == group

abbrev pub span_with : Option Length → (column span : ℕ) → List GroupSpan
span_with None column span = []
span_with (Some width) column span = record { column = column; span = span; width = width } ∷ []

-- the group that begins at this column, of which `groups` is what it and the columns behind it stand in
abbrev pub span_at : List BoxNode → (column : ℕ) → (before : Option ℕ) → (group : ℕ) → (groups : List ℕ) → List GroupSpan
span_at boxes column before group groups =
    if goes_on before group then [] else span_with (group_width_of (slice_get boxes group)) column (run_of group groups)

-- those that begin at this column or behind it
abbrev pub spans_from : List BoxNode → (column : ℕ) → (before : Option ℕ) → (groups : List ℕ) → List GroupSpan
spans_from boxes column before [] = []
spans_from boxes column before (group ∷ groups) =
    span_at boxes column before group (group ∷ groups) ++ spans_from boxes (column + 1) (Some group) groups

-- those of the columns for which the boxes at these places stand
abbrev pub group_spans : List BoxNode → List ℕ → List GroupSpan
group_spans boxes places = spans_from boxes 0 None (map (around_column boxes) places)

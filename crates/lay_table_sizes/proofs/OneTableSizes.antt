-- A table has one set of used sizes.
use Rattle.std.proofs.Common.{◌≡◌, ◌-ℤ◌, Bool, true, false, List, Option, None, Some, refl, sym, ap, subst, ◌∙◌, arith}
use Rattle.std.proofs.lemmas.List.{ext_get_or}
use Rattle.lay_units.specs.declared.length.Unit.{Unit as Length}
use Rattle.lay_style.specs.declared.style.Style.{Style}
use Rattle.lay_box_tree.specs.declared.box_tree.BoxNode.{BoxNode}
use Rattle.lay_widths.specs.declared.widths.BlockOut.{BlockOut}
use Rattle.lay_table_sizes.proofs.Cited.{held_same, one_block_width_lem, one_columns_lem, one_list_of_columns_lem}
use Rattle.lay_sizes.specs.BoxSizes.{widths_beside}
use Rattle.lay_sizes.specs.SizeColumns.{no_sizes}
use Rattle.lay_sizes.specs.declared.sizing.BoxSizes.{BoxSizes}
use Rattle.lay_sizes.specs.declared.sizing.ContainingBlock.{ContainingBlock}
use Rattle.lay_grid.specs.Columns.{AreColumns}
use Rattle.lay_grid.specs.Automatic.AutoColumns.{AreAutoColumns}
use Rattle.lay_table_sizes.specs.ColumnBounds.{greatest_content, least_content, spaces}
use Rattle.lay_table_sizes.specs.TableLayouts.{is_fixed}
use Rattle.lay_table_sizes.proofs.AutoWidths.{one_auto_width_lem}
use Rattle.lay_table_grid.specs.GridLaws.{OneTableGrid}
use Rattle.lay_table_grid.specs.TableGrid.{TableGridValue}
use Rattle.lay_table_sizes.specs.declared.cell_size.CellSize.{CellSize}
use Rattle.lay_table_sizes.specs.declared.table_rule.TableRule.{TableRule}
use Rattle.lay_table_sizes.specs.declared.table_rule.TableRule.TheVariants.{Block, ShrinkToFit}
use Rattle.lay_table_sizes.specs.CellSizes.{cell_size_at}
use Rattle.lay_table_sizes.specs.ColumnWidths.{columns_in}
use Rattle.lay_table_sizes.specs.Laws.{OneTableSizes}
use Rattle.lay_table_sizes.specs.TableBounds.{TableBoundsValue, bounds_of_columns}
use Rattle.lay_table_sizes.specs.TableBoxes.{table_block, style_of_table, wrapper_style}
use Rattle.lay_table_sizes.specs.TableSizes.{AreAutoWidths, AreTableWidthsAs, AreWrapperWidths, HasTableSizes, IsWrapperSized, held, wrapper_block, wrapper_width}
use Rattle.lay_table_sizes.specs.TableSizesValue.{TableSizesValue}
use Rattle.lay_table_sizes.specs.WantedWidth.{IsFixedWidth, length_of}
use Rattle.lay_table_sizes.proofs.OneCellSizes.{same_sizes}

one_fixed_width : (containing : Length) (boxes : List BoxNode) (g : TableGridValue) (x y : Length) → IsFixedWidth containing boxes g x → IsFixedWidth containing boxes g y → x ≡ y
one_fixed_width containing boxes g x y p q =
    let out = one_block_width_lem (table_block g containing (wrapper_style boxes) (style_of_table boxes g)) p.out q.out p.is_used q.is_used in
    p.wanted_is ∙ ap (λ (o : BlockOut). o.width) out ∙ sym q.wanted_is

one_auto_widths : (containing : Length) (boxes : List BoxNode) (g : TableGridValue) (t : TableBoundsValue) (x y : Length) (v w : List Length)
    → AreAutoWidths containing boxes g t x v → AreAutoWidths containing boxes g t y w → (x ≡ y) × (v ≡ w)
one_auto_widths containing boxes g t x y v w p q =
    let block = table_block g containing (wrapper_style boxes) (style_of_table boxes g) in
    let wanted = one_auto_width_lem block (length_of (least_content g t.columns)) (length_of (greatest_content g t.columns)) t.captions x y p.0 q.0 in
    let there : AreAutoColumns t.columns (y.0 -ℤ spaces g) v = subst (λ (u : Length). AreAutoColumns t.columns (u.0 -ℤ spaces g) v) wanted p.1 in
    (wanted, one_list_of_columns_lem t.columns (y.0 -ℤ spaces g) v w there q.1)

-- the table is to have one width, and its columns one list of widths
one_widths_as : (fixed : Bool) (containing : Length) (boxes : List BoxNode) (g : TableGridValue) (t : TableBoundsValue) (x y : Length) (v w : List Length)
    → AreTableWidthsAs fixed containing boxes g t x v → AreTableWidthsAs fixed containing boxes g t y w → (x ≡ y) × (v ≡ w)
one_widths_as true containing boxes g t x y v w p q =
    let wanted = one_fixed_width containing boxes g x y p.0 q.0 in
    let there : AreColumns (columns_in (Some y) boxes g y) v = subst (λ (u : Length). AreColumns (columns_in (Some u) boxes g u) v) wanted p.1 in
    (wanted, one_columns_lem (columns_in (Some y) boxes g y) v w there q.1)
one_widths_as false containing boxes g t x y v w p q =
    one_auto_widths containing boxes g (bounds_of_columns g.columns t) x y v w p q

abbrev out_of : Length → Length → Length → BlockOut
out_of left width right = record { margin_left = left; width = width; margin_right = right }

one_wrapper_width : (rule : TableRule) (containing : Length) (s : Style) (width : Length) (x y : BlockOut) → AreWrapperWidths rule containing s width x → AreWrapperWidths rule containing s width y → x ≡ y
one_wrapper_width Block containing s width x y p q = one_block_width_lem (wrapper_block containing s width) x y p q
one_wrapper_width ShrinkToFit containing s width x y p q = held_same (widths_beside (wrapper_block containing s width) width.0) x y p q

one_wrapper : (rule : TableRule) (containing : ContainingBlock) (s : Style) (table y z : BoxSizes) → IsWrapperSized rule containing s table y → IsWrapperSized rule containing s table z → y ≡ z
one_wrapper rule containing s table y z p q =
    same_sizes y z (p.containing_is ∙ sym q.containing_is) (one_wrapper_width rule containing.width s (wrapper_width table) y.widths z.widths p.widths q.widths)
    (p.edges ∙ sym q.edges) (p.margin_top ∙ sym q.margin_top) (p.margin_bottom ∙ sym q.margin_bottom)
    (p.height ∙ sym q.height) (p.min_height ∙ sym q.min_height) (p.max_height ∙ sym q.max_height)

abbrev value_of : TableGridValue → List Length → List (Option CellSize) → TableSizesValue
value_of g columns cells = record { grid = g; columns = columns; cells = cells }

-- two solutions with one grid
one_by_grid : (containing : ContainingBlock) (rule : TableRule) (bounds : TableBoundsValue) (boxes : List BoxNode) (x y : List BoxSizes) (g : TableGridValue) (v w : List Length) (cs ds : List (Option CellSize))
    → HasTableSizes containing rule bounds boxes x (value_of g v cs) → HasTableSizes containing rule bounds boxes y (value_of g w ds) → (x ≡ y) × (value_of g v cs ≡ value_of g w ds)
one_by_grid containing rule bounds boxes x y g v w cs ds p q =
    let both = one_widths_as (is_fixed (wrapper_style boxes)) containing.width boxes g bounds p.wanted q.wanted p.widths q.widths p.are_widths q.are_widths in
    let wanted : p.wanted ≡ q.wanted = both.0 in
    let widths : p.widths ≡ q.widths = both.1 in
    let columns : v ≡ w = p.columns ∙ ap held widths ∙ sym q.columns in
    let pc = p.cell_count in
    let cells : cs ≡ ds = ext_get_or None cs ds (p.cell_count ∙ sym q.cell_count) (λ k lt.
    p.cells k (omega (arith, pc, lt)) ∙ ap (λ (v : List Length). cell_size_at g.spacing.across v g.cells k) columns ∙ sym (q.cells k (omega (arith, pc, lt)))) in
    let table : p.table ≡ q.table = p.table_is ∙ rw (wanted, widths) refl ∙ sym q.table_is in
    let wrapped : IsWrapperSized rule containing (wrapper_style boxes) q.table p.wrapper = subst (λ (z : BoxSizes). IsWrapperSized rule containing (wrapper_style boxes) z p.wrapper) table p.wrapper_is in
    let wrapper : p.wrapper ≡ q.wrapper = one_wrapper rule containing (wrapper_style boxes) q.table p.wrapper q.wrapper wrapped q.wrapper_is in
    let counted = p.count in
    let sizes : x ≡ y = ext_get_or no_sizes x y (p.count ∙ sym q.count) (λ k lt.
    p.each k (omega (arith, counted, lt)) ∙ rw (wrapper, table) refl ∙ sym (q.each k (omega (arith, counted, lt)))) in
    (sizes, rw (columns, cells) refl)

pub one_table_sizes_lem : OneTableGrid → OneTableSizes
one_table_sizes_lem one_grid containing rule bounds boxes x y t u p q =
    let e : t.grid ≡ u.grid = one_grid boxes t.grid u.grid p.grid q.grid in
    let moved : HasTableSizes containing rule bounds boxes x (value_of u.grid t.columns t.cells) =
    subst (λ (g : TableGridValue). HasTableSizes containing rule bounds boxes x (value_of g t.columns t.cells)) e p in
    let same = one_by_grid containing rule bounds boxes x y u.grid t.columns u.columns t.cells u.cells moved q in
    let first : value_of t.grid t.columns t.cells ≡ value_of u.grid t.columns t.cells = ap (λ (g : TableGridValue). value_of g t.columns t.cells) e in
    (same.0, first ∙ same.1)

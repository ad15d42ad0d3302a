use Rattle.std.proofs.Common.{length, ap, ◌∙◌}
use Rattle.lay_table_sizes.proofs.sizing.table_sizes.Goals as goal

pub cells_of-requires : goal.cells_of-requires
cells_of-requires c =
    ap length c.as_slice-3.ensures.value ∙ c.in_ok-columns.ensures.count ∙ ap length c.as_slice-2.ensures ∙ c.in_ok-widths.ensures.count

pub new-requires : goal.new-requires
new-requires c = record {
  as_many = c.in_ok-columns.ensures.count ∙ ap length c.as_slice-2.ensures ∙ c.in_ok-widths.ensures.count;
  columns = c.in_ok-columns.ensures.sizes;
}

pub returns-clause-sizes : goal.returns-clause-sizes
returns-clause-sizes c =
    let made = c.in_ok-new.ensures in
    rw made (record {
      grid = c.in_ok-grid.ensures.grid;
      wanted = c.in_ok-widths.widths.wanted;
      widths = c.in_ok-widths.widths.columns;
      are_widths = c.in_ok-widths.ensures.widths;
      columns = rw c.as_slice-2.ensures at c.in_ok-columns.ensures.value;
      cell_count = c.in_ok-cells.ensures.count;
      cells = rw c.as_slice-3.ensures.value at c.in_ok-cells.ensures.cells;
      table = c.table_box-table.result;
      table_is = rw (c.style_of_box.ensures, c.table.ensures, c.in_ok-width.ensures.value, c.as_slice.ensures) at c.table_box-table.ensures.value;
      wrapper = c.wrapper_sizes-wrapper.result;
      wrapper_is = rw c.style_of_box-2.ensures at c.wrapper_sizes-wrapper.ensures.sized;
      count = c.in_ok-sizes.ensures.count;
      each = rw c.table-2.ensures at c.in_ok-sizes.ensures.each;
    })

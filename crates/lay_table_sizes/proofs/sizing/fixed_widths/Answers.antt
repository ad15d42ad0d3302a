use Rattle.std.proofs.Common.{Some}
use Rattle.lay_table_sizes.proofs.ColumnSteps.{columns_count}
use Rattle.lay_table_sizes.proofs.sizing.fixed_widths.Goals as goal

pub returns-clause-count : goal.returns-clause-count
returns-clause-count c =
    let wanted = c.fixed_width-wanted.result in
    let are = rw c.in_ok-columns.ensures.value at c.in_ok-columns_fixed.ensures in
    columns_count (Some wanted) c.args.boxes.now c.args.grid.now wanted c.in_ok-columns_fixed.field-0 are

use Rattle.lay_table_sizes.proofs.ColumnsFit.{columns_fit}
use Rattle.lay_table_sizes.proofs.column_widths.columns_in.Goals as goal

pub returns-clause-fits : goal.returns-clause-fits
returns-clause-fits c =
    let left = c.left_for_columns-left.ensures in
    let given = c.new.ensures in
    let given_is = c.in_ok-given.ensures in
    let first = c.new-2.ensures in
    let first_is = c.in_ok-first.ensures in
    let across = c.spacing.ensures.value in
    rw (given, given_is, first, first_is, across, left) (columns_fit c.args.table c.args.boxes.now c.args.grid.now c.args.wanted c.spacing.ensures.fits c.requires.few c.requires.wanted)

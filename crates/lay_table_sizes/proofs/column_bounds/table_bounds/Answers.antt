use Rattle.std.proofs.Common.{arith}
use Rattle.lay_table_sizes.proofs.BoundSteps.{bounds_fit}
use Rattle.lay_table_sizes.proofs.column_bounds.table_bounds.Goals as goal

pub group_spans-requires : goal.group_spans-requires
group_spans-requires c =
    let fits = c.spacing-spacing.ensures.fits.column_boxes in
    let few = c.requires.few in
    omega (arith, fits, few)

pub column_bounds-requires : goal.column_bounds-requires
column_bounds-requires c =
    let cells = rw c.in_ok-cells.ensures.cells at c.in_ok-cells.ensures.fit in
    rw (c.new.ensures, c.in_ok-given.ensures, c.new-2.ensures, c.in_ok-cells.ensures.cells, c.new-3.ensures, c.in_ok-groups.ensures, c.spacing-spacing.ensures.value)
    (bounds_fit c.args.boxes.now c.args.inner.now c.args.grid.now c.spacing-spacing.ensures.fits c.requires.few cells)

pub returns-clause-sizes : goal.returns-clause-sizes
returns-clause-sizes c =
    let cells = rw c.in_ok-cells.ensures.cells at c.in_ok-cells.ensures.fit in
    c.bounds_are_sizes.ensures _ c.in_ok-bounds.bounds
    (rw (c.new.ensures, c.in_ok-given.ensures, c.new-2.ensures, c.in_ok-cells.ensures.cells, c.new-3.ensures, c.in_ok-groups.ensures, c.spacing-spacing.ensures.value)
    (bounds_fit c.args.boxes.now c.args.inner.now c.args.grid.now c.spacing-spacing.ensures.fits c.requires.few cells))
    c.in_ok-bounds.ensures

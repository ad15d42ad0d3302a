use Rattle.std.proofs.Common.{◌≡◌, ◌+◌, ◌-◌, length, arith}
use Rattle.lay_table_sizes.proofs.CellSteps.{cells_step}
use Rattle.lay_table_sizes.proofs.cells.cells_of.Goals as goal

pub loop-done-preserved : goal.loop-done-preserved
loop-done-preserved c =
    let last = length c.cells-last.result.now in
    let done = c.loop-done.done in
    let more = c.loop-done-test.true in
    let next : last - done ≡ (last - (done + 1)) + 1 = omega (arith, more) in
    let from = rw next at c.loop-done.invariant in
    let place : last - 1 - done ≡ last - (done + 1) = omega (arith, more) in
    let at = rw place at c.cell_of-cell.ensures.at in
    let is = rw c.spacing.ensures.value at c.in_ok-size.ensures in
    let put = c.put_cell.ensures in
    cells_step c.args.grid.now.spacing.across c.args.columns.now c.args.grid.now.cells c.args.count (last - (done + 1)) c.loop-done.sizes.items c.put_cell.new.sizes.items c.cell_of-cell.result c.in_ok-size.size from at is put.count put.here put.others

use Rattle.std.proofs.Common.{◌≡◌, ◌+◌, ◌-◌, length, arith}
use Rattle.lay_table_sizes.proofs.CellSteps.{widths_same, widths_step}
use Rattle.lay_table_sizes.proofs.content_widths.content_widths.Goals as goal
use Rattle.lay_table_sizes.proofs.content_widths.content_widths.Goals.{then-cell-eq1+in_ok-of_cell, else-cell-eq1}

pub loop-done-preserved : goal.loop-done-preserved
loop-done-preserved c =
    let last = length c.cells-last.result.now in
    let done = c.loop-done.done in
    let more = c.loop-done-test.true in
    let next : last - done ≡ (last - (done + 1)) + 1 = omega (arith, more) in
    let from = rw next at c.loop-done.invariant in
    let place : last - 1 - done ≡ last - (done + 1) = omega (arith, more) in
    let at = rw place at c.cell_of-cell.ensures.at in
    elim c.if-cell-eq1.branch [
      | then-cell-eq1+in_ok-of_cell w ↦ (let put = w.put_wider.ensures in
          rw w.widths-is (widths_step c.args.boxes.now c.args.inner.now c.args.grid.now.cells c.args.grid.now.columns (last - (done + 1)) c.loop-done.widths.items w.put_wider.new.widths.items c.cell_of-cell.result w.in_ok-of_cell.of_cell
          from at w.if-cell-eq1.true w.in_ok-of_cell.ensures put.count put.here put.others))
      | else-cell-eq1 w ↦ rw w.widths-is (widths_same c.args.boxes.now c.args.inner.now c.args.grid.now.cells c.args.grid.now.columns (last - (done + 1)) c.loop-done.widths.items c.cell_of-cell.result
          from at w.if-cell-eq1.false)
    ]

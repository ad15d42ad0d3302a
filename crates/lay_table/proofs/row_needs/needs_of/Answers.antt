use Rattle.std.proofs.Common.{◌≡◌, ◌+◌, ◌++◌, suc, List, ap, ◌∙◌, arith}
use Rattle.lay_grid.specs.declared.heights.RowCell.{RowCell}
use Rattle.lay_table.specs.RowNeeds.{needs_of_cell}
use Rattle.lay_table.proofs.row_needs.needs_of.Goals as goal

pub loop-c-preserved : goal.loop-c-preserved
loop-c-preserved c =
    let pushed = c.in_ok-push_needs.ensures {u = tt} in
    let e : c.loop-c.c + 1 ≡ suc c.loop-c.c = omega arith in
    record {
      are = rw e (pushed.needs ∙ ap (λ (needs : List RowCell). needs ++ needs_of_cell c.args.input.now c.args.cells.now c.loop-c.c) c.loop-c.invariant.are);
      fit = pushed.fit;
    }

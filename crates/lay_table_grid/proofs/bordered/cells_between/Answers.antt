use Rattle.std.proofs.Common.{All, List, arith, length, subst, sym}
use Rattle.std.proofs.lemmas.Grind.{common_steps}
use Rattle.std.proofs.lemmas.List.Elements.{All-push}
use Rattle.lay_table_grid.specs.declared.grid.TableCell.{TableCell}
use Rattle.lay_table_grid.specs.GridBounds.{CellFits}
use Rattle.lay_table_grid.specs.TableGrid.{IsCollapsed}
use Rattle.lay_table_grid.proofs.bordered.cells_between.Goals as goal

pub loop-cell-preserved : goal.loop-cell-preserved
loop-cell-preserved c =
    let push = c.in_ok-push.ensures.items in
    let cell = c.in_ok-cell.ensures in
    record {
      placed = grind (arith, common_steps);
      borders = subst (λ (cells : List TableCell). All (IsCollapsed c.args.edges.now) cells) (sym push)
          (All-push (IsCollapsed c.args.edges.now) c.loop-cell.cells.items c.in_ok-cell.cell c.loop-cell.invariant.borders cell.borders);
      fit = subst (λ (cells : List TableCell). All (CellFits (length c.args.edges.now.rows) c.args.edges.now.columns) cells) (sym push)
          (All-push (CellFits (length c.args.edges.now.rows) c.args.edges.now.columns) c.loop-cell.cells.items c.in_ok-cell.cell c.loop-cell.invariant.fit cell.fits);
    }

use Rattle.std.proofs.Common.{All, subst}
use Rattle.lay_table_grid.specs.TableParts.{TableParts}
use Rattle.lay_table_grid.specs.TableGrid.{IsCollapsed}
use Rattle.lay_table_grid.proofs.bordered.collapsed_cells.Goals as goal

pub returns-clause-cells : goal.returns-clause-cells
returns-clause-cells c =
    subst (λ (p : TableParts). All (IsCollapsed p) c.in_ok-cells.cells.items) c.in_ok-edges.ensures c.in_ok-cells.ensures.borders

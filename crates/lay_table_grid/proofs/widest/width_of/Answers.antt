use Rattle.std.proofs.Common.{ℤ, subst, sym}
use Rattle.lay_units.specs.Units.{IsUsedSize}
use Rattle.lay_table_grid.proofs.UsedBorders.{edge_used}
use Rattle.lay_table_grid.proofs.widest.width_of.Goals as goal

pub returns-clause-size : goal.returns-clause-size
returns-clause-size c =
    subst (λ (w : ℤ). IsUsedSize w) (sym c.edge_width.ensures) (edge_used c.args.borders.now c.edge_border.result c.requires c.edge_border.ensures)

use Rattle.std.proofs.Common.{◌<◌, length, ap, ◌∙◌}
use Rattle.lay_table_grid.specs.TableParts.{TableParts}
use Rattle.lay_table_grid.specs.MeetingBorders.{covering, item}
use Rattle.lay_table_grid.proofs.CoveringCells.{covering_at}
use Rattle.lay_table_grid.proofs.edges.Edges.cell_at.Goals as goal

pub returns-clause-cell : goal.returns-clause-cell
returns-clause-cell c =
    let less : c.args.row < length c.self.inside.rows.now = rw (← c.self.view_is) at c.requires in
    let h = covering_at c.self.inside.cells.now (length c.self.inside.rows.now) c.args.row c.args.column c.self.inside.slots.items c.index.result.now c.self.invariant.lines.slots less c.index.ensures in
    c.picked.ensures.cell ∙ ap (item c.self.inside.cells.now) c.at.ensures ∙ h ∙ ap (λ (p : TableParts). covering p.cells c.args.row c.args.column) c.self.view_is

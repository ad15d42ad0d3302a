use Rattle.lay_table_sizes.proofs.Cited.{edge_is_inset}
use Rattle.lay_table_sizes.proofs.cell_boxes.cell_insets.Goals as goal

pub returns-clause-top : goal.returns-clause-top
returns-clause-top c = let e = c.edge_of.ensures in rw e (edge_is_inset c.args.containing.width c.args.cell.borders.top c.args.style.now.padding.top)

pub returns-clause-right : goal.returns-clause-right
returns-clause-right c = let e = c.edge_of-2.ensures in rw e (edge_is_inset c.args.containing.width c.args.cell.borders.right c.args.style.now.padding.right)
